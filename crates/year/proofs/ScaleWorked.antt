-- Document 02, Q-12, worked by hand: one table under scales of a client's own, with (time) and without it, and the
-- scales that a run refuses.
-- Assumes nothing.
use mathlib.Core.Path.{◌≡◌, refl}
use mathlib.Core.List.{List, [], ◌∷◌, ◌++◌}
use Prim.Native.Nat.{ℕ}
use Prim.Native.String.{String}
use lib.ListN.{replicate}
use Rattle.arith.specs.Round.{rounded}
use Rattle.text.specs.Bytes.{bytes}
use Rattle.text.specs.Number.{printed_by, printed, digit_of, read_on, number}
use Rattle.text.specs.Template.{capital, filled, matched, whole_of, line_numbers}
use Rattle.text.specs.Lines.{lines_of}
use Rattle.treaty.specs.Treaty.{ceded_of_loss, ceded_of, cut_to_limit}
use Rattle.treaty.specs.Losses.{ceded_in}
use Rattle.layer.specs.Layer.{terms_of, placed_of, recovered_of, rated_of, premium_of, recovery_of}
use Rattle.layer.specs.Layer.{due_for, due_of, timed_part, timed_most, year_premium}
use Rattle.scale.specs.Scale.{day_share, time_shares, scale_passes}
use Rattle.answer.specs.Outcome.{refused, fitted, buffer_after}
use Rattle.programme.specs.declared.contract.Programme.{Programme}
use Rattle.programme.specs.Contract.{programme_of}
use Rattle.programme.specs.Ranges.{outside, treaty_outside, rates_outside, terms_outside, treaty_not_zero, terms_not_zero}
use Rattle.programme.specs.Rules.{treaty_fault, layer_fault}
use Rattle.programme.specs.Valid.{valid_treaties, valid_layers, valid}
use Rattle.table_text.specs.Forms.{kind_of, rates_text, layer_numbers, tail_time, layer_terms, form_of_kind, form_of}
use Rattle.table_text.specs.Read.{read_from, read_of}
use Rattle.events.specs.Event.{closes, losses_up_to, event_of, stated_in}
use Rattle.events.specs.Rules.{loss_outside, event_outside, lacking, event_fault}
use Rattle.events.specs.Read.{events_of, read_from as eventsFrom}
use Rattle.year.specs.declared.Standing.{Standing}
use Rattle.year.specs.Event.{subject_of}
use Rattle.year.specs.Statement.{statement_text}
use Rattle.year.specs.Standing.{fresh, standing_passes}
use Rattle.year.specs.Run.{run_by, run_from, run_under, standing_after}
use Rattle.year.specs.Ledger.{recovery_added, due_added}
use Rattle.year.specs.History.{Call, standing_of_history, statements_of, events_of_history, ledger_of_history, summed}
use Rattle.year.specs.History.{timed_in, replies_in}
use Rattle.year.proofs.NoTime.{without_time}

-- a catastrophe layer with (time), and the same table without it: the amount premium of a loss of 500,000 is half of
-- 365,000, which is 182,500
abbrev timed : Programme
timed = (read_of (bytes "(cat (band 0 1000000) (deduct 0) (back 1 365000 10000) (placed 10000) (time))\n")).programme

abbrev plain : Programme
plain = (read_of (bytes "(cat (band 0 1000000) (deduct 0) (back 1 365000 10000) (placed 10000))\n")).programme

-- a risk layer with (time), and two events of one run: two losses of 250,000 on day 184, one of 500,000 on day 185
abbrev timed_risk_table : Programme
timed_risk_table = (read_of (bytes "(risk (band 0 1000000) (deduct 0) (back 1 365000 10000) (placed 10000) (time))\n")).programme

abbrev two_events : List ℕ
two_events = bytes "(event 184 (loss 0 1 250000) (loss 0 1 250000))\n(event 185 (loss 0 1 500000))\n"

-- bands that overlap by a cent
abbrev overlapping : Programme
overlapping = programme_of (record {
  treaties = [];
  risk = terms_of 50 50 0 0 0 [] 7200 0 ∷ terms_of 99 1 0 0 0 [] 7200 0 ∷ [];
  cat = [];
})

-- the scale of the whole on each day, and that of nothing
abbrev whole : List ℕ
whole = replicate 366 10000

abbrev nothing : List ℕ
nothing = replicate 366 0

-- a short-period scale: the whole up to day 183, 66.67% on day 184, 33.33% from day 185 on
abbrev short_period : List ℕ
short_period = replicate 183 10000 ++ (6667 ∷ replicate 182 3333)

-- the text of a loss of 500,000 on a day, and what a run of it from a fresh year writes
abbrev loss_on : (day : String) → List ℕ
loss_on d = bytes "(event " ++ bytes d ++ bytes " (loss 0 1 500000))\n"

abbrev written_on : (day : String) → (shares : List ℕ) → Programme → List ℕ
written_on d shares p = buffer_after (run_under shares p fresh (loss_on d) 400) []

-- a statement of it with this premium on each line
abbrev shown : (day premium : String) → List ℕ
shown d n =
    bytes "(event " ++ bytes d
    ++ bytes " (gross 500000) (ceded 0) (risk 0) (cat 500000) (net 0) (premium " ++ bytes n
    ++ bytes "))\n(layer cat 1 (deductible 0) (cover 1500000) (recovered 500000) (premium " ++ bytes n
    ++ bytes "))\n(total (gross 500000) (ceded 0) (risk 0) (cat 500000) (net 0) (premium " ++ bytes n ++ bytes "))\n"

-- losses on two days in two runs
abbrev two_runs : (first second : String) → List Call
two_runs a b =
    record { text = loss_on a; buffer = replicate 400 7 } ∷ record { text = loss_on b; buffer = replicate 400 7 } ∷ []

-- a standing on a day with one catastrophe layer: what is spent and what is timed
abbrev held : (spent timed day : ℕ) → Standing
held m n d = record {
  risk = 0 ∷ 0 ∷ 0 ∷ 0 ∷ 0 ∷ 0 ∷ 0 ∷ 0 ∷ [];
  cat = m ∷ 0 ∷ 0 ∷ 0 ∷ 0 ∷ 0 ∷ 0 ∷ 0 ∷ [];
  day = d;
  risk_timed = 0 ∷ 0 ∷ 0 ∷ 0 ∷ 0 ∷ 0 ∷ 0 ∷ 0 ∷ [];
  cat_timed = n ∷ 0 ∷ 0 ∷ 0 ∷ 0 ∷ 0 ∷ 0 ∷ 0 ∷ [];
}

-- a run that is refused with 28, whatever the text and the buffer are: before 9, before the lines and before 7
abbrev Refused : (shares : List ℕ) → Programme → Type 0
Refused shares p = (text : List ℕ) (room : ℕ) → run_under shares p fresh text room ≡ refused 28 0

pub record ByScale : Type 0 where
  -- 182,500 × 6,667 / 10,000 is 121,672.75 and 182,500 × 3,333 / 10,000 is 60,827.25, each to the nearest cent
  pub whole_day_1 : written_on "1" whole timed ≡ shown "1" "182500"
  pub whole_day_184 : written_on "184" whole timed ≡ shown "184" "182500"
  pub whole_day_366 : written_on "366" whole timed ≡ shown "366" "182500"
  pub none_day_1 : written_on "1" nothing timed ≡ shown "1" "0"
  pub none_day_184 : written_on "184" nothing timed ≡ shown "184" "0"
  pub short_day_183 : written_on "183" short_period timed ≡ shown "183" "182500"
  pub short_day_184 : written_on "184" short_period timed ≡ shown "184" "121673"
  pub short_day_185 : written_on "185" short_period timed ≡ shown "185" "60827"
  pub short_day_366 : written_on "366" short_period timed ≡ shown "366" "60827"
  -- a scale may fall from the whole to nothing at once: the first share is that of day 1
  pub falls_day_1 : written_on "1" (10000 ∷ replicate 365 0) timed ≡ shown "1" "182500"
  pub falls_day_2 : written_on "2" (10000 ∷ replicate 365 0) timed ≡ shown "2" "0"
  -- without (time) no scale matters
  pub same-table : without_time timed ≡ plain
  pub plain_built_in : written_on "184" time_shares plain ≡ shown "184" "182500"
  pub plain-whole : written_on "184" whole plain ≡ shown "184" "182500"
  pub plain-none : written_on "184" nothing plain ≡ shown "184" "182500"
  -- "Timed premium in .. the plain ledger then uses it": 182,500 and 121,673; twice 60,827, where both losses at once
  -- would be 121,654.5
  pub standing : standing_of_history short_period timed (two_runs "183" "184") ≡ held 1000000 304173 184
  pub entries : timed_in (ledger_of_history short_period timed (two_runs "183" "184")).cat ≡ 304173 ∷ []
  pub later : standing_of_history short_period timed (two_runs "185" "200") ≡ held 1000000 121654 200
  pub later-entries : timed_in (ledger_of_history short_period timed (two_runs "185" "200")).cat ≡ 121654 ∷ []
  pub none_kept : timed_in (ledger_of_history nothing timed (two_runs "1" "2")).cat ≡ 0 ∷ []
  pub whole-kept : timed_in (ledger_of_history whole timed (two_runs "1" "366")).cat ≡ 365000 ∷ []
  -- a risk layer charges each loss by itself and each event by its day: 91,250 × 6,667 / 10,000 is 60,836.375, twice
  -- 60,836, and then 60,827
  pub risk-written : buffer_after (run_under short_period timed_risk_table fresh two_events 400) []
      ≡ bytes "(event 184 (gross 500000) (ceded 0) (risk 500000) (cat 0) (net 0) (premium 121672))\n"
      ++ bytes "(event 185 (gross 500000) (ceded 0) (risk 500000) (cat 0) (net 0) (premium 60827))\n"
      ++ bytes "(layer risk 1 (deductible 0) (cover 1000000) (recovered 1000000) (premium 182499))\n"
      ++ bytes "(total (gross 1000000) (ceded 0) (risk 1000000) (cat 0) (net 0) (premium 182499))\n"
  pub risk-entries : timed_in
      (ledger_of_history short_period timed_risk_table (record { text = two_events; buffer = replicate 400 7 } ∷ [])).risk
      ≡ 182499 ∷ []
  -- statements and answers of a history are by its scale; runs by shares that are none leave no events
  pub statements : (summed (statements_of short_period timed (two_runs "183" "184"))).premium ≡ 304173
  pub replies : replies_in short_period timed fresh (record { text = loss_on "184"; buffer = replicate 246 35 } ∷ [])
      ≡ record { answer = record { refusal = 0; number = 245 }; buffer = shown "184" "121673" ++ (35 ∷ []) } ∷ []
  pub none_fed : events_of_history [] timed (two_runs "183" "184") ≡ []
  -- a share too few, a share too many, none
  pub short : Refused (replicate 365 10000) timed
  pub long : Refused (replicate 367 0) timed
  pub empty : Refused [] timed
  -- a share above the whole, the first and all of them
  pub above : Refused (10001 ∷ replicate 365 10000) timed
  pub all_above : Refused (replicate 366 10001) timed
  -- a share that rises, the last and the second
  pub last_rises : Refused (replicate 365 7201 ++ (7202 ∷ [])) timed
  pub second_rises : Refused (0 ∷ 1 ∷ replicate 364 0) timed
  -- so it is without (time)
  pub plain-short : Refused (replicate 365 0) plain
  pub plain-above : Refused (10001 ∷ replicate 365 10000) plain
  pub plain_rises : Refused (replicate 365 7201 ++ (7202 ∷ [])) plain
  -- 8 before 28: a day past 366, and a timed premium where nothing is spent
  pub standing-day : (text : List ℕ) (room : ℕ)
      → run_under (replicate 365 0) timed (held 0 0 367) text room ≡ refused 8 0
  pub standing-timed : (text : List ℕ) (room : ℕ)
      → run_under (replicate 366 10001) timed (held 0 1 0) text room ≡ refused 8 0
  -- 6 before 8 and before 28
  pub programme-first : (text : List ℕ) (room : ℕ)
      → run_under (replicate 365 0) overlapping (held 0 0 367) text room ≡ refused 6 0
  pub programme-scale : (text : List ℕ) (room : ℕ)
      → run_under [] overlapping fresh text room ≡ refused 6 0
  -- a run refused with 28 leaves the standing as lent
  pub left : (text : List ℕ) (room : ℕ) → run_under [] timed (held 500000 1 9) text room ≡ refused 28 0
  pub left-standing : (text : List ℕ) (room : ℕ)
      → standing_after (run_under [] timed (held 500000 1 9) text room) (held 500000 1 9) ≡ held 500000 1 9

pub by-scale : ByScale
unfolding
    rounded printed_by printed digit_of read_on number capital filled matched whole_of line_numbers lines_of ceded_of
    cut_to_limit ceded_of_loss ceded_in placed_of recovered_of rated_of premium_of recovery_of due_for due_of timed_part
    timed_most year_premium day_share time_shares kind_of rates_text layer_numbers tail_time layer_terms form_of_kind form_of
    outside treaty_outside rates_outside terms_outside treaty_not_zero terms_not_zero treaty_fault layer_fault read_from
    read_of valid_treaties valid_layers valid closes losses_up_to event_of stated_in loss_outside event_outside lacking
    event_fault events_of eventsFrom subject_of statement_text standing_passes fitted scale_passes run_by run_from run_under
    recovery_added due_added without_time
by-scale = record {
  whole_day_1 = refl;
  whole_day_184 = refl;
  whole_day_366 = refl;
  none_day_1 = refl;
  none_day_184 = refl;
  short_day_183 = refl;
  short_day_184 = refl;
  short_day_185 = refl;
  short_day_366 = refl;
  falls_day_1 = refl;
  falls_day_2 = refl;
  same-table = refl;
  plain_built_in = refl;
  plain-whole = refl;
  plain-none = refl;
  standing = refl;
  entries = refl;
  later = refl;
  later-entries = refl;
  none_kept = refl;
  whole-kept = refl;
  risk-written = refl;
  risk-entries = refl;
  statements = refl;
  replies = refl;
  none_fed = refl;
  short = λ text room. refl;
  long = λ text room. refl;
  empty = λ text room. refl;
  above = λ text room. refl;
  all_above = λ text room. refl;
  last_rises = λ text room. refl;
  second_rises = λ text room. refl;
  plain-short = λ text room. refl;
  plain-above = λ text room. refl;
  plain_rises = λ text room. refl;
  standing-day = λ text room. refl;
  standing-timed = λ text room. refl;
  programme-first = λ text room. refl;
  programme-scale = λ text room. refl;
  left = λ text room. refl;
  left-standing = λ text room. refl;
}
