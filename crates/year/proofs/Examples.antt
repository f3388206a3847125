-- Histories by computation: a refused run between two accepted ones, two histories with the same spent amounts, and
-- two with different ones that a later run tells apart. The expectations were calculated apart from the definitions,
-- from cumulative sums.
-- Assumes nothing.
use mathlib.Core.Path.{◌≡◌, refl}
use mathlib.Core.List.{List, [], ◌∷◌, ◌++◌, map}
use Prim.Native.Nat.{ℕ}
use Prim.Native.String.{String}
use lib.ListN.{replicate}
use Rattle.lists.specs.Places.{in_places}
use Rattle.arith.specs.Round.{rounded}
use Rattle.text.specs.Bytes.{bytes}
use Rattle.text.specs.Number.{printed_by, printed, digit_of, read_on, number}
use Rattle.text.specs.Template.{capital, filled, matched, whole_of, line_numbers}
use Rattle.text.specs.Lines.{lines_of}
use Rattle.treaty.specs.Treaty.{ceded_by_quota, ceded_by_surplus, ceded_of, cut_to_limit, ceded_of_loss}
use Rattle.treaty.specs.Losses.{ceded_in}
use Rattle.layer.specs.Layer.{placed_of, recovered_of, rated_of, premium_of, recovery_of, due_for, due_of, timed_part}
use Rattle.layer.specs.Layer.{timed_most, year_premium}
use Rattle.scale.specs.Scale.{day_share, time_shares, scale_passes}
use Rattle.answer.specs.Outcome.{fitted}
use Rattle.programme.specs.declared.contract.Programme.{Programme}
use Rattle.programme.specs.Contract.{contracts_in}
use Rattle.programme.specs.Ranges.{outside, treaty_outside, rates_outside, terms_outside, treaty_not_zero, terms_not_zero}
use Rattle.programme.specs.Rules.{treaty_fault, layer_fault}
use Rattle.programme.specs.Valid.{valid_treaties, valid_layers, valid}
use Rattle.table_text.specs.Forms.{kind_of, rates_text, layer_numbers, tail_time, layer_terms, form_of_kind, form_of}
use Rattle.table_text.specs.Read.{read_from, read_of}
use Rattle.events.specs.Event.{closes, losses_up_to, event_of, stated_in}
use Rattle.events.specs.Rules.{loss_outside, event_outside, lacking, event_fault}
use Rattle.events.specs.Read.{events_of, read_from as eventsFrom}
use Rattle.year.specs.declared.Standing.{Standing}
use Rattle.year.specs.Tiers.{TierName, risk, cat}
use Rattle.year.specs.Event.{subject_of}
use Rattle.year.specs.Statement.{statement_text}
use Rattle.year.specs.Standing.{fresh, standing_passes}
use Rattle.year.specs.Run.{run_by, run_from, run_under}
use Rattle.year.specs.Ledger.{Entry, recovery_added}
use Rattle.year.specs.History.{Call, Reply, replies_in, standing_of_history, statements_of, ledger_of_history, ends_on}
use Rattle.year.specs.History.{replies_after, spent_in, recovered_shown, last_shown, recoveries_in, recovered_in}
use Rattle.year.specs.History.{recoveries_of_tier, summed, events_of_history, gross_in, ceded_by_all}
use Rattle.year.proofs.Parts.{line_by_line}

-- a quota share with an event limit, a surplus, two risk layers and two catastrophe layers
abbrev table : List ℕ
table =
    bytes "(quota 1 (cede 4000) (capacity 0) (event 6000))\n"
    ++ bytes "(surplus 3 (retain 1000) (lines 3) (event 0))\n"
    ++ bytes "(risk (band 500 1000) (deduct 100) (back 3 800 5000 5000 5000) (placed 3333))\n"
    ++ bytes "(risk (band 1600 900) (deduct 0) (back 3 700 2000 2000 2000) (placed 9750))\n"
    ++ bytes "(cat (band 2000 3000) (deduct 500) (back 1 600 10000) (placed 7200))\n"
    ++ bytes "(cat (band 6000 2500) (deduct 0) (back 1 900 2500) (placed 9750))\n"

abbrev programme : Programme
programme = (read_of table).programme

-- a run of a text in a buffer of 600 bytes 7
abbrev call_of : List ℕ → Call
call_of s = record { text = s; buffer = replicate 600 7 }

abbrev call : String → Call
call s = call_of (bytes s)

-- Two events on one day. In the first the quota share's second loss comes after a loss of the surplus, and its 2,400
-- are cut to what 4,400 leave of the event limit; with the second event the limit is whole again.
abbrev first : Call
first =
    call_of
    (bytes "(event 20 (loss 1 9000 11000) (loss 3 2500 1700) (loss 1 9000 6000) (loss 0 700 700))\n"
    ++ bytes "(event 20 (loss 1 9000 6001))\n")

-- a day below the standing's
abbrev early : Call
early = call "(event 19 (loss 0 99999 99999))\n"

abbrev second : Call
second = call "(event 31 (loss 3 9000 5003) (loss 0 400 901))\n"

abbrev first_text : List ℕ
first_text =
    bytes "(event 20 (gross 19400) (ceded 7020) (risk 2515) (cat 4238) (net 5627) (premium 1156))\n"
    ++ bytes "(event 20 (gross 6001) (ceded 2400) (risk 1211) (cat 281) (net 2109) (premium 289))\n"
    ++ bytes "(treaty 1 (ceded 8400))\n(treaty 3 (ceded 1020))\n"
    ++ bytes "(layer risk 1 (deductible 0) (cover 720) (recovered 1093) (premium 400))\n"
    ++ bytes "(layer risk 2 (deductible 0) (cover 900) (recovered 2633) (premium 410))\n"
    ++ bytes "(layer cat 1 (deductible 0) (cover 3110) (recovered 2081) (premium 416))\n"
    ++ bytes "(layer cat 2 (deductible 0) (cover 2500) (recovered 2438) (premium 219))\n"
    ++ bytes "(total (gross 25401) (ceded 9420) (risk 3726) (cat 4519) (net 7736) (premium 1445))\n"

abbrev second_text : List ℕ
second_text =
    bytes "(event 31 (gross 5904) (ceded 1668) (risk 1117) (cat 805) (net 2314) (premium 16))\n"
    ++ bytes "(treaty 1 (ceded 0))\n(treaty 3 (ceded 1668))\n"
    ++ bytes "(layer risk 1 (deductible 0) (cover 0) (recovered 1333) (premium 400))\n"
    ++ bytes "(layer risk 2 (deductible 0) (cover 0) (recovered 3510) (premium 410))\n"
    ++ bytes "(layer cat 1 (deductible 0) (cover 1991) (recovered 2886) (premium 432))\n"
    ++ bytes "(layer cat 2 (deductible 0) (cover 2500) (recovered 2438) (premium 219))\n"
    ++ bytes "(total (gross 5904) (ceded 1668) (risk 1117) (cat 805) (net 2314) (premium 16))\n"

abbrev answered : (refusal number : ℕ) → List ℕ → Reply
answered n w d = record { answer = record { refusal = n; number = w }; buffer = d }

abbrev history : List Call
history = first ∷ early ∷ second ∷ []

-- one loss above all bands, and a greater one
abbrev large : List Call
large = call "(event 9 (loss 0 20000 20000))\n" ∷ []

abbrev larger : List Call
larger = call "(event 9 (loss 0 30000 30000))\n" ∷ []

-- one loss, and one of a cent more
abbrev small : List Call
small = call "(event 9 (loss 0 20000 3500))\n" ∷ []

abbrev a_cent_more : List Call
a_cent_more = call "(event 9 (loss 0 20000 3501))\n" ∷ []

-- a standing without timed premiums
abbrev pub standing : (risk cat : List ℕ) (day : ℕ) → Standing
standing r c d = record {
  risk = in_places 0 r;
  cat = in_places 0 c;
  day = d;
  risk_timed = in_places 0 [];
  cat_timed = in_places 0 [];
}

-- the statement of an empty text after one loss above the risk bands, with the catastrophe layers' lines
abbrev without_events : (cat1 cat2 : String) → List ℕ
without_events s u =
    bytes "(treaty 1 (ceded 0))\n(treaty 3 (ceded 0))\n"
    ++ bytes "(layer risk 1 (deductible 0) (cover 3100) (recovered 300) (premium 120))\n"
    ++ bytes "(layer risk 2 (deductible 0) (cover 2700) (recovered 878) (premium 137))\n"
    ++ bytes s
    ++ bytes u
    ++ bytes "(total (gross 0) (ceded 0) (risk 0) (cat 0) (net 0) (premium 0))\n"

abbrev large_text : List ℕ
large_text =
    without_events
    "(layer cat 1 (deductible 0) (cover 3500) (recovered 1800) (premium 360))\n"
    "(layer cat 2 (deductible 0) (cover 2500) (recovered 2438) (premium 219))\n"

abbrev small_text : List ℕ
small_text =
    without_events
    "(layer cat 1 (deductible 178) (cover 6000) (recovered 0) (premium 0))\n"
    "(layer cat 2 (deductible 0) (cover 5000) (recovered 0) (premium 0))\n"

abbrev a_cent_more_text : List ℕ
a_cent_more_text =
    without_events
    "(layer cat 1 (deductible 177) (cover 6000) (recovered 0) (premium 0))\n"
    "(layer cat 2 (deductible 0) (cover 5000) (recovered 0) (premium 0))\n"

pub record Examples : Type 0 where
  -- a history with a refused run between two accepted ones: results, bytes, standing, ledger and sums
  pub replies : replies_in time_shares programme fresh history
      ≡ answered 0 595 (first_text ++ replicate 5 7)
      ∷ answered 13 1 (replicate 600 7)
      ∷ answered 0 496 (second_text ++ replicate 104 7) ∷ []
  pub unmoved : standing_of_history time_shares programme (first ∷ early ∷ [])
      ≡ standing (3380 ∷ 2700 ∷ []) (3390 ∷ 2500 ∷ []) 20
  pub left : standing_of_history time_shares programme history ≡ standing (4100 ∷ 3600 ∷ []) (4509 ∷ 2500 ∷ []) 31
  pub uncut : map (λ (e : Entry). e.losses) (ledger_of_history time_shares programme history).risk ≡ 4781 ∷ 3600 ∷ []
  pub cut_off : spent_in (ledger_of_history time_shares programme history).risk ≡ 4100 ∷ 3600 ∷ []
  pub recoveries : recoveries_in (ledger_of_history time_shares programme history).cat ≡ 2886 ∷ 2438 ∷ []
  pub sums : summed (statements_of time_shares programme history)
      ≡ record { gross = 31305; ceded = 11088; risk = 4843; cat = 5324; net = 10050; premium = 1461 }
  pub gross : gross_in (events_of_history time_shares programme history) ≡ 31305
  pub ceded : ceded_by_all (contracts_in programme).treaties (events_of_history time_shares programme history) ≡ 11088
  pub ends : ends_on time_shares programme history ≡ 31
  -- on day 0 without an event: no run, an empty text, a refused one
  pub ends_on_0 : map (ends_on time_shares programme) ([] ∷ (call "" ∷ []) ∷ (call "(event 367)\n" ∷ []) ∷ [])
      ≡ 0 ∷ 0 ∷ 0 ∷ []
  -- what each layer has recovered: by its line in the last statement, by the ledger's sums, from its spent amount
  pub shown-risk : last_shown (recovered_shown risk) (0 ∷ 0 ∷ []) (statements_of time_shares programme history)
      ≡ 1333 ∷ 3510 ∷ []
  pub shown-cat : last_shown (recovered_shown cat) (0 ∷ 0 ∷ []) (statements_of time_shares programme history)
      ≡ 2886 ∷ 2438 ∷ []
  pub shown_without : last_shown (recovered_shown cat) (0 ∷ 0 ∷ []) (statements_of time_shares programme []) ≡ 0 ∷ 0 ∷ []
  pub recoveries-risk : recoveries_in (ledger_of_history time_shares programme history).risk ≡ 1333 ∷ 3510 ∷ []
  pub recovered-risk : recovered_in (ledger_of_history time_shares programme history).risk ≡ 1333 ∷ 3510 ∷ []
  -- what each tier has recovered
  pub tiers :
      map (λ (n : TierName). recoveries_of_tier n (summed (statements_of time_shares programme history))) (risk ∷ cat ∷ [])
      ≡ 4843 ∷ 5324 ∷ []
  -- the treaties' lines of both statements, added line by line
  pub treaties-added :
      line_by_line (record { number = 1; ceded = 8400 } ∷ record { number = 3; ceded = 1020 } ∷ [])
      (record { number = 1; ceded = 0 } ∷ record { number = 3; ceded = 1668 } ∷ [])
      ≡ record { number = 1; ceded = 8400 } ∷ record { number = 3; ceded = 2688 } ∷ []
  -- an empty text keeps the last day
  pub kept : standing_of_history time_shares programme (first ∷ call "" ∷ [])
      ≡ standing (3380 ∷ 2700 ∷ []) (3390 ∷ 2500 ∷ []) 20
  -- two different histories with the same spent amounts, and a later run that is answered alike
  pub same : standing_of_history time_shares programme large ≡ standing (1000 ∷ 900 ∷ []) (3000 ∷ 2500 ∷ []) 9
  pub same_too : standing_of_history time_shares programme larger ≡ standing (1000 ∷ 900 ∷ []) (3000 ∷ 2500 ∷ []) 9
  pub alike : replies_after time_shares programme large (call "" ∷ [])
      ≡ answered 0 399 (large_text ++ replicate 201 7) ∷ []
  pub alike_too : replies_after time_shares programme larger (call "" ∷ [])
      ≡ answered 0 399 (large_text ++ replicate 201 7) ∷ []
  -- two histories with different ones, and the later run that tells them apart
  pub told : replies_after time_shares programme small (call "" ∷ [])
      ≡ answered 0 391 (small_text ++ replicate 209 7) ∷ []
  pub told-apart : replies_after time_shares programme a_cent_more (call "" ∷ [])
      ≡ answered 0 391 (a_cent_more_text ++ replicate 209 7) ∷ []
  -- histories that end on days 0 and 1 are answered alike by the first day that can be run
  pub day_0_or_1 : replies_after time_shares programme [] (call "(event 1 (loss 0 1 9))\n" ∷ [])
      ≡ replies_after time_shares programme (call "(event 1)\n" ∷ []) (call "(event 1 (loss 0 1 9))\n" ∷ [])

pub examples : Examples
unfolding
    rounded printed_by printed digit_of read_on number capital filled matched whole_of line_numbers lines_of ceded_by_quota
    ceded_by_surplus ceded_of cut_to_limit ceded_of_loss placed_of recovered_of rated_of premium_of recovery_of due_for due_of
    timed_part timed_most year_premium kind_of rates_text layer_numbers tail_time layer_terms form_of_kind form_of outside
    treaty_outside rates_outside terms_outside treaty_not_zero terms_not_zero treaty_fault layer_fault read_from read_of
    valid_treaties valid_layers valid closes losses_up_to event_of stated_in loss_outside event_outside lacking event_fault
    events_of eventsFrom ceded_in subject_of statement_text standing_passes fitted day_share time_shares
    scale_passes run_by run_from run_under recovery_added
examples = record {
  replies = refl;
  unmoved = refl;
  left = refl;
  uncut = refl;
  cut_off = refl;
  recoveries = refl;
  sums = refl;
  gross = refl;
  ceded = refl;
  ends = refl;
  ends_on_0 = refl;
  shown-risk = refl;
  shown-cat = refl;
  shown_without = refl;
  recoveries-risk = refl;
  recovered-risk = refl;
  tiers = refl;
  treaties-added = refl;
  kept = refl;
  same = refl;
  same_too = refl;
  alike = refl;
  alike_too = refl;
  told = refl;
  told-apart = refl;
  day_0_or_1 = refl;
}
