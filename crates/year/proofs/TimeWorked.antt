-- Document 02, Q-4, worked by hand: premiums by amount and time in events, in two runs, by the ledger and in a
-- standing, and the standings that are refused for a timed premium.
-- Assumes nothing.
use mathlib.Core.Path.{◌≡◌, refl}
use mathlib.Core.List.{List, [], ◌∷◌, ◌++◌, map}
use Prim.Native.Nat.{ℕ}
use Prim.Native.String.{String}
use lib.ListN.{replicate}
use Rattle.arith.specs.Round.{rounded}
use Rattle.text.specs.Bytes.{bytes}
use Rattle.text.specs.Number.{printed_by, printed, digit_of, read_on, number}
use Rattle.text.specs.Template.{capital, filled, matched, whole_of, line_numbers}
use Rattle.text.specs.Lines.{lines_of}
use Rattle.treaty.specs.Treaty.{loss_of, ceded_of_loss, ceded_of, cut_to_limit}
use Rattle.treaty.specs.Losses.{ceded_in}
use Rattle.layer.specs.declared.terms.Terms.{Terms}
use Rattle.layer.specs.Layer.{terms_of, layer_of, placed_of, recovered_of, rated_of, premium_of, recovery_of}
use Rattle.layer.specs.Layer.{due_for, due_of, timed_part, timed_most, year_premium}
use Rattle.scale.specs.Scale.{day_share, time_shares, scale_passes}
use Rattle.answer.specs.Outcome.{fitted, answer_of}
use Rattle.programme.specs.declared.contract.Programme.{Programme}
use Rattle.programme.specs.Contract.{Contracts}
use Rattle.programme.specs.Ranges.{outside, treaty_outside, rates_outside, terms_outside, treaty_not_zero, terms_not_zero}
use Rattle.programme.specs.Rules.{treaty_fault, layer_fault}
use Rattle.programme.specs.Valid.{valid_treaties, valid_layers, valid}
use Rattle.table_text.specs.Forms.{kind_of, rates_text, layer_numbers, tail_time, layer_terms, form_of_kind, form_of}
use Rattle.table_text.specs.Read.{read_from, read_of}
use Rattle.events.specs.Event.{Event, closes, losses_up_to, event_of, stated_in}
use Rattle.events.specs.Rules.{loss_outside, event_outside, lacking, event_fault}
use Rattle.events.specs.Read.{events_of, read_from as eventsFrom}
use Rattle.year.specs.declared.Standing.{Standing}
use Rattle.year.specs.Event.{Year, subject_of}
use Rattle.year.specs.Statement.{EventLine, LayerLine, Statement, statement_of, statement_text}
use Rattle.year.specs.Standing.{fresh, standing_of, year_of, standing_passes}
use Rattle.year.specs.Run.{run_by, run_from, run_under, run_of, standing_after}
use Rattle.year.specs.Ledger.{Entry, recovery_added, due_added}
use Rattle.year.specs.History.{Call, replies_in, replies_after, standing_of_history, ledger_of_history}
use Rattle.year.specs.Tiers.{risk, cat}
use Rattle.year.specs.History.{timed_in, premiums_in, premium_shown}

-- One catastrophe layer with (time), whose amount premium for a loss of 500,000 is half of 365,000: 182,500.
abbrev cat_terms : Terms
cat_terms = terms_of 0 1000000 0 1 365000 (10000 ∷ []) 10000 1

abbrev cat_year : Year
cat_year = record { risk = []; cat = layer_of cat_terms 0 0 ∷ [] }

-- a programme of it, after a risk layer without (time) that the losses do not reach
abbrev table : List ℕ
table =
    bytes "(risk (band 700000 1000) (deduct 0) (back 1 500 10000) (placed 10000))\n"
    ++ bytes "(cat (band 0 1000000) (deduct 0) (back 1 365000 10000) (placed 10000) (time))\n"

abbrev programme : Programme
programme = (read_of table).programme

-- losses of an event of this day
abbrev event_on : (day : ℕ) → List ℕ → Event
event_on d gs = record { day = d; losses = map (λ (g : ℕ). loss_of 0 g g) gs }

-- its line, where the catastrophe layers bear all of it
abbrev cat_line : (day gross premium : ℕ) → EventLine
cat_line d g p = record {
  day = d;
  amounts = record { gross = g; ceded = 0; risk = 0; cat = g; net = 0; premium = p };
}

abbrev layer_line : (cover recovered premium : ℕ) → LayerLine
layer_line c r p = record { deductible = 0; cover = c; recovered = r; premium = p }

-- the statement of one event that the catastrophe layer alone bears
abbrev one_event : (day gross cover premium : ℕ) → Statement
one_event d g c p = record {
  events = cat_line d g p ∷ [];
  treaties = [];
  layers = record { risk = []; cat = layer_line c g p ∷ [] };
  total = record { gross = g; ceded = 0; risk = 0; cat = g; net = 0; premium = p };
}

-- Days 1, 184 and 366 have the shares 10,000, 4,986 and 0: 182,500, 90,994.5 and nothing. Days 100 and 200 have 7,287
-- and 4,547: 132,987.75 and 82,982.75, each to the nearest cent. Two losses in one event are one loss of 1,000,000 for
-- the layer: on day 100 265,975.5, and on day 184 181,989, where two of 90,995 would be 181,990.
pub record Charged : Type 0 where
  pub day_1 : statement_of time_shares [] cat_year (event_on 1 (500000 ∷ []) ∷ []) ≡ one_event 1 500000 1500000 182500
  pub day_184 : statement_of time_shares [] cat_year (event_on 184 (500000 ∷ []) ∷ [])
      ≡ one_event 184 500000 1500000 90995
  pub day_366 : statement_of time_shares [] cat_year (event_on 366 (500000 ∷ []) ∷ []) ≡ one_event 366 500000 1500000 0
  pub two-events : statement_of time_shares [] cat_year (event_on 100 (500000 ∷ []) ∷ event_on 200 (500000 ∷ []) ∷ [])
      ≡ record {
        events = cat_line 100 500000 132988 ∷ cat_line 200 500000 82983 ∷ [];
        treaties = [];
        layers = record { risk = []; cat = layer_line 1000000 1000000 215971 ∷ [] };
        total = record { gross = 1000000; ceded = 0; risk = 0; cat = 1000000; net = 0; premium = 215971 };
      }
  pub one-event : statement_of time_shares [] cat_year (event_on 100 (500000 ∷ 500000 ∷ []) ∷ [])
      ≡ one_event 100 1000000 1000000 265976
  pub one-loss : statement_of time_shares [] cat_year (event_on 184 (500000 ∷ 500000 ∷ []) ∷ [])
      ≡ one_event 184 1000000 1000000 181989
  -- by other shares, of which there are two: 10 of 10,000 on day 2 are 182.5, and nothing is due on day 3
  pub other_day_2 : statement_of (10000 ∷ 10 ∷ []) [] cat_year (event_on 2 (500000 ∷ []) ∷ [])
      ≡ one_event 2 500000 1500000 183
  pub other_day_3 : statement_of (10000 ∷ 10 ∷ []) [] cat_year (event_on 3 (500000 ∷ []) ∷ [])
      ≡ one_event 3 500000 1500000 0

pub charged : Charged
unfolding
    rounded ceded_of cut_to_limit ceded_of_loss ceded_in placed_of recovered_of rated_of premium_of recovery_of due_for due_of
    timed_part year_premium subject_of day_share time_shares
charged = record {
  day_1 = refl;
  day_184 = refl;
  day_366 = refl;
  two-events = refl;
  one-event = refl;
  one-loss = refl;
  other_day_2 = refl;
  other_day_3 = refl;
}

-- A risk layer of 100 with one reinstatement for 100: each loss of a cent has an amount premium of a cent. Day 183 has
-- the share 5,013 and day 184 4,986.
abbrev risk_year : (time : ℕ) → Year
risk_year w = record { risk = layer_of (terms_of 0 100 0 1 100 (10000 ∷ []) 10000 w) 0 0 ∷ []; cat = [] }

-- the statement of one event of two cents that the risk layer bears
abbrev two_cents : (day premium : ℕ) → Statement
two_cents d p = record {
  events =
      record { day = d; amounts = record { gross = 2; ceded = 0; risk = 2; cat = 0; net = 0; premium = p } } ∷ [];
  treaties = [];
  layers = record { risk = layer_line 198 2 p ∷ []; cat = [] };
  total = record { gross = 2; ceded = 0; risk = 2; cat = 0; net = 0; premium = p };
}

-- Two losses of a cent in one event are each settled by itself: 0.5013 is 1 and 1 again, 0.4986 is 0 and 0 again. One
-- loss of two cents is 1.0026 and 0.9972, which is 1 on both days. Without (time) it is 2 in any case.
pub record EachSettled : Type 0 where
  pub above_half : statement_of time_shares [] (risk_year 1) (event_on 183 (1 ∷ 1 ∷ []) ∷ []) ≡ two_cents 183 2
  pub below_half : statement_of time_shares [] (risk_year 1) (event_on 184 (1 ∷ 1 ∷ []) ∷ []) ≡ two_cents 184 0
  pub above-at-once : statement_of time_shares [] (risk_year 1) (event_on 183 (2 ∷ []) ∷ []) ≡ two_cents 183 1
  pub below-at-once : statement_of time_shares [] (risk_year 1) (event_on 184 (2 ∷ []) ∷ []) ≡ two_cents 184 1
  pub no-time : statement_of time_shares [] (risk_year 0) (event_on 184 (1 ∷ 1 ∷ []) ∷ []) ≡ two_cents 184 2
  pub no-time-at-once : statement_of time_shares [] (risk_year 0) (event_on 184 (2 ∷ []) ∷ []) ≡ two_cents 184 2

pub each_settled : EachSettled
unfolding
    rounded ceded_of cut_to_limit ceded_of_loss ceded_in placed_of recovered_of rated_of premium_of recovery_of due_for due_of
    timed_part year_premium subject_of day_share time_shares
each_settled = record {
  above_half = refl;
  below_half = refl;
  above-at-once = refl;
  below-at-once = refl;
  no-time = refl;
  no-time-at-once = refl;
}

-- two layers in each tier, by time: each place of a standing is its own layer's
abbrev terms : (attachment : ℕ) → Terms
terms a = terms_of a 10 0 1 1000 (10000 ∷ []) 10000 1

abbrev four_contracts : Contracts
four_contracts = record {
  treaties = [];
  risk = terms 0 ∷ terms 10 ∷ [];
  cat = terms 20 ∷ terms 30 ∷ [];
}

abbrev four_layers : Year
four_layers = record {
  risk = layer_of (terms 0) 1 5 ∷ layer_of (terms 10) 2 6 ∷ [];
  cat = layer_of (terms 20) 3 7 ∷ layer_of (terms 30) 4 8 ∷ [];
}

abbrev four_places : Standing
four_places = record {
  risk = 1 ∷ 2 ∷ 0 ∷ 0 ∷ 0 ∷ 0 ∷ 0 ∷ 0 ∷ [];
  cat = 3 ∷ 4 ∷ 0 ∷ 0 ∷ 0 ∷ 0 ∷ 0 ∷ 0 ∷ [];
  day = 9;
  risk_timed = 5 ∷ 6 ∷ 0 ∷ 0 ∷ 0 ∷ 0 ∷ 0 ∷ 0 ∷ [];
  cat_timed = 7 ∷ 8 ∷ 0 ∷ 0 ∷ 0 ∷ 0 ∷ 0 ∷ 0 ∷ [];
}

pub record Places : Type 0 where
  pub into_places : standing_of four_layers 9 ≡ four_places
  pub from_places : year_of four_contracts four_places ≡ four_layers

pub places : Places
places = record { into_places = refl; from_places = refl }

-- the ledger's entry of half a limit, with (time) or without
abbrev entry_of : (time timed : ℕ) → Entry
entry_of w n = record {
  terms = terms_of 0 1000000 0 1 365000 (10000 ∷ []) 10000 w;
  losses = 500000;
  recoveries = 500000;
  timed = n;
}

-- what is told of entries and of a statement: by time the timed premium, else that of the spent amount
pub record Told : Type 0 where
  pub timed_in_lem : timed_in (entry_of 1 90995 ∷ entry_of 0 0 ∷ []) ≡ 90995 ∷ 0 ∷ []
  pub premiums_in_lem : premiums_in (entry_of 1 90995 ∷ entry_of 0 0 ∷ []) ≡ 90995 ∷ 182500 ∷ []
  pub shown : premium_shown cat (one_event 184 500000 1500000 90995) ≡ 90995 ∷ []
  pub shown-risk : premium_shown risk (two_cents 183 2) ≡ 2 ∷ []

pub told : Told
unfolding rounded placed_of recovered_of rated_of premium_of year_premium
told = record { timed_in_lem = refl; premiums_in_lem = refl; shown = refl; shown-risk = refl }

-- the two events in two runs under the programme, and their statements
abbrev call_of : String → Call
call_of s = record { text = bytes s; buffer = replicate 400 7 }

abbrev two_runs : List Call
two_runs = call_of "(event 100 (loss 0 1 500000))\n" ∷ call_of "(event 200 (loss 0 1 500000))\n" ∷ []

-- a loss on day 100 and an event without one on day 200, and the loss on day 200
abbrev on_day100 : List Call
on_day100 = call_of "(event 100 (loss 0 1 500000))\n(event 200)\n" ∷ []

abbrev on_day200 : List Call
on_day200 = call_of "(event 200 (loss 0 1 500000))\n" ∷ []

abbrev first_text : List ℕ
first_text =
    bytes "(event 100 (gross 500000) (ceded 0) (risk 0) (cat 500000) (net 0) (premium 132988))\n"
    ++ bytes "(layer risk 1 (deductible 0) (cover 2000) (recovered 0) (premium 0))\n"
    ++ bytes "(layer cat 1 (deductible 0) (cover 1500000) (recovered 500000) (premium 132988))\n"
    ++ bytes "(total (gross 500000) (ceded 0) (risk 0) (cat 500000) (net 0) (premium 132988))\n"

abbrev second_text : List ℕ
second_text =
    bytes "(event 200 (gross 500000) (ceded 0) (risk 0) (cat 500000) (net 0) (premium 82983))\n"
    ++ bytes "(layer risk 1 (deductible 0) (cover 2000) (recovered 0) (premium 0))\n"
    ++ bytes "(layer cat 1 (deductible 0) (cover 1000000) (recovered 1000000) (premium 215971))\n"
    ++ bytes "(total (gross 500000) (ceded 0) (risk 0) (cat 500000) (net 0) (premium 82983))\n"

-- a standing on day 200 with one layer in each tier: what is spent and what is timed
abbrev held : (risk timed_risk_table cat catTimed : ℕ) → Standing
held r rt c ct = record {
  risk = r ∷ 0 ∷ 0 ∷ 0 ∷ 0 ∷ 0 ∷ 0 ∷ 0 ∷ [];
  cat = c ∷ 0 ∷ 0 ∷ 0 ∷ 0 ∷ 0 ∷ 0 ∷ 0 ∷ [];
  day = 200;
  risk_timed = rt ∷ 0 ∷ 0 ∷ 0 ∷ 0 ∷ 0 ∷ 0 ∷ 0 ∷ [];
  cat_timed = ct ∷ 0 ∷ 0 ∷ 0 ∷ 0 ∷ 0 ∷ 0 ∷ 0 ∷ [];
}

-- one with a cent of timed premium in the last place of a tier, where there is no layer
abbrev missing : (timed_risk_table catTimed : ℕ) → Standing
missing rt ct = record {
  risk = 0 ∷ 0 ∷ 0 ∷ 0 ∷ 0 ∷ 0 ∷ 0 ∷ 0 ∷ [];
  cat = 0 ∷ 0 ∷ 0 ∷ 0 ∷ 0 ∷ 0 ∷ 0 ∷ 0 ∷ [];
  day = 0;
  risk_timed = 0 ∷ 0 ∷ 0 ∷ 0 ∷ 0 ∷ 0 ∷ 0 ∷ rt ∷ [];
  cat_timed = 0 ∷ ct ∷ 0 ∷ 0 ∷ 0 ∷ 0 ∷ 0 ∷ 0 ∷ [];
}

-- the statement of an empty text with this line of the catastrophe layer
abbrev no_events : String → List ℕ
no_events line =
    bytes "(layer risk 1 (deductible 0) (cover 2000) (recovered 0) (premium 0))\n"
    ++ bytes line
    ++ bytes "(total (gross 0) (ceded 0) (risk 0) (cat 0) (net 0) (premium 0))\n"

-- the refusal of an empty text from a standing, 0 where it is accepted
abbrev refusal : Standing → ℕ
refusal s = (answer_of (run_of programme s [] 400)).refusal

pub record Kept : Type 0 where
  -- a standing is kept between two runs: the second's layer line shows both premiums
  pub replies : replies_in time_shares programme fresh two_runs
      ≡ record { answer = record { refusal = 0; number = 314 }; buffer = first_text ++ replicate 86 7 }
      ∷ record { answer = record { refusal = 0; number = 313 }; buffer = second_text ++ replicate 87 7 } ∷ []
  pub standing : standing_of_history time_shares programme two_runs ≡ held 0 0 1000000 215971
  -- the ledger's entry
  pub entries : (ledger_of_history time_shares programme two_runs).cat
      ≡ record {
        terms = record {
          attachment = 0;
          limit = 1000000;
          deductible = 0;
          reinstatements = 1;
          premium = 365000;
          placed = 10000;
          rates = 10000 ∷ replicate 19 0;
          time = 1;
        };
        losses = 1000000;
        recoveries = 1000000;
        timed = 215971;
      } ∷ []
  -- a run goes by the built-in shares
  pub built_in : standing_after (run_of programme fresh (bytes "(event 200 (loss 0 1 500000))\n") 400) fresh
      ≡ held 0 0 500000 82983
  -- two histories that end on one day with the same spent amounts: their timed premiums tell them apart
  pub same-spent : standing_of_history time_shares programme on_day100 ≡ held 0 0 500000 132988
  pub other-timed : standing_of_history time_shares programme on_day200 ≡ held 0 0 500000 82983
  pub told : replies_after time_shares programme on_day100 (call_of "" ∷ [])
      ≡ record {
        answer = record { refusal = 0; number = 215 };
        buffer =
            no_events "(layer cat 1 (deductible 0) (cover 1500000) (recovered 500000) (premium 132988))\n"
            ++ replicate 185 7;
      } ∷ []
  pub told-apart : replies_after time_shares programme on_day200 (call_of "" ∷ [])
      ≡ record {
        answer = record { refusal = 0; number = 214 };
        buffer =
            no_events "(layer cat 1 (deductible 0) (cover 1500000) (recovered 500000) (premium 82983))\n"
            ++ replicate 186 7;
      } ∷ []
  -- 8: at the amount premium of what is spent and a cent above it, with half a limit, two limits and nothing spent
  pub at-amount : refusal (held 0 0 500000 182500) ≡ 0
  pub above-amount : refusal (held 0 0 500000 182501) ≡ 8
  pub at_most : refusal (held 0 0 2000000 365000) ≡ 0
  pub above_most : refusal (held 0 0 2000000 365001) ≡ 8
  pub not_spent : refusal (held 0 0 0 1) ≡ 8
  -- not 0 on a layer without (time), which has an amount premium of 500
  pub no-time : refusal (held 1000 0 0 0) ≡ 0
  pub not_timed : refusal (held 1000 1 0 0) ≡ 8
  -- not 0 on a missing layer
  pub none-missing : refusal (missing 0 0) ≡ 0
  pub missing-risk : refusal (missing 1 0) ≡ 8
  pub missing-cat : refusal (missing 0 1) ≡ 8

pub kept : Kept
unfolding
    rounded printed_by printed digit_of read_on number capital filled matched whole_of line_numbers lines_of ceded_of
    cut_to_limit ceded_of_loss ceded_in placed_of recovered_of rated_of premium_of recovery_of due_for due_of timed_part timed_most
    year_premium day_share time_shares kind_of rates_text layer_numbers tail_time layer_terms form_of_kind form_of outside
    treaty_outside rates_outside terms_outside treaty_not_zero terms_not_zero treaty_fault layer_fault read_from read_of
    valid_treaties valid_layers valid closes losses_up_to event_of stated_in loss_outside event_outside lacking event_fault
    events_of eventsFrom subject_of statement_text standing_passes fitted scale_passes run_by run_from run_under
    recovery_added due_added
kept = record {
  replies = refl;
  standing = refl;
  entries = refl;
  built_in = refl;
  same-spent = refl;
  other-timed = refl;
  told = refl;
  told-apart = refl;
  at-amount = refl;
  above-amount = refl;
  at_most = refl;
  above_most = refl;
  not_spent = refl;
  no-time = refl;
  not_timed = refl;
  none-missing = refl;
  missing-risk = refl;
  missing-cat = refl;
}
