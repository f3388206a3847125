-- Document 01, Checked figures: H1, C1 to C8 and L1 to L4, the table, C4 and L2 as document 02, Q-2, Q-3 and Q-8, has
-- them, as a single theorem about the definitions.
-- Assumes nothing.
use mathlib.Core.Path.{◌≡◌, refl}
use mathlib.Core.List.{List, [], ◌∷◌, ◌++◌, map}
use Prim.Native.Nat.{ℕ}
use lib.ListN.{length, replicate}
use Rattle.lists.specs.Places.{in_places}
use Rattle.arith.specs.Round.{rounded}
use Rattle.scale.specs.Scale.{day_share, time_shares, scale_passes}
use Rattle.text.specs.Bytes.{bytes}
use Rattle.text.specs.Number.{printed_by, printed, digit_of, read_on, number}
use Rattle.text.specs.Template.{capital, filled, matched, whole_of, line_numbers}
use Rattle.text.specs.Lines.{lines_of}
use Rattle.treaty.specs.Treaty.{quota_of, surplus_of, loss_of, cessions, ceded_by_quota, ceded_by_surplus}
use Rattle.treaty.specs.Treaty.{ceded_of, cut_to_limit, ceded_of_loss}
use Rattle.treaty.specs.Losses.{ceded_in}
use Rattle.layer.specs.declared.terms.Terms.{Terms}
use Rattle.layer.specs.Layer.{terms_of, brought_by, layer_of, recoveries_of, placed_of, recovered_of, rated_of, premium_of}
use Rattle.layer.specs.Layer.{recovery_of, due_for, due_of, timed_part, timed_most, year_premium}
use Rattle.answer.specs.Outcome.{Outcome, fitted, answer_of, buffer_after}
use Rattle.programme.specs.declared.contract.Programme.{Programme}
use Rattle.programme.specs.Ranges.{outside, treaty_outside, rates_outside, terms_outside, treaty_not_zero, terms_not_zero}
use Rattle.programme.specs.Rules.{treaty_fault, layer_fault}
use Rattle.programme.specs.Valid.{valid_treaties, valid_layers, valid}
use Rattle.table_text.specs.Forms.{kind_of, rates_text, layer_numbers, tail_time, layer_terms, form_of_kind, form_of}
use Rattle.table_text.specs.Read.{read_from, read_of}
use Rattle.events.specs.Event.{closes, losses_up_to, event_of}
use Rattle.events.specs.Rules.{loss_outside, event_outside, lacking, event_fault}
use Rattle.events.specs.Read.{events_of, read_from as eventsFrom}
use Rattle.year.specs.Event.{subject_of}
use Rattle.year.specs.Statement.{statement_text}
use Rattle.year.specs.Standing.{open_of, standing_passes}
use Rattle.year.specs.Run.{Left, run_by, run_from, run_under, run_of, standing_after}

-- the table of H1, the run of its event text from an opened year, and the statement that it prints
abbrev h1-table : List ℕ
h1-table =
    bytes "(cat (band 25000000 75000000) (deduct 75000000) (back 0 0) (placed 10000))\n"
    ++ bytes "(cat (band 100000000 150000000) (deduct 0) (back 1 75000000 5000) (placed 8000))\n"
    ++ bytes "(cat (band 250000000 150000000) (deduct 0) (back 1 30000000 10000) (placed 7200))\n"

abbrev h1 : Programme
h1 = (read_of h1-table).programme

abbrev h1-run : Outcome Left
h1-run = run_of h1 (open_of h1).standing (bytes "(event 230 (loss 0 350000000 350000000))\n") 444

abbrev h1-statement : List ℕ
h1-statement =
    bytes "(event 230 (gross 350000000) (ceded 0) (risk 0) (cat 192000000) (net 158000000) (premium 44400000))\n"
    ++ bytes "(layer cat 1 (deductible 0) (cover 75000000) (recovered 0) (premium 0))\n"
    ++ bytes "(layer cat 2 (deductible 0) (cover 150000000) (recovered 120000000) (premium 30000000))\n"
    ++ bytes "(layer cat 3 (deductible 0) (cover 200000000) (recovered 72000000) (premium 14400000))\n"
    ++ bytes "(total (gross 350000000) (ceded 0) (risk 0) (cat 192000000) (net 158000000) (premium 44400000))\n"

-- the layer of L4
abbrev l4 : Terms
l4 = terms_of 500000 500000 1000000 1 0 (0 ∷ []) 10000 0

pub record Checked : Type 0 where
  -- the table is read, a year opened, the events text run, and the statement is in front of the buffer's other bytes
  pub H1-table : (read_of h1-table).refusal ≡ 0
  pub H1-opening : (open_of h1).refusal ≡ 0
  pub H1-answer : answer_of h1-run ≡ record { refusal = 0; number = length h1-statement }
  pub H1-buffer : buffer_after h1-run (replicate 444 7) ≡ h1-statement ++ (7 ∷ [])
  pub H1-standing : standing_after h1-run (open_of h1).standing
      ≡ record {
        risk = in_places 0 [];
        cat = in_places 0 (75000000 ∷ 150000000 ∷ 100000000 ∷ []);
        day = 230;
        risk_timed = in_places 0 [];
        cat_timed = in_places 0 [];
      }
  -- quota 4,000 bp; C1 holds at any E
  pub C1 : (e : ℕ) → cessions (quota_of 1 4000 0 0) (loss_of 1 e 101 ∷ []) ≡ 40 ∷ []
  pub C2 : cessions (quota_of 1 4000 20000 0) (loss_of 1 25000 10000 ∷ []) ≡ 3200 ∷ []
  pub C3 : cessions (quota_of 1 4000 20000 0) (loss_of 1 20000 10000 ∷ []) ≡ 4000 ∷ []
  pub C4 : (e : ℕ)
      → cessions (quota_of 1 4000 0 15000) (loss_of 1 e 10000 ∷ loss_of 1 e 10000 ∷ loss_of 1 e 10000 ∷ [])
      ≡ 4000 ∷ 4000 ∷ 4000 ∷ []
  pub C4-with-limit-5000 : (e : ℕ)
      → cessions (quota_of 1 4000 0 5000) (loss_of 1 e 10000 ∷ loss_of 1 e 10000 ∷ loss_of 1 e 10000 ∷ [])
      ≡ 4000 ∷ 1000 ∷ 0 ∷ []
  -- surplus 10,000 with 3 lines; C5 holds for any loss
  pub C5 : (g : ℕ) → cessions (surplus_of 1 10000 3 0) (loss_of 1 10000 g ∷ []) ≡ 0 ∷ []
  pub C6 : cessions (surplus_of 1 10000 3 0) (loss_of 1 10001 10001 ∷ []) ≡ 1 ∷ []
  pub C7 : cessions (surplus_of 1 10000 3 0) (loss_of 1 40000 8000 ∷ []) ≡ 6000 ∷ []
  pub C8 : cessions (surplus_of 1 10000 3 0) (loss_of 1 50000 8000 ∷ []) ≡ 4800 ∷ []
  -- attachment 50
  pub L1 : map (brought_by (terms_of 50 100 0 0 0 [] 10000 0)) (50 ∷ 51 ∷ []) ≡ 0 ∷ 1 ∷ []
  -- two layer losses of 1, placed 5,000: half a cent goes up, and then 1 is recovered already
  pub L2 : recoveries_of (layer_of (terms_of 0 100 0 0 0 [] 5000 0) 0 0) (1 ∷ 1 ∷ []) ≡ 1 ∷ 0 ∷ []
  -- used 150 and used 200, with one reinstatement of 100
  pub L3 : map (premium_of (terms_of 0 100 0 1 1000 (10000 ∷ []) 10000 0)) (150 ∷ 200 ∷ []) ≡ 1000 ∷ 1000 ∷ []
  -- the five losses of source document 000
  pub L4 : recoveries_of (layer_of l4 0 0) (map (brought_by l4) (750000 ∷ 2000000 ∷ 1000000 ∷ 250000 ∷ 1000000 ∷ []))
      ≡ 0 ∷ 0 ∷ 250000 ∷ 0 ∷ 500000 ∷ []

pub checked : Checked
unfolding
    rounded printed_by printed digit_of read_on number capital filled matched whole_of line_numbers lines_of ceded_by_quota
    ceded_by_surplus ceded_of cut_to_limit ceded_of_loss placed_of recovered_of rated_of premium_of recovery_of due_for due_of
    timed_part timed_most year_premium kind_of rates_text layer_numbers tail_time layer_terms form_of_kind form_of outside
    treaty_outside rates_outside terms_outside treaty_not_zero terms_not_zero treaty_fault layer_fault read_from read_of
    valid_treaties valid_layers valid closes losses_up_to event_of loss_outside event_outside lacking event_fault events_of
    eventsFrom ceded_in subject_of statement_text open_of standing_passes fitted day_share time_shares
    scale_passes run_by run_from run_under
checked = record {
  H1-table = refl;
  H1-opening = refl;
  H1-answer = refl;
  H1-buffer = refl;
  H1-standing = refl;
  C1 = λ e. refl;
  C2 = refl;
  C3 = refl;
  C4 = λ e. refl;
  C4-with-limit-5000 = λ e. refl;
  C5 = λ g. refl;
  C6 = refl;
  C7 = refl;
  C8 = refl;
  L1 = refl;
  L2 = refl;
  L3 = refl;
  L4 = refl;
}
