-- Figures of refusals by computation: the numbers of a run at their boundaries and in their order, what is left as
-- lent, and opening. The expectations are by hand.
-- Assumes nothing.
use mathlib.Core.Path.{◌≡◌, refl}
use mathlib.Core.List.{[], ◌∷◌, ◌++◌}
use Prim.Native.Nat.{ℕ}
use Prim.Native.String.{String}
use lib.ListN.{replicate}
use Rattle.arith.specs.Round.{rounded}
use Rattle.scale.specs.Scale.{day_share, time_shares, scale_passes}
use Rattle.text.specs.Bytes.{bytes}
use Rattle.text.specs.Number.{printed_by, printed, digit_of, read_on, number}
use Rattle.text.specs.Template.{capital, filled, matched}
use Rattle.text.specs.Lines.{lines_of}
use Rattle.treaty.specs.Treaty.{quota_of}
use Rattle.layer.specs.Layer.{terms_of, placed_of, recovered_of, rated_of, premium_of, recovery_of, due_for, due_of, timed_part}
use Rattle.layer.specs.Layer.{timed_most, year_premium}
use Rattle.answer.specs.declared.Answer.{Answer}
use Rattle.answer.specs.Outcome.{Outcome, fitted, answer_of, buffer_after}
use Rattle.programme.specs.declared.contract.Programme.{Programme}
use Rattle.programme.specs.Contract.{no_contracts, programme_of}
use Rattle.programme.specs.Ranges.{outside, treaty_outside, rates_outside, terms_outside, treaty_not_zero, terms_not_zero}
use Rattle.programme.specs.Valid.{valid_treaties, valid_layers, valid}
use Rattle.events.specs.Event.{closes, losses_up_to, event_of}
use Rattle.events.specs.Rules.{loss_outside, event_outside, lacking, event_fault}
use Rattle.events.specs.Read.{events_of, read_from}
use Rattle.year.specs.declared.Standing.{Standing}
use Rattle.year.specs.Event.{subject_of}
use Rattle.year.specs.Statement.{statement_text}
use Rattle.year.specs.Standing.{fresh, standing_passes, open_of}
use Rattle.year.specs.Run.{Left, run_by, run_from, run_under, run_of, standing_after}
use Rattle.year.proofs.Examples.{standing}

-- one treaty, one risk layer with a cap of 3,100 and one catastrophe layer with a cap of 3,000
abbrev programme : Programme
programme = programme_of (record {
  treaties = quota_of 2 4000 0 0 ∷ [];
  risk = terms_of 500 1000 100 2 800 (5000 ∷ 5000 ∷ []) 3330 0 ∷ [];
  cat = terms_of 2000 3000 0 0 0 [] 7200 0 ∷ [];
})

-- bands that overlap by a cent
abbrev overlapping : Programme
overlapping = programme_of (record {
  treaties = [];
  risk = terms_of 50 50 0 0 0 [] 7200 0 ∷ terms_of 99 1 0 0 0 [] 7200 0 ∷ [];
  cat = [];
})

-- what a run answers
abbrev answer : Programme → Standing → String → (room : ℕ) → Answer
answer p s text room = answer_of (run_of p s (bytes text) room)

abbrev told : (refusal number : ℕ) → Answer
told n w = record { refusal = n; number = w }

-- the run of an empty text from a standing with this day
abbrev empty_run : ℕ → Outcome Left
empty_run d = run_of programme (standing (1234 ∷ []) (567 ∷ []) d) [] 999

pub record Corners : Type 0 where
  -- 6, and 6 before 8
  pub invalid : answer overlapping fresh "" 999 ≡ told 6 0
  pub invalid-first : answer overlapping (standing (9 ∷ 9 ∷ 9 ∷ []) [] 367) "no form" 0 ≡ told 6 0
  -- 8: at the cap and above it, in both tiers; not 0 for a missing layer; the last day
  pub at_cap : answer programme (standing (3100 ∷ []) (3000 ∷ []) 0) "" 999 ≡ told 0 224
  pub above_cap : answer programme (standing (3101 ∷ []) [] 0) "" 999 ≡ told 8 0
  pub above-cat : answer programme (standing [] (3001 ∷ []) 0) "" 999 ≡ told 8 0
  pub missing-risk : answer programme (standing (0 ∷ 1 ∷ []) [] 0) "" 999 ≡ told 8 0
  pub missing-cat : answer programme (standing [] (0 ∷ 0 ∷ 0 ∷ 0 ∷ 0 ∷ 0 ∷ 0 ∷ 1 ∷ []) 0) "" 999 ≡ told 8 0
  pub last-day : answer programme (standing [] [] 366) "" 999 ≡ told 0 225
  pub past-day : answer programme (standing [] [] 367) "" 999 ≡ told 8 0
  -- 8 before the lines, and the lines before 7
  pub standing-first : answer programme (standing [] [] 367) "no form" 0 ≡ told 8 0
  pub lines-first : answer programme fresh "no form" 0 ≡ told 10 1
  -- 6 and 8 before 9, and 9 before the lines and 7
  pub invalid-long : answer_of (run_of overlapping fresh (replicate 65537 10) 0) ≡ told 6 0
  pub standing-long : answer_of (run_of programme (standing [] [] 367) (replicate 65537 10) 0) ≡ told 8 0
  pub long : answer_of (run_of programme fresh (replicate 65537 10) 0) ≡ told 9 0
  -- 13 on the first line looks at the standing's day
  pub day_equal : answer programme (standing [] [] 230) "(event 230)\n" 999 ≡ told 0 294
  pub day-below : answer programme (standing [] [] 230) "(event 229)\n" 999 ≡ told 13 1
  -- 14, under this programme
  pub lacking-treaty : answer programme fresh "(event 1 (loss 2 1 1))\n(event 2 (loss 1 1 1))\n" 999 ≡ told 14 2
  -- 7 with the length needed, one byte short and exactly right
  pub short : answer programme fresh "" 224 ≡ told 7 225
  pub exact : answer programme fresh "" 225 ≡ told 0 225
  pub no_buffer : answer programme fresh "" 0 ≡ told 7 225
  pub short-left : buffer_after (run_of programme fresh [] 224) (replicate 224 7) ≡ replicate 224 7
  -- an empty text is accepted and keeps the last day: its statement has the lines of the standing lent and no events
  pub kept : answer_of (empty_run 230) ≡ told 0 229
  pub kept-standing : standing_after (empty_run 230) (standing (1234 ∷ []) (567 ∷ []) 230)
      ≡ record {
        risk = 1234 ∷ 0 ∷ 0 ∷ 0 ∷ 0 ∷ 0 ∷ 0 ∷ 0 ∷ [];
        cat = 567 ∷ 0 ∷ 0 ∷ 0 ∷ 0 ∷ 0 ∷ 0 ∷ 0 ∷ [];
        day = 230;
        risk_timed = 0 ∷ 0 ∷ 0 ∷ 0 ∷ 0 ∷ 0 ∷ 0 ∷ 0 ∷ [];
        cat_timed = 0 ∷ 0 ∷ 0 ∷ 0 ∷ 0 ∷ 0 ∷ 0 ∷ 0 ∷ [];
      }
  pub kept-last-day : standing_after (empty_run 366) (standing (1234 ∷ []) (567 ∷ []) 366)
      ≡ record {
        risk = 1234 ∷ 0 ∷ 0 ∷ 0 ∷ 0 ∷ 0 ∷ 0 ∷ 0 ∷ [];
        cat = 567 ∷ 0 ∷ 0 ∷ 0 ∷ 0 ∷ 0 ∷ 0 ∷ 0 ∷ [];
        day = 366;
        risk_timed = 0 ∷ 0 ∷ 0 ∷ 0 ∷ 0 ∷ 0 ∷ 0 ∷ 0 ∷ [];
        cat_timed = 0 ∷ 0 ∷ 0 ∷ 0 ∷ 0 ∷ 0 ∷ 0 ∷ 0 ∷ [];
      }
  pub kept-statement : buffer_after (empty_run 230) (replicate 230 7)
      ≡ bytes "(treaty 2 (ceded 0))\n"
      ++ bytes "(layer risk 1 (deductible 0) (cover 1866) (recovered 378) (premium 151))\n"
      ++ bytes "(layer cat 1 (deductible 0) (cover 2433) (recovered 408) (premium 0))\n"
      ++ bytes "(total (gross 0) (ceded 0) (risk 0) (cat 0) (net 0) (premium 0))\n" ++ (7 ∷ [])
  -- a standing that is refused stays as lent
  pub broken_left : standing_after (run_of programme (standing (3101 ∷ []) [] 367) [] 999) (standing (3101 ∷ []) [] 367)
      ≡ standing (3101 ∷ []) [] 367
  -- a programme without contracts: the line of totals alone
  pub no-contracts : buffer_after (run_of (programme_of no_contracts) fresh [] 65) (replicate 65 7)
      ≡ bytes "(total (gross 0) (ceded 0) (risk 0) (cat 0) (net 0) (premium 0))\n"
  -- opening
  pub opened : open_of programme ≡ record { refusal = 0; number = 0; standing = standing [] [] 0 }
  pub not_opened : open_of overlapping ≡ record { refusal = 6; number = 0; standing = standing [] [] 0 }

pub corners : Corners
unfolding
    rounded printed_by printed digit_of read_on number capital filled matched lines_of placed_of recovered_of rated_of
    premium_of recovery_of due_for due_of timed_part timed_most year_premium outside treaty_outside rates_outside terms_outside
    treaty_not_zero terms_not_zero valid_treaties valid_layers valid closes losses_up_to event_of loss_outside event_outside
    lacking event_fault events_of read_from subject_of statement_text standing_passes open_of fitted day_share
    time_shares scale_passes run_by run_from run_under
corners = record {
  invalid = refl;
  invalid-first = refl;
  at_cap = refl;
  above_cap = refl;
  above-cat = refl;
  missing-risk = refl;
  missing-cat = refl;
  last-day = refl;
  past-day = refl;
  standing-first = refl;
  lines-first = refl;
  invalid-long = refl;
  standing-long = refl;
  long = refl;
  day_equal = refl;
  day-below = refl;
  lacking-treaty = refl;
  short = refl;
  exact = refl;
  no_buffer = refl;
  short-left = refl;
  kept = refl;
  kept-standing = refl;
  kept-last-day = refl;
  kept-statement = refl;
  broken_left = refl;
  no-contracts = refl;
  opened = refl;
  not_opened = refl;
}
