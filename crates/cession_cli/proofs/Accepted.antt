-- No refusal of a run has the number 0, so that an answer with refusal 0 is that of a statement, which the buffer
-- holds.
-- Assumes nothing.
use mathlib.Core.Path.{◌≡◌, sym, ap, ◌∙◌}
use mathlib.Core.Bool.{Bool, true, false}
use mathlib.Core.List.{List, [], ◌∷◌}
use Rattle.std.specs.Prelude.{Option, None, Some}
use Prim.Native.Nat.{ℕ, zero, suc, ◌+◌, ◌≤◌, ◌<◌}
use native.Mathlib.Omega.{arith}
use lib.Dec.{ltb}
use lib.ListN.{length, take, drop, length-append}
use lib.Seq.{length-take-le}
use Rattle.answer.specs.Outcome.{Outcome, refused, written, answer_of, buffer_after}
use Rattle.answer.proofs.Outcomes.{either_way}
use Rattle.treaty.specs.declared.Treaty.{Treaty}
use Rattle.programme.specs.declared.contract.Programme.{Programme}
use Rattle.programme.specs.Contract.{Contracts, contracts_in}
use Rattle.programme.specs.Valid.{valid}
use Rattle.events.specs.Event.{Event, forms_of}
use Rattle.events.specs.Rules.{event_fault}
use Rattle.events.specs.Read.{EventsRead, turned_down_at, events, event_before, unless_fault, read_from, events_of}
use Rattle.year.specs.declared.Standing.{Standing}
use Rattle.year.specs.Standing.{standing_passes}
use Rattle.scale.specs.Scale.{time_shares, scale_passes}
use Rattle.year.specs.Run.{Left, run_through, run_by, run_from, run_under, run_of}
use Rattle.engine.specs.declared.run.Ran.{Ran}
use Rattle.engine.specs.Run.{ran_of}

-- what was read, with a number above 0 if it was turned down
abbrev Told : EventsRead → Type 0
Told (turned_down_at n w) = 0 < n
Told (events es) = Unit {0}

before-told : (e : Event) (r : EventsRead) → Told r → Told (event_before e r)
before-told e (turned_down_at n w) h = h
before-told e (events es) h = tt

unless_told : (n w : ℕ) (e : Event) (r : EventsRead) → Told r → Told (unless_fault n w e r)
unless_told zero w e r h = before-told e r h
unless_told (suc n) w e r h = omega arith

lines-told : (ts : List Treaty) (w d : ℕ) (fs : List (Option Event)) → Told (read_from ts w d fs)
unfolding read_from
lines-told ts w d [] = tt
lines-told ts w d (None ∷ fs) = omega arith
lines-told ts w d (Some e ∷ fs) =
    unless_told (event_fault ts d e) w e (read_from ts (w + 1) e.day fs) (lines-told ts (w + 1) e.day fs)

text-told : (ts : List Treaty) (d : ℕ) (s : List ℕ) → Told (events_of ts d s)
unfolding events_of
text-told ts d s = by_length (ltb 65536 (length s))
  where
    by_length : (b : Bool) → Told (elim b [ true ↦ turned_down_at 9 0 | false ↦ read_from ts 1 d (forms_of s) ])
    by_length true = omega arith
    by_length false = lines-told ts 1 d (forms_of s)

-- the same of a run
abbrev Numbered : Outcome Left → Type 0
Numbered (refused n w) = 0 < n
Numbered (written t after) = Unit {0}

either : (b : Bool) (x y : Outcome Left) → Numbered x → Numbered y → Numbered (elim b [ true ↦ x | false ↦ y ])
either true x y h g = h
either false x y h g = g

module _ (shares : List ℕ) where
  through-numbered : (c : Contracts) (s : Standing) (room : ℕ) (r : EventsRead) → Told r
      → Numbered (run_through shares c s room r)
  through-numbered c s room (turned_down_at n w) h = h
  through-numbered c s room (events es) h = either_way room _ _ Numbered (λ _. tt) (λ _. omega arith)

  by-numbered : (c : Contracts) (s : Standing) (text : List ℕ) (room : ℕ) → Numbered (run_by shares c s text room)
  unfolding run_by
  by-numbered c s text room =
      either (scale_passes shares) (run_through shares c s room (events_of c.treaties s.day text)) (refused 28 0)
      (through-numbered c s room (events_of c.treaties s.day text) (text-told c.treaties s.day text))
      (omega arith)

  from-numbered : (c : Contracts) (s : Standing) (text : List ℕ) (room : ℕ)
      → Numbered (run_from shares c s text room)
  unfolding run_from
  from-numbered c s text room =
      either (standing_passes c s) (run_by shares c s text room) (refused 8 0) (by-numbered c s text room) (omega arith)

  run-numbered : (p : Programme) (s : Standing) (text : List ℕ) (room : ℕ) → Numbered (run_under shares p s text room)
  unfolding run_under
  run-numbered p s text room =
      either (valid p) (run_from shares (contracts_in p) s text room) (refused 6 0)
      (from-numbered (contracts_in p) s text room) (omega arith)

-- an outcome that is not refused fills the front of the buffer
front : (o : Outcome Left) (d : List ℕ) → Numbered o → (answer_of o).refusal ≡ 0
    → (answer_of o).number ≤ length (buffer_after o d)
front (refused n w) d h e = omega (arith, h, e)
front (written t after) d h e = omega (arith, length-append t (drop (length t) d))

-- the statement of a run whose answer has refusal 0 lies in the buffer
module _ (p : Programme) (s : Standing) (text d d' : List ℕ) (r : Ran) where
  pub statement-inside : r ≡ ran_of (run_of p s text (length d)) s → d' ≡ buffer_after (run_of p s text (length d)) d
      → r.answer.refusal ≡ 0 → r.answer.number ≤ length d'
  statement-inside f g e =
      rw (f, g) (front (run_of p s text (length d)) d (run-numbered time_shares p s text (length d))
      (sym (ap (λ (x : Ran). x.answer.refusal) f) ∙ e))

  pub statement-counted : r ≡ ran_of (run_of p s text (length d)) s → d' ≡ buffer_after (run_of p s text (length d)) d
      → r.answer.refusal ≡ 0 → r.answer.number ≡ length (take r.answer.number d')
  statement-counted f g e = sym (length-take-le r.answer.number d' (statement-inside f g e))
