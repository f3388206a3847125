-- What a run comes to, by the tests that it passes: it is refused, or all of them are passed and the outcome is the
-- statement of the events read and the standing after them.
-- Assumes nothing.
use mathlib.Core.Path.{◌≡◌, refl, ap}
use mathlib.Core.Bool.{Bool, true, false}
use mathlib.Core.List.{List}
use Prim.Native.Nat.{ℕ, ◌≤◌}
use native.Mathlib.Omega.{arith}
use lib.ListN.{length}
use Rattle.answer.specs.Outcome.{Outcome, refused}
use Rattle.answer.proofs.Outcomes.{fits, either_way, left-same}
use Rattle.scale.specs.Scale.{scale_passes}
use Rattle.programme.specs.declared.contract.Programme.{Programme}
use Rattle.programme.specs.Contract.{Contracts, contracts_in}
use Rattle.programme.specs.Valid.{valid}
use Rattle.events.specs.Event.{Event, last_day}
use Rattle.events.specs.Read.{EventsRead, turned_down_at, events, events_of}
use Rattle.year.specs.declared.Standing.{Standing}
use Rattle.year.specs.Event.{year_after}
use Rattle.year.specs.Statement.{Statement, statement_of, statement_text}
use Rattle.year.specs.Standing.{standing_of, year_of, standing_passes}
use Rattle.year.specs.Run.{Left, accepted, run_through, run_by, run_from, run_under}

module _ (shares : List ℕ) where
  -- the statement of events from a standing on, and the standing after them
  abbrev pub statement_from : Contracts → Standing → List Event → Statement
  statement_from c s es = statement_of shares c.treaties (year_of c s) es

  abbrev pub standing_from : Contracts → Standing → List Event → Standing
  standing_from c s es = standing_of (year_after shares c.treaties (year_of c s) es) (last_day s.day es)

  -- a run that is not refused passes every test
  pub record Passed (p : Programme) (s : Standing) (text : List ℕ) (room : ℕ) (es : List Event) : Type 0 where
    pub programme : valid p ≡ true
    pub standing : standing_passes (contracts_in p) s ≡ true
    pub scale : scale_passes shares ≡ true
    pub read : events_of (contracts_in p).treaties s.day text ≡ events es
    pub fits : length (statement_text (statement_from (contracts_in p) s es)) ≤ room

  pub data Ran (p : Programme) (s : Standing) (text : List ℕ) (room : ℕ) : Outcome Left → Type 0 where
    stays : (n w : ℕ) → Ran p s text room (refused n w)
    moves : (es : List Event) → Passed p s text room es
        → Ran p s text room (accepted (statement_from (contracts_in p) s es) (standing_from (contracts_in p) s es))

  module _ (p : Programme) (s : Standing) (text : List ℕ) (room : ℕ) where
    -- every run is one of the two
    pub ran : Ran p s text room (run_under shares p s text room)
    unfolding run_under run_from run_by
    ran = by-programme (valid p) refl
      where
        by-events : valid p ≡ true → standing_passes (contracts_in p) s ≡ true → scale_passes shares ≡ true
            → (r : EventsRead) → events_of (contracts_in p).treaties s.day text ≡ r
            → Ran p s text room (run_through shares (contracts_in p) s room r)
        by-events v g f (turned_down_at n w) q = stays n w
        by-events v g f (events es) q =
            either_way room (statement_text (statement_from (contracts_in p) s es)) _ (Ran p s text room)
            (λ h. moves es (record { programme = v; standing = g; scale = f; read = q; fits = h })) (λ h. stays 7 _)

        by-scale : valid p ≡ true → standing_passes (contracts_in p) s ≡ true → (b : Bool) → scale_passes shares ≡ b
            → Ran p s text room (elim b [
              | true ↦ run_through shares (contracts_in p) s room (events_of (contracts_in p).treaties s.day text)
              | false ↦ refused 28 0
            ])
        by-scale v g true f = by-events v g f (events_of (contracts_in p).treaties s.day text) refl
        by-scale v g false f = stays 28 0

        by-standing : valid p ≡ true → (b : Bool) → standing_passes (contracts_in p) s ≡ b
            → Ran p s text room
            (elim b [ true ↦ run_by shares (contracts_in p) s text room | false ↦ refused 8 0 ])
        by-standing v true g = by-scale v g (scale_passes shares) refl
        by-standing v false g = stays 8 0

        by-programme : (b : Bool) → valid p ≡ b
            → Ran p s text room (elim b [ true ↦ run_from shares (contracts_in p) s text room | false ↦ refused 6 0 ])
        by-programme true v = by-standing v (standing_passes (contracts_in p) s) refl
        by-programme false v = stays 6 0

    -- and one that passes every test is accepted
    pub passed-runs : (es : List Event) → Passed p s text room es
        → run_under shares p s text room
        ≡ accepted (statement_from (contracts_in p) s es) (standing_from (contracts_in p) s es)
    unfolding run_under run_from run_by
    passed-runs es g =
        simp (run_under, g.programme, run_from, g.standing)
        (simp (run_by, g.scale, g.read) (fits room _ _ g.fits))

    -- what an accepted run was accepted for
    pub record Accepted (t : Statement) (s' : Standing) : Type 0 where
      pub es : List Event
      pub passed : Passed p s text room es
      pub statement : statement_from (contracts_in p) s es ≡ t
      pub standing : standing_from (contracts_in p) s es ≡ s'

    -- it passed every test
    pub was_accepted : (t : Statement) (s' : Standing) → run_under shares p s text room ≡ accepted t s' → Accepted t s'
    was_accepted t s' e = go (run_under shares p s text room) ran e
      where
        go : (o : Outcome Left) → Ran p s text room o → o ≡ accepted t s' → Accepted t s'
        go o (stays n w) q = let z : ◌≡◌ {A = ℕ} 0 1 = cc in absurd (omega arith)
        go o (moves es g) q = record {
          es = es;
          passed = g;
          statement = ap (λ (l : Left). l.statement) (left-same q);
          standing = ap (λ (l : Left). l.standing) (left-same q);
        }
