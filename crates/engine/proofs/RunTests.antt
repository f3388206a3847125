-- The tests of a run before its lines: 6 and 8, then 28, then 9.
-- Assumes nothing.
use mathlib.Core.Path.{◌≡◌, refl, sym, ap, ◌∙◌}
use mathlib.Core.Bool.{Bool, true, false, cond}
use mathlib.Core.List.{List}
use Prim.Native.Nat.{ℕ, ◌≤◌, ◌<◌}
use native.Mathlib.Omega.{arith}
use borrow.Author.Tests.{lt-ltb, le-ltb}
use lib.ListN.{length}
use Rattle.std.specs.Prelude.{Result, Err}
use Rattle.refusal.specs.declared.Refusal.{Refusal}
use Rattle.refusal.specs.declared.Refusal.TheVariants as the
use Rattle.refusal.specs.declared.Refused.{Refused}
use Rattle.refusal.specs.Refusal.{number_of}
use Rattle.refusal.proofs.Numbers.{not_zero}
use Rattle.scale.specs.Scale.{scale_passes}
use Rattle.answer.specs.Outcome.{Outcome, refused}
use Rattle.programme.specs.declared.contract.Programme.{Programme}
use Rattle.programme.specs.Contract.{contracts_in}
use Rattle.programme.specs.Valid.{valid}
use Rattle.events.specs.Read.{events_of}
use Rattle.year.specs.declared.Standing.{Standing}
use Rattle.year.specs.Standing.{standing_passes}
use Rattle.year.specs.Run.{Left, run_by, run_from, run_under}
use Rattle.engine.specs.Run.{lent_fault, EightEach, RanAs, run_lines, Tested}

module _ (shares : List ℕ) (p : Programme) (s : Standing) where
  -- without a fault the programme and the standing have passed
  pub faultless : EightEach s → 0 ≡ lent_fault p s → scale_passes shares ≡ true → Tested shares p s
  faultless eight a k =
      let both = by (valid p) (standing_passes (contracts_in p) s) (sym a) in
      record { places = eight; programme = both.0; standing = both.1; scale = k }
    where
      by : (v w : Bool) → ◌≡◌ {A = ℕ} (cond v (cond w 0 8) 6) 0 → (v ≡ true) × (w ≡ true)
      by true true e = (refl, refl)
      by true false e = absurd (omega arith)
      by false w e = absurd (omega arith)

  module _ (text d : List ℕ) where
    -- 6 and 8 before all else
    abbrev tested : (v w : Bool) → Outcome Left → Outcome Left
    tested v w o = elim v [ true ↦ elim w [ true ↦ o | false ↦ refused 8 0 ] | false ↦ refused 6 0 ]

    -- a run turned down leaves standing and buffer as they are
    down-as : (f : Refusal) → run_under shares p s text (length d) ≡ refused (number_of f) 0
        → RanAs (run_under shares p s text (length d)) s s d d (Err (record { refusal = f; number = 0 }))
    down-as f e = rw e record { answer = refl; standing = refl; buffer = refl }

    pub at-fault : (f : Refusal) → number_of f ≡ lent_fault p s
        → RanAs (run_under shares p s text (length d)) s s d d (Err (record { refusal = f; number = 0 }))
    unfolding run_under run_from
    at-fault f a = down-as f down
      where
        by : (v w : Bool) (o : Outcome Left) → (◌≡◌ {A = ℕ} (cond v (cond w 0 8) 6) 0 → ⊥)
            → tested v w o ≡ refused (cond v (cond w 0 8) 6) 0
        by true true o h = absurd (h refl)
        by true false o h = refl
        by false w o h = refl

        down : run_under shares p s text (length d) ≡ refused (number_of f) 0
        down =
            by (valid p) (standing_passes (contracts_in p) s) _ (λ z. omega (arith, not_zero f, a ∙ z))
            ∙ ap (λ (k : ℕ). refused k 0) (sym a)

    -- the same by the fault's number: each that is not 0 is a refusal's
    pub number-at-fault : (n : ℕ) → n ≡ lent_fault p s → (n ≡ 0 → ⊥)
        → (f : Refusal) × (number_of f ≡ n)
        × RanAs (run_under shares p s text (length d)) s s d d (Err (record { refusal = f; number = 0 }))
    number-at-fault n a h =
        let named = by (valid p) (standing_passes (contracts_in p) s) (λ z. h (a ∙ z)) in
        (named.0, named.1 ∙ sym a, at-fault named.0 named.1)
      where
        by : (v w : Bool) → (◌≡◌ {A = ℕ} (cond v (cond w 0 8) 6) 0 → ⊥)
            → (f : Refusal) × (number_of f ≡ cond v (cond w 0 8) 6)
        by true true h = absurd (h refl)
        by true false h = (the.NotAStanding, refl)
        by false w h = (the.NotAProgramme, refl)

    -- then 28
    pub no-scale : 0 ≡ lent_fault p s → scale_passes shares ≡ false
        → RanAs (run_under shares p s text (length d)) s s d d (Err (record { refusal = the.NotAScale; number = 0 }))
    unfolding run_under run_from run_by
    no-scale z b = down-as the.NotAScale down
      where
        scale : run_by shares (contracts_in p) s text (length d) ≡ refused 28 0
        scale = simp (run_by, b)

        by : (v w : Bool) → ◌≡◌ {A = ℕ} (cond v (cond w 0 8) 6) 0
            → tested v w (run_by shares (contracts_in p) s text (length d)) ≡ refused 28 0
        by true true e = scale
        by true false e = absurd (omega arith)
        by false w e = absurd (omega arith)

        down : run_under shares p s text (length d) ≡ refused 28 0
        down = by (valid p) (standing_passes (contracts_in p) s) (sym z)

    -- then 9, and the lines
    module _ (g : Tested shares p s) where
      pub too_long : 65536 < length text
          → RanAs (run_under shares p s text (length d)) s s d d (Err (record { refusal = the.EventsTooLong; number = 0 }))
      unfolding run_under run_from run_by events_of
      too_long h =
          down-as the.EventsTooLong
          (simp (run_under, g.programme, run_from, g.standing)
          (simp (run_by, g.scale, events_of, lt-ltb 65536 (length text) h)))

      pub by_lines : length text ≤ 65536 → {s' : Standing} {d' : List ℕ} {r : Result ℕ Refused}
          → RanAs (run_lines shares (contracts_in p) s text (length d)) s s' d d' r
          → RanAs (run_under shares p s text (length d)) s s' d d' r
      unfolding run_under run_from run_by events_of
      by_lines h e =
          let through : run_under shares p s text (length d) ≡ run_lines shares (contracts_in p) s text (length d) =
          simp (run_under, g.programme, run_from, g.standing)
          (simp (run_by, g.scale, events_of, le-ltb 65536 (length text) h)) in
          rw through e
