-- The bracket and the line feed that end a line.
-- Assumes nothing.
use mathlib.Core.Path.{◌≡◌, refl, sym, ◌∙◌}
use mathlib.Core.Bool.{Bool, true, false}
use mathlib.Core.List.{List, [], ◌∷◌}
use Prim.Native.Nat.{ℕ, ◌+◌}
use native.Mathlib.Omega.{arith}
use borrow.Author.Tests.{eq-eqb, ne_eqb}
use lib.ListN.{drop}
use lib.Seq.{drop-drop}
use Rattle.lists.proofs.Cases.{by-eq}
use Rattle.text.specs.Begin.{begins, Stands}
use Rattle.text.specs.Bytes.{bytes}

-- the two bytes that end a line
abbrev pub line_ending : List ℕ
line_ending = bytes ")\n"

pub begins-other : (b a : ℕ) (u x : List ℕ) → (a ≡ b → ⊥) → false ≡ begins (b ∷ u) (a ∷ x)
unfolding begins
begins-other b a u x h = sym (simp (begins, ne_eqb b a (λ e. h (sym e))))

pub begins-same : (b : ℕ) (u x : List ℕ) → begins u x ≡ begins (b ∷ u) (b ∷ x)
unfolding begins
begins-same b u x = let same : b ≡ b = refl in sym (simp (begins, eq-eqb b b same))

-- what the first byte says of the beginning, where it stands and where it does not
begun : (x : List ℕ) → true ≡ begins (41 ∷ []) x → begins (10 ∷ []) (drop 1 x) ≡ begins line_ending x
unfolding begins
begun [] e = let z : ◌≡◌ {A = ℕ} 1 0 = cc in absurd (omega arith)
begun (a ∷ x) e =
    by-eq a 41 (λ q. rw q (begins-same 41 (10 ∷ []) x))
    (λ q. absurd (apart (e ∙ sym (begins-other 41 a [] x q))))
  where
    apart : true ≡ false → ⊥
    apart e = let z : ◌≡◌ {A = ℕ} 1 0 = cc in omega arith

not_begun : (x : List ℕ) → false ≡ begins (41 ∷ []) x → false ≡ begins line_ending x
unfolding begins
not_begun [] e = refl
not_begun (a ∷ x) e =
    by-eq a 41 (λ q. absurd (apart (e ∙ rw q (sym (begins-same 41 [] x))))) (λ q. begins-other 41 a (10 ∷ []) x q)
  where
    apart : false ≡ true → ⊥
    apart e = let z : ◌≡◌ {A = ℕ} 0 1 = cc in omega arith

module _ (s : List ℕ) (at : ℕ) (r : Bool) (g : Stands s at 41 r) where
  -- the bracket stands, and the line feed after it or not
  pub ends-by-both : r ≡ true → (f : Bool) → Stands s (at + 1) 10 f → f ≡ begins line_ending (drop at s)
  ends-by-both e f h =
      h.same ∙ rw (← drop-drop 1 at s) (begun (drop at s) (sym e ∙ g.same))

  -- the bracket does not stand
  pub ends_not : r ≡ false → r ≡ begins line_ending (drop at s)
  ends_not e = e ∙ not_begun (drop at s) (sym e ∙ g.same)
