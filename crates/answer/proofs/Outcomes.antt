-- A text that fits its buffer is written, one that is longer is refused with 7: what is answered then, and what the
-- buffer is after it.
-- Assumes nothing.
use mathlib.Core.Path.{◌≡◌, sym, subst}
use mathlib.Core.List.{List}
use Prim.Native.Nat.{ℕ, ◌≤◌, ◌<◌}
use native.Mathlib.Omega.{arith}
use borrow.Author.Tests.{lt-ltb, le-ltb}
use lib.ListN.{length}
use Rattle.lists.proofs.Cases.{by-lt}
use Rattle.text.specs.Buffer.{Put}
use Rattle.text.proofs.Puts.{put_whole}
use Rattle.answer.specs.Outcome.{Outcome, refused, written, fitted, buffer_after}

module _ {A : Type 0} (room : ℕ) (s : List ℕ) (a : A) where
  pub fits : length s ≤ room → fitted room s a ≡ written s a
  unfolding fitted
  fits h = simp (fitted, le-ltb room (length s) h)

  pub too_long : room < length s → fitted room s a ≡ refused 7 (length s)
  unfolding fitted
  too_long h = simp (fitted, lt-ltb room (length s) h)

  -- what holds of both outcomes holds of the text
  pub either_way : (Φ : Outcome A → Type 0) → (length s ≤ room → Φ (written s a))
      → (room < length s → Φ (refused 7 (length s))) → Φ (fitted room s a)
  either_way Φ f g =
      by-lt room (length s) (λ h. subst Φ (sym (too_long h)) (g h)) (λ h. subst Φ (sym (fits h)) (f h))

-- an outcome tells what is left
pub left-same : {A : Type 0} {s t : List ℕ} {a b : A} → written s a ≡ written t b → a ≡ b
left-same e = cc

-- a text that was put into a buffer which holds it
module _ {A : Type 0} (s d : List ℕ) (a : A) {d' : List ℕ} {n : ℕ} (q : Put d 0 s d' n) (h : n ≤ length d) where
  put-size : length s ≡ n
  put-size = omega (arith, q.place)

  pub put_written : fitted (length d) s a ≡ written s a
  put_written = fits (length d) s a (omega (arith, put-size))

  pub put-after : d' ≡ buffer_after (fitted (length d) s a) d
  put-after = rw put_written (put_whole (omega (arith, put-size)) q)
