-- A form that is read by its fixed bytes and its numbers, not byte by byte along a template.
-- Assumes nothing.
use Rattle.std.proofs.Common.{◌≡◌, ℕ, suc, ◌+◌, ◌*◌, ◌/◌, ◌^◌, ◌<◌, ◌≤◌, Bool, true, false, eqb, List, [], ◌∷◌, ◌++◌, length, get_or, drop, sym, refl, ap, ◌∙◌, arith, length-drop, drop_of_length-le, get_or-drop, drop-cons, drop-drop, pow-add, eq-eqb, ne_eqb}
use Rattle.std.specs.Prelude.{Option, Some, None}
use Rattle.lists.specs.Each.{Each}
use Rattle.lists.proofs.Cases.{by_test, by-eq}
use Rattle.text.specs.Begin.{begins, Stands}
use Rattle.text.specs.Number.{number_at}
use Rattle.text.specs.Template.{capital, holes, matched}
use Rattle.text.specs.Word.{byte_of, BytesAt}
use Rattle.text.proofs.Ascii.{Byte}
use Rattle.text.proofs.Matching.{number-found, number-missing}
use Rattle.text.proofs.Templates.{holes-number, holes-byte}
use Rattle.text.proofs.Templates.{matched-number, matched-no-number, matched-same, matched-other}
use Rattle.text.proofs.Words.{next-byte}

-- bytes as one word, the first lowest
abbrev pub word_of : List ℕ → ℕ
word_of [] = 0
word_of (b ∷ u) = b + 256 * word_of u

same-begins : (b a : ℕ) (u x : List ℕ) → b ≡ a → begins (b ∷ u) (a ∷ x) ≡ begins u x
unfolding begins
same-begins b a u x e = simp (begins, eq-eqb b a e)

other-begins : (b a : ℕ) (u x : List ℕ) → (b ≡ a → ⊥) → begins (b ∷ u) (a ∷ x) ≡ false
unfolding begins
other-begins b a u x n = simp (begins, ne_eqb b a n)

-- a word of one byte more
word_more : (b a : ℕ) (u x : List ℕ) (r : ℕ) → b < 256 → byte_of r 0 ≡ a → eqb (r / 256) (word_of u) ≡ begins u x
    → eqb r (b + 256 * word_of u) ≡ begins (b ∷ u) (a ∷ x)
word_more b a u x r l e rest = by-eq b a here elsewhere
  where
    elsewhere : (b ≡ a → ⊥) → eqb r (b + 256 * word_of u) ≡ begins (b ∷ u) (a ∷ x)
    elsewhere n = ne_eqb r (b + 256 * word_of u) (λ q. n (omega arith)) ∙ sym (other-begins b a u x n)

    here : b ≡ a → eqb r (b + 256 * word_of u) ≡ begins (b ∷ u) (a ∷ x)
    here y = same ∙ rest ∙ sym (same-begins b a u x y)
      where
        same : eqb r (b + 256 * word_of u) ≡ eqb (r / 256) (word_of u)
        same =
            by-eq (r / 256) (word_of u)
            (λ z. eq-eqb r (b + 256 * word_of u) (omega arith) ∙ sym (eq-eqb (r / 256) (word_of u) z))
            (λ z. ne_eqb r (b + 256 * word_of u) (λ q. z (omega arith)) ∙ sym (ne_eqb (r / 256) (word_of u) z))

shorter : (n r : ℕ) → r < 2 ^ (8 * suc n) → r / 256 < 2 ^ (8 * n)
shorter n r g =
    let e : 8 * suc n ≡ 8 * n + 8 = omega arith in
    let q : 2 ^ (8 * suc n) ≡ 2 ^ (8 * n) * 256 = ap (λ (k : ℕ). 2 ^ k) e ∙ pow-add 2 (8 * n) 8 in
    omega arith

-- a word of bytes against the bytes of a text
word_begins : (u x : List ℕ) (r : ℕ) → Each Byte u → length u ≤ length x → r < 2 ^ (8 * length u)
    → ((k : ℕ) → k < length u → byte_of r k ≡ get_or x k 0) → eqb r (word_of u) ≡ begins u x
unfolding begins
word_begins [] x r p l f e = eq-eqb r 0 (omega arith)
word_begins (b ∷ u) [] r p l f e = absurd (omega arith)
word_begins (b ∷ u) (a ∷ x) r p l f e =
    word_more b a u x r p.0 (e 0 (omega arith))
    (word_begins u x (r / 256) p.1 (omega arith) (shorter (length u) r f)
    (λ k h. sym (next-byte r k) ∙ e (suc k) (omega arith)))

-- the same at a place
pub bytes_begin : (u s : List ℕ) (at r : ℕ) → Each Byte u → at + length u ≤ length s → BytesAt s at (length u) r
    → eqb r (word_of u) ≡ begins u (drop at s)
bytes_begin u s at r p l h =
    word_begins u (drop at s) r p (omega (arith, length-drop at s)) h.fits
    (λ k g. h.each k g ∙ sym (get_or-drop at s k 0))

-- bytes without a number's place stand for themselves
first_plain : (b : ℕ) (u : List ℕ) → holes (b ∷ u) ≡ 0 → (false ≡ capital b) × (holes u ≡ 0)
first_plain b u h =
    by_test (capital b)
    (λ e. absurd (omega (arith, holes-number b u e)))
    (λ e. (e, sym (holes-byte b u e) ∙ h))

-- the fixed bytes that a form begins with
matched-begun : (u t ns x : List ℕ) → holes u ≡ 0 → begins u x ≡ true
    → matched ns (u ++ t) x ≡ matched ns t (drop (length u) x)
unfolding begins
matched-begun [] t ns x p e = refl
matched-begun (b ∷ u) t ns [] p e = let z : ◌≡◌ {A = ℕ} 0 1 = cc in absurd (omega arith)
matched-begun (b ∷ u) t ns (a ∷ x) p e =
    let f = first_plain b u p in
    by-eq b a
    (λ y. matched-same b (u ++ t) f.0 ns a x y ∙ matched-begun u t ns x f.1 (sym (same-begins b a u x y) ∙ e))
    (λ n. let g : false ≡ true = sym (other-begins b a u x n) ∙ e in
    let z : ◌≡◌ {A = ℕ} 0 1 = cc in absurd (omega arith))

pub matched-other-beginning : (u t ns x : List ℕ) → holes u ≡ 0 → begins u x ≡ false → matched ns (u ++ t) x ≡ None
unfolding begins matched
matched-other-beginning [] t ns x p e = let z : ◌≡◌ {A = ℕ} 0 1 = cc in absurd (omega arith)
matched-other-beginning (b ∷ u) t ns [] p e = refl
matched-other-beginning (b ∷ u) t ns (a ∷ x) p e =
    let f = first_plain b u p in
    by-eq b a
    (λ y. matched-same b (u ++ t) f.0 ns a x y
    ∙ matched-other-beginning u t ns x f.1 (sym (same-begins b a u x y) ∙ e))
    (λ n. matched-other b (u ++ t) f.0 ns a x n)

-- a text that ends with or before them
pub matched-short : (u : List ℕ) (b : ℕ) (t ns x : List ℕ) → holes u ≡ 0 → length x ≤ length u
    → matched ns (u ++ (b ∷ t)) x ≡ None
unfolding matched
matched-short u b t ns x p l =
    by_test (begins u x)
    (λ e. matched-begun u (b ∷ t) ns x p (sym e) ∙ rw (drop_of_length-le x l))
    (λ e. matched-other-beginning u (b ∷ t) ns x p (sym e))

-- at the place j of the text s, where o is what is read in all
module _ (s : List ℕ) (j : ℕ) (o : Option (List ℕ × List ℕ)) (ns : List ℕ) where
  pub fixed_read : (u t : List ℕ) → holes u ≡ 0 → o ≡ matched ns (u ++ t) (drop j s) → begins u (drop j s) ≡ true
      → o ≡ matched ns t (drop (j + length u) s)
  fixed_read u t p q e = q ∙ matched-begun u t ns (drop j s) p e ∙ ap (matched ns t) (drop-drop (length u) j s)

  -- a number is read there
  module _ (c : ℕ) (t : List ℕ) (q : o ≡ matched ns (c ∷ t) (drop j s)) (k : true ≡ capital c) (r : Option (ℕ × ℕ))
      (e : r ≡ number_at s j) where
    pub number-none : r ≡ None → o ≡ None
    number-none z = q ∙ matched-no-number c t k ns (drop j s) (number-missing s j (sym z ∙ e))

    module _ (h : j ≤ length s) (v next : ℕ) (z : r ≡ Some (v, next)) where
      pub number-read-on : o ≡ matched (ns ++ (v ∷ [])) t (drop next s)
      number-read-on =
          q ∙ matched-number c t k ns (drop j s) (drop next s) v (number-found s j v next h (sym z ∙ e)).0

      pub number-within : next ≤ length s
      number-within = (number-found s j v next h (sym z ∙ e)).1

-- the byte b stands after a number, or not
module _ (s : List ℕ) (j : ℕ) (o : Option (List ℕ × List ℕ)) (ns : List ℕ) (b : ℕ) (t : List ℕ)
    (q : o ≡ matched ns (b ∷ t) (drop j s)) (p : holes (b ∷ []) ≡ 0) (f : Bool) (g : Stands s j b f) where
  pub byte-read : f ≡ true → o ≡ matched ns t (drop (j + 1) s)
  byte-read y = fixed_read s j o ns (b ∷ []) t p q (sym g.same ∙ y)

  pub byte-other : f ≡ false → o ≡ None
  byte-other y = q ∙ matched-other-beginning (b ∷ []) t ns (drop j s) p (sym g.same ∙ y)

-- one byte at a place
pub stands_here : (s : List ℕ) (at b : ℕ) → at < length s → Stands s at b (eqb b (get_or s at 0))
unfolding begins
stands_here s at b l = record { same = rw (drop-cons s at 0 l) (whether (eqb b (get_or s at 0))); within = λ e. l }
  where
    whether : (t : Bool) → t ≡ elim t [ true ↦ true | false ↦ false ]
    whether true = refl
    whether false = refl

pub stands-nowhere : (s : List ℕ) (at b : ℕ) → length s ≤ at → Stands s at b false
unfolding begins
stands-nowhere s at b l =
    record { same = rw (drop_of_length-le s l); within = λ e. let z : ◌≡◌ {A = ℕ} 0 1 = cc in absurd (omega arith) }
