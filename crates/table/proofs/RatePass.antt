-- The rates of a layer's line, one by one: read from a place of a text on, and put into a buffer.
-- Assumes nothing.
use mathlib.Core.Path.{◌≡◌, refl, sym, ap, ◌∙◌}
use mathlib.Core.Bool.{Bool, true, false}
use mathlib.Core.List.{List, [], ◌∷◌, ◌++◌, append_assoc}
use Rattle.std.specs.Prelude.{Option, None, Some}
use Prim.Native.Nat.{ℕ, suc, ◌+◌, ◌-◌, ◌≤◌, ◌<◌}
use native.Mathlib.Nat.{sub-zero}
use native.Mathlib.Numerals.{add-one}
use native.Mathlib.Omega.{arith}
use lib.ListN.{length, take, drop, get_or, set, replicate}
use lib.ListN.{length-append, length-replicate, length-drop}
use lib.Seq.{drop-cons, set_at, take-append-le, take-set-lt}
use Rattle.text.specs.Begin.{Stands}
use Rattle.text.specs.Buffer.{Put}
use Rattle.text.specs.Number.{number_at}
use Rattle.text.specs.Template.{capital, holes, filled, matched}
use Rattle.text.proofs.Begins.{byte-read, byte-other, number-none, number-read-on, number-within}
use Rattle.text.proofs.Parts.{filled-parts}
use Rattle.text.proofs.Pieces.{filled-append}
use Rattle.text.proofs.Passes.{Passing, passed-short, one-passed, all-passed}
use Rattle.layer.specs.Layer.{rate_places}
use Rattle.table_text.specs.Forms.{rate_text, rates_text}
use Rattle.table.specs.LayerLine.{rates_at}

-- rates in twenty places, with one more: in the place after them, or nowhere
place-more : (qs : List ℕ) (q : ℕ) → length qs < 20 → set (rate_places qs) (length qs) q ≡ rate_places (qs ++ (q ∷ []))
place-more qs q h =
    let l = qs ++ (q ∷ replicate 19 0) in
    let long : 20 ≤ length l = omega (arith, length-append qs (q ∷ replicate 19 0), length-replicate {A = ℕ} 19 0) in
    sym (take-set-lt 20 (qs ++ replicate 20 0) (length qs) q h)
    ∙ ap (take 20) (set_at qs 0 (replicate 19 0) q (length qs) refl)
    ∙ sym (take-append-le 20 l (0 ∷ []) long)
    ∙ ap (take 20) (append_assoc qs (q ∷ replicate 19 0) (0 ∷ []) ∙ sym (append_assoc qs (q ∷ []) (replicate 20 0)))

place-full : (qs : List ℕ) (q : ℕ) → 20 ≤ length qs → rate_places qs ≡ rate_places (qs ++ (q ∷ []))
place-full qs q h =
    take-append-le 20 qs (replicate 20 0) h
    ∙ sym (take-append-le 20 qs (q ∷ replicate 20 0) h)
    ∙ ap (take 20) (sym (append_assoc qs (q ∷ []) (replicate 20 0)))

-- Of `count` rates from the place `at` of the text s on, i are read: these numbers, the first twenty of them kept. The
-- others, from the place `next` on, give the whole answer.
pub record Rating (s : List ℕ) (at count : ℕ) (values : List ℕ) (next i : ℕ) : Type 0 where
  pub numbers : List ℕ
  pub many : length numbers ≡ i
  pub kept : values ≡ rate_places numbers
  pub few : i ≤ count
  pub within : next ≤ length s
  pub rest : matched [] (rates_text count) (drop at s) ≡ matched numbers (rates_text (count - i)) (drop next s)

pub none-rated : (s : List ℕ) (at count : ℕ) → at ≤ length s → Rating s at count (replicate 20 0) at 0
none-rated s at count h = record {
  numbers = [];
  many = refl;
  kept = refl;
  few = omega arith;
  within = h;
  rest = rw sub-zero;
}

module _ (s : List ℕ) (at count : ℕ) (values : List ℕ) (next i : ℕ) (g : Rating s at count values next i) where
  -- no rate is left
  pub all-rated : count ≤ i → Some (record { end = next; values = values }) ≡ rates_at s at count
  unfolding rates_at rates_text matched
  all-rated h =
      let none_left : count - i ≡ 0 = omega arith in
      let all : matched [] (rates_text count) (drop at s) ≡ Some (g.numbers, drop next s) = g.rest ∙ rw none_left in
      let place : next ≡ length s - length (drop next s) = omega (arith, length-drop next s, g.within) in
      rw (all, ← place, g.kept)

  missing : matched [] (rates_text count) (drop at s) ≡ None → None ≡ rates_at s at count
  unfolding rates_at
  missing e = rw e

  -- one rate more
  module _ (more : i < count) where
    ahead : rates_text (count - i) ≡ 32 ∷ 81 ∷ rates_text (count - (i + 1))
    unfolding rates_text
    ahead = let e : count - i ≡ suc (count - (i + 1)) = omega arith in rw e

    begun : matched [] (rates_text count) (drop at s)
        ≡ matched g.numbers (32 ∷ 81 ∷ rates_text (count - (i + 1))) (drop next s)
    begun = g.rest ∙ rw ahead

    module _ (r : Bool) (t : Stands s next 32 r) where
      pub no-blank : r ≡ false → None ≡ rates_at s at count
      unfolding holes capital
      no-blank e = missing (byte-other s next _ g.numbers 32 _ begun refl r t e)

      module _ (e : r ≡ true) (n : Option (ℕ × ℕ)) (q : n ≡ number_at s (next + 1)) where
        blank : matched [] (rates_text count) (drop at s)
            ≡ matched g.numbers (81 ∷ rates_text (count - (i + 1))) (drop (next + 1) s)
        unfolding holes capital
        blank = byte-read s next _ g.numbers 32 _ begun refl r t e

        pub no_rate : n ≡ None → None ≡ rates_at s at count
        unfolding capital
        no_rate z = missing (number-none s (next + 1) _ g.numbers 81 _ blank refl n q z)

        module _ (v after : ℕ) (z : n ≡ Some (v, after)) where
          inside : next + 1 ≤ length s
          inside = omega (arith, t.within e)

          rated : (vs : List ℕ) → vs ≡ rate_places (g.numbers ++ (v ∷ [])) → Rating s at count vs after (i + 1)
          unfolding capital
          rated vs k = record {
            numbers = g.numbers ++ (v ∷ []);
            many = length-append g.numbers (v ∷ []) ∙ rw g.many;
            kept = k;
            few = omega arith;
            within = number-within s (next + 1) _ g.numbers 81 _ blank refl n q inside v after z;
            rest = number-read-on s (next + 1) _ g.numbers 81 _ blank refl n q inside v after z;
          }

          pub rate_kept : i < 20 → Rating s at count (set values i v) after (i + 1)
          rate_kept l =
              rated (set values i v)
              (rw (g.kept, ← g.many) (place-more g.numbers v (omega (arith, g.many))))

          pub rate_dropped : 20 ≤ i → Rating s at count values after (i + 1)
          rate_dropped l = rated values (g.kept ∙ place-full g.numbers v (omega (arith, g.many)))

-- what is printed of the rates from the place i on
abbrev rest : List ℕ → ℕ → List ℕ
rest qs i = filled (rates_text (length qs - i)) (drop i qs) []

-- A pass that puts the rates qs, as `Passing` says.
abbrev pub Charged : (qs : List ℕ) (d : List ℕ) (at : ℕ) (d' : List ℕ) (next i : ℕ) → Type 0
Charged qs d at d' next i = Passing (rest qs) 40 qs (length qs) d at d' next i

module _ (qs : List ℕ) (d : List ℕ) (at : ℕ) (d' : List ℕ) (next i : ℕ) (g : Charged qs d at d' next i) where
  pub charged-short : length qs ≤ 20 → next ≤ at + 800
  charged-short k = omega (arith, passed-short _ _ _ _ _ _ _ _ _ g)

  next_rate : i < length qs → rest qs i ≡ filled rate_text (get_or qs i 0 ∷ []) [] ++ rest qs (i + 1)
  unfolding rates_text holes capital
  next_rate more =
      let e : length qs - i ≡ suc (length qs - suc i) = omega arith in
      rw (e, drop-cons qs i 0 more, add-one i)
      (filled-parts rate_text (rates_text (length qs - suc i)) (get_or qs i 0 ∷ []) (drop (suc i) qs) [] refl
      ∙ filled-append rate_text (get_or qs i 0 ∷ []) (filled (rates_text (length qs - suc i)) (drop (suc i) qs) []))

  pub one-charged : i < length qs → {d'' : List ℕ} {end : ℕ}
      → Put d' next (filled rate_text (get_or qs i 0 ∷ []) []) d'' end → end ≤ next + 40
      → Charged qs d at d'' end (i + 1)
  one-charged more p k = one-passed _ _ _ _ _ _ _ _ _ g _ more (next_rate more) p k

  -- no rate is left
  pub all-charged : length qs ≤ i → Put d at (filled (rates_text (length qs)) qs []) d' next
  unfolding rates_text filled
  all-charged ended =
      let none : length qs - length qs ≡ 0 = omega arith in
      rw sub-zero at (all-passed _ _ _ _ _ _ _ _ _ g ended (rw none))
