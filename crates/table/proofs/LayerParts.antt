-- A layer's line in its four parts, the beginning, the rates, the placed share and the tail: what was read of each
-- makes the answer.
-- Assumes nothing.
use mathlib.Core.Path.{◌≡◌, refl, sym, ap, ◌∙◌}
use mathlib.Core.Bool.{Bool, true, false, cond}
use mathlib.Core.List.{List, [], ◌∷◌, ◌++◌}
use Rattle.std.specs.Prelude.{Option, None, Some}
use Prim.Native.Nat.{ℕ, ◌-◌, ◌≤◌}
use native.Mathlib.Omega.{arith}
use lib.Dec.{eqb}
use lib.ListN.{length, take, drop, get_or, length-drop, get_or-append}
use lib.Pointwise.{pointwise}
use lib.Seq.{take_all}
use Rattle.std.proofs.lemmas.Bool.Decides.{Decides-eqb}
use Rattle.std.proofs.lemmas.Slice.Eq.{slice_eq-Decides}
use Rattle.text.specs.Template.{capital, holes, filled, eight, matched, matched_at, whole_of, line_numbers}
use Rattle.text.specs.declared.template.Matched.{Matched}
use Rattle.text.proofs.Forms.{matched-read, filled-append}
use Rattle.text.proofs.Parts.{onward, matched-parts, matched-after}
use Rattle.text.proofs.Matching.{rest_at, Found, match_found, match_missing}
use Rattle.layer.specs.declared.terms.Terms.{Terms}
use Rattle.layer.specs.Layer.{rate_places}
use Rattle.table_text.specs.Forms.{plain_tail, time_tail, end_text, rates_text, terms_from, layer_numbers, tail_time, layer_terms}
use Rattle.table_text.proofs.LayerLines.{rates-holes, terms_of_lem, begin_missing, begin_found}
use Rattle.table_text.proofs.LayerLines.{tail-read, numbers-missing, tail-missing, terms-found}
use Rattle.table.specs.declared.form.RatesRead.{RatesRead}
use Rattle.table.specs.LayerLine.{rates_read_of, rates_at}

-- the tail of a line, from the place `at` on, by what of the two texts it is
module _ (s : List ℕ) (at : ℕ) where
  abbrev left : List ℕ
  left = take (length s - at) (drop at s)

  all_left : left ≡ drop at s
  all_left = take_all (length s - at) (drop at s) (omega (arith, length-drop at s))

  is_text : (t u : List ℕ) (r : Bool) → r ≡ pointwise eqb left u → u ≡ t → r ≡ true → drop at s ≡ t
  is_text t u r e k h = sym all_left ∙ (slice_eq-Decides Decides-eqb _ _ _ e).0 h ∙ k

  is_other : (t u : List ℕ) (r : Bool) → r ≡ pointwise eqb left u → u ≡ t → r ≡ false → drop at s ≡ t → ⊥
  is_other t u r e k h q =
      let same = (slice_eq-Decides Decides-eqb _ _ _ e).1 (all_left ∙ q ∙ sym k) in
      let z : ◌≡◌ {A = ℕ} 0 1 = cc in absurd (omega arith)

  module _ (u : List ℕ) (r : Bool) (e : r ≡ pointwise eqb left u) (k : u ≡ plain_tail) where
    pub ends-plain : r ≡ true → Some 0 ≡ tail_time (drop at s)
    unfolding tail_time line_numbers whole_of matched capital
    ends-plain h = rw (is_text plain_tail u r e k h) refl

    module _ (no : r ≡ false) (v : List ℕ) (f : Bool) (w : f ≡ pointwise eqb left v) (l : v ≡ time_tail) where
      pub ends-timed : f ≡ true → Some 1 ≡ tail_time (drop at s)
      unfolding tail_time line_numbers whole_of matched capital
      ends-timed h = rw (is_text time_tail v f w l h) refl

      pub ends_otherwise : f ≡ false → None ≡ tail_time (drop at s)
      ends_otherwise h = by_time (tail_time (drop at s)) refl
        where
          by_tail : (n : ℕ) (b : Bool) → drop at s ≡ cond b time_tail plain_tail → None ≡ Some n
          by_tail n true q = absurd (is_other time_tail v f w l h q)
          by_tail n false q = absurd (is_other plain_tail u r e k no q)

          by_time : (o : Option ℕ) → tail_time (drop at s) ≡ o → None ≡ o
          by_time None q = refl
          by_time (Some n) q = by_tail n (eqb n 1) (tail-read (drop at s) n q)

-- the rates that were read at a place of a text: these numbers, and the place after them
record RatesFound (s : List ℕ) (at k next : ℕ) (values : List ℕ) : Type 0 where
  numbers : List ℕ
  read : matched [] (rates_text k) (drop at s) ≡ Some (numbers, drop next s)
  kept : values ≡ rate_places numbers
  within : next ≤ length s

module _ (s : List ℕ) (at k : ℕ) where
  rates-found : (r : RatesRead) → at ≤ length s → Some r ≡ rates_at s at k → RatesFound s at k r.end r.values
  unfolding rates_at
  rates-found r h = by_read (matched [] (rates_text k) (drop at s)) refl
    where
      by_read : (o : Option (List ℕ × List ℕ)) → matched [] (rates_text k) (drop at s) ≡ o
          → Some r ≡ rates_read_of (length s) o → RatesFound s at k r.end r.values
      by_read None e w = let z : ◌≡◌ {A = ℕ} 0 1 = cc in absurd (omega arith)
      by_read (Some p) e w =
          let same : r ≡ record { end = length s - length p.1; values = rate_places p.0 } = cc in
          let place : r.end ≡ length s - length p.1 = ap (λ (x : RatesRead). x.end) same in
          let f = matched-read (rates_text k) [] (drop at s) p.0 p.1 e in
          let text = f.text ∙ filled-append (rates_text k) f.numbers [] p.1 in
          record {
            numbers = p.0;
            read = e ∙ rw (place, ← rest_at s at (filled (rates_text k) f.numbers []) p.1 h text);
            kept = ap (λ (x : RatesRead). x.values) same;
            within = omega arith;
          }

  rates-missing : None ≡ rates_at s at k → matched [] (rates_text k) (drop at s) ≡ None
  unfolding rates_at
  rates-missing = by_read (matched [] (rates_text k) (drop at s)) refl
    where
      by_read : (o : Option (List ℕ × List ℕ)) → matched [] (rates_text k) (drop at s) ≡ o
          → None ≡ rates_read_of (length s) o → matched [] (rates_text k) (drop at s) ≡ None
      by_read None e w = e
      by_read (Some p) e w = let z : ◌≡◌ {A = ℕ} 0 1 = cc in absurd (omega arith)

end-holes : holes end_text ≡ 1
unfolding holes capital
end-holes = refl

-- the terms of five numbers, rates and one number more, as they were read, and of a time
layer-terms : (ns qs ms v w vs : List ℕ) (time : ℕ) → length ns ≡ 5 → length qs ≡ get_or ns 3 0 → length ms ≡ 1
    → v ≡ eight ns → w ≡ eight ms → vs ≡ rate_places qs
    → record {
      attachment = get_or v 0 0;
      limit = get_or v 1 0;
      deductible = get_or v 2 0;
      reinstatements = get_or v 3 0;
      premium = get_or v 4 0;
      placed = get_or w 0 0;
      rates = vs;
      time = time;
    } ≡ terms_from ((ns ++ qs) ++ ms) time
layer-terms [] qs ms v w vs t n k m a b c = absurd (omega arith)
layer-terms (x ∷ []) qs ms v w vs t n k m a b c = absurd (omega arith)
layer-terms (x ∷ y ∷ []) qs ms v w vs t n k m a b c = absurd (omega arith)
layer-terms (x ∷ y ∷ z ∷ []) qs ms v w vs t n k m a b c = absurd (omega arith)
layer-terms (x ∷ y ∷ z ∷ u ∷ []) qs ms v w vs t n k m a b c = absurd (omega arith)
layer-terms (x ∷ y ∷ z ∷ u ∷ p ∷ []) qs [] v w vs t n k m a b c = absurd (omega arith)
layer-terms (x ∷ y ∷ z ∷ u ∷ p ∷ []) qs (s ∷ []) v w vs t n k m a b c =
    rw (a, b, c) (sym (terms_of_lem x y z u p qs s t k))
layer-terms (x ∷ y ∷ z ∷ u ∷ p ∷ []) qs (s ∷ r ∷ ms) v w vs t n k m a b c = absurd (omega arith)
layer-terms (x ∷ y ∷ z ∷ u ∷ p ∷ o ∷ ns) qs ms v w vs t n k m a b c = absurd (omega arith)

-- the answer, from what was read of the parts of a line
module _ (begin s : List ℕ) where
  pub no-beginning : None ≡ matched_at begin s 0 → None ≡ layer_terms begin s
  no-beginning e = sym (numbers-missing begin s (begin_missing begin s (match_missing begin s 0 e)))

  module _ (count : holes begin ≡ 5) (first : Matched) (q : Some first ≡ matched_at begin s 0) where
    begun : Found begin s 0 first.end first.values
    begun = match_found begin s 0 first (omega arith) q

    pub beginning-within : first.end ≤ length s
    beginning-within = begun.within

    five : length begun.numbers ≡ 5
    five =
        let f = matched-read begin [] s begun.numbers (drop first.end s) begun.read in
        ap length f.read ∙ f.count ∙ count

    same : get_or first.values 3 0 ≡ get_or begun.numbers 3 0
    same =
        ap (λ (v : List ℕ). get_or v 3 0) begun.padded
        ∙ get_or-append begun.numbers _ 0 3 (omega (arith, five))

    as_many : rates_at s first.end (get_or first.values 3 0) ≡ rates_at s first.end (get_or begun.numbers 3 0)
    as_many = ap (rates_at s first.end) same

    -- the line's numbers, after those of its beginning
    onwards : layer_numbers begin s
        ≡ onward begun.numbers end_text (matched [] (rates_text (get_or begun.numbers 3 0)) (drop first.end s))
    onwards =
        let ns = begun.numbers in
        let k = get_or ns 3 0 in
        begin_found begin s ns (drop first.end s) begun.read
        ∙ matched-parts begin (rates_text k ++ end_text) [] s
        ∙ ap (onward [] (rates_text k ++ end_text)) begun.read
        ∙ matched-parts (rates_text k) end_text ns (drop first.end s)

    pub no-rates : None ≡ rates_at s first.end (get_or first.values 3 0) → None ≡ layer_terms begin s
    no-rates e = sym (numbers-missing begin s (onwards ∙ rw (rates-missing s first.end _ (e ∙ as_many))))

    module _ (back : RatesRead) (e : Some back ≡ rates_at s first.end (get_or first.values 3 0)) where
      rated : RatesFound s first.end (get_or begun.numbers 3 0) back.end back.values
      rated = rates-found s first.end _ back beginning-within (e ∙ as_many)

      pub rates-within : back.end ≤ length s
      rates-within = rated.within

      many : length rated.numbers ≡ get_or begun.numbers 3 0
      many =
          let f = matched-read (rates_text _) [] (drop first.end s) rated.numbers (drop back.end s) rated.read in
          ap length f.read ∙ f.count ∙ rates-holes _

      -- after those of its rates
      afterwards : layer_numbers begin s
          ≡ onward (begun.numbers ++ rated.numbers) [] (matched [] end_text (drop back.end s))
      afterwards = onwards ∙ rw rated.read (matched-after end_text (begun.numbers ++ rated.numbers) (drop back.end s))

      pub no_end : None ≡ matched_at end_text s back.end → None ≡ layer_terms begin s
      no_end f = sym (numbers-missing begin s (afterwards ∙ rw (match_missing end_text s back.end f)))

      module _ (last : Matched) (f : Some last ≡ matched_at end_text s back.end) where
        placed : Found end_text s back.end last.end last.values
        placed = match_found end_text s back.end last rates-within f

        pub end-within : last.end ≤ length s
        end-within = placed.within

        one : length placed.numbers ≡ 1
        one =
            let g = matched-read end_text [] (drop back.end s) placed.numbers (drop last.end s) placed.read in
            ap length g.read ∙ g.count ∙ end-holes

        -- all of them, and what is left
        numbers : layer_numbers begin s
            ≡ Some ((begun.numbers ++ rated.numbers) ++ placed.numbers, drop last.end s)
        unfolding matched
        numbers = afterwards ∙ rw placed.read

        pub no-tail : None ≡ tail_time (drop last.end s) → None ≡ layer_terms begin s
        no-tail t = sym (tail-missing begin s _ (drop last.end s) numbers (sym t))

        pub whole-layer : (time : ℕ) → Some time ≡ tail_time (drop last.end s) → Some (record {
          attachment = get_or first.values 0 0;
          limit = get_or first.values 1 0;
          deductible = get_or first.values 2 0;
          reinstatements = get_or first.values 3 0;
          premium = get_or first.values 4 0;
          placed = get_or last.values 0 0;
          rates = back.values;
          time = time;
        }) ≡ layer_terms begin s
        whole-layer time t =
            rw (terms-found begin s _ (drop last.end s) numbers time (sym t))
            (ap (λ (x : Terms). Some x)
            (layer-terms begun.numbers rated.numbers placed.numbers first.values last.values
            back.values time five many one begun.padded placed.padded rated.kept))
