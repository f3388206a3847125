-- An amount of each of some layers, as its spent amount or its timed premium, stored place by place, and as many
-- amounts stored over those between others.
-- Assumes nothing.
use mathlib.Core.Path.{◌≡◌, ap, sym, ◌∙◌}
use mathlib.Core.List.{List, ◌++◌, map, map-append, append_assoc}
use Prim.Native.Nat.{ℕ, ◌+◌, ◌-◌, ◌<◌}
use native.Mathlib.Omega.{arith}
use lib.ListN.{length, take, drop, get_or, get_or-map, set, replicate, length-set, length-map, length-append}
use lib.Seq.{take_at, drop_at}
use Rattle.lists.specs.Places.{in_places}
use Rattle.layer.specs.declared.record.Layer.{Layer}
use Rattle.standings.proofs.Loads.{take_next}

module _ (of : Layer → ℕ) where
  abbrev amounts : List Layer → List ℕ
  amounts ls = map of ls

  -- the first i amounts are stored
  pub record Stored (ls : List Layer) (ms : List ℕ) (i : ℕ) : Type 0 where
    pub places : length ms ≡ length ls
    pub stored : take i ms ≡ take i (amounts ls)

  module _ {ls : List Layer} {ms : List ℕ} {i : ℕ} (g : Stored ls ms i) where
    pub store_next : (d : Layer) → i < length ls → (n : ℕ) → n ≡ of (get_or ls i d) → Stored ls (set ms i n) (i + 1)
    store_next d h n e = record {
      places = length-set ms i n ∙ g.places;
      stored =
          take_next ms (amounts ls) i n (of d) (omega (arith, g.places)) (omega (arith, length-map ls of)) g.stored
          (e ∙ sym (get_or-map of ls i d));
    }

  -- amounts stored over as many that stood between the same others: the places of all of them
  pub between-stored : (front ls before rest : List Layer) (f n : ℕ) → length front ≡ f → length ls ≡ length before
      → f + length before ≡ n
      → take f (in_places 0 (amounts (front ++ (before ++ rest))))
      ++ (amounts ls ++ drop n (in_places 0 (amounts (front ++ (before ++ rest)))))
      ≡ in_places 0 (amounts (front ++ (ls ++ rest)))
  between-stored front ls before rest f n ef same en =
      let all = front ++ (before ++ rest) in
      let zeros : List ℕ = replicate (8 - length (amounts all)) 0 in
      let long : length (amounts front) ≡ f = length-map front of ∙ ef in
      let apart : (mid : List Layer)
      → amounts (front ++ (mid ++ rest)) ++ zeros
      ≡ amounts front ++ (amounts mid ++ (amounts rest ++ zeros)) =
      λ mid.
      ap (λ (l : List ℕ). l ++ zeros)
      (map-append of front (mid ++ rest) ∙ ap (λ (l : List ℕ). amounts front ++ l) (map-append of mid rest))
      ∙ append_assoc (amounts front) (amounts mid ++ amounts rest) zeros
      ∙ ap (λ (l : List ℕ). amounts front ++ l) (append_assoc (amounts mid) (amounts rest) zeros) in
      let first : take f (amounts all ++ zeros) ≡ amounts front =
      ap (take f) (apart before) ∙ take_at (amounts front) (amounts before ++ (amounts rest ++ zeros)) f long in
      let until : length (amounts front ++ amounts before) ≡ n =
      omega (arith, length-append (amounts front) (amounts before), long, length-map before of, en) in
      let behind : drop n (amounts all ++ zeros) ≡ amounts rest ++ zeros =
      ap (drop n) (apart before ∙ sym (append_assoc (amounts front) (amounts before) (amounts rest ++ zeros)))
      ∙ drop_at (amounts front ++ amounts before) (amounts rest ++ zeros) n until in
      let count : length (amounts all) ≡ length (amounts (front ++ (ls ++ rest))) =
      length-map all of
      ∙ omega (
        arith,
        length-append front (before ++ rest),
        length-append before rest,
        length-append front (ls ++ rest),
        length-append ls rest,
        same,
      )
      ∙ sym (length-map (front ++ (ls ++ rest)) of) in
      (λ j. first j ++ (amounts ls ++ behind j))
      ∙ sym (apart ls)
      ∙ ap (λ (k : ℕ). amounts (front ++ (ls ++ rest)) ++ replicate (8 - k) 0) count
