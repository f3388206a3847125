-- A pass over treaties or layers that puts the line of each, with its line feed.
-- Assumes nothing.
use mathlib.Core.Path.{◌≡◌, sym}
use mathlib.Core.List.{List, [], ◌∷◌, ◌++◌, map, append_assoc}
use Prim.Native.Nat.{ℕ, zero, suc, ◌+◌, ◌*◌, ◌^◌, ◌≤◌, ◌<◌}
use native.Mathlib.Nat.{add-zero}
use native.Mathlib.Numerals.{add-one}
use native.Mathlib.Omega.{arith}
use borrow.Author.Tests.{eq-eqb, ne_eqb}
use lib.ListN.{length, drop, get_or, drop_of_length-le}
use lib.Seq.{drop-cons, drop-drop, get_or-drop}
use Rattle.lists.specs.Each.{Each}
use Rattle.treaty.specs.declared.Treaty.{Treaty}
use Rattle.layer.specs.declared.terms.Terms.{Terms}
use Rattle.layer.specs.declared.record.Layer.{Layer}
use Rattle.layer.specs.Layer.{layer_of}
use Rattle.layer.specs.Ranges.{Sound}
use Rattle.text.specs.Buffer.{Put}
use Rattle.text.specs.Lines.{joined}
use Rattle.text.specs.Template.{filled}
use Rattle.text.proofs.Pieces.{filled-append}
use Rattle.text.proofs.Puts.{put-none}
use Rattle.text.proofs.Passes.{Passing, passed-short, one-passed, all-passed}
use Rattle.year.specs.Standing.{layers_with}
use Rattle.year.specs.Statement.{treaty_template, line_text, treaty_shown, layer_line_of, layer_numbers, layers_shown}
use Rattle.programme.specs.Contract.{no_treaty}
use Rattle.losses.specs.Treaties.{present, treaties_from}
use Rattle.statement.specs.TreatyLines.{ceded_line}

-- a line's line feed comes before what follows the line
pub line_first : (t ns rest : List ℕ) → filled t ns [] ++ (10 ∷ rest) ≡ filled t ns (10 ∷ []) ++ rest
line_first t ns rest = rw (filled-append t ns (10 ∷ [])) (sym (append_assoc (filled t ns []) (10 ∷ []) rest))

-- the lines of the treaties in a register, from number i on: where place T of cs holds what treaty T cedes
abbrev treaty_lines_from : List Treaty → List ℕ → ℕ → List ℕ
treaty_lines_from ts cs i = joined (map line_text (map treaty_shown (map (ceded_line cs) (present (drop i ts)))))

-- a number that has no treaty, and one that has
module _ (ts : List Treaty) (cs : List ℕ) (i : ℕ) (t : Treaty) (h : i < length ts) where
  absent_next : (get_or ts i t).number ≡ 0 → treaty_lines_from ts cs i ≡ treaty_lines_from ts cs (i + 1)
  absent_next e = rw (drop-cons ts i t h, eq-eqb _ _ e, add-one i)

  present-next : ((get_or ts i t).number ≡ 0 → ⊥)
      → treaty_lines_from ts cs i
      ≡ filled treaty_template ((get_or ts i t).number ∷ get_or cs (get_or ts i t).number 0 ∷ []) (10 ∷ [])
      ++ treaty_lines_from ts cs (i + 1)
  present-next e = rw (drop-cons ts i t h, ne_eqb _ _ e, add-one i) (line_first treaty_template _ _)

-- The lines of a register's treaties are put into d from the place `at` on, as `Passing` says.
abbrev pub TreatiesPut : (register : List Treaty) (cs d : List ℕ) (at : ℕ) (d' : List ℕ) (next i : ℕ) → Type 0
TreatiesPut ps cs d at d' next i = Passing (treaty_lines_from ps cs) 200 ps 9 d at d' next i

module _ (ps : List Treaty) (nine : length ps ≡ 9) (cs d : List ℕ) (at : ℕ) where
  module _ {d' : List ℕ} {next i : ℕ} (g : TreatiesPut ps cs d at d' next i) where
    pub treaties-short : next ≤ at + 1800
    treaties-short = omega (arith, passed-short _ _ _ _ _ _ _ _ _ g)

    -- one number more
    module _ (more : i < length ps) where
      abbrev number : ℕ
      number = (get_or ps i no_treaty).number

      pub treaty_absent : number ≡ 0 → TreatiesPut ps cs d at d' next (i + 1)
      treaty_absent e =
          one-passed _ _ _ _ _ _ _ _ _ g [] (omega arith) (absent_next ps cs i no_treaty more e) (put-none d' next)
          (omega arith)

      pub treaty-put : (number ≡ 0 → ⊥) → {d'' : List ℕ} {end : ℕ}
          → Put d' next (filled treaty_template (number ∷ get_or cs number 0 ∷ []) (10 ∷ [])) d'' end → end ≤ next + 200
          → TreatiesPut ps cs d at d'' end (i + 1)
      treaty-put e p k =
          one-passed _ _ _ _ _ _ _ _ _ g _ (omega arith) (present-next ps cs i no_treaty more e) p k

    -- no number is left
    pub treaties-put : length ps ≤ i
        → Put d at (joined (map line_text (map treaty_shown (map (ceded_line cs) (treaties_from ps))))) d' next
    unfolding treaties_from
    treaties-put ended =
        let none : length ps ≤ 9 = omega arith in
        all-passed _ _ _ _ _ _ _ _ _ g (omega arith) (rw (drop_of_length-le ps none))

-- layers from place i on are the one there and those from the next place on
with_next : (i : ℕ) (ts : List Terms) (ms ns : List ℕ) (t : Terms) → i < length ts
    → layers_with (drop i ts) (drop i ms) (drop i ns)
    ≡ layer_of (get_or ts i t) (get_or ms i 0) (get_or ns i 0)
    ∷ layers_with (drop (i + 1) ts) (drop (i + 1) ms) (drop (i + 1) ns)
with_next i ts ms ns t h =
    rw (
      drop-cons ts i t h,
      get_or-drop i ms 0 0,
      get_or-drop i ns 0 0,
      drop-drop 1 i ms,
      drop-drop 1 i ns,
      add-zero,
      add-one i,
    )

-- each of them is sound
with_sound : (i : ℕ) (ts : List Terms) (ms ns : List ℕ) (t : Terms) → i < length ts
    → Each Sound (layers_with ts ms ns) → Sound (layer_of (get_or ts i t) (get_or ms i 0) (get_or ns i 0))
with_sound i [] ms ns t h e = absurd (omega arith)
with_sound zero (u ∷ ts) ms ns t h e = e.0
with_sound (suc i) (u ∷ ts) ms ns t h e =
    let next : 1 + i ≡ suc i = omega arith in
    rw (get_or-drop 1 ms i 0, get_or-drop 1 ns i 0, next) at
    (with_sound i ts (drop 1 ms) (drop 1 ns) t (omega arith) e.1)

-- the lines of the layers from place i on, numbered from i + 1 on
abbrev layer_lines_from : (template : List ℕ) → List Terms → (spent timed : List ℕ) → ℕ → List ℕ
layer_lines_from f ts ms ns i =
    joined (map line_text (layers_shown f (i + 1) (map layer_line_of (layers_with (drop i ts) (drop i ms) (drop i ns)))))

-- The lines of the layers of the terms ts with the amounts of a standing's places are put by a template into d from the
-- place `at` on, as `Passing` says.
abbrev pub LayersPut : (template : List ℕ) (ts : List Terms) (spent timed d : List ℕ) (at : ℕ) (d' : List ℕ)
    (next i : ℕ) → Type 0
LayersPut f ts ms ns d at d' next i = Passing (layer_lines_from f ts ms ns) 200 ts (length ts) d at d' next i

module _ (f : List ℕ) (ts : List Terms) (ms ns d : List ℕ) (at : ℕ) where
  module _ {d' : List ℕ} {next i : ℕ} (g : LayersPut f ts ms ns d at d' next i) where
    pub layers-short : next ≤ at + 200 * length ts
    layers-short = omega (arith, passed-short _ _ _ _ _ _ _ _ _ g)

    pub layers-small : at < 2 ^ 40 → length ts ≤ 8 → next < 2 ^ 41
    layers-small a few = omega (arith, layers-short)

    -- one layer more
    module _ (more : i < length ts) (t : Terms) (y : Layer)
        (is : y ≡ layer_of (get_or ts i t) (get_or ms i 0) (get_or ns i 0)) where
      pub layer-sound : Each Sound (layers_with ts ms ns) → Sound y
      layer-sound e = rw is (with_sound i ts ms ns t more e)

      pub layer-put : {d'' : List ℕ} {end : ℕ}
          → Put d' next (filled f (layer_numbers (i + 1) (layer_line_of y)) (10 ∷ [])) d'' end → end ≤ next + 200
          → LayersPut f ts ms ns d at d'' end (i + 1)
      layer-put p k =
          one-passed _ _ _ _ _ _ _ _ _ g _ more (rw (is, with_next i ts ms ns t more) (line_first f _ _)) p k
