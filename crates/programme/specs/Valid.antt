-- Document 01, The table text: what a programme must keep to so that a table text reads to it, as a test on numbers.
-- Assumes nothing.
use Rattle.std.specs.Prelude.{Bool, true, false, ◌&&◌, Option, Some, None, List, ℕ, eqb, leb, ltb, length, drop}
use Rattle.lists.specs.Chains.{chained, every}
use Rattle.treaty.specs.declared.Treaty.{Treaty}
use Rattle.layer.specs.declared.terms.Terms.{Terms}
use Rattle.programme.specs.declared.contract.Treaties.{Treaties}
use Rattle.programme.specs.declared.contract.Layers.{Layers}
use Rattle.programme.specs.declared.contract.Programme.{Programme}
use Rattle.programme.specs.Contract.{treaties_in, layers_in}
use Rattle.programme.specs.Ranges.{treaty_outside, terms_outside, treaty_not_zero, terms_not_zero}
use Rattle.programme.specs.Rules.{treaty_number, band_end}

-- a treaty after the T before it: in range, and T strictly rising
abbrev pub treaty_passes : ℕ → Treaty → Bool
treaty_passes before t = eqb (treaty_outside t) 0 && ltb before t.number

-- a layer after the end of the band before it: in range, and the attachment not below that end
abbrev pub layer_passes : ℕ → Terms → Bool
layer_passes before l = eqb (terms_outside l) 0 && leb before l.attachment

-- the figure of a place that passes
abbrev pub figure_if : Bool → ℕ → Option ℕ
figure_if true n = Some n
figure_if false n = None

-- an unused place holds nothing but 0
abbrev pub treaty_unused : Treaty → Bool
treaty_unused t = eqb (treaty_not_zero t) 0

abbrev pub terms_unused : Terms → Bool
terms_unused l = eqb (terms_not_zero l) 0

-- eight places, the first n of them used and nothing but 0 in the others
abbrev pub eight_places : {A : Type 0} → (A → Bool) → ℕ → List A → Bool
eight_places unused n xs = eqb (length xs) 8 && (leb n 8 && every unused (drop n xs))

-- the treaties of a programme
unfoldable pub valid_treaties : Treaties → Bool
valid_treaties ts =
    eight_places treaty_unused ts.count ts.places && chained treaty_passes treaty_number 0 (treaties_in ts)

-- the layers of one tier
unfoldable pub valid_layers : Layers → Bool
valid_layers ls = eight_places terms_unused ls.count ls.places && chained layer_passes band_end 0 (layers_in ls)

-- the whole programme
unfoldable pub valid : Programme → Bool
valid p = valid_treaties p.treaties && (valid_layers p.risk && valid_layers p.cat)
