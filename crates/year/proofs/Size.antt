-- The statement of a run without events is short: two of them fit 65,536 bytes together.
-- Assumes nothing.
use mathlib.Core.List.{List, [], ◌∷◌, ◌++◌, map}
use Prim.Native.Nat.{ℕ, ◌+◌, ◌*◌, ◌≤◌}
use native.Mathlib.Nat.{le_refl}
use native.Mathlib.Omega.{arith}
use lib.Dec.{lit≤}
use lib.ListN.{length, length-append}
use Rattle.lists.specs.Each.{Each}
use Rattle.text.specs.Number.{printed_by, printed}
use Rattle.text.specs.Template.{capital, holes, filled}
use Rattle.text.proofs.Digits.{Readable}
use Rattle.text.proofs.Lengths.{filled-length}
use Rattle.treaty.specs.declared.Treaty.{Treaty}
use Rattle.layer.specs.declared.record.Layer.{Layer}
use Rattle.layer.specs.Layer.{cap_of, used_of, recovered_of, layer_of, year_premium}
use Rattle.layer.specs.Ranges.{Sound}
use Rattle.layer.proofs.Bounds.{placed-le, used_le, spent-le}
use Rattle.layer.proofs.Premiums.{premium-le}
use Rattle.year.specs.Event.{Year}
use Rattle.year.specs.Statement.{layer_line_of, treaty_line_of, Line, treaty_template, risk_template, cat_template}
use Rattle.year.specs.Statement.{treaty_shown, layers_shown, total_shown, totals, statement_of, statement_text}
use Rattle.year.specs.Statement.{layer_numbers}
use Rattle.year.proofs.YearPremiums.{year-premium-le}
use Rattle.year.proofs.StatementsTell.{text_of}

-- a template that prints at most 160 bytes with numbers of at most sixteen digits
abbrev ShortTemplate : List ℕ → Type 0
ShortTemplate t = length t + 15 * holes t ≤ 160

-- such a line with its line feed, before the bytes s
line-short : (t ns s : List ℕ) → ShortTemplate t → Each Readable ns
    → length (filled t ns [] ++ (10 ∷ s)) ≤ 161 + length s
line-short t ns s h z = omega (arith, length-append (filled t ns []) (10 ∷ s), filled-length t ns z)

module _ (y : Layer) (s : Sound y) where
  cap_le : cap_of y.terms ≤ 1210000000000000
  cap_le =
      spent-le (layer_of y.terms (cap_of y.terms) 0)
      (record { terms = s.terms; spent = le_refl _; timed = omega arith })

  recovered-le : recovered_of y.terms y.spent.0 ≤ 210000000000000
  unfolding recovered_of
  recovered-le =
      omega (arith, placed-le y.terms (used_of y.terms y.spent.0) s.terms.placed, used_le y s, s.terms)

  premium-small : year_premium y ≤ 40000000000000
  premium-small =
      omega (
        arith,
        year-premium-le y s.timed,
        premium-le y.terms s.terms y.spent.0,
        s.terms.premium,
      )

-- the numbers of a layer's line
layer-readable : (i : ℕ) → i ≤ 8 → (y : Layer) → Sound y → Each Readable (layer_numbers i (layer_line_of y))
layer-readable i h y s = (
  omega arith,
  (
    omega (arith, s.terms.deductible),
    (
      omega (arith, cap_le y s),
      (
        omega (arith, recovered-le y s),
        (omega (arith, premium-small y s), tt),
      ),
    ),
  ),
)

-- the lines of layers and of treaties, before other lines
layers-short : (t : List ℕ) → ShortTemplate t → (i : ℕ) (ys : List Layer) → i + length ys ≤ 9 → Each Sound ys
    → (r : List Line)
    → length (text_of (layers_shown t i (map layer_line_of ys) ++ r)) ≤ 161 * length ys + length (text_of r)
layers-short t h i [] n z r = omega arith
layers-short t h i (y ∷ ys) n z r =
    let rest = layers-short t h (i + 1) ys (omega arith) z.1 r in
    let first = line-short t (layer_numbers i (layer_line_of y))
    (text_of (layers_shown t (i + 1) (map layer_line_of ys) ++ r)) h
    (layer-readable i (omega arith) y z.0) in
    omega (arith, first, rest)

treaties-short : ShortTemplate treaty_template → (ts : List Treaty) → Each (λ (t : Treaty). t.number ≤ 8) ts
    → (r : List Line)
    → length (text_of (map treaty_shown (map (treaty_line_of []) ts) ++ r)) ≤ 161 * length ts + length (text_of r)
treaties-short h [] z r = omega arith
treaties-short h (t ∷ ts) z r =
    let rest = treaties-short h ts z.1 r in
    let first = line-short treaty_template (t.number ∷ 0 ∷ [])
    (text_of (map treaty_shown (map (treaty_line_of []) ts) ++ r)) h
    (omega (arith, z.0), (omega arith, tt)) in
    omega (arith, first, rest)

-- the line of totals, which are 0
total-short : length (text_of (total_shown (totals []) ∷ [])) ≤ 161
unfolding printed_by printed capital filled
total-short = lit≤ tt

-- the statement of a run without events, with at most eight treaties and eight layers of each tier
pub no-events-short : (shares : List ℕ) (ts : List Treaty) (y : Year) → length ts ≤ 8
    → Each (λ (t : Treaty). t.number ≤ 8) ts → length y.risk ≤ 8 → length y.cat ≤ 8 → Each Sound y.risk
    → Each Sound y.cat
    → length (statement_text (statement_of shares ts y [])) ≤ 32768
unfolding statement_text holes capital
no-events-short shares ts y n z nr nc r c =
    let total = total_shown (totals []) ∷ [] in
    let cat = layers_shown cat_template 1 (map layer_line_of y.cat) ++ total in
    let risk = layers_shown risk_template 1 (map layer_line_of y.risk) ++ cat in
    omega (
      arith,
      treaties-short (lit≤ tt) ts z risk,
      layers-short risk_template (lit≤ tt) 1 y.risk (omega arith) r cat,
      layers-short cat_template (lit≤ tt) 1 y.cat (omega arith) c total,
      total-short,
    )
