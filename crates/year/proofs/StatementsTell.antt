-- A statement's bytes tell all that it shows: two statements with equal bytes are equal, line by line and amount by
-- amount, whatever programmes and runs they are of. The third byte of a line tells the lines of events, treaties,
-- layers and totals apart, and the eighth those of the two tiers.
-- Assumes nothing.
use mathlib.Core.Path.{◌≡◌, refl, sym, ap, ap₂}
use mathlib.Core.Bool.{true}
use mathlib.Core.List.{List, [], ◌∷◌, ◌++◌, map}
use Prim.Native.Nat.{ℕ, ◌+◌, ◌<◌}
use native.Mathlib.Omega.{arith}
use lib.Dec.{lit<}
use lib.ListN.{length, drop, get_or}
use Rattle.text.specs.Number.{digit_of}
use Rattle.text.specs.Template.{capital, holes, filled}
use Rattle.text.specs.Lines.{joined}
use Rattle.text.proofs.Forms.{parted, separated, line_injective}
use Rattle.year.specs.declared.Amounts.{Amounts}
use Rattle.year.specs.Statement.{EventLine, TreatyLine, LayerLine, Statement, Line, line_text, statement_text}
use Rattle.year.specs.Statement.{event_template, treaty_template, risk_template, cat_template, total_template}
use Rattle.year.specs.Statement.{amounts_numbers, event_numbers, layer_numbers}
use Rattle.year.specs.Statement.{treaty_shown, layers_shown, total_shown}

-- the text of some lines
abbrev pub text_of : List Line → List ℕ
text_of ls = joined (map line_text ls)

-- a template whose lines have the byte `mark` at a place
abbrev Marked : (template : List ℕ) (place mark : ℕ) → Type 0
Marked t at mark = (ns s : List ℕ) → get_or (filled t ns [] ++ s) at 0 ≡ mark

-- lines with a lesser byte there do not begin with one of the template's
unmarked : (t : List ℕ) (at mark : ℕ) → Marked t at mark → (ns : List ℕ) (ls ms : List Line)
    → get_or (text_of ls) at 0 < mark → text_of ls ≡ text_of (record { template = t; numbers = ns } ∷ ms) → ⊥
unmarked t at mark m ns ls ms l e =
    omega (arith, m ns (10 ∷ text_of ms), ap (λ (s : List ℕ). get_or s at 0) e)

-- lines of one kind, each with the template t and with numbers that tell what it shows: there are as many in equal
-- texts, and they show the same
module _ {A : Type 0} (t : List ℕ) (numbers : A → List ℕ) (g : separated t ≡ true)
    (count : (x : A) → length (numbers x) ≡ holes t) (tells : (x y : A) → numbers x ≡ numbers y → x ≡ y)
    (at mark : ℕ) (m : Marked t at mark) where
  abbrev kind_shown : List A → List Line
  kind_shown xs = map (λ (x : A). record { template = t; numbers = numbers x }) xs

  kind-told : (xs ys : List A) (r r' : List Line) → get_or (text_of r) at 0 < mark → get_or (text_of r') at 0 < mark
      → text_of (kind_shown xs ++ r) ≡ text_of (kind_shown ys ++ r') → (xs ≡ ys) × (text_of r ≡ text_of r')
  kind-told [] [] r r' l l' e = (refl, e)
  kind-told [] (y ∷ ys) r r' l l' e = absurd (unmarked t at mark m (numbers y) r (kind_shown ys ++ r') l e)
  kind-told (x ∷ xs) [] r r' l l' e = absurd (unmarked t at mark m (numbers x) r' (kind_shown xs ++ r) l' (sym e))
  kind-told (x ∷ xs) (y ∷ ys) r r' l l' e =
      let f = line_injective t (numbers x) (numbers y) _ _ g (count x) (count y) e in
      let h = kind-told xs ys r r' l l' f.1 in
      (ap₂ ◌∷◌ (tells x y f.0) h.0, h.1)

-- what the numbers of a line tell
abbrev amounts_from : List ℕ → Amounts
amounts_from ns = record {
  gross = get_or ns 0 0;
  ceded = get_or ns 1 0;
  risk = get_or ns 2 0;
  cat = get_or ns 3 0;
  net = get_or ns 4 0;
  premium = get_or ns 5 0;
}

abbrev event_from : List ℕ → EventLine
event_from ns = record { day = get_or ns 0 0; amounts = amounts_from (drop 1 ns) }

abbrev treaty_from : List ℕ → TreatyLine
treaty_from ns = record { number = get_or ns 0 0; ceded = get_or ns 1 0 }

abbrev layer_from : List ℕ → LayerLine
layer_from ns = record {
  deductible = get_or ns 1 0;
  cover = get_or ns 2 0;
  recovered = get_or ns 3 0;
  premium = get_or ns 4 0;
}

-- the lines of a tier's layers from place i on, by a template of five numbers
module _ (t : List ℕ) (g : separated t ≡ true) (five : holes t ≡ 5) (at mark : ℕ) (m : Marked t at mark) where
  layers-told : (i : ℕ) (ks ls : List LayerLine) (r r' : List Line) → get_or (text_of r) at 0 < mark
      → get_or (text_of r') at 0 < mark → text_of (layers_shown t i ks ++ r) ≡ text_of (layers_shown t i ls ++ r')
      → (ks ≡ ls) × (text_of r ≡ text_of r')
  layers-told i [] [] r r' u u' e = (refl, e)
  layers-told i [] (l ∷ ls) r r' u u' e =
      absurd (unmarked t at mark m (layer_numbers i l) r (layers_shown t (i + 1) ls ++ r') u e)
  layers-told i (k ∷ ks) [] r r' u u' e =
      absurd (unmarked t at mark m (layer_numbers i k) r' (layers_shown t (i + 1) ks ++ r) u' (sym e))
  layers-told i (k ∷ ks) (l ∷ ls) r r' u u' e =
      let f = line_injective t _ _ _ _ g (sym five) (sym five) e in
      let h = layers-told (i + 1) ks ls r r' u u' f.1 in
      (ap₂ ◌∷◌ (ap layer_from f.0) h.0, h.1)

-- the lines of a statement from the totals on, from the catastrophe layers on, and so on
abbrev from_total : Amounts → List Line
from_total a = total_shown a ∷ []

abbrev from_cat : List LayerLine → Amounts → List Line
from_cat cs a = layers_shown cat_template 1 cs ++ from_total a

abbrev from_risk : List LayerLine → List LayerLine → Amounts → List Line
from_risk rs cs a = layers_shown risk_template 1 rs ++ from_cat cs a

abbrev from_treaties : List TreatyLine → List LayerLine → List LayerLine → Amounts → List Line
from_treaties ts rs cs a = map treaty_shown ts ++ from_risk rs cs a

-- `c` and `r` of the tiers at the eighth place, the bracket of the totals below both
after-cat : (a : Amounts) → get_or (text_of (from_total a)) 7 0 < 99
unfolding capital filled
after-cat a = lit< tt

after-risk : (cs : List LayerLine) (a : Amounts) → get_or (text_of (from_cat cs a)) 7 0 < 114
unfolding capital filled
after-risk [] a = lit< tt
after-risk (c ∷ cs) a = lit< tt

-- `v`, `r`, `o` and `a` of event, treaty, total and layer at the third
after-treaties : (rs cs : List LayerLine) (a : Amounts) → get_or (text_of (from_risk rs cs a)) 2 0 < 114
unfolding capital filled
after-treaties [] [] a = lit< tt
after-treaties [] (c ∷ cs) a = lit< tt
after-treaties (r ∷ rs) cs a = lit< tt

after-events : (ts : List TreatyLine) (rs cs : List LayerLine) (a : Amounts)
    → get_or (text_of (from_treaties ts rs cs a)) 2 0 < 118
unfolding capital filled
after-events [] rs cs a = omega (arith, after-treaties rs cs a)
after-events (t ∷ ts) rs cs a = lit< tt

-- for any two statements
pub statements_tell : (t u : Statement) → statement_text t ≡ statement_text u → t ≡ u
unfolding statement_text separated parted capital filled digit_of holes
statements_tell t u e =
    let a =
    kind-told event_template (λ (l : EventLine). event_numbers l) refl (λ l. refl) (λ l m. ap event_from) 2 118
    (λ ns s. refl) t.events u.events _ _
    (after-events t.treaties t.layers.risk t.layers.cat t.total)
    (after-events u.treaties u.layers.risk u.layers.cat u.total) e in
    let b =
    kind-told treaty_template (λ (l : TreatyLine). (treaty_shown l).numbers) refl (λ l. refl) (λ l m. ap treaty_from)
    2 114 (λ ns s. refl) t.treaties u.treaties _ _
    (after-treaties t.layers.risk t.layers.cat t.total)
    (after-treaties u.layers.risk u.layers.cat u.total) a.1 in
    let c =
    layers-told risk_template refl refl 7 114 (λ ns s. refl) 1 t.layers.risk u.layers.risk _ _
    (after-risk t.layers.cat t.total) (after-risk u.layers.cat u.total) b.1 in
    let d =
    layers-told cat_template refl refl 7 99 (λ ns s. refl) 1 t.layers.cat u.layers.cat _ _
    (after-cat t.total) (after-cat u.total) c.1 in
    let f =
    line_injective total_template (amounts_numbers t.total) (amounts_numbers u.total) [] [] refl refl refl d.1 in
    λ i. record {
      events = a.0 i;
      treaties = b.0 i;
      layers = record { risk = c.0 i; cat = d.0 i };
      total = amounts_from (f.0 i);
    }
