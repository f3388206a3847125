-- Laws of a table text: its parts, and a pass over places that puts a line for each.
-- Assumes nothing.
use mathlib.Core.Path.{◌≡◌, sym, ◌∙◌}
use mathlib.Core.Bool.{true}
use mathlib.Core.List.{List, [], ◌∷◌, ◌++◌, map, map-map, map-append, append_assoc}
use Prim.Native.Nat.{ℕ, suc, ◌+◌, ◌*◌, ◌^◌, ◌≤◌, ◌<◌}
use native.Mathlib.Nat.{le_refl, mul-le-mul_right}
use native.Mathlib.Numerals.{add-one}
use native.Mathlib.Omega.{arith}
use borrow.Author.Tests.{eq-eqb, ne_eqb}
use lib.ListN.{length, take, drop, get_or}
use lib.Seq.{length-take-le, drop-cons}
use Rattle.lists.specs.Each.{Each}
use Rattle.lists.proofs.Each.{each_at, each-chained}
use Rattle.text.specs.Buffer.{Put}
use Rattle.text.specs.Lines.{joined}
use Rattle.text.specs.Template.{holes, filled}
use Rattle.text.proofs.Puts.{put-append}
use Rattle.text.proofs.Passes.{Passing, passed-short, one-passed}
use Rattle.text.proofs.Parts.{filled-parts}
use Rattle.text.proofs.Pieces.{filled-append}
use Rattle.text.proofs.Feeds.{joined-append}
use Rattle.treaty.specs.declared.Treaty.{Treaty}
use Rattle.layer.specs.declared.terms.Terms.{Terms}
use Rattle.programme.specs.declared.contract.Layers.{Layers}
use Rattle.programme.specs.declared.contract.Programme.{Programme}
use Rattle.programme.specs.Contract.{Contracts, treaties_in, layers_in, contracts_in}
use Rattle.programme.specs.Ranges.{terms_outside}
use Rattle.programme.specs.Rules.{band_end}
use Rattle.programme.specs.Valid.{layer_passes, valid_layers, valid}
use Rattle.programme.proofs.Bounds.{terms_in_range}
use Rattle.programme.proofs.Validity.{layers_tell, layers-few, valid_tells}
use Rattle.programme.proofs.Lawful.{layer-passed, at-most-eight, layers-count, valid-lawful}
use Rattle.table_text.specs.Forms.{quota_text, surplus_text, risk_text, cat_text, end_text, rates_text}
use Rattle.table_text.specs.Forms.{quota_numbers, surplus_numbers, treaty_line, tail_of, terms_line, table_of}
use Rattle.table_text.specs.Write.{text_of}
use Rattle.table_text.proofs.LayerLines.{rates-holes}

-- a table text is the lines of the treaties, then those of the risk layers, then those of the cat layers
pub table-parts : (c : Contracts) → table_of c
    ≡ joined (map treaty_line c.treaties)
    ++ (joined (map (terms_line risk_text) c.risk) ++ joined (map (terms_line cat_text) c.cat))
table-parts c = simp (map-append, map-map, joined-append)

-- the three parts put one after another
pub table-put : (p : Programme) {d d' d'' d''' : List ℕ} {first second end : ℕ}
    → Put d 0 (joined (map treaty_line (treaties_in p.treaties))) d' first
    → Put d' first (joined (map (terms_line risk_text) (layers_in p.risk))) d'' second
    → Put d'' second (joined (map (terms_line cat_text) (layers_in p.cat))) d''' end
    → Put d 0 (text_of p) d''' end
table-put p a b c = rw (table-parts (contracts_in p)) (put-append a (put-append b c))

-- a treaty's line by its kind
module _ (t : Treaty) {d d' : List ℕ} {at next : ℕ} where
  pub surplus-put : t.kind ≡ 2 → Put d at (filled surplus_text (surplus_numbers t) [] ++ (10 ∷ [])) d' next
      → Put d at (treaty_line t ++ (10 ∷ [])) d' next
  unfolding treaty_line
  surplus-put e p = simp (treaty_line, eq-eqb t.kind 2 e) p

  pub quota-put : (t.kind ≡ 2 → ⊥) → Put d at (filled quota_text (quota_numbers t) [] ++ (10 ∷ [])) d' next
      → Put d at (treaty_line t ++ (10 ∷ [])) d' next
  unfolding treaty_line
  quota-put e p = simp (treaty_line, ne_eqb t.kind 2 e) p

-- a layer's line in its four parts
abbrev firsts : Terms → List ℕ
firsts l = l.attachment ∷ l.limit ∷ l.deductible ∷ l.reinstatements ∷ l.premium ∷ []

abbrev rates_in : Terms → List ℕ
rates_in l = take l.reinstatements l.rates

terms-parts : (begin : List ℕ) (l : Terms) → holes begin ≡ 5 → l.reinstatements ≤ 20 → length l.rates ≡ 20
    → terms_line begin l
    ≡ filled begin (firsts l) []
    ++ (filled (rates_text l.reinstatements) (rates_in l) [] ++ (filled end_text (l.placed ∷ []) [] ++ tail_of l))
terms-parts begin l five few long =
    let k = l.reinstatements in
    let ns = firsts l in
    let qs = rates_in l in
    let many : length qs ≡ holes (rates_text k) =
    length-take-le k l.rates (omega arith) ∙ sym (rates-holes k) in
    let end = filled end_text (l.placed ∷ []) (tail_of l) in
    filled-parts begin (rates_text k ++ end_text) ns (qs ++ (l.placed ∷ [])) (tail_of l) (sym five)
    ∙ rw (filled-parts (rates_text k) end_text qs (l.placed ∷ []) (tail_of l) many)
    (filled-append begin ns (filled (rates_text k) qs end)
    ∙ rw (filled-append (rates_text k) qs end, filled-append end_text (l.placed ∷ []) (tail_of l)))

pub terms-put : (begin : List ℕ) (l : Terms) → holes begin ≡ 5 → l.reinstatements ≤ 20 → length l.rates ≡ 20
    → {d d' d'' d''' d'''' : List ℕ} {at first second third end : ℕ}
    → Put d at (filled begin (firsts l) []) d' first
    → Put d' first (filled (rates_text (length (rates_in l))) (rates_in l) []) d'' second
    → Put d'' second (filled end_text (l.placed ∷ []) []) d''' third
    → Put d''' third (tail_of l ++ (10 ∷ [])) d'''' end
    → Put d at (terms_line begin l ++ (10 ∷ [])) d'''' end
terms-put begin l five few long p q r s =
    let many : length (rates_in l) ≡ l.reinstatements = length-take-le l.reinstatements l.rates (omega arith) in
    let rates = rw many at q in
    rw (terms-parts begin l five few long) (simp append_assoc (put-append p (put-append rates (put-append r s))))

-- the layers of a tier of a valid programme are at most eight, and in range
layers-fit : (ls : Layers) → valid_layers ls ≡ true
    → (length (layers_in ls) ≤ 8) × Each (λ (l : Terms). terms_outside l ≡ 0) (layers_in ls)
layers-fit ls e = (
  omega (arith, layers-count ls e, layers-few ls e),
  each-chained _ layer_passes band_end (λ n l q. (layer-passed n l q).0) 0 (layers_in ls) (layers_tell ls e).1,
)

module _ (p : Programme) (e : valid p ≡ true) where
  pub treaties-fit : length (treaties_in p.treaties) ≤ 8
  treaties-fit = at-most-eight (contracts_in p) (valid-lawful p e)

  pub risk-fit : (length (layers_in p.risk) ≤ 8) × Each (λ (l : Terms). terms_outside l ≡ 0) (layers_in p.risk)
  risk-fit = layers-fit p.risk (valid_tells p e).1

  pub cat-fit : (length (layers_in p.cat) ≤ 8) × Each (λ (l : Terms). terms_outside l ≡ 0) (layers_in p.cat)
  cat-fit = layers-fit p.cat (valid_tells p e).2

-- a layer in range has at most twenty reinstatements
pub few-used : (ls : List Terms) → Each (λ (l : Terms). terms_outside l ≡ 0) ls → (i : ℕ) → i < length ls
    → (x : Terms) → (get_or ls i x).reinstatements ≤ 20
few-used ls e i h x = (terms_in_range _ (each_at _ ls e i x h)).reinstatements

-- A pass that puts a line of at most `most` bytes for each of the elements xs, as `Passing` says.
abbrev pub Lined : {A : Type 0} (line : A → List ℕ) (most : ℕ) (xs : List A) (d : List ℕ) (at : ℕ)
    (d' : List ℕ) (next i : ℕ) → Type 0
Lined line most xs d at d' next i =
    Passing (λ (i : ℕ). joined (map line (drop i xs))) most xs (length xs) d at d' next i

module _ {A : Type 0} (line : A → List ℕ) (most : ℕ) (xs : List A) (d : List ℕ) (at : ℕ) (d' : List ℕ)
    (next i : ℕ) (g : Lined line most xs d at d' next i) where
  pub lined_short : length xs ≤ 8 → (all : ℕ) → 8 * most ≤ all → next ≤ at + all
  lined_short k all h = omega (arith, passed-short _ _ _ _ _ _ _ _ _ g, mul-le-mul_right most k)

  pub lined_small : at < 2 ^ 32 → length xs ≤ 8 → most ≤ 3200 → next < 2 ^ 59
  lined_small a k m = omega (arith, lined_short k (8 * most) (le_refl _))

  -- one line more
  module _ (x : A) (more : i < length xs) where
    next-line : joined (map line (drop i xs))
        ≡ (line (get_or xs i x) ++ (10 ∷ [])) ++ joined (map line (drop (i + 1) xs))
    next-line =
        rw (drop-cons xs i x more, add-one i)
        (sym (append_assoc (line (get_or xs i x)) (10 ∷ []) (joined (map line (drop (suc i) xs)))))

    pub one_lined : {d'' : List ℕ} {end : ℕ} → Put d' next (line (get_or xs i x) ++ (10 ∷ [])) d'' end
        → end ≤ next + most → Lined line most xs d at d'' end (i + 1)
    one_lined p k = one-passed _ _ _ _ _ _ _ _ _ g _ more next-line p k
