-- A contract's line: printed and read back, read and printed as it stood, without a line feed, of bytes, and of few.
-- Assumes nothing.
use mathlib.Core.Path.{◌≡◌, refl, sym, ap, subst, ◌∙◌}
use mathlib.Core.Bool.{Bool, true, false}
use mathlib.Core.List.{List, [], ◌∷◌}
use mathlib.Core.Logic.{◌⊎◌, inl, inr}
use Rattle.std.specs.Prelude.{Option, None, Some, option_map}
use Prim.Native.Nat.{ℕ, ◌+◌, ◌*◌, ◌≤◌}
use native.Mathlib.Omega.{arith}
use lib.Dec.{eqb, lit≤}
use lib.ListN.{length, get_or}
use Rattle.lists.specs.Each.{Each}
use Rattle.lists.proofs.Cases.{by-eq}
use Rattle.lists.proofs.Each.{each_append}
use Rattle.text.specs.Number.{digit_of}
use Rattle.text.specs.Template.{capital, holes, filled, eight, line_numbers, numbers_by}
use Rattle.text.proofs.Digits.{Readable}
use Rattle.text.proofs.Forms.{parted, separated, line_read, line-printed}
use Rattle.text.proofs.Pieces.{filled-append}
use Rattle.text.proofs.Lengths.{filled-length}
use Rattle.text.proofs.Feeds.{NoFeed, feedless, filled-no-feed}
use Rattle.text.proofs.Ascii.{Byte, all-bytes, filled-bytes}
use Rattle.treaty.specs.declared.Treaty.{Treaty}
use Rattle.layer.specs.declared.terms.Terms.{Terms}
use Rattle.programme.specs.declared.contract.Contract.{Contract}
use Rattle.programme.specs.declared.contract.Contract.TheVariants.{Proportional, Risk, Cat}
use Rattle.programme.specs.Ranges.{terms_outside}
use Rattle.programme.proofs.Bounds.{QuotaInRange, SurplusInRange, TreatyInRange}
use Rattle.programme.proofs.Bounds.{treaty_in_range, terms_in_range, rates-back}
use Rattle.table_text.specs.Forms.{quota_text, surplus_text, risk_text, cat_text, plain_tail, time_tail}
use Rattle.table_text.specs.Forms.{layer_text, quota_from, surplus_from, layer_terms}
use Rattle.table_text.specs.Forms.{kind_of, form_of_kind, form_of, quota_numbers, surplus_numbers, terms_numbers}
use Rattle.table_text.specs.Forms.{treaty_line, tail_of, terms_line, line_of}
use Rattle.table_text.proofs.Fits.{Fit}
use Rattle.table_text.proofs.LineKinds.{kind-other}
use Rattle.table_text.proofs.LayerLines.{Beginning, risk-begins, cat-begins, rest-feedless, rest-bytes}
use Rattle.table_text.proofs.LayerLines.{of_tails, layer-read, layer-printed, layer-short}

-- One of a treaty's two forms: the template t of n numbers, the kind k of its lines, and the contract that numbers
-- make.
record Shape (t : List ℕ) (n k : ℕ) (make : List ℕ → Contract) : Type 0 where
  separate : separated t ≡ true
  count : holes t ≡ n
  short : length t + 15 * n ≤ 160
  kind : (ns : List ℕ) → kind_of (filled t ns []) ≡ k
  reads : (s : List ℕ) → form_of_kind k s ≡ option_map make (numbers_by t s)
  prints : (ns : List ℕ) → length ns ≡ n → line_of (make (eight ns)) ≡ filled t ns []

-- a list of four numbers, by their places
four : (ns : List ℕ) → length ns ≡ 4
    → ns ≡ get_or (eight ns) 0 0 ∷ get_or (eight ns) 1 0 ∷ get_or (eight ns) 2 0 ∷ get_or (eight ns) 3 0 ∷ []
four [] l = absurd (omega arith)
four (a ∷ []) l = absurd (omega arith)
four (a ∷ b ∷ []) l = absurd (omega arith)
four (a ∷ b ∷ c ∷ []) l = absurd (omega arith)
four (a ∷ b ∷ c ∷ d ∷ []) l = refl
four (a ∷ b ∷ c ∷ d ∷ e ∷ ns) l = absurd (omega arith)

-- the same numbers print the same text
same_text : (t ns ms : List ℕ) → ns ≡ ms → filled t ms [] ≡ filled t ns []
same_text t ns ms e = ap (λ (x : List ℕ). filled t x []) (sym e)

-- the line of the treaty that four numbers make is its template printed with them
quota-prints : (ns : List ℕ) → length ns ≡ 4 → treaty_line (quota_from (eight ns)) ≡ filled quota_text ns []
unfolding treaty_line
quota-prints ns l = same_text quota_text ns _ (four ns l)

surplus-prints : (ns : List ℕ) → length ns ≡ 4 → treaty_line (surplus_from (eight ns)) ≡ filled surplus_text ns []
unfolding treaty_line
surplus-prints ns l = same_text surplus_text ns _ (four ns l)

-- the two forms
quota_shape : Shape quota_text 4 1 (λ v. Proportional (quota_from v))
unfolding separated parted digit_of capital holes filled kind_of form_of_kind
quota_shape = record {
  separate = refl;
  count = refl;
  short = lit≤ tt;
  kind = λ ns. refl;
  reads = λ s. refl;
  prints = quota-prints;
}

surplus_shape : Shape surplus_text 4 2 (λ v. Proportional (surplus_from v))
unfolding separated parted digit_of capital holes filled kind_of form_of_kind
surplus_shape = record {
  separate = refl;
  count = refl;
  short = lit≤ tt;
  kind = λ ns. refl;
  reads = λ s. refl;
  prints = surplus-prints;
}

-- what holds of the lines of both
module _ (t : List ℕ) (n k : ℕ) (make : List ℕ → Contract) (f : Shape t n k make) where
  module _ (ns : List ℕ) (l : length ns ≡ n) (z : Each Readable ns) where
    shape_printed : form_of (line_of (make (eight ns))) ≡ Some (make (eight ns))
    unfolding form_of
    shape_printed =
        let read = line-printed t ns f.separate (l ∙ sym f.count) z in
        rw (f.prints ns l, f.kind ns, f.reads (filled t ns []), read)

    shape_short : length (line_of (make (eight ns))) ≤ 240
    shape_short = rw (f.prints ns l) (omega (arith, filled-length t ns z, f.count, f.short))

  shape_read : (s : List ℕ) (x : Contract) → form_of_kind k s ≡ Some x → s ≡ line_of x
  shape_read s x e = by-numbers (line_numbers t s) refl (sym (f.reads s) ∙ e)
    where
      by-numbers : (o : Option (List ℕ)) → line_numbers t s ≡ o
          → option_map make (numbers_by t s) ≡ Some x → s ≡ line_of x
      by-numbers None q h = cc (rw q at h)
      by-numbers (Some ns) q h =
          let r = line_read t s ns q in
          let made : make (eight ns) ≡ x = cc (rw q at h) in
          r.0 ∙ sym (f.prints ns (r.1 ∙ f.count)) ∙ ap line_of made

-- A tier: the beginning of its lines, their kind k, and the contract that terms make.
record Tier (begin : List ℕ) (k : ℕ) (make : Terms → Contract) : Type 0 where
  begins : Beginning begin
  kind : (n : ℕ) (ns tail : List ℕ) → kind_of (filled (layer_text begin n) ns tail) ≡ k
  reads : (s : List ℕ) → form_of_kind k s ≡ option_map make (layer_terms begin s)
  prints : (l : Terms) → line_of (make l) ≡ terms_line begin l
  fits : (l : Terms) → Fit (make l) → terms_outside l ≡ 0

risk-tier : Tier risk_text 3 Risk
unfolding capital filled kind_of form_of_kind
risk-tier = record {
  begins = risk-begins;
  kind = λ n ns tail. refl;
  reads = λ s. refl;
  prints = λ l. refl;
  fits = λ l z. z;
}

cat-tier : Tier cat_text 4 Cat
unfolding capital filled kind_of form_of_kind
cat-tier = record {
  begins = cat-begins;
  kind = λ n ns tail. refl;
  reads = λ s. refl;
  prints = λ l. refl;
  fits = λ l z. z;
}

-- what holds of the lines of both tiers
module _ (begin : List ℕ) (k : ℕ) (make : Terms → Contract) (f : Tier begin k make) where
  module _ (l : Terms) (z : terms_outside l ≡ 0) where
    tier-printed : form_of (line_of (make l)) ≡ Some (make l)
    unfolding form_of
    tier-printed =
        rw (
          f.prints l,
          f.kind l.reinstatements (terms_numbers l) (tail_of l),
          f.reads (terms_line begin l),
          layer-printed begin f.begins l (terms_in_range l z) (rates-back l z),
        )

    tier-short : length (line_of (make l)) ≤ 240
    tier-short = rw (f.prints l) (layer-short begin f.begins l (terms_in_range l z))

  tier-read : (s : List ℕ) (x : Contract) → form_of_kind k s ≡ Some x → Fit x → s ≡ line_of x
  tier-read s x e z = by-terms (layer_terms begin s) refl (sym (f.reads s) ∙ e)
    where
      by-terms : (o : Option Terms) → layer_terms begin s ≡ o → option_map make (layer_terms begin s) ≡ Some x
          → s ≡ line_of x
      by-terms None q h = cc (rw q at h)
      by-terms (Some l) q h =
          let made : make l ≡ x = cc (rw q at h) in
          let few = (terms_in_range l (f.fits l (rw (← made) at z))).reinstatements in
          layer-read begin f.begins s l q few ∙ sym (f.prints l) ∙ ap line_of made

-- what holds of both forms of a treaty, with numbers of at most sixteen digits in them, and of both tiers ..
abbrev OfShapes : (Contract → Type 0) → Type 0
OfShapes P =
    (t : List ℕ) (n k : ℕ) (make : List ℕ → Contract) → Shape t n k make
    → (ns : List ℕ) → length ns ≡ n → Each Readable ns → P (make (eight ns))

abbrev OfTiers : (Contract → Type 0) → Type 0
OfTiers P =
    (begin : List ℕ) (k : ℕ) (make : Terms → Contract) → Tier begin k make
    → (l : Terms) → terms_outside l ≡ 0 → P (make l)

-- .. holds of every contract whose numbers are within their ranges
of_contracts : (P : Contract → Type 0) → OfShapes P → OfTiers P → (x : Contract) → Fit x → P x
of_contracts P f g (Proportional t) z = by_kind r.kind
  where
    r : TreatyInRange t
    r = treaty_in_range t z

    by_kind : QuotaInRange t ⊎ SurplusInRange t → P (Proportional t)
    by_kind (inl q) =
        subst (λ (y : Treaty). P (Proportional y))
        (λ i. record {
          kind = sym q.kind i;
          number = t.number;
          cede = t.cede;
          capacity = t.capacity;
          retention = sym q.retention i;
          lines = sym q.lines i;
          limit = t.limit;
        })
        (f _ _ _ _ quota_shape (quota_numbers t) refl (
          omega (arith, r.number-high),
          (omega (arith, r.terms.cede), (omega (arith, r.terms.capacity), (omega (arith, r.terms.limit), tt))),
        ))
    by_kind (inr q) =
        subst (λ (y : Treaty). P (Proportional y))
        (λ i. record {
          kind = sym q.kind i;
          number = t.number;
          cede = sym q.cede i;
          capacity = sym q.capacity i;
          retention = t.retention;
          lines = t.lines;
          limit = t.limit;
        })
        (f _ _ _ _ surplus_shape (surplus_numbers t) refl (
          omega (arith, r.number-high),
          (omega (arith, r.terms.retention), (omega (arith, r.terms.lines), (omega (arith, r.terms.limit), tt))),
        ))
of_contracts P f g (Risk l) z = g _ _ _ risk-tier l z
of_contracts P f g (Cat l) z = g _ _ _ cat-tier l z

-- the line of a contract within its ranges is read as the contract
pub form-printed : (x : Contract) → Fit x → form_of (line_of x) ≡ Some x
form-printed = of_contracts (λ x. form_of (line_of x) ≡ Some x) shape_printed tier-printed

-- A line that is read as a contract is the contract's line. Of more than twenty rates its terms keep twenty, and it is
-- not within its ranges.
pub form-read : (s : List ℕ) (x : Contract) → form_of s ≡ Some x → Fit x → s ≡ line_of x
unfolding form_of
form-read s x e z = by_kind (kind_of s) e
  where
    by_kind : (k : ℕ) → form_of_kind k s ≡ Some x → s ≡ line_of x
    by_kind k e =
        by-eq k 1
        (λ h. shape_read _ _ _ _ quota_shape s x (rw h at e))
        (λ q. by-eq k 2
        (λ h. shape_read _ _ _ _ surplus_shape s x (rw h at e))
        (λ t. by-eq k 3
        (λ h. tier-read _ _ _ risk-tier s x (rw h at e) z)
        (λ r. by-eq k 4
        (λ h. tier-read _ _ _ cat-tier s x (rw h at e) z)
        (λ c. cc (kind-other s k q t r c)))))

-- what holds of every byte that the templates print, with any number of rates, and of both tails holds of every byte
-- of a contract's line
module _ (P : ℕ → Type 0) (plain : Each P plain_tail) (timed : Each P time_tail) where
  of_terms : (begin : List ℕ) → ((k : ℕ) (ns : List ℕ) → Each P (filled (layer_text begin k) ns []))
      → (l : Terms) → Each P (terms_line begin l)
  of_terms begin z l =
      let t = layer_text begin l.reinstatements in
      rw (filled-append t (terms_numbers l) (tail_of l))
      (each_append P (filled t (terms_numbers l) []) (tail_of l) (z l.reinstatements (terms_numbers l))
      (of_tails (Each P) plain timed l))

  of_templates :
      ((ns : List ℕ) → Each P (filled quota_text ns [])) → ((ns : List ℕ) → Each P (filled surplus_text ns []))
      → ((k : ℕ) (ns : List ℕ) → Each P (filled (layer_text risk_text k) ns []))
      → ((k : ℕ) (ns : List ℕ) → Each P (filled (layer_text cat_text k) ns [])) → (x : Contract) → Each P (line_of x)
  unfolding treaty_line
  of_templates quota surplus risk cat (Proportional t) = by_kind (eqb t.kind 2) refl
    where
      by_kind : (b : Bool) → eqb t.kind 2 ≡ b → Each P (treaty_line t)
      by_kind true e = simp (treaty_line, e) (surplus (surplus_numbers t))
      by_kind false e = simp (treaty_line, e) (quota (quota_numbers t))
  of_templates quota surplus risk cat (Risk l) = of_terms risk_text risk l
  of_templates quota surplus risk cat (Cat l) = of_terms cat_text cat l

-- no line feed is in a contract's line
pub line-no-feed : (x : Contract) → NoFeed (line_of x)
unfolding feedless filled capital
line-no-feed =
    of_templates (λ (b : ℕ). b ≡ 10 → ⊥) (filled-no-feed plain_tail [] refl) (filled-no-feed time_tail [] refl)
    (λ ns. filled-no-feed quota_text ns refl)
    (λ ns. filled-no-feed surplus_text ns refl)
    (λ k ns. filled-no-feed (layer_text risk_text k) ns (rest-feedless k))
    (λ k ns. filled-no-feed (layer_text cat_text k) ns (rest-feedless k))

-- a contract's line is of bytes
pub line-bytes : (x : Contract) → Each Byte (line_of x)
line-bytes =
    of_templates Byte (all-bytes plain_tail refl) (all-bytes time_tail refl)
    (λ ns. filled-bytes quota_text ns refl)
    (λ ns. filled-bytes surplus_text ns refl)
    (λ k ns. filled-bytes (layer_text risk_text k) ns (rest-bytes k))
    (λ k ns. filled-bytes (layer_text cat_text k) ns (rest-bytes k))

-- the line of a contract within its ranges has at most 240 bytes
pub line-short : (x : Contract) → Fit x → length (line_of x) ≤ 240
line-short = of_contracts (λ x. length (line_of x) ≤ 240) shape_short tier-short
