-- What a line of a kind is, from what its template reads of it.
-- Assumes nothing.
use mathlib.Core.Path.{◌≡◌, refl, ap, ◌∙◌}
use mathlib.Core.List.{List}
use Rattle.std.specs.Prelude.{Option, None, Some, option_map, MatchOption, IsSomeAnd}
use Prim.Native.Nat.{ℕ}
use Rattle.text.specs.Template.{numbers_by}
use Rattle.layer.specs.declared.terms.Terms.{Terms}
use Rattle.programme.specs.declared.contract.Contract.{Contract}
use Rattle.programme.specs.declared.contract.Contract.TheVariants.{Proportional, Risk, Cat}
use Rattle.table_text.specs.Forms.{quota_text, surplus_text, risk_text, cat_text, quota_from, surplus_from}
use Rattle.table_text.specs.Forms.{quota_form, surplus_form, layer_terms, kind_of, form_of_kind, form_of}
use Rattle.table_text.proofs.LineKinds.{kind-other, line-of}

-- r is what `map` makes of o
abbrev Mapped : {A B : Type 0} → (A → B) → Option A → Option B → Type 0
Mapped f o r = MatchOption o (r ≡ None) (λ x. IsSomeAnd r (λ y. y ≡ f x))

mapped : {A B : Type 0} (f : A → B) (o : Option A) (r : Option B) → Mapped f o r → r ≡ option_map f o
mapped f None r h = h
mapped f (Some x) None h = absurd h
mapped f (Some x) (Some y) h = ap (λ z. Some z) h

-- a line of the kind k, by what its template reads of it
module _ (s : List ℕ) (k : ℕ) (q : k ≡ kind_of s) (r : Option Contract) where
  module _ (o : Option (List ℕ)) where
    pub quota_line : k ≡ 1 → o ≡ numbers_by quota_text s → Mapped (λ v. Proportional (quota_from v)) o r
        → r ≡ form_of s
    unfolding form_of_kind
    quota_line e w m = mapped _ o r m ∙ ap quota_form w ∙ line-of s k q 1 e

    pub surplus_line : k ≡ 2 → o ≡ numbers_by surplus_text s → Mapped (λ v. Proportional (surplus_from v)) o r
        → r ≡ form_of s
    unfolding form_of_kind
    surplus_line e w m = mapped _ o r m ∙ ap surplus_form w ∙ line-of s k q 2 e

  module _ (o : Option Terms) where
    pub risk_line : k ≡ 3 → o ≡ layer_terms risk_text s → Mapped Risk o r → r ≡ form_of s
    unfolding form_of_kind
    risk_line e w m = mapped Risk o r m ∙ ap (option_map Risk) w ∙ line-of s k q 3 e

    pub cat_line : k ≡ 4 → o ≡ layer_terms cat_text s → Mapped Cat o r → r ≡ form_of s
    unfolding form_of_kind
    cat_line e w m = mapped Cat o r m ∙ ap (option_map Cat) w ∙ line-of s k q 4 e

-- a line of another kind is no form
pub no_line : (s : List ℕ) (k : ℕ) → k ≡ kind_of s → (k ≡ 1 → ⊥) → (k ≡ 2 → ⊥) → (k ≡ 3 → ⊥) → (k ≡ 4 → ⊥)
    → None ≡ form_of s
no_line s k q a b c d = kind-other s k a b c d ∙ line-of s k q k refl
