-- The table of lawful contracts is read back as them.
-- Assumes nothing.
use mathlib.Core.Path.{◌≡◌, refl, ap, ◌∙◌}
use mathlib.Core.Bool.{Bool, true}
use mathlib.Core.List.{List, [], ◌∷◌, ◌++◌, map, map-append, append_assoc, append-nil}
use Rattle.std.specs.Prelude.{Option, Some}
use Prim.Native.Nat.{ℕ, ◌+◌, ◌*◌, ◌≤◌, ◌<◌}
use native.Mathlib.Omega.{arith}
use borrow.Author.Tests.{le-ltb}
use lib.ListN.{length, length-append, length-map}
use Rattle.lists.specs.Each.{Each}
use Rattle.lists.specs.Chains.{last_by, chained}
use Rattle.lists.proofs.Chains.{both, last_snoc}
use Rattle.lists.proofs.Each.{each_of, each_map}
use Rattle.text.specs.Lines.{joined}
use Rattle.text.proofs.Feeds.{NoFeed, lines-joined}
use Rattle.treaty.specs.declared.Treaty.{Treaty}
use Rattle.layer.specs.declared.terms.Terms.{Terms}
use Rattle.programme.specs.declared.contract.Contract.{Contract}
use Rattle.programme.specs.declared.contract.Contract.TheVariants.{Proportional, Risk, Cat}
use Rattle.programme.specs.Contract.{Contracts, no_contracts, with_contract, contracts_in_order, programme_of}
use Rattle.programme.specs.Rules.{treaty_number, band_end, last_of, treaty_fault, layer_fault, fault_of}
use Rattle.programme.specs.Valid.{treaty_passes, layer_passes}
use Rattle.programme.proofs.Faults.{treaty-fine, layer-fine}
use Rattle.programme.proofs.Lawful.{Lawful, treaty-passed, layer-passed, at-most-eight}
use Rattle.table_text.specs.declared.Reading.{Reading}
use Rattle.table_text.specs.Forms.{line_form, forms_of, line_of, table_of}
use Rattle.table_text.specs.Read.{read_as, read_from, read_of}
use Rattle.table_text.proofs.Fits.{Fit, each-fit}
use Rattle.table_text.proofs.Lines.{form-printed, line-no-feed, line-short}

-- The lines of one kind, read one after another: `state` gives all contracts from those of this kind, `form` the
-- contract of one. One that passes after the last has no fault, and joins the others.
module _ {A : Type 0} (passes : ℕ → A → Bool) (figure : A → ℕ) (state : List A → Contracts) (form : A → Contract)
    (fine : (done : List A) (x : A) → length done < 8 → passes (last_by figure 0 done) x ≡ true
    → fault_of (state done) (form x) ≡ 0)
    (enters : (done : List A) (x : A) → with_contract (state done) (form x) ≡ state (done ++ (x ∷ [])))
    (rest : List (Option Contract)) (r : Reading) where
  -- those done and those ahead, where the lines after them give r
  kind-read : (done xs : List A) → length done + length xs ≤ 8
      → chained passes figure (last_by figure 0 done) xs ≡ true
      → ((w : ℕ) → read_from w (state (done ++ xs)) rest ≡ r)
      → (w : ℕ) → read_from w (state done) (map Some (map form xs) ++ rest) ≡ r
  unfolding read_from
  kind-read done [] l e k w = rw append-nil at (k w)
  kind-read done (x ∷ xs) l e k w =
      let f = both (passes (last_by figure 0 done) x) (chained passes figure (figure x) xs) e in
      let next = done ++ (x ∷ []) in
      rw (fine done x (omega arith) f.0, enters done x)
      (kind-read next xs (omega (arith, length-append done (x ∷ []))) (rw last_snoc f.1)
      (λ v. rw (append_assoc done (x ∷ []) xs) (k v)) (w + 1))

  kind-back : (xs : List A) → length xs ≤ 8 → chained passes figure 0 xs ≡ true
      → ((w : ℕ) → read_from w (state xs) rest ≡ r)
      → (w : ℕ) → read_from w (state []) (map Some (map form xs) ++ rest) ≡ r
  kind-back xs l e k = kind-read [] xs (omega arith) e k

-- a layer after the others of its tier
layer-passing : (ls : List Terms) (l : Terms) → length ls < 8 → layer_passes (last_by band_end 0 ls) l ≡ true
    → layer_fault 0 (last_of band_end ls) l ≡ 0
layer-passing ls l h e =
    let p = layer-passed (last_by band_end 0 ls) l e in
    layer-fine 0 (last_of band_end ls) l (record { inside = p.0; order = refl; few = h; attachment = p.1 })

treaty-passing : (ts : List Treaty) (t : Treaty) → treaty_passes (last_by treaty_number 0 ts) t ≡ true
    → treaty_fault 0 (last_by treaty_number 0 ts) t ≡ 0
treaty-passing ts t e =
    let p = treaty-passed (last_by treaty_number 0 ts) t e in
    treaty-fine 0 (last_by treaty_number 0 ts) t (record { inside = p.0; order = refl; number = p.1 })

-- the forms of contracts kind by kind, and the three kinds read in turn
kinds : Contracts → List (Option Contract)
kinds c =
    map Some (map Proportional c.treaties)
    ++ (map Some (map Risk c.risk) ++ (map Some (map Cat c.cat) ++ []))

forms-kinds : (c : Contracts) → map Some (contracts_in_order c) ≡ kinds c
unfolding kinds
forms-kinds c = simp (map-append, append-nil)

kinds-back : (c : Contracts) → Lawful c → read_from 1 no_contracts (kinds c) ≡ read_as (programme_of c)
unfolding read_from kinds
kinds-back c g =
    kind-back treaty_passes treaty_number (λ ts. record { treaties = ts; risk = []; cat = [] }) Proportional
    (λ ts t h e. treaty-passing ts t e) (λ ts t. refl) _ _ c.treaties (at-most-eight c g) g.treaties
    (kind-back layer_passes band_end (λ ls. record { treaties = c.treaties; risk = ls; cat = [] }) Risk
    layer-passing (λ ls l. refl) _ _ c.risk g.few-risk g.risk
    (kind-back layer_passes band_end (λ ls. record { treaties = c.treaties; risk = c.risk; cat = ls }) Cat
    layer-passing (λ ls l. refl) _ _ c.cat g.few-cat g.cat (λ w. refl)))
    1

-- the lines of contracts within their ranges: their forms, and the length of the text
forms-printed : (xs : List Contract) → Each Fit xs → map line_form (map Some (map line_of xs)) ≡ map Some xs
forms-printed [] z = refl
forms-printed (x ∷ xs) z = rw (form-printed x z.0, forms-printed xs z.1)

joined-short : (xs : List Contract) → Each Fit xs → length (joined (map line_of xs)) ≤ 241 * length xs
joined-short [] z = omega arith
joined-short (x ∷ xs) z =
    omega (arith, length-append (line_of x) (10 ∷ joined (map line_of xs)), line-short x z.0, joined-short xs z.1)

module _ (c : Contracts) (g : Lawful c) where
  table-forms : forms_of (table_of c) ≡ map Some (contracts_in_order c)
  table-forms =
      ap (map line_form)
      (lines-joined (map line_of (contracts_in_order c)) (each_map NoFeed line_of (contracts_in_order c) (each_of _ line-no-feed (contracts_in_order c))))
      ∙ forms-printed (contracts_in_order c) (each-fit c g)

  -- at most 24 lines
  table-short : length (table_of c) ≤ 8192
  table-short =
      let count : length (contracts_in_order c) ≡ length c.treaties + (length c.risk + length c.cat) =
      simp (length-append, length-map) in
      omega (arith, joined-short (contracts_in_order c) (each-fit c g), at-most-eight c g, g.few-risk, g.few-cat)

  pub table-back : read_of (table_of c) ≡ read_as (programme_of c)
  unfolding read_of
  table-back = simp (read_of, le-ltb _ _ table-short) (rw (table-forms, forms-kinds c) (kinds-back c g))
