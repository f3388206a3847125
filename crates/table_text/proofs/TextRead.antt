-- What is read from a text: lawful contracts, whose table is the text.
-- Assumes nothing.
use mathlib.Core.Path.{◌≡◌, refl, sym, ap, ◌∙◌}
use mathlib.Core.Bool.{true}
use mathlib.Core.List.{List, [], ◌∷◌, ◌++◌, map, map-append, append_assoc, append-nil}
use Rattle.std.specs.Prelude.{Option, None, Some}
use Prim.Native.Nat.{ℕ, zero, suc, ◌+◌, ◌≤◌, zero-le}
use native.Mathlib.Omega.{arith}
use borrow.Author.Tests.{lt-ltb, le-ltb}
use Rattle.std.proofs.lemmas.Bool.Decides.{nat_tests}
use lib.ListN.{length, length-append}
use Rattle.lists.specs.Each.{Each}
use Rattle.lists.specs.Chains.{last_by, chained}
use Rattle.lists.proofs.Chains.{chained_snoc}
use Rattle.lists.proofs.Cases.{by-lt}
use Rattle.text.specs.Lines.{lines_of}
use Rattle.text.proofs.Feeds.{joined-lines}
use Rattle.layer.specs.declared.terms.Terms.{Terms}
use Rattle.programme.specs.declared.contract.Programme.{Programme}
use Rattle.programme.specs.declared.contract.Contract.{Contract}
use Rattle.programme.specs.declared.contract.Contract.TheVariants.{Proportional, Risk, Cat}
use Rattle.programme.specs.Contract.{Contracts, no_contracts, with_contract, contracts_in_order, programme_of}
use Rattle.programme.specs.Rules.{treaty_number, band_end, last_of, fault_of}
use Rattle.programme.specs.Valid.{treaty_passes, layer_passes}
use Rattle.programme.proofs.Faults.{LayerFaultless, treaty-faultless, layer-faultless}
use Rattle.programme.proofs.Lawful.{Lawful}
use Rattle.table_text.specs.declared.Reading.{Reading}
use Rattle.table_text.specs.Forms.{form_of, line_form, forms_of, line_of, table_of}
use Rattle.table_text.specs.Read.{refused_at, read_as, unless_fault, read_from, read_of}
use Rattle.table_text.proofs.Fits.{Fit, each-fit}
use Rattle.table_text.proofs.Lines.{form-read}

none_left : {A : Type 0} (xs : List A) → length xs ≡ 0 → xs ≡ []
none_left [] e = refl
none_left (x ∷ xs) e = absurd (omega arith)

-- a layer without fault, at the end of its tier
module _ (later : ℕ) (ls : List Terms) (l : Terms) (f : LayerFaultless later (last_of band_end ls) l) where
  layer-next : chained layer_passes band_end 0 ls ≡ true → chained layer_passes band_end 0 (ls ++ (l ∷ [])) ≡ true
  layer-next e =
      let p : layer_passes (last_by band_end 0 ls) l ≡ true = grind (arith, nat_tests) in
      chained_snoc band_end layer_passes 0 ls l ∙ rw (e, p)

  layer-few : length (ls ++ (l ∷ [])) ≤ 8
  layer-few = omega (arith, length-append ls (l ∷ []), f.few)

-- a contract without fault leaves the contracts lawful, and is the last of them in the table's order
pub one_more : (c : Contracts) (x : Contract) → Lawful c → fault_of c x ≡ 0
    → Lawful (with_contract c x) × (contracts_in_order (with_contract c x) ≡ contracts_in_order c ++ (x ∷ []))
one_more c (Proportional t) g z =
    let f = treaty-faultless _ _ t z in
    let no-risk = none_left c.risk (omega (arith, f.order)) in
    let no-cat = none_left c.cat (omega (arith, f.order)) in
    let p : treaty_passes (last_by treaty_number 0 c.treaties) t ≡ true = grind (arith, nat_tests) in (
      record {
        treaties = chained_snoc treaty_number treaty_passes 0 c.treaties t ∙ rw (g.treaties, p);
        risk = g.risk;
        cat = g.cat;
        few-risk = g.few-risk;
        few-cat = g.few-cat;
      },
      rw (no-risk, no-cat) (simp (map-append, append-nil)),
    )
one_more c (Risk l) g z =
    let f = layer-faultless _ _ l z in
    let no-cat = none_left c.cat f.order in (
      record {
        treaties = g.treaties;
        risk = layer-next _ c.risk l f g.risk;
        cat = g.cat;
        few-risk = layer-few _ c.risk l f;
        few-cat = g.few-cat;
      },
      rw no-cat (simp (map-append, append-nil, append_assoc)),
    )
one_more c (Cat l) g z =
    let f = layer-faultless _ _ l z in (
      record {
        treaties = g.treaties;
        risk = g.risk;
        cat = layer-next _ c.cat l f g.cat;
        few-risk = g.few-risk;
        few-cat = layer-few _ c.cat l f;
      },
      simp (map-append, append_assoc),
    )

-- What the forms fs after the contracts c are where the programme p is read from them: each is a contract, and p is
-- the programme of all contracts.
record ReadOn (c : Contracts) (fs : List (Option Contract)) (p : Programme) : Type 0 where
  contracts : Contracts
  lawful : Lawful contracts
  programme : programme_of contracts ≡ p
  lines : List Contract
  forms : fs ≡ map Some lines
  order : contracts_in_order contracts ≡ contracts_in_order c ++ lines

-- a refusal is no success
no_success : (n w : ℕ) (p : Programme) → refused_at (suc n) w ≡ read_as p → ⊥
no_success n w p e = let z : suc n ≡ 0 = ap (λ (r : Reading). r.refusal) e in omega arith

read-on : (fs : List (Option Contract)) (w : ℕ) (c : Contracts) (p : Programme) → Lawful c → read_from w c fs ≡ read_as p
    → ReadOn c fs p
unfolding read_from
read-on [] w c p g e = record {
  contracts = c;
  lawful = g;
  programme = ap (λ (r : Reading). r.programme) e;
  lines = [];
  forms = refl;
  order = sym (append-nil (contracts_in_order c));
}
read-on (None ∷ fs) w c p g e = absurd (no_success 1 w p e)
read-on (Some x ∷ fs) w c p g e = by-fault (fault_of c x) refl e (read-on fs (w + 1) (with_contract c x) p)
  where
    by-fault : (n : ℕ) → fault_of c x ≡ n → unless_fault n w (read_from (w + 1) (with_contract c x) fs) ≡ read_as p
        → (Lawful (with_contract c x) → read_from (w + 1) (with_contract c x) fs ≡ read_as p
        → ReadOn (with_contract c x) fs p)
        → ReadOn c (Some x ∷ fs) p
    by-fault zero z h again =
        let m = one_more c x g z in
        let r = again m.0 h in
        record {
          contracts = r.contracts;
          lawful = r.lawful;
          programme = r.programme;
          lines = x ∷ r.lines;
          forms = ap (λ (y : List (Option Contract)). Some x ∷ y) r.forms;
          order = r.order ∙ rw m.1 (append_assoc (contracts_in_order c) (x ∷ []) r.lines);
        }
    by-fault (suc n) z h again = absurd (no_success n w p h)

-- lines whose forms are contracts within their ranges are the contracts' lines
lines-read : (ls : List (Option (List ℕ))) (xs : List Contract) → map line_form ls ≡ map Some xs → Each Fit xs
    → ls ≡ map Some (map line_of xs)
lines-read [] [] e z = refl
lines-read [] (x ∷ xs) e z = let n : ◌≡◌ {A = ℕ} 0 1 = cc in absurd (omega arith)
lines-read (l ∷ ls) [] e z = let n : ◌≡◌ {A = ℕ} 0 1 = cc in absurd (omega arith)
lines-read (None ∷ ls) (x ∷ xs) e z = let n : ◌≡◌ {A = ℕ} 0 1 = cc in absurd (omega arith)
lines-read (Some l ∷ ls) (x ∷ xs) e z =
    let first : form_of l ≡ Some x = cc in
    let rest : map line_form ls ≡ map Some xs = cc in
    rw (form-read l x first z.0, lines-read ls xs rest z.1)

-- what a text is from which the programme p is read
pub record Table (s : List ℕ) (p : Programme) : Type 0 where
  pub contracts : Contracts
  pub lawful : Lawful contracts
  pub programme : programme_of contracts ≡ p
  pub text : s ≡ table_of contracts

pub none-lawful : Lawful no_contracts
none-lawful = record { treaties = refl; risk = refl; cat = refl; few-risk = zero-le; few-cat = zero-le }

table_of_lem : (s : List ℕ) (p : Programme) → ReadOn no_contracts (forms_of s) p → Table s p
table_of_lem s p r =
    let fit : Each Fit r.lines = rw r.order at (each-fit r.contracts r.lawful) in
    let lines = lines-read (lines_of s) r.lines r.forms fit in
    record {
      contracts = r.contracts;
      lawful = r.lawful;
      programme = r.programme;
      text = rw r.order (joined-lines s (map line_of r.lines) lines);
    }

pub table-read : (s : List ℕ) (p : Programme) → read_of s ≡ read_as p → Table s p
unfolding read_of
table-read s p e =
    by-lt 8192 (length s)
    (λ h. absurd (no_success 0 0 p (simp (read_of, lt-ltb _ _ h) at e)))
    (λ h. table_of_lem s p (read-on (forms_of s) 1 no_contracts p none-lawful (simp (read_of, le-ltb _ _ h) at e)))
