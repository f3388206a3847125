-- A pass over the lines of a table text: the contracts read so far stand in their places, and the lines ahead give the
-- whole answer.
-- Assumes nothing.
use mathlib.Core.Path.{◌≡◌, refl, sym, ap, ◌∙◌}
use mathlib.Core.List.{List, [], ◌∷◌}
use Rattle.std.specs.Prelude.{Option, None, Some}
use Prim.Native.Nat.{ℕ, zero, suc, ◌+◌, ◌-◌, ◌≤◌, ◌<◌}
use native.Mathlib.Omega.{arith}
use borrow.Author.Tests.{lt-ltb, le-ltb}
use lib.ListN.{length, take, drop, length-append}
use Rattle.text.specs.Lines.{line_end}
use Rattle.text.proofs.Feeds.{line_at, line-last, line-none}
use Rattle.programme.specs.declared.contract.Contract.{Contract}
use Rattle.programme.specs.declared.contract.Contract.TheVariants.{Proportional, Risk, Cat}
use Rattle.programme.specs.declared.contract.Programme.{Programme}
use Rattle.programme.specs.declared.rule.Before.{Before}
use Rattle.programme.specs.Contract.{Contracts, no_contracts, with_contract, programme_of, programme_with, place_of}
use Rattle.programme.specs.Rules.{before_of, fault_after, fault_of}
use Rattle.programme.specs.LineByLine.{before_next, EightAtMost}
use Rattle.programme.proofs.Lawful.{Lawful, at-most-eight}
use Rattle.programme.proofs.Places.{contract-placed, contract-counted}
use Rattle.table_text.specs.declared.Reading.{Reading}
use Rattle.table_text.specs.Forms.{form_of, forms_of}
use Rattle.table_text.specs.Read.{refused_at, read_as, unless_fault, read_from, read_of}
use Rattle.table_text.proofs.TextRead.{none-lawful, one_more}

-- Before line `number + 1`, which begins at the place `at`: the programme p holds the contracts of the lines before it.
pub record Going (s : List ℕ) (p : Programme) (before : Before) (number at : ℕ) : Type 0 where
  pub contracts : Contracts
  pub lawful : Lawful contracts
  pub held : p ≡ programme_of contracts
  pub told : before ≡ before_of contracts
  pub within : at ≤ length s
  pub early : number ≤ at
  pub rest : read_from 1 no_contracts (forms_of s) ≡ read_from (number + 1) contracts (forms_of (drop at s))

-- before the first line
pub going-begins : (s : List ℕ) (p : Programme) (before : Before) → p ≡ programme_of no_contracts
    → before ≡ before_of no_contracts → Going s p before 0 0
going-begins s p before a b = record {
  contracts = no_contracts;
  lawful = none-lawful;
  held = a;
  told = b;
  within = omega arith;
  early = omega arith;
  rest = refl;
}

refuses : (n w : ℕ) (r : Reading) → (n ≡ 0 → ⊥) → unless_fault n w r ≡ refused_at n w
refuses zero w r h = absurd (h refl)
refuses (suc n) w r h = refl

-- contracts have room for one more where with it they are lawful
room_left : (c : Contracts) (x : Contract) → Lawful (with_contract c x) → place_of (programme_of c) x < 8
room_left c (Proportional t) g =
    omega (arith, at-most-eight (with_contract c (Proportional t)) g, length-append c.treaties (t ∷ []))
room_left c (Risk l) g = omega (arith, g.few-risk, length-append c.risk (l ∷ []))
room_left c (Cat l) g = omega (arith, g.few-cat, length-append c.cat (l ∷ []))

module _ {s : List ℕ} {p : Programme} {before : Before} {number at : ℕ} (g : Going s p before number at) where
  pub eight-at-most : EightAtMost before
  eight-at-most =
      rw g.told
      (record { treaties = at-most-eight g.contracts g.lawful; risk = g.lawful.few-risk; cat = g.lawful.few-cat })

  -- no line is left
  pub all_read : length s ≤ at → read_as p ≡ read_from 1 no_contracts (forms_of s)
  unfolding read_from
  all_read h = sym (g.rest ∙ rw (line-none s at h, g.held))

  module _ (e : ℕ) (q : e ≡ line_end s at) (h : at < length s) where
    -- bytes after the last line feed
    pub no-feed : e ≡ length s → refused_at 2 (number + 1) ≡ read_from 1 no_contracts (forms_of s)
    unfolding read_from
    no-feed l = sym (g.rest ∙ rw (line-last s at e q h l))

    module _ (l : e ≡ length s → ⊥) (o : Option Contract) (w : o ≡ form_of (take (e - at) (drop at s))) where
      forms : forms_of (drop at s) ≡ o ∷ forms_of (drop (e + 1) s)
      forms = rw (line_at s at e q h l, w)

      pub no-form : o ≡ None → refused_at 2 (number + 1) ≡ read_from 1 no_contracts (forms_of s)
      unfolding read_from
      no-form v = sym (g.rest ∙ rw (forms, v))

      module _ (x : Contract) (v : o ≡ Some x) (n : ℕ) (z : n ≡ fault_after before x) where
        fault : fault_of g.contracts x ≡ n
        fault = sym (z ∙ ap (λ (b : Before). fault_after b x) g.told)

        pub at-fault : (n ≡ 0 → ⊥) → refused_at n (number + 1) ≡ read_from 1 no_contracts (forms_of s)
        unfolding read_from
        at-fault m = sym (g.rest ∙ rw (forms, v, fault) (refuses n (number + 1) _ m))

        -- a contract without fault enters, and the line after it is next
        module _ (m : n ≡ 0) where
          lawful : Lawful (with_contract g.contracts x)
          lawful = (one_more g.contracts x g.lawful (fault ∙ m)).0

          room : place_of (programme_of g.contracts) x < 8
          room = room_left g.contracts x lawful

          pub has-room : place_of p x < 8
          has-room = rw g.held room

          pub enters : (at ≤ e) → (e ≤ length s) → Going s (programme_with p x) (before_next before x) (number + 1) (e + 1)
          unfolding read_from
          enters a b = record {
            contracts = with_contract g.contracts x;
            lawful = lawful;
            held = rw g.held (contract-placed g.contracts x room);
            told = rw g.told (contract-counted g.contracts x);
            within = omega (arith, l);
            early = omega (arith, g.early);
            rest = g.rest ∙ rw (forms, v, fault, m);
          }

-- a text of more than 8,192 bytes, and any other
module _ (s : List ℕ) where
  pub too_long : 8192 < length s → refused_at 1 0 ≡ read_of s
  unfolding read_of
  too_long h = sym (rw (read_of, lt-ltb _ _ h))

  pub not_long : length s ≤ 8192 → read_from 1 no_contracts (forms_of s) ≡ read_of s
  unfolding read_of
  not_long h = sym (rw (read_of, le-ltb _ _ h))
