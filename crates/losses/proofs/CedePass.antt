-- An event's losses, of which the first i went through their treaties: those ahead give the whole answer.
-- Assumes nothing.
use mathlib.Core.Path.{◌≡◌, refl, sym, ap, ◌∙◌}
use mathlib.Core.List.{List, [], ◌∷◌, ◌++◌, map}
use Prim.Native.Nat.{ℕ, suc, ◌+◌, ◌-◌, ◌*◌, ◌^◌, ◌≤◌, ◌<◌, zero-le}
use native.Mathlib.Nat.{add-zero, zero-add}
use native.Mathlib.Numerals.{add-one}
use native.Mathlib.Omega.{arith}
use lib.ListN.{length, take, drop, get_or, set, length-set, drop_of_length-le}
use lib.Seq.{sets, take-suc, drop-cons}
use mir.Syntax.{w64}
use mir.Val.{Fits}
use Rattle.lists.specs.Sums.{total}
use Rattle.lists.specs.Each.{Each}
use Rattle.lists.proofs.Each.{each_of, each_at}
use Rattle.treaty.specs.declared.Treaty.{Treaty}
use Rattle.treaty.specs.declared.Loss.{Loss}
use Rattle.treaty.specs.declared.Cession.{Cession}
use Rattle.treaty.specs.Treaty.{loss_of, ceded_of_loss, cession_of}
use Rattle.treaty.specs.Losses.{gross_of, ceded_in, ceded_of_each, left_of_each}
use Rattle.treaty.specs.Ranges.{TermsInRange, LossInRange, Cedable}
use Rattle.treaty.proofs.Cessions.{ceded-le-amount}
use Rattle.programme.specs.Contract.{no_treaty}
use Rattle.losses.specs.Treaties.{each_number, with_number, treaties_from, Registered}
use Rattle.losses.specs.Cede.{losses_from, ceded_added, AfterTreaties}
use Rattle.losses.specs.Event.{CanCedeEach}
use Rattle.losses.proofs.Stores.{each-sum, at_most, sum-at}
use Rattle.losses.proofs.Numbers.{at-number}
use Rattle.losses.proofs.RegisteredTreaties.{places-terms}
use Rattle.losses.proofs.Taken.{taken_at, ceded_with, taken-after}

-- Of the losses xs those of `before` went through the treaties ts, and those of `after` are ahead. The amounts come to
-- g and what is ceded to c. The places for what is left were l₀ and are l, with i of them used; the amounts by number
-- were cs₀ and are cs.
pub record Columns (ts : List Treaty) (xs : List Loss) (l₀ cs₀ : List ℕ) (before after : List Loss) (i g c : ℕ)
    (l cs : List ℕ) : Type 0 where
  pub gross : g + gross_of after ≡ gross_of xs
  pub ceded : c + total (ceded_of_each ts before after) ≡ total (ceded_of_each ts [] xs)
  pub left : sets l i (left_of_each ts before after) ≡ sets l₀ 0 (left_of_each ts [] xs)
  pub cessions : ceded_added ts before cs after ≡ ceded_added ts [] cs₀ xs

module _ (ts : List Treaty) (xs : List Loss) (l₀ cs₀ : List ℕ) where
  no_column : Columns ts xs l₀ cs₀ [] xs 0 0 0 l₀ cs₀
  no_column = record { gross = zero-add _; ceded = zero-add _; left = refl; cessions = refl }

  -- one loss more, of which d is ceded
  one_column : (before : List Loss) (x : Loss) (after : List Loss) (i g c : ℕ) (l cs : List ℕ)
      → Columns ts xs l₀ cs₀ before (x ∷ after) i g c l cs → (d : ℕ) → d ≡ ceded_in ts before x
      → Columns ts xs l₀ cs₀ (before ++ (x ∷ [])) after (suc i) (g + x.amount) (c + d) (set l i (x.amount - d))
      (set cs x.treaty (get_or cs x.treaty 0 + d))
  one_column before x after i g c l cs h d is = rw is record {
    gross = omega (arith, h.gross);
    ceded = omega (arith, h.ceded);
    left = h.left;
    cessions = h.cessions;
  }

  -- no loss is ahead
  all-columns : (before : List Loss) (i g c : ℕ) (l cs : List ℕ) → Columns ts xs l₀ cs₀ before [] i g c l cs
      → AfterTreaties ts xs cs₀ cs (record { gross = g; ceded = c }) × (l ≡ sets l₀ 0 (left_of_each ts [] xs))
  all-columns before i g c l cs h = (
    record {
      gross = sym (add-zero g) ∙ h.gross;
      ceded = sym (add-zero c) ∙ h.ceded;
      cessions = h.cessions;
    },
    h.left,
  )

-- The same of the first i of k losses, for the treaties of a register, with what keeps the sums small. What each treaty
-- took is in `ks`, by number.
pub record Ceding (register : List Treaty) (xs : List Loss) (k : ℕ) (l₀ cs₀ l cs ks : List ℕ) (g c i : ℕ) : Type 0 where
  pub registered : Registered register
  pub count : k ≡ length xs
  pub within : i ≤ k
  pub few : k ≤ 64
  pub losses : Each LossInRange xs
  pub room : k ≤ length l
  pub nine-taken : length ks ≡ 9
  pub gross-le : g ≤ i * 10 ^ 13
  pub ceded-le : c ≤ g
  pub sums-le : Each (λ (n : ℕ). n ≤ 2 ^ 62 + i * 10 ^ 13) cs
  pub taken-le : Each (λ (n : ℕ). n ≤ i * 10 ^ 13) ks
  pub taken : (n : ℕ) → n ≤ 8 → get_or ks n 0 ≡ taken_at (treaties_from register) n (take i xs)
  pub columns : Columns (treaties_from register) xs l₀ cs₀ (take i xs) (drop i xs) i g c l cs

-- before the first loss
pub none-ceded : (register : List Treaty) (ns l cs : List ℕ) → CanCedeEach register ns cs → length (losses_from ns) ≤ length l
    → (k : ℕ) → k ≡ length (losses_from ns)
    → Ceding register (losses_from ns) k l cs l cs (map (λ n. 0) each_number) 0 0 0
none-ceded register ns l cs can room k is = record {
  registered = can.registered;
  count = is;
  within = omega arith;
  few = omega (arith, is, can.few);
  losses = can.losses;
  room = omega (arith, is);
  nine-taken = refl;
  gross-le = omega arith;
  ceded-le = omega arith;
  sums-le = can.amounts;
  taken-le = each_of (λ (n : ℕ). 0 ≤ 0) (λ n. zero-le) each_number;
  taken = at-number (λ n. 0) 0;
  columns = no_column (treaties_from register) (losses_from ns) l cs;
}

module _ {register : List Treaty} {xs : List Loss} {k : ℕ} {l₀ cs₀ l cs ks : List ℕ} {g c i : ℕ}
    (h : Ceding register xs k l₀ cs₀ l cs ks g c i) where
  abbrev table : List Treaty
  table = treaties_from register

  -- one loss more
  module _ (more : i < k) (x : Loss) (is : x ≡ get_or xs i (loss_of 0 0 0)) where
    inside : i < length xs
    inside = omega (arith, h.count)

    pub loss_in_range : LossInRange x
    loss_in_range = rw is (each_at LossInRange xs h.losses i (loss_of 0 0 0) inside)

    abbrev took : ℕ
    took = get_or ks x.treaty 0

    one-taken : take (suc i) xs ≡ take i xs ++ (x ∷ [])
    one-taken = rw is (take-suc xs i (loss_of 0 0 0) inside)

    one_dropped : drop i xs ≡ x ∷ drop (suc i) xs
    one_dropped = rw is (drop-cons xs i (loss_of 0 0 0) inside)

    -- through the treaty in its place
    abbrev treaty : Treaty
    treaty = get_or register x.treaty no_treaty

    terms_in_range : TermsInRange treaty
    terms_in_range =
        each_at TermsInRange register (places-terms h.registered) x.treaty no_treaty
        (omega (arith, h.registered.size, loss_in_range.treaty))

    pub next_cedable : Cedable treaty took x
    next_cedable = record {
      terms = terms_in_range;
      loss = loss_in_range;
      taken-below = omega (arith, h.few, at_most _ ks h.taken-le x.treaty);
    }

    -- what it cedes is what the table cedes
    ceded-is : ceded_of_loss treaty took x ≡ ceded_in table (take i xs) x
    ceded-is =
        let n = loss_in_range.treaty in
        let own : treaty ≡ with_number table x.treaty =
        ap (λ (ts : List Treaty). get_or ts x.treaty no_treaty) h.registered.places
        ∙ at-number (with_number table) no_treaty x.treaty n in
        rw (own, h.taken x.treaty n)
        (sym (ceded_with table (take i xs) x))

    ceded-le-gross : ceded_of_loss treaty took x ≤ x.amount
    ceded-le-gross = ceded-le-amount treaty took x terms_in_range.cede

    taken_is : (n : ℕ) → n ≤ 8
        → get_or (set ks x.treaty (took + ceded_of_loss treaty took x)) n 0 ≡ taken_at table n (take (suc i) xs)
    taken_is n high =
        let now = sum-at ks x.treaty (ceded_of_loss treaty took x) n (omega (arith, h.nine-taken)) in
        rw (one-taken, taken-after n (take i xs) x table, sym (h.taken n high), sym ceded-is) now

    module _ (d : Cession) (does : d ≡ cession_of treaty took x) where
      ceded-is-le : d.ceded ≤ 10 ^ 13
      ceded-is-le = rw does (omega (arith, loss_in_range.amount, ceded-le-gross))

      pub ceded-fits : Fits w64 (c + d.ceded)
      ceded-fits = omega (arith, h.few, h.gross-le, h.ceded-le, ceded-is-le)

      pub sum_fits : Fits w64 (get_or cs x.treaty 0 + d.ceded)
      sum_fits = omega (arith, h.few, at_most _ cs h.sums-le x.treaty, ceded-is-le)

      pub one-ceded : Ceding register xs k l₀ cs₀ (set l i d.left)
          (set cs x.treaty (get_or cs x.treaty 0 + d.ceded)) (set ks x.treaty d.taken)
          (g + x.amount) (c + d.ceded) (i + 1)
      one-ceded = rw (does, add-one i) record {
        registered = h.registered;
        count = h.count;
        within = omega arith;
        few = h.few;
        losses = h.losses;
        room = omega (arith, h.room, length-set l i (x.amount - ceded_of_loss treaty took x));
        nine-taken = length-set ks x.treaty _ ∙ h.nine-taken;
        gross-le = omega (arith, h.gross-le, loss_in_range.amount);
        ceded-le = omega (arith, h.ceded-le, ceded-le-gross);
        sums-le = each-sum _ _ cs h.sums-le x.treaty _ (omega (arith, loss_in_range.amount, ceded-le-gross));
        taken-le =
            each-sum _ _ ks h.taken-le x.treaty _ (omega (arith, loss_in_range.amount, ceded-le-gross));
        taken = taken_is;
        columns = rw one-taken
            (one_column table xs l₀ cs₀ (take i xs) x (drop (suc i) xs) i g c l cs (rw one_dropped at h.columns)
            (ceded_of_loss treaty took x) ceded-is);
      }

  -- after the last loss
  pub all-ceded : k ≤ i
      → AfterTreaties table xs cs₀ cs (record { gross = g; ceded = c }) × (l ≡ sets l₀ 0 (left_of_each table [] xs))
  all-ceded ended =
      all-columns table xs l₀ cs₀ (take i xs) i g c l cs
      (rw (drop_of_length-le xs {i = i} (omega (arith, h.count))) at h.columns)
