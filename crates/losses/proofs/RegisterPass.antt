-- A pass over a table's treaties that puts each in the place of its number.
-- Assumes nothing.
use mathlib.Core.Path.{◌≡◌, refl, sym, ap, ◌∙◌}
use mathlib.Core.Bool.{Bool, true, false, cond}
use mathlib.Core.List.{List, [], ◌∷◌}
use Prim.Native.Nat.{ℕ, suc, ◌+◌, ◌≤◌, ◌<◌}
use native.Mathlib.Numerals.{add-one}
use native.Mathlib.Omega.{arith}
use borrow.Author.Tests.{ne_eqb, eqb-true, eqb-false}
use lib.Dec.{eqb}
use lib.ListN.{length, get_or, set, drop, replicate, length-set, drop_of_length-le}
use lib.Seq.{drop-cons, get_or-set_same, get_or-set_other}
use Rattle.lists.specs.Chains.{chained}
use Rattle.lists.proofs.Chains.{both}
use Rattle.treaty.specs.declared.Treaty.{Treaty}
use Rattle.treaty.proofs.Losses.{Numbered}
use Rattle.programme.specs.declared.contract.Treaties.{Treaties}
use Rattle.programme.specs.Contract.{no_treaty, treaties_in}
use Rattle.programme.specs.Rules.{treaty_number}
use Rattle.programme.specs.Valid.{treaty_passes, treaty_unused, valid_treaties}
use Rattle.programme.proofs.Bounds.{treaty_in_range}
use Rattle.programme.proofs.Lawful.{treaty-passed}
use Rattle.programme.proofs.Validity.{places_tell, treaties_tell}
use Rattle.year.proofs.Treaties.{passed-numbers, passed-rising}
use Rattle.losses.specs.Treaties.{with_number, numbered, present, treaties_from, Registered}
use Rattle.losses.proofs.Numbers.{at-number, nine-places}
use Rattle.losses.proofs.Present.{present-numbered}

-- what the place of a number holds when treaties are put in theirs, where p stood before, if no two have the same number
abbrev place_after : List Treaty → (p : Treaty) → ℕ → Treaty
place_after [] p n = p
place_after (t ∷ ts) p n = cond (eqb n t.number) t (place_after ts p n)

-- treaties with higher numbers are put elsewhere
place_above : (m : ℕ) (ts : List Treaty) → Numbered m ts → (p : Treaty) (n : ℕ) → n ≤ m → place_after ts p n ≡ p
place_above m [] e p n h = refl
place_above m (t ∷ ts) e p n h =
    rw (ne_eqb n t.number (λ q. omega (arith, e.0)))
    (place_above t.number ts e.1 p n (omega (arith, e.0)))

-- where no treaty stood before, each place holds the treaty with its number
places-kept : (ts : List Treaty) (n : ℕ) → place_after ts no_treaty n ≡ with_number ts n
places-kept [] n = refl
places-kept (t ∷ ts) n = ap (cond (eqb n t.number) t) (places-kept ts n)

-- Of the treaties ts the first i stand in the places ps of their numbers: those ahead give the whole answer.
pub record Keeping (ts ps : List Treaty) (i : ℕ) : Type 0 where
  pub size : length ps ≡ 9
  pub passing : chained treaty_passes treaty_number 0 ts ≡ true
  pub number : ℕ
  pub passes : chained treaty_passes treaty_number number (drop i ts) ≡ true
  pub rest : (n : ℕ) → n ≤ 8 → place_after (drop i ts) (get_or ps n no_treaty) n ≡ with_number ts n

pub few : (t : Treaties) → valid_treaties t ≡ true → t.count ≤ 8
few t v = (places_tell treaty_unused t.count t.places (treaties_tell t v).0).1

-- before the first there are none
pub none_kept : (t : Treaties) → valid_treaties t ≡ true → (p : Treaty) → p ≡ no_treaty
    → Keeping (treaties_in t) (replicate 9 p) 0
none_kept t v p none =
    let g = treaties_tell t v in
    record {
      size = refl;
      passing = g.1;
      number = 0;
      passes = g.1;
      rest = λ n h.
          ap (λ (q : Treaty). place_after (treaties_in t) q n) (at-number (λ m. p) no_treaty n h ∙ none)
          ∙ places-kept (treaties_in t) n;
    }

module _ {ts ps : List Treaty} {i : ℕ} (g : Keeping ts ps i) where
  module _ (more : i < length ts) where
    abbrev treaty : Treaty
    treaty = get_or ts i no_treaty

    abbrev ahead : List Treaty
    ahead = drop (suc i) ts

    one-ahead : drop i ts ≡ treaty ∷ ahead
    one-ahead = drop-cons ts i no_treaty more

    next-passes : (treaty_passes g.number treaty ≡ true)
        × (chained treaty_passes treaty_number treaty.number ahead ≡ true)
    next-passes = both _ _ (rw one-ahead at g.passes)

    number_le : treaty.number ≤ 8
    number_le = (treaty_in_range treaty (treaty-passed g.number treaty next-passes.0).0).number-high

    pub number-high : treaty.number < 9
    number-high = omega (arith, number_le)

    -- each place after this treaty is put in its own
    place_kept : (n : ℕ) (b : Bool) → eqb n treaty.number ≡ b
        → cond b treaty (place_after ahead (get_or ps n no_treaty) n) ≡ with_number ts n
        → place_after ahead (get_or (set ps treaty.number treaty) n no_treaty) n ≡ with_number ts n
    place_kept n true q e =
        let same : n ≡ treaty.number = eqb-true n treaty.number q in
        let rising = passed-rising treaty.number ahead next-passes.1 in
        rw (same, get_or-set_same ps treaty.number treaty no_treaty (omega (arith, g.size, number-high)))
        (place_above treaty.number ahead rising treaty treaty.number (omega arith)
        ∙ e
        ∙ ap (with_number ts) same)
    place_kept n false q e =
        rw (get_or-set_other ps treaty.number n treaty no_treaty (eqb-false n treaty.number q))
        e

    -- one treaty more
    pub one_kept : Keeping ts (set ps treaty.number treaty) (i + 1)
    one_kept = rw (add-one i) record {
      size = length-set ps treaty.number treaty ∙ g.size;
      passing = g.passing;
      number = treaty.number;
      passes = next-passes.1;
      rest = λ n h. place_kept n (eqb n treaty.number) refl (rw one-ahead at (g.rest n h));
    }

  -- none is left
  module _ (ended : length ts ≤ i) where
    placed : ps ≡ numbered ts
    placed =
        nine-places (with_number ts) no_treaty ps g.size
        (λ n h. rw (drop_of_length-le ts {i = i} ended) at (g.rest n h))

    treaties-kept : treaties_from ps ≡ ts
    unfolding treaties_from
    treaties-kept =
        ap present placed ∙ present-numbered ts (passed-rising 0 ts g.passing) (passed-numbers 0 ts g.passing)

    pub all-kept : (treaties_from ps ≡ ts) × Registered ps
    all-kept = (
      treaties-kept,
      record {
        size = g.size;
        places = placed ∙ ap numbered (sym treaties-kept);
        passes = rw treaties-kept g.passing;
      },
    )
