-- Document 02, Q-3: "a loss is ceded as if there were no limit, then cut to the limit less what the treaty took
-- earlier in the event". Over a whole event a treaty takes what it would take without its limit, cut to the limit
-- once: so never more than the limit.
-- Assumes nothing.
use mathlib.Core.Path.{◌≡◌, refl}
use mathlib.Core.Bool.{Bool, true, false, cond}
use mathlib.Core.List.{List, [], ◌∷◌, ◌++◌}
use Prim.Native.Nat.{ℕ, ◌+◌, ◌-◌, ◌≤◌, ◌<◌, min}
use native.Mathlib.Omega.{arith}
use borrow.Author.Tests.{ne_eqb}
use lib.Dec.{eqb}
use Rattle.lists.specs.Sums.{sum_of, total}
use Rattle.treaty.specs.declared.Treaty.{Treaty}
use Rattle.treaty.specs.declared.Loss.{Loss}
use Rattle.treaty.specs.Treaty.{ceded_of, cut_to_limit, ceded_of_loss, cessions_from, own_losses, taken_by}
use Rattle.treaty.proofs.Cessions.{cut-le}
use Rattle.treaty.proofs.Losses.{Numbered, ceded_of_own, treaty-ceded}

-- what a treaty would take of losses without its limit
abbrev pub unlimited_of : Treaty → List Loss → ℕ
unlimited_of t xs = sum_of (λ (x : Loss). ceded_of t x.maximum x.amount) xs

-- two amounts in turn are cut as their sum is cut
cut_in_turn : (limit taken c d : ℕ)
    → cut_to_limit limit taken c + cut_to_limit limit (taken + cut_to_limit limit taken c) d
    ≡ cut_to_limit limit taken (c + d)
unfolding cut_to_limit
cut_in_turn limit taken c d = none_or_some (eqb limit 0)
  where
    none_or_some : (b : Bool)
        → cond b c (min c (limit - taken)) + cond b d (min d (limit - (taken + cond b c (min c (limit - taken)))))
        ≡ cond b (c + d) (min (c + d) (limit - taken))
    none_or_some true = refl
    none_or_some false = omega arith

-- what is cut to a limit is at most the limit
cut_to_limit_lem : (limit c : ℕ) → 0 < limit → cut_to_limit limit 0 c ≤ limit
unfolding cut_to_limit
cut_to_limit_lem limit c h = rw (ne_eqb limit 0 (λ z. omega arith)) (omega arith)

-- once the limit is reached nothing is left of it, whether an amount counts before or after its own cut
cut-after-cut : (limit c d : ℕ) → cut_to_limit limit (cut_to_limit limit 0 c) d ≡ cut_to_limit limit c d
unfolding cut_to_limit
cut-after-cut limit c d = none_or_some (eqb limit 0)
  where
    none_or_some : (b : Bool)
        → cond b d (min d (limit - cond b c (min c (limit - 0)))) ≡ cond b d (min d (limit - c))
    none_or_some true = refl
    none_or_some false = omega arith

module _ (t : Treaty) where
  -- losses in turn, after an amount taken
  taken-from : (taken : ℕ) (xs : List Loss)
      → total (cessions_from taken t xs) ≡ cut_to_limit t.limit taken (unlimited_of t xs)
  unfolding ceded_of_loss
  taken-from taken [] = omega (arith, cut-le t.limit taken 0)
  taken-from taken (x ∷ xs) =
      let c = ceded_of t x.maximum x.amount in
      rw (taken-from (taken + cut_to_limit t.limit taken c) xs)
      (cut_in_turn t.limit taken c (unlimited_of t xs))

  -- over an event
  pub event-taken : (xs : List Loss) → taken_by t xs ≡ cut_to_limit t.limit 0 (unlimited_of t (own_losses t xs))
  event-taken xs = taken-from 0 (own_losses t xs)

  -- a treaty never takes more than its limit of an event
  pub event-limit : 0 < t.limit → (xs : List Loss) → taken_by t xs ≤ t.limit
  event-limit h xs = rw (event-taken xs) (cut_to_limit_lem t.limit (unlimited_of t (own_losses t xs)) h)

  -- nor is more ceded of the losses with its number, loss by loss through a table's treaties
  pub event-limit-own : (n : ℕ) (before after : List Treaty) → Numbered n (before ++ (t ∷ after)) → 0 < t.limit
      → (xs : List Loss) → ceded_of_own (before ++ (t ∷ after)) t [] xs ≤ t.limit
  event-limit-own n before after e h xs = rw (treaty-ceded n before t after e xs) (event-limit h xs)

  -- what is ceded of a loss does not depend on whether the treaty's earlier losses count before or after the cut
  pub counted_either_way : (earlier : List Loss) (x : Loss)
      → ceded_of_loss t (taken_by t earlier) x ≡ ceded_of_loss t (unlimited_of t (own_losses t earlier)) x
  unfolding ceded_of_loss
  counted_either_way earlier x =
      rw (event-taken earlier)
      (cut-after-cut t.limit (unlimited_of t (own_losses t earlier)) (ceded_of t x.maximum x.amount))
