-- Document 01, The table text, with document 02's Q-2 and Q-4: the ranges of a table's numbers.
-- Assumes nothing.
use Rattle.std.specs.Prelude.{cond, ◌&&◌, List, ℕ, ◌+◌, ◌^◌, leb, eqb, length, take, drop}
use Rattle.lists.specs.Chains.{every}
use Rattle.treaty.specs.declared.Treaty.{Treaty}
use Rattle.layer.specs.declared.terms.Terms.{Terms}

-- 1 for a number outside the range from low to high, 0 for one within it
unfoldable pub outside : (low high n : ℕ) → ℕ
outside low high n = cond (leb low n && leb n high) 0 1

-- How many numbers of a quota share are outside their range: T 1 to 8; C 0 to 10,000; capacity and event 0 to 10^13;
-- the terms of a surplus, which it has not, hold 0.
abbrev pub quota_outside : Treaty → ℕ
quota_outside t =
    outside 1 8 t.number + outside 0 10000 t.cede + outside 0 (10 ^ 13) t.capacity
    + outside 0 (10 ^ 13) t.limit + outside 0 0 t.retention + outside 0 0 t.lines

-- of a surplus: T 1 to 8; retain 0 to 10^13; lines 0 to 100; event 0 to 10^13; the terms of a quota share hold 0
abbrev pub surplus_outside : Treaty → ℕ
surplus_outside t =
    outside 1 8 t.number + outside 0 (10 ^ 13) t.retention + outside 0 100 t.lines
    + outside 0 (10 ^ 13) t.limit + outside 0 0 t.cede + outside 0 0 t.capacity

-- of a treaty: kind 1 is quota share, kind 2 surplus, and any other kind is outside too
unfoldable pub treaty_outside : Treaty → ℕ
treaty_outside t = cond (eqb t.kind 1) (quota_outside t) (cond (eqb t.kind 2) (surplus_outside t) 1)

-- "each rate 0 to 20,000", "An unused rate is 0": 0 where of twenty places the first k hold such rates and the others
-- 0, and 1 elsewhere
unfoldable pub rates_outside : (k : ℕ) → List ℕ → ℕ
rates_outside k qs =
    cond (eqb (length qs) 20
    && (every (λ (q : ℕ). leb q 20000) (take k qs) && every (λ (q : ℕ). eqb q 0) (drop k qs))) 0 1

-- of a layer: attachment 0 to 10^13; limit 1 to 10^13; deduct 0 to 10^15; K 0 to 20; premium 0 to 10^12; S 0 to
-- 10,000; its rates; and 0 or 1 for (time)
unfoldable pub terms_outside : Terms → ℕ
terms_outside l =
    outside 0 (10 ^ 13) l.attachment + outside 1 (10 ^ 13) l.limit + outside 0 (10 ^ 15) l.deductible
    + outside 0 20 l.reinstatements + outside 0 (10 ^ 12) l.premium + outside 0 10000 l.placed
    + rates_outside l.reinstatements l.rates + outside 0 1 l.time

-- how many numbers of a place are not 0; a layer's rates count for one
unfoldable pub treaty_not_zero : Treaty → ℕ
treaty_not_zero t =
    outside 0 0 t.kind + outside 0 0 t.number + outside 0 0 t.cede + outside 0 0 t.capacity
    + outside 0 0 t.retention + outside 0 0 t.lines + outside 0 0 t.limit

unfoldable pub terms_not_zero : Terms → ℕ
terms_not_zero l =
    outside 0 0 l.attachment + outside 0 0 l.limit + outside 0 0 l.deductible
    + outside 0 0 l.reinstatements + outside 0 0 l.premium + outside 0 0 l.placed
    + rates_outside 0 l.rates + outside 0 0 l.time
