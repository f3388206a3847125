-- Document 01, Events and statement: "day D 1 to 366; .. T 0 to 8; E 1 to 10^13; G 0 to 10^13. .. Days never go back";
-- When a call is turned down: "11, a number outside its range; 12, over 64 losses; 13, a day below the line before ..;
-- 14, a treaty other than 0 that the table lacks." The faults of a line that is an event form.
-- Assumes nothing.
use Rattle.std.specs.Prelude.{Bool, cond, ◌||◌, List, [], ◌∷◌, ℕ, ◌+◌, ◌^◌, eqb, ltb, length}
use Rattle.lists.specs.Sums.{sum_of}
use Rattle.treaty.specs.declared.Treaty.{Treaty}
use Rattle.treaty.specs.declared.Loss.{Loss}
use Rattle.programme.specs.Ranges.{outside}
use Rattle.events.specs.Event.{Event}

-- how many numbers of a loss form are outside their range: T 0 to 8; E 1 to 10^13; G 0 to 10^13
unfoldable pub loss_outside : Loss → ℕ
loss_outside x = outside 0 8 x.treaty + outside 1 (10 ^ 13) x.maximum + outside 0 (10 ^ 13) x.amount

-- of an event: day D 1 to 366, and the numbers of its losses
unfoldable pub event_outside : Event → ℕ
event_outside e = outside 1 366 e.day + sum_of loss_outside e.losses

-- whether n is 0 (none) or the number of a treaty in the table
abbrev pub in_table : List Treaty → ℕ → Bool
in_table [] n = eqb n 0
in_table (t ∷ ts) n = eqb n t.number || in_table ts n

-- how many losses name a treaty other than 0 that the table lacks
unfoldable pub lacking : List Treaty → List Loss → ℕ
lacking ts xs = sum_of (λ (x : Loss). cond (in_table ts x.treaty) 0 1) xs

-- 11, a number outside its range; 12, over 64 losses; 13, a day below the line before; 14, a treaty other than 0 that
-- the table lacks. The lowest number decides; 0 is no fault.
abbrev pub lowest_fault : (out count day before lacks : ℕ) → ℕ
lowest_fault out count day before lacks =
    cond (ltb 0 out) 11 (cond (ltb 64 count) 12 (cond (ltb day before) 13 (cond (ltb 0 lacks) 14 0)))

-- the fault of an event after the day `before`, under the table's treaties
unfoldable pub event_fault : List Treaty → (before : ℕ) → Event → ℕ
event_fault ts before e = lowest_fault (event_outside e) (length e.losses) e.day before (lacking ts e.losses)
