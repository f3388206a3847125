-- Document 01, The table text, and Events and statement: the numbers that a treaty and a loss may hold.
-- Assumes nothing.
use Rattle.std.specs.Prelude.{ℕ, ◌^◌, ◌≤◌, ◌<◌}
use Rattle.treaty.specs.declared.Treaty.{Treaty}
use Rattle.treaty.specs.declared.Loss.{Loss}

-- a treaty's terms
pub record TermsInRange (t : Treaty) : Type 0 where
  pub cede : t.cede ≤ 10000
  pub capacity : t.capacity ≤ 10 ^ 13
  pub retention : t.retention ≤ 10 ^ 13
  pub lines : t.lines ≤ 100
  pub limit : t.limit ≤ 10 ^ 13

-- a loss form's numbers
pub record LossInRange (x : Loss) : Type 0 where
  pub treaty : x.treaty ≤ 8
  pub maximum_low : 1 ≤ x.maximum
  pub maximum_high : x.maximum ≤ 10 ^ 13
  pub amount : x.amount ≤ 10 ^ 13

-- an amount g of a loss with estimated maximum loss e
pub record AmountInRange (t : Treaty) (e g : ℕ) : Type 0 where
  pub terms : TermsInRange t
  pub maximum_low : 1 ≤ e
  pub maximum_high : e ≤ 10 ^ 13
  pub amount : g ≤ 10 ^ 13

-- a loss that a treaty may be given after it took an amount in the event: what is ceded of all losses of a text adds
-- up to less than 2 ^ 62
pub record Cedable (t : Treaty) (taken : ℕ) (x : Loss) : Type 0 where
  pub terms : TermsInRange t
  pub loss : LossInRange x
  pub taken-below : taken < 2 ^ 62
