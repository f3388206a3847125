-- What reading keeps from line to line: how many of each kind were read, and their last figures.
-- Assumes nothing.
use Rattle.std.specs.Prelude.{ℕ, ◌+◌, ◌≤◌}
use Rattle.programme.specs.declared.rule.Last.{Last}
use Rattle.programme.specs.declared.rule.Before.{Before}
use Rattle.programme.specs.declared.contract.Contract.{Contract}
use Rattle.programme.specs.declared.contract.Contract.TheVariants.{Proportional, Risk, Cat}
use Rattle.programme.specs.Rules.{band_end}

-- one more of a kind, with its figure
abbrev pub next_of : Last → ℕ → Last
next_of last figure = record { count = last.count + 1; figure = figure }

-- what stands before the line after a contract's
abbrev pub before_next : Before → Contract → Before
before_next p (Proportional t) = record { treaties = next_of p.treaties t.number; risk = p.risk; cat = p.cat }
before_next p (Risk l) = record { treaties = p.treaties; risk = next_of p.risk (band_end l); cat = p.cat }
before_next p (Cat l) = record { treaties = p.treaties; risk = p.risk; cat = next_of p.cat (band_end l) }

-- no more than eight of a kind stand before a line
pub record EightAtMost (p : Before) : Type 0 where
  pub treaties : p.treaties.count ≤ 8
  pub risk : p.risk.count ≤ 8
  pub cat : p.cat.count ≤ 8
