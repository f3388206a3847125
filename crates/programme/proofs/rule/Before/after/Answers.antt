-- `programme::rule::Before::after` meets its contract.
-- Assumes nothing.
use Rattle.programme.proofs.Faults.{risk-end, cat-end}
use Rattle.programme.proofs.rule.Before.after.Goals as goal

pub overflow_add-l : goal.overflow_add-l
overflow_add-l c = search risk-end

pub overflow_add-l-in-Cat : goal.overflow_add-l-in-Cat
overflow_add-l-in-Cat c = search cat-end
