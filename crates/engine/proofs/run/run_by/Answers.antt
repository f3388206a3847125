-- `engine::run::run_by` meets its contract.
-- Assumes nothing.
use mathlib.Core.Path.{sym, ◌∙◌}
use Rattle.engine.proofs.RunTests as law
use Rattle.engine.proofs.run.run_by.Goals as goal

pub returns-in-Err : goal.returns-in-Err
returns-in-Err c = rw c.at.ensures (law.at-fault _ _ _ _ c.args.buffer.now c.in-Err.fault (c.in-Err.ensures {u = tt}))

pub returns-then-not-passes : goal.returns-then-not-passes
returns-then-not-passes c =
    rw c.at-then-not-passes.ensures
    (law.no-scale _ _ _ _ c.args.buffer.now (c.in_default.ensures {u = tt})
    (sym c.passes.ensures ∙ c.if-not-passes.true))
