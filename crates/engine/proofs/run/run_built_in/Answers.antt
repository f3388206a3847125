-- `engine::run::run_built_in` meets its contract.
-- Assumes nothing.
use Rattle.scale.proofs.Table.{built_in_passes}
use Rattle.engine.proofs.RunTests as law
use Rattle.engine.proofs.run.run_built_in.Goals as goal

pub returns-in-Err : goal.returns-in-Err
returns-in-Err c = rw c.at.ensures (law.at-fault _ _ _ _ c.args.buffer.now c.in-Err.fault (c.in-Err.ensures {u = tt}))

pub run_under-requires : goal.run_under-requires
run_under-requires c =
    rw c.built_in-shares.ensures (law.faultless _ _ _ c.requires (c.in_default.ensures {u = tt}) built_in_passes)
