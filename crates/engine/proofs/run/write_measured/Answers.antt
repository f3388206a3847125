-- `engine::run::write_measured` meets its contract.
-- Assumes nothing.
use Rattle.text.proofs.Puts.{no_bytes}
use Rattle.engine.proofs.Writing as law
use Rattle.engine.proofs.run.write_measured.Goals as goal

pub returns-then-buffer-needed : goal.returns-then-buffer-needed
returns-then-buffer-needed c es q =
    rw c.at.ensures
    (law.not_written _ _ _ (c.state-needed.ensures es q)
    (no_bytes c.state-needed.new.out c.args.buffer.now c.state-needed.auto.out) c.if-buffer-needed.true)

pub returns : goal.returns
returns c es q =
    law.written _ _ _ (c.state-needed.ensures es q)
    (no_bytes c.state-needed.new.out c.args.buffer.now c.state-needed.auto.out) c.if-buffer-needed.false
    (c.state.ensures es q)
