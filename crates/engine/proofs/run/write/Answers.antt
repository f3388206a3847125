-- `engine::run::write` meets its contract.
-- Assumes nothing.
use Rattle.engine.proofs.Writing as law
use Rattle.engine.proofs.run.write.Goals as goal

pub returns-then-room-buffer : goal.returns-then-room-buffer
returns-then-room-buffer c es q =
    law.at_once _ _ _ (c.state.ensures es q) (c.requires.1.enough es q) c.if-room-buffer.true
