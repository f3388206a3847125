-- `engine::run::through` meets its contract.
-- Assumes nothing.
use mathlib.Core.Path.{refl}
use borrow.Author.Rules.{rules}
use Rattle.engine.proofs.RunLines as law
use Rattle.engine.proofs.run.through.Goals as goal

pub overflow_mul-room : goal.overflow_mul-room
overflow_mul-room c = let small = law.small c.requires.0 c.requires.1 _ _ (c.in_ok-found.ensures {u = tt}) in search rules

pub overflow_add-room : goal.overflow_add-room
overflow_add-room c = let small = law.small c.requires.0 c.requires.1 _ _ (c.in_ok-found.ensures {u = tt}) in search rules

pub overflow_mul-room-2 : goal.overflow_mul-room-2
overflow_mul-room-2 c = let small = law.small c.requires.0 c.requires.1 _ _ (c.in_ok-found.ensures {u = tt}) in search rules

pub overflow_add-room-2 : goal.overflow_add-room-2
overflow_add-room-2 c = let small = law.small c.requires.0 c.requires.1 _ _ (c.in_ok-found.ensures {u = tt}) in search rules

pub write-requires : goal.write-requires
write-requires c = (
  law.can_state c.requires.0 c.requires.1 _ _ (c.in_ok-found.ensures {u = tt}),
  law.room_for c.requires.0 c.requires.1 _ _ (c.in_ok-found.ensures {u = tt}) refl,
)

pub returns : goal.returns
returns c =
    law.as_run c.requires.0 c.requires.1 _ _ (c.in_ok-found.ensures {u = tt}) c.args.buffer.now _ _ _ c.write.ensures
