-- `engine::run::state` meets its contract.
-- Assumes nothing.
use Rattle.engine.proofs.Stating as law
use Rattle.engine.proofs.run.state.Goals as goal

pub put_treaties-first-requires : goal.put_treaties-first-requires
put_treaties-first-requires c =
    law.for_treaties c.requires c.requires.es c.requires.held (c.book-booked.ensures c.requires.es c.requires.held)

pub put_layers-second-requires : goal.put_layers-second-requires
put_layers-second-requires c =
    law.for_risk c.requires c.requires.es c.requires.held (c.book-booked.ensures c.requires.es c.requires.held)
    _ c.put_treaties-first.ensures.1

pub put_layers-third-requires : goal.put_layers-third-requires
put_layers-third-requires c =
    law.for_cat c.requires c.requires.es c.requires.held (c.book-booked.ensures c.requires.es c.requires.held)
    _ _ c.put_treaties-first.ensures.1 c.put_layers-second.ensures.1

pub put_total-requires : goal.put_total-requires
put_total-requires c =
    law.for_total c.requires c.requires.es c.requires.held (c.book-booked.ensures c.requires.es c.requires.held)
    _ _ _ c.put_treaties-first.ensures.1 c.put_layers-second.ensures.1 c.put_layers-third.ensures.1

pub returns : goal.returns
returns c es q =
    law.stated c.requires es q (c.book-booked.ensures es q) c.put_treaties-first.ensures.0
    c.put_layers-second.ensures.0 c.put_layers-third.ensures.0 c.put_total.ensures.0 c.put_treaties-first.ensures.1
    c.put_layers-second.ensures.1 c.put_layers-third.ensures.1 c.put_total.ensures.1
