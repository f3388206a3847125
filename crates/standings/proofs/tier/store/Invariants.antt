-- `standings::tier::store` meets its contract.
-- Assumes nothing.
use Rattle.standings.proofs.Stores as law
use Rattle.standings.proofs.tier.store.Given as goal

abbrev pub invariant-loop-place : goal.invariant-loop-place
invariant-loop-place l =
    law.Stored (λ y. y.spent.0) l.layers l.spent l.place × law.Stored (λ y. y.timed.0) l.layers l.timed l.place
