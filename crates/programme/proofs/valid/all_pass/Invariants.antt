-- `programme::valid::all_pass` meets its contract.
-- Assumes nothing.
use Rattle.lists.proofs.Chains.{Chaining}
use lib.ListN.{length}
use Rattle.programme.proofs.valid.all_pass.Given as goal

abbrev pub invariant-loop-place : goal.invariant-loop-place
invariant-loop-place g l = Chaining g.P.Place.passes g.P.Place.figure 0 (length l.places) l.places l.before l.place-index
