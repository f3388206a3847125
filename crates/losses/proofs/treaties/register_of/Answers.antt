-- `losses::treaties::register_of` meets its contract.
-- Assumes nothing.
use borrow.Author.Rules.{rules}
use Rattle.losses.proofs.RegisterPass as law
use Rattle.losses.proofs.treaties.register_of.Goals as goal

pub shared_ref_as_front-t-items : goal.shared_ref_as_front-t-items
shared_ref_as_front-t-items c = law.few c.args.treaties.now c.requires

pub loop-t-init : goal.loop-t-init
loop-t-init c = law.none_kept c.args.treaties.now c.requires _ c.no_treaty-register.ensures

pub offset_bounds-t-items-t-index : goal.offset_bounds-t-items-t-index
offset_bounds-t-items-t-index c = let few = law.few c.args.treaties.now c.requires in search rules

pub offset_bounds-register-place : goal.offset_bounds-register-place
offset_bounds-register-place c = let high = law.number-high c.loop-t.invariant c.loop-t-test.true in search rules

pub bounds-register-place : goal.bounds-register-place
bounds-register-place c = law.number-high c.loop-t.invariant c.loop-t-test.true

pub loop-t-preserved : goal.loop-t-preserved
loop-t-preserved c = law.one_kept c.loop-t.invariant c.loop-t-test.true

pub returns : goal.returns
returns c = law.all-kept c.loop-t.invariant c.loop-t-test.false
