-- `engine::run::run_under` meets its contract.
-- Assumes nothing.
use mathlib.Core.Path.{refl}
use Rattle.programme.proofs.Validity.{valid_tells, few-risk, few-cat}
use Rattle.scale.proofs.Passing.{passes-over}
use Rattle.engine.proofs.RunTests as law
use Rattle.engine.proofs.LayingOut as lent
use Rattle.engine.proofs.run.run_under.Goals as goal

pub returns-then-events-gt-EVENTS_BYTES : goal.returns-then-events-gt-EVENTS_BYTES
returns-then-events-gt-EVENTS_BYTES c =
    rw c.at.ensures
    (law.too_long _ _ _ _ c.args.buffer.now c.requires c.if-events-gt-EVENTS_BYTES.true)

pub register_of-register-requires : goal.register_of-register-requires
register_of-register-requires c = (valid_tells _ c.requires.programme).0

pub shared_ref_as_front-basis : goal.shared_ref_as_front-basis
shared_ref_as_front-basis c = few-risk c.args.programme.now c.requires.programme

pub shared_ref_as_front-basis-2 : goal.shared_ref_as_front-basis-2
shared_ref_as_front-basis-2 c = few-cat c.args.programme.now c.requires.programme

pub invariant_of-basis-clause-fair : goal.invariant_of-basis-clause-fair
invariant_of-basis-clause-fair c = passes-over _ c.requires.scale

pub placed-requires : goal.placed-requires
placed-requires c =
    lent.can-run _ c.args.programme.now refl refl _ c.requires c.if-events-gt-EVENTS_BYTES.false

pub returns : goal.returns
returns c =
    law.by_lines _ _ _ _ c.args.buffer.now c.requires c.if-events-gt-EVENTS_BYTES.false
    (lent.as_lent c.args.programme.now _ c.register_of-register.ensures.0 _ _ _ _ _ _ _ _ c.placed.ensures)
