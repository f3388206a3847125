-- `layer::record::Layer::bear_by_kind` meets its contract.
-- Assumes nothing.
use mathlib.Core.Path.{refl, sym, ap, ◌∙◌}
use native.Mathlib.Omega.{arith}
use Rattle.layer.specs.Layer.{borne_since}
use Rattle.layer.proofs.Records.{sound-after}
use Rattle.layer.proofs.Through.{borne-at-once}
use Rattle.layer.proofs.TimeTests.{plain-is}
use Rattle.layer.proofs.record.Layer.bear_by_kind.Goals as goal

pub borne_since-requires : goal.borne_since-requires
borne_since-requires c = (
  rw c.take_each-after.ensures (sound-after _ c.args.self.now c.requires.0),
  c.requires.0,
  record { share = c.requires.1.share; recovered = omega arith; premium = omega arith },
  rw c.take_each-after.ensures refl,
  rw c.take_each-after.ensures (plain-is c.args.self.now.terms _ c.is_timed.ensures c.if-is_timed.false),
)

pub returns : goal.returns
returns c =
    let y = c.args.self.now in
    c.borne_since.ensures
    ∙ ap (borne_since y c.args.sums) c.take_each-after.ensures
    ∙ sym (borne-at-once c.args.subjects.now y c.requires.0 (plain-is y.terms _ c.is_timed.ensures c.if-is_timed.false)
    c.args.sums)
