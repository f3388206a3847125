-- `layer::record::Layer::borne_since` meets its contract.
-- Assumes nothing.
use mathlib.Core.Path.{refl, sym, ap, ◌∙◌}
use Prim.Native.Nat.{ℕ, ◌+◌}
use native.Mathlib.Omega.{arith}
use Rattle.layer.specs.Layer.{charged_since, sums_of}
use Rattle.layer.proofs.Bounds.{recovered-le}
use Rattle.layer.proofs.Premiums.{premium-le}
use Rattle.layer.proofs.Dues.{due-plain, kept-plain}
use Rattle.layer.proofs.Records.{still}
use Rattle.layer.proofs.record.Layer.borne_since.Goals as goal

pub returns-then-cents : goal.returns-then-cents
returns-then-cents c = still c.args.before.now _ _ c.requires.3 (omega arith)

pub plus-requires : goal.plus-requires
plus-requires c =
    omega (arith, c.recovery_since-recovery.ensures, recovered-le c.args.self.now c.requires.0, c.requires.0.terms)

pub plus-requires-2 : goal.plus-requires-2
plus-requires-2 c =
    let y = c.args.self.now in
    omega (arith, c.premium_since-premium.ensures, premium-le y.terms c.requires.0.terms y.spent.0)

pub returns : goal.returns
returns c =
    let s = c.args.sums in
    let y = c.args.self.now in
    let plain = c.requires.4 in
    let charge = charged_since c.args.before.now y in
    let due = c.premium_since-premium.ensures ∙ sym (due-plain y.terms plain s.share charge) in
    let l = kept-plain y.terms plain y refl _ in
    let r = c.plus.ensures ∙ ap (λ (x : ℕ). s.recovered.0 + x) c.recovery_since-recovery.ensures in
    let p = c.plus-2.ensures ∙ ap (λ (x : ℕ). s.premium.0 + x) due in
    λ i. record { layer = l i; sums = sums_of s.share (r i) (p i) }
