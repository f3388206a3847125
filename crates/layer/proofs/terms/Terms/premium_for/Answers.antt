-- `layer::terms::Terms::premium_for` meets its contract.
-- Assumes nothing.
use Rattle.layer.proofs.Premiums.{premium-wide}
use Rattle.layer.proofs.terms.Terms.premium_for.Goals as goal

pub premium-requires : goal.premium-requires
premium-requires c =
    rw (c.new.ensures, c.new-2.ensures, c.rated-rated.ensures) (premium-wide _ c.requires.0 c.args.used.0)
