-- `test_figures::share`: no built-in share is above the whole.
use Rattle.scale.specs.Scale.{time_shares}
use Rattle.scale.proofs.Passing.{fair-on}
use Rattle.scale.proofs.Table.{shares-fair}
use Rattle.test_figures.proofs.share.Goals as goal

pub returns : goal.returns
returns c = rw (c.share_on.ensures, c.built_in.ensures) (fair-on time_shares shares-fair _)
