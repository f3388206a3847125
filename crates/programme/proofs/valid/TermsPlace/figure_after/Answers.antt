-- `programme::valid::TermsPlace::figure_after` meets its contract.
-- Assumes nothing.
use native.Mathlib.Omega.{arith}
use Rattle.programme.proofs.Bounds.{band_end_lem}
use Rattle.programme.proofs.valid.TermsPlace.figure_after.Goals as goal

pub overflow_add-result : goal.overflow_add-result
overflow_add-result c = omega (arith, band_end_lem c.args.self.now)
