-- `arith::mul_div_word` meets its contract.
-- Assumes nothing.
use Rattle.std.proofs.Common.{◌-◌, ◌*◌, ◌^◌, ◌<◌, mul-le-mul, arith}
use Rattle.arith.proofs.Rounding.{half-added}
use Rattle.arith.proofs.mul_div_word.Goals as goal
use Rattle.arith.proofs.mul_div_word.Goals.{Start}

fits : (c : Start) → c.args.a * c.args.b < 2 ^ 63
fits c =
    let s = c.args in
    omega (arith, mul-le-mul {n₁ = s.a} {m₁ = s.b} {n₂ = 2 ^ 48} {m₂ = 2 ^ 15 - 1} (omega arith) (omega arith))

pub returns : goal.returns
returns c = half-added (c.args.a * c.args.b) c.requires.positive
