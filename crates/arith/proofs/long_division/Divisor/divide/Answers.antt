-- `arith::long_division::Divisor::divide` meets its contract.
-- Assumes nothing.
use Rattle.std.proofs.Common.{◌≡◌, ℕ, ◌+◌, ◌*◌, ◌^◌, ◌<◌, arith}
use Rattle.arith.proofs.Digits.{two_digits}
use Rattle.arith.proofs.long_division.Divisor.divide.Goals as goal
use Rattle.arith.proofs.long_division.Divisor.divide.Goals.{After-rest_word-rest, After-rest_word-rest-2, Start}

-- what both digits leave, before the second is corrected
module _ (k : After-rest_word-rest-2) where
  abbrev k₁ : After-rest_word-rest
  k₁ = k.before.before

  abbrev s : Start
  s = k₁.before.before

  abbrev d : ℕ
  d = s.args.self.value

  abbrev q : ℕ
  q = k₁.before.digit-first.result * 2 ^ 26 + k.before.digit-second.result

  fits₁ : k₁.rest_word-rest.result < 2 ^ 64
  fits₁ = omega arith

  fits₂ : k.rest_word-rest-2.result < 2 ^ 64
  fits₂ = omega arith

  left : (s.args.high * 2 ^ 64 + s.args.low ≡ q * d + k.rest_word-rest-2.result) × (k.rest_word-rest-2.result < 2 * d)
  left =
      two_digits s.args.high s.args.low d _ _ s.requires.0.value-lt s.ranges.low.fits fits₁
      k₁.before.digit-first.ensures k₁.rest_word-rest.ensures _ _ fits₂ k.before.digit-second.ensures
      k.rest_word-rest-2.ensures

pub returns-then-rest-d : goal.returns-then-rest-d
returns-then-rest-d c = record { whole = (left c.before).0; rest_lt = c.if-rest-d.true; short = omega arith }

pub returns-else-rest-d : goal.returns-else-rest-d
returns-else-rest-d c =
    let h = left c.before in
    record { whole = omega (arith, h, c.if-rest-d.false); rest_lt = omega (arith, h, c.if-rest-d.false); short = omega arith }
