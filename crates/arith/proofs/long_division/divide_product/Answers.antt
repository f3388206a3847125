-- `arith::long_division::divide_product` meets its contract.
-- Assumes nothing.
use Rattle.std.proofs.Common.{◌≡◌, ℕ, ◌+◌, ◌-◌, ◌*◌, ◌/◌, ◌%◌, ◌^◌, ◌<◌, sym, ap, ◌∙◌, le_of_lt, mul-le-mul_right, mul_assoc, mul-le-mul, div-add-mod', arith}
use Rattle.arith.proofs.Digits.{unscaled, factor_pos}
use Rattle.arith.proofs.long_division.divide_product.Goals as goal
use Rattle.arith.proofs.long_division.divide_product.Goals.{After-scale-p}

module _ (s : After-scale-p) where
  abbrev a : ℕ
  a = s.before.args.a

  abbrev b : ℕ
  b = s.before.args.b

  abbrev d : ℕ
  d = s.before.args.d

  abbrev p : ℕ
  p = s.scale-p.result

  pos : 0 < p
  pos = factor_pos d p (omega arith)

  scaled : b * p < 2 ^ 63
  scaled = omega (arith, mul-le-mul_right p s.before.requires.factor, s.scale-p.ensures)

  high_lt : a * (b * p) / 2 ^ 64 < 2 ^ 45
  high_lt = omega (arith, mul-le-mul {n₁ = a} {n₂ = 2 ^ 46 - 1} (omega arith) (le_of_lt scaled))

  -- the two words are the whole product, scaled
  whole : (high low : ℕ) → high ≡ a * (b * p) / 2 ^ 64 → low ≡ a * (b * p) % 2 ^ 64 → high * 2 ^ 64 + low ≡ a * b * p
  whole high low eh el = (λ i. eh i * 2 ^ 64 + el i) ∙ div-add-mod' (a * (b * p)) (2 ^ 64) ∙ sym (mul_assoc a b p)

pub overflow_mul-m : goal.overflow_mul-m
overflow_mul-m c = omega (arith, scaled c.before)

pub divide-n-requires : goal.divide-n-requires
divide-n-requires c =
    let n = c.before.before in
    (n.new-by.ensures.1, omega (arith, high_lt n.before, c.before.high_word.ensures))

pub returns : goal.returns
returns c =
    let k = c.before in
    let n = k.before.before.before in
    let s = n.before in
    let r = k.divide-n.result in
    let e = whole s _ _ k.before.before.high_word.ensures k.before.low_word.ensures in
    let u =
    unscaled (a s * b s) r.quotient r.rest (d s) (p s) (pos s)
    (sym e ∙ k.divide-n.ensures.whole ∙ ap (λ (v : ℕ). r.quotient * v + r.rest) n.new-by.ensures.0)
    (rw n.new-by.ensures.0 at k.divide-n.ensures.rest_lt) in
    record { whole = u.0; rest_lt = u.1; short = k.divide-n.ensures.short }
