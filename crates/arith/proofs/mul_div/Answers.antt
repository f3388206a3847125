-- `arith::mul_div` meets its contract.
-- Assumes nothing.
use Rattle.std.proofs.Common.{◌≡◌, ℕ, ◌*◌, ◌/◌, ◌%◌, ◌^◌, ◌≤◌, sym, ap, ◌∙◌, lt_of_lt_of_le, lt_of_le_of_lt, mod-lt, mul-le-mul_left, div-add-mod', zero-add, zero-mul, arith, lit≤}
use native.Mathlib.Nat.{div-le_of_le-mul}
use Rattle.arith.specs.Round.{rounded}
use Rattle.arith.specs.Ranges.{Wide}
use Rattle.arith.specs.LongDivision.{Rest, Quotient}
use Rattle.arith.specs.declared.long_division.Division.{Division}
use Rattle.arith.proofs.mul_div.Goals as goal
use Rattle.arith.proofs.mul_div.Goals.{After-low_word-n}

-- where the upper word is 0, the lower one is the whole
low_whole : (n high low : ℕ) → high ≡ n / 2 ^ 64 → low ≡ n % 2 ^ 64 → high ≡ 0 → low ≡ n
low_whole n high low eh el none =
    let q : n / 2 ^ 64 ≡ 0 = sym eh ∙ none in
    el ∙ (rw (q, zero-mul, zero-add) at (div-add-mod' n (2 ^ 64)))

module _ (a b d : ℕ) (w : Wide a b d) where
  -- a quotient of the product has room
  quotient_le : a * b / d ≤ 64 * a
  quotient_le =
      let h : a * b ≤ d * (64 * a) = omega (arith, mul-le-mul_left a w.factor) in
      div-le_of_le-mul d h

  word_settles : (n : ℕ) → n ≡ a * b → Rest d (record { quotient = n / d; rest = n % d })
  word_settles n is = record {
    rest_lt = mod-lt n w.positive;
    short = rw is (lt_of_le_of_lt quotient_le (omega (arith, w.amount)));
  }

  wide_settles : (r : Division) → Quotient (a * b) d r → Rest d r
  wide_settles r q = record {
    rest_lt = q.rest_lt;
    short = lt_of_lt_of_le q.short (lit≤ tt);
  }

-- the lower word is the whole product
product : (c : After-low_word-n)
    → let s = c.before.before.before.args in c.low_word-n.result ≡ s.a * s.b
product c = low_whole _ _ _ c.before.before.high_word.ensures c.low_word-n.ensures c.before.if-high_word-eq0.true

pub settle-requires : goal.settle-requires
settle-requires c = word_settles _ _ _ c.before.before.before.requires _ (product c)

pub returns-then-high_word-eq0 : goal.returns-then-high_word-eq0
returns-then-high_word-eq0 c =
    let n = c.before in
    let d = n.before.before.before.args.d in
    c.settle.ensures ∙ ap (λ (m : ℕ). rounded m d) (div-add-mod' n.low_word-n.result d ∙ product n)

pub settle-requires-2 : goal.settle-requires-2
settle-requires-2 c = wide_settles _ _ _ c.before.before.before.requires _ c.divide_product.ensures

pub returns : goal.returns
returns c =
    let n = c.before in
    let d = n.before.before.before.args.d in
    c.settle-2.ensures ∙ ap (λ (m : ℕ). rounded m d) (sym n.divide_product.ensures.whole)
