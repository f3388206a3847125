-- Laws of eight bytes as one word: byte by byte.
-- Assumes nothing.
use Rattle.std.proofs.Common.{refl, ◌≡◌, ℕ, zero, suc, ◌+◌, ◌*◌, ◌/◌, ◌%◌, ◌^◌, ◌<◌, List, get_or, sym, ap, ◌∙◌, add-zero, arith, pow-add}
use native.Mathlib.Nat.{div-div-eq-div-mul}
use lib.Bits.{bit_and, bit_or, bit_xor, and_shr, or_shr, xor_shr, and_mod, or_mod, xor_mod}
use Rattle.text.specs.Word.{byte_of, BytesAt}

-- a rule for each byte of a word
pub by_byte : (P : ℕ → Type 0) → P 0 → P 1 → P 2 → P 3 → P 4 → P 5 → P 6 → P 7 → (k : ℕ) → k < 8 → P k
by_byte P a b c d e f g h zero l = a
by_byte P a b c d e f g h (suc zero) l = b
by_byte P a b c d e f g h (suc (suc zero)) l = c
by_byte P a b c d e f g h (suc (suc (suc zero))) l = d
by_byte P a b c d e f g h (suc (suc (suc (suc zero)))) l = e
by_byte P a b c d e f g h (suc (suc (suc (suc (suc zero))))) l = f
by_byte P a b c d e f g h (suc (suc (suc (suc (suc (suc zero)))))) l = g
by_byte P a b c d e f g h (suc (suc (suc (suc (suc (suc (suc zero))))))) l = h
by_byte P a b c d e f g h (suc (suc (suc (suc (suc (suc (suc (suc k)))))))) l = absurd (omega arith)

-- eight bytes put together, the first lowest
module _ (s : List ℕ) (at : ℕ) (h : (k : ℕ) → get_or s k 0 < 256) where
  abbrev together : ℕ
  together =
      get_or s at 0 + get_or s (at + 1) 0 * 256 + get_or s (at + 2) 0 * 65536 + get_or s (at + 3) 0 * 16777216
      + get_or s (at + 4) 0 * 4294967296
      + get_or s (at + 5) 0 * 1099511627776
      + get_or s (at + 6) 0 * 281474976710656
      + get_or s (at + 7) 0 * 72057594037927936

  pub eight-bytes : BytesAt s at 8 together
  eight-bytes =
      split (get_or s at 0) (get_or s (at + 1) 0) (get_or s (at + 2) 0) (get_or s (at + 3) 0) (get_or s (at + 4) 0)
      (get_or s (at + 5) 0) (get_or s (at + 6) 0) (get_or s (at + 7) 0)
      (ap (λ (n : ℕ). get_or s n 0) (sym (add-zero at))) refl refl refl refl refl refl refl
      (h at) (h (at + 1)) (h (at + 2)) (h (at + 3)) (h (at + 4)) (h (at + 5)) (h (at + 6)) (h (at + 7))
    where
      split : (a b c d e f g i : ℕ) → a ≡ get_or s (at + 0) 0 → b ≡ get_or s (at + 1) 0 → c ≡ get_or s (at + 2) 0
          → d ≡ get_or s (at + 3) 0 → e ≡ get_or s (at + 4) 0 → f ≡ get_or s (at + 5) 0 → g ≡ get_or s (at + 6) 0
          → i ≡ get_or s (at + 7) 0 → a < 256 → b < 256 → c < 256 → d < 256 → e < 256 → f < 256 → g < 256 → i < 256
          → BytesAt s at 8
          (a + b * 256 + c * 65536 + d * 16777216 + e * 4294967296 + f * 1099511627776 + g * 281474976710656
          + i * 72057594037927936)
      split a b c d e f g i pa pb pc pd pe pf pg pi la lb lc ld le lf lg li = record {
        fits = omega (arith, la, lb, lc, ld, le, lf, lg, li);
        each =
            by_byte
            (λ k.
            byte_of
            (a + b * 256 + c * 65536 + d * 16777216 + e * 4294967296 + f * 1099511627776 + g * 281474976710656
            + i * 72057594037927936)
            k
            ≡ get_or s (at + k) 0)
            (omega (arith, pa, la, lb, lc, ld, le, lf, lg, li)) (omega (arith, pb, la, lb, lc, ld, le, lf, lg, li))
            (omega (arith, pc, la, lb, lc, ld, le, lf, lg, li)) (omega (arith, pd, la, lb, lc, ld, le, lf, lg, li))
            (omega (arith, pe, la, lb, lc, ld, le, lf, lg, li)) (omega (arith, pf, la, lb, lc, ld, le, lf, lg, li))
            (omega (arith, pg, la, lb, lc, ld, le, lf, lg, li)) (omega (arith, pi, la, lb, lc, ld, le, lf, lg, li));
      }

-- the first seven of eight bytes
pub cut-byte : (u k : ℕ) → k < 7 → byte_of (u % 72057594037927936) k ≡ byte_of u k
cut-byte u zero l = omega arith
cut-byte u (suc zero) l = omega arith
cut-byte u (suc (suc zero)) l = omega arith
cut-byte u (suc (suc (suc zero))) l = omega arith
cut-byte u (suc (suc (suc (suc zero)))) l = omega arith
cut-byte u (suc (suc (suc (suc (suc zero))))) l = omega arith
cut-byte u (suc (suc (suc (suc (suc (suc zero)))))) l = omega arith
cut-byte u (suc (suc (suc (suc (suc (suc (suc k))))))) l = absurd (omega arith)

pub seven_bytes : (s : List ℕ) (at w : ℕ) → BytesAt s at 8 w → BytesAt s at 7 (w % 72057594037927936)
seven_bytes s at w h = record { fits = omega arith; each = λ k l. cut-byte w k l ∙ h.each k (omega arith) }

-- a byte more
pub next-byte : (m k : ℕ) → byte_of m (suc k) ≡ byte_of (m / 256) k
next-byte m k = ap (λ (n : ℕ). n % 256) (ap (λ (n : ℕ). m / n) power ∙ sym (div-div-eq-div-mul m 256 (2 ^ (8 * k))))
  where
    power : 2 ^ (8 * suc k) ≡ 256 * 2 ^ (8 * k)
    power = ap (λ (n : ℕ). 2 ^ n) (let e : 8 * suc k ≡ 8 + 8 * k = omega arith in e) ∙ pow-add 2 8 (8 * k)

-- the same byte in each of j bytes
abbrev pub repeated : ℕ → ℕ → ℕ
repeated c zero = 0
repeated c (suc j) = c + 256 * repeated c j

pub repeated-byte : (c : ℕ) → c < 256 → (j k : ℕ) → k < j → byte_of (repeated c j) k ≡ c
repeated-byte c l zero k m = absurd (omega arith)
repeated-byte c l (suc j) zero m = omega arith
repeated-byte c l (suc j) (suc k) m =
    let rest : repeated c (suc j) / 256 ≡ repeated c j = omega arith in
    next-byte (repeated c (suc j)) k ∙ rw rest (repeated-byte c l j k (omega arith))

-- bit by bit is byte by byte
module _ (a b k : ℕ) where
  pub and_byte : byte_of (bit_and a b) k ≡ bit_and (byte_of a k) (byte_of b k)
  and_byte = ap (λ (n : ℕ). n % 2 ^ 8) (and_shr a b (8 * k)) ∙ and_mod (a / 2 ^ (8 * k)) (b / 2 ^ (8 * k)) 8

  pub or_byte : byte_of (bit_or a b) k ≡ bit_or (byte_of a k) (byte_of b k)
  or_byte = ap (λ (n : ℕ). n % 2 ^ 8) (or_shr a b (8 * k)) ∙ or_mod (a / 2 ^ (8 * k)) (b / 2 ^ (8 * k)) 8

  pub xor_byte : byte_of (bit_xor a b) k ≡ bit_xor (byte_of a k) (byte_of b k)
  xor_byte = ap (λ (n : ℕ). n % 2 ^ 8) (xor_shr a b (8 * k)) ∙ xor_mod (a / 2 ^ (8 * k)) (b / 2 ^ (8 * k)) 8
