-- Laws of the digits among eight bytes of a text: the bytes lowered, and the marks of those that are no digits.
-- Assumes nothing.
use Rattle.std.proofs.Common.{◌≡◌, ℕ, zero, suc, ◌+◌, ◌*◌, ◌/◌, ◌%◌, ◌^◌, ◌<◌, ◌≤◌, Bool, true, false, eqb, ltb, List, get_or, sym, refl, ap, ◌∙◌, subst, ap₂, mod-lt, arith, lit<, le-ltb, lt-ltb, eqb-true}
use lib.Bits.{bit_and, bit_or, bit_xor, and_mod, and_le_r}
use Rattle.lists.proofs.Cases.{by-eq}
use Rattle.text.specs.Number.{digit_of}
use Rattle.text.specs.Word.{byte_of, mark_of, BytesAt, Lowered, Marked}
use Rattle.text.proofs.Words.{by_byte, repeated-byte, and_byte, or_byte, xor_byte}

-- a test passed by each number below n
unfoldable pub all-below : ℕ → (ℕ → Bool) → Bool
all-below zero p = true
all-below (suc n) p = elim (p n) [ true ↦ all-below n p | false ↦ false ]

pub at-below : (n : ℕ) (p : ℕ → Bool) → all-below n p ≡ true → (k : ℕ) → k < n → p k ≡ true
unfolding all-below
at-below zero p e k l = absurd (omega arith)
at-below (suc n) p e k l = go (p n) refl (λ d. at-below n p d k)
  where
    go : (t : Bool) → p n ≡ t → (all-below n p ≡ true → k < n → p k ≡ true) → p k ≡ true
    go true q ih = by-eq k n (λ d. rw d q) (λ d. ih (simp (all-below, q) at e) (omega arith))
    go false q ih =
        let z : false ≡ true = simp (all-below, q) at e in
        let n : ◌≡◌ {A = ℕ} 0 1 = cc in absurd (omega arith)

-- a byte lowered
abbrev zeros : ℕ
zeros = 3472328296227680304

zeros-byte : (k : ℕ) → k < 8 → byte_of zeros k ≡ 48
zeros-byte = repeated-byte 48 (lit< tt) 8

digit-passes : ℕ → Bool
digit-passes b = elim (ltb (bit_xor b 48) 10) [ true ↦ eqb (bit_xor b 48) (digit_of b) | false ↦ eqb (digit_of b) 10 ]

passed : (b : ℕ) → b < 256 → digit-passes b ≡ true
unfolding all-below digit-passes digit_of
passed b l = at-below 256 digit-passes refl b l

passed-digit : (b : ℕ) → b < 256 → bit_xor b 48 < 10 → bit_xor b 48 ≡ digit_of b
unfolding digit-passes
passed-digit b l h = eqb-true _ _ (simp (digit-passes, lt-ltb _ _ h) at (passed b l))

passed-other : (b : ℕ) → b < 256 → 10 ≤ bit_xor b 48 → digit_of b ≡ 10
unfolding digit-passes
passed-other b l h = eqb-true _ _ (simp (digit-passes, le-ltb _ _ h) at (passed b l))

module _ (s : List ℕ) (at w : ℕ) (h : BytesAt s at 8 w) where
  lowered_byte : (k : ℕ) → k < 8 → byte_of (bit_xor w zeros) k ≡ bit_xor (get_or s (at + k) 0) 48
  lowered_byte k l = xor_byte w zeros k ∙ ap₂ bit_xor (h.each k l) (zeros-byte k l)

  byte-lt : (k : ℕ) → k < 8 → get_or s (at + k) 0 < 256
  byte-lt k l = subst (λ (n : ℕ). n < 256) (h.each k l) (mod-lt (w / 2 ^ (8 * k)) (lit< tt))

  pub lowered_bytes : Lowered s at (bit_xor w zeros)
  lowered_bytes = record {
    digit = λ k l g. lowered_byte k l ∙ passed-digit _ (byte-lt k l) (subst (λ (n : ℕ). n < 10) (lowered_byte k l) g);
    other = λ k l g. omega (arith, passed-other _ (byte-lt k l) (subst (λ (n : ℕ). 10 ≤ n) (lowered_byte k l) g));
  }

-- the marks
abbrev lows : ℕ
lows = 9187201950435737471

abbrev tops : ℕ
tops = 9259542123273814144

abbrev steps : ℕ
steps = 8536140394893047414

lows-byte : (k : ℕ) → k < 8 → byte_of lows k ≡ 127
lows-byte = repeated-byte 127 (lit< tt) 8

tops-byte : (k : ℕ) → k < 8 → byte_of tops k ≡ 128
tops-byte = repeated-byte 128 (lit< tt) 8

-- a sum of bytes of at most 127 and of 118 carries nothing from byte to byte
sum-byte : (a : ℕ) → ((k : ℕ) → k < 8 → a % 2 ^ (8 * k) ≤ lows % 2 ^ (8 * k)) → (k : ℕ) → k < 8 → byte_of a k ≤ 127
    → byte_of (a + steps) k ≡ byte_of a k + 118
sum-byte a h =
    by_byte (λ k. byte_of a k ≤ 127 → byte_of (a + steps) k ≡ byte_of a k + 118)
    (λ l. omega (arith, h 0 (lit< tt)))
    (λ l. omega (arith, h 1 (lit< tt)))
    (λ l. omega (arith, h 2 (lit< tt)))
    (λ l. omega (arith, h 3 (lit< tt)))
    (λ l. omega (arith, h 4 (lit< tt)))
    (λ l. omega (arith, h 5 (lit< tt)))
    (λ l. omega (arith, h 6 (lit< tt)))
    (λ l. omega (arith, h 7 (lit< tt)))

masked : (x k : ℕ) → bit_and x lows % 2 ^ (8 * k) ≤ lows % 2 ^ (8 * k)
masked x k =
    subst (λ (n : ℕ). n ≤ lows % 2 ^ (8 * k)) (sym (and_mod x lows (8 * k)))
    (and_le_r (x % 2 ^ (8 * k)) (lows % 2 ^ (8 * k)))

-- the rule at one byte, tried at each of the 256
abbrev mark : ℕ → ℕ
mark b = bit_and (bit_or (bit_and b 127 + 118) b) 128

mark-passes : ℕ → Bool
mark-passes b = eqb (mark b) (mark_of b)

mark-is : (b : ℕ) → b < 256 → mark b ≡ mark_of b
unfolding all-below mark-passes mark_of
mark-is b l = eqb-true (mark b) (mark_of b) (at-below 256 mark-passes refl b l)

pub marked-bytes : (t : ℕ) → Marked t (bit_and (bit_or (bit_and t lows + steps) t) tops)
marked-bytes t = record { each = all }
  where
    all : (k : ℕ) → k < 8 → byte_of (bit_and (bit_or (bit_and t lows + steps) t) tops) k ≡ mark_of (byte_of t k)
    all k l =
        and_byte (bit_or (bit_and t lows + steps) t) tops k
        ∙ ap₂ bit_and (or_byte (bit_and t lows + steps) t k ∙ ap (λ (n : ℕ). bit_or n (byte_of t k)) sum) (tops-byte k l)
        ∙ mark-is (byte_of t k) (mod-lt (t / 2 ^ (8 * k)) (lit< tt))
      where
        low : byte_of (bit_and t lows) k ≡ bit_and (byte_of t k) 127
        low = and_byte t lows k ∙ ap (bit_and (byte_of t k)) (lows-byte k l)

        sum : byte_of (bit_and t lows + steps) k ≡ bit_and (byte_of t k) 127 + 118
        sum =
            sum-byte (bit_and t lows) (λ j m. masked t j) k l
            (subst (λ (n : ℕ). n ≤ 127) (sym low) (and_le_r (byte_of t k) 127))
            ∙ ap (λ (n : ℕ). n + 118) low
