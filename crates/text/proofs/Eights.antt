-- Laws of the number whose digits are the bytes of a word.
-- Assumes nothing.
use Rattle.std.proofs.Common.{◌≡◌, ℕ, zero, suc, ◌+◌, ◌-◌, ◌*◌, ◌/◌, ◌%◌, ◌^◌, ◌<◌, ◌≤◌, sym, refl, ap, ◌∙◌, subst, ap₂, mul_assoc, suc-add, pow-suc, zero-add, arith, lit<, pow-add}
use lib.Bits.{bit_and, and_block, and_mask, and_le_r}
use Rattle.text.specs.Word.{byte_of, figures, Figures}
use Rattle.text.proofs.Words.{next-byte, cut-byte}

-- figures below 10 make a number below a power of 10
pub figures-lt : (d : ℕ → ℕ) (n : ℕ) → ((k : ℕ) → k < n → d k < 10) → figures d n < 10 ^ n
unfolding figures
figures-lt d zero l = lit< tt
figures-lt d (suc n) l =
    rw (pow-suc 10 n) (omega (arith, figures-lt d n (λ k g. l k (omega arith)), l n (omega arith)))

-- a 0 before them changes nothing
figures-front : (d e : ℕ → ℕ) (n : ℕ) → d 0 ≡ 0 → ((k : ℕ) → k < n → d (suc k) ≡ e k)
    → figures d (suc n) ≡ figures e n
unfolding figures
figures-front d e zero z q = omega (arith, z)
figures-front d e (suc n) z q =
    ap₂ (λ (x y : ℕ). x * 10 + y) (figures-front d e n z (λ k g. q k (omega arith))) (q n (omega arith))

-- a word by its four lanes of two bytes, and by its eight bytes
abbrev lanes : (a b c d : ℕ) → ℕ
lanes a b c d = a + 65536 * (b + 65536 * (c + 65536 * d))

abbrev eight_bytes : (a b c d e f g h : ℕ) → ℕ
eight_bytes a b c d e f g h = lanes (a + 256 * b) (c + 256 * d) (e + 256 * f) (g + 256 * h)

-- the lower byte of the lowest lane, above which the mask goes on
lane : (p q r m : ℕ) → p < 256 → q < 256 → bit_and (p + 256 * q + 65536 * r) (255 + 65536 * m) ≡ p + 65536 * bit_and r m
lane p q r m g h =
    ap₂ bit_and left right
    ∙ and_block 16 r m (p + 256 * q) 255 (omega arith) (lit< tt)
    ∙ omega (arith, and_mask (p + 256 * q) 8)
  where
    left : p + 256 * q + 65536 * r ≡ r * 2 ^ 16 + (p + 256 * q)
    left = omega arith

    right : 255 + 65536 * m ≡ m * 2 ^ 16 + 255
    right = omega arith

-- the lower byte of each lane
low-bytes : (p q r u v w x y : ℕ) → p < 256 → q < 256 → r < 256 → u < 256 → v < 256 → w < 256 → x < 256
    → bit_and (eight_bytes p q r u v w x y) 71777214294589695 ≡ lanes p r v x
low-bytes p q r u v w x y lp lq lr lu lv lw lx =
    lane p q (r + 256 * u + 65536 * (v + 256 * w + 65536 * (x + 256 * y))) 1095233372415 lp lq
    ∙ ap (λ (n : ℕ). p + 65536 * n)
    (lane r u (v + 256 * w + 65536 * (x + 256 * y)) 16711935 lr lu
    ∙ ap (λ (n : ℕ). r + 65536 * n)
    (lane v w (x + 256 * y) 255 lv lw
    ∙ ap (λ (n : ℕ). v + 65536 * n) (and_mask (x + 256 * y) 8 ∙ omega arith)))

-- the lower lane of each half
low-lanes : (p q r u : ℕ) → p < 65536 → q < 65536 → r < 65536
    → bit_and (lanes p q r u) 281470681808895 ≡ p + 4294967296 * r
low-lanes p q r u lp lq lr =
    ap₂ bit_and left right
    ∙ and_block 32 (r + 65536 * u) 65535 (p + 65536 * q) 65535 (omega arith) (lit< tt)
    ∙ omega (arith, and_mask (p + 65536 * q) 16, and_mask (r + 65536 * u) 16)
  where
    left : lanes p q r u ≡ (r + 65536 * u) * 2 ^ 32 + (p + 65536 * q)
    left = omega arith

    right : 281470681808895 ≡ 65535 * 2 ^ 32 + 65535
    right = refl

-- eight figures in bytes are four of two figures, those two of four, and those one of eight
abbrev pub pairs : ℕ → ℕ
pairs t = bit_and (t * 10 + t / 256) 71777214294589695

abbrev fours : ℕ → ℕ
fours t = bit_and (t * 100 + t / 65536) 281470681808895

abbrev eights : ℕ → ℕ
eights t = (t * 10000 + t / 4294967296) % 4294967296

pub pairs-le : (t : ℕ) → pairs t ≤ 71777214294589695
pairs-le t = and_le_r (t * 10 + t / 256) 71777214294589695

pub fours-le : (t : ℕ) → fours t ≤ 281470681808895
fours-le t = and_le_r (t * 100 + t / 65536) 281470681808895

fours_are : (a b c d t : ℕ) → a < 100 → b < 100 → c < 100 → d < 100 → t ≡ lanes a b c d
    → fours t ≡ (100 * a + b) + 4294967296 * (100 * c + d)
fours_are a b c d t la lb lc ld q =
    ap (λ (n : ℕ). bit_and n 281470681808895) sum
    ∙ low-lanes (100 * a + b) (100 * b + c) (100 * c + d) (100 * d) (omega arith) (omega arith) (omega arith)
  where
    sum : t * 100 + t / 65536 ≡ lanes (100 * a + b) (100 * b + c) (100 * c + d) (100 * d)
    sum = omega arith

eights_are : (a b t : ℕ) → a < 10000 → b < 10000 → t ≡ a + 4294967296 * b → eights t ≡ 10000 * a + b
eights_are a b t la lb q = ap (λ (n : ℕ). n % 4294967296) sum ∙ rest (10000 * a + b) (10000 * b) (omega arith)
  where
    high : t / 4294967296 ≡ b
    high = omega arith

    sum : t * 10000 + t / 4294967296 ≡ (10000 * a + b) + 4294967296 * (10000 * b)
    sum = rw high (omega arith)

    rest : (x y : ℕ) → x < 4294967296 → (x + 4294967296 * y) % 4294967296 ≡ x
    rest x y l = omega arith

-- the word t has the figures a to h
module _ (a b c d e f g h t : ℕ) (la : a < 10) (lb : b < 10) (lc : c < 10) (ld : d < 10) (le : e < 10) (lf : f < 10)
    (lg : g < 10) (lh : h < 10) (q : t ≡ eight_bytes a b c d e f g h) where
  figures-le : t ≤ 651061555542690057
  figures-le = omega arith

  pairs_are : pairs t ≡ lanes (10 * a + b) (10 * c + d) (10 * e + f) (10 * g + h)
  pairs_are =
      ap (λ (n : ℕ). bit_and n 71777214294589695) sum
      ∙ low-bytes (10 * a + b) (10 * b + c) (10 * c + d) (10 * d + e) (10 * e + f) (10 * f + g) (10 * g + h) (10 * h)
      (omega arith) (omega arith) (omega arith) (omega arith) (omega arith) (omega arith) (omega arith)
    where
      sum : t * 10 + t / 256
          ≡ eight_bytes (10 * a + b) (10 * b + c) (10 * c + d) (10 * d + e)
          (10 * e + f) (10 * f + g) (10 * g + h) (10 * h)
      sum = omega arith

  eights-value : eights (fours (pairs t))
      ≡ (((((((0 * 10 + a) * 10 + b) * 10 + c) * 10 + d) * 10 + e) * 10 + f) * 10 + g) * 10 + h
  eights-value =
      eights_are (100 * (10 * a + b) + (10 * c + d)) (100 * (10 * e + f) + (10 * g + h)) _ (omega arith) (omega arith)
      (fours_are (10 * a + b) (10 * c + d) (10 * e + f) (10 * g + h) _
      (omega arith) (omega arith) (omega arith) (omega arith) pairs_are)
      ∙ omega arith

-- a word is its bytes
nested : (a b c d e f g h t₁ t₂ t₃ t₄ t₅ t₆ t₇ t : ℕ) → t ≡ a + 256 * t₁ → t₁ ≡ b + 256 * t₂ → t₂ ≡ c + 256 * t₃
    → t₃ ≡ d + 256 * t₄ → t₄ ≡ e + 256 * t₅ → t₅ ≡ f + 256 * t₆ → t₆ ≡ g + 256 * t₇ → t₇ ≡ h
    → t ≡ eight_bytes a b c d e f g h
nested a b c d e f g h t₁ t₂ t₃ t₄ t₅ t₆ t₇ t e₀ e₁ e₂ e₃ e₄ e₅ e₆ e₇ = omega arith

module _ (t : ℕ) (l : t < 2 ^ 64) (z : Figures t 8) where
  abbrev byte : ℕ → ℕ
  byte = byte_of t

  whole : t ≡ eight_bytes (byte 0) (byte 1) (byte 2) (byte 3) (byte 4) (byte 5) (byte 6) (byte 7)
  whole =
      nested _ _ _ _ _ _ _ _
      (t / 2 ^ 8) (t / 2 ^ 16) (t / 2 ^ 24) (t / 2 ^ 32) (t / 2 ^ 40) (t / 2 ^ 48) (t / 2 ^ 56) t
      (omega arith) (omega arith) (omega arith) (omega arith) (omega arith) (omega arith) (omega arith) (omega arith)

  pub pairs-fit : t * 10 + t / 256 < 2 ^ 64
  pairs-fit =
      let le =
      figures-le _ _ _ _ _ _ _ _ t
      (z.each 0 (lit< tt)) (z.each 1 (lit< tt)) (z.each 2 (lit< tt)) (z.each 3 (lit< tt))
      (z.each 4 (lit< tt)) (z.each 5 (lit< tt)) (z.each 6 (lit< tt)) (z.each 7 (lit< tt)) whole in
      omega (arith, le)

  value : eights (fours (pairs t)) ≡ figures (byte_of t) 8
  unfolding figures
  value =
      eights-value _ _ _ _ _ _ _ _ t
      (z.each 0 (lit< tt)) (z.each 1 (lit< tt)) (z.each 2 (lit< tt)) (z.each 3 (lit< tt))
      (z.each 4 (lit< tt)) (z.each 5 (lit< tt)) (z.each 6 (lit< tt)) (z.each 7 (lit< tt)) whole

  pub eight-value : (eights (fours (pairs t)) ≡ figures (byte_of t) 8) × (eights (fours (pairs t)) < 10 ^ 8)
  eight-value = (value, rw value (figures-lt (byte_of t) 8 z.each))

-- a word moved up by a byte, what passes its end dropped
abbrev up : ℕ → ℕ
up u = u * 256 % 18446744073709551616

up-byte : (u k : ℕ) → k < 7 → byte_of (up u) (suc k) ≡ byte_of u k
up-byte u k l = next-byte (up u) k ∙ ap (λ (n : ℕ). byte_of n k) cut ∙ cut-byte u k l
  where
    cut : up u / 256 ≡ u % 72057594037927936
    cut = omega arith

up-zero : (u : ℕ) → byte_of (up u) 0 ≡ 0
up-zero u = omega arith

-- the word v has the figures of the first n bytes of t, with zeros before them, j in all
record Raised (t n v j : ℕ) : Type 0 where
  all : Figures v j
  same : figures (byte_of v) j ≡ figures (byte_of t) n

raised-more : (t n v j : ℕ) → j < 8 → Raised t n v j → Raised t n (up v) (suc j)
raised-more t n v j l z = record {
  all = record { each = each };
  same = figures-front (byte_of (up v)) (byte_of v) j (up-zero v) (λ k g. up-byte v k (omega arith)) ∙ z.same;
}
  where
    each : (k : ℕ) → k < suc j → byte_of (up v) k < 10
    each zero g = omega (arith, up-zero v)
    each (suc k) g = omega (arith, up-byte v k (omega arith), z.all.each k (omega arith))

abbrev moved : ℕ → ℕ → ℕ
moved t m = t * 2 ^ (8 * m) % 18446744073709551616

moved_more : (t m : ℕ) → moved t (suc m) ≡ up (moved t m)
moved_more t m = ap (λ (n : ℕ). n % 18446744073709551616) split ∙ step (t * 2 ^ (8 * m))
  where
    power : 2 ^ (8 * suc m) ≡ 2 ^ (8 * m) * 256
    power = ap (λ (n : ℕ). 2 ^ n) (let e : 8 * suc m ≡ 8 * m + 8 = omega arith in e) ∙ pow-add 2 (8 * m) 8

    split : t * 2 ^ (8 * suc m) ≡ t * 2 ^ (8 * m) * 256
    split = ap (λ (n : ℕ). t * n) power ∙ sym (mul_assoc t (2 ^ (8 * m)) 256)

    step : (x : ℕ) → x * 256 % 18446744073709551616 ≡ up (x % 18446744073709551616)
    step x = omega arith

raised : (t n m : ℕ) → t < 2 ^ 64 → m + n ≤ 8 → Figures t n → Raised t n (moved t m) (m + n)
raised t n zero l g z = rw (none, zero-add n) (record { all = z; same = refl })
  where
    none : moved t 0 ≡ t
    none = omega arith
raised t n (suc m) l g z =
    rw (moved_more t m, suc-add m n)
    (raised-more t n (moved t m) (m + n) (omega arith) (raised t n m l (omega arith) z))

-- the word that `word::first` makes of t for its first n bytes
abbrev raised_by : (t n : ℕ) → ℕ
raised_by t n = t * 2 ^ (64 - 8 * n) % 18446744073709551616

module _ (t n : ℕ) (l : t < 2 ^ 64) (g : n ≤ 8) (z : Figures t n) where
  raised-eight : Raised t n (raised_by t n) 8
  raised-eight =
      subst (λ (k : ℕ). Raised t n (t * 2 ^ k % 18446744073709551616) 8) bits
      (subst (Raised t n (moved t (8 - n))) all (raised t n (8 - n) l (omega arith) z))
    where
      bits : 8 * (8 - n) ≡ 64 - 8 * n
      bits = omega arith

      all : (8 - n) + n ≡ 8
      all = omega arith

  pub first-figures : Figures (raised_by t n) 8
  first-figures = raised-eight.all

  pub first-value : (r : ℕ) → (r ≡ figures (byte_of (raised_by t n)) 8) × (r < 10 ^ 8)
      → (r ≡ figures (byte_of t) n) × (r < 10 ^ 8)
  first-value r e = (e.0 ∙ raised-eight.same, e.1)
