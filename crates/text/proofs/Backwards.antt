-- Laws of a number that is put into a buffer from its last digit on.
-- Assumes nothing.
use Rattle.std.proofs.Common.{◌≡◌, ℕ, suc, ◌+◌, ◌-◌, ◌/◌, ◌%◌, ◌<◌, ◌≤◌, List, [], ◌∷◌, ◌++◌, length, set, sym, refl, ap, ◌∙◌, add-one, arith, length-append, length-set}
use lib.Seq.{sets, set_comm}
use Rattle.text.specs.Buffer.{Put}
use Rattle.text.specs.Number.{digits}
use Rattle.text.proofs.Printing.{printed-one, printed-more, printed-append}
use Rattle.text.proofs.Puts.{sets_append}

-- a byte behind others may be set before them
set_before : (d : List ℕ) (i at b : ℕ) (w : List ℕ) → at + length w ≤ i → sets (set d i b) at w ≡ set (sets d at w) i b
set_before d i at b [] h = refl
set_before d i at b (a ∷ w) h =
    rw (set_comm d i at b a (λ e. omega arith)) (set_before (set d at a) i (suc at) b w (omega arith))

-- and so may bytes
sets_before : (d : List ℕ) (at : ℕ) (v w : List ℕ) → sets (sets d (at + length v) w) at v ≡ sets d at (v ++ w)
sets_before d at v w = behind d (at + length v) w (omega arith) ∙ sym (sets_append d at v w)
  where
    behind : (d : List ℕ) (i : ℕ) (w : List ℕ) → at + length v ≤ i → sets (sets d i w) at v ≡ sets (sets d at v) i w
    behind d i [] h = refl
    behind d i (b ∷ w) h = behind (set d i b) (suc i) w (omega arith) ∙ rw (set_before d i at b v h)

-- the two digits of a number below 100, a leading zero among them
abbrev two_digits : ℕ → List ℕ
two_digits n = (48 + n / 10) ∷ (48 + n % 10) ∷ []

-- the digits of a number by its last one, and by its last two
digits-ten : (n : ℕ) → 10 ≤ n → digits n ≡ digits (n / 10) ++ ((48 + n % 10) ∷ [])
digits-ten n h = printed-more n [] h ∙ printed-append (n / 10) [] ((48 + n % 10) ∷ [])

digits-pair : (n : ℕ) → 10 ≤ n → n < 100 → digits n ≡ two_digits n
digits-pair n l h = rw (printed-more n [] l, printed-one (n / 10) ((48 + n % 10) ∷ []) (omega arith))

digits-hundred : (n : ℕ) → 100 ≤ n → digits n ≡ digits (n / 100) ++ two_digits (n % 100)
digits-hundred n h =
    let hundred : n / 10 / 10 ≡ n / 100 = omega arith in
    let tens : n / 10 % 10 ≡ n % 100 / 10 = omega arith in
    let ones : n % 10 ≡ n % 100 % 10 = omega arith in
    printed-more n [] (omega arith)
    ∙ printed-more (n / 10) ((48 + n % 10) ∷ []) (omega arith)
    ∙ rw (hundred, tens, ones) (printed-append (n / 100) [] (two_digits (n % 100)))

-- The number n is put into the buffer d from the place `at` on, from its last digit on: the buffer is d' now, and the
-- digits of v are still to be put, before the place i. Whoever puts them has put the whole.
pub record Backward (n : ℕ) (d : List ℕ) (at : ℕ) (d' : List ℕ) (v i : ℕ) : Type 0 where
  pub place : i ≡ at + length (digits v)
  pub inside : i ≤ at + 20
  pub size : length d' ≡ length d
  pub bytes : sets d' at (digits v) ≡ sets d at (digits n)

pub none-back : (n : ℕ) (d : List ℕ) (at r : ℕ) → r ≡ length (digits n) → r ≤ 20 → Backward n d at d n (at + r)
none-back n d at r e h = record { place = rw e; inside = omega arith; size = refl; bytes = refl }

module _ (n : ℕ) (d : List ℕ) (at : ℕ) (d' : List ℕ) (v i : ℕ) (g : Backward n d at d' v i) where
  -- the last of the digits left
  module _ (h : 10 ≤ v) where
    one-before : i ≡ at + length (digits (v / 10)) + 1
    one-before =
        omega (
          arith,
          g.place,
          ap length (digits-ten v h),
          length-append (digits (v / 10)) ((48 + v % 10) ∷ []),
        )

    before-one : i - 1 ≡ at + length (digits (v / 10))
    before-one = omega (arith, one-before)

    pub one_inside : 1 ≤ i
    one_inside = omega (arith, one-before)

    pub one-back : {d'' : List ℕ} {r : ℕ} → Put d' (i - 1) ((48 + v % 10) ∷ []) d'' r
        → Backward n d at d'' (v / 10) (i - 1)
    one-back p = record {
      place = before-one;
      inside = omega (arith, g.inside);
      size = ap length p.bytes ∙ simp length-set g.size;
      bytes =
          rw (p.bytes, before-one)
          (sets_before d' at (digits (v / 10)) ((48 + v % 10) ∷ []) ∙ rw (← digits-ten v h) g.bytes);
    }

  -- the last two
  module _ (h : 100 ≤ v) where
    two-before : i ≡ at + length (digits (v / 100)) + 2
    two-before =
        omega (
          arith,
          g.place,
          ap length (digits-hundred v h),
          length-append (digits (v / 100)) (two_digits (v % 100)),
        )

    before-two : i - 2 ≡ at + length (digits (v / 100))
    before-two = omega (arith, two-before)

    pub two-inside : 2 ≤ i
    two-inside = omega (arith, two-before)

    pub two_back : Backward n d at (set (set d' (i - 2) (48 + v % 100 / 10)) (i - 2 + 1) (48 + v % 100 % 10))
        (v / 100) (i - 2)
    two_back = record {
      place = before-two;
      inside = omega (arith, g.inside);
      size = simp length-set g.size;
      bytes =
          rw (add-one (i - 2), before-two)
          (sets_before d' at (digits (v / 100)) (two_digits (v % 100)) ∙ rw (← digits-hundred v h) g.bytes);
    }

  -- where there is room
  module _ (room : at + 20 ≤ length d) where
    pub second-room : (b : ℕ) → 100 ≤ v → i - 2 + 1 < length (set d' (i - 2) b)
    second-room b h = simp length-set (omega (arith, g.size, g.inside, two-inside h))

    pub two-room : (b : ℕ) → at + 1 < length (set d' at b)
    two-room b = simp length-set (omega (arith, g.size))

  -- the first digit, and the first two
  module _ (r : ℕ) (e : r ≡ length (digits n)) where
    pub first_back : v < 10 → Put d at (digits n) (set d' at (48 + v)) (at + r)
    first_back h = record { place = rw e; bytes = rw (printed-one v [] h) at g.bytes }

    pub first-put : v < 10 → {d'' : List ℕ} {s : ℕ} → Put d' at ((48 + v) ∷ []) d'' s → Put d at (digits n) d'' (at + r)
    first-put h p = record { place = rw e; bytes = p.bytes ∙ (rw (printed-one v [] h) at g.bytes) }

    pub pair-back : 10 ≤ v → v < 100
        → Put d at (digits n) (set (set d' at (48 + v / 10)) (at + 1) (48 + v % 10)) (at + r)
    pair-back l h = record { place = rw e; bytes = rw (add-one at) (rw (digits-pair v l h) at g.bytes) }
