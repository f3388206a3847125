-- Laws of the marks by which a word's first line feed is found: 1 is taken from each byte, and before the first line
-- feed no byte borrows from the next.
-- Assumes nothing.
use Rattle.std.proofs.Common.{◌≡◌, ℕ, zero, suc, ◌+◌, ◌-◌, ◌*◌, ◌/◌, ◌%◌, ◌^◌, ◌<◌, Bool, true, false, eqb, sym, refl, ap, ◌∙◌, ap₂, mod-lt, arith, lit<, eq-eqb, eqb-true}
use lib.Bits.{bit_and, bit_xor, and_mod, xor_mod, and_shr, xor_shr, and_zero_r}
use lib.Count.{count_trailing_zeros}
use Rattle.lists.proofs.Cases.{by-eq}
use Rattle.text.specs.Word.{byte_of}
use Rattle.text.specs.Feed.{first_feed}
use Rattle.std.specs.Prelude.{Some, None}
use Rattle.text.proofs.Words.{repeated, next-byte}
use Rattle.text.proofs.Marks.{all-below, at-below}
use Rattle.text.proofs.Zeros.{bits, byte_stop, byte_skip}
use Rattle.text.proofs.FirstFeed.{NoneIn, FirstIn, first-exactly, none-exactly}

-- a number above j bytes
abbrev above : ℕ → ℕ → ℕ
above zero n = n
above (suc j) n = 256 * above j n

-- r is t with 1 taken from each of j bytes, but for what the last one borrows
record Less (j t r : ℕ) : Type 0 where
  owed : ℕ
  taken : r + repeated 1 j ≡ t + above j owed

-- j bytes with a line feed's bits turned in each
abbrev pub turned : ℕ → ℕ → ℕ
turned j w = bit_xor w (repeated 10 j)

-- the high bits of j bytes that r has and t has not
abbrev pub marks : ℕ → ℕ → ℕ → ℕ
marks j t r = bit_and (bit_and r (bit_xor t (repeated 255 j))) (repeated 128 j)

-- the lowest byte, and those after it
module _ (j w : ℕ) where
  turned-low : turned (suc j) w % 256 ≡ bit_xor (w % 256) 10
  turned-low = xor_mod w (repeated 10 (suc j)) 8 ∙ ap (bit_xor (w % 256)) (omega arith)

  turned-rest : turned (suc j) w / 256 ≡ turned j (w / 256)
  turned-rest = xor_shr w (repeated 10 (suc j)) 8 ∙ ap (bit_xor (w / 256)) (omega arith)

-- the mark of one byte
abbrev mark : ℕ → ℕ → ℕ
mark t r = bit_and (bit_and r (bit_xor t 255)) 128

module _ (j t r : ℕ) where
  marks-low : marks (suc j) t r % 256 ≡ mark (t % 256) (r % 256)
  marks-low =
      and_mod (bit_and r (bit_xor t (repeated 255 (suc j)))) (repeated 128 (suc j)) 8
      ∙ ap₂ bit_and (and_mod r (bit_xor t (repeated 255 (suc j))) 8 ∙ ap (bit_and (r % 256)) turned-back) (omega arith)
    where
      turned-back : bit_xor t (repeated 255 (suc j)) % 256 ≡ bit_xor (t % 256) 255
      turned-back = xor_mod t (repeated 255 (suc j)) 8 ∙ ap (bit_xor (t % 256)) (omega arith)

  marks-rest : marks (suc j) t r / 256 ≡ marks j (t / 256) (r / 256)
  marks-rest =
      and_shr (bit_and r (bit_xor t (repeated 255 (suc j)))) (repeated 128 (suc j)) 8
      ∙ ap₂ bit_and (and_shr r (bit_xor t (repeated 255 (suc j))) 8 ∙ ap (bit_and (r / 256)) turned-back) (omega arith)
    where
      turned-back : bit_xor t (repeated 255 (suc j)) / 256 ≡ bit_xor (t / 256) (repeated 255 j)
      turned-back = xor_shr t (repeated 255 (suc j)) 8 ∙ ap (bit_xor (t / 256)) (omega arith)

  module _ (h : Less (suc j) t r) where
    borrows : t % 256 ≡ 0 → r % 256 ≡ 255
    borrows e = omega (arith, h.taken)

    less_low : (t % 256 ≡ 0 → ⊥) → r % 256 ≡ t % 256 - 1
    less_low e = omega (arith, h.taken)

    less_rest : (t % 256 ≡ 0 → ⊥) → Less j (t / 256) (r / 256)
    less_rest e = record { owed = h.owed; taken = omega (arith, h.taken) }

-- the rules at one byte, tried at each of the 256: the line feed alone is turned to 0, and a byte less 1, where it is
-- not 0, has no mark
turned-passes : ℕ → Bool
turned-passes b = elim (eqb (bit_xor b 10) 0) [ true ↦ eqb b 10 | false ↦ true ]

turned-other : (b : ℕ) → b < 256 → (b ≡ 10 → ⊥) → bit_xor b 10 ≡ 0 → ⊥
unfolding all-below turned-passes
turned-other b l n e =
    n (eqb-true b 10 (simp (turned-passes, eq-eqb _ _ e) at (at-below 256 turned-passes refl b l)))

mark-passes : ℕ → Bool
mark-passes t = eqb (mark t (t - 1)) 0

mark-other : (t : ℕ) → t < 256 → mark t (t - 1) ≡ 0
unfolding all-below mark-passes
mark-other t l = eqb-true (mark t (t - 1)) 0 (at-below 256 mark-passes refl t l)

-- what the marks m tell of j bytes of a word
record Found (j w m : ℕ) : Type 0 where
  none : m ≡ 0 → NoneIn (byte_of w) 0 j
  first : (m ≡ 0 → ⊥) → FirstIn (byte_of w) 0 j (count_trailing_zeros (bits j) m / 8)

module _ (j w m : ℕ) where
  found_here : w % 256 ≡ 10 → m % 256 ≡ 128 → Found (suc j) w m
  found_here e f = record {
    none = λ z. absurd (omega arith);
    first = λ z.
        rw (byte_stop (bits j) m (λ d. omega arith))
        (record {
          within = (omega arith, omega arith);
          there = omega arith;
          before = λ i l k. absurd (omega arith);
        });
  }

  module _ (n : w % 256 ≡ 10 → ⊥) (z : m % 256 ≡ 0) (f : Found j (w / 256) (m / 256)) where
    passed-by : (r : ℕ) → NoneIn (byte_of (w / 256)) 0 r → NoneIn (byte_of w) 0 (suc r)
    passed-by r g zero l k e = n (omega arith)
    passed-by r g (suc i) l k e = g i (omega arith) (omega arith) (sym (next-byte w i) ∙ e)

    found-later : Found (suc j) w m
    found-later = record {
      none = λ e. passed-by j (f.none (omega arith));
      first = λ e. one_on (f.first (λ d. e (omega arith)));
    }
      where
        one_on : FirstIn (byte_of (w / 256)) 0 j (count_trailing_zeros (bits j) (m / 256) / 8)
            → FirstIn (byte_of w) 0 (suc j) (count_trailing_zeros (bits (suc j)) m / 8)
        one_on g =
            rw (byte_skip (bits j) m z)
            (record {
              within = (omega arith, omega (arith, g.within.1));
              there = next-byte w _ ∙ g.there;
              before = passed-by _ g.before;
            })

module _ (j w r : ℕ) (h : Less (suc j) (turned (suc j) w) r) where
  abbrev t : ℕ
  t = turned (suc j) w

  found-feed : w % 256 ≡ 10 → Found (suc j) w (marks (suc j) t r)
  found-feed e =
      let z : t % 256 ≡ 0 = turned-low j w ∙ rw e in
      found_here j w (marks (suc j) t r) e (marks-low j t r ∙ ap₂ mark z (borrows j t r h z))

  module _ (n : w % 256 ≡ 10 → ⊥) where
    other-low : t % 256 ≡ 0 → ⊥
    other-low e = turned-other (w % 256) (mod-lt w (lit< tt)) n (sym (turned-low j w) ∙ e)

    less_on : Less j (turned j (w / 256)) (r / 256)
    less_on = rw (← turned-rest j w) (less_rest j t r h other-low)

    found-other : Found j (w / 256) (marks j (turned j (w / 256)) (r / 256)) → Found (suc j) w (marks (suc j) t r)
    found-other f =
        found-later j w (marks (suc j) t r) n
        (marks-low j t r
        ∙ ap (mark (t % 256)) (less_low j t r h other-low)
        ∙ mark-other (t % 256) (mod-lt t (lit< tt)))
        (rw (marks-rest j t r, turned-rest j w) f)

found : (j w r : ℕ) → Less j (turned j w) r → Found j w (marks j (turned j w) r)
found zero w r h = record {
  none = λ z i l k. absurd (omega arith);
  first = λ z. absurd (z (and_zero_r (bit_and r (bit_xor (turned 0 w) 0))));
}
found (suc j) w r h =
    by-eq (w % 256) 10
    (found-feed j w r h)
    (λ n. found-other j w r h n (found j (w / 256) (r / 256) (less_on j w r h n)))

-- of a word: what its last byte borrows falls away
module _ (w r : ℕ) (h : (r + repeated 1 8) % 2 ^ 64 ≡ turned 8 w) where
  abbrev of_word : ℕ
  of_word = marks 8 (turned 8 w) r

  marked : Found 8 w of_word
  marked = found 8 w r (record { owed = (r + repeated 1 8) / 2 ^ 64; taken = omega arith })

  pub no-mark : of_word ≡ 0 → None ≡ first_feed w
  no-mark z = sym ((none-exactly w).1 (marked.none z))

  pub first-mark : (of_word ≡ 0 → ⊥) → Some (count_trailing_zeros 64 of_word / 8) ≡ first_feed w
  first-mark z = sym ((first-exactly w _).1 (marked.first z))
