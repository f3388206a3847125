-- Bytes below 256: a template of such bytes prints such bytes, and lines of such bytes make a text of them.
-- Assumes nothing.
use Rattle.std.proofs.Common.{◌≡◌, ℕ, ◌+◌, ◌%◌, ◌<◌, true, ltb, List, [], ◌∷◌, drop, arith, lit<, ltb-true}
use Rattle.lists.specs.Each.{Each}
use Rattle.lists.specs.Chains.{every}
use Rattle.lists.proofs.Each.{each_append, each-every}
use Rattle.lists.proofs.Cases.{by_test}
use Rattle.text.specs.Number.{printed}
use Rattle.text.specs.Template.{capital, filled}
use Rattle.text.specs.Lines.{joined}
use Rattle.text.proofs.Printing.{by_digits, printed-one, printed-more}

abbrev pub Byte : ℕ → Type 0
Byte b = b < 256

-- digits are bytes
printed-bytes : (n : ℕ) (s : List ℕ) → Each Byte s → Each Byte (printed n s)
printed-bytes =
    by_digits (λ n. (s : List ℕ) → Each Byte s → Each Byte (printed n s))
    (λ n l s z. rw (printed-one n s l) (omega arith, z))
    (λ n l ih s z. rw (printed-more n s l) (ih ((48 + n % 10) ∷ s) (omega arith, z)))

-- before bytes that are below 256 too
filled-before : (t ns s : List ℕ) → Each Byte t → Each Byte s → Each Byte (filled t ns s)
unfolding filled
filled-before [] ns s g z = z
filled-before (b ∷ t) ns s g z =
    by_test (capital b)
    (λ e. simp (filled, ← e) (printed-bytes _ _ (filled-before t (drop 1 ns) s g.1 z)))
    (λ e. simp (filled, ← e) (g.0, filled-before t ns s g.1 z))

-- the test computes for bytes that are written out
pub all-bytes : (t : List ℕ) → every (λ (b : ℕ). ltb b 256) t ≡ true → Each Byte t
all-bytes t e = each-every Byte (λ (b : ℕ). ltb b 256) (λ b h. ltb-true b 256 h) t e

pub filled-bytes : (t ns : List ℕ) → every (λ (b : ℕ). ltb b 256) t ≡ true → Each Byte (filled t ns [])
filled-bytes t ns e = filled-before t ns [] (all-bytes t e) tt

-- lines put together
pub joined_bytes : (ls : List (List ℕ)) → Each (Each Byte) ls → Each Byte (joined ls)
joined_bytes [] z = tt
joined_bytes (l ∷ ls) z = each_append Byte l (10 ∷ joined ls) z.0 (lit< tt, joined_bytes ls z.1)
