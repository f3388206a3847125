-- Document 01, The table text: reading and writing give the same table back.
-- Assumes nothing.
use mathlib.Core.Path.{◌≡◌, sym, ap, ◌∙◌}
use mathlib.Core.Bool.{true}
use mathlib.Core.List.{List}
use Prim.Native.Nat.{ℕ, ◌≤◌}
use native.Mathlib.Omega.{arith}
use lib.ListN.{length}
use Rattle.lists.specs.Each.{Each}
use Rattle.lists.proofs.Cases.{by_test}
use Rattle.text.proofs.Ascii.{Byte}
use Rattle.answer.specs.Outcome.{Outcome, TextOnly, written, text_only}
use Rattle.answer.proofs.Outcomes.{fits, either_way}
use Rattle.programme.specs.declared.contract.Programme.{Programme}
use Rattle.programme.specs.Valid.{valid}
use Rattle.table_text.specs.declared.Reading.{Reading}
use Rattle.table_text.specs.Read.{read_as, read_of}
use Rattle.table_text.specs.Write.{text_of, write_of}
use Rattle.table_text.proofs.RoundTrip.{read-valid, read-written, written_read, text-bytes}

-- some text of bytes is read as the programme p
pub record SomeText (p : Programme) : Type 0 where
  pub text : List ℕ
  pub bytes : Each Byte text
  pub reads : read_of text ≡ read_as p

-- the valid programmes are exactly those that some text is read as
pub valid-exactly : (p : Programme) → ((valid p ≡ true) → SomeText p) × (SomeText p → valid p ≡ true)
valid-exactly p = (
  λ e. record { text = text_of p; bytes = text-bytes p; reads = written_read p e },
  λ t. read-valid t.text p t.reads,
)

-- a text that is read as a programme is what writing the programme gives, byte for byte, where the buffer has the room
pub read_then_write : (s : List ℕ) (p : Programme) (room : ℕ) → read_of s ≡ read_as p → length s ≤ room
    → write_of p room ≡ written s text_only
unfolding write_of
read_then_write s p room e h =
    let w = read-written s p e in
    let k : length (text_of p) ≤ room = rw w at h in
    simp (write_of, read-valid s p e)
    (fits room (text_of p) text_only k ∙ ap (λ (t : List ℕ). written t text_only) (sym w))

-- a text that writing a programme gives is read as the programme
pub write_then_read : (p : Programme) (room : ℕ) (s : List ℕ) → write_of p room ≡ written s text_only
    → read_of s ≡ read_as p
unfolding write_of
write_then_read p room s e =
    by_test (valid p)
    (λ v. either_way room (text_of p) text_only (λ (o : Outcome TextOnly). o ≡ written s text_only → read_of s ≡ read_as p)
    (λ h q. let text : text_of p ≡ s = cc in rw (← text) (written_read p (sym v)))
    (λ h q. let n : ◌≡◌ {A = ℕ} 0 1 = cc in absurd (omega arith)) (simp (write_of, ← v) at e))
    (λ v. let n : ◌≡◌ {A = ℕ} 0 1 = cc (simp (write_of, ← v) at e) in absurd (omega arith))

-- valid programmes with the same table text are the same
pub text_injective : (p q : Programme) → valid p ≡ true → valid q ≡ true → text_of p ≡ text_of q → p ≡ q
text_injective p q v w e = ap (λ (r : Reading). r.programme) same
  where
    same : read_as p ≡ read_as q
    same = sym (written_read p v) ∙ ap read_of e ∙ written_read q w
