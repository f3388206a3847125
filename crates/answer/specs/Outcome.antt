-- Document 01, When a call is turned down: what a call comes to that writes a text into a lent buffer. "A success
-- returns the length of the text written; the bytes past it are unchanged." A refusal leaves the buffer as lent.
-- Assumes nothing.
use Rattle.std.specs.Prelude.{true, false, List, ◌++◌, ℕ, ltb, length, drop, Result, Ok, Err}
use Rattle.refusal.specs.declared.Refused.{Refused}
use Rattle.refusal.specs.Refusal.{number_of}
use Rattle.answer.specs.declared.Answer.{Answer}

-- a refusal with its second number, or a text written and what the call leaves besides
pub data Outcome (A : Type 0) : Type 0 where
  refused : (refusal number : ℕ) → Outcome A
  written : (text : List ℕ) (left : A) → Outcome A

-- for a call that leaves nothing besides its text
pub data TextOnly : Type 0 where
  text_only : TextOnly

-- a text for a buffer of `room` bytes: 7 and the length needed, where it is longer
unfoldable pub fitted : {A : Type 0} (room : ℕ) (text : List ℕ) (left : A) → Outcome A
fitted room s a = elim (ltb room (length s)) [ true ↦ refused 7 (length s) | false ↦ written s a ]

-- the answer: the refusal and its second number, or 0 and the length of the text written
abbrev pub answer_of : {A : Type 0} → Outcome A → Answer
answer_of (refused n w) = record { refusal = n; number = w }
answer_of (written s a) = record { refusal = 0; number = length s }

-- the same of the length of the text written, or of what refused the call
abbrev pub answered : Result ℕ Refused → Answer
answered (Ok n) = record { refusal = 0; number = n }
answered (Err f) = record { refusal = number_of f.refusal; number = f.number }

-- the buffer d after it: as lent, or the text with the bytes past it unchanged
abbrev pub buffer_after : {A : Type 0} → Outcome A → List ℕ → List ℕ
buffer_after (refused n w) d = d
buffer_after (written s a) d = s ++ drop (length s) d
