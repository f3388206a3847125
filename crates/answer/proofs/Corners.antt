-- Texts that fit their buffer to the byte, or by one do not: answers and buffers, typed out.
-- Assumes nothing.
use mathlib.Core.Path.{◌≡◌, refl}
use mathlib.Core.List.{List}
use Prim.Native.Nat.{ℕ}
use lib.ListN.{length}
use Rattle.std.specs.Prelude.{Ok, Err}
use Rattle.refusal.specs.declared.Refusal.TheVariants.{NoSuchTreaty}
use Rattle.text.specs.Bytes.{bytes}
use Rattle.answer.specs.Outcome.{Outcome, TextOnly, text_only, refused, fitted, answer_of, answered, buffer_after}

-- a text of five bytes for a buffer
abbrev five : List ℕ → Outcome TextOnly
five d = fitted (length d) (bytes "(a 1)") text_only

pub record Corners : Type 0 where
  -- 7 and the length needed; the buffer is as lent
  pub short : answer_of (five (bytes "####")) ≡ record { refusal = 7; number = 5 }
  pub short-left : buffer_after (five (bytes "####")) (bytes "####") ≡ bytes "####"
  pub none : answer_of (five (bytes "")) ≡ record { refusal = 7; number = 5 }
  -- 0 and the length written; the bytes past it are unchanged
  pub exact : answer_of (five (bytes "#####")) ≡ record { refusal = 0; number = 5 }
  pub exact-left : buffer_after (five (bytes "#####")) (bytes "#####") ≡ bytes "(a 1)"
  pub long : answer_of (five (bytes "#######")) ≡ record { refusal = 0; number = 5 }
  pub long-left : buffer_after (five (bytes "#####xy")) (bytes "#####xy") ≡ bytes "(a 1)xy"
  -- another refusal, with its second number
  pub other : answer_of {A = TextOnly} (refused 14 3) ≡ record { refusal = 14; number = 3 }
  pub other-left : buffer_after {A = TextOnly} (refused 14 3) (bytes "ab") ≡ bytes "ab"
  -- the same of a length, and of a refusal with its second number
  pub of-length : answered (Ok 5) ≡ record { refusal = 0; number = 5 }
  pub of-refusal : answered (Err (record { refusal = NoSuchTreaty; number = 3 })) ≡ record { refusal = 14; number = 3 }

pub corners : Corners
unfolding fitted
corners = record {
  short = refl;
  short-left = refl;
  none = refl;
  exact = refl;
  exact-left = refl;
  long = refl;
  long-left = refl;
  other = refl;
  other-left = refl;
  of-length = refl;
  of-refusal = refl;
}
