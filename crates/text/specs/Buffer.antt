-- What a writer leaves in a lent buffer.
-- Assumes nothing.
use Rattle.std.specs.Prelude.{◌≡◌, ℕ, ◌+◌, List, length}
use Rattle.std.proofs.lemmas.List.Edits.{sets}

-- The elements w were put into the buffer d from the place `at` on, as far as it goes: it is d' then, all others as
-- before, and `next` is the place after w, also where that is past the end.
pub record Put {A : Type 0} (d : List A) (at : ℕ) (w d' : List A) (next : ℕ) : Type 0 where
  pub place : next ≡ at + length w
  pub bytes : d' ≡ sets d at w
