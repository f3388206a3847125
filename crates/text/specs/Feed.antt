-- Document 02, Q-6: "For every eight bytes the word test must give the place of the first line feed among them, and
-- none exactly when none is there."
-- Assumes nothing.
use Rattle.std.specs.Prelude.{ℕ, zero, suc, true, false, ◌==◌}
use Rattle.text.specs.Word.{byte_of}
use Rattle.std.specs.Prelude.{Option, Some, None}

-- the place of the first line feed (10) among n bytes from the place k on, or none
unfoldable pub feed_from : (byte : ℕ → ℕ) → (k n : ℕ) → Option ℕ
feed_from byte k zero = None
feed_from byte k (suc n) = elim (byte k == 10) [ true ↦ Some k | false ↦ feed_from byte (suc k) n ]

-- .. among the eight bytes of a word, the first lowest
abbrev pub first_feed : ℕ → Option ℕ
first_feed w = feed_from (byte_of w) 0 8
