-- Document 01, The table text: "each line ended by a line feed"; "Bytes after the last line feed are a line that is no
-- form, in every text."
-- Assumes nothing.
use Rattle.std.specs.Prelude.{ℕ, ◌+◌, true, false, List, [], ◌∷◌, ◌++◌, length, drop, ◌==◌}
use Rattle.std.specs.Prelude.{Option, None, Some}

-- the lines of a text that begins with the byte b, from the lines of the text after it: b begins the first line
abbrev pub beginning : ℕ → List (Option (List ℕ)) → List (Option (List ℕ))
beginning b [] = None ∷ []
beginning b (None ∷ ls) = None ∷ ls
beginning b (Some l ∷ ls) = Some (b ∷ l) ∷ ls

-- the lines of a text, each without the line feed (10) that ends it; bytes after the last line feed are one line more,
-- `none`
unfoldable pub lines_of : List ℕ → List (Option (List ℕ))
lines_of [] = []
lines_of (b ∷ s) = elim (b == 10) [ true ↦ Some [] ∷ lines_of s | false ↦ beginning b (lines_of s) ]

-- lines put together, each with its line feed
abbrev pub joined : List (List ℕ) → List ℕ
joined [] = []
joined (l ∷ ls) = l ++ (10 ∷ joined ls)

-- the bytes before the first that is `byte`
unfoldable pub up_to : (byte : ℕ) → List ℕ → List ℕ
up_to byte [] = []
up_to byte (b ∷ s) = elim (b == byte) [ true ↦ [] | false ↦ b ∷ up_to byte s ]

-- where a byte stands next, from a place on, or the end of the text
abbrev pub place_of : (byte : ℕ) → List ℕ → ℕ → ℕ
place_of byte s at = at + length (up_to byte (drop at s))

-- where the line that begins at a place ends: at its line feed, or at the end of the text
abbrev pub line_end : List ℕ → ℕ → ℕ
line_end s at = place_of 10 s at
