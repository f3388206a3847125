-- Document 02, Q-12: a scale's text, a line `(day D S)` for each of its shares.
-- Assumes nothing.
use Rattle.std.specs.Prelude.{List, [], ◌∷◌, ℕ, suc}
use Rattle.text.specs.Template.{filled}
use Rattle.text.specs.Lines.{joined}
use Rattle.scale_text.specs.Read.{day_text}

-- the lines of shares, the first of them that of day d
abbrev pub day_lines : (d : ℕ) → List ℕ → List (List ℕ)
day_lines d [] = []
day_lines d (s ∷ ss) = filled day_text (d ∷ s ∷ []) [] ∷ day_lines (suc d) ss

-- the text of a scale
abbrev pub scale_text_of : List ℕ → List ℕ
scale_text_of shares = joined (day_lines 1 shares)
