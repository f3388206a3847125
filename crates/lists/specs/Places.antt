-- A list in the first of eight places.
-- Assumes nothing.
use Rattle.std.specs.Prelude.{List, ◌++◌, ◌-◌, length, replicate}

-- its elements, with what unused places hold after them
abbrev pub in_places : {A : Type 0} → A → List A → List A
in_places unused xs = xs ++ replicate (8 - length xs) unused
