-- What stands at the front of a list.
-- Assumes nothing.
use mathlib.Core.Path.{◌≡◌, sym, ◌∙◌, ap₂}
use mathlib.Core.List.{List, ◌++◌}
use lib.ListN.{length, take}
use lib.Seq.{take-append_seam}

-- fronts of the same length of the same list are the same
pub same-front : {A : Type 0} (xs ys rest rest' : List A) → length xs ≡ length ys → xs ++ rest ≡ ys ++ rest' → xs ≡ ys
same-front xs ys rest rest' n e = sym (take-append_seam xs rest) ∙ ap₂ take n e ∙ take-append_seam ys rest'
