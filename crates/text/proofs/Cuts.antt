-- A text cut at the end of a line.
-- Assumes nothing.
use Prim.{Unit}
use Rattle.std.proofs.Common.{◌≡◌, ℕ, List, [], ◌∷◌, ◌++◌, refl, ◌∙◌, eq-eqb}
use Rattle.std.specs.Prelude.{Option, None, Some}
use Rattle.lists.proofs.Cases.{by-eq}
use Rattle.text.specs.Lines.{beginning, lines_of}
use Rattle.text.proofs.Feeds.{byte-begins}

-- a text of whole lines: it is empty, or its last byte is a line feed
abbrev pub WholeLines : List ℕ → Type 0
WholeLines [] = Unit {0}
WholeLines (b ∷ []) = b ≡ 10
WholeLines (b ∷ a ∷ s) = WholeLines (a ∷ s)

feed-ends : (b : ℕ) (s : List ℕ) → b ≡ 10 → lines_of (b ∷ s) ≡ Some [] ∷ lines_of s
unfolding lines_of
feed-ends b s e = simp (lines_of, eq-eqb b 10 e)

-- a byte before a text that has a line begins that line, whatever lines come after
begun-append : (b a : ℕ) (s : List ℕ) (ls : List (Option (List ℕ)))
    → beginning b (lines_of (a ∷ s) ++ ls) ≡ beginning b (lines_of (a ∷ s)) ++ ls
begun-append b a s ls =
    by-eq a 10 (λ e. rw (feed-ends a s e)) (λ e. rw (byte-begins a s e) (twice (lines_of s)))
  where
    twice : (ks : List (Option (List ℕ))) → beginning b (beginning a ks ++ ls) ≡ beginning b (beginning a ks) ++ ls
    twice [] = refl
    twice (None ∷ ks) = refl
    twice (Some k ∷ ks) = refl

-- the lines of whole lines and of the text after them
pub lines-append : (s u : List ℕ) → WholeLines s → lines_of (s ++ u) ≡ lines_of s ++ lines_of u
unfolding lines_of
lines-append [] u z = refl
lines-append (b ∷ []) u z = feed-ends b u z ∙ rw (feed-ends b [] z)
lines-append (b ∷ a ∷ s) u z =
    by-eq b 10
    (λ e. feed-ends b ((a ∷ s) ++ u) e ∙ rw (feed-ends b (a ∷ s) e, lines-append (a ∷ s) u z))
    (λ e. byte-begins b ((a ∷ s) ++ u) e
    ∙ rw (byte-begins b (a ∷ s) e, lines-append (a ∷ s) u z) (begun-append b a s (lines_of u)))
