-- A template in two parts: what it prints is what the parts print, and it is read one part after the other.
-- Assumes nothing.
use Rattle.std.proofs.Common.{◌≡◌, ℕ, true, List, [], ◌∷◌, ◌++◌, length, sym, refl, ap, ◌∙◌, append_assoc, append-nil, arith}
use Rattle.std.specs.Prelude.{Option, None, Some}
use Rattle.lists.proofs.Cases.{by_test, by-eq}
use Rattle.text.specs.Number.{printed, number}
use Rattle.text.specs.Template.{capital, holes, filled, matched, whole_of, line_numbers}
use Rattle.text.proofs.Templates.{holes-number, holes-byte, filled-number, filled-byte}
use Rattle.text.proofs.Templates.{matched-number, matched-no-number, matched-same, matched-other}

-- the numbers of the first part before those of the second
pub filled-parts : (t u ns ms s : List ℕ) → length ns ≡ holes t
    → filled (t ++ u) (ns ++ ms) s ≡ filled t ns (filled u ms s)
unfolding filled holes
filled-parts [] u [] ms s l = refl
filled-parts [] u (n ∷ ns) ms s l = absurd (omega arith)
filled-parts (b ∷ t) u [] ms s l =
    by_test (capital b)
    (λ e. absurd (omega (arith, holes-number b t e)))
    (λ e. filled-byte b (t ++ u) e ms s
    ∙ ap (λ (x : List ℕ). b ∷ x) (filled-parts t u [] ms s (l ∙ holes-byte b t e))
    ∙ sym (filled-byte b t e [] (filled u ms s)))
filled-parts (b ∷ t) u (n ∷ ns) ms s l =
    by_test (capital b)
    (λ e. filled-number b (t ++ u) e (n ∷ (ns ++ ms)) s
    ∙ ap (printed n) (filled-parts t u ns ms s (omega (arith, holes-number b t e)))
    ∙ sym (filled-number b t e (n ∷ ns) (filled u ms s)))
    (λ e. filled-byte b (t ++ u) e (n ∷ (ns ++ ms)) s
    ∙ ap (λ (x : List ℕ). b ∷ x) (filled-parts t u (n ∷ ns) ms s (l ∙ holes-byte b t e))
    ∙ sym (filled-byte b t e (n ∷ ns) (filled u ms s)))

-- what is read by the template u after what was read, with the numbers `before` before it
abbrev pub onward : List ℕ → List ℕ → Option (List ℕ × List ℕ) → Option (List ℕ × List ℕ)
onward before u None = None
onward before u (Some p) = matched (before ++ p.0) u p.1

-- one part is read after the other, and numbers before the first part's stay before them
parts-read : (t u before ns s : List ℕ) → matched (before ++ ns) (t ++ u) s ≡ onward before u (matched ns t s)
unfolding matched
parts-read [] u before ns s = refl
parts-read (b ∷ t) u before ns [] = refl
parts-read (b ∷ t) u before ns (a ∷ s) =
    by_test (capital b)
    (λ e. on-number e (parts-read t u before) (number (a ∷ s)) refl)
    (λ e. by-eq b a
    (λ q. matched-same b (t ++ u) e (before ++ ns) a s q
    ∙ parts-read t u before ns s
    ∙ ap (onward before u) (sym (matched-same b t e ns a s q)))
    (λ q. matched-other b (t ++ u) e (before ++ ns) a s q
    ∙ ap (onward before u) (sym (matched-other b t e ns a s q))))
  where
    on-number : true ≡ capital b
        → ((ms y : List ℕ) → matched (before ++ ms) (t ++ u) y ≡ onward before u (matched ms t y))
        → (o : Option (ℕ × List ℕ)) → number (a ∷ s) ≡ o
        → matched (before ++ ns) (b ∷ (t ++ u)) (a ∷ s) ≡ onward before u (matched ns (b ∷ t) (a ∷ s))
    on-number e ih None q =
        matched-no-number b (t ++ u) e (before ++ ns) (a ∷ s) q
        ∙ ap (onward before u) (sym (matched-no-number b t e ns (a ∷ s) q))
    on-number e ih (Some p) q =
        matched-number b (t ++ u) e (before ++ ns) (a ∷ s) p.1 p.0 q
        ∙ rw (append_assoc before ns (p.0 ∷ [])) (ih (ns ++ (p.0 ∷ [])) p.1)
        ∙ ap (onward before u) (sym (matched-number b t e ns (a ∷ s) p.1 p.0 q))

-- the two parts after numbers, and one part after numbers
pub matched-parts : (t u before s : List ℕ) → matched before (t ++ u) s ≡ onward before u (matched [] t s)
matched-parts t u before s =
    ap (λ (ns : List ℕ). matched ns (t ++ u) s) (sym (append-nil before)) ∙ parts-read t u before [] s

pub matched-after : (t before s : List ℕ) → matched before t s ≡ onward before [] (matched [] t s)
matched-after t before s =
    ap (λ (x : List ℕ). matched before x s) (sym (append-nil t)) ∙ matched-parts t [] before s

-- the same of a whole line
abbrev pub behind : List ℕ → Option (List ℕ) → Option (List ℕ)
behind before None = None
behind before (Some ns) = Some (before ++ ns)

pub line_after : (t before s : List ℕ) → whole_of (matched before t s) ≡ behind before (line_numbers t s)
unfolding matched whole_of line_numbers
line_after t before s = ap whole_of (matched-after t before s) ∙ by_read (matched [] t s)
  where
    by_read : (o : Option (List ℕ × List ℕ)) → whole_of (onward before [] o) ≡ behind before (whole_of o)
    by_read None = refl
    by_read (Some (ns, [])) = refl
    by_read (Some (ns, b ∷ y)) = refl
