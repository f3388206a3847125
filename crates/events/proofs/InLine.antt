-- The parts of an event form, read off a text, are those of its first line.
-- Assumes nothing.
use mathlib.Core.Path.{◌≡◌, refl, sym, ap, ◌∙◌}
use mathlib.Core.Bool.{true, false}
use mathlib.Core.List.{List, [], ◌∷◌, ◌++◌}
use Rattle.std.specs.Prelude.{Option, None, Some}
use Prim.Native.Nat.{ℕ, zero, suc, ◌-◌, ◌≤◌}
use native.Mathlib.Omega.{arith}
use borrow.Author.Tests.{ne_eqb}
use lib.ListN.{length, drop, get_or, length-append}
use lib.Seq.{drop-append-le}
use Rattle.lists.proofs.Cases.{by-eq}
use Rattle.text.specs.Begin.{begins}
use Rattle.text.specs.Template.{capital, holes, matched}
use Rattle.text.proofs.Begins.{matched-other-beginning}
use Rattle.text.proofs.Feeds.{NoFeed, feedless}
use Rattle.text.proofs.FirstLine.{before, matched-line}
use Rattle.events.specs.Event.{event_text, loss_text, loss_from, closes}
use Rattle.events.specs.Form.{head_from, head_of, loss_form_from, loss_at}
use Rattle.events.proofs.LineEnds.{line_ending, begins-other, begins-same}

never : {C : Type 0} → false ≡ true → C
never e = let z : ◌≡◌ {A = ℕ} 0 1 = cc in absurd (omega arith)

-- the beginning of a line that r comes after
pub head_in_line : (l r : List ℕ) → NoFeed l → head_of (l ++ (10 ∷ r)) ≡ head_of l
unfolding head_of feedless
head_in_line l r z = rw (matched-line [] event_text l r refl z) (by-found (matched [] event_text l))
  where
    by-found : (o : Option (List ℕ × List ℕ))
        → head_from (length (l ++ (10 ∷ r))) (before (10 ∷ r) o) ≡ head_from (length l) o
    by-found None = refl
    by-found (Some p) =
        let same : length (l ++ (10 ∷ r)) - length (p.1 ++ (10 ∷ r)) ≡ length l - length p.1 =
        omega (arith, length-append l (10 ∷ r), length-append p.1 (10 ∷ r)) in
        ap (λ (k : ℕ). Some (get_or p.0 0 0, k)) same

-- a loss form of it
pub loss_in_line : (l r : List ℕ) (at : ℕ) → NoFeed (drop at l) → at ≤ length l
    → loss_at (l ++ (10 ∷ r)) at ≡ loss_at l at
unfolding loss_at feedless
loss_in_line l r at z h =
    rw (drop-append-le at l (10 ∷ r) h, matched-line [] loss_text (drop at l) r refl z)
    (by-found (matched [] loss_text (drop at l)))
  where
    by-found : (o : Option (List ℕ × List ℕ))
        → loss_form_from (length (l ++ (10 ∷ r))) (before (10 ∷ r) o) ≡ loss_form_from (length l) o
    by-found None = refl
    by-found (Some p) =
        let same : length (l ++ (10 ∷ r)) - length (p.1 ++ (10 ∷ r)) ≡ length l - length p.1 =
        omega (arith, length-append l (10 ∷ r), length-append p.1 (10 ∷ r)) in
        ap (λ (k : ℕ). Some (loss_from p.0, k)) same

-- a place without a line feed after it
pub clean_from : (at : ℕ) (l : List ℕ) → NoFeed l → NoFeed (drop at l)
clean_from zero l z = z
clean_from (suc at) [] z = tt
clean_from (suc at) (b ∷ l) z = clean_from at l z.1

-- What is left of a line is x, and r comes after its line feed. A space is left: not the bracket alone.
pub space_left : (x r : List ℕ) → begins (32 ∷ []) (x ++ (10 ∷ r)) ≡ true → closes x ≡ false
unfolding begins closes
space_left [] r h = refl
space_left (b ∷ []) r h = by-eq b 32 (λ e. rw e) (λ e. never (begins-other 32 b [] (10 ∷ r) e ∙ h))
space_left (b ∷ a ∷ x) r h = refl

-- no space is left: no loss form either
pub no-loss-left : (x r : List ℕ) → begins (32 ∷ []) (x ++ (10 ∷ r)) ≡ false → matched [] loss_text x ≡ None
unfolding begins holes capital
no-loss-left x r h = matched-other-beginning (32 ∷ []) _ [] x refl (in_line x h)
  where
    in_line : (x : List ℕ) → begins (32 ∷ []) (x ++ (10 ∷ r)) ≡ false → begins (32 ∷ []) x ≡ false
    in_line [] h = refl
    in_line (b ∷ x) h = h

-- the bracket and the line feed are left
pub bracket_alone : (x r : List ℕ) → NoFeed x → begins line_ending (x ++ (10 ∷ r)) ≡ true
    → (closes x ≡ true) × (length x ≡ 1)
unfolding closes
bracket_alone [] r z h = never (begins-other 41 10 (10 ∷ []) r (λ e. omega (arith, e)) ∙ h)
bracket_alone (b ∷ []) r z h =
    by-eq b 41 (λ e. (rw e, refl)) (λ e. never (begins-other 41 b (10 ∷ []) (10 ∷ r) e ∙ h))
bracket_alone (b ∷ a ∷ x) r z h =
    by-eq b 41
    (λ e.
    never (begins-other 10 a [] (x ++ (10 ∷ r)) z.1.0
    ∙ begins-same 41 (10 ∷ []) (a ∷ (x ++ (10 ∷ r))) ∙ (rw e at h)))
    (λ e. never (begins-other 41 b (10 ∷ []) (a ∷ (x ++ (10 ∷ r))) e ∙ h))

-- they are not
pub bracket_not_alone : (x r : List ℕ) → begins line_ending (x ++ (10 ∷ r)) ≡ false → closes x ≡ false
unfolding closes begins
bracket_not_alone [] r h = refl
bracket_not_alone (b ∷ []) r h = by-eq b 41 (λ e. never (sym (rw e at h))) (λ e. ne_eqb b 41 e)
bracket_not_alone (b ∷ a ∷ x) r h = refl

-- without a line feed they are nowhere
pub no_ending : (x : List ℕ) → NoFeed x → begins line_ending x ≡ false
unfolding begins
no_ending [] z = refl
no_ending (b ∷ []) z = by-eq b 41 (λ e. rw e) (λ e. sym (begins-other 41 b (10 ∷ []) [] e))
no_ending (b ∷ a ∷ x) z =
    by-eq b 41
    (λ e. rw e (sym (begins-other 10 a [] x z.1.0 ∙ begins-same 41 (10 ∷ []) (a ∷ x))))
    (λ e. sym (begins-other 41 b (10 ∷ []) (a ∷ x) e))
