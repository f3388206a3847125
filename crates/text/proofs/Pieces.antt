-- Laws of a template that is put piece by piece: bytes that stand for themselves, and the number after them.
-- Assumes nothing.
use Rattle.std.proofs.Common.{◌≡◌, ℕ, ◌+◌, true, List, [], ◌∷◌, ◌++◌, get_or, drop, sym, refl, ap, ◌∙◌, append_assoc, append-nil, add-zero, arith, get_or-drop, drop-drop}
use Rattle.lists.proofs.Cases.{by_test}
use Rattle.text.specs.Buffer.{Put}
use Rattle.text.specs.Number.{digits}
use Rattle.text.specs.Template.{capital, holes, filled}
use Rattle.text.proofs.Printing.{printed-append}
use Rattle.text.proofs.Templates.{holes-number, holes-byte, filled-number, filled-byte}
use Rattle.text.proofs.Puts.{Putting, none-put, one-put, rest_put}

-- bytes that stand for themselves
filled-plain : (p t ns s : List ℕ) → holes p ≡ 0 → filled (p ++ t) ns s ≡ p ++ filled t ns s
filled-plain [] t ns s h = refl
filled-plain (b ∷ p) t ns s h =
    by_test (capital b)
    (λ e. absurd (omega (arith, holes-number b p e)))
    (λ e. filled-byte b (p ++ t) e ns s ∙ rw (filled-plain p t ns s (sym (holes-byte b p e) ∙ h)))

filled-all : (p ns s : List ℕ) → holes p ≡ 0 → filled p ns s ≡ p ++ s
unfolding filled
filled-all p ns s h = ap (λ (t : List ℕ). filled t ns s) (sym (append-nil p)) ∙ filled-plain p [] ns s h

-- the bytes after a template stay after it
pub filled-append : (t ns s : List ℕ) → filled t ns s ≡ filled t ns [] ++ s
unfolding filled
filled-append [] ns s = refl
filled-append (b ∷ t) ns s =
    by_test (capital b)
    (λ e.
    filled-number b t e ns s
    ∙ rw (filled-append t (drop 1 ns) s, filled-number b t e ns [])
    (printed-append (get_or ns 0 0) (filled t (drop 1 ns) []) s))
    (λ e. filled-byte b t e ns s ∙ rw (filled-append t ns s, filled-byte b t e ns []))

-- The text w is put into the buffer d from the place `at` on: the buffer is d' now, and what is still to be put, from
-- the place `next` on, is the template t with the numbers ns from the place k on, before the bytes s.
pub record Piecing (w d : List ℕ) (at : ℕ) (d' : List ℕ) (next : ℕ) (ns s : List ℕ) (k : ℕ) (t : List ℕ) : Type 0 where
  pub putting : Putting d at w d' next (filled t (drop k ns) s)

pub none_pieced : (d : List ℕ) (at : ℕ) (ns s : List ℕ) (k : ℕ) (t : List ℕ)
    → Piecing (filled t (drop k ns) s) d at d at ns s k t
none_pieced d at ns s k t = record { putting = none-put d at (filled t (drop k ns) s) }

module _ {w d d' ns s : List ℕ} {at next k : ℕ} where
  -- a piece and the number after it are put
  pub field_put : (p : List ℕ) (c : ℕ) (t : List ℕ) → Piecing w d at d' next ns s k (p ++ (c ∷ t))
      → holes p ≡ 0 → true ≡ capital c → {d'' : List ℕ} {end : ℕ} → Put d' next (p ++ digits (get_or ns k 0)) d'' end
      → (m : ℕ) → m ≡ k + 1 → Piecing w d at d'' end ns s m t
  field_put p c t g h e q m f = record {
    putting =
        one-put g.putting (p ++ digits (get_or ns k 0)) (filled t (drop m ns) s)
        (filled-plain p (c ∷ t) (drop k ns) s h
        ∙ rw (f, filled-number c t e (drop k ns) s, get_or-drop, add-zero, drop-drop)
        (ap (λ (l : List ℕ). p ++ l) (printed-append (get_or ns k 0) [] (filled t (drop (k + 1) ns) s))
        ∙ sym (append_assoc p (digits (get_or ns k 0)) (filled t (drop (k + 1) ns) s))))
        q;
  }

  -- a piece is put
  pub piece_put : (p t : List ℕ) → Piecing w d at d' next ns s k (p ++ t) → holes p ≡ 0
      → {d'' : List ℕ} {end : ℕ} → Put d' next p d'' end → Piecing w d at d'' end ns s k t
  piece_put p t g h q = record {
    putting = one-put g.putting p (filled t (drop k ns) s) (filled-plain p t (drop k ns) s h) q;
  }

  -- what is left of the template is put, with the bytes after it
  pub rest_pieced : {t : List ℕ} → Piecing w d at d' next ns s k t → {d'' : List ℕ} {end : ℕ}
      → Put d' next (filled t (drop k ns) s) d'' end → Put d at w d'' end
  rest_pieced g q = rest_put g.putting q

  pub last-put : (p : List ℕ) → Piecing w d at d' next ns s k p → holes p ≡ 0
      → {d'' : List ℕ} {end : ℕ} → Put d' next (p ++ s) d'' end → Put d at w d'' end
  last-put p g h q = rest_pieced g (rw (filled-all p (drop k ns) s h) q)
