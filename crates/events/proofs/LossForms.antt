-- A line read in parts: its day, then loss form after loss form, then the bracket that ends it. What is ahead gives
-- the whole event.
-- Assumes nothing.
use mathlib.Core.Path.{◌≡◌, refl, sym, ap, ◌∙◌}
use mathlib.Core.Bool.{true, false}
use mathlib.Core.List.{List, [], ◌∷◌, ◌++◌}
use Rattle.std.specs.Prelude.{Option, None, Some}
use Rattle.std.proofs.lemmas.Option.{none-some, same_Some}
use Prim.Native.Nat.{ℕ, zero, suc, ◌+◌, ◌-◌, ◌≤◌, ◌<◌}
use native.Mathlib.Omega.{arith}
use lib.ListN.{length, drop, get_or, length-drop, length-append}
use Rattle.text.specs.Template.{eight, matched, matched_at}
use Rattle.text.proofs.Lengths.{filled-long}
use Rattle.text.proofs.Forms.{matched-read}
use Rattle.text.proofs.Matching.{match_found}
use Rattle.treaty.specs.declared.Loss.{Loss}
use Rattle.events.specs.Event.{event_text, loss_text, loss_from, closes, losses_up_to, dated_on, event_of}
use Rattle.events.specs.Form.{head_of, loss_at}

-- a template read at a place of a text: what is left begins at a later place
record Taken (t s : List ℕ) (at : ℕ) (p : List ℕ × List ℕ) (next : ℕ) : Type 0 where
  rest : p.1 ≡ drop next s
  within : next ≤ length s
  past : at + length t ≤ next

taken : (t s : List ℕ) (at : ℕ) (p : List ℕ × List ℕ) → at ≤ length s → matched [] t (drop at s) ≡ Some p
    → Taken t s at p (length s - length p.1)
unfolding matched_at
taken t s at p h e =
    let f = match_found t s at (record { end = length s - length p.1; values = eight p.0 }) h (rw e) in
    let same : Some p ≡ Some (f.numbers, drop (length s - length p.1) s) = sym e ∙ f.read in
    let form = matched-read t [] (drop at s) p.0 p.1 e in
    record {
      rest = cc;
      within = f.within;
      past = omega (arith, ap length (form).text, filled-long t (form).numbers p.1, length-drop at s);
    }

-- after the losses xs, which end at `place` of the line, whose day is d; `left` is more than the bytes that are left
pub record Ahead (line : List ℕ) (d : ℕ) (xs : List Loss) (place : ℕ) : Type 0 where
  pub within : place ≤ length line
  pub begun : 8 + length xs ≤ place
  pub left : ℕ
  pub enough : length line < place + left
  pub form : event_of line ≡ dated_on d (losses_up_to left xs (drop place line))

module _ (line : List ℕ) (h : Option (ℕ × ℕ)) (q : h ≡ head_of line) where
  -- a line that begins otherwise is no event form
  pub no-event : h ≡ None → event_of line ≡ None
  unfolding head_of event_of
  no-event y = by_read (matched [] event_text line) refl
    where
      by_read : (o : Option (List ℕ × List ℕ)) → matched [] event_text line ≡ o → event_of line ≡ None
      by_read None e = simp (event_of, e)
      by_read (Some p) e =
          absurd (none-some {A = ℕ × ℕ} (get_or p.0 0 0, length line - length p.1) (sym y ∙ q ∙ rw e))

  -- before the first loss form
  pub none_ahead : (d next : ℕ) → h ≡ Some (d, next) → Ahead line d [] next
  unfolding head_of event_of
  none_ahead d next y = by_read (matched [] event_text line) refl
    where
      by_read : (o : Option (List ℕ × List ℕ)) → matched [] event_text line ≡ o → Ahead line d [] next
      by_read None e =
          absurd (none-some {A = ℕ × ℕ} (d, next) (sym (sym y ∙ q ∙ rw e)))
      by_read (Some p) e =
          let both : ◌≡◌ {A = ℕ × ℕ} (d, next) (get_or p.0 0 0, length line - length p.1) =
          same_Some _ _ (sym y ∙ q ∙ rw e) in
          let place : length line - length p.1 ≡ next = sym (ap (λ (x : ℕ × ℕ). x.1) both) in
          let day : get_or p.0 0 0 ≡ d = sym (ap (λ (x : ℕ × ℕ). x.0) both) in
          let t = taken event_text line 0 p (omega arith) e in
          record {
            within = omega (arith, t.within);
            begun = omega (arith, t.past);
            left = suc (length p.1);
            enough = omega (arith, t.within, ap length t.rest, length-drop (length line - length p.1) line);
            form =
                simp (event_of, e, day)
                (ap (λ (s : List ℕ). dated_on d (losses_up_to (suc (length p.1)) [] s))
                (t.rest ∙ ap (λ (k : ℕ). drop k line) place));
          }

-- what is left of a line, by whether it is the bracket alone and what loss form it begins with
module _ (left : ℕ) (xs : List Loss) (s : List ℕ) where
  ends : closes s ≡ true → 0 < left → losses_up_to left xs s ≡ Some xs
  unfolding losses_up_to
  ends c h = by_left left h
    where
      by_left : (k : ℕ) → 0 < k → losses_up_to k xs s ≡ Some xs
      by_left zero h = absurd (omega arith)
      by_left (suc k) h = simp (losses_up_to, c)

  breaks : closes s ≡ false → matched [] loss_text s ≡ None → losses_up_to left xs s ≡ None
  unfolding losses_up_to
  breaks c e = by_left left
    where
      by_left : (k : ℕ) → losses_up_to k xs s ≡ None
      by_left zero = refl
      by_left (suc k) = simp (losses_up_to, c, e)

  goes_on : closes s ≡ false → (p : List ℕ × List ℕ) → matched [] loss_text s ≡ Some p → 0 < left
      → losses_up_to left xs s ≡ losses_up_to (left - 1) (xs ++ (loss_from p.0 ∷ [])) p.1
  unfolding losses_up_to
  goes_on c p e h = by_left left h
    where
      by_left : (k : ℕ) → 0 < k → losses_up_to k xs s ≡ losses_up_to (k - 1) (xs ++ (loss_from p.0 ∷ [])) p.1
      by_left zero h = absurd (omega arith)
      by_left (suc k) h = let n : suc k - 1 ≡ k = omega arith in simp (losses_up_to, c, e, n)

-- a loss form has 13 bytes or more
pub loss-place : (s : List ℕ) (at : ℕ) → at ≤ length s → (f : Option (Loss × ℕ)) → f ≡ loss_at s at → (x : Loss) (next : ℕ)
    → f ≡ Some (x, next) → (at + 13 ≤ next) × (next ≤ length s)
unfolding loss_at
loss-place s at h f q x next y = by_read (matched [] loss_text (drop at s)) refl
  where
    by_read : (o : Option (List ℕ × List ℕ)) → matched [] loss_text (drop at s) ≡ o
        → (at + 13 ≤ next) × (next ≤ length s)
    by_read None e =
        absurd (none-some {A = Loss × ℕ} (x, next) (sym (sym y ∙ q ∙ rw e)))
    by_read (Some p) e =
        let both : ◌≡◌ {A = Loss × ℕ} (x, next) (loss_from p.0, length s - length p.1) =
        same_Some _ _ (sym y ∙ q ∙ rw e) in
        let end : length s - length p.1 ≡ next = sym (ap (λ (x : Loss × ℕ). x.1) both) in
        let t = taken loss_text s at p h e in
        (omega (arith, t.past), omega (arith, t.within))

module _ (line : List ℕ) (d : ℕ) (xs : List Loss) (place : ℕ) (g : Ahead line d xs place) where
  some_left : 0 < g.left
  some_left = omega (arith, g.within, g.enough)

  -- where the bracket is not all that is left
  module _ (more : closes (drop place line) ≡ false) (f : Option (Loss × ℕ)) (q : f ≡ loss_at line place) where
    -- bytes that are no loss form
    pub no-loss-form : f ≡ None → event_of line ≡ None
    unfolding loss_at
    no-loss-form y = by_read (matched [] loss_text (drop place line)) refl
      where
        by_read : (o : Option (List ℕ × List ℕ)) → matched [] loss_text (drop place line) ≡ o → event_of line ≡ None
        by_read None e =
            g.form ∙ ap (dated_on d) (breaks g.left xs (drop place line) more e)
        by_read (Some p) e =
            absurd (none-some {A = Loss × ℕ} (loss_from p.0, length line - length p.1) (sym y ∙ q ∙ rw e))

    -- one loss more
    pub one-ahead : (x : Loss) (next : ℕ) → f ≡ Some (x, next) → Ahead line d (xs ++ (x ∷ [])) next
    unfolding loss_at
    one-ahead x next y = by_read (matched [] loss_text (drop place line)) refl
      where
        by_read : (o : Option (List ℕ × List ℕ)) → matched [] loss_text (drop place line) ≡ o
            → Ahead line d (xs ++ (x ∷ [])) next
        by_read None e =
            absurd (none-some {A = Loss × ℕ} (x, next) (sym (sym y ∙ q ∙ rw e)))
        by_read (Some p) e =
            let both : ◌≡◌ {A = Loss × ℕ} (x, next) (loss_from p.0, length line - length p.1) =
            same_Some _ _ (sym y ∙ q ∙ rw e) in
            let same : loss_from p.0 ≡ x = sym (ap (λ (x : Loss × ℕ). x.0) both) in
            let end : length line - length p.1 ≡ next = sym (ap (λ (x : Loss × ℕ). x.1) both) in
            let t = taken loss_text line place p g.within e in
            let on = goes_on g.left xs (drop place line) more p e some_left in
            let onward : losses_up_to (g.left - 1) (xs ++ (loss_from p.0 ∷ [])) p.1
            ≡ losses_up_to (g.left - 1) (xs ++ (x ∷ [])) (drop next line) =
            rw (same, t.rest, end) in
            record {
              within = omega (arith, t.within);
              begun = omega (arith, t.past, g.begun, length-append xs (x ∷ []));
              left = g.left - 1;
              enough = omega (arith, t.past, g.enough, some_left);
              form = g.form ∙ ap (dated_on d) (on ∙ onward);
            }

  -- bytes that are neither the bracket alone nor a loss form
  pub broken_off : closes (drop place line) ≡ false → matched [] loss_text (drop place line) ≡ None
      → event_of line ≡ None
  broken_off more e = g.form ∙ ap (dated_on d) (breaks g.left xs (drop place line) more e)

  -- the bracket alone
  pub closed_off : closes (drop place line) ≡ true → event_of line ≡ Some (record { day = d; losses = xs })
  closed_off c = g.form ∙ ap (dated_on d) (ends g.left xs (drop place line) c some_left)
