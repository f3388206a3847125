-- The parts of an event form: what their readers answer, and what the answers say of the line.
-- Assumes nothing.
use mathlib.Core.Path.{◌≡◌, refl, sym, ap, ◌∙◌}
use mathlib.Core.Bool.{Bool, true, false}
use mathlib.Core.List.{List, [], ◌∷◌}
use Rattle.std.specs.Prelude.{Option, None, Some}
use Prim.Native.Nat.{ℕ, ◌+◌, ◌-◌, ◌≤◌, ◌<◌}
use native.Mathlib.Omega.{arith}
use borrow.Author.Tests.{eq-eqb, ne_eqb}
use lib.Dec.{eqb, lit<}
use lib.ListN.{length, drop, get_or, length-drop}
use Rattle.text.specs.Begin.{begins, Stands}
use Rattle.text.specs.Bytes.{bytes}
use Rattle.text.specs.Number.{digit_of, number, number_at}
use Rattle.text.specs.Template.{capital, holes, matched}
use Rattle.text.specs.Word.{BytesAt}
use Rattle.text.proofs.Ascii.{all-bytes}
use Rattle.text.proofs.Begins.{bytes_begin, matched-short, matched-other-beginning, fixed_read, byte-read, byte-other}
use Rattle.text.proofs.Begins.{word_of, number-read-on, number-within, number-none}
use Rattle.text.proofs.Digits.{digit-below, found, number-digit, read-other}
use Rattle.treaty.specs.declared.Loss.{Loss}
use Rattle.treaty.specs.Treaty.{loss_of}
use Rattle.events.specs.Event.{event_text, loss_text}
use Rattle.events.specs.Form.{head_of, loss_at, loss_form_from, amounts_at}

-- what is left after a place begins there
place_of : (s : List ℕ) (next : ℕ) → next ≤ length s → length s - length (drop next s) ≡ next
place_of s next h = omega (arith, length-drop next s)

-- the fixed bytes that the two forms begin with
abbrev event_bytes : List ℕ
event_bytes = bytes "(event "

abbrev loss_bytes : List ℕ
loss_bytes = bytes " (loss "

event-plain : holes event_bytes ≡ 0
unfolding holes capital
event-plain = refl

loss-plain : holes loss_bytes ≡ 0
unfolding holes capital
loss-plain = refl

-- the beginning of a line
module _ (s : List ℕ) where
  head_none : matched [] event_text s ≡ None → None ≡ head_of s
  unfolding head_of
  head_none e = rw e

  pub head_short : length s < 8 → None ≡ head_of s
  head_short l = head_none (matched-short event_bytes 68 [] [] s event-plain (omega arith))

  module _ (h : 8 ≤ length s) (w : ℕ) (b : BytesAt s 0 7 w) where
    head_begins : eqb w (word_of event_bytes) ≡ begins event_bytes s
    head_begins = bytes_begin event_bytes s 0 w (all-bytes event_bytes refl) (omega arith) b

    pub head_other : (w ≡ word_of event_bytes → ⊥) → None ≡ head_of s
    head_other n =
        head_none
        (matched-other-beginning event_bytes (68 ∷ []) [] s event-plain (sym head_begins ∙ ne_eqb _ _ n))

    module _ (e : w ≡ word_of event_bytes) (r : Option (ℕ × ℕ)) (q : r ≡ number_at s 7) where
      day-left : matched [] event_text s ≡ matched [] (68 ∷ []) (drop 7 s)
      day-left =
          fixed_read s 0 (matched [] event_text s) [] event_bytes (68 ∷ []) event-plain refl
          (sym head_begins ∙ eq-eqb _ _ e)

      pub head_read : r ≡ head_of s
      unfolding head_of capital matched
      head_read = by_day r refl
        where
          by_day : (x : Option (ℕ × ℕ)) → r ≡ x → r ≡ head_of s
          by_day None z = z ∙ head_none (number-none s 7 _ [] 68 [] day-left refl r q z)
          by_day (Some p) z =
              let read =
              number-read-on s 7 (matched [] event_text s) [] 68 [] day-left refl r q (omega arith) p.0 p.1 z in
              let within =
              number-within s 7 (matched [] event_text s) [] 68 [] day-left refl r q (omega arith) p.0 p.1 z in
              z ∙ rw (read, place_of s p.1 within)

-- a number of one digit, before a space
pub treaty-one : (s : List ℕ) (at d : ℕ) → at + 1 < length s → d ≡ digit_of (get_or s at 0) → d < 10
    → get_or s (at + 1) 0 ≡ 32 → Some (d, at + 1) ≡ number_at s at
treaty-one s at d h e l b =
    found s at d (at + 1) (omega arith)
    (read-other s (at + 1) d (number (drop at s)) (number-digit s at d (omega arith) e l) _ h refl other)
  where
    other : 10 ≤ digit_of (get_or s (at + 1) 0)
    other = rw b (omega (arith, digit-below 32 (lit< tt)))

-- what is read of a loss form in all, as the answer
module _ (s : List ℕ) (o : Option (List ℕ × List ℕ)) where
  form-none : o ≡ None → None ≡ loss_form_from (length s) o
  form-none e = rw e

  form-done : (t m a next : ℕ) → next ≤ length s → o ≡ Some (t ∷ m ∷ a ∷ [], drop next s)
      → Some (loss_of t m a, next) ≡ loss_form_from (length s) o
  form-done t m a next h e = rw (e, place_of s next h)

-- A loss form from its second number on is read: o is what is read in all. The next number stands at `place`; it is
-- the maximum, or, after the maximum m, the last.
pub record Reading (s : List ℕ) (o : Option (List ℕ × List ℕ)) (t m place : ℕ) (last : Bool) : Type 0 where
  pub within : place ≤ length s
  pub first : last ≡ false → o ≡ matched (t ∷ []) (bytes "E G)") (drop place s)
  pub second : last ≡ true → o ≡ matched (t ∷ m ∷ []) (bytes "G)") (drop place s)

-- how many numbers come after the next one
abbrev pub after_this : Bool → ℕ
after_this true = 0
after_this false = 1

pub last-after : (last : Bool) → last ≡ false → after_this true < after_this last
last-after last e = rw e (lit< tt)

module _ (s : List ℕ) (t at : ℕ) where
  abbrev pub amounts : Option (List ℕ × List ℕ)
  amounts = matched (t ∷ []) (bytes "E G)") (drop at s)

  pub none_read : at ≤ length s → Reading s amounts t 0 at false
  none_read h = record {
    within = h;
    first = λ e. refl;
    second = λ e. let z : ◌≡◌ {A = ℕ} 0 1 = cc in absurd (omega arith);
  }

  module _ (m place : ℕ) (last : Bool) (g : Reading s amounts t m place last) (r : Option (ℕ × ℕ))
      (q : r ≡ number_at s place) where
    pub no-amount : r ≡ None → None ≡ amounts_at s t at
    unfolding amounts_at capital
    no-amount z = form-none s amounts (by_last last refl)
      where
        by_last : (l : Bool) → last ≡ l → amounts ≡ None
        by_last true e = number-none s place amounts (t ∷ m ∷ []) 71 (bytes ")") (g.second e) refl r q z
        by_last false e = number-none s place amounts (t ∷ []) 69 (bytes " G)") (g.first e) refl r q z

    module _ (v next : ℕ) (z : r ≡ Some (v, next)) (f : Bool) where
      -- the maximum, with the space after it
      module _ (e : last ≡ false) (b : Stands s next 32 f) where
        maximum_left : amounts ≡ matched (t ∷ v ∷ []) (bytes " G)") (drop next s)
        unfolding capital
        maximum_left =
            number-read-on s place amounts (t ∷ []) 69 (bytes " G)") (g.first e) refl r q g.within v next z

        pub maximum_read : f ≡ true → Reading s amounts t v (next + 1) true
        unfolding holes capital
        maximum_read y = record {
          within = omega (arith, b.within y);
          first = λ e. let z : ◌≡◌ {A = ℕ} 0 1 = cc in absurd (omega arith);
          second = λ e. byte-read s next amounts (t ∷ v ∷ []) 32 (bytes "G)") maximum_left refl f b y;
        }

        pub maximum_unended : f ≡ false → None ≡ amounts_at s t at
        unfolding amounts_at holes capital
        maximum_unended y =
            form-none s amounts (byte-other s next amounts (t ∷ v ∷ []) 32 (bytes "G)") maximum_left refl f b y)

      -- the amount, with the bracket after it
      module _ (e : last ≡ true) (b : Stands s next 41 f) where
        amount-left : amounts ≡ matched (t ∷ m ∷ v ∷ []) (bytes ")") (drop next s)
        unfolding capital
        amount-left =
            number-read-on s place amounts (t ∷ m ∷ []) 71 (bytes ")") (g.second e) refl r q g.within v next z

        pub amount-read : f ≡ true → Some (loss_of t m v, next + 1) ≡ amounts_at s t at
        unfolding amounts_at holes capital matched
        amount-read y =
            form-done s amounts t m v (next + 1) (omega (arith, b.within y))
            (byte-read s next amounts (t ∷ m ∷ v ∷ []) 41 [] amount-left refl f b y)

        pub amount-unended : f ≡ false → None ≡ amounts_at s t at
        unfolding amounts_at holes capital
        amount-unended y =
            form-none s amounts (byte-other s next amounts (t ∷ m ∷ v ∷ []) 41 [] amount-left refl f b y)

-- a loss form
module _ (s : List ℕ) (at : ℕ) where
  loss-none : matched [] loss_text (drop at s) ≡ None → None ≡ loss_at s at
  unfolding loss_at
  loss-none e = rw e

  pub loss-short : length s - at < 8 → None ≡ loss_at s at
  loss-short l =
      let short : length (drop at s) ≤ 7 = omega (arith, length-drop at s) in
      loss-none (matched-short loss_bytes 84 (bytes " E G)") [] (drop at s) loss-plain short)

  module _ (h : 8 ≤ length s - at) (w : ℕ) (b : BytesAt s at 7 w) where
    loss-begins : eqb w (word_of loss_bytes) ≡ begins loss_bytes (drop at s)
    loss-begins = bytes_begin loss_bytes s at w (all-bytes loss_bytes refl) (omega arith) b

    pub loss-other : (w ≡ word_of loss_bytes → ⊥) → None ≡ loss_at s at
    loss-other n =
        loss-none
        (matched-other-beginning loss_bytes (bytes "T E G)") [] (drop at s) loss-plain (sym loss-begins ∙ ne_eqb _ _ n))

    module _ (e : w ≡ word_of loss_bytes) (r : Option (ℕ × ℕ)) (q : r ≡ number_at s (at + 7)) where
      treaty-left : matched [] loss_text (drop at s) ≡ matched [] (bytes "T E G)") (drop (at + 7) s)
      treaty-left =
          fixed_read s at (matched [] loss_text (drop at s)) [] loss_bytes (bytes "T E G)") loss-plain refl
          (sym loss-begins ∙ eq-eqb _ _ e)

      pub no-treaty : r ≡ None → None ≡ loss_at s at
      unfolding capital
      no-treaty z = loss-none (number-none s (at + 7) _ [] 84 (bytes " E G)") treaty-left refl r q z)

      module _ (t next : ℕ) (z : r ≡ Some (t, next)) (f : Bool) (g : Stands s next 32 f) where
        amounts-left : matched [] loss_text (drop at s) ≡ matched (t ∷ []) (bytes " E G)") (drop next s)
        unfolding capital
        amounts-left =
            number-read-on s (at + 7) (matched [] loss_text (drop at s)) [] 84 (bytes " E G)") treaty-left refl r q
            (omega arith) t next z

        pub treaty-unended : f ≡ false → None ≡ loss_at s at
        unfolding holes capital
        treaty-unended y =
            loss-none (byte-other s next _ (t ∷ []) 32 (bytes "E G)") amounts-left refl f g y)

        pub treaty-read : f ≡ true → (a : Option (Loss × ℕ)) → a ≡ amounts_at s t (next + 1) → a ≡ loss_at s at
        unfolding amounts_at loss_at holes capital
        treaty-read y a i =
            let left = byte-read s next _ (t ∷ []) 32 (bytes "E G)") amounts-left refl f g y in
            i ∙ ap (loss_form_from (length s)) (sym left)
