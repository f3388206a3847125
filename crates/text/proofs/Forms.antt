-- Templates and the texts they print: a printed line is read back, what is read prints as it stood, and texts that are
-- printed alike have the same numbers.
-- Assumes nothing.
use Rattle.std.proofs.Common.{◌≡◌, ℕ, suc, ◌+◌, ◌*◌, ◌/◌, ◌%◌, ◌<◌, Bool, true, false, not, ◌&&◌, ltb, leb, List, [], ◌∷◌, ◌++◌, length, get_or, drop, sym, refl, ap, ◌∙◌, append_assoc, append-nil, arith, lit≤, le-ltb, lt-ltb, leb-true}
use Rattle.std.specs.Prelude.{Option, None, Some}
use Rattle.lists.specs.Each.{Each}
use Rattle.lists.proofs.Chains.{both}
use Rattle.lists.proofs.Cases.{by_test, by-eq}
use Rattle.text.specs.Number.{printed, digit_of, number}
use Rattle.text.specs.Template.{capital, holes, filled, matched, whole_of, line_numbers}
use Rattle.text.proofs.Printing.{by_digits, printed-one, printed-more, printed-append}
use Rattle.text.proofs.Digits.{Readable, Ended, digit_of_lem, number-printed, number_read}
use Rattle.text.proofs.Templates.{holes-number, holes-byte, filled-number, filled-byte}
use Rattle.text.proofs.Templates.{matched-number, matched-no-number, matched-same, matched-other}

-- a template begins with no number and no digit
unfoldable pub parted : List ℕ → Bool
parted [] = true
parted (b ∷ t) = not (capital b) && leb 10 (digit_of b)

-- no number and no digit follows a number of a template
unfoldable pub separated : List ℕ → Bool
separated [] = true
separated (b ∷ t) = elim (capital b) [ true ↦ parted t | false ↦ true ] && separated t

separated-number : (b : ℕ) (t : List ℕ) → true ≡ capital b → separated (b ∷ t) ≡ (parted t && separated t)
unfolding separated
separated-number b t e = simp (separated, ← e)

separated-byte : (b : ℕ) (t : List ℕ) → false ≡ capital b → separated (b ∷ t) ≡ separated t
unfolding separated
separated-byte b t e = simp (separated, ← e)

module _ (b : ℕ) (t : List ℕ) (g : separated (b ∷ t) ≡ true) where
  after-number : true ≡ capital b → parted t ≡ true
  after-number e = (both (parted t) (separated t) (sym (separated-number b t e) ∙ g)).0

  separated-tail : separated t ≡ true
  separated-tail =
      by_test (capital b)
      (λ e. (both (parted t) (separated t) (sym (separated-number b t e) ∙ g)).1)
      (λ e. sym (separated-byte b t e) ∙ g)

-- what a separated template prints after a number begins with no digit
pub parted-ended : (t ns s : List ℕ) → parted t ≡ true → Ended s → Ended (filled t ns s)
unfolding filled parted
parted-ended [] ns s g h = h
parted-ended (b ∷ t) ns s g h =
    by_test (capital b)
    (λ e. let z : ◌≡◌ {A = ℕ} 0 1 = cc (simp (parted, ← e) at g) in absurd (omega arith))
    (λ e. simp (filled, ← e) (leb-true 10 (digit_of b) (simp (parted, ← e) at g)))

-- a printed template is read back, with what stands after it
pub matched-filled : (t ns before s : List ℕ) → separated t ≡ true → length ns ≡ holes t → Each Readable ns → Ended s
    → matched before t (filled t ns s) ≡ Some (before ++ ns, s)
unfolding filled matched holes
matched-filled [] [] before s g l z h = rw append-nil
matched-filled [] (n ∷ ns) before s g l z h = absurd (omega arith)
matched-filled (b ∷ t) [] before s g l z h =
    by_test (capital b)
    (λ e. absurd (omega (arith, holes-number b t e)))
    (λ e. rw (filled-byte b t e [] s)
    (matched-same b t e before b _ refl
    ∙ matched-filled t [] before s (separated-tail b t g) (l ∙ holes-byte b t e) z h))
matched-filled (b ∷ t) (n ∷ ns) before s g l z h =
    by_test (capital b)
    (λ e. rw (filled-number b t e (n ∷ ns) s)
    (matched-number b t e before _ _ n
    (number-printed n (filled t ns s) z.0 (parted-ended t ns s (after-number b t g e) h))
    ∙ matched-filled t ns (before ++ (n ∷ [])) s (separated-tail b t g) (omega (arith, holes-number b t e))
    z.1 h
    ∙ rw append_assoc))
    (λ e. rw (filled-byte b t e (n ∷ ns) s)
    (matched-same b t e before b _ refl
    ∙ matched-filled t (n ∷ ns) before s (separated-tail b t g) (l ∙ holes-byte b t e) z h))

-- the text x is the template t with numbers in it and s after it; all are these numbers after the numbers before
pub record Form (before t x all s : List ℕ) : Type 0 where
  pub numbers : List ℕ
  pub read : all ≡ before ++ numbers
  pub text : x ≡ filled t numbers s
  pub count : length numbers ≡ holes t
  pub readable : Each Readable numbers

-- what is read of the text x, if anything, prints as x
abbrev Forms : List ℕ → List ℕ → List ℕ → Option (List ℕ × List ℕ) → Type 0
Forms before t x None = Unit {0}
Forms before t x (Some p) = Form before t x p.0 p.1

-- one byte of the template more
number-first : (before t x y : List ℕ) (b n : ℕ) → true ≡ capital b → x ≡ printed n y → Readable n
    → (o : Option (List ℕ × List ℕ)) → Forms (before ++ (n ∷ [])) t y o → Forms before (b ∷ t) x o
number-first before t x y b n e q l None f = tt
number-first before t x y b n e q l (Some p) f = record {
  numbers = n ∷ f.numbers;
  read = f.read ∙ append_assoc before (n ∷ []) f.numbers;
  text = q ∙ ap (printed n) f.text ∙ sym (filled-number b t e (n ∷ f.numbers) p.1);
  count = ap suc f.count ∙ sym (holes-number b t e);
  readable = (l, f.readable);
}

byte-first : (before t x : List ℕ) (b : ℕ) → false ≡ capital b
    → (o : Option (List ℕ × List ℕ)) → Forms before t x o → Forms before (b ∷ t) (b ∷ x) o
byte-first before t x b e None f = tt
byte-first before t x b e (Some p) f = record {
  numbers = f.numbers;
  read = f.read;
  text = ap (λ (y : List ℕ). b ∷ y) f.text ∙ sym (filled-byte b t e f.numbers p.1);
  count = f.count ∙ sym (holes-byte b t e);
  readable = f.readable;
}

matched-forms : (t before x : List ℕ) → Forms before t x (matched before t x)
unfolding matched filled holes
matched-forms [] before x = record {
  numbers = [];
  read = sym (append-nil before);
  text = refl;
  count = refl;
  readable = tt;
}
matched-forms (b ∷ t) before [] = tt
matched-forms (b ∷ t) before (a ∷ x) =
    by_test (capital b)
    (λ e. on-number e (number (a ∷ x)) refl (λ ns y. matched-forms t ns y))
    (λ e. on-byte e (matched-forms t before x))
  where
    on-number : true ≡ capital b → (o : Option (ℕ × List ℕ)) → number (a ∷ x) ≡ o
        → ((ns y : List ℕ) → Forms ns t y (matched ns t y))
        → Forms before (b ∷ t) (a ∷ x) (matched before (b ∷ t) (a ∷ x))
    on-number e None h ih = rw (matched-no-number b t e before (a ∷ x) h) tt
    on-number e (Some p) h ih =
        let r = number_read (a ∷ x) p.0 p.1 h in
        let ns = before ++ (p.0 ∷ []) in
        rw (matched-number b t e before (a ∷ x) p.1 p.0 h)
        (number-first before t (a ∷ x) p.1 b p.0 e r.0 r.1 (matched ns t p.1) (ih ns p.1))

    on-byte : false ≡ capital b → Forms before t x (matched before t x)
        → Forms before (b ∷ t) (a ∷ x) (matched before (b ∷ t) (a ∷ x))
    on-byte e ih =
        by-eq b a
        (λ h. rw (matched-same b t e before a x h, ← h) (byte-first before t x b e (matched before t x) ih))
        (λ h. rw (matched-other b t e before a x h) tt)

-- what is read by a template prints as it stood
pub matched-read : (t before x all s : List ℕ) → matched before t x ≡ Some (all, s) → Form before t x all s
matched-read t before x all s e = rw e at (matched-forms t before x)

whole-read : (o : Option (List ℕ × List ℕ)) (ns : List ℕ) → whole_of o ≡ Some ns → o ≡ Some (ns, [])
unfolding whole_of
whole-read None ns e = let z : ◌≡◌ {A = ℕ} 0 1 = cc in absurd (omega arith)
whole-read (Some (ms, [])) ns e = cc
whole-read (Some (ms, b ∷ s)) ns e = let z : ◌≡◌ {A = ℕ} 0 1 = cc in absurd (omega arith)

-- a line that a template reads has nothing after the template
pub line-matched : (t s ns : List ℕ) → line_numbers t s ≡ Some ns → matched [] t s ≡ Some (ns, [])
unfolding line_numbers
line-matched t s ns e = whole-read (matched [] t s) ns e

-- a line that a template reads is the template printed with the numbers read
pub line_read : (t s ns : List ℕ) → line_numbers t s ≡ Some ns
    → (s ≡ filled t ns []) × (length ns ≡ holes t) × Each Readable ns
line_read t s ns e =
    let f = matched-read t [] s ns [] (line-matched t s ns e) in
    let q : ns ≡ f.numbers = f.read in
    rw q (f.text, f.count, f.readable)

-- a separated template that is printed with readable numbers is read back
pub line-printed : (t ns : List ℕ) → separated t ≡ true → length ns ≡ holes t → Each Readable ns
    → line_numbers t (filled t ns []) ≡ Some ns
unfolding line_numbers whole_of
line-printed t ns g l z = rw (matched-filled t ns [] [] g l z tt)

-- the digits at the front of a text after the digits of v, read without a limit, and what is left: the inverse of
-- `printed`
unfoldable value : ℕ → List ℕ → ℕ × List ℕ
value v [] = (v, [])
value v (b ∷ s) = elim (ltb (digit_of b) 10) [ true ↦ value (v * 10 + digit_of b) s | false ↦ (v, b ∷ s) ]

value-cons : (v d : ℕ) (s : List ℕ) → d < 10 → value v ((48 + d) ∷ s) ≡ value (v * 10 + d) s
unfolding value
value-cons v d s l = simp (value, digit_of_lem d l, lt-ltb _ _ l)

value-printed : (n : ℕ) (s : List ℕ) → value 0 (printed n s) ≡ value n s
value-printed =
    by_digits (λ n. (s : List ℕ) → value 0 (printed n s) ≡ value n s)
    (λ n l s. simp (printed-one n s l, value-cons 0 n s l) (ap (λ (m : ℕ). value m s) (after_none n)))
    (λ n l ih s. simp (printed-more n s l)
    (ih _ ∙ value-cons (n / 10) (n % 10) s (omega arith) ∙ ap (λ (m : ℕ). value m s) (after-all n)))
  where
    after_none : (n : ℕ) → 0 * 10 + n ≡ n
    after_none n = omega arith

    after-all : (n : ℕ) → n / 10 * 10 + n % 10 ≡ n
    after-all n = omega arith

value-ended : (n : ℕ) (s : List ℕ) → Ended s → value n s ≡ (n, s)
unfolding value
value-ended n [] h = refl
value-ended n (b ∷ s) h = simp (value, le-ltb _ _ h)

-- numbers that are printed alike are the same, and so is the text after them, whatever their size
pub printed_injective : (n m : ℕ) (s s' : List ℕ) → Ended s → Ended s' → printed n s ≡ printed m s'
    → (n ≡ m) × (s ≡ s')
printed_injective n m s s' h h' e =
    let q : ◌≡◌ {A = ℕ × List ℕ} (n, s) (m, s') =
    sym (value-printed n s ∙ value-ended n s h) ∙ ap (value 0) e ∙ value-printed m s' ∙ value-ended m s' h' in
    (ap (λ (p : ℕ × List ℕ). p.0) q, ap (λ (p : ℕ × List ℕ). p.1) q)

-- printed templates that are the same text have the same numbers, and the same text after them
pub filled_injective : (t ns ms s s' : List ℕ) → separated t ≡ true → length ns ≡ holes t → length ms ≡ holes t
    → Ended s → Ended s' → filled t ns s ≡ filled t ms s' → (ns ≡ ms) × (s ≡ s')
unfolding filled holes
filled_injective [] [] [] s s' g l l' h h' q = (refl, q)
filled_injective [] [] (m ∷ ms) s s' g l l' h h' q = absurd (omega arith)
filled_injective [] (n ∷ ns) ms s s' g l l' h h' q = absurd (omega arith)
filled_injective (b ∷ t) ns ms s s' g l l' h h' q =
    by_test (capital b)
    (λ e. on-number e ns ms (l ∙ holes-number b t e) (l' ∙ holes-number b t e)
    (sym (filled-number b t e ns s) ∙ q ∙ filled-number b t e ms s')
    (λ xs ys. filled_injective t xs ys s s' (separated-tail b t g)))
    (λ e. filled_injective t ns ms s s' (separated-tail b t g) (l ∙ holes-byte b t e) (l' ∙ holes-byte b t e) h h'
    (tail-same b _ _ (sym (filled-byte b t e ns s) ∙ q ∙ filled-byte b t e ms s')))
  where
    tail-same : (a : ℕ) (x y : List ℕ) → ◌≡◌ {A = List ℕ} (a ∷ x) (a ∷ y) → x ≡ y
    tail-same a x y r = cc

    on-number : true ≡ capital b → (ns ms : List ℕ) → length ns ≡ suc (holes t) → length ms ≡ suc (holes t)
        → printed (get_or ns 0 0) (filled t (drop 1 ns) s) ≡ printed (get_or ms 0 0) (filled t (drop 1 ms) s')
        → ((xs ys : List ℕ) → length xs ≡ holes t → length ys ≡ holes t → Ended s → Ended s'
        → filled t xs s ≡ filled t ys s' → (xs ≡ ys) × (s ≡ s'))
        → (ns ≡ ms) × (s ≡ s')
    on-number e [] ms k k' r ih = absurd (omega arith)
    on-number e (n ∷ ns) [] k k' r ih = absurd (omega arith)
    on-number e (n ∷ ns) (m ∷ ms) k k' r ih =
        let p = parted-ended t ns s (after-number b t g e) h in
        let p' = parted-ended t ms s' (after-number b t g e) h' in
        let w = printed_injective n m (filled t ns s) (filled t ms s') p p' r in
        let v = ih ns ms (omega arith) (omega arith) h h' w.1 in
        (rw (w.0, v.0), v.1)

-- bytes after the template stay after it
pub filled-append : (t ns s s' : List ℕ) → filled t ns (s ++ s') ≡ filled t ns s ++ s'
unfolding filled
filled-append [] ns s s' = refl
filled-append (b ∷ t) ns s s' =
    by_test (capital b)
    (λ e. simp (filled, ← e, filled-append t (drop 1 ns) s s', printed-append))
    (λ e. simp (filled, ← e, filled-append t ns s s'))

-- two lines of one template that begin the same text have the same numbers, and the same text after them
pub line_injective : (t ns ms s s' : List ℕ) → separated t ≡ true → length ns ≡ holes t → length ms ≡ holes t
    → filled t ns [] ++ (10 ∷ s) ≡ filled t ms [] ++ (10 ∷ s') → (ns ≡ ms) × (s ≡ s')
unfolding digit_of
line_injective t ns ms s s' g l l' e =
    let f =
    filled_injective t ns ms (10 ∷ s) (10 ∷ s') g l l' (lit≤ tt) (lit≤ tt)
    (filled-append t ns [] (10 ∷ s) ∙ e ∙ sym (filled-append t ms [] (10 ∷ s'))) in
    (f.0, ap (drop 1) f.1)
