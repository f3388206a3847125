-- A template that is read at a place of a text, byte by byte, and what the answers of its readers say.
-- Assumes nothing.
use Rattle.std.proofs.Common.{◌≡◌, ℕ, zero, suc, ◌+◌, ◌-◌, ◌<◌, ◌≤◌, Bool, true, false, List, [], ◌++◌, length, get_or, take, drop, set, replicate, sym, refl, ap, ◌∙◌, add-one, arith, length-append, length-drop, length-set, take-append-drop, drop_of_length-le, length-take-le, drop-cons, drop-drop, take-suc-set, drop-set-lt, drop_at}
use Rattle.std.specs.Prelude.{Option, None, Some, unwrap_or}
use Rattle.text.specs.Number.{digits, number, number_of, number_at}
use Rattle.text.specs.Template.{capital, holes, filled, matched}
use Rattle.text.specs.Template.{eight, matched_of, matched_at}
use Rattle.text.specs.Template.{whole_of, line_numbers, numbers_by}
use Rattle.text.specs.declared.template.Matched.{Matched}
use Rattle.text.proofs.Printing.{printed-append}
use Rattle.text.proofs.Digits.{number_read}
use Rattle.text.proofs.Templates.{holes-number, holes-byte}
use Rattle.text.proofs.Templates.{matched-number, matched-no-number, matched-same, matched-other}
use Rattle.text.proofs.Forms.{matched-read, filled-append}

-- what is left of a text after the word w at the place j begins at the place after w
pub rest_at : (s : List ℕ) (j : ℕ) (w y : List ℕ) → j ≤ length s → drop j s ≡ w ++ y → y ≡ drop (length s - length y) s
rest_at s j w y h e = sym (ap (λ (k : ℕ). drop k s) place ∙ sym (drop-drop (length w) j s) ∙ rw e (drop_at w y _ refl))
  where
    place : length s - length y ≡ j + length w
    place = omega (arith, length-drop j s, ap length e, length-append w y)

-- the answer of `number::read` and `number::read_short`, taken apart
pub number-found : (s : List ℕ) (j v next : ℕ) → j ≤ length s → Some (v, next) ≡ number_at s j
    → (number (drop j s) ≡ Some (v, drop next s)) × (next ≤ length s)
unfolding number_at
number-found s j v next h = by_read (number (drop j s)) refl
  where
    by_read : (o : Option (ℕ × List ℕ)) → number (drop j s) ≡ o
        → Some (v, next) ≡ number_of (length s) (number (drop j s))
        → (number (drop j s) ≡ Some (v, drop next s)) × (next ≤ length s)
    by_read None e q = let z : ◌≡◌ {A = ℕ} 0 1 = cc (rw e at q) in absurd (omega arith)
    by_read (Some p) e q =
        let r : ◌≡◌ {A = Option (ℕ × ℕ)} (Some (v, next)) (Some (p.0, length s - length p.1)) = rw e at q in
        let place : next ≡ length s - length p.1 = ap (λ (o : Option (ℕ × ℕ)). (unwrap_or o (0, 0)).1) r in
        let same : v ≡ p.0 = ap (λ (o : Option (ℕ × ℕ)). (unwrap_or o (0, 0)).0) r in
        let text = (number_read _ _ _ e).0 ∙ printed-append p.0 [] p.1 in
        (e ∙ rw (same, place, ← rest_at s j (digits p.0) p.1 h text), omega arith)

pub number-missing : (s : List ℕ) (j : ℕ) → None ≡ number_at s j → number (drop j s) ≡ None
unfolding number_at
number-missing s j = by_read (number (drop j s)) refl
  where
    by_read : (o : Option (ℕ × List ℕ)) → number (drop j s) ≡ o
        → None ≡ number_of (length s) (number (drop j s))
        → number (drop j s) ≡ None
    by_read None e q = e
    by_read (Some p) e q = let z : ◌≡◌ {A = ℕ} 0 1 = cc (rw e at q) in absurd (omega arith)

-- how many numbers are left at the place i of a template
module _ (t : List ℕ) (i : ℕ) (h : i < length t) where
  left-number : true ≡ capital (get_or t i 0) → holes (drop i t) ≡ holes (drop (i + 1) t) + 1
  left-number e = rw (drop-cons t i 0 h, add-one i, holes-number (get_or t i 0) (drop (suc i) t) e) (omega arith)

  left-byte : false ≡ capital (get_or t i 0) → holes (drop i t) ≡ holes (drop (i + 1) t)
  left-byte e = rw (drop-cons t i 0 h, add-one i) (holes-byte (get_or t i 0) (drop (suc i) t) e)

fewer : (n : ℕ) → drop {A = ℕ} 1 (replicate n 0) ≡ replicate (n - 1) 0
fewer zero = refl
fewer (suc n) = let e : suc n - 1 ≡ n = omega arith in rw e

fewer-zeros : (k : ℕ) (values : List ℕ) → drop k values ≡ replicate (8 - k) 0
    → drop (k + 1) values ≡ replicate (8 - (k + 1)) 0
fewer-zeros k values e =
    let q : 8 - (k + 1) ≡ 8 - k - 1 = omega arith in
    rw (q, ← drop-drop 1 k values, e) (fewer (8 - k))

-- the template t is read off the text s, and o is what is read in all: the first k values are the numbers up to the
-- place i of the template and the place j of the text
pub record Matching (t s : List ℕ) (o : Option (List ℕ × List ℕ)) (values : List ℕ) (k j i : ℕ) : Type 0 where
  pub in_template : i ≤ length t
  pub in_text : j ≤ length s
  pub room : k + holes (drop i t) ≤ 8
  pub size : length values ≡ 8
  pub zeros : drop k values ≡ replicate (8 - k) 0
  pub so_far : o ≡ matched (take k values) (drop i t) (drop j s)

module _ (t s : List ℕ) (o : Option (List ℕ × List ℕ)) (values : List ℕ) (k j i : ℕ)
    (g : Matching t s o values k j i) where
  matched-all : length t ≤ i → o ≡ Some (take k values, drop j s)
  unfolding matched
  matched-all h = g.so_far ∙ rw (drop_of_length-le t h)

  module _ (f : Bool) (e : f ≡ capital (get_or t i 0)) (h : i < length t) where
    -- a number's place
    module _ (y : f ≡ true) where
      pub hole_fits : k < 8
      hole_fits = omega (arith, left-number t i h (sym y ∙ e), g.room)

      module _ (r : Option (ℕ × ℕ)) (q : r ≡ number_at s j) where
        pub hole_missing : r ≡ None → o ≡ None
        hole_missing z =
            g.so_far
            ∙ rw (drop-cons t i 0 h)
            (matched-no-number _ _ (sym y ∙ e) _ _ (number-missing s j (sym z ∙ q)))

        pub hole_filled : (v next : ℕ) → r ≡ Some (v, next) → Matching t s o (set values k v) (k + 1) next (i + 1)
        hole_filled v next z =
            let w = number-found s j v next g.in_text (sym z ∙ q) in
            let l : k < length values = omega (arith, hole_fits, g.size) in
            record {
              in_template = omega arith;
              in_text = w.1;
              room = omega (arith, left-number t i h (sym y ∙ e), g.room);
              size = length-set values k v ∙ g.size;
              zeros = rw (drop-set-lt (k + 1) values k v (omega arith)) (fewer-zeros k values g.zeros);
              so_far =
                  rw (add-one i, add-one k, take-suc-set values k v l)
                  (g.so_far ∙ rw (drop-cons t i 0 h) (matched-number _ _ (sym y ∙ e) _ _ _ _ w.0));
            }

    -- a byte for itself
    module _ (y : f ≡ false) where
      pub byte-missing : length s ≤ j → o ≡ None
      unfolding matched
      byte-missing l = g.so_far ∙ rw (drop-cons t i 0 h, drop_of_length-le s l)

      module _ (l : j < length s) where
        pub byte_wrong : (get_or t i 0 ≡ get_or s j 0 → ⊥) → o ≡ None
        byte_wrong z =
            g.so_far ∙ rw (drop-cons t i 0 h, drop-cons s j 0 l) (matched-other _ _ (sym y ∙ e) _ _ _ z)

        pub byte-read : get_or t i 0 ≡ get_or s j 0 → Matching t s o values k (j + 1) (i + 1)
        byte-read z = record {
          in_template = omega arith;
          in_text = omega arith;
          room = omega (arith, left-byte t i h (sym y ∙ e), g.room);
          size = g.size;
          zeros = g.zeros;
          so_far =
              rw (add-one i, add-one j)
              (g.so_far ∙ rw (drop-cons t i 0 h, drop-cons s j 0 l) (matched-same _ _ (sym y ∙ e) _ _ _ z));
        }

-- what was read, as the answer
module _ (t s : List ℕ) (at : ℕ) where
  pub match_failed : matched [] t (drop at s) ≡ None → None ≡ matched_at t s at
  unfolding matched_at
  match_failed e = rw e

  pub match_done : (values : List ℕ) (k j i : ℕ) → Matching t s (matched [] t (drop at s)) values k j i → length t ≤ i
      → Some (record { end = j; values = values }) ≡ matched_at t s at
  unfolding matched_at
  match_done values k j i g h =
      rw (matched-all _ _ _ _ _ _ _ g h) (λ x. Some (record { end = end x; values = padded x }))
    where
      end : j ≡ length s - length (drop j s)
      end = omega (arith, length-drop j s, g.in_text)

      padded : values ≡ eight (take k values)
      padded = rw (length-take-le k values (omega (arith, g.room, g.size)), ← g.zeros, take-append-drop k values)

-- a template that was read from one place of a text to another: the numbers that were read, and the answer's values
pub record Found (t s : List ℕ) (at next : ℕ) (values : List ℕ) : Type 0 where
  pub numbers : List ℕ
  pub read : matched [] t (drop at s) ≡ Some (numbers, drop next s)
  pub padded : values ≡ eight numbers
  pub within : next ≤ length s

-- the answer of `template::read_at`, taken apart
module _ (t s : List ℕ) (at : ℕ) where
  pub match_found : (m : Matched) → at ≤ length s → Some m ≡ matched_at t s at → Found t s at m.end m.values
  unfolding matched_at
  match_found m h = by_read (matched [] t (drop at s)) refl
    where
      by_read : (o : Option (List ℕ × List ℕ)) → matched [] t (drop at s) ≡ o → Some m ≡ matched_of (length s) o
          → Found t s at m.end m.values
      by_read None e w = let z : ◌≡◌ {A = ℕ} 0 1 = cc in absurd (omega arith)
      by_read (Some p) e w =
          let same : m ≡ record { end = length s - length p.1; values = eight p.0 } = cc in
          let place : m.end ≡ length s - length p.1 = ap (λ (x : Matched). x.end) same in
          let f = matched-read t [] (drop at s) p.0 p.1 e in
          let text = f.text ∙ filled-append t f.numbers [] p.1 in
          record {
            numbers = p.0;
            read = e ∙ rw (place, ← rest_at s at (filled t f.numbers []) p.1 h text);
            padded = ap (λ (x : Matched). x.values) same;
            within = omega arith;
          }

  pub match_missing : None ≡ matched_at t s at → matched [] t (drop at s) ≡ None
  unfolding matched_at
  match_missing = by_read (matched [] t (drop at s)) refl
    where
      by_read : (o : Option (List ℕ × List ℕ)) → matched [] t (drop at s) ≡ o → None ≡ matched_of (length s) o
          → matched [] t (drop at s) ≡ None
      by_read None e w = e
      by_read (Some p) e w = let z : ◌≡◌ {A = ℕ} 0 1 = cc in absurd (omega arith)

-- a line that is read by a template, as the answer
module _ (t s : List ℕ) where
  pub line-missing : None ≡ matched_at t s 0 → None ≡ numbers_by t s
  unfolding line_numbers whole_of
  line-missing q = rw (match_missing t s 0 q)

  module _ (m : Matched) (q : Some m ≡ matched_at t s 0) where
    pub line-whole : m.end ≡ length s → Some m.values ≡ numbers_by t s
    unfolding line_numbers whole_of
    line-whole l =
        let f = match_found t s 0 m (omega arith) q in
        let h : length s ≤ m.end = omega arith in
        rw (f.read, drop_of_length-le s h) (λ x. Some (f.padded x))

    pub line-longer : (m.end ≡ length s → ⊥) → None ≡ numbers_by t s
    unfolding line_numbers whole_of
    line-longer l =
        let f = match_found t s 0 m (omega arith) q in
        rw (f.read, drop-cons s m.end 0 (omega (arith, f.within)))
