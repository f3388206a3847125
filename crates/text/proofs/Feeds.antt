-- Laws of lines: where a byte stands and a line ends, the lines of a text, lines put together, and what a template
-- prints in a line.
-- Assumes nothing.
use Rattle.std.proofs.Common.{◌≡◌, ℕ, suc, ◌+◌, ◌-◌, ◌%◌, ◌<◌, ◌≤◌, Bool, true, false, eqb, List, [], ◌∷◌, ◌++◌, map, length, get_or, take, drop, sym, refl, ap, ◌∙◌, append_assoc, arith, length-drop, drop_of_length-le, drop-cons, drop-drop, eq-eqb, ne_eqb}
use Rattle.std.specs.Prelude.{Option, None, Some}
use Rattle.lists.specs.Each.{Each}
use Rattle.lists.proofs.Cases.{by_test, by-eq}
use Rattle.text.specs.Number.{printed}
use Rattle.text.specs.Template.{capital, filled}
use Rattle.text.specs.Lines.{beginning, lines_of, joined, up_to, place_of, line_end}
use Rattle.text.proofs.Printing.{by_digits, printed-one, printed-more}

-- a byte is sought from the place `at` of the text s on, and does not stand before the place i
pub record Seeking (byte : ℕ) (s : List ℕ) (at i : ℕ) : Type 0 where
  pub after : at ≤ i
  pub within : i ≤ length s
  pub ahead : place_of byte s at ≡ place_of byte s i

pub none_sought : (byte : ℕ) (s : List ℕ) (at : ℕ) → at ≤ length s → Seeking byte s at at
none_sought byte s at h = record { after = omega arith; within = h; ahead = refl }

module _ (byte : ℕ) (s : List ℕ) (at i : ℕ) (g : Seeking byte s at i) where
  pub nowhere : length s ≤ i → i ≡ place_of byte s at
  unfolding up_to
  nowhere z = sym (g.ahead ∙ rw (drop_of_length-le s {i = i} z) (omega arith))

  module _ (l : i < length s) where
    pub here : get_or s i 0 ≡ byte → i ≡ place_of byte s at
    unfolding up_to
    here b = sym (g.ahead ∙ rw (drop-cons s i 0 l) (simp (up_to, eq-eqb _ _ b) (omega arith)))

    pub later : (get_or s i 0 ≡ byte → ⊥) → Seeking byte s at (i + 1)
    unfolding up_to
    later b = record {
      after = omega (arith, g.after);
      within = omega arith;
      ahead =
          let next : i + 1 ≡ suc i = omega arith in
          g.ahead ∙ rw (next, drop-cons s i 0 l) (simp (up_to, ne_eqb _ _ b) (omega arith));
    }

up_to_feed_le : (s : List ℕ) → length (up_to 10 s) ≤ length s
unfolding up_to
up_to_feed_le [] = omega arith
up_to_feed_le (b ∷ s) =
    by-eq b 10
    (λ e. simp (up_to, eq-eqb _ _ e) (omega arith))
    (λ e. simp (up_to, ne_eqb _ _ e) (omega (arith, up_to_feed_le s)))

-- the first line of a text, and the lines after it
first-line : (s : List ℕ) → length (up_to 10 s) < length s
    → lines_of s ≡ Some (take (length (up_to 10 s)) s) ∷ lines_of (drop (suc (length (up_to 10 s))) s)
unfolding up_to lines_of
first-line [] h = absurd (omega arith)
first-line (b ∷ s) h =
    by-eq b 10
    (λ e. simp (lines_of, up_to, eq-eqb _ _ e))
    (λ e. let l = simp (up_to, ne_eqb _ _ e) at h in
    simp (lines_of, up_to, ne_eqb _ _ e) (rw (first-line s (omega arith))))

-- bytes without a line feed
no-feed : (b : ℕ) (s : List ℕ) → length (up_to 10 (b ∷ s)) ≡ length (b ∷ s)
    → (b ≡ 10 → ⊥) × (length (up_to 10 s) ≡ length s)
unfolding up_to
no-feed b s h =
    by-eq b 10
    (λ e. absurd (omega (arith, simp (up_to, eq-eqb b 10 e) at h)))
    (λ e. (e, omega (arith, simp (up_to, ne_eqb b 10 e) at h)))

no_line : (s : List ℕ) → 0 < length s → length (up_to 10 s) ≡ length s → lines_of s ≡ None ∷ []
unfolding lines_of
no_line [] p h = absurd (omega arith)
no_line (b ∷ []) p h = simp (lines_of, ne_eqb b 10 (no-feed b [] h).0)
no_line (b ∷ a ∷ s) p h =
    let f = no-feed b (a ∷ s) h in
    simp (lines_of, ne_eqb b 10 f.0) (ap (beginning b) (no_line (a ∷ s) (omega arith) f.1))

-- at a place of a text, for a line that ends at e
module _ (s : List ℕ) (at e : ℕ) (q : e ≡ line_end s at) (h : at < length s) where
  pub line_at : (e ≡ length s → ⊥) → lines_of (drop at s) ≡ Some (take (e - at) (drop at s)) ∷ lines_of (drop (e + 1) s)
  line_at n =
      first-line (drop at s) (omega (arith, up_to_feed_le (drop at s), length-drop at s))
      ∙ rw (size, drop-drop (suc (e - at)) at s, next)
    where
      size : length (up_to 10 (drop at s)) ≡ e - at
      size = omega arith

      next : at + suc (e - at) ≡ e + 1
      next = omega arith

  pub line-last : e ≡ length s → lines_of (drop at s) ≡ None ∷ []
  line-last n = no_line (drop at s) (omega (arith, length-drop at s)) (omega (arith, length-drop at s))

pub line-none : (s : List ℕ) (at : ℕ) → length s ≤ at → lines_of (drop at s) ≡ []
unfolding lines_of
line-none s at h = rw (drop_of_length-le s h)

-- no byte of a line is a line feed
abbrev pub NoFeed : List ℕ → Type 0
NoFeed l = Each (λ (b : ℕ). b ≡ 10 → ⊥) l

-- a byte that is no line feed begins the first line
pub byte-begins : (b : ℕ) (s : List ℕ) → (b ≡ 10 → ⊥) → lines_of (b ∷ s) ≡ beginning b (lines_of s)
unfolding lines_of
byte-begins b s h = simp (lines_of, ne_eqb b 10 h)

pub line_and_rest : (l s : List ℕ) → NoFeed l → lines_of (l ++ (10 ∷ s)) ≡ Some l ∷ lines_of s
unfolding lines_of
line_and_rest [] s z = refl
line_and_rest (b ∷ l) s z = byte-begins b (l ++ (10 ∷ s)) z.0 ∙ ap (beginning b) (line_and_rest l s z.1)

-- lines put together are the lines of the text
pub lines-joined : (ls : List (List ℕ)) → Each NoFeed ls → lines_of (joined ls) ≡ map Some ls
unfolding lines_of
lines-joined [] z = refl
lines-joined (l ∷ ls) z =
    line_and_rest l (joined ls) z.0 ∙ ap (λ (x : List (Option (List ℕ))). Some l ∷ x) (lines-joined ls z.1)

-- the text s is its lines put together, if they all end
abbrev Rejoined : List ℕ → Type 0
Rejoined s = (ls : List (List ℕ)) → lines_of s ≡ map Some ls → s ≡ joined ls

pub joined-lines : (s : List ℕ) (ls : List (List ℕ)) → lines_of s ≡ map Some ls → s ≡ joined ls
unfolding lines_of
joined-lines [] [] e = refl
joined-lines [] (l ∷ ls) e = let n : ◌≡◌ {A = ℕ} 0 1 = cc in absurd (omega arith)
joined-lines (b ∷ s) ls e =
    by-eq b 10
    (λ h. feed h ls (simp (lines_of, eq-eqb b 10 h) at e) (joined-lines s))
    (λ h. byte (lines_of s) refl ls (simp (lines_of, ne_eqb b 10 h) at e) (joined-lines s))
  where
    feed : b ≡ 10 → (ls : List (List ℕ)) → Some [] ∷ lines_of s ≡ map Some ls → Rejoined s → b ∷ s ≡ joined ls
    feed h [] q again = let n : ◌≡◌ {A = ℕ} 0 1 = cc in absurd (omega arith)
    feed h (l ∷ ls) q again =
        let m : [] ≡ l = cc in
        let k : lines_of s ≡ map Some ls = cc in
        rw (h, ← m, again ls k)

    byte : (x : List (Option (List ℕ))) → lines_of s ≡ x → (ls : List (List ℕ)) → beginning b x ≡ map Some ls
        → Rejoined s → b ∷ s ≡ joined ls
    byte [] h [] q again = let n : ◌≡◌ {A = ℕ} 0 1 = cc in absurd (omega arith)
    byte (None ∷ x) h [] q again = let n : ◌≡◌ {A = ℕ} 0 1 = cc in absurd (omega arith)
    byte (Some m ∷ x) h [] q again = let n : ◌≡◌ {A = ℕ} 0 1 = cc in absurd (omega arith)
    byte [] h (l ∷ ls) q again = let n : ◌≡◌ {A = ℕ} 0 1 = cc in absurd (omega arith)
    byte (None ∷ x) h (l ∷ ls) q again = let n : ◌≡◌ {A = ℕ} 0 1 = cc in absurd (omega arith)
    byte (Some m ∷ x) h (l ∷ ls) q again =
        let k : b ∷ m ≡ l = cc in
        let r : x ≡ map Some ls = cc in
        rw (← k) (ap (λ (y : List ℕ). b ∷ y) (again (m ∷ ls) (h ∙ rw r)))

pub joined-append : (xs ys : List (List ℕ)) → joined (xs ++ ys) ≡ joined xs ++ joined ys
joined-append [] ys = refl
joined-append (x ∷ xs) ys = rw (joined-append xs ys) (sym (append_assoc x (10 ∷ joined xs) (joined ys)))

-- whether no byte of a template is a line feed
unfoldable pub feedless : List ℕ → Bool
feedless [] = true
feedless (b ∷ t) = elim (eqb b 10) [ true ↦ false | false ↦ feedless t ]

pub feedless-first : (b : ℕ) (t : List ℕ) → feedless (b ∷ t) ≡ true → (b ≡ 10 → ⊥) × (feedless t ≡ true)
unfolding feedless
feedless-first b t g =
    by-eq b 10
    (λ h. let n : ◌≡◌ {A = ℕ} 0 1 = cc (simp (feedless, eq-eqb b 10 h) at g) in absurd (omega arith))
    (λ h. (h, simp (feedless, ne_eqb b 10 h) at g))

printed-no-feed : (n : ℕ) (s : List ℕ) → NoFeed s → NoFeed (printed n s)
printed-no-feed =
    by_digits (λ n. (s : List ℕ) → NoFeed s → NoFeed (printed n s))
    (λ n l s z. rw (printed-one n s l) (omega arith, z))
    (λ n l ih s z. rw (printed-more n s l) (ih ((48 + n % 10) ∷ s) (omega arith, z)))

-- a template without a line feed prints none, before bytes without one
filled-before : (t ns s : List ℕ) → feedless t ≡ true → NoFeed s → NoFeed (filled t ns s)
unfolding filled
filled-before [] ns s g z = z
filled-before (b ∷ t) ns s g z =
    let f = feedless-first b t g in
    by_test (capital b)
    (λ e. simp (filled, ← e) (printed-no-feed _ _ (filled-before t (drop 1 ns) s f.1 z)))
    (λ e. simp (filled, ← e) (f.0, filled-before t ns s f.1 z))

pub filled-no-feed : (t ns : List ℕ) → feedless t ≡ true → NoFeed (filled t ns [])
filled-no-feed t ns g = filled-before t ns [] g tt
