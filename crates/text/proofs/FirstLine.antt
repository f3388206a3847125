-- A template that is read off the front of a text is read off its first line: neither a byte of it nor a digit is a
-- line feed.
-- Assumes nothing.
use Prim.{Unit}
use Rattle.std.proofs.Common.{◌≡◌, ℕ, ◌+◌, ◌*◌, ◌^◌, Bool, true, false, ◌&&◌, eqb, ltb, List, [], ◌∷◌, ◌++◌, refl, ap, ◌∙◌, arith, ne_eqb}
use Rattle.std.specs.Prelude.{Option, None, Some}
use Rattle.lists.proofs.Cases.{by-eq}
use Rattle.text.specs.Number.{digit_of, read_on, number}
use Rattle.text.specs.Template.{capital, matched}
use Rattle.text.specs.Lines.{beginning, lines_of}
use Rattle.text.proofs.Feeds.{NoFeed, feedless, feedless-first, byte-begins}

-- what was read, with bytes r after what is left
abbrev pub before : {A : Type 0} → List ℕ → Option (A × List ℕ) → Option (A × List ℕ)
before r None = None
before r (Some p) = Some (p.0, p.1 ++ r)

-- a text's first line and what is after its line feed, or no line feed
pub by-feed : {C : Type 0} (s : List ℕ) → ((l r : List ℕ) → s ≡ l ++ (10 ∷ r) → NoFeed l → C) → (NoFeed s → C) → C
by-feed [] f g = g tt
by-feed (b ∷ s) f g =
    by-eq b 10
    (λ e. f [] s (ap (λ (a : ℕ). a ∷ s) e) tt)
    (λ e. by-feed s (λ l r q z. f (b ∷ l) r (ap (λ (x : List ℕ). b ∷ x) q) (e, z)) (λ z. g (e, z)))

-- bytes without a line feed are a line that is no form
pub unended : (b : ℕ) (s : List ℕ) → NoFeed (b ∷ s) → lines_of (b ∷ s) ≡ None ∷ []
unfolding lines_of
unended b [] z = byte-begins b [] z.0
unended b (a ∷ s) z = byte-begins b (a ∷ s) z.0 ∙ ap (beginning b) (unended a s z.1)

-- the number whose first digits are v
read-on-line : (v : ℕ) (l r : List ℕ) → NoFeed l → read_on v (l ++ (10 ∷ r)) ≡ before {A = ℕ} (10 ∷ r) (read_on v l)
unfolding read_on digit_of
read-on-line v [] r z = refl
read-on-line v (b ∷ l) r z =
    by-digit (ltb (digit_of b) 10) (ltb 0 v && ltb v (10 ^ 15)) (read_on (v * 10 + digit_of b) l)
    (read-on-line (v * 10 + digit_of b) l r z.1)
  where
    by-digit : (t u : Bool) {x : Option (ℕ × List ℕ)} (y : Option (ℕ × List ℕ)) → x ≡ before {A = ℕ} (10 ∷ r) y
        → elim t [
          | true ↦ elim u [ true ↦ x | false ↦ None ]
          | false ↦ Some (v, b ∷ (l ++ (10 ∷ r)))
        ]
        ≡ before {A = ℕ} (10 ∷ r) (elim t [ true ↦ elim u [ true ↦ y | false ↦ None ] | false ↦ Some (v, b ∷ l) ])
    by-digit true true y e = e
    by-digit true false y e = refl
    by-digit false u y e = refl

number-line : (l r : List ℕ) → NoFeed l → number (l ++ (10 ∷ r)) ≡ before {A = ℕ} (10 ∷ r) (number l)
unfolding number digit_of
number-line [] r z = refl
number-line (b ∷ l) r z =
    by-digit (ltb (digit_of b) 10) (read_on (digit_of b) l) (read-on-line (digit_of b) l r z.1)
  where
    by-digit : (t : Bool) {x : Option (ℕ × List ℕ)} (y : Option (ℕ × List ℕ)) → x ≡ before {A = ℕ} (10 ∷ r) y
        → elim t [ true ↦ x | false ↦ None ] ≡ before {A = ℕ} (10 ∷ r) (elim t [ true ↦ y | false ↦ None ])
    by-digit true y e = e
    by-digit false y e = refl

-- what is left of a line has no line feed either
abbrev Clean : Option (ℕ × List ℕ) → Type 0
Clean None = Unit {0}
Clean (Some p) = NoFeed p.1

read_on_clean : (v : ℕ) (l : List ℕ) → NoFeed l → Clean (read_on v l)
unfolding read_on
read_on_clean v [] z = tt
read_on_clean v (b ∷ l) z =
    by-digit (ltb (digit_of b) 10) (ltb 0 v && ltb v (10 ^ 15)) (read_on (v * 10 + digit_of b) l)
    (read_on_clean (v * 10 + digit_of b) l z.1)
  where
    by-digit : (t u : Bool) (x : Option (ℕ × List ℕ)) → Clean x
        → Clean (elim t [ true ↦ elim u [ true ↦ x | false ↦ None ] | false ↦ Some (v, b ∷ l) ])
    by-digit true true x c = c
    by-digit true false x c = tt
    by-digit false u x c = z

number_clean : (l : List ℕ) → NoFeed l → Clean (number l)
unfolding number
number_clean [] z = tt
number_clean (b ∷ l) z =
    by-digit (ltb (digit_of b) 10) (read_on (digit_of b) l) (read_on_clean (digit_of b) l z.1)
  where
    by-digit : (t : Bool) (x : Option (ℕ × List ℕ)) → Clean x → Clean (elim t [ true ↦ x | false ↦ None ])
    by-digit true x c = c
    by-digit false x c = tt

-- what a template reads
abbrev Found : Type 0
Found = Option (List ℕ × List ℕ)

pub matched-line : (ns t l r : List ℕ) → feedless t ≡ true → NoFeed l
    → matched ns t (l ++ (10 ∷ r)) ≡ before {A = List ℕ} (10 ∷ r) (matched ns t l)
unfolding matched number digit_of
matched-line ns [] l r g z = refl
matched-line ns (b ∷ t) [] r g z = by_byte (capital b) (eqb b 10) (ne_eqb b 10 (feedless-first b t g).0)
  where
    by_byte : (c e : Bool) → e ≡ false
        → ◌≡◌ {A = Found} (elim c [ true ↦ None | false ↦ elim e [ true ↦ matched ns t r | false ↦ None ] ]) None
    by_byte true e q = refl
    by_byte false true q = let w : ◌≡◌ {A = ℕ} 0 1 = cc in absurd (omega arith)
    by_byte false false q = refl
matched-line ns (b ∷ t) (a ∷ l) r g z =
    let f = feedless-first b t g in
    by_byte (capital b) (eqb b a)
    (elim (number (a ∷ l)) [ None ↦ None | Some q ↦ matched (ns ++ (q.0 ∷ [])) t q.1 ]) (matched ns t l)
    (by_number (number (a ∷ l)) (number (a ∷ (l ++ (10 ∷ r)))) (number-line (a ∷ l) r z) (number_clean (a ∷ l) z)
    (λ ms m c. matched-line ms t m r f.1 c))
    (matched-line ns t l r f.1 z.1)
  where
    by_number : (o p : Option (ℕ × List ℕ)) → p ≡ before {A = ℕ} (10 ∷ r) o → Clean o
        → ((ms m : List ℕ) → NoFeed m → matched ms t (m ++ (10 ∷ r)) ≡ before {A = List ℕ} (10 ∷ r) (matched ms t m))
        → elim p [ None ↦ None | Some q ↦ matched (ns ++ (q.0 ∷ [])) t q.1 ]
        ≡ before {A = List ℕ} (10 ∷ r) (elim o [ None ↦ None | Some q ↦ matched (ns ++ (q.0 ∷ [])) t q.1 ])
    by_number None p e c again = rw e
    by_number (Some q) p e c again = rw e (again (ns ++ (q.0 ∷ [])) q.1 c)

    by_byte : (c e : Bool) {x v : Found} (y w : Found) → x ≡ before {A = List ℕ} (10 ∷ r) y
        → v ≡ before {A = List ℕ} (10 ∷ r) w
        → elim c [ true ↦ x | false ↦ elim e [ true ↦ v | false ↦ None ] ]
        ≡ before {A = List ℕ} (10 ∷ r) (elim c [ true ↦ y | false ↦ elim e [ true ↦ w | false ↦ None ] ])
    by_byte true e y w h k = h
    by_byte false true y w h k = k
    by_byte false false y w h k = refl
