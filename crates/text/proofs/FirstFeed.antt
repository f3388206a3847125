-- Document 02, Q-6: "For every eight bytes the word test must give the place of the first line feed among them, and
-- none exactly when none is there."
-- Assumes nothing.
use Rattle.std.proofs.Common.{◌≡◌, ℕ, zero, suc, ◌+◌, ◌^◌, ◌<◌, ◌≤◌, List, length, sym, refl, ◌∙◌, subst, add-zero, arith, eq-eqb, ne_eqb}
use Rattle.lists.proofs.Cases.{by-eq}
use Rattle.text.specs.Word.{byte_of, BytesAt}
use Rattle.text.specs.Feed.{feed_from, first_feed}
use Rattle.text.specs.Lines.{line_end}
use Rattle.std.specs.Prelude.{Option, Some, None}
use Rattle.text.proofs.Feeds.{Seeking, here, later}

-- none of the bytes from the place k up to the place e is a line feed
abbrev pub NoneIn : (byte : ℕ → ℕ) → (k e : ℕ) → Type 0
NoneIn byte k e = (i : ℕ) → k ≤ i → i < e → byte i ≡ 10 → ⊥

-- the first of the bytes from the place k up to the place e that is a line feed stands at the place r
pub record FirstIn (byte : ℕ → ℕ) (k e r : ℕ) : Type 0 where
  pub within : (k ≤ r) × (r < e)
  pub there : byte r ≡ 10
  pub before : NoneIn byte k r

module _ (byte : ℕ → ℕ) where
  none_more : (k e : ℕ) → (byte k ≡ 10 → ⊥) → NoneIn byte (suc k) e → NoneIn byte k e
  none_more k e b f i l m =
      by-eq i k (λ d. subst (λ (x : ℕ). byte x ≡ 10 → ⊥) (sym d) b) (λ d. f i (omega arith) m)

  first-told : (n k e r : ℕ) → e ≡ k + n → feed_from byte k n ≡ Some r → FirstIn byte k e r
  unfolding feed_from
  first-told zero k e r q h = let z : ◌≡◌ {A = ℕ} 0 1 = cc in absurd (omega arith)
  first-told (suc n) k e r q h =
      by-eq (byte k) 10
      (λ b. let a : Some k ≡ Some r = simp (feed_from, eq-eqb _ _ b) at h in
      let p : k ≡ r = cc in
      rw (← p)
      (record { within = (omega arith, omega arith); there = b; before = λ i l m. absurd (omega arith) }))
      (λ b. let f = first-told n (suc k) e r (omega arith) (simp (feed_from, ne_eqb _ _ b) at h) in
      record {
        within = (omega (arith, f.within.0), f.within.1);
        there = f.there;
        before = none_more k r b f.before;
      })

  none_told : (n k e : ℕ) → e ≡ k + n → feed_from byte k n ≡ None → NoneIn byte k e
  unfolding feed_from
  none_told zero k e q h = λ i l m. absurd (omega arith)
  none_told (suc n) k e q h =
      by-eq (byte k) 10
      (λ b. let a : Some k ≡ None = simp (feed_from, eq-eqb _ _ b) at h in
      let z : ◌≡◌ {A = ℕ} 0 1 = cc in absurd (omega arith))
      (λ b. none_more k e b (none_told n (suc k) e (omega arith) (simp (feed_from, ne_eqb _ _ b) at h)))

  first_found : (n k e r : ℕ) → e ≡ k + n → FirstIn byte k e r → feed_from byte k n ≡ Some r
  unfolding feed_from
  first_found zero k e r q f = absurd (omega (arith, f.within.0, f.within.1))
  first_found (suc n) k e r q f =
      by-eq r k
      (λ d. let b : byte k ≡ 10 = subst (λ (x : ℕ). byte x ≡ 10) d f.there in
      simp (feed_from, eq-eqb _ _ b) (rw d))
      (λ d. simp (feed_from, ne_eqb _ _ (f.before k (omega arith) (omega (arith, f.within.0))))
      (first_found n (suc k) e r (omega arith)
      (record {
        within = (omega (arith, f.within.0), f.within.1);
        there = f.there;
        before = λ i l m. f.before i (omega arith) m;
      })))

  none_found : (n k e : ℕ) → e ≡ k + n → NoneIn byte k e → feed_from byte k n ≡ None
  unfolding feed_from
  none_found zero k e q f = refl
  none_found (suc n) k e q f =
      simp (feed_from, ne_eqb _ _ (f k (omega arith) (omega arith)))
      (none_found n (suc k) e (omega arith) (λ i l m. f i (omega arith) m))

-- the place of the first line feed among the eight bytes, and no other
pub first-exactly : (w k : ℕ)
    → (first_feed w ≡ Some k → FirstIn (byte_of w) 0 8 k) × (FirstIn (byte_of w) 0 8 k → first_feed w ≡ Some k)
first-exactly w k = (first-told (byte_of w) 8 0 8 k refl, first_found (byte_of w) 8 0 8 k refl)

-- none exactly when none is there
pub none-exactly : (w : ℕ)
    → (first_feed w ≡ None → NoneIn (byte_of w) 0 8) × (NoneIn (byte_of w) 0 8 → first_feed w ≡ None)
none-exactly w = (none_told (byte_of w) 8 0 8 refl, none_found (byte_of w) 8 0 8 refl)

-- a line feed is sought from the place `at` of the text s on: w are the eight bytes from the place `from` on, and r is
-- the answer to them
module _ (s : List ℕ) (at from w : ℕ) (r : Option ℕ)
    (g : Seeking 10 s at from) (room : from + 7 < length s) (b : BytesAt s from 8 w) (q : r ≡ first_feed w)
  where
    passed : (n : ℕ) → n ≤ 8 → NoneIn (byte_of w) 0 n → Seeking 10 s at (from + n)
    passed zero l f = rw (add-zero from) g
    passed (suc n) l f =
        let e : from + suc n ≡ from + n + 1 = omega arith in
        rw e
        (later 10 s at (from + n) (passed n (omega arith) (λ i a m. f i a (omega arith))) (omega arith)
        (λ d. f n (omega arith) (omega arith) (b.each n (omega arith) ∙ d)))

    pub line-ends : (k : ℕ) → r ≡ Some k → from + k ≡ line_end s at
    line-ends k e =
        let f = (first-exactly w k).0 (sym q ∙ e) in
        let l : k < 8 = f.within.1 in
        here 10 s at (from + k) (passed k (omega arith) f.before) (omega arith) (sym (b.each k l) ∙ f.there)

    pub end-within : (k : ℕ) → r ≡ Some k → from + k ≤ length s
    end-within k e = omega (arith, ((first-exactly w k).0 (sym q ∙ e)).within.1)

    pub end_fits : (k : ℕ) → r ≡ Some k → length s < 2 ^ 64 → from + k < 2 ^ 64
    end_fits k e l = omega (arith, end-within k e)

    pub line_goes_on : r ≡ None → Seeking 10 s at (from + 8)
    line_goes_on e = passed 8 (omega arith) ((none-exactly w).0 (sym q ∙ e))
