-- A pass over the lines of a scale text: the shares read so far stand in their places, and the lines ahead give the
-- whole answer.
-- Assumes nothing.
use mathlib.Core.Path.{◌≡◌, refl, sym, ap, ◌∙◌}
use mathlib.Core.List.{List, [], ◌∷◌}
use Rattle.std.specs.Prelude.{Option, None, Some}
use Rattle.std.proofs.lemmas.Option.{none-some, same_Some}
use Prim.Native.Nat.{ℕ, zero, suc, ◌+◌, ◌-◌, ◌≤◌, ◌<◌}
use native.Mathlib.Numerals.{add-one}
use native.Mathlib.Omega.{arith}
use borrow.Author.Tests.{eq-eqb, ne_eqb, le-leb, lt-leb}
use lib.ListN.{length, take, drop, set, get_or, replicate, length-set}
use lib.Seq.{take_all, take-suc-set}
use Rattle.lists.proofs.Cases.{by-eq}
use Rattle.text.specs.Template.{eight, line_numbers, numbers_from, numbers_by}
use Rattle.text.specs.Lines.{lines_of, line_end}
use Rattle.text.proofs.Feeds.{line_at, line-last, line-none}
use Rattle.scale_text.specs.declared.ScaleReading.{ScaleReading}
use Rattle.scale_text.specs.Read.{day_text, refused_at, read_as, day_fault, line_fault, share_in, unless_fault}
use Rattle.scale_text.specs.Read.{read_from, read_of}

-- the numbers on a line, rule by rule
module _ (d before n s : ℕ) where
  pub other-day : (n ≡ d → ⊥) → 28 ≡ day_fault d before n s
  unfolding day_fault
  other-day h = sym (simp (day_fault, ne_eqb n d h))

  module _ (h : n ≡ d) where
    pub outside : 10000 < s → 29 ≡ day_fault d before n s
    unfolding day_fault
    outside o = sym (simp (day_fault, eq-eqb n d h, lt-leb s 10000 o))

    module _ (i : s ≤ 10000) where
      pub rising : before < s → 30 ≡ day_fault d before n s
      unfolding day_fault
      rising r = sym (simp (day_fault, eq-eqb n d h, le-leb s 10000 i, lt-leb s before r))

      pub fine : s ≤ before → 0 ≡ day_fault d before n s
      unfolding day_fault
      fine r = sym (simp (day_fault, eq-eqb n d h, le-leb s 10000 i, le-leb s before r))

-- Before the line of day k + 1, which begins at the place `at`: k shares were read, the last of them `before`.
pub record Going (s shares : List ℕ) (before k at : ℕ) : Type 0 where
  pub days : length shares ≡ 366
  pub few : k ≤ 366
  pub within : at ≤ length s
  pub rest : read_of s ≡ read_from (k + 1) before (take k shares) (lines_of (drop at s))

-- before the first line
pub going-begins : (s shares : List ℕ) → shares ≡ replicate 366 0 → Going s shares 10000 0 0
unfolding read_of
going-begins s shares e = record {
  days = rw e refl;
  few = omega arith;
  within = omega arith;
  rest = refl;
}

refuses : (n w : ℕ) (r : ScaleReading) → (n ≡ 0 → ⊥) → unless_fault n w r ≡ refused_at n w
refuses zero w r h = absurd (h refl)
refuses (suc n) w r h = refl

-- no line after the day before d, which is not the last
pub short_of_days : (d before : ℕ) (shares : List ℕ) → (d ≡ 367 → ⊥) → read_from d before shares [] ≡ refused_at 28 0
unfolding read_from
short_of_days d before shares h = simp (read_from, ne_eqb d 367 h)

-- any line after the 366th
after_last : (before : ℕ) (v : Option (List ℕ)) → line_fault 367 before v ≡ 28
unfolding line_fault
after_last before None = refl
after_last before (Some v) = refl

-- what the rules look at of a line's numbers, from what was read by the form
without_numbers : (v : Option (List ℕ)) → None ≡ numbers_from v → v ≡ None
without_numbers None e = refl
without_numbers (Some ns) e = absurd (none-some (eight ns) e)

module _ (values : List ℕ) (v : Option (List ℕ)) (e : Some values ≡ numbers_from v) where
  found-share : share_in v ≡ get_or values 1 0
  found-share = by_form v e
    where
      second : (ns : List ℕ) → get_or ns 1 0 ≡ get_or (eight ns) 1 0
      second [] = refl
      second (a ∷ []) = refl
      second (a ∷ b ∷ ns) = refl

      by_form : (v : Option (List ℕ)) → Some values ≡ numbers_from v → share_in v ≡ get_or values 1 0
      by_form None h = absurd (none-some values (sym h))
      by_form (Some ns) h = second ns ∙ ap (λ (m : List ℕ). get_or m 1 0) (sym (same_Some _ _ h))

  found-fault : (d before : ℕ) → d ≤ 366
      → line_fault d before v ≡ day_fault d before (get_or values 0 0) (get_or values 1 0)
  unfolding line_fault
  found-fault d before l = by_form v e
    where
      faults : (ns : List ℕ) → line_fault d before (Some ns)
          ≡ day_fault d before (get_or (eight ns) 0 0) (get_or (eight ns) 1 0)
      faults [] = rw (le-leb d 366 l)
      faults (a ∷ []) = rw (le-leb d 366 l)
      faults (a ∷ b ∷ ns) = rw (le-leb d 366 l)

      by_form : (v : Option (List ℕ)) → Some values ≡ numbers_from v
          → line_fault d before v ≡ day_fault d before (get_or values 0 0) (get_or values 1 0)
      by_form None h = absurd (none-some values (sym h))
      by_form (Some ns) h =
          faults ns
          ∙ ap (λ (m : List ℕ). day_fault d before (get_or m 0 0) (get_or m 1 0)) (sym (same_Some _ _ h))

module _ (s shares : List ℕ) (before k at : ℕ) (g : Going s shares before k at) where
  -- no line is left: after 366 days, and after fewer
  module _ (h : length s ≤ at) where
    pub all_read : k ≡ 366 → read_as shares ≡ read_of s
    unfolding read_from
    all_read z =
        let whole : take k shares ≡ shares = take_all k shares (omega (arith, g.days)) in
        sym (g.rest ∙ rw (line-none s at h, whole, z))

    pub too_few : (k ≡ 366 → ⊥) → refused_at 28 0 ≡ read_of s
    too_few z =
        let short = short_of_days (k + 1) before (take k shares) (λ e. z (omega arith)) in
        sym (g.rest ∙ rw (line-none s at h) short)

  module _ (h : at < length s) where
    -- a line after that of day 366
    pub too_many : k ≡ 366 → refused_at 28 367 ≡ read_of s
    unfolding read_from
    too_many z =
        by-eq (line_end s at) (length s)
        (λ e. sym (g.rest ∙ rw (line-last s at _ refl h e, z, after_last before None)))
        (λ e. sym (g.rest ∙ rw (line_at s at _ refl h e, z, after_last before _)))

    module _ (m : k ≡ 366 → ⊥) (e : ℕ) (q : e ≡ line_end s at) where
      -- bytes after the last line feed
      pub no-feed : e ≡ length s → refused_at 28 (k + 1) ≡ read_of s
      unfolding read_from line_fault
      no-feed l = sym (g.rest ∙ rw (line-last s at e q h l))

      module _ (b : e ≤ length s) (l : e ≡ length s → ⊥) where
        abbrev its_line : List ℕ
        its_line = take (e - at) (drop at s)

        pub no-form : None ≡ numbers_by day_text its_line → refused_at 28 (k + 1) ≡ read_of s
        unfolding read_from line_fault
        no-form w =
            let nothing = without_numbers (line_numbers day_text its_line) w in
            sym (g.rest ∙ rw (line_at s at e q h l, nothing))

        module _ (values : List ℕ) (w : Some values ≡ numbers_by day_text its_line) (x : ℕ)
            (y : x ≡ day_fault (k + 1) before (get_or values 0 0) (get_or values 1 0)) where
          its_fault : line_fault (k + 1) before (line_numbers day_text its_line) ≡ x
          its_fault = found-fault values _ w (k + 1) before (omega (arith, g.few, m)) ∙ sym y

          pub at-fault : (x ≡ 0 → ⊥) → refused_at x (k + 1) ≡ read_of s
          unfolding read_from
          at-fault z = sym (g.rest ∙ rw (line_at s at e q h l, its_fault) (refuses x (k + 1) _ z))

          pub goes_on : x ≡ 0 → Going s (set shares k (get_or values 1 0)) (get_or values 1 0) (k + 1) (e + 1)
          unfolding read_from
          goes_on z = record {
            days = length-set shares k _ ∙ g.days;
            few = omega (arith, g.few, m);
            within = omega (arith, b, l);
            rest =
                g.rest
                ∙ rw (
                  line_at s at e q h l,
                  its_fault,
                  z,
                  found-share values _ w,
                  add-one k,
                  take-suc-set shares k (get_or values 1 0) (omega (arith, g.days, g.few, m)),
                );
          }
