-- A layer by time that bears the amounts xs in turn: after the first i it has spent so much, for so much amount premium
-- of the year, and so much is due for them. With the amounts ahead that gives what it comes to after all.
-- Assumes nothing.
use mathlib.Core.Bool.{true}
use mathlib.Core.Path.{◌≡◌, refl, sym, ap, ◌∙◌}
use mathlib.Core.List.{List, ◌∷◌}
use Prim.Native.Nat.{ℕ, ◌+◌, ◌-◌, ◌*◌, ◌^◌, ◌≤◌, ◌<◌}
use native.Mathlib.Numerals.{add-one}
use native.Mathlib.Omega.{arith}
use lib.ListN.{length, drop, get_or, drop_of_length-le}
use lib.Seq.{drop-cons}
use Rattle.arith.specs.Round.{rounded}
use Rattle.arith.specs.Ranges.{Narrow}
use Rattle.layer.specs.declared.amount.Placed.{Placed}
use Rattle.layer.specs.declared.amount.Whole.{Whole}
use Rattle.layer.specs.declared.terms.Terms.{Terms}
use Rattle.layer.specs.declared.record.Layer.{Layer}
use Rattle.layer.specs.declared.record.Sums.{Sums}
use Rattle.layer.specs.Layer.{brought_by, cut_at_cap, premium_of, is_timed, due_for, due_of, layer_of}
use Rattle.layer.specs.Layer.{recovered_since, charged_since, after_subject, due_by, with_due, sums_of}
use Rattle.layer.specs.Layer.{borne_with, borne_through}
use Rattle.layer.specs.Ranges.{Sound, Ample}
use Rattle.layer.proofs.Bounds.{recovered-le}
use Rattle.layer.proofs.Premiums.{premium-le}
use Rattle.layer.proofs.Dues.{due-zero, due_narrow, most-le}
use Rattle.layer.proofs.TimeTests.{due-by-time, part-by-time}
use Rattle.layer.proofs.Records.{sound-after}
use Rattle.layer.proofs.Through.{after_each, due_each, sound-each, on-each, borne-each, due-total-le}

-- the record before the amounts, and the share of the day
module _ (xs : List ℕ) (y₀ : Layer) (share : ℕ) where
  abbrev t : Terms
  t = y₀.terms

  -- the record that has spent m, without what is due
  abbrev spends : ℕ → Layer
  spends m = layer_of t m y₀.timed.0

  pub record Charging (i : ℕ) (spent : Whole) (premium due : Placed) : Type 0 where
    pub within : i ≤ length xs
    pub fair : share ≤ 10000
    pub timed : is_timed t ≡ true
    pub first : Sound y₀
    pub sound : Sound (spends spent.0)
    pub premium-is : premium.0 ≡ premium_of t spent.0
    pub rest : after_each (drop i xs) (spends spent.0) ≡ after_each xs y₀
    pub dues : due.0 + due_each share (drop i xs) (spends spent.0) ≡ due_each share xs y₀

  module _ {i : ℕ} {spent : Whole} {premium due : Placed} (g : Charging i spent premium due) where
    -- the next amount leaves it so much spent
    module _ (d : ℕ) (more : i < length xs) (after : Whole)
        (is : after.0 ≡ cut_at_cap t (spent.0 + brought_by t (get_or xs i d))) where
      abbrev x : ℕ
      x = get_or xs i d

      abbrev y : Layer
      y = spends spent.0

      ahead : drop i xs ≡ x ∷ drop (i + 1) xs
      ahead = rw (add-one i) (drop-cons xs i d more)

      moves : spends after.0 ≡ after_subject x y
      moves = ap spends is

      after-sound : Sound (spends after.0)
      after-sound = rw moves (sound-after (brought_by t x) y g.sound)

      rest-after : after_each (drop (i + 1) xs) (spends after.0) ≡ after_each xs y₀
      rest-after =
          ap (after_each (drop (i + 1) xs)) moves
          ∙ sym (ap (λ (l : List ℕ). after_each l y) ahead)
          ∙ g.rest

      dues-after : due.0 + (due_by share x y + due_each share (drop (i + 1) xs) (spends after.0))
          ≡ due_each share xs y₀
      dues-after =
          omega (
            arith,
            g.dues,
            ap (λ (l : List ℕ). due_each share l y) ahead,
            ap (due_each share (drop (i + 1) xs)) moves,
          )

      -- nothing more is spent, and nothing is due
      pub none-spent : after.0 ≤ spent.0 → Charging (i + 1) spent premium due
      unfolding due_of
      none-spent h =
          let same : after.0 ≡ spent.0 = omega (arith, is, g.sound.spent) in
          let none : charged_since y (after_subject x y) ≡ 0 =
          omega (arith, ap (premium_of t) (sym is ∙ same)) in
          let nothing : due_by share x y ≡ 0 = ap (due_for t share) none ∙ due-zero t share in
          record {
            within = omega arith;
            fair = g.fair;
            timed = g.timed;
            first = g.first;
            sound = g.sound;
            premium-is = g.premium-is;
            rest = ap (λ (m : ℕ). after_each (drop (i + 1) xs) (spends m)) (sym same) ∙ rest-after;
            dues =
                omega (
                  arith,
                  dues-after,
                  nothing,
                  ap (λ (m : ℕ). due_each share (drop (i + 1) xs) (spends m)) same,
                );
          }

      -- more is spent: the amount premium is another, and the growth is due at the day's share
      module _ (later : Placed) (e : later.0 ≡ premium_of t after.0) (grown : Placed)
          (by : grown.0 ≡ later.0 - premium.0) where
        pub grown_narrow : Narrow grown.0 share 10000
        grown_narrow =
            due_narrow t g.first.terms share grown.0
            (omega (arith, by, e, premium-le t g.first.terms after.0)) g.fair

        module _ (charge : Placed) (settled : charge.0 ≡ rounded (grown.0 * share) 10000) where
          due-now : charge.0 ≡ due_by share x y
          unfolding due_of
          due-now =
              settled
              ∙ due-by-time t true (sym g.timed) refl share grown.0
              ∙ ap (due_for t share) (omega (arith, by, e, g.premium-is, ap (premium_of t) is))

          pub due-small : due.0 + charge.0 ≤ 40 * t.premium
          due-small =
              omega (arith, dues-after, due-now, due-total-le xs y₀ g.first share g.fair)

          pub one-charged : (due' : Placed) → due'.0 ≡ due.0 + charge.0 → Charging (i + 1) after later due'
          one-charged due' q = record {
            within = omega arith;
            fair = g.fair;
            timed = g.timed;
            first = g.first;
            sound = after-sound;
            premium-is = e;
            rest = rest-after;
            dues = omega (arith, dues-after, due-now, q);
          }

    -- after the last amount
    module _ (end : length xs ≤ i) where
      last : spends spent.0 ≡ after_each xs y₀
      last = rw (drop_of_length-le xs end) at g.rest

      all-due : due.0 ≡ due_each share xs y₀
      all-due =
          let none : due_each share (drop i xs) (spends spent.0) ≡ 0 =
          ap (λ (l : List ℕ). due_each share l (spends spent.0)) (drop_of_length-le xs end) in
          omega (arith, g.dues, none)

      small : due.0 ≤ 40 * t.premium
      small = omega (arith, all-due, due-total-le xs y₀ g.first share g.fair)

      -- what is due joins the timed premium
      pub timed-fits : y₀.timed.0 + due.0 < 2 ^ 64
      timed-fits =
          let r = g.first.terms in
          omega (arith, small, r.premium, g.first.timed, most-le t r y₀.spent.0)

      module _ (v : Placed) (joined : v.0 ≡ y₀.timed.0 + due.0) where
        abbrev borne : Layer
        borne = record { terms = t; spent = spent; timed = v }

        is-borne : borne ≡ with_due (due_each share xs y₀) (after_each xs y₀)
        is-borne =
            ap (layer_of t spent.0)
            (joined ∙ ap (λ (n : ℕ). y₀.timed.0 + n) (part-by-time t true (sym g.timed) refl due.0))
            ∙ (λ j. with_due (all-due j) (last j))

        pub all_sound : Sound borne
        all_sound = rw (is-borne ∙ sym (on-each share xs y₀)) (sound-each share g.fair xs y₀ g.first)

        -- the sums with what is recovered and with what is due
        module _ (s : Sums) (same : s.share ≡ share) (a : Ample s) (w : Placed)
            (since : w.0 ≡ recovered_since y₀ borne) where
          pub recovered-fits : s.recovered.0 + w.0 < 2 ^ 64
          recovered-fits =
              omega (arith, a.recovered, since, recovered-le borne all_sound, g.first.terms.limit-high)

          pub premium-fits : s.premium.0 + due.0 < 2 ^ 64
          premium-fits = omega (arith, a.premium, small, g.first.terms.premium)

          pub all-charged : (r p : Placed) → r.0 ≡ s.recovered.0 + w.0 → p.0 ≡ s.premium.0 + due.0
              → record { layer = borne; sums = record { share = s.share; recovered = r; premium = p } }
              ≡ borne_through xs s y₀
          all-charged r p e f =
              let recovered = e ∙ ap (λ (n : ℕ). s.recovered.0 + n) (since ∙ ap (recovered_since y₀) is-borne) in
              let premium = f ∙ ap (λ (n : ℕ). s.premium.0 + n) all-due in
              (λ j. record { layer = is-borne j; sums = sums_of s.share (recovered j) (premium j) })
              ∙ ap (λ (n : ℕ). borne_with y₀ (due_each n xs y₀) s (after_each xs y₀)) (sym same)
              ∙ sym (borne-each xs y₀ g.first s)
