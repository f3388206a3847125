-- One layer through amounts, each in turn its subject: its record after them, their recoveries and the premiums due,
-- which do not pass the year's bounds however many amounts there are.
-- Assumes nothing.
use mathlib.Core.Bool.{false}
use mathlib.Core.Path.{◌≡◌, refl, sym, ap, ◌∙◌}
use mathlib.Core.List.{List, [], ◌∷◌, map, map-id, map-map}
use Prim.Native.Nat.{ℕ, ◌+◌, ◌*◌, ◌≤◌}
use native.Mathlib.Nat.{add-zero}
use native.Mathlib.Omega.{arith}
use Rattle.lists.specs.Sums.{sum_of, total}
use Rattle.lists.proofs.Sums.{sum-map, sum-add, sum-zero}
use Rattle.layer.specs.declared.terms.Terms.{Terms}
use Rattle.layer.specs.declared.record.Borne.{Borne}
use Rattle.layer.specs.declared.record.Layer.{Layer}
use Rattle.layer.specs.declared.record.Sums.{Sums}
use Rattle.layer.specs.Layer.{brought_by, cap_of, cut_at_cap, layer_of, layer_after, is_timed, with_due}
use Rattle.layer.specs.Layer.{recovered_since, charged_since, due_since, sums_of, in_turn}
use Rattle.layer.specs.Layer.{recovery_of, charge_of, due_of, recoveries_of, charges_of, dues_of}
use Rattle.layer.specs.Layer.{after_subject, subject_on, recovery_by, due_by, borne_with, borne_since, borne_by}
use Rattle.layer.specs.Layer.{borne_through}
use Rattle.layer.specs.Tier.{layers_after, layers_on, layers_through, recoveries_through, dues_through}
use Rattle.layer.specs.Ranges.{Sound}
use Rattle.layer.proofs.Bounds.{recovered-le}
use Rattle.layer.proofs.Premiums.{premium-le}
use Rattle.layer.proofs.Dues.{due-plain, due_le_charge, timed-none, timed_adds}
use Rattle.layer.proofs.Records.{sound-after, sound-on}
use Rattle.layer.proofs.Year.{recoveries_telescope, charges_telescope}

-- the record after the amounts, without the premiums due and with them
abbrev pub after_each : List ℕ → Layer → Layer
after_each [] y = y
after_each (x ∷ xs) y = after_each xs (after_subject x y)

abbrev pub on_each : (share : ℕ) → List ℕ → Layer → Layer
on_each share [] y = y
on_each share (x ∷ xs) y = on_each share xs (subject_on share x y)

-- the losses that they bring
abbrev losses_of : List ℕ → Layer → List ℕ
losses_of xs y = map (brought_by y.terms) xs

-- their recoveries, added, their amount premiums, added, and the premiums due, added
abbrev pub recovered_each : List ℕ → Layer → ℕ
recovered_each xs y = total (recoveries_of y (losses_of xs y))

abbrev pub charged_each : List ℕ → Layer → ℕ
charged_each xs y = total (charges_of y (losses_of xs y))

abbrev pub due_each : (share : ℕ) → List ℕ → Layer → ℕ
due_each share xs y = total (dues_of share y (losses_of xs y))

-- An amount of one loss that does not look at the timed premium: nor do those of losses in turn.
in_turn_blind : (f : ℕ → Layer → ℕ)
    → ((loss : ℕ) (t : Terms) (m k n : ℕ) → f loss (layer_of t m k) ≡ f loss (layer_of t m n)) → (t : Terms)
    (m k n : ℕ) (losses : List ℕ) → in_turn f (layer_of t m k) losses ≡ in_turn f (layer_of t m n) losses
in_turn_blind f blind t m k n [] = refl
in_turn_blind f blind t m k n (loss ∷ losses) =
    let first = blind loss t m k n in
    let rest = in_turn_blind f blind t (cut_at_cap t (m + loss)) k n losses in
    λ i. first i ∷ rest i

module _ (xs : List ℕ) (y : Layer) (n : ℕ) where
  pub recovered_blind : recovered_each xs (with_due n y) ≡ recovered_each xs y
  unfolding recovery_of
  recovered_blind =
      ap total (in_turn_blind recovery_of (λ loss t m k l. refl) y.terms y.spent.0 _ _ (losses_of xs y))

  pub due_blind : (share : ℕ) → due_each share xs (with_due n y) ≡ due_each share xs y
  unfolding due_of
  due_blind share =
      ap total (in_turn_blind (due_of share) (λ loss t m k l. refl) y.terms y.spent.0 _ _ (losses_of xs y))

-- the timed premium of a record stays beside its losses
after_kept : (xs : List ℕ) (y : Layer) (n : ℕ) → after_each xs (with_due n y) ≡ with_due n (after_each xs y)
after_kept [] y n = refl
after_kept (x ∷ xs) y n = after_kept xs (after_subject x y) n

-- a record stays sound with the premiums due
pub sound-each : (share : ℕ) → share ≤ 10000 → (xs : List ℕ) (y : Layer) → Sound y → Sound (on_each share xs y)
sound-each share h [] y s = s
sound-each share h (x ∷ xs) y s =
    sound-each share h xs (subject_on share x y) (sound-on share h (brought_by y.terms x) y s)

-- the record with the premiums due has all of them
pub on-each : (share : ℕ) (xs : List ℕ) (y : Layer) → on_each share xs y ≡ with_due (due_each share xs y) (after_each xs y)
on-each share [] y =
    ap (layer_of y.terms y.spent.0) (omega (arith, timed-none y.terms))
on-each share (x ∷ xs) y =
    let t = y.terms in
    let first = due_by share x y in
    let after = after_subject x y in
    let last = after_each xs after in
    on-each share xs (with_due first after)
    ∙ (λ i. with_due (due_blind xs after first share i) (after_kept xs after first i))
    ∙ ap (layer_of last.terms last.spent.0)
    (omega (arith, timed_adds last.terms first (due_each share xs after)))

-- the record with the premiums due, the recoveries and these premiums are what a layer comes to
pub borne-columns : (xs : List ℕ) (s : Sums) (y : Layer) → borne_through xs s y ≡ record {
  layer = on_each s.share xs y;
  sums = sums_of s.share (s.recovered.0 + recovered_each xs y) (s.premium.0 + due_each s.share xs y);
}
unfolding recovery_of due_of
borne-columns [] s y = λ i. record {
  layer = y;
  sums = sums_of s.share (sym (add-zero s.recovered.0) i) (sym (add-zero s.premium.0) i);
}
borne-columns (x ∷ xs) s y =
    let after = after_subject x y in
    let due = due_by s.share x y in
    let recovered : s.recovered.0 + recovery_by x y + recovered_each xs (with_due due after)
    ≡ s.recovered.0 + recovered_each (x ∷ xs) y = omega (arith, recovered_blind xs after due) in
    let premium : s.premium.0 + due + due_each s.share xs (with_due due after)
    ≡ s.premium.0 + due_each s.share (x ∷ xs) y = omega (arith, due_blind xs after due s.share) in
    borne-columns xs (borne_by x s y).sums (subject_on s.share x y)
    ∙ (λ i. record {
      layer = on_each s.share (x ∷ xs) y;
      sums = sums_of s.share (recovered i) (premium i);
    })

-- cut off at each amount or at the last, the record is the same
pub after-at-once : (xs : List ℕ) (y : Layer) → y.spent.0 ≤ cap_of y.terms
    → after_each xs y ≡ layer_after (total (losses_of xs y)) y
after-at-once [] y h = ap (λ (m : ℕ). layer_of y.terms m y.timed.0) (omega arith)
after-at-once (x ∷ xs) y h =
    after-at-once xs (after_subject x y) (omega arith)
    ∙ ap (λ (m : ℕ). layer_of y.terms m y.timed.0) (omega arith)

-- each premium due is at most its amount premium
due-each-le : (share : ℕ) → share ≤ 10000 → (xs : List ℕ) (y : Layer) → due_each share xs y ≤ charged_each xs y
due-each-le share h [] y = omega arith
due-each-le share h (x ∷ xs) y =
    omega (arith, due_le_charge share (brought_by y.terms x) y h, due-each-le share h xs (after_subject x y))

-- and without (time) it is the amount premium
due-each-plain : (share : ℕ) (xs : List ℕ) (y : Layer) → is_timed y.terms ≡ false
    → due_each share xs y ≡ charged_each xs y
unfolding due_of charge_of
due-each-plain share [] y p = refl
due-each-plain share (x ∷ xs) y p =
    let first = due-plain y.terms p share (charged_since y (after_subject x y)) in
    let rest = due-each-plain share xs (after_subject x y) p in
    λ i. first i + rest i

-- terms stay, and a result may take them from the record before
terms_stay : (xs : List ℕ) (s : Sums) (y : Layer) → (borne_through xs s y).layer.terms ≡ y.terms
terms_stay [] s y = refl
terms_stay (x ∷ xs) s y = terms_stay xs (borne_by x s y).sums (borne_by x s y).layer

pub terms-kept : (xs : List ℕ) (s : Sums) (y : Layer) (b : Borne) → b ≡ borne_through xs s y
    → record {
      layer = record { terms = y.terms; spent = b.layer.spent; timed = b.layer.timed };
      sums = b.sums;
    } ≡ borne_through xs s y
terms-kept xs s y b e =
    let same : b.layer.terms ≡ y.terms = ap (λ (r : Borne). r.layer.terms) e ∙ terms_stay xs s y in
    (λ i. record {
      layer = record { terms = sym same i; spent = b.layer.spent; timed = b.layer.timed };
      sums = b.sums;
    })
    ∙ e

module _ (xs : List ℕ) (y : Layer) (s : Sound y) where
  -- all the losses at once
  abbrev at_once : Layer
  at_once = layer_after (total (losses_of xs y)) y

  recovered-at-once : recovered_each xs y ≡ recovered_since y at_once
  recovered-at-once = omega (arith, recoveries_telescope y s.spent (losses_of xs y))

  -- the recoveries of all, and the premiums due for each
  pub borne-each : (t : Sums) → borne_through xs t y ≡ borne_with y (due_each t.share xs y) t (after_each xs y)
  borne-each t =
      let same = ap (recovered_since y) (sym (after-at-once xs y s.spent)) in
      let recovered = recovered-at-once ∙ same in
      borne-columns xs t y
      ∙ (λ i. record {
        layer = on-each t.share xs y i;
        sums = sums_of t.share (t.recovered.0 + recovered i) (t.premium.0 + due_each t.share xs y);
      })

  charged-at-once : charged_each xs y ≡ charged_since y at_once
  charged-at-once = omega (arith, charges_telescope y s.spent (losses_of xs y) s.terms.limit-low)

  -- without (time) the single recoveries and premiums add up to those of all the losses at once
  pub borne-at-once : is_timed y.terms ≡ false → (t : Sums)
      → borne_through xs t y ≡ borne_since y t (layer_after (sum_of (brought_by y.terms) xs) y)
  borne-at-once p t =
      let due : due_each t.share xs y ≡ due_since t.share y at_once =
      due-each-plain t.share xs y p ∙ charged-at-once
      ∙ sym (due-plain y.terms p t.share (charged_since y at_once)) in
      borne-each t
      ∙ (λ i. borne_with y (due i) t (after-at-once xs y s.spent i))
      ∙ ap (λ (n : ℕ). borne_since y t (layer_after n y)) (sum-map (λ (n : ℕ). n) (brought_by y.terms) xs)

  -- where the amounts bring nothing, or nothing is left under the cap, the record stays
  pub after_nothing : sum_of (brought_by y.terms) xs ≡ 0 → after_each xs y ≡ y
  after_nothing nothing =
      let none_lost = sum-map (λ (n : ℕ). n) (brought_by y.terms) xs ∙ nothing in
      after-at-once xs y s.spent
      ∙ ap (λ (m : ℕ). layer_of y.terms m y.timed.0) (omega (arith, none_lost, s.spent))

  pub after_cap : cap_of y.terms ≤ y.spent.0 → after_each xs y ≡ y
  after_cap full =
      after-at-once xs y s.spent ∙ ap (λ (m : ℕ). layer_of y.terms m y.timed.0) (omega (arith, s.spent))

  -- where it stays, nothing is recovered or charged
  module _ (still : after_each xs y ≡ y) where
    spent-same : cut_at_cap y.terms (y.spent.0 + total (losses_of xs y)) ≡ y.spent.0
    spent-same = ap (λ (z : Layer). z.spent.0) (sym (after-at-once xs y s.spent) ∙ still)

    pub recovered-still : recovered_each xs y ≡ 0
    recovered-still =
        let e = rw spent-same at (recoveries_telescope y s.spent (losses_of xs y)) in
        omega (arith, e)

    charged-still : charged_each xs y ≡ 0
    charged-still =
        let e = rw spent-same at (charges_telescope y s.spent (losses_of xs y) s.terms.limit-low) in
        omega (arith, e)

    module _ (share : ℕ) (h : share ≤ 10000) where
      pub due-still : due_each share xs y ≡ 0
      due-still = omega (arith, due-each-le share h xs y, charged-still)

      -- and no premium joins it
      pub on-still : on_each share xs y ≡ y
      on-still =
          on-each share xs y
          ∙ (λ i. with_due (due-still i) (still i))
          ∙ ap (layer_of y.terms y.spent.0) (omega (arith, timed-none y.terms))

  -- no more than the limit, once and for each reinstatement
  pub recovered-each-le : recovered_each xs y ≤ 21 * y.terms.limit
  recovered-each-le =
      omega (
        arith,
        recoveries_telescope y s.spent (losses_of xs y),
        recovered-le at_once (sound-after (total (losses_of xs y)) y s),
      )

  -- no more than the premium of every reinstatement
  pub due-total-le : (share : ℕ) → share ≤ 10000 → due_each share xs y ≤ 40 * y.terms.premium
  due-total-le share h =
      omega (
        arith,
        due-each-le share h xs y,
        charges_telescope y s.spent (losses_of xs y) s.terms.limit-low,
        premium-le y.terms s.terms at_once.spent.0,
      )

-- the layers of a tier go through the amounts each by itself
pub layers-each : (share : ℕ) (xs : List ℕ) (ls : List Layer) → layers_through share xs ls ≡ map (on_each share xs) ls
layers-each share [] ls = sym (map-id ls)
layers-each share (x ∷ xs) ls =
    layers-each share xs (layers_on share x ls) ∙ map-map (on_each share xs) (subject_on share x) ls

-- one layer's figure by the first amount, added to its figure through the others
first_and_rest : (f g : Layer → ℕ) (x : ℕ) (ls : List Layer) {n : ℕ} → n ≡ sum_of g (layers_after x ls)
    → sum_of f ls + n ≡ sum_of (λ (y : Layer). f y + g (after_subject x y)) ls
first_and_rest f g x ls e =
    ap (λ (n : ℕ). sum_of f ls + n) (e ∙ sum-map g (after_subject x) ls)
    ∙ sym (sum-add f (λ (y : Layer). g (after_subject x y)) ls)

pub recoveries-each : (xs : List ℕ) (ls : List Layer) → recoveries_through xs ls ≡ sum_of (recovered_each xs) ls
recoveries-each [] ls = sym (sum-zero ls)
recoveries-each (x ∷ xs) ls =
    first_and_rest (recovery_by x) (recovered_each xs) x ls (recoveries-each xs (layers_after x ls))

pub dues-each : (share : ℕ) (xs : List ℕ) (ls : List Layer) → dues_through share xs ls ≡ sum_of (due_each share xs) ls
dues-each share [] ls = sym (sum-zero ls)
dues-each share (x ∷ xs) ls =
    first_and_rest (due_by share x) (due_each share xs) x ls (dues-each share xs (layers_after x ls))
