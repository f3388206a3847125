-- Document 02, Q-4: "The year's timed premium is the one its layer line shows": from any year under lawful contracts
-- and by any fair shares, a run's premium on the totals is what the premiums on the layers' lines grow by, added.
-- Assumes nothing.
use mathlib.Core.Path.{◌≡◌, refl, sym, ◌∙◌, ap}
use mathlib.Core.List.{List, [], ◌∷◌, map}
use Prim.Native.Nat.{ℕ, ◌+◌, ◌≤◌}
use native.Mathlib.Omega.{arith}
use Rattle.lists.specs.Sums.{sum_of}
use Rattle.lists.specs.Each.{Each}
use Rattle.layer.specs.declared.record.Layer.{Layer}
use Rattle.layer.specs.Layer.{brought_by, after_subject, subject_on, due_by, year_premium}
use Rattle.layer.specs.Tier.{layers_through, layers_on, dues_through, dues_by}
use Rattle.layer.specs.Ranges.{Sound}
use Rattle.layer.proofs.Records.{sound-on}
use Rattle.layer.proofs.Through.{on_each, due_each, due_blind, layers-each, dues-each}
use Rattle.scale.specs.Scale.{share_on, Fair}
use Rattle.scale.proofs.Passing.{fair-on}
use Rattle.programme.specs.Contract.{Contracts}
use Rattle.programme.proofs.Lawful.{Lawful}
use Rattle.events.specs.Event.{Event}
use Rattle.year.specs.Event.{Year, left_by_treaties, subject_of, event_after, event_amounts, year_after}
use Rattle.year.specs.Statement.{event_lines, totals}
use Rattle.year.proofs.Layers.{Under, carries-sound, under-event}
use Rattle.year.proofs.YearPremiums.{year_premium_grows}

-- the premiums that layers' lines show, added, and those of both tiers
abbrev pub premiums_of : List Layer → ℕ
premiums_of ls = sum_of year_premium ls

abbrev pub year_premiums : Year → ℕ
year_premiums y = premiums_of y.risk + premiums_of y.cat

-- layers each of which grows by its own part
parts_added : (after : Layer → Layer) (part : Layer → ℕ)
    → ((y : Layer) → Sound y → year_premium (after y) ≡ year_premium y + part y)
    → (ls : List Layer) → Each Sound ls → premiums_of (map after ls) ≡ premiums_of ls + sum_of part ls
parts_added after part grows [] s = refl
parts_added after part grows (y ∷ ls) s =
    omega (arith, grows y s.0, parts_added after part grows ls s.1)

module _ (share : ℕ) (fair : share ≤ 10000) where
  -- one layer through amounts
  layer_grows : (xs : List ℕ) (y : Layer) → Sound y
      → year_premium (on_each share xs y) ≡ year_premium y + due_each share xs y
  layer_grows [] y s = omega arith
  layer_grows (x ∷ xs) y s =
      let loss = brought_by y.terms x in
      omega (
        arith,
        layer_grows xs (subject_on share x y) (sound-on share fair loss y s),
        year_premium_grows share loss y s,
        due_blind xs (after_subject x y) (due_by share x y) share,
      )

  -- a tier through amounts, and by one
  through_grows : (xs : List ℕ) (ls : List Layer) → Each Sound ls
      → premiums_of (layers_through share xs ls) ≡ premiums_of ls + dues_through share xs ls
  through_grows xs ls s =
      ap premiums_of (layers-each share xs ls)
      ∙ parts_added (on_each share xs) (due_each share xs) (layer_grows xs) ls s
      ∙ ap (λ (n : ℕ). premiums_of ls + n) (sym (dues-each share xs ls))

  tier_grows : (x : ℕ) (ls : List Layer) → Each Sound ls
      → premiums_of (layers_on share x ls) ≡ premiums_of ls + dues_by share x ls
  tier_grows x ls s =
      parts_added (subject_on share x) (due_by share x)
      (λ y h. year_premium_grows share (brought_by y.terms x) y h) ls s

module _ (shares : List ℕ) (fair : Fair shares) (c : Contracts) (lawful : Lawful c) where
  -- an event
  pub event-premium : (y : Year) (e : Event) → Under c y
      → year_premiums (event_after shares c.treaties y e)
      ≡ year_premiums y + (event_amounts shares c.treaties y e).premium
  event-premium y e u =
      let share = share_on shares e.day in
      let f = fair-on shares fair e.day in
      let risk = through_grows share f (left_by_treaties c.treaties e) y.risk
      (carries-sound c.risk y.risk lawful.risk u.risk) in
      let cat = tier_grows share f (subject_of c.treaties y e) y.cat
      (carries-sound c.cat y.cat lawful.cat u.cat) in
      omega (arith, risk, cat)

  -- the events of a run
  pub run-premium : (y : Year) (es : List Event) → Under c y
      → year_premiums (year_after shares c.treaties y es)
      ≡ year_premiums y + (totals (event_lines shares c.treaties y es)).premium
  run-premium y [] u = omega arith
  run-premium y (e ∷ es) u =
      let next = event_after shares c.treaties y e in
      omega (arith, event-premium y e u, run-premium next es (under-event shares fair c lawful y e u))
