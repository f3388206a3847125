-- The year's layers are the ledger's entries with their sums of losses cut off at the cap and their timed premiums,
-- event by event, whatever the time shares are.
-- Assumes nothing.
use mathlib.Core.Path.{◌≡◌, refl, sym, ◌∙◌, ap, ap₂}
use mathlib.Core.List.{List, [], ◌∷◌, ◌++◌, map}
use Prim.Native.Nat.{ℕ, ◌+◌, ◌-◌}
use native.Mathlib.Omega.{arith}
use Rattle.lists.specs.Sums.{sum_of}
use Rattle.lists.proofs.Sums.{sum-map, sum_same, map_square}
use Rattle.treaty.specs.declared.Treaty.{Treaty}
use Rattle.treaty.specs.declared.Loss.{Loss}
use Rattle.treaty.specs.Losses.{left_in, left_of_each}
use Rattle.layer.specs.declared.record.Layer.{Layer}
use Rattle.layer.specs.Layer.{recovered_of, premium_of, layer_of, recovery_of, due_for, due_of, timed_part}
use Rattle.layer.specs.Layer.{subject_on, recovery_by, due_by}
use Rattle.layer.specs.Tier.{recoveries_by, layers_on, layers_through, left_through}
use Rattle.layer.proofs.Year.{cut_again}
use Rattle.layer.proofs.PremiumApart.{left_paid}
use Rattle.scale.specs.Scale.{share_on}
use Rattle.events.specs.Event.{Event}
use Rattle.year.specs.Event.{Year, left_by_treaties, subject_of, event_after, year_after}
use Rattle.year.specs.Ledger.{Entry, spent_by, loss_added, recovery_added, due_added, entered, Ledger}
use Rattle.year.specs.Ledger.{losses_booked, booked}

-- an entry as a layer's record
abbrev pub cut : Entry → Layer
cut e = layer_of e.terms (spent_by e) e.timed

abbrev pub cuts : List Entry → List Layer
cuts es = map cut es

abbrev pub cut_year : Ledger → Year
cut_year l = record { risk = cuts l.risk; cat = cuts l.cat }

-- one subject
recovery_cut : (x : ℕ) (e : Entry) → recovery_by x (cut e) ≡ recovery_added x e
unfolding recovery_of recovery_added
recovery_cut x e =
    ap (λ (m : ℕ). recovered_of e.terms m - recovered_of e.terms (spent_by e))
    (cut_again e.terms e.losses (loss_added x e))

due-cut : (share x : ℕ) (e : Entry) → due_by share x (cut e) ≡ due_added share x e
unfolding due_of due_added
due-cut share x e =
    ap (λ (m : ℕ). due_for e.terms share (premium_of e.terms m - premium_of e.terms (spent_by e)))
    (cut_again e.terms e.losses (loss_added x e))

after-cut : (share x : ℕ) (e : Entry) → subject_on share x (cut e) ≡ cut (entered share x e)
after-cut share x e =
    ap₂ (layer_of e.terms) (cut_again e.terms e.losses (loss_added x e))
    (ap (λ (n : ℕ). e.timed + timed_part e.terms n) (due-cut share x e))

-- a tier
pub tier-cut : (share x : ℕ) (es : List Entry) → layers_on share x (cuts es) ≡ cuts (map (entered share x) es)
tier-cut share x es = map_square (subject_on share x) cut cut (entered share x) (after-cut share x) es

pub tier_gain : (x : ℕ) (es : List Entry) → recoveries_by x (cuts es) ≡ sum_of (recovery_added x) es
tier_gain x es = sum-map (recovery_by x) cut es ∙ sum_same (recovery_cut x) es

-- what the ledger's z comes to after losses, from z on
abbrev pub subject_from : List Treaty → ℕ → Ledger → (earlier losses : List Loss) → ℕ
subject_from ts z l earlier xs = z + left_through (left_of_each ts earlier xs) (cuts l.risk)

module _ (share : ℕ) (ts : List Treaty) where
  -- one loss more
  abbrev pub risk_entered : Ledger → List Loss → Loss → Ledger
  risk_entered l earlier x = record { risk = map (entered share (left_in ts earlier x)) l.risk; cat = l.cat }

  abbrev pub grown : ℕ → Ledger → List Loss → Loss → ℕ
  grown z l earlier x = z + (left_in ts earlier x - sum_of (recovery_added (left_in ts earlier x)) l.risk)

  pub subject_grows : (z : ℕ) (l : Ledger) (earlier : List Loss) (x : Loss) (xs : List Loss)
      → subject_from ts (grown z l earlier x) (risk_entered l earlier x) (earlier ++ (x ∷ [])) xs
      ≡ subject_from ts z l earlier (x ∷ xs)
  subject_grows z l earlier x xs =
      let y = left_in ts earlier x in
      let ys = left_of_each ts (earlier ++ (x ∷ [])) xs in
      omega (
        arith,
        tier_gain y l.risk,
        ap (left_through ys) (tier-cut share y l.risk),
        left_paid share y ys (cuts l.risk),
      )

  -- an event's losses
  losses-risk : (z : ℕ) (l : Ledger) (earlier xs : List Loss) → cuts (losses_booked share ts earlier z l xs).risk
      ≡ layers_through share (left_of_each ts earlier xs) (cuts l.risk)
  losses-risk z l earlier [] = refl
  losses-risk z l earlier (x ∷ xs) =
      losses-risk (grown z l earlier x) (risk_entered l earlier x) (earlier ++ (x ∷ [])) xs
      ∙ ap (layers_through share (left_of_each ts (earlier ++ (x ∷ [])) xs))
      (sym (tier-cut share (left_in ts earlier x) l.risk))

  -- after the last one every catastrophe layer has one subject
  pub losses-entered : (z : ℕ) (l : Ledger) (earlier xs : List Loss)
      → (losses_booked share ts earlier z l xs).cat ≡ map (entered share (subject_from ts z l earlier xs)) l.cat
  losses-entered z l earlier [] = ap (λ (x : ℕ). map (entered share x) l.cat) (omega arith)
  losses-entered z l earlier (x ∷ xs) =
      losses-entered (grown z l earlier x) (risk_entered l earlier x) (earlier ++ (x ∷ [])) xs
      ∙ ap (λ (k : ℕ). map (entered share k) l.cat) (subject_grows z l earlier x xs)

  losses-cat : (z : ℕ) (l : Ledger) (earlier xs : List Loss) → cuts (losses_booked share ts earlier z l xs).cat
      ≡ layers_on share (subject_from ts z l earlier xs) (cuts l.cat)
  losses-cat z l earlier xs =
      ap cuts (losses-entered z l earlier xs) ∙ sym (tier-cut share (subject_from ts z l earlier xs) l.cat)

module _ (shares : List ℕ) (ts : List Treaty) where
  -- an event
  abbrev pub event_booked : Ledger → Event → Ledger
  event_booked l e = losses_booked (share_on shares e.day) ts [] 0 l e.losses

  pub event-cut : (l : Ledger) (e : Event) → cut_year (event_booked l e) ≡ event_after shares ts (cut_year l) e
  unfolding subject_of
  event-cut l e = λ i. record { risk = losses-risk share ts 0 l [] e.losses i; cat = cat-cut i }
    where
      share : ℕ
      share = share_on shares e.day

      cat-cut : cuts (event_booked l e).cat
          ≡ layers_on share (left_through (left_by_treaties ts e) (cuts l.risk)) (cuts l.cat)
      cat-cut =
          losses-cat share ts 0 l [] e.losses
          ∙ ap (λ (k : ℕ). layers_on share k (cuts l.cat)) (omega arith)

  -- events
  pub events-cut : (l : Ledger) (es : List Event)
      → cut_year (booked shares ts l es) ≡ year_after shares ts (cut_year l) es
  events-cut l [] = refl
  events-cut l (e ∷ es) =
      events-cut (event_booked l e) es ∙ ap (λ (y : Year). year_after shares ts y es) (event-cut l e)

  pub booked-append : (l : Ledger) (es fs : List Event)
      → booked shares ts l (es ++ fs) ≡ booked shares ts (booked shares ts l es) fs
  booked-append l [] fs = refl
  booked-append l (e ∷ es) fs = booked-append (event_booked l e) es fs
