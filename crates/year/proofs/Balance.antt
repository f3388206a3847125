-- An event's gross is its net, ceded, risk and catastrophe recoveries, added, and so for the totals of a run: no
-- subtraction stops at 0.
-- Assumes nothing.
use Prim.{Unit}
use mathlib.Core.Path.{◌≡◌, refl, ap, sym, ◌∙◌}
use mathlib.Core.Bool.{true}
use mathlib.Core.List.{List, [], ◌∷◌, ◌++◌}
use Prim.Native.Nat.{ℕ, ◌+◌, ◌≤◌}
use native.Mathlib.Nat.{add-sub_of_le}
use native.Mathlib.Omega.{arith}
use Rattle.lists.specs.Sums.{sum_of, total}
use Rattle.lists.specs.Each.{Each}
use Rattle.lists.specs.Chains.{chained}
use Rattle.lists.proofs.Sums.{sum_same, sum-append, sum-add}
use Rattle.treaty.specs.declared.Treaty.{Treaty}
use Rattle.treaty.specs.declared.Loss.{Loss}
use Rattle.treaty.specs.Treaty.{taken_by}
use Rattle.treaty.specs.Losses.{gross_of, ceded_in, ceded_of_each}
use Rattle.treaty.proofs.Losses.{ceded-le-loss, all_ceded_and_left}
use Rattle.layer.specs.declared.terms.Terms.{Terms}
use Rattle.layer.specs.declared.record.Layer.{Layer}
use Rattle.layer.specs.Tier.{recoveries_by, layers_after, recoveries_through, left_through}
use Rattle.layer.proofs.Tiers.{recoveries-le-subject, recovered_and_left_through}
use Rattle.scale.specs.Scale.{Fair}
use Rattle.programme.specs.Contract.{Contracts}
use Rattle.programme.specs.Rules.{treaty_number, band_end}
use Rattle.programme.specs.Valid.{treaty_passes, layer_passes}
use Rattle.programme.proofs.Lawful.{Lawful}
use Rattle.events.specs.Event.{Event, losses_in}
use Rattle.year.specs.Event.{Year, left_by_treaties, subject_of, event_after, event_amounts}
use Rattle.year.specs.Statement.{ceded_by, event_lines, totals, EventLine}
use Rattle.year.specs.History.{Balanced, gross_in, ceded_by_all}
use Rattle.year.proofs.Treaties.{passed-cedes, events-ceded}
use Rattle.year.proofs.Layers.{Carries, carries-after, carries-sound, carries-rising, Under, under-event}

-- of each loss in turn, no more than its amount is ceded
abbrev pub CededWithin : List Treaty → (earlier losses : List Loss) → Type 0
CededWithin ts earlier [] = Unit {0}
CededWithin ts earlier (x ∷ xs) = (ceded_in ts earlier x ≤ x.amount) × CededWithin ts (earlier ++ (x ∷ [])) xs

-- of each amount in turn, no more than the amount is recovered
abbrev pub RecoveredWithin : List ℕ → List Layer → Type 0
RecoveredWithin [] ls = Unit {0}
RecoveredWithin (y ∷ ys) ls = (recoveries_by y ls ≤ y) × RecoveredWithin ys (layers_after y ls)

-- no subtraction of an event stops at 0: not where the treaties cede, not where the risk layers recover, and not where
-- the catastrophe layers do
pub record Exact (ts : List Treaty) (y : Year) (e : Event) : Type 0 where
  pub ceded : CededWithin ts [] e.losses
  pub risk : RecoveredWithin (left_by_treaties ts e) y.risk
  pub cat : recoveries_by (subject_of ts y e) y.cat ≤ subject_of ts y e

-- so of events in turn
abbrev pub ExactFrom : (shares : List ℕ) → List Treaty → Year → List Event → Type 0
ExactFrom shares ts y [] = Unit {0}
ExactFrom shares ts y (e ∷ es) = Exact ts y e × ExactFrom shares ts (event_after shares ts y e) es

-- treaties with a cede of at most 10,000 cede within the amounts
ceded-within : (ts : List Treaty) → Each (λ (t : Treaty). t.cede ≤ 10000) ts → (earlier xs : List Loss)
    → CededWithin ts earlier xs
ceded-within ts c earlier [] = tt
ceded-within ts c earlier (x ∷ xs) = (ceded-le-loss ts c earlier x, ceded-within ts c (earlier ++ (x ∷ [])) xs)

-- layers with terms that pass recover no more than their subject
module _ (ts : List Terms) (passes : chained layer_passes band_end 0 ts ≡ true) where
  within-subject : (x : ℕ) (ls : List Layer) → Carries ts ls → recoveries_by x ls ≤ x
  within-subject x ls k = recoveries-le-subject x ls (carries-sound ts ls passes k) (carries-rising ts ls passes k)

  recovered-within : (ys : List ℕ) (ls : List Layer) → Carries ts ls → RecoveredWithin ys ls
  recovered-within [] ls k = tt
  recovered-within (y ∷ ys) ls k =
      (within-subject y ls k, recovered-within ys (layers_after y ls) (carries-after ts passes ls y k))

module _ (c : Contracts) (lawful : Lawful c) where
  -- so it is of an event under lawful contracts
  pub event-exact : (y : Year) (e : Event) → Under c y → Exact c.treaties y e
  event-exact y e u = record {
    ceded = ceded-within c.treaties (passed-cedes 0 c.treaties lawful.treaties) [] e.losses;
    risk = recovered-within c.risk lawful.risk (left_by_treaties c.treaties e) y.risk u.risk;
    cat = within-subject c.cat lawful.cat (subject_of c.treaties y e) y.cat u.cat;
  }

  -- what the risk layers recover and leave of amounts in turn are the amounts
  pub through-balanced : (ys : List ℕ) (ls : List Layer) → Carries c.risk ls
      → total ys ≡ recoveries_through ys ls + left_through ys ls
  through-balanced ys ls k =
      sym (recovered_and_left_through ys ls (carries-sound c.risk ls lawful.risk k)
      (carries-rising c.risk ls lawful.risk k))

module _ (shares : List ℕ) (fair : Fair shares) (c : Contracts) (lawful : Lawful c) where
  -- so of events
  pub events-exact : (y : Year) (es : List Event) → Under c y → ExactFrom shares c.treaties y es
  events-exact y [] u = tt
  events-exact y (e ∷ es) u =
      let next = event_after shares c.treaties y e in
      (event-exact c lawful y e u, events-exact next es (under-event shares fair c lawful y e u))

  -- net never goes below 0: the catastrophe recoveries and the net are their subject
  pub net-exact : (y : Year) (e : Event) → Under c y
      → (event_amounts shares c.treaties y e).cat + (event_amounts shares c.treaties y e).net
      ≡ subject_of c.treaties y e
  net-exact y e u = add-sub_of_le (event-exact c lawful y e u).cat

  -- an event's amounts are balanced
  pub event-balanced : (y : Year) (e : Event) → Under c y → Balanced (event_amounts shares c.treaties y e)
  unfolding subject_of
  event-balanced y e u =
      omega (
        arith,
        all_ceded_and_left c.treaties (passed-cedes 0 c.treaties lawful.treaties) [] e.losses,
        through-balanced c lawful (left_by_treaties c.treaties e) y.risk u.risk,
        net-exact y e u,
      )

  -- and so are the totals of a run
  pub run-balanced : (y : Year) (es : List Event) → Under c y
      → Balanced (totals (event_lines shares c.treaties y es))
  run-balanced y [] u = refl
  run-balanced y (e ∷ es) u =
      let next = event_after shares c.treaties y e in
      omega (arith, event-balanced y e u, run-balanced next es (under-event shares fair c lawful y e u))

  -- and so is each event line
  pub lines-balanced : (y : Year) (es : List Event) → Under c y
      → Each (λ (l : EventLine). Balanced l.amounts) (event_lines shares c.treaties y es)
  lines-balanced y [] u = tt
  lines-balanced y (e ∷ es) u =
      let next = event_after shares c.treaties y e in
      (event-balanced y e u, lines-balanced next es (under-event shares fair c lawful y e u))

-- the gross of a run is that of its losses
pub run-gross : (shares : List ℕ) (ts : List Treaty) (y : Year) (es : List Event)
    → (totals (event_lines shares ts y es)).gross ≡ gross_in es
run-gross shares ts y [] = refl
run-gross shares ts y (e ∷ es) =
    rw sum-append (ap (λ (n : ℕ). gross_of e.losses + n) (run-gross shares ts (event_after shares ts y e) es))

-- the ceded of a run is that of its events
lines-ceded : (shares : List ℕ) (ts : List Treaty) (y : Year) (es : List Event)
    → (totals (event_lines shares ts y es)).ceded ≡ sum_of (λ (e : Event). total (ceded_of_each ts [] e.losses)) es
lines-ceded shares ts y [] = refl
lines-ceded shares ts y (e ∷ es) =
    ap (λ (n : ℕ). total (ceded_of_each ts [] e.losses) + n) (lines-ceded shares ts (event_after shares ts y e) es)

-- the ceded of a run is what the treaties' formulas cede of its losses, added
pub run-ceded : (shares : List ℕ) (n : ℕ) (ts : List Treaty) → chained treaty_passes treaty_number n ts ≡ true
    → (y : Year) (es : List Event) → (totals (event_lines shares ts y es)).ceded ≡ ceded_by_all ts es
run-ceded shares n ts p y es = lines-ceded shares ts y es ∙ events-ceded n ts p es

-- the gross of events is that of each, added
pub gross-by-event : (es : List Event) → gross_in es ≡ sum_of (λ (e : Event). gross_of e.losses) es
gross-by-event [] = refl
gross-by-event (e ∷ es) =
    omega (arith, sum-append (λ (x : Loss). x.amount) e.losses (losses_in es), gross-by-event es)

-- and of events put together
pub gross-append : (es fs : List Event) → gross_in (es ++ fs) ≡ gross_in es + gross_in fs
gross-append es fs =
    omega (
      arith,
      gross-by-event (es ++ fs),
      sum-append (λ (e : Event). gross_of e.losses) es fs,
      gross-by-event es,
      gross-by-event fs,
    )

-- what the treaties cede of events put together
pub ceded-append : (ts : List Treaty) (es fs : List Event)
    → ceded_by_all ts (es ++ fs) ≡ ceded_by_all ts es + ceded_by_all ts fs
ceded-append ts es fs =
    sum_same (λ t. sum-append (λ (e : Event). taken_by t e.losses) es fs) ts
    ∙ sum-add (ceded_by es) (ceded_by fs) ts
