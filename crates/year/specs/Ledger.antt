-- Document 01, The year, second paragraph, with document 02's Q-4: the plain ledger. It is fed the programme, each
-- run's events text and whether the run was accepted; never a standing. With the run it shares the formulas of treaties
-- and layers, the share of a day and what a line of an events text states, and nothing else.
-- Assumes nothing.
use Rattle.std.specs.Prelude.{Bool, true, false, List, [], ◌∷◌, ◌++◌, map, ℕ, ◌+◌, ◌-◌}
use Rattle.lists.specs.Sums.{sum_of}
use Rattle.treaty.specs.declared.Treaty.{Treaty}
use Rattle.treaty.specs.declared.Loss.{Loss}
use Rattle.treaty.specs.Losses.{left_in}
use Rattle.layer.specs.declared.terms.Terms.{Terms}
use Rattle.layer.specs.Layer.{brought_by, cut_at_cap, recovered_of, premium_of, due_for, timed_part}
use Rattle.scale.specs.Scale.{share_on}
use Rattle.programme.specs.declared.contract.Programme.{Programme}
use Rattle.programme.specs.Contract.{Contracts, contracts_in}
use Rattle.events.specs.Event.{Event, stated_in}
use Rattle.year.specs.Tiers.{Tiers}

-- "For each layer it keeps a sum of losses and a sum of recoveries"; the year's timed premium, "kept in the plain
-- ledger as the sum over the layer's losses"
pub record Entry : Type 0 where
  pub terms : Terms
  pub losses : ℕ
  pub recoveries : ℕ
  pub timed : ℕ

-- ", first 0."
abbrev pub first_entry : Terms → Entry
first_entry t = record { terms = t; losses = 0; recoveries = 0; timed = 0 }

-- "That sum, cut off at the cap, is the layer's spent amount."
abbrev pub spent_by : Entry → ℕ
spent_by e = cut_at_cap e.terms e.losses

-- "the loss that y brings it"
abbrev pub loss_added : ℕ → Entry → ℕ
loss_added y e = brought_by e.terms y

-- "A loss's recovery is recovered after it less recovered before it, both from the sum of losses cut off at the cap."
unfoldable pub recovery_added : ℕ → Entry → ℕ
recovery_added y e =
    recovered_of e.terms (cut_at_cap e.terms (e.losses + loss_added y e))
    - recovered_of e.terms (cut_at_cap e.terms e.losses)

-- "its amount premium .. × the day's time share / 10,000": the amount premium of a loss is that after it less that
-- before it, likewise
unfoldable pub due_added : (share y : ℕ) → Entry → ℕ
due_added share y e =
    due_for e.terms share
    (premium_of e.terms (cut_at_cap e.terms (e.losses + loss_added y e))
    - premium_of e.terms (cut_at_cap e.terms e.losses))

-- a layer "adds to its sums the loss that y brings it and that loss's recovery", and with (time) what is due for it
abbrev pub entered : (share y : ℕ) → Entry → Entry
entered share y e = record {
  terms = e.terms;
  losses = e.losses + loss_added y e;
  recoveries = e.recoveries + recovery_added y e;
  timed = e.timed + timed_part e.terms (due_added share y e);
}

-- the entries of both tiers
abbrev pub Ledger : Type 0
Ledger = Tiers (List Entry)

-- before the first run
abbrev pub first_ledger : Contracts → Ledger
first_ledger c = record { risk = map first_entry c.risk; cat = map first_entry c.cat }

-- "Each loss in turn leaves y, its g less what is ceded of it. Every risk layer adds to its sums .. Then z grows by y
-- less these recoveries. After the last loss, every cat layer adds likewise for subject z."
abbrev pub losses_booked : (share : ℕ) → List Treaty → (earlier : List Loss) (z : ℕ) → Ledger → List Loss → Ledger
losses_booked share ts earlier z l [] = record { risk = l.risk; cat = map (entered share z) l.cat }
losses_booked share ts earlier z l (x ∷ xs) =
    losses_booked share ts (earlier ++ (x ∷ []))
    (z + (left_in ts earlier x - sum_of (recovery_added (left_in ts earlier x)) l.risk))
    (record { risk = map (entered share (left_in ts earlier x)) l.risk; cat = l.cat })
    xs

-- "goes through its events in order, with z at 0 before each"; each has the share of its day
abbrev pub booked : (shares : List ℕ) → List Treaty → Ledger → List Event → Ledger
booked shares ts l [] = l
booked shares ts l (e ∷ es) =
    booked shares ts (losses_booked (share_on shares e.day) ts [] 0 l e.losses) es

-- what the ledger is fed of a run: its events text, and whether it was accepted
pub record Fed : Type 0 where
  pub text : List ℕ
  pub accepted : Bool

-- "A refused run changes nothing. An accepted run goes through its events"
abbrev pub events_if : Bool → List ℕ → List Event
events_if true s = stated_in s
events_if false s = []

-- the events of the runs, in order
abbrev pub events_fed : List Fed → List Event
events_fed [] = []
events_fed (f ∷ fs) = events_if f.accepted f.text ++ events_fed fs

-- the ledger after the runs
abbrev pub ledger_of : (shares : List ℕ) → Programme → List Fed → Ledger
ledger_of shares p fs = booked shares (contracts_in p).treaties (first_ledger (contracts_in p)) (events_fed fs)
