-- Document 02, Q-13: "Cedants re-date events within a year and expect the same yearly recoveries. Under a table
-- without risk layers, let two histories, each from a fresh year, have the same multiset of loss-form lists, dealt to
-- days in different orders. Show that every layer ends with the same spent amount, recovered amount and untimed
-- premium, and that both have the same net. With risk layers, the same three amounts must be shown of the risk layers
-- alone; net may then differ."
-- Assumes nothing.
use Rattle.std.specs.Prelude.{◌≡◌, ℕ}
use mathlib.Core.List.{List, [], map, Perm}
use Rattle.treaty.specs.declared.Loss.{Loss}
use Rattle.layer.specs.Layer.{premium_of}
use Rattle.programme.specs.declared.contract.Programme.{Programme}
use Rattle.programme.specs.Contract.{contracts_in}
use Rattle.events.specs.Event.{Event}
use Rattle.year.specs.Tiers.{TierName, risk, in_tier}
use Rattle.year.specs.Ledger.{Entry, spent_by}
use Rattle.year.specs.History.{Call, statements_of, ledger_of_history, summed, spent_in, recoveries_in}

-- the loss-form lists of events: of each its losses, in the order of its line
abbrev pub loss_lists : List Event → List (List Loss)
loss_lists es = map (λ (e : Event). e.losses) es

-- "the same multiset of loss-form lists, dealt to days in different orders": the lists of the one are those of the
-- other in some order, each as often
abbrev pub Dealt : List Event → List Event → Type 0
Dealt es fs = Perm (loss_lists es) (loss_lists fs)

-- "Under a table without risk layers"
abbrev pub WithoutRisk : Programme → Type 0
WithoutRisk p = (contracts_in p).risk ≡ []

-- "untimed premium": each layer's amount premium, which is the one due without `(time)`, at its spent amount by the
-- ledger; also of a layer with it
abbrev pub amount_premiums_in : List Entry → List ℕ
amount_premiums_in es = map (λ (e : Entry). premium_of e.terms (spent_by e)) es

-- "the same spent amount, recovered amount and untimed premium", layer by layer of one tier
pub record SameAmounts (es fs : List Entry) : Type 0 where
  pub spent : spent_in es ≡ spent_in fs
  pub recovered : recoveries_in es ≡ recoveries_in fs
  pub premium : amount_premiums_in es ≡ amount_premiums_in fs

-- Two histories under one programme. None of this looks at time shares, so each may be under a scale of its own.
module _ (shares others : List ℕ) (p : Programme) (h k : List Call) where
  -- the three amounts of a tier's layers
  abbrev pub SameTier : TierName → Type 0
  SameTier n = SameAmounts (in_tier n (ledger_of_history shares p h)) (in_tier n (ledger_of_history others p k))

  -- the net on the total lines, added
  abbrev pub SameNet : Type 0
  SameNet = (summed (statements_of shares p h)).net ≡ (summed (statements_of others p k)).net

  -- what the two have in common
  pub record SameYear : Type 0 where
    -- "With risk layers, the same three amounts must be shown of the risk layers alone"
    pub risk-layers : SameTier risk
    -- "Under a table without risk layers .. every layer .. and .. both have the same net"
    pub every-layer : WithoutRisk p → (n : TierName) → SameTier n
    pub net : WithoutRisk p → SameNet
