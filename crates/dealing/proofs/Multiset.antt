-- Document 02, Q-13: "the same multiset of loss-form lists". Two lists of events have it exactly when just as many
-- events of the one as of the other have each list of losses.
-- Assumes nothing.
use mathlib.Core.Path.{◌≡◌, ap}
use mathlib.Core.Logic.{◌↔◌}
use mathlib.Core.HLevel.{Discrete}
use mathlib.Core.Nat.{ℕ as Count}
use mathlib.Core.List.{List, count, perm_iff_count, List-discrete}
use native.Mathlib.Decide.{ℕ_discrete}
use Rattle.treaty.specs.declared.Loss.{Loss}
use Rattle.treaty.specs.Treaty.{loss_of}
use Rattle.events.specs.Event.{Event}
use Rattle.dealing.specs.Dealing.{loss_lists, Dealt}

-- two losses are the same or not: by treaty, estimated maximum loss and amount
pub same-loss : Discrete Loss
same-loss x y =
    by (ℕ_discrete x.treaty y.treaty) (ℕ_discrete x.maximum y.maximum) (ℕ_discrete x.amount y.amount)
  where
    by : Dec (x.treaty ≡ y.treaty) → Dec (x.maximum ≡ y.maximum) → Dec (x.amount ≡ y.amount) → Dec (x ≡ y)
    by (yes t) (yes e) (yes g) = yes (λ i. loss_of (t i) (e i) (g i))
    by (no t) e g = no (λ q. t (ap (λ (l : Loss). l.treaty) q))
    by (yes t) (no e) g = no (λ q. e (ap (λ (l : Loss). l.maximum) q))
    by (yes t) (yes e) (no g) = no (λ q. g (ap (λ (l : Loss). l.amount) q))

-- how many events have just these losses, in this order
abbrev pub events_with : List Loss → List Event → Count
events_with xs es = count (List-discrete same-loss) xs (loss_lists es)

pub dealt_exactly : (es fs : List Event)
    → Dealt es fs ↔ ((xs : List Loss) → events_with xs es ≡ events_with xs fs)
dealt_exactly es fs = perm_iff_count (List-discrete same-loss) {l₁ = loss_lists es} {l₂ = loss_lists fs}
