-- An idle event, one without losses, leaves the layers and the totals as they are.
-- Assumes nothing.
use mathlib.Core.Path.{◌≡◌, sym}
use mathlib.Core.List.{List, [], ◌∷◌}
use Prim.Native.Nat.{ℕ, ◌+◌, ◌-◌, ◌≤◌, zero-le}
use native.Mathlib.Omega.{arith}
use Rattle.lists.specs.Each.{Each}
use Rattle.treaty.specs.declared.Treaty.{Treaty}
use Rattle.layer.specs.declared.record.Layer.{Layer}
use Rattle.layer.specs.Ranges.{Sound}
use Rattle.layer.specs.Tier.{recoveries_by, dues_by}
use Rattle.layer.proofs.Still.{From, Still, still-from, layers-still, recoveries-still, dues-still}
use Rattle.scale.specs.Scale.{share_on, Fair}
use Rattle.scale.proofs.Passing.{fair-on}
use Rattle.events.specs.Event.{Event}
use Rattle.year.specs.declared.Amounts.{Amounts}
use Rattle.year.specs.Event.{Year, subject_of, event_after, event_amounts}
use Rattle.year.specs.Statement.{added}

-- a subject of 0 reaches no layer
from_zero : (ls : List Layer) → From 0 ls
from_zero [] = tt
from_zero (y ∷ ys) = (zero-le, from_zero ys)

-- an idle event
abbrev pub idle_on : (day : ℕ) → Event
idle_on day = record { day = day; losses = [] }

module _ (shares : List ℕ) (fair : Fair shares) (ts : List Treaty) (y : Year) (sound : Each Sound y.cat)
    (day : ℕ) where
  abbrev share : ℕ
  share = share_on shares day

  abbrev share-fair : share ≤ 10000
  share-fair = fair-on shares fair day

  still : Still (0 ∷ []) y.cat
  still = still-from (0 ∷ []) 0 (zero-le, tt) y.cat sound (from_zero y.cat)

  pub year-same : y ≡ event_after shares ts y (idle_on day)
  unfolding subject_of
  year-same =
      let cat = sym (layers-still share share-fair (0 ∷ []) y.cat sound still) in
      λ i. record { risk = y.risk; cat = cat i }

  pub amounts-none : added [] ≡ event_amounts shares ts y (idle_on day)
  unfolding subject_of
  amounts-none =
      let cat : 0 ≡ recoveries_by 0 y.cat =
      omega (arith, recoveries-still share share-fair (0 ∷ []) y.cat sound still) in
      let due : 0 ≡ 0 + dues_by share 0 y.cat =
      omega (arith, dues-still share share-fair (0 ∷ []) y.cat sound still) in
      λ i. record { gross = 0; ceded = 0; risk = 0; cat = cat i; net = 0 - cat i; premium = due i }

-- nothing more is added
pub total-same : (a : Amounts) → a ≡ added (a ∷ added [] ∷ [])
total-same a i = record {
  gross = alone a.gross i;
  ceded = alone a.ceded i;
  risk = alone a.risk i;
  cat = alone a.cat i;
  net = alone a.net i;
  premium = alone a.premium i;
}
  where
    alone : (m : ℕ) → m ≡ m + (0 + 0)
    alone m = omega arith
