-- The ledger's sum of losses of a layer after events: it grows by what each event's list of losses brings it, whatever
-- the day is. A risk layer is brought the losses one by one; a catastrophe layer, where there are no risk layers, all
-- that the treaties leave of them. So what goes by the spent amount does not depend on how the lists are dealt.
-- Assumes nothing.
use Prim.{Unit}
use mathlib.Core.Path.{◌≡◌, sym, ap, ◌∙◌}
use mathlib.Core.List.{List, [], ◌∷◌, ◌++◌, map, map-map}
use Prim.Native.Nat.{ℕ, ◌+◌}
use native.Mathlib.Omega.{arith}
use Rattle.lists.specs.Sums.{sum_of, total}
use Rattle.lists.proofs.Sums.{map_same}
use Rattle.treaty.specs.declared.Treaty.{Treaty}
use Rattle.treaty.specs.declared.Loss.{Loss}
use Rattle.treaty.specs.Losses.{left_in, left_of_each}
use Rattle.layer.specs.declared.terms.Terms.{Terms}
use Rattle.layer.specs.Layer.{brought_by, cut_at_cap}
use Rattle.layer.specs.Tier.{left_through}
use Rattle.layer.proofs.Tiers.{none-recovered}
use Rattle.layer.proofs.AnyOrder.{cut_any_order}
use Rattle.scale.specs.Scale.{share_on}
use Rattle.events.specs.Event.{Event}
use Rattle.year.specs.Tiers.{TierName, risk, cat, in_tier}
use Rattle.year.specs.Ledger.{Entry, entered, Ledger, losses_booked, booked}
use Rattle.year.proofs.Cutting.{cuts, subject_from, risk_entered, grown, losses-entered, event_booked}
use Rattle.year.proofs.Books.{books-none}
use Rattle.dealing.specs.Dealing.{loss_lists, Dealt}

-- a figure of each layer's terms and its sum of losses
abbrev by_sum : (Terms → ℕ → ℕ) → List Entry → List ℕ
by_sum f es = map (λ (e : Entry). f e.terms e.losses) es

-- a figure of its terms and its spent amount
abbrev pub by_spent : (Terms → ℕ → ℕ) → List Entry → List ℕ
by_spent g es = by_sum (λ (t : Terms) (n : ℕ). g t (cut_at_cap t n)) es

-- the figure after more losses, which go by the terms
abbrev after : (Terms → ℕ) → (Terms → ℕ → ℕ) → Terms → ℕ → ℕ
after more f t n = f t (n + more t)

module _ (f : Terms → ℕ → ℕ) (es : List Entry) where
  -- nothing more, and more in two steps
  none_more : by_sum f es ≡ by_sum (after (λ (t : Terms). 0) f) es
  none_more = map_same (λ (e : Entry). ap (f e.terms) (same e.losses)) es
    where
      same : (n : ℕ) → n ≡ n + 0
      same n = omega arith

  twice-more : (a b : Terms → ℕ)
      → by_sum (after a (after b f)) es ≡ by_sum (after (λ (t : Terms). a t + b t) f) es
  twice-more a b = map_same (λ (e : Entry). ap (f e.terms) (same e.losses (a e.terms) (b e.terms))) es
    where
      same : (n i j : ℕ) → n + i + j ≡ n + (i + j)
      same n i j = omega arith

  -- one subject
  one_more : (share x : ℕ)
      → by_sum f (map (entered share x) es) ≡ by_sum (after (λ (t : Terms). brought_by t x) f) es
  one_more share x = map-map (λ (e : Entry). f e.terms e.losses) (entered share x) es

module _ (ts : List Treaty) where
  -- what an event's losses bring a risk layer, and without risk layers a catastrophe layer
  abbrev risk_brought : Terms → List Loss → ℕ
  risk_brought t xs = sum_of (brought_by t) (left_of_each ts [] xs)

  abbrev cat_brought : Terms → List Loss → ℕ
  cat_brought t xs = brought_by t (total (left_of_each ts [] xs))

  -- losses in turn through the risk layers
  risk-losses : (share : ℕ) (f : Terms → ℕ → ℕ) (earlier : List Loss) (z : ℕ) (l : Ledger) (xs : List Loss)
      → by_sum f (losses_booked share ts earlier z l xs).risk
      ≡ by_sum (after (λ (t : Terms). sum_of (brought_by t) (left_of_each ts earlier xs)) f) l.risk
  risk-losses share f earlier z l [] = none_more f l.risk
  risk-losses share f earlier z l (x ∷ xs) =
      let y = left_in ts earlier x in
      let rest : Terms → ℕ = λ t. sum_of (brought_by t) (left_of_each ts (earlier ++ (x ∷ [])) xs) in
      risk-losses share f (earlier ++ (x ∷ [])) (grown share ts z l earlier x) (risk_entered share ts l earlier x) xs
      ∙ one_more (after rest f) l.risk share y
      ∙ twice-more f l.risk (λ (t : Terms). brought_by t y) rest

  -- without risk layers the catastrophe layers' subject is all that is left
  whole-subject : (l : Ledger) → l.risk ≡ [] → (xs : List Loss)
      → subject_from ts 0 l [] xs ≡ total (left_of_each ts [] xs)
  whole-subject l none xs =
      let left = ap (λ (es : List Entry). left_through (left_of_each ts [] xs) (cuts es)) none in
      omega (arith, left, none-recovered (left_of_each ts [] xs))

-- A tier in which each event adds what its losses bring, where P holds of the ledger: events add what their lists
-- bring, and so it does not matter how the lists are dealt.
module _ (ts : List Treaty) (n : TierName) (brought : Terms → List Loss → ℕ) (P : Ledger → Type 0)
    (step : (shares : List ℕ) (f : Terms → ℕ → ℕ) (l : Ledger) (e : Event) → P l
    → by_sum f (in_tier n (event_booked shares ts l e))
    ≡ by_sum (after (λ (t : Terms). brought t e.losses) f) (in_tier n l))
    (keeps : (shares : List ℕ) (l : Ledger) (e : Event) → P l → P (event_booked shares ts l e)) where
  events-more : (shares : List ℕ) (f : Terms → ℕ → ℕ) (l : Ledger) (es : List Event) → P l
      → by_sum f (in_tier n (booked shares ts l es))
      ≡ by_sum (after (λ (t : Terms). sum_of (brought t) (loss_lists es)) f) (in_tier n l)
  events-more shares f l [] h = none_more f (in_tier n l)
  events-more shares f l (e ∷ es) h =
      let rest : Terms → ℕ = λ t. sum_of (brought t) (loss_lists es) in
      events-more shares f (event_booked shares ts l e) es (keeps shares l e h)
      ∙ step shares (after rest f) l e h
      ∙ twice-more f (in_tier n l) (λ (t : Terms). brought t e.losses) rest

  events_dealt : (shares others : List ℕ) (g : Terms → ℕ → ℕ) (l : Ledger) (es fs : List Event) → Dealt es fs → P l
      → by_spent g (in_tier n (booked shares ts l es)) ≡ by_spent g (in_tier n (booked others ts l fs))
  events_dealt shares others g l es fs q h =
      let f : Terms → ℕ → ℕ = λ t m. g t (cut_at_cap t m) in
      events-more shares f l es h
      ∙ map_same (λ (e : Entry). ap (g e.terms) (cut_any_order e.terms e.losses (brought e.terms) q))
      (in_tier n l)
      ∙ sym (events-more others f l fs h)

-- A figure g of each layer's terms and spent amount, after events from the ledger l on.
module _ (shares others : List ℕ) (ts : List Treaty) (g : Terms → ℕ → ℕ) (l : Ledger) (es fs : List Event)
    (q : Dealt es fs) where
  -- of the risk layers
  pub risk_dealt : by_spent g (booked shares ts l es).risk ≡ by_spent g (booked others ts l fs).risk
  risk_dealt =
      events_dealt ts risk (risk_brought ts) (λ (l : Ledger). Unit {0})
      (λ shares f l e h. risk-losses ts (share_on shares e.day) f [] 0 l e.losses) (λ shares l e h. tt)
      shares others g l es fs q tt

  -- of the catastrophe layers, where there are no risk layers
  pub cat_dealt : l.risk ≡ [] → by_spent g (booked shares ts l es).cat ≡ by_spent g (booked others ts l fs).cat
  cat_dealt none =
      events_dealt ts cat (cat_brought ts) (λ (l : Ledger). l.risk ≡ [])
      (λ shares f l e h.
      ap (by_sum f) (losses-entered (share_on shares e.day) ts 0 l [] e.losses)
      ∙ one_more f l.cat (share_on shares e.day) (subject_from ts 0 l [] e.losses)
      ∙ ap (λ (z : ℕ). by_sum (after (λ (t : Terms). brought_by t z) f) l.cat) (whole-subject ts l h e.losses))
      (λ shares l e h. books-none shares ts risk l (e ∷ []) h)
      shares others g l es fs q none
