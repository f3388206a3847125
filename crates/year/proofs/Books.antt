-- The ledger's entries: their terms are the contracts', their sums of recoveries are what is recovered at the spent
-- amounts, and a tier's recoveries are its layers', added.
-- Assumes nothing.
use mathlib.Core.Path.{◌≡◌, refl, sym, ◌∙◌, ap}
use mathlib.Core.List.{List, [], ◌∷◌, ◌++◌, map, map-map}
use Prim.Native.Nat.{ℕ, ◌+◌}
use native.Mathlib.Omega.{arith}
use Rattle.lists.specs.Sums.{sum_of}
use Rattle.lists.specs.Each.{Each}
use Rattle.lists.proofs.Each.{each_of, each_map}
use Rattle.lists.proofs.Sums.{sum-map, sum-add}
use Rattle.treaty.specs.declared.Treaty.{Treaty}
use Rattle.treaty.specs.declared.Loss.{Loss}
use Rattle.treaty.specs.Losses.{left_in, left_of_each}
use Rattle.layer.specs.declared.terms.Terms.{Terms}
use Rattle.layer.specs.Layer.{cut_at_cap, recovered_of}
use Rattle.layer.specs.Tier.{recoveries_by, recoveries_through}
use Rattle.layer.proofs.Recoveries.{recovered-zero, recovered_mono}
use Rattle.layer.proofs.PremiumApart.{recoveries_paid}
use Rattle.scale.specs.Scale.{share_on}
use Rattle.programme.specs.Contract.{Contracts}
use Rattle.events.specs.Event.{Event}
use Rattle.year.specs.declared.Amounts.{Amounts}
use Rattle.year.specs.Tiers.{TierName, risk, cat, in_tier}
use Rattle.year.specs.Event.{subject_of, event_after, event_amounts, Year}
use Rattle.year.specs.Statement.{EventLine, event_lines, added, totals}
use Rattle.year.specs.Ledger.{Entry, first_entry, spent_by, loss_added, recovery_added, entered, Ledger, first_ledger}
use Rattle.year.specs.Ledger.{losses_booked, booked}
use Rattle.year.specs.History.{recoveries_in, recovered_in, recoveries_of_tier}
use Rattle.year.proofs.Cutting.{cuts, cut_year, tier-cut, tier_gain, subject_from, risk_entered, grown}
use Rattle.year.proofs.Cutting.{subject_grows, event_booked, event-cut}

-- a fact of a tier's entries that every subject leaves true, on a day of any share, is true after events
module _ (P : List Entry → Type 0) (step : (share x : ℕ) (es : List Entry) → P es → P (map (entered share x) es))
    (ts : List Treaty) where
  losses_keep : (share : ℕ) (n : TierName) (earlier : List Loss) (z : ℕ) (l : Ledger) (xs : List Loss)
      → P (in_tier n l) → P (in_tier n (losses_booked share ts earlier z l xs))
  losses_keep share risk earlier z l [] h = h
  losses_keep share cat earlier z l [] h = step share z l.cat h
  losses_keep share risk earlier z l (x ∷ xs) h =
      losses_keep share risk (earlier ++ (x ∷ [])) (grown share ts z l earlier x) (risk_entered share ts l earlier x) xs
      (step share (left_in ts earlier x) l.risk h)
  losses_keep share cat earlier z l (x ∷ xs) h =
      losses_keep share cat (earlier ++ (x ∷ [])) (grown share ts z l earlier x) (risk_entered share ts l earlier x) xs
      h

  pub books_keep : (shares : List ℕ) (n : TierName) (l : Ledger) (es : List Event) → P (in_tier n l)
      → P (in_tier n (booked shares ts l es))
  books_keep shares n l [] h = h
  books_keep shares n l (e ∷ es) h =
      books_keep shares n (event_booked shares ts l e) es
      (losses_keep (share_on shares e.day) n [] 0 l e.losses h)

-- a tier without layers stays without
pub books-none : (shares : List ℕ) (ts : List Treaty) (n : TierName) (l : Ledger) (es : List Event)
    → in_tier n l ≡ [] → in_tier n (booked shares ts l es) ≡ []
books-none shares ts n =
    books_keep (λ (es : List Entry). es ≡ []) (λ share x es e. ap (map (entered share x)) e) ts shares n

-- the contracts' terms of a tier
abbrev pub tier_terms : TierName → Contracts → List Terms
tier_terms risk c = c.risk
tier_terms cat c = c.cat

abbrev pub terms_of_entries : List Entry → List Terms
terms_of_entries es = map (λ (e : Entry). e.terms) es

first-terms : (ts : List Terms) → terms_of_entries (map first_entry ts) ≡ ts
first-terms [] = refl
first-terms (t ∷ ts) = ap (λ (l : List Terms). t ∷ l) (first-terms ts)

-- nothing is spent without a loss
pub nothing-spent : (t : Terms) → cut_at_cap t 0 ≡ 0
nothing-spent t = omega arith

-- an entry's sum of recoveries is what is recovered at its spent amount
abbrev Kept : Entry → Type 0
Kept e = e.recoveries ≡ recovered_of e.terms (spent_by e)

first-kept : (t : Terms) → Kept (first_entry t)
first-kept t = sym (ap (recovered_of t) (nothing-spent t) ∙ recovered-zero t)

entered-kept : (share x : ℕ) (e : Entry) → Kept e → Kept (entered share x e)
unfolding recovery_added
entered-kept share x e k =
    omega
    (arith, k, recovered_mono e.terms (spent_by e) (cut_at_cap e.terms (e.losses + loss_added x e)) (omega arith))

all-kept : (share x : ℕ) (es : List Entry) → Each Kept es → Each Kept (map (entered share x) es)
all-kept share x [] k = tt
all-kept share x (e ∷ es) k = (entered-kept share x e k.0, all-kept share x es k.1)

all-recovered : (es : List Entry) → Each Kept es → recoveries_in es ≡ recovered_in es
all-recovered [] k = refl
all-recovered (e ∷ es) k = λ i. k.0 i ∷ all-recovered es k.1 i

-- the ledger of events from the year's beginning
module _ (shares : List ℕ) (c : Contracts) (es : List Event) where
  abbrev pub books : Ledger
  books = booked shares c.treaties (first_ledger c) es

  pub books-terms : (n : TierName) → terms_of_entries (in_tier n books) ≡ tier_terms n c
  books-terms n =
      books_keep (λ (l : List Entry). terms_of_entries l ≡ tier_terms n c)
      (λ share x l h. map-map (λ (e : Entry). e.terms) (entered share x) l ∙ h) c.treaties shares n (first_ledger c)
      es (first n)
    where
      first : (n : TierName) → terms_of_entries (in_tier n (first_ledger c)) ≡ tier_terms n c
      first risk = first-terms c.risk
      first cat = first-terms c.cat

  pub books-recovered : (n : TierName) → recoveries_in (in_tier n books) ≡ recovered_in (in_tier n books)
  books-recovered n =
      all-recovered (in_tier n books)
      (books_keep (Each Kept) all-kept c.treaties shares n (first_ledger c) es (first n))
    where
      first : (n : TierName) → Each Kept (in_tier n (first_ledger c))
      first risk = each_map Kept first_entry c.risk (each_of _ first-kept c.risk)
      first cat = each_map Kept first_entry c.cat (each_of _ first-kept c.cat)

-- a tier's recoveries, added
abbrev pub all_recoveries : List Entry → ℕ
all_recoveries es = sum_of (λ (e : Entry). e.recoveries) es

-- what amounts show of a tier, added
pub added_none : (n : TierName) → recoveries_of_tier n (added []) ≡ 0
added_none risk = refl
added_none cat = refl

pub added_more : (n : TierName) (a : Amounts) (xs : List Amounts)
    → recoveries_of_tier n (added (a ∷ xs)) ≡ recoveries_of_tier n a + recoveries_of_tier n (added xs)
added_more risk a xs = refl
added_more cat a xs = refl

tier_gains : (share x : ℕ) (es : List Entry)
    → all_recoveries (map (entered share x) es) ≡ all_recoveries es + recoveries_by x (cuts es)
tier_gains share x es =
    omega (
      arith,
      sum-map (λ (e : Entry). e.recoveries) (entered share x) es,
      sum-add (λ (e : Entry). e.recoveries) (recovery_added x) es,
      tier_gain x es,
    )

module _ (share : ℕ) (ts : List Treaty) where
  losses_gain_risk : (earlier : List Loss) (z : ℕ) (l : Ledger) (xs : List Loss)
      → all_recoveries (losses_booked share ts earlier z l xs).risk
      ≡ all_recoveries l.risk + recoveries_through (left_of_each ts earlier xs) (cuts l.risk)
  losses_gain_risk earlier z l [] = omega arith
  losses_gain_risk earlier z l (x ∷ xs) =
      let y = left_in ts earlier x in
      let ys = left_of_each ts (earlier ++ (x ∷ [])) xs in
      omega (
        arith,
        losses_gain_risk (earlier ++ (x ∷ [])) (grown share ts z l earlier x) (risk_entered share ts l earlier x) xs,
        tier_gains share y l.risk,
        ap (recoveries_through ys) (tier-cut share y l.risk),
        recoveries_paid share y ys (cuts l.risk),
      )

  losses_gain_cat : (earlier : List Loss) (z : ℕ) (l : Ledger) (xs : List Loss)
      → all_recoveries (losses_booked share ts earlier z l xs).cat
      ≡ all_recoveries l.cat + recoveries_by (subject_from ts z l earlier xs) (cuts l.cat)
  losses_gain_cat earlier z l [] =
      tier_gains share z l.cat
      ∙ ap (λ (k : ℕ). all_recoveries l.cat + recoveries_by k (cuts l.cat)) (omega arith)
  losses_gain_cat earlier z l (x ∷ xs) =
      losses_gain_cat (earlier ++ (x ∷ [])) (grown share ts z l earlier x) (risk_entered share ts l earlier x) xs
      ∙ ap (λ (k : ℕ). all_recoveries l.cat + recoveries_by k (cuts l.cat))
      (subject_grows share ts z l earlier x xs)

module _ (shares : List ℕ) (ts : List Treaty) where
  -- what an event adds is what its line shows
  event_gains : (n : TierName) (l : Ledger) (e : Event)
      → all_recoveries (in_tier n (event_booked shares ts l e))
      ≡ all_recoveries (in_tier n l) + recoveries_of_tier n (event_amounts shares ts (cut_year l) e)
  unfolding subject_of
  event_gains risk l e = losses_gain_risk (share_on shares e.day) ts [] 0 l e.losses
  event_gains cat l e =
      losses_gain_cat (share_on shares e.day) ts [] 0 l e.losses
      ∙ ap (λ (k : ℕ). all_recoveries l.cat + recoveries_by k (cuts l.cat)) (omega arith)

  -- what events add is what the totals show
  pub books_gain : (n : TierName) (l : Ledger) (es : List Event)
      → all_recoveries (in_tier n (booked shares ts l es))
      ≡ all_recoveries (in_tier n l) + recoveries_of_tier n (totals (event_lines shares ts (cut_year l) es))
  books_gain n l [] = omega (arith, added_none n)
  books_gain n l (e ∷ es) =
      omega (
        arith,
        books_gain n (event_booked shares ts l e) es,
        event_gains n l e,
        added_more n (event_amounts shares ts (cut_year l) e)
            (map (λ (k : EventLine). k.amounts) (event_lines shares ts (event_after shares ts (cut_year l) e) es)),
        ap (λ (y : Year). recoveries_of_tier n (totals (event_lines shares ts y es))) (event-cut shares ts l e),
      )

no-recoveries : (ts : List Terms) → all_recoveries (map first_entry ts) ≡ 0
no-recoveries [] = refl
no-recoveries (t ∷ ts) = omega (arith, no-recoveries ts)

pub first-none : (n : TierName) (c : Contracts) → all_recoveries (in_tier n (first_ledger c)) ≡ 0
first-none risk c = no-recoveries c.risk
first-none cat c = no-recoveries c.cat
