-- Document 02, Q-12: a scale of which every share is 0 charges nothing on layers with (time). The plain ledger keeps
-- no timed premium, and the last statement shows 0 for such a layer, and for any other its amount premium.
-- Assumes nothing.
use mathlib.Core.Path.{◌≡◌, refl, sym, ap, ◌∙◌, subst}
use mathlib.Core.Bool.{Bool, true, false, cond}
use mathlib.Core.List.{List, [], ◌∷◌, map}
use Prim.Native.Nat.{ℕ, zero, suc, ◌+◌, ◌-◌, ◌*◌}
use native.Mathlib.Nat.{mul-zero}
use native.Mathlib.Omega.{arith}
use lib.ListN.{get_or, replicate}
use Rattle.lists.specs.Sums.{total}
use Rattle.lists.specs.Each.{Each}
use Rattle.arith.specs.Round.{rounded}
use Rattle.arith.proofs.Rounding.{rounded-zero}
use Rattle.treaty.specs.declared.Treaty.{Treaty}
use Rattle.layer.specs.declared.terms.Terms.{Terms}
use Rattle.layer.specs.declared.record.Layer.{Layer}
use Rattle.layer.specs.Layer.{premium_of, is_timed, charged_since, layer_after, due_for, due_of, timed_part, layer_on}
use Rattle.layer.specs.Layer.{brought_by, year_premium}
use Rattle.layer.specs.Tier.{layers_on, layers_through}
use Rattle.scale.specs.Scale.{share_on, scale_passes}
use Rattle.programme.specs.declared.contract.Programme.{Programme}
use Rattle.programme.specs.Contract.{contracts_in}
use Rattle.events.specs.Event.{Event}
use Rattle.year.specs.Tiers.{TierName, risk, cat, in_tier}
use Rattle.year.specs.Event.{Year, left_by_treaties, subject_of, event_after, year_after}
use Rattle.year.specs.Ledger.{Entry, spent_by, first_entry, first_ledger}
use Rattle.year.specs.History.{Call, statements_of, events_of_history, ledger_of_history}
use Rattle.year.specs.History.{summed, premium_shown, last_shown, premiums_in}
use Rattle.year.proofs.Cutting.{cuts, events-cut}
use Rattle.year.proofs.Following.{year_by}
use Rattle.year.proofs.EveryHistory.{none_shown, each_cut, every-history}

-- the scale of which every share is 0
unfoldable pub zero_shares : List ℕ
zero_shares = replicate 366 0

-- some text reads to it
pub zero-passes : scale_passes zero_shares ≡ true
unfolding zero_shares scale_passes
zero-passes = refl

none-at : (n i : ℕ) → ◌≡◌ {A = ℕ} (get_or (replicate n 0) i 0) 0
none-at zero i = refl
none-at (suc n) zero = refl
none-at (suc n) (suc i) = none-at n i

-- no day has a share
pub no-share : (d : ℕ) → share_on zero_shares d ≡ 0
unfolding zero_shares
no-share d = none-at 366 (d - 1)

-- nothing is due for a loss of a layer with (time)
pub none-due : (loss : ℕ) (y : Layer) → is_timed y.terms ≡ true → due_of 0 loss y ≡ 0
unfolding due_of due_for
none-due loss y timed =
    let n = charged_since y (layer_after loss y) in
    ap (λ (b : Bool). cond b (rounded (n * 0) 10000) n) timed
    ∙ ap (λ (k : ℕ). rounded k 10000) (mul-zero n)
    ∙ rounded-zero (omega arith)

-- so that nothing joins its timed premium, and nothing does without (time)
none_joins : (loss : ℕ) (y : Layer) → timed_part y.terms (due_of 0 loss y) ≡ 0
unfolding timed_part
none_joins loss y = by (is_timed y.terms) (none-due loss y)
  where
    by : (b : Bool) {n : ℕ} → (b ≡ true → n ≡ 0) → cond b n 0 ≡ 0
    by true e = e refl
    by false e = refl

-- a layer without a timed premium, and layers that all are
abbrev Unpaid : Layer → Type 0
Unpaid y = y.timed.0 ≡ 0

unpaid_on : (loss : ℕ) (y : Layer) → Unpaid y → Unpaid (layer_on 0 loss y)
unpaid_on loss y u = omega (arith, u, none_joins loss y)

tier-on : (x : ℕ) (ls : List Layer) → Each Unpaid ls → Each Unpaid (layers_on 0 x ls)
tier-on x [] u = tt
tier-on x (y ∷ ls) u = (unpaid_on (brought_by y.terms x) y u.0, tier-on x ls u.1)

tier-through : (xs : List ℕ) (ls : List Layer) → Each Unpaid ls → Each Unpaid (layers_through 0 xs ls)
tier-through [] ls u = u
tier-through (x ∷ xs) ls u = tier-through xs (layers_on 0 x ls) (tier-on x ls u)

record UnpaidYear (y : Year) : Type 0 where
  risk : Each Unpaid y.risk
  cat : Each Unpaid y.cat

unpaid_event : (ts : List Treaty) (y : Year) (e : Event) → UnpaidYear y → UnpaidYear (event_after zero_shares ts y e)
unpaid_event ts y e u = rw (no-share e.day) (record {
  risk = tier-through (left_by_treaties ts e) y.risk u.risk;
  cat = tier-on (subject_of ts y e) y.cat u.cat;
})

unpaid_events : (ts : List Treaty) (y : Year) (es : List Event) → UnpaidYear y
    → UnpaidYear (year_after zero_shares ts y es)
unpaid_events ts y [] u = u
unpaid_events ts y (e ∷ es) u = unpaid_events ts (event_after zero_shares ts y e) es (unpaid_event ts y e u)

first_unpaid : (ts : List Terms) → Each Unpaid (cuts (map first_entry ts))
first_unpaid [] = tt
first_unpaid (t ∷ ts) = (refl, first_unpaid ts)

module _ (p : Programme) (h : List Call) where
  -- the ledger's year after the history
  unpaid_after : UnpaidYear (year_by zero_shares p (events_of_history zero_shares p h))
  unpaid_after =
      let c = contracts_in p in
      let first : UnpaidYear (year_by zero_shares p []) =
      record { risk = first_unpaid c.risk; cat = first_unpaid c.cat } in
      subst UnpaidYear (sym (events-cut zero_shares c.treaties (first_ledger c) (events_of_history zero_shares p h)))
      (unpaid_events c.treaties (year_by zero_shares p []) (events_of_history zero_shares p h) first)

  -- for every programme and every history no layer has a timed premium in the ledger
  pub nothing-charged : (n : TierName) → Each (λ (e : Entry). e.timed ≡ 0) (in_tier n (ledger_of_history zero_shares p h))
  nothing-charged risk = each_cut Unpaid (ledger_of_history zero_shares p h).risk unpaid_after.risk
  nothing-charged cat = each_cut Unpaid (ledger_of_history zero_shares p h).cat unpaid_after.cat

-- a layer's premium where nothing is charged by time: 0 with (time), its amount premium without
abbrev pub untimed_premium : Entry → ℕ
untimed_premium e = cond (is_timed e.terms) 0 (premium_of e.terms (spent_by e))

premiums-untimed : (es : List Entry) → Each (λ (e : Entry). e.timed ≡ 0) es → premiums_in es ≡ map untimed_premium es
unfolding year_premium
premiums-untimed [] u = refl
premiums-untimed (e ∷ es) u =
    λ i. cond (is_timed e.terms) (u.0 i) (premium_of e.terms (spent_by e)) ∷ premiums-untimed es u.1 i

module _ (p : Programme) (h : List Call) where
  ledger_untimed : (n : TierName) → premiums_in (in_tier n (ledger_of_history zero_shares p h))
      ≡ map untimed_premium (in_tier n (ledger_of_history zero_shares p h))
  ledger_untimed n = premiums-untimed (in_tier n (ledger_of_history zero_shares p h)) (nothing-charged p h n)

  -- that is what the last statement shows of it
  pub nothing-shown : (n : TierName)
      → last_shown (premium_shown n) (none_shown n p) (statements_of zero_shares p h)
      ≡ map untimed_premium (in_tier n (ledger_of_history zero_shares p h))
  nothing-shown n = (every-history zero_shares p h).premiums n ∙ ledger_untimed n

  -- and the premiums on the total lines, added, are those of all layers, added
  pub nothing-added : (summed (statements_of zero_shares p h)).premium
      ≡ total (map untimed_premium (ledger_of_history zero_shares p h).risk)
      + total (map untimed_premium (ledger_of_history zero_shares p h).cat)
  nothing-added =
      (every-history zero_shares p h).premium
      ∙ (λ i. total (ledger_untimed risk i) + total (ledger_untimed cat i))
