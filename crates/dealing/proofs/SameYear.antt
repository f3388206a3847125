-- Document 02, Q-13: two histories with the same multiset of loss-form lists, dealt to days in different orders and
-- cut into runs in different ways, refused runs among them. Under a table without risk layers every layer ends with
-- the same spent amount, recovered amount and untimed premium, and both have the same net. With risk layers, these
-- three amounts of the risk layers are the same. The claim stands in specs/Dealing.antt; five stronger ones are
-- refuted in Apart.
-- Assumes nothing.
use mathlib.Core.Path.{◌≡◌, sym, ap, ◌∙◌}
use mathlib.Core.List.{List, [], map}
use Prim.Native.Nat.{ℕ}
use native.Mathlib.Omega.{arith}
use Rattle.lists.specs.Sums.{sum_of, total}
use Rattle.lists.proofs.Sums.{sum-map, sum_same}
use Rattle.lists.proofs.Permutations.{sum_perm}
use Rattle.treaty.specs.declared.Treaty.{Treaty}
use Rattle.treaty.specs.declared.Loss.{Loss}
use Rattle.treaty.specs.Treaty.{taken_by}
use Rattle.treaty.specs.Losses.{gross_of}
use Rattle.layer.specs.declared.terms.Terms.{Terms}
use Rattle.layer.specs.Layer.{recovered_of, premium_of}
use Rattle.programme.specs.declared.contract.Programme.{Programme}
use Rattle.programme.specs.Contract.{contracts_in}
use Rattle.events.specs.Event.{Event}
use Rattle.year.specs.Tiers.{TierName, risk, cat, in_tier}
use Rattle.year.specs.Ledger.{first_entry, Ledger, first_ledger}
use Rattle.year.specs.History.{Call, statements_of, events_of_history, ledger_of_history, summed}
use Rattle.year.specs.History.{gross_in, ceded_by_all, recoveries_of_tier, spent_in, recoveries_in}
use Rattle.year.proofs.Books.{tier_terms, books-none}
use Rattle.year.proofs.Balance.{gross-by-event}
use Rattle.year.proofs.EveryHistory.{every-history}
use Rattle.dealing.specs.Dealing.{Dealt, WithoutRisk, amount_premiums_in, SameTier, SameNet, SameYear}
use Rattle.dealing.proofs.Brought.{by_spent, risk_dealt, cat_dealt}

-- gross and ceded are sums over the lists
module _ (es fs : List Event) (q : Dealt es fs) where
  sum_dealt : (f : List Loss → ℕ) → sum_of (λ (e : Event). f e.losses) es ≡ sum_of (λ (e : Event). f e.losses) fs
  sum_dealt f =
      sym (sum-map f (λ (e : Event). e.losses) es)
      ∙ sum_perm f q
      ∙ sum-map f (λ (e : Event). e.losses) fs

  gross_dealt : gross_in es ≡ gross_in fs
  gross_dealt = gross-by-event es ∙ sum_dealt gross_of ∙ sym (gross-by-event fs)

  ceded_dealt : (ts : List Treaty) → ceded_by_all ts es ≡ ceded_by_all ts fs
  ceded_dealt = sum_same (λ (t : Treaty). sum_dealt (taken_by t))

module _ (shares others : List ℕ) (p : Programme) (h k : List Call) where
  -- the three amounts of a tier go by its layers' spent amounts
  tier_dealt : (n : TierName)
      → ((g : Terms → ℕ → ℕ)
      → by_spent g (in_tier n (ledger_of_history shares p h)) ≡ by_spent g (in_tier n (ledger_of_history others p k)))
      → SameTier shares others p h k n
  tier_dealt n same = record {
    spent = same (λ t m. m);
    recovered = (every-history shares p h).recovered n ∙ same recovered_of ∙ sym ((every-history others p k).recovered n);
    premium = same premium_of;
  }

  -- a tier without layers has none that could differ
  pub none-same : (n : TierName) → tier_terms n (contracts_in p) ≡ [] → SameTier shares others p h k n
  none-same n none = record {
    spent = ap spent_in both-none;
    recovered = ap recoveries_in both-none;
    premium = ap amount_premiums_in both-none;
  }
    where
      first-none : (n : TierName) → tier_terms n (contracts_in p) ≡ [] → in_tier n (first_ledger (contracts_in p)) ≡ []
      first-none risk e = ap (map first_entry) e
      first-none cat e = ap (map first_entry) e

      no-entries : (shares : List ℕ) (h : List Call) → in_tier n (ledger_of_history shares p h) ≡ []
      no-entries shares h =
          books-none shares (contracts_in p).treaties n (first_ledger (contracts_in p)) (events_of_history shares p h)
          (first-none n none)

      both-none : in_tier n (ledger_of_history shares p h) ≡ in_tier n (ledger_of_history others p k)
      both-none = no-entries shares h ∙ sym (no-entries others k)

  -- a tier's recoveries
  recoveries_dealt : (n : TierName) → SameTier shares others p h k n
      → recoveries_of_tier n (summed (statements_of shares p h)) ≡ recoveries_of_tier n (summed (statements_of others p k))
  recoveries_dealt n s =
      (every-history shares p h).tiers n ∙ ap total s.recovered ∙ sym ((every-history others p k).tiers n)

  module _ (q : Dealt (events_of_history shares p h) (events_of_history others p k)) where
    abbrev ts : List Treaty
    ts = (contracts_in p).treaties

    abbrev first : Ledger
    first = first_ledger (contracts_in p)

    risk-same : SameTier shares others p h k risk
    risk-same =
        tier_dealt risk
        (λ g. risk_dealt shares others ts g first (events_of_history shares p h) (events_of_history others p k) q)

    cat-same : WithoutRisk p → SameTier shares others p h k cat
    cat-same none =
        tier_dealt cat
        (λ g. cat_dealt shares others ts g first (events_of_history shares p h) (events_of_history others p k) q
        (ap (map first_entry) none))

    -- gross and ceded are the same in any case
    pub gross-same : (summed (statements_of shares p h)).gross ≡ (summed (statements_of others p k)).gross
    gross-same =
        (every-history shares p h).gross
        ∙ gross_dealt (events_of_history shares p h) (events_of_history others p k) q
        ∙ sym (every-history others p k).gross

    pub ceded-same : (summed (statements_of shares p h)).ceded ≡ (summed (statements_of others p k)).ceded
    ceded-same =
        (every-history shares p h).ceded
        ∙ ceded_dealt (events_of_history shares p h) (events_of_history others p k) q ts
        ∙ sym (every-history others p k).ceded

    -- gross is net, ceded and both tiers' recoveries, so where the catastrophe recoveries are the same the net is
    net-same : SameTier shares others p h k cat → SameNet shares others p h k
    net-same cats =
        omega (
          arith,
          (every-history shares p h).balanced,
          (every-history others p k).balanced,
          gross-same,
          ceded-same,
          recoveries_dealt risk risk-same,
          recoveries_dealt cat cats,
        )

    -- so it is without catastrophe layers
    pub net_without_cat : (contracts_in p).cat ≡ [] → SameNet shares others p h k
    net_without_cat none = net-same (none-same cat none)

    every-tier : WithoutRisk p → (n : TierName) → SameTier shares others p h k n
    every-tier none risk = risk-same
    every-tier none cat = cat-same none

-- for every programme, every two lists of shares and every two histories
pub same-year : (shares others : List ℕ) (p : Programme) (h k : List Call)
    → Dealt (events_of_history shares p h) (events_of_history others p k) → SameYear shares others p h k
same-year shares others p h k q = record {
  risk-layers = risk-same shares others p h k q;
  every-layer = every-tier shares others p h k q;
  net = λ none. net-same shares others p h k q (cat-same shares others p h k q none);
}
