-- Document 02, Q-13, as users see it. Of a tier whose three amounts are the same in two histories the last statement
-- of each shows the same recovered amounts, and without (time) the same premiums, and the standing holds the same
-- spent amounts. Where that is so of both tiers, without (time), the rest of the year is answered alike.
-- Assumes nothing.
use mathlib.Core.Path.{◌≡◌, refl, sym, ap, ◌∙◌, subst}
use mathlib.Core.Bool.{false}
use mathlib.Core.List.{List, [], ◌∷◌, map}
use Prim.Native.Nat.{ℕ, ◌≤◌}
use native.Mathlib.Omega.{arith}
use lib.ListN.{take}
use Rattle.lists.specs.Each.{Each}
use Rattle.lists.specs.Places.{in_places}
use Rattle.lists.proofs.Each.{each_mapped}
use Rattle.layer.specs.declared.terms.Terms.{Terms}
use Rattle.layer.specs.Layer.{premium_of, is_timed, timed_most}
use Rattle.layer.proofs.Dues.{timed-plain, year-plain}
use Rattle.programme.specs.declared.contract.Programme.{Programme}
use Rattle.programme.specs.Contract.{contracts_in}
use Rattle.year.specs.declared.Standing.{Standing}
use Rattle.year.specs.Tiers.{TierName, risk, cat, in_tier}
use Rattle.year.specs.Ledger.{Entry, spent_by}
use Rattle.year.specs.History.{Call, standing_of_history, statements_of, events_of_history, ledger_of_history, ends_on}
use Rattle.year.specs.History.{recovered_shown, premium_shown, last_shown, premiums_in, timed_in, spent_in}
use Rattle.year.proofs.Cutting.{cut}
use Rattle.year.proofs.Books.{tier_terms, terms_of_entries, books-terms}
use Rattle.year.proofs.Untimed.{NoneTimed}
use Rattle.year.proofs.AfterHistory.{standing-told}
use Rattle.year.proofs.EqualHistories.{Alike, equal_histories}
use Rattle.year.proofs.EveryHistory.{none_shown, every-history}
use Rattle.dealing.specs.Dealing.{amount_premiums_in, SameTier}

-- entries of layers without (time)
abbrev PlainEntries : List Entry → Type 0
PlainEntries es = Each (λ (e : Entry). is_timed e.terms ≡ false) es

-- the premium shown of them is the amount premium, and no timed premium is kept
plain-premiums : (es : List Entry) → PlainEntries es → premiums_in es ≡ amount_premiums_in es
plain-premiums [] u = refl
plain-premiums (e ∷ es) u =
    let first = year-plain e.terms u.0 (cut e) refl in
    λ i. first i ∷ plain-premiums es u.1 i

none-timed : (es : List Entry) → PlainEntries es → Each (λ (e : Entry). e.timed ≤ timed_most e.terms (spent_by e)) es
    → timed_in es ≡ map (λ (t : Terms). 0) (terms_of_entries es)
unfolding timed_most
none-timed [] u within = refl
none-timed (e ∷ es) u within =
    let first : e.timed ≡ 0 =
    omega (arith, within.0, timed-plain e.terms u.0 (premium_of e.terms (spent_by e))) in
    λ i. first i ∷ none-timed es u.1 within.1 i

module _ (shares : List ℕ) (p : Programme) (h : List Call) (n : TierName) where
  abbrev entries : List Entry
  entries = in_tier n (ledger_of_history shares p h)

  -- the ledger's terms are the contracts'
  terms : terms_of_entries entries ≡ tier_terms n (contracts_in p)
  terms = books-terms shares (contracts_in p) (events_of_history shares p h) n

  plain : NoneTimed (tier_terms n (contracts_in p)) → PlainEntries entries
  plain u =
      each_mapped (λ (t : Terms). is_timed t ≡ false) (λ (e : Entry). e.terms) entries
      (subst NoneTimed (sym terms) u)

-- a standing's spent amounts of a tier
abbrev pub spent_held : TierName → Standing → List ℕ
spent_held risk s = s.risk
spent_held cat s = s.cat

module _ (shares others : List ℕ) (p : Programme) (h k : List Call) (n : TierName)
    (same : SameTier shares others p h k n) where
  pub recovered-shown : last_shown (recovered_shown n) (none_shown n p) (statements_of shares p h)
      ≡ last_shown (recovered_shown n) (none_shown n p) (statements_of others p k)
  recovered-shown =
      (every-history shares p h).shown n ∙ same.recovered ∙ sym ((every-history others p k).shown n)

  pub premium-shown : NoneTimed (tier_terms n (contracts_in p))
      → last_shown (premium_shown n) (none_shown n p) (statements_of shares p h)
      ≡ last_shown (premium_shown n) (none_shown n p) (statements_of others p k)
  premium-shown u =
      (every-history shares p h).premiums n
      ∙ plain-premiums (entries shares p h n) (plain shares p h n u)
      ∙ same.premium
      ∙ sym (plain-premiums (entries others p k n) (plain others p k n u))
      ∙ sym ((every-history others p k).premiums n)

  pub spent-held : spent_held n (standing_of_history shares p h) ≡ spent_held n (standing_of_history others p k)
  spent-held =
      held shares h n ∙ ap (λ (ms : List ℕ). in_places 0 (take 8 ms)) same.spent ∙ sym (held others k n)
    where
      held : (shares : List ℕ) (h : List Call) (n : TierName) → spent_held n (standing_of_history shares p h)
          ≡ in_places 0 (take 8 (spent_in (in_tier n (ledger_of_history shares p h))))
      held shares h risk = ap (λ (s : Standing). s.risk) (standing-told shares p h)
      held shares h cat = ap (λ (s : Standing). s.cat) (standing-told shares p h)

-- where both end on the same day, under one scale
module _ (shares : List ℕ) (p : Programme) (h k : List Call) where
  pub later-alike : ((n : TierName) → SameTier shares shares p h k n)
      → ((n : TierName) → NoneTimed (tier_terms n (contracts_in p))) → ends_on shares p h ≡ ends_on shares p k
      → Alike shares p h k
  later-alike same plain-terms day = (equal_histories shares p h k day).1 (λ n. (same n).spent, timed)
    where
      nothing : (h : List Call) (n : TierName)
          → timed_in (in_tier n (ledger_of_history shares p h)) ≡ map (λ (t : Terms). 0) (tier_terms n (contracts_in p))
      nothing h n =
          none-timed (entries shares p h n) (plain shares p h n (plain-terms n)) ((every-history shares p h).timed n)
          ∙ ap (map (λ (t : Terms). 0)) (terms shares p h n)

      timed : (n : TierName)
          → timed_in (in_tier n (ledger_of_history shares p h)) ≡ timed_in (in_tier n (ledger_of_history shares p k))
      timed n = nothing h n ∙ sym (nothing k n)
