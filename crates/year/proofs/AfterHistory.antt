-- The standing after every history, refused runs included: each layer's spent amount is the ledger's sum of its
-- losses, cut off at its cap, its timed premium is the ledger's, unused places hold 0, and the day is that of the last
-- event of an accepted run, or 0.
-- Assumes nothing.
use mathlib.Core.Path.{◌≡◌, sym, ◌∙◌, ap}
use mathlib.Core.Bool.{true, false}
use mathlib.Core.List.{List, [], map, map-map}
use Prim.Native.Nat.{ℕ, ◌≤◌}
use lib.ListN.{length, take, length-map}
use lib.Seq.{take_all}
use Rattle.lists.specs.Places.{in_places}
use Rattle.lists.proofs.Cases.{by_test}
use Rattle.layer.specs.declared.terms.Terms.{Terms}
use Rattle.layer.specs.declared.record.Layer.{Layer}
use Rattle.programme.specs.declared.contract.Programme.{Programme}
use Rattle.programme.specs.Contract.{Contracts, contracts_in}
use Rattle.programme.proofs.Lawful.{valid-lawful}
use Rattle.events.specs.Event.{Event, last_day}
use Rattle.year.specs.declared.Standing.{Standing}
use Rattle.year.specs.Tiers.{risk, cat}
use Rattle.year.specs.Ledger.{Entry, first_entry, Ledger}
use Rattle.year.specs.History.{Call, standing_of_history, events_of_history, ledger_of_history, ends_on}
use Rattle.year.specs.History.{spent_in, timed_in}
use Rattle.year.proofs.Cutting.{cut, cuts}
use Rattle.year.proofs.Books.{books, terms_of_entries, books-terms}
use Rattle.year.proofs.Following.{runnable, runs-valid, stands, none-places, none-spent, none-timed}

-- amounts in a standing's eight places; only a programme that no table text reads to can have more of them
abbrev eight : List ℕ → List ℕ
eight ns = in_places 0 (take 8 ns)

-- the standing as the ledger tells it after events
abbrev pub standing_told : (ledger : Ledger) (day : ℕ) → Standing
standing_told l d = record {
  risk = eight (spent_in l.risk);
  cat = eight (spent_in l.cat);
  day = d;
  risk_timed = eight (timed_in l.risk);
  cat_timed = eight (timed_in l.cat);
}

-- an amount of a layer's record, and so of an entry
module _ (held : Layer → ℕ) where
  -- of each entry
  abbrev held_in : List Entry → List ℕ
  held_in es = map (λ (e : Entry). held (cut e)) es

  -- at most eight layers of a tier
  tier-told : (es : List Entry) (ts : List Terms) → terms_of_entries es ≡ ts → length ts ≤ 8
      → in_places 0 (map held (cuts es)) ≡ eight (held_in es)
  tier-told es ts e few =
      let n : length (held_in es) ≤ 8 = rw length-map (rw (← e, length-map) at few) in
      rw (map-map held cut es, take_all 8 (held_in es) n)

  -- any number of layers without losses
  nothing-told : ((t : Terms) → held (cut (first_entry t)) ≡ 0) → (ts : List Terms)
      → in_places 0 [] ≡ eight (held_in (map first_entry ts))
  nothing-told none ts = none-places held none 8 ts ∙ rw (map-map held cut (map first_entry ts))

module _ (shares : List ℕ) (p : Programme) (h : List Call) where
  abbrev c : Contracts
  c = contracts_in p

  -- the standing as the history's ledger tells it
  abbrev told : Standing
  told = standing_told (ledger_of_history shares p h) (ends_on shares p h)

  by-valid : runnable shares p ≡ true → standing_of_history shares p h ≡ told
  by-valid v =
      let g = valid-lawful p (runs-valid shares p v) in
      let l = ledger_of_history shares p h in
      let terms = books-terms shares c (events_of_history shares p h) in
      (stands shares p h).after v
      ∙ λ i. record {
        risk = tier-told (λ (y : Layer). y.spent.0) l.risk c.risk (terms risk) g.few-risk i;
        cat = tier-told (λ (y : Layer). y.spent.0) l.cat c.cat (terms cat) g.few-cat i;
        day = ends_on shares p h;
        risk_timed = tier-told (λ (y : Layer). y.timed.0) l.risk c.risk (terms risk) g.few-risk i;
        cat_timed = tier-told (λ (y : Layer). y.timed.0) l.cat c.cat (terms cat) g.few-cat i;
      }

  by-invalid : runnable shares p ≡ false → standing_of_history shares p h ≡ told
  by-invalid v =
      let g = (stands shares p h).none v in
      g.0
      ∙ (λ i. record {
        risk = nothing-told (λ (y : Layer). y.spent.0) none-spent c.risk i;
        cat = nothing-told (λ (y : Layer). y.spent.0) none-spent c.cat i;
        day = 0;
        risk_timed = nothing-told (λ (y : Layer). y.timed.0) none-timed c.risk i;
        cat_timed = nothing-told (λ (y : Layer). y.timed.0) none-timed c.cat i;
      })
      ∙ ap (λ (es : List Event). standing_told (books shares c es) (last_day 0 es)) (sym g.1)

  -- for every programme, every list of shares and every history
  pub standing-told : standing_of_history shares p h
      ≡ standing_told (ledger_of_history shares p h) (ends_on shares p h)
  standing-told = by_test (runnable shares p) (λ v. by-valid (sym v)) (λ v. by-invalid (sym v))
