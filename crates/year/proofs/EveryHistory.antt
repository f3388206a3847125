-- Demand 3, every history, under any shares: gross = net + ceded + risk + cat; the gross is the G of all losses
-- and the ceded what the treaties' formulas cede of them; what each layer and each tier have recovered; and, with
-- document 02's Q-4, each layer's premium.
-- Assumes nothing.
use mathlib.Core.Path.{◌≡◌, refl, sym, ◌∙◌, ap}
use mathlib.Core.Bool.{Bool, true, false, cond}
use mathlib.Core.List.{List, [], ◌∷◌, ◌++◌, map, map-map, append-nil, append_assoc}
use Prim.Native.Nat.{ℕ, ◌+◌, ◌≤◌}
use native.Mathlib.Omega.{arith}
use Rattle.lists.specs.Sums.{sum_of, total}
use Rattle.lists.specs.Each.{Each}
use Rattle.lists.proofs.Each.{each_mapped}
use Rattle.lists.proofs.Sums.{sum-map, map_same}
use Rattle.treaty.specs.declared.Treaty.{Treaty}
use Rattle.layer.specs.declared.terms.Terms.{Terms}
use Rattle.layer.specs.declared.record.Layer.{Layer}
use Rattle.layer.specs.Layer.{recovered_of, premium_of, is_timed, timed_most, year_premium}
use Rattle.layer.proofs.Recoveries.{recovered-zero}
use Rattle.programme.specs.declared.contract.Programme.{Programme}
use Rattle.programme.specs.Contract.{contracts_in}
use Rattle.programme.proofs.Lawful.{Lawful, valid-lawful}
use Rattle.events.specs.Event.{Event}
use Rattle.year.specs.Tiers.{TierName, risk, cat, in_tier}
use Rattle.year.specs.Event.{Year, year_after}
use Rattle.year.specs.Statement.{TreatyLine, treaty_line_of, Statement, LayerLine, layer_line_of, statement_of}
use Rattle.year.specs.Statement.{EventLine, event_lines, totals}
use Rattle.year.specs.Ledger.{Entry, spent_by, first_entry, Ledger, first_ledger}
use Rattle.year.specs.History.{Call, statements_of, events_of_history, ledger_of_history, recoveries_in, recovered_in}
use Rattle.year.specs.History.{summed, recoveries_of_tier, Balanced, gross_in, ceded_by_all}
use Rattle.year.specs.History.{recovered_shown, premium_shown, last_shown, premiums_in}
use Rattle.year.proofs.Layers.{WithinPremium}
use Rattle.year.proofs.Cutting.{cut, cuts, cut_year, booked-append}
use Rattle.year.proofs.Books.{tier_terms, nothing-spent, books, books-recovered, all_recoveries, books_gain}
use Rattle.year.proofs.Books.{first-none, added_none, added_more}
use Rattle.year.proofs.Balance.{run-balanced, lines-balanced, run-gross, run-ceded, gross-append, ceded-append}
use Rattle.year.proofs.YearPremiums.{no-premium}
use Rattle.year.proofs.PremiumGrowth.{year_premiums, run-premium}
use Rattle.year.proofs.Following.{runnable, runs-valid, runs-fair, year_by, year-under, history-under}
use Rattle.year.proofs.Following.{year-more, follow}

-- 0 for each layer of a tier, which is what a history without a statement shows
abbrev pub none_shown : TierName → Programme → List ℕ
none_shown n p = map (λ (t : Terms). 0) (tier_terms n (contracts_in p))

-- what every history comes to
pub record Adds (shares : List ℕ) (p : Programme) (h : List Call) : Type 0 where
  -- on the total lines, added
  pub balanced : Balanced (summed (statements_of shares p h))
  pub gross : (summed (statements_of shares p h)).gross ≡ gross_in (events_of_history shares p h)
  pub ceded : (summed (statements_of shares p h)).ceded
      ≡ ceded_by_all (contracts_in p).treaties (events_of_history shares p h)
  -- and on each event line
  pub lines : Each (λ (t : Statement). Each (λ (l : EventLine). Balanced l.amounts) t.events)
      (statements_of shares p h)
  -- the treaties' lines of each statement add up to its ceded
  pub treaties : Each (λ (t : Statement). t.total.ceded ≡ sum_of (λ (l : TreatyLine). l.ceded) t.treaties)
      (statements_of shares p h)
  -- each layer's line in the last statement, the ledger's sum of its recoveries, and its placed share, to the nearest
  -- cent, of its spent amount above the deductible
  pub shown : (n : TierName) → last_shown (recovered_shown n) (none_shown n p) (statements_of shares p h)
      ≡ recoveries_in (in_tier n (ledger_of_history shares p h))
  pub recovered : (n : TierName)
      → recoveries_in (in_tier n (ledger_of_history shares p h)) ≡ recovered_in (in_tier n (ledger_of_history shares p h))
  -- a tier's recoveries are its layers', added
  pub tiers : (n : TierName) → recoveries_of_tier n (summed (statements_of shares p h))
      ≡ total (recoveries_in (in_tier n (ledger_of_history shares p h)))
  -- each layer's premium on its line in the last statement is the ledger's: its timed premium, and without (time) the
  -- amount premium at its spent amount
  pub premiums : (n : TierName) → last_shown (premium_shown n) (none_shown n p) (statements_of shares p h)
      ≡ premiums_in (in_tier n (ledger_of_history shares p h))
  -- the premiums on the total lines, added, are the layers', added
  pub premium : (summed (statements_of shares p h)).premium
      ≡ total (premiums_in (ledger_of_history shares p h).risk) + total (premiums_in (ledger_of_history shares p h).cat)
  -- no timed premium is above the amount premium at the spent amount, and none is other than 0 without (time)
  pub timed : (n : TierName)
      → Each (λ (e : Entry). e.timed ≤ timed_most e.terms (spent_by e)) (in_tier n (ledger_of_history shares p h))

-- what layers' lines show, by the ledger's entries
module _ (figure : LayerLine → ℕ) where
  abbrev told_by : List Entry → List ℕ
  told_by es = map (λ (e : Entry). figure (layer_line_of (cut e))) es

  shown-cuts : (es : List Entry) → map figure (map layer_line_of (cuts es)) ≡ told_by es
  shown-cuts es =
      map-map figure layer_line_of (cuts es) ∙ map-map (λ (y : Layer). figure (layer_line_of y)) cut es

  abbrev shown_by : TierName → Statement → List ℕ
  shown_by n t = map figure (in_tier n t.layers)

  lines-shown : (n : TierName) (shares : List ℕ) (ts : List Treaty) (y : Year) (fs : List Event) (l : Ledger)
      → year_after shares ts y fs ≡ cut_year l → shown_by n (statement_of shares ts y fs) ≡ told_by (in_tier n l)
  lines-shown risk shares ts y fs l e = rw e (shown-cuts l.risk)
  lines-shown cat shares ts y fs l e = rw e (shown-cuts l.cat)

  -- before the first run, where an entry without losses has none of it
  first-shown : ((t : Terms) → figure (layer_line_of (cut (first_entry t))) ≡ 0) → (n : TierName) (p : Programme)
      → none_shown n p ≡ told_by (in_tier n (first_ledger (contracts_in p)))
  first-shown none n p = by-tier n
    where
      tier : (ts : List Terms) → map (λ (t : Terms). 0) ts ≡ told_by (map first_entry ts)
      tier ts =
          map_same (λ t. sym (none t)) ts
          ∙ sym (map-map (λ (e : Entry). figure (layer_line_of (cut e))) first_entry ts)

      by-tier : (n : TierName) → none_shown n p ≡ told_by (in_tier n (first_ledger (contracts_in p)))
      by-tier risk = tier (contracts_in p).risk
      by-tier cat = tier (contracts_in p).cat

-- an entry without losses has recovered nothing, and no premium is due
nothing-recovered : (t : Terms) → (layer_line_of (cut (first_entry t))).recovered ≡ 0
nothing-recovered t = ap (recovered_of t) (nothing-spent t) ∙ recovered-zero t

pub nothing-due : (t : Terms) → year_premium (cut (first_entry t)) ≡ 0
unfolding year_premium
nothing-due t = by (is_timed t) (ap (premium_of t) (nothing-spent t) ∙ no-premium t)
  where
    by : (b : Bool) {n : ℕ} → n ≡ 0 → cond b 0 n ≡ 0
    by true e = refl
    by false e = e

-- a fact of each layer of the ledger, of each entry
pub each_cut : (P : Layer → Type 0) (es : List Entry) → Each P (cuts es) → Each (λ (e : Entry). P (cut e)) es
each_cut P es h = each_mapped P cut es h

module _ (shares : List ℕ) (p : Programme) where
  abbrev treaties : List Treaty
  treaties = (contracts_in p).treaties

  lawful : runnable shares p ≡ true → Lawful (contracts_in p)
  lawful v = valid-lawful p (runs-valid shares p v)

  abbrev entries : TierName → List Event → List Entry
  entries n es = in_tier n (books shares (contracts_in p) es)

  balanced-after : (h : List Call) → Balanced (summed (statements_of shares p h))
  balanced-after =
      follow shares p (λ es ts gs s. Balanced (summed ts)) (λ es s g. refl)
      (λ es fs gs ts s text v q ih.
      let run = run-balanced shares (runs-fair shares p v) (contracts_in p) (lawful v) (year_by shares p es) fs
      (year-under shares p v es) in
      omega (arith, ih, run))

  gross-after : (h : List Call) → (summed (statements_of shares p h)).gross ≡ gross_in (events_of_history shares p h)
  gross-after =
      follow shares p (λ es ts gs s. (summed ts).gross ≡ gross_in gs) (λ es s g. refl)
      (λ es fs gs ts s text v q ih.
      omega (arith, ih, run-gross shares treaties (year_by shares p es) fs, gross-append fs gs))

  ceded-after : (h : List Call)
      → (summed (statements_of shares p h)).ceded ≡ ceded_by_all treaties (events_of_history shares p h)
  ceded-after =
      follow shares p (λ es ts gs s. (summed ts).ceded ≡ ceded_by_all treaties gs)
      (λ es s g. omega (arith, ceded-append treaties [] []))
      (λ es fs gs ts s text v q ih.
      let run = run-ceded shares 0 treaties (lawful v).treaties (year_by shares p es) fs in
      omega (arith, ih, run, ceded-append treaties fs gs))

  lines_after : (h : List Call)
      → Each (λ (t : Statement). Each (λ (l : EventLine). Balanced l.amounts) t.events) (statements_of shares p h)
  lines_after =
      follow shares p
      (λ es ts gs s. Each (λ (t : Statement). Each (λ (l : EventLine). Balanced l.amounts) t.events) ts)
      (λ es s g. tt)
      (λ es fs gs ts s text v q ih. (
        lines-balanced shares (runs-fair shares p v) (contracts_in p) (lawful v) (year_by shares p es) fs
            (year-under shares p v es),
        ih,
      ))

  treaties-after : (h : List Call)
      → Each (λ (t : Statement). t.total.ceded ≡ sum_of (λ (l : TreatyLine). l.ceded) t.treaties)
      (statements_of shares p h)
  treaties-after =
      follow shares p
      (λ es ts gs s.
      Each (λ (t : Statement). t.total.ceded ≡ sum_of (λ (l : TreatyLine). l.ceded) t.treaties) ts)
      (λ es s g. tt)
      (λ es fs gs ts s text v q ih. (
        run-ceded shares 0 treaties (lawful v).treaties (year_by shares p es) fs
            ∙ sym (sum-map (λ (l : TreatyLine). l.ceded) (treaty_line_of fs) treaties),
        ih,
      ))

  -- a figure of each layer's line in the last statement
  shown-after : (figure : LayerLine → ℕ) (n : TierName) (h : List Call)
      → last_shown (shown_by figure n) (told_by figure (entries n [])) (statements_of shares p h)
      ≡ told_by figure (entries n (events_of_history shares p h))
  shown-after figure n =
      follow shares p
      (λ es ts gs s.
      last_shown (shown_by figure n) (told_by figure (entries n es)) ts ≡ told_by figure (entries n (es ++ gs)))
      (λ es s g. ap (λ (k : List Event). told_by figure (entries n k)) (sym (append-nil es)))
      (λ es fs gs ts s text v q ih.
      ap (λ (none : List ℕ). last_shown (shown_by figure n) none ts)
      (lines-shown figure n shares treaties (year_by shares p es) fs (books shares (contracts_in p) (es ++ fs))
      (year-more shares p es fs))
      ∙ ih
      ∙ ap (λ (k : List Event). told_by figure (entries n k)) (append_assoc es fs gs))

  -- with 0 for each layer where there is no statement
  shown-from-none : (figure : LayerLine → ℕ) → ((t : Terms) → figure (layer_line_of (cut (first_entry t))) ≡ 0)
      → (n : TierName) (h : List Call)
      → last_shown (shown_by figure n) (none_shown n p) (statements_of shares p h)
      ≡ told_by figure (entries n (events_of_history shares p h))
  shown-from-none figure none n h =
      ap (λ (first : List ℕ). last_shown (shown_by figure n) first (statements_of shares p h))
      (first-shown figure none n p)
      ∙ shown-after figure n h

  tiers-after : (n : TierName) (h : List Call)
      → all_recoveries (entries n []) + recoveries_of_tier n (summed (statements_of shares p h))
      ≡ all_recoveries (entries n (events_of_history shares p h))
  tiers-after n =
      follow shares p
      (λ es ts gs s.
      all_recoveries (entries n es) + recoveries_of_tier n (summed ts) ≡ all_recoveries (entries n (es ++ gs)))
      (λ es s g. omega (arith, added_none n, ap (λ (k : List Event). all_recoveries (entries n k)) (append-nil es)))
      (λ es fs gs ts s text v q ih.
      omega (
        arith,
        ih,
        added_more n (totals (event_lines shares treaties (year_by shares p es) fs))
            (map (λ (t : Statement). t.total) ts),
        books_gain shares treaties n (books shares (contracts_in p) es) fs,
        ap (λ (l : Ledger). all_recoveries (in_tier n l))
            (booked-append shares treaties (first_ledger (contracts_in p)) es fs),
        ap (λ (k : List Event). all_recoveries (entries n k)) (append_assoc es fs gs),
      ))

  premium-after : (h : List Call)
      → year_premiums (year_by shares p []) + (summed (statements_of shares p h)).premium
      ≡ year_premiums (year_by shares p (events_of_history shares p h))
  premium-after =
      follow shares p
      (λ es ts gs s.
      year_premiums (year_by shares p es) + (summed ts).premium ≡ year_premiums (year_by shares p (es ++ gs)))
      (λ es s g. omega (arith, ap (λ (k : List Event). year_premiums (year_by shares p k)) (append-nil es)))
      (λ es fs gs ts s text v q ih.
      omega (
        arith,
        ih,
        run-premium shares (runs-fair shares p v) (contracts_in p) (lawful v) (year_by shares p es) fs
            (year-under shares p v es),
        ap year_premiums (year-more shares p es fs),
        ap (λ (k : List Event). year_premiums (year_by shares p k)) (append_assoc es fs gs),
      ))

  -- the premiums of entries, added
  added-premiums : (es : List Entry) → sum_of year_premium (cuts es) ≡ total (premiums_in es)
  added-premiums es =
      sum-map year_premium cut es
      ∙ sym (sum-map (λ (n : ℕ). n) (λ (e : Entry). year_premium (cut e)) es)

  none-added : (ts : List Terms) → sum_of year_premium (cuts (map first_entry ts)) ≡ 0
  none-added [] = refl
  none-added (t ∷ ts) = omega (arith, nothing-due t, none-added ts)

  timed-after : (n : TierName) (h : List Call)
      → Each (λ (e : Entry). e.timed ≤ timed_most e.terms (spent_by e)) (entries n (events_of_history shares p h))
  timed-after risk h =
      each_cut WithinPremium (entries risk (events_of_history shares p h)) (history-under shares p h).risk.timed
  timed-after cat h =
      each_cut WithinPremium (entries cat (events_of_history shares p h)) (history-under shares p h).cat.timed

  -- for every programme, every list of shares and every history
  pub every-history : (h : List Call) → Adds shares p h
  every-history h = record {
    balanced = balanced-after h;
    gross = gross-after h;
    ceded = ceded-after h;
    lines = lines_after h;
    treaties = treaties-after h;
    shown = λ n.
        shown-from-none (λ (l : LayerLine). l.recovered) nothing-recovered n h
        ∙ sym (books-recovered shares (contracts_in p) (events_of_history shares p h) n);
    recovered = λ n. books-recovered shares (contracts_in p) (events_of_history shares p h) n;
    tiers = λ n.
        omega (
          arith,
          tiers-after n h,
          first-none n (contracts_in p),
          sum-map (λ (k : ℕ). k) (λ (e : Entry). e.recoveries) (entries n (events_of_history shares p h)),
        );
    premiums = λ n. shown-from-none (λ (l : LayerLine). l.premium) nothing-due n h;
    premium =
        omega (
          arith,
          premium-after h,
          none-added (contracts_in p).risk,
          none-added (contracts_in p).cat,
          added-premiums (entries risk (events_of_history shares p h)),
          added-premiums (entries cat (events_of_history shares p h)),
        );
    timed = λ n. timed-after n h;
  }
