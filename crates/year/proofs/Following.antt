-- A history followed run by run, under any shares: its standing is that of the ledger's year, and what holds of no run
-- and of one accepted run more in front holds of every history. Shares that no scale text reads to are refused each
-- time, as is a programme that no table text reads to.
-- Assumes nothing.
use mathlib.Core.Path.{◌≡◌, refl, sym, ◌∙◌, ap, ap₂, subst}
use mathlib.Core.Bool.{Bool, true, false, ◌&&◌}
use mathlib.Core.List.{List, [], ◌∷◌, ◌++◌, map, map-map, map-id, append-nil, append_assoc}
use Prim.Native.Nat.{ℕ, zero, suc, ◌-◌, ◌≤◌}
use native.Mathlib.Omega.{arith}
use lib.ListN.{length, take, replicate, length-map}
use lib.Seq.{take_all}
use Rattle.lists.specs.Places.{in_places}
use Rattle.lists.proofs.Cases.{by_test}
use Rattle.lists.proofs.Chains.{both, last-append}
use Rattle.lists.proofs.Each.{each_of, each_map}
use Rattle.layer.specs.declared.terms.Terms.{Terms}
use Rattle.layer.specs.declared.record.Layer.{Layer}
use Rattle.scale.specs.Scale.{scale_passes, Fair}
use Rattle.scale.proofs.Passing.{passes-fair}
use Rattle.answer.specs.Outcome.{Outcome}
use Rattle.programme.specs.declared.contract.Programme.{Programme}
use Rattle.programme.specs.Contract.{contracts_in}
use Rattle.programme.specs.Valid.{valid}
use Rattle.programme.proofs.Lawful.{valid-lawful}
use Rattle.events.specs.Event.{Event, last_day}
use Rattle.events.specs.Read.{events, events_of}
use Rattle.events.proofs.Reading.{read-stated}
use Rattle.year.specs.declared.Standing.{Standing}
use Rattle.year.specs.Event.{Year, year_after}
use Rattle.year.specs.Statement.{Statement, statement_of}
use Rattle.year.specs.Standing.{fresh, standing_of, year_of}
use Rattle.year.specs.Run.{Left, standing_after}
use Rattle.year.specs.Ledger.{Entry, first_entry, first_ledger, events_if, events_fed}
use Rattle.year.specs.History.{Call, outcome_of, standing_in, statement_before, statements_in, is_accepted, fed_in}
use Rattle.year.specs.History.{standing_of_history, statements_of, events_of_history}
use Rattle.year.proofs.Layers.{Carries, Under, WithinCap, WithinPremium, under-events, year-loads}
use Rattle.year.proofs.Cutting.{cut, cuts, cut_year, events-cut, booked-append}
use Rattle.year.proofs.Books.{nothing-spent, books}
use Rattle.year.proofs.Running.{Ran, stays, moves, ran, statement_from, standing_from}

-- Something that a layer without losses holds none of: none of it stands in eight places or any other number of them.
module _ (held : Layer → ℕ) (none : (t : Terms) → held (cut (first_entry t)) ≡ 0) where
  abbrev none_held : List Terms → List ℕ
  none_held ts = map held (cuts (map first_entry ts))

  pub none-places : (n : ℕ) (ts : List Terms)
      → replicate n 0 ≡ take n (none_held ts) ++ replicate (n - length (take n (none_held ts))) 0
  none-places zero ts = refl
  none-places (suc n) [] = ap (λ (k : ℕ). replicate k 0) whole
    where
      whole : suc n ≡ suc n - 0
      whole = omega arith
  none-places (suc n) (t ∷ ts) = ap₂ ◌∷◌ (sym (none t)) (none-places n ts ∙ rw rest)
    where
      rest : suc n - suc (length (take n (none_held ts))) ≡ n - length (take n (none_held ts))
      rest = omega arith

  all_none : (ts : List Terms) → length ts ≤ 8 → in_places 0 [] ≡ in_places 0 (none_held ts)
  all_none ts h = none-places 8 ts ∙ rw (take_all 8 (none_held ts) few)
    where
      few : length (none_held ts) ≤ 8
      few = rw (length-map, length-map, length-map) h

-- nothing is spent, and no timed premium is due
pub none-spent : (t : Terms) → (cut (first_entry t)).spent.0 ≡ 0
none-spent t = nothing-spent t

pub none-timed : (t : Terms) → (cut (first_entry t)).timed.0 ≡ 0
none-timed t = refl

-- before the first run a year is under its contracts
first-carries : (ts : List Terms) → Carries ts (cuts (map first_entry ts))
first-carries ts = record {
  terms = map-map _ cut (map first_entry ts) ∙ map-map _ first_entry ts ∙ map-id ts;
  spent = each_map WithinCap cut (map first_entry ts) (each_of _ (λ e. omega arith) (map first_entry ts));
  timed = each_map WithinPremium cut (map first_entry ts)
      (each_map (λ (e : Entry). WithinPremium (cut e)) first_entry ts (each_of _ (λ t. omega arith) ts));
}

module _ (shares : List ℕ) (p : Programme) where
  -- whether runs can be accepted: both are read from some text
  abbrev pub runnable : Bool
  runnable = valid p && scale_passes shares

  module _ (v : runnable ≡ true) where
    pub runs-valid : valid p ≡ true
    runs-valid = (both (valid p) (scale_passes shares) v).0

    pub runs-scale : scale_passes shares ≡ true
    runs-scale = (both (valid p) (scale_passes shares) v).1

    pub runs-fair : Fair shares
    runs-fair = passes-fair shares runs-scale

  -- the year of the ledger after events, and its standing
  abbrev pub year_by : List Event → Year
  year_by es = cut_year (books shares (contracts_in p) es)

  abbrev pub standing_by : List Event → Standing
  standing_by es = standing_of (year_by es) (last_day 0 es)

  pub year-more : (es fs : List Event)
      → year_after shares (contracts_in p).treaties (year_by es) fs ≡ year_by (es ++ fs)
  year-more es fs =
      sym (events-cut shares (contracts_in p).treaties (books shares (contracts_in p) es) fs)
      ∙ ap cut_year (sym (booked-append shares (contracts_in p).treaties (first_ledger (contracts_in p)) es fs))

  -- the standing after the events es; where no run can be accepted there are none
  pub record Stands (s : Standing) (es : List Event) : Type 0 where
    pub after : runnable ≡ true → s ≡ standing_by es
    pub none : runnable ≡ false → (s ≡ fresh) × (es ≡ [])

  fresh-stands : Stands fresh []
  fresh-stands = record {
    after = λ v. let g = valid-lawful p (runs-valid v) in λ i. record {
      risk = all_none (λ (y : Layer). y.spent.0) none-spent (contracts_in p).risk g.few-risk i;
      cat = all_none (λ (y : Layer). y.spent.0) none-spent (contracts_in p).cat g.few-cat i;
      day = 0;
      risk_timed = all_none (λ (y : Layer). y.timed.0) none-timed (contracts_in p).risk g.few-risk i;
      cat_timed = all_none (λ (y : Layer). y.timed.0) none-timed (contracts_in p).cat g.few-cat i;
    };
    none = λ v. (refl, refl);
  }

module _ (shares : List ℕ) (p : Programme) where
  -- the ledger's year is under the contracts: no layer is spent above its cap or charged above its amount premium
  first_under : Under (contracts_in p) (year_by shares p [])
  first_under = record { risk = first-carries (contracts_in p).risk; cat = first-carries (contracts_in p).cat }

  pub year-under : runnable shares p ≡ true → (es : List Event) → Under (contracts_in p) (year_by shares p es)
  year-under v es =
      let c = contracts_in p in
      subst (Under c) (sym (events-cut shares c.treaties (first_ledger c) es))
      (under-events shares (runs-fair shares p v) c (valid-lawful p (runs-valid shares p v)) (year_by shares p []) es
      first_under)

  -- a run that is accepted after the events es: its statement, and the standing after its own events fs
  module _ (s : Standing) (es fs : List Event) (v : runnable shares p ≡ true) (e : s ≡ standing_by shares p es) where
    year-is : year_of (contracts_in p) s ≡ year_by shares p es
    year-is =
        ap (year_of (contracts_in p)) e
        ∙ year-loads (contracts_in p) (year_by shares p es) (last_day 0 es) (year-under v es)

    statement-is : statement_from shares (contracts_in p) s fs
        ≡ statement_of shares (contracts_in p).treaties (year_by shares p es) fs
    statement-is = ap (λ (y : Year). statement_of shares (contracts_in p).treaties y fs) year-is

    standing-moves : Stands shares p (standing_from shares (contracts_in p) s fs) (es ++ fs)
    standing-moves = record {
      after = λ _.
          ap₂ standing_of
          (ap (λ (y : Year). year_after shares (contracts_in p).treaties y fs) year-is ∙ year-more shares p es fs)
          (ap (λ (r : Standing). last_day r.day fs) e ∙ sym (last-append (λ (e : Event). e.day) 0 es fs));
      none = λ f. absurd (clash (sym v ∙ f));
    }
      where
        clash : true ≡ false → ⊥
        clash q = let z : ◌≡◌ {A = ℕ} 0 1 = cc in omega arith

  -- Φ of the events before, and of the statements, the events and the standing of what follows
  module _
      (Φ : List Event → List Statement → List Event → Standing → Type 0)
      (done : (es : List Event) (s : Standing) → Stands shares p s es → Φ es [] [] s)
      (more : (es fs gs : List Event) (ts : List Statement) (s : Standing) (text : List ℕ) → runnable shares p ≡ true
      → events_of (contracts_in p).treaties (last_day 0 es) text ≡ events fs → Φ (es ++ fs) ts gs s
      → Φ es (statement_of shares (contracts_in p).treaties (year_by shares p es) fs ∷ ts) (fs ++ gs) s) where
    abbrev Holds : List Event → Standing → List Call → Type 0
    Holds es s cs =
        Φ es (statements_in shares p s cs) (events_fed (fed_in shares p s cs)) (standing_in shares p s cs)

    through : (cs : List Call) (es : List Event) (s : Standing) → Stands shares p s es → Holds es s cs
    through [] es s g = done es s g
    through (c ∷ cs) es s g =
        go (through cs) (outcome_of shares p s c) (ran shares p s c.text (length c.buffer))
      where
        go : ((fs : List Event) (r : Standing) → Stands shares p r fs → Holds fs r cs) → (o : Outcome Left)
            → Ran shares p s c.text (length c.buffer) o
            → Φ es (statement_before o (statements_in shares p (standing_after o s) cs))
            (events_if (is_accepted o) c.text ++ events_fed (fed_in shares p (standing_after o s) cs))
            (standing_in shares p (standing_after o s) cs)
        go ih o (stays n w) = ih es s g
        go ih o (moves fs q) =
            let v : runnable shares p ≡ true = rw (q.programme, q.scale) in
            let e : s ≡ standing_by shares p es = g.after v in
            let read : events_of (contracts_in p).treaties (last_day 0 es) c.text ≡ events fs =
            ap (λ (r : Standing). events_of (contracts_in p).treaties r.day c.text) (sym e) ∙ q.read in
            rw (
              statement-is s es fs v e,
              read-stated (contracts_in p).treaties (last_day 0 es) c.text fs read,
            )
            (more es fs _ _ _ c.text v read (ih (es ++ fs) _ (standing-moves s es fs v e)))

    pub follow : (h : List Call)
        → Φ [] (statements_of shares p h) (events_of_history shares p h) (standing_of_history shares p h)
    follow h = through h [] fresh (fresh-stands shares p)

  -- the standing that a history leaves
  pub stands : (h : List Call) → Stands shares p (standing_of_history shares p h) (events_of_history shares p h)
  stands =
      follow (λ es ts gs s. Stands shares p s (es ++ gs)) (λ es s g. rw append-nil g)
      (λ es fs gs ts s text v q ih. rw (← append_assoc es fs gs) ih)

  -- its ledger's year is under the contracts, also where no run can be accepted
  pub history-under : (h : List Call) → Under (contracts_in p) (year_by shares p (events_of_history shares p h))
  history-under h =
      by_test (runnable shares p) (λ v. year-under (sym v) (events_of_history shares p h))
      (λ v.
      subst (λ (es : List Event). Under (contracts_in p) (year_by shares p es)) (sym ((stands h).none (sym v)).1)
      first_under)

  -- the year with which a later run begins
  pub year-from : (h : List Call) → runnable shares p ≡ true
      → year_of (contracts_in p) (standing_of_history shares p h) ≡ year_by shares p (events_of_history shares p h)
  year-from h v = year-is (standing_of_history shares p h) (events_of_history shares p h) [] v ((stands h).after v)
