-- After every history of a valid programme under a scale that some text reads to, its standing is never refused: a
-- later run is accepted whenever its text is read after the history's last day and its statement fits the buffer.
-- Assumes nothing.
use mathlib.Core.Path.{◌≡◌, ◌∙◌, ap}
use mathlib.Core.Bool.{true}
use mathlib.Core.List.{List, ◌++◌, append-nil, append_assoc}
use Prim.Native.Nat.{ℕ, ◌≤◌}
use native.Mathlib.Omega.{arith}
use lib.ListN.{length}
use Rattle.lists.proofs.Chains.{last-append}
use Rattle.scale.specs.Scale.{scale_passes}
use Rattle.programme.specs.declared.contract.Programme.{Programme}
use Rattle.programme.specs.Contract.{contracts_in}
use Rattle.programme.specs.Valid.{valid}
use Rattle.events.specs.Event.{Event, last_day}
use Rattle.events.specs.Read.{events, events_of}
use Rattle.events.proofs.Reading.{read-days}
use Rattle.year.specs.declared.Standing.{Standing}
use Rattle.year.specs.Statement.{statement_text}
use Rattle.year.specs.Standing.{standing_passes}
use Rattle.year.specs.Run.{accepted, run_under}
use Rattle.year.specs.History.{Call, standing_of_history, events_of_history, ends_on}
use Rattle.year.proofs.Layers.{year-passes}
use Rattle.year.proofs.Running.{statement_from, standing_from, passed-runs}
use Rattle.year.proofs.Following.{runnable, year_by, year-under, follow, stands}

module _ (shares : List ℕ) (p : Programme) where
  -- no history ends past day 366
  pub ends_by : (h : List Call) → ends_on shares p h ≤ 366
  ends_by h =
      follow shares p (λ es ts gs s. last_day 0 es ≤ 366 → last_day 0 (es ++ gs) ≤ 366)
      (λ es s g d. rw append-nil d)
      (λ es fs gs ts s text v q ih d.
      rw (← append_assoc es fs gs)
      (ih (rw (last-append (λ (e : Event). e.day) 0 es fs)
      (read-days (contracts_in p).treaties (last_day 0 es) text fs d q))))
      h (omega arith)

  module _ (h : List Call) (v : valid p ≡ true) (f : scale_passes shares ≡ true) where
    runs : runnable shares p ≡ true
    runs = rw (v, f)

    standing-passes : standing_passes (contracts_in p) (standing_of_history shares p h) ≡ true
    standing-passes =
        let es = events_of_history shares p h in
        ap (standing_passes (contracts_in p)) ((stands shares p h).after runs)
        ∙ year-passes (contracts_in p) (year_by shares p es) (ends_on shares p h) (ends_by h)
        (year-under shares p runs es)

    -- for every text and every buffer
    pub later-accepted : (text : List ℕ) (room : ℕ) (es : List Event)
        → events_of (contracts_in p).treaties (ends_on shares p h) text ≡ events es
        → length (statement_text (statement_from shares (contracts_in p) (standing_of_history shares p h) es)) ≤ room
        → run_under shares p (standing_of_history shares p h) text room
        ≡ accepted (statement_from shares (contracts_in p) (standing_of_history shares p h) es)
        (standing_from shares (contracts_in p) (standing_of_history shares p h) es)
    later-accepted text room es read fits =
        passed-runs shares p (standing_of_history shares p h) text room es (record {
          programme = v;
          standing = standing-passes;
          scale = f;
          read =
              ap (λ (s : Standing). events_of (contracts_in p).treaties s.day text) ((stands shares p h).after runs)
              ∙ read;
          fits = fits;
        })
