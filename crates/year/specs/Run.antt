-- Document 01, When a call is turned down: "Running, in this order: 6; 8 ..; 9 .. Then line by line .. Then 7,
-- statement longer than the buffer. The second number is 0 with 6, 8 and 9, the line with 10 to 14, the needed length
-- with 7. .. All lines are examined before a byte is written or the standing moves. .. A success returns the length of
-- the text written; the bytes past it are unchanged." A refusal leaves standing and buffer as lent. Document 02, Q-12:
-- 28 "is, after 6 and 8 and before 9, a run .. lent a scale no text reads to".
-- Assumes nothing.
use Rattle.std.specs.Prelude.{true, false, List, ℕ}
use Rattle.answer.specs.Outcome.{Outcome, refused, written, fitted}
use Rattle.scale.specs.Scale.{time_shares, scale_passes}
use Rattle.programme.specs.declared.contract.Programme.{Programme}
use Rattle.programme.specs.Contract.{Contracts, contracts_in}
use Rattle.programme.specs.Valid.{valid}
use Rattle.events.specs.Event.{last_day}
use Rattle.events.specs.Read.{EventsRead, turned_down_at, events, events_of}
use Rattle.year.specs.declared.Standing.{Standing}
use Rattle.year.specs.Event.{year_after}
use Rattle.year.specs.Statement.{Statement, statement_of, statement_text}
use Rattle.year.specs.Standing.{standing_of, year_of, standing_passes}

-- what an accepted run leaves: the statement, whose text is written, and the new standing
pub record Left : Type 0 where
  pub statement : Statement
  pub standing : Standing

-- an accepted run
abbrev pub accepted : Statement → Standing → Outcome Left
accepted t s = written (statement_text t) (record { statement = t; standing = s })

-- a statement for a buffer of `room` bytes, with the standing that is left
abbrev pub statement_fitted : (room : ℕ) → Statement → Standing → Outcome Left
statement_fitted room t s = fitted room (statement_text t) (record { statement = t; standing = s })

-- the refusal of an events text, or its events from the standing on; without an event the last day stays
abbrev pub run_through : (shares : List ℕ) → Contracts → Standing → (room : ℕ) → EventsRead → Outcome Left
run_through shares c s room (turned_down_at n w) = refused n w
run_through shares c s room (events es) =
    statement_fitted room (statement_of shares c.treaties (year_of c s) es)
    (standing_of (year_after shares c.treaties (year_of c s) es) (last_day s.day es))

-- the contracts from a standing on, by a scale: 28, where no scale text reads to the shares; then the events text
unfoldable pub run_by : (shares : List ℕ) → Contracts → Standing → (text : List ℕ) (room : ℕ) → Outcome Left
run_by shares c s text room =
    elim (scale_passes shares)
    [ true ↦ run_through shares c s room (events_of c.treaties s.day text) | false ↦ refused 28 0 ]

-- before it 8, a standing that breaks a rule
unfoldable pub run_from : (shares : List ℕ) → Contracts → Standing → (text : List ℕ) (room : ℕ) → Outcome Left
run_from shares c s text room =
    elim (standing_passes c s) [ true ↦ run_by shares c s text room | false ↦ refused 8 0 ]

-- a run that is lent time shares: 6 first, where no table text reads to the programme
unfoldable pub run_under : (shares : List ℕ) → Programme → Standing → (text : List ℕ) (room : ℕ) → Outcome Left
run_under shares p s text room =
    elim (valid p) [ true ↦ run_from shares (contracts_in p) s text room | false ↦ refused 6 0 ]

-- a run that is lent none: it is the one that is lent the built-in shares
abbrev pub run_of : Programme → Standing → (text : List ℕ) (room : ℕ) → Outcome Left
run_of p s text room = run_under time_shares p s text room

-- the standing after it: as lent, or the new one
abbrev pub standing_after : Outcome Left → Standing → Standing
standing_after (refused n w) lent = lent
standing_after (written t after) lent = after.standing
