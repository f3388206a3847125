-- Document 01, When a call is turned down, with document 02's Q-4 and Q-12: what a run gives back, and what its parts
-- take.
-- Assumes nothing.
use Rattle.std.specs.Prelude.{◌≡◌, true, cond, Result, List, ℕ, ◌+◌, ◌*◌, ◌≤◌, length}
use Rattle.lists.specs.Each.{Each}
use Rattle.refusal.specs.declared.Refused.{Refused}
use Rattle.answer.specs.Outcome.{Outcome, answer_of, answered, buffer_after}
use Rattle.text.specs.Buffer.{Put}
use Rattle.treaty.specs.Ranges.{LossInRange}
use Rattle.scale.specs.Scale.{scale_passes}
use Rattle.programme.specs.declared.contract.Programme.{Programme}
use Rattle.programme.specs.Contract.{Contracts, contracts_in}
use Rattle.programme.specs.Valid.{valid}
use Rattle.events.specs.Event.{Event, forms_of, last_day}
use Rattle.events.specs.Read.{events, read_from}
use Rattle.year.specs.declared.Standing.{Standing}
use Rattle.year.specs.Statement.{statement_of, statement_text}
use Rattle.year.specs.Standing.{standing_of, year_of, standing_passes}
use Rattle.year.specs.Run.{Left, run_through, standing_after}
use Rattle.losses.specs.Event.{events_numbers}
use Rattle.booking.specs.declared.basis.Basis.{Basis}
use Rattle.booking.specs.Book.{contracts_from, Lent, lines_room, year_then}
use Rattle.engine.specs.declared.run.Ran.{Ran}

-- the answer of an outcome, and the standing after it
abbrev pub ran_of : Outcome Left → Standing → Ran
ran_of o lent = record { answer = answer_of o; standing = standing_after o lent }

-- what refuses a run before its scale and its text are looked at: 6, then 8; 0 for nothing
abbrev pub lent_fault : Programme → Standing → ℕ
lent_fault p s = cond (valid p) (cond (standing_passes (contracts_in p) s) 0 8) 6

-- a standing has eight places of each kind
pub record EightEach (s : Standing) : Type 0 where
  pub risk : length s.risk ≡ 8
  pub cat : length s.cat ≡ 8
  pub risk-timed : length s.risk_timed ≡ 8
  pub cat-timed : length s.cat_timed ≡ 8

-- a scale, a programme and a standing that have passed their tests: 28, 6 and 8
pub record Tested (shares : List ℕ) (p : Programme) (s : Standing) : Type 0 where
  pub places : EightEach s
  pub programme : valid p ≡ true
  pub standing : standing_passes (contracts_in p) s ≡ true
  pub scale : scale_passes shares ≡ true

-- the three equations of a run's promise: what it answers, what the standing s and the buffer d are after it
pub record RanAs (o : Outcome Left) (s s' : Standing) (d d' : List ℕ) (r : Result ℕ Refused) : Type 0 where
  pub answer : answered r ≡ answer_of o
  pub standing : s' ≡ standing_after o s
  pub buffer : d' ≡ buffer_after o d

-- what a run that is past 6, 8, 28 and 9 comes to, with a buffer of `room` bytes
abbrev pub run_lines : (shares : List ℕ) → Contracts → Standing → (text : List ℕ) (room : ℕ) → Outcome Left
run_lines shares c s text room = run_through shares c s room (read_from c.treaties 1 s.day (forms_of text))

-- what a run of events comes to
abbrev pub run_events : (shares : List ℕ) → Contracts → Standing → List Event → (room : ℕ) → Outcome Left
run_events shares c s es room = run_through shares c s room (events es)

-- The same by what a run goes by, from the standing s on, which is s' then, with the buffer d, which is d' then: of a
-- text, and of events.
abbrev pub RanText : Basis → (s : Standing) (text : List ℕ) (s' : Standing) (d d' : List ℕ) → Result ℕ Refused → Type 0
RanText b s text s' d d' r = RanAs (run_lines b.shares.now (contracts_from b) s text (length d)) s s' d d' r

abbrev pub RanEvents : Basis → (s : Standing) (es : List Event) (s' : Standing) (d d' : List ℕ) → Result ℕ Refused
    → Type 0
RanEvents b s es s' d d' r = RanAs (run_events b.shares.now (contracts_from b) s es (length d)) s s' d d' r

-- What a statement of events takes: a standing that the contracts may have, and events in range, as numbers. They are
-- at most those of a text of 65,536 bytes, three for 13 bytes.
pub record CanState (b : Basis) (s : Standing) (ns : List ℕ) : Type 0 where
  pub lent : Lent b s
  pub es : List Event
  pub held : ns ≡ events_numbers es
  pub losses : Each (λ (e : Event). Each LossInRange e.losses) es
  pub few : Each (λ (e : Event). length e.losses ≤ 64) es
  pub short : length ns ≤ 15124

-- the most bytes that a statement's lines after the events' have: of nine places for treaties, of the layers and of the
-- totals
abbrev pub rest_room : Basis → ℕ
rest_room b = 200 * (9 + length b.risk.now + length b.cat.now + 1)

-- The statement of events from the standing s on was put into d, which is d' then; s' is the standing after it, and n
-- its length.
pub record StatedAs (b : Basis) (s : Standing) (es : List Event) (d d' : List ℕ) (s' : Standing) (n : ℕ) : Type 0 where
  pub text : Put d 0
      (statement_text (statement_of b.shares.now (contracts_from b).treaties (year_of (contracts_from b) s) es)) d' n
  pub standing : s' ≡ standing_of (year_then b s es) (last_day s.day es)
  pub room : n ≤ lines_room es + rest_room b

-- a statement of the events has no more than `room` bytes
pub record RoomFor (b : Basis) (ns : List ℕ) (room : ℕ) : Type 0 where
  pub enough : (es : List Event) → ns ≡ events_numbers es → lines_room es + rest_room b ≤ room

-- a run that is past 6, 8, 28 and 9
pub record CanRun (b : Basis) (s : Standing) (text : List ℕ) : Type 0 where
  pub lent : Lent b s
  pub short : length text ≤ 65536

-- a place for each number of the events: three for 13 bytes of the text
pub record PlacesFor (text kept : List ℕ) : Type 0 where
  pub room : 3 * length text ≤ 13 * length kept
