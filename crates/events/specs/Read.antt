-- Document 01, When a call is turned down: "9, events over 65,536 bytes. Then line by line: 10, not an event form ..
-- The first line at fault from the top decides, and on one line the lowest number. A line that gives no form ends the
-- reading."
-- Assumes nothing.
use Rattle.std.specs.Prelude.{true, false, List, [], ◌∷◌, ℕ, zero, suc, ◌+◌, ltb, length}
use Rattle.std.specs.Prelude.{Option, None, Some}
use Rattle.treaty.specs.declared.Treaty.{Treaty}
use Rattle.events.specs.Event.{Event, forms_of}
use Rattle.events.specs.Rules.{event_fault}

-- what reading comes to: a refusal with its second number, or the events
pub data EventsRead : Type 0 where
  turned_down_at : (refusal number : ℕ) → EventsRead
  events : List Event → EventsRead

-- an event before what the lines after it give
abbrev pub event_before : Event → EventsRead → EventsRead
event_before e (turned_down_at n w) = turned_down_at n w
event_before e (events es) = events (e ∷ es)

-- fault n of line w, or the line's event before what the lines after it give where n is 0
abbrev pub unless_fault : (n w : ℕ) → Event → EventsRead → EventsRead
unless_fault zero w e r = event_before e r
unless_fault (suc n) w e r = turned_down_at (suc n) w

-- The lines from number w on, after the day d: the first line at fault from the top decides. A line that is no event
-- form is fault 10.
unfoldable pub read_from : List Treaty → (w d : ℕ) → List (Option Event) → EventsRead
read_from ts w d [] = events []
read_from ts w d (None ∷ fs) = turned_down_at 10 w
read_from ts w d (Some e ∷ fs) = unless_fault (event_fault ts d e) w e (read_from ts (w + 1) e.day fs)

-- reading a text after the day d, under the table's treaties: 9, over 65,536 bytes; then line by line
unfoldable pub events_of : List Treaty → (d : ℕ) → List ℕ → EventsRead
events_of ts d s = elim (ltb 65536 (length s)) [ true ↦ turned_down_at 9 0 | false ↦ read_from ts 1 d (forms_of s) ]
