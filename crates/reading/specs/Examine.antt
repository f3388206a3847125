-- Document 01, When a call is turned down: "Then line by line .. The first line at fault from the top decides .. All
-- lines are examined before a byte is written or the standing moves." What reading an events text leaves.
-- Assumes nothing.
use Rattle.std.specs.Prelude.{◌≡◌, Result, Ok, Err, List, [], ◌∷◌, ℕ, ◌-◌, ◌*◌, ◌≤◌, length}
use Rattle.refusal.specs.declared.Refused.{Refused}
use Rattle.refusal.specs.Refusal.{number_of}
use Rattle.lists.specs.Sums.{sum_of}
use Rattle.text.specs.Buffer.{Put}
use Rattle.treaty.specs.declared.Treaty.{Treaty}
use Rattle.treaty.specs.declared.Loss.{Loss}
use Rattle.events.specs.Event.{Event}
use Rattle.events.specs.Read.{EventsRead, turned_down_at, events}
use Rattle.losses.specs.Treaties.{Registered}
use Rattle.losses.specs.Event.{events_numbers}
use Rattle.reading.specs.declared.Examined.{Examined}

-- 1 for an idle event, one without losses, 0 for any other
abbrev pub idle_by : List Loss → ℕ
idle_by [] = 1
idle_by (x ∷ xs) = 0

-- how many events are idle
abbrev pub idle_in : List Event → ℕ
idle_in es = sum_of (λ (e : Event). idle_by e.losses) es

-- what it takes: a text of at most 65,536 bytes, and a table's treaties by their numbers
pub record CanRead (text : List ℕ) (register : List Treaty) : Type 0 where
  pub short : length text ≤ 65536
  pub registered : Registered register

-- what is told of events
abbrev pub read_of : List Event → Examined
read_of es = record {
  end = length (events_numbers es);
  idle = idle_in es;
  entered = length es - idle_in es;
}

-- events, told by x and kept as numbers in d, which is d' then; 13 bytes or more of the text for each three of these
pub record Kept (text d d' : List ℕ) (x : Examined) (r : EventsRead) : Type 0 where
  pub es : List Event
  pub told : r ≡ events es
  pub counted : x ≡ read_of es
  pub kept : Put d 0 (events_numbers es) d' (length (events_numbers es))
  pub short : 13 * length (events_numbers es) ≤ 3 * length text

-- What reading comes to: the refusal and its line, or the events.
abbrev pub ReadIs : (text d d' : List ℕ) → Result Examined Refused → EventsRead → Type 0
ReadIs text d d' (Err f) r = r ≡ turned_down_at (number_of f.refusal) f.number
ReadIs text d d' (Ok x) r = Kept text d d' x r
