-- Document 01, Events and statement: "`(event D (loss T E G) (loss T E G))`: day D ..; any number of loss forms, also
-- none".
-- Assumes nothing.
use Rattle.std.specs.Prelude.{Bool, true, false, List, [], ◌∷◌, ◌++◌, map, ℕ, zero, suc, eqb, length, get_or}
use Rattle.std.specs.Prelude.{Option, None, Some}
use Rattle.lists.specs.Chains.{last_by}
use Rattle.text.specs.Bytes.{bytes}
use Rattle.text.specs.Template.{matched}
use Rattle.text.specs.Lines.{lines_of}
use Rattle.treaty.specs.declared.Loss.{Loss}
use Rattle.treaty.specs.Treaty.{loss_of}

-- an event: its day and its losses, in the order of its line
pub record Event : Type 0 where
  pub day : ℕ
  pub losses : List Loss

-- the event form, in three parts: its beginning, each of its loss forms, and the bracket (41) that ends it
abbrev pub event_text : List ℕ
event_text = bytes "(event D"

-- a loss form, with the space before it
abbrev pub loss_text : List ℕ
loss_text = bytes " (loss T E G)"

-- whether a text is that bracket alone
unfoldable pub closes : List ℕ → Bool
closes [] = false
closes (b ∷ []) = eqb b 41
closes (b ∷ a ∷ s) = false

-- the loss that a loss form's numbers make
abbrev pub loss_from : List ℕ → Loss
loss_from v = loss_of (get_or v 0 0) (get_or v 1 0) (get_or v 2 0)

-- the losses xs, and after them those of fewer than k loss forms up to the bracket that ends the line
unfoldable pub losses_up_to : ℕ → List Loss → List ℕ → Option (List Loss)
losses_up_to zero xs s = None
losses_up_to (suc k) xs s =
    elim (closes s) [
      | true ↦ Some xs
      | false ↦
          elim (matched [] loss_text s)
          [ None ↦ None | Some p ↦ losses_up_to k (xs ++ (loss_from p.0 ∷ [])) p.1 ]
    ]

-- the losses of a line from the end of its day on: it has no more loss forms than bytes
abbrev pub losses_of : List ℕ → Option (List Loss)
losses_of s = losses_up_to (suc (length s)) [] s

-- an event of a day and losses, where the losses have their form
abbrev pub dated_on : ℕ → Option (List Loss) → Option Event
dated_on d None = None
dated_on d (Some xs) = Some (record { day = d; losses = xs })

-- what a line is: an event, with any numbers, or `none` where it is no event form
unfoldable pub event_of : List ℕ → Option Event
event_of s = elim (matched [] event_text s) [ None ↦ None | Some p ↦ dated_on (get_or p.0 0 0) (losses_of p.1) ]

-- what the lines of a text are; bytes after the last line feed are no form
abbrev pub line_event : Option (List ℕ) → Option Event
line_event None = None
line_event (Some l) = event_of l

-- all of them
abbrev pub forms_of : List ℕ → List (Option Event)
forms_of s = map line_event (lines_of s)

-- the events that they state, in order; a line that gives no form ends the reading
abbrev pub stated : List (Option Event) → List Event
stated [] = []
stated (None ∷ fs) = []
stated (Some e ∷ fs) = e ∷ stated fs

-- the events that a text states
unfoldable pub stated_in : List ℕ → List Event
stated_in s = stated (forms_of s)

-- the losses of events
abbrev pub losses_in : List Event → List Loss
losses_in [] = []
losses_in (e ∷ es) = e.losses ++ losses_in es

-- the day of the last event, d without one
abbrev pub last_day : ℕ → List Event → ℕ
last_day d es = last_by (λ (e : Event). e.day) d es
