-- A run past 6, 8, 28 and 9: what reading its lines leaves for the statement.
-- Assumes nothing.
use mathlib.Core.Path.{◌≡◌, refl, sym, ap, ◌∙◌}
use mathlib.Core.List.{List, [], ◌∷◌}
use Prim.Native.Nat.{ℕ, ◌+◌, ◌-◌, ◌*◌, ◌≤◌}
use native.Mathlib.Omega.{arith}
use lib.ListN.{length, take, length-append}
use lib.Seq.{length-sets, take_at}
use Rattle.std.specs.Prelude.{Result}
use Rattle.refusal.specs.declared.Refused.{Refused}
use Rattle.lists.specs.Each.{Each}
use Rattle.lists.proofs.Each.{each_so}
use Rattle.text.specs.Buffer.{Put}
use Rattle.text.proofs.Puts.{put_whole}
use Rattle.treaty.specs.declared.Loss.{Loss}
use Rattle.treaty.specs.Ranges.{LossInRange}
use Rattle.programme.specs.Contract.{Contracts}
use Rattle.events.specs.Event.{Event, forms_of}
use Rattle.events.specs.Read.{EventsRead, read_from}
use Rattle.events.proofs.Reading.{EventLawful, lines-lawful}
use Rattle.year.specs.declared.Standing.{Standing}
use Rattle.losses.specs.Event.{loss_numbers, events_numbers}
use Rattle.losses.proofs.EventNumbers.{events-same}
use Rattle.booking.specs.declared.basis.Basis.{Basis}
use Rattle.booking.specs.Book.{contracts_from, line_room, lines_room}
use Rattle.reading.specs.declared.Examined.{Examined}
use Rattle.reading.specs.Examine.{idle_by, idle_in, Kept}
use Rattle.reading.proofs.LineRead.{idle-le}
use Rattle.engine.specs.Run.{RanAs, run_lines, run_events, CanState, RoomFor, CanRun, PlacesFor}

-- the lines' room by idle events and others
room_by : (es : List Event) → lines_room es + 200 * idle_in es ≡ 86 * idle_in es + 200 * length es
room_by [] = refl
room_by (e ∷ es) = omega (arith, one e.losses, room_by es)
  where
    one : (xs : List Loss) → line_room xs + 200 * idle_by xs ≡ 86 * idle_by xs + 200
    one [] = refl
    one (x ∷ xs) = refl

-- an event has two numbers or more
numbers-many : (es : List Event) → 2 * length es ≤ length (events_numbers es)
numbers-many [] = omega arith
numbers-many (e ∷ es) =
    omega (arith, length-append (loss_numbers e.losses) (events_numbers es), numbers-many es)

-- numbers that were kept stand in front
kept-front : (d d' w : List ℕ) (n : ℕ) → Put d 0 w d' (length w) → length w ≤ length d → n ≡ length w → take n d' ≡ w
kept-front d d' w n p h e = rw (put_whole h p) (take_at w _ n (sym e))

module _ {b : Basis} {s : Standing} {text d₀ : List ℕ} (can : CanRun b s text) (places : PlacesFor text d₀) where
  abbrev c : Contracts
  c = contracts_from b

  abbrev read : EventsRead
  read = read_from c.treaties 1 s.day (forms_of text)

  -- no line was
  module _ (d : List ℕ) (x : Examined) (k : Kept text d₀ d x read) where
    end_is : x.end ≡ length (events_numbers k.es)
    end_is = ap (λ (y : Examined). y.end) k.counted

    idle-is : x.idle ≡ idle_in k.es
    idle-is = ap (λ (y : Examined). y.idle) k.counted

    entered-is : x.entered ≡ length k.es - idle_in k.es
    entered-is = ap (λ (y : Examined). y.entered) k.counted

    fits_in : length (events_numbers k.es) ≤ length d₀
    fits_in = omega (arith, k.short, places.room)

    same_length : length d ≡ length d₀
    same_length = rw k.kept.bytes (length-sets d₀ 0 (events_numbers k.es))

    pub end-inside : x.end ≤ length d
    end-inside = omega (arith, end_is, fits_in, same_length)

    front : take x.end d ≡ events_numbers k.es
    front = kept-front d₀ d (events_numbers k.es) x.end k.kept fits_in end_is

    lawful : Each EventLawful k.es
    lawful = lines-lawful c.treaties 1 s.day (forms_of text) k.es k.told

    pub can_state : CanState b s (take x.end d)
    can_state = record {
      lent = can.lent;
      es = k.es;
      held = front;
      losses = each_so EventLawful (λ (e : Event). Each LossInRange e.losses) (λ e h. h.losses) k.es lawful;
      few = each_so EventLawful (λ (e : Event). length e.losses ≤ 64) (λ e h. h.few) k.es lawful;
      short = omega (arith, ap length front, k.short, can.short);
    }

    few-events : length k.es ≤ 7562
    few-events = omega (arith, numbers-many k.es, k.short, can.short)

    -- the room that the code counts
    pub small : (x.idle ≤ 7562) × (x.entered ≤ 7562) × (length b.risk.now ≤ 8) × (length b.cat.now ≤ 8)
    small = (
      omega (arith, idle-is, idle-le k.es, few-events),
      omega (arith, entered-is, few-events),
      can.lent.risk.few,
      can.lent.cat.few,
    )

    pub room_for : {room : ℕ}
        → room ≡ 86 * x.idle + 200 * (x.entered + (9 + length b.risk.now + length b.cat.now + 1))
        → RoomFor b (take x.end d) room
    room_for e = record {
      enough = λ es h.
          let same : k.es ≡ es = events-same k.es es (sym front ∙ h) in
          rw (← same) (omega (arith, e, idle-is, entered-is, idle-le k.es, room_by k.es));
    }

    -- the statement is that of the run
    pub as_run : (z z' : List ℕ) (s' : Standing) (r : Result ℕ Refused)
        → ((es : List Event) → take x.end d ≡ events_numbers es
        → RanAs (run_events b.shares.now c s es (length z)) s s' z z' r)
        → RanAs (run_lines b.shares.now c s text (length z)) s s' z z' r
    as_run z z' s' r f = rw k.told (f k.es front)
