-- Document 01, Layers, last paragraph, and Events and statement, with document 02's Q-4: what the events of a run take
-- to be booked, and what they leave, by lent contracts and time shares, from a standing on.
-- Assumes nothing.
use Rattle.std.specs.Prelude.{◌≡◌, List, [], ◌∷◌, map, ℕ, ◌^◌, ◌≤◌, length, replicate}
use Rattle.lists.specs.Sums.{sum_of}
use Rattle.lists.specs.Each.{Each}
use Rattle.text.specs.Buffer.{Put}
use Rattle.text.specs.Lines.{joined}
use Rattle.treaty.specs.declared.Treaty.{Treaty}
use Rattle.treaty.specs.declared.Loss.{Loss}
use Rattle.treaty.specs.Ranges.{LossInRange}
use Rattle.programme.specs.Contract.{Contracts}
use Rattle.events.specs.Event.{Event, last_day}
use Rattle.year.specs.declared.Amounts.{Amounts}
use Rattle.year.specs.Event.{Year, event_after, event_amounts, year_after}
use Rattle.year.specs.declared.Standing.{Standing}
use Rattle.year.specs.Standing.{year_of, standing_of}
use Rattle.year.specs.Statement.{EventLine, event_lines, totals, amounts_numbers, event_shown, line_text}
use Rattle.standings.specs.Tier.{CanBear}
use Rattle.losses.specs.Cede.{losses_from, ceded_added}
use Rattle.losses.specs.Treaties.{treaties_from}
use Rattle.losses.specs.Event.{events_numbers}
use Rattle.booking.specs.declared.basis.Basis.{Basis}
use Rattle.booking.specs.declared.book.Booked.{Booked}

-- the contracts that a run goes by
abbrev pub contracts_from : Basis → Contracts
contracts_from b = record { treaties = treaties_from b.register.now; risk = b.risk.now; cat = b.cat.now }

-- layers that a table may have, and a standing that these may have
pub record Lent (b : Basis) (s : Standing) : Type 0 where
  pub risk : CanBear b.risk.now s.risk s.risk_timed
  pub cat : CanBear b.cat.now s.cat s.cat_timed

-- What an event takes: at most 64 losses in range, and a place for each number T whose amount leaves room for what is
-- ceded.
pub record CanEnterEvent (b : Basis) (ls : List ℕ) (s : Standing) (cs : List ℕ) : Type 0 where
  pub lent : Lent b s
  pub losses : Each LossInRange (losses_from ls)
  pub few : length (losses_from ls) ≤ 64
  pub nine : length cs ≡ 9
  pub amounts : Each (λ (n : ℕ). n ≤ 2 ^ 62) cs

-- The event e came to r in the year of the standing s. After it, before the day is moved on, the standing is s', and
-- what each treaty cedes was added to its place of cs, which are cs' then.
pub record EventEntered (b : Basis) (s : Standing) (e : Event) (s' : Standing) (cs cs' : List ℕ) (r : Amounts) : Type 0
  where
    pub amounts : r
        ≡ event_amounts b.shares.now (contracts_from b).treaties (year_of (contracts_from b) s) e
    pub standing : s'
        ≡ standing_of
        (event_after b.shares.now (contracts_from b).treaties (year_of (contracts_from b) s) e) s.day
    pub cessions : cs' ≡ ceded_added (contracts_from b).treaties [] cs e.losses

-- amounts with room for those of an event more
abbrev pub RoomForMore : Amounts → Type 0
RoomForMore a = Each (λ (n : ℕ). n ≤ 2 ^ 62) (amounts_numbers a)

-- what events take: as numbers they are at most those of a text of 65,536 bytes, three for 13 bytes
pub record CanBookEvents (b : Basis) (events : List ℕ) (s : Standing) (cs : List ℕ) : Type 0 where
  pub lent : Lent b s
  pub es : List Event
  pub held : events ≡ events_numbers es
  pub losses : Each (λ (e : Event). Each LossInRange e.losses) es
  pub few : Each (λ (e : Event). length e.losses ≤ 64) es
  pub short : length events ≤ 15124
  pub cessions : cs ≡ replicate 9 0

-- the most bytes that an event's line has, by its losses, and those of events
abbrev pub line_room : List Loss → ℕ
line_room [] = 86
line_room (x ∷ xs) = 200

abbrev pub lines_room : List Event → ℕ
lines_room es = sum_of (λ (e : Event). line_room e.losses) es

-- what each treaty cedes of events, added to the amounts cs, one for each number T
abbrev pub ceded_through : List Treaty → List ℕ → List Event → List ℕ
ceded_through ts cs [] = cs
ceded_through ts cs (e ∷ es) = ceded_through ts (ceded_added ts [] cs e.losses) es

-- the year after events from a standing on
abbrev pub year_then : Basis → Standing → List Event → Year
year_then b s es = year_after b.shares.now (contracts_from b).treaties (year_of (contracts_from b) s) es

-- the lines of these events
abbrev pub lines_then : Basis → Standing → List Event → List EventLine
lines_then b s es = event_lines b.shares.now (contracts_from b).treaties (year_of (contracts_from b) s) es

-- The events es were booked from the standing s on, and their lines put into d, which is d' then. The standing is s',
-- what each treaty cedes is in its place of cs', and r is what else is left.
pub record EventsBooked (b : Basis) (s : Standing) (es : List Event) (d d' : List ℕ) (s' : Standing) (cs' : List ℕ)
    (r : Booked) : Type 0 where
  pub lent : Lent b s'
  pub year : year_of (contracts_from b) s' ≡ year_then b s es
  pub standing : s' ≡ standing_of (year_then b s es) (last_day s.day es)
  pub total : r.total ≡ totals (lines_then b s es)
  pub lines : Put d 0 (joined (map line_text (map event_shown (lines_then b s es)))) d' r.next
  pub cessions : cs' ≡ ceded_through (contracts_from b).treaties (replicate 9 0) es
  pub room : r.next ≤ lines_room es
