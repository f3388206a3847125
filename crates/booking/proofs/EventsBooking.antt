-- Events booked one after another: those so far are booked, their lines put, and the numbers ahead are those of the
-- others.
-- Assumes nothing.
use mathlib.Core.Path.{◌≡◌, refl, sym, ap, ◌∙◌, subst}
use mathlib.Core.List.{List, [], ◌∷◌, ◌++◌, map, map-append, append-nil, append_assoc}
use Prim.Native.Nat.{ℕ, ◌+◌, ◌-◌, ◌*◌, ◌^◌, ◌≤◌, ◌<◌}
use native.Mathlib.Nat.{mul-le-mul}
use native.Mathlib.Omega.{arith}
use lib.ListN.{length, take, drop, get_or, replicate, length-append, length-drop}
use lib.Seq.{get_or-drop, drop-drop, take_at, drop-append_seam}
use Rattle.lists.specs.Each.{Each}
use Rattle.lists.proofs.Each.{each-replicate, each_so}
use Rattle.lists.proofs.Cases.{by-lt}
use Rattle.lists.proofs.Chains.{last_snoc}
use Rattle.lists.proofs.Sums.{sum-append}
use Rattle.text.specs.Buffer.{Put}
use Rattle.text.specs.Lines.{joined}
use Rattle.text.specs.Template.{filled}
use Rattle.text.proofs.Feeds.{joined-append}
use Rattle.text.proofs.Pieces.{filled-append}
use Rattle.text.proofs.Puts.{put-none, put-append}
use Rattle.treaty.specs.declared.Treaty.{Treaty}
use Rattle.treaty.specs.declared.Loss.{Loss}
use Rattle.treaty.specs.Ranges.{LossInRange}
use Rattle.layer.specs.Ranges.{Sound}
use Rattle.scale.specs.Scale.{Fair}
use Rattle.scale.proofs.Passing.{over-none}
use Rattle.programme.specs.Contract.{Contracts}
use Rattle.events.specs.Event.{Event}
use Rattle.year.specs.declared.Amounts.{Amounts}
use Rattle.year.specs.declared.Standing.{Standing}
use Rattle.year.specs.Standing.{year_of, standing_of}
use Rattle.year.specs.Event.{Year, event_after, event_amounts, year_after}
use Rattle.year.specs.Statement.{EventLine, event_lines, added, totals, amounts_numbers, event_numbers, event_shown}
use Rattle.year.specs.Statement.{event_template, line_text}
use Rattle.year.proofs.Parts.{year-append, event-lines-append}
use Rattle.standings.proofs.LentTiers.{bears_sound, spent-lent, timed-lent}
use Rattle.losses.specs.Cede.{losses_from, ceded_added}
use Rattle.losses.specs.Event.{loss_numbers, events_numbers}
use Rattle.losses.proofs.EventNumbers.{losses-back, numbers-length, events-append, events-same}
use Rattle.booking.specs.declared.book.Booked.{Booked}
use Rattle.booking.specs.declared.basis.Basis.{Basis}
use Rattle.booking.specs.Book.{contracts_from, Lent, CanEnterEvent, EventEntered}
use Rattle.booking.specs.Book.{RoomForMore, CanBookEvents, line_room, lines_room, ceded_through, EventsBooked}
use Rattle.booking.proofs.Totals.{totals-next, amounts-added-le}
use Rattle.booking.proofs.Idle.{idle_on, year-same, amounts-none, total-same}
use Rattle.booking.proofs.Entering.{entered-year, entered-lent, entered-amounts-le, entered-nine}
use Rattle.booking.proofs.Entering.{entered-cessions-le}

-- the text of event lines
abbrev text_of : List EventLine → List ℕ
text_of ls = joined (map line_text (map event_shown ls))

text-next : (ls : List EventLine) (l : EventLine)
    → text_of (ls ++ (l ∷ [])) ≡ text_of ls ++ filled event_template (event_numbers l) (10 ∷ [])
text-next ls l =
    rw (
      map-append event_shown ls (l ∷ []),
      map-append line_text (map event_shown ls) (event_shown l ∷ []),
      joined-append (map line_text (map event_shown ls)) (line_text (event_shown l) ∷ []),
      filled-append event_template (event_numbers l) (10 ∷ []),
    )

-- what each treaty cedes of one event more
ceded-next : (ts : List Treaty) (cs : List ℕ) (es : List Event) (x : Event)
    → ceded_through ts cs (es ++ (x ∷ [])) ≡ ceded_added ts [] (ceded_through ts cs es) x.losses
ceded-next ts cs [] x = refl
ceded-next ts cs (e ∷ es) x = ceded-next ts (ceded_added ts [] cs e.losses) es x

-- a standing on another day
abbrev moved_to : ℕ → Standing → Standing
moved_to day s = record {
  risk = s.risk;
  cat = s.cat;
  day = day;
  risk_timed = s.risk_timed;
  cat_timed = s.cat_timed;
}

-- One event more. It came to the amounts a in the year after the others.
module _ {b : Basis} {s : Standing} {es : List Event} {d₀ d : List ℕ} {s₁ : Standing} {cs : List ℕ} {r : Booked}
    (k : EventsBooked b s es d₀ d s₁ cs r) (e : Event) where
  abbrev shares : List ℕ
  shares = b.shares.now

  abbrev ts : List Treaty
  ts = (contracts_from b).treaties

  abbrev first : Year
  first = year_of (contracts_from b) s

  abbrev now : Year
  now = year_after shares ts first es

  one-booked : {d' : List ℕ} {s₂ : Standing} {cs' : List ℕ} {a total : Amounts} {next : ℕ}
      → a ≡ event_amounts shares ts now e → Lent b s₂ → year_of (contracts_from b) s₂ ≡ event_after shares ts now e
      → s₂ ≡ standing_of (event_after shares ts now e) e.day
      → cs' ≡ ceded_added ts [] cs e.losses → total ≡ added (r.total ∷ a ∷ [])
      → Put d r.next (filled event_template (event_numbers (record { day = e.day; amounts = a })) (10 ∷ [])) d' next
      → next ≤ r.next + line_room e.losses
      → EventsBooked b s (es ++ (e ∷ [])) d₀ d' s₂ cs' (record { total = total; next = next })
  one-booked {d'} {next = next} is lent goes stands ceded is-total put room =
      let year : year_after shares ts first (es ++ (e ∷ [])) ≡ event_after shares ts now e =
      year-append shares ts first es (e ∷ []) in
      let line : EventLine = record { day = e.day; amounts = event_amounts shares ts now e } in
      let lines : event_lines shares ts first (es ++ (e ∷ [])) ≡ event_lines shares ts first es ++ (line ∷ []) =
      event-lines-append shares ts first es (e ∷ []) in
      let last = last_snoc (λ (x : Event). x.day) s.day es e in
      record {
        lent = lent;
        year = goes ∙ sym year;
        standing = stands ∙ sym (λ i. standing_of (year i) (last i));
        total =
            is-total
            ∙ (λ i. added (k.total i ∷ is i ∷ []))
            ∙ sym (ap totals lines ∙ totals-next (event_lines shares ts first es) line);
        lines =
            rw (lines, text-next (event_lines shares ts first es) line)
            (put-append k.lines
            (subst (λ (x : Amounts). Put d r.next
            (filled event_template (event_numbers (record { day = e.day; amounts = x })) (10 ∷ [])) d' next) is put));
        cessions = ceded ∙ rw k.cessions (sym (ceded-next ts (replicate 9 0) es e));
        room = omega (arith, room, k.room, sum-append (λ (x : Event). line_room x.losses) es (e ∷ []));
      }

-- the lines' room by the numbers: an idle event has two, any other five or more
pub room-le : (es : List Event) → lines_room es ≤ 43 * length (events_numbers es)
room-le [] = omega arith
room-le (e ∷ es) =
    omega (
      arith,
      length-append (loss_numbers e.losses) (events_numbers es),
      one e.losses,
      room-le es,
    )
  where
    one : (xs : List Loss) → line_room xs ≤ 86 + 43 * length (loss_numbers xs)
    one [] = omega arith
    one (x ∷ xs) = omega arith

-- The events `done` are booked, those of `ahead` have the numbers from the place `at` on.
pub record Booking (b : Basis) (events : List ℕ) (s₀ : Standing) (d₀ : List ℕ) (s : Standing) (cs d : List ℕ)
    (total : Amounts) (next at : ℕ) : Type 0 where
  pub done : List Event
  pub ahead : List Event
  pub whole : events ≡ events_numbers (done ++ ahead)
  pub place : at ≡ length (events_numbers done)
  pub losses : Each (λ (e : Event). Each LossInRange e.losses) ahead
  pub few : Each (λ (e : Event). length e.losses ≤ 64) ahead
  pub short : length events ≤ 15124
  pub nine : length cs ≡ 9
  pub same : length d ≡ length d₀
  pub booked : EventsBooked b s₀ done d₀ d s cs (record { total = total; next = next })
  pub totals-le : Each (λ (n : ℕ). n ≤ 13 * 10 ^ 13 * at) (amounts_numbers total)
  pub cessions-le : Each (λ (n : ℕ). n ≤ 10 ^ 13 * at) cs

pub booking_begins : {b : Basis} {events : List ℕ} {s : Standing} {cs d : List ℕ} {total : Amounts}
    → CanBookEvents b events s cs → total ≡ added [] → Booking b events s d s cs d total 0 0
booking_begins {s = s} {d = d} h z = record {
  done = [];
  ahead = h.es;
  whole = h.held;
  place = refl;
  losses = h.losses;
  few = h.few;
  short = h.short;
  nine = rw h.cessions refl;
  same = refl;
  booked = record {
    lent = h.lent;
    year = refl;
    standing = λ i. record {
      risk = spent-lent h.lent.risk i;
      cat = spent-lent h.lent.cat i;
      day = s.day;
      risk_timed = timed-lent h.lent.risk i;
      cat_timed = timed-lent h.lent.cat i;
    };
    total = z;
    lines = put-none d 0;
    cessions = h.cessions;
    room = omega arith;
  };
  totals-le = rw z (each-replicate (λ (n : ℕ). n ≤ 13 * 10 ^ 13 * 0) 0 (omega arith) 6);
  cessions-le = rw h.cessions (each-replicate (λ (n : ℕ). n ≤ 10 ^ 13 * 0) 0 (omega arith) 9);
}

-- losses by their number
no-losses : (xs : List Loss) → length xs ≡ 0 → xs ≡ []
no-losses [] h = refl
no-losses (x ∷ xs) h = absurd (omega (arith, h))

room_of_losses : (xs : List Loss) → (length xs ≡ 0 → ⊥) → line_room xs ≡ 200
room_of_losses [] h = absurd (h refl)
room_of_losses (x ∷ xs) h = refl

module _ {b : Basis} {events : List ℕ} {s₀ : Standing} {d₀ : List ℕ} {s : Standing} {cs d : List ℕ} {total : Amounts}
    {next at : ℕ} (g : Booking b events s₀ d₀ s cs d total next at) where
  abbrev c : Contracts
  c = contracts_from b

  abbrev y₀ : Year
  y₀ = year_of c s₀

  abbrev y : Year
  y = year_of c s

  left : drop at events ≡ events_numbers g.ahead
  left =
      (λ i. drop (g.place i) ((g.whole ∙ events-append g.done g.ahead) i))
      ∙ drop-append_seam (events_numbers g.done) (events_numbers g.ahead)

  within : at ≤ length events
  within =
      omega (
        arith,
        g.place,
        ap length (g.whole ∙ events-append g.done g.ahead),
        length-append (events_numbers g.done) (events_numbers g.ahead),
      )

  pub next_small : next < 2 ^ 41
  next_small = omega (arith, g.booked.room, room-le g.done, g.place, within, g.short)

  -- no event is ahead
  pub all-booked : length events ≤ at → (es : List Event) → events ≡ events_numbers es
      → EventsBooked b s₀ es d₀ d s cs (record { total = total; next = next })
  all-booked h es q =
      let none : g.ahead ≡ [] = no-numbers g.ahead (omega (arith, ap length left, length-drop at events)) in
      let all : g.done ≡ es =
      events-same g.done es (ap events_numbers (sym (append-nil g.done)) ∙ (rw none at (sym g.whole)) ∙ q) in
      subst (λ (fs : List Event). EventsBooked b s₀ fs d₀ d s cs (record { total = total; next = next })) all g.booked
    where
      no-numbers : (es : List Event) → length (events_numbers es) ≤ 0 → es ≡ []
      no-numbers [] h = refl
      no-numbers (e ∷ es) h = absurd (omega arith)

  -- the event ahead, and those after it
  record Ahead : Type 0 where
    e : Event
    others : List Event
    is : g.ahead ≡ e ∷ others

  one-ahead : at < length events → Ahead
  one-ahead h = by_list g.ahead refl
    where
      by_list : (l : List Event) → g.ahead ≡ l → Ahead
      by_list [] q =
          absurd (omega (arith, ap length (left ∙ ap events_numbers q), length-drop at events))
      by_list (e ∷ es) q = record { e = e; others = es; is = q }

  module _ (more : at < length events) where
    abbrev a : Ahead
    a = one-ahead more

    abbrev e : Event
    e = a.e

    abbrev xs : List Loss
    xs = a.e.losses

    numbers : drop at events ≡ e.day ∷ length xs ∷ (loss_numbers xs ++ events_numbers a.others)
    numbers = left ∙ ap events_numbers a.is

    long : length events ≡ at + (2 + (3 * length xs + length (events_numbers a.others)))
    long =
        omega (
          arith,
          within,
          ap length numbers,
          length-drop at events,
          length-append (loss_numbers xs) (events_numbers a.others),
          numbers-length xs,
        )

    pub head_inside : at + 1 < length events
    head_inside = omega (arith, long)

    few-losses : length xs ≤ 64
    few-losses = (rw a.is at g.few).0

    pub end-small : (count : ℕ) → count ≡ get_or events (at + 1) 0 → (from : ℕ) → from ≡ at + 2
        → (from < 2 ^ 62) × (count < 2 ^ 60)
    end-small count is-count from is-from =
        let counted : count ≡ length xs =
        is-count ∙ sym (get_or-drop at events 1 0) ∙ ap (λ (ns : List ℕ). get_or ns 1 0) numbers in
        (omega (arith, within, g.short), omega (arith, counted, few-losses))

    module _ (count : ℕ) (is-count : count ≡ get_or events (at + 1) 0) (from : ℕ) (is-from : from ≡ at + 2)
        (day : ℕ) (is-day : day ≡ get_or events at 0) (end : ℕ) (is-end : end ≡ from + 3 * count) where
      counted : count ≡ length xs
      counted = is-count ∙ sym (get_or-drop at events 1 0) ∙ ap (λ (ns : List ℕ). get_or ns 1 0) numbers

      dated : day ≡ e.day
      dated =
          let here : at + 0 ≡ at = omega arith in
          is-day
          ∙ sym (get_or-drop at events 0 0 ∙ ap (λ (k : ℕ). get_or events k 0) here)
          ∙ ap (λ (ns : List ℕ). get_or ns 0 0) numbers

      pub end-inside : end ≤ length events
      end-inside = omega (arith, long, counted, is-from, is-end)

      pub less_ahead : length events - end < length events - at
      less_ahead = omega (arith, end-inside, is-from, is-end)

      -- its losses
      abbrev slice : List ℕ
      slice = take (end - from) (drop from events)

      slice_is : slice ≡ loss_numbers xs
      slice_is =
          let wide : end - from ≡ 3 * length xs = omega (arith, counted, is-end) in
          let behind : drop from events ≡ loss_numbers xs ++ events_numbers a.others =
          ap (λ (k : ℕ). drop k events) is-from ∙ sym (drop-drop 2 at events) ∙ ap (drop 2) numbers in
          (λ i. take (wide i) (behind i)) ∙ take_at (loss_numbers xs) _ (3 * length xs) (numbers-length xs)

      losses_are : losses_from slice ≡ xs
      losses_are = ap losses_from slice_is ∙ losses-back xs

      small : (ks : List ℕ) (b : ℕ) → b ≤ 2 ^ 62 → Each (λ (m : ℕ). m ≤ b) ks → Each (λ (m : ℕ). m ≤ 2 ^ 62) ks
      small ks b h = each_so (λ (m : ℕ). m ≤ b) (λ (m : ℕ). m ≤ 2 ^ 62) (λ m i. omega arith) ks

      pub can_enter : CanEnterEvent b slice s cs
      can_enter = record {
        lent = g.booked.lent;
        losses = rw losses_are (rw a.is at g.losses).0;
        few = rw losses_are few-losses;
        nine = g.nine;
        amounts = small cs (10 ^ 13 * at) (omega (arith, within, g.short)) g.cessions-le;
      }

      after_is : end ≡ length (events_numbers (g.done ++ (e ∷ [])))
      after_is =
          omega (
            arith,
            g.place,
            is-from,
            is-end,
            counted,
            ap length (events-append g.done (e ∷ [])),
            length-append (events_numbers g.done) (events_numbers (e ∷ [])),
            ap length (append-nil (loss_numbers xs)),
            numbers-length xs,
          )

      -- what does not depend on how it was booked
      goes_on : {s' : Standing} {cs' d' : List ℕ} {total' : Amounts} {next' : ℕ}
          → length cs' ≡ 9 → length d' ≡ length d
          → EventsBooked b s₀ (g.done ++ (e ∷ [])) d₀ d' s' cs' (record { total = total'; next = next' })
          → Each (λ (n : ℕ). n ≤ 13 * 10 ^ 13 * end) (amounts_numbers total')
          → Each (λ (n : ℕ). n ≤ 10 ^ 13 * end) cs'
          → Booking b events s₀ d₀ s' cs' d' total' next' end
      goes_on nine same booked t l = record {
        done = g.done ++ (e ∷ []);
        ahead = a.others;
        whole =
            g.whole
            ∙ ap (λ (fs : List Event). events_numbers (g.done ++ fs)) a.is
            ∙ ap events_numbers (sym (append_assoc g.done (e ∷ []) a.others));
        place = after_is;
        losses = (rw a.is at g.losses).1;
        few = (rw a.is at g.few).1;
        short = g.short;
        nine = nine;
        same = same ∙ g.same;
        booked = booked;
        totals-le = t;
        cessions-le = l;
      }

      abbrev then : Year
      then = year_after b.shares.now c.treaties y₀ g.done

      wider : (ks : List ℕ) (b : ℕ) → Each (λ (m : ℕ). m ≤ b * at) ks → Each (λ (m : ℕ). m ≤ b * end) ks
      wider ks b =
          let more_of : b * at ≤ b * end = mul-le-mul {n₁ = b} (omega arith) (omega (arith, is-from, is-end)) in
          each_so (λ (m : ℕ). m ≤ b * at) (λ (m : ℕ). m ≤ b * end) (λ m i. omega (arith, more_of)) ks

      -- an idle event
      module _ (none : count ≡ 0) where
        no-loss : xs ≡ []
        no-loss = no-losses xs (sym counted ∙ none)

        is-idle : idle_on e.day ≡ e
        is-idle i = record { day = e.day; losses = sym no-loss i }

        fair : Fair b.shares.now
        fair = over-none b.shares.now b.fair

        sound : Each Sound y.cat
        sound = bears_sound g.booked.lent.cat

        year-stays : y ≡ event_after b.shares.now c.treaties y e
        year-stays =
            year-same b.shares.now fair c.treaties y sound e.day
            ∙ ap (event_after b.shares.now c.treaties y) is-idle

        then-stays : then ≡ event_after b.shares.now c.treaties then e
        then-stays =
            subst (λ (z : Year). z ≡ event_after b.shares.now c.treaties z e) g.booked.year year-stays

        nothing : added [] ≡ event_amounts b.shares.now c.treaties then e
        nothing =
            amounts-none b.shares.now fair c.treaties y sound e.day
            ∙ (λ i. event_amounts b.shares.now c.treaties (g.booked.year i) (is-idle i))

        pub one-idle : {d' : List ℕ} {next' : ℕ}
            → Put d next (filled event_template (event_numbers (record { day = day; amounts = added [] })) (10 ∷ [])) d'
            next'
            → next' ≤ next + 86 → length d' ≡ length d
            → Booking b events s₀ d₀ (moved_to day s) cs d' total next' end
        one-idle put room same =
            goes_on g.nine same
            (one-booked g.booked e nothing (record { risk = g.booked.lent.risk; cat = g.booked.lent.cat })
            (g.booked.year ∙ then-stays)
            (ap (moved_to day) g.booked.standing ∙ (λ i. standing_of (then-stays i) (dated i)))
            (ap (λ (zs : List Loss). ceded_added c.treaties [] cs zs) (sym no-loss)) (total-same total)
            (rw dated at put) (rw no-loss room))
            (wider (amounts_numbers total) (13 * 10 ^ 13) g.totals-le) (wider cs (10 ^ 13) g.cessions-le)

      -- an event with losses
      module _ (some : count ≡ 0 → ⊥) {s' : Standing} {cs' : List ℕ} {r : Amounts}
          (entered : EventEntered b s (record { day = day; losses = losses_from slice }) s' cs cs' r) where
        pub room_for : RoomForMore total × RoomForMore r
        room_for = (
          small (amounts_numbers total) (13 * 10 ^ 13 * at) (omega (arith, within, g.short)) g.totals-le,
          small (amounts_numbers r) (64 * 10 ^ 13) (omega arith) (entered-amounts-le can_enter day entered),
        )

        is-event : record { day = day; losses = losses_from slice } ≡ e
        is-event i = record { day = dated i; losses = losses_are i }

        came_to : r ≡ event_amounts b.shares.now c.treaties then e
        came_to = entered.amounts ∙ (λ i. event_amounts b.shares.now c.treaties (g.booked.year i) (is-event i))

        leads_to : event_after b.shares.now c.treaties y (record { day = day; losses = losses_from slice })
            ≡ event_after b.shares.now c.treaties then e
        leads_to i = event_after b.shares.now c.treaties (g.booked.year i) (is-event i)

        lent-then : Lent b (moved_to day s')
        lent-then = let l = entered-lent can_enter day entered in record { risk = l.risk; cat = l.cat }

        pub one-entered : {d' : List ℕ} {total' : Amounts} {next' : ℕ} → total' ≡ added (total ∷ r ∷ [])
            → Put d next (filled event_template (event_numbers (record { day = day; amounts = r })) (10 ∷ [])) d' next'
            → next' ≤ next + 200 → length d' ≡ length d
            → Booking b events s₀ d₀ (moved_to day s') cs' d' total' next' end
        one-entered is put room same =
            goes_on (entered-nine can_enter day entered) same
            (one-booked g.booked e came_to lent-then (entered-year can_enter day entered ∙ leads_to)
            (ap (moved_to day) entered.standing ∙ (λ i. standing_of (leads_to i) (dated i)))
            (entered.cessions ∙ ap (λ (zs : List Loss). ceded_added c.treaties [] cs zs) losses_are) is
            (rw dated at put) (rw (room_of_losses xs (λ z. some (counted ∙ z))) room))
            (rw is
            (amounts-added-le (13 * 10 ^ 13 * at) (64 * 10 ^ 13) (13 * 10 ^ 13 * end) total r
            (omega (arith, is-from, is-end, some_counted)) g.totals-le (entered-amounts-le can_enter day entered)))
            (each_so (λ (m : ℕ). m ≤ 10 ^ 13 * at + 10 ^ 13 * length (losses_from slice))
            (λ (m : ℕ). m ≤ 10 ^ 13 * end)
            (λ m i. omega (arith, ap length losses_are, counted, is-from, is-end)) cs'
            (entered-cessions-le can_enter day entered (10 ^ 13 * at) g.cessions-le))
          where
            some_counted : 1 ≤ count
            some_counted = by-lt 0 count (λ h. omega (arith, h)) (λ h. absurd (some (omega (arith, h))))
