-- The lines of an events text, examined one after another: the events so far are kept as numbers, and the lines ahead
-- give the whole answer.
-- Assumes nothing.
use mathlib.Core.Path.{◌≡◌, refl, sym, ap, ◌∙◌}
use mathlib.Core.Bool.{Bool, true, false, cond}
use mathlib.Core.List.{List, [], ◌∷◌, ◌++◌, append-nil, append_assoc}
use Rattle.std.specs.Prelude.{Option, None, Some}
use Prim.Native.Nat.{ℕ, zero, suc, ◌+◌, ◌-◌, ◌*◌, ◌^◌, ◌≤◌, ◌<◌}
use native.Mathlib.Omega.{arith}
use borrow.Author.Tests.{ne_eqb}
use lib.Dec.{eqb}
use mir.Syntax.{w64}
use mir.Val.{Fits}
use lib.ListN.{length, take, drop, set, length-append, length-drop, drop_of_length-le}
use lib.Seq.{sets, set_comm, drop-cons, drop-drop, drop_at, take_all}
use Rattle.lists.proofs.Cases.{by_test}
use Rattle.lists.proofs.Sums.{sum-append}
use Rattle.text.specs.Begin.{begins, Stands}
use Rattle.text.specs.Buffer.{Put}
use Rattle.text.specs.Lines.{lines_of}
use Rattle.text.proofs.Feeds.{NoFeed, line_and_rest}
use Rattle.text.proofs.FirstLine.{by-feed, unended}
use Rattle.text.proofs.Puts.{put-none, put-append}
use Rattle.treaty.specs.declared.Treaty.{Treaty}
use Rattle.treaty.specs.declared.Loss.{Loss}
use Rattle.programme.specs.Ranges.{outside}
use Rattle.events.specs.Event.{Event, event_of, forms_of}
use Rattle.events.specs.Rules.{event_outside, lacking, lowest_fault, event_fault}
use Rattle.events.specs.Form.{head_of, loss_at}
use Rattle.events.specs.Read.{EventsRead, turned_down_at, events, event_before, unless_fault, read_from}
use Rattle.events.proofs.InLine.{head_in_line, loss_in_line, clean_from, space_left, no-loss-left}
use Rattle.events.proofs.InLine.{bracket_alone, bracket_not_alone, no_ending}
use Rattle.events.proofs.LineEnds.{line_ending}
use Rattle.events.proofs.LossForms.{no-event, no-loss-form, broken_off, closed_off}
use Rattle.losses.specs.Treaties.{treaties_from}
use Rattle.losses.specs.Event.{loss_numbers, events_numbers}
use Rattle.losses.proofs.EventNumbers.{numbers-length, events-append}
use Rattle.reading.specs.Examine.{idle_by, idle_in, CanRead, Kept}
use Rattle.reading.proofs.LossRead.{Listed, none-listed, left_of_line, count_small, next-is}

-- events before what the lines after them give
abbrev events_before : List Event → EventsRead → EventsRead
events_before [] r = r
events_before (e ∷ es) r = event_before e (events_before es r)

before-refused : (es : List Event) (n w : ℕ) → events_before es (turned_down_at n w) ≡ turned_down_at n w
before-refused [] n w = refl
before-refused (e ∷ es) n w = ap (event_before e) (before-refused es n w)

before-events : (es fs : List Event) → events_before es (events fs) ≡ events (es ++ fs)
before-events [] fs = refl
before-events (e ∷ es) fs = ap (event_before e) (before-events es fs)

before-append : (es fs : List Event) (r : EventsRead) → events_before (es ++ fs) r ≡ events_before es (events_before fs r)
before-append [] fs r = refl
before-append (e ∷ es) fs r = ap (event_before e) (before-append es fs r)

pub idle-le : (es : List Event) → idle_in es ≤ length es
idle-le [] = omega arith
idle-le (e ∷ es) = omega (arith, idle-by-le e.losses, idle-le es)
  where
    idle-by-le : (xs : List Loss) → idle_by xs ≤ 1
    idle-by-le [] = omega arith
    idle-by-le (x ∷ xs) = omega arith

idle-counted : (xs : List Loss) → cond (eqb (length xs) 0) 1 0 ≡ idle_by xs
idle-counted [] = refl
idle-counted (x ∷ xs) = rw (ne_eqb (suc (length xs)) 0 (λ e. omega (arith, e)))

-- a number put before others that were put after its place
set_before : (k : List ℕ) (i j a : ℕ) (vs : List ℕ) → i < j → set (sets k j vs) i a ≡ sets (set k i a) j vs
set_before k i j a [] h = refl
set_before k i j a (v ∷ vs) h =
    set_before (set k j v) i (suc j) a vs (omega arith)
    ∙ ap (λ (l : List ℕ). sets l (suc j) vs) (set_comm k j i v a (λ e. omega (arith, e)))

-- the day and the count of losses, put before the losses
event-put : {k k' k'' : List ℕ} {at next end : ℕ} (d c : ℕ) (vs : List ℕ) → Put k (at + 2) vs k' next
    → Put k' at (d ∷ c ∷ []) k'' end → Put k at (d ∷ c ∷ vs) k'' next
event-put {k} {k'} {k''} {at} d c vs p q =
    let second : suc at + 1 ≡ at + 2 = omega arith in
    let third : suc (suc at) ≡ at + 2 = omega arith in
    record {
      place = omega (arith, p.place);
      bytes =
          q.bytes
          ∙ ap (λ (l : List ℕ). set (set l at d) (suc at) c) p.bytes
          ∙ ap (λ (l : List ℕ). set l (suc at) c) (set_before k at (at + 2) d vs (omega arith))
          ∙ set_before (set k at d) (suc at) (at + 2) c vs (omega arith)
          ∙ ap (λ (j : ℕ). sets (set (set k at d) (suc at) c) j vs) (sym third);
    }

-- the answer for a text
abbrev answer_of : (register : List Treaty) (last : ℕ) (text : List ℕ) → EventsRead
answer_of register last text = read_from (treaties_from register) 1 last (forms_of text)

-- Before line `number + 1`, which begins at the place `at`: the events so far are kept in k, which was k₀ at first, up
-- to the place `end`; `idle` of them are idle, and `before` is the day of the last.
pub record Going (register : List Treaty) (text : List ℕ) (last : ℕ) (k₀ k : List ℕ) (before end idle number at : ℕ)
    : Type 0 where
  pub can : CanRead text register
  pub es : List Event
  pub within : at ≤ length text
  pub counted : number ≡ length es
  pub early : number ≤ at
  pub short : 13 * end ≤ 3 * at
  pub kept : Put k₀ 0 (events_numbers es) k end
  pub idles : idle ≡ idle_in es
  pub rest : answer_of register last text
      ≡ events_before es (read_from (treaties_from register) (number + 1) before (forms_of (drop at text)))

pub going-begins : (register : List Treaty) (text : List ℕ) (last : ℕ) (k : List ℕ) → CanRead text register
    → Going register text last k k last 0 0 0 0
going-begins register text last k c = record {
  can = c;
  es = [];
  within = omega arith;
  counted = refl;
  early = omega arith;
  short = omega arith;
  kept = put-none k 0;
  idles = refl;
  rest = refl;
}

refuses : (n w : ℕ) (e : Event) (r : EventsRead) → (n ≡ 0 → ⊥) → unless_fault n w e r ≡ turned_down_at n w
refuses zero w e r h = absurd (h refl)
refuses (suc n) w e r h = refl

module _ {register : List Treaty} {text : List ℕ} {last : ℕ} {k₀ k : List ℕ} {before end idle number at : ℕ}
    (g : Going register text last k₀ k before end idle number at) where
  abbrev ts : List Treaty
  ts = treaties_from register

  pub idle-within : idle ≤ number
  idle-within = omega (arith, g.idles, g.counted, idle-le g.es)

  pub idle-fits : (m n : ℕ) → m ≡ cond (eqb n 0) 1 0 → Fits w64 (idle + m)
  idle-fits m n e = omega (arith, idle-within, g.early, g.within, g.can.short, e ∙ refl, one_at_most (eqb n 0))
    where
      one_at_most : (b : Bool) → cond b 1 0 ≤ 1
      one_at_most true = omega arith
      one_at_most false = omega arith

  -- no line is left
  pub all_read : length text ≤ at
      → Kept text k₀ k (record { end = end; idle = idle; entered = number - idle }) (answer_of register last text)
  unfolding read_from lines_of
  all_read h =
      let none_left : read_from ts (number + 1) before (forms_of (drop at text)) ≡ events [] =
      rw (drop_of_length-le text {i = at} h) in
      let size : end ≡ length (events_numbers g.es) = omega (arith, g.kept.place) in
      record {
        es = g.es;
        told = g.rest ∙ ap (events_before g.es) none_left ∙ before-events g.es [] ∙ ap events (append-nil g.es);
        counted =
            λ i. record { end = size i; idle = g.idles i; entered = g.counted i - g.idles i };
        kept = rw size at g.kept;
        short = omega (arith, g.short, g.within, size);
      }

  module _ (more : at < length text) where
    -- what is left of the text, as the code takes it
    abbrev s : List ℕ
    s = take (length text - at) (drop at text)

    all_left : drop at text ≡ s
    all_left = sym (take_all (length text - at) (drop at text) (omega (arith, length-drop at text)))

    rest-length : length s ≡ length text - at
    rest-length = ap length (sym all_left) ∙ length-drop at text

    rest-short : length s ≤ 65536
    rest-short = omega (arith, rest-length, g.can.short)

    -- its forms, by its first line
    forms_of_line : (l r : List ℕ) → s ≡ l ++ (10 ∷ r) → NoFeed l
        → forms_of (drop at text) ≡ event_of l ∷ forms_of r
    forms_of_line l r e z = rw (all_left ∙ e, line_and_rest l r z)

    -- the line is at fault
    abbrev pub Stopped : ℕ → Type 0
    Stopped n = answer_of register last text ≡ turned_down_at n (number + 1)

    refused-here : (n : ℕ)
        → read_from ts (number + 1) before (forms_of (drop at text)) ≡ turned_down_at n (number + 1) → Stopped n
    refused-here n here = g.rest ∙ ap (events_before g.es) here ∙ before-refused g.es n (number + 1)

    -- a first line that is no event form, or bytes without a line feed
    no-form : ((l r : List ℕ) → s ≡ l ++ (10 ∷ r) → NoFeed l → event_of l ≡ None)
        → Stopped 10
    unfolding read_from
    no-form f =
        refused-here 10
        (by-feed s
        (λ l r e z. rw (forms_of_line l r e z, f l r e z))
        (λ z. rw (drop-cons text at 0 more, unended _ _ (rw (sym all_left, drop-cons text at 0 more) at z))))

    -- it does not begin as one
    pub no_head : (u : Option (ℕ × ℕ)) → u ≡ head_of s → u ≡ None → Stopped 10
    no_head u w y = no-form (λ l r e z. no-event l u (w ∙ ap head_of e ∙ head_in_line l r z) y)

    -- it does
    pub first-listed : (u : Option (ℕ × ℕ)) (day first out from : ℕ) → u ≡ head_of s → u ≡ Some (day, first)
        → out ≡ outside 1 366 day → out ≤ 1 → from ≡ end + 2 → Listed ts s day k k (end + 2) first 0 out 0 from
    first-listed u day first out from w y o i q =
        rw q (none-listed ts s k (end + 2) u day first out w y o i rest-short)

    -- its loss forms
    module _ {day : ℕ} {k' : List ℕ} {place count out lacks next : ℕ}
        (c : Listed ts s day k k' (end + 2) place count out lacks next) where
      -- after a space that no loss form begins with
      pub no-loss : (b : Bool) → Stands s place 32 b → b ≡ true → (f : Option (Loss × ℕ)) → f ≡ loss_at s place
          → f ≡ None → Stopped 10
      no-loss b space is f w y =
          no-form (λ l r e z.
          let a = c.ahead l r e z in
          let left = left_of_line s l r place e a.within in
          no-loss-form l day c.xs place a
          (space_left (drop place l) r (rw left at (sym space.same ∙ is))) f
          (w ∙ ap (λ (t : List ℕ). loss_at t place) e ∙ loss_in_line l r place (clean_from place l z) a.within) y)

      -- their numbers leave room
      pub next_small : next < 2 ^ 62
      next_small =
          omega (arith, next-is c, count_small c, g.short, g.within, g.can.short)

      -- after the last
      module _ (b : Bool) (space : Stands s place 32 b) (is : b ≡ false)
          (closed : Bool) (q : closed ≡ begins line_ending (drop place s))
          (n : ℕ) (f : n ≡ cond closed (lowest_fault out count day before lacks) 10) where
        abbrev event : Event
        event = record { day = day; losses = c.xs }

        event-fault : lowest_fault out count day before lacks ≡ event_fault ts before event
        unfolding event_fault event_outside lacking
        event-fault = rw (c.outsides, c.counted, c.lacked)

        -- not closed: no event form
        not_closed : closed ≡ false → (l r : List ℕ) → s ≡ l ++ (10 ∷ r) → NoFeed l → event_of l ≡ None
        not_closed y l r e z =
            let a = c.ahead l r e z in
            let left = left_of_line s l r place e a.within in
            broken_off l day c.xs place a
            (bracket_not_alone (drop place l) r (rw left at (sym q ∙ y)))
            (no-loss-left (drop place l) r (rw left at (sym space.same ∙ is)))

        -- closed: the event, and the line ends after the bracket
        is_closed : closed ≡ true → (l r : List ℕ) → s ≡ l ++ (10 ∷ r) → NoFeed l
            → (event_of l ≡ Some event) × (length l ≡ place + 1)
        is_closed y l r e z =
            let a = c.ahead l r e z in
            let left = left_of_line s l r place e a.within in
            let alone = bracket_alone (drop place l) r (clean_from place l z) (rw left at (sym q ∙ y)) in
            (closed_off l day c.xs place a alone.0, omega (arith, alone.1, length-drop place l))

        -- it is closed at a line feed
        not_without : closed ≡ true → NoFeed s → ⊥
        not_without y z =
            let no : true ≡ false = sym y ∙ q ∙ no_ending (drop place s) (clean_from place s z) in
            let w : ◌≡◌ {A = ℕ} 0 1 = cc in omega arith

        pub faulty : (n ≡ 0 → ⊥) → Stopped n
        unfolding read_from
        faulty z =
            by_test closed
            (λ y.
            refused-here n
            (by-feed s
            (λ l r e clean.
            let own : n ≡ lowest_fault out count day before lacks = f ∙ rw (← y) in
            rw (forms_of_line l r e clean, (is_closed (sym y) l r e clean).0, ← event-fault, ← own)
            (refuses n (number + 1) event _ z))
            (λ clean. absurd (not_without (sym y) clean))))
            (λ y. let ten : n ≡ 10 = f ∙ rw (← y) in rw ten (no-form (not_closed (sym y))))

        module _ (z : n ≡ 0) where
          must_close : closed ≡ true
          must_close = by_test closed sym (λ y. let ten : n ≡ 10 = f ∙ rw (← y) in absurd (omega arith))

          fine : event_fault ts before event ≡ 0
          fine = sym event-fault ∙ sym (f ∙ rw must_close) ∙ z

          -- the lines after it
          onward : answer_of register last text
              ≡ events_before (g.es ++ (event ∷ []))
              (read_from ts (number + 1 + 1) day (forms_of (drop (at + place + 2) text)))
          unfolding read_from
          onward =
              g.rest
              ∙ ap (events_before g.es) here
              ∙ sym (before-append g.es (event ∷ []) _)
            where
              here : read_from ts (number + 1) before (forms_of (drop at text))
                  ≡ event_before event (read_from ts (number + 1 + 1) day (forms_of (drop (at + place + 2) text)))
              here =
                  by-feed s
                  (λ l r e clean.
                  let ended = is_closed must_close l r e clean in
                  let past : at + (place + 2) ≡ at + place + 2 = omega arith in
                  let after : drop (at + place + 2) text ≡ r =
                  sym (drop-drop (place + 2) at text ∙ ap (λ (m : ℕ). drop m text) past)
                  ∙ ap (drop (place + 2)) (all_left ∙ e ∙ sym (append_assoc l (10 ∷ []) r))
                  ∙ drop_at (l ++ (10 ∷ [])) r (place + 2) (omega (arith, length-append l (10 ∷ []), ended.1)) in
                  rw (forms_of_line l r e clean, ended.0, fine, after))
                  (λ clean. absurd (not_without must_close clean))

          -- the line ends within the text
          inside : at + place + 2 ≤ length text
          inside =
              by-feed s
              (λ l r e clean.
              omega (
                arith,
                (is_closed must_close l r e clean).1,
                ap length e,
                length-append l (10 ∷ r),
                rest-length,
              ))
              (λ clean. absurd (not_without must_close clean))

          pub less_ahead : length text - (at + place + 2) < length text - at
          less_ahead = omega (arith, inside)

          -- one event more is kept
          pub goes_on : (k'' : List ℕ) (past more-idle : ℕ) → Put k' end (day ∷ count ∷ []) k'' past
              → more-idle ≡ cond (eqb count 0) 1 0
              → Going register text last k₀ k'' day next (idle + more-idle) (number + 1) (at + place + 2)
          goes_on k'' past more-idle put i = record {
            can = g.can;
            es = g.es ++ (event ∷ []);
            within = inside;
            counted = omega (arith, g.counted, length-append g.es (event ∷ []));
            early = omega (arith, g.early);
            short =
                omega (arith, g.short, c.begun, c.counted, c.kept.place, numbers-length c.xs);
            kept =
                rw (events-append g.es (event ∷ []), append-nil (loss_numbers c.xs))
                (put-append g.kept (event-put day (length c.xs) (loss_numbers c.xs) c.kept
                (rw c.counted at put)));
            idles =
                omega (
                  arith,
                  g.idles,
                  i ∙ ap (λ (m : ℕ). cond (eqb m 0) 1 0) c.counted ∙ idle-counted c.xs,
                  sum-append (λ (e : Event). idle_by e.losses) g.es (event ∷ []),
                );
            rest = onward;
          }
