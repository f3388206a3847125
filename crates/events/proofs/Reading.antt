-- What an events text that is read tells: its events, their days and ranges, and how it may be cut.
-- Assumes nothing.
use Prim.{Unit}
use mathlib.Core.Path.{◌≡◌, refl, sym, ◌∙◌}
use mathlib.Core.Bool.{cond}
use mathlib.Core.List.{List, [], ◌∷◌, ◌++◌, map, map-append}
use Rattle.std.specs.Prelude.{Option, None, Some}
use Prim.Native.Nat.{ℕ, zero, suc, ◌+◌, ◌^◌, ◌≤◌}
use native.Mathlib.Omega.{arith}
use borrow.Author.Tests.{lt-ltb, le-ltb}
use lib.Dec.{ltb}
use lib.ListN.{length, length-append}
use Rattle.lists.specs.Sums.{sum_of}
use Rattle.lists.specs.Each.{Each}
use Rattle.lists.proofs.Cases.{by-lt}
use Rattle.text.specs.Lines.{lines_of}
use Rattle.text.proofs.Cuts.{WholeLines, lines-append}
use Rattle.treaty.specs.declared.Treaty.{Treaty}
use Rattle.treaty.specs.declared.Loss.{Loss}
use Rattle.treaty.specs.Ranges.{LossInRange}
use Rattle.programme.proofs.Bounds.{within}
use Rattle.events.specs.Event.{Event, line_event, forms_of, stated, stated_in, last_day}
use Rattle.events.specs.Rules.{loss_outside, event_outside, event_fault}
use Rattle.events.specs.Read.{EventsRead, turned_down_at, events, unless_fault, read_from, events_of}

-- events without a fault, each after the day of the one before it, the first after the day d
abbrev Faultless : List Treaty → ℕ → List Event → Type 0
Faultless ts d [] = Unit {0}
Faultless ts d (e ∷ es) = (event_fault ts d e ≡ 0) × Faultless ts e.day es

-- lines that are read as the events es after the day d: each is an event form, and none has a fault
record LinesRead (ts : List Treaty) (d : ℕ) (fs : List (Option Event)) (es : List Event) : Type 0 where
  forms : fs ≡ map Some es
  faultless : Faultless ts d es

turned_down : {C : Type 0} (n w : ℕ) (es : List Event) → turned_down_at n w ≡ events es → C
turned_down n w es q = let z : ◌≡◌ {A = ℕ} 0 1 = cc in absurd (omega arith)

-- lines that are read have forms without a fault
lines-read : (ts : List Treaty) (w d : ℕ) (fs : List (Option Event)) (es : List Event)
    → read_from ts w d fs ≡ events es → LinesRead ts d fs es
unfolding read_from
lines-read ts w d [] es q = let k : [] ≡ es = cc in rw (← k) (record { forms = refl; faultless = tt })
lines-read ts w d (None ∷ fs) es q = turned_down 10 w es q
lines-read ts w d (Some e ∷ fs) es q =
    go (event_fault ts d e) refl (read_from ts (w + 1) e.day fs) (lines-read ts (w + 1) e.day fs) q
  where
    go : (n : ℕ) → event_fault ts d e ≡ n → (r : EventsRead)
        → ((xs : List Event) → r ≡ events xs → LinesRead ts e.day fs xs)
        → unless_fault n w e r ≡ events es → LinesRead ts d (Some e ∷ fs) es
    go zero f (turned_down_at m v) again q = turned_down m v es q
    go zero f (events xs) again q =
        let k : e ∷ xs ≡ es = cc in
        let a = again xs refl in
        rw (← k) (record { forms = cc a.forms; faultless = (f, a.faultless) })
    go (suc n) f r again q = turned_down (suc n) w es q

-- forms without a fault are read
forms-read : (ts : List Treaty) (w d : ℕ) (es : List Event) → Faultless ts d es
    → read_from ts w d (map Some es) ≡ events es
unfolding read_from
forms-read ts w d [] z = refl
forms-read ts w d (e ∷ es) z = simp (read_from, z.0, forms-read ts (w + 1) e.day es z.1)

-- a text that is read as the events es after the day d
record TextRead (ts : List Treaty) (d : ℕ) (s : List ℕ) (es : List Event) : Type 0 where
  short : length s ≤ 65536
  lines : LinesRead ts d (forms_of s) es

module _ (ts : List Treaty) (d : ℕ) (s : List ℕ) (es : List Event) where
  text-read : events_of ts d s ≡ events es → TextRead ts d s es
  unfolding events_of
  text-read q =
      by-lt 65536 (length s)
      (λ h. turned_down 9 0 es (simp (events_of, lt-ltb 65536 (length s) h) at q))
      (λ h. record {
        short = h;
        lines = lines-read ts _ d (forms_of s) es (simp (events_of, le-ltb 65536 (length s) h) at q);
      })

  text-reads : TextRead ts d s es → events_of ts d s ≡ events es
  unfolding events_of
  text-reads r =
      simp (events_of, le-ltb 65536 (length s) r.short, r.lines.forms) (forms-read ts _ d es r.lines.faultless)

stated_some : (es : List Event) → stated (map Some es) ≡ es
stated_some [] = refl
stated_some (e ∷ es) = cc (stated_some es)

-- the events that are read are those that the text states
pub read-stated : (ts : List Treaty) (d : ℕ) (s : List ℕ) (es : List Event) → events_of ts d s ≡ events es
    → stated_in s ≡ es
unfolding stated_in
read-stated ts d s es q = rw (text-read ts d s es q).lines.forms (stated_some es)

-- an empty text has no events
pub read_none : (ts : List Treaty) (d : ℕ) → events_of ts d [] ≡ events []
unfolding lines_of read_from events_of
read_none ts d = refl

-- what an event that is read keeps to
pub record EventLawful (e : Event) : Type 0 where
  pub day-low : 1 ≤ e.day
  pub day-high : e.day ≤ 366
  pub losses : Each LossInRange e.losses
  pub few : length e.losses ≤ 64

loss_in_range : (x : Loss) → loss_outside x ≡ 0 → LossInRange x
unfolding loss_outside
loss_in_range x z = record {
  treaty = (within 0 8 x.treaty (omega arith)).1;
  maximum_low = (within 1 (10 ^ 13) x.maximum (omega arith)).0;
  maximum_high = (within 1 (10 ^ 13) x.maximum (omega arith)).1;
  amount = (within 0 (10 ^ 13) x.amount (omega arith)).1;
}

losses_in_range : (xs : List Loss) → sum_of loss_outside xs ≡ 0 → Each LossInRange xs
losses_in_range [] z = tt
losses_in_range (x ∷ xs) z = (loss_in_range x (omega arith), losses_in_range xs (omega arith))

-- a test that gives no fault, and those after it
no-fault : (a b n r : ℕ) → cond (ltb a b) (suc n) r ≡ 0 → (b ≤ a) × (r ≡ 0)
no-fault a b n r z =
    by-lt a b
    (λ h. absurd (omega (arith, simp (lt-ltb a b h) at z)))
    (λ h. (h, simp (le-ltb a b h) at z))

event-lawful : (ts : List Treaty) (d : ℕ) (e : Event) → event_fault ts d e ≡ 0 → EventLawful e
unfolding event_outside event_fault
event-lawful ts d e z =
    let r = no-fault 0 (event_outside e) 10 _ z in
    let day = within 1 366 e.day (omega (arith, r.0)) in
    record {
      day-low = day.0;
      day-high = day.1;
      losses = losses_in_range e.losses (omega (arith, r.0));
      few = (no-fault 64 (length e.losses) 11 _ r.1).0;
    }

faultless-lawful : (ts : List Treaty) (d : ℕ) (es : List Event) → Faultless ts d es → Each EventLawful es
faultless-lawful ts d [] z = tt
faultless-lawful ts d (e ∷ es) z = (event-lawful ts d e z.0, faultless-lawful ts e.day es z.1)

-- each event of lines that are read keeps to it
pub lines-lawful : (ts : List Treaty) (w d : ℕ) (fs : List (Option Event)) (es : List Event)
    → read_from ts w d fs ≡ events es → Each EventLawful es
lines-lawful ts w d fs es q = faultless-lawful ts d es (lines-read ts w d fs es q).faultless

-- and each of a text
pub read-lawful : (ts : List Treaty) (d : ℕ) (s : List ℕ) (es : List Event) → events_of ts d s ≡ events es
    → Each EventLawful es
read-lawful ts d s es q = faultless-lawful ts d es (text-read ts d s es q).lines.faultless

lawful-days : (d : ℕ) (es : List Event) → d ≤ 366 → Each EventLawful es → last_day d es ≤ 366
lawful-days d [] h z = h
lawful-days d (e ∷ es) h z = lawful-days e.day es z.0.day-high z.1

-- no event read is past day 366
pub read-days : (ts : List Treaty) (d : ℕ) (s : List ℕ) (es : List Event) → d ≤ 366 → events_of ts d s ≡ events es
    → last_day d es ≤ 366
read-days ts d s es h q = lawful-days d es h (read-lawful ts d s es q)

-- the whole lines s and the text u after them are read as the whole is
pub record Cut (ts : List Treaty) (d : ℕ) (s u : List ℕ) (es : List Event) : Type 0 where
  pub first : List Event
  pub second : List Event
  pub together : es ≡ first ++ second
  pub reads_first : events_of ts d s ≡ events first
  pub reads_second : events_of ts (last_day d first) u ≡ events second

-- the events of lines read, cut where the lines are
record LinesCut (ts : List Treaty) (d : ℕ) (fs gs : List (Option Event)) (es : List Event) : Type 0 where
  first : List Event
  second : List Event
  together : es ≡ first ++ second
  reads_first : LinesRead ts d fs first
  reads_second : LinesRead ts (last_day d first) gs second

lines_cut : (ts : List Treaty) (d : ℕ) (fs gs : List (Option Event)) (es : List Event)
    → fs ++ gs ≡ map Some es → Faultless ts d es → LinesCut ts d fs gs es
lines_cut ts d [] gs es q z = record {
  first = [];
  second = es;
  together = refl;
  reads_first = record { forms = refl; faultless = tt };
  reads_second = record { forms = q; faultless = z };
}
lines_cut ts d (f ∷ fs) gs [] q z = let n : ◌≡◌ {A = ℕ} 0 1 = cc in absurd (omega arith)
lines_cut ts d (f ∷ fs) gs (e ∷ es) q z =
    let k : f ≡ Some e = cc in
    let l : fs ++ gs ≡ map Some es = cc in
    let c = lines_cut ts e.day fs gs es l z.1 in
    record {
      first = e ∷ c.first;
      second = c.second;
      together = cc c.together;
      reads_first = record { forms = cc (k, c.reads_first.forms); faultless = (z.0, c.reads_first.faultless) };
      reads_second = c.reads_second;
    }

-- the forms of whole lines and of the text after them
forms-append : (s u : List ℕ) → WholeLines s → forms_of (s ++ u) ≡ forms_of s ++ forms_of u
forms-append s u z = rw (lines-append s u z) (map-append line_event (lines_of s) (lines_of u))

-- a text that is read may be cut after whole lines
pub read-cut : (ts : List Treaty) (d : ℕ) (s u : List ℕ) (es : List Event) → WholeLines s
    → events_of ts d (s ++ u) ≡ events es → Cut ts d s u es
read-cut ts d s u es z q =
    let r = text-read ts d (s ++ u) es q in
    let n = length-append s u in
    let k = sym (forms-append s u z) ∙ r.lines.forms in
    let c = lines_cut ts d (forms_of s) (forms_of u) es k r.lines.faultless in
    record {
      first = c.first;
      second = c.second;
      together = c.together;
      reads_first = text-reads ts d s c.first (record { short = omega (arith, r.short); lines = c.reads_first });
      reads_second =
          text-reads ts (last_day d c.first) u c.second
          (record { short = omega (arith, r.short); lines = c.reads_second });
    }
