-- Events texts read by the definitions: document 01's form, and the ends of its rules.
-- Assumes nothing.
use mathlib.Core.Path.{◌≡◌, refl}
use mathlib.Core.List.{List, [], ◌∷◌, ◌++◌, map}
use Prim.Native.Nat.{ℕ, zero, suc}
use Prim.Native.String.{String}
use lib.ListN.{replicate}
use Rattle.text.specs.Bytes.{bytes}
use Rattle.text.specs.Number.{digit_of, read_on, number}
use Rattle.text.specs.Template.{capital, matched}
use Rattle.text.specs.Lines.{lines_of, joined}
use Rattle.treaty.specs.declared.Treaty.{Treaty}
use Rattle.treaty.specs.declared.Loss.{Loss}
use Rattle.treaty.specs.Treaty.{quota_of, surplus_of, loss_of}
use Rattle.programme.specs.Ranges.{outside}
use Rattle.events.specs.Event.{Event, closes, losses_up_to, event_of, last_day}
use Rattle.events.specs.Rules.{loss_outside, event_outside, lacking, event_fault}
use Rattle.events.specs.Read.{EventsRead, turned_down_at, events, read_from, events_of}

-- the treaties of a table with the numbers 1 and 8
abbrev table : List Treaty
table = quota_of 1 4000 0 0 ∷ surplus_of 8 10000 3 0 ∷ []

-- some lines read after the day d, or from the start of the year, and one line alone
abbrev after : ℕ → List String → EventsRead
after d ls = events_of table d (joined (map bytes ls))

abbrev reading : List String → EventsRead
reading ls = after 0 ls

abbrev line : String → EventsRead
line l = reading (l ∷ [])

abbrev on : ℕ → List Loss → Event
on d xs = record { day = d; losses = xs }

-- n loss forms before the bytes s
abbrev loss_forms : ℕ → List ℕ → List ℕ
loss_forms zero s = s
loss_forms (suc n) s = bytes " (loss 0 1 0)" ++ loss_forms n s

-- a line of n loss forms that ends with l, read after the day d
abbrev many : (d n : ℕ) → String → EventsRead
many d n l = events_of table d (bytes "(event 1" ++ loss_forms n (bytes l))

pub record Corners : Type 0 where
  pub empty : reading [] ≡ events []
  -- the form with two losses, with none, on several lines; G may exceed E
  pub two-losses : line "(event 230 (loss 1 350000000 350000001) (loss 0 7 0))"
      ≡ events (on 230 (loss_of 1 350000000 350000001 ∷ loss_of 0 7 0 ∷ []) ∷ [])
  pub no-losses : line "(event 1)" ≡ events (on 1 [] ∷ [])
  pub two-events : reading ("(event 5 (loss 8 2 1))" ∷ "(event 6)" ∷ [])
      ≡ events (on 5 (loss_of 8 2 1 ∷ []) ∷ on 6 [] ∷ [])
  -- 9 and its 0; a text of 65,536 bytes is read
  pub long : events_of table 0 (replicate 65537 10) ≡ turned_down_at 9 0
  pub not_long : events_of table 0 (replicate 65536 10) ≡ turned_down_at 10 1
  -- twenty bytes of two lines, and others after them up to 65,536: judged by its lines, and by 9 with one byte more
  pub long_of_lines : events_of table 0 (bytes "(event 5)\n(event 4)\n" ++ replicate 65517 120) ≡ turned_down_at 9 0
  pub not_long_of_lines : events_of table 0 (bytes "(event 5)\n(event 4)\n" ++ replicate 65516 120) ≡ turned_down_at 13 2
  -- 10: no line feed, a leading zero, seventeen digits, spaces, brackets, bytes after the form, upper case
  pub no-feed : events_of table 0 (bytes "(event 1)") ≡ turned_down_at 10 1
  pub no-last-feed : events_of table 0 (bytes "(event 1)\n(event 2)") ≡ turned_down_at 10 2
  pub leading-zero : reading ("(event 1)" ∷ "(event 02)" ∷ []) ≡ turned_down_at 10 2
  pub two-zeros : line "(event 1 (loss 00 1 0))" ≡ turned_down_at 10 1
  pub seventeen : line "(event 10000000000000000)" ≡ turned_down_at 10 1
  pub seventeen_in_loss : line "(event 1 (loss 0 1 10000000000000000))" ≡ turned_down_at 10 1
  pub empty-line : reading ("(event 1)" ∷ "" ∷ []) ≡ turned_down_at 10 2
  pub no-day : line "(event)" ≡ turned_down_at 10 1
  pub space_before : line " (event 1)" ≡ turned_down_at 10 1
  pub space_after : line "(event 1) " ≡ turned_down_at 10 1
  pub space_inside : line "(event  1)" ≡ turned_down_at 10 1
  pub space_before_bracket : line "(event 1 )" ≡ turned_down_at 10 1
  pub space_missing : line "(event 1(loss 0 1 0))" ≡ turned_down_at 10 1
  pub bracket_missing : line "(event 1 (loss 0 1 0)" ≡ turned_down_at 10 1
  pub bracket_twice : line "(event 1))" ≡ turned_down_at 10 1
  pub two-numbers : line "(event 1 (loss 0 1))" ≡ turned_down_at 10 1
  pub four-numbers : line "(event 1 (loss 0 1 0 0))" ≡ turned_down_at 10 1
  pub upper_case : line "(EVENT 1)" ≡ turned_down_at 10 1
  pub upper_case_loss : line "(event 1 (Loss 0 1 0))" ≡ turned_down_at 10 1
  -- 11: the ends of D, T, E and G, by the tests of the ranges: 0 at an end, 1 one past it
  pub day-ends : map (λ (n : ℕ). event_outside (on n (loss_of 3 7 9 ∷ []))) (0 ∷ 1 ∷ 366 ∷ 367 ∷ [])
      ≡ 1 ∷ 0 ∷ 0 ∷ 1 ∷ []
  pub treaty-ends : map (λ (n : ℕ). loss_outside (loss_of n 7 9)) (0 ∷ 8 ∷ 9 ∷ []) ≡ 0 ∷ 0 ∷ 1 ∷ []
  pub maximum_ends : map (λ (n : ℕ). loss_outside (loss_of 3 n 9)) (0 ∷ 1 ∷ 10000000000000 ∷ 10000000000001 ∷ [])
      ≡ 1 ∷ 0 ∷ 0 ∷ 1 ∷ []
  pub amount-ends : map (λ (n : ℕ). loss_outside (loss_of 3 7 n)) (0 ∷ 1 ∷ 10000000000000 ∷ 10000000000001 ∷ [])
      ≡ 0 ∷ 0 ∷ 0 ∷ 1 ∷ []
  -- the same ends in a text
  pub sixteen-digits : line "(event 9999999999999999)" ≡ turned_down_at 11 1
  pub day_0 : line "(event 0)" ≡ turned_down_at 11 1
  pub day_366 : line "(event 366)" ≡ events (on 366 [] ∷ [])
  pub day_367 : line "(event 367)" ≡ turned_down_at 11 1
  pub treaty_8 : line "(event 1 (loss 8 1 0))" ≡ events (on 1 (loss_of 8 1 0 ∷ []) ∷ [])
  pub treaty_9 : line "(event 1 (loss 9 1 0))" ≡ turned_down_at 11 1
  pub maximum_0 : line "(event 1 (loss 0 0 0))" ≡ turned_down_at 11 1
  pub maximum_high : line "(event 1 (loss 0 10000000000000 0))" ≡ events (on 1 (loss_of 0 10000000000000 0 ∷ []) ∷ [])
  pub maximum_over : line "(event 1 (loss 0 10000000000001 0))" ≡ turned_down_at 11 1
  pub amount-high : line "(event 1 (loss 0 1 10000000000000))" ≡ events (on 1 (loss_of 0 1 10000000000000 ∷ []) ∷ [])
  pub amount-over : line "(event 1 (loss 0 1 10000000000001))" ≡ turned_down_at 11 1
  -- 12: over 64 losses
  pub losses_64 : many 0 64 ")\n" ≡ events (on 1 (replicate 64 (loss_of 0 1 0)) ∷ [])
  pub losses_65 : many 0 65 ")\n" ≡ turned_down_at 12 1
  -- 13: a day below the line before, on the first line below the standing's
  pub equal_days : after 366 ("(event 366)" ∷ "(event 366)" ∷ []) ≡ events (on 366 [] ∷ on 366 [] ∷ [])
  pub day-back : reading ("(event 5)" ∷ "(event 4)" ∷ []) ≡ turned_down_at 13 2
  pub first-day-back : after 100 ("(event 99)" ∷ []) ≡ turned_down_at 13 1
  -- 14: a treaty that the table lacks
  pub treaty-lacking : line "(event 1 (loss 1 1 0) (loss 3 1 0))" ≡ turned_down_at 14 1
  -- the lowest number on one line, also of a later loss and past the 64th
  pub form-before-range : line "(event 367 (loss 0 1 00))" ≡ turned_down_at 10 1
  pub range_in_later_loss : line "(event 1 (loss 3 1 0) (loss 0 0 0))" ≡ turned_down_at 11 1
  pub range_in_65th_loss : many 0 64 " (loss 0 0 0))\n" ≡ turned_down_at 11 1
  pub form_past_64 : many 0 65 "\n" ≡ turned_down_at 10 1
  pub range-before-day : reading ("(event 9)" ∷ "(event 8 (loss 0 0 0))" ∷ []) ≡ turned_down_at 11 2
  pub count-before-treaty : many 0 64 " (loss 3 1 0))\n" ≡ turned_down_at 12 1
  pub count-before-day : many 2 65 ")\n" ≡ turned_down_at 12 1
  pub day-before-treaty : after 2 ("(event 1 (loss 3 1 0))" ∷ []) ≡ turned_down_at 13 1
  pub day-before-later-treaty : reading ("(event 9)" ∷ "(event 8 (loss 1 1 0) (loss 5 1 0))" ∷ []) ≡ turned_down_at 13 2
  -- a day back, 65 losses, a treaty that the table lacks, and with these a number outside its range
  pub faults_12_to_14 : many 2 64 " (loss 3 1 0))\n" ≡ turned_down_at 12 1
  pub faults_11_to_14 : many 2 64 " (loss 3 0 0))\n" ≡ turned_down_at 11 1
  -- the first line from the top
  pub first-line : reading ("(event 1 (loss 3 1 0))" ∷ "none" ∷ []) ≡ turned_down_at 14 1
  pub day-before-form : reading ("(event 2)" ∷ "(event 1)" ∷ "none" ∷ []) ≡ turned_down_at 13 2
  -- the last day: that of the last event, or the day before without one
  pub no-last-day : map (λ (d : ℕ). last_day d []) (0 ∷ 230 ∷ []) ≡ 0 ∷ 230 ∷ []
  pub last-day : last_day 230 (on 231 [] ∷ on 240 (loss_of 0 7 9 ∷ []) ∷ []) ≡ 240

pub corners : Corners
unfolding digit_of read_on number capital matched lines_of outside closes losses_up_to event_of loss_outside event_outside
    lacking event_fault read_from events_of
corners = record {
  empty = refl;
  two-losses = refl;
  no-losses = refl;
  two-events = refl;
  long = refl;
  not_long = refl;
  long_of_lines = refl;
  not_long_of_lines = refl;
  no-feed = refl;
  no-last-feed = refl;
  leading-zero = refl;
  two-zeros = refl;
  seventeen = refl;
  seventeen_in_loss = refl;
  empty-line = refl;
  no-day = refl;
  space_before = refl;
  space_after = refl;
  space_inside = refl;
  space_before_bracket = refl;
  space_missing = refl;
  bracket_missing = refl;
  bracket_twice = refl;
  two-numbers = refl;
  four-numbers = refl;
  upper_case = refl;
  upper_case_loss = refl;
  day-ends = refl;
  treaty-ends = refl;
  maximum_ends = refl;
  amount-ends = refl;
  sixteen-digits = refl;
  day_0 = refl;
  day_366 = refl;
  day_367 = refl;
  treaty_8 = refl;
  treaty_9 = refl;
  maximum_0 = refl;
  maximum_high = refl;
  maximum_over = refl;
  amount-high = refl;
  amount-over = refl;
  losses_64 = refl;
  losses_65 = refl;
  equal_days = refl;
  day-back = refl;
  first-day-back = refl;
  treaty-lacking = refl;
  form-before-range = refl;
  range_in_later_loss = refl;
  range_in_65th_loss = refl;
  form_past_64 = refl;
  range-before-day = refl;
  count-before-treaty = refl;
  count-before-day = refl;
  day-before-treaty = refl;
  day-before-later-treaty = refl;
  faults_12_to_14 = refl;
  faults_11_to_14 = refl;
  first-line = refl;
  day-before-form = refl;
  no-last-day = refl;
  last-day = refl;
}
