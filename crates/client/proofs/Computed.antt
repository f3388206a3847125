-- What the definitions come to on the client's texts, programmes and standings, by computation.
-- Assumes nothing.
use mathlib.Core.Bool.{true}
use mathlib.Core.Path.{◌≡◌, refl, ap, ◌∙◌}
use mathlib.Core.List.{List, [], ◌∷◌, ◌++◌}
use Prim.Native.Nat.{ℕ}
use lib.ListN.{length, replicate}
use Rattle.arith.specs.Round.{rounded}
use Rattle.text.specs.Bytes.{bytes}
use Rattle.text.specs.Number.{printed_by, printed, digit_of, read_on, number}
use Rattle.text.specs.Template.{capital, filled, matched, whole_of, line_numbers}
use Rattle.text.specs.Lines.{lines_of}
use Rattle.treaty.specs.Treaty.{ceded_by_quota, ceded_by_surplus, ceded_of, cut_to_limit, ceded_of_loss}
use Rattle.treaty.specs.Losses.{ceded_in}
use Rattle.layer.specs.Layer.{placed_of, recovered_of, rated_of, premium_of, recovery_of, charge_of}
use Rattle.layer.specs.Layer.{due_for, due_of, timed_part, timed_most, year_premium}
use Rattle.scale.specs.Scale.{day_share, time_shares, scale_passes}
use Rattle.answer.specs.declared.Answer.{Answer}
use Rattle.answer.specs.Outcome.{refused, fitted, answer_of, buffer_after}
use Rattle.scale_text.specs.Read.{day_fault, line_fault, read_from as scaleFrom, read_of as readScale}
use Rattle.programme.specs.declared.contract.Programme.{Programme}
use Rattle.programme.specs.Ranges.{outside, treaty_outside, rates_outside, terms_outside, treaty_not_zero, terms_not_zero}
use Rattle.programme.specs.Rules.{treaty_fault, layer_fault}
use Rattle.programme.specs.Valid.{valid_treaties, valid_layers, valid}
use Rattle.table_text.specs.declared.Reading.{Reading}
use Rattle.table_text.specs.Forms.{kind_of, rates_text, layer_numbers, tail_time, layer_terms, form_of_kind, form_of}
use Rattle.table_text.specs.Forms.{treaty_line}
use Rattle.table_text.specs.Read.{read_from, read_of}
use Rattle.table_text.specs.Write.{write_of}
use Rattle.events.specs.Event.{closes, losses_up_to, event_of}
use Rattle.events.specs.Rules.{loss_outside, event_outside, lacking, event_fault}
use Rattle.events.specs.Read.{events_of, read_from as eventsFrom}
use Rattle.year.specs.declared.Standing.{Standing}
use Rattle.year.specs.declared.Opening.{Opening}
use Rattle.year.specs.Event.{subject_of}
use Rattle.year.specs.Statement.{statement_text}
use Rattle.year.specs.Standing.{open_of, standing_passes}
use Rattle.year.specs.Run.{run_by, run_from, run_under, run_of, standing_after}
use Rattle.client.specs.declared.After.{After}
use Rattle.client.specs.After.{after_of}
use Rattle.client.specs.Sidney.{no_programme, opened, table_text_of, events_text, statement, sidney, unused_place}
use Rattle.client.specs.Sidney.{afterwards, over_the_whole}
use Rattle.client.specs.Timed.{timed_table, timed_events, timed_statement, timed, charged, overcharged}
use Rattle.client.specs.Scaled.{steps, too_few_shares, rising_text, scaled_statement, scaled_standing}

pub record Computed : Type 0 where
  pub read : read_of table_text_of ≡ record { refusal = 0; line = 0; programme = sidney }
  pub not_read : read_of over_the_whole ≡ record { refusal = 3; line = 2; programme = no_programme }
  pub year-opened : open_of sidney ≡ record { refusal = 0; number = 0; standing = opened }
  pub not_opened : open_of unused_place ≡ record { refusal = 6; number = 0; standing = opened }
  pub wrote : answer_of (write_of sidney 241) ≡ record { refusal = 0; number = 238 }
  pub wrote-bytes : buffer_after (write_of sidney 241) (replicate 241 35) ≡ table_text_of ++ (35 ∷ 35 ∷ 35 ∷ [])
  pub not_written : write_of sidney 237 ≡ refused 7 238
  pub ran : answer_of (run_of sidney opened events_text 444) ≡ record { refusal = 0; number = 443 }
  pub ran-standing : standing_after (run_of sidney opened events_text 444) opened ≡ afterwards
  pub ran-bytes : buffer_after (run_of sidney opened events_text 444) (replicate 444 35) ≡ statement ++ (35 ∷ [])
  pub not_run : (room : ℕ) → run_of sidney afterwards (bytes "(event 367)\n") room ≡ refused 11 1
  pub read-timed : read_of timed_table ≡ record { refusal = 0; line = 0; programme = timed }
  pub opened-timed : open_of timed ≡ record { refusal = 0; number = 0; standing = opened }
  pub ran-timed : answer_of (run_of timed opened timed_events 243) ≡ record { refusal = 0; number = 242 }
  pub charged-timed : standing_after (run_of timed opened timed_events 243) opened ≡ charged
  pub bytes-timed : buffer_after (run_of timed opened timed_events 243) (replicate 243 35) ≡ timed_statement ++ (35 ∷ [])
  pub too_much : (text : List ℕ) (room : ℕ) → run_of timed overcharged text room ≡ refused 8 0
  pub a_scale : scale_passes steps ≡ true
  pub not_read_scale : readScale rising_text
      ≡ record { refusal = 30; line = 2; scale = record { shares = replicate 366 0 } }
  pub ran_scaled : answer_of (run_under steps timed opened timed_events 246) ≡ record { refusal = 0; number = 245 }
  pub charged_scaled : standing_after (run_under steps timed opened timed_events 246) opened ≡ scaled_standing
  pub bytes_scaled : buffer_after (run_under steps timed opened timed_events 246) (replicate 246 35)
      ≡ scaled_statement ++ (35 ∷ [])
  pub too_few : (text : List ℕ) (room : ℕ) → run_under too_few_shares sidney afterwards text room ≡ refused 28 0

pub computed : Computed
unfolding
    rounded printed_by printed digit_of read_on number capital filled matched whole_of line_numbers lines_of
    ceded_by_quota ceded_by_surplus ceded_of cut_to_limit ceded_of_loss placed_of recovered_of rated_of premium_of recovery_of
    charge_of due_for due_of timed_part timed_most year_premium day_share time_shares day_fault line_fault scaleFrom readScale
    kind_of rates_text layer_numbers tail_time layer_terms form_of_kind form_of treaty_line outside treaty_outside rates_outside
    terms_outside treaty_not_zero terms_not_zero treaty_fault layer_fault read_from read_of valid_treaties valid_layers valid
    closes losses_up_to event_of loss_outside event_outside lacking event_fault events_of eventsFrom ceded_in subject_of
    statement_text open_of standing_passes fitted write_of scale_passes run_by run_from run_under
computed = record {
  read = refl;
  not_read = refl;
  year-opened = refl;
  not_opened = refl;
  wrote = refl;
  wrote-bytes = refl;
  not_written = refl;
  ran = refl;
  ran-standing = refl;
  ran-bytes = refl;
  not_run = λ room. refl;
  read-timed = refl;
  opened-timed = refl;
  ran-timed = refl;
  charged-timed = refl;
  bytes-timed = refl;
  too_much = λ text room. refl;
  a_scale = refl;
  not_read_scale = refl;
  ran_scaled = refl;
  charged_scaled = refl;
  bytes_scaled = refl;
  too_few = λ text room. refl;
}

-- as the calls' contracts have them
pub reading-is : {s : List ℕ} {r : Reading} → s ≡ table_text_of → r ≡ read_of s
    → r ≡ record { refusal = 0; line = 0; programme = sidney }
reading-is e f = f ∙ ap read_of e ∙ computed.read

pub opening_is : {p : Programme} {r : Opening} → p ≡ sidney → r ≡ open_of p
    → r ≡ record { refusal = 0; number = 0; standing = opened }
opening_is e f = f ∙ ap open_of e ∙ computed.year-opened

pub read-turned-down : {s : List ℕ} {r : Reading} → s ≡ over_the_whole → r ≡ read_of s
    → r ≡ record { refusal = 3; line = 2; programme = no_programme }
read-turned-down e f = f ∙ ap read_of e ∙ computed.not_read

pub opening_turned_down : {p : Programme} {r : Opening} → p ≡ unused_place → r ≡ open_of p
    → r ≡ record { refusal = 6; number = 0; standing = opened }
opening_turned_down e f = f ∙ ap open_of e ∙ computed.not_opened

-- a table that is read
module _ {r : Reading} (a : r ≡ record { refusal = 0; line = 0; programme = sidney }) where
  pub programme-is : r.programme ≡ sidney
  programme-is = ap (λ (r : Reading). r.programme) a

  -- and written again
  module _ {d : List ℕ} (e : d ≡ replicate 241 35) where
    pub table-answer : {n : Answer} → n ≡ answer_of (write_of r.programme (length d))
        → n ≡ record { refusal = 0; number = 238 }
    table-answer f = rw (programme-is, e) at f ∙ computed.wrote

    pub table-bytes : {d' : List ℕ} → d' ≡ buffer_after (write_of r.programme (length d)) d
        → d' ≡ table_text_of ++ (35 ∷ 35 ∷ 35 ∷ [])
    table-bytes f = rw (programme-is, e) at f ∙ computed.wrote-bytes

  -- and for whose programme a year is opened and the event run
  module _ {o : Opening} (c : o ≡ record { refusal = 0; number = 0; standing = opened }) {s d : List ℕ}
      (e : s ≡ events_text) (f : d ≡ replicate 444 35) where
    standing-is : o.standing ≡ opened
    standing-is = ap (λ (o : Opening). o.standing) c

    pub run-after : {x : After} → x ≡ after_of (run_of r.programme o.standing s (length d)) o.standing
        → x ≡ record { answer = record { refusal = 0; number = 443 }; standing = afterwards }
    run-after g =
        rw (programme-is, standing-is, e, f) at g
        ∙ (λ i. record { answer = computed.ran i; standing = computed.ran-standing i })

    pub run-bytes : {d' : List ℕ} → d' ≡ buffer_after (run_of r.programme o.standing s (length d)) d
        → d' ≡ statement ++ (35 ∷ [])
    run-bytes g = rw (programme-is, standing-is, e, f) at g ∙ computed.ran-bytes

-- a buffer that is one byte short
module _ {p : Programme} (d : List ℕ) (a : p ≡ sidney) (b : length d ≡ 237) where
  pub short-answer : {n : Answer} → n ≡ answer_of (write_of p (length d)) → n ≡ record { refusal = 7; number = 238 }
  short-answer f = rw (a, b, computed.not_written) at f

  pub short-bytes : {d' : List ℕ} → d' ≡ buffer_after (write_of p (length d)) d → d' ≡ d
  short-bytes f = rw (a, b, computed.not_written) at f

-- a day out of range
module _ {p : Programme} {h : Standing} {s : List ℕ} (a : p ≡ sidney) (b : h ≡ afterwards)
    (c : s ≡ bytes "(event 367)\n") where
  refused-is : (room : ℕ) → run_of p h s room ≡ refused 11 1
  refused-is room = rw (a, b, c) (computed.not_run room)

  pub refused-after : (d : List ℕ) {x : After} → x ≡ after_of (run_of p h s (length d)) h
      → x ≡ record { answer = record { refusal = 11; number = 1 }; standing = h }
  refused-after d f = rw (refused-is (length d)) at f

  pub refused-bytes : (d : List ℕ) {d' : List ℕ} → d' ≡ buffer_after (run_of p h s (length d)) d → d' ≡ d
  refused-bytes d f = rw (refused-is (length d)) at f
