-- Document 02, Q-13, worked by hand: a year of which the events are dealt to other days, in other runs, without risk
-- layers and with them; a list of losses in another order; a list that occurs once more.
-- Assumes nothing.
use mathlib.Core.Path.{◌≡◌, refl}
use mathlib.Core.List.{List, [], ◌∷◌, ◌++◌, cons≢nil}
use Prim.Native.Nat.{ℕ}
use lib.ListN.{replicate}
use Rattle.arith.specs.Round.{rounded}
use Rattle.text.specs.Bytes.{bytes}
use Rattle.text.specs.Number.{printed_by, printed, digit_of, read_on, number}
use Rattle.text.specs.Template.{capital, filled, matched, whole_of, line_numbers}
use Rattle.text.specs.Lines.{lines_of}
use Rattle.treaty.specs.declared.Loss.{Loss}
use Rattle.treaty.specs.Treaty.{loss_of, ceded_by_quota, ceded_of, cut_to_limit, ceded_of_loss}
use Rattle.treaty.specs.Losses.{ceded_in}
use Rattle.layer.specs.Layer.{placed_of, recovered_of, rated_of, premium_of, recovery_of}
use Rattle.layer.specs.Layer.{due_for, due_of, timed_part, timed_most, year_premium}
use Rattle.scale.specs.Scale.{day_share, time_shares, scale_passes}
use Rattle.answer.specs.Outcome.{fitted}
use Rattle.programme.specs.declared.contract.Programme.{Programme}
use Rattle.programme.specs.Ranges.{outside, treaty_outside, rates_outside, terms_outside, treaty_not_zero, terms_not_zero}
use Rattle.programme.specs.Rules.{treaty_fault, layer_fault}
use Rattle.programme.specs.Valid.{valid_treaties, valid_layers, valid}
use Rattle.table_text.specs.Forms.{kind_of, rates_text, layer_numbers, tail_time, layer_terms, form_of_kind, form_of}
use Rattle.table_text.specs.Read.{read_from, read_of}
use Rattle.events.specs.Event.{closes, losses_up_to, event_of, stated_in}
use Rattle.events.specs.Rules.{loss_outside, event_outside, lacking, event_fault}
use Rattle.events.specs.Read.{events_of, read_from as eventsFrom}
use Rattle.year.specs.Event.{subject_of}
use Rattle.year.specs.Statement.{statement_text}
use Rattle.year.specs.Standing.{standing_passes}
use Rattle.year.specs.Run.{run_by, run_from, run_under}
use Rattle.year.specs.Ledger.{recovery_added, due_added, Ledger}
use Rattle.year.specs.History.{Call, statements_of, events_of_history, ledger_of_history, summed}
use Rattle.year.specs.History.{spent_in, recoveries_in, timed_in}
use Rattle.dealing.specs.Dealing.{loss_lists, WithoutRisk, amount_premiums_in}

-- a run of a text in a buffer of 900 bytes 7
abbrev pub call : List ℕ → Call
call s = record { text = s; buffer = replicate 900 7 }

-- A quota share with an event limit and two catastrophe layers. The first charges by time, has a deductible and two
-- reinstatements at different rates; the second has none and is exhausted.
abbrev pub cat_table : Programme
cat_table =
    (read_of
    (bytes "(quota 1 (cede 4000) (capacity 0) (event 4100))\n"
    ++ bytes "(cat (band 5000 8000) (deduct 3000) (back 2 900 10000 5000) (placed 3333) (time))\n"
    ++ bytes "(cat (band 13000 6000) (deduct 0) (back 0 0) (placed 7200))\n")).programme

-- Losses in three lists, and the list of an event without losses. Of the first the quota share takes 4,000 and then
-- 100 of 2,520, so that 12,200 are left; of the others it takes nothing.
abbrev pub limited : List Loss
limited = loss_of 1 12000 10000 ∷ loss_of 1 9000 6300 ∷ []

abbrev pub large : List Loss
large = loss_of 0 20000 17500 ∷ []

abbrev pub small : List Loss
small = loss_of 0 9000 4999 ∷ []

abbrev pub no_losses : List Loss
no_losses = []

-- The year as it was dated first: two runs, and between them one that is refused for its day.
abbrev pub dated : List Call
dated =
    call (bytes "(event 20 (loss 1 12000 10000) (loss 1 9000 6300))\n(event 90 (loss 0 20000 17500))\n")
    ∷ call (bytes "(event 89 (loss 0 9000 4999))\n")
    ∷ call (bytes "(event 90 (loss 0 9000 4999))\n(event 91)\n(event 300 (loss 0 20000 17500))\n")
    ∷ []

-- The same lists dealt to other days: three runs, and one that is refused for its form.
abbrev pub redated : List Call
redated =
    call (bytes "(event 1 (loss 0 20000 17500))\n")
    ∷ call (bytes "(event 1 (loss 0 20000 17500)\n")
    ∷ call (bytes "(event 1)\n(event 200 (loss 1 12000 10000) (loss 1 9000 6300))\n")
    ∷ call (bytes "(event 200 (loss 0 9000 4999))\n(event 366 (loss 0 20000 17500))\n")
    ∷ []

-- the large list once, and twice
abbrev pub once : List Call
once = call (bytes "(event 90 (loss 0 20000 17500))\n") ∷ []

abbrev pub twice : List Call
twice = call (bytes "(event 90 (loss 0 20000 17500))\n(event 300 (loss 0 20000 17500))\n") ∷ []

-- A risk layer that the year exhausts, below a catastrophe layer.
abbrev pub both_table : Programme
both_table =
    (read_of
    (bytes "(risk (band 5000 5000) (deduct 0) (back 1 600 10000) (placed 9000))\n"
    ++ bytes "(cat (band 8000 20000) (deduct 0) (back 0 0) (placed 7200))\n")).programme

-- two events, and the same two with their days changed over
abbrev pub highest : List Loss
highest = loss_of 0 30000 24000 ∷ loss_of 0 9000 8000 ∷ []

abbrev pub lower : List Loss
lower = loss_of 0 12000 9000 ∷ loss_of 0 3000 2500 ∷ []

abbrev pub contracts_in_order : List Call
contracts_in_order =
    call
    (bytes "(event 40 (loss 0 30000 24000) (loss 0 9000 8000))\n"
    ++ bytes "(event 90 (loss 0 12000 9000) (loss 0 3000 2500))\n")
    ∷ []

abbrev pub changed_over : List Call
changed_over =
    call
    (bytes "(event 40 (loss 0 12000 9000) (loss 0 3000 2500))\n"
    ++ bytes "(event 90 (loss 0 30000 24000) (loss 0 9000 8000))\n")
    ∷ []

-- A risk layer above the quota share, and one event with its two losses in either order.
abbrev pub risk_table : Programme
risk_table =
    (read_of
    (bytes "(quota 1 (cede 4000) (capacity 0) (event 4100))\n"
    ++ bytes "(risk (band 5000 10000) (deduct 0) (back 0 0) (placed 9000))\n")).programme

abbrev pub larger_first : List Call
larger_first = call (bytes "(event 40 (loss 1 12000 10000) (loss 1 9000 6300))\n") ∷ []

abbrev pub smaller_first : List Call
smaller_first = call (bytes "(event 40 (loss 1 9000 6300) (loss 1 12000 10000))\n") ∷ []

-- by the built-in shares: the lists of a history's events, its ledger and its net
abbrev pub lists_in : Programme → List Call → List (List Loss)
lists_in p h = loss_lists (events_of_history time_shares p h)

abbrev pub ledger_in : Programme → List Call → Ledger
ledger_in p h = ledger_of_history time_shares p h

abbrev pub net_in : Programme → List Call → ℕ
net_in p h = (summed (statements_of time_shares p h)).net

pub record Redated : Type 0 where
  -- the accepted runs' lists
  pub dated_lists : lists_in cat_table dated ≡ limited ∷ large ∷ small ∷ no_losses ∷ large ∷ []
  pub redated_lists : lists_in cat_table redated ≡ large ∷ no_losses ∷ limited ∷ small ∷ large ∷ []
  pub once_lists : lists_in cat_table once ≡ large ∷ []
  pub twice_lists : lists_in cat_table twice ≡ large ∷ large ∷ []
  pub in_order_lists : lists_in both_table contracts_in_order ≡ highest ∷ lower ∷ []
  pub changed_over_lists : lists_in both_table changed_over ≡ lower ∷ highest ∷ []
  pub larger_first_lists : lists_in risk_table larger_first ≡ limited ∷ []
  pub smaller_first_lists : lists_in risk_table smaller_first ≡ (loss_of 1 9000 6300 ∷ loss_of 1 12000 10000 ∷ []) ∷ []
  -- the first table has no risk layers, nor has a table without contracts; the second has one
  pub without_risk : WithoutRisk cat_table
  pub without_contracts : WithoutRisk (read_of []).programme
  pub with_risk : WithoutRisk both_table → ⊥
  -- The first layer is brought 7,200, 8,000 and 8,000, which is 23,200 of 27,000: 33.33% of 20,200 are 6,732.66, and
  -- (2,666 × 100% + 2,667 × 50%) × 900 / 8,000 is 449.94. The second is brought 4,500 twice, of 6,000.
  pub dated-spent : spent_in (ledger_in cat_table dated).cat ≡ 23200 ∷ 6000 ∷ []
  pub redated-spent : spent_in (ledger_in cat_table redated).cat ≡ 23200 ∷ 6000 ∷ []
  pub dated-recovered : recoveries_in (ledger_in cat_table dated).cat ≡ 6733 ∷ 4320 ∷ []
  pub redated-recovered : recoveries_in (ledger_in cat_table redated).cat ≡ 6733 ∷ 4320 ∷ []
  pub dated-premium : amount_premiums_in (ledger_in cat_table dated).cat ≡ 450 ∷ 0 ∷ []
  pub redated-premium : amount_premiums_in (ledger_in cat_table redated).cat ≡ 450 ∷ 0 ∷ []
  -- 56,299 less 4,100, 6,733 and 4,320
  pub dated-net : net_in cat_table dated ≡ 41146
  pub redated-net : net_in cat_table redated ≡ 41146
  -- What is charged goes by the days: 158 × 0.9479, 221 × 0.7561 and 71 × 0.1808 are 150, 167 and 13; 188 × 1,
  -- 191 × 0.4547 and 71 × 0 are 188, 87 and 0.
  pub dated-timed : timed_in (ledger_in cat_table dated).cat ≡ 330 ∷ 0 ∷ []
  pub redated-timed : timed_in (ledger_in cat_table redated).cat ≡ 275 ∷ 0 ∷ []
  -- A list once more is another year. Of 5,000 used 1,667 are recovered, at 100%; of 13,000 4,333, the first 2,666 at
  -- 100% and the others at 50%: 187.54 and 393.69.
  pub once-spent : spent_in (ledger_in cat_table once).cat ≡ 8000 ∷ 4500 ∷ []
  pub twice-spent : spent_in (ledger_in cat_table twice).cat ≡ 16000 ∷ 6000 ∷ []
  pub once-premium : amount_premiums_in (ledger_in cat_table once).cat ≡ 188 ∷ 0 ∷ []
  pub twice-premium : amount_premiums_in (ledger_in cat_table twice).cat ≡ 394 ∷ 0 ∷ []
  -- The risk layer is brought 5,000, 3,000 and 4,000 of 10,000. Where the 9,000 come last, 1,800 of them are recovered
  -- and the catastrophe layer is brought 16,800 and 1,700; where they come first, 3,600, and it is brought 0, 18,600.
  pub in_order_risk : spent_in (ledger_in both_table contracts_in_order).risk ≡ 10000 ∷ []
  pub changed_over_risk : spent_in (ledger_in both_table changed_over).risk ≡ 10000 ∷ []
  pub in_order_recovered : recoveries_in (ledger_in both_table contracts_in_order).risk ≡ 9000 ∷ []
  pub changed_over_recovered : recoveries_in (ledger_in both_table changed_over).risk ≡ 9000 ∷ []
  pub in_order_premium : amount_premiums_in (ledger_in both_table contracts_in_order).risk ≡ 540 ∷ []
  pub changed_over_premium : amount_premiums_in (ledger_in both_table changed_over).risk ≡ 540 ∷ []
  pub in_order_cat : spent_in (ledger_in both_table contracts_in_order).cat ≡ 18500 ∷ []
  pub changed_over_cat : spent_in (ledger_in both_table changed_over).cat ≡ 18600 ∷ []
  -- 43,500 less 9,000 and 13,320, or 13,392
  pub in_order_net : net_in both_table contracts_in_order ≡ 21180
  pub changed_over_net : net_in both_table changed_over ≡ 21108
  -- The later loss is cut to what is left of the event limit: 6,000 and 6,200 stay, or 3,780 and 8,420.
  pub larger-first : spent_in (ledger_in risk_table larger_first).risk ≡ 2200 ∷ []
  pub smaller_first_lem : spent_in (ledger_in risk_table smaller_first).risk ≡ 3420 ∷ []

pub redated-figures : Redated
unfolding
    rounded printed_by printed digit_of read_on number capital filled matched whole_of line_numbers lines_of ceded_by_quota
    ceded_of cut_to_limit ceded_of_loss ceded_in placed_of recovered_of rated_of premium_of recovery_of due_for due_of timed_part
    timed_most year_premium day_share time_shares kind_of rates_text layer_numbers tail_time layer_terms form_of_kind form_of
    outside treaty_outside rates_outside terms_outside treaty_not_zero terms_not_zero treaty_fault layer_fault read_from
    read_of valid_treaties valid_layers valid closes losses_up_to event_of stated_in loss_outside event_outside lacking
    event_fault events_of eventsFrom subject_of statement_text standing_passes fitted scale_passes run_by run_from run_under
    recovery_added due_added
redated-figures = record {
  dated_lists = refl;
  redated_lists = refl;
  once_lists = refl;
  twice_lists = refl;
  in_order_lists = refl;
  changed_over_lists = refl;
  larger_first_lists = refl;
  smaller_first_lists = refl;
  without_risk = refl;
  without_contracts = refl;
  with_risk = λ e. cons≢nil e;
  dated-spent = refl;
  redated-spent = refl;
  dated-recovered = refl;
  redated-recovered = refl;
  dated-premium = refl;
  redated-premium = refl;
  dated-net = refl;
  redated-net = refl;
  dated-timed = refl;
  redated-timed = refl;
  once-spent = refl;
  twice-spent = refl;
  once-premium = refl;
  twice-premium = refl;
  in_order_risk = refl;
  changed_over_risk = refl;
  in_order_recovered = refl;
  changed_over_recovered = refl;
  in_order_premium = refl;
  changed_over_premium = refl;
  in_order_cat = refl;
  changed_over_cat = refl;
  in_order_net = refl;
  changed_over_net = refl;
  larger-first = refl;
  smaller_first_lem = refl;
}
