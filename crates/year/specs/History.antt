-- Document 01, The year, first paragraph, with document 02's Q-4 and Q-12: histories, lists of runs under one programme
-- and one scale of time shares from a fresh year, and later lists of runs.
-- Assumes nothing.
use Rattle.std.specs.Prelude.{Bool, true, false, ◌≡◌, List, [], ◌∷◌, map, ℕ, ◌+◌, length}
use Rattle.lists.specs.Sums.{sum_of}
use Rattle.treaty.specs.declared.Treaty.{Treaty}
use Rattle.treaty.specs.Losses.{gross_of}
use Rattle.layer.specs.Layer.{recovered_of, layer_of, year_premium}
use Rattle.answer.specs.declared.Answer.{Answer}
use Rattle.answer.specs.Outcome.{Outcome, refused, written, answer_of, buffer_after}
use Rattle.programme.specs.declared.contract.Programme.{Programme}
use Rattle.events.specs.Event.{Event, losses_in, last_day}
use Rattle.year.specs.declared.Standing.{Standing}
use Rattle.year.specs.declared.Amounts.{Amounts}
use Rattle.year.specs.Tiers.{TierName, risk, cat, in_tier}
use Rattle.year.specs.Statement.{Statement, LayerLine, ceded_by, added}
use Rattle.year.specs.Standing.{fresh}
use Rattle.year.specs.Run.{Left, run_under, standing_after}
use Rattle.year.specs.Ledger.{Entry, spent_by, Ledger, Fed, events_fed, ledger_of}

-- what is lent to a run but for the standing: the events text and the buffer
pub record Call : Type 0 where
  pub text : List ℕ
  pub buffer : List ℕ

-- what a run comes to
abbrev pub outcome_of : (shares : List ℕ) → Programme → Standing → Call → Outcome Left
outcome_of shares p s c = run_under shares p s c.text (length c.buffer)

-- the standing after a list of runs, each lent the standing that the one before left
abbrev pub standing_in : (shares : List ℕ) → Programme → Standing → List Call → Standing
standing_in shares p s [] = s
standing_in shares p s (c ∷ cs) = standing_in shares p (standing_after (outcome_of shares p s c) s) cs

-- a run's statement before others, where it was accepted
abbrev pub statement_before : Outcome Left → List Statement → List Statement
statement_before (refused n w) ts = ts
statement_before (written t after) ts = after.statement ∷ ts

-- the statements of the accepted runs
abbrev pub statements_in : (shares : List ℕ) → Programme → Standing → List Call → List Statement
statements_in shares p s [] = []
statements_in shares p s (c ∷ cs) =
    statement_before (outcome_of shares p s c) (statements_in shares p (standing_after (outcome_of shares p s c) s) cs)

-- whether a run was accepted
abbrev pub is_accepted : Outcome Left → Bool
is_accepted (refused n w) = false
is_accepted (written t after) = true

-- what the ledger is fed of the runs
abbrev pub fed_in : (shares : List ℕ) → Programme → Standing → List Call → List Fed
fed_in shares p s [] = []
fed_in shares p s (c ∷ cs) =
    record { text = c.text; accepted = is_accepted (outcome_of shares p s c) }
    ∷ fed_in shares p (standing_after (outcome_of shares p s c) s) cs

module _ (shares : List ℕ) (p : Programme) (h : List Call) where
  -- the standing that a history leaves
  abbrev pub standing_of_history : Standing
  standing_of_history = standing_in shares p fresh h

  -- "A history's events, losses and statements are those of its accepted runs."
  abbrev pub statements_of : List Statement
  statements_of = statements_in shares p fresh h

  abbrev pub events_of_history : List Event
  events_of_history = events_fed (fed_in shares p fresh h)

  -- "It ends on the day of its last event, or on 0 without one."
  abbrev pub ends_on : ℕ
  ends_on = last_day 0 events_of_history

  -- its ledger
  abbrev pub ledger_of_history : Ledger
  ledger_of_history = ledger_of shares p (fed_in shares p fresh h)

-- "Its gross, net, ceded and recoveries are the amounts on its statements' total lines, added"
abbrev pub summed : List Statement → Amounts
summed ts = added (map (λ (t : Statement). t.total) ts)

-- gross = net + ceded + risk + cat
abbrev pub Balanced : Amounts → Type 0
Balanced a = a.gross ≡ a.net + a.ceded + a.risk + a.cat

-- "its gross is also the G of all its losses"
abbrev pub gross_in : List Event → ℕ
gross_in es = gross_of (losses_in es)

-- ", and its ceded what the treaties' formulas cede of them, added"
abbrev pub ceded_by_all : List Treaty → List Event → ℕ
ceded_by_all ts es = sum_of (ceded_by es) ts

-- "A layer has recovered what its line in the last statement shows": for each layer of a tier; and the premium shown
abbrev pub recovered_shown : TierName → Statement → List ℕ
recovered_shown n t = map (λ (l : LayerLine). l.recovered) (in_tier n t.layers)

abbrev pub premium_shown : TierName → Statement → List ℕ
premium_shown n t = map (λ (l : LayerLine). l.premium) (in_tier n t.layers)

-- in the last of some statements, `without` where there is none
abbrev pub last_shown : (Statement → List ℕ) → (without : List ℕ) → List Statement → List ℕ
last_shown f without [] = without
last_shown f without (t ∷ ts) = last_shown f (f t) ts

-- "the ledger's sum of its recoveries"
abbrev pub recoveries_in : List Entry → List ℕ
recoveries_in es = map (λ (e : Entry). e.recoveries) es

-- a layer's placed share, to the nearest cent, of its spent amount above the deductible, by the ledger
abbrev pub recovered_in : List Entry → List ℕ
recovered_in es = map (λ (e : Entry). recovered_of e.terms (spent_by e)) es

-- each layer's timed premium by the ledger
abbrev pub timed_in : List Entry → List ℕ
timed_in es = map (λ (e : Entry). e.timed) es

-- each layer's year premium by the ledger: the timed premium, and without (time) that of the spent amount
abbrev pub premiums_in : List Entry → List ℕ
premiums_in es = map (λ (e : Entry). year_premium (layer_of e.terms (spent_by e) e.timed)) es

-- "A tier's recoveries"
abbrev pub recoveries_of_tier : TierName → Amounts → ℕ
recoveries_of_tier risk a = a.risk
recoveries_of_tier cat a = a.cat

-- "answered alike when each run has the same result and leaves the same bytes in its buffer"
pub record Reply : Type 0 where
  pub answer : Answer
  pub buffer : List ℕ

-- how a run is answered that was lent the buffer d
abbrev pub reply_of : Outcome Left → List ℕ → Reply
reply_of o d = record { answer = answer_of o; buffer = buffer_after o d }

-- how a list of runs is answered
abbrev pub replies_in : (shares : List ℕ) → Programme → Standing → List Call → List Reply
replies_in shares p s [] = []
replies_in shares p s (c ∷ cs) =
    reply_of (outcome_of shares p s c) c.buffer ∷ replies_in shares p (standing_after (outcome_of shares p s c) s) cs

-- how a later list of runs is answered
abbrev pub replies_after : (shares : List ℕ) → Programme → (history later : List Call) → List Reply
replies_after shares p h cs = replies_in shares p (standing_of_history shares p h) cs

-- each layer's spent amount by the ledger
abbrev pub spent_in : List Entry → List ℕ
spent_in es = map spent_by es
