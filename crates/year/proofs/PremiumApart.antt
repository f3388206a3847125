-- Document 02, Q-2: "With equal rates every statement amount is the former one", and Q-4: only premiums look at rates,
-- at (time), at a day's share and at timed premiums. Under layers that differ in nothing else, and by any two lists of
-- shares, events come to the same amounts but for premiums, leave layers that differ in nothing else, and are stated
-- alike but for premiums. What premiums are with equal rates is in layer/proofs/EqualRates.antt.
-- Assumes nothing.
use mathlib.Core.Path.{◌≡◌, refl, sym, ap, ◌∙◌}
use mathlib.Core.List.{List, [], ◌∷◌, map}
use Prim.Native.Nat.{ℕ, ◌+◌, ◌-◌}
use Rattle.treaty.specs.declared.Treaty.{Treaty}
use Rattle.layer.specs.declared.record.Layer.{Layer}
use Rattle.layer.specs.Layer.{placed_of, recovered_of}
use Rattle.layer.specs.Tier.{recoveries_by, layers_on}
use Rattle.layer.proofs.PremiumApart.{unpriced, layers-on-apart, recoveries-by-apart}
use Rattle.layer.proofs.PremiumApart.{layers-apart, recoveries-apart, left-apart}
use Rattle.scale.specs.Scale.{share_on}
use Rattle.events.specs.Event.{Event}
use Rattle.year.specs.declared.Amounts.{Amounts}
use Rattle.year.specs.Event.{Year, left_by_treaties, subject_of, event_after, event_amounts, year_after}
use Rattle.year.specs.Statement.{EventLine, event_lines, LayerLine, layer_line_of, totals, Statement, statement_of}

-- a year without what premiums alone look at
abbrev pub unpriced_year : Year → Year
unpriced_year y = record { risk = map unpriced y.risk; cat = map unpriced y.cat }

-- amounts without premium, and so the lines of a statement
abbrev pub unpriced_amounts : Amounts → Amounts
unpriced_amounts a = record {
  gross = a.gross;
  ceded = a.ceded;
  risk = a.risk;
  cat = a.cat;
  net = a.net;
  premium = 0;
}

abbrev pub unpriced_event : EventLine → EventLine
unpriced_event l = record { day = l.day; amounts = unpriced_amounts l.amounts }

abbrev pub unpriced_line : LayerLine → LayerLine
unpriced_line l = record { deductible = l.deductible; cover = l.cover; recovered = l.recovered; premium = 0 }

abbrev pub unpriced_statement : Statement → Statement
unpriced_statement t = record {
  events = map unpriced_event t.events;
  treaties = t.treaties;
  layers = record { risk = map unpriced_line t.layers.risk; cat = map unpriced_line t.layers.cat };
  total = unpriced_amounts t.total;
}

-- what a layer's line shows besides its premium does not look at it either
line-unpriced : (y : Layer) → unpriced_line (layer_line_of y) ≡ unpriced_line (layer_line_of (unpriced y))
unfolding recovered_of placed_of
line-unpriced y = refl

lines-unpriced : (ls : List Layer)
    → map unpriced_line (map layer_line_of ls) ≡ map unpriced_line (map layer_line_of (map unpriced ls))
lines-unpriced [] = refl
lines-unpriced (y ∷ ls) = λ i. line-unpriced y i ∷ lines-unpriced ls i

lines-apart : (ls ms : List Layer) → map unpriced ls ≡ map unpriced ms
    → map unpriced_line (map layer_line_of ls) ≡ map unpriced_line (map layer_line_of ms)
lines-apart ls ms same =
    lines-unpriced ls
    ∙ ap (λ (ns : List Layer). map unpriced_line (map layer_line_of ns)) same
    ∙ sym (lines-unpriced ms)

module _ (shares others : List ℕ) (ts : List Treaty) where
  module _ (y z : Year) (same : unpriced_year y ≡ unpriced_year z) (e : Event) where
    same-risk : map unpriced y.risk ≡ map unpriced z.risk
    same-risk = ap (λ (x : Year). x.risk) same

    same-cat : map unpriced y.cat ≡ map unpriced z.cat
    same-cat = ap (λ (x : Year). x.cat) same

    subject-apart : subject_of ts y e ≡ subject_of ts z e
    unfolding subject_of
    subject-apart = left-apart y.risk z.risk same-risk (left_by_treaties ts e)

    cat-apart : recoveries_by (subject_of ts y e) y.cat ≡ recoveries_by (subject_of ts z e) z.cat
    cat-apart =
        recoveries-by-apart y.cat z.cat same-cat (subject_of ts y e)
        ∙ ap (λ (x : ℕ). recoveries_by x z.cat) subject-apart

    -- an event's amounts, but for its premium
    pub amounts-apart : unpriced_amounts (event_amounts shares ts y e) ≡ unpriced_amounts (event_amounts others ts z e)
    amounts-apart i = record {
      gross = (event_amounts shares ts y e).gross;
      ceded = (event_amounts shares ts y e).ceded;
      risk = recoveries-apart y.risk z.risk same-risk (left_by_treaties ts e) i;
      cat = cat-apart i;
      net = subject-apart i - cat-apart i;
      premium = 0;
    }

    -- and its layers, but for what premiums look at
    pub event-apart : unpriced_year (event_after shares ts y e) ≡ unpriced_year (event_after others ts z e)
    event-apart =
        let share = share_on shares e.day in
        let other = share_on others e.day in
        let risk = layers-apart share other (left_by_treaties ts e) y.risk z.risk same-risk in
        let cat = layers-on-apart y.cat z.cat same-cat share other (subject_of ts y e)
        ∙ ap (λ (x : ℕ). map unpriced (layers_on other x z.cat)) subject-apart in
        λ i. record { risk = risk i; cat = cat i }

  -- events in turn: the year after them, their lines and their totals
  pub events-apart : (es : List Event) (y z : Year) → unpriced_year y ≡ unpriced_year z
      → unpriced_year (year_after shares ts y es) ≡ unpriced_year (year_after others ts z es)
  events-apart [] y z same = same
  events-apart (e ∷ es) y z same =
      events-apart es (event_after shares ts y e) (event_after others ts z e) (event-apart y z same e)

  event-lines-apart : (es : List Event) (y z : Year) → unpriced_year y ≡ unpriced_year z
      → map unpriced_event (event_lines shares ts y es) ≡ map unpriced_event (event_lines others ts z es)
  event-lines-apart [] y z same = refl
  event-lines-apart (e ∷ es) y z same =
      let first = amounts-apart y z same e in
      let rest = event-lines-apart es (event_after shares ts y e) (event_after others ts z e) (event-apart y z same e) in
      λ i. record { day = e.day; amounts = first i } ∷ rest i

  totals-apart : (es : List Event) (y z : Year) → unpriced_year y ≡ unpriced_year z
      → unpriced_amounts (totals (event_lines shares ts y es)) ≡ unpriced_amounts (totals (event_lines others ts z es))
  totals-apart [] y z same = refl
  totals-apart (e ∷ es) y z same =
      let first = amounts-apart y z same e in
      let rest = totals-apart es (event_after shares ts y e) (event_after others ts z e) (event-apart y z same e) in
      λ i. record {
        gross = (first i).gross + (rest i).gross;
        ceded = (first i).ceded + (rest i).ceded;
        risk = (first i).risk + (rest i).risk;
        cat = (first i).cat + (rest i).cat;
        net = (first i).net + (rest i).net;
        premium = 0;
      }

  -- a whole statement
  pub statements-apart : (es : List Event) (y z : Year) → unpriced_year y ≡ unpriced_year z
      → unpriced_statement (statement_of shares ts y es) ≡ unpriced_statement (statement_of others ts z es)
  statements-apart es y z same =
      let events = event-lines-apart es y z same in
      let after = events-apart es y z same in
      let risk = lines-apart (year_after shares ts y es).risk (year_after others ts z es).risk
      (ap (λ (x : Year). x.risk) after) in
      let cat = lines-apart (year_after shares ts y es).cat (year_after others ts z es).cat
      (ap (λ (x : Year). x.cat) after) in
      let total = totals-apart es y z same in
      λ i. record {
        events = events i;
        treaties = (statement_of shares ts y es).treaties;
        layers = record { risk = risk i; cat = cat i };
        total = total i;
      }
