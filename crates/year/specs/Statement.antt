-- Document 01, Events and statement: "A statement has one line for each event .., one for each treaty .., one for each
-- layer .., and one of this run's totals, in that order, treaties and layers as in the table."
-- Assumes nothing.
use Rattle.std.specs.Prelude.{List, [], ◌∷◌, ◌++◌, map, ℕ, ◌+◌}
use Rattle.lists.specs.Sums.{sum_of}
use Rattle.text.specs.Bytes.{bytes}
use Rattle.text.specs.Template.{filled}
use Rattle.text.specs.Lines.{joined}
use Rattle.treaty.specs.declared.Treaty.{Treaty}
use Rattle.treaty.specs.Treaty.{taken_by}
use Rattle.layer.specs.declared.record.Layer.{Layer}
use Rattle.layer.specs.Layer.{deductible_left_of, cover_left_of, recovered_of, year_premium}
use Rattle.events.specs.Event.{Event}
use Rattle.year.specs.declared.Amounts.{Amounts}
use Rattle.year.specs.Tiers.{Tiers}
use Rattle.year.specs.Event.{Year, event_after, event_amounts, year_after}

-- an event's line: its day and its amounts
pub record EventLine : Type 0 where
  pub day : ℕ
  pub amounts : Amounts

-- the lines of events from a year on
abbrev pub event_lines : (shares : List ℕ) → List Treaty → Year → List Event → List EventLine
event_lines shares ts y [] = []
event_lines shares ts y (e ∷ es) =
    record { day = e.day; amounts = event_amounts shares ts y e } ∷ event_lines shares ts (event_after shares ts y e) es

-- a treaty's line: its number and what it cedes in this run
pub record TreatyLine : Type 0 where
  pub number : ℕ
  pub ceded : ℕ

-- what a treaty cedes of the losses of events: in each it begins with nothing taken
abbrev pub ceded_by : List Event → Treaty → ℕ
ceded_by es t = sum_of (λ (e : Event). taken_by t e.losses) es

-- the line of a treaty
abbrev pub treaty_line_of : List Event → Treaty → TreatyLine
treaty_line_of es t = record { number = t.number; ceded = ceded_by es t }

-- a layer's line: the year's deductible left, cover left, recovered, premium
pub record LayerLine : Type 0 where
  pub deductible : ℕ
  pub cover : ℕ
  pub recovered : ℕ
  pub premium : ℕ

-- the line of a layer
abbrev pub layer_line_of : Layer → LayerLine
layer_line_of y = record {
  deductible = deductible_left_of y.terms y.spent.0;
  cover = cover_left_of y.terms y.spent.0;
  recovered = recovered_of y.terms y.spent.0;
  premium = year_premium y;
}

-- amounts, added
abbrev pub added : List Amounts → Amounts
added xs = record {
  gross = sum_of (λ (a : Amounts). a.gross) xs;
  ceded = sum_of (λ (a : Amounts). a.ceded) xs;
  risk = sum_of (λ (a : Amounts). a.risk) xs;
  cat = sum_of (λ (a : Amounts). a.cat) xs;
  net = sum_of (λ (a : Amounts). a.net) xs;
  premium = sum_of (λ (a : Amounts). a.premium) xs;
}

-- a run's totals: the amounts of its event lines, added
abbrev pub totals : List EventLine → Amounts
totals ls = added (map (λ (l : EventLine). l.amounts) ls)

-- what a statement shows; a layer's place in its tier is its place in the list
pub record Statement : Type 0 where
  pub events : List EventLine
  pub treaties : List TreatyLine
  pub layers : Tiers (List LayerLine)
  pub total : Amounts

-- the statement of events from a year on
abbrev pub statement_of : (shares : List ℕ) → List Treaty → Year → List Event → Statement
statement_of shares ts y es = record {
  events = event_lines shares ts y es;
  treaties = map (treaty_line_of es) ts;
  layers = record {
    risk = map layer_line_of (year_after shares ts y es).risk;
    cat = map layer_line_of (year_after shares ts y es).cat;
  };
  total = totals (event_lines shares ts y es);
}

-- the lines as document 01 prints them, capitals for numbers: an event's
abbrev pub event_template : List ℕ
event_template = bytes "(event D (gross G) (ceded C) (risk R) (cat K) (net N) (premium P))"

-- a treaty's
abbrev pub treaty_template : List ℕ
treaty_template = bytes "(treaty T (ceded C))"

-- a risk layer's
abbrev pub risk_template : List ℕ
risk_template = bytes "(layer risk I (deductible D) (cover C) (recovered R) (premium P))"

-- a catastrophe layer's
abbrev pub cat_template : List ℕ
cat_template = bytes "(layer cat I (deductible D) (cover C) (recovered R) (premium P))"

-- that of the totals
abbrev pub total_template : List ℕ
total_template = bytes "(total (gross G) (ceded C) (risk R) (cat K) (net N) (premium P))"

-- a line to be printed: a template and its numbers
pub record Line : Type 0 where
  pub template : List ℕ
  pub numbers : List ℕ

-- its bytes, without the line feed
abbrev pub line_text : Line → List ℕ
line_text l = filled l.template l.numbers []

-- the numbers of amounts, of an event's line and of the line of a layer at place i of its tier
abbrev pub amounts_numbers : Amounts → List ℕ
amounts_numbers a = a.gross ∷ a.ceded ∷ a.risk ∷ a.cat ∷ a.net ∷ a.premium ∷ []

abbrev pub event_numbers : EventLine → List ℕ
event_numbers l = l.day ∷ amounts_numbers l.amounts

abbrev pub layer_numbers : (i : ℕ) → LayerLine → List ℕ
layer_numbers i l = i ∷ l.deductible ∷ l.cover ∷ l.recovered ∷ l.premium ∷ []

-- an event's line
abbrev pub event_shown : EventLine → Line
event_shown l = record { template = event_template; numbers = event_numbers l }

-- a treaty's line
abbrev pub treaty_shown : TreatyLine → Line
treaty_shown l = record { template = treaty_template; numbers = l.number ∷ l.ceded ∷ [] }

-- the lines of a tier's layers from place i on, by the template of the tier
abbrev pub layers_shown : (template : List ℕ) (i : ℕ) → List LayerLine → List Line
layers_shown t i [] = []
layers_shown t i (l ∷ ls) = record { template = t; numbers = layer_numbers i l } ∷ layers_shown t (i + 1) ls

-- the line of the totals
abbrev pub total_shown : Amounts → Line
total_shown a = record { template = total_template; numbers = amounts_numbers a }

-- the lines of a statement, in order
abbrev pub lines_shown : Statement → List Line
lines_shown t =
    map event_shown t.events
    ++ (map treaty_shown t.treaties
    ++ (layers_shown risk_template 1 t.layers.risk
    ++ (layers_shown cat_template 1 t.layers.cat ++ (total_shown t.total ∷ []))))

-- a statement's bytes
unfoldable pub statement_text : Statement → List ℕ
statement_text t = joined (map line_text (lines_shown t))
