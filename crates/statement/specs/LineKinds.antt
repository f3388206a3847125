-- Document 01, Events and statement: the kinds of a statement's lines.
-- Assumes nothing.
use Rattle.std.specs.Prelude.{List, [], ◌∷◌, ℕ, ◌+◌, ◌-◌, length}
use Rattle.text.specs.Bytes.{bytes}
use Rattle.year.specs.Statement.{event_template, treaty_template, risk_template, cat_template, total_template}
use Rattle.year.specs.Statement.{amounts_numbers}
use Rattle.statement.specs.declared.line.Figures.{Figures}
use Rattle.statement.specs.declared.line.Tier.{Tier}
use Rattle.statement.specs.declared.line.Tier.TheVariants.{Risk, Cat}
use Rattle.statement.specs.declared.line.Line.{Line}
use Rattle.statement.specs.declared.line.Line.TheVariants.{Event, Treaty, Layer, Total}

-- the template of a tier's layers
abbrev pub tier_template : Tier → List ℕ
tier_template Risk = risk_template
tier_template Cat = cat_template

-- what it begins with, up to the layer's place
abbrev pub beginning_of : Tier → List ℕ
beginning_of Risk = bytes "(layer risk "
beginning_of Cat = bytes "(layer cat "

-- that of a line
abbrev pub template_of : Line → List ℕ
template_of (Event d a) = event_template
template_of (Treaty n c) = treaty_template
template_of (Layer t i f) = tier_template t
template_of (Total a) = total_template

-- the numbers of figures
abbrev pub figures_numbers : Figures → List ℕ
figures_numbers f = f.deductible ∷ f.cover ∷ f.recovered ∷ f.premium ∷ []

-- those of a line
abbrev pub numbers_of : Line → List ℕ
numbers_of (Event d a) = d ∷ amounts_numbers a
numbers_of (Treaty n c) = n ∷ c ∷ []
numbers_of (Layer t i f) = i ∷ figures_numbers f
numbers_of (Total a) = amounts_numbers a

-- how many bytes of a template stand for themselves, with the line feed, where it has n numbers
abbrev pub own_bytes : (template : List ℕ) (n : ℕ) → ℕ
own_bytes t n = length t + 1 - n

-- those of a layer's line
abbrev pub layer_bytes : Tier → ℕ
layer_bytes t = own_bytes (tier_template t) 5

-- the fewest bytes that a statement has: those of the line of the totals, each number one digit, and the line feed
abbrev pub least_bytes : ℕ
least_bytes = length total_template + 1

-- what ends an event's template and the totals'
abbrev pub amounts_tail : List ℕ
amounts_tail = bytes " (gross G) (ceded C) (risk R) (cat K) (net N) (premium P))"

-- what ends those, from the catastrophe layers' amount on
abbrev pub last_tail : List ℕ
last_tail = bytes ") (cat K) (net N) (premium P))"

-- what ends a layer's
abbrev pub figures_tail : List ℕ
figures_tail = bytes " (deductible D) (cover C) (recovered R) (premium P))"
