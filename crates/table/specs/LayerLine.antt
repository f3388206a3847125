-- What reading a layer's line answers, part by part.
-- Assumes nothing.
use Rattle.std.specs.Prelude.{Option, option_map, List, [], ℕ, ◌-◌, length, drop}
use Rattle.text.specs.Template.{matched}
use Rattle.layer.specs.Layer.{rate_places}
use Rattle.table_text.specs.Forms.{rates_text}
use Rattle.table.specs.declared.form.RatesRead.{RatesRead}

-- the rates read of a text of n bytes, with the place where what is left begins
abbrev pub rates_read_of : ℕ → Option (List ℕ × List ℕ) → Option RatesRead
rates_read_of n = option_map (λ p. record { end = n - length p.1; values = rate_places p.0 })

-- k rates at a place of a text
unfoldable pub rates_at : List ℕ → ℕ → ℕ → Option RatesRead
rates_at s at k = rates_read_of (length s) (matched [] (rates_text k) (drop at s))
