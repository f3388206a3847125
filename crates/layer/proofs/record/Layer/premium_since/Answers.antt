-- `layer::record::Layer::premium_since` meets its contract.
-- Assumes nothing.
use mathlib.Core.Path.{◌≡◌, ◌∙◌}
use Prim.Native.Nat.{ℕ, ◌-◌, ◌*◌}
use Rattle.arith.specs.Round.{rounded}
use Rattle.layer.specs.declared.terms.Terms.{Terms}
use Rattle.layer.specs.Layer.{used_of, rated_of, premium_of}
use Rattle.layer.proofs.record.Layer.premium_since.Goals as goal

-- two premiums of the same terms, from the used amounts
from_used : (t u : Terms) (m n a b : ℕ) → t ≡ u → a ≡ used_of u m → b ≡ used_of t n
    → rounded (rated_of t b * t.premium) (10000 * t.limit) - rounded (rated_of t a * t.premium) (10000 * t.limit)
    ≡ premium_of t n - premium_of u m
unfolding premium_of
from_used t u m n a b same before after = rw (after, before, same)

pub returns : goal.returns
returns c =
    c.premium_between.ensures ∙ from_used _ _ _ _ _ _ c.requires.2 c.used.ensures c.used-2.ensures
