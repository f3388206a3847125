-- Document 01, Proportional treaties: "What is left of g goes to the risk layers." What a pass over an event's losses
-- leaves in lent places.
-- Assumes nothing.
use Rattle.std.specs.Prelude.{◌≡◌, List, [], ◌∷◌, ◌++◌, ℕ, ◌+◌, get_or, set}
use Rattle.lists.specs.Sums.{total}
use Rattle.treaty.specs.declared.Treaty.{Treaty}
use Rattle.treaty.specs.declared.Loss.{Loss}
use Rattle.treaty.specs.Treaty.{loss_of}
use Rattle.treaty.specs.Losses.{gross_of, ceded_in, ceded_of_each}
use Rattle.losses.specs.declared.event.ByTreaties.{ByTreaties}

-- numbers as losses, three a loss: T, E, g
abbrev pub losses_from : List ℕ → List Loss
losses_from [] = []
losses_from (t ∷ []) = []
losses_from (t ∷ e ∷ []) = []
losses_from (t ∷ e ∷ g ∷ ns) = loss_of t e g ∷ losses_from ns

-- amounts cs, one for each number T, after losses in turn: what is ceded of a loss is added to that of its number
abbrev pub ceded_added : List Treaty → (earlier : List Loss) → List ℕ → List Loss → List ℕ
ceded_added ts earlier cs [] = cs
ceded_added ts earlier cs (x ∷ xs) =
    ceded_added ts (earlier ++ (x ∷ [])) (set cs x.treaty (get_or cs x.treaty 0 + ceded_in ts earlier x)) xs

-- An event's losses xs went through the treaties ts: c is what they come to and what is ceded. What each treaty cedes
-- was added to the amount in its place of cs, which are cs' then.
pub record AfterTreaties (ts : List Treaty) (xs : List Loss) (cs cs' : List ℕ) (c : ByTreaties) : Type 0 where
  pub gross : c.gross ≡ gross_of xs
  pub ceded : c.ceded ≡ total (ceded_of_each ts [] xs)
  pub cessions : cs' ≡ ceded_added ts [] cs xs
