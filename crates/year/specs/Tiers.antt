-- Document 01, Layers: "Risk layers come before catastrophe layers." What there is one of for each tier.
-- Assumes nothing.

-- one for the risk layers and one for the catastrophe layers
pub record Tiers (A : Type 0) : Type 0 where
  pub risk : A
  pub cat : A

-- the two tiers by name
pub data TierName : Type 0 where
  risk : TierName
  cat : TierName

-- that of the tier of a name
abbrev pub in_tier : {A : Type 0} → TierName → Tiers A → A
in_tier risk x = x.risk
in_tier cat x = x.cat
