-- `standings::passes` meets its contract.
-- Assumes nothing.
use Rattle.programme.proofs.Validity.{valid_tells, layers-few}
use Rattle.standings.proofs.Tests as law
use Rattle.standings.proofs.passes.Goals as goal

pub returns-then-standing-gt-LAST_DAY : goal.returns-then-standing-gt-LAST_DAY
returns-then-standing-gt-LAST_DAY c = search law.day_late

pub shared_ref_as_front-risk : goal.shared_ref_as_front-risk
shared_ref_as_front-risk c = layers-few _ (valid_tells _ c.requires).1

pub shared_ref_as_front-cat : goal.shared_ref_as_front-cat
shared_ref_as_front-cat c = layers-few _ (valid_tells _ c.requires).2

pub tier_passes-requires : goal.tier_passes-requires
tier_passes-requires c = law.valid-lent _ (valid_tells _ c.requires).1

pub tier_passes-requires-then-tier_passes : goal.tier_passes-requires-then-tier_passes
tier_passes-requires-then-tier_passes c = law.valid-lent _ (valid_tells _ c.requires).2

pub returns-then-tier_passes : goal.returns-then-tier_passes
returns-then-tier_passes c = search law.as_cat

pub returns-else-tier_passes : goal.returns-else-tier_passes
returns-else-tier_passes c = search law.risk_not
