-- `standings::tier::bear` meets its contract.
-- Assumes nothing.
use Rattle.layer.proofs.TierPass.{none_ample}
use Rattle.standings.proofs.LentTiers as law
use Rattle.standings.proofs.tier.bear.Goals as goal

pub exhausted-from-requires-clause-ranges : goal.exhausted-from-requires-clause-ranges
exhausted-from-requires-clause-ranges c = search law.reached_ranges

pub returns-then-from-end-clause-sums : goal.returns-then-from-end-clause-sums
returns-then-from-end-clause-sums c = search law.nothing-borne

pub returns-then-from-end-clause-spent : goal.returns-then-from-end-clause-spent
returns-then-from-end-clause-spent c = search law.spent_same

pub returns-then-from-end-clause-timed : goal.returns-then-from-end-clause-timed
returns-then-from-end-clause-timed c = search law.timed_same

pub bear-sums-requires : goal.bear-sums-requires
bear-sums-requires c = (search law.moved-few, search law.records_sound, search none_ample)

pub returns-clause-sums : goal.returns-clause-sums
returns-clause-sums c =
    law.sums-borne c.requires.lent _ c.requires.share c.args.subjects.now _ _ c.largest.ensures c.reached-end.ensures.reached
    c.reached-end.ensures.within _ c.exhausted-from.ensures.exhausted c.exhausted-from.ensures.within _
    c.records.ensures _ c.none-none.ensures _ c.bear-sums.ensures.sums

pub returns-clause-spent : goal.returns-clause-spent
returns-clause-spent c =
    law.spent_stored c.requires.lent _ c.requires.share c.args.subjects.now _ _ c.largest.ensures c.reached-end.ensures.reached
    c.reached-end.ensures.within _ c.exhausted-from.ensures.exhausted c.exhausted-from.ensures.within _
    c.records.ensures _ c.none-none.ensures _ c.bear-sums.ensures.tier _ c.store.ensures.spent

pub returns-clause-timed : goal.returns-clause-timed
returns-clause-timed c =
    law.timed_stored c.requires.lent _ c.requires.share c.args.subjects.now _ _ c.largest.ensures c.reached-end.ensures.reached
    c.reached-end.ensures.within _ c.exhausted-from.ensures.exhausted c.exhausted-from.ensures.within _
    c.records.ensures _ c.none-none.ensures _ c.bear-sums.ensures.tier _ c.store.ensures.timed
