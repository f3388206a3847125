-- `booking::book::enter` meets its contract.
-- Assumes nothing.
use Rattle.booking.proofs.Entering as law
use Rattle.booking.proofs.book.enter.Goals as goal

pub overflow_sub-subject : goal.overflow_sub-subject
overflow_sub-subject c = search law.ceded-le

pub overflow_sub-subject-2 : goal.overflow_sub-subject-2
overflow_sub-subject-2 c =
    law.by-risk-le c.requires _ c.cede_each-treaties.ensures.0 c.cede_each-treaties.ensures.1
    c.count-count.ensures c.share_on-share.ensures c.bear-risk.ensures.sums c.cents-by_risk.ensures

pub overflow_sub-result : goal.overflow_sub-result
overflow_sub-result c =
    law.by-cat-le c.requires _ c.cede_each-treaties.ensures.0 c.cede_each-treaties.ensures.1
    c.count-count.ensures c.share_on-share.ensures c.bear-risk.ensures.sums c.cents-by_risk.ensures
    c.bear-cat.ensures.sums c.cents-by_cat.ensures

pub overflow_add-premium : goal.overflow_add-premium
overflow_add-premium c =
    law.premium-fits c.requires _ c.cede_each-treaties.ensures.0 c.cede_each-treaties.ensures.1
    c.count-count.ensures c.share_on-share.ensures c.bear-risk.ensures.sums c.cents-by_risk.ensures
    c.bear-cat.ensures.sums c.cents-by_cat.ensures c.cents.ensures c.cents-2.ensures

pub returns : goal.returns
returns c =
    law.as_entered c.requires _ c.cede_each-treaties.ensures.0 c.cede_each-treaties.ensures.1
    c.count-count.ensures c.share_on-share.ensures c.bear-risk.ensures.sums c.cents-by_risk.ensures
    c.bear-cat.ensures.sums c.cents-by_cat.ensures c.cents.ensures c.cents-2.ensures
    c.bear-risk.ensures.spent c.bear-risk.ensures.timed c.bear-cat.ensures.spent c.bear-cat.ensures.timed
