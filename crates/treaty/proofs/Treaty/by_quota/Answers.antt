-- `treaty::Treaty::by_quota` meets its contract.
-- Assumes nothing.
use Rattle.std.proofs.Common.{rules}
use borrow.Author.Tests.{le-leb, lt-leb}
use Rattle.treaty.proofs.Cases.{quota_without_capacity, quota-within, quota-above}
use Rattle.treaty.proofs.Treaty.by_quota.Goals as goal
use Rattle.treaty.proofs.Treaty.by_quota.Goals.{then-self-eq0-via-then-self-eq0, then-self-eq0-via-else-self-eq0+then-maximum-self}

pub returns-then-self-eq0 : goal.returns-then-self-eq0
returns-then-self-eq0 c =
    let r = c.mul_div_word.ensures in
    elim c.then-self-eq0.branch [
      | then-self-eq0-via-then-self-eq0 w ↦ quota_without_capacity _ _ _ _ _ w.if-self-eq0.true r
      | then-self-eq0-via-else-self-eq0+then-maximum-self w ↦
          quota-within _ _ _ _ _ w.if-self-eq0.false (le-leb _ _ w.if-maximum-self.true) r
    ]

pub returns : goal.returns
returns c = search (quota-above, lt-leb, rules)
