-- `text::line::end` meets its contract.
-- Assumes nothing.
use Rattle.std.proofs.Common.{sym, ◌∙◌, rules}
use Rattle.text.proofs.Feeds as law
use Rattle.text.proofs.FirstFeed as feed
use Rattle.text.proofs.line.end.Goals as goal

pub overflow_add-result : goal.overflow_add-result
overflow_add-result c = search feed.end_fits

pub returns-in-Some : goal.returns-in-Some
returns-in-Some c = (search feed.line-ends, search rules, search feed.end-within)

pub loop-from-preserved : goal.loop-from-preserved
loop-from-preserved c = search feed.line_goes_on

pub returns : goal.returns
returns c = (c.place_of.ensures.0 ∙ sym c.before.before.loop-from.invariant.ahead, search rules, search rules)
