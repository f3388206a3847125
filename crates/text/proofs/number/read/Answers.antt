-- `text::number::read` meets its contract.
-- Assumes nothing.
use Rattle.std.proofs.Common.{rules}
use Rattle.text.proofs.Digits as law
use Rattle.text.proofs.Runs as run
use Rattle.text.proofs.number.read.Goals as goal

pub returns-then-s-at : goal.returns-then-s-at
returns-then-s-at c = search (law.missing, law.number-end)

pub returns-then-digits-eq0 : goal.returns-then-digits-eq0
returns-then-digits-eq0 c = search run.no_number

pub returns-then-digits-eq1 : goal.returns-then-digits-eq1
returns-then-digits-eq1 c = search run.zero-alone

pub returns-then-digits-eq0-2 : goal.returns-then-digits-eq0-2
returns-then-digits-eq0-2 c = search run.zero_leads

pub read_more-requires : goal.read_more-requires
read_more-requires c = (search run.value_pos, search rules, search rules)

pub returns-then-digits-eq8 : goal.returns-then-digits-eq8
returns-then-digits-eq8 c = search run.value-long

pub returns : goal.returns
returns c = search run.value-short
