-- `text::number::size_short` meets its contract.
-- Assumes nothing.
use Rattle.std.proofs.Common.{sym, arith}
use Rattle.text.proofs.Lengths.{length-one, digits-many}
use Rattle.text.proofs.number.size_short.Goals as goal

pub returns-then-n-lt10 : goal.returns-then-n-lt10
returns-then-n-lt10 c = (sym (length-one _ (omega arith)), omega arith)

pub returns-then-n-lt100 : goal.returns-then-n-lt100
returns-then-n-lt100 c = digits-many 1 8 _ (omega arith) (omega arith) (omega arith)

pub returns-then-n-lt1000 : goal.returns-then-n-lt1000
returns-then-n-lt1000 c = digits-many 2 8 _ (omega arith) (omega arith) (omega arith)

pub returns-then-n-lt10000 : goal.returns-then-n-lt10000
returns-then-n-lt10000 c = digits-many 3 8 _ (omega arith) (omega arith) (omega arith)

pub returns-then-n-lt100000 : goal.returns-then-n-lt100000
returns-then-n-lt100000 c = digits-many 4 8 _ (omega arith) (omega arith) (omega arith)

pub returns-then-n-lt1000000 : goal.returns-then-n-lt1000000
returns-then-n-lt1000000 c = digits-many 5 8 _ (omega arith) (omega arith) (omega arith)

pub returns-then-n-lt10000000 : goal.returns-then-n-lt10000000
returns-then-n-lt10000000 c = digits-many 6 8 _ (omega arith) (omega arith) (omega arith)

pub returns : goal.returns
returns c = digits-many 7 8 _ (omega arith) (omega arith) (omega arith)
