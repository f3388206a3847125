-- `text::number::size` meets its contract.
-- Assumes nothing.
use Rattle.std.proofs.Common.{◌/◌, ◌^◌, sym, arith}
use Rattle.text.proofs.Lengths.{length-one, digits-length, digits_besides}
use Rattle.text.proofs.number.size.Goals as goal

pub returns-then-n-lt10 : goal.returns-then-n-lt10
returns-then-n-lt10 c = (sym (length-one _ (omega arith)), omega arith)

pub returns-then-first-lt100000000 : goal.returns-then-first-lt100000000
returns-then-first-lt100000000 c =
    let n = c.before.before.before.before.args.n in
    (omega (arith, digits_besides 8 n (omega arith), c.size_short-then-first-lt100000000.ensures), omega (arith, c.size_short-then-first-lt100000000.ensures))

pub returns : goal.returns
returns c =
    let n = c.before.before.before.before.args.n in
    let few = digits-length 3 (n / 10 ^ 8 / 10 ^ 8) (omega arith) in
    let eight = digits_besides 8 n (omega arith) in
    let sixteen = digits_besides 8 (n / 10 ^ 8) (omega arith) in
    (omega (arith, eight, sixteen, c.size_short-2.ensures), omega (arith, few, c.size_short-2.ensures))
