-- `text::number::read_on` meets its contract.
-- Assumes nothing.
use Rattle.std.proofs.Common.{refl, rules, ◌≡◌, length, arith}
use Rattle.text.proofs.Digits as law
use Rattle.text.proofs.number.read_on.Goals as goal

pub returns-then-next-ge10 : goal.returns-then-next-ge10
returns-then-next-ge10 c = search (law.found-on, law.read-other)

pub returns-then-value-eq0 : goal.returns-then-value-eq0
returns-then-value-eq0 c = search (law.missing-on, law.read-zero)

pub returns-then-value-ge1000000000000000 : goal.returns-then-value-ge1000000000000000
returns-then-value-ge1000000000000000 c = search (law.missing-on, law.read-long)

pub loop-i-preserved : goal.loop-i-preserved
loop-i-preserved c = (search rules, search rules, search law.read-digit)

pub returns : goal.returns
returns c =
    let e : c.loop-i.i ≡ length c.args.s.now = omega (arith, c.loop-i.invariant.0) in
    rw (← e) (search (law.found-on, law.read-end))
