-- `text::line::place_of` meets its contract.
-- Assumes nothing.
use Rattle.std.proofs.Common.{rules, ◌≡◌, length, sym, ◌∙◌, arith}
use Rattle.text.proofs.Feeds as law
use Rattle.text.proofs.line.place_of.Goals as goal

pub returns-then-s-i : goal.returns-then-s-i
returns-then-s-i c = (search law.here, search rules, search rules)

pub loop-i-preserved : goal.loop-i-preserved
loop-i-preserved c = search law.later

pub returns : goal.returns
returns c =
    let e : c.loop-i.i ≡ length c.args.s.now = omega (arith, c.loop-i.invariant.within) in
    (sym e ∙ search law.nowhere, search rules, search rules)
