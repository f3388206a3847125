-- `text::template::read_at` meets its contract.
-- Assumes nothing.
use Rattle.std.proofs.Common.{[], drop}
use Rattle.text.specs.Template.{matched}
use Rattle.text.proofs.Matching as law
use Rattle.text.proofs.template.read_at.Given as goal

abbrev pub invariant-loop-byte : goal.invariant-loop-byte
invariant-loop-byte l =
    law.Matching l.template l.s (matched [] l.template (drop l.at l.s)) l.values l.k l.j l.byte-index
