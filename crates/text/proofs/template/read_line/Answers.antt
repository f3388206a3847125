-- `text::template::read_line` meets its contract.
-- Assumes nothing.
use Rattle.std.proofs.Common.{sym, ◌∙◌}
use Rattle.text.proofs.Matching as law
use Rattle.text.proofs.template.read_line.Goals as goal

pub returns-in_err-matched : goal.returns-in_err-matched
returns-in_err-matched c =
    c.from_residual.ensures ∙ law.line-missing _ _ (sym (c.in_err-matched.was {u = tt}) ∙ c.read_at.ensures)

pub returns-then-matched-line : goal.returns-then-matched-line
returns-then-matched-line c =
    law.line-whole _ _ _ (sym (c.in_ok-matched.was {u = tt}) ∙ c.read_at.ensures) c.if-matched-line.true

pub returns : goal.returns
returns c = law.line-longer _ _ _ (sym (c.in_ok-matched.was {u = tt}) ∙ c.read_at.ensures) c.if-matched-line.false
