-- `text::template::is_capital` meets its contract.
-- Assumes nothing.
use Rattle.std.proofs.Common.{arith}
use Rattle.text.proofs.Templates.{capital_in, capital-below, capital-above}
use Rattle.text.proofs.template.is_capital.Goals as goal

pub returns-in-65-to-90 : goal.returns-in-65-to-90
returns-in-65-to-90 c = capital_in _ (omega arith) (omega arith)

pub returns-in_default : goal.returns-in_default
returns-in_default c = capital-below _ (omega arith)

pub returns-in_default-2 : goal.returns-in_default-2
returns-in_default-2 c = capital-above _ (omega arith)
