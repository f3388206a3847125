-- `table::form::kind` meets its contract.
-- Assumes nothing.
use Rattle.table_text.proofs.LineKinds as law
use Rattle.table.proofs.form.kind.Goals as goal

pub returns-in-40 : goal.returns-in-40
returns-in-40 c = search law.letter_q

pub returns-in-40-2 : goal.returns-in-40-2
returns-in-40-2 c = search law.letter_s

pub returns-in-40-3 : goal.returns-in-40-3
returns-in-40-3 c = search law.letter_r

pub returns-in-40-4 : goal.returns-in-40-4
returns-in-40-4 c = search law.letter_c

pub returns-in_default : goal.returns-in_default
returns-in_default c = search law.too_short

pub returns-in_default-2 : goal.returns-in_default-2
returns-in_default-2 c = search law.letter_other

pub returns-in_default-3 : goal.returns-in_default-3
returns-in_default-3 c = search law.no_bracket
