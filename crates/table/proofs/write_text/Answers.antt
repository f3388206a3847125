-- `table::write_text` meets its contract.
-- Assumes nothing.
use Rattle.table.proofs.Writes as law
use Rattle.table.proofs.write_text.Goals as goal

pub returns-then-not-holds : goal.returns-then-not-holds
returns-then-not-holds c = rw c.at.ensures (search law.answer_6, search law.buffer_6)

pub returns-then-buffer-needed : goal.returns-then-buffer-needed
returns-then-buffer-needed c = rw c.at-then-buffer-needed.ensures (search law.answer_7, search law.buffer_7)

pub returns : goal.returns
returns c = (search law.answer-text, search law.buffer-text)
