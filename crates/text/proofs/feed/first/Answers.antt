-- `text::feed::first` meets its contract.
-- Assumes nothing.
use Rattle.text.proofs.Borrows as law
use Rattle.text.proofs.feed.first.Goals as goal

pub returns-then-marks-eq0 : goal.returns-then-marks-eq0
returns-then-marks-eq0 c = search law.no-mark

pub returns : goal.returns
returns c = rw c.byte_with.ensures (search law.first-mark)
