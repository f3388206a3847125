-- `scale_text::fault` meets its contract.
-- Assumes nothing.
use Rattle.scale_text.proofs.LinePass as law
use Rattle.scale_text.proofs.fault.Goals as goal

pub returns-then-number-day : goal.returns-then-number-day
returns-then-number-day c = search law.other-day

pub returns-then-share-gt-WHOLE : goal.returns-then-share-gt-WHOLE
returns-then-share-gt-WHOLE c = search law.outside

pub returns-then-before-share : goal.returns-then-before-share
returns-then-before-share c = search law.rising

pub returns : goal.returns
returns c = search law.fine
