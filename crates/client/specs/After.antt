-- What a run leaves of a standing that is lent to it, and what it answers.
-- Assumes nothing.
use Rattle.answer.specs.Outcome.{Outcome, answer_of}
use Rattle.year.specs.declared.Standing.{Standing}
use Rattle.year.specs.Run.{Left, standing_after}
use Rattle.client.specs.declared.After.{After}

-- of an outcome, from the standing lent
abbrev pub after_of : Outcome Left → Standing → After
after_of o lent = record { answer = answer_of o; standing = standing_after o lent }
