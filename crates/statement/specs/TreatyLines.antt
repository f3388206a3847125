-- Document 01, Events and statement: the lines of the treaties.
-- Assumes nothing.
use Rattle.std.specs.Prelude.{List, ℕ, get_or}
use Rattle.treaty.specs.declared.Treaty.{Treaty}
use Rattle.year.specs.Statement.{TreatyLine}

-- the line of a treaty, where place T of a list holds what treaty T cedes in this run
abbrev pub ceded_line : List ℕ → Treaty → TreatyLine
ceded_line cs t = record { number = t.number; ceded = get_or cs t.number 0 }
