-- `table::print::put_line` meets its contract.
-- Assumes nothing.
use borrow.Author.Rules.{rules}
use Rattle.text.proofs.Puts.{put-append}
use Rattle.table.proofs.print.put_line.Goals as goal

pub returns : goal.returns
returns c = (search put-append, search rules)
