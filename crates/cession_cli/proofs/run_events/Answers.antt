-- `cession_cli::run_events` is safe: the statement's length lies within the buffer.
use Rattle.std.proofs.Common.{rules}
use Rattle.cession_cli.proofs.Accepted.{statement-inside, statement-counted}
use Rattle.cession_cli.proofs.run_events.Goals as goal

pub slice_bounds-statement-end : goal.slice_bounds-statement-end
slice_bounds-statement-end g c = search (rules, statement-inside)

pub slice_bounds-words-end : goal.slice_bounds-words-end
slice_bounds-words-end g c = search (rules, statement-counted)
