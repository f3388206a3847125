-- `losses::kept::loss_at` meets its contract.
-- Assumes nothing.
use borrow.Author.Rules.{rules}
use Rattle.losses.proofs.Triples.{loss-inside, loss-read}
use Rattle.losses.proofs.kept.loss_at.Goals as goal

pub bounds-losses-at : goal.bounds-losses-at
bounds-losses-at c =
    let inside = loss-inside c.args.losses.now c.args.i c.requires.1 in
    search rules

pub bounds-losses-at-2 : goal.bounds-losses-at-2
bounds-losses-at-2 c =
    let inside = loss-inside c.args.losses.now c.args.i c.requires.1 in
    search rules

pub bounds-losses-at-3 : goal.bounds-losses-at-3
bounds-losses-at-3 c = search (loss-inside, rules)

pub returns : goal.returns
returns c = search loss-read
