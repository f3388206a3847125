-- The fewest bytes that a statement has.
-- Assumes nothing.
use mathlib.Core.List.{[], map-append}
use Prim.Native.Nat.{◌≤◌}
use native.Mathlib.Omega.{arith}
use lib.ListN.{length, length-append}
use Rattle.text.proofs.Feeds.{joined-append}
use Rattle.text.proofs.Lengths.{filled-long}
use Rattle.year.specs.Statement.{Statement, amounts_numbers, statement_text, total_template}
use Rattle.statement.specs.LineKinds.{least_bytes}

-- it has the line of the totals, which has a byte or more for each of its template
pub statement-long : (t : Statement) → least_bytes ≤ length (statement_text t)
unfolding statement_text
statement-long t =
    simp (map-append, joined-append, length-append)
    (omega (arith, filled-long total_template (amounts_numbers t.total) []))
