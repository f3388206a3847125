-- `text::template::read_at` meets its contract.
-- Assumes nothing.
use Rattle.std.proofs.Common.{refl, rules, ◌∙◌}
use Rattle.text.proofs.Matching as law
use Rattle.text.proofs.template.read_at.Goals as goal
use Rattle.text.proofs.template.read_at.Goals.{then-is_capital+in_ok-value, else-is_capital+else-s-j+else-byte-s}

pub returns-in_err-value : goal.returns-in_err-value
returns-in_err-value c =
    c.from_residual.ensures
    ∙ law.match_failed _ _ _
    (law.hole_missing _ _ _ _ _ _ _ c.loop-byte.invariant _ c.is_capital.ensures c.loop-byte-test.true
    c.if-is_capital.true _ c.read_short.ensures (c.in_err-value.was {u = tt}))

pub bounds-values-k : goal.bounds-values-k
bounds-values-k c = search law.hole_fits

pub returns-then-s-j : goal.returns-then-s-j
returns-then-s-j c = search (law.match_failed, law.byte-missing)

pub returns-then-byte-s : goal.returns-then-byte-s
returns-then-byte-s c = search (law.match_failed, law.byte_wrong)

pub loop-byte-preserved : goal.loop-byte-preserved
loop-byte-preserved c =
    elim c.if-is_capital.branch [
      | then-is_capital+in_ok-value w ↦
          rw (w.values-is, w.k-is, w.j-is)
          (law.hole_filled _ _ _ _ _ _ _ c.loop-byte.invariant _ c.is_capital.ensures c.loop-byte-test.true
          w.if-is_capital.true _ w.read_short.ensures _ _ (w.in_ok-value.was {u = tt}))
      | else-is_capital+else-s-j+else-byte-s w ↦
          rw (w.values-is, w.k-is, w.j-is)
          (law.byte-read _ _ _ _ _ _ _ c.loop-byte.invariant _ c.is_capital.ensures c.loop-byte-test.true
          w.if-is_capital.false w.if-s-j.false w.if-byte-s.false)
    ]

pub returns : goal.returns
returns c = search law.match_done
