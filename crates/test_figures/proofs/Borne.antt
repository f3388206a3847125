-- A layer that bore a subject amount is as sound as before.
-- Assumes nothing.
use Rattle.std.proofs.Common.{◌≡◌, ℕ, ◌≤◌}
use Rattle.layer.specs.declared.record.Layer.{Layer}
use Rattle.layer.specs.declared.record.Sums.{Sums}
use Rattle.layer.specs.declared.record.Borne.{Borne}
use Rattle.layer.specs.Layer.{due_of, brought_by, borne_by}
use Rattle.layer.specs.Ranges.{Sound}
use Rattle.layer.proofs.Records.{sound-on}

pub still-sound : (x : ℕ) (s : Sums) (y : Layer) (b : Borne) → b ≡ borne_by x s y → s.share ≤ 10000 → Sound y
    → Sound b.layer
unfolding due_of
still-sound x s y b is h sound = rw is (sound-on s.share h (brought_by y.terms x) y sound)
