-- A statement measured and, if it fits, written: the answer, the standing and the buffer after it.
-- Assumes nothing.
use mathlib.Core.Path.{◌≡◌, refl, subst}
use mathlib.Core.List.{List}
use Prim.Native.Nat.{ℕ, ◌+◌, ◌≤◌, ◌<◌}
use native.Mathlib.Omega.{arith}
use lib.ListN.{length}
use Rattle.std.specs.Prelude.{Result, Ok, Err}
use Rattle.refusal.specs.declared.Refused.{Refused}
use Rattle.refusal.specs.declared.Refusal.TheVariants as the
use Rattle.text.specs.Buffer.{Put}
use Rattle.answer.specs.Outcome.{refused}
use Rattle.answer.proofs.Outcomes.{too_long, put_written, put-after}
use Rattle.year.specs.declared.Standing.{Standing}
use Rattle.programme.specs.Contract.{Contracts}
use Rattle.events.specs.Event.{Event, last_day}
use Rattle.year.specs.Standing.{standing_of, year_of}
use Rattle.year.specs.Statement.{Statement, statement_of, statement_text}
use Rattle.year.specs.Run.{statement_fitted, accepted}
use Rattle.booking.specs.declared.basis.Basis.{Basis}
use Rattle.booking.specs.Book.{contracts_from, lines_room, year_then}
use Rattle.engine.specs.Run.{RanAs, StatedAs, rest_room, run_events}

-- the statement's text was put into a buffer that holds it, and has n bytes
in_full : (t : Statement) (lent after : Standing) (d : List ℕ) {d' : List ℕ} {n : ℕ} → Put d 0 (statement_text t) d' n
    → n ≤ length d → RanAs (statement_fitted (length d) t after) lent after d d' (Ok n)
in_full t lent after d {d'} {n} q h =
    let size : length (statement_text t) ≡ n = omega (arith, q.place) in
    let whole : statement_fitted (length d) t after ≡ accepted t after = put_written (statement_text t) d _ q h in
    record {
      answer = rw (whole, size) refl;
      standing = rw whole refl;
      buffer = put-after (statement_text t) d _ q h;
    }

-- as the code has it, of events from a standing on
module _ (b : Basis) (s : Standing) (es : List Event) where
  abbrev c : Contracts
  c = contracts_from b

  abbrev shown : Statement
  shown = statement_of b.shares.now c.treaties (year_of c s) es

  abbrev after : Standing
  after = standing_of (year_then b s es) (last_day s.day es)

  abbrev Ran : Standing → (d d' : List ℕ) → Result ℕ Refused → Type 0
  Ran s' d d' r = RanAs (run_events b.shares.now c s es (length d)) s s' d d' r

  -- put into a buffer that holds it
  whole : {d d' : List ℕ} {s' : Standing} {n : ℕ} → StatedAs b s es d d' s' n → n ≤ length d → Ran s' d d' (Ok n)
  whole {d} a h = rw a.standing (in_full shown s after d a.text h)

  -- that surely holds it
  pub at_once : {d d' : List ℕ} {s' : Standing} {n : ℕ} → StatedAs b s es d d' s' n
      → {room : ℕ} → lines_room es + rest_room b ≤ room → room ≤ length d → Ran s' d d' (Ok n)
  at_once a k h = whole a (omega (arith, a.room))

  -- measured by putting it into no bytes e of the buffer d, which is z then
  module _ {e e' z d : List ℕ} {s' : Standing} {n : ℕ} (a : StatedAs b s es e e' s' n) (same : z ≡ d) where
    size : n ≡ length (statement_text shown)
    size = omega (arith, a.text.place)

    pub not_written : length z < n → Ran s d z (Err (record { refusal = the.BufferTooShort; number = n }))
    not_written h =
        let long : statement_fitted (length z) shown after ≡ refused 7 (length (statement_text shown)) =
        too_long (length z) (statement_text shown) _ (rw size at h) in
        subst (λ (f : List ℕ). Ran s f z (Err (record { refusal = the.BufferTooShort; number = n }))) same record {
          answer = rw (long, size) refl;
          standing = rw long refl;
          buffer = rw long refl;
        }

    pub written : n ≤ length z → {z' : List ℕ} {s₂ : Standing} {m : ℕ} → StatedAs b s es z z' s₂ m → Ran s₂ d z' (Ok m)
    written h {z'} {s₂} {m} w =
        subst (λ (f : List ℕ). Ran s₂ f z' (Ok m)) same (whole w (omega (arith, h, size, w.text.place)))
