-- Writing a programme: the answer and the buffer after it, from the tests and the two calls that lead to them.
-- Assumes nothing.
use mathlib.Core.Path.{◌≡◌, refl, sym, ◌∙◌}
use mathlib.Core.Bool.{Bool, true, false}
use mathlib.Core.List.{List, ◌++◌}
use Prim.Native.Nat.{ℕ, ◌≤◌, ◌<◌}
use native.Mathlib.Omega.{arith}
use lib.ListN.{length}
use Rattle.text.specs.Buffer.{Put}
use Rattle.text.proofs.Puts.{no_bytes}
use Rattle.answer.specs.declared.Answer.{Answer}
use Rattle.answer.specs.Outcome.{refused, text_only, fitted, answer_of, buffer_after}
use Rattle.answer.proofs.Outcomes.{too_long, fits, put-after}
use Rattle.programme.specs.declared.contract.Programme.{Programme}
use Rattle.programme.specs.Valid.{valid}
use Rattle.table_text.specs.Write.{text_of, write_of}

-- for the answer t of the test whether some text reads to p, and the buffer d
module _ (p : Programme) (t : Bool) (e : t ≡ valid p) where
  pub is-valid : t ≡ true → valid p ≡ true
  is-valid f = sym e ∙ f

  module _ (d : List ℕ) where
    -- the answer and the buffer where no text reads to p
    module _ (f : t ≡ false) where
      outcome_6 : write_of p (length d) ≡ refused 6 0
      unfolding write_of
      outcome_6 = simp (write_of, sym e ∙ f)

      pub answer_6 : ◌≡◌ {A = Answer} (record { refusal = 6; number = 0 }) (answer_of (write_of p (length d)))
      answer_6 = rw outcome_6 refl

      pub buffer_6 : d ≡ buffer_after (write_of p (length d)) d
      buffer_6 = rw outcome_6 refl

    -- The text was put into a part m of the buffer that has no bytes, which only measures it: it has n bytes.
    module _ (f : t ≡ true) {m m' : List ℕ} {n : ℕ} (measured : Put m 0 (text_of p) m' n) (none : length m' ≡ 0) where
      size : length (text_of p) ≡ n
      size = omega (arith, measured.place)

      outcome_fitted : write_of p (length d) ≡ fitted (length d) (text_of p) text_only
      unfolding write_of
      outcome_fitted = simp (write_of, is-valid f)

      -- the answer and the buffer where the text is longer than the buffer
      module _ (h : length (m' ++ d) < n) where
        outcome_7 : write_of p (length d) ≡ refused 7 n
        outcome_7 =
            outcome_fitted ∙ too_long (length d) (text_of p) text_only (rw (no_bytes m' d none, ← size) at h) ∙ rw size

        pub answer_7 : ◌≡◌ {A = Answer} (record { refusal = 7; number = n }) (answer_of (write_of p (length d)))
        answer_7 = rw outcome_7 refl

        pub buffer_7 : m' ++ d ≡ buffer_after (write_of p (length d)) d
        buffer_7 = rw outcome_7 (no_bytes m' d none)

      -- the answer and the buffer where it is not longer and is put into the whole of it
      module _ (h : n ≤ length (m' ++ d)) where
        within : length (text_of p) ≤ length d
        within = let l = rw (no_bytes m' d none) at h in omega (arith, size)

        pub answer-text : ◌≡◌ {A = Answer} (record { refusal = 0; number = n }) (answer_of (write_of p (length d)))
        answer-text = rw (outcome_fitted, fits (length d) (text_of p) text_only within, size) refl

        pub buffer-text : {d' : List ℕ} {end : ℕ} → Put (m' ++ d) 0 (text_of p) d' end
            → d' ≡ buffer_after (write_of p (length d)) d
        buffer-text q =
            let r = rw (no_bytes m' d none) at q in
            rw outcome_fitted (put-after (text_of p) d text_only r (omega (arith, within, r.place)))
