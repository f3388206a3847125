-- A scale of the client's own, as the calls' contracts have it.
-- Assumes nothing.
use mathlib.Core.Path.{◌≡◌, ap, ◌∙◌}
use mathlib.Core.List.{List, [], ◌∷◌, ◌++◌}
use Prim.Native.Nat.{ℕ}
use lib.ListN.{length, replicate}
use Rattle.scale.specs.Scale.{time_shares}
use Rattle.answer.specs.Outcome.{refused, buffer_after}
use Rattle.scale_text.specs.declared.ScaleReading.{ScaleReading}
use Rattle.scale_text.specs.Read.{read_of as readScale}
use Rattle.scale_text.specs.Days.{scale_text_of}
use Rattle.scale_text.proofs.SameScale.{read_back}
use Rattle.programme.specs.declared.contract.Programme.{Programme}
use Rattle.table_text.specs.declared.Reading.{Reading}
use Rattle.table_text.specs.Read.{read_of}
use Rattle.year.specs.declared.Standing.{Standing}
use Rattle.year.specs.declared.Opening.{Opening}
use Rattle.year.specs.Standing.{open_of}
use Rattle.year.specs.Run.{run_under, run_of}
use Rattle.client.specs.declared.After.{After}
use Rattle.client.specs.After.{after_of}
use Rattle.client.specs.Sidney.{opened, sidney, afterwards}
use Rattle.client.specs.Timed.{timed_table, timed_events, timed}
use Rattle.client.specs.Scaled.{steps, too_few_shares, rising_text, scaled_statement, scaled_standing}
use Rattle.client.proofs.Computed.{computed}

pub steps-read : {s : List ℕ} {r : ScaleReading} → s ≡ scale_text_of steps → r ≡ readScale s
    → r ≡ record { refusal = 0; line = 0; scale = record { shares = steps } }
steps-read e f = f ∙ ap readScale e ∙ read_back steps computed.a_scale

pub rising-refused : {s : List ℕ} {r : ScaleReading} → s ≡ rising_text → r ≡ readScale s
    → r ≡ record { refusal = 30; line = 2; scale = record { shares = replicate 366 0 } }
rising-refused e f = f ∙ ap readScale e ∙ computed.not_read_scale

-- read, opened and run
module _ {s : List ℕ} {r : Reading} (a : s ≡ timed_table) (b : r ≡ read_of s) {o : Opening}
    (c : o ≡ open_of r.programme) {m : ScaleReading}
    (g : m ≡ record { refusal = 0; line = 0; scale = record { shares = steps } }) {t d : List ℕ} (e : t ≡ timed_events)
    (f : d ≡ replicate 246 35) where
  programme-is : r.programme ≡ timed
  programme-is = ap (λ (x : Reading). x.programme) (b ∙ ap read_of a ∙ computed.read-timed)

  standing-is : o.standing ≡ opened
  standing-is = ap (λ (x : Opening). x.standing) (c ∙ ap open_of programme-is ∙ computed.opened-timed)

  scale-is : m.scale.shares ≡ steps
  scale-is = ap (λ (x : ScaleReading). x.scale.shares) g

  pub scaled_after : {x : After}
      → x ≡ after_of (run_under m.scale.shares r.programme o.standing t (length d)) o.standing
      → x ≡ record { answer = record { refusal = 0; number = 245 }; standing = scaled_standing }
  scaled_after h =
      rw (programme-is, standing-is, scale-is, e, f) at h
      ∙ (λ i. record { answer = computed.ran_scaled i; standing = computed.charged_scaled i })

  pub scaled_bytes : {d' : List ℕ}
      → d' ≡ buffer_after (run_under m.scale.shares r.programme o.standing t (length d)) d
      → d' ≡ scaled_statement ++ (35 ∷ [])
  scaled_bytes h = rw (programme-is, standing-is, scale-is, e, f) at h ∙ computed.bytes_scaled

-- one share too few
module _ {p : Programme} {h : Standing} {m : List ℕ} (a : p ≡ sidney) (b : h ≡ afterwards) (c : m ≡ too_few_shares)
    (s d : List ℕ) where
  refused-is : run_under m p h s (length d) ≡ refused 28 0
  refused-is = rw (a, b, c) (computed.too_few s (length d))

  pub too_few_after : {x : After} → x ≡ after_of (run_under m p h s (length d)) h
      → x ≡ record { answer = record { refusal = 28; number = 0 }; standing = h }
  too_few_after f = rw refused-is at f

  pub too_few_bytes : {d' : List ℕ} → d' ≡ buffer_after (run_under m p h s (length d)) d → d' ≡ d
  too_few_bytes f = rw refused-is at f

-- the built-in shares
module _ (p : Programme) (h : Standing) {m : List ℕ} (a : m ≡ time_shares) (s d : List ℕ) where
  pub built_in_after : {x : After} → x ≡ after_of (run_under m p h s (length d)) h
      → x ≡ after_of (run_of p h s (length d)) h
  built_in_after f = rw a at f

  pub built_in_bytes : {d' : List ℕ} → d' ≡ buffer_after (run_under m p h s (length d)) d
      → d' ≡ buffer_after (run_of p h s (length d)) d
  built_in_bytes f = rw a at f
