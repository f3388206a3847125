-- The table with (time), as the calls' contracts have it.
-- Assumes nothing.
use mathlib.Core.Path.{◌≡◌, ap, ◌∙◌}
use mathlib.Core.List.{List, [], ◌∷◌, ◌++◌}
use Prim.Native.Nat.{ℕ}
use lib.ListN.{length, replicate}
use Rattle.answer.specs.Outcome.{refused, buffer_after}
use Rattle.programme.specs.declared.contract.Programme.{Programme}
use Rattle.table_text.specs.declared.Reading.{Reading}
use Rattle.table_text.specs.Read.{read_of}
use Rattle.year.specs.declared.Standing.{Standing}
use Rattle.year.specs.declared.Opening.{Opening}
use Rattle.year.specs.Standing.{open_of}
use Rattle.year.specs.Run.{run_of}
use Rattle.client.specs.declared.After.{After}
use Rattle.client.specs.After.{after_of}
use Rattle.client.specs.Sidney.{opened}
use Rattle.client.specs.Timed.{timed_table, timed_events, timed_statement, timed, charged, overcharged}
use Rattle.client.proofs.Computed.{computed}

-- read, opened and run
module _ {s : List ℕ} {r : Reading} (a : s ≡ timed_table) (b : r ≡ read_of s) {o : Opening}
    (c : o ≡ open_of r.programme) {t d : List ℕ} (e : t ≡ timed_events) (f : d ≡ replicate 243 35) where
  programme-is : r.programme ≡ timed
  programme-is = ap (λ (x : Reading). x.programme) (b ∙ ap read_of a ∙ computed.read-timed)

  standing-is : o.standing ≡ opened
  standing-is = ap (λ (x : Opening). x.standing) (c ∙ ap open_of programme-is ∙ computed.opened-timed)

  pub timed-after : {x : After} → x ≡ after_of (run_of r.programme o.standing t (length d)) o.standing
      → x ≡ record { answer = record { refusal = 0; number = 242 }; standing = charged }
  timed-after g =
      rw (programme-is, standing-is, e, f) at g
      ∙ (λ i. record { answer = computed.ran-timed i; standing = computed.charged-timed i })

  pub timed-bytes : {d' : List ℕ} → d' ≡ buffer_after (run_of r.programme o.standing t (length d)) d
      → d' ≡ timed_statement ++ (35 ∷ [])
  timed-bytes g = rw (programme-is, standing-is, e, f) at g ∙ computed.bytes-timed

-- more timed premium than amount premium
module _ {p : Programme} {h : Standing} (a : p ≡ timed) (b : h ≡ overcharged) (s d : List ℕ) where
  refused-is : run_of p h s (length d) ≡ refused 8 0
  refused-is = rw (a, b) (computed.too_much s (length d))

  pub overcharged-after : {x : After} → x ≡ after_of (run_of p h s (length d)) h
      → x ≡ record { answer = record { refusal = 8; number = 0 }; standing = h }
  overcharged-after f = rw refused-is at f

  pub overcharged-bytes : {d' : List ℕ} → d' ≡ buffer_after (run_of p h s (length d)) d → d' ≡ d
  overcharged-bytes f = rw refused-is at f
