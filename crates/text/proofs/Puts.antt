-- Laws of bytes put into a buffer, one item after another.
-- Assumes nothing.
use Rattle.std.proofs.Common.{◌≡◌, ℕ, suc, ◌+◌, ◌≤◌, List, [], ◌∷◌, ◌++◌, length, drop, set, sym, refl, ap, ◌∙◌, add-zero, add-suc, suc-add, zero-add, arith, length-append}
use lib.Seq.{sets, length-sets, sets-eq}
use Rattle.text.specs.Buffer.{Put}

pub sets_append : {A : Type 0} (d : List A) (at : ℕ) (v w : List A) → sets d at (v ++ w) ≡ sets (sets d at v) (at + length v) w
sets_append d at [] w = rw add-zero
sets_append d at (b ∷ v) w = sets_append (set d at b) (suc at) v w ∙ rw (add-suc, suc-add)

-- nothing is put
pub put-none : {A : Type 0} (d : List A) (at : ℕ) → Put d at [] d at
put-none d at = record { place = sym (add-zero at); bytes = refl }

-- one item after another
pub put-append : {A : Type 0} {d d' d'' : List A} {at next end : ℕ} {v w : List A}
    → Put d at v d' next → Put d' next w d'' end → Put d at (v ++ w) d'' end
put-append {d} {at = at} {v = v} {w = w} p q = record {
  place = omega (arith, p.place, q.place, length-append v w);
  bytes = q.bytes ∙ rw (p.bytes, p.place) (sym (sets_append d at v w));
}

-- a text that fits is at the front of the buffer, and what stood behind it stands there still
pub put_whole : {A : Type 0} {d d' : List A} {next : ℕ} {w : List A} → length w ≤ length d → Put d 0 w d' next
    → d' ≡ w ++ drop (length w) d
put_whole {d} {w = w} h p = p.bytes ∙ sets-eq w d 0 (omega arith) ∙ rw zero-add

-- a part of no bytes, put back before the others
pub no_bytes : {A : Type 0} (e d : List A) → length e ≡ 0 → e ++ d ≡ d
no_bytes [] d h = refl
no_bytes (x ∷ e) d h = absurd (omega arith)

-- The text w is put into the buffer d from the place `at` on, item by item: the buffer is d' now, and `rest` is still
-- to be put from the place `next` on. Whoever puts the rest has put the whole.
pub record Putting {A : Type 0} (d : List A) (at : ℕ) (w d' : List A) (next : ℕ) (rest : List A) : Type 0 where
  pub place : next + length rest ≡ at + length w
  pub bytes : sets d' next rest ≡ sets d at w

pub none-put : {A : Type 0} (d : List A) (at : ℕ) (w : List A) → Putting d at w d at w
none-put d at w = record { place = refl; bytes = refl }

module _ {A : Type 0} {d d' : List A} {at next : ℕ} {w rest : List A} (g : Putting d at w d' next rest) where
  pub putting-length : length d' ≡ length d
  putting-length = sym (length-sets d' next rest) ∙ rw g.bytes (length-sets d at w)

  -- the next item is put
  pub one-put : (v tail : List A) {d'' : List A} {end : ℕ} → rest ≡ v ++ tail → Put d' next v d'' end
      → Putting d at w d'' end tail
  one-put v tail e p = record {
    place = omega (arith, g.place, p.place, ap length e, length-append v tail);
    bytes = rw (p.bytes, p.place, ← sets_append d' next v tail, ← e) g.bytes;
  }

  -- what is left to be put is put
  pub rest_put : {d'' : List A} {end : ℕ} → Put d' next rest d'' end → Put d at w d'' end
  rest_put p = record { place = omega (arith, g.place, p.place); bytes = p.bytes ∙ g.bytes }

  pub all-put : rest ≡ [] → Put d at w d' next
  all-put e = rest_put (rw e (put-none d' next))
