-- How many bytes a line has with its line feed, and a line that is only measured.
-- Assumes nothing.
use mathlib.Core.Path.{◌≡◌, refl, sym}
use mathlib.Core.List.{List, [], ◌∷◌}
use Prim.Native.Nat.{ℕ, suc, ◌+◌, ◌*◌, ◌^◌, ◌≤◌, ◌<◌}
use native.Mathlib.Omega.{arith}
use lib.ListN.{length, length-append}
use lib.Seq.{sets}
use Rattle.text.specs.Buffer.{Put}
use Rattle.text.specs.Number.{digits, digits_in}
use Rattle.text.specs.Template.{capital, holes, filled}
use Rattle.text.proofs.Lengths.{filled-size, digits-length, length-one}
use Rattle.text.proofs.Pieces.{filled-append}
use Rattle.year.specs.Statement.{event_template, amounts_numbers, added}
use Rattle.statement.specs.declared.line.Tier.TheVariants.{Risk, Cat}
use Rattle.statement.specs.declared.line.Line.{Line}
use Rattle.statement.specs.declared.line.Line.TheVariants.{Event, Treaty, Layer, Total}
use Rattle.statement.specs.LineKinds.{template_of, numbers_of, own_bytes}

-- a line's template has as many numbers as the line
as_wide : (l : Line) → holes (template_of l) ≡ length (numbers_of l)
unfolding holes capital
as_wide (Event d a) = refl
as_wide (Treaty n c) = refl
as_wide (Layer Risk i f) = refl
as_wide (Layer Cat i f) = refl
as_wide (Total a) = refl

-- its bytes that stand for themselves
abbrev own_of : Line → ℕ
own_of l = own_bytes (template_of l) (length (numbers_of l))

as_long : (l : Line) → length (template_of l) + 1 ≡ length (numbers_of l) + own_of l
as_long (Event d a) = refl
as_long (Treaty n c) = refl
as_long (Layer Risk i f) = refl
as_long (Layer Cat i f) = refl
as_long (Total a) = refl

-- a line with numbers of twenty digits has at most 200 bytes
within_longest : (l : Line) → own_of l + 20 * length (numbers_of l) ≤ 200
within_longest (Event d a) = omega arith
within_longest (Treaty n c) = omega arith
within_longest (Layer Risk i f) = omega arith
within_longest (Layer Cat i f) = omega arith
within_longest (Total a) = omega arith

line-size : (l : Line) → own_of l + digits_in (numbers_of l) ≡ length (filled (template_of l) (numbers_of l) (10 ∷ []))
line-size l =
    rw (filled-append (template_of l) (numbers_of l) (10 ∷ []))
    (omega (
      arith,
      length-append (filled (template_of l) (numbers_of l) []) (10 ∷ []),
      filled-size (template_of l) (numbers_of l) (sym (as_wide l)),
      as_long l,
    ))

-- a line k's own bytes and its digits, as they were counted, are the bytes of that line
pub sized : {l k : Line} → l ≡ k → {own r : ℕ} → own ≡ own_of k → r ≡ digits_in (numbers_of k)
    → r ≤ 20 * length (numbers_of k)
    → (own + r ≡ length (filled (template_of l) (numbers_of l) (10 ∷ []))) × (own + r ≤ 200)
sized {k = k} is own digits few = rw is (rw (own, digits) (line-size k), omega (arith, within_longest k, own, few))

-- what is put where there is no buffer is only measured
no_buffer : (d : List ℕ) (at : ℕ) (w : List ℕ) → length d ≡ 0 → d ≡ sets d at w
no_buffer [] at [] h = refl
no_buffer [] at (b ∷ w) h = no_buffer [] (suc at) w h
no_buffer (x ∷ d) at w h = absurd (omega arith)

pub measured : (d : List ℕ) (at : ℕ) (w : List ℕ) {r : ℕ} → length d ≡ 0 → r ≡ length w → Put d at w d (at + r)
measured d at w h e = record { place = omega arith; bytes = no_buffer d at w h }

-- the line of an event without losses, on day n
module _ (n : ℕ) where
  abbrev idle : List ℕ
  idle = filled event_template (n ∷ amounts_numbers (added [])) (10 ∷ [])

  idle-size : length idle ≡ 66 + length (digits n)
  idle-size =
      omega (arith, line-size (Event n (added [])), length-one 0 (omega arith))

  pub idle-measured : (d : List ℕ) (at : ℕ) {r : ℕ} → length d ≡ 0 → r ≡ length (digits n)
      → Put d at idle d (at + 66 + r)
  idle-measured d at h e = record { place = omega (arith, idle-size); bytes = no_buffer d at idle h }

  pub idle-short : {d d' : List ℕ} {at next : ℕ} → n < 2 ^ 64 → Put d at idle d' next → next ≤ at + 86
  idle-short h p = omega (arith, p.place, idle-size, digits-length 19 n (omega arith))
