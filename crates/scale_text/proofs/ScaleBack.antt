-- Between scale texts and shares: the text of a scale is read back as its shares, and a text that is read as shares is
-- their text.
-- Assumes nothing.
use mathlib.Core.Path.{◌≡◌, refl, sym, ap, ◌∙◌}
use mathlib.Core.Bool.{true}
use mathlib.Core.List.{List, [], ◌∷◌, ◌++◌, map, append_assoc, append-nil}
use Rattle.std.specs.Prelude.{Option, None, Some}
use Prim.Native.Nat.{ℕ, zero, suc, ◌+◌, ◌≤◌}
use native.Mathlib.Numerals.{add-one}
use native.Mathlib.Omega.{arith}
use borrow.Author.Tests.{eq-eqb, ne_eqb, le-leb, lt-leb, leb-true}
use lib.Dec.{leb}
use lib.ListN.{length, get_or}
use Rattle.lists.specs.Each.{Each}
use Rattle.lists.proofs.Cases.{by-eq, by-lt}
use Rattle.lists.proofs.Chains.{both}
use Rattle.scale.specs.Scale.{never_rising}
use Rattle.text.specs.Number.{digit_of}
use Rattle.text.specs.Template.{capital, holes, filled, line_numbers}
use Rattle.text.specs.Lines.{lines_of}
use Rattle.text.proofs.Forms.{parted, separated, line_read, line-printed}
use Rattle.text.proofs.Feeds.{NoFeed, feedless, filled-no-feed, lines-joined, joined-lines}
use Rattle.text.proofs.Ascii.{Byte, filled-bytes, joined_bytes}
use Rattle.scale_text.specs.declared.ScaleReading.{ScaleReading}
use Rattle.scale_text.specs.Read.{day_text, refused_at, read_as, day_fault, line_fault, unless_fault, read_from}
use Rattle.scale_text.specs.Read.{read_of}
use Rattle.scale_text.specs.Days.{day_lines, scale_text_of}
use Rattle.scale_text.proofs.LinePass.{fine, short_of_days}

-- the line of a day is read back
day-back : (d s : ℕ) → d ≤ 366 → s ≤ 10000 → line_numbers day_text (filled day_text (d ∷ s ∷ []) []) ≡ Some (d ∷ s ∷ [])
unfolding separated parted digit_of capital holes
day-back d s h l = line-printed day_text (d ∷ s ∷ []) refl refl (omega arith, (omega arith, tt))

-- and has no fault, where the share is not above that of the day before
day-fine : (d before s : ℕ) → d ≤ 366 → s ≤ 10000 → s ≤ before → line_fault d before (Some (d ∷ s ∷ [])) ≡ 0
unfolding line_fault
day-fine d before s h l r = rw (le-leb d 366 h) (sym (fine d before d s refl l r))

-- the lines of shares that never rise, read after the shares of the days before d
days-back : (d before : ℕ) (done ss : List ℕ) → d + length ss ≡ 367 → before ≤ 10000 → never_rising before ss ≡ true
    → read_from d before done (map Some (day_lines d ss)) ≡ read_as (done ++ ss)
unfolding read_from
days-back d before done [] n h e =
    let last : d ≡ 367 = omega arith in
    rw (last, append-nil done) refl
days-back d before done (s ∷ ss) n h e =
    let b = both (leb s before) (never_rising s ss) e in
    let l = leb-true s before b.0 in
    rw (day-back d s (omega arith) (omega arith), day-fine d before s (omega arith) (omega arith) l, add-one d)
    (days-back (suc d) s (done ++ (s ∷ [])) ss (omega arith) (omega arith) b.1
    ∙ ap read_as (append_assoc done (s ∷ []) ss))

-- no line of a scale's text holds a line feed, and all are of bytes
days-no-feed : (d : ℕ) (ss : List ℕ) → Each NoFeed (day_lines d ss)
unfolding feedless
days-no-feed d [] = tt
days-no-feed d (s ∷ ss) = (filled-no-feed day_text (d ∷ s ∷ []) refl, days-no-feed (suc d) ss)

days-bytes : (d : ℕ) (ss : List ℕ) → Each (Each Byte) (day_lines d ss)
days-bytes d [] = tt
days-bytes d (s ∷ ss) = (filled-bytes day_text (d ∷ s ∷ []) refl, days-bytes (suc d) ss)

pub text-bytes : (ss : List ℕ) → Each Byte (scale_text_of ss)
text-bytes ss = joined_bytes (day_lines 1 ss) (days-bytes 1 ss)

-- the text of 366 shares that never rise is read back as them
pub scale_back : (ss : List ℕ) → length ss ≡ 366 → never_rising 10000 ss ≡ true → read_of (scale_text_of ss) ≡ read_as ss
unfolding read_of
scale_back ss n e =
    rw (lines-joined (day_lines 1 ss) (days-no-feed 1 ss)) (days-back 1 10000 [] ss (omega arith) (omega arith) e)

-- a refusal is no success
no_success : (n w : ℕ) (ss : List ℕ) → refused_at (suc n) w ≡ read_as ss → ⊥
no_success n w ss e = let z : suc n ≡ 0 = ap (λ (r : ScaleReading). r.refusal) e in omega arith

-- numbers without fault: the day's own number, and a share not above that of the day before
numbers-fine : (d before n s : ℕ) → day_fault d before n s ≡ 0 → (n ≡ d) × (s ≤ before)
unfolding day_fault
numbers-fine d before n s e =
    by-eq n d
    (λ h. by-lt 10000 s
    (λ o. absurd (let z = simp (day_fault, eq-eqb n d h, lt-leb s 10000 o) at e in omega arith))
    (λ i. by-lt before s
    (λ r. absurd (let z = simp (day_fault, eq-eqb n d h, le-leb s 10000 i, lt-leb s before r) at e in omega arith))
    (λ r. (h, r))))
    (λ h. absurd (let z = simp (day_fault, ne_eqb n d h) at e in omega arith))

-- What the lines from that of day d on are where shares are read from them: the lines of the shares ahead, which never
-- rise, one for each day up to 366.
record ReadOn (d before : ℕ) (done : List ℕ) (ls : List (Option (List ℕ))) (shares : List ℕ) : Type 0 where
  ahead : List ℕ
  all : shares ≡ done ++ ahead
  days : d + length ahead ≡ 367
  falls : never_rising before ahead ≡ true
  lines : ls ≡ map Some (day_lines d ahead)

-- one line more
one_more : (d before s : ℕ) (done shares : List ℕ) (ls : List (Option (List ℕ))) → s ≤ before
    → ReadOn (d + 1) s (done ++ (s ∷ [])) ls shares
    → ReadOn d before done (Some (filled day_text (d ∷ s ∷ []) []) ∷ ls) shares
one_more d before s done shares ls h r = record {
  ahead = s ∷ r.ahead;
  all = r.all ∙ append_assoc done (s ∷ []) r.ahead;
  days = omega (arith, r.days);
  falls = rw (le-leb s before h) r.falls;
  lines = ap (λ (x : List (Option (List ℕ))). Some (filled day_text (d ∷ s ∷ []) []) ∷ x) (r.lines ∙ rw (add-one d));
}

-- a list of two numbers, by their places
two : (v : List ℕ) → length v ≡ 2 → v ≡ get_or v 0 0 ∷ get_or v 1 0 ∷ []
two [] l = absurd (omega arith)
two (a ∷ []) l = absurd (omega arith)
two (a ∷ b ∷ []) l = refl
two (a ∷ b ∷ c ∷ v) l = absurd (omega arith)

-- a line whose numbers have no fault is the line of its day
line-fine : (d before : ℕ) (l v : List ℕ) → line_numbers day_text l ≡ Some v → line_fault d before (Some v) ≡ 0
    → (l ≡ filled day_text (d ∷ get_or v 1 0 ∷ []) []) × (get_or v 1 0 ≤ before)
unfolding line_fault holes capital
line-fine d before l v e f =
    by-lt 366 d
    (λ h. absurd (let z = simp (line_fault, lt-leb d 366 h) at f in omega arith))
    (λ h.
    let n = numbers-fine d before (get_or v 0 0) (get_or v 1 0) (simp (line_fault, le-leb d 366 h) at f) in
    let r = line_read day_text l v e in
    let same : v ≡ d ∷ get_or v 1 0 ∷ [] = two v r.1 ∙ ap (λ (x : ℕ). x ∷ get_or v 1 0 ∷ []) n.0 in
    (r.0 ∙ ap (λ (x : List ℕ). filled day_text x []) same, n.1))

-- the lines after that of day d, whatever its share
abbrev Again : (d : ℕ) (done : List ℕ) (ls : List (Option (List ℕ))) (shares : List ℕ) → Type 0
Again d done ls shares =
    (s : ℕ) → read_from (d + 1) s (done ++ (s ∷ [])) ls ≡ read_as shares
    → ReadOn (d + 1) s (done ++ (s ∷ [])) ls shares

-- so it is, line by line
read-on : (ls : List (Option (List ℕ))) (d before : ℕ) (done shares : List ℕ)
    → read_from d before done ls ≡ read_as shares → ReadOn d before done ls shares
unfolding read_from line_fault
read-on [] d before done shares e =
    by-eq d 367
    (λ h. record {
      ahead = [];
      all =
          let same : read_as done ≡ read_as shares = simp (read_from, eq-eqb d 367 h) at e in
          ap (λ (r : ScaleReading). r.scale.shares) (sym same) ∙ sym (append-nil done);
      days = omega arith;
      falls = refl;
      lines = refl;
    })
    (λ h. absurd (no_success 27 0 shares (sym (short_of_days d before done h) ∙ e)))
read-on (None ∷ ls) d before done shares e = absurd (no_success 27 d shares e)
read-on (Some l ∷ ls) d before done shares e =
    by-numbers (line_numbers day_text l) refl (λ x. read-on ls (d + 1) x (done ++ (x ∷ [])) shares)
  where
    by-fault : (v : List ℕ) → line_numbers day_text l ≡ Some v → (n : ℕ) → line_fault d before (Some v) ≡ n
        → unless_fault n d (read_from (d + 1) (get_or v 1 0) (done ++ (get_or v 1 0 ∷ [])) ls) ≡ read_as shares
        → Again d done ls shares → ReadOn d before done (Some l ∷ ls) shares
    by-fault v q zero z h again =
        let f = line-fine d before l v q z in
        rw f.0 (one_more d before (get_or v 1 0) done shares ls f.1 (again (get_or v 1 0) h))
    by-fault v q (suc n) z h again = absurd (no_success n d shares h)

    by-numbers : (o : Option (List ℕ)) → line_numbers day_text l ≡ o → Again d done ls shares
        → ReadOn d before done (Some l ∷ ls) shares
    by-numbers None q again = absurd (no_success 27 d shares (rw q at e))
    by-numbers (Some v) q again = by-fault v q (line_fault d before (Some v)) refl (rw q at e) again

-- what a text is that shares are read from: 366 shares that never rise, and their text
pub record Scales (s ss : List ℕ) : Type 0 where
  pub days : length ss ≡ 366
  pub falls : never_rising 10000 ss ≡ true
  pub text : s ≡ scale_text_of ss

pub scale-read : (s ss : List ℕ) → read_of s ≡ read_as ss → Scales s ss
unfolding read_of
scale-read s ss e =
    let r = read-on (lines_of s) 1 10000 [] ss e in
    rw r.all (record {
      days = omega (arith, r.days);
      falls = r.falls;
      text = joined-lines s (day_lines 1 r.ahead) r.lines;
    })
