-- The loss forms of a line, read one after another: those read so far are counted and kept as numbers, and what is
-- ahead gives the whole event.
-- Assumes nothing.
use mathlib.Core.Path.{◌≡◌, refl, sym, ap, ◌∙◌}
use mathlib.Core.Bool.{Bool, true, false, cond}
use mathlib.Core.List.{List, [], ◌∷◌, ◌++◌}
use Prim.Native.Nat.{ℕ, ◌+◌, ◌-◌, ◌*◌, ◌≤◌, ◌<◌}
use Rattle.std.specs.Prelude.{Option, Some}
use native.Mathlib.Omega.{arith}
use lib.ListN.{length, drop, length-append}
use mir.Val.{bool_byte}
use lib.Seq.{drop-append-le, length-sets}
use Rattle.lists.specs.Sums.{sum_of}
use Rattle.lists.proofs.Sums.{sum-append}
use Rattle.text.specs.Begin.{begins, Stands}
use Rattle.text.specs.Buffer.{Put}
use Rattle.text.proofs.Feeds.{NoFeed}
use Rattle.text.proofs.Puts.{put-none, put-append}
use Rattle.treaty.specs.declared.Treaty.{Treaty}
use Rattle.treaty.specs.declared.Loss.{Loss}
use Rattle.programme.specs.Ranges.{outside}
use Rattle.events.specs.Rules.{loss_outside, in_table}
use Rattle.events.specs.Form.{head_of, loss_at}
use Rattle.events.proofs.InLine.{head_in_line, loss_in_line, clean_from, space_left}
use Rattle.events.proofs.LossForms.{Ahead, none_ahead, one-ahead, loss-place}
use Rattle.losses.specs.Event.{loss_numbers}
use Rattle.losses.proofs.EventNumbers.{numbers-append, numbers-length}

-- what is left of a text from a place of its first line on
pub left_of_line : (s l r : List ℕ) (at : ℕ) → s ≡ l ++ (10 ∷ r) → at ≤ length l
    → drop at s ≡ drop at l ++ (10 ∷ r)
left_of_line s l r at e h = ap (drop at) e ∙ drop-append-le at l (10 ∷ r) h

-- 1 for a loss whose treaty the table lacks
abbrev pub lack_by : List Treaty → Loss → ℕ
lack_by ts x = cond (in_table ts x.treaty) 0 1

lack_byte : (t u : Bool) → u ≡ cond t false true → (bool_byte u ≡ cond t 0 1) × (bool_byte u ≤ 1)
lack_byte true u e = rw e (refl, omega arith)
lack_byte false u e = rw e (refl, omega arith)

-- The losses xs were read up to `place` of the text s, whose first line has the day d: `count` of them, `out` of its
-- numbers so far outside their range, `lacks` of the losses with a treaty that the table lacks. They are kept from the
-- place `from` on in k, which was k₀ before the line; `next` is the place after them.
pub record Listed (ts : List Treaty) (s : List ℕ) (d : ℕ) (k₀ k : List ℕ) (from place count out lacks next : ℕ)
    : Type 0 where
  pub xs : List Loss
  pub within : place ≤ length s
  pub begun : 8 + 13 * length xs ≤ place
  pub ahead : (l r : List ℕ) → s ≡ l ++ (10 ∷ r) → NoFeed l → Ahead l d xs place
  pub counted : count ≡ length xs
  pub outsides : out ≡ outside 1 366 d + sum_of loss_outside xs
  pub few : out ≤ 1 + 3 * count
  pub lacked : lacks ≡ sum_of (lack_by ts) xs
  pub few_lacks : lacks ≤ count
  pub kept : Put k₀ from (loss_numbers xs) k next
  pub short : length s ≤ 65536

-- before the first loss form
pub none-listed : (ts : List Treaty) (s k : List ℕ) (from : ℕ) (u : Option (ℕ × ℕ)) (d first out : ℕ) → u ≡ head_of s
    → u ≡ Some (d, first) → out ≡ outside 1 366 d → out ≤ 1 → length s ≤ 65536
    → Listed ts s d k k from first 0 out 0 from
none-listed ts s k from u d first out q y o l h =
    let whole = none_ahead s u q d first y in
    record {
      xs = [];
      within = whole.within;
      begun = omega (arith, whole.begun);
      ahead = λ l r e z. none_ahead l u (q ∙ ap head_of e ∙ head_in_line l r z) d first y;
      counted = refl;
      outsides = omega (arith, o);
      few = omega arith;
      lacked = refl;
      few_lacks = omega arith;
      kept = put-none k from;
      short = h;
    }

module _ {ts : List Treaty} {s : List ℕ} {d : ℕ} {k₀ k : List ℕ} {from place count out lacks next : ℕ}
    (g : Listed ts s d k₀ k from place count out lacks next) where
  pub count_small : count ≤ 5042
  count_small = omega (arith, g.counted, g.begun, g.within, g.short)

  pub same_kept : length k ≡ length k₀
  same_kept = rw g.kept.bytes (length-sets k₀ from (loss_numbers g.xs))

  pub next-is : next ≡ from + 3 * count
  next-is = omega (arith, g.kept.place, numbers-length g.xs, g.counted)

  -- one loss more
  module _ (b : Bool) (space : Stands s place 32 b) (is : b ≡ true) (f : Option (Loss × ℕ)) (q : f ≡ loss_at s place)
      (x : Loss) (after : ℕ) (y : f ≡ Some (x, after)) where
    places : (place + 13 ≤ after) × (after ≤ length s)
    places = loss-place s place g.within f q x after y

    pub less_left : length s - after < length s - place
    less_left = omega (arith, places)

    one_more : (l r : List ℕ) → s ≡ l ++ (10 ∷ r) → NoFeed l → Ahead l d (g.xs ++ (x ∷ [])) after
    one_more l r e z =
        let a = g.ahead l r e z in
        let left = left_of_line s l r place e a.within in
        let spaced : begins (32 ∷ []) (drop place l ++ (10 ∷ r)) ≡ true = rw left at (sym space.same ∙ is) in
        one-ahead l d g.xs place a (space_left (drop place l) r spaced) f
        (q ∙ ap (λ (t : List ℕ). loss_at t place) e ∙ loss_in_line l r place (clean_from place l z) a.within) x after
        y

    pub one-listed : (o end : ℕ) (u : Bool) (k' : List ℕ) → o ≡ loss_outside x → o ≤ 3
        → u ≡ cond (in_table ts x.treaty) false true
        → Put k next (x.treaty ∷ x.maximum ∷ x.amount ∷ []) k' end
        → Listed ts s d k₀ k' from after (count + 1) (out + o) (lacks + bool_byte u) end
    one-listed o end u k' a b e p = let l = (lack_byte (in_table ts x.treaty) u e).0 in let i = (lack_byte (in_table ts x.treaty) u e).1 in record {
      xs = g.xs ++ (x ∷ []);
      within = places.1;
      begun = omega (arith, g.begun, places.0, length-append g.xs (x ∷ []));
      ahead = one_more;
      counted = omega (arith, g.counted, length-append g.xs (x ∷ []));
      outsides = omega (arith, g.outsides, a, sum-append loss_outside g.xs (x ∷ []));
      few = omega (arith, g.few);
      lacked = omega (arith, g.lacked, l, sum-append (lack_by ts) g.xs (x ∷ []));
      few_lacks = omega (arith, g.few_lacks, i);
      kept = rw (numbers-append g.xs (x ∷ [])) (put-append g.kept p);
      short = g.short;
    }
