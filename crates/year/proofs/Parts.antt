-- Events in two parts: the year after them, their lines, the treaties' lines and their totals.
-- Assumes nothing.
use mathlib.Core.Path.{◌≡◌, refl, sym, ap, ap₂, ◌∙◌}
use mathlib.Core.List.{List, [], ◌∷◌, ◌++◌, map, map-map, map-append}
use Prim.Native.Nat.{ℕ, ◌+◌}
use native.Mathlib.Omega.{arith}
use Rattle.lists.specs.Sums.{sum_of}
use Rattle.lists.proofs.Sums.{sum-append}
use Rattle.treaty.specs.declared.Treaty.{Treaty}
use Rattle.treaty.specs.Treaty.{taken_by}
use Rattle.events.specs.Event.{Event}
use Rattle.year.specs.declared.Amounts.{Amounts}
use Rattle.year.specs.Event.{Year, event_after, event_amounts, year_after}
use Rattle.year.specs.Statement.{EventLine, event_lines, TreatyLine, treaty_line_of, added, totals}

module _ (shares : List ℕ) (ts : List Treaty) where
  -- the year after both is the year after the second from the year after the first
  pub year-append : (y : Year) (es fs : List Event)
      → year_after shares ts y (es ++ fs) ≡ year_after shares ts (year_after shares ts y es) fs
  year-append y [] fs = refl
  year-append y (e ∷ es) fs = year-append (event_after shares ts y e) es fs

  -- the lines of the first, then those of the second from the year after the first
  pub event-lines-append : (y : Year) (es fs : List Event)
      → event_lines shares ts y (es ++ fs)
      ≡ event_lines shares ts y es ++ event_lines shares ts (year_after shares ts y es) fs
  event-lines-append y [] fs = refl
  event-lines-append y (e ∷ es) fs =
      ap (λ (ls : List EventLine). record { day = e.day; amounts = event_amounts shares ts y e } ∷ ls)
      (event-lines-append (event_after shares ts y e) es fs)

-- the numbers of treaties' lines
abbrev pub numbers_in : List TreatyLine → List ℕ
numbers_in ls = map (λ (l : TreatyLine). l.number) ls

-- treaties' lines added line by line: the number stays, and what is ceded is added
abbrev pub line_by_line : List TreatyLine → List TreatyLine → List TreatyLine
line_by_line [] ms = []
line_by_line (l ∷ ls) [] = []
line_by_line (l ∷ ls) (m ∷ ms) = record { number = l.number; ceded = l.ceded + m.ceded } ∷ line_by_line ls ms

module _ (es fs : List Event) where
  -- the treaties' lines of both are those of each, added line by line
  pub treaty-lines-append : (ts : List Treaty)
      → map (treaty_line_of (es ++ fs)) ts ≡ line_by_line (map (treaty_line_of es) ts) (map (treaty_line_of fs) ts)
  treaty-lines-append [] = refl
  treaty-lines-append (t ∷ ts) =
      ap₂ (λ (n : ℕ) (ls : List TreatyLine). record { number = t.number; ceded = n } ∷ ls)
      (sum-append (λ (e : Event). taken_by t e.losses) es fs) (treaty-lines-append ts)

  -- and have the same numbers
  pub same_numbers : (ts : List Treaty)
      → numbers_in (map (treaty_line_of es) ts) ≡ numbers_in (map (treaty_line_of fs) ts)
  same_numbers ts =
      map-map (λ (l : TreatyLine). l.number) (treaty_line_of es) ts
      ∙ sym (map-map (λ (l : TreatyLine). l.number) (treaty_line_of fs) ts)

-- the totals of both are the totals of each, added
pub totals-append : (ls ms : List EventLine) → totals (ls ++ ms) ≡ added (totals ls ∷ totals ms ∷ [])
totals-append ls ms =
    ap added (map-append (λ (l : EventLine). l.amounts) ls ms)
    ∙ parts (map (λ (l : EventLine). l.amounts) ls) (map (λ (l : EventLine). l.amounts) ms)
  where
    part : (f : Amounts → ℕ) (xs zs : List Amounts) → sum_of f (xs ++ zs) ≡ sum_of f xs + (sum_of f zs + 0)
    part f xs zs = omega (arith, sum-append f xs zs)

    parts : (xs zs : List Amounts) → added (xs ++ zs) ≡ added (added xs ∷ added zs ∷ [])
    parts xs zs i = record {
      gross = part (λ (a : Amounts). a.gross) xs zs i;
      ceded = part (λ (a : Amounts). a.ceded) xs zs i;
      risk = part (λ (a : Amounts). a.risk) xs zs i;
      cat = part (λ (a : Amounts). a.cat) xs zs i;
      net = part (λ (a : Amounts). a.net) xs zs i;
      premium = part (λ (a : Amounts). a.premium) xs zs i;
    }
