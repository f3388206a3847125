-- Document 02, Q-12: a scale of which every share is 10,000, the whole: a year's events come to what they come to in
-- the same year without (time), and their statement is the same.
-- Assumes nothing.
use mathlib.Core.Path.{◌≡◌, refl, ap, ◌∙◌}
use mathlib.Core.Bool.{true}
use mathlib.Core.List.{List, [], ◌∷◌, map}
use Prim.Native.Nat.{ℕ, ◌+◌, ◌-◌, ◌≤◌}
use native.Mathlib.Omega.{arith}
use lib.ListN.{replicate, get_or-replicate}
use Rattle.lists.specs.Each.{Each}
use Rattle.treaty.specs.declared.Treaty.{Treaty}
use Rattle.layer.specs.Tier.{recoveries_by, dues_by}
use Rattle.layer.proofs.PremiumApart.{recoveries-apart, recoveries-by-apart, left-apart}
use Rattle.scale.specs.Scale.{share_on, scale_passes}
use Rattle.events.specs.Event.{Event}
use Rattle.year.specs.Event.{Year, left_by_treaties, subject_of, event_after, event_amounts, year_after}
use Rattle.year.specs.Statement.{event_lines, treaty_line_of, layer_line_of, totals, statement_of}
use Rattle.year.proofs.WholeLayers.{plainly, Whole, lines-plainly, plainly-apart}
use Rattle.year.proofs.WholeLayers.{on-plainly, through-plainly, tier-whole-on, tier-whole-through}
use Rattle.year.proofs.WholeLayers.{dues-plainly, dues-through-plainly}

-- the scale of which every share is the whole
unfoldable pub whole_shares : List ℕ
whole_shares = replicate 366 10000

-- some text reads to it
pub whole-passes : scale_passes whole_shares ≡ true
unfolding whole_shares scale_passes
whole-passes = refl

-- each day of the year has the whole
pub whole-share : (d : ℕ) → d ≤ 366 → share_on whole_shares d ≡ 10000
unfolding whole_shares
whole-share d h = get_or-replicate 366 (d - 1) 10000 0 (omega arith)

-- a year's layers without (time)
abbrev pub plain_year : Year → Year
plain_year y = record { risk = map plainly y.risk; cat = map plainly y.cat }

-- layers whose year premiums are their amount premiums
pub record WholeYear (y : Year) : Type 0 where
  pub risk : Each Whole y.risk
  pub cat : Each Whole y.cat

-- an event on a day of the year
module _ (others : List ℕ) (ts : List Treaty) (y : Year) where
  abbrev subject : Event → ℕ
  subject e = subject_of ts y e

  subject-plainly : (e : Event) → subject_of ts (plain_year y) e ≡ subject e
  unfolding subject_of
  subject-plainly e = left-apart (map plainly y.risk) y.risk (plainly-apart y.risk) (left_by_treaties ts e)

  event-plainly : (e : Event) → event_after others ts (plain_year y) e ≡ plain_year (event_after whole_shares ts y e)
  event-plainly e =
      let share = share_on whole_shares e.day in
      let other = share_on others e.day in
      λ i. record {
        risk = through-plainly share other (left_by_treaties ts e) y.risk i;
        cat = cat i;
      }
    where
      cat : (event_after others ts (plain_year y) e).cat ≡ map plainly (event_after whole_shares ts y e).cat
      cat = rw (subject-plainly e)
          (on-plainly (share_on whole_shares e.day) (share_on others e.day) (subject e) y.cat)

  module _ (e : Event) (h : e.day ≤ 366) where
    abbrev share : ℕ
    share = share_on whole_shares e.day

    abbrev other : ℕ
    other = share_on others e.day

    event-whole : WholeYear y → WholeYear (event_after whole_shares ts y e)
    event-whole w = record {
      risk = tier-whole-through share (whole-share e.day h) (left_by_treaties ts e) y.risk w.risk;
      cat = tier-whole-on share (whole-share e.day h) (subject e) y.cat w.cat;
    }

    amounts-plainly : event_amounts others ts (plain_year y) e ≡ event_amounts whole_shares ts y e
    amounts-plainly =
        let all = whole-share e.day h in
        let xs = left_by_treaties ts e in
        let cats = map plainly y.cat in
        let recovered = ap (λ (x : ℕ). recoveries_by x cats) (subject-plainly e)
        ∙ recoveries-by-apart cats y.cat (plainly-apart y.cat) (subject e) in
        let due = ap (λ (x : ℕ). dues_by other x cats) (subject-plainly e)
        ∙ dues-plainly share all other (subject e) y.cat in
        λ i. record {
          gross = (event_amounts whole_shares ts y e).gross;
          ceded = (event_amounts whole_shares ts y e).ceded;
          risk = recoveries-apart (map plainly y.risk) y.risk (plainly-apart y.risk) xs i;
          cat = recovered i;
          net = subject-plainly e i - recovered i;
          premium = dues-through-plainly share all other xs y.risk i + due i;
        }

-- no event past day 366
abbrev pub InYear : List Event → Type 0
InYear es = Each (λ (e : Event). e.day ≤ 366) es

-- events
module _ (others : List ℕ) (ts : List Treaty) where
  pub year-plainly : (y : Year) (es : List Event)
      → year_after others ts (plain_year y) es ≡ plain_year (year_after whole_shares ts y es)
  year-plainly y [] = refl
  year-plainly y (e ∷ es) =
      ap (λ (z : Year). year_after others ts z es) (event-plainly others ts y e)
      ∙ year-plainly (event_after whole_shares ts y e) es

  pub year-whole : (y : Year) (es : List Event) → InYear es → WholeYear y → WholeYear (year_after whole_shares ts y es)
  year-whole y [] h w = w
  year-whole y (e ∷ es) h w =
      year-whole (event_after whole_shares ts y e) es h.1 (event-whole others ts y e h.0 w)

  event-lines-plainly : (y : Year) (es : List Event) → InYear es
      → event_lines others ts (plain_year y) es ≡ event_lines whole_shares ts y es
  event-lines-plainly y [] h = refl
  event-lines-plainly y (e ∷ es) h =
      let first = amounts-plainly others ts y e h.0 in
      let rest = ap (λ (z : Year). event_lines others ts z es) (event-plainly others ts y e)
      ∙ event-lines-plainly (event_after whole_shares ts y e) es h.1 in
      λ i. record { day = e.day; amounts = first i } ∷ rest i

  pub statement-plainly : (y : Year) (es : List Event) → InYear es → WholeYear y
      → statement_of others ts (plain_year y) es ≡ statement_of whole_shares ts y es
  statement-plainly y es h w =
      let lines = event-lines-plainly y es h in
      let end = year_after whole_shares ts y es in
      let after = year-plainly y es in
      let whole = year-whole y es h w in
      let risk = ap (λ (z : Year). map layer_line_of z.risk) after ∙ lines-plainly end.risk whole.risk in
      let cat = ap (λ (z : Year). map layer_line_of z.cat) after ∙ lines-plainly end.cat whole.cat in
      λ i. record {
        events = lines i;
        treaties = map (treaty_line_of es) ts;
        layers = record { risk = risk i; cat = cat i };
        total = totals (lines i);
      }
