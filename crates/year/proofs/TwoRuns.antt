-- One accepted text, and the same text cut into two runs at the end of any line: the standing left is the same, the
-- event lines of the two statements are those of the one, the layers' lines of the second are its layers' lines,
-- the treaties' lines add up line by line to its treaties' lines, and the totals add up to its totals.
-- Assumes nothing.
use mathlib.Core.Path.{◌≡◌, refl, sym, ◌∙◌, ap, ap₂, subst}
use mathlib.Core.List.{List, [], ◌∷◌, ◌++◌, map}
use Prim.Native.Nat.{ℕ, ◌≤◌}
use lib.ListN.{length}
use Rattle.lists.proofs.Chains.{last-append}
use Rattle.text.proofs.Cuts.{WholeLines}
use Rattle.treaty.specs.declared.Treaty.{Treaty}
use Rattle.scale.proofs.Passing.{passes-fair}
use Rattle.programme.specs.declared.contract.Programme.{Programme}
use Rattle.programme.specs.Contract.{Contracts, contracts_in}
use Rattle.programme.proofs.Lawful.{valid-lawful}
use Rattle.events.specs.Event.{Event, last_day}
use Rattle.events.proofs.Reading.{Cut, read-cut, read-days}
use Rattle.year.specs.declared.Standing.{Standing}
use Rattle.year.specs.Tiers.{Tiers}
use Rattle.year.specs.Event.{Year, year_after}
use Rattle.year.specs.Statement.{Statement, LayerLine, layer_line_of, treaty_line_of, event_lines, added, totals}
use Rattle.year.specs.Statement.{statement_text}
use Rattle.year.specs.Standing.{standing_of, year_of}
use Rattle.year.specs.Run.{accepted, run_under}
use Rattle.year.proofs.Layers.{Under, under-events, year-loads, year-passes, standing-under}
use Rattle.year.proofs.Parts.{year-append, event-lines-append, totals-append}
use Rattle.year.proofs.Parts.{numbers_in, line_by_line, treaty-lines-append, same_numbers}
use Rattle.year.proofs.Running.{Passed, statement_from, standing_from, passed-runs, was_accepted}

-- the text a ++ b, accepted from the standing s with the statement `whole` and the standing `end`, run in two
pub record InTwo (shares : List ℕ) (p : Programme) (s : Standing) (a b : List ℕ) (whole : Statement) (end : Standing)
    : Type 0 where
  pub first : Statement
  pub middle : Standing
  pub second : Statement
  pub first_run : (room : ℕ) → length (statement_text first) ≤ room → run_under shares p s a room ≡ accepted first middle
  pub second_run : (room : ℕ) → length (statement_text second) ≤ room
      → run_under shares p middle b room ≡ accepted second end
  pub lines : whole.events ≡ first.events ++ second.events
  pub treaties : whole.treaties ≡ line_by_line first.treaties second.treaties
  pub numbers : numbers_in first.treaties ≡ numbers_in second.treaties
  pub layers : whole.layers ≡ second.layers
  pub total : whole.total ≡ added (first.total ∷ second.total ∷ [])

module _ (shares : List ℕ) (p : Programme) (s : Standing) (a b : List ℕ) (w : WholeLines a) where
  -- the events es of the whole text
  events_in_two : (room : ℕ) (es : List Event) → Passed shares p s (a ++ b) room es
      → InTwo shares p s a b (statement_from shares (contracts_in p) s es) (standing_from shares (contracts_in p) s es)
  events_in_two room es g = record {
    first = statement_from shares c s k.first;
    middle = middle;
    second = statement_from shares c middle k.second;
    first_run = λ r h. passed-runs shares p s a r k.first
        (record {
          programme = g.programme;
          standing = g.standing;
          scale = g.scale;
          read = k.reads_first;
          fits = h;
        });
    second_run = λ r h. passed-runs shares p middle b r k.second
        (record {
          programme = g.programme;
          standing = year-passes c y d (read-days ts s.day a k.first u.1 k.reads_first) under;
          scale = g.scale;
          read = k.reads_second;
          fits = h;
        })
        ∙ ap (accepted (statement_from shares c middle k.second)) ends;
    lines = lines;
    treaties = ap (λ (fs : List Event). map (treaty_line_of fs) ts) k.together
        ∙ treaty-lines-append k.first k.second ts;
    numbers = same_numbers k.first k.second ts;
    layers = ap layers_of (ap (year_after shares ts (year_of c s)) k.together
        ∙ year-append shares ts (year_of c s) k.first k.second
        ∙ ap (λ (z : Year). year_after shares ts z k.second) (sym loads));
    total = ap totals lines
        ∙ totals-append (event_lines shares ts (year_of c s) k.first)
        (event_lines shares ts (year_of c middle) k.second);
  }
    where
      c : Contracts
      c = contracts_in p

      ts : List Treaty
      ts = c.treaties

      k : Cut ts s.day a b es
      k = read-cut ts s.day a b es w g.read

      u : Under c (year_of c s) × (s.day ≤ 366)
      u = standing-under c s g.standing

      y : Year
      y = year_after shares ts (year_of c s) k.first

      d : ℕ
      d = last_day s.day k.first

      under : Under c y
      under =
          under-events shares (passes-fair shares g.scale) c (valid-lawful p g.programme) (year_of c s) k.first
          u.0

      middle : Standing
      middle = standing_of y d

      loads : year_of c middle ≡ y
      loads = year-loads c y d under

      layers_of : Year → Tiers (List LayerLine)
      layers_of z = record { risk = map layer_line_of z.risk; cat = map layer_line_of z.cat }

      lines : event_lines shares ts (year_of c s) es
          ≡ event_lines shares ts (year_of c s) k.first ++ event_lines shares ts (year_of c middle) k.second
      lines =
          ap (event_lines shares ts (year_of c s)) k.together
          ∙ event-lines-append shares ts (year_of c s) k.first k.second
          ∙ ap (λ (z : Year). event_lines shares ts (year_of c s) k.first ++ event_lines shares ts z k.second)
          (sym loads)

      ends : standing_from shares c middle k.second ≡ standing_from shares c s es
      ends =
          ap₂ standing_of (ap (λ (z : Year). year_after shares ts z k.second) loads) refl
          ∙ ap₂ standing_of (sym (year-append shares ts (year_of c s) k.first k.second))
          (sym (last-append (λ (e : Event). e.day) s.day k.first k.second))
          ∙ ap (standing_from shares c s) (sym k.together)

  -- with any buffers that hold the two statements
  pub in_two : (room : ℕ) (t : Statement) (s' : Standing) → run_under shares p s (a ++ b) room ≡ accepted t s'
      → InTwo shares p s a b t s'
  in_two room t s' e =
      let g = was_accepted shares p s (a ++ b) room t s' e in
      subst (InTwo shares p s a b t) g.standing
      (subst (λ (u : Statement). InTwo shares p s a b u (standing_from shares (contracts_in p) s g.es)) g.statement
      (events_in_two room g.es g.passed))
