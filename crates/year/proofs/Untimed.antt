-- Document 02, Q-4 and Q-12: under a programme without a layer that has (time) the shares do not matter: every run
-- comes to the same by any two lists of shares, whatever these are, where scale texts read to both or to neither.
-- Assumes nothing.
use mathlib.Core.Path.{◌≡◌, refl, sym, ap, ◌∙◌}
use mathlib.Core.Bool.{true, false}
use mathlib.Core.List.{List, [], ◌∷◌, map}
use Prim.Native.Nat.{ℕ, ◌+◌}
use lib.ListN.{drop}
use Rattle.lists.specs.Each.{Each}
use Rattle.treaty.specs.declared.Treaty.{Treaty}
use Rattle.layer.specs.declared.terms.Terms.{Terms}
use Rattle.layer.specs.declared.record.Layer.{Layer}
use Rattle.layer.specs.Layer.{is_timed, charged_since, due_of, with_due, after_subject, due_by}
use Rattle.layer.specs.Tier.{layers_after, layers_on, layers_through, dues_by, dues_through}
use Rattle.layer.proofs.Dues.{due-plain}
use Rattle.scale.specs.Scale.{share_on, scale_passes}
use Rattle.answer.specs.Outcome.{Outcome, refused}
use Rattle.programme.specs.declared.contract.Programme.{Programme}
use Rattle.programme.specs.Contract.{Contracts, contracts_in}
use Rattle.programme.specs.Valid.{valid}
use Rattle.events.specs.Event.{Event, last_day}
use Rattle.events.specs.Read.{EventsRead, turned_down_at, events, events_of}
use Rattle.year.specs.declared.Standing.{Standing}
use Rattle.year.specs.Event.{Year, left_by_treaties, subject_of, event_after, event_amounts, year_after}
use Rattle.year.specs.Statement.{event_lines, treaty_line_of, layer_line_of, totals, statement_of}
use Rattle.year.specs.Standing.{standing_of, layers_with, year_of, standing_passes}
use Rattle.year.specs.Run.{Left, statement_fitted, run_through, run_by, run_from, run_under}

-- no layer of some terms has (time), and none of a tier
abbrev pub NoneTimed : List Terms → Type 0
NoneTimed ts = Each (λ (t : Terms). is_timed t ≡ false) ts

abbrev Plain : List Layer → Type 0
Plain ls = Each (λ (y : Layer). is_timed y.terms ≡ false) ls

-- the layers of a standing are of the programme's terms
plain_with : (ts : List Terms) (ms ns : List ℕ) → NoneTimed ts → Plain (layers_with ts ms ns)
plain_with [] ms ns u = tt
plain_with (t ∷ ts) ms ns u = (u.0, plain_with ts (drop 1 ms) (drop 1 ns) u.1)

plain-after : (x : ℕ) (ls : List Layer) → Plain ls → Plain (layers_after x ls)
plain-after x [] u = tt
plain-after x (y ∷ ls) u = (u.0, plain-after x ls u.1)

plain-on : (share x : ℕ) (ls : List Layer) → Plain ls → Plain (layers_on share x ls)
plain-on share x [] u = tt
plain-on share x (y ∷ ls) u = (u.0, plain-on share x ls u.1)

plain-through : (share : ℕ) (xs : List ℕ) (ls : List Layer) → Plain ls → Plain (layers_through share xs ls)
plain-through share [] ls u = u
plain-through share (x ∷ xs) ls u = plain-through share xs (layers_on share x ls) (plain-on share x ls u)

-- on days of two shares
module _ (share other : ℕ) where
  due-same : (x : ℕ) (y : Layer) → is_timed y.terms ≡ false → due_by share x y ≡ due_by other x y
  unfolding due_of
  due-same x y plain =
      let amount = charged_since y (after_subject x y) in
      due-plain y.terms plain share amount ∙ sym (due-plain y.terms plain other amount)

  on_same : (x : ℕ) (ls : List Layer) → Plain ls → layers_on share x ls ≡ layers_on other x ls
  on_same x [] u = refl
  on_same x (y ∷ ls) u =
      let due = due-same x y u.0 in
      let rest = on_same x ls u.1 in
      λ i. with_due (due i) (after_subject x y) ∷ rest i

  dues-same : (x : ℕ) (ls : List Layer) → Plain ls → dues_by share x ls ≡ dues_by other x ls
  dues-same x [] u = refl
  dues-same x (y ∷ ls) u =
      let due = due-same x y u.0 in
      let rest = dues-same x ls u.1 in
      λ i. due i + rest i

  through_same : (xs : List ℕ) (ls : List Layer) → Plain ls → layers_through share xs ls ≡ layers_through other xs ls
  through_same [] ls u = refl
  through_same (x ∷ xs) ls u =
      ap (layers_through share xs) (on_same x ls u)
      ∙ through_same xs (layers_on other x ls) (plain-on other x ls u)

  dues-through-same : (xs : List ℕ) (ls : List Layer) → Plain ls → dues_through share xs ls ≡ dues_through other xs ls
  dues-through-same [] ls u = refl
  dues-through-same (x ∷ xs) ls u =
      let due = dues-same x ls u in
      let rest = dues-through-same xs (layers_after x ls) (plain-after x ls u) in
      λ i. due i + rest i

-- a year without a layer that has (time), by two lists of shares
record PlainYear (y : Year) : Type 0 where
  risk : Plain y.risk
  cat : Plain y.cat

module _ (shares others : List ℕ) (ts : List Treaty) where
  event-same : (y : Year) (e : Event) → PlainYear y → event_after shares ts y e ≡ event_after others ts y e
  event-same y e u =
      let share = share_on shares e.day in
      let other = share_on others e.day in
      let risk = through_same share other (left_by_treaties ts e) y.risk u.risk in
      let cat = on_same share other (subject_of ts y e) y.cat u.cat in
      λ i. record { risk = risk i; cat = cat i }

  event-plain : (y : Year) (e : Event) → PlainYear y → PlainYear (event_after others ts y e)
  event-plain y e u =
      let other = share_on others e.day in
      record {
        risk = plain-through other (left_by_treaties ts e) y.risk u.risk;
        cat = plain-on other (subject_of ts y e) y.cat u.cat;
      }

  amounts-same : (y : Year) (e : Event) → PlainYear y → event_amounts shares ts y e ≡ event_amounts others ts y e
  amounts-same y e u =
      let share = share_on shares e.day in
      let other = share_on others e.day in
      let risk = dues-through-same share other (left_by_treaties ts e) y.risk u.risk in
      let cat = dues-same share other (subject_of ts y e) y.cat u.cat in
      λ i. record {
        gross = (event_amounts shares ts y e).gross;
        ceded = (event_amounts shares ts y e).ceded;
        risk = (event_amounts shares ts y e).risk;
        cat = (event_amounts shares ts y e).cat;
        net = (event_amounts shares ts y e).net;
        premium = risk i + cat i;
      }

  year-same : (y : Year) (es : List Event) → PlainYear y → year_after shares ts y es ≡ year_after others ts y es
  year-same y [] u = refl
  year-same y (e ∷ es) u =
      ap (λ (z : Year). year_after shares ts z es) (event-same y e u)
      ∙ year-same (event_after others ts y e) es (event-plain y e u)

  lines_same : (y : Year) (es : List Event) → PlainYear y → event_lines shares ts y es ≡ event_lines others ts y es
  lines_same y [] u = refl
  lines_same y (e ∷ es) u =
      let first = amounts-same y e u in
      let rest = ap (λ (z : Year). event_lines shares ts z es) (event-same y e u)
      ∙ lines_same (event_after others ts y e) es (event-plain y e u) in
      λ i. record { day = e.day; amounts = first i } ∷ rest i

  statement-same : (y : Year) (es : List Event) → PlainYear y → statement_of shares ts y es ≡ statement_of others ts y es
  statement-same y es u =
      let lines = lines_same y es u in
      let after = year-same y es u in
      λ i. record {
        events = lines i;
        treaties = map (treaty_line_of es) ts;
        layers = record { risk = map layer_line_of (after i).risk; cat = map layer_line_of (after i).cat };
        total = totals (lines i);
      }

-- for every programme without such a layer, every standing, text and buffer
module _ (shares others : List ℕ) (p : Programme) (risk : NoneTimed (contracts_in p).risk)
    (cat : NoneTimed (contracts_in p).cat) (alike : scale_passes shares ≡ scale_passes others) (s : Standing)
    (text : List ℕ) (room : ℕ) where
  abbrev c : Contracts
  c = contracts_in p

  plain : PlainYear (year_of c s)
  plain = record {
    risk = plain_with c.risk s.risk s.risk_timed risk;
    cat = plain_with c.cat s.cat s.cat_timed cat;
  }

  through : (r : EventsRead) → run_through shares c s room r ≡ run_through others c s room r
  through (turned_down_at n w) = refl
  through (events es) =
      let statement = statement-same shares others c.treaties (year_of c s) es plain in
      let year = year-same shares others c.treaties (year_of c s) es plain in
      λ i. statement_fitted room (statement i) (standing_of (year i) (last_day s.day es))

  by : run_by shares c s text room ≡ run_by others c s text room
  unfolding run_by
  by =
      let run = through (events_of c.treaties s.day text) in
      λ i. elim (alike i) [ true ↦ run i | false ↦ refused 28 0 ]

  pub shares-apart : run_under shares p s text room ≡ run_under others p s text room
  unfolding run_under run_from
  shares-apart =
      ap
      (λ (o : Outcome Left).
      elim (valid p) [ true ↦ elim (standing_passes c s) [ true ↦ o | false ↦ refused 8 0 ] | false ↦ refused 6 0 ])
      by
