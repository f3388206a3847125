-- Document 02, Q-12: a scale of which every share is 10,000 gives the statements of the same table without (time), in
-- every history. Without (time) no scale matters, so they are those of the built-in shares as well.
-- Assumes nothing.
use mathlib.Core.Path.{◌≡◌, refl, sym, ap, ◌∙◌}
use mathlib.Core.Bool.{Bool, true, false}
use mathlib.Core.List.{List, [], ◌∷◌, map, map-map}
use Prim.Native.Nat.{ℕ, ◌≤◌}
use native.Mathlib.Omega.{arith}
use lib.Dec.{ltb}
use lib.ListN.{length}
use Rattle.lists.specs.Each.{Each}
use Rattle.lists.proofs.Each.{each_of, each_so, each_map}
use Rattle.treaty.specs.declared.Treaty.{Treaty}
use Rattle.layer.specs.declared.terms.Terms.{Terms}
use Rattle.layer.specs.declared.record.Layer.{Layer}
use Rattle.layer.specs.Layer.{premium_of}
use Rattle.layer.specs.Ranges.{Sound}
use Rattle.scale.specs.Scale.{scale_passes, time_shares}
use Rattle.scale.proofs.Table.{built_in_passes}
use Rattle.answer.specs.Outcome.{Outcome, refused, fitted}
use Rattle.programme.specs.declared.contract.Programme.{Programme}
use Rattle.programme.specs.Contract.{contracts_in}
use Rattle.programme.specs.Valid.{valid}
use Rattle.programme.proofs.Lawful.{valid-lawful}
use Rattle.events.specs.Event.{Event, last_day}
use Rattle.events.specs.Read.{EventsRead, turned_down_at, events, events_of}
use Rattle.events.proofs.Reading.{EventLawful, read-lawful, read-days}
use Rattle.year.specs.declared.Standing.{Standing}
use Rattle.year.specs.Event.{Year, year_after}
use Rattle.year.specs.Statement.{Statement, statement_of, statement_text}
use Rattle.year.specs.Standing.{fresh, standing_of}
use Rattle.year.specs.Run.{Left, accepted, statement_fitted, run_through, run_by, run_from, run_under, standing_after}
use Rattle.year.specs.Ledger.{first_entry}
use Rattle.year.specs.History.{Call, outcome_of, Reply, reply_of, replies_in, statement_before, statements_in}
use Rattle.year.proofs.Layers.{Carries, Under, WithinCap, WithinPremium, carries-sound, under-events}
use Rattle.year.proofs.Layers.{year-loads, year-passes}
use Rattle.year.proofs.YearPremiums.{no-premium}
use Rattle.year.proofs.Cutting.{cut, cuts}
use Rattle.year.proofs.Books.{nothing-spent}
use Rattle.year.proofs.Following.{runnable, runs-fair, year_by, year-under, stands}
use Rattle.year.proofs.EveryHistory.{nothing-due}
use Rattle.year.proofs.NoTime.{WithoutTime, without_time, without_time_lem}
use Rattle.year.proofs.WholeLayers.{untimed, plainly, FullyCharged, Whole}
use Rattle.year.proofs.WholeYears.{whole_shares, whole-passes, plain_year, WholeYear}
use Rattle.year.proofs.WholeYears.{year-plainly, year-whole, statement-plainly}

-- two programmes under two scales, each from a standing: a list of runs is answered alike, and its statements are the
-- same
pub record AlikeFrom (shares others : List ℕ) (p q : Programme) (s r : Standing) (cs : List Call) : Type 0 where
  pub replies : replies_in shares p s cs ≡ replies_in others q r cs
  pub statements : statements_in shares p s cs ≡ statements_in others q r cs

-- so it is of a history, from fresh years
abbrev pub AnsweredAlike : (shares others : List ℕ) (p q : Programme) (h : List Call) → Type 0
AnsweredAlike shares others p q h = AlikeFrom shares others p q fresh fresh h

-- a run from the standing of a year, by what its text is read to
abbrev outcome_on : (shares : List ℕ) → List Treaty → Year → (d room : ℕ) → EventsRead → Outcome Left
outcome_on shares ts y d room (turned_down_at n w) = refused n w
outcome_on shares ts y d room (events es) =
    statement_fitted room (statement_of shares ts y es) (standing_of (year_after shares ts y es) (last_day d es))

module _ (shares : List ℕ) (p : Programme) (y : Year) (d : ℕ) (h : d ≤ 366) (u : Under (contracts_in p) y) where
  abbrev ts : List Treaty
  ts = (contracts_in p).treaties

  through-on : (room : ℕ) (r : EventsRead)
      → run_through shares (contracts_in p) (standing_of y d) room r ≡ outcome_on shares ts y d room r
  through-on room (turned_down_at n w) = refl
  through-on room (events es) =
      ap
      (λ (z : Year).
      statement_fitted room (statement_of shares ts z es) (standing_of (year_after shares ts z es) (last_day d es)))
      (year-loads (contracts_in p) y d u)

  run_on : valid p ≡ true → scale_passes shares ≡ true → (text : List ℕ) (room : ℕ)
      → run_under shares p (standing_of y d) text room ≡ outcome_on shares ts y d room (events_of ts d text)
  unfolding run_under run_from run_by
  run_on v g text room =
      simp (run_under, v, run_from, year-passes (contracts_in p) y d h u)
      (simp (run_by, g) (through-on room (events_of ts d text)))

-- layers under some terms are, without (time), under those terms without it
plain-carries : (ts : List Terms) (ls : List Layer) → Carries ts ls → Carries (map untimed ts) (map plainly ls)
plain-carries ts ls c = record {
  terms =
      map-map (λ (y : Layer). y.terms) plainly ls
      ∙ sym (map-map untimed (λ (y : Layer). y.terms) ls)
      ∙ ap (map untimed) c.terms;
  spent = each_map WithinCap plainly ls c.spent;
  timed = each_map WithinPremium plainly ls (each_of _ (λ y. omega arith) ls);
}

-- the first layers
first-plainly : (ts : List Terms) → map plainly (cuts (map first_entry ts)) ≡ cuts (map first_entry (map untimed ts))
first-plainly [] = refl
first-plainly (t ∷ ts) = ap (λ (l : List Layer). plainly (cut (first_entry t)) ∷ l) (first-plainly ts)

first-charged : (t : Terms) → FullyCharged (cut (first_entry t))
first-charged t = nothing-due t ∙ sym (ap (premium_of t) (nothing-spent t) ∙ no-premium t)

first-whole : (ts : List Terms) → Each Sound (cuts (map first_entry ts)) → Each Whole (cuts (map first_entry ts))
first-whole [] s = tt
first-whole (t ∷ ts) s = (record { sound = s.0; charged = first-charged t }, first-whole ts s.1)

module _ (others : List ℕ) (passes : scale_passes others ≡ true) (p q : Programme) (u : WithoutTime p q) where
  -- a year under p on a day, with every premium whole
  record Held (y : Year) (d : ℕ) : Type 0 where
    under : Under (contracts_in p) y
    whole : WholeYear y
    day : d ≤ 366

  -- two runs, of p from a year and of q from the year without (time): both are refused alike, or both are accepted
  -- with one statement and are again two such years
  data Alike : Outcome Left → Outcome Left → Type 0 where
    both-refused : (n w : ℕ) → Alike (refused n w) (refused n w)
    both-accepted : (t : Statement) (y : Year) (d : ℕ) → Held y d
        → Alike (accepted t (standing_of y d)) (accepted t (standing_of (plain_year y) d))

  runs : runnable whole_shares p ≡ true
  runs = rw (u.timed-valid, whole-passes)

  plain_runs : runnable others q ≡ true
  plain_runs = rw (u.plain-valid, passes)

  plain-under : (y : Year) → Under (contracts_in p) y → Under (contracts_in q) (plain_year y)
  plain-under y g = record {
    risk = rw u.risk (plain-carries (contracts_in p).risk y.risk g.risk);
    cat = rw u.cat (plain-carries (contracts_in p).cat y.cat g.cat);
  }

  fitted-alike : (room : ℕ) (t : Statement) (y : Year) (d : ℕ) → Held y d
      → Alike (statement_fitted room t (standing_of y d)) (statement_fitted room t (standing_of (plain_year y) d))
  unfolding fitted
  fitted-alike room t y d g = by (ltb room (length (statement_text t)))
    where
      by : (b : Bool) → Alike
          (elim b [
            | true ↦ refused 7 (length (statement_text t))
            | false ↦ accepted t (standing_of y d)
          ])
          (elim b [
            | true ↦ refused 7 (length (statement_text t))
            | false ↦ accepted t (standing_of (plain_year y) d)
          ])
      by true = both-refused 7 (length (statement_text t))
      by false = both-accepted t y d g

  -- by what a text is read to
  read_alike : (y : Year) (d : ℕ) → Held y d → (text : List ℕ) (room : ℕ) (r : EventsRead)
      → events_of (contracts_in p).treaties d text ≡ r
      → Alike (outcome_on whole_shares (contracts_in p).treaties y d room r)
      (outcome_on others (contracts_in p).treaties (plain_year y) d room r)
  read_alike y d g text room (turned_down_at n w) e = both-refused n w
  read_alike y d g text room (events es) e =
      let ts = (contracts_in p).treaties in
      let days = each_so EventLawful (λ (x : Event). x.day ≤ 366) (λ x l. l.day-high) es
      (read-lawful ts d text es e) in
      let after = year_after whole_shares ts y es in
      let held : Held after (last_day d es) = record {
        under = under-events whole_shares (runs-fair whole_shares p runs) (contracts_in p)
            (valid-lawful p u.timed-valid) y es g.under;
        whole = year-whole others ts y es days g.whole;
        day = read-days ts d text es g.day e;
      } in
      rw (statement-plainly others ts y es days g.whole, year-plainly others ts y es)
      (fitted-alike room (statement_of whole_shares ts y es) after (last_day d es) held)

  run-alike : (y : Year) (d : ℕ) → Held y d → (c : Call)
      → Alike (outcome_of whole_shares p (standing_of y d) c) (outcome_of others q (standing_of (plain_year y) d) c)
  run-alike y d g c =
      let ts = (contracts_in p).treaties in
      let room = length c.buffer in
      rw (
        run_on whole_shares p y d g.day g.under u.timed-valid whole-passes c.text room,
        run_on others q (plain_year y) d g.day (plain-under y g.under) u.plain-valid passes c.text room,
        u.treaties,
      )
      (read_alike y d g c.text room (events_of ts d c.text) refl)

  -- lists of runs from such years
  lists_alike : (cs : List Call) (y : Year) (d : ℕ) → Held y d
      → AlikeFrom whole_shares others p q (standing_of y d) (standing_of (plain_year y) d) cs
  lists_alike [] y d g = record { replies = refl; statements = refl }
  lists_alike (c ∷ cs) y d g =
      let both = go (lists_alike cs) _ _ (run-alike y d g c) in
      record { replies = both.0; statements = both.1 }
    where
      go : ((z : Year) (n : ℕ) → Held z n
          → AlikeFrom whole_shares others p q (standing_of z n) (standing_of (plain_year z) n) cs)
          → (o k : Outcome Left) → Alike o k
          → (reply_of o c.buffer ∷ replies_in whole_shares p (standing_after o (standing_of y d)) cs
          ≡ reply_of k c.buffer ∷ replies_in others q (standing_after k (standing_of (plain_year y) d)) cs)
          × (statement_before o (statements_in whole_shares p (standing_after o (standing_of y d)) cs)
          ≡ statement_before k (statements_in others q (standing_after k (standing_of (plain_year y) d)) cs))
      go ih o k (both-refused n w) = (
        ap (λ (l : List Reply). reply_of (refused n w) c.buffer ∷ l) (ih y d g).replies,
        (ih y d g).statements,
      )
      go ih o k (both-accepted t z n f) = (
        ap (λ (l : List Reply). reply_of (accepted t (standing_of z n)) c.buffer ∷ l) (ih z n f).replies,
        ap (λ (l : List Statement). t ∷ l) (ih z n f).statements,
      )

  -- the fresh year
  abbrev first_year : Year
  first_year = year_by whole_shares p []

  first-held : Held first_year 0
  first-held =
      let c = contracts_in p in
      let lawful = valid-lawful p u.timed-valid in
      let under = year-under whole_shares p runs [] in
      record {
        under = under;
        whole = record {
          risk = first-whole c.risk (carries-sound c.risk first_year.risk lawful.risk under.risk);
          cat = first-whole c.cat (carries-sound c.cat first_year.cat lawful.cat under.cat);
        };
        day = omega arith;
      }

  fresh-timed : fresh ≡ standing_of first_year 0
  fresh-timed = (stands whole_shares p []).after runs

  fresh-plain : fresh ≡ standing_of (plain_year first_year) 0
  fresh-plain = (stands others q []).after plain_runs ∙ sym (ap (λ (y : Year). standing_of y 0) same)
    where
      same : plain_year first_year ≡ year_by others q []
      same i = record {
        risk = (first-plainly (contracts_in p).risk ∙ ap (λ l. cuts (map first_entry l)) (sym u.risk)) i;
        cat = (first-plainly (contracts_in p).cat ∙ ap (λ l. cuts (map first_entry l)) (sym u.cat)) i;
      }

  -- for every history, and every scale on the other side
  pub whole_any : (h : List Call) → AnsweredAlike whole_shares others p q h
  whole_any h =
      let alike = lists_alike h first_year 0 first-held in
      record {
        replies =
            ap (λ s. replies_in whole_shares p s h) fresh-timed
            ∙ alike.replies
            ∙ sym (ap (λ s. replies_in others q s h) fresh-plain);
        statements =
            ap (λ s. statements_in whole_shares p s h) fresh-timed
            ∙ alike.statements
            ∙ sym (ap (λ s. statements_in others q s h) fresh-plain);
      }

-- the built-in shares there
pub whole_built_in : (p q : Programme) → WithoutTime p q → (h : List Call)
    → AnsweredAlike whole_shares time_shares p q h
whole_built_in p q = whole_any time_shares built_in_passes p q

-- a programme that a table text reads to, under this scale, and the same without (time), under the built-in shares
pub whole-scale : (p : Programme) → valid p ≡ true → (h : List Call)
    → AnsweredAlike whole_shares time_shares p (without_time p) h
whole-scale p v = whole_built_in p (without_time p) (without_time_lem p v)
