-- Demand 3, equal histories, with document 02's Q-4 and Q-12: after two histories under one programme and one list of
-- shares that end on the same day every later list of runs is answered alike exactly when each layer's spent amount
-- and each layer's timed premium, by the ledger, are the same.
-- Assumes nothing.
use mathlib.Core.Path.{◌≡◌, refl, sym, ◌∙◌, ap, ap₂, subst}
use mathlib.Core.Bool.{true, false}
use mathlib.Core.List.{List, [], ◌∷◌, map, map-map}
use Prim.Native.Nat.{ℕ, ◌+◌, ◌≤◌}
use native.Mathlib.Omega.{arith}
use lib.Dec.{lit<}
use lib.ListN.{length, take, drop, replicate, length-replicate}
use Rattle.lists.specs.Each.{Each}
use Rattle.lists.specs.Places.{in_places}
use Rattle.lists.proofs.Fronts.{same-front}
use Rattle.lists.proofs.Each.{each-replicate}
use Rattle.lists.proofs.Cases.{by_test}
use Rattle.text.proofs.Ascii.{Byte}
use Rattle.layer.specs.declared.terms.Terms.{Terms}
use Rattle.layer.specs.declared.record.Layer.{Layer}
use Rattle.layer.specs.Layer.{cap_of, timed_most, layer_of, year_premium}
use Rattle.layer.proofs.Year.{spent_determined}
use Rattle.answer.specs.Outcome.{Outcome}
use Rattle.programme.specs.declared.contract.Programme.{Programme}
use Rattle.programme.specs.Contract.{contracts_in}
use Rattle.programme.proofs.Lawful.{valid-lawful, at-most-eight}
use Rattle.events.specs.Event.{Event}
use Rattle.events.proofs.Reading.{read_none}
use Rattle.year.specs.declared.Standing.{Standing}
use Rattle.year.specs.Tiers.{TierName, risk, cat, in_tier}
use Rattle.year.specs.Event.{Year}
use Rattle.year.specs.Statement.{Statement, LayerLine, layer_line_of, statement_of, statement_text}
use Rattle.year.specs.Ledger.{Entry, Ledger}
use Rattle.year.specs.Run.{Left, accepted, run_under}
use Rattle.year.specs.History.{Call, Reply, reply_of, replies_in, events_of_history, ledger_of_history, ends_on}
use Rattle.year.specs.History.{replies_after, spent_in, timed_in, standing_of_history}
use Rattle.year.proofs.Layers.{Carries, WithinCap, WithinPremium, terms_in, carries-sound, carries-length}
use Rattle.year.proofs.YearPremiums.{timed_determined}
use Rattle.year.proofs.Treaties.{passed-numbers}
use Rattle.year.proofs.StatementsTell.{statements_tell}
use Rattle.year.proofs.Size.{no-events-short}
use Rattle.year.proofs.Cutting.{cut, cuts, cut_year}
use Rattle.year.proofs.Books.{books}
use Rattle.year.proofs.Running.{standing_from}
use Rattle.year.proofs.Following.{runnable, runs-valid, runs-scale, year_by, year-under, stands, year-from}
use Rattle.year.proofs.LaterRuns.{later-accepted}
use Rattle.year.proofs.AfterHistory.{standing_told, standing-told}

-- a run that can be made: bytes below 256, and a buffer of at most 65,536 of them
pub record Real (c : Call) : Type 0 where
  pub text : Each Byte c.text
  pub buffer : Each Byte c.buffer
  pub size : length c.buffer ≤ 65536

module _ (shares : List ℕ) (p : Programme) (h k : List Call) where
  -- every later list of runs is answered alike
  abbrev pub Alike : Type 0
  Alike = (cs : List Call) → replies_after shares p h cs ≡ replies_after shares p k cs

  -- every list of runs that can be made is
  abbrev pub AlikeIfReal : Type 0
  AlikeIfReal = (cs : List Call) → Each Real cs → replies_after shares p h cs ≡ replies_after shares p k cs

  -- each layer's spent amount, by the ledger, is the same
  abbrev pub SameSpent : Type 0
  SameSpent = (n : TierName)
      → spent_in (in_tier n (ledger_of_history shares p h)) ≡ spent_in (in_tier n (ledger_of_history shares p k))

  -- and each layer's timed premium
  abbrev pub SameTimed : Type 0
  SameTimed = (n : TierName)
      → timed_in (in_tier n (ledger_of_history shares p h)) ≡ timed_in (in_tier n (ledger_of_history shares p k))

-- a layer's line tells its spent amount and its timed premium
line_tells : (t : Terms) (m n k j : ℕ) → m ≤ cap_of t → n ≤ cap_of t → k ≤ timed_most t m → j ≤ timed_most t n
    → layer_line_of (layer_of t m k) ≡ layer_line_of (layer_of t n j) → layer_of t m k ≡ layer_of t n j
line_tells t m n k j a b f g e =
    let spent : m ≡ n = spent_determined t m n a b (ap (λ (x : LayerLine). x.deductible) e)
    (ap (λ (x : LayerLine). x.cover) e) in
    let timed : k ≡ j = timed_determined t m k j f (subst (λ (x : ℕ). j ≤ timed_most t x) (sym spent) g)
    (ap (λ (x : LayerLine). x.premium) e ∙ ap (λ (x : ℕ). year_premium (layer_of t x j)) (sym spent)) in
    λ i. layer_of t (spent i) (timed i)

-- so layers with the same terms and the same line are the same
same-layer : (y : Layer) (t : Terms) → y.terms ≡ t → (n j : ℕ) → WithinCap y → n ≤ cap_of t → WithinPremium y
    → j ≤ timed_most t n → layer_line_of y ≡ layer_line_of (layer_of t n j) → y ≡ layer_of t n j
same-layer y t e n j =
    subst
    (λ (t : Terms). WithinCap y → n ≤ cap_of t → WithinPremium y → j ≤ timed_most t n
    → layer_line_of y ≡ layer_line_of (layer_of t n j) → y ≡ layer_of t n j)
    e (line_tells y.terms y.spent.0 n y.timed.0 j)

lines_tell : (ts : List Terms) (ls ms : List Layer) → Carries ts ls → Carries ts ms
    → map layer_line_of ls ≡ map layer_line_of ms → ls ≡ ms
lines_tell ts ls ms a b = go ls ms (a.terms ∙ sym b.terms) a.spent b.spent a.timed b.timed
  where
    go : (ls ms : List Layer) → terms_in ls ≡ terms_in ms → Each WithinCap ls → Each WithinCap ms
        → Each WithinPremium ls → Each WithinPremium ms → map layer_line_of ls ≡ map layer_line_of ms → ls ≡ ms
    go [] [] t a b f g e = refl
    go [] (m ∷ ms) t a b f g e = let z : ◌≡◌ {A = ℕ} 0 1 = cc in absurd (omega arith)
    go (l ∷ ls) [] t a b f g e = let z : ◌≡◌ {A = ℕ} 0 1 = cc in absurd (omega arith)
    go (l ∷ ls) (m ∷ ms) t a b f g e =
        let terms : l.terms ≡ m.terms = cc in
        let others : terms_in ls ≡ terms_in ms = cc in
        let line : layer_line_of l ≡ layer_line_of m = cc in
        let rest : map layer_line_of ls ≡ map layer_line_of ms = cc in
        ap₂ ◌∷◌ (same-layer l m.terms terms m.spent.0 m.timed.0 a.0 b.0 f.0 g.0 line)
        (go ls ms others a.1 b.1 f.1 g.1 rest)

-- an amount that each layer holds, of ledgers with the same layers
same-amounts : (held : Layer → ℕ) (l m : Ledger) → cut_year l ≡ cut_year m → (n : TierName)
    → map (λ (e : Entry). held (cut e)) (in_tier n l) ≡ map (λ (e : Entry). held (cut e)) (in_tier n m)
same-amounts held l m e n = by-tier n
  where
    tier : (es fs : List Entry) → cuts es ≡ cuts fs
        → map (λ (e : Entry). held (cut e)) es ≡ map (λ (e : Entry). held (cut e)) fs
    tier es fs q = sym (map-map held cut es) ∙ ap (map held) q ∙ map-map held cut fs

    by-tier : (n : TierName)
        → map (λ (e : Entry). held (cut e)) (in_tier n l) ≡ map (λ (e : Entry). held (cut e)) (in_tier n m)
    by-tier risk = tier l.risk m.risk (ap (λ (y : Year). y.risk) e)
    by-tier cat = tier l.cat m.cat (ap (λ (y : Year). y.cat) e)

-- what is written at the front of a buffer
same-written : (t u : Statement) (s r : Standing) (d : List ℕ)
    → reply_of (accepted t s) d ∷ [] ≡ reply_of (accepted u r) d ∷ [] → statement_text t ≡ statement_text u
same-written t u s r d e =
    let q : reply_of (accepted t s) d ≡ reply_of (accepted u r) d = cc in
    same-front (statement_text t) (statement_text u) (drop (length (statement_text t)) d)
    (drop (length (statement_text u)) d) (ap (λ (a : Reply). a.answer.number) q) (ap (λ (a : Reply). a.buffer) q)

module _ (shares : List ℕ) (p : Programme) where
  module _ (v : runnable shares p ≡ true) where
    -- what a run without events shows after the events es
    abbrev shown : List Event → Statement
    shown es = statement_of shares (contracts_in p).treaties (year_by shares p es) []

    shown-short : (es : List Event) → length (statement_text (shown es)) ≤ 32768
    shown-short es =
        let c = contracts_in p in
        let g = valid-lawful p (runs-valid shares p v) in
        let u = year-under shares p v es in
        no-events-short shares c.treaties (year_by shares p es) (at-most-eight c g)
        (passed-numbers 0 c.treaties g.treaties)
        (rw (carries-length c.risk (year_by shares p es).risk u.risk) g.few-risk)
        (rw (carries-length c.cat (year_by shares p es).cat u.cat) g.few-cat)
        (carries-sound c.risk (year_by shares p es).risk g.risk u.risk)
        (carries-sound c.cat (year_by shares p es).cat g.cat u.cat)

    -- an empty events text is accepted
    after : List Call → Standing
    after g = standing_from shares (contracts_in p) (standing_of_history shares p g) []

    empty-run : (g : List Call) (room : ℕ) → length (statement_text (shown (events_of_history shares p g))) ≤ room
        → run_under shares p (standing_of_history shares p g) [] room
        ≡ accepted (shown (events_of_history shares p g)) (after g)
    unfolding after
    empty-run g room r =
        let ts = (contracts_in p).treaties in
        let first = year-from shares p g v in
        later-accepted shares p g (runs-valid shares p v) (runs-scale shares p v) [] room []
        (read_none ts (ends_on shares p g))
        (subst (λ (y : Year). length (statement_text (statement_of shares ts y [])) ≤ room) (sym first) r)
        ∙ ap
        (λ (y : Year).
        accepted (statement_of shares ts y []) (standing_from shares (contracts_in p) (standing_of_history shares p g) []))
        first

    -- so it tells the layers
    shown_tells : (es fs : List Event) → statement_text (shown es) ≡ statement_text (shown fs)
        → year_by shares p es ≡ year_by shares p fs
    shown_tells es fs e =
        let c = contracts_in p in
        let same = statements_tell (shown es) (shown fs) e in
        let u = year-under shares p v es in
        let w = year-under shares p v fs in
        let risk = lines_tell c.risk (year_by shares p es).risk (year_by shares p fs).risk u.risk w.risk
        (ap (λ (t : Statement). t.layers.risk) same) in
        let cat = lines_tell c.cat (year_by shares p es).cat (year_by shares p fs).cat u.cat w.cat
        (ap (λ (t : Statement). t.layers.cat) same) in
        λ i. record { risk = risk i; cat = cat i }

    alike_tells : (h k : List Call) → AlikeIfReal shares p h k → SameSpent shares p h k × SameTimed shares p h k
    alike_tells h k alike = (
      same-amounts (λ (y : Layer). y.spent.0) (ledger_of_history shares p h) (ledger_of_history shares p k) years,
      same-amounts (λ (y : Layer). y.timed.0) (ledger_of_history shares p h) (ledger_of_history shares p k) years,
    )
      where
        es : List Event
        es = events_of_history shares p h

        fs : List Event
        fs = events_of_history shares p k

        size : ℕ
        size = length (statement_text (shown es)) + length (statement_text (shown fs))

        call : Call
        call = record { text = []; buffer = replicate size 0 }

        room : length call.buffer ≡ size
        room = length-replicate size 0

        replied : (g : List Call) → length (statement_text (shown (events_of_history shares p g))) ≤ size
            → replies_after shares p g (call ∷ [])
            ≡ reply_of (accepted (shown (events_of_history shares p g)) (after g)) call.buffer ∷ []
        replied g r =
            ap (λ (o : Outcome Left). reply_of o call.buffer ∷ []) (empty-run g (length call.buffer) (rw room r))

        real : Real call
        real = record {
          text = tt;
          buffer = each-replicate Byte 0 (lit< tt) size;
          size = omega (arith, room, shown-short es, shown-short fs);
        }

        same : statement_text (shown es) ≡ statement_text (shown fs)
        same =
            same-written (shown es) (shown fs) (after h) (after k) call.buffer
            (sym (replied h (omega arith)) ∙ alike (call ∷ []) (real, tt) ∙ replied k (omega arith))

        years : year_by shares p es ≡ year_by shares p fs
        years = shown_tells es fs same

  -- From answers to amounts it is enough that the later lists can be made; from amounts to answers it holds of all.
  pub equal_histories : (h k : List Call) → ends_on shares p h ≡ ends_on shares p k
      → (AlikeIfReal shares p h k → SameSpent shares p h k × SameTimed shares p h k)
      × (SameSpent shares p h k × SameTimed shares p h k → Alike shares p h k)
  equal_histories h k d = (
    λ alike. by_test (runnable shares p) (λ v. alike_tells (sym v) h k alike) (λ v. nothing (sym v)),
    λ same cs. ap (λ (s : Standing). replies_in shares p s cs)
        (standing-told shares p h ∙ standings same.0 same.1 ∙ sym (standing-told shares p k)),
  )
    where
      nothing : runnable shares p ≡ false → SameSpent shares p h k × SameTimed shares p h k
      nothing f =
          let none = ((stands shares p h).none f).1 ∙ sym ((stands shares p k).none f).1 in (
            λ n. ap (λ (es : List Event). spent_in (in_tier n (books shares (contracts_in p) es))) none,
            λ n. ap (λ (es : List Event). timed_in (in_tier n (books shares (contracts_in p) es))) none,
          )

      standings : SameSpent shares p h k → SameTimed shares p h k
          → standing_told (ledger_of_history shares p h) (ends_on shares p h)
          ≡ standing_told (ledger_of_history shares p k) (ends_on shares p k)
      standings spent timed = λ i. record {
        risk = in_places 0 (take 8 (spent risk i));
        cat = in_places 0 (take 8 (spent cat i));
        day = d i;
        risk_timed = in_places 0 (take 8 (timed risk i));
        cat_timed = in_places 0 (take 8 (timed cat i));
      }
