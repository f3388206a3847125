-- The parts of a statement, put one after another, are its text.
-- Assumes nothing.
use mathlib.Core.Path.{◌≡◌, refl, sym, ap, ◌∙◌, subst}
use mathlib.Core.List.{List, [], ◌∷◌, ◌++◌, map, map-append, append_assoc}
use Prim.Native.Nat.{ℕ, zero, suc, ◌+◌, ◌*◌, ◌^◌, ◌≤◌, ◌<◌}
use native.Mathlib.Nat.{add-zero}
use native.Mathlib.Omega.{arith}
use lib.ListN.{length, get_or, replicate}
use Rattle.lists.specs.Each.{Each}
use Rattle.text.specs.Buffer.{Put}
use Rattle.text.specs.Lines.{joined}
use Rattle.text.specs.Template.{filled}
use Rattle.text.proofs.Feeds.{joined-append}
use Rattle.text.proofs.Pieces.{filled-append}
use Rattle.text.proofs.Puts.{put-append}
use Rattle.treaty.specs.declared.Treaty.{Treaty}
use Rattle.treaty.proofs.Losses.{Numbered}
use Rattle.layer.specs.Ranges.{Sound}
use Rattle.programme.specs.Contract.{Contracts}
use Rattle.events.specs.Event.{Event}
use Rattle.year.specs.declared.Amounts.{Amounts}
use Rattle.year.specs.declared.Standing.{Standing}
use Rattle.year.specs.Event.{Year}
use Rattle.year.specs.Standing.{layers_with, year_of}
use Rattle.year.specs.Statement.{TreatyLine, Line, Statement, ceded_by, treaty_line_of, layer_line_of, statement_of}
use Rattle.year.specs.Statement.{event_shown, treaty_shown, layers_shown, line_text, statement_text}
use Rattle.year.specs.Statement.{risk_template, cat_template, total_template, amounts_numbers}
use Rattle.standings.proofs.LentTiers.{bears_sound}
use Rattle.losses.specs.Cede.{ceded_added}
use Rattle.losses.specs.Treaties.{treaties_from}
use Rattle.losses.specs.Event.{events_numbers}
use Rattle.losses.proofs.Added.{added-length, added-at}
use Rattle.losses.proofs.RegisteredTreaties.{numbers-le, numbers-below, rising}
use Rattle.statement.specs.TreatyLines.{ceded_line}
use Rattle.booking.specs.declared.basis.Basis.{Basis}
use Rattle.booking.specs.declared.book.Booked.{Booked}
use Rattle.booking.specs.Book.{contracts_from, CanBookEvents, ceded_through, EventsBooked, year_then}
use Rattle.booking.proofs.EventsBooking.{room-le}
use Rattle.engine.specs.Run.{CanState, StatedAs}

through-length : (ts : List Treaty) (cs : List ℕ) (es : List Event) → length (ceded_through ts cs es) ≡ length cs
through-length ts cs [] = refl
through-length ts cs (e ∷ es) =
    through-length ts (ceded_added ts [] cs e.losses) es ∙ added-length ts [] cs e.losses

-- amounts of 0 hold 0 in every place
zero-at : (k i : ℕ) → get_or {A = ℕ} (replicate k 0) i 0 ≡ 0
zero-at zero i = refl
zero-at (suc k) zero = refl
zero-at (suc k) (suc i) = zero-at k i

-- a treaty's place gains what it cedes of the events
through-at : (n : ℕ) (before : List Treaty) (t : Treaty) (after : List Treaty) → Numbered n (before ++ (t ∷ after))
    → (cs : List ℕ) (es : List Event) → t.number < length cs
    → get_or (ceded_through (before ++ (t ∷ after)) cs es) t.number 0 ≡ get_or cs t.number 0 + ceded_by es t
through-at n before t after r cs [] h = sym (add-zero _)
through-at n before t after r cs (e ∷ es) h =
    let longer = added-length (before ++ (t ∷ after)) [] cs e.losses in
    omega (
      arith,
      through-at n before t after r (ceded_added (before ++ (t ∷ after)) [] cs e.losses) es (omega arith),
      added-at n before t after r cs e.losses h,
    )

-- so the treaties' lines are those of the statement
module _ (n : ℕ) (es : List Event) where
  lines_from : (before after : List Treaty) → Numbered n (before ++ after) → Each (λ (t : Treaty). t.number ≤ 8) after
      → map (ceded_line (ceded_through (before ++ after) (replicate 9 0) es)) after ≡ map (treaty_line_of es) after
  lines_from before [] r z = refl
  lines_from before (t ∷ after) r z =
      let shifted = append_assoc before (t ∷ []) after in
      let more =
      subst
      (λ (ts : List Treaty). map (ceded_line (ceded_through ts (replicate 9 0) es)) after ≡ map (treaty_line_of es) after)
      shifted (lines_from (before ++ (t ∷ [])) after (rw shifted r) z.1) in
      let own = through-at n before t after r (replicate 9 0) es (omega (arith, z.0)) in
      let amount : get_or (ceded_through (before ++ (t ∷ after)) (replicate 9 0) es) t.number 0 ≡ ceded_by es t =
      omega (arith, own, zero-at 9 t.number) in
      λ i. record { number = t.number; ceded = amount i } ∷ more i

  treaty-lines : (ts : List Treaty) → Numbered n ts → Each (λ (t : Treaty). t.number ≤ 8) ts
      → map (ceded_line (ceded_through ts (replicate 9 0) es)) ts ≡ map (treaty_line_of es) ts
  treaty-lines ts r z = lines_from [] ts r z

-- the bytes of some lines
abbrev bytes_of : List Line → List ℕ
bytes_of ls = joined (map line_text ls)

bytes-append : (ls ms : List Line) → bytes_of (ls ++ ms) ≡ bytes_of ls ++ bytes_of ms
bytes-append ls ms = ap joined (map-append line_text ls ms) ∙ joined-append (map line_text ls) (map line_text ms)

-- a statement's, kind by kind
parts : (t : Statement) → statement_text t
    ≡ bytes_of (map event_shown t.events)
    ++ (bytes_of (map treaty_shown t.treaties)
    ++ (bytes_of (layers_shown risk_template 1 t.layers.risk)
    ++ (bytes_of (layers_shown cat_template 1 t.layers.cat)
    ++ filled total_template (amounts_numbers t.total) (10 ∷ []))))
unfolding statement_text
parts t =
    rw (
      bytes-append (map event_shown t.events) _,
      bytes-append (map treaty_shown t.treaties) _,
      bytes-append (layers_shown risk_template 1 t.layers.risk) _,
      bytes-append (layers_shown cat_template 1 t.layers.cat) _,
      filled-append total_template (amounts_numbers t.total) (10 ∷ []),
    )

-- events may be booked from there on
pub can_book : {b : Basis} {s : Standing} {ns : List ℕ} → CanState b s ns → CanBookEvents b ns s (replicate 9 0)
can_book h = record {
  lent = h.lent;
  es = h.es;
  held = h.held;
  losses = h.losses;
  few = h.few;
  short = h.short;
  cessions = refl;
}

-- The events es were booked, and what is left of the statement is put.
module _ {b : Basis} {s : Standing} {ns : List ℕ} (h : CanState b s ns) (es : List Event) (q : ns ≡ events_numbers es)
    {d d₁ : List ℕ} {s' : Standing} {cs : List ℕ} {r : Booked} (booked : EventsBooked b s es d d₁ s' cs r) where
  abbrev c : Contracts
  c = contracts_from b

  abbrev y : Year
  y = year_then b s es

  next_small : r.next ≤ 650332
  next_small = omega (arith, booked.room, room-le es, ap length q, h.short)

  nine : length cs ≡ 9
  nine = ap length booked.cessions ∙ through-length c.treaties (replicate 9 0) es

  -- what each part takes, the place before it at most so far from the one before
  pub for_treaties : (r.next < 2 ^ 40) × (length b.register.now ≡ 9)
      × Each (λ (t : Treaty). t.number < length cs) b.register.now
  for_treaties = (omega (arith, next_small), b.registered.size, rw nine (numbers-below b.registered))

  pub for_risk : (i : ℕ) → i ≤ r.next + 1800
      → (i < 2 ^ 40) × (length b.risk.now ≤ 8) × (length s'.risk ≡ 8) × (length s'.risk_timed ≡ 8)
      × Each Sound (layers_with b.risk.now s'.risk s'.risk_timed)
  for_risk i u =
      let tier = booked.lent.risk in
      (omega (arith, next_small), tier.few, tier.spent-places, tier.timed-places, bears_sound tier)

  pub for_cat : (i j : ℕ) → i ≤ r.next + 1800 → j ≤ i + 200 * length b.risk.now
      → (j < 2 ^ 40) × (length b.cat.now ≤ 8) × (length s'.cat ≡ 8) × (length s'.cat_timed ≡ 8)
      × Each Sound (layers_with b.cat.now s'.cat s'.cat_timed)
  for_cat i j u v =
      let tier = booked.lent.cat in
      (omega (arith, next_small, h.lent.risk.few), tier.few, tier.spent-places, tier.timed-places, bears_sound tier)

  pub for_total : (i j k : ℕ) → i ≤ r.next + 1800 → j ≤ i + 200 * length b.risk.now
      → k ≤ j + 200 * length b.cat.now → k < 2 ^ 41
  for_total i j k u v w = omega (arith, next_small, h.lent.risk.few, h.lent.cat.few)

  module _ {d₂ d₃ d₄ d₅ : List ℕ} {i j k end : ℕ}
      (treaties : Put d₁ r.next
      (bytes_of (map treaty_shown (map (ceded_line cs) (treaties_from b.register.now)))) d₂ i)
      (risks : Put d₂ i
      (bytes_of (layers_shown risk_template 1 (map layer_line_of (layers_with b.risk.now s'.risk s'.risk_timed)))) d₃ j)
      (cats : Put d₃ j
      (bytes_of (layers_shown cat_template 1 (map layer_line_of (layers_with b.cat.now s'.cat s'.cat_timed)))) d₄ k)
      (total : Put d₄ k (filled total_template (amounts_numbers r.total) (10 ∷ [])) d₅ end) where
    abbrev shown : Statement
    shown = statement_of b.shares.now c.treaties (year_of c s) es

    all-put : Put d 0 (statement_text shown) d₅ end
    all-put =
        let own =
        ap (λ (ls : List TreatyLine). bytes_of (map treaty_shown ls))
        (ap (λ (zs : List ℕ). map (ceded_line zs) c.treaties) booked.cessions
        ∙ treaty-lines 0 es c.treaties (rising b.registered) (numbers-le b.registered)) in
        let of_risk =
        ap (λ (z : Year). bytes_of (layers_shown risk_template 1 (map layer_line_of z.risk))) booked.year in
        let of_cat = ap (λ (z : Year). bytes_of (layers_shown cat_template 1 (map layer_line_of z.cat))) booked.year in
        let of_all = ap (λ (a : Amounts). filled total_template (amounts_numbers a) (10 ∷ [])) booked.total in
        rw (parts shown)
        (put-append booked.lines
        (put-append (rw own at treaties)
        (put-append (rw of_risk at risks) (put-append (rw of_cat at cats) (rw of_all at total)))))

    pub stated : i ≤ r.next + 1800 → j ≤ i + 200 * length b.risk.now → k ≤ j + 200 * length b.cat.now → end ≤ k + 200
        → StatedAs b s es d d₅ s' end
    stated u v w x = record { text = all-put; standing = booked.standing; room = omega (arith, booked.room) }
