-- An event through lent contracts: what the treaties leave of its losses goes through the risk layers, and what these
-- leave of all, as one subject, through the catastrophe layers.
-- Assumes nothing.
use mathlib.Core.Path.{◌≡◌, refl, sym, ap, ◌∙◌}
use mathlib.Core.List.{List, [], ◌∷◌, ◌++◌}
use Prim.Native.Nat.{ℕ, ◌+◌, ◌-◌, ◌*◌, ◌^◌, ◌≤◌}
use native.Mathlib.Nat.{add-zero}
use native.Mathlib.Omega.{arith}
use lib.ListN.{length, replicate, take}
use lib.Seq.{sets, take_at}
use mir.Syntax.{w64}
use mir.Val.{Fits}
use Rattle.lists.specs.Each.{Each}
use Rattle.lists.specs.Places.{in_places}
use Rattle.text.specs.Buffer.{Put}
use Rattle.text.proofs.Puts.{put_whole}
use Rattle.treaty.specs.declared.Treaty.{Treaty}
use Rattle.treaty.specs.declared.Loss.{Loss}
use Rattle.treaty.specs.Losses.{left_of_each}
use Rattle.layer.specs.declared.record.Sums.{Sums}
use Rattle.layer.specs.Layer.{sums_of}
use Rattle.layer.specs.declared.record.Layer.{Layer}
use Rattle.layer.specs.declared.terms.Terms.{Terms}
use Rattle.layer.specs.Tier.{recoveries_by, layers_on, layers_through, recoveries_through, dues_through}
use Rattle.layer.proofs.Tiers.{recoveries-le-subject}
use Rattle.scale.specs.Scale.{share_on, Fair}
use Rattle.scale.proofs.Passing.{over-none, fair-on}
use Rattle.programme.specs.Contract.{Contracts}
use Rattle.events.specs.Event.{Event}
use Rattle.year.specs.declared.Amounts.{Amounts}
use Rattle.year.specs.Event.{Year, left_by_treaties, subject_of, event_after, event_amounts}
use Rattle.year.specs.Statement.{amounts_numbers}
use Rattle.year.specs.declared.Standing.{Standing}
use Rattle.year.specs.Standing.{spent_of, timed_of, layers_with, year_of}
use Rattle.standings.specs.Tier.{CanBear}
use Rattle.standings.proofs.Loads.{with_length}
use Rattle.standings.proofs.LentTiers.{bears_sound, bears_rising, loaded-after, still_bears}
use Rattle.losses.specs.declared.event.ByTreaties.{ByTreaties}
use Rattle.losses.specs.Cede.{losses_from, AfterTreaties}
use Rattle.losses.proofs.RegisteredTreaties.{cedes}
use Rattle.losses.proofs.Added.{added-length, added-le}
use Rattle.booking.specs.declared.basis.Basis.{Basis}
use Rattle.booking.specs.Book.{contracts_from, Lent, CanEnterEvent, EventEntered}
use Rattle.booking.proofs.EventBounds.{RisingLayers, Bookable, subject-is, amounts-le}

-- something is left of each loss
left-count : (ts : List Treaty) (earlier xs : List Loss) → length (left_of_each ts earlier xs) ≡ length xs
left-count ts earlier [] = refl
left-count ts earlier (x ∷ xs) = omega (arith, left-count ts (earlier ++ (x ∷ [])) xs)

-- What is left of each of k losses stands at the front of l, which had 64 noughts.
module _ (ts : List Treaty) (xs : List Loss) {l : List ℕ} {k : ℕ} (many : k ≡ length xs) (few : length xs ≤ 64)
    (stored : l ≡ sets (replicate 64 0) 0 (left_of_each ts [] xs)) where
  abbrev left : List ℕ
  left = left_of_each ts [] xs

  lefts_are : take k l ≡ left
  lefts_are =
      let put : Put (replicate 64 0) 0 left l (0 + length left) = record { place = refl; bytes = stored } in
      rw (put_whole (omega (arith, left-count ts [] xs, few)) put)
      (take_at left _ k (left-count ts [] xs ∙ sym many))

-- layers that a year may have
tier-rises : {ts : List Terms} {ms ns : List ℕ} → CanBear ts ms ns → RisingLayers (layers_with ts ms ns)
tier-rises {ts} {ms} {ns} b = record {
  few = omega (arith, with_length ts ms ns, b.few);
  each = bears_sound b;
  rising = bears_rising b;
}

-- what layers recover of the amounts xs, and what premium is due, on a day of some share
abbrev sums_from : (share : ℕ) → List Layer → (xs : List ℕ) → Sums
sums_from share ls xs = sums_of share (recoveries_through xs ls) (dues_through share xs ls)

-- An event that may be entered.
module _ {b : Basis} {ls : List ℕ} {s : Standing} {cs : List ℕ} (h : CanEnterEvent b ls s cs) (day : ℕ) where
  abbrev c : Contracts
  c = contracts_from b

  abbrev y : Year
  y = year_of c s

  abbrev xs : List Loss
  xs = losses_from ls

  abbrev e : Event
  e = record { day = day; losses = xs }

  fair-shares : Fair b.shares.now
  fair-shares = over-none b.shares.now b.fair

  fair : share_on b.shares.now day ≤ 10000
  fair = fair-on b.shares.now fair-shares day

  -- the share that was found
  pub found-fair : {share : ℕ} → share ≡ share_on b.shares.now day → share ≤ 10000
  found-fair on = rw on fair

  bookable : Bookable c.treaties y e
  bookable = record {
    cedes = cedes b.registered;
    risk = tier-rises h.lent.risk;
    cat = tier-rises h.lent.cat;
    losses = h.losses;
    few = h.few;
  }

  -- Its losses went through their treaties.
  module _ {t : ByTreaties} {cs' l : List ℕ} (a : AfterTreaties c.treaties xs cs cs' t)
      (stored : l ≡ sets (replicate 64 0) 0 (left_by_treaties c.treaties e)) {k : ℕ} (many : k ≡ length xs)
      {share : ℕ} (on : share ≡ share_on b.shares.now day) where
    -- the amounts left
    abbrev lefts : List ℕ
    lefts = take k l

    lefts-left : lefts ≡ left_by_treaties c.treaties e
    lefts-left = lefts_are c.treaties xs many h.few stored

    gross-parts : t.gross
        ≡ t.ceded + (recoveries_through lefts y.risk + subject_of c.treaties y e)
    gross-parts = rw (a.gross, a.ceded, lefts-left) (subject-is c.treaties y e bookable)

    pub ceded-le : t.ceded ≤ t.gross
    ceded-le = omega (arith, gross-parts)

    -- They went through the risk layers, which recover m of them.
    module _ {z : Sums} (by-risk : z ≡ sums_from share y.risk lefts) {m : ℕ} (is_m : m ≡ z.recovered.0) where
      recovered-risk : m ≡ recoveries_through lefts y.risk
      recovered-risk = rw (is_m, by-risk)

      pub by-risk-le : m ≤ t.gross - t.ceded
      by-risk-le = omega (arith, gross-parts, recovered-risk)

      -- the subject of the catastrophe layers
      abbrev subject : ℕ
      subject = t.gross - t.ceded - m

      subject-left : subject ≡ subject_of c.treaties y e
      subject-left = omega (arith, gross-parts, recovered-risk)

      -- It went through them, and they recover n of it.
      module _ {z' : Sums} (by-cat : z' ≡ sums_from share y.cat (subject ∷ [])) {n : ℕ} (is-n : n ≡ z'.recovered.0)
        where
          recovered-cat : n ≡ recoveries_by (subject_of c.treaties y e) y.cat
          recovered-cat = rw (is-n, by-cat, ← subject-left) (add-zero _)

          pub by-cat-le : n ≤ subject
          by-cat-le =
              let tier = tier-rises h.lent.cat in
              let within = recoveries-le-subject (subject_of c.treaties y e) y.cat tier.each tier.rising in
              omega (arith, within, recovered-cat, subject-left)

          -- The premiums are u and v.
          module _ {u v : ℕ} (is-u : u ≡ z.premium.0) (is-v : v ≡ z'.premium.0) where
            premiums : u + v ≡ (event_amounts b.shares.now c.treaties y e).premium
            premiums = rw (is-u, is-v, by-risk, by-cat, lefts-left, ← subject-left, add-zero, on)

            pub premium-fits : Fits w64 (u + v)
            premium-fits = omega (arith, premiums, amounts-le c.treaties y e bookable b.shares.now fair-shares)

            -- what the standing holds of the layers is stored
            pub as_entered : {ms ns ms' ns' : List ℕ}
                → ms ≡ in_places 0 (spent_of (layers_through share lefts y.risk))
                → ns ≡ in_places 0 (timed_of (layers_through share lefts y.risk))
                → ms' ≡ in_places 0 (spent_of (layers_through share (subject ∷ []) y.cat))
                → ns' ≡ in_places 0 (timed_of (layers_through share (subject ∷ []) y.cat))
                → EventEntered b s e
                (record { risk = ms; cat = ms'; day = s.day; risk_timed = ns; cat_timed = ns' }) cs cs'
                (record {
                  gross = t.gross;
                  ceded = t.ceded;
                  risk = m;
                  cat = n;
                  net = subject - n;
                  premium = u + v;
                })
            as_entered risk-spent risk-timed cat-spent cat-timed =
                let risk-after : layers_through share lefts y.risk ≡ (event_after b.shares.now c.treaties y e).risk =
                λ j. layers_through (on j) (lefts-left j) y.risk in
                let cat-after : layers_through share (subject ∷ []) y.cat ≡ (event_after b.shares.now c.treaties y e).cat =
                λ j. layers_on (on j) (subject-left j) y.cat in
                record {
                  amounts = λ j. record {
                    gross = a.gross j;
                    ceded = a.ceded j;
                    risk = (recovered-risk ∙ ap (λ (l : List ℕ). recoveries_through l y.risk) lefts-left) j;
                    cat = recovered-cat j;
                    net = subject-left j - recovered-cat j;
                    premium = premiums j;
                  };
                  standing = λ j. record {
                    risk = (risk-spent ∙ ap (λ (l : List Layer). in_places 0 (spent_of l)) risk-after) j;
                    cat = (cat-spent ∙ ap (λ (l : List Layer). in_places 0 (spent_of l)) cat-after) j;
                    day = s.day;
                    risk_timed = (risk-timed ∙ ap (λ (l : List Layer). in_places 0 (timed_of l)) risk-after) j;
                    cat_timed = (cat-timed ∙ ap (λ (l : List Layer). in_places 0 (timed_of l)) cat-after) j;
                  };
                  cessions = a.cessions;
                }

  -- It was entered, and came to r.
  module _ {s' : Standing} {cs' : List ℕ} {r : Amounts} (entered : EventEntered b s e s' cs cs' r) where
    -- the year of the standing after it is the year after it
    pub entered-year : year_of c s' ≡ event_after b.shares.now c.treaties y e
    entered-year =
        let by-risk = loaded-after h.lent.risk (share_on b.shares.now day) fair (left_by_treaties c.treaties e) in
        let by-cat = loaded-after h.lent.cat (share_on b.shares.now day) fair (subject_of c.treaties y e ∷ []) in
        ap (year_of c) entered.standing ∙ (λ j. record { risk = by-risk j; cat = by-cat j })

    -- and the contracts may have that standing
    pub entered-lent : Lent b s'
    entered-lent = rw entered.standing record {
      risk = still_bears h.lent.risk (share_on b.shares.now day) fair (left_by_treaties c.treaties e);
      cat = still_bears h.lent.cat (share_on b.shares.now day) fair (subject_of c.treaties y e ∷ []);
    }

    -- each of its amounts is at most 64 × 10^13
    pub entered-amounts-le : Each (λ (n : ℕ). n ≤ 64 * 10 ^ 13) (amounts_numbers r)
    entered-amounts-le = rw entered.amounts (amounts-le c.treaties y e bookable b.shares.now fair-shares)

    -- each number T still has its place
    pub entered-nine : length cs' ≡ 9
    entered-nine = rw entered.cessions (added-length c.treaties [] cs xs ∙ h.nine)

    -- whose amount gained at most 10^13 a loss
    pub entered-cessions-le : (most : ℕ) → Each (λ (n : ℕ). n ≤ most) cs
        → Each (λ (n : ℕ). n ≤ most + 10 ^ 13 * length xs) cs'
    entered-cessions-le most w =
        rw entered.cessions (added-le c.treaties (cedes b.registered) most [] cs xs w h.losses)
