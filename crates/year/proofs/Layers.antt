-- The layers of a year under a programme's contracts: their terms, and what they hold in the year, which amounts and
-- events keep within its bounds and which a standing holds in its places.
-- Assumes nothing.
use mathlib.Core.Path.{◌≡◌, refl, ap, ◌∙◌, sym}
use mathlib.Core.Bool.{Bool, true, ◌&&◌}
use mathlib.Core.List.{List, [], ◌∷◌, ◌++◌, map, map-map}
use Prim.Native.Nat.{ℕ, ◌-◌, ◌≤◌}
use borrow.Author.Tests.{leb-true, le-leb}
use lib.Dec.{eqb, leb}
use lib.ListN.{length, drop, replicate, length-map}
use Rattle.lists.specs.Each.{Each}
use Rattle.lists.specs.Chains.{chained, every}
use Rattle.lists.specs.Places.{in_places}
use Rattle.lists.proofs.Chains.{both}
use Rattle.lists.proofs.Each.{each_so, each-every}
use Rattle.lists.proofs.Places.{rest-unused}
use Rattle.layer.specs.declared.terms.Terms.{Terms}
use Rattle.layer.specs.declared.record.Layer.{Layer}
use Rattle.layer.specs.Layer.{cap_of, timed_most, after_subject, subject_on}
use Rattle.layer.specs.Tier.{layers_after, layers_on, layers_through}
use Rattle.layer.specs.Ranges.{Sound, Rising}
use Rattle.layer.proofs.Tiers.{each_after, each_on}
use Rattle.scale.specs.Scale.{share_on, Fair}
use Rattle.scale.proofs.Passing.{fair-on}
use Rattle.programme.specs.Contract.{Contracts}
use Rattle.programme.specs.Rules.{band_end}
use Rattle.programme.specs.Valid.{layer_passes}
use Rattle.programme.proofs.Bounds.{terms_in_range}
use Rattle.programme.proofs.Lawful.{Lawful, layer-passed}
use Rattle.events.specs.Event.{Event}
use Rattle.year.specs.declared.Standing.{Standing}
use Rattle.year.specs.Event.{Year, left_by_treaties, subject_of, event_after, year_after}
use Rattle.year.specs.Standing.{spent_of, timed_of, standing_of, layers_with, year_of, within_cap, within_premium}
use Rattle.year.specs.Standing.{tier_passes, standing_passes}

-- the terms of layers
abbrev pub terms_in : List Layer → List Terms
terms_in ls = map (λ (y : Layer). y.terms) ls

-- no more spent than the cap
abbrev pub WithinCap : Layer → Type 0
WithinCap y = y.spent.0 ≤ cap_of y.terms

-- no more timed premium than the year's amount premium, and none without (time)
abbrev pub WithinPremium : Layer → Type 0
WithinPremium y = y.timed.0 ≤ timed_most y.terms y.spent.0

-- layers with the terms ts, none of them spent above its cap or charged above its amount premium
pub record Carries (ts : List Terms) (ls : List Layer) : Type 0 where
  pub terms : terms_in ls ≡ ts
  pub spent : Each WithinCap ls
  pub timed : Each WithinPremium ls

-- a year of contracts
pub record Under (c : Contracts) (y : Year) : Type 0 where
  pub risk : Carries c.risk y.risk
  pub cat : Carries c.cat y.cat

-- the number of layers is the contracts'
pub carries-length : (ts : List Terms) (ls : List Layer) → Carries ts ls → length ls ≡ length ts
carries-length ts ls c = rw (← c.terms, length-map)

-- layers whose terms pass after the end of band n
sound-from : (n : ℕ) (ls : List Layer) → chained layer_passes band_end n (terms_in ls) ≡ true → Each WithinCap ls
    → Each WithinPremium ls → Each Sound ls
sound-from n [] e s p = tt
sound-from n (y ∷ ls) e s p =
    let f = both (layer_passes n y.terms) (chained layer_passes band_end (band_end y.terms) (terms_in ls)) e in
    let q = layer-passed n y.terms f.0 in (
      record { terms = terms_in_range y.terms q.0; spent = s.0; timed = p.0 },
      sound-from (band_end y.terms) ls f.1 s.1 p.1,
    )

rising-from : (n : ℕ) (ls : List Layer) → chained layer_passes band_end n (terms_in ls) ≡ true → Rising n ls
rising-from n [] e = tt
rising-from n (y ∷ ls) e =
    let f = both (layer_passes n y.terms) (chained layer_passes band_end (band_end y.terms) (terms_in ls)) e in
    ((layer-passed n y.terms f.0).1, rising-from (band_end y.terms) ls f.1)

-- layers of terms that pass are sound
pub carries-sound : (ts : List Terms) (ls : List Layer) → chained layer_passes band_end 0 ts ≡ true → Carries ts ls
    → Each Sound ls
carries-sound ts ls e c = sound-from 0 ls (rw c.terms e) c.spent c.timed

-- and their bands rise
pub carries-rising : (ts : List Terms) (ls : List Layer) → chained layer_passes band_end 0 ts ≡ true → Carries ts ls
    → Rising 0 ls
carries-rising ts ls e c = rising-from 0 ls (rw c.terms e)

-- sound layers are within their caps and their amount premiums
sound-carries : (ts : List Terms) (ls : List Layer) → terms_in ls ≡ ts → Each Sound ls → Carries ts ls
sound-carries ts ls e s = record {
  terms = e;
  spent = each_so Sound WithinCap (λ y h. h.spent) ls s;
  timed = each_so Sound WithinPremium (λ y h. h.timed) ls s;
}

module _ (ts : List Terms) (passes : chained layer_passes band_end 0 ts ≡ true) where
  -- a subject leaves the terms and keeps within the caps and the amount premiums
  pub carries-after : (ls : List Layer) (x : ℕ) → Carries ts ls → Carries ts (layers_after x ls)
  carries-after ls x c =
      sound-carries ts (layers_after x ls) (map-map _ (after_subject x) ls ∙ c.terms)
      (each_after x ls (carries-sound ts ls passes c))

  module _ (share : ℕ) (fair : share ≤ 10000) where
    -- so it is with the premium due, on a day of a fair share
    pub carries-on : (ls : List Layer) (x : ℕ) → Carries ts ls → Carries ts (layers_on share x ls)
    carries-on ls x c =
        sound-carries ts (layers_on share x ls) (map-map _ (subject_on share x) ls ∙ c.terms)
        (each_on share fair x ls (carries-sound ts ls passes c))

    -- subjects in turn do so too
    pub carries-through : (ls : List Layer) (ys : List ℕ) → Carries ts ls → Carries ts (layers_through share ys ls)
    carries-through ls [] c = c
    carries-through ls (y ∷ ys) c = carries-through (layers_on share y ls) ys (carries-on ls y c)

module _ (shares : List ℕ) (fair : Fair shares) (c : Contracts) (lawful : Lawful c) where
  -- a year stays under its contracts through an event
  pub under-event : (y : Year) (e : Event) → Under c y → Under c (event_after shares c.treaties y e)
  under-event y e u =
      let h = fair-on shares fair e.day in
      let share = share_on shares e.day in
      record {
        risk =
            carries-through c.risk lawful.risk share h y.risk (left_by_treaties c.treaties e) u.risk;
        cat = carries-on c.cat lawful.cat share h y.cat (subject_of c.treaties y e) u.cat;
      }

  -- and through events
  pub under-events : (y : Year) (es : List Event) → Under c y → Under c (year_after shares c.treaties y es)
  under-events y [] u = u
  under-events y (e ∷ es) u = under-events (event_after shares c.treaties y e) es (under-event y e u)

-- the layers of some terms, spent amounts and timed premiums have these terms
terms_with : (ts : List Terms) (ms ns : List ℕ) → terms_in (layers_with ts ms ns) ≡ ts
terms_with [] ms ns = refl
terms_with (t ∷ ts) ms ns = ap (λ (l : List Terms). t ∷ l) (terms_with ts (drop 1 ms) (drop 1 ns))

-- whether a layer is within its cap and its amount premium
abbrev within_both : Layer → Bool
within_both y = within_cap y && within_premium y

-- a standing's numbers that pass make layers within their caps and their amount premiums
pub passes-carries : (ts : List Terms) (ms ns : List ℕ) → tier_passes ts ms ns ≡ true
    → Carries ts (layers_with ts ms ns)
passes-carries ts ms ns e =
    let ls = layers_with ts ms ns in
    let rest = every (λ (m : ℕ). eqb m 0) (drop (length ts) ms) && every (λ (n : ℕ). eqb n 0) (drop (length ts) ns) in
    let f = (both (every within_both ls) rest e).0 in
    record {
      terms = terms_with ts ms ns;
      spent =
          each-every WithinCap within_both (λ y h. leb-true _ _ (both (within_cap y) (within_premium y) h).0) ls f;
      timed =
          each-every WithinPremium within_both (λ y h. leb-true _ _ (both (within_cap y) (within_premium y) h).1) ls f;
    }

all-within : (ls : List Layer) → Each WithinCap ls → Each WithinPremium ls → every within_both ls ≡ true
all-within [] s p = refl
all-within (y ∷ ls) s p = rw (le-leb _ _ s.0, le-leb _ _ p.0) (all-within ls s.1 p.1)

-- what layers hold in the year, whatever stands after it, makes the same layers
with_held : (ls : List Layer) (rest others : List ℕ)
    → layers_with (terms_in ls) (spent_of ls ++ rest) (timed_of ls ++ others) ≡ ls
with_held [] rest others = refl
with_held (y ∷ ls) rest others = ap (λ (l : List Layer). y ∷ l) (with_held ls rest others)

module _ (ts : List Terms) (ls : List Layer) (c : Carries ts ls) where
  -- what layers hold, each amount in eight places, with the layers' terms makes the layers again
  pub stored-loads : layers_with ts (in_places 0 (spent_of ls)) (in_places 0 (timed_of ls)) ≡ ls
  stored-loads =
      rw (← c.terms)
      (with_held ls (replicate (8 - length (spent_of ls)) 0) (replicate (8 - length (timed_of ls)) 0))

  -- the places past the layers hold 0
  unused : (f : Layer → ℕ) → every (λ (m : ℕ). eqb m 0) (drop (length ts) (in_places 0 (map f ls))) ≡ true
  unused f =
      rw (sym (length-map ls f ∙ carries-length ts ls c)) (sym (rest-unused (λ (m : ℕ). eqb m 0) 0 refl (map f ls)))

  -- and they pass
  pub stored-passes : tier_passes ts (in_places 0 (spent_of ls)) (in_places 0 (timed_of ls)) ≡ true
  stored-passes =
      rw (
        stored-loads,
        all-within ls c.spent c.timed,
        unused (λ (y : Layer). y.spent.0),
        unused (λ (y : Layer). y.timed.0),
      )

-- the same for whole years: from the standing of a year a run begins with the year
pub year-loads : (c : Contracts) (y : Year) (d : ℕ) → Under c y → year_of c (standing_of y d) ≡ y
year-loads c y d u i = record {
  risk = stored-loads c.risk y.risk u.risk i;
  cat = stored-loads c.cat y.cat u.cat i;
}

-- and its standing passes
pub year-passes : (c : Contracts) (y : Year) (d : ℕ) → d ≤ 366 → Under c y → standing_passes c (standing_of y d) ≡ true
unfolding standing_passes
year-passes c y d h u =
    rw (stored-passes c.risk y.risk u.risk, stored-passes c.cat y.cat u.cat, le-leb _ _ h)

-- a standing that passes is a year of the contracts
pub standing-under : (c : Contracts) (s : Standing) → standing_passes c s ≡ true → Under c (year_of c s) × (s.day ≤ 366)
unfolding standing_passes
standing-under c s e =
    let cat = tier_passes c.cat s.cat s.cat_timed in
    let f = both (tier_passes c.risk s.risk s.risk_timed) (cat && leb s.day 366) e in
    let g = both cat (leb s.day 366) f.1 in (
      record {
        risk = passes-carries c.risk s.risk s.risk_timed f.0;
        cat = passes-carries c.cat s.cat s.cat_timed g.0;
      },
      leb-true _ _ g.1,
    )
