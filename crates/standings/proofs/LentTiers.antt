-- A tier of lent terms, spent amounts and timed premiums that a year may have, through amounts on a day of some share.
-- Assumes nothing.
use mathlib.Core.Path.{◌≡◌, refl, sym, ap, ◌∙◌}
use mathlib.Core.Bool.{true, ◌&&◌}
use mathlib.Core.List.{List, [], ◌∷◌, ◌++◌, map, append_assoc}
use Prim.Native.Nat.{ℕ, ◌+◌, ◌-◌, ◌≤◌}
use native.Mathlib.Omega.{arith}
use borrow.Author.Tests.{eqb-true}
use lib.Dec.{eqb}
use lib.ListN.{length, take, drop, replicate, length-map, length-drop, take-append-drop}
use lib.Seq.{length-take-le, slice_empty, drop-drop}
use borrow.Rule.Slice.PartMut.{put_mid}
use Rattle.std.specs.List.{between}
use Rattle.std.proofs.lemmas.List.{length-take}
use Rattle.std.proofs.lemmas.Slice.{between_is}
use Rattle.lists.specs.Each.{Each}
use Rattle.lists.specs.Chains.{every}
use Rattle.lists.specs.Places.{in_places}
use Rattle.lists.proofs.Chains.{both}
use Rattle.lists.proofs.Each.{each-drop, each_take, each-chained}
use Rattle.layer.specs.declared.terms.Terms.{Terms}
use Rattle.layer.specs.declared.record.Layer.{Layer}
use Rattle.layer.specs.declared.record.Sums.{Sums}
use Rattle.layer.specs.declared.tier.Tier.{Tier}
use Rattle.layer.specs.Layer.{sums_of}
use Rattle.layer.specs.Tier.{layers_through, recoveries_through, dues_through, sums_through, tier_after}
use Rattle.layer.specs.Ranges.{InRange, Sound, Rising, SoundLayers}
use Rattle.layer.proofs.Tiers.{layers-through}
use Rattle.layer.proofs.Through.{on_each, layers-each, recoveries-each, dues-each}
use Rattle.layer.proofs.Still.{Still, still_full, layers-between, recoveries-between, dues-between}
use Rattle.programme.specs.Rules.{band_end}
use Rattle.programme.specs.Valid.{layer_passes}
use Rattle.programme.proofs.Bounds.{terms_in_range}
use Rattle.programme.proofs.Lawful.{layer-passed}
use Rattle.programme.proofs.Places.{places-length}
use Rattle.year.specs.Standing.{spent_of, timed_of, layers_with, within_cap, within_premium}
use Rattle.year.proofs.Layers.{Carries, passes-carries, carries-length, carries-sound, carries-rising, carries-through}
use Rattle.year.proofs.Layers.{stored-loads, stored-passes}
use Rattle.standings.specs.Tier.{largest_of, reached_by, exhausted_of, CanBear}
use Rattle.standings.proofs.Loads.{with_length, with_take, with-between}
use Rattle.standings.proofs.Stores.{between-stored}
use Rattle.standings.proofs.Extent.{still_after, exhausted_blind, exhausted_full}

-- places that pass the test hold 0
all-zero : (ms : List ℕ) → every (λ (m : ℕ). eqb m 0) ms ≡ true → ms ≡ replicate (length ms) 0
all-zero [] e = refl
all-zero (m ∷ ms) e =
    let f = both (eqb m 0) (every (λ (m : ℕ). eqb m 0) ms) e in
    λ j. eqb-true m 0 f.0 j ∷ all-zero ms f.1 j

-- the amounts of layers are those that they were loaded with
spent_with : (ts : List Terms) (ms ns : List ℕ) → length ts ≤ length ms
    → spent_of (layers_with ts ms ns) ≡ take (length ts) ms
spent_with [] ms ns h = refl
spent_with (t ∷ ts) [] ns h = absurd (omega arith)
spent_with (t ∷ ts) (m ∷ ms) ns h = ap (λ (l : List ℕ). m ∷ l) (spent_with ts ms (drop 1 ns) (omega arith))

timed_with : (ts : List Terms) (ms ns : List ℕ) → length ts ≤ length ns
    → timed_of (layers_with ts ms ns) ≡ take (length ts) ns
timed_with [] ms ns h = refl
timed_with (t ∷ ts) ms [] h = absurd (omega arith)
timed_with (t ∷ ts) ms (n ∷ ns) h = ap (λ (l : List ℕ). n ∷ l) (timed_with ts (drop 1 ms) ns (omega arith))

-- an amount of each of k layers that stands in eight places, with 0 in those past the layers
places-back : (of : Layer → ℕ) (k : ℕ) (ls : List Layer) (ms : List ℕ) → length ms ≡ 8 → length ls ≡ k
    → map of ls ≡ take k ms → every (λ (m : ℕ). eqb m 0) (drop k ms) ≡ true → in_places 0 (map of ls) ≡ ms
places-back of k ls ms eight long front rest =
    let many : 8 - length (map of ls) ≡ length (drop k ms) =
    omega (arith, length-drop k ms, eight, length-map ls of, long) in
    (λ j. front j ++ replicate (many j) 0)
    ∙ ap (λ (l : List ℕ). take k ms ++ l) (sym (all-zero (drop k ms) rest))
    ∙ take-append-drop k ms

module _ {ts : List Terms} {ms ns : List ℕ} (b : CanBear ts ms ns) where
  abbrev lent : List Layer
  lent = layers_with ts ms ns

  carries : Carries ts lent
  carries = passes-carries ts ms ns b.held

  pub bears_sound : Each Sound lent
  bears_sound = carries-sound ts lent b.terms carries

  pub bears_ranges : Each InRange ts
  bears_ranges =
      each-chained InRange layer_passes band_end (λ n t e. terms_in_range t (layer-passed n t e).0) 0 ts b.terms

  pub bears_rising : Rising 0 lent
  bears_rising = carries-rising ts lent b.terms carries

  -- 0 in the places past the layers
  unused : every (λ (m : ℕ). eqb m 0) (drop (length ts) ms) && every (λ (n : ℕ). eqb n 0) (drop (length ts) ns) ≡ true
  unused = (both (every (λ (y : Layer). within_cap y && within_premium y) lent) _ b.held).1

  -- the numbers are those of their own layers
  pub spent-lent : ms ≡ in_places 0 (spent_of lent)
  spent-lent =
      let zero = (both (every (λ (m : ℕ). eqb m 0) (drop (length ts) ms)) _ unused).0 in
      sym
      (places-back (λ (y : Layer). y.spent.0) (length ts) lent ms b.spent-places (with_length ts ms ns)
      (spent_with ts ms ns (omega (arith, b.few, b.spent-places))) zero)

  pub timed-lent : ns ≡ in_places 0 (timed_of lent)
  timed-lent =
      let zero = (both (every (λ (m : ℕ). eqb m 0) (drop (length ts) ms)) _ unused).1 in
      sym
      (places-back (λ (y : Layer). y.timed.0) (length ts) lent ns b.timed-places (with_length ts ms ns)
      (timed_with ts ms ns (omega (arith, b.few, b.timed-places))) zero)

module _ {ts : List Terms} {ms ns : List ℕ} (b : CanBear ts ms ns) (share : ℕ) (fair : share ≤ 10000)
    (xs : List ℕ) where
  abbrev borne_layers : List Layer
  borne_layers = layers_through share xs (layers_with ts ms ns)

  after : Carries ts borne_layers
  after = carries-through ts b.terms share fair (layers_with ts ms ns) xs (carries b)

  eight : (of : Layer → ℕ) → length (in_places 0 (map of borne_layers)) ≡ 8
  eight of =
      places-length 0 (map of borne_layers)
      (omega (arith, b.few, carries-length ts borne_layers after, length-map borne_layers of))

  -- the numbers of the layers after amounts make these layers
  pub loaded-after : layers_with ts (in_places 0 (spent_of borne_layers)) (in_places 0 (timed_of borne_layers))
      ≡ borne_layers
  loaded-after = stored-loads ts borne_layers after

  -- and a year may have them
  pub still_bears : CanBear ts (in_places 0 (spent_of borne_layers)) (in_places 0 (timed_of borne_layers))
  still_bears = record {
    few = b.few;
    terms = b.terms;
    spent-places = eight (λ (y : Layer). y.spent.0);
    timed-places = eight (λ (y : Layer). y.timed.0);
    held = stored-passes ts borne_layers after;
  }

-- amounts of which m is the largest reach n layers
module _ {ts : List Terms} {ms ns : List ℕ} (b : CanBear ts ms ns) (share : ℕ) (fair : share ≤ 10000)
    (xs : List ℕ) (m n : ℕ) (most : m ≡ largest_of xs) (reach : n ≡ reached_by m ts) (inside : n ≤ length ts) where
  abbrev ls : List Layer
  ls = layers_with ts ms ns

  pub reached_ranges : Each InRange (take n ts)
  reached_ranges = each_take InRange n ts (bears_ranges b)

  reached_layers : length (take n ls) ≡ n
  reached_layers = length-take-le n ls (omega (arith, inside, with_length ts ms ns))

  -- the layers after them bear nothing
  rest-sound : Each Sound (drop n ls)
  rest-sound = each-drop Sound n ls (bears_sound b)

  rest-still : Still xs (drop n ls)
  rest-still = rw (reach, most) (still_after xs ts ms ns (bears_sound b) (bears_rising b))

  -- and of those, the first f, which are exhausted
  module _ (f : ℕ) (full : f ≡ exhausted_of (layers_with (take n ts) ms [])) (before : f ≤ length (take n ts)) where
    few : f ≤ n
    few = omega (arith, before, length-take n ts)

    spent-up : f ≡ exhausted_of (take n ls)
    spent-up = full ∙ exhausted_blind (take n ts) ms [] ns ∙ ap exhausted_of (with_take n ts ms ns)

    abbrev front : List Layer
    front = take f (take n ls)

    front-sound : Each Sound front
    front-sound = each_take Sound f (take n ls) (each_take Sound n ls (bears_sound b))

    front-still : Still xs front
    front-still = still_full xs front front-sound (rw spent-up (exhausted_full (take n ls)))

    apart : front ++ (between f n ls ++ drop n ls) ≡ ls
    apart =
        ap (λ (l : List Layer). front ++ (l ++ drop n ls)) (between_is ls f n)
        ∙ sym (append_assoc front (drop f (take n ls)) (drop n ls))
        ∙ ap (λ (l : List Layer). l ++ drop n ls) (take-append-drop f (take n ls))
        ∙ take-append-drop n ls

    layers-moved : front ++ (layers_through share xs (between f n ls) ++ drop n ls) ≡ layers_through share xs ls
    layers-moved =
        sym
        (layers-between share fair xs front (between f n ls) (drop n ls) front-sound front-still rest-sound rest-still)
        ∙ ap (layers_through share xs) apart

    recoveries-moved : recoveries_through xs (between f n ls) ≡ recoveries_through xs ls
    recoveries-moved =
        sym
        (recoveries-between share fair xs front (between f n ls) (drop n ls) front-sound front-still rest-sound
        rest-still)
        ∙ ap (recoveries_through xs) apart

    dues-moved : dues_through share xs (between f n ls) ≡ dues_through share xs ls
    dues-moved =
        sym (dues-between share fair xs front (between f n ls) (drop n ls) front-sound front-still rest-sound rest-still)
        ∙ ap (dues_through share xs) apart

    pub moved-few : n - f ≤ 8
    moved-few = omega (arith, inside, b.few)

    moved_length : length (between f n ls) ≡ n - f
    moved_length =
        omega (arith, length-take (n - f) (drop f ls), length-drop f ls, with_length ts ms ns, inside, few)

    -- no layer is left that moves
    module _ (none : f ≡ n) where
      empty : between f n ls ≡ []
      empty = between_is ls f n ∙ rw none (slice_empty n ls)

      unmoved : layers_through share xs ls ≡ ls
      unmoved =
          let same : layers_through share xs (between f n ls) ≡ between f n ls = rw empty (layers-each share xs []) in
          sym layers-moved ∙ ap (λ (l : List Layer). front ++ (l ++ drop n ls)) same ∙ apart

      pub spent_same : ms ≡ in_places 0 (spent_of (layers_through share xs ls))
      spent_same = spent-lent b ∙ ap (λ (l : List Layer). in_places 0 (spent_of l)) (sym unmoved)

      pub timed_same : ns ≡ in_places 0 (timed_of (layers_through share xs ls))
      timed_same = timed-lent b ∙ ap (λ (l : List Layer). in_places 0 (timed_of l)) (sym unmoved)

      pub nothing-borne : (s : Sums) → s ≡ sums_of share 0 0
          → s ≡ sums_of share (recoveries_through xs ls) (dues_through share xs ls)
      nothing-borne s e =
          let no_recovery : recoveries_through xs (between f n ls) ≡ 0 = rw empty (recoveries-each xs []) in
          let nothing-due : dues_through share xs (between f n ls) ≡ 0 = rw empty (dues-each share xs []) in
          let recovered = sym no_recovery ∙ recoveries-moved in
          let premium = sym nothing-due ∙ dues-moved in
          e ∙ (λ j. sums_of share (recovered j) (premium j))

    -- the records of those that are left
    module _ (rs : List Layer)
        (loaded : take (length (between f n ts)) rs ≡ layers_with (between f n ts) (between f n ms) (between f n ns)) where
      moved_terms : length (between f n ts) ≡ n - f
      moved_terms = omega (arith, length-take (n - f) (drop f ts), length-drop f ts, inside, few)

      first : take (n - f) rs ≡ between f n ls
      first = ap (λ (k : ℕ). take k rs) (sym moved_terms) ∙ loaded ∙ with-between f n ts ms ns

      pub records_sound : SoundLayers (take (n - f) rs)
      records_sound = rw first record {
        few = omega (arith, moved_length, inside, b.few);
        each = each_take Sound (n - f) (drop f ls) (each-drop Sound f ls (bears_sound b));
      }

      pub sums-borne : (s : Sums) → s ≡ sums_of share 0 0 → (t : Sums) → t ≡ sums_through xs s (take (n - f) rs)
          → t ≡ sums_of share (recoveries_through xs ls) (dues_through share xs ls)
      sums-borne s e t is =
          let recovered : 0 + recoveries_through xs (take (n - f) rs) ≡ recoveries_through xs ls =
          rw first (omega (arith, recoveries-moved)) in
          let premium : 0 + dues_through share xs (take (n - f) rs) ≡ dues_through share xs ls =
          rw first (omega (arith, dues-moved)) in
          is
          ∙ ap (λ (u : Sums). sums_through xs u (take (n - f) rs)) e
          ∙ (λ j. sums_of share (recovered j) (premium j))

      -- the layers of the tier after the amounts, stored over those that were lent
      module _ (s : Sums) (e : s ≡ sums_of share 0 0) (t : Tier)
          (borne : t ≡ tier_after s.share xs (record { layers = rs; count = n - f })) where
        abbrev gone : List Layer
        gone = take (n - f) t.layers

        moved : gone ≡ layers_through share xs (between f n ls)
        moved =
            ap (λ (u : Tier). take (n - f) u.layers) borne
            ∙ layers-through s.share xs (record { layers = rs; count = n - f })
            ∙ ap (λ (u : Sums). layers_through u.share xs (take (n - f) rs)) e ∙ ap (layers_through share xs) first

        after-length : length gone ≡ length (between f n ls)
        after-length =
            ap length (moved ∙ layers-each share xs (between f n ls)) ∙ length-map (between f n ls) (on_each share xs)

        over : (of : Layer → ℕ)
            → take f (in_places 0 (map of ls)) ++ (map of gone ++ drop n (in_places 0 (map of ls)))
            ≡ in_places 0 (map of (layers_through share xs ls))
        over of =
            let long : length front ≡ f = length-take-le f (take n ls) (omega (arith, reached_layers, few)) in
            let end : f + length (between f n ls) ≡ n = omega (arith, moved_length, few) in
            ap (λ (l : List Layer). take f (in_places 0 (map of l)) ++ (map of gone ++ drop n (in_places 0 (map of l))))
            (sym apart)
            ∙ between-stored of front gone (between f n ls) (drop n ls) f n long after-length end
            ∙ ap (λ (l : List Layer). in_places 0 (map of (front ++ (l ++ drop n ls)))) moved
            ∙ ap (λ (l : List Layer). in_places 0 (map of l)) layers-moved

        stored : (of : Layer → ℕ) (ks : List ℕ) → ks ≡ in_places 0 (map of ls) → (js : List ℕ) → js ≡ map of gone
            → put_mid f (n - f) ks js ≡ in_places 0 (map of (layers_through share xs ls))
        stored of ks r js own =
            let until : f + (n - f) ≡ n = omega (arith, few) in
            (λ j. take f (r j) ++ (own j ++ drop-drop (n - f) f (r j) j))
            ∙ ap (λ (k : ℕ). take f (in_places 0 (map of ls)) ++ (map of gone ++ drop k (in_places 0 (map of ls)))) until
            ∙ over of

        pub spent_stored : (js : List ℕ) → js ≡ spent_of gone
            → put_mid f (n - f) ms js ≡ in_places 0 (spent_of (layers_through share xs ls))
        spent_stored = stored (λ (y : Layer). y.spent.0) ms (spent-lent b)

        pub timed_stored : (js : List ℕ) → js ≡ timed_of gone
            → put_mid f (n - f) ns js ≡ in_places 0 (timed_of (layers_through share xs ls))
        timed_stored = stored (λ (y : Layer). y.timed.0) ns (timed-lent b)
