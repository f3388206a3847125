-- Layers of one tier, of which the first i have borne the amounts xs: what is ahead gives the whole answer.
-- Assumes nothing.
use mathlib.Core.Path.{◌≡◌, refl, sym, ap, ◌∙◌}
use mathlib.Core.List.{List, ◌++◌, map, append-nil}
use Prim.Native.Nat.{ℕ, ◌+◌, ◌^◌, ◌≤◌, ◌<◌}
use native.Mathlib.Omega.{arith}
use lib.ListN.{length, take, drop, get_or, set, length-set}
use lib.Seq.{slice, take-length, drop-length}
use Rattle.lists.specs.Sums.{sum_of}
use Rattle.lists.specs.Each.{Each}
use Rattle.lists.proofs.Passes.{each_next, each_step, map-step, sum_step}
use Rattle.layer.specs.declared.record.Layer.{Layer}
use Rattle.layer.specs.declared.record.Sums.{Sums}
use Rattle.layer.specs.declared.record.Borne.{Borne}
use Rattle.layer.specs.Layer.{sums_of, borne_through}
use Rattle.layer.specs.Tier.{layers_through, recoveries_through, dues_through}
use Rattle.layer.specs.Ranges.{Sound, Ample, AmpleForTier, SoundLayers}
use Rattle.layer.proofs.Through.{on_each, recovered_each, due_each, borne-columns}
use Rattle.layer.proofs.Through.{layers-each, recoveries-each, dues-each}
use Rattle.layer.proofs.Tiers.{recoveries-through-le, dues-through-le}

-- before the first layer there were the layers ls₀ and the sums s₀
module _ (xs : List ℕ) (ls₀ : List Layer) (s₀ : Sums) where
  abbrev share : ℕ
  share = s₀.share

  abbrev ahead : ℕ → List Layer → List Layer
  ahead i ls = slice i (length ls₀) ls

  pub record Passed (i : ℕ) (ls : List Layer) (s : Sums) : Type 0 where
    pub places : length ls ≡ length ls₀
    pub within : i ≤ length ls₀
    pub sound : Each Sound (ahead i ls)
    pub share-same : s.share ≡ share
    pub share-le : share ≤ 10000
    pub layers : take i ls ++ (map (on_each share xs) (ahead i ls) ++ drop (length ls₀) ls) ≡ layers_through share xs ls₀
    pub recovered : s.recovered.0 + sum_of (recovered_each xs) (ahead i ls)
        ≡ s₀.recovered.0 + recoveries_through xs ls₀
    pub premium : s.premium.0 + sum_of (due_each share xs) (ahead i ls)
        ≡ s₀.premium.0 + dues_through share xs ls₀
    pub recovered-le : s₀.recovered.0 + recoveries_through xs ls₀ ≤ 2 ^ 61
    pub premium-le : s₀.premium.0 + dues_through share xs ls₀ ≤ 2 ^ 61

  -- before the first layer
  pub none_passed : SoundLayers ls₀ → AmpleForTier s₀ → Passed 0 ls₀ s₀
  none_passed sound ample = record {
    places = refl;
    within = omega arith;
    sound = rw (take-length ls₀) sound.each;
    share-same = refl;
    share-le = ample.share;
    layers = rw (take-length ls₀, drop-length ls₀, append-nil) (sym (layers-each share xs ls₀));
    recovered = rw (take-length ls₀) (ap (λ (n : ℕ). s₀.recovered.0 + n) (sym (recoveries-each xs ls₀)));
    premium = rw (take-length ls₀) (ap (λ (n : ℕ). s₀.premium.0 + n) (sym (dues-each share xs ls₀)));
    recovered-le = omega (arith, recoveries-through-le xs ls₀ sound.each, sound.few, ample.recovered);
    premium-le = omega (arith, dues-through-le share ample.share xs ls₀ sound.each, sound.few, ample.premium);
  }

  module _ (i : ℕ) (ls : List Layer) (s : Sums) (h : Passed i ls s) where
    -- one layer more
    module _ (d : Layer) (more : i < length ls₀) where
      inside : length ls₀ ≤ length ls
      inside = omega (arith, h.places)

      abbrev next : Layer
      next = get_or ls i d

      pub next_bears : Sound next × Ample s
      next_bears = (
        each_next i (length ls₀) ls more inside Sound d h.sound,
        record {
          share = omega (arith, h.share-same, h.share-le);
          recovered = omega (arith, h.recovered, h.recovered-le);
          premium = omega (arith, h.premium, h.premium-le);
        },
      )

      pub one-passed : (b : Borne) → b ≡ borne_through xs s next → Passed (i + 1) (set ls i b.layer) b.sums
      one-passed b is = rw (is, borne-columns xs s next, h.share-same) record {
        places = length-set ls i _ ∙ h.places;
        within = omega arith;
        share-same = refl;
        share-le = h.share-le;
        sound = each_step i (length ls₀) ls more inside Sound _ h.sound;
        layers = map-step i (length ls₀) ls more inside (on_each share xs) _ d refl h.layers;
        recovered = sum_step i (length ls₀) ls more inside (recovered_each xs) _ d _ h.recovered;
        premium = sum_step i (length ls₀) ls more inside (due_each share xs) _ d _ h.premium;
        recovered-le = h.recovered-le;
        premium-le = h.premium-le;
      }

    -- after the last layer
    module _ (end : length ls₀ ≤ i) where
      last : i ≡ length ls₀
      last = omega (arith, h.within)

-- sums of nothing have room for a tier's
pub none_ample : (share : ℕ) (s : Sums) → share ≤ 10000 → s ≡ sums_of share 0 0 → AmpleForTier s
none_ample share s h e = rw e record { share = h; recovered = omega arith; premium = omega arith }
