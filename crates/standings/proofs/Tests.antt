-- The test of a tier's spent amounts and timed premiums, and of a standing, under what the code finds.
-- Assumes nothing.
use mathlib.Core.Path.{◌≡◌, refl, sym, ap, ◌∙◌}
use mathlib.Core.Bool.{Bool, true, false, ◌&&◌, and-false}
use mathlib.Core.List.{List}
use Prim.Native.Nat.{ℕ, ◌+◌, ◌-◌, ◌≤◌, ◌<◌}
use native.Mathlib.Omega.{arith}
use borrow.Author.Tests.{le-leb, lt-leb}
use lib.Dec.{eqb}
use lib.ListN.{length, take, drop, get_or}
use lib.Seq.{take_all}
use borrow.Rule.Slice.PartMut.{mid_of}
use Rattle.std.proofs.lemmas.Slice.{between_to_end}
use Rattle.std.proofs.lemmas.List.Folds.{list_all_more, list_all_at}
use Rattle.lists.specs.Chains.{every}
use Rattle.lists.specs.Each.{Each}
use Rattle.lists.proofs.Chains.{and_true}
use Rattle.lists.proofs.Each.{each-chained}
use Rattle.layer.specs.declared.record.Layer.{Layer}
use Rattle.layer.specs.declared.terms.Terms.{Terms}
use Rattle.layer.specs.Layer.{layer_of}
use Rattle.layer.specs.Ranges.{InRange}
use Rattle.programme.specs.declared.contract.Layers.{Layers}
use Rattle.programme.specs.declared.contract.Programme.{Programme}
use Rattle.programme.specs.Contract.{layers_in, contracts_in}
use Rattle.programme.specs.Rules.{band_end}
use Rattle.programme.specs.Valid.{layer_passes, valid_layers}
use Rattle.programme.proofs.Bounds.{terms_in_range}
use Rattle.programme.proofs.Validity.{layers_tell, layers-few}
use Rattle.programme.proofs.Lawful.{layer-passed, layers-count}
use Rattle.year.specs.declared.Standing.{Standing}
use Rattle.year.specs.Standing.{layers_with, within_cap, within_premium, tier_passes, standing_passes}
use Rattle.standings.proofs.Loads.{with_length, with_at}

-- the terms of a valid tier are few and in range
pub valid-lent : (l : Layers) → valid_layers l ≡ true → record { few : length (layers_in l) ≤ 8; ranges : Each InRange (layers_in l) }
valid-lent l v = record {
  few = omega (arith, layers-count l v, layers-few l v);
  ranges =
      each-chained InRange layer_passes band_end (λ n t h. terms_in_range t (layer-passed n t h).0) 0 (layers_in l)
      (layers_tell l v).1;
}

-- a layer's two tests
abbrev test : Layer → Bool
test y = within_cap y && within_premium y

-- the first i layers pass
pub record Passing (ts : List Terms) (ms ns : List ℕ) (i : ℕ) : Type 0 where
  pub so_far : every test (take i (layers_with ts ms ns)) ≡ true

module _ {ts : List Terms} {ms ns : List ℕ} {i : ℕ} (g : Passing ts ms ns i) where
  module _ (d : Terms) (h : i < length ts) where
    abbrev next : Layer
    next = layer_of (get_or ts i d) (get_or ms i 0) (get_or ns i 0)

    own : get_or (layers_with ts ms ns) i next ≡ next
    own = with_at ts ms ns i next d h

    inside : i < length (layers_with ts ms ns)
    inside = omega (arith, with_length ts ms ns)

    module _ (b : Bool) (is : b ≡ test next) where
      pub pass_next : b ≡ true → Passing ts ms ns (i + 1)
      pass_next e = record {
        so_far = list_all_more test (layers_with ts ms ns) i next inside ∙ rw (g.so_far, own, ← is) e;
      }

      pub pass_stops : b ≡ false → false ≡ tier_passes ts ms ns
      pass_stops e = sym (rw (list_all_at test (layers_with ts ms ns) i next inside (rw (own, ← is) e)) refl)

  -- all pass, and the places past them hold 0
  module _ (end : length ts ≤ i) where
    all : every test (layers_with ts ms ns) ≡ true
    all =
        ap (every test) (sym (take_all i (layers_with ts ms ns) (omega (arith, with_length ts ms ns)))) ∙ g.so_far

    -- those of eight places
    rest : (ks : List ℕ) → length ks ≡ 8 → mid_of (length ts) (8 - length ts) ks ≡ drop (length ts) ks
    rest ks eight = between_to_end ks (length ts) 8 (omega (arith, eight))

    pub pass-ends : length ms ≡ 8 → length ns ≡ 8 → (z w : Bool)
        → z ≡ every (λ (m : ℕ). eqb m 0) (mid_of (length ts) (8 - length ts) ms)
        → w ≡ every (λ (n : ℕ). eqb n 0) (mid_of (length ts) (8 - length ts) ns) → z ≡ true
        → w ≡ tier_passes ts ms ns
    pass-ends p q z w e f zero = sym (rw (all, ← rest ms p, ← rest ns q, ← e, zero, ← f) refl)

-- the day, and then the two tiers
module _ (p : Programme) (s : Standing) where
  pub day_late : 366 < s.day → false ≡ standing_passes (contracts_in p) s
  unfolding standing_passes
  day_late h =
      let risk = tier_passes (layers_in p.risk) s.risk s.risk_timed in
      let cat = tier_passes (layers_in p.cat) s.cat s.cat_timed in
      sym (rw (lt-leb _ _ h) (none risk cat))
    where
      none : (a b : Bool) → (a && (b && false)) ≡ false
      none true b = and-false b
      none false b = refl

  module _ (r : Bool) (e : r ≡ tier_passes (layers_in p.risk) s.risk s.risk_timed) where
    pub risk_not : r ≡ false → r ≡ standing_passes (contracts_in p) s
    unfolding standing_passes
    risk_not h = h ∙ sym (rw (← e, h))

    pub as_cat : s.day ≤ 366 → r ≡ true → (c : Bool)
        → c ≡ tier_passes (layers_in p.cat) s.cat s.cat_timed → c ≡ standing_passes (contracts_in p) s
    unfolding standing_passes
    as_cat d h c q = q ∙ sym (rw (← e, h, le-leb _ _ d) (and_true _))
