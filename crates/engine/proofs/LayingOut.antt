-- A programme and a standing that pass the tests are what a run goes by.
-- Assumes nothing.
use mathlib.Core.Path.{◌≡◌, subst}
use mathlib.Core.Bool.{true}
use mathlib.Core.List.{List}
use Prim.Native.Nat.{ℕ, ◌≤◌}
use native.Mathlib.Omega.{arith}
use lib.ListN.{length, length-take}
use Rattle.std.specs.Prelude.{Result}
use Rattle.refusal.specs.declared.Refused.{Refused}
use Rattle.treaty.specs.declared.Treaty.{Treaty}
use Rattle.programme.specs.declared.contract.Layers.{Layers}
use Rattle.programme.specs.declared.contract.Programme.{Programme}
use Rattle.programme.specs.Contract.{Contracts, treaties_in, layers_in, contracts_in}
use Rattle.programme.specs.Valid.{valid_layers}
use Rattle.programme.proofs.Validity.{valid_tells, layers_tell, layers-few}
use Rattle.year.specs.declared.Standing.{Standing}
use Rattle.year.specs.Standing.{tier_passes}
use Rattle.standings.specs.Tier.{CanBear}
use Rattle.standings.proofs.Sound.{standing-tests}
use Rattle.losses.specs.Treaties.{treaties_from}
use Rattle.booking.specs.declared.basis.Basis.{Basis}
use Rattle.engine.specs.Run.{RanAs, run_lines, Tested, CanRun}

-- one tier
tier-lent : (ls : Layers) (ms ns : List ℕ) → valid_layers ls ≡ true → length ms ≡ 8 → length ns ≡ 8
    → tier_passes (layers_in ls) ms ns ≡ true → CanBear (layers_in ls) ms ns
tier-lent ls ms ns v eight eight-timed passes = record {
  few = omega (arith, length-take ls.count ls.places, layers-few ls v);
  terms = (layers_tell ls v).1;
  spent-places = eight;
  timed-places = eight-timed;
  held = passes;
}

module _ (b : Basis) (p : Programme) (is-risk : b.risk.now ≡ layers_in p.risk) (is-cat : b.cat.now ≡ layers_in p.cat)
  where
    pub can-run : {shares : List ℕ} (s : Standing) → Tested shares p s → {text : List ℕ} → length text ≤ 65536
        → CanRun b s text
    can-run s g h =
        let eight = g.places in
        let valids = valid_tells p g.programme in
        let tests = standing-tests (contracts_in p) s g.standing in
        record {
          lent = record {
            risk = rw is-risk (tier-lent p.risk s.risk s.risk_timed valids.1 eight.risk eight.risk-timed tests.0);
            cat = rw is-cat (tier-lent p.cat s.cat s.cat_timed valids.2 eight.cat eight.cat-timed tests.1);
          };
          short = h;
        }

-- the contracts lent are the programme's
module _ (p : Programme) (register : List Treaty) (is-register : treaties_from register ≡ treaties_in p.treaties) where
  abbrev lent : Contracts
  lent = record { treaties = treaties_from register; risk = layers_in p.risk; cat = layers_in p.cat }

  same-contracts : lent ≡ contracts_in p
  same-contracts i = record { treaties = is-register i; risk = layers_in p.risk; cat = layers_in p.cat }

  pub as_lent : (shares : List ℕ) (s s' : Standing) (text d d' : List ℕ) (room : ℕ) (r : Result ℕ Refused)
      → RanAs (run_lines shares lent s text room) s s' d d' r
      → RanAs (run_lines shares (contracts_in p) s text room) s s' d d' r
  as_lent shares s s' text d d' room r =
      subst (λ (c : Contracts). RanAs (run_lines shares c s text room) s s' d d' r) same-contracts
