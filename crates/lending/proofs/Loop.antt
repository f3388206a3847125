-- A `while` loop of a function that is followed by hand, with what follows the loop.
--     whiles    I t is all that is had before a turn at t; a turn ends in I t' for a t' below t, or leaves the loop
--               with P t and I t (`out`), from where the rest runs
--     out       the end of a turn that leaves the loop
-- What the loop leaves says nothing of the rest of the code, so that the two are not compared.
-- Assumes `Logic`.
use mathlib.Core.List.{List}
use mathlib.Core.WellFounded.{WellFounded}
use Prim.Native.Nat.{zero, suc}
use seplogic.Ra.Ura.{Ura}
use mir.Syntax.{Body, seq, block, loop}
use base.Logic.{SProp, ent, ex, guard, never, via, ex_i, ex_e, guard_i, guard_e, never_e}
use prog.Wp.{Out, next, exits, returns, Env, Wp, after_seq, after_block, after_turn, Tables}
use types.Logic.{Logic}
use sound.WpLaws.{Wp-mono}
use sound.Loop.{loop_rule}
use types.Kit.{Item, ⋆, Post, any_q, post, prop, runs, Seq}
use types.Run.{Below}

module _ {M : Type 1} {𝓤 : Ura M} (𝓛 : Logic 𝓤) {X : Type 0} (I : X → List (Item 𝓤))
    (P : X → Type 0) where
  -- what is had where the loop is left
  abbrev pub At : X → SProp 𝓤
  At t = guard 𝓤 (P t) (⋆ 𝓛 (I t))

  abbrev pub Left : Out → SProp 𝓤
  Left next = never 𝓤
  Left (exits zero) = ex 𝓤 At
  Left (exits (suc n)) = never 𝓤
  Left returns = never 𝓤

module _ {M : Type 1} {𝓤 : Ura M} {𝓛 : Logic 𝓤} {K : Type 0} {X : Type 0} where
  open 𝓛 use {H}

  pub out : K → (I : X → List (Item 𝓤)) (P : X → Type 0) (t : X) → P t
      → Seq K 𝓛 (I t) (prop (Left 𝓛 I P (exits zero)))
  out k I P t p = record {
    prf = via 𝓤 (At 𝓛 I P t) (guard_i 𝓤 (P t) (⋆ 𝓛 (I t)) p) (ex_i 𝓤 (At 𝓛 I P) t);
  }

  module _ (𝓣 : Tables 𝓤 H) (I : X → List (Item 𝓤)) (P : X → Type 0) (E : Env 𝓤 H) (rest : Body) (q : Post 𝓤 H)
      (go : (t : X) → P t → Seq K 𝓛 (I t) (runs 𝓣.C 𝓣.Λ E rest q)) where
    abbrev After : Out → SProp 𝓤
    After = after_block 𝓤 H (after_seq 𝓤 H (Wp 𝓤 H 𝓣.C 𝓣.Λ E rest (post 𝓤 H q)) (post 𝓤 H q))

    goes_on : (o : Out) → ent 𝓤 (Left 𝓛 I P o) (After o)
    goes_on next = never_e 𝓤 (After next)
    goes_on (exits zero) =
        ex_e 𝓤 (At 𝓛 I P) (λ t. guard_e 𝓤 (P t) (⋆ 𝓛 (I t)) (λ p. (go t p).prf))
    goes_on (exits (suc n)) = never_e 𝓤 (After (exits (suc n)))
    goes_on returns = never_e 𝓤 (After returns)

  pub whiles : K → (𝓣 : Tables 𝓤 H) (≺ : X → X → Type 0) → WellFounded ≺ → (I : X → List (Item 𝓤)) (P : X → Type 0)
      {E : Env 𝓤 H} {b rest : Body} {q : Post 𝓤 H}
      → ((t : X) → Seq K 𝓛 (I t)
      (runs 𝓣.C 𝓣.Λ E b
      (any_q (after_turn 𝓤 H (Below 𝓛 ≺ I t) (Left 𝓛 I P)))))
      → ((t : X) → P t → Seq K 𝓛 (I t) (runs 𝓣.C 𝓣.Λ E rest q))
      → (t : X) → Seq K 𝓛 (I t) (runs 𝓣.C 𝓣.Λ E (seq (block (loop b)) rest) q)
  whiles k 𝓣 ≺ wf I P {E} {b} {rest} {q} turn go t = record {
    prf = via 𝓤 (Wp 𝓤 H 𝓣.C 𝓣.Λ E (loop b) (Left 𝓛 I P))
        (loop_rule 𝓤 H 𝓛.laws 𝓣 ≺ wf E b (Left 𝓛 I P) (λ u. ⋆ 𝓛 (I u)) (λ u. (turn u).prf) t)
        (Wp-mono 𝓤 H 𝓛.laws 𝓣 E (loop b) (Left 𝓛 I P) (After 𝓣 I P E rest q go)
        (goes_on 𝓣 I P E rest q go));
  }
