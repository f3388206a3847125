-- A function whose code was followed by hand to its end meets its contract: from `Walks` over the tables of its
-- environment γ, to the triple of its entry k there.
-- Assumes nothing.
use seplogic.Ra.Ura.{Ura}
use mir.Syntax.{Fn}
use prog.Wp.{Closed, WpFn, Tables}
use prog.Model.{Model}
use prog.Routine.{Callee, Env}
use sound.WpLaws.{WpFn-mono}
use types.Logic.{Logic}
use contract.Running.{Running, tables, tables_of}
use denote.Triple.Clauses.{Clauses, Ended, closing}
use denote.Triple.Spec.{triple_of}
use denote.Triple.Statement.{Triple}
use denote.Triple.Table.{entered}
use denote.Triple.Walked.{Stays, AllGo, Walks, walk_Meets}

module _ {M : Type 1} {𝓤 : Ura M} (𝓛 : Logic 𝓤) (𝓜 : Model 𝓤 𝓛.H) (𝓡 : Running 𝓤 𝓛.H 𝓜) (γ : Env) where
  open 𝓛 use {H}

  abbrev 𝓣 : Tables 𝓤 H
  𝓣 = tables_of 𝓤 H 𝓜 (tables 𝓤 H 𝓜 𝓡 γ)

  module _ (T : Ended) (hs : Stays T.signature.params T.kept)
      (goes : AllGo 𝓛 T.signature.lifetimes T.signature.params T.kept hs) where
    pub followed : (k : Callee) (e : Fn) → Closed 𝓤 H (tables 𝓤 H 𝓜 𝓡 γ).C (tables 𝓤 H 𝓜 𝓡 γ).Λ k e
        → (c : Clauses 𝓤 T) → Walks 𝓛 T hs (WpFn 𝓤 H 𝓣.C 𝓣.Λ e) c
        → Triple 𝓤 ((tables 𝓤 H 𝓜 𝓡 γ).C k) (triple_of 𝓛 T.signature (closing 𝓛 T c))
    unfolding tables_of
    followed k e closed c walks =
        entered 𝓤 H (triple_of 𝓛 T.signature (closing 𝓛 T c)) (tables 𝓤 H 𝓜 𝓡 γ).C
        (tables 𝓤 H 𝓜 𝓡 γ).Λ k e closed
        (walk_Meets 𝓛 T hs goes c (WpFn 𝓤 H 𝓣.C 𝓣.Λ e) (WpFn-mono 𝓤 H 𝓛.laws 𝓣 e) walks)
