-- The machine values of a programme, of a standing and of what a run gives back, as the proofs by hand about runs speak
-- of them.
-- Assumes nothing.
use mathlib.Core.List.{List, [], ◌∷◌}
use mir.Val.{Val}
use denote.Struct.Laws as LL
use Rattle.lending.proofs.Names.{Is}
use Rattle.programme.specs.declared.contract.Programme.{Programme}
use Rattle.programme.specs.contracts.contract.Programme as P
use Rattle.programme.proofs.contract.Programme.TheLaws as P'
use Rattle.answer.specs.contracts.Answer as N
use Rattle.answer.proofs.Answer.TheLaws as N'
use Rattle.year.specs.declared.Standing.{Standing}
use Rattle.year.specs.contracts.Standing as S
use Rattle.year.proofs.Standing.TheLaws as S'
use Rattle.engine.specs.declared.run.Ran.{Ran}
use Rattle.engine.specs.contracts.run.Ran as R
use Rattle.engine.proofs.run.Ran.TheLaws as R'

abbrev pub programme-vals : Programme → List Val
programme-vals = LL.vals P.the_type P'.the_laws

abbrev pub standing-vals : Standing → List Val
standing-vals = LL.vals S.the_type S'.the_laws

-- what whoever holds a `Ran` knows of its parts
pub answer_of_lem : (r : Ran) (w : Val) → Is R.the_row r (w ∷ [])
    → Is N.the_row r.answer (LL.vals N.the_type N'.the_laws r.answer)
answer_of_lem r w g = (LL.owed R.the_type R'.the_laws r _ g).0

pub standing_of_lem : (r : Ran) (w : Val) → Is R.the_row r (w ∷ [])
    → Is S.the_row r.standing (standing-vals r.standing)
standing_of_lem r w g = (LL.owed R.the_type R'.the_laws r _ g).1.0
