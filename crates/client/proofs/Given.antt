-- What the client's runs give back, an answer with a standing, and its machine values, as the proofs by hand speak of
-- them.
-- Assumes nothing.
use Rattle.lending.proofs.Names.{[], ◌∷◌, List, Val, Is}
use denote.Struct.Laws as LL
use Rattle.answer.specs.declared.Answer.{Answer}
use Rattle.answer.specs.contracts.Answer as N
use Rattle.answer.proofs.Answer.TheLaws as N'
use Rattle.year.specs.declared.Standing.{Standing}
use Rattle.year.specs.contracts.Standing as S
use Rattle.client.specs.declared.After.{After}
use Rattle.client.specs.contracts.After as R
use Rattle.client.proofs.After.TheLaws as R'
use Rattle.cession.proofs.Values.{standing-vals}

-- the machine values of an answer with a standing
abbrev pub after-vals : After → List Val
after-vals = LL.vals R.the_type R'.the_laws

-- what is given back: an answer and a standing
abbrev pub after : Answer → Standing → After
after n t = record { answer = n; standing = t }

pub after_is : (n : Answer) (w : Val) (t : Standing) → Is N.the_row n (w ∷ []) → Is S.the_row t (standing-vals t)
    → Is R.the_row (after n t) (after-vals (after n t))
after_is n w t gn gt =
    LL.owes R.the_type R'.the_laws (after n t)
    (LL.owes N.the_type N'.the_laws n (LL.owed N.the_type N'.the_laws n _ gn), (gt, tt))
