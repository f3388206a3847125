-- Net never goes below 0: in no event of a history does a subtraction stop at 0, neither where the treaties cede of a
-- loss nor where the risk layers recover of what is left nor where the catastrophe layers recover of their subject.
-- Assumes nothing.
use mathlib.Core.Path.{sym, subst}
use mathlib.Core.List.{List, []}
use Prim.Native.Nat.{ℕ}
use Rattle.lists.proofs.Cases.{by_test}
use Rattle.programme.specs.declared.contract.Programme.{Programme}
use Rattle.programme.specs.Contract.{contracts_in}
use Rattle.programme.proofs.Lawful.{valid-lawful}
use Rattle.year.specs.Standing.{fresh, year_of}
use Rattle.year.specs.History.{Call, events_of_history}
use Rattle.year.proofs.Layers.{Under}
use Rattle.year.proofs.Balance.{ExactFrom, events-exact}
use Rattle.year.proofs.Following.{runnable, runs-valid, runs-fair, year-under, stands, year-from}

module _ (shares : List ℕ) (p : Programme) where
  -- for every programme, every list of shares and every history
  pub every-event-exact : (h : List Call)
      → ExactFrom shares (contracts_in p).treaties (year_of (contracts_in p) fresh) (events_of_history shares p h)
  every-event-exact h =
      by_test (runnable shares p)
      (λ v. events-exact shares (runs-fair shares p (sym v)) (contracts_in p)
      (valid-lawful p (runs-valid shares p (sym v))) (year_of (contracts_in p) fresh) (events_of_history shares p h)
      (subst (Under (contracts_in p)) (sym (year-from shares p [] (sym v))) (year-under shares p (sym v) [])))
      (λ v. rw ((stands shares p h).none (sym v)).1 tt)
