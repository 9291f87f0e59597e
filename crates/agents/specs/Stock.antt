-- An agent of one kind or another. What it has kept begins with a number that tells its kind.
use Rattle.std.specs.Prelude.{ℕ, zero, suc, List, [], ◌∷◌, map}
use Rattle.cl_base.specs.declared.agent.Call.{Call}
use Rattle.cl_base.specs.declared.method.Outcome.{Outcome}
use Rattle.cl_base.specs.declared.method.Outcome.TheVariants.{Success}
use Rattle.agents.specs.Answers.{code_of, fails_each_third, follows, left_after, obeys, same_kept, starts_after}
use Rattle.agents.specs.declared.stock.StockAgent.{StockAgent}
use Rattle.agents.specs.declared.stock.StockAgent.TheVariants.{Obedient, EveryThird, Script}

abbrev pub name_of : StockAgent → List ℕ
name_of (Obedient name) = name
name_of (EveryThird a) = a.name
name_of (Script a) = a.name

abbrev pub kept_of : StockAgent → List ℕ
kept_of (Obedient name) = 0 ∷ []
kept_of (EveryThird a) = 1 ∷ a.starts ∷ []
kept_of (Script a) = 2 ∷ map code_of a.left

-- each kind by its own rule; an agent has always kept its kind
abbrev pub outcome_by : List ℕ → Call → Outcome
outcome_by [] call = Success
outcome_by (zero ∷ kept) call = obeys kept call
outcome_by (suc zero ∷ kept) call = fails_each_third kept call
outcome_by (suc (suc n) ∷ kept) call = follows kept call

abbrev pub then_kept_by : List ℕ → Call → List ℕ
then_kept_by [] call = []
then_kept_by (zero ∷ kept) call = 0 ∷ same_kept kept call
then_kept_by (suc zero ∷ kept) call = 1 ∷ starts_after kept call
then_kept_by (suc (suc n) ∷ kept) call = 2 ∷ left_after kept call
