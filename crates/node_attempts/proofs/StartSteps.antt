-- A membership starts in a list of steps where it starts in one of them.
use Rattle.std.proofs.Common.{◌≡◌, List, [], ◌∷◌, refl}
use Rattle.std.specs.List.{list_any}
use Rattle.cmm_attempt.specs.declared.step.Step.{Step}
use Rattle.cmm_attempt.specs.declared.step.Step.TheVariants.{Send, SeizeHere, NeedVotes, InstallHere, StartHere, Ended}
use Rattle.cmm_attempt.specs.Calls.{starts_in}
use Rattle.node_attempts.specs.StartSteps.{is_start}

pub any_starts : (steps : List Step) → list_any is_start steps ≡ starts_in steps
any_starts [] = refl
any_starts (StartHere ∷ steps) = refl
any_starts (Ended e ∷ steps) = any_starts steps
any_starts (Send to message ∷ steps) = any_starts steps
any_starts (SeizeHere d kind ∷ steps) = any_starts steps
any_starts (NeedVotes n ∷ steps) = any_starts steps
any_starts (InstallHere i ∷ steps) = any_starts steps
