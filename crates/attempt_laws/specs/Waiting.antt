-- An attempt never waits for nobody: while it collects, seizes or installs, an answer is missing, and at the eighth tick it ends.
use Rattle.std.specs.Prelude.{◌≡◌, ◌≤◌, ◌==◌, true, IsSome}
use Rattle.std.specs.List.{find, list_any}
use Rattle.cmm_attempt.specs.declared.phase.Phase.{Phase}
use Rattle.cmm_attempt.specs.declared.phase.Phase.TheVariants.{Collecting, Choosing, SeizingVotes, SeizingOthers, Installing, Over}
use Rattle.cmm_attempt.specs.Attempts.{AttemptState, is_missing}
use Rattle.cmm_attempt.specs.Calls.{Tick, turn, IsReached}

-- answers are awaited; while it chooses, the votes are
abbrev pub IsWaiting : Phase → Type 0
IsWaiting Collecting = Unit {0}
IsWaiting SeizingVotes = Unit {0}
IsWaiting SeizingOthers = Unit {0}
IsWaiting Installing = Unit {0}
IsWaiting Choosing = ⊥
IsWaiting Over = ⊥

-- the coordinator is one of the members
abbrev pub HasCoordinator : AttemptState → Type 0
HasCoordinator s = list_any (λ n. n == s.plan.coordinator) s.plan.nodes ≡ true

abbrev pub SomeoneIsMissing : Type 0
SomeoneIsMissing = (s : AttemptState) → IsReached s → HasCoordinator s → IsWaiting s.phase → IsSome (find (is_missing s) s.plan.nodes)

abbrev pub EighthTickEnds : Type 0
EighthTickEnds = (s : AttemptState) → IsReached s → HasCoordinator s → IsWaiting s.phase → 7 ≤ s.ticks → (turn s Tick).after.phase ≡ Over
