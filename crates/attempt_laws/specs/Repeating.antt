-- Which messages go again, and when.
use Rattle.std.specs.Prelude.{◌≡◌, ◌≢◌, ◌==◌, ◌&&◌, ◌⊎◌, not, [], map, filter, IsSome}
use Rattle.std.specs.List.{filter_map}
use Rattle.cmm_attempt.specs.declared.phase.Phase.TheVariants.{Collecting, SeizingVotes, SeizingOthers, Installing}
use Rattle.cmm_attempt.specs.Promises.{has_promised}
use Rattle.cmm_attempt.specs.Seizings.{again_for}
use Rattle.cmm_attempt.specs.Installs.{send_collect, send_install}
use Rattle.cmm_attempt.specs.Attempts.{AttemptState, has_readied, install_in}
use Rattle.cmm_attempt.specs.Calls.{Tick, turn, end_in}

-- at the fourth tick of collecting, Collect to each other member that has not promised
abbrev pub CollectsGoAgain : Type 0
CollectsGoAgain = (s : AttemptState) → s.phase ≡ Collecting → s.ticks ≡ 3
    → (turn s Tick).steps ≡ map (send_collect s.plan) (filter (λ n. not (n == s.plan.coordinator) && not (has_promised s.promises n)) s.plan.nodes)

-- of seizing, the request for each device whose seizing has not ended, to the node that was asked, but to the coordinator itself
abbrev pub RequestsGoAgain : Type 0
RequestsGoAgain = (s : AttemptState) → (s.phase ≡ SeizingVotes) ⊎ (s.phase ≡ SeizingOthers) → s.ticks ≡ 3 → (turn s Tick).steps ≡ filter_map (again_for s.plan) s.devices

-- of installing, Install to each other member that is not ready
abbrev pub InstallsGoAgain : Type 0
InstallsGoAgain = (s : AttemptState) → s.phase ≡ Installing → s.ticks ≡ 3
    → (turn s Tick).steps ≡ map (send_install s.plan (install_in s)) (filter (λ n. not (n == s.plan.coordinator) && not (has_readied s.readies n)) s.plan.nodes)

-- at no other tick does anything go again: the tick ends the attempt, or nothing is done
abbrev pub NothingElseGoes : Type 0
NothingElseGoes = (s : AttemptState) → s.ticks ≢ 3 → IsSome (end_in (turn s Tick).steps) ⊎ ((turn s Tick).steps ≡ [])
