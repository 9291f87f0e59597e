-- What an attempt is of, and lists of its members.
use Rattle.std.specs.Prelude.{ℕ, ◌==◌, Bool, not, List, filter}
use Rattle.std.specs.List.{list_any}
use Rattle.cl_base.specs.Sets.{has}
use Rattle.cmm_attempt.specs.declared.attached.AttachedDevice.{AttachedDevice}
use Rattle.cmm_attempt.specs.declared.plan.Plan.{Plan}

-- a member has a path to the device
abbrev pub is_reachable : Plan → AttachedDevice → Bool
is_reachable plan a = list_any (λ n. has a.nodes n) plan.nodes

-- the members but for the coordinator, ascending
abbrev pub others_of : Plan → List ℕ
others_of plan = filter (λ n. not (n == plan.coordinator)) plan.nodes
