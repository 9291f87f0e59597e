-- What the nodes know of their cluster.
use Rattle.std.specs.Prelude.{ℕ, ◌==◌, ◌&&◌, Bool, List, bit_or, fold, if◌then◌else◌}
use Rattle.std.specs.List.{list_any}
use Rattle.cl_base.specs.Sets.{has, set_with}
use Rattle.cmm_attempt.specs.declared.attached.AttachedDevice.{AttachedDevice}
use Rattle.node_model.specs.declared.cluster.Cluster.{Cluster}

-- the node has a path to the device
abbrev pub has_path : List AttachedDevice → ℕ → ℕ → Bool
has_path attached n d = list_any (λ a. (a.device == d) && has a.nodes n) attached

-- each number of the first set is in the second
abbrev pub is_within : ℕ → ℕ → Bool
is_within set all = bit_or set all == all

-- whether a device is valid to a node before its first record: a quorum device to which it has a path, where it is configured at first
abbrev pub is_first_valid : Cluster → ℕ → AttachedDevice → Bool
is_first_valid c me a = has c.configured me && has c.first_valid a.device && has a.nodes me

abbrev pub first_valid_of : Cluster → ℕ → ℕ
first_valid_of c me = fold (λ set a. if is_first_valid c me a then set_with set a.device else set) 0 c.attached
