-- What the definitions are told of the layers that are defined elsewhere.
use Rattle.std.specs.Prelude.{ℕ, ◌-◌, ◌%◌, zero, suc, Bool, true, false, List, [], ◌∷◌, ◌++◌, Option, Some, None, slice_get}
use Rattle.cl_base.specs.Sets.{has}
use Rattle.cl_base.specs.Limits.{most_nodes, most_devices}
use Rattle.cl_base.specs.Numbers as numbers
use Rattle.cl_base.specs.Keys as keys
use Rattle.cl_base.specs.declared.header.Header.{Header}
use Rattle.cl_base.specs.declared.header.HeaderDevice.{HeaderDevice}
use Rattle.cl_base.specs.declared.header.DeviceKind.{DeviceKind}
use Rattle.cl_base.specs.declared.header.DeviceKind.TheVariants.{Data, Quorum, Server}
use Rattle.cl_base.specs.declared.refusal.Refusal.{Refusal}
use Rattle.quorum_votes.specs.Tables.{VoteTable}
use Rattle.status_report.specs.declared.command_entry.Answer.{Answer}

pub record Setting : Type 0 where
  pub header : Header
  -- how many cells the pool of the links has
  pub cells : ℕ
  -- the votes of nodes and devices after these updates, the oldest first
  pub votes : List (List ℕ) → VoteTable
  -- the canonical words of a command, where its words are a command's
  pub canonical : List ℕ → Option (List ℕ)
  -- the answer to words that are no command's: the first error that fits
  pub word_error : List ℕ → Answer
  -- whether these canonical words are those of an update
  pub is_update : List ℕ → Bool
  -- whether they are those of a query
  pub is_query : List ℕ → Bool
  -- what an answer's line shows of a refusal after the word `refused`
  pub refusal_text : Refusal → List ℕ

-- ---- numbers

-- the node that coordinates an epoch
abbrev pub coordinator : ℕ → ℕ
coordinator e = e % 64

-- the numbers that a set of nodes has, ascending, and those of a set of devices
abbrev pub nodes_of : ℕ → List ℕ
nodes_of set = numbers.numbers_to set most_nodes

abbrev pub devices_of : ℕ → List ℕ
devices_of set = numbers.numbers_to set most_devices

-- the numbers from 1 to k
abbrev pub all_to : ℕ → List ℕ
all_to zero = []
all_to (suc k) = all_to k ++ suc k ∷ []

-- the key of node n
abbrev pub key_of : Header → ℕ → ℕ
key_of h n = keys.key_of h.cluster n

-- whether the header configures node n
abbrev pub is_configured : Header → ℕ → Bool
is_configured h n = has h.configured n

-- ---- devices of the header

abbrev pub paths_in : Option HeaderDevice → ℕ
paths_in None = 0
paths_in (Some d) = d.attached

-- the nodes that are attached to device d
abbrev pub paths_of : Header → ℕ → ℕ
paths_of h d = paths_in (slice_get h.devices (d - 1))

abbrev pub has_votes : DeviceKind → Bool
has_votes Data = false
has_votes Quorum = true
has_votes Server = true

abbrev pub is_quorum_in : Option HeaderDevice → Bool
is_quorum_in None = false
is_quorum_in (Some d) = has_votes d.kind

-- whether device d is a quorum device at first
abbrev pub is_quorum : Header → ℕ → Bool
is_quorum h d = is_quorum_in (slice_get h.devices (d - 1))

abbrev pub is_server_kind : DeviceKind → Bool
is_server_kind Data = false
is_server_kind Quorum = false
is_server_kind Server = true

abbrev pub is_server_in : Option HeaderDevice → Bool
is_server_in None = false
is_server_in (Some d) = is_server_kind d.kind

-- whether it is a server
abbrev pub is_server : Header → ℕ → Bool
is_server h d = is_server_in (slice_get h.devices (d - 1))
