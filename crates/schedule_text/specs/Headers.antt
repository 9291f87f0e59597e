-- The header of a schedule: what each of its lines makes of what was read so far.
use Rattle.std.specs.Prelude.{ℕ, ◌+◌, ◌==◌, nat_lt, nat_le, Bool, true, false, not, ◌&&◌, length, if◌then◌else◌, List, [], ◌∷◌, ◌++◌, map, Option, Some, None, Result, Ok, Err, codes}
use Rattle.std.specs.Str.{bytes_eq}
use Rattle.std.specs.List.{list_all}
use Rattle.cl_base.specs.Limits.{most_nodes, most_nodes_at_first, most_devices}
use Rattle.cl_base.specs.Numbers.{first_numbers}
use Rattle.cl_base.specs.Sets.{set_with}
use Rattle.cl_base.specs.declared.header.DeviceKind.{DeviceKind}
use Rattle.cl_base.specs.declared.header.DeviceKind.TheVariants as device
use Rattle.cl_base.specs.declared.header.Header.{Header}
use Rattle.cl_base.specs.declared.header.HeaderDevice.{HeaderDevice}
use Rattle.cl_base.specs.declared.header.Version.{Version}
use Rattle.cl_base.specs.declared.header.Version.TheVariants.{One, Two}
use Rattle.schedule_text.specs.declared.header.Head.{Head}
use Rattle.schedule_text.specs.declared.header.Head.TheVariants as head
use Rattle.schedule_text.specs.declared.header.HeaderState.{HeaderState}
use Rattle.schedule_text.specs.declared.header.HeaderState.TheVariants.{Opening, Senders, Complete, Cluster, Nodes, Configured, Devices}
use Rattle.schedule_text.specs.declared.kind.Kind.{Kind}
use Rattle.schedule_text.specs.declared.kind.Kind.TheVariants as kind
use Rattle.schedule_text.specs.declared.number.Numeral.{Numeral}
use Rattle.schedule_text.specs.declared.number.Numeral.TheVariants.{Within, Beyond}
use Rattle.schedule_text.specs.declared.numbers.NodeList.{NodeList}
use Rattle.schedule_text.specs.Choices.{device_kind_in}
use Rattle.schedule_text.specs.Versions.{most_nodes_of}
use Rattle.schedule_text.specs.Words.{words_of, is_decimal, decimal_in, cluster_in}
use Rattle.schedule_text.specs.Lines.{is_blank}

-- what a header line comes to: more of the header, the end of it before this line, or a refusal
pub data HeaderStep : Type 0 where
  More : HeaderState → HeaderStep
  Over : HeaderStep
  Bad : Kind → HeaderStep

-- the nodes with the numbers, which ascend from above the greatest so far up to the most
abbrev pub ascending : ℕ → ℕ → ℕ → List (Option Numeral) → Option NodeList
ascending most greatest nodes [] = Some (record { nodes = nodes; greatest = greatest })
ascending most greatest nodes (None ∷ numbers) = None
ascending most greatest nodes (Some Beyond ∷ numbers) = None
ascending most greatest nodes (Some (Within n) ∷ numbers) =
    if nat_lt greatest n && nat_le n most then ascending most n (set_with nodes n) numbers else None

-- at least one number
abbrev pub are_numbers : List (List ℕ) → Bool
are_numbers words = not (length words == 0) && list_all is_decimal words

-- NAME N N ..: at least one node, ascending
abbrev pub in_order : Option NodeList → Result NodeList Kind
in_order None = Err kind.Number
in_order (Some list) = Ok list

abbrev pub numbers_in : ℕ → List (List ℕ) → Result NodeList Kind
numbers_in most numbers = if are_numbers numbers then in_order (ascending most 0 0 (map decimal_in numbers)) else Err kind.Header

abbrev pub nodes_in : List ℕ → ℕ → List (List ℕ) → Result NodeList Kind
nodes_in name most [] = Err kind.Header
nodes_in name most (word ∷ numbers) = if bytes_eq word name then numbers_in most numbers else Err kind.Header

-- the first line names the form of the schedule, and its version
abbrev pub opening_line : List ℕ → HeaderStep
opening_line line =
    if bytes_eq line (codes "schedule pr 1") then More Senders
    else if bytes_eq line (codes "schedule cluster 1") then More (Cluster One)
    else if bytes_eq line (codes "schedule cluster 2") then More (Cluster Two)
    else Bad kind.Header

-- A reservation schedule goes on with `senders N N ..`.
abbrev pub senders_step : Result NodeList Kind → HeaderStep
senders_step (Ok senders) = More (Complete senders.nodes)
senders_step (Err kind) = Bad kind

abbrev pub senders_line : List (List ℕ) → HeaderStep
senders_line words = senders_step (nodes_in (codes "senders") most_nodes_at_first words)

-- A cluster schedule goes on with `cluster C`,
abbrev pub cluster_step : Version → Option ℕ → HeaderStep
cluster_step version None = Bad kind.Header
cluster_step version (Some cluster) = More (Nodes version cluster)

abbrev pub cluster_line : Version → List (List ℕ) → HeaderStep
cluster_line version (name ∷ cluster ∷ []) = if bytes_eq name (codes "cluster") then cluster_step version (cluster_in cluster) else Bad kind.Header
cluster_line version _ = Bad kind.Header

-- then `nodes N`, from 1 to the greatest number of a node. Under version 1 all of them are configured, and the header has what it must have;
abbrev pub counted : Version → ℕ → ℕ → HeaderState
counted One cluster n = Devices (record { version = One; cluster = cluster; nodes = n; configured = first_numbers n; devices = [] })
counted Two cluster n = Configured cluster n

abbrev pub nodes_step : Version → ℕ → Option Numeral → HeaderStep
nodes_step version cluster None = Bad kind.Header
nodes_step version cluster (Some Beyond) = Bad kind.Number
nodes_step version cluster (Some (Within n)) =
    if nat_le 1 n && nat_le n (most_nodes_of version) then More (counted version cluster n) else Bad kind.Number

abbrev pub nodes_line : Version → ℕ → List (List ℕ) → HeaderStep
nodes_line version cluster (name ∷ count ∷ []) = if bytes_eq name (codes "nodes") then nodes_step version cluster (decimal_in count) else Bad kind.Header
nodes_line version cluster _ = Bad kind.Header

-- under version 2 the line `configured N N ..` follows, and the header has the nodes;
abbrev pub configured_step : ℕ → ℕ → Result NodeList Kind → HeaderStep
configured_step cluster nodes (Err kind) = Bad kind
configured_step cluster nodes (Ok listed) =
    if nat_lt nodes listed.greatest then Bad kind.Unknown
    else More (Devices (record { version = Two; cluster = cluster; nodes = nodes; configured = listed.nodes; devices = [] }))

abbrev pub configured_line : ℕ → ℕ → List (List ℕ) → HeaderStep
configured_line cluster nodes words = configured_step cluster nodes (nodes_in (codes "configured") most_nodes words)

-- then device lines: `device D quorum N N ..` or `device D data N N ..`, and `device D server N N ..`, which is not built. D counts from 1
-- to at most 16,
abbrev pub is_next : Header → Numeral → Bool
is_next h Beyond = false
is_next h (Within n) = (n == length h.devices + 1) && nat_le n most_devices

abbrev pub is_server : DeviceKind → Bool
is_server device.Server = true
is_server device.Data = false
is_server device.Quorum = false

-- the nodes ascend, and the header has them.
abbrev pub attached : Header → DeviceKind → Option NodeList → Result (Option HeaderDevice) Kind
attached h purpose None = Err kind.Number
attached h purpose (Some listed) =
    if nat_lt h.nodes listed.greatest then Err kind.Unknown else Ok (Some (record { kind = purpose; attached = listed.nodes }))

abbrev pub numbered : Header → Numeral → DeviceKind → List (List ℕ) → Result (Option HeaderDevice) Kind
numbered h number purpose nodes =
    if is_server purpose then Err kind.NotBuilt
    else if is_next h number then attached h purpose (ascending (most_nodes_of h.version) 0 0 (map decimal_in nodes))
    else Err kind.Number

-- the device that a line of this form adds, or none where the line has not the form
abbrev pub described : Header → Option Numeral → Option DeviceKind → List (List ℕ) → Result (Option HeaderDevice) Kind
described h None purpose nodes = Ok None
described h (Some number) None nodes = Ok None
described h (Some number) (Some purpose) nodes = if are_numbers nodes then numbered h number purpose nodes else Ok None

abbrev pub device_line : Header → List (List ℕ) → Result (Option HeaderDevice) Kind
device_line h (name ∷ number ∷ purpose ∷ nodes) =
    if bytes_eq name (codes "device") then described h (decimal_in number) (device_kind_in h.version purpose) nodes else Ok None
device_line h _ = Ok None

-- a line that has not the form ends the header
abbrev pub device_step : Header → Result (Option HeaderDevice) Kind → HeaderStep
device_step h (Ok (Some device)) = More (Devices (record h { devices = h.devices ++ (device ∷ []) }))
device_step h (Ok None) = Over
device_step h (Err kind) = Bad kind

-- empty lines and comments stand anywhere in a header that may go on
abbrev pub can_hold_blank : HeaderState → Bool
can_hold_blank (Complete set) = false
can_hold_blank Opening = true
can_hold_blank Senders = true
can_hold_blank (Cluster version) = true
can_hold_blank (Nodes version cluster) = true
can_hold_blank (Configured cluster nodes) = true
can_hold_blank (Devices h) = true

-- what a line makes of what was read before it; after the senders nothing more belongs to the header
abbrev pub header_step : HeaderState → List ℕ → HeaderStep
header_step (Complete set) line = Over
header_step Opening line = if is_blank line then More Opening else opening_line line
header_step Senders line = if is_blank line then More Senders else senders_line (words_of line)
header_step (Cluster version) line = if is_blank line then More (Cluster version) else cluster_line version (words_of line)
header_step (Nodes version cluster) line = if is_blank line then More (Nodes version cluster) else nodes_line version cluster (words_of line)
header_step (Configured cluster nodes) line = if is_blank line then More (Configured cluster nodes) else configured_line cluster nodes (words_of line)
header_step (Devices h) line = if is_blank line then More (Devices h) else device_step h (device_line h (words_of line))

-- the header, where the input may end
abbrev pub head_of : HeaderState → Option Head
head_of (Complete set) = Some (head.Pr set)
head_of (Devices h) = Some (head.Cluster h)
head_of Opening = None
head_of Senders = None
head_of (Cluster version) = None
head_of (Nodes version cluster) = None
head_of (Configured cluster nodes) = None
