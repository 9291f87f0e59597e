-- Which table an update changes, and how that is counted.
use Rattle.std.specs.Prelude.{ℕ, ◌+◌, ◌-◌, ◌^◌, min, Bool, true, false, ◌&&◌, List, Option, Some, None, codes, if◌then◌else◌}
use Rattle.std.specs.Str.{bytes_eq}
use Rattle.cl_base.specs.declared.command.Table.{Table}
use Rattle.cl_base.specs.declared.command.Table.TheVariants.{Infrastructure, Types, Groups, Resources, Addresses}
use Rattle.cl_base.specs.declared.header.Version.{Version}
use Rattle.cl_base.specs.declared.header.Version.TheVariants.{One, Two}
use Rattle.ccr_tables.specs.declared.generations.Generations.{Generations}
use Rattle.ccr_tables.specs.declared.update.Update.{Update}
use Rattle.ccr_tables.specs.declared.update.Update.TheVariants.{RegisterType, UnregisterType, CreateGroup, DeleteGroup, SetGroup, ChangeGroup, SwitchGroup, CreateResource, DeleteResource, SetResource, ChangeResource, Device, NodeVote, AddNode, RemoveNode, CreateLimit, DeleteLimit, CreateAddress, DeleteAddress, SetWeights}

-- Each update changes one table: commands on types, groups and resources the table of that name, those on votes, nodes and load
-- limits `infrastructure`, those on shared addresses `addresses`.
abbrev pub table_of : Update → Table
table_of (RegisterType name agent methods single failover) = Types
table_of (UnregisterType name) = Types
table_of (CreateGroup group nodes) = Groups
table_of (DeleteGroup group) = Groups
table_of (SetGroup group property value) = Groups
table_of (ChangeGroup group change) = Groups
table_of (SwitchGroup group nodes) = Groups
table_of (CreateResource resource group resource_type) = Resources
table_of (DeleteResource resource) = Resources
table_of (SetResource resource property value) = Resources
table_of (ChangeResource resource change) = Resources
table_of (Device device change) = Infrastructure
table_of (NodeVote node vote) = Infrastructure
table_of (AddNode node) = Infrastructure
table_of (RemoveNode node) = Infrastructure
table_of (CreateLimit node limit soft hard) = Infrastructure
table_of (DeleteLimit node limit) = Infrastructure
table_of (CreateAddress address group policy) = Addresses
table_of (DeleteAddress address) = Addresses
table_of (SetWeights address weights) = Addresses

-- shared addresses are there from the second version on
abbrev pub has_addresses : Version → Bool
has_addresses One = false
has_addresses Two = true

-- the table of this name
unfoldable pub table_named : Version → List ℕ → Option Table
table_named version name =
    if bytes_eq name (codes "infrastructure") then Some Infrastructure
    else if bytes_eq name (codes "types") then Some Types
    else if bytes_eq name (codes "groups") then Some Groups
    else if bytes_eq name (codes "resources") then Some Resources
    else if bytes_eq name (codes "addresses") && has_addresses version then Some Addresses
    else None

-- the generation number of a table
abbrev pub generation_of : Generations → Table → ℕ
generation_of g Infrastructure = g.infrastructure
generation_of g Types = g.types
generation_of g Groups = g.groups
generation_of g Resources = g.resources
generation_of g Addresses = g.addresses

-- one more; a count that would pass 2^64 - 1 stays there
abbrev pub next : ℕ → ℕ
next n = min (n + 1) (2 ^ 64 - 1)

-- one more update of this table, and no other's count changes
abbrev pub counted : Generations → Table → Generations
counted g Infrastructure = record g { infrastructure = next g.infrastructure }
counted g Types = record g { types = next g.types }
counted g Groups = record g { groups = next g.groups }
counted g Resources = record g { resources = next g.resources }
counted g Addresses = record g { addresses = next g.addresses }
