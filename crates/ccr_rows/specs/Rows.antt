-- The rows of each table: things in order of creation, and of one thing its rows in the order shown.
use Rattle.std.specs.Prelude.{ℕ, zero, suc, if◌then◌else◌, List, [], ◌∷◌, ◌++◌, map, codes}
use Rattle.std.specs.List.{flat_map}
use Rattle.std.specs.Fmt.{decimal}
use Rattle.cl_base.specs.Limits.{most_devices}
use Rattle.cl_base.specs.Numbers.{by_commas}
use Rattle.cl_base.specs.declared.command.Table.{Table}
use Rattle.cl_base.specs.declared.command.Table.TheVariants.{Infrastructure, Types, Groups, Resources, Addresses}
use Rattle.cl_base.specs.declared.header.Version.{Version}
use Rattle.cl_base.specs.declared.header.Version.TheVariants.{One, Two}
use Rattle.quorum_votes.specs.Votes.{vote_of}
use Rattle.rt_types.specs.Fields.{TypeFields}
use Rattle.load_limits.specs.declared.limits.Limit.{Limit}
use Rattle.rg_props.specs.declared.group.Group.{Group}
use Rattle.rg_props.specs.declared.group.Resource.{Resource}
use Rattle.ccr_tables.specs.declared.address.Address.{Address}
use Rattle.ccr_tables.specs.Refusals.{device_state, has_device}
use Rattle.ccr_tables.specs.State.{ConfigState}
use Rattle.ccr_text.specs.declared.rows.Row.{Row}
use Rattle.update_words.specs.Words.{policy_text}
use Rattle.ccr_rows.specs.Texts.{names_text, affinities_text, factors_text, weights_text, choice_text, mode_text, device_text, methods_text, single_text, failover_text}

abbrev pub row : List ℕ → List ℕ → Row
row key value = record { key = key; value = value }

-- a row of a thing that has several: the key is its name, a dot (46) and a word
abbrev pub row_of : List ℕ → List ℕ → List ℕ → Row
row_of name word value = row (name ++ 46 ∷ word) value

-- a configured node with its vote
abbrev pub node_row : ConfigState → ℕ → Row
node_row s n = row (codes "node." ++ decimal n) (decimal (vote_of s.votes n))

-- a device with its state, where the header has it
abbrev pub device_rows : ConfigState → ℕ → List Row
device_rows s d = if has_device s d then row (codes "device." ++ decimal d) (device_text (device_state s d)) ∷ [] else []

-- the devices with numbers from 1 to the most
abbrev pub device_rows_to : ConfigState → ℕ → List Row
device_rows_to s zero = []
device_rows_to s (suc most) = device_rows_to s most ++ device_rows s (suc most)

-- a load limit of a node: its soft bound and its hard bound
abbrev pub limit_row : Limit → Row
limit_row l = row (codes "load." ++ (decimal l.node ++ 46 ∷ l.name)) (decimal l.soft ++ 32 ∷ decimal l.hard)

-- nodes in order of creation, then devices by number, then limits in order of creation
abbrev pub infrastructure_rows : ConfigState → List Row
infrastructure_rows s = map (node_row s) s.order ++ (device_rows_to s most_devices ++ map limit_row s.limits)

-- a type: its agent, its methods, `single` or `multi`, `failover` or `any`
abbrev pub type_row : List ℕ → TypeFields → Row
type_row name t = row name (t.agent ++ 32 ∷ (methods_text t.methods ++ 32 ∷ (single_text t.single ++ 32 ∷ failover_text t.failover)))

abbrev pub type_rows : List (List ℕ × TypeFields) → List Row
type_rows types = map (λ p. type_row p.0 p.1) types

-- what a group has under the second version alone
abbrev pub later_group_rows : Version → List ℕ → Group → List Row
later_group_rows One name g = []
later_group_rows Two name g =
    row_of name (codes "Load_factors") (factors_text g.factors)
    ∷ row_of name (codes "Priority") (decimal g.priority)
    ∷ []

abbrev pub group_rows : Version → List ℕ → Group → List Row
group_rows version name g =
    row_of name (codes "Nodelist") (by_commas g.nodelist)
    ∷ row_of name (codes "Maximum_primaries") (decimal g.maximum)
    ∷ row_of name (codes "Desired_primaries") (decimal g.desired)
    ∷ row_of name (codes "RG_dependencies") (names_text g.dependencies)
    ∷ row_of name (codes "RG_affinities") (affinities_text g.affinities)
    ∷ row_of name (codes "Pingpong_interval") (decimal g.pingpong)
    ∷ row_of name (codes "Failback") (choice_text g.failback)
    ∷ row_of name (codes "managed") (choice_text g.managed)
    ∷ row_of name (codes "wanted") (choice_text g.wanted)
    ∷ row_of name (codes "Suspend_automatic_recovery") (choice_text g.suspended)
    ∷ later_group_rows version name g

abbrev pub all_group_rows : Version → List (List ℕ × Group) → List Row
all_group_rows version groups = flat_map (λ p. group_rows version p.0 p.1) groups

abbrev pub resource_rows : List ℕ → Resource → List Row
resource_rows name r =
    row_of name (codes "group") r.group
    ∷ row_of name (codes "type") r.resource_type
    ∷ row_of name (codes "enabled") (choice_text r.enabled)
    ∷ row_of name (codes "monitored") (choice_text r.monitored)
    ∷ row_of name (codes "Resource_dependencies") (names_text r.strong)
    ∷ row_of name (codes "Resource_dependencies_weak") (names_text r.weak)
    ∷ row_of name (codes "Resource_dependencies_offline_restart") (names_text r.offline_restart)
    ∷ row_of name (codes "Failover_mode") (mode_text r.mode)
    ∷ row_of name (codes "Retry_count") (decimal r.retry_count)
    ∷ row_of name (codes "Retry_interval") (decimal r.retry_interval)
    ∷ []

abbrev pub all_resource_rows : List (List ℕ × Resource) → List Row
all_resource_rows resources = flat_map (λ p. resource_rows p.0 p.1) resources

abbrev pub address_rows : List ℕ → Address → List Row
address_rows name a =
    row_of name (codes "group") a.group
    ∷ row_of name (codes "policy") (policy_text a.policy)
    ∷ row_of name (codes "weights") (weights_text a.weights)
    ∷ []

abbrev pub all_address_rows : List (List ℕ × Address) → List Row
all_address_rows addresses = flat_map (λ p. address_rows p.0 p.1) addresses

-- the rows of a table
abbrev pub rows_of : ConfigState → Table → List Row
rows_of s Infrastructure = infrastructure_rows s
rows_of s Types = type_rows s.types
rows_of s Groups = all_group_rows s.groups.version s.groups.groups
rows_of s Resources = all_resource_rows s.groups.resources
rows_of s Addresses = all_address_rows s.addresses
