-- The commands: how many operands each has at least, and what they spell.
use Rattle.std.specs.Prelude.{ℕ, Bool, true, false, List, [], ◌∷◌, Option, Some, None, Result, Ok, Err, if◌then◌else◌, codes}
use Rattle.std.specs.Option.{option_map}
use Rattle.std.specs.Str.{bytes_eq}
use Rattle.cl_base.specs.declared.command.Ask.{Ask}
use Rattle.cl_base.specs.declared.command.Ask.TheVariants.{Restart, Move, Remaster, Evacuate, Clear}
use Rattle.cl_base.specs.declared.command.Query.TheVariants.{GroupStatus, ResourceStatus, QuorumStatus}
use Rattle.cl_base.specs.declared.header.Version.{Version}
use Rattle.rg_props.specs.Values.{and_then, most_of, nodes_in}
use Rattle.rg_props.specs.Words.{name_in, parts_at}
use Rattle.ccr_tables.specs.declared.command.AdminCommand.{AdminCommand}
use Rattle.ccr_tables.specs.declared.command.AdminCommand.TheVariants.{Change, Act, Status, Rows}
use Rattle.ccr_tables.specs.declared.update.DeviceChange.{DeviceChange}
use Rattle.ccr_tables.specs.declared.update.DeviceChange.TheVariants as device
use Rattle.ccr_tables.specs.declared.update.Update.TheVariants.{RegisterType, UnregisterType, CreateGroup, DeleteGroup, SetGroup, ChangeGroup, SwitchGroup, CreateResource, DeleteResource, SetResource, ChangeResource, Device, NodeVote, AddNode, RemoveNode, CreateLimit, DeleteLimit, CreateAddress, DeleteAddress, SetWeights}
use Rattle.admin_words.specs.declared.command.Tool.{Tool}
use Rattle.admin_words.specs.declared.command.Tool.TheVariants as tool
use Rattle.admin_words.specs.declared.command.TypeCommand.{TypeCommand}
use Rattle.admin_words.specs.declared.command.TypeCommand.TheVariants as types
use Rattle.admin_words.specs.declared.command.GroupCommand.{GroupCommand}
use Rattle.admin_words.specs.declared.command.GroupCommand.TheVariants as group
use Rattle.admin_words.specs.declared.command.ResourceCommand.{ResourceCommand}
use Rattle.admin_words.specs.declared.command.ResourceCommand.TheVariants as resource
use Rattle.admin_words.specs.declared.command.QuorumCommand.{QuorumCommand}
use Rattle.admin_words.specs.declared.command.QuorumCommand.TheVariants as quorum
use Rattle.admin_words.specs.declared.command.Voter.{Voter}
use Rattle.admin_words.specs.declared.command.Voter.TheVariants as voter
use Rattle.admin_words.specs.declared.command.NodeCommand.{NodeCommand}
use Rattle.admin_words.specs.declared.command.NodeCommand.TheVariants as node
use Rattle.admin_words.specs.declared.command.AddressCommand.{AddressCommand}
use Rattle.admin_words.specs.declared.command.AddressCommand.TheVariants as address
use Rattle.admin_words.specs.declared.error.WordError.{WordError}
use Rattle.admin_words.specs.declared.error.WordError.TheVariants.{UnknownCommand, MissingOperand, BadValue}
use Rattle.admin_words.specs.declared.request.Request.{Request}
use Rattle.admin_words.specs.declared.request.Request.TheVariants as request
use Rattle.admin_words.specs.Answers.{Spelled, by_word, counted}
use Rattle.admin_words.specs.Methods.{methods_in}
use Rattle.admin_words.specs.Operands.{device_in, flags_in, load_in, node_in, none, one, policy_in, three, two, weights_in, word_in}
use Rattle.admin_words.specs.Spellings.{address_command_in, group_command_in, node_command_in, quorum_command_in, resource_command_in, tool_in, type_command_in, voter_in}

-- clrt register T AGENT METHODS [single] [failover]
abbrev pub register_in : List (List ℕ) → Option AdminCommand
register_in (name ∷ agent ∷ methods ∷ flags) =
    and_then (name_in name) (λ n. and_then (name_in agent) (λ a. and_then (methods_in methods) (λ m. option_map (λ f. Change (RegisterType n a m f.single f.failover)) (flags_in flags))))
register_in _ = None

-- clrt unregister T
abbrev pub type_least : TypeCommand → ℕ
type_least types.Register = 3
type_least types.Unregister = 1

abbrev pub type_operands : TypeCommand → List (List ℕ) → Option AdminCommand
type_operands types.Register = register_in
type_operands types.Unregister = one name_in (λ name. Change (UnregisterType name))

-- clrg create G NODES, delete G, set G PROPERTY VALUE, manage G and its like, switch G NODES, remaster G, evacuate N, status
abbrev pub group_least : GroupCommand → ℕ
group_least group.Create = 2
group_least group.Delete = 1
group_least group.Set = 3
group_least (group.Change change) = 1
group_least group.Switch = 2
group_least group.Remaster = 1
group_least group.Evacuate = 1
group_least group.Status = 0

abbrev pub group_operands : Version → GroupCommand → List (List ℕ) → Option AdminCommand
group_operands version group.Create = two name_in (nodes_in (most_of version)) (λ name nodes. Change (CreateGroup name nodes))
group_operands version group.Delete = one name_in (λ name. Change (DeleteGroup name))
group_operands version group.Set = three name_in word_in word_in (λ name property value. Change (SetGroup name property value))
group_operands version (group.Change change) = one name_in (λ name. Change (ChangeGroup name change))
group_operands version group.Switch = two name_in (nodes_in (most_of version)) (λ name nodes. Change (SwitchGroup name nodes))
group_operands version group.Remaster = one name_in (λ name. Act (Remaster name))
group_operands version group.Evacuate = one (node_in version) (λ n. Act (Evacuate n))
group_operands version group.Status = none (Status GroupStatus)

-- clrs create R G T, delete R, set R PROPERTY VALUE, enable R and its like, clear R N, status
abbrev pub resource_least : ResourceCommand → ℕ
resource_least resource.Create = 3
resource_least resource.Delete = 1
resource_least resource.Set = 3
resource_least (resource.Change change) = 1
resource_least resource.Clear = 2
resource_least resource.Status = 0

abbrev pub resource_operands : Version → ResourceCommand → List (List ℕ) → Option AdminCommand
resource_operands version resource.Create = three name_in name_in name_in (λ name of_group of_type. Change (CreateResource name of_group of_type))
resource_operands version resource.Delete = one name_in (λ name. Change (DeleteResource name))
resource_operands version resource.Set = three name_in word_in word_in (λ name property value. Change (SetResource name property value))
resource_operands version (resource.Change change) = one name_in (λ name. Change (ChangeResource name change))
resource_operands version resource.Clear = two name_in (node_in version) (λ name n. Act (Clear name n))
resource_operands version resource.Status = none (Status ResourceStatus)

-- clq add D, remove D, enable device D, disable device D, enable node N, disable node N, status
abbrev pub device_operands : DeviceChange → List (List ℕ) → Option AdminCommand
device_operands change = one device_in (λ d. Change (Device d change))

abbrev pub device_flag : Bool → DeviceChange
device_flag true = device.Enable
device_flag false = device.Disable

abbrev pub voter_operands : Version → Bool → Voter → List (List ℕ) → Option AdminCommand
voter_operands version enable voter.Device = device_operands (device_flag enable)
voter_operands version enable voter.Node = one (node_in version) (λ n. Change (NodeVote n enable))

abbrev pub voters : Version → Bool → List (List ℕ) → Spelled
voters version enable = by_word voter_in (λ v. 1) (voter_operands version enable)

abbrev pub quorum_chosen : Version → List (List ℕ) → Option QuorumCommand → Spelled
quorum_chosen version words None = Err UnknownCommand
quorum_chosen version words (Some quorum.Add) = counted 1 (device_operands device.Add) words
quorum_chosen version words (Some quorum.Remove) = counted 1 (device_operands device.Remove) words
quorum_chosen version words (Some quorum.Enable) = voters version true words
quorum_chosen version words (Some quorum.Disable) = voters version false words
quorum_chosen version words (Some quorum.Status) = counted 0 (none (Status QuorumStatus)) words

abbrev pub quorum_by_word : Version → List (List ℕ) → Spelled
quorum_by_word version [] = Err UnknownCommand
quorum_by_word version (word ∷ words) = quorum_chosen version words (quorum_command_in word)

-- clnode add N, remove N, create-loadlimit N LIMIT SOFT HARD, delete-loadlimit N LIMIT
abbrev pub node_least : NodeCommand → ℕ
node_least node.Add = 1
node_least node.Remove = 1
node_least node.CreateLimit = 4
node_least node.DeleteLimit = 2

abbrev pub limit_in : Version → List (List ℕ) → Option AdminCommand
limit_in version (n ∷ limit ∷ soft ∷ hard ∷ []) =
    and_then (node_in version n) (λ n. and_then (name_in limit) (λ limit. and_then (load_in soft) (λ soft. option_map (λ hard. Change (CreateLimit n limit soft hard)) (load_in hard))))
limit_in version _ = None

abbrev pub node_operands : Version → NodeCommand → List (List ℕ) → Option AdminCommand
node_operands version node.Add = one (node_in version) (λ n. Change (AddNode n))
node_operands version node.Remove = one (node_in version) (λ n. Change (RemoveNode n))
node_operands version node.CreateLimit = limit_in version
node_operands version node.DeleteLimit = two (node_in version) name_in (λ n limit. Change (DeleteLimit n limit))

-- clsa create A G POLICY, delete A, weights A LIST
abbrev pub address_least : AddressCommand → ℕ
address_least address.Create = 3
address_least address.Delete = 1
address_least address.Weights = 2

abbrev pub address_operands : Version → AddressCommand → List (List ℕ) → Option AdminCommand
address_operands version address.Create = three name_in name_in policy_in (λ name of_group policy. Change (CreateAddress name of_group policy))
address_operands version address.Delete = one name_in (λ name. Change (DeleteAddress name))
address_operands version address.Weights = two name_in (weights_in version) (λ name weights. Change (SetWeights name weights))

-- the commands of each tool
abbrev pub by_tool : Version → List (List ℕ) → Option Tool → Spelled
by_tool version words None = Err UnknownCommand
by_tool version words (Some tool.Types) = by_word type_command_in type_least type_operands words
by_tool version words (Some tool.Groups) = by_word group_command_in group_least (group_operands version) words
by_tool version words (Some tool.Resources) = by_word resource_command_in resource_least (resource_operands version) words
by_tool version words (Some tool.Quorum) = quorum_by_word version words
by_tool version words (Some tool.Tables) = counted 1 (one name_in (λ name. Rows name)) words
by_tool version words (Some tool.Nodes) = by_word node_command_in node_least (node_operands version) words
by_tool version words (Some tool.Addresses) = by_word address_command_in address_least (address_operands version) words

-- the command that words spell
unfoldable pub command_in : Version → List (List ℕ) → Spelled
command_in version [] = Err UnknownCommand
command_in version (word ∷ words) = by_tool version words (tool_in version word)

-- the words are cut at each space (32)
abbrev pub command_of : Version → List ℕ → Spelled
command_of version bytes = command_in version (parts_at 32 bytes)

-- a node asks for updates and for acts, and for no more
abbrev pub as_request : Spelled → Result Request WordError
as_request (Ok (Change u)) = Ok (request.Change u)
as_request (Ok (Act a)) = Ok (request.Act a)
as_request (Ok (Status q)) = Err UnknownCommand
as_request (Ok (Rows name)) = Err UnknownCommand
as_request (Err e) = Err e

-- the one operand of `restart` and `move`
abbrev pub name_or_bad : Option (List ℕ) → Result (List ℕ) WordError
name_or_bad None = Err BadValue
name_or_bad (Some name) = Ok name

abbrev pub name_request : List (List ℕ) → Result (List ℕ) WordError
name_request [] = Err MissingOperand
name_request (name ∷ more) = name_or_bad (one name_in (λ n. n) (name ∷ more))

abbrev pub acting : (List ℕ → Ask) → Result (List ℕ) WordError → Result Request WordError
acting ask (Ok name) = Ok (request.Act (ask name))
acting ask (Err e) = Err e

-- restart R, move R, and the commands
unfoldable pub request_in : Version → List (List ℕ) → Result Request WordError
request_in version [] = Err UnknownCommand
request_in version (word ∷ words) =
    if bytes_eq word (codes "restart") then acting Restart (name_request words)
    else if bytes_eq word (codes "move") then acting Move (name_request words)
    else as_request (command_in version (word ∷ words))

abbrev pub request_of : Version → List ℕ → Result Request WordError
request_of version bytes = request_in version (parts_at 32 bytes)
