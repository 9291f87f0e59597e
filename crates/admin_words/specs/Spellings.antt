-- The first words of the commands.
use Rattle.std.specs.Prelude.{ℕ, Bool, true, false, List, Option, Some, None, codes, if◌then◌else◌}
use Rattle.std.specs.Str.{bytes_eq}
use Rattle.cl_base.specs.declared.header.Version.{Version}
use Rattle.cl_base.specs.declared.header.Version.TheVariants.{One, Two}
use Rattle.ccr_tables.specs.declared.update.GroupChange.TheVariants as change
use Rattle.ccr_tables.specs.declared.update.ResourceChange.TheVariants as flag
use Rattle.admin_words.specs.declared.command.Tool.{Tool}
use Rattle.admin_words.specs.declared.command.Tool.TheVariants as tool
use Rattle.admin_words.specs.declared.command.TypeCommand.{TypeCommand}
use Rattle.admin_words.specs.declared.command.TypeCommand.TheVariants as types
use Rattle.admin_words.specs.declared.command.GroupCommand.{GroupCommand}
use Rattle.admin_words.specs.declared.command.GroupCommand.TheVariants as group
use Rattle.admin_words.specs.declared.command.ResourceCommand.{ResourceCommand}
use Rattle.admin_words.specs.declared.command.ResourceCommand.TheVariants as resource
use Rattle.admin_words.specs.declared.command.QuorumCommand.{QuorumCommand}
use Rattle.admin_words.specs.declared.command.QuorumCommand.TheVariants as quorum
use Rattle.admin_words.specs.declared.command.Voter.{Voter}
use Rattle.admin_words.specs.declared.command.Voter.TheVariants as voter
use Rattle.admin_words.specs.declared.command.NodeCommand.{NodeCommand}
use Rattle.admin_words.specs.declared.command.NodeCommand.TheVariants as node
use Rattle.admin_words.specs.declared.command.AddressCommand.{AddressCommand}
use Rattle.admin_words.specs.declared.command.AddressCommand.TheVariants as address

-- what a first word names
unfoldable pub tool_named : List ℕ → Option Tool
tool_named word =
    if bytes_eq word (codes "clrt") then Some tool.Types
    else if bytes_eq word (codes "clrg") then Some tool.Groups
    else if bytes_eq word (codes "clrs") then Some tool.Resources
    else if bytes_eq word (codes "clq") then Some tool.Quorum
    else if bytes_eq word (codes "ccr") then Some tool.Tables
    else if bytes_eq word (codes "clnode") then Some tool.Nodes
    else if bytes_eq word (codes "clsa") then Some tool.Addresses
    else None

-- commands on nodes and on shared addresses are there from the second version on
abbrev pub is_of_version : Version → Tool → Bool
is_of_version One tool.Types = true
is_of_version One tool.Groups = true
is_of_version One tool.Resources = true
is_of_version One tool.Quorum = true
is_of_version One tool.Tables = true
is_of_version One tool.Nodes = false
is_of_version One tool.Addresses = false
is_of_version Two t = true

abbrev pub if_of_version : Version → Option Tool → Option Tool
if_of_version version None = None
if_of_version version (Some t) = if is_of_version version t then Some t else None

abbrev pub tool_in : Version → List ℕ → Option Tool
tool_in version word = if_of_version version (tool_named word)

-- the commands on resource types, groups, resources, votes, nodes and shared addresses by their second words
unfoldable pub type_command_in : List ℕ → Option TypeCommand
type_command_in word =
    if bytes_eq word (codes "register") then Some types.Register
    else if bytes_eq word (codes "unregister") then Some types.Unregister
    else None

unfoldable pub group_command_in : List ℕ → Option GroupCommand
group_command_in word =
    if bytes_eq word (codes "create") then Some group.Create
    else if bytes_eq word (codes "delete") then Some group.Delete
    else if bytes_eq word (codes "set") then Some group.Set
    else if bytes_eq word (codes "manage") then Some (group.Change change.Manage)
    else if bytes_eq word (codes "unmanage") then Some (group.Change change.Unmanage)
    else if bytes_eq word (codes "online") then Some (group.Change change.Online)
    else if bytes_eq word (codes "offline") then Some (group.Change change.Offline)
    else if bytes_eq word (codes "switch") then Some group.Switch
    else if bytes_eq word (codes "suspend") then Some (group.Change change.Suspend)
    else if bytes_eq word (codes "resume") then Some (group.Change change.Resume)
    else if bytes_eq word (codes "remaster") then Some group.Remaster
    else if bytes_eq word (codes "evacuate") then Some group.Evacuate
    else if bytes_eq word (codes "status") then Some group.Status
    else None

unfoldable pub resource_command_in : List ℕ → Option ResourceCommand
resource_command_in word =
    if bytes_eq word (codes "create") then Some resource.Create
    else if bytes_eq word (codes "delete") then Some resource.Delete
    else if bytes_eq word (codes "set") then Some resource.Set
    else if bytes_eq word (codes "enable") then Some (resource.Change flag.Enable)
    else if bytes_eq word (codes "disable") then Some (resource.Change flag.Disable)
    else if bytes_eq word (codes "monitor") then Some (resource.Change flag.Monitor)
    else if bytes_eq word (codes "unmonitor") then Some (resource.Change flag.Unmonitor)
    else if bytes_eq word (codes "clear") then Some resource.Clear
    else if bytes_eq word (codes "status") then Some resource.Status
    else None

unfoldable pub quorum_command_in : List ℕ → Option QuorumCommand
quorum_command_in word =
    if bytes_eq word (codes "add") then Some quorum.Add
    else if bytes_eq word (codes "remove") then Some quorum.Remove
    else if bytes_eq word (codes "enable") then Some quorum.Enable
    else if bytes_eq word (codes "disable") then Some quorum.Disable
    else if bytes_eq word (codes "status") then Some quorum.Status
    else None

-- what is enabled and disabled, the third word
unfoldable pub voter_in : List ℕ → Option Voter
voter_in word =
    if bytes_eq word (codes "device") then Some voter.Device
    else if bytes_eq word (codes "node") then Some voter.Node
    else None

unfoldable pub node_command_in : List ℕ → Option NodeCommand
node_command_in word =
    if bytes_eq word (codes "add") then Some node.Add
    else if bytes_eq word (codes "remove") then Some node.Remove
    else if bytes_eq word (codes "create-loadlimit") then Some node.CreateLimit
    else if bytes_eq word (codes "delete-loadlimit") then Some node.DeleteLimit
    else None

unfoldable pub address_command_in : List ℕ → Option AddressCommand
address_command_in word =
    if bytes_eq word (codes "create") then Some address.Create
    else if bytes_eq word (codes "delete") then Some address.Delete
    else if bytes_eq word (codes "weights") then Some address.Weights
    else None
