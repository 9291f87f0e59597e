-- The canonical words of updates and of what else is asked for: those of the command, with one space between.
use Rattle.std.specs.Prelude.{ℕ, Bool, true, false, List, [], ◌∷◌, ◌++◌, codes}
use Rattle.std.specs.Fmt.{decimal}
use Rattle.cl_base.specs.declared.command.Ask.{Ask}
use Rattle.cl_base.specs.declared.command.Ask.TheVariants.{Restart, Move, Remaster, Evacuate, Clear}
use Rattle.cl_base.specs.declared.command.Policy.{Policy}
use Rattle.cl_base.specs.declared.command.Policy.TheVariants.{Weighted, Sticky, StickyPort}
use Rattle.ccr_tables.specs.declared.address.Weight.{Weight}
use Rattle.ccr_tables.specs.declared.update.DeviceChange.{DeviceChange}
use Rattle.ccr_tables.specs.declared.update.DeviceChange.TheVariants as device
use Rattle.ccr_tables.specs.declared.update.GroupChange.{GroupChange}
use Rattle.ccr_tables.specs.declared.update.GroupChange.TheVariants as group
use Rattle.ccr_tables.specs.declared.update.ResourceChange.{ResourceChange}
use Rattle.ccr_tables.specs.declared.update.ResourceChange.TheVariants as resource
use Rattle.ccr_tables.specs.declared.update.Update.{Update}
use Rattle.ccr_tables.specs.declared.update.Update.TheVariants.{RegisterType, UnregisterType, CreateGroup, DeleteGroup, SetGroup, ChangeGroup, SwitchGroup, CreateResource, DeleteResource, SetResource, ChangeResource, Device, NodeVote, AddNode, RemoveNode, CreateLimit, DeleteLimit, CreateAddress, DeleteAddress, SetWeights}
use Rattle.update_words.specs.Joined.{joined, spaced}
use Rattle.update_words.specs.Methods.{methods_text}

-- N,N,..
abbrev pub nodes_text : List ℕ → List ℕ
nodes_text nodes = joined 44 decimal nodes

-- W@N,W@N,..
abbrev pub weight_text : Weight → List ℕ
weight_text w = decimal w.weight ++ 64 ∷ decimal w.node

abbrev pub weights_text : List Weight → List ℕ
weights_text weights = joined 44 weight_text weights

-- the word, where it is so
abbrev pub word_if : Bool → List ℕ → List (List ℕ)
word_if true word = word ∷ []
word_if false word = []

-- the two flags of a resource type, in this order
unfoldable pub flag_words : Bool → Bool → List (List ℕ)
flag_words single failover = word_if single (codes "single") ++ word_if failover (codes "failover")

-- what a command that sets or clears a flag is called
abbrev pub group_word : GroupChange → List ℕ
group_word group.Manage = codes "manage"
group_word group.Unmanage = codes "unmanage"
group_word group.Online = codes "online"
group_word group.Offline = codes "offline"
group_word group.Suspend = codes "suspend"
group_word group.Resume = codes "resume"

abbrev pub resource_word : ResourceChange → List ℕ
resource_word resource.Enable = codes "enable"
resource_word resource.Disable = codes "disable"
resource_word resource.Monitor = codes "monitor"
resource_word resource.Unmonitor = codes "unmonitor"

-- the words of a command on a device in front of the device's number
abbrev pub device_words : DeviceChange → List (List ℕ)
device_words device.Add = codes "add" ∷ []
device_words device.Remove = codes "remove" ∷ []
device_words device.Enable = codes "enable" ∷ codes "device" ∷ []
device_words device.Disable = codes "disable" ∷ codes "device" ∷ []

-- whether a node is to have a vote
abbrev pub vote_word : Bool → List ℕ
vote_word true = codes "enable"
vote_word false = codes "disable"

abbrev pub policy_text : Policy → List ℕ
policy_text Weighted = codes "LB_WEIGHTED"
policy_text Sticky = codes "LB_STICKY"
policy_text StickyPort = codes "STICKY_PORT"

-- the words of each command, one after the other
abbrev pub command_words : Update → List (List ℕ)
command_words (RegisterType name agent methods single failover) =
    codes "clrt" ∷ codes "register" ∷ name ∷ agent ∷ methods_text methods ∷ flag_words single failover
command_words (UnregisterType name) = codes "clrt" ∷ codes "unregister" ∷ name ∷ []
command_words (CreateGroup name nodes) = codes "clrg" ∷ codes "create" ∷ name ∷ nodes_text nodes ∷ []
command_words (DeleteGroup name) = codes "clrg" ∷ codes "delete" ∷ name ∷ []
command_words (SetGroup name property value) = codes "clrg" ∷ codes "set" ∷ name ∷ property ∷ value ∷ []
command_words (ChangeGroup name change) = codes "clrg" ∷ group_word change ∷ name ∷ []
command_words (SwitchGroup name nodes) = codes "clrg" ∷ codes "switch" ∷ name ∷ nodes_text nodes ∷ []
command_words (CreateResource name of_group of_type) = codes "clrs" ∷ codes "create" ∷ name ∷ of_group ∷ of_type ∷ []
command_words (DeleteResource name) = codes "clrs" ∷ codes "delete" ∷ name ∷ []
command_words (SetResource name property value) = codes "clrs" ∷ codes "set" ∷ name ∷ property ∷ value ∷ []
command_words (ChangeResource name change) = codes "clrs" ∷ resource_word change ∷ name ∷ []
command_words (Device d change) = codes "clq" ∷ device_words change ++ decimal d ∷ []
command_words (NodeVote n vote) = codes "clq" ∷ vote_word vote ∷ codes "node" ∷ decimal n ∷ []
command_words (AddNode n) = codes "clnode" ∷ codes "add" ∷ decimal n ∷ []
command_words (RemoveNode n) = codes "clnode" ∷ codes "remove" ∷ decimal n ∷ []
command_words (CreateLimit n limit soft hard) = codes "clnode" ∷ codes "create-loadlimit" ∷ decimal n ∷ limit ∷ decimal soft ∷ decimal hard ∷ []
command_words (DeleteLimit n limit) = codes "clnode" ∷ codes "delete-loadlimit" ∷ decimal n ∷ limit ∷ []
command_words (CreateAddress name of_group policy) = codes "clsa" ∷ codes "create" ∷ name ∷ of_group ∷ policy_text policy ∷ []
command_words (DeleteAddress name) = codes "clsa" ∷ codes "delete" ∷ name ∷ []
command_words (SetWeights name weights) = codes "clsa" ∷ codes "weights" ∷ name ∷ weights_text weights ∷ []

-- the words of what is asked for besides updates; a node asks for a restart and for a move by itself
abbrev pub request_words : Ask → List (List ℕ)
request_words (Restart resource) = codes "restart" ∷ resource ∷ []
request_words (Move resource) = codes "move" ∷ resource ∷ []
request_words (Remaster name) = codes "clrg" ∷ codes "remaster" ∷ name ∷ []
request_words (Evacuate node) = codes "clrg" ∷ codes "evacuate" ∷ decimal node ∷ []
request_words (Clear resource node) = codes "clrs" ∷ codes "clear" ∷ resource ∷ decimal node ∷ []

abbrev pub words_of : Update → List ℕ
words_of u = spaced (command_words u)

abbrev pub ask_words_of : Ask → List ℕ
ask_words_of a = spaced (request_words a)
