-- A clear that is asked for in words is of a name, and of a node.
use Rattle.std.specs.Prelude.{ℕ, ◌≤◌, nat_lt, Bool, true, false, List, [], ◌∷◌, Option, None, Some, Result, Ok, Err, codes, length}
use Rattle.std.proofs.Common.{arith}
use Rattle.std.specs.Option.{option_map}
use Rattle.std.specs.Str.{bytes_eq}
use Rattle.cl_base.specs.Names.{IsName}
use Rattle.cl_base.specs.declared.command.Ask.{Ask}
use Rattle.cl_base.specs.declared.command.Ask.TheVariants.{Restart, Move, Remaster, Evacuate, Clear}
use Rattle.cl_base.specs.declared.command.Query.TheVariants.{GroupStatus, ResourceStatus, QuorumStatus}
use Rattle.cl_base.specs.declared.header.Version.{Version}
use Rattle.cl_base.specs.declared.header.Version.TheVariants.{One, Two}
use Rattle.ccr_tables.specs.declared.command.AdminCommand.{AdminCommand}
use Rattle.ccr_tables.specs.declared.command.AdminCommand.TheVariants.{Change, Act, Status, Rows}
use Rattle.ccr_tables.specs.declared.update.DeviceChange.{DeviceChange}
use Rattle.ccr_tables.specs.declared.update.DeviceChange.TheVariants as device
use Rattle.ccr_tables.specs.declared.update.Update.TheVariants.{UnregisterType, CreateGroup, DeleteGroup, SetGroup, ChangeGroup, SwitchGroup, CreateResource, DeleteResource, SetResource, ChangeResource, Device, NodeVote, AddNode, RemoveNode, DeleteLimit, CreateAddress, DeleteAddress, SetWeights}
use Rattle.admin_words.specs.declared.command.AddressCommand.{AddressCommand}
use Rattle.admin_words.specs.declared.command.AddressCommand.TheVariants as address
use Rattle.admin_words.specs.declared.command.GroupCommand.{GroupCommand}
use Rattle.admin_words.specs.declared.command.GroupCommand.TheVariants as group
use Rattle.admin_words.specs.declared.command.NodeCommand.{NodeCommand}
use Rattle.admin_words.specs.declared.command.NodeCommand.TheVariants as node
use Rattle.admin_words.specs.declared.command.QuorumCommand.{QuorumCommand}
use Rattle.admin_words.specs.declared.command.QuorumCommand.TheVariants as quorum
use Rattle.admin_words.specs.declared.command.ResourceCommand.{ResourceCommand}
use Rattle.admin_words.specs.declared.command.ResourceCommand.TheVariants as resource
use Rattle.admin_words.specs.declared.command.Tool.{Tool}
use Rattle.admin_words.specs.declared.command.Tool.TheVariants as tool
use Rattle.admin_words.specs.declared.command.TypeCommand.{TypeCommand}
use Rattle.admin_words.specs.declared.command.TypeCommand.TheVariants as types
use Rattle.admin_words.specs.declared.command.Voter.{Voter}
use Rattle.admin_words.specs.declared.command.Voter.TheVariants as voter
use Rattle.admin_words.specs.declared.error.WordError.{WordError}
use Rattle.admin_words.specs.declared.error.WordError.TheVariants.{MissingOperand}
use Rattle.admin_words.specs.declared.request.Request.TheVariants as asked
use Rattle.admin_words.specs.declared.request.Request as wanted
use Rattle.admin_words.specs.Answers.{Spelled, by_word, chosen, counted, read_as}
use Rattle.admin_words.specs.Commands.{acting, address_least, address_operands, as_request, by_tool, command_in, device_flag, device_operands, group_least, group_operands, limit_in, name_request, node_least, node_operands, quorum_by_word, quorum_chosen, register_in, request_in, request_of, resource_least, resource_operands, type_least, type_operands, voter_operands}
use Rattle.admin_words.specs.Methods.{methods_in}
use Rattle.admin_words.specs.Operands.{device_in, flags_in, load_in, node_in, none, one, policy_in, three, two, weights_in, word_in}
use Rattle.admin_words.specs.Spellings.{address_command_in, group_command_in, node_command_in, quorum_command_in, resource_command_in, tool_in, type_command_in, voter_in}
use Rattle.cmm_attempt.proofs.Basics.{if_either}
use Rattle.rg_props.specs.Values.{and_then, most_of, nodes_in}
use Rattle.rg_props.specs.Words.{name_in, parts_at}
use Rattle.wire.specs.Spelling.{IsNode}
use Rattle.word_laws.specs.Spelled.{IsNodeOf}
use Rattle.word_laws.proofs.Forms.{OnSome, name_reads, node_reads}

-- what is asked for
abbrev pub AskFits : Ask → Type 0
AskFits (Clear r n) = IsName r × IsNode n
AskFits (Restart r) = Unit {0}
AskFits (Move r) = Unit {0}
AskFits (Remaster g) = Unit {0}
AskFits (Evacuate n) = Unit {0}

abbrev pub CommandFits : AdminCommand → Type 0
CommandFits (Change u) = Unit {0}
CommandFits (Act a) = AskFits a
CommandFits (Status q) = Unit {0}
CommandFits (Rows name) = Unit {0}

abbrev Reads : Option AdminCommand → Type 0
Reads None = Unit {0}
Reads (Some command) = CommandFits command

abbrev SpelledFits : Spelled → Type 0
SpelledFits (Ok command) = CommandFits command
SpelledFits (Err e) = Unit {0}

abbrev pub RequestFits : Result wanted.Request WordError → Type 0
RequestFits (Ok (asked.Change u)) = Unit {0}
RequestFits (Ok (asked.Act a)) = AskFits a
RequestFits (Err e) = Unit {0}

-- Operands.

mapped : {A : Type 0} (make : A → AdminCommand) (o : Option A) → ((a : A) → CommandFits (make a)) → Reads (option_map make o)
mapped make None f = tt
mapped make (Some a) f = f a

then_reads : {A : Type 0} (go : A → Option AdminCommand) (o : Option A) → ((a : A) → Reads (go a)) → Reads (and_then o go)
then_reads go None f = tt
then_reads go (Some a) f = f a

one_reads : {A : Type 0} (read : List ℕ → Option A) (make : A → AdminCommand) (ws : List (List ℕ)) → ((a : A) → CommandFits (make a)) → Reads (one read make ws)
one_reads read make [] f = tt
one_reads read make (w ∷ []) f = mapped make (read w) f
one_reads read make (w ∷ x ∷ ws) f = tt

two_reads : {A B : Type 0} (first : List ℕ → Option A) (second : List ℕ → Option B) (make : A → B → AdminCommand) (ws : List (List ℕ)) → ((a : A) (b : B) → CommandFits (make a b))
    → Reads (two first second make ws)
two_reads first second make [] f = tt
two_reads first second make (w ∷ []) f = tt
two_reads first second make (w ∷ x ∷ []) f = then_reads (λ a. option_map (λ b. make a b) (second x)) (first w) (λ a. mapped (λ b. make a b) (second x) (f a))
two_reads first second make (w ∷ x ∷ y ∷ ws) f = tt

three_reads : {A B C : Type 0} (first : List ℕ → Option A) (second : List ℕ → Option B) (third : List ℕ → Option C) (make : A → B → C → AdminCommand) (ws : List (List ℕ))
    → ((a : A) (b : B) (c : C) → CommandFits (make a b c)) → Reads (three first second third make ws)
three_reads first second third make [] f = tt
three_reads first second third make (w ∷ []) f = tt
three_reads first second third make (w ∷ x ∷ []) f = tt
three_reads first second third make (w ∷ x ∷ y ∷ []) f =
    then_reads (λ a. and_then (second x) (λ b. option_map (λ c. make a b c) (third y))) (first w)
    (λ a. then_reads (λ b. option_map (λ c. make a b c) (third y)) (second x) (λ b. mapped (λ c. make a b c) (third y) (f a b)))
three_reads first second third make (w ∷ x ∷ y ∷ z ∷ ws) f = tt

none_reads : (command : AdminCommand) (ws : List (List ℕ)) → CommandFits command → Reads (none command ws)
none_reads command [] h = h
none_reads command (w ∷ ws) h = tt

-- what is cleared is named, and so is the node

most_fits : (v : Version) (n : ℕ) → n ≤ most_of v → n ≤ 32
most_fits One n h = omega (arith, h)
most_fits Two n h = h

cleared : (v : Version) (name : Option (List ℕ)) (o : Option ℕ) → OnSome IsName name → OnSome (IsNodeOf v) o
    → Reads (and_then name (λ r. option_map (λ n. Act (Clear r n)) o))
cleared v None o is h = tt
cleared v (Some r) None is h = tt
cleared v (Some r) (Some n) is h = (is, (h.low, most_fits v n h.high))

clear_reads : (v : Version) (ws : List (List ℕ)) → Reads (two name_in (node_in v) (λ name n. Act (Clear name n)) ws)
clear_reads v [] = tt
clear_reads v (w ∷ []) = tt
clear_reads v (w ∷ x ∷ []) = cleared v (name_in w) (node_in v x) (name_reads w) (node_reads v x)
clear_reads v (w ∷ x ∷ y ∷ ws) = tt

-- The commands of each tool.

register_reads : (ws : List (List ℕ)) → Reads (register_in ws)
register_reads [] = tt
register_reads (name ∷ []) = tt
register_reads (name ∷ agent ∷ []) = tt
register_reads (name ∷ agent ∷ methods ∷ flags) =
    then_reads _ (name_in name) (λ n. then_reads _ (name_in agent) (λ a. then_reads _ (methods_in methods) (λ m. mapped _ (flags_in flags) (λ f. tt))))

type_reads : (command : TypeCommand) (ws : List (List ℕ)) → Reads (type_operands command ws)
type_reads types.Register ws = register_reads ws
type_reads types.Unregister ws = one_reads name_in (λ name. Change (UnregisterType name)) ws (λ name. tt)

group_reads : (v : Version) (command : GroupCommand) (ws : List (List ℕ)) → Reads (group_operands v command ws)
group_reads v group.Create ws = two_reads name_in (nodes_in (most_of v)) (λ name nodes. Change (CreateGroup name nodes)) ws (λ name nodes. tt)
group_reads v group.Delete ws = one_reads name_in (λ name. Change (DeleteGroup name)) ws (λ name. tt)
group_reads v group.Set ws = three_reads name_in word_in word_in (λ name property value. Change (SetGroup name property value)) ws (λ name property value. tt)
group_reads v (group.Change change) ws = one_reads name_in (λ name. Change (ChangeGroup name change)) ws (λ name. tt)
group_reads v group.Switch ws = two_reads name_in (nodes_in (most_of v)) (λ name nodes. Change (SwitchGroup name nodes)) ws (λ name nodes. tt)
group_reads v group.Remaster ws = one_reads name_in (λ name. Act (Remaster name)) ws (λ name. tt)
group_reads v group.Evacuate ws = one_reads (node_in v) (λ n. Act (Evacuate n)) ws (λ n. tt)
group_reads v group.Status ws = none_reads (Status GroupStatus) ws tt

resource_reads : (v : Version) (command : ResourceCommand) (ws : List (List ℕ)) → Reads (resource_operands v command ws)
resource_reads v resource.Create ws = three_reads name_in name_in name_in (λ name of_group of_type. Change (CreateResource name of_group of_type)) ws (λ a b c. tt)
resource_reads v resource.Delete ws = one_reads name_in (λ name. Change (DeleteResource name)) ws (λ name. tt)
resource_reads v resource.Set ws = three_reads name_in word_in word_in (λ name property value. Change (SetResource name property value)) ws (λ name property value. tt)
resource_reads v (resource.Change change) ws = one_reads name_in (λ name. Change (ChangeResource name change)) ws (λ name. tt)
resource_reads v resource.Clear ws = clear_reads v ws
resource_reads v resource.Status ws = none_reads (Status ResourceStatus) ws tt

device_reads : (change : DeviceChange) (ws : List (List ℕ)) → Reads (device_operands change ws)
device_reads change ws = one_reads device_in (λ d. Change (Device d change)) ws (λ d. tt)

voter_reads : (v : Version) (enable : Bool) (command : Voter) (ws : List (List ℕ)) → Reads (voter_operands v enable command ws)
voter_reads v enable voter.Device ws = device_reads (device_flag enable) ws
voter_reads v enable voter.Node ws = one_reads (node_in v) (λ n. Change (NodeVote n enable)) ws (λ n. tt)

limit_reads : (v : Version) (ws : List (List ℕ)) → Reads (limit_in v ws)
limit_reads v [] = tt
limit_reads v (a ∷ []) = tt
limit_reads v (a ∷ b ∷ []) = tt
limit_reads v (a ∷ b ∷ c ∷ []) = tt
limit_reads v (n ∷ limit ∷ soft ∷ hard ∷ []) =
    then_reads _ (node_in v n) (λ k. then_reads _ (name_in limit) (λ l. then_reads _ (load_in soft) (λ a. mapped _ (load_in hard) (λ b. tt))))
limit_reads v (a ∷ b ∷ c ∷ d ∷ e ∷ ws) = tt

node_command_reads : (v : Version) (command : NodeCommand) (ws : List (List ℕ)) → Reads (node_operands v command ws)
node_command_reads v node.Add ws = one_reads (node_in v) (λ n. Change (AddNode n)) ws (λ n. tt)
node_command_reads v node.Remove ws = one_reads (node_in v) (λ n. Change (RemoveNode n)) ws (λ n. tt)
node_command_reads v node.CreateLimit ws = limit_reads v ws
node_command_reads v node.DeleteLimit ws = two_reads (node_in v) name_in (λ n limit. Change (DeleteLimit n limit)) ws (λ n limit. tt)

address_reads : (v : Version) (command : AddressCommand) (ws : List (List ℕ)) → Reads (address_operands v command ws)
address_reads v address.Create ws = three_reads name_in name_in policy_in (λ name of_group policy. Change (CreateAddress name of_group policy)) ws (λ a b c. tt)
address_reads v address.Delete ws = one_reads name_in (λ name. Change (DeleteAddress name)) ws (λ name. tt)
address_reads v address.Weights ws = two_reads name_in (weights_in v) (λ name weights. Change (SetWeights name weights)) ws (λ name weights. tt)

-- The words of a command.

read_fits : (o : Option AdminCommand) → Reads o → SpelledFits (read_as o)
read_fits None h = tt
read_fits (Some command) h = h

counted_fits : (least : ℕ) (operands : List (List ℕ) → Option AdminCommand) (ws : List (List ℕ)) → Reads (operands ws) → SpelledFits (counted least operands ws)
counted_fits least operands ws h = if_either SpelledFits (nat_lt (length ws) least) (Err MissingOperand) (read_as (operands ws)) tt (read_fits (operands ws) h)

chosen_fits : {C : Type 0} (least : C → ℕ) (operands : C → List (List ℕ) → Option AdminCommand) (ws : List (List ℕ)) (o : Option C) → ((command : C) → Reads (operands command ws))
    → SpelledFits (chosen least operands ws o)
chosen_fits least operands ws None h = tt
chosen_fits least operands ws (Some command) h = counted_fits (least command) (operands command) ws (h command)

by_word_fits : {C : Type 0} (read : List ℕ → Option C) (least : C → ℕ) (operands : C → List (List ℕ) → Option AdminCommand) (ws : List (List ℕ))
    → ((command : C) (rest : List (List ℕ)) → Reads (operands command rest)) → SpelledFits (by_word read least operands ws)
by_word_fits read least operands [] h = tt
by_word_fits read least operands (w ∷ ws) h = chosen_fits least operands ws (read w) (λ command. h command ws)

quorum_fits : (v : Version) (ws : List (List ℕ)) (o : Option QuorumCommand) → SpelledFits (quorum_chosen v ws o)
quorum_fits v ws None = tt
quorum_fits v ws (Some quorum.Add) = counted_fits 1 (device_operands device.Add) ws (device_reads device.Add ws)
quorum_fits v ws (Some quorum.Remove) = counted_fits 1 (device_operands device.Remove) ws (device_reads device.Remove ws)
quorum_fits v ws (Some quorum.Enable) = by_word_fits voter_in (λ c. 1) (voter_operands v true) ws (voter_reads v true)
quorum_fits v ws (Some quorum.Disable) = by_word_fits voter_in (λ c. 1) (voter_operands v false) ws (voter_reads v false)
quorum_fits v ws (Some quorum.Status) = counted_fits 0 (none (Status QuorumStatus)) ws (none_reads (Status QuorumStatus) ws tt)

quorum_words_fit : (v : Version) (ws : List (List ℕ)) → SpelledFits (quorum_by_word v ws)
quorum_words_fit v [] = tt
quorum_words_fit v (w ∷ ws) = quorum_fits v ws (quorum_command_in w)

tool_fits : (v : Version) (ws : List (List ℕ)) (o : Option Tool) → SpelledFits (by_tool v ws o)
tool_fits v ws None = tt
tool_fits v ws (Some tool.Types) = by_word_fits type_command_in type_least type_operands ws type_reads
tool_fits v ws (Some tool.Groups) = by_word_fits group_command_in group_least (group_operands v) ws (group_reads v)
tool_fits v ws (Some tool.Resources) = by_word_fits resource_command_in resource_least (resource_operands v) ws (resource_reads v)
tool_fits v ws (Some tool.Quorum) = quorum_words_fit v ws
tool_fits v ws (Some tool.Tables) = counted_fits 1 (one name_in (λ name. Rows name)) ws (one_reads name_in (λ name. Rows name) ws (λ name. tt))
tool_fits v ws (Some tool.Nodes) = by_word_fits node_command_in node_least (node_operands v) ws (node_command_reads v)
tool_fits v ws (Some tool.Addresses) = by_word_fits address_command_in address_least (address_operands v) ws (address_reads v)

words_fit : (v : Version) (ws : List (List ℕ)) → SpelledFits (command_in v ws)
unfolding command_in
words_fit v [] = tt
words_fit v (w ∷ ws) = tool_fits v ws (tool_in v w)

-- The words of a request.

as_fits : (r : Spelled) → SpelledFits r → RequestFits (as_request r)
as_fits (Ok (Change u)) h = tt
as_fits (Ok (Act a)) h = h
as_fits (Ok (Status q)) h = tt
as_fits (Ok (Rows name)) h = tt
as_fits (Err e) h = tt

acting_fits : (ask : List ℕ → Ask) (r : Result (List ℕ) WordError) → ((name : List ℕ) → AskFits (ask name)) → RequestFits (acting ask r)
acting_fits ask (Ok name) h = h name
acting_fits ask (Err e) h = tt

request_fits : (v : Version) (ws : List (List ℕ)) → RequestFits (request_in v ws)
unfolding request_in
request_fits v [] = tt
request_fits v (w ∷ ws) =
    if_either RequestFits (bytes_eq w (codes "restart")) (acting Restart (name_request ws)) _ (acting_fits Restart (name_request ws) (λ name. tt))
    (if_either RequestFits (bytes_eq w (codes "move")) (acting Move (name_request ws)) (as_request (command_in v (w ∷ ws))) (acting_fits Move (name_request ws) (λ name. tt))
    (as_fits (command_in v (w ∷ ws)) (words_fit v (w ∷ ws))))

pub asked_fits : (v : Version) (text : List ℕ) → RequestFits (request_of v text)
asked_fits v text = request_fits v (parts_at 32 text)
