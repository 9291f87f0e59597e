-- What is read as a command and is no update has the form of one: its operands are names and nodes.
use Rattle.std.proofs.Common.{◌≡◌, ℕ, nat_lt, Bool, true, false, if◌then◌else◌, List, [], ◌∷◌, length, Option, Some, None, Ok, Err, subst}
use Rattle.std.specs.Option.{option_map}
use Rattle.cl_base.specs.Names.{IsName}
use Rattle.cl_base.specs.declared.command.Ask.TheVariants.{Remaster, Evacuate, Clear}
use Rattle.cl_base.specs.declared.command.Query.TheVariants.{GroupStatus, ResourceStatus, QuorumStatus}
use Rattle.cl_base.specs.declared.header.Version.{Version}
use Rattle.ccr_tables.specs.declared.command.AdminCommand.{AdminCommand}
use Rattle.ccr_tables.specs.declared.command.AdminCommand.TheVariants.{Change, Act, Status, Rows}
use Rattle.ccr_tables.specs.declared.update.DeviceChange.{DeviceChange}
use Rattle.ccr_tables.specs.declared.update.DeviceChange.TheVariants as device
use Rattle.ccr_tables.specs.declared.update.Update.TheVariants.{UnregisterType, CreateGroup, DeleteGroup, SetGroup, ChangeGroup, SwitchGroup, CreateResource, DeleteResource, SetResource, ChangeResource, Device, NodeVote, AddNode, RemoveNode, DeleteLimit, CreateAddress, DeleteAddress, SetWeights}
use Rattle.rg_props.specs.Values.{and_then, most_of, nodes_in}
use Rattle.rg_props.specs.Words.{name_in, parts_at}
use Rattle.admin_words.specs.declared.error.WordError.TheVariants.{MissingOperand}
use Rattle.admin_words.specs.Answers.{by_word, chosen, counted, read_as}
use Rattle.admin_words.specs.Commands.{address_least, address_operands, by_tool, command_in, command_of, device_flag, device_operands, group_least, group_operands, limit_in, node_least, node_operands, quorum_by_word, quorum_chosen, register_in, resource_least, resource_operands, type_least, type_operands, voter_operands}
use Rattle.admin_words.specs.Methods.{methods_in}
use Rattle.admin_words.specs.Operands.{device_in, flags_in, load_in, node_in, none, one, policy_in, three, two, weights_in, word_in}
use Rattle.admin_words.specs.Spellings.{address_command_in, group_command_in, node_command_in, quorum_command_in, resource_command_in, tool_in, type_command_in, voter_in}
use Rattle.admin_words.specs.declared.command.AddressCommand.{AddressCommand}
use Rattle.admin_words.specs.declared.command.AddressCommand.TheVariants as address
use Rattle.admin_words.specs.declared.command.GroupCommand.{GroupCommand}
use Rattle.admin_words.specs.declared.command.GroupCommand.TheVariants as group
use Rattle.admin_words.specs.declared.command.NodeCommand.{NodeCommand}
use Rattle.admin_words.specs.declared.command.NodeCommand.TheVariants as node
use Rattle.admin_words.specs.declared.command.QuorumCommand.{QuorumCommand}
use Rattle.admin_words.specs.declared.command.QuorumCommand.TheVariants as quorum
use Rattle.admin_words.specs.declared.command.ResourceCommand.{ResourceCommand}
use Rattle.admin_words.specs.declared.command.ResourceCommand.TheVariants as resource
use Rattle.admin_words.specs.declared.command.Tool.{Tool}
use Rattle.admin_words.specs.declared.command.Tool.TheVariants as tool
use Rattle.admin_words.specs.declared.command.TypeCommand.{TypeCommand}
use Rattle.admin_words.specs.declared.command.TypeCommand.TheVariants as types
use Rattle.admin_words.specs.declared.command.Voter.{Voter}
use Rattle.admin_words.specs.declared.command.Voter.TheVariants as voter
use Rattle.word_laws.specs.Spelled.{IsNodeOf}
use Rattle.word_laws.proofs.Forms.{OnSome, name_reads, node_reads, on_map, on_more, on_then}
use Rattle.history_setting.specs.Forms.{AnswerForm, CommandForm}

abbrev Good : Version → Option AdminCommand → Type 0
Good v o = OnSome (CommandForm v) o

-- ---- operands

whatever : {A : Type 0} (P : A → Type 0) (o : Option A) → ((a : A) → P a) → OnSome P o
whatever P None f = tt
whatever P (Some a) f = f a

-- operands of whatever form
map_any : {A : Type 0} (v : Version) (make : A → AdminCommand) (o : Option A) → ((a : A) → CommandForm v (make a)) → Good v (option_map make o)
map_any v make o f = on_map (CommandForm v) make o (whatever (λ a. CommandForm v (make a)) o f)

then_any : {A : Type 0} (v : Version) (go : A → Option AdminCommand) (o : Option A) → ((a : A) → Good v (go a)) → Good v (and_then o go)
then_any v go o f = on_then (CommandForm v) go o (whatever (λ a. Good v (go a)) o f)

one_any : {A : Type 0} (v : Version) (read : List ℕ → Option A) (make : A → AdminCommand) (ws : List (List ℕ)) → ((a : A) → CommandForm v (make a)) → Good v (one read make ws)
one_any v read make [] f = tt
one_any v read make (w ∷ []) f = map_any v make (read w) f
one_any v read make (w ∷ x ∷ ws) f = tt

two_any : {A B : Type 0} (v : Version) (first : List ℕ → Option A) (second : List ℕ → Option B) (make : A → B → AdminCommand) (ws : List (List ℕ)) → ((a : A) (b : B) → CommandForm v (make a b))
    → Good v (two first second make ws)
two_any v first second make [] f = tt
two_any v first second make (w ∷ []) f = tt
two_any v first second make (w ∷ x ∷ []) f = then_any v (λ a. option_map (λ b. make a b) (second x)) (first w) (λ a. map_any v (λ b. make a b) (second x) (f a))
two_any v first second make (w ∷ x ∷ y ∷ ws) f = tt

three_any : {A B C : Type 0} (v : Version) (first : List ℕ → Option A) (second : List ℕ → Option B) (third : List ℕ → Option C) (make : A → B → C → AdminCommand) (ws : List (List ℕ))
    → ((a : A) (b : B) (c : C) → CommandForm v (make a b c)) → Good v (three first second third make ws)
three_any v first second third make [] f = tt
three_any v first second third make (w ∷ []) f = tt
three_any v first second third make (w ∷ x ∷ []) f = tt
three_any v first second third make (w ∷ x ∷ y ∷ []) f =
    then_any v (λ a. and_then (second x) (λ b. option_map (λ c. make a b c) (third y))) (first w)
    (λ a. then_any v (λ b. option_map (λ c. make a b c) (third y)) (second x) (λ b. map_any v (λ c. make a b c) (third y) (f a b)))
three_any v first second third make (w ∷ x ∷ y ∷ z ∷ ws) f = tt

-- operands of a form
one_of : {A : Type 0} (v : Version) (P : A → Type 0) (read : List ℕ → Option A) (make : A → AdminCommand) (ws : List (List ℕ)) → ((w : List ℕ) → OnSome P (read w))
    → ((a : A) → P a → CommandForm v (make a)) → Good v (one read make ws)
one_of v P read make [] r f = tt
one_of v P read make (w ∷ []) r f = on_map (CommandForm v) make (read w) (on_more P (λ a. CommandForm v (make a)) (read w) f (r w))
one_of v P read make (w ∷ x ∷ ws) r f = tt

clear_of : (v : Version) (ws : List (List ℕ)) → Good v (two name_in (node_in v) (λ name n. Act (Clear name n)) ws)
clear_of v [] = tt
clear_of v (w ∷ []) = tt
clear_of v (w ∷ x ∷ []) =
    on_then (CommandForm v) (λ name. option_map (λ n. Act (Clear name n)) (node_in v x)) (name_in w)
    (on_more IsName (λ name. Good v (option_map (λ n. Act (Clear name n)) (node_in v x))) (name_in w)
    (λ name is. on_map (CommandForm v) (λ n. Act (Clear name n)) (node_in v x) (on_more (IsNodeOf v) (λ n. CommandForm v (Act (Clear name n))) (node_in v x) (λ n one. (is, one)) (node_reads v x)))
    (name_reads w))
clear_of v (w ∷ x ∷ y ∷ ws) = tt

none_of : (v : Version) (command : AdminCommand) (ws : List (List ℕ)) → CommandForm v command → Good v (none command ws)
none_of v command [] h = h
none_of v command (w ∷ ws) h = tt

-- ---- the commands of each tool

register_of : (v : Version) (ws : List (List ℕ)) → Good v (register_in ws)
register_of v [] = tt
register_of v (name ∷ []) = tt
register_of v (name ∷ agent ∷ []) = tt
register_of v (name ∷ agent ∷ methods ∷ flags) =
    then_any v _ (name_in name) (λ n. then_any v _ (name_in agent) (λ a. then_any v _ (methods_in methods) (λ m. map_any v _ (flags_in flags) (λ f. tt))))

type_of : (v : Version) (command : TypeCommand) (ws : List (List ℕ)) → Good v (type_operands command ws)
type_of v types.Register ws = register_of v ws
type_of v types.Unregister ws = one_any v name_in (λ name. Change (UnregisterType name)) ws (λ n. tt)

group_of : (v : Version) (command : GroupCommand) (ws : List (List ℕ)) → Good v (group_operands v command ws)
group_of v group.Create ws = two_any v name_in (nodes_in (most_of v)) (λ name nodes. Change (CreateGroup name nodes)) ws (λ n ns. tt)
group_of v group.Delete ws = one_any v name_in (λ name. Change (DeleteGroup name)) ws (λ n. tt)
group_of v group.Set ws = three_any v name_in word_in word_in (λ name property value. Change (SetGroup name property value)) ws (λ n a b. tt)
group_of v (group.Change change) ws = one_any v name_in (λ name. Change (ChangeGroup name change)) ws (λ n. tt)
group_of v group.Switch ws = two_any v name_in (nodes_in (most_of v)) (λ name nodes. Change (SwitchGroup name nodes)) ws (λ n ns. tt)
group_of v group.Remaster ws = one_of v IsName name_in (λ name. Act (Remaster name)) ws name_reads (λ n is. is)
group_of v group.Evacuate ws = one_of v (IsNodeOf v) (node_in v) (λ n. Act (Evacuate n)) ws (node_reads v) (λ n is. is)
group_of v group.Status ws = none_of v (Status GroupStatus) ws tt

resource_of : (v : Version) (command : ResourceCommand) (ws : List (List ℕ)) → Good v (resource_operands v command ws)
resource_of v resource.Create ws = three_any v name_in name_in name_in (λ name of_group of_type. Change (CreateResource name of_group of_type)) ws (λ a b c. tt)
resource_of v resource.Delete ws = one_any v name_in (λ name. Change (DeleteResource name)) ws (λ n. tt)
resource_of v resource.Set ws = three_any v name_in word_in word_in (λ name property value. Change (SetResource name property value)) ws (λ n a b. tt)
resource_of v (resource.Change change) ws = one_any v name_in (λ name. Change (ChangeResource name change)) ws (λ n. tt)
resource_of v resource.Clear ws = clear_of v ws
resource_of v resource.Status ws = none_of v (Status ResourceStatus) ws tt

change_of : (v : Version) (change : DeviceChange) (ws : List (List ℕ)) → Good v (device_operands change ws)
change_of v change ws = one_any v device_in (λ d. Change (Device d change)) ws (λ d. tt)

vote_of : (v : Version) (enable : Bool) (command : Voter) (ws : List (List ℕ)) → Good v (voter_operands v enable command ws)
vote_of v enable voter.Device ws = change_of v (device_flag enable) ws
vote_of v enable voter.Node ws = one_any v (node_in v) (λ n. Change (NodeVote n enable)) ws (λ n. tt)

limit_of : (v : Version) (ws : List (List ℕ)) → Good v (limit_in v ws)
limit_of v [] = tt
limit_of v (a ∷ []) = tt
limit_of v (a ∷ b ∷ []) = tt
limit_of v (a ∷ b ∷ c ∷ []) = tt
limit_of v (a ∷ b ∷ c ∷ d ∷ e ∷ ws) = tt
limit_of v (n ∷ limit ∷ soft ∷ hard ∷ []) =
    then_any v _ (node_in v n) (λ k. then_any v _ (name_in limit) (λ l. then_any v _ (load_in soft) (λ a. map_any v _ (load_in hard) (λ b. tt))))

node_of : (v : Version) (command : NodeCommand) (ws : List (List ℕ)) → Good v (node_operands v command ws)
node_of v node.Add ws = one_any v (node_in v) (λ n. Change (AddNode n)) ws (λ n. tt)
node_of v node.Remove ws = one_any v (node_in v) (λ n. Change (RemoveNode n)) ws (λ n. tt)
node_of v node.CreateLimit ws = limit_of v ws
node_of v node.DeleteLimit ws = two_any v (node_in v) name_in (λ n limit. Change (DeleteLimit n limit)) ws (λ n l. tt)

address_of : (v : Version) (command : AddressCommand) (ws : List (List ℕ)) → Good v (address_operands v command ws)
address_of v address.Create ws = three_any v name_in name_in policy_in (λ name of_group policy. Change (CreateAddress name of_group policy)) ws (λ a b c. tt)
address_of v address.Delete ws = one_any v name_in (λ name. Change (DeleteAddress name)) ws (λ n. tt)
address_of v address.Weights ws = two_any v name_in (weights_in v) (λ name weights. Change (SetWeights name weights)) ws (λ n x. tt)

-- ---- the words of a command

read_of : (v : Version) (o : Option AdminCommand) → Good v o → AnswerForm v (read_as o)
read_of v None h = tt
read_of v (Some command) h = h

counted_of : (v : Version) (least : ℕ) (operands : List (List ℕ) → Option AdminCommand) (ws : List (List ℕ)) → Good v (operands ws) → AnswerForm v (counted least operands ws)
counted_of v least operands ws h = by_test (nat_lt (length ws) least)
  where
    by_test : (b : Bool) → AnswerForm v (if b then Err MissingOperand else read_as (operands ws))
    by_test true = tt
    by_test false = read_of v (operands ws) h

chosen_of : {C : Type 0} (v : Version) (least : C → ℕ) (operands : C → List (List ℕ) → Option AdminCommand) (ws : List (List ℕ)) (o : Option C)
    → ((command : C) → Good v (operands command ws)) → AnswerForm v (chosen least operands ws o)
chosen_of v least operands ws None h = tt
chosen_of v least operands ws (Some command) h = counted_of v (least command) (operands command) ws (h command)

word_of : {C : Type 0} (v : Version) (read : List ℕ → Option C) (least : C → ℕ) (operands : C → List (List ℕ) → Option AdminCommand) (ws : List (List ℕ))
    → ((command : C) (rest : List (List ℕ)) → Good v (operands command rest)) → AnswerForm v (by_word read least operands ws)
word_of v read least operands [] good = tt
word_of v read least operands (w ∷ ws) good = chosen_of v least operands ws (read w) (λ command. good command ws)

quorum_of : (v : Version) (ws : List (List ℕ)) (o : Option QuorumCommand) → AnswerForm v (quorum_chosen v ws o)
quorum_of v ws None = tt
quorum_of v ws (Some quorum.Add) = counted_of v 1 (device_operands device.Add) ws (change_of v device.Add ws)
quorum_of v ws (Some quorum.Remove) = counted_of v 1 (device_operands device.Remove) ws (change_of v device.Remove ws)
quorum_of v ws (Some quorum.Enable) = word_of v voter_in (λ c. 1) (voter_operands v true) ws (vote_of v true)
quorum_of v ws (Some quorum.Disable) = word_of v voter_in (λ c. 1) (voter_operands v false) ws (vote_of v false)
quorum_of v ws (Some quorum.Status) = counted_of v 0 (none (Status QuorumStatus)) ws (none_of v (Status QuorumStatus) ws tt)

quorum_words_of : (v : Version) (ws : List (List ℕ)) → AnswerForm v (quorum_by_word v ws)
quorum_words_of v [] = tt
quorum_words_of v (w ∷ ws) = quorum_of v ws (quorum_command_in w)

tool_of : (v : Version) (ws : List (List ℕ)) (o : Option Tool) → AnswerForm v (by_tool v ws o)
tool_of v ws None = tt
tool_of v ws (Some tool.Types) = word_of v type_command_in type_least type_operands ws (type_of v)
tool_of v ws (Some tool.Groups) = word_of v group_command_in group_least (group_operands v) ws (group_of v)
tool_of v ws (Some tool.Resources) = word_of v resource_command_in resource_least (resource_operands v) ws (resource_of v)
tool_of v ws (Some tool.Quorum) = quorum_words_of v ws
tool_of v ws (Some tool.Tables) = counted_of v 1 (one name_in (λ name. Rows name)) ws (one_of v IsName name_in (λ name. Rows name) ws name_reads (λ n is. is))
tool_of v ws (Some tool.Nodes) = word_of v node_command_in node_least (node_operands v) ws (node_of v)
tool_of v ws (Some tool.Addresses) = word_of v address_command_in address_least (address_operands v) ws (address_of v)

words_of : (v : Version) (ws : List (List ℕ)) → AnswerForm v (command_in v ws)
unfolding command_in
words_of v [] = tt
words_of v (w ∷ ws) = tool_of v ws (tool_in v w)

pub command_form : (v : Version) (text : List ℕ) (command : AdminCommand) → command_of v text ≡ Ok command → CommandForm v command
command_form v text command e = subst (AnswerForm v) e (words_of v (parts_at 32 text))
