-- A command that is read from a short line has short canonical words.
use Rattle.std.specs.Prelude.{◌+◌, ◌*◌, IfSome}
use Rattle.std.proofs.Common.{arith, ◌≡◌, ℕ, ◌≤◌, nat_lt, Bool, true, false, if◌then◌else◌, List, [], ◌∷◌, length, Option, Some, None, Ok, Err, refl}
use Rattle.std.specs.List.{AllByRecursion}
use Rattle.std.specs.Option.{option_map}
use Rattle.cl_base.specs.Names.{IsName}
use Rattle.cl_base.specs.declared.command.Ask.TheVariants.{Remaster, Evacuate, Clear}
use Rattle.cl_base.specs.declared.command.Policy.{Policy}
use Rattle.cl_base.specs.declared.command.Query.TheVariants.{GroupStatus, ResourceStatus, QuorumStatus}
use Rattle.cl_base.specs.declared.header.Version.{Version}
use Rattle.cl_base.specs.declared.header.Version.TheVariants.{One, Two}
use Rattle.ccr_tables.specs.declared.command.AdminCommand.{AdminCommand}
use Rattle.ccr_tables.specs.declared.command.AdminCommand.TheVariants.{Change, Act, Status, Rows}
use Rattle.ccr_tables.specs.declared.update.DeviceChange.{DeviceChange}
use Rattle.ccr_tables.specs.declared.update.DeviceChange.TheVariants as device
use Rattle.ccr_tables.specs.declared.update.Update.TheVariants.{UnregisterType, CreateGroup, DeleteGroup, SetGroup, ChangeGroup, SwitchGroup, CreateResource, DeleteResource, SetResource, ChangeResource, Device, NodeVote, AddNode, RemoveNode, DeleteLimit, CreateAddress, DeleteAddress, SetWeights}
use Rattle.rg_props.specs.Values.{and_then, most_of, nodes_in}
use Rattle.rg_props.specs.Words.{name_in, parts_at}
use Rattle.admin_words.specs.declared.error.WordError.TheVariants.{MissingOperand}
use Rattle.admin_words.specs.Answers.{Spelled, by_word, chosen, counted, read_as}
use Rattle.admin_words.specs.Commands.{address_least, address_operands, by_tool, command_in, command_of, device_flag, device_operands, group_least, group_operands, limit_in, node_least, node_operands, quorum_by_word, quorum_chosen, register_in, resource_least, resource_operands, type_least, type_operands, voter_operands}
use Rattle.admin_words.specs.Methods.{methods_in}
use Rattle.admin_words.specs.Operands.{device_in, flags_in, load_in, node_in, none, one, policy_in, three, two, weights_in, word_in}
use Rattle.admin_words.specs.Spellings.{address_command_in, group_command_in, if_of_version, is_of_version, node_command_in, quorum_command_in, resource_command_in, tool_in, tool_named, type_command_in, voter_in}
use Rattle.admin_words.specs.declared.command.AddressCommand.{AddressCommand}
use Rattle.admin_words.specs.declared.command.AddressCommand.TheVariants as address
use Rattle.admin_words.specs.declared.command.GroupCommand.{GroupCommand}
use Rattle.admin_words.specs.declared.command.GroupCommand.TheVariants as group
use Rattle.admin_words.specs.declared.command.NodeCommand.{NodeCommand}
use Rattle.admin_words.specs.declared.command.NodeCommand.TheVariants as node
use Rattle.admin_words.specs.declared.command.QuorumCommand.{QuorumCommand}
use Rattle.admin_words.specs.declared.command.QuorumCommand.TheVariants as quorum
use Rattle.admin_words.specs.declared.command.ResourceCommand.{ResourceCommand}
use Rattle.admin_words.specs.declared.command.ResourceCommand.TheVariants as resource
use Rattle.admin_words.specs.declared.command.Tool.{Tool}
use Rattle.admin_words.specs.declared.command.Tool.TheVariants as tool
use Rattle.admin_words.specs.declared.command.TypeCommand.{TypeCommand}
use Rattle.admin_words.specs.declared.command.TypeCommand.TheVariants as types
use Rattle.admin_words.specs.declared.command.Voter.{Voter}
use Rattle.admin_words.specs.declared.command.Voter.TheVariants as voter
use Rattle.word_laws.specs.Spelled.{AreMethods, AreNodesOf, AreWeightsOf, IsDevice, IsNodeOf}
use Rattle.run_packets.proofs.waiting.Texts.{Fits, joined_few, methods_fit, nodes_fit, parts_fit, weights_fit}
use Rattle.history_setting.specs.Settings.{canonical_in, canonical_words, query_words, rows_words}
use Rattle.update_words.specs.Joined.{spaced}
use Rattle.update_words.specs.Words.{command_words, request_words}
use Rattle.word_laws.proofs.Forms.{OnSome, device_reads, load_reads, methods_reads, name_reads, node_reads, nodes_reads, on_if, on_map, on_more, on_then, weights_reads}
use Rattle.run_packets.proofs.waiting.Operands.{GoodCommand, words_in, device_fits, device_small, group_fits, load_small, name_fits, node_fits, number_fits, policy_fits, registered, resource_fits, vote_fits}

abbrev Good : Version → Option AdminCommand → Type 0
Good v o = OnSome (GoodCommand v) o

abbrev GoodAnswer : Version → Spelled → Type 0
GoodAnswer v (Ok command) = GoodCommand v command
GoodAnswer v (Err e) = Unit {0}

abbrev Words : List (List ℕ) → Type 0
Words ws = AllByRecursion Fits ws

-- ---- operands

-- a reading that gives what has the form
abbrev Reads : {A : Type 0} → (A → Type 0) → (List ℕ → Option A) → Type 0
Reads P read = (w : List ℕ) → Fits w → OnSome P (read w)

one_good : {A C : Type 0} (P : A → Type 0) (Q : C → Type 0) (read : List ℕ → Option A) (make : A → C) (ws : List (List ℕ)) → Reads P read → ((a : A) → P a → Q (make a)) → Words ws
    → OnSome Q (one read make ws)
one_good P Q read make [] r f h = tt
one_good P Q read make (w ∷ []) r f h = on_map Q make (read w) (on_more P (λ a. Q (make a)) (read w) f (r w h.0))
one_good P Q read make (w ∷ x ∷ ws) r f h = tt

two_good : {A B C : Type 0} (P : A → Type 0) (R : B → Type 0) (Q : C → Type 0) (first : List ℕ → Option A) (second : List ℕ → Option B) (make : A → B → C) (ws : List (List ℕ))
    → Reads P first → Reads R second → ((a : A) (b : B) → P a → R b → Q (make a b)) → Words ws → OnSome Q (two first second make ws)
two_good P R Q first second make [] r s f h = tt
two_good P R Q first second make (w ∷ []) r s f h = tt
two_good P R Q first second make (w ∷ x ∷ []) r s f h =
    on_then Q (λ a. option_map (λ b. make a b) (second x)) (first w)
    (on_more P (λ a. OnSome Q (option_map (λ b. make a b) (second x))) (first w)
    (λ a p. on_map Q (λ b. make a b) (second x) (on_more R (λ b. Q (make a b)) (second x) (λ b q. f a b p q) (s x h.1.0)))
    (r w h.0))
two_good P R Q first second make (w ∷ x ∷ y ∷ ws) r s f h = tt

three_good : {A B C D : Type 0} (P : A → Type 0) (R : B → Type 0) (S : C → Type 0) (Q : D → Type 0) (first : List ℕ → Option A) (second : List ℕ → Option B) (third : List ℕ → Option C)
    (make : A → B → C → D) (ws : List (List ℕ)) → Reads P first → Reads R second → Reads S third → ((a : A) (b : B) (c : C) → P a → R b → S c → Q (make a b c)) → Words ws
    → OnSome Q (three first second third make ws)
three_good P R S Q first second third make [] r s t f h = tt
three_good P R S Q first second third make (w ∷ []) r s t f h = tt
three_good P R S Q first second third make (w ∷ x ∷ []) r s t f h = tt
three_good P R S Q first second third make (w ∷ x ∷ y ∷ []) r s t f h =
    on_then Q (λ a. and_then (second x) (λ b. option_map (λ c. make a b c) (third y))) (first w)
    (on_more P (λ a. OnSome Q (and_then (second x) (λ b. option_map (λ c. make a b c) (third y)))) (first w)
    (λ a p. on_then Q (λ b. option_map (λ c. make a b c) (third y)) (second x)
    (on_more R (λ b. OnSome Q (option_map (λ c. make a b c) (third y))) (second x)
    (λ b q. on_map Q (λ c. make a b c) (third y) (on_more S (λ c. Q (make a b c)) (third y) (λ c z. f a b c p q z) (t y h.1.1.0)))
    (s x h.1.0)))
    (r w h.0))
three_good P R S Q first second third make (w ∷ x ∷ y ∷ z ∷ ws) r s t f h = tt

none_good : (v : Version) (command : AdminCommand) (ws : List (List ℕ)) → GoodCommand v command → Good v (none command ws)
none_good v command [] h = h
none_good v command (w ∷ ws) h = tt

name_good : Reads IsName name_in
name_good w h = name_reads w

node_good : (v : Version) → Reads (IsNodeOf v) (node_in v)
node_good v w h = node_reads v w

nodes_good : (v : Version) → Reads (AreNodesOf v) (nodes_in (most_of v))
nodes_good v w h = nodes_reads v w

device_good : Reads IsDevice device_in
device_good w h = device_reads w

word_good : Reads Fits word_in
word_good w h = h

weights_good : (v : Version) → Reads (AreWeightsOf v) (weights_in v)
weights_good v w h = weights_reads v w

abbrev Any : Policy → Type 0
Any p = Unit {0}

any_policy : (o : Option Policy) → OnSome Any o
any_policy None = tt
any_policy (Some p) = tt

policy_good : Reads Any policy_in
policy_good w h = any_policy (policy_in w)

-- ---- the commands of each tool

whatever : {A : Type 0} (P : A → Type 0) (o : Option A) → ((a : A) → P a) → OnSome P o
whatever P None f = tt
whatever P (Some a) f = f a

register_good : (v : Version) (ws : List (List ℕ)) → Good v (register_in ws)
register_good v [] = tt
register_good v (name ∷ []) = tt
register_good v (name ∷ agent ∷ []) = tt
register_good v (name ∷ agent ∷ methods ∷ flags) =
    on_then (GoodCommand v) _ (name_in name) (on_more IsName _ (name_in name)
    (λ n p. on_then (GoodCommand v) _ (name_in agent) (on_more IsName _ (name_in agent)
    (λ a q. on_then (GoodCommand v) _ (methods_in methods) (on_more AreMethods _ (methods_in methods)
    (λ m r. on_map (GoodCommand v) _ (flags_in flags) (whatever _ (flags_in flags) (λ f. registered n a m f.single f.failover (name_fits n p) (name_fits a q) (methods_fit m))))
    (methods_reads methods)))
    (name_reads agent)))
    (name_reads name))

type_good : (v : Version) (command : TypeCommand) (ws : List (List ℕ)) → Words ws → Good v (type_operands command ws)
type_good v types.Register ws h = register_good v ws
type_good v types.Unregister ws h = one_good IsName (GoodCommand v) name_in (λ name. Change (UnregisterType name)) ws name_good (λ n p. ((omega arith, (omega arith, (name_fits n p, tt))), omega arith)) h

group_good : (v : Version) (command : GroupCommand) (ws : List (List ℕ)) → Words ws → Good v (group_operands v command ws)
group_good v group.Create ws h =
    two_good IsName (AreNodesOf v) (GoodCommand v) name_in (nodes_in (most_of v)) (λ name nodes. Change (CreateGroup name nodes)) ws name_good (nodes_good v) (λ n ns p q. ((omega arith, (omega arith, (name_fits n p, (nodes_fit v ns q, tt)))), omega arith)) h
group_good v group.Delete ws h = one_good IsName (GoodCommand v) name_in (λ name. Change (DeleteGroup name)) ws name_good (λ n p. ((omega arith, (omega arith, (name_fits n p, tt))), omega arith)) h
group_good v group.Set ws h =
    three_good IsName Fits Fits (GoodCommand v) name_in word_in word_in (λ name property value. Change (SetGroup name property value)) ws name_good word_good word_good
    (λ n a b p q r. ((omega arith, (omega arith, (name_fits n p, (q, (r, tt))))), omega arith)) h
group_good v (group.Change change) ws h = one_good IsName (GoodCommand v) name_in (λ name. Change (ChangeGroup name change)) ws name_good (λ n p. ((omega arith, (group_fits change, (name_fits n p, tt))), omega arith)) h
group_good v group.Switch ws h =
    two_good IsName (AreNodesOf v) (GoodCommand v) name_in (nodes_in (most_of v)) (λ name nodes. Change (SwitchGroup name nodes)) ws name_good (nodes_good v) (λ n ns p q. ((omega arith, (omega arith, (name_fits n p, (nodes_fit v ns q, tt)))), omega arith)) h
group_good v group.Remaster ws h = one_good IsName (GoodCommand v) name_in (λ name. Act (Remaster name)) ws name_good (λ n p. ((omega arith, (omega arith, (name_fits n p, tt))), omega arith)) h
group_good v group.Evacuate ws h = one_good (IsNodeOf v) (GoodCommand v) (node_in v) (λ n. Act (Evacuate n)) ws (node_good v) (λ n p. ((omega arith, (omega arith, (node_fits v n p, tt))), omega arith)) h
group_good v group.Status ws h = none_good v (Status GroupStatus) ws ((omega arith, (omega arith, tt)), omega arith)

resource_good : (v : Version) (command : ResourceCommand) (ws : List (List ℕ)) → Words ws → Good v (resource_operands v command ws)
resource_good v resource.Create ws h =
    three_good IsName IsName IsName (GoodCommand v) name_in name_in name_in (λ name of_group of_type. Change (CreateResource name of_group of_type)) ws name_good name_good name_good
    (λ a b c p q r. ((omega arith, (omega arith, (name_fits a p, (name_fits b q, (name_fits c r, tt))))), omega arith)) h
resource_good v resource.Delete ws h = one_good IsName (GoodCommand v) name_in (λ name. Change (DeleteResource name)) ws name_good (λ n p. ((omega arith, (omega arith, (name_fits n p, tt))), omega arith)) h
resource_good v resource.Set ws h =
    three_good IsName Fits Fits (GoodCommand v) name_in word_in word_in (λ name property value. Change (SetResource name property value)) ws name_good word_good word_good
    (λ n a b p q r. ((omega arith, (omega arith, (name_fits n p, (q, (r, tt))))), omega arith)) h
resource_good v (resource.Change change) ws h = one_good IsName (GoodCommand v) name_in (λ name. Change (ChangeResource name change)) ws name_good (λ n p. ((omega arith, (resource_fits change, (name_fits n p, tt))), omega arith)) h
resource_good v resource.Clear ws h = two_good IsName (IsNodeOf v) (GoodCommand v) name_in (node_in v) (λ name n. Act (Clear name n)) ws name_good (node_good v) (λ a b p q. ((omega arith, (omega arith, (name_fits a p, (node_fits v b q, tt)))), omega arith)) h
resource_good v resource.Status ws h = none_good v (Status ResourceStatus) ws ((omega arith, (omega arith, tt)), omega arith)

device_change_good : (v : Version) (change : DeviceChange) (ws : List (List ℕ)) → Words ws → Good v (device_operands change ws)
device_change_good v change ws h = one_good IsDevice (GoodCommand v) device_in (λ d. Change (Device d change)) ws device_good (λ d p. device_fits d change (number_fits d (device_small d p))) h

voter_good : (v : Version) (enable : Bool) (command : Voter) (ws : List (List ℕ)) → Words ws → Good v (voter_operands v enable command ws)
voter_good v enable voter.Device ws h = device_change_good v (device_flag enable) ws h
voter_good v enable voter.Node ws h = one_good (IsNodeOf v) (GoodCommand v) (node_in v) (λ n. Change (NodeVote n enable)) ws (node_good v) (λ n p. ((omega arith, (vote_fits enable, (omega arith, (node_fits v n p, tt)))), omega arith)) h

node_limit_good : (v : Version) (ws : List (List ℕ)) → v ≡ Two → Good v (limit_in v ws)
node_limit_good v [] s = tt
node_limit_good v (a ∷ []) s = tt
node_limit_good v (a ∷ b ∷ []) s = tt
node_limit_good v (a ∷ b ∷ c ∷ []) s = tt
node_limit_good v (a ∷ b ∷ c ∷ d ∷ e ∷ ws) s = tt
node_limit_good v (n ∷ limit ∷ soft ∷ hard ∷ []) s =
    on_then (GoodCommand v) _ (node_in v n) (on_more (IsNodeOf v) _ (node_in v n)
    (λ k p. on_then (GoodCommand v) _ (name_in limit) (on_more IsName _ (name_in limit)
    (λ l q. on_then (GoodCommand v) _ (load_in soft) (on_more (λ z. z ≤ 1000000) _ (load_in soft)
    (λ a x. on_map (GoodCommand v) _ (load_in hard) (on_more (λ z. z ≤ 1000000) _ (load_in hard)
    (λ b y. ((omega arith, (omega arith, (node_fits v k p, (name_fits l q, (number_fits a (load_small a x), (number_fits b (load_small b y), tt)))))), omega arith)) (load_reads hard)))
    (load_reads soft)))
    (name_reads limit)))
    (node_reads v n))

node_command_good : (v : Version) (command : NodeCommand) (ws : List (List ℕ)) → v ≡ Two → Words ws → Good v (node_operands v command ws)
node_command_good v node.Add ws s h = one_good (IsNodeOf v) (GoodCommand v) (node_in v) (λ n. Change (AddNode n)) ws (node_good v) (λ n p. ((omega arith, (omega arith, (node_fits v n p, tt))), omega arith)) h
node_command_good v node.Remove ws s h = one_good (IsNodeOf v) (GoodCommand v) (node_in v) (λ n. Change (RemoveNode n)) ws (node_good v) (λ n p. ((omega arith, (omega arith, (node_fits v n p, tt))), omega arith)) h
node_command_good v node.CreateLimit ws s h = node_limit_good v ws s
node_command_good v node.DeleteLimit ws s h =
    two_good (IsNodeOf v) IsName (GoodCommand v) (node_in v) name_in (λ n limit. Change (DeleteLimit n limit)) ws (node_good v) name_good (λ n l p q. ((omega arith, (omega arith, (node_fits v n p, (name_fits l q, tt)))), omega arith)) h

address_good : (v : Version) (command : AddressCommand) (ws : List (List ℕ)) → v ≡ Two → Words ws → Good v (address_operands v command ws)
address_good v address.Create ws s h =
    three_good IsName IsName Any (GoodCommand v) name_in name_in policy_in (λ name of_group policy. Change (CreateAddress name of_group policy)) ws name_good name_good policy_good
    (λ a b c p q r. ((omega arith, (omega arith, (name_fits a p, (name_fits b q, (policy_fits c, tt))))), omega arith)) h
address_good v address.Delete ws s h = one_good IsName (GoodCommand v) name_in (λ name. Change (DeleteAddress name)) ws name_good (λ n p. ((omega arith, (omega arith, (name_fits n p, tt))), omega arith)) h
address_good v address.Weights ws s h =
    two_good IsName (AreWeightsOf v) (GoodCommand v) name_in (weights_in v) (λ name weights. Change (SetWeights name weights)) ws name_good (weights_good v) (λ n x p q. ((omega arith, (omega arith, (name_fits n p, (weights_fit v x q, tt)))), omega arith)) h

-- ---- the words of a command

read_good : (v : Version) (o : Option AdminCommand) → Good v o → GoodAnswer v (read_as o)
read_good v None h = tt
read_good v (Some command) h = h

counted_good : (v : Version) (least : ℕ) (operands : List (List ℕ) → Option AdminCommand) (ws : List (List ℕ)) → Good v (operands ws) → GoodAnswer v (counted least operands ws)
counted_good v least operands ws h = by_test (nat_lt (length ws) least)
  where
    by_test : (b : Bool) → GoodAnswer v (if b then Err MissingOperand else read_as (operands ws))
    by_test true = tt
    by_test false = read_good v (operands ws) h

chosen_good : {C : Type 0} (v : Version) (least : C → ℕ) (operands : C → List (List ℕ) → Option AdminCommand) (ws : List (List ℕ)) (o : Option C)
    → ((command : C) → Good v (operands command ws)) → GoodAnswer v (chosen least operands ws o)
chosen_good v least operands ws None h = tt
chosen_good v least operands ws (Some command) h = counted_good v (least command) (operands command) ws (h command)

word_by_good : {C : Type 0} (v : Version) (read : List ℕ → Option C) (least : C → ℕ) (operands : C → List (List ℕ) → Option AdminCommand) (ws : List (List ℕ))
    → ((command : C) (rest : List (List ℕ)) → Words rest → Good v (operands command rest)) → Words ws → GoodAnswer v (by_word read least operands ws)
word_by_good v read least operands [] good h = tt
word_by_good v read least operands (w ∷ ws) good h = chosen_good v least operands ws (read w) (λ command. good command ws h.1)

quorum_good : (v : Version) (ws : List (List ℕ)) (o : Option QuorumCommand) → Words ws → GoodAnswer v (quorum_chosen v ws o)
quorum_good v ws None h = tt
quorum_good v ws (Some quorum.Add) h = counted_good v 1 (device_operands device.Add) ws (device_change_good v device.Add ws h)
quorum_good v ws (Some quorum.Remove) h = counted_good v 1 (device_operands device.Remove) ws (device_change_good v device.Remove ws h)
quorum_good v ws (Some quorum.Enable) h = word_by_good v voter_in (λ c. 1) (voter_operands v true) ws (voter_good v true) h
quorum_good v ws (Some quorum.Disable) h = word_by_good v voter_in (λ c. 1) (voter_operands v false) ws (voter_good v false) h
quorum_good v ws (Some quorum.Status) h = counted_good v 0 (none (Status QuorumStatus)) ws (none_good v (Status QuorumStatus) ws ((omega arith, (omega arith, tt)), omega arith))

quorum_words_good : (v : Version) (ws : List (List ℕ)) → Words ws → GoodAnswer v (quorum_by_word v ws)
quorum_words_good v [] h = tt
quorum_words_good v (w ∷ ws) h = quorum_good v ws (quorum_command_in w) h.1

-- commands on nodes and addresses are the second version's
second_nodes : (v : Version) → is_of_version v tool.Nodes ≡ true → v ≡ Two
second_nodes One h = absurd (cc)
second_nodes Two h = refl

second_addresses : (v : Version) → is_of_version v tool.Addresses ≡ true → v ≡ Two
second_addresses One h = absurd (cc)
second_addresses Two h = refl

tool_good : (v : Version) (ws : List (List ℕ)) (o : Option Tool) → OnSome (λ t. is_of_version v t ≡ true) o → Words ws → GoodAnswer v (by_tool v ws o)
tool_good v ws None t h = tt
tool_good v ws (Some tool.Types) t h = word_by_good v type_command_in type_least type_operands ws (type_good v) h
tool_good v ws (Some tool.Groups) t h = word_by_good v group_command_in group_least (group_operands v) ws (group_good v) h
tool_good v ws (Some tool.Resources) t h = word_by_good v resource_command_in resource_least (resource_operands v) ws (resource_good v) h
tool_good v ws (Some tool.Quorum) t h = quorum_words_good v ws h
tool_good v ws (Some tool.Tables) t h =
    counted_good v 1 (one name_in (λ name. Rows name)) ws (one_good IsName (GoodCommand v) name_in (λ name. Rows name) ws name_good (λ n p. ((omega arith, (name_fits n p, tt)), omega arith)) h)
tool_good v ws (Some tool.Nodes) t h =
    word_by_good v node_command_in node_least (node_operands v) ws (λ command rest g. node_command_good v command rest (second_nodes v t) g) h
tool_good v ws (Some tool.Addresses) t h =
    word_by_good v address_command_in address_least (address_operands v) ws (λ command rest g. address_good v command rest (second_addresses v t) g) h

version_good : (v : Version) (o : Option Tool) → OnSome (λ t. is_of_version v t ≡ true) (if_of_version v o)
version_good v None = tt
version_good v (Some t) = on_if (λ t. is_of_version v t ≡ true) (is_of_version v t) t (λ e. e)

words_good : (v : Version) (ws : List (List ℕ)) → Words ws → GoodAnswer v (command_in v ws)
unfolding command_in
words_good v [] h = tt
words_good v (w ∷ ws) h = tool_good v ws (tool_in v w) (version_good v (tool_named w)) h.1

spaced_fit : (ws : List (List ℕ)) → AllByRecursion Fits ws → length ws ≤ 15 → length (spaced ws) ≤ 65536
spaced_fit ws h few = fit (length (spaced ws)) (length ws) (joined_few 32 4096 (λ word. word) ws h) few
  where
    fit : (all n : ℕ) → all ≤ (4096 + 1) * n → n ≤ 15 → all ≤ 65536
    fit all n h few = omega (arith, h, few)

command_fits : (command : AdminCommand) → AllByRecursion Fits (words_in command) × (length (words_in command) ≤ 15) → length (canonical_words command) ≤ 65536
command_fits (Change u) h = spaced_fit (command_words u) h.0 h.1
command_fits (Act a) h = spaced_fit (request_words a) h.0 h.1
command_fits (Status q) h = spaced_fit (query_words q) h.0 h.1
command_fits (Rows name) h = spaced_fit (rows_words name) h.0 h.1

answer_fits : (v : Version) (r : Spelled) → GoodAnswer v r → IfSome (canonical_in r) (λ text. length text ≤ 65536)
answer_fits v (Ok command) h = command_fits command h
answer_fits v (Err e) h = tt

pub canonical_fits : (v : Version) (text : List ℕ) → length text ≤ 4096 → IfSome (canonical_in (command_of v text)) (λ canonical. length canonical ≤ 65536)
canonical_fits v text few = answer_fits v (command_of v text) (words_good v (parts_at 32 text) (parts_fit 32 text few))
