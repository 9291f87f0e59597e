-- The words of an update that is not refused have neither a tab nor a newline.
use Rattle.std.proofs.Common.{◌≡◌, ℕ, ◌≤◌, Bool, true, false, List, [], ◌∷◌, ◌++◌, Option, Some, None, Result, Ok, Err, refl, arith}
use Rattle.std.specs.Fmt.{decimal}
use Rattle.std.specs.List.{AllByRecursion}
use Rattle.ccr_tables.specs.Refusals.{first_fit, is_bad_group_set, is_bad_property, is_bad_resource_set, refusal_of, unknown_in_group_set, unknown_in_resource_set, exists_in, is_bad_property_in, is_bad_setting_in, is_same_in, unknown_in, user_in}
use Rattle.ccr_tables.specs.State.{ConfigState}
use Rattle.ccr_tables.specs.declared.address.Weight.{Weight}
use Rattle.ccr_tables.specs.declared.update.DeviceChange.{DeviceChange}
use Rattle.ccr_tables.specs.declared.update.DeviceChange.TheVariants as device
use Rattle.ccr_tables.specs.declared.update.GroupChange.{GroupChange}
use Rattle.ccr_tables.specs.declared.update.GroupChange.TheVariants as change
use Rattle.ccr_tables.specs.declared.update.ResourceChange.{ResourceChange}
use Rattle.ccr_tables.specs.declared.update.ResourceChange.TheVariants as flag
use Rattle.ccr_tables.specs.declared.update.Update.{Update}
use Rattle.ccr_tables.specs.declared.update.Update.TheVariants.{RegisterType, UnregisterType, CreateGroup, DeleteGroup, SetGroup, ChangeGroup, SwitchGroup, CreateResource, DeleteResource, SetResource, ChangeResource, Device, NodeVote, AddNode, RemoveNode, CreateLimit, DeleteLimit, CreateAddress, DeleteAddress, SetWeights}
use Rattle.cl_base.specs.declared.command.Policy.{Policy}
use Rattle.cl_base.specs.declared.command.Policy.TheVariants.{Sticky, StickyPort, Weighted}
use Rattle.cl_base.specs.declared.header.Version.{Version}
use Rattle.cl_base.specs.declared.header.Version.TheVariants.{One, Two}
use Rattle.cl_base.specs.declared.method.Method.{Method}
use Rattle.cl_base.specs.declared.method.Method.TheVariants as method
use Rattle.cl_base.specs.declared.refusal.Thing.{Thing}
use Rattle.rg_props.specs.Lookups.{named}
use Rattle.rg_props.specs.Settings.{group_setting_in, resource_setting_in}
use Rattle.rg_props.specs.Values.{most_of}
use Rattle.rg_props.specs.declared.group.Group.{Group}
use Rattle.rg_props.specs.declared.group.Resource.{Resource}
use Rattle.rg_props.specs.declared.setting.GroupSetting.{GroupSetting}
use Rattle.rg_props.specs.declared.setting.ResourceSetting.{ResourceSetting}
use Rattle.rg_props.specs.declared.setting.SetError.{SetError}
use Rattle.rg_props.specs.declared.setting.SetError.TheVariants as set
use Rattle.update_words.specs.Methods.{listed, method_text, methods_text}
use Rattle.update_words.specs.Words.{command_words, device_words, flag_words, group_word, nodes_text, policy_text, resource_word, vote_word, weight_text, weights_text, words_of}
use Rattle.word_laws.proofs.Split.{all_to}
use Rattle.word_laws.specs.Spelled.{AreNodesOf, AreWeightsOf, IsNodeOf, IsSpelled, IsWeightOf}
use Rattle.run_packets.proofs.fits.Bytes.{OnSet, Plain, group_plain, joined_plain, name_plain, number_plain, plain_append, resource_plain}

-- ---- operands

most_small : (v : Version) → most_of v ≤ 32
most_small One = omega arith
most_small Two = omega arith

node_plain : (v : Version) (n : ℕ) → IsNodeOf v n → Plain (decimal n)
node_plain v n h = number_plain n (omega (arith, h.high, most_small v))

nodes_plain : (v : Version) (nodes : List ℕ) → AreNodesOf v nodes → Plain (nodes_text nodes)
nodes_plain v nodes h = joined_plain 44 decimal nodes refl (all_to (IsNodeOf v) (λ n. Plain (decimal n)) (node_plain v) nodes h.each)

weight_plain : (v : Version) (w : Weight) → IsWeightOf v w → Plain (weight_text w)
weight_plain v w h = plain_append (decimal w.weight) (64 ∷ decimal w.node) (number_plain w.weight (omega (arith, h.weight))) (rw (node_plain v w.node h.node) refl)

weights_plain : (v : Version) (weights : List Weight) → AreWeightsOf v weights → Plain (weights_text weights)
weights_plain v weights h = joined_plain 44 weight_text weights refl (all_to (IsWeightOf v) (λ w. Plain (weight_text w)) (weight_plain v) weights h.each)

method_plain : (m : Method) → Plain (method_text m)
method_plain method.PrenetStart = refl
method_plain method.Start = refl
method_plain method.MonitorStart = refl
method_plain method.MonitorCheck = refl
method_plain method.MonitorStop = refl
method_plain method.Stop = refl
method_plain method.PostnetStop = refl
method_plain method.Validate = refl
method_plain method.Init = refl
method_plain method.Fini = refl
method_plain method.Boot = refl
method_plain method.Update = refl

each_plain : (ms : List Method) → AllByRecursion (λ m. Plain (method_text m)) ms
each_plain [] = tt
each_plain (m ∷ ms) = (method_plain m, each_plain ms)

methods_plain : (methods : ℕ) → Plain (methods_text methods)
methods_plain methods = joined_plain 44 method_text (listed methods) refl (each_plain (listed methods))

flags_plain : (single failover : Bool) → AllByRecursion Plain (flag_words single failover)
unfolding flag_words
flags_plain true true = (refl, (refl, tt))
flags_plain true false = (refl, tt)
flags_plain false true = (refl, tt)
flags_plain false false = tt

group_word_plain : (c : GroupChange) → Plain (group_word c)
group_word_plain change.Manage = refl
group_word_plain change.Unmanage = refl
group_word_plain change.Online = refl
group_word_plain change.Offline = refl
group_word_plain change.Suspend = refl
group_word_plain change.Resume = refl

resource_word_plain : (c : ResourceChange) → Plain (resource_word c)
resource_word_plain flag.Enable = refl
resource_word_plain flag.Disable = refl
resource_word_plain flag.Monitor = refl
resource_word_plain flag.Unmonitor = refl

device_plain : (c : DeviceChange) (rest : List (List ℕ)) → AllByRecursion Plain rest → AllByRecursion Plain (device_words c ++ rest)
device_plain device.Add rest h = (refl, h)
device_plain device.Remove rest h = (refl, h)
device_plain device.Enable rest h = (refl, (refl, h))
device_plain device.Disable rest h = (refl, (refl, h))

vote_plain : (b : Bool) → Plain (vote_word b)
vote_plain true = refl
vote_plain false = refl

policy_plain : (p : Policy) → Plain (policy_text p)
policy_plain Weighted = refl
policy_plain Sticky = refl
policy_plain StickyPort = refl

-- ---- the words of commands

-- a property that is set, and its value
abbrev SetsPlain : Update → Type 0
SetsPlain (SetGroup name property value) = Plain property × Plain value
SetsPlain (SetResource name property value) = Plain property × Plain value
SetsPlain _ = Unit {0}

words_plain : (v : Version) (u : Update) → IsSpelled v u → SetsPlain u → AllByRecursion Plain (command_words u)
words_plain v (RegisterType n a m single failover) h s = (refl, (refl, (name_plain n h.0.0, (name_plain a h.0.1.0, (methods_plain m, flags_plain single failover)))))
words_plain v (UnregisterType n) h s = (refl, (refl, (name_plain n h.0, tt)))
words_plain v (CreateGroup g ns) h s = (refl, (refl, (name_plain g h.0.0, (nodes_plain v ns h.1, tt))))
words_plain v (DeleteGroup g) h s = (refl, (refl, (name_plain g h.0, tt)))
words_plain v (SetGroup g p x) h s = (refl, (refl, (name_plain g h.0.0, (s.0, (s.1, tt)))))
words_plain v (ChangeGroup g c) h s = (refl, (group_word_plain c, (name_plain g h.0, tt)))
words_plain v (SwitchGroup g ns) h s = (refl, (refl, (name_plain g h.0.0, (nodes_plain v ns h.1, tt))))
words_plain v (CreateResource r g t) h s = (refl, (refl, (name_plain r h.0, (name_plain g h.1.0, (name_plain t h.1.1.0, tt)))))
words_plain v (DeleteResource r) h s = (refl, (refl, (name_plain r h.0, tt)))
words_plain v (SetResource r p x) h s = (refl, (refl, (name_plain r h.0.0, (s.0, (s.1, tt)))))
words_plain v (ChangeResource r c) h s = (refl, (resource_word_plain c, (name_plain r h.0, tt)))
words_plain v (Device d c) h s = (refl, device_plain c (decimal d ∷ []) (number_plain d (omega (arith, h.high)), tt))
words_plain v (NodeVote n b) h s = (refl, (vote_plain b, (refl, (node_plain v n h, tt))))
words_plain v (AddNode n) h s = (refl, (refl, (node_plain v n h.0, tt)))
words_plain v (RemoveNode n) h s = (refl, (refl, (node_plain v n h.0, tt)))
words_plain v (CreateLimit n l soft hard) h s =
    (refl, (refl, (node_plain v n h.2, (name_plain l h.0.0, (number_plain soft (omega (arith, h.1.soft)), (number_plain hard (omega (arith, h.1.hard)), tt))))))
words_plain v (DeleteLimit n l) h s = (refl, (refl, (node_plain v n h.1, (name_plain l h.0.0, tt))))
words_plain v (CreateAddress a g p) h s = (refl, (refl, (name_plain a h.0.0, (name_plain g h.0.1.0, (policy_plain p, tt)))))
words_plain v (DeleteAddress a) h s = (refl, (refl, (name_plain a h.0.0, tt)))
words_plain v (SetWeights a ws) h s = (refl, (refl, (name_plain a h.0.0, (weights_plain v ws h.1, tt))))

-- ---- what is set is not refused

record NoneFits (thing : Option Thing) (property setting : Bool) : Type 0 where
  unknown : thing ≡ None
  bad_property : property ≡ false
  bad_setting : setting ≡ false

none_fits : (thing : Option Thing) (exists : Bool) (user : Option (List ℕ)) (same property setting : Bool) → first_fit thing exists user same property setting ≡ None → NoneFits thing property setting
none_fits None false None false false false e = record { unknown = refl; bad_property = refl; bad_setting = refl }
none_fits (Some thing) exists user same property setting e = absurd (cc)
none_fits None true user same property setting e = absurd (cc)
none_fits None false (Some name) same property setting e = absurd (cc)
none_fits None false None true property setting e = absurd (cc)
none_fits None false None false true setting e = absurd (cc)
none_fits None false None false false true e = absurd (cc)

group_set : (s : ConfigState) (name : List ℕ) (P : Type 0) (o : Option Group) (r : Result GroupSetting SetError) → OnSet P r → NoneFits (unknown_in_group_set s name o r) (is_bad_property r) (is_bad_group_set s name o r) → P
group_set s name P o (Ok x) h n = h
group_set s name P o (Err set.BadProperty) h n = let e : true ≡ false = n.bad_property in absurd (cc)
group_set s name P (Some g) (Err set.BadSetting) h n = let e : true ≡ false = n.bad_setting in absurd (cc)
group_set s name P None (Err set.BadSetting) h n = let e : unknown_in_group_set s name None (Err set.BadSetting) ≡ None = n.unknown in absurd (cc)
group_set s name P o (Err set.NoMemory) h n = absurd h

resource_set : (s : ConfigState) (name : List ℕ) (P : Type 0) (o : Option Resource) (r : Result ResourceSetting SetError) → OnSet P r → NoneFits (unknown_in_resource_set s name o r) (is_bad_property r) (is_bad_resource_set name o r) → P
resource_set s name P o (Ok x) h n = h
resource_set s name P o (Err set.BadProperty) h n = let e : true ≡ false = n.bad_property in absurd (cc)
resource_set s name P (Some g) (Err set.BadSetting) h n = let e : true ≡ false = n.bad_setting in absurd (cc)
resource_set s name P None (Err set.BadSetting) h n = let e : unknown_in_resource_set s name None (Err set.BadSetting) ≡ None = n.unknown in absurd (cc)
resource_set s name P o (Err set.NoMemory) h n = absurd h

sets_plain : (s : ConfigState) (u : Update) → refusal_of s u ≡ None → SetsPlain u
sets_plain s (SetGroup name property value) e =
    group_set s name (Plain property × Plain value) (named s.groups.groups name) (group_setting_in s.groups.version property value) (group_plain s.groups.version property value)
    (none_fits (unknown_in s (SetGroup name property value)) (exists_in s (SetGroup name property value)) (user_in s (SetGroup name property value)) (is_same_in s (SetGroup name property value))
    (is_bad_property_in s (SetGroup name property value)) (is_bad_setting_in s (SetGroup name property value)) e)
sets_plain s (SetResource name property value) e =
    resource_set s name (Plain property × Plain value) (named s.groups.resources name) (resource_setting_in property value) (resource_plain property value)
    (none_fits (unknown_in s (SetResource name property value)) (exists_in s (SetResource name property value)) (user_in s (SetResource name property value)) (is_same_in s (SetResource name property value))
    (is_bad_property_in s (SetResource name property value)) (is_bad_setting_in s (SetResource name property value)) e)
sets_plain s _ e = tt

pub update_plain : (v : Version) (s : ConfigState) (u : Update) → IsSpelled v u → refusal_of s u ≡ None → Plain (words_of u)
update_plain v s u h e = joined_plain 32 (λ w. w) (command_words u) refl (words_plain v u h (sets_plain s u e))
