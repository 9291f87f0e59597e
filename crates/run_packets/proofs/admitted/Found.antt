-- What the configuration alone tells against an update has operands that are names and numbers.
use Rattle.std.specs.Prelude.{ℕ, ◌-◌, ◌^◌, ◌≡◌, ◌<◌, nat_lt, Bool, true, false, List, [], ◌∷◌, find, Option, None, Some, IfSome, Result, Ok, Err}
use Rattle.std.specs.List.{AllByRecursion}
use Rattle.std.proofs.Common.{refl, arith}
use Rattle.admin_commands.specs.Cases.{number_of}
use Rattle.admin_commands.specs.Orders.{single}
use Rattle.answer_words.specs.Laws.{IsRefusal, IsThing}
use Rattle.ccr_tables.specs.Refusals.{exists_in, first_fit, first_missing, first_missing_affine, first_unconfigured, first_unconfigured_weight, is_bad_property_in, is_bad_setting_in, is_same_in, missing, refusal_of, unknown_in, unknown_in_group_set, unknown_in_group_setting, unknown_in_resource_set, unknown_in_resource_setting, unless, user_in}
use Rattle.ccr_tables.specs.State.{ConfigState}
use Rattle.ccr_tables.specs.Uses.{first_named}
use Rattle.ccr_tables.specs.declared.address.Weight.{Weight}
use Rattle.ccr_tables.specs.declared.update.Update.{Update}
use Rattle.ccr_tables.specs.declared.update.Update.TheVariants.{RegisterType, UnregisterType, CreateGroup, DeleteGroup, SetGroup, ChangeGroup, SwitchGroup, CreateResource, DeleteResource, SetResource, ChangeResource, Device, NodeVote, AddNode, RemoveNode, CreateLimit, DeleteLimit, CreateAddress, DeleteAddress, SetWeights}
use Rattle.cl_base.specs.Names.{IsName}
use Rattle.cl_base.specs.declared.header.Version.{Version}
use Rattle.cl_base.specs.declared.refusal.Refusal.{Refusal}
use Rattle.cl_base.specs.declared.refusal.Thing.{Thing}
use Rattle.cl_base.specs.declared.refusal.Thing.TheVariants.{Named, Numbered}
use Rattle.cl_base.specs.Sets.{has}
use Rattle.quorum_votes.specs.Votes.{is_configured}
use Rattle.load_limits.specs.Loads.{limit_of}
use Rattle.rg_props.specs.Lookups.{named}
use Rattle.rg_props.specs.Settings.{group_setting_in, resource_setting_in}
use Rattle.rg_props.specs.declared.affinity.Affine.{Affine}
use Rattle.rg_props.specs.declared.group.Group.{Group}
use Rattle.rg_props.specs.declared.group.Resource.{Resource}
use Rattle.rg_props.specs.declared.setting.GroupSetting.{GroupSetting}
use Rattle.rg_props.specs.declared.setting.GroupSetting.TheVariants as to
use Rattle.rg_props.specs.declared.setting.ResourceSetting.{ResourceSetting}
use Rattle.rg_props.specs.declared.setting.ResourceSetting.TheVariants as its
use Rattle.rg_props.specs.declared.setting.SetError.{SetError}
use Rattle.row_laws.proofs.Keys.{AreThings, each_weaker}
use Rattle.row_laws.proofs.Settings.{FitsGroup, FitsResource, group_setting_fits, resource_setting_fits}
use Rattle.row_laws.proofs.Sound.{IsSound}
use Rattle.rt_types.specs.Types.{type_of}
use Rattle.run_history.proofs.Lists.{found}
use Rattle.word_laws.proofs.Reading.{node_small}
use Rattle.word_laws.specs.Spelled.{IsNodeOf, IsSpelled}
use Rattle.run_packets.proofs.admitted.Made.{of_map, of_missing, of_unless, or_values}

-- ---- names of things

pub keys_of : {X : Type 0} (Fit : X → Type 0) (ps : List (List ℕ × X)) → AreThings Fit ps → AllByRecursion (λ (p : List ℕ × X). IsName p.0) ps
keys_of Fit [] h = tt
keys_of Fit (p ∷ ps) h = (h.0, keys_of Fit ps h.3)

first_is : {X : Type 0} (Fit : X → Type 0) (test : X → Bool) (ps : List (List ℕ × X)) → AreThings Fit ps → IfSome (first_named test ps) IsName
first_is {X} Fit test ps h = of_map (λ (p : List ℕ × X). IsName p.0) IsName (λ p. p.0) (find (λ p. test p.1) ps) (λ p k. k) (found (λ (p : List ℕ × X). IsName p.0) (λ p. test p.1) ps (keys_of Fit ps h))

user_is : (s : ConfigState) (u : Update) → IsSound s → IfSome (user_in s u) IsName
user_is s (UnregisterType name) k = first_is _ _ s.groups.resources k.resources
user_is s (DeleteGroup name) k =
    or_values IsName _ _ (first_is _ _ s.groups.resources k.resources)
    (or_values IsName _ _ (first_is _ _ s.groups.groups k.groups) (or_values IsName _ _ (first_is _ _ s.groups.groups k.groups) (first_is _ _ s.addresses k.addresses)))
user_is s (DeleteResource name) k = first_is _ _ s.groups.resources k.resources
user_is s (RemoveNode n) k = first_is _ _ s.groups.groups k.groups
user_is s _ k = tt

-- ---- what is not there

small : (v : Version) (nodes : List ℕ) → AllByRecursion (IsNodeOf v) nodes → AllByRecursion (λ n. n < 2 ^ 64) nodes
small v nodes h = each_weaker (IsNodeOf v) (λ n. n < 2 ^ 64) (node_small v) nodes h

no_node : (s : ConfigState) (nodes : List ℕ) → AllByRecursion (λ n. n < 2 ^ 64) nodes → IfSome (first_unconfigured s nodes) IsThing
no_node s nodes h = of_map (λ n. n < 2 ^ 64) IsThing (λ n. Numbered n) (find _ nodes) (λ n k. k) (found (λ n. n < 2 ^ 64) _ nodes h)

no_name : {X : Type 0} (things : List (List ℕ × X)) (names : List (List ℕ)) → AllByRecursion IsName names → IfSome (first_missing things names) IsThing
no_name things names h = of_map IsName IsThing (λ name. Named name) (find _ names) (λ n k. k) (found IsName _ names h)

no_affine : (s : ConfigState) (affines : List Affine) → AllByRecursion (λ (a : Affine). IsName a.group) affines → IfSome (first_missing_affine s affines) IsThing
no_affine s affines h = of_map (λ (a : Affine). IsName a.group) IsThing (λ a. Named a.group) (find _ affines) (λ a k. k) (found (λ (a : Affine). IsName a.group) _ affines h)

no_weight : (v : Version) (s : ConfigState) (ws : List Weight) → AllByRecursion (λ (w : Weight). w.node < 2 ^ 64) ws → IfSome (first_unconfigured_weight s ws) IsThing
no_weight v s ws h = of_map (λ (w : Weight). w.node < 2 ^ 64) IsThing (λ w. Numbered w.node) (find _ ws) (λ w k. k) (found (λ (w : Weight). w.node < 2 ^ 64) _ ws h)

group_value : (s : ConfigState) (setting : GroupSetting) → FitsGroup setting → IfSome (unknown_in_group_setting s setting) IsThing
group_value s (to.Nodelist nodes) f = no_node s nodes f.1
group_value s (to.Dependencies names) f = no_name s.groups.groups names f.1
group_value s (to.Affinities affines) f = no_affine s affines f.1
group_value s _ f = tt

resource_value : (s : ConfigState) (setting : ResourceSetting) → FitsResource setting → IfSome (unknown_in_resource_setting s setting) IsThing
resource_value s (its.Strong names) f = no_name s.groups.resources names f.1
resource_value s (its.Weak names) f = no_name s.groups.resources names f.1
resource_value s (its.OfflineRestart names) f = no_name s.groups.resources names f.1
resource_value s _ f = tt

group_set_thing : (s : ConfigState) (name : List ℕ) (o : Option Group) (r : Result GroupSetting SetError) → IsName name → ((setting : GroupSetting) → r ≡ Ok setting → FitsGroup setting)
    → IfSome (unknown_in_group_set s name o r) IsThing
group_set_thing s name None r is fits = is
group_set_thing s name (Some g) (Ok setting) is fits = group_value s setting (fits setting refl)
group_set_thing s name (Some g) (Err e) is fits = tt

resource_set_thing : (s : ConfigState) (name : List ℕ) (o : Option Resource) (r : Result ResourceSetting SetError) → IsName name → ((setting : ResourceSetting) → r ≡ Ok setting → FitsResource setting)
    → IfSome (unknown_in_resource_set s name o r) IsThing
resource_set_thing s name None r is fits = is
resource_set_thing s name (Some g) (Ok setting) is fits = resource_value s setting (fits setting refl)
resource_set_thing s name (Some g) (Err e) is fits = tt

unknown_is : (v : Version) (s : ConfigState) (u : Update) → IsSpelled v u → IfSome (unknown_in s u) IsThing
unknown_is v s (RegisterType name agent methods single failover) p = tt
unknown_is v s (UnregisterType name) p = of_missing _ (Named name) p.0
unknown_is v s (CreateGroup name nodes) p = no_node s nodes (small v nodes p.1.each)
unknown_is v s (DeleteGroup name) p = of_missing _ (Named name) p.0
unknown_is v s (SetGroup name property value) p =
    group_set_thing s name (named s.groups.groups name) (group_setting_in s.groups.version property value) p.0.0 (group_setting_fits s.groups.version property value)
unknown_is v s (ChangeGroup name change) p = of_missing _ (Named name) p.0
unknown_is v s (SwitchGroup name nodes) p =
    or_values IsThing (missing (named s.groups.groups name) (Named name)) (first_unconfigured s nodes) (of_missing (named s.groups.groups name) (Named name) p.0.0) (no_node s nodes (small v nodes p.1.each))
unknown_is v s (CreateResource name of_group of_type) p =
    or_values IsThing (missing (named s.groups.groups of_group) (Named of_group)) (missing (type_of s.types of_type) (Named of_type)) (of_missing (named s.groups.groups of_group) (Named of_group) p.1.0)
    (of_missing (type_of s.types of_type) (Named of_type) p.1.1.0)
unknown_is v s (DeleteResource name) p = of_missing _ (Named name) p.0
unknown_is v s (SetResource name property value) p =
    resource_set_thing s name (named s.groups.resources name) (resource_setting_in property value) p.0.0 (resource_setting_fits property value)
unknown_is v s (ChangeResource name change) p = of_missing _ (Named name) p.0
unknown_is v s (Device d change) p = of_unless _ (Numbered d) (omega (arith, p.high))
unknown_is v s (NodeVote n vote) p = of_unless _ (Numbered n) (node_small v n p)
unknown_is v s (AddNode n) p = of_unless _ (Numbered n) (node_small v n p.0)
unknown_is v s (RemoveNode n) p = of_unless _ (Numbered n) (node_small v n p.0)
unknown_is v s (CreateLimit n limit soft hard) p = of_unless _ (Numbered n) (node_small v n p.2)
unknown_is v s (DeleteLimit n limit) p =
    or_values IsThing (unless (is_configured s.votes n) (Numbered n)) (missing (limit_of s.limits n limit) (Named limit)) (of_unless (is_configured s.votes n) (Numbered n) (node_small v n p.1))
    (of_missing (limit_of s.limits n limit) (Named limit) p.0.0)
unknown_is v s (CreateAddress name of_group policy) p = of_missing _ (Named of_group) p.0.1.0
unknown_is v s (DeleteAddress name) p = of_missing _ (Named name) p.0.0
unknown_is v s (SetWeights name weights) p =
    or_values IsThing (missing (named s.addresses name) (Named name)) (first_unconfigured_weight s weights) (of_missing (named s.addresses name) (Named name) p.0.0)
    (no_weight v s weights (each_weaker _ (λ (w : Weight). w.node < 2 ^ 64) (λ w k. node_small v w.node k.node) weights p.1.each))

-- ---- what the configuration alone tells

abbrev pub ToldGood : Option Refusal → Type 0
ToldGood o = IfSome o (λ r. IsRefusal r × (nat_lt (number_of r) 17 ≡ true))

fit_good : (a : Option Thing) (b : Bool) (u : Option (List ℕ)) (d e f : Bool) → IfSome a IsThing → IfSome u IsName → ToldGood (first_fit a b u d e f)
fit_good (Some thing) b u d e f h k = (h, refl)
fit_good None true u d e f h k = (tt, refl)
fit_good None false (Some name) d e f h k = (k, refl)
fit_good None false None true e f h k = (tt, refl)
fit_good None false None false true f h k = (tt, refl)
fit_good None false None false false true h k = (tt, refl)
fit_good None false None false false false h k = tt

pub told_good : (v : Version) (s : ConfigState) (u : Update) → IsSound s → IsSpelled v u → ToldGood (refusal_of s u)
told_good v s u k p = fit_good (unknown_in s u) (exists_in s u) (user_in s u) (is_same_in s u) (is_bad_property_in s u) (is_bad_setting_in s u) (unknown_is v s u p) (user_is s u k)
