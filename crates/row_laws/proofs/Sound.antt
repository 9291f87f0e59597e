-- What holds of each configuration that commands make: things are named apart, and what they have fits a row.
use Rattle.std.proofs.Common.{◌≡◌, ◌≢◌, ℕ, zero, suc, ◌+◌, ◌-◌, ◌<◌, ◌≤◌, ◌==◌, ◌&&◌, ◌⊎◌, inl, inr, List, [], ◌∷◌, ◌++◌, length, get_or, set, Bool, true, false, cond, not, refl, ap, subst, sym, ◌∙◌, eq-eqb, arith}
use Rattle.std.specs.Prelude.{Option, Some, None, Result, Ok, Err, find, if◌then◌else◌}
use Rattle.std.specs.List.{AllByRecursion, filter, fold}
use Rattle.std.specs.Option.{is_some}
use Rattle.std.specs.Str.{bytes_eq}
use Rattle.std.proofs.lemmas.List.{get_or-set_same, get_or-set_other, length-set}
use Rattle.std.proofs.lemmas.Bool.Decides.{eqb_tells}
use Rattle.cl_base.specs.Limits.{most_nodes}
use Rattle.cl_base.specs.Names.{IsName}
use Rattle.cl_base.specs.Numbers.{numbers_to}
use Rattle.cl_base.specs.Sets.{has}
use Rattle.cl_base.specs.declared.header.Header.{Header}
use Rattle.cl_base.specs.declared.refusal.Refusal.{Refusal}
use Rattle.cl_base.specs.declared.refusal.Thing.{Thing}
use Rattle.cl_base.proofs.NameLemmas.{texts_pass}
use Rattle.quorum_votes.specs.declared.state.NodeState.{NodeState}
use Rattle.quorum_votes.specs.declared.state.NodeState.TheVariants.{Unconfigured, Maintenance, Voting}
use Rattle.quorum_votes.specs.declared.state.DevState.{DevState}
use Rattle.quorum_votes.specs.declared.state.VoteDevice.{VoteDevice}
use Rattle.quorum_votes.specs.Tables.{VoteTable}
use Rattle.quorum_votes.specs.Votes.{node_at, device_at, vote_in, is_configured, is_configured_in, first_of, first_node}
use Rattle.quorum_votes.specs.Changes.{state_with, same_state, with_node, with_vote, with_state, with_configured, without_node}
use Rattle.quorum_votes.proofs.PlaceLemmas.{first_nodes_at, first_nodes_size}
use Rattle.rt_types.specs.Fields.{TypeFields}
use Rattle.load_limits.specs.declared.limits.Limit.{Limit}
use Rattle.load_limits.specs.Loads.{is_limit, limit_of, limits_of_others, limits_without}
use Rattle.rg_props.specs.declared.group.Flag.{Flag}
use Rattle.rg_props.specs.declared.group.Flag.TheVariants.{Managed, Wanted, Suspended, Enabled, Monitored}
use Rattle.rg_props.specs.declared.group.Group.{Group}
use Rattle.rg_props.specs.declared.group.Resource.{Resource}
use Rattle.rg_props.specs.declared.setting.GroupSetting.{GroupSetting}
use Rattle.rg_props.specs.declared.setting.ResourceSetting.{ResourceSetting}
use Rattle.rg_props.specs.declared.setting.SetError.{SetError}
use Rattle.rg_props.specs.Lookups.{named, flagged_group, flagged_resource, flag_group, flag_resource, with_flag, group_allows, change_group, group_changed, taken_by_group, change_resource, resource_changed, taken_by_resource}
use Rattle.rg_props.specs.Settings.{group_setting_in, resource_setting_in, is_allowed_resource}
use Rattle.rg_props.specs.Table.{GroupTable}
use Rattle.ccr_tables.specs.declared.address.Address.{Address}
use Rattle.ccr_tables.specs.declared.address.Weight.{Weight}
use Rattle.ccr_tables.specs.declared.generations.Generations.{Generations}
use Rattle.ccr_tables.specs.declared.update.Update.{Update}
use Rattle.ccr_tables.specs.declared.update.Update.TheVariants.{RegisterType, UnregisterType, CreateGroup, DeleteGroup, SetGroup, ChangeGroup, SwitchGroup, CreateResource, DeleteResource, SetResource, ChangeResource, Device, NodeVote, AddNode, RemoveNode, CreateLimit, DeleteLimit, CreateAddress, DeleteAddress, SetWeights}
use Rattle.ccr_tables.specs.Changes.{weighted, or_same, state_after, group_flag, sets_group, resource_flag, sets_resource, changed, updated, unless_refused, applied, config_of}
use Rattle.ccr_tables.specs.Refusals.{first_fit, refusal_of, exists_in, unknown_in, user_in, is_same_in, is_bad_property_in, is_bad_setting_in, vote_number}
use Rattle.ccr_tables.specs.State.{ConfigState, first_config}
use Rattle.row_laws.specs.Given.{IsNode, IsWeight, AreFew, IsGiven}
use Rattle.row_laws.proofs.Keys.{AreThings, each_append, each_weaker}
use Rattle.row_laws.proofs.Things.{things_more, things_less, things_changed, found_fits}
use Rattle.row_laws.proofs.Settings.{IsNumber, IsFitGroup, IsFitResource, FitsGroup, FitsResource, group_stays_fit, resource_stays_fit, group_setting_fits, resource_setting_fits}

abbrev pub IsFitType : TypeFields → Type 0
IsFitType t = IsName t.agent

abbrev pub IsFitAddress : Address → Type 0
IsFitAddress a = IsName a.group × AreFew IsWeight a.weights

abbrev pub IsFitLimit : Limit → Type 0
IsFitLimit l = IsNumber l.node × IsName l.name × IsNumber l.soft × IsNumber l.hard

abbrev pub AreOther : Limit → Limit → Type 0
AreOther l m = l.node ≡ m.node → l.name ≡ m.name → ⊥

abbrev pub AreLimits : List Limit → Type 0
AreLimits [] = Unit {0}
AreLimits (l ∷ ls) = IsFitLimit l × AllByRecursion (λ m. AreOther l m) ls × AreLimits ls

abbrev pub Differ : List ℕ → Type 0
Differ [] = Unit {0}
Differ (n ∷ ns) = AllByRecursion (λ m. n ≢ m) ns × Differ ns

abbrev pub IsOrdered : VoteTable → ℕ → Type 0
IsOrdered v n = IsNode n × (is_configured v n ≡ true)

pub record IsSound (s : ConfigState) : Type 0 where
  pub nodes : length s.votes.nodes ≡ 32
  pub order : AllByRecursion (IsOrdered s.votes) s.order
  pub apart : Differ s.order
  pub types : AreThings IsFitType s.types
  pub groups : AreThings IsFitGroup s.groups.groups
  pub resources : AreThings IsFitResource s.groups.resources
  pub limits : AreLimits s.limits
  pub addresses : AreThings IsFitAddress s.addresses

-- ---- one part changed

with_types : (s : ConfigState) (types : List (List ℕ × TypeFields)) → IsSound s → AreThings IsFitType types → IsSound (record s { types = types })
with_types s types h new = record { nodes = h.nodes; order = h.order; apart = h.apart; types = new; groups = h.groups; resources = h.resources; limits = h.limits; addresses = h.addresses }

with_groups : (s : ConfigState) (t : GroupTable) → IsSound s → AreThings IsFitGroup t.groups × AreThings IsFitResource t.resources → IsSound (record s { groups = t })
with_groups s t h new = record { nodes = h.nodes; order = h.order; apart = h.apart; types = h.types; groups = new.0; resources = new.1; limits = h.limits; addresses = h.addresses }

with_limits : (s : ConfigState) (limits : List Limit) → IsSound s → AreLimits limits → IsSound (record s { limits = limits })
with_limits s limits h new = record { nodes = h.nodes; order = h.order; apart = h.apart; types = h.types; groups = h.groups; resources = h.resources; limits = new; addresses = h.addresses }

with_addresses : (s : ConfigState) (addresses : List (List ℕ × Address)) → IsSound s → AreThings IsFitAddress addresses → IsSound (record s { addresses = addresses })
with_addresses s addresses h new = record { nodes = h.nodes; order = h.order; apart = h.apart; types = h.types; groups = h.groups; resources = h.resources; limits = h.limits; addresses = new }

with_votes : (s : ConfigState) (v : VoteTable) → IsSound s → length v.nodes ≡ 32 → ((m : ℕ) → is_configured s.votes m ≡ true → is_configured v m ≡ true) → IsSound (record s { votes = v })
with_votes s v h size keeps = record {
  nodes = size;
  order = each_weaker (IsOrdered s.votes) (IsOrdered v) (λ m was. (was.0, keeps m was.1)) s.order h.order;
  apart = h.apart;
  types = h.types;
  groups = h.groups;
  resources = h.resources;
  limits = h.limits;
  addresses = h.addresses;
}

counted_too : (s : ConfigState) (g : Generations) → IsSound s → IsSound (record s { generations = g })
counted_too s g h = record { nodes = h.nodes; order = h.order; apart = h.apart; types = h.types; groups = h.groups; resources = h.resources; limits = h.limits; addresses = h.addresses }

-- ---- groups and resources

abbrev pub IsFitTable : GroupTable → Type 0
IsFitTable t = AreThings IsFitGroup t.groups × AreThings IsFitResource t.resources

group_flagged : (flag : Flag) (on : Bool) (g : Group) → IsFitGroup g → IsFitGroup (flagged_group flag on g)
group_flagged Managed on g f = record { nodelist = f.nodelist; maximum = f.maximum; desired = f.desired; dependencies = f.dependencies; affinities = f.affinities; pingpong = f.pingpong; factors = f.factors; priority = f.priority }
group_flagged Wanted on g f = record { nodelist = f.nodelist; maximum = f.maximum; desired = f.desired; dependencies = f.dependencies; affinities = f.affinities; pingpong = f.pingpong; factors = f.factors; priority = f.priority }
group_flagged Suspended on g f = record { nodelist = f.nodelist; maximum = f.maximum; desired = f.desired; dependencies = f.dependencies; affinities = f.affinities; pingpong = f.pingpong; factors = f.factors; priority = f.priority }
group_flagged Enabled on g f = f
group_flagged Monitored on g f = f

resource_flagged : (flag : Flag) (on : Bool) (r : Resource) → IsFitResource r → IsFitResource (flagged_resource flag on r)
resource_flagged Enabled on r f = record { group = f.group; resource_type = f.resource_type; strong = f.strong; weak = f.weak; offline_restart = f.offline_restart; retry_count = f.retry_count; retry_interval = f.retry_interval }
resource_flagged Monitored on r f = record { group = f.group; resource_type = f.resource_type; strong = f.strong; weak = f.weak; offline_restart = f.offline_restart; retry_count = f.retry_count; retry_interval = f.retry_interval }
resource_flagged Managed on r f = f
resource_flagged Wanted on r f = f
resource_flagged Suspended on r f = f

flag_group_fits : (t : GroupTable) (name : List ℕ) (flag : Flag) (on : Bool) (o : Option Group) → IsFitTable t → named t.groups name ≡ o → IsFitTable (flag_group t name flag on o)
flag_group_fits t name flag on None h is = h
flag_group_fits t name flag on (Some g) h is =
    (things_changed IsFitGroup name (flagged_group flag on g) t.groups h.0 (group_flagged flag on g (found_fits IsFitGroup name g t.groups h.0 is)), h.1)

flag_resource_fits : (t : GroupTable) (name : List ℕ) (flag : Flag) (on : Bool) (o : Option Resource) → IsFitTable t → named t.resources name ≡ o → IsFitTable (flag_resource t name flag on o)
flag_resource_fits t name flag on None h is = h
flag_resource_fits t name flag on (Some r) h is =
    (h.0, things_changed IsFitResource name (flagged_resource flag on r) t.resources h.1 (resource_flagged flag on r (found_fits IsFitResource name r t.resources h.1 is)))

flag_fits : (t : GroupTable) (name : List ℕ) (flag : Flag) (on : Bool) → IsFitTable t → IsFitTable (with_flag t name flag on)
flag_fits t name Managed on h = flag_group_fits t name Managed on (named t.groups name) h refl
flag_fits t name Wanted on h = flag_group_fits t name Wanted on (named t.groups name) h refl
flag_fits t name Suspended on h = flag_group_fits t name Suspended on (named t.groups name) h refl
flag_fits t name Enabled on h = flag_resource_fits t name Enabled on (named t.resources name) h refl
flag_fits t name Monitored on h = flag_resource_fits t name Monitored on (named t.resources name) h refl

change_group_fits : (t : GroupTable) (name : List ℕ) (setting : GroupSetting) (o : Option Group) → IsFitTable t → FitsGroup setting → named t.groups name ≡ o → IsFitTable (change_group t name setting o)
change_group_fits t name setting None h s is = h
change_group_fits t name setting (Some g) h s is =
    (things_changed IsFitGroup name _ t.groups h.0 (group_stays_fit setting g s (found_fits IsFitGroup name g t.groups h.0 is)), h.1)

take_group_if : (t new : GroupTable) (error : SetError) (allowed : Bool) → IsFitTable t → IsFitTable new → IsFitTable (or_same (if allowed then Ok new else Err error) t)
take_group_if t new error true h fit = fit
take_group_if t new error false h fit = h

take_group : (t : GroupTable) (name : List ℕ) (read : Result GroupSetting SetError) → IsFitTable t → ((setting : GroupSetting) → read ≡ Ok setting → FitsGroup setting) → IsFitTable (or_same (taken_by_group t name read) t)
take_group t name (Err error) h fits = h
take_group t name (Ok setting) h fits =
    take_group_if t (group_changed t name setting) _ (group_allows t name setting) h (change_group_fits t name setting (named t.groups name) h (fits setting refl) refl)

change_resource_fits : (t : GroupTable) (name : List ℕ) (setting : ResourceSetting) (o : Option Resource) → IsFitTable t → FitsResource setting → named t.resources name ≡ o → IsFitTable (change_resource t name setting o)
change_resource_fits t name setting None h s is = h
change_resource_fits t name setting (Some r) h s is =
    (h.0, things_changed IsFitResource name _ t.resources h.1 (resource_stays_fit setting r s (found_fits IsFitResource name r t.resources h.1 is)))

take_resource : (t : GroupTable) (name : List ℕ) (read : Result ResourceSetting SetError) → IsFitTable t → ((setting : ResourceSetting) → read ≡ Ok setting → FitsResource setting) → IsFitTable (or_same (taken_by_resource t name read) t)
take_resource t name (Err error) h fits = h
take_resource t name (Ok setting) h fits =
    take_group_if t (resource_changed t name setting) _ (is_allowed_resource name setting) h (change_resource_fits t name setting (named t.resources name) h (fits setting refl) refl)

numbers_of : (nodes : List ℕ) → AreFew IsNode nodes → AreFew IsNumber nodes
numbers_of nodes h = (h.0, each_weaker IsNode IsNumber (λ n is. omega (arith, is.1)) nodes h.1)

new_group_fits : (nodes : List ℕ) → AreFew IsNode nodes → IsFitGroup (Rattle.rg_props.specs.Properties.new_group nodes)
new_group_fits nodes h = record { nodelist = numbers_of nodes h; maximum = omega arith; desired = omega arith; dependencies = (omega arith, tt); affinities = (omega arith, tt); pingpong = omega arith; factors = (omega arith, tt); priority = omega arith }

new_resource_fits : (of_group of_type : List ℕ) → IsName of_group → IsName of_type → IsFitResource (Rattle.rg_props.specs.Properties.new_resource of_group of_type)
new_resource_fits of_group of_type g t = record { group = g; resource_type = t; strong = (omega arith, tt); weak = (omega arith, tt); offline_restart = (omega arith, tt); retry_count = omega arith; retry_interval = omega arith }

-- ---- addresses

weighted_fits : (addresses : List (List ℕ × Address)) (name : List ℕ) (weights : List Weight) (o : Option Address) → AreThings IsFitAddress addresses → AreFew IsWeight weights → named addresses name ≡ o
    → AreThings IsFitAddress (weighted addresses name weights o)
weighted_fits addresses name weights None h few is = h
weighted_fits addresses name weights (Some a) h few is = things_changed IsFitAddress name (record a { weights = weights }) addresses h ((found_fits IsFitAddress name a addresses h is).0, few)

-- ---- limits

both_true : (p q : Bool) → p ≡ true → q ≡ true → (p && q) ≡ true
both_true true q a b = b
both_true false q a b = absurd (cc)

free_if : (n : ℕ) (name : List ℕ) (l : Limit) (rest : Option Limit) (t : Bool) → t ≡ is_limit n name l → cond t (Some l) rest ≡ None → (l.node ≡ n → l.name ≡ name → ⊥) × (rest ≡ None)
free_if n name l rest true is none = absurd (cc)
free_if n name l rest false is none =
    (λ a b. let on : is_limit n name l ≡ true = both_true (l.node == n) (bytes_eq l.name name) (eq-eqb l.node n a) (texts_pass l.name name b) in absurd (cc), none)

each_free : (n : ℕ) (name : List ℕ) (ls : List Limit) → limit_of ls n name ≡ None → AllByRecursion (λ (l : Limit). l.node ≡ n → l.name ≡ name → ⊥) ls
each_free n name [] none = tt
each_free n name (l ∷ ls) none =
    let parts = free_if n name l (limit_of ls n name) (is_limit n name l) refl none in
    (parts.0, each_free n name ls parts.1)

limits_end : (new : Limit) (ls : List Limit) → AreLimits ls → AllByRecursion (λ (l : Limit). AreOther l new) ls → IsFitLimit new → AreLimits (ls ++ new ∷ [])
limits_end new [] h other fit = (fit, tt, tt)
limits_end new (l ∷ ls) h other fit = (h.0, each_append (λ m. AreOther l m) ls (new ∷ []) h.1 (other.0, tt), limits_end new ls h.2 other.1 fit)

filter_if : {X : Type 0} (P : X → Type 0) (x : X) (less : List X) (t : Bool) → P x → AllByRecursion P less → AllByRecursion P (cond t (x ∷ less) less)
filter_if P x less true p rest = (p, rest)
filter_if P x less false p rest = rest

each_filter : {X : Type 0} (P : X → Type 0) (test : X → Bool) (xs : List X) → AllByRecursion P xs → AllByRecursion P (filter test xs)
each_filter P test [] all = tt
each_filter P test (x ∷ xs) all = filter_if P x (filter test xs) (test x) all.0 (each_filter P test xs all.1)

limits_if : (l : Limit) (less : List Limit) (t : Bool) → IsFitLimit l → AllByRecursion (λ m. AreOther l m) less → AreLimits less → AreLimits (cond t (l ∷ less) less)
limits_if l less true fit other rest = (fit, other, rest)
limits_if l less false fit other rest = rest

limits_less : (test : Limit → Bool) (ls : List Limit) → AreLimits ls → AreLimits (filter test ls)
limits_less test [] h = tt
limits_less test (l ∷ ls) h = limits_if l (filter test ls) (test l) h.0 (each_filter (λ m. AreOther l m) test ls h.1) (limits_less test ls h.2)

-- ---- votes

set_keeps : (nodes : List NodeState) (i j : ℕ) (st : NodeState) → is_configured_in st ≡ true → is_configured_in (get_or nodes j Unconfigured) ≡ true → is_configured_in (get_or (set nodes i st) j Unconfigured) ≡ true
set_keeps [] i j st on was = was
set_keeps (x ∷ xs) zero zero st on was = on
set_keeps (x ∷ xs) zero (suc j) st on was = was
set_keeps (x ∷ xs) (suc i) zero st on was = was
set_keeps (x ∷ xs) (suc i) (suc j) st on was = set_keeps xs i j st on was

voting_if : (t : Bool) → is_configured_in (if t then Voting else Maintenance) ≡ true
voting_if true = refl
voting_if false = refl

abbrev pub Keeps : VoteTable → VoteTable → Type 0
Keeps v w = (length v.nodes ≡ 32 → length w.nodes ≡ 32) × ((m : ℕ) → is_configured v m ≡ true → is_configured w m ≡ true)

keeps_same : (v : VoteTable) → Keeps v v
keeps_same v = (λ size. size, λ m was. was)

keeps_set : (v : VoteTable) (n : ℕ) (st : NodeState) → is_configured_in st ≡ true → Keeps v (with_node v n st)
keeps_set v n st on = (λ size. length-set v.nodes (n - 1) st ∙ size, λ m was. set_keeps v.nodes (n - 1) (m - 1) st on was)

keeps_if : {E : Type 0} (v w : VoteTable) (e : E) (t : Bool) → Keeps v w → Keeps v (or_same (if t then Err e else Ok w) v)
keeps_if v w e true k = keeps_same v
keeps_if v w e false k = k

vote_keeps : (v : VoteTable) (n vote : ℕ) (o : NodeState) → Keeps v (or_same (with_vote v n vote o) v)
vote_keeps v n vote Unconfigured = keeps_same v
vote_keeps v n vote Maintenance = keeps_if v (with_node v n (state_with vote)) _ (vote_in Maintenance == vote) (keeps_set v n (state_with vote) (voting_if (vote == 1)))
vote_keeps v n vote Voting = keeps_if v (with_node v n (state_with vote)) _ (vote_in Voting == vote) (keeps_set v n (state_with vote) (voting_if (vote == 1)))

device_keeps : (v : VoteTable) (d : ℕ) (st : DevState) (o : Option VoteDevice) → Keeps v (or_same (with_state v d st o) v)
device_keeps v d st None = keeps_same v
device_keeps v d st (Some device) = keeps_if v _ _ (same_state device.state st) (λ size. size, λ m was. was)

configure_keeps : (v : VoteTable) (n : ℕ) (o : NodeState) → Keeps v (or_same (with_configured v n o) v)
configure_keeps v n Unconfigured = keeps_set v n Maintenance refl
configure_keeps v n Maintenance = keeps_same v
configure_keeps v n Voting = keeps_same v

now_configured : (v : VoteTable) (n : ℕ) (o : NodeState) → length v.nodes ≡ 32 → IsNode n → is_configured_in o ≡ false → is_configured (or_same (with_configured v n o) v) n ≡ true
now_configured v n Unconfigured size is was =
    ap is_configured_in (get_or-set_same v.nodes (n - 1) Maintenance Unconfigured (omega (arith, size, is.0, is.1)))
now_configured v n Maintenance size is was = absurd (cc)
now_configured v n Voting size is was = absurd (cc)

remove_size : (v : VoteTable) (n : ℕ) (o : NodeState) → length v.nodes ≡ 32 → length (or_same (without_node v n o) v).nodes ≡ 32
remove_size v n Unconfigured size = size
remove_size v n Maintenance size = length-set v.nodes (n - 1) Unconfigured ∙ size
remove_size v n Voting size = length-set v.nodes (n - 1) Unconfigured ∙ size

still_configured : (v : VoteTable) (n m : ℕ) (o : NodeState) → IsNode n → IsNode m → m ≢ n → is_configured v m ≡ true → is_configured (or_same (without_node v n o) v) m ≡ true
still_configured v n m Unconfigured hn hm other was = was
still_configured v n m Maintenance hn hm other was = ap is_configured_in (get_or-set_other v.nodes (n - 1) (m - 1) Unconfigured Unconfigured (λ e. other (omega (arith, e, hn.0, hm.0)))) ∙ was
still_configured v n m Voting hn hm other was = ap is_configured_in (get_or-set_other v.nodes (n - 1) (m - 1) Unconfigured Unconfigured (λ e. other (omega (arith, e, hn.0, hm.0)))) ∙ was

-- ---- the order of nodes

node_more : (v w : VoteTable) (n : ℕ) (ns : List ℕ) → ((m : ℕ) → is_configured v m ≡ true → is_configured w m ≡ true) → AllByRecursion (IsOrdered v) ns → IsOrdered w n → AllByRecursion (IsOrdered w) (ns ++ n ∷ [])
node_more v w n ns keeps all new =
    each_append (IsOrdered w) ns (n ∷ []) (each_weaker (IsOrdered v) (IsOrdered w) (λ m was. (was.0, keeps m was.1)) ns all) (new, tt)

differ_end : (n : ℕ) (ns : List ℕ) → Differ ns → AllByRecursion (λ m. m ≢ n) ns → Differ (ns ++ n ∷ [])
differ_end n [] h other = (tt, tt)
differ_end n (m ∷ ns) h other = (each_append (λ k. m ≢ k) ns (n ∷ []) h.0 (other.0, tt), differ_end n ns h.1 other.1)

not_ordered : (v : VoteTable) (n : ℕ) → is_configured v n ≡ false → (m : ℕ) → IsOrdered v m → m ≢ n
not_ordered v n off m is same = let on : is_configured v n ≡ true = subst (λ k. is_configured v k ≡ true) same is.1 in absurd (cc)

differ_if : (n : ℕ) (less : List ℕ) (t : Bool) → AllByRecursion (λ m. n ≢ m) less → Differ less → Differ (cond t (n ∷ less) less)
differ_if n less true other rest = (other, rest)
differ_if n less false other rest = rest

differ_filter : (test : ℕ → Bool) (ns : List ℕ) → Differ ns → Differ (filter test ns)
differ_filter test [] h = tt
differ_filter test (n ∷ ns) h = differ_if n (filter test ns) (test n) (each_filter (λ m. n ≢ m) test ns h.0) (differ_filter test ns h.1)

left_if : (v w : VoteTable) (n m : ℕ) (less : List ℕ) (t : Bool) → t ≡ not (m == n) → (m ≢ n → IsOrdered w m) → AllByRecursion (IsOrdered w) less → AllByRecursion (IsOrdered w) (cond t (m ∷ less) less)
left_if v w n m less false is next rest = rest
left_if v w n m less true is next rest = (next (λ e. let on : (m == n) ≡ true = eq-eqb m n e in absurd (cc)), rest)

left_ordered : (v w : VoteTable) (n : ℕ) → ((m : ℕ) → IsNode m → m ≢ n → is_configured v m ≡ true → is_configured w m ≡ true) → (ns : List ℕ) → AllByRecursion (IsOrdered v) ns → AllByRecursion (IsOrdered w) (filter (λ m. not (m == n)) ns)
left_ordered v w n keeps [] all = tt
left_ordered v w n keeps (m ∷ ns) all =
    left_if v w n m (filter (λ k. not (k == n)) ns) (not (m == n)) refl (λ other. (all.0.0, keeps m all.0.0 other all.0.1)) (left_ordered v w n keeps ns all.1)

-- ---- an update that is not refused

not_there : (a : Option Thing) (b : Bool) (c : Option (List ℕ)) (d e f : Bool) → first_fit a b c d e f ≡ None → b ≡ false
not_there (Some thing) b c d e f none = absurd (cc)
not_there None true c d e f none = absurd (cc)
not_there None false c d e f none = refl

is_none : {X : Type 0} (o : Option X) → is_some o ≡ false → o ≡ None
is_none None e = refl
is_none (Some x) e = absurd (cc)

no_such : (s : ConfigState) (u : Update) → refusal_of s u ≡ None → exists_in s u ≡ false
no_such s u none = not_there (unknown_in s u) (exists_in s u) (user_in s u) (is_same_in s u) (is_bad_property_in s u) (is_bad_setting_in s u) none

stays : (s : ConfigState) (u : Update) → IsSound s → IsGiven u → refusal_of s u ≡ None → IsSound (changed s u)
stays s (RegisterType name agent methods single failover) h given none =
    with_types s _ h (things_more IsFitType name _ s.types h.types (is_none _ (no_such s (RegisterType name agent methods single failover) none)) given.0 given.1)
stays s (UnregisterType name) h given none = with_types s _ h (things_less IsFitType name s.types h.types)
stays s (CreateGroup name nodes) h given none =
    with_groups s _ h (things_more IsFitGroup name _ s.groups.groups h.groups (is_none _ (no_such s (CreateGroup name nodes) none)) given.0 (new_group_fits nodes given.1), h.resources)
stays s (DeleteGroup name) h given none = with_groups s _ h (things_less IsFitGroup name s.groups.groups h.groups, h.resources)
stays s (SetGroup name property value) h given none =
    with_groups s _ h (take_group s.groups name (group_setting_in s.groups.version property value) (h.groups, h.resources) (group_setting_fits s.groups.version property value))
stays s (ChangeGroup name change) h given none = with_groups s _ h (flag_fits s.groups name (group_flag change) (sets_group change) (h.groups, h.resources))
stays s (SwitchGroup name nodes) h given none = with_groups s _ h (flag_fits s.groups name Wanted true (h.groups, h.resources))
stays s (CreateResource name of_group of_type) h given none =
    with_groups s _ h (h.groups, things_more IsFitResource name _ s.groups.resources h.resources (is_none _ (no_such s (CreateResource name of_group of_type) none)) given.0 (new_resource_fits of_group of_type given.1 given.2))
stays s (DeleteResource name) h given none = with_groups s _ h (h.groups, things_less IsFitResource name s.groups.resources h.resources)
stays s (SetResource name property value) h given none =
    with_groups s _ h (take_resource s.groups name (resource_setting_in property value) (h.groups, h.resources) (resource_setting_fits property value))
stays s (ChangeResource name change) h given none = with_groups s _ h (flag_fits s.groups name (resource_flag change) (sets_resource change) (h.groups, h.resources))
stays s (Device d change) h given none =
    let k = device_keeps s.votes d (state_after change) (device_at s.votes d) in
    with_votes s _ h (k.0 h.nodes) k.1
stays s (NodeVote n vote) h given none =
    let k = vote_keeps s.votes n (vote_number vote) (node_at s.votes n) in
    with_votes s _ h (k.0 h.nodes) k.1
stays s (AddNode n) h given none =
    let k = configure_keeps s.votes n (node_at s.votes n) in
    let off : is_configured s.votes n ≡ false = no_such s (AddNode n) none in
    let w : VoteTable = or_same (with_configured s.votes n (node_at s.votes n)) s.votes in
    record {
      nodes = k.0 h.nodes;
      order = node_more s.votes w n s.order k.1 h.order (given, now_configured s.votes n (node_at s.votes n) h.nodes given off);
      apart = differ_end n s.order h.apart (each_weaker (IsOrdered s.votes) (λ m. m ≢ n) (not_ordered s.votes n off) s.order h.order);
      types = h.types;
      groups = h.groups;
      resources = h.resources;
      limits = h.limits;
      addresses = h.addresses;
    }
stays s (RemoveNode n) h given none =
    let w : VoteTable = or_same (without_node s.votes n (node_at s.votes n)) s.votes in
    record {
      nodes = remove_size s.votes n (node_at s.votes n) h.nodes;
      order = left_ordered s.votes w n (λ m is other was. still_configured s.votes n m (node_at s.votes n) given is other was) s.order h.order;
      apart = differ_filter (λ m. not (m == n)) s.order h.apart;
      types = h.types;
      groups = h.groups;
      resources = h.resources;
      limits = limits_less (λ l. not (l.node == n)) s.limits h.limits;
      addresses = h.addresses;
    }
stays s (CreateLimit n limit soft hard) h given none =
    let new : Limit = record { node = n; name = limit; soft = soft; hard = hard } in
    with_limits s _ h (limits_end new s.limits h.limits (each_free n limit s.limits (is_none _ (no_such s (CreateLimit n limit soft hard) none))) (omega (arith, given.0.1), given.1, given.2, given.3))
stays s (DeleteLimit n limit) h given none = with_limits s _ h (limits_less (λ l. not (is_limit n limit l)) s.limits h.limits)
stays s (CreateAddress name of_group policy) h given none =
    with_addresses s _ h (things_more IsFitAddress name _ s.addresses h.addresses (is_none _ (no_such s (CreateAddress name of_group policy) none)) given.0 (given.1, (omega arith, tt)))
stays s (DeleteAddress name) h given none = with_addresses s _ h (things_less IsFitAddress name s.addresses h.addresses)
stays s (SetWeights name weights) h given none = with_addresses s _ h (weighted_fits s.addresses name weights (named s.addresses name) h.addresses given refl)

applied_if : (s : ConfigState) (u : Update) (r : Option Refusal) → IsSound s → IsGiven u → refusal_of s u ≡ r → IsSound (unless_refused s u r)
applied_if s u None h given is = counted_too (changed s u) _ (stays s u h given is)
applied_if s u (Some r) h given is = h

all_stay : (s : ConfigState) (us : List Update) → IsSound s → AllByRecursion IsGiven us → IsSound (fold applied s us)
all_stay s [] h all = h
all_stay s (u ∷ us) h all = all_stay (applied s u) us (applied_if s u (refusal_of s u) h all.0 refl) all.1

-- ---- at first

first_if : (t : Bool) → t ≡ true → is_configured_in (if t then Voting else Unconfigured) ≡ true
first_if true e = refl
first_if false e = absurd (cc)

first_at : (h : Header) (n : ℕ) → IsNode n → has h.configured n ≡ true → is_configured (first_of h) n ≡ true
first_at h n is on = ap is_configured_in (first_nodes_at h.configured 32 n is.0 is.1) ∙ first_if (has h.configured n) on

numbers_if : (h : Header) (k : ℕ) (ns : List ℕ) (t : Bool) → suc k ≤ 32 → has h.configured (suc k) ≡ t → AllByRecursion (IsOrdered (first_of h)) ns → AllByRecursion (IsOrdered (first_of h)) (if t then ns ++ suc k ∷ [] else ns)
numbers_if h k ns true low on all = each_append (IsOrdered (first_of h)) ns (suc k ∷ []) all (((omega arith, low), first_at h (suc k) (omega arith, low) on), tt)
numbers_if h k ns false low on all = all

first_order : (h : Header) (k : ℕ) → k ≤ 32 → AllByRecursion (IsOrdered (first_of h)) (numbers_to h.configured k)
first_order h zero low = tt
first_order h (suc k) low = numbers_if h k (numbers_to h.configured k) (has h.configured (suc k)) low refl (first_order h k (omega (arith, low)))

below_if : (ns : List ℕ) (k : ℕ) (t : Bool) → AllByRecursion (λ n. n ≤ k) ns → AllByRecursion (λ n. n ≤ suc k) (if t then ns ++ suc k ∷ [] else ns)
below_if ns k true all = each_append (λ n. n ≤ suc k) ns (suc k ∷ []) (each_weaker (λ n. n ≤ k) (λ n. n ≤ suc k) (λ n le. omega (arith, le)) ns all) (omega arith, tt)
below_if ns k false all = each_weaker (λ n. n ≤ k) (λ n. n ≤ suc k) (λ n le. omega (arith, le)) ns all

below : (set k : ℕ) → AllByRecursion (λ n. n ≤ k) (numbers_to set k)
below set zero = tt
below set (suc k) = below_if (numbers_to set k) k (has set (suc k)) (below set k)

apart_if : (ns : List ℕ) (k : ℕ) (t : Bool) → Differ ns → AllByRecursion (λ n. n ≤ k) ns → Differ (if t then ns ++ suc k ∷ [] else ns)
apart_if ns k true h low = differ_end (suc k) ns h (each_weaker (λ n. n ≤ k) (λ m. m ≢ suc k) (λ m le e. omega (arith, le, e)) ns low)
apart_if ns k false h low = h

first_apart : (set k : ℕ) → Differ (numbers_to set k)
first_apart set zero = tt
first_apart set (suc k) = apart_if (numbers_to set k) k (has set (suc k)) (first_apart set k) (below set k)

first_sound : (h : Header) → IsSound (first_config h)
first_sound h = record {
  nodes = first_nodes_size h.configured 32;
  order = first_order h 32 (omega arith);
  apart = first_apart h.configured 32;
  types = tt;
  groups = tt;
  resources = tt;
  limits = tt;
  addresses = tt;
}

pub all_sound : (h : Header) (us : List Update) → AllByRecursion IsGiven us → IsSound (config_of h us)
all_sound h us all = all_stay (first_config h) us (first_sound h) all
