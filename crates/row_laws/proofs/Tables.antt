-- The rows of each table of a sound configuration.
use Rattle.std.proofs.Common.{◌≡◌, ◌≢◌, ℕ, zero, suc, ◌+◌, ◌<◌, ◌≤◌, ◌^◌, List, [], ◌∷◌, ◌++◌, length, map, get_or, Bool, true, false, refl, ap, sym, subst, ◌∙◌, arith}
use Rattle.std.specs.Prelude.{codes, flat_map, if◌then◌else◌}
use Rattle.std.specs.List.{AllByRecursion, filter}
use Rattle.std.specs.Fmt.{decimal}
use Rattle.std.proofs.lemmas.List.{append_cancel_left, length-append}
use Rattle.std.proofs.lemmas.Fmt.{decimal_injective}
use Rattle.cl_base.specs.Limits.{most_devices}
use Rattle.cl_base.specs.Methods.{has_method}
use Rattle.cl_base.specs.Names.{IsName}
use Rattle.cl_base.specs.Numbers.{by_commas}
use Rattle.cl_base.specs.declared.command.Policy.{Policy}
use Rattle.cl_base.specs.declared.command.Policy.TheVariants.{Weighted, Sticky, StickyPort}
use Rattle.cl_base.specs.declared.command.Table.{Table}
use Rattle.cl_base.specs.declared.command.Table.TheVariants.{Infrastructure, Types, Groups, Resources, Addresses}
use Rattle.cl_base.specs.declared.header.Version.{Version}
use Rattle.cl_base.specs.declared.header.Version.TheVariants.{One, Two}
use Rattle.cl_base.specs.declared.history.FailoverMode.{FailoverMode}
use Rattle.cl_base.specs.declared.history.FailoverMode.TheVariants as mode
use Rattle.cl_base.specs.declared.method.Method.{Method}
use Rattle.cl_base.specs.declared.method.Method.TheVariants.{PrenetStart, Start, MonitorStart, MonitorCheck, MonitorStop, Stop, PostnetStop, Validate, Init, Fini, Boot, Update}
use Rattle.quorum_votes.specs.Votes.{node_at, vote_in, vote_of}
use Rattle.quorum_votes.specs.declared.state.NodeState.{NodeState}
use Rattle.quorum_votes.specs.declared.state.NodeState.TheVariants.{Unconfigured, Maintenance, Voting}
use Rattle.quorum_votes.specs.declared.state.DevState.{DevState}
use Rattle.quorum_votes.specs.declared.state.DevState.TheVariants.{Absent, Enabled, Disabled}
use Rattle.rt_types.specs.Fields.{TypeFields}
use Rattle.load_limits.specs.declared.limits.Limit.{Limit}
use Rattle.load_limits.specs.declared.limits.Factor.{Factor}
use Rattle.rg_props.specs.Affinities.{affinity_sign}
use Rattle.rg_props.specs.declared.affinity.Affine.{Affine}
use Rattle.rg_props.specs.declared.affinity.Affinity.{Affinity}
use Rattle.rg_props.specs.declared.affinity.Affinity.TheVariants.{PlusPlus, Plus, Minus, MinusMinus, PlusPlusPlus}
use Rattle.rg_props.specs.declared.group.Group.{Group}
use Rattle.rg_props.specs.declared.group.Resource.{Resource}
use Rattle.ccr_text.specs.declared.rows.Row.{Row}
use Rattle.ccr_text.specs.TableText.{AreRows, IsRow, IsPlain}
use Rattle.ccr_text.proofs.CutLemmas.{cut_same}
use Rattle.ccr_tables.specs.declared.address.Address.{Address}
use Rattle.ccr_tables.specs.declared.address.Weight.{Weight}
use Rattle.ccr_tables.specs.Changes.{config_of}
use Rattle.ccr_tables.specs.Refusals.{device_state, has_device}
use Rattle.ccr_tables.specs.State.{ConfigState}
use Rattle.update_words.specs.Methods.{all_methods, method_text}
use Rattle.update_words.specs.Words.{policy_text, weight_text}
use Rattle.ccr_rows.specs.Texts.{with_commas, name_text, names_text, affinity_text, affinities_text, factor_text, factors_text, weights_text, choice_text, mode_text, device_text, methods_text, single_text, failover_text}
use Rattle.ccr_rows.specs.Rows.{row, row_of, node_row, device_rows, device_rows_to, limit_row, infrastructure_rows, type_row, type_rows, group_rows, all_group_rows, resource_rows, all_resource_rows, address_rows, all_address_rows, rows_of}
use Rattle.ccr_rows.proofs.Pieces.{numbers_same}
use Rattle.row_laws.specs.Given.{AreFew, IsNode, IsWeight}
use Rattle.row_laws.specs.Laws.{TablesHaveTheirForm}
use Rattle.row_laws.proofs.Values.{IsText, are_above, plain_if, text_append, text_cons, wider, text_decimal, decimal_lacks_dot, text_name, text_list}
use Rattle.row_laws.proofs.Keys.{each_append, each_map, each_weaker, AreGood, Cross, Apart, are_rows, good_append, cross_by, Field, IsField, have_words, AreThings, things_good}
use Rattle.row_laws.proofs.Settings.{IsNumber, IsAffine, IsFactor, IsFitGroup, IsFitResource}
use Rattle.row_laws.proofs.Sound.{IsSound, IsOrdered, IsFitType, IsFitAddress, IsFitLimit, AreOther, AreLimits, Differ, all_sound}

-- ---- values

word : (k : ℕ) (w : List ℕ) → length w ≤ k → are_above w ≡ true → IsText k w
word k w le high = (le, plain_if w high)

long : (k : ℕ) (w : List ℕ) → k ≤ 65535 → IsText k w → IsText 65535 w
long k w le h = wider k 65535 w le h

text_number : (n : ℕ) → IsNumber n → IsText 63 (decimal n)
text_number n fits = wider 20 63 (decimal n) (omega arith) (text_decimal n fits)

text_names : (names : List (List ℕ)) → AreFew IsName names → IsText 65535 (names_text names)
text_names names few = long 4096 (names_text names) (omega arith) (text_list name_text IsName (λ n h. wider 32 63 n (omega arith) (text_name n h)) names few.0 few.1)

text_numbers : (numbers : List ℕ) → AreFew IsNumber numbers → IsText 65535 (by_commas numbers)
text_numbers numbers few = subst (λ (t : List ℕ). IsText 65535 t) (numbers_same numbers) (long 4096 (with_commas decimal numbers) (omega arith) (text_list decimal IsNumber text_number numbers few.0 few.1))

text_sign : (a : Affinity) → IsText 3 (affinity_sign a)
text_sign PlusPlus = word 3 (codes "++") (omega arith) refl
text_sign Plus = word 3 (codes "+") (omega arith) refl
text_sign Minus = word 3 (codes "-") (omega arith) refl
text_sign MinusMinus = word 3 (codes "--") (omega arith) refl
text_sign PlusPlusPlus = word 3 (codes "+++") (omega arith) refl

text_affinity : (a : Affine) → IsAffine a → IsText 63 (affinity_text a)
text_affinity a h = wider 35 63 (affinity_text a) (omega arith) (text_append 3 32 (affinity_sign a.affinity) a.group (text_sign a.affinity) (text_name a.group h))

text_affinities : (affinities : List Affine) → AreFew IsAffine affinities → IsText 65535 (affinities_text affinities)
text_affinities affinities few = long 4096 (affinities_text affinities) (omega arith) (text_list affinity_text IsAffine text_affinity affinities few.0 few.1)

text_factor : (f : Factor) → IsFactor f → IsText 63 (factor_text f)
text_factor f h = wider 53 63 (factor_text f) (omega arith) (text_append 32 21 f.name (64 ∷ decimal f.load) (text_name f.name h.0) (text_cons 20 64 (decimal f.load) (omega arith) (text_decimal f.load h.1)))

text_factors : (factors : List Factor) → AreFew IsFactor factors → IsText 65535 (factors_text factors)
text_factors factors few = long 4096 (factors_text factors) (omega arith) (text_list factor_text IsFactor text_factor factors few.0 few.1)

text_weight : (w : Weight) → IsWeight w → IsText 63 (weight_text w)
text_weight w h =
    wider 41 63 (weight_text w) (omega arith)
    (text_append 20 21 (decimal w.weight) (64 ∷ decimal w.node) (text_decimal w.weight h.1) (text_cons 20 64 (decimal w.node) (omega arith) (text_decimal w.node (omega (arith, h.0.1)))))

text_weights : (weights : List Weight) → AreFew IsWeight weights → IsText 65535 (weights_text weights)
text_weights weights few = long 4096 (weights_text weights) (omega arith) (text_list weight_text IsWeight text_weight weights few.0 few.1)

text_choice : (b : Bool) → IsText 65535 (choice_text b)
text_choice true = word 65535 (codes "TRUE") (omega arith) refl
text_choice false = word 65535 (codes "FALSE") (omega arith) refl

text_mode : (m : FailoverMode) → IsText 65535 (mode_text m)
text_mode mode.None = word 65535 (codes "NONE") (omega arith) refl
text_mode mode.Soft = word 65535 (codes "SOFT") (omega arith) refl
text_mode mode.Hard = word 65535 (codes "HARD") (omega arith) refl
text_mode mode.RestartOnly = word 65535 (codes "RESTART_ONLY") (omega arith) refl
text_mode mode.LogOnly = word 65535 (codes "LOG_ONLY") (omega arith) refl

text_policy : (p : Policy) → IsText 65535 (policy_text p)
text_policy Weighted = word 65535 (codes "LB_WEIGHTED") (omega arith) refl
text_policy Sticky = word 65535 (codes "LB_STICKY") (omega arith) refl
text_policy StickyPort = word 65535 (codes "STICKY_PORT") (omega arith) refl

text_device : (d : DevState) → IsText 65535 (device_text d)
text_device Absent = word 65535 (codes "absent") (omega arith) refl
text_device Enabled = word 65535 (codes "enabled") (omega arith) refl
text_device Disabled = word 65535 (codes "disabled") (omega arith) refl

text_single : (b : Bool) → IsText 8 (single_text b)
text_single true = word 8 (codes "single") (omega arith) refl
text_single false = word 8 (codes "multi") (omega arith) refl

text_failover : (b : Bool) → IsText 8 (failover_text b)
text_failover true = word 8 (codes "failover") (omega arith) refl
text_failover false = word 8 (codes "any") (omega arith) refl

text_method : (m : Method) → IsText 63 (method_text m)
text_method PrenetStart = word 63 (codes "PRENET_START") (omega arith) refl
text_method Start = word 63 (codes "START") (omega arith) refl
text_method MonitorStart = word 63 (codes "MONITOR_START") (omega arith) refl
text_method MonitorCheck = word 63 (codes "MONITOR_CHECK") (omega arith) refl
text_method MonitorStop = word 63 (codes "MONITOR_STOP") (omega arith) refl
text_method Stop = word 63 (codes "STOP") (omega arith) refl
text_method PostnetStop = word 63 (codes "POSTNET_STOP") (omega arith) refl
text_method Validate = word 63 (codes "VALIDATE") (omega arith) refl
text_method Init = word 63 (codes "INIT") (omega arith) refl
text_method Fini = word 63 (codes "FINI") (omega arith) refl
text_method Boot = word 63 (codes "BOOT") (omega arith) refl
text_method Update = word 63 (codes "UPDATE") (omega arith) refl

each_unit : {X : Type 0} (xs : List X) → AllByRecursion (λ x. Unit {0}) xs
each_unit [] = tt
each_unit (x ∷ xs) = (tt, each_unit xs)

less_if : {X : Type 0} (x : X) (less : List X) (k : ℕ) (t : Bool) → length less ≤ k → length (Rattle.std.specs.Prelude.cond t (x ∷ less) less) ≤ k + 1
less_if x less k true le = omega (arith, le)
less_if x less k false le = omega (arith, le)

length_filter : {X : Type 0} (test : X → Bool) (xs : List X) → length (filter test xs) ≤ length xs
length_filter test [] = omega arith
length_filter test (x ∷ xs) = omega (arith, less_if x (filter test xs) (length xs) (test x) (length_filter test xs))

few_methods : (set : ℕ) → length (filter (has_method set) all_methods) ≤ 32
few_methods set = omega (arith, length_filter (has_method set) all_methods)

text_methods : (set : ℕ) → IsText 4096 (methods_text set)
unfolding methods_text
text_methods set = text_list method_text (λ m. Unit {0}) (λ m h. text_method m) (filter (has_method set) all_methods) (few_methods set) (each_unit (filter (has_method set) all_methods))

-- ---- groups, resources, addresses

field : (w value : List ℕ) → length w ≤ 47 → are_above w ≡ true → IsText 65535 value → IsField (w, value)
field w value le high text = (word 47 w le high, text)

number : (n : ℕ) → IsNumber n → IsText 65535 (decimal n)
number n fits = long 20 (decimal n) (omega arith) (text_decimal n fits)

abbrev pub later_fields : Version → Group → List Field
later_fields One g = []
later_fields Two g = (codes "Load_factors", factors_text g.factors) ∷ (codes "Priority", decimal g.priority) ∷ []

abbrev pub group_fields : Version → Group → List Field
group_fields version g =
    (codes "Nodelist", by_commas g.nodelist) ∷ (codes "Maximum_primaries", decimal g.maximum) ∷ (codes "Desired_primaries", decimal g.desired)
    ∷ (codes "RG_dependencies", names_text g.dependencies) ∷ (codes "RG_affinities", affinities_text g.affinities)
    ∷ (codes "Pingpong_interval", decimal g.pingpong) ∷ (codes "Failback", choice_text g.failback)
    ∷ (codes "managed", choice_text g.managed) ∷ (codes "wanted", choice_text g.wanted) ∷ (codes "Suspend_automatic_recovery", choice_text g.suspended)
    ∷ later_fields version g

later_fit : (version : Version) (g : Group) → IsFitGroup g → AllByRecursion IsField (later_fields version g)
later_fit One g f = tt
later_fit Two g f =
    (field (codes "Load_factors") (factors_text g.factors) (omega arith) refl (text_factors g.factors f.factors), (field (codes "Priority") (decimal g.priority) (omega arith) refl (number g.priority f.priority), tt))

group_fits : (version : Version) (g : Group) → IsFitGroup g → AllByRecursion IsField (group_fields version g)
group_fits version g f = (
  field (codes "Nodelist") (by_commas g.nodelist) (omega arith) refl (text_numbers g.nodelist f.nodelist),
  (
    field (codes "Maximum_primaries") (decimal g.maximum) (omega arith) refl (number g.maximum f.maximum),
    (
      field (codes "Desired_primaries") (decimal g.desired) (omega arith) refl (number g.desired f.desired),
      (
        field (codes "RG_dependencies") (names_text g.dependencies) (omega arith) refl (text_names g.dependencies f.dependencies),
        (
          field (codes "RG_affinities") (affinities_text g.affinities) (omega arith) refl (text_affinities g.affinities f.affinities),
          (
            field (codes "Pingpong_interval") (decimal g.pingpong) (omega arith) refl (number g.pingpong f.pingpong),
            (
              field (codes "Failback") (choice_text g.failback) (omega arith) refl (text_choice g.failback),
              (
                field (codes "managed") (choice_text g.managed) (omega arith) refl (text_choice g.managed),
                (
                  field (codes "wanted") (choice_text g.wanted) (omega arith) refl (text_choice g.wanted),
                  (
                    field (codes "Suspend_automatic_recovery") (choice_text g.suspended) (omega arith) refl (text_choice g.suspended),
                    later_fit version g f,
                  ),
                ),
              ),
            ),
          ),
        ),
      ),
    ),
  ),
)

group_words : (version : Version) (g : Group) → have_words (group_fields version g) ≡ true
group_words One g = refl
group_words Two g = refl

groups_good : (version : Version) (groups : List (List ℕ × Group)) → AreThings IsFitGroup groups → AreGood (all_group_rows version groups)
groups_good One groups h = things_good IsFitGroup (group_fields One) (group_fits One) (group_words One) groups h
groups_good Two groups h = things_good IsFitGroup (group_fields Two) (group_fits Two) (group_words Two) groups h

abbrev pub resource_fields : Resource → List Field
resource_fields r =
    (codes "group", r.group) ∷ (codes "type", r.resource_type) ∷ (codes "enabled", choice_text r.enabled) ∷ (codes "monitored", choice_text r.monitored)
    ∷ (codes "Resource_dependencies", names_text r.strong) ∷ (codes "Resource_dependencies_weak", names_text r.weak) ∷ (codes "Resource_dependencies_offline_restart", names_text r.offline_restart)
    ∷ (codes "Failover_mode", mode_text r.mode) ∷ (codes "Retry_count", decimal r.retry_count) ∷ (codes "Retry_interval", decimal r.retry_interval) ∷ []

resource_fits : (r : Resource) → IsFitResource r → AllByRecursion IsField (resource_fields r)
resource_fits r f = (
  field (codes "group") r.group (omega arith) refl (long 32 r.group (omega arith) (text_name r.group f.group)),
  (
    field (codes "type") r.resource_type (omega arith) refl (long 32 r.resource_type (omega arith) (text_name r.resource_type f.resource_type)),
    (
      field (codes "enabled") (choice_text r.enabled) (omega arith) refl (text_choice r.enabled),
      (
        field (codes "monitored") (choice_text r.monitored) (omega arith) refl (text_choice r.monitored),
        (
          field (codes "Resource_dependencies") (names_text r.strong) (omega arith) refl (text_names r.strong f.strong),
          (
            field (codes "Resource_dependencies_weak") (names_text r.weak) (omega arith) refl (text_names r.weak f.weak),
            (
              field (codes "Resource_dependencies_offline_restart") (names_text r.offline_restart) (omega arith) refl (text_names r.offline_restart f.offline_restart),
              (
                field (codes "Failover_mode") (mode_text r.mode) (omega arith) refl (text_mode r.mode),
                (
                  field (codes "Retry_count") (decimal r.retry_count) (omega arith) refl (number r.retry_count f.retry_count),
                  (
                    field (codes "Retry_interval") (decimal r.retry_interval) (omega arith) refl (number r.retry_interval f.retry_interval),
                    tt,
                  ),
                ),
              ),
            ),
          ),
        ),
      ),
    ),
  ),
)

resource_words : (r : Resource) → have_words (resource_fields r) ≡ true
resource_words r = refl

resources_good : (resources : List (List ℕ × Resource)) → AreThings IsFitResource resources → AreGood (all_resource_rows resources)
resources_good resources h = things_good IsFitResource resource_fields resource_fits resource_words resources h

abbrev pub address_fields : Address → List Field
address_fields a = (codes "group", a.group) ∷ (codes "policy", policy_text a.policy) ∷ (codes "weights", weights_text a.weights) ∷ []

address_fits : (a : Address) → IsFitAddress a → AllByRecursion IsField (address_fields a)
address_fits a f = (
  field (codes "group") a.group (omega arith) refl (long 32 a.group (omega arith) (text_name a.group f.0)),
  (
    field (codes "policy") (policy_text a.policy) (omega arith) refl (text_policy a.policy),
    (
      field (codes "weights") (weights_text a.weights) (omega arith) refl (text_weights a.weights f.1),
      tt,
    ),
  ),
)

address_words : (a : Address) → have_words (address_fields a) ≡ true
address_words a = refl

addresses_good : (addresses : List (List ℕ × Address)) → AreThings IsFitAddress addresses → AreGood (all_address_rows addresses)
addresses_good addresses h = things_good IsFitAddress address_fields address_fits address_words addresses h

-- ---- types

type_value : (t : TypeFields) → IsFitType t → IsText 65535 (t.agent ++ 32 ∷ (methods_text t.methods ++ 32 ∷ (single_text t.single ++ 32 ∷ failover_text t.failover)))
type_value t h =
    let last : IsText 17 (single_text t.single ++ 32 ∷ failover_text t.failover) = text_append 8 9 (single_text t.single) (32 ∷ failover_text t.failover) (text_single t.single) (text_cons 8 32 (failover_text t.failover) (omega arith) (text_failover t.failover)) in
    let more : IsText 4114 (methods_text t.methods ++ 32 ∷ (single_text t.single ++ 32 ∷ failover_text t.failover)) =
    text_append 4096 18 (methods_text t.methods) (32 ∷ (single_text t.single ++ 32 ∷ failover_text t.failover)) (text_methods t.methods) (text_cons 17 32 _ (omega arith) last) in
    long 4147 (t.agent ++ 32 ∷ (methods_text t.methods ++ 32 ∷ (single_text t.single ++ 32 ∷ failover_text t.failover))) (omega arith)
    (text_append 32 4115 t.agent (32 ∷ (methods_text t.methods ++ 32 ∷ (single_text t.single ++ 32 ∷ failover_text t.failover))) (text_name t.agent h) (text_cons 4114 32 _ (omega arith) more))

is_row : (key value : List ℕ) → 1 ≤ length key → IsText 80 key → IsText 65535 value → IsRow (row key value)
is_row key value some k v = record { some = some; short = k.0; most = v.0; key = k.1; value = v.1 }

types_good : (types : List (List ℕ × TypeFields)) → AreThings IsFitType types → AreGood (type_rows types)
types_good [] h = (tt, tt)
types_good (p ∷ ps) h =
    let rest = types_good ps h.3 in (
      (is_row p.0 _ h.0.0 (wider 32 80 p.0 (omega arith) (text_name p.0 h.0)) (type_value p.1 h.1), rest.0),
      (each_map (λ (y : Row). p.0 ≢ y.key) (λ q. type_row q.0 q.1) (λ q. p.0 ≢ q.0) (λ q other. other) ps h.2, rest.1),
    )

-- ---- nodes, devices, limits

number_key : (before : List ℕ) (n : ℕ) → length before ≤ 7 → IsPlain before → IsNumber n → IsText 80 (before ++ decimal n)
number_key before n le plain fits = wider 27 80 (before ++ decimal n) (omega arith) (text_append 7 20 before (decimal n) (le, plain) (text_decimal n fits))

numbered_apart : (before : List ℕ) (n m : ℕ) → IsNumber n → IsNumber m → n ≢ m → before ++ decimal n ≢ before ++ decimal m
numbered_apart before n m hn hm other e = other (decimal_injective n m hn hm (append_cancel_left before (decimal n) (decimal m) e))

vote_low : (o : NodeState) → vote_in o < 2 ^ 64
vote_low Unconfigured = omega arith
vote_low Maintenance = omega arith
vote_low Voting = omega arith

node_good : (s : ConfigState) (n : ℕ) → IsNumber n → IsRow (node_row s n)
node_good s n fits =
    is_row (codes "node." ++ decimal n) (decimal (vote_of s.votes n)) (omega arith) (number_key (codes "node.") n (omega arith) (plain_if (codes "node.") refl) fits) (number (vote_of s.votes n) (vote_low (node_at s.votes n)))

node_number : (s : ConfigState) (n : ℕ) → IsOrdered s.votes n → IsNumber n
node_number s n h = omega (arith, h.0.1)

nodes_apart_from : (s : ConfigState) (n : ℕ) → IsOrdered s.votes n → (ns : List ℕ) → AllByRecursion (IsOrdered s.votes) ns → AllByRecursion (λ m. n ≢ m) ns → AllByRecursion (λ (y : Row). (node_row s n).key ≢ y.key) (map (node_row s) ns)
nodes_apart_from s n h [] all other = tt
nodes_apart_from s n h (m ∷ ns) all other = (numbered_apart (codes "node.") n m (node_number s n h) (node_number s m all.0) other.0, nodes_apart_from s n h ns all.1 other.1)

nodes_good : (s : ConfigState) (ns : List ℕ) → AllByRecursion (IsOrdered s.votes) ns → Differ ns → AreGood (map (node_row s) ns)
nodes_good s [] all apart = (tt, tt)
nodes_good s (n ∷ ns) all apart =
    let rest = nodes_good s ns all.1 apart.1 in
    ((node_good s n (node_number s n all.0), rest.0), (nodes_apart_from s n all.0 ns all.1 apart.0, rest.1))

-- a key of one of the devices 1 to k
pub record IsDeviceKey (k : ℕ) (key : List ℕ) : Type 0 where
  pub device : ℕ
  pub most : device ≤ k
  pub is : key ≡ codes "device." ++ decimal device

one_device : (s : ConfigState) (d : ℕ) → IsNumber d → AreGood (device_rows s d) × AllByRecursion (λ (r : Row). r.key ≡ codes "device." ++ decimal d) (device_rows s d)
one_device s d fits = by (has_device s d)
  where
    by : (t : Bool) → AreGood (if t then row (codes "device." ++ decimal d) (device_text (device_state s d)) ∷ [] else [])
        × AllByRecursion (λ (r : Row). r.key ≡ codes "device." ++ decimal d) (if t then row (codes "device." ++ decimal d) (device_text (device_state s d)) ∷ [] else [])
    by false = ((tt, tt), tt)
    by true = (
      ((is_row (codes "device." ++ decimal d) (device_text (device_state s d)) (omega arith) (number_key (codes "device.") d (omega arith) (plain_if (codes "device.") refl) fits) (text_device (device_state s d)), tt), (tt, tt)),
      (refl, tt),
    )

later_device : (k : ℕ) (key : List ℕ) → IsDeviceKey k key → IsDeviceKey (suc k) key
later_device k key h = record { device = h.device; most = omega (arith, h.most); is = h.is }

device_apart : (k : ℕ) → suc k ≤ 16 → (a b : List ℕ) → IsDeviceKey k a → b ≡ codes "device." ++ decimal (suc k) → a ≢ b
device_apart k low a b ha hb e =
    numbered_apart (codes "device.") ha.device (suc k) (omega (arith, ha.most, low)) (omega (arith, low)) (λ same. omega (arith, ha.most, same)) (sym ha.is ∙ e ∙ hb)

devices_good : (s : ConfigState) (k : ℕ) → k ≤ 16 → AreGood (device_rows_to s k) × AllByRecursion (λ (r : Row). IsDeviceKey k r.key) (device_rows_to s k)
devices_good s zero low = ((tt, tt), tt)
devices_good s (suc k) low =
    let before = devices_good s k (omega (arith, low)) in
    let one = one_device s (suc k) (omega (arith, low)) in (
      good_append (device_rows_to s k) (device_rows s (suc k)) before.0 one.0 (cross_by (IsDeviceKey k) (λ key. key ≡ codes "device." ++ decimal (suc k)) (device_apart k low) (device_rows_to s k) (device_rows s (suc k)) before.1 one.1),
      each_append (λ (r : Row). IsDeviceKey (suc k) r.key) (device_rows_to s k) (device_rows s (suc k))
          (each_weaker (λ (r : Row). IsDeviceKey k r.key) (λ (r : Row). IsDeviceKey (suc k) r.key) (λ r h. later_device k r.key h) (device_rows_to s k) before.1)
          (each_weaker (λ (r : Row). r.key ≡ codes "device." ++ decimal (suc k)) (λ (r : Row). IsDeviceKey (suc k) r.key) (λ r h. record { device = suc k; most = omega arith; is = h }) (device_rows s (suc k)) one.1),
    )

limit_good : (l : Limit) → IsFitLimit l → IsRow (limit_row l)
limit_good l h =
    let key : IsText 58 (codes "load." ++ (decimal l.node ++ 46 ∷ l.name)) =
    text_append 5 53 (codes "load.") (decimal l.node ++ 46 ∷ l.name) (word 5 (codes "load.") (omega arith) refl)
    (text_append 20 33 (decimal l.node) (46 ∷ l.name) (text_decimal l.node h.0) (text_cons 32 46 l.name (omega arith) (text_name l.name h.1))) in
    let value : IsText 41 (decimal l.soft ++ 32 ∷ decimal l.hard) =
    text_append 20 21 (decimal l.soft) (32 ∷ decimal l.hard) (text_decimal l.soft h.2) (text_cons 20 32 (decimal l.hard) (omega arith) (text_decimal l.hard h.3)) in
    is_row (codes "load." ++ (decimal l.node ++ 46 ∷ l.name)) (decimal l.soft ++ 32 ∷ decimal l.hard) (omega arith) (wider 58 80 (codes "load." ++ (decimal l.node ++ 46 ∷ l.name)) (omega arith) key) (long 41 (decimal l.soft ++ 32 ∷ decimal l.hard) (omega arith) value)

limit_apart : (l m : Limit) → IsFitLimit l → IsFitLimit m → AreOther l m → (limit_row l).key ≢ (limit_row m).key
limit_apart l m hl hm other e =
    let same = cut_same 46 (decimal l.node) (decimal m.node) l.name m.name (decimal_lacks_dot l.node hl.0) (decimal_lacks_dot m.node hm.0) (append_cancel_left (codes "load.") (decimal l.node ++ 46 ∷ l.name) (decimal m.node ++ 46 ∷ m.name) e) in
    other (decimal_injective l.node m.node hl.0 hm.0 same.0) same.1

limits_apart_from : (l : Limit) → IsFitLimit l → (ls : List Limit) → AreLimits ls → AllByRecursion (λ m. AreOther l m) ls → AllByRecursion (λ (y : Row). (limit_row l).key ≢ y.key) (map limit_row ls)
limits_apart_from l h [] all other = tt
limits_apart_from l h (m ∷ ls) all other = (limit_apart l m h all.0 other.0, limits_apart_from l h ls all.2 other.1)

limits_good : (ls : List Limit) → AreLimits ls → AreGood (map limit_row ls)
limits_good [] h = (tt, tt)
limits_good (l ∷ ls) h =
    let rest = limits_good ls h.2 in
    ((limit_good l h.0, rest.0), (limits_apart_from l h.0 ls h.2 h.1, rest.1))

-- the three kinds have keys with other first letters
abbrev pub Begins : ℕ → List ℕ → Type 0
Begins c key = get_or key 0 0 ≡ c

begin_apart : (c d : ℕ) → c ≢ d → (a b : List ℕ) → Begins c a → Begins d b → a ≢ b
begin_apart c d other a b ha hb e = other (sym ha ∙ ap (λ (k : List ℕ). get_or k 0 0) e ∙ hb)

nodes_begin : (s : ConfigState) (ns : List ℕ) → AllByRecursion (λ (r : Row). Begins 110 r.key) (map (node_row s) ns)
nodes_begin s [] = tt
nodes_begin s (n ∷ ns) = (refl, nodes_begin s ns)

device_begins : (k : ℕ) (key : List ℕ) → IsDeviceKey k key → Begins 100 key
device_begins k key h = ap (λ (v : List ℕ). get_or v 0 0) h.is

limits_begin : (ls : List Limit) → AllByRecursion (λ (r : Row). Begins 108 r.key) (map limit_row ls)
limits_begin [] = tt
limits_begin (l ∷ ls) = (refl, limits_begin ls)

cross_append : (xs ys zs : List Row) → Cross xs ys → Cross xs zs → Cross xs (ys ++ zs)
cross_append [] ys zs a b = tt
cross_append (x ∷ xs) ys zs a b = (each_append (λ (y : Row). x.key ≢ y.key) ys zs a.0 b.0, cross_append xs ys zs a.1 b.1)

infrastructure_good : (s : ConfigState) → IsSound s → AreGood (infrastructure_rows s)
infrastructure_good s h =
    let nodes : List Row = map (node_row s) s.order in
    let devices : List Row = device_rows_to s 16 in
    let limits : List Row = map limit_row s.limits in
    let known = devices_good s 16 (omega arith) in
    let device_keys : AllByRecursion (λ (r : Row). Begins 100 r.key) devices = each_weaker (λ (r : Row). IsDeviceKey 16 r.key) (λ (r : Row). Begins 100 r.key) (λ r is. device_begins 16 r.key is) devices known.1 in
    good_append nodes (devices ++ limits) (nodes_good s s.order h.order h.apart)
    (good_append devices limits known.0 (limits_good s.limits h.limits) (cross_by (Begins 100) (Begins 108) (begin_apart 100 108 (λ e. omega (arith, e))) devices limits device_keys (limits_begin s.limits)))
    (cross_append nodes devices limits
    (cross_by (Begins 110) (Begins 100) (begin_apart 110 100 (λ e. omega (arith, e))) nodes devices (nodes_begin s s.order) device_keys)
    (cross_by (Begins 110) (Begins 108) (begin_apart 110 108 (λ e. omega (arith, e))) nodes limits (nodes_begin s s.order) (limits_begin s.limits)))

rows_good : (s : ConfigState) (t : Table) → IsSound s → AreGood (rows_of s t)
rows_good s Infrastructure h = infrastructure_good s h
rows_good s Types h = types_good s.types h.types
rows_good s Groups h = groups_good s.groups.version s.groups.groups h.groups
rows_good s Resources h = resources_good s.groups.resources h.resources
rows_good s Addresses h = addresses_good s.addresses h.addresses

pub form : TablesHaveTheirForm
form h us t all = are_rows (rows_of (config_of h us) t) (rows_good (config_of h us) t (all_sound h us all))
