-- Which calls of methods a map of flags allows. Goals, marks and orders do not occur here.
use Rattle.std.specs.Prelude.{◌≡◌, ℕ, ◌==◌, ◌<◌, ◌≤◌, Bool, true, false, not, ◌&&◌, ◌||◌, List, [], ◌++◌, Option, None, Some, length, if◌then◌else◌}
use Rattle.std.specs.List.{Contains, filter, flat_map, list_all, list_any}
use Rattle.std.specs.Str.{bytes_eq}
use Rattle.cl_base.specs.declared.method.Method.{Method}
use Rattle.cl_base.specs.declared.method.Method.TheVariants.{PrenetStart, Start, MonitorStart, MonitorCheck, MonitorStop, Stop, PostnetStop, Validate, Init, Fini, Boot, Update}
use Rattle.cl_base.specs.Limits.{most_nodes}
use Rattle.cl_base.specs.Numbers.{numbers_to}
use Rattle.cl_base.specs.Sets.{has}
use Rattle.load_limits.specs.declared.limits.Factor.{Factor}
use Rattle.load_limits.specs.declared.limits.Limit.{Limit}
use Rattle.load_limits.specs.Loads.{load}
use Rattle.rg_props.specs.declared.affinity.Affinity.TheVariants.{MinusMinus}
use Rattle.rg_props.specs.declared.affinity.Affine.{Affine}
use Rattle.rg_props.specs.declared.group.Group.{Group}
use Rattle.rg_props.specs.declared.group.Resource.{Resource}
use Rattle.rg_props.specs.Affinities.{declares, declares_close, is_close, same_affinity}
use Rattle.rg_props.specs.Lookups.{named}
use Rattle.rg_props.specs.Settings.{has_name}
use Rattle.sequencer_laws.specs.Flags.{has_any}
use Rattle.sequencer_laws.specs.Situations.{Situation, has_its, has_online, has_up, some_in_scope, some_member}

-- on how many other members the group is up
abbrev pub others : Situation → List ℕ → ℕ → ℕ
others s group n = length (filter (λ m. not (m == n) && has_up s group m) (numbers_to s.members most_nodes))

-- what the other groups that are up on the node bring to it
abbrev pub brings : Situation → List ℕ → ℕ → List ℕ × Group → List Factor
brings s group n e = if not (bytes_eq e.0 group) && has_up s e.0 n then e.1.factors else []

abbrev pub brought : Situation → List ℕ → ℕ → List Factor
brought s group n = flat_map (brings s group n) s.table.groups

-- the dependency of the resource on the one of this name is met on node n: it is online in scope
abbrev pub is_met : Situation → Resource → ℕ → List ℕ → Bool
is_met s r n target = some_in_scope s r target n (λ m. (s.flags target m).run)

-- a target of `++` or `+++` is online on the node
abbrev pub is_close_by : Situation → ℕ → Affine → Bool
is_close_by s n a = not (is_close a.affinity) || has_online s a.group n

-- a target of `--` is up on the node
abbrev pub is_in_the_way : Situation → ℕ → Affine → Bool
is_in_the_way s n a = same_affinity a.affinity MinusMinus && has_up s a.group n

-- a group that declares `--` to this one is up on the node
abbrev pub keeps_away : Situation → List ℕ → ℕ → List ℕ × Group → Bool
keeps_away s group n e = declares e.1.affinities group MinusMinus && has_up s e.0 n

-- PRENET_START and START of a resource r, of a group g, on node n: the node is of the Nodelist, the group is managed and the resource enabled; the group is up on fewer
-- than Maximum_primaries other members; each strong target is online in scope; each group that it depends on is online on some member; each target of `++` and `+++` is online
-- on the node, no target of `--` is up there, and no group that declares `--` to it; and the load with the other groups that are up there is within each hard limit.
pub record MayBegin (s : Situation) (n : ℕ) (r : Resource) (g : Group) : Type 0 where
  pub listed : list_any (λ m. m == n) g.nodelist ≡ true
  pub managed : g.managed ≡ true
  pub enabled : r.enabled ≡ true
  pub primaries : others s r.group n < g.maximum
  pub strong : list_all (is_met s r n) (r.strong ++ r.offline_restart) ≡ true
  pub groups : list_all (λ group. some_member s (has_online s group)) g.dependencies ≡ true
  pub close : list_all (is_close_by s n) g.affinities ≡ true
  pub apart : list_any (is_in_the_way s n) g.affinities ≡ false
  pub avoided : list_any (keeps_away s r.group n) s.table.groups ≡ false
  pub within : (l : Limit) → Contains s.limits l → l.node ≡ n → 0 < load l.name g.factors → load l.name (g.factors ++ brought s r.group n) ≤ l.hard

-- the same, where the group of the resource is there
abbrev pub MayBeginIn : Situation → ℕ → Resource → Option Group → Type 0
MayBeginIn s n r None = ⊥
MayBeginIn s n r (Some g) = MayBegin s n r g

-- a group that is always where this one is, is up on the node
abbrev pub stays_with : Situation → List ℕ → ℕ → List ℕ × Group → Bool
stays_with s group n e = declares_close e.1.affinities group && has_up s e.0 n

-- the resource depends strongly on the one of this name
abbrev pub needs : Resource → List ℕ → Bool
needs r name = has_name name (r.strong ++ r.offline_restart)

-- a resource that needs the one of this name has a flag in scope of node n, while that one is online on no other node in scope
abbrev pub rests_on : Situation → List ℕ → ℕ → List ℕ × Resource → Bool
rests_on s name n e =
    needs e.1 name && some_in_scope s e.1 name n (λ m. has_any (s.flags e.0 m))
    && not (some_in_scope s e.1 name n (λ m. not (m == n) && (s.flags name m).run))

-- STOP of a resource r of this name on node n: it runs without a monitor, no group that is always where its own is is up there, and nothing rests on it.
pub record MayStop (s : Situation) (n : ℕ) (name : List ℕ) (r : Resource) : Type 0 where
  pub runs : (s.flags name n).run ≡ true
  pub unmonitored : (s.flags name n).mon ≡ false
  pub alone : list_any (stays_with s r.group n) s.table.groups ≡ false
  pub free : list_any (rests_on s name n) s.table.resources ≡ false

-- Each method. Those that no order is for are never allowed.
abbrev pub MayCall : Situation → ℕ → List ℕ → Resource → Method → Type 0
MayCall s n name r PrenetStart = MayBeginIn s n r (named s.table.groups r.group)
MayCall s n name r Start = MayBeginIn s n r (named s.table.groups r.group) × (has_its s.types r PrenetStart ≡ true → (s.flags name n).pre ≡ true)
MayCall s n name r MonitorStart = ((s.flags name n).run ≡ true) × ((s.flags name n).mon ≡ false)
MayCall s n name r MonitorStop = (s.flags name n).mon ≡ true
MayCall s n name r Stop = MayStop s n name r
MayCall s n name r PostnetStop = ((s.flags name n).pre ≡ true) × ((s.flags name n).run ≡ false)
MayCall s n name r MonitorCheck = ⊥
MayCall s n name r Validate = ⊥
MayCall s n name r Init = ⊥
MayCall s n name r Fini = ⊥
MayCall s n name r Boot = ⊥
MayCall s n name r Update = ⊥

-- On a member; the resource is there, and its type has the method.
pub record IsAllowedCall (s : Situation) (n : ℕ) (name : List ℕ) (m : Method) : Type 0 where
  pub member : has s.members n ≡ true
  pub resource : Resource
  pub there : named s.table.resources name ≡ Some resource
  pub offered : has_its s.types resource m ≡ true
  pub may : MayCall s n name resource m
