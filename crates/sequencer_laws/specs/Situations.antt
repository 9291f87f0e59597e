-- What is configured, who the members are, and what runs where: what is up and online, and which nodes a dependency speaks of.
use Rattle.std.specs.Prelude.{ℕ, ◌==◌, Bool, true, false, not, ◌&&◌, ◌||◌, List, Option, None, Some}
use Rattle.std.specs.List.{list_all, list_any}
use Rattle.std.specs.Str.{bytes_eq}
use Rattle.cl_base.specs.declared.method.Method.{Method}
use Rattle.cl_base.specs.Limits.{most_nodes}
use Rattle.cl_base.specs.Methods.{has_method}
use Rattle.cl_base.specs.Numbers.{numbers_to}
use Rattle.load_limits.specs.declared.limits.Limit.{Limit}
use Rattle.placement.specs.Resources.{has_enabled, is_enabled_in}
use Rattle.rg_props.specs.declared.group.Resource.{Resource}
use Rattle.rg_props.specs.declared.group.Scope.{Scope}
use Rattle.rg_props.specs.declared.group.Scope.TheVariants.{SameNode, AnyMember}
use Rattle.rg_props.specs.Lookups.{named, scope_of_both}
use Rattle.rg_props.specs.Table.{GroupTable}
use Rattle.rt_types.specs.Fields.{TypeFields}
use Rattle.rt_types.specs.Types.{type_of}
use Rattle.sequencer_laws.specs.Flags.{FlagMap, has_any}

pub record Situation : Type 0 where
  pub table : GroupTable
  pub types : List (List ℕ × TypeFields)
  pub limits : List Limit
  pub members : ℕ
  pub flags : FlagMap

-- whether a type which is there has the method
abbrev pub type_has : Method → Option TypeFields → Bool
type_has m None = false
type_has m (Some t) = has_method t.methods m

-- whether the type of the resource has the method
abbrev pub has_its : List (List ℕ × TypeFields) → Resource → Method → Bool
has_its types r m = type_has m (type_of types r.resource_type)

-- A group is up on a node where one of its resources has a flag there.

abbrev pub holds_up : Situation → List ℕ → ℕ → List ℕ × Resource → Bool
holds_up s group n e = bytes_eq e.1.group group && has_any (s.flags e.0 n)

unfoldable pub has_up : Situation → List ℕ → ℕ → Bool
has_up s group n = list_any (holds_up s group n) s.table.resources

-- It is online where it has an enabled resource, and every enabled one runs there.

abbrev pub runs_if_enabled : Situation → List ℕ → ℕ → List ℕ × Resource → Bool
runs_if_enabled s group n e = not (is_enabled_in group e.1) || (s.flags e.0 n).run

unfoldable pub has_online : Situation → List ℕ → ℕ → Bool
has_online s group n = has_enabled s.table group && list_all (runs_if_enabled s group n) s.table.resources

-- some member passes the test
abbrev pub some_member : Situation → (ℕ → Bool) → Bool
some_member s test = list_any test (numbers_to s.members most_nodes)

-- A dependency on node n reaches node m: n itself, or any member.
abbrev pub reaches : Scope → ℕ → ℕ → Bool
reaches SameNode n m = m == n
reaches AnyMember n m = true

-- the scope of a dependency of the resource on the one of this name
abbrev pub scope_on : Situation → Resource → List ℕ → Scope
scope_on s r target = scope_of_both s.table (Some r) (named s.table.resources target)

-- some node in scope passes the test
abbrev pub some_in_scope : Situation → Resource → List ℕ → ℕ → (ℕ → Bool) → Bool
some_in_scope s r target n test = some_member s (λ m. reaches (scope_on s r target) n m && test m)
