-- Which places of a target a dependency speaks of: the same node, or any member.
use Rattle.std.specs.Prelude.{ℕ, ◌==◌, Bool, false, not, ◌&&◌, ◌||◌, List, Option, None, Some}
use Rattle.std.specs.List.{list_any}
use Rattle.std.specs.Str.{bytes_eq}
use Rattle.rg_props.specs.declared.group.Resource.{Resource}
use Rattle.rg_props.specs.Lookups.{keeps_close, named}
use Rattle.rg_props.specs.Table.{GroupTable}

-- whether a dependent of this group is tied to the node where its target is: both are of one group, or its group is always where the target's is
abbrev pub is_tied_to : GroupTable → List ℕ → Option Resource → Bool
is_tied_to t group None = false
is_tied_to t group (Some target) = bytes_eq group target.group || keeps_close (named t.groups group) target.group

unfoldable pub is_tied : GroupTable → List ℕ → List ℕ → Bool
is_tied t group target = is_tied_to t group (named t.resources target)

-- whether the place on node m is in scope of the dependent on node n
abbrev pub in_scope : Bool → ℕ → ℕ → Bool
in_scope tied n m = not tied || (m == n)

-- some place of the target in scope of the dependent on node n passes the test
abbrev pub any_in_scope : GroupTable → List ℕ → List ℕ → ℕ → List ℕ → (ℕ → Bool) → Bool
any_in_scope t members group n target test = list_any (λ m. in_scope (is_tied t group target) n m && test m) members
