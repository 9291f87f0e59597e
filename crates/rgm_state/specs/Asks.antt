-- What the president is asked for without an update.
use Rattle.std.specs.Prelude.{ℕ, nat_lt, ◌&&◌, List, Option, None, Some, fold, if◌then◌else◌}
use Rattle.cl_base.specs.declared.command.Ask.{Ask}
use Rattle.cl_base.specs.declared.command.Ask.TheVariants.{Restart, Move, Remaster, Evacuate, Clear}
use Rattle.cl_base.specs.Limits.{most_nodes}
use Rattle.cl_base.specs.Sets.{has, set_with, count_to}
use Rattle.rg_props.specs.declared.group.Group.{Group}
use Rattle.rg_props.specs.Lookups.{named}
use Rattle.rg_props.specs.Table.{GroupTable}
use Rattle.rg_view.specs.declared.name_at.NameAt.{NameAt}
use Rattle.rg_view.specs.declared.view.GroupView.{GroupView}
use Rattle.rg_view.specs.Goals.{goals_with}
use Rattle.rg_view.specs.Marks.{marks_of_others, marks_with}
use Rattle.rg_view.specs.States.{state_of}
use Rattle.ccr_tables.specs.State.{ConfigState}
use Rattle.rgm_member.specs.Settings.{charged}
use Rattle.rgm_state.specs.Histories.{with_move}
use Rattle.rgm_state.specs.Standing.{has_flag}

-- A resource restarts on the node, where it has a flag there.
abbrev pub with_restart : List ℕ → ℕ → GroupView → GroupView
with_restart r n v = if has_flag (state_of v.resources r n) then record v { restarting = marks_with v.restarting r n } else v

-- The first Desired_primaries members in the order of the Nodelist: a member is taken while there are fewer.
abbrev pub with_member : ℕ → ℕ → ℕ → ℕ → ℕ
with_member members desired nodes n = if has members n && nat_lt (count_to nodes most_nodes) desired then set_with nodes n else nodes

abbrev pub first_members : ℕ → Group → ℕ
first_members members g = fold (with_member members g.desired) 0 g.nodelist

-- a new previous goal of the group, whose evacuations end
abbrev pub sent_to : List ℕ → ℕ → GroupView → GroupView
sent_to g nodes v = record v { goals = goals_with v.goals g nodes; evacuated = marks_of_others v.evacuated g }

-- The group's nodes are chosen anew: its previous goal is empty. A suspended one gets its first members.
abbrev pub remaster_goal : ℕ → Group → ℕ
remaster_goal members g = if g.suspended then first_members members g else 0

abbrev pub remastered : List ℕ → GroupView → Option Group → GroupView
remastered name v None = v
remastered name v (Some g) = sent_to name (remaster_goal v.members g) v

-- The groups that have the node in their goal are evacuated from it.
abbrev pub with_evacuated : ℕ → List NameAt → List ℕ × ℕ → List NameAt
with_evacuated n marks e = if has e.1 n then marks_with marks e.0 n else marks

abbrev pub evacuated_from : ℕ → GroupView → GroupView
evacuated_from n v = record v { evacuated = fold (with_evacuated n) v.evacuated v.goals }

-- What an ask changes at once, at this second. A clear is an order, and changes nothing before it is done.
abbrev pub after_ask : ConfigState → ℕ → Ask → ℕ → GroupView → GroupView
after_ask c from (Restart r) now v = with_restart r from v
after_ask c from (Move r) now v = with_move c.groups from now v (charged c r)
after_ask c from (Remaster g) now v = remastered g v (named c.groups.groups g)
after_ask c from (Evacuate n) now v = evacuated_from n v
after_ask c from (Clear r n) now v = v
