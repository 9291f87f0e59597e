-- Refusals of what is asked without an update.
use Rattle.std.specs.Prelude.{ℕ, List, Option}
use Rattle.cl_base.specs.declared.command.Ask.{Ask}
use Rattle.cl_base.specs.declared.command.Ask.TheVariants.{Restart, Move, Remaster, Evacuate, Clear}
use Rattle.cl_base.specs.declared.refusal.Refusal.{Refusal}
use Rattle.cl_base.specs.declared.refusal.Refusal.TheVariants.{Unmanaged}
use Rattle.cl_base.specs.declared.refusal.Thing.TheVariants.{Named, Numbered}
use Rattle.quorum_votes.specs.Votes.{is_configured}
use Rattle.rg_props.specs.Lookups.{named}
use Rattle.rg_props.specs.Values.{or_else}
use Rattle.rg_view.specs.declared.view.GroupView.{GroupView}
use Rattle.ccr_tables.specs.Refusals.{missing, unless}
use Rattle.ccr_tables.specs.State.{ConfigState}
use Rattle.admin_commands.specs.Cases.{unknown, where_so}
use Rattle.admin_commands.specs.Managing.{is_unmanaged}
use Rattle.admin_commands.specs.Standing.{no_mark}

-- a group that is not there, or is not managed
abbrev pub refusal_to_remaster : ConfigState → List ℕ → Option Refusal
refusal_to_remaster s group =
    or_else (unknown (missing (named s.groups.groups group) (Named group)))
    (where_so (is_unmanaged (named s.groups.groups group)) Unmanaged)

-- a resource or a node that is not there, or a mark
abbrev pub refusal_of_ask : ConfigState → GroupView → Ask → Option Refusal
refusal_of_ask s v (Restart resource) =
    unknown (missing (named s.groups.resources resource) (Named resource))
refusal_of_ask s v (Move resource) =
    unknown (missing (named s.groups.resources resource) (Named resource))
refusal_of_ask s v (Remaster group) = refusal_to_remaster s group
refusal_of_ask s v (Evacuate node) = unknown (unless (is_configured s.votes node) (Numbered node))
refusal_of_ask s v (Clear resource node) =
    or_else (unknown (missing (named s.groups.resources resource) (Named resource)))
    (or_else (unknown (unless (is_configured s.votes node) (Numbered node)))
    (no_mark v resource node))
