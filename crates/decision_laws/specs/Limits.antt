-- The loads that decided goals bring to nodes.
use Rattle.std.specs.Prelude.{◌⊎◌, ℕ, ◌≤◌, ◌<◌, ◌^◌, Bool}
use Rattle.std.specs.List.{Contains, flat_map}
use Rattle.load_limits.specs.declared.limits.Limit.{Limit}
use Rattle.load_limits.specs.Loads.{load}
use Rattle.placement.specs.Decisions.{AreFixed}
use Rattle.placement.specs.Loads.{brought}
use Rattle.rg_view.specs.declared.view.GroupView.{GroupView}
use Rattle.ccr_tables.specs.State.{ConfigState}
use Rattle.rgm_president.specs.Decisions.{decision}
use Rattle.rgm_president.specs.State.{PresidentState}
use Rattle.decision_laws.specs.Quiet.{GroupsAreApart, HasNoCycle}

-- The groups whose goal has the limit's node bring it no more than the hard bound, or those that bring some are all fixed.
abbrev pub IsWithin : ConfigState → GroupView → Limit → Type 0
IsWithin c v l = (load l.name (flat_map (brought c.groups l.node) v.goals) ≤ l.hard) ⊎ AreFixed c.groups v l.node l.name v.goals

-- So it is after each decision.
abbrev pub DecidedWithinLimits : Type 0
DecidedWithinLimits = (c : ConfigState) (now : ℕ) (held_up : Bool) (p : PresidentState)
    → HasNoCycle c.groups → GroupsAreApart c.groups → p.view.members < 2 ^ 32 → (l : Limit) → Contains c.limits l → IsWithin c (decision c now held_up p).president.view l
