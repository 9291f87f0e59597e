-- Started within limits: of each limit of the node of which the group has some, the load of it and of the other groups that are up there by the map is
-- at most the hard bound.
use Rattle.std.specs.Prelude.{◌≡◌, ◌≤◌, ◌<◌, ℕ, List, ◌++◌}
use Rattle.std.specs.List.{Contains}
use Rattle.load_limits.specs.declared.limits.Limit.{Limit}
use Rattle.load_limits.specs.Loads.{load}
use Rattle.rg_props.specs.declared.group.Group.{Group}
use Rattle.sequencer_laws.specs.AllowedCall.{brought}
use Rattle.sequencer_laws.specs.Situations.{Situation}

abbrev pub StartsWithin : Situation → ℕ → List ℕ → Group → Type 0
StartsWithin s n group g =
    (l : Limit) → Contains s.limits l → l.node ≡ n → 0 < load l.name g.factors → load l.name (g.factors ++ brought s group n) ≤ l.hard
