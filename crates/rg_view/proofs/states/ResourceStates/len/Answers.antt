use Rattle.std.proofs.Common.{subst}
use Rattle.std.specs.List.{IsDistinct}
use Rattle.rg_view.specs.States.{place_of_state}
use Rattle.rg_view.specs.Places.{same_place}
use Rattle.rg_view.proofs.Tables as tables
use Rattle.rg_view.proofs.states.ResourceStates.len.Goals as goal

pub returns-clause-apart : goal.returns-clause-apart
returns-clause-apart c = rw (← c.self.view_is)
    (subst (IsDistinct same_place) (tables.keys place_of_state c.self.inside.states.entries c.self.invariant.keyed) c.self.invariant.apart)
