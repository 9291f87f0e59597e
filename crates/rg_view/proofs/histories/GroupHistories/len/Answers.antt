use Rattle.std.proofs.Common.{subst}
use Rattle.std.specs.List.{IsDistinct}
use Rattle.rg_view.specs.Histories.{place_of_history}
use Rattle.rg_view.specs.Places.{same_place}
use Rattle.rg_view.proofs.Tables as tables
use Rattle.rg_view.proofs.histories.GroupHistories.len.Goals as goal

pub returns-clause-apart : goal.returns-clause-apart
returns-clause-apart c = rw (← c.self.view_is)
    (subst (IsDistinct same_place) (tables.keys place_of_history c.self.inside.histories.entries c.self.invariant.keyed) c.self.invariant.apart)
