use Rattle.std.proofs.Common.{◌∙◌}
use Rattle.rg_view.specs.PlaceLaws.{same_place_equiv}
use Rattle.rg_view.specs.Places.{place}
use Rattle.rg_view.proofs.Filters.{remove_key_filter}
use Rattle.rg_view.proofs.marks.Marks.remove.Goals as goal

pub returns-clause-value : goal.returns-clause-value
returns-clause-value c = rw (← c.self.view_is)
    (c.shift_remove.ensures.keys ∙ remove_key_filter same_place_equiv (place c.args.x.now c.args.n) c.self.inside.marks.keys c.self.invariant)
