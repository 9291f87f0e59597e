use Rattle.std.proofs.Common.{◌∙◌, rules}
use Rattle.rg_view.specs.States.{place_of_state}
use Rattle.rg_view.specs.Places.{place}
use Rattle.rg_view.proofs.Tables.{found}
use Rattle.rg_view.proofs.states.ResourceStates.at.Goals as goal

pub returns : goal.returns
returns c =
    let f = c.get.ensures.value ∙ found place_of_state (place c.args.r.now c.args.n) c.self.inside.states.entries c.self.invariant.keyed in
    search rules
