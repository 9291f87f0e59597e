use Rattle.std.proofs.Common.{◌∙◌, rules}
use Rattle.rg_view.specs.Histories.{place_of_history}
use Rattle.rg_view.specs.Places.{place}
use Rattle.rg_view.proofs.Tables.{found}
use Rattle.rg_view.proofs.histories.GroupHistories.history.Goals as goal

pub returns : goal.returns
returns c =
    let f = c.get.ensures.value ∙ found place_of_history (place c.args.g.now c.args.n) c.self.inside.histories.entries c.self.invariant.keyed in
    record { value = rw (← c.self.view_is) f }
