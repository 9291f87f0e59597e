use Rattle.std.proofs.Common.{◌∙◌, ◌++◌, ap, slice_get}
use Rattle.rgm_state.specs.Standing.{name_in_group}
use Rattle.rgm_state.proofs.Lists.{one_more_name}
use Rattle.rgm_state.proofs.standing.resources_of.Goals as goal

pub loop-place-preserved : goal.loop-place-preserved
loop-place-preserved c =
    c.in_ok-push_resource.ensures
    ∙ ap (λ l. l ++ name_in_group c.args.group.now (slice_get c.args.g.now.resources c.loop-place.place)) c.loop-place.invariant
    ∙ one_more_name c.args.group.now c.args.g.now.resources c.loop-place.place
