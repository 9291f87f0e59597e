use Rattle.std.proofs.Common.{true}
use Rattle.rgm_president.specs.Decisions.{turns_unless, goals_set}
use Rattle.group_history.specs.Setting.{config_of, second_of}
use Rattle.group_history.proofs.laws.placed_within_limits.Goals as goal

pub returns : goal.returns
unfolding turns_unless goals_set
returns c S e moments v acyclic apart few l among =
    c.goals_are_within_limits.ensures.limits (config_of S e moments) (second_of moments) true (record { epoch = e; given = 0; view = v }) acyclic apart few l among
