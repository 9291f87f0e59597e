-- The map of a membership with its marks: what its president knows, and what members have carried out since and it was not told yet. Of flags it
-- says what `Flags` says; the marks end as in the known map, and so where a goal lacks the node.
use Rattle.std.specs.Prelude.{ℕ, List, fold, Option, Some, None, if◌then◌else◌}
use Rattle.ccr_tables.specs.State.{ConfigState}
use Rattle.rg_view.specs.declared.states.ResourceAt.{ResourceAt}
use Rattle.rg_view.specs.declared.view.GroupView.{GroupView}
use Rattle.rgm_state.specs.Outcomes.{with_outcome}
use Rattle.history.specs.Moment.{Moment}
use Rattle.history.specs.Setting.{coordinator}
use Rattle.history.specs.Starts.{start_of, members_in}
use Rattle.history.specs.Contact.{others}
use Rattle.group_history.specs.Setting.{Groups, config_of}
use Rattle.group_history.specs.Orders.{Ended, ended_so, order_sent, is_answered}
use Rattle.group_history.specs.Once.{outcome_of}
use Rattle.group_history.specs.Sending.{last_order}
use Rattle.group_history.specs.KnownMap.{known_of, order_so}

-- the last order to n, where n has carried it out and its Done has not come
abbrev pub unlearned_order : ℕ → ℕ → List Moment → Option ℕ → Option Ended
unlearned_order e n moments None = None
unlearned_order e n moments (Some k) = if is_answered e n k moments then None else ended_so n (order_sent e n k moments) (outcome_of e n k moments)

abbrev pub unlearned : ℕ → List Moment → ℕ → Option Ended
unlearned e moments n = unlearned_order e n moments (last_order (coordinator e) n moments)

abbrev pub with_ended : ConfigState → Option Ended → GroupView → GroupView
with_ended c None v = v
with_ended c (Some d) v = with_outcome c (order_so d.node d.order.resource d.order.method) d.outcome v

abbrev pub with_unlearned : Groups → ℕ → List Moment → GroupView → ℕ → GroupView
with_unlearned S e moments v n = with_ended (config_of S e moments) (unlearned e moments n) v

-- the flags and marks of resources on the members of e
abbrev pub map_of : Groups → ℕ → List Moment → List ResourceAt
map_of S e moments = (fold (with_unlearned S e moments) (known_of S e moments) (others e (members_in (start_of e moments)))).resources
