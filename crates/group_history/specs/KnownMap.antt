-- What the president of a membership knows of groups: the map of the membership as far as it was told, with the marks, the histories, the goals,
-- and what is evacuated, leaves or restarts. It begins with the reports of the members. A call of its own is known at once, and that of
-- another member once its Done has come; an update counts once it is acknowledged, and what was asked once it is handled. After each of these the
-- president decides, and at each tick. Orders that are not done do not occur here.
use Rattle.std.specs.Prelude.{ℕ, ◌==◌, ◌&&◌, not, Bool, true, false, if◌then◌else◌, List, [], ◌∷◌, fold, Option, Some, None, is_none}
use Rattle.admin_commands.specs.Asks.{refusal_of_ask}
use Rattle.ccr_tables.specs.State.{ConfigState}
use Rattle.ccr_tables.specs.declared.command.AdminCommand.{AdminCommand}
use Rattle.ccr_tables.specs.declared.command.AdminCommand.TheVariants.{Change, Act}
use Rattle.cl_base.specs.declared.method.Method.{Method}
use Rattle.cl_base.specs.declared.method.Outcome.TheVariants.{Success}
use Rattle.rg_view.specs.Orders.{no_orders}
use Rattle.rg_view.specs.declared.orders.Outstanding.{Outstanding}
use Rattle.rg_view.specs.declared.view.GroupView.{GroupView}
use Rattle.rgm_president.specs.Goals.{with_goals}
use Rattle.rgm_president.specs.Sequence.{groups_in_order, sequence}
use Rattle.rgm_state.specs.Adopting.{adopted}
use Rattle.rgm_state.specs.Asks.{after_ask}
use Rattle.rgm_state.specs.Changes.{after_update}
use Rattle.rgm_state.specs.Outcomes as outcomes
use Rattle.history.specs.Moment.{Moment}
use Rattle.history.specs.Trace.{ticked, member, sent, dropped, ack}
use Rattle.history.specs.Setting.{coordinator}
use Rattle.history.specs.Starts.{start_of, members_in}
use Rattle.group_history.specs.Setting.{Groups, second_of, config_of}
use Rattle.group_history.specs.Doings.{called, done}
use Rattle.group_history.specs.Orders.{Ended, learned}
use Rattle.group_history.specs.Clears.{cleared_at}
use Rattle.group_history.specs.Reports.{reports_of}
use Rattle.group_history.specs.Desk.{Request, desk_of}

abbrev pub nothing_known : GroupView
nothing_known = record {
  members = 0;
  now = 0;
  resources = [];
  groups = [];
  goals = [];
  evacuated = [];
  leaving = [];
  restarting = [];
  outstanding = no_orders;
}

-- ---- a decision: the goals anew, and the marks that end with them

abbrev pub decided : ConfigState → ℕ → GroupView → GroupView
decided c now v = with_goals c (groups_in_order c.groups) (sequence c.groups) now v

abbrev pub decided_in : Groups → ℕ → List Moment → GroupView → GroupView
decided_in S e moments v = decided (config_of S e moments) (second_of moments) v

-- That of a tick comes once the president has sent its heartbeats and called what it has ordered itself, if it has: so it is made as the first
-- moment comes that is neither a sending nor such a call.
abbrev pub awaits_decision : ℕ → List Moment → Bool
awaits_decision c (ticked m ∷ before) = m == c
awaits_decision c (sent p a b message bytes ∷ before) = awaits_decision c before
awaits_decision c (dropped p why ∷ before) = awaits_decision c before
awaits_decision c _ = false

abbrev pub goes_on : ℕ → Moment → Bool
goes_on c (sent p a b message bytes) = true
goes_on c (dropped p why) = true
goes_on c (called e n method r) = n == c
goes_on c _ = false

-- ---- what comes to be known

abbrev pub order_so : ℕ → List ℕ → Option Method → Outstanding
order_so n r method = record { node = n; number = 0; resource = r; method = method }

abbrev pub with_learned : ConfigState → ℕ → Option Ended → GroupView → GroupView
with_learned c now None v = v
with_learned c now (Some d) v = decided c now (outcomes.ended c (order_so d.node d.order.resource d.order.method) d.outcome now v)

abbrev pub with_own_clear : ConfigState → ℕ → ℕ → Option (List ℕ) → GroupView → GroupView
with_own_clear c n now None v = v
with_own_clear c n now (Some r) v = decided c now (outcomes.ended c (order_so n r None) Success now v)

abbrev pub with_words : ConfigState → Option AdminCommand → GroupView → GroupView
with_words c (Some (Change u)) v = after_update c u v
with_words c _ v = v

-- what the moment tells the president c of e
abbrev pub told : Groups → ℕ → List Moment → Moment → GroupView → GroupView
told S e before (member m f) v =
    if (m == coordinator e) && (f == e)
    then decided_in S e before (adopted (config_of S e before) (members_in (start_of e before)) (reports_of S e before) (second_of before))
    else v
told S e before (done f n method r outcome) v =
    if (f == e) && (n == coordinator e)
    then decided_in S e before (outcomes.ended (config_of S e before) (order_so n r (Some method)) outcome (second_of before) v)
    else v
told S e before (ack f place words) v = if f == e then with_words (config_of S e (ack f place words ∷ before)) (S.command words) v else v
told S e before (ticked m) v =
    if m == coordinator e then with_own_clear (config_of S e before) m (second_of before) (cleared_at S m before (ticked m)) v else v
told S e before x v = with_learned (config_of S e before) (second_of before) (learned e before x) v

-- ---- what is asked for without an update: it is done unless it is refused

-- the president's own requests count at the second at which they were made
abbrev pub second_for : ℕ → ℕ → Request → ℕ
second_for c now r = if r.node == c then r.second else now

abbrev pub with_ask : ConfigState → ℕ → Request → ℕ → Option AdminCommand → GroupView → GroupView
with_ask c president r now (Some (Act ask)) v = if is_none (refusal_of_ask c v ask) then after_ask c r.node ask (second_for president now r) v else v
with_ask c president r now _ v = v

-- after each request that is handled the president decides
abbrev pub with_request : Groups → ℕ → ConfigState → ℕ → GroupView → Request → GroupView
with_request S president c now v r = decided c now (with_ask c president r now (S.command r.words) v)

abbrev pub with_handled : Groups → ℕ → List Moment → GroupView → GroupView
with_handled S e moments v =
    fold (with_request S (coordinator e) (config_of S e moments) (second_of moments)) v (desk_of S (coordinator e) moments).handled

-- ---- moment by moment

-- with the decision of the tick, where it is to come
abbrev pub with_tick : Groups → ℕ → List Moment → Bool → GroupView → GroupView
with_tick S e moments awaits v = if awaits then decided_in S e moments v else v

abbrev pub view_after : Groups → ℕ → List Moment → GroupView
view_after S e [] = nothing_known
view_after S e (x ∷ before) =
    with_handled S e (x ∷ before)
    (told S e before x (with_tick S e before (awaits_decision (coordinator e) before && not (goes_on (coordinator e) x)) (view_after S e before)))

-- what the president of e knows after these moments
abbrev pub known_of : Groups → ℕ → List Moment → GroupView
known_of S e moments = with_tick S e moments (awaits_decision (coordinator e) moments) (view_after S e moments)
