-- Failover: node 1, the president, fails to start the group's resource twice. The group goes to node 2, which starts it by an Order.
use Rattle.std.specs.Prelude.{ℕ, List, [], ◌∷◌, ◌++◌}
use Rattle.cl_base.specs.declared.method.Method.TheVariants.{Start}
use Rattle.cl_base.specs.declared.method.Outcome.TheVariants.{Success, Failure}
use Rattle.cl_base.specs.declared.state.GroupState.TheVariants as state
use Rattle.schedule_text.specs.declared.event.Event.TheVariants as event
use Rattle.status_report.specs.declared.command_entry.Answer.TheVariants as answer
use Rattle.status_report.specs.declared.status_entry.StatusEntry.TheVariants as shown
use Rattle.history.specs.Moment.{Moment}
use Rattle.history.specs.Trace.{ticked, sent, delivered, asked, answered, gives, queued}
use Rattle.history_samples.specs.SampleNames as name
use Rattle.history_samples.specs.SampleOneNode.{line_of}
use Rattle.history_samples.specs.SampleContents.{formed, long, letter}
use Rattle.group_history.specs.Doings.{called, done, status, queues}
use Rattle.group_samples.specs.SampleConfigurations.{a, g, asks_status}

-- ---- bytes: an Order to start `a`, and a Done

abbrev pub order : ℕ → List ℕ
order k = 14 ∷ 1 ∷ long 65 ++ long k ++ 2 ∷ letter 97

abbrev pub done_bytes : ℕ → ℕ → List ℕ
done_bytes k outcome = 15 ∷ 2 ∷ long 65 ++ long k ++ outcome ∷ []

-- ---- the trace

abbrev pub scripted : List Moment
scripted = queued ∷ queues 1 a Start Failure ∷ queued ∷ queues 1 a Start Failure ∷ formed

abbrev pub failed_once : List Moment
failed_once = done 65 1 Start a Failure ∷ called 65 1 Start a ∷ ticked 1 ∷ line_of (event.Tick 1) ∷ scripted

abbrev pub failed_twice : List Moment
failed_twice = done 65 1 Start a Failure ∷ called 65 1 Start a ∷ ticked 1 ∷ line_of (event.Tick 1) ∷ failed_once

abbrev pub ordered : List Moment
ordered = sent 7 1 2 (name.Order 3) (order 3) ∷ failed_twice

abbrev pub arrived : List Moment
arrived = delivered 7 1 2 ∷ line_of (event.Next 1 2) ∷ ordered

abbrev pub started : List Moment
started = done 65 2 Start a Success ∷ called 65 2 Start a ∷ arrived

abbrev pub told : List Moment
told = sent 8 2 1 (name.Done 3) (done_bytes 3 0) ∷ started

abbrev pub learned : List Moment
learned = delivered 8 2 1 ∷ line_of (event.Next 2 1) ∷ told

abbrev pub asking : List Moment
asking = asked 1 1 ∷ gives 1 asks_status ∷ learned

abbrev pub failed_over : List Moment
failed_over = answered 1 1 answer.Ok ∷ status (shown.Group g 2 state.Online) ∷ status (shown.Group g 1 state.Offline) ∷ asking
