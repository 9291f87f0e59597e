-- What calls may not be: traces beside that of the failover.
use Rattle.std.specs.Prelude.{List, ◌∷◌}
use Rattle.cl_base.specs.declared.method.Method.TheVariants.{Start, Stop}
use Rattle.cl_base.specs.declared.method.Outcome.TheVariants.{Success, Failure}
use Rattle.schedule_text.specs.declared.event.Event.TheVariants as event
use Rattle.history.specs.Moment.{Moment}
use Rattle.history.specs.Trace.{ticked, sent, delivered, repeated, asked, gives}
use Rattle.history_samples.specs.SampleNames as name
use Rattle.history_samples.specs.SampleOneNode.{line_of}
use Rattle.group_history.specs.Doings.{called, done}
use Rattle.group_samples.specs.SampleConfigurations.{a, g, asks_status}
use Rattle.group_samples.specs.SampleFailover.{order, done_bytes, scripted, failed_once, failed_twice, ordered, arrived, started, told, learned}
use Rattle.group_samples.specs.SampleFault as fault

-- ---- an order behind each call

-- node 2 calls without an Order
abbrev pub called_unordered : List Moment
called_unordered = called 65 2 Start a ∷ ticked 2 ∷ line_of (event.Tick 2) ∷ ordered

-- it was ordered to start `a`
abbrev pub called_another_method : List Moment
called_another_method = called 65 2 Stop a ∷ arrived

abbrev pub called_another_resource : List Moment
called_another_resource = called 65 2 Start g ∷ arrived

-- in another membership
abbrev pub called_in_another : List Moment
called_in_another = called 129 2 Start a ∷ arrived

-- a second Order comes before the Done of the first has, which is on its way
abbrev pub ordered_too_early : List Moment
ordered_too_early = sent 9 1 2 (name.Order 4) (order 4) ∷ told

abbrev pub called_too_early : List Moment
called_too_early = called 65 2 Start a ∷ delivered 9 1 2 ∷ line_of (event.Next 1 2) ∷ ordered_too_early

-- and one after it has
abbrev pub ordered_in_time : List Moment
ordered_in_time = sent 9 1 2 (name.Order 4) (order 4) ∷ learned

abbrev pub called_in_time : List Moment
called_in_time = called 65 2 Start a ∷ delivered 9 1 2 ∷ line_of (event.Next 1 2) ∷ ordered_in_time

-- an Order under a number that was given to another
abbrev pub ordered_under_an_old_number : List Moment
ordered_under_an_old_number = sent 9 1 2 (name.Order 2) (order 2) ∷ learned

-- the president calls twice in one tick, or where it does not tick
abbrev pub called_twice_in_a_tick : List Moment
called_twice_in_a_tick = called 65 1 Start a ∷ failed_once

abbrev pub called_without_a_tick : List Moment
called_without_a_tick = called 65 1 Start a ∷ asked 1 1 ∷ gives 1 asks_status ∷ scripted

-- ---- each order once

-- a copy of the Order comes: node 2 calls again, or it sends its Done again
abbrev pub arrived_again : List Moment
arrived_again = delivered 8 1 2 ∷ line_of (event.Next 1 2) ∷ done 65 2 Start a Success ∷ called 65 2 Start a ∷ delivered 7 1 2 ∷ line_of (event.Next 1 2) ∷ repeated 7 8 ∷ line_of (event.Again 1 2) ∷ ordered

abbrev pub called_again : List Moment
called_again = called 65 2 Start a ∷ arrived_again

abbrev pub told_again : List Moment
told_again = sent 9 2 1 (name.Done 3) (done_bytes 3 0) ∷ arrived_again

-- ---- what a Done tells

-- the call succeeded, or the order never came
abbrev pub told_a_failure : List Moment
told_a_failure = sent 8 2 1 (name.Done 3) (done_bytes 3 1) ∷ started

abbrev pub told_of_nothing : List Moment
told_of_nothing = sent 8 2 1 (name.Done 4) (done_bytes 4 0) ∷ started

-- ---- `done` right after `call`

abbrev pub left_in_a_call : List Moment
left_in_a_call = ticked 1 ∷ line_of (event.Tick 1) ∷ fault.starting

abbrev pub ended_twice : List Moment
ended_twice = done 65 1 Start a Failure ∷ fault.failed

abbrev pub ended_another : List Moment
ended_another = done 65 1 Stop a Failure ∷ fault.starting

-- ---- how a call ends

-- a failure is queued
abbrev pub succeeded_against_the_queue : List Moment
succeeded_against_the_queue = done 65 1 Start a Success ∷ fault.starting

-- none is queued for node 2, and the agent obeys
abbrev pub failed_by_itself : List Moment
failed_by_itself = done 65 2 Start a Failure ∷ called 65 2 Start a ∷ arrived

-- the queued failure is used up
abbrev pub failed_a_third_time : List Moment
failed_a_third_time = done 65 1 Start a Failure ∷ called 65 1 Start a ∷ ticked 1 ∷ line_of (event.Tick 1) ∷ failed_twice
