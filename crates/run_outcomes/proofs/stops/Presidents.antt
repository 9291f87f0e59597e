-- What a president does in a tick: its first save is that of a proposal, and before it the lines tell nothing of its record.
use Rattle.std.specs.Prelude.{ℕ, zero, suc, ◌&&◌, List, Option, None, Some, Result, Ok, Err}
use Rattle.admin_commands.specs.declared.accepted.Accepted.{Accepted}
use Rattle.admin_commands.specs.declared.accepted.Accepted.TheVariants as accepted
use Rattle.admin_commands.specs.declared.error.CheckError.{CheckError}
use Rattle.admin_commands.specs.declared.error.CheckError.TheVariants as because
use Rattle.admin_words.specs.Commands.{request_of}
use Rattle.admin_words.specs.declared.error.WordError.{WordError}
use Rattle.admin_words.specs.declared.request.Request.TheVariants as asked
use Rattle.admin_words.specs.declared.request.Request as wanted
use Rattle.ccr_tables.specs.declared.command.AdminCommand.TheVariants as wish
use Rattle.cl_base.specs.declared.command.Ask.{Ask}
use Rattle.cl_base.specs.declared.method.Outcome.{Outcome}
use Rattle.cl_base.specs.declared.panic.Panic.TheVariants as panic
use Rattle.cmm_attempt.proofs.Basics.{if_either}
use Rattle.node_model.specs.Deciding.{may_order}
use Rattle.node_model.specs.Groups.{is_last, own_order, with_ended}
use Rattle.node_model.specs.Presidents.{checked, is_busy, is_clear, requests_of, with_act, word_answer}
use Rattle.node_model.specs.Seats.{record_of, version_of}
use Rattle.node_model.specs.declared.cluster.Cluster.{Cluster}
use Rattle.node_model.specs.declared.node.UpNode.{UpNode}
use Rattle.node_model.specs.declared.presidency.Presidency.{Presidency}
use Rattle.proposals.specs.Proposing.{goes_again}
use Rattle.proposals.specs.State.{first_in}
use Rattle.proposals.specs.declared.arrived.Arrived.{Arrived}
use Rattle.proposals.specs.declared.arrived.Proposed.{Proposed}
use Rattle.refinement.specs.Courses.{Course, joined}
use Rattle.refinement.specs.Courses.Course.{Acts, Falls, Keeps, Stops}
use Rattle.refinement.specs.Cuts as cuts
use Rattle.refinement.specs.Cuts.{deciding_course, handling_course, one_turn_course, turns_course}
use Rattle.refinement.specs.Doings.{acted}
use Rattle.refinement.specs.Doings.Change.{Proposes}
use Rattle.rgm_member.specs.Orders.{answer_to, outcome_in}
use Rattle.rgm_member.specs.declared.carried.Carried.{Carried}
use Rattle.rgm_state.specs.Outcomes as order
use Rattle.status_report.specs.declared.command_entry.Answer.{Answer}
use Rattle.status_report.specs.declared.command_entry.Answer.TheVariants as answer
use Rattle.status_report.specs.declared.node_entry.DownCause.TheVariants as down
use Rattle.wire.specs.declared.message.Order.{Order}
use Rattle.run_outcomes.specs.stops.Courses.{ProposesFirst}

joined_f : (c : Cluster) (me : ℕ) (x : UpNode) (k : Course) (next : UpNode → Course) → ProposesFirst k → ((y : UpNode) → ProposesFirst (next y)) → ProposesFirst (joined c me x k next)
joined_f c me x Stops next h f = f x
joined_f c me x (Acts a rest) next h f = (h.0, joined_f c me (acted c me x a) rest next h.1 f)
joined_f c me x (Keeps (Proposes s p text) rest) next h f = tt
joined_f c me x (Keeps _ rest) next h f = absurd h
joined_f c me x (Falls why) next h f = h

deciding_by_f : (c : Cluster) (me : ℕ) (x : UpNode) (o : Option Presidency) → ProposesFirst (cuts.deciding_by_course c me x o)
deciding_by_f c me x None = tt
deciding_by_f c me x (Some p) = if_either ProposesFirst (may_order p.groups) _ Stops (tt, (tt, tt)) tt

deciding_f : (c : Cluster) (me : ℕ) (x : UpNode) → ProposesFirst (deciding_course c me x)
deciding_f c me x = deciding_by_f c me x x.presidency

-- requests

answering_f : (c : Cluster) (me : ℕ) (x : UpNode) (p : Presidency) (a : Arrived) (told : Answer) → ProposesFirst (cuts.answering_course c me x p a told)
answering_f c me x p a told = (tt, (tt, deciding_f c me (cuts.left_answered me x p a told)))

acting_f : (c : Cluster) (me : ℕ) (x : UpNode) (p : Presidency) (a : Arrived) (ask : Ask) → ProposesFirst (cuts.acting_course c me x p a ask)
acting_f c me x p a ask = if_either ProposesFirst (may_order p.groups) _ Stops (tt, answering_f c me x (with_act c me x p a ask) a answer.Ok) tt

taken_as_f : (c : Cluster) (me : ℕ) (x : UpNode) (p : Presidency) (a : Arrived) (r : Result Accepted CheckError) → ProposesFirst (cuts.taken_as_course c me x p a r)
taken_as_f c me x p a (Ok (accepted.Change u)) = tt
taken_as_f c me x p a (Ok (accepted.Act ask)) = acting_f c me x p a ask
taken_as_f c me x p a (Ok (accepted.Query q)) = answering_f c me x p a answer.Ok
taken_as_f c me x p a (Err (because.Refused r)) = answering_f c me x p a (answer.Refused r)
taken_as_f c me x p a (Err because.NoMemory) = tt

taken_f : (c : Cluster) (me : ℕ) (x : UpNode) (p : Presidency) (a : Arrived) (r : Result wanted.Request WordError) → ProposesFirst (cuts.taken_course c me x p a r)
taken_f c me x p a (Ok (asked.Change u)) =
    if_either ProposesFirst (is_busy p.groups) Stops (cuts.taken_as_course c me x p a (checked c x p (wish.Change u))) tt (taken_as_f c me x p a (checked c x p (wish.Change u)))
taken_f c me x p a (Ok (asked.Act ask)) =
    if_either ProposesFirst (is_busy p.groups && is_clear ask) Stops (cuts.taken_as_course c me x p a (checked c x p (wish.Act ask))) tt (taken_as_f c me x p a (checked c x p (wish.Act ask)))
taken_f c me x p a (Err e) = answering_f c me x p a (word_answer e)

turn_of_f : (c : Cluster) (me : ℕ) (x : UpNode) (p : Presidency) (o : Option Proposed) (first : Option Arrived) → ProposesFirst (cuts.turn_of_course c me x p o first)
turn_of_f c me x p None (Some a) = taken_f c me x p a (request_of (version_of c) a.text)
turn_of_f c me x p None None = tt
turn_of_f c me x p (Some proposed) first = tt

turn_by_f : (c : Cluster) (me : ℕ) (x : UpNode) (o : Option Presidency) → ProposesFirst (cuts.turn_by_course c me x o)
turn_by_f c me x None = tt
turn_by_f c me x (Some p) = turn_of_f c me x p p.proposals.proposed (first_in p.proposals.arrived)

turns_f : (c : Cluster) (me : ℕ) (x : UpNode) (k : ℕ) → ProposesFirst (turns_course c me x k)
turns_f c me x zero = tt
turns_f c me x (suc k) = joined_f c me x (turns_course c me x k) (one_turn_course c me) (turns_f c me x k) (λ y. turn_by_f c me y y.presidency)

handling_f : (c : Cluster) (me : ℕ) (x : UpNode) → ProposesFirst (handling_course c me x)
handling_f c me x = turns_f c me x (requests_of x x.presidency)

-- its own order

done_at_f : (c : Cluster) (me : ℕ) (x : UpNode) (from number : ℕ) (outcome : Outcome) (o : Option Presidency) → ProposesFirst (cuts.done_at_course c me x from number outcome o)
done_at_f c me x from number outcome None = tt
done_at_f c me x from number outcome (Some p) =
    let y : UpNode = record x { presidency = Some (with_ended c x p from number outcome) } in
    if_either ProposesFirst (order.is_due p.groups.view from number) _ Stops
    (tt, joined_f c me y (deciding_course c me y) (handling_course c me) (deciding_f c me y) (λ z. handling_f c me z)) tt

carrying_f : (c : Cluster) (me : ℕ) (x : UpNode) (o : Order) (how : Carried) → ProposesFirst (cuts.carrying_course c me x o how)
carrying_f c me x o how = (tt, if_either ProposesFirst (is_last c x o how) (Falls (down.Panic (panic.Stop o.resource))) _ tt (tt, tt))

own_turn_f : (c : Cluster) (me : ℕ) (outcome : Outcome) (x : UpNode) (o : Option Order) → ProposesFirst (cuts.own_turn_course c me outcome x o)
own_turn_f c me outcome x None = tt
own_turn_f c me outcome x (Some o) =
    let how : Carried = answer_to x.worker o outcome in
    joined_f c me x (cuts.carrying_course c me x o how) (cuts.own_done_course c me o how) (carrying_f c me x o how) (λ y. done_at_f c me y me o.number (outcome_in how) y.presidency)

-- what goes again

prepares_f : (x : UpNode) (o : Option Proposed) (text : Option (List ℕ)) (rest : Course) → ProposesFirst rest → ProposesFirst (cuts.prepares_course x o text rest)
prepares_f x (Some p) (Some text) rest h = (tt, h)
prepares_f x None text rest h = h
prepares_f x (Some p) None rest h = h

prepares_again_f : (x : UpNode) (o : Option Presidency) (rest : Course) → ProposesFirst rest → ProposesFirst (cuts.prepares_again_course x o rest)
prepares_again_f x None rest h = h
prepares_again_f x (Some p) rest h =
    if_either ProposesFirst (goes_again p.proposals) (cuts.prepares_course x p.proposals.proposed (record_of x).entries.pending rest) rest
    (prepares_f x p.proposals.proposed (record_of x).entries.pending rest h) h

pub governing_f : (c : Cluster) (me : ℕ) (outcome : Outcome) (before x : UpNode) → ProposesFirst (cuts.governing_course c me outcome before x)
governing_f c me outcome before x =
    joined_f c me x (cuts.own_turn_course c me outcome x (own_order me x)) (cuts.going_again_course c me before) (own_turn_f c me outcome x (own_order me x))
    (λ y. prepares_again_f before before.presidency _ (tt, deciding_f c me y))
