-- What a president does at a tick changes neither its session nor its members.
use Rattle.std.specs.Prelude.{ℕ, zero, suc, ◌==◌, ◌&&◌, Bool, true, List, Option, None, Some, Result, Ok, Err, if◌then◌else◌}
use Rattle.admin_commands.specs.declared.accepted.Accepted.{Accepted}
use Rattle.admin_commands.specs.declared.accepted.Accepted.TheVariants as accepted
use Rattle.admin_commands.specs.declared.error.CheckError.{CheckError}
use Rattle.admin_commands.specs.declared.error.CheckError.TheVariants as because
use Rattle.admin_words.specs.Commands.{request_of}
use Rattle.admin_words.specs.declared.error.WordError.{WordError}
use Rattle.admin_words.specs.declared.request.Request.TheVariants as asked
use Rattle.admin_words.specs.declared.request.Request as wanted
use Rattle.ccr_tables.specs.declared.command.AdminCommand.TheVariants as wish
use Rattle.cl_base.specs.declared.command.Ask.{Ask}
use Rattle.cl_base.specs.declared.method.Outcome.{Outcome}
use Rattle.proposals.specs.Proposing.{goes_again}
use Rattle.proposals.specs.State.{first_in}
use Rattle.proposals.specs.declared.arrived.Arrived.{Arrived}
use Rattle.proposals.specs.declared.arrived.Proposed.{Proposed}
use Rattle.rgm_member.specs.Orders.{answer_to, outcome_in}
use Rattle.rgm_member.specs.declared.carried.Carried.{Carried}
use Rattle.rgm_president.specs.Decisions as decisions
use Rattle.rgm_state.specs.Outcomes as order
use Rattle.status_report.specs.declared.command_entry.Answer.{Answer}
use Rattle.status_report.specs.declared.command_entry.Answer.TheVariants as answer
use Rattle.update_words.specs.Words.{words_of}
use Rattle.wire.specs.declared.message.Order.{Order}
use Rattle.node_model.specs.declared.cluster.Cluster.{Cluster}
use Rattle.node_model.specs.declared.node.UpNode.{UpNode}
use Rattle.node_model.specs.declared.presidency.Presidency.{Presidency}
use Rattle.node_model.specs.Configurations.{in_force}
use Rattle.node_model.specs.Deciding.{is_held_up, may_order}
use Rattle.node_model.specs.Groups.{is_last, orders_again, own_order, with_ended}
use Rattle.node_model.specs.Presidents.{checked, is_busy, is_clear, others_of, proposed_by, requests_of, with_act, word_answer}
use Rattle.node_model.specs.Seats.{record_of, version_of}
use Rattle.refinement.specs.Doings.{changed}
use Rattle.refinement.specs.Doings.Act.{Gives}
use Rattle.refinement.specs.Courses.{Course, joined}
use Rattle.refinement.specs.Courses.Course.{Acts, Falls, Keeps, Stops}
use Rattle.std.specs.Prelude.{false}
use Rattle.refinement.specs.Cuts as cuts
use Rattle.refinement.specs.Doings.{acted}
use Rattle.refinement.specs.Cuts.{acks_of, balanced, first_turn, left_answered}
use Rattle.run_attempts.specs.Steps.{IsStaid}

either_staid : (b : Bool) (k l : Course) → IsStaid k → IsStaid l → IsStaid (if b then k else l)
either_staid true k l h i = h
either_staid false k l h i = i

then_staid : (c : Cluster) (me : ℕ) (x : UpNode) (k : Course) (next : UpNode → Course) → IsStaid k → ((y : UpNode) → IsStaid (next y)) → IsStaid (joined c me x k next)
then_staid c me x Stops next h i = i x
then_staid c me x (Acts a rest) next h i = (h.0, then_staid c me (acted c me x a) rest next h.1 i)
then_staid c me x (Keeps change rest) next h i = (h.0, then_staid c me (changed c me x change) rest next h.1 i)
then_staid c me x (Falls why) next h i = tt

decided_staid : (me : ℕ) (x : UpNode) (p : Presidency) (t : decisions.Turn) → IsStaid (cuts.decided_course me x p t)
decided_staid me x p t = (tt, (tt, tt))

deciding_by_staid : (c : Cluster) (me : ℕ) (x : UpNode) (o : Option Presidency) → IsStaid (cuts.deciding_by_course c me x o)
deciding_by_staid c me x None = tt
deciding_by_staid c me x (Some p) = either_staid (may_order p.groups) _ _ (decided_staid me x p (decisions.decision (in_force c x) x.second (is_held_up p) p.groups)) tt

pub deciding_staid : (c : Cluster) (me : ℕ) (x : UpNode) → IsStaid (cuts.deciding_course c me x)
deciding_staid c me x = deciding_by_staid c me x x.presidency

answering_staid : (c : Cluster) (me : ℕ) (x : UpNode) (p : Presidency) (a : Arrived) (told : Answer) → IsStaid (cuts.answering_course c me x p a told)
answering_staid c me x p a told = (tt, (tt, deciding_staid c me (left_answered me x p a told)))

acknowledged_staid : (c : Cluster) (me : ℕ) (x : UpNode) (p : Presidency) (a : Arrived) (text : List ℕ) → IsStaid (cuts.acknowledged_course c me x p a text)
acknowledged_staid c me x p a text = (tt, (tt, (tt, deciding_staid c me (changed c me x (acks_of c me x p a text)))))

acknowledging_text_staid : (c : Cluster) (me : ℕ) (x : UpNode) (p : Presidency) (o : Option Arrived) (text : Option (List ℕ)) → IsStaid (cuts.acknowledging_text_course c me x p o text)
acknowledging_text_staid c me x p (Some a) (Some text) = acknowledged_staid c me x p a text
acknowledging_text_staid c me x p None text = tt
acknowledging_text_staid c me x p (Some a) None = tt

acknowledging_by_staid : (c : Cluster) (me : ℕ) (x : UpNode) (o : Option Presidency) → IsStaid (cuts.acknowledging_by_course c me x o)
acknowledging_by_staid c me x None = tt
acknowledging_by_staid c me x (Some p) = acknowledging_text_staid c me x p (first_in p.proposals.arrived) (record_of x).entries.pending

pub acknowledging_staid : (c : Cluster) (me : ℕ) (x : UpNode) → IsStaid (cuts.acknowledging_course c me x)
acknowledging_staid c me x = acknowledging_by_staid c me x x.presidency

proposing_staid : (c : Cluster) (me : ℕ) (x : UpNode) (p : Presidency) (text : List ℕ) → IsStaid (cuts.proposing_course c me x p text)
proposing_staid c me x p text = (tt, (tt, either_staid (others_of me x == 0) _ _ (acknowledging_staid c me (proposed_by c me x p text)) tt))

acting_staid : (c : Cluster) (me : ℕ) (x : UpNode) (p : Presidency) (a : Arrived) (ask : Ask) → IsStaid (cuts.acting_course c me x p a ask)
acting_staid c me x p a ask = either_staid (may_order p.groups) _ _ (tt, answering_staid c me x (with_act c me x p a ask) a answer.Ok) tt

taken_as_staid : (c : Cluster) (me : ℕ) (x : UpNode) (p : Presidency) (a : Arrived) (r : Result Accepted CheckError) → IsStaid (cuts.taken_as_course c me x p a r)
taken_as_staid c me x p a (Ok (accepted.Change u)) = proposing_staid c me x p (words_of u)
taken_as_staid c me x p a (Ok (accepted.Act ask)) = acting_staid c me x p a ask
taken_as_staid c me x p a (Ok (accepted.Query q)) = answering_staid c me x p a answer.Ok
taken_as_staid c me x p a (Err (because.Refused r)) = answering_staid c me x p a (answer.Refused r)
taken_as_staid c me x p a (Err because.NoMemory) = tt

taken_staid : (c : Cluster) (me : ℕ) (x : UpNode) (p : Presidency) (a : Arrived) (r : Result wanted.Request WordError) → IsStaid (cuts.taken_course c me x p a r)
taken_staid c me x p a (Ok (asked.Change u)) = either_staid (is_busy p.groups) _ _ tt (taken_as_staid c me x p a (checked c x p (wish.Change u)))
taken_staid c me x p a (Ok (asked.Act ask)) = either_staid (is_busy p.groups && is_clear ask) _ _ tt (taken_as_staid c me x p a (checked c x p (wish.Act ask)))
taken_staid c me x p a (Err e) = answering_staid c me x p a (word_answer e)

turn_of_staid : (c : Cluster) (me : ℕ) (x : UpNode) (p : Presidency) (o : Option Proposed) (first : Option Arrived) → IsStaid (cuts.turn_of_course c me x p o first)
turn_of_staid c me x p None (Some a) = taken_staid c me x p a (request_of (version_of c) a.text)
turn_of_staid c me x p None None = tt
turn_of_staid c me x p (Some proposed) first = tt

turn_by_staid : (c : Cluster) (me : ℕ) (x : UpNode) (o : Option Presidency) → IsStaid (cuts.turn_by_course c me x o)
turn_by_staid c me x None = tt
turn_by_staid c me x (Some p) = turn_of_staid c me x p p.proposals.proposed (first_in p.proposals.arrived)

one_turn_staid : (c : Cluster) (me : ℕ) (x : UpNode) → IsStaid (cuts.one_turn_course c me x)
one_turn_staid c me x = turn_by_staid c me x x.presidency

turns_staid : (c : Cluster) (me : ℕ) (x : UpNode) (k : ℕ) → IsStaid (cuts.turns_course c me x k)
turns_staid c me x zero = tt
turns_staid c me x (suc k) = then_staid c me x _ _ (turns_staid c me x k) (λ z. one_turn_staid c me z)

pub handling_staid : (c : Cluster) (me : ℕ) (x : UpNode) → IsStaid (cuts.handling_course c me x)
handling_staid c me x = turns_staid c me x (requests_of x x.presidency)

pub done_at_staid : (c : Cluster) (me : ℕ) (x : UpNode) (from number : ℕ) (outcome : Outcome) (o : Option Presidency) → IsStaid (cuts.done_at_course c me x from number outcome o)
done_at_staid c me x from number outcome None = tt
done_at_staid c me x from number outcome (Some p) = either_staid (order.is_due p.groups.view from number) _ _ (tt, then_staid c me (record x { presidency = Some (with_ended c x p from number outcome) }) _ _ (deciding_staid c me (record x { presidency = Some (with_ended c x p from number outcome) })) (λ z. handling_staid c me z)) tt

pub carrying_staid : (c : Cluster) (me : ℕ) (x : UpNode) (o : Order) (how : Carried) → IsStaid (cuts.carrying_course c me x o how)
carrying_staid c me x o how = (tt, either_staid (is_last c x o how) _ _ tt (tt, tt))

own_done_staid : (c : Cluster) (me : ℕ) (o : Order) (how : Carried) (x : UpNode) → IsStaid (cuts.own_done_course c me o how x)
own_done_staid c me o how x = done_at_staid c me x me o.number (outcome_in how) x.presidency

own_turn_staid : (c : Cluster) (me : ℕ) (outcome : Outcome) (x : UpNode) (o : Option Order) → IsStaid (cuts.own_turn_course c me outcome x o)
own_turn_staid c me outcome x None = tt
own_turn_staid c me outcome x (Some o) = then_staid c me x (cuts.carrying_course c me x o (answer_to x.worker o outcome)) _ (carrying_staid c me x o (answer_to x.worker o outcome)) (λ z. own_done_staid c me o (answer_to x.worker o outcome) z)

prepares_staid : (x : UpNode) (o : Option Proposed) (text : Option (List ℕ)) (rest : Course) → IsStaid rest → IsStaid (cuts.prepares_course x o text rest)
prepares_staid x (Some p) (Some text) rest h = (tt, h)
prepares_staid x None text rest h = h
prepares_staid x (Some p) None rest h = h

prepares_again_staid : (x : UpNode) (o : Option Presidency) (rest : Course) → IsStaid rest → IsStaid (cuts.prepares_again_course x o rest)
prepares_again_staid x None rest h = h
prepares_again_staid x (Some p) rest h = either_staid (goes_again p.proposals) _ _ (prepares_staid x p.proposals.proposed (record_of x).entries.pending rest h) h

going_again_staid : (c : Cluster) (me : ℕ) (before x : UpNode) → IsStaid (cuts.going_again_course c me before x)
going_again_staid c me before x = prepares_again_staid before before.presidency (Acts (Gives (orders_again before x)) (cuts.deciding_course c me x)) (tt, deciding_staid c me x)

pub governing_staid : (c : Cluster) (me : ℕ) (outcome : Outcome) (before x : UpNode) → IsStaid (cuts.governing_course c me outcome before x)
governing_staid c me outcome before x = then_staid c me x _ _ (own_turn_staid c me outcome x (own_order me x)) (λ z. going_again_staid c me before z)
