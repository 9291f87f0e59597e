-- What a president does sends neither a request to seize nor a Collect nor an Install, and leaves its attempt.
use Rattle.std.specs.Prelude.{ℕ, zero, suc, ◌==◌, ◌&&◌, Bool, true, List, Option, None, Some, Result, Ok, Err, if◌then◌else◌, false}
use Rattle.admin_commands.specs.declared.accepted.Accepted.{Accepted}
use Rattle.admin_commands.specs.declared.accepted.Accepted.TheVariants as accepted
use Rattle.admin_commands.specs.declared.error.CheckError.{CheckError}
use Rattle.admin_commands.specs.declared.error.CheckError.TheVariants as because
use Rattle.admin_words.specs.Commands.{request_of}
use Rattle.admin_words.specs.declared.error.WordError.{WordError}
use Rattle.admin_words.specs.declared.request.Request as wanted
use Rattle.admin_words.specs.declared.request.Request.TheVariants as asked
use Rattle.ccr_tables.specs.declared.command.AdminCommand.TheVariants as wish
use Rattle.cl_base.specs.declared.command.Ask.{Ask}
use Rattle.cl_base.specs.declared.method.Outcome.{Outcome}
use Rattle.node_model.specs.Configurations.{in_force}
use Rattle.node_model.specs.Deciding.{is_held_up, may_order}
use Rattle.node_model.specs.Groups.{is_last, orders_again, own_order, with_ended}
use Rattle.node_model.specs.Presidents.{checked, is_busy, is_clear, others_of, proposed_by, requests_of, with_act, word_answer}
use Rattle.node_model.specs.Seats.{record_of, version_of}
use Rattle.node_model.specs.declared.cluster.Cluster.{Cluster}
use Rattle.node_model.specs.declared.node.UpNode.{UpNode}
use Rattle.node_model.specs.declared.presidency.Presidency.{Presidency}
use Rattle.proposals.specs.Proposing.{goes_again}
use Rattle.proposals.specs.State.{first_in}
use Rattle.proposals.specs.declared.arrived.Arrived.{Arrived}
use Rattle.proposals.specs.declared.arrived.Proposed.{Proposed}
use Rattle.refinement.specs.Courses.{Course, joined}
use Rattle.refinement.specs.Courses.Course.{Acts, Falls, Keeps, Stops}
use Rattle.refinement.specs.Cuts.{acks_of, left_answered}
use Rattle.refinement.specs.Cuts as cuts
use Rattle.refinement.specs.Doings.{changed, acted}
use Rattle.refinement.specs.Doings.Act.{Gives}
use Rattle.rgm_member.specs.Orders.{answer_to, outcome_in}
use Rattle.rgm_member.specs.declared.carried.Carried.{Carried}
use Rattle.rgm_president.specs.Decisions as decisions
use Rattle.rgm_state.specs.Outcomes as order
use Rattle.status_report.specs.declared.command_entry.Answer.{Answer}
use Rattle.status_report.specs.declared.command_entry.Answer.TheVariants as answer
use Rattle.update_words.specs.Words.{words_of}
use Rattle.wire.specs.declared.message.Order.{Order}
use Rattle.run_outcomes.specs.reports.Requests.{IsBare}

pub either_bare : (b : Bool) (k l : Course) → IsBare k → IsBare l → IsBare (if b then k else l)
either_bare true k l h i = h
either_bare false k l h i = i

pub then_bare : (c : Cluster) (me : ℕ) (x : UpNode) (k : Course) (next : UpNode → Course) → IsBare k → ((y : UpNode) → IsBare (next y)) → IsBare (joined c me x k next)
then_bare c me x Stops next h i = i x
then_bare c me x (Acts a rest) next h i = (h.0, then_bare c me (acted c me x a) rest next h.1 i)
then_bare c me x (Keeps change rest) next h i = (h.0, then_bare c me (changed c me x change) rest next h.1 i)
then_bare c me x (Falls why) next h i = tt

decided_bare : (me : ℕ) (x : UpNode) (p : Presidency) (t : decisions.Turn) → IsBare (cuts.decided_course me x p t)
decided_bare me x p t = (tt, (tt, tt))

deciding_by_bare : (c : Cluster) (me : ℕ) (x : UpNode) (o : Option Presidency) → IsBare (cuts.deciding_by_course c me x o)
deciding_by_bare c me x None = tt
deciding_by_bare c me x (Some p) = either_bare (may_order p.groups) _ _ (decided_bare me x p (decisions.decision (in_force c x) x.second (is_held_up p) p.groups)) tt

pub deciding_bare : (c : Cluster) (me : ℕ) (x : UpNode) → IsBare (cuts.deciding_course c me x)
deciding_bare c me x = deciding_by_bare c me x x.presidency

answering_bare : (c : Cluster) (me : ℕ) (x : UpNode) (p : Presidency) (a : Arrived) (told : Answer) → IsBare (cuts.answering_course c me x p a told)
answering_bare c me x p a told = (tt, (tt, deciding_bare c me (left_answered me x p a told)))

acknowledged_bare : (c : Cluster) (me : ℕ) (x : UpNode) (p : Presidency) (a : Arrived) (text : List ℕ) → IsBare (cuts.acknowledged_course c me x p a text)
acknowledged_bare c me x p a text = (tt, (tt, (tt, deciding_bare c me (changed c me x (acks_of c me x p a text)))))

acknowledging_text_bare : (c : Cluster) (me : ℕ) (x : UpNode) (p : Presidency) (o : Option Arrived) (text : Option (List ℕ)) → IsBare (cuts.acknowledging_text_course c me x p o text)
acknowledging_text_bare c me x p (Some a) (Some text) = acknowledged_bare c me x p a text
acknowledging_text_bare c me x p None text = tt
acknowledging_text_bare c me x p (Some a) None = tt

acknowledging_by_bare : (c : Cluster) (me : ℕ) (x : UpNode) (o : Option Presidency) → IsBare (cuts.acknowledging_by_course c me x o)
acknowledging_by_bare c me x None = tt
acknowledging_by_bare c me x (Some p) = acknowledging_text_bare c me x p (first_in p.proposals.arrived) (record_of x).entries.pending

pub acknowledging_bare : (c : Cluster) (me : ℕ) (x : UpNode) → IsBare (cuts.acknowledging_course c me x)
acknowledging_bare c me x = acknowledging_by_bare c me x x.presidency

proposing_bare : (c : Cluster) (me : ℕ) (x : UpNode) (p : Presidency) (text : List ℕ) → IsBare (cuts.proposing_course c me x p text)
proposing_bare c me x p text = (tt, (tt, either_bare (others_of me x == 0) _ _ (acknowledging_bare c me (proposed_by c me x p text)) tt))

acting_bare : (c : Cluster) (me : ℕ) (x : UpNode) (p : Presidency) (a : Arrived) (ask : Ask) → IsBare (cuts.acting_course c me x p a ask)
acting_bare c me x p a ask = either_bare (may_order p.groups) _ _ (tt, answering_bare c me x (with_act c me x p a ask) a answer.Ok) tt

taken_as_bare : (c : Cluster) (me : ℕ) (x : UpNode) (p : Presidency) (a : Arrived) (r : Result Accepted CheckError) → IsBare (cuts.taken_as_course c me x p a r)
taken_as_bare c me x p a (Ok (accepted.Change u)) = proposing_bare c me x p (words_of u)
taken_as_bare c me x p a (Ok (accepted.Act ask)) = acting_bare c me x p a ask
taken_as_bare c me x p a (Ok (accepted.Query q)) = answering_bare c me x p a answer.Ok
taken_as_bare c me x p a (Err (because.Refused r)) = answering_bare c me x p a (answer.Refused r)
taken_as_bare c me x p a (Err because.NoMemory) = tt

taken_bare : (c : Cluster) (me : ℕ) (x : UpNode) (p : Presidency) (a : Arrived) (r : Result wanted.Request WordError) → IsBare (cuts.taken_course c me x p a r)
taken_bare c me x p a (Ok (asked.Change u)) = either_bare (is_busy p.groups) _ _ tt (taken_as_bare c me x p a (checked c x p (wish.Change u)))
taken_bare c me x p a (Ok (asked.Act ask)) = either_bare (is_busy p.groups && is_clear ask) _ _ tt (taken_as_bare c me x p a (checked c x p (wish.Act ask)))
taken_bare c me x p a (Err e) = answering_bare c me x p a (word_answer e)

turn_of_bare : (c : Cluster) (me : ℕ) (x : UpNode) (p : Presidency) (o : Option Proposed) (first : Option Arrived) → IsBare (cuts.turn_of_course c me x p o first)
turn_of_bare c me x p None (Some a) = taken_bare c me x p a (request_of (version_of c) a.text)
turn_of_bare c me x p None None = tt
turn_of_bare c me x p (Some proposed) first = tt

turn_by_bare : (c : Cluster) (me : ℕ) (x : UpNode) (o : Option Presidency) → IsBare (cuts.turn_by_course c me x o)
turn_by_bare c me x None = tt
turn_by_bare c me x (Some p) = turn_of_bare c me x p p.proposals.proposed (first_in p.proposals.arrived)

one_turn_bare : (c : Cluster) (me : ℕ) (x : UpNode) → IsBare (cuts.one_turn_course c me x)
one_turn_bare c me x = turn_by_bare c me x x.presidency

turns_bare : (c : Cluster) (me : ℕ) (x : UpNode) (k : ℕ) → IsBare (cuts.turns_course c me x k)
turns_bare c me x zero = tt
turns_bare c me x (suc k) = then_bare c me x _ _ (turns_bare c me x k) (λ z. one_turn_bare c me z)

pub handling_bare : (c : Cluster) (me : ℕ) (x : UpNode) → IsBare (cuts.handling_course c me x)
handling_bare c me x = turns_bare c me x (requests_of x x.presidency)

pub done_at_bare : (c : Cluster) (me : ℕ) (x : UpNode) (from number : ℕ) (outcome : Outcome) (o : Option Presidency) → IsBare (cuts.done_at_course c me x from number outcome o)
done_at_bare c me x from number outcome None = tt
done_at_bare c me x from number outcome (Some p) = either_bare (order.is_due p.groups.view from number) _ _ (tt, then_bare c me (record x { presidency = Some (with_ended c x p from number outcome) }) _ _ (deciding_bare c me (record x { presidency = Some (with_ended c x p from number outcome) })) (λ z. handling_bare c me z)) tt

pub carrying_bare : (c : Cluster) (me : ℕ) (x : UpNode) (o : Order) (how : Carried) → IsBare (cuts.carrying_course c me x o how)
carrying_bare c me x o how = (tt, either_bare (is_last c x o how) _ _ tt (tt, tt))

own_done_bare : (c : Cluster) (me : ℕ) (o : Order) (how : Carried) (x : UpNode) → IsBare (cuts.own_done_course c me o how x)
own_done_bare c me o how x = done_at_bare c me x me o.number (outcome_in how) x.presidency

own_turn_bare : (c : Cluster) (me : ℕ) (outcome : Outcome) (x : UpNode) (o : Option Order) → IsBare (cuts.own_turn_course c me outcome x o)
own_turn_bare c me outcome x None = tt
own_turn_bare c me outcome x (Some o) = then_bare c me x (cuts.carrying_course c me x o (answer_to x.worker o outcome)) _ (carrying_bare c me x o (answer_to x.worker o outcome)) (λ z. own_done_bare c me o (answer_to x.worker o outcome) z)

prepares_bare : (x : UpNode) (o : Option Proposed) (text : Option (List ℕ)) (rest : Course) → IsBare rest → IsBare (cuts.prepares_course x o text rest)
prepares_bare x (Some p) (Some text) rest h = (tt, h)
prepares_bare x None text rest h = h
prepares_bare x (Some p) None rest h = h

prepares_again_bare : (x : UpNode) (o : Option Presidency) (rest : Course) → IsBare rest → IsBare (cuts.prepares_again_course x o rest)
prepares_again_bare x None rest h = h
prepares_again_bare x (Some p) rest h = either_bare (goes_again p.proposals) _ _ (prepares_bare x p.proposals.proposed (record_of x).entries.pending rest h) h

going_again_bare : (c : Cluster) (me : ℕ) (before x : UpNode) → IsBare (cuts.going_again_course c me before x)
going_again_bare c me before x = prepares_again_bare before before.presidency (Acts (Gives (orders_again before x)) (cuts.deciding_course c me x)) (tt, deciding_bare c me x)

pub governing_bare : (c : Cluster) (me : ℕ) (outcome : Outcome) (before x : UpNode) → IsBare (cuts.governing_course c me outcome before x)
governing_bare c me outcome before x = then_bare c me x _ _ (own_turn_bare c me outcome x (own_order me x)) (λ z. going_again_bare c me before z)
