-- What a president decides, and how it answers, ends no attempt and excludes nobody.
use Rattle.admin_commands.specs.declared.accepted.Accepted.{Accepted}
use Rattle.admin_commands.specs.declared.accepted.Accepted.TheVariants as accepted
use Rattle.admin_commands.specs.declared.error.CheckError.{CheckError}
use Rattle.admin_commands.specs.declared.error.CheckError.TheVariants as because
use Rattle.admin_words.specs.Commands.{request_of}
use Rattle.admin_words.specs.declared.error.WordError.{WordError}
use Rattle.admin_words.specs.declared.request.Request.TheVariants as asked
use Rattle.admin_words.specs.declared.request.Request as wanted
use Rattle.ccr_tables.specs.declared.command.AdminCommand.TheVariants as wish
use Rattle.cl_base.specs.declared.command.Ask.{Ask}
use Rattle.cl_base.specs.declared.method.Outcome.{Outcome}
use Rattle.proposals.specs.Proposing.{is_prepared, prepared_by}
use Rattle.proposals.specs.State.{State, first_in}
use Rattle.proposals.specs.declared.arrived.Arrived.{Arrived}
use Rattle.proposals.specs.declared.arrived.Proposed.{Proposed}
use Rattle.rgm_president.specs.Decisions as decisions
use Rattle.rgm_state.specs.Outcomes as order
use Rattle.status_report.specs.declared.command_entry.Answer.{Answer}
use Rattle.status_report.specs.declared.command_entry.Answer.TheVariants as answer
use Rattle.update_words.specs.Words.{words_of}
use Rattle.node_model.specs.declared.cluster.Cluster.{Cluster}
use Rattle.node_model.specs.declared.node.UpNode.{UpNode}
use Rattle.node_model.specs.declared.presidency.Presidency.{Presidency}
use Rattle.node_model.specs.Configurations.{in_force}
use Rattle.node_model.specs.Deciding.{is_held_up, may_order}
use Rattle.node_model.specs.Groups.{with_ended}
use Rattle.node_model.specs.Presidents.{checked, is_busy, is_clear, others_of, proposed_by, requests_of, with_act, with_proposals, word_answer}
use Rattle.node_model.specs.Updates.{is_of_member}
use Rattle.refinement.specs.Courses.Course.{Acts, Falls, Keeps, Stops}
use Rattle.refinement.specs.Cuts as cuts
use Rattle.refinement.specs.Cuts.{acks_of, left_answered}
use Rattle.std.specs.Prelude.{ℕ, zero, suc, ◌==◌, ◌&&◌, Bool, true, false, List, Option, None, Some, Result, Ok, Err, if◌then◌else◌}
use Rattle.node_model.specs.Seats.{record_of, version_of}
use Rattle.refinement.specs.Doings.{Change, acted, changed}
use Rattle.refinement.specs.Courses.{Course, joined}
use Rattle.run_outcomes.specs.Free.{IsFree}

module _ (c : Cluster) (me : ℕ) where
  pub either_free : (b : Bool) (k l : Course) → IsFree k → IsFree l → IsFree (if b then k else l)
  either_free true k l h i = h
  either_free false k l h i = i

  pub then_free : (x : UpNode) (k : Course) (next : UpNode → Course) → IsFree k → ((y : UpNode) → IsFree (next y)) → IsFree (joined c me x k next)
  then_free x Stops next h i = i x
  then_free x (Acts a rest) next h i = (h.0, then_free (acted c me x a) rest next h.1 i)
  then_free x (Keeps change rest) next h i = (h.0, then_free (changed c me x change) rest next h.1 i)
  then_free x (Falls why) next h i = h

  pub kept_if_free : (keeps : Bool) (change : Change) (rest : Course) → IsFree rest → IsFree (cuts.kept_if keeps change rest)
  kept_if_free true change rest k = (tt, k)
  kept_if_free false change rest k = (tt, k)

  decided_free : (x : UpNode) (p : Presidency) (t : decisions.Turn) → IsFree (cuts.decided_course me x p t)
  decided_free x p t = (tt, (tt, tt))

  deciding_by_free : (x : UpNode) (o : Option Presidency) → IsFree (cuts.deciding_by_course c me x o)
  deciding_by_free x None = tt
  deciding_by_free x (Some p) = either_free (may_order p.groups) _ _ (decided_free x p (decisions.decision (in_force c x) x.second (is_held_up p) p.groups)) tt

  pub deciding_free : (x : UpNode) → IsFree (cuts.deciding_course c me x)
  deciding_free x = deciding_by_free x x.presidency

  answering_free : (x : UpNode) (p : Presidency) (a : Arrived) (told : Answer) → IsFree (cuts.answering_course c me x p a told)
  answering_free x p a told = (tt, (tt, deciding_free (left_answered me x p a told)))

  acknowledged_free : (x : UpNode) (p : Presidency) (a : Arrived) (text : List ℕ) → IsFree (cuts.acknowledged_course c me x p a text)
  acknowledged_free x p a text = (tt, (tt, (tt, deciding_free (changed c me x (acks_of c me x p a text)))))

  acknowledging_text_free : (x : UpNode) (p : Presidency) (o : Option Arrived) (text : Option (List ℕ)) → IsFree (cuts.acknowledging_text_course c me x p o text)
  acknowledging_text_free x p (Some a) (Some text) = acknowledged_free x p a text
  acknowledging_text_free x p None text = tt
  acknowledging_text_free x p (Some a) None = tt

  acknowledging_by_free : (x : UpNode) (o : Option Presidency) → IsFree (cuts.acknowledging_by_course c me x o)
  acknowledging_by_free x None = tt
  acknowledging_by_free x (Some p) = acknowledging_text_free x p (first_in p.proposals.arrived) (record_of x).entries.pending

  pub acknowledging_free : (x : UpNode) → IsFree (cuts.acknowledging_course c me x)
  acknowledging_free x = acknowledging_by_free x x.presidency

  proposing_free : (x : UpNode) (p : Presidency) (text : List ℕ) → IsFree (cuts.proposing_course c me x p text)
  proposing_free x p text = (tt, (tt, either_free (others_of me x == 0) _ _ (acknowledging_free (proposed_by c me x p text)) tt))

  acting_free : (x : UpNode) (p : Presidency) (a : Arrived) (ask : Ask) → IsFree (cuts.acting_course c me x p a ask)
  acting_free x p a ask = either_free (may_order p.groups) _ _ (tt, answering_free x (with_act c me x p a ask) a answer.Ok) tt

  taken_as_free : (x : UpNode) (p : Presidency) (a : Arrived) (r : Result Accepted CheckError) → IsFree (cuts.taken_as_course c me x p a r)
  taken_as_free x p a (Ok (accepted.Change u)) = proposing_free x p (words_of u)
  taken_as_free x p a (Ok (accepted.Act ask)) = acting_free x p a ask
  taken_as_free x p a (Ok (accepted.Query q)) = answering_free x p a answer.Ok
  taken_as_free x p a (Err (because.Refused r)) = answering_free x p a (answer.Refused r)
  taken_as_free x p a (Err because.NoMemory) = tt

  taken_free : (x : UpNode) (p : Presidency) (a : Arrived) (r : Result wanted.Request WordError) → IsFree (cuts.taken_course c me x p a r)
  taken_free x p a (Ok (asked.Change u)) = either_free (is_busy p.groups) _ _ tt (taken_as_free x p a (checked c x p (wish.Change u)))
  taken_free x p a (Ok (asked.Act ask)) = either_free (is_busy p.groups && is_clear ask) _ _ tt (taken_as_free x p a (checked c x p (wish.Act ask)))
  taken_free x p a (Err e) = answering_free x p a (word_answer e)

  turn_of_free : (x : UpNode) (p : Presidency) (o : Option Proposed) (first : Option Arrived) → IsFree (cuts.turn_of_course c me x p o first)
  turn_of_free x p None (Some a) = taken_free x p a (request_of (version_of c) a.text)
  turn_of_free x p None None = tt
  turn_of_free x p (Some proposed) first = tt

  turn_by_free : (x : UpNode) (o : Option Presidency) → IsFree (cuts.turn_by_course c me x o)
  turn_by_free x None = tt
  turn_by_free x (Some p) = turn_of_free x p p.proposals.proposed (first_in p.proposals.arrived)

  one_turn_free : (x : UpNode) → IsFree (cuts.one_turn_course c me x)
  one_turn_free x = turn_by_free x x.presidency

  turns_free : (x : UpNode) (k : ℕ) → IsFree (cuts.turns_course c me x k)
  turns_free x zero = tt
  turns_free x (suc k) = then_free x _ _ (turns_free x k) (λ z. one_turn_free z)

  pub handling_free : (x : UpNode) → IsFree (cuts.handling_course c me x)
  handling_free x = turns_free x (requests_of x x.presidency)

  pub done_at_free : (x : UpNode) (from number : ℕ) (outcome : Outcome) (o : Option Presidency) → IsFree (cuts.done_at_course c me x from number outcome o)
  done_at_free x from number outcome None = tt
  done_at_free x from number outcome (Some p) = either_free (order.is_due p.groups.view from number) _ _ (tt, then_free (record x { presidency = Some (with_ended c x p from number outcome) }) _ _ (deciding_free (record x { presidency = Some (with_ended c x p from number outcome) })) (λ z. handling_free z)) tt

  pub done_free : (x : UpNode) (from e number : ℕ) (outcome : Outcome) → IsFree (cuts.done_course c me x from e number outcome)
  done_free x from e number outcome = either_free (is_of_member x from e) _ _ (done_at_free x from number outcome x.presidency) tt

  prepared_all_free : (x : UpNode) (p : Presidency) → IsFree (cuts.prepared_all_course c me x p)
  prepared_all_free x p = either_free (is_prepared p.proposals) _ _ (then_free x _ _ (acknowledging_free x) (λ z. handling_free z)) tt

  prepared_at_free : (x : UpNode) (from place : ℕ) (o : Option Presidency) → IsFree (cuts.prepared_at_course c me x from place o)
  prepared_at_free x from place None = tt
  prepared_at_free x from place (Some p) = let s : State = prepared_by p.proposals from place in (tt, prepared_all_free (with_proposals x p s) (record p { proposals = s }))

  pub prepared_free : (x : UpNode) (from e place : ℕ) → IsFree (cuts.prepared_course c me x from e place)
  prepared_free x from e place = either_free (is_of_member x from e) _ _ (prepared_at_free x from place x.presidency) tt
