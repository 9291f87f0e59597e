-- What a node does with requests and their answers: how its queue changes, and that a request is sent as it becomes the oldest.
use Rattle.admin_commands.specs.declared.accepted.Accepted.{Accepted}
use Rattle.admin_commands.specs.declared.accepted.Accepted.TheVariants as accepted
use Rattle.admin_commands.specs.declared.error.CheckError.{CheckError}
use Rattle.admin_commands.specs.declared.error.CheckError.TheVariants as because
use Rattle.admin_words.specs.Commands.{command_of, request_of}
use Rattle.admin_words.specs.declared.error.WordError.{WordError}
use Rattle.admin_words.specs.declared.request.Request.TheVariants as asked
use Rattle.admin_words.specs.declared.request.Request as wanted
use Rattle.ccr_commit.specs.Entries.{answer_for, texts_of}
use Rattle.ccr_commit.specs.declared.entries.Prepared.{Prepared}
use Rattle.ccr_commit.specs.declared.entries.Prepared.TheVariants.{Taken, Already, Gap}
use Rattle.ccr_tables.specs.State.{ConfigState}
use Rattle.ccr_tables.specs.declared.command.AdminCommand.{AdminCommand}
use Rattle.ccr_tables.specs.declared.command.AdminCommand.TheVariants as wish
use Rattle.cl_base.specs.declared.command.Ask.{Ask}
use Rattle.cmm_member.specs.Nodes.{NodeState}
use Rattle.proposals.specs.Arrivals.{arrival_of, with_arrival}
use Rattle.proposals.specs.Proposing.{is_prepared, prepared_by}
use Rattle.proposals.specs.State.{State, first_in, kept_at}
use Rattle.proposals.specs.declared.arrived.Arrival.{Arrival}
use Rattle.proposals.specs.declared.arrived.Arrival.TheVariants.{New, Waits as Waits_already, Answered as Answered_last, Past}
use Rattle.proposals.specs.declared.arrived.Arrived.{Arrived}
use Rattle.proposals.specs.declared.arrived.Kept.{Kept}
use Rattle.proposals.specs.declared.arrived.Proposed.{Proposed}
use Rattle.request_queue.specs.Queue as queue
use Rattle.request_queue.specs.Queue.{found, is_full, next_number, oldest, with_request}
use Rattle.request_queue.specs.declared.request.Request.{Request}
use Rattle.status_report.specs.declared.command_entry.Answer.{Answer}
use Rattle.status_report.specs.declared.command_entry.Answer.TheVariants as answer
use Rattle.status_report.specs.declared.status_entry.StatusEntry.{StatusEntry}
use Rattle.update_words.specs.Words.{ask_words_of, words_of}
use Rattle.node_model.specs.declared.cluster.Cluster.{Cluster}
use Rattle.node_model.specs.declared.node.UpNode.{UpNode}
use Rattle.node_model.specs.declared.presidency.Presidency.{Presidency}
use Rattle.node_model.specs.declared.seat.Seat.{Seat}
use Rattle.node_model.specs.declared.seat.Seat.TheVariants.{Forming, Member}
use Rattle.node_model.specs.Configurations.{in_force}
use Rattle.node_model.specs.Deciding.{may_order}
use Rattle.node_model.specs.Presidents.{checked, is_busy, is_clear, others_of, own_arrival, proposed_by, query_lines, requests_of, with_act, with_proposals, word_answer}
use Rattle.node_model.specs.Requests.{is_idle, numbered, waiting_with}
use Rattle.node_model.specs.Updates.{commits_now, is_of_member}
use Rattle.refinement.specs.Cuts as cuts
use Rattle.refinement.specs.Cuts.{acks_of, left_answered}
use Rattle.std.specs.Prelude.{ℕ, zero, suc, ◌≡◌, ◌==◌, ◌&&◌, Bool, true, List, length, Option, None, Some, Result, Ok, Err}
use Rattle.std.proofs.Common.{refl, ap, sym, subst, inl, inr}
use Rattle.node_model.specs.Seats.{coordinator_of, is_in, is_member, record_of, version_of}
use Rattle.refinement.specs.Doings.{changed}
use Rattle.node_model.specs.declared.input.Input.{Input}
use Rattle.node_model.specs.declared.input.Input.TheVariants as input
use Rattle.run_packets.specs.waiting.Asking.{GoesAsking, HasWords}
use Rattle.history_setting.specs.Settings.{canonical_in, canonical_words}
use Rattle.run_packets.proofs.waiting.Queues.{answered_age, answered_goes, asking_needs, by_answer, joined_goes, joining_needs, numbered_goes, stays_goes}
use Rattle.run_packets.proofs.waiting.Attempting.{deciding_so, either_so, then_so}

module _ (c : Cluster) (me : ℕ) (came : Input) where
  answering_so : (x : UpNode) (p : Presidency) (a : Arrived) (told : Answer) → GoesAsking c me came x (cuts.answering_course c me x p a told)
  answering_so x p a told = (tt, ((by_answer c came me x a, inl (inl refl)), deciding_so c me came (left_answered me x p a told)))

  acknowledged_so : (x : UpNode) (p : Presidency) (a : Arrived) (text : List ℕ) → GoesAsking c me came x (cuts.acknowledged_course c me x p a text)
  acknowledged_so x p a text = (by_answer c came me x a, (tt, (tt, deciding_so c me came (changed c me x (acks_of c me x p a text)))))

  acknowledging_text_so : (x : UpNode) (p : Presidency) (o : Option Arrived) (text : Option (List ℕ)) → GoesAsking c me came x (cuts.acknowledging_text_course c me x p o text)
  acknowledging_text_so x p (Some a) (Some text) = acknowledged_so x p a text
  acknowledging_text_so x p None text = tt
  acknowledging_text_so x p (Some a) None = tt

  acknowledging_by_so : (x : UpNode) (o : Option Presidency) → GoesAsking c me came x (cuts.acknowledging_by_course c me x o)
  acknowledging_by_so x None = tt
  acknowledging_by_so x (Some p) = acknowledging_text_so x p (first_in p.proposals.arrived) (record_of x).entries.pending

  acknowledging_so : (x : UpNode) → GoesAsking c me came x (cuts.acknowledging_course c me x)
  acknowledging_so x = acknowledging_by_so x x.presidency

  proposing_so : (x : UpNode) (p : Presidency) (text : List ℕ) → GoesAsking c me came x (cuts.proposing_course c me x p text)
  proposing_so x p text = (tt, (tt, either_so c me came _ (others_of me x == 0) _ _ (acknowledging_so (proposed_by c me x p text)) tt))

  acting_so : (x : UpNode) (p : Presidency) (a : Arrived) (ask : Ask) → GoesAsking c me came x (cuts.acting_course c me x p a ask)
  acting_so x p a ask = either_so c me came _ (may_order p.groups) _ _ (tt, answering_so x (with_act c me x p a ask) a answer.Ok) tt

  taken_as_so : (x : UpNode) (p : Presidency) (a : Arrived) (r : Result Accepted CheckError) → GoesAsking c me came x (cuts.taken_as_course c me x p a r)
  taken_as_so x p a (Ok (accepted.Change u)) = proposing_so x p (words_of u)
  taken_as_so x p a (Ok (accepted.Act ask)) = acting_so x p a ask
  taken_as_so x p a (Ok (accepted.Query q)) = answering_so x p a answer.Ok
  taken_as_so x p a (Err (because.Refused r)) = answering_so x p a (answer.Refused r)
  taken_as_so x p a (Err because.NoMemory) = tt

  taken_so : (x : UpNode) (p : Presidency) (a : Arrived) (r : Result wanted.Request WordError) → GoesAsking c me came x (cuts.taken_course c me x p a r)
  taken_so x p a (Ok (asked.Change u)) = either_so c me came _ (is_busy p.groups) _ _ tt (taken_as_so x p a (checked c x p (wish.Change u)))
  taken_so x p a (Ok (asked.Act ask)) = either_so c me came _ (is_busy p.groups && is_clear ask) _ _ tt (taken_as_so x p a (checked c x p (wish.Act ask)))
  taken_so x p a (Err e) = answering_so x p a (word_answer e)

  turn_of_so : (x : UpNode) (p : Presidency) (o : Option Proposed) (first : Option Arrived) → GoesAsking c me came x (cuts.turn_of_course c me x p o first)
  turn_of_so x p None (Some a) = taken_so x p a (request_of (version_of c) a.text)
  turn_of_so x p None None = tt
  turn_of_so x p (Some proposed) first = tt

  turn_by_so : (x : UpNode) (o : Option Presidency) → GoesAsking c me came x (cuts.turn_by_course c me x o)
  turn_by_so x None = tt
  turn_by_so x (Some p) = turn_of_so x p p.proposals.proposed (first_in p.proposals.arrived)

  one_turn_so : (x : UpNode) → GoesAsking c me came x (cuts.one_turn_course c me x)
  one_turn_so x = turn_by_so x x.presidency

  turns_so : (x : UpNode) (k : ℕ) → GoesAsking c me came x (cuts.turns_course c me x k)
  turns_so x zero = tt
  turns_so x (suc k) = then_so c me came x _ _ (turns_so x k) (λ z. one_turn_so z)

  pub handling_so : (x : UpNode) → GoesAsking c me came x (cuts.handling_course c me x)
  handling_so x = turns_so x (requests_of x x.presidency)

  kept_again_so : (x : UpNode) (from : ℕ) (o : Option Kept) → GoesAsking c me came x (cuts.kept_again_course x from o)
  kept_again_so x from None = tt
  kept_again_so x from (Some k) = (tt, tt)

  arrived_so : (x : UpNode) (p : Presidency) (a : Arrived) (how : Arrival) → GoesAsking c me came x (cuts.arrived_course c me x p a how)
  arrived_so x p a New = let s : State = with_arrival p.proposals a New in ((stays_goes c came x.requests, inl (inr (inl (refl, refl)))), handling_so (with_proposals x p s))
  arrived_so x p a Waits_already = tt
  arrived_so x p a Answered_last = kept_again_so x a.from (kept_at p.proposals.answers a.from)
  arrived_so x p a Past = tt

  arriving_so : (x : UpNode) (p : Presidency) (a : Arrived) → GoesAsking c me came x (cuts.arriving_course c me x p a)
  arriving_so x p a = arrived_so x p a (arrival_of p.proposals a.from a.number)

  requested_so : (x : UpNode) (from number : ℕ) (text : List ℕ) (o : Option Presidency) → GoesAsking c me came x (cuts.requested_course c me x from number text o)
  requested_so x from number text None = tt
  requested_so x from number text (Some p) = arriving_so x p (record { from = from; number = number; text = text })

  pub asked_so : (x : UpNode) (from e number : ℕ) (text : List ℕ) → GoesAsking c me came x (cuts.asked_course c me x from e number text)
  asked_so x from e number text = either_so c me came _ (is_of_member x from e) _ _ (requested_so x from number text x.presidency) tt

  request_to_so : (x : UpNode) (r : Request) (o : Option ℕ) → GoesAsking c me came x (cuts.request_to_course x r o)
  request_to_so x r None = tt
  request_to_so x r (Some president) = (tt, tt)

  asking_of_so : (x : UpNode) (r : Request) (o : Option Presidency) → GoesAsking c me came x (cuts.asking_of_course c me x r o)
  asking_of_so x r None = request_to_so x r (coordinator_of x)
  asking_of_so x r (Some p) = arriving_so x p (own_arrival me r)

  asking_for_so : (x : UpNode) (o : Option Request) → GoesAsking c me came x (cuts.asking_for_course c me x o)
  asking_for_so x None = tt
  asking_for_so x (Some r) = asking_of_so x r x.presidency

  asking_so : (x : UpNode) → GoesAsking c me came x (cuts.asking_course c me x)
  asking_so x = asking_for_so x (oldest x.requests)

  replying_so : (x : UpNode) (number : ℕ) (told : Answer) → GoesAsking c me came x (cuts.replying_course me number told)
  replying_so x number told = (tt, tt)

  pub asking_if_so : (alone : Bool) (x : UpNode) → GoesAsking c me came x (cuts.asking_if_course alone c me x)
  asking_if_so alone x = either_so c me came _ alone _ _ (asking_so x) tt

  waiting_so : (x : UpNode) (number : ℕ) (text : List ℕ) → number ≡ x.requests.asked → ((r : Request) → r.text ≡ text → HasWords c came r) → GoesAsking c me came x (cuts.waiting_course c me x number text)
  waiting_so x number text numbered words =
      let r : Request = record { number = number; text = text; told = true; second = x.second } in
      either_so c me came _ (is_full x.requests) _ _ (replying_so x number answer.QueueFull)
      ((joined_goes c came x.requests r numbered (λ told. words r refl), joining_needs c me x (with_request x.requests r) r refl refl), asking_if_so (is_idle x.requests.waiting) (waiting_with x number text))

  elsewhere_so : (x : UpNode) (number : ℕ) (o : Option ℕ) → GoesAsking c me came x (cuts.elsewhere_course me number o)
  elsewhere_so x number None = tt
  elsewhere_so x number (Some president) = replying_so x number (answer.Ask president)

  telling_so : (x : UpNode) (number : ℕ) (lines : List StatusEntry) → GoesAsking c me came x (cuts.telling_course me number lines)
  telling_so x number lines = (tt, replying_so x number answer.Ok)

  query_so : (x : UpNode) (p : Presidency) (number : ℕ) (s : ConfigState) (r : Result Accepted CheckError) → GoesAsking c me came x (cuts.query_course me x p number s r)
  query_so x p number s (Ok (accepted.Query q)) = telling_so x number (query_lines x p s q)
  query_so x p number s (Ok (accepted.Change u)) = tt
  query_so x p number s (Ok (accepted.Act ask)) = tt
  query_so x p number s (Err (because.Refused r)) = replying_so x number (answer.Refused r)
  query_so x p number s (Err because.NoMemory) = tt

  queried_so : (x : UpNode) (number : ℕ) (question : AdminCommand) (o : Option Presidency) → GoesAsking c me came x (cuts.queried_course c me x number question o)
  queried_so x number question None = elsewhere_so x number (coordinator_of x)
  queried_so x number question (Some p) = either_so c me came _ (is_full x.requests) _ _ (replying_so x number answer.QueueFull) (query_so x p number (in_force c x) (checked c x p question))

  commanded_so : (x : UpNode) (number : ℕ) (o : AdminCommand) → number ≡ x.requests.asked → ((r : Request) → r.text ≡ canonical_words o → HasWords c came r) → GoesAsking c me came x (cuts.commanded_course c me x number o)
  commanded_so x number (wish.Change u) is words = waiting_so x number (words_of u) is words
  commanded_so x number (wish.Act a) is words = waiting_so x number (ask_words_of a) is words
  commanded_so x number (wish.Status q) is words = queried_so x number (wish.Status q) x.presidency
  commanded_so x number (wish.Rows table) is words = queried_so x number (wish.Rows table) x.presidency

  worded_so : (x : UpNode) (number : ℕ) (r : Result AdminCommand WordError) → number ≡ x.requests.asked → ((z : Request) → canonical_in r ≡ Some z.text → HasWords c came z) → GoesAsking c me came x (cuts.worded_course c me x number r)
  worded_so x number (Err e) is words = replying_so x number (word_answer e)
  worded_so x number (Ok command) is words =
      either_so c me came _ (is_member x.seat) _ _ (commanded_so x number command is (λ z same. words z (ap Some (sym same)))) (replying_so x number answer.NotMember)

  pub command_so : (x : UpNode) (words : List ℕ) → came ≡ input.Commanded words → GoesAsking c me came x (cuts.command_course c me x words)
  command_so x words is = (
    tt,
    (
      (numbered_goes c came x.requests, inl (inr (inl (refl, refl)))),
      worded_so (numbered x) (next_number x.requests) (command_of (version_of c) words) refl (λ r text. subst (λ z. HasWords c z r) (sym is) text),
    ),
  )

  replied_to_so : (x : UpNode) (number : ℕ) (told : Answer) (o : Option Request) → found x.requests.waiting number ≡ o → GoesAsking c me came x (cuts.replied_to_course c me x number told o)
  replied_to_so x number told None is = tt
  replied_to_so x number told (Some r) is = (tt, ((answered_goes c came x.requests number, asking_needs c me x (queue.answered x.requests number) (answered_age c came x.requests x.requests.waiting number r is)), asking_so (record x { requests = queue.answered x.requests number })))

  replied_so : (x : UpNode) (number : ℕ) (o : Option Answer) → GoesAsking c me came x (cuts.replied_course c me x number o)
  replied_so x number None = tt
  replied_so x number (Some told) = replied_to_so x number told (found x.requests.waiting number) refl

  pub reply_so : (x : UpNode) (e number : ℕ) (told : Option Answer) → GoesAsking c me came x (cuts.reply_course c me x e number told)
  reply_so x e number told = either_so c me came _ (is_member x.seat && is_in x e) _ _ (replied_so x number told) tt

  preparing_so : (x : UpNode) (from e place : ℕ) (s : NodeState) (text : List ℕ) (o : Prepared) → GoesAsking c me came x (cuts.preparing_course from e place s text o)
  preparing_so x from e place s text Taken = (tt, (tt, tt))
  preparing_so x from e place s text Already = (tt, tt)
  preparing_so x from e place s text (Gap k) = tt

  pub prepare_so : (x : UpNode) (from e place : ℕ) (text : List ℕ) (seat : Seat) → GoesAsking c me came x (cuts.prepare_course x from e place text seat)
  prepare_so x from e place text (Forming s) = tt
  prepare_so x from e place text (Member s) = either_so c me came _ (is_in x e) _ _ (preparing_so _ from e place s text (answer_for (length (texts_of s.saved.entries)) place)) tt

  prepared_all_so : (x : UpNode) (p : Presidency) → GoesAsking c me came x (cuts.prepared_all_course c me x p)
  prepared_all_so x p = either_so c me came _ (is_prepared p.proposals) _ _ (then_so c me came x _ _ (acknowledging_so x) (λ z. handling_so z)) tt

  prepared_at_so : (x : UpNode) (from place : ℕ) (o : Option Presidency) → GoesAsking c me came x (cuts.prepared_at_course c me x from place o)
  prepared_at_so x from place None = tt
  prepared_at_so x from place (Some p) = let s : State = prepared_by p.proposals from place in (tt, prepared_all_so (with_proposals x p s) (record p { proposals = s }))

  pub prepared_so : (x : UpNode) (from e place : ℕ) → GoesAsking c me came x (cuts.prepared_course c me x from e place)
  prepared_so x from e place = either_so c me came _ (is_of_member x from e) _ _ (prepared_at_so x from place x.presidency) tt

  pub commit_so : (x : UpNode) (e place : ℕ) (seat : Seat) → GoesAsking c me came x (cuts.commit_course x e place seat)
  commit_so x e place (Forming s) = tt
  commit_so x e place (Member s) = either_so c me came _ (is_in x e && commits_now s place) _ _ (tt, tt) tt
