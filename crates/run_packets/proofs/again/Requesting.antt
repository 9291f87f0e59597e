-- What a node does with requests and their answers: its own are sent as they become the oldest, and an Answer takes the oldest away.
use Rattle.admin_commands.specs.declared.accepted.Accepted.{Accepted}
use Rattle.admin_commands.specs.declared.accepted.Accepted.TheVariants as accepted
use Rattle.admin_commands.specs.declared.error.CheckError.{CheckError}
use Rattle.admin_commands.specs.declared.error.CheckError.TheVariants as because
use Rattle.admin_words.specs.Commands.{command_of, request_of}
use Rattle.admin_words.specs.declared.error.WordError.{WordError}
use Rattle.admin_words.specs.declared.request.Request.TheVariants as asked
use Rattle.admin_words.specs.declared.request.Request as wanted
use Rattle.ccr_commit.specs.Entries.{answer_for, texts_of}
use Rattle.ccr_commit.specs.declared.entries.Prepared.{Prepared}
use Rattle.ccr_commit.specs.declared.entries.Prepared.TheVariants.{Taken, Already, Gap}
use Rattle.ccr_tables.specs.State.{ConfigState}
use Rattle.ccr_tables.specs.declared.command.AdminCommand.{AdminCommand}
use Rattle.ccr_tables.specs.declared.command.AdminCommand.TheVariants as wish
use Rattle.cl_base.specs.declared.command.Ask.{Ask}
use Rattle.cmm_member.specs.Nodes.{NodeState}
use Rattle.proposals.specs.Arrivals.{arrival_of, with_arrival}
use Rattle.proposals.specs.Proposing.{is_prepared, prepared_by}
use Rattle.proposals.specs.State.{State, first_in, kept_at}
use Rattle.proposals.specs.declared.arrived.Arrival.{Arrival}
use Rattle.proposals.specs.declared.arrived.Arrival.TheVariants.{New, Waits as Waits_already, Answered as Answered_last, Past}
use Rattle.proposals.specs.declared.arrived.Arrived.{Arrived}
use Rattle.proposals.specs.declared.arrived.Kept.{Kept}
use Rattle.proposals.specs.declared.arrived.Proposed.{Proposed}
use Rattle.request_queue.specs.Queue as queue
use Rattle.request_queue.specs.Queue.{found, is_full, next_number, oldest, with_request}
use Rattle.request_queue.specs.declared.request.Request.{Request}
use Rattle.status_report.specs.declared.command_entry.Answer.{Answer}
use Rattle.status_report.specs.declared.command_entry.Answer.TheVariants as answer
use Rattle.status_report.specs.declared.status_entry.StatusEntry.{StatusEntry}
use Rattle.update_words.specs.Words.{ask_words_of, words_of}
use Rattle.node_model.specs.declared.cluster.Cluster.{Cluster}
use Rattle.node_model.specs.declared.node.UpNode.{UpNode}
use Rattle.node_model.specs.declared.presidency.Presidency.{Presidency}
use Rattle.node_model.specs.declared.seat.Seat.{Seat}
use Rattle.node_model.specs.declared.seat.Seat.TheVariants.{Forming, Member}
use Rattle.node_model.specs.Configurations.{in_force}
use Rattle.node_model.specs.Deciding.{may_order}
use Rattle.node_model.specs.Presidents.{checked, is_busy, is_clear, orders_for, others_of, own_arrival, proposed_by, query_lines, requests_of, with_act, with_proposals, word_answer}
use Rattle.node_model.specs.Requests.{is_idle, numbered, waiting_with}
use Rattle.node_model.specs.Updates.{commits_now, is_of_member}
use Rattle.refinement.specs.Cuts as cuts
use Rattle.refinement.specs.Cuts.{acks_of, left_answered}
use Rattle.refinement.specs.Courses.{Course}
use Rattle.refinement.specs.Courses.Course.{Stops}
use Rattle.attempt_laws.proofs.Walk.{if_with}
use Rattle.cmm_attempt.proofs.Basics.{and_cases, same_number}
use Rattle.std.specs.Prelude.{ℕ, zero, suc, ◌==◌, ◌&&◌, ◌≡◌, nat_le, Bool, true, false, List, length, Option, None, Some, Result, Ok, Err, is_some}
use Rattle.std.proofs.Common.{refl, ap, sym, subst, inl, inr}
use Rattle.node_model.specs.Seats.{coordinator_of, is_in, is_member, record_of, session_of, version_of}
use Rattle.refinement.specs.Doings.{changed}
use Rattle.node_model.specs.declared.input.Input.TheVariants as input
use Rattle.run_packets.specs.again.Asking.{GoesAgain, Heard}
use Rattle.run_packets.proofs.again.Asides.{given_none, lines_none, orders_none, own_none}
use Rattle.run_packets.proofs.again.Attempting.{deciding_so, either_so, then_so}
use Rattle.run_packets.proofs.again.Queues.{answered_so, idle_age, joins_so}
use Rattle.run_packets.proofs.waiting.Queues.{answered_age}

module _ (c : Cluster) (me : ℕ) (heard : Option Heard) where
  abbrev G : UpNode → Course → Type 0
  G x k = GoesAgain c me heard x k

  -- a node that presides
  presides : (o : Option Presidency) (p : Presidency) → o ≡ Some p → is_some o ≡ true
  presides o p is = ap is_some is

  answering_so : (x : UpNode) (p r : Presidency) (a : Arrived) (told : Answer) → x.presidency ≡ Some r → G x (cuts.answering_course c me x p a told)
  answering_so x p r a told is = (given_none me x a told, (inl (presides x.presidency r is), deciding_so c me heard (left_answered me x p a told)))

  acknowledged_so : (x : UpNode) (p : Presidency) (a : Arrived) (text : List ℕ) → G x (cuts.acknowledged_course c me x p a text)
  acknowledged_so x p a text = (tt, (tt, (given_none me x a answer.Ok, deciding_so c me heard (changed c me x (acks_of c me x p a text)))))

  acknowledging_text_so : (x : UpNode) (p : Presidency) (o : Option Arrived) (text : Option (List ℕ)) → G x (cuts.acknowledging_text_course c me x p o text)
  acknowledging_text_so x p (Some a) (Some text) = acknowledged_so x p a text
  acknowledging_text_so x p None text = tt
  acknowledging_text_so x p (Some a) None = tt

  acknowledging_by_so : (x : UpNode) (o : Option Presidency) → G x (cuts.acknowledging_by_course c me x o)
  acknowledging_by_so x None = tt
  acknowledging_by_so x (Some p) = acknowledging_text_so x p (first_in p.proposals.arrived) (record_of x).entries.pending

  acknowledging_so : (x : UpNode) → G x (cuts.acknowledging_course c me x)
  acknowledging_so x = acknowledging_by_so x x.presidency

  proposing_so : (x : UpNode) (p : Presidency) (text : List ℕ) → G x (cuts.proposing_course c me x p text)
  proposing_so x p text = (tt, (tt, either_so c me heard _ (others_of me x == 0) _ _ (acknowledging_so (proposed_by c me x p text)) tt))

  acting_so : (x : UpNode) (p : Presidency) (a : Arrived) (ask : Ask) → x.presidency ≡ Some p → G x (cuts.acting_course c me x p a ask)
  acting_so x p a ask is = either_so c me heard _ (may_order p.groups) _ _ (orders_none me (orders_for p.groups ask), answering_so x (with_act c me x p a ask) p a answer.Ok is) tt

  taken_as_so : (x : UpNode) (p : Presidency) (a : Arrived) (r : Result Accepted CheckError) → x.presidency ≡ Some p → G x (cuts.taken_as_course c me x p a r)
  taken_as_so x p a (Ok (accepted.Change u)) is = proposing_so x p (words_of u)
  taken_as_so x p a (Ok (accepted.Act ask)) is = acting_so x p a ask is
  taken_as_so x p a (Ok (accepted.Query q)) is = answering_so x p p a answer.Ok is
  taken_as_so x p a (Err (because.Refused r)) is = answering_so x p p a (answer.Refused r) is
  taken_as_so x p a (Err because.NoMemory) is = tt

  taken_so : (x : UpNode) (p : Presidency) (a : Arrived) (r : Result wanted.Request WordError) → x.presidency ≡ Some p → G x (cuts.taken_course c me x p a r)
  taken_so x p a (Ok (asked.Change u)) is = either_so c me heard _ (is_busy p.groups) _ _ tt (taken_as_so x p a (checked c x p (wish.Change u)) is)
  taken_so x p a (Ok (asked.Act ask)) is = either_so c me heard _ (is_busy p.groups && is_clear ask) _ _ tt (taken_as_so x p a (checked c x p (wish.Act ask)) is)
  taken_so x p a (Err e) is = answering_so x p p a (word_answer e) is

  turn_of_so : (x : UpNode) (p : Presidency) (o : Option Proposed) (first : Option Arrived) → x.presidency ≡ Some p → G x (cuts.turn_of_course c me x p o first)
  turn_of_so x p None (Some a) is = taken_so x p a (request_of (version_of c) a.text) is
  turn_of_so x p None None is = tt
  turn_of_so x p (Some proposed) first is = tt

  turn_by_so : (x : UpNode) (o : Option Presidency) → x.presidency ≡ o → G x (cuts.turn_by_course c me x o)
  turn_by_so x None is = tt
  turn_by_so x (Some p) is = turn_of_so x p p.proposals.proposed (first_in p.proposals.arrived) is

  one_turn_so : (x : UpNode) → G x (cuts.one_turn_course c me x)
  one_turn_so x = turn_by_so x x.presidency refl

  turns_so : (x : UpNode) (k : ℕ) → G x (cuts.turns_course c me x k)
  turns_so x zero = tt
  turns_so x (suc k) = then_so c me heard x _ _ (turns_so x k) (λ z. one_turn_so z)

  pub handling_so : (x : UpNode) → G x (cuts.handling_course c me x)
  handling_so x = turns_so x (requests_of x x.presidency)

  kept_again_so : (x : UpNode) (from : ℕ) (o : Option Kept) → G x (cuts.kept_again_course x from o)
  kept_again_so x from None = tt
  kept_again_so x from (Some k) = (tt, tt)

  arrived_so : (x : UpNode) (p : Presidency) (a : Arrived) (how : Arrival) → x.presidency ≡ Some p → G x (cuts.arrived_course c me x p a how)
  arrived_so x p a New is = let s : State = with_arrival p.proposals a New in (inr (inl (refl, refl)), handling_so (with_proposals x p s))
  arrived_so x p a Waits_already is = tt
  arrived_so x p a Answered_last is = kept_again_so x a.from (kept_at p.proposals.answers a.from)
  arrived_so x p a Past is = tt

  arriving_so : (x : UpNode) (p : Presidency) (a : Arrived) → x.presidency ≡ Some p → G x (cuts.arriving_course c me x p a)
  arriving_so x p a is = arrived_so x p a (arrival_of p.proposals a.from a.number) is

  requested_so : (x : UpNode) (from number : ℕ) (text : List ℕ) (o : Option Presidency) → x.presidency ≡ o → G x (cuts.requested_course c me x from number text o)
  requested_so x from number text None is = tt
  requested_so x from number text (Some p) is = arriving_so x p (record { from = from; number = number; text = text }) is

  pub asked_so : (x : UpNode) (from e number : ℕ) (text : List ℕ) → G x (cuts.asked_course c me x from e number text)
  asked_so x from e number text = either_so c me heard _ (is_of_member x from e) _ _ (requested_so x from number text x.presidency refl) tt

  request_to_so : (x : UpNode) (r : Request) (o : Option ℕ) → oldest x.requests ≡ Some r → x.requests.age ≡ 0 → x.presidency ≡ None → coordinator_of x ≡ o → G x (cuts.request_to_course x r o)
  request_to_so x r None first fresh none leads = tt
  request_to_so x r (Some president) first fresh none leads = (((r, first, leads, refl, fresh), none), tt)

  asking_of_so : (x : UpNode) (r : Request) (o : Option Presidency) → oldest x.requests ≡ Some r → x.requests.age ≡ 0 → x.presidency ≡ o → G x (cuts.asking_of_course c me x r o)
  asking_of_so x r None first fresh is = request_to_so x r (coordinator_of x) first fresh is refl
  asking_of_so x r (Some p) first fresh is = arriving_so x p (own_arrival me r) is

  asking_for_so : (x : UpNode) (o : Option Request) → oldest x.requests ≡ o → x.requests.age ≡ 0 → G x (cuts.asking_for_course c me x o)
  asking_for_so x None first fresh = tt
  asking_for_so x (Some r) first fresh = asking_of_so x r x.presidency first fresh refl

  -- the oldest is no tick old
  asking_so : (x : UpNode) → x.requests.age ≡ 0 → G x (cuts.asking_course c me x)
  asking_so x fresh = asking_for_so x (oldest x.requests) refl fresh

  replying_so : (x : UpNode) (number : ℕ) (told : Answer) → G x (cuts.replying_course me number told)
  replying_so x number told = ((tt, tt), tt)

  pub asking_if_so : (alone : Bool) (x : UpNode) → (alone ≡ true → x.requests.age ≡ 0) → G x (cuts.asking_if_course alone c me x)
  asking_if_so true x fresh = asking_so x (fresh refl)
  asking_if_so false x fresh = tt

  waiting_so : (x : UpNode) (number : ℕ) (text : List ℕ) → G x (cuts.waiting_course c me x number text)
  waiting_so x number text = either_so c me heard _ (is_full x.requests) _ _ (replying_so x number answer.QueueFull) (joins_so heard x (with_request x.requests (record { number = number; text = text; told = true; second = x.second })) (record { number = number; text = text; told = true; second = x.second }) refl refl, asking_if_so (is_idle x.requests.waiting) (waiting_with x number text) (idle_age x.requests.waiting x.requests.age))

  elsewhere_so : (x : UpNode) (number : ℕ) (o : Option ℕ) → G x (cuts.elsewhere_course me number o)
  elsewhere_so x number None = tt
  elsewhere_so x number (Some president) = replying_so x number (answer.Ask president)

  telling_so : (x : UpNode) (number : ℕ) (lines : List StatusEntry) → G x (cuts.telling_course me number lines)
  telling_so x number lines = (lines_none lines, replying_so x number answer.Ok)

  query_so : (x : UpNode) (p : Presidency) (number : ℕ) (s : ConfigState) (r : Result Accepted CheckError) → G x (cuts.query_course me x p number s r)
  query_so x p number s (Ok (accepted.Query q)) = telling_so x number (query_lines x p s q)
  query_so x p number s (Ok (accepted.Change u)) = tt
  query_so x p number s (Ok (accepted.Act ask)) = tt
  query_so x p number s (Err (because.Refused r)) = replying_so x number (answer.Refused r)
  query_so x p number s (Err because.NoMemory) = tt

  queried_so : (x : UpNode) (number : ℕ) (question : AdminCommand) (o : Option Presidency) → G x (cuts.queried_course c me x number question o)
  queried_so x number question None = elsewhere_so x number (coordinator_of x)
  queried_so x number question (Some p) = either_so c me heard _ (is_full x.requests) _ _ (replying_so x number answer.QueueFull) (query_so x p number (in_force c x) (checked c x p question))

  commanded_so : (x : UpNode) (number : ℕ) (o : AdminCommand) → G x (cuts.commanded_course c me x number o)
  commanded_so x number (wish.Change u) = waiting_so x number (words_of u)
  commanded_so x number (wish.Act a) = waiting_so x number (ask_words_of a)
  commanded_so x number (wish.Status q) = queried_so x number (wish.Status q) x.presidency
  commanded_so x number (wish.Rows table) = queried_so x number (wish.Rows table) x.presidency

  pub worded_so : (x : UpNode) (number : ℕ) (r : Result AdminCommand WordError) → G x (cuts.worded_course c me x number r)
  worded_so x number (Err e) = replying_so x number (word_answer e)
  worded_so x number (Ok command) = either_so c me heard _ (is_member x.seat) _ _ (commanded_so x number command) (replying_so x number answer.NotMember)

  pub command_so : (x : UpNode) (words : List ℕ) → G x (cuts.command_course c me x words)
  command_so x words = ((tt, tt), (inr (inl (refl, refl)), worded_so (numbered x) (next_number x.requests) (command_of (version_of c) words)))

  replied_to_so : (x : UpNode) (number : ℕ) (told : Answer) (o : Option Request) → found x.requests.waiting number ≡ o → heard ≡ Some (record { epoch = session_of x; number = number })
      → G x (cuts.replied_to_course c me x number told o)
  replied_to_so x number told None is came = tt
  replied_to_so x number told (Some r) is came = (
    own_none me told (Some r),
    (answered_so heard x number r is came, asking_so (record x { requests = queue.answered x.requests number }) (answered_age c input.Boot x.requests x.requests.waiting number r is)),
  )

  replied_so : (x : UpNode) (number : ℕ) (o : Option Answer) → heard ≡ Some (record { epoch = session_of x; number = number }) → G x (cuts.replied_course c me x number o)
  replied_so x number None came = tt
  replied_so x number (Some told) came = replied_to_so x number told (found x.requests.waiting number) refl came

  -- it is of the session of this node
  same_session : (x : UpNode) (e number : ℕ) → (is_member x.seat && is_in x e) ≡ true → heard ≡ Some (record { epoch = e; number = number }) → heard ≡ Some (record { epoch = session_of x; number = number })
  same_session x e number here came =
      let inside : is_in x e ≡ true = (and_cases (is_member x.seat) (is_in x e) here).1 in
      subst (λ k. heard ≡ Some (record { epoch = k; number = number })) (sym (same_number (session_of x) e (and_cases (nat_le 1 e) (session_of x == e) inside).1)) came

  pub reply_so : (x : UpNode) (e number : ℕ) (told : Option Answer) → heard ≡ Some (record { epoch = e; number = number }) → G x (cuts.reply_course c me x e number told)
  reply_so x e number told came =
      if_with (λ z. G x z) (is_member x.seat && is_in x e) (is_member x.seat && is_in x e) (cuts.replied_course c me x number told) Stops refl
      (λ here. replied_so x number told (same_session x e number here came)) (λ other. tt)

  preparing_so : (x : UpNode) (from e place : ℕ) (s : NodeState) (text : List ℕ) (o : Prepared) → G x (cuts.preparing_course from e place s text o)
  preparing_so x from e place s text Taken = (tt, (tt, tt))
  preparing_so x from e place s text Already = (tt, tt)
  preparing_so x from e place s text (Gap k) = tt

  pub prepare_so : (x : UpNode) (from e place : ℕ) (text : List ℕ) (seat : Seat) → G x (cuts.prepare_course x from e place text seat)
  prepare_so x from e place text (Forming s) = tt
  prepare_so x from e place text (Member s) = either_so c me heard _ (is_in x e) _ _ (preparing_so _ from e place s text (answer_for (length (texts_of s.saved.entries)) place)) tt

  prepared_all_so : (x : UpNode) (p : Presidency) → G x (cuts.prepared_all_course c me x p)
  prepared_all_so x p = either_so c me heard _ (is_prepared p.proposals) _ _ (then_so c me heard x _ _ (acknowledging_so x) (λ z. handling_so z)) tt

  prepared_at_so : (x : UpNode) (from place : ℕ) (o : Option Presidency) → G x (cuts.prepared_at_course c me x from place o)
  prepared_at_so x from place None = tt
  prepared_at_so x from place (Some p) = let s : State = prepared_by p.proposals from place in (tt, prepared_all_so (with_proposals x p s) (record p { proposals = s }))

  pub prepared_so : (x : UpNode) (from e place : ℕ) → G x (cuts.prepared_course c me x from e place)
  prepared_so x from e place = either_so c me heard _ (is_of_member x from e) _ _ (prepared_at_so x from place x.presidency) tt

  pub commit_so : (x : UpNode) (e place : ℕ) (seat : Seat) → G x (cuts.commit_course x e place seat)
  commit_so x e place (Forming s) = tt
  commit_so x e place (Member s) = either_so c me heard _ (is_in x e && commits_now s place) _ _ (tt, tt) tt
