-- In each course of a request, at the president and at the node that asks, a command is answered once.
use Rattle.admin_commands.specs.declared.accepted.Accepted.{Accepted}
use Rattle.admin_commands.specs.declared.accepted.Accepted.TheVariants as accepted
use Rattle.admin_commands.specs.declared.error.CheckError.{CheckError}
use Rattle.admin_commands.specs.declared.error.CheckError.TheVariants as because
use Rattle.admin_commands.specs.Answers.{rows_of}
use Rattle.admin_words.specs.Commands.{request_of}
use Rattle.attempt_laws.proofs.Walk.{if_with}
use Rattle.ccr_tables.specs.Updates.{table_named}
use Rattle.cl_base.specs.declared.command.Table.{Table}
use Rattle.cmm_attempt.proofs.Basics.{false_true}
use Rattle.admin_words.specs.declared.error.WordError.{WordError}
use Rattle.admin_words.specs.declared.request.Request.TheVariants as asked
use Rattle.admin_words.specs.declared.request.Request as wanted
use Rattle.ccr_tables.specs.State.{ConfigState}
use Rattle.ccr_tables.specs.declared.command.AdminCommand.{AdminCommand}
use Rattle.ccr_tables.specs.declared.command.AdminCommand.TheVariants as wish
use Rattle.cl_base.specs.declared.command.Ask.{Ask}
use Rattle.proposals.specs.Arrivals.{arrival_of, with_arrival}
use Rattle.proposals.specs.State.{first_in, kept_at}
use Rattle.proposals.specs.declared.arrived.Arrival.{Arrival}
use Rattle.proposals.specs.declared.arrived.Arrival.TheVariants.{New, Waits as Waits_already, Answered as Answered_last, Past}
use Rattle.proposals.specs.declared.arrived.Arrived.{Arrived}
use Rattle.proposals.specs.declared.arrived.Kept.{Kept}
use Rattle.proposals.specs.declared.arrived.Proposed.{Proposed}
use Rattle.request_queue.specs.Queue.{is_full, oldest}
use Rattle.request_queue.specs.declared.request.Request.{Request}
use Rattle.status_report.specs.declared.command_entry.Answer.{Answer}
use Rattle.status_report.specs.declared.command_entry.Answer.TheVariants as answer
use Rattle.status_report.specs.declared.status_entry.StatusEntry.{StatusEntry}
use Rattle.update_words.specs.Words.{ask_words_of, words_of}
use Rattle.node_model.specs.declared.cluster.Cluster.{Cluster}
use Rattle.node_model.specs.declared.node.UpNode.{UpNode}
use Rattle.node_model.specs.declared.presidency.Presidency.{Presidency}
use Rattle.node_model.specs.Configurations.{in_force}
use Rattle.node_model.specs.Deciding.{may_order}
use Rattle.node_model.specs.Presidents.{checked, is_busy, is_clear, others_of, own_arrival, proposed_by, query_lines, requests_of, with_act, with_proposals, word_answer}
use Rattle.node_model.specs.Requests.{is_idle, waiting_with}
use Rattle.node_model.specs.Updates.{is_of_member}
use Rattle.refinement.specs.Courses.{Course}
use Rattle.refinement.specs.Cuts as cuts
use Rattle.refinement.specs.Cuts.{acks_of, first_turn, left_answered}
use Rattle.node_model.specs.Seats.{coordinator_of, is_member, record_of, version_of}
use Rattle.refinement.specs.Doings.{changed}
use Rattle.std.specs.Prelude.{ℕ, zero, suc, ◌≡◌, ◌==◌, ◌&&◌, Bool, true, false, List, Option, None, Some, Result, Ok, Err, is_some, if◌then◌else◌}
use Rattle.std.proofs.Common.{refl, inr}
use Rattle.node_model.specs.Presidents.{answer_given, orders_for}
use Rattle.refinement.specs.Cuts.{queue_by}
use Rattle.run_commands.specs.Guards.{GoesSo, IsLed}
use Rattle.run_commands.specs.Guards.Hand.{Free, Held}
use Rattle.run_commands.specs.Guards.Move.{Joins}
use Rattle.run_commands.proofs.Asides.{Frees, Turns, given_frees, given_turns, lines_quiet, orders_quiet, quiet_gives}
use Rattle.run_commands.proofs.Forming.{deciding_so, either_so, then_so, unmoved}

-- a query is accepted as one, or refused
abbrev pub IsOfQuery : Result Accepted CheckError → Type 0
IsOfQuery (Ok (accepted.Query q)) = Unit {0}
IsOfQuery (Ok (accepted.Change u)) = ⊥
IsOfQuery (Ok (accepted.Act ask)) = ⊥
IsOfQuery (Err (because.Refused r)) = Unit {0}
IsOfQuery (Err because.NoMemory) = ⊥

pub rows_of_query : (o : Option Table) (name : List ℕ) → IsOfQuery (rows_of o name)
rows_of_query None name = tt
rows_of_query (Some table) name = tt

module _ (c : Cluster) (me : ℕ) where
  -- no command waits but those whose requests are in the queue, before the course and after it
  abbrev G : UpNode → Course → Type 0
  G x k = GoesSo c me Free x k

  answering_so : (x : UpNode) (p : Presidency) (a : Arrived) (told : Answer) → G x (cuts.answering_course c me x p a told)
  answering_so x p a told =
      let t : Turns me x.requests.waiting (answer_given me x a told) x.requests.asked (queue_by me x a) = given_turns me x a told in
      (t.after, t.gives, (Free, record { move = t.move; waiting = t.waiting_so; asked = t.asked_so; may = t.may }, deciding_so c me (left_answered me x p a told)))

  acknowledged_so : (x : UpNode) (p : Presidency) (a : Arrived) (text : List ℕ) → G x (cuts.acknowledged_course c me x p a text)
  acknowledged_so x p a text =
      let f : Frees me x.requests.waiting x.requests.asked (queue_by me x a) (answer_given me x a answer.Ok) = given_frees me x a answer.Ok in (
        f.after,
        record { move = f.move; waiting = f.waiting_so; asked = f.asked_so; may = f.may },
        (f.after, refl, (Free, f.gives (changed c me x (acks_of c me x p a text)).requests.waiting, deciding_so c me (changed c me x (acks_of c me x p a text)))),
      )

  acknowledging_text_so : (x : UpNode) (p : Presidency) (o : Option Arrived) (text : Option (List ℕ)) → G x (cuts.acknowledging_text_course c me x p o text)
  acknowledging_text_so x p (Some a) (Some text) = acknowledged_so x p a text
  acknowledging_text_so x p None text = tt
  acknowledging_text_so x p (Some a) None = tt

  acknowledging_by_so : (x : UpNode) (o : Option Presidency) → G x (cuts.acknowledging_by_course c me x o)
  acknowledging_by_so x None = tt
  acknowledging_by_so x (Some p) = acknowledging_text_so x p (first_in p.proposals.arrived) (record_of x).entries.pending

  pub acknowledging_so : (x : UpNode) → G x (cuts.acknowledging_course c me x)
  acknowledging_so x = acknowledging_by_so x x.presidency

  proposing_so : (x : UpNode) (p : Presidency) (text : List ℕ) → G x (cuts.proposing_course c me x p text)
  proposing_so x p text =
      (Free, (refl, refl), (Free, refl, either_so c me (proposed_by c me x p text) (others_of me x == 0) _ _ (acknowledging_so (proposed_by c me x p text)) tt))

  acting_so : (x : UpNode) (p : Presidency) (a : Arrived) (ask : Ask) → G x (cuts.acting_course c me x p a ask)
  acting_so x p a ask =
      either_so c me x (may_order p.groups) _ _ (Free, quiet_gives me Free x.requests.waiting _ (orders_quiet me (orders_for p.groups ask)), answering_so x (with_act c me x p a ask) a answer.Ok) tt

  taken_as_so : (x : UpNode) (p : Presidency) (a : Arrived) (r : Result Accepted CheckError) → G x (cuts.taken_as_course c me x p a r)
  taken_as_so x p a (Ok (accepted.Change u)) = proposing_so x p (words_of u)
  taken_as_so x p a (Ok (accepted.Act ask)) = acting_so x p a ask
  taken_as_so x p a (Ok (accepted.Query q)) = answering_so x p a answer.Ok
  taken_as_so x p a (Err (because.Refused r)) = answering_so x p a (answer.Refused r)
  taken_as_so x p a (Err because.NoMemory) = tt

  taken_so : (x : UpNode) (p : Presidency) (a : Arrived) (r : Result wanted.Request WordError) → G x (cuts.taken_course c me x p a r)
  taken_so x p a (Ok (asked.Change u)) = either_so c me x (is_busy p.groups) _ _ tt (taken_as_so x p a (checked c x p (wish.Change u)))
  taken_so x p a (Ok (asked.Act ask)) = either_so c me x (is_busy p.groups && is_clear ask) _ _ tt (taken_as_so x p a (checked c x p (wish.Act ask)))
  taken_so x p a (Err e) = answering_so x p a (word_answer e)

  turn_of_so : (x : UpNode) (p : Presidency) (o : Option Proposed) (first : Option Arrived) → G x (cuts.turn_of_course c me x p o first)
  turn_of_so x p None (Some a) = taken_so x p a (request_of (version_of c) a.text)
  turn_of_so x p None None = tt
  turn_of_so x p (Some proposed) first = tt

  turn_by_so : (x : UpNode) (o : Option Presidency) → G x (cuts.turn_by_course c me x o)
  turn_by_so x None = tt
  turn_by_so x (Some p) = turn_of_so x p p.proposals.proposed (first_in p.proposals.arrived)

  one_turn_so : (x : UpNode) → G x (cuts.one_turn_course c me x)
  one_turn_so x = turn_by_so x x.presidency

  turns_so : (x : UpNode) (k : ℕ) → G x (cuts.turns_course c me x k)
  turns_so x zero = tt
  turns_so x (suc k) = then_so c me x _ _ (turns_so x k) (λ z. one_turn_so z)

  pub handling_so : (x : UpNode) → G x (cuts.handling_course c me x)
  handling_so x = turns_so x (requests_of x x.presidency)

  kept_again_so : (x : UpNode) (from : ℕ) (o : Option Kept) → G x (cuts.kept_again_course x from o)
  kept_again_so x from None = tt
  kept_again_so x from (Some k) = (Free, refl, tt)

  arrived_so : (x : UpNode) (p : Presidency) (a : Arrived) (how : Arrival) → G x (cuts.arrived_course c me x p a how)
  arrived_so x p a New = (Free, unmoved x, handling_so (with_proposals x p (with_arrival p.proposals a New)))
  arrived_so x p a Waits_already = tt
  arrived_so x p a Answered_last = kept_again_so x a.from (kept_at p.proposals.answers a.from)
  arrived_so x p a Past = tt

  arriving_so : (x : UpNode) (p : Presidency) (a : Arrived) → G x (cuts.arriving_course c me x p a)
  arriving_so x p a = arrived_so x p a (arrival_of p.proposals a.from a.number)

  requested_so : (x : UpNode) (from number : ℕ) (text : List ℕ) (o : Option Presidency) → G x (cuts.requested_course c me x from number text o)
  requested_so x from number text None = tt
  requested_so x from number text (Some p) = arriving_so x p (record { from = from; number = number; text = text })

  pub asked_so : (x : UpNode) (from e number : ℕ) (text : List ℕ) → G x (cuts.asked_course c me x from e number text)
  asked_so x from e number text = either_so c me x (is_of_member x from e) _ _ (requested_so x from number text x.presidency) tt

  -- Requests at the node that asks.

  request_to_so : (x : UpNode) (r : Request) (o : Option ℕ) → G x (cuts.request_to_course x r o)
  request_to_so x r None = tt
  request_to_so x r (Some president) = (Free, refl, tt)

  asking_of_so : (x : UpNode) (r : Request) (o : Option Presidency) → G x (cuts.asking_of_course c me x r o)
  asking_of_so x r None = request_to_so x r (coordinator_of x)
  asking_of_so x r (Some p) = arriving_so x p (own_arrival me r)

  asking_for_so : (x : UpNode) (o : Option Request) → G x (cuts.asking_for_course c me x o)
  asking_for_so x None = tt
  asking_for_so x (Some r) = asking_of_so x r x.presidency

  pub asking_so : (x : UpNode) → G x (cuts.asking_course c me x)
  asking_so x = asking_for_so x (oldest x.requests)

  pub asking_if_so : (alone : Bool) (x : UpNode) → G x (cuts.asking_if_course alone c me x)
  asking_if_so alone x = either_so c me x alone _ _ (asking_so x) tt

  -- A command that came: it is answered, or gets its request.

  abbrev W : ℕ → UpNode → Course → Type 0
  W q x k = GoesSo c me (Held q) x k

  either_held : (q : ℕ) (x : UpNode) (b : Bool) (k l : Course) → W q x k → W q x l → W q x (if b then k else l)
  either_held q x true k l g h = g
  either_held q x false k l g h = h

  replying_so : (x : UpNode) (number : ℕ) (told : Answer) → W number x (cuts.replying_course me number told)
  replying_so x number told = (Free, inr (record { number = number; reply = told; is = refl; may = (refl, refl) }), tt)

  pub waiting_so : (x : UpNode) (number : ℕ) (text : List ℕ) → W number x (cuts.waiting_course c me x number text)
  waiting_so x number text =
      either_held number x (is_full x.requests) _ _ (replying_so x number answer.QueueFull) (
        Free,
        record { move = Joins (record { number = number; text = text; told = true; second = x.second }); waiting = refl; asked = refl; may = (refl, refl, refl) },
        asking_if_so (is_idle x.requests.waiting) (waiting_with x number text),
      )

  elsewhere_so : (x : UpNode) (number : ℕ) (o : Option ℕ) → is_some o ≡ true → W number x (cuts.elsewhere_course me number o)
  elsewhere_so x number None some = absurd (false_true some)
  elsewhere_so x number (Some president) some = replying_so x number (answer.Ask president)

  telling_so : (x : UpNode) (number : ℕ) (lines : List StatusEntry) → W number x (cuts.telling_course me number lines)
  telling_so x number lines = (Held number, quiet_gives me (Held number) x.requests.waiting _ (lines_quiet lines), replying_so x number answer.Ok)

  query_so : (x : UpNode) (p : Presidency) (number : ℕ) (s : ConfigState) (r : Result Accepted CheckError) → IsOfQuery r → W number x (cuts.query_course me x p number s r)
  query_so x p number s (Ok (accepted.Query q)) of = telling_so x number (query_lines x p s q)
  query_so x p number s (Ok (accepted.Change u)) of = absurd of
  query_so x p number s (Ok (accepted.Act ask)) of = absurd of
  query_so x p number s (Err (because.Refused r)) of = replying_so x number (answer.Refused r)
  query_so x p number s (Err because.NoMemory) of = absurd of

  queried_so : (x : UpNode) (number : ℕ) (question : AdminCommand) (o : Option Presidency) → is_some (coordinator_of x) ≡ true
      → ((p : Presidency) → IsOfQuery (checked c x p question)) → W number x (cuts.queried_course c me x number question o)
  queried_so x number question None some of = elsewhere_so x number (coordinator_of x) some
  queried_so x number question (Some p) some of =
      either_held number x (is_full x.requests) _ _ (replying_so x number answer.QueueFull) (query_so x p number (in_force c x) (checked c x p question) (of p))

  commanded_so : (x : UpNode) (number : ℕ) (o : AdminCommand) → is_some (coordinator_of x) ≡ true → W number x (cuts.commanded_course c me x number o)
  commanded_so x number (wish.Change u) some = waiting_so x number (words_of u)
  commanded_so x number (wish.Act a) some = waiting_so x number (ask_words_of a)
  commanded_so x number (wish.Status q) some = queried_so x number (wish.Status q) x.presidency some (λ p. tt)
  commanded_so x number (wish.Rows table) some =
      queried_so x number (wish.Rows table) x.presidency some (λ p. rows_of_query (table_named (in_force c x).groups.version table) table)

  pub worded_so : (x : UpNode) (number : ℕ) (r : Result AdminCommand WordError) → IsLed x → W number x (cuts.worded_course c me x number r)
  worded_so x number (Err e) led = replying_so x number (word_answer e)
  worded_so x number (Ok command) led =
      if_with (λ z. W number x z) (is_member x.seat) (is_member x.seat) _ _ refl (λ is. commanded_so x number command (led is)) (λ is. replying_so x number answer.NotMember)
