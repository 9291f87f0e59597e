-- In each course of a request what the node keeps stays read, and it answers as president, or by itself with its cause.
use Rattle.admin_commands.specs.declared.accepted.Accepted.{Accepted}
use Rattle.admin_commands.specs.declared.accepted.Accepted.TheVariants as accepted
use Rattle.admin_commands.specs.declared.error.CheckError.{CheckError}
use Rattle.admin_commands.specs.declared.error.CheckError.TheVariants as because
use Rattle.admin_words.specs.Commands.{request_of}
use Rattle.admin_words.specs.declared.error.WordError.{WordError}
use Rattle.admin_words.specs.declared.request.Request.TheVariants as asked
use Rattle.admin_words.specs.declared.request.Request as wanted
use Rattle.ccr_tables.specs.State.{ConfigState}
use Rattle.ccr_tables.specs.declared.command.AdminCommand.{AdminCommand}
use Rattle.ccr_tables.specs.declared.command.AdminCommand.TheVariants as wish
use Rattle.cl_base.specs.declared.command.Ask.{Ask}
use Rattle.cmm_attempt.proofs.Basics.{false_true}
use Rattle.proposals.specs.Arrivals.{arrival_of, with_arrival}
use Rattle.proposals.specs.State.{first_in, kept_at}
use Rattle.proposals.specs.declared.arrived.Arrival.{Arrival}
use Rattle.proposals.specs.declared.arrived.Arrival.TheVariants.{New, Waits as Waits_already, Answered as Answered_last, Past}
use Rattle.proposals.specs.declared.arrived.Arrived.{Arrived}
use Rattle.proposals.specs.declared.arrived.Kept.{Kept}
use Rattle.proposals.specs.declared.arrived.Proposed.{Proposed}
use Rattle.request_queue.specs.Queue.{is_full, oldest}
use Rattle.request_queue.specs.declared.request.Request.{Request}
use Rattle.status_report.specs.declared.command_entry.Answer.{Answer}
use Rattle.status_report.specs.declared.command_entry.Answer.TheVariants as answer
use Rattle.status_report.specs.declared.status_entry.StatusEntry.{StatusEntry}
use Rattle.update_words.specs.Words.{ask_words_of, words_of}
use Rattle.node_model.specs.declared.cluster.Cluster.{Cluster}
use Rattle.node_model.specs.declared.input.Input.{Input}
use Rattle.node_model.specs.declared.node.UpNode.{UpNode}
use Rattle.node_model.specs.declared.presidency.Presidency.{Presidency}
use Rattle.node_model.specs.Configurations.{in_force}
use Rattle.node_model.specs.Deciding.{may_order}
use Rattle.node_model.specs.Presidents.{checked, is_busy, is_clear, others_of, own_arrival, proposed_by, query_lines, requests_of, with_act, with_proposals, word_answer}
use Rattle.node_model.specs.Requests.{is_idle, waiting_with}
use Rattle.node_model.specs.Updates.{is_of_member}
use Rattle.refinement.specs.Courses.{Course}
use Rattle.refinement.specs.Cuts as cuts
use Rattle.refinement.specs.Cuts.{acks_of, first_turn, left_answered}
use Rattle.attempt_laws.proofs.Walk.{if_with}
use Rattle.node_model.specs.Seats.{coordinator_of, is_member, record_of, version_of}
use Rattle.refinement.specs.Doings.{changed}
use Rattle.node_model.specs.Presidents.{orders_for}
use Rattle.std.specs.Prelude.{ℕ, zero, suc, ◌≡◌, ◌==◌, ◌&&◌, Bool, true, false, List, Option, None, Some, Result, Ok, Err, is_some}
use Rattle.std.proofs.Common.{refl, ap, subst, inl, inr}
use Rattle.admin_words.specs.Commands.{command_of}
use Rattle.node_model.specs.Members.{is_ok}
use Rattle.node_model.specs.Presidents.{committing}
use Rattle.refinement.specs.Cuts.{with_committed}
use Rattle.run_history.proofs.Lists.{all_and}
use Rattle.history_setting.specs.Settings.{is_asked}
use Rattle.run_commands.specs.carried.Guards.{is_silent}
use Rattle.run_commands.proofs.carried.Asides.{text_of}
use Rattle.run_commands.specs.Reads.{GoesRead, IsRead, OwnReplies, OwnCause, ReadsIn, ReplySo, RequestRead}
use Rattle.run_commands.proofs.Hearing.{given_so, lines_so, orders_so}
use Rattle.run_commands.proofs.Offices.{StateReads, answered_reads, arrived_reads, first_arrived, first_read, kept_loud, office_at, same_reads, taken_up_reads}
use Rattle.run_commands.proofs.Texts.{command_read}
use Rattle.run_commands.proofs.ReadForming.{deciding_so, either_so, then_so}

module _ (c : Cluster) (me : ℕ) (came : Input) (word : OwnReplies) where
  abbrev G : UpNode → Course → Type 0
  G x k = GoesRead c me came word x k

  -- what x keeps is read
  abbrev R : UpNode → Type 0
  R x = ReadsIn (version_of c) x

  -- Requests at their president.

  answering_so : (x : UpNode) (p : Presidency) (a : Arrived) (told : Answer) → (R x → StateReads (version_of c) p.proposals) → (R x → is_silent told ≡ false)
      → G x (cuts.answering_course c me x p a told)
  answering_so x p a told kept loud = (
    (λ r. given_so me word x a told (loud r)),
    ((λ r. answered_reads (version_of c) me x p a told (loud r) (kept r) r.waiting_read), deciding_so c me came word (left_answered me x p a told)),
  )

  acknowledged_so : (x : UpNode) (p : Presidency) (a : Arrived) (text : List ℕ) → (R x → StateReads (version_of c) p.proposals) → G x (cuts.acknowledged_course c me x p a text)
  acknowledged_so x p a text kept = (
    (λ r. answered_reads (version_of c) me x (with_committed c x p text) a answer.Ok refl
        (taken_up_reads (version_of c) (in_force c (committing x)) p (command_of (version_of c) text) (kept r)) r.waiting_read),
    ((λ r. tt), ((λ r. given_so me word x a answer.Ok refl), deciding_so c me came word (changed c me x (acks_of c me x p a text)))),
  )

  acknowledging_text_so : (x : UpNode) (p : Presidency) (o : Option Arrived) (text : Option (List ℕ)) → (R x → StateReads (version_of c) p.proposals)
      → G x (cuts.acknowledging_text_course c me x p o text)
  acknowledging_text_so x p (Some a) (Some text) kept = acknowledged_so x p a text kept
  acknowledging_text_so x p None text kept = tt
  acknowledging_text_so x p (Some a) None kept = tt

  acknowledging_by_so : (x : UpNode) (o : Option Presidency) → x.presidency ≡ o → G x (cuts.acknowledging_by_course c me x o)
  acknowledging_by_so x None is = tt
  acknowledging_by_so x (Some p) is =
      acknowledging_text_so x p (first_in p.proposals.arrived) (record_of x).entries.pending (λ r. office_at (version_of c) x.presidency p is r.office_read)

  pub acknowledging_so : (x : UpNode) → G x (cuts.acknowledging_course c me x)
  acknowledging_so x = acknowledging_by_so x x.presidency refl

  proposing_so : (x : UpNode) (p : Presidency) (text : List ℕ) → x.presidency ≡ Some p → G x (cuts.proposing_course c me x p text)
  proposing_so x p text is = (
    (λ r. same_reads (version_of c) x x.requests.waiting p _ is refl refl refl r),
    ((λ r. tt), either_so c me came word (proposed_by c me x p text) (others_of me x == 0) _ _ (acknowledging_so (proposed_by c me x p text)) tt),
  )

  acting_so : (x : UpNode) (p : Presidency) (a : Arrived) (ask : Ask) → x.presidency ≡ Some p → G x (cuts.acting_course c me x p a ask)
  acting_so x p a ask is =
      either_so c me came word x (may_order p.groups) _ _ (
        (λ r. orders_so me word (orders_for p.groups ask)),
        answering_so x (with_act c me x p a ask) a answer.Ok (λ r. office_at (version_of c) x.presidency p is r.office_read) (λ r. refl),
      ) tt

  taken_as_so : (x : UpNode) (p : Presidency) (a : Arrived) (r : Result Accepted CheckError) → x.presidency ≡ Some p → G x (cuts.taken_as_course c me x p a r)
  taken_as_so x p a (Ok (accepted.Change u)) is = proposing_so x p (words_of u) is
  taken_as_so x p a (Ok (accepted.Act ask)) is = acting_so x p a ask is
  taken_as_so x p a (Ok (accepted.Query q)) is = answering_so x p a answer.Ok (λ r. office_at (version_of c) x.presidency p is r.office_read) (λ r. refl)
  taken_as_so x p a (Err (because.Refused why)) is = answering_so x p a (answer.Refused why) (λ r. office_at (version_of c) x.presidency p is r.office_read) (λ r. refl)
  taken_as_so x p a (Err because.NoMemory) is = tt

  taken_so : (x : UpNode) (p : Presidency) (a : Arrived) (w : Result wanted.Request WordError) → request_of (version_of c) a.text ≡ w → first_in p.proposals.arrived ≡ Some a
      → x.presidency ≡ Some p → G x (cuts.taken_course c me x p a w)
  taken_so x p a (Ok (asked.Change u)) reads first is = either_so c me came word x (is_busy p.groups) _ _ tt (taken_as_so x p a (checked c x p (wish.Change u)) is)
  taken_so x p a (Ok (asked.Act ask)) reads first is = either_so c me came word x (is_busy p.groups && is_clear ask) _ _ tt (taken_as_so x p a (checked c x p (wish.Act ask)) is)
  taken_so x p a (Err e) reads first is =
      answering_so x p a (word_answer e) (λ r. office_at (version_of c) x.presidency p is r.office_read)
      (λ r. absurd (false_true (subst (λ z. is_ok z ≡ true) reads (first_arrived (version_of c) p.proposals.arrived a first (office_at (version_of c) x.presidency p is r.office_read).0))))

  turn_of_so : (x : UpNode) (p : Presidency) (o : Option Proposed) (first : Option Arrived) → first_in p.proposals.arrived ≡ first → x.presidency ≡ Some p
      → G x (cuts.turn_of_course c me x p o first)
  turn_of_so x p None (Some a) at is = taken_so x p a (request_of (version_of c) a.text) refl at is
  turn_of_so x p None None at is = tt
  turn_of_so x p (Some proposed) first at is = tt

  turn_by_so : (x : UpNode) (o : Option Presidency) → x.presidency ≡ o → G x (cuts.turn_by_course c me x o)
  turn_by_so x None is = tt
  turn_by_so x (Some p) is = turn_of_so x p p.proposals.proposed (first_in p.proposals.arrived) refl is

  one_turn_so : (x : UpNode) → G x (cuts.one_turn_course c me x)
  one_turn_so x = turn_by_so x x.presidency refl

  turns_so : (x : UpNode) (k : ℕ) → G x (cuts.turns_course c me x k)
  turns_so x zero = tt
  turns_so x (suc k) = then_so c me came word x _ _ (turns_so x k) (λ z. one_turn_so z)

  pub handling_so : (x : UpNode) → G x (cuts.handling_course c me x)
  handling_so x = turns_so x (requests_of x x.presidency)

  kept_again_so : (x : UpNode) (p : Presidency) (from : ℕ) (o : Option Kept) → kept_at p.proposals.answers from ≡ o → x.presidency ≡ Some p → G x (cuts.kept_again_course x from o)
  kept_again_so x p from None at is = tt
  kept_again_so x p from (Some k) at is = ((λ r. kept_loud p.proposals.answers from k at (office_at (version_of c) x.presidency p is r.office_read).1), tt)

  arrived_so : (x : UpNode) (p : Presidency) (a : Arrived) (how : Arrival) → (R x → IsRead (version_of c) a.text) → x.presidency ≡ Some p → G x (cuts.arrived_course c me x p a how)
  arrived_so x p a New read is = ((λ r. arrived_reads (version_of c) x p a is read r), handling_so (with_proposals x p (with_arrival p.proposals a New)))
  arrived_so x p a Waits_already read is = tt
  arrived_so x p a Answered_last read is = kept_again_so x p a.from (kept_at p.proposals.answers a.from) refl is
  arrived_so x p a Past read is = tt

  arriving_so : (x : UpNode) (p : Presidency) (a : Arrived) → (R x → IsRead (version_of c) a.text) → x.presidency ≡ Some p → G x (cuts.arriving_course c me x p a)
  arriving_so x p a read is = arrived_so x p a (arrival_of p.proposals a.from a.number) read is

  requested_so : (x : UpNode) (from number : ℕ) (text : List ℕ) (o : Option Presidency) → IsRead (version_of c) text → x.presidency ≡ o → G x (cuts.requested_course c me x from number text o)
  requested_so x from number text None read is = tt
  requested_so x from number text (Some p) read is = arriving_so x p (record { from = from; number = number; text = text }) (λ r. read) is

  pub asked_so : (x : UpNode) (from e number : ℕ) (text : List ℕ) → IsRead (version_of c) text → G x (cuts.asked_course c me x from e number text)
  asked_so x from e number text read = either_so c me came word x (is_of_member x from e) _ _ (requested_so x from number text x.presidency read refl) tt

  -- Requests at the node that asks.

  request_to_so : (x : UpNode) (r : Request) (o : Option ℕ) → G x (cuts.request_to_course x r o)
  request_to_so x r None = tt
  request_to_so x r (Some president) = ((λ r. tt), tt)

  asking_of_so : (x : UpNode) (r : Request) (o : Option Presidency) → oldest x.requests ≡ Some r → x.presidency ≡ o → G x (cuts.asking_of_course c me x r o)
  asking_of_so x r None first is = request_to_so x r (coordinator_of x)
  asking_of_so x r (Some p) first is = arriving_so x p (own_arrival me r) (λ k. first_read (version_of c) x.requests.waiting r first k.waiting_read) is

  asking_for_so : (x : UpNode) (o : Option Request) → oldest x.requests ≡ o → G x (cuts.asking_for_course c me x o)
  asking_for_so x None first = tt
  asking_for_so x (Some r) first = asking_of_so x r x.presidency first refl

  pub asking_so : (x : UpNode) → G x (cuts.asking_course c me x)
  asking_so x = asking_for_so x (oldest x.requests) refl

  pub asking_if_so : (alone : Bool) (x : UpNode) → G x (cuts.asking_if_course alone c me x)
  asking_if_so alone x = either_so c me came word x alone _ _ (asking_so x) tt

  -- A command that came: what the node answers by itself, and the request that waits.

  replying_so : (x : UpNode) (number : ℕ) (told : Answer) → ReplySo word number told → G x (cuts.replying_course me number told)
  replying_so x number told so = ((λ r. ((refl, so), tt)), tt)

  waiting_so : (x : UpNode) (number : ℕ) (text : List ℕ) → (is_full x.requests ≡ true → word number answer.QueueFull) → IsRead (version_of c) text → G x (cuts.waiting_course c me x number text)
  waiting_so x number text full read =
      if_with (λ z. G x z) (is_full x.requests) (is_full x.requests) _ _ refl (λ is. replying_so x number answer.QueueFull (inr (full is))) (λ is. (
        (λ r. record {
          waiting_read = all_and (RequestRead (version_of c)) x.requests.waiting (record { number = number; text = text; told = true; second = x.second }) r.waiting_read read;
          office_read = r.office_read;
        }),
        asking_if_so (is_idle x.requests.waiting) (waiting_with x number text),
      ))

  elsewhere_so : (x : UpNode) (number : ℕ) (o : Option ℕ) → ((president : ℕ) → o ≡ Some president → word number (answer.Ask president)) → G x (cuts.elsewhere_course me number o)
  elsewhere_so x number None other = tt
  elsewhere_so x number (Some president) other = replying_so x number (answer.Ask president) (inr (other president refl))

  telling_so : (x : UpNode) (number : ℕ) (lines : List StatusEntry) → G x (cuts.telling_course me number lines)
  telling_so x number lines = ((λ r. lines_so me word lines), replying_so x number answer.Ok (inl refl))

  query_so : (x : UpNode) (p : Presidency) (number : ℕ) (s : ConfigState) (r : Result Accepted CheckError) → G x (cuts.query_course me x p number s r)
  query_so x p number s (Ok (accepted.Query q)) = telling_so x number (query_lines x p s q)
  query_so x p number s (Ok (accepted.Change u)) = tt
  query_so x p number s (Ok (accepted.Act ask)) = tt
  query_so x p number s (Err (because.Refused r)) = replying_so x number (answer.Refused r) (inl refl)
  query_so x p number s (Err because.NoMemory) = tt

  -- what the node answers by itself to this command has a cause
  abbrev Causes : UpNode → ℕ → List ℕ → Type 0
  Causes x number words = (reply : Answer) → OwnCause (version_of c) x.seat x.presidency x.requests.waiting words reply → word number reply

  queried_so : (x : UpNode) (number : ℕ) (words : List ℕ) (question : AdminCommand) (o : Option Presidency) → x.presidency ≡ o → command_of (version_of c) words ≡ Ok question
      → is_asked question ≡ true → is_member x.seat ≡ true → Causes x number words → G x (cuts.queried_course c me x number question o)
  queried_so x number words question None is read asks here own =
      elsewhere_so x number (coordinator_of x) (λ president at. own (answer.Ask president) (inr (inr (inl (record {
        command = question;
        read = read;
        seated = here;
        query = asks;
        none = is;
        president = president;
        at = at;
        is = refl;
      })))))
  queried_so x number words question (Some p) is read asks here own =
      if_with (λ z. G x z) (is_full x.requests) (is_full x.requests) _ _ refl
      (λ full. replying_so x number answer.QueueFull (inr (own answer.QueueFull (inr (inr (inr (record { command = question; read = read; seated = here; query = λ q. ap is_some is; full = full; is = refl })))))))
      (λ full. query_so x p number (in_force c x) (checked c x p question))

  commanded_so : (x : UpNode) (number : ℕ) (words : List ℕ) (o : AdminCommand) → command_of (version_of c) words ≡ Ok o → is_member x.seat ≡ true → Causes x number words
      → ((text : List ℕ) → text_of o ≡ Some text → IsRead (version_of c) text) → G x (cuts.commanded_course c me x number o)
  commanded_so x number words (wish.Change u) read here own reads =
      waiting_so x number (words_of u) (λ full. own answer.QueueFull (inr (inr (inr (record { command = wish.Change u; read = read; seated = here; query = λ q. absurd (false_true q); full = full; is = refl })))))
      (reads (words_of u) refl)
  commanded_so x number words (wish.Act a) read here own reads =
      waiting_so x number (ask_words_of a) (λ full. own answer.QueueFull (inr (inr (inr (record { command = wish.Act a; read = read; seated = here; query = λ q. absurd (false_true q); full = full; is = refl })))))
      (reads (ask_words_of a) refl)
  commanded_so x number words (wish.Status q) read here own reads = queried_so x number words (wish.Status q) x.presidency refl read refl here own
  commanded_so x number words (wish.Rows table) read here own reads = queried_so x number words (wish.Rows table) x.presidency refl read refl here own

  pub worded_so : (x : UpNode) (number : ℕ) (words : List ℕ) (r : Result AdminCommand WordError) → command_of (version_of c) words ≡ r → Causes x number words
      → G x (cuts.worded_course c me x number r)
  worded_so x number words (Err e) read own = replying_so x number (word_answer e) (inr (own (word_answer e) (inl (record { error = e; read = read; is = refl }))))
  worded_so x number words (Ok command) read own =
      if_with (λ z. G x z) (is_member x.seat) (is_member x.seat) _ _ refl
      (λ here. commanded_so x number words command read here own (λ text asks. command_read (version_of c) words command text read asks))
      (λ away. replying_so x number answer.NotMember (inr (own answer.NotMember (inr (inl (record { command = command; read = read; seated = away; is = refl }))))))
