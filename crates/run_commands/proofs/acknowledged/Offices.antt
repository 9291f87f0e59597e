-- In each course of a request at its president the first is answered once: an update when it is acknowledged, and what is no update at once.
use Rattle.std.specs.Prelude.{ℕ, zero, suc, ◌≡◌, ◌==◌, ◌&&◌, Bool, true, List, Option, None, Some, Result, Ok, Err}
use Rattle.std.specs.List.{list_any}
use Rattle.std.proofs.Common.{refl, sym, ap, ◌∙◌, inl, inr}
use Rattle.attempt_laws.proofs.Walk.{if_with}
use Rattle.admin_commands.specs.Answers.{unless_refused}
use Rattle.admin_commands.specs.declared.accepted.Accepted.{Accepted}
use Rattle.admin_commands.specs.declared.accepted.Accepted.TheVariants as accepted
use Rattle.admin_commands.specs.declared.error.CheckError.{CheckError}
use Rattle.admin_commands.specs.declared.error.CheckError.TheVariants as because
use Rattle.admin_words.specs.Commands.{command_of, request_of}
use Rattle.admin_words.specs.declared.error.WordError.{WordError}
use Rattle.admin_words.specs.declared.request.Request.TheVariants as asked
use Rattle.admin_words.specs.declared.request.Request as wanted
use Rattle.ccr_commit.specs.Entries.{all_committed}
use Rattle.ccr_tables.specs.declared.command.AdminCommand.TheVariants as wish
use Rattle.ccr_tables.specs.declared.update.Update.{Update}
use Rattle.cl_base.specs.declared.command.Ask.{Ask}
use Rattle.cl_base.specs.declared.refusal.Refusal.{Refusal}
use Rattle.proposals.specs.Arrivals.{arrival_of, is_from, with_arrival}
use Rattle.proposals.specs.State.{State, first_in, kept_at}
use Rattle.proposals.specs.declared.arrived.Arrival.{Arrival}
use Rattle.proposals.specs.declared.arrived.Arrival.TheVariants.{New, Waits as Waits_already, Answered as Answered_last, Past}
use Rattle.proposals.specs.declared.arrived.Arrived.{Arrived}
use Rattle.proposals.specs.declared.arrived.Kept.{Kept}
use Rattle.proposals.specs.declared.arrived.Proposed.{Proposed}
use Rattle.request_queue.specs.Queue.{oldest}
use Rattle.request_queue.specs.declared.request.Request.{Request}
use Rattle.status_report.specs.declared.command_entry.Answer.{Answer}
use Rattle.status_report.specs.declared.command_entry.Answer.TheVariants as answer
use Rattle.update_words.specs.Words.{words_of}
use Rattle.wire.specs.declared.message.Body.TheVariants as body
use Rattle.wire.specs.declared.message.Message.{Message}
use Rattle.node_model.specs.Configurations.{in_force}
use Rattle.node_model.specs.Deciding.{may_order}
use Rattle.node_model.specs.Presidents.{checked, committing, is_busy, is_clear, orders_for, others_of, own_arrival, proposed_by, requests_of, with_act, with_proposals, word_answer}
use Rattle.node_model.specs.Seats.{coordinator_of, record_of, version_of}
use Rattle.node_model.specs.Updates.{is_of_member}
use Rattle.node_model.specs.declared.cluster.Cluster.{Cluster}
use Rattle.node_model.specs.declared.input.Input.{Input}
use Rattle.node_model.specs.declared.input.Input.TheVariants.{Packet}
use Rattle.node_model.specs.declared.node.UpNode.{UpNode}
use Rattle.node_model.specs.declared.presidency.Presidency.{Presidency}
use Rattle.refinement.specs.Courses.{Course}
use Rattle.refinement.specs.Cuts as cuts
use Rattle.refinement.specs.Cuts.{acks_of, left_answered, left_by_answer, with_committed}
use Rattle.refinement.specs.Doings.{changed}
use Rattle.run_messages.specs.Laws.{membership_in}
use Rattle.run_commands.proofs.carried.Asides.{same_session}
use Rattle.run_commands.specs.acknowledged.Guards.{CauseOf, IsOfFirst}
use Rattle.run_commands.specs.acknowledged.Hands.{Stays_or_comes}
use Rattle.run_commands.proofs.acknowledged.Asides.{accepted_act, accepted_change, member_here, oldest_is, taken_same}
use Rattle.run_commands.specs.acknowledged.AnsweringGuards.{Answers, GoesSo}
use Rattle.run_commands.specs.acknowledged.AnsweringGuards.Due.{Even, Gave, Owes}
use Rattle.run_commands.specs.acknowledged.Requested.{IsPlain}
use Rattle.run_commands.proofs.acknowledged.Dues.{at_office, first_answered, given_owed, kept_number, orders_still}
use Rattle.run_commands.proofs.acknowledged.Forming.{deciding_so, either_so, then_so}

-- ---- what is answered at once is no update

act_plain : (c : Cluster) (text : List ℕ) (a : Ask) → request_of (version_of c) text ≡ Ok (asked.Act a) → IsPlain c text
act_plain c text a read = λ u is. cc

error_plain : (c : Cluster) (text : List ℕ) (e : WordError) → request_of (version_of c) text ≡ Err e → IsPlain c text
error_plain c text e read = λ u is. cc

refused_no : (r : Refusal) → answer.Refused r ≡ answer.Ok → ⊥
refused_no r e = cc

-- what is accepted, and no update
abbrev IsAtOnce : Result Accepted CheckError → Type 0
IsAtOnce (Ok (accepted.Change u)) = ⊥
IsAtOnce (Ok (accepted.Act ask)) = Unit {0}
IsAtOnce (Ok (accepted.Query q)) = Unit {0}
IsAtOnce (Err e) = ⊥

change_waits : (o : Option Refusal) (u : Update) → IsAtOnce (unless_refused o (accepted.Change u)) → ⊥
change_waits None u h = h
change_waits (Some r) u h = h

-- the first of a president that has proposed nothing
record Free (x : UpNode) (p : Presidency) (a : Arrived) : Type 0 where
  here : x.presidency ≡ Some p
  first : first_in p.proposals.arrived ≡ Some a
  none : p.proposals.proposed ≡ None

module _ (c : Cluster) (me : ℕ) (came : Input) (v : Option ℕ) where
  abbrev G : UpNode → Course → Type 0
  G x k = GoesSo c came me v Even x k

  abbrev C : UpNode → Arrived → Type 0
  C x a = CauseOf came me v x a

  answering_so : (x : UpNode) (p q : Presidency) (a : Arrived) (told : Answer) → Free x p a → q.proposals ≡ p.proposals → (told ≡ answer.Ok → IsPlain c a.text) → G x (cuts.answering_course c me x q a told)
  answering_so x p q a told free same plain = (
    Gave a told,
    inr (inl (record { presidency = p; here = free.here; request = a; first = free.first; none = free.none; reply = told; plain = plain; is = refl; then = refl })),
    (
      Even,
      (
        at_office (Answers (C x) a told) x.presidency p (left_by_answer me x q a told) free.here (first_answered came me v x p q a told free.first same),
        refl,
      ),
      deciding_so c me came v (left_answered me x q a told),
    ),
  )

  acknowledged_so : (x : UpNode) (p : Presidency) (a : Arrived) (text : List ℕ) → first_in p.proposals.arrived ≡ Some a → (record_of x).entries.pending ≡ Some text → G x (cuts.acknowledged_course c me x p a text)
  acknowledged_so x p a text first pending = (
    Owes a,
    record {
      request = a;
      pending = pending;
      answers = first_answered came me v x p (with_committed c x p text) a answer.Ok first (taken_same (in_force c (committing x)) p (command_of (version_of c) text));
      then = refl;
    },
    (
      Owes a,
      (tt, refl),
      (
        Even,
        (given_owed me x (changed c me x (acks_of c me x p a text)) a (same_session x.seat (all_committed (record_of x).entries)), refl),
        deciding_so c me came v (changed c me x (acks_of c me x p a text)),
      ),
    ),
  )

  acknowledging_text_so : (x : UpNode) (p : Presidency) (o : Option Arrived) (text : Option (List ℕ)) → first_in p.proposals.arrived ≡ o → (record_of x).entries.pending ≡ text
      → G x (cuts.acknowledging_text_course c me x p o text)
  acknowledging_text_so x p (Some a) (Some text) first pending = acknowledged_so x p a text first pending
  acknowledging_text_so x p None text first pending = refl
  acknowledging_text_so x p (Some a) None first pending = refl

  acknowledging_by_so : (x : UpNode) (o : Option Presidency) → G x (cuts.acknowledging_by_course c me x o)
  acknowledging_by_so x None = refl
  acknowledging_by_so x (Some p) = acknowledging_text_so x p (first_in p.proposals.arrived) (record_of x).entries.pending refl refl

  pub acknowledging_so : (x : UpNode) → G x (cuts.acknowledging_course c me x)
  acknowledging_so x = acknowledging_by_so x x.presidency

  proposing_so : (x : UpNode) (p : Presidency) (text : List ℕ) → IsOfFirst c p text → G x (cuts.proposing_course c me x p text)
  proposing_so x p text first =
      (Even, (first, refl), (Even, (tt, refl), either_so c me came v (proposed_by c me x p text) (others_of me x == 0) _ _ (acknowledging_so (proposed_by c me x p text)) refl))

  acting_so : (x : UpNode) (p : Presidency) (a : Arrived) (ask : Ask) → Free x p a → IsPlain c a.text → G x (cuts.acting_course c me x p a ask)
  acting_so x p a ask free plain =
      either_so c me came v x (may_order p.groups) _ _
      (Even, inl (orders_still me (orders_for p.groups ask), refl), answering_so x p (with_act c me x p a ask) a answer.Ok free refl (λ ok. plain)) refl

  taken_as_so : (x : UpNode) (p : Presidency) (a : Arrived) (r : Result Accepted CheckError) → Free x p a → ((u : Update) → r ≡ Ok (accepted.Change u) → IsOfFirst c p (words_of u))
      → (IsAtOnce r → IsPlain c a.text) → G x (cuts.taken_as_course c me x p a r)
  taken_as_so x p a (Ok (accepted.Change u)) free first plain = proposing_so x p (words_of u) (first u refl)
  taken_as_so x p a (Ok (accepted.Act ask)) free first plain = acting_so x p a ask free (plain tt)
  taken_as_so x p a (Ok (accepted.Query q)) free first plain = answering_so x p p a answer.Ok free refl (λ ok. plain tt)
  taken_as_so x p a (Err (because.Refused r)) free first plain = answering_so x p p a (answer.Refused r) free refl (λ ok. absurd (refused_no r ok))
  taken_as_so x p a (Err because.NoMemory) free first plain = refl

  taken_so : (x : UpNode) (p : Presidency) (a : Arrived) (r : Result wanted.Request WordError) → Free x p a → request_of (version_of c) a.text ≡ r → G x (cuts.taken_course c me x p a r)
  taken_so x p a (Ok (asked.Change u)) free read =
      either_so c me came v x (is_busy p.groups) _ _ refl
      (taken_as_so x p a (checked c x p (wish.Change u)) free
      (λ w ok. record { request = a; first = free.first; update = u; read = read; words = ap (λ (z : Update). words_of z) (accepted_change _ u w ok) })
      (λ once. absurd (change_waits _ u once)))
  taken_so x p a (Ok (asked.Act ask)) free read =
      either_so c me came v x (is_busy p.groups && is_clear ask) _ _ refl
      (taken_as_so x p a (checked c x p (wish.Act ask)) free (λ w ok. absurd (accepted_act _ ask w ok)) (λ once. act_plain c a.text ask read))
  taken_so x p a (Err e) free read = answering_so x p p a (word_answer e) free refl (λ ok. error_plain c a.text e read)

  turn_of_so : (x : UpNode) (p : Presidency) (o : Option Proposed) (first : Option Arrived) → x.presidency ≡ Some p → p.proposals.proposed ≡ o → first_in p.proposals.arrived ≡ first
      → G x (cuts.turn_of_course c me x p o first)
  turn_of_so x p None (Some a) is none at = taken_so x p a (request_of (version_of c) a.text) (record { here = is; first = at; none = none }) refl
  turn_of_so x p None None is none at = refl
  turn_of_so x p (Some proposed) first is none at = refl

  turn_by_so : (x : UpNode) (o : Option Presidency) → x.presidency ≡ o → G x (cuts.turn_by_course c me x o)
  turn_by_so x None is = refl
  turn_by_so x (Some p) is = turn_of_so x p p.proposals.proposed (first_in p.proposals.arrived) is refl refl

  one_turn_so : (x : UpNode) → G x (cuts.one_turn_course c me x)
  one_turn_so x = turn_by_so x x.presidency refl

  turns_so : (x : UpNode) (k : ℕ) → G x (cuts.turns_course c me x k)
  turns_so x zero = refl
  turns_so x (suc k) = then_so c me came v x _ _ (turns_so x k) (λ z. one_turn_so z)

  pub handling_so : (x : UpNode) → G x (cuts.handling_course c me x)
  handling_so x = turns_so x (requests_of x x.presidency)

  -- a request comes

  kept_again_so : (x : UpNode) (p : Presidency) (a : Arrived) (o : Option Kept) → x.presidency ≡ Some p → kept_at p.proposals.answers a.from ≡ o → arrival_of p.proposals a.from a.number ≡ Answered_last → C x a
      → G x (cuts.kept_again_course x a.from o)
  kept_again_so x p a None is last how cause = refl
  kept_again_so x p a (Some k) is last how cause = (
    Even,
    (
      refl,
      inr (record {
        presidency = p;
        here = is;
        kept = k;
        last = last;
        request = a;
        cause = cause;
        from = refl;
        number = kept_number (kept_at p.proposals.answers a.from) k a.number (list_any (is_from a.from) p.proposals.arrived) last how;
        is = refl;
      }),
      refl,
    ),
    refl,
  )

  arrived_so : (x : UpNode) (p : Presidency) (a : Arrived) (how : Arrival) → x.presidency ≡ Some p → arrival_of p.proposals a.from a.number ≡ how → C x a → G x (cuts.arrived_course c me x p a how)
  arrived_so x p a New is new cause =
      let s : State = with_arrival p.proposals a New in
      (Even, (at_office (Stays_or_comes (C x)) x.presidency p (record p { proposals = s }) is (inr (record { request = a; new = new; is = refl; cause = cause })), refl), handling_so (with_proposals x p s))
  arrived_so x p a Waits_already is new cause = refl
  arrived_so x p a Answered_last is new cause = kept_again_so x p a (kept_at p.proposals.answers a.from) is refl new cause
  arrived_so x p a Past is new cause = refl

  arriving_so : (x : UpNode) (p : Presidency) (a : Arrived) → x.presidency ≡ Some p → C x a → G x (cuts.arriving_course c me x p a)
  arriving_so x p a is cause = arrived_so x p a (arrival_of p.proposals a.from a.number) is refl cause

  requested_so : (x : UpNode) (from e number : ℕ) (text : List ℕ) (m : Message) (o : Option Presidency) → membership_in x.seat ≡ v → x.presidency ≡ o → came ≡ Packet from m → m.body ≡ body.Request e number text
      → is_of_member x from e ≡ true → G x (cuts.requested_course c me x from number text o)
  requested_so x from e number text m None seat is at says here = refl
  requested_so x from e number text m (Some p) seat is at says here =
      arriving_so x p (record { from = from; number = number; text = text }) is (inl (record { message = m; input = at; epoch = e; says = says; member = sym seat ∙ member_here x from e here; here = here }))

  pub asked_so : (x : UpNode) (from e number : ℕ) (text : List ℕ) (m : Message) → membership_in x.seat ≡ v → came ≡ Packet from m → m.body ≡ body.Request e number text
      → G x (cuts.asked_course c me x from e number text)
  asked_so x from e number text m seat at says =
      if_with (λ z. G x z) (is_of_member x from e) (is_of_member x from e) _ _ refl (λ here. requested_so x from e number text m x.presidency seat refl at says here) (λ here. refl)

  -- requests at the node that asks

  request_to_so : (x : UpNode) (r : Request) (o : Option ℕ) → G x (cuts.request_to_course x r o)
  request_to_so x r None = refl
  request_to_so x r (Some president) = (Even, (refl, inl tt, refl), refl)

  asking_of_so : (x : UpNode) (r : Request) (o : Option Presidency) → oldest x.requests ≡ Some r → x.presidency ≡ o → G x (cuts.asking_of_course c me x r o)
  asking_of_so x r None first is = request_to_so x r (coordinator_of x)
  asking_of_so x r (Some p) first is = arriving_so x p (own_arrival me r) is (inr (record { request = r; waits = oldest_is x.requests r first; is = refl }))

  asking_for_so : (x : UpNode) (o : Option Request) → oldest x.requests ≡ o → G x (cuts.asking_for_course c me x o)
  asking_for_so x None first = refl
  asking_for_so x (Some r) first = asking_of_so x r x.presidency first refl

  pub asking_so : (x : UpNode) → G x (cuts.asking_course c me x)
  asking_so x = asking_for_so x (oldest x.requests) refl

  pub asking_if_so : (alone : Bool) (x : UpNode) → G x (cuts.asking_if_course alone c me x)
  asking_if_so alone x = either_so c me came v x alone _ _ (asking_so x) refl
