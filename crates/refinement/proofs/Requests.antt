-- What a node does for requests and updates may be done.
use Rattle.std.specs.Prelude.{ℕ, zero, suc, ◌+◌, ◌≡◌, ◌<◌, ◌≤◌, ◌++◌, ◌==◌, ◌&&◌, ◌||◌, nat_le, not, Bool, true, false, is_some, List, [], ◌∷◌, length, Option, None, Some, IsSome, Result, Ok, Err, if◌then◌else◌}
use Rattle.std.proofs.Common.{refl, sym, ap, subst, ◌∙◌, arith}
use Rattle.admin_commands.specs.Answers.{unless_refused}
use Rattle.admin_commands.specs.declared.accepted.Accepted.{Accepted}
use Rattle.admin_commands.specs.declared.accepted.Accepted.TheVariants as accepted
use Rattle.admin_commands.specs.declared.error.CheckError.{CheckError}
use Rattle.admin_commands.specs.declared.error.CheckError.TheVariants as because
use Rattle.admin_words.specs.Commands.{command_of, request_of}
use Rattle.admin_words.specs.declared.error.WordError.{WordError}
use Rattle.admin_words.specs.declared.request.Request.TheVariants as asked
use Rattle.admin_words.specs.declared.request.Request as wanted
use Rattle.ccr_commit.specs.Entries.{EntryList, all_committed, answer_for, texts_of, with_next}
use Rattle.ccr_commit.specs.declared.entries.Prepared.{Prepared}
use Rattle.ccr_commit.specs.declared.entries.Prepared.TheVariants.{Taken, Already, Gap}
use Rattle.ccr_tables.specs.State.{ConfigState}
use Rattle.ccr_tables.specs.declared.command.AdminCommand.{AdminCommand}
use Rattle.ccr_tables.specs.declared.command.AdminCommand.TheVariants as wish
use Rattle.cl_base.specs.declared.command.Ask.{Ask}
use Rattle.ccr_tables.specs.declared.update.Update.{Update}
use Rattle.cl_base.specs.Limits.{most_nodes}
use Rattle.cl_base.specs.Numbers.{numbers_to}
use Rattle.cl_base.specs.declared.method.Method.{Method}
use Rattle.cl_base.specs.declared.method.Outcome.{Outcome}
use Rattle.cl_base.specs.declared.panic.Panic.TheVariants as panic
use Rattle.cl_base.specs.declared.refusal.Refusal.{Refusal}
use Rattle.cl_base.specs.Sets.{has, set_without}
use Rattle.cmm_attempt.specs.Attempts.{AttemptState}
use Rattle.cmm_attempt.proofs.Basics.{and_cases, false_true, if_either, none_some, same_number}
use Rattle.cmm_member.specs.Nodes.{NodeState, with_entries}
use Rattle.attempt_laws.proofs.Walk.{if_with}
use Rattle.proposals.specs.Arrivals as arrivals
use Rattle.proposals.specs.Arrivals.{answer_first, arrival_of, with_arrival}
use Rattle.proposals.specs.Proposing.{goes_again, is_prepared, less, prepared_by, proposing}
use Rattle.proposals.specs.State.{State, first_in, kept_at}
use Rattle.proposals.specs.declared.arrived.Arrival.{Arrival}
use Rattle.proposals.specs.declared.arrived.Arrival.TheVariants.{New, Waits as Waits_already, Answered as Answered_last, Past}
use Rattle.proposals.specs.declared.arrived.Arrived.{Arrived}
use Rattle.proposals.specs.declared.arrived.Kept.{Kept}
use Rattle.proposals.specs.declared.arrived.Proposed.{Proposed}
use Rattle.request_queue.specs.Queue as queue
use Rattle.request_queue.specs.Queue.{Queue, found, is_full, next_number, oldest}
use Rattle.request_queue.specs.declared.request.Request.{Request}
use Rattle.rgm_member.specs.Orders.{after_order, answer_to, outcome_in}
use Rattle.rgm_member.specs.Probes.{probed}
use Rattle.rgm_member.specs.declared.carried.Carried.{Carried}
use Rattle.rgm_member.specs.declared.carried.Carried.TheVariants as carried
use Rattle.rgm_member.specs.declared.probed.Probed.{Probed}
use Rattle.rgm_member.specs.declared.probed.Probed.TheVariants as probe
use Rattle.rgm_president.specs.State.{PresidentState}
use Rattle.rgm_state.specs.Outcomes as order
use Rattle.sent_orders.specs.Ticks.{due}
use Rattle.status_report.specs.CommandLines.{reply_text}
use Rattle.status_report.specs.declared.command_entry.Answer.{Answer}
use Rattle.status_report.specs.declared.command_entry.Answer.TheVariants as answer
use Rattle.status_report.specs.declared.node_entry.DownCause.TheVariants as down
use Rattle.status_report.specs.declared.status_entry.StatusEntry.{StatusEntry}
use Rattle.update_log.specs.Logs.{config_after, is_update}
use Rattle.update_words.specs.Words.{ask_words_of, words_of}
use Rattle.wire.specs.declared.message.Body.TheVariants as body
use Rattle.wire.specs.declared.message.Message.{Message}
use Rattle.wire.specs.declared.message.Order.{Order}
use Rattle.status_report.specs.declared.entry.Entry.TheVariants as entry
use Rattle.node_model.specs.declared.output.Output.TheVariants.{Tells}
use Rattle.node_model.specs.Addresses.{forgot_lines, request_for}
use Rattle.ccr_tables.specs.declared.address.Address.{Address}
use Rattle.rg_props.specs.Lookups.{named}
use Rattle.shared_address.specs.Choosing as serving
use Rattle.shared_address.specs.History as clients
use Rattle.shared_address.specs.declared.choice.Client.{Client}
use Rattle.status_report.specs.declared.address_entry.AddressEntry.TheVariants.{Served}
use Rattle.node_model.specs.declared.cluster.Cluster.{Cluster}
use Rattle.node_model.specs.declared.node.UpNode.{UpNode}
use Rattle.node_model.specs.declared.presidency.Presidency.{Presidency}
use Rattle.node_model.specs.declared.seat.Seat.{Seat}
use Rattle.node_model.specs.declared.seat.Seat.TheVariants.{Forming, Member}
use Rattle.node_model.specs.Configurations.{in_force, own_config}
use Rattle.node_model.specs.Deciding.{may_order}
use Rattle.node_model.specs.Groups.{asked_by, call_told, is_last, monitor_asked, order_again, order_again_to, order_at, order_told, orders_again, orders_again_by, orders_again_of, own_order, reported, with_ended}
use Rattle.node_model.specs.Members.{is_bad_update, is_next_of}
use Rattle.node_model.specs.Presidents.{answer_given, checked, committing, is_busy, is_clear, next_place, orders_for, others_of, own_arrival, own_line, proposed_by, query_lines, requests_of, taken_up, told_lines, with_act, with_own, with_proposals, word_answer}
use Rattle.node_model.specs.Requests.{is_idle, numbered, waiting_with}
use Rattle.node_model.specs.Seats as seats
use Rattle.node_model.specs.Seats.{coordinator_of, installed_of, is_in, promised_of, record_of, session_of, state_of, version_of, with_state}
use Rattle.node_model.specs.Updates.{commits_now, is_of_member}
use Rattle.refinement.specs.Courses.{Course, joined}
use Rattle.refinement.specs.Courses.Course.{Acts, Falls as Course_falls, Keeps, Stops}
use Rattle.refinement.specs.Cuts as cuts
use Rattle.refinement.specs.Cuts.{acknowledging_course, acks_of, deciding_course, handling_course, one_turn_course, turns_course, with_committed, writing}
use Rattle.refinement.specs.Doings.{acted, changed, minded}
use Rattle.refinement.specs.Doings.Act.{Gives}
use Rattle.refinement.specs.Doings.Change.{Commits}
use Rattle.refinement.specs.Facts.{Facts, JoinsFit, OfMember, OfPresident, OfProposed, OfSeat}
use Rattle.refinement.specs.Guards.{Comes, IsAccepted, MayWrite, SameProposed, TellNothing}
use Rattle.refinement.specs.Ties.{Delivered, IsLog}
use Rattle.refinement.proofs.Calls.{Any, MayTo, deciding_to, joined_to, nothing_of, orders_nothing, same_of}
use Rattle.refinement.proofs.Logs.{log_next}
use Rattle.refinement.proofs.Texts.{one_longer, state_with}

-- what is supposed of a node that may be a president
abbrev pub Standing : UpNode → Type 0
Standing x = OfSeat x.attempt x.seat × OfMember x.seat × (installed_of x ≤ promised_of x) × JoinsFit x

abbrev pub President : UpNode → Type 0
President x = OfPresident x.presidency x.seat × Standing x

pub president_of : (x : UpNode) → Facts x → President x
president_of x f = (f.president, (f.attempt, f.member, f.order, f.joins))

pub facts_of : (x : UpNode) → President x → Facts x
facts_of x h = record { attempt = h.1.0; member = h.1.1; order = h.1.2; joins = h.1.3; president = h.0 }

-- a member with other updates
standing_with : (x y : UpNode) (s : NodeState) (es : EntryList) → x.seat ≡ Member s → y.seat ≡ Member (with_entries s es) → y.attempt ≡ x.attempt → Standing x → Standing y
standing_with x y s es at seat attempt h =
    let member : OfMember (Member s) = subst OfMember at h.1 in (
      subst (λ z. OfSeat y.attempt z) (sym seat) (subst (λ o. OfSeat o (Member (with_entries s es))) (sym attempt) (same_seat x.attempt (subst (λ z. OfSeat x.attempt z) at h.0))),
      subst OfMember (sym seat) member,
      subst (λ z. (state_of z).saved.installed ≤ (state_of z).saved.promised) (sym seat) (subst (λ z. (state_of z).saved.installed ≤ (state_of z).saved.promised) at h.2),
      λ joins. subst (λ z. (0 < (state_of z).session) × ((state_of z).session ≡ (state_of z).saved.installed)) (sym seat) member,
    )
  where
    same_seat : (o : Option AttemptState) → OfSeat o (Member s) → OfSeat o (Member (with_entries s es))
    same_seat None k = tt
    same_seat (Some a) k = absurd k

pub any : (c : Cluster) (me : ℕ) (told : Delivered) (P : UpNode → Type 0) (x : UpNode) (k : Course) → MayTo c me told P x k → MayTo c me told Any x k
any c me told P x Stops h = tt
any c me told P x (Acts a rest) h = (h.0, any c me told P (acted c me x a) rest h.1)
any c me told P x (Keeps ch rest) h = (h.0, any c me told P (changed c me x ch) rest h.1)
any c me told P x (Course_falls why) h = tt

pub presiding : (x : UpNode) (p : Presidency) (R : Type 0) → x.presidency ≡ Some p → President x → ((s : NodeState) → x.seat ≡ Member s → OfProposed s p.proposals.proposed → R) → R
presiding x p R is h f = by_seat x.seat refl (subst (λ o. OfPresident o x.seat) is h.0)
  where
    by_seat : (seat : Seat) → x.seat ≡ seat → OfPresident (Some p) seat → R
    by_seat (Forming s) at facts = absurd facts
    by_seat (Member s) at facts = f s at facts

member_seat : (x : UpNode) (s : NodeState) → x.seat ≡ Member s → x.seat ≡ Member (state_of x.seat)
member_seat x s at = at ∙ ap (λ z. Member (state_of z)) (sym at)

same_proposed : (o : Option Presidency) → SameProposed o o
same_proposed None = tt
same_proposed (Some p) = refl

-- other requests, while what is proposed is the same
pub minded_facts : (o p : Option Presidency) (seat : Seat) → SameProposed o p → OfPresident o seat → OfPresident p seat
minded_facts None None seat same h = tt
minded_facts None (Some p) seat same h = absurd same
minded_facts (Some q) None seat same h = tt
minded_facts (Some q) (Some p) (Forming s) same h = absurd h
minded_facts (Some q) (Some p) (Member s) same h = subst (λ z. OfProposed s z) (sym same) h

pub minded_president : (x : UpNode) (q : Queue) (p : Option Presidency) → SameProposed x.presidency p → President x → President (minded x q p)
minded_president x q p same h = (minded_facts x.presidency p x.seat same h.0, h.1)

decides : (c : Cluster) (me : ℕ) (told : Delivered) (x : UpNode) → President x → MayTo c me told President x (deciding_course c me x)
decides c me told x h = deciding_to c me told President x h (λ q same. minded_president x x.requests (Some q) same h)

-- Answers.

own_nothing : (me : ℕ) (told : Answer) (o : Option Request) → TellNothing (own_line me told o)
own_nothing me told None = tt
own_nothing me told (Some r) = if_either TellNothing r.told _ [] (tt, tt) tt

answer_nothing : (me : ℕ) (x : UpNode) (a : Arrived) (told : Answer) → TellNothing (answer_given me x a told)
answer_nothing me x a told = if_either TellNothing (a.from == me) (own_line me told (found x.requests.waiting a.number)) _ (own_nothing me told (found x.requests.waiting a.number)) (tt, tt)

arrival_same : (s : State) (a : Arrived) (arrival : Arrival) → (with_arrival s a arrival).proposed ≡ s.proposed
arrival_same s a New = refl
arrival_same s a Waits_already = refl
arrival_same s a Answered_last = refl
arrival_same s a Past = refl

own_same : (me : ℕ) (s : State) (o : Option Request) → (with_own me s o).proposed ≡ s.proposed
own_same me s None = refl
own_same me s (Some r) = arrival_same s (own_arrival me r) (arrival_of s me r.number)

in_hand_same : (me : ℕ) (x : UpNode) (s : State) (a : Arrived) → (cuts.in_hand me x s a).proposed ≡ s.proposed
in_hand_same me x s a =
    if_either (λ (z : State). z.proposed ≡ s.proposed) (a.from == me) (with_own me s (oldest (queue.answered x.requests a.number))) s
    (own_same me s (oldest (queue.answered x.requests a.number))) refl

answered_none : (s : State) (text : List ℕ) → s.proposed ≡ None → (arrivals.answered s text).proposed ≡ None
answered_none s text none = by_arrived s.arrived
  where
    by_arrived : (arrived : List Arrived) → (answer_first s arrived text).proposed ≡ None
    by_arrived [] = none
    by_arrived (a ∷ rest) = refl

first_answered : (s : State) (text : List ℕ) (a : Arrived) → first_in s.arrived ≡ Some a → (arrivals.answered s text).proposed ≡ None
first_answered s text a is = by_arrived s.arrived is
  where
    by_arrived : (arrived : List Arrived) → first_in arrived ≡ Some a → (answer_first s arrived text).proposed ≡ None
    by_arrived [] h = absurd (none_some a h)
    by_arrived (b ∷ rest) h = refl

-- q is what it has in hand then
answering_to : (c : Cluster) (me : ℕ) (told : Delivered) (x : UpNode) (p q : Presidency) (a : Arrived) (given : Answer) → x.presidency ≡ Some p → President x
    → p.proposals.proposed ≡ None → q.proposals.proposed ≡ None → MayTo c me told President x (cuts.answering_course c me x q a given)
answering_to c me told x p q a given is h none still =
    let left : Presidency = cuts.left_by_answer me x q a given in
    let same : SameProposed x.presidency (Some left) =
    same_of x.presidency p left is (in_hand_same me x (arrivals.answered q.proposals (reply_text given)) a ∙ (answered_none q.proposals (reply_text given) still ∙ sym none)) in
    (answer_nothing me x a given, (same, decides c me told (cuts.left_answered me x q a given) (minded_president x (cuts.queue_by me x a) (Some left) same h)))

-- An acknowledgement.

no_more : (a b : ℕ) → a ≡ b → a ≤ b
no_more a b e = grind arith

up_same : (s : ConfigState) (p : Presidency) (r : Result AdminCommand WordError) → (taken_up s p r).proposals ≡ p.proposals
up_same s p (Ok (wish.Change u)) = refl
up_same s p (Ok (wish.Act a)) = refl
up_same s p (Ok (wish.Status q)) = refl
up_same s p (Ok (wish.Rows name)) = refl
up_same s p (Err e) = refl

acknowledged_to : (c : Cluster) (me : ℕ) (told : Delivered) (x : UpNode) (p : Presidency) (s : NodeState) (a : Arrived) (text : List ℕ) → x.presidency ≡ Some p → x.seat ≡ Member s
    → President x → is_prepared p.proposals ≡ true → first_in p.proposals.arrived ≡ Some a → MayTo c me told President x (cuts.acknowledged_course c me x p a text)
acknowledged_to c me told x p s a text is at h prepared first =
    let q : Presidency = with_committed c x p text in
    let same : q.proposals ≡ p.proposals = up_same (in_force c (committing x)) p (command_of (version_of c) text) in
    let left : Presidency = cuts.left_by_answer me x q a answer.Ok in
    let none : left.proposals.proposed ≡ None =
    in_hand_same me x (arrivals.answered q.proposals (reply_text answer.Ok)) a
    ∙ first_answered q.proposals (reply_text answer.Ok) a (ap (λ (z : State). first_in z.arrived) same ∙ first) in
    let t : NodeState = with_entries (state_of x.seat) (all_committed (record_of x).entries) in
    let e : state_of (with_state x.seat t) ≡ t = state_with x.seat t in
    let y : UpNode = changed c me x (acks_of c me x p a text) in
    let president : OfPresident (Some left) y.seat =
    subst (λ z. OfPresident (Some left) (with_state z (with_entries (state_of z) (all_committed (state_of z).saved.entries)))) (sym at)
    (subst (λ o. OfProposed (with_entries s (all_committed s.saved.entries)) o) (sym none) refl) in
    let standing : Standing y =
    standing_with x y s (all_committed s.saved.entries) at (ap (λ z. with_state z (with_entries (state_of z) (all_committed (state_of z).saved.entries))) at) refl h.1 in (
      (is, member_seat x s at, prepared, none),
      (
        (refl, sym (ap (λ (z : NodeState). z.session) e), no_more _ _ (sym (ap (λ (z : NodeState). length z.saved.entries.committed) e))),
        (answer_nothing me x a answer.Ok, decides c me told y (president, standing)),
      ),
    )

acknowledging_to : (c : Cluster) (me : ℕ) (told : Delivered) (x : UpNode) (p : Presidency) → x.presidency ≡ Some p → President x → is_prepared p.proposals ≡ true
    → MayTo c me told President x (acknowledging_course c me x)
acknowledging_to c me told x p is h prepared =
    subst (λ o. MayTo c me told President x (cuts.acknowledging_by_course c me x o)) (sym is)
    (presiding x p (MayTo c me told President x (cuts.acknowledging_by_course c me x (Some p))) is h (λ s at facts.
    by_first s at (first_in p.proposals.arrived) (record_of x).entries.pending refl))
  where
    by_first : (s : NodeState) → x.seat ≡ Member s → (first : Option Arrived) (pending : Option (List ℕ)) → first_in p.proposals.arrived ≡ first
        → MayTo c me told President x (cuts.acknowledging_text_course c me x p first pending)
    by_first s at (Some a) (Some text) e = acknowledged_to c me told x p s a text is at h prepared e
    by_first s at None pending e = h
    by_first s at (Some a) None e = h

-- A proposal.

proposing_to : (c : Cluster) (me : ℕ) (told : Delivered) (x : UpNode) (p : Presidency) (text : List ℕ) → x.presidency ≡ Some p → President x → p.proposals.proposed ≡ None
    → IsAccepted c x p text → MayTo c me told President x (cuts.proposing_course c me x p text)
proposing_to c me told x p text is h none good =
    presiding x p (MayTo c me told President x (cuts.proposing_course c me x p text)) is h (λ s at facts.
    let t : NodeState = with_entries (state_of x.seat) (with_next (record_of x).entries text) in
    let e : state_of (with_state x.seat t) ≡ t = state_with x.seat t in
    let y : UpNode = proposed_by c me x p text in
    let q : Presidency = record p { proposals = proposing p.proposals (next_place x) (others_of me x) } in
    let president : OfPresident (Some q) y.seat =
    subst (λ z. OfPresident (Some (record p { proposals = proposing p.proposals (length (texts_of (state_of z).saved.entries) + 1) (others_of me x) })) (with_state z (with_entries (state_of z) (with_next (state_of z).saved.entries text))))
    (sym at) (sym (one_longer (texts_of s.saved.entries) text)) in
    let standing : Standing y =
    standing_with x y s (with_next s.saved.entries text) at (ap (λ z. with_state z (with_entries (state_of z) (with_next (state_of z).saved.entries text))) at) refl h.1 in
    let after : President y = (president, standing) in (
      (is, member_seat x s at, none, good),
      (
        (
          refl,
          sym (ap (λ (z : NodeState). z.session) e),
          sym (one_longer (texts_of (record_of x).entries) text) ∙ sym (ap (λ (z : NodeState). length (texts_of z.saved.entries)) e),
          ap (λ (z : NodeState). z.saved.entries.pending) e,
        ),
        if_with (MayTo c me told President y) (others_of me x == 0) (others_of me x == 0) (acknowledging_course c me y) Stops refl
            (λ alone. acknowledging_to c me told y q refl after alone) (λ alone. after),
      ),
    ))

-- What is no update is done at once.

acting_to : (c : Cluster) (me : ℕ) (told : Delivered) (x : UpNode) (p : Presidency) (a : Arrived) (ask : Ask) → x.presidency ≡ Some p → President x → p.proposals.proposed ≡ None
    → MayTo c me told President x (cuts.acting_course c me x p a ask)
acting_to c me told x p a ask is h none =
    let q : Presidency = with_act c me x p a ask in
    if_either (MayTo c me told President x) (may_order p.groups) _ Stops
    (orders_nothing me (orders_for p.groups ask), answering_to c me told x p q a answer.Ok is h none none) h

taken_as_to : (c : Cluster) (me : ℕ) (told : Delivered) (x : UpNode) (p : Presidency) (a : Arrived) (r : Result Accepted CheckError) → x.presidency ≡ Some p → President x
    → p.proposals.proposed ≡ None → ((u : Update) → r ≡ Ok (accepted.Change u) → IsAccepted c x p (words_of u)) → MayTo c me told President x (cuts.taken_as_course c me x p a r)
taken_as_to c me told x p a (Ok (accepted.Change u)) is h none good = proposing_to c me told x p (words_of u) is h none (good u refl)
taken_as_to c me told x p a (Ok (accepted.Act ask)) is h none good = acting_to c me told x p a ask is h none
taken_as_to c me told x p a (Ok (accepted.Query q)) is h none good = answering_to c me told x p p a answer.Ok is h none none
taken_as_to c me told x p a (Err (because.Refused r)) is h none good = answering_to c me told x p p a (answer.Refused r) is h none none
taken_as_to c me told x p a (Err because.NoMemory) is h none good = h

-- an act is no update
act_is_no_change : (o : Option Refusal) (ask : Ask) (u : Update) → unless_refused o (accepted.Act ask) ≡ Ok (accepted.Change u) → ⊥
act_is_no_change None ask u h = cc
act_is_no_change (Some r) ask u h = cc

taken_to : (c : Cluster) (me : ℕ) (told : Delivered) (x : UpNode) (p : Presidency) (a : Arrived) (r : Result wanted.Request WordError) → x.presidency ≡ Some p → President x
    → p.proposals.proposed ≡ None → request_of (version_of c) a.text ≡ r → MayTo c me told President x (cuts.taken_course c me x p a r)
taken_to c me told x p a (Ok (asked.Change u)) is h none read =
    if_either (MayTo c me told President x) (is_busy p.groups) Stops (cuts.taken_as_course c me x p a (checked c x p (wish.Change u))) h
    (taken_as_to c me told x p a (checked c x p (wish.Change u)) is h none
    (λ v e. record { asked_for = a.text; request = u; update = v; read = read; checked_so = e; words = refl }))
taken_to c me told x p a (Ok (asked.Act ask)) is h none read =
    if_either (MayTo c me told President x) (is_busy p.groups && is_clear ask) Stops (cuts.taken_as_course c me x p a (checked c x p (wish.Act ask))) h
    (taken_as_to c me told x p a (checked c x p (wish.Act ask)) is h none (λ v e. absurd (act_is_no_change _ ask v e)))
taken_to c me told x p a (Err e) is h none read = answering_to c me told x p p a (word_answer e) is h none none

-- Turn by turn.

turn_of_to : (c : Cluster) (me : ℕ) (told : Delivered) (x : UpNode) (p : Presidency) (proposed : Option Proposed) (first : Option Arrived) → x.presidency ≡ Some p → President x
    → p.proposals.proposed ≡ proposed → MayTo c me told President x (cuts.turn_of_course c me x p proposed first)
turn_of_to c me told x p None (Some a) is h e = taken_to c me told x p a (request_of (version_of c) a.text) is h e refl
turn_of_to c me told x p None None is h e = h
turn_of_to c me told x p (Some proposed) first is h e = h

turn_by_to : (c : Cluster) (me : ℕ) (told : Delivered) (x : UpNode) (o : Option Presidency) → x.presidency ≡ o → President x → MayTo c me told President x (cuts.turn_by_course c me x o)
turn_by_to c me told x None is h = h
turn_by_to c me told x (Some p) is h = turn_of_to c me told x p p.proposals.proposed (first_in p.proposals.arrived) is h refl

turns_to : (c : Cluster) (me : ℕ) (told : Delivered) (x : UpNode) (k : ℕ) → President x → MayTo c me told President x (turns_course c me x k)
turns_to c me told x zero h = h
turns_to c me told x (suc k) h =
    joined_to c me told President President x (turns_course c me x k) (one_turn_course c me) (turns_to c me told x k h) (λ y g. turn_by_to c me told y y.presidency refl g)

handling_to : (c : Cluster) (me : ℕ) (told : Delivered) (x : UpNode) → President x → MayTo c me told President x (handling_course c me x)
handling_to c me told x h = turns_to c me told x (requests_of x x.presidency) h

-- A request comes.

kept_again_to : (c : Cluster) (me : ℕ) (told : Delivered) (x : UpNode) (from : ℕ) (o : Option Kept) → President x → MayTo c me told President x (cuts.kept_again_course x from o)
kept_again_to c me told x from None h = h
kept_again_to c me told x from (Some k) h = (tt, h)

arrived_to : (c : Cluster) (me : ℕ) (told : Delivered) (x : UpNode) (p : Presidency) (a : Arrived) (arrival : Arrival) → x.presidency ≡ Some p → President x
    → MayTo c me told President x (cuts.arrived_course c me x p a arrival)
arrived_to c me told x p a New is h =
    let s : State = with_arrival p.proposals a New in
    let q : Presidency = record p { proposals = s } in
    let same : SameProposed x.presidency (Some q) = same_of x.presidency p q is refl in
    (same, handling_to c me told (with_proposals x p s) (minded_president x x.requests (Some q) same h))
arrived_to c me told x p a Waits_already is h = h
arrived_to c me told x p a Answered_last is h = kept_again_to c me told x a.from (kept_at p.proposals.answers a.from) h
arrived_to c me told x p a Past is h = h

arriving_to : (c : Cluster) (me : ℕ) (told : Delivered) (x : UpNode) (p : Presidency) (a : Arrived) → x.presidency ≡ Some p → President x → MayTo c me told President x (cuts.arriving_course c me x p a)
arriving_to c me told x p a is h = arrived_to c me told x p a (arrival_of p.proposals a.from a.number) is h

requested_to : (c : Cluster) (me : ℕ) (told : Delivered) (x : UpNode) (from number : ℕ) (text : List ℕ) (o : Option Presidency) → x.presidency ≡ o → President x
    → MayTo c me told President x (cuts.requested_course c me x from number text o)
requested_to c me told x from number text None is h = h
requested_to c me told x from number text (Some p) is h = arriving_to c me told x p (record { from = from; number = number; text = text }) is h

pub asked_to : (c : Cluster) (me : ℕ) (told : Delivered) (x : UpNode) (from e number : ℕ) (text : List ℕ) → President x → MayTo c me told President x (cuts.asked_course c me x from e number text)
asked_to c me told x from e number text h =
    if_either (MayTo c me told President x) (is_of_member x from e) (cuts.requested_course c me x from number text x.presidency) Stops
    (requested_to c me told x from number text x.presidency refl h) h

-- Requests of the node itself.

request_to_to : (c : Cluster) (me : ℕ) (told : Delivered) (x : UpNode) (r : Request) (o : Option ℕ) → President x → MayTo c me told President x (cuts.request_to_course x r o)
request_to_to c me told x r None h = h
request_to_to c me told x r (Some president) h = (tt, h)

asking_of_to : (c : Cluster) (me : ℕ) (told : Delivered) (x : UpNode) (r : Request) (o : Option Presidency) → x.presidency ≡ o → President x → MayTo c me told President x (cuts.asking_of_course c me x r o)
asking_of_to c me told x r None is h = request_to_to c me told x r (coordinator_of x) h
asking_of_to c me told x r (Some p) is h = arriving_to c me told x p (own_arrival me r) is h

asking_for_to : (c : Cluster) (me : ℕ) (told : Delivered) (x : UpNode) (o : Option Request) → President x → MayTo c me told President x (cuts.asking_for_course c me x o)
asking_for_to c me told x None h = h
asking_for_to c me told x (Some r) h = asking_of_to c me told x r x.presidency refl h

asking_to : (c : Cluster) (me : ℕ) (told : Delivered) (x : UpNode) → President x → MayTo c me told President x (cuts.asking_course c me x)
asking_to c me told x h = asking_for_to c me told x (oldest x.requests) h

replying_to : (c : Cluster) (me : ℕ) (told : Delivered) (x : UpNode) (number : ℕ) (given : Answer) → President x → MayTo c me told President x (cuts.replying_course me number given)
replying_to c me told x number given h = ((tt, tt), h)

waiting_to : (c : Cluster) (me : ℕ) (told : Delivered) (x : UpNode) (number : ℕ) (text : List ℕ) → President x → MayTo c me told President x (cuts.waiting_course c me x number text)
waiting_to c me told x number text h =
    let y : UpNode = waiting_with x number text in
    let alone : Bool = is_idle x.requests.waiting in
    if_either (MayTo c me told President x) (is_full x.requests) (cuts.replying_course me number answer.QueueFull) _ (replying_to c me told x number answer.QueueFull h)
    (same_proposed x.presidency, if_either (MayTo c me told President y) alone (cuts.asking_course c me y) Stops (asking_to c me told y h) h)

elsewhere_to : (c : Cluster) (me : ℕ) (told : Delivered) (x : UpNode) (number : ℕ) (o : Option ℕ) → President x → MayTo c me told President x (cuts.elsewhere_course me number o)
elsewhere_to c me told x number None h = h
elsewhere_to c me told x number (Some president) h = ((tt, tt), h)

lines_nothing : (lines : List StatusEntry) → TellNothing (told_lines lines)
lines_nothing [] = tt
lines_nothing (l ∷ lines) = (tt, lines_nothing lines)

telling_to : (c : Cluster) (me : ℕ) (told : Delivered) (x : UpNode) (number : ℕ) (lines : List StatusEntry) → President x → MayTo c me told President x (cuts.telling_course me number lines)
telling_to c me told x number lines h = (lines_nothing lines, ((tt, tt), h))

query_to : (c : Cluster) (me : ℕ) (told : Delivered) (x : UpNode) (p : Presidency) (number : ℕ) (s : ConfigState) (r : Result Accepted CheckError) → President x
    → MayTo c me told President x (cuts.query_course me x p number s r)
query_to c me told x p number s (Ok (accepted.Query q)) h = telling_to c me told x number (query_lines x p s q) h
query_to c me told x p number s (Ok (accepted.Change u)) h = h
query_to c me told x p number s (Ok (accepted.Act ask)) h = h
query_to c me told x p number s (Err (because.Refused r)) h = replying_to c me told x number (answer.Refused r) h
query_to c me told x p number s (Err because.NoMemory) h = h

queried_to : (c : Cluster) (me : ℕ) (told : Delivered) (x : UpNode) (number : ℕ) (question : AdminCommand) (o : Option Presidency) → President x
    → MayTo c me told President x (cuts.queried_course c me x number question o)
queried_to c me told x number question None h = elsewhere_to c me told x number (coordinator_of x) h
queried_to c me told x number question (Some p) h =
    if_either (MayTo c me told President x) (is_full x.requests) (cuts.replying_course me number answer.QueueFull) (cuts.query_course me x p number (in_force c x) (checked c x p question))
    (replying_to c me told x number answer.QueueFull h) (query_to c me told x p number (in_force c x) (checked c x p question) h)

commanded_to : (c : Cluster) (me : ℕ) (told : Delivered) (x : UpNode) (number : ℕ) (command : AdminCommand) → President x → MayTo c me told President x (cuts.commanded_course c me x number command)
commanded_to c me told x number (wish.Change u) h = waiting_to c me told x number (words_of u) h
commanded_to c me told x number (wish.Act a) h = waiting_to c me told x number (ask_words_of a) h
commanded_to c me told x number (wish.Status q) h = queried_to c me told x number (wish.Status q) x.presidency h
commanded_to c me told x number (wish.Rows table) h = queried_to c me told x number (wish.Rows table) x.presidency h

worded_to : (c : Cluster) (me : ℕ) (told : Delivered) (x : UpNode) (number : ℕ) (r : Result AdminCommand WordError) → President x → MayTo c me told President x (cuts.worded_course c me x number r)
worded_to c me told x number (Err e) h = replying_to c me told x number (word_answer e) h
worded_to c me told x number (Ok command) h =
    if_either (MayTo c me told President x) (seats.is_member x.seat) (cuts.commanded_course c me x number command) (cuts.replying_course me number answer.NotMember)
    (commanded_to c me told x number command h) (replying_to c me told x number answer.NotMember h)

pub command_to : (c : Cluster) (me : ℕ) (told : Delivered) (x : UpNode) (words : List ℕ) → President x → MayTo c me told President x (cuts.command_course c me x words)
command_to c me told x words h =
    ((tt, tt), (same_proposed x.presidency, worded_to c me told (numbered x) (next_number x.requests) (command_of (version_of c) words) h))

replied_to_to : (c : Cluster) (me : ℕ) (told : Delivered) (x : UpNode) (number : ℕ) (given : Answer) (o : Option Request) → President x
    → MayTo c me told President x (cuts.replied_to_course c me x number given o)
replied_to_to c me told x number given None h = h
replied_to_to c me told x number given (Some r) h =
    (own_nothing me given (Some r), (same_proposed x.presidency, asking_to c me told (record x { requests = queue.answered x.requests number }) h))

replied_as_to : (c : Cluster) (me : ℕ) (told : Delivered) (x : UpNode) (number : ℕ) (o : Option Answer) → President x → MayTo c me told President x (cuts.replied_course c me x number o)
replied_as_to c me told x number None h = h
replied_as_to c me told x number (Some given) h = replied_to_to c me told x number given (found x.requests.waiting number) h

pub reply_to : (c : Cluster) (me : ℕ) (told : Delivered) (x : UpNode) (e number : ℕ) (o : Option Answer) → President x → MayTo c me told President x (cuts.reply_course c me x e number o)
reply_to c me told x e number o h =
    if_either (MayTo c me told President x) (seats.is_member x.seat && is_in x e) (cuts.replied_course c me x number o) Stops (replied_as_to c me told x number o h) h

-- A member has prepared.

pub in_session : (x : UpNode) (p : ℕ) → is_in x p ≡ true → (0 < p) × (p ≡ session_of x)
in_session x p h =
    let two : (nat_le 1 p ≡ true) × ((session_of x == p) ≡ true) = and_cases (nat_le 1 p) (session_of x == p) h in
    (low p two.0, sym (same_number (session_of x) p two.1))
  where
    low : (k : ℕ) → nat_le 1 k ≡ true → 0 < k
    low k e = grind arith

less_facts : (s : NodeState) (o : Option Proposed) (from place : ℕ) → OfProposed s o → OfProposed s (less o from place)
less_facts s None from place h = h
less_facts s (Some p) from place h = if_either (λ o. OfProposed s o) (p.place == place) (Some (record p { missing = set_without p.missing from })) (Some p) h h

prepared_all_to : (c : Cluster) (me : ℕ) (told : Delivered) (x : UpNode) (p : Presidency) → x.presidency ≡ Some p → President x → MayTo c me told President x (cuts.prepared_all_course c me x p)
prepared_all_to c me told x p is h =
    if_with (MayTo c me told President x) (is_prepared p.proposals) (is_prepared p.proposals) (joined c me x (acknowledging_course c me x) (handling_course c me)) Stops refl
    (λ e. joined_to c me told President President x (acknowledging_course c me x) (handling_course c me) (acknowledging_to c me told x p is h e) (λ y g. handling_to c me told y g))
    (λ e. h)

prepared_at_to : (c : Cluster) (me : ℕ) (told : Delivered) (x : UpNode) (from place : ℕ) (o : Option Presidency) → x.presidency ≡ o → President x
    → Comes from (body.Prepared (session_of x) place) told → MayTo c me told President x (cuts.prepared_at_course c me x from place o)
prepared_at_to c me told x from place None is h comes = h
prepared_at_to c me told x from place (Some p) is h comes =
    let s : State = prepared_by p.proposals from place in
    let q : Presidency = record p { proposals = s } in
    presiding x p (MayTo c me told President x (cuts.prepared_at_course c me x from place (Some p))) is h (λ t at facts. (
      (is, comes),
      prepared_all_to c me told (with_proposals x p s) q refl (subst (λ z. OfPresident (Some q) z) (sym at) (less_facts t p.proposals.proposed from place facts), h.1),
    ))

pub prepared_to : (c : Cluster) (me : ℕ) (x : UpNode) (from e place : ℕ) (m : Message) → m.body ≡ body.Prepared e place → President x
    → MayTo c me (Some (from, m)) President x (cuts.prepared_course c me x from e place)
prepared_to c me x from e place m is h =
    if_with (MayTo c me (Some (from, m)) President x) (is_of_member x from e) (is_of_member x from e) (cuts.prepared_at_course c me x from place x.presidency) Stops refl
    (λ b.
    let in_it : is_in x e ≡ true = (and_cases (seats.is_member x.seat) (is_in x e) (and_cases (seats.is_member x.seat && is_in x e) (has (record_of x).members from) b).0).1 in
    prepared_at_to c me (Some (from, m)) x from place x.presidency refl h (refl, is ∙ ap (λ q. body.Prepared q place) (in_session x e in_it).1))
    (λ b. h)

-- Orders.

done_at_to : (c : Cluster) (me : ℕ) (told : Delivered) (x : UpNode) (from number : ℕ) (outcome : Outcome) (o : Option Presidency) → x.presidency ≡ o → President x
    → MayTo c me told President x (cuts.done_at_course c me x from number outcome o)
done_at_to c me told x from number outcome None is h = h
done_at_to c me told x from number outcome (Some p) is h =
    let q : Presidency = with_ended c x p from number outcome in
    let y : UpNode = record x { presidency = Some q } in
    let same : SameProposed x.presidency (Some q) = same_of x.presidency p q is refl in
    if_either (MayTo c me told President x) (order.is_due p.groups.view from number) _ Stops (
      same,
      joined_to c me told President President y (deciding_course c me y) (handling_course c me)
          (decides c me told y (minded_president x x.requests (Some q) same h)) (λ z g. handling_to c me told z g),
    ) h

pub done_to : (c : Cluster) (me : ℕ) (told : Delivered) (x : UpNode) (from e number : ℕ) (outcome : Outcome) → President x
    → MayTo c me told President x (cuts.done_course c me x from e number outcome)
done_to c me told x from e number outcome h =
    if_either (MayTo c me told President x) (is_of_member x from e) (cuts.done_at_course c me x from number outcome x.presidency) Stops
    (done_at_to c me told x from number outcome x.presidency refl h) h

order_nothing : (me : ℕ) (o : Order) (how : Carried) → TellNothing (order_told me o how)
order_nothing me o (carried.Called outcome) = by_method o.method
  where
    by_method : (m : Option Method) → TellNothing (call_told me o outcome m)
    by_method None = tt
    by_method (Some m) = (tt, (tt, tt))
order_nothing me o carried.Cleared = tt
order_nothing me o (carried.Kept outcome) = tt
order_nothing me o carried.Old = tt

-- whatever holds of the node and speaks of nothing that it keeps of groups
carrying_to : (c : Cluster) (me : ℕ) (told : Delivered) (P : UpNode → Type 0) (x : UpNode) (o : Order) (how : Carried)
    → P (record x { worker = after_order x.worker (own_config c x) o x.second how }) → MayTo c me told P x (cuts.carrying_course c me x o how)
carrying_to c me told P x o how h =
    (order_nothing me o how, if_either (MayTo c me told P x) (is_last c x o how) (Course_falls (down.Panic (panic.Stop o.resource))) _ tt (tt, h))

order_answered_to : (c : Cluster) (me : ℕ) (told : Delivered) (from : ℕ) (o : Order) (how : Carried) (x : UpNode) → MayTo c me told Any x (cuts.order_answered_course from o how x)
order_answered_to c me told from o carried.Old x = tt
order_answered_to c me told from o (carried.Called outcome) x = (tt, tt)
order_answered_to c me told from o carried.Cleared x = (tt, tt)
order_answered_to c me told from o (carried.Kept outcome) x = (tt, tt)

pub order_to : (c : Cluster) (me : ℕ) (told : Delivered) (outcome : Outcome) (x : UpNode) (from : ℕ) (o : Order) → MayTo c me told Any x (cuts.order_course c me outcome x from o)
order_to c me told outcome x from o =
    let how : Carried = answer_to x.worker o outcome in
    if_either (MayTo c me told Any x) (seats.is_member x.seat && is_in x o.epoch) (cuts.obeying_course c me x from o how) Stops
    (joined_to c me told Any Any x (cuts.carrying_course c me x o how) (cuts.order_answered_course from o how) (carrying_to c me told Any x o how tt)
    (λ y h. order_answered_to c me told from o how y))
    tt

own_turn_to : (c : Cluster) (me : ℕ) (told : Delivered) (outcome : Outcome) (x : UpNode) (o : Option Order) → President x
    → MayTo c me told President x (cuts.own_turn_course c me outcome x o)
own_turn_to c me told outcome x None h = h
own_turn_to c me told outcome x (Some o) h =
    let how : Carried = answer_to x.worker o outcome in
    joined_to c me told President President x (cuts.carrying_course c me x o how) (cuts.own_done_course c me o how) (carrying_to c me told President x o how h)
    (λ y g. done_at_to c me told y me o.number (outcome_in how) y.presidency refl g)

-- While an update is proposed, the president takes up no request, and its seat stays.

abbrev proposed_in : Option Presidency → Option Proposed
proposed_in None = None
proposed_in (Some p) = p.proposals.proposed

abbrev Held : Seat → Proposed → UpNode → Type 0
Held seat q x = (x.seat ≡ seat) × (proposed_in x.presidency ≡ Some q)

held_same : (o : Option Presidency) (p : Presidency) (q : Proposed) → SameProposed o (Some p) → proposed_in o ≡ Some q → p.proposals.proposed ≡ Some q
held_same None p q same h = absurd same
held_same (Some r) p q same h = same ∙ h

held_turn : (c : Cluster) (me : ℕ) (told : Delivered) (seat : Seat) (q : Proposed) (x : UpNode) (o : Option Presidency) → proposed_in o ≡ Some q → Held seat q x
    → MayTo c me told (Held seat q) x (cuts.turn_by_course c me x o)
held_turn c me told seat q x None is h = absurd (none_some q is)
held_turn c me told seat q x (Some p) is h = subst (λ z. MayTo c me told (Held seat q) x (cuts.turn_of_course c me x p z (first_in p.proposals.arrived))) (sym is) h

held_turns : (c : Cluster) (me : ℕ) (told : Delivered) (seat : Seat) (q : Proposed) (x : UpNode) (k : ℕ) → Held seat q x → MayTo c me told (Held seat q) x (turns_course c me x k)
held_turns c me told seat q x zero h = h
held_turns c me told seat q x (suc k) h =
    joined_to c me told (Held seat q) (Held seat q) x (turns_course c me x k) (one_turn_course c me) (held_turns c me told seat q x k h)
    (λ y g. held_turn c me told seat q y y.presidency g.1 g)

held_decides : (c : Cluster) (me : ℕ) (told : Delivered) (seat : Seat) (q : Proposed) (x : UpNode) → Held seat q x → MayTo c me told (Held seat q) x (deciding_course c me x)
held_decides c me told seat q x h = deciding_to c me told (Held seat q) x h (λ p same. (h.0, held_same x.presidency p q same h.1))

held_done : (c : Cluster) (me : ℕ) (told : Delivered) (seat : Seat) (q : Proposed) (x : UpNode) (from number : ℕ) (outcome : Outcome) (o : Option Presidency) → x.presidency ≡ o
    → Held seat q x → MayTo c me told (Held seat q) x (cuts.done_at_course c me x from number outcome o)
held_done c me told seat q x from number outcome None is h = h
held_done c me told seat q x from number outcome (Some p) is h =
    let r : Presidency = with_ended c x p from number outcome in
    let y : UpNode = record x { presidency = Some r } in
    let same : SameProposed x.presidency (Some r) = same_of x.presidency p r is refl in
    if_either (MayTo c me told (Held seat q) x) (order.is_due p.groups.view from number) _ Stops (
      same,
      joined_to c me told (Held seat q) (Held seat q) y (deciding_course c me y) (handling_course c me)
          (held_decides c me told seat q y (h.0, held_same x.presidency r q same h.1)) (λ z g. held_turns c me told seat q z (requests_of z z.presidency) g),
    ) h

held_own_turn : (c : Cluster) (me : ℕ) (told : Delivered) (seat : Seat) (q : Proposed) (outcome : Outcome) (x : UpNode) (o : Option Order) → Held seat q x
    → MayTo c me told (Held seat q) x (cuts.own_turn_course c me outcome x o)
held_own_turn c me told seat q outcome x None h = h
held_own_turn c me told seat q outcome x (Some o) h =
    let how : Carried = answer_to x.worker o outcome in
    joined_to c me told (Held seat q) (Held seat q) x (cuts.carrying_course c me x o how) (cuts.own_done_course c me o how) (carrying_to c me told (Held seat q) x o how h)
    (λ y g. held_done c me told seat q y me o.number (outcome_in how) y.presidency refl g)

both_to : (c : Cluster) (me : ℕ) (told : Delivered) (P Q : UpNode → Type 0) (x : UpNode) (k : Course) → MayTo c me told P x k → MayTo c me told Q x k → MayTo c me told (λ y. P y × Q y) x k
both_to c me told P Q x Stops h i = (h, i)
both_to c me told P Q x (Acts a rest) h i = (h.0, both_to c me told P Q (acted c me x a) rest h.1 i.1)
both_to c me told P Q x (Keeps ch rest) h i = (h.0, both_to c me told P Q (changed c me x ch) rest h.1 i.1)
both_to c me told P Q x (Course_falls why) h i = tt

-- What goes again at a tick.

again_nothing : (me : ℕ) (before x : UpNode) → TellNothing (orders_again before x)
unfolding orders_again_of
again_nothing me before x = by_both before.presidency x.presidency
  where
    one_nothing : (n : ℕ) (o : Option Order) → TellNothing (order_again_to n o)
    one_nothing n None = tt
    one_nothing n (Some o) = (tt, tt)

    of_nothing : (d : ℕ) (p : PresidentState) → TellNothing (orders_again_of d p)
    of_nothing d p =
        nothing_of (order_again d p) (numbers_to p.view.members most_nodes) (λ n. if_either TellNothing (has d n) (order_again_to n (order_at n p)) [] (one_nothing n (order_at n p)) tt)

    by_both : (o r : Option Presidency) → TellNothing (orders_again_by o r)
    by_both None r = tt
    by_both (Some p) None = tt
    by_both (Some p) (Some r) = of_nothing (due p.sent) r.groups

ends_again : (c : Cluster) (me : ℕ) (told : Delivered) (before z : UpNode) → President z → MayTo c me told President z (Acts (Gives (orders_again before z)) (deciding_course c me z))
ends_again c me told before z h = (again_nothing me before z, decides c me told z h)

-- y is the node at the tick
pub governing_to : (c : Cluster) (me : ℕ) (told : Delivered) (outcome : Outcome) (x y : UpNode) → y.seat ≡ x.seat → SameProposed x.presidency y.presidency → President x → President y
    → MayTo c me told President y (cuts.governing_course c me outcome x y)
governing_to c me told outcome x y seat same f h = by_presidency x.presidency refl
  where
    turn : Course
    turn = cuts.own_turn_course c me outcome y (own_order me y)

    Next : Option Presidency → UpNode → Course
    Next o z = cuts.prepares_again_course x o (Acts (Gives (orders_again x z)) (deciding_course c me z))

    none_again : (o : Option Presidency) → ((z : UpNode) → President z → MayTo c me told President z (Next o z)) → MayTo c me told President y (joined c me y turn (Next o))
    none_again o go = joined_to c me told President President y turn (Next o) (own_turn_to c me told outcome y (own_order me y) h) go

    proposed_y : (o r : Option Presidency) (p : Presidency) (q : Proposed) → o ≡ Some p → SameProposed o r → p.proposals.proposed ≡ Some q → proposed_in r ≡ Some q
    proposed_y None r p q is e k = absurd (none_some p is)
    proposed_y (Some o) None p q is e k = absurd e
    proposed_y (Some o) (Some r) p q is e k = e ∙ (ap (λ z. proposed_in z) is ∙ k)

    some_of : (o : Option Presidency) (q : Proposed) → proposed_in o ≡ Some q → IsSome o
    some_of None q e = absurd (none_some q e)
    some_of (Some p) q e = refl

    may_again : (p : Presidency) (q : Proposed) (text : List ℕ) (z : UpNode) → x.presidency ≡ Some p → p.proposals.proposed ≡ Some q → (record_of x).entries.pending ≡ Some text
        → Held y.seat q z → MayWrite z (body.Prepare (session_of x) q.place text)
    may_again p q text z is e pending held =
        let at : x.seat ≡ z.seat = sym seat ∙ sym held.0 in
        presiding x p (MayWrite z (body.Prepare (session_of x) q.place text)) is f (λ s member facts. (
          some_of z.presidency q held.1,
          ap (λ w. (state_of w).session) at,
          subst (λ o. OfProposed s o) e facts ∙ ap (λ w. length (texts_of (state_of w).saved.entries)) (sym member ∙ at),
          ap (λ w. (state_of w).saved.entries.pending) (sym at) ∙ pending,
        ))

    by_presidency : (o : Option Presidency) → x.presidency ≡ o → MayTo c me told President y (joined c me y turn (Next o))
    by_presidency None is = none_again None (λ z g. ends_again c me told x z g)
    by_presidency (Some p) is = by_proposed p.proposals.proposed (record_of x).entries.pending refl refl
      where
        ends : UpNode → Course
        ends z = Acts (Gives (orders_again x z)) (deciding_course c me z)

        Then : Option Proposed → Option (List ℕ) → UpNode → Course
        Then o pending z = if goes_again p.proposals then cuts.prepares_course x o pending (ends z) else ends z

        by_proposed : (o : Option Proposed) (pending : Option (List ℕ)) → p.proposals.proposed ≡ o → (record_of x).entries.pending ≡ pending
            → MayTo c me told President y (joined c me y turn (Then o pending))
        by_proposed (Some q) (Some text) e last =
            joined_to c me told (λ z. President z × Held y.seat q z) President y turn (Then (Some q) (Some text))
            (both_to c me told President (Held y.seat q) y turn (own_turn_to c me told outcome y (own_order me y) h)
            (held_own_turn c me told y.seat q outcome y (own_order me y) (refl, proposed_y x.presidency y.presidency p q is same e)))
            (λ z g. if_either (MayTo c me told President z) (goes_again p.proposals) (cuts.prepares_course x (Some q) (Some text) (ends z)) (ends z)
            (may_again p q text z is e last g.1, ends_again c me told x z g.0) (ends_again c me told x z g.0))
        by_proposed None pending e last =
            joined_to c me told President President y turn (Then None pending) (own_turn_to c me told outcome y (own_order me y) h)
            (λ z g. if_either (MayTo c me told President z) (goes_again p.proposals) (ends z) (ends z) (ends_again c me told x z g) (ends_again c me told x z g))
        by_proposed (Some q) None e last =
            joined_to c me told President President y turn (Then (Some q) None) (own_turn_to c me told outcome y (own_order me y) h)
            (λ z g. if_either (MayTo c me told President z) (goes_again p.proposals) (ends z) (ends z) (ends_again c me told x z g) (ends_again c me told x z g))

-- A monitor reports.

asking_this_to : (c : Cluster) (me : ℕ) (told : Delivered) (x : UpNode) (o : Option Ask) → President x → MayTo c me told President x (cuts.asking_this_course c me x o)
asking_this_to c me told x None h = h
asking_this_to c me told x (Some ask) h =
    let y : UpNode = monitor_asked x ask in
    let alone : Bool = is_idle x.requests.waiting in
    if_either (MayTo c me told President x) (seats.is_member x.seat && not (is_full x.requests)) _ Stops
    (same_proposed x.presidency, if_either (MayTo c me told President y) alone (cuts.asking_course c me y) Stops (asking_to c me told y h) h) h

reporting_to : (c : Cluster) (me : ℕ) (told : Delivered) (x : UpNode) (r : List ℕ) (p : Probed) → President x → MayTo c me told President x (cuts.reporting_course c me x r p)
reporting_to c me told x r probe.NoMonitor h = h
reporting_to c me told x r probe.Good h = ((tt, tt), (tt, h))
reporting_to c me told x r (probe.Failed a) h = ((tt, tt), (tt, asking_this_to c me told (reported x c r (probe.Failed a)) (asked_by a r) h))

pub report_to : (c : Cluster) (me : ℕ) (told : Delivered) (x : UpNode) (r : List ℕ) (good : Bool) → President x → MayTo c me told President x (cuts.report_course c me x r good)
report_to c me told x r good h = reporting_to c me told x r (probed x.worker (own_config c x) r good x.second) h

-- A client's request.

served_nothing : (name : List ℕ) (client port : ℕ) (o : Option Client) (n : Option ℕ) → TellNothing (forgot_lines name o ++ Tells (entry.Address (Served name client port n)) ∷ [])
served_nothing name client port None n = (tt, tt)
served_nothing name client port (Some k) n = (tt, (tt, tt))

serving_at_to : (c : Cluster) (me : ℕ) (told : Delivered) (s : ConfigState) (x : UpNode) (p : Presidency) (name : List ℕ) (client port : ℕ) (o : Option Address) → x.presidency ≡ Some p → President x
    → MayTo c me told President x (cuts.serving_at_course s x p name client port o)
serving_at_to c me told s x p name client port None is h = h
serving_at_to c me told s x p name client port (Some a) is h =
    let o : serving.Outcome = serving.chosen (clients.state_of p.balancer name) (request_for s p a client port) in
    let q : Presidency = cuts.balanced p name o in
    let same : SameProposed x.presidency (Some q) = subst (λ (z : Option Presidency). SameProposed z (Some q)) (sym is) refl in
    (served_nothing name client port o.forgot o.node, (same, minded_president x x.requests (Some q) same h))

serving_by_to : (c : Cluster) (me : ℕ) (told : Delivered) (x : UpNode) (name : List ℕ) (client port : ℕ) (o : Option Presidency) → x.presidency ≡ o → President x
    → MayTo c me told President x (cuts.serving_by_course c x name client port o)
serving_by_to c me told x name client port None is h = h
serving_by_to c me told x name client port (Some p) is h = serving_at_to c me told (in_force c x) x p name client port (named (in_force c x).addresses name) is h

pub client_to : (c : Cluster) (me : ℕ) (told : Delivered) (x : UpNode) (name : List ℕ) (client port : ℕ) → President x → MayTo c me told President x (cuts.client_course c x name client port)
client_to c me told x name client port h = serving_by_to c me told x name client port x.presidency refl h

-- Prepare.

le_place : (place count : ℕ) → nat_le place count ≡ true → place ≤ count
le_place place count h = grind arith

taken_place : (count place : ℕ) → answer_for count place ≡ Taken → place ≡ count + 1
taken_place count place h = by_tests (nat_le place count) (place == count + 1) refl h
  where
    by_tests : (b d : Bool) → (place == count + 1) ≡ d → (if b then Already else (if d then Taken else Gap (count + 1))) ≡ Taken → place ≡ count + 1
    by_tests true d e g = absurd cc
    by_tests false true e g = same_number place (count + 1) e
    by_tests false false e g = absurd cc

already_place : (count place : ℕ) → answer_for count place ≡ Already → place ≤ count
already_place count place h = by_tests (nat_le place count) (place == count + 1) refl h
  where
    by_tests : (b d : Bool) → nat_le place count ≡ b → (if b then Already else (if d then Taken else Gap (count + 1))) ≡ Already → place ≤ count
    by_tests true d e g = le_place place count e
    by_tests false true e g = absurd cc
    by_tests false false e g = absurd cc

pub or_second : (a b : Bool) → (a || b) ≡ false → b ≡ false
or_second true b h = absurd (false_true (sym h))
or_second false b h = h

and_first : (a b : Bool) → a ≡ true → (a && b) ≡ false → b ≡ false
and_first true b e h = h
and_first false b e h = absurd (false_true e)

not_some : (b : Bool) → not b ≡ false → b ≡ true
not_some true h = refl
not_some false h = absurd (false_true (sym h))

same_place : (x y : ℕ) → x ≡ y → (x == y) ≡ true
same_place x y h = grind arith

three : (a b d : Bool) → a ≡ true → b ≡ true → d ≡ true → (a && b && d) ≡ true
three true true d e f h = h
three true false d e f h = absurd (false_true f)
three false b d e f h = absurd (false_true e)

-- the next update of the node's own membership is not bad
next_good : (c : Cluster) (z : UpNode) (s : NodeState) (e place : ℕ) (text : List ℕ) → z.seat ≡ Member s → is_in z e ≡ true → place ≡ length (texts_of s.saved.entries) + 1
    → is_bad_update c z e place text ≡ false → IsLog c (texts_of s.saved.entries) (Some text)
next_good c z s e place text at in_it last good =
    let next : is_next_of z e place ≡ true =
    three (seats.is_member z.seat) (is_in z e) (place == length (texts_of (record_of z).entries) + 1) (ap (λ y. seats.is_member y) at) in_it
    (same_place place (length (texts_of (record_of z).entries) + 1) (last ∙ ap (λ y. length (texts_of (state_of y).saved.entries) + 1) (sym at))) in
    let some : is_some (config_after c.header (texts_of (record_of z).entries ++ text ∷ [])) ≡ true =
    not_some _ (and_first (is_next_of z e place) _ next (or_second (not (is_update (version_of c) text)) _ good)) in
    log_next c (texts_of s.saved.entries) text (subst (λ y. is_some (config_after c.header (texts_of (state_of y).saved.entries ++ text ∷ [])) ≡ true) at some)

preparing_to : (c : Cluster) (me : ℕ) (x : UpNode) (from e place : ℕ) (m : Message) (s : NodeState) (text : List ℕ) (r : Prepared) → m.body ≡ body.Prepare e place text → x.seat ≡ Member s
    → is_in x e ≡ true → OfMember (Member s) → is_bad_update c x e place text ≡ false → answer_for (length (texts_of s.saved.entries)) place ≡ r
    → MayTo c me (Some (from, m)) Any x (cuts.preparing_course from e place s text r)
preparing_to c me x from e place m s text Taken is at in_it facts good answer_is =
    let last : place ≡ length (texts_of s.saved.entries) + 1 = taken_place (length (texts_of s.saved.entries)) place answer_is in
    let session : e ≡ s.session = (in_session x e in_it).1 ∙ ap (λ z. (state_of z).session) at in (
      (at, is ∙ (ap (λ q. body.Prepare q place text) session ∙ ap (λ k. body.Prepare s.session k text) last), next_good c x s e place text at in_it last good),
      (((in_session x e in_it).0, session, session ∙ facts.1, no_more place _ (last ∙ sym (one_longer (texts_of s.saved.entries) text))), tt),
    )
preparing_to c me x from e place m s text Already is at in_it facts good answer_is =
    let session : e ≡ s.session = (in_session x e in_it).1 ∙ ap (λ z. (state_of z).session) at in (
      (
        (in_session x e in_it).0,
        (in_session x e in_it).1,
        session ∙ (facts.1 ∙ ap (λ z. (state_of z).saved.installed) (sym at)),
        subst (λ z. place ≤ length (texts_of (state_of z).saved.entries)) (sym at) (already_place (length (texts_of s.saved.entries)) place answer_is),
      ),
      tt,
    )
preparing_to c me x from e place m s text (Gap k) is at in_it facts good answer_is = tt

pub prepare_to : (c : Cluster) (me : ℕ) (x : UpNode) (from e place : ℕ) (m : Message) (text : List ℕ) (seat : Seat) → m.body ≡ body.Prepare e place text → x.seat ≡ seat → OfMember seat
    → is_bad_update c x e place text ≡ false → MayTo c me (Some (from, m)) Any x (cuts.prepare_course x from e place text seat)
prepare_to c me x from e place m text (Forming s) is at facts good = tt
prepare_to c me x from e place m text (Member s) is at facts good =
    let r : Prepared = answer_for (length (texts_of s.saved.entries)) place in
    if_with (MayTo c me (Some (from, m)) Any x) (is_in x e) (is_in x e) (cuts.preparing_course from e place s text r) Stops refl
    (λ in_it. preparing_to c me x from e place m s text r is at in_it facts good refl) (λ in_it. tt)

-- Commit.

pub commit_to : (c : Cluster) (me : ℕ) (x : UpNode) (from e place : ℕ) (m : Message) (seat : Seat) → m.body ≡ body.Commit e place → x.seat ≡ seat
    → MayTo c me (Some (from, m)) Any x (cuts.commit_course x e place seat)
commit_to c me x from e place m (Forming s) is at = tt
commit_to c me x from e place m (Member s) is at =
    if_with (MayTo c me (Some (from, m)) Any x) (is_in x e && commits_now s place) (is_in x e && commits_now s place) (Keeps (Commits s) Stops) Stops refl
    (λ b.
    let two : (is_in x e ≡ true) × (commits_now s place ≡ true) = and_cases (is_in x e) (commits_now s place) b in
    let now : (is_some s.saved.entries.pending ≡ true) × ((place == length s.saved.entries.committed + 1) ≡ true) =
    and_cases (is_some s.saved.entries.pending) (place == length s.saved.entries.committed + 1) two.1 in
    let session : e ≡ s.session = (in_session x e two.0).1 ∙ ap (λ z. (state_of z).session) at in
    ((at, now.0, is ∙ (ap (λ q. body.Commit q place) session ∙ ap (λ k. body.Commit s.session k) (same_number place (length s.saved.entries.committed + 1) now.1))), tt))
    (λ b. tt)
