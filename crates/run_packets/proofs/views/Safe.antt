-- What a president does at a tick: it proposes only where nothing is pending, and acknowledges only where it is alone.
use Rattle.std.specs.Prelude.{ℕ, zero, suc, ◌≡◌, ◌==◌, ◌&&◌, Bool, true, false, List, Option, None, Some, Result, Ok, Err, if◌then◌else◌}
use Rattle.std.proofs.Common.{refl, sym, ap, ◌∙◌}
use Rattle.admin_commands.specs.declared.accepted.Accepted.{Accepted}
use Rattle.admin_commands.specs.declared.accepted.Accepted.TheVariants as accepted
use Rattle.admin_commands.specs.declared.error.CheckError.{CheckError}
use Rattle.admin_commands.specs.declared.error.CheckError.TheVariants as because
use Rattle.admin_words.specs.Commands.{request_of}
use Rattle.admin_words.specs.declared.error.WordError.{WordError}
use Rattle.admin_words.specs.declared.request.Request.TheVariants as asked
use Rattle.admin_words.specs.declared.request.Request as wanted
use Rattle.ccr_commit.specs.Entries.{EntryList, all_committed, with_next}
use Rattle.ccr_tables.specs.declared.command.AdminCommand.TheVariants as wish
use Rattle.cl_base.specs.Sets.{set_without}
use Rattle.cl_base.specs.declared.command.Ask.{Ask}
use Rattle.cl_base.specs.declared.method.Outcome.{Outcome}
use Rattle.cmm_attempt.proofs.Basics.{none_some}
use Rattle.cmm_member.specs.Nodes.{with_entries}
use Rattle.proposals.specs.Proposing.{goes_again}
use Rattle.proposals.specs.State.{first_in}
use Rattle.proposals.specs.declared.arrived.Arrived.{Arrived}
use Rattle.proposals.specs.declared.arrived.Proposed.{Proposed}
use Rattle.rgm_member.specs.Orders.{answer_to, outcome_in}
use Rattle.rgm_member.specs.declared.carried.Carried.{Carried}
use Rattle.rgm_president.specs.Decisions as decisions
use Rattle.rgm_state.specs.Outcomes as order
use Rattle.status_report.specs.declared.command_entry.Answer.{Answer}
use Rattle.status_report.specs.declared.command_entry.Answer.TheVariants as answer
use Rattle.update_words.specs.Words.{words_of}
use Rattle.wire.specs.declared.message.Order.{Order}
use Rattle.node_model.specs.declared.cluster.Cluster.{Cluster}
use Rattle.node_model.specs.declared.node.UpNode.{UpNode}
use Rattle.node_model.specs.declared.presidency.Presidency.{Presidency}
use Rattle.node_model.specs.declared.seat.Seat.{Seat}
use Rattle.node_model.specs.declared.seat.Seat.TheVariants.{Forming, Member}
use Rattle.node_model.specs.Configurations.{in_force}
use Rattle.node_model.specs.Deciding.{is_held_up, may_order}
use Rattle.node_model.specs.Groups.{is_last, orders_again, own_order, with_ended}
use Rattle.node_model.specs.Presidents.{checked, is_busy, is_clear, others_of, proposed_by, requests_of, with_act, word_answer}
use Rattle.node_model.specs.Seats.{record_of, state_of, version_of, with_state}
use Rattle.refinement.specs.Courses.{Course, joined}
use Rattle.refinement.specs.Courses.Course.{Acts, Falls, Keeps, Stops}
use Rattle.refinement.specs.Cuts as cuts
use Rattle.refinement.specs.Cuts.{acks_of, left_answered}
use Rattle.refinement.specs.Doings.{Act, Change, acted, changed}
use Rattle.refinement.specs.Doings.Act.{Gives, Makes}
use Rattle.refinement.specs.Doings.Change.{Acks, Proposes}

-- ---- safe courses

abbrev pub SafeChange : ℕ → UpNode → Change → Type 0
SafeChange me x (Proposes s p text) = (record_of x).entries.pending ≡ None
SafeChange me x (Acks s p q left text) = (others_of me x == 0) ≡ true
SafeChange me x _ = Unit {0}

abbrev pub SafeAct : ℕ → UpNode → Act → Type 0
SafeAct me x (Makes change) = SafeChange me x change
SafeAct me x _ = Unit {0}

-- where nothing is proposed nothing is pending
abbrev pub ClearIn : Option Presidency → Option (List ℕ) → Type 0
ClearIn None pending = Unit {0}
ClearIn (Some p) pending = p.proposals.proposed ≡ None → pending ≡ None

abbrev pub IsClear : UpNode → Type 0
IsClear x = ClearIn x.presidency (record_of x).entries.pending

-- each step is safe, and in the end the node is clear
abbrev pub GoesSafely : Cluster → ℕ → UpNode → Course → Type 0
GoesSafely c me x Stops = IsClear x
GoesSafely c me x (Acts a rest) = SafeAct me x a × GoesSafely c me (acted c me x a) rest
GoesSafely c me x (Keeps change rest) = SafeChange me x change × GoesSafely c me (changed c me x change) rest
GoesSafely c me x (Falls why) = Unit {0}

either_safe : (c : Cluster) (me : ℕ) (x : UpNode) (b : Bool) (k l : Course) → (b ≡ true → GoesSafely c me x k) → GoesSafely c me x l → GoesSafely c me x (if b then k else l)
either_safe c me x true k l h i = h refl
either_safe c me x false k l h i = i

then_safe : (c : Cluster) (me : ℕ) (x : UpNode) (k : Course) (next : UpNode → Course) → GoesSafely c me x k → ((y : UpNode) → IsClear y → GoesSafely c me y (next y)) → GoesSafely c me x (joined c me x k next)
then_safe c me x Stops next h i = i x h
then_safe c me x (Acts a rest) next h i = (h.0, then_safe c me (acted c me x a) rest next h.1 i)
then_safe c me x (Keeps change rest) next h i = (h.0, then_safe c me (changed c me x change) rest next h.1 i)
then_safe c me x (Falls why) next h i = tt

-- ---- what a president does

pub entries_in : (seat : Seat) (entries : EntryList) → (state_of (with_state seat (with_entries (state_of seat) entries))).saved.entries ≡ entries
entries_in (Forming s) entries = refl
entries_in (Member s) entries = refl

members_in : (seat : Seat) (entries : EntryList) → (state_of (with_state seat (with_entries (state_of seat) entries))).saved.members ≡ (state_of seat).saved.members
members_in (Forming s) entries = refl
members_in (Member s) entries = refl

deciding_by_safe : (c : Cluster) (me : ℕ) (x : UpNode) (o : Option Presidency) → IsClear x → ClearIn o (record_of x).entries.pending → GoesSafely c me x (cuts.deciding_by_course c me x o)
deciding_by_safe c me x None clear h = clear
deciding_by_safe c me x (Some p) clear h =
    either_safe c me x (may_order p.groups) (cuts.decided_course me x p (decisions.decision (in_force c x) x.second (is_held_up p) p.groups)) Stops (λ e. (tt, (tt, h))) clear

deciding_safe : (c : Cluster) (me : ℕ) (x : UpNode) → IsClear x → GoesSafely c me x (cuts.deciding_course c me x)
deciding_safe c me x clear = deciding_by_safe c me x x.presidency clear clear

answering_safe : (c : Cluster) (me : ℕ) (x : UpNode) (p : Presidency) (a : Arrived) (told : Answer) → (record_of x).entries.pending ≡ None → GoesSafely c me x (cuts.answering_course c me x p a told)
answering_safe c me x p a told none = (tt, (tt, deciding_safe c me (left_answered me x p a told) (λ e. none)))

acknowledged_safe : (c : Cluster) (me : ℕ) (x : UpNode) (p : Presidency) (a : Arrived) (text : List ℕ) → (others_of me x == 0) ≡ true → GoesSafely c me x (cuts.acknowledged_course c me x p a text)
acknowledged_safe c me x p a text alone =
    (alone, (tt, (tt, deciding_safe c me (changed c me x (acks_of c me x p a text)) (λ e. ap (λ (l : EntryList). l.pending) (entries_in x.seat (all_committed (record_of x).entries))))))

acknowledging_text_safe : (c : Cluster) (me : ℕ) (x : UpNode) (p : Presidency) (o : Option Arrived) (text : Option (List ℕ)) → (others_of me x == 0) ≡ true → IsClear x
    → GoesSafely c me x (cuts.acknowledging_text_course c me x p o text)
acknowledging_text_safe c me x p (Some a) (Some text) alone clear = acknowledged_safe c me x p a text alone
acknowledging_text_safe c me x p None text alone clear = clear
acknowledging_text_safe c me x p (Some a) None alone clear = clear

acknowledging_by_safe : (c : Cluster) (me : ℕ) (x : UpNode) (o : Option Presidency) → (others_of me x == 0) ≡ true → IsClear x → GoesSafely c me x (cuts.acknowledging_by_course c me x o)
acknowledging_by_safe c me x None alone clear = clear
acknowledging_by_safe c me x (Some p) alone clear = acknowledging_text_safe c me x p (first_in p.proposals.arrived) (record_of x).entries.pending alone clear

proposing_safe : (c : Cluster) (me : ℕ) (x : UpNode) (p : Presidency) (text : List ℕ) → (record_of x).entries.pending ≡ None → GoesSafely c me x (cuts.proposing_course c me x p text)
proposing_safe c me x p text none = (
  none,
  (
    tt,
    either_safe c me y (others_of me x == 0) (cuts.acknowledging_course c me y) Stops
        (λ alone. acknowledging_by_safe c me y y.presidency (ap (λ members. set_without members me == 0) (members_in x.seat (with_next (record_of x).entries text)) ∙ alone) (λ e. absurd (none_some _ (sym e)))) (λ e. absurd (none_some _ (sym e))),
  ),
)
  where
    y : UpNode
    y = proposed_by c me x p text

acting_safe : (c : Cluster) (me : ℕ) (x : UpNode) (p : Presidency) (a : Arrived) (ask : Ask) → (record_of x).entries.pending ≡ None → IsClear x → GoesSafely c me x (cuts.acting_course c me x p a ask)
acting_safe c me x p a ask none clear = either_safe c me x (may_order p.groups) _ _ (λ e. (tt, answering_safe c me x (with_act c me x p a ask) a answer.Ok none)) clear

taken_as_safe : (c : Cluster) (me : ℕ) (x : UpNode) (p : Presidency) (a : Arrived) (r : Result Accepted CheckError) → (record_of x).entries.pending ≡ None → IsClear x → GoesSafely c me x (cuts.taken_as_course c me x p a r)
taken_as_safe c me x p a (Ok (accepted.Change u)) none clear = proposing_safe c me x p (words_of u) none
taken_as_safe c me x p a (Ok (accepted.Act ask)) none clear = acting_safe c me x p a ask none clear
taken_as_safe c me x p a (Ok (accepted.Query q)) none clear = answering_safe c me x p a answer.Ok none
taken_as_safe c me x p a (Err (because.Refused r)) none clear = answering_safe c me x p a (answer.Refused r) none
taken_as_safe c me x p a (Err because.NoMemory) none clear = clear

taken_safe : (c : Cluster) (me : ℕ) (x : UpNode) (p : Presidency) (a : Arrived) (r : Result wanted.Request WordError) → (record_of x).entries.pending ≡ None → IsClear x → GoesSafely c me x (cuts.taken_course c me x p a r)
taken_safe c me x p a (Ok (asked.Change u)) none clear = either_safe c me x (is_busy p.groups) _ _ (λ e. clear) (taken_as_safe c me x p a (checked c x p (wish.Change u)) none clear)
taken_safe c me x p a (Ok (asked.Act ask)) none clear =
    either_safe c me x (is_busy p.groups && is_clear ask) _ _ (λ e. clear) (taken_as_safe c me x p a (checked c x p (wish.Act ask)) none clear)
taken_safe c me x p a (Err e) none clear = answering_safe c me x p a (word_answer e) none

turn_of_safe : (c : Cluster) (me : ℕ) (x : UpNode) (p : Presidency) (o : Option Proposed) (first : Option Arrived) → (o ≡ None → (record_of x).entries.pending ≡ None) → IsClear x
    → GoesSafely c me x (cuts.turn_of_course c me x p o first)
turn_of_safe c me x p None (Some a) h clear = taken_safe c me x p a (request_of (version_of c) a.text) (h refl) clear
turn_of_safe c me x p None None h clear = clear
turn_of_safe c me x p (Some proposed) first h clear = clear

turn_by_safe : (c : Cluster) (me : ℕ) (x : UpNode) (o : Option Presidency) → ClearIn o (record_of x).entries.pending → IsClear x → GoesSafely c me x (cuts.turn_by_course c me x o)
turn_by_safe c me x None h clear = clear
turn_by_safe c me x (Some p) h clear = turn_of_safe c me x p p.proposals.proposed (first_in p.proposals.arrived) h clear

turns_safe : (c : Cluster) (me : ℕ) (x : UpNode) (k : ℕ) → IsClear x → GoesSafely c me x (cuts.turns_course c me x k)
turns_safe c me x zero clear = clear
turns_safe c me x (suc k) clear = then_safe c me x (cuts.turns_course c me x k) (cuts.one_turn_course c me) (turns_safe c me x k clear) (λ y h. turn_by_safe c me y y.presidency h h)

handling_safe : (c : Cluster) (me : ℕ) (x : UpNode) → IsClear x → GoesSafely c me x (cuts.handling_course c me x)
handling_safe c me x clear = turns_safe c me x (requests_of x x.presidency) clear

done_at_safe : (c : Cluster) (me : ℕ) (x : UpNode) (from number : ℕ) (outcome : Outcome) (o : Option Presidency) → ClearIn o (record_of x).entries.pending → IsClear x
    → GoesSafely c me x (cuts.done_at_course c me x from number outcome o)
done_at_safe c me x from number outcome None h clear = clear
done_at_safe c me x from number outcome (Some p) h clear =
    let y : UpNode = record x { presidency = Some (with_ended c x p from number outcome) } in
    either_safe c me x (order.is_due p.groups.view from number) _ _
    (λ e. (tt, then_safe c me y (cuts.deciding_course c me y) (cuts.handling_course c me) (deciding_safe c me y h) (λ z i. handling_safe c me z i))) clear

carrying_safe : (c : Cluster) (me : ℕ) (x : UpNode) (o : Order) (how : Carried) → IsClear x → GoesSafely c me x (cuts.carrying_course c me x o how)
carrying_safe c me x o how clear = (tt, either_safe c me x (is_last c x o how) _ _ (λ e. tt) (tt, clear))

own_turn_safe : (c : Cluster) (me : ℕ) (outcome : Outcome) (x : UpNode) (o : Option Order) → IsClear x → GoesSafely c me x (cuts.own_turn_course c me outcome x o)
own_turn_safe c me outcome x None clear = clear
own_turn_safe c me outcome x (Some o) clear =
    then_safe c me x (cuts.carrying_course c me x o (answer_to x.worker o outcome)) (cuts.own_done_course c me o (answer_to x.worker o outcome)) (carrying_safe c me x o (answer_to x.worker o outcome) clear)
    (λ z h. done_at_safe c me z me o.number (outcome_in (answer_to x.worker o outcome)) z.presidency h h)

prepares_safe : (c : Cluster) (me : ℕ) (y x : UpNode) (o : Option Proposed) (text : Option (List ℕ)) (rest : Course) → GoesSafely c me y rest → GoesSafely c me y (cuts.prepares_course x o text rest)
prepares_safe c me y x (Some p) (Some text) rest h = (tt, h)
prepares_safe c me y x None text rest h = h
prepares_safe c me y x (Some p) None rest h = h

prepares_again_safe : (c : Cluster) (me : ℕ) (y x : UpNode) (o : Option Presidency) (rest : Course) → GoesSafely c me y rest → GoesSafely c me y (cuts.prepares_again_course x o rest)
prepares_again_safe c me y x None rest h = h
prepares_again_safe c me y x (Some p) rest h = either_safe c me y (goes_again p.proposals) _ _ (λ e. prepares_safe c me y x p.proposals.proposed (record_of x).entries.pending rest h) h

going_again_safe : (c : Cluster) (me : ℕ) (before x : UpNode) → IsClear x → GoesSafely c me x (cuts.going_again_course c me before x)
going_again_safe c me before x clear =
    prepares_again_safe c me x before before.presidency (Acts (Gives (orders_again before x)) (cuts.deciding_course c me x)) (tt, deciding_safe c me x clear)

pub governing_safe : (c : Cluster) (me : ℕ) (outcome : Outcome) (before x : UpNode) → IsClear x → GoesSafely c me x (cuts.governing_course c me outcome before x)
governing_safe c me outcome before x clear =
    then_safe c me x (cuts.own_turn_course c me outcome x (own_order me x)) (cuts.going_again_course c me before) (own_turn_safe c me outcome x (own_order me x) clear) (λ z h. going_again_safe c me before z h)
