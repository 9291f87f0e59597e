-- What a president sends: an answer and a decision's orders for each request that it takes up, and once the messages of an update.
use Rattle.std.specs.Prelude.{ℕ, zero, suc, ◌+◌, ◌*◌, ◌≡◌, ◌≤◌, ◌==◌, ◌&&◌, Bool, true, false, List, [], ◌∷◌, length, Option, None, Some, IfSome, Result, Ok, Err, if◌then◌else◌}
use Rattle.std.proofs.Common.{refl, ap, ◌∙◌, arith}
use Rattle.admin_commands.specs.declared.accepted.Accepted.{Accepted}
use Rattle.admin_commands.specs.declared.accepted.Accepted.TheVariants as accepted
use Rattle.admin_commands.specs.declared.error.CheckError.{CheckError}
use Rattle.admin_commands.specs.declared.error.CheckError.TheVariants as because
use Rattle.admin_words.specs.Commands.{command_of, request_of}
use Rattle.admin_words.specs.declared.error.WordError.{WordError}
use Rattle.admin_words.specs.declared.request.Request.TheVariants as asked
use Rattle.admin_words.specs.declared.request.Request as wanted
use Rattle.ccr_commit.specs.Entries.{EntryList, with_next}
use Rattle.ccr_tables.specs.State.{ConfigState}
use Rattle.ccr_tables.specs.declared.command.AdminCommand.{AdminCommand}
use Rattle.ccr_tables.specs.declared.command.AdminCommand.TheVariants.{Change, Act, Status, Rows}
use Rattle.cl_base.specs.Sets.{set_without}
use Rattle.cl_base.specs.declared.command.Ask.{Ask}
use Rattle.cl_base.specs.declared.command.Ask.TheVariants.{Restart, Move, Remaster, Evacuate, Clear}
use Rattle.cmm_attempt.proofs.Basics.{if_either, same_number}
use Rattle.cmm_member.specs.Nodes.{with_entries}
use Rattle.proposals.specs.Arrivals as arrivals
use Rattle.proposals.specs.Arrivals.{arrival_of, with_arrival}
use Rattle.proposals.specs.State.{State, first_in, kept_at}
use Rattle.proposals.specs.declared.arrived.Arrival.{Arrival}
use Rattle.proposals.specs.declared.arrived.Arrival.TheVariants.{New, Waits, Answered, Past}
use Rattle.proposals.specs.declared.arrived.Arrived.{Arrived}
use Rattle.proposals.specs.declared.arrived.Kept.{Kept}
use Rattle.proposals.specs.declared.arrived.Proposed.{Proposed}
use Rattle.proposals.proofs.OneEach.{at_most_32}
use Rattle.request_queue.specs.Queue as queue
use Rattle.request_queue.specs.Queue.{Queue, found, oldest}
use Rattle.rgm_president.specs.State.{PresidentState}
use Rattle.status_report.specs.CommandLines.{reply_text}
use Rattle.status_report.specs.declared.command_entry.Answer.{Answer}
use Rattle.status_report.specs.declared.command_entry.Answer.TheVariants as answer
use Rattle.update_words.specs.Words.{words_of}
use Rattle.wire.specs.declared.message.Body.TheVariants as body
use Rattle.wire.specs.Spelling.{IsNode}
use Rattle.node_model.specs.declared.cluster.Cluster.{Cluster}
use Rattle.node_model.specs.declared.node.UpNode.{UpNode}
use Rattle.node_model.specs.declared.output.Output.TheVariants.{Sends}
use Rattle.node_model.specs.declared.presidency.Presidency.{Presidency}
use Rattle.node_model.specs.declared.seat.Seat.{Seat}
use Rattle.node_model.specs.declared.seat.Seat.TheVariants.{Forming, Member}
use Rattle.node_model.specs.Presidents as presidents
use Rattle.node_model.specs.Configurations.{in_force}
use Rattle.node_model.specs.Deciding as deciding
use Rattle.node_model.specs.Deciding.{may_order, orders_sent}
use Rattle.node_model.specs.Presidents.{answer_given, answered_by, checked, committed_by, committing, is_busy, is_clear, last_place, next_place, orders_for, others_of, own_answered, own_line, proposed_by, query_lines, requests_of, sent_to, taken_up, with_act, with_proposals, word_answer}
use Rattle.node_model.specs.Plans.{Plan, and_then}
use Rattle.node_model.specs.Plans.Plan.{Stays, Falls, Says, Saves}
use Rattle.node_model.specs.Seats.{record_of, session_of, state_of, version_of, with_state}
use Rattle.refinement.specs.node_bounds.Bounded.{IsOfNode, OfficeIsBounded, UpIsBounded}
use Rattle.refinement.specs.node_bounds.Laws.{EndsBounded}
use Rattle.refinement.specs.node_bounds.Sends.{sends_in, sends_of}
use Rattle.refinement.proofs.node_bounds.Counts.{own_quiet, sent_few, sent_to_none, told_quiet}
use Rattle.refinement.proofs.node_bounds.Deciding.{decides, orders_few}
use Rattle.refinement.proofs.node_bounds.Plans.{Costs, answers, either_costs, replies, says, stays, tells}
use Rattle.refinement.proofs.node_bounds.Queues.{Orderly, answered_few, answered_orderly, arrived_orderly, own_orderly}

-- As long as nothing is proposed, the Prepares of one update may still go in this event.

left_by : Option Proposed → ℕ
left_by None = 32
left_by (Some p) = 0

abbrev left : Option Presidency → ℕ
left None = 32
left (Some p) = left_by p.proposals.proposed

-- what a plan sends, and what may still go after it
spent : Plan → ℕ
spent (Stays x) = left x.presidency
spent (Falls why) = 0
spent (Says os rest) = sends_of os + spent rest
spent (Saves r rest) = spent rest

abbrev Spends : ℕ → Plan → Type 0
Spends k p = (spent p ≤ k) × EndsBounded p

left_few : (o : Option Presidency) → left o ≤ 32
unfolding left_by
left_few None = omega arith
left_few (Some p) = by_proposed p.proposals.proposed
  where
    by_proposed : (o : Option Proposed) → left_by o ≤ 32
    by_proposed None = omega arith
    by_proposed (Some q) = omega arith

sends_spent : (p : Plan) → sends_in p ≤ spent p
unfolding spent
sends_spent (Stays x) = omega arith
sends_spent (Falls why) = omega arith
sends_spent (Says os rest) = omega (arith, sends_spent rest)
sends_spent (Saves r rest) = sends_spent rest

then_spends : (p : Plan) (next : UpNode → Plan) (k : ℕ) → EndsBounded p → ((y : UpNode) → UpIsBounded y → Spends (left y.presidency + k) (next y)) → Spends (spent p + k) (and_then p next)
unfolding spent
then_spends (Stays x) next k h f = f x h
then_spends (Falls why) next k h f = (omega arith, tt)
then_spends (Says os rest) next k h f =
    let after : Spends (spent rest + k) (and_then rest next) = then_spends rest next k h f in
    (omega (arith, after.0), after.1)
then_spends (Saves r rest) next k h f = then_spends rest next k h f

spends_less : (p : Plan) (j k : ℕ) → j ≤ k → Spends j p → Spends k p
spends_less p j k less h = (omega (arith, less, h.0), h.1)

-- what may still go after a plan comes to what it sends
spent_more : (p : Plan) → spent p ≤ sends_in p + 32
unfolding spent
spent_more (Stays x) = omega (arith, left_few x.presidency)
spent_more (Falls why) = omega arith
spent_more (Says os rest) = omega (arith, spent_more rest)
spent_more (Saves r rest) = spent_more rest

spends_of : (p : Plan) (k : ℕ) → Costs k p → Spends (k + 32) p
spends_of p k h = (omega (arith, spent_more p, h.few), h.ends)

costs_of : (p : Plan) (k : ℕ) → Spends k p → Costs k p
costs_of p k h = record { few = omega (arith, sends_spent p, h.0); ends = h.1 }

-- The node after it.

pub with_proposals_bounded : (x : UpNode) (p : Presidency) (s : State) → Orderly s → UpIsBounded x → UpIsBounded (with_proposals x p s)
with_proposals_bounded x p s f h = record { own = h.own; few = h.few; presides = f }

own_answered_bounded : (n : ℕ) (x : UpNode) (p : Presidency) (s : State) (q : Queue) → IsNode n → Orderly s → length q.waiting ≤ 64 → UpIsBounded x → UpIsBounded (own_answered n x p s q)
own_answered_bounded n x p s q is f few h = record { own = h.own; few = few; presides = own_orderly n s (oldest q) is f }

answered_by_bounded : (n : ℕ) (x : UpNode) (p : Presidency) (a : Arrived) (told : Answer) → IsNode n → OfficeIsBounded p → UpIsBounded x → UpIsBounded (answered_by n x p a told)
answered_by_bounded n x p a told is office h =
    let s : State = arrivals.answered p.proposals (reply_text told) in
    let f : Orderly s = answered_orderly p.proposals (reply_text told) office in
    if_either UpIsBounded (a.from == n) (own_answered n x p s (queue.answered x.requests a.number)) (with_proposals x p s)
    (own_answered_bounded n x p s (queue.answered x.requests a.number) is f (answered_few x.requests a.number h.few) h) (with_proposals_bounded x p s f h)

-- one answer at most
answer_few : (n : ℕ) (x : UpNode) (a : Arrived) (told : Answer) → sends_of (answer_given n x a told) ≤ 1
answer_few n x a told =
    if_either (λ os. sends_of os ≤ 1) (a.from == n) (own_line n told (found x.requests.waiting a.number)) (Sends a.from (body.Answer (session_of x) a.number (reply_text told)) ∷ [])
    (omega (arith, own_quiet n told (found x.requests.waiting a.number))) (omega arith)

-- and then a decision
answers_first : (c : Cluster) (n : ℕ) (x : UpNode) (p : Presidency) (a : Arrived) (told : Answer) → IsNode n → OfficeIsBounded p → UpIsBounded x
    → Costs 33 (presidents.answering_first c n x p a told)
answers_first c n x p a told is office h =
    says (answer_given n x a told) (deciding.deciding c n (answered_by n x p a told)) 1 32 (answer_few n x a told)
    (decides c n (answered_by n x p a told) (answered_by_bounded n x p a told is office h))

-- An update is acknowledged: Commits to the others, an answer, and a decision.

other_members : (n : ℕ) (seat : Seat) (entries : EntryList) → set_without (state_of (with_state seat (with_entries (state_of seat) entries))).saved.members n ≡ set_without (state_of seat).saved.members n
other_members n (Forming s) entries = refl
other_members n (Member s) entries = refl

taken_up_bounded : (s : ConfigState) (p : Presidency) (r : Result AdminCommand WordError) → OfficeIsBounded p → OfficeIsBounded (taken_up s p r)
taken_up_bounded s p (Ok (Change u)) h = h
taken_up_bounded s p (Ok (Act a)) h = h
taken_up_bounded s p (Ok (Status q)) h = h
taken_up_bounded s p (Ok (Rows name)) h = h
taken_up_bounded s p (Err e) h = h

acknowledges_text : (c : Cluster) (n : ℕ) (x : UpNode) (p : Presidency) (o : Option Arrived) (pending : Option (List ℕ)) (k : ℕ) → IsNode n
    → (sends_of (sent_to (others_of n x) (body.Commit (session_of x) (last_place x))) ≤ k) → OfficeIsBounded p → UpIsBounded x → Costs (k + 33) (presidents.acknowledging_text c n x p o pending)
acknowledges_text c n x p (Some a) (Some text) k is few office h =
    let z : UpNode = committing x in
    let l : UpIsBounded z = record { own = h.own; few = h.few; presides = h.presides } in
    let r : Result AdminCommand WordError = command_of (version_of c) text in
    let y : UpNode = committed_by c n x p a text in
    let bounded : UpIsBounded y = answered_by_bounded n z (taken_up (in_force c z) p r) a answer.Ok is (taken_up_bounded (in_force c z) p r office) l in
    let last : Costs 33 (Says (answer_given n x a answer.Ok) (deciding.deciding c n y)) = says (answer_given n x a answer.Ok) (deciding.deciding c n y) 1 32 (answer_few n x a answer.Ok) (decides c n y bounded) in
    record { few = omega (arith, few, last.few); ends = last.ends }
acknowledges_text c n x p None text k is few office h = stays x (k + 33) h
acknowledges_text c n x p (Some a) None k is few office h = stays x (k + 33) h

acknowledges_by : (c : Cluster) (n : ℕ) (x : UpNode) (o : Option Presidency) (k : ℕ) → IsNode n → (sends_of (sent_to (others_of n x) (body.Commit (session_of x) (last_place x))) ≤ k)
    → IfSome o OfficeIsBounded → UpIsBounded x → Costs (k + 33) (presidents.acknowledging_by c n x o)
acknowledges_by c n x None k is few office h = stays x (k + 33) h
acknowledges_by c n x (Some p) k is few office h = acknowledges_text c n x p (first_in p.proposals.arrived) (record_of x).entries.pending k is few office h

pub acknowledges_costs : (c : Cluster) (n : ℕ) (x : UpNode) → IsNode n → UpIsBounded x → Costs 65 (presidents.acknowledging c n x)
acknowledges_costs c n x is h = acknowledges_by c n x x.presidency 32 is (sent_few (others_of n x) (body.Commit (session_of x) (last_place x))) h.presides h

-- a president alone sends nothing but the answer and orders
acknowledges_alone : (c : Cluster) (n : ℕ) (x : UpNode) → IsNode n → others_of n x ≡ 0 → UpIsBounded x → Spends 65 (presidents.acknowledging c n x)
acknowledges_alone c n x is alone h =
    spends_of (presidents.acknowledging c n x) 33
    (acknowledges_by c n x x.presidency 0 is (omega (arith, sent_to_none (others_of n x) (body.Commit (session_of x) (last_place x)) alone)) h.presides h)

-- An update is proposed: Prepares to the others, after which nothing more is taken up; or it is acknowledged at once.

proposed_bounded : (c : Cluster) (n : ℕ) (x : UpNode) (p : Presidency) (text : List ℕ) → OfficeIsBounded p → UpIsBounded x → UpIsBounded (proposed_by c n x p text)
proposed_bounded c n x p text office h = record { own = h.own; few = h.few; presides = office }

proposes : (c : Cluster) (n : ℕ) (x : UpNode) (p : Presidency) (text : List ℕ) → IsNode n → OfficeIsBounded p → UpIsBounded x
    → Spends 66 (presidents.proposing_so c n x text (proposed_by c n x p text))
unfolding spent left_by
proposes c n x p text is office h =
    let y : UpNode = proposed_by c n x p text in
    let k : UpIsBounded y = proposed_bounded c n x p text office h in
    let after : Spends 66 (Says (sent_to (others_of n x) (body.Prepare (session_of x) (next_place x) text)) (if others_of n x == 0 then presidents.acknowledging c n y else Stays y)) =
    by_test (others_of n x == 0) refl y refl k in
    (omega (arith, after.0), after.1)
  where
    same_others : (y : UpNode) → y ≡ proposed_by c n x p text → others_of n y ≡ others_of n x
    same_others y e = ap (λ (z : UpNode). others_of n z) e ∙ other_members n x.seat (with_next (record_of x).entries text)

    nothing_left : (y : UpNode) → y ≡ proposed_by c n x p text → left y.presidency ≡ 0
    nothing_left y e = ap (λ (z : UpNode). left z.presidency) e

    by_test : (b : Bool) → (others_of n x == 0) ≡ b → (y : UpNode) → y ≡ proposed_by c n x p text → UpIsBounded y
        → Spends 66 (Says (sent_to (others_of n x) (body.Prepare (session_of x) (next_place x) text)) (if b then presidents.acknowledging c n y else Stays y))
    by_test true alone y e k =
        let none : others_of n x ≡ 0 = same_number (others_of n x) 0 alone in
        let after : Spends 65 (presidents.acknowledging c n y) = acknowledges_alone c n y is (same_others y e ∙ none) k in
        (omega (arith, sent_to_none (others_of n x) (body.Prepare (session_of x) (next_place x) text) none, after.0), after.1)
    by_test false others y e k = (omega (arith, sent_few (others_of n x) (body.Prepare (session_of x) (next_place x) text), nothing_left y e), k)

-- What is asked for: an order to clear at most, an answer, and a decision.

asked_few : (p : PresidentState) (ask : Ask) → length (orders_for p ask) ≤ 1
asked_few p (Clear r n) = omega arith
asked_few p (Restart r) = omega arith
asked_few p (Move r) = omega arith
asked_few p (Remaster g) = omega arith
asked_few p (Evacuate n) = omega arith

acts : (c : Cluster) (n : ℕ) (x : UpNode) (p : Presidency) (a : Arrived) (ask : Ask) → IsNode n → OfficeIsBounded p → UpIsBounded x → Costs 34 (presidents.acting c n x p a ask)
acts c n x p a ask is office h =
    either_costs (may_order p.groups) _ (Stays x) 34
    (says (orders_sent n (orders_for p.groups ask)) (presidents.answering_first c n x (with_act c n x p a ask) a answer.Ok) 1 33 (orders_few n (orders_for p.groups ask) 1 (asked_few p.groups ask))
    (answers_first c n x (with_act c n x p a ask) a answer.Ok is office h)) (stays x 34 h)

-- A request is taken up.

stays_spending : (x : UpNode) → UpIsBounded x → Spends 66 (Stays x)
unfolding spent
stays_spending x h = (omega (arith, left_few x.presidency), h)

answers_spending : (c : Cluster) (n : ℕ) (x : UpNode) (p : Presidency) (a : Arrived) (told : Answer) → IsNode n → OfficeIsBounded p → UpIsBounded x
    → Spends 66 (presidents.answering_first c n x p a told)
answers_spending c n x p a told is office h =
    spends_less (presidents.answering_first c n x p a told) 65 66 (omega arith) (spends_of (presidents.answering_first c n x p a told) 33 (answers_first c n x p a told is office h))

takes_as : (c : Cluster) (n : ℕ) (x : UpNode) (p : Presidency) (a : Arrived) (r : Result Accepted CheckError) → IsNode n → OfficeIsBounded p → UpIsBounded x
    → Spends 66 (presidents.taken_as c n x p a r)
takes_as c n x p a (Ok (accepted.Change u)) is office h = proposes c n x p (words_of u) is office h
takes_as c n x p a (Ok (accepted.Act ask)) is office h = spends_of (presidents.acting c n x p a ask) 34 (acts c n x p a ask is office h)
takes_as c n x p a (Ok (accepted.Query q)) is office h = answers_spending c n x p a answer.Ok is office h
takes_as c n x p a (Err (because.Refused r)) is office h = answers_spending c n x p a (answer.Refused r) is office h
takes_as c n x p a (Err because.NoMemory) is office h = stays_spending x h

takes : (c : Cluster) (n : ℕ) (x : UpNode) (p : Presidency) (a : Arrived) (r : Result wanted.Request WordError) → IsNode n → OfficeIsBounded p → UpIsBounded x
    → Spends 66 (presidents.taken c n x p a r)
takes c n x p a (Ok (asked.Change u)) is office h =
    if_either (Spends 66) (is_busy p.groups) (Stays x) (presidents.taken_as c n x p a (checked c x p (Change u))) (stays_spending x h) (takes_as c n x p a (checked c x p (Change u)) is office h)
takes c n x p a (Ok (asked.Act ask)) is office h =
    if_either (Spends 66) (is_busy p.groups && is_clear ask) (Stays x) (presidents.taken_as c n x p a (checked c x p (Act ask))) (stays_spending x h)
    (takes_as c n x p a (checked c x p (Act ask)) is office h)
takes c n x p a (Err e) is office h = answers_spending c n x p a (word_answer e) is office h

-- Turn by turn: an order, an answer and a decision each, and once the Prepares.

one_spends : (c : Cluster) (n : ℕ) (x : UpNode) (p : Presidency) (proposed : Option Proposed) (first : Option Arrived) → IsNode n → left x.presidency ≤ left_by proposed
    → OfficeIsBounded p → UpIsBounded x → Spends (left_by proposed + 34) (presidents.turn_of c n x p proposed first)
unfolding spent left_by
one_spends c n x p None (Some a) is few office h = takes c n x p a (request_of (version_of c) a.text) is office h
one_spends c n x p None None is few office h = (omega (arith, few), h)
one_spends c n x p (Some proposed) first is few office h = (omega (arith, few), h)

turn_spends : (c : Cluster) (n : ℕ) (x : UpNode) (o : Option Presidency) → IsNode n → left x.presidency ≤ left o → IfSome o OfficeIsBounded → UpIsBounded x
    → Spends (left o + 34) (presidents.turn_by c n x o)
unfolding spent
turn_spends c n x None is few office h = (omega (arith, few), h)
turn_spends c n x (Some p) is few office h = one_spends c n x p p.proposals.proposed (first_in p.proposals.arrived) is few office h

turns_spend : (c : Cluster) (n : ℕ) (x : UpNode) (k : ℕ) → IsNode n → UpIsBounded x → Spends (left x.presidency + 34 * k) (presidents.turns c n x k)
unfolding spent
turns_spend c n x zero is h = (omega arith, h)
turns_spend c n x (suc k) is h =
    let before : Spends (left x.presidency + 34 * k) (presidents.turns c n x k) = turns_spend c n x k is h in
    let after : Spends (spent (presidents.turns c n x k) + 34) (presidents.turns c n x (suc k)) =
    then_spends (presidents.turns c n x k) (presidents.one_turn c n) 34 before.1 (λ y l. turn_spends c n y y.presidency is (omega arith) l.presides l) in
    (omega (arith, before.0, after.0), after.1)

-- there are at most 96 turns
requests_few : (x : UpNode) (o : Option Presidency) → IfSome o OfficeIsBounded → length x.requests.waiting ≤ 64 → requests_of x o ≤ 96
requests_few x None office few = omega arith
requests_few x (Some p) office few = omega (arith, few, at_most_32 p.proposals.arrived office.0 office.1)

pub handles : (c : Cluster) (n : ℕ) (x : UpNode) → IsNode n → UpIsBounded x → Costs 3296 (presidents.handling c n x)
handles c n x is h =
    costs_of (presidents.handling c n x) 3296
    (spends_less (presidents.handling c n x) (left x.presidency + 34 * requests_of x x.presidency) 3296
    (all_in (left x.presidency) (requests_of x x.presidency) (left_few x.presidency) (requests_few x x.presidency h.presides h.few)) (turns_spend c n x (requests_of x x.presidency) is h))
  where
    all_in : (a b : ℕ) → a ≤ 32 → b ≤ 96 → a + 34 * b ≤ 3296
    all_in a b h k = omega (arith, h, k)

-- A request comes.

again_costs : (x : UpNode) (from : ℕ) (o : Option Kept) → UpIsBounded x → Costs 3296 (presidents.kept_again x from o)
again_costs x from None h = stays x 3296 h
again_costs x from (Some k) h = answers from (body.Answer (session_of x) k.number k.text) x 3296 (omega arith) h

arrives_as : (c : Cluster) (n : ℕ) (x : UpNode) (p : Presidency) (a : Arrived) (k : Arrival) → IsNode n → Orderly (with_arrival p.proposals a k) → UpIsBounded x
    → Costs 3296 (presidents.arrived_as c n x p a k)
arrives_as c n x p a New is f h = handles c n (with_proposals x p (with_arrival p.proposals a New)) is (with_proposals_bounded x p (with_arrival p.proposals a New) f h)
arrives_as c n x p a Waits is f h = stays x 3296 h
arrives_as c n x p a Answered is f h = again_costs x a.from (kept_at p.proposals.answers a.from) h
arrives_as c n x p a Past is f h = stays x 3296 h

pub arrives : (c : Cluster) (n : ℕ) (x : UpNode) (p : Presidency) (a : Arrived) → IsNode n → IsOfNode a → OfficeIsBounded p → UpIsBounded x → Costs 3296 (presidents.arriving c n x p a)
arrives c n x p a is who office h = arrives_as c n x p a (arrival_of p.proposals a.from a.number) is (arrived_orderly p.proposals a who office) h

-- A query.

told_costs : (n : ℕ) (x : UpNode) (p : Presidency) (number : ℕ) (s : ConfigState) (r : Result Accepted CheckError) → UpIsBounded x → Costs 0 (presidents.query_told n x p number s r)
told_costs n x p number s (Ok (accepted.Query q)) h = tells _ _ 0 (told_quiet (query_lines x p s q)) (replies n number answer.Ok x 0 h)
told_costs n x p number s (Ok (accepted.Change u)) h = stays x 0 h
told_costs n x p number s (Ok (accepted.Act ask)) h = stays x 0 h
told_costs n x p number s (Err (because.Refused r)) h = replies n number (answer.Refused r) x 0 h
told_costs n x p number s (Err because.NoMemory) h = stays x 0 h

pub answers_query : (c : Cluster) (n : ℕ) (x : UpNode) (p : Presidency) (number : ℕ) (command : AdminCommand) → UpIsBounded x → Costs 0 (presidents.answering_query c n x p number command)
answers_query c n x p number command h = told_costs n x p number (in_force c x) (checked c x p command) h
