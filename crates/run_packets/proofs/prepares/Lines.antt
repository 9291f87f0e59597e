-- Whose lines a node gives.
use Rattle.std.specs.Prelude.{ℕ, ◌+◌, ◌≡◌, ◌++◌, ◌==◌, true, List, [], ◌∷◌, Option, None, Some, Ok, flat_map, map}
use Rattle.std.proofs.Common.{refl, ap, ◌∙◌, arith}
use Rattle.cl_base.specs.Limits.{most_nodes}
use Rattle.cl_base.specs.Numbers.{numbers_to}
use Rattle.cl_base.specs.Sets.{has}
use Rattle.cl_base.specs.declared.method.Method.{Method}
use Rattle.cl_base.specs.declared.method.Outcome.{Outcome}
use Rattle.ccr_tables.specs.State.{ConfigState}
use Rattle.cmm_attempt.proofs.Basics.{if_either}
use Rattle.cmm_attempt.specs.Attempts.{AttemptState}
use Rattle.cmm_attempt.specs.declared.step.AttemptEnd.{AttemptEnd}
use Rattle.cmm_attempt.specs.declared.step.AttemptEnd.TheVariants as end
use Rattle.heartbeats.specs.Views.{receivers_of}
use Rattle.history.specs.Setting.{coordinator}
use Rattle.node_model.specs.Addresses.{forgot_lines, served_lines}
use Rattle.node_model.specs.Attempts.{adopted_line, adopted_lines, adopted_of, adopted_on, base_lines, ended_entry, is_adopted}
use Rattle.node_model.specs.Configurations.{configured_at}
use Rattle.node_model.specs.Deciding.{order_sent, orders_sent}
use Rattle.node_model.specs.Entries.{unknown_line, unknown_lines}
use Rattle.node_model.specs.Groups.{call_told, order_again, order_again_to, order_at, order_told, orders_again, orders_again_by, orders_again_of}
use Rattle.node_model.specs.Presidents.{answer_given, own_line, sent_to, told_lines}
use Rattle.node_model.specs.Ticks.{heartbeat_of, heartbeats_to, ticked_output}
use Rattle.node_model.specs.Updates.{request_again, request_again_by, request_again_to}
use Rattle.node_model.specs.Seats.{coordinator_of}
use Rattle.node_model.specs.declared.cluster.Cluster.{Cluster}
use Rattle.node_model.specs.declared.node.UpNode.{UpNode}
use Rattle.node_model.specs.declared.output.Output.{Output}
use Rattle.node_model.specs.declared.output.Output.TheVariants.{Sends, Tells}
use Rattle.node_model.specs.declared.presidency.Presidency.{Presidency}
use Rattle.pgr_device.specs.declared.command.PrAnswer.TheVariants as given
use Rattle.proposals.specs.declared.arrived.Arrived.{Arrived}
use Rattle.refinement.specs.Doings.{superseded_lines, write_lines}
use Rattle.request_queue.specs.Queue as queue
use Rattle.request_queue.specs.Queue.{found}
use Rattle.request_queue.specs.declared.request.Request.{Request}
use Rattle.rg_props.specs.declared.group.Resource.{Resource}
use Rattle.rg_view.specs.States as states
use Rattle.rg_view.specs.declared.states.ResourceAt.{ResourceAt}
use Rattle.rg_view.specs.declared.view.GroupView.{GroupView}
use Rattle.rgm_member.specs.declared.carried.Carried.{Carried}
use Rattle.rgm_member.specs.declared.carried.Carried.TheVariants as carried
use Rattle.rgm_president.specs.State.{PresidentState}
use Rattle.seize.specs.Answers.{Answer as DeviceAnswer}
use Rattle.sent_orders.specs.Ticks.{due}
use Rattle.shared_address.specs.Choosing as serving
use Rattle.shared_address.specs.declared.choice.Client.{Client as Remembered}
use Rattle.status_report.specs.declared.command_entry.Answer.{Answer}
use Rattle.status_report.specs.declared.entry.Entry.TheVariants as entry
use Rattle.status_report.specs.declared.status_entry.StatusEntry.{StatusEntry}
use Rattle.wire.specs.declared.message.Body.{Body}
use Rattle.wire.specs.declared.message.Order.{Order}
use Rattle.run_packets.specs.prepares.Actors.{AreOf, IsOf}

pub same_number : (n : ℕ) → (n == n) ≡ true
same_number n = grind arith

-- what node n coordinates
pub own_epoch : (e n : ℕ) → coordinator e ≡ n → (coordinator e == n) ≡ true
own_epoch e n is = ap (λ k. k == n) is ∙ same_number n

-- ---- lists

pub both_are : (n : ℕ) (os more : List Output) → AreOf n os → AreOf n more → AreOf n (os ++ more)
both_are n [] more h k = k
both_are n (Tells e ∷ os) more h k = (h.0, both_are n os more h.1 k)
both_are n (Sends to b ∷ os) more h k = both_are n os more h k

each_is : {X : Type 0} → (n : ℕ) (f : X → List Output) (xs : List X) → ((x : X) → AreOf n (f x)) → AreOf n (flat_map f xs)
each_is n f [] h = tt
each_is n f (x ∷ xs) h = both_are n (f x) (flat_map f xs) (h x) (each_is n f xs h)

-- messages are no lines
sent_each : {X : Type 0} → (n : ℕ) (to : X → ℕ) (b : X → Body) (xs : List X) → AreOf n (map (λ x. Sends (to x) (b x)) xs)
sent_each n to b [] = tt
sent_each n to b (x ∷ xs) = sent_each n to b xs

pub spread_are : (n receivers : ℕ) (b : Body) → AreOf n (sent_to receivers b)
unfolding sent_to
spread_are n receivers b = sent_each n (λ k. k) (λ k. b) (numbers_to receivers most_nodes)

-- ---- requests and their answers

pub unknown_are : (n : ℕ) (rs : List Request) → AreOf n (unknown_lines n rs)
unknown_are n [] = tt
unknown_are n (r ∷ rs) = both_are n (unknown_line n r) (unknown_lines n rs) (if_either (AreOf n) r.told _ [] (same_number n, tt) tt) (unknown_are n rs)

pub own_are : (n : ℕ) (told : Answer) (o : Option Request) → AreOf n (own_line n told o)
own_are n told None = tt
own_are n told (Some r) = if_either (AreOf n) r.told _ [] (same_number n, tt) tt

pub given_are : (n : ℕ) (x : UpNode) (a : Arrived) (told : Answer) → AreOf n (answer_given n x a told)
given_are n x a told = if_either (AreOf n) (a.from == n) (own_line n told (found x.requests.waiting a.number)) _ (own_are n told (found x.requests.waiting a.number)) tt

pub told_are : (n : ℕ) (lines : List StatusEntry) → AreOf n (told_lines lines)
told_are n [] = tt
told_are n (l ∷ lines) = (refl, told_are n lines)

again_to_are : (n : ℕ) (x : UpNode) (r : Option Request) (o : Option ℕ) → AreOf n (request_again_to x r o)
again_to_are n x (Some r) (Some president) = tt
again_to_are n x None president = tt
again_to_are n x (Some r) None = tt

again_by_are : (n : ℕ) (x : UpNode) (o : Option Presidency) → AreOf n (request_again_by x o)
again_by_are n x None =
    if_either (AreOf n) (queue.goes_again x.requests) (request_again_to x (queue.oldest x.requests) (coordinator_of x)) []
    (again_to_are n x (queue.oldest x.requests) (coordinator_of x)) tt
again_by_are n x (Some p) = tt

heartbeats_are : (n : ℕ) (x : UpNode) (receivers : ℕ) → AreOf n (heartbeats_to x receivers)
unfolding heartbeats_to
heartbeats_are n x receivers = sent_each n (λ k. k) (λ k. heartbeat_of x) (numbers_to receivers most_nodes)

pub ticked_are : (n : ℕ) (c : Cluster) (before x : UpNode) → AreOf n (ticked_output c before x)
ticked_are n c before x =
    both_are n (heartbeats_to x (receivers_of x.beats (configured_at c x))) (request_again before) (heartbeats_are n x (receivers_of x.beats (configured_at c x)))
    (again_by_are n before before.presidency)

-- ---- orders, reports and clients

pub orders_are : (n : ℕ) (orders : List (ℕ × Order)) → AreOf n (orders_sent n orders)
unfolding orders_sent
orders_are n orders = each_is n (order_sent n) orders (λ e. if_either (AreOf n) (e.0 == n) [] _ tt tt)

call_are : (n : ℕ) (o : Order) (outcome : Outcome) (m : Option Method) → AreOf n (call_told n o outcome m)
call_are n o outcome None = tt
call_are n o outcome (Some m) = (same_number n, (same_number n, tt))

pub order_are : (n : ℕ) (o : Order) (how : Carried) → AreOf n (order_told n o how)
order_are n o (carried.Called outcome) = call_are n o outcome o.method
order_are n o carried.Cleared = tt
order_are n o (carried.Kept outcome) = tt
order_are n o carried.Old = tt

order_again_are : (n k : ℕ) (o : Option Order) → AreOf n (order_again_to k o)
order_again_are n k None = tt
order_again_are n k (Some o) = tt

again_of_are : (n set : ℕ) (p : PresidentState) → AreOf n (orders_again_of set p)
unfolding orders_again_of
again_of_are n set p =
    each_is n (order_again set p) (numbers_to p.view.members most_nodes)
    (λ k. if_either (AreOf n) (has set k) (order_again_to k (order_at k p)) [] (order_again_are n k (order_at k p)) tt)

orders_by_are : (n : ℕ) (before after : Option Presidency) → AreOf n (orders_again_by before after)
orders_by_are n None after = tt
orders_by_are n (Some before) None = tt
orders_by_are n (Some before) (Some after) = again_of_are n (due before.sent) after.groups

pub again_are : (n : ℕ) (before x : UpNode) → AreOf n (orders_again before x)
again_are n before x = orders_by_are n before.presidency x.presidency

forgot_are : (n : ℕ) (name : List ℕ) (o : Option Remembered) → AreOf n (forgot_lines name o)
forgot_are n name None = tt
forgot_are n name (Some k) = (refl, tt)

pub served_are : (n : ℕ) (name : List ℕ) (client port : ℕ) (o : serving.Outcome) → AreOf n (served_lines name client port o)
served_are n name client port o = both_are n (forgot_lines name o.forgot) _ (forgot_are n name o.forgot) (refl, tt)

-- ---- attempts and memberships that the node coordinates

pub superseded_are : (n p : ℕ) (a : AttemptState) → coordinator a.plan.epoch ≡ n → AreOf n (superseded_lines p (Some a))
superseded_are n p a own = (own_epoch a.plan.epoch n own, tt)

pub ended_is : (n e : ℕ) (ended : AttemptEnd) → coordinator e ≡ n → IsOf n (entry.Attempt (ended_entry e ended))
ended_is n e (end.Votes have need lacking) own = own_epoch e n own
ended_is n e (end.Superseded p) own = own_epoch e n own
ended_is n e (end.Silent m) own = own_epoch e n own
ended_is n e (end.Foreign m) own = own_epoch e n own
ended_is n e (end.Excluded m) own = own_epoch e n own

pub bases_are : (n e before : ℕ) (texts : List (List ℕ)) → coordinator e ≡ n → AreOf n (base_lines e before texts)
bases_are n e before [] own = tt
bases_are n e before (text ∷ texts) own = (own_epoch e n own, bases_are n e (before + 1) texts own)

adopted_line_is : (n e k : ℕ) (r : List ℕ) (s : ResourceAt) → coordinator e ≡ n → AreOf n (adopted_line e k r s)
adopted_line_is n e k r s own = if_either (AreOf n) (is_adopted s) _ [] (own_epoch e n own, tt) tt

adopted_lines_are : (n e : ℕ) (v : GroupView) (resources : List (List ℕ × Resource)) → coordinator e ≡ n → AreOf n (adopted_lines e v resources)
unfolding adopted_lines
adopted_lines_are n e v resources own =
    each_is n (adopted_on e v resources) (numbers_to v.members most_nodes)
    (λ k. each_is n (λ x. adopted_line e k x.0 (states.state_of v.resources x.0 k)) resources (λ x. adopted_line_is n e k x.0 (states.state_of v.resources x.0 k) own))

pub adopted_are : (n e : ℕ) (s : ConfigState) (o : Option Presidency) → coordinator e ≡ n → AreOf n (adopted_of e s o)
adopted_are n e s None own = tt
adopted_are n e s (Some p) own = adopted_lines_are n e p.groups.view s.groups.resources own

-- ---- writes

pub write_are : (n : ℕ) (x : UpNode) (d value : ℕ) (a : DeviceAnswer) → AreOf n (write_lines n x d value a)
write_are n x d value (Ok given.Good) = (same_number n, tt)
write_are n x d value (Ok given.Conflict) = (same_number n, tt)
write_are n x d value _ = (same_number n, tt)
