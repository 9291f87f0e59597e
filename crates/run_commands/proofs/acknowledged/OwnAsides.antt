-- What is given in a step is no Request, and how a president's queue goes with its hand.
use Rattle.std.specs.Prelude.{ℕ, ◌≡◌, ◌≤◌, ◌==◌, Bool, true, false, if◌then◌else◌, List, [], ◌∷◌, Option, None, Some}
use Rattle.std.specs.List.{AllByRecursion}
use Rattle.std.proofs.Common.{refl, sym, ap, subst, arith, inl, inr}
use Rattle.cl_base.specs.declared.method.Method.{Method}
use Rattle.cl_base.specs.declared.method.Outcome.{Outcome}
use Rattle.cmm_attempt.proofs.Basics.{if_either}
use Rattle.proposals.specs.Arrivals.{answered, arrival_of, with_arrival}
use Rattle.proposals.specs.State.{State, first_in}
use Rattle.proposals.specs.declared.arrived.Arrival.{Arrival}
use Rattle.proposals.specs.declared.arrived.Arrival.TheVariants.{Answered, New, Past, Waits}
use Rattle.proposals.specs.declared.arrived.Arrived.{Arrived}
use Rattle.request_queue.specs.Queue as queue
use Rattle.request_queue.specs.Queue.{Queue, oldest}
use Rattle.request_queue.specs.declared.request.Request.{Request}
use Rattle.rgm_member.specs.declared.carried.Carried.{Carried}
use Rattle.rgm_member.specs.declared.carried.Carried.TheVariants as carried
use Rattle.shared_address.specs.Choosing as serving
use Rattle.shared_address.specs.declared.choice.Client.{Client}
use Rattle.status_report.specs.CommandLines.{reply_text}
use Rattle.status_report.specs.declared.command_entry.Answer.{Answer}
use Rattle.status_report.specs.declared.entry.Entry.TheVariants as entry
use Rattle.status_report.specs.declared.status_entry.StatusEntry.{StatusEntry}
use Rattle.wire.specs.declared.message.Body.{Body}
use Rattle.wire.specs.declared.message.Body.TheVariants as body
use Rattle.wire.specs.declared.message.Order.{Order}
use Rattle.node_model.specs.Addresses.{forgot_lines, served_lines}
use Rattle.node_model.specs.Deciding.{order_sent, orders_sent}
use Rattle.node_model.specs.Groups.{call_told, order_again, order_again_to, order_at, order_told, orders_again_by, orders_again_of}
use Rattle.node_model.specs.Presidents.{answer_given, own_arrival, own_line, told_lines, with_own}
use Rattle.node_model.specs.declared.input.Input.{Input}
use Rattle.node_model.specs.declared.node.UpNode.{UpNode}
use Rattle.node_model.specs.declared.output.Output.{Output}
use Rattle.node_model.specs.declared.output.Output.TheVariants.{Tells}
use Rattle.node_model.specs.declared.presidency.Presidency.{Presidency}
use Rattle.refinement.specs.Cuts.{left_by_answer, queue_by}
use Rattle.run_history.proofs.Lists.{both, mapped, of_each}
use Rattle.run_commands.proofs.carried.Asides.{IsOtherBody}
use Rattle.run_commands.specs.acknowledged.Hands.{Stays_or_comes}
use Rattle.run_commands.specs.acknowledged.AnsweringGuards.{OfBoth}
use Rattle.run_commands.proofs.acknowledged.Own.{AnswersOwn, BodyOwn, MindsOwn, OutputOwn, OwnCause}

abbrev pub AllAway : UpNode → List Output → Type 0
AllAway x os = AllByRecursion (OutputOwn x) os

pub other_away : (x : UpNode) (to : ℕ) (b : Body) → IsOtherBody b → BodyOwn x to b
other_away x to (body.Request e q text) is = absurd is
other_away x to _ is = tt

pub lines_away : (x : UpNode) (lines : List StatusEntry) → AllAway x (told_lines lines)
lines_away x lines = mapped (OutputOwn x) (λ l. Tells (entry.Status l)) lines (λ l. tt)

pub orders_away : (me : ℕ) (x : UpNode) (orders : List (ℕ × Order)) → AllAway x (orders_sent me orders)
unfolding orders_sent
orders_away me x orders = of_each (OutputOwn x) (order_sent me) orders (λ e. if_either (AllAway x) (e.0 == me) [] _ tt (tt, tt))

call_away : (me : ℕ) (x : UpNode) (order : Order) (outcome : Outcome) (m : Option Method) → AllAway x (call_told me order outcome m)
call_away me x order outcome None = tt
call_away me x order outcome (Some m) = (tt, (tt, tt))

pub order_away : (me : ℕ) (x : UpNode) (order : Order) (how : Carried) → AllAway x (order_told me order how)
order_away me x order (carried.Called outcome) = call_away me x order outcome order.method
order_away me x order carried.Cleared = tt
order_away me x order (carried.Kept outcome) = tt
order_away me x order carried.Old = tt

again_to : (x : UpNode) (n : ℕ) (order : Option Order) → AllAway x (order_again_to n order)
again_to x n None = tt
again_to x n (Some order) = (tt, tt)

pub again_away : (x : UpNode) (before after : Option Presidency) → AllAway x (orders_again_by before after)
unfolding orders_again_of
again_away x None after = tt
again_away x (Some before) None = tt
again_away x (Some before) (Some after) =
    of_each (OutputOwn x) (order_again _ after.groups) _ (λ n. if_either (AllAway x) _ (order_again_to n (order_at n after.groups)) [] (again_to x n (order_at n after.groups)) tt)

forgot_away : (x : UpNode) (name : List ℕ) (k : Option Client) → AllAway x (forgot_lines name k)
forgot_away x name None = tt
forgot_away x name (Some k) = (tt, tt)

pub served_away : (x : UpNode) (name : List ℕ) (client port : ℕ) (k : serving.Outcome) → AllAway x (served_lines name client port k)
served_away x name client port k = both (OutputOwn x) (forgot_lines name k.forgot) _ (forgot_away x name k.forgot) (tt, tt)

pub own_away : (me : ℕ) (x : UpNode) (told : Answer) (o : Option Request) → AllAway x (own_line me told o)
own_away me x told None = tt
own_away me x told (Some r) = if_either (AllAway x) r.told _ [] (tt, tt) tt

pub given_away : (me : ℕ) (x y : UpNode) (a : Arrived) (told : Answer) → AllAway y (answer_given me x a told)
given_away me x y a told = if_either (AllAway y) (a.from == me) (own_line me told (queue.found x.requests.waiting a.number)) _ (own_away me y told (queue.found x.requests.waiting a.number)) (tt, tt)

-- ---- the queue with the hand

same_length : (a b : ℕ) → b ≡ a → a ≤ b
same_length a b e = omega (arith, e)

no_less : (q p : Queue) → (p ≡ q) → q.asked ≤ p.asked
no_less q p e = same_length q.asked p.asked (ap (λ (z : Queue). z.asked) e)

pub answered_asked : (q : Queue) (k : ℕ) → (queue.answered q k).asked ≡ q.asked
answered_asked q k = by q.waiting
  where
    by : (rs : List Request) → (queue.left_of q rs k).asked ≡ q.asked
    by [] = refl
    by (r ∷ rs) = if_either (λ (z : Queue). z.asked ≡ q.asked) (r.number == k) _ q refl refl

by_asked : (me : ℕ) (x : UpNode) (a : Arrived) → (queue_by me x a).asked ≡ x.requests.asked
by_asked me x a = if_either (λ (z : Queue). z.asked ≡ x.requests.asked) (a.from == me) (queue.answered x.requests a.number) x.requests (answered_asked x.requests a.number) refl

pub no_fewer : (x : UpNode) (q : Queue) → q.asked ≡ x.requests.asked → x.requests.asked ≤ q.asked
no_fewer x q e = same_length x.requests.asked q.asked e

same_both : (C : Arrived → Type 0) (o : Option Presidency) → OfBoth (Stays_or_comes C) o o
same_both C None = tt
same_both C (Some p) = inl (refl, refl, refl)

-- nothing of the hand changes, and the queue keeps what waits
pub quiet_own : (i : Input) (me : ℕ) (v : Option ℕ) (x : UpNode) (q : Queue) → q.waiting ≡ x.requests.waiting → x.requests.asked ≤ q.asked → MindsOwn i me v x q x.presidency
quiet_own i me v x q waiting asked = (asked, inl (record { waiting = waiting; hand = same_both (OwnCause i me v x q) x.presidency }))

-- the queue stays, and something becomes of the hand
pub so_own : (i : Input) (me : ℕ) (v : Option ℕ) (x : UpNode) (p q : Presidency) → x.presidency ≡ Some p → Stays_or_comes (OwnCause i me v x x.requests) p.proposals q.proposals → MindsOwn i me v x x.requests (Some q)
so_own i me v x p q is h = (
  no_fewer x x.requests refl,
  inl (record { waiting = refl; hand = subst (λ (z : Option Presidency). OfBoth (Stays_or_comes (OwnCause i me v x x.requests)) z (Some q)) (sym is) h }),
)

pub stays_own : (C : Arrived → Type 0) (s : State) → Stays_or_comes C s s
stays_own C s = inl (refl, refl, refl)

own_comes : (C : Arrived → Type 0) (s : State) (a : Arrived) (how : Arrival) → arrival_of s a.from a.number ≡ how → C a → Stays_or_comes C s (with_arrival s a how)
own_comes C s a New is cause = inr (record { request = a; new = is; is = refl; cause = cause })
own_comes C s a Waits is cause = inl (refl, refl, refl)
own_comes C s a Answered is cause = inl (refl, refl, refl)
own_comes C s a Past is cause = inl (refl, refl, refl)

with_own_goes : (i : Input) (me : ℕ) (v : Option ℕ) (x : UpNode) (q : Queue) (s : State) (o : Option Request) → oldest q ≡ o → Stays_or_comes (OwnCause i me v x q) s (with_own me s o)
with_own_goes i me v x q s None is = inl (refl, refl, refl)
with_own_goes i me v x q s (Some r) is = own_comes (OwnCause i me v x q) s (own_arrival me r) (arrival_of s me r.number) refl (inr (record { request = r; first = is; is = refl }))

-- what is in hand once the first is answered, with the queue that is left
hand_goes : (i : Input) (me : ℕ) (v : Option ℕ) (x : UpNode) (s : State) (a : Arrived) (b : Bool)
    → (let q : Queue = if b then queue.answered x.requests a.number else x.requests in
    Stays_or_comes (OwnCause i me v x q) s (if b then with_own me s (oldest (queue.answered x.requests a.number)) else s))
hand_goes i me v x s a true = with_own_goes i me v x (queue.answered x.requests a.number) s (oldest (queue.answered x.requests a.number)) refl
hand_goes i me v x s a false = inl (refl, refl, refl)

-- the first is answered
pub answers_own : (i : Input) (me : ℕ) (v : Option ℕ) (x : UpNode) (s : State) (q : Presidency) (a : Arrived) (told : Answer) → first_in s.arrived ≡ Some a → q.proposals ≡ s
    → AnswersOwn i me v x (queue_by me x a) s (left_by_answer me x q a told).proposals
answers_own i me v x s q a told first same = record {
  request = a;
  first = first;
  text = reply_text told;
  waiting = refl;
  then = subst (λ (z : State). Stays_or_comes (OwnCause i me v x (queue_by me x a)) (answered z (reply_text told)) (left_by_answer me x q a told).proposals) same
      (hand_goes i me v x (answered q.proposals (reply_text told)) a (a.from == me));
}

pub minds_answer : (i : Input) (me : ℕ) (v : Option ℕ) (x : UpNode) (p q : Presidency) (a : Arrived) (told : Answer) → x.presidency ≡ Some p → first_in p.proposals.arrived ≡ Some a → q.proposals ≡ p.proposals
    → MindsOwn i me v x (queue_by me x a) (Some (left_by_answer me x q a told))
minds_answer i me v x p q a told is first same =
    (no_fewer x (queue_by me x a) (by_asked me x a), inr (inr (inl (record { presidency = p; here = is; left = left_by_answer me x q a told; is = refl; answers = answers_own i me v x p.proposals q a told first same }))))

pub change_answer : (i : Input) (me : ℕ) (v : Option ℕ) (x : UpNode) (p q : Presidency) (a : Arrived) (told : Answer) → first_in p.proposals.arrived ≡ Some a → q.proposals ≡ p.proposals
    → (x.requests.asked ≤ (queue_by me x a).asked) × AnswersOwn i me v x (queue_by me x a) p.proposals (left_by_answer me x q a told).proposals
change_answer i me v x p q a told first same = (no_fewer x (queue_by me x a) (by_asked me x a), answers_own i me v x p.proposals q a told first same)
