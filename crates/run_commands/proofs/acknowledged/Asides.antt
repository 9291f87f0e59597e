-- What is given in a step is no Request, and a president's hand stays where it does something else.
use Rattle.std.specs.Prelude.{ℕ, ◌≡◌, ◌==◌, ◌&&◌, nat_le, Bool, true, false, List, [], ◌∷◌, Option, None, Some, Result, Ok, Err, if◌then◌else◌}
use Rattle.std.specs.List.{AllByRecursion}
use Rattle.std.proofs.Common.{refl, sym, ap, subst, ◌∙◌, inl, inr}
use Rattle.admin_commands.specs.Answers.{unless_refused}
use Rattle.admin_commands.specs.declared.accepted.Accepted.TheVariants as accepted
use Rattle.admin_words.specs.declared.error.WordError.{WordError}
use Rattle.ccr_tables.specs.State.{ConfigState}
use Rattle.ccr_tables.specs.declared.command.AdminCommand.{AdminCommand}
use Rattle.ccr_tables.specs.declared.command.AdminCommand.TheVariants.{Act, Change, Rows, Status}
use Rattle.ccr_tables.specs.declared.update.Update.{Update}
use Rattle.cl_base.specs.Sets.{has}
use Rattle.cl_base.specs.declared.command.Ask.{Ask}
use Rattle.cl_base.specs.declared.method.Method.{Method}
use Rattle.cl_base.specs.declared.method.Outcome.{Outcome}
use Rattle.cl_base.specs.declared.refusal.Refusal.{Refusal}
use Rattle.cmm_attempt.proofs.Basics.{and_cases, if_either, same_number}
use Rattle.proposals.specs.Arrivals.{answered, arrival_of, with_arrival}
use Rattle.proposals.specs.State.{State}
use Rattle.proposals.specs.declared.arrived.Arrival.{Arrival}
use Rattle.proposals.specs.declared.arrived.Arrival.TheVariants.{Answered, New, Past, Waits}
use Rattle.proposals.specs.declared.arrived.Arrived.{Arrived}
use Rattle.request_queue.specs.Queue as queue
use Rattle.request_queue.specs.Queue.{Queue, oldest}
use Rattle.request_queue.specs.declared.request.Request.{Request}
use Rattle.rgm_member.specs.declared.carried.Carried.{Carried}
use Rattle.rgm_member.specs.declared.carried.Carried.TheVariants as carried
use Rattle.shared_address.specs.Choosing as serving
use Rattle.shared_address.specs.declared.choice.Client.{Client}
use Rattle.status_report.specs.CommandLines.{reply_text}
use Rattle.status_report.specs.declared.command_entry.Answer.{Answer}
use Rattle.status_report.specs.declared.entry.Entry.TheVariants as entry
use Rattle.status_report.specs.declared.status_entry.StatusEntry.{StatusEntry}
use Rattle.wire.specs.declared.message.Body.{Body}
use Rattle.wire.specs.declared.message.Body.TheVariants as body
use Rattle.wire.specs.declared.message.Order.{Order}
use Rattle.node_model.specs.Addresses.{forgot_lines, served_lines}
use Rattle.node_model.specs.Deciding.{order_sent, orders_sent}
use Rattle.node_model.specs.Groups.{call_told, order_again, order_again_to, order_at, order_told, orders_again_by, orders_again_of}
use Rattle.node_model.specs.Presidents.{answer_given, own_arrival, own_line, taken_up, told_lines, with_own}
use Rattle.node_model.specs.Seats.{is_in, is_member, record_of, session_of}
use Rattle.node_model.specs.Updates.{is_of_member}
use Rattle.node_model.specs.declared.input.Input.{Input}
use Rattle.node_model.specs.declared.node.UpNode.{UpNode}
use Rattle.node_model.specs.declared.output.Output.{Output}
use Rattle.node_model.specs.declared.output.Output.TheVariants.{Tells}
use Rattle.node_model.specs.declared.presidency.Presidency.{Presidency}
use Rattle.node_model.specs.declared.seat.Seat.{Seat}
use Rattle.node_model.specs.declared.seat.Seat.TheVariants.{Forming, Member}
use Rattle.refinement.specs.Cuts.{left_by_answer}
use Rattle.run_history.proofs.Lists.{both, mapped, of_each}
use Rattle.run_messages.specs.Laws.{membership_in}
use Rattle.run_commands.proofs.carried.Asides.{IsOtherBody}
use Rattle.run_commands.specs.acknowledged.Guards.{BodyHand, CauseOf, IsIn, OutputHand, PresidencyGoes}
use Rattle.run_commands.specs.acknowledged.Hands.{HandGoes, Stays_or_comes}

abbrev pub AllHand : UpNode → List Output → Type 0
AllHand x os = AllByRecursion (OutputHand x) os

pub other_hand : (x : UpNode) (b : Body) → IsOtherBody b → BodyHand x b
other_hand x (body.Request e q text) is = absurd is
other_hand x _ is = tt

pub lines_hand : (x : UpNode) (lines : List StatusEntry) → AllHand x (told_lines lines)
lines_hand x lines = mapped (OutputHand x) (λ l. Tells (entry.Status l)) lines (λ l. tt)

pub orders_hand : (me : ℕ) (x : UpNode) (orders : List (ℕ × Order)) → AllHand x (orders_sent me orders)
unfolding orders_sent
orders_hand me x orders = of_each (OutputHand x) (order_sent me) orders (λ e. if_either (AllHand x) (e.0 == me) [] _ tt (tt, tt))

call_hand : (me : ℕ) (x : UpNode) (order : Order) (outcome : Outcome) (m : Option Method) → AllHand x (call_told me order outcome m)
call_hand me x order outcome None = tt
call_hand me x order outcome (Some m) = (tt, (tt, tt))

pub order_hand : (me : ℕ) (x : UpNode) (order : Order) (how : Carried) → AllHand x (order_told me order how)
order_hand me x order (carried.Called outcome) = call_hand me x order outcome order.method
order_hand me x order carried.Cleared = tt
order_hand me x order (carried.Kept outcome) = tt
order_hand me x order carried.Old = tt

again_to : (x : UpNode) (n : ℕ) (order : Option Order) → AllHand x (order_again_to n order)
again_to x n None = tt
again_to x n (Some order) = (tt, tt)

pub again_hand : (x : UpNode) (before after : Option Presidency) → AllHand x (orders_again_by before after)
unfolding orders_again_of
again_hand x None after = tt
again_hand x (Some before) None = tt
again_hand x (Some before) (Some after) =
    of_each (OutputHand x) (order_again _ after.groups) _ (λ n. if_either (AllHand x) _ (order_again_to n (order_at n after.groups)) [] (again_to x n (order_at n after.groups)) tt)

forgot_hand : (x : UpNode) (name : List ℕ) (k : Option Client) → AllHand x (forgot_lines name k)
forgot_hand x name None = tt
forgot_hand x name (Some k) = (tt, tt)

pub served_hand : (x : UpNode) (name : List ℕ) (client port : ℕ) (k : serving.Outcome) → AllHand x (served_lines name client port k)
served_hand x name client port k = both (OutputHand x) (forgot_lines name k.forgot) _ (forgot_hand x name k.forgot) (tt, tt)

pub own_hand : (me : ℕ) (x : UpNode) (told : Answer) (o : Option Request) → AllHand x (own_line me told o)
own_hand me x told None = tt
own_hand me x told (Some r) = if_either (AllHand x) r.told _ [] (tt, tt) tt

pub given_hand : (me : ℕ) (x y : UpNode) (a : Arrived) (told : Answer) → AllHand y (answer_given me x a told)
given_hand me x y a told = if_either (AllHand y) (a.from == me) (own_line me told (queue.found x.requests.waiting a.number)) _ (own_hand me y told (queue.found x.requests.waiting a.number)) (tt, tt)

-- ---- the president's hand

pub stays_hand : (C : Arrived → Type 0) (s : State) → HandGoes C s s
stays_hand C s = inl (inl (refl, refl, refl))

pub same_hand : (C : Arrived → Type 0) (o : Option Presidency) → PresidencyGoes C o o
same_hand C None = tt
same_hand C (Some p) = stays_hand C p.proposals

pub so_hand : (C : Arrived → Type 0) (o : Option Presidency) (p q : Presidency) → o ≡ Some p → HandGoes C p.proposals q.proposals → PresidencyGoes C o (Some q)
so_hand C o p q is h = subst (λ (z : Option Presidency). PresidencyGoes C z (Some q)) (sym is) h

oldest_in : (rs : List Request) (r : Request) → queue.oldest_in rs ≡ Some r → IsIn r rs
oldest_in [] r e = cc
oldest_in (x ∷ xs) r e = inl (some_is r x e)
  where
    some_is : (y z : Request) → Some z ≡ Some y → y ≡ z
    some_is y z h = cc

pub oldest_is : (q : Queue) (r : Request) → oldest q ≡ Some r → IsIn r q.waiting
oldest_is q r e = oldest_in q.waiting r e

left_in : (q : Queue) (k : ℕ) (r : Request) (rs : List Request) → q.waiting ≡ rs → IsIn r (queue.left_of q rs k).waiting → IsIn r q.waiting
left_in q k r [] is h = h
left_in q k r (x ∷ xs) is h = by (x.number == k) h
  where
    by : (b : Bool) → IsIn r (let z : Queue = if b then record q { waiting = xs; age = 0 } else q in z.waiting) → IsIn r q.waiting
    by true g = subst (IsIn r) (sym is) (inr g)
    by false g = g

-- what is left is of what waited
pub answered_in : (q : Queue) (k : ℕ) (r : Request) → IsIn r (queue.answered q k).waiting → IsIn r q.waiting
answered_in q k r h = left_in q k r q.waiting refl h

own_comes : (C : Arrived → Type 0) (s : State) (a : Arrived) (how : Arrival) → arrival_of s a.from a.number ≡ how → C a → Stays_or_comes C s (with_arrival s a how)
own_comes C s a New is cause = inr (record { request = a; new = is; is = refl; cause = cause })
own_comes C s a Waits is cause = inl (refl, refl, refl)
own_comes C s a Answered is cause = inl (refl, refl, refl)
own_comes C s a Past is cause = inl (refl, refl, refl)

pub with_own_goes : (C : Arrived → Type 0) (me : ℕ) (s : State) (o : Option Request) → ((r : Request) → o ≡ Some r → C (own_arrival me r)) → Stays_or_comes C s (with_own me s o)
with_own_goes C me s None so = inl (refl, refl, refl)
with_own_goes C me s (Some r) so = own_comes C s (own_arrival me r) (arrival_of s me r.number) refl (so r refl)

-- the first is answered
pub answers_hand : (i : Input) (me : ℕ) (v : Option ℕ) (x : UpNode) (p q : Presidency) (a : Arrived) (told : Answer) → q.proposals ≡ p.proposals → HandGoes (CauseOf i me v x) p.proposals (left_by_answer me x q a told).proposals
answers_hand i me v x p q a told same =
    subst (λ (s : State). HandGoes (CauseOf i me v x) s (left_by_answer me x q a told).proposals) same
    (inr (record {
      text = reply_text told;
      then = if_either (Stays_or_comes (CauseOf i me v x) (answered q.proposals (reply_text told))) (a.from == me)
          (with_own me (answered q.proposals (reply_text told)) (oldest (queue.answered x.requests a.number))) (answered q.proposals (reply_text told))
          (with_own_goes (CauseOf i me v x) me (answered q.proposals (reply_text told)) (oldest (queue.answered x.requests a.number))
          (λ r is. inr (record { request = r; waits = answered_in x.requests a.number r (oldest_is (queue.answered x.requests a.number) r is); is = refl })))
          (inl (refl, refl, refl));
    }))

pub taken_same : (s : ConfigState) (p : Presidency) (r : Result AdminCommand WordError) → (let q : Presidency = taken_up s p r in q.proposals ≡ p.proposals)
taken_same s p (Ok (Change u)) = refl
taken_same s p (Ok (Act a)) = refl
taken_same s p (Ok (Status q)) = refl
taken_same s p (Ok (Rows name)) = refl
taken_same s p (Err e) = refl

-- ---- what is accepted is what was asked for

pub accepted_change : (o : Option Refusal) (u v : Update) → unless_refused o (accepted.Change u) ≡ Ok (accepted.Change v) → v ≡ u
accepted_change None u v e = cc
accepted_change (Some r) u v e = cc

pub accepted_act : (o : Option Refusal) (a : Ask) (v : Update) → unless_refused o (accepted.Act a) ≡ Ok (accepted.Change v) → ⊥
accepted_act None a v e = cc
accepted_act (Some r) a v e = cc

-- ---- a member of its membership asks

pub of_member : (x : UpNode) (from e : ℕ) → is_of_member x from e ≡ true → (is_member x.seat ≡ true) × (session_of x ≡ e) × (has (record_of x).members from ≡ true)
of_member x from e h =
    let two : _ = and_cases (is_member x.seat && is_in x e) (has (record_of x).members from) h in
    let one : _ = and_cases (is_member x.seat) (is_in x e) two.0 in
    (one.0, same_number (session_of x) e (and_cases (nat_le 1 e) (session_of x == e) one.1).1, two.1)

seat_member : (x : UpNode) (seat : Seat) → x.seat ≡ seat → is_member seat ≡ true → membership_in seat ≡ Some (session_of x)
seat_member x (Forming s) at so = cc
seat_member x (Member s) at so = ap (λ k. Some k) (sym (ap (λ (z : Seat). session_of (record x { seat = z })) at))

pub is_seated : (x : UpNode) → is_member x.seat ≡ true → membership_in x.seat ≡ Some (session_of x)
is_seated x so = seat_member x x.seat refl so

pub member_here : (x : UpNode) (from e : ℕ) → is_of_member x from e ≡ true → membership_in x.seat ≡ Some e
member_here x from e h = let three : _ = of_member x from e h in is_seated x three.0 ∙ ap (λ k. Some k) three.1
