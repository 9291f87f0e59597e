-- What is given in a step is no Request.
use Rattle.std.specs.Prelude.{ℕ, ◌==◌, List, [], Option, None, Some}
use Rattle.cl_base.specs.declared.method.Method.{Method}
use Rattle.cl_base.specs.declared.method.Outcome.{Outcome}
use Rattle.cmm_attempt.proofs.Basics.{if_either}
use Rattle.proposals.specs.declared.arrived.Arrived.{Arrived}
use Rattle.request_queue.specs.Queue as queue
use Rattle.request_queue.specs.declared.request.Request.{Request}
use Rattle.rgm_member.specs.declared.carried.Carried.{Carried}
use Rattle.rgm_member.specs.declared.carried.Carried.TheVariants as carried
use Rattle.shared_address.specs.Choosing as serving
use Rattle.shared_address.specs.declared.choice.Client.{Client}
use Rattle.status_report.specs.declared.command_entry.Answer.{Answer}
use Rattle.status_report.specs.declared.entry.Entry.TheVariants as entry
use Rattle.status_report.specs.declared.status_entry.StatusEntry.{StatusEntry}
use Rattle.wire.specs.declared.message.Order.{Order}
use Rattle.node_model.specs.Addresses.{forgot_lines, served_lines}
use Rattle.node_model.specs.Deciding.{order_sent, orders_sent}
use Rattle.node_model.specs.Groups.{call_told, order_again, order_again_to, order_at, order_told, orders_again_by, orders_again_of}
use Rattle.node_model.specs.Presidents.{answer_given, own_line, told_lines}
use Rattle.node_model.specs.declared.node.UpNode.{UpNode}
use Rattle.node_model.specs.declared.output.Output.TheVariants.{Tells}
use Rattle.node_model.specs.declared.presidency.Presidency.{Presidency}
use Rattle.run_history.proofs.Lists.{both, mapped, of_each}
use Rattle.run_packets.specs.again.Asking.{AskNone, AsksNone}

pub lines_none : (lines : List StatusEntry) → AskNone (told_lines lines)
lines_none lines = mapped AsksNone (λ l. Tells (entry.Status l)) lines (λ l. tt)

pub orders_none : (me : ℕ) (orders : List (ℕ × Order)) → AskNone (orders_sent me orders)
unfolding orders_sent
orders_none me orders = of_each AsksNone (order_sent me) orders (λ e. if_either (AskNone) (e.0 == me) [] _ tt (tt, tt))

call_none : (me : ℕ) (order : Order) (outcome : Outcome) (m : Option Method) → AskNone (call_told me order outcome m)
call_none me order outcome None = tt
call_none me order outcome (Some m) = (tt, (tt, tt))

pub order_none : (me : ℕ) (order : Order) (how : Carried) → AskNone (order_told me order how)
order_none me order (carried.Called outcome) = call_none me order outcome order.method
order_none me order carried.Cleared = tt
order_none me order (carried.Kept outcome) = tt
order_none me order carried.Old = tt

again_to : (n : ℕ) (order : Option Order) → AskNone (order_again_to n order)
again_to n None = tt
again_to n (Some order) = (tt, tt)

pub again_none : (before after : Option Presidency) → AskNone (orders_again_by before after)
unfolding orders_again_of
again_none None after = tt
again_none (Some before) None = tt
again_none (Some before) (Some after) =
    of_each AsksNone (order_again _ after.groups) _ (λ n. if_either (AskNone) _ (order_again_to n (order_at n after.groups)) [] (again_to n (order_at n after.groups)) tt)

forgot_none : (name : List ℕ) (k : Option Client) → AskNone (forgot_lines name k)
forgot_none name None = tt
forgot_none name (Some k) = (tt, tt)

pub served_none : (name : List ℕ) (client port : ℕ) (k : serving.Outcome) → AskNone (served_lines name client port k)
served_none name client port k = both AsksNone (forgot_lines name k.forgot) _ (forgot_none name k.forgot) (tt, tt)

pub own_none : (me : ℕ) (told : Answer) (o : Option Request) → AskNone (own_line me told o)
own_none me told None = tt
own_none me told (Some r) = if_either (AskNone) r.told _ [] (tt, tt) tt

pub given_none : (me : ℕ) (x : UpNode) (a : Arrived) (told : Answer) → AskNone (answer_given me x a told)
given_none me x a told = if_either (AskNone) (a.from == me) (own_line me told (queue.found x.requests.waiting a.number)) _ (own_none me told (queue.found x.requests.waiting a.number)) (tt, tt)
