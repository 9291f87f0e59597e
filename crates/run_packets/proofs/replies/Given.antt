-- What a node gives besides its messages of attempts and updates: the orders of a president are of its membership, and nobody else gives any.
use Rattle.ccr_tables.specs.State.{ConfigState}
use Rattle.cl_base.specs.Sets.{has}
use Rattle.cl_base.specs.Limits.{most_nodes}
use Rattle.cl_base.specs.Numbers.{numbers_to}
use Rattle.cl_base.specs.declared.method.Method.{Method}
use Rattle.cl_base.specs.declared.method.Outcome.TheVariants.{Success}
use Rattle.cmm_attempt.proofs.Basics.{if_either}
use Rattle.node_model.specs.Addresses.{forgot_lines, served_lines}
use Rattle.node_model.specs.Groups.{call_told, order_again, order_again_to, order_at, order_told, order_with, orders_again_by, orders_again_of}
use Rattle.rg_props.specs.Words.{name_in}
use Rattle.rg_view.specs.Orders.{order_of}
use Rattle.rg_view.specs.declared.orders.Outstanding.{Outstanding}
use Rattle.rgm_member.specs.Orders.{after_order, done}
use Rattle.rgm_member.specs.State.{WorkerState}
use Rattle.rgm_president.specs.State.{PresidentState}
use Rattle.sent_orders.specs.Ticks.{due}
use Rattle.shared_address.specs.declared.choice.Client.{Client as Remembered}
use Rattle.std.proofs.Common.{subst}
use Rattle.std.specs.Option.{option_map}
use Rattle.run_history.proofs.Lists.{both}
use Rattle.cl_base.specs.declared.method.Outcome.{Outcome}
use Rattle.rgm_member.specs.Probes.{recorded}
use Rattle.restart_policy.specs.declared.policy.ProbeAction.{ProbeAction}
use Rattle.restart_policy.specs.declared.policy.ProbeAction.TheVariants as probe_action
use Rattle.rgm_member.specs.declared.carried.Carried.{Carried}
use Rattle.rgm_member.specs.declared.carried.Carried.TheVariants as carried
use Rattle.wire.specs.declared.message.Order.{Order}
use Rattle.shared_address.specs.Choosing as serving
use Rattle.node_model.specs.declared.presidency.Presidency.{Presidency}
use Rattle.std.proofs.Common.{refl}
use Rattle.std.specs.Prelude.{ℕ, ◌≡◌, flat_map, List, [], ◌∷◌, Option, None, Some}
use Rattle.run_packets.specs.replies.Orders.{GivesOf, NoOrderOut, NoOrders, OrdersOf}
use Rattle.run_packets.proofs.replies.Attempting.{both_of}

-- ---- orders

call_of : (n : ℕ) (o : Order) (outcome : Outcome) (m : Option Method) → NoOrders (call_told n o outcome m)
call_of n o outcome None = tt
call_of n o outcome (Some m) = (tt, (tt, tt))

pub told_of : (n : ℕ) (o : Order) (how : Carried) → NoOrders (order_told n o how)
told_of n o (carried.Called outcome) = call_of n o outcome o.method
told_of n o carried.Cleared = tt
told_of n o (carried.Kept outcome) = tt
told_of n o carried.Old = tt

done_epoch : (w : WorkerState) (c : ConfigState) (name : Option (List ℕ)) (m : Option Method) (outcome : Outcome) (now : ℕ) → (done w c name m outcome now).epoch ≡ w.epoch
done_epoch w c name None outcome now = refl
done_epoch w c name (Some m) outcome now = refl

pub order_epoch : (w : WorkerState) (c : ConfigState) (o : Order) (now : ℕ) (how : Carried) → (after_order w c o now how).epoch ≡ w.epoch
order_epoch w c o now (carried.Called outcome) = done_epoch w c (name_in o.resource) o.method outcome now
order_epoch w c o now carried.Cleared = done_epoch w c (name_in o.resource) o.method Success now
order_epoch w c o now (carried.Kept outcome) = refl
order_epoch w c o now carried.Old = refl

pub probe_epoch : (w : WorkerState) (c : ConfigState) (r : List ℕ) (now : ℕ) (a : ProbeAction) → (recorded w c r now a).epoch ≡ w.epoch
probe_epoch w c r now probe_action.Restart = refl
probe_epoch w c r now probe_action.Move = refl
probe_epoch w c r now probe_action.Logged = refl

again_to_of : (k e : ℕ) (o : Option Outstanding) → OrdersOf e (order_again_to k (option_map (order_with e) o))
again_to_of k e None = tt
again_to_of k e (Some o) = (refl, tt)

again_of_epoch : (set : ℕ) (p : PresidentState) (ks : List ℕ) → OrdersOf p.epoch (flat_map (order_again set p) ks)
again_of_epoch set p [] = tt
again_of_epoch set p (k ∷ ks) =
    both_of p.epoch (order_again set p k) (flat_map (order_again set p) ks)
    (if_either (OrdersOf p.epoch) (has set k) (order_again_to k (order_at k p)) [] (again_to_of k p.epoch (order_of p.view.outstanding k)) tt) (again_of_epoch set p ks)

pub again_gives : (e : ℕ) (before after : Option Presidency) → GivesOf after e (orders_again_by before after)
unfolding orders_again_of
again_gives e None None = tt
again_gives e None (Some after) = λ same. tt
again_gives e (Some before) None = tt
again_gives e (Some before) (Some after) = λ same. subst (λ k. OrdersOf k (orders_again_of (due before.sent) after.groups)) same (again_of_epoch (due before.sent) after.groups (numbers_to after.groups.view.members most_nodes))

forgot_of : (name : List ℕ) (o : Option Remembered) → NoOrders (forgot_lines name o)
forgot_of name None = tt
forgot_of name (Some k) = (tt, tt)

pub served_of : (name : List ℕ) (client port : ℕ) (o : serving.Outcome) → NoOrders (served_lines name client port o)
served_of name client port o = both NoOrderOut (forgot_lines name o.forgot) _ (forgot_of name o.forgot) (tt, tt)
