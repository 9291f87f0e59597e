-- What is asked for leaves orders safe.
use Rattle.std.proofs.Common.{◌≡◌, ℕ, ◌+◌, ◌-◌, ◌≤◌, ◌<◌, ◌^◌, length, Option, None, Some, List, refl, sym, ap, subst, ◌∙◌, arith}
use Rattle.std.proofs.lemmas.List.{length-set}
use Rattle.cl_base.specs.declared.command.Ask.TheVariants.{Restart, Move, Remaster, Evacuate, Clear}
use Rattle.rg_props.specs.declared.group.Group.{Group}
use Rattle.rg_props.specs.Lookups.{named}
use Rattle.rg_props.specs.Table.{GroupTable}
use Rattle.rg_view.specs.declared.orders.Outstanding.{Outstanding}
use Rattle.rg_view.specs.declared.states.ResourceAt.{ResourceAt}
use Rattle.rg_view.specs.declared.view.GroupView.{GroupView}
use Rattle.rg_view.specs.Histories.{histories_with, history_at}
use Rattle.rg_view.specs.Marks.{marks_with}
use Rattle.rg_view.specs.Orders.{OrdersAfter, orders_with}
use Rattle.rg_view.specs.States.{state_of}
use Rattle.ccr_tables.specs.State.{ConfigState}
use Rattle.rgm_member.specs.Settings.{charged}
use Rattle.rgm_state.specs.Asks.{evacuated_from, remastered, with_restart}
use Rattle.rgm_state.specs.Histories.{moved_again, with_leaving, with_move}
use Rattle.rgm_state.specs.Standing.{has_flag}
use Rattle.sequencer_laws.specs.Orders.{clear_for}
use Rattle.sequencer_laws.specs.Views.{flags_of}
use Rattle.sequencer_laws.proofs.Cleared.{clear_is_safe}
use Rattle.rgm_president.specs.State.{PresidentState, with_order}
use Rattle.decision_laws.specs.Safe.{AreOwn, AsksStaySafe, HoldsOrders}
use Rattle.decision_laws.proofs.Done.{KeepsStates, as_was, either_keeps, leaving_keeps, then_keeps}
use Rattle.decision_laws.proofs.Same.{KeepsOrders, after_set, own_after, safe_still}

-- Where members, orders and flags are what they were, orders are as safe as they were.
pub holds_still : (c : ConfigState) (p : PresidentState) (w : GroupView) → KeepsOrders p.view w → HoldsOrders c p → HoldsOrders c (record p { view = w })
holds_still c p w same h = record {
  members = subst (λ (s : ℕ). s < 2 ^ 32) (sym same.members) h.members;
  places = ap (λ (l : List (Option Outstanding)). length l) same.orders ∙ h.places;
  own = subst AreOwn (sym same.orders) h.own;
  safe = safe_still c.groups c.types c.limits p.view w same h.safe;
}

states_still : (c : ConfigState) (p : PresidentState) (w : GroupView) → KeepsStates p.view w → HoldsOrders c p → HoldsOrders c (record p { view = w })
states_still c p w same h =
    let too : KeepsOrders p.view w = record {
      members = same.members;
      orders = same.orders;
      flags = λ name n. ap (λ (states : List ResourceAt). flags_of (state_of states name n)) same.states;
    } in
    holds_still c p w too h

restart_keeps : (r : List ℕ) (n : ℕ) (v : GroupView) → KeepsStates v (with_restart r n v)
restart_keeps r n v =
    either_keeps v (record v { restarting = marks_with v.restarting r n }) v (has_flag (state_of v.resources r n)) (record { members = refl; orders = refl; states = refl }) (as_was v)

move_keeps : (t : GroupTable) (n now : ℕ) (v : GroupView) (g : Option (List ℕ)) → KeepsStates v (with_move t n now v g)
move_keeps t n now v None = as_was v
move_keeps t n now v (Some g) =
    let known : GroupView = record v { groups = histories_with v.groups (moved_again g n now (history_at v.groups g n)) } in
    then_keeps v known (with_leaving t g n known) (record { members = refl; orders = refl; states = refl }) (leaving_keeps t g n known)

remaster_keeps : (name : List ℕ) (v : GroupView) (g : Option Group) → KeepsStates v (remastered name v g)
remaster_keeps name v None = as_was v
remaster_keeps name v (Some g) = record { members = refl; orders = refl; states = refl }

-- An order to clear, to a node that has none.
clear_holds : (c : ConfigState) (r : List ℕ) (n : ℕ) (p : PresidentState) → 1 ≤ n → n ≤ 32 → HoldsOrders c p → HoldsOrders c (with_order p n r None)
clear_holds c r n p low high h = record {
  members = h.members;
  places = length-set p.view.outstanding (n - 1) (Some given) ∙ h.places;
  own = own_after p.view.outstanding orders n (Some given) of_node h.own after;
  safe = clear_is_safe c.groups c.types c.limits p.view n given.number r orders h.safe after;
}
  where
    given : Outstanding
    given = clear_for n (p.given + 1) r

    orders : List (Option Outstanding)
    orders = orders_with p.view.outstanding given

    after : OrdersAfter p.view.outstanding n (Some given) orders
    after = after_set p.view.outstanding n (Some given) low (omega (arith, high, h.places))

    of_node : (o : Outstanding) → Some given ≡ Some o → o.node ≡ n
    of_node o is = let it : given ≡ o = cc in ap (λ (x : Outstanding). x.node) (sym it)

pub asks_stay_safe : AsksStaySafe
asks_stay_safe c from (Restart r) now p node h = states_still c p (with_restart r from p.view) (restart_keeps r from p.view) h
asks_stay_safe c from (Move r) now p node h = states_still c p (with_move c.groups from now p.view (charged c r)) (move_keeps c.groups from now p.view (charged c r)) h
asks_stay_safe c from (Remaster g) now p node h = states_still c p (remastered g p.view (named c.groups.groups g)) (remaster_keeps g p.view (named c.groups.groups g)) h
asks_stay_safe c from (Evacuate n) now p node h = states_still c p (evacuated_from n p.view) (record { members = refl; orders = refl; states = refl }) h
asks_stay_safe c from (Clear r n) now p node h = clear_holds c r n p node.0 node.1 h
