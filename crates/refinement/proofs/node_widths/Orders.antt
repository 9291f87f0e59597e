-- What a president keeps of orders, and the orders that it gives, have their widths.
use Rattle.std.specs.Prelude.{ℕ, ◌+◌, ◌-◌, ◌^◌, ◌≡◌, ◌≤◌, ◌<◌, ◌⊎◌, ◌==◌, nat_lt, All, Bool, true, List, [], ◌∷◌, ◌++◌, Option, None, Some, fold, length, slice_index_or, if◌then◌else◌}
use Rattle.std.proofs.Common.{sym, subst, inl, inr, arith}
use Rattle.std.specs.List.{AllByRecursion}
use Rattle.std.proofs.lemmas.Bool.{cases_lt}
use Rattle.std.proofs.lemmas.List.{get_or_past}
use Rattle.std.proofs.lemmas.List.Elements.{All-replicate, All-set}
use Rattle.cl_base.specs.Names.{IsName}
use Rattle.cl_base.specs.declared.command.Ask.{Ask}
use Rattle.cl_base.specs.declared.command.Ask.TheVariants.{Restart, Move, Remaster, Evacuate, Clear}
use Rattle.cl_base.specs.declared.method.Method.{Method}
use Rattle.cl_base.specs.declared.method.Outcome.{Outcome}
use Rattle.ccr_tables.specs.State.{ConfigState}
use Rattle.ccr_tables.specs.declared.update.GroupChange.{GroupChange}
use Rattle.ccr_tables.specs.declared.update.GroupChange.TheVariants as group
use Rattle.ccr_tables.specs.declared.update.ResourceChange.{ResourceChange}
use Rattle.ccr_tables.specs.declared.update.ResourceChange.TheVariants as resource
use Rattle.ccr_tables.specs.declared.update.Update.{Update}
use Rattle.ccr_tables.specs.declared.update.Update.TheVariants.{RegisterType, UnregisterType, CreateGroup, DeleteGroup, SetGroup, ChangeGroup, SwitchGroup, CreateResource, DeleteResource, SetResource, ChangeResource, Device, NodeVote, AddNode, RemoveNode, CreateLimit, DeleteLimit, CreateAddress, DeleteAddress, SetWeights}
use Rattle.cmm_attempt.proofs.Basics.{if_either, less}
use Rattle.rg_props.specs.declared.group.Group.{Group}
use Rattle.rg_props.specs.declared.group.Resource.{Resource}
use Rattle.rg_props.specs.Lookups.{named}
use Rattle.rg_props.specs.Table.{GroupTable}
use Rattle.rg_view.specs.declared.orders.Outstanding.{Outstanding}
use Rattle.rg_view.specs.declared.view.GroupView.{GroupView}
use Rattle.rg_view.specs.Orders.{order_of, orders_without}
use Rattle.rgm_member.specs.Settings.{charged}
use Rattle.rgm_president.specs.Acts.{president_of, with_ask, with_done, with_update}
use Rattle.rgm_president.specs.Decisions.{Turn, call_on, decision, goals_set, members_of, ordered, ordered_unless, outlook_over, turns_unless, with_goals_of, with_turn, with_turns}
use Rattle.rgm_president.specs.Goals.{with_decided, with_ended, with_goals, with_listed}
use Rattle.rgm_president.specs.Sequence.{sequence}
use Rattle.rgm_president.specs.State.{PresidentState, next_order, with_order}
use Rattle.rgm_president.proofs.Turns.{few_numbers}
use Rattle.rgm_state.specs.Asks.{remastered}
use Rattle.rgm_state.specs.Changes.{after_update, group_changed, put_online, resource_changed}
use Rattle.rgm_state.specs.Histories.{with_failure, with_leaving, with_move}
use Rattle.rgm_state.specs.Outcomes.{ended, ended_if, fails_to_start, settled, with_charge, with_outcome, without_leaving_of, without_restart}
use Rattle.rgm_state.specs.Standing.{has_flag, is_up}
use Rattle.rg_view.specs.States.{state_of}
use Rattle.wire.specs.declared.message.Order.{Order}
use Rattle.wire.specs.declared.report.Report.{Report}
use Rattle.wire.specs.Spelling.{IsNode, IsWord}
use Rattle.refinement.specs.node_widths.Widths.{GroupsFit, OutstandingFits}
use Rattle.refinement.proofs.node_widths.Clears.{AskFits}
use Rattle.refinement.proofs.node_widths.Names.{TableFits, call_fits}
use Rattle.refinement.proofs.node_widths.Turns.{numbers_are_nodes}

-- Orders that are outstanding.

abbrev AllOutstanding : GroupView → Type 0
AllOutstanding v = All OutstandingFits v.outstanding

either_view : (b : Bool) (v w : GroupView) → AllOutstanding v → AllOutstanding w → AllOutstanding (if b then v else w)
either_view b v w h k = if_either AllOutstanding b v w h k

pub order_of_fits : (orders : List (Option Outstanding)) (n : ℕ) → All OutstandingFits orders → OutstandingFits (order_of orders n)
order_of_fits orders n h = at (cases_lt (n - 1) (length orders))
  where
    at : (n - 1 < length orders) ⊎ (length orders ≤ n - 1) → OutstandingFits (slice_index_or orders (n - 1) None)
    at (inl low) = h (n - 1) None low
    at (inr past) = subst OutstandingFits (sym (get_or_past orders (n - 1) None past)) tt

-- as a membership begins
pub begun_fits : (c : ConfigState) (e members : ℕ) (reports : List (ℕ × Report)) (now : ℕ) → IsWord e → GroupsFit (president_of c e members reports now)
begun_fits c e members reports now small = (small, omega arith, All-replicate OutstandingFits 32 None tt)

-- An order ended.

leaving_fits : (t : GroupTable) (g : List ℕ) (n : ℕ) (v : GroupView) → AllOutstanding v → AllOutstanding (with_leaving t g n v)
leaving_fits t g n v h = either_view (is_up t v.resources g n) _ v h h

failure_fits : (t : GroupTable) (n now : ℕ) (v : GroupView) (g : Option (List ℕ)) → AllOutstanding v → AllOutstanding (with_failure t n now v g)
failure_fits t n now v None h = h
failure_fits t n now v (Some g) h = leaving_fits t g n _ h

charge_fits : (c : ConfigState) (o : Outstanding) (outcome : Outcome) (now : ℕ) (v : GroupView) → AllOutstanding v → AllOutstanding (with_charge c o outcome now v)
charge_fits c o outcome now v h =
    either_view (fails_to_start c o.resource o.method outcome) (with_failure c.groups o.node now v (charged c o.resource)) v (failure_fits c.groups o.node now v (charged c o.resource) h) h

left_fits : (t : GroupTable) (n : ℕ) (v : GroupView) (o : Option Resource) → AllOutstanding v → AllOutstanding (without_leaving_of t n v o)
left_fits t n v None h = h
left_fits t n v (Some x) h = either_view (is_up t v.resources x.group n) v _ h h

settled_fits : (t : GroupTable) (r : List ℕ) (n : ℕ) (v : GroupView) → AllOutstanding v → AllOutstanding (settled t r n v)
settled_fits t r n v h = left_fits t n (without_restart r n v) (named t.resources r) (either_view (has_flag (state_of v.resources r n)) v _ h h)

ended_fits : (c : ConfigState) (o : Outstanding) (outcome : Outcome) (now : ℕ) (v : GroupView) → AllOutstanding v → AllOutstanding (ended c o outcome now v)
ended_fits c o outcome now v h =
    let first : GroupView = with_outcome c o outcome (record v { outstanding = orders_without v.outstanding o.node }) in
    charge_fits c o outcome now (settled c.groups o.resource o.node first) (settled_fits c.groups o.resource o.node first (All-set OutstandingFits v.outstanding (o.node - 1) None tt h))

ended_if_fits : (c : ConfigState) (number : ℕ) (outcome : Outcome) (now : ℕ) (v : GroupView) (o : Option Outstanding) → AllOutstanding v → AllOutstanding (ended_if c number outcome now v o)
ended_if_fits c number outcome now v None h = h
ended_if_fits c number outcome now v (Some o) h = either_view (o.number == number) (ended c o outcome now v) v (ended_fits c o outcome now v h) h

pub with_done_fits : (c : ConfigState) (from number : ℕ) (outcome : Outcome) (now : ℕ) (p : PresidentState) → GroupsFit p → GroupsFit (with_done c from number outcome now p)
with_done_fits c from number outcome now p h = (h.0, h.1, ended_if_fits c number outcome now p.view (order_of p.view.outstanding from) h.2)

-- An update.

online_fits : (name : List ℕ) (v : GroupView) (g : Option Group) → AllOutstanding v → AllOutstanding (put_online name v g)
online_fits name v None h = h
online_fits name v (Some g) h = h

group_fits : (c : ConfigState) (name : List ℕ) (v : GroupView) (change : GroupChange) → AllOutstanding v → AllOutstanding (group_changed c name v change)
group_fits c name v group.Online h = online_fits name v (named c.groups.groups name) h
group_fits c name v group.Manage h = h
group_fits c name v group.Unmanage h = h
group_fits c name v group.Offline h = h
group_fits c name v group.Suspend h = h
group_fits c name v group.Resume h = h

resource_fits : (name : List ℕ) (v : GroupView) (change : ResourceChange) → AllOutstanding v → AllOutstanding (resource_changed name v change)
resource_fits name v resource.Disable h = h
resource_fits name v resource.Enable h = h
resource_fits name v resource.Monitor h = h
resource_fits name v resource.Unmonitor h = h

update_fits : (c : ConfigState) (u : Update) (v : GroupView) → AllOutstanding v → AllOutstanding (after_update c u v)
update_fits c (ChangeGroup name change) v h = group_fits c name v change h
update_fits c (SwitchGroup name nodes) v h = h
update_fits c (DeleteGroup name) v h = h
update_fits c (ChangeResource name change) v h = resource_fits name v change h
update_fits c (DeleteResource name) v h = h
update_fits c (RegisterType name agent methods single failover) v h = h
update_fits c (UnregisterType name) v h = h
update_fits c (CreateGroup name nodes) v h = h
update_fits c (SetGroup name property value) v h = h
update_fits c (CreateResource name of_group of_type) v h = h
update_fits c (SetResource name property value) v h = h
update_fits c (Device d change) v h = h
update_fits c (NodeVote n vote) v h = h
update_fits c (AddNode n) v h = h
update_fits c (RemoveNode n) v h = h
update_fits c (CreateLimit n limit soft hard) v h = h
update_fits c (DeleteLimit n limit) v h = h
update_fits c (CreateAddress name of_group policy) v h = h
update_fits c (DeleteAddress name) v h = h
update_fits c (SetWeights name weights) v h = h

pub with_update_fits : (c : ConfigState) (u : Update) (p : PresidentState) → GroupsFit p → GroupsFit (with_update c u p)
with_update_fits c u p h = (h.0, h.1, update_fits c u p.view h.2)

-- An order is given.

pub next_fits : (given : ℕ) → nat_lt given (2 ^ 63) ≡ true → IsWord (given + 1)
next_fits given may = small given (less given (2 ^ 63) may)
  where
    small : (k : ℕ) → k < 2 ^ 63 → k + 1 < 2 ^ 64
    small k h = omega (arith, h)

order_given : (p : PresidentState) (n : ℕ) (r : List ℕ) (method : Option Method) → IsWord (p.given + 1) → IsName r → GroupsFit p → GroupsFit (with_order p n r method)
order_given p n r method small is h =
    (h.0, small, All-set OutstandingFits p.view.outstanding (n - 1) (Some (record { node = n; number = p.given + 1; resource = r; method = method })) (small, is) h.2)

-- orders to nodes
abbrev pub GivenFits : ℕ × Order → Type 0
GivenFits e = IsNode e.0 × IsWord e.1.epoch × IsWord e.1.number × IsName e.1.resource

abbrev pub OrdersFit : List (ℕ × Order) → Type 0
OrdersFit orders = AllByRecursion GivenFits orders

one_more : (orders : List (ℕ × Order)) (e : ℕ × Order) → GivenFits e → OrdersFit orders → OrdersFit (orders ++ e ∷ [])
one_more [] e f h = (f, tt)
one_more (x ∷ orders) e f h = (h.0, one_more orders e f h.1)

-- so many orders have been given at most
abbrev TurnFits : ℕ → Turn → Type 0
TurnFits k t = GroupsFit t.president × (t.president.given ≤ k) × OrdersFit t.orders

abbrev IsNamed : Option (List ℕ × Method) → Type 0
IsNamed None = Unit {0}
IsNamed (Some call) = IsName call.0

ordered_fits : (k n : ℕ) (t : Turn) (call : Option (List ℕ × Method)) → IsNamed call → IsNode n → k + 1 < 2 ^ 64 → TurnFits k t → TurnFits (k + 1) (ordered n t call)
ordered_fits k n t None name is room h = (h.0, omega (arith, h.1), h.2)
ordered_fits k n t (Some call) name is room h =
    let small : IsWord (t.president.given + 1) = within k t.president.given room h.1 in (
      order_given t.president n call.0 (Some call.1) small name h.0,
      omega (arith, h.1),
      one_more t.orders (n, next_order t.president call.0 (Some call.1)) (is, h.0.0, small, name) h.2,
    )
  where
    within : (k given : ℕ) → k + 1 < 2 ^ 64 → given ≤ k → given + 1 < 2 ^ 64
    within k given room le = omega (arith, room, le)

unless_fits : (c : ConfigState) (resources : List (List ℕ)) (k n : ℕ) (t : Turn) (o : Option Outstanding) → TableFits c.groups → IsNode n → k + 1 < 2 ^ 64 → TurnFits k t
    → TurnFits (k + 1) (ordered_unless c resources n t o)
unless_fits c resources k n t None names is room h =
    ordered_fits k n t (call_on c resources t.president.view n)
    (call_fits c.groups c.types c.limits t.president.view (outlook_over c resources t.president.view) n names resources) is room h
unless_fits c resources k n t (Some o) names is room h = (h.0, omega (arith, h.1), h.2)

turn_fits : (c : ConfigState) (resources : List (List ℕ)) (k : ℕ) (t : Turn) (n : ℕ) → TableFits c.groups → IsNode n → k + 1 < 2 ^ 64 → TurnFits k t
    → TurnFits (k + 1) (with_turn c resources t n)
unfolding with_turn
turn_fits c resources k t n names is room h = unless_fits c resources k n t (order_of t.president.view.outstanding n) names is room h

-- the orders given in all have numbers of 64 bits
abbrev Given : Turn → Type 0
Given t = GroupsFit t.president × OrdersFit t.orders

turns_fit : (c : ConfigState) (resources : List (List ℕ)) (ns : List ℕ) (k : ℕ) (t : Turn) → TableFits c.groups → AllByRecursion IsNode ns → k + length ns < 2 ^ 64 → TurnFits k t
    → Given (fold (with_turn c resources) t ns)
turns_fit c resources [] k t names are room h = (h.0, h.2)
turns_fit c resources (n ∷ ns) k t names are room h =
    turns_fit c resources ns (k + 1) (with_turn c resources t n) names are.1 (omega (arith, room)) (turn_fits c resources k t n names are.0 (omega (arith, room)) h)

pub decision_fits : (c : ConfigState) (now : ℕ) (held_up : Bool) (p : PresidentState) → TableFits c.groups → nat_lt p.given (2 ^ 63) ≡ true → GroupsFit p
    → GroupsFit (decision c now held_up p).president × OrdersFit (decision c now held_up p).orders
unfolding turns_unless with_turns members_of goals_set with_goals with_ended with_decided with_listed
decision_fits c now held_up p names may h =
    if_either Given held_up (record { president = with_goals_of c now p; orders = [] }) (with_turns c (sequence c.groups) (with_goals_of c now p))
    (h, tt)
    (turns_fit c (sequence c.groups) (members_of p.view.members) p.given (record { president = with_goals_of c now p; orders = [] }) names (numbers_are_nodes p.view.members 32 (omega arith))
    (few p.given (length (members_of p.view.members)) (less p.given (2 ^ 63) may) (few_numbers p.view.members 32)) (h, omega arith, tt))
  where
    few : (given k : ℕ) → given < 2 ^ 63 → k ≤ 32 → given + k < 2 ^ 64
    few given k may le = omega (arith, may, le)

-- What is asked for.

move_fits : (t : GroupTable) (n now : ℕ) (v : GroupView) (g : Option (List ℕ)) → AllOutstanding v → AllOutstanding (with_move t n now v g)
move_fits t n now v None h = h
move_fits t n now v (Some g) h = leaving_fits t g n _ h

remaster_fits : (name : List ℕ) (v : GroupView) (g : Option Group) → AllOutstanding v → AllOutstanding (remastered name v g)
remaster_fits name v None h = h
remaster_fits name v (Some g) h = h

pub with_ask_fits : (c : ConfigState) (from : ℕ) (ask : Ask) (now : ℕ) (p : PresidentState) → AskFits ask → nat_lt p.given (2 ^ 63) ≡ true → GroupsFit p
    → GroupsFit (with_ask c from ask now p)
with_ask_fits c from (Clear r n) now p f may h = order_given p n r None (next_fits p.given may) f.0 h
with_ask_fits c from (Restart r) now p f may h = (h.0, h.1, either_view (has_flag (state_of p.view.resources r from)) _ p.view h.2 h.2)
with_ask_fits c from (Move r) now p f may h = (h.0, h.1, move_fits c.groups from now p.view (charged c r) h.2)
with_ask_fits c from (Remaster g) now p f may h = (h.0, h.1, remaster_fits g p.view (named c.groups.groups g) h.2)
with_ask_fits c from (Evacuate n) now p f may h = h
