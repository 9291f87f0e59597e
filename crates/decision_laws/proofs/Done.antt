-- What the end of an order leaves.
use Rattle.std.proofs.Common.{◌≡◌, ℕ, suc, zero, ◌-◌, ◌≤◌, ◌<◌, ◌^◌, ◌==◌, ◌&&◌, ◌⊎◌, inl, inr, Bool, true, false, cond, length, Option, None, Some, List, refl, sym, ap, subst, ◌∙◌, arith}
use Rattle.std.proofs.lemmas.Bool.{eq-eqb, ne_eqb, eqb-false}
use Rattle.std.proofs.lemmas.List.{length-set}
use Rattle.std.proofs.lemmas.Option.{none-some}
use Rattle.std.specs.Cmp.Lexicographic.{same_text}
use Rattle.std.specs.Option.{option_map_or}
use Rattle.std.specs.Str.{bytes_eq}
use Rattle.cl_base.specs.declared.method.Method.{Method}
use Rattle.cl_base.specs.declared.method.Method.TheVariants.{PrenetStart, Start, MonitorStart, MonitorCheck, MonitorStop, Stop, PostnetStop, Validate, Init, Fini, Boot, Update}
use Rattle.cl_base.specs.declared.method.Outcome.{Outcome}
use Rattle.cl_base.specs.Methods.{has_method}
use Rattle.cl_base.proofs.NameLemmas.{texts_pass}
use Rattle.rg_props.specs.declared.group.Resource.{Resource}
use Rattle.rg_props.specs.Lookups.{named}
use Rattle.rg_props.specs.Table.{GroupTable}
use Rattle.rg_view.specs.declared.name_at.NameAt.{NameAt}
use Rattle.rg_view.specs.declared.orders.Outstanding.{Outstanding}
use Rattle.rg_view.specs.declared.states.ResourceAt.{ResourceAt}
use Rattle.rg_view.specs.declared.view.GroupView.{GroupView}
use Rattle.rg_view.specs.Histories.{histories_with, history_at}
use Rattle.rg_view.specs.Marks.{marks_with, marks_without}
use Rattle.rg_view.specs.Orders.{OrdersAfter, order_of, orders_without}
use Rattle.rg_view.specs.States.{place_of_state, state_of, states_with}
use Rattle.rt_types.specs.Fields.{TypeFields}
use Rattle.rt_types.specs.Types.{type_of}
use Rattle.ccr_tables.specs.State.{ConfigState}
use Rattle.rgm_member.specs.Outcomes.{after_failure, after_success as marks_of_success, is_start_failure, is_success, marks_after}
use Rattle.rgm_member.specs.Settings.{charged, has_postnet_stop, type_in}
use Rattle.wire.specs.declared.report.Marks.{Marks}
use Rattle.rgm_state.specs.Histories.{failed_again, with_failure, with_leaving}
use Rattle.rgm_state.specs.Outcomes.{ended, ended_if, fails_to_start, marks_in, settled, state_after, with_charge, with_outcome, without_leaving_of, without_restart}
use Rattle.rgm_state.specs.Reports.{state_from}
use Rattle.rgm_state.specs.Standing.{has_flag, is_up}
use Rattle.sequencer_laws.specs.Flags.{Flags, after_success}
use Rattle.sequencer_laws.specs.Orders.{IsDone, OrdersAreSafe}
use Rattle.sequencer_laws.specs.Situations.{type_has}
use Rattle.sequencer_laws.specs.Views.{after_order, flags_of, has_postnet, seen, then_seen}
use Rattle.sequencer_laws.proofs.Done.{done_is_safe}
use Rattle.rgm_president.specs.State.{PresidentState}
use Rattle.decision_laws.specs.Safe.{AreOwn, DoneStaysSafe, HoldsOrders}
use Rattle.decision_laws.proofs.Same.{after_set, has_place, own_after}
use Rattle.decision_laws.proofs.States.{at_place, set_at}

-- Members, orders and states are what they were.
pub record KeepsStates (v w : GroupView) : Type 0 where
  pub members : w.members ≡ v.members
  pub orders : w.outstanding ≡ v.outstanding
  pub states : w.resources ≡ v.resources

pub as_was : (v : GroupView) → KeepsStates v v
as_was v = record { members = refl; orders = refl; states = refl }

pub then_keeps : (u v w : GroupView) → KeepsStates u v → KeepsStates v w → KeepsStates u w
then_keeps u v w a b = record { members = b.members ∙ a.members; orders = b.orders ∙ a.orders; states = b.states ∙ a.states }

pub either_keeps : (u v w : GroupView) (b : Bool) → KeepsStates u v → KeepsStates u w → KeepsStates u (cond b v w)
either_keeps u v w true p q = p
either_keeps u v w false p q = q

pub leaving_keeps : (t : GroupTable) (g : List ℕ) (n : ℕ) (v : GroupView) → KeepsStates v (with_leaving t g n v)
leaving_keeps t g n v = either_keeps v (record v { leaving = marks_with v.leaving g n }) v (is_up t v.resources g n) (record { members = refl; orders = refl; states = refl }) (as_was v)

failure_keeps : (t : GroupTable) (n now : ℕ) (v : GroupView) (g : Option (List ℕ)) → KeepsStates v (with_failure t n now v g)
failure_keeps t n now v None = as_was v
failure_keeps t n now v (Some g) =
    let known : GroupView = record v { groups = histories_with v.groups (failed_again g n now (history_at v.groups g n)) } in
    then_keeps v known (with_leaving t g n known) (record { members = refl; orders = refl; states = refl }) (leaving_keeps t g n known)

charge_keeps : (c : ConfigState) (o : Outstanding) (outcome : Outcome) (now : ℕ) (v : GroupView) → KeepsStates v (with_charge c o outcome now v)
charge_keeps c o outcome now v =
    either_keeps v (with_failure c.groups o.node now v (charged c o.resource)) v (fails_to_start c o.resource o.method outcome)
    (failure_keeps c.groups o.node now v (charged c o.resource)) (as_was v)

restart_keeps : (r : List ℕ) (n : ℕ) (v : GroupView) → KeepsStates v (without_restart r n v)
restart_keeps r n v =
    either_keeps v v (record v { restarting = marks_without v.restarting r n }) (has_flag (state_of v.resources r n)) (as_was v) (record { members = refl; orders = refl; states = refl })

left_keeps : (t : GroupTable) (n : ℕ) (v : GroupView) (o : Option Resource) → KeepsStates v (without_leaving_of t n v o)
left_keeps t n v None = as_was v
left_keeps t n v (Some x) =
    either_keeps v v (record v { leaving = marks_without v.leaving x.group n }) (is_up t v.resources x.group n) (as_was v) (record { members = refl; orders = refl; states = refl })

settled_keeps : (t : GroupTable) (r : List ℕ) (n : ℕ) (v : GroupView) → KeepsStates v (settled t r n v)
settled_keeps t r n v = then_keeps v (without_restart r n v) (settled t r n v) (restart_keeps r n v) (left_keeps t n (without_restart r n v) (named t.resources r))

-- The flags that an outcome leaves.

abbrev of_marks : Marks → Flags
of_marks m = record { pre = m.pre; run = m.run; mon = m.mon }

chosen_flags : (b : Bool) (m k : Marks) → of_marks k ≡ of_marks m → of_marks (cond b m k) ≡ of_marks m
chosen_flags true m k e = refl
chosen_flags false m k e = e

failure_sets_none : (charged : Bool) (method : Method) (m : Marks) → of_marks (after_failure charged method m) ≡ of_marks m
failure_sets_none charged PrenetStart m = chosen_flags charged m (record m { faulted = true }) refl
failure_sets_none charged Start m = chosen_flags charged m (record m { faulted = true }) refl
failure_sets_none charged MonitorStart m = refl
failure_sets_none charged MonitorCheck m = refl
failure_sets_none charged MonitorStop m = refl
failure_sets_none charged Stop m = refl
failure_sets_none charged PostnetStop m = refl
failure_sets_none charged Validate m = refl
failure_sets_none charged Init m = refl
failure_sets_none charged Fini m = refl
failure_sets_none charged Boot m = refl
failure_sets_none charged Update m = refl

success_sets : (postnet : Bool) (method : Method) (m : Marks) → of_marks (marks_of_success postnet method m) ≡ after_success postnet method (of_marks m)
success_sets postnet PrenetStart m = refl
success_sets postnet Start m = refl
success_sets postnet MonitorStart m = refl
success_sets postnet MonitorCheck m = refl
success_sets postnet MonitorStop m = refl
success_sets postnet Stop m = refl
success_sets postnet PostnetStop m = refl
success_sets postnet Validate m = refl
success_sets postnet Init m = refl
success_sets postnet Fini m = refl
success_sets postnet Boot m = refl
success_sets postnet Update m = refl

same_postnet : (c : ConfigState) (r : List ℕ) → has_postnet_stop c r ≡ has_postnet c.types (named c.groups.resources r)
same_postnet c r = by (named c.groups.resources r)
  where
    typed : (o : Option TypeFields) → option_map_or (λ t. has_method t.methods PostnetStop) o false ≡ type_has PostnetStop o
    typed None = refl
    typed (Some t) = refl

    by : (o : Option Resource) → option_map_or (λ t. has_method t.methods PostnetStop) (type_in c o) false ≡ has_postnet c.types o
    by None = refl
    by (Some x) = typed (type_of c.types x.resource_type)

-- those that were there, or those that the method leaves
outcome_flags : (c : ConfigState) (r : List ℕ) (method : Method) (outcome : Outcome) (m : Marks)
    → (of_marks (marks_after c r method outcome m) ≡ of_marks m) ⊎ (of_marks (marks_after c r method outcome m) ≡ after_success (has_postnet c.types (named c.groups.resources r)) method (of_marks m))
outcome_flags c r method outcome m = by (is_success outcome)
  where
    failed : Marks
    failed = after_failure (is_start_failure c r method outcome) method m

    by : (b : Bool) → (of_marks (cond b (marks_of_success (has_postnet_stop c r) method m) failed) ≡ of_marks m)
        ⊎ (of_marks (cond b (marks_of_success (has_postnet_stop c r) method m) failed) ≡ after_success (has_postnet c.types (named c.groups.resources r)) method (of_marks m))
    by true = inr (success_sets (has_postnet_stop c r) method m ∙ ap (λ (postnet : Bool). after_success postnet method (of_marks m)) (same_postnet c r))
    by false = inl (failure_sets_none (is_start_failure c r method outcome) method m)

module _ (c : ConfigState) (v : GroupView) (o : Outstanding) (outcome : Outcome) (now : ℕ) (is : order_of v.outstanding o.node ≡ Some o) (low : 1 ≤ o.node) where
  abbrev there : ResourceAt
  there = state_of v.resources o.resource o.node

  abbrev left : ResourceAt
  left = state_after c o.method outcome o.resource o.node there

  abbrev first : GroupView
  first = with_outcome c o outcome (record v { outstanding = orders_without v.outstanding o.node })

  abbrev last : GroupView
  last = ended c o outcome now v

  keeps : KeepsStates first last
  keeps = then_keeps first (settled c.groups o.resource o.node first) last (settled_keeps c.groups o.resource o.node first) (charge_keeps c o outcome now (settled c.groups o.resource o.node first))

  seen_last : (name : List ℕ) (k : ℕ) → seen last name k ≡ flags_of (state_of (states_with v.resources left) name k)
  seen_last name k = ap (λ (states : List ResourceAt). flags_of (state_of states name k)) keeps.states

  -- what is left stands at the place of the order
  left_place : (method : Option Method) → place_of_state (state_after c method outcome o.resource o.node there) ≡ record { name = o.resource; node = o.node }
  left_place None = at_place v.resources o.resource o.node
  left_place (Some m) = refl

  own_flags : (method : Option Method) → o.method ≡ method
      → (flags_of (state_after c method outcome o.resource o.node there) ≡ seen v o.resource o.node)
      ⊎ (flags_of (state_after c method outcome o.resource o.node there) ≡ then_seen c.groups c.types v o.resource o.node)
  own_flags None e = inl refl
  own_flags (Some m) e = by (outcome_flags c o.resource m outcome (marks_in there))
    where
      leaves : then_seen c.groups c.types v o.resource o.node ≡ after_success (has_postnet c.types (named c.groups.resources o.resource)) m (seen v o.resource o.node)
      leaves =
          ap (λ (found : Option Outstanding). after_order c.groups c.types o.resource found (seen v o.resource o.node)) is
          ∙ rw (texts_pass o.resource o.resource refl, e) refl

      by : (of_marks (marks_after c o.resource m outcome (marks_in there)) ≡ of_marks (marks_in there))
          ⊎ (of_marks (marks_after c o.resource m outcome (marks_in there)) ≡ after_success (has_postnet c.types (named c.groups.resources o.resource)) m (of_marks (marks_in there)))
          → (flags_of (state_from o.resource o.node (marks_after c o.resource m outcome (marks_in there))) ≡ seen v o.resource o.node)
          ⊎ (flags_of (state_from o.resource o.node (marks_after c o.resource m outcome (marks_in there))) ≡ then_seen c.groups c.types v o.resource o.node)
      by (inl kept) = inl kept
      by (inr moved) = inr (moved ∙ sym leaves)

  -- at the order's place what is left, and elsewhere what was there
  seen_at : (name : List ℕ) (k : ℕ) → seen last name k ≡ flags_of (cond (bytes_eq o.resource name && (o.node == k)) left (state_of v.resources name k))
  seen_at name k =
      seen_last name k ∙ ap flags_of (set_at left name k v.resources)
      ∙ ap (λ (q : NameAt). flags_of (cond (bytes_eq q.name name && (q.node == k)) left (state_of v.resources name k))) (left_place o.method)

  at_node : (name : List ℕ) → (seen last name o.node ≡ seen v name o.node) ⊎ (seen last name o.node ≡ then_seen c.groups c.types v name o.node)
  at_node name = by (bytes_eq o.resource name) refl
    where
      by : (b : Bool) → bytes_eq o.resource name ≡ b → (seen last name o.node ≡ seen v name o.node) ⊎ (seen last name o.node ≡ then_seen c.groups c.types v name o.node)
      by false other = inl (seen_at name o.node ∙ rw other refl)
      by true own = subst (λ (x : List ℕ). (seen last x o.node ≡ seen v x o.node) ⊎ (seen last x o.node ≡ then_seen c.groups c.types v x o.node)) (same_text o.resource name (sym own))
          (here (own_flags o.method refl))
        where
          set_there : seen last o.resource o.node ≡ flags_of left
          set_there = seen_at o.resource o.node ∙ rw (texts_pass o.resource o.resource refl, eq-eqb o.node o.node refl) refl

          here : (flags_of left ≡ seen v o.resource o.node) ⊎ (flags_of left ≡ then_seen c.groups c.types v o.resource o.node)
              → (seen last o.resource o.node ≡ seen v o.resource o.node) ⊎ (seen last o.resource o.node ≡ then_seen c.groups c.types v o.resource o.node)
          here (inl e) = inl (set_there ∙ e)
          here (inr e) = inr (set_there ∙ e)

  elsewhere : (name : List ℕ) (k : ℕ) → (k == o.node) ≡ false → seen last name k ≡ seen v name k
  elsewhere name k away =
      let other : (o.node == k) ≡ false = ne_eqb o.node k (λ e. eqb-false k o.node away (sym e)) in
      seen_at name k ∙ ap (λ (b : Bool). flags_of (cond (bytes_eq o.resource name && b) left (state_of v.resources name k))) other ∙ none (bytes_eq o.resource name)
    where
      none : (b : Bool) → flags_of (cond (b && false) left (state_of v.resources name k)) ≡ seen v name k
      none true = refl
      none false = refl

  after : OrdersAfter v.outstanding o.node None last.outstanding
  after = subst (λ (l : List (Option Outstanding)). OrdersAfter v.outstanding o.node None l) (sym keeps.orders)
      (after_set v.outstanding o.node None low (has_place v.outstanding o.node o is))

  pub is_done : IsDone c.groups c.types v o.node last
  is_done = record { members = keeps.members; orders = after; there = at_node; elsewhere = elsewhere }

  pub still_holds : (p : PresidentState) → p.view ≡ v → HoldsOrders c p → HoldsOrders c (record p { view = last })
  still_holds p e h = record {
    members = subst (λ (s : ℕ). s < 2 ^ 32) (sym (keeps.members ∙ ap (λ (w : GroupView). w.members) (sym e))) h.members;
    places = ap (λ (l : List (Option Outstanding)). length l) keeps.orders ∙ length-set v.outstanding (o.node - 1) None ∙ ap (λ (w : GroupView). length w.outstanding) (sym e) ∙ h.places;
    own = own_after v.outstanding last.outstanding o.node None (λ x none. absurd (none-some x none)) (subst (λ (w : GroupView). AreOwn w.outstanding) e h.own) after;
    safe = done_is_safe c.groups c.types c.limits v last o.node is_done (subst (λ (w : GroupView). OrdersAreSafe c.groups c.types c.limits w) e h.safe);
  }

own_from : (c : ConfigState) (p : PresidentState) → HoldsOrders c p → (n : ℕ) (o : Outstanding) → order_of p.view.outstanding (suc n) ≡ Some o
    → (order_of p.view.outstanding o.node ≡ Some o) × (1 ≤ o.node)
own_from c p h n o is =
    let node : o.node ≡ suc n = h.own (suc n) o (omega arith) is in
    (ap (λ (k : ℕ). order_of p.view.outstanding k) node ∙ is, omega (arith, node))

-- the order of node 0 is that of node 1
own_order : (c : ConfigState) (p : PresidentState) → HoldsOrders c p → (from : ℕ) (o : Outstanding) → order_of p.view.outstanding from ≡ Some o
    → (order_of p.view.outstanding o.node ≡ Some o) × (1 ≤ o.node)
own_order c p h zero o is = own_from c p h 0 o is
own_order c p h (suc n) o is = own_from c p h n o is

pub done_stays_safe : DoneStaysSafe
done_stays_safe c from number outcome now p h = by (order_of p.view.outstanding from) refl
  where
    told : (o : Outstanding) → order_of p.view.outstanding from ≡ Some o → (b : Bool) → HoldsOrders c (record p { view = cond b (ended c o outcome now p.view) p.view })
    told o is true = let own : _ = own_order c p h from o is in still_holds c p.view o outcome now own.0 own.1 p refl h
    told o is false = h

    by : (o : Option Outstanding) → order_of p.view.outstanding from ≡ o → HoldsOrders c (record p { view = ended_if c number outcome now p.view o })
    by None is = h
    by (Some o) is = told o is (o.number == number)
