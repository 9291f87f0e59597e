-- Where a decision leaves nothing outstanding, no member has a call, and each goal node is settled.
use Rattle.std.proofs.Common.{◌≡◌, ◌≢◌, ℕ, suc, nat_eq, ◌+◌, ◌-◌, ◌≤◌, ◌<◌, ◌^◌, ◌==◌, ◌⊎◌, inl, inr, Bool, true, false, cond, ◌||◌, List, [], ◌∷◌, Option, None, Some, is_none, is_some, fold, map, filter, length, set, refl, sym, ap, subst, ◌∙◌, arith}
use Rattle.std.proofs.lemmas.Bool.{eq-eqb, eqb-true, ne_eqb, or_cases}
use Rattle.std.proofs.lemmas.Option.{none-some}
use Rattle.std.proofs.lemmas.List.{length-set}
use Rattle.std.proofs.lemmas.List.Elements.{All-contains}
use Rattle.std.proofs.lemmas.Map.Views.{Contains-from_any}
use Rattle.std.specs.Cmp.Lexicographic.{same_text}
use Rattle.std.specs.List.{All, list_any, slice_get}
use Rattle.std.specs.Option.{option_map}
use Rattle.std.specs.Str.{bytes_eq}
use Rattle.cl_base.specs.declared.method.Method.{Method}
use Rattle.cl_base.specs.declared.method.Method.TheVariants.{PrenetStart, Start, MonitorStart}
use Rattle.cl_base.specs.declared.reason.Reason.{Reason}
use Rattle.cl_base.specs.declared.reason.Reason.TheVariants as reason
use Rattle.cl_base.specs.declared.state.GroupState.{GroupState}
use Rattle.cl_base.specs.declared.state.GroupState.TheVariants.{ErrorStopFailed, OnlineFaulted, PendingOnlineBlocked}
use Rattle.cl_base.specs.Limits.{most_nodes}
use Rattle.cl_base.specs.Numbers.{numbers_to}
use Rattle.cl_base.specs.Sets.{has}
use Rattle.load_limits.specs.declared.limits.Limit.{Limit}
use Rattle.rg_deps.specs.Laws.{AnOrderIsFound, ChosenIsOrder}
use Rattle.rg_props.specs.declared.group.Group.{Group}
use Rattle.rg_props.specs.declared.group.Resource.{Resource}
use Rattle.rg_props.specs.Lookups.{named}
use Rattle.rg_props.specs.Table.{GroupTable}
use Rattle.rg_props.specs.Values.{or_else}
use Rattle.rg_view.specs.declared.orders.Outstanding.{Outstanding}
use Rattle.rg_view.specs.declared.view.GroupView.{GroupView}
use Rattle.rg_view.specs.Goals.{goal_of}
use Rattle.rg_view.specs.Orders.{OrdersAfter, order_of}
use Rattle.rt_types.specs.Fields.{TypeFields}
use Rattle.ccr_tables.specs.State.{ConfigState}
use Rattle.wire.specs.declared.message.Order.{Order}
use Rattle.sequencer.specs.Allowed.{has_up_call, is_allowed, is_callable, is_callable_in}
use Rattle.sequencer.specs.Fields.{OutlookFields}
use Rattle.sequencer.specs.Next.{call_of, first_up, last_down, next_call_of, up_call, with_up}
use Rattle.sequencer_laws.proofs.Counts.{above_zero, any_member, within_most}
use Rattle.rgm_state.specs.Standing.{resources_of}
use Rattle.rgm_president.specs.Decisions.{call_on, decision, outlook_over, with_goals_of}
use Rattle.rgm_president.specs.Sequence.{sequence}
use Rattle.rgm_president.specs.State.{PresidentState, with_order}
use Rattle.rgm_president.specs.Status.{can_rise, first_blocked, first_faulted, group_state, has_stop_failed, is_hindered, is_order_of, reason_for, state_in, state_inside}
use Rattle.president_laws.specs.Laws.{HasNoCall, MayAllBeGiven}
use Rattle.president_laws.proofs.Decisions.{orders_are_allowed, quiet}
use Rattle.decision_laws.specs.Quiet.{IsHindered, IsQuiet, IsSettled, QuietGoalsAreSettled, QuietHasNoCalls}
use Rattle.decision_laws.proofs.Cycles.{orders_are_there}
use Rattle.decision_laws.proofs.Decided.{goals_keep}
use Rattle.decision_laws.proofs.Managed.{goals_fit, is_managed}
use Rattle.decision_laws.proofs.Ordering.{HaveOrders, IsFoundAt, among, found_at, in_sequence}
use Rattle.decision_laws.proofs.Same.{after_set}

-- An order that is given stays outstanding over the rest of the decision.
module _ (c : ConfigState) where
  stays : (es : List (ℕ × Order)) (last : ℕ) (p new : PresidentState) → MayAllBeGiven c last p es new → p.view.members < 2 ^ 32 → length p.view.outstanding ≡ most_nodes
      → (k : ℕ) → 1 ≤ k → k ≤ last → order_of new.view.outstanding k ≡ order_of p.view.outstanding k
  stays [] last p new same small places k low high = ap (λ (q : PresidentState). order_of q.view.outstanding k) same
  stays (e ∷ es) last p new (up, may, rest) small places k low high =
      stays es e.0 (with_order p e.0 e.1.resource e.1.method) new rest small (length-set p.view.outstanding (e.0 - 1) (Some given) ∙ places) k low (omega (arith, high, up))
      ∙ (after k low ∙ rw other refl)
    where
      given : Outstanding
      given = record { node = e.0; number = p.given + 1; resource = e.1.resource; method = e.1.method }

      after : OrdersAfter p.view.outstanding e.0 (Some given) (set p.view.outstanding (e.0 - 1) (Some given))
      after = after_set p.view.outstanding e.0 (Some given) (above_zero p.view.members e.0 may.member) (omega (arith, within_most p.view.members e.0 small may.member, places))

      other : (e.0 == k) ≡ false
      other = ne_eqb e.0 k (λ same. let bad : e.0 ≢ e.0 = absurd (omega (arith, same, up, high)) in bad refl)

  -- so where none is outstanding none was given
  none_given : (es : List (ℕ × Order)) (p new : PresidentState) → MayAllBeGiven c 0 p es new → p.view.members < 2 ^ 32 → length p.view.outstanding ≡ most_nodes
      → ((n : ℕ) → order_of new.view.outstanding n ≡ None) → es ≡ []
  none_given [] p new given small places none = refl
  none_given (e ∷ es) p new (up, may, rest) small places none =
      absurd (none-some given (sym (none e.0) ∙ stays es e.0 (with_order p e.0 e.1.resource e.1.method) new rest small (length-set p.view.outstanding (e.0 - 1) (Some given) ∙ places) e.0 low (omega arith)
      ∙ (after e.0 low ∙ rw (eq-eqb e.0 e.0 refl) refl)))
    where
      given : Outstanding
      given = record { node = e.0; number = p.given + 1; resource = e.1.resource; method = e.1.method }

      low : 1 ≤ e.0
      low = above_zero p.view.members e.0 may.member

      after : OrdersAfter p.view.outstanding e.0 (Some given) (set p.view.outstanding (e.0 - 1) (Some given))
      after = after_set p.view.outstanding e.0 (Some given) low (omega (arith, within_most p.view.members e.0 small may.member, places))

module _ (c : ConfigState) (now : ℕ) (p : PresidentState) (is : IsQuiet c now p) where
  abbrev left : PresidentState
  left = with_goals_of c now p

  orders_none : (decision c now false p).orders ≡ []
  orders_none =
      none_given c (decision c now false p).orders left (decision c now false p).president (orders_are_allowed c now p)
      (subst (λ (s : ℕ). s < 2 ^ 32) (sym (goals_keep c now p).members) is.members) (ap (λ (l : List (Option Outstanding)). length l) (goals_keep c now p).orders ∙ is.places) is.nothing

  as_decided : (decision c now false p).president ≡ left
  as_decided = by (decision c now false p).orders orders_none (orders_are_allowed c now p)
    where
      by : (es : List (ℕ × Order)) → es ≡ [] → MayAllBeGiven c 0 left es (decision c now false p).president → (decision c now false p).president ≡ left
      by [] e given = given
      by (x ∷ xs) e given = cc e

  idle : (n : ℕ) → order_of left.view.outstanding n ≡ None
  idle n = ap (λ (q : PresidentState). order_of q.view.outstanding n) (sym as_decided) ∙ is.nothing n

  pub no_call : (n : ℕ) → has p.view.members n ≡ true → call_on c (sequence c.groups) left.view n ≡ None
  no_call n member =
      let all : All (HasNoCall c left) (numbers_to p.view.members most_nodes) =
      subst (λ (q : PresidentState). All (HasNoCall c q) (numbers_to p.view.members most_nodes)) as_decided (quiet c now p orders_none) in
      let there : list_any (nat_eq n) (numbers_to p.view.members most_nodes) ≡ true =
      any_member p.view.members most_nodes n (nat_eq n) (within_most p.view.members n is.members member) member (eq-eqb n n refl) in
      All-contains (HasNoCall c left) (numbers_to p.view.members most_nodes) n all (Contains-from_any eqb-true n (numbers_to p.view.members most_nodes) there)
      (idle n)

pub quiet_has_no_calls : QuietHasNoCalls
quiet_has_no_calls c now p is n member =
    ap (λ (q : PresidentState). call_on c (sequence c.groups) q.view n) (as_decided c now p is) ∙ no_call c now p is n member

-- Where there is no call, no resource may come up.
module _ (t : GroupTable) (types : List (List ℕ × TypeFields)) (limits : List Limit) (v : GroupView) (o : OutlookFields) (n : ℕ) where
  second_none : {A : Type 0} (a b : Option A) → or_else a b ≡ None → (a ≡ None) × (b ≡ None)
  second_none None b h = (refl, h)
  second_none (Some x) b h = cc h

  none_up : (order : List (List ℕ)) (found : Option (List ℕ × Method)) → fold (with_up t types limits v o n) found order ≡ None
      → (found ≡ None) × ((r : List ℕ) → among order r ≡ true → up_call t types limits v o n r ≡ None)
  none_up [] found h = (h, λ r there. cc there)
  none_up (x ∷ xs) found h =
      let rest : _ = none_up xs (with_up t types limits v o n found x) h in
      let parts : _ = second_none found (up_call t types limits v o n x) rest.0 in
      (parts.0, λ r there. by r parts.1 rest.1 (or_cases (bytes_eq x r) (among xs r) there))
    where
      by : (r : List ℕ) → up_call t types limits v o n x ≡ None → ((r : List ℕ) → among xs r ≡ true → up_call t types limits v o n r ≡ None)
          → (bytes_eq x r ≡ true) ⊎ (among xs r ≡ true) → up_call t types limits v o n r ≡ None
      by r first rest (inl same) = subst (λ (y : List ℕ). up_call t types limits v o n y ≡ None) (same_text x r (sym same)) first
      by r first rest (inr later) = rest r later

  not_called : (name : List ℕ) (m : Method) → call_of t types limits v o n name m ≡ None → is_allowed t types limits v o n name m ≡ false
  not_called name m h = by (is_allowed t types limits v o n name m) h
    where
      by : (b : Bool) → cond {A = Option (List ℕ × Method)} b (Some (name, m)) None ≡ None → b ≡ false
      by true h = cc h
      by false h = refl

  cannot_rise : (name : List ℕ) → up_call t types limits v o n name ≡ None → has_up_call t types limits v o n name ≡ false
  cannot_rise name h =
      let first : _ = second_none (call_of t types limits v o n name PrenetStart) (or_else (call_of t types limits v o n name Start) (call_of t types limits v o n name MonitorStart)) h in
      let later : _ = second_none (call_of t types limits v o n name Start) (call_of t types limits v o n name MonitorStart) first.1 in
      rw (not_called name PrenetStart first.0, not_called name Start later.0, not_called name MonitorStart later.1) refl

  pub none_rises : (order : List (List ℕ)) (r : List ℕ) → next_call_of t types limits v o order n ≡ None → among order r ≡ true → has_up_call t types limits v o n r ≡ false
  unfolding next_call_of
  none_rises order r h there =
      let ups : _ = second_none (last_down t types limits v o order n) (first_up t types limits v o order n) h in
      cannot_rise r ((none_up order None ups.1).1 r there)

  -- on what is no member nothing is allowed
  pub off_members : has v.members n ≡ false → (r : List ℕ) → has_up_call t types limits v o n r ≡ false
  unfolding is_allowed is_callable
  off_members out r = rw (no PrenetStart, no Start, no MonitorStart) refl
    where
      no : (m : Method) → is_allowed t types limits v o n r m ≡ false
      no m = by (named t.resources r)
        where
          by : (x : Option Resource) → is_callable_in t types limits v o n r m x ≡ false
          by None = refl
          by (Some x) = rw out refl

-- none of a group's resources passes a test that none of them passes at its place
none_of_group : (p : List ℕ → Bool) (group : List ℕ) (rs : List (List ℕ × Resource))
    → ((k : ℕ) (r : List ℕ × Resource) → slice_get rs k ≡ Some r → bytes_eq r.1.group group ≡ true → p r.0 ≡ false)
    → list_any p (map (λ e. e.0) (filter (λ e. bytes_eq e.1.group group) rs)) ≡ false
none_of_group p group [] h = refl
none_of_group p group (r ∷ rs) h = by (bytes_eq r.1.group group) refl (none_of_group p group rs (λ k x at own. h (suc k) x at own))
  where
    by : (b : Bool) → bytes_eq r.1.group group ≡ b → list_any p (map (λ e. e.0) (filter (λ e. bytes_eq e.1.group group) rs)) ≡ false
        → list_any p (map (λ e. e.0) (cond b (r ∷ filter (λ e. bytes_eq e.1.group group) rs) (filter (λ e. bytes_eq e.1.group group) rs))) ≡ false
    by true own rest = rw (h 0 r refl own) rest
    by false own rest = rest

-- A goal node of a group that is there and managed, where nothing moves, is settled.
module _ (c : ConfigState) (v : GroupView) (name : List ℕ) (n : ℕ) (inside : has (goal_of v.goals name) n ≡ true) (g : Group) (there : named c.groups.groups name ≡ Some g) (managed : g.managed ≡ true) where
  abbrev own : List (List ℕ)
  own = resources_of c.groups name

  abbrev faulted : Option (List ℕ)
  faulted = first_faulted v.resources own n

  abbrev blocked : Option (List ℕ)
  blocked = first_blocked c.groups v.resources own n

  abbrev moves : Bool
  moves = is_order_of c.groups name (order_of v.outstanding n) || can_rise c v own n

  shown : group_state c v name n ≡ cond (has_stop_failed v.resources own n) ErrorStopFailed (state_inside (is_none blocked) (is_some faulted) moves)
  shown = ap (state_in c v name n) there ∙ rw (managed, inside) refl

  explained : reason_for c v name n ≡ cond (is_hindered (group_state c v name n)) (or_else (option_map reason.Faulted faulted) (option_map reason.Blocked blocked)) None
  explained = rw inside refl

  hindered : (s : GroupState) → group_state c v name n ≡ s → is_hindered s ≡ true → is_some (or_else (option_map reason.Faulted faulted) (option_map reason.Blocked blocked)) ≡ true → IsHindered c v name n
  hindered s is so told = record {
    hindered = ap is_hindered is ∙ so;
    reason = ap (λ (o : Option Reason). is_some o) (explained ∙ rw (ap is_hindered is ∙ so) refl) ∙ told;
  }

  first_told : (a b : Option (List ℕ)) → is_some a ≡ true → is_some (or_else (option_map reason.Faulted a) (option_map reason.Blocked b)) ≡ true
  first_told None b h = cc h
  first_told (Some a) b h = refl

  last_told : (a b : Option (List ℕ)) → is_none b ≡ false → is_some (or_else (option_map reason.Faulted a) (option_map reason.Blocked b)) ≡ true
  last_told None None h = cc h
  last_told None (Some b) h = refl
  last_told (Some a) b h = refl

  pub settled : moves ≡ false → IsSettled c v name n
  settled still = by (has_stop_failed v.resources own n) refl (is_none blocked) refl (is_some faulted) refl
    where
      by : (failed : Bool) → has_stop_failed v.resources own n ≡ failed → (runs : Bool) → is_none blocked ≡ runs → (bad : Bool) → is_some faulted ≡ bad → IsSettled c v name n
      by true e runs er bad eb = inr (inl (shown ∙ rw e refl))
      by false e true er true eb = inr (inr (hindered OnlineFaulted (shown ∙ rw (e, er, eb) refl) refl (first_told faulted blocked eb)))
      by false e true er false eb = inl (shown ∙ rw (e, er, eb) refl)
      by false e false er true eb = inr (inr (hindered OnlineFaulted (shown ∙ rw (e, er, still, eb) refl) refl (first_told faulted blocked eb)))
      by false e false er false eb = inr (inr (hindered PendingOnlineBlocked (shown ∙ rw (e, er, still, eb) refl) refl (last_told faulted blocked er)))

module _ (law : ChosenIsOrder) (c : ConfigState) (now : ℕ) (p : PresidentState) (orders : HaveOrders c.groups) (is : IsQuiet c now p) (name : List ℕ) (n : ℕ) where
  abbrev goals_left : PresidentState
  goals_left = with_goals_of c now p

  still : (g : Group) → named c.groups.groups name ≡ Some g → can_rise c goals_left.view (resources_of c.groups name) n ≡ false
  still g there =
      let at : IsFoundAt c.groups.groups name g = found_at c.groups.groups name g there in
      none_of_group (has_up_call c.groups c.types c.limits goals_left.view (outlook_over c (sequence c.groups) goals_left.view) n) name c.groups.resources
      (λ k r found own. by r (in_sequence c.groups orders law at.place (name, g) k r at.found found own) (has p.view.members n) refl)
    where
      by : (r : List ℕ × Resource) → among (sequence c.groups) r.0 ≡ true → (b : Bool) → has p.view.members n ≡ b
          → has_up_call c.groups c.types c.limits goals_left.view (outlook_over c (sequence c.groups) goals_left.view) n r.0 ≡ false
      by r there true member = none_rises c.groups c.types c.limits goals_left.view (outlook_over c (sequence c.groups) goals_left.view) n (sequence c.groups) r.0 (no_call c now p is n member) there
      by r there false out = off_members c.groups c.types c.limits goals_left.view (outlook_over c (sequence c.groups) goals_left.view) n (ap (λ (s : ℕ). has s n) (goals_keep c now p).members ∙ out) r.0

  decided_settled : has (goal_of goals_left.view.goals name) n ≡ true → IsSettled c goals_left.view name n
  decided_settled inside = by (named c.groups.groups name) refl (goals_fit c now p name n inside)
    where
      by : (o : Option Group) → named c.groups.groups name ≡ o → is_managed o ≡ true → IsSettled c goals_left.view name n
      by None there managed = cc managed
      by (Some g) there managed =
          settled c goals_left.view name n inside g there managed
          (rw (ap (is_order_of c.groups name) (idle c now p is n)) (still g there))

pub quiet_goals_are_settled : ChosenIsOrder → AnOrderIsFound → QuietGoalsAreSettled
quiet_goals_are_settled law found c now p none is name n =
    subst (λ (q : PresidentState). has (goal_of q.view.goals name) n ≡ true → IsSettled c q.view name n) (sym (as_decided c now p is))
    (decided_settled law c now p (orders_are_there law found c.groups none) is name n)
