-- An allowed call that is ordered is safe, and it leaves the orders of other nodes safe: the whole.
use Rattle.std.proofs.Common.{◌≡◌, ◌≢◌, ℕ, ◌<◌, ◌^◌, ◌==◌, ◌⊎◌, inl, inr, Bool, true, false, cond, not, ◌&&◌, Option, None, Some, List, refl, sym, ap, subst, ◌∙◌}
use Rattle.std.specs.Str.{bytes_eq}
use Rattle.std.specs.Cmp.Lexicographic.{same_text}
use Rattle.std.proofs.lemmas.Bool.{and_from, and_parts, and_right, eqb-true, eq-eqb, ne_eqb}
use Rattle.std.proofs.lemmas.Bool.Decides.{eqb_tells}
use Rattle.cl_base.specs.declared.method.Method.{Method}
use Rattle.cl_base.specs.declared.method.Method.TheVariants.{PrenetStart}
use Rattle.cl_base.specs.Limits.{most_nodes}
use Rattle.cl_base.specs.Numbers.{numbers_to}
use Rattle.cl_base.specs.Sets.{has}
use Rattle.cl_base.proofs.NameLemmas.{text_flips, texts_pass}
use Rattle.load_limits.specs.declared.limits.Limit.{Limit}
use Rattle.placement.specs.Resources.{is_stop_failed}
use Rattle.rg_props.specs.declared.group.Group.{Group}
use Rattle.rg_props.specs.declared.group.Resource.{Resource}
use Rattle.rg_props.specs.Lookups.{named}
use Rattle.rg_props.specs.Settings.{has_name}
use Rattle.rg_props.specs.Table.{GroupTable}
use Rattle.rg_view.specs.declared.orders.Outstanding.{Outstanding}
use Rattle.rg_view.specs.declared.view.GroupView.{GroupView}
use Rattle.rg_view.specs.Orders.{OrdersAfter, order_of}
use Rattle.rg_view.specs.States.{state_of}
use Rattle.rt_types.specs.Fields.{TypeFields}
use Rattle.rt_types.specs.Types.{type_of}
use Rattle.sequencer.specs.Allowed.{is_allowed, is_callable, is_callable_in, may_call, offers}
use Rattle.sequencer.specs.Fields.{OutlookFields}
use Rattle.sequencer.specs.Outlooks.{outlook_of}
use Rattle.sequencer.specs.Standing.{is_order_for, is_ordered}
use Rattle.sequencer.specs.Stopping.{depends_on, has_start, is_of_dependent, is_start, is_start_order, starts_dependent}
use Rattle.sequencer_laws.specs.AllowedCall.{IsAllowedCall}
use Rattle.sequencer_laws.specs.Flags.{FlagMap, Flags, after_success}
use Rattle.sequencer_laws.specs.Laws.{GoalsAreManaged, IsIdle, situation}
use Rattle.sequencer_laws.specs.Orders.{AreApart, OrdersAreSafe, StaySafeWhere, order_for}
use Rattle.sequencer_laws.specs.Views.{MayStandFor, after_order, has_postnet, seen}
use Rattle.sequencer_laws.proofs.Calls.{members_kept, safe}
use Rattle.sequencer_laws.proofs.Counts.{above_zero, any_member, within_most}
use Rattle.sequencer_laws.proofs.Lists.{four}
use Rattle.sequencer_laws.proofs.Orders.{may_still}

-- what a call that is allowed is of
record IsCall (t : GroupTable) (types : List (List ℕ × TypeFields)) (limits : List Limit) (v : GroupView) (o : OutlookFields) (n : ℕ) (name : List ℕ) (m : Method) : Type 0 where
  member : has v.members n ≡ true
  resource : Resource
  found : named t.resources name ≡ Some resource
  may : may_call t limits v o name resource n (state_of v.resources name n) (offers (type_of types resource.resource_type) PrenetStart) m ≡ true

module _ (t : GroupTable) (types : List (List ℕ × TypeFields)) (limits : List Limit) (v : GroupView) (o : OutlookFields) (n : ℕ) (name : List ℕ) (m : Method) where
  called_in : (r : Resource) → named t.resources name ≡ Some r → is_callable t types limits v o n name r m ≡ true → IsCall t types limits v o n name m
  unfolding is_callable
  called_in r found h =
      let facts : _ =
      four (has v.members n) (offers (type_of types r.resource_type) m) (not (is_stop_failed t v r.group))
      (may_call t limits v o name r n (state_of v.resources name n) (offers (type_of types r.resource_type) PrenetStart) m) h in
      record { member = facts.0; resource = r; found = found; may = facts.3 }

  called : is_allowed t types limits v o n name m ≡ true → IsCall t types limits v o n name m
  unfolding is_allowed
  called h = by (named t.resources name) refl h
    where
      by : (found : Option Resource) → found ≡ named t.resources name → is_callable_in t types limits v o n name m found ≡ true → IsCall t types limits v o n name m
      by None is h = absurd (let bad : false ≡ true = h in cc)
      by (Some r) is h = called_in r (sym is) h

module _ (t : GroupTable) (types : List (List ℕ × TypeFields)) (limits : List Limit) (v : GroupView) (order : List (List ℕ)) (n number : ℕ) (name : List ℕ) (m : Method)
    (orders : List (Option Outstanding)) (idle : IsIdle v n) (managed : GoalsAreManaged t v) (small : v.members < 2 ^ 32) (apart : AreApart t) (before : OrdersAreSafe t types limits v)
    (allowed : is_allowed t types limits v (outlook_of t types limits v order) n name m ≡ true) (after : OrdersAfter v.outstanding n (Some (order_for n number name m)) orders) where
  abbrev w : GroupView
  w = record v { outstanding = orders }

  abbrev outlook : OutlookFields
  outlook = outlook_of t types limits v order

  abbrev given : Outstanding
  given = order_for n number name m

  call : IsCall t types limits v outlook n name m
  call = called t types limits v outlook n name m allowed

  others_order : (x : List ℕ) (f : Flags) → bytes_eq name x ≡ false → after_order t types x (Some given) f ≡ f
  others_order x f out = rw out refl

  -- a map that the view with the order may stand for is one that the view may stand for, once it has the flags of the view at the place of the order
  stands_before : (map put : FlagMap) → MayStandFor t types w map → ((x : List ℕ) (k : ℕ) → (bytes_eq x name && (k == n)) ≡ true → put x k ≡ seen v x k)
      → ((x : List ℕ) (k : ℕ) → (bytes_eq x name && (k == n)) ≡ false → put x k ≡ map x k) → MayStandFor t types v put
  stands_before map put stands here there x k member = by (bytes_eq x name && (k == n)) refl
    where
      Goal : Type 0
      Goal = (put x k ≡ seen v x k) ⊎ (put x k ≡ after_order t types x (order_of v.outstanding k) (seen v x k))

      under : (bytes_eq x name && (k == n)) ≡ false → (b : Bool) → b ≡ (n == k) → map x k ≡ after_order t types x (cond b (Some given) (order_of v.outstanding k)) (seen v x k) → Goal
      under out true is e =
          let at : (k == n) ≡ true = eq-eqb k n (sym (eqb-true n k (sym is))) in
          let other : bytes_eq x name ≡ false = sym (both_true (bytes_eq x name) (k == n) at) ∙ out in
          inl (there x k out ∙ e ∙ others_order x (seen v x k) (text_flips name x ∙ other))
        where
          both_true : (a b : Bool) → b ≡ true → (a && b) ≡ a
          both_true true b is = is
          both_true false b is = refl
      under out false is e = inr (there x k out ∙ e)

      either : (bytes_eq x name && (k == n)) ≡ false → (map x k ≡ seen v x k) ⊎ (map x k ≡ after_order t types x (order_of orders k) (seen v x k)) → Goal
      either out (inl e) = inl (there x k out ∙ e)
      either out (inr e) = under out (n == k) refl (e ∙ ap (λ (found : Option Outstanding). after_order t types x found (seen v x k)) (after k (above_zero v.members k member)))

      by : (b : Bool) → b ≡ (bytes_eq x name && (k == n)) → Goal
      by true is = inl (here x k (sym is))
      by false is = either (sym is) (stands x k member)

  at_place : (x : List ℕ) (k : ℕ) → (bytes_eq x name && (k == n)) ≡ true → (x ≡ name) × (k ≡ n)
  at_place x k is =
      let parts : _ = and_parts (bytes_eq x name) (k == n) is in
      (same_text x name (sym parts.0), eqb-true k n parts.1)

  unmoved : (map : FlagMap) → map name n ≡ seen v name n → (x : List ℕ) (k : ℕ) → (bytes_eq x name && (k == n)) ≡ true → map x k ≡ seen v x k
  unmoved map e x k is =
      let p : _ = at_place x k is in
      let from : map x k ≡ map name n = λ i. map (p.0 i) (p.1 i) in
      let to : seen v x k ≡ seen v name n = λ i. seen v (p.0 i) (p.1 i) in
      from ∙ e ∙ sym to

  module _ (k0 : ℕ) (o0 : Outstanding) (m0 : Method) (map : FlagMap) (member0 : has v.members k0 ≡ true) (method0 : o0.method ≡ Some m0) (stands : MayStandFor t types w map)
      (waits : map o0.resource k0 ≡ seen v o0.resource k0) where
    abbrev Safe : Type 0
    Safe = IsAllowedCall (situation t types limits v map) k0 o0.resource m0

    -- the order itself
    own : k0 ≡ n → Some given ≡ Some o0 → Safe
    own at is =
        let it : given ≡ o0 = cc in
        let of : name ≡ o0.resource = ap (λ (o : Outstanding). o.resource) it in
        let method : Some m ≡ Some m0 = ap (λ (o : Outstanding). o.method) it ∙ method0 in
        let by : m ≡ m0 = cc in
        let from : map name n ≡ map o0.resource k0 = λ i. map (of i) (sym at i) in
        let to : seen v name n ≡ seen v o0.resource k0 = λ i. seen v (of i) (sym at i) in
        let still : map name n ≡ seen v name n = from ∙ waits ∙ sym to in
        subst (λ (k : Method). IsAllowedCall (situation t types limits v map) k0 o0.resource k) by
        (subst (λ x. IsAllowedCall (situation t types limits v map) k0 x m) of
        (subst (λ k. IsAllowedCall (situation t types limits v map) k name m) (sym at)
        (safe t types limits v map (stands_before map map stands (unmoved map still) (λ x k out. refl)) managed outlook (members_kept t types limits v order) n idle name m allowed)))

    -- another's
    module _ (other : (k0 == n) ≡ false) (is0 : order_of v.outstanding k0 ≡ Some o0) where
      kept : map name n ≡ seen v name n → Safe
      kept e = before k0 o0 m0 map member0 is0 method0 (stands_before map map stands (unmoved map e) (λ x k out. refl)) waits

      abbrev put : FlagMap
      put x k = cond (bytes_eq x name && (k == n)) (seen v x k) (map x k)

      put_here : (x : List ℕ) (k : ℕ) → (bytes_eq x name && (k == n)) ≡ true → put x k ≡ seen v x k
      put_here x k is = rw is refl

      put_there : (x : List ℕ) (k : ℕ) → (bytes_eq x name && (k == n)) ≡ false → put x k ≡ map x k
      put_there x k is = rw is refl

      at_home : (bytes_eq name name && (n == n)) ≡ true
      at_home = and_from (bytes_eq name name) (n == n) (texts_pass name name refl) (eq-eqb n n refl)

      stands_put : MayStandFor t types v put
      stands_put = stands_before map put stands put_here put_there

      was : IsAllowedCall (situation t types limits v put) k0 o0.resource m0
      was = before k0 o0 m0 put member0 is0 method0 stands_put (put_there o0.resource k0 (and_right (bytes_eq o0.resource name) (k0 == n) other) ∙ waits)

      ordered : is_ordered v o0.resource k0 ≡ true
      unfolding is_ordered
      ordered = ap (is_order_for o0.resource) is0 ∙ texts_pass o0.resource o0.resource refl

      started : is_start m0 ≡ true → (g0 : Group) → named t.groups was.resource.group ≡ Some g0 → (x : List ℕ) → has_name x g0.dependencies ≡ true
          → has_start t v (numbers_to v.members most_nodes) x ≡ true
      started begins g0 found_g x among =
          let told : starts_dependent t x (Some o0) ≡ (is_start m0 && depends_on x (named t.groups was.resource.group)) = λ i. is_start_order (method0 i) && is_of_dependent t x (was.there i) in
          let of_it : depends_on x (named t.groups was.resource.group) ≡ true = ap (depends_on x) found_g ∙ among in
          any_member v.members most_nodes k0 (λ k. starts_dependent t x (order_of v.outstanding k)) (within_most v.members k0 small member0) member0
          (ap (starts_dependent t x) is0 ∙ told ∙ and_from (is_start m0) (depends_on x (named t.groups was.resource.group)) begins of_it)

      moved : map name n ≡ after_success (has_postnet types (named t.resources name)) m (seen v name n) → Safe
      moved e = record {
        member = was.member;
        resource = was.resource;
        there = was.there;
        offered = was.offered;
        may = may_still t types limits v small apart outlook (members_kept t types limits v order) n name call.resource m call.found (offers (type_of types call.resource.resource_type) PrenetStart)
            (has_postnet types (named t.resources name)) call.may put map stands_put (put_here name n at_home) e (λ x k out. sym (put_there x k out)) k0 member0 other o0.resource was.resource was.there ordered m0 started was.may;
      }

      by_place : (map name n ≡ seen v name n) ⊎ (map name n ≡ after_order t types name (order_of orders n) (seen v name n)) → Safe
      by_place (inl e) = kept e
      by_place (inr e) =
          let mine : order_of orders n ≡ Some given = after n (above_zero v.members n call.member) ∙ rw (eq-eqb n n refl) refl in
          moved (e ∙ ap (λ (found : Option Outstanding). after_order t types name found (seen v name n)) mine ∙ rw (texts_pass name name refl) refl)

      stays : Safe
      stays = by_place (stands name n call.member)

    whole : order_of orders k0 ≡ Some o0 → Safe
    whole is = by (eqb_tells k0 n)
      where
        order_at : order_of orders k0 ≡ cond (n == k0) (Some given) (order_of v.outstanding k0)
        order_at = after k0 (above_zero v.members k0 member0)

        by : ((k0 == n) ≡ true) × (k0 ≡ n) ⊎ ((k0 == n) ≡ false) × (k0 ≢ n) → Safe
        by (inl (_, at)) =
            let test : (n == k0) ≡ true = eq-eqb n k0 (sym at) in
            let mine : order_of orders k0 ≡ Some given = order_at ∙ rw test refl in
            own at (sym mine ∙ is)
        by (inr (test, away)) =
            let other : (n == k0) ≡ false = ne_eqb n k0 (λ e. away (sym e)) in
            let theirs : order_of orders k0 ≡ order_of v.outstanding k0 = order_at ∙ rw other refl in
            stays test (sym theirs ∙ is)

pub orders_stay_safe : StaySafeWhere (λ t types limits v n. IsIdle v n × GoalsAreManaged t v × (v.members < 2 ^ 32) × AreApart t × OrdersAreSafe t types limits v)
orders_stay_safe t types limits v order n number name m orders (idle, managed, small, apart, before) allowed after k0 o0 m0 map member0 is0 method0 stands waits =
    whole t types limits v order n number name m orders idle managed small apart before allowed after k0 o0 m0 map member0 method0 stands waits is0
