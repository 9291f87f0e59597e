-- Where nothing is in a cycle, groups and the resources of each group have an order.
use Rattle.std.proofs.Common.{◌≡◌, ℕ, zero, suc, nat_eq, ◌==◌, not, ◌&&◌, ◌||◌, ◌⊎◌, inl, inr, Bool, true, false, cond, List, [], ◌∷◌, ◌++◌, Option, None, Some, filter, length, refl, sym, ap, subst, ◌∙◌, append-nil}
use Rattle.std.proofs.lemmas.Bool.{and_from, eq-eqb, eqb-true, or_cases, or_left, or_right}
use Rattle.std.proofs.lemmas.List.Elements.{filter-append}
use Rattle.std.proofs.lemmas.List.Folds.{list_any-append}
use Rattle.std.proofs.lemmas.Option.{slice_get_within}
use Rattle.std.specs.Cmp.Lexicographic.{same_text}
use Rattle.std.specs.List.{AllByRecursion, cons_option, filter_map, list_any, slice_get}
use Rattle.std.specs.Option.{option_and_then}
use Rattle.std.specs.Result.{IsOk, is_ok}
use Rattle.std.specs.Str.{bytes_eq}
use Rattle.rg_deps.specs.declared.graph.Edge.{Edge}
use Rattle.rg_deps.specs.declared.graph.Thing.{Thing}
use Rattle.rg_deps.specs.Cycles.{arranged, arrangement}
use Rattle.rg_deps.specs.Edges.{edge, group_edges, if_member, inner_edges, inner_edges_at, inner_edges_to, member_edges, member_edges_at, member_place, resource_edges}
use Rattle.rg_deps.specs.Laws.{AnOrderIsFound, ChosenIsOrder, Follow, IsOrder, is_thing}
use Rattle.rg_deps.specs.Order.{first_left, ordered, stands, waits}
use Rattle.rg_deps.specs.Orderings.{cycle_in, first_cycle, named_order, or_else, resource_cycle}
use Rattle.rg_deps.specs.Things.{collected, group_things, member_things, resource_things, thing_of_member, thing_of_resource}
use Rattle.rg_props.specs.declared.group.Resource.{Resource}
use Rattle.rg_props.specs.Lookups.{place_of}
use Rattle.rg_props.specs.Table.{GroupTable}
use Rattle.sequencer_laws.proofs.Lists.{any_among}
use Rattle.decision_laws.proofs.Ordering.{HaveOrders, held}

-- an order is told where no cycle is, and where nothing is left
no_cycle : {X : Type 0} (es : List (List ℕ × X)) (things : List Thing) (edges : List Edge) → cycle_in es (arrangement things edges) ≡ None → first_left things (stands (ordered things edges)) ≡ None
no_cycle es things edges h = by (first_left things (stands (ordered things edges))) h
  where
    by : (o : Option ℕ) → cycle_in es (arranged things edges (ordered things edges) o) ≡ None → o ≡ None
    by None h = refl
    by (Some p) h = cc h

is_told : {X : Type 0} (es : List (List ℕ × X)) (things : List Thing) (edges : List Edge) → first_left things (stands (ordered things edges)) ≡ None → IsOk (named_order es (arrangement things edges))
is_told es things edges none = ap (λ (o : Option ℕ). is_ok (named_order es (arranged things edges (ordered things edges) o))) none

-- what some place gives by the first, it gives by the second
any_collected : {X Y : Type 0} (p : X → Bool) (q : Y → Bool) (f : ℕ → List X) (h : ℕ → List Y) → ((k : ℕ) → list_any p (f k) ≡ true → list_any q (h k) ≡ true) → (n : ℕ)
    → list_any p (collected f n) ≡ true → list_any q (collected h n) ≡ true
any_collected p q f h more zero is = cc is
any_collected p q f h more (suc n) is =
    list_any-append q (collected h n) (h n) ∙ by (or_cases (list_any p (collected f n)) (list_any p (f n)) (sym (list_any-append p (collected f n) (f n)) ∙ is)) (λ rest. any_collected p q f h more n rest)
  where
    by : (list_any p (collected f n) ≡ true) ⊎ (list_any p (f n) ≡ true) → (list_any p (collected f n) ≡ true → list_any q (collected h n) ≡ true)
        → (list_any q (collected h n) || list_any q (h n)) ≡ true
    by (inl early) rest = or_left _ _ (rest early)
    by (inr last) rest = or_right _ _ (more n last)

not_true : (a b : Bool) → (a ≡ true → b ≡ true) → b ≡ false → a ≡ false
not_true false b more is = refl
not_true true b more is = let bad : true ≡ false = sym (more refl) ∙ is in absurd (cc)

-- the places of an order that pass a test
module _ (test : ℕ → Bool) where
  stands_kept : (xs : List ℕ) (q : ℕ) → stands (filter test xs) q ≡ (stands xs q && test q)
  stands_kept [] q = refl
  stands_kept (x ∷ xs) q = by (test x) refl (nat_eq q x) refl (stands_kept xs q)
    where
      by : (kept : Bool) → test x ≡ kept → (same : Bool) → nat_eq q x ≡ same → stands (filter test xs) q ≡ (stands xs q && test q)
          → stands (cond kept (x ∷ filter test xs) (filter test xs)) q ≡ ((same || stands xs q) && test q)
      by true is true same rest =
          let own : test q ≡ true = ap test (eqb-true q x same) ∙ is in
          or_left _ _ same ∙ sym own
      by true is false same rest = rw same rest
      by false is true same rest =
          let own : test q ≡ false = ap test (eqb-true q x same) ∙ is in
          rest ∙ rw own (none (stands xs q))
        where
          none : (b : Bool) → (b && false) ≡ false
          none true = refl
          none false = refl
      by false is false same rest = rest

  kept_last : (done : List ℕ) (p : ℕ) → filter test (done ++ p ∷ []) ≡ filter test done ++ cond (test p) (p ∷ []) []
  kept_last done p = filter-append test done (p ∷ [])

  -- they follow one another by edges to places that pass it
  module _ (edges fewer : List Edge) (within : (done : List ℕ) (p : ℕ) → waits fewer (stands (filter test done)) p ≡ true → waits edges (stands done) p ≡ true) where
    kept_follow : (done ps : List ℕ) → Follow edges done ps → Follow fewer (filter test done) (filter test ps)
    kept_follow done [] h = tt
    kept_follow done (p ∷ ps) h = by (test p) refl (kept_follow (done ++ p ∷ []) ps h.2)
      where
        by : (b : Bool) → test p ≡ b → Follow fewer (filter test (done ++ p ∷ [])) (filter test ps) → Follow fewer (filter test done) (cond b (p ∷ filter test ps) (filter test ps))
        by true is rest = (
          stands_kept done p ∙ ap (λ (b : Bool). b && test p) h.0,
          not_true (waits fewer (stands (filter test done)) p) (waits edges (stands done) p) (within done p) h.1,
          subst (λ (l : List ℕ). Follow fewer l (filter test ps)) (kept_last done p ∙ rw is refl) rest,
        )
        by false is rest = subst (λ (l : List ℕ). Follow fewer l (filter test ps)) (kept_last done p ∙ rw is (append-nil (filter test done))) rest

each_given : {X Y : Type 0} (P : Y → Type 0) (h : X → Option Y) (xs : List X) → ((x : X) (y : Y) → h x ≡ Some y → P y) → AllByRecursion P (filter_map h xs)
each_given P h [] all = tt
each_given {X} {Y} P h (x ∷ xs) all = by (h x) refl (each_given P h xs all)
  where
    by : (o : Option Y) → h x ≡ o → AllByRecursion P (filter_map h xs) → AllByRecursion P (cons_option o (filter_map h xs))
    by None is rest = rest
    by (Some y) is rest = (all x y is, rest)

each_of_both : {X : Type 0} (P : X → Type 0) (xs ys : List X) → AllByRecursion P xs → AllByRecursion P ys → AllByRecursion P (xs ++ ys)
each_of_both P [] ys h k = k
each_of_both P (x ∷ xs) ys h k = (h.0, each_of_both P xs ys h.1 k)

module _ (t : GroupTable) (group : List ℕ) where
  abbrev is_member : ℕ → Bool
  is_member p = is_thing (member_things t group) p

  member_at : (p : ℕ) (e : List ℕ × Resource) → slice_get t.resources p ≡ Some e → bytes_eq e.1.group group ≡ true → is_member p ≡ true
  member_at p e is own =
      held (λ x. nat_eq p x.place) (λ k. thing_of_member group k (slice_get t.resources k)) (length t.resources) p (slice_get_within t.resources p e is)
      (ap (λ (o : Option (List ℕ × Resource)). is_thing (thing_of_member group p o) p) is ∙ rw (own, eq-eqb p p refl) refl)

  -- the targets of a member within the group are members
  place_is_member : (o : Option ℕ) (q : ℕ) → option_and_then (λ p. if_member t group p (slice_get t.resources p)) o ≡ Some q → is_member q ≡ true
  place_is_member None q h = cc h
  place_is_member (Some p) q h = by (slice_get t.resources p) refl h
    where
      own : (e : List ℕ × Resource) → slice_get t.resources p ≡ Some e → (b : Bool) → bytes_eq e.1.group group ≡ b → cond b (Some p) None ≡ Some q → is_member q ≡ true
      own e is true same h = let at : p ≡ q = cc h in subst (λ (k : ℕ). is_member k ≡ true) at (member_at p e is same)
      own e is false same h = cc h

      by : (o : Option (List ℕ × Resource)) → slice_get t.resources p ≡ o → if_member t group p o ≡ Some q → is_member q ≡ true
      by None is h = cc h
      by (Some e) is h = own e is (bytes_eq e.1.group group) refl h

  ends_inside : (p : ℕ) (names : List (List ℕ)) → AllByRecursion (λ (e : Edge). is_member e.to ≡ true) (inner_edges_to t group p names)
  ends_inside p names = each_given (λ (e : Edge). is_member e.to ≡ true) (λ name. edge p (member_place t group name)) names (λ name e h. by name (member_place t group name) e refl h)
    where
      by : (name : List ℕ) (o : Option ℕ) (e : Edge) → member_place t group name ≡ o → edge p o ≡ Some e → is_member e.to ≡ true
      by name None e is h = cc h
      by name (Some q) e is h =
          let same : record { from = p; to = q } ≡ e = cc h in
          subst (λ (x : Edge). is_member x.to ≡ true) same (place_is_member (place_of t.resources name) q is)

  all_inside : (p : ℕ) (r : Resource) → bytes_eq r.group group ≡ true → AllByRecursion (λ (e : Edge). is_member e.to ≡ true) (inner_edges t p r)
  all_inside p r own =
      subst (λ (x : List ℕ). AllByRecursion (λ (e : Edge). is_member e.to ≡ true) (inner_edges_to t x p r.strong ++ inner_edges_to t x p r.weak ++ inner_edges_to t x p r.offline_restart))
      (sym (same_text r.group group (sym own)))
      (each_of_both _ _ _ (each_of_both _ _ _ (ends_inside p r.strong) (ends_inside p r.weak)) (ends_inside p r.offline_restart))

  -- who waits among the group's members waits among all
  waits_too : (done : List ℕ) (p : ℕ) → waits (member_edges t group) (stands (filter is_member done)) p ≡ true → waits (resource_edges t) (stands done) p ≡ true
  waits_too done p =
      any_collected among_members among_all (λ k. member_edges_at t group k (slice_get t.resources k)) (λ k. inner_edges_at t k (slice_get t.resources k)) (λ k. by k (slice_get t.resources k)) (length t.resources)
    where
      among_members : Edge → Bool
      among_members e = (e.from == p) && not (stands (filter is_member done) e.to)

      among_all : Edge → Bool
      among_all e = (e.from == p) && not (stands done e.to)

      all_true : (b : Bool) → (b && true) ≡ b
      all_true true = refl
      all_true false = refl

      one : (e : Edge) → is_member e.to ≡ true → among_members e ≡ true → among_all e ≡ true
      one e inside h =
          let same : stands (filter is_member done) e.to ≡ stands done e.to = stands_kept is_member done e.to ∙ ap (λ (b : Bool). stands done e.to && b) inside ∙ all_true (stands done e.to) in
          ap (λ (b : Bool). (e.from == p) && not b) (sym same) ∙ h

      own : (k : ℕ) (e : List ℕ × Resource) (b : Bool) → bytes_eq e.1.group group ≡ b → list_any among_members (cond b (inner_edges t k e.1) []) ≡ true → list_any among_all (inner_edges t k e.1) ≡ true
      own k e true same h = any_among (λ (x : Edge). is_member x.to ≡ true) among_members among_all one (inner_edges t k e.1) (all_inside k e.1 same) h
      own k e false same h = cc h

      by : (k : ℕ) (o : Option (List ℕ × Resource)) → list_any among_members (member_edges_at t group k o) ≡ true → list_any among_all (inner_edges_at t k o) ≡ true
      by k None h = h
      by k (Some e) h = own k e (bytes_eq e.1.group group) refl h

  member_is_thing : (p : ℕ) → is_member p ≡ true → is_thing (resource_things t) p ≡ true
  member_is_thing p =
      any_collected (λ x. nat_eq p x.place) (λ x. nat_eq p x.place) (λ k. thing_of_member group k (slice_get t.resources k)) (λ k. thing_of_resource k (slice_get t.resources k)) (λ k. by k (slice_get t.resources k))
      (length t.resources)
    where
      own : (k : ℕ) (b : Bool) → is_thing (cond b (record { place = k; priority = 0 } ∷ []) []) p ≡ true → is_thing (record { place = k; priority = 0 } ∷ []) p ≡ true
      own k true h = h
      own k false h = cc h

      by : (k : ℕ) (o : Option (List ℕ × Resource)) → is_thing (thing_of_member group k o) p ≡ true → is_thing (thing_of_resource k o) p ≡ true
      by k None h = h
      by k (Some e) h = own k (bytes_eq e.1.group group) h

  -- an order of all resources has one of the group's
  members_order : (order : List ℕ) → IsOrder (resource_things t) (resource_edges t) order → IsOrder (member_things t group) (member_edges t group) (filter is_member order)
  members_order order h = record {
    own = λ p there. second (stands order p) (is_member p) (sym (stands_kept is_member order p) ∙ there);
    all = λ p member. stands_kept is_member order p ∙ and_from (stands order p) (is_member p) (h.all p (member_is_thing p member)) member;
    follow = kept_follow is_member (resource_edges t) (member_edges t group) waits_too [] order h.follow;
  }
    where
      second : (a b : Bool) → (a && b) ≡ true → b ≡ true
      second true b h = h
      second false b h = cc h

pub orders_are_there : ChosenIsOrder → AnOrderIsFound → (t : GroupTable) → first_cycle t ≡ None → HaveOrders t
orders_are_there chosen found t none = record {
  groups = is_told t.groups (group_things t) (group_edges t) (no_cycle t.groups (group_things t) (group_edges t) parts.0);
  resources = λ group. is_told t.resources (member_things t group) (member_edges t group)
      (found (member_things t group) (member_edges t group) (filter (is_thing (member_things t group)) (ordered (resource_things t) (resource_edges t)))
      (members_order t group (ordered (resource_things t) (resource_edges t))
      (chosen (resource_things t) (resource_edges t) (no_cycle t.resources (resource_things t) (resource_edges t) parts.1))));
}
  where
    both : {X : Type 0} (a b : Option X) → or_else a b ≡ None → (a ≡ None) × (b ≡ None)
    both None b h = (refl, h)
    both (Some x) b h = cc h

    parts : (cycle_in t.groups (arrangement (group_things t) (group_edges t)) ≡ None) × (resource_cycle t ≡ None)
    parts = both (cycle_in t.groups (arrangement (group_things t) (group_edges t))) (resource_cycle t) none
