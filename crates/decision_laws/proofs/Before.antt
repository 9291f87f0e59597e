-- In the order of groups a group's targets stand before it.
use Rattle.std.proofs.Common.{◌≡◌, ℕ, zero, suc, nat_eq, ◌==◌, not, ◌&&◌, ◌||◌, ◌⊎◌, inl, inr, Bool, true, false, List, [], ◌∷◌, ◌++◌, Option, None, Some, length, refl, sym, ap, subst, ◌∙◌, append_assoc, append-nil}
use Rattle.std.proofs.lemmas.Bool.{and_from, and_parts, eq-eqb, eqb-true, or_cases, or_left, or_parts, or_right}
use Rattle.std.proofs.lemmas.List.Elements.{filter_map-append}
use Rattle.std.proofs.lemmas.List.Folds.{list_any-append}
use Rattle.std.proofs.lemmas.Option.{slice_get_within}
use Rattle.std.specs.Cmp.Lexicographic.{same_text}
use Rattle.std.specs.List.{AllByRecursion, cons_option, filter_map, list_any, slice_get}
use Rattle.std.specs.Option.{option_and_then, option_map}
use Rattle.std.specs.Str.{bytes_eq}
use Rattle.cl_base.proofs.NameLemmas.{texts_pass}
use Rattle.rg_deps.specs.declared.graph.Edge.{Edge}
use Rattle.rg_deps.specs.Edges.{crossing, crossing_edges, crossing_edges_at, crossings, edge, edge_of_affinity, edge_to_group, edges_of_group, group_edges, is_strong, other_group, strong_target}
use Rattle.rg_deps.specs.Laws.{ChosenIsOrder, Follow, has_target}
use Rattle.rg_deps.specs.Order.{ordered, stands, waits}
use Rattle.rg_deps.specs.Things.{group_things, names_at}
use Rattle.rg_props.specs.declared.affinity.Affine.{Affine}
use Rattle.rg_props.specs.declared.group.Group.{Group}
use Rattle.rg_props.specs.declared.group.Resource.{Resource}
use Rattle.rg_props.specs.Lookups.{named, place_of}
use Rattle.rg_props.specs.Table.{GroupTable}
use Rattle.rgm_president.specs.Sequence.{groups_in_order}
use Rattle.president_laws.specs.Laws.{Lacks}
use Rattle.decision_laws.specs.Quiet.{GroupsAreApart}
use Rattle.decision_laws.proofs.Ordering.{HaveOrders, IsFoundAt, found_at, group_stands, groups_arranged, held, leads_to, place_is}

-- An order, cut at a place.
pub record IsCut (order : List ℕ) (p : ℕ) : Type 0 where
  pub before : List ℕ
  pub behind : List ℕ
  pub whole : order ≡ before ++ p ∷ behind

cut_at : (order : List ℕ) (p : ℕ) → stands order p ≡ true → IsCut order p
cut_at [] p h = cc h
cut_at (q ∷ qs) p h = by (or_cases (nat_eq p q) (stands qs p) h) (λ rest. cut_at qs p rest)
  where
    by : (nat_eq p q ≡ true) ⊎ (stands qs p ≡ true) → (stands qs p ≡ true → IsCut qs p) → IsCut (q ∷ qs) p
    by (inl same) rest = record { before = []; behind = qs; whole = ap (λ (k : ℕ). k ∷ qs) (sym (eqb-true p q same)) }
    by (inr later) rest = let cut : IsCut qs p = rest later in record { before = q ∷ cut.before; behind = cut.behind; whole = ap (λ (l : List ℕ). q ∷ l) cut.whole }

module _ (edges : List Edge) where
  follow_on : (done xs ys : List ℕ) → Follow edges done (xs ++ ys) → Follow edges (done ++ xs) ys
  follow_on done [] ys h = subst (λ (l : List ℕ). Follow edges l ys) (sym (append-nil done)) h
  follow_on done (x ∷ xs) ys h = subst (λ (l : List ℕ). Follow edges l ys) (append_assoc done (x ∷ []) xs) (follow_on (done ++ x ∷ []) xs ys h.2)

  -- what stands does not come again
  pub not_again : (done ps : List ℕ) (q : ℕ) → Follow edges done ps → stands done q ≡ true → stands ps q ≡ false
  not_again done [] q h before = refl
  not_again done (p ∷ ps) q h before = by (nat_eq q p) refl (not_again (done ++ p ∷ []) ps q h.2 (list_any-append (nat_eq q) done (p ∷ []) ∙ or_left _ _ before))
    where
      by : (b : Bool) → nat_eq q p ≡ b → stands ps q ≡ false → (b || stands ps q) ≡ false
      by true same rest =
          let too : stands done p ≡ true = subst (λ (k : ℕ). stands done k ≡ true) (eqb-true q p same) before in
          let bad : true ≡ false = sym too ∙ h.0 in
          absurd (cc)
      by false other rest = rest

  -- where a place does not wait, its targets stand
  targets_stand : (standing : ℕ → Bool) (p q : ℕ) (es : List Edge) → waits es standing p ≡ false → has_target es p q ≡ true → standing q ≡ true
  targets_stand standing p q [] free h = cc h
  targets_stand standing p q (e ∷ es) free h =
      let parts : _ = or_parts ((e.from == p) && not (standing e.to)) (waits es standing p) free in
      by parts.0 (or_cases (nat_eq p e.from && nat_eq q e.to) (has_target es p q) h) (λ rest. targets_stand standing p q es parts.1 rest)
    where
      held_up : (a b : Bool) → a ≡ true → (a && not b) ≡ false → b ≡ true
      held_up true true e h = refl
      held_up true false e h = cc h
      held_up false b e h = cc e

      by : ((e.from == p) && not (standing e.to)) ≡ false → ((nat_eq p e.from && nat_eq q e.to) ≡ true) ⊎ (has_target es p q ≡ true) → (has_target es p q ≡ true → standing q ≡ true) → standing q ≡ true
      by first (inl own) rest =
          let both : _ = and_parts (nat_eq p e.from) (nat_eq q e.to) own in
          ap standing (eqb-true q e.to both.1) ∙ held_up (e.from == p) (standing e.to) (eq-eqb e.from p (sym (eqb-true p e.from both.0))) first
      by first (inr later) rest = rest later

-- What a list of edges has.

from_item : {X Y : Type 0} (h : X → Option Y) (test : Y → Bool) (xs : List X) (i : ℕ) (x : X) (y : Y) → slice_get xs i ≡ Some x → h x ≡ Some y → test y ≡ true → list_any test (filter_map h xs) ≡ true
from_item h test [] i x y is gives passes = cc is
from_item {X} {Y} h test (z ∷ zs) zero x y is gives passes =
    ap (λ (o : Option Y). list_any test (cons_option o (filter_map h zs))) (ap h (inside is) ∙ gives) ∙ or_left _ _ passes
  where
    inside : Some z ≡ Some x → z ≡ x
    inside e = cc e
from_item {X} {Y} h test (z ∷ zs) (suc i) x y is gives passes = more (h z) (from_item h test zs i x y is gives passes)
  where
    more : (o : Option Y) → list_any test (filter_map h zs) ≡ true → list_any test (cons_option o (filter_map h zs)) ≡ true
    more None rest = rest
    more (Some w) rest = or_right _ _ rest

either_has : {X : Type 0} (test : X → Bool) (xs ys : List X) → (list_any test xs ≡ true) ⊎ (list_any test ys ≡ true) → list_any test (xs ++ ys) ≡ true
either_has test xs ys (inl h) = list_any-append test xs ys ∙ or_left _ _ h
either_has test xs ys (inr h) = list_any-append test xs ys ∙ or_right _ _ h

module _ (t : GroupTable) (apart : GroupsAreApart t) (p : ℕ) (name : List ℕ) (g : Group) (at : slice_get t.groups p ≡ Some (name, g)) where
  abbrev to : ℕ → Edge → Bool
  to q e = nat_eq p e.from && nat_eq q e.to

  its_own : (q : ℕ) → to q (record { from = p; to = q }) ≡ true
  its_own q = and_from (nat_eq p p) (nat_eq q q) (eq-eqb p p refl) (eq-eqb q q refl)

  of_group : (q : ℕ) → list_any (to q) (edges_of_group t p (Some (name, g))) ≡ true → has_target (group_edges t) p q ≡ true
  of_group q h =
      either_has (to q) _ _ (inl (held (to q) (λ k. edges_of_group t k (slice_get t.groups k)) (length t.groups) p (slice_get_within t.groups p (name, g) at)
      (ap (λ (o : Option (List ℕ × Group)). list_any (to q) (edges_of_group t p o)) at ∙ h)))

  -- a name is a target's, where its place is one of the targets
  abbrev pub IsTarget : List ℕ → Type 0
  IsTarget x = (q : ℕ) → place_of t.groups x ≡ Some q → has_target (group_edges t) p q ≡ true

  pub dependency_is : (i : ℕ) (d : List ℕ) → slice_get g.dependencies i ≡ Some d → IsTarget d
  dependency_is i d is q found =
      of_group q (either_has (to q) _ _ (inl (from_item (edge_to_group t p) (to q) g.dependencies i d (record { from = p; to = q }) is (ap (edge p) found) (its_own q))))

  pub affinity_is : (i : ℕ) (a : Affine) → slice_get g.affinities i ≡ Some a → is_strong a.affinity ≡ true → IsTarget a.group
  affinity_is i a is strong q found =
      let target : strong_target t a ≡ Some q = rw strong found in
      of_group q (either_has (to q) _ _ (inr (from_item (edge_of_affinity t p) (to q) g.affinities i a (record { from = p; to = q }) is (ap (edge p) target) (its_own q))))

  module _ (k : ℕ) (e : List ℕ × Resource) (there : slice_get t.resources k ≡ Some e) (own : bytes_eq e.1.group name ≡ true) where
    of_resource : (q : ℕ) → list_any (to q) (crossing_edges t e.1 (Some p)) ≡ true → has_target (group_edges t) p q ≡ true
    of_resource q h =
        either_has (to q) _ _ (inr (held (to q) (λ j. crossing_edges_at t (slice_get t.resources j)) (length t.resources) k (slice_get_within t.resources k e there)
        (ap (λ (o : Option (List ℕ × Resource)). list_any (to q) (crossing_edges_at t o)) there
        ∙ ap (λ (o : Option ℕ). list_any (to q) (crossing_edges t e.1 o)) home ∙ h)))
      where
        home : place_of t.groups e.1.group ≡ Some p
        home = place_is t.groups e.1.group p (name, g) apart at (subst (λ (x : List ℕ). bytes_eq x e.1.group ≡ true) (same_text e.1.group name (sym own)) (texts_pass e.1.group e.1.group refl))

    crosses : (target : List ℕ) (r : Resource) (q : ℕ) → named t.resources target ≡ Some r → bytes_eq r.group name ≡ false → place_of t.groups r.group ≡ Some q → crossing t e.1.group target ≡ Some q
    crosses target r q named_r other found =
        let found_r : IsFoundAt t.resources target r = found_at t.resources target r named_r in
        let there_r : place_of t.resources target ≡ Some found_r.place = leads_to t.resources target found_r.place (target, r) found_r.first found_r.found in
        let away : bytes_eq r.group e.1.group ≡ false = subst (λ (x : List ℕ). bytes_eq r.group x ≡ false) (sym (same_text e.1.group name (sym own))) other in
        ap (λ (o : Option ℕ). option_and_then (place_of t.groups) (option_and_then (other_group e.1.group) (option_and_then (slice_get t.resources) o))) there_r
        ∙ ap (λ (o : Option (List ℕ × Resource)). option_and_then (place_of t.groups) (option_and_then (other_group e.1.group) o)) found_r.found
        ∙ rw away found

    among_crossings : (names : List (List ℕ)) (i : ℕ) (target : List ℕ) (r : Resource) (q : ℕ) → slice_get names i ≡ Some target → named t.resources target ≡ Some r
        → bytes_eq r.group name ≡ false → place_of t.groups r.group ≡ Some q → list_any (to q) (crossings t e.1.group p names) ≡ true
    among_crossings names i target r q is named_r other found =
        from_item (λ x. edge p (crossing t e.1.group x)) (to q) names i target (record { from = p; to = q }) is (ap (edge p) (crosses target r q named_r other found)) (its_own q)

    pub strong_is : (i : ℕ) (target : List ℕ) (r : Resource) → slice_get e.1.strong i ≡ Some target → named t.resources target ≡ Some r → bytes_eq r.group name ≡ false → IsTarget r.group
    strong_is i target r is named_r other q found =
        of_resource q (either_has (to q) _ _ (inl (either_has (to q) _ _ (inl (among_crossings e.1.strong i target r q is named_r other found)))))

    pub offline_is : (i : ℕ) (target : List ℕ) (r : Resource) → slice_get e.1.offline_restart i ≡ Some target → named t.resources target ≡ Some r → bytes_eq r.group name ≡ false → IsTarget r.group
    offline_is i target r is named_r other q found =
        of_resource q (either_has (to q) _ _ (inr (among_crossings e.1.offline_restart i target r q is named_r other found)))

  -- The names at places lack a name whose place is none of them.
  lacking : (places : List ℕ) (x : List ℕ) → ((q : ℕ) → place_of t.groups x ≡ Some q → stands places q ≡ false) → Lacks (names_at t.groups places) x
  lacking [] x none = tt
  lacking (r ∷ rs) x none =
      by (slice_get t.groups r) refl (lacking rs x (λ q found. (or_parts (nat_eq q r) (stands rs q) (none q found)).1))
    where
      not_it : (e : List ℕ × Group) → slice_get t.groups r ≡ Some e → (b : Bool) → bytes_eq e.0 x ≡ b → b ≡ false
      not_it e is false same = refl
      not_it e is true same =
          let bad : true ≡ false = sym (or_left (nat_eq r r) (stands rs r) (eq-eqb r r refl)) ∙ none r (place_is t.groups x r e apart is same) in
          absurd (cc)

      by : (o : Option (List ℕ × Group)) → slice_get t.groups r ≡ o → Lacks (names_at t.groups rs) x → Lacks (cons_option (option_map (λ e. e.0) o) (names_at t.groups rs)) x
      by None is rest = rest
      by (Some e) is rest = (not_it e is (bytes_eq e.0 x) refl, rest)

  -- each of the names at places
  pub each_lacks : (P : List ℕ → Type 0) (places : List ℕ) → ((r : ℕ) (e : List ℕ × Group) → stands places r ≡ true → slice_get t.groups r ≡ Some e → P e.0) → AllByRecursion P (names_at t.groups places)
  each_lacks P [] h = tt
  each_lacks P (r ∷ rs) h = by (slice_get t.groups r) refl (each_lacks P rs (λ k e later is. h k e (or_right (nat_eq k r) (stands rs k) later) is))
    where
      by : (o : Option (List ℕ × Group)) → slice_get t.groups r ≡ o → AllByRecursion P (names_at t.groups rs) → AllByRecursion P (cons_option (option_map (λ e. e.0) o) (names_at t.groups rs))
      by None is rest = rest
      by (Some e) is rest = (h r e (or_left (nat_eq r r) (stands rs r) (eq-eqb r r refl)) is, rest)

-- The group's turn: the groups decided before it and those behind. None comes twice, and its targets come before, or are not there.
pub record HasTurn (t : GroupTable) (p : ℕ) (name : List ℕ) : Type 0 where
  pub before : List (List ℕ)
  pub behind : List (List ℕ)
  pub whole : groups_in_order t ≡ before ++ name ∷ behind
  pub lacks_before : Lacks before name
  pub lacks_behind : Lacks behind name
  pub lacks_later : AllByRecursion (Lacks before) (name ∷ behind)
  pub early : (x : List ℕ) → ((q : ℕ) → place_of t.groups x ≡ Some q → has_target (group_edges t) p q ≡ true) → Lacks (name ∷ behind) x

module _ (t : GroupTable) (orders : HaveOrders t) (law : ChosenIsOrder) (apart : GroupsAreApart t) (p : ℕ) (name : List ℕ) (g : Group) (at : slice_get t.groups p ≡ Some (name, g)) where
  abbrev edges : List Edge
  edges = group_edges t

  cut : IsCut (ordered (group_things t) edges) p
  cut = cut_at (ordered (group_things t) edges) p (group_stands t orders law p (name, g) at)

  follows : Follow edges cut.before (p ∷ cut.behind)
  follows = follow_on edges [] cut.before (p ∷ cut.behind) (subst (Follow edges []) cut.whole (groups_arranged t orders law).order.follow)

  abbrev late : List (List ℕ)
  late = names_at t.groups (p ∷ cut.behind)

  late_is : late ≡ name ∷ names_at t.groups cut.behind
  late_is = ap (λ (o : Option (List ℕ × Group)). cons_option (option_map (λ e. e.0) o) (names_at t.groups cut.behind)) at

  whole_is : groups_in_order t ≡ names_at t.groups cut.before ++ name ∷ names_at t.groups cut.behind
  unfolding groups_in_order
  whole_is =
      (groups_arranged t orders law).names ∙ ap (names_at t.groups) cut.whole
      ∙ filter_map-append (λ k. option_map (λ e. e.0) (slice_get t.groups k)) cut.before (p ∷ cut.behind)
      ∙ ap (λ (l : List (List ℕ)). names_at t.groups cut.before ++ l) late_is

  -- where the name of a group leads
  home : (x : List ℕ) (r : ℕ) (e : List ℕ × Group) → slice_get t.groups r ≡ Some e → bytes_eq e.0 x ≡ true → (q : ℕ) → place_of t.groups x ≡ Some q → q ≡ r
  home x r e is same q found = let one : Some r ≡ Some q = sym (place_is t.groups x r e apart is same) ∙ found in cc

  late_lacks : (r : ℕ) (e : List ℕ × Group) → stands (p ∷ cut.behind) r ≡ true → slice_get t.groups r ≡ Some e → Lacks (names_at t.groups cut.before) e.0
  late_lacks r e later is = lacking t apart p name g at cut.before e.0 (λ q found. by (stands cut.before q) refl (home e.0 r e is (texts_pass e.0 e.0 refl) q found))
    where
      by : {q : ℕ} (b : Bool) → stands cut.before q ≡ b → q ≡ r → b ≡ false
      by false is same = refl
      by {q} true is same =
          let again : stands (p ∷ cut.behind) r ≡ false = not_again edges cut.before (p ∷ cut.behind) r follows (subst (λ (k : ℕ). stands cut.before k ≡ true) same is) in
          let bad : true ≡ false = sym later ∙ again in
          absurd (cc)

  pub has_turn : HasTurn t p name
  has_turn = record {
    before = names_at t.groups cut.before;
    behind = names_at t.groups cut.behind;
    whole = whole_is;
    lacks_before = late_lacks p (name, g) (or_left (nat_eq p p) (stands cut.behind p) (eq-eqb p p refl)) at;
    lacks_behind = lacking t apart p name g at cut.behind name (λ q found.
        ap (stands cut.behind) (home name p (name, g) at (texts_pass name name refl) q found)
        ∙ not_again edges (cut.before ++ p ∷ []) cut.behind p follows.2 (list_any-append (nat_eq p) cut.before (p ∷ []) ∙ or_right _ _ (or_left (nat_eq p p) false (eq-eqb p p refl))));
    lacks_later = subst (AllByRecursion (Lacks (names_at t.groups cut.before))) late_is (each_lacks t apart p name g at (Lacks (names_at t.groups cut.before)) (p ∷ cut.behind) late_lacks);
    early = λ x target. subst (λ (l : List (List ℕ)). Lacks l x) late_is (lacking t apart p name g at (p ∷ cut.behind) x (λ q found.
        not_again edges cut.before (p ∷ cut.behind) q follows (targets_stand edges (stands cut.before) p q edges follows.1 (target q found))));
  }
