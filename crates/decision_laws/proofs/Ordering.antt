-- What stands in the orders of groups and resources.
use Rattle.std.proofs.Common.{◌≡◌, ℕ, zero, suc, nat_eq, nat_lt, ◌+◌, ◌<◌, ◌≤◌, ◌||◌, ◌⊎◌, inl, inr, Bool, true, false, cond, List, [], ◌∷◌, Option, None, Some, length, refl, sym, ap, subst, ◌∙◌, add-one, arith}
use Rattle.std.proofs.lemmas.Bool.{cases_lt, eq-eqb, eqb-true, lt-ltb, or_cases, or_left, or_right}
use Rattle.std.proofs.lemmas.List.Folds.{list_any-append}
use Rattle.std.proofs.lemmas.Map.Entries.{length-keys_of}
use Rattle.std.proofs.lemmas.Option.{slice_get_within}
use Rattle.std.specs.Cmp.Lexicographic.{same_text}
use Rattle.std.specs.List.{AllByRecursion, IsDistinct, cons_option, flat_map, list_any, position_or_len, slice_get}
use Rattle.std.specs.Map.{keys_of}
use Rattle.std.specs.Option.{option_map}
use Rattle.std.specs.Result.{IsOk}
use Rattle.std.specs.Str.{bytes_eq}
use Rattle.cl_base.proofs.NameLemmas.{text_flips, texts_pass}
use Rattle.rg_deps.specs.declared.graph.Edge.{Edge}
use Rattle.rg_deps.specs.declared.graph.Thing.{Thing}
use Rattle.rg_deps.specs.Cycles.{arranged, arrangement}
use Rattle.rg_deps.specs.Edges.{group_edges, member_edges}
use Rattle.rg_deps.specs.Laws.{ChosenIsOrder, IsOrder, is_thing}
use Rattle.rg_deps.specs.Order.{first_left, ordered, stands}
use Rattle.rg_deps.specs.Orderings.{group_ordering, named_order, resource_ordering}
use Rattle.rg_deps.specs.Things.{collected, group_things, member_things, names_at, thing_of_group, thing_of_member}
use Rattle.rg_props.specs.declared.group.Group.{Group}
use Rattle.rg_props.specs.declared.group.Resource.{Resource}
use Rattle.rg_props.specs.Lookups.{named, place_of}
use Rattle.rg_props.specs.Table.{GroupTable}
use Rattle.rgm_president.specs.Sequence.{groups_in_order, in_order, members_in_order, sequence}

abbrev pub among : List (List ℕ) → List ℕ → Bool
among names name = list_any (λ x. bytes_eq x name) names

-- Groups, and the resources of each group, have an order.
pub record HaveOrders (t : GroupTable) : Type 0 where
  pub groups : IsOk (group_ordering t)
  pub resources : (group : List ℕ) → IsOk (resource_ordering t group)

-- an order that is found is one of all things, and tells their names
pub record IsArranged {X : Type 0} (es : List (List ℕ × X)) (things : List Thing) (edges : List Edge) : Type 0 where
  pub order : IsOrder things edges (ordered things edges)
  pub names : in_order (named_order es (arrangement things edges)) ≡ names_at es (ordered things edges)

pub arranged_so : {X : Type 0} (es : List (List ℕ × X)) (things : List Thing) (edges : List Edge) → ChosenIsOrder → IsOk (named_order es (arrangement things edges)) → IsArranged es things edges
arranged_so {X} es things edges law ok = by (first_left things (stands (ordered things edges))) refl ok
  where
    by : (o : Option ℕ) → first_left things (stands (ordered things edges)) ≡ o → IsOk (named_order es (arranged things edges (ordered things edges) o)) → IsArranged es things edges
    by None is ok = record { order = law things edges is; names = ap (λ (o : Option ℕ). in_order (named_order es (arranged things edges (ordered things edges) o))) is }
    by (Some p) is ok = cc ok

-- the name at a place that stands is told
pub name_stands : {X : Type 0} (es : List (List ℕ × X)) (places : List ℕ) (p : ℕ) (e : List ℕ × X) → stands places p ≡ true → slice_get es p ≡ Some e → among (names_at es places) e.0 ≡ true
name_stands es [] p e h is = cc h
name_stands {X} es (q ∷ qs) p e h is = by (or_cases (nat_eq p q) (stands qs p) h) (λ rest. name_stands es qs p e rest is)
  where
    here : p ≡ q → names_at es (q ∷ qs) ≡ e.0 ∷ names_at es qs
    here same = ap (λ (o : Option (List ℕ × X)). cons_option (option_map (λ x. x.0) o) (names_at es qs)) (ap (slice_get es) (sym same) ∙ is)

    more : (o : Option (List ℕ)) (rest : List (List ℕ)) → among rest e.0 ≡ true → among (cons_option o rest) e.0 ≡ true
    more None rest h = h
    more (Some x) rest h = or_right (bytes_eq x e.0) (among rest e.0) h

    by : (nat_eq p q ≡ true) ⊎ (stands qs p ≡ true) → (stands qs p ≡ true → among (names_at es qs) e.0 ≡ true) → among (names_at es (q ∷ qs)) e.0 ≡ true
    by (inl same) rest =
        ap (λ (l : List (List ℕ)). among l e.0) (here (eqb-true p q same)) ∙ or_left (bytes_eq e.0 e.0) (among (names_at es qs) e.0) (texts_pass e.0 e.0 refl)
    by (inr later) rest = more (option_map (λ x. x.0) (slice_get es q)) (names_at es qs) (rest later)

-- what a place below n gives is among all
pub held : {X : Type 0} (test : X → Bool) (f : ℕ → List X) (n q : ℕ) → q < n → list_any test (f q) ≡ true → list_any test (collected f n) ≡ true
held test f zero q lt is = absurd (omega (arith, lt))
held test f (suc n) q lt is = list_any-append test (collected f n) (f n) ∙ by (cases_lt q n) (λ low. held test f n q low is)
  where
    by : ((q < n) ⊎ (n ≤ q)) → (q < n → list_any test (collected f n) ≡ true) → (list_any test (collected f n) || list_any test (f n)) ≡ true
    by (inl low) ih = or_left _ _ (ih low)
    by (inr high) ih =
        let same : q ≡ n = omega (arith, lt, high, add-one n) in
        or_right _ _ (subst (λ (k : ℕ). list_any test (f k) ≡ true) same is)

-- what has a name is at some place
pub record IsFoundAt {X : Type 0} (es : List (List ℕ × X)) (name : List ℕ) (x : X) : Type 0 where
  pub place : ℕ
  pub found : slice_get es place ≡ Some (name, x)
  pub first : position_or_len (bytes_eq name) (keys_of es) ≡ place

pub found_at : {X : Type 0} (es : List (List ℕ × X)) (name : List ℕ) (x : X) → named es name ≡ Some x → IsFoundAt es name x
found_at [] name x h = cc h
found_at {X} (e ∷ es) name x h = by (bytes_eq name e.0) refl h (λ rest. found_at es name x rest)
  where
    inside : Some e.1 ≡ Some x → e.1 ≡ x
    inside h = cc h

    by : (b : Bool) → bytes_eq name e.0 ≡ b → cond b (Some e.1) (named es name) ≡ Some x → (named es name ≡ Some x → IsFoundAt es name x) → IsFoundAt (e ∷ es) name x
    by true is h rest = record { place = 0; found = λ i. Some (sym (same_text name e.0 (sym is)) i, inside h i); first = rw is refl }
    by false is h rest =
        let later : IsFoundAt es name x = rest h in
        record { place = suc later.place; found = later.found; first = rw is (ap (λ (k : ℕ). 1 + k) later.first ∙ omega (arith, add-one later.place)) }

-- and its name leads there
pub leads_to : {X : Type 0} (es : List (List ℕ × X)) (name : List ℕ) (r : ℕ) (e : List ℕ × X) → position_or_len (bytes_eq name) (keys_of es) ≡ r → slice_get es r ≡ Some e → place_of es name ≡ Some r
leads_to es name r e at is =
    let low : nat_lt (position_or_len (bytes_eq name) (keys_of es)) (length (keys_of es)) ≡ true =
    lt-ltb (position_or_len (bytes_eq name) (keys_of es)) (length (keys_of es)) (omega (arith, at, slice_get_within es r e is, length-keys_of es)) in
    rw low (ap (λ (k : ℕ). Some k) at)

-- Where no two have one name, each place is the one that its name leads to.

at_key : {X : Type 0} (P : List ℕ → Type 0) (es : List (List ℕ × X)) (r : ℕ) (e : List ℕ × X) → AllByRecursion P (keys_of es) → slice_get es r ≡ Some e → P e.0
at_key P [] r e all is = cc is
at_key {X} P (x ∷ xs) zero e all is = subst (λ (y : List ℕ × X). P y.0) (inside is) all.0
  where
    inside : Some x ≡ Some e → x ≡ e
    inside h = cc h
at_key P (x ∷ xs) (suc r) e all is = at_key P xs r e all.1 is

first_place : {X : Type 0} (es : List (List ℕ × X)) (name : List ℕ) (r : ℕ) (e : List ℕ × X) → IsDistinct bytes_eq (keys_of es) → slice_get es r ≡ Some e → bytes_eq e.0 name ≡ true
    → position_or_len (bytes_eq name) (keys_of es) ≡ r
unfolding IsDistinct
first_place [] name r e apart is same = cc is
first_place {X} (x ∷ xs) name zero e apart is same = rw (text_flips name x.0 ∙ ap (λ (y : List ℕ × X). bytes_eq y.0 name) (inside is) ∙ same) refl
  where
    inside : Some x ≡ Some e → x ≡ e
    inside h = cc h
first_place (x ∷ xs) name (suc r) e apart is same =
    let other : bytes_eq name x.0 ≡ false = text_flips name x.0 ∙ subst (λ (y : List ℕ). bytes_eq x.0 y ≡ false) (same_text e.0 name (sym same)) (at_key (λ y. bytes_eq x.0 y ≡ false) xs r e apart.0 is) in
    rw other (ap (λ (k : ℕ). 1 + k) (first_place xs name r e apart.1 is same) ∙ omega (arith, add-one r))

pub place_is : {X : Type 0} (es : List (List ℕ × X)) (name : List ℕ) (r : ℕ) (e : List ℕ × X) → IsDistinct bytes_eq (keys_of es) → slice_get es r ≡ Some e → bytes_eq e.0 name ≡ true
    → place_of es name ≡ Some r
place_is es name r e apart is same = leads_to es name r e (first_place es name r e apart is same) is

module _ (t : GroupTable) (orders : HaveOrders t) (law : ChosenIsOrder) where
  pub groups_arranged : IsArranged t.groups (group_things t) (group_edges t)
  groups_arranged = arranged_so t.groups (group_things t) (group_edges t) law orders.groups

  pub group_stands : (p : ℕ) (e : List ℕ × Group) → slice_get t.groups p ≡ Some e → stands (ordered (group_things t) (group_edges t)) p ≡ true
  group_stands p e is =
      groups_arranged.order.all p
      (held (λ x. nat_eq p x.place) (λ k. thing_of_group t.version k (slice_get t.groups k)) (length t.groups) p (slice_get_within t.groups p e is)
      (ap (λ (o : Option (List ℕ × Group)). is_thing (thing_of_group t.version p o) p) is ∙ rw (eq-eqb p p refl) refl))

  member_stands : (group : List ℕ) (p : ℕ) (e : List ℕ × Resource) → slice_get t.resources p ≡ Some e → bytes_eq e.1.group group ≡ true
      → stands (ordered (member_things t group) (member_edges t group)) p ≡ true
  member_stands group p e is own =
      (arranged_so t.resources (member_things t group) (member_edges t group) law (orders.resources group)).order.all p
      (held (λ x. nat_eq p x.place) (λ k. thing_of_member group k (slice_get t.resources k)) (length t.resources) p (slice_get_within t.resources p e is)
      (ap (λ (o : Option (List ℕ × Resource)). is_thing (thing_of_member group p o) p) is ∙ rw (own, eq-eqb p p refl) refl))

  flat_among : (f : List ℕ → List (List ℕ)) (xs : List (List ℕ)) (x r : List ℕ) → among xs x ≡ true → among (f x) r ≡ true → among (flat_map f xs) r ≡ true
  flat_among f [] x r h own = cc h
  flat_among f (y ∷ ys) x r h own =
      list_any-append (λ z. bytes_eq z r) (f y) (flat_map f ys) ∙ by (or_cases (bytes_eq y x) (among ys x) h) (λ rest. flat_among f ys x r rest own)
    where
      by : (bytes_eq y x ≡ true) ⊎ (among ys x ≡ true) → (among ys x ≡ true → among (flat_map f ys) r ≡ true) → (among (f y) r || among (flat_map f ys) r) ≡ true
      by (inl same) rest = or_left _ _ (subst (λ (z : List ℕ). among (f z) r ≡ true) (sym (same_text y x (sym same))) own)
      by (inr later) rest = or_right _ _ (rest later)

  -- each resource of a group that is there is gone through
  pub in_sequence : (p : ℕ) (e : List ℕ × Group) (k : ℕ) (r : List ℕ × Resource) → slice_get t.groups p ≡ Some e → slice_get t.resources k ≡ Some r → bytes_eq r.1.group e.0 ≡ true
      → among (sequence t) r.0 ≡ true
  unfolding groups_in_order members_in_order
  in_sequence p e k r at there own =
      let members : IsArranged t.resources (member_things t e.0) (member_edges t e.0) = arranged_so t.resources (member_things t e.0) (member_edges t e.0) law (orders.resources e.0) in
      flat_among (members_in_order t) (groups_in_order t) e.0 r.0
      (ap (λ (l : List (List ℕ)). among l e.0) groups_arranged.names ∙ name_stands t.groups (ordered (group_things t) (group_edges t)) p e (group_stands p e at) at)
      (ap (λ (l : List (List ℕ)). among l r.0) members.names ∙ name_stands t.resources (ordered (member_things t e.0) (member_edges t e.0)) k r (member_stands e.0 k r there own) there)
