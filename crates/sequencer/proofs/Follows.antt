-- An outlook that is found, and one that is brought up to date with an order, show what the rule gives.
use Rattle.std.proofs.Common.{◌≡◌, ℕ, zero, suc, ◌==◌, ◌-◌, Bool, true, false, cond, not, ◌&&◌, ◌||◌, List, [], ◌∷◌, Option, None, Some, fold, get_or, set, refl, sym, ap, subst, ◌∙◌}
use Rattle.std.specs.Cmp.Lexicographic.{same_text}
use Rattle.std.specs.Str.{bytes_eq}
use Rattle.load_limits.specs.declared.limits.Limit.{Limit}
use Rattle.rg_props.specs.Settings.{has_name}
use Rattle.rg_props.specs.Table.{GroupTable}
use Rattle.rg_view.specs.declared.name_at.NameAt.{NameAt}
use Rattle.rg_view.specs.declared.orders.Outstanding.{Outstanding}
use Rattle.rg_view.specs.declared.view.GroupView.{GroupView}
use Rattle.rg_view.specs.Marks.{is_marked, marks_with}
use Rattle.rg_view.specs.Orders.{order_of}
use Rattle.rg_view.specs.States.{state_of}
use Rattle.rt_types.specs.Fields.{TypeFields}
use Rattle.sequencer.specs.declared.direction.Direction.{Direction}
use Rattle.sequencer.specs.declared.direction.Direction.TheVariants.{Down, Up}
use Rattle.sequencer.specs.Allowed.{has_up_call}
use Rattle.sequencer.specs.Fields.{OutlookFields}
use Rattle.sequencer.specs.Kept.{kept_outlook, outlook_renewed, risen, with_going_renewed, with_risings_of}
use Rattle.sequencer.specs.Leaving.{counts_online, going_of}
use Rattle.sequencer.specs.Outlooks.{members_of, outlook_of, with_rising, with_risings, without_risings}
use Rattle.sequencer.specs.Renewals.{renewed}
use Rattle.sequencer.specs.Resting.{is_in_order}
use Rattle.sequencer.specs.Shown.{FollowsOrder, Shows, awaited, with_order}
use Rattle.sequencer.specs.Standing.{is_online, is_order_for, is_ordered}
use Rattle.sequencer.proofs.Awaited.{up_call_shown}
use Rattle.sequencer.proofs.Brought.{renewed_going}
use Rattle.sequencer.proofs.Marked.{with_here, with_other}

-- Where places come up, the members and the places that must go down stay.
record Rests (o p : OutlookFields) : Type 0 where
  members : p.members ≡ o.members
  for_down : p.for_down ≡ o.for_down
  for_up : p.for_up ≡ o.for_up

module _ (t : GroupTable) (types : List (List ℕ × TypeFields)) (limits : List Limit) (v : GroupView) where
  rising_rests : (name : List ℕ) (o : OutlookFields) (n : ℕ) → Rests o (with_rising t types limits v name o n)
  rising_rests name o n = by (has_up_call t types limits v o n name)
    where
      by : (b : Bool) → Rests o (cond b (record o { rising = marks_with o.rising name n }) o)
      by true = record { members = refl; for_down = refl; for_up = refl }
      by false = record { members = refl; for_down = refl; for_up = refl }

  onward : (o p q : OutlookFields) → Rests o p → Rests p q → Rests o q
  onward o p q first then = record {
    members = then.members ∙ first.members;
    for_down = then.for_down ∙ first.for_down;
    for_up = then.for_up ∙ first.for_up;
  }

  risings_rest : (name : List ℕ) (o : OutlookFields) (nodes : List ℕ) → Rests o (fold (with_rising t types limits v name) o nodes)
  risings_rest name o [] = record { members = refl; for_down = refl; for_up = refl }
  risings_rest name o (n ∷ nodes) =
      onward o (with_rising t types limits v name o n) (fold (with_rising t types limits v name) (with_rising t types limits v name o n) nodes)
      (rising_rests name o n) (risings_rest name (with_rising t types limits v name o n) nodes)

  all_rest : (o : OutlookFields) (order : List (List ℕ)) → Rests o (fold (with_risings t types limits v) o order)
  all_rest o [] = record { members = refl; for_down = refl; for_up = refl }
  all_rest o (name ∷ order) =
      onward o (with_risings t types limits v o name) (fold (with_risings t types limits v) (with_risings t types limits v o name) order)
      (risings_rest name o o.members) (all_rest (with_risings t types limits v o name) order)

  rule_rests : (order : List (List ℕ)) → Rests (without_risings t v order) (outlook_of t types limits v order)
  unfolding outlook_of
  rule_rests order = all_rest (without_risings t v order) order

  -- A place that comes up of a weak target is one in both; of another resource it is not asked.

  marked_alike : (a b : List NameAt) (name : List ℕ) (n : ℕ) → ((y : List ℕ) (m : ℕ) → has_name y (awaited t) ≡ true → is_marked a y m ≡ is_marked b y m)
      → (y : List ℕ) (m : ℕ) → has_name y (awaited t) ≡ true → is_marked (marks_with a name n) y m ≡ is_marked (marks_with b name n) y m
  marked_alike a b name n alike y m is = by (bytes_eq name y) refl
    where
      by : (c : Bool) → c ≡ bytes_eq name y → is_marked (marks_with a name n) y m ≡ is_marked (marks_with b name n) y m
      by false off = with_other a name n y m (sym off) ∙ alike y m is ∙ sym (with_other b name n y m (sym off))
      by true same =
          let e : name ≡ y = same_text name y same in
          let there : has_name name (awaited t) ≡ true = ap (λ z. has_name z (awaited t)) e ∙ is in
          ap (λ z. is_marked (marks_with a name n) z m) (sym e)
          ∙ with_here a name n m ∙ ap (λ c. c || (m == n)) (alike name m there) ∙ sym (with_here b name n m)
          ∙ ap (λ z. is_marked (marks_with b name n) z m) e

  rising_alike : (name : List ℕ) (n : ℕ) (o f : OutlookFields) → Shows t o f → Shows t (with_rising t types limits v name o n) (with_rising t types limits v name f n)
  rising_alike name n o f shows =
      subst (λ b. Shows t (with_rising t types limits v name o n) (cond b (record f { rising = marks_with f.rising name n }) f)) (up_call_shown t types limits v o f shows n name)
      (by (has_up_call t types limits v o n name))
    where
      by : (b : Bool) → Shows t (cond b (record o { rising = marks_with o.rising name n }) o) (cond b (record f { rising = marks_with f.rising name n }) f)
      by true = record { members = shows.members; for_down = shows.for_down; for_up = shows.for_up; rising = marked_alike o.rising f.rising name n shows.rising }
      by false = shows

  risings_alike : (name : List ℕ) (nodes : List ℕ) (o f : OutlookFields) → Shows t o f
      → Shows t (fold (with_rising t types limits v name) o nodes) (fold (with_rising t types limits v name) f nodes)
  risings_alike name [] o f shows = shows
  risings_alike name (n ∷ nodes) o f shows = risings_alike name nodes (with_rising t types limits v name o n) (with_rising t types limits v name f n) (rising_alike name n o f shows)

  passed_over : (name : List ℕ) → has_name name (awaited t) ≡ false → (n : ℕ) (o f : OutlookFields) → Shows t o f → Shows t o (with_rising t types limits v name f n)
  passed_over name out n o f shows = by (has_up_call t types limits v f n name)
    where
      apart : (y : List ℕ) → has_name y (awaited t) ≡ true → (c : Bool) → c ≡ bytes_eq name y → c ≡ false
      apart y is true same = absurd (let e : name ≡ y = same_text name y same in
          let bad : false ≡ true = sym out ∙ ap (λ z. has_name z (awaited t)) e ∙ is in cc)
      apart y is false off = refl

      by : (b : Bool) → Shows t o (cond b (record f { rising = marks_with f.rising name n }) f)
      by true = record {
        members = shows.members;
        for_down = shows.for_down;
        for_up = shows.for_up;
        rising = λ y m is. shows.rising y m is ∙ sym (with_other f.rising name n y m (apart y is (bytes_eq name y) refl));
      }
      by false = shows

  all_passed_over : (name : List ℕ) → has_name name (awaited t) ≡ false → (nodes : List ℕ) (o f : OutlookFields) → Shows t o f
      → Shows t o (fold (with_rising t types limits v name) f nodes)
  all_passed_over name out [] o f shows = shows
  all_passed_over name out (n ∷ nodes) o f shows = all_passed_over name out nodes o (with_rising t types limits v name f n) (passed_over name out n o f shows)

  step_alike : (name : List ℕ) (o f : OutlookFields) → Shows t o f → Shows t (with_risings_of t types limits v (awaited t) o name) (with_risings t types limits v f name)
  step_alike name o f shows = by (has_name name (awaited t)) refl
    where
      by : (b : Bool) → b ≡ has_name name (awaited t) → Shows t (cond b (with_risings t types limits v o name) o) (with_risings t types limits v f name)
      by true is =
          subst (λ nodes. Shows t (with_risings t types limits v o name) (fold (with_rising t types limits v name) f nodes)) shows.members
          (risings_alike name o.members o f shows)
      by false out = all_passed_over name (sym out) f.members o f shows

  risen_alike : (order : List (List ℕ)) (o f : OutlookFields) → Shows t o f → Shows t (risen t types limits v order o) (fold (with_risings t types limits v) f order)
  risen_alike [] o f shows = shows
  risen_alike (name ∷ order) o f shows =
      risen_alike order (with_risings_of t types limits v (awaited t) o name) (with_risings t types limits v f name) (step_alike name o f shows)

  -- as it is found
  pub kept_shows : (order : List (List ℕ)) → Shows t (kept_outlook t types limits v order) (outlook_of t types limits v order)
  unfolding outlook_of
  kept_shows order = risen_alike order (without_risings t v order) (without_risings t v order) (record {
    members = refl;
    for_down = λ y m. refl;
    for_up = λ y m. refl;
    rising = λ y m is. refl;
  })

-- An order counts for its resource alone.
module _ (v : GroupView) (o : Outstanding) (free : order_of v.outstanding o.node ≡ None) where
  for_others : (y : List ℕ) → bytes_eq o.resource y ≡ false → (orders : List (Option Outstanding)) (i j : ℕ) → get_or orders i None ≡ None
      → is_order_for y (get_or orders j None) ≡ is_order_for y (get_or (set orders i (Some o)) j None)
  for_others y out [] i j none = refl
  for_others y out (x ∷ xs) zero zero none = ap (is_order_for y) none ∙ sym out
  for_others y out (x ∷ xs) zero (suc j) none = refl
  for_others y out (x ∷ xs) (suc i) zero none = refl
  for_others y out (x ∷ xs) (suc i) (suc j) none = for_others y out xs i j none

  ordered_same : (y : List ℕ) (m : ℕ) → bytes_eq o.resource y ≡ false → is_ordered v y m ≡ is_ordered (with_order v o) y m
  unfolding is_ordered
  ordered_same y m out = for_others y out v.outstanding (o.node - 1) (m - 1) free

  counts_same : (d : Direction) (y : List ℕ) (m : ℕ) → bytes_eq o.resource y ≡ false → counts_online d v y m ≡ counts_online d (with_order v o) y m
  unfolding is_online
  counts_same Down y m out i = ((state_of v.resources y m).run && not (ordered_same y m out i)) || ordered_same y m out i
  counts_same Up y m out i = (state_of v.resources y m).run && not (ordered_same y m out i)

module _ (t : GroupTable) (types : List (List ℕ × TypeFields)) (limits : List Limit) (order : List (List ℕ)) (in_order : is_in_order t order ≡ true) where
  renewed_shows : (v : GroupView) (o : Outstanding) → order_of v.outstanding o.node ≡ None → (old : OutlookFields) → Shows t old (outlook_of t types limits v order)
      → Shows t (with_going_renewed t (with_order v o) order o.resource old) (without_risings t (with_order v o) order)
  renewed_shows v o free old shows = record {
    members = members;
    for_down = going Down old.for_down (λ y m. shows.for_down y m ∙ ap (λ g. is_marked g y m) rests.for_down);
    for_up = going Up old.for_up (λ y m. shows.for_up y m ∙ ap (λ g. is_marked g y m) rests.for_up);
    rising = λ y m is. refl;
  }
    where
      rests : Rests (without_risings t v order) (outlook_of t types limits v order)
      rests = rule_rests t types limits v order

      members : old.members ≡ members_of v
      members = shows.members ∙ rests.members

      going : (d : Direction) (g : List NameAt) → ((y : List ℕ) (m : ℕ) → is_marked g y m ≡ is_marked (going_of d t v (members_of v) order) y m) → (y : List ℕ) (m : ℕ)
          → is_marked (renewed d t (with_order v o) old.members order o.resource g) y m ≡ is_marked (going_of d t (with_order v o) (members_of v) order) y m
      going d g before y m =
          ap (λ ms. is_marked (renewed d t (with_order v o) ms order o.resource g) y m) members
          ∙ renewed_going d t v (with_order v o).outstanding (members_of v) o.resource (λ z k out. counts_same v o free d z k out) order g in_order before y m

  -- and as it is brought up to date
  pub renewed_follows : (name : List ℕ) (now : GroupView) (old : OutlookFields) → FollowsOrder t types limits order name now old (outlook_renewed t types limits now order name old)
  unfolding outlook_of
  renewed_follows name now old v o is same free shows =
      subst (λ w. Shows t (outlook_renewed t types limits w order name old) (outlook_of t types limits w order)) (sym is)
      (subst (λ z. Shows t (outlook_renewed t types limits (with_order v o) order z old) (outlook_of t types limits (with_order v o) order)) same
      (risen_alike t types limits (with_order v o) order (with_going_renewed t (with_order v o) order o.resource old) (without_risings t (with_order v o) order)
      (renewed_shows v o free old shows)))
