-- The reasons against a node are the same over two views which differ in nothing that they look at.
use Rattle.std.proofs.Common.{◌≡◌, ℕ, suc, ◌==◌, nat_le, Bool, true, false, cond, not, ◌&&◌, ◌||◌, List, [], ◌∷◌, Option, None, Some, refl, ap}
use Rattle.std.specs.List.{find, slice_get}
use Rattle.std.specs.Option.{option_map}
use Rattle.std.specs.Str.{bytes_eq}
use Rattle.cl_base.specs.declared.reason.Reason.TheVariants as reason
use Rattle.cl_base.specs.Sets.{has}
use Rattle.load_limits.specs.declared.limits.Limit.{Limit}
use Rattle.placement.specs.Eligibility.{group_reason, node_reason, reason_of, target_reason}
use Rattle.placement.specs.Histories.{failures_in, moved_in}
use Rattle.placement.specs.Loads.{passed_limit}
use Rattle.placement.specs.Resources.{is_stop_failed}
use Rattle.placement.specs.Targets.{first_some, forbidding, forbids, forbids_node, have_common, in_scope, is_lacking, lacked_by, lacking, lacks, without_goal}
use Rattle.rg_deps.specs.Edges.{is_strong}
use Rattle.rg_props.specs.declared.affinity.Affinity.{Affinity}
use Rattle.rg_props.specs.declared.affinity.Affinity.TheVariants.{PlusPlus, Plus, Minus, MinusMinus, PlusPlusPlus}
use Rattle.rg_props.specs.declared.affinity.Affine.{Affine}
use Rattle.rg_props.specs.declared.group.Group.{Group}
use Rattle.rg_props.specs.declared.group.Resource.{Resource}
use Rattle.rg_props.specs.Affinities.{declares_close}
use Rattle.rg_props.specs.Lookups.{named}
use Rattle.rg_props.specs.Table.{GroupTable}
use Rattle.rg_props.specs.Values.{or_else}
use Rattle.rg_view.specs.declared.view.GroupView.{GroupView}
use Rattle.rg_view.specs.Goals.{goal_of}
use Rattle.rg_view.specs.Histories.{history_at}
use Rattle.rg_view.specs.Marks.{is_marked}

-- The second view knows of nodes what the first does.
pub record SharesGround (t : GroupTable) (v w : GroupView) : Type 0 where
  pub members : w.members ≡ v.members
  pub now : w.now ≡ v.now
  pub groups : w.groups ≡ v.groups
  pub evacuated : w.evacuated ≡ v.evacuated
  pub leaving : w.leaving ≡ v.leaving
  pub failed : (name : List ℕ) → is_stop_failed t w name ≡ is_stop_failed t v name

find_same : {X : Type 0} (p q : X → Bool) (xs : List X) → ((i : ℕ) (x : X) → slice_get xs i ≡ Some x → p x ≡ q x) → find p xs ≡ find q xs
find_same p q [] h = refl
find_same p q (x ∷ xs) h = λ i. cond (h 0 x refl i) (Some x) (find_same p q xs (λ k y is. h (suc k) y is) i)

first_same : {X Y : Type 0} (f h : X → Option Y) (xs : List X) → ((i : ℕ) (x : X) → slice_get xs i ≡ Some x → f x ≡ h x) → first_some f xs ≡ first_some h xs
first_same f h [] same = refl
first_same f h (x ∷ xs) same = λ i. or_else (same 0 x refl i) (first_same f h xs (λ k y is. same (suc k) y is) i)

-- what the group looks at of other groups' goals
pub record SharesTargets (t : GroupTable) (v w : GroupView) (name : List ℕ) (g : Group) : Type 0 where
  pub affinities : (i : ℕ) (a : Affine) → slice_get g.affinities i ≡ Some a → is_strong a.affinity ≡ true → goal_of w.goals a.group ≡ goal_of v.goals a.group
  pub dependencies : (i : ℕ) (d : List ℕ) → slice_get g.dependencies i ≡ Some d → goal_of w.goals d ≡ goal_of v.goals d
  pub strong : (k : ℕ) (e : List ℕ × Resource) → slice_get t.resources k ≡ Some e → bytes_eq e.1.group name ≡ true → (i : ℕ) (target : List ℕ) (r : Resource)
      → slice_get e.1.strong i ≡ Some target → named t.resources target ≡ Some r → bytes_eq r.group name ≡ false → goal_of w.goals r.group ≡ goal_of v.goals r.group
  pub offline : (k : ℕ) (e : List ℕ × Resource) → slice_get t.resources k ≡ Some e → bytes_eq e.1.group name ≡ true → (i : ℕ) (target : List ℕ) (r : Resource)
      → slice_get e.1.offline_restart i ≡ Some target → named t.resources target ≡ Some r → bytes_eq r.group name ≡ false → goal_of w.goals r.group ≡ goal_of v.goals r.group

module _ (t : GroupTable) (limits : List Limit) (v w : GroupView) (name : List ℕ) (g : Group) (n : ℕ) (ground : SharesGround t v w) (targets : SharesTargets t v w name g) where
  same_node : node_reason t w name g n ≡ node_reason t v name g n
  unfolding node_reason
  same_node = λ i.
      cond (not (has (ground.members i) n)) (Some reason.NotMember)
      (cond (ground.failed name i) (Some reason.StopFailed)
      (cond (is_marked (ground.evacuated i) name n) (Some reason.Evacuated)
      (cond (nat_le 2 (failures_in (history_at (ground.groups i) name n) g.pingpong (ground.now i))) (Some reason.StartFailed)
      (cond (moved_in (history_at (ground.groups i) name n) g.pingpong (ground.now i)) (Some reason.Moved)
      (cond (is_marked (ground.leaving i) name n) (Some reason.Leaving) None)))))

  same_forbidding : forbidding w g n ≡ forbidding v g n
  unfolding forbidding
  same_forbidding = ap (option_map (λ a. a.group)) (find_same (forbids_node w n) (forbids_node v n) g.affinities (λ i a is. by a (a.affinity) (targets.affinities i a is)))
    where
      by : (a : Affine) (kind : Affinity) → (is_strong kind ≡ true → goal_of w.goals a.group ≡ goal_of v.goals a.group)
          → forbids kind (has (goal_of w.goals a.group) n) ≡ forbids kind (has (goal_of v.goals a.group) n)
      by a PlusPlus same = ap (λ (s : ℕ). not (has s n)) (same refl)
      by a PlusPlusPlus same = ap (λ (s : ℕ). not (has s n)) (same refl)
      by a MinusMinus same = ap (λ (s : ℕ). has s n) (same refl)
      by a Plus same = refl
      by a Minus same = refl

  same_without : without_goal w g ≡ without_goal v g
  unfolding without_goal
  same_without = find_same (λ d. goal_of w.goals d == 0) (λ d. goal_of v.goals d == 0) g.dependencies (λ i d is. ap (λ (s : ℕ). s == 0) (targets.dependencies i d is))

  same_scope : (close : Bool) (a b : ℕ) → a ≡ b → in_scope w close n a ≡ in_scope v close n b
  same_scope true a b e = ap (λ (s : ℕ). has s n) e
  same_scope false a b e = λ i. have_common (e i) (ground.members i)

  same_lack : (target : List ℕ) → ((r : Resource) → named t.resources target ≡ Some r → bytes_eq r.group name ≡ false → goal_of w.goals r.group ≡ goal_of v.goals r.group)
      → lacks t w name g n target ≡ lacks t v name g n target
  same_lack target same = by (named t.resources target) refl
    where
      there : (r : Resource) → (b : Bool) → (b ≡ false → goal_of w.goals r.group ≡ goal_of v.goals r.group)
          → (not r.enabled || (not b && not (in_scope w (declares_close g.affinities r.group) n (goal_of w.goals r.group))))
          ≡ (not r.enabled || (not b && not (in_scope v (declares_close g.affinities r.group) n (goal_of v.goals r.group))))
      there r true e = refl
      there r false e =
          ap (λ (b : Bool). not r.enabled || not b) (same_scope (declares_close g.affinities r.group) (goal_of w.goals r.group) (goal_of v.goals r.group) (e refl))

      by : (o : Option Resource) → named t.resources target ≡ o → is_lacking w name g n o ≡ is_lacking v name g n o
      by None is = refl
      by (Some r) is = there r (bytes_eq r.group name) (same r is)

  same_lacking : lacking t w name g n ≡ lacking t v name g n
  unfolding lacking
  same_lacking = first_same (lacked_by t w name g n) (lacked_by t v name g n) t.resources (λ k e there. by k e there (bytes_eq e.1.group name) refl)
    where
      by : (k : ℕ) (e : List ℕ × Resource) → slice_get t.resources k ≡ Some e → (b : Bool) → bytes_eq e.1.group name ≡ b
          → cond b (or_else (find (lacks t w name g n) e.1.strong) (find (lacks t w name g n) e.1.offline_restart)) None
          ≡ cond b (or_else (find (lacks t v name g n) e.1.strong) (find (lacks t v name g n) e.1.offline_restart)) None
      by k e there false own = refl
      by k e there true own = λ i. or_else
          (find_same (lacks t w name g n) (lacks t v name g n) e.1.strong (λ j x is. same_lack x (λ r. targets.strong k e there own j x r is)) i)
          (find_same (lacks t w name g n) (lacks t v name g n) e.1.offline_restart (λ j x is. same_lack x (λ r. targets.offline k e there own j x r is)) i)

  same_target : target_reason t w name g n ≡ target_reason t v name g n
  unfolding target_reason
  same_target = λ i. or_else (option_map reason.Affinity (same_forbidding i)) (or_else (option_map reason.Dependency (same_without i)) (option_map reason.Dependency (same_lacking i)))

  pub same_reason : passed_limit t limits w name g n ≡ passed_limit t limits v name g n → reason_of t limits w name g n ≡ reason_of t limits v name g n
  unfolding reason_of
  same_reason load = λ i. or_else (group_reason t name g) (or_else (same_node i) (or_else (same_target i) (option_map reason.Load (load i))))
