-- What a node without a reason against it is.
use Rattle.std.proofs.Common.{◌≡◌, ◌⊎◌, inl, inr, ℕ, zero, suc, ◌^◌, ◌<◌, ◌≤◌, Bool, true, false, cond, not, ◌||◌, Option, None, Some, List, refl, sym, ap, ◌∙◌, arith}
use Rattle.std.specs.Option.{option_map}
use Rattle.std.specs.Result.{result_ok}
use Rattle.std.proofs.lemmas.Bool.Decides.{leb_tells}
use Rattle.cl_base.specs.declared.reason.Reason.{Reason}
use Rattle.cl_base.specs.declared.reason.Reason.TheVariants.{NotMember, Load}
use Rattle.cl_base.specs.Sets.{has}
use Rattle.cl_base.proofs.SetLemmas.{has_not_zero, has_not_above}
use Rattle.load_limits.specs.declared.limits.Limit.{Limit}
use Rattle.rg_props.specs.declared.group.Group.{Group}
use Rattle.rg_props.specs.Lookups.{named}
use Rattle.rg_props.specs.Table.{GroupTable}
use Rattle.rg_props.specs.Values.{or_else}
use Rattle.rg_view.specs.declared.view.GroupView.{GroupView}
use Rattle.placement.specs.declared.score.Score.{Score}
use Rattle.placement.specs.Best.{GoalIsBest, IsBest, IsPlaced, scores_of}
use Rattle.placement.specs.Eligibility.{eligibility, group_reason, node_reason, reason_of, score_of, target_reason, unless}
use Rattle.placement.specs.Goals.{goal_by_rule, goal_in, placed}
use Rattle.placement.specs.Loads.{passed_limit}
use Rattle.placement.specs.Resources.{is_stop_failed}
use Rattle.placement.proofs.Best.{placed_is_best}
use Rattle.placement.proofs.Members.{IsNode}

first_none : {A : Type 0} (a b : Option A) → or_else a b ≡ None → a ≡ None
first_none None b h = refl
first_none (Some x) b h = absurd (cc)

second_none : {A : Type 0} (a b : Option A) → or_else a b ≡ None → b ≡ None
second_none None b h = h
second_none (Some x) b h = absurd (cc)

map_none : {A B : Type 0} (f : A → B) (a : Option A) → option_map f a ≡ None → a ≡ None
map_none f None h = refl
map_none f (Some x) h = absurd (cc)

told_none : {A B : Type 0} (r : Option B) (a s : A) → result_ok (unless r a) ≡ Some s → r ≡ None
told_none None a s h = refl
told_none (Some r) a s h = absurd (cc)

pub node_of : (members n : ℕ) → members < 2 ^ 32 → has members n ≡ true → IsNode n
node_of members zero small h = let none : has members 0 ≡ false = has_not_zero members in absurd (cc)
node_of members (suc n) small h = by (leb_tells (suc n) 32)
  where
    by : {t : Bool} → (t ≡ true) × (suc n ≤ 32) ⊎ (t ≡ false) × (32 < suc n) → IsNode (suc n)
    by (inl (_, le)) = record { low = omega arith; high = le }
    by (inr (_, lt)) = let none : has members (suc n) ≡ false = has_not_above members 32 (suc n) small lt in absurd (cc)

module _ (t : GroupTable) (limits : List Limit) (v : GroupView) (name : List ℕ) (g : Group) (n : ℕ) (s : Score) (h : scores_of t limits v name g n ≡ Some s) where
  none : reason_of t limits v name g n ≡ None
  none = told_none (reason_of t limits v name g n) (score_of t limits v name g n) s h

  pub is_member : has v.members n ≡ true
  unfolding reason_of node_reason
  is_member = by (has v.members n) refl (first_none (node_reason t v name g n) later (second_none (group_reason t name g) (or_else (node_reason t v name g n) later) none))
    where
      later : Option Reason
      later = or_else (target_reason t v name g n) (option_map Load (passed_limit t limits v name g n))

      by : (b : Bool) → b ≡ has v.members n → node_reason t v name g n ≡ None → has v.members n ≡ true
      by true e h = sym e
      by false e h = absurd (let bad : node_reason t v name g n ≡ Some NotMember = rw (sym e) refl in cc)

  pub passes_no_limit : passed_limit t limits v name g n ≡ None
  unfolding reason_of
  passes_no_limit =
      let last : Option Reason = option_map Load (passed_limit t limits v name g n) in
      let targets : Option Reason = target_reason t v name g n in
      let node : Option Reason = node_reason t v name g n in
      map_none Load (passed_limit t limits v name g n)
      (second_none targets last (second_none node (or_else targets last) (second_none (group_reason t name g) (or_else node (or_else targets last)) none)))

-- the goal of a group that is placed
pub goal_is_placed : (t : GroupTable) (limits : List Limit) (v : GroupView) (name : List ℕ) (g : Group) (previous : ℕ) → named t.groups name ≡ Some g → g.managed ≡ true → g.wanted ≡ true
    → is_stop_failed t v name ≡ false → g.suspended ≡ false → goal_by_rule t limits v name previous ≡ placed (scores_of t limits v name g) g.nodelist g.desired previous
unfolding goal_by_rule
goal_is_placed t limits v name g previous there managed wanted running free =
    ap (goal_in t limits v name previous) there ∙ rw (managed, wanted, running, free) refl

pub goal_best : GoalIsBest
goal_best t limits v name g previous h =
    rw (goal_is_placed t limits v name g previous h.there h.managed h.wanted h.running h.free)
    (placed_is_best (scores_of t limits v name g) g.nodelist (λ n s is. node_of v.members n h.members (is_member t limits v name g n s is)) g.desired previous)
