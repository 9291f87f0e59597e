-- A decision that leaves the goals as they were, and ends no mark.
use Rattle.std.proofs.Common.{◌≡◌, ℕ, Bool, true, false, ◌||◌, List, [], ◌∷◌, Option, None, Some, fold, refl, ap, sym, subst, ◌∙◌}
use Rattle.std.specs.List.{find}
use Rattle.std.specs.Prelude.{unwrap_or, if◌then◌else◌}
use Rattle.ccr_tables.specs.State.{ConfigState}
use Rattle.cl_base.specs.Limits.{most_nodes}
use Rattle.cl_base.specs.Numbers.{numbers_to}
use Rattle.cl_base.specs.Sets.{has}
use Rattle.rg_props.specs.declared.group.Resource.{Resource}
use Rattle.rg_props.specs.Lookups.{named}
use Rattle.rg_props.specs.Table.{GroupTable}
use Rattle.rg_view.specs.declared.histories.GroupAt.{GroupAt}
use Rattle.rg_view.specs.declared.states.ResourceAt.{ResourceAt}
use Rattle.rg_view.specs.declared.view.GroupView.{GroupView}
use Rattle.rg_view.specs.Goals.{goal_of}
use Rattle.rg_view.specs.States.{is_state_of, state_of, states_with, unmarked}
use Rattle.rgm_state.specs.Changes.{unfaulted}
use Rattle.rgm_president.specs.Goals.{ended_for, ended_of, ended_outside, listed, with_decided, with_ended, with_goals, with_listed}
use Rattle.rgm_president.specs.Steady.{is_any_faulted}
use Rattle.rgm_president.proofs.Timeless.{decided_same}

neither : (p q : Bool) → (p || q) ≡ false → (p ≡ false) × (q ≡ false)
neither true q none = absurd (cc none)
neither false q none = (refl, none)

-- Where no state is faulted, neither is the one that is found.
module _ (r : List ℕ) (n : ℕ) where
  found_so : (states : List ResourceAt) → is_any_faulted states ≡ false → (unwrap_or (find (is_state_of r n) states) (unmarked r n)).faulted ≡ false
  found_so [] none = refl
  found_so (s ∷ ss) none = by (neither s.faulted (is_any_faulted ss) none).0 (found_so ss (neither s.faulted (is_any_faulted ss) none).1) (is_state_of r n s)
    where
      by : s.faulted ≡ false → (unwrap_or (find (is_state_of r n) ss) (unmarked r n)).faulted ≡ false → (here : Bool)
          → (unwrap_or (if here then Some s else find (is_state_of r n) ss) (unmarked r n)).faulted ≡ false
      by first rest true = first
      by first rest false = rest

  unfaulted_same : (states : List ResourceAt) → is_any_faulted states ≡ false → unfaulted r states n ≡ states
  unfaulted_same states none =
      ap (λ so. if so then states_with states (record (state_of states r n) { faulted = false }) else states) (found_so states none)

module _ (goals : List (List ℕ × ℕ)) (members : List ℕ) where
  outside_same : (group r : List ℕ) (states : List ResourceAt) → is_any_faulted states ≡ false → (nodes : List ℕ)
      → fold (ended_outside goals group r) states nodes ≡ states
  outside_same group r states none [] = refl
  outside_same group r states none (n ∷ ns) =
      ap (λ ss. fold (ended_outside goals group r) ss ns) (by (has (goal_of goals group) n)) ∙ outside_same group r states none ns
    where
      by : (within : Bool) → (if within then states else unfaulted r states n) ≡ states
      by true = refl
      by false = unfaulted_same r n states none

  of_same : (r : List ℕ) (states : List ResourceAt) → is_any_faulted states ≡ false → (x : Option Resource) → ended_of goals members r states x ≡ states
  of_same r states none None = refl
  of_same r states none (Some x) = outside_same x.group r states none members

  -- no mark ends
  ended_same : (t : GroupTable) (states : List ResourceAt) → is_any_faulted states ≡ false → (resources : List (List ℕ))
      → fold (ended_for t goals members) states resources ≡ states
  ended_same t states none [] = refl
  ended_same t states none (r ∷ rs) =
      ap (λ ss. fold (ended_for t goals members) ss rs) (of_same r states none (named t.resources r)) ∙ ended_same t states none rs

module _ (c : ConfigState) (groups resources : List (List ℕ)) where
  -- nothing changes but the second
  pub goals_kept : (a : ℕ) (v : GroupView) → v.goals ≡ (with_decided c groups (with_listed groups a v)).goals → is_any_faulted v.resources ≡ false
      → with_goals c groups resources a v ≡ record v { now = a }
  unfolding with_goals with_ended with_decided with_listed
  goals_kept a v same none =
      ap (λ (states : List ResourceAt). record (with_decided c groups (with_listed groups a v)) { resources = states })
      (ended_same (with_decided c groups (with_listed groups a v)).goals (numbers_to v.members most_nodes) c.groups v.resources none resources)
      ∙ ap (λ (goals : List (List ℕ × ℕ)). record v { now = a; goals = goals }) (sym same)

  -- the same of goals that were listed and decided one after the other
  pub goals_so : (a : ℕ) (v set : GroupView) (same : Bool) → set ≡ with_decided c groups (with_listed groups a v)
      → (same ≡ true → (v.goals ≡ set.goals) × (is_any_faulted set.resources ≡ false))
      → same ≡ true → with_goals c groups resources a v ≡ record v { now = a }
  unfolding with_decided with_listed
  goals_so a v set same is so truly =
      goals_kept a v ((so truly).0 ∙ ap (λ (w : GroupView). w.goals) is) (ap (λ (w : GroupView). is_any_faulted w.resources) (sym is) ∙ (so truly).1)

  still_later : (a b : ℕ) (v : GroupView)
      → with_goals c groups resources a (record v { groups = [] }) ≡ record (with_goals c groups resources b (record v { groups = [] })) { now = a }
  unfolding with_goals with_ended with_decided with_listed
  still_later a b v =
      ap (λ (goals : List (List ℕ × ℕ)). record v {
        groups = [];
        now = a;
        goals = goals;
        resources = fold (ended_for c.groups goals (numbers_to v.members most_nodes)) v.resources resources;
      }) (decided_same c.groups c.limits v a b (listed v.goals groups) groups)

  -- at another second it is the same, where nothing is remembered of groups
  pub goals_later : (a b : ℕ) (v : GroupView) → v.groups ≡ []
      → with_goals c groups resources a v ≡ record (with_goals c groups resources b v) { now = a }
  goals_later a b v none =
      let P : List GroupAt → Type 0 = λ hs. with_goals c groups resources a (record v { groups = hs }) ≡ record (with_goals c groups resources b (record v { groups = hs })) { now = a } in
      subst P (sym none) (still_later a b v)

  pub kept_later : (a b : ℕ) (v : GroupView) → v.groups ≡ [] → with_goals c groups resources a v ≡ record v { now = a }
      → with_goals c groups resources b v ≡ record v { now = b }
  kept_later a b v none same = goals_later b a v none ∙ ap (λ (w : GroupView). record w { now = b }) same
