-- A decision of which nothing came need not be taken again.
use Rattle.std.proofs.Common.{◌≡◌, ℕ, Bool, true, false, List, [], Option, None, Some, refl, ap, sym, subst, ◌∙◌}
use Rattle.ccr_tables.specs.State.{ConfigState}
use Rattle.cl_base.specs.declared.header.Header.{Header}
use Rattle.config_cache.specs.InForce.{config_under}
use Rattle.config_cache.specs.Lists.{UpdateList, these}
use Rattle.rg_view.specs.declared.view.GroupView.{GroupView}
use Rattle.wire.specs.declared.message.Order.{Order}
use Rattle.rgm_president.specs.Decisions.{Turn, goals_set, members_of, turns_unless, with_turns}
use Rattle.rgm_president.specs.Goals.{with_goals, with_listed}
use Rattle.rgm_president.specs.Sequence.{groups_in_order, sequence}
use Rattle.rgm_president.specs.State.{PresidentState}
use Rattle.rgm_president.specs.Steady.{IsSteady, IsSteadyUnder, StandsBy, at_second}
use Rattle.rgm_president.proofs.Kept.{kept_later}
use Rattle.rgm_president.proofs.Orders.{none_given, none_later}

-- later it is steady, too
pub steady_later : (c : ConfigState) (p : PresidentState) (a : ℕ) → IsSteady c p → IsSteady c (at_second a p)
unfolding goals_set with_goals with_listed
steady_later c p a steady now held_up = steady now held_up

pub stands_later : (steady : Bool) (basis : Option UpdateList) (p : PresidentState) (a : ℕ) → StandsBy steady basis p → StandsBy steady basis (at_second a p)
stands_later false basis p a stands = tt
stands_later true None p a stands = stands
stands_later true (Some b) p a stands = steady_later (config_under b.header b.texts) p a stands

-- what is kept holds of the updates that it was kept of
pub stands_under : (steady : Bool) (basis : Option UpdateList) (p : PresidentState) (h : Header) (texts : List (List ℕ))
    → StandsBy steady basis p → steady ≡ true → basis ≡ Some (these h texts) → IsSteady (config_under h texts) p
stands_under false basis p h texts stands truly known = absurd (cc truly)
stands_under true basis p h texts stands truly known = subst (λ b. IsSteadyUnder b p) known stands

module _ (c : ConfigState) (a : ℕ) where
  is_steady : (p : PresidentState) → p.view.groups ≡ [] → with_goals c (groups_in_order c.groups) (sequence c.groups) a p.view ≡ record p.view { now = a }
      → (with_turns c (sequence c.groups) (at_second a p)).orders ≡ [] → IsSteady c p
  unfolding goals_set turns_unless with_turns
  is_steady p nothing same none now held_up =
      ap (λ (v : GroupView). turns_unless c (sequence c.groups) held_up (record p { view = v }))
      (kept_later c (groups_in_order c.groups) (sequence c.groups) a now p.view nothing same)
      ∙ by held_up
    where
      by : (held : Bool) → turns_unless c (sequence c.groups) held (at_second now p) ≡ record { president = at_second now p; orders = [] }
      by true = refl
      by false = none_later c (sequence c.groups) a now p (members_of p.view.members) none

  -- Such a decision: the goals are as they were, and none of its orders is given.
  settled : (p set left : PresidentState) (given : List (ℕ × Order)) → set ≡ at_second a p
      → with_goals c (groups_in_order c.groups) (sequence c.groups) a p.view ≡ record p.view { now = a }
      → left ≡ (with_turns c (sequence c.groups) set).president → given ≡ (with_turns c (sequence c.groups) set).orders → given ≡ []
      → left.view.groups ≡ [] → IsSteady c left
  unfolding with_turns
  settled p set left given is same after told none nothing =
      let empty : (with_turns c (sequence c.groups) (at_second a p)).orders ≡ [] =
      ap (λ (q : PresidentState). (with_turns c (sequence c.groups) q).orders) (sym is) ∙ sym told ∙ none in
      let stays : left ≡ at_second a p =
      after ∙ ap (λ (q : PresidentState). (with_turns c (sequence c.groups) q).president) is
      ∙ ap (λ (t : Turn). t.president) (none_given c (sequence c.groups) (record { president = at_second a p; orders = [] }) (members_of p.view.members) empty) in
      let clear : p.view.groups ≡ [] = ap (λ (q : PresidentState). q.view.groups) (sym stays) ∙ nothing in
      subst (λ (q : PresidentState). IsSteady c q) (sym stays) (steady_later c p a (is_steady p clear same empty))

  pub rests : (p set left : PresidentState) (given : List (ℕ × Order)) (groups resources : List (List ℕ)) (same held_up : Bool)
      → groups ≡ groups_in_order c.groups → resources ≡ sequence c.groups
      → set ≡ goals_set c groups resources a p → (same ≡ true → with_goals c groups resources a p.view ≡ record p.view { now = a })
      → given ≡ (turns_unless c resources held_up set).orders → left ≡ (turns_unless c resources held_up set).president
      → same ≡ true → held_up ≡ false → given ≡ [] → left.view.groups ≡ [] → IsSteady c left
  unfolding goals_set turns_unless
  rests p set left given groups resources same held_up groups_are resources_are is kept told after so free none nothing =
      let goals : with_goals c (groups_in_order c.groups) (sequence c.groups) a p.view ≡ record p.view { now = a } =
      subst (λ (gs : List (List ℕ)). with_goals c gs (sequence c.groups) a p.view ≡ record p.view { now = a }) groups_are
      (subst (λ (rs : List (List ℕ)). with_goals c groups rs a p.view ≡ record p.view { now = a }) resources_are (kept so)) in
      let set_is : set ≡ at_second a p =
      is ∙ ap (λ (v : GroupView). record p { view = v }) (kept so) in
      let told_so : given ≡ (with_turns c (sequence c.groups) set).orders =
      told ∙ ap (λ held. (turns_unless c resources held set).orders) free ∙ ap (λ rs. (with_turns c rs set).orders) resources_are in
      let after_so : left ≡ (with_turns c (sequence c.groups) set).president =
      after ∙ ap (λ held. (turns_unless c resources held set).president) free ∙ ap (λ rs. (with_turns c rs set).president) resources_are in
      settled p set left given set_is goals after_so told_so none nothing
