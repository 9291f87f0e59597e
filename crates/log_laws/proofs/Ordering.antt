-- An update that does not say what comes after what leaves names falling, where they fall and each is there.
use Rattle.std.proofs.Common.{◌≡◌, ℕ, ◌<◌, Bool, true, false, cond, ◌||◌, Option, None, Some, IfSome, List, [], ◌∷◌, ◌++◌, option_map, refl, ap, sym, subst, ◌∙◌}
use Rattle.std.proofs.lemmas.Bool.{or_parts}
use Rattle.std.proofs.lemmas.Map.{lookup-set_value}
use Rattle.std.specs.Cmp.Lexicographic.{nat_list_eq_equiv, same_text}
use Rattle.std.specs.List.{AllByRecursion}
use Rattle.std.specs.Option.{is_some}
use Rattle.std.specs.Str.{bytes_eq}
use Rattle.rg_props.specs.declared.affinity.Affine.{Affine}
use Rattle.rg_props.specs.declared.group.Flag.TheVariants.{Wanted}
use Rattle.rg_props.specs.declared.group.Group.{Group}
use Rattle.rg_props.specs.declared.group.Resource.{Resource}
use Rattle.rg_props.specs.Lookups.{named, with_group, with_named, with_new_group, with_new_resource, with_resource, without, without_group, without_resource}
use Rattle.rg_props.specs.Properties.{new_resource}
use Rattle.rg_props.specs.Settings.{group_setting_in, has_name, resource_setting_in}
use Rattle.rg_deps.specs.Edges.{is_strong}
use Rattle.ccr_tables.specs.declared.update.Update.{Update}
use Rattle.ccr_tables.specs.declared.update.Update.TheVariants.{RegisterType, UnregisterType, CreateGroup, DeleteGroup, SetGroup, ChangeGroup, SwitchGroup, CreateResource, DeleteResource, SetResource, ChangeResource, Device, NodeVote, AddNode, RemoveNode, CreateLimit, DeleteLimit, CreateAddress, DeleteAddress, SetWeights}
use Rattle.ccr_tables.specs.Changes.{changed, group_flag, resource_flag, sets_group, sets_resource}
use Rattle.ccr_tables.specs.Refusals.{refusal_of}
use Rattle.ccr_tables.specs.State.{ConfigState}
use Rattle.ccr_tables.specs.Uses.{needs_resource}
use Rattle.admin_commands.specs.Orders.{makes_order}
use Rattle.log_laws.specs.Laws.{IsThere, NamesAreThere, OfNeeded, ResourceNames}
use Rattle.log_laws.proofs.Allowed.{fits, Fits, none_passes}
use Rattle.log_laws.proofs.Alls.{all_fail, both, each, each_of_both}
use Rattle.log_laws.proofs.Changing.{flagged, group_set_without_order, resource_set_without_order, SameGroup, SameResource}
use Rattle.log_laws.proofs.Falling.{group_of, GroupFalls, IsAbove, needed_of_both, NamesFall, ResourceFalls}
use Rattle.log_laws.proofs.Named.{all_left, all_with, named_more, named_without}

module _ (group_rank rank : List ℕ → ℕ) where
  -- a resource, where those that it depends on are of the groups that they were of
  falls_on : (old new : List (List ℕ × Resource)) (e : List ℕ × Resource) → OfNeeded (λ d. named new d ≡ named old d) e.1
      → ResourceFalls group_rank rank old e → ResourceFalls group_rank rank new e
  falls_on old new e same h =
      needed_of_both (λ d. named new d ≡ named old d) (λ d. IfSome (group_of old d) (IsAbove group_rank rank e d)) (λ d. IfSome (group_of new d) (IsAbove group_rank rank e d))
      (λ d is f. subst (λ (o : Option Resource). IfSome (option_map (λ (r : Resource). r.group) o) (IsAbove group_rank rank e d)) (sym is) f) e.1 same h

  falls_where : (old new : List (List ℕ × Resource)) → ((d : List ℕ) → group_of new d ≡ group_of old d) → (e : List ℕ × Resource)
      → ResourceFalls group_rank rank old e → ResourceFalls group_rank rank new e
  falls_where old new same e h = (on e.1.strong h.0, on e.1.weak h.1, on e.1.offline_restart h.2)
    where
      on : (names : List (List ℕ)) → AllByRecursion (λ d. IfSome (group_of old d) (IsAbove group_rank rank e d)) names → AllByRecursion (λ d. IfSome (group_of new d) (IsAbove group_rank rank e d)) names
      on names a = each _ _ (λ d f. subst (λ (o : Option (List ℕ)). IfSome o (IsAbove group_rank rank e d)) (sym (same d)) f) names a

  -- a resource in the place of one that names the same
  falls_as : (things : List (List ℕ × Resource)) (own : List ℕ) (r q : Resource) → SameResource r q → ResourceFalls group_rank rank things (own, r) → ResourceFalls group_rank rank things (own, q)
  falls_as things own r q same h = (on same.strong h.0, on same.weak h.1, on same.offline_restart h.2)
    where
      -- one that it depends on
      one : (d : List ℕ) (o : Option (List ℕ)) → IfSome o (IsAbove group_rank rank (own, r) d) → IfSome o (IsAbove group_rank rank (own, q) d)
      one d None f = tt
      one d (Some group) f = subst (λ (x : List ℕ). (bytes_eq group x ≡ false → group_rank group < group_rank x) × (bytes_eq group x ≡ true → rank d < rank own)) same.group f

      on : {old new : List (List ℕ)} → old ≡ new → AllByRecursion (λ d. IfSome (group_of things d) (IsAbove group_rank rank (own, r) d)) old
          → AllByRecursion (λ d. IfSome (group_of things d) (IsAbove group_rank rank (own, q) d)) new
      on e a = subst (λ (names : List (List ℕ)). AllByRecursion (λ d. IfSome (group_of things d) (IsAbove group_rank rank (own, q) d)) names) e (each _ _ (λ d f. one d (group_of things d) f) _ a)

-- a changed resource is of the group that it was of
group_with : (things : List (List ℕ × Resource)) (name : List ℕ) (old new : Resource) → named things name ≡ Some old → old.group ≡ new.group
    → (d : List ℕ) → group_of (with_named things name new) d ≡ group_of things d
group_with things name old new is same d =
    ap group (lookup-set_value nat_list_eq_equiv (bytes_eq name) (λ x y e. nat_list_eq_equiv.congr name x y e) d new things (ap is_some is)) ∙ by (bytes_eq name d) refl
  where
    group : Option Resource → Option (List ℕ)
    group o = option_map (λ r. r.group) o

    by : (b : Bool) → bytes_eq name d ≡ b → group (cond b (Some new) (named things d)) ≡ group (named things d)
    by true own = ap Some (sym same) ∙ ap group (sym is) ∙ ap (λ (n : List ℕ). group (named things n)) (same_text name d (sym own))
    by false other = refl

module _ (s : ConfigState) (n : NamesAreThere s) (k : NamesFall s.groups) where
  group_more : (name nodes : List ℕ) → NamesFall (with_new_group s.groups name nodes)
  group_more name nodes = record { group_rank = k.group_rank; rank = k.rank; groups = both _ _ _ k.groups ((tt, tt), tt); resources = k.resources }

  group_less : (name : List ℕ) → NamesFall (without_group s.groups name)
  group_less name = record { group_rank = k.group_rank; rank = k.rank; groups = all_left _ s.groups.groups name k.groups; resources = k.resources }

  same_group : (name : List ℕ) (g h : Group) → named s.groups.groups name ≡ Some g → SameGroup g h → NamesFall (with_group s.groups name h)
  same_group name g h is same = record {
    group_rank = k.group_rank;
    rank = k.rank;
    groups = all_with (GroupFalls k.group_rank) s.groups.groups name g h is (λ own f. (
      subst (λ (l : List (List ℕ)). AllByRecursion (λ d. k.group_rank d < k.group_rank own) l) same.dependencies f.0,
      subst (λ (l : List Affine). AllByRecursion (λ a. is_strong a.affinity ≡ true → k.group_rank a.group < k.group_rank own) l) same.affinities f.1,
    )) k.groups;
    resources = k.resources;
  }

  resource_more : (name of_group of_type : List ℕ) → NamesFall (with_new_resource s.groups name of_group of_type)
  resource_more name of_group of_type = record {
    group_rank = k.group_rank;
    rank = k.rank;
    groups = k.groups;
    resources = both _ _ _ (each_of_both _ _ _ (λ e names f. falls_on k.group_rank k.rank s.groups.resources more e (stays e.1 names) f) s.groups.resources n.resources k.resources) ((tt, tt, tt), tt);
  }
    where
      more : List (List ℕ × Resource)
      more = s.groups.resources ++ (name, new_resource of_group of_type) ∷ []

      stays : (r : Resource) → ResourceNames s r → OfNeeded (λ d. named more d ≡ named s.groups.resources d) r
      stays r names = (on r.strong names.2.0, on r.weak names.2.1, on r.offline_restart names.2.2)
        where
          on : (needed : List (List ℕ)) → AllByRecursion (IsThere s.groups.resources) needed → AllByRecursion (λ d. named more d ≡ named s.groups.resources d) needed
          on needed there = each _ _ (named_more s.groups.resources ((name, new_resource of_group of_type) ∷ [])) needed there

  resource_less : (name : List ℕ) → AllByRecursion (λ e. needs_resource name e.1 ≡ false) s.groups.resources → NamesFall (without_resource s.groups name)
  resource_less name free = record {
    group_rank = k.group_rank;
    rank = k.rank;
    groups = k.groups;
    resources = all_left _ s.groups.resources name
        (each_of_both _ _ _ (λ e none f. falls_on k.group_rank k.rank s.groups.resources (without s.groups.resources name) e (stays e.1 none) f) s.groups.resources free k.resources);
  }
    where
      on : (needed : List (List ℕ)) → has_name name needed ≡ false → AllByRecursion (λ d. named (without s.groups.resources name) d ≡ named s.groups.resources d) needed
      on needed none = each _ _ (λ d other. named_without s.groups.resources name d other) needed (all_fail (λ d. bytes_eq d name) needed none)

      stays : (r : Resource) → needs_resource name r ≡ false → OfNeeded (λ d. named (without s.groups.resources name) d ≡ named s.groups.resources d) r
      stays r none =
          let two = or_parts (has_name name r.strong || has_name name r.weak) (has_name name r.offline_restart) none in
          let one = or_parts (has_name name r.strong) (has_name name r.weak) two.0 in
          (on r.strong one.0, on r.weak one.1, on r.offline_restart two.1)

  same_resource : (name : List ℕ) (r q : Resource) → named s.groups.resources name ≡ Some r → SameResource r q → NamesFall (with_resource s.groups name q)
  same_resource name r q is same = record {
    group_rank = k.group_rank;
    rank = k.rank;
    groups = k.groups;
    resources = all_with (ResourceFalls k.group_rank k.rank (with_named s.groups.resources name q)) s.groups.resources name r q is
        (λ own f. falls_as k.group_rank k.rank (with_named s.groups.resources name q) own r q same f)
        (each _ _ (falls_where k.group_rank k.rank s.groups.resources (with_named s.groups.resources name q) (group_with s.groups.resources name r q is same.group)) s.groups.resources k.resources);
  }

  falls : (u : Update) → Fits s u → makes_order s u ≡ false → NamesFall (changed s u).groups
  falls (RegisterType name agent methods single failover) f none = k
  falls (UnregisterType name) f none = k
  falls (CreateGroup name nodes) f none = group_more name nodes
  falls (DeleteGroup name) f none = group_less name
  falls (SetGroup name property value) f none = group_set_without_order NamesFall s.groups k same_group same_resource name (group_setting_in s.groups.version property value) none
  falls (ChangeGroup name change) f none = flagged NamesFall s.groups k same_group same_resource name (group_flag change) (sets_group change)
  falls (SwitchGroup name nodes) f none = flagged NamesFall s.groups k same_group same_resource name Wanted true
  falls (CreateResource name of_group of_type) f none = resource_more name of_group of_type
  falls (DeleteResource name) f none = resource_less name (none_passes (needs_resource name) s.groups.resources f.free)
  falls (SetResource name property value) f none = resource_set_without_order NamesFall s.groups k same_group same_resource name (resource_setting_in property value) none
  falls (ChangeResource name change) f none = flagged NamesFall s.groups k same_group same_resource name (resource_flag change) (sets_resource change)
  falls (Device d change) f none = k
  falls (NodeVote m has) f none = k
  falls (AddNode m) f none = k
  falls (RemoveNode m) f none = k
  falls (CreateLimit m limit soft hard) f none = k
  falls (DeleteLimit m limit) f none = k
  falls (CreateAddress name of_group policy) f none = k
  falls (DeleteAddress name) f none = k
  falls (SetWeights name weights) f none = k

pub names_fall_on : (s : ConfigState) (u : Update) → NamesAreThere s → refusal_of s u ≡ None → makes_order s u ≡ false → NamesFall s.groups → NamesFall (changed s u).groups
names_fall_on s u n none orders k = falls s n k u (fits s u none) orders
