-- What an update that is not refused makes of a configuration names what is there, where that did.
use Rattle.std.proofs.Common.{◌≡◌, ℕ, Bool, true, false, ◌||◌, Option, None, Some, List, [], ◌∷◌, ◌++◌, Result, Ok, Err, refl, ap, sym, subst, ◌∙◌}
use Rattle.std.proofs.lemmas.Bool.{or_parts}
use Rattle.std.specs.List.{AllByRecursion, IsDistinct}
use Rattle.std.specs.Map.{keys_of}
use Rattle.std.specs.Option.{is_some}
use Rattle.std.specs.Str.{bytes_eq}
use Rattle.cl_base.specs.declared.refusal.Thing.TheVariants.{Named}
use Rattle.rt_types.specs.Fields.{TypeFields}
use Rattle.rt_types.specs.Types.{type_of, types_without}
use Rattle.rg_props.specs.declared.affinity.Affine.{Affine}
use Rattle.rg_props.specs.declared.group.Flag.{Flag}
use Rattle.rg_props.specs.declared.group.Flag.TheVariants.{Wanted}
use Rattle.rg_props.specs.declared.group.Group.{Group}
use Rattle.rg_props.specs.declared.group.Resource.{Resource}
use Rattle.rg_props.specs.declared.setting.GroupSetting.{GroupSetting}
use Rattle.rg_props.specs.declared.setting.GroupSetting.TheVariants as to
use Rattle.rg_props.specs.declared.setting.ResourceSetting.{ResourceSetting}
use Rattle.rg_props.specs.declared.setting.ResourceSetting.TheVariants as its
use Rattle.rg_props.specs.declared.setting.SetError.{SetError}
use Rattle.rg_props.specs.Lookups.{named, taken_by_group, taken_by_resource, with_flag, with_group, with_named, with_new_group, with_new_resource, with_resource, without, without_group, without_resource}
use Rattle.rg_props.specs.Properties.{new_group, new_resource}
use Rattle.rg_props.specs.Settings.{changed_group, changed_resource, group_setting_in, has_name, resource_setting_in}
use Rattle.rg_props.specs.Table.{GroupTable}
use Rattle.rg_props.specs.Values.{or_else}
use Rattle.ccr_tables.specs.declared.address.Address.{Address}
use Rattle.ccr_tables.specs.declared.address.Weight.{Weight}
use Rattle.ccr_tables.specs.declared.update.Update.{Update}
use Rattle.ccr_tables.specs.declared.update.Update.TheVariants.{RegisterType, UnregisterType, CreateGroup, DeleteGroup, SetGroup, ChangeGroup, SwitchGroup, CreateResource, DeleteResource, SetResource, ChangeResource, Device, NodeVote, AddNode, RemoveNode, CreateLimit, DeleteLimit, CreateAddress, DeleteAddress, SetWeights}
use Rattle.ccr_tables.specs.Changes.{changed, group_flag, new_address, or_same, resource_flag, sets_group, sets_resource, weighted}
use Rattle.ccr_tables.specs.Refusals.{missing, refusal_of, unknown_in_group_set, unknown_in_group_setting, unknown_in_resource_set, unknown_in_resource_setting}
use Rattle.ccr_tables.specs.State.{ConfigState}
use Rattle.ccr_tables.specs.Uses.{first_named, is_affine_to, is_in_group, is_of_type, is_served_by, needs_group, needs_resource, user_of_group, user_of_resource, user_of_type}
use Rattle.log_laws.specs.Laws.{GroupNamesGroups, IsThere, NamesAreThere, OfNeeded, ResourceNames}
use Rattle.log_laws.proofs.Allowed.{affine_are_there, are_there, first_none, fits, Fits, is_there, none_passes, second_none}
use Rattle.log_laws.proofs.Alls.{all_fail, both, each, each_of_both, each_of_three}
use Rattle.log_laws.proofs.Changing.{flagged, group_set_to, resource_set_to, SameGroup, SameResource}
use Rattle.log_laws.proofs.Named.{all_left, all_with, is_there_with, named_more, named_without, once_left, once_more, once_with}

-- ---- things that are there stay there

module _ {X : Type 0} where
  there_more : (things more : List (List ℕ × X)) (name : List ℕ) → IsThere things name → IsThere (things ++ more) name
  there_more things more name h = ap is_some (named_more things more name h) ∙ h

  there_without : (things : List (List ℕ × X)) (gone name : List ℕ) → IsThere things name → bytes_eq name gone ≡ false → IsThere (without things gone) name
  there_without things gone name h other = ap is_some (named_without things gone name other) ∙ h

  -- each name but one that stands nowhere
  names_without : (things : List (List ℕ × X)) (gone : List ℕ) (names : List (List ℕ)) → AllByRecursion (IsThere things) names → has_name gone names ≡ false
      → AllByRecursion (IsThere (without things gone)) names
  names_without things gone names h none =
      each_of_both (IsThere things) (λ n. bytes_eq n gone ≡ false) (IsThere (without things gone)) (there_without things gone) names h (all_fail (λ n. bytes_eq n gone) names none)

-- groups, where each group stays
groups_stay : (old new : List (List ℕ × Group)) → ((name : List ℕ) → IsThere old name → IsThere new name) → (g : Group) → GroupNamesGroups old g → GroupNamesGroups new g
groups_stay old new stay g h = (each _ _ stay g.dependencies h.0, each _ _ (λ a. stay a.group) g.affinities h.1)

-- a resource, where groups, types and resources stay
resource_stays : (s t : ConfigState) → ((name : List ℕ) → IsThere s.groups.groups name → IsThere t.groups.groups name) → ((name : List ℕ) → IsThere s.types name → IsThere t.types name)
    → ((name : List ℕ) → IsThere s.groups.resources name → IsThere t.groups.resources name) → (r : Resource) → ResourceNames s r → ResourceNames t r
resource_stays s t groups types resources r h =
    (groups r.group h.0, types r.resource_type h.1, (each _ _ resources r.strong h.2.0, each _ _ resources r.weak h.2.1, each _ _ resources r.offline_restart h.2.2))

module _ (s : ConfigState) (n : NamesAreThere s) where
  -- ---- types

  type_more : (name : List ℕ) (fields : TypeFields) → is_some (type_of s.types name) ≡ false → NamesAreThere (record s { types = s.types ++ (name, fields) ∷ [] })
  type_more name fields new = record {
    groups = n.groups;
    resources = each _ _ (λ e. resource_stays s (record s { types = s.types ++ (name, fields) ∷ [] }) (λ _ h. h) (there_more s.types ((name, fields) ∷ [])) (λ _ h. h) e.1) s.groups.resources n.resources;
    addresses = n.addresses;
    types_once = once_more s.types name fields n.types_once new;
    groups_once = n.groups_once;
    resources_once = n.resources_once;
    addresses_once = n.addresses_once;
  }

  type_less : (name : List ℕ) → user_of_type s name ≡ None → NamesAreThere (record s { types = types_without s.types name })
  type_less name free = record {
    groups = n.groups;
    resources = each_of_both _ _ _ (λ e h other. (h.0, there_without s.types name e.1.resource_type h.1 other, h.2)) s.groups.resources n.resources (none_passes (is_of_type name) s.groups.resources free);
    addresses = n.addresses;
    types_once = once_left s.types name n.types_once;
    groups_once = n.groups_once;
    resources_once = n.resources_once;
    addresses_once = n.addresses_once;
  }

  -- ---- groups

  group_more : (name nodes : List ℕ) → is_some (named s.groups.groups name) ≡ false → NamesAreThere (record s { groups = with_new_group s.groups name nodes })
  group_more name nodes new = record {
    groups = both _ _ _ (each _ _ (λ e. groups_stay s.groups.groups more stay e.1) s.groups.groups n.groups) ((tt, tt), tt);
    resources = each _ _ (λ e. resource_stays s (record s { groups = with_new_group s.groups name nodes }) stay (λ _ h. h) (λ _ h. h) e.1) s.groups.resources n.resources;
    addresses = each _ _ (λ e. stay e.1.group) s.addresses n.addresses;
    types_once = n.types_once;
    groups_once = once_more s.groups.groups name (new_group nodes) n.groups_once new;
    resources_once = n.resources_once;
    addresses_once = n.addresses_once;
  }
    where
      more : List (List ℕ × Group)
      more = s.groups.groups ++ (name, new_group nodes) ∷ []

      stay : (other : List ℕ) → IsThere s.groups.groups other → IsThere more other
      stay = there_more s.groups.groups ((name, new_group nodes) ∷ [])

  group_less : (name : List ℕ) → user_of_group s name ≡ None → NamesAreThere (record s { groups = without_group s.groups name })
  group_less name free = record {
    groups = all_left _ s.groups.groups name
        (each_of_three _ _ _ _ (λ e h needs affine_to. (names_without s.groups.groups name e.1.dependencies h.0 needs, affine e.1 h.1 affine_to)) s.groups.groups n.groups
        (none_passes (needs_group name) s.groups.groups (first_none (first_named (needs_group name) s.groups.groups) _ other_than_resources))
        (none_passes (is_affine_to name) s.groups.groups (first_none (first_named (is_affine_to name) s.groups.groups) _ other_than_dependencies)));
    resources = each_of_both _ _ _ (λ e h other. (there_without s.groups.groups name e.1.group h.0 other, h.1, h.2)) s.groups.resources n.resources
        (none_passes (is_in_group name) s.groups.resources (first_none (first_named (is_in_group name) s.groups.resources) _ free));
    addresses = each_of_both _ _ _ (λ e h other. there_without s.groups.groups name e.1.group h other) s.addresses n.addresses
        (none_passes (is_served_by name) s.addresses (second_none (first_named (is_affine_to name) s.groups.groups) _ other_than_dependencies));
    types_once = n.types_once;
    groups_once = once_left s.groups.groups name n.groups_once;
    resources_once = n.resources_once;
    addresses_once = n.addresses_once;
  }
    where
      left : List (List ℕ × Group)
      left = without s.groups.groups name

      other_than_resources : or_else (first_named (needs_group name) s.groups.groups) (or_else (first_named (is_affine_to name) s.groups.groups) (first_named (is_served_by name) s.addresses)) ≡ None
      other_than_resources = second_none (first_named (is_in_group name) s.groups.resources) _ free

      other_than_dependencies : or_else (first_named (is_affine_to name) s.groups.groups) (first_named (is_served_by name) s.addresses) ≡ None
      other_than_dependencies = second_none (first_named (needs_group name) s.groups.groups) _ other_than_resources

      affine : (g : Group) → AllByRecursion (λ a. IsThere s.groups.groups a.group) g.affinities → is_affine_to name g ≡ false → AllByRecursion (λ a. IsThere left a.group) g.affinities
      affine g h none =
          each_of_both _ _ _ (λ a there other. there_without s.groups.groups name a.group there other) g.affinities h (all_fail (λ a. bytes_eq a.group name) g.affinities none)

  group_with : (name : List ℕ) (old new : Group) → named s.groups.groups name ≡ Some old → (GroupNamesGroups s.groups.groups old → GroupNamesGroups s.groups.groups new)
      → NamesAreThere (record s { groups = with_group s.groups name new })
  group_with name old new is change = record {
    groups = each _ _ (λ e. groups_stay s.groups.groups more stay e.1) more (all_with (λ e. GroupNamesGroups s.groups.groups e.1) s.groups.groups name old new is (λ own h. change h) n.groups);
    resources = each _ _ (λ e. resource_stays s (record s { groups = with_group s.groups name new }) stay (λ _ h. h) (λ _ h. h) e.1) s.groups.resources n.resources;
    addresses = each _ _ (λ e. stay e.1.group) s.addresses n.addresses;
    types_once = n.types_once;
    groups_once = once_with s.groups.groups name new n.groups_once;
    resources_once = n.resources_once;
    addresses_once = n.addresses_once;
  }
    where
      more : List (List ℕ × Group)
      more = with_named s.groups.groups name new

      stay : (other : List ℕ) → IsThere s.groups.groups other → IsThere more other
      stay = is_there_with s.groups.groups name new

  -- ---- resources

  resource_more : (name of_group of_type : List ℕ) → IsThere s.groups.groups of_group → IsThere s.types of_type → is_some (named s.groups.resources name) ≡ false
      → NamesAreThere (record s { groups = with_new_resource s.groups name of_group of_type })
  resource_more name of_group of_type group_there type_there new = record {
    groups = n.groups;
    resources = both _ _ _ (each _ _ (λ e. resource_stays s (record s { groups = with_new_resource s.groups name of_group of_type }) (λ _ h. h) (λ _ h. h) (there_more s.groups.resources ((name, new_resource of_group of_type) ∷ [])) e.1) s.groups.resources n.resources)
        ((group_there, type_there, (tt, tt, tt)), tt);
    addresses = n.addresses;
    types_once = n.types_once;
    groups_once = n.groups_once;
    resources_once = once_more s.groups.resources name (new_resource of_group of_type) n.resources_once new;
    addresses_once = n.addresses_once;
  }

  resource_less : (name : List ℕ) → user_of_resource s name ≡ None → NamesAreThere (record s { groups = without_resource s.groups name })
  resource_less name free = record {
    groups = n.groups;
    resources = all_left _ s.groups.resources name (each_of_both _ _ _ (λ e h none. (h.0, h.1, left e.1 h.2 none)) s.groups.resources n.resources (none_passes (needs_resource name) s.groups.resources free));
    addresses = n.addresses;
    types_once = n.types_once;
    groups_once = n.groups_once;
    resources_once = once_left s.groups.resources name n.resources_once;
    addresses_once = n.addresses_once;
  }
    where
      left : (r : Resource) → OfNeeded (IsThere s.groups.resources) r → needs_resource name r ≡ false → OfNeeded (IsThere (without s.groups.resources name)) r
      left r h none =
          let two = or_parts (has_name name r.strong || has_name name r.weak) (has_name name r.offline_restart) none in
          let one = or_parts (has_name name r.strong) (has_name name r.weak) two.0 in
          (names_without s.groups.resources name r.strong h.0 one.0, names_without s.groups.resources name r.weak h.1 one.1, names_without s.groups.resources name r.offline_restart h.2 two.1)

  resource_with : (name : List ℕ) (old new : Resource) → named s.groups.resources name ≡ Some old → (ResourceNames s old → ResourceNames s new)
      → NamesAreThere (record s { groups = with_resource s.groups name new })
  resource_with name old new is change = record {
    groups = n.groups;
    resources = each _ _ (λ e. resource_stays s (record s { groups = with_resource s.groups name new }) (λ _ h. h) (λ _ h. h) (is_there_with s.groups.resources name new) e.1) (with_named s.groups.resources name new)
        (all_with (λ e. ResourceNames s e.1) s.groups.resources name old new is (λ own h. change h) n.resources);
    addresses = n.addresses;
    types_once = n.types_once;
    groups_once = n.groups_once;
    resources_once = once_with s.groups.resources name new n.resources_once;
    addresses_once = n.addresses_once;
  }

  -- ---- what is set

  group_changed : (setting : GroupSetting) (g : Group) → unknown_in_group_setting s setting ≡ None → GroupNamesGroups s.groups.groups g → GroupNamesGroups s.groups.groups (changed_group setting g)
  group_changed (to.Nodelist nodes) g none h = h
  group_changed (to.Maximum m) g none h = h
  group_changed (to.Desired m) g none h = h
  group_changed (to.Dependencies names) g none h = (are_there s.groups.groups names none, h.1)
  group_changed (to.Affinities affinities) g none h = (h.0, affine_are_there s.groups.groups affinities none)
  group_changed (to.Pingpong m) g none h = h
  group_changed (to.Failback choice) g none h = h
  group_changed (to.Factors factors) g none h = h
  group_changed (to.Priority m) g none h = h

  resource_changed : (setting : ResourceSetting) (r : Resource) → unknown_in_resource_setting s setting ≡ None → ResourceNames s r → ResourceNames s (changed_resource setting r)
  resource_changed (its.Strong names) r none h = (h.0, h.1, (are_there s.groups.resources names none, h.2.1, h.2.2))
  resource_changed (its.Weak names) r none h = (h.0, h.1, (h.2.0, are_there s.groups.resources names none, h.2.2))
  resource_changed (its.OfflineRestart names) r none h = (h.0, h.1, (h.2.0, h.2.1, are_there s.groups.resources names none))
  resource_changed (its.Mode mode) r none h = h
  resource_changed (its.RetryCount m) r none h = h
  resource_changed (its.RetryInterval m) r none h = h

  abbrev Kept : GroupTable → Type 0
  Kept t = NamesAreThere (record s { groups = t })

  as_it_was : Kept s.groups
  as_it_was = record { groups = n.groups; resources = n.resources; addresses = n.addresses; types_once = n.types_once; groups_once = n.groups_once; resources_once = n.resources_once; addresses_once = n.addresses_once }

  group_set : (name : List ℕ) (read : Result GroupSetting SetError) → unknown_in_group_set s name (named s.groups.groups name) read ≡ None → Kept (or_same (taken_by_group s.groups name read) s.groups)
  group_set name (Err error) none = as_it_was
  group_set name (Ok setting) none =
      group_set_to Kept s.groups as_it_was name setting (λ g is. group_with name g (changed_group setting g) is
      (group_changed setting g (ap (λ (o : Option Group). unknown_in_group_set s name o (Ok setting)) (sym is) ∙ none)))

  resource_set : (name : List ℕ) (read : Result ResourceSetting SetError) → unknown_in_resource_set s name (named s.groups.resources name) read ≡ None → Kept (or_same (taken_by_resource s.groups name read) s.groups)
  resource_set name (Err error) none = as_it_was
  resource_set name (Ok setting) none =
      resource_set_to Kept s.groups as_it_was name setting (λ r is. resource_with name r (changed_resource setting r) is
      (resource_changed setting r (ap (λ (o : Option Resource). unknown_in_resource_set s name o (Ok setting)) (sym is) ∙ none)))

  same_group : (name : List ℕ) (g h : Group) → named s.groups.groups name ≡ Some g → SameGroup g h → Kept (with_group s.groups name h)
  same_group name g h is same = group_with name g h is (λ names. (
    subst (λ (l : List (List ℕ)). AllByRecursion (IsThere s.groups.groups) l) same.dependencies names.0,
    subst (λ (l : List Affine). AllByRecursion (λ a. IsThere s.groups.groups a.group) l) same.affinities names.1,
  ))

  same_resource : (name : List ℕ) (r q : Resource) → named s.groups.resources name ≡ Some r → SameResource r q → Kept (with_resource s.groups name q)
  same_resource name r q is same = resource_with name r q is (λ names. (
    subst (λ (group : List ℕ). IsThere s.groups.groups group) same.group names.0,
    subst (λ (of_type : List ℕ). IsThere s.types of_type) same.resource_type names.1,
    (all same.strong names.2.0, all same.weak names.2.1, all same.offline_restart names.2.2),
  ))
    where
      all : {old new : List (List ℕ)} → old ≡ new → AllByRecursion (IsThere s.groups.resources) old → AllByRecursion (IsThere s.groups.resources) new
      all e h = subst (λ (l : List (List ℕ)). AllByRecursion (IsThere s.groups.resources) l) e h

  flag_set : (name : List ℕ) (flag : Flag) (on : Bool) → Kept (with_flag s.groups name flag on)
  flag_set name flag on = flagged Kept s.groups as_it_was same_group same_resource name flag on

  -- ---- addresses

  with_addresses : (addresses : List (List ℕ × Address)) → AllByRecursion (λ e. IsThere s.groups.groups e.1.group) addresses → IsDistinct bytes_eq (keys_of addresses)
      → NamesAreThere (record s { addresses = addresses })
  with_addresses addresses there once = record {
    groups = n.groups;
    resources = n.resources;
    addresses = there;
    types_once = n.types_once;
    groups_once = n.groups_once;
    resources_once = n.resources_once;
    addresses_once = once;
  }

  weights_set : (name : List ℕ) (weights : List Weight) (o : Option Address) → named s.addresses name ≡ o → NamesAreThere (record s { addresses = weighted s.addresses name weights o })
  weights_set name weights None is = with_addresses s.addresses n.addresses n.addresses_once
  weights_set name weights (Some a) is = with_addresses (with_named s.addresses name (record a { weights = weights }))
      (all_with (λ e. IsThere s.groups.groups e.1.group) s.addresses name a (record a { weights = weights }) is (λ own h. h) n.addresses)
      (once_with s.addresses name (record a { weights = weights }) n.addresses_once)

  -- ---- each update

  kept : (u : Update) → Fits s u → NamesAreThere (changed s u)
  kept (RegisterType name agent methods single failover) f = type_more name (record { agent = agent; methods = methods; single = single; failover = failover }) f.new
  kept (UnregisterType name) f = type_less name f.free
  kept (CreateGroup name nodes) f = group_more name nodes f.new
  kept (DeleteGroup name) f = group_less name f.free
  kept (SetGroup name property value) f = group_set name (group_setting_in s.groups.version property value) f.there
  kept (ChangeGroup name change) f = flag_set name (group_flag change) (sets_group change)
  kept (SwitchGroup name nodes) f = flag_set name Wanted true
  kept (CreateResource name of_group of_type) f =
      resource_more name of_group of_type
      (is_there (named s.groups.groups of_group) (Named of_group) (first_none (missing (named s.groups.groups of_group) (Named of_group)) (missing (type_of s.types of_type) (Named of_type)) f.there))
      (is_there (type_of s.types of_type) (Named of_type) (second_none (missing (named s.groups.groups of_group) (Named of_group)) (missing (type_of s.types of_type) (Named of_type)) f.there))
      f.new
  kept (DeleteResource name) f = resource_less name f.free
  kept (SetResource name property value) f = resource_set name (resource_setting_in property value) f.there
  kept (ChangeResource name change) f = flag_set name (resource_flag change) (sets_resource change)
  kept (Device d change) f = record { groups = n.groups; resources = n.resources; addresses = n.addresses; types_once = n.types_once; groups_once = n.groups_once; resources_once = n.resources_once; addresses_once = n.addresses_once }
  kept (NodeVote m has) f = record { groups = n.groups; resources = n.resources; addresses = n.addresses; types_once = n.types_once; groups_once = n.groups_once; resources_once = n.resources_once; addresses_once = n.addresses_once }
  kept (AddNode m) f = record { groups = n.groups; resources = n.resources; addresses = n.addresses; types_once = n.types_once; groups_once = n.groups_once; resources_once = n.resources_once; addresses_once = n.addresses_once }
  kept (RemoveNode m) f = record { groups = n.groups; resources = n.resources; addresses = n.addresses; types_once = n.types_once; groups_once = n.groups_once; resources_once = n.resources_once; addresses_once = n.addresses_once }
  kept (CreateLimit m limit soft hard) f = record { groups = n.groups; resources = n.resources; addresses = n.addresses; types_once = n.types_once; groups_once = n.groups_once; resources_once = n.resources_once; addresses_once = n.addresses_once }
  kept (DeleteLimit m limit) f = record { groups = n.groups; resources = n.resources; addresses = n.addresses; types_once = n.types_once; groups_once = n.groups_once; resources_once = n.resources_once; addresses_once = n.addresses_once }
  kept (CreateAddress name of_group policy) f =
      with_addresses (s.addresses ++ (name, new_address of_group policy) ∷ []) (both _ _ _ n.addresses (is_there (named s.groups.groups of_group) (Named of_group) f.there, tt))
      (once_more s.addresses name (new_address of_group policy) n.addresses_once f.new)
  kept (DeleteAddress name) f = with_addresses (without s.addresses name) (all_left _ s.addresses name n.addresses) (once_left s.addresses name n.addresses_once)
  kept (SetWeights name weights) f = weights_set name weights (named s.addresses name) refl

pub names_are_kept : (s : ConfigState) (u : Update) → NamesAreThere s → refusal_of s u ≡ None → NamesAreThere (changed s u)
names_are_kept s u n none = kept s n u (fits s u none)
