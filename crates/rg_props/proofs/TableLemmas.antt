-- A group or a resource that is looked up and written in its place.
use Rattle.std.proofs.Common.{◌≡◌, ℕ, List, Option, Some, None, refl, sym, ap, ◌∙◌}
use Rattle.std.specs.Map.{lookup, set_value}
use Rattle.cl_base.specs.contracts.name.NamePartialEq.TheImpl.{eq-value}
use Rattle.cl_base.proofs.NameLemmas.{name_found}
use Rattle.rg_props.specs.declared.group.Group.{Group}
use Rattle.rg_props.specs.declared.group.Resource.{Resource}
use Rattle.rg_props.specs.Lookups.{named, with_group, with_resource}
use Rattle.rg_props.specs.Table.{GroupTable}
use Rattle.rg_props.proofs.NameLemmas.{name_set}

module _ (t : GroupTable) (name : List ℕ) where
  pub group_written : (made : Option Group → GroupTable) (old new : Group) (es : List (List ℕ × Group)) → Some old ≡ lookup (eq-value.it name) t.groups
      → es ≡ set_value (eq-value.it name) t.groups new → with_group t name new ≡ made (Some old) → record t { groups = es } ≡ made (named t.groups name)
  group_written made old new es found written is =
      ap (λ (es : List (List ℕ × Group)). let u : GroupTable = record t { groups = es } in u) (written ∙ name_set name t.groups new) ∙ is ∙ ap made (found ∙ name_found name t.groups)

  pub resource_written : (made : Option Resource → GroupTable) (old new : Resource) (es : List (List ℕ × Resource)) → Some old ≡ lookup (eq-value.it name) t.resources
      → es ≡ set_value (eq-value.it name) t.resources new → with_resource t name new ≡ made (Some old) → record t { resources = es } ≡ made (named t.resources name)
  resource_written made old new es found written is =
      ap (λ (es : List (List ℕ × Resource)). let u : GroupTable = record t { resources = es } in u) (written ∙ name_set name t.resources new) ∙ is ∙ ap made (found ∙ name_found name t.resources)

  -- where there is none, nothing is written
  pub group_missing : (made : Option Group → GroupTable) (es : List (List ℕ × Group)) → None ≡ lookup (eq-value.it name) t.groups → es ≡ t.groups → t ≡ made None
      → record t { groups = es } ≡ made (named t.groups name)
  group_missing made es found same is =
      ap (λ (es : List (List ℕ × Group)). let u : GroupTable = record t { groups = es } in u) same ∙ is ∙ ap made (found ∙ name_found name t.groups)

  pub resource_missing : (made : Option Resource → GroupTable) (es : List (List ℕ × Resource)) → None ≡ lookup (eq-value.it name) t.resources → es ≡ t.resources → t ≡ made None
      → record t { resources = es } ≡ made (named t.resources name)
  resource_missing made es found same is =
      ap (λ (es : List (List ℕ × Resource)). let u : GroupTable = record t { resources = es } in u) same ∙ is ∙ ap made (found ∙ name_found name t.resources)
