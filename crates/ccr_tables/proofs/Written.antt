-- A named thing that is looked up and written in its place.
use Rattle.std.proofs.Common.{◌≡◌, ℕ, List, Option, Some, None, ap, ◌∙◌}
use Rattle.std.specs.Map.{lookup, set_value}
use Rattle.cl_base.specs.contracts.name.NamePartialEq.TheImpl.{eq-value}
use Rattle.cl_base.proofs.NameLemmas.{name_found}
use Rattle.rg_props.specs.Lookups.{named, with_named}
use Rattle.rg_props.proofs.NameLemmas.{name_set}

module _ {X : Type 0} (name : List ℕ) (things : List (List ℕ × X)) (made : Option X → List (List ℕ × X)) (es : List (List ℕ × X)) where
  pub written : (old new : X) → Some old ≡ lookup (eq-value.it name) things → es ≡ set_value (eq-value.it name) things new → with_named things name new ≡ made (Some old)
      → es ≡ made (named things name)
  written old new found is same = is ∙ name_set name things new ∙ same ∙ ap made (found ∙ name_found name things)

  -- where there is none, nothing is written
  pub unwritten : None ≡ lookup (eq-value.it name) things → es ≡ things → things ≡ made None → es ≡ made (named things name)
  unwritten found is same = is ∙ same ∙ ap made (found ∙ name_found name things)
