-- A name names something.
use Rattle.std.proofs.Common.{◌≡◌, ℕ, true, List, Ok, refl, ap, sym, ◌∙◌}
use Rattle.std.specs.Prelude.{is_some}
use Rattle.cl_base.specs.Names.{IsName}
use Rattle.rg_props.proofs.NameLemmas.{name_read}
use Rattle.node_groups.specs.Carrying.{names}

pub is_named : (text name : List ℕ) → text ≡ name → IsName name → names text ≡ true
is_named text name is form = ap names is ∙ ap is_some (sym (name_read {E = Unit {0}} name (Ok name) (refl, form)))
