-- A committed update is taken up.
use Rattle.std.proofs.Common.{◌≡◌, List, ℕ, Some, refl, ap, sym, ◌∙◌}
use Rattle.std.specs.Option.{option_map}
use Rattle.ccr_tables.specs.State.{ConfigState}
use Rattle.node_model.specs.declared.cluster.Cluster.{Cluster}
use Rattle.node_model.specs.declared.node.UpNode.{UpNode}
use Rattle.node_model.specs.declared.presidency.Presidency.{Presidency}
use Rattle.node_model.specs.Configurations.{in_force}
use Rattle.node_presidents.specs.Presidents.{taken_under, taking_up}

pub takes_up : (c : Cluster) (x : UpNode) (text : List ℕ) (p q : Presidency) (s : ConfigState) → x.presidency ≡ Some p → s ≡ in_force c x → q ≡ taken_under s c text p
    → record x { presidency = Some q } ≡ taking_up c x text
unfolding taking_up
takes_up c x text p q s is now made =
    ap (λ found. record x { presidency = found })
    (ap (λ r. Some r) (made ∙ ap (λ t. taken_under t c text p) now) ∙ sym (ap (λ found. option_map (taken_under (in_force c x) c text) found) is))

-- to take it up leaves all but the presidency
pub taken_presidency : (c : Cluster) (x : UpNode) (text : List ℕ) → (taking_up c x text).presidency ≡ option_map (taken_under (in_force c x) c text) x.presidency
unfolding taking_up
taken_presidency c x text = refl
