-- A client's request is served under the configuration in force.
use Rattle.std.proofs.Common.{◌≡◌, ℕ, List, ◌++◌, Option, None, Some, Ok, ap, subst, sym, ◌∙◌}
use Rattle.std.proofs.lemmas.List.{append-nil}
use Rattle.ccr_tables.specs.State.{ConfigState}
use Rattle.ccr_tables.specs.declared.address.Address.{Address}
use Rattle.rg_props.specs.Lookups.{named}
use Rattle.node_model.specs.declared.cluster.Cluster.{Cluster}
use Rattle.node_model.specs.declared.node.UpNode.{UpNode}
use Rattle.node_model.specs.declared.output.Output.{Output}
use Rattle.node_model.specs.declared.presidency.Presidency.{Presidency}
use Rattle.node_model.specs.Addresses.{on_client, serving_at, serving_by}
use Rattle.node_model.specs.Configurations.{in_force}
use Rattle.node_model.specs.Plans.{Gives}
use Rattle.node_addresses.specs.Clients.{after_client, lines_for}

served_at : (x : UpNode) (p q : Presidency) (s : ConfigState) (name : List ℕ) (client port : ℕ) (found : Option Address) (given after : List Output)
    → x.presidency ≡ Some p → q ≡ after_client s p name client port found → after ≡ given ++ lines_for s p name client port found
    → Gives (serving_at s x p name client port found) given (Ok (record x { presidency = Some q })) after
unfolding after_client lines_for
served_at x p q s name client port None given after is now told =
    (ap (λ (k : Presidency). record x { presidency = Some k }) now ∙ ap (λ (o : Option Presidency). record x { presidency = o }) (sym is), told ∙ append-nil given)
served_at x p q s name client port (Some a) given after is now told = (ap (λ (k : Presidency). record x { presidency = Some k }) now, told)

pub served : (c : Cluster) (x : UpNode) (p q : Presidency) (s : ConfigState) (name : List ℕ) (client port : ℕ) (given after : List Output)
    → x.presidency ≡ Some p → s ≡ in_force c x → q ≡ after_client s p name client port (named s.addresses name)
    → after ≡ given ++ lines_for s p name client port (named s.addresses name)
    → Gives (on_client c x name client port) given (Ok (record x { presidency = Some q })) after
served c x p q s name client port given after is under now told =
    subst (λ (o : Option Presidency). Gives (serving_by c x name client port o) given (Ok (record x { presidency = Some q })) after) (sym is)
    (subst (λ (k : ConfigState). Gives (serving_at k x p name client port (named k.addresses name)) given (Ok (record x { presidency = Some q })) after) under
    (served_at x p q s name client port (named s.addresses name) given after is now told))
