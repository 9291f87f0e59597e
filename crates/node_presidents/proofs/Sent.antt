-- One message to each node of a set.
use Rattle.std.specs.Prelude.{ℕ, ◌≡◌, List, ◌++◌, map, Result, OnOk}
use Rattle.std.proofs.Common.{subst}
use Rattle.cl_base.specs.Limits.{most_nodes}
use Rattle.cl_base.specs.Numbers.{numbers_to}
use Rattle.wire.specs.declared.message.Body.{Body}
use Rattle.node_model.specs.declared.output.Output.{Output}
use Rattle.node_model.specs.declared.output.Output.TheVariants.{Sends}
use Rattle.node_model.specs.Presidents.{sent_to}

pub sent_to_each : {T E : Type 0} → (b : Body) (result : Result T E) (given after : List Output) (listed : List ℕ) (receivers : ℕ) → listed ≡ numbers_to receivers most_nodes
    → OnOk result (after ≡ given ++ map (λ n. Sends n b) listed) → OnOk result (after ≡ given ++ sent_to receivers b)
unfolding sent_to
sent_to_each b result given after listed receivers is h = subst (λ ns. OnOk result (after ≡ given ++ map (λ n. Sends n b) ns)) is h
