-- Heartbeats to the nodes of a set.
use Rattle.std.specs.Prelude.{ℕ, ◌≡◌, List, ◌++◌, map, Result, OnOk}
use Rattle.std.proofs.Common.{subst}
use Rattle.cl_base.specs.Limits.{most_nodes}
use Rattle.cl_base.specs.Numbers.{numbers_to}
use Rattle.node_model.specs.declared.node.UpNode.{UpNode}
use Rattle.node_model.specs.declared.output.Output.{Output}
use Rattle.node_model.specs.declared.output.Output.TheVariants.{Sends}
use Rattle.node_model.specs.Ticks.{heartbeat_of, heartbeats_to}

pub sent_to : {T E : Type 0} → (x : UpNode) (result : Result T E) (given after : List Output) (listed : List ℕ) (receivers set : ℕ) → listed ≡ numbers_to receivers most_nodes → receivers ≡ set
    → OnOk result (after ≡ given ++ map (λ n. Sends n (heartbeat_of x)) listed) → OnOk result (after ≡ given ++ heartbeats_to x set)
unfolding heartbeats_to
sent_to x result given after listed receivers set is same h =
    subst (λ s. OnOk result (after ≡ given ++ map (λ n. Sends n (heartbeat_of x)) (numbers_to s most_nodes))) same
    (subst (λ ns. OnOk result (after ≡ given ++ map (λ n. Sends n (heartbeat_of x)) ns)) is h)
