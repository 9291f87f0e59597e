-- The step of a node that stands at the second of the clock is the node's step.
use Rattle.std.proofs.Common.{◌≡◌, ℕ, Result, OnOk, refl, subst}
use Rattle.cl_base.specs.declared.method.Outcome as method
use Rattle.node_model.specs.declared.cluster.Cluster.{Cluster}
use Rattle.node_model.specs.declared.input.Input.{Input}
use Rattle.node_model.specs.declared.node.Node.{Node}
use Rattle.node_model.specs.declared.node.Node.TheVariants as node
use Rattle.node_model.specs.Steps.{DiskRules, Outcome, stepped}
use Rattle.node.specs.Due.{at_second_of, moved}

at_second_is : {K : Type 0} → (rules : DiskRules K) (c : Cluster) (me now : ℕ) (outcome : method.Outcome) (n : Node) (disk : K) (input : Input)
    → moved rules c me outcome (at_second_of now n) disk input ≡ stepped rules c me now outcome n disk input
at_second_is rules c me now outcome node.Down disk input = refl
at_second_is rules c me now outcome (node.Up x) disk input = refl

pub moved_is : {K T E : Type 0} → (rules : DiskRules K) (c : Cluster) (me now : ℕ) (outcome : method.Outcome) (n at : Node) (disk : K) (input : Input) (left : Outcome K) (result : Result T E)
    → at ≡ at_second_of now n → OnOk result (left ≡ moved rules c me outcome at disk input) → OnOk result (left ≡ stepped rules c me now outcome n disk input)
moved_is {K = K} rules c me now outcome n at disk input left result is moves =
    subst (λ (o : Outcome K). OnOk result (left ≡ o)) (at_second_is rules c me now outcome n disk input)
    (subst (λ (z : Node). OnOk result (left ≡ moved rules c me outcome z disk input)) is moves)
