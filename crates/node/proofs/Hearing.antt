-- A heartbeat that is heard is the node's step.
use Rattle.std.specs.Prelude.{ℕ, ◌≡◌, Bool, true, List, [], Ok}
use Rattle.std.proofs.Common.{subst, sym}
use Rattle.cl_base.specs.declared.method.Outcome as method
use Rattle.node_model.specs.declared.cluster.Cluster.{Cluster}
use Rattle.node_model.specs.declared.input.Input.{Input}
use Rattle.node_model.specs.declared.input.Input.TheVariants.{Packet}
use Rattle.node_model.specs.declared.node.Node.{Node}
use Rattle.node_model.specs.declared.node.Node.TheVariants as node
use Rattle.node_model.specs.declared.output.Output.{Output}
use Rattle.node_model.specs.Members.{on_packet}
use Rattle.node_model.specs.Steps.{DiskRules, Outcome}
use Rattle.node_model.proofs.Plans.{done_is, gives_follows}
use Rattle.wire.specs.declared.message.Message.{Message}
use Rattle.node.specs.Due.{Hears, moved}

abbrev left : {K : Type 0} → Node → List Output → K → Outcome K
left after told disk = record { after = after; given = told; disk = disk }

of_empty : {K : Type 0} → (rules : DiskRules K) (c : Cluster) (me : ℕ) (outcome : method.Outcome) (n after : Node) (from : ℕ) (m : Message) (told : List Output) (disk : K)
    → Hears me n from m [] true after told → left after told disk ≡ moved rules c me outcome n disk (Packet from m)
of_empty rules c me outcome node.Down after from m told disk h = absurd (cc)
of_empty rules c me outcome (node.Up x) node.Down from m told disk h = absurd h
of_empty rules c me outcome (node.Up x) (node.Up y) from m told disk h =
    sym (done_is rules.saving me (on_packet c me outcome x from m) [] told disk disk y (gives_follows rules.saving (on_packet c me outcome x from m) [] told (Ok y) disk (h c outcome)))

pub heard_is : {K : Type 0} → (rules : DiskRules K) (c : Cluster) (me : ℕ) (outcome : method.Outcome) (n after : Node) (input : Input) (from : ℕ) (m : Message) (done : Bool) (given told : List Output) (disk : K)
    → input ≡ Packet from m → given ≡ [] → done ≡ true → Hears me n from m given done after told → left after told disk ≡ moved rules c me outcome n disk input
heard_is rules c me outcome n after input from m done given told disk at none is h =
    subst (λ (i : Input). left after told disk ≡ moved rules c me outcome n disk i) (sym at)
    (of_empty rules c me outcome n after from m told disk (subst (λ (g : List Output). Hears me n from m g true after told) none (subst (λ (b : Bool). Hears me n from m given b after told) is h)))
