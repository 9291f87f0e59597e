-- A node at its place takes a step.
use Rattle.std.proofs.Common.{◌≡◌, ℕ, ◌-◌, ◌<◌, List, length, get_or, slice_set, refl, sym, ap, ◌∙◌}
use Rattle.std.proofs.lemmas.Option.{slice_get_read}
use Rattle.cl_base.specs.declared.method.Outcome as method
use Rattle.record_disk.specs.Disks.{DiskState}
use Rattle.node_model.specs.declared.cluster.Cluster.{Cluster}
use Rattle.node_model.specs.declared.input.Input.{Input}
use Rattle.node_model.specs.declared.node.Node.{Node}
use Rattle.node_model.specs.declared.output.Output.{Output}
use Rattle.node_model.specs.Steps.{Outcome, stepped}
use Rattle.world_model.specs.Sends.{Stepping, rules, stepped_to, stepping}

pub step_done : (c : Cluster) (me now : ℕ) (ended : method.Outcome) (i : Input) (nodes : List Node) (disks : List DiskState) (node after : Node) (disk left : DiskState) (given : List Output) (n : ℕ) → n ≡ me
    → n - 1 < length nodes → n - 1 < length disks → node ≡ get_or nodes (n - 1) node → disk ≡ get_or disks (n - 1) disk
    → (let o : Outcome DiskState = record { after = after; given = given; disk = left } in o ≡ stepped rules c me now ended node disk i)
    → (let s : Stepping = record { nodes = slice_set nodes (n - 1) after; disks = slice_set disks (n - 1) left; given = given } in s ≡ stepping c me now ended i nodes disks)
step_done c me now ended i nodes disks node after disk left given n at_me low deep at kept is =
    rw (sym at_me) (rw (slice_get_read nodes (length nodes) (n - 1) node refl low at, slice_get_read disks (length disks) (n - 1) disk refl deep kept) (
    ap (λ (o : Outcome DiskState). stepped_to n nodes disks o) (is ∙ ap (λ (m : ℕ). stepped rules c m now ended node disk i) (sym at_me))))
