-- The small steps of each step: each order is of the membership of its president, and is carried out in it.
use Rattle.cl_base.specs.declared.method.Outcome.{Outcome}
use Rattle.node_model.specs.declared.cluster.Cluster.{Cluster}
use Rattle.node_model.specs.declared.input.Input.{Input}
use Rattle.node_model.specs.declared.input.Input.TheVariants.{Boot}
use Rattle.node_model.specs.declared.node.Node.{Node}
use Rattle.node_model.specs.declared.node.Node.TheVariants.{Down, Up}
use Rattle.node_model.specs.declared.node.UpNode.{UpNode}
use Rattle.refinement.specs.Courses.{Course, Reply, under}
use Rattle.refinement.specs.Courses.Reply.{Done, Lost_new, Lost_old}
use Rattle.refinement.specs.Courses.Course.{Acts, Falls, Keeps, Stops}
use Rattle.refinement.specs.Cuts as cuts
use Rattle.refinement.specs.Cuts.{balanced}
use Rattle.std.specs.Prelude.{ℕ, List, [], ◌∷◌}
use Rattle.refinement.specs.Doings.{acted, changed, site}
use Rattle.cmm_member.specs.Records.{NodeRecord}
use Rattle.run_packets.specs.replies.Orders.{AllOrders, GoesOrders}
use Rattle.run_packets.proofs.replies.Courses.{course_at_so}

-- Under all replies of the disk.

pub under_of : (c : Cluster) (me : ℕ) (replies : List Reply) (kept : NodeRecord) (x : UpNode) (k : Course) → GoesOrders c me x k → AllOrders c me (site (Up x) kept) (under replies k)
under_of c me replies kept x Stops h = tt
under_of c me replies kept x (Acts a rest) h = (h.0, under_of c me replies kept (acted c me x a) rest h.1)
under_of c me [] kept x (Keeps change rest) h = (tt, tt)
under_of c me (Done ∷ replies) kept x (Keeps change rest) h = (h.0, under_of c me replies _ (changed c me x change) rest h.1)
under_of c me (Lost_new why ∷ replies) kept x (Keeps change rest) h = (tt, tt)
under_of c me (Lost_old why ∷ replies) kept x (Keeps change rest) h = (tt, tt)
under_of c me replies kept x (Falls why) h = (tt, tt)

boot_of : (c : Cluster) (me : ℕ) (replies : List Reply) (kept : NodeRecord) → AllOrders c me (site Down kept) (cuts.boot_doings replies)
boot_of c me [] kept = (tt, (tt, tt))
boot_of c me (Done ∷ replies) kept = (tt, tt)
boot_of c me (Lost_new why ∷ replies) kept = (tt, (tt, tt))
boot_of c me (Lost_old why ∷ replies) kept = (tt, (tt, tt))

pub doings_of : (c : Cluster) (me now : ℕ) (ends : Outcome) (replies : List Reply) (i : Input) (kept : NodeRecord) (node : Node)
    → AllOrders c me (site node kept) (cuts.doings c me now ends replies i node)
doings_of c me now ends replies i kept (Up x) = under_of c me replies kept x (cuts.course_at c me now ends x i) (course_at_so c me now ends x i)
doings_of c me now ends replies Boot kept Down = boot_of c me replies kept
doings_of c me now ends replies _ kept Down = tt
