-- The small steps of each step: its Requests are sent as they become the oldest, and the oldest stays until its Answer comes.
use Rattle.cl_base.specs.declared.method.Outcome.{Outcome}
use Rattle.node_model.specs.declared.cluster.Cluster.{Cluster}
use Rattle.node_model.specs.declared.input.Input.{Input}
use Rattle.node_model.specs.declared.input.Input.TheVariants.{Boot}
use Rattle.node_model.specs.declared.node.Node.{Node}
use Rattle.node_model.specs.declared.node.Node.TheVariants.{Down, Up}
use Rattle.node_model.specs.declared.node.UpNode.{UpNode}
use Rattle.refinement.specs.Courses.{Course, Reply, under}
use Rattle.refinement.specs.Courses.Reply.{Done, Lost_new, Lost_old}
use Rattle.refinement.specs.Courses.Course.{Acts, Falls, Keeps, Stops}
use Rattle.refinement.specs.Cuts as cuts
use Rattle.std.specs.Prelude.{ℕ, List, [], ◌∷◌, Option}
use Rattle.std.proofs.Common.{refl}
use Rattle.refinement.specs.Doings.{acted, changed, site}
use Rattle.cmm_member.specs.Records.{NodeRecord}
use Rattle.run_packets.specs.again.Asking.{AllAgain, GoesAgain, Heard, heard_of}
use Rattle.run_packets.proofs.again.Courses.{course_at_so}
use Rattle.run_packets.proofs.repeats.Courses.{NoTickAt}

-- Under all replies of the disk.

pub under_again : (c : Cluster) (me : ℕ) (heard : Option Heard) (replies : List Reply) (kept : NodeRecord) (x : UpNode) (k : Course) → GoesAgain c me heard x k → AllAgain c me heard (site (Up x) kept) (under replies k)
under_again c me heard replies kept x Stops h = tt
under_again c me heard replies kept x (Acts a rest) h = (h.0, under_again c me heard replies kept (acted c me x a) rest h.1)
under_again c me heard [] kept x (Keeps change rest) h = (tt, tt)
under_again c me heard (Done ∷ replies) kept x (Keeps change rest) h = (h.0, under_again c me heard replies _ (changed c me x change) rest h.1)
under_again c me heard (Lost_new why ∷ replies) kept x (Keeps change rest) h = (tt, tt)
under_again c me heard (Lost_old why ∷ replies) kept x (Keeps change rest) h = (tt, tt)
under_again c me heard replies kept x (Falls why) h = (tt, tt)

boot_again : (c : Cluster) (me : ℕ) (heard : Option Heard) (replies : List Reply) (kept : NodeRecord) → AllAgain c me heard (site Down kept) (cuts.boot_doings replies)
boot_again c me heard [] kept = (tt, (tt, tt))
boot_again c me heard (Done ∷ replies) kept = (tt, tt)
boot_again c me heard (Lost_new why ∷ replies) kept = (tt, (tt, tt))
boot_again c me heard (Lost_old why ∷ replies) kept = (tt, (tt, tt))

pub doings_again : (c : Cluster) (me now : ℕ) (ends : Outcome) (replies : List Reply) (i : Input) (kept : NodeRecord) (node : Node) → NoTickAt i node
    → AllAgain c me (heard_of i) (site node kept) (cuts.doings c me now ends replies i node)
doings_again c me now ends replies i kept (Up x) still =
    under_again c me (heard_of i) replies kept x (cuts.course_at c me now ends x i) (course_at_so c me (heard_of i) now ends x i still refl)
doings_again c me now ends replies Boot kept Down _ = boot_again c me (heard_of Boot) replies kept
doings_again c me now ends replies _ kept Down _ = tt
