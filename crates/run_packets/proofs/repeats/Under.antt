-- The small steps of each step: what is proposed keeps its age but for ticks, and its Prepares are sent as it is proposed and at each fourth tick.
use Rattle.cl_base.specs.declared.method.Outcome.{Outcome}
use Rattle.node_model.specs.declared.cluster.Cluster.{Cluster}
use Rattle.node_model.specs.declared.input.Input.{Input}
use Rattle.node_model.specs.declared.input.Input.TheVariants.{Boot}
use Rattle.node_model.specs.declared.node.Node.{Node}
use Rattle.node_model.specs.declared.node.Node.TheVariants.{Down, Up}
use Rattle.node_model.specs.declared.node.UpNode.{UpNode}
use Rattle.refinement.specs.Courses.{Course, Reply, under}
use Rattle.refinement.specs.Courses.Reply.{Done, Lost_new, Lost_old}
use Rattle.refinement.specs.Courses.Course.{Acts, Falls, Keeps, Stops}
use Rattle.refinement.specs.Cuts as cuts
use Rattle.refinement.specs.Cuts.{balanced}
use Rattle.std.specs.Prelude.{ℕ, Bool, List, [], ◌∷◌}
use Rattle.refinement.specs.Doings.{Change, acted, changed, site}
use Rattle.refinement.specs.Doings.Act.{Spreads}
use Rattle.refinement.specs.Doings.Change.{Proposes}
use Rattle.cmm_member.specs.Records.{NodeRecord}
use Rattle.run_packets.specs.prepares.Actors.{Follows, FollowsIn}
use Rattle.run_packets.specs.repeats.Ages.{AllAge, GoesAged}
use Rattle.run_packets.proofs.repeats.Courses.{NoTickAt, course_at_so}

-- the replies of the disk leave what follows a proposal
follows_under : (me : ℕ) (replies : List Reply) (x : UpNode) (change : Change) (k : Course) → Follows me x change k → FollowsIn me x change (under replies k)
follows_under me replies x (Proposes s p text) (Acts (Spreads receivers b) rest) h = h
follows_under me replies x (Proposes s p text) _ h = absurd h
follows_under me replies x _ k h = tt

-- Under all replies of the disk.

pub under_age : (c : Cluster) (me : ℕ) (again : Bool) (replies : List Reply) (kept : NodeRecord) (x : UpNode) (k : Course) → GoesAged c me again x k → AllAge c me again (site (Up x) kept) (under replies k)
under_age c me again replies kept x Stops h = tt
under_age c me again replies kept x (Acts a rest) h = (h.0, under_age c me again replies kept (acted c me x a) rest h.1)
under_age c me again [] kept x (Keeps change rest) h = (tt, tt)
under_age c me again (Done ∷ replies) kept x (Keeps change rest) h = (follows_under me replies x change rest h.0, under_age c me again replies _ (changed c me x change) rest h.1)
under_age c me again (Lost_new why ∷ replies) kept x (Keeps change rest) h = (tt, tt)
under_age c me again (Lost_old why ∷ replies) kept x (Keeps change rest) h = (tt, tt)
under_age c me again replies kept x (Falls why) h = (tt, tt)

boot_age : (c : Cluster) (me : ℕ) (again : Bool) (replies : List Reply) (kept : NodeRecord) → AllAge c me again (site Down kept) (cuts.boot_doings replies)
boot_age c me again [] kept = (tt, (tt, tt))
boot_age c me again (Done ∷ replies) kept = (tt, tt)
boot_age c me again (Lost_new why ∷ replies) kept = (tt, (tt, tt))
boot_age c me again (Lost_old why ∷ replies) kept = (tt, (tt, tt))

pub doings_age : (c : Cluster) (me now : ℕ) (again : Bool) (ends : Outcome) (replies : List Reply) (i : Input) (kept : NodeRecord) (node : Node) → NoTickAt i node
    → AllAge c me again (site node kept) (cuts.doings c me now ends replies i node)
doings_age c me now again ends replies i kept (Up x) still = under_age c me again replies kept x (cuts.course_at c me now ends x i) (course_at_so c me again now ends x i still)
doings_age c me now again ends replies Boot kept Down _ = boot_age c me again replies kept
doings_age c me now again ends replies _ kept Down _ = tt
