-- A step of a node keeps what is known of each: in a session of another's it has installed exactly what came.
use Rattle.std.specs.Prelude.{ℕ, ◌<◌, ◌≡◌, ◌≢◌, Bool, List, [], ◌∷◌, Option, None, Some}
use Rattle.std.proofs.Common.{arith, refl, sym, subst, ◌∙◌}
use Rattle.cl_base.specs.declared.method.Outcome as method
use Rattle.cmm_attempt.proofs.Basics.{false_true}
use Rattle.cmm_member.specs.Records.{NodeRecord}
use Rattle.history.specs.Moment.{Moment, Told}
use Rattle.membership_machine.specs.State.{Memberships}
use Rattle.node_model.specs.Clusters.{first_valid_of}
use Rattle.node_model.specs.Seats.{session_of, up_with}
use Rattle.node_model.specs.Steps.{Outcome, booted_with, stepped}
use Rattle.node_model.specs.declared.cluster.Cluster.{Cluster}
use Rattle.node_model.specs.declared.input.Input.{Input}
use Rattle.node_model.specs.declared.input.Input.TheVariants as input
use Rattle.node_model.specs.declared.node.Node.{Node}
use Rattle.node_model.specs.declared.node.Node.TheVariants.{Down, Up}
use Rattle.node_model.specs.declared.node.UpNode.{UpNode}
use Rattle.node_model.specs.declared.output.Output.{Output}
use Rattle.record_disk.specs.Disks.{DiskState, mounting}
use Rattle.record_disk.specs.declared.error.Loss.{Loss}
use Rattle.record_disk.specs.declared.error.Loss.TheVariants.{Fault, Stopped}
use Rattle.refinement.proofs.Disks.{disks_keep_rules}
use Rattle.refinement.proofs.EveryRun.{is_true}
use Rattle.refinement.proofs.Facts.{known_by, step_may}
use Rattle.refinement.proofs.Handlers.{delivered_by}
use Rattle.refinement.proofs.Replies.{steps_are_cut}
use Rattle.refinement.specs.Cuts.{course_at, doings}
use Rattle.refinement.specs.Doings.{Site, after_all, site}
use Rattle.refinement.specs.Facts.{JoinsIn}
use Rattle.refinement.specs.Guards.{MayAll}
use Rattle.refinement.specs.Runs.{Nodes, WasSent, moved}
use Rattle.refinement.specs.Runs.Move.{Takes as Takes_in}
use Rattle.refinement.specs.Steps.{IsCut, disk_rules}
use Rattle.refinement.specs.Ties.{Delivered, NodeTied}
use Rattle.run_history.proofs.Courses.{doings_so}
use Rattle.run_history.proofs.Idle.{passing_nodes}
use Rattle.run_history.proofs.Steps.{put_all}
use Rattle.run_history.specs.Happenings.{given_by, taking}
use Rattle.run_history.specs.Scenes.{Scene, passing}
use Rattle.run_history.specs.Stages.{Sized}
use Rattle.run_messages.specs.Outputs.{AreGood}
use Rattle.run_seizings.proofs.Steps.{Ground}
use Rattle.status_report.specs.declared.entry.Entry.TheVariants as entry
use Rattle.status_report.specs.declared.node_entry.NodeEntry.TheVariants as note
use Rattle.wire.specs.Spelling.{IsNode}
use Rattle.run_outcomes.proofs.installed.Changes.{HandCame}
use Rattle.run_outcomes.proofs.installed.Given.{course_boots}
use Rattle.run_outcomes.proofs.installed.Lines.{NoBoots, booted_come, passing_come}
use Rattle.run_outcomes.proofs.installed.Steps.{Sure, course_in, strictly}
use Rattle.run_outcomes.specs.reports.Installs.{InstallsIn, InstallsSo, has_come}
use Rattle.run_outcomes.specs.saves.Kept.{IsAt}

-- ---- of each node

abbrev pub SoAt : ℕ → List Moment → Node → Type 0
SoAt n moments node = IsAt (InstallsSo (λ e. has_come n e moments) n) node

abbrev pub AllInstalled : Scene → Type 0
AllInstalled s = (n : ℕ) → SoAt n s.moments (s.nodes.node n)

pub came_so : (n : ℕ) (f g : ℕ → Bool) (node : Node) → ((e : ℕ) → g e ≡ f e) → IsAt (InstallsSo f n) node → IsAt (InstallsSo g n) node
came_so n f g Down same k = tt
came_so n f g (Up x) same k = record {
  low = λ e is. k.low e (sym (same e) ∙ is);
  back = λ some other is. same (session_of x) ∙ k.back some other is;
  forth = λ some other is. k.forth some other (sym (same (session_of x)) ∙ is);
}

-- ---- a step

-- what comes to the node that is up, and what is known of it then
pub record Comes (came : ℕ → Bool) (n : ℕ) (told : Delivered) (x : UpNode) (after : Node) : Type 0 where
  pub hand : HandCame came told
  pub here : InstallsIn came n told x
  pub sure : IsAt (Sure told) after

abbrev pub Ready : Cluster → ℕ → ℕ → method.Outcome → Input → Scene → Node → Type 0
Ready c n now ends i s Down = Unit {0}
Ready c n now ends i s (Up x) = Comes (λ e. has_come n e s.moments) n (delivered_by i) x (stepped disk_rules c n now ends (Up x) (s.nodes.disk n) i).after

-- what it gives tells of no other node that it went up, and of itself only where it was down
record Went (n : ℕ) (t : Scene) (os : List Output) (after : Node) : Type 0 where
  others : (k : ℕ) → k ≢ n → NoBoots k os
  here : SoAt n (passing n os t).moments after

-- the scene with the node as it leaves it
abbrev left_by : Cluster → ℕ → ℕ → method.Outcome → Input → Scene → Scene
left_by c n now ends i s = record s { nodes = moved c s.nodes (Takes_in n now ends i) }

up_went : (c : Cluster) (n now : ℕ) (ends : method.Outcome) (i : Input) (s : Scene) (x : UpNode) → Sized c → Ground c s.nodes → IsNode n → WasSent s.nodes i → s.nodes.node n ≡ Up x
    → (let o : Outcome DiskState = stepped disk_rules c n now ends (Up x) (s.nodes.disk n) i in AreGood n o.given → Comes (λ e. has_come n e s.moments) n (delivered_by i) x o.after → Went n (left_by c n now ends i s) o.given o.after)
up_went c n now ends i s x sized b is was at good k =
    let M : Memberships = b.machine in
    let disk : NodeRecord = (s.nodes.disk n).kept in
    let o : Outcome DiskState = stepped disk_rules c n now ends (Up x) (s.nodes.disk n) i in
    let t : Scene = left_by c n now ends i s in
    let cut : IsCut disk_rules c n now ends (Up x) (s.nodes.disk n) i [] o = steps_are_cut disk_rules disks_keep_rules c n now ends (Up x) (s.nodes.disk n) i in
    let tied : NodeTied c M n disk (Up x) = subst (NodeTied c M n disk) at (b.stands n).tied in
    let may : MayAll c n (delivered_by i) (site (Up x) disk) (doings c n now ends cut.replies i (Up x)) =
    step_may c M n now ends (Up x) disk i cut.replies is.1 sized.fits.devices.attached b.holds tied (subst JoinsIn at (b.stands n).joins) in
    let came : ℕ → Bool = λ e. has_come n e s.moments in
    let after : Site = after_all c n (site (Up x) disk) (doings c n now ends cut.replies i (Up x)) in
    let ended : IsAt (InstallsIn came n (delivered_by i)) o.after =
    subst (λ (z : Site). IsAt (InstallsIn came n (delivered_by i)) z.node) cut.comes.left
    (course_in came c M n (delivered_by i) cut.replies disk x (course_at c n now ends x i) sized.fits.devices.attached b.holds (known_by M i (is_true M s.nodes i was b.sent)) tied may k.hand k.here) in
    let boots : (j : ℕ) → NoBoots j o.given =
    λ j. subst (NoBoots j) cut.comes.given (course_boots j c n cut.replies disk x (course_at c n now ends x i) (doings_so c n now ends cut.replies i (Up x))) in
    record {
      others = λ j ne. boots j;
      here = came_so n came (λ e. has_come n e (passing n o.given t).moments) o.after (λ e. passing_come n e n o.given t good (boots n)) (strictly came n (delivered_by i) o.after ended k.sure);
    }

none_below : 0 < 0 → ⊥
none_below h = omega (arith, h)

-- a node that boots is in no session, and nothing has come to it
booted_so : (n first : ℕ) (r : NodeRecord) (ms : List Moment) → SoAt n (Told (entry.Node n note.Up) ∷ ms) (Up (up_with n first r))
booted_so n first r ms = record {
  low = λ e is. absurd (false_true (sym (booted_come n e ms) ∙ is));
  back = λ some other is. absurd (none_below some);
  forth = λ some other is. absurd (none_below some);
}

boot_went : (n first : ℕ) (r : NodeRecord) (t : Scene) (disk : DiskState) (lost : Option Loss) → (let o : Outcome DiskState = booted_with n first r (record { after = disk; lost = lost }) in Went n t o.given o.after)
boot_went n first r t disk None = record { others = λ k ne. ((λ is. ne (sym is)), tt); here = booted_so n first r t.moments }
boot_went n first r t disk (Some Stopped) = record { others = λ k ne. ((λ is. ne (sym is)), (tt, tt)); here = tt }
boot_went n first r t disk (Some Fault) = record { others = λ k ne. ((λ is. ne (sym is)), (tt, tt)); here = tt }

node_went : (c : Cluster) (n now : ℕ) (ends : method.Outcome) (i : Input) (s : Scene) (node : Node) → Sized c → Ground c s.nodes → IsNode n → WasSent s.nodes i → s.nodes.node n ≡ node
    → (let o : Outcome DiskState = stepped disk_rules c n now ends node (s.nodes.disk n) i in AreGood n o.given → Ready c n now ends i s node → Went n (left_by c n now ends i s) o.given o.after)
node_went c n now ends i s (Up x) sized b is was at good k = up_went c n now ends i s x sized b is was at good k
node_went c n now ends input.Boot s Down sized b is was at good k =
    boot_went n (first_valid_of c n) (s.nodes.disk n).kept (left_by c n now ends input.Boot s) (mounting (s.nodes.disk n)).after (mounting (s.nodes.disk n)).lost
node_went c n now ends _ s Down sized b is was at good k = record { others = λ j ne. tt; here = tt }

pub taking_installed : (c : Cluster) (n now : ℕ) (ends : method.Outcome) (i : Input) (s : Scene) → Sized c → Ground c s.nodes → IsNode n → WasSent s.nodes i → AreGood n (given_by c n now ends i s.nodes)
    → Ready c n now ends i s (s.nodes.node n) → ((k : ℕ) → k ≢ n → SoAt k s.moments (s.nodes.node k)) → AllInstalled (taking c n now ends i s)
taking_installed c n now ends i s sized b is was good ready others =
    let v : Nodes = s.nodes in
    let o : Outcome DiskState = stepped disk_rules c n now ends (v.node n) (v.disk n) i in
    let t : Scene = left_by c n now ends i s in
    let w : Went n t o.given o.after = node_went c n now ends i s (v.node n) sized b is was refl good ready in
    let z : Scene = passing n o.given t in
    subst (λ (y : Nodes). (k : ℕ) → SoAt k z.moments (y.node k)) (sym (passing_nodes n o.given t))
    (put_all (λ k node disk. SoAt k z.moments node) v n o.after o.disk w.here
    (λ k ne. came_so k (λ e. has_come k e s.moments) (λ e. has_come k e z.moments) (v.node k) (λ e. passing_come k e n o.given t good (w.others k ne)) (others k ne)))
