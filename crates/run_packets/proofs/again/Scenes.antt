-- A step of a node leaves the last Request of each member as old as the lines tell, or answered, where a packet number is left.
use Rattle.std.specs.Prelude.{ℕ, ◌≢◌, ◌≤◌, ◌^◌, List, [], ◌∷◌, None}
use Rattle.std.proofs.Common.{refl, sym, subst, ◌∙◌}
use Rattle.cl_base.specs.declared.method.Outcome as method
use Rattle.cmm_attempt.proofs.Basics.{same_number}
use Rattle.cmm_member.specs.Records.{NodeRecord}
use Rattle.history.specs.Moment.{Moment}
use Rattle.node_model.specs.Steps.{Outcome, at_second, stepped}
use Rattle.node_model.specs.Ticks.{later, ticked_output}
use Rattle.node_model.specs.declared.cluster.Cluster.{Cluster}
use Rattle.node_model.specs.declared.input.Input.{Input}
use Rattle.node_model.specs.declared.input.Input.TheVariants as input
use Rattle.node_model.specs.declared.node.Node.{Node}
use Rattle.node_model.specs.declared.node.Node.TheVariants.{Down, Up}
use Rattle.node_model.specs.declared.node.UpNode.{UpNode}
use Rattle.node_model.specs.declared.output.Output.{Output}
use Rattle.node_model.specs.declared.output.Output.TheVariants.{Sends, Tells}
use Rattle.record_disk.specs.Disks.{DiskState}
use Rattle.refinement.proofs.Disks.{disks_keep_rules}
use Rattle.refinement.proofs.Facts.{step_may}
use Rattle.refinement.proofs.Handlers.{delivered_by}
use Rattle.refinement.proofs.Replies.{steps_are_cut}
use Rattle.refinement.specs.Courses.{Reply, under}
use Rattle.refinement.specs.Cuts.{doings}
use Rattle.refinement.specs.Doings.{Doing, Site, after_all, given_all, site}
use Rattle.refinement.specs.Guards.{MayAll}
use Rattle.refinement.specs.Runs.{Nodes, moved}
use Rattle.refinement.specs.Runs.Move.{Takes as Takes_in}
use Rattle.refinement.specs.Steps.{IsCut, disk_rules}
use Rattle.refinement.specs.Ties.{Known}
use Rattle.run_history.proofs.Courses.{doings_so}
use Rattle.run_history.proofs.Idle.{passing_append, passing_nodes}
use Rattle.run_history.specs.Happenings.{given_by, taking}
use Rattle.run_history.specs.Marks.{AllSo as AllMinor}
use Rattle.run_history.specs.Scenes.{Scene, passing}
use Rattle.run_messages.specs.Outputs.{AreGood, NoPacket}
use Rattle.run_packets.proofs.prepares.Numbers.{left_before, passing_next}
use Rattle.run_packets.proofs.repeats.Courses.{NoTickAt, tick_rest}
use Rattle.run_packets.proofs.repeats.Scenes.{Ready, given_own, put_all}
use Rattle.run_packets.proofs.repeats.Ticking.{with_tick}
use Rattle.run_packets.specs.prepares.Events.{IsLeft}
use Rattle.run_packets.specs.prepares.Proposals.{AreSo, IsSo}
use Rattle.status_report.specs.declared.entry.Entry.{Entry}
use Rattle.status_report.specs.declared.entry.Entry.TheVariants as entry
use Rattle.status_report.specs.declared.node_entry.NodeEntry.TheVariants as note
use Rattle.run_packets.specs.again.Ages.{NodeHeard, NodeIn, current}
use Rattle.run_packets.specs.again.Asking.{heard_of}
use Rattle.run_packets.proofs.again.Courses.{tick_so}
use Rattle.run_packets.proofs.again.Doings.{all_kept}
use Rattle.run_packets.proofs.again.Lines.{AreEven, EvenLine, Leaves, passing_leaves}
use Rattle.run_packets.proofs.again.Seats.{none_heard, seat_leaves}
use Rattle.run_packets.proofs.again.Ticking.{tick_in}
use Rattle.run_packets.proofs.again.Under.{doings_again, under_again}

-- ---- other nodes

line_elsewhere : (k n : ℕ) (e : Entry) (os : List Output) → k ≢ n → NoPacket e → IsSo [] n (Tells e) os → EvenLine k e
line_elsewhere k n (entry.Node m note.Ticked) os other good so = λ is. other (sym is ∙ same_number m n so)
line_elsewhere k n (entry.Node m (note.Member e)) os other good so = λ is. other (sym is ∙ same_number m n so)
line_elsewhere k n (entry.Packet e) os other good so = absurd good
line_elsewhere k n _ os other good so = tt

even_elsewhere : (k n : ℕ) (os : List Output) → k ≢ n → AreGood n os → AreSo [] n os → AreEven k n os
even_elsewhere k n [] other good so = tt
even_elsewhere k n (Tells e ∷ os) other good so = (line_elsewhere k n e os other good.0 so.0, even_elsewhere k n os other good.1 so.1)
even_elsewhere k n (Sends to b ∷ os) other good so = (λ is. absurd (other (sym is)), even_elsewhere k n os other good.1 so.1)

pub node_leaves : (n : ℕ) (ms after : List Moment) (node : Node) → Leaves n ms after → NodeIn n ms node → NodeIn n after node
node_leaves n ms after Down l h = tt
node_leaves n ms after (Up x) l h = seat_leaves n ms after l x.requests x.presidency x.seat h

-- ---- a step

tick_settled : (c : Cluster) (n now : ℕ) (ends : method.Outcome) (replies : List Reply) (x : UpNode) (kept : NodeRecord) (s : Scene)
    → (let ds : List Doing = doings c n now ends replies input.Tick (Up x) in
    MayAll c n None (site (Up x) kept) ds → AllMinor ds → IsLeft (passing n (given_all c n (site (Up x) kept) ds) s).links.next → NodeIn n s.moments (Up x)
    → NodeIn n (passing n (given_all c n (site (Up x) kept) ds) s).moments (after_all c n (site (Up x) kept) ds).node)
tick_settled c n now ends replies x kept s may minor left h =
    let y : UpNode = at_second now x in
    let z : UpNode = later c y in
    let ds : List Doing = under replies (tick_rest c n ends y) in
    let more : List Output = ticked_output c y z in
    let rest : List Output = given_all c n (site (Up z) kept) ds in
    let u : Scene = passing n (with_tick n more) s in
    let last : IsLeft (passing n rest u).links.next = subst (λ (t : Scene). IsLeft t.links.next) (passing_append n (with_tick n more) rest s) left in
    let here : IsLeft u.links.next = left_before u.links.next (passing n rest u).links.next (2 ^ 63) (passing_next n rest u) last in
    subst (λ (t : Scene). NodeIn n t.moments (after_all c n (site (Up z) kept) ds).node) (sym (passing_append n (with_tick n more) rest s))
    (all_kept c n None None ds (site (Up z) kept) u may.1.1 (under_again c n None replies kept z (tick_rest c n ends y) (tick_so c n None ends y refl)) minor.1.1
    (tick_in c n y s here h, none_heard None n (current n u.moments) z.seat refl))

all_settled : (c : Cluster) (n now : ℕ) (ends : method.Outcome) (i : Input) (replies : List Reply) (node : Node) (kept : NodeRecord) (s : Scene)
    → (let ds : List Doing = doings c n now ends replies i node in
    MayAll c n (delivered_by i) (site node kept) ds → NoTickAt i node → NodeHeard (heard_of i) n s.moments node → NodeIn n s.moments node
    → NodeIn n (passing n (given_all c n (site node kept) ds) s).moments (after_all c n (site node kept) ds).node)
all_settled c n now ends i replies node kept s may still heard h =
    all_kept c n (heard_of i) (delivered_by i) (doings c n now ends replies i node) (site node kept) s may (doings_again c n now ends replies i kept node still) (doings_so c n now ends replies i node) (h, heard)

step_settled : (c : Cluster) (n now : ℕ) (ends : method.Outcome) (i : Input) (replies : List Reply) (node : Node) (kept : NodeRecord) (s : Scene)
    → (let ds : List Doing = doings c n now ends replies i node in
    MayAll c n (delivered_by i) (site node kept) ds → IsLeft (passing n (given_all c n (site node kept) ds) s).links.next → NodeHeard (heard_of i) n s.moments node → NodeIn n s.moments node
    → NodeIn n (passing n (given_all c n (site node kept) ds) s).moments (after_all c n (site node kept) ds).node)
step_settled c n now ends input.Tick replies (Up x) kept s may left heard h = tick_settled c n now ends replies x kept s may (doings_so c n now ends replies input.Tick (Up x)) left h
step_settled c n now ends i replies Down kept s may left heard h = all_settled c n now ends i replies Down kept s may tt heard h
step_settled c n now ends i replies (Up x) kept s may left heard h = all_settled c n now ends i replies (Up x) kept s may tt heard h

-- ---- scenes

abbrev pub Held : Scene → Type 0
Held s = (n : ℕ) → NodeIn n s.moments (s.nodes.node n)

-- .. where a packet number is left
abbrev pub HeldIf : Scene → Type 0
HeldIf s = IsLeft s.links.next → Held s

pub taking_held : (c : Cluster) (s : Scene) (n now : ℕ) (ends : method.Outcome) (i : Input) → n ≤ 32 → (r : Ready c s) → Known r.machine (delivered_by i) → AreGood n (given_by c n now ends i s.nodes)
    → NodeHeard (heard_of i) n s.moments (s.nodes.node n) → HeldIf s → HeldIf (taking c n now ends i s)
taking_held c s n now ends i low r known good heard h left =
    let o : Outcome DiskState = stepped disk_rules c n now ends (s.nodes.node n) (s.nodes.disk n) i in
    let cut : IsCut disk_rules c n now ends (s.nodes.node n) (s.nodes.disk n) i [] o = steps_are_cut disk_rules disks_keep_rules c n now ends (s.nodes.node n) (s.nodes.disk n) i in
    let kept : NodeRecord = (s.nodes.disk n).kept in
    let x : Site = site (s.nodes.node n) kept in
    let ds : List Doing = doings c n now ends cut.replies i (s.nodes.node n) in
    let u : Scene = record s { nodes = moved c s.nodes (Takes_in n now ends i) } in
    let may : MayAll c n (delivered_by i) x ds = step_may c r.machine n now ends (s.nodes.node n) kept i cut.replies low r.fits r.holds (r.stands n).tied (r.stands n).joins in
    let was : Held s = h (left_before s.links.next (passing n o.given u).links.next (2 ^ 63) (passing_next n o.given u) left) in
    let all : NodeIn n (passing n (given_all c n x ds) u).moments (after_all c n x ds).node =
    step_settled c n now ends i cut.replies (s.nodes.node n) kept u may (subst (λ os. IsLeft (passing n os u).links.next) (sym cut.comes.given) left) heard (was n) in
    let own : AreSo [] n o.given = subst (AreSo [] n) cut.comes.given (given_own c r.machine n now ends i cut.replies (s.nodes.node n) kept r.fits r.holds known (r.stands n).tied may) in
    let settled : NodeIn n (passing n o.given u).moments o.after =
    subst (λ os. NodeIn n (passing n os u).moments o.after) cut.comes.given (subst (λ (z : Site). NodeIn n (passing n (given_all c n x ds) u).moments z.node) cut.comes.left all) in
    subst (λ (w : Nodes). (k : ℕ) → NodeIn k (passing n o.given u).moments (w.node k)) (sym (passing_nodes n o.given u))
    (put_all (λ k z. NodeIn k (passing n o.given u).moments z) s.nodes.node n o.after settled
    (λ k ne. node_leaves k s.moments (passing n o.given u).moments (s.nodes.node k) (passing_leaves k n o.given u (even_elsewhere k n o.given ne good own)) (was k)))
