-- Where a node saves what it proposes, the `propose` line stands before each save, in its own name.
use Rattle.std.specs.Prelude.{ℕ, ◌≡◌, ◌≤◌, ◌++◌, All, Bool, true, false, List, [], ◌∷◌, Some}
use Rattle.std.specs.List.{AllByRecursion}
use Rattle.std.proofs.Common.{refl, subst}
use Rattle.cl_base.specs.declared.method.Outcome as method
use Rattle.cmm_attempt.specs.Calls.{IsDevice}
use Rattle.cmm_member.specs.Nodes.{NodeState}
use Rattle.cmm_member.specs.Records.{NodeRecord}
use Rattle.history.specs.Setting.{coordinator}
use Rattle.machine_base.specs.Epochs as machine
use Rattle.membership_machine.specs.Invariant.{Holds}
use Rattle.membership_machine.specs.State.{Memberships}
use Rattle.node_model.specs.declared.cluster.Cluster.{Cluster}
use Rattle.node_model.specs.declared.input.Input.{Input}
use Rattle.node_model.specs.declared.node.Node.{Node}
use Rattle.node_model.specs.declared.node.Node.TheVariants.{Down, Up}
use Rattle.node_model.specs.declared.node.UpNode.{UpNode}
use Rattle.node_model.specs.declared.output.Output.{Output}
use Rattle.node_model.specs.declared.output.Output.TheVariants.{Sends, Tells}
use Rattle.node_model.specs.declared.presidency.Presidency.{Presidency}
use Rattle.node_model.specs.declared.seat.Seat.TheVariants.{Member}
use Rattle.node_model.specs.Steps.{stepped}
use Rattle.record_disk.specs.Disks.{DiskState}
use Rattle.request_queue.specs.Queue.{Queue}
use Rattle.refinement.specs.Courses.{Course, Reply, under}
use Rattle.refinement.specs.Courses.Course.{Acts, Falls, Keeps, Stops}
use Rattle.refinement.specs.Courses.Reply.{Done, Lost_new, Lost_old}
use Rattle.refinement.specs.Cuts.{course_at, doings}
use Rattle.refinement.specs.Doings.{Doing, Site, effect, given_all, gives, said_in, saved_in, site}
use Rattle.refinement.specs.Doings.Change.{Acks, Proposes}
use Rattle.refinement.specs.Doings.Doing.{Comes_up, Does, Forgets, Goes_down, Loses, Saves}
use Rattle.refinement.specs.Guards.{May, MayAll, MayChange, OfUp}
use Rattle.refinement.specs.Steps.{IsCut, disk_rules}
use Rattle.refinement.specs.Ties.{Delivered, GoesOn, Known, NodeTied, SiteTied, setting_of}
use Rattle.refinement.specs.Events.{of_doing}
use Rattle.refinement.specs.Whole.{IsTrue, Stands}
use Rattle.refinement.proofs.Acts.{does_one}
use Rattle.refinement.proofs.Disks.{disks_keep_rules}
use Rattle.refinement.proofs.Facts.{known_by, step_may}
use Rattle.refinement.proofs.Handlers.{delivered_by}
use Rattle.refinement.proofs.Presidents.{MemberTied, member_tied, presides_of}
use Rattle.refinement.proofs.Replies.{steps_are_cut}
use Rattle.refinement.proofs.Ties.{known_stays}
use Rattle.status_report.specs.declared.entry.Entry.{Entry}
use Rattle.status_report.specs.declared.entry.Entry.TheVariants as entry
use Rattle.status_report.specs.declared.node_entry.DownCause.{DownCause}
use Rattle.status_report.specs.declared.node_entry.DownCause.TheVariants as cause
use Rattle.status_report.specs.declared.node_entry.NodeEntry.TheVariants as note
use Rattle.status_report.specs.declared.update_entry.UpdateEntry.TheVariants as update
use Rattle.run_history.proofs.LineSteps.{doings_small}
use Rattle.run_history.proofs.Ordinary.{IsOwnFall}
use Rattle.run_history.proofs.Small.{AllSmall, IsSmall}
use Rattle.run_downs.proofs.Calm.{IsCalm, said_in_calm}
use Rattle.run_downs.proofs.Courses.{GoesFine}
use Rattle.run_downs.proofs.Proposing.{IsNoMake, SavesProposed}

-- ---- small steps

abbrev pub IsNoStopCause : DownCause → Type 0
IsNoStopCause cause.Stopped = ⊥
IsNoStopCause _ = Unit {0}

-- each save, done or lost, is that of a proposal or comes behind one
abbrev pub AllProposed : Bool → List Doing → Type 0
AllProposed told [] = Unit {0}
AllProposed told (Does a ∷ ds) = IsNoMake a × AllProposed told ds
AllProposed told (Saves (Proposes s p text) ∷ ds) = AllProposed true ds
AllProposed told (Saves (Acks s p q left text) ∷ ds) = (told ≡ true) × AllProposed told ds
AllProposed told (Saves _ ∷ ds) = ⊥
AllProposed told (Loses (Proposes s p text) why ∷ ds) = AllProposed true ds
AllProposed told (Loses (Acks s p q left text) why ∷ ds) = (told ≡ true) × AllProposed told ds
AllProposed told (Loses _ why ∷ ds) = ⊥
AllProposed told (Forgets (Proposes s p text) why ∷ ds) = AllProposed true ds
AllProposed told (Forgets (Acks s p q left text) why ∷ ds) = (told ≡ true) × AllProposed told ds
AllProposed told (Forgets _ why ∷ ds) = ⊥
AllProposed told (Goes_down why ∷ ds) = IsNoStopCause why × AllProposed told ds
AllProposed told (Comes_up ∷ ds) = AllProposed told ds

own_fall : (why : DownCause) → IsOwnFall why → IsNoStopCause why
own_fall cause.Stopped h = absurd h
own_fall _ h = tt

pub under_proposed : (t : Bool) (replies : List Reply) (k : Course) → SavesProposed t k → GoesFine true k → AllProposed t (under replies k)
under_proposed t replies Stops h fine = tt
under_proposed t replies (Acts a rest) h fine = (h.0, under_proposed t replies rest h.1 fine.1)
under_proposed t [] (Keeps (Proposes s p text) rest) h fine = tt
under_proposed t (Done ∷ replies) (Keeps (Proposes s p text) rest) h fine = under_proposed true replies rest h fine.1
under_proposed t (Lost_new why ∷ replies) (Keeps (Proposes s p text) rest) h fine = tt
under_proposed t (Lost_old why ∷ replies) (Keeps (Proposes s p text) rest) h fine = tt
under_proposed t [] (Keeps (Acks s p q left text) rest) h fine = (h.0, tt)
under_proposed t (Done ∷ replies) (Keeps (Acks s p q left text) rest) h fine = (h.0, under_proposed t replies rest h.1 fine.1)
under_proposed t (Lost_new why ∷ replies) (Keeps (Acks s p q left text) rest) h fine = (h.0, tt)
under_proposed t (Lost_old why ∷ replies) (Keeps (Acks s p q left text) rest) h fine = (h.0, tt)
under_proposed t replies (Keeps _ rest) h fine = absurd h
under_proposed t replies (Falls why) h fine = (own_fall why fine, tt)

-- ---- outputs

-- whether a proposal of its own stands among the lines, with this one
abbrev pub told_by : Bool → Entry → Bool
told_by t (entry.Update (update.Proposed e v words)) = true
told_by t _ = t

abbrev pub IsProposedLine : ℕ → Bool → Entry → Type 0
IsProposedLine n t (entry.Update (update.Proposed e v words)) = coordinator e ≡ n
IsProposedLine n t (entry.Node m (note.Down cause.Stopped)) = (m ≡ n) × (t ≡ true)
IsProposedLine n t _ = Unit {0}

abbrev pub AreProposed : ℕ → Bool → List Output → Type 0
AreProposed n t [] = Unit {0}
AreProposed n t (Tells e ∷ os) = IsProposedLine n t e × AreProposed n (told_by t e) os
AreProposed n t (Sends to b ∷ os) = AreProposed n t os

calm_line : (n : ℕ) (t : Bool) (e : Entry) → IsCalm (Tells e) → IsProposedLine n t e
calm_line n t (entry.Update (update.Proposed e v words)) h = absurd h
calm_line n t (entry.Node m (note.Down why)) h = absurd h
calm_line n t _ h = tt

calm_told : (t : Bool) (e : Entry) → IsCalm (Tells e) → t ≡ told_by t e
calm_told t (entry.Update (update.Proposed e v words)) h = absurd h
calm_told t _ h = refl

calm_then : (n : ℕ) (t : Bool) (os more : List Output) → AllByRecursion IsCalm os → AreProposed n t more → AreProposed n t (os ++ more)
calm_then n t [] more h k = k
calm_then n t (Tells e ∷ os) more h k = (calm_line n t e h.0, subst (λ b. AreProposed n b (os ++ more)) (calm_told t e h.0) (calm_then n t os more h.1 k))
calm_then n t (Sends to b ∷ os) more h k = calm_then n t os more h.1 k

-- a president proposes in its own name
own_session : (c : Cluster) (M : Memberships) (n : ℕ) (x : UpNode) (disk : NodeRecord) (s : NodeState) (p : Presidency) → NodeTied c M n disk (Up x) → x.presidency ≡ Some p → x.seat ≡ Member s
    → coordinator s.session ≡ n
unfolding machine.coordinator
own_session c M n x disk s p tied is seat =
    let m : MemberTied c M n x s = member_tied c M n x disk s tied seat in
    (presides_of M n x.presidency s p is m.president).own

proposal_own : (c : Cluster) (M : Memberships) (n : ℕ) (told : Delivered) (node : Node) (disk : NodeRecord) (s : NodeState) (p : Presidency) (text : List ℕ) → NodeTied c M n disk node
    → OfUp (λ y. MayChange c n told y (Proposes s p text)) node → coordinator s.session ≡ n
proposal_own c M n told Down disk s p text tied may = absurd may
proposal_own c M n told (Up x) disk s p text tied may = own_session c M n x disk s p tied may.0 may.1

gone_down : (n : ℕ) (t : Bool) (why : DownCause) (more : List Output) → t ≡ true → AreProposed n t more → AreProposed n t (Tells (entry.Node n (note.Down why)) ∷ more)
gone_down n t cause.Stopped more so h = ((refl, so), h)
gone_down n t _ more so h = (tt, h)

gone_otherwise : (n : ℕ) (t : Bool) (why : DownCause) (more : List Output) → IsNoStopCause why → AreProposed n t more → AreProposed n t (Tells (entry.Node n (note.Down why)) ∷ more)
gone_otherwise n t cause.Stopped more other h = absurd other
gone_otherwise n t _ more other h = (tt, h)

saved_proposal : (c : Cluster) (M : Memberships) (n : ℕ) (told : Delivered) (node : Node) (disk : NodeRecord) (t : Bool) (s : NodeState) (p : Presidency) (text : List ℕ) (more : List Output)
    → NodeTied c M n disk node → OfUp (λ y. MayChange c n told y (Proposes s p text)) node → AreProposed n true more → AreProposed n t (saved_in c n (Proposes s p text) node ++ more)
saved_proposal c M n told Down disk t s p text more tied may h = absurd may
saved_proposal c M n told (Up x) disk t s p text more tied may h = (own_session c M n x disk s p tied may.0 may.1, (tt, h))

saved_ack : (c : Cluster) (n : ℕ) (told : Delivered) (node : Node) (t : Bool) (s : NodeState) (p : Presidency) (q : Queue) (left : Presidency) (text : List ℕ) (more : List Output)
    → OfUp (λ y. MayChange c n told y (Acks s p q left text)) node → AreProposed n t more → AreProposed n t (saved_in c n (Acks s p q left text) node ++ more)
saved_ack c n told Down t s p q left text more may h = absurd may
saved_ack c n told (Up x) t s p q left text more may h = (tt, (tt, h))

-- one small step, and what follows
one_output : (c : Cluster) (M : Memberships) (n : ℕ) (told : Delivered) (x : Site) (d : Doing) (ds : List Doing) (t : Bool) (more : List Output) → SiteTied c M n x → May c n told x d → IsSmall d
    → AllProposed t (d ∷ ds) → ((u : Bool) → AllProposed u ds → AreProposed n u more) → AreProposed n t (gives c n x d ++ more)
one_output c M n told x (Does a) ds t more tied may small h rest = calm_then n t (said_in c n a x.node) more (said_in_calm c n a x.node h.0 small) (rest t h.1)
one_output c M n told x (Saves (Proposes s p text)) ds t more tied may small h rest = saved_proposal c M n told x.node x.disk t s p text more tied may (rest true h)
one_output c M n told x (Saves (Acks s p q left text)) ds t more tied may small h rest = saved_ack c n told x.node t s p q left text more may (rest t h.1)
one_output c M n told x (Saves _) ds t more tied may small h rest = absurd h
one_output c M n told x (Loses (Proposes s p text) why) ds t more tied may small h rest = (proposal_own c M n told x.node x.disk s p text tied may, gone_down n true why more refl (rest true h))
one_output c M n told x (Loses (Acks s p q left text) why) ds t more tied may small h rest = gone_down n t why more h.0 (rest t h.1)
one_output c M n told x (Loses _ why) ds t more tied may small h rest = absurd h
one_output c M n told x (Forgets (Proposes s p text) why) ds t more tied may small h rest = (proposal_own c M n told x.node x.disk s p text tied may, gone_down n true why more refl (rest true h))
one_output c M n told x (Forgets (Acks s p q left text) why) ds t more tied may small h rest = gone_down n t why more h.0 (rest t h.1)
one_output c M n told x (Forgets _ why) ds t more tied may small h rest = absurd h
one_output c M n told x (Goes_down why) ds t more tied may small h rest = gone_otherwise n t why more h.0 (rest t h.1)
one_output c M n told x Comes_up ds t more tied may small h rest = (tt, rest t h)

pub all_outputs : (c : Cluster) (M : Memberships) (n : ℕ) (told : Delivered) (x : Site) (ds : List Doing) (t : Bool) → All IsDevice c.attached → Holds (setting_of c) M → Known M told
    → SiteTied c M n x → MayAll c n told x ds → AllSmall ds → AllProposed t ds → AreProposed n t (given_all c n x ds)
all_outputs c M n told x [] t fits holds known tied may small h = tt
all_outputs c M n told x (d ∷ ds) t fits holds known tied may small h =
    let g : GoesOn c M n (effect c n x d) (gives c n x d) (of_doing n d) = does_one c M n told x d fits holds known tied may.0 in
    one_output c M n told x d ds t (given_all c n (effect c n x d) ds) tied may.0 small.0 h
    (λ u k. all_outputs c g.machine n told (effect c n x d) ds u fits g.holds (known_stays c M g.machine told holds g.grows known) g.tied may.1 small.1 k)

-- ---- a step

pub step_proposed : (c : Cluster) (M : Memberships) (n now : ℕ) (ends : method.Outcome) (i : Input) (x : UpNode) (disk : DiskState) → n ≤ 32 → All IsDevice c.attached → Holds (setting_of c) M → IsTrue M i
    → Stands c M n (Up x) disk.kept → SavesProposed false (course_at c n now ends x i) → GoesFine true (course_at c n now ends x i)
    → AreProposed n false (stepped disk_rules c n now ends (Up x) disk i).given
step_proposed c M n now ends i x disk low fits holds so stands saves fine =
    let cut : IsCut disk_rules c n now ends (Up x) disk i [] (stepped disk_rules c n now ends (Up x) disk i) = steps_are_cut disk_rules disks_keep_rules c n now ends (Up x) disk i in
    subst (AreProposed n false) cut.comes.given
    (all_outputs c M n (delivered_by i) (site (Up x) disk.kept) (doings c n now ends cut.replies i (Up x)) false fits holds (known_by M i so) stands.tied
    (step_may c M n now ends (Up x) disk.kept i cut.replies low fits holds stands.tied stands.joins) (doings_small c n now ends cut.replies i (Up x) disk.kept)
    (under_proposed false cut.replies (course_at c n now ends x i) saves fine))
