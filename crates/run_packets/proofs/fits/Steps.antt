-- A step of a node: all that is proposed has room after it, and each record that is saved in it can be saved.
use Rattle.std.specs.Prelude.{ℕ, ◌+◌, ◌≡◌, ◌<◌, ◌≤◌, ◌^◌, ◌++◌, ◌||◌, not, All, Bool, true, false, if◌then◌else◌, List, [], ◌∷◌, Option, None, Some, IfSome}
use Rattle.std.specs.List.{AllByRecursion, list_all}
use Rattle.std.proofs.Common.{refl, sym, subst, arith}
use Rattle.cl_base.specs.Sets.{has}
use Rattle.cl_base.specs.declared.method.Outcome as method
use Rattle.cmm_attempt.specs.Attempts.{AttemptState}
use Rattle.cmm_attempt.specs.Calls.{IsDevice}
use Rattle.cmm_member.specs.Records.{NodeRecord}
use Rattle.membership_machine.specs.Growth.{Grows}
use Rattle.membership_machine.specs.Invariant.{Holds}
use Rattle.membership_machine.specs.State.{Memberships}
use Rattle.node_model.specs.Clusters.{first_valid_of}
use Rattle.node_model.specs.Members.{hearing, is_bad_log, is_foreign, is_known_reading, is_strange}
use Rattle.node_model.specs.Steps.{Outcome, at_second, booted_with, carried, plan_of, stays_down, stepped}
use Rattle.node_model.specs.declared.cluster.Cluster.{Cluster}
use Rattle.node_model.specs.declared.input.Input.{Input}
use Rattle.node_model.specs.declared.input.Input.TheVariants.{Boot, Packet}
use Rattle.node_model.specs.declared.input.Input.TheVariants as input
use Rattle.node_model.specs.declared.node.Node.{Node}
use Rattle.node_model.specs.declared.node.Node.TheVariants.{Down, Up}
use Rattle.node_model.specs.declared.node.UpNode.{UpNode}
use Rattle.node_model.specs.declared.output.Output.{Output}
use Rattle.node_model.specs.declared.output.Output.TheVariants.{Sends, Tells}
use Rattle.record_disk.specs.Disks.{DiskState, crashed, mounting, remounted, saving, stops_in_four}
use Rattle.record_disk.specs.Savings.{Saving}
use Rattle.record_disk.specs.declared.error.Loss.TheVariants.{Stopped}
use Rattle.refinement.proofs.Cuts.{step_of_node_is_its_course}
use Rattle.refinement.proofs.Disks.{disks_keep_rules}
use Rattle.refinement.proofs.EveryRun.{is_true}
use Rattle.refinement.proofs.Facts.{known_by, step_may, steps_go}
use Rattle.refinement.proofs.Handlers.{delivered_by}
use Rattle.refinement.proofs.Replies.{steps_are_cut}
use Rattle.refinement.proofs.Requests.{or_second}
use Rattle.refinement.proofs.Ties.{message_stays, node_stays}
use Rattle.refinement.specs.Courses.{Reply, plan_from, under}
use Rattle.refinement.specs.Courses.Reply.{Done, Lost_new, Lost_old}
use Rattle.refinement.specs.Courses.Course.{Acts, Stops}
use Rattle.refinement.specs.Cuts as cuts
use Rattle.refinement.specs.Cuts.{course_at, doings}
use Rattle.refinement.specs.Doings.{Site, after_all, given_all, site}
use Rattle.refinement.specs.Doings.Act.{Dates, Hears}
use Rattle.refinement.specs.Doings.Doing.{Does}
use Rattle.refinement.specs.Facts.{JoinsIn}
use Rattle.refinement.specs.Guards.{MayAll}
use Rattle.refinement.specs.Runs.{Letter, Nodes, WasSent, letters_of, moved}
use Rattle.refinement.specs.Runs.Move.{Takes as Takes_in}
use Rattle.refinement.specs.Steps.{IsCut, disk_rules}
use Rattle.refinement.specs.Ties.{AllTold, Delivered, Known, MessageTold, NodeTied, SiteTied, setting_of}
use Rattle.refinement.specs.Whole.{IsTrue, Stands}
use Rattle.run_history.specs.Names.{AreListed, IsListed, NodeNames}
use Rattle.run_history.proofs.Known.{AllName}
use Rattle.run_packets.proofs.native.Beats.{later_named}
use Rattle.run_packets.specs.native.Named.{AttemptNamed, BodyNamed, HandNamed, InNodes, NodeNamed, RunNamed}
use Rattle.run_messages.proofs.records.Steps.{put_all}
use Rattle.status_report.specs.declared.entry.Entry.TheVariants as entry
use Rattle.status_report.specs.declared.node_entry.NodeEntry.TheVariants as note
use Rattle.wire.specs.Spelling.{IsNode}
use Rattle.wire.specs.declared.message.Body.{Body}
use Rattle.wire.specs.declared.message.Body.TheVariants as body
use Rattle.wire.specs.declared.message.Message.{Message}
use Rattle.run_packets.proofs.fits.Courses.{at_known, under_known}
use Rattle.run_packets.proofs.fits.Disks.{CanSave, Fine, KeepsFit, course_fine, keeps_from, lines_in}
use Rattle.run_packets.proofs.fits.Doings.{Went, all_went, record_sound}
use Rattle.run_packets.proofs.fits.Rows.{sound_fits}
use Rattle.run_packets.proofs.fits.Sets.{Numbered}
use Rattle.run_packets.specs.fits.Known.{BroughtIn, HandIn, IfUp, KnownAll, KnownCourse, RecordIn}
use Rattle.run_packets.specs.fits.Rooms.{AllHaveRoom}

-- ---- what is known where the step begins

pub record Begins (c : Cluster) (M : Memberships) (n : ℕ) (i : Input) (node : Node) (disk : NodeRecord) : Type 0 where
  pub low : n ≤ 32
  pub fits : All IsDevice c.attached
  pub numbered : Numbered c
  pub listed : AreListed c
  pub holds : Holds (setting_of c) M
  pub known : Known M (delivered_by i)
  pub tied : NodeTied c M n disk node
  pub joins : JoinsIn node
  pub names : NodeNames (IsListed c) node
  pub named : NodeNamed c n node
  pub hand : HandNamed c (delivered_by i)
  pub rooms : AllHaveRoom c.nodes c.devices M
  pub record_so : RecordIn c n disk

-- ---- what is delivered

not_false : (b : Bool) → not b ≡ false → b ≡ true
not_false true h = refl
not_false false h = sym h

brought_in : (c : Cluster) (n : ℕ) (x : UpNode) (b : Body) → is_foreign c n x b ≡ false → BodyNamed c b → BroughtIn c b
brought_in c n x (body.Install i) e named = (
  named.0,
  not_false (list_all (is_known_reading c) i.readings)
      (or_second (not (has i.members n) || is_strange c i.members || is_bad_log c i.committed i.pending) (not (list_all (is_known_reading c) i.readings)) e),
)
brought_in c n x _ e named = tt

-- the packet, where it is not foreign; a foreign one changes nothing
record Chosen (c : Cluster) (M : Memberships) (n now : ℕ) (ends : method.Outcome) (i : Input) (x : UpNode) (disk : NodeRecord) : Type 0 where
  told : Delivered
  known : Known M told
  hand : HandIn c told
  may : (replies : List Reply) → MayAll c n told (site (Up x) disk) (doings c n now ends replies i (Up x))

may_of : (c : Cluster) (M : Memberships) (n now : ℕ) (ends : method.Outcome) (i : Input) (node : Node) (disk : NodeRecord) (replies : List Reply) → Begins c M n i node disk
    → MayAll c n (delivered_by i) (site node disk) (doings c n now ends replies i node)
may_of c M n now ends i node disk replies b = step_may c M n now ends node disk i replies b.low b.fits b.holds b.tied b.joins

packet_chosen : (c : Cluster) (M : Memberships) (n now : ℕ) (ends : method.Outcome) (from : ℕ) (m : Message) (x : UpNode) (disk : NodeRecord) → Begins c M n (Packet from m) (Up x) disk → Chosen c M n now ends (Packet from m) x disk
packet_chosen c M n now ends from m x disk b = by_test (is_foreign c n (at_second now x) m.body) refl
  where
    y : UpNode
    y = at_second now x

    by_test : (t : Bool) → is_foreign c n y m.body ≡ t → Chosen c M n now ends (Packet from m) x disk
    by_test false e = record {
      told = Some (from, m);
      known = b.known;
      hand = brought_in c n y m.body e b.hand.1;
      may = λ replies. may_of c M n now ends (Packet from m) (Up x) disk replies b;
    }
    by_test true e = record {
      told = None;
      known = tt;
      hand = tt;
      may = λ replies. subst (λ t. MayAll c n None (site (Up x) disk) (Does (Dates now) ∷ under replies (if t then Stops else Acts (Hears from m.body) (cuts.body_course c n ends (hearing y from m.body) from m m.body)))) (sym e) (tt, tt);
    }

chosen : (c : Cluster) (M : Memberships) (n now : ℕ) (ends : method.Outcome) (i : Input) (x : UpNode) (disk : NodeRecord) → Begins c M n i (Up x) disk → Chosen c M n now ends i x disk
chosen c M n now ends (Packet from m) x disk b = packet_chosen c M n now ends from m x disk b
chosen c M n now ends input.Boot x disk b = record { told = None; known = tt; hand = tt; may = λ replies. may_of c M n now ends input.Boot (Up x) disk replies b }
chosen c M n now ends input.Crash x disk b = record { told = None; known = tt; hand = tt; may = λ replies. may_of c M n now ends input.Crash (Up x) disk replies b }
chosen c M n now ends input.Tick x disk b = record { told = None; known = tt; hand = tt; may = λ replies. may_of c M n now ends input.Tick (Up x) disk replies b }
chosen c M n now ends input.CommandDue x disk b = record { told = None; known = tt; hand = tt; may = λ replies. may_of c M n now ends input.CommandDue (Up x) disk replies b }
chosen c M n now ends (input.Answered a) x disk b = record { told = None; known = tt; hand = tt; may = λ replies. may_of c M n now ends (input.Answered a) (Up x) disk replies b }
chosen c M n now ends (input.Wrote d value a) x disk b = record { told = None; known = tt; hand = tt; may = λ replies. may_of c M n now ends (input.Wrote d value a) (Up x) disk replies b }
chosen c M n now ends (input.Commanded words) x disk b = record { told = None; known = tt; hand = tt; may = λ replies. may_of c M n now ends (input.Commanded words) (Up x) disk replies b }
chosen c M n now ends (input.Reported r good) x disk b = record { told = None; known = tt; hand = tt; may = λ replies. may_of c M n now ends (input.Reported r good) (Up x) disk replies b }
chosen c M n now ends (input.Client name client port) x disk b = record { told = None; known = tt; hand = tt; may = λ replies. may_of c M n now ends (input.Client name client port) (Up x) disk replies b }

-- ---- the small steps, whatever the disk replies

attempt_named : (c : Cluster) (o : Option AttemptState) → AttemptNamed c o → IfSome o (λ (a : AttemptState). InNodes c a.plan.members)
attempt_named c None h = tt
attempt_named c (Some a) h = h.0

known_at : (c : Cluster) (M : Memberships) (n now : ℕ) (ends : method.Outcome) (i : Input) (x : UpNode) (disk : NodeRecord) → Begins c M n i (Up x) disk → KnownCourse c n x (course_at c n now ends x i)
known_at c M n now ends i x disk b = at_known c n now ends x i b.low b.listed b.names (later_named c n (at_second now x) b.named).view_so

abbrev StepWent : Cluster → Memberships → ℕ → ℕ → method.Outcome → Input → Node → NodeRecord → List Reply → Type 0
StepWent c M n now ends i node disk replies =
    Went c M n (after_all c n (site node disk) (doings c n now ends replies i node)) (given_all c n (site node disk) (doings c n now ends replies i node))

none_known : (c : Cluster) (n now : ℕ) (ends : method.Outcome) (replies : List Reply) (i : Input) (disk : NodeRecord) → KnownAll c n (site Down disk) (doings c n now ends replies i Down)
none_known c n now ends [] Boot disk = (tt, (tt, tt))
none_known c n now ends (Done ∷ replies) Boot disk = (tt, tt)
none_known c n now ends (Lost_new why ∷ replies) Boot disk = (tt, (tt, tt))
none_known c n now ends (Lost_old why ∷ replies) Boot disk = (tt, (tt, tt))
none_known c n now ends replies _ disk = tt

down_may : (c : Cluster) (M : Memberships) (n now : ℕ) (ends : method.Outcome) (i : Input) (disk : NodeRecord) (replies : List Reply) → Begins c M n i Down disk → MayAll c n None (site Down disk) (doings c n now ends replies i Down)
down_may c M n now ends Boot disk replies b = may_of c M n now ends Boot Down disk replies b
down_may c M n now ends _ disk replies b = tt

went : (c : Cluster) (M : Memberships) (n now : ℕ) (ends : method.Outcome) (i : Input) (node : Node) (disk : NodeRecord) (replies : List Reply) → Begins c M n i node disk → StepWent c M n now ends i node disk replies
went c M n now ends i Down disk replies b =
    all_went c M n None (site Down disk) (doings c n now ends replies i Down) b.fits b.numbered b.holds tt b.tied (down_may c M n now ends i disk replies b) (none_known c n now ends replies i disk) tt b.rooms
    (record { disk = b.record_so; node = tt })
went c M n now ends i (Up x) disk replies b =
    let t : Chosen c M n now ends i x disk = chosen c M n now ends i x disk b in
    all_went c M n t.told (site (Up x) disk) (doings c n now ends replies i (Up x)) b.fits b.numbered b.holds t.known b.tied (t.may replies)
    (under_known c n replies disk x (course_at c n now ends x i) (known_at c M n now ends i x disk b)) t.hand b.rooms
    (record { disk = b.record_so; node = record { attempt = attempt_named c x.attempt b.named.attempt_so; view = b.named.view_so } })

-- so each record that is saved fits
pub record Fits (c : Cluster) (n now : ℕ) (ends : method.Outcome) (i : Input) (x : UpNode) : Type 0 where
  pub known : KnownCourse c n x (course_at c n now ends x i)
  pub keeps : KeepsFit c n x (course_at c n now ends x i)

can_save : (c : Cluster) (M : Memberships) (n : ℕ) (y : Site) (os : List Output) → n ≤ 32 → Went c M n y os → CanSave y.disk
can_save c M n y os low w saves few = sound_fits c.nodes c.devices n saves y.disk low few (record_sound c w.machine n y w.holds w.tied w.rooms w.here.disk)

step_fits : (c : Cluster) (M : Memberships) (n now : ℕ) (ends : method.Outcome) (i : Input) (node : Node) (disk : NodeRecord) → Begins c M n i node disk → IfUp (Fits c n now ends i) node
step_fits c M n now ends i Down disk b = tt
step_fits c M n now ends i (Up x) disk b = record {
  known = known_at c M n now ends i x disk b;
  keeps = keeps_from c n x disk (course_at c n now ends x i)
      (λ replies. can_save c M n (after_all c n (site (Up x) disk) (doings c n now ends replies i (Up x))) (given_all c n (site (Up x) disk) (doings c n now ends replies i (Up x))) b.low
      (went c M n now ends i (Up x) disk replies b));
}

-- ---- all nodes

abbrev AllTrue : Memberships → List Letter → Type 0
AllTrue M letters = AllByRecursion (λ (l : Letter). MessageTold M l.from l.body) letters

all_stay : (c : Cluster) (M N : Memberships) (letters : List Letter) → Holds (setting_of c) M → Grows M N → AllTrue M letters → AllTrue N letters
all_stay c M N [] i g h = tt
all_stay c M N (l ∷ letters) i g h = (message_stays c M N l.from l.body i g h.0, all_stay c M N letters i g h.1)

more_true : (M : Memberships) (n : ℕ) (os : List Output) (letters : List Letter) → AllTold M n os → AllTrue M letters → AllTrue M (letters_of n os ++ letters)
more_true M n [] letters h k = k
more_true M n (Tells e ∷ os) letters h k = more_true M n os letters h.1 k
more_true M n (Sends to b ∷ os) letters h k = (h.0, more_true M n os letters h.1 k)

-- all nodes are tied in a machine in which all that is proposed has room, and their records keep to the cluster
pub record Grown (c : Cluster) (v : Nodes) : Type 0 where
  pub machine : Memberships
  pub holds : Holds (setting_of c) machine
  pub stands : (n : ℕ) → Stands c machine n (v.node n) (v.disk n).kept
  pub sent : AllTrue machine v.sent
  pub rooms : AllHaveRoom c.nodes c.devices machine
  pub records : (n : ℕ) → RecordIn c n (v.disk n).kept

-- the cluster has such devices
pub record Sized (c : Cluster) : Type 0 where
  pub fits : All IsDevice c.attached
  pub numbered : Numbered c
  pub listed : AreListed c

pub record Stepped (c : Cluster) (n now : ℕ) (ends : method.Outcome) (i : Input) (v : Nodes) : Type 0 where
  pub grown : Grown c (moved c v (Takes_in n now ends i))
  pub fits : IfUp (Fits c n now ends i) (v.node n)

pub step_grown : (c : Cluster) (n now : ℕ) (ends : method.Outcome) (i : Input) (v : Nodes) → Sized c → IsNode n → WasSent v i → RunNamed c v → AllName c v → HandNamed c (delivered_by i) → Grown c v → Stepped c n now ends i v
step_grown c n now ends i v sized is was named names hand g =
    let M : Memberships = g.machine in
    let o : Outcome DiskState = stepped disk_rules c n now ends (v.node n) (v.disk n) i in
    let cut : IsCut disk_rules c n now ends (v.node n) (v.disk n) i [] o = steps_are_cut disk_rules disks_keep_rules c n now ends (v.node n) (v.disk n) i in
    let truth : IsTrue M i = is_true M v i was g.sent in
    let b : Begins c M n i (v.node n) (v.disk n).kept = record {
      low = is.1;
      fits = sized.fits;
      numbered = sized.numbered;
      listed = sized.listed;
      holds = g.holds;
      known = known_by M i truth;
      tied = (g.stands n).tied;
      joins = (g.stands n).joins;
      names = names n;
      named = (named.sites n).node_so;
      hand = hand;
      rooms = g.rooms;
      record_so = g.records n;
    } in
    let k : StepWent c M n now ends i (v.node n) (v.disk n).kept cut.replies = went c M n now ends i (v.node n) (v.disk n).kept cut.replies b in
    let N : Memberships = k.machine in
    let joins : JoinsIn o.after = (steps_go disk_rules disks_keep_rules c M n now ends (v.node n) (v.disk n) i is.1 sized.fits g.holds truth (g.stands n)).stands.joins in
    record {
      grown = record {
        machine = N;
        holds = k.holds;
        stands = put_all (λ j node disk. Stands c N j node disk) v n o.after o.disk (record { tied = subst (SiteTied c N n) cut.comes.left k.tied; joins = joins })
            (λ j ne. record { tied = node_stays c M N j (v.disk j).kept (v.node j) g.holds k.grows (k.others j ne) (g.stands j).tied; joins = (g.stands j).joins });
        sent = more_true N n o.given v.sent (subst (AllTold N n) cut.comes.given k.said) (all_stay c M N v.sent g.holds k.grows g.sent);
        rooms = k.rooms;
        records = put_all (λ j node disk. RecordIn c j disk) v n o.after o.disk (subst (λ (z : Site). RecordIn c n z.disk) cut.comes.left k.here.disk) (λ j ne. g.records j);
      };
      fits = step_fits c M n now ends i (v.node n) (v.disk n).kept b;
    }

-- ---- on the disk

by_test : {X : Type 0} (P : X → Type 0) (b : Bool) (x y : X) → P x → P y → P (if b then x else y)
by_test P true x y f g = f
by_test P false x y f g = g

more_room : (a b k : ℕ) → a ≤ b → a ≤ b + k
more_room a b k h = omega (arith, h)

boot_fine : (base n valid : ℕ) (disk : DiskState) → disk.saves ≤ base → Fine base [] (booted_with n valid disk.kept (mounting disk))
boot_fine base n valid disk few =
    by_test (λ (m : Saving DiskState). Fine base [] (booted_with n valid disk.kept m)) (stops_in_four disk.stop) (record { after = crashed disk; lost = Some Stopped }) (record { after = remounted disk; lost = None })
    (record { more = _; given_so = refl; tells = (tt, (tt, tt)); saves = more_room disk.saves base 2 few; mounted = tt })
    (record { more = Tells (entry.Node n note.Up) ∷ []; given_so = refl; tells = (tt, tt); saves = more_room disk.saves base 1 few; mounted = refl })

down_fine : (base : ℕ) (disk : DiskState) → disk.saves ≤ base → Fine base [] (stays_down disk)
down_fine base disk few = record { more = []; given_so = refl; tells = tt; saves = more_room disk.saves base 0 few; mounted = tt }

pub step_fine : (base : ℕ) (c : Cluster) (n now : ℕ) (ends : method.Outcome) (i : Input) (node : Node) (disk : DiskState) → IfUp (Fits c n now ends i) node → IfUp (λ x. disk.mounted ≡ true) node → disk.saves ≤ base
    → base + lines_in (stepped disk_rules c n now ends node disk i).given < 2 ^ 63 → Fine base [] (stepped disk_rules c n now ends node disk i)
step_fine base c n now ends i (Up x) disk f mounted few small =
    let same : carried saving n (plan_of c n ends (at_second now x) i) [] disk ≡ carried saving n (plan_from c n x (course_at c n now ends x i)) [] disk = (step_of_node_is_its_course saving c n now ends x i).is [] disk in
    subst (Fine base []) (sym same)
    (course_fine base c n x (course_at c n now ends x i) [] disk f.known f.keeps mounted (more_room disk.saves base 0 few)
    (subst (λ (o : Outcome DiskState). base + lines_in o.given < 2 ^ 63) same small))
step_fine base c n now ends Boot Down disk f mounted few small = boot_fine base n (first_valid_of c n) disk few
step_fine base c n now ends _ Down disk f mounted few small = down_fine base disk few
