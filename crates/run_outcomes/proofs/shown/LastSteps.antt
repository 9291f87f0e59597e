-- Through the step of a node the last Promise stays of its session.
use Rattle.std.specs.Prelude.{ℕ, ◌++◌, ◌^◌, ◌≡◌, ◌<◌, ◌≤◌, nat_lt, true, List, [], ◌∷◌, None, Some}
use Rattle.std.specs.List.{AllByRecursion}
use Rattle.std.proofs.Common.{refl, sym, subst, arith}
use Rattle.ccr_commit.specs.Entries.{texts_of}
use Rattle.cl_base.specs.declared.header.Header.{Header}
use Rattle.cl_base.specs.declared.method.Outcome as method
use Rattle.cmm_member.specs.Records.{NodeRecord}
use Rattle.membership_machine.specs.State.{Memberships}
use Rattle.node_model.specs.Seats.{record_of}
use Rattle.node_model.specs.Steps.{Outcome, stepped}
use Rattle.node_model.specs.declared.cluster.Cluster.{Cluster}
use Rattle.node_model.specs.declared.input.Input.{Input}
use Rattle.node_model.specs.declared.input.Input.TheVariants as input
use Rattle.node_model.specs.declared.node.Node.{Node}
use Rattle.node_model.specs.declared.node.Node.TheVariants.{Down, Up}
use Rattle.node_model.specs.declared.node.UpNode.{UpNode}
use Rattle.record_disk.specs.Disks.{DiskState}
use Rattle.refinement.proofs.Disks.{disks_keep_rules}
use Rattle.refinement.proofs.Facts.{step_may}
use Rattle.refinement.proofs.Handlers.{delivered_by}
use Rattle.refinement.proofs.Replies.{steps_are_cut}
use Rattle.refinement.specs.Courses.{Reply}
use Rattle.refinement.specs.Cuts.{doings}
use Rattle.refinement.specs.Doings.{Change, Doing, Site, after_all, effect, given_all, site}
use Rattle.refinement.specs.Doings.Change.{Promises}
use Rattle.refinement.specs.Doings.Doing.{Saves}
use Rattle.refinement.specs.Guards.{Asks, May, MayAll, MayChange, OfUp, Says}
use Rattle.refinement.specs.Runs.{AnswersFit, Letter, Nodes, WasSent, letters_of, moved}
use Rattle.refinement.specs.Runs.Move.{Takes as Takes_in}
use Rattle.refinement.specs.Steps.{IsCut, disk_rules}
use Rattle.refinement.specs.Ties.{Delivered}
use Rattle.refinement.specs.Worlds.{AllFit}
use Rattle.run_commands.proofs.acknowledged.Numbers.{passing_next}
use Rattle.run_downs.proofs.Packets.{IsNoPacket, no_packets}
use Rattle.run_history.proofs.ContactWidths.{StepFits, all_spelled, move_fits}
use Rattle.run_history.proofs.Idle.{passing_nodes}
use Rattle.run_history.proofs.Steps.{put_all}
use Rattle.run_history.specs.Happenings.{taking}
use Rattle.run_history.specs.Scenes.{Scene, passing}
use Rattle.run_history.specs.Stages.{Sized, site_of}
use Rattle.run_packets.proofs.fits.Runs.{sized}
use Rattle.run_packets.specs.fits.Known.{IfUp}
use Rattle.run_packets.specs.fits.Rooms.{HasRoom}
use Rattle.run_seizings.proofs.Asked.{AllMay}
use Rattle.run_seizings.proofs.Steps.{Ground}
use Rattle.wire.specs.Spelling.{IsNode}
use Rattle.wire.specs.declared.message.Body.{Body}
use Rattle.wire.specs.declared.message.Body.TheVariants as body
use Rattle.wire.specs.declared.message.Message.{Message}
use Rattle.run_outcomes.proofs.shown.Last.{NodeLast, node_still, passing_other}
use Rattle.run_outcomes.proofs.shown.LastWalk.{AllCalm, CalmDoing, IsCalm, LastAll, all_last}
use Rattle.run_outcomes.proofs.shown.Letters.{older}
use Rattle.run_outcomes.proofs.shown.Pays.{IsLeft, collect_last}
use Rattle.run_outcomes.proofs.shown.Walk.{given_more, on_all}

-- while a packet number is left
abbrev pub AllLast : Scene → Type 0
AllLast s = IsLeft s → (n : ℕ) → NodeLast s.nodes.sent n s.moments (s.nodes.node n)

pub lower : (a b k : ℕ) → a ≤ b → nat_lt b k ≡ true → nat_lt a k ≡ true
lower a b k h e = grind arith

pub no_less : (a : ℕ) → a ≤ a
no_less a = omega arith

-- ---- what is no Collect makes no promise

abbrev Quiet : Delivered → Type 0
Quiet told = (p : ℕ) → Says (Asks p) told → ⊥

saves_calm : (c : Cluster) (n : ℕ) (told : Delivered) (node : Node) (ch : Change) → OfUp (λ y. MayChange c n told y ch) node → Quiet told → IsCalm ch
saves_calm c n told (Up y) (Promises p) may quiet = quiet p may.0
saves_calm c n told Down (Promises p) may quiet = absurd may
saves_calm c n told node _ may quiet = tt

calm_doing : (c : Cluster) (n : ℕ) (told : Delivered) (x : Site) (d : Doing) → May c n told x d → Quiet told → CalmDoing d
calm_doing c n told x (Saves ch) may quiet = saves_calm c n told x.node ch may quiet
calm_doing c n told x _ may quiet = tt

calm_all : (c : Cluster) (n : ℕ) (told : Delivered) (x : Site) (ds : List Doing) → MayAll c n told x ds → Quiet told → AllCalm ds
calm_all c n told x [] may quiet = tt
calm_all c n told x (d ∷ ds) may quiet = (calm_doing c n told x d may.0 quiet, calm_all c n told (effect c n x d) ds may.1 quiet)

abbrev NoCollect : Body → Type 0
NoCollect (body.Collect e members) = ⊥
NoCollect _ = Unit {0}

asks_none : (b : Body) (p : ℕ) → NoCollect b → Asks p b → ⊥
asks_none (body.Collect e members) p quiet asks = quiet
asks_none _ p quiet asks = asks

-- ---- a step

abbrev pub Roomy : Cluster → UpNode → Type 0
Roomy c x = HasRoom c.nodes c.devices (texts_of (record_of x).entries)

abbrev Fares : Header → Cluster → ℕ → List Letter → Delivered → Site → List Doing → Scene → Type 0
Fares h c n L told x ds t =
    MayAll c n told x ds → AllMay h c n told None x ds → AllFit n (given_all c n x ds) → AllByRecursion IsNoPacket (given_all c n x ds) → IsLeft (passing n (given_all c n x ds) t) → NodeLast L n t.moments x.node → LastAll L c n x ds t

quiet_fares : (h : Header) (c : Cluster) (n : ℕ) (L : List Letter) (told : Delivered) (x : Site) (ds : List Doing) (t : Scene) → Quiet told → Fares h c n L told x ds t
quiet_fares h c n L told x ds t quiet may at fits none left last = all_last h L c n told None x ds t may at (calm_all c n told x ds may quiet) fits none last

packet_fares : (h : Header) (c : Cluster) (n now : ℕ) (ends : method.Outcome) (L : List Letter) (node : Node) (disk : NodeRecord) (t : Scene) (replies : List Reply) (from : ℕ) (m : Message) (b : Body) → m.body ≡ b → IfUp (Roomy c) node
    → Fares h c n L (Some (from, m)) (site node disk) (doings c n now ends replies (input.Packet from m) node) t
packet_fares h c n now ends L node disk t replies from m (body.Collect p members) is room = collect_last h L c n now ends node disk t replies from m p members is room
packet_fares h c n now ends L node disk t replies from m b is room =
    quiet_fares h c n L (Some (from, m)) (site node disk) (doings c n now ends replies (input.Packet from m) node) t (λ p asks. asks_none b p tt (subst (Asks p) is asks))

input_fares : (h : Header) (c : Cluster) (n now : ℕ) (ends : method.Outcome) (i : Input) (L : List Letter) (node : Node) (disk : NodeRecord) (t : Scene) (replies : List Reply) → IfUp (Roomy c) node
    → Fares h c n L (delivered_by i) (site node disk) (doings c n now ends replies i node) t
input_fares h c n now ends (input.Packet from m) L node disk t replies room = packet_fares h c n now ends L node disk t replies from m m.body refl room
input_fares h c n now ends i L node disk t replies room = quiet_fares h c n L None (site node disk) (doings c n now ends replies i node) t (λ p asks. asks)

pub step_last : (h : Header) (c : Cluster) (n now : ℕ) (ends : method.Outcome) (i : Input) (s : Scene) → Sized c → Ground c s.nodes → IsNode n → now < 2 ^ 64 → WasSent s.nodes i → AnswersFit i
    → ((j : ℕ) → IfUp (Roomy c) (s.nodes.node j))
    → ((replies : List Reply) → AllMay h c n (delivered_by i) None (site_of s.nodes n) (doings c n now ends replies i (s.nodes.node n))) → AllLast s → AllLast (taking c n now ends i s)
step_last h c n now ends i s sized b is time was answer room guard k = λ left.
    let v : Nodes = s.nodes in
    let M : Memberships = b.machine in
    let o : Outcome DiskState = stepped disk_rules c n now ends (v.node n) (v.disk n) i in
    let cut : IsCut disk_rules c n now ends (v.node n) (v.disk n) i [] o = steps_are_cut disk_rules disks_keep_rules c n now ends (v.node n) (v.disk n) i in
    let x : Site = site_of v n in
    let small : List Doing = doings c n now ends cut.replies i (v.node n) in
    let may : MayAll c n (delivered_by i) x small = step_may c M n now ends (v.node n) (v.disk n).kept i cut.replies is.1 sized.fits.devices.attached b.holds (b.stands n).tied (b.stands n).joins in
    let widths : StepFits c n o = move_fits c sized.fits v n now ends i (is.0, is.1, was, answer) time b.fits in
    let t : Scene = record s { nodes = moved c v (Takes_in n now ends i) } in
    let r : Scene = passing n o.given t in
    let N : List Letter = letters_of n o.given ++ v.sent in
    let given : given_all c n x small ≡ o.given = cut.comes.given in
    let none : AllByRecursion IsNoPacket o.given = no_packets c n now ends (v.node n) (v.disk n) i in
    let old : ((j : ℕ) → NodeLast v.sent j s.moments (v.node j)) = k (lower s.links.next r.links.next (2 ^ 63) (passing_next n o.given t) left) in
    let all : LastAll v.sent c n x small t =
    input_fares h c n now ends i v.sent (v.node n) (v.disk n).kept t cut.replies (room n) may (guard cut.replies) (subst (λ os. AllFit n os) (sym given) (all_spelled n o.given is widths.given))
    (subst (λ os. AllByRecursion IsNoPacket os) (sym given) none) (subst (λ os. IsLeft (passing n os t)) (sym given) left) (old n) in
    let one : NodeLast (letters_of n (given_all c n x small) ++ v.sent) n (passing n (given_all c n x small) t).moments (after_all c n x small).node =
    node_still (on_all n c x small v.sent) (letters_of n (given_all c n x small) ++ v.sent) n (passing n (given_all c n x small) t).moments (passing n (given_all c n x small) t).moments (after_all c n x small).node
    (given_more n c x small v.sent) refl all in
    let two : NodeLast N n r.moments (after_all c n x small).node = subst (λ os. NodeLast (letters_of n os ++ v.sent) n (passing n os t).moments (after_all c n x small).node) given one in
    let here : NodeLast N n r.moments o.after = subst (λ (q : Site). NodeLast N n r.moments q.node) cut.comes.left two in
    let same : r.nodes ≡ moved c v (Takes_in n now ends i) = passing_nodes n o.given t in
    subst (λ (q : Nodes). (j : ℕ) → NodeLast q.sent j r.moments (q.node j)) (sym same)
    (put_all (λ j node disk. NodeLast N j r.moments node) v n o.after o.disk here
    (λ j ne. node_still v.sent N j s.moments r.moments (v.node j) (older n o.given v.sent) (passing_other j n o.given t (λ e. ne (sym e)) none) (old j)))
