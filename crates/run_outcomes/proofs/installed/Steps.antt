-- A step of a node leaves installed what came, and nothing else, in a session of another's.
use Rattle.std.specs.Prelude.{ℕ, ◌==◌, ◌&&◌, ◌||◌, ◌<◌, ◌≡◌, ◌≤◌, ◌⊎◌, not, nat_le, All, Bool, true, false, List, [], ◌∷◌, None, Some, if◌then◌else◌}
use Rattle.std.proofs.Common.{arith, refl, sym, ap, subst, ◌∙◌, inl, inr}
use Rattle.std.proofs.lemmas.Bool.Decides.{nat_tests}
use Rattle.std.specs.List.{list_all}
use Rattle.cl_base.specs.Sets.{has}
use Rattle.cl_base.specs.declared.method.Outcome as method
use Rattle.cmm_attempt.proofs.Basics.{false_true, if_either, same_number}
use Rattle.cmm_attempt.specs.Calls.{IsDevice}
use Rattle.cmm_member.specs.Nodes.{NodeState}
use Rattle.cmm_member.specs.Records.{NodeRecord}
use Rattle.device_queue.specs.Queue.{joins}
use Rattle.membership_machine.specs.Invariant.{Holds}
use Rattle.membership_machine.specs.Records.{Saved}
use Rattle.membership_machine.specs.State.{Memberships}
use Rattle.node_model.specs.Members.{hearing, is_bad_log, is_foreign, is_known_reading, is_strange, ready_of}
use Rattle.node_model.specs.Seats.{installed_of, is_in, promised_of, session_of, state_of}
use Rattle.node_model.specs.Steps.{Outcome, at_second, stepped}
use Rattle.node_model.specs.declared.cluster.Cluster.{Cluster}
use Rattle.node_model.specs.declared.input.Input.TheVariants.{Packet}
use Rattle.node_model.specs.declared.node.Node.{Node}
use Rattle.node_model.specs.declared.node.Node.TheVariants.{Down, Up}
use Rattle.node_model.specs.declared.node.UpNode.{UpNode}
use Rattle.node_model.specs.declared.seat.Seat.{Seat}
use Rattle.node_model.specs.declared.seat.Seat.TheVariants.{Forming, Member}
use Rattle.record_disk.specs.Disks.{DiskState, saving}
use Rattle.refinement.proofs.Acts.{does_one}
use Rattle.refinement.proofs.Changes.{Sees, sees}
use Rattle.refinement.proofs.Cuts.{step_of_node_is_its_course}
use Rattle.refinement.proofs.Presidents.{MemberTied, member_tied}
use Rattle.refinement.proofs.Ties.{known_stays}
use Rattle.refinement.specs.Courses.{Course, Reply, under}
use Rattle.refinement.specs.Courses.Course.{Acts, Falls, Keeps, Stops}
use Rattle.refinement.specs.Courses.Reply.{Done, Lost_new, Lost_old}
use Rattle.refinement.specs.Cuts.{course_at, writing}
use Rattle.refinement.specs.Cuts as cuts
use Rattle.refinement.specs.Doings.{acted, after_all, changed, effect, gives, site}
use Rattle.refinement.specs.Doings.Act.{Hears}
use Rattle.refinement.specs.Doings.Change.{Installs}
use Rattle.refinement.specs.Doings.Doing.{Does, Saves}
use Rattle.refinement.specs.Events.{of_doing}
use Rattle.refinement.specs.Guards.{MayAll, Says}
use Rattle.refinement.specs.Steps.{disk_rules}
use Rattle.refinement.specs.Ties.{Delivered, GoesOn, InstallTold, Known, NodeTied, SiteTied, setting_of}
use Rattle.run_packets.proofs.replies.Promising.{le_test}
use Rattle.run_seizings.proofs.Promising.{and_both}
use Rattle.wire.specs.declared.message.Body.{Body}
use Rattle.wire.specs.declared.message.Body.TheVariants as body
use Rattle.wire.specs.declared.message.Install.{Install}
use Rattle.wire.specs.declared.message.Message.{Message}
use Rattle.run_outcomes.proofs.installed.Changes.{HandCame, act_in, change_in}
use Rattle.run_outcomes.proofs.phases.Steps.{carried_leads}
use Rattle.run_outcomes.specs.reports.Installs.{InstallsIn, InstallsSo, IsInstallOf}
use Rattle.run_outcomes.specs.saves.Courses.{LeadsTo}
use Rattle.run_outcomes.specs.saves.Kept.{IsAt}

-- ---- small steps one after another

pub course_in : (came : ℕ → Bool) (c : Cluster) (M : Memberships) (n : ℕ) (told : Delivered) (replies : List Reply) (disk : NodeRecord) (x : UpNode) (q : Course) → All IsDevice c.attached → Holds (setting_of c) M → Known M told
    → SiteTied c M n (site (Up x) disk) → MayAll c n told (site (Up x) disk) (under replies q) → HandCame came told → InstallsIn came n told x → IsAt (InstallsIn came n told) (after_all c n (site (Up x) disk) (under replies q)).node
course_in came c M n told replies disk x Stops fits i known tied may hand k = k
course_in came c M n told replies disk x (Acts a rest) fits i known tied may hand k =
    let g : GoesOn c M n (effect c n (site (Up x) disk) (Does a)) (gives c n (site (Up x) disk) (Does a)) (of_doing n (Does a)) = does_one c M n told (site (Up x) disk) (Does a) fits i known tied may.0 in
    course_in came c g.machine n told replies disk (acted c n x a) rest fits g.holds (known_stays c M g.machine told i g.grows known) g.tied may.1 hand
    (act_in came c M n told disk x a (record { holds = i; known = known; tied = tied }) may.0 hand k)
course_in came c M n told [] disk x (Keeps ch rest) fits i known tied may hand k = tt
course_in came c M n told (Done ∷ replies) disk x (Keeps ch rest) fits i known tied may hand k =
    let g : GoesOn c M n (effect c n (site (Up x) disk) (Saves ch)) (gives c n (site (Up x) disk) (Saves ch)) (of_doing n (Saves ch)) = does_one c M n told (site (Up x) disk) (Saves ch) fits i known tied may.0 in
    course_in came c g.machine n told replies _ (changed c n x ch) rest fits g.holds (known_stays c M g.machine told i g.grows known) g.tied may.1 hand
    (change_in came c M n told disk x ch (record { holds = i; known = known; tied = tied }) may.0 hand k)
course_in came c M n told (Lost_new why ∷ replies) disk x (Keeps ch rest) fits i known tied may hand k = tt
course_in came c M n told (Lost_old why ∷ replies) disk x (Keeps ch rest) fits i known tied may hand k = tt
course_in came c M n told replies disk x (Falls why) fits i known tied may hand k = tt

-- ---- an Install that comes

-- in its session it is installed
abbrev IsSure : ℕ → UpNode → Type 0
IsSure e y = 0 < session_of y → session_of y ≡ e → installed_of y ≡ session_of y

readying_sure : (c : Cluster) (n : ℕ) (x : UpNode) (to e : ℕ) → IsSure e x → LeadsTo c n (IsSure e) x (cuts.readying_course c x to)
readying_sure c n x to e h = if_either (LeadsTo c n (IsSure e) x) (joins x.tasks) Stops (writing to (ready_of c x)) h h

installed_sure : (c : Cluster) (n : ℕ) (x : UpNode) (from : ℕ) (i : Install) (seat : Seat) → x.seat ≡ seat → ((s : NodeState) → seat ≡ Member s → IsSure i.epoch x)
    → LeadsTo c n (IsSure i.epoch) x (cuts.installed_course c n x from i seat)
installed_sure c n x from i (Member s) at member = readying_sure c n x from i.epoch (member s refl)
installed_sure c n x from i (Forming s) at member = by_test (s.saved.installed == i.epoch) refl
  where
    y : UpNode
    y = changed c n x (Installs s i)

    by_test : (b : Bool) → (s.saved.installed == i.epoch) ≡ b
        → LeadsTo c n (IsSure i.epoch) x (if b then cuts.readying_course c x from else Keeps (Installs s i) (cuts.readying_course c y from))
    by_test true is = readying_sure c n x from i.epoch (λ some same. ap (λ z. (state_of z).saved.installed) at ∙ (same_number s.saved.installed i.epoch is ∙ sym same))
    by_test false is = readying_sure c n y from i.epoch (λ some same. sym same)

in_so : (q e : ℕ) → 0 < q → q ≡ e → (nat_le 1 e && (q == e)) ≡ true
in_so q e some same = grind (arith, nat_tests, some, same)

install_sure : (c : Cluster) (n : ℕ) (x : UpNode) (from : ℕ) (i : Install) → ((s : NodeState) → x.seat ≡ Member s → IsSure i.epoch x) → LeadsTo c n (IsSure i.epoch) x (cuts.install_course c n x from i)
install_sure c n x from i member = by_test (is_in x i.epoch) refl
  where
    by_test : (b : Bool) → is_in x i.epoch ≡ b → LeadsTo c n (IsSure i.epoch) x (if b then cuts.installed_course c n x from i x.seat else writing from (body.Nack i.epoch (promised_of x)))
    by_test true is = installed_sure c n x from i x.seat refl member
    by_test false is = λ some same. absurd (false_true (sym is ∙ in_so (session_of x) i.epoch some same))

packet_sure : (c : Cluster) (n now : ℕ) (ends : method.Outcome) (x : UpNode) (from : ℕ) (m : Message) (i : Install) → m.body ≡ body.Install i → is_foreign c n x (body.Install i) ≡ false
    → ((s : NodeState) → x.seat ≡ Member s → IsSure i.epoch x) → LeadsTo c n (IsSure i.epoch) x (course_at c n now ends x (Packet from m))
packet_sure c n now ends x from m i is native member =
    subst (λ b. LeadsTo c n (IsSure i.epoch) y (if is_foreign c n y b then Stops else Acts (Hears from b) (cuts.body_course c n ends (hearing y from b) from m b))) (sym is) (by_test (is_foreign c n y (body.Install i)) native)
  where
    y : UpNode
    y = at_second now x

    z : UpNode
    z = hearing y from (body.Install i)

    by_test : (b : Bool) → b ≡ false → LeadsTo c n (IsSure i.epoch) y (if b then Stops else Acts (Hears from (body.Install i)) (cuts.install_course c n z from i))
    by_test true off = absurd (false_true (sym off))
    by_test false off = install_sure c n z from i member

-- by a step
abbrev pub Sure : Delivered → UpNode → Type 0
Sure told y = (e : ℕ) → Says (IsInstallOf e) told → IsSure e y

else_sure : (told : Delivered) (node : Node) → ((e : ℕ) → Says (IsInstallOf e) told → ⊥) → IsAt (Sure told) node
else_sure told Down none = tt
else_sure told (Up y) none = λ e says. absurd (none e says)

pub none_sure : (node : Node) → IsAt (Sure None) node
none_sure node = else_sure None node (λ e says. says)

sure_of : (from : ℕ) (m : Message) (i : Install) (node : Node) → m.body ≡ body.Install i → IsAt (IsSure i.epoch) node → IsAt (Sure (Some (from, m))) node
sure_of from m i Down is h = tt
sure_of from m i (Up y) is h = λ e says. subst (λ q. IsSure q y) (subst (IsInstallOf e) is says) h

member_sure : (c : Cluster) (M : Memberships) (n : ℕ) (disk : NodeRecord) (x : UpNode) (e : ℕ) → Holds (setting_of c) M → NodeTied c M n disk (Up x) → (s : NodeState) → x.seat ≡ Member s → IsSure e x
member_sure c M n disk x e i tied s at some same =
    let m : MemberTied c M n x s = member_tied c M n x disk s tied at in
    ap (λ z. (state_of z).saved.installed) at
    ∙ (ap (λ (z : Saved). z.installed) (sym m.shows.saved) ∙ (sym ((i.node n).member_installed m.shows.member) ∙ (m.shows.session ∙ sym (ap (λ z. (state_of z).session) at))))

pub step_sure : (c : Cluster) (M : Memberships) (n now : ℕ) (ends : method.Outcome) (x : UpNode) (disk : DiskState) (from : ℕ) (m : Message) → Holds (setting_of c) M → NodeTied c M n disk.kept (Up x) → is_foreign c n x m.body ≡ false
    → IsAt (Sure (Some (from, m))) (stepped disk_rules c n now ends (Up x) disk (Packet from m)).after
step_sure c M n now ends x disk from m i tied native = by_body m.body refl
  where
    node : Node
    node = (stepped disk_rules c n now ends (Up x) disk (Packet from m)).after

    no_install : (b : Body) → m.body ≡ b → ((e : ℕ) → IsInstallOf e b → ⊥) → IsAt (Sure (Some (from, m))) node
    no_install b is none = else_sure (Some (from, m)) node (λ e says. none e (subst (IsInstallOf e) is says))

    by_body : (b : Body) → m.body ≡ b → IsAt (Sure (Some (from, m))) node
    by_body (body.Install j) is =
        sure_of from m j node is
        (subst (λ (o : Outcome DiskState). IsAt (IsSure j.epoch) o.after) (sym ((step_of_node_is_its_course saving c n now ends x (Packet from m)).is [] disk))
        (carried_leads c n (IsSure j.epoch) x (course_at c n now ends x (Packet from m)) [] disk
        (packet_sure c n now ends x from m j is (subst (λ b. is_foreign c n x b ≡ false) is native) (λ s at. member_sure c M n disk.kept x j.epoch i tied s at))))
    by_body b is = no_install b is (λ e says. says)

-- ---- both together

pub strictly : (came : ℕ → Bool) (n : ℕ) (told : Delivered) (node : Node) → IsAt (InstallsIn came n told) node → IsAt (Sure told) node → IsAt (InstallsSo came n) node
strictly came n told Down k sure = tt
strictly came n told (Up y) k sure = record { low = k.low; back = k.back; forth = λ some other is. by_side some (k.forth some other is) }
  where
    by_side : 0 < session_of y → (installed_of y ≡ session_of y) ⊎ Says (IsInstallOf (session_of y)) told → installed_of y ≡ session_of y
    by_side some (inl same) = same
    by_side some (inr says) = sure (session_of y) says some refl

-- what is installed was promised
pub install_low : (c : Cluster) (M : Memberships) (n : ℕ) (disk : NodeRecord) (x : UpNode) (i : Install) → n ≤ 32 → Holds (setting_of c) M → NodeTied c M n disk (Up x) → InstallTold M i → is_foreign c n x (body.Install i) ≡ false
    → i.epoch ≤ promised_of x
install_low c M n disk x i low holds tied told native =
    let seen : Sees M n disk (state_of x.seat) = sees c M n disk x.attempt x.seat tied.0 in
    subst (λ p. i.epoch ≤ p) seen.promised
    ((holds.node n).answered_promised i.epoch ((holds.epoch i.epoch).counted_answered told.counted n (told.members n ∙ and_both (nat_le n 32) (has i.members n) (le_test n 32 low) inside)))
  where
    first_off : (a b : Bool) → (a || b) ≡ false → a ≡ false
    first_off true b is = absurd (false_true (sym is))
    first_off false b is = refl

    not_off : (a : Bool) → not a ≡ false → a ≡ true
    not_off true is = refl
    not_off false is = absurd (false_true (sym is))

    inside : has i.members n ≡ true
    inside = not_off (has i.members n) (first_off (not (has i.members n)) (is_strange c i.members) (first_off (not (has i.members n) || is_strange c i.members) (is_bad_log c i.committed i.pending) (first_off (not (has i.members n) || is_strange c i.members || is_bad_log c i.committed i.pending) (not (list_all (is_known_reading c) i.readings)) native)))
