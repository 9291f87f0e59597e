-- At an Install a node saves at once, where it is in its session and has not installed it, or not at all.
use Rattle.std.specs.Prelude.{ℕ, ◌≡◌, ◌==◌, true}
use Rattle.std.proofs.Common.{refl, sym, ◌∙◌}
use Rattle.cl_base.specs.declared.method.Outcome as method
use Rattle.cmm_attempt.proofs.Basics.{if_either}
use Rattle.device_queue.specs.Queue.{joins}
use Rattle.node_model.specs.Members.{hearing, is_foreign, ready_of}
use Rattle.node_model.specs.Seats.{is_in, promised_of}
use Rattle.node_model.specs.Steps.{at_second}
use Rattle.node_model.specs.declared.cluster.Cluster.{Cluster}
use Rattle.node_model.specs.declared.input.Input.TheVariants as input
use Rattle.node_model.specs.declared.node.UpNode.{UpNode}
use Rattle.node_model.specs.declared.seat.Seat.{Seat}
use Rattle.node_model.specs.declared.seat.Seat.TheVariants.{Forming, Member}
use Rattle.refinement.specs.Courses.Course.{Acts, Keeps, Stops}
use Rattle.refinement.specs.Cuts as cuts
use Rattle.refinement.specs.Cuts.{course_at, deciding_course, if_installed, if_started, steps_course}
use Rattle.refinement.specs.Doings.{changed}
use Rattle.refinement.specs.Doings.Act.{Hears}
use Rattle.refinement.specs.Doings.Change.{Installs}
use Rattle.wire.specs.declared.message.Body.{Body}
use Rattle.wire.specs.declared.message.Body.TheVariants as body
use Rattle.wire.specs.declared.message.Install.{Install}
use Rattle.wire.specs.declared.message.Message.{Message}
use Rattle.run_downs.proofs.Courses.{KeepsNone, by_test}
use Rattle.run_outcomes.specs.saves.Courses.{InstallsAt, InstallsNow}
use Rattle.run_outcomes.proofs.saves.Once.{SavesOnce, none_once, once_by}

readying_none : (c : Cluster) (x : UpNode) (to : ℕ) → KeepsNone (cuts.readying_course c x to)
readying_none c x to = if_either KeepsNone (joins x.tasks) Stops (cuts.writing to (ready_of c x)) tt tt

installed_once : (c : Cluster) (n : ℕ) (x : UpNode) (from : ℕ) (i : Install) (seat : Seat) → x.seat ≡ seat → is_in x i.epoch ≡ true → SavesOnce (InstallsNow x i) n (cuts.installed_course c n x from i seat)
installed_once c n x from i (Member s) at here = none_once (InstallsNow x i) n (cuts.readying_course c x from) (readying_none c x from)
installed_once c n x from i (Forming s) at here =
    let y : UpNode = changed c n x (Installs s i) in
    by_test (SavesOnce (InstallsNow x i) n) (s.saved.installed == i.epoch) (cuts.readying_course c x from) (Keeps (Installs s i) (cuts.readying_course c y from))
    (λ done. none_once (InstallsNow x i) n (cuts.readying_course c x from) (readying_none c x from))
    (λ fresh. (record { state = s; seat = at; session = here; fresh = fresh }, refl, readying_none c y from))

install_once : (c : Cluster) (n : ℕ) (x : UpNode) (from : ℕ) (i : Install) → SavesOnce (InstallsNow x i) n (cuts.install_course c n x from i)
install_once c n x from i =
    by_test (SavesOnce (InstallsNow x i) n) (is_in x i.epoch) (cuts.installed_course c n x from i x.seat) (cuts.writing from (body.Nack i.epoch (promised_of x)))
    (λ here. installed_once c n x from i x.seat refl here) (λ there. tt)

-- a node in another second of the clock, which has heard more
same_installs : (x y : UpNode) (i : Install) → y.seat ≡ x.seat → is_in y i.epoch ≡ is_in x i.epoch → InstallsNow y i → InstallsNow x i
same_installs x y i seat session h = record { state = h.state; seat = sym seat ∙ h.seat; session = sym session ∙ h.session; fresh = h.fresh }

abbrev pub IsInstallBody : Body → Type 0
IsInstallBody (body.Install i) = Unit {0}
IsInstallBody _ = ⊥

body_install : (c : Cluster) (n : ℕ) (ends : method.Outcome) (x z : UpNode) (from : ℕ) (m : Message) (b : Body) → z.seat ≡ x.seat → ((e : ℕ) → is_in z e ≡ is_in x e) → IsInstallBody b → SavesOnce (InstallsAt x b) n (cuts.body_course c n ends z from m b)
body_install c n ends x z from m (body.Install i) seat session is = once_by (InstallsNow z i) (InstallsNow x i) n (cuts.install_course c n z from i) (same_installs x z i seat (session i.epoch)) (install_once c n z from i)
body_install c n ends x z from m _ seat session is = absurd is

pub install_saves : (c : Cluster) (n now : ℕ) (ends : method.Outcome) (x : UpNode) (from : ℕ) (m : Message) → IsInstallBody m.body → SavesOnce (InstallsAt x m.body) n (course_at c n now ends x (input.Packet from m))
install_saves c n now ends x from m is =
    let y : UpNode = at_second now x in
    let z : UpNode = hearing y from m.body in
    if_either (SavesOnce (InstallsAt x m.body) n) (is_foreign c n y m.body) Stops (Acts (Hears from m.body) (cuts.body_course c n ends z from m m.body)) tt
    (body_install c n ends x z from m m.body refl (λ e. refl) is)
