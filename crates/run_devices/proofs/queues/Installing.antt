-- A node that installs another's session, where not only the lines tell, has shown what it holds valid.
use Rattle.std.specs.Prelude.{ℕ, ◌≡◌, ◌≢◌, ◌<◌, ◌==◌, ◌⊎◌, nat_le, Bool, true, false, List, [], ◌∷◌, Some, if◌then◌else◌}
use Rattle.std.proofs.Common.{arith, refl, sym, ap, subst, ◌∙◌, inl, inr}
use Rattle.cl_base.specs.declared.method.Outcome as method
use Rattle.cmm_attempt.proofs.Basics.{and_cases, same_number}
use Rattle.cmm_member.specs.Nodes.{NodeState}
use Rattle.cmm_member.specs.Records.{NodeRecord}
use Rattle.device_queue.specs.Queue.{joins}
use Rattle.history.specs.Moment.{Moment}
use Rattle.history.specs.Setting.{coordinator}
use Rattle.history.specs.Trace.{saved}
use Rattle.node_model.specs.Members.{hearing, is_foreign, ready_of}
use Rattle.node_model.specs.Seats.{installed_of, is_in, promised_of, record_of, session_of, state_of}
use Rattle.node_model.specs.Steps.{at_second}
use Rattle.node_model.specs.declared.cluster.Cluster.{Cluster}
use Rattle.node_model.specs.declared.input.Input.{Input}
use Rattle.node_model.specs.declared.input.Input.TheVariants as input
use Rattle.node_model.specs.declared.node.Node.{Node}
use Rattle.node_model.specs.declared.node.Node.TheVariants.{Down, Up}
use Rattle.node_model.specs.declared.node.UpNode.{UpNode}
use Rattle.node_model.specs.declared.seat.Seat.{Seat}
use Rattle.node_model.specs.declared.seat.Seat.TheVariants.{Forming, Member}
use Rattle.refinement.proofs.Handlers.{delivered_by}
use Rattle.refinement.specs.Courses.{Reply, under}
use Rattle.refinement.specs.Courses.Course.{Acts, Keeps, Stops}
use Rattle.refinement.specs.Courses.Reply.{Done, Lost_new, Lost_old}
use Rattle.refinement.specs.Cuts.{body_course, doings, install_course, installed_course, readying_course, writing}
use Rattle.refinement.specs.Doings.{Change, Doing, Site, changed, effect, gives, site}
use Rattle.refinement.specs.Doings.Act.{Hears}
use Rattle.refinement.specs.Doings.Change.{Acks, Admits, Commits, Counts, Distrusts, Installs, Leads, Prepares, Promises, Proposes, Sits, Starts}
use Rattle.refinement.specs.Doings.Doing.{Comes_up, Does, Forgets, Goes_down, Loses, Saves}
use Rattle.refinement.specs.Guards.{Says}
use Rattle.refinement.specs.Ties.{Delivered}
use Rattle.run_history.specs.Happenings.{IsPlain}
use Rattle.run_history.specs.Scenes.{Scene, passing}
use Rattle.run_seizings.proofs.Progress.{no_truth}
use Rattle.run_seizings.proofs.Promising.{same_so}
use Rattle.run_devices.specs.queues.Kept.{AllShow, DoingShows}
use Rattle.run_devices.specs.queues.Views.{ShownAs, View}
use Rattle.wire.specs.declared.message.Body.{Body}
use Rattle.wire.specs.declared.message.Body.TheVariants as body
use Rattle.wire.specs.declared.message.Install.{Install}
use Rattle.wire.specs.declared.message.Message.{Message}

-- ---- none is installed

-- no Install is delivered
abbrev pub NoInstall : Delivered → Type 0
NoInstall told = (i : Install) → Says (λ b. b ≡ body.Install i) told → ⊥

save_shows : (S : View) (n : ℕ) (told : Delivered) (ms : List Moment) (ch : Change) → (S.alone ≡ false → NoInstall told) → DoingShows S n told ms (Saves ch)
save_shows S n told ms (Installs r i) ban = λ besides says other. absurd (ban besides i says)
save_shows S n told ms (Promises p) ban = tt
save_shows S n told ms (Leads p members) ban = tt
save_shows S n told ms (Counts a k r i) ban = tt
save_shows S n told ms (Starts a k r) ban = tt
save_shows S n told ms (Sits r e) ban = tt
save_shows S n told ms (Proposes r p text) ban = tt
save_shows S n told ms (Acks r p q left text) ban = tt
save_shows S n told ms (Prepares r text) ban = tt
save_shows S n told ms (Commits r) ban = tt
save_shows S n told ms (Distrusts d) ban = tt
save_shows S n told ms (Admits at k a d) ban = tt

doing_shows : (S : View) (n : ℕ) (told : Delivered) (ms : List Moment) (d : Doing) → (S.alone ≡ false → NoInstall told) → DoingShows S n told ms d
doing_shows S n told ms (Saves ch) ban = save_shows S n told ms ch ban
doing_shows S n told ms Comes_up ban = tt
doing_shows S n told ms (Goes_down why) ban = tt
doing_shows S n told ms (Does a) ban = tt
doing_shows S n told ms (Loses ch why) ban = tt
doing_shows S n told ms (Forgets ch why) ban = tt

pub calm_shows : (S : View) (c : Cluster) (n : ℕ) (told : Delivered) (x : Site) (ds : List Doing) (s : Scene) → (S.alone ≡ false → NoInstall told) → AllShow S c n told x ds s
calm_shows S c n told x [] s ban = tt
calm_shows S c n told x (d ∷ ds) s ban =
    (doing_shows S n told s.moments d ban, calm_shows S c n told (effect c n x d) ds (passing n (gives c n x d) s) ban)

plain_none : (i : Input) → IsPlain i → NoInstall (delivered_by i)
plain_none (input.Packet from m) k q says = absurd k
plain_none input.Boot k q says = says
plain_none input.Crash k q says = says
plain_none input.Tick k q says = says
plain_none input.CommandDue k q says = says
plain_none (input.Answered a) k q says = says
plain_none (input.Wrote d value a) k q says = says
plain_none (input.Commanded words) k q says = says
plain_none (input.Reported r good) k q says = says
plain_none (input.Client address client port) k q says = says

pub no_packet : (S : View) (c : Cluster) (n : ℕ) (i : Input) (x : Site) (ds : List Doing) (s : Scene) → IsPlain i → AllShow S c n (delivered_by i) x ds s
no_packet S c n i x ds s plain = calm_shows S c n (delivered_by i) x ds s (λ besides. plain_none i plain)

-- ---- an Install is delivered

-- what holds of the node that it comes to, in lines up to it
abbrev pub ShowsAt : View → List Moment → ℕ → Body → Node → Type 0
ShowsAt S ms n b Down = Unit {0}
ShowsAt S ms n b (Up x) =
    S.alone ≡ false → (i : Install) → b ≡ body.Install i → (coordinator i.epoch == n) ≡ false → 0 < i.epoch → session_of x ≡ i.epoch → installed_of x ≢ session_of x
    → ShownAs S.setting n i.epoch (record_of x).valid (saved n ∷ ms)

pub lines_show : (S : View) (ms : List Moment) (n : ℕ) (b : Body) (node : Node) → S.alone ≡ true → ShowsAt S ms n b node
lines_show S ms n b Down lines = tt
lines_show S ms n b (Up x) lines = λ besides. absurd (no_truth (sym besides ∙ lines))

-- the steps behind it bring none
readied : (S : View) (c : Cluster) (n : ℕ) (told : Delivered) (z : Site) (y : UpNode) (from : ℕ) (replies : List Reply) (s : Scene)
    → AllShow S c n told z (under replies (readying_course c y from)) s
readied S c n told z y from replies s = by_test (joins y.tasks)
  where
    by_test : (b : Bool) → AllShow S c n told z (under replies (if b then Stops else writing from (ready_of c y))) s
    by_test true = tt
    by_test false = (tt, tt)

installed_shows : (S : View) (c : Cluster) (n : ℕ) (told : Delivered) (x : UpNode) (disk : NodeRecord) (from : ℕ) (i : Install) (replies : List Reply) (s : Scene) (seat : Seat)
    → state_of seat ≡ state_of x.seat → session_of x ≡ i.epoch
    → (S.alone ≡ false → (coordinator i.epoch == n) ≡ false → installed_of x ≢ session_of x → ShownAs S.setting n i.epoch (record_of x).valid (saved n ∷ s.moments))
    → AllShow S c n told (site (Up x) disk) (under replies (installed_course c n x from i seat)) s
installed_shows S c n told x disk from i replies s (Member r) same session k = readied S c n told (site (Up x) disk) x from replies s
installed_shows S c n told x disk from i replies s (Forming r) same session k = by_test (r.saved.installed == i.epoch) refl replies
  where
    z : Site
    z = site (Up x) disk

    ch : Change
    ch = Installs r i

    shown : (r.saved.installed == i.epoch) ≡ false → DoingShows S n told s.moments (Saves (Installs r i))
    shown off besides says other =
        subst (λ (t : NodeState). ShownAs S.setting n i.epoch t.saved.valid (saved n ∷ s.moments)) (sym same)
        (k besides other (λ is. no_truth (sym off ∙ same_so r.saved.installed i.epoch (ap (λ (t : NodeState). t.saved.installed) same ∙ (is ∙ session)))))

    by_test : (b : Bool) → (r.saved.installed == i.epoch) ≡ b → (replies : List Reply)
        → AllShow S c n told z (under replies (if b then readying_course c x from else Keeps (Installs r i) (readying_course c (changed c n x (Installs r i)) from))) s
    by_test true is rs = readied S c n told z x from rs s
    by_test false off [] = (tt, tt)
    by_test false off (Done ∷ rs) =
        (shown off, readied S c n told (effect c n z (Saves ch)) (changed c n x (Installs r i)) from rs (passing n (gives c n z (Saves ch)) s))
    by_test false off (Lost_new why ∷ rs) = (tt, tt)
    by_test false off (Lost_old why ∷ rs) = (tt, tt)

install_shows : (S : View) (c : Cluster) (n : ℕ) (told : Delivered) (x : UpNode) (disk : NodeRecord) (from : ℕ) (i : Install) (replies : List Reply) (s : Scene)
    → (S.alone ≡ false → (coordinator i.epoch == n) ≡ false → 0 < i.epoch → session_of x ≡ i.epoch → installed_of x ≢ session_of x
    → ShownAs S.setting n i.epoch (record_of x).valid (saved n ∷ s.moments))
    → AllShow S c n told (site (Up x) disk) (under replies (install_course c n x from i)) s
install_shows S c n told x disk from i replies s k = by_test (is_in x i.epoch) refl
  where
    above : (a : ℕ) → nat_le 1 a ≡ true → 0 < a
    above a is = grind arith

    by_test : (b : Bool) → is_in x i.epoch ≡ b
        → AllShow S c n told (site (Up x) disk) (under replies (if b then installed_course c n x from i x.seat else writing from (body.Nack i.epoch (promised_of x)))) s
    by_test true inside =
        let session : session_of x ≡ i.epoch = same_number (session_of x) i.epoch (and_cases (nat_le 1 i.epoch) (session_of x == i.epoch) inside).1 in
        installed_shows S c n told x disk from i replies s x.seat refl session (λ besides other fresh. k besides other (above i.epoch (and_cases (nat_le 1 i.epoch) (session_of x == i.epoch) inside).0) session fresh)
    by_test false outside = (tt, tt)

abbrev IsInstall : Body → Type 0
IsInstall (body.Install i) = Unit {0}
IsInstall _ = ⊥

record Brings (b : Body) : Type 0 where
  install : Install
  is : b ≡ body.Install install

brings_or : (b : Body) → (IsInstall b → ⊥) ⊎ Brings b
brings_or (body.Install i) = inr (record { install = i; is = refl })
brings_or _ = inl (λ z. z)

pub shows_of : (S : View) (c : Cluster) (n now : ℕ) (ends : method.Outcome) (replies : List Reply) (from : ℕ) (m : Message) (node : Node) (disk : NodeRecord) (s : Scene)
    → ShowsAt S s.moments n m.body node → AllShow S c n (Some (from, m)) (site node disk) (doings c n now ends replies (input.Packet from m) node) s
shows_of S c n now ends replies from m Down disk s k = tt
shows_of S c n now ends replies from m (Up x) disk s k = by_body (brings_or m.body)
  where
    y : UpNode
    y = at_second now x

    by_body : (IsInstall m.body → ⊥) ⊎ Brings m.body → AllShow S c n (Some (from, m)) (site (Up x) disk) (doings c n now ends replies (input.Packet from m) (Up x)) s
    by_body (inl ban) =
        calm_shows S c n (Some (from, m)) (site (Up x) disk) (doings c n now ends replies (input.Packet from m) (Up x)) s
        (λ besides i says. ban (subst IsInstall (sym says) tt))
    by_body (inr b) = (
      tt,
      subst
          (λ z. AllShow S c n (Some (from, m)) (site (Up y) disk)
          (under replies (if is_foreign c n y z then Stops else Acts (Hears from z) (body_course c n ends (hearing y from z) from m z))) s) (sym b.is) (by_foreign (is_foreign c n y (body.Install b.install))),
    )
      where
        by_foreign : (f : Bool)
            → AllShow S c n (Some (from, m)) (site (Up y) disk)
            (under replies (if f then Stops else Acts (Hears from (body.Install b.install)) (install_course c n (hearing y from (body.Install b.install)) from b.install))) s
        by_foreign true = tt
        by_foreign false = (
          tt,
          install_shows S c n (Some (from, m)) (hearing y from (body.Install b.install)) disk from b.install replies s
              (λ besides other some session fresh. k besides b.install b.is other some session fresh),
        )
