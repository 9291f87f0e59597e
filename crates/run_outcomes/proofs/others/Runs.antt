-- Each run: the tasks that are told where what nodes hold valid counts are those of the node.
use Rattle.std.specs.Prelude.{ℕ, ◌%◌, ◌^◌, ◌≡◌, ◌≢◌, ◌<◌, ◌≤◌, ◌==◌, ◌++◌, nat_lt, Bool, true, false, List, [], ◌∷◌, filter, length, Some}
use Rattle.std.specs.List.{AllByRecursion}
use Rattle.std.proofs.Common.{refl, sym, ap, subst, ◌∙◌}
use Rattle.cl_base.specs.Limits.{most_devices, most_nodes}
use Rattle.cl_base.specs.declared.header.Header.{Header}
use Rattle.cmm_attempt.proofs.Basics.{false_true}
use Rattle.device_queue.specs.Tasks.{is_queued}
use Rattle.history.specs.Moment.{Moment}
use Rattle.history.specs.Queue as told
use Rattle.history.specs.Seizing.{seizing_of}
use Rattle.history.specs.Setting.{coordinator}
use Rattle.history.specs.Trace.{delivered, saved}
use Rattle.history_setting.specs.Settings.{setting_of}
use Rattle.interconnect.specs.Links.{Packet}
use Rattle.node_model.specs.Seats.{installed_of, session_of}
use Rattle.node_model.specs.declared.cluster.Cluster.{Cluster}
use Rattle.node_model.specs.declared.node.Node.{Node}
use Rattle.node_model.specs.declared.node.Node.TheVariants.{Down, Up}
use Rattle.node_model.specs.declared.node.UpNode.{UpNode}
use Rattle.refinement.proofs.Worlds.{all_found}
use Rattle.run_seizings.proofs.Promising.{same_so}
use Rattle.run_devices.specs.queues.Laws.{HasTasks, NodeHas, Same, queued}
use Rattle.run_devices.specs.queues.Views.{IsAsk, View, told_tasks}
use Rattle.run_devices.proofs.queues.Alone.{besides_of}
use Rattle.run_devices.proofs.queues.Happens.{ValidAt}
use Rattle.run_devices.proofs.queues.Histories.{told_so}
use Rattle.run_devices.proofs.queues.Installing.{ShowsAt}
use Rattle.run_devices.proofs.queues.Moments.{TrustedAt}
use Rattle.run_devices.proofs.queues.Runs.{Comes_to, comes_by, first_comes, has_told}
use Rattle.run_history.specs.Happenings.{Happening, MayAllHappen, MayHappen, all_happened, happened}
use Rattle.run_history.specs.Happenings.Happening.{Arrives}
use Rattle.run_history.specs.Scenes.{Scene, first_scene}
use Rattle.run_history.specs.Shapes.{Due, ShapedFrom, nothing}
use Rattle.run_history.specs.WorldLines.{AreDisks}
use Rattle.run_packets.specs.native.Laws.{BootsInHeader}
use Rattle.run_packets.specs.views.Laws.{NoneForeign}
use Rattle.wire.specs.Reads.{whole_of}
use Rattle.wire.specs.declared.message.Body.{Body}
use Rattle.wire.specs.declared.message.Message.{Message}
use Rattle.world_model.specs.First.{first_cluster}
use Rattle.run_outcomes.specs.tasks.Laws.{AskedMaySeize, MaySeize, OfEachLeft, ShownValid, seizes_plainly}
use Rattle.run_outcomes.specs.tasks.Left.{HasQueue}
use Rattle.run_outcomes.specs.tasks.Others.{PlainIsOwn}
use Rattle.run_outcomes.proofs.asks.Lines.{left_before}
use Rattle.run_outcomes.proofs.others.Ends.{LastDue, all_before, last_due, last_may}
use Rattle.run_outcomes.proofs.others.Stays.{delivered_seizing, saved_seizing}
use Rattle.run_outcomes.proofs.rounds_told.Numbers.{happened_next}
use Rattle.run_outcomes.proofs.told_tasks.Prefixes.{by_last, happened_last, may_before, native_before}

-- ---- what a node holds valid

-- a point of a run
pub record Point (h : Header) (cells : ℕ) (hs : List Happening) : Type 0 where
  pub last : Due
  pub nodes : h.nodes ≤ most_nodes
  pub few : length h.devices ≤ most_devices
  pub small : h.cluster < 2 ^ 32
  pub disks : AreDisks h
  pub may : MayAllHappen (first_cluster h) (first_scene h cells) hs
  pub shaped : ShapedFrom (first_cluster h) (first_scene h cells) nothing hs last
  pub native : NoneForeign (first_cluster h) (first_scene h cells) hs
  pub boots : AllByRecursion (BootsInHeader h) hs
  pub left : nat_lt (all_happened (first_cluster h) (first_scene h cells) hs).links.next (2 ^ 63) ≡ true

asked_valid : (S : View) (ms : List Moment) (n : ℕ) (b : Body) (node : Node) → MaySeize node b → TrustedAt S ms n b node
asked_valid S ms n b Down k = tt
asked_valid S ms n b (Up y) k = λ e members d is native trusted session fresh. (subst (MaySeize (Up y)) is k) session fresh

shown_here : ShownValid → PlainIsOwn → (h : Header) (cells : ℕ) (hs : List Happening) → Point h cells hs → (n p a : ℕ) (b : Body) (node : Node)
    → node ≡ (all_happened (first_cluster h) (first_scene h cells) hs).nodes.node n
    → ShowsAt (besides_of (setting_of h)) (delivered p a n ∷ (all_happened (first_cluster h) (first_scene h cells) hs).moments) n b node
shown_here shown plain h cells hs z n p a b Down at = tt
shown_here shown plain h cells hs z n p a b (Up y) at = λ besides i is other some session fresh d ask.
    shown h cells hs z.nodes z.few z.small z.may z.boots z.left n y (sym at) (subst (λ q. 0 < q) (sym session) some) fresh
    (λ own. false_true (sym other ∙ same_so (coordinator i.epoch) n (ap (λ q. q % 64) (sym session) ∙ own))) d ask.device
    (not_plain i.epoch d session fresh ask)
  where
    s : Scene
    s = all_happened (first_cluster h) (first_scene h cells) hs

    not_plain : (e d : ℕ) → session_of y ≡ e → installed_of y ≢ session_of y → IsAsk (setting_of h) n e d (saved n ∷ delivered p a n ∷ s.moments) → seizes_plainly d y.tasks ≡ false
    not_plain e d session fresh ask = by_test (seizes_plainly d y.tasks) refl
      where
        found : seizing_of h (session_of y) d s.moments ≡ Some ask.found
        found =
            ap (λ q. seizing_of h q d s.moments) session
            ∙ (sym (delivered_seizing h e d p a n s.moments) ∙ (sym (saved_seizing h e d n (delivered p a n ∷ s.moments)) ∙ ask.seized))

        by_test : (t : Bool) → seizes_plainly d y.tasks ≡ t → t ≡ false
        by_test true is =
            absurd (false_true (sym ask.other ∙ same_so ask.found.seizer n
            (plain h cells hs z.last z.few z.small z.disks z.may z.shaped z.native n y d ask.found (sym at) ask.device fresh is found)))
        by_test false is = refl

-- ---- along the run

valid_next : AskedMaySeize → ShownValid → PlainIsOwn → (h : Header) (cells : ℕ) (hs : List Happening) → Point h cells hs → (x : Happening)
    → MayHappen (first_cluster h) (all_happened (first_cluster h) (first_scene h cells) hs) x
    → ValidAt (besides_of (setting_of h)) (all_happened (first_cluster h) (first_scene h cells) hs) x
valid_next ask shown plain h cells hs z (Arrives number x m now ends) may =
    let s : Scene = all_happened (first_cluster h) (first_scene h cells) hs in (
      asked_valid (besides_of (setting_of h)) s.moments x.to m.body (s.nodes.node x.to)
          (all_found (λ (p : Packet). (m : Message) → whole_of p.bytes ≡ Some m → MaySeize (s.nodes.node p.to) m.body) (λ (p : Packet). p.number == number) s.links.packets x
          (ask h cells hs z.last z.few z.small z.disks z.may z.shaped z.native) may.0 m may.1),
      shown_here shown plain h cells hs z x.to number x.from m.body (s.nodes.node x.to) refl,
    )
valid_next ask shown plain h cells hs z _ may = tt

run_besides : AskedMaySeize → ShownValid → PlainIsOwn → (h : Header) (cells : ℕ) (hs : List Happening) → (z : Point h cells hs)
    → Comes_to (besides_of (setting_of h)) cells (all_happened (first_cluster h) (first_scene h cells) hs) z.last.wants
run_besides asked shown plain h cells hs = by_last P first next hs
  where
    c : Cluster
    c = first_cluster h

    V : View
    V = besides_of (setting_of h)

    P : List Happening → Type 0
    P xs = (z : Point h cells xs) → Comes_to V cells (all_happened c (first_scene h cells) xs) z.last.wants

    first : P []
    first z = subst (λ (d : Due). Comes_to V cells (first_scene h cells) d.wants) z.shaped (first_comes V cells z.few z.disks)

    next : (xs : List Happening) (x : Happening) → P xs → P (xs ++ x ∷ [])
    next xs x k z =
        let r : LastDue c (first_scene h cells) nothing z.last xs x = last_due c (first_scene h cells) nothing z.last xs x z.shaped in
        let may : MayHappen c (all_happened c (first_scene h cells) xs) x = last_may c (first_scene h cells) xs x z.may in
        let s : Scene = all_happened c (first_scene h cells) xs in
        let left : nat_lt (happened c s x).links.next (2 ^ 63) ≡ true =
        subst (λ (t : Scene). nat_lt t.links.next (2 ^ 63) ≡ true) (happened_last c (first_scene h cells) xs x) z.left in
        let y : Point h cells xs = record {
          last = r.mid;
          nodes = z.nodes;
          few = z.few;
          small = z.small;
          disks = z.disks;
          may = may_before c (first_scene h cells) xs (x ∷ []) z.may;
          shaped = r.shaped;
          native = native_before c (first_scene h cells) xs (x ∷ []) z.native;
          boots = all_before (BootsInHeader h) xs (x ∷ []) z.boots;
          left = left_before s.links.next (happened c s x).links.next (happened_next c s x) left;
        } in
        subst (λ (t : Scene). Comes_to V cells t z.last.wants) (sym (happened_last c (first_scene h cells) xs x))
        (subst (λ (d : Due). Comes_to V cells (happened c s x) d.wants) r.next
        (comes_by V cells z.few z.small s r.mid x (λ b valid. valid_next asked shown plain h cells xs y x may) may r.due (k y)))

-- ---- the queue, where it is told

pub queue_besides : AskedMaySeize → ShownValid → PlainIsOwn → OfEachLeft (λ h s. (n : ℕ) (x : UpNode) (ts : List told.Task) → s.nodes.node n ≡ Up x
    → told_tasks (besides_of (setting_of h)) n s.moments ≡ Some ts → HasQueue h s n x)
queue_besides asked shown plain h cells hs last nodes few small disks may shaped native boots left n x ts up is =
    let s : Scene = all_happened (first_cluster h) (first_scene h cells) hs in
    let V : View = besides_of (setting_of h) in
    let has_them : HasTasks x ts =
    subst (λ z. NodeHas z ts) up
    (has_told V cells s last.wants n few small
    (run_besides asked shown plain h cells hs (record { last = last; nodes = nodes; few = few; small = small; disks = disks; may = may; shaped = shaped; native = native; boots = boots; left = left })) ts is) in
    subst (λ us. Same (filter is_queued x.tasks) (queued us)) (sym (told_so V n s.moments ts is)) has_them.queue
