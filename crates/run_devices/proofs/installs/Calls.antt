-- A call keeps what an attempt has of its seizings, and what it installs then tells each of them.
use Rattle.std.specs.Prelude.{All, ℕ, ◌≡◌, ◌<◌, ◌≤◌, ◌⊎◌, Bool, true, false, List, None, Some}
use Rattle.std.specs.List.{AllByRecursion}
use Rattle.std.proofs.Common.{sym, ap, subst, ◌∙◌, inl, inr, arith}
use Rattle.attempt_laws.proofs.Goes.{chosen_reached, goes_by_call}
use Rattle.attempt_laws.proofs.Stays.{granted_stays, installs_come_before}
use Rattle.attempt_laws.proofs.Walk.{IsSeizing}
use Rattle.attempt_laws.specs.Asking.{numbers_of}
use Rattle.attempt_laws.specs.Staying.{IsBefore}
use Rattle.cl_base.specs.Seizings.{SeizeResult}
use Rattle.cl_base.specs.declared.header.Header.{Header}
use Rattle.cmm_attempt.proofs.Basics.{none_some}
use Rattle.cmm_attempt.specs.Attempts.{AttemptState, install_in}
use Rattle.cmm_attempt.specs.Calls.{IsDevice, Call, IsReached, Own_ready, Own_seized, Take, Tick, With_votes, installs_in, turn}
use Rattle.cmm_attempt.specs.Seizings.{all_settled}
use Rattle.cmm_attempt.specs.declared.phase.Phase.{Phase}
use Rattle.cmm_attempt.specs.declared.phase.Phase.TheVariants.{Choosing, Collecting, Installing, Over, SeizingOthers, SeizingVotes}
use Rattle.cmm_attempt.specs.declared.plan.Plan.{Plan}
use Rattle.cmm_member.specs.Nodes.{AreOfDevices, NodeState}
use Rattle.cmm_member.specs.Records.{NodeRecord}
use Rattle.device_queue.specs.Queue.{seizure_of}
use Rattle.history.specs.Moment.{Moment}
use Rattle.history.specs.Seizing.{keys_seized, progress_of}
use Rattle.membership_machine.specs.Invariant.{NodeOk}
use Rattle.membership_machine.specs.State.{Memberships}
use Rattle.node_model.specs.Seats.{session_of}
use Rattle.node_model.specs.declared.cluster.Cluster.{Cluster}
use Rattle.node_model.specs.declared.node.UpNode.{UpNode}
use Rattle.refinement.proofs.Attempts.{install_epoch, may_be_called}
use Rattle.refinement.specs.Guards.{MayCall}
use Rattle.refinement.specs.Ties.{Coordinates, Delivered, Seeks}
use Rattle.run_history.proofs.Changes.{At, at_attempt}
use Rattle.run_history.proofs.WholeChanges.{attached_of}
use Rattle.run_history.proofs.Held.{installing_before}
use Rattle.run_history.specs.Guards.{AtCall, HasEnded}
use Rattle.wire.specs.declared.message.Install.{Install}
use Rattle.run_seizings.proofs.Progress.{no_truth}
use Rattle.run_seizings.proofs.Turns.{Keeps}
use Rattle.run_seizings.specs.Seized.{has_installed}
use Rattle.run_devices.proofs.readings.Calls.{attempt_of, call_keeps}
use Rattle.run_devices.proofs.readings.Tasks.{ended_kept, kept_keys}
use Rattle.run_devices.specs.readings.Laws.{held_keys}
use Rattle.run_devices.specs.readings.Readings.{AreInOrder, AttemptSo, TasksRead}
use Rattle.run_devices.specs.readings.Sites.{UpSo}
use Rattle.run_devices.specs.installs.Shown.{AllAreTold, AreOfPlan, AttemptShown, BodyShown, EndedAs, EntryShown, IsCounted, ReadInOrder, Shown}
use Rattle.run_devices.proofs.installs.Asks.{IsLow, Sought, TellsSo, goes_on, installs_seized, promise_in}
use Rattle.run_devices.proofs.installs.Fulls.{installs_all, installs_apart, installs_order}
use Rattle.run_devices.proofs.installs.Turns.{EndsSo, Rests, before_seizing, turn_ends}
use Rattle.run_devices.proofs.readings.Order.{apart_of}

-- ---- what is known of the node

-- what is delivered is so
abbrev pub HandShown : Shown → Memberships → List Moment → Delivered → Type 0
HandShown K M ms None = Unit {0}
HandShown K M ms (Some d) = BodyShown K M ms d.0 d.1.body

abbrev pub HandLow : ℕ → Delivered → Type 0
HandLow high None = Unit {0}
HandLow high (Some d) = promise_in d.1.body ≤ high

pub record Known (h : Header) (c : Cluster) (M : Memberships) (n : ℕ) (told : Delivered) (high : ℕ) (K : Shown) (disk : NodeRecord) (x : UpNode) (ms : List Moment) : Type 0 where
  pub at : At c M n told disk x
  pub up : UpSo h ms n x
  pub low : HandLow high told
  pub hand : HandShown K M ms told

-- the lines show so by now
abbrev pub ShownNow : Header → Shown → List Moment → Type 0
ShownNow h K ms = (k e d : ℕ) → K k e d ≡ keys_seized h k e d ms

-- nobody has seized a device for e
abbrev pub NobodyHas : Shown → ℕ → Type 0
NobodyHas K e = (k d : ℕ) → K k e d ≡ None

-- An attempt: before it installs nobody has seized a device for it, or whoever did is the one that it asked last.
pub record Mine (K : Shown) (high : ℕ) (a : AttemptState) : Type 0 where
  pub before : IsBefore a.phase → (NobodyHas K a.plan.epoch) ⊎ ((d : ℕ) → Sought K high a.plan.epoch d a)
  pub shown : AttemptShown K a

-- ---- an attempt that is before its install was not counted

below_itself : (a b q : ℕ) → a < b → b ≡ q → q ≤ a → ⊥
below_itself a b q l same m = grind arith

seeks_so : (seeking : Bool) (phase : Phase) → IsBefore phase → Seeks seeking phase → seeking ≡ true
seeks_so seeking Collecting before k = k
seeks_so seeking Choosing before k = k
seeks_so seeking SeizingVotes before k = k
seeks_so seeking SeizingOthers before k = k
seeks_so seeking Installing before k = absurd before
seeks_so seeking Over before k = absurd before

pub uncounted : (c : Cluster) (M : Memberships) (n : ℕ) (told : Delivered) (disk : NodeRecord) (x : UpNode) (a : AttemptState) → At c M n told disk x → x.attempt ≡ Some a → IsBefore a.phase
    → (M.epoch a.plan.epoch).counted ≡ true → ⊥
uncounted c M n told disk x a at is before counted = at_attempt c M n told disk x a ⊥ at is by_tie
  where
    ok : NodeOk M.epoch n (M.node n)
    ok = at.holds.node n

    by_tie : (s : NodeState) → (M.node n).session ≡ s.session → Coordinates c M n s a → ⊥
    by_tie s session co =
        let seeks : (M.node n).seeking ≡ true = seeks_so (M.node n).seeking a.phase before co.seeks in
        let number : (M.node n).promised ≡ a.plan.epoch = sym (ok.seeking_session seeks) ∙ (session ∙ sym co.epoch) in
        below_itself (M.node n).saved.installed (M.node n).promised a.plan.epoch (ok.seeking_installs seeks) number
        (subst (λ k. a.plan.epoch ≤ (M.node k).saved.installed) (sym co.has.coordinator ∙ co.coordinator) ((at.holds.epoch a.plan.epoch).counted_installed counted))

-- ---- what a call tells

pub ended_reads : (h : Header) (ms : List Moment) (n d : ℕ) (x : UpNode) (r : SeizeResult) → 0 < session_of x → has_installed n (session_of x) ms ≡ false
    → HasEnded x.tasks d r → UpSo h ms n x → keys_seized h n (session_of x) d ms ≡ held_keys (Some r)
ended_reads h ms n d x r some none ended k =
    let read : TasksRead h ms n (session_of x) x.tasks = k.read some none in
    kept_keys (progress_of h n (session_of x) d ms) (seizure_of x.tasks d) (read.1 d) ∙ ap held_keys (ended_kept d r x.tasks read.0 ended)

call_tells : (h : Header) (c : Cluster) (M : Memberships) (n : ℕ) (told : Delivered) (high : ℕ) (K : Shown) (disk : NodeRecord) (x : UpNode) (ms : List Moment) (a : AttemptState) (q : Call)
    → Known h c M n told high K disk x ms → ShownNow h K ms → x.attempt ≡ Some a → MayCall c told a q → AtCall x q → IsBefore a.phase → TellsSo K a q
call_tells h c M n told high K disk x ms a (Take from m) k now is may at before d giver r tells = by_hand shown
  where
    so : AttemptSo h ms n (session_of x) a
    so = attempt_of h ms n (session_of x) x.attempt a is k.up.attempt

    shown : IsCounted M ms a.plan.epoch ⊎ EndedAs K a.plan.epoch d from r
    shown = subst (λ b. BodyShown K M ms from b) tells.1 (subst (λ t. HandShown K M ms t) may.0 k.hand)

    by_hand : IsCounted M ms a.plan.epoch ⊎ EndedAs K a.plan.epoch d from r → EndedAs K a.plan.epoch d giver r
    by_hand (inl (inl installed)) =
        absurd (no_truth (sym (so.before before) ∙ (ap (λ z. has_installed z a.plan.epoch ms) (sym so.own) ∙ installed)))
    by_hand (inl (inr counted)) = absurd (uncounted c M n told disk x a k.at is before counted)
    by_hand (inr ended) = subst (λ z. EndedAs K a.plan.epoch d z r) tells.0 ended
call_tells h c M n told high K disk x ms a (Own_seized device result) k now is may at before d giver r tells =
    let so : AttemptSo h ms n (session_of x) a = attempt_of h ms n (session_of x) x.attempt a is k.up.attempt in
    let me : a.plan.coordinator ≡ n = at_attempt c M n told disk x a (a.plan.coordinator ≡ n) k.at is (λ z shows co. co.coordinator) in
    let ended : HasEnded x.tasks d r = subst (λ z. HasEnded x.tasks d z) tells.1 (subst (λ z. HasEnded x.tasks z result) tells.0 at) in
    now giver a.plan.epoch d
    ∙ (ap (λ z. keys_seized h z a.plan.epoch d ms) (tells.2 ∙ me)
    ∙ (ap (λ e. keys_seized h n e d ms) so.epoch
    ∙ ended_reads h ms n d x r (subst (λ e. 0 < e) so.epoch so.some) (subst (λ e. has_installed n e ms ≡ false) so.epoch (so.before before)) ended k.up))
call_tells h c M n told high K disk x ms a (With_votes votes) k now is may at before d giver r tells = absurd tells
call_tells h c M n told high K disk x ms a Own_ready k now is may at before d giver r tells = absurd tells
call_tells h c M n told high K disk x ms a Tick k now is may at before d giver r tells = absurd tells

call_low : (c : Cluster) (told : Delivered) (high : ℕ) (a : AttemptState) (q : Call) → MayCall c told a q → HandLow high told → IsLow high q
call_low c told high a (Take from m) may low = subst (λ t. HandLow high t) may.0 low
call_low c told high a (With_votes votes) may low = tt
call_low c told high a (Own_seized device result) may low = tt
call_low c told high a Own_ready may low = tt
call_low c told high a Tick may low = tt

-- ---- the attempt after it

-- what it has of its seizings, before it installs
abbrev pub Rested : Shown → AttemptState → AttemptState → Type 0
Rested K a t = IsBefore a.phase → EndsSo (EndedAs K a.plan.epoch) t

rested : (h : Header) (c : Cluster) (M : Memberships) (n : ℕ) (told : Delivered) (high : ℕ) (K : Shown) (disk : NodeRecord) (x : UpNode) (ms : List Moment) (a : AttemptState) (q : Call)
    → Known h c M n told high K disk x ms → ShownNow h K ms → x.attempt ≡ Some a → MayCall c told a q → AtCall x q → Mine K high a → Rested K a (turn a q).after
rested h c M n told high K disk x ms a q k now is may at mine before =
    let so : AttemptSo h ms n (session_of x) a = attempt_of h ms n (session_of x) x.attempt a is k.up.attempt in
    turn_ends (EndedAs K a.plan.epoch) a q (apart_of (numbers_of a.plan.attached) so.attached) (call_tells h c M n told high K disk x ms a q k now is may at before) before
    (λ seizing. ((mine.shown.seizing seizing).0, so.apart, (mine.shown.seizing seizing).1))

seizing_after : (K : Shown) (a t : AttemptState) → Keeps (λ d. Unit {0}) a t → Rested K a t → IsSeizing t.phase
    → AllByRecursion (EntryShown K t.plan.epoch) t.devices × AreOfPlan t.plan t.devices
seizing_after K a t keeps rests is =
    let r : Rests (EndedAs K a.plan.epoch) t = (rests (keeps.1 (before_seizing t.phase is))).0 is in
    (subst (λ e. AllByRecursion (EntryShown K e) t.devices) (sym (ap (λ (p : Plan). p.epoch) keeps.0)) r.0, r.2)

-- it goes on
pub called : (h : Header) (c : Cluster) (M : Memberships) (n : ℕ) (told : Delivered) (high : ℕ) (K : Shown) (disk : NodeRecord) (x : UpNode) (ms : List Moment) (a : AttemptState) (q : Call)
    → Known h c M n told high K disk x ms → ShownNow h K ms → x.attempt ≡ Some a → MayCall c told a q → AtCall x q → installs_in (turn a q).steps ≡ None → Mine K high a
    → Mine K high (turn a q).after
called h c M n told high K disk x ms a q k now is may at none mine =
    let t : AttemptState = (turn a q).after in
    let keeps : Keeps (λ d. Unit {0}) a t = call_keeps c told a q may in
    let epoch : t.plan.epoch ≡ a.plan.epoch = ap (λ (p : Plan). p.epoch) keeps.0 in
    let rests : Rested K a t = rested h c M n told high K disk x ms a q k now is may at mine in
    record {
      before = λ later. by_before epoch (keeps.1 later) (mine.before (keeps.1 later));
      shown = record {
        seizing = seizing_after K a t keeps rests;
        installing = λ phase.
            let was : a.phase ≡ Installing = at_attempt c M n told disk x a (a.phase ≡ Installing) k.at is
            (λ z shows co. installing_before a q co.reached (may_be_called c told a q may) none phase) in
            subst (λ (i : Install). AllAreTold K t.plan.epoch i.readings) (sym (granted_stays a q (may_be_called c told a q may) was))
            (subst (λ e. AllAreTold K e (install_in a).readings) (sym epoch) (mine.shown.installing was));
      };
    }
  where
    by_before : (turn a q).after.plan.epoch ≡ a.plan.epoch → IsBefore a.phase → (NobodyHas K a.plan.epoch) ⊎ ((d : ℕ) → Sought K high a.plan.epoch d a)
        → (NobodyHas K (turn a q).after.plan.epoch) ⊎ ((d : ℕ) → Sought K high (turn a q).after.plan.epoch d (turn a q).after)
    by_before epoch before (inl nobody) = inl (subst (λ e. NobodyHas K e) (sym epoch) nobody)
    by_before epoch before (inr sought) = inr (λ d.
        subst (λ e. Sought K high e d (turn a q).after) (sym epoch)
        (goes_on K high d a q (may_be_called c told a q may) (call_low c told high a q may k.low) (call_tells h c M n told high K disk x ms a q k now is may at before) none (sought d)))

-- it installs
pub record Installed (K : Shown) (high : ℕ) (t : AttemptState) (i : Install) : Type 0 where
  pub mine : Mine K high t
  pub gives : i ≡ install_in t
  pub told : AllAreTold K i.epoch i.readings
  pub apart : AreOfDevices i.readings
  pub order : ReadInOrder i.readings

pub installs_so : (h : Header) (c : Cluster) (M : Memberships) (n : ℕ) (told : Delivered) (high : ℕ) (K : Shown) (disk : NodeRecord) (x : UpNode) (ms : List Moment) (a : AttemptState) (q : Call)
    (i : Install) → Known h c M n told high K disk x ms → ShownNow h K ms → x.attempt ≡ Some a → MayCall c told a q → AtCall x q → installs_in (turn a q).steps ≡ Some i → Mine K high a
    → Installed K high (turn a q).after i
installs_so h c M n told high K disk x ms a q i k now is may at some mine =
    at_attempt c M n told disk x a (Installed K high (turn a q).after i) k.at is (λ z shows co. by_reached co.reached)
  where
    t : AttemptState
    t = (turn a q).after

    keeps : Keeps (λ d. Unit {0}) a t
    keeps = call_keeps c told a q may

    epoch : t.plan.epoch ≡ a.plan.epoch
    epoch = ap (λ (p : Plan). p.epoch) keeps.0

    plan_order : AreInOrder (numbers_of t.plan.attached)
    plan_order = subst (λ (p : Plan). AreInOrder (numbers_of p.attached)) (sym keeps.0) (attempt_of h ms n (session_of x) x.attempt a is k.up.attempt).attached

    by_before : IsBefore a.phase → (NobodyHas K a.plan.epoch) ⊎ ((d : ℕ) → Sought K high a.plan.epoch d a) → Rests (EndedAs K a.plan.epoch) t × (all_settled t.devices ≡ true)
        → AllAreTold K a.plan.epoch (install_in t).readings
    by_before before (inl nobody) rests = λ j d keys seized. absurd (none_some keys (sym (nobody j d) ∙ seized))
    by_before before (inr sought) rests =
        installs_all K a.plan.epoch t
        (λ j d keys seized. installs_seized K high d j keys a q i (sym epoch) (may_be_called c told a q may) (call_low c told high a q may k.low)
        (call_tells h c M n told high K disk x ms a q k now is may at before) some (sought d) seized)
        rests.0.0 rests.0.2 rests.1

    by_reached : IsReached a → Installed K high t i
    by_reached reached =
        let gives : (t.phase ≡ Installing) × (i ≡ install_in t) = (goes_by_call a q (may_be_called c told a q may) (chosen_reached a reached)).install i some in
        let before : IsBefore a.phase = installs_come_before a q i reached (may_be_called c told a q may) some in
        let rests : Rested K a t = rested h c M n told high K disk x ms a q k now is may at mine in
        let all : AllAreTold K a.plan.epoch (install_in t).readings = by_before before (mine.before before) ((rests before).1 gives.0) in
        record {
          mine = record {
            before = λ later. absurd (subst IsBefore gives.0 later);
            shown = record {
              seizing = seizing_after K a t keeps rests;
              installing = λ phase. subst (λ e. AllAreTold K e (install_in t).readings) (sym epoch) all;
            };
          };
          gives = gives.1;
          told = subst (λ (j : Install). AllAreTold K j.epoch j.readings) (sym gives.1) (subst (λ e. AllAreTold K e (install_in t).readings) (sym (install_epoch t ∙ epoch)) all);
          apart = subst (λ (j : Install). AreOfDevices j.readings) (sym gives.1)
              (installs_apart t (subst (λ (p : Plan). All IsDevice p.attached) (sym keeps.0) (attached_of a reached))
              (apart_of (numbers_of t.plan.attached) plan_order));
          order = subst (λ (j : Install). ReadInOrder j.readings) (sym gives.1) (installs_order t plan_order);
        }
