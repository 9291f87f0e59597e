-- A member installs.
use Rattle.std.specs.Prelude.{ℕ, ◌≡◌, ◌≢◌, ◌<◌, ◌⊎◌, ◌==◌, ◌&&◌, ◌||◌, not, Bool, true, false, List, [], ◌∷◌, Option, None, Some, is_some, if◌then◌else◌}
use Rattle.std.proofs.Common.{refl, sym, ap, subst, ◌∙◌, inl, inr, arith}
use Rattle.std.specs.List.{AllByRecursion}
use Rattle.attempt_laws.specs.Asking.{DeviceHas, IsOthers}
use Rattle.attempt_laws.proofs.Left.{others_leave}
use Rattle.attempt_laws.proofs.Walk.{if_with}
use Rattle.cl_base.specs.Sets.{has}
use Rattle.cl_base.proofs.SetLemmas.{none_of_zero}
use Rattle.cluster_machine.specs.Cluster as whole
use Rattle.cluster_machine.specs.Cluster.{Apart, Cluster as Whole, Joining, Known, Membership, New, Seizer, install_at}
use Rattle.cluster_machine.proofs.Whole.{InOrder}
use Rattle.cmm_attempt.specs.Attempts.{AttemptState}
use Rattle.cmm_attempt.proofs.Basics.{false_true, same_number}
use Rattle.cmm_member.specs.Nodes.{NodeState, devices_after, has_key_of, installed_with}
use Rattle.device_machine.specs.Initiator as initiator
use Rattle.device_machine.specs.Initiator.{Initiator}
use Rattle.device_machine.specs.Sharing as sharing
use Rattle.device_machine.specs.Sharing.{MayInstall, Sharing}
use Rattle.device_machine.specs.Phase.{IsSeizing, Phase}
use Rattle.device_machine.proofs.Invariant.{Inv}
use Rattle.device_machine.proofs.Kept.{step_grows}
use Rattle.device_machine.proofs.Laws.{at_install}
use Rattle.device_queue.specs.declared.task.Task.{Task}
use Rattle.device_queue.specs.declared.task.Work.{Work}
use Rattle.device_queue.specs.declared.task.Work.TheVariants as work
use Rattle.device_queue.specs.Laws.{has_task}
use Rattle.device_queue.specs.Queue.{join_of, put_unless}
use Rattle.device_queue.specs.Tasks.{is_over_in, is_queued}
use Rattle.device_ties.specs.Devices.{DeviceTied}
use Rattle.device_ties.specs.Tasks as ties
use Rattle.device_ties.specs.Tasks.{JoiningTied, SeizingTied}
use Rattle.machine_base.proofs.Puts.{put_here, put_there}
use Rattle.membership_machine.specs.Events as membership
use Rattle.membership_machine.specs.Votes.{Setting}
use Rattle.node_model.specs.declared.cluster.Cluster.{Cluster}
use Rattle.node_model.specs.declared.node.UpNode.{UpNode}
use Rattle.node_model.specs.Attempts.{installing, is_to_join, joining_from}
use Rattle.node_model.specs.Clusters.{has_path}
use Rattle.node_model.specs.Seats.{state_of}
use Rattle.refinement.proofs.Worlds.{all_append}
use Rattle.seize.specs.Joining as joining
use Rattle.seize.specs.Seizing as seizing
use Rattle.seize.specs.Seizing.{SeizeState}
use Rattle.seize.specs.declared.kind.SeizeKind.{SeizeKind}
use Rattle.seize.specs.declared.step.SeizeStep.{SeizeStep}
use Rattle.seize.specs.declared.step.SeizeStep.TheVariants as seize
use Rattle.wire.specs.declared.lists.Reading.{Reading}
use Rattle.wire.specs.declared.message.Install.{Install}
use Rattle.wire.specs.Spelling.{IsDevices}
use Rattle.cluster_ties.specs.Ties.{AttemptAt, QueuedOnce, SeizingAt, TaskAt, UpAt, WorkAt}
use Rattle.cluster_ties.specs.Laws.{AreRead, InstallsGo, LacksDevice}
use Rattle.cluster_ties.proofs.Commands.{not_below}
use Rattle.cluster_ties.proofs.First.{in_order}
use Rattle.cluster_ties.proofs.Marks.{all_marks, joined_by, joins_by, reading_at, valid_by}
use Rattle.cluster_ties.proofs.Seizes.{has_more_task, joining_queued, once_more, or_none}
use Rattle.cluster_ties.proofs.Tasks.{Keeps, over_stays}

-- What an install is at a device, for its reading there.

abbrev pub joining_if : Bool → Bool → Joining
joining_if true known = Seizer
joining_if false true = Known
joining_if false false = New

abbrev pub joining_by : ℕ → Bool → Option Reading → Joining
joining_by n valid None = Apart
joining_by n valid (Some r) = joining_if (r.seizer == n) (has_key_of n r.keys && valid)

abbrev pub after_install : Joining → Initiator → Initiator
after_install Apart v = initiator.installing v
after_install Seizer v = initiator.admitted (initiator.installing v)
after_install Known v = initiator.admitted (initiator.installing v)
after_install New v = initiator.joining v

install_is : (s : Sharing) (j : Joining) (n : ℕ) → sharing.after s (install_at j n) ≡ sharing.at_node s n (after_install j (s.node n))
install_is s Apart n = refl
install_is s Seizer n = refl
install_is s Known n = refl
install_is s New n = refl

after_session : (j : Joining) (v : Initiator) → ((after_install j v).session ≡ v.session) × ((after_install j v).installed ≡ v.session)
after_session Apart v = (refl, refl)
after_session Seizer v = (refl, refl)
after_session Known v = (refl, refl)
after_session New v = (refl, refl)

-- what of its reading the machine has
abbrev pub ReadSo : Sharing → ℕ → Option Reading → Type 0
ReadSo s q None = Unit {0}
ReadSo s q (Some r) = ((s.attempt q).holds ≡ true) × ((s.attempt q).seizer ≡ r.seizer)

second_true : (a b : Bool) → (a && b) ≡ true → b ≡ true
second_true true b h = h
second_true false b h = absurd (false_true h)

pub install_allowed : (s : Sharing) (n q : ℕ) (valid : Bool) (o : Option Reading) → MayInstall s n → (s.node n).session ≡ q → (s.node n).valid ≡ valid → ReadSo s q o → sharing.Allowed s (install_at (joining_by n valid o) n)
install_allowed s n q valid None may session is read = may
install_allowed s n q valid (Some r) may session is read = go (r.seizer == n) (has_key_of n r.keys && valid) refl refl
  where
    holds : (s.attempt (s.node n).session).holds ≡ true
    holds = subst (λ z. (s.attempt z).holds ≡ true) (sym session) read.0

    go : (a b : Bool) → (r.seizer == n) ≡ a → (has_key_of n r.keys && valid) ≡ b → sharing.Allowed s (install_at (joining_if a b) n)
    go true b own known = (may, holds, subst (λ z. (s.attempt z).seizer ≡ n) (sym session) (read.1 ∙ same_number r.seizer n own))
    go false true own known = (may, holds, is ∙ second_true (has_key_of n r.keys) valid known)
    go false false own known = (may, holds)

-- The marks.

pub marks_by : (n : ℕ) (v : Initiator) (valid : Bool) (o : Option Reading) → v.valid ≡ valid → v.joined ≡ false
    → ((after_install (joining_by n valid o) v).valid ≡ valid_by n valid o) × ((after_install (joining_by n valid o) v).joined ≡ joined_by n valid false o)
marks_by n v valid None is none = (is, none)
marks_by n v valid (Some r) is none = go (r.seizer == n) (has_key_of n r.keys && valid)
  where
    go : (a b : Bool) → ((after_install (joining_if a b) v).valid ≡ (a || b)) × ((after_install (joining_if a b) v).joined ≡ (a || b))
    go true b = (refl, refl)
    go false true = (refl, refl)
    go false false = (refl, none)

-- a reading of a device is among those that were told
pub read_so : (W : Whole) (q : ℕ) (rs : List Reading) (d : ℕ) → AreRead W q rs → ReadSo (W.device d) q (reading_at rs d)
read_so W q [] d h = tt
read_so W q (r ∷ rs) d h = go (r.device == d) refl (read_so W q rs d h.2)
  where
    go : (b : Bool) → (r.device == d) ≡ b → ReadSo (W.device d) q (reading_at rs d) → ReadSo (W.device d) q (if b then Some r else reading_at rs d)
    go true is rest = subst (λ k. ((((W.device k).attempt q).holds ≡ true) × (((W.device k).attempt q).seizer ≡ r.seizer))) (same_number r.device d is) (h.0.holds, h.0.seizer)
    go false is rest = rest

-- Before an install no task is queued.

seizing_busy : (kind : SeizeKind) (cluster : ℕ) (step : SeizeStep) (v : Initiator) → is_some (seizing.result_at step) ≡ false → ties.StepTied kind cluster step v → IsSeizing v.phase
seizing_busy kind cluster seize.Check v queued h = subst IsSeizing (sym h.0) (omega arith, omega arith)
seizing_busy kind cluster seize.Register v queued h = by_save h.0
  where
    by_save : (v.phase ≡ Phase.Asked) ⊎ ((v.phase ≡ Phase.Untrusted) × (v.valid ≡ false)) → IsSeizing v.phase
    by_save (inl is) = subst IsSeizing (sym is) (omega arith, omega arith)
    by_save (inr both) = subst IsSeizing (sym both.0) (omega arith, omega arith)
seizing_busy kind cluster seize.ReadWord v queued h = subst IsSeizing (sym h) (omega arith, omega arith)
seizing_busy kind cluster (seize.Swap expected) v queued h = subst IsSeizing (sym h.0) (omega arith, omega arith)
seizing_busy kind cluster seize.Reserve v queued h = subst IsSeizing (sym h) (omega arith, omega arith)
seizing_busy kind cluster (seize.ReadKeys reading) v queued h = subst IsSeizing (sym h) (omega arith, omega arith)
seizing_busy kind cluster (seize.Preempt victim reading) v queued h = subst IsSeizing (sym h.0) (omega arith, omega arith)
seizing_busy kind cluster (seize.Confirm keys) v queued h = subst IsSeizing (sym h) (omega arith, omega arith)
seizing_busy kind cluster (seize.Ended r) v queued h = absurd (false_true (sym queued))

seizing_tied : (cluster n : ℕ) (s : Sharing) (t : SeizeState) (step : SeizeStep) → is_some (seizing.result_at step) ≡ false → SeizingAt cluster n s t step → SeizingTied cluster n s t
seizing_tied cluster n s t (seize.Ended r) queued h = absurd (false_true (sym queued))
seizing_tied cluster n s t seize.Check queued h = h.0
seizing_tied cluster n s t seize.Register queued h = h.0
seizing_tied cluster n s t seize.ReadWord queued h = h.0
seizing_tied cluster n s t (seize.Swap expected) queued h = h.0
seizing_tied cluster n s t seize.Reserve queued h = h.0
seizing_tied cluster n s t (seize.ReadKeys reading) queued h = h.0
seizing_tied cluster n s t (seize.Preempt victim reading) queued h = h.0
seizing_tied cluster n s t (seize.Confirm keys) queued h = h.0

low_of : (n : ℕ) (s : Sharing) → MayInstall s n → (s.node n).installed < (s.node n).session
low_of n s may = may.3

none_due : (c : Cluster) (W : Whole) (n d : ℕ) (w : Work) → Inv (W.device d) → MayInstall (W.device d) n → WorkAt c.id n (W.device d) w → (b : Bool) → is_over_in w ≡ b → b ≡ true
none_due c W n d w i may h true is = refl
none_due c W n d (work.Seizing t) i may h false is =
    absurd (at_install (W.device d) i n may (seizing_busy t.kind t.cluster t.step ((W.device d).node n) is (seizing_tied c.id n (W.device d) t t.step is h).step))
none_due c W n d (work.Joining j) i may h false is = absurd (not_below _ _ (joining_queued W n d c.id j j.step i refl h is) (low_of n (W.device d) may))

over_not : (b : Bool) → b ≡ true → not b ≡ false
over_not true h = refl
over_not false h = sym h

idle_here : (c : Cluster) (W : Whole) (n : ℕ) (t : Task) → Inv (W.device t.device) → MayInstall (W.device t.device) n → TaskAt c W n t → is_queued t ≡ false
idle_here c W n t i may h = over_not (is_over_in t.work) (none_due c W n t.device t.work i may h (is_over_in t.work) refl)

none_left : (c : Cluster) (W : Whole) (n e : ℕ) (tasks : List Task) → ((d : ℕ) → Inv (W.device d)) → ((d : ℕ) → MayInstall (W.device d) n) → AllByRecursion (TaskAt c W n) tasks → has_task e tasks ≡ false
none_left c W n e [] i may h = refl
none_left c W n e (t ∷ tasks) i may h = or_none ((t.device == e) && is_queued t) (has_task e tasks) (and_last (t.device == e) (is_queued t) (idle_here c W n t (i t.device) (may t.device) h.0)) (none_left c W n e tasks i may h.1)
  where
    and_last : (a b : Bool) → b ≡ false → (a && b) ≡ false
    and_last true b k = k
    and_last false b k = refl

all_over : (c : Cluster) (W V : Whole) (n : ℕ) (tasks : List Task) → ((d : ℕ) → Inv (W.device d)) → ((d : ℕ) → MayInstall (W.device d) n) → ((d : ℕ) → Keeps (W.device d) (V.device d) n)
    → AllByRecursion (TaskAt c W n) tasks → AllByRecursion (TaskAt c V n) tasks
all_over c W V n [] i may keeps h = tt
all_over c W V n (t ∷ tasks) i may keeps h =
    (over_stays c.id n (W.device t.device) (V.device t.device) t.work (keeps t.device) (idle_here c W n t (i t.device) (may t.device) h.0) h.0, all_over c W V n tasks i may keeps h.1)

-- The joinings that begin.

not_joined : (a b : Bool) → (a && not b) ≡ true → b ≡ false
not_joined true true h = absurd (false_true h)
not_joined true false h = refl
not_joined false b h = absurd (false_true h)

-- each of them is the machine's
abbrev JoinsSo : Cluster → Whole → ℕ → ℕ → ℕ → List Reading → Type 0
JoinsSo c V n e joined [] = Unit {0}
JoinsSo c V n e joined (r ∷ rs) = (has joined r.device ≡ false → JoiningTied c.id n (V.device r.device) (joining.begun e n c.id)) × JoinsSo c V n e joined rs

put_at : (c : Cluster) (V : Whole) (n : ℕ) (o : Option Task) (t : Task) (tasks : List Task) → TaskAt c V n t → AllByRecursion (TaskAt c V n) tasks → AllByRecursion (TaskAt c V n) (put_unless o t tasks)
put_at c V n None t tasks new h = all_append (TaskAt c V n) tasks t h new
put_at c V n (Some earlier) t tasks new h = h

put_once : (o : Option Task) (t : Task) (tasks : List Task) → has_task t.device tasks ≡ false → QueuedOnce tasks → QueuedOnce (put_unless o t tasks)
put_once None t tasks none h = once_more tasks t none h
put_once (Some earlier) t tasks none h = h

put_none : (o : Option Task) (t : Task) (tasks : List Task) (e : ℕ) → t.device ≢ e → has_task e tasks ≡ false → has_task e (put_unless o t tasks) ≡ false
put_none None t tasks e ne none = has_more_task e tasks t none (ap (λ b. b && is_queued t) (differ t.device e ne))
  where
    differ : (a b : ℕ) → a ≢ b → (a == b) ≡ false
    differ a b k = grind arith
put_none (Some earlier) t tasks e ne none = none

-- no task is queued at a device that was read
abbrev NoneAt : List Task → List Reading → Type 0
NoneAt tasks [] = Unit {0}
NoneAt tasks (r ∷ rs) = (has_task r.device tasks ≡ false) × NoneAt tasks rs

none_after : (o : Option Task) (t : Task) (tasks : List Task) (rs : List Reading) → LacksDevice t.device rs → NoneAt tasks rs → NoneAt (put_unless o t tasks) rs
none_after o t tasks [] lacks h = tt
none_after o t tasks (r ∷ rs) lacks h = (put_none o t tasks r.device (λ is. lacks.0 (sym is)) h.0, none_after o t tasks rs lacks.1 h.1)

record Begun (c : Cluster) (V : Whole) (n : ℕ) (tasks : List Task) : Type 0 where
  tasks_at : AllByRecursion (TaskAt c V n) tasks
  once_at : QueuedOnce tasks

joins_begin : (c : Cluster) (W V : Whole) (n e q joined : ℕ) (tasks : List Task) (rs : List Reading) → AreRead W q rs → JoinsSo c V n e joined rs → NoneAt tasks rs → Begun c V n tasks
    → Begun c V n (joining_from c n e joined tasks rs)
joins_begin c W V n e q joined tasks [] read so none h = h
joins_begin c W V n e q joined tasks (r ∷ rs) read so none h =
    let t : Task = record { device = r.device; work = work.Joining (joining.begun e n c.id) } in
    let more : List Task = put_unless (join_of tasks r.device) t tasks in
    if_with (λ b. Begun c V n (joining_from c n e joined b rs)) (is_to_join c n joined r) (is_to_join c n joined r) more tasks refl
    (λ is.
    joins_begin c W V n e q joined more rs read.2 so.1 (none_after (join_of tasks r.device) t tasks rs read.1 none.1) (record {
      tasks_at = put_at c V n (join_of tasks r.device) t tasks (so.0 (not_joined (has_path c.attached n r.device) (has joined r.device) is)) h.tasks_at;
      once_at = put_once (join_of tasks r.device) t tasks none.0 h.once_at;
    }))
    (λ is. joins_begin c W V n e q joined tasks rs read.2 so.1 none.1 h)

all_none : (tasks : List Task) (rs : List Reading) → ((e : ℕ) → has_task e tasks ≡ false) → NoneAt tasks rs
all_none tasks [] none = tt
all_none tasks (r ∷ rs) none = (none r.device, all_none tasks rs none)

-- where the node does not join by the install, it begins to: that is New
new_by : (n : ℕ) (valid : Bool) (r : Reading) → joins_by n valid r ≡ false → joining_by n valid (Some r) ≡ New
new_by n valid r h = go (r.seizer == n) (has_key_of n r.keys && valid) h
  where
    go : (a b : Bool) → (a || b) ≡ false → joining_if a b ≡ New
    go true b k = absurd (false_true (sym k))
    go false true k = absurd (false_true (sym k))
    go false false k = refl

reading_first : (r : Reading) (rs : List Reading) → reading_at (r ∷ rs) r.device ≡ Some r
reading_first r rs = go (r.device == r.device) (itself r.device)
  where
    itself : (k : ℕ) → (k == k) ≡ true
    itself k = grind arith

    go : (b : Bool) → b ≡ true → (if b then Some r else reading_at rs r.device) ≡ Some r
    go true is = refl
    go false is = absurd (false_true is)

reading_later : (first r : Reading) (rs : List Reading) → first.device ≢ r.device → reading_at rs r.device ≡ Some r → reading_at (first ∷ rs) r.device ≡ Some r
reading_later first r rs ne h = go (first.device == r.device) (differ first.device r.device ne)
  where
    differ : (a b : ℕ) → a ≢ b → (a == b) ≡ false
    differ a b k = grind arith

    go : (b : Bool) → b ≡ false → (if b then Some first else reading_at rs r.device) ≡ Some r
    go true is = absurd (false_true (sym is))
    go false is = h

-- each reading is that of its device
abbrev AllFound : List Reading → List Reading → Type 0
AllFound all [] = Unit {0}
AllFound all (r ∷ rs) = (reading_at all r.device ≡ Some r) × AllFound all rs

found_more : (first : Reading) (all rs : List Reading) → LacksDevice first.device rs → AllFound all rs → AllFound (first ∷ all) rs
found_more first all [] lacks h = tt
found_more first all (r ∷ rs) lacks h = (reading_later first r all (λ is. lacks.0 (sym is)) h.0, found_more first all rs lacks.1 h.1)

all_found_at : (W : Whole) (q : ℕ) (rs : List Reading) → AreRead W q rs → AllFound rs rs
all_found_at W q [] h = tt
all_found_at W q (r ∷ rs) h = (reading_first r rs, found_more r rs rs h.1 (all_found_at W q rs h.2))

joins_so : (c : Cluster) (V : Whole) (n e joined : ℕ) (all rs : List Reading) → AllFound all rs
    → ((d : ℕ) (r : Reading) → reading_at all d ≡ Some r → has joined d ≡ false → JoiningTied c.id n (V.device d) (joining.begun e n c.id)) → JoinsSo c V n e joined rs
joins_so c V n e joined all [] found f = tt
joins_so c V n e joined all (r ∷ rs) found f = (f r.device r found.0, joins_so c V n e joined all rs found.1 f)

-- The install, at each device.
module _ (c : Cluster) (U : Whole) (n q : ℕ) (s : NodeState) (i : Install) (order : (d : ℕ) → Inv (U.device d)) (may_install : (d : ℕ) → MayInstall (U.device d) n)
    (in_session : (d : ℕ) → ((U.device d).node n).session ≡ q) (valid_here : (d : ℕ) → ((U.device d).node n).valid ≡ has s.saved.valid d) (me : s.me ≡ n) (small : IsDevices s.saved.valid)
    (read : AreRead U q i.readings) where
  abbrev pub joining_at : ℕ → Joining
  joining_at d = joining_by n (has s.saved.valid d) (reading_at i.readings d)

  abbrev pub at_device : ℕ → Sharing
  at_device d = sharing.after (U.device d) (install_at (joining_at d) n)

  pub allowed : (d : ℕ) → sharing.Allowed (U.device d) (install_at (joining_at d) n)
  allowed d = install_allowed (U.device d) n q (has s.saved.valid d) (reading_at i.readings d) (may_install d) (in_session d) (valid_here d) (read_so U q i.readings d read)

  here : (d : ℕ) → (at_device d).node n ≡ after_install (joining_at d) ((U.device d).node n)
  here d = ap (λ z. z.node n) (install_is (U.device d) (joining_at d) n) ∙ put_here (U.device d).node n _

  pub others_at : (d k : ℕ) → k ≢ n → (at_device d).node k ≡ (U.device d).node k
  others_at d k ne = ap (λ z. z.node k) (install_is (U.device d) (joining_at d) n) ∙ put_there (U.device d).node n _ k ne

  pub device_at : (d : ℕ) → (at_device d).device ≡ (U.device d).device
  device_at d = ap (λ z. z.device) (install_is (U.device d) (joining_at d) n)

  quiet : (j : Joining) (p : ℕ) → IsOthers p (install_at j n)
  quiet Apart p = tt
  quiet Seizer p = tt
  quiet Known p = tt
  quiet New p = tt

  pub has_at : (a : AttemptState) (d : ℕ) → DeviceHas (U.device d) a d → DeviceHas (at_device d) a d
  has_at a d h = others_leave (U.device d) (install_at (joining_at d) n) a d h (allowed d) (quiet (joining_at d) a.plan.epoch)

  unjoined : (d : ℕ) → ((U.device d).node n).joined ≡ false
  unjoined d = by_mark ((U.device d).node n).joined refl
    where
      by_mark : (b : Bool) → ((U.device d).node n).joined ≡ b → b ≡ false
      by_mark true is = absurd (not_below _ _ (((order d).node n).joined_installed is) (may_install d).3)
      by_mark false is = refl

  after_marks : (d : ℕ) → (has (devices_after s i).valid d ≡ valid_by n (has s.saved.valid d) (reading_at i.readings d))
      × (has (devices_after s i).joined d ≡ joined_by n (has s.saved.valid d) false (reading_at i.readings d))
  after_marks d =
      let both = all_marks U q s.me (record { valid = s.saved.valid; joined = 0 }) i.readings d (small, omega arith) read in (
        both.0 ∙ ap (λ m. valid_by m (has s.saved.valid d) (reading_at i.readings d)) me,
        both.1 ∙ (ap (λ m. joined_by m (has s.saved.valid d) (has 0 d) (reading_at i.readings d)) me ∙ ap (λ b. joined_by n (has s.saved.valid d) b (reading_at i.readings d)) (none_of_zero d)),
      )

  keeps : (d : ℕ) → Keeps (U.device d) (at_device d) n
  keeps d = record {
    session = ap (λ (v : Initiator). v.session) (here d) ∙ (after_session (joining_at d) ((U.device d).node n)).0;
    grows = step_grows (U.device d) (install_at (joining_at d) n) (order d) (allowed d);
  }

  all_installed : (d : ℕ) → ((at_device d).node n).installed ≡ ((at_device d).node n).session
  all_installed d = ap (λ (v : Initiator). v.installed) (here d) ∙ ((after_session (joining_at d) ((U.device d).node n)).1 ∙ sym (keeps d).session)

  -- a device that was read and not joined is to be joined
  joins_new : (d : ℕ) (r : Reading) → reading_at i.readings d ≡ Some r → has (devices_after s i).joined d ≡ false → JoiningTied c.id n (at_device d) (joining.begun q n c.id)
  joins_new d r found none =
      let by : joins_by n (has s.saved.valid d) r ≡ false = sym (ap (λ o. joined_by n (has s.saved.valid d) false o) found) ∙ (sym (after_marks d).1 ∙ none) in
      let new : joining_at d ≡ New = ap (joining_by n (has s.saved.valid d)) found ∙ new_by n (has s.saved.valid d) r by in
      record {
        me = refl;
        of_cluster = refl;
        session = (keeps d).session ∙ in_session d;
        step = ap (λ (v : Initiator). v.phase) (here d ∙ ap (λ z. after_install z ((U.device d).node n)) new);
      }

  -- the node in a machine that is so at each device
  pub installed_at : (V : Whole) (x : UpNode) (tasks : List Task) → ((d : ℕ) → V.device d ≡ at_device d) → AllByRecursion (TaskAt c U n) tasks → QueuedOnce tasks → AttemptAt V x.attempt → q ≡ i.epoch
      → UpAt c V n (installing c n x s tasks i)
  installed_at V x tasks is old once attempt epoch =
      let begun : Begun c V n (joining_from c n i.epoch (installed_with s i).joined tasks i.readings) =
      joins_begin c U V n i.epoch q (installed_with s i).joined tasks i.readings read
      (joins_so c V n i.epoch (installed_with s i).joined i.readings i.readings (all_found_at U q i.readings read)
      (λ d r found none. subst (λ e. JoiningTied c.id n (V.device d) (joining.begun e n c.id)) epoch (subst (λ z. JoiningTied c.id n z (joining.begun q n c.id)) (sym (is d)) (joins_new d r found none))))
      (all_none tasks i.readings (λ e. none_left c U n e tasks order may_install old))
      (record { tasks_at = all_over c U V n tasks order may_install (λ d. subst (λ z. Keeps (U.device d) z n) (sym (is d)) (keeps d)) old; once_at = once }) in
      record {
        marks = λ d. record {
          valid = ap (λ z. (z.node n).valid) (is d)
              ∙ (ap (λ (v : Initiator). v.valid) (here d) ∙ ((marks_by n ((U.device d).node n) (has s.saved.valid d) (reading_at i.readings d) (valid_here d) (unjoined d)).0 ∙ sym (after_marks d).0));
          joined = ap (λ z. (z.node n).joined) (is d)
              ∙ (ap (λ (v : Initiator). v.joined) (here d) ∙ ((marks_by n ((U.device d).node n) (has s.saved.valid d) (reading_at i.readings d) (valid_here d) (unjoined d)).1 ∙ sym (after_marks d).1));
        };
        tasks = begun.tasks_at;
        once = begun.once_at;
        idle = λ d none low. absurd (not_below ((V.device d).node n).installed ((V.device d).node n).session (subst (λ z. (z.node n).installed ≡ (z.node n).session) (sym (is d)) (all_installed d)) low);
        attempt = attempt;
      }

-- A member installs.

pub below_positive : (a b : ℕ) → a < b → 0 < b
below_positive a b h = omega (arith, h)

pub may_install_at : (S : Setting) (W : Whole) (n q : ℕ) → InOrder S W → membership.Allowed S W.memberships (membership.Install n q) → (d : ℕ) → MayInstall (W.device d) n
may_install_at S W n q order may d =
    let in_session : ((W.device d).node n).session ≡ q = ((order.agrees d).node n).session ∙ may.2 in
    let counted : ((W.device d).attempt q).counted ≡ true = ((order.agrees d).attempt q).counted ∙ may.0 in (
      subst (λ z. 0 < z) (sym in_session) (below_positive (W.memberships.node n).saved.installed q may.3),
      subst (λ z. ((W.device d).attempt z).counted ≡ true) (sym in_session) counted,
      subst (λ z. ((W.device d).attempt z).members n ≡ true) (sym in_session) (((order.agrees d).attempt q).members (((order.device d).attempt q).collected_counted counted) n ∙ may.1),
      subst (λ z. z < ((W.device d).node n).session) (sym ((order.agrees d).node n).installed) (subst (λ z. (W.memberships.node n).saved.installed < z) (sym in_session) may.3),
    )

pub installs_go : InstallsGo
installs_go S c W n x s i devices reached tied at seat me small may read = record {
  machine = V;
  moves = record {
    events = Membership (membership.Install n q) (joining_at c W n q s i order.device may_at in_session valid_here me small read) ∷ [];
    run = ((may, (λ d. (allowed c W n q s i order.device may_at in_session valid_here me small read d, tt)), tt), refl);
    others = λ k ne. put_there W.memberships.node n _ k ne;
    others_at = λ d k ne. others_at c W n q s i order.device may_at in_session valid_here me small read d k ne;
    attempts = λ a ne h d. has_at c W n q s i order.device may_at in_session valid_here me small read a d (h d);
  };
  memberships = refl;
  devices_so = λ d. subst (λ z. DeviceTied c.id (devices d) z) (sym (device_at c W n q s i order.device may_at in_session valid_here me small read d)) (tied d);
  at = installed_at c W n q s i order.device may_at in_session valid_here me small read V x x.tasks (λ d. refl) at.tasks at.once (attempts x.attempt at.attempt) refl;
}
  where
    q : ℕ
    q = i.epoch

    order : InOrder S W
    order = in_order S W reached

    may_at : (d : ℕ) → MayInstall (W.device d) n
    may_at = may_install_at S W n q order may

    in_session : (d : ℕ) → ((W.device d).node n).session ≡ q
    in_session d = ((order.agrees d).node n).session ∙ may.2

    valid_here : (d : ℕ) → ((W.device d).node n).valid ≡ has s.saved.valid d
    valid_here d = (at.marks d).valid ∙ ap (λ z. has (state_of z).saved.valid d) seat

    V : Whole
    V = whole.after W (Membership (membership.Install n q) (joining_at c W n q s i order.device may_at in_session valid_here me small read))

    attempts : (o : Option AttemptState) → AttemptAt W o → AttemptAt V o
    attempts None h = tt
    attempts (Some a) h = λ d. has_at c W n q s i order.device may_at in_session valid_here me small read a d (h d)
