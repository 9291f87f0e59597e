-- What an attempt of a node is told of devices, and what it sends.
use Rattle.std.specs.Prelude.{All, Bool, List, None, Option, Some, [], false, nat_le, true, ℕ, ◌<◌, ◌∷◌, ◌≡◌}
use Rattle.std.specs.List.{AllByRecursion, list_any}
use Rattle.std.proofs.Common.{ap, inl, inr, refl, subst, sym, ◌∙◌}
use Rattle.std.proofs.lemmas.List.Elements.{All-head, All-tail}
use Rattle.attempt_laws.specs.Asking.{numbers_of}
use Rattle.attempt_laws.specs.Sending.{IsOwn, IsOwnStep}
use Rattle.cl_base.specs.Seizings.{SeizeResult}
use Rattle.cl_base.specs.declared.header.Header.{Header}
use Rattle.cl_base.specs.declared.seizing.SeizeEnd.TheVariants as end
use Rattle.cmm_attempt.specs.Attempts.{AttemptState, install_in}
use Rattle.cmm_attempt.specs.Calls.{Call, Own_ready, Own_seized, Take, Tick, With_votes, turn}
use Rattle.cmm_attempt.specs.declared.phase.Phase.TheVariants.{Installing}
use Rattle.cmm_attempt.specs.declared.plan.Plan.{Plan}
use Rattle.cmm_attempt.specs.declared.seizing.Seizing.{Seizing}
use Rattle.cmm_attempt.specs.declared.step.Step.{Step}
use Rattle.cmm_attempt.specs.declared.step.Step.TheVariants as step
use Rattle.device_queue.specs.Queue.{seizure_of}
use Rattle.history.specs.Member as member
use Rattle.history.specs.Moment.{Moment}
use Rattle.history.specs.Seizing.{is_attempt, keys_seized, progress_of}
use Rattle.history.specs.Setting.{coordinator}
use Rattle.node_model.specs.Seats.{session_of}
use Rattle.node_model.specs.declared.cluster.Cluster.{Cluster}
use Rattle.node_model.specs.declared.node.UpNode.{UpNode}
use Rattle.refinement.proofs.Attempts.{install_epoch, may_be_called}
use Rattle.refinement.specs.Guards.{MayCall, MayWrite, OfAttempt}
use Rattle.refinement.specs.Ties.{Delivered}
use Rattle.run_history.specs.Guards.{AtCall, AtWrite, Hand, HasEnded, IsStep, SendsSo, TellsEnd}
use Rattle.run_history.specs.Guards as guards
use Rattle.wire.specs.declared.message.Body.{Body}
use Rattle.wire.specs.declared.message.Body.TheVariants as body
use Rattle.wire.specs.declared.message.Install.{Install}
use Rattle.wire.specs.declared.message.Message.{Message}
use Rattle.run_seizings.proofs.Progress.{no_truth}
use Rattle.run_seizings.proofs.Tasks.{ended_seized}
use Rattle.run_seizings.proofs.Turns.{Keeps, turn_held}
use Rattle.run_seizings.specs.Seized.{HeldSo, IsInstalled, IsOf, has_installed}
use Rattle.run_devices.proofs.readings.Brings.{reads_so}
use Rattle.run_devices.proofs.readings.Goes.{HandSo}
use Rattle.run_devices.proofs.readings.Results.{Fact, Rests, Tells, turn_reads}
use Rattle.run_devices.proofs.readings.Tasks.{ended_kept, kept_keys}
use Rattle.run_devices.specs.readings.Laws.{HeldAsRead, WasRead, held_keys}
use Rattle.run_devices.specs.readings.Readings.{AreInOrder, AttemptIn, AttemptSo, ReadOr, SentSo, StandsSo, TasksRead}
use Rattle.run_devices.specs.readings.Sites.{Brought, InHand, UpSo}
use Rattle.run_devices.proofs.readings.Order.{apart_of}

pub attempt_of : (h : Header) (ms : List Moment) (n q : ℕ) (o : Option AttemptState) (a : AttemptState) → o ≡ Some a → AttemptIn h ms n q o → AttemptSo h ms n q a
attempt_of h ms n q o a is k = subst (λ z. AttemptIn h ms n q z) is k

-- ---- a call keeps the plan, and before it an attempt was not further on

none_asked : (es : List Seizing) → AllByRecursion (HeldSo (λ d. Unit {0})) es
none_asked [] = tt
none_asked (e ∷ es) = ((λ is. tt), none_asked es)

pub call_keeps : (c : Cluster) (told : Delivered) (a : AttemptState) (k : Call) → MayCall c told a k → Keeps (λ d. Unit {0}) a (turn a k).after
call_keeps c told a k may = turn_held (λ d. Unit {0}) a k (may_be_called c told a k may) (λ d from r before tells held. tt) (none_asked a.devices)

-- ---- what a call tells of the keys that were read

-- what was read on a device for e
abbrev pub Was : Header → List Moment → ℕ → Fact
Was h ms e d k keys = keys_seized h k e d ms ≡ Some keys

seized_reads : (h : Header) (ms : List Moment) (n from d : ℕ) (a : AttemptState) (b : Body) (keys : List ℕ) → coordinator a.plan.epoch ≡ n
    → has_installed n a.plan.epoch ms ≡ false → b ≡ body.Seized a.plan.epoch d (end.Held keys) → Brought h ms n from b → keys_seized h from a.plan.epoch d ms ≡ Some keys
seized_reads h ms n from d a b keys own none is k = by_read (subst (λ z. StandsSo h ms from z) is k.stands)
  where
    by_read : ReadOr h ms from a.plan.epoch d keys → keys_seized h from a.plan.epoch d ms ≡ Some keys
    by_read (inl installed) = absurd (no_truth (sym none ∙ (ap (λ z. has_installed z a.plan.epoch ms) (sym own) ∙ installed)))
    by_read (inr read) = read

-- a seizing of its own that ended held
ended_reads : (h : Header) (ms : List Moment) (n d : ℕ) (x : UpNode) (keys : List ℕ) → 0 < session_of x → has_installed n (session_of x) ms ≡ false
    → HasEnded x.tasks d (end.Held keys) → UpSo h ms n x → keys_seized h n (session_of x) d ms ≡ Some keys
ended_reads h ms n d x keys some none ended k =
    let read : TasksRead h ms n (session_of x) x.tasks = k.read some none in
    kept_keys (progress_of h n (session_of x) d ms) (seizure_of x.tasks d) (read.1 d) ∙ ap held_keys (ended_kept d (end.Held keys) x.tasks read.0 ended)

call_tells : (h : Header) (c : Cluster) (ms : List Moment) (n : ℕ) (told : Delivered) (x : UpNode) (a : AttemptState) (k : Call) → a.plan.coordinator ≡ n
    → MayCall c told a k → AtCall x k → InHand h ms n told → UpSo h ms n x → AttemptSo h ms n (session_of x) a → Tells (Was h ms a.plan.epoch) a k
call_tells h c ms n told x a (Take from m) me may at hand up so d giver keys before tells =
    subst (λ z. keys_seized h z a.plan.epoch d ms ≡ Some keys) tells.0
    (seized_reads h ms n from d a m.body keys so.own (so.before before) tells.1 (subst (λ t. InHand h ms n t) may.0 hand))
call_tells h c ms n told x a (Own_seized device result) me may at hand up so d giver keys before tells =
    subst (λ z. keys_seized h z a.plan.epoch d ms ≡ Some keys) (sym (tells.2 ∙ me))
    (subst (λ e. keys_seized h n e d ms ≡ Some keys) (sym so.epoch)
    (ended_reads h ms n d x keys (subst (λ e. 0 < e) so.epoch so.some) (subst (λ e. has_installed n e ms ≡ false) so.epoch (so.before before))
    (subst (λ z. HasEnded x.tasks d z) tells.1 (subst (λ z. HasEnded x.tasks z result) tells.0 at)) up))
call_tells h c ms n told x a (With_votes votes) me may at hand up so d giver keys before tells = absurd tells
call_tells h c ms n told x a Own_ready me may at hand up so d giver keys before tells = absurd tells
call_tells h c ms n told x a Tick me may at hand up so d giver keys before tells = absurd tells

-- what it has read after a call
pub call_reads : (h : Header) (c : Cluster) (ms : List Moment) (n : ℕ) (told : Delivered) (x : UpNode) (a : AttemptState) (k : Call) → a.plan.coordinator ≡ n
    → MayCall c told a k → AtCall x k → InHand h ms n told → UpSo h ms n x → AttemptSo h ms n (session_of x) a → Rests (Was h ms a.plan.epoch) (turn a k).after
call_reads h c ms n told x a k me may at hand up so =
    turn_reads (Was h ms a.plan.epoch) a k (apart_of (numbers_of a.plan.attached) so.attached) (call_tells h c ms n told x a k me may at hand up so) (so.read, so.apart)

-- the attempt after it
pub turned_so : (h : Header) (ms : List Moment) (n q : ℕ) (a t : AttemptState) → (t.phase ≡ Installing → has_installed n a.plan.epoch ms ≡ true)
    → Keeps (λ d. Unit {0}) a t → Rests (Was h ms a.plan.epoch) t → AttemptSo h ms n q a
    → AttemptSo h ms n q t
turned_so h ms n q a t installs k rests so =
    let same : t.plan ≡ a.plan = k.0 in
    let epoch : t.plan.epoch ≡ a.plan.epoch = ap (λ (p : Plan). p.epoch) same in
    record {
      of = (ap (λ e. list_any (is_attempt e) ms) epoch ∙ so.of.0, ap (λ e. member.members_of e ms) epoch ∙ (so.of.1 ∙ ap (λ (p : Plan). p.members) (sym same)));
      some = subst (λ e. 0 < e) (sym epoch) so.some;
      last = so.last ∙ ap Some (sym epoch);
      own = ap coordinator epoch ∙ so.own;
      epoch = epoch ∙ so.epoch;
      before = λ is. ap (λ e. has_installed n e ms) epoch ∙ so.before (k.1 is);
      installs = λ is. ap (λ e. has_installed n e ms) epoch ∙ installs is;
      read = subst (λ e. AllByRecursion (HeldAsRead h ms e) t.devices) (sym epoch) rests.0;
      apart = rests.1;
      attached = subst (λ (p : Plan). AreInOrder (numbers_of p.attached)) (sym same) so.attached;
    }

-- ---- what is sent

of_attempt : (o : Option AttemptState) (P : AttemptState → Type 0) (Q : Type 0) → OfAttempt P o → ((a : AttemptState) → o ≡ Some a → P a → Q) → Q
of_attempt None P Q k f = absurd k
of_attempt (Some a) P Q k f = f a refl k

own_step : (t : AttemptState) (to : ℕ) (m : Message) (steps : List Step) → IsStep (step.Send to m) steps → All (IsOwnStep t) steps → IsOwn t m.body
own_step t to m [] is all = absurd is
own_step t to m (s ∷ steps) (inl same) all = (subst (λ z. IsOwnStep t z) same (All-head (IsOwnStep t) s steps all)).1
own_step t to m (s ∷ steps) (inr later) all = own_step t to m steps later (All-tail (IsOwnStep t) s steps all)

-- a request to seize is of the attempt that asks
asked_so : (ms : List Moment) (to : ℕ) (b : Body) (g : Hand) (P : Type 0) → guards.InHand (λ u. SendsSo u.steps to b) g → HandSo ms g
    → ((t : AttemptState) → IsOf ms t.plan.epoch t.plan.members → IsOwn t b → P) → P
asked_so ms to b None P is k f = absurd is
asked_so ms to b (Some u) P is k f = f u.after k.0 (subst (λ z. IsOwn u.after z) is.body_so (own_step u.after to is.message u.steps is.step_so k.1))

seized_so : (h : Header) (ms : List Moment) (n : ℕ) (told : Delivered) (x : UpNode) (e d : ℕ) (r : SeizeResult) → nat_le n 32 ≡ true
    → ((q : ℕ) → has_installed n q ms ≡ true → IsInstalled ms q) → UpSo h ms n x → TellsEnd told x e d r → StandsSo h ms n (body.Seized e d r)
seized_so h ms n told x e d (end.Held keys) low first up (inl tells) = by_installed (has_installed n (session_of x) ms) refl
  where
    by_installed : (b : Bool) → has_installed n (session_of x) ms ≡ b → ReadOr h ms n e d keys
    by_installed true is = inl (subst (λ z. IsInstalled ms z) (sym tells.0) (first (session_of x) is)).2
    by_installed false is =
        inr (subst (λ z. keys_seized h n z d ms ≡ Some keys) (sym tells.0)
        (ended_reads h ms n d x keys (ended_seized h ms n (session_of x) d keys x.tasks low tells.1 (up.tasks is)).some is tells.1 up))
seized_so h ms n told x e d (end.Held keys) low first up (inr fault) = absurd (held_no keys fault.0)
  where
    held_no : (ks : List ℕ) → end.Held ks ≡ end.Fault → ⊥
    held_no ks e = cc
seized_so h ms n told x e d (end.NotRegistered keys) low first up tells = tt
seized_so h ms n told x e d (end.Greater w) low first up tells = tt
seized_so h ms n told x e d end.Expelled low first up tells = tt
seized_so h ms n told x e d (end.Contended key) low first up tells = tt
seized_so h ms n told x e d end.Fault low first up tells = tt

install_so : (h : Header) (ms : List Moment) (n q : ℕ) (a : AttemptState) (i : Install) → AttemptSo h ms n q a → a.phase ≡ Installing → i ≡ install_in a
    → IsInstalled ms i.epoch
install_so h ms n q a i so phase is =
    let at : i.epoch ≡ a.plan.epoch = ap (λ (z : Install). z.epoch) is ∙ install_epoch a in
    subst (λ e. IsInstalled ms e) (sym at) (so.some, so.of.0, subst (λ k. has_installed k a.plan.epoch ms ≡ true) (sym so.own) (so.installs phase))

brings_so : (h : Header) (ms : List Moment) (a : AttemptState) (i : Install) → i ≡ install_in a → {n q : ℕ} → AttemptSo h ms n q a
    → AllByRecursion (WasRead h ms i.epoch) i.readings
brings_so h ms a i is old =
    subst (λ (z : Install). AllByRecursion (WasRead h ms z.epoch) z.readings) (sym is)
    (subst (λ e. AllByRecursion (WasRead h ms e) (install_in a).readings) (sym (install_epoch a)) (reads_so h ms a old.read))

pub write_so : (h : Header) (ms : List Moment) (n : ℕ) (told : Delivered) (g : Hand) (x : UpNode) (to : ℕ) (b : Body) → nat_le n 32 ≡ true
    → ((q : ℕ) → has_installed n q ms ≡ true → IsInstalled ms q) → UpSo h ms n x
    → HandSo ms g → MayWrite x b → AtWrite told g x to b → SentSo ms n b × StandsSo h ms n b
write_so h ms n told g x to (body.Collect p members) low first up turn may at = (
  of_attempt x.attempt (λ a. (p ≡ a.plan.epoch) × (members ≡ a.plan.members)) (member.attempt_of n ms ≡ Some p) may
      (λ a is so. (attempt_of h ms n (session_of x) x.attempt a is up.attempt).last ∙ ap Some (sym so.0)),
  tt,
)
write_so h ms n told g x to (body.SeizeQuorum e members d) low first up turn may at = (
  tt,
  asked_so ms to (body.SeizeQuorum e members d) g (IsOf ms e members) at turn
      (λ t of own. subst (λ z. IsOf ms z members) (sym own.0) (subst (λ z. IsOf ms t.plan.epoch z) (sym own.1) of)),
)
write_so h ms n told g x to (body.SeizeData e members d) low first up turn may at = (
  tt,
  asked_so ms to (body.SeizeData e members d) g (IsOf ms e members) at turn
      (λ t of own. subst (λ z. IsOf ms z members) (sym own.0) (subst (λ z. IsOf ms t.plan.epoch z) (sym own.1) of)),
)
write_so h ms n told g x to (body.Seized e d r) low first up turn may at = (tt, seized_so h ms n told x e d r low first up at)
write_so h ms n told g x to (body.Install i) low first up turn may at = (
  tt,
  of_attempt x.attempt (λ a. (a.phase ≡ Installing) × (i ≡ install_in a)) (IsInstalled ms i.epoch × AllByRecursion (WasRead h ms i.epoch) i.readings) may
      (λ a is so.
      let old : AttemptSo h ms n (session_of x) a = attempt_of h ms n (session_of x) x.attempt a is up.attempt in
      (install_so h ms n (session_of x) a i old so.0 so.1, brings_so h ms a i so.1 old)),
)
write_so h ms n told g x to (body.Heartbeat promised session is_one) low first up turn may at = (tt, tt)
write_so h ms n told g x to (body.Promise p newest members valid flagged committed pending) low first up turn may at = (tt, tt)
write_so h ms n told g x to (body.Nack p promised) low first up turn may at = (tt, tt)
write_so h ms n told g x to (body.Ready p joined report) low first up turn may at = (tt, tt)
write_so h ms n told g x to (body.Start p) low first up turn may at = (tt, tt)
write_so h ms n told g x to (body.Prepare p place text) low first up turn may at = (tt, tt)
write_so h ms n told g x to (body.Prepared p place) low first up turn may at = (tt, tt)
write_so h ms n told g x to (body.Commit p place) low first up turn may at = (tt, tt)
write_so h ms n told g x to (body.Order o) low first up turn may at = (tt, tt)
write_so h ms n told g x to (body.Done p number outcome) low first up turn may at = (tt, tt)
write_so h ms n told g x to (body.Request p number text) low first up turn may at = (tt, tt)
write_so h ms n told g x to (body.Answer p number text) low first up turn may at = (tt, tt)
write_so h ms n told g x to (body.Excluded p newest) low first up turn may at = (tt, tt)

-- a message to each of many tells nothing of devices
pub spread_so : (h : Header) (ms : List Moment) (n : ℕ) (x : UpNode) (b : Body) → UpSo h ms n x → MayWrite x b → guards.IsPlainBody b → SentSo ms n b × StandsSo h ms n b
spread_so h ms n x (body.Collect p members) up may at = (
  of_attempt x.attempt (λ a. (p ≡ a.plan.epoch) × (members ≡ a.plan.members)) (member.attempt_of n ms ≡ Some p) may
      (λ a is so. (attempt_of h ms n (session_of x) x.attempt a is up.attempt).last ∙ ap Some (sym so.0)),
  tt,
)
spread_so h ms n x (body.SeizeQuorum e members d) up may at = absurd at
spread_so h ms n x (body.SeizeData e members d) up may at = absurd at
spread_so h ms n x (body.Seized e d r) up may at = absurd at
spread_so h ms n x (body.Install i) up may at = absurd at
spread_so h ms n x (body.Heartbeat promised session is_one) up may at = (tt, tt)
spread_so h ms n x (body.Promise p newest members valid flagged committed pending) up may at = absurd at
spread_so h ms n x (body.Nack p promised) up may at = (tt, tt)
spread_so h ms n x (body.Ready p joined report) up may at = (tt, tt)
spread_so h ms n x (body.Start p) up may at = (tt, tt)
spread_so h ms n x (body.Prepare p place text) up may at = (tt, tt)
spread_so h ms n x (body.Prepared p place) up may at = (tt, tt)
spread_so h ms n x (body.Commit p place) up may at = (tt, tt)
spread_so h ms n x (body.Order o) up may at = (tt, tt)
spread_so h ms n x (body.Done p number outcome) up may at = (tt, tt)
spread_so h ms n x (body.Request p number text) up may at = (tt, tt)
spread_so h ms n x (body.Answer p number text) up may at = (tt, tt)
spread_so h ms n x (body.Excluded p newest) up may at = (tt, tt)
