-- What an attempt of a node is told of devices, and what it sends.
use Rattle.std.specs.Prelude.{ℕ, ◌≡◌, ◌<◌, nat_le, All, Bool, true, false, List, [], ◌∷◌, Option, None, Some, is_some}
use Rattle.std.specs.List.{AllByRecursion, list_any}
use Rattle.std.proofs.Common.{refl, sym, ap, subst, ◌∙◌, inl, inr}
use Rattle.std.proofs.lemmas.List.Elements.{All-head, All-tail}
use Rattle.attempt_laws.specs.Sending.{IsOwn, IsOwnStep}
use Rattle.cl_base.specs.Seizings.{SeizeResult}
use Rattle.cl_base.specs.declared.header.Header.{Header}
use Rattle.cl_base.specs.declared.seizing.SeizeEnd.TheVariants as end
use Rattle.cmm_attempt.specs.Attempts.{AttemptState, install_in}
use Rattle.cmm_attempt.specs.Calls as calls
use Rattle.cmm_attempt.specs.Calls.{Call, Own_ready, Own_seized, Take, Tick, With_votes, turn}
use Rattle.cmm_attempt.specs.Seizings.{is_held_by}
use Rattle.cmm_attempt.specs.declared.phase.Phase.TheVariants.{Installing}
use Rattle.cmm_attempt.specs.declared.plan.Plan.{Plan}
use Rattle.cmm_attempt.specs.declared.step.Step.{Step}
use Rattle.cmm_attempt.specs.declared.step.Step.TheVariants as step
use Rattle.wire.specs.declared.message.Install.{Install}
use Rattle.wire.specs.declared.message.Body.{Body}
use Rattle.wire.specs.declared.message.Body.TheVariants as body
use Rattle.wire.specs.declared.message.Message.{Message}
use Rattle.history.specs.Contents.{tells_held}
use Rattle.history.specs.Letters.{reached_since}
use Rattle.history.specs.Member as member
use Rattle.history.specs.Moment.{Moment}
use Rattle.history.specs.Seizing.{is_attempt, keys_seized}
use Rattle.history.specs.Setting.{coordinator}
use Rattle.node_model.specs.Seats.{session_of}
use Rattle.node_model.specs.declared.cluster.Cluster.{Cluster}
use Rattle.node_model.specs.declared.node.UpNode.{UpNode}
use Rattle.refinement.proofs.Attempts.{install_epoch, may_be_called}
use Rattle.refinement.specs.Guards.{MayCall, MayWrite, OfAttempt}
use Rattle.refinement.specs.Ties.{Delivered}
use Rattle.run_history.specs.Guards as guards
use Rattle.run_history.specs.Guards.{AtCall, AtWrite, Hand, HasEnded, IsStep, SendsSo, TellsEnd}
use Rattle.run_seizings.specs.Seized.{AttemptIn, AttemptSo, HeldSo, IsInstalled, IsKnown, IsOf, IsSeized, ReadSo, SeizedOr, SentSo, StandsSo, has_installed}
use Rattle.run_seizings.specs.Sites.{Brought, HeardSo, InHand, UpSo}
use Rattle.run_seizings.proofs.Goes.{HandSo}
use Rattle.run_seizings.proofs.Progress.{no_truth, or_left, or_right}
use Rattle.run_seizings.proofs.Brings.{reads_so}
use Rattle.run_seizings.proofs.Tasks.{EndedSo, ended_seized}
use Rattle.run_seizings.proofs.Turns.{Keeps, Source, turn_held}

pub attempt_of : (h : Header) (ms : List Moment) (n q : ℕ) (o : Option AttemptState) (a : AttemptState) → o ≡ Some a → AttemptIn h ms n q o → AttemptSo h ms n q a
attempt_of h ms n q o a is k = subst (λ z. AttemptIn h ms n q z) is k

-- ---- what a call tells of a device that is held

-- a Seized that came
seized_source : (h : Header) (ms : List Moment) (n from d : ℕ) (a : AttemptState) (b : Body) (r : SeizeResult) → coordinator a.plan.epoch ≡ n
    → has_installed n a.plan.epoch ms ≡ false
    → b ≡ body.Seized a.plan.epoch d r → is_held_by (Some r) ≡ true → Brought h ms n from b → IsKnown h ms a.plan.epoch d
seized_source h ms n from d a b (end.Held keys) own none is held k = by_stands (subst (λ z. StandsSo h ms from z) is k.stands)
  where
    e : ℕ
    e = a.plan.epoch

    heard : reached_since (is_attempt e) (tells_held e n d) ms ≡ true
    heard = subst (λ z. HeardSo ms n z) is k.heard

    by_stands : (list_any (is_attempt e) ms ≡ true) × SeizedOr h ms from e d → IsKnown h ms e d
    by_stands two = by_seized two.1
      where
        by_seized : SeizedOr h ms from e d → IsKnown h ms e d
        by_seized (inl installed) = absurd (no_truth (sym none ∙ (ap (λ z. has_installed z e ms) (sym own) ∙ installed)))
        by_seized (inr seized) = (
          or_right (is_some (keys_seized h (coordinator e) e d ms)) (reached_since (is_attempt e) (tells_held e (coordinator e) d) ms)
              (subst (λ z. reached_since (is_attempt e) (tells_held e z d) ms ≡ true) (sym own) heard),
          seized.1,
        )
seized_source h ms n from d a b (end.NotRegistered keys) own none is held k = absurd (no_truth held)
seized_source h ms n from d a b (end.Greater w) own none is held k = absurd (no_truth held)
seized_source h ms n from d a b end.Expelled own none is held k = absurd (no_truth held)
seized_source h ms n from d a b (end.Contended key) own none is held k = absurd (no_truth held)
seized_source h ms n from d a b end.Fault own none is held k = absurd (no_truth held)

-- its own
own_source : (h : Header) (ms : List Moment) (n d : ℕ) (x : UpNode) (a : AttemptState) (r : SeizeResult) → nat_le n 32 ≡ true → coordinator a.plan.epoch ≡ n
    → a.plan.epoch ≡ session_of x
    → has_installed n a.plan.epoch ms ≡ false → is_held_by (Some r) ≡ true → HasEnded x.tasks d r → UpSo h ms n x → IsKnown h ms a.plan.epoch d
own_source h ms n d x a (end.Held keys) low own at none held ended k =
    let e : ℕ = a.plan.epoch in
    let is : EndedSo h ms n (session_of x) d = ended_seized h ms n (session_of x) d keys x.tasks low ended
    (k.tasks (subst (λ z. has_installed n z ms ≡ false) at none)) in
    let seized : IsSeized h ms n e d = subst (λ z. IsSeized h ms n z d) (sym at) is.seized in (
      or_left (is_some (keys_seized h (coordinator e) e d ms)) (reached_since (is_attempt e) (tells_held e (coordinator e) d) ms)
          (subst (λ z. is_some (keys_seized h z e d ms) ≡ true) (sym own) seized.0),
      seized.1,
    )
own_source h ms n d x a (end.NotRegistered keys) low own at none held ended k = absurd (no_truth held)
own_source h ms n d x a (end.Greater w) low own at none held ended k = absurd (no_truth held)
own_source h ms n d x a end.Expelled low own at none held ended k = absurd (no_truth held)
own_source h ms n d x a (end.Contended key) low own at none held ended k = absurd (no_truth held)
own_source h ms n d x a end.Fault low own at none held ended k = absurd (no_truth held)

call_source : (h : Header) (c : Cluster) (ms : List Moment) (n : ℕ) (told : Delivered) (x : UpNode) (a : AttemptState) (k : Call) → nat_le n 32 ≡ true
    → MayCall c told a k → AtCall x k → InHand h ms n told → UpSo h ms n x
    → AttemptSo h ms n (session_of x) a → Source (IsKnown h ms a.plan.epoch) a k
call_source h c ms n told x a (Take from m) low may at hand up so d giver r before tells held =
    seized_source h ms n from d a m.body r so.own (so.before before) tells.1 held (subst (λ t. InHand h ms n t) may.0 hand)
call_source h c ms n told x a (Own_seized device result) low may at hand up so d giver r before tells held =
    own_source h ms n d x a r low so.own so.epoch (so.before before) held
    (subst (λ z. HasEnded x.tasks z r) tells.0 (subst (λ z. HasEnded x.tasks device z) tells.1 at)) up
call_source h c ms n told x a (With_votes votes) low may at hand up so d giver r before tells held = absurd tells
call_source h c ms n told x a Own_ready low may at hand up so d giver r before tells held = absurd tells
call_source h c ms n told x a Tick low may at hand up so d giver r before tells held = absurd tells

-- what it counts as held after a call
pub call_keeps : (h : Header) (c : Cluster) (ms : List Moment) (n : ℕ) (told : Delivered) (x : UpNode) (a : AttemptState) (k : Call) → nat_le n 32 ≡ true
    → MayCall c told a k → AtCall x k → InHand h ms n told → UpSo h ms n x
    → AttemptSo h ms n (session_of x) a → Keeps (IsKnown h ms a.plan.epoch) a (turn a k).after
call_keeps h c ms n told x a k low may at hand up so =
    turn_held (IsKnown h ms a.plan.epoch) a k (may_be_called c told a k may) (call_source h c ms n told x a k low may at hand up so) so.held

-- the attempt after it
pub turned_so : (h : Header) (ms : List Moment) (n q : ℕ) (a t : AttemptState) → (t.phase ≡ Installing → has_installed n a.plan.epoch ms ≡ true)
    → Keeps (IsKnown h ms a.plan.epoch) a t → AttemptSo h ms n q a
    → AttemptSo h ms n q t
turned_so h ms n q a t installs k so =
    let same : t.plan ≡ a.plan = k.0 in
    let epoch : t.plan.epoch ≡ a.plan.epoch = ap (λ (p : Plan). p.epoch) same in
    record {
      of = (ap (λ e. list_any (is_attempt e) ms) epoch ∙ so.of.0, ap (λ e. member.members_of e ms) epoch ∙ (so.of.1 ∙ ap (λ (p : Plan). p.members) (sym same)));
      some = subst (λ e. 0 < e) (sym epoch) so.some;
      last = so.last ∙ ap Some (sym epoch);
      own = ap coordinator epoch ∙ so.own;
      epoch = epoch ∙ so.epoch;
      before = λ is. ap (λ e. has_installed n e ms) epoch ∙ so.before (k.1 is);
      installs = λ is. ap (λ e. has_installed n e ms) epoch ∙ installs is;
      held = subst (λ e. AllByRecursion (HeldSo (IsKnown h ms e)) t.devices) (sym epoch) k.2;
    }

-- ---- what is sent

of_attempt : (o : Option AttemptState) (P : AttemptState → Type 0) (Q : Type 0) → OfAttempt P o → ((a : AttemptState) → o ≡ Some a → P a → Q) → Q
of_attempt None P Q k f = absurd k
of_attempt (Some a) P Q k f = f a refl k

own_step : (t : AttemptState) (to : ℕ) (m : Message) (steps : List Step) → IsStep (step.Send to m) steps → All (IsOwnStep t) steps → IsOwn t m.body
own_step t to m [] is all = absurd is
own_step t to m (s ∷ steps) (inl same) all = (subst (λ z. IsOwnStep t z) same (All-head (IsOwnStep t) s steps all)).1
own_step t to m (s ∷ steps) (inr later) all = own_step t to m steps later (All-tail (IsOwnStep t) s steps all)

-- a request to seize is of the attempt that asks
asked_so : (ms : List Moment) (to : ℕ) (b : Body) (g : Hand) (P : Type 0) → guards.InHand (λ u. SendsSo u.steps to b) g → HandSo ms g
    → ((t : AttemptState) → IsOf ms t.plan.epoch t.plan.members → IsOwn t b → P) → P
asked_so ms to b None P is k f = absurd is
asked_so ms to b (Some u) P is k f = f u.after k.0 (subst (λ z. IsOwn u.after z) is.body_so (own_step u.after to is.message u.steps is.step_so k.1))

seized_so : (h : Header) (ms : List Moment) (n : ℕ) (told : Delivered) (x : UpNode) (e d : ℕ) (r : SeizeResult) → nat_le n 32 ≡ true
    → ((q : ℕ) → has_installed n q ms ≡ true → IsInstalled ms q) → UpSo h ms n x
    → TellsEnd told x e d r → SentSo ms n (body.Seized e d r) × StandsSo h ms n (body.Seized e d r)
seized_so h ms n told x e d (end.Held keys) low first up (inl tells) = by_installed (has_installed n (session_of x) ms) refl
  where
    sent : 0 < session_of x → member.session_of n ms ≡ Some e
    sent some = up.session some ∙ ap Some (sym tells.0)

    by_installed : (b : Bool) → has_installed n (session_of x) ms ≡ b → (member.session_of n ms ≡ Some e) × ((list_any (is_attempt e) ms ≡ true) × SeizedOr h ms n e d)
    by_installed true is =
        let so : IsInstalled ms (session_of x) = first (session_of x) is in
        let own : IsInstalled ms e = subst (λ z. IsInstalled ms z) (sym tells.0) so in
        (sent so.0, (own.1, inl own.2))
    by_installed false is =
        let so : EndedSo h ms n (session_of x) d = ended_seized h ms n (session_of x) d keys x.tasks low tells.1 (up.tasks is) in
        (sent so.some, (subst (λ z. list_any (is_attempt z) ms ≡ true) (sym tells.0) so.begun, inr (subst (λ z. IsSeized h ms n z d) (sym tells.0) so.seized)))
seized_so h ms n told x e d (end.Held keys) low first up (inr fault) = absurd (held_no keys fault.0)
  where
    held_no : (ks : List ℕ) → end.Held ks ≡ end.Fault → ⊥
    held_no ks e = cc
seized_so h ms n told x e d (end.NotRegistered keys) low first up tells = (tt, tt)
seized_so h ms n told x e d (end.Greater w) low first up tells = (tt, tt)
seized_so h ms n told x e d end.Expelled low first up tells = (tt, tt)
seized_so h ms n told x e d (end.Contended key) low first up tells = (tt, tt)
seized_so h ms n told x e d end.Fault low first up tells = (tt, tt)

install_so : (h : Header) (ms : List Moment) (n q : ℕ) (a : AttemptState) (i : Install) → AttemptSo h ms n q a → a.phase ≡ Installing → i ≡ install_in a
    → IsInstalled ms i.epoch
install_so h ms n q a i so phase is =
    let at : i.epoch ≡ a.plan.epoch = ap (λ (z : Install). z.epoch) is ∙ install_epoch a in
    subst (λ e. IsInstalled ms e) (sym at) (so.some, so.of.0, subst (λ k. has_installed k a.plan.epoch ms ≡ true) (sym so.own) (so.installs phase))

brings_so : (h : Header) (ms : List Moment) (a : AttemptState) (i : Install) → i ≡ install_in a → All calls.IsDevice a.plan.attached → {n q : ℕ} → AttemptSo h ms n q a
    → ReadSo h ms i.epoch i.readings
brings_so h ms a i is fits old = subst (λ (z : Install). ReadSo h ms z.epoch z.readings) (sym is) (subst (λ e. ReadSo h ms e (install_in a).readings) (sym (install_epoch a)) (reads_so h ms a fits old.held))

pub write_so : (h : Header) (ms : List Moment) (n : ℕ) (told : Delivered) (g : Hand) (x : UpNode) (to : ℕ) (b : Body) → nat_le n 32 ≡ true
    → ((q : ℕ) → has_installed n q ms ≡ true → IsInstalled ms q) → UpSo h ms n x
    → ((a : AttemptState) → x.attempt ≡ Some a → All calls.IsDevice a.plan.attached) → HandSo ms g → MayWrite x b → AtWrite told g x to b → SentSo ms n b × StandsSo h ms n b
write_so h ms n told g x to (body.Collect p members) low first up fits turn may at = (
  of_attempt x.attempt (λ a. (p ≡ a.plan.epoch) × (members ≡ a.plan.members)) (member.attempt_of n ms ≡ Some p) may
      (λ a is so. (attempt_of h ms n (session_of x) x.attempt a is up.attempt).last ∙ ap Some (sym so.0)),
  tt,
)
write_so h ms n told g x to (body.SeizeQuorum e members d) low first up fits turn may at = (
  tt,
  asked_so ms to (body.SeizeQuorum e members d) g (IsOf ms e members) at turn
      (λ t of own. subst (λ z. IsOf ms z members) (sym own.0) (subst (λ z. IsOf ms t.plan.epoch z) (sym own.1) of)),
)
write_so h ms n told g x to (body.SeizeData e members d) low first up fits turn may at = (
  tt,
  asked_so ms to (body.SeizeData e members d) g (IsOf ms e members) at turn
      (λ t of own. subst (λ z. IsOf ms z members) (sym own.0) (subst (λ z. IsOf ms t.plan.epoch z) (sym own.1) of)),
)
write_so h ms n told g x to (body.Seized e d r) low first up fits turn may at = seized_so h ms n told x e d r low first up at
write_so h ms n told g x to (body.Install i) low first up fits turn may at = (
  tt,
  of_attempt x.attempt (λ a. (a.phase ≡ Installing) × (i ≡ install_in a)) (IsInstalled ms i.epoch × ReadSo h ms i.epoch i.readings) may
      (λ a is so.
      let old : AttemptSo h ms n (session_of x) a = attempt_of h ms n (session_of x) x.attempt a is up.attempt in
      (install_so h ms n (session_of x) a i old so.0 so.1, brings_so h ms a i so.1 (fits a is) old)),
)
write_so h ms n told g x to (body.Heartbeat promised session is_one) low first up fits turn may at = (tt, tt)
write_so h ms n told g x to (body.Promise p newest members valid flagged committed pending) low first up fits turn may at = (tt, tt)
write_so h ms n told g x to (body.Nack p promised) low first up fits turn may at = (tt, tt)
write_so h ms n told g x to (body.Ready p joined report) low first up fits turn may at = (tt, tt)
write_so h ms n told g x to (body.Start p) low first up fits turn may at = (tt, tt)
write_so h ms n told g x to (body.Prepare p place text) low first up fits turn may at = (tt, tt)
write_so h ms n told g x to (body.Prepared p place) low first up fits turn may at = (tt, tt)
write_so h ms n told g x to (body.Commit p place) low first up fits turn may at = (tt, tt)
write_so h ms n told g x to (body.Order o) low first up fits turn may at = (tt, tt)
write_so h ms n told g x to (body.Done p number outcome) low first up fits turn may at = (tt, tt)
write_so h ms n told g x to (body.Request p number text) low first up fits turn may at = (tt, tt)
write_so h ms n told g x to (body.Answer p number text) low first up fits turn may at = (tt, tt)
write_so h ms n told g x to (body.Excluded p newest) low first up fits turn may at = (tt, tt)

-- a message to each of many tells nothing of devices
pub spread_so : (h : Header) (ms : List Moment) (n : ℕ) (x : UpNode) (b : Body) → UpSo h ms n x → MayWrite x b → guards.IsPlainBody b → SentSo ms n b × StandsSo h ms n b
spread_so h ms n x (body.Collect p members) up may at = (
  of_attempt x.attempt (λ a. (p ≡ a.plan.epoch) × (members ≡ a.plan.members)) (member.attempt_of n ms ≡ Some p) may
      (λ a is so. (attempt_of h ms n (session_of x) x.attempt a is up.attempt).last ∙ ap Some (sym so.0)),
  tt,
)
spread_so h ms n x (body.SeizeQuorum e members d) up may at = absurd at
spread_so h ms n x (body.SeizeData e members d) up may at = absurd at
spread_so h ms n x (body.Seized e d r) up may at = absurd at
spread_so h ms n x (body.Install i) up may at = absurd at
spread_so h ms n x (body.Heartbeat promised session is_one) up may at = (tt, tt)
spread_so h ms n x (body.Promise p newest members valid flagged committed pending) up may at = absurd at
spread_so h ms n x (body.Nack p promised) up may at = (tt, tt)
spread_so h ms n x (body.Ready p joined report) up may at = (tt, tt)
spread_so h ms n x (body.Start p) up may at = (tt, tt)
spread_so h ms n x (body.Prepare p place text) up may at = (tt, tt)
spread_so h ms n x (body.Prepared p place) up may at = (tt, tt)
spread_so h ms n x (body.Commit p place) up may at = (tt, tt)
spread_so h ms n x (body.Order o) up may at = (tt, tt)
spread_so h ms n x (body.Done p number outcome) up may at = (tt, tt)
spread_so h ms n x (body.Request p number text) up may at = (tt, tt)
spread_so h ms n x (body.Answer p number text) up may at = (tt, tt)
spread_so h ms n x (body.Excluded p newest) up may at = (tt, tt)
