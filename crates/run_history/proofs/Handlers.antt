-- What a node does with each input is ordinary, but for the command whose answer comes.
use Rattle.std.specs.Prelude.{ℕ, ◌≡◌, ◌==◌, ◌||◌, nat_le, nat_lt, not, Bool, true, false, Option, None, Some, is_some}
use Rattle.std.proofs.Common.{refl}
use Rattle.answer_words.specs.Answers.{answer_in}
use Rattle.cl_base.specs.Seizings.{SeizeResult}
use Rattle.cl_base.specs.Sets.{has}
use Rattle.cl_base.specs.declared.method.Outcome.{Outcome}
use Rattle.cl_base.specs.declared.panic.Panic.TheVariants as panic
use Rattle.cl_base.specs.declared.seizing.SeizeEnd.TheVariants as seized
use Rattle.cmm_attempt.specs.Attempts.{AttemptState}
use Rattle.cmm_attempt.specs.Calls.{Own_seized, Take, Tick as Call_tick}
use Rattle.cmm_attempt.proofs.Basics.{if_either}
use Rattle.attempt_laws.proofs.Walk.{if_with}
use Rattle.device_queue.specs.declared.progress.Progress.{Progress}
use Rattle.device_queue.specs.declared.progress.Progress.TheVariants.{GoesOn, Seized, Joined}
use Rattle.device_queue.specs.Queue.{joins, kept_of}
use Rattle.pgr_device.specs.declared.command.PrCommand.{PrCommand}
use Rattle.seize.specs.Answers.{Answer}
use Rattle.seize.specs.declared.kind.JoinResult.{JoinResult}
use Rattle.seize.specs.declared.kind.JoinResult.TheVariants as join
use Rattle.seize.specs.declared.kind.SeizeKind.{SeizeKind}
use Rattle.seize.specs.declared.kind.SeizeKind.TheVariants.{Vote, Plain}
use Rattle.status_report.specs.declared.node_entry.DownCause.TheVariants as down
use Rattle.wire.specs.declared.message.Body.{Body}
use Rattle.wire.specs.declared.message.Body.TheVariants as body
use Rattle.wire.specs.declared.message.Install.{Install}
use Rattle.wire.specs.declared.message.Message.{Message}
use Rattle.node_model.specs.declared.cluster.Cluster.{Cluster}
use Rattle.node_model.specs.declared.node.UpNode.{UpNode}
use Rattle.node_model.specs.declared.seat.Seat.{Seat}
use Rattle.node_model.specs.declared.seat.Seat.TheVariants.{Forming, Member}
use Rattle.node_model.specs.Attempts.{next_epoch, promise_of, starts_now}
use Rattle.node_model.specs.Devices.{joining_so}
use Rattle.node_model.specs.Members.{awaits_start, hearing, is_foreign, is_strange, promised_so, ready_of}
use Rattle.node_model.specs.Seats.{coordinator_of, installed_of, is_in, promised_of, record_of, session_of}
use Rattle.node_model.specs.Ticks.{later, members_to_form, waiting_less}
use Rattle.refinement.specs.Courses.{Course}
use Rattle.refinement.specs.Courses.Course.{Acts, Falls, Keeps, Stops}
use Rattle.refinement.specs.Cuts as cuts
use Rattle.refinement.specs.Cuts.{writing}
use Rattle.refinement.specs.Doings.{answered_so, changed}
use Rattle.refinement.specs.Doings.Act.{Accepts, Hears, Makes, Takes, Waits}
use Rattle.refinement.specs.Doings.Change.{Admits, Distrusts, Installs, Promises, Sits}
use Rattle.run_history.specs.Names.{AttemptNames, UpNames}
use Rattle.run_history.proofs.Calls.{going_is, in_session, leading_is, own_ready_is}
use Rattle.run_history.proofs.Kept.{taken_names, then_is}
use Rattle.run_history.proofs.Ordinary.{IsOrdinary, Knows}
use Rattle.run_history.proofs.Requests.{asked_is, commit_is, done_is, governing_is, order_is, prepare_is, prepared_is, reply_is}
use Rattle.std.specs.Prelude.{IfSome}

-- A tick.

forming_is : (D : ℕ → Type 0) (c : Cluster) (me : ℕ) (x : UpNode) (o : Option ℕ) → Knows c D → UpNames D x → IsOrdinary D (cuts.forming_course c me x o)
forming_is D c me x None K n = tt
forming_is D c me x (Some members) K n = leading_is D c me x (next_epoch me x) members K n

ticked_is : (D : ℕ → Type 0) (c : Cluster) (me : ℕ) (x : UpNode) (o : Option AttemptState) → Knows c D → UpNames D x → IfSome o (AttemptNames D) → IsOrdinary D (cuts.ticked_course c me x o)
ticked_is D c me x (Some a) K n h = going_is D c me x a Call_tick K n h
ticked_is D c me x None K n h =
    let y : UpNode = waiting_less x in
    if_either (IsOrdinary D) (nat_le 1 x.beats.wait) (Acts Waits Stops) (Acts Waits (cuts.forming_course c me y (members_to_form c me y))) (tt, tt)
    (tt, forming_is D c me y (members_to_form c me y) K n)

pub tick_is : (D : ℕ → Type 0) (c : Cluster) (me : ℕ) (outcome : Outcome) (x : UpNode) → Knows c D → UpNames D x → IsOrdinary D (cuts.tick_course c me outcome x)
tick_is D c me outcome x K n = (
  tt,
  then_is D c me (later c x) (cuts.governing_course c me outcome x (later c x)) (λ y. cuts.ticked_course c me y y.attempt) K n
      (governing_is D c me outcome x (later c x)) (λ y m. ticked_is D c me y y.attempt K m m.1),
)

-- Messages.

heartbeat_is : (D : ℕ → Type 0) (me : ℕ) (x : UpNode) (from session : ℕ) (member : Bool) → IsOrdinary D (cuts.heartbeat_course me x from session member)
heartbeat_is D me x from session member = if_either (IsOrdinary D) (awaits_start me x from session member) (writing from (body.Start (session_of x))) Stops (tt, tt) tt

collect_is : (D : ℕ → Type 0) (x : UpNode) (from p : ℕ) → IsOrdinary D (cuts.collect_course x from p)
collect_is D x from p =
    if_either (IsOrdinary D) (nat_lt (promised_of x) p) (Keeps (Promises p) (writing from (promise_of (promised_so x p) p))) _ (tt, (tt, tt))
    (if_either (IsOrdinary D) (is_in x p) (writing from (promise_of x p)) (writing from (body.Nack p (promised_of x))) (tt, tt) (tt, tt))

request_is : (D : ℕ → Type 0) (x : UpNode) (from : ℕ) (kind : SeizeKind) (e members d : ℕ) (o : Option SeizeResult) → D d → IsOrdinary D (cuts.request_course x from kind e members d o)
request_is D x from kind e members d (Some result) h = (tt, tt)
request_is D x from kind e members d None h =
    if_either (IsOrdinary D) (installed_of x == e) (writing from (body.Seized e d seized.Fault)) (Acts (Accepts kind e members d) Stops) (tt, tt) (h, tt)

seizing_is : (D : ℕ → Type 0) (x : UpNode) (from : ℕ) (kind : SeizeKind) (e members d : ℕ) → D d → IsOrdinary D (cuts.seizing_course x from kind e members d)
seizing_is D x from kind e members d h =
    if_either (IsOrdinary D) (is_in x e) (cuts.request_course x from kind e members d (kept_of x.tasks d)) Stops (request_is D x from kind e members d (kept_of x.tasks d) h) tt

readying_is : (D : ℕ → Type 0) (c : Cluster) (x : UpNode) (to : ℕ) → IsOrdinary D (cuts.readying_course c x to)
readying_is D c x to = if_either (IsOrdinary D) (joins x.tasks) Stops (writing to (ready_of c x)) tt (tt, tt)

installed_is : (D : ℕ → Type 0) (c : Cluster) (me : ℕ) (x : UpNode) (from : ℕ) (i : Install) (seat : Seat) → IsOrdinary D (cuts.installed_course c me x from i seat)
installed_is D c me x from i (Member s) = readying_is D c x from
installed_is D c me x from i (Forming s) =
    let y : UpNode = changed c me x (Installs s i) in
    if_either (IsOrdinary D) (s.saved.installed == i.epoch) (cuts.readying_course c x from) (Keeps (Installs s i) (cuts.readying_course c y from)) (readying_is D c x from)
    (tt, readying_is D c y from)

install_is : (D : ℕ → Type 0) (c : Cluster) (me : ℕ) (x : UpNode) (from : ℕ) (i : Install) → IsOrdinary D (cuts.install_course c me x from i)
install_is D c me x from i =
    if_either (IsOrdinary D) (is_in x i.epoch) (cuts.installed_course c me x from i x.seat) (writing from (body.Nack i.epoch (promised_of x))) (installed_is D c me x from i x.seat) (tt, tt)

start_is : (D : ℕ → Type 0) (e : ℕ) (seat : Seat) → IsOrdinary D (cuts.start_course e seat)
start_is D e (Member s) = tt
start_is D e (Forming s) =
    if_with (IsOrdinary D) (starts_now s e) (starts_now s e) (cuts.kept_if (is_some s.saved.entries.pending) (Sits s e) Stops) Stops refl
    (λ now.
    let h : s.session ≡ e = in_session s e now in
    if_either (IsOrdinary D) (is_some s.saved.entries.pending) (Keeps (Sits s e) Stops) (Acts (Makes (Sits s e)) Stops) (h, tt) (h, tt))
    (λ now. tt)

notice_is : (D : ℕ → Type 0) (x : UpNode) (e newest : ℕ) → IsOrdinary D (cuts.notice_course x e newest)
notice_is D x e newest = if_either (IsOrdinary D) (is_in x e) (Falls (down.Panic (panic.Excluded newest))) Stops tt tt

answer_is : (D : ℕ → Type 0) (c : Cluster) (me : ℕ) (x : UpNode) (from : ℕ) (m : Message) (o : Option AttemptState) → Knows c D → UpNames D x → IfSome o (AttemptNames D)
    → IsOrdinary D (cuts.answer_course c me x from m o)
answer_is D c me x from m None K n h = tt
answer_is D c me x from m (Some a) K n h = going_is D c me x a (Take from m) K n h

-- a request to seize that is not foreign names a device of the cluster
third_not : (a b d : Bool) → (a || b || not d) ≡ false → d ≡ true
third_not a b true h = refl
third_not true b false h = absurd (true_false h)
  where
    true_false : true ≡ false → ⊥
    true_false e = cc
third_not false true false h = absurd (true_false h)
  where
    true_false : true ≡ false → ⊥
    true_false e = cc
third_not false false false h = absurd (true_false h)
  where
    true_false : true ≡ false → ⊥
    true_false e = cc

known_device : (D : ℕ → Type 0) (c : Cluster) (me members d : ℕ) → Knows c D → (not (has members me) || is_strange c members || not (has c.devices d)) ≡ false → D d
known_device D c me members d K e = K.listed d (third_not (not (has members me)) (is_strange c members) (has c.devices d) e)

body_is : (D : ℕ → Type 0) (c : Cluster) (me : ℕ) (outcome : Outcome) (x y : UpNode) (from : ℕ) (m : Message) (b : Body) → Knows c D → UpNames D y → is_foreign c me x b ≡ false
    → IsOrdinary D (cuts.body_course c me outcome y from m b)
body_is D c me outcome x y from m (body.Heartbeat promised session member) K n e = heartbeat_is D me y from session member
body_is D c me outcome x y from m (body.Collect p members) K n e = collect_is D y from p
body_is D c me outcome x y from m (body.Promise p installed members valid flagged committed pending) K n e = answer_is D c me y from m y.attempt K n n.1
body_is D c me outcome x y from m (body.Nack p promised) K n e = answer_is D c me y from m y.attempt K n n.1
body_is D c me outcome x y from m (body.SeizeQuorum p members d) K n e = seizing_is D y from Vote p members d (known_device D c me members d K e)
body_is D c me outcome x y from m (body.SeizeData p members d) K n e = seizing_is D y from Plain p members d (known_device D c me members d K e)
body_is D c me outcome x y from m (body.Seized p d ended) K n e = answer_is D c me y from m y.attempt K n n.1
body_is D c me outcome x y from m (body.Install i) K n e = install_is D c me y from i
body_is D c me outcome x y from m (body.Ready p joined_devices report) K n e = answer_is D c me y from m y.attempt K n n.1
body_is D c me outcome x y from m (body.Start p) K n e = start_is D p y.seat
body_is D c me outcome x y from m (body.Excluded p newest) K n e = notice_is D y p newest
body_is D c me outcome x y from m (body.Prepare p place text) K n e = prepare_is D y from p place text y.seat
body_is D c me outcome x y from m (body.Prepared p place) K n e = prepared_is D c me y from p place
body_is D c me outcome x y from m (body.Commit p place) K n e = commit_is D y p place y.seat
body_is D c me outcome x y from m (body.Request p number text) K n e = asked_is D c me y from p number text
body_is D c me outcome x y from m (body.Answer p number text) K n e = reply_is D c me y p number (answer_in text)
body_is D c me outcome x y from m (body.Order o) K n e = order_is D c me outcome y from o
body_is D c me outcome x y from m (body.Done p number ended) K n e = done_is D c me y from p number ended

pub packet_is : (D : ℕ → Type 0) (c : Cluster) (me : ℕ) (outcome : Outcome) (x : UpNode) (from : ℕ) (m : Message) → Knows c D → UpNames D x
    → IsOrdinary D (cuts.packet_course c me outcome x from m)
packet_is D c me outcome x from m K n =
    let y : UpNode = hearing x from m.body in
    if_with (IsOrdinary D) (is_foreign c me x m.body) (is_foreign c me x m.body) Stops (Acts (Hears from m.body) (cuts.body_course c me outcome y from m m.body)) refl (λ e. tt)
    (λ e. (tt, body_is D c me outcome x y from m m.body K n e))

-- Devices.

pub distrusting_is : (D : ℕ → Type 0) (x : UpNode) (o : Option ℕ) → IsOrdinary D (cuts.distrusting_course x o)
distrusting_is D x None = tt
distrusting_is D x (Some d) = if_either (IsOrdinary D) (has (record_of x).valid d) (Keeps (Distrusts d) Stops) Stops (tt, tt) tt

own_seized_is : (D : ℕ → Type 0) (c : Cluster) (me : ℕ) (x : UpNode) (d : ℕ) (result : SeizeResult) (o : Option AttemptState) → Knows c D → UpNames D x → IfSome o (AttemptNames D)
    → IsOrdinary D (cuts.own_seized_course c me x d result o)
own_seized_is D c me x d result None K n h = tt
own_seized_is D c me x d result (Some a) K n h = going_is D c me x a (Own_seized d result) K n h

seized_is : (D : ℕ → Type 0) (c : Cluster) (me : ℕ) (x : UpNode) (d : ℕ) (result : SeizeResult) (o : Option ℕ) → Knows c D → UpNames D x
    → IsOrdinary D (cuts.seized_course c me x d result o)
seized_is D c me x d result None K n = tt
seized_is D c me x d result (Some coordinator) K n =
    if_either (IsOrdinary D) (coordinator == me) (cuts.own_seized_course c me x d result x.attempt) (writing coordinator (body.Seized (session_of x) d result))
    (own_seized_is D c me x d result x.attempt K n n.1) (tt, tt)

joined_is : (D : ℕ → Type 0) (c : Cluster) (me : ℕ) (x : UpNode) (o : Option ℕ) → Knows c D → UpNames D x → IsOrdinary D (cuts.joined_course c me x o)
joined_is D c me x None K n = tt
joined_is D c me x (Some coordinator) K n =
    if_either (IsOrdinary D) (coordinator == me) (cuts.own_ready_course c me x) (cuts.readying_course c x coordinator) (own_ready_is D c me x K n) (readying_is D c x coordinator)

-- the command at device d is answered so, and what follows is ordinary
abbrev pub IsAnswer : (ℕ → Type 0) → ℕ → PrCommand → Answer → Course → Type 0
IsAnswer D d k a (Acts (Takes at command b) rest) = (at ≡ d) × (command ≡ k) × (b ≡ a) × IsOrdinary D rest
IsAnswer D d k a (Keeps (Admits at command b e) rest) = (at ≡ d) × (command ≡ k) × (b ≡ a) × IsOrdinary D rest
IsAnswer D d k a _ = ⊥

joining_is : (D : ℕ → Type 0) (c : Cluster) (me : ℕ) (x : UpNode) (at : ℕ) (k : PrCommand) (a : Answer) (d : ℕ) (r : JoinResult) → Knows c D → UpNames D x
    → IsAnswer D at k a (cuts.joining_course c me x at k a d r)
joining_is D c me x at k a d join.Joined K n =
    (refl, refl, refl, joined_is D c me (joining_so (answered_so x a) d) (coordinator_of (joining_so (answered_so x a) d)) K (taken_names D x a n))
joining_is D c me x at k a d (join.Late w) K n = (refl, refl, refl, joined_is D c me (answered_so x a) (coordinator_of (answered_so x a)) K (taken_names D x a n))
joining_is D c me x at k a d join.Fault K n = (refl, refl, refl, joined_is D c me (answered_so x a) (coordinator_of (answered_so x a)) K (taken_names D x a n))

pub progress_is : (D : ℕ → Type 0) (c : Cluster) (me : ℕ) (x : UpNode) (at : ℕ) (k : PrCommand) (a : Answer) (p : Progress) → Knows c D → UpNames D x
    → IsAnswer D at k a (cuts.progress_course c me x at k a p)
progress_is D c me x at k a GoesOn K n = (refl, refl, refl, tt)
progress_is D c me x at k a (Seized d result) K n = (refl, refl, refl, seized_is D c me (answered_so x a) d result (coordinator_of (answered_so x a)) K (taken_names D x a n))
progress_is D c me x at k a (Joined d result) K n = joining_is D c me x at k a d result K n
