-- The calls of an attempt and what follows them leave its own part done exactly where no joining is queued.
use Rattle.std.specs.Prelude.{ℕ, ◌≡◌, ◌&&◌, ◌||◌, ◌++◌, ◌==◌, nat_lt, not, Bool, true, false, List, [], ◌∷◌, Option, None, Some, is_some, if◌then◌else◌}
use Rattle.std.specs.Option.{unwrap_or}
use Rattle.std.proofs.Common.{refl, sym, ap, subst, ◌∙◌}
use Rattle.cl_base.specs.Sets.{has}
use Rattle.cl_base.specs.declared.panic.Panic.TheVariants as panic
use Rattle.cmm_attempt.proofs.Basics.{false_true, if_either}
use Rattle.cmm_attempt.specs.Attempts.{AttemptState, Turn, newest_installed}
use Rattle.cmm_attempt.specs.Calls.{Call, May, Own_ready, With_votes, starts_in, turn}
use Rattle.cmm_attempt.specs.declared.phase.Phase.TheVariants.{Choosing, Installing}
use Rattle.cmm_attempt.specs.declared.step.AttemptEnd.{AttemptEnd}
use Rattle.cmm_attempt.specs.declared.step.Step.{Step}
use Rattle.cmm_attempt.specs.declared.step.Step.TheVariants as step
use Rattle.device_queue.specs.Queue.{after_seize, joins, put_unless, seizure_of}
use Rattle.device_queue.specs.Tasks.{is_joining, is_queued}
use Rattle.device_queue.specs.declared.task.Task.{Task}
use Rattle.device_queue.specs.declared.task.Work.TheVariants.{Seizing}
use Rattle.node_model.specs.Attempts.{begins_install, is_choosing, left_out_by, starts_now, votes_in}
use Rattle.node_model.specs.Deciding.{may_order}
use Rattle.node_model.specs.Members.{rested_by}
use Rattle.node_model.specs.Seats.{promised_of, promising, record_of}
use Rattle.node_model.specs.declared.cluster.Cluster.{Cluster}
use Rattle.node_model.specs.declared.node.UpNode.{UpNode}
use Rattle.node_model.specs.declared.presidency.Presidency.{Presidency}
use Rattle.node_model.specs.declared.seat.Seat.{Seat}
use Rattle.node_model.specs.declared.seat.Seat.TheVariants.{Forming, Member}
use Rattle.refinement.specs.Courses.{Course, joined}
use Rattle.refinement.specs.Courses.Course.{Acts, Falls, Keeps, Stops}
use Rattle.refinement.specs.Cuts as cuts
use Rattle.refinement.specs.Cuts.{deciding_course, if_installed, if_started, steps_course, turned}
use Rattle.refinement.specs.Doings.{Act, Change, acted, changed, going}
use Rattle.refinement.specs.Doings.Act.{Accepts, Ends, Goes_on, Makes, Queues, Takes}
use Rattle.refinement.specs.Doings.Change.{Admits, Counts, Installs, Leads, Promises, Starts}
use Rattle.run_downs.proofs.Courses.{by_test}
use Rattle.seize.specs.Seizing as seizing
use Rattle.seize.specs.Seizing.{SeizeState}
use Rattle.seize.specs.declared.kind.SeizeKind.{SeizeKind}
use Rattle.status_report.specs.declared.node_entry.DownCause.TheVariants as down
use Rattle.wire.specs.declared.message.Body.TheVariants as body
use Rattle.run_outcomes.specs.phases.Kept.{In}
use Rattle.run_outcomes.specs.saves.Courses.{LeadsTo}
use Rattle.run_outcomes.specs.silence.OwnPart.{PartSo, Parted, Undone}
use Rattle.run_outcomes.proofs.own_tasks.Beside.{AreLeft, LeftAct, LeftChange}
use Rattle.run_outcomes.proofs.phases.Leading.{Has, is_choice, turned_all_has}
use Rattle.run_outcomes.proofs.saves.Rests.{leads_joined}
use Rattle.run_outcomes.proofs.silence.OwnTurns.{begins_undone, early_own, first_part, installed_before, own_done, same_own}

-- ---- a seizing that is queued is no joining

more_joins : (ts : List Task) (d : ℕ) (s : SeizeState) → joins (ts ++ record { device = d; work = Seizing s } ∷ []) ≡ joins ts
more_joins [] d s = refl
more_joins (t ∷ ts) d s = ap (λ b. (is_joining t.work && is_queued t) || b) (more_joins ts d s)

put_joins : (o : Option Task) (ts : List Task) (d : ℕ) (s : SeizeState) → joins (put_unless o (record { device = d; work = Seizing s }) ts) ≡ joins ts
put_joins None ts d s = more_joins ts d s
put_joins (Some t) ts d s = refl

seize_joins : (ts : List Task) (d : ℕ) (s : SeizeState) → joins (after_seize ts d s) ≡ joins ts
seize_joins ts d s = put_joins (seizure_of ts d) ts d s

pub part_same : (ts us : List Task) (a : AttemptState) → joins us ≡ joins ts → PartSo ts a → PartSo us a
part_same ts us a same h = record { early = h.early; ready = λ at. h.ready at ∙ ap not (sym same) }

pub parts_same : (ts us : List Task) (o : Option AttemptState) → joins us ≡ joins ts → In (PartSo ts) o → In (PartSo us) o
parts_same ts us None same h = tt
parts_same ts us (Some a) same h = part_same ts us a same h

-- ---- what takes no answer and no call

abbrev pub QueuesAct : Act → Type 0
QueuesAct (Goes_on a k) = ⊥
QueuesAct (Takes at command a) = ⊥
QueuesAct (Makes change) = LeftChange change
QueuesAct _ = Unit {0}

abbrev pub AreQueueing : Course → Type 0
AreQueueing Stops = Unit {0}
AreQueueing (Acts a rest) = QueuesAct a × AreQueueing rest
AreQueueing (Keeps change rest) = LeftChange change × AreQueueing rest
AreQueueing (Falls why) = Unit {0}

promised_parted : (p : ℕ) (x : UpNode) (o : Option AttemptState) → Parted (rested_by (promising x p) o)
promised_parted p x None = tt
promised_parted p x (Some a) = tt

change_parted : (c : Cluster) (me : ℕ) (x : UpNode) (change : Change) → LeftChange change → Parted x → Parted (changed c me x change)
change_parted c me x (Promises p) left h = promised_parted p x x.attempt
change_parted c me x (Starts a k s) left h = tt
change_parted c me x (Leads p members) left h = absurd left
change_parted c me x (Counts a k s i) left h = absurd left
change_parted c me x (Installs s i) left h = absurd left
change_parted c me x (Admits at command a d) left h = absurd left
change_parted c me x _ left h = h

queued_parted : (b : Bool) (x : UpNode) (d : ℕ) (s : SeizeState) → Parted x → Parted (if b then record x { tasks = after_seize x.tasks d s } else x)
queued_parted true x d s h = parts_same x.tasks (after_seize x.tasks d s) x.attempt (seize_joins x.tasks d s) h
queued_parted false x d s h = h

act_parted : (c : Cluster) (me : ℕ) (x : UpNode) (a : Act) → QueuesAct a → Parted x → Parted (acted c me x a)
act_parted c me x (Goes_on a k) left h = absurd left
act_parted c me x (Takes at command a) left h = absurd left
act_parted c me x (Queues a d kind) left h = queued_parted (has a.plan.members me) x d (seizing.begun kind a.plan.epoch a.plan.members me c.id (has (record_of x).valid d)) h
act_parted c me x (Accepts kind e members d) left h =
    let s : SeizeState = seizing.begun kind e members me c.id (has (record_of x).valid d) in
    parts_same x.tasks (after_seize x.tasks d s) x.attempt (seize_joins x.tasks d s) h
act_parted c me x (Ends a e) left h = tt
act_parted c me x (Makes change) left h = change_parted c me x change left h
act_parted c me x _ left h = h

pub queueing_parted : (c : Cluster) (me : ℕ) (x : UpNode) (k : Course) → AreQueueing k → Parted x → LeadsTo c me Parted x k
queueing_parted c me x Stops left h = h
queueing_parted c me x (Acts a rest) left h = queueing_parted c me (acted c me x a) rest left.1 (act_parted c me x a left.0 h)
queueing_parted c me x (Keeps change rest) left h = queueing_parted c me (changed c me x change) rest left.1 (change_parted c me x change left.0 h)
queueing_parted c me x (Falls why) left h = tt

left_queues : (a : Act) → LeftAct a → QueuesAct a
left_queues (Goes_on a k) h = absurd h
left_queues (Queues a d kind) h = absurd h
left_queues (Accepts kind e members d) h = absurd h
left_queues (Takes at command a) h = absurd h
left_queues (Makes change) h = h
left_queues _ h = tt

pub left_queueing : (k : Course) → AreLeft k → AreQueueing k
left_queueing Stops h = tt
left_queueing (Acts a rest) h = (left_queues a h.0, left_queueing rest h.1)
left_queueing (Keeps change rest) h = (h.0, left_queueing rest h.1)
left_queueing (Falls why) h = tt

joined_q : (c : Cluster) (me : ℕ) (x : UpNode) (k : Course) (next : UpNode → Course) → AreQueueing k → ((y : UpNode) → AreQueueing (next y)) → AreQueueing (joined c me x k next)
joined_q c me x Stops next h f = f x
joined_q c me x (Acts a rest) next h f = (h.0, joined_q c me (acted c me x a) rest next h.1 f)
joined_q c me x (Keeps change rest) next h f = (h.0, joined_q c me (changed c me x change) rest next h.1 f)
joined_q c me x (Falls why) next h f = tt

-- ---- the steps of an attempt

excluded_q : (me e newest : ℕ) (o : Option ℕ) → AreQueueing (cuts.excluded_course me e newest o)
excluded_q me e newest None = tt
excluded_q me e newest (Some m) = if_either AreQueueing (m == me) (Falls (down.Panic (panic.Excluded newest))) (cuts.writing m (body.Excluded e newest)) tt (tt, tt)

ended_q : (me : ℕ) (e : AttemptEnd) (o : Option AttemptState) → AreQueueing (cuts.ended_course me e o)
ended_q me e None = tt
ended_q me e (Some a) = (tt, excluded_q me a.plan.epoch (unwrap_or (newest_installed a) 0) (left_out_by e))

queued_q : (d : ℕ) (kind : SeizeKind) (o : Option AttemptState) → AreQueueing (cuts.queued_course d kind o)
queued_q d kind None = tt
queued_q d kind (Some a) = (tt, tt)

step_q : (me : ℕ) (x : UpNode) (s : Step) → AreQueueing (cuts.step_course me x s)
step_q me x (step.Send to m) = (tt, tt)
step_q me x (step.SeizeHere d kind) = queued_q d kind x.attempt
step_q me x (step.NeedVotes n) = tt
step_q me x (step.InstallHere i) = tt
step_q me x step.StartHere = tt
step_q me x (step.Ended e) = ended_q me e x.attempt

steps_q : (c : Cluster) (me : ℕ) (x : UpNode) (steps : List Step) → AreQueueing (steps_course c me x steps)
steps_q c me x [] = tt
steps_q c me x (s ∷ steps) = joined_q c me x (cuts.step_course me x s) (λ y. steps_course c me y steps) (step_q me x s) (λ y. steps_q c me y steps)

steps_parted : (c : Cluster) (me : ℕ) (x : UpNode) (steps : List Step) → Parted x → LeadsTo c me Parted x (steps_course c me x steps)
steps_parted c me x steps h = queueing_parted c me x (steps_course c me x steps) (steps_q c me x steps) h

-- ---- a turn in which it does not come to install

gone_parted : (c : Cluster) (me : ℕ) (x : UpNode) (a : AttemptState) (k : Call) (steps : List Step) → PartSo x.tasks (turn a k).after → LeadsTo c me Parted x (cuts.gone_on c me x a k steps)
gone_parted c me x a k steps h = steps_parted c me (going x a k) steps h

started_parted : (c : Cluster) (me : ℕ) (x : UpNode) (a : AttemptState) (k : Call) (rest : List Step) (seat : Seat) → PartSo x.tasks (turn a k).after → LeadsTo c me Parted x (cuts.started c me x a k rest seat)
started_parted c me x a k rest (Member s) h = gone_parted c me x a k rest h
started_parted c me x a k rest (Forming s) h =
    let y : UpNode = changed c me x (Starts a k s) in
    let more : Course = steps_course c me y rest in
    if_either (LeadsTo c me Parted x) (starts_now s (turn a k).after.plan.epoch) (cuts.kept_if (is_some s.saved.entries.pending) (Starts a k s) more) (cuts.gone_on c me x a k rest)
    (if_either (LeadsTo c me Parted x) (is_some s.saved.entries.pending) (Keeps (Starts a k s) more) (Acts (Makes (Starts a k s)) more) (steps_parted c me y rest tt) (steps_parted c me y rest tt)) (gone_parted c me x a k rest h)

turned_by_parted : (c : Cluster) (me : ℕ) (x : UpNode) (a : AttemptState) (k : Call) (steps : List Step) → begins_install steps ≡ false → PartSo x.tasks (turn a k).after → LeadsTo c me Parted x (cuts.turned_by c me x a k steps)
turned_by_parted c me x a k [] none h = gone_parted c me x a k [] h
turned_by_parted c me x a k (step.InstallHere i ∷ rest) none h = absurd (false_true (sym none))
turned_by_parted c me x a k (step.StartHere ∷ rest) none h = started_parted c me x a k rest x.seat h
turned_by_parted c me x a k (step.Send to m ∷ rest) none h = gone_parted c me x a k (step.Send to m ∷ rest) h
turned_by_parted c me x a k (step.SeizeHere d kind ∷ rest) none h = gone_parted c me x a k (step.SeizeHere d kind ∷ rest) h
turned_by_parted c me x a k (step.NeedVotes n ∷ rest) none h = gone_parted c me x a k (step.NeedVotes n ∷ rest) h
turned_by_parted c me x a k (step.Ended e ∷ rest) none h = gone_parted c me x a k (step.Ended e ∷ rest) h

deciding_q : (c : Cluster) (me : ℕ) (x : UpNode) (o : Option Presidency) → AreQueueing (cuts.deciding_by_course c me x o)
deciding_q c me x None = tt
deciding_q c me x (Some p) = if_either AreQueueing (may_order p.groups) _ Stops (tt, (tt, tt)) tt

turned_all_parted : (c : Cluster) (me : ℕ) (x : UpNode) (a : AttemptState) (k : Call) → begins_install (turn a k).steps ≡ false → PartSo x.tasks (turn a k).after → LeadsTo c me Parted x (cuts.turned_all c me x a k)
turned_all_parted c me x a k none h =
    leads_joined c me Parted Parted x (turned c me x a k) (if_started c me (turn a k).steps) (turned_by_parted c me x a k (turn a k).steps none h)
    (λ y parted. if_either (LeadsTo c me Parted y) (starts_in (turn a k).steps) (deciding_course c me y) Stops (queueing_parted c me y (deciding_course c me y) (deciding_q c me y y.presidency) parted) parted)

-- ---- where its own part was not done it is done now, unless it joins devices

undone_part : (ts : List Task) (a : AttemptState) → joins ts ≡ true → Undone a → PartSo ts a
undone_part ts a is h = record { early = h.early; ready = λ at. h.ready at ∙ sym (ap not is) }

undone_parts : (x : UpNode) (o : Option AttemptState) → joins x.tasks ≡ true → In Undone o → In (PartSo x.tasks) o
undone_parts x None is h = tt
undone_parts x (Some a) is h = undone_part x.tasks a is h

readied_parted : (c : Cluster) (me : ℕ) (x : UpNode) (o : Option AttemptState) → x.attempt ≡ o → joins x.tasks ≡ false → In Undone o → LeadsTo c me Parted x (cuts.readied_course c me x o)
readied_parted c me x None at none h = subst (In (PartSo x.tasks)) (sym at) tt
readied_parted c me x (Some a) at none h =
    turned_all_parted c me x a Own_ready (own_done a).0
    (record { early = λ before. early_own a Own_ready tt h.early before; ready = λ is. (own_done a).1 is ∙ sym (ap not none) })

pub own_ready_parted : (c : Cluster) (me : ℕ) (x : UpNode) → Has Undone x → LeadsTo c me Parted x (cuts.own_ready_course c me x)
own_ready_parted c me x h =
    by_test (LeadsTo c me Parted x) (joins x.tasks) Stops (cuts.readied_course c me x x.attempt) (λ is. undone_parts x x.attempt is h) (λ none. readied_parted c me x x.attempt refl none h)

-- ---- a call

still_part : (ts : List Task) (a : AttemptState) (k : Call) → May a k → (k ≡ Own_ready → ⊥) → begins_install (turn a k).steps ≡ false → PartSo ts a → PartSo ts (turn a k).after
still_part ts a k may other none h = record {
  early = λ before. early_own a k may h.early before;
  ready = λ at. same_own (not (joins ts)) a k may other (h.ready (installed_before a k may none at));
}

called_parted : (c : Cluster) (me : ℕ) (x : UpNode) (a : AttemptState) (k : Call) → May a k → (k ≡ Own_ready → ⊥) → PartSo x.tasks a → LeadsTo c me Parted x (cuts.called c me x a k)
called_parted c me x a k may other h = by_begin (begins_install (turn a k).steps) refl
  where
    by_begin : (b : Bool) → begins_install (turn a k).steps ≡ b → LeadsTo c me Parted x (cuts.called c me x a k)
    by_begin true begins =
        leads_joined c me (Has Undone) Parted x (cuts.turned_all c me x a k) (if_installed c me (turn a k).steps) (turned_all_has Undone c me x a k (begins_undone a k may other h.early begins))
        (λ y undone. subst (λ b. LeadsTo c me Parted y (if b then cuts.own_ready_course c me y else Stops)) (sym begins) (own_ready_parted c me y undone))
    by_begin false none =
        leads_joined c me Parted Parted x (cuts.turned_all c me x a k) (if_installed c me (turn a k).steps) (turned_all_parted c me x a k none (still_part x.tasks a k may other none h))
        (λ y parted. subst (λ b. LeadsTo c me Parted y (if b then cuts.own_ready_course c me y else Stops)) (sym none) parted)

choosing_part : (ts us : List Task) (a : AttemptState) (k : Call) → May a k → PartSo ts a → (turn a k).after.phase ≡ Choosing → PartSo us (turn a k).after
choosing_part ts us a k may h chooses = record { early = λ before. early_own a k may h.early before; ready = λ at. absurd (apart (sym chooses ∙ at)) }
  where
    apart : Choosing ≡ Installing → ⊥
    apart z = cc

pub going_parted : (c : Cluster) (me : ℕ) (x : UpNode) (a : AttemptState) (k : Call) → May a k → (k ≡ Own_ready → ⊥) → PartSo x.tasks a → LeadsTo c me Parted x (cuts.going_course c me x a k)
going_parted c me x a k may other h =
    let t : AttemptState = (turn a k).after in
    by_test (LeadsTo c me Parted x) (is_choosing t.phase) (Acts (Goes_on a k) (cuts.called c me (going x a k) t (With_votes (votes_in c t)))) (cuts.called c me x a k)
    (λ chooses. called_parted c me (going x a k) t (With_votes (votes_in c t)) (is_choice t.phase chooses) (no_votes t) (choosing_part x.tasks x.tasks a k may h (is_choice t.phase chooses))) (λ rests. called_parted c me x a k may other h)
  where
    no_votes : (t : AttemptState) → With_votes (votes_in c t) ≡ Own_ready → ⊥
    no_votes t z = cc

-- ---- an attempt begins

leading_parted : (c : Cluster) (me : ℕ) (x : UpNode) (p members : ℕ) → Parted x → LeadsTo c me Parted x (cuts.leading_course c me x p members)
leading_parted c me x p members h =
    let y : UpNode = changed c me x (Leads p members) in
    let t : Turn = cuts.first_turn c me x p members in
    let first : PartSo y.tasks t.after = first_part y.tasks p members _ c.attached c.id in
    if_either (LeadsTo c me Parted x) (nat_lt (promised_of x) p) (Keeps (Leads p members) (cuts.begun_course c me y t)) Stops
    (by_test (LeadsTo c me Parted y) (is_choosing t.after.phase) (cuts.called c me y t.after (With_votes (votes_in c t.after))) (steps_course c me y t.steps)
    (λ chooses. called_parted c me y t.after (With_votes (votes_in c t.after)) (is_choice t.after.phase chooses) (no_votes t.after) first) (λ rests. steps_parted c me y t.steps first)) h
  where
    no_votes : (t : AttemptState) → With_votes (votes_in c t) ≡ Own_ready → ⊥
    no_votes t z = cc

pub forming_parted : (c : Cluster) (me : ℕ) (x : UpNode) (o : Option ℕ) → Parted x → LeadsTo c me Parted x (cuts.forming_course c me x o)
forming_parted c me x None h = h
forming_parted c me x (Some members) h = leading_parted c me x _ members h
