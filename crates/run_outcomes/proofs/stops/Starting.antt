-- Where a joining has ended, a coordinator starts only with no task left.
use Rattle.std.specs.Prelude.{ℕ, ◌≡◌, ◌==◌, ◌&&◌, ◌||◌, ◌⊎◌, not, nat_le, nat_lt, Bool, true, false, List, [], ◌∷◌, filter, length, map, Option, None, Some, if◌then◌else◌, is_some}
use Rattle.std.proofs.Common.{refl, sym, ap, subst, ◌∙◌, arith, inl, inr}
use Rattle.cmm_attempt.proofs.Basics.{and_cases, false_true, if_either, same_number}
use Rattle.cmm_attempt.specs.Attempts.{AttemptState, Turn, all_ready, own_readying, own_readying_in, starting, waits, with_steps}
use Rattle.cmm_attempt.specs.Calls.{Call, Own_ready, starts_in, turn}
use Rattle.cmm_attempt.specs.Installs.{send_start}
use Rattle.cmm_attempt.specs.Plans.{others_of}
use Rattle.cmm_attempt.specs.declared.phase.Phase.{Phase}
use Rattle.cmm_attempt.specs.declared.phase.Phase.TheVariants.{Choosing, Collecting, Installing, Over, SeizingOthers, SeizingVotes}
use Rattle.cmm_attempt.specs.declared.step.Step.{Step}
use Rattle.cmm_attempt.specs.declared.step.Step.TheVariants as step
use Rattle.cmm_member.specs.Nodes.{NodeState}
use Rattle.cmm_member.specs.Records.{NodeRecord}
use Rattle.device_queue.specs.Queue.{after_answer, joins}
use Rattle.device_queue.specs.Tasks.{is_queued}
use Rattle.history.specs.Member as member
use Rattle.history.specs.Member.{attempt_of, in_collect}
use Rattle.history.specs.Moment.{Moment}
use Rattle.history.specs.Queue as told
use Rattle.history.specs.Seizing.{acts_for, is_number}
use Rattle.history.specs.Setting.{Setting}
use Rattle.history.specs.Trace.{saved}
use Rattle.history.specs.UnderWay.{is_under_way}
use Rattle.node_model.specs.Attempts.{starts_now}
use Rattle.node_model.specs.Seats.{installed_of, session_of, state_of}
use Rattle.node_model.specs.declared.cluster.Cluster.{Cluster}
use Rattle.node_model.specs.declared.node.Node.TheVariants.{Up}
use Rattle.node_model.specs.declared.node.UpNode.{UpNode}
use Rattle.node_model.specs.declared.seat.Seat.{Seat}
use Rattle.node_model.specs.declared.seat.Seat.TheVariants.{Forming, Member}
use Rattle.pgr_device.specs.declared.command.PrCommand.{PrCommand}
use Rattle.refinement.specs.Courses.{Course, Reply, joined, under}
use Rattle.refinement.specs.Courses.Course.{Acts, Falls, Keeps, Stops}
use Rattle.refinement.specs.Courses.Reply.{Done, Lost_new, Lost_old}
use Rattle.refinement.specs.Cuts as cuts
use Rattle.refinement.specs.Cuts.{deciding_course, if_started, steps_course}
use Rattle.refinement.specs.Doings.{Change, acted, changed, gives, site}
use Rattle.refinement.specs.Doings.Change.{Counts, Starts}
use Rattle.refinement.specs.Doings.Doing.{Saves}
use Rattle.seize.specs.Answers.{Answer}
use Rattle.run_history.specs.Scenes.{Scene, passing}
use Rattle.run_seizings.proofs.Progress.{if_not, if_so}
use Rattle.run_seizings.specs.Seized.{has_installed}
use Rattle.run_devices.proofs.queues.Acts.{line_of}
use Rattle.run_devices.specs.queues.Kept.{joins_in}
use Rattle.run_devices.specs.queues.Laws.{Same, queued}
use Rattle.run_outcomes.specs.stops.Idle.{AllIdle, IsIdle, LostIdle}
use Rattle.run_outcomes.proofs.saves.Trying.{Tries, deciding_t, gone_t, steps_t}
use Rattle.run_outcomes.proofs.stops.Commanded.{IsTold}
use Rattle.run_outcomes.proofs.stops.Emptied.{node_emptied, told_emptied}
use Rattle.run_outcomes.proofs.stops.Queued.{line_tasks}
use Rattle.run_outcomes.proofs.stops.Unled.{NotTried, Still, still_idle}

-- ---- courses that start first, or save nothing of the attempt

pub tries_still : (k : Course) → Tries NotTried k → Still k
tries_still Stops h = tt
tries_still (Acts a rest) h = tries_still rest h.1
tries_still (Keeps change rest) h = (h.0, tries_still rest h.1)
tries_still (Falls why) h = tt

pub joined_still : (c : Cluster) (n : ℕ) (x : UpNode) (k : Course) (next : UpNode → Course) → Still k → ((y : UpNode) → Still (next y)) → Still (joined c n x k next)
joined_still c n x Stops next h f = f x
joined_still c n x (Acts a rest) next h f = joined_still c n (acted c n x a) rest next h f
joined_still c n x (Keeps change rest) next h f = (h.0, joined_still c n (changed c n x change) rest next h.1 f)
joined_still c n x (Falls why) next h f = tt

abbrev Begins : Type 0 → Course → Type 0
Begins Q (Keeps change rest) = Q × Still rest
Begins Q _ = ⊥

abbrev Once : Type 0 → Course → Type 0
Once Q k = Still k ⊎ Begins Q k

joined_begins : (Q : Type 0) (c : Cluster) (n : ℕ) (x : UpNode) (k : Course) (next : UpNode → Course) → Begins Q k → ((y : UpNode) → Still (next y)) → Begins Q (joined c n x k next)
joined_begins Q c n x Stops next h f = absurd h
joined_begins Q c n x (Acts a rest) next h f = absurd h
joined_begins Q c n x (Keeps change rest) next h f = (h.0, joined_still c n (changed c n x change) rest next h.1 f)
joined_begins Q c n x (Falls why) next h f = absurd h

joined_once : (Q : Type 0) (c : Cluster) (n : ℕ) (x : UpNode) (k : Course) (next : UpNode → Course) → Once Q k → ((y : UpNode) → Still (next y)) → Once Q (joined c n x k next)
joined_once Q c n x k next (inl h) f = inl (joined_still c n x k next h f)
joined_once Q c n x k next (inr h) f = inr (joined_begins Q c n x k next h f)

lost_idle : (S : Setting) (n : ℕ) (change : Change) (ms : List Moment) → IsIdle S n ms → LostIdle S n change ms
lost_idle S n (Counts a k s i) ms h = h
lost_idle S n (Starts a k s) ms h = h
lost_idle S n _ ms h = tt

begins_idle : (S : Setting) (c : Cluster) (n : ℕ) (x : UpNode) (disk : NodeRecord) (Q : Type 0) (k : Course) (replies : List Reply) (s : Scene) → Begins Q k → (Q → IsIdle S n s.moments) → AllIdle S c n (site (Up x) disk) (under replies k) s
begins_idle S c n x disk Q Stops replies s h idle = absurd h
begins_idle S c n x disk Q (Acts a rest) replies s h idle = absurd h
begins_idle S c n x disk Q (Keeps change rest) [] s h idle = (lost_idle S n change s.moments (idle h.0), tt)
begins_idle S c n x disk Q (Keeps change rest) (Done ∷ replies) s h idle = (tt, still_idle S c n (changed c n x change) _ rest replies (passing n (gives c n (site (Up x) disk) (Saves change)) s) h.1)
begins_idle S c n x disk Q (Keeps change rest) (Lost_new why ∷ replies) s h idle = (lost_idle S n change s.moments (idle h.0), tt)
begins_idle S c n x disk Q (Keeps change rest) (Lost_old why ∷ replies) s h idle = (lost_idle S n change s.moments (idle h.0), tt)
begins_idle S c n x disk Q (Falls why) replies s h idle = absurd h

once_idle : (S : Setting) (c : Cluster) (n : ℕ) (x : UpNode) (disk : NodeRecord) (Q : Type 0) (k : Course) (replies : List Reply) (s : Scene) → Once Q k → (Q → IsIdle S n s.moments) → AllIdle S c n (site (Up x) disk) (under replies k) s
once_idle S c n x disk Q k replies s (inl h) idle = still_idle S c n x disk k replies s h
once_idle S c n x disk Q k replies s (inr h) idle = begins_idle S c n x disk Q k replies s h idle

-- ---- its own part is done

-- it has installed its session, and has no joining left
pub record IsReady (x : UpNode) (a : AttemptState) : Type 0 where
  pub phase : a.phase ≡ Installing
  pub installed : installed_of x ≡ session_of x

starts_here : (s : NodeState) (e : ℕ) → starts_now s e ≡ true → s.saved.installed ≡ s.session
starts_here s e h =
    let two : ((nat_le 1 e && (s.session == e)) ≡ true) × ((s.saved.installed == e) ≡ true) = and_cases (nat_le 1 e && (s.session == e)) (s.saved.installed == e) h in
    let both : (nat_le 1 e ≡ true) × ((s.session == e) ≡ true) = and_cases (nat_le 1 e) (s.session == e) two.0 in
    same_number s.saved.installed e two.1 ∙ sym (same_number s.session e both.1)

started_once : (c : Cluster) (n : ℕ) (x : UpNode) (a : AttemptState) (k : Call) (rest : List Step) (seat : Seat) → a.phase ≡ Installing → x.seat ≡ seat → Once (IsReady x a) (cuts.started c n x a k rest seat)
started_once c n x a k rest (Member s) phase is = inl (tries_still (cuts.gone_on c n x a k rest) (gone_t NotTried c n x a k rest))
started_once c n x a k rest (Forming s) phase is = by_test (starts_now s (turn a k).after.plan.epoch) refl
  where
    more : Course
    more = steps_course c n (changed c n x (Starts a k s)) rest

    still : Still more
    still = tries_still more (steps_t NotTried c n (changed c n x (Starts a k s)) rest)

    installed : starts_now s (turn a k).after.plan.epoch ≡ true → installed_of x ≡ session_of x
    installed h = ap (λ (z : Seat). (state_of z).saved.installed) is ∙ (starts_here s (turn a k).after.plan.epoch h ∙ sym (ap (λ (z : Seat). (state_of z).session) is))

    by_pending : (b : Bool) → starts_now s (turn a k).after.plan.epoch ≡ true → Once (IsReady x a) (cuts.kept_if b (Starts a k s) more)
    by_pending true h = inr (record { phase = phase; installed = installed h }, still)
    by_pending false h = inl still

    by_test : (b : Bool) → starts_now s (turn a k).after.plan.epoch ≡ b → Once (IsReady x a) (if b then cuts.kept_if (is_some s.saved.entries.pending) (Starts a k s) more else cuts.gone_on c n x a k rest)
    by_test true h = by_pending (is_some s.saved.entries.pending) h
    by_test false h = inl (tries_still (cuts.gone_on c n x a k rest) (gone_t NotTried c n x a k rest))

starting_once : (c : Cluster) (n : ℕ) (x : UpNode) (a b : AttemptState) → a.phase ≡ Installing → Once (IsReady x a) (cuts.turned_by c n x a Own_ready (starting b).steps)
unfolding starting
starting_once c n x a b phase =
    let rest : List Step = map (send_start b.plan) (others_of b.plan) in
    if_either (λ (t : Turn). Once (IsReady x a) (cuts.turned_by c n x a Own_ready t.steps)) (b.own_ready && all_ready b) (with_steps (record b { phase = Over }) (step.StartHere ∷ rest)) (waits b)
    (started_once c n x a Own_ready rest x.seat phase refl) (inl (tries_still (cuts.gone_on c n x a Own_ready []) (gone_t NotTried c n x a Own_ready [])))

turned_once : (c : Cluster) (n : ℕ) (x : UpNode) (a : AttemptState) → Once (IsReady x a) (cuts.turned c n x a Own_ready)
unfolding own_readying
turned_once c n x a = by_phase a.phase refl
  where
    none : Once (IsReady x a) (cuts.turned_by c n x a Own_ready [])
    none = inl (tries_still (cuts.gone_on c n x a Own_ready []) (gone_t NotTried c n x a Own_ready []))

    by_phase : (p : Phase) → a.phase ≡ p → Once (IsReady x a) (cuts.turned_by c n x a Own_ready (own_readying_in a p).steps)
    by_phase Installing is = starting_once c n x a _ is
    by_phase Collecting is = none
    by_phase Choosing is = none
    by_phase SeizingVotes is = none
    by_phase SeizingOthers is = none
    by_phase Over is = none

pub if_started_still : (c : Cluster) (n : ℕ) (steps : List Step) (y : UpNode) → Still (if_started c n steps y)
if_started_still c n steps y = if_either Still (starts_in steps) (deciding_course c n y) Stops (tries_still (deciding_course c n y) (deciding_t NotTried c n y)) tt

-- where it has a joining left it does nothing
pub own_ready_idle : (S : Setting) (c : Cluster) (n : ℕ) (x : UpNode) (disk : NodeRecord) (a : AttemptState) (replies : List Reply) (s : Scene) → x.attempt ≡ Some a → (joins x.tasks ≡ false → IsReady x a → IsIdle S n s.moments)
    → AllIdle S c n (site (Up x) disk) (under replies (cuts.own_ready_course c n x)) s
own_ready_idle S c n x disk a replies s is idle = by_test (joins x.tasks) refl
  where
    by_test : (b : Bool) → joins x.tasks ≡ b → AllIdle S c n (site (Up x) disk) (under replies (if b then Stops else cuts.readied_course c n x x.attempt)) s
    by_test true left = tt
    by_test false none =
        subst (λ o. AllIdle S c n (site (Up x) disk) (under replies (cuts.readied_course c n x o)) s) (sym is)
        (once_idle S c n x disk (IsReady x a) (cuts.turned_all c n x a Own_ready) replies s
        (joined_once (IsReady x a) c n x (cuts.turned c n x a Own_ready) (if_started c n (turn a Own_ready).steps) (turned_once c n x a) (λ y. if_started_still c n (turn a Own_ready).steps y)) (idle none))

-- ---- the lines

-- once it has installed its session, a coordinator seizes nothing for itself
own_none : (S : Setting) (n : ℕ) (o : Option ℕ) (ms : List Moment) (us : List told.Task) → ((e : ℕ) → acts_for n e ms ≡ false) → told.with_own S n o ms us ≡ us
own_none S n None ms us none = refl
own_none S n (Some e) ms us none =
    if_not (acts_for n e ms && is_under_way e ms && told.all_promised e ms) (told.own_tasks S n e (told.newest_in_hand e ms) ms us) us (first_no (acts_for n e ms) (is_under_way e ms) (told.all_promised e ms) (none e))
  where
    first_no : (a b c : Bool) → a ≡ false → (a && b && c) ≡ false
    first_no false b c h = refl
    first_no true b c h = absurd (false_true (sym h))

pub idle_of : (S : Setting) (n : ℕ) (ms : List Moment) → queued (told.tasks_of S n ms) ≡ [] → told.has_work S n ms ≡ false
idle_of S n ms none = by_test (is_some (member.member_of n ms))
  where
    by_test : (b : Bool) → nat_lt 0 (length (map (λ (t : told.Task). t.device) (if b then [] else queued (told.tasks_of S n ms)))) ≡ false
    by_test true = refl
    by_test false = ap (λ us. nat_lt 0 (length (map (λ (t : told.Task). t.device) us))) none

pub still_told : (a b : Bool) → (a || (b && not false)) ≡ false → b ≡ false
still_told true b h = absurd (false_true (sym h))
still_told false true h = absurd (false_true (sym h))
still_told false false h = refl

pub line_idle : (S : Setting) (n at : ℕ) (q : PrCommand) (b : Answer) (x : UpNode) (ms : List Moment) → told.is_write q ≡ false → ((e : ℕ) → acts_for n e ms ≡ false) → filter is_queued x.tasks ≡ filter is_queued (joins_in x.tasks)
    → joins (after_answer x.tasks b) ≡ false → IsTold S n x ms → IsIdle S n (line_of n at q b ∷ ms)
line_idle S n at q b x ms off acts only none queue = λ shut.
    let before : told.queue_is_open S n ms ≡ false = still_told (told.is_untold S n (attempt_of n (line_of n at q b ∷ ms)) (line_of n at q b ∷ ms)) (told.queue_is_open S n ms) shut in
    by_test (is_some (member.member_of n ms)) refl (queue before)
  where
    after : List Moment
    after = line_of n at q b ∷ ms

    by_test : (t : Bool) → is_some (member.member_of n ms) ≡ t → Same (filter is_queued x.tasks) (if t then [] else queued (told.tasks_of S n ms)) → told.has_work S n after ≡ false
    by_test true is k = ap (λ t. nat_lt 0 (length (map (λ (u : told.Task). u.device) (if t then [] else queued (told.tasks_of S n after))))) is
    by_test false is k =
        idle_of S n after
        (ap queued (line_tasks S n at q b ms off ∙ own_none S n (attempt_of n ms) after (told.moved b (told.tasks_of S n ms)) acts)
        ∙ told_emptied x.tasks (told.tasks_of S n ms) b k (node_emptied x.tasks b only none))

itself : (n : ℕ) → (n == n) ≡ true
itself n = grind arith

pub saved_idle : (S : Setting) (n : ℕ) (ms : List Moment) → IsIdle S n ms → IsIdle S n (saved n ∷ ms)
saved_idle S n ms idle = λ shut. by_test (in_collect n ms) refl shut
  where
    test : Bool
    test = (n == n) && in_collect n ms

    by_test : (b : Bool) → in_collect n ms ≡ b → told.queue_is_open S n (saved n ∷ ms) ≡ false → told.has_work S n (saved n ∷ ms) ≡ false
    by_test true is shut = idle_of S n (saved n ∷ ms) (ap queued (if_so test [] (told.tasks_of S n ms) (ap (λ b. b && in_collect n ms) (itself n) ∙ is)))
    by_test false is shut =
        let none : test ≡ false = ap (λ b. b && in_collect n ms) (itself n) ∙ is in
        let before : told.queue_is_open S n ms ≡ false =
        still_told (told.is_untold S n (attempt_of n (saved n ∷ ms)) (saved n ∷ ms)) (told.queue_is_open S n ms) (sym (ap (λ b. told.is_untold S n (attempt_of n (saved n ∷ ms)) (saved n ∷ ms) || (told.queue_is_open S n ms && not b)) none) ∙ shut) in
        ap
        (λ b. nat_lt 0 (length (map (λ (t : told.Task). t.device) (if is_some (if b then None else member.member_of n ms) then [] else queued (if b then [] else told.tasks_of S n ms))))) none
        ∙ idle before

-- it acts for no epoch any more
pub acts_none : (n q : ℕ) (ms : List Moment) → member.session_of n ms ≡ Some q → has_installed n q ms ≡ true → (e : ℕ) → acts_for n e ms ≡ false
acts_none n q ms session installed e = ap (λ o. is_number e o && not (has_installed n e ms)) session ∙ by_test (q == e) refl
  where
    by_test : (b : Bool) → (q == e) ≡ b → (b && not (has_installed n e ms)) ≡ false
    by_test true is = ap not (ap (λ k. has_installed n k ms) (sym (same_number q e is)) ∙ installed)
    by_test false is = refl
