-- Whatever comes to a node, its attempt goes on in its phase, with nothing asked anew, or its ticks begin again.
use Rattle.std.specs.Prelude.{ℕ, ◌==◌, ◌≡◌, nat_le, nat_lt, List, [], Option, None, Some, Ok}
use Rattle.std.proofs.Common.{refl, sym, subst, inl, inr}
use Rattle.ccr_tables.specs.State.{ConfigState}
use Rattle.ccr_tables.specs.declared.address.Address.{Address}
use Rattle.cl_base.specs.Seizings.{SeizeResult}
use Rattle.cl_base.specs.Sets.{has}
use Rattle.cl_base.specs.declared.method.Outcome as method
use Rattle.cmm_attempt.proofs.Basics.{if_either}
use Rattle.cmm_attempt.specs.Attempts.{AttemptState, Turn, all_promised, beginning, choosing, chosen_by, collects, first_state, promises_of, with_steps}
use Rattle.cmm_attempt.specs.Calls.{Call, Own_ready, Own_seized, Take, Tick as Call_tick, With_votes, turn}
use Rattle.cmm_attempt.specs.Promises.{newest_shown, promised_by, shown_by}
use Rattle.cmm_attempt.specs.declared.attached.AttachedDevice.{AttachedDevice}
use Rattle.cmm_attempt.specs.declared.promised.Shown.{Shown}
use Rattle.device_queue.specs.Queue.{begins_plainly, due_device, joins, next_of, progress_after}
use Rattle.device_queue.specs.declared.progress.Progress.{Progress}
use Rattle.device_queue.specs.declared.progress.Progress.TheVariants.{GoesOn, Joined, Seized}
use Rattle.node_model.specs.Attempts.{begins_install, is_choosing, votes_in}
use Rattle.node_model.specs.Clusters.{first_valid_of}
use Rattle.node_model.specs.Configurations.{in_force}
use Rattle.node_model.specs.Devices.{joining_so}
use Rattle.node_model.specs.Members.{hearing, is_foreign}
use Rattle.node_model.specs.Seats.{coordinator_of, promised_of, record_of, session_of}
use Rattle.node_model.specs.Steps.{Outcome, at_second, booted_with, stepped}
use Rattle.node_model.specs.Ticks.{later, members_to_form, waiting_less}
use Rattle.node_model.specs.declared.cluster.Cluster.{Cluster}
use Rattle.node_model.specs.declared.input.Input.{Input}
use Rattle.node_model.specs.declared.input.Input.TheVariants.{Answered, Boot, Client, CommandDue, Commanded, Crash, Packet, Reported, Tick, Wrote}
use Rattle.node_model.specs.declared.node.Node.TheVariants.{Down, Up}
use Rattle.node_model.specs.declared.node.UpNode.{UpNode}
use Rattle.node_model.specs.declared.presidency.Presidency.{Presidency}
use Rattle.pgr_device.specs.declared.command.PrAnswer.TheVariants as given
use Rattle.pgr_device.specs.declared.command.PrCommand.{PrCommand}
use Rattle.record_disk.specs.Disks.{DiskState, mounting, saving}
use Rattle.record_disk.specs.declared.error.Loss.{Loss}
use Rattle.record_disk.specs.declared.error.Loss.TheVariants.{Fault, Stopped}
use Rattle.refinement.proofs.Cuts.{step_of_node_is_its_course}
use Rattle.refinement.specs.Courses.{Course}
use Rattle.refinement.specs.Courses.Course.{Acts, Falls, Keeps, Stops}
use Rattle.refinement.specs.Cuts as cuts
use Rattle.refinement.specs.Cuts.{course_at, course_of, if_installed, steps_course, writing}
use Rattle.refinement.specs.Doings.{Act, Change, answered_so, changed, going}
use Rattle.refinement.specs.Doings.Act.{Goes_on, Hears, Makes, Waits}
use Rattle.refinement.specs.Doings.Change.{Counts, Distrusts, Leads}
use Rattle.refinement.specs.Steps.{disk_rules}
use Rattle.rg_props.specs.Lookups.{named}
use Rattle.seize.specs.Answers.{Answer}
use Rattle.seize.specs.declared.kind.JoinResult.{JoinResult}
use Rattle.seize.specs.declared.kind.JoinResult.TheVariants as join
use Rattle.seize.specs.declared.kind.SeizeKind.TheVariants.{Plain, Vote}
use Rattle.wire.specs.declared.message.Body.{Body}
use Rattle.wire.specs.declared.message.Body.TheVariants as body
use Rattle.wire.specs.declared.message.Message.{Message}
use Rattle.run_outcomes.specs.phases.Kept.{In}
use Rattle.run_outcomes.specs.saves.Courses.{LeadsTo, Leaves, LeavesAct, LeavesChange}
use Rattle.run_outcomes.specs.saves.Kept.{IsAt}
use Rattle.run_outcomes.specs.silence.Still.{Goes, Still}
use Rattle.run_outcomes.proofs.own_tasks.Beside.{AreLeft, LeftAct, LeftChange, command_left, governing_left, report_left}
use Rattle.run_outcomes.proofs.phases.Leading.{Has, leaves_has, steps_has, turned_all_has}
use Rattle.run_outcomes.proofs.phases.Steps.{carried_leads, other_l, seizing_l}
use Rattle.run_outcomes.proofs.saves.Rests.{leads_joined}
use Rattle.run_outcomes.proofs.silence.StillTurns.{call_goes, still_self, tick_still}

-- each call but a tick keeps it
abbrev pub Follows : (AttemptState → Type 0) → Type 0
Follows I = (a : AttemptState) (k : Call) → (k ≡ Call_tick → ⊥) → I a → I (turn a k).after

-- ---- calls

readied_f : (I : AttemptState → Type 0) (c : Cluster) (me : ℕ) (x : UpNode) (o : Option AttemptState) → Follows I → In I o → Has I x → LeadsTo c me (Has I) x (cuts.readied_course c me x o)
readied_f I c me x None keeps here h = h
readied_f I c me x (Some a) keeps here h = turned_all_has I c me x a Own_ready (keeps a Own_ready (λ z. cc) here)

own_ready_f : (I : AttemptState → Type 0) (c : Cluster) (me : ℕ) (x : UpNode) → Follows I → Has I x → LeadsTo c me (Has I) x (cuts.own_ready_course c me x)
own_ready_f I c me x keeps h = if_either (LeadsTo c me (Has I) x) (joins x.tasks) Stops (cuts.readied_course c me x x.attempt) h (readied_f I c me x x.attempt keeps h h)

called_f : (I : AttemptState → Type 0) (c : Cluster) (me : ℕ) (x : UpNode) (a : AttemptState) (k : Call) → Follows I → I (turn a k).after → LeadsTo c me (Has I) x (cuts.called c me x a k)
called_f I c me x a k keeps h =
    leads_joined c me (Has I) (Has I) x (cuts.turned_all c me x a k) (if_installed c me (turn a k).steps) (turned_all_has I c me x a k h)
    (λ y kept. if_either (LeadsTo c me (Has I) y) (begins_install (turn a k).steps) (cuts.own_ready_course c me y) Stops (own_ready_f I c me y keeps kept) kept)

going_f : (I : AttemptState → Type 0) (c : Cluster) (me : ℕ) (x : UpNode) (a : AttemptState) (k : Call) → Follows I → I (turn a k).after → LeadsTo c me (Has I) x (cuts.going_course c me x a k)
going_f I c me x a k keeps h =
    let t : AttemptState = (turn a k).after in
    if_either (LeadsTo c me (Has I) x) (is_choosing t.phase) (Acts (Goes_on a k) (cuts.called c me (going x a k) t (With_votes (votes_in c t)))) (cuts.called c me x a k)
    (called_f I c me (going x a k) t (With_votes (votes_in c t)) keeps (keeps t (With_votes (votes_in c t)) (λ z. cc) h)) (called_f I c me x a k keeps h)

-- ---- an attempt begins

abbrev IsNew : (AttemptState → Type 0) → Type 0
IsNew I = (b : AttemptState) → b.ticks ≡ 0 → I b

chosen_new : (s : AttemptState) (n : Option Shown) → s.ticks ≡ 0 → (chosen_by s n).after.ticks ≡ 0
chosen_new s None h = h
chosen_new s (Some newest) h = refl

choosing_new : (s : AttemptState) → s.ticks ≡ 0 → (choosing s).after.ticks ≡ 0
unfolding choosing
choosing_new s h = chosen_new s (newest_shown s.promises) h

pub first_new : (p members : ℕ) (own : Message) (attached : List AttachedDevice) (cluster : ℕ) → (beginning p members own attached cluster).after.ticks ≡ 0
unfolding beginning
first_new p members own attached cluster =
    let s : AttemptState = first_state p members own attached cluster (promises_of (promised_by own (shown_by own.sender own.body))) in
    if_either (λ (u : Turn). u.after.ticks ≡ 0) (all_promised s) (choosing s) (with_steps s (collects s)) (choosing_new s refl) refl

leading_f : (I : AttemptState → Type 0) (c : Cluster) (me : ℕ) (x : UpNode) (p members : ℕ) → Follows I → IsNew I → Has I x → LeadsTo c me (Has I) x (cuts.leading_course c me x p members)
leading_f I c me x p members keeps new h =
    let y : UpNode = changed c me x (Leads p members) in
    let t : Turn = cuts.first_turn c me x p members in
    let first : I t.after = new t.after (first_new p members _ c.attached c.id) in
    if_either (LeadsTo c me (Has I) x) (nat_lt (promised_of x) p) (Keeps (Leads p members) (cuts.begun_course c me y t)) Stops
    (if_either (LeadsTo c me (Has I) y) (is_choosing t.after.phase) (cuts.called c me y t.after (With_votes (votes_in c t.after))) (steps_course c me y t.steps)
    (called_f I c me y t.after (With_votes (votes_in c t.after)) keeps (keeps t.after (With_votes (votes_in c t.after)) (λ z. cc) first)) (steps_has I c me y t.steps first)) h

forming_f : (I : AttemptState → Type 0) (c : Cluster) (me : ℕ) (x : UpNode) (o : Option ℕ) → Follows I → IsNew I → Has I x → LeadsTo c me (Has I) x (cuts.forming_course c me x o)
forming_f I c me x None keeps new h = h
forming_f I c me x (Some members) keeps new h = leading_f I c me x _ members keeps new h

-- ---- what is done beside

left_change : (change : Change) → LeftChange change → LeavesChange change
left_change (Counts a k s i) h = absurd h
left_change (Leads p members) h = absurd h
left_change _ h = tt

left_act : (a : Act) → LeftAct a → LeavesAct a
left_act (Goes_on a k) h = absurd h
left_act (Makes change) h = left_change change h
left_act _ h = tt

left_leaves : (k : Course) → AreLeft k → Leaves k
left_leaves Stops h = tt
left_leaves (Acts a rest) h = (left_act a h.0, left_leaves rest h.1)
left_leaves (Keeps change rest) h = (left_change change h.0, left_leaves rest h.1)
left_leaves (Falls why) h = tt

left_f : (I : AttemptState → Type 0) (c : Cluster) (me : ℕ) (x : UpNode) (k : Course) → AreLeft k → Has I x → LeadsTo c me (Has I) x k
left_f I c me x k left h = leaves_has I c me x k (left_leaves k left) h

-- ---- messages

answer_f : (I : AttemptState → Type 0) (c : Cluster) (me : ℕ) (x : UpNode) (from : ℕ) (m : Message) (o : Option AttemptState) → Follows I → In I o → Has I x → LeadsTo c me (Has I) x (cuts.answer_course c me x from m o)
answer_f I c me x from m None keeps here h = h
answer_f I c me x from m (Some a) keeps here h = going_f I c me x a (Take from m) keeps (keeps a (Take from m) (λ z. cc) here)

body_f : (I : AttemptState → Type 0) (c : Cluster) (me : ℕ) (ends : method.Outcome) (x : UpNode) (from : ℕ) (m : Message) (b : Body) → Follows I → Has I x → LeadsTo c me (Has I) x (cuts.body_course c me ends x from m b)
body_f I c me ends x from m (body.Promise e installed members valid flagged committed pending) keeps h = answer_f I c me x from m x.attempt keeps h h
body_f I c me ends x from m (body.Nack e promised) keeps h = answer_f I c me x from m x.attempt keeps h h
body_f I c me ends x from m (body.Ready e devices told) keeps h = answer_f I c me x from m x.attempt keeps h h
body_f I c me ends x from m (body.Seized e d r) keeps h = answer_f I c me x from m x.attempt keeps h h
body_f I c me ends x from m (body.SeizeQuorum e members d) keeps h = leaves_has I c me x (cuts.seizing_course x from Vote e members d) (seizing_l x from Vote e members d) h
body_f I c me ends x from m (body.SeizeData e members d) keeps h = leaves_has I c me x (cuts.seizing_course x from Plain e members d) (seizing_l x from Plain e members d) h
body_f I c me ends x from m (body.Heartbeat promised session member) keeps h = let b : Body = body.Heartbeat promised session member in leaves_has I c me x (cuts.body_course c me ends x from m b) (other_l c me ends x from m b tt) h
body_f I c me ends x from m (body.Collect p members) keeps h = let b : Body = body.Collect p members in leaves_has I c me x (cuts.body_course c me ends x from m b) (other_l c me ends x from m b tt) h
body_f I c me ends x from m (body.Install i) keeps h = let b : Body = body.Install i in leaves_has I c me x (cuts.body_course c me ends x from m b) (other_l c me ends x from m b tt) h
body_f I c me ends x from m (body.Start e) keeps h = let b : Body = body.Start e in leaves_has I c me x (cuts.body_course c me ends x from m b) (other_l c me ends x from m b tt) h
body_f I c me ends x from m (body.Excluded e newest) keeps h = let b : Body = body.Excluded e newest in leaves_has I c me x (cuts.body_course c me ends x from m b) (other_l c me ends x from m b tt) h
body_f I c me ends x from m (body.Prepare e place text) keeps h = let b : Body = body.Prepare e place text in leaves_has I c me x (cuts.body_course c me ends x from m b) (other_l c me ends x from m b tt) h
body_f I c me ends x from m (body.Prepared e place) keeps h = let b : Body = body.Prepared e place in leaves_has I c me x (cuts.body_course c me ends x from m b) (other_l c me ends x from m b tt) h
body_f I c me ends x from m (body.Commit e place) keeps h = let b : Body = body.Commit e place in leaves_has I c me x (cuts.body_course c me ends x from m b) (other_l c me ends x from m b tt) h
body_f I c me ends x from m (body.Order o) keeps h = let b : Body = body.Order o in leaves_has I c me x (cuts.body_course c me ends x from m b) (other_l c me ends x from m b tt) h
body_f I c me ends x from m (body.Done e number ended) keeps h = let b : Body = body.Done e number ended in leaves_has I c me x (cuts.body_course c me ends x from m b) (other_l c me ends x from m b tt) h
body_f I c me ends x from m (body.Request e number text) keeps h = let b : Body = body.Request e number text in leaves_has I c me x (cuts.body_course c me ends x from m b) (other_l c me ends x from m b tt) h
body_f I c me ends x from m (body.Answer e number text) keeps h = let b : Body = body.Answer e number text in leaves_has I c me x (cuts.body_course c me ends x from m b) (other_l c me ends x from m b tt) h

-- ---- devices

own_seized_f : (I : AttemptState → Type 0) (c : Cluster) (me : ℕ) (x : UpNode) (d : ℕ) (r : SeizeResult) (o : Option AttemptState) → Follows I → In I o → Has I x → LeadsTo c me (Has I) x (cuts.own_seized_course c me x d r o)
own_seized_f I c me x d r None keeps here h = h
own_seized_f I c me x d r (Some a) keeps here h = going_f I c me x a (Own_seized d r) keeps (keeps a (Own_seized d r) (λ z. cc) here)

seized_f : (I : AttemptState → Type 0) (c : Cluster) (me : ℕ) (x : UpNode) (d : ℕ) (r : SeizeResult) (o : Option ℕ) → Follows I → Has I x → LeadsTo c me (Has I) x (cuts.seized_course c me x d r o)
seized_f I c me x d r None keeps h = h
seized_f I c me x d r (Some k) keeps h = if_either (LeadsTo c me (Has I) x) (k == me) (cuts.own_seized_course c me x d r x.attempt) (writing k (body.Seized (session_of x) d r)) (own_seized_f I c me x d r x.attempt keeps h h) h

joined_f : (I : AttemptState → Type 0) (c : Cluster) (me : ℕ) (x : UpNode) (o : Option ℕ) → Follows I → Has I x → LeadsTo c me (Has I) x (cuts.joined_course c me x o)
joined_f I c me x None keeps h = h
joined_f I c me x (Some k) keeps h =
    if_either (LeadsTo c me (Has I) x) (k == me) (cuts.own_ready_course c me x) (cuts.readying_course c x k) (own_ready_f I c me x keeps h) (if_either (LeadsTo c me (Has I) x) (joins x.tasks) Stops (writing k _) h h)

joining_f : (I : AttemptState → Type 0) (c : Cluster) (me : ℕ) (x : UpNode) (at : ℕ) (k : PrCommand) (a : Answer) (d : ℕ) (r : JoinResult) → Follows I → Has I x → LeadsTo c me (Has I) x (cuts.joining_course c me x at k a d r)
joining_f I c me x at k a d join.Joined keeps h = let y : UpNode = joining_so (answered_so x a) d in joined_f I c me y (coordinator_of y) keeps h
joining_f I c me x at k a d (join.Late w) keeps h = let y : UpNode = answered_so x a in joined_f I c me y (coordinator_of y) keeps h
joining_f I c me x at k a d join.Fault keeps h = let y : UpNode = answered_so x a in joined_f I c me y (coordinator_of y) keeps h

progress_f : (I : AttemptState → Type 0) (c : Cluster) (me : ℕ) (x : UpNode) (at : ℕ) (k : PrCommand) (a : Answer) (p : Progress) → Follows I → Has I x → LeadsTo c me (Has I) x (cuts.progress_course c me x at k a p)
progress_f I c me x at k a GoesOn keeps h = h
progress_f I c me x at k a (Seized d r) keeps h = let y : UpNode = answered_so x a in seized_f I c me y d r (coordinator_of y) keeps h
progress_f I c me x at k a (Joined d r) keeps h = joining_f I c me x at k a d r keeps h

answered_f : (I : AttemptState → Type 0) (c : Cluster) (me : ℕ) (x : UpNode) (a : Answer) (o : Option ℕ) (k : Option PrCommand) → Follows I → Has I x → LeadsTo c me (Has I) x (cuts.answered_course c me x a o k)
answered_f I c me x a None k keeps h = h
answered_f I c me x a (Some d) None keeps h = h
answered_f I c me x a (Some d) (Some k) keeps h = progress_f I c me x d k a (progress_after x.tasks a) keeps h

distrusting_f : (I : AttemptState → Type 0) (c : Cluster) (me : ℕ) (x : UpNode) (o : Option ℕ) → Has I x → LeadsTo c me (Has I) x (cuts.distrusting_course x o)
distrusting_f I c me x None h = h
distrusting_f I c me x (Some d) h = if_either (LeadsTo c me (Has I) x) (has (record_of x).valid d) (Keeps (Distrusts d) Stops) Stops h h

fenced_f : (I : AttemptState → Type 0) (c : Cluster) (me : ℕ) (x : UpNode) (d : ℕ) (a : Answer) → Has I x → LeadsTo c me (Has I) x (cuts.fenced_course d a)
fenced_f I c me x d (Ok given.Good) h = h
fenced_f I c me x d (Ok given.Conflict) h = tt
fenced_f I c me x d _ h = h

serving_f : (I : AttemptState → Type 0) (c : Cluster) (me : ℕ) (s : ConfigState) (x : UpNode) (p : Presidency) (name : List ℕ) (number port : ℕ) (o : Option Address) → Has I x → LeadsTo c me (Has I) x (cuts.serving_at_course s x p name number port o)
serving_f I c me s x p name number port None h = h
serving_f I c me s x p name number port (Some a) h = h

client_f : (I : AttemptState → Type 0) (c : Cluster) (me : ℕ) (x : UpNode) (name : List ℕ) (number port : ℕ) (o : Option Presidency) → Has I x → LeadsTo c me (Has I) x (cuts.serving_by_course c x name number port o)
client_f I c me x name number port None h = h
client_f I c me x name number port (Some p) h = serving_f I c me (in_force c x) x p name number port (named (in_force c x).addresses name) h

-- ---- each input but a tick

abbrev pub IsNoTick : Input → Type 0
IsNoTick Tick = ⊥
IsNoTick _ = Unit {0}

input_f : (I : AttemptState → Type 0) (c : Cluster) (me : ℕ) (ends : method.Outcome) (x : UpNode) (i : Input) → IsNoTick i → Follows I → Has I x → LeadsTo c me (Has I) x (course_of c me ends x i)
input_f I c me ends x Tick none keeps h = absurd none
input_f I c me ends x Boot none keeps h = h
input_f I c me ends x Crash none keeps h = tt
input_f I c me ends x (Packet from m) none keeps h =
    let y : UpNode = hearing x from m.body in
    if_either (LeadsTo c me (Has I) x) (is_foreign c me x m.body) Stops (Acts (Hears from m.body) (cuts.body_course c me ends y from m m.body)) h (body_f I c me ends y from m m.body keeps h)
input_f I c me ends x CommandDue none keeps h = distrusting_f I c me x (begins_plainly x.tasks) h
input_f I c me ends x (Answered a) none keeps h = answered_f I c me x a (due_device x.tasks) (next_of x.tasks) keeps h
input_f I c me ends x (Wrote d value a) none keeps h = fenced_f I c me x d a h
input_f I c me ends x (Commanded words) none keeps h = left_f I c me x (cuts.command_course c me x words) (command_left c me x words) h
input_f I c me ends x (Reported r good) none keeps h = left_f I c me x (cuts.report_course c me x r good) (report_left c me x r good) h
input_f I c me ends x (Client name number port) none keeps h = client_f I c me x name number port x.presidency h

-- ---- a tick

abbrev Later : Option AttemptState → AttemptState → Type 0
Later o b = Goes 1 o b

follows : (later : ℕ) (o : Option AttemptState) → Follows (Goes later o)
follows later o a k other h = call_goes later o a k other h

ticked_some : (c : Cluster) (me : ℕ) (x : UpNode) (a : AttemptState) (o : Option AttemptState) → x.attempt ≡ o → In (λ b. b ≡ a) o → LeadsTo c me (Has (Later (Some a))) x (cuts.ticked_course c me x o)
ticked_some c me x a (Some b) at same = going_f (Later (Some a)) c me x b Call_tick (follows 1 (Some a)) (inr (subst (λ z. Still 1 z (turn b Call_tick).after) same (tick_still b)))
ticked_some c me x a None at same = idle_f c me x (Some a) at
  where
    idle_f : (c : Cluster) (me : ℕ) (x : UpNode) (o : Option AttemptState) → x.attempt ≡ None → LeadsTo c me (Has (Later o)) x (cuts.ticked_course c me x None)
    idle_f c me x o at =
        let h : Has (Later o) x = subst (In (Later o)) (sym at) tt in
        let y : UpNode = waiting_less x in
        if_either (LeadsTo c me (Has (Later o)) x) (nat_le 1 x.beats.wait) (Acts Waits Stops) (Acts Waits (cuts.forming_course c me y (members_to_form c me y))) h
        (forming_f (Later o) c me y (members_to_form c me y) (follows 1 o) (λ b none. inl none) h)

ticked_none : (c : Cluster) (me : ℕ) (x : UpNode) (o : Option AttemptState) → x.attempt ≡ o → In (λ b. ⊥) o → LeadsTo c me (Has (Later None)) x (cuts.ticked_course c me x o)
ticked_none c me x (Some b) at none = absurd none
ticked_none c me x None at none =
    let h : Has (Later None) x = subst (In (Later None)) (sym at) tt in
    let y : UpNode = waiting_less x in
    if_either (LeadsTo c me (Has (Later None)) x) (nat_le 1 x.beats.wait) (Acts Waits Stops) (Acts Waits (cuts.forming_course c me y (members_to_form c me y))) h
    (forming_f (Later None) c me y (members_to_form c me y) (follows 1 None) (λ b none. inl none) h)

tick_f : (c : Cluster) (me : ℕ) (ends : method.Outcome) (x : UpNode) (o : Option AttemptState) → x.attempt ≡ o → LeadsTo c me (Has (Later o)) x (cuts.tick_course c me ends x)
tick_f c me ends x (Some a) at =
    let y : UpNode = later c x in
    let k : Course = cuts.governing_course c me ends x y in
    leads_joined c me (Has (λ b. b ≡ a)) (Has (Later (Some a))) y k (λ z. cuts.ticked_course c me z z.attempt) (left_f (λ b. b ≡ a) c me y k (governing_left c me ends x y) (subst (In (λ b. b ≡ a)) (sym at) refl))
    (λ z same. ticked_some c me z a z.attempt refl same)
tick_f c me ends x None at =
    let y : UpNode = later c x in
    let k : Course = cuts.governing_course c me ends x y in
    leads_joined c me (Has (λ b. ⊥)) (Has (Later None)) y k (λ z. cuts.ticked_course c me z z.attempt) (left_f (λ b. ⊥) c me y k (governing_left c me ends x y) (subst (In (λ (b : AttemptState). ⊥)) (sym at) tt))
    (λ z none. ticked_none c me z z.attempt refl none)

-- ---- a step

-- so many ticks
abbrev pub ticks_by : Input → ℕ
ticks_by Tick = 1
ticks_by _ = 0

course_goes : (c : Cluster) (me : ℕ) (ends : method.Outcome) (x : UpNode) (i : Input) → LeadsTo c me (Has (Goes (ticks_by i) x.attempt)) x (course_of c me ends x i)
course_goes c me ends x Tick = tick_f c me ends x x.attempt refl
course_goes c me ends x i = input_f (Goes 0 x.attempt) c me ends x i tt (follows 0 x.attempt) (has_self x.attempt)
  where
    has_self : (o : Option AttemptState) → In (Goes 0 o) o
    has_self None = tt
    has_self (Some a) = inr (still_self a)

pub step_goes : (c : Cluster) (n now : ℕ) (ends : method.Outcome) (x : UpNode) (disk : DiskState) (i : Input) → IsAt (Has (Goes (ticks_by i) x.attempt)) (stepped disk_rules c n now ends (Up x) disk i).after
step_goes c n now ends x disk i =
    subst (λ (o : Outcome DiskState). IsAt (Has (Goes (ticks_by i) x.attempt)) o.after) (sym ((step_of_node_is_its_course saving c n now ends x i).is [] disk))
    (carried_leads c n (Has (Goes (ticks_by i) x.attempt)) x (course_at c n now ends x i) [] disk (course_goes c n ends (at_second now x) i))

pub down_goes : (c : Cluster) (n now : ℕ) (ends : method.Outcome) (disk : DiskState) (i : Input) → IsAt (Has (λ b. ⊥)) (stepped disk_rules c n now ends Down disk i).after
down_goes c n now ends disk Boot = by_loss (mounting disk).lost
  where
    by_loss : (lost : Option Loss) → IsAt (Has (λ b. ⊥)) (booted_with n (first_valid_of c n) disk.kept (record { after = (mounting disk).after; lost = lost })).after
    by_loss None = tt
    by_loss (Some Stopped) = tt
    by_loss (Some Fault) = tt
down_goes c n now ends disk _ = tt
