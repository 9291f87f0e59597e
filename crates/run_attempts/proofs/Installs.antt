-- Each small step of a node leaves what it has installed with the members of its attempt, and its Installs bring these.
use Rattle.wire.specs.declared.lists.Reading.{Reading}
use Rattle.cmm_attempt.specs.declared.plan.Plan.{Plan}
use Rattle.cmm_attempt.specs.declared.promised.Promised.{Promised}
use Rattle.cmm_attempt.specs.Promises.{is_from}
use Rattle.cmm_attempt.specs.Seizings.{reading_of}
use Rattle.std.specs.Prelude.{ℕ, ◌<◌, ◌≡◌, ◌++◌, List, [], ◌∷◌, Option, None, Some, ◌+◌, Ok}
use Rattle.std.specs.List.{AllByRecursion, find, filter_map}
use Rattle.std.proofs.Common.{refl, sym, ap, subst, ◌∙◌}
use Rattle.attempt_laws.proofs.Goes.{Goes as GoesBy, chosen_reached, goes_by_call}
use Rattle.attempt_laws.proofs.Stays.{plan_stays}
use Rattle.cl_base.specs.Limits.{most_nodes}
use Rattle.cl_base.specs.Numbers.{numbers_to}
use Rattle.cl_base.specs.Sets.{has, set_without}
use Rattle.cmm_attempt.proofs.Basics.{if_either}
use Rattle.cmm_attempt.specs.Attempts.{AttemptState, install_in}
use Rattle.cmm_attempt.specs.Calls.{Call, installs_in, turn}
use Rattle.cmm_attempt.specs.Installs.{install_by}
use Rattle.cmm_attempt.specs.declared.phase.Phase.TheVariants.{Installing}
use Rattle.cmm_member.specs.Nodes.{NodeState, with_valid, with_joined, with_entries}
use Rattle.cmm_member.specs.Records.{NodeRecord}
use Rattle.device_queue.specs.Queue.{after_seize}
use Rattle.history.specs.Moment.{Moment}
use Rattle.node_model.specs.Attempts.{adopted_line, adopted_lines, adopted_of, adopted_on, base_lines, is_adopted, starting_as}
use Rattle.node_model.specs.Entries.{unknown_lines, unknown_line}
use Rattle.node_model.specs.Members.{rested_by}
use Rattle.node_model.specs.Presidents.{sent_to}
use Rattle.node_model.specs.Seats.{promising, record_of, state_of, coordinator_of, with_state}
use Rattle.node_model.specs.Ticks.{heartbeat_of, heartbeats_to, later, ticked_output}
use Rattle.node_model.specs.Updates.{request_again, request_again_by, request_again_to}
use Rattle.node_model.specs.declared.cluster.Cluster.{Cluster}
use Rattle.node_model.specs.declared.node.UpNode.{UpNode}
use Rattle.node_model.specs.declared.output.Output.{Output}
use Rattle.node_model.specs.declared.output.Output.TheVariants.{Sends, Tells}
use Rattle.node_model.specs.declared.presidency.Presidency.{Presidency}
use Rattle.node_model.specs.declared.seat.Seat.{Seat}
use Rattle.node_model.specs.declared.seat.Seat.TheVariants.{Forming, Member}
use Rattle.refinement.proofs.Attempts.{install_epoch, may_be_called, reached_more}
use Rattle.refinement.specs.Doings.{Act, Change, acted, changed, first_lines, last_lines, said, adopted_by, superseded_lines, write_lines}
use Rattle.refinement.specs.Doings.Act.{Accepts, Dates, Ends, Gives, Goes_on, Hears, Makes, Minds, Notes, Queues, Spreads, Stores, Takes, Ticks, Waits, Works, Writes}
use Rattle.refinement.specs.Doings.Change.{Acks, Admits, Commits, Counts, Distrusts, Installs, Leads, Prepares, Promises, Proposes, Sits, Starts}
use Rattle.refinement.specs.Guards.{MayAct, MayChange, MayWrite, OfAttempt, Says, TellNothing, MayCall}
use Rattle.refinement.specs.Ties.{Delivered}
use Rattle.request_queue.specs.Queue as queue
use Rattle.request_queue.specs.declared.request.Request.{Request}
use Rattle.run_history.proofs.Lists.{both, mapped, of_each}
use Rattle.seize.specs.Seizing as seizing
use Rattle.wire.specs.declared.message.Body.{Body}
use Rattle.wire.specs.declared.message.Body.TheVariants as body
use Rattle.wire.specs.declared.message.Install.{Install}
use Rattle.run_attempts.specs.Laws.{InstallSo, IsTried}
use Rattle.run_attempts.specs.Members.{AllSendSo, AttemptIn, AttemptSo, HandSo, RecordSo, SendsSo}
use Rattle.ccr_commit.specs.Entries.{all_committed, with_next}
use Rattle.ccr_tables.specs.State.{ConfigState}
use Rattle.node_model.specs.Configurations.{in_force}
use Rattle.pgr_device.specs.declared.command.PrAnswer.TheVariants as given
use Rattle.rg_props.specs.declared.group.Resource.{Resource}
use Rattle.rg_view.specs.States as states
use Rattle.rg_view.specs.declared.states.ResourceAt.{ResourceAt}
use Rattle.rg_view.specs.declared.view.GroupView.{GroupView}
use Rattle.seize.specs.Answers.{Answer}
use Rattle.run_attempts.specs.Steps.{CalmChange}

-- ---- what is sent

-- no message is an Install
abbrev NoInstall : Output → Type 0
NoInstall (Tells e) = Unit {0}
NoInstall (Sends to (body.Install i)) = ⊥
NoInstall (Sends to b) = Unit {0}

none_so : (ms : List Moment) (os : List Output) → AllByRecursion NoInstall os → AllSendSo ms os
none_so ms [] h = tt
none_so ms (Tells e ∷ os) h = (tt, none_so ms os h.1)
none_so ms (Sends to b ∷ os) h = (one b h.0, none_so ms os h.1)
  where
    one : (b : Body) → (let o : Output = Sends to b in NoInstall o) → InstallSo ms b
    one (body.Install i) h = absurd h
    one _ h = tt

by_promise : (plan : Plan) (readings : List Reading) (o : Option Promised) → (install_by plan readings o).members ≡ plan.members
by_promise plan readings None = refl
by_promise plan readings (Some p) = refl

install_members : (a : AttemptState) → (install_in a).members ≡ a.plan.members
install_members a = by_promise a.plan (filter_map (reading_of a.devices) a.plan.attached) (find (is_from a.newest) a.promises)

-- what an attempt sends, or its member
write_so : (ms : List Moment) (x : UpNode) (b : Body) → AttemptIn ms x.attempt → MayWrite x b → InstallSo ms b
write_so ms x (body.Install i) h may = by_attempt x.attempt h may
  where
    by_attempt : (o : Option AttemptState) → AttemptIn ms o → OfAttempt (λ a. (a.phase ≡ Installing) × (i ≡ install_in a)) o → IsTried ms i.epoch i.members
    by_attempt None h may = absurd may
    by_attempt (Some a) h may =
        subst (λ (j : Install). IsTried ms j.epoch j.members) (sym may.1)
        (subst (λ members. IsTried ms (install_in a).epoch members) (sym (install_members a)) (subst (λ e. IsTried ms e a.plan.members) (sym (install_epoch a)) h.tried))
write_so ms x _ h may = tt

spread_so : (ms : List Moment) (receivers : ℕ) (b : Body) → InstallSo ms b → AllSendSo ms (sent_to receivers b)
unfolding sent_to
spread_so ms receivers b h = mapped (SendsSo ms) (λ n. Sends n b) (numbers_to receivers most_nodes) (λ n. h)

given_none : (os : List Output) → TellNothing os → AllByRecursion NoInstall os
given_none [] h = tt
given_none (Tells e ∷ os) h = (tt, given_none os h.1)
given_none (Sends to (body.Request p number text) ∷ os) h = (tt, given_none os h.1)
given_none (Sends to (body.Answer p number text) ∷ os) h = (tt, given_none os h.1)
given_none (Sends to (body.Order o) ∷ os) h = (tt, given_none os h.1)
given_none (Sends to b ∷ os) h = absurd h.0

again_to_none : (x : UpNode) (r : Option Request) (o : Option ℕ) → AllByRecursion NoInstall (request_again_to x r o)
again_to_none x (Some r) (Some president) = (tt, tt)
again_to_none x None president = tt
again_to_none x (Some r) None = tt

again_none : (x : UpNode) (o : Option Presidency) → AllByRecursion NoInstall (request_again_by x o)
again_none x None =
    if_either (AllByRecursion NoInstall) (queue.goes_again x.requests) (request_again_to x (queue.oldest x.requests) (coordinator_of x)) []
    (again_to_none x (queue.oldest x.requests) (coordinator_of x)) tt
again_none x (Some p) = tt

beats_none : (x : UpNode) (receivers : ℕ) → AllByRecursion NoInstall (heartbeats_to x receivers)
unfolding heartbeats_to
beats_none x receivers = mapped NoInstall (λ n. Sends n (heartbeat_of x)) (numbers_to receivers most_nodes) (λ n. tt)

ticked_none : (c : Cluster) (before x : UpNode) → AllByRecursion NoInstall (ticked_output c before x)
ticked_none c before x = both NoInstall (heartbeats_to x _) (request_again before) (beats_none x _) (again_none before before.presidency)

-- lines alone
abbrev pub TellsAlone : Output → Type 0
TellsAlone (Tells e) = Unit {0}
TellsAlone (Sends to b) = ⊥

pub alone_so : (ms : List Moment) (os : List Output) → AllByRecursion TellsAlone os → AllSendSo ms os
alone_so ms [] h = tt
alone_so ms (Tells e ∷ os) h = (tt, alone_so ms os h.1)
alone_so ms (Sends to b ∷ os) h = absurd h.0

superseded_alone : (p : ℕ) (o : Option AttemptState) → AllByRecursion TellsAlone (superseded_lines p o)
superseded_alone p None = tt
superseded_alone p (Some a) = (tt, tt)

unknown_alone : (me : ℕ) (rs : List Request) → AllByRecursion TellsAlone (unknown_lines me rs)
unknown_alone me [] = tt
unknown_alone me (r ∷ rs) = both TellsAlone (unknown_line me r) (unknown_lines me rs) (if_either (AllByRecursion TellsAlone) r.told _ [] (tt, tt) tt) (unknown_alone me rs)

base_alone : (e before : ℕ) (texts : List (List ℕ)) → AllByRecursion TellsAlone (base_lines e before texts)
base_alone e before [] = tt
base_alone e before (text ∷ texts) = (tt, base_alone e (before + 1) texts)

line_alone : (e n : ℕ) (r : List ℕ) (s : ResourceAt) → AllByRecursion TellsAlone (adopted_line e n r s)
line_alone e n r s = if_either (AllByRecursion TellsAlone) (is_adopted s) _ [] (tt, tt) tt

lines_alone : (e : ℕ) (v : GroupView) (resources : List (List ℕ × Resource)) → AllByRecursion TellsAlone (adopted_lines e v resources)
unfolding adopted_lines
lines_alone e v resources =
    of_each TellsAlone (adopted_on e v resources) (numbers_to v.members most_nodes)
    (λ n. of_each TellsAlone (λ x. adopted_line e n x.0 (states.state_of v.resources x.0 n)) resources (λ x. line_alone e n x.0 (states.state_of v.resources x.0 n)))

adopted_alone : (e : ℕ) (s : ConfigState) (o : Option Presidency) → AllByRecursion TellsAlone (adopted_of e s o)
adopted_alone e s None = tt
adopted_alone e s (Some p) = lines_alone e p.groups.view s.groups.resources

pub first_alone : (me : ℕ) (change : Change) → AllByRecursion TellsAlone (first_lines me change)
first_alone me (Admits at command a d) = (tt, tt)
first_alone me (Proposes s p text) = (tt, tt)
first_alone me _ = tt

pub last_alone : (c : Cluster) (me : ℕ) (x : UpNode) (change : Change) → AllByRecursion TellsAlone (last_lines c me x change)
last_alone c me x (Promises p) =
    both TellsAlone (superseded_lines p x.attempt) (unknown_lines me x.requests.waiting) (superseded_alone p x.attempt) (unknown_alone me x.requests.waiting)
last_alone c me x (Leads p members) = (tt, unknown_alone me x.requests.waiting)
last_alone c me x (Counts a k s i) = (tt, tt)
last_alone c me x (Installs s i) = (tt, tt)
last_alone c me x (Starts a k s) =
    let after : AttemptState = (turn a k).after in
    let y : UpNode = starting_as c me x after s in (
      tt,
      both TellsAlone (base_lines after.plan.epoch 0 (all_committed s.saved.entries).committed) _ (base_alone after.plan.epoch 0 (all_committed s.saved.entries).committed)
          (both TellsAlone (adopted_by c after y) _ (adopted_alone after.plan.epoch (in_force c y) y.presidency) (tt, tt)),
    )
last_alone c me x (Sits s e) = (tt, tt)
last_alone c me x (Distrusts d) = tt
last_alone c me x (Admits at command a d) = tt
last_alone c me x (Proposes s p text) = tt
last_alone c me x (Acks s p q left text) = (tt, tt)
last_alone c me x (Prepares s text) = tt
last_alone c me x (Commits s) = tt

write_alone : (me : ℕ) (x : UpNode) (d value : ℕ) (a : Answer) → AllByRecursion TellsAlone (write_lines me x d value a)
write_alone me x d value (Ok given.Good) = (tt, tt)
write_alone me x d value (Ok given.Conflict) = (tt, tt)
write_alone me x d value _ = (tt, tt)

pub said_so : (c : Cluster) (n : ℕ) (told : Delivered) (ms : List Moment) (x : UpNode) (a : Act) → MayAct c n told x a → AttemptIn ms x.attempt → AllSendSo ms (said c n x a)
said_so c n told ms x (Hears from b) may h = tt
said_so c n told ms x Ticks may h = (tt, none_so ms (ticked_output c x (later c x)) (ticked_none c x (later c x)))
said_so c n told ms x Waits may h = tt
said_so c n told ms x (Goes_on a k) may h = tt
said_so c n told ms x (Ends a e) may h = (tt, tt)
said_so c n told ms x (Queues a d kind) may h = tt
said_so c n told ms x (Accepts kind e members d) may h = tt
said_so c n told ms x (Takes at command a) may h = (tt, tt)
said_so c n told ms x (Stores d value a) may h = (tt, alone_so ms (write_lines n x d value a) (write_alone n x d value a))
said_so c n told ms x (Writes to b) may h = (write_so ms x b h may, tt)
said_so c n told ms x (Makes change) may h = alone_so ms (first_lines n change ++ last_lines c n x change) (both TellsAlone (first_lines n change) (last_lines c n x change) (first_alone n change) (last_alone c n x change))
said_so c n told ms x (Gives os) may h = none_so ms os (given_none os may)
said_so c n told ms x (Spreads receivers b) may h = spread_so ms receivers b (write_so ms x b h may)
said_so c n told ms x (Minds q p) may h = tt
said_so c n told ms x (Notes from place p) may h = tt
said_so c n told ms x (Dates now) may h = tt
said_so c n told ms x (Works w) may h = tt

-- ---- what the node has then

-- a record with the same members installed
same_record : (ms : List Moment) (r s : NodeRecord) → s.installed ≡ r.installed → s.members ≡ r.members → RecordSo ms r → RecordSo ms s
same_record ms r s installed members h = λ some.
    subst (λ m. IsTried ms s.installed m) (sym members) (subst (λ e. IsTried ms e r.members) (sym installed) (h (subst (λ e. 0 < e) installed some)))

promise_record : (p : ℕ) (x : UpNode) (o : Option AttemptState) → (record_of (rested_by (promising x p) o)).installed ≡ (record_of x).installed
promise_record p x None = refl
promise_record p x (Some a) = refl

promise_members : (p : ℕ) (x : UpNode) (o : Option AttemptState) → (record_of (rested_by (promising x p) o)).members ≡ (record_of x).members
promise_members p x None = refl
promise_members p x (Some a) = refl

no_attempt : (ms : List Moment) (p : ℕ) (x : UpNode) (o : Option AttemptState) → AttemptIn ms (rested_by (promising x p) o).attempt
no_attempt ms p x None = tt
no_attempt ms p x (Some a) = tt

turn_so : (c : Cluster) (told : Delivered) (ms : List Moment) (a : AttemptState) (k : Call) → MayCall c told a k → AttemptSo ms a → AttemptSo ms (turn a k).after
turn_so c told ms a k may h =
    let plan : (turn a k).after.plan ≡ a.plan = plan_stays a k (may_be_called c told a k may) in
    record { reached = reached_more a k (may_be_called c told a k may) h.reached; tried = subst (λ (q : Plan). IsTried ms q.epoch q.members) (sym plan) h.tried }

attempt_at : (ms : List Moment) (o : Option AttemptState) (a : AttemptState) → o ≡ Some a → AttemptIn ms o → AttemptSo ms a
attempt_at ms o a is h = subst (AttemptIn ms) is h

counted_so : (c : Cluster) (told : Delivered) (ms : List Moment) (a : AttemptState) (k : Call) (i : Install) → MayCall c told a k → installs_in (turn a k).steps ≡ Some i → AttemptSo ms a → IsTried ms i.epoch i.members
counted_so c told ms a k i may is h =
    let t : AttemptState = (turn a k).after in
    let goes : GoesBy a.phase (turn a k) = goes_by_call a k (may_be_called c told a k may) (chosen_reached a h.reached) in
    let same : i ≡ install_in t = (goes.install i is).1 in
    subst (λ (j : Install). IsTried ms j.epoch j.members) (sym same)
    (subst (λ members. IsTried ms (install_in t).epoch members) (sym (install_members t)) (subst (λ e. IsTried ms e t.plan.members) (sym (install_epoch t)) (turn_so c told ms a k may h).tried))

told_install : (ms : List Moment) (told : Delivered) (i : Install) → Says (λ b. b ≡ body.Install i) told → HandSo ms told → IsTried ms i.epoch i.members
told_install ms None i says h = absurd says
told_install ms (Some d) i says h = subst (InstallSo ms) says h

-- of a seat that is known
seat_installed : (x : UpNode) (s : NodeState) (seat : Seat) → x.seat ≡ seat → state_of seat ≡ s → s.saved.installed ≡ (record_of x).installed
seat_installed x s seat is same = ap (λ (t : NodeState). t.saved.installed) (sym same) ∙ ap (λ (z : Seat). (state_of z).saved.installed) (sym is)

seat_members : (x : UpNode) (s : NodeState) (seat : Seat) → x.seat ≡ seat → state_of seat ≡ s → s.saved.members ≡ (record_of x).members
seat_members x s seat is same = ap (λ (t : NodeState). t.saved.members) (sym same) ∙ ap (λ (z : Seat). (state_of z).saved.members) (sym is)

by_state : (seat : Seat) (t : NodeState) → state_of (with_state seat t) ≡ t
by_state (Forming s) t = refl
by_state (Member s) t = refl

state_record : (ms : List Moment) (x y : UpNode) (t : NodeState) → y.seat ≡ with_state x.seat t → t.saved.installed ≡ (record_of x).installed → t.saved.members ≡ (record_of x).members → RecordSo ms (record_of x) → RecordSo ms (record_of y)
state_record ms x y t is installed members h =
    subst (RecordSo ms) (sym (ap (λ (z : Seat). (state_of z).saved) is ∙ ap (λ (z : NodeState). z.saved) (by_state x.seat t))) (same_record ms (record_of x) t.saved installed members h)

-- all changes but the beginning of an attempt
pub change_so : (c : Cluster) (n : ℕ) (told : Delivered) (ms : List Moment) (x : UpNode) (change : Change) → CalmChange change → MayChange c n told x change → HandSo ms told → RecordSo ms (record_of x) → AttemptIn ms x.attempt
    → RecordSo ms (record_of (changed c n x change)) × AttemptIn ms (changed c n x change).attempt
change_so c n told ms x (Promises p) calm may hand r a =
    (same_record ms (record_of x) (record_of (changed c n x (Promises p))) (promise_record p x x.attempt) (promise_members p x x.attempt) r, no_attempt ms p x x.attempt)
change_so c n told ms x (Leads p members) calm may hand r a = absurd calm
change_so c n told ms x (Counts t k s i) calm may hand r a =
    let at : AttemptSo ms t = attempt_at ms x.attempt t may.0 a in
    (λ some. counted_so c told ms t k i may.2 may.3 at, turn_so c told ms t k may.2 at)
change_so c n told ms x (Installs s i) calm may hand r a = (λ some. told_install ms told i may.1 hand, a)
change_so c n told ms x (Starts t k s) calm may hand r a = (same_record ms (record_of x) s.saved (seat_installed x s (Forming s) may.1 refl) (seat_members x s (Forming s) may.1 refl) r, tt)
change_so c n told ms x (Sits s e) calm may hand r a = (same_record ms (record_of x) s.saved (seat_installed x s (Forming s) may.0 refl) (seat_members x s (Forming s) may.0 refl) r, a)
change_so c n told ms x (Distrusts d) calm may hand r a = (state_record ms x (changed c n x (Distrusts d)) (with_valid (state_of x.seat) (set_without (record_of x).valid d)) refl refl refl r, a)
change_so c n told ms x (Admits at command answer d) calm may hand r a = (state_record ms x (changed c n x (Admits at command answer d)) (with_joined (state_of x.seat) d) refl refl refl r, a)
change_so c n told ms x (Proposes s p text) calm may hand r a =
    (state_record ms x (changed c n x (Proposes s p text)) (with_entries (state_of x.seat) (with_next (record_of x).entries text)) refl refl refl r, a)
change_so c n told ms x (Acks s p q left text) calm may hand r a =
    (state_record ms x (changed c n x (Acks s p q left text)) (with_entries (state_of x.seat) (all_committed (record_of x).entries)) refl refl refl r, a)
change_so c n told ms x (Prepares s text) calm may hand r a = (same_record ms (record_of x) s.saved (seat_installed x s (Member s) may.0 refl) (seat_members x s (Member s) may.0 refl) r, a)
change_so c n told ms x (Commits s) calm may hand r a = (same_record ms (record_of x) s.saved (seat_installed x s (Member s) may.0 refl) (seat_members x s (Member s) may.0 refl) r, a)

pub act_so : (c : Cluster) (n : ℕ) (told : Delivered) (ms : List Moment) (x : UpNode) (act : Act) → MayAct c n told x act → ((change : Change) → act ≡ Makes change → CalmChange change) → HandSo ms told → RecordSo ms (record_of x)
    → AttemptIn ms x.attempt → RecordSo ms (record_of (acted c n x act)) × AttemptIn ms (acted c n x act).attempt
act_so c n told ms x (Hears from b) may calm hand r a = (r, a)
act_so c n told ms x Ticks may calm hand r a = (r, a)
act_so c n told ms x Waits may calm hand r a = (r, a)
act_so c n told ms x (Goes_on t k) may calm hand r a = (r, turn_so c told ms t k may.1 (attempt_at ms x.attempt t may.0 a))
act_so c n told ms x (Ends t e) may calm hand r a = (r, tt)
act_so c n told ms x (Queues t d kind) may calm hand r a =
    if_either (λ (y : UpNode). RecordSo ms (record_of y) × AttemptIn ms y.attempt) (has t.plan.members n)
    (record x { tasks = after_seize x.tasks d (seizing.begun kind t.plan.epoch t.plan.members n c.id (has (record_of x).valid d)) }) x (r, a) (r, a)
act_so c n told ms x (Accepts kind e members d) may calm hand r a = (r, a)
act_so c n told ms x (Takes at command answer) may calm hand r a = (r, a)
act_so c n told ms x (Stores d value answer) may calm hand r a = (r, a)
act_so c n told ms x (Writes to b) may calm hand r a = (r, a)
act_so c n told ms x (Makes change) may calm hand r a = change_so c n told ms x change (calm change refl) may.0 hand r a
act_so c n told ms x (Gives os) may calm hand r a = (r, a)
act_so c n told ms x (Spreads receivers b) may calm hand r a = (r, a)
act_so c n told ms x (Minds q p) may calm hand r a = (r, a)
act_so c n told ms x (Notes from place p) may calm hand r a = (r, a)
act_so c n told ms x (Dates now) may calm hand r a = (r, a)
act_so c n told ms x (Works w) may calm hand r a = (r, a)
