-- A coordinator sends no Install before its attempt installs: whatever a node does, the guards of its small steps say so.
use Rattle.std.specs.Prelude.{ℕ, ◌+◌, ◌==◌, ◌&&◌, ◌||◌, ◌≡◌, ◌⊎◌, ◌++◌, Bool, true, false, List, [], ◌∷◌, Option, None, Some, Ok, if◌then◌else◌}
use Rattle.std.specs.List.{AllByRecursion}
use Rattle.std.proofs.Common.{arith, refl, sym, subst, ◌∙◌, inl, inr}
use Rattle.attempt_laws.proofs.Stays.{plan_begins, plan_stays}
use Rattle.attempt_laws.proofs.Steady.{Steady, call_keeps}
use Rattle.attempt_laws.specs.Staying.{IsFinal}
use Rattle.ccr_commit.specs.Entries.{all_committed}
use Rattle.ccr_tables.specs.State.{ConfigState}
use Rattle.cl_base.specs.Limits.{most_nodes}
use Rattle.cl_base.specs.Numbers.{numbers_to}
use Rattle.cmm_attempt.proofs.Basics.{false_true, if_either}
use Rattle.cmm_attempt.specs.Attempts.{AttemptState, install_in}
use Rattle.cmm_attempt.specs.Calls.{Call, May, turn}
use Rattle.cmm_attempt.specs.declared.phase.Phase.TheVariants.{Installing}
use Rattle.cmm_attempt.specs.declared.plan.Plan.{Plan}
use Rattle.node_model.specs.Attempts.{adopted_line, adopted_lines, adopted_of, adopted_on, base_lines, is_adopted, promise_of, starting_as}
use Rattle.node_model.specs.Configurations.{in_force}
use Rattle.node_model.specs.Entries.{unknown_line, unknown_lines}
use Rattle.node_model.specs.Presidents.{sent_to}
use Rattle.node_model.specs.Seats.{coordinator_of, promising}
use Rattle.node_model.specs.Ticks.{heartbeat_of, heartbeats_to, later, ticked_output}
use Rattle.node_model.specs.Updates.{request_again, request_again_by, request_again_to}
use Rattle.node_model.specs.declared.cluster.Cluster.{Cluster}
use Rattle.node_model.specs.declared.node.UpNode.{UpNode}
use Rattle.node_model.specs.declared.output.Output.{Output}
use Rattle.node_model.specs.declared.output.Output.TheVariants.{Sends, Tells}
use Rattle.node_model.specs.declared.presidency.Presidency.{Presidency}
use Rattle.pgr_device.specs.declared.command.PrAnswer.TheVariants as given
use Rattle.refinement.proofs.Attempts.{may_be_called}
use Rattle.refinement.specs.Courses.{Course}
use Rattle.refinement.specs.Cuts.{first_turn}
use Rattle.refinement.specs.Courses.Course.{Acts, Falls, Keeps, Stops}
use Rattle.refinement.specs.Doings.{Act, Change, acted, adopted_by, changed, first_lines, last_lines, said, saved_lines, start_lines, superseded_lines, write_lines}
use Rattle.refinement.specs.Doings.Act.{Ends, Queues, Gives, Goes_on, Makes, Spreads, Stores, Takes, Ticks, Writes}
use Rattle.refinement.specs.Doings.Change.{Acks, Admits, Commits, Counts, Distrusts, Installs, Leads, Prepares, Promises, Proposes, Sits, Starts}
use Rattle.refinement.specs.Guards.{MayAct, MayChange, MayGo, MayWrite, OfAttempt, TellNothing, TellsNothing}
use Rattle.refinement.specs.Ties.{Delivered}
use Rattle.request_queue.specs.Queue as queue
use Rattle.request_queue.specs.declared.request.Request.{Request}
use Rattle.rg_props.specs.declared.group.Resource.{Resource}
use Rattle.rg_view.specs.States as states
use Rattle.rg_view.specs.declared.states.ResourceAt.{ResourceAt}
use Rattle.rg_view.specs.declared.view.GroupView.{GroupView}
use Rattle.run_history.proofs.Lists.{both, mapped, of_each}
use Rattle.seize.specs.Answers.{Answer}
use Rattle.status_report.specs.declared.attempt_entry.AttemptEntry.TheVariants as attempt_entry
use Rattle.status_report.specs.declared.entry.Entry.TheVariants as entry
use Rattle.wire.specs.declared.message.Body.{Body}
use Rattle.wire.specs.declared.message.Body.TheVariants as body
use Rattle.cmm_member.specs.Nodes.{NodeState}
use Rattle.run_outcomes.specs.phases.Kept.{In}
use Rattle.run_outcomes.specs.silence.Asked.{Query, asked_by_body, asked_by_output, asked_by_outputs}
use Rattle.run_outcomes.specs.Mute.{GoesTo}
use Rattle.run_outcomes.specs.silence.AskedCourses.{HasLate, Late, Tally, then_given, to_install}
use Rattle.run_outcomes.proofs.phases.Leading.{act_has, change_has}

-- ---- outputs without an Install

abbrev NotInstall : Body → Type 0
NotInstall (body.Install i) = ⊥
NotInstall _ = Unit {0}

abbrev NoInstall : Output → Type 0
NoInstall (Tells e) = Unit {0}
NoInstall (Sends to b) = NotInstall b

abbrev Without : List Output → Type 0
Without os = AllByRecursion NoInstall os

superseded_so : (p : ℕ) (o : Option AttemptState) → Without (superseded_lines p o)
superseded_so p None = tt
superseded_so p (Some a) = (tt, tt)

unknown_so : (me : ℕ) (rs : List Request) → Without (unknown_lines me rs)
unknown_so me [] = tt
unknown_so me (r ∷ rs) = both NoInstall (unknown_line me r) (unknown_lines me rs) (if_either Without r.told _ [] (tt, tt) tt) (unknown_so me rs)

base_so : (e before : ℕ) (texts : List (List ℕ)) → Without (base_lines e before texts)
base_so e before [] = tt
base_so e before (text ∷ texts) = (tt, base_so e (before + 1) texts)

line_so : (e n : ℕ) (r : List ℕ) (s : ResourceAt) → Without (adopted_line e n r s)
line_so e n r s = if_either Without (is_adopted s) _ [] (tt, tt) tt

adopted_so : (e : ℕ) (v : GroupView) (resources : List (List ℕ × Resource)) → Without (adopted_lines e v resources)
unfolding adopted_lines
adopted_so e v resources =
    of_each NoInstall (adopted_on e v resources) (numbers_to v.members most_nodes)
    (λ n. of_each NoInstall (λ x. adopted_line e n x.0 (states.state_of v.resources x.0 n)) resources (λ x. line_so e n x.0 (states.state_of v.resources x.0 n)))

adopted_of_so : (e : ℕ) (s : ConfigState) (o : Option Presidency) → Without (adopted_of e s o)
adopted_of_so e s None = tt
adopted_of_so e s (Some p) = adopted_so e p.groups.view s.groups.resources

starts_so : (a : AttemptState) (s : NodeState) → Without (start_lines a s)
starts_so a s = (tt, base_so a.plan.epoch 0 (all_committed s.saved.entries).committed)

last_so : (c : Cluster) (me : ℕ) (x : UpNode) (change : Change) → Without (last_lines c me x change)
last_so c me x (Promises p) = both NoInstall (superseded_lines p x.attempt) (unknown_lines me x.requests.waiting) (superseded_so p x.attempt) (unknown_so me x.requests.waiting)
last_so c me x (Leads p members) = (tt, unknown_so me x.requests.waiting)
last_so c me x (Counts a k s i) = (tt, tt)
last_so c me x (Installs s i) = (tt, tt)
last_so c me x (Starts a k s) =
    let t : AttemptState = (turn a k).after in
    let y : UpNode = starting_as c me x t s in
    both NoInstall (start_lines t s) _ (starts_so t s) (both NoInstall (adopted_by c t y) _ (adopted_of_so t.plan.epoch (in_force c y) y.presidency) (tt, tt))
last_so c me x (Sits s e) = (tt, tt)
last_so c me x (Distrusts d) = tt
last_so c me x (Admits at command a d) = tt
last_so c me x (Proposes s p text) = tt
last_so c me x (Acks s p q left text) = (tt, tt)
last_so c me x (Prepares s text) = tt
last_so c me x (Commits s) = tt

first_so : (me : ℕ) (change : Change) → Without (first_lines me change)
first_so me (Admits at command a d) = (tt, tt)
first_so me (Proposes s p text) = (tt, tt)
first_so me _ = tt

saved_so : (c : Cluster) (me : ℕ) (x : UpNode) (change : Change) → Without (first_lines me change ++ saved_lines c me x change)
saved_so c me x change = both NoInstall (first_lines me change) (saved_lines c me x change) (first_so me change) (tt, last_so c me x change)

made_so : (c : Cluster) (me : ℕ) (x : UpNode) (change : Change) → Without (first_lines me change ++ last_lines c me x change)
made_so c me x change = both NoInstall (first_lines me change) (last_lines c me x change) (first_so me change) (last_so c me x change)

again_to_so : (x : UpNode) (r : Option Request) (o : Option ℕ) → Without (request_again_to x r o)
again_to_so x (Some r) (Some president) = (tt, tt)
again_to_so x None president = tt
again_to_so x (Some r) None = tt

again_by_so : (x : UpNode) (o : Option Presidency) → Without (request_again_by x o)
again_by_so x None =
    if_either Without (queue.goes_again x.requests) (request_again_to x (queue.oldest x.requests) (coordinator_of x)) []
    (again_to_so x (queue.oldest x.requests) (coordinator_of x)) tt
again_by_so x (Some p) = tt

beats_so : (x : UpNode) (receivers : ℕ) → Without (heartbeats_to x receivers)
unfolding heartbeats_to
beats_so x receivers = mapped NoInstall (λ n. Sends n (heartbeat_of x)) (numbers_to receivers most_nodes) (λ n. tt)

ticked_so : (c : Cluster) (before x : UpNode) → Without (ticked_output c before x)
ticked_so c before x = both NoInstall (heartbeats_to x _) (request_again before) (beats_so x _) (again_by_so before before.presidency)

write_so : (me : ℕ) (x : UpNode) (d value : ℕ) (a : Answer) → Without (write_lines me x d value a)
write_so me x d value (Ok given.Good) = (tt, tt)
write_so me x d value (Ok given.Conflict) = (tt, tt)
write_so me x d value _ = (tt, tt)

spread_so : (receivers : ℕ) (b : Body) → NotInstall b → Without (sent_to receivers b)
unfolding sent_to
spread_so receivers b h = mapped NoInstall (λ n. Sends n b) (numbers_to receivers most_nodes) (λ n. h)

nothing_so : (to : ℕ) (b : Body) → TellsNothing (Sends to b) → NotInstall b
nothing_so to (body.Install i) h = absurd h
nothing_so to _ h = tt

given_so : (os : List Output) → TellNothing os → Without os
given_so [] h = tt
given_so (Tells x ∷ os) h = (tt, given_so os h.1)
given_so (Sends to b ∷ os) h = (nothing_so to b h.0, given_so os h.1)

-- ---- an attempt that has sent one installs, or is over

no_body : (m to : ℕ) (b : Body) (asked : Bool) → NotInstall b → asked_by_body (to_install m) to b asked ≡ asked
no_body m to (body.Install i) asked h = absurd h
no_body m to _ asked h = none (to == m) asked
  where
    none : (a b : Bool) → ((a && false) || b) ≡ b
    none true b = refl
    none false b = refl

less : (e m : ℕ) (o : Output) (asked : Bool) → NoInstall o → asked_by_output e (to_install m) o asked ≡ true → asked ≡ true
less e m (Sends to b) asked h is = sym (no_body m to b asked h) ∙ is
less e m (Tells (entry.Attempt (attempt_entry.Begun f members))) asked h is = by_test (f == e) is
  where
    by_test : (t : Bool) → (if t then false else asked) ≡ true → asked ≡ true
    by_test true k = absurd (false_true k)
    by_test false k = k
less e m (Tells x) asked h is = is

all_less : (e m : ℕ) (os : List Output) (asked : Bool) → Without os → asked_by_outputs e (to_install m) os asked ≡ true → asked ≡ true
all_less e m [] asked h is = is
all_less e m (o ∷ os) asked h is = less e m o asked h.0 (all_less e m os (asked_by_output e (to_install m) o asked) h.1 is)

pub with_lines : (g : Tally) (os : List Output) (o : Option AttemptState) → Without os → In (Late g) o → In (Late (then_given g os)) o
with_lines g os None none h = tt
with_lines g os (Some a) none h = λ m is. h m (all_less a.plan.epoch m os (g a.plan.epoch (to_install m)) none is)

-- one that installs may have sent them
always : (g : Tally) (o : Option AttemptState) → OfAttempt (λ a. IsFinal a.phase) o → In (Late g) o
always g None h = tt
always g (Some a) h = λ m is. h

installs_so : (x : UpNode) (b : Body) → MayWrite x b → NotInstall b ⊎ OfAttempt (λ a. IsFinal a.phase) x.attempt
installs_so x (body.Install i) may = inr (by_attempt x.attempt may)
  where
    by_attempt : (o : Option AttemptState) → OfAttempt (λ a. (a.phase ≡ Installing) × (i ≡ install_in a)) o → OfAttempt (λ a. IsFinal a.phase) o
    by_attempt None k = absurd k
    by_attempt (Some a) k = subst IsFinal (sym k.0) tt
installs_so x _ may = inl tt

-- ---- a call

abbrev Final : AttemptState → Type 0
Final s = IsFinal s.phase

final_steady : (k : Call) → Steady k Final Final
final_steady k = record {
  within = λ s i. i;
  ticked = λ s i. i;
  over = λ s i. tt;
  promise = λ s from m p is awaited of promised i. i;
  collecting = λ s is all i. i;
  no_newest = λ s is all none i. i;
  chosen = λ s newest is all some i. absurd (subst IsFinal is i);
  votes = λ s both is i. absurd (subst IsFinal is i);
  entries = λ s is i. i;
  result = λ s d from r is tells i. i;
  next = λ s d n x kind r is found i. i;
  seizing = λ s is all i. i;
  counted = λ s is h i. i;
  others = λ s is ne i. absurd (subst IsFinal is i);
  installs = λ s is i. tt;
  ready = λ s from m is at of ready_body i. i;
  own = λ s is at i. i;
  installing = λ s is h i. i;
}

final_after : (a : AttemptState) (k : Call) → May a k → IsFinal a.phase → IsFinal (turn a k).after.phase
final_after a k may h = call_keeps Final Final a k (final_steady k) may h

late_of : (g : Tally) (x : UpNode) (a : AttemptState) → x.attempt ≡ Some a → HasLate x g → Late g a
late_of g x a is h = subst (In (Late g)) is h

call_late : (g : Tally) (a : AttemptState) (k : Call) → May a k → Late g a → Late g (turn a k).after
call_late g a k may h m is = final_after a k may (h m (subst (λ (p : Plan). g p.epoch (to_install m) ≡ true) (plan_stays a k may) is))

-- ---- small steps

-- where an attempt begins, none was sent for it
abbrev LedBy : Change → List Output → Type 0
LedBy (Leads p members) os = (m : ℕ) (asked : Bool) → asked_by_outputs p (to_install m) os asked ≡ true → ⊥
LedBy _ os = Unit {0}

led_none : (p members m : ℕ) (rest : List Output) (asked : Bool) → Without rest → asked_by_outputs p (to_install m) (Tells (entry.Attempt (attempt_entry.Begun p members)) ∷ rest) asked ≡ true → ⊥
led_none p members m rest asked none is = by_test (p == p) (itself p) (all_less p m rest (if p == p then false else asked) none is)
  where
    itself : (a : ℕ) → (a == a) ≡ true
    itself a = grind arith

    by_test : (t : Bool) → t ≡ true → (if t then false else asked) ≡ true → ⊥
    by_test true k z = false_true z
    by_test false k z = false_true k

led_saved : (c : Cluster) (me : ℕ) (x : UpNode) (change : Change) → LedBy change (first_lines me change ++ saved_lines c me x change)
led_saved c me x (Leads p members) = λ m asked is. led_none p members m (unknown_lines me x.requests.waiting) asked (unknown_so me x.requests.waiting) is
led_saved c me x _ = tt

led_made : (c : Cluster) (me : ℕ) (x : UpNode) (change : Change) → LedBy change (first_lines me change ++ last_lines c me x change)
led_made c me x (Leads p members) = λ m asked is. led_none p members m (unknown_lines me x.requests.waiting) asked (unknown_so me x.requests.waiting) is
led_made c me x _ = tt

begun_epoch : (c : Cluster) (me : ℕ) (x : UpNode) (p members : ℕ) → (first_turn c me x p members).after.plan.epoch ≡ p
begun_epoch c me x p members = (plan_begins p members (record { sender = me; body = promise_of (record (promising x p) { greatest = p }) p }) c.attached c.id).of_epoch

change_late : (c : Cluster) (me : ℕ) (told : Delivered) (x : UpNode) (g : Tally) (os : List Output) (change : Change) → Without os → LedBy change os → MayChange c me told x change → HasLate x g → HasLate (changed c me x change) (then_given g os)
change_late c me told x g os (Counts a k s i) none led may h = with_lines g os (Some (turn a k).after) none (call_late g a k (may_be_called c told a k may.2) (late_of g x a may.0 h))
change_late c me told x g os (Leads p members) none led may h =
    let a : AttemptState = (first_turn c me x p members).after in
    λ m is. absurd (led m (g p (to_install m)) (subst (λ e. asked_by_outputs e (to_install m) os (g e (to_install m)) ≡ true) (begun_epoch c me x p members) is))
change_late c me told x g os (Promises p) none led may h = change_has (Late (then_given g os)) c me x (Promises p) tt (with_lines g os x.attempt none h)
change_late c me told x g os (Installs s i) none led may h = change_has (Late (then_given g os)) c me x (Installs s i) tt (with_lines g os x.attempt none h)
change_late c me told x g os (Starts a k s) none led may h = change_has (Late (then_given g os)) c me x (Starts a k s) tt (with_lines g os x.attempt none h)
change_late c me told x g os (Sits s e) none led may h = change_has (Late (then_given g os)) c me x (Sits s e) tt (with_lines g os x.attempt none h)
change_late c me told x g os (Distrusts d) none led may h = change_has (Late (then_given g os)) c me x (Distrusts d) tt (with_lines g os x.attempt none h)
change_late c me told x g os (Admits at command a d) none led may h = change_has (Late (then_given g os)) c me x (Admits at command a d) tt (with_lines g os x.attempt none h)
change_late c me told x g os (Proposes s p text) none led may h = change_has (Late (then_given g os)) c me x (Proposes s p text) tt (with_lines g os x.attempt none h)
change_late c me told x g os (Acks s p q left text) none led may h = change_has (Late (then_given g os)) c me x (Acks s p q left text) tt (with_lines g os x.attempt none h)
change_late c me told x g os (Prepares s text) none led may h = change_has (Late (then_given g os)) c me x (Prepares s text) tt (with_lines g os x.attempt none h)
change_late c me told x g os (Commits s) none led may h = change_has (Late (then_given g os)) c me x (Commits s) tt (with_lines g os x.attempt none h)

act_late : (c : Cluster) (me : ℕ) (told : Delivered) (x : UpNode) (g : Tally) (a : Act) → MayAct c me told x a → HasLate x g → HasLate (acted c me x a) (then_given g (said c me x a))
act_late c me told x g (Goes_on a k) may h = call_late g a k (may_be_called c told a k may.1) (late_of g x a may.0 h)
act_late c me told x g (Makes change) may h = change_late c me told x g (first_lines me change ++ last_lines c me x change) change (made_so c me x change) (led_made c me x change) may.0 h
act_late c me told x g (Writes to b) may h = by_side (installs_so x b may)
  where
    by_side : NotInstall b ⊎ OfAttempt (λ a. IsFinal a.phase) x.attempt → In (Late (then_given g (Sends to b ∷ []))) x.attempt
    by_side (inl none) = with_lines g (Sends to b ∷ []) x.attempt (none, tt) h
    by_side (inr late) = always (then_given g (Sends to b ∷ [])) x.attempt late
act_late c me told x g (Spreads receivers b) may h = by_side (installs_so x b may)
  where
    by_side : NotInstall b ⊎ OfAttempt (λ a. IsFinal a.phase) x.attempt → In (Late (then_given g (sent_to receivers b))) x.attempt
    by_side (inl none) = with_lines g (sent_to receivers b) x.attempt (spread_so receivers b none) h
    by_side (inr late) = always (then_given g (sent_to receivers b)) x.attempt late
act_late c me told x g Ticks may h = with_lines g (said c me x Ticks) x.attempt (tt, ticked_so c x (later c x)) h
act_late c me told x g (Ends a e) may h = tt
act_late c me told x g (Takes at command a) may h = with_lines g (said c me x (Takes at command a)) x.attempt (tt, tt) h
act_late c me told x g (Stores d value a) may h = with_lines g (said c me x (Stores d value a)) x.attempt (tt, write_so me x d value a) h
act_late c me told x g (Gives os) may h = with_lines g os x.attempt (given_so os may) h
act_late c me told x g (Queues a d kind) may h = act_has (Late g) c me x (Queues a d kind) tt h
act_late c me told x g _ may h = h

-- ---- a course

pub course_late : (c : Cluster) (me : ℕ) (told : Delivered) (x : UpNode) (g : Tally) (k : Course) → MayGo c me told x k → HasLate x g → GoesTo then_given c me HasLate x g k
course_late c me told x g Stops may h = h
course_late c me told x g (Acts a rest) may h = course_late c me told (acted c me x a) (then_given g (said c me x a)) rest may.1 (act_late c me told x g a may.0 h)
course_late c me told x g (Keeps change rest) may h =
    course_late c me told (changed c me x change) (then_given g (first_lines me change ++ saved_lines c me x change)) rest may.1
    (change_late c me told x g (first_lines me change ++ saved_lines c me x change) change (saved_so c me x change) (led_saved c me x change) may.0 h)
course_late c me told x g (Falls why) may h = tt

pub late_same : (g f : Tally) (o : Option AttemptState) → ((e : ℕ) (q : Query) → f e q ≡ g e q) → In (Late g) o → In (Late f) o
late_same g f None same h = tt
late_same g f (Some a) same h = λ m is. h m (sym (same a.plan.epoch (to_install m)) ∙ is)

-- both hold at the end of the course
pub goes_both : (c : Cluster) (me : ℕ) (P Q : UpNode → Tally → Type 0) (x : UpNode) (g : Tally) (k : Course) → GoesTo then_given c me P x g k → GoesTo then_given c me Q x g k → GoesTo then_given c me (λ y f. P y f × Q y f) x g k
goes_both c me P Q x g Stops h k = (h, k)
goes_both c me P Q x g (Acts a rest) h k = goes_both c me P Q (acted c me x a) (then_given g (said c me x a)) rest h k
goes_both c me P Q x g (Keeps change rest) h k = goes_both c me P Q (changed c me x change) (then_given g (first_lines me change ++ saved_lines c me x change)) rest h k
goes_both c me P Q x g (Falls why) h k = tt
