-- Each small step of a node leaves what it seizes, and whom it asks, with a path.
use Rattle.std.specs.Prelude.{All, List, None, Option, Some, [], true, ℕ, ◌++◌, ◌∷◌, ◌≡◌}
use Rattle.std.specs.List.{AllByRecursion}
use Rattle.std.proofs.Common.{ap, refl, subst, sym, ◌∙◌}
use Rattle.attempt_laws.proofs.Stays.{plan_begins, plan_stays}
use Rattle.cl_base.specs.Sets.{has}
use Rattle.cl_base.specs.declared.header.Header.{Header}
use Rattle.cmm_attempt.proofs.Basics.{if_either}
use Rattle.cmm_attempt.specs.Attempts.{AttemptState}
use Rattle.cmm_attempt.specs.Calls.{Call, IsDevice, turn}
use Rattle.cmm_attempt.specs.declared.plan.Plan.{Plan}
use Rattle.cmm_attempt.specs.declared.step.Step.TheVariants as step
use Rattle.cmm_member.specs.Records.{NodeRecord}
use Rattle.device_queue.specs.Queue.{after_answer, after_join, after_seize, join_of, put_unless, seizure_of}
use Rattle.device_queue.specs.Tasks.{answered, is_queued, work_answered}
use Rattle.device_queue.specs.declared.task.Task.{Task}
use Rattle.device_queue.specs.declared.task.Work.{Work}
use Rattle.device_queue.specs.declared.task.Work.TheVariants.{Joining as Joins, Seizing as Seizes}
use Rattle.node_model.specs.Attempts.{is_to_join, joining_from, joining_with, own_promise}
use Rattle.node_model.specs.Clusters.{has_path}
use Rattle.node_model.specs.Members.{rested_by}
use Rattle.node_model.specs.Seats.{promising, record_of}
use Rattle.node_model.specs.Ticks.{later, ticked_output}
use Rattle.node_model.specs.declared.cluster.Cluster.{Cluster}
use Rattle.node_model.specs.declared.node.Node.{Node}
use Rattle.node_model.specs.declared.node.Node.TheVariants.{Down, Up}
use Rattle.node_model.specs.declared.node.UpNode.{UpNode}
use Rattle.node_model.specs.declared.output.Output.{Output}
use Rattle.node_model.specs.declared.output.Output.TheVariants.{Sends, Tells}
use Rattle.refinement.proofs.Attempts.{may_be_called, reached_more}
use Rattle.refinement.specs.Doings.{Act, Change, Doing, Site, acted, after_all, changed, effect, first_lines, given_all, gives, gone_line, said, saved_lines, site}
use Rattle.refinement.specs.Doings.Act.{Accepts, Dates, Ends, Gives, Goes_on, Hears, Makes, Minds, Notes, Queues, Spreads, Stores, Takes, Ticks, Waits, Works, Writes}
use Rattle.refinement.specs.Doings.Change.{Acks, Admits, Commits, Counts, Distrusts, Installs, Leads, Prepares, Promises, Proposes, Sits, Starts}
use Rattle.refinement.specs.Doings.Doing.{Comes_up, Does, Forgets, Goes_down, Loses, Saves}
use Rattle.refinement.specs.Guards.{May, MayAct, MayAll, MayCall, MayChange, Says}
use Rattle.refinement.specs.Ties.{Delivered}
use Rattle.run_history.proofs.Lists.{both}
use Rattle.run_history.specs.Guards.{AtWrite, Hand, MadeAt, SendsSo, hand_after, hand_by, request_as}
use Rattle.run_history.specs.Guards as guards
use Rattle.run_history.specs.Marks.{ActSo, AllSo, DoingSo}
use Rattle.run_seizings.proofs.Acts.{ActMay}
use Rattle.run_seizings.proofs.Asked.{AllMay, DoingMay}
use Rattle.seize.specs.Answers.{Answer}
use Rattle.seize.specs.Joining.{JoinState}
use Rattle.seize.specs.Joining as joining
use Rattle.seize.specs.Seizing as seizing
use Rattle.seize.specs.Seizing.{SeizeState}
use Rattle.seize.specs.declared.kind.SeizeKind.{SeizeKind}
use Rattle.seize.specs.declared.kind.SeizeKind.TheVariants.{Plain, Vote}
use Rattle.status_report.specs.declared.node_entry.DownCause.{DownCause}
use Rattle.wire.specs.declared.lists.Reading.{Reading}
use Rattle.wire.specs.declared.message.Body.{Body}
use Rattle.wire.specs.declared.message.Body.TheVariants as body
use Rattle.run_outcomes.proofs.results.Asked.{first_path, steps_path, turn_path}
use Rattle.run_outcomes.proofs.results.Calm.{AllCalm, AllMute, IsMute, IsPlain, all_mute, made_mute, minor_calm, saved_mute, spread_calm, ticked_calm, write_calm}
use Rattle.run_outcomes.proofs.results.Acted.{plain_mute}
use Rattle.run_outcomes.specs.results.Paths.{AttemptIn, AttemptPath, BodyPath, HandPath, NodePath, TasksPath, TurnPath, UpPath, WorkPath}

-- ---- tasks

put_path : (c : Cluster) (n : ℕ) (o : Option Task) (new : Task) (ts : List Task) → WorkPath c n new.device new.work → TasksPath c n ts → TasksPath c n (put_unless o new ts)
put_path c n None new ts p k = both (λ (t : Task). WorkPath c n t.device t.work) ts (new ∷ []) k (p, tt)
put_path c n (Some t) new ts p k = k

seize_path : (c : Cluster) (n d : ℕ) (ts : List Task) (s : SeizeState) → has_path c.attached n d ≡ true → TasksPath c n ts → TasksPath c n (after_seize ts d s)
seize_path c n d ts s p k = put_path c n (seizure_of ts d) (record { device = d; work = Seizes s }) ts p k

join_path : (c : Cluster) (n d : ℕ) (ts : List Task) (j : JoinState) → TasksPath c n ts → TasksPath c n (after_join ts d j)
join_path c n d ts j k = put_path c n (join_of ts d) (record { device = d; work = Joins j }) ts tt k

joins_path : (c : Cluster) (n e joined : ℕ) (rs : List Reading) (ts : List Task) → TasksPath c n ts → TasksPath c n (joining_from c n e joined ts rs)
joins_path c n e joined [] ts k = k
joins_path c n e joined (r ∷ rs) ts k =
    joins_path c n e joined rs (joining_with c n e joined ts r)
    (if_either (TasksPath c n) (is_to_join c n joined r) (after_join ts r.device (joining.begun e n c.id)) ts (join_path c n r.device ts (joining.begun e n c.id) k) k)

work_path : (c : Cluster) (n d : ℕ) (a : Answer) (w : Work) → WorkPath c n d w → WorkPath c n d (work_answered a w)
work_path c n d a (Seizes s) k = k
work_path c n d a (Joins j) k = k

answered_path : (c : Cluster) (n : ℕ) (a : Answer) (ts : List Task) → TasksPath c n ts → TasksPath c n (after_answer ts a)
answered_path c n a [] k = tt
answered_path c n a (t ∷ ts) k =
    if_either (TasksPath c n) (is_queued t) (answered a t ∷ ts) (t ∷ after_answer ts a) (work_path c n t.device a t.work k.0, k.1) (k.0, answered_path c n a ts k.1)

-- ---- a node that goes on

up_same : (c : Cluster) (n : ℕ) (x y : UpNode) → y.tasks ≡ x.tasks → y.attempt ≡ x.attempt → UpPath c n x → UpPath c n y
up_same c n x y tasks tries k = record { tasks = subst (λ ts. TasksPath c n ts) (sym tasks) k.tasks; attempt = subst (λ o. AttemptIn c n o) (sym tries) k.attempt }

attempt_of : (c : Cluster) (n : ℕ) (o : Option AttemptState) (a : AttemptState) → o ≡ Some a → AttemptIn c n o → AttemptPath c n a
attempt_of c n o a is k = subst (λ z. AttemptIn c n z) is k

turned : (c : Cluster) (n : ℕ) (told : Delivered) (a : AttemptState) (k : Call) → MayCall c told a k → AttemptPath c n a → AttemptPath c n (turn a k).after
turned c n told a k may so =
    let same : (turn a k).after.plan ≡ a.plan = plan_stays a k (may_be_called c told a k may) in
    record {
      reached = reached_more a k (may_be_called c told a k may) so.reached;
      attached = ap (λ (p : Plan). p.attached) same ∙ so.attached;
      coordinator = ap (λ (p : Plan). p.coordinator) same ∙ so.coordinator;
      entries = turn_path c a k so.attached so.entries;
    }

rested : (c : Cluster) (n p : ℕ) (x : UpNode) (o : Option AttemptState) → UpPath c n (rested_by (promising x p) o)
rested c n p x None = record { tasks = tt; attempt = tt }
rested c n p x (Some a) = record { tasks = tt; attempt = tt }

change_path : (c : Cluster) (n : ℕ) (told : Delivered) (x : UpNode) (ch : Change) → All IsDevice c.attached → MayChange c n told x ch → UpPath c n x → UpPath c n (changed c n x ch)
change_path c n told x (Promises p) fits may k = rested c n p x x.attempt
change_path c n told x (Leads p members) fits may k =
    let z : UpNode = record (promising x p) { greatest = p } in
    record {
      tasks = tt;
      attempt = record {
        reached = record { p = p; members = members; own = own_promise n z p; attached = c.attached; cluster = c.id; devices = fits; calls = []; run = refl };
        attached = (plan_begins p members (own_promise n z p) c.attached c.id).of_attached;
        coordinator = (plan_begins p members (own_promise n z p) c.attached c.id).of_coordinator;
        entries = first_path c p members (own_promise n z p) c.id;
      };
    }
change_path c n told x (Counts a q s i) fits may k =
    record { tasks = joins_path c n i.epoch _ i.readings [] tt; attempt = turned c n told a q may.2 (attempt_of c n x.attempt a may.0 k.attempt) }
change_path c n told x (Installs s i) fits may k = record { tasks = joins_path c n i.epoch _ i.readings x.tasks k.tasks; attempt = k.attempt }
change_path c n told x (Starts a q s) fits may k = record { tasks = k.tasks; attempt = tt }
change_path c n told x (Sits s e) fits may k = up_same c n x (changed c n x (Sits s e)) refl refl k
change_path c n told x (Distrusts d) fits may k = up_same c n x (changed c n x (Distrusts d)) refl refl k
change_path c n told x (Admits on command a d) fits may k = record { tasks = answered_path c n a x.tasks k.tasks; attempt = k.attempt }
change_path c n told x (Proposes s p text) fits may k = up_same c n x (changed c n x (Proposes s p text)) refl refl k
change_path c n told x (Acks s p q left text) fits may k = up_same c n x (changed c n x (Acks s p q left text)) refl refl k
change_path c n told x (Prepares s text) fits may k = up_same c n x (changed c n x (Prepares s text)) refl refl k
change_path c n told x (Commits s) fits may k = up_same c n x (changed c n x (Commits s)) refl refl k

here_path : (c : Cluster) (n : ℕ) (g : Hand) (a : AttemptState) (d : ℕ) (kind : SeizeKind) (P : Type 0) → guards.InHand (λ u. (u.after ≡ a) × P × guards.IsStep (step.SeizeHere d kind) u.steps) g
    → TurnPath c n g → has_path c.attached n d ≡ true
here_path c n None a d kind P at turn = absurd at
here_path c n (Some u) a d kind P at turn = turn (step.SeizeHere d kind) at.2

asked_path : (c : Cluster) (n e members d : ℕ) (kind : SeizeKind) (told : Delivered) → Says (λ b. b ≡ request_as kind e members d) told → HandPath c n told → has_path c.attached n d ≡ true
asked_path c n e members d kind None says hand = absurd says
asked_path c n e members d Vote (Some x) says hand = subst (λ b. BodyPath c n b) says hand
asked_path c n e members d Plain (Some x) says hand = subst (λ b. BodyPath c n b) says hand

act_path : (h : Header) (c : Cluster) (n : ℕ) (told : Delivered) (g : Hand) (x : UpNode) (a : Act) → All IsDevice c.attached → MayAct c n told x a → ActMay h n told g x a → HandPath c n told
    → TurnPath c n g → UpPath c n x → UpPath c n (acted c n x a)
act_path h c n told g x (Goes_on b q) fits may at hand turn k = record { tasks = k.tasks; attempt = turned c n told b q may.1 (attempt_of c n x.attempt b may.0 k.attempt) }
act_path h c n told g x (Ends b end) fits may at hand turn k = record { tasks = k.tasks; attempt = tt }
act_path h c n told g x (Queues b d kind) fits may at hand turn k =
    if_either (UpPath c n) (has b.plan.members n)
    (record x { tasks = after_seize x.tasks d (seizing.begun kind b.plan.epoch b.plan.members n c.id (has (record_of x).valid d)) }) x
    (record { tasks = seize_path c n d x.tasks _ (here_path c n g b d kind _ at turn) k.tasks; attempt = k.attempt }) k
act_path h c n told g x (Accepts kind e members d) fits may at hand turn k =
    record { tasks = seize_path c n d x.tasks _ (asked_path c n e members d kind told at.0 hand) k.tasks; attempt = k.attempt }
act_path h c n told g x (Makes ch) fits may at hand turn k = change_path c n told x ch fits may.0 k
act_path h c n told g x (Takes on command a) fits may at hand turn k = record { tasks = answered_path c n a x.tasks k.tasks; attempt = k.attempt }
act_path h c n told g x (Hears from b) fits may at hand turn k = up_same c n x (acted c n x (Hears from b)) refl refl k
act_path h c n told g x Ticks fits may at hand turn k = up_same c n x (acted c n x Ticks) refl refl k
act_path h c n told g x Waits fits may at hand turn k = up_same c n x (acted c n x Waits) refl refl k
act_path h c n told g x (Stores d value a) fits may at hand turn k = k
act_path h c n told g x (Writes to b) fits may at hand turn k = k
act_path h c n told g x (Gives os) fits may at hand turn k = k
act_path h c n told g x (Spreads receivers b) fits may at hand turn k = k
act_path h c n told g x (Minds q p) fits may at hand turn k = up_same c n x (acted c n x (Minds q p)) refl refl k
act_path h c n told g x (Notes from place p) fits may at hand turn k = up_same c n x (acted c n x (Notes from place p)) refl refl k
act_path h c n told g x (Dates now) fits may at hand turn k = up_same c n x (acted c n x (Dates now)) refl refl k
act_path h c n told g x (Works w) fits may at hand turn k = up_same c n x (acted c n x (Works w)) refl refl k

-- the steps of the last call
turn_after : (c : Cluster) (n : ℕ) (told : Delivered) (g : Hand) (x : UpNode) (a : Act) → MayAct c n told x a → TurnPath c n g → UpPath c n x → TurnPath c n (hand_by g a)
turn_after c n told g x (Goes_on b q) may last k =
    let so : AttemptPath c n b = attempt_of c n x.attempt b may.0 k.attempt in
    let t : AttemptPath c n (turn b q).after = turned c n told b q may.1 so in
    steps_path c n b q so.reached (may_be_called c told b q may.1) t.coordinator t.entries
turn_after c n told g x _ may last k = last

-- ---- what is given

abbrev pub OutPath : Cluster → Output → Type 0
OutPath c (Tells e) = Unit {0}
OutPath c (Sends to b) = BodyPath c to b

abbrev pub OutsPath : Cluster → List Output → Type 0
OutsPath c os = AllByRecursion (OutPath c) os

mute_path : (c : Cluster) (to : ℕ) (b : Body) → IsMute b → BodyPath c to b
mute_path c to (body.SeizeQuorum e members d) k = absurd k
mute_path c to (body.SeizeData e members d) k = absurd k
mute_path c to _ k = tt

muted_path : (c : Cluster) (os : List Output) → AllMute os → OutsPath c os
muted_path c [] k = tt
muted_path c (Tells e ∷ os) k = (tt, muted_path c os k.1)
muted_path c (Sends to b ∷ os) k = (mute_path c to b k.0, muted_path c os k.1)

calm_path : (c : Cluster) (os : List Output) → AllCalm os → OutsPath c os
calm_path c os k = muted_path c os (all_mute os k)

sends_path : (c : Cluster) (n to : ℕ) (b : Body) (g : Hand) → guards.InHand (λ u. SendsSo u.steps to b) g → TurnPath c n g → BodyPath c to b
sends_path c n to b None at turn = absurd at
sends_path c n to b (Some u) at turn = subst (λ z. BodyPath c to z) at.body_so (turn (step.Send to at.message) at.step_so)

written_path : (c : Cluster) (n : ℕ) (told : Delivered) (g : Hand) (x : UpNode) (to : ℕ) (b : Body) → AtWrite told g x to b → TurnPath c n g → BodyPath c to b
written_path c n told g x to (body.SeizeQuorum e members d) at turn = sends_path c n to (body.SeizeQuorum e members d) g at turn
written_path c n told g x to (body.SeizeData e members d) at turn = sends_path c n to (body.SeizeData e members d) g at turn
written_path c n told g x to _ at turn = tt

pub made_plain : (ch : Change) → MadeAt ch → IsPlain ch
made_plain (Admits on command a d) k = absurd k
made_plain _ k = tt

said_path : (h : Header) (c : Cluster) (n : ℕ) (told : Delivered) (g : Hand) (x : UpNode) (a : Act) → MayAct c n told x a → ActMay h n told g x a → ActSo a → TurnPath c n g
    → OutsPath c (said c n x a)
said_path h c n told g x (Writes to b) may at so turn = (written_path c n told g x to b at turn, tt)
said_path h c n told g x Ticks may at so turn = (tt, calm_path c (ticked_output c x (later c x)) (ticked_calm c x (later c x)))
said_path h c n told g x (Ends b why) may at so turn = (tt, tt)
said_path h c n told g x (Takes on command a) may at so turn = (tt, tt)
said_path h c n told g x (Stores d value a) may at so turn = (tt, calm_path c _ (write_calm n x d value a))
said_path h c n told g x (Makes ch) may at so turn = muted_path c _ (made_mute c n x ch (made_plain ch at))
said_path h c n told g x (Gives os) may at so turn = calm_path c os (minor_calm os so may)
said_path h c n told g x (Spreads receivers b) may at so turn = calm_path c _ (spread_calm receivers b (plain_mute b at))
said_path h c n told g x (Hears from b) may at so turn = tt
said_path h c n told g x Waits may at so turn = tt
said_path h c n told g x (Goes_on b q) may at so turn = tt
said_path h c n told g x (Queues b d kind) may at so turn = tt
said_path h c n told g x (Accepts kind e members d) may at so turn = tt
said_path h c n told g x (Minds q p) may at so turn = tt
said_path h c n told g x (Notes from place p) may at so turn = tt
said_path h c n told g x (Dates now) may at so turn = tt
said_path h c n told g x (Works w) may at so turn = tt

saved_path : (c : Cluster) (n : ℕ) (x : UpNode) (ch : Change) → OutsPath c (first_lines n ch ++ saved_lines c n x ch)
saved_path c n x (Admits on command a d) = (tt, (tt, tt))
saved_path c n x (Promises p) = muted_path c (first_lines n (Promises p) ++ saved_lines c n x (Promises p)) (saved_mute c n x (Promises p) tt)
saved_path c n x (Leads p members) = muted_path c (first_lines n (Leads p members) ++ saved_lines c n x (Leads p members)) (saved_mute c n x (Leads p members) tt)
saved_path c n x (Counts a q s i) = (tt, (tt, tt))
saved_path c n x (Installs s i) = (tt, (tt, tt))
saved_path c n x (Starts a q s) = muted_path c (first_lines n (Starts a q s) ++ saved_lines c n x (Starts a q s)) (saved_mute c n x (Starts a q s) tt)
saved_path c n x (Sits s e) = (tt, (tt, tt))
saved_path c n x (Distrusts d) = (tt, tt)
saved_path c n x (Proposes s p text) = (tt, (tt, tt))
saved_path c n x (Acks s p q left text) = (tt, (tt, tt))
saved_path c n x (Prepares s text) = (tt, tt)
saved_path c n x (Commits s) = (tt, tt)

lost_path : (c : Cluster) (n : ℕ) (ch : Change) (why : DownCause) → OutsPath c (first_lines n ch ++ gone_line n why)
lost_path c n (Admits on command a d) why = (tt, (tt, tt))
lost_path c n (Proposes s p text) why = (tt, (tt, tt))
lost_path c n (Promises p) why = (tt, tt)
lost_path c n (Leads p members) why = (tt, tt)
lost_path c n (Counts a q s i) why = (tt, tt)
lost_path c n (Installs s i) why = (tt, tt)
lost_path c n (Starts a q s) why = (tt, tt)
lost_path c n (Sits s e) why = (tt, tt)
lost_path c n (Distrusts d) why = (tt, tt)
lost_path c n (Acks s p q left text) why = (tt, tt)
lost_path c n (Prepares s text) why = (tt, tt)
lost_path c n (Commits s) why = (tt, tt)

-- ---- each small step

pub record Kept (c : Cluster) (n : ℕ) (node : Node) (g : Hand) (os : List Output) : Type 0 where
  pub here : NodePath c n node
  pub turn : TurnPath c n g
  pub given : OutsPath c os

doing_path : (h : Header) (c : Cluster) (n : ℕ) (told : Delivered) (g : Hand) (node : Node) (disk : NodeRecord) (d : Doing) → All IsDevice c.attached → May c n told (site node disk) d
    → DoingMay h n told g (site node disk) d → DoingSo d → HandPath c n told → TurnPath c n g → NodePath c n node
    → Kept c n (effect c n (site node disk) d).node (hand_after g d) (gives c n (site node disk) d)
doing_path h c n told g (Up x) disk (Does a) fits may at so hand turn k =
    record { here = act_path h c n told g x a fits may at hand turn k; turn = turn_after c n told g x a may turn k; given = said_path h c n told g x a may at so turn }
doing_path h c n told g Down disk (Does a) fits may at so hand turn k = absurd may
doing_path h c n told g (Up x) disk (Saves ch) fits may at so hand turn k = record { here = change_path c n told x ch fits may k; turn = turn; given = saved_path c n x ch }
doing_path h c n told g Down disk (Saves ch) fits may at so hand turn k = absurd may
doing_path h c n told g node disk (Loses ch why) fits may at so hand turn k = record { here = tt; turn = turn; given = lost_path c n ch why }
doing_path h c n told g node disk (Forgets ch why) fits may at so hand turn k = record { here = tt; turn = turn; given = lost_path c n ch why }
doing_path h c n told g Down disk Comes_up fits may at so hand turn k = record { here = record { tasks = tt; attempt = tt }; turn = turn; given = (tt, tt) }
doing_path h c n told g (Up x) disk Comes_up fits may at so hand turn k = absurd may
doing_path h c n told g node disk (Goes_down why) fits may at so hand turn k = record { here = tt; turn = turn; given = (tt, tt) }

pub record Ended (c : Cluster) (n : ℕ) (node : Node) (os : List Output) : Type 0 where
  pub here : NodePath c n node
  pub given : OutsPath c os

pub all_path : (h : Header) (c : Cluster) (n : ℕ) (told : Delivered) (g : Hand) (x : Site) (ds : List Doing) → All IsDevice c.attached → MayAll c n told x ds → AllMay h c n told g x ds → AllSo ds
    → HandPath c n told → TurnPath c n g → NodePath c n x.node → Ended c n (after_all c n x ds).node (given_all c n x ds)
all_path h c n told g x [] fits may at so hand turn k = record { here = k; given = tt }
all_path h c n told g x (d ∷ ds) fits may at so hand turn k =
    let one : Kept c n (effect c n x d).node (hand_after g d) (gives c n x d) = doing_path h c n told g x.node x.disk d fits may.0 at.0 so.0 hand turn k in
    let rest : Ended c n (after_all c n (effect c n x d) ds).node (given_all c n (effect c n x d) ds) =
    all_path h c n told (hand_after g d) (effect c n x d) ds fits may.1 at.1 so.1 hand one.turn one.here in
    record { here = rest.here; given = both (OutPath c) (gives c n x d) (given_all c n (effect c n x d) ds) one.given rest.given }
