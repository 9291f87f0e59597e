-- Of each device a node has one seizing at most, and one joining.
use Rattle.std.specs.Prelude.{ℕ, ◌≡◌, ◌==◌, ◌&&◌, Bool, true, false, List, [], ◌∷◌, Option, None, Some}
use Rattle.std.proofs.Common.{refl, sym, ap, ◌∙◌}
use Rattle.cl_base.specs.Sets.{has}
use Rattle.cmm_attempt.proofs.Basics.{and_cases, false_true, if_either, same_number}
use Rattle.cmm_attempt.specs.Attempts.{AttemptState}
use Rattle.cmm_member.specs.Records.{NodeRecord}
use Rattle.device_queue.proofs.Kept.{same_join, same_seizure}
use Rattle.device_queue.specs.Queue.{after_answer, after_join, after_seize, join_of, seizure_of}
use Rattle.device_queue.specs.Tasks.{is_join_of, is_seizure_of}
use Rattle.device_queue.specs.declared.task.Task.{Task}
use Rattle.device_queue.specs.declared.task.Work.TheVariants.{Joining, Seizing}
use Rattle.node_model.specs.Attempts.{is_to_join, joining_from, joining_with}
use Rattle.node_model.specs.Members.{rested_by}
use Rattle.node_model.specs.Seats.{promising, record_of}
use Rattle.node_model.specs.declared.cluster.Cluster.{Cluster}
use Rattle.node_model.specs.declared.node.Node.{Node}
use Rattle.node_model.specs.declared.node.Node.TheVariants.{Down, Up}
use Rattle.node_model.specs.declared.node.UpNode.{UpNode}
use Rattle.refinement.specs.Doings.{Act, Change, Doing, Site, acted, after_all, changed, effect, site}
use Rattle.refinement.specs.Doings.Act.{Accepts, Dates, Ends, Gives, Goes_on, Hears, Makes, Minds, Notes, Queues, Spreads, Stores, Takes, Ticks, Waits, Works, Writes}
use Rattle.refinement.specs.Doings.Change.{Acks, Admits, Commits, Counts, Distrusts, Installs, Leads, Prepares, Promises, Proposes, Sits, Starts}
use Rattle.refinement.specs.Doings.Doing.{Comes_up, Does, Forgets, Goes_down, Loses, Saves}
use Rattle.seize.specs.Answers.{Answer}
use Rattle.seize.specs.Joining as joining
use Rattle.seize.specs.Seizing as seizing
use Rattle.wire.specs.declared.lists.Reading.{Reading}
use Rattle.run_lines.specs.few.Counts.{AllAlone, NodeAlone}
use Rattle.run_lines.proofs.writes.Tasks.{lone_answered, lone_put}

-- ---- tasks

none_alone : AllAlone []
none_alone d = (tt, tt)

and_false : (b : Bool) → (b && false) ≡ false
and_false true = refl
and_false false = refl

seize_alone : (ts : List Task) (e : ℕ) (s : seizing.SeizeState) → AllAlone ts → AllAlone (after_seize ts e s)
seize_alone ts e s alone d =
    let t : Task = record { device = e; work = Seizing s } in (
      lone_put (is_seizure_of d) (seizure_of ts e) t ts (alone d).0 (λ own. ap (seizure_of ts) (sym (same_number e d (and_cases (e == d) true own).0))),
      lone_put (is_join_of d) (seizure_of ts e) t ts (alone d).1 (λ own. absurd (false_true (sym (and_false (e == d)) ∙ own))),
    )

join_alone : (ts : List Task) (e : ℕ) (j : joining.JoinState) → AllAlone ts → AllAlone (after_join ts e j)
join_alone ts e j alone d =
    let t : Task = record { device = e; work = Joining j } in (
      lone_put (is_seizure_of d) (join_of ts e) t ts (alone d).0 (λ own. absurd (false_true (sym (and_false (e == d)) ∙ own))),
      lone_put (is_join_of d) (join_of ts e) t ts (alone d).1 (λ own. ap (join_of ts) (sym (same_number e d (and_cases (e == d) true own).0))),
    )

joins_alone : (c : Cluster) (me e had : ℕ) (ts : List Task) (rs : List Reading) → AllAlone ts → AllAlone (joining_from c me e had ts rs)
joins_alone c me e had ts [] alone = alone
joins_alone c me e had ts (r ∷ rs) alone =
    joins_alone c me e had (joining_with c me e had ts r) rs
    (if_either AllAlone (is_to_join c me had r) (after_join ts r.device (joining.begun e me c.id)) ts (join_alone ts r.device (joining.begun e me c.id) alone) alone)

taken_alone : (ts : List Task) (a : Answer) → AllAlone ts → AllAlone (after_answer ts a)
taken_alone ts a alone d = (lone_answered (is_seizure_of d) a (same_seizure d a) ts (alone d).0, lone_answered (is_join_of d) a (same_join d a) ts (alone d).1)

-- ---- small steps

rested_alone : (x : UpNode) (p : ℕ) (o : Option AttemptState) → AllAlone (rested_by (promising x p) o).tasks
rested_alone x p None = none_alone
rested_alone x p (Some a) = none_alone

change_alone : (c : Cluster) (n : ℕ) (x : UpNode) (ch : Change) → AllAlone x.tasks → AllAlone (changed c n x ch).tasks
change_alone c n x (Promises p) h = rested_alone x p x.attempt
change_alone c n x (Leads p members) h = none_alone
change_alone c n x (Counts a k s i) h = joins_alone c n i.epoch _ [] i.readings none_alone
change_alone c n x (Installs s i) h = joins_alone c n i.epoch _ x.tasks i.readings h
change_alone c n x (Starts a k s) h = h
change_alone c n x (Sits s e) h = h
change_alone c n x (Distrusts d) h = h
change_alone c n x (Admits at command a d) h = taken_alone x.tasks a h
change_alone c n x (Proposes s p text) h = h
change_alone c n x (Acks s p q left text) h = h
change_alone c n x (Prepares s text) h = h
change_alone c n x (Commits s) h = h

act_alone : (c : Cluster) (n : ℕ) (x : UpNode) (a : Act) → AllAlone x.tasks → AllAlone (acted c n x a).tasks
act_alone c n x (Queues b d kind) h =
    if_either (λ (y : UpNode). AllAlone y.tasks) (has b.plan.members n)
    (record x { tasks = after_seize x.tasks d (seizing.begun kind b.plan.epoch b.plan.members n c.id (has (record_of x).valid d)) }) x
    (seize_alone x.tasks d (seizing.begun kind b.plan.epoch b.plan.members n c.id (has (record_of x).valid d)) h) h
act_alone c n x (Accepts kind e members d) h = seize_alone x.tasks d (seizing.begun kind e members n c.id (has (record_of x).valid d)) h
act_alone c n x (Takes at command a) h = taken_alone x.tasks a h
act_alone c n x (Makes ch) h = change_alone c n x ch h
act_alone c n x (Hears from b) h = h
act_alone c n x Ticks h = h
act_alone c n x Waits h = h
act_alone c n x (Goes_on b k) h = h
act_alone c n x (Ends b e) h = h
act_alone c n x (Stores d value a) h = h
act_alone c n x (Writes to b) h = h
act_alone c n x (Gives os) h = h
act_alone c n x (Spreads receivers b) h = h
act_alone c n x (Minds q p) h = h
act_alone c n x (Notes from place p) h = h
act_alone c n x (Dates now) h = h
act_alone c n x (Works w) h = h

doing_alone : (c : Cluster) (n : ℕ) (node : Node) (disk : NodeRecord) (d : Doing) → NodeAlone node → NodeAlone (effect c n (site node disk) d).node
doing_alone c n Down disk Comes_up h = none_alone
doing_alone c n (Up x) disk Comes_up h = h
doing_alone c n node disk (Goes_down why) h = tt
doing_alone c n Down disk (Does a) h = tt
doing_alone c n (Up x) disk (Does a) h = act_alone c n x a h
doing_alone c n Down disk (Saves ch) h = tt
doing_alone c n (Up x) disk (Saves ch) h = change_alone c n x ch h
doing_alone c n node disk (Loses ch why) h = tt
doing_alone c n node disk (Forgets ch why) h = tt

pub all_alone : (c : Cluster) (n : ℕ) (x : Site) (ds : List Doing) → NodeAlone x.node → NodeAlone (after_all c n x ds).node
all_alone c n x [] h = h
all_alone c n x (d ∷ ds) h = all_alone c n (effect c n x d) ds (doing_alone c n x.node x.disk d h)
