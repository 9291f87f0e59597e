-- What a node does beside its attempt and its tasks gives no line that changes them.
use Rattle.std.specs.Prelude.{ℕ, ◌≡◌, ◌++◌, List, [], ◌∷◌, Option, None, Some, Ok}
use Rattle.std.proofs.Common.{refl, sym, subst}
use Rattle.cl_base.specs.Limits.{most_nodes}
use Rattle.cl_base.specs.Numbers.{numbers_to}
use Rattle.cmm_attempt.proofs.Basics.{if_either}
use Rattle.cmm_attempt.specs.Attempts.{AttemptState}
use Rattle.device_queue.specs.declared.task.Task.{Task}
use Rattle.node_model.specs.Entries.{unknown_line, unknown_lines}
use Rattle.node_model.specs.Members.{rested_by}
use Rattle.node_model.specs.Presidents.{sent_to}
use Rattle.node_model.specs.Seats.{promising}
use Rattle.node_model.specs.Ticks.{heartbeat_of, heartbeats_to, later, ticked_output}
use Rattle.node_model.specs.Updates.{request_again, request_again_by, request_again_to}
use Rattle.node_model.specs.declared.cluster.Cluster.{Cluster}
use Rattle.node_model.specs.declared.node.UpNode.{UpNode}
use Rattle.node_model.specs.declared.output.Output.{Output}
use Rattle.node_model.specs.declared.output.Output.TheVariants.{Sends, Tells}
use Rattle.node_model.specs.declared.presidency.Presidency.{Presidency}
use Rattle.pgr_device.specs.declared.command.PrAnswer.TheVariants as given
use Rattle.refinement.specs.Courses.{Course}
use Rattle.refinement.specs.Courses.Course.{Acts, Falls, Keeps, Stops}
use Rattle.refinement.specs.Doings.{Act, Change, acted, changed, first_lines, last_lines, said, saved_lines, write_lines}
use Rattle.refinement.specs.Doings.Act.{Accepts, Ends, Gives, Goes_on, Makes, Queues, Spreads, Stores, Takes, Ticks, Writes}
use Rattle.refinement.specs.Doings.Change.{Acks, Admits, Commits, Counts, Distrusts, Installs, Leads, Prepares, Promises, Proposes, Sits, Starts}
use Rattle.request_queue.specs.Queue as queue
use Rattle.request_queue.specs.Queue.{oldest}
use Rattle.request_queue.specs.declared.request.Request.{Request}
use Rattle.node_model.specs.Seats.{coordinator_of}
use Rattle.run_history.proofs.Lists.{both, mapped}
use Rattle.run_history.specs.Marks.{ActSo, AreMinor, IsMinor}
use Rattle.seize.specs.Answers.{Answer}
use Rattle.status_report.specs.declared.entry.Entry.{Entry}
use Rattle.status_report.specs.declared.entry.Entry.TheVariants as entry
use Rattle.run_outcomes.specs.phases.Kept.{In}
use Rattle.run_outcomes.specs.tasks.Onward.{AreStill, GoesOut, IsStill, Onward, OnwardOf, StillEntry}
use Rattle.run_outcomes.proofs.own_tasks.Beside.{AreLeft, LeftAct, LeftChange}

-- ---- lines

minor_still : (n : ℕ) (e : Entry) → IsMinor e → StillEntry n e
minor_still n (entry.Command e) h = tt
minor_still n (entry.Call e) h = tt
minor_still n (entry.Status e) h = tt
minor_still n (entry.Address e) h = tt
minor_still n _ h = absurd h

pub given_still : (n : ℕ) (os : List Output) → AreMinor os → AreStill n os
given_still n [] h = tt
given_still n (Tells e ∷ os) h = (minor_still n e h.0, given_still n os h.1)
given_still n (Sends to b ∷ os) h = (tt, given_still n os h)

pub unknown_still : (n me : ℕ) (rs : List Request) → AreStill n (unknown_lines me rs)
unknown_still n me [] = tt
unknown_still n me (r ∷ rs) = both (IsStill n) (unknown_line me r) (unknown_lines me rs) (if_either (AreStill n) r.told _ [] (tt, tt) tt) (unknown_still n me rs)

beats_still : (n : ℕ) (x : UpNode) (receivers : ℕ) → AreStill n (heartbeats_to x receivers)
unfolding heartbeats_to
beats_still n x receivers = mapped (IsStill n) (λ m. Sends m (heartbeat_of x)) (numbers_to receivers most_nodes) (λ m. tt)

pub spread_still : (n receivers : ℕ) (b : _) → AreStill n (sent_to receivers b)
unfolding sent_to
spread_still n receivers b = mapped (IsStill n) (λ m. Sends m b) (numbers_to receivers most_nodes) (λ m. tt)

again_to_still : (n : ℕ) (x : UpNode) (r : Option Request) (o : Option ℕ) → AreStill n (request_again_to x r o)
again_to_still n x (Some r) (Some m) = (tt, tt)
again_to_still n x None o = tt
again_to_still n x (Some r) None = tt

again_still : (n : ℕ) (x : UpNode) (o : Option Presidency) → AreStill n (request_again_by x o)
again_still n x None = if_either (AreStill n) (queue.goes_again x.requests) (request_again_to x (oldest x.requests) (coordinator_of x)) [] (again_to_still n x (oldest x.requests) (coordinator_of x)) tt
again_still n x (Some p) = tt

pub ticked_still : (c : Cluster) (n : ℕ) (before x : UpNode) → AreStill n (ticked_output c before x)
ticked_still c n before x = both (IsStill n) (heartbeats_to x _) (request_again before) (beats_still n x _) (again_still n before before.presidency)

pub write_still : (n me : ℕ) (x : UpNode) (d value : ℕ) (a : Answer) → AreStill n (write_lines me x d value a)
write_still n me x d value (Ok given.Good) = (tt, tt)
write_still n me x d value (Ok given.Conflict) = (tt, tt)
write_still n me x d value _ = (tt, tt)

-- ---- more is given

pub onward_more : (n : ℕ) (R : AttemptState → List Task → Type 0) (x y : UpNode) (os more : List Output) → y.attempt ≡ x.attempt → y.tasks ≡ x.tasks → AreStill n more → Onward n R x os → Onward n R y (os ++ more)
onward_more n R x y os more same tasks still h = by_attempt x.attempt y.attempt same h
  where
    by_attempt : (o p : Option AttemptState) → p ≡ o → In (OnwardOf n R x.tasks os) o → In (OnwardOf n R y.tasks (os ++ more)) p
    by_attempt o None is k = tt
    by_attempt o (Some b) is k = λ seizing.
        let z : AreStill n os × R b x.tasks = subst (In (OnwardOf n R x.tasks os)) (sym is) k seizing in
        (both (IsStill n) os more z.0 still, subst (R b) (sym tasks) z.1)

pub onward_none : (n : ℕ) (R : AttemptState → List Task → Type 0) (y : UpNode) (os : List Output) → y.attempt ≡ None → Onward n R y os
onward_none n R y os none = subst (In (OnwardOf n R y.tasks os)) (sym none) tt

rested_none : (x : UpNode) (p : ℕ) (o : Option AttemptState) → (rested_by (promising x p) o).attempt ≡ None
rested_none x p None = refl
rested_none x p (Some a) = refl

-- ---- changes and acts

first_still : (n me : ℕ) (change : Change) → LeftChange change → AreStill n (first_lines me change)
first_still n me (Admits at command a d) left = absurd left
first_still n me (Proposes s p text) left = (tt, tt)
first_still n me _ left = tt

saved_onward : (c : Cluster) (n : ℕ) (R : AttemptState → List Task → Type 0) (x : UpNode) (os : List Output) (change : Change) → LeftChange change → Onward n R x os
    → Onward n R (changed c n x change) (os ++ (first_lines n change ++ saved_lines c n x change))
saved_onward c n R x os (Promises p) left h = onward_none n R (changed c n x (Promises p)) _ (rested_none x p x.attempt)
saved_onward c n R x os (Starts a k s) left h = tt
saved_onward c n R x os (Leads p members) left h = absurd left
saved_onward c n R x os (Counts a k s i) left h = absurd left
saved_onward c n R x os (Installs s i) left h = absurd left
saved_onward c n R x os (Admits at command a d) left h = absurd left
saved_onward c n R x os (Sits s e) left h = onward_more n R x (changed c n x (Sits s e)) os _ refl refl (tt, (tt, tt)) h
saved_onward c n R x os (Distrusts d) left h = onward_more n R x (changed c n x (Distrusts d)) os _ refl refl (tt, tt) h
saved_onward c n R x os (Proposes s p text) left h = onward_more n R x (changed c n x (Proposes s p text)) os _ refl refl (tt, (tt, tt)) h
saved_onward c n R x os (Acks s p q more text) left h = onward_more n R x (changed c n x (Acks s p q more text)) os _ refl refl (tt, (tt, tt)) h
saved_onward c n R x os (Prepares s text) left h = onward_more n R x (changed c n x (Prepares s text)) os _ refl refl (tt, tt) h
saved_onward c n R x os (Commits s) left h = onward_more n R x (changed c n x (Commits s)) os _ refl refl (tt, tt) h

made_onward : (c : Cluster) (n : ℕ) (R : AttemptState → List Task → Type 0) (x : UpNode) (os : List Output) (change : Change) → LeftChange change → Onward n R x os
    → Onward n R (changed c n x change) (os ++ (first_lines n change ++ last_lines c n x change))
made_onward c n R x os (Promises p) left h = onward_none n R (changed c n x (Promises p)) _ (rested_none x p x.attempt)
made_onward c n R x os (Starts a k s) left h = tt
made_onward c n R x os (Leads p members) left h = absurd left
made_onward c n R x os (Counts a k s i) left h = absurd left
made_onward c n R x os (Installs s i) left h = absurd left
made_onward c n R x os (Admits at command a d) left h = absurd left
made_onward c n R x os (Sits s e) left h = onward_more n R x (changed c n x (Sits s e)) os _ refl refl (tt, tt) h
made_onward c n R x os (Distrusts d) left h = onward_more n R x (changed c n x (Distrusts d)) os _ refl refl tt h
made_onward c n R x os (Proposes s p text) left h = onward_more n R x (changed c n x (Proposes s p text)) os _ refl refl (tt, tt) h
made_onward c n R x os (Acks s p q more text) left h = onward_more n R x (changed c n x (Acks s p q more text)) os _ refl refl (tt, tt) h
made_onward c n R x os (Prepares s text) left h = onward_more n R x (changed c n x (Prepares s text)) os _ refl refl tt h
made_onward c n R x os (Commits s) left h = onward_more n R x (changed c n x (Commits s)) os _ refl refl tt h

pub act_onward : (c : Cluster) (n : ℕ) (R : AttemptState → List Task → Type 0) (x : UpNode) (os : List Output) (a : Act) → LeftAct a → ActSo a → Onward n R x os → Onward n R (acted c n x a) (os ++ said c n x a)
act_onward c n R x os (Goes_on a k) left so h = absurd left
act_onward c n R x os (Queues a d kind) left so h = absurd left
act_onward c n R x os (Accepts kind e members d) left so h = absurd left
act_onward c n R x os (Takes at command a) left so h = absurd left
act_onward c n R x os (Ends a e) left so h = tt
act_onward c n R x os (Makes change) left so h = made_onward c n R x os change left h
act_onward c n R x os Ticks left so h = onward_more n R x (acted c n x Ticks) os (said c n x Ticks) refl refl (tt, ticked_still c n x (later c x)) h
act_onward c n R x os (Stores d value a) left so h = onward_more n R x (acted c n x (Stores d value a)) os (said c n x (Stores d value a)) refl refl (tt, write_still n n x d value a) h
act_onward c n R x os (Writes to b) left so h = onward_more n R x (acted c n x (Writes to b)) os (said c n x (Writes to b)) refl refl (tt, tt) h
act_onward c n R x os (Gives more) left so h = onward_more n R x (acted c n x (Gives more)) os more refl refl (given_still n more so) h
act_onward c n R x os (Spreads receivers b) left so h = onward_more n R x (acted c n x (Spreads receivers b)) os (said c n x (Spreads receivers b)) refl refl (spread_still n receivers b) h
act_onward c n R x os a left so h = onward_more n R x (acted c n x a) os (said c n x a) refl refl tt h

pub left_out : (c : Cluster) (n : ℕ) (R : AttemptState → List Task → Type 0) (x : UpNode) (os : List Output) (k : Course) → AreLeft k → Onward n R x os → GoesOut c n (Onward n R) x os k
left_out c n R x os Stops left h = h
left_out c n R x os (Acts a rest) left h = λ so. left_out c n R (acted c n x a) (os ++ said c n x a) rest left.1 (act_onward c n R x os a left.0 so h)
left_out c n R x os (Keeps change rest) left h =
    left_out c n R (changed c n x change) (os ++ (first_lines n change ++ saved_lines c n x change)) rest left.1 (saved_onward c n R x os change left.0 h)
left_out c n R x os (Falls why) left h = tt
