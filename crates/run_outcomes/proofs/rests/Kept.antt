-- Courses of a node that leave its attempt and its tasks, and give no line that changes these.
use Rattle.std.specs.Prelude.{ℕ, ◌≡◌, ◌++◌, true, Bool, List}
use Rattle.std.proofs.Common.{refl, ◌∙◌}
use Rattle.cl_base.specs.declared.method.Outcome as method
use Rattle.node_model.specs.Ticks.{later}
use Rattle.node_model.specs.declared.cluster.Cluster.{Cluster}
use Rattle.node_model.specs.declared.node.UpNode.{UpNode}
use Rattle.node_model.specs.declared.output.Output.{Output}
use Rattle.refinement.specs.Courses.{Course}
use Rattle.refinement.specs.Courses.Course.{Acts, Falls, Keeps, Stops}
use Rattle.refinement.specs.Cuts as cuts
use Rattle.refinement.specs.Doings.{Act, Change, acted, changed, first_lines, said, saved_lines}
use Rattle.refinement.specs.Doings.Act.{Accepts, Ends, Gives, Goes_on, Makes, Queues, Spreads, Stores, Takes, Ticks, Writes}
use Rattle.refinement.specs.Doings.Change.{Acks, Commits, Distrusts, Prepares, Proposes, Sits}
use Rattle.run_attempts.proofs.Staid.{governing_staid}
use Rattle.run_attempts.specs.Steps.{IsStaid}
use Rattle.run_downs.proofs.Proposing.{SavesProposed}
use Rattle.run_history.proofs.Lists.{both}
use Rattle.run_history.proofs.QuietCourses.{Quiet, QuietAct, governing}
use Rattle.run_history.specs.Marks.{ActSo}
use Rattle.run_outcomes.specs.Free.{IsFree}
use Rattle.run_outcomes.specs.tasks.Onward.{AreStill, GoesOut, IsStill}
use Rattle.run_outcomes.proofs.free.Courses.{governing_free}
use Rattle.run_outcomes.proofs.onward.Beside.{given_still, spread_still, ticked_still, write_still}

-- ---- small steps

abbrev pub KeptChange : Change → Type 0
KeptChange (Sits s e) = Unit {0}
KeptChange (Distrusts d) = Unit {0}
KeptChange (Proposes s p text) = Unit {0}
KeptChange (Acks s p q left text) = Unit {0}
KeptChange (Prepares s text) = Unit {0}
KeptChange (Commits s) = Unit {0}
KeptChange _ = ⊥

abbrev pub KeptAct : Act → Type 0
KeptAct (Goes_on a k) = ⊥
KeptAct (Ends a e) = ⊥
KeptAct (Queues a d kind) = ⊥
KeptAct (Accepts kind e members d) = ⊥
KeptAct (Takes at command a) = ⊥
KeptAct (Makes change) = KeptChange change
KeptAct _ = Unit {0}

abbrev pub AreKept : Course → Type 0
AreKept Stops = Unit {0}
AreKept (Acts a rest) = KeptAct a × AreKept rest
AreKept (Keeps change rest) = KeptChange change × AreKept rest
AreKept (Falls why) = Unit {0}

-- the attempt and the tasks are those of x, and nothing that was given changes them
abbrev pub Stays : ℕ → UpNode → UpNode → List Output → Type 0
Stays n x y os = (y.attempt ≡ x.attempt) × (y.tasks ≡ x.tasks) × AreStill n os

stays_more : (n : ℕ) (x y z : UpNode) (os more : List Output) → z.attempt ≡ y.attempt → z.tasks ≡ y.tasks → AreStill n more → Stays n x y os → Stays n x z (os ++ more)
stays_more n x y z os more same tasks still h = (same ∙ h.0, tasks ∙ h.1, both (IsStill n) os more h.2 still)

saved_stays : (c : Cluster) (n : ℕ) (x y : UpNode) (os : List Output) (change : Change) → KeptChange change → Stays n x y os → Stays n x (changed c n y change) (os ++ (first_lines n change ++ saved_lines c n y change))
saved_stays c n x y os (Sits s e) kept h = stays_more n x y (changed c n y (Sits s e)) os _ refl refl (tt, (tt, tt)) h
saved_stays c n x y os (Distrusts d) kept h = stays_more n x y (changed c n y (Distrusts d)) os _ refl refl (tt, tt) h
saved_stays c n x y os (Proposes s p text) kept h = stays_more n x y (changed c n y (Proposes s p text)) os _ refl refl (tt, (tt, tt)) h
saved_stays c n x y os (Acks s p q left text) kept h = stays_more n x y (changed c n y (Acks s p q left text)) os _ refl refl (tt, (tt, tt)) h
saved_stays c n x y os (Prepares s text) kept h = stays_more n x y (changed c n y (Prepares s text)) os _ refl refl (tt, tt) h
saved_stays c n x y os (Commits s) kept h = stays_more n x y (changed c n y (Commits s)) os _ refl refl (tt, tt) h
saved_stays c n x y os _ kept h = absurd kept

made_stays : (c : Cluster) (n : ℕ) (x y : UpNode) (os : List Output) (change : Change) → KeptChange change → Stays n x y os → Stays n x (acted c n y (Makes change)) (os ++ said c n y (Makes change))
made_stays c n x y os (Sits s e) kept h = stays_more n x y (changed c n y (Sits s e)) os _ refl refl (tt, tt) h
made_stays c n x y os (Distrusts d) kept h = stays_more n x y (changed c n y (Distrusts d)) os _ refl refl tt h
made_stays c n x y os (Proposes s p text) kept h = stays_more n x y (changed c n y (Proposes s p text)) os _ refl refl (tt, tt) h
made_stays c n x y os (Acks s p q left text) kept h = stays_more n x y (changed c n y (Acks s p q left text)) os _ refl refl (tt, tt) h
made_stays c n x y os (Prepares s text) kept h = stays_more n x y (changed c n y (Prepares s text)) os _ refl refl tt h
made_stays c n x y os (Commits s) kept h = stays_more n x y (changed c n y (Commits s)) os _ refl refl tt h
made_stays c n x y os _ kept h = absurd kept

act_stays : (c : Cluster) (n : ℕ) (x y : UpNode) (os : List Output) (a : Act) → KeptAct a → ActSo a → Stays n x y os → Stays n x (acted c n y a) (os ++ said c n y a)
act_stays c n x y os (Goes_on a k) kept so h = absurd kept
act_stays c n x y os (Ends a e) kept so h = absurd kept
act_stays c n x y os (Queues a d kind) kept so h = absurd kept
act_stays c n x y os (Accepts kind e members d) kept so h = absurd kept
act_stays c n x y os (Takes at command a) kept so h = absurd kept
act_stays c n x y os (Makes change) kept so h = made_stays c n x y os change kept h
act_stays c n x y os Ticks kept so h = stays_more n x y (acted c n y Ticks) os (said c n y Ticks) refl refl (tt, ticked_still c n y (later c y)) h
act_stays c n x y os (Stores d value a) kept so h = stays_more n x y (acted c n y (Stores d value a)) os (said c n y (Stores d value a)) refl refl (tt, write_still n n y d value a) h
act_stays c n x y os (Writes to b) kept so h = stays_more n x y (acted c n y (Writes to b)) os (said c n y (Writes to b)) refl refl (tt, tt) h
act_stays c n x y os (Gives more) kept so h = stays_more n x y (acted c n y (Gives more)) os more refl refl (given_still n more so) h
act_stays c n x y os (Spreads receivers b) kept so h = stays_more n x y (acted c n y (Spreads receivers b)) os (said c n y (Spreads receivers b)) refl refl (spread_still n receivers b) h
act_stays c n x y os a kept so h = stays_more n x y (acted c n y a) os (said c n y a) refl refl tt h

pub kept_out : (c : Cluster) (n : ℕ) (x y : UpNode) (os : List Output) (k : Course) → AreKept k → Stays n x y os → GoesOut c n (Stays n x) y os k
kept_out c n x y os Stops kept h = h
kept_out c n x y os (Acts a rest) kept h = λ so. kept_out c n x (acted c n y a) (os ++ said c n y a) rest kept.1 (act_stays c n x y os a kept.0 so h)
kept_out c n x y os (Keeps change rest) kept h =
    kept_out c n x (changed c n y change) (os ++ (first_lines n change ++ saved_lines c n y change)) rest kept.1 (saved_stays c n x y os change kept.0 h)
kept_out c n x y os (Falls why) kept h = tt

-- ---- which are so

staid_act : (a : Act) → QuietAct a → IsStaid (Acts a Stops) → IsFree (Acts a Stops) → KeptAct a
staid_act (Goes_on a k) quiet staid free = absurd quiet
staid_act (Queues a d kind) quiet staid free = absurd quiet
staid_act (Accepts kind e members d) quiet staid free = absurd quiet
staid_act (Takes at command a) quiet staid free = absurd quiet
staid_act (Ends a e) quiet staid free = absurd free.0
staid_act (Makes (Proposes s p text)) quiet staid free = tt
staid_act (Makes (Acks s p q left text)) quiet staid free = tt
staid_act (Makes _) quiet staid free = absurd staid.0
staid_act _ quiet staid free = tt

pub staid_kept : (k : Course) → Quiet k → IsStaid k → IsFree k → AreKept k
staid_kept Stops quiet staid free = tt
staid_kept (Acts a rest) quiet staid free = (staid_act a quiet.0 (staid.0, tt) (free.0, tt), staid_kept rest quiet.1 staid.1 free.1)
staid_kept (Keeps (Proposes s p text) rest) quiet staid free = (tt, staid_kept rest quiet.1 staid.1 free.1)
staid_kept (Keeps (Acks s p q left text) rest) quiet staid free = (tt, staid_kept rest quiet.1 staid.1 free.1)
staid_kept (Keeps _ rest) quiet staid free = absurd staid.0
staid_kept (Falls why) quiet staid free = tt

proposed_act : (t : Bool) (a : Act) → QuietAct a → SavesProposed t (Acts a Stops) → IsFree (Acts a Stops) → KeptAct a
proposed_act t (Goes_on a k) quiet saves free = absurd quiet
proposed_act t (Queues a d kind) quiet saves free = absurd quiet
proposed_act t (Accepts kind e members d) quiet saves free = absurd quiet
proposed_act t (Takes at command a) quiet saves free = absurd quiet
proposed_act t (Ends a e) quiet saves free = absurd free.0
proposed_act t (Makes change) quiet saves free = absurd saves.0
proposed_act t _ quiet saves free = tt

pub proposed_kept : (t : Bool) (k : Course) → Quiet k → SavesProposed t k → IsFree k → AreKept k
proposed_kept t Stops quiet saves free = tt
proposed_kept t (Acts a rest) quiet saves free = (proposed_act t a quiet.0 (saves.0, tt) (free.0, tt), proposed_kept t rest quiet.1 saves.1 free.1)
proposed_kept t (Keeps (Proposes s p text) rest) quiet saves free = (tt, proposed_kept true rest quiet.1 saves free.1)
proposed_kept t (Keeps (Acks s p q left text) rest) quiet saves free = (tt, proposed_kept t rest quiet.1 saves.1 free.1)
proposed_kept t (Keeps _ rest) quiet saves free = absurd saves
proposed_kept t (Falls why) quiet saves free = tt

pub governing_kept : (c : Cluster) (me : ℕ) (ends : method.Outcome) (before x : UpNode) → AreKept (cuts.governing_course c me ends before x)
governing_kept c me ends before x =
    staid_kept (cuts.governing_course c me ends before x) (governing c me ends before x) (governing_staid c me ends before x) (governing_free c me ends before x)
