-- An attempt for which no Promises are collected any more is not one that a node collects for; and which small steps save that a device is not valid.
use Rattle.std.specs.Prelude.{ℕ, ◌≡◌, ◌≢◌, ◌<◌, Bool, true, false, List, [], ◌∷◌, Option, None, Some, if◌then◌else◌}
use Rattle.std.proofs.Common.{refl, sym, subst}
use Rattle.attempt_laws.proofs.Stays.{plan_stays}
use Rattle.cl_base.specs.Sets.{has}
use Rattle.cmm_attempt.proofs.Basics.{if_either, none_some, same_some}
use Rattle.cmm_attempt.specs.Attempts.{AttemptState, beginning}
use Rattle.cmm_attempt.specs.Calls.{Call, turn}
use Rattle.cmm_attempt.specs.declared.phase.Phase.TheVariants.{Collecting}
use Rattle.cmm_attempt.specs.declared.plan.Plan.{Plan}
use Rattle.attempt_laws.proofs.Stays.{plan_begins}
use Rattle.attempt_laws.specs.Staying.{IsOf as IsOfPlan}
use Rattle.cmm_member.specs.Records.{NodeRecord}
use Rattle.device_queue.specs.Queue.{after_seize}
use Rattle.node_model.specs.Attempts.{own_promise}
use Rattle.node_model.specs.Members.{rested_by}
use Rattle.node_model.specs.Seats.{installed_of, promising, record_of, session_of}
use Rattle.node_model.specs.declared.cluster.Cluster.{Cluster}
use Rattle.node_model.specs.declared.node.Node.{Node}
use Rattle.node_model.specs.declared.node.Node.TheVariants.{Down, Up}
use Rattle.node_model.specs.declared.node.UpNode.{UpNode}
use Rattle.refinement.proofs.Attempts.{may_be_called}
use Rattle.refinement.specs.Courses.{Reply, under}
use Rattle.refinement.specs.Courses.Course.{Keeps, Stops}
use Rattle.refinement.specs.Courses.Reply.{Done, Lost_new, Lost_old}
use Rattle.refinement.specs.Cuts.{distrusting_course}
use Rattle.refinement.specs.Doings.{Act, Change, Doing, Site, acted, changed, effect, site}
use Rattle.refinement.specs.Doings.Act.{Accepts, Dates, Ends, Gives, Goes_on, Hears, Makes, Minds, Notes, Queues, Spreads, Stores, Takes, Ticks, Waits, Works, Writes}
use Rattle.refinement.specs.Doings.Change.{Acks, Admits, Commits, Counts, Distrusts, Installs, Leads, Prepares, Promises, Proposes, Sits, Starts}
use Rattle.refinement.specs.Doings.Doing.{Saves}
use Rattle.refinement.specs.Guards.{MayAct, MayCall, MayChange}
use Rattle.refinement.specs.Ties.{Delivered}
use Rattle.run_devices.proofs.validity.Courses.{AllTrust, DoingTrusts}
use Rattle.run_history.specs.Guards.{MadeAt}
use Rattle.seize.specs.Seizing as seizing
use Rattle.run_outcomes.proofs.results.Promises.{collects_before}
use Rattle.run_outcomes.specs.results.Tried.{Collected}
use Rattle.run_outcomes.specs.accounts.Unregistered.{StartKept, StartsKept}

-- where this is known of its attempt, it collects no Promises
abbrev pub FreshIn : Collected → Option AttemptState → Type 0
FreshIn past o = (b : AttemptState) → o ≡ Some b → b.phase ≡ Collecting → past b.plan.epoch → ⊥

abbrev pub Fresh : Collected → UpNode → Type 0
Fresh past x = FreshIn past x.attempt

abbrev pub FreshNode : Collected → Node → Type 0
FreshNode past Down = Unit {0}
FreshNode past (Up x) = Fresh past x

pub none_fresh : (past : Collected) → FreshIn past None
none_fresh past b is at gone = none_some b is

call_fresh : (past : Collected) (c : Cluster) (told : Delivered) (x : UpNode) (a : AttemptState) (k : Call) → x.attempt ≡ Some a → MayCall c told a k → Fresh past x → FreshIn past (Some (turn a k).after)
call_fresh past c told x a k is may h b same at gone =
    let back : (turn a k).after ≡ b = same_some (turn a k).after b same in
    h a is (collects_before a k (subst (λ (z : AttemptState). z.phase ≡ Collecting) (sym back) at))
    (subst (λ (p : Plan). past p.epoch) (plan_stays a k (may_be_called c told a k may)) (subst (λ (z : AttemptState). past z.plan.epoch) (sym back) gone))

-- an attempt that begins is one of which it is not known
abbrev pub IsNewFor : Collected → Change → Type 0
IsNewFor past (Leads p members) = past p → ⊥
IsNewFor past _ = Unit {0}

rested_fresh : (past : Collected) (x : UpNode) (p : ℕ) (o : Option AttemptState) → Fresh past (rested_by (promising x p) o)
rested_fresh past x p None = none_fresh past
rested_fresh past x p (Some a) = none_fresh past

pub change_fresh : (past : Collected) (c : Cluster) (n : ℕ) (told : Delivered) (x : UpNode) (ch : Change) → MayChange c n told x ch → IsNewFor past ch → Fresh past x → Fresh past (changed c n x ch)
change_fresh past c n told x (Promises p) may new h = rested_fresh past x p x.attempt
change_fresh past c n told x (Leads p members) may new h = λ b is at gone.
    let z : UpNode = record (promising x p) { greatest = p } in
    let a : AttemptState = (beginning p members (own_promise n z p) c.attached c.id).after in
    let begins : IsOfPlan a p members (own_promise n z p) c.attached c.id = plan_begins p members (own_promise n z p) c.attached c.id in
    new (subst past begins.of_epoch (subst (λ (y : AttemptState). past y.plan.epoch) (sym (same_some a b is)) gone))
change_fresh past c n told x (Counts a k s i) may new h = call_fresh past c told x a k may.0 may.2 h
change_fresh past c n told x (Starts a k s) may new h = none_fresh past
change_fresh past c n told x (Installs s i) may new h = h
change_fresh past c n told x (Sits s e) may new h = h
change_fresh past c n told x (Distrusts d) may new h = h
change_fresh past c n told x (Admits on command a d) may new h = h
change_fresh past c n told x (Proposes s p text) may new h = h
change_fresh past c n told x (Acks s p q left text) may new h = h
change_fresh past c n told x (Prepares s text) may new h = h
change_fresh past c n told x (Commits s) may new h = h

made_new : (past : Collected) (ch : Change) → MadeAt ch → IsNewFor past ch
made_new past (Leads p members) made = absurd made
made_new past _ made = tt

pub act_fresh : (past : Collected) (c : Cluster) (n : ℕ) (told : Delivered) (x : UpNode) (a : Act) → MayAct c n told x a → ((ch : Change) → a ≡ Makes ch → MadeAt ch) → Fresh past x → Fresh past (acted c n x a)
act_fresh past c n told x (Goes_on a k) may made h = call_fresh past c told x a k may.0 may.1 h
act_fresh past c n told x (Ends a e) may made h = none_fresh past
act_fresh past c n told x (Makes ch) may made h = change_fresh past c n told x ch may.0 (made_new past ch (made ch refl)) h
act_fresh past c n told x (Queues a d kind) may made h =
    if_either (Fresh past) (has a.plan.members n) (record x { tasks = after_seize x.tasks d (seizing.begun kind a.plan.epoch a.plan.members n c.id (has (record_of x).valid d)) }) x h h
act_fresh past c n told x (Accepts kind e members d) may made h = h
act_fresh past c n told x (Takes on command a) may made h = h
act_fresh past c n told x (Hears from b) may made h = h
act_fresh past c n told x Ticks may made h = h
act_fresh past c n told x Waits may made h = h
act_fresh past c n told x (Stores d value a) may made h = h
act_fresh past c n told x (Writes to b) may made h = h
act_fresh past c n told x (Gives os) may made h = h
act_fresh past c n told x (Spreads receivers b) may made h = h
act_fresh past c n told x (Minds q p) may made h = h
act_fresh past c n told x (Notes from place p) may made h = h
act_fresh past c n told x (Dates now) may made h = h
act_fresh past c n told x (Works w) may made h = h

-- ---- where a node saves that a device is not valid, this is known of its session; and where a membership starts, of the entries of its attempt

abbrev pub GoneIn : Collected → UpNode → Type 0
GoneIn past x = 0 < session_of x → installed_of x ≢ session_of x → past (session_of x)

abbrev pub DoingGone : Collected → Node → Doing → Type 0
DoingGone past (Up x) (Saves (Distrusts d)) = GoneIn past x
DoingGone past _ d = StartKept d

abbrev pub AllGone : Collected → Cluster → ℕ → Site → List Doing → Type 0
AllGone past c n x [] = Unit {0}
AllGone past c n x (d ∷ ds) = DoingGone past x.node d × AllGone past c n (effect c n x d) ds

trust_one : (past : Collected) (node : Node) (d : Doing) → DoingTrusts d → StartKept d → DoingGone past node d
trust_one past (Up x) (Saves (Distrusts d)) trusts starts = absurd trusts
trust_one past _ _ trusts starts = starts

pub trust_gone : (past : Collected) (c : Cluster) (n : ℕ) (x : Site) (ds : List Doing) → AllTrust ds → StartsKept ds → AllGone past c n x ds
trust_gone past c n x [] k starts = tt
trust_gone past c n x (d ∷ ds) k starts = (trust_one past x.node d k.0 starts.0, trust_gone past c n (effect c n x d) ds k.1 starts.1)

pub readies_gone : (past : Collected) (c : Cluster) (n : ℕ) (x : UpNode) (disk : NodeRecord) (replies : List Reply) (o : Option ℕ) → ((d : ℕ) → o ≡ Some d → GoneIn past x)
    → AllGone past c n (site (Up x) disk) (under replies (distrusting_course x o))
readies_gone past c n x disk replies None f = tt
readies_gone past c n x disk replies (Some d) f = by_valid (has (record_of x).valid d)
  where
    by_reply : (rs : List Reply) → AllGone past c n (site (Up x) disk) (under rs (Keeps (Distrusts d) Stops))
    by_reply [] = (tt, tt)
    by_reply (Done ∷ rs) = (f d refl, tt)
    by_reply (Lost_new why ∷ rs) = (tt, tt)
    by_reply (Lost_old why ∷ rs) = (tt, tt)

    by_valid : (b : Bool) → AllGone past c n (site (Up x) disk) (under replies (if b then Keeps (Distrusts d) Stops else Stops))
    by_valid true = by_reply replies
    by_valid false = tt
