-- What a tick makes of the attempt of a node: it sends again, or ends; or an attempt of the coordinator alone begins, and is given its votes.
use Rattle.std.specs.Prelude.{ℕ, ◌≡◌, ◌⊎◌, ◌++◌, ◌&&◌, ◌==◌, nat_le, nat_lt, Bool, true, false, List, [], ◌∷◌, Option, None, Some, if◌then◌else◌}
use Rattle.std.specs.List.{find}
use Rattle.std.proofs.Common.{refl, sym, ap, subst, ◌∙◌, append_assoc, inl, inr}
use Rattle.cl_base.specs.Seizings.{SeizeResult}
use Rattle.cl_base.specs.declared.method.Outcome as method
use Rattle.cmm_attempt.proofs.Basics.{false_true, if_either}
use Rattle.cmm_attempt.specs.Attempts.{AttemptState, Turn, again_in, all_promised, answering_in, beginning, choosing, chosen_by, collects, first_state, is_missing, promises_of, later as later_ticks, own_answering, own_readying, silenced, ticked, ticking, waits, with_steps}
use Rattle.cmm_attempt.specs.Attempts as attempts
use Rattle.cmm_attempt.specs.Calls.{Call, Own_ready, Own_seized, Take, Tick as Call_tick, With_votes, turn}
use Rattle.cmm_attempt.specs.Promises.{newest_shown, promised_by, shown_by}
use Rattle.cmm_attempt.specs.declared.attached.AttachedDevice.{AttachedDevice}
use Rattle.cmm_attempt.specs.declared.phase.Phase.{Phase}
use Rattle.cmm_attempt.specs.declared.promised.Shown.{Shown}
use Rattle.cmm_attempt.specs.declared.phase.Phase.TheVariants.{Choosing, Collecting, Installing, Over, SeizingOthers, SeizingVotes}
use Rattle.device_queue.specs.declared.task.Task.{Task}
use Rattle.node_model.specs.Attempts.{is_choosing, next_epoch, votes_in}
use Rattle.node_model.specs.Entries.{unknown_lines}
use Rattle.node_model.specs.Seats.{promised_of, record_of}
use Rattle.node_model.specs.Ticks.{later, members_to_form, waiting_less}
use Rattle.node_model.specs.declared.cluster.Cluster.{Cluster}
use Rattle.node_model.specs.declared.node.UpNode.{UpNode}
use Rattle.node_model.specs.declared.output.Output.{Output}
use Rattle.node_model.specs.declared.output.Output.TheVariants.{Tells}
use Rattle.refinement.specs.Courses.{Course}
use Rattle.refinement.specs.Courses.Course.{Acts, Falls, Keeps, Stops}
use Rattle.refinement.specs.Cuts as cuts
use Rattle.refinement.specs.Cuts.{steps_course}
use Rattle.refinement.specs.Doings.{Act, Change, acted, changed, going, of_node, first_lines, said, saved_lines}
use Rattle.refinement.specs.Doings.Act.{Goes_on, Makes, Ticks, Waits}
use Rattle.refinement.specs.Doings.Change.{Counts, Leads}
use Rattle.run_downs.proofs.Courses.{by_test}
use Rattle.status_report.specs.declared.attempt_entry.AttemptEntry.TheVariants as attempt
use Rattle.status_report.specs.declared.entry.Entry.TheVariants as entry
use Rattle.status_report.specs.declared.node_entry.NodeEntry.TheVariants as note
use Rattle.wire.specs.declared.message.Message.{Message}
use Rattle.run_outcomes.specs.phases.Kept.{In}
use Rattle.run_outcomes.specs.phases.Laws.{is_seizing}
use Rattle.run_outcomes.specs.saves.Courses.{LeadsTo, Leaves, LeavesAct, LeavesChange}
use Rattle.run_outcomes.specs.tasks.Onward.{AreStill, ByEither, ByTurn, GoesOut, Onward, OnwardOf}
use Rattle.run_outcomes.proofs.own_tasks.Beside.{AreLeft, LeftAct, LeftChange, governing_left}
use Rattle.run_outcomes.proofs.phases.Leading.{Has, IsLed, called_has, leaves_has, steps_has}
use Rattle.run_outcomes.proofs.onward.Beside.{left_out, ticked_still, unknown_still}
use Rattle.run_outcomes.proofs.onward.Calls.{called_out, going_out}
use Rattle.run_outcomes.proofs.onward.Given.{Behind, out_behind, out_by, out_joined, out_leads}

-- ---- an attempt that neither seizes devices nor is to be given votes

abbrev pub IsIdle : AttemptState → Type 0
IsIdle a = (is_seizing a.phase ≡ false) × (is_choosing a.phase ≡ false)

answering_idle : (s : AttemptState) (d from : ℕ) (r : SeizeResult) (p : Phase) → s.phase ≡ p → IsIdle s → IsIdle (answering_in s d from r p).after
answering_idle s d from r SeizingVotes at h = absurd (false_true (sym h.0 ∙ ap is_seizing at))
answering_idle s d from r SeizingOthers at h = absurd (false_true (sym h.0 ∙ ap is_seizing at))
answering_idle s d from r Collecting at h = h
answering_idle s d from r Choosing at h = h
answering_idle s d from r Installing at h = h
answering_idle s d from r Over at h = h

own_answering_idle : (s : AttemptState) (d : ℕ) (r : SeizeResult) → IsIdle s → IsIdle (own_answering s d r).after
unfolding own_answering
own_answering_idle s d r h = answering_idle s d s.plan.coordinator r s.phase refl h

silenced_idle : (s : AttemptState) (o : Option ℕ) → IsIdle s → IsIdle (silenced s o).after
silenced_idle s None h = h
silenced_idle s (Some m) h = (refl, refl)

ticking_idle : (s : AttemptState) → IsIdle s → IsIdle (ticking s).after
unfolding ticking
ticking_idle s h =
    let t : AttemptState = record s { ticks = later_ticks s.ticks } in
    if_either (λ (u : Turn). IsIdle u.after) (attempts.is_over s.phase) (waits s) (ticked t) h
    (if_either (λ (u : Turn). IsIdle u.after) (nat_le 8 t.ticks) (silenced t (find (is_missing t) t.plan.nodes)) _ (silenced_idle t (find (is_missing t) t.plan.nodes) h)
    (if_either (λ (u : Turn). IsIdle u.after) (t.ticks == 4) (with_steps t (again_in t t.phase)) (waits t) h h))

starting_idle : (s : AttemptState) → IsIdle s → IsIdle (attempts.starting s).after
unfolding attempts.starting
starting_idle s h = if_either (λ (u : Turn). IsIdle u.after) (s.own_ready && attempts.all_ready s) _ (waits s) (refl, refl) h

ready_idle : (s : AttemptState) (p : Phase) → IsIdle s → IsIdle (attempts.own_readying_in s p).after
ready_idle s Installing h = starting_idle (record s { own_ready = true }) h
ready_idle s Collecting h = h
ready_idle s Choosing h = h
ready_idle s SeizingVotes h = h
ready_idle s SeizingOthers h = h
ready_idle s Over h = h

own_ready_idle : (s : AttemptState) → IsIdle s → IsIdle (own_readying s).after
unfolding own_readying
own_ready_idle s h = ready_idle s s.phase h

choice_is : (p : Phase) → p ≡ Choosing → is_choosing p ≡ false → ⊥
choice_is p is not = false_true (sym not ∙ ap is_choosing is)

pub idle_led : IsLed IsIdle
idle_led a (Take from m) may own h = absurd own
idle_led a (With_votes votes) may own h = absurd (choice_is a.phase may h.1)
idle_led a (Own_seized d r) may own h = own_answering_idle a d r h
idle_led a Own_ready may own h = own_ready_idle a h
idle_led a Call_tick may own h = ticking_idle a h

-- ---- what a tick leads to

-- the attempt of the node took it
abbrev pub Ticked : Cluster → ℕ → UpNode → AttemptState → List Task → Type 0
Ticked c n x b ts = (a : AttemptState) × (valid : ℕ) × (x.attempt ≡ Some a) × (is_seizing a.phase ≡ true) × ByEither c n valid a Call_tick x.tasks b ts

-- one began, and nothing that was given since changes its tasks
pub record BegunSo (c : Cluster) (n : ℕ) (b : AttemptState) (ts : List Task) (all : List Output) : Type 0 where
  pub node : UpNode
  pub p : ℕ
  pub members : ℕ
  pub before : List Output
  pub os : List Output
  pub parts : all ≡ (before ++ Tells (entry.Attempt (attempt.Begun p members)) ∷ []) ++ os
  pub still : AreStill n os
  pub alone : is_choosing (cuts.first_turn c n node p members).after.phase ≡ true
  pub turn : ByTurn c n (record_of (changed c n node (Leads p members))).valid (cuts.first_turn c n node p members).after (With_votes (votes_in c (cuts.first_turn c n node p members).after)) [] b ts

abbrev pub TickOf : Cluster → ℕ → UpNode → List Task → List Output → AttemptState → Type 0
TickOf c n x ts all b = is_seizing b.phase ≡ true → (AreStill n all × Ticked c n x b ts) ⊎ BegunSo c n b ts all

abbrev pub AfterTick : Cluster → ℕ → UpNode → UpNode → List Output → Type 0
AfterTick c n x y all = In (TickOf c n x y.tasks all) y.attempt

idle_after : (c : Cluster) (n : ℕ) (x y : UpNode) (all : List Output) → Has IsIdle y → AfterTick c n x y all
idle_after c n x y all h = by_attempt y.attempt h
  where
    by_attempt : (o : Option AttemptState) → In IsIdle o → In (TickOf c n x y.tasks all) o
    by_attempt None k = tt
    by_attempt (Some b) k = λ is. absurd (false_true (sym k.0 ∙ is))

-- ---- before its attempt takes the tick

left_change : (change : Change) → LeftChange change → LeavesChange change
left_change (Leads p members) h = h
left_change (Counts a k s i) h = h
left_change _ h = tt

left_act : (a : Act) → LeftAct a → LeavesAct a
left_act (Goes_on a k) h = h
left_act (Makes change) h = left_change change h
left_act _ h = tt

left_leaves : (k : Course) → AreLeft k → Leaves k
left_leaves Stops h = tt
left_leaves (Acts a rest) h = (left_act a h.0, left_leaves rest h.1)
left_leaves (Keeps change rest) h = (left_change change h.0, left_leaves rest h.1)
left_leaves (Falls why) h = tt

out_and : (c : Cluster) (n : ℕ) (P : UpNode → List Output → Type 0) (Q : UpNode → Type 0) (x : UpNode) (os : List Output) (k : Course) → GoesOut c n P x os k → LeadsTo c n Q x k
    → GoesOut c n (λ y more. P y more × Q y) x os k
out_and c n P Q x os Stops h k = (h, k)
out_and c n P Q x os (Acts a rest) h k = λ so. out_and c n P Q (acted c n x a) (os ++ said c n x a) rest (h so) k
out_and c n P Q x os (Keeps change rest) h k = out_and c n P Q (changed c n x change) (os ++ (first_lines n change ++ saved_lines c n x change)) rest h k
out_and c n P Q x os (Falls why) h k = tt

abbrev IsSame : UpNode → AttemptState → List Task → Type 0
IsSame x b ts = (x.attempt ≡ Some b) × (ts ≡ x.tasks)

-- ---- its attempt takes it

abbrev Rests_so : AttemptState → Type 0
Rests_so a = is_choosing a.phase ≡ false

ticked_out : (c : Cluster) (n : ℕ) (x y : UpNode) (os : List Output) (a : AttemptState) → Rests_so a → OnwardOf n (IsSame x) y.tasks os a
    → GoesOut c n (AfterTick c n x) y os (cuts.going_course c n y a Call_tick)
ticked_out c n x y os a rests h = by_seizing (is_seizing a.phase) refl
  where
    by_seizing : (b : Bool) → is_seizing a.phase ≡ b → GoesOut c n (AfterTick c n x) y os (cuts.going_course c n y a Call_tick)
    by_seizing true is =
        let z : AreStill n os × IsSame x a y.tasks = h is in
        out_by c n (Onward n (ByEither c n (record_of y).valid a Call_tick y.tasks)) (AfterTick c n x) y os (cuts.going_course c n y a Call_tick)
        (λ w all k. by_attempt w all w.attempt k z.1) (going_out c n y os a Call_tick z.0)
      where
        by_attempt : (w : UpNode) (all : List Output) (o : Option AttemptState) → In (OnwardOf n (ByEither c n (record_of y).valid a Call_tick y.tasks) w.tasks all) o → IsSame x a y.tasks → In (TickOf c n x w.tasks all) o
        by_attempt w all None k same = tt
        by_attempt w all (Some b) k same = λ seizing.
            let u : AreStill n all × ByEither c n (record_of y).valid a Call_tick y.tasks b w.tasks = k seizing in
            inl (u.0, (a, (record_of y).valid, same.0, is, subst (λ ts. ByEither c n (record_of y).valid a Call_tick ts b w.tasks) same.1 u.1))
    by_seizing false is =
        let t : AttemptState = (turn a Call_tick).after in
        let idle : IsIdle t = ticking_idle a (is, rests) in
        out_leads c n (Has IsIdle) (AfterTick c n x) y os (cuts.going_course c n y a Call_tick) (λ w all k. idle_after c n x w all k)
        (by_test (LeadsTo c n (Has IsIdle) y) (is_choosing t.phase) (Acts (Goes_on a Call_tick) (cuts.called c n (going y a Call_tick) t (With_votes (votes_in c t)))) (cuts.called c n y a Call_tick)
        (λ chooses. absurd (false_true (sym idle.1 ∙ chooses))) (λ stays. called_has IsIdle c n y a Call_tick idle_led idle))

-- ---- an attempt begins

chosen_quietly : (s : AttemptState) (o : Option Shown) → is_seizing s.phase ≡ false → is_seizing (chosen_by s o).after.phase ≡ false
chosen_quietly s None h = h
chosen_quietly s (Some newest) h = refl

choosing_quietly : (s : AttemptState) → is_seizing s.phase ≡ false → is_seizing (choosing s).after.phase ≡ false
unfolding choosing
choosing_quietly s h = chosen_quietly s (newest_shown s.promises) h

first_quietly : (p members : ℕ) (own : Message) (attached : List AttachedDevice) (cluster : ℕ) → is_seizing (beginning p members own attached cluster).after.phase ≡ false
unfolding beginning
first_quietly p members own attached cluster =
    let s : AttemptState = first_state p members own attached cluster (promises_of (promised_by own (shown_by own.sender own.body))) in
    if_either (λ (t : Turn). is_seizing t.after.phase ≡ false) (all_promised s) (choosing s) (with_steps s (collects s)) (choosing_quietly s refl) refl

begun_out : (c : Cluster) (n : ℕ) (x y : UpNode) (os : List Output) (p members : ℕ) → y.attempt ≡ None → GoesOut c n (AfterTick c n x) y os (cuts.leading_course c n y p members)
begun_out c n x y os p members none = if_either (GoesOut c n (AfterTick c n x) y os) (nat_lt (promised_of y) p) (Keeps (Leads p members) (cuts.begun_course c n z t)) Stops
    (if_so (is_choosing t.after.phase) refl) (subst (In (TickOf c n x y.tasks os)) (sym none) tt)
  where
    z : UpNode
    z = changed c n y (Leads p members)

    t : Turn
    t = cuts.first_turn c n y p members

    votes : Call
    votes = With_votes (votes_in c t.after)

    mark : List Output
    mark = Tells (entry.Attempt (attempt.Begun p members)) ∷ []

    before : List Output
    before = os ++ of_node n note.Saved ∷ []

    later_lines : List Output
    later_lines = unknown_lines n y.requests.waiting

    R : AttemptState → List Task → Type 0
    R = ByTurn c n (record_of z).valid t.after votes []

    lines : (before ++ mark) ++ later_lines ≡ os ++ ([] ++ (of_node n note.Saved ∷ Tells (entry.Attempt (attempt.Begun p members)) ∷ later_lines))
    lines = append_assoc before mark later_lines ∙ append_assoc os (of_node n note.Saved ∷ []) (mark ++ later_lines)

    so_after : is_choosing t.after.phase ≡ true → (w : UpNode) (all : List Output) → Behind (before ++ mark) (Onward n R) w all → AfterTick c n x w all
    so_after alone w all h = by_attempt w.attempt h.2
      where
        by_attempt : (o : Option AttemptState) → In (OnwardOf n R w.tasks h.0) o → In (TickOf c n x w.tasks all) o
        by_attempt None k = tt
        by_attempt (Some b) k = λ is.
            let u : AreStill n h.0 × R b w.tasks = k is in
            inr (record { node = y; p = p; members = members; before = before; os = h.0; parts = h.1; still = u.0; alone = alone; turn = u.1 })

    if_so : (b : Bool) → is_choosing t.after.phase ≡ b
        → GoesOut c n (AfterTick c n x) z (os ++ ([] ++ (of_node n note.Saved ∷ Tells (entry.Attempt (attempt.Begun p members)) ∷ later_lines))) (if b then cuts.called c n z t.after votes else steps_course c n z t.steps)
    if_so true alone =
        subst (λ all. GoesOut c n (AfterTick c n x) z all (cuts.called c n z t.after votes)) lines
        (out_by c n (Behind (before ++ mark) (Onward n R)) (AfterTick c n x) z ((before ++ mark) ++ later_lines) (cuts.called c n z t.after votes) (so_after alone)
        (out_behind c n (Onward n R) z (before ++ mark) later_lines (cuts.called c n z t.after votes) (called_out c n (record_of z).valid z later_lines t.after votes (unknown_still n n y.requests.waiting) refl)))
    if_so false collects =
        out_leads c n (Has IsIdle) (AfterTick c n x) z (os ++ ([] ++ (of_node n note.Saved ∷ Tells (entry.Attempt (attempt.Begun p members)) ∷ later_lines))) (steps_course c n z t.steps)
        (λ w all k. idle_after c n x w all k) (steps_has IsIdle c n z t.steps (first_quietly p members _ c.attached c.id, collects))

waits_out : (c : Cluster) (n : ℕ) (x y : UpNode) (os : List Output) → y.attempt ≡ None → AfterTick c n x y os
waits_out c n x y os none = subst (In (TickOf c n x y.tasks os)) (sym none) tt

forming_out : (c : Cluster) (n : ℕ) (x y : UpNode) (os : List Output) (o : Option ℕ) → y.attempt ≡ None → GoesOut c n (AfterTick c n x) y os (cuts.forming_course c n y o)
forming_out c n x y os None none = waits_out c n x y os none
forming_out c n x y os (Some members) none = begun_out c n x y os (next_epoch n y) members none

own_out : (c : Cluster) (n : ℕ) (x y : UpNode) (os : List Output) (o : Option AttemptState) → y.attempt ≡ o → In (OnwardOf n (IsSame x) y.tasks os) o → In Rests_so o → GoesOut c n (AfterTick c n x) y os (cuts.ticked_course c n y o)
own_out c n x y os (Some a) at h rests = ticked_out c n x y os a rests h
own_out c n x y os None at h rests =
    let z : UpNode = waiting_less y in
    if_either (GoesOut c n (AfterTick c n x) y os) (nat_le 1 y.beats.wait) (Acts Waits Stops) (Acts Waits (cuts.forming_course c n z (members_to_form c n z))) (λ so. waits_out c n x z (os ++ []) at)
    (λ so. forming_out c n x z (os ++ []) (members_to_form c n z) at)

pub tick_out : (c : Cluster) (n : ℕ) (ends : method.Outcome) (x : UpNode) → Has Rests_so x → GoesOut c n (AfterTick c n x) x [] (cuts.tick_course c n ends x)
tick_out c n ends x rests = λ so.
    let y : UpNode = later c x in
    let k : Course = cuts.governing_course c n ends x y in
    let os : List Output = said c n x Ticks in
    let left : AreLeft k = governing_left c n ends x y in
    out_joined c n (λ z more. Onward n (IsSame x) z more × Has Rests_so z) (AfterTick c n x) y os k (λ z. cuts.ticked_course c n z z.attempt)
    (out_and c n (Onward n (IsSame x)) (Has Rests_so) y os k (left_out c n (IsSame x) y os k left (first os (tt, ticked_still c n x y))) (leaves_has Rests_so c n y k (left_leaves k left) rests))
    (λ z more h. own_out c n x z more z.attempt refl h.0 h.1)
  where
    first : (os : List Output) → AreStill n os → Onward n (IsSame x) (later c x) os
    first os still = by_attempt x.attempt refl
      where
        by_attempt : (o : Option AttemptState) → x.attempt ≡ o → In (OnwardOf n (IsSame x) x.tasks os) o
        by_attempt None at = tt
        by_attempt (Some b) at = λ is. (still, (at, refl))
