-- What is told of who may not seize a device stays so, and what each node holds of it.
use Rattle.std.specs.Prelude.{ℕ, ◌≡◌, ◌==◌, ◌&&◌, ◌++◌, not, Bool, true, false, List, [], ◌∷◌, Option, None, Some, find, is_some, if◌then◌else◌}
use Rattle.std.specs.List.{list_any}
use Rattle.std.proofs.Common.{refl, sym, subst, inl, inr}
use Rattle.cl_base.specs.declared.header.Header.{Header}
use Rattle.cmm_attempt.proofs.Basics.{if_either, same_number}
use Rattle.device_queue.specs.Queue.{after_answer, after_join, after_seize, join_of, put_unless, seizure_of}
use Rattle.device_queue.specs.Tasks.{answered, is_queued, is_seizing, is_seizure_of, work_answered}
use Rattle.device_queue.specs.declared.task.Task.{Task}
use Rattle.device_queue.specs.declared.task.Work.{Work}
use Rattle.device_queue.specs.declared.task.Work.TheVariants.{Joining as Joins, Seizing as Seizes}
use Rattle.history.specs.Attempts.{is_unregistered, promised_invalid, reads_without, some_member}
use Rattle.history.specs.Contact.{IsNew}
use Rattle.history.specs.Member.{in_collect, members_of, promised_to}
use Rattle.history.specs.Moment.{Moment}
use Rattle.history.specs.Order.{before_last, since, somewhere}
use Rattle.history.specs.Seizing.{is_attempt, is_number}
use Rattle.history.specs.Setting.{coordinator, nodes_of}
use Rattle.history.specs.Trace.{saved}
use Rattle.history.specs.Validated.{is_valid, validity}
use Rattle.node_model.specs.Attempts.{is_to_join, joining_from, joining_with}
use Rattle.node_model.specs.Seats.{session_of}
use Rattle.node_model.specs.declared.cluster.Cluster.{Cluster}
use Rattle.node_model.specs.declared.node.UpNode.{UpNode}
use Rattle.run_history.proofs.Lists.{both}
use Rattle.run_seizings.proofs.Progress.{Leaves, begun_stays, if_not, leaves, no_truth, or_both, or_right}
use Rattle.seize.specs.Answers.{Answer}
use Rattle.seize.specs.Joining as joining
use Rattle.seize.specs.Joining.{JoinState}
use Rattle.seize.specs.Seizing.{SeizeState}
use Rattle.wire.specs.declared.lists.Reading.{Reading}
use Rattle.run_outcomes.specs.results.Tried.{Collected, HeldOr, SeatHeld, TasksHeld, Tried, Unheld, WorkHeld, Without, is_unheld}

-- ---- what is told

pub any_more : (test : ℕ → List Moment → Moment → Bool) (x : Moment) (ms : List Moment) (ns : List ℕ) → list_any (λ m. somewhere (test m) ms) ns ≡ true
    → list_any (λ m. somewhere (test m) (x ∷ ms)) ns ≡ true
any_more test x ms [] k = absurd (no_truth k)
any_more test x ms (n ∷ ns) k =
    or_both (somewhere (test n) ms) (list_any (λ m. somewhere (test m) ms) ns) (somewhere (test n) (x ∷ ms)) (list_any (λ m. somewhere (test m) (x ∷ ms)) ns)
    (λ here. or_right (test n ms x) (somewhere (test n) ms) here) (λ later. any_more test x ms ns later) k

-- what some member showed since the attempt began
pub member_stays : (e : ℕ) (test : ℕ → List Moment → Moment → Bool) (x : Moment) (ms : List Moment) → IsNew ms x → list_any (is_attempt e) ms ≡ true → some_member e ms test ≡ true
    → some_member e (x ∷ ms) test ≡ true
member_stays e test x ms new begun k =
    let l : Leaves ms x e = leaves ms x e new begun in
    subst (λ z. list_any (λ m. somewhere (test m) (since (is_attempt e) (x ∷ ms))) (nodes_of z) ≡ true) (sym l.members)
    (subst (λ z. list_any (λ m. somewhere (test m) z) (nodes_of (members_of e ms)) ≡ true) (sym (if_not (is_attempt e x) [] (x ∷ since (is_attempt e) ms) l.other))
    (any_more test x (since (is_attempt e) ms) (nodes_of (members_of e ms)) k))

invalid_stays : (h : Header) (e d m : ℕ) (x : Moment) (ms : List Moment) → promised_invalid h e d m ms ≡ true → promised_invalid h e d m (x ∷ ms) ≡ true
invalid_stays h e d m (saved n) ms k =
    or_right ((n == m) && in_collect n ms && is_number e (promised_to ms) && not (is_valid (validity h m d ms))) (promised_invalid h e d m ms) k
invalid_stays h e d m _ ms k = k

if_both : (b p q r s : Bool) → (b ≡ true → p ≡ true → r ≡ true) → (q ≡ true → s ≡ true) → (if b then p else q) ≡ true → (if b then r else s) ≡ true
if_both true p q r s f g k = f refl k
if_both false p q r s f g k = g k

pub unheld_stays : (h : Header) (e d n : ℕ) (x : Moment) (ms : List Moment) → IsNew ms x → (n ≡ coordinator e → list_any (is_attempt e) ms ≡ true) → is_unheld h e d ms n ≡ true
    → is_unheld h e d (x ∷ ms) n ≡ true
unheld_stays h e d n x ms new begun k =
    if_both (n == coordinator e) (not (is_valid (validity h n d (before_last (is_attempt e) ms)))) (promised_invalid h e d n ms)
    (not (is_valid (validity h n d (before_last (is_attempt e) (x ∷ ms))))) (promised_invalid h e d n (x ∷ ms))
    (λ own old. subst (λ z. not (is_valid (validity h n d z)) ≡ true)
    (sym (if_not (is_attempt e x) ms (before_last (is_attempt e) ms) (leaves ms x e new (begun (same_number n (coordinator e) own))).other)) old)
    (λ old. invalid_stays h e d n x ms old) k

pub barred_stays : (h : Header) (e d n : ℕ) (x : Moment) (ms : List Moment) → IsNew ms x → Without h e d ms n → Without h e d (x ∷ ms) n
barred_stays h e d n x ms new k = record { unheld = unheld_stays h e d n x ms new k.begun k.unheld; begun = λ own. begun_stays ms x e (k.begun own) }

pub unregistered_stays : (h : Header) (e d n : ℕ) (x : Moment) (ms : List Moment) → IsNew ms x → list_any (is_attempt e) ms ≡ true → is_unregistered h e d ms n ≡ true
    → is_unregistered h e d (x ∷ ms) n ≡ true
unregistered_stays h e d n x ms new begun k =
    or_both (is_unheld h e d ms n) (some_member e ms (reads_without h d n)) (is_unheld h e d (x ∷ ms) n) (some_member e (x ∷ ms) (reads_without h d n))
    (λ old. unheld_stays h e d n x ms new (λ own. begun) old) (λ old. member_stays e (reads_without h d n) x ms new begun old) k

pub tried_stays : (h : Header) (e d n : ℕ) (keys : List ℕ) (x : Moment) (ms : List Moment) → IsNew ms x → list_any (is_attempt e) ms ≡ true → Tried h e d ms n keys → Tried h e d (x ∷ ms) n keys
tried_stays h e d n keys x ms new begun k = record {
  read = λ m lacks. member_stays e (reads_without h d m) x ms new begun (k.read m lacks);
  without = λ is. unregistered_stays h e d n x ms new begun (k.without is);
}

-- ---- what a node has

work_stays : (h : Header) (ms : List Moment) (x : Moment) (n q d : ℕ) (w : Work) → IsNew ms x → WorkHeld h ms n q d w → WorkHeld h (x ∷ ms) n q d w
work_stays h ms x n q d (Seizes s) new k = λ is none. barred_stays h q d n x ms new (k is none)
work_stays h ms x n q d (Joins j) new k = tt

pub held_stay : (h : Header) (ms : List Moment) (x : Moment) (n q : ℕ) (ts : List Task) → IsNew ms x → TasksHeld h ms n q ts → TasksHeld h (x ∷ ms) n q ts
held_stay h ms x n q [] new k = tt
held_stay h ms x n q (t ∷ ts) new k = (work_stays h ms x n q t.device t.work new k.0, held_stay h ms x n q ts new k.1)

pub seat_stays : (h : Header) (past : Collected) (ms : List Moment) (x : Moment) (n : ℕ) (y : UpNode) → IsNew ms x → SeatHeld h past ms n y → SeatHeld h past (x ∷ ms) n y
seat_stays h past ms x n y new k some ahead d is none = by_case (k some ahead d is none)
  where
    by_case : HeldOr h past ms n (session_of y) d y.tasks → HeldOr h past (x ∷ ms) n (session_of y) d y.tasks
    by_case (inl w) = inl (barred_stays h (session_of y) d n x ms new w)
    by_case (inr seizes) = inr seizes

pub seat_grow : (h : Header) (past later : Collected) (ms : List Moment) (n : ℕ) (y : UpNode) → ((e : ℕ) → past e → later e) → SeatHeld h past ms n y → SeatHeld h later ms n y
seat_grow h past later ms n y more k some ahead d is none = by_case (k some ahead d is none)
  where
    by_case : HeldOr h past ms n (session_of y) d y.tasks → HeldOr h later ms n (session_of y) d y.tasks
    by_case (inl w) = inl w
    by_case (inr seizes) = inr (seizes.0, more (session_of y) seizes.1)

-- ---- tasks

work_answers : (h : Header) (ms : List Moment) (n q d : ℕ) (a : Answer) (w : Work) → WorkHeld h ms n q d w → WorkHeld h ms n q d (work_answered a w)
work_answers h ms n q d a (Seizes s) k = k
work_answers h ms n q d a (Joins j) k = tt

pub held_answered : (h : Header) (ms : List Moment) (n q : ℕ) (a : Answer) (ts : List Task) → TasksHeld h ms n q ts → TasksHeld h ms n q (after_answer ts a)
held_answered h ms n q a [] k = tt
held_answered h ms n q a (t ∷ ts) k =
    if_either (TasksHeld h ms n q) (is_queued t) (answered a t ∷ ts) (t ∷ after_answer ts a) (work_answers h ms n q t.device a t.work k.0, k.1) (k.0, held_answered h ms n q a ts k.1)

put_held : (h : Header) (ms : List Moment) (n q : ℕ) (o : Option Task) (new : Task) (ts : List Task) → (o ≡ None → WorkHeld h ms n q new.device new.work) → TasksHeld h ms n q ts
    → TasksHeld h ms n q (put_unless o new ts)
put_held h ms n q None new ts f k = both (λ (t : Task). WorkHeld h ms n q t.device t.work) ts (new ∷ []) k (f refl, tt)
put_held h ms n q (Some t) new ts f k = k

pub held_seized : (h : Header) (ms : List Moment) (n q d : ℕ) (ts : List Task) (s : SeizeState) → (seizure_of ts d ≡ None → Unheld h q d ms n s.valid) → TasksHeld h ms n q ts
    → TasksHeld h ms n q (after_seize ts d s)
held_seized h ms n q d ts s f k = put_held h ms n q (seizure_of ts d) (record { device = d; work = Seizes s }) ts f k

pub held_joined : (h : Header) (c : Cluster) (ms : List Moment) (n q me e joined : ℕ) (rs : List Reading) (ts : List Task) → TasksHeld h ms n q ts
    → TasksHeld h ms n q (joining_from c me e joined ts rs)
held_joined h c ms n q me e joined [] ts k = k
held_joined h c ms n q me e joined (r ∷ rs) ts k =
    held_joined h c ms n q me e joined rs (joining_with c me e joined ts r)
    (if_either (TasksHeld h ms n q) (is_to_join c me joined r) (after_join ts r.device (joining.begun e me c.id)) ts
    (put_held h ms n q (join_of ts r.device) (record { device = r.device; work = Joins (joining.begun e me c.id) }) ts (λ none. tt) k) k)

-- ---- which devices are seized

more_found : (f : Task → Bool) (ts more : List Task) → is_some (find f ts) ≡ true → is_some (find f (ts ++ more)) ≡ true
more_found f [] more k = absurd (no_truth k)
more_found f (t ∷ ts) more k = by_test (f t) k (more_found f ts more)
  where
    by_test : (b : Bool) → is_some (if b then Some t else find f ts) ≡ true → (is_some (find f ts) ≡ true → is_some (find f (ts ++ more)) ≡ true)
        → is_some (if b then Some t else find f (ts ++ more)) ≡ true
    by_test true k next = refl
    by_test false k next = next k

put_found : (f : Task → Bool) (o : Option Task) (new : Task) (ts : List Task) → is_some (find f ts) ≡ true → is_some (find f (put_unless o new ts)) ≡ true
put_found f None new ts k = more_found f ts (new ∷ []) k
put_found f (Some t) new ts k = k

pub seizes_more : (ts : List Task) (d e : ℕ) (s : SeizeState) → is_some (seizure_of ts d) ≡ true → is_some (seizure_of (after_seize ts e s) d) ≡ true
seizes_more ts d e s k = put_found (is_seizure_of d) (seizure_of ts e) (record { device = e; work = Seizes s }) ts k

same_work : (a : Answer) (w : Work) → is_seizing (work_answered a w) ≡ is_seizing w
same_work a (Seizes s) = refl
same_work a (Joins j) = refl

pub seizes_answered : (ts : List Task) (d : ℕ) (a : Answer) → is_some (seizure_of ts d) ≡ true → is_some (seizure_of (after_answer ts a) d) ≡ true
seizes_answered [] d a k = absurd (no_truth k)
seizes_answered (t ∷ ts) d a k =
    if_either (λ zs. is_some (seizure_of zs d) ≡ true) (is_queued t) (answered a t ∷ ts) (t ∷ after_answer ts a)
    (subst (λ b. is_some (if (t.device == d) && b then Some (answered a t) else seizure_of ts d) ≡ true) (sym (same_work a t.work)) (other (is_seizure_of d t) k))
    (by_test (is_seizure_of d t) k (seizes_answered ts d a))
  where
    other : (b : Bool) → is_some (if b then Some t else seizure_of ts d) ≡ true → is_some (if b then Some (answered a t) else seizure_of ts d) ≡ true
    other true k = refl
    other false k = k

    by_test : (b : Bool) → is_some (if b then Some t else seizure_of ts d) ≡ true → (is_some (seizure_of ts d) ≡ true → is_some (seizure_of (after_answer ts a) d) ≡ true)
        → is_some (if b then Some t else seizure_of (after_answer ts a) d) ≡ true
    by_test true k next = refl
    by_test false k next = next k
