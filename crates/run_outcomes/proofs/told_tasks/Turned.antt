-- As far as the attempt is with its quorum devices, the lines show it; and so the coordinator's tasks are those of `history`.
use Rattle.std.specs.Prelude.{ℕ, ◌≡◌, ◌≢◌, ◌⊎◌, ◌==◌, ◌||◌, Bool, true, false, if◌then◌else◌, List, [], ◌∷◌, ◌++◌, Option, None, Some}
use Rattle.std.specs.List.{find, list_any}
use Rattle.std.specs.Option.{option_and_then}
use Rattle.std.proofs.Common.{refl, sym, ap, subst, ◌∙◌, arith, inl, inr}
use Rattle.cl_base.specs.Keys.{key_of}
use Rattle.cl_base.specs.Sets.{has}
use Rattle.cl_base.specs.declared.seizing.SeizeEnd.TheVariants.{NotRegistered}
use Rattle.cmm_attempt.proofs.Basics.{false_true, none_some, same_number}
use Rattle.cmm_attempt.specs.Seizings.{may_seize}
use Rattle.cmm_attempt.specs.declared.plan.Plan.{Plan}
use Rattle.cmm_attempt.specs.declared.promised.Promised.{Promised}
use Rattle.cmm_attempt.specs.declared.seizing.Seizing.{Seizing}
use Rattle.device_queue.specs.Tasks.{result_in}
use Rattle.device_queue.specs.declared.task.Task.{Task}
use Rattle.device_queue.specs.declared.task.Work.{Work}
use Rattle.device_queue.specs.declared.task.Work.TheVariants.{Joining, Seizing as Seizing_of}
use Rattle.seize.specs.Seizing as seizing
use Rattle.seize.specs.Seizing.{SeizeState}
use Rattle.history.specs.Moment.{Moment}
use Rattle.history.specs.Queue as told
use Rattle.run_devices.specs.queues.Laws.{Same, SameWork}
use Rattle.run_outcomes.specs.tasks.Entries.{LedBy, VoteSo}
use Rattle.run_outcomes.specs.tasks.Laws.{but, own_result}
use Rattle.run_outcomes.specs.tasks.OwnTasks.{AskedAs, IsShown, LastIs, was_asked}
use Rattle.run_outcomes.proofs.told_tasks.Added.{among}

-- ---- how far one entry is

-- who was asked last is the one whose answer it has, or waits for; how the coordinator's own seizing ended is told by its task
pub record Stands (plan : Plan) (l : LedBy plan) (tasks : List Task) (ms : List Moment) (e : Seizing) : Type 0 where
  pub last : told.asked_last plan.epoch e.attached.device ms ≡ but plan.coordinator e.seizer
  pub other : (m : ℕ) → e.seizer ≡ Some m → m ≢ plan.coordinator → told.seized_by plan.epoch e.attached.device m ms ≡ e.result
  pub own : e.seizer ≡ Some plan.coordinator → own_result e.attached.device tasks ≡ e.result
  pub asked : AskedAs plan l e ms

-- nobody was asked before
pub record Begins (plan : Plan) (tasks : List Task) (ms : List Moment) (e : Seizing) : Type 0 where
  pub last : told.asked_last plan.epoch e.attached.device ms ≡ None
  pub waits : (m : ℕ) → e.seizer ≡ Some m → e.result ≡ None
  pub own : e.seizer ≡ Some plan.coordinator → own_result e.attached.device tasks ≡ e.result
  pub only : (m : ℕ) → e.seizer ≡ Some m → m ≢ plan.coordinator → has e.asked plan.coordinator ≡ false

-- another member is asked, since who was asked last was not registered
pub record Goes_on (plan : Plan) (promises : List Promised) (l : LedBy plan) (tasks : List Task) (ms : List Moment) (e : Seizing) : Type 0 where
  pub before : ℕ
  pub next : ℕ
  pub keys : List ℕ
  pub among_others : list_any (λ k. k == next) l.others ≡ true
  pub may : may_seize promises e.attached next ≡ true
  pub shown : list_any (λ key. key == key_of plan.cluster next) keys ≡ true
  pub unasked : was_asked plan.epoch e.attached.device next ms ≡ false
  pub waits : e.result ≡ None
  pub last : told.asked_last plan.epoch e.attached.device ms ≡ but plan.coordinator (Some before)
  pub other : before ≢ plan.coordinator → told.seized_by plan.epoch e.attached.device before ms ≡ Some (NotRegistered keys)
  pub own : before ≡ plan.coordinator → (own_result e.attached.device tasks ≡ Some (NotRegistered keys)) × (has e.asked plan.coordinator ≡ true)

abbrev pub IsTurned : (plan : Plan) → List Promised → LedBy plan → List Task → List Moment → Seizing → Type 0
IsTurned plan promises l tasks ms e = Stands plan l tasks ms e ⊎ (Begins plan tasks ms e ⊎ Goes_on plan promises l tasks ms e)

-- ---- numbers

itself : (n : ℕ) → (n == n) ≡ true
itself n = grind arith

differs : (m n : ℕ) → m ≢ n → (m == n) ≡ false
differs m n ne = grind arith

pub same_or : (m n : ℕ) → (m ≡ n) ⊎ (m ≢ n)
same_or m n = by_test (m == n) refl
  where
    unlike : (m == n) ≡ false → m ≢ n
    unlike k is = false_true (sym k ∙ grind arith)

    by_test : (b : Bool) → (m == n) ≡ b → (m ≡ n) ⊎ (m ≢ n)
    by_test true is = inl (same_number m n is)
    by_test false is = inr (unlike is)

but_other : (c m : ℕ) → m ≢ c → but c (Some m) ≡ Some m
but_other c m ne = ap (λ b. if b then None else Some m) (differs m c ne)

but_own : (c m : ℕ) → m ≡ c → but c (Some m) ≡ None
but_own c m is = ap (λ b. if b then None else Some m) (subst (λ z. (m == z) ≡ true) is (itself m))

-- a member that is not the coordinator is one of the others
pub other_so : (plan : Plan) (l : LedBy plan) (m : ℕ) → list_any (λ k. k == m) plan.nodes ≡ true → m ≢ plan.coordinator → list_any (λ k. k == m) l.others ≡ true
other_so plan l m among ne =
    subst (λ b. (b || list_any (λ k. k == m) l.others) ≡ true) (differs plan.coordinator m (λ is. ne (sym is))) (sym (ap (list_any (λ k. k == m)) l.nodes) ∙ among)

-- ---- results of tasks

same_ended : (w : Work) (u : told.Work) → SameWork w u → result_in w ≡ told.result_in u
same_ended (Seizing_of s) (told.Seizes q) k = ap (λ (z : SeizeState). seizing.result_of z) k.0
same_ended (Joining j) (told.Joins i) k = refl
same_ended (Seizing_of s) (told.Joins i) k = absurd k
same_ended (Joining j) (told.Seizes q) k = absurd k

pub same_result : (d : ℕ) (ts : List Task) (us : List told.Task) → Same ts us → own_result d ts ≡ told.result_of d us
same_result d [] [] k = refl
same_result d (t ∷ ts) (u ∷ us) k = subst (λ z. own_result d (t ∷ ts) ≡ option_and_then (λ (y : told.Task). told.result_in y.work) (if z == d then Some u else find (λ (y : told.Task). y.device == d) us)) k.0.0 (by_test (t.device == d) (same_result d ts us k.1))
  where
    by_test : (b : Bool) → own_result d ts ≡ told.result_of d us
        → option_and_then (λ (y : Task). result_in y.work) (if b then Some t else find (λ (y : Task). y.device == d) ts)
        ≡ option_and_then (λ (y : told.Task). told.result_in y.work) (if b then Some u else find (λ (y : told.Task). y.device == d) us)
    by_test true rest = same_ended t.work u.work k.0.1
    by_test false rest = rest
same_result d [] (u ∷ us) k = absurd k
same_result d (t ∷ ts) [] k = absurd k

pub first_result : (d : ℕ) (us vs : List told.Task) → told.has_task d us ≡ true → told.result_of d (us ++ vs) ≡ told.result_of d us
first_result d [] vs has = absurd (false_true has)
first_result d (u ∷ us) vs has = by_test (u.device == d) (λ k. first_result d us vs k) has
  where
    by_test : (b : Bool) → (told.has_task d us ≡ true → told.result_of d (us ++ vs) ≡ told.result_of d us) → (b || told.has_task d us) ≡ true
        → option_and_then (λ (y : told.Task). told.result_in y.work) (if b then Some u else find (λ (y : told.Task). y.device == d) (us ++ vs))
        ≡ option_and_then (λ (y : told.Task). told.result_in y.work) (if b then Some u else find (λ (y : told.Task). y.device == d) us)
    by_test true rest k = refl
    by_test false rest k = rest k

-- ---- from what is turned, what is shown

first_fails : (p : Plan) (q : LedBy p) (test : ℕ → Bool) → find test p.nodes ≡ None → test p.coordinator ≡ false
first_fails p q test none = by_test (test p.coordinator) (sym (ap (find test) q.nodes) ∙ none)
  where
    by_test : (b : Bool) → (if b then Some p.coordinator else find test q.others) ≡ None → b ≡ false
    by_test true z = absurd (none_some p.coordinator (sym z))
    by_test false z = refl

pub shown_of : (plan : Plan) (promises : List Promised) (l : LedBy plan) (tasks : List Task) (quorum : List told.Task) (ms : List Moment) (e : Seizing) → VoteSo plan promises e
    → told.has_task e.attached.device quorum ≡ has e.asked plan.coordinator
    → (has e.asked plan.coordinator ≡ true → told.result_of e.attached.device quorum ≡ own_result e.attached.device tasks)
    → IsTurned plan promises l tasks ms e → IsShown plan promises l quorum ms e
shown_of plan promises l tasks quorum ms e so task result (inl k) = by_seizer e.seizer refl
  where
    c : ℕ
    c = plan.coordinator

    by_seizer : (o : Option ℕ) → e.seizer ≡ o → IsShown plan promises l quorum ms e
    by_seizer None is =
        inl (record { none = is; last = k.last ∙ ap (but c) is; no_task = task ∙ unasked })
      where
        unasked : has e.asked c ≡ false
        unasked = so.own ∙ first_fails plan l (may_seize promises e.attached) (so.nobody is).0
    by_seizer (Some m) is = by_own (same_or m c)
      where
        by_own : (m ≡ c) ⊎ (m ≢ c) → IsShown plan promises l quorum ms e
        by_own (inl own) =
            let at : e.seizer ≡ Some c = is ∙ ap Some own in
            let asks : has e.asked c ≡ true = (so.asks c at).2 in
            inr (inr (inr (inl (record {
              last = k.last ∙ (ap (but c) is ∙ but_own c m own);
              has_task = task ∙ asks;
              answer = result asks ∙ k.own at;
              asked = k.asked;
            }))))
        by_own (inr ne) = inr (inr (inl (record { seizer = m; last = k.last ∙ (ap (but c) is ∙ but_other c m ne); answer = k.other m is ne; asked = k.asked })))
shown_of plan promises l tasks quorum ms e so task result (inr (inl k)) = by_seizer e.seizer refl
  where
    c : ℕ
    c = plan.coordinator

    by_seizer : (o : Option ℕ) → e.seizer ≡ o → IsShown plan promises l quorum ms e
    by_seizer None is =
        inl (record { none = is; last = k.last; no_task = task ∙ unasked })
      where
        unasked : has e.asked c ≡ false
        unasked = so.own ∙ first_fails plan l (may_seize promises e.attached) (so.nobody is).0
    by_seizer (Some m) is = by_asked (has e.asked c) refl
      where
        by_asked : (b : Bool) → has e.asked c ≡ b → IsShown plan promises l quorum ms e
        by_asked true asks = inr (inr (inr (inl (record {
          last = k.last;
          has_task = task ∙ asks;
          answer = result asks ∙ ended asks;
          asked = λ keys at. absurd (none_some (NotRegistered keys) (sym (k.waits m is) ∙ at));
        }))))
          where
            ended : has e.asked c ≡ true → own_result e.attached.device tasks ≡ e.result
            ended it = by_own (same_or m c)
              where
                by_own : (m ≡ c) ⊎ (m ≢ c) → own_result e.attached.device tasks ≡ e.result
                by_own (inl own) = k.own (is ∙ ap Some own)
                by_own (inr ne) = absurd (false_true (sym (k.only m is ne) ∙ it))
        by_asked false off = inr (inl (record {
          seizer = m;
          other = other_so plan l m (so.asks m is).0 (λ own. false_true (sym off ∙ subst (λ z. has e.asked z ≡ true) own (so.asks m is).2));
          may = (so.asks m is).1;
          waits = k.waits m is;
          last = k.last;
          no_task = task ∙ off;
        }))
shown_of plan promises l tasks quorum ms e so task result (inr (inr k)) = inr (inr (inr (inr (record {
  next = k.next;
  keys = k.keys;
  other = k.among_others;
  may = k.may;
  shown = k.shown;
  unasked = k.unasked;
  waits = k.waits;
  last = by_own (same_or k.before plan.coordinator);
}))))
  where
    by_own : (k.before ≡ plan.coordinator) ⊎ (k.before ≢ plan.coordinator) → LastIs plan e quorum ms k.keys
    by_own (inl own) =
        let two : (own_result e.attached.device tasks ≡ Some (NotRegistered k.keys)) × (has e.asked plan.coordinator ≡ true) = k.own own in
        inr (k.last ∙ but_own plan.coordinator k.before own, task ∙ two.1, result two.1 ∙ two.0)
    by_own (inr ne) = inl (k.before, k.last ∙ but_other plan.coordinator k.before ne, k.other ne)
