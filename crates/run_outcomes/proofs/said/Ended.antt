-- How a seizing ended stays in the tasks of a node, and of each device one did.
use Rattle.std.specs.Prelude.{ℕ, ◌==◌, ◌≡◌, ◌&&◌, ◌++◌, not, Bool, true, false, List, [], ◌∷◌, Option, None, Some, find, is_some, if◌then◌else◌}
use Rattle.std.proofs.Common.{arith, refl, sym, ap, subst, ◌∙◌, inl, inr}
use Rattle.cl_base.specs.Seizings.{SeizeResult}
use Rattle.cmm_attempt.proofs.Basics.{false_true, none_some, same_number, same_some}
use Rattle.device_queue.specs.Queue.{after_answer, after_seize, put_unless, seizure_of}
use Rattle.device_queue.specs.Tasks.{answered, is_over_in, is_queued, is_seizing, is_seizure_of, result_in, work_answered}
use Rattle.device_queue.specs.declared.task.Task.{Task}
use Rattle.device_queue.specs.declared.task.Work.{Work}
use Rattle.device_queue.specs.declared.task.Work.TheVariants.{Joining as Joins, Seizing as Seizes}
use Rattle.run_history.specs.Guards.{HasEnded}
use Rattle.run_seizings.proofs.Progress.{if_not}
use Rattle.seize.specs.Answers.{Answer}
use Rattle.seize.specs.Seizing.{SeizeState}
use Rattle.run_outcomes.specs.tasks.Said.{AreSingle}

-- ---- it stays

more_ended : (ts us : List Task) (d : ℕ) (r : SeizeResult) → HasEnded ts d r → HasEnded (ts ++ us) d r
more_ended [] us d r k = absurd k
more_ended (t ∷ ts) us d r (inl here) = inl here
more_ended (t ∷ ts) us d r (inr later) = inr (more_ended ts us d r later)

put_ended : (o : Option Task) (new : Task) (ts : List Task) (d : ℕ) (r : SeizeResult) → HasEnded ts d r → HasEnded (put_unless o new ts) d r
put_ended None new ts d r k = more_ended ts (new ∷ []) d r k
put_ended (Some t) new ts d r k = k

pub seize_ended : (ts : List Task) (at : ℕ) (s : SeizeState) (d : ℕ) (r : SeizeResult) → HasEnded ts d r → HasEnded (after_seize ts at s) d r
seize_ended ts at s d r k = put_ended (seizure_of ts at) (record { device = at; work = Seizes s }) ts d r k

-- what has ended is not queued
not_queued : (w : Work) (r : SeizeResult) → result_in w ≡ Some r → not (is_over_in w) ≡ true → ⊥
not_queued (Seizes s) r is on = false_true (sym (ap (λ o. not (is_some o)) is) ∙ on)
not_queued (Joins j) r is on = none_some r is

pub answer_ended : (ts : List Task) (a : Answer) (d : ℕ) (r : SeizeResult) → HasEnded ts d r → HasEnded (after_answer ts a) d r
answer_ended [] a d r k = absurd k
answer_ended (t ∷ ts) a d r k = by_test (is_queued t) refl k (λ later. answer_ended ts a d r later)
  where
    by_test : (b : Bool) → is_queued t ≡ b → HasEnded (t ∷ ts) d r → (HasEnded ts d r → HasEnded (after_answer ts a) d r) → HasEnded (if b then answered a t ∷ ts else t ∷ after_answer ts a) d r
    by_test true is (inl here) rest = absurd (not_queued t.work r here.1 is)
    by_test true is (inr later) rest = inr later
    by_test false is (inl here) rest = inl here
    by_test false is (inr later) rest = inr (rest later)

-- ---- one of each device

ended_seizes : (w : Work) (r : SeizeResult) → result_in w ≡ Some r → is_seizing w ≡ true
ended_seizes (Seizes s) r is = refl
ended_seizes (Joins j) r is = absurd (none_some r is)

both : (a b : Bool) → a ≡ true → b ≡ true → (a && b) ≡ true
both true b h k = k
both false b h k = absurd (false_true h)

itself : (a b : ℕ) → a ≡ b → (a == b) ≡ true
itself a b e = grind arith

ended_found : (ts : List Task) (d : ℕ) (r : SeizeResult) → HasEnded ts d r → seizure_of ts d ≡ None → ⊥
ended_found [] d r k none = k
ended_found (t ∷ ts) d r k none = by_test (is_seizure_of d t) refl none k (λ later rest. ended_found ts d r later rest)
  where
    by_test : (b : Bool) → is_seizure_of d t ≡ b → (if b then Some t else find (is_seizure_of d) ts) ≡ None → HasEnded (t ∷ ts) d r → (HasEnded ts d r → seizure_of ts d ≡ None → ⊥) → ⊥
    by_test true is found k rest = none_some t (sym found)
    by_test false is found (inl here) rest = false_true (sym is ∙ both (t.device == d) (is_seizing t.work) (itself t.device d here.0) (ended_seizes t.work r here.1))
    by_test false is found (inr later) rest = rest later found

pub ended_once : (ts : List Task) (d : ℕ) (r q : SeizeResult) → AreSingle ts → HasEnded ts d r → HasEnded ts d q → r ≡ q
ended_once [] d r q single k l = absurd k
ended_once (t ∷ ts) d r q single (inl a) (inl b) = same_some r q (sym a.1 ∙ b.1)
ended_once (t ∷ ts) d r q single (inl a) (inr later) =
    absurd (ended_found ts d q later (subst (λ e. seizure_of ts e ≡ None) a.0 (single.0 (ended_seizes t.work r a.1))))
ended_once (t ∷ ts) d r q single (inr later) (inl b) =
    absurd (ended_found ts d r later (subst (λ e. seizure_of ts e ≡ None) b.0 (single.0 (ended_seizes t.work q b.1))))
ended_once (t ∷ ts) d r q single (inr k) (inr l) = ended_once ts d r q single.1 k l

-- ---- one more

found_last : (ts : List Task) (e : ℕ) (new : Task) → seizure_of ts e ≡ None → is_seizure_of e new ≡ false → seizure_of (ts ++ new ∷ []) e ≡ None
found_last [] e new none other = if_not (is_seizure_of e new) (Some new) None other
found_last (t ∷ ts) e new none other = by_test (is_seizure_of e t) refl none (λ rest. found_last ts e new rest other)
  where
    by_test : (b : Bool) → is_seizure_of e t ≡ b → (if b then Some t else find (is_seizure_of e) ts) ≡ None → (seizure_of ts e ≡ None → seizure_of (ts ++ new ∷ []) e ≡ None)
        → (if b then Some t else find (is_seizure_of e) (ts ++ new ∷ [])) ≡ None
    by_test true is found rest = absurd (none_some t (sym found))
    by_test false is found rest = rest found

last_single : (ts : List Task) (d : ℕ) (s : SeizeState) → seizure_of ts d ≡ None → AreSingle ts → AreSingle (ts ++ (record { device = d; work = Seizes s }) ∷ [])
last_single [] d s none k = ((λ is. refl), tt)
last_single (t ∷ ts) d s none k = by_test (is_seizure_of d t) refl none (λ rest. last_single ts d s rest k.1)
  where
    new : Task
    new = record { device = d; work = Seizes s }

    apart : is_seizure_of d t ≡ false → is_seizing t.work ≡ true → is_seizure_of t.device new ≡ false
    apart off is = by_value (d == t.device) refl
      where
        by_value : (b : Bool) → (d == t.device) ≡ b → (b && true) ≡ false
        by_value true same = absurd (false_true (sym off ∙ both (t.device == d) (is_seizing t.work) (itself t.device d (sym (same_number d t.device same))) is))
        by_value false other = refl

    by_test : (b : Bool) → is_seizure_of d t ≡ b → (if b then Some t else find (is_seizure_of d) ts) ≡ None → (seizure_of ts d ≡ None → AreSingle (ts ++ new ∷ []))
        → AreSingle ((t ∷ ts) ++ new ∷ [])
    by_test true is found rest = absurd (none_some t (sym found))
    by_test false off found rest = ((λ is. found_last ts t.device new (k.0 is) (apart off is)), rest found)

pub seize_single : (ts : List Task) (d : ℕ) (s : SeizeState) → AreSingle ts → AreSingle (after_seize ts d s)
seize_single ts d s k = by_found (seizure_of ts d) refl
  where
    by_found : (o : Option Task) → seizure_of ts d ≡ o → AreSingle (put_unless o (record { device = d; work = Seizes s }) ts)
    by_found None is = last_single ts d s is k
    by_found (Some t) is = k

-- ---- an answer

same_seizure : (a : Answer) (e : ℕ) (t : Task) → is_seizure_of e (answered a t) ≡ is_seizure_of e t
same_seizure a e t = by_work t.work
  where
    by_work : (w : Work) → ((t.device == e) && is_seizing (work_answered a w)) ≡ ((t.device == e) && is_seizing w)
    by_work (Seizes s) = refl
    by_work (Joins j) = refl

same_kind : (a : Answer) (w : Work) → is_seizing (work_answered a w) ≡ is_seizing w
same_kind a (Seizes s) = refl
same_kind a (Joins j) = refl

answer_found : (ts : List Task) (a : Answer) (e : ℕ) → seizure_of ts e ≡ None → seizure_of (after_answer ts a) e ≡ None
answer_found [] a e none = none
answer_found (t ∷ ts) a e none = by_test (is_seizure_of e t) refl none (is_queued t) (λ rest. answer_found ts a e rest)
  where
    by_test : (b : Bool) → is_seizure_of e t ≡ b → (if b then Some t else find (is_seizure_of e) ts) ≡ None → (z : Bool) → (seizure_of ts e ≡ None → seizure_of (after_answer ts a) e ≡ None)
        → seizure_of (if z then answered a t ∷ ts else t ∷ after_answer ts a) e ≡ None
    by_test true is found z rest = absurd (none_some t (sym found))
    by_test false off found true rest = if_not (is_seizure_of e (answered a t)) (Some (answered a t)) (find (is_seizure_of e) ts) (same_seizure a e t ∙ off) ∙ found
    by_test false off found false rest = if_not (is_seizure_of e t) (Some t) (find (is_seizure_of e) (after_answer ts a)) off ∙ rest found

pub answer_single : (ts : List Task) (a : Answer) → AreSingle ts → AreSingle (after_answer ts a)
answer_single [] a k = k
answer_single (t ∷ ts) a k = by_test (is_queued t) (answer_single ts a k.1)
  where
    by_test : (b : Bool) → AreSingle (after_answer ts a) → AreSingle (if b then answered a t ∷ ts else t ∷ after_answer ts a)
    by_test true rest = ((λ is. k.0 (sym (same_kind a t.work) ∙ is)), k.1)
    by_test false rest = ((λ is. answer_found ts a t.device (k.0 is)), rest)
