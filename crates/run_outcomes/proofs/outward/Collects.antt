-- While an attempt lacks a Promise its coordinator has no task by the lines.
use Rattle.std.specs.Prelude.{ℕ, ◌==◌, ◌&&◌, ◌||◌, ◌≡◌, ◌++◌, not, Bool, true, false, List, [], ◌∷◌, Option, None, Some, if◌then◌else◌}
use Rattle.std.specs.List.{list_all, list_any}
use Rattle.std.proofs.Common.{refl, sym, ap, subst, ◌∙◌, arith}
use Rattle.cmm_attempt.proofs.Basics.{and_cases, false_true, none_some, same_number, same_some}
use Rattle.history.specs.Contact.{others}
use Rattle.history.specs.Letters.{Letter, letter_of}
use Rattle.history.specs.Member.{attempt_of, in_collect, members_of, number_of, promised_to, session_of}
use Rattle.history.specs.Moment.{Moment}
use Rattle.history.specs.Names as name
use Rattle.history.specs.Names.{Name}
use Rattle.history.specs.Queue as told
use Rattle.history.specs.Queue.{is_write}
use Rattle.history.specs.Records.{promise_among, promises}
use Rattle.history.specs.Seizing.{acts_for, is_number}
use Rattle.history.specs.Setting.{Setting, coordinator}
use Rattle.history.specs.Trace.{up, down, saved, installed, attempt, ended_votes, ended_excluded, ended_foreign, delivered, device}
use Rattle.history.specs.UnderWay.{is_under_way}
use Rattle.history.specs.Validated.{moved_on}
use Rattle.run_outcomes.specs.tasks.Outward.{IsOutward, RequestsGoOut, is_request}
use Rattle.run_outcomes.proofs.outward.Addressed.{AreAddressed}
use Rattle.run_commands.proofs.acknowledged.Askings.{letter_is}
use Rattle.run_outcomes.proofs.told_tasks.Quiet.{if_off}

-- ---- a request of the coordinator's own attempt

-- the last attempt of a node is its own
pub own_attempt : (c e : ℕ) (ms : List Moment) → attempt_of c ms ≡ Some e → coordinator e ≡ c
own_attempt c e [] is = absurd (none_some e is)
own_attempt c e (attempt f members ∷ ms) is = by_test (λ later. own_attempt c e ms later) (coordinator f == c) refl is
  where
    by_test : (attempt_of c ms ≡ Some e → coordinator e ≡ c) → (b : Bool) → (coordinator f == c) ≡ b → (if b then Some f else attempt_of c ms) ≡ Some e → coordinator e ≡ c
    by_test rest true at same = ap coordinator (sym (same_some f e same)) ∙ same_number (coordinator f) c at
    by_test rest false at later = rest later
own_attempt c e (_ ∷ ms) is = own_attempt c e ms is

no_request : (S : Setting) (n e : ℕ) (m : Name) (ms : List Moment) (ts : List told.Task) → (is_request m ≡ true → ⊥) → told.sought S n e m ms ts ≡ ts
no_request S n e (name.SeizeQuorum d) ms ts none = absurd (none refl)
no_request S n e (name.SeizeData d) ms ts none = absurd (none refl)
no_request S n e _ ms ts none = refl

pub none_sought : (S : Setting) (n e p m : ℕ) (ms : List Moment) (ts : List told.Task) → m ≡ n → coordinator e ≡ n → session_of n ms ≡ Some e → RequestsGoOut ms
    → ((l : Letter) → letter_of p ms ≡ Some l → l.to ≡ m) → told.requested S n (letter_of p ms) ms ts ≡ ts
none_sought S n e p m ms ts here own session out to = by_letter (letter_of p ms) refl
  where
    by_number : (l : Letter) → letter_of p ms ≡ Some l → (o : Option ℕ) → number_of l ≡ o → told.requested_in S n o l ms ts ≡ ts
    by_number l at None is = refl
    by_number l at (Some f) is = by_acts (acts_for n f ms) refl
      where
        by_acts : (b : Bool) → acts_for n f ms ≡ b → (if b then told.sought S n f l.name ms ts else ts) ≡ ts
        by_acts false off = refl
        by_acts true acts = no_request S n f l.name ms ts (λ asks.
            let same : e ≡ f = same_number e f (ap (is_number f) (sym session) ∙ (and_cases (is_number f (session_of n ms)) _ acts).0) in
            letter_is IsOutward p l ms out at asks (to l at ∙ (here ∙ (sym own ∙ (ap coordinator same ∙ own_attempt l.from f l.before is)))))

    by_letter : (o : Option Letter) → letter_of p ms ≡ o → told.requested S n o ms ts ≡ ts
    by_letter None is = refl
    by_letter (Some l) is = by_number l is (number_of l) refl

-- ---- Promises

pub any_more : (p : Letter → Bool) (xs ys : List Letter) → list_any p ys ≡ true → list_any p (xs ++ ys) ≡ true
any_more p [] ys h = h
any_more p (x ∷ xs) ys h = by_test (p x) (any_more p xs ys h)
  where
    by_test : (b : Bool) → list_any p (xs ++ ys) ≡ true → (b || list_any p (xs ++ ys)) ≡ true
    by_test true k = refl
    by_test false k = k

pub all_more : (p q : ℕ → Bool) (xs : List ℕ) → ((k : ℕ) → p k ≡ true → q k ≡ true) → list_all q xs ≡ false → list_all p xs ≡ false
all_more p q [] f h = h
all_more p q (x ∷ xs) f h = by_test (p x) refl (all_more p q xs f)
  where
    by_test : (b : Bool) → p x ≡ b → (list_all q xs ≡ false → list_all p xs ≡ false) → (b && list_all p xs) ≡ false
    by_test false at rest = refl
    by_test true at rest = rest (sym (ap (λ t. t && list_all q xs) (f x at)) ∙ h)

-- one more that comes
lacks_before : (e p a m : ℕ) (ms : List Moment) → told.all_promised e (delivered p a m ∷ ms) ≡ false → told.all_promised e ms ≡ false
lacks_before e p a m ms h =
    all_more (told.has_promised e ms) (told.has_promised e (delivered p a m ∷ ms)) (others e (members_of e ms))
    (λ k. any_more (λ (l : Letter). l.from == k) (promise_among e (letter_of p ms)) (promises e ms)) h

-- so nothing of its own is added
none_added : (S : Setting) (n e : ℕ) (ms : List Moment) (ts : List told.Task) (o : Option ℕ) → o ≡ Some e → told.all_promised e ms ≡ false → told.with_own S n o ms ts ≡ ts
none_added S n e ms ts o is lacks = ap (λ z. told.with_own S n z ms ts) is ∙ if_off (acts_for n e ms && is_under_way e ms && told.all_promised e ms) (told.own_tasks S n e (told.newest_in_hand e ms) ms ts) ts
    (off (acts_for n e ms) (is_under_way e ms) (told.all_promised e ms) lacks)
  where
    off : (a b c : Bool) → c ≡ false → (a && b && c) ≡ false
    off true true c h = h
    off true false c h = refl
    off false b c h = refl

-- ---- the tasks

pub record Lacks (n e : ℕ) (ms : List Moment) : Type 0 where
  pub own : coordinator e ≡ n
  pub last : attempt_of n ms ≡ Some e
  pub lacks : told.all_promised e ms ≡ false
  pub moved : moved_on n ms ≡ true
  pub session : session_of n ms ≡ Some e

none_if : (b : Bool) (ts : List told.Task) → ts ≡ [] → (if b then [] else ts) ≡ []
none_if true ts h = refl
none_if false ts h = h

pub none_collected : (S : Setting) (n e : ℕ) (ms : List Moment) → Lacks n e ms → RequestsGoOut ms → AreAddressed ms → told.tasks_of S n ms ≡ []
none_collected S n e [] k out to = refl
none_collected S n e (up m ∷ ms) k out to =
    by_test (m == n) refl
    (λ at. none_collected S n e ms (record { own = k.own; last = k.last; lacks = k.lacks; moved = k.moved; session = sym (if_off (m == n) None (session_of n ms) at) ∙ k.session }) out.1 to.1)
  where
    by_test : (b : Bool) → (m == n) ≡ b → ((m == n) ≡ false → told.tasks_of S n ms ≡ []) → (if b then [] else told.tasks_of S n ms) ≡ []
    by_test true at rest = refl
    by_test false at rest = rest at
none_collected S n e (down m why ∷ ms) k out to =
    by_test (m == n) refl
    (λ at. none_collected S n e ms (record { own = k.own; last = k.last; lacks = k.lacks; moved = k.moved; session = sym (if_off (m == n) None (session_of n ms) at) ∙ k.session }) out.1 to.1)
  where
    by_test : (b : Bool) → (m == n) ≡ b → ((m == n) ≡ false → told.tasks_of S n ms ≡ []) → (if b then [] else told.tasks_of S n ms) ≡ []
    by_test true at rest = refl
    by_test false at rest = rest at
none_collected S n e (saved m ∷ ms) k out to =
    by_test ((m == n) && in_collect n ms) refl
    (λ at. none_collected S n e ms (record {
      own = k.own;
      last = k.last;
      lacks = k.lacks;
      moved = sym (ap (λ b. b || moved_on n ms) at) ∙ k.moved;
      session = sym (if_off ((m == n) && in_collect n ms) (promised_to ms) (session_of n ms) at) ∙ k.session;
    }) out.1 to.1)
  where
    by_test : (b : Bool) → ((m == n) && in_collect n ms) ≡ b → (((m == n) && in_collect n ms) ≡ false → told.tasks_of S n ms ≡ []) → (if b then [] else told.tasks_of S n ms) ≡ []
    by_test true at rest = refl
    by_test false at rest = rest at
none_collected S n e (installed m f ∷ ms) k out to =
    by_test (m == n) refl
    (λ at. none_collected S n e ms (record { own = k.own; last = k.last; lacks = k.lacks; moved = sym (if_off (m == n) false (moved_on n ms) at) ∙ k.moved; session = k.session }) out.1 to.1)
  where
    by_test : (b : Bool) → (m == n) ≡ b → ((m == n) ≡ false → told.tasks_of S n ms ≡ []) → (if b then told.joinings S n f ms else told.tasks_of S n ms) ≡ []
    by_test true at rest = absurd (false_true (sym (ap (λ b. if b then false else moved_on n ms) at) ∙ k.moved))
    by_test false at rest = rest at
none_collected S n e (attempt f members ∷ ms) k out to =
    by_test (coordinator f == n) refl
    (λ at. none_collected S n e ms (record {
      own = k.own;
      last = sym (if_off (coordinator f == n) (Some f) (attempt_of n ms) at) ∙ k.last;
      lacks = other (f == e) refl at;
      moved = sym (ap (λ b. b || moved_on n ms) at) ∙ k.moved;
      session = sym (if_off (coordinator f == n) (Some f) (session_of n ms) at) ∙ k.session;
    }) out.1 to.1)
  where
    here : List Moment
    here = attempt f members ∷ ms

    itself : (j : ℕ) → (j == j) ≡ true
    itself j = grind arith

    other : (b : Bool) → (f == e) ≡ b → (coordinator f == n) ≡ false → told.all_promised e ms ≡ false
    other true is at = absurd (false_true (sym at ∙ (ap (λ j. j == n) (ap coordinator (same_number f e is) ∙ k.own) ∙ itself n)))
    other false is at =
        subst (λ b. list_all (λ j. list_any (λ (l : Letter). l.from == j) (if b then [] else promises e ms)) (others e (if b then members else members_of e ms)) ≡ false) is k.lacks

    by_test : (b : Bool) → (coordinator f == n) ≡ b → ((coordinator f == n) ≡ false → told.tasks_of S n ms ≡ []) → (if b then told.with_own S n (Some f) here [] else told.tasks_of S n ms) ≡ []
    by_test true at rest = none_added S n e here [] (Some f) (sym (ap (λ b. if b then Some f else attempt_of n ms) at) ∙ k.last) k.lacks
    by_test false at rest = rest at
none_collected S n e (ended_votes f have need lacking ∷ ms) k out to =
    none_if (coordinator f == n) (told.tasks_of S n ms) (none_collected S n e ms (record { own = k.own; last = k.last; lacks = k.lacks; moved = k.moved; session = k.session }) out.1 to.1)
none_collected S n e (ended_excluded f m ∷ ms) k out to =
    none_if (coordinator f == n) (told.tasks_of S n ms) (none_collected S n e ms (record { own = k.own; last = k.last; lacks = k.lacks; moved = k.moved; session = k.session }) out.1 to.1)
none_collected S n e (ended_foreign f m ∷ ms) k out to =
    none_if (coordinator f == n) (told.tasks_of S n ms) (none_collected S n e ms (record { own = k.own; last = k.last; lacks = k.lacks; moved = k.moved; session = k.session }) out.1 to.1)
none_collected S n e (delivered p a m ∷ ms) k out to =
    by_test (m == n) refl (none_collected S n e ms (record { own = k.own; last = k.last; lacks = lacks_before e p a m ms k.lacks; moved = k.moved; session = k.session }) out.1 to.1)
  where
    here : List Moment
    here = delivered p a m ∷ ms

    by_test : (b : Bool) → (m == n) ≡ b → told.tasks_of S n ms ≡ []
        → (if b then told.with_own S n (attempt_of n ms) here (told.requested S n (letter_of p ms) ms (told.tasks_of S n ms)) else told.tasks_of S n ms) ≡ []
    by_test true at before =
        none_added S n e here (told.requested S n (letter_of p ms) ms (told.tasks_of S n ms)) (attempt_of n ms) k.last k.lacks
        ∙ (none_sought S n e p m ms (told.tasks_of S n ms) (same_number m n at) k.own k.session out.1 to.0 ∙ before)
    by_test false at before = before
none_collected S n e (device m d done reply ∷ ms) k out to =
    by_test ((m == n) && not (is_write done)) (none_collected S n e ms (record { own = k.own; last = k.last; lacks = k.lacks; moved = k.moved; session = k.session }) out.1 to.1)
  where
    here : List Moment
    here = device m d done reply ∷ ms

    by_test : (b : Bool) → told.tasks_of S n ms ≡ [] → (if b then told.with_own S n (attempt_of n ms) here (told.moved (told.answer_told reply) (told.tasks_of S n ms)) else told.tasks_of S n ms) ≡ []
    by_test true before = none_added S n e here (told.moved (told.answer_told reply) (told.tasks_of S n ms)) (attempt_of n ms) k.last k.lacks ∙ ap (told.moved (told.answer_told reply)) before
    by_test false before = before
none_collected S n e (_ ∷ ms) k out to = none_collected S n e ms (record { own = k.own; last = k.last; lacks = k.lacks; moved = k.moved; session = k.session }) out.1 to.1
