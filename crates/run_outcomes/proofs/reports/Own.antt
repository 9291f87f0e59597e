-- A node whose session is of another's attempt has no task of its own, and its queue is told.
use Rattle.std.specs.Prelude.{ℕ, ◌≡◌, ◌==◌, ◌&&◌, ◌||◌, not, Bool, true, false, if◌then◌else◌, List, [], ◌∷◌, Option, None, Some, is_some}
use Rattle.std.proofs.Common.{refl, ap, sym, subst, ◌∙◌}
use Rattle.cmm_attempt.proofs.Basics.{and_cases, false_true, none_some, same_number, same_some}
use Rattle.history.specs.Letters.{Letter}
use Rattle.history.specs.Member.{attempt_of, in_collect, member_of, number_of, session_of}
use Rattle.history.specs.Messages.{are_same, is_in_session}
use Rattle.history.specs.Moment.{Moment}
use Rattle.history.specs.Queue.{clears, is_untold, queue_is_open}
use Rattle.history.specs.Seizing.{is_number}
use Rattle.history.specs.Setting.{Setting, coordinator}
use Rattle.history.specs.Trace.{attempt, down, saved, up}

-- ---- the coordinator

pub number_so : (e : ℕ) (o : Option ℕ) → is_number e o ≡ true → o ≡ Some e
number_so e None is = absurd (false_true is)
number_so e (Some f) is = ap Some (same_number f e is)

-- the last attempt of a node is one that it coordinates
pub attempt_own : (n e : ℕ) (ms : List Moment) → attempt_of n ms ≡ Some e → (coordinator e == n) ≡ true
attempt_own n e [] is = absurd (none_some e is)
attempt_own n e (attempt f members ∷ ms) is = by_test (coordinator f == n) refl is (λ at. attempt_own n e ms at)
  where
    by_test : (b : Bool) → (coordinator f == n) ≡ b → (if b then Some f else attempt_of n ms) ≡ Some e → (attempt_of n ms ≡ Some e → (coordinator e == n) ≡ true) → (coordinator e == n) ≡ true
    by_test true own at earlier = subst (λ k. (coordinator k == n) ≡ true) (same_some f e at) own
    by_test false own at earlier = earlier at
attempt_own n e (x ∷ ms) is = attempt_own n e ms is

-- ---- where tasks are open

-- n coordinates this
abbrev IsOwn : ℕ → Option ℕ → Type 0
IsOwn n None = ⊥
IsOwn n (Some e) = (coordinator e == n) ≡ true

or_cases : (a b : Bool) → (a || b) ≡ true → (a ≡ false → b ≡ true)
or_cases true b h = λ no. absurd (false_true (sym no))
or_cases false b h = λ no. h

untold_own : (S : Setting) (n : ℕ) (ms : List Moment) (o : Option ℕ) → attempt_of n ms ≡ o → is_untold S n o ms ≡ true → IsOwn n (session_of n ms)
untold_own S n ms None at is = absurd (false_true is)
untold_own S n ms (Some e) at is =
    subst (IsOwn n) (sym (number_so e (session_of n ms) (and_cases (is_number e (session_of n ms)) _ (and_cases _ _ is).0).0)) (attempt_own n e ms at)

if_same : (b : Bool) (x y : Option ℕ) → b ≡ false → (if b then x else y) ≡ y
if_same true x y is = absurd (false_true (sym is))
if_same false x y is = refl

session_stays : (n : ℕ) (x : Moment) (ms : List Moment) → clears n ms x ≡ false → session_of n (x ∷ ms) ≡ session_of n ms
session_stays n (up m) ms is = if_same (m == n) None (session_of n ms) is
session_stays n (down m why) ms is = if_same (m == n) None (session_of n ms) is
session_stays n (attempt e members) ms is = if_same (coordinator e == n) (Some e) (session_of n ms) is
session_stays n (saved m) ms is = if_same ((m == n) && in_collect n ms) _ (session_of n ms) is
session_stays n _ ms is = refl

not_false : (b : Bool) → not b ≡ true → b ≡ false
not_false true h = absurd (false_true h)
not_false false h = refl

open_own : (S : Setting) (n : ℕ) (ms : List Moment) → queue_is_open S n ms ≡ true → IsOwn n (session_of n ms)
open_own S n [] is = absurd (false_true is)
open_own S n (x ∷ ms) is = by_test (is_untold S n (attempt_of n (x ∷ ms)) (x ∷ ms)) refl (λ at. open_own S n ms at)
  where
    by_test : (b : Bool) → is_untold S n (attempt_of n (x ∷ ms)) (x ∷ ms) ≡ b → (queue_is_open S n ms ≡ true → IsOwn n (session_of n ms)) → IsOwn n (session_of n (x ∷ ms))
    by_test true here earlier = untold_own S n (x ∷ ms) (attempt_of n (x ∷ ms)) refl here
    by_test false here earlier =
        let k : (queue_is_open S n ms ≡ true) × (not (clears n ms x) ≡ true) =
        and_cases (queue_is_open S n ms) (not (clears n ms x)) (or_cases (is_untold S n (attempt_of n (x ∷ ms)) (x ∷ ms)) _ is here) in
        subst (IsOwn n) (sym (session_stays n x ms (not_false (clears n ms x) k.1))) (earlier k.0)

pub shut : (S : Setting) (n e : ℕ) (ms : List Moment) → session_of n ms ≡ Some e → (coordinator e == n) ≡ false → queue_is_open S n ms ≡ false
shut S n e ms is other = by_test (queue_is_open S n ms) refl
  where
    by_test : (b : Bool) → queue_is_open S n ms ≡ b → queue_is_open S n ms ≡ false
    by_test true at = absurd (false_true (sym other ∙ subst (IsOwn n) is (open_own S n ms at)))
    by_test false at = at

-- ---- a letter of the session

pub record InSession (n : ℕ) (l : Letter) (ms : List Moment) : Type 0 where
  pub epoch : ℕ
  pub session : session_of n ms ≡ Some epoch
  pub number : number_of l ≡ Some epoch
  pub none : member_of n ms ≡ None

no_member : (o : Option ℕ) → not (is_some o) ≡ true → o ≡ None
no_member None is = refl
no_member (Some e) is = absurd (false_true is)

pub in_session : (n : ℕ) (l : Letter) (ms : List Moment) → is_in_session n l ms ≡ true → InSession n l ms
in_session n l ms is =
    let k : (are_same (session_of n ms) (number_of l) ≡ true) × (not (is_some (member_of n ms)) ≡ true) = and_cases (are_same (session_of n ms) (number_of l)) (not (is_some (member_of n ms))) is in
    by_session (session_of n ms) refl k.0 (no_member (member_of n ms) k.1)
  where
    by_session : (o : Option ℕ) → session_of n ms ≡ o → are_same o (number_of l) ≡ true → member_of n ms ≡ None → InSession n l ms
    by_session None at same none = absurd (false_true same)
    by_session (Some e) at same none = record { epoch = e; session = at; number = number_so e (number_of l) same; none = none }
