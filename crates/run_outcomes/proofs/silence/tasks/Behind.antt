-- Behind quiet lines a queue is told where it was told before them, and behind any lines of a step whose attempt goes on, no Promise is lost.
use Rattle.std.specs.Prelude.{ℕ, ◌==◌, ◌&&◌, ◌||◌, ◌≡◌, ◌++◌, not, Bool, true, false, List, [], ◌∷◌, Some, is_some, length}
use Rattle.std.specs.List.{list_all, list_any}
use Rattle.std.proofs.Common.{refl, sym, ap, ◌∙◌}
use Rattle.cl_base.specs.Sets.{has}
use Rattle.cmm_attempt.proofs.Basics.{and_cases, false_true}
use Rattle.history.specs.Contact.{others}
use Rattle.history.specs.Letters.{Letter, arriving}
use Rattle.history.specs.Member.{attempt_of, members_of, session_of}
use Rattle.history.specs.Moment.{Moment}
use Rattle.history.specs.Queue as told
use Rattle.history.specs.Records.{own_record, promise_among, promises}
use Rattle.history.specs.Seizing.{acts_for, is_attempt, is_number}
use Rattle.history.specs.Setting.{Setting, all_to, coordinator, paths_of}
use Rattle.history.specs.Trace.{attempt}
use Rattle.history.specs.UnderWay.{is_under_way}
use Rattle.history.specs.Validated.{validity}
use Rattle.run_lines.proofs.Adds.{onto}
use Rattle.run_outcomes.specs.tasks.Lasting.{drops, lasts_open}
use Rattle.run_outcomes.specs.tasks.Quiet.{AreQuiet}
use Rattle.run_outcomes.proofs.outward.Collects.{all_more, any_more}
use Rattle.run_outcomes.proofs.told_tasks.Closed.{same_acts, same_validity, session_one, way_before_all}
use Rattle.run_outcomes.proofs.told_tasks.Points.{untold_off}
use Rattle.run_outcomes.proofs.told_tasks.Quiet.{if_off, same_number_of, same_record}

-- ---- whether the queue is told

same_session : (n : ℕ) (ms newer : List Moment) → AreQuiet n ms newer → session_of n (newer ++ ms) ≡ session_of n ms
same_session n ms [] k = refl
same_session n ms (x ∷ newer) k = session_one n (newer ++ ms) x k.0 ∙ same_session n ms newer k.1

any_same : (f g : ℕ → Bool) (xs : List ℕ) → ((k : ℕ) → f k ≡ g k) → list_any f xs ≡ list_any g xs
any_same f g [] same = refl
any_same f g (x ∷ xs) same = ap (λ b. b || list_any f xs) (same x) ∙ ap (λ b. g x || b) (any_same f g xs same)

all_three : (a b c : Bool) → a ≡ true → b ≡ true → c ≡ true → (a && b && c) ≡ true
all_three true true c h k l = l
all_three true false c h k l = absurd (false_true k)
all_three false b c h k l = absurd (false_true h)

untold_before : (S : Setting) (n e : ℕ) (ms newer : List Moment) → coordinator e ≡ n → AreQuiet n ms newer → told.is_untold S n (Some e) (newer ++ ms) ≡ true → told.is_untold S n (Some e) ms ≡ true
untold_before S n e ms newer own k h = all_three (is_number e (session_of n ms)) (is_under_way e ms) (why ms) (ap (is_number e) (sym (same_session n ms newer k)) ∙ one.0) (way_before_all n e ms newer own k one.1) (sym same ∙ two.1)
  where
    why : List Moment → Bool
    why zs = (acts_for n e zs && not (is_some (own_record e zs))) || list_any (λ d. has (paths_of S.header d) n && told.is_open (validity S.header n d zs)) (all_to (length S.header.devices))

    two : ((is_number e (session_of n (newer ++ ms)) && is_under_way e (newer ++ ms)) ≡ true) × (why (newer ++ ms) ≡ true)
    two = and_cases (is_number e (session_of n (newer ++ ms)) && is_under_way e (newer ++ ms)) (why (newer ++ ms)) h

    one : (is_number e (session_of n (newer ++ ms)) ≡ true) × (is_under_way e (newer ++ ms) ≡ true)
    one = and_cases (is_number e (session_of n (newer ++ ms))) (is_under_way e (newer ++ ms)) two.0

    valid : Bool
    valid = list_any (λ d. has (paths_of S.header d) n && told.is_open (validity S.header n d (newer ++ ms))) (all_to (length S.header.devices))

    same : why (newer ++ ms) ≡ why ms
    same =
        ap (λ b. (b && not (is_some (own_record e (newer ++ ms)))) || valid) (same_acts n e ms newer k)
        ∙ (ap (λ o. (acts_for n e ms && not (is_some o)) || valid) (same_record n e ms newer own k)
        ∙ ap (λ b. (acts_for n e ms && not (is_some (own_record e ms))) || b)
        (any_same (λ d. has (paths_of S.header d) n && told.is_open (validity S.header n d (newer ++ ms))) (λ d. has (paths_of S.header d) n && told.is_open (validity S.header n d ms)) (all_to (length S.header.devices))
        (λ d. ap (λ v. has (paths_of S.header d) n && told.is_open v) (same_validity S.header n d ms newer k))))

refuted : (b : Bool) → (b ≡ true → ⊥) → b ≡ false
refuted true f = absurd (f refl)
refuted false f = refl

pub stays_closed : (S : Setting) (n e : ℕ) (ms newer : List Moment) → coordinator e ≡ n → attempt_of n ms ≡ Some e → AreQuiet n ms newer → lasts_open S n ms ≡ false → lasts_open S n (newer ++ ms) ≡ false
stays_closed S n e ms [] own last k closed = closed
stays_closed S n e ms (y ∷ newer) own last k closed =
    ap (λ b. b || (lasts_open S n (newer ++ ms) && not (drops n (newer ++ ms) y))) untold ∙ ap (λ b. b && not (drops n (newer ++ ms) y)) (stays_closed S n e ms newer own last k.1 closed)
  where
    number : attempt_of n (y ∷ (newer ++ ms)) ≡ Some e
    number = same_number_of n ms (y ∷ newer) k ∙ last

    untold : told.is_untold S n (attempt_of n (y ∷ (newer ++ ms))) (y ∷ (newer ++ ms)) ≡ false
    untold =
        ap (λ o. told.is_untold S n o (y ∷ (newer ++ ms))) number
        ∙ refuted (told.is_untold S n (Some e) (y ∷ (newer ++ ms))) (λ is.
        false_true (sym (ap (λ o. told.is_untold S n o ms) (sym last) ∙ untold_off S n ms closed) ∙ untold_before S n e ms (y ∷ newer) own k is))

-- ---- Promises

members_before : (e : ℕ) (x : Moment) (ms : List Moment) → is_attempt e x ≡ false → members_of e (x ∷ ms) ≡ members_of e ms
members_before e (attempt f members) ms off = if_off (f == e) members (members_of e ms) off
members_before e _ ms off = refl

lacks_one : (e : ℕ) (x : Moment) (ms : List Moment) → is_attempt e x ≡ false → told.all_promised e (x ∷ ms) ≡ false → told.all_promised e ms ≡ false
lacks_one e x ms off h =
    all_more (told.has_promised e ms) (told.has_promised e (x ∷ ms)) (others e (members_of e ms))
    (λ k is.
    ap (list_any (λ (l : Letter). l.from == k)) (if_off (is_attempt e x) [] (promise_among e (arriving ms x) ++ promises e ms) off)
    ∙ any_more (λ (l : Letter). l.from == k) (promise_among e (arriving ms x)) (promises e ms) is)
    (ap (λ j. list_all (told.has_promised e (x ∷ ms)) (others e j)) (sym (members_before e x ms off)) ∙ h)

or_none : (a b : Bool) → (a || b) ≡ false → (a ≡ false) × (b ≡ false)
or_none true b h = absurd (false_true (sym h))
or_none false b h = (refl, h)

pub lacks_earlier : (e : ℕ) (xs ms : List Moment) → list_any (is_attempt e) xs ≡ false → told.all_promised e (onto xs ms) ≡ false → told.all_promised e ms ≡ false
lacks_earlier e [] ms none h = h
lacks_earlier e (x ∷ xs) ms none h =
    let two : (is_attempt e x ≡ false) × (list_any (is_attempt e) xs ≡ false) = or_none (is_attempt e x) (list_any (is_attempt e) xs) none in
    lacks_one e x ms two.0 (lacks_earlier e xs (x ∷ ms) two.1 h)
