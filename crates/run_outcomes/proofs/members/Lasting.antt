-- An open queue lasts while its node is no member: until it is one, or its tasks are dropped.
use Rattle.std.specs.Prelude.{ℕ, ◌≡◌, ◌==◌, ◌&&◌, ◌||◌, ◌⊎◌, not, Bool, true, false, List, [], ◌∷◌, Option, None, Some, is_some, if◌then◌else◌}
use Rattle.std.proofs.Common.{refl, sym, ap, ◌∙◌, inl, inr}
use Rattle.cmm_attempt.proofs.Basics.{and_cases, false_true, or_cases}
use Rattle.history.specs.Member.{attempt_of, in_collect, member_of}
use Rattle.history.specs.Moment.{Moment}
use Rattle.history.specs.Queue.{clears, is_untold, queue_is_open}
use Rattle.history.specs.Setting.{Setting, coordinator}
use Rattle.history.specs.Trace.{attempt, down, ended_excluded, ended_foreign, ended_votes, installed, member, saved, up}
use Rattle.run_history.proofs.ContactStays.{or_left}
use Rattle.run_outcomes.specs.tasks.Lasting.{drops, lasts_open}

-- what drops the tasks clears the queue, and else it is cleared where the node is a member from then on
abbrev ClearsSo : ℕ → List Moment → Moment → Type 0
ClearsSo n before x = (clears n before x ≡ true) → (drops n before x ≡ true) ⊎ (is_some (member_of n (x ∷ before)) ≡ true)

if_so : {X : Type 0} (b : Bool) (x y : X) → b ≡ true → (if b then x else y) ≡ x
if_so true x y h = refl
if_so false x y h = absurd (false_true h)

clears_so : (n : ℕ) (before : List Moment) (x : Moment) → ClearsSo n before x
clears_so n before (member m e) is = inr (ap (λ o. is_some o) (if_so (m == n) (Some e) (member_of n before) is))
clears_so n before (up m) is = inl is
clears_so n before (down m why) is = inl is
clears_so n before (saved m) is = inl is
clears_so n before (attempt e members) is = inl is
clears_so n before (ended_votes e have need lacking) is = inl is
clears_so n before (ended_excluded e m) is = inl is
clears_so n before (ended_foreign e m) is = inl is
clears_so n before (installed m e) is = inl is
clears_so n before _ is = absurd (false_true is)

-- a member stays one, unless its tasks are dropped
abbrev StaysSo : ℕ → List Moment → Moment → Type 0
StaysSo n before x = is_some (member_of n before) ≡ true → drops n before x ≡ false → is_some (member_of n (x ∷ before)) ≡ true

unless_so : (b : Bool) (o : Option ℕ) → is_some o ≡ true → b ≡ false → is_some (if b then None else o) ≡ true
unless_so true o k none = absurd (false_true (sym none))
unless_so false o k none = k

stays_so : (n : ℕ) (before : List Moment) (x : Moment) → StaysSo n before x
stays_so n before (member m e) k none = by_test (m == n)
  where
    by_test : (b : Bool) → is_some (if b then Some e else member_of n before) ≡ true
    by_test true = refl
    by_test false = k
stays_so n before (up m) k none = unless_so (m == n) (member_of n before) k none
stays_so n before (down m why) k none = unless_so (m == n) (member_of n before) k none
stays_so n before (saved m) k none = unless_so ((m == n) && in_collect n before) (member_of n before) k none
stays_so n before (attempt e members) k none = unless_so (coordinator e == n) (member_of n before) k none
stays_so n before _ k none = k

last_so : (a b c : Bool) → b ≡ true → c ≡ false → (a || (b && not c)) ≡ true
last_so true b c h k = refl
last_so false true c h k = ap not k
last_so false false c h k = absurd (false_true h)

not_so : (b : Bool) → not b ≡ true → b ≡ false
not_so true h = absurd (false_true h)
not_so false h = refl

pub lasting_or_member : (S : Setting) (n : ℕ) (ms : List Moment) → lasts_open S n ms ≡ true → (queue_is_open S n ms ≡ true) ⊎ (is_some (member_of n ms) ≡ true)
lasting_or_member S n [] lasts = absurd (false_true lasts)
lasting_or_member S n (x ∷ before) lasts = by_cases (λ k. lasting_or_member S n before k) (or_cases untold (lasts_open S n before && not (drops n before x)) lasts)
  where
    untold : Bool
    untold = is_untold S n (attempt_of n (x ∷ before)) (x ∷ before)

    by_clears : (b : Bool) → clears n before x ≡ b → queue_is_open S n before ≡ true → drops n before x ≡ false → (queue_is_open S n (x ∷ before) ≡ true) ⊎ (is_some (member_of n (x ∷ before)) ≡ true)
    by_clears true is shut none = by_one (clears_so n before x is)
      where
        by_one : (drops n before x ≡ true) ⊎ (is_some (member_of n (x ∷ before)) ≡ true) → (queue_is_open S n (x ∷ before) ≡ true) ⊎ (is_some (member_of n (x ∷ before)) ≡ true)
        by_one (inl dropped) = absurd (false_true (sym none ∙ dropped))
        by_one (inr is_one) = inr is_one
    by_clears false is shut none = inl (last_so untold (queue_is_open S n before) (clears n before x) shut is)

    by_before : (queue_is_open S n before ≡ true) ⊎ (is_some (member_of n before) ≡ true) → drops n before x ≡ false → (queue_is_open S n (x ∷ before) ≡ true) ⊎ (is_some (member_of n (x ∷ before)) ≡ true)
    by_before (inl is) none = by_clears (clears n before x) refl is none
    by_before (inr is) none = inr (stays_so n before x is none)

    by_cases : (lasts_open S n before ≡ true → (queue_is_open S n before ≡ true) ⊎ (is_some (member_of n before) ≡ true)) → (untold ≡ true) ⊎ ((lasts_open S n before && not (drops n before x)) ≡ true) → (queue_is_open S n (x ∷ before) ≡ true) ⊎ (is_some (member_of n (x ∷ before)) ≡ true)
    by_cases rest (inl is) = inl (or_left untold (queue_is_open S n before && not (clears n before x)) is)
    by_cases rest (inr is) =
        let two : (lasts_open S n before ≡ true) × (not (drops n before x) ≡ true) = and_cases (lasts_open S n before) (not (drops n before x)) is in
        by_before (rest two.0) (not_so (drops n before x) two.1)
