-- An attempt that installs, or is over, stays so; it installs once, before it did.
use Rattle.std.specs.Prelude.{ℕ, ◌≡◌, ◌≤◌, Bool, true, false, List, Some}
use Rattle.std.proofs.Common.{refl, sym, ap, subst, ◌∙◌, arith}
use Rattle.attempt_laws.proofs.Goes.{chosen_reached, goes_by_call}
use Rattle.attempt_laws.proofs.Steady.{Steady, call_keeps}
use Rattle.attempt_laws.specs.Staying.{IsBefore}
use Rattle.cmm_attempt.proofs.Basics.{false_true}
use Rattle.cmm_attempt.specs.Attempts.{AttemptState}
use Rattle.cmm_attempt.specs.Calls.{Call, IsReached, May, installs_in, turn}
use Rattle.cmm_attempt.specs.declared.phase.Phase.{Phase}
use Rattle.cmm_attempt.specs.declared.phase.Phase.TheVariants.{Choosing, Collecting, Installing, Over, SeizingOthers, SeizingVotes}
use Rattle.device_queue.specs.declared.task.Task.{Task}
use Rattle.wire.specs.declared.message.Install.{Install}
use Rattle.run_lines.specs.few.Counts.{is_before, left_in}
use Rattle.run_lines.proofs.few.Left.{closed_left}

abbrev Closed : AttemptState → Type 0
Closed s = is_before s.phase ≡ false

-- it is in a phase that is before
clash : {X : Type 0} (phase is : Phase) → phase ≡ is → is_before is ≡ true → is_before phase ≡ false → X
clash phase is same h shut = absurd (false_true (sym shut ∙ (ap is_before same ∙ h)))

closed_steady : (c : Call) → Steady c Closed Closed
closed_steady c = record {
  within = λ s i. i;
  ticked = λ s i. i;
  over = λ s k. refl;
  promise = λ s from m p is awaited of promised i. i;
  collecting = λ s is e k. k;
  no_newest = λ s is all none k. k;
  chosen = λ s newest is all some k. clash s.phase Collecting is refl k;
  votes = λ s both is i. clash s.phase Choosing is refl i;
  entries = λ s is k. k;
  result = λ s d from r is tells i. i;
  next = λ s d n e kind r is found i. i;
  seizing = λ s is e k. k;
  counted = λ s is h k. k;
  others = λ s is ne k. clash s.phase SeizingVotes is refl k;
  installs = λ s is k. refl;
  ready = λ s from m is at of ready_body i. i;
  own = λ s is at i. i;
  installing = λ s at e k. k;
}

-- where it is before the install after a call, it was so before
pub before_back : (s : AttemptState) (c : Call) → May s c → is_before (turn s c).after.phase ≡ true → is_before s.phase ≡ true
before_back s c may now = by_test (is_before s.phase) refl
  where
    by_test : (b : Bool) → is_before s.phase ≡ b → b ≡ true
    by_test true e = refl
    by_test false e = absurd (false_true (sym (call_keeps Closed Closed s c (closed_steady c) may e) ∙ now))

before_is : (phase : Phase) → IsBefore phase → is_before phase ≡ true
before_is Collecting h = refl
before_is Choosing h = refl
before_is SeizingVotes h = refl
before_is SeizingOthers h = refl
before_is Installing h = absurd h
before_is Over h = absurd h

pub is_before_so : (phase : Phase) → IsBefore phase → is_before phase ≡ true
is_before_so phase h = before_is phase h

-- at its install
pub installs_now : (s : AttemptState) (c : Call) (i : Install) → IsReached s → May s c → installs_in (turn s c).steps ≡ Some i → (is_before s.phase ≡ true) × (is_before (turn s c).after.phase ≡ false)
installs_now s c i reached may gives =
    (before_is s.phase ((goes_by_call s c may (chosen_reached s reached)).before i gives), ap is_before ((goes_by_call s c may (chosen_reached s reached)).install i gives).0)

-- what may be begun yet counts
pub fewer_left : (word : ℕ → ℕ) (ts : List Task) (now was : Bool) → (now ≡ true → was ≡ true) → left_in word now ts ≤ left_in word was ts
fewer_left word ts false was h = closed_left word ts was
fewer_left word ts true was h = subst (λ b. left_in word true ts ≤ left_in word b ts) (sym (h refl)) (omega arith)
