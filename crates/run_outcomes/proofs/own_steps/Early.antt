-- An attempt that a call leaves waiting for votes had asked nobody before.
use Rattle.std.specs.Prelude.{◌≡◌, true, []}
use Rattle.std.proofs.Common.{refl, sym, subst, ◌∙◌, inl, inr}
use Rattle.attempt_laws.proofs.Stays.{past_stays}
use Rattle.attempt_laws.proofs.Steady.{Steady, reached_keeps}
use Rattle.attempt_laws.proofs.Walk.{IsSeizing}
use Rattle.attempt_laws.specs.Staying.{IsPast}
use Rattle.cmm_attempt.proofs.Basics.{false_true}
use Rattle.cmm_attempt.specs.Attempts.{AttemptState}
use Rattle.cmm_attempt.specs.Calls.{Call, IsReached, May, turn}
use Rattle.cmm_attempt.specs.declared.phase.Phase.{Phase}
use Rattle.cmm_attempt.specs.declared.phase.Phase.TheVariants.{Choosing, Collecting, Installing, Over, SeizingOthers, SeizingVotes}
use Rattle.node_model.specs.Attempts.{is_choosing}
use Rattle.run_outcomes.specs.tasks.Own.{IsEarly}
use Rattle.run_outcomes.proofs.own_steps.Past.{past_chooses_not}

-- ---- it was early before

pub early_before : (a : AttemptState) (k : Call) → May a k → is_choosing (turn a k).after.phase ≡ true → IsEarly a.phase
early_before a k may chooses = by_phase a.phase refl
  where
    past_not : {X : Type 0} → IsPast a.phase → X
    past_not past = absurd (false_true (sym (past_chooses_not (turn a k).after.phase (past_stays a k may past)) ∙ chooses))

    by_phase : (p : Phase) → a.phase ≡ p → IsEarly p
    by_phase Collecting is = tt
    by_phase Choosing is = tt
    by_phase SeizingVotes is = past_not (subst IsPast (sym is) tt)
    by_phase SeizingOthers is = past_not (subst IsPast (sym is) tt)
    by_phase Installing is = past_not (subst IsPast (sym is) tt)
    by_phase Over is = past_not (subst IsPast (sym is) tt)

-- ---- while it is, it has no entries

abbrev IsBare : AttemptState → Type 0
IsBare s = IsEarly s.phase → s.devices ≡ []

seizing_not : {X : Type 0} (p : Phase) → IsSeizing p → IsEarly p → X
seizing_not p (inl is) early = absurd (subst IsEarly is early)
seizing_not p (inr is) early = absurd (subst IsEarly is early)

bare_steady : (c : Call) → Steady c IsBare IsBare
bare_steady c = record {
  within = λ s i. i;
  ticked = λ s i. i;
  over = λ s k early. absurd early;
  promise = λ s from m p is awaited of promised i. i;
  collecting = λ s is all k. k;
  no_newest = λ s is all none k. k;
  chosen = λ s newest is all some k early. k (subst IsEarly (sym is) tt);
  votes = λ s both is i early. refl;
  entries = λ s is k early. absurd (subst IsEarly is early);
  result = λ s d from r is tells i early. seizing_not s.phase is early;
  next = λ s d m x kind r is found i early. seizing_not s.phase is early;
  seizing = λ s is all k. k;
  counted = λ s is h k. k;
  others = λ s is ne k early. absurd early;
  installs = λ s is k early. absurd early;
  ready = λ s from m is at of ready_body i. i;
  own = λ s is at i. i;
  installing = λ s is h k. k;
}

pub early_bare : (a : AttemptState) → IsReached a → IsEarly a.phase → a.devices ≡ []
early_bare a r = reached_keeps IsBare IsBare bare_steady a r (λ early. refl)
