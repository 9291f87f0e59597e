-- Each call on an attempt leaves valid in the record what the own Promise of its coordinator shows.
use Rattle.std.specs.Prelude.{ℕ, ◌≡◌, true}
use Rattle.std.proofs.Common.{sym, subst, ◌∙◌}
use Rattle.attempt_laws.proofs.Stays.{plan_stays}
use Rattle.cmm_attempt.specs.Attempts.{AttemptState}
use Rattle.cmm_attempt.specs.Calls.{Call, IsReached, May, turn}
use Rattle.cmm_attempt.specs.Promises.{has_promised, holds_valid}
use Rattle.cmm_attempt.specs.declared.plan.Plan.{Plan}
use Rattle.refinement.proofs.Attempts.{reached_more}
use Rattle.run_outcomes.proofs.onward.Asked.{HoldsOwn}
use Rattle.run_outcomes.proofs.own_shown.Calls.{Same, called_counts, called_same}
use Rattle.run_outcomes.proofs.phases.Own.{HasOwn}

-- The attempt is one that calls lead to, its coordinator's own Promise is there, and what it shows as valid is in the record.
abbrev pub RecordSo : ℕ → AttemptState → Type 0
RecordSo valid a = IsReached a × (HasOwn a × HoldsOwn a valid)

pub called_so : (valid : ℕ) (a : AttemptState) (k : Call) → May a k → RecordSo valid a → RecordSo valid (turn a k).after
called_so valid a k may h =
    let plan : (turn a k).after.plan ≡ a.plan = plan_stays a k may in
    let same : Same a.plan.coordinator a (turn a k).after.promises = called_same a.plan.coordinator a k may h.1.0 in (
      reached_more a k may h.0,
      (
        subst (λ (p : Plan). has_promised (turn a k).after.promises p.coordinator ≡ true) (sym plan) same.promised,
        λ d range counts shows.
            h.1.1 d range (called_counts a k d may counts) (sym (same.shown d) ∙ subst (λ (p : Plan). holds_valid (turn a k).after.promises d p.coordinator ≡ true) plan shows),
      ),
    )
