-- An own task that an answer ends tells how it ended, and the tasks that come behind it leave that.
use Rattle.std.specs.Prelude.{ℕ, ◌≡◌, ◌==◌, ◌&&◌, ◌++◌, Bool, true, false, List, [], ◌∷◌, None, Some, is_none, if◌then◌else◌}
use Rattle.std.specs.List.{find}
use Rattle.std.specs.Option.{option_and_then}
use Rattle.std.proofs.Common.{refl, ap, ◌∙◌, inl, inr}
use Rattle.attempt_laws.proofs.Walk.{TellsResult}
use Rattle.cl_base.specs.Seizings.{SeizeResult}
use Rattle.cmm_attempt.specs.Attempts.{AttemptState}
use Rattle.cmm_attempt.specs.Seizings.{awaits, is_asked}
use Rattle.cmm_attempt.specs.declared.promised.Promised.{Promised}
use Rattle.cmm_attempt.specs.declared.seizing.Seizing.{Seizing}
use Rattle.device_queue.specs.Queue.{after_answer, progress_after}
use Rattle.device_queue.specs.Tasks.{result_in}
use Rattle.device_queue.specs.declared.progress.Progress.{Progress}
use Rattle.device_queue.specs.declared.progress.Progress.TheVariants.{GoesOn, Joined, Seized}
use Rattle.device_queue.specs.declared.task.Task.{Task}
use Rattle.seize.specs.Answers.{Answer}
use Rattle.run_outcomes.specs.phases.Laws.{is_seizing}
use Rattle.run_outcomes.specs.tasks.Laws.{own_result}
use Rattle.run_outcomes.specs.tasks.Own.{IsOrdered, IsOwn, IsOwnBut, Match, Owns}
use Rattle.run_outcomes.proofs.own_tasks.Moving.{ends_awaited, moved_ends}
use Rattle.run_outcomes.proofs.onward.Devices.{call_by}
use Rattle.run_outcomes.proofs.told_tasks.Quiet.{off_first, off_second}

-- an entry that is not awaited is passed by
later_awaited : (c d : ℕ) (e : Seizing) (es : List Seizing) → awaits d c e ≡ false → (find (awaits d c) (e ∷ es) ≡ None → ⊥) → find (awaits d c) es ≡ None → ⊥
later_awaited c d e es off some none = some (ap (λ b. if b then Some e else find (awaits d c) es) off ∙ none)

result_at : (d : ℕ) (t : Task) (ts : List Task) (b : Bool) → (t.device == d) ≡ b → own_result d (t ∷ ts) ≡ option_and_then (λ (u : Task). result_in u.work) (if b then Some t else find (λ (u : Task). u.device == d) ts)
result_at d t ts b is = ap (λ z. option_and_then (λ (u : Task). result_in u.work) (if z then Some t else find (λ (u : Task). u.device == d) ts)) is

-- the first task of the device is the one that has ended
ended_result : (c d : ℕ) (promises : List Promised) (r : SeizeResult) (es : List Seizing) (ts new : List Task) → (find (awaits d c) es ≡ None → ⊥) → Match (IsOwnBut c d r) c promises es ts → own_result d (ts ++ new) ≡ Some r
ended_result c d promises r [] ts new some h = absurd (some refl)
ended_result c d promises r (e ∷ es) ts new some (inl h) =
    ended_result c d promises r es ts new (later_awaited c d e es (off_second ((e.attached.device == d) && is_none e.result) (is_asked e.seizer c) h.0.seizer) some) h.1
ended_result c d promises r (e ∷ es) (t ∷ ts) new some (inr h) = by_task (λ awaited. ended_result c d promises r es ts new awaited h.1) h.0
  where
    by_task : ((find (awaits d c) es ≡ None → ⊥) → own_result d (ts ++ new) ≡ Some r) → IsOwnBut c d r e t → own_result d (t ∷ (ts ++ new)) ≡ Some r
    by_task rest (inl k) = result_at d t (ts ++ new) true (ap (λ j. j == d) k.device ∙ k.of) ∙ k.result
    by_task rest (inr k) =
        result_at d t (ts ++ new) false (ap (λ j. j == d) k.0.device ∙ k.1)
        ∙ rest (later_awaited c d e es (off_first ((e.attached.device == d) && is_none e.result) (is_asked e.seizer c) (off_first (e.attached.device == d) (is_none e.result) k.1)) some)
ended_result c d promises r (e ∷ es) [] new some (inr h) = absurd h

-- what an answer tells the attempt of its coordinator's own task
pub own_ended : (n : ℕ) (ts new : List Task) (s : AttemptState) (a : Answer) → IsOrdered n s → Owns n ts s → is_seizing s.phase ≡ true → (d k : ℕ) (r : SeizeResult)
    → TellsResult (call_by (progress_after ts a)) s d k r → own_result d (after_answer ts a ++ new) ≡ Some r
own_ended n ts new s a ok owns is d k r tells = by_progress (progress_after ts a) refl tells
  where
    c : ℕ
    c = s.plan.coordinator

    by_progress : (p : Progress) → progress_after ts a ≡ p → TellsResult (call_by p) s d k r → own_result d (after_answer ts a ++ new) ≡ Some r
    by_progress GoesOn at h = absurd h
    by_progress (Joined e q) at h = absurd h
    by_progress (Seized e q) at h =
        let ended : progress_after ts a ≡ Seized d r = at ∙ (ap (λ j. Seized j q) h.0 ∙ ap (λ z. Seized d z) h.1) in
        let match : Match (IsOwn c) c s.promises s.devices ts = owns.seizes is ok in
        ended_result c d s.promises r s.devices (after_answer ts a) new (ends_awaited c s.promises s.devices ts a d r match ended) (moved_ends c s.promises s.devices ts a d r ok.apart match ended)
