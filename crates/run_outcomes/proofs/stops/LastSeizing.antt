-- With the answer that ends the last of its own seizings a coordinator has no task left.
use Rattle.std.specs.Prelude.{ℕ, ◌≡◌, ◌==◌, ◌&&◌, not, Bool, true, false, List, [], ◌∷◌, filter, map, Option, None, Some, is_none, is_some, if◌then◌else◌}
use Rattle.std.proofs.Common.{refl, sym, ap, ◌∙◌, inl, inr}
use Rattle.cl_base.specs.Seizings.{SeizeResult}
use Rattle.cmm_attempt.proofs.Basics.{and_cases, false_true}
use Rattle.cmm_attempt.specs.Seizings.{all_settled, is_asked, with_result}
use Rattle.cmm_attempt.specs.declared.promised.Promised.{Promised}
use Rattle.cmm_attempt.specs.declared.seizing.Seizing.{Seizing}
use Rattle.device_queue.specs.Tasks.{is_over_in, is_queued, result_in}
use Rattle.device_queue.specs.declared.task.Task.{Task}
use Rattle.device_queue.specs.declared.task.Work.{Work}
use Rattle.device_queue.specs.declared.task.Work.TheVariants.{Joining, Seizing as Seizes}
use Rattle.run_outcomes.specs.tasks.Laws.{IsUnregistered}
use Rattle.run_outcomes.specs.tasks.Own.{IsOwn, IsOwnBut, Match}
use Rattle.run_outcomes.proofs.own_tasks.Matching.{else_so, then_so}

-- ---- one task

result_off : (w : Work) → is_some (result_in w) ≡ true → not (is_over_in w) ≡ false
result_off (Seizes s) is = ap not is
result_off (Joining j) is = absurd (false_true is)

unregistered_some : (o : Option SeizeResult) → IsUnregistered o → is_some o ≡ true
unregistered_some None h = absurd h
unregistered_some (Some r) h = refl

own_some : (c : ℕ) (e : Seizing) (t : Task) → IsOwn c e t → is_some e.result ≡ true → is_some (result_in t.work) ≡ true
own_some c e t own some = by_test (is_asked e.seizer c) refl
  where
    by_test : (b : Bool) → is_asked e.seizer c ≡ b → is_some (result_in t.work) ≡ true
    by_test true is = ap (λ (o : Option SeizeResult). is_some o) (then_so _ _ (is_asked e.seizer c) is own.result) ∙ some
    by_test false is = unregistered_some (result_in t.work) (else_so _ _ (is_asked e.seizer c) is own.result)

-- the entry of another device keeps its result
kept_some : (d : ℕ) (r : SeizeResult) (e : Seizing) → (e.attached.device == d) ≡ false → is_some (with_result d r e).result ≡ true → is_some e.result ≡ true
kept_some d r e other some =
    sym (ap (λ b. is_some (if b && is_none e.result then record e { result = Some r } else e).result) other) ∙ some

task_off : (c d : ℕ) (r : SeizeResult) (e : Seizing) (t : Task) → IsOwnBut c d r e t → is_some (with_result d r e).result ≡ true → is_queued t ≡ false
task_off c d r e t (inl ending) some = result_off t.work (ap (λ (o : Option SeizeResult). is_some o) ending.result)
task_off c d r e t (inr own) some = result_off t.work (own_some c e t own.0 (kept_some d r e own.1 some))

-- ---- all of them

pub none_queued : (c d : ℕ) (r : SeizeResult) (promises : List Promised) (es : List Seizing) (ts : List Task) → Match (IsOwnBut c d r) c promises es ts → all_settled (map (with_result d r) es) ≡ true
    → filter is_queued ts ≡ []
none_queued c d r promises [] ts h all = ap (filter is_queued) h
none_queued c d r promises (e ∷ es) ts (inl h) all =
    none_queued c d r promises es ts h.1 (and_cases (is_some (with_result d r e).result) (all_settled (map (with_result d r) es)) all).1
none_queued c d r promises (e ∷ es) (t ∷ ts) (inr h) all =
    let two : (is_some (with_result d r e).result ≡ true) × (all_settled (map (with_result d r) es) ≡ true) = and_cases (is_some (with_result d r e).result) (all_settled (map (with_result d r) es)) all in
    ap (λ b. if b then t ∷ filter is_queued ts else filter is_queued ts) (task_off c d r e t h.0 two.0) ∙ none_queued c d r promises es ts h.1 two.1
none_queued c d r promises (e ∷ es) [] (inr h) all = absurd h
