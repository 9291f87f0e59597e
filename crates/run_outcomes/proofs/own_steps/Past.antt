-- An attempt that seizes devices does not ask for its votes again, and in a tick it asks its coordinator for no device.
use Rattle.std.specs.Prelude.{ℕ, ◌≡◌, ◌==◌, nat_le, Bool, true, false, List, [], ◌∷◌, Option, None, Some, if◌then◌else◌}
use Rattle.std.specs.List.{AllByRecursion, cons_option, filter_map, find}
use Rattle.std.proofs.Common.{refl, subst, inl, inr}
use Rattle.attempt_laws.proofs.Stays.{past_stays, votes_stay}
use Rattle.attempt_laws.specs.Staying.{IsPast}
use Rattle.cl_base.specs.Seizings.{SeizeResult}
use Rattle.cmm_attempt.proofs.Basics.{false_true, if_either}
use Rattle.cmm_attempt.specs.Attempts.{AttemptState, Turn, again_in, install_in, is_missing, is_over, later, silenced, silent_others, ticked, ticking, waits, with_steps}
use Rattle.cmm_attempt.specs.Calls.{Call, May, Tick, turn}
use Rattle.cmm_attempt.specs.Installs.{send_collect, send_install}
use Rattle.cmm_attempt.specs.Seizings.{again_by, again_for, request_body}
use Rattle.cmm_attempt.specs.declared.phase.Phase.{Phase}
use Rattle.cmm_attempt.specs.declared.phase.Phase.TheVariants.{Choosing, Collecting, Installing, Over, SeizingOthers, SeizingVotes}
use Rattle.cmm_attempt.specs.declared.plan.Plan.{Plan}
use Rattle.cmm_attempt.specs.declared.seizing.Seizing.{Seizing}
use Rattle.cmm_attempt.specs.declared.step.Step.{Step}
use Rattle.cmm_attempt.specs.declared.step.Step.TheVariants.{SeizeHere, Send}
use Rattle.device_queue.specs.declared.task.Task.{Task}
use Rattle.node_model.specs.Attempts.{is_choosing}
use Rattle.node_model.specs.declared.cluster.Cluster.{Cluster}
use Rattle.run_history.proofs.Lists.{mapped}
use Rattle.run_history.specs.Guards.{IsStep}
use Rattle.seize.specs.declared.kind.SeizeKind.{SeizeKind}
use Rattle.run_outcomes.specs.phases.Laws.{is_seizing}
use Rattle.run_outcomes.specs.tasks.Onward.{IsBegun}

-- ---- past its votes

past_so : (p : Phase) → is_seizing p ≡ true → IsPast p
past_so SeizingVotes is = tt
past_so SeizingOthers is = tt
past_so Collecting is = absurd (false_true is)
past_so Choosing is = absurd (false_true is)
past_so Installing is = absurd (false_true is)
past_so Over is = absurd (false_true is)

pub past_chooses_not : (p : Phase) → IsPast p → is_choosing p ≡ false
past_chooses_not SeizingVotes past = refl
past_chooses_not SeizingOthers past = refl
past_chooses_not Installing past = refl
past_chooses_not Over past = refl
past_chooses_not Collecting past = absurd past
past_chooses_not Choosing past = absurd past

abbrev pub IsResting : AttemptState → Type 0
IsResting a = is_choosing a.phase ≡ false

pub seizing_chooses_not : (a : AttemptState) (k : Call) → May a k → is_seizing a.phase ≡ true → is_choosing (turn a k).after.phase ≡ false
seizing_chooses_not a k may is = past_chooses_not (turn a k).after.phase (past_stays a k may (past_so a.phase is))

pub seizing_votes_stay : (a : AttemptState) (k : Call) → May a k → is_seizing a.phase ≡ true → (turn a k).after.votes ≡ a.votes
seizing_votes_stay a k may is = votes_stay a k may (past_so a.phase is)

-- ---- a tick

-- a step that asks the coordinator for no device
abbrev IsOut : Step → Type 0
IsOut (SeizeHere d kind) = ⊥
IsOut _ = Unit {0}

again_one : (plan : Plan) (e : Seizing) (r : Option SeizeResult) (o : Option ℕ) (rest : List Step) → AllByRecursion IsOut rest → AllByRecursion IsOut (cons_option (again_by plan e r o) rest)
again_one plan e (Some r) o rest h = h
again_one plan e None None rest h = h
again_one plan e None (Some m) rest h = by_test (m == plan.coordinator)
  where
    by_test : (b : Bool)
        → AllByRecursion IsOut (cons_option (if b then None else Some (if b then SeizeHere e.attached.device e.kind else Send m (record { sender = plan.coordinator; body = request_body plan e.kind e.attached.device }))) rest)
    by_test true = h
    by_test false = (tt, h)

again_each : (plan : Plan) (es : List Seizing) → AllByRecursion IsOut (filter_map (again_for plan) es)
again_each plan [] = tt
again_each plan (e ∷ es) = again_one plan e e.result e.seizer (filter_map (again_for plan) es) (again_each plan es)

again_out : (s : AttemptState) (p : Phase) → AllByRecursion IsOut (again_in s p)
again_out s Collecting = mapped IsOut (send_collect s.plan) (silent_others s) (λ m. tt)
again_out s Choosing = tt
again_out s SeizingVotes = again_each s.plan s.devices
again_out s SeizingOthers = again_each s.plan s.devices
again_out s Installing = mapped IsOut (send_install s.plan (install_in s)) (silent_others s) (λ m. tt)
again_out s Over = tt

silenced_out : (s : AttemptState) (o : Option ℕ) → AllByRecursion IsOut (silenced s o).steps
silenced_out s None = tt
silenced_out s (Some m) = (tt, tt)

ticking_out : (s : AttemptState) → AllByRecursion IsOut (ticking s).steps
unfolding ticking
ticking_out s =
    let t : AttemptState = record s { ticks = later s.ticks } in
    if_either (λ (u : Turn). AllByRecursion IsOut u.steps) (is_over s.phase) (waits s) (ticked t) tt
    (if_either (λ (u : Turn). AllByRecursion IsOut u.steps) (nat_le 8 t.ticks) (silenced t (find (is_missing t) t.plan.nodes)) _ (silenced_out t (find (is_missing t) t.plan.nodes))
    (if_either (λ (u : Turn). AllByRecursion IsOut u.steps) (t.ticks == 4) (with_steps t (again_in t t.phase)) (waits t) (again_out t t.phase) tt))

none_among : (d : ℕ) (kind : SeizeKind) (steps : List Step) → AllByRecursion IsOut steps → IsStep (SeizeHere d kind) steps → ⊥
none_among d kind [] out is = is
none_among d kind (s ∷ steps) out (inl same) = subst IsOut same out.0
none_among d kind (s ∷ steps) out (inr later) = none_among d kind steps out.1 later

pub tick_begins_none : (c : Cluster) (n valid : ℕ) (a : AttemptState) (ts : List Task) → AllByRecursion (IsBegun c n valid a Tick) ts → ts ≡ []
tick_begins_none c n valid a [] h = refl
tick_begins_none c n valid a (t ∷ ts) h = absurd (none_among t.device h.0.kind (turn a Tick).steps (ticking_out a) h.0.step)
