-- The command that is due, by the tasks that are told.
use Rattle.std.specs.Prelude.{ℕ, suc, ◌≡◌, nat_lt, not, Bool, true, false, List, [], ◌∷◌, filter, length, map, Option, None, Some, find, is_some, if◌then◌else◌}
use Rattle.std.specs.Option.{option_and_then, option_map}
use Rattle.std.proofs.Common.{refl, sym, ap, ◌∙◌, arith}
use Rattle.device_queue.specs.Queue.{first_of}
use Rattle.device_queue.specs.Tasks.{command_in, is_queued}
use Rattle.device_queue.specs.declared.task.Task.{Task}
use Rattle.device_queue.specs.declared.task.Work.{Work}
use Rattle.device_queue.specs.declared.task.Work.TheVariants.{Seizing, Joining}
use Rattle.pgr_device.specs.declared.command.PrCommand.{PrCommand}
use Rattle.seize.specs.Joining as joining
use Rattle.seize.specs.Joining.{JoinState}
use Rattle.seize.specs.Seizing as seizing
use Rattle.seize.specs.Seizing.{SeizeState}
use Rattle.seize.specs.declared.step.JoinStep.{JoinStep}
use Rattle.seize.specs.declared.step.JoinStep.TheVariants as join
use Rattle.seize.specs.declared.step.SeizeStep.{SeizeStep}
use Rattle.seize.specs.declared.step.SeizeStep.TheVariants as step
use Rattle.history.specs.Queue as told
use Rattle.run_seizings.proofs.Progress.{no_truth}
use Rattle.run_devices.specs.queues.Laws.{Same, SameWork}

-- ---- the command of a task

seize_command : (s : SeizeState) (v : Bool) (p : SeizeStep) → seizing.command_at (record s { valid = v }) p ≡ seizing.command_at s p
seize_command s v step.Check = refl
seize_command s v step.Register = refl
seize_command s v step.ReadWord = refl
seize_command s v (step.Swap expected) = refl
seize_command s v step.Reserve = refl
seize_command s v (step.ReadKeys reading) = refl
seize_command s v (step.Preempt victim reading) = refl
seize_command s v (step.Confirm keys) = refl
seize_command s v (step.Ended r) = refl

work_command : (w : Work) (u : told.Work) → SameWork w u → told.command_of u ≡ command_in w
work_command (Seizing s) (told.Seizes r) k = ap seizing.command_of (sym k.0) ∙ seize_command s r.valid s.step
work_command (Joining j) (told.Joins i) k = ap joining.command_of (sym k)
work_command (Seizing s) (told.Joins i) k = absurd k
work_command (Joining j) (told.Seizes r) k = absurd k

seize_has : (s : SeizeState) (p : SeizeStep) → not (is_some (seizing.result_at p)) ≡ true → is_some (seizing.command_at s p) ≡ true
seize_has s step.Check is = refl
seize_has s step.Register is = refl
seize_has s step.ReadWord is = refl
seize_has s (step.Swap expected) is = refl
seize_has s step.Reserve is = refl
seize_has s (step.ReadKeys reading) is = refl
seize_has s (step.Preempt victim reading) is = refl
seize_has s (step.Confirm keys) is = refl
seize_has s (step.Ended r) is = absurd (no_truth is)

join_has : (j : JoinState) (p : JoinStep) → not (is_some (joining.result_at p)) ≡ true → is_some (joining.command_at j p) ≡ true
join_has j join.Register is = refl
join_has j join.ReadWord is = refl
join_has j (join.Ended r) is = absurd (no_truth is)

-- a task that is queued has one
work_has : (w : Work) (d : ℕ) → is_queued (record { device = d; work = w }) ≡ true → is_some (command_in w) ≡ true
work_has (Seizing s) d is = seize_has s s.step is
work_has (Joining j) d is = join_has j j.step is

-- ---- the first task of the queue

abbrev first : List Task → Option Task
first [] = None
first (t ∷ ts) = Some t

first_found : (ts : List Task) → find is_queued ts ≡ first (filter is_queued ts)
first_found [] = refl
first_found (t ∷ ts) = by_test (is_queued t) (first_found ts)
  where
    by_test : (b : Bool) → find is_queued ts ≡ first (filter is_queued ts) → (if b then Some t else find is_queued ts) ≡ first (if b then t ∷ filter is_queued ts else filter is_queued ts)
    by_test true rest = refl
    by_test false rest = rest

abbrev AreQueued : List Task → Type 0
AreQueued [] = Unit {0}
AreQueued (t ∷ ts) = is_queued t ≡ true

queued_so : (ts : List Task) → AreQueued (filter is_queued ts)
queued_so [] = tt
queued_so (t ∷ ts) = by_test (is_queued t) refl (queued_so ts)
  where
    by_test : (b : Bool) → is_queued t ≡ b → AreQueued (filter is_queued ts) → AreQueued (if b then t ∷ filter is_queued ts else filter is_queued ts)
    by_test true is rest = is
    by_test false is rest = rest

-- ---- what is due

-- what is due with the first task
abbrev pub due_in : Option Task → Option (ℕ × PrCommand)
due_in o =
    option_and_then {U = ℕ × PrCommand} (λ e. option_and_then {U = ℕ × PrCommand} (λ (k : PrCommand). Some (e, k)) (option_and_then (λ (t : Task). command_in t.work) o))
    (option_map (λ (t : Task). t.device) o)

abbrev pub listed : Option (ℕ × PrCommand) → List (ℕ × PrCommand)
listed None = []
listed (Some due) = due ∷ []

due_with_so : (d : ℕ) (o : Option PrCommand) → told.due_with d o ≡ listed (option_and_then {U = ℕ × PrCommand} (λ (k : PrCommand). Some (d, k)) o)
due_with_so d None = refl
due_with_so d (Some k) = refl

due_of_first : (ts : List Task) (us : List told.Task) → Same ts us → told.due_of us ≡ listed (due_in (first ts))
due_of_first [] [] k = refl
due_of_first (t ∷ ts) (u ∷ us) k =
    ap (λ d. told.due_with d (told.command_of u.work)) (sym k.0.0) ∙ (ap (told.due_with t.device) (work_command t.work u.work k.0.1) ∙ due_with_so t.device (command_in t.work))
due_of_first [] (u ∷ us) k = absurd k
due_of_first (t ∷ ts) [] k = absurd k

-- the command that is due is that of the tasks that are told
pub due_same : (ts : List Task) (us : List told.Task) → Same (filter is_queued ts) us → told.due_of us ≡ listed (due_in (first_of ts))
due_same ts us k = due_of_first (filter is_queued ts) us k ∙ ap (λ o. listed (due_in o)) (sym (first_found ts))

some_more : (k : ℕ) → nat_lt 0 (suc k) ≡ true
some_more k = grind arith

some_due : (d : ℕ) (o : Option PrCommand) → is_some o ≡ true → is_some (option_and_then {U = ℕ × PrCommand} (λ (k : PrCommand). Some (d, k)) o) ≡ true
some_due d None is = is
some_due d (Some k) is = refl

work_of_first : (ts : List Task) (us : List told.Task) → AreQueued ts → Same ts us → nat_lt 0 (length us) ≡ is_some (due_in (first ts))
work_of_first [] [] queued k = refl
work_of_first (t ∷ ts) (u ∷ us) queued k = some_more (length us) ∙ sym (some_due t.device (command_in t.work) (work_has t.work t.device queued))
work_of_first [] (u ∷ us) queued k = absurd k
work_of_first (t ∷ ts) [] queued k = absurd k

-- there is one where a task is queued
pub some_same : (ts : List Task) (us : List told.Task) → Same (filter is_queued ts) us → nat_lt 0 (length us) ≡ is_some (due_in (first_of ts))
some_same ts us k = work_of_first (filter is_queued ts) us (queued_so ts) k ∙ ap (λ o. is_some (due_in o)) (sym (first_found ts))

pub length_same : (us : List told.Task) → length (map (λ (t : told.Task). t.device) us) ≡ length us
length_same [] = refl
length_same (u ∷ us) = ap suc (length_same us)

pub work_same : (ts : List Task) (us : List told.Task) → Same (filter is_queued ts) us → nat_lt 0 (length (map (λ (t : told.Task). t.device) us)) ≡ is_some (due_in (first_of ts))
work_same ts us k = ap (nat_lt 0) (length_same us) ∙ some_same ts us k
