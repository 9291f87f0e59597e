-- What a device answers to the commands of a task.
use Rattle.std.proofs.Common.{◌≡◌, ℕ, ◌==◌, true, Option, Some, None, refl, ap, ◌∙◌}
use Rattle.std.proofs.lemmas.Bool.{cond_both, cond-true, not_from_false}
use Rattle.cl_base.specs.Sets.{has}
use Rattle.pgr_device.specs.declared.kind.PrKind.{PrKind}
use Rattle.pgr_device.specs.declared.registration.Reservation.{Reservation}
use Rattle.pgr_device.specs.declared.command.PrCommand.{PrCommand}
use Rattle.pgr_device.specs.declared.command.PrCommand.TheVariants as command
use Rattle.pgr_device.specs.declared.command.PrAnswer.TheVariants as answer
use Rattle.pgr_device.specs.Device.{Device}
use Rattle.pgr_device.specs.Registered.{registered_key, has_key}
use Rattle.pgr_device.specs.Spc.{Outcome, answers, good, conflict, shows_key, reserving, preempted, preempting, swapping, may_read, may_write, carried_out, step}
use Rattle.seize.specs.Answers.{is_answer}
use Rattle.seize.specs.Endings.{IsOwn}

abbrev Gives : PrCommand → Outcome → Type 0
Gives sent o = is_answer sent o.answer ≡ true

reserve_gives : (d : Device) (node key : ℕ) (kind : PrKind) (held : Option Reservation)
    → Gives (command.Reserve kind key) (reserving d node kind held)
reserve_gives d node key kind None = refl
reserve_gives d node key kind (Some held) =
    cond_both _ (good d) (conflict d) (Gives (command.Reserve kind key)) (λ _. refl) (λ _. refl)

carried_gives : (d : Device) (node epoch own : ℕ) (sent : PrCommand) → may_read d.registrations node d.reservation ≡ true → IsOwn epoch own sent
    → Gives sent (carried_out d node sent)
carried_gives d node epoch own command.Keys reads is = refl
carried_gives d node epoch own command.Word reads is =
    ap (λ (o : Outcome). is_answer command.Word o.answer)
    (cond-true (may_read d.registrations node d.reservation) (answers d (answer.Word d.word)) (conflict d) reads)
carried_gives d node epoch own (command.Ignore new) reads is = refl
carried_gives d node epoch own (command.Reserve kind key) reads is =
    cond_both (shows_key (registered_key d.registrations node) key) (reserving d node kind d.reservation) (conflict d) (Gives (command.Reserve kind key))
    (λ _. reserve_gives d node key kind d.reservation) (λ _. refl)
carried_gives d node epoch own (command.Preempt kind key victim) reads is =
    let P : Outcome → Type 0 = Gives (command.Preempt kind key victim) in
    cond_both (shows_key (registered_key d.registrations node) key) (preempting d node kind victim) (conflict d) P
    (λ _. cond_both (has_key d.registrations victim) (good (preempted d node kind victim)) (conflict d) P (λ _. refl) (λ _. refl)) (λ _. refl)
carried_gives d node epoch own (command.Swap expect new) reads is =
    let P : Outcome → Type 0 = Gives (command.Swap expect new) in
    cond_both (may_write d.registrations node d.reservation) (swapping d expect new) (conflict d) P
    (λ _. cond_both (d.word == expect) (good (record d { word = new })) (answers d (answer.Miscompare d.word)) P (λ _. refl)
    (not_from_false (d.word == expect)))
    (λ _. refl)
carried_gives d node epoch own sent reads is = absurd is

pub device_gives : (d : Device) (node epoch own : ℕ) (sent : PrCommand) → has d.paths node ≡ true
    → may_read d.registrations node d.reservation ≡ true → IsOwn epoch own sent → is_answer sent (step d node sent).answer ≡ true
device_gives d node epoch own sent path reads is =
    ap (λ (o : Outcome). is_answer sent o.answer) (cond-true (has d.paths node) (carried_out d node sent) (answers d answer.NoPath) path)
    ∙ carried_gives d node epoch own sent reads is
