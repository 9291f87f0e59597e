-- No answer has the key zero.
use Rattle.std.proofs.Common.{◌≢◌, ℕ, ◌==◌, Bool, true, false, cond, List, [], ◌∷◌, find, Option, Some, None, option_map}
use Rattle.std.specs.List.{All}
use Rattle.std.proofs.lemmas.Bool.{cond_both}
use Rattle.std.proofs.lemmas.List.Elements.{All-nil, All-cons}
use Rattle.cl_base.specs.Sets.{has}
use Rattle.pgr_device.specs.declared.kind.PrKind.{PrKind}
use Rattle.pgr_device.specs.declared.registration.Registration.{Registration}
use Rattle.pgr_device.specs.declared.registration.Reservation.{Reservation}
use Rattle.pgr_device.specs.declared.command.PrCommand.{PrCommand}
use Rattle.pgr_device.specs.declared.command.PrCommand.TheVariants as command
use Rattle.pgr_device.specs.declared.command.PrAnswer.TheVariants as answer
use Rattle.pgr_device.specs.Access.{same_kind}
use Rattle.pgr_device.specs.Device.{Device}
use Rattle.pgr_device.specs.Keys.{HasNoZeroKey}
use Rattle.pgr_device.specs.Kept.{IsApart, IsDevice}
use Rattle.pgr_device.specs.Registered.{registered_key, has_key, keys_of}
use Rattle.pgr_device.specs.Spc.{Outcome, answers, good, conflict, with_key, shows_key, reserving, releasing, cleared, preempted, preempting, reservation_of, swapping, may_read, may_write, carried_out, step}

keys_not_zero : (paths : ℕ) (rs : List Registration) → IsApart paths rs → All (λ key. key ≢ 0) (keys_of rs)
keys_not_zero paths [] h = All-nil (λ (key : ℕ). key ≢ 0)
keys_not_zero paths (r ∷ rs) h = All-cons (λ (key : ℕ). key ≢ 0) r.key (keys_of rs) h.3 (keys_not_zero paths rs h.5)

shown_at : (r : Registration) (rs : List Registration) (n : ℕ) (kind : PrKind) (b : Bool) → r.key ≢ 0 → HasNoZeroKey (answer.Holder (option_map (λ key. (key, kind)) (registered_key rs n)))
    → HasNoZeroKey (answer.Holder (option_map (λ key. (key, kind)) (option_map (λ q. q.key) (cond b (Some r) (find (λ q. q.node == n) rs)))))
shown_at r rs n kind true first later = first
shown_at r rs n kind false first later = later

shown_not_zero : (paths : ℕ) (rs : List Registration) (n : ℕ) (kind : PrKind) → IsApart paths rs → HasNoZeroKey (answer.Holder (option_map (λ key. (key, kind)) (registered_key rs n)))
shown_not_zero paths [] n kind h = tt
shown_not_zero paths (r ∷ rs) n kind h = shown_at r rs n kind (r.node == n) h.3 (shown_not_zero paths rs n kind h.5)

holder_not_zero : (paths : ℕ) (rs : List Registration) (held : Option Reservation) → IsApart paths rs → HasNoZeroKey (answer.Holder (reservation_of rs held))
holder_not_zero paths rs None h = tt
holder_not_zero paths rs (Some held) h = shown_not_zero paths rs held.holder held.kind h

either : (b : Bool) (x y : Outcome) → HasNoZeroKey x.answer → HasNoZeroKey y.answer → HasNoZeroKey (cond b x y).answer
either b x y first second = cond_both b x y (λ (o : Outcome). HasNoZeroKey o.answer) (λ _. first) (λ _. second)

reserving_gives : (d : Device) (node : ℕ) (kind : PrKind) (held : Option Reservation) → HasNoZeroKey (reserving d node kind held).answer
reserving_gives d node kind None = tt
reserving_gives d node kind (Some held) = either _ (good d) (conflict d) tt tt

releasing_gives : (d : Device) (node : ℕ) (kind : PrKind) (held : Option Reservation) → HasNoZeroKey (releasing d node kind held).answer
releasing_gives d node kind None = tt
releasing_gives d node kind (Some held) =
    either (held.holder == node) _ (good d) (either (same_kind held.kind kind) (good (record d { reservation = None })) (answers d answer.InvalidRelease) tt tt) tt

gives : (d : Device) (node : ℕ) (c : PrCommand) → IsDevice d → HasNoZeroKey (carried_out d node c).answer
gives d node (command.Register key new) h = either _ (good (with_key d node new (registered_key d.registrations node))) (conflict d) tt tt
gives d node (command.Ignore new) h = tt
gives d node (command.Reserve kind key) h = either (shows_key (registered_key d.registrations node) key) _ (conflict d) (reserving_gives d node kind d.reservation) tt
gives d node (command.Release kind key) h = either (shows_key (registered_key d.registrations node) key) _ (conflict d) (releasing_gives d node kind d.reservation) tt
gives d node (command.Clear key) h = either (shows_key (registered_key d.registrations node) key) (good (cleared d)) (conflict d) tt tt
gives d node (command.Preempt kind key victim) h =
    either (shows_key (registered_key d.registrations node) key) (preempting d node kind victim) (conflict d)
    (either (has_key d.registrations victim) (good (preempted d node kind victim)) (conflict d) tt tt) tt
gives d node command.Keys h = keys_not_zero d.paths d.registrations h.apart
gives d node command.Holder h = holder_not_zero d.paths d.registrations d.reservation h.apart
gives d node command.Read h = either (may_read d.registrations node d.reservation) (answers d (answer.Value d.value)) (conflict d) tt tt
gives d node (command.Write value) h = either (may_write d.registrations node d.reservation) (good (record d { value = value })) (conflict d) tt tt
gives d node command.Word h = either (may_read d.registrations node d.reservation) (answers d (answer.Word d.word)) (conflict d) tt tt
gives d node (command.Swap expect new) h =
    either (may_write d.registrations node d.reservation) (swapping d expect new) (conflict d)
    (either (d.word == expect) (good (record d { word = new })) (answers d (answer.Miscompare d.word)) tt tt) tt

pub step_gives : (d : Device) (node : ℕ) (c : PrCommand) → IsDevice d → HasNoZeroKey (step d node c).answer
step_gives d node c h = either (has d.paths node) (carried_out d node c) (answers d answer.NoPath) (gives d node c h) tt

pub carried_out_gives : (d : Device) (node : ℕ) (c : PrCommand) → IsDevice d → HasNoZeroKey (carried_out d node c).answer
carried_out_gives = gives
