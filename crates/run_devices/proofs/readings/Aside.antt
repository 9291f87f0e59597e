-- The line of a command that shows nothing of a seizing.
use Rattle.std.specs.Prelude.{ℕ, ◌≡◌, ◌==◌, ◌&&◌, Bool, true, false, List, ◌∷◌}
use Rattle.std.proofs.Common.{refl}
use Rattle.cl_base.specs.declared.header.Header.{Header}
use Rattle.pgr_device.specs.declared.command.PrAnswer.TheVariants as answer
use Rattle.pgr_device.specs.declared.command.PrCommand.{PrCommand}
use Rattle.pgr_device.specs.declared.command.PrCommand.TheVariants as command
use Rattle.status_report.specs.declared.device_entry.DeviceAnswer.{DeviceAnswer}
use Rattle.status_report.specs.declared.device_entry.DeviceAnswer.TheVariants.{Given, Failed}
use Rattle.status_report.specs.declared.device_entry.DeviceEntry.TheVariants as device_entry
use Rattle.status_report.specs.declared.entry.Entry.TheVariants as entry
use Rattle.history.specs.Member.{members_of}
use Rattle.history.specs.Moment.{Moment, Told}
use Rattle.history.specs.Seizing.{acts_for, confirmed_from, progress_of, reserved_from, saw_from}
use Rattle.run_seizings.proofs.Progress.{if_not}

-- ---- a line that shows nothing of it

three_not : (a b c : Bool) → (b && c) ≡ false → (a && b && c) ≡ false
three_not true true c k = k
three_not true false c k = refl
three_not false b c k = refl

four_not : (a b t c : Bool) → (b && c) ≡ false → (a && b && t && c) ≡ false
four_not true true true c k = k
four_not true true false c k = refl
four_not true false t c k = refl
four_not false b t c k = refl

-- its command is of another device, or the node does not act for e
abbrev pub IsApart : ℕ → ℕ → ℕ → ℕ → List Moment → Type 0
IsApart n e d x ms = ((x == d) && acts_for n e ms) ≡ false

apart_keys : (h : Header) (ms : List Moment) (n e d m x : ℕ) (a : DeviceAnswer) → IsApart n e d x ms
    → progress_of h n e d (Told (entry.Device (device_entry.Command m x command.Keys a)) ∷ ms) ≡ progress_of h n e d ms
apart_keys h ms n e d m x (Given (answer.Keys keys)) k =
    if_not ((m == n) && (x == d) && acts_for n e ms) (saw_from keys (progress_of h n e d ms)) (progress_of h n e d ms) (three_not (m == n) (x == d) (acts_for n e ms) k)
apart_keys h ms n e d m x (Given answer.Good) k = refl
apart_keys h ms n e d m x (Given answer.Conflict) k = refl
apart_keys h ms n e d m x (Given answer.InvalidRelease) k = refl
apart_keys h ms n e d m x (Given answer.NoPath) k = refl
apart_keys h ms n e d m x (Given (answer.Holder holder)) k = refl
apart_keys h ms n e d m x (Given (answer.Word w)) k = refl
apart_keys h ms n e d m x (Given (answer.Value v)) k = refl
apart_keys h ms n e d m x (Given (answer.Miscompare w)) k = refl
apart_keys h ms n e d m x Failed k = refl

apart_word : (h : Header) (ms : List Moment) (n e d m x : ℕ) (a : DeviceAnswer) → IsApart n e d x ms
    → progress_of h n e d (Told (entry.Device (device_entry.Command m x command.Word a)) ∷ ms) ≡ progress_of h n e d ms
apart_word h ms n e d m x (Given (answer.Word w)) k =
    if_not ((m == n) && (x == d) && (w == e) && acts_for n e ms) (confirmed_from h (members_of e ms) n (progress_of h n e d ms)) (progress_of h n e d ms)
    (four_not (m == n) (x == d) (w == e) (acts_for n e ms) k)
apart_word h ms n e d m x (Given (answer.Keys keys)) k = refl
apart_word h ms n e d m x (Given answer.Good) k = refl
apart_word h ms n e d m x (Given answer.Conflict) k = refl
apart_word h ms n e d m x (Given answer.InvalidRelease) k = refl
apart_word h ms n e d m x (Given answer.NoPath) k = refl
apart_word h ms n e d m x (Given (answer.Holder holder)) k = refl
apart_word h ms n e d m x (Given (answer.Value v)) k = refl
apart_word h ms n e d m x (Given (answer.Miscompare w)) k = refl
apart_word h ms n e d m x Failed k = refl

pub apart_shows : (h : Header) (ms : List Moment) (n e d m x : ℕ) (c : PrCommand) (a : DeviceAnswer) → IsApart n e d x ms
    → progress_of h n e d (Told (entry.Device (device_entry.Command m x c a)) ∷ ms) ≡ progress_of h n e d ms
apart_shows h ms n e d m x (command.Reserve kind key) a k =
    if_not ((m == n) && (x == d) && acts_for n e ms) (reserved_from (progress_of h n e d ms)) (progress_of h n e d ms)
    (three_not (m == n) (x == d) (acts_for n e ms) k)
apart_shows h ms n e d m x command.Keys a k = apart_keys h ms n e d m x a k
apart_shows h ms n e d m x command.Word a k = apart_word h ms n e d m x a k
apart_shows h ms n e d m x (command.Register key new) a k = refl
apart_shows h ms n e d m x (command.Ignore new) a k = refl
apart_shows h ms n e d m x (command.Release kind key) a k = refl
apart_shows h ms n e d m x (command.Clear key) a k = refl
apart_shows h ms n e d m x (command.Preempt kind key victim) a k = refl
apart_shows h ms n e d m x command.Holder a k = refl
apart_shows h ms n e d m x command.Read a k = refl
apart_shows h ms n e d m x (command.Write value) a k = refl
apart_shows h ms n e d m x (command.Swap expect new) a k = refl
