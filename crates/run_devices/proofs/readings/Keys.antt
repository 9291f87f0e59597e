-- The keys that were read on a device that was seized are told once and for all.
use Rattle.std.specs.Prelude.{Bool, List, Some, if◌then◌else◌, ℕ, ◌∷◌, ◌≡◌}
use Rattle.cl_base.specs.declared.header.Header.{Header}
use Rattle.cmm_attempt.proofs.Basics.{if_either, none_some}
use Rattle.history.specs.Member.{members_of}
use Rattle.history.specs.Moment.{Moment, Part, Said, Told}
use Rattle.history.specs.Seizing.{Begun, Progress, Reserved, Saw, Seized, confirmed_from, keys_in, keys_seized, left_from, progress_of, reserved_from, saw_from}
use Rattle.pgr_device.specs.declared.command.PrAnswer.TheVariants as answer
use Rattle.pgr_device.specs.declared.command.PrCommand.{PrCommand}
use Rattle.pgr_device.specs.declared.command.PrCommand.TheVariants as command
use Rattle.status_report.specs.declared.attempt_entry.AttemptEntry.{AttemptEntry}
use Rattle.status_report.specs.declared.attempt_entry.AttemptEntry.TheVariants as attempt_entry
use Rattle.status_report.specs.declared.device_entry.DeviceAnswer.{DeviceAnswer}
use Rattle.status_report.specs.declared.device_entry.DeviceAnswer.TheVariants.{Failed, Given}
use Rattle.status_report.specs.declared.device_entry.DeviceEntry.{DeviceEntry}
use Rattle.status_report.specs.declared.device_entry.DeviceEntry.TheVariants as device_entry
use Rattle.status_report.specs.declared.entry.Entry.TheVariants as entry
use Rattle.status_report.specs.declared.node_entry.NodeEntry.{NodeEntry}
use Rattle.status_report.specs.declared.node_entry.NodeEntry.TheVariants as node_entry

-- ---- what was read stays

abbrev pub HasKeys : List ℕ → Progress → Type 0
HasKeys ks p = keys_in p ≡ Some ks

reserved_done : (ks : List ℕ) (p : Progress) → HasKeys ks p → HasKeys ks (reserved_from p)
reserved_done ks Begun h = absurd (none_some ks h)
reserved_done ks Reserved h = absurd (none_some ks h)
reserved_done ks (Saw keys) h = absurd (none_some ks h)
reserved_done ks (Seized keys) h = h

saw_done : (ks keys : List ℕ) (p : Progress) → HasKeys ks p → HasKeys ks (saw_from keys p)
saw_done ks keys Begun h = absurd (none_some ks h)
saw_done ks keys Reserved h = absurd (none_some ks h)
saw_done ks keys (Saw seen) h = absurd (none_some ks h)
saw_done ks keys (Seized seen) h = h

pub confirmed_done : (ks : List ℕ) (h : Header) (members n : ℕ) (p : Progress) → HasKeys ks p → HasKeys ks (confirmed_from h members n p)
confirmed_done ks h members n Begun d = absurd (none_some ks d)
confirmed_done ks h members n Reserved d = absurd (none_some ks d)
confirmed_done ks h members n (Saw seen) d = absurd (none_some ks d)
confirmed_done ks h members n (Seized seen) d = d

left_done : (ks : List ℕ) (p : Progress) → HasKeys ks p → HasKeys ks (left_from p)
left_done ks Begun h = absurd (none_some ks h)
left_done ks Reserved h = absurd (none_some ks h)
left_done ks (Saw keys) h = absurd (none_some ks h)
left_done ks (Seized keys) h = h

either_done : (ks : List ℕ) (b : Bool) (p q : Progress) → HasKeys ks p → HasKeys ks q → HasKeys ks (if b then p else q)
either_done ks b p q h k = if_either (HasKeys ks) b p q h k

keys_done : (ks : List ℕ) (h : Header) (n e d : ℕ) (ms : List Moment) (m x : ℕ) (a : DeviceAnswer) → HasKeys ks (progress_of h n e d ms)
    → HasKeys ks (progress_of h n e d (Told (entry.Device (device_entry.Command m x command.Keys a)) ∷ ms))
keys_done ks h n e d ms m x (Given (answer.Keys keys)) k = either_done ks _ (saw_from keys (progress_of h n e d ms)) (progress_of h n e d ms)
    (saw_done ks keys (progress_of h n e d ms) k) k
keys_done ks h n e d ms m x (Given answer.Good) k = k
keys_done ks h n e d ms m x (Given answer.Conflict) k = k
keys_done ks h n e d ms m x (Given answer.InvalidRelease) k = k
keys_done ks h n e d ms m x (Given answer.NoPath) k = k
keys_done ks h n e d ms m x (Given (answer.Holder holder)) k = k
keys_done ks h n e d ms m x (Given (answer.Word w)) k = k
keys_done ks h n e d ms m x (Given (answer.Value v)) k = k
keys_done ks h n e d ms m x (Given (answer.Miscompare w)) k = k
keys_done ks h n e d ms m x Failed k = k

word_done : (ks : List ℕ) (h : Header) (n e d : ℕ) (ms : List Moment) (m x : ℕ) (a : DeviceAnswer) → HasKeys ks (progress_of h n e d ms)
    → HasKeys ks (progress_of h n e d (Told (entry.Device (device_entry.Command m x command.Word a)) ∷ ms))
word_done ks h n e d ms m x (Given (answer.Word w)) k =
    either_done ks _ (confirmed_from h (members_of e ms) n (progress_of h n e d ms)) (progress_of h n e d ms)
    (confirmed_done ks h (members_of e ms) n (progress_of h n e d ms) k) k
word_done ks h n e d ms m x (Given (answer.Keys keys)) k = k
word_done ks h n e d ms m x (Given answer.Good) k = k
word_done ks h n e d ms m x (Given answer.Conflict) k = k
word_done ks h n e d ms m x (Given answer.InvalidRelease) k = k
word_done ks h n e d ms m x (Given answer.NoPath) k = k
word_done ks h n e d ms m x (Given (answer.Holder holder)) k = k
word_done ks h n e d ms m x (Given (answer.Value v)) k = k
word_done ks h n e d ms m x (Given (answer.Miscompare w)) k = k
word_done ks h n e d ms m x Failed k = k

command_done : (ks : List ℕ) (h : Header) (n e d : ℕ) (ms : List Moment) (m x : ℕ) (c : PrCommand) (a : DeviceAnswer) → HasKeys ks (progress_of h n e d ms)
    → HasKeys ks (progress_of h n e d (Told (entry.Device (device_entry.Command m x c a)) ∷ ms))
command_done ks h n e d ms m x (command.Reserve kind key) a k = either_done ks _ (reserved_from (progress_of h n e d ms)) (progress_of h n e d ms)
    (reserved_done ks (progress_of h n e d ms) k) k
command_done ks h n e d ms m x command.Keys a k = keys_done ks h n e d ms m x a k
command_done ks h n e d ms m x command.Word a k = word_done ks h n e d ms m x a k
command_done ks h n e d ms m x _ a k = k

node_done : (ks : List ℕ) (h : Header) (n e d : ℕ) (ms : List Moment) (m : ℕ) (x : NodeEntry) → HasKeys ks (progress_of h n e d ms)
    → HasKeys ks (progress_of h n e d (Told (entry.Node m x) ∷ ms))
node_done ks h n e d ms m node_entry.Saved k = either_done ks _ (left_from (progress_of h n e d ms)) (progress_of h n e d ms) (left_done ks (progress_of h n e d ms) k) k
node_done ks h n e d ms m (node_entry.Down why) k = either_done ks _ (left_from (progress_of h n e d ms)) (progress_of h n e d ms) (left_done ks (progress_of h n e d ms) k) k
node_done ks h n e d ms m node_entry.Up k = k
node_done ks h n e d ms m node_entry.Ticked k = k
node_done ks h n e d ms m (node_entry.Installed q) k = k
node_done ks h n e d ms m (node_entry.Member q) k = k

attempt_done : (ks : List ℕ) (h : Header) (n e d : ℕ) (ms : List Moment) (x : AttemptEntry) → HasKeys ks (progress_of h n e d ms)
    → HasKeys ks (progress_of h n e d (Told (entry.Attempt x) ∷ ms))
attempt_done ks h n e d ms (attempt_entry.Begun p members) k = either_done ks _ (left_from (progress_of h n e d ms)) (progress_of h n e d ms)
    (left_done ks (progress_of h n e d ms) k) k
attempt_done ks h n e d ms (attempt_entry.Votes q have need lacking) k = k
attempt_done ks h n e d ms (attempt_entry.Superseded q p) k = k
attempt_done ks h n e d ms (attempt_entry.Silent q m) k = k
attempt_done ks h n e d ms (attempt_entry.Excluded q m) k = k
attempt_done ks h n e d ms (attempt_entry.Foreign q m) k = k

device_done : (ks : List ℕ) (h : Header) (n e d : ℕ) (ms : List Moment) (x : DeviceEntry) → HasKeys ks (progress_of h n e d ms) → HasKeys ks (progress_of h n e d (Told (entry.Device x) ∷ ms))
device_done ks h n e d ms (device_entry.Command m x c a) k = command_done ks h n e d ms m x c a k
device_done ks h n e d ms (device_entry.Accepted q m x value) k = k
device_done ks h n e d ms (device_entry.Refused m x value why) k = k

pub keys_stay : (ks : List ℕ) (h : Header) (n e d : ℕ) (x : Moment) (ms : List Moment) → keys_seized h n e d ms ≡ Some ks → keys_seized h n e d (x ∷ ms) ≡ Some ks
keys_stay ks h n e d (Said line) ms k = k
keys_stay ks h n e d (Part event) ms k = k
keys_stay ks h n e d (Told (entry.Device x)) ms k = device_done ks h n e d ms x k
keys_stay ks h n e d (Told (entry.Node m x)) ms k = node_done ks h n e d ms m x k
keys_stay ks h n e d (Told (entry.Attempt x)) ms k = attempt_done ks h n e d ms x k
keys_stay ks h n e d (Told (entry.Answered x)) ms k = k
keys_stay ks h n e d (Told entry.Powered) ms k = k
keys_stay ks h n e d (Told (entry.Packet x)) ms k = k
keys_stay ks h n e d (Told (entry.Start x)) ms k = k
keys_stay ks h n e d (Told (entry.Update x)) ms k = k
keys_stay ks h n e d (Told (entry.Schedule x)) ms k = k
keys_stay ks h n e d (Told (entry.Command x)) ms k = k
keys_stay ks h n e d (Told (entry.Call x)) ms k = k
keys_stay ks h n e d (Told (entry.Status x)) ms k = k
keys_stay ks h n e d (Told (entry.Address x)) ms k = k
