-- What device lines show of the seizing of a device for a membership: a member tried to reserve it, and then read keys of members alone,
-- its own among them, and the word of the attempt, with no other reading of keys between these two.
use Rattle.std.specs.Prelude.{ℕ, ◌==◌, ◌&&◌, not, Bool, false, if◌then◌else◌, List, [], ◌∷◌, Option, Some, None}
use Rattle.std.specs.List.{list_any, list_all}
use Rattle.cl_base.specs.declared.header.Header.{Header}
use Rattle.pgr_device.specs.declared.command.PrCommand.TheVariants as command
use Rattle.pgr_device.specs.declared.command.PrAnswer.TheVariants as answer
use Rattle.status_report.specs.declared.device_entry.DeviceAnswer.TheVariants.{Given}
use Rattle.history.specs.Moment.{Moment}
use Rattle.history.specs.Trace.{device, attempt, start, installed, up, down, saved}
use Rattle.history.specs.Setting.{coordinator, key_of, nodes_of}
use Rattle.history.specs.Member.{members_of, session_of, in_collect}

-- ---- which moment it is

abbrev pub is_attempt : ℕ → Moment → Bool
is_attempt e (attempt f members) = f == e
is_attempt e _ = false

abbrev pub is_start : ℕ → Moment → Bool
is_start e (start f members held count) = f == e
is_start e _ = false

abbrev pub is_install : ℕ → ℕ → Moment → Bool
is_install n e (installed m f) = (m == n) && (f == e)
is_install n e _ = false

abbrev pub is_boot : ℕ → Moment → Bool
is_boot n (up m) = m == n
is_boot n _ = false

-- ---- seizing

abbrev pub is_number : ℕ → Option ℕ → Bool
is_number e None = false
is_number e (Some f) = f == e

-- whether the key is a member's
abbrev pub is_members_key : Header → ℕ → ℕ → Bool
is_members_key h members key = list_any (λ m. key_of h m == key) (nodes_of members)

-- whether these are keys of members alone, that of n among them
abbrev pub are_members_keys : Header → ℕ → ℕ → List ℕ → Bool
are_members_keys h members n keys = list_any (λ key. key == key_of h n) keys && list_all (is_members_key h members) keys

-- What n does on a device is for e from its first Promise of e on, for the coordinator from its attempt, until it promises another number,
-- begins an attempt or goes down, and before it installs e.
abbrev pub acts_for : ℕ → ℕ → List Moment → Bool
acts_for n e before = is_number e (session_of n before) && not (list_any (is_install n e) before)

-- how far n has come with a device
pub data Progress : Type 0 where
  Begun : Progress
  -- it tried to reserve the device
  Reserved : Progress
  -- and then read these keys, which it saw last
  Saw : (keys : List ℕ) → Progress
  -- they were members' alone, its own among them, and then it read the word of the attempt
  Seized : (keys : List ℕ) → Progress

abbrev pub reserved_from : Progress → Progress
reserved_from (Seized keys) = Seized keys
reserved_from _ = Reserved

abbrev pub saw_from : List ℕ → Progress → Progress
saw_from keys Begun = Begun
saw_from keys (Seized seen) = Seized seen
saw_from keys _ = Saw keys

abbrev pub confirmed_from : Header → ℕ → ℕ → Progress → Progress
confirmed_from h members n (Saw keys) = if are_members_keys h members n keys then Seized keys else Saw keys
confirmed_from h members n progress = progress

-- what is not seized when n acts for another is not seized later
abbrev pub left_from : Progress → Progress
left_from (Seized keys) = Seized keys
left_from _ = Begun

-- how far n has come with device d for e
abbrev pub progress_of : Header → ℕ → ℕ → ℕ → List Moment → Progress
progress_of h n e d [] = Begun
progress_of h n e d (device m x (command.Reserve kind key) reply ∷ before) =
    if (m == n) && (x == d) && acts_for n e before then reserved_from (progress_of h n e d before) else progress_of h n e d before
progress_of h n e d (device m x command.Keys (Given (answer.Keys keys)) ∷ before) =
    if (m == n) && (x == d) && acts_for n e before then saw_from keys (progress_of h n e d before) else progress_of h n e d before
progress_of h n e d (device m x command.Word (Given (answer.Word w)) ∷ before) =
    if (m == n) && (x == d) && (w == e) && acts_for n e before then confirmed_from h (members_of e before) n (progress_of h n e d before) else progress_of h n e d before
progress_of h n e d (attempt f members ∷ before) = if coordinator f == n then left_from (progress_of h n e d before) else progress_of h n e d before
progress_of h n e d (saved m ∷ before) = if (m == n) && in_collect n before then left_from (progress_of h n e d before) else progress_of h n e d before
progress_of h n e d (down m why ∷ before) = if m == n then left_from (progress_of h n e d before) else progress_of h n e d before
progress_of h n e d (_ ∷ before) = progress_of h n e d before

abbrev pub keys_in : Progress → Option (List ℕ)
keys_in (Seized keys) = Some keys
keys_in _ = None

-- the keys that n saw last as it seized device d for e, where it did
abbrev pub keys_seized : Header → ℕ → ℕ → ℕ → List Moment → Option (List ℕ)
keys_seized h n e d before = keys_in (progress_of h n e d before)

-- A node that seized a device, and the keys that it read there last.
pub record Seizing : Type 0 where
  pub seizer : ℕ
  pub keys : List ℕ

abbrev pub or_else : {A : Type 0} → Option A → Option A → Option A
or_else None other = other
or_else (Some x) other = Some x

abbrev pub seizing_by : ℕ → Option (List ℕ) → Option Seizing
seizing_by n None = None
seizing_by n (Some keys) = Some (record { seizer = n; keys = keys })

abbrev pub seizing_among : Header → ℕ → ℕ → List Moment → List ℕ → Option Seizing
seizing_among h e d before [] = None
seizing_among h e d before (n ∷ others) = or_else (seizing_by n (keys_seized h n e d before)) (seizing_among h e d before others)

-- the member that seized device d for e
abbrev pub seizing_of : Header → ℕ → ℕ → List Moment → Option Seizing
seizing_of h e d before = seizing_among h e d before (nodes_of (members_of e before))
