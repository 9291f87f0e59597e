-- Which moments leave a node as it is: its session, its last attempt, its installs, and how far it is with each seizing.
use Rattle.std.specs.Prelude.{ℕ, ◌≡◌, ◌≢◌, ◌==◌, ◌&&◌, ◌||◌, Bool, true, false, List, ◌∷◌, None, Some}
use Rattle.std.specs.List.{list_any}
use Rattle.std.proofs.Common.{refl}
use Rattle.cl_base.specs.declared.header.Header.{Header}
use Rattle.pgr_device.specs.declared.command.PrCommand.{PrCommand}
use Rattle.pgr_device.specs.declared.command.PrCommand.TheVariants as command
use Rattle.pgr_device.specs.declared.command.PrAnswer.TheVariants as answer
use Rattle.status_report.specs.declared.attempt_entry.AttemptEntry.TheVariants as attempt_entry
use Rattle.status_report.specs.declared.attempt_entry.AttemptEntry.{AttemptEntry}
use Rattle.status_report.specs.declared.device_entry.DeviceAnswer.{DeviceAnswer}
use Rattle.status_report.specs.declared.device_entry.DeviceAnswer.TheVariants.{Given, Failed}
use Rattle.status_report.specs.declared.device_entry.DeviceEntry.{DeviceEntry}
use Rattle.status_report.specs.declared.device_entry.DeviceEntry.TheVariants as device_entry
use Rattle.status_report.specs.declared.entry.Entry.{Entry}
use Rattle.status_report.specs.declared.entry.Entry.TheVariants as entry
use Rattle.status_report.specs.declared.node_entry.NodeEntry.{NodeEntry}
use Rattle.status_report.specs.declared.node_entry.NodeEntry.TheVariants as node_entry
use Rattle.history.specs.Member.{attempt_of, in_collect, members_of, promised_to, session_of}
use Rattle.history.specs.Moment.{Moment, Told}
use Rattle.history.specs.Seizing.{acts_for, confirmed_from, is_install, left_from, progress_of, reserved_from, saw_from}
use Rattle.history.specs.Setting.{coordinator}
use Rattle.run_seizings.specs.Seized.{has_installed}
use Rattle.run_seizings.proofs.Progress.{if_not, not_same}

pub record Still (h : Header) (ms : List Moment) (n : ℕ) (x : Moment) : Type 0 where
  pub last : attempt_of n (x ∷ ms) ≡ attempt_of n ms
  pub session : session_of n (x ∷ ms) ≡ session_of n ms
  pub progress : (e d : ℕ) → progress_of h n e d (x ∷ ms) ≡ progress_of h n e d ms
  pub installs : (e : ℕ) → has_installed n e (x ∷ ms) ≡ has_installed n e ms

-- the commands that show how far a seizing is
abbrev pub IsAside : ℕ → ℕ → PrCommand → Type 0
IsAside n m (command.Reserve kind key) = m ≢ n
IsAside n m command.Keys = m ≢ n
IsAside n m command.Word = m ≢ n
IsAside n m _ = Unit {0}

abbrev pub StillNode : ℕ → ℕ → NodeEntry → Type 0
StillNode n m node_entry.Up = m ≢ n
StillNode n m (node_entry.Down why) = m ≢ n
StillNode n m node_entry.Saved = m ≢ n
StillNode n m (node_entry.Installed e) = m ≢ n
StillNode n m (node_entry.Member e) = Unit {0}
StillNode n m node_entry.Ticked = Unit {0}

abbrev pub StillDevice : ℕ → DeviceEntry → Type 0
StillDevice n (device_entry.Command m d c a) = IsAside n m c
StillDevice n _ = Unit {0}

abbrev pub StillAttempt : ℕ → AttemptEntry → Type 0
StillAttempt n (attempt_entry.Begun e members) = coordinator e ≢ n
StillAttempt n _ = Unit {0}

abbrev pub StillFor : ℕ → Entry → Type 0
StillFor n (entry.Node m e) = StillNode n m e
StillFor n (entry.Device e) = StillDevice n e
StillFor n (entry.Attempt e) = StillAttempt n e
StillFor n _ = Unit {0}

three_not : (a b c : Bool) → a ≡ false → (a && b && c) ≡ false
three_not true b c h = cc
three_not false b c h = refl

two_not : (a b : Bool) → a ≡ false → (a && b) ≡ false
two_not true b h = cc
two_not false b h = refl

four_not : (a b c d : Bool) → a ≡ false → (a && b && c && d) ≡ false
four_not true b c d h = cc
four_not false b c d h = refl

or_not : (a b : Bool) → a ≡ false → (a || b) ≡ b
or_not true b h = cc
or_not false b h = refl

other_keys : (h : Header) (ms : List Moment) (n e d m x : ℕ) (a : DeviceAnswer) → (m == n) ≡ false
    → progress_of h n e d (Told (entry.Device (device_entry.Command m x command.Keys a)) ∷ ms) ≡ progress_of h n e d ms
other_keys h ms n e d m x (Given (answer.Keys keys)) ne =
    if_not ((m == n) && (x == d) && acts_for n e ms) (saw_from keys (progress_of h n e d ms)) (progress_of h n e d ms) (three_not (m == n) (x == d) (acts_for n e ms) ne)
other_keys h ms n e d m x (Given answer.Good) ne = refl
other_keys h ms n e d m x (Given answer.Conflict) ne = refl
other_keys h ms n e d m x (Given answer.InvalidRelease) ne = refl
other_keys h ms n e d m x (Given answer.NoPath) ne = refl
other_keys h ms n e d m x (Given (answer.Holder holder)) ne = refl
other_keys h ms n e d m x (Given (answer.Word w)) ne = refl
other_keys h ms n e d m x (Given (answer.Value v)) ne = refl
other_keys h ms n e d m x (Given (answer.Miscompare w)) ne = refl
other_keys h ms n e d m x Failed ne = refl

other_word : (h : Header) (ms : List Moment) (n e d m x : ℕ) (a : DeviceAnswer) → (m == n) ≡ false
    → progress_of h n e d (Told (entry.Device (device_entry.Command m x command.Word a)) ∷ ms) ≡ progress_of h n e d ms
other_word h ms n e d m x (Given (answer.Word w)) ne =
    if_not ((m == n) && (x == d) && (w == e) && acts_for n e ms) (confirmed_from h (members_of e ms) n (progress_of h n e d ms)) (progress_of h n e d ms)
    (four_not (m == n) (x == d) (w == e) (acts_for n e ms) ne)
other_word h ms n e d m x (Given (answer.Keys keys)) ne = refl
other_word h ms n e d m x (Given answer.Good) ne = refl
other_word h ms n e d m x (Given answer.Conflict) ne = refl
other_word h ms n e d m x (Given answer.InvalidRelease) ne = refl
other_word h ms n e d m x (Given answer.NoPath) ne = refl
other_word h ms n e d m x (Given (answer.Holder holder)) ne = refl
other_word h ms n e d m x (Given (answer.Value v)) ne = refl
other_word h ms n e d m x (Given (answer.Miscompare w)) ne = refl
other_word h ms n e d m x Failed ne = refl

-- a command that shows nothing of it, or another node's
other_command : (h : Header) (ms : List Moment) (n e d m x : ℕ) (c : PrCommand) (a : DeviceAnswer) → IsAside n m c
    → progress_of h n e d (Told (entry.Device (device_entry.Command m x c a)) ∷ ms) ≡ progress_of h n e d ms
other_command h ms n e d m x (command.Reserve kind key) a is =
    if_not ((m == n) && (x == d) && acts_for n e ms) (reserved_from (progress_of h n e d ms)) (progress_of h n e d ms)
    (three_not (m == n) (x == d) (acts_for n e ms) (not_same m n is))
other_command h ms n e d m x command.Keys a is = other_keys h ms n e d m x a (not_same m n is)
other_command h ms n e d m x command.Word a is = other_word h ms n e d m x a (not_same m n is)
other_command h ms n e d m x (command.Register key new) a is = refl
other_command h ms n e d m x (command.Ignore new) a is = refl
other_command h ms n e d m x (command.Release kind key) a is = refl
other_command h ms n e d m x (command.Clear key) a is = refl
other_command h ms n e d m x (command.Preempt kind key victim) a is = refl
other_command h ms n e d m x command.Holder a is = refl
other_command h ms n e d m x command.Read a is = refl
other_command h ms n e d m x (command.Write value) a is = refl
other_command h ms n e d m x (command.Swap expect new) a is = refl

still_node : (h : Header) (ms : List Moment) (n m : ℕ) (x : NodeEntry) → StillNode n m x → Still h ms n (Told (entry.Node m x))
still_node h ms n m node_entry.Up is = record {
  last = refl;
  session = if_not (m == n) None (session_of n ms) (not_same m n is);
  progress = λ e d. refl;
  installs = λ e. refl;
}
still_node h ms n m (node_entry.Down why) is = record {
  last = refl;
  session = if_not (m == n) None (session_of n ms) (not_same m n is);
  progress = λ e d. if_not (m == n) (left_from (progress_of h n e d ms)) (progress_of h n e d ms) (not_same m n is);
  installs = λ e. refl;
}
still_node h ms n m node_entry.Saved is = record {
  last = refl;
  session = if_not ((m == n) && in_collect n ms) (promised_to ms) (session_of n ms) (two_not (m == n) (in_collect n ms) (not_same m n is));
  progress = λ e d. if_not ((m == n) && in_collect n ms) (left_from (progress_of h n e d ms)) (progress_of h n e d ms)
      (two_not (m == n) (in_collect n ms) (not_same m n is));
  installs = λ e. refl;
}
still_node h ms n m (node_entry.Installed q) is = record {
  last = refl;
  session = refl;
  progress = λ e d. refl;
  installs = λ e. or_not ((m == n) && (q == e)) (list_any (is_install n e) ms) (two_not (m == n) (q == e) (not_same m n is));
}
still_node h ms n m (node_entry.Member q) is = record { last = refl; session = refl; progress = λ e d. refl; installs = λ e. refl }
still_node h ms n m node_entry.Ticked is = record { last = refl; session = refl; progress = λ e d. refl; installs = λ e. refl }

still_device : (h : Header) (ms : List Moment) (n : ℕ) (x : DeviceEntry) → StillDevice n x → Still h ms n (Told (entry.Device x))
still_device h ms n (device_entry.Command m x c a) is =
    record { last = refl; session = refl; progress = λ e d. other_command h ms n e d m x c a is; installs = λ e. refl }
still_device h ms n (device_entry.Accepted q m x value) is = record { last = refl; session = refl; progress = λ e d. refl; installs = λ e. refl }
still_device h ms n (device_entry.Refused m x value why) is = record { last = refl; session = refl; progress = λ e d. refl; installs = λ e. refl }

still_attempt : (h : Header) (ms : List Moment) (n : ℕ) (x : AttemptEntry) → StillAttempt n x → Still h ms n (Told (entry.Attempt x))
still_attempt h ms n (attempt_entry.Begun p members) is =
    let ne : (coordinator p == n) ≡ false = not_same (coordinator p) n is in
    record {
      last = if_not (coordinator p == n) (Some p) (attempt_of n ms) ne;
      session = if_not (coordinator p == n) (Some p) (session_of n ms) ne;
      progress = λ e d. if_not (coordinator p == n) (left_from (progress_of h n e d ms)) (progress_of h n e d ms) ne;
      installs = λ e. refl;
    }
still_attempt h ms n (attempt_entry.Votes q have need lacking) is = record { last = refl; session = refl; progress = λ e d. refl; installs = λ e. refl }
still_attempt h ms n (attempt_entry.Superseded q p) is = record { last = refl; session = refl; progress = λ e d. refl; installs = λ e. refl }
still_attempt h ms n (attempt_entry.Silent q m) is = record { last = refl; session = refl; progress = λ e d. refl; installs = λ e. refl }
still_attempt h ms n (attempt_entry.Excluded q m) is = record { last = refl; session = refl; progress = λ e d. refl; installs = λ e. refl }
still_attempt h ms n (attempt_entry.Foreign q m) is = record { last = refl; session = refl; progress = λ e d. refl; installs = λ e. refl }

pub still : (h : Header) (ms : List Moment) (n : ℕ) (x : Entry) → StillFor n x → Still h ms n (Told x)
still h ms n (entry.Node m e) is = still_node h ms n m e is
still h ms n (entry.Device e) is = still_device h ms n e is
still h ms n (entry.Attempt e) is = still_attempt h ms n e is
still h ms n (entry.Answered x) is = record { last = refl; session = refl; progress = λ e d. refl; installs = λ e. refl }
still h ms n entry.Powered is = record { last = refl; session = refl; progress = λ e d. refl; installs = λ e. refl }
still h ms n (entry.Packet x) is = record { last = refl; session = refl; progress = λ e d. refl; installs = λ e. refl }
still h ms n (entry.Start x) is = record { last = refl; session = refl; progress = λ e d. refl; installs = λ e. refl }
still h ms n (entry.Update x) is = record { last = refl; session = refl; progress = λ e d. refl; installs = λ e. refl }
still h ms n (entry.Schedule x) is = record { last = refl; session = refl; progress = λ e d. refl; installs = λ e. refl }
still h ms n (entry.Command x) is = record { last = refl; session = refl; progress = λ e d. refl; installs = λ e. refl }
still h ms n (entry.Call x) is = record { last = refl; session = refl; progress = λ e d. refl; installs = λ e. refl }
still h ms n (entry.Status x) is = record { last = refl; session = refl; progress = λ e d. refl; installs = λ e. refl }
still h ms n (entry.Address x) is = record { last = refl; session = refl; progress = λ e d. refl; installs = λ e. refl }
