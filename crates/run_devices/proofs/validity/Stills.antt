-- Which moments leave what is told of a node: which devices are valid to it, whether it moved on, and how far its joinings are.
use Rattle.std.specs.Prelude.{ℕ, ◌≡◌, ◌≢◌, ◌⊎◌, ◌==◌, ◌&&◌, ◌||◌, Bool, true, false, List, [], ◌∷◌}
use Rattle.std.specs.List.{AllByRecursion, list_any}
use Rattle.std.proofs.Common.{refl, sym, ap, subst, ◌∙◌}
use Rattle.cl_base.specs.Sets.{has}
use Rattle.cl_base.specs.declared.header.Header.{Header}
use Rattle.cl_base.specs.declared.panic.Panic.TheVariants as panic
use Rattle.device_queue.specs.declared.task.Task.{Task}
use Rattle.device_queue.specs.declared.task.Work.{Work}
use Rattle.device_queue.specs.declared.task.Work.TheVariants.{Seizing as Seizes, Joining as Joins}
use Rattle.pgr_device.specs.declared.command.PrAnswer.TheVariants as answer
use Rattle.pgr_device.specs.declared.command.PrCommand.{PrCommand}
use Rattle.pgr_device.specs.declared.command.PrCommand.TheVariants as command
use Rattle.seize.specs.declared.step.JoinStep.{JoinStep}
use Rattle.seize.specs.declared.step.JoinStep.TheVariants as join
use Rattle.status_report.specs.declared.attempt_entry.AttemptEntry.{AttemptEntry}
use Rattle.status_report.specs.declared.attempt_entry.AttemptEntry.TheVariants as attempt_entry
use Rattle.status_report.specs.declared.device_entry.DeviceAnswer.{DeviceAnswer}
use Rattle.status_report.specs.declared.device_entry.DeviceAnswer.TheVariants.{Given, Failed}
use Rattle.status_report.specs.declared.device_entry.DeviceEntry.{DeviceEntry}
use Rattle.status_report.specs.declared.device_entry.DeviceEntry.TheVariants as device_entry
use Rattle.status_report.specs.declared.entry.Entry.{Entry}
use Rattle.status_report.specs.declared.entry.Entry.TheVariants as entry
use Rattle.status_report.specs.declared.node_entry.DownCause.{DownCause}
use Rattle.status_report.specs.declared.node_entry.DownCause.TheVariants as cause
use Rattle.status_report.specs.declared.node_entry.NodeEntry.{NodeEntry}
use Rattle.status_report.specs.declared.node_entry.NodeEntry.TheVariants as node_entry
use Rattle.history.specs.Member.{in_collect, last_installed}
use Rattle.history.specs.Moment.{Moment, Told}
use Rattle.history.specs.Order.{since}
use Rattle.history.specs.Seizing.{is_install, seizing_of}
use Rattle.history.specs.Setting.{coordinator}
use Rattle.history.specs.Validated.{at_install, Lapsed, Open, Valid, joins, moved_on, registers, validity}
use Rattle.node_model.specs.Seats.{installed_of, session_of}
use Rattle.node_model.specs.declared.node.Node.{Node}
use Rattle.node_model.specs.declared.node.Node.TheVariants.{Down, Up}
use Rattle.node_model.specs.declared.node.UpNode.{UpNode}
use Rattle.refinement.specs.Doings.{Site}
use Rattle.run_seizings.proofs.Progress.{if_not, not_same, or_right}
use Rattle.run_devices.specs.validity.Kept.{Excuse, HasEntered, JoinSo, MovedSo, SiteSo, TaskSo, UpIn, UpSo, WorkSo}
use Rattle.run_devices.specs.validity.Laws.{Agrees}

pub record Still (h : Header) (ms : List Moment) (n : ℕ) (x : Moment) : Type 0 where
  pub valid : (d : ℕ) → validity h n d (x ∷ ms) ≡ validity h n d ms
  pub moved : moved_on n (x ∷ ms) ≡ moved_on n ms
  pub last : last_installed n (x ∷ ms) ≡ last_installed n ms
  pub entered : (d q : ℕ) → HasEntered ms n d q → HasEntered (x ∷ ms) n d q

-- ---- entries

-- the commands that tell of a device whether it is valid
abbrev pub IsAside : ℕ → ℕ → PrCommand → Type 0
IsAside n m (command.Ignore key) = m ≢ n
IsAside n m command.Word = m ≢ n
IsAside n m _ = Unit {0}

abbrev pub StillNode : ℕ → ℕ → NodeEntry → Type 0
StillNode n m node_entry.Saved = m ≢ n
StillNode n m (node_entry.Down why) = m ≢ n
StillNode n m (node_entry.Installed e) = m ≢ n
StillNode n m _ = Unit {0}

abbrev pub StillDevice : ℕ → DeviceEntry → Type 0
StillDevice n (device_entry.Command m d c a) = IsAside n m c
StillDevice n _ = Unit {0}

abbrev pub StillAttempt : ℕ → AttemptEntry → Type 0
StillAttempt n (attempt_entry.Begun e members) = coordinator e ≢ n
StillAttempt n _ = Unit {0}

abbrev pub StillFor : ℕ → Entry → Type 0
StillFor n (entry.Node m e) = StillNode n m e
StillFor n (entry.Device e) = StillDevice n e
StillFor n (entry.Attempt e) = StillAttempt n e
StillFor n _ = Unit {0}

pub two_not : (a b : Bool) → a ≡ false → (a && b) ≡ false
two_not true b h = cc
two_not false b h = refl

three_not : (a b c : Bool) → a ≡ false → (a && b && c) ≡ false
three_not true b c h = cc
three_not false b c h = refl

pub or_not : (a b : Bool) → a ≡ false → (a || b) ≡ b
or_not true b h = cc
or_not false b h = refl

-- one that is no install adds to what came since
pub entered_more : (ms : List Moment) (n d q : ℕ) (x : Moment) → is_install n q x ≡ false → HasEntered ms n d q → HasEntered (x ∷ ms) n d q
entered_more ms n d q x ban is =
    ap (λ xs. list_any (registers n d) xs) (if_not (is_install n q x) [] (x ∷ since (is_install n q) ms) ban)
    ∙ or_right (registers n d x) (list_any (registers n d) (since (is_install n q) ms)) is

other_word : (h : Header) (ms : List Moment) (n d m x : ℕ) (a : DeviceAnswer) → (m == n) ≡ false
    → validity h n d (Told (entry.Device (device_entry.Command m x command.Word a)) ∷ ms) ≡ validity h n d ms
other_word h ms n d m x (Given (answer.Word w)) ne =
    if_not ((m == n) && (x == d) && joins n d w ms) Valid (validity h n d ms) (three_not (m == n) (x == d) (joins n d w ms) ne)
other_word h ms n d m x (Given (answer.Keys keys)) ne = refl
other_word h ms n d m x (Given answer.Good) ne = refl
other_word h ms n d m x (Given answer.Conflict) ne = refl
other_word h ms n d m x (Given answer.InvalidRelease) ne = refl
other_word h ms n d m x (Given answer.NoPath) ne = refl
other_word h ms n d m x (Given (answer.Holder holder)) ne = refl
other_word h ms n d m x (Given (answer.Value v)) ne = refl
other_word h ms n d m x (Given (answer.Miscompare w)) ne = refl
other_word h ms n d m x Failed ne = refl

-- a command that tells nothing of it, or another node's
other_command : (h : Header) (ms : List Moment) (n d m x : ℕ) (c : PrCommand) (a : DeviceAnswer) → IsAside n m c
    → validity h n d (Told (entry.Device (device_entry.Command m x c a)) ∷ ms) ≡ validity h n d ms
other_command h ms n d m x (command.Ignore new) a is =
    if_not ((m == n) && (x == d)) Lapsed (validity h n d ms) (two_not (m == n) (x == d) (not_same m n is))
other_command h ms n d m x command.Word a is = other_word h ms n d m x a (not_same m n is)
other_command h ms n d m x command.Keys a is = refl
other_command h ms n d m x (command.Reserve kind key) a is = refl
other_command h ms n d m x (command.Register key new) a is = refl
other_command h ms n d m x (command.Release kind key) a is = refl
other_command h ms n d m x (command.Clear key) a is = refl
other_command h ms n d m x (command.Preempt kind key victim) a is = refl
other_command h ms n d m x command.Holder a is = refl
other_command h ms n d m x command.Read a is = refl
other_command h ms n d m x (command.Write value) a is = refl
other_command h ms n d m x (command.Swap expect new) a is = refl

still_down : (h : Header) (ms : List Moment) (n d m : ℕ) (why : DownCause) → (m == n) ≡ false
    → validity h n d (Told (entry.Node m (node_entry.Down why)) ∷ ms) ≡ validity h n d ms
still_down h ms n d m cause.Crash ne = refl
still_down h ms n d m cause.Stopped ne = if_not (m == n) Open (validity h n d ms) ne
still_down h ms n d m (cause.Panic panic.Disk) ne = if_not (m == n) Open (validity h n d ms) ne
still_down h ms n d m (cause.Panic (panic.Fenced e)) ne = refl
still_down h ms n d m (cause.Panic (panic.Excluded q)) ne = refl
still_down h ms n d m (cause.Panic (panic.Stop r)) ne = refl

still_node : (h : Header) (ms : List Moment) (n m : ℕ) (x : NodeEntry) → StillNode n m x → Still h ms n (Told (entry.Node m x))
still_node h ms n m node_entry.Up is = record { valid = λ d. refl; moved = refl; last = refl; entered = λ d q k. entered_more ms n d q (Told (entry.Node m node_entry.Up)) refl k }
still_node h ms n m (node_entry.Down why) is = record {
  valid = λ d. still_down h ms n d m why (not_same m n is);
  moved = refl;
  last = refl;
  entered = λ d q k. entered_more ms n d q (Told (entry.Node m (node_entry.Down why))) refl k;
}
still_node h ms n m node_entry.Saved is = record {
  valid = λ d. refl;
  moved = or_not ((m == n) && in_collect n ms) (moved_on n ms) (two_not (m == n) (in_collect n ms) (not_same m n is));
  last = refl;
  entered = λ d q k. entered_more ms n d q (Told (entry.Node m node_entry.Saved)) refl k;
}
still_node h ms n m (node_entry.Installed e) is = record {
  valid = λ d. if_not (m == n) (at_install h n (seizing_of h e d ms) (validity h n d ms)) (validity h n d ms) (not_same m n is);
  moved = if_not (m == n) false (moved_on n ms) (not_same m n is);
  last = if_not (m == n) e (last_installed n ms) (not_same m n is);
  entered = λ d q k. entered_more ms n d q (Told (entry.Node m (node_entry.Installed e))) (two_not (m == n) (e == q) (not_same m n is)) k;
}
still_node h ms n m (node_entry.Member e) is =
    record { valid = λ d. refl; moved = refl; last = refl; entered = λ d q k. entered_more ms n d q (Told (entry.Node m (node_entry.Member e))) refl k }
still_node h ms n m node_entry.Ticked is =
    record { valid = λ d. refl; moved = refl; last = refl; entered = λ d q k. entered_more ms n d q (Told (entry.Node m node_entry.Ticked)) refl k }

still_device : (h : Header) (ms : List Moment) (n : ℕ) (x : DeviceEntry) → StillDevice n x → Still h ms n (Told (entry.Device x))
still_device h ms n (device_entry.Command m x c a) is = record {
  valid = λ d. other_command h ms n d m x c a is;
  moved = refl;
  last = refl;
  entered = λ d q k. entered_more ms n d q (Told (entry.Device (device_entry.Command m x c a))) refl k;
}
still_device h ms n (device_entry.Accepted e m x value) is = record {
  valid = λ d. refl;
  moved = refl;
  last = refl;
  entered = λ d q k. entered_more ms n d q (Told (entry.Device (device_entry.Accepted e m x value))) refl k;
}
still_device h ms n (device_entry.Refused m x value why) is = record {
  valid = λ d. refl;
  moved = refl;
  last = refl;
  entered = λ d q k. entered_more ms n d q (Told (entry.Device (device_entry.Refused m x value why))) refl k;
}

still_attempt : (h : Header) (ms : List Moment) (n : ℕ) (x : AttemptEntry) → StillAttempt n x → Still h ms n (Told (entry.Attempt x))
still_attempt h ms n (attempt_entry.Begun e members) is = record {
  valid = λ d. refl;
  moved = or_not (coordinator e == n) (moved_on n ms) (not_same (coordinator e) n is);
  last = refl;
  entered = λ d q k. entered_more ms n d q (Told (entry.Attempt (attempt_entry.Begun e members))) refl k;
}
still_attempt h ms n (attempt_entry.Votes e have need lacking) is =
    record { valid = λ d. refl; moved = refl; last = refl; entered = λ d q k. entered_more ms n d q (Told (entry.Attempt (attempt_entry.Votes e have need lacking))) refl k }
still_attempt h ms n (attempt_entry.Superseded e p) is =
    record { valid = λ d. refl; moved = refl; last = refl; entered = λ d q k. entered_more ms n d q (Told (entry.Attempt (attempt_entry.Superseded e p))) refl k }
still_attempt h ms n (attempt_entry.Silent e m) is =
    record { valid = λ d. refl; moved = refl; last = refl; entered = λ d q k. entered_more ms n d q (Told (entry.Attempt (attempt_entry.Silent e m))) refl k }
still_attempt h ms n (attempt_entry.Excluded e m) is =
    record { valid = λ d. refl; moved = refl; last = refl; entered = λ d q k. entered_more ms n d q (Told (entry.Attempt (attempt_entry.Excluded e m))) refl k }
still_attempt h ms n (attempt_entry.Foreign e m) is =
    record { valid = λ d. refl; moved = refl; last = refl; entered = λ d q k. entered_more ms n d q (Told (entry.Attempt (attempt_entry.Foreign e m))) refl k }

pub still : (h : Header) (ms : List Moment) (n : ℕ) (e : Entry) → StillFor n e → Still h ms n (Told e)
still h ms n (entry.Node m e) is = still_node h ms n m e is
still h ms n (entry.Device e) is = still_device h ms n e is
still h ms n (entry.Attempt e) is = still_attempt h ms n e is
still h ms n (entry.Answered e) is = record { valid = λ d. refl; moved = refl; last = refl; entered = λ d q k. entered_more ms n d q (Told (entry.Answered e)) refl k }
still h ms n entry.Powered is = record { valid = λ d. refl; moved = refl; last = refl; entered = λ d q k. entered_more ms n d q (Told entry.Powered) refl k }
still h ms n (entry.Packet e) is = record { valid = λ d. refl; moved = refl; last = refl; entered = λ d q k. entered_more ms n d q (Told (entry.Packet e)) refl k }
still h ms n (entry.Start e) is = record { valid = λ d. refl; moved = refl; last = refl; entered = λ d q k. entered_more ms n d q (Told (entry.Start e)) refl k }
still h ms n (entry.Update e) is = record { valid = λ d. refl; moved = refl; last = refl; entered = λ d q k. entered_more ms n d q (Told (entry.Update e)) refl k }
still h ms n (entry.Command e) is = record { valid = λ d. refl; moved = refl; last = refl; entered = λ d q k. entered_more ms n d q (Told (entry.Command e)) refl k }
still h ms n (entry.Call e) is = record { valid = λ d. refl; moved = refl; last = refl; entered = λ d q k. entered_more ms n d q (Told (entry.Call e)) refl k }
still h ms n (entry.Status e) is = record { valid = λ d. refl; moved = refl; last = refl; entered = λ d q k. entered_more ms n d q (Told (entry.Status e)) refl k }
still h ms n (entry.Address e) is = record { valid = λ d. refl; moved = refl; last = refl; entered = λ d q k. entered_more ms n d q (Told (entry.Address e)) refl k }
still h ms n (entry.Schedule e) is = record { valid = λ d. refl; moved = refl; last = refl; entered = λ d q k. entered_more ms n d q (Told (entry.Schedule e)) refl k }

-- ---- what stays

pub moved_stays : (h : Header) (ms : List Moment) (x : Moment) (n q e : ℕ) → Still h ms n x → MovedSo ms n q e → MovedSo (x ∷ ms) n q e
moved_stays h ms x n q e same k = record {
  stands = λ is. (same.moved ∙ (k.stands is).0, same.last ∙ (k.stands is).1);
  moved = λ ne. same.moved ∙ k.moved ne;
}

join_stays : (ms : List Moment) (x : Moment) (n q e d : ℕ) (s : JoinStep) → ((d q : ℕ) → HasEntered ms n d q → HasEntered (x ∷ ms) n d q) → JoinSo ms n q e d s
    → JoinSo (x ∷ ms) n q e d s
join_stays ms x n q e d join.Register more k = tt
join_stays ms x n q e d join.ReadWord more k = (k.0, more d q k.1)
join_stays ms x n q e d (join.Ended r) more k = tt

pub task_stays : (ms : List Moment) (x : Moment) (n q e d : ℕ) (w : Work) → ((d q : ℕ) → HasEntered ms n d q → HasEntered (x ∷ ms) n d q) → WorkSo ms n q e d w
    → WorkSo (x ∷ ms) n q e d w
task_stays ms x n q e d (Seizes s) more k = tt
task_stays ms x n q e d (Joins j) more k = join_stays ms x n q e d j.step more k

pub tasks_stay : (ms : List Moment) (x : Moment) (n q e : ℕ) (ts : List Task) → ((d q : ℕ) → HasEntered ms n d q → HasEntered (x ∷ ms) n d q)
    → AllByRecursion (TaskSo ms n q e) ts → AllByRecursion (TaskSo (x ∷ ms) n q e) ts
tasks_stay ms x n q e [] more k = tt
tasks_stay ms x n q e (t ∷ ts) more k = (task_stays ms x n q e t.device t.work more k.0, tasks_stay ms x n q e ts more k.1)

pub up_stays : (h : Header) (ms : List Moment) (x : Moment) (n : ℕ) (y : UpNode) → Still h ms n x → UpSo ms n y → UpSo (x ∷ ms) n y
up_stays h ms x n y same k = record {
  moved = λ some. moved_stays h ms x n (session_of y) (installed_of y) same (k.moved some);
  tasks = tasks_stay ms x n (session_of y) (installed_of y) y.tasks same.entered k.tasks;
}

up_in_stays : (h : Header) (ms : List Moment) (x : Moment) (n : ℕ) (node : Node) → Still h ms n x → UpIn ms n node → UpIn (x ∷ ms) n node
up_in_stays h ms x n Down same k = tt
up_in_stays h ms x n (Up y) same k = up_stays h ms x n y same k

pub site_stays : (h : Header) (ms : List Moment) (x : Moment) (n : ℕ) (excuse : Excuse) (y : Site) → Still h ms n x → SiteSo h ms n excuse y → SiteSo h (x ∷ ms) n excuse y
site_stays h ms x n excuse y same k = record {
  valid = λ d is. subst (λ v. Agrees v (has y.disk.valid d) ⊎ excuse d) (sym (same.valid d)) (k.valid d is);
  up = up_in_stays h ms x n y.node same k.up;
}
