-- What is told is what the history has.
use Rattle.std.specs.Prelude.{ℕ, ◌≡◌, ◌==◌, ◌&&◌, not, Bool, true, false, List, [], ◌∷◌, length, Option, None, Some, option_map, if◌then◌else◌}
use Rattle.std.specs.List.{list_any}
use Rattle.std.proofs.Common.{refl, sym, ap, subst, ◌∙◌}
use Rattle.cmm_attempt.proofs.Basics.{none_some, same_some}
use Rattle.status_report.specs.declared.attempt_entry.AttemptEntry.{AttemptEntry}
use Rattle.status_report.specs.declared.attempt_entry.AttemptEntry.TheVariants as tried
use Rattle.status_report.specs.declared.device_entry.DeviceEntry.{DeviceEntry}
use Rattle.status_report.specs.declared.device_entry.DeviceEntry.TheVariants as device_entry
use Rattle.status_report.specs.declared.entry.Entry.{Entry}
use Rattle.status_report.specs.declared.entry.Entry.TheVariants as entry
use Rattle.status_report.specs.declared.node_entry.NodeEntry.{NodeEntry}
use Rattle.status_report.specs.declared.node_entry.NodeEntry.TheVariants as note
use Rattle.status_report.specs.declared.packet_entry.PacketEntry.{PacketEntry}
use Rattle.status_report.specs.declared.packet_entry.PacketEntry.TheVariants as packet
use Rattle.history.specs.Letters.{Letter, letter_of}
use Rattle.history.specs.Member.{attempt_of, in_collect, number_of}
use Rattle.history.specs.Moment.{Moment, Part, Said, Told}
use Rattle.history.specs.Names as name
use Rattle.history.specs.Names.{Name}
use Rattle.history.specs.Queue as whole
use Rattle.history.specs.Queue.{Task, all_promised, answer_told, holds_valid, is_write, joinings, moved, must_join, newest_in_hand, own_tasks, requested, requested_in, tasks_of, with_own}
use Rattle.history.specs.Seizing.{acts_for}
use Rattle.history.specs.Setting.{Setting, all_to, coordinator}
use Rattle.history.specs.Trace.{attempt, delivered, device}
use Rattle.history.specs.UnderWay.{is_under_way}
use Rattle.run_seizings.proofs.Progress.{if_not, no_truth}
use Rattle.run_devices.specs.queues.Told.{ToldAsInHistory, leads, leads_for}
use Rattle.run_devices.specs.queues.Views.{View, brought, joined, leaves_open, sought, told_after, told_tasks}
use Rattle.run_devices.proofs.queues.Alone.{lines_of, same_told}
use Rattle.run_devices.proofs.queues.Options.{Kept, Mapped, failed, kept, mapped, passed}

-- what was told before was so
abbrev Before : View → ℕ → List Moment → Option (List Task) → Type 0
Before S n ms told = (tasks : List Task) → told ≡ Some tasks → tasks_of S.setting n ms ≡ tasks

-- ---- tests

dropped : (b : Bool) (told : Option (List Task)) (old tasks : List Task) → ((ts : List Task) → told ≡ Some ts → old ≡ ts) → (if b then Some [] else told) ≡ Some tasks
    → (if b then [] else old) ≡ tasks
dropped true told old tasks k is = same_some [] tasks is
dropped false told old tasks k is = k tasks is

opened : (b : Bool) (told : Option (List Task)) (old tasks : List Task) → ((ts : List Task) → told ≡ Some ts → old ≡ ts) → (if b then None else told) ≡ Some tasks
    → (if b then [] else old) ≡ tasks
opened true told old tasks k is = absurd (none_some tasks is)
opened false told old tasks k is = k tasks is

by_test : (b : Bool) (new told : Option (List Task)) (made old tasks : List Task) → ((ts : List Task) → new ≡ Some ts → made ≡ ts) → ((ts : List Task) → told ≡ Some ts → old ≡ ts)
    → (if b then new else told) ≡ Some tasks → (if b then made else old) ≡ tasks
by_test true new told made old tasks f k is = f tasks is
by_test false new told made old tasks f k is = k tasks is

-- ---- its own seizings

and_off : (a b c : Bool) → a ≡ false → (a && b && c) ≡ false
and_off true b c off = absurd (no_truth (sym off))
and_off false b c off = refl

-- where it does not lead, there is none of them
not_own : (S : Setting) (n : ℕ) (o : Option ℕ) (ms : List Moment) (tasks : List Task) → leads_for n o ms ≡ false → with_own S n o ms tasks ≡ tasks
not_own S n None ms tasks off = refl
not_own S n (Some e) ms tasks off =
    if_not (acts_for n e ms && is_under_way e ms && all_promised e ms) (own_tasks S n e (newest_in_hand e ms) ms tasks) tasks
    (and_off (acts_for n e ms) (is_under_way e ms) (all_promised e ms) off)

attempted : (S : Setting) (n e : ℕ) (b : Bool) (o : Option ℕ) (ms : List Moment) (told : Option (List Task)) (old tasks : List Task)
    → leads_for n (if b then Some e else o) ms ≡ false → ((ts : List Task) → told ≡ Some ts → old ≡ ts) → (if b then Some [] else told) ≡ Some tasks
    → (if b then with_own S n (Some e) ms [] else old) ≡ tasks
attempted S n e true o ms told old tasks off k is = not_own S n (Some e) ms [] off ∙ same_some [] tasks is
attempted S n e false o ms told old tasks off k is = k tasks is

-- ---- an install

joined_so : (S : View) (n e : ℕ) (ms : List Moment) (tasks : List Task) → joined S n e ms ≡ Some tasks → joinings S.setting n e ms ≡ tasks
joined_so S n e ms tasks is =
    same_some (joinings S.setting n e ms) tasks (failed (list_any (leaves_open S n e ms) (all_to (length S.setting.header.devices))) (Some (joinings S.setting n e ms)) tasks is).told

-- ---- a request

abbrev Asks : Name → Type 0
Asks (name.SeizeQuorum d) = Unit {0}
Asks (name.SeizeData d) = Unit {0}
Asks _ = ⊥

-- what is called otherwise asks for nothing
not_asked : (S : Setting) (n e : ℕ) (called : Name) (ms : List Moment) (tasks : List Task) → (Asks called → ⊥) → whole.sought S n e called ms tasks ≡ tasks
not_asked S n e (name.SeizeQuorum d) ms tasks ban = absurd (ban tt)
not_asked S n e (name.SeizeData d) ms tasks ban = absurd (ban tt)
not_asked S n e _ ms tasks ban = refl

none_requested : (S : Setting) (n : ℕ) (o : Option ℕ) (l : Letter) (ms : List Moment) (tasks : List Task) → (Asks l.name → ⊥) → requested_in S n o l ms tasks ≡ tasks
none_requested S n None l ms tasks ban = refl
none_requested S n (Some e) l ms tasks ban = by_acts (acts_for n e ms)
  where
    by_acts : (b : Bool) → (if b then whole.sought S n e l.name ms tasks else tasks) ≡ tasks
    by_acts true = not_asked S n e l.name ms tasks ban
    by_acts false = refl

sought_so : (S : View) (n : ℕ) (l : Letter) (ms : List Moment) (called : Name) (told : Option (List Task)) (tasks : List Task) → l.name ≡ called → Before S n ms told
    → sought S n l ms called told ≡ Some tasks → requested S.setting n (Some l) ms (tasks_of S.setting n ms) ≡ tasks
sought_so S n l ms called told tasks same k is = by_name called same is
  where
    asked : option_map (requested S.setting n (Some l) ms) told ≡ Some tasks → requested S.setting n (Some l) ms (tasks_of S.setting n ms) ≡ tasks
    asked gives =
        let m : Mapped (requested S.setting n (Some l) ms) told tasks = mapped (requested S.setting n (Some l) ms) told tasks gives in
        ap (requested S.setting n (Some l) ms) (k m.inside m.found) ∙ m.gives

    other : (z : Name) → l.name ≡ z → (Asks z → ⊥) → told ≡ Some tasks → requested S.setting n (Some l) ms (tasks_of S.setting n ms) ≡ tasks
    other z at ban found = none_requested S.setting n (number_of l) l ms (tasks_of S.setting n ms) (λ asks. ban (subst Asks at asks)) ∙ k tasks found

    by_name : (z : Name) → l.name ≡ z → sought S n l ms z told ≡ Some tasks → requested S.setting n (Some l) ms (tasks_of S.setting n ms) ≡ tasks
    by_name (name.SeizeQuorum d) at found = asked (passed _ _ tasks found).told
    by_name (name.SeizeData d) at found = asked (passed _ _ tasks found).told
    by_name name.Heartbeat at found = other name.Heartbeat at (λ z. z) found
    by_name name.Collect at found = other name.Collect at (λ z. z) found
    by_name name.Promise at found = other name.Promise at (λ z. z) found
    by_name name.Nack at found = other name.Nack at (λ z. z) found
    by_name (name.Seized d) at found = other (name.Seized d) at (λ z. z) found
    by_name name.Install at found = other name.Install at (λ z. z) found
    by_name name.Ready at found = other name.Ready at (λ z. z) found
    by_name name.Start at found = other name.Start at (λ z. z) found
    by_name (name.Prepare d) at found = other (name.Prepare d) at (λ z. z) found
    by_name (name.Prepared d) at found = other (name.Prepared d) at (λ z. z) found
    by_name (name.Commit d) at found = other (name.Commit d) at (λ z. z) found
    by_name (name.Order d) at found = other (name.Order d) at (λ z. z) found
    by_name (name.Done d) at found = other (name.Done d) at (λ z. z) found
    by_name (name.Request d) at found = other (name.Request d) at (λ z. z) found
    by_name (name.Answer d) at found = other (name.Answer d) at (λ z. z) found
    by_name name.Excluded at found = other name.Excluded at (λ z. z) found

brought_so : (S : View) (n : ℕ) (o : Option Letter) (ms : List Moment) (told : Option (List Task)) (tasks : List Task) → Before S n ms told → brought S n o ms told ≡ Some tasks
    → requested S.setting n o ms (tasks_of S.setting n ms) ≡ tasks
brought_so S n None ms told tasks k is = k tasks is
brought_so S n (Some l) ms told tasks k is = sought_so S n l ms l.name told tasks refl k is

-- ---- each moment

abbrev Goal : View → ℕ → Moment → List Moment → List Task → Type 0
Goal S n x ms tasks = leads n (x ∷ ms) ≡ false → Before S n ms (told_tasks S n ms) → told_after S n x ms (told_tasks S n ms) ≡ Some tasks → tasks_of S.setting n (x ∷ ms) ≡ tasks

node_so : (S : View) (n m : ℕ) (e : NodeEntry) (ms : List Moment) (tasks : List Task) → Goal S n (Told (entry.Node m e)) ms tasks
node_so S n m note.Up ms tasks off k is = dropped (m == n) (told_tasks S n ms) (tasks_of S.setting n ms) tasks k is
node_so S n m (note.Down why) ms tasks off k is = dropped (m == n) (told_tasks S n ms) (tasks_of S.setting n ms) tasks k is
node_so S n m note.Saved ms tasks off k is = dropped ((m == n) && in_collect n ms) (told_tasks S n ms) (tasks_of S.setting n ms) tasks k is
node_so S n m (note.Installed e) ms tasks off k is =
    by_test (m == n) (joined S n e ms) (told_tasks S n ms) (joinings S.setting n e ms) (tasks_of S.setting n ms) tasks (λ ts found. joined_so S n e ms ts found) k is
node_so S n m (note.Member e) ms tasks off k is = k tasks is
node_so S n m note.Ticked ms tasks off k is = k tasks is

attempt_so : (S : View) (n : ℕ) (e : AttemptEntry) (ms : List Moment) (tasks : List Task) → Goal S n (Told (entry.Attempt e)) ms tasks
attempt_so S n (tried.Begun e members) ms tasks off k is =
    attempted S.setting n e (coordinator e == n) (attempt_of n ms) (attempt e members ∷ ms) (told_tasks S n ms) (tasks_of S.setting n ms) tasks off k is
attempt_so S n (tried.Votes e have need lacking) ms tasks off k is = opened (coordinator e == n) (told_tasks S n ms) (tasks_of S.setting n ms) tasks k is
attempt_so S n (tried.Superseded e q) ms tasks off k is = k tasks is
attempt_so S n (tried.Silent e m) ms tasks off k is = k tasks is
attempt_so S n (tried.Excluded e m) ms tasks off k is = opened (coordinator e == n) (told_tasks S n ms) (tasks_of S.setting n ms) tasks k is
attempt_so S n (tried.Foreign e m) ms tasks off k is = opened (coordinator e == n) (told_tasks S n ms) (tasks_of S.setting n ms) tasks k is

packet_so : (S : View) (n : ℕ) (e : PacketEntry) (ms : List Moment) (tasks : List Task) → Goal S n (Told (entry.Packet e)) ms tasks
packet_so S n (packet.Delivered p a m) ms tasks off k is =
    by_test (m == n) (brought S n (letter_of p ms) ms (told_tasks S n ms)) (told_tasks S n ms)
    (with_own S.setting n (attempt_of n ms) (delivered p a m ∷ ms) (requested S.setting n (letter_of p ms) ms (tasks_of S.setting n ms))) (tasks_of S.setting n ms) tasks
    (λ ts found.
    not_own S.setting n (attempt_of n ms) (delivered p a m ∷ ms) (requested S.setting n (letter_of p ms) ms (tasks_of S.setting n ms)) off
    ∙ brought_so S n (letter_of p ms) ms (told_tasks S n ms) ts k found) k is
packet_so S n (packet.Sent p a m called bytes) ms tasks off k is = k tasks is
packet_so S n (packet.Lost p) ms tasks off k is = k tasks is
packet_so S n (packet.Repeated p copy) ms tasks off k is = k tasks is
packet_so S n (packet.Dropped p why) ms tasks off k is = k tasks is

device_so : (S : View) (n : ℕ) (e : DeviceEntry) (ms : List Moment) (tasks : List Task) → Goal S n (Told (entry.Device e)) ms tasks
device_so S n (device_entry.Command m d done reply) ms tasks off k is =
    by_test ((m == n) && not (is_write done)) (option_map (moved (answer_told reply)) (told_tasks S n ms)) (told_tasks S n ms)
    (with_own S.setting n (attempt_of n ms) (device m d done reply ∷ ms) (moved (answer_told reply) (tasks_of S.setting n ms))) (tasks_of S.setting n ms) tasks
    (λ ts found.
    let z : Mapped (moved (answer_told reply)) (told_tasks S n ms) ts = mapped (moved (answer_told reply)) (told_tasks S n ms) ts found in
    not_own S.setting n (attempt_of n ms) (device m d done reply ∷ ms) (moved (answer_told reply) (tasks_of S.setting n ms)) off
    ∙ (ap (moved (answer_told reply)) (k z.inside z.found) ∙ z.gives)) k is
device_so S n (device_entry.Accepted e m d value) ms tasks off k is = k tasks is
device_so S n (device_entry.Refused m d value why) ms tasks off k is = k tasks is

entry_so : (S : View) (n : ℕ) (e : Entry) (ms : List Moment) (tasks : List Task) → Goal S n (Told e) ms tasks
entry_so S n (entry.Node m e) ms tasks off k is = node_so S n m e ms tasks off k is
entry_so S n (entry.Attempt e) ms tasks off k is = attempt_so S n e ms tasks off k is
entry_so S n (entry.Packet e) ms tasks off k is = packet_so S n e ms tasks off k is
entry_so S n (entry.Device e) ms tasks off k is = device_so S n e ms tasks off k is
entry_so S n _ ms tasks off k is = k tasks is

moment_so : (S : View) (n : ℕ) (x : Moment) (ms : List Moment) (tasks : List Task) → Goal S n x ms tasks
moment_so S n (Told e) ms tasks off k is = entry_so S n e ms tasks off k is
moment_so S n (Said l) ms tasks off k is = k tasks is
moment_so S n (Part e) ms tasks off k is = k tasks is

pub told_so : (S : View) (n : ℕ) (ms : List Moment) (tasks : List Task) → told_tasks S n ms ≡ Some tasks → tasks_of S.setting n ms ≡ tasks
told_so S n [] tasks is = same_some [] tasks is
told_so S n (x ∷ ms) tasks is =
    let k : Kept (leads n (x ∷ ms)) (told_after S n x ms (told_tasks S n ms)) tasks = kept (leads n (x ∷ ms)) (told_after S n x ms (told_tasks S n ms)) tasks is in
    moment_so S n x ms tasks k.closed (λ ts found. told_so S n ms ts found) k.told

pub told_as_in_history : ToldAsInHistory
told_as_in_history S n ms tasks is = told_so (lines_of S) n ms tasks (same_told S n ms ∙ is)
