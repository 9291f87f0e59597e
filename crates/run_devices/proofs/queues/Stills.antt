-- Which moments leave what is told of a node's tasks.
use Rattle.std.specs.Prelude.{ℕ, ◌≡◌, ◌≢◌, ◌==◌, ◌&&◌, ◌||◌, not, Bool, true, false, List, [], ◌∷◌, Option, None, Some, option_map, if◌then◌else◌}
use Rattle.std.specs.List.{list_any}
use Rattle.std.proofs.Common.{refl, sym, subst, ◌∙◌}
use Rattle.pgr_device.specs.declared.command.PrCommand.{PrCommand}
use Rattle.pgr_device.specs.declared.command.PrCommand.TheVariants as command
use Rattle.status_report.specs.declared.attempt_entry.AttemptEntry.{AttemptEntry}
use Rattle.status_report.specs.declared.attempt_entry.AttemptEntry.TheVariants as tried
use Rattle.status_report.specs.declared.device_entry.DeviceEntry.{DeviceEntry}
use Rattle.status_report.specs.declared.device_entry.DeviceEntry.TheVariants as device_entry
use Rattle.status_report.specs.declared.entry.Entry.{Entry}
use Rattle.status_report.specs.declared.entry.Entry.TheVariants as entry
use Rattle.status_report.specs.declared.node_entry.NodeEntry.{NodeEntry}
use Rattle.status_report.specs.declared.node_entry.NodeEntry.TheVariants as note
use Rattle.status_report.specs.declared.packet_entry.PacketEntry.{PacketEntry}
use Rattle.status_report.specs.declared.packet_entry.PacketEntry.TheVariants as packet
use Rattle.history.specs.Letters.{letter_of}
use Rattle.history.specs.Member as member
use Rattle.history.specs.Member.{in_collect, promised_to}
use Rattle.history.specs.Moment.{Moment, Told}
use Rattle.history.specs.Queue as told
use Rattle.history.specs.Queue.{answer_told, is_write, moved}
use Rattle.history.specs.Seizing.{is_install}
use Rattle.run_devices.specs.queues.Views.{View}
use Rattle.history.specs.Setting.{coordinator}
use Rattle.node_model.specs.Seats.{session_of}
use Rattle.node_model.specs.declared.node.Node.{Node}
use Rattle.node_model.specs.declared.node.Node.TheVariants.{Down, Up}
use Rattle.node_model.specs.declared.node.UpNode.{UpNode}
use Rattle.run_seizings.proofs.Progress.{if_not, no_truth, not_same}
use Rattle.run_seizings.specs.Seized.{has_installed}
use Rattle.run_devices.specs.queues.Kept.{NodeSo, Pending, Tells, UpSo}
use Rattle.run_devices.specs.queues.Told.{leads}
use Rattle.run_devices.specs.queues.Views.{brought, joined, told_after, told_tasks}
use Rattle.run_devices.proofs.queues.Options.{Kept, kept, told_else}

pub record Still (S : View) (ms : List Moment) (n : ℕ) (x : Moment) : Type 0 where
  pub told : (tasks : List told.Task) → told_after S n x ms (told_tasks S n ms) ≡ Some tasks → told_tasks S n ms ≡ Some tasks
  pub installs : (e : ℕ) → is_install n e x ≡ false
  pub session : member.session_of n ms ≡ None → member.session_of n (x ∷ ms) ≡ None

-- ---- entries

abbrev pub StillNode : ℕ → ℕ → NodeEntry → Type 0
StillNode n m (note.Member e) = Unit {0}
StillNode n m note.Ticked = Unit {0}
StillNode n m _ = m ≢ n

abbrev pub StillCommand : ℕ → ℕ → PrCommand → Type 0
StillCommand n m (command.Write value) = Unit {0}
StillCommand n m _ = m ≢ n

abbrev pub StillDevice : ℕ → DeviceEntry → Type 0
StillDevice n (device_entry.Command m d done reply) = StillCommand n m done
StillDevice n _ = Unit {0}

abbrev pub StillAttempt : ℕ → AttemptEntry → Type 0
StillAttempt n (tried.Begun e members) = coordinator e ≢ n
StillAttempt n _ = Unit {0}

abbrev pub StillPacket : ℕ → PacketEntry → Type 0
StillPacket n (packet.Delivered p a m) = m ≢ n
StillPacket n _ = Unit {0}

abbrev pub StillFor : ℕ → Entry → Type 0
StillFor n (entry.Node m e) = StillNode n m e
StillFor n (entry.Device e) = StillDevice n e
StillFor n (entry.Attempt e) = StillAttempt n e
StillFor n (entry.Packet e) = StillPacket n e
StillFor n _ = Unit {0}

and_not : (a b : Bool) → a ≡ false → (a && b) ≡ false
and_not true b off = absurd (no_truth (sym off))
and_not false b off = refl

none_if : {A : Type 0} (b : Bool) (o : Option A) → o ≡ None → (if b then None else o) ≡ None
none_if true o k = refl
none_if false o k = k

aside_node : (S : View) (ms : List Moment) (n m : ℕ) (e : NodeEntry) → (m == n) ≡ false → Still S ms n (Told (entry.Node m e))
aside_node S ms n m note.Up ne = record {
  told = λ ts is. sym (if_not (m == n) (Some []) (told_tasks S n ms) ne) ∙ is;
  installs = λ e. refl;
  session = λ k. none_if (m == n) (member.session_of n ms) k;
}
aside_node S ms n m (note.Down why) ne = record {
  told = λ ts is. sym (if_not (m == n) (Some []) (told_tasks S n ms) ne) ∙ is;
  installs = λ e. refl;
  session = λ k. none_if (m == n) (member.session_of n ms) k;
}
aside_node S ms n m note.Saved ne = record {
  told = λ ts is. sym (if_not ((m == n) && in_collect n ms) (Some []) (told_tasks S n ms) (and_not (m == n) (in_collect n ms) ne)) ∙ is;
  installs = λ e. refl;
  session = λ k. if_not ((m == n) && in_collect n ms) (promised_to ms) (member.session_of n ms) (and_not (m == n) (in_collect n ms) ne) ∙ k;
}
aside_node S ms n m (note.Installed q) ne = record {
  told = λ ts is. sym (if_not (m == n) (joined S n q ms) (told_tasks S n ms) ne) ∙ is;
  installs = λ e. and_not (m == n) (q == e) ne;
  session = λ k. k;
}
aside_node S ms n m (note.Member q) ne = record { told = λ ts is. is; installs = λ e. refl; session = λ k. k }
aside_node S ms n m note.Ticked ne = record { told = λ ts is. is; installs = λ e. refl; session = λ k. k }

still_node : (S : View) (ms : List Moment) (n m : ℕ) (e : NodeEntry) → StillNode n m e → Still S ms n (Told (entry.Node m e))
still_node S ms n m note.Up is = aside_node S ms n m note.Up (not_same m n is)
still_node S ms n m (note.Down why) is = aside_node S ms n m (note.Down why) (not_same m n is)
still_node S ms n m note.Saved is = aside_node S ms n m note.Saved (not_same m n is)
still_node S ms n m (note.Installed q) is = aside_node S ms n m (note.Installed q) (not_same m n is)
still_node S ms n m (note.Member q) is = record { told = λ ts k. k; installs = λ e. refl; session = λ k. k }
still_node S ms n m note.Ticked is = record { told = λ ts k. k; installs = λ e. refl; session = λ k. k }

-- whether a command moves no task of n
is_aside : (n m : ℕ) (done : PrCommand) → StillCommand n m done → ((m == n) && not (is_write done)) ≡ false
is_aside n m (command.Write value) is = off (m == n)
  where
    off : (b : Bool) → (b && false) ≡ false
    off true = refl
    off false = refl
is_aside n m (command.Ignore key) is = and_not (m == n) true (not_same m n is)
is_aside n m command.Word is = and_not (m == n) true (not_same m n is)
is_aside n m command.Keys is = and_not (m == n) true (not_same m n is)
is_aside n m (command.Reserve kind key) is = and_not (m == n) true (not_same m n is)
is_aside n m (command.Register key new) is = and_not (m == n) true (not_same m n is)
is_aside n m (command.Release kind key) is = and_not (m == n) true (not_same m n is)
is_aside n m (command.Clear key) is = and_not (m == n) true (not_same m n is)
is_aside n m (command.Preempt kind key victim) is = and_not (m == n) true (not_same m n is)
is_aside n m command.Holder is = and_not (m == n) true (not_same m n is)
is_aside n m command.Read is = and_not (m == n) true (not_same m n is)
is_aside n m (command.Swap expect new) is = and_not (m == n) true (not_same m n is)

still_device : (S : View) (ms : List Moment) (n : ℕ) (e : DeviceEntry) → StillDevice n e → Still S ms n (Told (entry.Device e))
still_device S ms n (device_entry.Command m d done reply) is = record {
  told = λ ts k.
      sym (if_not ((m == n) && not (is_write done)) (option_map (moved (answer_told reply)) (told_tasks S n ms)) (told_tasks S n ms) (is_aside n m done is)) ∙ k;
  installs = λ e. refl;
  session = λ k. k;
}
still_device S ms n (device_entry.Accepted e m d value) is = record { told = λ ts k. k; installs = λ e. refl; session = λ k. k }
still_device S ms n (device_entry.Refused m d value why) is = record { told = λ ts k. k; installs = λ e. refl; session = λ k. k }

still_attempt : (S : View) (ms : List Moment) (n : ℕ) (e : AttemptEntry) → StillAttempt n e → Still S ms n (Told (entry.Attempt e))
still_attempt S ms n (tried.Begun e members) is = record {
  told = λ ts k. sym (if_not (coordinator e == n) (Some []) (told_tasks S n ms) (not_same (coordinator e) n is)) ∙ k;
  installs = λ e. refl;
  session = λ k. if_not (coordinator e == n) (Some e) (member.session_of n ms) (not_same (coordinator e) n is) ∙ k;
}
still_attempt S ms n (tried.Votes e have need lacking) is =
    record { told = λ ts k. told_else (coordinator e == n) (told_tasks S n ms) ts k; installs = λ e. refl; session = λ k. k }
still_attempt S ms n (tried.Superseded e q) is = record { told = λ ts k. k; installs = λ e. refl; session = λ k. k }
still_attempt S ms n (tried.Silent e m) is = record { told = λ ts k. k; installs = λ e. refl; session = λ k. k }
still_attempt S ms n (tried.Excluded e m) is = record { told = λ ts k. told_else (coordinator e == n) (told_tasks S n ms) ts k; installs = λ e. refl; session = λ k. k }
still_attempt S ms n (tried.Foreign e m) is = record { told = λ ts k. told_else (coordinator e == n) (told_tasks S n ms) ts k; installs = λ e. refl; session = λ k. k }

still_packet : (S : View) (ms : List Moment) (n : ℕ) (e : PacketEntry) → StillPacket n e → Still S ms n (Told (entry.Packet e))
still_packet S ms n (packet.Delivered p a m) is = record {
  told = λ ts k. sym (if_not (m == n) (brought S n (letter_of p ms) ms (told_tasks S n ms)) (told_tasks S n ms) (not_same m n is)) ∙ k;
  installs = λ e. refl;
  session = λ k. k;
}
still_packet S ms n (packet.Sent p a m called bytes) is = record { told = λ ts k. k; installs = λ e. refl; session = λ k. k }
still_packet S ms n (packet.Lost p) is = record { told = λ ts k. k; installs = λ e. refl; session = λ k. k }
still_packet S ms n (packet.Repeated p copy) is = record { told = λ ts k. k; installs = λ e. refl; session = λ k. k }
still_packet S ms n (packet.Dropped p why) is = record { told = λ ts k. k; installs = λ e. refl; session = λ k. k }

pub still : (S : View) (ms : List Moment) (n : ℕ) (e : Entry) → StillFor n e → Still S ms n (Told e)
still S ms n (entry.Node m e) is = still_node S ms n m e is
still S ms n (entry.Device e) is = still_device S ms n e is
still S ms n (entry.Attempt e) is = still_attempt S ms n e is
still S ms n (entry.Packet e) is = still_packet S ms n e is
still S ms n _ is = record { told = λ ts k. k; installs = λ e. refl; session = λ k. k }

-- ---- what stays

or_second : (a b : Bool) → a ≡ false → (a || b) ≡ b
or_second true b off = absurd (no_truth (sym off))
or_second false b off = refl

pub installs_same : (S : View) (ms : List Moment) (n e : ℕ) (x : Moment) → Still S ms n x → has_installed n e (x ∷ ms) ≡ has_installed n e ms
installs_same S ms n e x same = or_second (is_install n e x) (list_any (is_install n e) ms) (same.installs e)

tells_in : (o p : Option (List told.Task)) (q : Pending) (y : UpNode) → ((tasks : List told.Task) → p ≡ Some tasks → o ≡ Some tasks) → Tells o q y → Tells p q y
tells_in o None q y f k = tt
tells_in o (Some tasks) q y f k = subst (λ z. Tells z q y) (f tasks refl) k

told_before : (S : View) (ms : List Moment) (n : ℕ) (x : Moment) (tasks : List told.Task) → Still S ms n x → told_tasks S n (x ∷ ms) ≡ Some tasks → told_tasks S n ms ≡ Some tasks
told_before S ms n x tasks same is =
    let k : Kept (leads n (x ∷ ms)) (told_after S n x ms (told_tasks S n ms)) tasks = kept (leads n (x ∷ ms)) (told_after S n x ms (told_tasks S n ms)) tasks is in
    same.told tasks k.told

pub up_stays : (S : View) (ms : List Moment) (x : Moment) (n : ℕ) (p : Pending) (y : UpNode) → Still S ms n x → UpSo S ms n p y → UpSo S (x ∷ ms) n p y
up_stays S ms x n p y same k = record {
  none = λ is. same.session (k.none is);
  fresh = λ some ne. installs_same S ms n (session_of y) x same ∙ k.fresh some ne;
  done = λ some is. installs_same S ms n (session_of y) x same ∙ k.done some is;
  plain = k.plain;
  tells = tells_in (told_tasks S n ms) (told_tasks S n (x ∷ ms)) p y (λ ts is. told_before S ms n x ts same is) k.tells;
}

pub node_stays : (S : View) (ms : List Moment) (x : Moment) (n : ℕ) (p : Pending) (node : Node) → Still S ms n x → NodeSo S ms n p node → NodeSo S (x ∷ ms) n p node
node_stays S ms x n p Down same k = tt
node_stays S ms x n p (Up y) same k = up_stays S ms x n p y same k
