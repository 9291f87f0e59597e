-- By the lines alone the tasks that are told are those of `told_tasks`.
use Rattle.std.specs.Prelude.{ℕ, ◌≡◌, ◌==◌, Bool, true, false, List, [], ◌∷◌, Option, None, Some, if◌then◌else◌}
use Rattle.std.proofs.Common.{refl, ap, ◌∙◌}
use Rattle.status_report.specs.declared.attempt_entry.AttemptEntry.{AttemptEntry}
use Rattle.status_report.specs.declared.attempt_entry.AttemptEntry.TheVariants as tried
use Rattle.status_report.specs.declared.device_entry.DeviceEntry.{DeviceEntry}
use Rattle.status_report.specs.declared.device_entry.DeviceEntry.TheVariants as device_entry
use Rattle.status_report.specs.declared.entry.Entry.{Entry}
use Rattle.status_report.specs.declared.entry.Entry.TheVariants as entry
use Rattle.status_report.specs.declared.node_entry.NodeEntry.{NodeEntry}
use Rattle.status_report.specs.declared.node_entry.NodeEntry.TheVariants as note
use Rattle.status_report.specs.declared.packet_entry.PacketEntry.{PacketEntry}
use Rattle.status_report.specs.declared.packet_entry.PacketEntry.TheVariants as packet
use Rattle.history.specs.Letters.{Letter, letter_of}
use Rattle.history.specs.Moment.{Moment, Part, Said, Told}
use Rattle.history.specs.Names as name
use Rattle.history.specs.Names.{Name}
use Rattle.history.specs.Queue.{Task}
use Rattle.history.specs.Setting.{Setting}
use Rattle.run_devices.specs.queues.Told as lines
use Rattle.run_devices.specs.queues.Told.{leads, unless}
use Rattle.run_devices.specs.queues.Views.{View, brought, sought, told_after, told_tasks}

abbrev pub lines_of : Setting → View
lines_of S = record { setting = S; alone = true }

-- .. or with more
abbrev pub besides_of : Setting → View
besides_of S = record { setting = S; alone = false }

same_sought : (S : Setting) (n : ℕ) (l : Letter) (ms : List Moment) (called : Name) (o : Option (List Task)) → sought (lines_of S) n l ms called o ≡ lines.sought S n l ms called o
same_sought S n l ms (name.SeizeQuorum d) o = refl
same_sought S n l ms (name.SeizeData d) o = refl
same_sought S n l ms _ o = refl

same_brought : (S : Setting) (n : ℕ) (k : Option Letter) (ms : List Moment) (o : Option (List Task)) → brought (lines_of S) n k ms o ≡ lines.brought S n k ms o
same_brought S n None ms o = refl
same_brought S n (Some l) ms o = same_sought S n l ms l.name o

abbrev Same : Setting → ℕ → Moment → List Moment → Option (List Task) → Type 0
Same S n x ms o = told_after (lines_of S) n x ms o ≡ lines.told_after S n x ms o

same_node : (S : Setting) (n m : ℕ) (e : NodeEntry) (ms : List Moment) (o : Option (List Task)) → Same S n (Told (entry.Node m e)) ms o
same_node S n m note.Up ms o = refl
same_node S n m (note.Down why) ms o = refl
same_node S n m note.Saved ms o = refl
same_node S n m (note.Installed e) ms o = refl
same_node S n m (note.Member e) ms o = refl
same_node S n m note.Ticked ms o = refl

same_attempt : (S : Setting) (n : ℕ) (e : AttemptEntry) (ms : List Moment) (o : Option (List Task)) → Same S n (Told (entry.Attempt e)) ms o
same_attempt S n (tried.Begun e members) ms o = refl
same_attempt S n (tried.Votes e have need lacking) ms o = refl
same_attempt S n (tried.Superseded e q) ms o = refl
same_attempt S n (tried.Silent e m) ms o = refl
same_attempt S n (tried.Excluded e m) ms o = refl
same_attempt S n (tried.Foreign e m) ms o = refl

same_packet : (S : Setting) (n : ℕ) (e : PacketEntry) (ms : List Moment) (o : Option (List Task)) → Same S n (Told (entry.Packet e)) ms o
same_packet S n (packet.Delivered p a m) ms o = by_test (m == n)
  where
    by_test : (b : Bool) → (if b then brought (lines_of S) n (letter_of p ms) ms o else o) ≡ (if b then lines.brought S n (letter_of p ms) ms o else o)
    by_test true = same_brought S n (letter_of p ms) ms o
    by_test false = refl
same_packet S n (packet.Sent p a m called bytes) ms o = refl
same_packet S n (packet.Lost p) ms o = refl
same_packet S n (packet.Repeated p copy) ms o = refl
same_packet S n (packet.Dropped p why) ms o = refl

same_device : (S : Setting) (n : ℕ) (e : DeviceEntry) (ms : List Moment) (o : Option (List Task)) → Same S n (Told (entry.Device e)) ms o
same_device S n (device_entry.Command m d done reply) ms o = refl
same_device S n (device_entry.Accepted e m d value) ms o = refl
same_device S n (device_entry.Refused m d value why) ms o = refl

same_entry : (S : Setting) (n : ℕ) (e : Entry) (ms : List Moment) (o : Option (List Task)) → Same S n (Told e) ms o
same_entry S n (entry.Node m e) ms o = same_node S n m e ms o
same_entry S n (entry.Attempt e) ms o = same_attempt S n e ms o
same_entry S n (entry.Packet e) ms o = same_packet S n e ms o
same_entry S n (entry.Device e) ms o = same_device S n e ms o
same_entry S n _ ms o = refl

same_after : (S : Setting) (n : ℕ) (x : Moment) (ms : List Moment) (o : Option (List Task)) → Same S n x ms o
same_after S n (Told e) ms o = same_entry S n e ms o
same_after S n (Said l) ms o = refl
same_after S n (Part e) ms o = refl

pub same_told : (S : Setting) (n : ℕ) (ms : List Moment) → told_tasks (lines_of S) n ms ≡ lines.told_tasks S n ms
same_told S n [] = refl
same_told S n (x ∷ ms) =
    ap (λ o. unless (leads n (x ∷ ms)) (told_after (lines_of S) n x ms o)) (same_told S n ms) ∙ ap (unless (leads n (x ∷ ms))) (same_after S n x ms (lines.told_tasks S n ms))
