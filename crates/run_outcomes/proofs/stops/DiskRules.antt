-- In a command at a device: which lines tell of a stop, and what the rules say there.
use Rattle.std.specs.Prelude.{ℕ, ◌≡◌, ◌==◌, ◌&&◌, ◌||◌, not, Bool, true, false, List, [], ◌∷◌, Option, None, Some, if◌then◌else◌}
use Rattle.std.specs.List.{list_any}
use Rattle.std.proofs.Common.{refl, sym, ap, subst, ◌∙◌, arith}
use Rattle.cl_base.specs.declared.packet.DropCause.{DropCause}
use Rattle.cmm_attempt.proofs.Basics.{false_true, if_either}
use Rattle.history.specs.Member.{attempt_of}
use Rattle.history.specs.Moment.{Moment, Told}
use Rattle.history.specs.Order.{so_far, under_way}
use Rattle.history.specs.Queue.{has_work, queue_is_open, queued_of, tasks_of}
use Rattle.history.specs.Saves.{attempts, has_joined, is_command_of, makes_invalid, may_save, saves_at_device, saves_in}
use Rattle.history.specs.Setting.{Setting}
use Rattle.interconnect.specs.Links as net
use Rattle.interconnect.specs.Links.{sending}
use Rattle.node_model.specs.declared.output.Output.{Output}
use Rattle.node_model.specs.declared.output.Output.TheVariants.{Sends, Tells}
use Rattle.schedule_text.specs.declared.event.Event.TheVariants as event
use Rattle.status_report.specs.declared.entry.Entry.{Entry}
use Rattle.status_report.specs.declared.entry.Entry.TheVariants as entry
use Rattle.status_report.specs.declared.node_entry.DownCause.{DownCause}
use Rattle.status_report.specs.declared.node_entry.DownCause.TheVariants as cause
use Rattle.status_report.specs.declared.node_entry.NodeEntry.TheVariants as note
use Rattle.status_report.specs.declared.packet_entry.PacketEntry.TheVariants as packet
use Rattle.wire.specs.Spelling.{spelling}
use Rattle.wire.specs.declared.message.Message.{Message}
use Rattle.world_model.specs.Sends.{is_sent, name_of}
use Rattle.run_history.specs.Scenes.{Scene, dropped_so, passing, posting, sent_as, telling, with_links}
use Rattle.run_downs.proofs.Rules.{IsNoStop, NoStops}
use Rattle.run_outcomes.proofs.stops.Behind.{posted_way}
use Rattle.run_outcomes.specs.stops.AtDevices.{DiskStops, is_disk}
use Rattle.run_outcomes.specs.stops.Idle.{AllDisk, HasCommand, HasJoined, IsIdle}

-- ---- the rule

itself : (n : ℕ) → (n == n) ≡ true
itself n = grind arith

and_so : (a b : Bool) → a ≡ true → b ≡ true → (a && b) ≡ true
and_so true b h k = k
and_so false b h k = absurd (false_true h)

-- it saves there, or the queue is open
unless_open : (saves untold : Bool) → (untold ≡ false → saves ≡ true) → (saves || untold) ≡ true
unless_open true untold h = refl
unless_open false true h = refl
unless_open false false h = h refl

pub disk_rule : (S : Setting) (n : ℕ) (ms : List Moment) → under_way ms ≡ Some (event.Disk n) → (queue_is_open S n ms ≡ false → saves_at_device S n ms ≡ true) → may_save S n ms ≡ true
disk_rule S n ms is saves =
    subst (λ e. saves_in S n e ms ≡ true) (sym is)
    (and_so (n == n) (saves_at_device S n ms || queue_is_open S n ms) (itself n) (unless_open (saves_at_device S n ms) (queue_is_open S n ms) saves))

in_then : (b x y : Bool) → b ≡ true → x ≡ true → (if b then x else y) ≡ true
in_then true x y is h = h
in_then false x y is h = absurd (false_true is)

in_else : (b x y : Bool) → b ≡ false → y ≡ true → (if b then x else y) ≡ true
in_else false x y is h = h
in_else true x y is h = absurd (false_true (sym is))

or_first : (a b : Bool) → a ≡ true → (a || b) ≡ true
or_first true b h = refl
or_first false b h = absurd (false_true h)

or_second : (a b c : Bool) → b ≡ true → c ≡ false → (a || (b && not c)) ≡ true
or_second true b c h k = refl
or_second false true false h k = refl
or_second false true true h k = absurd (false_true (sym k))
or_second false false c h k = absurd (false_true h)

-- after the command: a joining is over
pub joined_rule : (S : Setting) (n : ℕ) (ms : List Moment) → under_way ms ≡ Some (event.Disk n) → HasCommand n ms → HasJoined S n ms → may_save S n ms ≡ true
joined_rule S n ms is done joined =
    disk_rule S n ms is (λ told.
    in_then (list_any (is_command_of n) (so_far ms)) (list_any has_joined (tasks_of S n ms) || (attempts n (attempt_of n ms) ms && not (has_work S n ms))) (makes_invalid S n (queued_of S n ms) ms) done
    (or_first (list_any has_joined (tasks_of S n ms)) (attempts n (attempt_of n ms) ms && not (has_work S n ms)) (joined told)))

-- .. or its attempt is under way, and it has no work
pub idle_rule : (S : Setting) (n : ℕ) (ms : List Moment) → under_way ms ≡ Some (event.Disk n) → HasCommand n ms → attempts n (attempt_of n ms) ms ≡ true → IsIdle S n ms → may_save S n ms ≡ true
idle_rule S n ms is done tries idle =
    disk_rule S n ms is (λ told.
    in_then (list_any (is_command_of n) (so_far ms)) (list_any has_joined (tasks_of S n ms) || (attempts n (attempt_of n ms) ms && not (has_work S n ms))) (makes_invalid S n (queued_of S n ms) ms) done
    (or_second (list_any has_joined (tasks_of S n ms)) (attempts n (attempt_of n ms) ms) (has_work S n ms) tries (idle told)))

-- before it: a seizing registers
pub invalid_rule : (S : Setting) (n : ℕ) (ms : List Moment) → under_way ms ≡ Some (event.Disk n) → list_any (is_command_of n) (so_far ms) ≡ false
    → (queue_is_open S n ms ≡ false → makes_invalid S n (queued_of S n ms) ms ≡ true) → may_save S n ms ≡ true
invalid_rule S n ms is none invalid =
    disk_rule S n ms is (λ told.
    in_else (list_any (is_command_of n) (so_far ms)) (list_any has_joined (tasks_of S n ms) || (attempts n (attempt_of n ms) ms && not (has_work S n ms))) (makes_invalid S n (queued_of S n ms) ms) none
    (invalid told))

-- ---- lines

-- the node goes down where the rules let it save
pub gone_disk : (S : Setting) (n : ℕ) (why : DownCause) (ms : List Moment) → may_save S n ms ≡ true → AllDisk S ms → AllDisk S (Told (entry.Node n (note.Down why)) ∷ ms)
gone_disk S n cause.Stopped ms may so = ((λ is. may), so)
gone_disk S n _ ms may so = (tt, so)

pub dropped_disk : (S : Setting) (o : Option (ℕ × DropCause)) (s : Scene) → AllDisk S s.moments → AllDisk S (dropped_so o s).moments
dropped_disk S None s h = h
dropped_disk S (Some x) s h = (tt, h)

pub posted_disk : (S : Setting) (from to : ℕ) (m : Message) (s : Scene) → AllDisk S s.moments → AllDisk S (posting from to m s).moments
posted_disk S from to m s h =
    let o : net.Outcome = sending s.links from to (spelling m) in
    if_either (λ (z : Scene). AllDisk S z.moments) (is_sent s.links m) (sent_as from to m o s) s
    (dropped_disk S o.sent.dropped (telling (entry.Packet (packet.Sent s.links.next from to (name_of m.body) (spelling m))) (with_links s o.after)) (tt, h)) h

no_stop_line : (S : Setting) (e : Entry) (ms : List Moment) → IsNoStop (Tells e) → DiskStops S ms (Told e)
no_stop_line S (entry.Node m (note.Down cause.Stopped)) ms h = absurd h
no_stop_line S _ ms h = tt

pub none_disk : (S : Setting) (k : ℕ) (os : List Output) (s : Scene) → NoStops os → AllDisk S s.moments → AllDisk S (passing k os s).moments
none_disk S k [] s h so = so
none_disk S k (Tells e ∷ os) s h so = none_disk S k os (telling e s) h.1 (no_stop_line S e s.moments h.0, so)
none_disk S k (Sends to b ∷ os) s h so = none_disk S k os (posting k to (record { sender = k; body = b }) s) h.1 (posted_disk S k to (record { sender = k; body = b }) s so)

-- ---- another event

abbrev pub NoDisk : List Moment → Type 0
NoDisk ms = is_disk (under_way ms) ≡ false

other_line : (S : Setting) (e : Entry) (ms : List Moment) → NoDisk ms → DiskStops S ms (Told e)
other_line S (entry.Node m (note.Down cause.Stopped)) ms h = λ own. absurd (false_true (sym h ∙ own))
other_line S _ ms h = tt

pub other_disk : (S : Setting) (k : ℕ) (os : List Output) (s : Scene) → NoDisk s.moments → AllDisk S s.moments → AllDisk S (passing k os s).moments
other_disk S k [] s h so = so
other_disk S k (Tells e ∷ os) s h so = other_disk S k os (telling e s) h (other_line S e s.moments h, so)
other_disk S k (Sends to b ∷ os) s h so =
    let m : Message = record { sender = k; body = b } in
    other_disk S k os (posting k to m s) (ap is_disk (posted_way k to m s) ∙ h) (posted_disk S k to m s so)

-- ---- what the node has done stays done

told_done : (b c : Bool) → c ≡ true → (b || c) ≡ true
told_done true c h = refl
told_done false c h = h

dropped_done : (n : ℕ) (o : Option (ℕ × DropCause)) (s : Scene) → HasCommand n s.moments → HasCommand n (dropped_so o s).moments
dropped_done n None s h = h
dropped_done n (Some x) s h = h

posted_done : (n from to : ℕ) (m : Message) (s : Scene) → HasCommand n s.moments → HasCommand n (posting from to m s).moments
posted_done n from to m s h =
    let o : net.Outcome = sending s.links from to (spelling m) in
    if_either (λ (z : Scene). HasCommand n z.moments) (is_sent s.links m) (sent_as from to m o s) s
    (dropped_done n o.sent.dropped (telling (entry.Packet (packet.Sent s.links.next from to (name_of m.body) (spelling m))) (with_links s o.after)) h) h

pub passing_done : (n k : ℕ) (os : List Output) (s : Scene) → HasCommand n s.moments → HasCommand n (passing k os s).moments
passing_done n k [] s h = h
passing_done n k (Tells e ∷ os) s h = passing_done n k os (telling e s) (told_done (is_command_of n (Told e)) (list_any (is_command_of n) (so_far s.moments)) h)
passing_done n k (Sends to b ∷ os) s h = passing_done n k os (posting k to (record { sender = k; body = b }) s) (posted_done n k to (record { sender = k; body = b }) s h)
