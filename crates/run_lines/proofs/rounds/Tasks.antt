-- What lines leave of a node of which no task is told: those of another node leave it so.
use Rattle.std.specs.Prelude.{ℕ, ◌==◌, ◌≡◌, ◌≢◌, ◌&&◌, not, true, false, List, [], ◌∷◌, Option, None, Some}
use Rattle.std.specs.List.{AllByRecursion}
use Rattle.std.proofs.Common.{refl, sym, ap, subst, ◌∙◌, arith}
use Rattle.cl_base.specs.declared.packet.DropCause.{DropCause}
use Rattle.cmm_attempt.proofs.Basics.{if_either}
use Rattle.history.specs.Moment.{Moment, Told}
use Rattle.history.specs.Member.{attempt_of, in_collect}
use Rattle.history.specs.Queue.{answer_told, is_write, joinings, moved as moved_on, tasks_of, with_own}
use Rattle.history.specs.Setting.{Setting, coordinator}
use Rattle.interconnect.specs.Links as net
use Rattle.interconnect.specs.Links.{sending}
use Rattle.node_model.specs.declared.input.Input.{Input}
use Rattle.node_model.specs.declared.input.Input.TheVariants as input
use Rattle.node_model.specs.declared.node.Node.{Node}
use Rattle.node_model.specs.declared.node.Node.TheVariants.{Down, Up}
use Rattle.node_model.specs.declared.output.Output.{Output}
use Rattle.node_model.specs.declared.output.Output.TheVariants.{Tells, Sends}
use Rattle.pgr_device.specs.declared.command.PrCommand.{PrCommand}
use Rattle.pgr_device.specs.declared.command.PrCommand.TheVariants as command
use Rattle.run_history.specs.CommandLines.{AllQuiet, CommandFirst, IsQuiet, NodeTells, TellsDue}
use Rattle.run_history.specs.Scenes.{Scene, dropped_so, passing, posting, sent_as, telling, with_links}
use Rattle.run_history.proofs.Idle.{if_false}
use Rattle.run_lines.proofs.rounds.Owns.{AllOwn, OwnLine}
use Rattle.seize.specs.Answers.{Answer}
use Rattle.status_report.specs.declared.attempt_entry.AttemptEntry.TheVariants as attempt
use Rattle.status_report.specs.declared.device_entry.DeviceEntry.TheVariants as device
use Rattle.status_report.specs.declared.entry.Entry.{Entry}
use Rattle.status_report.specs.declared.entry.Entry.TheVariants as entry
use Rattle.status_report.specs.declared.node_entry.NodeEntry.TheVariants as note
use Rattle.status_report.specs.declared.packet_entry.PacketEntry.TheVariants as packet
use Rattle.wire.specs.Spelling.{spelling}
use Rattle.wire.specs.declared.message.Message.{Message}
use Rattle.world_model.specs.Devices.{due_of}
use Rattle.world_model.specs.Sends.{is_sent, name_of}

-- no task is told of node k
abbrev pub NoTask : Setting → ℕ → List Moment → Type 0
NoTask S k ms = tasks_of S k ms ≡ []

pub is_other : (a b : ℕ) → a ≢ b → (a == b) ≡ false
is_other a b ne = grind arith

pub is_self : (a : ℕ) → (a == a) ≡ true
is_self a = grind arith

-- ---- a line of node n leaves it so of another

-- a command is n's own, and no packet is told of
abbrev pub NotTaken : ℕ → Entry → Type 0
NotTaken n (entry.Device (device.Command m d k answer)) = m ≡ n
NotTaken n (entry.Packet e) = ⊥
NotTaken n _ = Unit {0}

abbrev Same : Setting → ℕ → Entry → List Moment → Type 0
Same S k e ms = NoTask S k ms → NoTask S k (Told e ∷ ms)

other_node : (a n k : ℕ) → a ≡ n → k ≢ n → (a == k) ≡ false
other_node a n k is ne = is_other a k (λ e. ne (sym e ∙ is))

told_none : (S : Setting) (n k : ℕ) (e : Entry) (ms : List Moment) → k ≢ n → OwnLine n e → NotTaken n e → Same S k e ms
told_none S n k (entry.Node m note.Up) ms ne own taken h = if_either (λ ts. ts ≡ []) (m == k) [] (tasks_of S k ms) refl h
told_none S n k (entry.Node m (note.Down why)) ms ne own taken h = if_either (λ ts. ts ≡ []) (m == k) [] (tasks_of S k ms) refl h
told_none S n k (entry.Node m note.Saved) ms ne own taken h = if_either (λ ts. ts ≡ []) ((m == k) && in_collect k ms) [] (tasks_of S k ms) refl h
told_none S n k (entry.Node m (note.Installed e)) ms ne own taken h = if_false (m == k) (joinings S k e ms) (tasks_of S k ms) (other_node m n k own ne) ∙ h
told_none S n k (entry.Attempt (attempt.Begun e members)) ms ne own taken h =
    if_false (coordinator e == k) (with_own S k (Some e) (Told (entry.Attempt (attempt.Begun e members)) ∷ ms) []) (tasks_of S k ms) (other_node (coordinator e) n k own ne) ∙ h
told_none S n k (entry.Attempt (attempt.Votes e have need lacking)) ms ne own taken h = if_either (λ ts. ts ≡ []) (coordinator e == k) [] (tasks_of S k ms) refl h
told_none S n k (entry.Attempt (attempt.Excluded e m)) ms ne own taken h = if_either (λ ts. ts ≡ []) (coordinator e == k) [] (tasks_of S k ms) refl h
told_none S n k (entry.Attempt (attempt.Foreign e m)) ms ne own taken h = if_either (λ ts. ts ≡ []) (coordinator e == k) [] (tasks_of S k ms) refl h
told_none S n k (entry.Device (device.Command m d c answer)) ms ne own taken h =
    if_false ((m == k) && not (is_write c)) (with_own S k (attempt_of k ms) (Told (entry.Device (device.Command m d c answer)) ∷ ms) (moved_on (answer_told answer) (tasks_of S k ms)))
    (tasks_of S k ms) (ap (λ b. b && not (is_write c)) (other_node m n k taken ne)) ∙ h
told_none S n k (entry.Packet e) ms ne own taken h = absurd taken
told_none S n k _ ms ne own taken h = h

-- ---- messages

pub dropped_none : (S : Setting) (k : ℕ) (o : Option (ℕ × DropCause)) (s : Scene) → NoTask S k s.moments → NoTask S k (dropped_so o s).moments
dropped_none S k None s h = h
dropped_none S k (Some x) s h = h

posted_none : (S : Setting) (k from to : ℕ) (m : Message) (s : Scene) → NoTask S k s.moments → NoTask S k (posting from to m s).moments
posted_none S k from to m s h =
    let o : net.Outcome = sending s.links from to (spelling m) in
    let e : Entry = entry.Packet (packet.Sent s.links.next from to (name_of m.body) (spelling m)) in
    if_either (λ (z : Scene). NoTask S k z.moments) (is_sent s.links m) (sent_as from to m o s) s (dropped_none S k o.sent.dropped (telling e (with_links s o.after)) h) h

-- ---- what a node gives

abbrev pub NotTakenOut : ℕ → Output → Type 0
NotTakenOut n (Tells e) = NotTaken n e
NotTakenOut n (Sends to b) = Unit {0}

pub passing_none : (S : Setting) (n k : ℕ) (os : List Output) (s : Scene) → k ≢ n → AllOwn n os → AllByRecursion (NotTakenOut n) os → NoTask S k s.moments → NoTask S k (passing n os s).moments
passing_none S n k [] s ne own taken h = h
passing_none S n k (Tells e ∷ os) s ne own taken h = passing_none S n k os (telling e s) ne own.1 taken.1 (told_none S n k e s.moments ne own.0 taken.0 h)
passing_none S n k (Sends to b ∷ os) s ne own taken h =
    let m : Message = record { sender = n; body = b } in passing_none S n k os (posting n to m s) ne own.1 taken.1 (posted_none S k n to m s h)

quiet_line : (n : ℕ) (e : Entry) → IsQuiet e → NotTaken n e
quiet_line n (entry.Device (device.Command m d k answer)) h = absurd h
quiet_line n (entry.Packet e) h = absurd h
quiet_line n _ h = tt

quiet_taken : (n : ℕ) (os : List Output) → AllQuiet os → AllByRecursion (NotTakenOut n) os
quiet_taken n [] h = tt
quiet_taken n (Tells e ∷ os) h = (quiet_line n e h.0, quiet_taken n os h.1)
quiet_taken n (Sends to b ∷ os) h = (tt, quiet_taken n os h.1)

first_taken : (n d : ℕ) (k : PrCommand) (a : Answer) (os : List Output) → CommandFirst n d k a os → AllByRecursion (NotTakenOut n) os
first_taken n d k a os h = subst (λ zs. AllByRecursion (NotTakenOut n) zs) (sym h.first) (refl, quiet_taken n h.others h.quiet)

due_taken : (n : ℕ) (a : Answer) (o : Option (ℕ × PrCommand)) (os : List Output) → TellsDue n a o os → AllByRecursion (NotTakenOut n) os
due_taken n a None os h = quiet_taken n os h
due_taken n a (Some due) os h = first_taken n due.0 due.1 a os h

pub told_taken : (n : ℕ) (node : Node) (i : Input) (os : List Output) → NodeTells n node i os → AllByRecursion (NotTakenOut n) os
told_taken n Down i os h = quiet_taken n os h
told_taken n (Up x) (input.Answered a) os h = due_taken n a (due_of x) os h
told_taken n (Up x) (input.Wrote d value a) os h = first_taken n d (command.Write value) a os h
told_taken n (Up x) _ os h = quiet_taken n os h
