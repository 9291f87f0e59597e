-- The last number of a node is that of its last command, or a monitor asked since.
use Rattle.std.specs.Prelude.{ℕ, ◌+◌, ◌≡◌, ◌≢◌, ◌≤◌, ◌⊎◌, ◌==◌, ◌||◌, Bool, true, false, List, [], ◌∷◌, Option, None, Some, if◌then◌else◌}
use Rattle.std.specs.List.{AllByRecursion, list_any}
use Rattle.std.proofs.Common.{refl, sym, ap, subst, ◌∙◌, inl, inr, arith}
use Rattle.cl_base.specs.declared.packet.DropCause.{DropCause}
use Rattle.cmm_attempt.proofs.Basics.{if_either}
use Rattle.interconnect.specs.Links as links
use Rattle.interconnect.specs.Links.{sending}
use Rattle.schedule_text.specs.declared.event.Event.{Event}
use Rattle.schedule_text.specs.declared.line.Line.{Line}
use Rattle.status_report.specs.declared.call_entry.CallEntry.TheVariants as call
use Rattle.status_report.specs.declared.call_entry.ProbeResult.{ProbeResult}
use Rattle.status_report.specs.declared.command_entry.CommandEntry.TheVariants as command
use Rattle.status_report.specs.declared.entry.Entry.{Entry}
use Rattle.status_report.specs.declared.entry.Entry.TheVariants as entry
use Rattle.status_report.specs.declared.node_entry.NodeEntry.TheVariants as note
use Rattle.status_report.specs.declared.packet_entry.PacketEntry.{PacketEntry}
use Rattle.status_report.specs.declared.packet_entry.PacketEntry.TheVariants as packet
use Rattle.wire.specs.Spelling.{spelling}
use Rattle.wire.specs.declared.message.Message.{Message}
use Rattle.history.specs.Commands.{IsNumbered, is_asked_by, is_monitors, last_number}
use Rattle.history.specs.Moment.{Moment, Part, Said, Told}
use Rattle.history.specs.Order.{since}
use Rattle.history.specs.Seizing.{is_boot}
use Rattle.history.specs.Trace.{asked, up}
use Rattle.node_model.specs.declared.output.Output.{Output}
use Rattle.node_model.specs.declared.output.Output.TheVariants.{Sends, Tells}
use Rattle.world_model.specs.Sends.{is_sent, name_of}
use Rattle.run_history.proofs.Idle.{if_false, if_true}
use Rattle.run_history.specs.Scenes.{Scene, dropped_so, passing, posting, sent_as, telling, with_links}
use Rattle.run_commands.specs.Guards.{IsQuiet, AreQuiet}
use Rattle.run_commands.proofs.Waiting.{AreApart, IsApart}

-- whether a monitor asked since the last command of n
abbrev pub asked_between : ℕ → List Moment → Bool
asked_between n ms = list_any (is_monitors n) (since (is_asked_by n) (since (is_boot n) ms))

-- this is the last number of n
pub record Numbers (n : ℕ) (ms : List Moment) (last : ℕ) : Type 0 where
  pub low : last_number n ms ≤ last
  pub is : (last ≡ last_number n ms) ⊎ (asked_between n ms ≡ true)

-- it stays so
abbrev pub NumbersOn : ℕ → List Moment → List Moment → Type 0
NumbersOn n before after = (last : ℕ) → Numbers n before last → Numbers n after last

or_second : (a b : Bool) → b ≡ true → (a || b) ≡ true
or_second true b h = refl
or_second false b h = h

-- with a moment that is no boot and no command of n
more_numbers : (n : ℕ) (before after : List Moment) → last_number n after ≡ last_number n before → (asked_between n before ≡ true → asked_between n after ≡ true) → NumbersOn n before after
more_numbers n before after same still last h = record { low = subst (λ k. k ≤ last) (sym same) h.low; is = by h.is }
  where
    by : (last ≡ last_number n before) ⊎ (asked_between n before ≡ true) → (last ≡ last_number n after) ⊎ (asked_between n after ≡ true)
    by (inl e) = inl (e ∙ sym same)
    by (inr m) = inr (still m)

is_other : (a b : ℕ) → a ≢ b → (a == b) ≡ false
is_other a b ne = grind arith

-- a line
pub apart_numbers : (n : ℕ) (e : Entry) (ms : List Moment) → IsApart n e → NumbersOn n ms (Told e ∷ ms)
apart_numbers n (entry.Node m note.Up) ms ne =
    let same : (if m == n then [] else up m ∷ since (is_boot n) ms) ≡ up m ∷ since (is_boot n) ms = if_false (m == n) [] (up m ∷ since (is_boot n) ms) (is_other m n ne) in
    more_numbers n ms (up m ∷ ms) (if_false (m == n) 0 (last_number n ms) (is_other m n ne)) (λ h. subst (λ xs. list_any (is_monitors n) (since (is_asked_by n) xs) ≡ true) (sym same) h)
apart_numbers n (entry.Node m note.Ticked) ms ne = more_numbers n ms (Told (entry.Node m note.Ticked) ∷ ms) refl (λ h. h)
apart_numbers n (entry.Node m note.Saved) ms ne = more_numbers n ms (Told (entry.Node m note.Saved) ∷ ms) refl (λ h. h)
apart_numbers n (entry.Node m (note.Down why)) ms ne = more_numbers n ms (Told (entry.Node m (note.Down why)) ∷ ms) refl (λ h. h)
apart_numbers n (entry.Node m (note.Member e)) ms ne = more_numbers n ms (Told (entry.Node m (note.Member e)) ∷ ms) refl (λ h. h)
apart_numbers n (entry.Node m (note.Installed e)) ms ne = more_numbers n ms (Told (entry.Node m (note.Installed e)) ∷ ms) refl (λ h. h)
apart_numbers n (entry.Command (command.Asked m q)) ms ne =
    let same : (if m == n then [] else asked m q ∷ since (is_asked_by n) (since (is_boot n) ms)) ≡ asked m q ∷ since (is_asked_by n) (since (is_boot n) ms) =
    if_false (m == n) [] (asked m q ∷ since (is_asked_by n) (since (is_boot n) ms)) (is_other m n ne) in
    more_numbers n ms (asked m q ∷ ms) (if_false (m == n) q (last_number n ms) (is_other m n ne)) (λ h. subst (λ xs. list_any (is_monitors n) xs ≡ true) (sym same) h)
apart_numbers n (entry.Command (command.Answered m q reply)) ms ne = more_numbers n ms (Told (entry.Command (command.Answered m q reply)) ∷ ms) refl (λ h. h)
apart_numbers n (entry.Packet e) ms ne = absurd ne
apart_numbers n (entry.Call e) ms ne = more_numbers n ms (Told (entry.Call e) ∷ ms) refl (or_second (is_monitors n (Told (entry.Call e))) (asked_between n ms))
apart_numbers n (entry.Answered e) ms ne = more_numbers n ms (Told (entry.Answered e) ∷ ms) refl (λ h. h)
apart_numbers n entry.Powered ms ne = more_numbers n ms (Told entry.Powered ∷ ms) refl (λ h. h)
apart_numbers n (entry.Device e) ms ne = more_numbers n ms (Told (entry.Device e) ∷ ms) refl (λ h. h)
apart_numbers n (entry.Attempt e) ms ne = more_numbers n ms (Told (entry.Attempt e) ∷ ms) refl (λ h. h)
apart_numbers n (entry.Start e) ms ne = more_numbers n ms (Told (entry.Start e) ∷ ms) refl (λ h. h)
apart_numbers n (entry.Update e) ms ne = more_numbers n ms (Told (entry.Update e) ∷ ms) refl (λ h. h)
apart_numbers n (entry.Schedule e) ms ne = more_numbers n ms (Told (entry.Schedule e) ∷ ms) refl (λ h. h)
apart_numbers n (entry.Status e) ms ne = more_numbers n ms (Told (entry.Status e) ∷ ms) refl (λ h. h)
apart_numbers n (entry.Address e) ms ne = more_numbers n ms (Told (entry.Address e) ∷ ms) refl (λ h. h)

pub packet_numbers : (n : ℕ) (e : PacketEntry) (ms : List Moment) → NumbersOn n ms (Told (entry.Packet e) ∷ ms)
packet_numbers n e ms = more_numbers n ms (Told (entry.Packet e) ∷ ms) refl (λ h. h)

pub said_numbers : (n : ℕ) (l : Line) (ms : List Moment) → NumbersOn n ms (Said l ∷ ms)
said_numbers n l ms = more_numbers n ms (Said l ∷ ms) refl (λ h. h)

pub part_numbers : (n : ℕ) (e : Event) (ms : List Moment) → NumbersOn n ms (Part e ∷ ms)
part_numbers n e ms = more_numbers n ms (Part e ∷ ms) refl (λ h. h)

-- ---- what is told and sent

dropped_numbers : (n : ℕ) (o : Option (ℕ × DropCause)) (s : Scene) → NumbersOn n s.moments (dropped_so o s).moments
dropped_numbers n None s last h = h
dropped_numbers n (Some drop) s last h = packet_numbers n (packet.Dropped drop.0 drop.1) s.moments last h

posting_numbers : (n from to : ℕ) (m : Message) (s : Scene) → NumbersOn n s.moments (posting from to m s).moments
posting_numbers n from to m s =
    let o : links.Outcome = sending s.links from to (spelling m) in
    let e : PacketEntry = packet.Sent s.links.next from to (name_of m.body) (spelling m) in
    let t : Scene = telling (entry.Packet e) (with_links s o.after) in
    if_either (λ (z : Scene). NumbersOn n s.moments z.moments) (is_sent s.links m) (sent_as from to m o s) s
    (λ last h. dropped_numbers n o.sent.dropped t last (packet_numbers n e s.moments last h)) (λ last h. h)

pub passing_numbers : (k n : ℕ) (os : List Output) (s : Scene) → AreApart k os → NumbersOn k s.moments (passing n os s).moments
passing_numbers k n [] s apart last h = h
passing_numbers k n (Tells e ∷ os) s apart last h = passing_numbers k n os (telling e s) apart.1 last (apart_numbers k e s.moments apart.0 last h)
passing_numbers k n (Sends to b ∷ os) s apart last h =
    let m : Message = record { sender = n; body = b } in
    passing_numbers k n os (posting n to m s) apart.1 last (posting_numbers k n to m s last h)

-- ---- what a node gives in a step that takes no number

-- a line of no boot, and by which nothing is asked
abbrev pub IsSteady : Entry → Type 0
IsSteady (entry.Node m note.Up) = ⊥
IsSteady (entry.Command (command.Asked m q)) = ⊥
IsSteady (entry.Packet e) = ⊥
IsSteady _ = Unit {0}

abbrev pub IsSteadyOutput : Output → Type 0
IsSteadyOutput (Tells e) = IsSteady e
IsSteadyOutput (Sends to b) = Unit {0}

abbrev pub AreSteady : List Output → Type 0
AreSteady os = AllByRecursion IsSteadyOutput os

quiet_steady : (e : Entry) → IsQuiet e → IsSteady e
quiet_steady (entry.Node m note.Up) h = absurd h
quiet_steady (entry.Node m note.Ticked) h = tt
quiet_steady (entry.Node m note.Saved) h = tt
quiet_steady (entry.Node m (note.Down why)) h = tt
quiet_steady (entry.Node m (note.Member e)) h = tt
quiet_steady (entry.Node m (note.Installed e)) h = tt
quiet_steady (entry.Command e) h = absurd h
quiet_steady (entry.Packet e) h = absurd h
quiet_steady _ h = tt

pub quiets_steady : (os : List Output) → AreQuiet os → AreSteady os
quiets_steady [] h = tt
quiets_steady (Tells e ∷ os) h = (quiet_steady e h.0, quiets_steady os h.1)
quiets_steady (Sends to b ∷ os) h = (tt, quiets_steady os h.1)

steady_numbers : (n : ℕ) (e : Entry) (ms : List Moment) → IsSteady e → NumbersOn n ms (Told e ∷ ms)
steady_numbers n (entry.Node m note.Up) ms h = absurd h
steady_numbers n (entry.Node m note.Ticked) ms h = apart_numbers n (entry.Node m note.Ticked) ms tt
steady_numbers n (entry.Node m note.Saved) ms h = apart_numbers n (entry.Node m note.Saved) ms tt
steady_numbers n (entry.Node m (note.Down why)) ms h = apart_numbers n (entry.Node m (note.Down why)) ms tt
steady_numbers n (entry.Node m (note.Member e)) ms h = apart_numbers n (entry.Node m (note.Member e)) ms tt
steady_numbers n (entry.Node m (note.Installed e)) ms h = apart_numbers n (entry.Node m (note.Installed e)) ms tt
steady_numbers n (entry.Command (command.Asked m q)) ms h = absurd h
steady_numbers n (entry.Command (command.Answered m q reply)) ms h = more_numbers n ms (Told (entry.Command (command.Answered m q reply)) ∷ ms) refl (λ k. k)
steady_numbers n (entry.Packet e) ms h = absurd h
steady_numbers n (entry.Call e) ms h = apart_numbers n (entry.Call e) ms tt
steady_numbers n (entry.Answered e) ms h = apart_numbers n (entry.Answered e) ms tt
steady_numbers n entry.Powered ms h = apart_numbers n entry.Powered ms tt
steady_numbers n (entry.Device e) ms h = apart_numbers n (entry.Device e) ms tt
steady_numbers n (entry.Attempt e) ms h = apart_numbers n (entry.Attempt e) ms tt
steady_numbers n (entry.Start e) ms h = apart_numbers n (entry.Start e) ms tt
steady_numbers n (entry.Update e) ms h = apart_numbers n (entry.Update e) ms tt
steady_numbers n (entry.Schedule e) ms h = apart_numbers n (entry.Schedule e) ms tt
steady_numbers n (entry.Status e) ms h = apart_numbers n (entry.Status e) ms tt
steady_numbers n (entry.Address e) ms h = apart_numbers n (entry.Address e) ms tt

pub passing_steady : (k n : ℕ) (os : List Output) (s : Scene) → AreSteady os → NumbersOn k s.moments (passing n os s).moments
passing_steady k n [] s steady last h = h
passing_steady k n (Tells e ∷ os) s steady last h = passing_steady k n os (telling e s) steady.1 last (steady_numbers k e s.moments steady.0 last h)
passing_steady k n (Sends to b ∷ os) s steady last h =
    let m : Message = record { sender = n; body = b } in
    passing_steady k n os (posting n to m s) steady.1 last (posting_numbers k n to m s last h)

-- ---- a number is taken

is_here : (k : ℕ) → (k == k) ≡ true
is_here k = grind arith

le_same : (k : ℕ) → k ≤ k
le_same k = omega arith

next_low : (a b q : ℕ) → a ≤ b → q ≡ b + 1 → a + 1 ≤ q
next_low a b q h is = grind arith

up_low : (a b q : ℕ) → a ≤ b → q ≡ b + 1 → a ≤ q
up_low a b q h is = grind arith

-- by a command: it is numbered so
pub asked_numbered : (n q last : ℕ) (ms : List Moment) → q ≡ last + 1 → Numbers n ms last → IsNumbered n q ms
asked_numbered n q last ms is h = (next_low (last_number n ms) last q h.low is, by h.is)
  where
    by : (last ≡ last_number n ms) ⊎ (asked_between n ms ≡ true) → (q ≡ last_number n ms + 1) ⊎ (asked_between n ms ≡ true)
    by (inl e) = inl (is ∙ ap (λ k. k + 1) e)
    by (inr m) = inr m

pub asked_numbers : (n q : ℕ) (ms : List Moment) → Numbers n (asked n q ∷ ms) q
asked_numbers n q ms =
    let same : last_number n (asked n q ∷ ms) ≡ q = if_true (n == n) q (last_number n ms) (is_here n) in
    record { low = subst (λ k. k ≤ q) (sym same) (le_same q); is = inl (sym same) }

-- by a monitor, which asked in this line
pub monitor_numbers : (n q last : ℕ) (r : List ℕ) (found : ProbeResult) (ms : List Moment) → is_monitors n (Told (entry.Call (call.Probed n r found))) ≡ true → q ≡ last + 1 → Numbers n ms last
    → Numbers n (Told (entry.Call (call.Probed n r found)) ∷ ms) q
monitor_numbers n q last r found ms asks is h =
    record { low = up_low (last_number n ms) last q h.low is; is = inr (or_first (is_monitors n (Told (entry.Call (call.Probed n r found)))) (asked_between n ms) asks) }
  where
    or_first : (a b : Bool) → a ≡ true → (a || b) ≡ true
    or_first true b k = refl
    or_first false b k = cc

-- a node goes up
pub boot_numbers : (n : ℕ) (ms : List Moment) → Numbers n (up n ∷ ms) 0
boot_numbers n ms =
    let same : last_number n (up n ∷ ms) ≡ 0 = if_true (n == n) 0 (last_number n ms) (is_here n) in
    record { low = subst (λ k. k ≤ 0) (sym same) (le_same 0); is = inl (sym same) }
