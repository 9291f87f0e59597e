-- Most lines tell of no attempt, no start and no install, and of no node that goes down; what they leave.
use Rattle.std.specs.Prelude.{ℕ, ◌≡◌, ◌==◌, ◌&&◌, not, if◌then◌else◌, List, [], ◌∷◌, Option, None, Some, true}
use Rattle.std.specs.List.{AllByRecursion, list_any}
use Rattle.std.proofs.Common.{refl, ap, ◌∙◌}
use Rattle.cl_base.specs.declared.packet.DropCause.{DropCause}
use Rattle.cmm_attempt.proofs.Basics.{if_either}
use Rattle.history.specs.Member.{attempt_of, session_of}
use Rattle.history.specs.Moment.{Moment, Told}
use Rattle.history.specs.Order.{Always, since}
use Rattle.history.specs.Seizing.{is_attempt, is_number}
use Rattle.history.specs.Setting.{coordinator}
use Rattle.history.specs.Trace.{attempt, installed}
use Rattle.history.specs.UnderWay.{is_over, is_under_way}
use Rattle.interconnect.specs.Links as links
use Rattle.interconnect.specs.Links.{sending}
use Rattle.node_model.specs.declared.output.Output.{Output}
use Rattle.node_model.specs.declared.output.Output.TheVariants.{Sends, Tells}
use Rattle.run_history.specs.Scenes.{Scene, dropped_so, passing, posting, sent_as, telling, with_links}
use Rattle.run_seizings.specs.Seized.{has_installed}
use Rattle.run_seizings.proofs.Promising.{same_so}
use Rattle.status_report.specs.declared.attempt_entry.AttemptEntry.TheVariants as attempt_entry
use Rattle.status_report.specs.declared.entry.Entry.{Entry}
use Rattle.status_report.specs.declared.entry.Entry.TheVariants as entry
use Rattle.status_report.specs.declared.node_entry.NodeEntry.TheVariants as note
use Rattle.status_report.specs.declared.packet_entry.PacketEntry.TheVariants as packet
use Rattle.status_report.specs.declared.start_entry.StartEntry.TheVariants as start_entry
use Rattle.wire.specs.Spelling.{spelling}
use Rattle.wire.specs.declared.message.Message.{Message}
use Rattle.world_model.specs.Sends.{is_sent, name_of}
use Rattle.run_outcomes.specs.saves.Kept.{AllLeave, LeavesWay}
use Rattle.run_outcomes.specs.tasks.Others.{EndsLeading}

-- a node installs in its session, and a coordinator in the attempt that is under way
abbrev pub InstallsInSession : List Moment → Moment → Type 0
InstallsInSession before (installed m e) = (is_number e (session_of m before) ≡ true) × (coordinator e ≡ m → is_under_way e before ≡ true)
InstallsInSession before _ = Unit {0}

-- what is proved of each moment
abbrev pub LedHere : List Moment → Moment → Type 0
LedHere before x = EndsLeading before x × InstallsInSession before x

abbrev pub AllLed : List Moment → Type 0
AllLed ms = Always LedHere ms

-- neither an end for votes or for a member, nor an install
abbrev pub IsMildLine : Entry → Type 0
IsMildLine (entry.Attempt (attempt_entry.Votes e have need lacking)) = ⊥
IsMildLine (entry.Attempt (attempt_entry.Excluded e m)) = ⊥
IsMildLine (entry.Attempt (attempt_entry.Foreign e m)) = ⊥
IsMildLine (entry.Node m (note.Installed e)) = ⊥
IsMildLine _ = Unit {0}

abbrev pub IsMild : Output → Type 0
IsMild (Tells e) = IsMildLine e
IsMild (Sends to b) = Unit {0}

abbrev pub AllMild : List Output → Type 0
AllMild os = AllByRecursion IsMild os

-- nothing of an attempt either, no start, and no node that goes down
abbrev pub IsStillLine : Entry → Type 0
IsStillLine (entry.Attempt e) = ⊥
IsStillLine (entry.Start (start_entry.Started e members held count)) = ⊥
IsStillLine (entry.Node m (note.Down why)) = ⊥
IsStillLine (entry.Node m (note.Installed e)) = ⊥
IsStillLine _ = Unit {0}

abbrev pub IsStill : Output → Type 0
IsStill (Tells e) = IsStillLine e
IsStill (Sends to b) = Unit {0}

abbrev pub AllStill : List Output → Type 0
AllStill os = AllByRecursion IsStill os

line_mild : (e : Entry) → IsStillLine e → IsMildLine e
line_mild (entry.Attempt e) h = absurd h
line_mild (entry.Node m (note.Installed e)) h = absurd h
line_mild _ h = tt

pub still_mild : (os : List Output) → AllStill os → AllMild os
still_mild [] h = tt
still_mild (Tells e ∷ os) h = (line_mild e h.0, still_mild os h.1)
still_mild (Sends to b ∷ os) h = (tt, still_mild os h.1)

line_leaves : (e : Entry) → IsStillLine e → LeavesWay e
line_leaves (entry.Attempt e) h = absurd h
line_leaves (entry.Start (start_entry.Started e members held count)) h = absurd h
line_leaves (entry.Node m (note.Down why)) h = absurd h
line_leaves _ h = tt

pub still_leaves : (os : List Output) → AllStill os → AllLeave os
still_leaves [] h = tt
still_leaves (Tells e ∷ os) h = (line_leaves e h.0, still_leaves os h.1)
still_leaves (Sends to b ∷ os) h = (tt, still_leaves os h.1)

-- ---- they are told

told_led : (ms : List Moment) (e : Entry) → IsMildLine e → LedHere ms (Told e)
told_led ms (entry.Attempt (attempt_entry.Votes e have need lacking)) h = absurd h
told_led ms (entry.Attempt (attempt_entry.Excluded e m)) h = absurd h
told_led ms (entry.Attempt (attempt_entry.Foreign e m)) h = absurd h
told_led ms (entry.Node m (note.Installed e)) h = absurd h
told_led ms _ h = (tt, tt)

pub dropped_led : (o : Option (ℕ × DropCause)) (s : Scene) → AllLed s.moments → AllLed (dropped_so o s).moments
dropped_led None s k = k
dropped_led (Some drop) s k = ((tt, tt), k)

posting_led : (n to : ℕ) (m : Message) (s : Scene) → AllLed s.moments → AllLed (posting n to m s).moments
posting_led n to m s k =
    let o : links.Outcome = sending s.links n to (spelling m) in
    if_either (λ (t : Scene). AllLed t.moments) (is_sent s.links m) (sent_as n to m o s) s
    (dropped_led o.sent.dropped (telling (entry.Packet (packet.Sent s.links.next n to (name_of m.body) (spelling m))) (with_links s o.after)) ((tt, tt), k)) k

pub passing_led : (n : ℕ) (os : List Output) (s : Scene) → AllMild os → AllLed s.moments → AllLed (passing n os s).moments
passing_led n [] s mild k = k
passing_led n (Tells e ∷ os) s mild k = passing_led n os (telling e s) mild.1 (told_led s.moments e mild.0, k)
passing_led n (Sends to b ∷ os) s mild k =
    passing_led n os (posting n to (record { sender = n; body = b }) s) mild.1 (posting_led n to (record { sender = n; body = b }) s k)

-- what is installed stays
told_same : (k e : ℕ) (x : Entry) (ms : List Moment) → IsStillLine x → has_installed k e (Told x ∷ ms) ≡ has_installed k e ms
told_same k e (entry.Node m (note.Installed f)) ms h = absurd h
told_same k e _ ms h = refl

dropped_same : (k e : ℕ) (o : Option (ℕ × DropCause)) (s : Scene) → has_installed k e (dropped_so o s).moments ≡ has_installed k e s.moments
dropped_same k e None s = refl
dropped_same k e (Some drop) s = refl

posted_same : (k e n to : ℕ) (m : Message) (s : Scene) → has_installed k e (posting n to m s).moments ≡ has_installed k e s.moments
posted_same k e n to m s =
    let o : links.Outcome = sending s.links n to (spelling m) in
    if_either (λ (t : Scene). has_installed k e t.moments ≡ has_installed k e s.moments) (is_sent s.links m) (sent_as n to m o s) s
    (dropped_same k e o.sent.dropped (telling (entry.Packet (packet.Sent s.links.next n to (name_of m.body) (spelling m))) (with_links s o.after))) refl

pub passing_same : (k e n : ℕ) (os : List Output) (s : Scene) → AllStill os → has_installed k e (passing n os s).moments ≡ has_installed k e s.moments
passing_same k e n [] s h = refl
passing_same k e n (Tells x ∷ os) s h = passing_same k e n os (telling x s) h.1 ∙ told_same k e x s.moments h.0
passing_same k e n (Sends to b ∷ os) s h =
    passing_same k e n os (posting n to (record { sender = n; body = b }) s) h.1 ∙ posted_same k e n to (record { sender = n; body = b }) s

-- an attempt that begins is under way
pub begun_on : (e members : ℕ) (ms : List Moment) → is_under_way e (attempt e members ∷ ms) ≡ true
begun_on e members ms =
    ap (λ t. is_number e (if t then Some e else attempt_of (coordinator e) ms) && not (list_any (is_over e) (since (is_attempt e) (attempt e members ∷ ms)))) (same_so (coordinator e) (coordinator e) refl)
    ∙ (ap (λ t. (e == e) && not (list_any (is_over e) (if t then [] else attempt e members ∷ since (is_attempt e) ms))) (same_so e e refl) ∙ ap (λ t. t && true) (same_so e e refl))
