-- How a moment changes whether a command waits.
use Rattle.std.specs.Prelude.{ℕ, ◌+◌, ◌≡◌, ◌≢◌, ◌≤◌, ◌==◌, ◌&&◌, ◌||◌, not, Bool, true, false, List, [], ◌∷◌, if◌then◌else◌}
use Rattle.std.specs.List.{AllByRecursion, list_any}
use Rattle.std.proofs.Common.{refl, sym, ap, subst, ◌∙◌, arith}
use Rattle.cl_base.specs.declared.packet.DropCause.{DropCause}
use Rattle.cmm_attempt.proofs.Basics.{if_either}
use Rattle.interconnect.specs.Links as links
use Rattle.interconnect.specs.Links.{sending}
use Rattle.schedule_text.specs.declared.event.Event.{Event}
use Rattle.schedule_text.specs.declared.line.Line.{Line}
use Rattle.status_report.specs.declared.call_entry.CallEntry.TheVariants as call
use Rattle.status_report.specs.declared.call_entry.ProbeResult.{ProbeResult}
use Rattle.status_report.specs.declared.command_entry.Answer.{Answer}
use Rattle.status_report.specs.declared.command_entry.CommandEntry.TheVariants as command
use Rattle.status_report.specs.declared.entry.Entry.{Entry}
use Rattle.status_report.specs.declared.entry.Entry.TheVariants as entry
use Rattle.status_report.specs.declared.node_entry.NodeEntry.TheVariants as note
use Rattle.status_report.specs.declared.packet_entry.PacketEntry.{PacketEntry}
use Rattle.status_report.specs.declared.packet_entry.PacketEntry.TheVariants as packet
use Rattle.std.specs.Prelude.{Option, None, Some}
use Rattle.wire.specs.Spelling.{spelling}
use Rattle.wire.specs.declared.message.Message.{Message}
use Rattle.history.specs.Commands.{is_answered_to, is_monitors, waits}
use Rattle.history.specs.Moment.{Moment, Part, Said, Told}
use Rattle.history.specs.Order.{since}
use Rattle.history.specs.Requests.{is_asking}
use Rattle.history.specs.Seizing.{is_boot}
use Rattle.history.specs.Trace.{answered, asked, up}
use Rattle.node_model.specs.declared.output.Output.{Output}
use Rattle.node_model.specs.declared.output.Output.TheVariants.{Sends, Tells}
use Rattle.world_model.specs.Sends.{is_sent, name_of}
use Rattle.run_history.proofs.Idle.{if_false, if_true}
use Rattle.run_history.specs.Scenes.{Scene, dropped_so, passing, posting, sent_as, telling, with_links}
use Rattle.run_commands.specs.Guards.{AreQuiet, IsQuiet}
use Rattle.run_commands.specs.Answers.{AnswerWaits, AnswersWait}
use Rattle.run_commands.proofs.Tallies.{calm_fewer, le_same, le_then, tally, tally_more, waiting_of}

-- ---- what waits

-- whether the command of this number is answered since the node went up
abbrev pub answered_since : ℕ → ℕ → List Moment → Bool
answered_since n q ms = list_any (is_answered_to n q) (since (is_boot n) ms)

-- it waits, and is not answered since the node went up
abbrev pub Open : ℕ → ℕ → List Moment → Type 0
Open n q ms = (waits n q ms ≡ true) × (answered_since n q ms ≡ false)

-- how often monitors asked since then
abbrev pub monitors_of : ℕ → List Moment → ℕ
monitors_of n ms = tally (is_monitors n) (since (is_boot n) ms)

-- each command of node k that waits waits still, none is answered, no monitor is forgotten, and no more commands wait
pub record WaitOn (k : ℕ) (before after : List Moment) : Type 0 where
  pub open_still : (q : ℕ) → Open k q before → Open k q after
  pub unanswered : (q : ℕ) → answered_since k q before ≡ false → answered_since k q after ≡ false
  pub monitors : monitors_of k before ≤ monitors_of k after
  pub fewer : waiting_of k after ≤ waiting_of k before

pub wait_same : (k : ℕ) (ms : List Moment) → WaitOn k ms ms
wait_same k ms = record { open_still = λ q h. h; unanswered = λ q h. h; monitors = le_same (monitors_of k ms); fewer = le_same (waiting_of k ms) }

pub wait_then : (k : ℕ) (a b c : List Moment) → WaitOn k a b → WaitOn k b c → WaitOn k a c
wait_then k a b c f g = record {
  open_still = λ q h. g.open_still q (f.open_still q h);
  unanswered = λ q h. g.unanswered q (f.unanswered q h);
  monitors = le_then (monitors_of k a) (monitors_of k b) (monitors_of k c) f.monitors g.monitors;
  fewer = le_then (waiting_of k c) (waiting_of k b) (waiting_of k a) g.fewer f.fewer;
}

-- a moment more, where the node does not go up
more : (k : ℕ) (m : Moment) (ms : List Moment) → monitors_of k ms ≤ tally (is_monitors k) (m ∷ since (is_boot k) ms)
more k m ms = tally_more (is_monitors k) m (since (is_boot k) ms)

-- ---- a command is asked

-- one that waits waits on
pub asked_still : (k m q r : ℕ) (ms : List Moment) → Open k r ms → Open k r (asked m q ∷ ms)
asked_still k m q r ms h = (by_test (is_asking k r (asked m q)), h.1)
  where
    by_test : (b : Bool) → ((b || list_any (is_asking k r) (since (is_boot k) ms)) && not (list_any (is_answered_to k r) (if b then [] else asked m q ∷ since (is_asking k r) ms))) ≡ true
    by_test true = refl
    by_test false = h.0

pub asked_monitors : (k m q : ℕ) (ms : List Moment) → monitors_of k ms ≤ monitors_of k (asked m q ∷ ms)
asked_monitors k m q ms = more k (asked m q) ms

is_here : (k : ℕ) → (k == k) ≡ true
is_here k = grind arith

and_here : (a b : Bool) → a ≡ true → b ≡ true → (a && b) ≡ true
and_here true true g h = refl
and_here true false g h = cc
and_here false b g h = cc

-- behind its own line it waits
pub asked_here : (k q : ℕ) (ms : List Moment) → answered_since k q ms ≡ false → Open k q (asked k q ∷ ms)
asked_here k q ms fresh = (by_test (is_asking k q (asked k q)) (and_here (k == k) (q == q) (is_here k) (is_here q)), fresh)
  where
    by_test : (b : Bool) → b ≡ true
        → ((b || list_any (is_asking k q) (since (is_boot k) ms)) && not (list_any (is_answered_to k q) (if b then [] else asked k q ∷ since (is_asking k q) ms))) ≡ true
    by_test true is = refl
    by_test false is = cc

-- ---- a command is answered

is_other : (a b : ℕ) → a ≢ b → (a == b) ≡ false
is_other a b ne = grind arith

and_first : (a b : Bool) → a ≡ false → (a && b) ≡ false
and_first true b h = cc
and_first false b h = refl

and_second : (a b : Bool) → b ≡ false → (a && b) ≡ false
and_second true b h = h
and_second false b h = refl

or_none : (a b : Bool) → a ≡ false → (a || b) ≡ b
or_none true b h = cc
or_none false b h = refl

still : (k m q r : ℕ) (reply : Answer) (ms : List Moment) → ((m == k) && (q == r)) ≡ false → Open k r ms → Open k r (answered m q reply ∷ ms)
still k m q r reply ms other h = (by_test ((m == k) && (q == r)) other, or_none ((m == k) && (q == r)) (answered_since k r ms) other ∙ h.1)
  where
    by_test : (b : Bool) → b ≡ false → (list_any (is_asking k r) (since (is_boot k) ms) && not (b || list_any (is_answered_to k r) (since (is_asking k r) ms))) ≡ true
    by_test true is = cc
    by_test false is = h.0

-- one of another number waits on
pub other_waits : (k q r : ℕ) (reply : Answer) (ms : List Moment) → r ≢ q → Open k r ms → Open k r (answered k q reply ∷ ms)
other_waits k q r reply ms ne h = still k k q r reply ms (and_second (k == k) (q == r) (is_other q r (λ same. ne (sym same)))) h

-- .. and is not answered by it
pub other_unanswered : (k q r : ℕ) (reply : Answer) (ms : List Moment) → r ≢ q → answered_since k r ms ≡ false → answered_since k r (answered k q reply ∷ ms) ≡ false
other_unanswered k q r reply ms ne h = or_none ((k == k) && (q == r)) (answered_since k r ms) (and_second (k == k) (q == r) (is_other q r (λ same. ne (sym same)))) ∙ h

pub answered_monitors : (k q : ℕ) (reply : Answer) (ms : List Moment) → monitors_of k ms ≤ monitors_of k (answered k q reply ∷ ms)
answered_monitors k q reply ms = more k (answered k q reply) ms

-- another node asks
others_asked : (k m q : ℕ) (ms : List Moment) → m ≢ k → WaitOn k ms (asked m q ∷ ms)
others_asked k m q ms ne = record {
  open_still = λ r h. asked_still k m q r ms h;
  unanswered = λ r h. h;
  monitors = asked_monitors k m q ms;
  fewer = calm_fewer k (asked m q) ms refl (λ r. refl) (λ later. and_first (m == k) (not (list_any (is_answered_to k q) later)) (is_other m k ne));
}

pub others_wait : (k m q : ℕ) (reply : Answer) (ms : List Moment) → m ≢ k → WaitOn k ms (answered m q reply ∷ ms)
others_wait k m q reply ms ne = record {
  open_still = λ r h. still k m q r reply ms (and_first (m == k) (q == r) (is_other m k ne)) h;
  unanswered = λ r h. or_none ((m == k) && (q == r)) (answered_since k r ms) (and_first (m == k) (q == r) (is_other m k ne)) ∙ h;
  monitors = more k (answered m q reply) ms;
  fewer = calm_fewer k (answered m q reply) ms refl (λ r. and_first (m == k) (q == r) (is_other m k ne)) (λ later. refl);
}

-- ---- a node goes up

pub others_boot : (k m : ℕ) (ms : List Moment) → m ≢ k → WaitOn k ms (up m ∷ ms)
others_boot k m ms ne =
    let same : (if m == k then [] else up m ∷ since (is_boot k) ms) ≡ up m ∷ since (is_boot k) ms = if_false (m == k) [] (up m ∷ since (is_boot k) ms) (is_other m k ne) in
    record {
      open_still = λ r h. (
        subst (λ xs. (list_any (is_asking k r) xs && not (list_any (is_answered_to k r) (since (is_asking k r) ms))) ≡ true) (sym same) h.0,
        subst (λ xs. list_any (is_answered_to k r) xs ≡ false) (sym same) h.1,
      );
      unanswered = λ r h. subst (λ xs. list_any (is_answered_to k r) xs ≡ false) (sym same) h;
      monitors = subst (λ xs. monitors_of k ms ≤ tally (is_monitors k) xs) (sym same) (more k (up m) ms);
      fewer = calm_fewer k (up m) ms (is_other m k ne) (λ r. refl) (λ later. refl);
    }

-- nothing was answered since
pub boot_unanswered : (k q : ℕ) (ms : List Moment) → answered_since k q (up k ∷ ms) ≡ false
boot_unanswered k q ms = ap (λ xs. list_any (is_answered_to k q) xs) (if_true (k == k) [] (up k ∷ since (is_boot k) ms) (is_here k))

-- ---- other lines

pub quiet_waits : (k : ℕ) (e : Entry) (ms : List Moment) → IsQuiet e → WaitOn k ms (Told e ∷ ms)
quiet_waits k (entry.Node m note.Up) ms quiet = absurd quiet
quiet_waits k (entry.Node m note.Ticked) ms quiet = record { open_still = λ r h. h; unanswered = λ r h. h; monitors = more k (Told (entry.Node m note.Ticked)) ms; fewer = calm_fewer k (Told (entry.Node m note.Ticked)) ms refl (λ q. refl) (λ later. refl) }
quiet_waits k (entry.Node m note.Saved) ms quiet = record { open_still = λ r h. h; unanswered = λ r h. h; monitors = more k (Told (entry.Node m note.Saved)) ms; fewer = calm_fewer k (Told (entry.Node m note.Saved)) ms refl (λ q. refl) (λ later. refl) }
quiet_waits k (entry.Node m (note.Down why)) ms quiet = record { open_still = λ r h. h; unanswered = λ r h. h; monitors = more k (Told (entry.Node m (note.Down why))) ms; fewer = calm_fewer k (Told (entry.Node m (note.Down why))) ms refl (λ q. refl) (λ later. refl) }
quiet_waits k (entry.Node m (note.Member e)) ms quiet = record { open_still = λ r h. h; unanswered = λ r h. h; monitors = more k (Told (entry.Node m (note.Member e))) ms; fewer = calm_fewer k (Told (entry.Node m (note.Member e))) ms refl (λ q. refl) (λ later. refl) }
quiet_waits k (entry.Node m (note.Installed e)) ms quiet = record { open_still = λ r h. h; unanswered = λ r h. h; monitors = more k (Told (entry.Node m (note.Installed e))) ms; fewer = calm_fewer k (Told (entry.Node m (note.Installed e))) ms refl (λ q. refl) (λ later. refl) }
quiet_waits k (entry.Command e) ms quiet = absurd quiet
quiet_waits k (entry.Packet e) ms quiet = absurd quiet
quiet_waits k (entry.Call e) ms quiet = record { open_still = λ r h. h; unanswered = λ r h. h; monitors = more k (Told (entry.Call e)) ms; fewer = calm_fewer k (Told (entry.Call e)) ms refl (λ q. refl) (λ later. refl) }
quiet_waits k (entry.Answered e) ms quiet = record { open_still = λ r h. h; unanswered = λ r h. h; monitors = more k (Told (entry.Answered e)) ms; fewer = calm_fewer k (Told (entry.Answered e)) ms refl (λ q. refl) (λ later. refl) }
quiet_waits k entry.Powered ms quiet = record { open_still = λ r h. h; unanswered = λ r h. h; monitors = more k (Told entry.Powered) ms; fewer = calm_fewer k (Told entry.Powered) ms refl (λ q. refl) (λ later. refl) }
quiet_waits k (entry.Device e) ms quiet = record { open_still = λ r h. h; unanswered = λ r h. h; monitors = more k (Told (entry.Device e)) ms; fewer = calm_fewer k (Told (entry.Device e)) ms refl (λ q. refl) (λ later. refl) }
quiet_waits k (entry.Attempt e) ms quiet = record { open_still = λ r h. h; unanswered = λ r h. h; monitors = more k (Told (entry.Attempt e)) ms; fewer = calm_fewer k (Told (entry.Attempt e)) ms refl (λ q. refl) (λ later. refl) }
quiet_waits k (entry.Start e) ms quiet = record { open_still = λ r h. h; unanswered = λ r h. h; monitors = more k (Told (entry.Start e)) ms; fewer = calm_fewer k (Told (entry.Start e)) ms refl (λ q. refl) (λ later. refl) }
quiet_waits k (entry.Update e) ms quiet = record { open_still = λ r h. h; unanswered = λ r h. h; monitors = more k (Told (entry.Update e)) ms; fewer = calm_fewer k (Told (entry.Update e)) ms refl (λ q. refl) (λ later. refl) }
quiet_waits k (entry.Schedule e) ms quiet = record { open_still = λ r h. h; unanswered = λ r h. h; monitors = more k (Told (entry.Schedule e)) ms; fewer = calm_fewer k (Told (entry.Schedule e)) ms refl (λ q. refl) (λ later. refl) }
quiet_waits k (entry.Status e) ms quiet = record { open_still = λ r h. h; unanswered = λ r h. h; monitors = more k (Told (entry.Status e)) ms; fewer = calm_fewer k (Told (entry.Status e)) ms refl (λ q. refl) (λ later. refl) }
quiet_waits k (entry.Address e) ms quiet = record { open_still = λ r h. h; unanswered = λ r h. h; monitors = more k (Told (entry.Address e)) ms; fewer = calm_fewer k (Told (entry.Address e)) ms refl (λ q. refl) (λ later. refl) }

pub packet_waits : (k : ℕ) (e : PacketEntry) (ms : List Moment) → WaitOn k ms (Told (entry.Packet e) ∷ ms)
packet_waits k e ms = record { open_still = λ r h. h; unanswered = λ r h. h; monitors = le_same (monitors_of k ms); fewer = calm_fewer k (Told (entry.Packet e)) ms refl (λ q. refl) (λ later. refl) }

-- a line of the schedule, or a part of a round
pub said_waits : (k : ℕ) (l : Line) (ms : List Moment) → WaitOn k ms (Said l ∷ ms)
said_waits k l ms = record { open_still = λ r h. h; unanswered = λ r h. h; monitors = le_same (monitors_of k ms); fewer = calm_fewer k (Said l) ms refl (λ q. refl) (λ later. refl) }

pub part_waits : (k : ℕ) (e : Event) (ms : List Moment) → WaitOn k ms (Part e ∷ ms)
part_waits k e ms = record { open_still = λ r h. h; unanswered = λ r h. h; monitors = le_same (monitors_of k ms); fewer = calm_fewer k (Part e) ms refl (λ q. refl) (λ later. refl) }

-- a monitor that asks is one more
pub probed_more : (k : ℕ) (r : List ℕ) (found : ProbeResult) (ms : List Moment) → is_monitors k (Told (entry.Call (call.Probed k r found))) ≡ true
    → monitors_of k (Told (entry.Call (call.Probed k r found)) ∷ ms) ≡ 1 + monitors_of k ms
probed_more k r found ms is = ap (λ b. if b then 1 + monitors_of k ms else monitors_of k ms) is

pub quiet_said : (e : Entry) (ms : List Moment) → IsQuiet e → AnswerWaits ms (Told e)
quiet_said (entry.Node m e) ms quiet = tt
quiet_said (entry.Command e) ms quiet = absurd quiet
quiet_said (entry.Packet e) ms quiet = absurd quiet
quiet_said _ ms quiet = tt

-- ---- what a node gives

-- what outputs leave of the commands that wait, and of the answers
pub record Leaves (before after : List Moment) : Type 0 where
  pub wait : (k : ℕ) → WaitOn k before after
  pub said : AnswersWait before → AnswersWait after

pub leaves_same : (ms : List Moment) → Leaves ms ms
leaves_same ms = record { wait = λ k. wait_same k ms; said = λ h. h }

pub leaves_then : (a b c : List Moment) → Leaves a b → Leaves b c → Leaves a c
leaves_then a b c f g = record { wait = λ k. wait_then k a b c (f.wait k) (g.wait k); said = λ h. g.said (f.said h) }

pub packet_leaves : (e : PacketEntry) (ms : List Moment) → Leaves ms (Told (entry.Packet e) ∷ ms)
packet_leaves e ms = record { wait = λ k. packet_waits k e ms; said = λ h. (tt, h) }

pub quiet_leaves : (e : Entry) (ms : List Moment) → IsQuiet e → Leaves ms (Told e ∷ ms)
quiet_leaves e ms quiet = record { wait = λ k. quiet_waits k e ms quiet; said = λ h. (quiet_said e ms quiet, h) }

pub dropped_leaves : (o : Option (ℕ × DropCause)) (s : Scene) → Leaves s.moments (dropped_so o s).moments
dropped_leaves None s = leaves_same s.moments
dropped_leaves (Some drop) s = packet_leaves (packet.Dropped drop.0 drop.1) s.moments

pub posting_leaves : (from to : ℕ) (m : Message) (s : Scene) → Leaves s.moments (posting from to m s).moments
posting_leaves from to m s =
    let o : links.Outcome = sending s.links from to (spelling m) in
    let e : PacketEntry = packet.Sent s.links.next from to (name_of m.body) (spelling m) in
    let t : Scene = telling (entry.Packet e) (with_links s o.after) in
    if_either (λ (z : Scene). Leaves s.moments z.moments) (is_sent s.links m) (sent_as from to m o s) s
    (leaves_then s.moments t.moments (dropped_so o.sent.dropped t).moments (packet_leaves e s.moments) (dropped_leaves o.sent.dropped t)) (leaves_same s.moments)

pub passing_quiet : (n : ℕ) (os : List Output) (s : Scene) → AreQuiet os → Leaves s.moments (passing n os s).moments
passing_quiet n [] s quiet = leaves_same s.moments
passing_quiet n (Tells e ∷ os) s quiet =
    leaves_then s.moments (telling e s).moments (passing n os (telling e s)).moments (quiet_leaves e s.moments quiet.0) (passing_quiet n os (telling e s) quiet.1)
passing_quiet n (Sends to b ∷ os) s quiet =
    let t : Scene = posting n to (record { sender = n; body = b }) s in
    leaves_then s.moments t.moments (passing n os t).moments (posting_leaves n to (record { sender = n; body = b }) s) (passing_quiet n os t quiet.1)

-- ---- what another node gives

-- the line is of no boot and of no command of node k
abbrev pub IsApart : ℕ → Entry → Type 0
IsApart k (entry.Node m note.Up) = m ≢ k
IsApart k (entry.Command (command.Asked m q)) = m ≢ k
IsApart k (entry.Command (command.Answered m q reply)) = m ≢ k
IsApart k (entry.Packet e) = ⊥
IsApart k _ = Unit {0}

abbrev pub IsApartOutput : ℕ → Output → Type 0
IsApartOutput k (Tells e) = IsApart k e
IsApartOutput k (Sends to b) = Unit {0}

abbrev pub AreApart : ℕ → List Output → Type 0
AreApart k os = AllByRecursion (IsApartOutput k) os

apart_waits : (k : ℕ) (e : Entry) (ms : List Moment) → IsApart k e → WaitOn k ms (Told e ∷ ms)
apart_waits k (entry.Node m note.Up) ms ne = others_boot k m ms ne
apart_waits k (entry.Node m note.Ticked) ms ne = quiet_waits k (entry.Node m note.Ticked) ms tt
apart_waits k (entry.Node m note.Saved) ms ne = quiet_waits k (entry.Node m note.Saved) ms tt
apart_waits k (entry.Node m (note.Down why)) ms ne = quiet_waits k (entry.Node m (note.Down why)) ms tt
apart_waits k (entry.Node m (note.Member e)) ms ne = quiet_waits k (entry.Node m (note.Member e)) ms tt
apart_waits k (entry.Node m (note.Installed e)) ms ne = quiet_waits k (entry.Node m (note.Installed e)) ms tt
apart_waits k (entry.Command (command.Asked m q)) ms ne = others_asked k m q ms ne
apart_waits k (entry.Command (command.Answered m q reply)) ms ne = others_wait k m q reply ms ne
apart_waits k (entry.Packet e) ms ne = absurd ne
apart_waits k (entry.Call e) ms ne = quiet_waits k (entry.Call e) ms tt
apart_waits k (entry.Answered e) ms ne = quiet_waits k (entry.Answered e) ms tt
apart_waits k entry.Powered ms ne = quiet_waits k entry.Powered ms tt
apart_waits k (entry.Device e) ms ne = quiet_waits k (entry.Device e) ms tt
apart_waits k (entry.Attempt e) ms ne = quiet_waits k (entry.Attempt e) ms tt
apart_waits k (entry.Start e) ms ne = quiet_waits k (entry.Start e) ms tt
apart_waits k (entry.Update e) ms ne = quiet_waits k (entry.Update e) ms tt
apart_waits k (entry.Schedule e) ms ne = quiet_waits k (entry.Schedule e) ms tt
apart_waits k (entry.Status e) ms ne = quiet_waits k (entry.Status e) ms tt
apart_waits k (entry.Address e) ms ne = quiet_waits k (entry.Address e) ms tt

pub passing_waits : (k n : ℕ) (os : List Output) (s : Scene) → AreApart k os → WaitOn k s.moments (passing n os s).moments
passing_waits k n [] s apart = wait_same k s.moments
passing_waits k n (Tells e ∷ os) s apart =
    wait_then k s.moments (telling e s).moments (passing n os (telling e s)).moments (apart_waits k e s.moments apart.0) (passing_waits k n os (telling e s) apart.1)
passing_waits k n (Sends to b ∷ os) s apart =
    let t : Scene = posting n to (record { sender = n; body = b }) s in
    wait_then k s.moments t.moments (passing n os t).moments ((posting_leaves n to (record { sender = n; body = b }) s).wait k) (passing_waits k n os t apart.1)

quiet_apart : (k : ℕ) (e : Entry) → IsQuiet e → IsApart k e
quiet_apart k (entry.Node m note.Up) h = absurd h
quiet_apart k (entry.Node m note.Ticked) h = tt
quiet_apart k (entry.Node m note.Saved) h = tt
quiet_apart k (entry.Node m (note.Down why)) h = tt
quiet_apart k (entry.Node m (note.Member e)) h = tt
quiet_apart k (entry.Node m (note.Installed e)) h = tt
quiet_apart k (entry.Command e) h = absurd h
quiet_apart k (entry.Packet e) h = absurd h
quiet_apart k _ h = tt

pub quiets_apart : (k : ℕ) (os : List Output) → AreQuiet os → AreApart k os
quiets_apart k [] h = tt
quiets_apart k (Tells e ∷ os) h = (quiet_apart k e h.0, quiets_apart k os h.1)
quiets_apart k (Sends to b ∷ os) h = (tt, quiets_apart k os h.1)
