-- Each number of a command takes a line of the schedule.
use Rattle.std.specs.Prelude.{ℕ, ◌+◌, ◌-◌, ◌≡◌, ◌≤◌, ◌<◌, ◌^◌, List, [], ◌∷◌, length, Option, None, Some, slice_get}
use Rattle.std.proofs.Common.{refl, sym, subst, ◌∙◌, arith}
use Rattle.cl_base.specs.declared.packet.DropCause.{DropCause}
use Rattle.cmm_attempt.proofs.Basics.{if_either, none_some, same_some}
use Rattle.interconnect.specs.Links as links
use Rattle.interconnect.specs.Links.{sending}
use Rattle.schedule_text.specs.declared.line.Line.{Line}
use Rattle.status_report.specs.declared.entry.Entry.{Entry}
use Rattle.status_report.specs.declared.entry.Entry.TheVariants as entry
use Rattle.status_report.specs.declared.packet_entry.PacketEntry.TheVariants as packet
use Rattle.wire.specs.Spelling.{spelling}
use Rattle.wire.specs.declared.message.Message.{Message}
use Rattle.history.specs.Moment.{Moment, Part, Said, Told, lines_of}
use Rattle.node_model.specs.declared.output.Output.{Output}
use Rattle.node_model.specs.declared.output.Output.TheVariants.{Sends, Tells}
use Rattle.world_model.specs.Sends.{is_sent, name_of}
use Rattle.run_history.specs.Scenes.{Scene, dropped_so, passing, posting, sent_as, telling, with_links}
use Rattle.run_commands.specs.carried.Steps.{Counted, used_lines}

one_more : (k : ℕ) → k ≤ k + 1
one_more k = omega arith

no_more : (k : ℕ) → k ≤ k
no_more k = omega arith

none_yet : (k : ℕ) → 0 ≤ k
none_yet k = omega arith

pub then_le : (a b c : ℕ) → a ≤ b → b ≤ c → a ≤ c
then_le a b c h k = omega (arith, h, k)

one_longer : (line : Line) (ls : List Line) → length ls + 1 ≡ length (line ∷ ls)
one_longer line ls = omega arith

-- a moment more
pub more_used : (ms : List Moment) → used_lines ms ≤ length (lines_of ms)
more_used [] = none_yet 0
more_used (Said line ∷ ms) = subst (λ k. length (lines_of ms) ≤ k) (one_longer line (lines_of ms)) (one_more (length (lines_of ms)))
more_used (Part e ∷ ms) = no_more (length (lines_of ms))
more_used (Told e ∷ ms) = no_more (length (lines_of ms))

-- what a node gives is no line
pub record Used (before after : List Moment) : Type 0 where
  pub lines : lines_of after ≡ lines_of before
  pub used : used_lines before ≤ used_lines after

used_same : (ms : List Moment) → Used ms ms
used_same ms = record { lines = refl; used = no_more (used_lines ms) }

used_then : (a b c : List Moment) → Used a b → Used b c → Used a c
used_then a b c f g = record { lines = g.lines ∙ f.lines; used = then_le (used_lines a) (used_lines b) (used_lines c) f.used g.used }

used_told : (e : Entry) (ms : List Moment) → Used ms (Told e ∷ ms)
used_told e ms = record { lines = refl; used = more_used ms }

pub dropped_used : (o : Option (ℕ × DropCause)) (s : Scene) → Used s.moments (dropped_so o s).moments
dropped_used None s = used_same s.moments
dropped_used (Some drop) s = used_told (entry.Packet (packet.Dropped drop.0 drop.1)) s.moments

posting_used : (from to : ℕ) (m : Message) (s : Scene) → Used s.moments (posting from to m s).moments
posting_used from to m s =
    let o : links.Outcome = sending s.links from to (spelling m) in
    let t : Scene = telling (entry.Packet (packet.Sent s.links.next from to (name_of m.body) (spelling m))) (with_links s o.after) in
    if_either (λ (z : Scene). Used s.moments z.moments) (is_sent s.links m) (sent_as from to m o s) s
    (used_then s.moments t.moments (dropped_so o.sent.dropped t).moments (used_told (entry.Packet (packet.Sent s.links.next from to (name_of m.body) (spelling m))) s.moments) (dropped_used o.sent.dropped t))
    (used_same s.moments)

pub passing_used : (n : ℕ) (os : List Output) (s : Scene) → Used s.moments (passing n os s).moments
passing_used n [] s = used_same s.moments
passing_used n (Tells e ∷ os) s = used_then s.moments (telling e s).moments (passing n os (telling e s)).moments (used_told e s.moments) (passing_used n os (telling e s))
passing_used n (Sends to b ∷ os) s =
    let t : Scene = posting n to (record { sender = n; body = b }) s in
    used_then s.moments t.moments (passing n os t).moments (posting_used n to (record { sender = n; body = b }) s) (passing_used n os t)

-- what is told first comes behind the line
pub told_uses : (n : ℕ) (e : Entry) (os : List Output) (s : Scene) → length (lines_of s.moments) ≤ used_lines (passing n (Tells e ∷ os) s).moments
told_uses n e os s = (passing_used n os (telling e s)).used

-- a line that was said last is not used yet
pub said_unused : (line : Line) (ms : List Moment) → slice_get ms 0 ≡ Some (Said line) → used_lines ms + 1 ≤ length (lines_of ms)
said_unused line [] h = absurd (none_some (Said line) h)
said_unused line (m ∷ ms) h =
    subst (λ (z : Moment). length (lines_of ms) + 1 ≤ length (lines_of (z ∷ ms))) (sym (same_some m (Said line) h))
    (subst (λ k. length (lines_of ms) + 1 ≤ k) (one_longer line (lines_of ms)) (no_more (length (lines_of ms) + 1)))

-- the next number is within the lines
pub next_low : (asked next : ℕ) (line : Line) (ms : List Moment) → next ≤ asked + 1 → slice_get ms 0 ≡ Some (Said line) → Counted asked ms → next ≤ length (lines_of ms)
next_low asked next line ms is said k = bound asked next (used_lines ms) (length (lines_of ms)) is k.low (said_unused line ms said)
  where
    bound : (a b u l : ℕ) → b ≤ a + 1 → a ≤ u → u + 1 ≤ l → b ≤ l
    bound a b u l h j k = omega (arith, h, j, k)

pub room_left : (asked : ℕ) (ms : List Moment) → Counted asked ms → asked < 2 ^ 64 - 1
room_left asked ms k = few asked (used_lines ms) (length (lines_of ms)) k.low (more_used ms) k.few
  where
    few : (a u l : ℕ) → a ≤ u → u ≤ l → l < 2 ^ 63 → a < 2 ^ 64 - 1
    few a u l h j k = omega (arith, h, j, k)

pub few_longer : (line : Line) (ls : List Line) → length (line ∷ ls) < 2 ^ 63 → length ls < 2 ^ 63
few_longer line ls h = omega (arith, h)
