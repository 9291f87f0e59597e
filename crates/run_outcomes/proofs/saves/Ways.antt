-- The attempt that a node has is under way by the lines, while it has it.
use Rattle.std.specs.Prelude.{ℕ, ◌≡◌, not, true, List, [], ◌∷◌, Option, None, Some}
use Rattle.std.specs.List.{list_any}
use Rattle.std.proofs.Common.{refl, sym, ap, subst, ◌∙◌}
use Rattle.cl_base.specs.declared.packet.DropCause.{DropCause}
use Rattle.cmm_attempt.proofs.Basics.{and_cases, false_true, if_either, same_number}
use Rattle.history.specs.Member.{attempt_of}
use Rattle.history.specs.Moment.{Moment, Told}
use Rattle.history.specs.Order.{since}
use Rattle.history.specs.Saves.{attempts}
use Rattle.history.specs.Seizing.{is_attempt, is_number}
use Rattle.history.specs.Setting.{coordinator}
use Rattle.history.specs.UnderWay.{is_over, is_under_way}
use Rattle.interconnect.specs.Links as net
use Rattle.interconnect.specs.Links.{sending}
use Rattle.node_model.specs.declared.output.Output.{Output}
use Rattle.node_model.specs.declared.output.Output.TheVariants.{Sends, Tells}
use Rattle.status_report.specs.declared.entry.Entry.{Entry}
use Rattle.status_report.specs.declared.entry.Entry.TheVariants as entry
use Rattle.status_report.specs.declared.node_entry.NodeEntry.TheVariants as note
use Rattle.status_report.specs.declared.packet_entry.PacketEntry.TheVariants as packet
use Rattle.status_report.specs.declared.start_entry.StartEntry.TheVariants as start_entry
use Rattle.wire.specs.Spelling.{spelling}
use Rattle.wire.specs.declared.message.Message.{Message}
use Rattle.world_model.specs.Sends.{is_sent, name_of}
use Rattle.run_history.specs.Scenes.{Scene, dropped_so, passing, posting, sent_as, telling, with_links}
use Rattle.run_outcomes.specs.saves.Kept.{AllLeave, LeavesWay, OnWay}

-- ---- lines that tell nothing of attempts

told_way : (e : ℕ) (x : Entry) (ms : List Moment) → LeavesWay x → is_under_way e (Told x ∷ ms) ≡ is_under_way e ms
told_way e (entry.Attempt x) ms h = absurd h
told_way e (entry.Start (start_entry.Started f members held count)) ms h = absurd h
told_way e (entry.Node m (note.Down why)) ms h = absurd h
told_way e _ ms h = refl

dropped_way : (e : ℕ) (o : Option (ℕ × DropCause)) (s : Scene) → is_under_way e (dropped_so o s).moments ≡ is_under_way e s.moments
dropped_way e None s = refl
dropped_way e (Some x) s = refl

posted_way : (e from to : ℕ) (m : Message) (s : Scene) → is_under_way e (posting from to m s).moments ≡ is_under_way e s.moments
posted_way e from to m s =
    let o : net.Outcome = sending s.links from to (spelling m) in
    if_either (λ (z : Scene). is_under_way e z.moments ≡ is_under_way e s.moments) (is_sent s.links m) (sent_as from to m o s) s
    (dropped_way e o.sent.dropped (telling (entry.Packet (packet.Sent s.links.next from to (name_of m.body) (spelling m))) (with_links s o.after))) refl

passing_way : (e n : ℕ) (os : List Output) (s : Scene) → AllLeave os → is_under_way e (passing n os s).moments ≡ is_under_way e s.moments
passing_way e n [] s h = refl
passing_way e n (Tells x ∷ os) s h = passing_way e n os (telling x s) h.1 ∙ told_way e x s.moments h.0
passing_way e n (Sends to b ∷ os) s h =
    let m : Message = record { sender = n; body = b } in
    passing_way e n os (posting n to m s) h.1 ∙ posted_way e n to m s

pub still_on : (k n : ℕ) (os : List Output) (s : Scene) (o : Option ℕ) → AllLeave os → OnWay k s.moments o → OnWay k (passing n os s).moments o
still_on k n os s None h on = tt
still_on k n os s (Some e) h on = (on.0, passing_way e n os s h ∙ on.1)

-- ---- so an attempt of the node is under way

number_is : (e : ℕ) (o : Option ℕ) → is_number e o ≡ true → o ≡ Some e
number_is e None h = absurd (false_true h)
number_is e (Some f) h = ap (λ k. Some k) (same_number f e h)

pub on_attempts : (n e : ℕ) (ms : List Moment) → OnWay n ms (Some e) → attempts n (attempt_of n ms) ms ≡ true
on_attempts n e ms on =
    let last : attempt_of n ms ≡ Some e =
    number_is e (attempt_of n ms) (subst (λ k. is_number e (attempt_of k ms) ≡ true) on.0 (and_cases (is_number e (attempt_of (coordinator e) ms)) (not (list_any (is_over e) (since (is_attempt e) ms))) on.1).0) in
    subst (λ o. attempts n o ms ≡ true) (sym last) on.1
