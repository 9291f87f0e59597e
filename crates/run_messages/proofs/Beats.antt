-- What is sent of Heartbeats.
use Rattle.std.specs.Prelude.{ℕ, ◌≡◌, ◌≤◌, nat_le, Bool, true, List, [], ◌∷◌, Option, None, Some, length, option_map}
use Rattle.std.proofs.Common.{refl, ap, sym, subst, ◌∙◌, arith}
use Rattle.std.specs.List.{AllByRecursion}
use Rattle.attempt_laws.proofs.Walk.{if_with}
use Rattle.cl_base.specs.declared.packet.DropCause.{DropCause}
use Rattle.cmm_attempt.proofs.Basics.{and_cases}
use Rattle.history.specs.Contents.{Heartbeats, ShowsMember, member_in}
use Rattle.history.specs.Member.{member_of}
use Rattle.history.specs.Moment.{Moment, Told}
use Rattle.history.specs.Names.{named}
use Rattle.interconnect.specs.Links as links
use Rattle.interconnect.specs.Links.{sending}
use Rattle.node_model.specs.declared.output.Output.{Output}
use Rattle.node_model.specs.declared.output.Output.TheVariants.{Sends, Tells}
use Rattle.refinement.proofs.node_widths.Lengths.{sent_messages_fit}
use Rattle.refinement.specs.Widths.{LetterFits}
use Rattle.run_history.specs.Scenes.{Scene, dropped_so, passing, posting, sent_as, telling, with_links}
use Rattle.status_report.specs.declared.entry.Entry.{Entry}
use Rattle.status_report.specs.declared.entry.Entry.TheVariants as entry
use Rattle.status_report.specs.declared.packet_entry.PacketEntry.TheVariants as packet
use Rattle.wire.proofs.Messages.{whole_again}
use Rattle.wire.specs.Spelling.{Fits, spelling}
use Rattle.wire.specs.declared.message.Body.{Body}
use Rattle.wire.specs.declared.message.Body.TheVariants as body
use Rattle.wire.specs.declared.message.Message.{Message}
use Rattle.world_model.specs.Sends.{is_sent, name_of}
use Rattle.run_messages.specs.Outputs.{AreEven, AreGood, AreStill, AreTruthful, BeatSays, NoBeat, NoPacket}
use Rattle.run_messages.proofs.Lines.{passing_still, told_still}

-- ---- one message

says_so : (ms : List Moment) (n : ℕ) (b : Body) → Fits (record { sender = n; body = b }) → BeatSays (member_of n ms) b → ShowsMember ms n (spelling (record { sender = n; body = b })) (named (name_of b))
says_so ms n (body.Heartbeat promised session member) fits so =
    let m : Message = record { sender = n; body = body.Heartbeat promised session member } in
    ap (λ (o : Option Message). member_in (option_map (λ (m : Message). m.body) o)) (whole_again m fits) ∙ ap (λ (b : Bool). Some b) so
says_so ms n (body.Collect epoch members) fits so = tt
says_so ms n (body.Promise epoch newest members valid flagged committed pending) fits so = tt
says_so ms n (body.Nack epoch promised) fits so = tt
says_so ms n (body.SeizeQuorum epoch members d) fits so = tt
says_so ms n (body.SeizeData epoch members d) fits so = tt
says_so ms n (body.Seized epoch d outcome) fits so = tt
says_so ms n (body.Install install) fits so = tt
says_so ms n (body.Ready epoch joined report) fits so = tt
says_so ms n (body.Start epoch) fits so = tt
says_so ms n (body.Prepare epoch place text) fits so = tt
says_so ms n (body.Prepared epoch place) fits so = tt
says_so ms n (body.Commit epoch place) fits so = tt
says_so ms n (body.Order order) fits so = tt
says_so ms n (body.Done epoch number outcome) fits so = tt
says_so ms n (body.Request epoch number text) fits so = tt
says_so ms n (body.Answer epoch number text) fits so = tt
says_so ms n (body.Excluded epoch newest) fits so = tt

size : (k : ℕ) → nat_le k 131072 ≡ true → k ≤ 131072
size k e = grind arith

dropped_beats : (o : Option (ℕ × DropCause)) (s : Scene) → Heartbeats s.moments → Heartbeats (dropped_so o s).moments
dropped_beats None s h = h
dropped_beats (Some drop) s h = (tt, h)

posting_beats : (n to : ℕ) (b : Body) (s : Scene) → LetterFits (record { from = n; body = b }) → BeatSays (member_of n s.moments) b → Heartbeats s.moments
    → Heartbeats (posting n to (record { sender = n; body = b }) s).moments
posting_beats n to b s fits so h =
    let m : Message = record { sender = n; body = b } in
    let o : links.Outcome = sending s.links n to (spelling m) in
    if_with (λ (t : Scene). Heartbeats t.moments) (is_sent s.links m) (is_sent s.links m) (sent_as n to m o s) s refl
    (λ e. dropped_beats o.sent.dropped (telling (entry.Packet (packet.Sent s.links.next n to (name_of m.body) (spelling m))) (with_links s o.after))
    (says_so s.moments n b (sent_messages_fit m fits.0 fits.1 (size (length (spelling m)) (and_cases _ _ e).0)) so, h))
    (λ e. h)

told_beats : (e : Entry) (ms : List Moment) → NoPacket e → Heartbeats ms → Heartbeats (Told e ∷ ms)
told_beats (entry.Packet e) ms q h = absurd q
told_beats _ ms q h = (tt, h)

-- ---- outputs

-- while nothing changes for the node, and its Heartbeats are right
pub passing_truthful : (n : ℕ) (v : Option ℕ) (os : List Output) (s : Scene) → AreGood n os → AreStill n os → AreTruthful v os → member_of n s.moments ≡ v → Heartbeats s.moments → Heartbeats (passing n os s).moments
passing_truthful n v [] s q still so is h = h
passing_truthful n v (Tells e ∷ os) s q still so is h =
    passing_truthful n v os (telling e s) q.1 still.1 so.1 (told_still n e s.moments still.0 ∙ is) (told_beats e s.moments q.0 h)
passing_truthful n v (Sends to b ∷ os) s q still so is h =
    passing_truthful n v os (posting n to (record { sender = n; body = b }) s) q.1 still.1 so.1 (passing_still n n (Sends to b ∷ []) s (tt, tt) ∙ is)
    (posting_beats n to b s q.0 (subst (λ (o : Option ℕ). BeatSays o b) (sym is) so.0) h)

-- lines, and messages that are no Heartbeats
abbrev pub NoBeatOutput : Output → Type 0
NoBeatOutput (Tells e) = Unit {0}
NoBeatOutput (Sends to b) = NoBeat b

other_says : (v : Option ℕ) (b : Body) → NoBeat b → BeatSays v b
other_says v (body.Heartbeat promised session member) h = absurd h
other_says v _ h = tt

pub passing_others : (n : ℕ) (os : List Output) (s : Scene) → AreGood n os → AllByRecursion NoBeatOutput os → Heartbeats s.moments → Heartbeats (passing n os s).moments
passing_others n [] s q none h = h
passing_others n (Tells e ∷ os) s q none h = passing_others n os (telling e s) q.1 none.1 (told_beats e s.moments q.0 h)
passing_others n (Sends to b ∷ os) s q none h =
    passing_others n os (posting n to (record { sender = n; body = b }) s) q.1 none.1 (posting_beats n to b s q.0 (other_says (member_of n s.moments) b none.0) h)

pub evens_others : (os : List Output) → AreEven os → AllByRecursion NoBeatOutput os
evens_others [] h = tt
evens_others (Tells e ∷ os) h = (tt, evens_others os h.1)
evens_others (Sends to b ∷ os) h = (h.0, evens_others os h.1)
