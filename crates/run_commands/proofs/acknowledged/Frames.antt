-- What lines leave of a node's memberships.
use Rattle.std.specs.Prelude.{ℕ, ◌+◌, ◌≡◌, ◌≢◌, ◌≤◌, ◌<◌, ◌==◌, ◌&&◌, ◌||◌, nat_le, Bool, true, false, cond, List, [], ◌∷◌, length, Option, None, Some, is_some}
use Rattle.std.specs.List.{AllByRecursion, count_by}
use Rattle.std.proofs.Common.{refl, sym, ap, subst, ◌∙◌, arith}
use Rattle.cl_base.specs.declared.packet.DropCause.{DropCause}
use Rattle.attempt_laws.proofs.Walk.{if_with}
use Rattle.cl_base.specs.declared.packet.MessageName.{MessageName}
use Rattle.cmm_attempt.proofs.Basics.{and_cases, none_some}
use Rattle.interconnect.specs.Links as links
use Rattle.interconnect.specs.Links.{sending}
use Rattle.schedule_text.specs.declared.event.Event.{Event}
use Rattle.schedule_text.specs.declared.line.Line.{Line}
use Rattle.status_report.specs.declared.command_entry.CommandEntry.TheVariants as command
use Rattle.status_report.specs.declared.entry.Entry.{Entry}
use Rattle.status_report.specs.declared.entry.Entry.TheVariants as entry
use Rattle.status_report.specs.declared.node_entry.NodeEntry.TheVariants as note
use Rattle.status_report.specs.declared.packet_entry.PacketEntry.{PacketEntry}
use Rattle.status_report.specs.declared.packet_entry.PacketEntry.TheVariants as packet
use Rattle.status_report.specs.declared.update_entry.UpdateEntry.TheVariants as update
use Rattle.wire.specs.Spelling.{spelling}
use Rattle.wire.specs.declared.message.Message.{Message}
use Rattle.history.specs.Letters.{says}
use Rattle.history.specs.Member.{member_of}
use Rattle.history.specs.Moment.{Moment, Part, Said, Told}
use Rattle.history.specs.Requests.{is_proposal_with, requests_of, same_words}
use Rattle.history.specs.Seizing.{is_number}
use Rattle.history.specs.Setting.{Setting, coordinator}
use Rattle.node_model.specs.declared.cluster.Cluster.{Cluster}
use Rattle.node_model.specs.declared.output.Output.{Output}
use Rattle.node_model.specs.declared.output.Output.TheVariants.{Sends, Tells}
use Rattle.node_model.specs.declared.presidency.Presidency.{Presidency}
use Rattle.proposals.specs.declared.arrived.Arrived.{Arrived}
use Rattle.world_model.specs.Sends.{is_sent, name_of}
use Rattle.run_history.specs.Scenes.{Scene, dropped_so, passing, posting, sent_as, telling, with_links}
use Rattle.run_commands.proofs.carried.Lines.{AreApart, IsApart}
use Rattle.run_commands.proofs.carried.Mute.{AreMute}
use Rattle.run_commands.specs.acknowledged.Askings.{Test, asked_as, held, is_request, proposals, requested_as, tally}
use Rattle.run_commands.specs.acknowledged.Steps.{Backed, Frame, FrameOf, HandIn, Unused, past_with}
use Rattle.run_commands.proofs.acknowledged.Requests.{requests_grow}
use Rattle.run_commands.proofs.acknowledged.Tally.{le_same, le_then, tally_counts}

-- ---- proposals are counted

zero_plus : (k : ℕ) → 0 + k ≡ k
zero_plus k = omega arith

tally_proposals : (e : ℕ) (words : List ℕ) (ms : List Moment) → tally (is_proposal_with e words) ms ≡ proposals e words ms
tally_proposals e words [] = refl
tally_proposals e words (Told (entry.Update (update.Proposed f v found)) ∷ ms) = ap (λ k. cond ((f == e) && same_words found words) 1 0 + k) (tally_proposals e words ms)
tally_proposals e words (_ ∷ ms) = zero_plus (tally (is_proposal_with e words) ms) ∙ tally_proposals e words ms

pub count_proposals : (e : ℕ) (words : List ℕ) (ms : List Moment) → count_by (is_proposal_with e words) ms ≡ proposals e words ms
count_proposals e words ms = tally_counts (is_proposal_with e words) ms ∙ tally_proposals e words ms

-- ---- one line

is_other : (a b : ℕ) → a ≢ b → (a == b) ≡ false
is_other a b ne = grind arith

no_and : (a b : Bool) → a ≡ false → (a && b) ≡ false
no_and true b h = cc
no_and false b h = refl

no_or : (a b : Bool) → a ≡ false → (a || b) ≡ b
no_or true b h = cc
no_or false b h = refl

no_more : (b : Bool) (k : ℕ) → b ≡ false → cond b 1 0 + k ≡ k
no_more true k h = cc
no_more false k h = zero_plus k

pub frame_same : {v : Option ℕ} {last : ℕ} (S : Setting) (k : ℕ) (ms : List Moment) → FrameOf S k v last ms ms
frame_same S k ms = record { asked = λ q e. refl; requested = λ q e free. refl; proposed = λ e w is. refl; grows = λ T e. le_same (held T (requests_of S e ms)) }

pub frame_then : {v : Option ℕ} {last : ℕ} (S : Setting) (k : ℕ) (a b c : List Moment) → FrameOf S k v last a b → FrameOf S k v last b c → FrameOf S k v last a c
frame_then S k a b c f g = record {
  asked = λ q e. g.asked q e ∙ f.asked q e;
  requested = λ q e free. g.requested q e free ∙ f.requested q e free;
  proposed = λ e w is. g.proposed e w is ∙ f.proposed e w is;
  grows = λ T e. le_then (held T (requests_of S e a)) (held T (requests_of S e b)) (held T (requests_of S e c)) (f.grows T e) (g.grows T e);
}

other_epoch : (f e k : ℕ) → coordinator e ≡ k → coordinator f ≢ k → f ≢ e
other_epoch f e k is ne same = ne (ap coordinator same ∙ is)

pub told_frame : {v : Option ℕ} {last : ℕ} (S : Setting) (k : ℕ) (e : Entry) (ms : List Moment) → IsApart k e → FrameOf S k v last ms (Told e ∷ ms)
told_frame S k (entry.Command (command.Asked m q)) ms ne = record {
  asked = λ r e. no_or (((m == k) && (q == r)) && is_number e (member_of k ms)) (asked_as k r e ms)
      (no_and ((m == k) && (q == r)) (is_number e (member_of k ms)) (no_and (m == k) (q == r) (is_other m k ne)));
  requested = λ r e free. refl;
  proposed = λ e w is. refl;
  grows = λ T e. requests_grow S T e (Told (entry.Command (command.Asked m q))) ms;
}
told_frame S k (entry.Command (command.Answered m q reply)) ms ne =
    record { asked = λ r e. refl; requested = λ r e free. refl; proposed = λ e w is. refl; grows = λ T e. requests_grow S T e (Told (entry.Command (command.Answered m q reply))) ms }
told_frame S k (entry.Update (update.Proposed f v found)) ms ne = record {
  asked = λ r e. refl;
  requested = λ r e free. refl;
  proposed = λ e w is. no_more ((f == e) && same_words found w) (proposals e w ms) (no_and (f == e) (same_words found w) (is_other f e (other_epoch f e k is ne)));
  grows = λ T e. requests_grow S T e (Told (entry.Update (update.Proposed f v found))) ms;
}
told_frame S k (entry.Update (update.Acknowledged f v found)) ms ne =
    record { asked = λ r e. refl; requested = λ r e free. refl; proposed = λ e w is. refl; grows = λ T e. requests_grow S T e (Told (entry.Update (update.Acknowledged f v found))) ms }
told_frame S k (entry.Packet e) ms ne = absurd ne
told_frame S k e ms ne = record { asked = λ r f. refl; requested = λ r f free. refl; proposed = λ f w is. refl; grows = λ T f. requests_grow S T f (Told e) ms }

-- nothing is sent
abbrev pub IsUnsent : PacketEntry → Type 0
IsUnsent (packet.Sent p from to called bytes) = ⊥
IsUnsent _ = Unit {0}

pub packet_frame : {v : Option ℕ} {last : ℕ} (S : Setting) (k : ℕ) (e : PacketEntry) (ms : List Moment) → IsUnsent e → FrameOf S k v last ms (Told (entry.Packet e) ∷ ms)
packet_frame S k (packet.Sent p from to called bytes) ms none = absurd none
packet_frame S k e ms none = record { asked = λ r f. refl; requested = λ r f free. refl; proposed = λ f w is. refl; grows = λ T f. requests_grow S T f (Told (entry.Packet e)) ms }

-- a node comes up
pub up_frame : (S : Setting) (k n : ℕ) (ms : List Moment) → Frame S k ms (Told (entry.Node n note.Up) ∷ ms)
up_frame S k n ms = record { asked = λ r f. refl; requested = λ r f free. refl; proposed = λ f w is. refl; grows = λ T f. requests_grow S T f (Told (entry.Node n note.Up)) ms }

pub said_frame : (S : Setting) (k : ℕ) (l : Line) (ms : List Moment) → Frame S k ms (Said l ∷ ms)
said_frame S k l ms = record { asked = λ r f. refl; requested = λ r f free. refl; proposed = λ f w is. refl; grows = λ T f. requests_grow S T f (Said l) ms }

pub part_frame : (S : Setting) (k : ℕ) (e : Event) (ms : List Moment) → Frame S k ms (Part e ∷ ms)
part_frame S k e ms = record { asked = λ r f. refl; requested = λ r f free. refl; proposed = λ f w is. refl; grows = λ T f. requests_grow S T f (Part e) ms }

-- ---- what a node gives

-- seen from k: the Request in the bytes, if there is one, may be sent
abbrev pub MaySend : ℕ → Option ℕ → ℕ → ℕ → List ℕ → Type 0
MaySend k v last from bytes = (q e : ℕ) → (v ≡ Some e → last < q) → ((from == k) && is_request q e (says bytes)) ≡ false

sent_frame : {v : Option ℕ} {last : ℕ} (S : Setting) (k p from to : ℕ) (called : MessageName) (bytes : List ℕ) (ms : List Moment) → MaySend k v last from bytes
    → FrameOf S k v last ms (Told (entry.Packet (packet.Sent p from to called bytes)) ∷ ms)
sent_frame S k p from to called bytes ms may = record {
  asked = λ r f. refl;
  requested = λ q e free. no_or ((from == k) && is_request q e (says bytes)) (requested_as k q e ms) (may q e free);
  proposed = λ f w is. refl;
  grows = λ T f. requests_grow S T f (Told (entry.Packet (packet.Sent p from to called bytes))) ms;
}

pub dropped_frame : {v : Option ℕ} {last : ℕ} (S : Setting) (k : ℕ) (o : Option (ℕ × DropCause)) (s : Scene) → FrameOf S k v last s.moments (dropped_so o s).moments
dropped_frame S k None s = frame_same S k s.moments
dropped_frame S k (Some drop) s = packet_frame S k (packet.Dropped drop.0 drop.1) s.moments tt

size : (k : ℕ) → nat_le k 131072 ≡ true → k ≤ 131072
size k e = grind arith

posting_frame : {v : Option ℕ} {last : ℕ} (S : Setting) (k from to : ℕ) (m : Message) (s : Scene) → (length (spelling m) ≤ 131072 → MaySend k v last from (spelling m))
    → FrameOf S k v last s.moments (posting from to m s).moments
posting_frame {v = v} {last = last} S k from to m s may =
    let o : links.Outcome = sending s.links from to (spelling m) in
    let t : Scene = telling (entry.Packet (packet.Sent s.links.next from to (name_of m.body) (spelling m))) (with_links s o.after) in
    if_with (λ (z : Scene). FrameOf S k v last s.moments z.moments) (is_sent s.links m) (is_sent s.links m) (sent_as from to m o s) s refl
    (λ e. frame_then S k s.moments t.moments (dropped_so o.sent.dropped t).moments
    (sent_frame S k s.links.next from to (name_of m.body) (spelling m) s.moments (may (size (length (spelling m)) (and_cases _ _ e).0))) (dropped_frame S k o.sent.dropped t))
    (λ e. frame_same S k s.moments)

abbrev pub OutMay : ℕ → Option ℕ → ℕ → ℕ → Output → Type 0
OutMay k v last n (Tells e) = Unit {0}
OutMay k v last n (Sends to b) = length (spelling (record { sender = n; body = b })) ≤ 131072 → MaySend k v last n (spelling (record { sender = n; body = b }))

pub passing_may : {v : Option ℕ} {last : ℕ} (S : Setting) (k n : ℕ) (os : List Output) (s : Scene) → AreApart k os → AllByRecursion (OutMay k v last n) os → FrameOf S k v last s.moments (passing n os s).moments
passing_may S k n [] s h may = frame_same S k s.moments
passing_may S k n (Tells e ∷ os) s h may =
    frame_then S k s.moments (telling e s).moments (passing n os (telling e s)).moments (told_frame S k e s.moments h.0) (passing_may S k n os (telling e s) h.1 may.1)
passing_may S k n (Sends to b ∷ os) s h may =
    let t : Scene = posting n to (record { sender = n; body = b }) s in
    frame_then S k s.moments t.moments (passing n os t).moments (posting_frame S k n to (record { sender = n; body = b }) s may.0) (passing_may S k n os t h.1 may.1)

others_may : (k n : ℕ) (os : List Output) → n ≢ k → AllByRecursion (OutMay k None 0 n) os
others_may k n [] ne = tt
others_may k n (Tells e ∷ os) ne = (tt, others_may k n os ne)
others_may k n (Sends to b ∷ os) ne = (λ low q e free. no_and (n == k) (is_request q e (says (spelling (record { sender = n; body = b })))) (is_other n k ne), others_may k n os ne)

-- .. by another node
pub passing_frame : (S : Setting) (k n : ℕ) (os : List Output) (s : Scene) → n ≢ k → AreApart k os → Frame S k s.moments (passing n os s).moments
passing_frame S k n os s ne h = passing_may S k n os s h (others_may k n os ne)

mutes_may : (k n : ℕ) (os : List Output) → AreMute os → AllByRecursion (OutMay k None 0 n) os
mutes_may k n [] mute = tt
mutes_may k n (Tells e ∷ os) mute = (tt, mutes_may k n os mute.1)
mutes_may k n (Sends to b ∷ os) mute = absurd mute.0

-- .. where nothing is sent
pub passing_mute : (S : Setting) (k n : ℕ) (os : List Output) (s : Scene) → AreMute os → AreApart k os → Frame S k s.moments (passing n os s).moments
passing_mute S k n os s mute h = passing_may S k n os s h (mutes_may k n os mute)

-- ---- what stays

pub unused_of : {v : Option ℕ} {last : ℕ} (S : Setting) (k e : ℕ) (before after : List Moment) → (v ≡ Some e → ⊥) → FrameOf S k v last before after → Unused k e before → Unused k e after
unused_of S k e before after other f h = record {
  asked = λ q. f.asked q e ∙ h.asked q;
  requested = λ q. f.requested q e (λ is. absurd (other is)) ∙ h.requested q;
  proposed = λ is w. f.proposed e w is ∙ h.proposed is w;
}

pub unused_stays : (S : Setting) (k e : ℕ) (before after : List Moment) → Frame S k before after → Unused k e before → Unused k e after
unused_stays S k e before after f h = unused_of S k e before after (none_some e) f h

pub backed_stays : {v : Option ℕ} {last : ℕ} (S : Setting) (c : Cluster) (k e : ℕ) (before after : List Moment) (n q : ℕ) (text : List ℕ) → FrameOf S k v last before after → Backed S c e before n q text → Backed S c e after n q text
backed_stays S c k e before after n q text f h = λ u is. le_then 1 _ _ (h u is) (f.grows _ e)

all_backed : (S : Setting) (c : Cluster) (e : ℕ) (before after : List Moment) (xs : List Arrived) → ((T : Test) → held T (requests_of S e before) ≤ held T (requests_of S e after))
    → AllByRecursion (λ a. Backed S c e before a.from a.number a.text) xs → AllByRecursion (λ a. Backed S c e after a.from a.number a.text) xs
all_backed S c e before after [] f h = tt
all_backed S c e before after (a ∷ xs) f h = (λ u is. le_then 1 _ _ (h.0 u is) (f _), all_backed S c e before after xs f h.1)

-- while nothing is proposed there, and no request is lost
pub hand_more : (S : Setting) (c : Cluster) (e : ℕ) (before after : List Moment) (o : Option Presidency) → ((T : Test) → held T (requests_of S e before) ≤ held T (requests_of S e after))
    → (is_some o ≡ true → (w : List ℕ) → proposals e w after ≡ proposals e w before) → HandIn S c before e o → HandIn S c after e o
hand_more S c e before after None f same h = tt
hand_more S c e before after (Some p) f same h = record {
  sound = h.sound;
  backed = all_backed S c e before after p.proposals.arrived f h.backed;
  counts = λ w. subst (λ j. j ≤ held (past_with p.proposals w) (requests_of S e after)) (sym (same refl w))
      (le_then (proposals e w before) (held (past_with p.proposals w) (requests_of S e before)) (held (past_with p.proposals w) (requests_of S e after)) (h.counts w) (f (past_with p.proposals w)));
}

pub hand_stays : {v : Option ℕ} {last : ℕ} (S : Setting) (c : Cluster) (k e : ℕ) (before after : List Moment) (o : Option Presidency) → FrameOf S k v last before after → (is_some o ≡ true → coordinator e ≡ k) → HandIn S c before e o → HandIn S c after e o
hand_stays S c k e before after o f own h = hand_more S c e before after o (λ T. f.grows T e) (λ so w. f.proposed e w (own so)) h
