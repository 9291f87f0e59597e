-- An attempt that has its line keeps its members, whatever is told: no number is tried twice.
use Rattle.std.specs.Prelude.{ℕ, ◌≡◌, ◌≤◌, ◌==◌, ◌||◌, nat_le, Bool, true, false, List, [], ◌∷◌, length, Option, None, Some, if◌then◌else◌}
use Rattle.std.specs.List.{list_any}
use Rattle.std.proofs.Common.{refl, sym, ap, subst, ◌∙◌, arith}
use Rattle.attempt_laws.proofs.Walk.{if_with}
use Rattle.cl_base.specs.declared.packet.DropCause.{DropCause}
use Rattle.cmm_attempt.proofs.Basics.{and_cases, false_true, if_either, none_some, same_number, same_some}
use Rattle.cmm_attempt.specs.Attempts.{AttemptState}
use Rattle.cmm_member.specs.Records.{NodeRecord}
use Rattle.history.specs.Contact.{AttemptsDiffer, IsNew}
use Rattle.history.specs.Letters.{Letter, letter_of}
use Rattle.history.specs.Member.{members_of}
use Rattle.history.specs.Moment.{Moment, Part, Said, Told}
use Rattle.history.specs.Names.{named}
use Rattle.history.specs.Seizing.{is_attempt}
use Rattle.interconnect.specs.Links as links
use Rattle.interconnect.specs.Links.{sending}
use Rattle.node_model.specs.Seats.{record_of}
use Rattle.node_model.specs.declared.node.Node.{Node}
use Rattle.node_model.specs.declared.node.Node.TheVariants.{Down, Up}
use Rattle.node_model.specs.declared.output.Output.{Output}
use Rattle.node_model.specs.declared.output.Output.TheVariants.{Sends, Tells}
use Rattle.refinement.proofs.node_widths.Lengths.{sent_messages_fit}
use Rattle.refinement.specs.Doings.{Site}
use Rattle.refinement.specs.Widths.{LetterFits}
use Rattle.run_history.specs.Scenes.{Scene, dropped_so, passing, posting, sent_as, telling, with_links}
use Rattle.status_report.specs.declared.attempt_entry.AttemptEntry.TheVariants as attempt_entry
use Rattle.status_report.specs.declared.entry.Entry.{Entry}
use Rattle.status_report.specs.declared.entry.Entry.TheVariants as entry
use Rattle.status_report.specs.declared.packet_entry.PacketEntry.{PacketEntry}
use Rattle.status_report.specs.declared.packet_entry.PacketEntry.TheVariants as packet
use Rattle.wire.proofs.Messages.{whole_again}
use Rattle.wire.specs.Reads.{whole_of}
use Rattle.wire.specs.Spelling.{Fits, spelling}
use Rattle.wire.specs.declared.message.Body.{Body}
use Rattle.wire.specs.declared.message.Body.TheVariants as body
use Rattle.wire.specs.declared.message.Message.{Message}
use Rattle.world_model.specs.Sends.{is_sent, name_of}
use Rattle.run_messages.specs.Outputs.{AreGood, NoPacket}
use Rattle.run_attempts.specs.Laws.{InstallSo, IsTried}
use Rattle.run_attempts.specs.Members.{AllBring, AllSendSo, AttemptIn, HandSo, MemberSo, RecordSo, SiteSo}

-- ---- one moment more

pub tried_more : (ms : List Moment) (x : Moment) (e members : ℕ) → IsNew ms x → IsTried ms e members → IsTried (x ∷ ms) e members
tried_more ms (Told (entry.Attempt (attempt_entry.Begun p others))) e members new h = by_test (p == e) refl
  where
    by_test : (t : Bool) → (p == e) ≡ t → ((t || list_any (is_attempt e) ms) ≡ true) × ((if t then others else members_of e ms) ≡ members)
    by_test true same = absurd (false_true (sym new ∙ subst (λ k. list_any (is_attempt k) ms ≡ true) (sym (same_number p e same)) h.0))
    by_test false other = h
tried_more ms _ e members new h = h

-- what is tried at first is tried then
pub record Grows (before after : List Moment) : Type 0 where
  pub tried : (e members : ℕ) → IsTried before e members → IsTried after e members

pub grows_self : (ms : List Moment) → Grows ms ms
grows_self ms = record { tried = λ e members h. h }

pub grows_then : (first second third : List Moment) → Grows first second → Grows second third → Grows first third
grows_then first second third h i = record { tried = λ e members k. i.tried e members (h.tried e members k) }

pub grows_one : (ms : List Moment) (x : Moment) → IsNew ms x → Grows ms (x ∷ ms)
grows_one ms x new = record { tried = λ e members h. tried_more ms x e members new h }

pub install_grows : (before after : List Moment) (b : Body) → Grows before after → InstallSo before b → InstallSo after b
install_grows before after (body.Install i) g h = g.tried i.epoch i.members h
install_grows before after _ g h = tt

pub record_grows : (before after : List Moment) (r : NodeRecord) → Grows before after → RecordSo before r → RecordSo after r
record_grows before after r g h = λ some. g.tried r.installed r.members (h some)

pub attempt_grows : (before after : List Moment) (o : Option AttemptState) → Grows before after → AttemptIn before o → AttemptIn after o
attempt_grows before after None g h = tt
attempt_grows before after (Some a) g h = record { reached = h.reached; tried = g.tried a.plan.epoch a.plan.members h.tried }

pub node_grows : (before after : List Moment) (node : Node) → Grows before after → MemberSo before node → MemberSo after node
node_grows before after Down g h = tt
node_grows before after (Up x) g h = (record_grows before after (record_of x) g h.0, attempt_grows before after x.attempt g h.1)

pub site_grows : (before after : List Moment) (x : Site) → Grows before after → SiteSo before x → SiteSo after x
site_grows before after x g h = record { disk = record_grows before after x.disk g h.disk; node = node_grows before after x.node g h.node }

pub sends_grow : (before after : List Moment) (os : List Output) → Grows before after → AllSendSo before os → AllSendSo after os
sends_grow before after [] g h = tt
sends_grow before after (Tells e ∷ os) g h = (tt, sends_grow before after os g h.1)
sends_grow before after (Sends to b ∷ os) g h = (install_grows before after b g h.0, sends_grow before after os g h.1)

pub hand_grows : (before after : List Moment) (told : Option (ℕ × Message)) → Grows before after → HandSo before told → HandSo after told
hand_grows before after None g h = tt
hand_grows before after (Some d) g h = install_grows before after d.1.body g h

-- ---- what a node gives

dropped_grows : (o : Option (ℕ × DropCause)) (s : Scene) → AttemptsDiffer (dropped_so o s).moments → AttemptsDiffer s.moments × Grows s.moments (dropped_so o s).moments
dropped_grows None s h = (h, grows_self s.moments)
dropped_grows (Some drop) s h = (h.1, grows_one s.moments _ h.0)

posting_grows : (from to : ℕ) (m : Message) (s : Scene) → AttemptsDiffer (posting from to m s).moments → AttemptsDiffer s.moments × Grows s.moments (posting from to m s).moments
posting_grows from to m s =
    let o : links.Outcome = sending s.links from to (spelling m) in
    let t : Scene = telling (entry.Packet (packet.Sent s.links.next from to (name_of m.body) (spelling m))) (with_links s o.after) in
    if_either (λ (z : Scene). AttemptsDiffer z.moments → AttemptsDiffer s.moments × Grows s.moments z.moments) (is_sent s.links m) (sent_as from to m o s) s
    (λ h.
    let one : AttemptsDiffer t.moments × Grows t.moments (dropped_so o.sent.dropped t).moments = dropped_grows o.sent.dropped t h in
    (one.0.1, grows_then s.moments t.moments (dropped_so o.sent.dropped t).moments (grows_one s.moments _ one.0.0) one.1))
    (λ h. (h, grows_self s.moments))

pub passing_grows : (n : ℕ) (os : List Output) (s : Scene) → AttemptsDiffer (passing n os s).moments → AttemptsDiffer s.moments × Grows s.moments (passing n os s).moments
passing_grows n [] s h = (h, grows_self s.moments)
passing_grows n (Tells e ∷ os) s h =
    let t : Scene = telling e s in
    let rest : AttemptsDiffer t.moments × Grows t.moments (passing n os t).moments = passing_grows n os t h in
    (rest.0.1, grows_then s.moments t.moments (passing n os t).moments (grows_one s.moments (Told e) rest.0.0) rest.1)
passing_grows n (Sends to b ∷ os) s h =
    let t : Scene = posting n to (record { sender = n; body = b }) s in
    let rest : AttemptsDiffer t.moments × Grows t.moments (passing n os t).moments = passing_grows n os t h in
    let first : AttemptsDiffer s.moments × Grows s.moments t.moments = posting_grows n to (record { sender = n; body = b }) s rest.0 in
    (first.0, grows_then s.moments t.moments (passing n os t).moments first.1 rest.1)

-- ---- each Install that is sent brings the members of its attempt

size : (k : ℕ) → nat_le k 131072 ≡ true → k ≤ 131072
size k e = grind arith

read_so : (ms : List Moment) (n : ℕ) (b : Body) → Fits (record { sender = n; body = b }) → InstallSo ms b → (m : Message) → whole_of (spelling (record { sender = n; body = b })) ≡ Some m → InstallSo ms m.body
read_so ms n b fits so m is = subst (λ (z : Message). InstallSo ms z.body) (same_some _ m (sym (whole_again (record { sender = n; body = b }) fits) ∙ is)) so

dropped_brings : (o : Option (ℕ × DropCause)) (s : Scene) → AllBring s.moments → AllBring (dropped_so o s).moments
dropped_brings None s h = h
dropped_brings (Some drop) s h = (tt, h)

posting_brings : (n to : ℕ) (b : Body) (s : Scene) → LetterFits (record { from = n; body = b }) → InstallSo s.moments b → AllBring s.moments → AllBring (posting n to (record { sender = n; body = b }) s).moments
posting_brings n to b s fits so h =
    let m : Message = record { sender = n; body = b } in
    let o : links.Outcome = sending s.links n to (spelling m) in
    if_with (λ (t : Scene). AllBring t.moments) (is_sent s.links m) (is_sent s.links m) (sent_as n to m o s) s refl
    (λ e. dropped_brings o.sent.dropped (telling (entry.Packet (packet.Sent s.links.next n to (name_of m.body) (spelling m))) (with_links s o.after))
    (read_so s.moments n b (sent_messages_fit m fits.0 fits.1 (size (length (spelling m)) (and_cases _ _ e).0)) so, h))
    (λ e. h)

told_brings : (e : Entry) (ms : List Moment) → NoPacket e → AllBring ms → AllBring (Told e ∷ ms)
told_brings (entry.Packet e) ms q h = absurd q
told_brings _ ms q h = (tt, h)

pub passing_brings : (n : ℕ) (os : List Output) (s : Scene) → AreGood n os → AllSendSo s.moments os → AttemptsDiffer (passing n os s).moments → AllBring s.moments → AllBring (passing n os s).moments
passing_brings n [] s good so differ h = h
passing_brings n (Tells e ∷ os) s good so differ h =
    let t : Scene = telling e s in
    let new : AttemptsDiffer t.moments = (passing_grows n os t differ).0 in
    passing_brings n os t good.1 (sends_grow s.moments t.moments os (grows_one s.moments (Told e) new.0) so.1) differ (told_brings e s.moments good.0 h)
passing_brings n (Sends to b ∷ os) s good so differ h =
    let t : Scene = posting n to (record { sender = n; body = b }) s in
    let new : AttemptsDiffer t.moments = (passing_grows n os t differ).0 in
    passing_brings n os t good.1 (sends_grow s.moments t.moments os (posting_grows n to (record { sender = n; body = b }) s new).1 so.1) differ (posting_brings n to b s good.0 so.0 h)

-- ---- an Install that comes brings them, too

letter_packet : (p : ℕ) (before : List Moment) (e : PacketEntry) (l : Letter) (m : Message) → AllBring (Told (entry.Packet e) ∷ before) → letter_of p (Told (entry.Packet e) ∷ before) ≡ Some l → whole_of l.bytes ≡ Some m
    → ((q : ℕ) → letter_of q before ≡ Some l → InstallSo before m.body) → InstallSo before m.body
letter_packet p before (packet.Sent q a b called bytes) l m h is read next = by_number (q == p) is
  where
    by_number : (t : Bool) → (if t then Some (record { from = a; to = b; name = named called; bytes = bytes; before = before }) else letter_of p before) ≡ Some l → InstallSo before m.body
    by_number true e = h.0 m (ap (λ (z : Letter). whole_of z.bytes) (same_some _ l e) ∙ read)
    by_number false e = next p e
letter_packet p before (packet.Repeated q copy) l m h is read next = next (if copy == p then q else p) is
letter_packet p before (packet.Delivered q a b) l m h is read next = next p is
letter_packet p before (packet.Lost q) l m h is read next = next p is
letter_packet p before (packet.Dropped q why) l m h is read next = next p is

pub letter_brings : (p : ℕ) (ms : List Moment) (l : Letter) (m : Message) → AttemptsDiffer ms → AllBring ms → letter_of p ms ≡ Some l → whole_of l.bytes ≡ Some m → InstallSo ms m.body
letter_brings p [] l m differ h is read = absurd (none_some l is)
letter_brings p (Told (entry.Packet e) ∷ before) l m differ h is read =
    install_grows before (Told (entry.Packet e) ∷ before) m.body (grows_one before (Told (entry.Packet e)) differ.0)
    (letter_packet p before e l m h is read (λ q at. letter_brings q before l m differ.1 h.1 at read))
letter_brings p (Said line ∷ before) l m differ h is read = install_grows before (Said line ∷ before) m.body (grows_one before (Said line) differ.0) (letter_brings p before l m differ.1 h.1 is read)
letter_brings p (Part event ∷ before) l m differ h is read = install_grows before (Part event ∷ before) m.body (grows_one before (Part event) differ.0) (letter_brings p before l m differ.1 h.1 is read)
letter_brings p (Told (entry.Node n e) ∷ before) l m differ h is read = install_grows before (Told (entry.Node n e) ∷ before) m.body (grows_one before (Told (entry.Node n e)) differ.0) (letter_brings p before l m differ.1 h.1 is read)
letter_brings p (Told (entry.Attempt e) ∷ before) l m differ h is read =
    install_grows before (Told (entry.Attempt e) ∷ before) m.body (grows_one before (Told (entry.Attempt e)) differ.0) (letter_brings p before l m differ.1 h.1 is read)
letter_brings p (Told (entry.Start e) ∷ before) l m differ h is read = install_grows before (Told (entry.Start e) ∷ before) m.body (grows_one before (Told (entry.Start e)) differ.0) (letter_brings p before l m differ.1 h.1 is read)
letter_brings p (Told (entry.Update e) ∷ before) l m differ h is read = install_grows before (Told (entry.Update e) ∷ before) m.body (grows_one before (Told (entry.Update e)) differ.0) (letter_brings p before l m differ.1 h.1 is read)
letter_brings p (Told entry.Powered ∷ before) l m differ h is read = install_grows before (Told entry.Powered ∷ before) m.body (grows_one before (Told entry.Powered) differ.0) (letter_brings p before l m differ.1 h.1 is read)
letter_brings p (Told (entry.Answered e) ∷ before) l m differ h is read =
    install_grows before (Told (entry.Answered e) ∷ before) m.body (grows_one before (Told (entry.Answered e)) differ.0) (letter_brings p before l m differ.1 h.1 is read)
letter_brings p (Told (entry.Device e) ∷ before) l m differ h is read = install_grows before (Told (entry.Device e) ∷ before) m.body (grows_one before (Told (entry.Device e)) differ.0) (letter_brings p before l m differ.1 h.1 is read)
letter_brings p (Told (entry.Call e) ∷ before) l m differ h is read = install_grows before (Told (entry.Call e) ∷ before) m.body (grows_one before (Told (entry.Call e)) differ.0) (letter_brings p before l m differ.1 h.1 is read)
letter_brings p (Told (entry.Command e) ∷ before) l m differ h is read =
    install_grows before (Told (entry.Command e) ∷ before) m.body (grows_one before (Told (entry.Command e)) differ.0) (letter_brings p before l m differ.1 h.1 is read)
letter_brings p (Told (entry.Status e) ∷ before) l m differ h is read = install_grows before (Told (entry.Status e) ∷ before) m.body (grows_one before (Told (entry.Status e)) differ.0) (letter_brings p before l m differ.1 h.1 is read)
letter_brings p (Told (entry.Address e) ∷ before) l m differ h is read =
    install_grows before (Told (entry.Address e) ∷ before) m.body (grows_one before (Told (entry.Address e)) differ.0) (letter_brings p before l m differ.1 h.1 is read)
letter_brings p (Told (entry.Schedule e) ∷ before) l m differ h is read =
    install_grows before (Told (entry.Schedule e) ∷ before) m.body (grows_one before (Told (entry.Schedule e)) differ.0) (letter_brings p before l m differ.1 h.1 is read)
