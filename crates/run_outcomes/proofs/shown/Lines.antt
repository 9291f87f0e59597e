-- What lines say that nodes sent, they gave; and so the Promises that came to a coordinator.
use Rattle.std.specs.Prelude.{ℕ, ◌≡◌, ◌==◌, ◌++◌, ◌≤◌, nat_le, Bool, true, false, List, [], ◌∷◌, Option, None, Some, length, if◌then◌else◌}
use Rattle.std.specs.List.{AllByRecursion}
use Rattle.std.proofs.Common.{refl, sym, subst, ◌∙◌, arith}
use Rattle.attempt_laws.proofs.Walk.{if_with}
use Rattle.cl_base.specs.declared.packet.DropCause.{DropCause}
use Rattle.cmm_attempt.proofs.Basics.{and_cases, same_some}
use Rattle.history.specs.Letters.{Letter, arriving, letter_of}
use Rattle.history.specs.Moment.{Moment, Part, Said, Told}
use Rattle.history.specs.Names.{named}
use Rattle.history.specs.Records.{is_promise_of, promise_among, promises}
use Rattle.history.specs.Seizing.{is_attempt}
use Rattle.interconnect.specs.Links as links
use Rattle.interconnect.specs.Links.{sending}
use Rattle.node_model.specs.declared.output.Output.{Output}
use Rattle.node_model.specs.declared.output.Output.TheVariants.{Sends, Tells}
use Rattle.refinement.specs.Runs.{IsAmong, Letter as Sent}
use Rattle.refinement.specs.Worlds.{AllFit, SpelledIfShort}
use Rattle.run_downs.proofs.Packets.{IsNoPacket}
use Rattle.run_history.proofs.Alike.{Among}
use Rattle.run_history.proofs.Links.{NotPacket}
use Rattle.run_history.specs.Scenes.{Scene, dropped_so, passing, posting, sent_as, telling}
use Rattle.status_report.specs.declared.entry.Entry.{Entry}
use Rattle.status_report.specs.declared.entry.Entry.TheVariants as entry
use Rattle.status_report.specs.declared.packet_entry.PacketEntry.{PacketEntry}
use Rattle.status_report.specs.declared.packet_entry.PacketEntry.TheVariants as packet_entry
use Rattle.wire.proofs.Messages.{whole_again}
use Rattle.wire.specs.Reads.{whole_of}
use Rattle.wire.specs.Spelling.{Fits, spelling}
use Rattle.wire.specs.declared.message.Body.{Body}
use Rattle.wire.specs.declared.message.Message.{Message}
use Rattle.world_model.specs.Sends.{is_sent}
use Rattle.run_outcomes.specs.tasks.Shown.{LineSo}
use Rattle.run_outcomes.proofs.shown.Letters.{IsMore}

none_is : {X : Type 0} (x : X) → None ≡ Some x → ⊥
none_is x h = cc

-- ---- what a node gives

pub lines_more : (L M : List Sent) (ms : List Moment) → IsMore L M → AllByRecursion (LineSo L) ms → AllByRecursion (LineSo M) ms
lines_more L M [] f k = tt
lines_more L M (x ∷ ms) f k = (line_more x k.0, lines_more L M ms f k.1)
  where
    line_more : (x : Moment) → LineSo L x → LineSo M x
    line_more (Told (entry.Packet (packet_entry.Sent p n to called bytes))) h = λ m is. f n m.body (h m is)
    line_more _ h = tt

told_line : (L : List Sent) (e : Entry) → NotPacket e → LineSo L (Told e)
told_line L (entry.Packet e) k = absurd k
told_line L _ k = tt

dropped_lines : (L : List Sent) (o : Option (ℕ × DropCause)) (s : Scene) → AllByRecursion (LineSo L) s.moments → AllByRecursion (LineSo L) (dropped_so o s).moments
dropped_lines L None s k = k
dropped_lines L (Some d) s k = (tt, k)

size : (k : ℕ) → nat_le k 131072 ≡ true → k ≤ 131072
size k e = grind arith

posting_lines : (L : List Sent) (n to : ℕ) (b : Body) (s : Scene) → SpelledIfShort (record { sender = n; body = b }) → IsAmong n b L → AllByRecursion (LineSo L) s.moments
    → AllByRecursion (LineSo L) (posting n to (record { sender = n; body = b }) s).moments
posting_lines L n to b s fits among k =
    if_with (λ (t : Scene). AllByRecursion (LineSo L) t.moments) (is_sent s.links m) (is_sent s.links m) (sent_as n to m o s) s refl
    (λ e. posted (fits (size (length (spelling m)) (and_cases _ _ e).0))) (λ e. k)
  where
    m : Message
    m = record { sender = n; body = b }

    o : links.Outcome
    o = sending s.links n to (spelling m)

    posted : Fits m → AllByRecursion (LineSo L) (sent_as n to m o s).moments
    posted spelled = dropped_lines L o.sent.dropped _ ((λ other is. subst (λ (z : Message). IsAmong n z.body L) (same_some m other (sym (whole_again m spelled) ∙ is)) among), k)

pub passing_lines : (L : List Sent) (n : ℕ) (os : List Output) (s : Scene) → AllByRecursion IsNoPacket os → AllFit n os → Among n os L → AllByRecursion (LineSo L) s.moments
    → AllByRecursion (LineSo L) (passing n os s).moments
passing_lines L n [] s none fits among k = k
passing_lines L n (Tells e ∷ os) s none fits among k = passing_lines L n os (telling e s) none.1 fits among (told_line L e none.0, k)
passing_lines L n (Sends to b ∷ os) s none fits among k =
    passing_lines L n os (posting n to (record { sender = n; body = b }) s) none.1 fits.2 among.1 (posting_lines L n to b s fits.1 among.0 k)

-- what can be read of it was given by its sender
abbrev pub GotSo : List Sent → Letter → Type 0
GotSo L l = (m : Message) → whole_of l.bytes ≡ Some m → IsAmong l.from m.body L

-- ---- letters

by_packet : (L : List Sent) (p : ℕ) (before : List Moment) (e : PacketEntry) (l : Letter) → AllByRecursion (LineSo L) (Told (entry.Packet e) ∷ before) → letter_of p (Told (entry.Packet e) ∷ before) ≡ Some l
    → ((q : ℕ) → letter_of q before ≡ Some l → GotSo L l) → GotSo L l
by_packet L p before (packet_entry.Sent q a b called bytes) l h is next = by_number (q == p) is
  where
    by_number : (t : Bool) → (if t then Some (record { from = a; to = b; name = named called; bytes = bytes; before = before }) else letter_of p before) ≡ Some l → GotSo L l
    by_number true e = subst (GotSo L) (same_some _ l e) h.0
    by_number false e = next p e
by_packet L p before (packet_entry.Repeated q copy) l h is next = next (if copy == p then q else p) is
by_packet L p before (packet_entry.Delivered q a b) l h is next = next p is
by_packet L p before (packet_entry.Lost q) l h is next = next p is
by_packet L p before (packet_entry.Dropped q why) l h is next = next p is

letter_got : (L : List Sent) (p : ℕ) (ms : List Moment) (l : Letter) → AllByRecursion (LineSo L) ms → letter_of p ms ≡ Some l → GotSo L l
letter_got L p [] l h is = absurd (none_is l is)
letter_got L p (Told (entry.Packet e) ∷ before) l h is = by_packet L p before e l h is (λ q at. letter_got L q before l h.1 at)
letter_got L p (Said line ∷ before) l h is = letter_got L p before l h.1 is
letter_got L p (Part event ∷ before) l h is = letter_got L p before l h.1 is
letter_got L p (Told (entry.Node n e) ∷ before) l h is = letter_got L p before l h.1 is
letter_got L p (Told (entry.Attempt e) ∷ before) l h is = letter_got L p before l h.1 is
letter_got L p (Told (entry.Start e) ∷ before) l h is = letter_got L p before l h.1 is
letter_got L p (Told (entry.Update e) ∷ before) l h is = letter_got L p before l h.1 is
letter_got L p (Told entry.Powered ∷ before) l h is = letter_got L p before l h.1 is
letter_got L p (Told (entry.Answered e) ∷ before) l h is = letter_got L p before l h.1 is
letter_got L p (Told (entry.Device e) ∷ before) l h is = letter_got L p before l h.1 is
letter_got L p (Told (entry.Call e) ∷ before) l h is = letter_got L p before l h.1 is
letter_got L p (Told (entry.Command e) ∷ before) l h is = letter_got L p before l h.1 is
letter_got L p (Told (entry.Status e) ∷ before) l h is = letter_got L p before l h.1 is
letter_got L p (Told (entry.Address e) ∷ before) l h is = letter_got L p before l h.1 is
letter_got L p (Told (entry.Schedule e) ∷ before) l h is = letter_got L p before l h.1 is

arriving_packet : (L : List Sent) (before : List Moment) (e : PacketEntry) (l : Letter) → AllByRecursion (LineSo L) before → arriving before (Told (entry.Packet e)) ≡ Some l → GotSo L l
arriving_packet L before (packet_entry.Delivered q a b) l h is = letter_got L q before l h is
arriving_packet L before (packet_entry.Sent q a b called bytes) l h is = absurd (none_is l is)
arriving_packet L before (packet_entry.Repeated q copy) l h is = absurd (none_is l is)
arriving_packet L before (packet_entry.Lost q) l h is = absurd (none_is l is)
arriving_packet L before (packet_entry.Dropped q why) l h is = absurd (none_is l is)

arriving_got : (L : List Sent) (before : List Moment) (x : Moment) (l : Letter) → AllByRecursion (LineSo L) before → arriving before x ≡ Some l → GotSo L l
arriving_got L before (Told (entry.Packet e)) l h is = arriving_packet L before e l h is
arriving_got L before (Said line) l h is = absurd (none_is l is)
arriving_got L before (Part event) l h is = absurd (none_is l is)
arriving_got L before (Told (entry.Node n e)) l h is = absurd (none_is l is)
arriving_got L before (Told (entry.Attempt e)) l h is = absurd (none_is l is)
arriving_got L before (Told (entry.Start e)) l h is = absurd (none_is l is)
arriving_got L before (Told (entry.Update e)) l h is = absurd (none_is l is)
arriving_got L before (Told entry.Powered) l h is = absurd (none_is l is)
arriving_got L before (Told (entry.Answered e)) l h is = absurd (none_is l is)
arriving_got L before (Told (entry.Device e)) l h is = absurd (none_is l is)
arriving_got L before (Told (entry.Call e)) l h is = absurd (none_is l is)
arriving_got L before (Told (entry.Command e)) l h is = absurd (none_is l is)
arriving_got L before (Told (entry.Status e)) l h is = absurd (none_is l is)
arriving_got L before (Told (entry.Address e)) l h is = absurd (none_is l is)
arriving_got L before (Told (entry.Schedule e)) l h is = absurd (none_is l is)

-- ---- Promises in hand

abbrev AllGot : List Sent → List Letter → Type 0
AllGot L ls = AllByRecursion (GotSo L) ls

among_got : (L : List Sent) (e : ℕ) (o : Option Letter) → ((l : Letter) → o ≡ Some l → GotSo L l) → AllGot L (promise_among e o)
among_got L e None h = tt
among_got L e (Some l) h = by_test (is_promise_of e l) refl
  where
    by_test : (t : Bool) → is_promise_of e l ≡ t → AllGot L (if t then l ∷ [] else [])
    by_test true is = (h l refl, tt)
    by_test false is = tt

both_got : (L : List Sent) (ls more : List Letter) → AllGot L ls → AllGot L more → AllGot L (ls ++ more)
both_got L [] more h k = k
both_got L (l ∷ ls) more h k = (h.0, both_got L ls more h.1 k)

pub promises_got : (L : List Sent) (e : ℕ) (ms : List Moment) → AllByRecursion (LineSo L) ms → AllGot L (promises e ms)
promises_got L e [] h = tt
promises_got L e (x ∷ before) h = by_test (is_attempt e x) (promises_got L e before h.1)
  where
    by_test : (t : Bool) → AllGot L (promises e before) → AllGot L (if t then [] else promise_among e (arriving before x) ++ promises e before)
    by_test true k = tt
    by_test false k = both_got L (promise_among e (arriving before x)) (promises e before) (among_got L e (arriving before x) (λ l is. arriving_got L before x l h.1 is)) k
