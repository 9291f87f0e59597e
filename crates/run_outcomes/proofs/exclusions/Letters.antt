-- Letters tell what their senders had installed, and so do the Promises that a coordinator has in hand.
use Rattle.std.specs.Prelude.{ℕ, ◌≡◌, ◌≤◌, ◌==◌, ◌++◌, Bool, true, false, List, [], ◌∷◌, Option, None, Some, is_some, option_map, if◌then◌else◌}
use Rattle.std.specs.List.{AllByRecursion}
use Rattle.std.proofs.Common.{refl, sym, ap, subst, ◌∙◌, inl, inr}
use Rattle.attempt_laws.specs.Machine.{record_in as machine_record}
use Rattle.cmm_attempt.proofs.Basics.{and_cases, false_true, none_some, same_number, same_some}
use Rattle.history.specs.Contact.{AttemptsDiffer}
use Rattle.history.specs.Letters.{Letter, arriving, letter_of, says}
use Rattle.history.specs.Member.{last_installed, promised_to}
use Rattle.history.specs.Moment.{Moment, Told}
use Rattle.history.specs.Names as name
use Rattle.history.specs.Names.{named, same_name}
use Rattle.history.specs.Records.{is_promise_of, promise_among, promises, record_in}
use Rattle.history.specs.Seizing.{is_attempt, is_number}
use Rattle.membership_machine.specs.Records.{Saved}
use Rattle.membership_machine.specs.State.{Memberships}
use Rattle.run_attempts.proofs.Tried.{Grows, grows_one, grows_then}
use Rattle.run_messages.proofs.records.Letters.{Had}
use Rattle.run_messages.specs.records.Sound.{BodySound, ShowsSo}
use Rattle.status_report.specs.declared.entry.Entry.TheVariants as entry
use Rattle.status_report.specs.declared.packet_entry.PacketEntry.TheVariants as packet
use Rattle.wire.specs.Reads.{whole_of}
use Rattle.wire.specs.declared.message.Body.{Body}
use Rattle.wire.specs.declared.message.Body.TheVariants as body
use Rattle.wire.specs.declared.message.Message.{Message}
use Rattle.world_model.specs.Sends.{name_of}
use Rattle.run_outcomes.specs.exclusions.Sites.{AllJudged, BodySo}

abbrev pub LetterSo : Letter → Type 0
LetterSo l = (m : Message) → whole_of l.bytes ≡ Some m → BodySo l.before l.from m.body

abbrev Found : List Moment → Letter → Type 0
Found ms l = LetterSo l × Grows l.before ms

found_more : (ms : List Moment) (x : Moment) (l : Letter) → AttemptsDiffer (x ∷ ms) → Found ms l → Found (x ∷ ms) l
found_more ms x l differ h = (h.0, grows_then l.before ms (x ∷ ms) h.1 (grows_one ms x differ.0))

pub letter_so : (p : ℕ) (ms : List Moment) (l : Letter) → AttemptsDiffer ms → AllJudged ms → letter_of p ms ≡ Some l → LetterSo l × Grows l.before ms
letter_so p [] l differ h is = absurd (none_some l is)
letter_so p (Told (entry.Packet (packet.Sent q a b called bytes)) ∷ ms) l differ h is = by_number (q == p) is (λ at. letter_so p ms l differ.1 h.1 at)
  where
    x : Moment
    x = Told (entry.Packet (packet.Sent q a b called bytes))

    by_number : (t : Bool) → (if t then Some (record { from = a; to = b; name = named called; bytes = bytes; before = ms }) else letter_of p ms) ≡ Some l → (letter_of p ms ≡ Some l → Found ms l) → Found (x ∷ ms) l
    by_number true e next = subst (Found (x ∷ ms)) (same_some _ l e) (h.0.says, grows_one ms x differ.0)
    by_number false e next = found_more ms x l differ (next e)
letter_so p (Told (entry.Packet (packet.Repeated q copy)) ∷ ms) l differ h is = found_more ms _ l differ (letter_so (if copy == p then q else p) ms l differ.1 h.1 is)
letter_so p (_ ∷ ms) l differ h is = found_more ms _ l differ (letter_so p ms l differ.1 h.1 is)

arriving_so : (ms : List Moment) (x : Moment) (l : Letter) → AttemptsDiffer ms → AllJudged ms → arriving ms x ≡ Some l → LetterSo l
arriving_so ms (Told (entry.Packet (packet.Delivered q a b))) l differ h is = (letter_so q ms l differ h is).0
arriving_so ms _ l differ h is = absurd (none_some l is)

both_so : (ls more : List Letter) → AllByRecursion LetterSo ls → AllByRecursion LetterSo more → AllByRecursion LetterSo (ls ++ more)
both_so [] more h k = k
both_so (l ∷ ls) more h k = (h.0, both_so ls more h.1 k)

among_so : (e : ℕ) (o : Option Letter) → ((l : Letter) → o ≡ Some l → LetterSo l) → AllByRecursion LetterSo (promise_among e o)
among_so e None h = tt
among_so e (Some l) h = by_test (is_promise_of e l)
  where
    by_test : (t : Bool) → AllByRecursion LetterSo (if t then l ∷ [] else [])
    by_test true = (h l refl, tt)
    by_test false = tt

pub promises_so : (e : ℕ) (ms : List Moment) → AttemptsDiffer ms → AllJudged ms → AllByRecursion LetterSo (promises e ms)
promises_so e [] differ h = tt
promises_so e (x ∷ ms) differ h = by_test (is_attempt e x) (promises_so e ms differ.1 h.1)
  where
    by_test : (t : Bool) → AllByRecursion LetterSo (promises e ms) → AllByRecursion LetterSo (if t then [] else promise_among e (arriving ms x) ++ promises e ms)
    by_test true k = tt
    by_test false k = both_so (promise_among e (arriving ms x)) (promises e ms) (among_so e (arriving ms x) (λ l is. arriving_so ms x l differ.1 h.1 is)) k

-- ---- a Promise in hand

number_so : (e p : ℕ) (o : Option ℕ) → o ≡ Some p → is_number e o ≡ true → p ≡ e
number_so e p o at is = same_number p e (subst (λ z. is_number e z ≡ true) at is)

-- what its sender had installed last by then was no newer than what it had shown
pub letter_last : (M : Memberships) (e : ℕ) (l : Letter) → (M.epoch e).counted ≡ false → Had M e l → LetterSo l → is_some (record_in (says l.bytes)) ≡ true → last_installed l.from l.before ≤ ((M.node l.from).showed e).installed
letter_last M e l uncounted h so some = by_whole (whole_of l.bytes) refl some
  where
    by_shows : (q newest : ℕ) (r : Saved) → q ≡ e → r.installed ≡ newest → ShowsSo M q l.from r → last_installed l.from l.before ≤ newest → last_installed l.from l.before ≤ ((M.node l.from).showed e).installed
    by_shows q newest r same at (inl is) below =
        subst (λ k. last_installed l.from l.before ≤ k) (sym at ∙ (ap (λ (z : Saved). z.installed) (sym is) ∙ ap (λ k. ((M.node l.from).showed k).installed) same)) below
    by_shows q newest r same at (inr is) below = absurd (false_true (sym uncounted ∙ subst (λ k. (M.epoch k).counted ≡ true) same is.1))

    by_body : (b : Body) → (l.name ≡ named (name_of b)) × BodySound M l.before l.from l.to b → BodySo l.before l.from b → is_some (record_in (Some b)) ≡ true → last_installed l.from l.before ≤ ((M.node l.from).showed e).installed
    by_body (body.Promise p newest members valid flagged committed pending) sound tells some =
        by_shows p newest (machine_record (body.Promise p newest members valid flagged committed pending)) (number_so e p (promised_to l.before) sound.1.asked (and_cases _ _ h.promise).1) refl sound.1.shows tells.0
    by_body (body.Install i) sound tells some = absurd (false_true (subst (λ z. same_name z name.Promise ≡ true) sound.0 (and_cases _ _ (and_cases _ _ (and_cases _ _ h.promise).0).0).0))
    by_body _ sound tells some = absurd (false_true some)

    by_whole : (o : Option Message) → whole_of l.bytes ≡ o → is_some (record_in (option_map (λ (m : Message). m.body) o)) ≡ true → last_installed l.from l.before ≤ ((M.node l.from).showed e).installed
    by_whole None at some = absurd (false_true some)
    by_whole (Some m) at some = by_body m.body (h.sound m at) (so m at) some
