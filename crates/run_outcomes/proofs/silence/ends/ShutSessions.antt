-- Behind lines that leave a coordinator in the session of its attempt it has neither gone up nor promised in the event of a Collect: no Collect goes to its own sender.
use Rattle.std.specs.Prelude.{ℕ, ◌≡◌, ◌≢◌, ◌==◌, ◌&&◌, Bool, true, false, List, [], ◌∷◌, Option, None, Some, if◌then◌else◌}
use Rattle.std.specs.Option.{option_and_then}
use Rattle.std.proofs.Common.{refl, sym, subst, ◌∙◌}
use Rattle.cmm_attempt.proofs.Basics.{and_cases, false_true, none_some, same_number, same_some}
use Rattle.history.specs.Letters.{Letter, arrived, letter_of, passes}
use Rattle.history.specs.Member.{in_collect, number_of, promised_to, session_of}
use Rattle.history.specs.Moment.{Moment, Part, Said, Told}
use Rattle.history.specs.Names as name
use Rattle.history.specs.Names.{Name, named, same_name}
use Rattle.history.specs.Order.{Always}
use Rattle.history.specs.Seizing.{is_attempt, is_number}
use Rattle.history.specs.Setting.{coordinator}
use Rattle.history.specs.Trace.{attempt, down, saved, up}
use Rattle.run_lines.proofs.Adds.{onto}
use Rattle.status_report.specs.declared.entry.Entry.{Entry}
use Rattle.status_report.specs.declared.entry.Entry.TheVariants as entry
use Rattle.status_report.specs.declared.packet_entry.PacketEntry.{PacketEntry}
use Rattle.status_report.specs.declared.packet_entry.PacketEntry.TheVariants as packet
use Rattle.run_outcomes.specs.reports.Laws.{AsksSo, IsToOther}
use Rattle.run_outcomes.proofs.reports.Own.{attempt_own, number_so}

-- the node goes up with this line, or saves in the event of a Collect
abbrev pub enters_anew : ℕ → List Moment → Moment → Bool
enters_anew n before (up m) = m == n
enters_anew n before (saved m) = (m == n) && in_collect n before
enters_anew n before _ = false

-- ---- letters

abbrev GoesOut : Letter → Type 0
GoesOut l = IsToOther l.from l.to l.name

packet_out : (p : ℕ) (e : PacketEntry) (ms : List Moment) (l : Letter) → AsksSo ms (Told (entry.Packet e)) → ((q : ℕ) → letter_of q ms ≡ Some l → GoesOut l) → letter_of p (Told (entry.Packet e) ∷ ms) ≡ Some l → GoesOut l
packet_out p (packet.Sent q a b called bytes) ms l here k is = by_test (q == p) is
  where
    one : Letter
    one = record { from = a; to = b; name = named called; bytes = bytes; before = ms }

    by_test : (t : Bool) → (if t then Some one else letter_of p ms) ≡ Some l → GoesOut l
    by_test true found = subst GoesOut (same_some one l found) here.0
    by_test false found = k p found
packet_out p (packet.Repeated q copy) ms l here k is = k (if copy == p then q else p) is
packet_out p (packet.Delivered q a b) ms l here k is = k p is
packet_out p (packet.Lost q) ms l here k is = k p is
packet_out p (packet.Dropped q why) ms l here k is = k p is

entry_out : (p : ℕ) (e : Entry) (ms : List Moment) (l : Letter) → AsksSo ms (Told e) → ((q : ℕ) → letter_of q ms ≡ Some l → GoesOut l) → letter_of p (Told e ∷ ms) ≡ Some l → GoesOut l
entry_out p (entry.Packet e) ms l here k is = packet_out p e ms l here k is
entry_out p _ ms l here k is = k p is

letter_out : (p : ℕ) (ms : List Moment) (l : Letter) → Always AsksSo ms → letter_of p ms ≡ Some l → GoesOut l
letter_out p [] l k is = absurd (none_some l is)
letter_out p (Told e ∷ ms) l k is = entry_out p e ms l k.0 (λ q found. letter_out q ms l k.1 found) is
letter_out p (Said e ∷ ms) l k is = letter_out p ms l k.1 is
letter_out p (Part e ∷ ms) l k is = letter_out p ms l k.1 is

packet_came : (e : PacketEntry) (ms : List Moment) (l : Letter) → Always AsksSo ms → (arrived ms ≡ Some l → GoesOut l) → arrived (Told (entry.Packet e) ∷ ms) ≡ Some l → GoesOut l
packet_came (packet.Delivered p a b) ms l k rest is = letter_out p ms l k is
packet_came _ ms l k rest is = rest is

entry_came : (e : Entry) (ms : List Moment) (l : Letter) → Always AsksSo ms → (arrived ms ≡ Some l → GoesOut l) → arrived (Told e ∷ ms) ≡ Some l → GoesOut l
entry_came (entry.Packet e) ms l k rest is = packet_came e ms l k rest is
entry_came _ ms l k rest is = rest is

arrived_out : (ms : List Moment) (l : Letter) → Always AsksSo ms → arrived ms ≡ Some l → GoesOut l
arrived_out [] l k is = absurd (none_some l is)
arrived_out (Told e ∷ ms) l k is = entry_came e ms l k.1 (λ at. arrived_out ms l k.1 at) is
arrived_out (Said e ∷ ms) l k is = absurd (none_some l is)
arrived_out (Part e ∷ ms) l k is = absurd (none_some l is)

collect_out : (n to : ℕ) (x : Name) → IsToOther n to x → same_name x name.Collect ≡ true → to ≢ n
collect_out n to name.Collect of h = of
collect_out n to _ of h = absurd (false_true h)

-- no Collect of the attempt of its own comes to a coordinator
none_own : (n e : ℕ) (ms : List Moment) → coordinator e ≡ n → Always AsksSo ms → in_collect n ms ≡ true → is_number e (promised_to ms) ≡ true → ⊥
none_own n e ms own k within is = by_letter (arrived ms) (λ l at. arrived_out ms l k at) within is
  where
    by_letter : (o : Option Letter) → ((l : Letter) → o ≡ Some l → GoesOut l) → passes (λ l. same_name l.name name.Collect && (l.to == n)) o ≡ true → is_number e (option_and_then number_of o) ≡ true → ⊥
    by_letter None out h i = false_true h
    by_letter (Some l) out h i =
        let two : (same_name l.name name.Collect ≡ true) × ((l.to == n) ≡ true) = and_cases (same_name l.name name.Collect) (l.to == n) h in
        let from : coordinator e ≡ l.from = same_number (coordinator e) l.from (attempt_own l.from e l.before (number_so e (number_of l) i)) in
        collect_out l.from l.to l.name (out l refl) two.0 (same_number l.to n two.1 ∙ (sym own ∙ from))

-- ---- lines

-- it was in the session before, and the line leaves it there
abbrev Stays : ℕ → ℕ → List Moment → Moment → Type 0
Stays n e ms x = (is_number e (session_of n ms) ≡ true) × (enters_anew n ms x ≡ false)

or_none : (b : Bool) (o : Option ℕ) (e : ℕ) → is_number e (if b then None else o) ≡ true → (is_number e o ≡ true) × (b ≡ false)
or_none true o e h = absurd (false_true h)
or_none false o e h = (h, refl)

pub session_one : (n e : ℕ) (x : Moment) (ms : List Moment) → coordinator e ≡ n → Always AsksSo ms → is_attempt e x ≡ false → is_number e (session_of n (x ∷ ms)) ≡ true → Stays n e ms x
session_one n e (up m) ms own k young h = or_none (m == n) (session_of n ms) e h
session_one n e (down m why) ms own k young h = ((or_none (m == n) (session_of n ms) e h).0, refl)
session_one n e (attempt f members) ms own k young h = by_test (coordinator f == n) h
  where
    by_test : (b : Bool) → is_number e (if b then Some f else session_of n ms) ≡ true → Stays n e ms (attempt f members)
    by_test true i = absurd (false_true (sym young ∙ i))
    by_test false i = (i, refl)
session_one n e (saved m) ms own k young h = by_test ((m == n) && in_collect n ms) refl h
  where
    by_test : (b : Bool) → ((m == n) && in_collect n ms) ≡ b → is_number e (if b then promised_to ms else session_of n ms) ≡ true → Stays n e ms (saved m)
    by_test true is i = absurd (none_own n e ms own k (and_cases (m == n) (in_collect n ms) is).1 i)
    by_test false is i = (i, is)
session_one n e _ ms own k young h = (h, refl)

pub always_of : (P : List Moment → Moment → Type 0) (xs ms : List Moment) → Always P (onto xs ms) → Always P ms
always_of P [] ms h = h
always_of P (x ∷ xs) ms h = (always_of P xs (x ∷ ms) h).1
