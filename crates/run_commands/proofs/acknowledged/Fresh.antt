-- Requests that wait still wait after a line, unless it is the president's answer to them.
use Rattle.std.specs.Prelude.{ℕ, ◌≡◌, ◌==◌, ◌&&◌, true, if◌then◌else◌, List, [], ◌∷◌, ◌++◌, Option, None, Some}
use Rattle.std.specs.List.{list_any}
use Rattle.std.proofs.Common.{refl, ap, subst}
use Rattle.status_report.specs.declared.command_entry.CommandEntry.TheVariants as command
use Rattle.status_report.specs.declared.entry.Entry.TheVariants as entry
use Rattle.status_report.specs.declared.packet_entry.PacketEntry.TheVariants as packet
use Rattle.history.specs.Letters.{Letter, letter_of}
use Rattle.history.specs.Member.{member_of}
use Rattle.history.specs.Moment.{Moment, Told}
use Rattle.history.specs.Names as name
use Rattle.history.specs.Names.{Name, named}
use Rattle.history.specs.Requests.{Answered, Granted, Request, Stage, Waiting, answered_by, answered_in, asked_in, closed, command_before, is_request_of, number_asked, requests_of, with_asked, with_letter, with_request}
use Rattle.history.specs.Seizing.{is_number}
use Rattle.history.specs.Setting.{Setting, coordinator}
use Rattle.run_commands.proofs.acknowledged.Askings.{is_equal, number_is, split_if, two_true}
use Rattle.run_commands.proofs.acknowledged.Remote.{WaitAll, WaitsIf}

-- ---- those that wait

pub fewer_wait : (F G : ℕ → ℕ → Type 0) (rs : List Request) → ((m q : ℕ) → G m q → F m q) → WaitAll F rs → WaitAll G rs
fewer_wait F G [] less h = tt
fewer_wait F G (r ∷ rs) less h = (λ g. h.0 (less r.node r.number g), fewer_wait F G rs less h.1)

end_waits : (F : ℕ → ℕ → Type 0) (rs : List Request) (r : Request) → r.stage ≡ Waiting → WaitAll F rs → WaitAll F (rs ++ r ∷ [])
end_waits F [] r is h = (λ f. is, tt)
end_waits F (x ∷ rs) r is h = (h.0, end_waits F rs r is h.1)

with_waits : (F : ℕ → ℕ → Type 0) (n q : ℕ) (o : Option (List ℕ)) (rs : List Request) → WaitAll F rs → WaitAll F (with_request n q o rs)
with_waits F n q None rs h = h
with_waits F n q (Some words) rs h = split_if (WaitAll F) (list_any (is_request_of n q) rs) rs _ (λ is. h) (λ is. end_waits F rs (record { node = n; number = q; words = words; stage = Waiting }) refl h)

asked_waits : (S : Setting) (F : ℕ → ℕ → Type 0) (e : ℕ) (l : Letter) (o : Option ℕ) (rs : List Request) → WaitAll F rs → WaitAll F (with_asked S e l o rs)
asked_waits S F e l None rs h = h
asked_waits S F e l (Some q) rs h = with_waits F l.from q (asked_in S e l.from q l.before) rs h

letter_waits : (S : Setting) (F : ℕ → ℕ → Type 0) (e : ℕ) (o : Option Letter) (rs : List Request) → WaitAll F rs → WaitAll F (with_letter S e o rs)
letter_waits S F e None rs h = h
letter_waits S F e (Some l) rs h = asked_waits S F e l (number_asked l.name) rs h

closed_waits : (F : ℕ → ℕ → Type 0) (e : ℕ) (ms : List Moment) (m p : ℕ) (r : Request) (stage : Stage) → (F m p → ⊥) → is_request_of m p r ≡ true → WaitsIf F (closed e ms r stage)
closed_waits F e ms m p r stage never is = by stage
  where
    same : F r.node r.number → F m p
    same f = let two : _ = two_true (r.node == m) (r.number == p) is in subst (λ z. F z p) (is_equal r.node m two.0) (subst (λ z. F r.node z) (is_equal r.number p two.1) f)

    by : (z : Stage) → WaitsIf F (closed e ms r z)
    by Waiting f = absurd (never (same f))
    by (Granted v) f = absurd (never (same f))
    by Answered f = absurd (never (same f))

answered_waits : (F : ℕ → ℕ → Type 0) (e : ℕ) (ms : List Moment) (m p : ℕ) (rs : List Request) → (F m p → ⊥) → WaitAll F rs → WaitAll F (answered_in e ms m p rs)
answered_waits F e ms m p [] never h = tt
answered_waits F e ms m p (r ∷ rs) never h = (
  split_if (WaitsIf F) (is_request_of m p r) (closed e ms r r.stage) r (λ is. closed_waits F e ms m p r r.stage never is) (λ is. h.0),
  answered_waits F e ms m p rs never h.1,
)

sent_waits : (F : ℕ → ℕ → Type 0) (e : ℕ) (ms : List Moment) (m : ℕ) (called : Name) (rs : List Request) → ((p : ℕ) → called ≡ name.Answer p → F m p → ⊥) → WaitAll F rs → WaitAll F (answered_by e ms m called rs)
sent_waits F e ms m (name.Answer p) rs never h = answered_waits F e ms m p rs (never p refl) h
sent_waits F e ms m _ rs never h = h

-- ---- a line

-- no answer of the president of e to any of those
abbrev pub NotTo : (ℕ → ℕ → Type 0) → ℕ → Moment → Type 0
NotTo F e (Told (entry.Command (command.Answered m p reply))) = m ≡ coordinator e → F m p → ⊥
NotTo F e (Told (entry.Packet (packet.Sent k c m called bytes))) = c ≡ coordinator e → (p : ℕ) → named called ≡ name.Answer p → F m p → ⊥
NotTo F e _ = Unit {0}

pub line_waits : (S : Setting) (F : ℕ → ℕ → Type 0) (e : ℕ) (x : Moment) (ms : List Moment) → NotTo F e x → WaitAll F (requests_of S e ms) → WaitAll F (requests_of S e (x ∷ ms))
line_waits S F e (Told (entry.Command (command.Asked m p))) ms never h =
    split_if (WaitAll F) ((m == coordinator e) && is_number e (member_of m ms)) _ (requests_of S e ms) (λ is. with_waits F m p (command_before S ms) (requests_of S e ms) h) (λ is. h)
line_waits S F e (Told (entry.Command (command.Answered m p reply))) ms never h =
    split_if (WaitAll F) (m == coordinator e) _ (requests_of S e ms) (λ is. answered_waits F e ms m p (requests_of S e ms) (never (is_equal m (coordinator e) is)) h) (λ is. h)
line_waits S F e (Told (entry.Packet (packet.Sent p m b called bytes))) ms never h =
    split_if (WaitAll F) (m == coordinator e) _ (requests_of S e ms) (λ is. sent_waits F e ms b (named called) (requests_of S e ms) (never (is_equal m (coordinator e) is)) h) (λ is. h)
line_waits S F e (Told (entry.Packet (packet.Delivered p b m))) ms never h =
    split_if (WaitAll F) ((m == coordinator e) && is_number e (member_of m ms)) _ (requests_of S e ms) (λ is. letter_waits S F e (letter_of p ms) (requests_of S e ms) h) (λ is. h)
line_waits S F e _ ms never h = h

-- ---- none

-- no request comes to the president of e
abbrev pub NoneComes : ℕ → List Moment → Moment → Type 0
NoneComes e ms (Told (entry.Command (command.Asked m p))) = m ≡ coordinator e → member_of m ms ≡ Some e → ⊥
NoneComes e ms (Told (entry.Packet (packet.Delivered p b m))) = m ≡ coordinator e → member_of m ms ≡ Some e → ⊥
NoneComes e ms _ = Unit {0}

comes_not : (e m : ℕ) (o : Option ℕ) (x : List Request) (rs : List Request) → (m ≡ coordinator e → o ≡ Some e → ⊥) → rs ≡ [] → (if (m == coordinator e) && is_number e o then x else rs) ≡ []
comes_not e m o x rs never h =
    split_if (λ (z : List Request). z ≡ []) ((m == coordinator e) && is_number e o) x rs
    (λ is. let two : _ = two_true (m == coordinator e) (is_number e o) is in absurd (never (is_equal m (coordinator e) two.0) (number_is e o two.1))) (λ is. h)

none_sent : (e : ℕ) (ms : List Moment) (m : ℕ) (called : Name) (rs : List Request) → rs ≡ [] → answered_by e ms m called rs ≡ []
none_sent e ms m (name.Answer p) rs h = ap (λ (z : List Request). answered_in e ms m p z) h
none_sent e ms m _ rs h = h

pub line_none : (S : Setting) (e : ℕ) (x : Moment) (ms : List Moment) → NoneComes e ms x → requests_of S e ms ≡ [] → requests_of S e (x ∷ ms) ≡ []
line_none S e (Told (entry.Command (command.Asked m p))) ms never h = comes_not e m (member_of m ms) (with_request m p (command_before S ms) (requests_of S e ms)) (requests_of S e ms) never h
line_none S e (Told (entry.Command (command.Answered m p reply))) ms never h =
    split_if (λ (z : List Request). z ≡ []) (m == coordinator e) _ (requests_of S e ms) (λ is. ap (λ (z : List Request). answered_in e ms m p z) h) (λ is. h)
line_none S e (Told (entry.Packet (packet.Sent p m b called bytes))) ms never h =
    split_if (λ (z : List Request). z ≡ []) (m == coordinator e) _ (requests_of S e ms) (λ is. none_sent e ms b (named called) (requests_of S e ms) h) (λ is. h)
line_none S e (Told (entry.Packet (packet.Delivered p b m))) ms never h = comes_not e m (member_of m ms) (with_letter S e (letter_of p ms) (requests_of S e ms)) (requests_of S e ms) never h
line_none S e _ ms never h = h
