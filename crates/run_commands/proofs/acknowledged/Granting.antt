-- What becomes of a request: while it waits only its answer changes it, and the answer behind the `ack` line of its words grants it, for good.
use Rattle.std.specs.Prelude.{ℕ, ◌≡◌, ◌==◌, ◌&&◌, ◌||◌, Bool, true, false, if◌then◌else◌, List, [], ◌∷◌, ◌++◌, Option, None, Some, map}
use Rattle.std.specs.List.{list_any}
use Rattle.std.proofs.Common.{refl, sym, ap, subst, ◌∙◌}
use Rattle.status_report.specs.declared.command_entry.Answer.{Answer}
use Rattle.status_report.specs.declared.command_entry.CommandEntry.TheVariants as command
use Rattle.status_report.specs.declared.entry.Entry.TheVariants as entry
use Rattle.status_report.specs.declared.packet_entry.PacketEntry.TheVariants as packet
use Rattle.history.specs.Letters.{Letter, letter_of}
use Rattle.history.specs.Member.{member_of}
use Rattle.history.specs.Moment.{Moment, Told}
use Rattle.history.specs.Names as name
use Rattle.history.specs.Names.{Name, named}
use Rattle.history.specs.Requests.{Answered, Granted, Proposal, Request, Stage, Waiting, answered_by, answered_in, asked_in, closed, command_before, in_hand, is_ack, is_granted, is_request_of, number_asked, requests_of, same_words, stage_by, with_asked, with_letter, with_request}
use Rattle.history.specs.Seizing.{is_number}
use Rattle.history.specs.Setting.{Setting, coordinator}
use Rattle.cl_base.specs.declared.packet.MessageName.{MessageName}
use Rattle.history.specs.Trace.{answered, sent}
use Rattle.run_commands.proofs.acknowledged.Askings.{is_equal, is_same, split_if, true_two, two_true}
use Rattle.run_commands.proofs.acknowledged.Requests.{words_equal}

-- the request has its answer, behind the `ack` line of its words
abbrev pub is_granted_to : ℕ → ℕ → Request → Bool
is_granted_to n q r = is_request_of n q r && is_granted r.stage

abbrev pub granted : Setting → ℕ → ℕ → ℕ → List Moment → Bool
granted S e n q ms = list_any (is_granted_to n q) (requests_of S e ms)

-- ---- for good

abbrev Has : (Request → Bool) → List Request → Type 0
Has test rs = list_any test rs ≡ true

any_end : (test : Request → Bool) (rs more : List Request) → Has test rs → Has test (rs ++ more)
any_end test [] more h = cc
any_end test (r ∷ rs) more h = by (test r) h (any_end test rs more)
  where
    by : (b : Bool) → (b || list_any test rs) ≡ true → (Has test rs → Has test (rs ++ more)) → (b || list_any test (rs ++ more)) ≡ true
    by true k rest = refl
    by false k rest = rest k

any_map : (test : Request → Bool) (f : Request → Request) (rs : List Request) → ((r : Request) → test r ≡ true → test (f r) ≡ true) → Has test rs → Has test (map f rs)
any_map test f [] so h = cc
any_map test f (r ∷ rs) so h = by (test r) refl h (any_map test f rs so)
  where
    by : (b : Bool) → test r ≡ b → (b || list_any test rs) ≡ true → (Has test rs → Has test (map f rs)) → (test (f r) || list_any test (map f rs)) ≡ true
    by true is k rest = ap (λ z. z || list_any test (map f rs)) (so r is)
    by false is k rest = or_right (test (f r)) (list_any test (map f rs)) (rest k)
      where
        or_right : (a b : Bool) → b ≡ true → (a || b) ≡ true
        or_right true b x = refl
        or_right false b x = x

with_kept : (test : Request → Bool) (n q : ℕ) (o : Option (List ℕ)) (rs : List Request) → Has test rs → Has test (with_request n q o rs)
with_kept test n q None rs h = h
with_kept test n q (Some words) rs h = split_if (Has test) (list_any (is_request_of n q) rs) rs _ (λ is. h) (λ is. any_end test rs _ h)

asked_kept : (S : Setting) (test : Request → Bool) (e : ℕ) (l : Letter) (o : Option ℕ) (rs : List Request) → Has test rs → Has test (with_asked S e l o rs)
asked_kept S test e l None rs h = h
asked_kept S test e l (Some q) rs h = with_kept test l.from q (asked_in S e l.from q l.before) rs h

letter_kept : (S : Setting) (test : Request → Bool) (e : ℕ) (o : Option Letter) (rs : List Request) → Has test rs → Has test (with_letter S e o rs)
letter_kept S test e None rs h = h
letter_kept S test e (Some l) rs h = asked_kept S test e l (number_asked l.name) rs h

closed_granted : (n q e : ℕ) (ms : List Moment) (r : Request) (stage : Stage) → r.stage ≡ stage → is_granted_to n q r ≡ true → is_granted_to n q (closed e ms r stage) ≡ true
closed_granted n q e ms r Waiting is h = absurd (no_waiting (ap (λ s. is_granted s) (sym is) ∙ (two_true (is_request_of n q r) (is_granted r.stage) h).1))
  where
    no_waiting : false ≡ true → ⊥
    no_waiting z = cc
closed_granted n q e ms r (Granted v) is h = h
closed_granted n q e ms r Answered is h = h

answered_granted : (n q e : ℕ) (ms : List Moment) (m p : ℕ) (rs : List Request) → Has (is_granted_to n q) rs → Has (is_granted_to n q) (answered_in e ms m p rs)
answered_granted n q e ms m p rs h =
    any_map (is_granted_to n q) (λ r. if is_request_of m p r then closed e ms r r.stage else r) rs
    (λ r is. split_if (λ (z : Request). is_granted_to n q z ≡ true) (is_request_of m p r) (closed e ms r r.stage) r (λ it. closed_granted n q e ms r r.stage refl is) (λ it. is)) h

sent_granted : (n q e : ℕ) (ms : List Moment) (m : ℕ) (called : Name) (rs : List Request) → Has (is_granted_to n q) rs → Has (is_granted_to n q) (answered_by e ms m called rs)
sent_granted n q e ms m (name.Answer p) rs h = answered_granted n q e ms m p rs h
sent_granted n q e ms m _ rs h = h

pub granted_stays : (S : Setting) (n q e : ℕ) (x : Moment) (ms : List Moment) → granted S e n q ms ≡ true → granted S e n q (x ∷ ms) ≡ true
granted_stays S n q e (Told (entry.Command (command.Asked m p))) ms h =
    split_if (Has (is_granted_to n q)) ((m == coordinator e) && is_number e (member_of m ms)) _ (requests_of S e ms) (λ is. with_kept (is_granted_to n q) m p (command_before S ms) (requests_of S e ms) h) (λ is. h)
granted_stays S n q e (Told (entry.Command (command.Answered m p reply))) ms h =
    split_if (Has (is_granted_to n q)) (m == coordinator e) _ (requests_of S e ms) (λ is. answered_granted n q e ms m p (requests_of S e ms) h) (λ is. h)
granted_stays S n q e (Told (entry.Packet (packet.Sent p m b called bytes))) ms h =
    split_if (Has (is_granted_to n q)) (m == coordinator e) _ (requests_of S e ms) (λ is. sent_granted n q e ms b (named called) (requests_of S e ms) h) (λ is. h)
granted_stays S n q e (Told (entry.Packet (packet.Delivered p b m))) ms h =
    split_if (Has (is_granted_to n q)) ((m == coordinator e) && is_number e (member_of m ms)) _ (requests_of S e ms) (λ is. letter_kept S (is_granted_to n q) e (letter_of p ms) (requests_of S e ms) h) (λ is. h)
granted_stays S n q e _ ms h = h

-- ---- one that waits

abbrev pub waits_with : List ℕ → Stage → List ℕ → Bool
waits_with words Waiting found = same_words found words
waits_with words _ found = false

-- it waits, with these words
abbrev pub is_open : ℕ → ℕ → List ℕ → Request → Bool
is_open n q words r = is_request_of n q r && waits_with words r.stage r.words

abbrev pub open_in : Setting → ℕ → ℕ → ℕ → List ℕ → List Moment → Bool
open_in S e n q words ms = list_any (is_open n q words) (requests_of S e ms)

-- no answer of the president to it
abbrev pub NoAnswer : ℕ → ℕ → ℕ → Moment → Type 0
NoAnswer e n q (Told (entry.Command (command.Answered m p reply))) = m ≡ coordinator e → ((m == n) && (p == q)) ≡ false
NoAnswer e n q (Told (entry.Packet (packet.Sent k c m called bytes))) = c ≡ coordinator e → (p : ℕ) → named called ≡ name.Answer p → ((m == n) && (p == q)) ≡ false
NoAnswer e n q _ = Unit {0}

other_request : (n q m p : ℕ) (r : Request) → ((m == n) && (p == q)) ≡ false → is_request_of m p r ≡ true → is_request_of n q r ≡ true → ⊥
other_request n q m p r ne h k =
    let a : _ = two_true (r.node == m) (r.number == p) h in
    let b : _ = two_true (r.node == n) (r.number == q) k in
    true_false (sym (true_two (m == n) (p == q) (ap (λ z. z == n) (sym (is_equal r.node m a.0)) ∙ b.0) (ap (λ z. z == q) (sym (is_equal r.number p a.1)) ∙ b.1)) ∙ ne)
  where
    true_false : true ≡ false → ⊥
    true_false e = cc

answered_open : (n q e : ℕ) (words : List ℕ) (ms : List Moment) (m p : ℕ) (rs : List Request) → ((m == n) && (p == q)) ≡ false → Has (is_open n q words) rs → Has (is_open n q words) (answered_in e ms m p rs)
answered_open n q e words ms m p rs ne h =
    any_map (is_open n q words) (λ r. if is_request_of m p r then closed e ms r r.stage else r) rs
    (λ r is. split_if (λ (z : Request). is_open n q words z ≡ true) (is_request_of m p r) (closed e ms r r.stage) r
    (λ it. absurd (other_request n q m p r ne it (two_true (is_request_of n q r) (waits_with words r.stage r.words) is).0)) (λ it. is)) h

sent_open : (n q e : ℕ) (words : List ℕ) (ms : List Moment) (m : ℕ) (called : Name) (rs : List Request) → ((p : ℕ) → called ≡ name.Answer p → ((m == n) && (p == q)) ≡ false) → Has (is_open n q words) rs
    → Has (is_open n q words) (answered_by e ms m called rs)
sent_open n q e words ms m (name.Answer p) rs ne h = answered_open n q e words ms m p rs (ne p refl) h
sent_open n q e words ms m _ rs ne h = h

pub open_stays : (S : Setting) (n q e : ℕ) (words : List ℕ) (x : Moment) (ms : List Moment) → NoAnswer e n q x → open_in S e n q words ms ≡ true → open_in S e n q words (x ∷ ms) ≡ true
open_stays S n q e words (Told (entry.Command (command.Asked m p))) ms other h =
    split_if (Has (is_open n q words)) ((m == coordinator e) && is_number e (member_of m ms)) _ (requests_of S e ms) (λ is. with_kept (is_open n q words) m p (command_before S ms) (requests_of S e ms) h) (λ is. h)
open_stays S n q e words (Told (entry.Command (command.Answered m p reply))) ms other h =
    split_if (Has (is_open n q words)) (m == coordinator e) _ (requests_of S e ms) (λ is. answered_open n q e words ms m p (requests_of S e ms) (other (is_equal m (coordinator e) is)) h) (λ is. h)
open_stays S n q e words (Told (entry.Packet (packet.Sent p m b called bytes))) ms other h =
    split_if (Has (is_open n q words)) (m == coordinator e) _ (requests_of S e ms)
    (λ is. sent_open n q e words ms b (named called) (requests_of S e ms) (λ k at. other (is_equal m (coordinator e) is) k at) h) (λ is. h)
open_stays S n q e words (Told (entry.Packet (packet.Delivered p b m))) ms other h =
    split_if (Has (is_open n q words)) ((m == coordinator e) && is_number e (member_of m ms)) _ (requests_of S e ms) (λ is. letter_kept S (is_open n q words) e (letter_of p ms) (requests_of S e ms) h) (λ is. h)
open_stays S n q e words _ ms other h = h

-- ---- the answer behind the `ack` line of its words

-- what is proposed is acknowledged, and these are its words
pub record IsAcked (e : ℕ) (words : List ℕ) (ms : List Moment) : Type 0 where
  pub proposal : Proposal
  pub hand : in_hand e ms ≡ Some proposal
  pub acked : list_any (is_ack e proposal.place) ms ≡ true
  pub words_so : same_words words proposal.words ≡ true

open_closed : (n q e : ℕ) (words : List ℕ) (ms : List Moment) (r : Request) (stage : Stage) → r.stage ≡ stage → IsAcked e words ms → is_request_of n q r ≡ true → waits_with words stage r.words ≡ true
    → is_granted_to n q (closed e ms r stage) ≡ true
open_closed n q e words ms r Waiting is k at h =
    true_two (is_request_of n q r) (is_granted (stage_by e ms r.words (in_hand e ms))) at
    (subst (λ o. is_granted (stage_by e ms r.words o) ≡ true) (sym k.hand)
    (split_if (λ (z : Stage). is_granted z ≡ true) (list_any (is_ack e k.proposal.place) ms && same_words r.words k.proposal.words) (Granted k.proposal.place) Answered (λ it. refl)
    (λ no_ack. absurd (true_false (sym (true_two (list_any (is_ack e k.proposal.place) ms) (same_words r.words k.proposal.words) k.acked
    (ap (λ z. same_words z k.proposal.words) (words_equal r.words words h) ∙ k.words_so)) ∙ no_ack)))))
  where
    true_false : true ≡ false → ⊥
    true_false z = cc
open_closed n q e words ms r (Granted v) is k at h = cc
open_closed n q e words ms r Answered is k at h = cc

answered_grants : (n q e : ℕ) (words : List ℕ) (ms : List Moment) (rs : List Request) → IsAcked e words ms → Has (is_open n q words) rs → Has (is_granted_to n q) (answered_in e ms n q rs)
answered_grants n q e words ms [] k h = cc
answered_grants n q e words ms (r ∷ rs) k h = by (is_open n q words r) refl h (answered_grants n q e words ms rs k)
  where
    f : Request → Request
    f z = if is_request_of n q z then closed e ms z z.stage else z

    or_left : (a b : Bool) → a ≡ true → (a || b) ≡ true
    or_left true b x = refl
    or_left false b x = cc

    or_right : (a b : Bool) → b ≡ true → (a || b) ≡ true
    or_right true b x = refl
    or_right false b x = x

    by : (b : Bool) → is_open n q words r ≡ b → (b || list_any (is_open n q words) rs) ≡ true → (Has (is_open n q words) rs → Has (is_granted_to n q) (answered_in e ms n q rs))
        → Has (is_granted_to n q) (answered_in e ms n q (r ∷ rs))
    by true is any rest =
        let two : _ = two_true (is_request_of n q r) (waits_with words r.stage r.words) is in
        or_left (is_granted_to n q (f r)) _
        (split_if (λ (z : Request). is_granted_to n q z ≡ true) (is_request_of n q r) (closed e ms r r.stage) r (λ it. open_closed n q e words ms r r.stage refl k two.0 two.1) (λ not_it. absurd (true_false (sym two.0 ∙ not_it))))
      where
        true_false : true ≡ false → ⊥
        true_false z = cc
    by false is any rest = or_right (is_granted_to n q (f r)) _ (rest any)

if_yes : {X : Type 0} (b : Bool) (x y : X) → b ≡ true → (if b then x else y) ≡ x
if_yes true x y h = refl
if_yes false x y h = cc

-- the president tells the answer to a command of its own
pub own_grants : (S : Setting) (n q e : ℕ) (words : List ℕ) (reply : Answer) (ms : List Moment) → n ≡ coordinator e → IsAcked e words ms → open_in S e n q words ms ≡ true → granted S e n q (answered n q reply ∷ ms) ≡ true
own_grants S n q e words reply ms own k h =
    subst (Has (is_granted_to n q)) (sym (if_yes (n == coordinator e) (answered_in e ms n q (requests_of S e ms)) (requests_of S e ms) (ap (λ z. z == coordinator e) own ∙ is_same (coordinator e))))
    (answered_grants n q e words ms (requests_of S e ms) k h)

-- .. or sends it to the member that asked
pub sent_grants : (S : Setting) (n q e p c : ℕ) (words : List ℕ) (called : MessageName) (bytes : List ℕ) (ms : List Moment) → c ≡ coordinator e → named called ≡ name.Answer q → IsAcked e words ms
    → open_in S e n q words ms ≡ true → granted S e n q (sent p c n called bytes ∷ ms) ≡ true
sent_grants S n q e p c words called bytes ms own at k h =
    subst (Has (is_granted_to n q)) (sym (if_yes (c == coordinator e) (answered_by e ms n (named called) (requests_of S e ms)) (requests_of S e ms) (ap (λ z. z == coordinator e) own ∙ is_same (coordinator e))))
    (subst (λ z. Has (is_granted_to n q) (answered_by e ms n z (requests_of S e ms))) (sym at) (answered_grants n q e words ms (requests_of S e ms) k h))
