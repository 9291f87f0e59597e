-- What the president has in hand, by the lines: what it proposed stays until it is acknowledged, and is answered then.
use Rattle.std.specs.Prelude.{ℕ, ◌≡◌, ◌≢◌, ◌==◌, ◌&&◌, ◌||◌, Bool, true, false, if◌then◌else◌, List, ◌∷◌, None, Some}
use Rattle.std.specs.List.{list_any}
use Rattle.std.proofs.Common.{refl, sym, subst, ◌∙◌, arith}
use Rattle.status_report.specs.declared.command_entry.CommandEntry.TheVariants as command
use Rattle.status_report.specs.declared.entry.Entry.TheVariants as entry
use Rattle.status_report.specs.declared.packet_entry.PacketEntry.TheVariants as packet
use Rattle.status_report.specs.declared.start_entry.StartEntry.TheVariants as start_entry
use Rattle.status_report.specs.declared.update_entry.UpdateEntry.TheVariants as update
use Rattle.history.specs.Moment.{Moment, Told}
use Rattle.history.specs.Names.{named}
use Rattle.history.specs.Requests.{Proposal, in_hand, is_ack, is_answer, left_by_answer}
use Rattle.history.specs.Setting.{coordinator}
use Rattle.history.specs.Trace.{ack, propose}
use Rattle.run_commands.proofs.acknowledged.Askings.{is_equal, is_same, split_if, true_two, two_true}
use Rattle.run_commands.proofs.acknowledged.Granting.{IsAcked}
use Rattle.run_commands.proofs.acknowledged.Requests.{words_same}

-- an update of e is proposed, and not acknowledged
pub record IsPending (e : ℕ) (p : Proposal) (ms : List Moment) : Type 0 where
  pub hand : in_hand e ms ≡ Some p
  pub unacked : list_any (is_ack e p.place) ms ≡ false

-- e does not start, and nothing is proposed in it
abbrev pub KeepsHand : ℕ → Moment → Type 0
KeepsHand e (Told (entry.Start (start_entry.Started f members held count))) = f ≢ e
KeepsHand e (Told (entry.Update (update.Proposed f v words))) = f ≢ e
KeepsHand e _ = Unit {0}

-- the update of this place is not acknowledged
abbrev pub NoAck : ℕ → ℕ → Moment → Type 0
NoAck e v (Told (entry.Update (update.Acknowledged f w words))) = ((f == e) && (w == v)) ≡ false
NoAck e v _ = Unit {0}

-- the president answers nothing
abbrev pub NoneAnswered : ℕ → Moment → Type 0
NoneAnswered e (Told (entry.Command (command.Answered n q reply))) = n ≢ coordinator e
NoneAnswered e (Told (entry.Packet (packet.Sent p c m called bytes))) = c ≡ coordinator e → is_answer (named called) ≡ false
NoneAnswered e _ = Unit {0}

is_other : (a b : ℕ) → a ≢ b → (a == b) ≡ false
is_other a b ne = grind arith

if_no : {X : Type 0} (b : Bool) (x y : X) → b ≡ false → (if b then x else y) ≡ y
if_no true x y h = cc
if_no false x y h = refl

no_or : (a b : Bool) → a ≡ false → b ≡ false → (a || b) ≡ false
no_or true b h k = cc
no_or false b h k = k

or_right : (a b : Bool) → b ≡ true → (a || b) ≡ true
or_right true b h = refl
or_right false b h = h

-- an answer leaves what is not acknowledged
left_pending : (e : ℕ) (p : Proposal) (ms : List Moment) → IsPending e p ms → left_by_answer e ms (in_hand e ms) ≡ Some p
left_pending e p ms h = subst (λ o. left_by_answer e ms o ≡ Some p) (sym h.hand) (if_no (list_any (is_ack e p.place) ms) None (Some p) h.unacked)

either_pending : (e : ℕ) (p : Proposal) (ms : List Moment) (b : Bool) → IsPending e p ms → (if b then left_by_answer e ms (in_hand e ms) else in_hand e ms) ≡ Some p
either_pending e p ms b h = split_if (λ o. o ≡ Some p) b (left_by_answer e ms (in_hand e ms)) (in_hand e ms) (λ is. left_pending e p ms h) (λ is. h.hand)

pub pending_stays : (e : ℕ) (p : Proposal) (x : Moment) (ms : List Moment) → KeepsHand e x → NoAck e p.place x → IsPending e p ms → IsPending e p (x ∷ ms)
pending_stays e p (Told (entry.Start (start_entry.Started f members held count))) ms keeps none h = record { hand = if_no (f == e) None (in_hand e ms) (is_other f e keeps) ∙ h.hand; unacked = h.unacked }
pending_stays e p (Told (entry.Update (update.Proposed f v words))) ms keeps none h =
    record { hand = if_no (f == e) (Some (record { place = v; words = words })) (in_hand e ms) (is_other f e keeps) ∙ h.hand; unacked = h.unacked }
pending_stays e p (Told (entry.Update (update.Acknowledged f w words))) ms keeps none h = record { hand = h.hand; unacked = no_or ((f == e) && (w == p.place)) (list_any (is_ack e p.place) ms) none h.unacked }
pending_stays e p (Told (entry.Command (command.Answered n q reply))) ms keeps none h = record { hand = either_pending e p ms (n == coordinator e) h; unacked = h.unacked }
pending_stays e p (Told (entry.Packet (packet.Sent k c m called bytes))) ms keeps none h = record { hand = either_pending e p ms ((c == coordinator e) && is_answer (named called)) h; unacked = h.unacked }
pending_stays e p _ ms keeps none h = record { hand = h.hand; unacked = h.unacked }

-- it is pending at its line, where its place has no `ack` line
pub proposed_pending : (e v : ℕ) (words : List ℕ) (ms : List Moment) → list_any (is_ack e v) ms ≡ false → IsPending e (record { place = v; words = words }) (propose e v words ∷ ms)
proposed_pending e v words ms none = record { hand = split_if (λ o. o ≡ Some (record { place = v; words = words })) (e == e) (Some (record { place = v; words = words })) (in_hand e ms) (λ is. refl) (λ other. absurd (no_other other)); unacked = none }
  where
    no_other : (e == e) ≡ false → ⊥
    no_other z = true_false (sym (is_same e) ∙ z)
      where
        true_false : true ≡ false → ⊥
        true_false y = cc

-- .. and acknowledged at its `ack` line
pub acked_is : (e : ℕ) (p : Proposal) (words : List ℕ) (ms : List Moment) → IsPending e p ms → IsAcked e p.words (ack e p.place words ∷ ms)
acked_is e p words ms h = record {
  proposal = p;
  hand = h.hand;
  acked = or_left ((e == e) && (p.place == p.place)) (list_any (is_ack e p.place) ms) (true_two (e == e) (p.place == p.place) (is_same e) (is_same p.place));
  words_so = words_same p.words;
}
  where
    or_left : (a b : Bool) → a ≡ true → (a || b) ≡ true
    or_left true b x = refl
    or_left false b x = cc

pub acked_stays : (e : ℕ) (words : List ℕ) (x : Moment) (ms : List Moment) → KeepsHand e x → NoneAnswered e x → IsAcked e words ms → IsAcked e words (x ∷ ms)
acked_stays e words (Told (entry.Start (start_entry.Started f members held count))) ms keeps none h =
    record { proposal = h.proposal; hand = if_no (f == e) None (in_hand e ms) (is_other f e keeps) ∙ h.hand; acked = h.acked; words_so = h.words_so }
acked_stays e words (Told (entry.Update (update.Proposed f v found))) ms keeps none h =
    record { proposal = h.proposal; hand = if_no (f == e) (Some (record { place = v; words = found })) (in_hand e ms) (is_other f e keeps) ∙ h.hand; acked = h.acked; words_so = h.words_so }
acked_stays e words (Told (entry.Update (update.Acknowledged f w found))) ms keeps none h =
    record { proposal = h.proposal; hand = h.hand; acked = or_right ((f == e) && (w == h.proposal.place)) (list_any (is_ack e h.proposal.place) ms) h.acked; words_so = h.words_so }
acked_stays e words (Told (entry.Command (command.Answered n q reply))) ms keeps none h =
    record { proposal = h.proposal; hand = if_no (n == coordinator e) (left_by_answer e ms (in_hand e ms)) (in_hand e ms) (is_other n (coordinator e) none) ∙ h.hand; acked = h.acked; words_so = h.words_so }
acked_stays e words (Told (entry.Packet (packet.Sent k c m called bytes))) ms keeps none h = record {
  proposal = h.proposal;
  hand = split_if (λ o. o ≡ Some h.proposal) ((c == coordinator e) && is_answer (named called)) (left_by_answer e ms (in_hand e ms)) (in_hand e ms)
      (λ is. let two : _ = two_true (c == coordinator e) (is_answer (named called)) is in absurd (true_false (sym two.1 ∙ none (is_equal c (coordinator e) two.0)))) (λ is. h.hand);
  acked = h.acked;
  words_so = h.words_so;
}
  where
    true_false : true ≡ false → ⊥
    true_false y = cc
acked_stays e words _ ms keeps none h = record { proposal = h.proposal; hand = h.hand; acked = h.acked; words_so = h.words_so }
