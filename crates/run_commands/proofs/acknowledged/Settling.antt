-- What is settled stays so: a member that repeats the Answer of its president has a request that is granted, or is no update's.
use Rattle.std.specs.Prelude.{ℕ, ◌≡◌, ◌≢◌, ◌==◌, Bool, true, false, if◌then◌else◌, List, [], ◌∷◌, Some}
use Rattle.std.proofs.Common.{sym, ap, subst, ◌∙◌, inl, inr}
use Rattle.answer_words.specs.Answers.{answer_in}
use Rattle.cmm_attempt.proofs.Basics.{none_some, same_some}
use Rattle.status_report.specs.declared.command_entry.Answer.TheVariants as answer
use Rattle.status_report.specs.declared.entry.Entry.TheVariants as entry
use Rattle.status_report.specs.declared.packet_entry.PacketEntry.TheVariants as packet
use Rattle.cl_base.specs.declared.packet.MessageName.{MessageName}
use Rattle.wire.specs.declared.message.Body.TheVariants as body
use Rattle.history.specs.Letters.{Letter, arrived, letter_of, says}
use Rattle.history.specs.Moment.{Moment, Part, Said, Told}
use Rattle.history.specs.Names.{named}
use Rattle.history.specs.Setting.{Setting}
use Rattle.history.specs.Trace.{sent}
use Rattle.node_model.specs.declared.cluster.Cluster.{Cluster}
use Rattle.run_commands.proofs.acknowledged.Granting.{granted_stays}
use Rattle.run_commands.proofs.acknowledged.Settled.{AnswersAreSettled, IsSettled, IsSettledAt}
use Rattle.run_commands.proofs.acknowledged.Requesting.{requested_stays}

pub settled_stays : (S : Setting) (c : Cluster) (e n q : ℕ) (x : Moment) (ms : List Moment) → IsSettled S c e n q ms → IsSettled S c e n q (x ∷ ms)
settled_stays S c e n q x ms (inl g) = inl (granted_stays S n q e x ms g)
settled_stays S c e n q x ms (inr k) = inr (k.0, requested_stays n q e k.0 x ms k.1, k.2)

-- what is told of a letter: it is an Answer of e with `ok`, to n from another node
pub record SaysOk (n q e : ℕ) (l : Letter) : Type 0 where
  pub to : l.to ≡ n
  pub other : l.from ≢ n
  pub text : List ℕ
  pub says_so : says l.bytes ≡ Some (body.Answer e q text)
  pub ok : answer_in text ≡ Some answer.Ok

sent_settled : (S : Setting) (c : Cluster) (e n q k a b : ℕ) (called : MessageName) (bytes : List ℕ) (l : Letter) (ms : List Moment) → IsSettledAt S c ms (sent k a b called bytes)
    → record { from = a; to = b; name = named called; bytes = bytes; before = ms } ≡ l → SaysOk n q e l → IsSettled S c e n q (sent k a b called bytes ∷ ms)
sent_settled S c e n q k a b called bytes l ms at same h =
    let to : b ≡ n = ap (λ (z : Letter). z.to) same ∙ h.to in
    let from : a ≡ l.from = ap (λ (z : Letter). z.from) same in
    subst (λ z. IsSettled S c e z q (sent k a b called bytes ∷ ms)) to
    (at e q h.text (λ is. h.other (sym from ∙ (sym is ∙ to))) (ap (λ (z : Letter). says z.bytes) same ∙ h.says_so) h.ok)

letter_settled : (S : Setting) (c : Cluster) (e n q p : ℕ) (l : Letter) (ms : List Moment) → AnswersAreSettled S c ms → letter_of p ms ≡ Some l → SaysOk n q e l → IsSettled S c e n q ms
letter_settled S c e n q p l [] all at h = absurd (none_some l at)
letter_settled S c e n q p l (Told (entry.Packet (packet.Sent k a b called bytes)) ∷ ms) all at h =
    by_test (λ is. settled_stays S c e n q (sent k a b called bytes) ms (letter_settled S c e n q p l ms all.1 is h)) (k == p) at
  where
    by_test : (letter_of p ms ≡ Some l → IsSettled S c e n q (sent k a b called bytes ∷ ms)) → (t : Bool) → (if t then Some (record { from = a; to = b; name = named called; bytes = bytes; before = ms }) else letter_of p ms) ≡ Some l → IsSettled S c e n q (sent k a b called bytes ∷ ms)
    by_test rest true is = sent_settled S c e n q k a b called bytes l ms all.0 (same_some (record { from = a; to = b; name = named called; bytes = bytes; before = ms }) l is) h
    by_test rest false is = rest is
letter_settled S c e n q p l (Told (entry.Packet (packet.Repeated k copy)) ∷ ms) all at h =
    settled_stays S c e n q (Told (entry.Packet (packet.Repeated k copy))) ms (letter_settled S c e n q (if copy == p then k else p) l ms all.1 at h)
letter_settled S c e n q p l (x ∷ ms) all at h = settled_stays S c e n q x ms (letter_settled S c e n q p l ms all.1 at h)

pub arrived_settled : (S : Setting) (c : Cluster) (e n q : ℕ) (l : Letter) (ms : List Moment) → AnswersAreSettled S c ms → arrived ms ≡ Some l → SaysOk n q e l → IsSettled S c e n q ms
arrived_settled S c e n q l [] all at h = absurd (none_some l at)
arrived_settled S c e n q l (Said line ∷ ms) all at h = absurd (none_some l at)
arrived_settled S c e n q l (Part event ∷ ms) all at h = absurd (none_some l at)
arrived_settled S c e n q l (Told (entry.Packet (packet.Delivered p a b)) ∷ ms) all at h =
    settled_stays S c e n q (Told (entry.Packet (packet.Delivered p a b))) ms (letter_settled S c e n q p l ms all.1 at h)
arrived_settled S c e n q l (x ∷ ms) all at h = settled_stays S c e n q x ms (arrived_settled S c e n q l ms all.1 at h)
