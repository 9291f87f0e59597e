-- Each packet that is in flight can be read.
use Rattle.std.specs.Prelude.{ℕ, ◌≡◌, ◌==◌, Bool, true, false, if◌then◌else◌, List, [], ◌∷◌, Option, None, Some, option_map}
use Rattle.std.proofs.Common.{refl, sym, ap, ◌∙◌}
use Rattle.cmm_attempt.proofs.Basics.{none_some, same_some}
use Rattle.history.specs.Contents.{Spelled}
use Rattle.history.specs.Letters.{Letter, letter_of}
use Rattle.history.specs.Moment.{Moment, Part, Said, Told}
use Rattle.history.specs.Names.{named}
use Rattle.interconnect.specs.Links.{Packet, packet_of}
use Rattle.node_model.specs.declared.cluster.Cluster.{Cluster}
use Rattle.run_history.specs.Scenes.{Scene}
use Rattle.run_messages.proofs.records.Bytes.{found_bytes}
use Rattle.run_messages.specs.records.Kept.{KnownScene}
use Rattle.status_report.specs.declared.entry.Entry.TheVariants as entry
use Rattle.status_report.specs.declared.packet_entry.PacketEntry.{PacketEntry}
use Rattle.status_report.specs.declared.packet_entry.PacketEntry.TheVariants as packet
use Rattle.wire.proofs.Messages.{whole_again}
use Rattle.wire.specs.Reads.{whole_of}

-- what can not be read is not sent
readable_packet : (p : ℕ) (before : List Moment) (e : PacketEntry) (l : Letter) → Spelled (Told (entry.Packet e) ∷ before) → letter_of p (Told (entry.Packet e) ∷ before) ≡ Some l
    → ((q : ℕ) → letter_of q before ≡ Some l → whole_of l.bytes ≡ None → ⊥) → whole_of l.bytes ≡ None → ⊥
readable_packet p before (packet.Sent q a b called bytes) l h is next none = by_number (q == p) is
  where
    by_number : (t : Bool) → (if t then Some (record { from = a; to = b; name = named called; bytes = bytes; before = before }) else letter_of p before) ≡ Some l → ⊥
    by_number true e =
        let same : bytes ≡ l.bytes = ap (λ (z : Letter). z.bytes) (same_some _ l e) in
        none_some h.0.message (sym none ∙ (ap whole_of (sym same) ∙ (ap whole_of (sym h.0.spelled) ∙ whole_again h.0.message h.0.fits)))
    by_number false e = next p e none
readable_packet p before (packet.Repeated q copy) l h is next none = next (if copy == p then q else p) is none
readable_packet p before (packet.Delivered q a b) l h is next none = next p is none
readable_packet p before (packet.Lost q) l h is next none = next p is none
readable_packet p before (packet.Dropped q why) l h is next none = next p is none

readable : (p : ℕ) (ms : List Moment) (l : Letter) → Spelled ms → letter_of p ms ≡ Some l → whole_of l.bytes ≡ None → ⊥
readable p [] l h is none = none_some l is
readable p (Told (entry.Packet e) ∷ before) l h is none = readable_packet p before e l h is (λ q at. readable q before l h.1 at) none
readable p (Said line ∷ before) l h is none = readable p before l h.1 is none
readable p (Part event ∷ before) l h is none = readable p before l h.1 is none
readable p (Told (entry.Node n e) ∷ before) l h is none = readable p before l h.1 is none
readable p (Told (entry.Attempt e) ∷ before) l h is none = readable p before l h.1 is none
readable p (Told (entry.Start e) ∷ before) l h is none = readable p before l h.1 is none
readable p (Told (entry.Update e) ∷ before) l h is none = readable p before l h.1 is none
readable p (Told entry.Powered ∷ before) l h is none = readable p before l h.1 is none
readable p (Told (entry.Answered e) ∷ before) l h is none = readable p before l h.1 is none
readable p (Told (entry.Device e) ∷ before) l h is none = readable p before l h.1 is none
readable p (Told (entry.Call e) ∷ before) l h is none = readable p before l h.1 is none
readable p (Told (entry.Command e) ∷ before) l h is none = readable p before l h.1 is none
readable p (Told (entry.Status e) ∷ before) l h is none = readable p before l h.1 is none
readable p (Told (entry.Address e) ∷ before) l h is none = readable p before l h.1 is none
readable p (Told (entry.Schedule e) ∷ before) l h is none = readable p before l h.1 is none

pub no_stray : (c : Cluster) (s : Scene) (number : ℕ) (x : Packet) → packet_of s.links.packets number ≡ Some x → whole_of x.bytes ≡ None → KnownScene c s → Spelled s.moments → ⊥
no_stray c s number x is none a spelled = by_letter (letter_of number s.moments) refl (found_bytes s.moments s.links number x a.bytes is)
  where
    by_letter : (o : Option Letter) → letter_of number s.moments ≡ o → option_map (λ (l : Letter). l.bytes) o ≡ Some x.bytes → ⊥
    by_letter None at e = none_some x.bytes e
    by_letter (Some l) at e = readable number s.moments l spelled at (ap whole_of (same_some l.bytes x.bytes e) ∙ none)
