-- What stays with each line of a node stays with all that it gives.
use Rattle.std.specs.Prelude.{ℕ, ◌≡◌, nat_le, true, false, List, [], ◌∷◌, length, Option, None, Some}
use Rattle.std.specs.List.{AllByRecursion}
use Rattle.std.proofs.Common.{refl}
use Rattle.cl_base.specs.declared.packet.DropCause.{DropCause}
use Rattle.attempt_laws.proofs.Walk.{if_with}
use Rattle.cmm_attempt.proofs.Basics.{and_cases}
use Rattle.interconnect.specs.Links as links
use Rattle.interconnect.specs.Links.{sending}
use Rattle.status_report.specs.declared.entry.Entry.{Entry}
use Rattle.status_report.specs.declared.entry.Entry.TheVariants as entry
use Rattle.status_report.specs.declared.packet_entry.PacketEntry.TheVariants as packet
use Rattle.wire.specs.Spelling.{spelling}
use Rattle.wire.specs.declared.message.Body.{Body}
use Rattle.wire.specs.declared.message.Message.{Message}
use Rattle.history.specs.Moment.{Moment, Told}
use Rattle.node_model.specs.declared.output.Output.{Output}
use Rattle.node_model.specs.declared.output.Output.TheVariants.{Sends, Tells}
use Rattle.world_model.specs.Sends.{is_sent, name_of}
use Rattle.run_history.specs.Scenes.{Scene, dropped_so, passing, posting, sent_as, telling, with_links}

-- the line of a message that n sends
abbrev pub sent_line : ℕ → ℕ → ℕ → Body → Moment
sent_line p n to b = Told (entry.Packet (packet.Sent p n to (name_of b) (spelling (record { sender = n; body = b }))))

abbrev pub dropped_line : ℕ → DropCause → Moment
dropped_line p why = Told (entry.Packet (packet.Dropped p why))

-- it has a packet's size
abbrev pub IsShort : ℕ → Body → Type 0
IsShort n b = nat_le (length (spelling (record { sender = n; body = b }))) 131072 ≡ true

-- what is so of moments, and stays with each line of node n that E allows
pub record StaysWith (E : Output → Type 0) (n : ℕ) (T : List Moment → Type 0) : Type 0 where
  pub tells : (e : Entry) (ms : List Moment) → E (Tells e) → T ms → T (Told e ∷ ms)
  pub sends : (p to : ℕ) (b : Body) (ms : List Moment) → E (Sends to b) → IsShort n b → T ms → T (sent_line p n to b ∷ ms)
  pub drops : (p : ℕ) (why : DropCause) (ms : List Moment) → T ms → T (dropped_line p why ∷ ms)

pub dropped_stays : (T : List Moment → Type 0) → ((p : ℕ) (why : DropCause) (ms : List Moment) → T ms → T (dropped_line p why ∷ ms)) → (o : Option (ℕ × DropCause)) (s : Scene) → T s.moments → T (dropped_so o s).moments
dropped_stays T drops None s h = h
dropped_stays T drops (Some drop) s h = drops drop.0 drop.1 s.moments h

-- one message: its line stands, or it can't be sent
pub posting_stays : (n to : ℕ) (b : Body) (T : List Moment → Type 0) (s : Scene) → ((p : ℕ) (why : DropCause) (ms : List Moment) → T ms → T (dropped_line p why ∷ ms))
    → ((p : ℕ) → is_sent s.links (record { sender = n; body = b }) ≡ true → T (sent_line p n to b ∷ s.moments)) → (is_sent s.links (record { sender = n; body = b }) ≡ false → T s.moments)
    → T (posting n to (record { sender = n; body = b }) s).moments
posting_stays n to b T s drops sends none =
    let m : Message = record { sender = n; body = b } in
    let o : links.Outcome = sending s.links n to (spelling m) in
    if_with (λ (t : Scene). T t.moments) (is_sent s.links m) (is_sent s.links m) (sent_as n to m o s) s refl
    (λ is. dropped_stays T drops o.sent.dropped (telling (entry.Packet (packet.Sent s.links.next n to (name_of m.body) (spelling m))) (with_links s o.after)) (sends s.links.next is)) none

pub passing_stays : (E : Output → Type 0) (n : ℕ) (T : List Moment → Type 0) (os : List Output) (s : Scene) → StaysWith E n T → AllByRecursion E os → T s.moments → T (passing n os s).moments
passing_stays E n T [] s k all h = h
passing_stays E n T (Tells e ∷ os) s k all h = passing_stays E n T os (telling e s) k all.1 (k.tells e s.moments all.0 h)
passing_stays E n T (Sends to b ∷ os) s k all h =
    passing_stays E n T os (posting n to (record { sender = n; body = b }) s) k all.1 (posting_stays n to b T s k.drops (λ p is. k.sends p to b s.moments all.0 (and_cases _ _ is).0 h) (λ never. h))
