-- The last Promise of a node, as the lines tell it, is of its session.
use Rattle.std.specs.Prelude.{ℕ, ◌%◌, ◌==◌, ◌≡◌, ◌≢◌, ◌<◌, ◌≤◌, ◌⊎◌, nat_le, Bool, true, false, List, [], ◌∷◌, None, Option, Some, length, option_map, if◌then◌else◌}
use Rattle.std.specs.List.{AllByRecursion}
use Rattle.std.proofs.Common.{refl, ap, ◌∙◌, inl, inr, arith}
use Rattle.attempt_laws.proofs.Walk.{if_with}
use Rattle.cl_base.specs.declared.packet.DropCause.{DropCause}
use Rattle.cmm_attempt.proofs.Basics.{and_cases}
use Rattle.history.specs.Letters.{says}
use Rattle.history.specs.Moment.{Moment, Told}
use Rattle.history.specs.Names.{named}
use Rattle.history.specs.Queue.{or_shown, shown_valid, valid_in, valid_sent}
use Rattle.interconnect.specs.Links as links
use Rattle.interconnect.specs.Links.{sending}
use Rattle.node_model.specs.Seats.{session_of}
use Rattle.node_model.specs.declared.node.Node.{Node}
use Rattle.node_model.specs.declared.node.Node.TheVariants.{Down, Up}
use Rattle.node_model.specs.declared.node.UpNode.{UpNode}
use Rattle.node_model.specs.declared.output.Output.{Output}
use Rattle.node_model.specs.declared.output.Output.TheVariants.{Sends, Tells}
use Rattle.refinement.specs.Runs.{Letter}
use Rattle.refinement.specs.Worlds.{SpelledIfShort}
use Rattle.run_downs.proofs.Packets.{IsNoPacket}
use Rattle.run_history.proofs.Links.{NotPacket}
use Rattle.run_history.specs.Scenes.{Scene, dropped_so, passing, posting, sent_as, telling, with_links}
use Rattle.status_report.specs.declared.entry.Entry.{Entry}
use Rattle.status_report.specs.declared.entry.Entry.TheVariants as entry
use Rattle.status_report.specs.declared.packet_entry.PacketEntry.TheVariants as packet
use Rattle.wire.proofs.Messages.{whole_again}
use Rattle.wire.specs.Spelling.{Fits, spelling}
use Rattle.wire.specs.declared.message.Body.{Body}
use Rattle.wire.specs.declared.message.Body.TheVariants as body
use Rattle.wire.specs.declared.message.Message.{Message}
use Rattle.world_model.specs.Sends.{is_sent, name_of}
use Rattle.run_outcomes.specs.tasks.Shown.{HasShown}
use Rattle.run_outcomes.proofs.shown.Letters.{AllAside, IsAside, IsMore, shown_more}

-- ---- what it is

pub record LastSo (L : List Letter) (n e : ℕ) (ms : List Moment) : Type 0 where
  pub valid : ℕ
  pub shown : HasShown L n e valid
  pub last : shown_valid n ms ≡ valid

-- in a session of another's
abbrev pub UpLast : List Letter → ℕ → List Moment → UpNode → Type 0
UpLast L n ms x = 0 < session_of x → session_of x % 64 ≢ n → LastSo L n (session_of x) ms

abbrev pub NodeLast : List Letter → ℕ → List Moment → Node → Type 0
NodeLast L n ms Down = Unit {0}
NodeLast L n ms (Up x) = UpLast L n ms x

pub last_still : (L M : List Letter) (n e : ℕ) (ms after : List Moment) → IsMore L M → shown_valid n after ≡ shown_valid n ms → LastSo L n e ms → LastSo M n e after
last_still L M n e ms after f same h = record { valid = h.valid; shown = shown_more L M n e h.valid f h.shown; last = same ∙ h.last }

pub node_still : (L M : List Letter) (n : ℕ) (ms after : List Moment) (node : Node) → IsMore L M → shown_valid n after ≡ shown_valid n ms → NodeLast L n ms node → NodeLast M n after node
node_still L M n ms after Down f same h = tt
node_still L M n ms after (Up x) f same h = λ some other. last_still L M n (session_of x) ms after f same (h some other)

-- ---- lines

told_same : (k : ℕ) (e : Entry) (ms : List Moment) → NotPacket e → shown_valid k (Told e ∷ ms) ≡ shown_valid k ms
told_same k (entry.Packet e) ms other = absurd other
told_same k _ ms other = refl

dropped_same : (k : ℕ) (o : Option (ℕ × DropCause)) (s : Scene) → shown_valid k (dropped_so o s).moments ≡ shown_valid k s.moments
dropped_same k None s = refl
dropped_same k (Some d) s = refl

not_same : (a b : ℕ) → a ≢ b → (a == b) ≡ false
not_same a b h = by_value (a == b) refl
  where
    same : (a == b) ≡ true → a ≡ b
    same e = grind arith

    by_value : (t : Bool) → (a == b) ≡ t → t ≡ false
    by_value true e = absurd (h (same e))
    by_value false e = refl

same_is : (a : ℕ) → (a == a) ≡ true
same_is a = grind arith

-- of another node
posting_other : (k n to : ℕ) (m : Message) (s : Scene) → n ≢ k → shown_valid k (posting n to m s).moments ≡ shown_valid k s.moments
posting_other k n to m s ne =
    let o : links.Outcome = sending s.links n to (spelling m) in
    let t : Scene = telling (entry.Packet (packet.Sent s.links.next n to (name_of m.body) (spelling m))) (with_links s o.after) in
    let line : shown_valid k t.moments ≡ shown_valid k s.moments =
    ap (λ (b : Bool). if b then or_shown (valid_sent (named (name_of m.body)) (spelling m)) (shown_valid k s.moments) else shown_valid k s.moments) (not_same n k ne) in
    if_with (λ (z : Scene). shown_valid k z.moments ≡ shown_valid k s.moments) (is_sent s.links m) (is_sent s.links m) (sent_as n to m o s) s refl
    (λ e. dropped_same k o.sent.dropped t ∙ line) (λ e. refl)

pub passing_other : (k n : ℕ) (os : List Output) (s : Scene) → n ≢ k → AllByRecursion IsNoPacket os → shown_valid k (passing n os s).moments ≡ shown_valid k s.moments
passing_other k n [] s ne none = refl
passing_other k n (Tells e ∷ os) s ne none = passing_other k n os (telling e s) ne none.1 ∙ told_same k e s.moments none.0
passing_other k n (Sends to b ∷ os) s ne none =
    passing_other k n os (posting n to (record { sender = n; body = b }) s) ne none.1 ∙ posting_other k n to (record { sender = n; body = b }) s ne

-- no Promise
abbrev pub NoPromise : Body → Type 0
NoPromise (body.Promise e newest members valid flagged committed pending) = ⊥
NoPromise _ = Unit {0}

abbrev pub OutMute : Output → Type 0
OutMute (Tells e) = Unit {0}
OutMute (Sends to b) = NoPromise b

mute_valid : (b : Body) (bytes : List ℕ) → NoPromise b → valid_sent (named (name_of b)) bytes ≡ None
mute_valid (body.Promise e newest members valid flagged committed pending) bytes k = absurd k
mute_valid _ bytes k = refl

either_same : (b : Bool) (x : ℕ) → (if b then x else x) ≡ x
either_same true x = refl
either_same false x = refl

posting_mute : (k n to : ℕ) (b : Body) (s : Scene) → NoPromise b → shown_valid k (posting n to (record { sender = n; body = b }) s).moments ≡ shown_valid k s.moments
posting_mute k n to b s mute =
    let m : Message = record { sender = n; body = b } in
    let o : links.Outcome = sending s.links n to (spelling m) in
    let t : Scene = telling (entry.Packet (packet.Sent s.links.next n to (name_of b) (spelling m))) (with_links s o.after) in
    let line : shown_valid k t.moments ≡ shown_valid k s.moments =
    ap (λ (v : Option ℕ). if n == k then or_shown v (shown_valid k s.moments) else shown_valid k s.moments) (mute_valid b (spelling m) mute) ∙ either_same (n == k) (shown_valid k s.moments) in
    if_with (λ (z : Scene). shown_valid k z.moments ≡ shown_valid k s.moments) (is_sent s.links m) (is_sent s.links m) (sent_as n to m o s) s refl
    (λ e. dropped_same k o.sent.dropped t ∙ line) (λ e. refl)

pub passing_mute : (k n : ℕ) (os : List Output) (s : Scene) → AllByRecursion OutMute os → AllByRecursion IsNoPacket os → shown_valid k (passing n os s).moments ≡ shown_valid k s.moments
passing_mute k n [] s mute none = refl
passing_mute k n (Tells e ∷ os) s mute none = passing_mute k n os (telling e s) mute.1 none.1 ∙ told_same k e s.moments none.0
passing_mute k n (Sends to b ∷ os) s mute none =
    passing_mute k n os (posting n to (record { sender = n; body = b }) s) mute.1 none.1 ∙ posting_mute k n to b s mute.0

body_mute : (b : Body) → IsAside b → NoPromise b
body_mute (body.Promise e newest members valid flagged committed pending) k = absurd k
body_mute _ k = tt

pub aside_mute : (os : List Output) → AllAside os → AllByRecursion OutMute os
aside_mute [] k = tt
aside_mute (Tells e ∷ os) k = (tt, aside_mute os k.1)
aside_mute (Sends to b ∷ os) k = (body_mute b k.0, aside_mute os k.1)

-- ---- a Promise

size : (k : ℕ) → nat_le k 131072 ≡ true → k ≤ 131072
size k e = grind arith

-- it is sent, and the last one, or the lines stay
pub promise_posted : (n to : ℕ) (b : Body) (s : Scene) → SpelledIfShort (record { sender = n; body = b }) → valid_sent (named (name_of b)) (spelling (record { sender = n; body = b })) ≡ Some (valid_in (says (spelling (record { sender = n; body = b }))))
    → (shown_valid n (posting n to (record { sender = n; body = b }) s).moments ≡ valid_in (Some b)) ⊎ (posting n to (record { sender = n; body = b }) s ≡ s) × (is_sent s.links (record { sender = n; body = b }) ≡ false)
promise_posted n to b s fits promise =
    if_with (λ (z : Scene). (shown_valid n z.moments ≡ valid_in (Some b)) ⊎ (z ≡ s) × (is_sent s.links m ≡ false)) (is_sent s.links m) (is_sent s.links m) (sent_as n to m o s) s refl
    (λ e. inl (posted (fits (size (length (spelling m)) (and_cases _ _ e).0)))) (λ e. inr (refl, e))
  where
    m : Message
    m = record { sender = n; body = b }

    o : links.Outcome
    o = sending s.links n to (spelling m)

    t : Scene
    t = telling (entry.Packet (packet.Sent s.links.next n to (name_of b) (spelling m))) (with_links s o.after)

    posted : Fits m → shown_valid n (sent_as n to m o s).moments ≡ valid_in (Some b)
    posted spelled =
        dropped_same n o.sent.dropped t
        ∙ (ap (λ (q : Bool). if q then or_shown (valid_sent (named (name_of b)) (spelling m)) (shown_valid n s.moments) else shown_valid n s.moments) (same_is n)
        ∙ (ap (λ (v : Option ℕ). or_shown v (shown_valid n s.moments)) promise ∙ ap (λ (w : Option Message). valid_in (option_map (λ (z : Message). z.body) w)) (whole_again m spelled)))
