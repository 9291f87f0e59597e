-- What the lines and messages of a node leave of what is proposed, and of the ticks since a Prepare was sent.
use Rattle.std.specs.Prelude.{ℕ, ◌≡◌, ◌⊎◌, ◌++◌, ◌==◌, ◌&&◌, ◌^◌, nat_le, nat_lt, length, Bool, true, false, List, [], ◌∷◌, Option, None, Some}
use Rattle.std.specs.List.{AllByRecursion, list_any}
use Rattle.std.proofs.Common.{refl, sym, subst, ◌∙◌, inl, inr}
use Rattle.attempt_laws.proofs.Walk.{if_with}
use Rattle.cl_base.specs.declared.packet.DropCause.{DropCause}
use Rattle.cmm_attempt.proofs.Basics.{false_true, if_either}
use Rattle.history.specs.Contact.{is_proposal}
use Rattle.history.specs.Order.{before_last}
use Rattle.history.specs.Messages.{pending_place, ticks_since}
use Rattle.history.specs.Moment.{Moment, Told}
use Rattle.history.specs.Names as name
use Rattle.history.specs.Names.{Name, named, same_name}
use Rattle.interconnect.specs.Links as net
use Rattle.interconnect.specs.Links.{sending}
use Rattle.node_model.specs.declared.output.Output.{Output}
use Rattle.node_model.specs.declared.output.Output.TheVariants.{Sends, Tells}
use Rattle.run_history.proofs.Idle.{if_false, if_true}
use Rattle.run_history.specs.Scenes.{Scene, dropped_so, passing, posting, sent_as, telling, with_links}
use Rattle.run_packets.proofs.prepares.Lines.{same_number as is_itself}
use Rattle.run_packets.proofs.prepares.Numbers.{left_before, passing_next}
use Rattle.run_packets.specs.prepares.Events.{IsLeft}
use Rattle.run_packets.specs.prepares.Proposals.{IsBehind, IsShort, SendsOrFalls}
use Rattle.status_report.specs.declared.entry.Entry.{Entry}
use Rattle.status_report.specs.declared.entry.Entry.TheVariants as entry
use Rattle.status_report.specs.declared.node_entry.NodeEntry.TheVariants as note
use Rattle.status_report.specs.declared.packet_entry.PacketEntry.TheVariants as packet
use Rattle.wire.specs.Spelling.{spelling}
use Rattle.wire.specs.declared.message.Body.{Body}
use Rattle.wire.specs.declared.message.Body.TheVariants as body
use Rattle.wire.specs.declared.message.Message.{Message}
use Rattle.world_model.specs.Sends.{is_sent, name_of}
use Rattle.run_packets.specs.repeats.Ages.{NoPrepare}

-- ---- outputs

-- a line that is no tick and no end of a node, of no packet and no update
abbrev pub PlainLine : Entry → Type 0
PlainLine (entry.Node m note.Ticked) = ⊥
PlainLine (entry.Node m (note.Down why)) = ⊥
PlainLine (entry.Packet e) = ⊥
PlainLine (entry.Update e) = ⊥
PlainLine _ = Unit {0}

abbrev pub PlainOut : Output → Type 0
PlainOut (Tells e) = PlainLine e
PlainOut (Sends to b) = Unit {0}

abbrev pub ArePlain : List Output → Type 0
ArePlain os = AllByRecursion PlainOut os

-- .. and no Prepare
abbrev pub QuietOut : Output → Type 0
QuietOut (Tells e) = PlainLine e
QuietOut (Sends to b) = NoPrepare b

abbrev pub AreQuiet : List Output → Type 0
AreQuiet os = AllByRecursion QuietOut os

pub quiet_plain : (os : List Output) → AreQuiet os → ArePlain os
quiet_plain [] h = tt
quiet_plain (Tells e ∷ os) h = (h.0, quiet_plain os h.1)
quiet_plain (Sends to b ∷ os) h = (tt, quiet_plain os h.1)

-- how many ticks ago n sent m the Prepare for place v
abbrev pub since_prepare : ℕ → ℕ → ℕ → List Moment → Option ℕ
since_prepare n m v ms = ticks_since n m (name.Prepare v) ms

-- ---- one line

line_ticks : (n m v : ℕ) (e : Entry) (ms : List Moment) → PlainLine e → since_prepare n m v (Told e ∷ ms) ≡ since_prepare n m v ms
line_ticks n m v (entry.Node k note.Ticked) ms plain = absurd plain
line_ticks n m v (entry.Packet e) ms plain = absurd plain
line_ticks n m v _ ms plain = refl

line_place : (f : ℕ) (e : Entry) (ms : List Moment) → PlainLine e → pending_place f (Told e ∷ ms) ≡ pending_place f ms
line_place f (entry.Update e) ms plain = absurd plain
line_place f _ ms plain = refl

line_proposals : (f w : ℕ) (e : Entry) (ms : List Moment) → PlainLine e → list_any (is_proposal f w) (Told e ∷ ms) ≡ list_any (is_proposal f w) ms
line_proposals f w (entry.Update e) ms plain = absurd plain
line_proposals f w _ ms plain = refl

line_last : (f w : ℕ) (e : Entry) (ms : List Moment) → PlainLine e → before_last (is_proposal f w) (Told e ∷ ms) ≡ before_last (is_proposal f w) ms
line_last f w (entry.Update e) ms plain = absurd plain
line_last f w _ ms plain = refl

-- ---- one message

last_false : (a b d : Bool) → d ≡ false → (a && b && d) ≡ false
last_false true true d h = h
last_false true false d h = refl
last_false false b d h = refl

other_name : (b : Body) (v : ℕ) → NoPrepare b → same_name (named (name_of b)) (name.Prepare v) ≡ false
other_name (body.Prepare e w text) v h = absurd h
other_name _ v h = refl

pub dropped_ticks : (n m v : ℕ) (o : Option (ℕ × DropCause)) (s : Scene) → since_prepare n m v (dropped_so o s).moments ≡ since_prepare n m v s.moments
dropped_ticks n m v None s = refl
dropped_ticks n m v (Some x) s = refl

dropped_place : (f : ℕ) (o : Option (ℕ × DropCause)) (s : Scene) → pending_place f (dropped_so o s).moments ≡ pending_place f s.moments
dropped_place f None s = refl
dropped_place f (Some x) s = refl

dropped_proposals : (f w : ℕ) (o : Option (ℕ × DropCause)) (s : Scene) → list_any (is_proposal f w) (dropped_so o s).moments ≡ list_any (is_proposal f w) s.moments
dropped_proposals f w None s = refl
dropped_proposals f w (Some x) s = refl

dropped_last : (f w : ℕ) (o : Option (ℕ × DropCause)) (s : Scene) → before_last (is_proposal f w) (dropped_so o s).moments ≡ before_last (is_proposal f w) s.moments
dropped_last f w None s = refl
dropped_last f w (Some x) s = refl

-- the scene with its line, where it is sent
abbrev pub sent_line : ℕ → ℕ → Body → Scene → Scene
sent_line from to b s =
    let m : Message = record { sender = from; body = b } in
    telling (entry.Packet (packet.Sent s.links.next from to (name_of b) (spelling m))) (with_links s (sending s.links from to (spelling m)).after)

pub by_sent : (P : Scene → Type 0) (from to : ℕ) (b : Body) (s : Scene) → ((o : Option (ℕ × DropCause)) → P (dropped_so o (sent_line from to b s))) → P s → P (posting from to (record { sender = from; body = b }) s)
by_sent P from to b s h k =
    let m : Message = record { sender = from; body = b } in
    let o : net.Outcome = sending s.links from to (spelling m) in
    if_either P (is_sent s.links m) (sent_as from to m o s) s (h o.sent.dropped) k

pub posting_place : (f from to : ℕ) (b : Body) (s : Scene) → pending_place f (posting from to (record { sender = from; body = b }) s).moments ≡ pending_place f s.moments
posting_place f from to b s = by_sent (λ t. pending_place f t.moments ≡ pending_place f s.moments) from to b s (λ o. dropped_place f o (sent_line from to b s)) refl

pub posting_proposals : (f w from to : ℕ) (b : Body) (s : Scene) → list_any (is_proposal f w) (posting from to (record { sender = from; body = b }) s).moments ≡ list_any (is_proposal f w) s.moments
posting_proposals f w from to b s = by_sent (λ t. list_any (is_proposal f w) t.moments ≡ list_any (is_proposal f w) s.moments) from to b s (λ o. dropped_proposals f w o (sent_line from to b s)) refl

pub posting_last : (f w from to : ℕ) (b : Body) (s : Scene) → before_last (is_proposal f w) (posting from to (record { sender = from; body = b }) s).moments ≡ before_last (is_proposal f w) s.moments
posting_last f w from to b s = by_sent (λ t. before_last (is_proposal f w) t.moments ≡ before_last (is_proposal f w) s.moments) from to b s (λ o. dropped_last f w o (sent_line from to b s)) refl

posting_ticks : (n m v from to : ℕ) (b : Body) (s : Scene) → NoPrepare b → since_prepare n m v (posting from to (record { sender = from; body = b }) s).moments ≡ since_prepare n m v s.moments
posting_ticks n m v from to b s none =
    by_sent (λ t. since_prepare n m v t.moments ≡ since_prepare n m v s.moments) from to b s
    (λ o. dropped_ticks n m v o (sent_line from to b s)
    ∙ if_false ((from == n) && (to == m) && same_name (named (name_of b)) (name.Prepare v)) (Some 0) (since_prepare n m v s.moments)
    (last_false (from == n) (to == m) (same_name (named (name_of b)) (name.Prepare v)) (other_name b v none))) refl

-- it was sent just now, or nothing changed
abbrev pub Since : ℕ → ℕ → ℕ → List Moment → List Moment → Type 0
Since n m v before after = (since_prepare n m v after ≡ since_prepare n m v before) ⊎ (since_prepare n m v after ≡ Some 0)

posting_either : (n m v from to : ℕ) (b : Body) (s : Scene) → Since n m v s.moments (posting from to (record { sender = from; body = b }) s).moments
posting_either n m v from to b s = by_sent (λ t. Since n m v s.moments t.moments) from to b s (λ o. by_test ((from == n) && (to == m) && same_name (named (name_of b)) (name.Prepare v)) refl o) (inl refl)
  where
    by_test : (x : Bool) → ((from == n) && (to == m) && same_name (named (name_of b)) (name.Prepare v)) ≡ x → (o : Option (ℕ × DropCause)) → Since n m v s.moments (dropped_so o (sent_line from to b s)).moments
    by_test true is o = inr (dropped_ticks n m v o (sent_line from to b s) ∙ if_true _ (Some 0) (since_prepare n m v s.moments) is)
    by_test false is o = inl (dropped_ticks n m v o (sent_line from to b s) ∙ if_false _ (Some 0) (since_prepare n m v s.moments) is)

both_true : (a b : Bool) → a ≡ true → b ≡ true → (a && b) ≡ true
both_true true b h k = k
both_true false b h k = absurd (false_true h)

-- the Prepare of n to m is what it is
prepare_called : (n m v : ℕ) → ((n == n) && (m == m) && same_name (name.Prepare v) (name.Prepare v)) ≡ true
prepare_called n m v = both_true ((n == n) && (m == m)) (same_name (name.Prepare v) (name.Prepare v)) (both_true (n == n) (m == m) (is_itself n) (is_itself m)) (is_itself v)

posting_zero : (n m v : ℕ) (b : Body) (s : Scene) → named (name_of b) ≡ name.Prepare v → IsShort n b → IsLeft s.links.next
    → since_prepare n m v (posting n m (record { sender = n; body = b }) s).moments ≡ Some 0
posting_zero n m v b s called short left =
    let x : Message = record { sender = n; body = b } in
    let o : net.Outcome = sending s.links n m (spelling x) in
    if_with (λ (t : Scene). since_prepare n m v t.moments ≡ Some 0) (is_sent s.links x) (is_sent s.links x) (sent_as n m x o s) s refl
    (λ goes. dropped_ticks n m v o.sent.dropped (sent_line n m b s)
    ∙ if_true ((n == n) && (m == m) && same_name (named (name_of b)) (name.Prepare v)) (Some 0) (since_prepare n m v s.moments)
    (subst (λ z. ((n == n) && (m == m) && same_name z (name.Prepare v)) ≡ true) (sym called) (prepare_called n m v)))
    (λ stays. absurd (false_true (sym stays ∙ both_true (nat_le (length (spelling x)) 131072) (nat_lt s.links.next (2 ^ 63)) short left)))

-- ---- all that a node gives

pub passing_ticks : (j m v n : ℕ) (os : List Output) (s : Scene) → AreQuiet os → since_prepare j m v (passing n os s).moments ≡ since_prepare j m v s.moments
passing_ticks j m v n [] s quiet = refl
passing_ticks j m v n (Tells e ∷ os) s quiet = passing_ticks j m v n os (telling e s) quiet.1 ∙ line_ticks j m v e s.moments quiet.0
passing_ticks j m v n (Sends to b ∷ os) s quiet = passing_ticks j m v n os (posting n to (record { sender = n; body = b }) s) quiet.1 ∙ posting_ticks j m v n to b s quiet.0

pub passing_place : (f n : ℕ) (os : List Output) (s : Scene) → ArePlain os → pending_place f (passing n os s).moments ≡ pending_place f s.moments
passing_place f n [] s plain = refl
passing_place f n (Tells e ∷ os) s plain = passing_place f n os (telling e s) plain.1 ∙ line_place f e s.moments plain.0
passing_place f n (Sends to b ∷ os) s plain = passing_place f n os (posting n to (record { sender = n; body = b }) s) plain.1 ∙ posting_place f n to b s

pub passing_proposals : (f w n : ℕ) (os : List Output) (s : Scene) → ArePlain os → list_any (is_proposal f w) (passing n os s).moments ≡ list_any (is_proposal f w) s.moments
passing_proposals f w n [] s plain = refl
passing_proposals f w n (Tells e ∷ os) s plain = passing_proposals f w n os (telling e s) plain.1 ∙ line_proposals f w e s.moments plain.0
passing_proposals f w n (Sends to b ∷ os) s plain = passing_proposals f w n os (posting n to (record { sender = n; body = b }) s) plain.1 ∙ posting_proposals f w n to b s

pub passing_last : (f w n : ℕ) (os : List Output) (s : Scene) → ArePlain os → before_last (is_proposal f w) (passing n os s).moments ≡ before_last (is_proposal f w) s.moments
passing_last f w n [] s plain = refl
passing_last f w n (Tells e ∷ os) s plain = passing_last f w n os (telling e s) plain.1 ∙ line_last f w e s.moments plain.0
passing_last f w n (Sends to b ∷ os) s plain = passing_last f w n os (posting n to (record { sender = n; body = b }) s) plain.1 ∙ posting_last f w n to b s

since_then : (n m v : ℕ) (a b d : List Moment) → Since n m v a b → Since n m v b d → Since n m v a d
since_then n m v a b d h (inr zero) = inr zero
since_then n m v a b d (inl is) (inl same) = inl (same ∙ is)
since_then n m v a b d (inr zero) (inl same) = inr (same ∙ zero)

pub passing_either : (m v n : ℕ) (os : List Output) (s : Scene) → ArePlain os → Since n m v s.moments (passing n os s).moments
passing_either m v n [] s plain = inl refl
passing_either m v n (Tells e ∷ os) s plain =
    since_then n m v s.moments (telling e s).moments (passing n os (telling e s)).moments (inl (line_ticks n m v e s.moments plain.0)) (passing_either m v n os (telling e s) plain.1)
passing_either m v n (Sends to b ∷ os) s plain =
    let u : Scene = posting n to (record { sender = n; body = b }) s in
    since_then n m v s.moments u.moments (passing n os u).moments (posting_either n m v n to b s) (passing_either m v n os u plain.1)

no_fall : (n m : ℕ) (b : Body) (e : Entry) → PlainLine e → SendsOrFalls n m b (Tells e) → ⊥
no_fall n m b (entry.Node k (note.Down why)) plain is = plain
no_fall n m b _ plain is = is

then_zero : (n m v : ℕ) (a b : List Moment) → since_prepare n m v a ≡ Some 0 → Since n m v a b → since_prepare n m v b ≡ Some 0
then_zero n m v a b h (inl same) = same ∙ h
then_zero n m v a b h (inr zero) = zero

-- what is among it was sent just now
pub passing_zero : (m v n : ℕ) (b : Body) (os : List Output) (s : Scene) → ArePlain os → IsBehind n m b os → named (name_of b) ≡ name.Prepare v → IsShort n b → IsLeft (passing n os s).links.next
    → since_prepare n m v (passing n os s).moments ≡ Some 0
passing_zero m v n b [] s plain behind called short left = absurd behind
passing_zero m v n b (Tells e ∷ os) s plain (inl here) called short left = absurd (no_fall n m b e plain.0 here)
passing_zero m v n b (Tells e ∷ os) s plain (inr behind) called short left = passing_zero m v n b os (telling e s) plain.1 behind called short left
passing_zero m v n b (Sends to x ∷ os) s plain (inl here) called short left =
    let u : Scene = posting n to (record { sender = n; body = x }) s in
    let fits : IsShort n x = subst (IsShort n) (sym here.1) short in
    let known : named (name_of x) ≡ name.Prepare v = subst (λ z. named (name_of z) ≡ name.Prepare v) (sym here.1) called in
    then_zero n m v u.moments (passing n os u).moments
    (subst (λ k. since_prepare n k v u.moments ≡ Some 0) here.0
    (posting_zero n to v x s known fits (left_before s.links.next (passing n os u).links.next (2 ^ 63) (passing_next n (Sends to x ∷ os) s) left)))
    (passing_either m v n os u plain.1)
passing_zero m v n b (Sends to x ∷ os) s plain (inr behind) called short left = passing_zero m v n b os (posting n to (record { sender = n; body = x }) s) plain.1 behind called short left

-- a Prepare that is not among the first is among the others
pub behind_quiet : (n m e v : ℕ) (text : List ℕ) (os rest : List Output) → AreQuiet os → IsBehind n m (body.Prepare e v text) (os ++ rest) → IsBehind n m (body.Prepare e v text) rest
behind_quiet n m e v text [] rest quiet h = h
behind_quiet n m e v text (Tells x ∷ os) rest quiet (inl here) = absurd (no_fall n m (body.Prepare e v text) x quiet.0 here)
behind_quiet n m e v text (Sends to b ∷ os) rest quiet (inl here) = absurd (subst NoPrepare here.1 quiet.0)
behind_quiet n m e v text (Tells x ∷ os) rest quiet (inr h) = behind_quiet n m e v text os rest quiet.1 h
behind_quiet n m e v text (Sends to b ∷ os) rest quiet (inr h) = behind_quiet n m e v text os rest quiet.1 h

pub behind_either : (n m : ℕ) (b : Body) (os rest : List Output) → IsBehind n m b (os ++ rest) → IsBehind n m b os ⊎ IsBehind n m b rest
behind_either n m b [] rest h = inr h
behind_either n m b (o ∷ os) rest (inl here) = inl (inl here)
behind_either n m b (o ∷ os) rest (inr h) = more (behind_either n m b os rest h)
  where
    more : IsBehind n m b os ⊎ IsBehind n m b rest → IsBehind n m b (o ∷ os) ⊎ IsBehind n m b rest
    more (inl k) = inl (inr k)
    more (inr k) = inr k
