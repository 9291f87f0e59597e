-- What lines and messages leave of who is a member, and of the event under way.
use Rattle.std.specs.Prelude.{ℕ, ◌≡◌, ◌≢◌, ◌==◌, ◌&&◌, Bool, true, false, List, [], ◌∷◌, Option, None, Some}
use Rattle.std.proofs.Common.{refl, ◌∙◌, arith}
use Rattle.cl_base.specs.declared.packet.DropCause.{DropCause}
use Rattle.cmm_attempt.proofs.Basics.{if_either}
use Rattle.history.specs.Letters.{arrived}
use Rattle.history.specs.Member.{in_collect, member_of}
use Rattle.history.specs.Moment.{Moment, Told}
use Rattle.history.specs.Setting.{coordinator}
use Rattle.interconnect.specs.Links as links
use Rattle.interconnect.specs.Links.{sending}
use Rattle.node_model.specs.declared.output.Output.{Output}
use Rattle.node_model.specs.declared.output.Output.TheVariants.{Sends, Tells}
use Rattle.run_history.proofs.Idle.{if_false}
use Rattle.run_history.specs.Scenes.{Scene, dropped_so, passing, posting, sent_as, telling, with_links}
use Rattle.status_report.specs.declared.attempt_entry.AttemptEntry.TheVariants as attempt
use Rattle.status_report.specs.declared.entry.Entry.{Entry}
use Rattle.status_report.specs.declared.entry.Entry.TheVariants as entry
use Rattle.status_report.specs.declared.node_entry.NodeEntry.TheVariants as note
use Rattle.status_report.specs.declared.packet_entry.PacketEntry.TheVariants as packet
use Rattle.wire.specs.Spelling.{spelling}
use Rattle.wire.specs.declared.message.Message.{Message}
use Rattle.world_model.specs.Sends.{is_sent, name_of}
use Rattle.run_messages.specs.Outputs.{AreEven, AreGood, AreStill, IsEven, IsStill, NoPacket}

is_other : (a b : ℕ) → a ≢ b → (a == b) ≡ false
is_other a b ne = grind arith

and_false : (a b : Bool) → a ≡ false → (a && b) ≡ false
and_false true b h = absurd (cc)
and_false false b h = refl

-- ---- who is a member

pub told_still : (k : ℕ) (e : Entry) (ms : List Moment) → IsStill k e → member_of k (Told e ∷ ms) ≡ member_of k ms
told_still k (entry.Node m note.Up) ms ne = if_false (m == k) None (member_of k ms) (is_other m k ne)
told_still k (entry.Node m (note.Down why)) ms ne = if_false (m == k) None (member_of k ms) (is_other m k ne)
told_still k (entry.Node m note.Saved) ms ne = if_false ((m == k) && in_collect k ms) None (member_of k ms) (and_false (m == k) (in_collect k ms) (is_other m k ne))
told_still k (entry.Node m (note.Member e)) ms ne = if_false (m == k) (Some e) (member_of k ms) (is_other m k ne)
told_still k (entry.Node m note.Ticked) ms ne = refl
told_still k (entry.Node m (note.Installed e)) ms ne = refl
told_still k (entry.Attempt (attempt.Begun e members)) ms ne = if_false (coordinator e == k) None (member_of k ms) (is_other (coordinator e) k ne)
told_still k (entry.Attempt (attempt.Votes e have need lacking)) ms ne = refl
told_still k (entry.Attempt (attempt.Superseded e q)) ms ne = refl
told_still k (entry.Attempt (attempt.Silent e m)) ms ne = refl
told_still k (entry.Attempt (attempt.Excluded e m)) ms ne = refl
told_still k (entry.Attempt (attempt.Foreign e m)) ms ne = refl
told_still k (entry.Packet e) ms ne = absurd ne
told_still k _ ms ne = refl

dropped_still : (k : ℕ) (o : Option (ℕ × DropCause)) (s : Scene) → member_of k (dropped_so o s).moments ≡ member_of k s.moments
dropped_still k None s = refl
dropped_still k (Some drop) s = refl

posting_still : (k from to : ℕ) (m : Message) (s : Scene) → member_of k (posting from to m s).moments ≡ member_of k s.moments
posting_still k from to m s =
    let o : links.Outcome = sending s.links from to (spelling m) in
    if_either (λ (t : Scene). member_of k t.moments ≡ member_of k s.moments) (is_sent s.links m) (sent_as from to m o s) s
    (dropped_still k o.sent.dropped (telling (entry.Packet (packet.Sent s.links.next from to (name_of m.body) (spelling m))) (with_links s o.after))) refl

pub passing_still : (k n : ℕ) (os : List Output) (s : Scene) → AreStill k os → member_of k (passing n os s).moments ≡ member_of k s.moments
passing_still k n [] s h = refl
passing_still k n (Tells e ∷ os) s h = passing_still k n os (telling e s) h.1 ∙ told_still k e s.moments h.0
passing_still k n (Sends to b ∷ os) s h =
    passing_still k n os (posting n to (record { sender = n; body = b }) s) h.1 ∙ posting_still k n to (record { sender = n; body = b }) s

even_still : (k : ℕ) (e : Entry) → IsEven e → IsStill k e
even_still k (entry.Node m note.Up) h = absurd h
even_still k (entry.Node m (note.Down why)) h = absurd h
even_still k (entry.Node m note.Saved) h = absurd h
even_still k (entry.Node m (note.Member e)) h = absurd h
even_still k (entry.Node m note.Ticked) h = tt
even_still k (entry.Node m (note.Installed e)) h = tt
even_still k (entry.Attempt (attempt.Begun e members)) h = absurd h
even_still k (entry.Attempt (attempt.Votes e have need lacking)) h = tt
even_still k (entry.Attempt (attempt.Superseded e q)) h = tt
even_still k (entry.Attempt (attempt.Silent e m)) h = tt
even_still k (entry.Attempt (attempt.Excluded e m)) h = tt
even_still k (entry.Attempt (attempt.Foreign e m)) h = tt
even_still k (entry.Packet e) h = absurd h
even_still k _ h = tt

pub evens_still : (k : ℕ) (os : List Output) → AreEven os → AreStill k os
evens_still k [] h = tt
evens_still k (Tells e ∷ os) h = (even_still k e h.0, evens_still k os h.1)
evens_still k (Sends to b ∷ os) h = (tt, evens_still k os h.1)

-- ---- the event under way

told_arrived : (e : Entry) (ms : List Moment) → NoPacket e → arrived (Told e ∷ ms) ≡ arrived ms
told_arrived (entry.Packet e) ms q = absurd q
told_arrived _ ms q = refl

dropped_arrived : (o : Option (ℕ × DropCause)) (s : Scene) → arrived (dropped_so o s).moments ≡ arrived s.moments
dropped_arrived None s = refl
dropped_arrived (Some drop) s = refl

posting_arrived : (from to : ℕ) (m : Message) (s : Scene) → arrived (posting from to m s).moments ≡ arrived s.moments
posting_arrived from to m s =
    let o : links.Outcome = sending s.links from to (spelling m) in
    if_either (λ (t : Scene). arrived t.moments ≡ arrived s.moments) (is_sent s.links m) (sent_as from to m o s) s
    (dropped_arrived o.sent.dropped (telling (entry.Packet (packet.Sent s.links.next from to (name_of m.body) (spelling m))) (with_links s o.after))) refl

-- what node n gives leaves it
pub passing_arrived : (n : ℕ) (os : List Output) (s : Scene) → AreGood n os → arrived (passing n os s).moments ≡ arrived s.moments
passing_arrived n [] s h = refl
passing_arrived n (Tells e ∷ os) s h = passing_arrived n os (telling e s) h.1 ∙ told_arrived e s.moments h.0
passing_arrived n (Sends to b ∷ os) s h =
    passing_arrived n os (posting n to (record { sender = n; body = b }) s) h.1 ∙ posting_arrived n to (record { sender = n; body = b }) s
