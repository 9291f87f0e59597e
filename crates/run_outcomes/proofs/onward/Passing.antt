-- The lines of what a node gives, where nothing of that changes its tasks.
use Rattle.std.specs.Prelude.{ℕ, ◌≡◌, ◌++◌, false, List, [], ◌∷◌, Option, None, Some}
use Rattle.std.proofs.Common.{refl, sym, ap, subst, ◌∙◌, append_assoc, inr}
use Rattle.cl_base.specs.declared.packet.DropCause.{DropCause}
use Rattle.history.specs.Member.{in_collect}
use Rattle.history.specs.Moment.{Moment, Told}
use Rattle.cmm_attempt.proofs.Basics.{if_either}
use Rattle.interconnect.specs.Links.{Outcome as Sending, sending}
use Rattle.node_model.specs.declared.output.Output.{Output}
use Rattle.node_model.specs.declared.output.Output.TheVariants.{Sends, Tells}
use Rattle.run_history.specs.Scenes.{Scene, dropped_so, passing, passing_one, posting, sent_as, telling, with_links}
use Rattle.status_report.specs.declared.entry.Entry.{Entry}
use Rattle.status_report.specs.declared.entry.Entry.TheVariants as entry
use Rattle.status_report.specs.declared.node_entry.NodeEntry.{NodeEntry}
use Rattle.status_report.specs.declared.node_entry.NodeEntry.TheVariants as note
use Rattle.status_report.specs.declared.packet_entry.PacketEntry.TheVariants as packet
use Rattle.wire.specs.declared.message.Message.{Message}
use Rattle.wire.specs.Spelling.{spelling}
use Rattle.world_model.specs.Sends.{is_sent, name_of}
use Rattle.run_outcomes.specs.tasks.Onward.{AreStill, IsStill, StillEntry, StillNode}
use Rattle.run_outcomes.specs.tasks.Quiet.{AreQuiet, IsQuiet}

-- these lines came, and none of them is a Collect
pub record Passed (n : ℕ) (before after : List Moment) : Type 0 where
  pub newer : List Moment
  pub parts : after ≡ newer ++ before
  pub quiet : AreQuiet n before newer
  pub calm : in_collect n after ≡ in_collect n before

quiet_on : (n : ℕ) (before newer more : List Moment) → AreQuiet n before newer → AreQuiet n (newer ++ before) more → AreQuiet n before (more ++ newer)
quiet_on n before newer [] h k = h
quiet_on n before newer (x ∷ more) h k = (subst (λ ms. IsQuiet n ms x) (sym (append_assoc more newer before)) k.0, quiet_on n before newer more h k.1)

pub passed_on : (n : ℕ) (a b d : List Moment) → Passed n a b → Passed n b d → Passed n a d
passed_on n a b d h k = record {
  newer = k.newer ++ h.newer;
  parts = k.parts ∙ (ap (λ ms. k.newer ++ ms) h.parts ∙ sym (append_assoc k.newer h.newer a));
  quiet = quiet_on n a h.newer k.newer h.quiet (subst (λ ms. AreQuiet n ms k.newer) h.parts k.quiet);
  calm = k.calm ∙ h.calm;
}

pub none_passed : (n : ℕ) (ms : List Moment) → Passed n ms ms
none_passed n ms = record { newer = []; parts = refl; quiet = tt; calm = refl }

one_passed : (n : ℕ) (ms : List Moment) (x : Moment) → IsQuiet n ms x → in_collect n (x ∷ ms) ≡ in_collect n ms → Passed n ms (x ∷ ms)
one_passed n ms x quiet calm = record { newer = x ∷ []; parts = refl; quiet = (quiet, tt); calm = calm }

node_passed : (n m : ℕ) (ms : List Moment) (e : NodeEntry) → in_collect n ms ≡ false → StillNode e → Passed n ms (Told (entry.Node m e) ∷ ms)
node_passed n m ms (note.Member q) calm h = one_passed n ms (Told (entry.Node m (note.Member q))) tt refl
node_passed n m ms note.Ticked calm h = one_passed n ms (Told (entry.Node m note.Ticked)) tt refl
node_passed n m ms note.Saved calm h = one_passed n ms (Told (entry.Node m note.Saved)) (inr calm) refl
node_passed n m ms note.Up calm h = absurd h
node_passed n m ms (note.Down why) calm h = absurd h
node_passed n m ms (note.Installed q) calm h = absurd h

entry_passed : (n : ℕ) (ms : List Moment) (e : Entry) → in_collect n ms ≡ false → StillEntry n e → Passed n ms (Told e ∷ ms)
entry_passed n ms (entry.Node m e) calm h = node_passed n m ms e calm h
entry_passed n ms (entry.Device e) calm h = one_passed n ms (Told (entry.Device e)) h refl
entry_passed n ms (entry.Attempt e) calm h = one_passed n ms (Told (entry.Attempt e)) h refl
entry_passed n ms (entry.Packet e) calm h = absurd h
entry_passed n ms e calm h = one_passed n ms (Told e) tt refl

dropped_passed : (n : ℕ) (s : Scene) (o : Option (ℕ × DropCause)) → Passed n s.moments (dropped_so o s).moments
dropped_passed n s None = none_passed n s.moments
dropped_passed n s (Some d) = one_passed n s.moments (Told (entry.Packet (packet.Dropped d.0 d.1))) tt refl

pub posted_passed : (n from to : ℕ) (m : Message) (s : Scene) → Passed n s.moments (posting from to m s).moments
posted_passed n from to m s =
    let o : Sending = sending s.links from to (spelling m) in
    let t : Scene = telling (entry.Packet (packet.Sent s.links.next from to (name_of m.body) (spelling m))) (with_links s o.after) in
    if_either (λ (z : Scene). Passed n s.moments z.moments) (is_sent s.links m) (sent_as from to m o s) s
    (passed_on n s.moments t.moments (dropped_so o.sent.dropped t).moments
    (one_passed n s.moments (Told (entry.Packet (packet.Sent s.links.next from to (name_of m.body) (spelling m)))) tt refl) (dropped_passed n t o.sent.dropped)) (none_passed n s.moments)

one_given : (n : ℕ) (o : Output) (s : Scene) → in_collect n s.moments ≡ false → IsStill n o → Passed n s.moments (passing_one n o s).moments
one_given n (Tells e) s calm h = entry_passed n s.moments e calm h
one_given n (Sends to b) s calm h = posted_passed n n to (record { sender = n; body = b }) s

pub still_passed : (n : ℕ) (os : List Output) (s : Scene) → in_collect n s.moments ≡ false → AreStill n os → Passed n s.moments (passing n os s).moments
still_passed n [] s calm h = none_passed n s.moments
still_passed n (o ∷ os) s calm h =
    let one : Passed n s.moments (passing_one n o s).moments = one_given n o s calm h.0 in
    passed_on n s.moments (passing_one n o s).moments (passing n os (passing_one n o s)).moments one (still_passed n os (passing_one n o s) (one.calm ∙ calm) h.1)
