-- What the outputs of a node add to the moments.
use Rattle.std.specs.Prelude.{ℕ, ◌+◌, ◌≡◌, ◌++◌, Bool, true, false, List, [], ◌∷◌, length, Option, None, Some, if◌then◌else◌}
use Rattle.std.proofs.Common.{refl, sym, subst, ◌∙◌}
use Rattle.ccr_commit.specs.Entries.{all_committed}
use Rattle.cl_base.specs.declared.packet.DropCause.{DropCause}
use Rattle.cmm_attempt.specs.Attempts.{AttemptState}
use Rattle.cmm_attempt.specs.Seizings.{held_set}
use Rattle.cmm_member.specs.Nodes.{NodeState}
use Rattle.interconnect.specs.Links.{Outcome as Sending, sending}
use Rattle.status_report.specs.declared.entry.Entry.{Entry}
use Rattle.status_report.specs.declared.entry.Entry.TheVariants as entry
use Rattle.status_report.specs.declared.packet_entry.PacketEntry.TheVariants as packet
use Rattle.status_report.specs.declared.start_entry.StartEntry.TheVariants as start_entry
use Rattle.status_report.specs.declared.update_entry.UpdateEntry.TheVariants as update
use Rattle.wire.specs.declared.message.Message.{Message}
use Rattle.wire.specs.Spelling.{spelling}
use Rattle.history.specs.Deeds.{Acked, Deed, Proposed}
use Rattle.history.specs.Trace.{start}
use Rattle.node_model.specs.Attempts.{base_lines}
use Rattle.node_model.specs.declared.output.Output.{Output}
use Rattle.node_model.specs.declared.output.Output.TheVariants.{Sends, Tells}
use Rattle.refinement.specs.Doings.{start_lines}
use Rattle.world_model.specs.Sends.{is_sent, name_of}
use Rattle.run_history.specs.Scenes.{Scene, dropped_so, passing, passing_one, posting, sent_as, telling, with_links}
use Rattle.run_history.specs.DeedLines.{Adds, AreAside, Closed, IsAside, Passes, onto_bases}
use Rattle.run_history.specs.Marks.{AreMinor, IsMinor, start_of}
use Rattle.run_history.proofs.Moments.{ack_adds, aside_adds, nothing_added, propose_adds, start_adds, then_added}

pub stays : (s : Scene) → Closed s.moments → Passes s s []
stays s h = record { adds = nothing_added s.moments h; nodes = refl }

pub then_passes : (r s t : Scene) (some more : List Deed) → Passes r s some → Passes s t more → Passes r t (more ++ some)
then_passes r s t some more h k = record { adds = then_added r.moments s.moments t.moments some more h.adds k.adds; nodes = k.nodes ∙ h.nodes }

pub passing_append : (n : ℕ) (os more : List Output) (s : Scene) → passing n (os ++ more) s ≡ passing n more (passing n os s)
passing_append n [] more s = refl
passing_append n (o ∷ os) more s = passing_append n os more (passing_one n o s)

-- one list of outputs, and then another
pub both_pass : (n : ℕ) (os more : List Output) (s : Scene) (first second : List Deed) → Passes s (passing n os s) first
    → (Closed (passing n os s).moments → Passes (passing n os s) (passing n more (passing n os s)) second) → Passes s (passing n (os ++ more) s) (second ++ first)
both_pass n os more s first second h k =
    subst (λ t. Passes s t (second ++ first)) (sym (passing_append n os more s)) (then_passes s (passing n os s) (passing n more (passing n os s)) first second h (k h.adds.closed))

-- ---- lines aside, and messages

pub told_passes : (e : Entry) (s : Scene) → IsAside e → Closed s.moments → Passes s (telling e s) []
told_passes e s is h = record { adds = aside_adds s.moments e is h; nodes = refl }

pub dropped_passes : (o : Option (ℕ × DropCause)) (s : Scene) → Closed s.moments → Passes s (dropped_so o s) []
dropped_passes None s h = stays s h
dropped_passes (Some drop) s h = told_passes (entry.Packet (packet.Dropped drop.0 drop.1)) s tt h

-- the links change besides
pub linked_passes : (e : Entry) (s : Scene) (o : Sending) → IsAside e → Closed s.moments → Passes s (dropped_so o.sent.dropped (telling e (with_links s o.after))) []
linked_passes e s o is h =
    let first : Passes s (telling e (with_links s o.after)) [] = record { adds = aside_adds s.moments e is h; nodes = refl } in
    then_passes s (telling e (with_links s o.after)) (dropped_so o.sent.dropped (telling e (with_links s o.after))) [] [] first
    (dropped_passes o.sent.dropped (telling e (with_links s o.after)) first.adds.closed)

posted_if : (b : Bool) (s t : Scene) → Passes s t [] → Passes s s [] → Passes s (if b then t else s) []
posted_if true s t h k = h
posted_if false s t h k = k

posting_passes : (from to : ℕ) (m : Message) (s : Scene) → Closed s.moments → Passes s (posting from to m s) []
posting_passes from to m s h =
    posted_if (is_sent s.links m) s (sent_as from to m (sending s.links from to (spelling m)) s)
    (linked_passes (entry.Packet (packet.Sent s.links.next from to (name_of m.body) (spelling m))) s (sending s.links from to (spelling m)) tt h) (stays s h)

pub asides_pass : (n : ℕ) (os : List Output) (s : Scene) → AreAside os → Closed s.moments → Passes s (passing n os s) []
asides_pass n [] s are h = stays s h
asides_pass n (Tells e ∷ os) s are h =
    let first : Passes s (telling e s) [] = told_passes e s are.0 h in
    then_passes s (telling e s) (passing n os (telling e s)) [] [] first (asides_pass n os (telling e s) are.1 first.adds.closed)
asides_pass n (Sends to b ∷ os) s are h =
    let m : Message = record { sender = n; body = b } in
    let first : Passes s (posting n to m s) [] = posting_passes n to m s h in
    then_passes s (posting n to m s) (passing n os (posting n to m s)) [] [] first (asides_pass n os (posting n to m s) are first.adds.closed)

pub aside_append : (os more : List Output) → AreAside os → AreAside more → AreAside (os ++ more)
aside_append [] more h k = k
aside_append (Tells e ∷ os) more h k = (h.0, aside_append os more h.1 k)
aside_append (Sends to b ∷ os) more h k = aside_append os more h k

minor_aside : (e : Entry) → IsMinor e → IsAside e
minor_aside (entry.Command e) h = tt
minor_aside (entry.Call e) h = tt
minor_aside (entry.Status e) h = tt
minor_aside (entry.Address e) h = tt
minor_aside (entry.Answered e) h = absurd h
minor_aside entry.Powered h = absurd h
minor_aside (entry.Node n e) h = absurd h
minor_aside (entry.Packet e) h = absurd h
minor_aside (entry.Device e) h = absurd h
minor_aside (entry.Attempt e) h = absurd h
minor_aside (entry.Start e) h = absurd h
minor_aside (entry.Update e) h = absurd h
minor_aside (entry.Schedule e) h = absurd h

pub minors_aside : (os : List Output) → AreMinor os → AreAside os
minors_aside [] h = tt
minors_aside (Tells e ∷ os) h = (minor_aside e h.0, minors_aside os h.1)
minors_aside (Sends to b ∷ os) h = minors_aside os h

-- ---- deeds

pub propose_passes : (n e v : ℕ) (words : List ℕ) (s : Scene) → Closed s.moments
    → Passes s (passing n (Tells (entry.Update (update.Proposed e v words)) ∷ []) s) (Proposed (record { epoch = e; place = v; words = words }) ∷ [])
propose_passes n e v words s h = record { adds = propose_adds s.moments e v words h; nodes = refl }

pub ack_passes : (n e v : ℕ) (words : List ℕ) (s : Scene) → Closed s.moments
    → Passes s (passing n (Tells (entry.Update (update.Acknowledged e v words)) ∷ []) s) (Acked (record { epoch = e; place = v; words = words }) ∷ [])
ack_passes n e v words s h = record { adds = ack_adds s.moments e v words h; nodes = refl }

bases_moments : (n e before : ℕ) (texts : List (List ℕ)) (s : Scene) → (passing n (base_lines e before texts) s).moments ≡ onto_bases e before texts s.moments
bases_moments n e before [] s = refl
bases_moments n e before (text ∷ texts) s = bases_moments n e (before + 1) texts (telling (entry.Start (start_entry.Base e (before + 1) text)) s)

bases_nodes : (n e before : ℕ) (texts : List (List ℕ)) (s : Scene) → (passing n (base_lines e before texts) s).nodes ≡ s.nodes
bases_nodes n e before [] s = refl
bases_nodes n e before (text ∷ texts) s = bases_nodes n e (before + 1) texts (telling (entry.Start (start_entry.Base e (before + 1) text)) s)

pub start_passes : (n : ℕ) (a : AttemptState) (st : NodeState) (s : Scene) → Closed s.moments → Passes s (passing n (start_lines a st) s) (start_of a st ∷ [])
start_passes n a st s h =
    let texts : List (List ℕ) = (all_committed st.saved.entries).committed in
    let t : Scene = record s { moments = start a.plan.epoch a.plan.members (held_set a.devices) (length texts) ∷ s.moments } in
    record {
      adds = subst (λ ms. Adds s.moments ms (start_of a st ∷ [])) (sym (bases_moments n a.plan.epoch 0 texts t)) (start_adds s.moments a.plan.epoch a.plan.members (held_set a.devices) texts h);
      nodes = bases_nodes n a.plan.epoch 0 texts t;
    }
