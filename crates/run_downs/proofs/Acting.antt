-- At a command, a probe, a request, an answer, an order or a Done a node stops only behind a proposal of its own in the event.
use Rattle.std.specs.Prelude.{ℕ, ◌==◌, ◌≡◌, ◌&&◌, ◌||◌, Bool, true, false, List, [], ◌∷◌, Option, None, Some, is_some}
use Rattle.std.specs.List.{AllByRecursion}
use Rattle.std.proofs.Common.{refl, sym, subst, ◌∙◌, arith, inl, inr}
use Rattle.cl_base.specs.declared.method.Outcome as method
use Rattle.cl_base.specs.declared.packet.DropCause.{DropCause}
use Rattle.cmm_attempt.proofs.Basics.{if_either}
use Rattle.history.specs.Letters.{Letter, arrived}
use Rattle.history.specs.Moment.{Moment, Told}
use Rattle.history.specs.Names.{named}
use Rattle.history.specs.Order.{Always, under_way}
use Rattle.history.specs.Member.{member_of}
use Rattle.history.specs.Saves.{has_pending, may_save, proposes, saves_at, saves_in}
use Rattle.history.specs.Setting.{Setting, coordinator}
use Rattle.interconnect.specs.Links as net
use Rattle.interconnect.specs.Links.{sending}
use Rattle.node_model.specs.declared.cluster.Cluster.{Cluster}
use Rattle.node_model.specs.declared.input.Input.TheVariants as input
use Rattle.node_model.specs.declared.node.UpNode.{UpNode}
use Rattle.node_model.specs.declared.output.Output.{Output}
use Rattle.node_model.specs.declared.output.Output.TheVariants.{Sends, Tells}
use Rattle.node_model.specs.Members.{hearing, is_foreign}
use Rattle.node_model.specs.Steps.{at_second}
use Rattle.refinement.specs.Courses.Course.{Acts, Stops}
use Rattle.refinement.specs.Cuts as cuts
use Rattle.refinement.specs.Cuts.{course_at}
use Rattle.refinement.specs.Doings.Act.{Hears}
use Rattle.schedule_text.specs.declared.event.Event.{Event}
use Rattle.status_report.specs.declared.entry.Entry.{Entry}
use Rattle.status_report.specs.declared.entry.Entry.TheVariants as entry
use Rattle.status_report.specs.declared.node_entry.DownCause.TheVariants as cause
use Rattle.status_report.specs.declared.node_entry.NodeEntry.TheVariants as note
use Rattle.status_report.specs.declared.packet_entry.PacketEntry.TheVariants as packet
use Rattle.status_report.specs.declared.update_entry.UpdateEntry.TheVariants as update
use Rattle.wire.specs.Spelling.{spelling}
use Rattle.wire.specs.declared.message.Body.{Body}
use Rattle.wire.specs.declared.message.Body.TheVariants as body
use Rattle.wire.specs.declared.message.Message.{Message}
use Rattle.answer_words.specs.Answers.{answer_in}
use Rattle.world_model.specs.Sends.{is_sent, name_of}
use Rattle.run_history.specs.Scenes.{Scene, dropped_so, passing, posting, sent_as, telling, with_links}
use Rattle.run_downs.proofs.Packets.{IsNoPacket, told_came}
use Rattle.run_downs.proofs.Prepared.{AtOnceOr}
use Rattle.run_downs.proofs.Proposed.{AreProposed, IsProposedLine, told_by}
use Rattle.run_downs.proofs.Proposing.{SavesProposed, asked_p, done_p, order_p, reply_p}
use Rattle.run_downs.proofs.Silent.{posted_ruled}
use Rattle.run_downs.specs.Laws.{StopsByRule, asks_to_acknowledge, asks_to_act}

not_so : false ≡ true → ⊥
not_so h = cc

-- ---- the lines

same_number : (a b : ℕ) → a ≡ b → (a == b) ≡ true
same_number a b h = grind arith

first_true : (a b : Bool) → a ≡ true → (a || b) ≡ true
first_true true b h = refl
first_true false b h = cc

-- where it stops it has told of a proposal
proposed_line : (S : Setting) (n : ℕ) (t : Bool) (e : Entry) (ms : List Moment) → IsProposedLine n t e → (t ≡ true → proposes n ms ≡ true) → (proposes n ms ≡ true → may_save S n ms ≡ true)
    → StopsByRule S ms (Told e)
proposed_line S n t (entry.Node m (note.Down cause.Stopped)) ms h said rule = λ settled. subst (λ k. may_save S k ms ≡ true) (sym h.0) (rule (said h.1))
proposed_line S n t _ ms h said rule = tt

told_proposes : (n : ℕ) (t : Bool) (e : Entry) (ms : List Moment) → IsProposedLine n t e → (t ≡ true → proposes n ms ≡ true) → told_by t e ≡ true → proposes n (Told e ∷ ms) ≡ true
told_proposes n t (entry.Update (update.Proposed e v words)) ms h said so = first_true (coordinator e == n) (proposes n ms) (same_number (coordinator e) n h)
told_proposes n t _ ms h said so = said so

second_true : (a b : Bool) → b ≡ true → (a || b) ≡ true
second_true true b h = refl
second_true false b h = h

-- what is sent leaves what was told in the event
abbrev SameEvent : ℕ → List Moment → List Moment → Type 0
SameEvent n before after = (proposes n after ≡ proposes n before) × (under_way after ≡ under_way before) × (arrived after ≡ arrived before)

dropped_event : (n : ℕ) (o : Option (ℕ × DropCause)) (s : Scene) → SameEvent n s.moments (dropped_so o s).moments
dropped_event n None s = (refl, refl, refl)
dropped_event n (Some x) s = (refl, refl, refl)

posted_event : (n from to : ℕ) (m : Message) (s : Scene) → SameEvent n s.moments (posting from to m s).moments
posted_event n from to m s =
    let o : net.Outcome = sending s.links from to (spelling m) in
    if_either (λ (z : Scene). SameEvent n s.moments z.moments) (is_sent s.links m) (sent_as from to m o s) s
    (dropped_event n o.sent.dropped (telling (entry.Packet (packet.Sent s.links.next from to (name_of m.body) (spelling m))) (with_links s o.after))) (refl, refl, refl)

-- behind a proposal the rules let it save in this event
abbrev pub IsRule : Setting → ℕ → Option Event → Option Letter → Type 0
IsRule S n e a = (ms : List Moment) → under_way ms ≡ e → arrived ms ≡ a → proposes n ms ≡ true → may_save S n ms ≡ true

pub proposed_ruled : (S : Setting) (n : ℕ) (e : Option Event) (a : Option Letter) (t : Bool) (os : List Output) (s : Scene) → AreProposed n t os → AllByRecursion IsNoPacket os → IsRule S n e a
    → (t ≡ true → proposes n s.moments ≡ true) → under_way s.moments ≡ e → arrived s.moments ≡ a → Always (StopsByRule S) s.moments → Always (StopsByRule S) (passing n os s).moments
proposed_ruled S n e a t [] s h packets rule said is here so = so
proposed_ruled S n e a t (Tells x ∷ os) s h packets rule said is here so =
    proposed_ruled S n e a (told_by t x) os (telling x s) h.1 packets.1 rule (told_proposes n t x s.moments h.0 said) is (told_came x s.moments packets.0 ∙ here)
    (proposed_line S n t x s.moments h.0 said (rule s.moments is here), so)
proposed_ruled S n e a t (Sends to b ∷ os) s h packets rule said is here so =
    let m : Message = record { sender = n; body = b } in
    let k : SameEvent n s.moments (posting n to m s).moments = posted_event n n to m s in
    proposed_ruled S n e a t os (posting n to m s) h packets.1 rule (λ y. k.0 ∙ said y) (k.1 ∙ is) (k.2 ∙ here) (posted_ruled S n to m s so)

-- it stops alone, where Q, or behind a proposal
pub once_ruled : (S : Setting) (n : ℕ) (Q : Type 0) (e : Option Event) (a : Option Letter) (os : List Output) (s : Scene) → AtOnceOr Q n os → AllByRecursion IsNoPacket os → IsRule S n e a → (Q → may_save S n s.moments ≡ true)
    → under_way s.moments ≡ e → arrived s.moments ≡ a → Always (StopsByRule S) s.moments → Always (StopsByRule S) (passing n os s).moments
once_ruled S n Q e a os s (inl h) packets rule first is here so = subst (λ z. Always (StopsByRule S) (passing n z s).moments) (sym h.1) ((λ settled. first h.0), so)
once_ruled S n Q e a os s (inr h) packets rule first is here so = proposed_ruled S n e a false os s h packets rule (λ never. absurd (not_so never)) is here so

-- at a command and a probe: behind a proposal
pub acting_rule : (S : Setting) (n : ℕ) (e : Event) (a : Option Letter) → ((ms : List Moment) → proposes n ms ≡ true → saves_in S n (Some e) ms ≡ true) → IsRule S n (Some e) a
acting_rule S n e a rule ms is here h = subst (λ z. saves_in S n z ms ≡ true) (sym is) (rule ms h)

-- ---- the messages

body_proposes : (c : Cluster) (n : ℕ) (ends : method.Outcome) (x : UpNode) (from : ℕ) (m : Message) (b : Body) → asks_to_act (named (name_of b)) ≡ true
    → SavesProposed false (cuts.body_course c n ends x from m b)
body_proposes c n ends x from m (body.Request e number text) acts = asked_p false c n x from e number text
body_proposes c n ends x from m (body.Answer e number text) acts = reply_p false c n x e number (answer_in text)
body_proposes c n ends x from m (body.Order o) acts = order_p false c n ends x from o
body_proposes c n ends x from m (body.Done e number ended) acts = done_p false c n x from e number ended
body_proposes c n ends x from m _ acts = absurd (not_so acts)

pub message_proposes : (c : Cluster) (n now : ℕ) (ends : method.Outcome) (x : UpNode) (from : ℕ) (m : Message) → asks_to_act (named (name_of m.body)) ≡ true
    → SavesProposed false (course_at c n now ends x (input.Packet from m))
message_proposes c n now ends x from m acts =
    let y : UpNode = at_second now x in (
      tt,
      if_either (SavesProposed false) (is_foreign c n y m.body) Stops (Acts (Hears from m.body) (cuts.body_course c n ends (hearing y from m.body) from m m.body)) tt
          (tt, body_proposes c n ends (hearing y from m.body) from m m.body acts),
    )

pub acting_saves : (n : ℕ) (l : Letter) (b : Body) (ms : List Moment) → asks_to_act (named (name_of b)) ≡ true → proposes n ms ≡ true → saves_at n l (named (name_of b)) ms ≡ true
acting_saves n l (body.Request e number text) ms acts h = h
acting_saves n l (body.Answer e number text) ms acts h = h
acting_saves n l (body.Order o) ms acts h = h
acting_saves n l (body.Done e number ended) ms acts h = h
acting_saves n l _ ms acts h = absurd (not_so acts)

-- at a Prepared: a member with an update pending, or behind a proposal
pub acknowledging_saves : (n : ℕ) (l : Letter) (b : Body) (ms : List Moment) → asks_to_acknowledge (named (name_of b)) ≡ true → proposes n ms ≡ true → saves_at n l (named (name_of b)) ms ≡ true
acknowledging_saves n l (body.Prepared e place) ms acks h = second_true (is_some (member_of n ms) && has_pending n ms) (proposes n ms) h
acknowledging_saves n l _ ms acks h = absurd (not_so acks)

pub pending_saves : (n : ℕ) (l : Letter) (b : Body) (ms : List Moment) → asks_to_acknowledge (named (name_of b)) ≡ true → (is_some (member_of n ms) && has_pending n ms) ≡ true
    → saves_at n l (named (name_of b)) ms ≡ true
pending_saves n l (body.Prepared e place) ms acks h = first_true (is_some (member_of n ms) && has_pending n ms) (proposes n ms) h
pending_saves n l _ ms acks h = absurd (not_so acks)
