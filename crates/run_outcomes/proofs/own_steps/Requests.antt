-- A message that comes to a coordinator leaves its tasks: a request is for what it seizes already, and an Install finds that it has installed.
use Rattle.std.specs.Prelude.{ℕ, ◌≡◌, ◌==◌, nat_le, true, List, Some}
use Rattle.std.proofs.Common.{refl, sym, ap, subst, ◌∙◌}
use Rattle.attempt_laws.specs.Asking.{HasIn, entry_of}
use Rattle.cl_base.specs.Sets.{has}
use Rattle.cl_base.specs.declared.header.Header.{Header}
use Rattle.cluster_ties.specs.Laws.{IsAskedTo}
use Rattle.cluster_ties.specs.Told.{ToldOf}
use Rattle.cmm_attempt.proofs.Basics.{and_cases, false_true, same_number}
use Rattle.cmm_attempt.specs.Attempts.{AttemptState}
use Rattle.cmm_attempt.specs.declared.phase.Phase.{Phase}
use Rattle.cmm_attempt.specs.declared.phase.Phase.TheVariants.{Choosing, Collecting, Installing, Over, SeizingOthers, SeizingVotes}
use Rattle.device_machine.specs.Sharing.{Sharing}
use Rattle.device_queue.specs.Queue.{after_seize}
use Rattle.device_queue.specs.declared.task.Task.{Task}
use Rattle.interconnect.specs.Links.{Packet, packet_of}
use Rattle.node_model.specs.Members.{hearing}
use Rattle.node_model.specs.Seats.{is_in, record_of, session_of}
use Rattle.node_model.specs.Steps.{at_second}
use Rattle.node_model.specs.declared.node.Node.TheVariants.{Up}
use Rattle.node_model.specs.declared.node.UpNode.{UpNode}
use Rattle.refinement.proofs.Worlds.{all_found}
use Rattle.run_history.specs.Scenes.{Scene}
use Rattle.run_history.specs.Wholes.{PacketTold}
use Rattle.run_messages.proofs.Reaching.{IsReached, IsSmall}
use Rattle.run_seizings.specs.Seized.{StandsSo}
use Rattle.run_seizings.specs.Sites.{Posted}
use Rattle.seize.specs.Seizing as seizing
use Rattle.seize.specs.Seizing.{SeizeState}
use Rattle.seize.specs.declared.kind.SeizeKind.{SeizeKind}
use Rattle.seize.specs.declared.kind.SeizeKind.TheVariants.{Plain, Vote}
use Rattle.wire.specs.Reads.{whole_of}
use Rattle.wire.specs.declared.message.Body.{Body}
use Rattle.wire.specs.declared.message.Body.TheVariants as body
use Rattle.wire.specs.declared.message.Message.{Message}
use Rattle.world_model.specs.First.{first_cluster}
use Rattle.run_outcomes.specs.phases.Laws.{is_seizing}
use Rattle.run_outcomes.specs.tasks.Own.{IsOrdered, Owned, Owns}
use Rattle.run_outcomes.proofs.onward.Finals.{Finished}
use Rattle.run_outcomes.proofs.onward.Messages.{KeepsTasks}
use Rattle.run_outcomes.proofs.own_tasks.Arrivals.{entry_asks}
use Rattle.run_outcomes.proofs.own_tasks.Grounds.{Ground, ground_at, seizing_at}
use Rattle.run_outcomes.proofs.own_tasks.Runs.{Known, installed_final, of_attempt, owned_of}

-- ---- a request

request_leaves : (n c d : ℕ) (s : Sharing) (a : AttemptState) (ts : List Task) (begun : SeizeState) (p : Phase) → a.phase ≡ p → a.plan.coordinator ≡ c → IsOrdered n a → (s.attempt a.plan.epoch).asked c ≡ true
    → HasIn s a.plan a.promises a.devices d p → Owns n ts a → is_seizing p ≡ true → after_seize ts d begun ≡ ts
request_leaves n c d s a ts begun SeizingVotes at own ok asked has_it h is =
    entry_asks s a.plan.epoch d a.plan.coordinator a.promises a.devices ts begun (entry_of a.devices d) refl (subst (λ k. (s.attempt a.plan.epoch).asked k ≡ true) (sym own) asked) has_it.1 (h.seizes (ap is_seizing at) ok)
request_leaves n c d s a ts begun SeizingOthers at own ok asked has_it h is =
    entry_asks s a.plan.epoch d a.plan.coordinator a.promises a.devices ts begun (entry_of a.devices d) refl (subst (λ k. (s.attempt a.plan.epoch).asked k ≡ true) (sym own) asked) has_it.1 (h.seizes (ap is_seizing at) ok)
request_leaves n c d s a ts begun Collecting at own ok asked has_it h is = absurd (false_true is)
request_leaves n c d s a ts begun Choosing at own ok asked has_it h is = absurd (false_true is)
request_leaves n c d s a ts begun Installing at own ok asked has_it h is = absurd (false_true is)
request_leaves n c d s a ts begun Over at own ok asked has_it h is = absurd (false_true is)

asked_leaves : (h : Header) (s : Scene) (n e members d : ℕ) (kind : SeizeKind) (x : UpNode) (a : AttemptState) (begun : SeizeState) (g : Ground h s n x a) → IsAskedTo (g.whole.machine.device d) e members n kind → Owns n x.tasks a
    → is_in x e ≡ true → is_seizing a.phase ≡ true → after_seize x.tasks d begun ≡ x.tasks
asked_leaves h s n e members d kind x a begun g told owns is seizes =
    request_leaves n n d (g.whole.machine.device d) a x.tasks begun a.phase refl g.coordinator g.ordered
    (subst (λ q. ((g.whole.machine.device d).attempt q).asked n ≡ true) (sym (g.so.epoch ∙ same_number (session_of x) e (and_cases (nat_le 1 e) (session_of x == e) is).1)) told.asked) (g.attempt d).has owns seizes

-- ---- each message

body_keeps : (h : Header) (s : Scene) (n from now : ℕ) (x : UpNode) (heard b : Body) → Known h s n x from b → StandsSo h s.moments from b → Owned n x → KeepsTasks (first_cluster h) n (hearing (at_second now x) from heard) b
body_keeps h s n from now x heard (body.SeizeQuorum e members d) known stands own = λ here.
    let begun : SeizeState = seizing.begun Vote e members n (first_cluster h).id (has (record_of x).valid d) in
    of_attempt x (λ a. is_seizing a.phase ≡ true → after_seize x.tasks d begun ≡ x.tasks)
    (λ a is seizes. let k : (g : Ground h s n x a) × ToldOf g.whole.machine from n (body.SeizeQuorum e members d) = known a is in asked_leaves h s n e members d Vote x a begun k.0 k.1 (owned_of n x a own is) here seizes)
body_keeps h s n from now x heard (body.SeizeData e members d) known stands own = λ here.
    let begun : SeizeState = seizing.begun Plain e members n (first_cluster h).id (has (record_of x).valid d) in
    of_attempt x (λ a. is_seizing a.phase ≡ true → after_seize x.tasks d begun ≡ x.tasks)
    (λ a is seizes. let k : (g : Ground h s n x a) × ToldOf g.whole.machine from n (body.SeizeData e members d) = known a is in asked_leaves h s n e members d Plain x a begun k.0 k.1 (owned_of n x a own is) here seizes)
body_keeps h s n from now x heard (body.Install i) known stands own = λ here.
    of_attempt x Finished (λ a is. installed_final h s n i x a (known a is).0 stands.0 here)
body_keeps h s n from now x heard _ known stands own = tt

pub arrives_keeps : (h : Header) (cells : ℕ) (s : Scene) (number now : ℕ) (p : Packet) (m : Message) (x : UpNode) → IsSmall h → IsReached h cells s → packet_of s.links.packets number ≡ Some p → whole_of p.bytes ≡ Some m
    → s.nodes.node p.to ≡ Up x → Owned p.to x → KeepsTasks (first_cluster h) p.to (hearing (at_second now x) p.from m.body) m.body
arrives_keeps h cells s number now p m x size r here whole up own =
    body_keeps h s p.to p.from now x m.body m.body
    (λ a has_it. let g : Ground h s p.to x a = ground_at h cells s p.to x a size r up has_it in
    (g, all_found (PacketTold g.whole.machine) (λ (q : Packet). q.number == number) s.links.packets p g.whole.flying here m whole))
    ((all_found (Posted h s.moments s.links.next) (λ (q : Packet). q.number == number) s.links.packets p (seizing_at h cells s size r).carried here).says m whole).2 own
