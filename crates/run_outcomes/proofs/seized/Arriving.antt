-- A Seized that comes to a node: its attempt takes it, where it has one.
use Rattle.std.specs.Prelude.{ℕ, ◌≡◌, false, if◌then◌else◌, [], Option, None, Some}
use Rattle.std.proofs.Common.{refl, sym, subst, ◌∙◌}
use Rattle.cl_base.specs.Seizings.{SeizeResult}
use Rattle.cl_base.specs.declared.method.Outcome as method
use Rattle.cmm_attempt.proofs.Basics.{false_true}
use Rattle.cmm_attempt.specs.Attempts.{AttemptState}
use Rattle.cmm_attempt.specs.Calls.{Take, turn}
use Rattle.node_model.specs.Members.{hearing, is_foreign}
use Rattle.node_model.specs.Steps.{Outcome, at_second, stepped}
use Rattle.node_model.specs.declared.cluster.Cluster.{Cluster}
use Rattle.node_model.specs.declared.input.Input.{Input}
use Rattle.node_model.specs.declared.input.Input.TheVariants.{Packet}
use Rattle.node_model.specs.declared.node.Node.TheVariants.{Up}
use Rattle.node_model.specs.declared.node.UpNode.{UpNode}
use Rattle.record_disk.specs.Disks.{DiskState, saving}
use Rattle.refinement.proofs.Cuts.{step_of_node_is_its_course}
use Rattle.refinement.specs.Courses.Course.{Acts, Stops}
use Rattle.refinement.specs.Cuts as cuts
use Rattle.refinement.specs.Cuts.{course_at}
use Rattle.refinement.specs.Doings.Act.{Hears}
use Rattle.refinement.specs.Steps.{disk_rules}
use Rattle.wire.specs.declared.message.Body.{Body}
use Rattle.wire.specs.declared.message.Body.TheVariants as body
use Rattle.wire.specs.declared.message.Message.{Message}
use Rattle.run_downs.proofs.Courses.{by_test}
use Rattle.run_outcomes.specs.saves.Courses.{LeadsTo}
use Rattle.run_outcomes.specs.saves.Kept.{IsAt}
use Rattle.run_outcomes.proofs.phases.Leading.{Has, IsLed, going_leads}
use Rattle.run_outcomes.proofs.phases.Steps.{carried_leads}

-- ---- the course of the packet

answer_leads : (I : AttemptState → Type 0) (c : Cluster) (me : ℕ) (x : UpNode) (from : ℕ) (m : Message) (a : AttemptState) (o : Option AttemptState) → IsLed I → o ≡ Some a → I (turn a (Take from m)).after
    → LeadsTo c me (Has I) x (cuts.answer_course c me x from m o)
answer_leads I c me x from m a o keeps is h = subst (λ z. LeadsTo c me (Has I) x (cuts.answer_course c me x from m z)) (sym is) (going_leads I c me x a (Take from m) keeps h)

-- no attempt, if there is none
abbrev pub IsIdle : UpNode → Type 0
IsIdle x = x.attempt ≡ None

answer_idle : (c : Cluster) (me : ℕ) (x : UpNode) (from : ℕ) (m : Message) (o : Option AttemptState) → o ≡ None → x.attempt ≡ None → LeadsTo c me IsIdle x (cuts.answer_course c me x from m o)
answer_idle c me x from m o is none = subst (λ z. LeadsTo c me IsIdle x (cuts.answer_course c me x from m z)) (sym is) none

packet_leads : (P : UpNode → Type 0) (c : Cluster) (me : ℕ) (ends : method.Outcome) (x : UpNode) (from : ℕ) (m : Message) (b : Body) (e d : ℕ) (r : SeizeResult) → m.body ≡ b → b ≡ body.Seized e d r
    → is_foreign c me x b ≡ false → LeadsTo c me P (hearing x from b) (cuts.answer_course c me (hearing x from b) from m (hearing x from b).attempt)
    → LeadsTo c me P x (cuts.packet_course c me ends x from m)
packet_leads P c me ends x from m b e d r at is native h =
    subst (λ z. LeadsTo c me P x (if is_foreign c me x z then Stops else Acts (Hears from z) (cuts.body_course c me ends (hearing x from z) from m z))) (sym at)
    (by_test (LeadsTo c me P x) (is_foreign c me x b) Stops (Acts (Hears from b) (cuts.body_course c me ends (hearing x from b) from m b)) (λ foreign. absurd (false_true (sym native ∙ foreign)))
    (λ none. subst (λ z. LeadsTo c me P (hearing x from b) (cuts.body_course c me ends (hearing x from b) from m z)) (sym is) h))

-- ---- a step

same_foreign : (c : Cluster) (me now : ℕ) (x : UpNode) (b : Body) → is_foreign c me (at_second now x) b ≡ is_foreign c me x b
same_foreign c me now x _ = refl

step_leads : (P : UpNode → Type 0) (c : Cluster) (n now : ℕ) (ends : method.Outcome) (x : UpNode) (disk : DiskState) (i : Input) → LeadsTo c n P (at_second now x) (course_at c n now ends x i)
    → IsAt P (stepped disk_rules c n now ends (Up x) disk i).after
step_leads P c n now ends x disk i h =
    subst (λ (o : Outcome DiskState). IsAt P o.after) (sym ((step_of_node_is_its_course saving c n now ends x i).is [] disk)) (carried_leads c n P x (course_at c n now ends x i) [] disk h)

pub step_takes : (I : AttemptState → Type 0) (c : Cluster) (n now : ℕ) (ends : method.Outcome) (x : UpNode) (a : AttemptState) (disk : DiskState) (from : ℕ) (m : Message) (e d : ℕ) (r : SeizeResult) → IsLed I
    → x.attempt ≡ Some a → m.body ≡ body.Seized e d r → is_foreign c n x m.body ≡ false → I (turn a (Take from m)).after → IsAt (Has I) (stepped disk_rules c n now ends (Up x) disk (Packet from m)).after
step_takes I c n now ends x a disk from m e d r keeps has is native h =
    let y : UpNode = at_second now x in
    step_leads (Has I) c n now ends x disk (Packet from m)
    (packet_leads (Has I) c n ends y from m m.body e d r refl is (same_foreign c n now x m.body ∙ native) (answer_leads I c n (hearing y from m.body) from m a (hearing y from m.body).attempt keeps has h))

pub step_idle : (c : Cluster) (n now : ℕ) (ends : method.Outcome) (x : UpNode) (disk : DiskState) (from : ℕ) (m : Message) (e d : ℕ) (r : SeizeResult) → x.attempt ≡ None → m.body ≡ body.Seized e d r
    → is_foreign c n x m.body ≡ false → IsAt IsIdle (stepped disk_rules c n now ends (Up x) disk (Packet from m)).after
step_idle c n now ends x disk from m e d r none is native =
    let y : UpNode = at_second now x in
    step_leads IsIdle c n now ends x disk (Packet from m)
    (packet_leads IsIdle c n ends y from m m.body e d r refl is (same_foreign c n now x m.body ∙ native) (answer_idle c n (hearing y from m.body) from m (hearing y from m.body).attempt none none))
