-- Whoever seized a device for an attempt that seizes is the one that it asked last.
use Rattle.std.specs.Prelude.{ℕ, ◌≡◌, false, List, Option, None, Some}
use Rattle.std.proofs.Common.{refl, sym, ap, subst, ◌∙◌}
use Rattle.attempt_laws.specs.Asking.{AskedBy as AskedIs, EndedAs, HasEntry, HasIn, IsUnasked, entry_of}
use Rattle.attempt_laws.specs.Staying.{IsBefore}
use Rattle.cl_base.specs.declared.header.Header.{Header}
use Rattle.cluster_machine.proofs.Whole.{InOrder}
use Rattle.cluster_machine.specs.Cluster.{Cluster as Whole}
use Rattle.cluster_ties.proofs.First.{in_order}
use Rattle.cluster_ties.specs.Ties.{AttemptAt, NodeAt}
use Rattle.cmm_attempt.specs.Attempts.{AttemptState}
use Rattle.cmm_attempt.specs.declared.phase.Phase.{Phase}
use Rattle.cmm_attempt.specs.declared.phase.Phase.TheVariants.{Choosing, Collecting, Installing, Over, SeizingOthers, SeizingVotes}
use Rattle.cmm_attempt.specs.declared.seizing.Seizing.{Seizing}
use Rattle.cmm_member.specs.Records.{NodeRecord}
use Rattle.device_machine.proofs.Invariant.{Inv}
use Rattle.device_machine.specs.Sharing.{Sharing}
use Rattle.history.specs.Moment.{Moment}
use Rattle.node_model.specs.declared.cluster.Cluster.{Cluster}
use Rattle.node_model.specs.declared.node.Node.{Node}
use Rattle.node_model.specs.declared.node.Node.TheVariants.{Down, Up}
use Rattle.refinement.specs.Ties.{setting_of}
use Rattle.world_model.specs.First.{first_cluster}
use Rattle.run_history.specs.Happenings.{all_happened}
use Rattle.run_history.specs.Scenes.{Scene, first_scene}
use Rattle.run_devices.specs.valid.Engaged.{Engaged, SeizersEngaged}
use Rattle.run_devices.specs.valid.Laws.{AskedBy, AskedIn, AskedLast, SeizersAreAsked}
use Rattle.run_devices.proofs.valid.Machine.{clash, last}
use Rattle.run_devices.proofs.valid.Runs.{Comes, run_engages}

unasked : (t : Sharing) (q k : ℕ) (X : Type 0) → Engaged t k q → IsUnasked (t.attempt q) → X
unasked t q k X engaged none = absurd (clash (sym engaged.asked ∙ none.asked k))

entry_asked : (t : Sharing) (a : AttemptState) (d k : ℕ) (o : Option Seizing) → Inv t → Engaged t k a.plan.epoch → entry_of a.devices d ≡ o → HasEntry t a.plan.epoch o → AskedLast a d k
entry_asked t a d k None i engaged there has = unasked t a.plan.epoch k (AskedLast a d k) engaged has
entry_asked t a d k (Some e) i engaged there has = by_seizer e.seizer refl has
  where
    by_seizer : (o : Option ℕ) → e.seizer ≡ o → AskedIs t a.plan.epoch e o → AskedLast a d k
    by_seizer None is asked = unasked t a.plan.epoch k (AskedLast a d k) engaged asked.0
    by_seizer (Some m) is asked =
        let same : m ≡ k = sym (last t k a.plan.epoch i engaged ∙ asked.seizer) in
        record {
          entry = e;
          there = there;
          seizer = is ∙ ap Some same;
          registered = λ keys result.
              clash (sym (subst (λ o. EndedAs t a.plan.epoch m o) result asked.ended).1
              ∙ subst (λ z. (t.node z).past.unregistered a.plan.epoch ≡ false) (sym same) engaged.node.registered);
        }

attempt_asked : (t : Sharing) (a : AttemptState) (d k : ℕ) (p : Phase) → Inv t → Engaged t k a.plan.epoch → IsBefore p → HasIn t a.plan a.promises a.devices d p → AskedLast a d k
attempt_asked t a d k Collecting i engaged before has = unasked t a.plan.epoch k (AskedLast a d k) engaged has.0.unasked
attempt_asked t a d k Choosing i engaged before has = unasked t a.plan.epoch k (AskedLast a d k) engaged has.1
attempt_asked t a d k SeizingVotes i engaged before has = entry_asked t a d k (entry_of a.devices d) i engaged refl has.1
attempt_asked t a d k SeizingOthers i engaged before has = entry_asked t a d k (entry_of a.devices d) i engaged refl has.1
attempt_asked t a d k Installing i engaged before has = absurd before
attempt_asked t a d k Over i engaged before has = absurd before

by_attempt : (h : Header) (W : Whole) (ms : List Moment) (o : Option AttemptState) → ((d : ℕ) → Inv (W.device d)) → SeizersEngaged h W ms → AttemptAt W o → AskedBy h ms o
by_attempt h W ms None i engaged at = tt
by_attempt h W ms (Some a) i engaged at = λ before k d keys is. attempt_asked (W.device d) a d k a.phase (i d) (engaged k a.plan.epoch d keys is) before (at d).has

by_node : (h : Header) (c : Cluster) (W : Whole) (ms : List Moment) (n : ℕ) (disk : NodeRecord) (node : Node) → ((d : ℕ) → Inv (W.device d)) → SeizersEngaged h W ms
    → NodeAt c W n disk node → AskedIn h ms node
by_node h c W ms n disk Down i engaged at = tt
by_node h c W ms n disk (Up x) i engaged at = by_attempt h W ms x.attempt i engaged at.attempt

pub seizers_are_asked : SeizersAreAsked
seizers_are_asked h cells xs few small may n =
    let c : Cluster = first_cluster h in
    let s : Scene = all_happened c (first_scene h cells) xs in
    let z : Comes h cells s = run_engages h cells xs few small may in
    let order : InOrder (setting_of c) z.whole.machine = in_order (setting_of c) z.whole.machine z.whole.reached in
    by_node h c z.whole.machine s.moments n (s.nodes.disk n).kept (s.nodes.node n) order.device z.engaged (z.whole.sites n).at
