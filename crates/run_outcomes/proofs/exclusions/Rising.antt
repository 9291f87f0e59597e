-- What a node installs is greater than what it has installed.
use Rattle.std.specs.Prelude.{ℕ, ◌<◌, ◌≤◌, ◌≡◌, ◌≢◌, true}
use Rattle.std.proofs.Common.{arith, sym, ap, subst, ◌∙◌}
use Rattle.attempt_laws.proofs.Goes.{Goes as GoesBy, chosen_reached, goes_by_call}
use Rattle.attempt_laws.proofs.Stays.{plan_stays}
use Rattle.cmm_attempt.specs.Attempts.{AttemptState, install_in}
use Rattle.cmm_attempt.specs.Calls.{Call, turn}
use Rattle.cmm_attempt.specs.declared.plan.Plan.{Plan}
use Rattle.cmm_member.specs.Nodes.{NodeState}
use Rattle.cmm_member.specs.Records.{NodeRecord}
use Rattle.membership_machine.specs.Invariant.{Holds}
use Rattle.membership_machine.specs.State.{Memberships}
use Rattle.node_model.specs.Seats.{state_of}
use Rattle.node_model.specs.declared.cluster.Cluster.{Cluster}
use Rattle.node_model.specs.declared.node.Node.TheVariants.{Up}
use Rattle.node_model.specs.declared.node.UpNode.{UpNode}
use Rattle.node_model.specs.declared.seat.Seat.{Seat}
use Rattle.refinement.proofs.Attempts.{install_epoch, may_be_called}
use Rattle.refinement.proofs.Changes.{Sees, sees}
use Rattle.refinement.proofs.Installs.{seeks_before}
use Rattle.refinement.specs.Doings.Change.{Counts, Installs}
use Rattle.refinement.specs.Guards.{MayChange}
use Rattle.refinement.specs.Ties.{Delivered, NodeTied, setting_of}
use Rattle.wire.specs.declared.message.Install.{Install}
use Rattle.run_outcomes.proofs.counts.Ended.{Tied, tied_of}
use Rattle.run_outcomes.proofs.exclusions.Excluded.{tied_installed}

-- what its attempt installs
pub below_counted : (c : Cluster) (M : Memberships) (n : ℕ) (told : Delivered) (x : UpNode) (disk : NodeRecord) (a : AttemptState) (k : Call) (s : NodeState) (i : Install) → Holds (setting_of c) M → NodeTied c M n disk (Up x) → MayChange c n told x (Counts a k s i)
    → disk.installed < i.epoch
below_counted c M n told x disk a k s i holds tied may =
    let t : Tied c M n a = tied_of c M n disk x a tied may.0 in
    let after : AttemptState = (turn a k).after in
    let goes : GoesBy a.phase (turn a k) = goes_by_call a k (may_be_called c told a k may.2) (chosen_reached a t.co.reached) in
    let same : i ≡ install_in after = (goes.install i may.3).1 in
    let plan : after.plan ≡ a.plan = plan_stays a k (may_be_called c told a k may.2) in
    let epoch : i.epoch ≡ a.plan.epoch = ap (λ (j : Install). j.epoch) same ∙ (install_epoch after ∙ ap (λ (p : Plan). p.epoch) plan) in
    let seeks : (M.node n).seeking ≡ true = seeks_before (M.node n).seeking a.phase (goes.before i may.3) t.co.seeks in
    let number : (M.node n).promised ≡ i.epoch = sym ((holds.node n).seeking_session seeks) ∙ (t.session ∙ (sym t.co.epoch ∙ sym epoch)) in
    subst (λ q. q < i.epoch) (sym (tied_installed c M n disk (Up x) tied)) (subst (λ q. (M.node n).saved.installed < q) number ((holds.node n).seeking_installs seeks))

-- what another's installs
pub below_installed : (c : Cluster) (M : Memberships) (n : ℕ) (told : Delivered) (x : UpNode) (disk : NodeRecord) (s : NodeState) (i : Install) → Holds (setting_of c) M → NodeTied c M n disk (Up x) → MayChange c n told x (Installs s i) → disk.installed < i.epoch
below_installed c M n told x disk s i holds tied may =
    let e : Sees M n disk (state_of x.seat) = sees c M n disk x.attempt x.seat tied.0 in
    let session : (M.node n).session ≡ i.epoch = e.session ∙ (ap (λ (z : Seat). (state_of z).session) may.0 ∙ may.3) in
    let promised : (M.node n).promised ≡ i.epoch = sym ((holds.node n).session (subst (λ q. 0 < q) (sym session) may.2)) ∙ session in
    let disk_so : disk.installed ≡ s.saved.installed = ap (λ (r : NodeRecord). r.installed) e.disk_so ∙ ap (λ (z : Seat). (state_of z).saved.installed) may.0 in
    less disk.installed i.epoch (subst (λ q. q ≤ i.epoch) (sym (tied_installed c M n disk (Up x) tied)) (subst (λ q. (M.node n).saved.installed ≤ q) promised (holds.node n).installed)) (λ same. may.4 (sym disk_so ∙ same))
  where
    less : (a b : ℕ) → a ≤ b → a ≢ b → a < b
    less a b h k = grind (arith, h, k)
