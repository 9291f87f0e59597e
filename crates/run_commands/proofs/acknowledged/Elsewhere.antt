-- A node sits down in another node's attempt only: its own has started with itself.
use Rattle.std.specs.Prelude.{ℕ, ◌≡◌, ◌≢◌, ◌<◌, true, false, None, Some}
use Rattle.std.proofs.Common.{sym, ap, subst, ◌∙◌}
use Rattle.cmm_member.specs.Nodes.{NodeState}
use Rattle.cmm_member.specs.Records.{NodeRecord}
use Rattle.machine_base.specs.Epochs.{coordinator as machine_coordinator}
use Rattle.membership_machine.specs.Invariant.{Holds}
use Rattle.membership_machine.specs.State.{Memberships}
use Rattle.wire.specs.declared.message.Body.TheVariants as body
use Rattle.history.specs.Setting.{coordinator}
use Rattle.node_model.specs.declared.cluster.Cluster.{Cluster}
use Rattle.node_model.specs.declared.node.Node.TheVariants.{Up}
use Rattle.node_model.specs.declared.node.UpNode.{UpNode}
use Rattle.node_model.specs.declared.seat.Seat.TheVariants.{Forming}
use Rattle.refinement.specs.Doings.{Change}
use Rattle.refinement.specs.Doings.Change.{Acks, Admits, Commits, Counts, Distrusts, Installs, Leads, Prepares, Promises, Proposes, Sits, Starts}
use Rattle.refinement.specs.Guards.{MayChange, Says}
use Rattle.refinement.specs.Ties.{Delivered, Known, MessageTold, NodeTied, SeatTied, setting_of}
use Rattle.run_commands.proofs.acknowledged.Own.{Elsewhere}

sits_elsewhere : (c : Cluster) (M : Memberships) (me : ℕ) (told : Delivered) (x : UpNode) (disk : NodeRecord) (s : NodeState) (e : ℕ) → Holds (setting_of c) M → Known M told → NodeTied c M me disk (Up x)
    → MayChange c me told x (Sits s e) → coordinator e ≢ me
unfolding machine_coordinator
sits_elsewhere c M me told x disk s e holds known tied may own = by told known may.1
  where
    forms : SeatTied c M me disk x.attempt (Forming s)
    forms = subst (SeatTied c M me disk x.attempt) may.0 tied.0

    here : (M.node me).session ≡ e
    here = forms.0.session ∙ may.2

    no_both : false ≡ true → ⊥
    no_both z = cc

    started : (M.epoch e).started ≡ true → ⊥
    started so =
        no_both (sym forms.0.member
        ∙ (holds.leads me).sits (subst (λ k. 0 < k) (sym here) ((holds.epoch e).tried_positive ((holds.epoch e).counted_tried ((holds.epoch e).started_counted so)))) (ap coordinator here ∙ own)
        (ap (λ k. (M.epoch k).started) here ∙ so))

    by : (d : Delivered) → Known M d → Says (λ b. b ≡ body.Start e) d → ⊥
    by None k says = says
    by (Some d) k says = started (subst (MessageTold M d.0) says k)

pub elsewhere : (c : Cluster) (M : Memberships) (me : ℕ) (told : Delivered) (x : UpNode) (disk : NodeRecord) (change : Change) → Holds (setting_of c) M → Known M told → NodeTied c M me disk (Up x) → MayChange c me told x change
    → Elsewhere me change
elsewhere c M me told x disk (Sits s e) holds known tied may = sits_elsewhere c M me told x disk s e holds known tied may
elsewhere c M me told x disk (Promises p) holds known tied may = tt
elsewhere c M me told x disk (Leads p members) holds known tied may = tt
elsewhere c M me told x disk (Counts a k s i) holds known tied may = tt
elsewhere c M me told x disk (Installs s i) holds known tied may = tt
elsewhere c M me told x disk (Starts a k s) holds known tied may = tt
elsewhere c M me told x disk (Distrusts d) holds known tied may = tt
elsewhere c M me told x disk (Admits at command a d) holds known tied may = tt
elsewhere c M me told x disk (Proposes s p text) holds known tied may = tt
elsewhere c M me told x disk (Acks s p q left text) holds known tied may = tt
elsewhere c M me told x disk (Prepares s text) holds known tied may = tt
elsewhere c M me told x disk (Commits s) holds known tied may = tt
