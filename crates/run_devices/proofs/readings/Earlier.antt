-- Before a small step attempts differ too, and the record is no newer.
use Rattle.std.specs.Prelude.{List, None, Option, Some, [], ℕ, ◌∷◌, ◌≡◌, ◌≤◌}
use Rattle.std.proofs.Common.{ap, subst, sym, ◌∙◌}
use Rattle.cl_base.specs.declared.packet.DropCause.{DropCause}
use Rattle.cmm_attempt.proofs.Basics.{if_either}
use Rattle.cmm_member.specs.Records.{NodeRecord}
use Rattle.history.specs.Contact.{AttemptsDiffer}
use Rattle.interconnect.specs.Links.{sending}
use Rattle.interconnect.specs.Links as links
use Rattle.membership_machine.specs.Growth.{Grows}
use Rattle.membership_machine.specs.State.{Memberships}
use Rattle.node_model.specs.Seats.{state_of}
use Rattle.node_model.specs.declared.cluster.Cluster.{Cluster}
use Rattle.node_model.specs.declared.node.Node.{Node}
use Rattle.node_model.specs.declared.node.Node.TheVariants.{Down, Up}
use Rattle.node_model.specs.declared.output.Output.{Output}
use Rattle.node_model.specs.declared.output.Output.TheVariants.{Sends, Tells}
use Rattle.refinement.proofs.Changes.{Sees, sees}
use Rattle.refinement.specs.Doings.{Site}
use Rattle.refinement.specs.Ties.{NodeTied, SiteTied}
use Rattle.run_history.specs.Scenes.{Scene, dropped_so, passing, posting, sent_as, telling}
use Rattle.wire.specs.Spelling.{spelling}
use Rattle.wire.specs.declared.message.Message.{Message}
use Rattle.world_model.specs.Sends.{is_sent}

-- ---- attempts differ before, too

differ_dropped : (o : Option (ℕ × DropCause)) (s : Scene) → AttemptsDiffer (dropped_so o s).moments → AttemptsDiffer s.moments
differ_dropped None s k = k
differ_dropped (Some drop) s k = k.1

differ_posted : (n to : ℕ) (m : Message) (s : Scene) → AttemptsDiffer (posting n to m s).moments → AttemptsDiffer s.moments
differ_posted n to m s =
    let o : links.Outcome = sending s.links n to (spelling m) in
    if_either (λ (t : Scene). AttemptsDiffer t.moments → AttemptsDiffer s.moments) (is_sent s.links m) (sent_as n to m o s) s
    (λ k. (differ_dropped o.sent.dropped _ k).1) (λ k. k)

pub differ_before : (n : ℕ) (os : List Output) (s : Scene) → AttemptsDiffer (passing n os s).moments → AttemptsDiffer s.moments
differ_before n [] s k = k
differ_before n (Tells e ∷ os) s k = (differ_before n os (telling e s) k).1
differ_before n (Sends to b ∷ os) s k =
    differ_posted n to (record { sender = n; body = b }) s (differ_before n os (posting n to (record { sender = n; body = b }) s) k)

-- ---- a record is no older than the one before

promised_tied : (c : Cluster) (M : Memberships) (n : ℕ) (x : Site) → SiteTied c M n x → (M.node n).promised ≡ x.disk.promised
promised_tied c M n x tied = by_node x.node tied
  where
    by_node : (node : Node) → NodeTied c M n x.disk node → (M.node n).promised ≡ x.disk.promised
    by_node Down t = t.0.promised
    by_node (Up y) t = let k : Sees M n x.disk (state_of y.seat) = sees c M n x.disk y.attempt y.seat t.0 in k.promised
        ∙ ap (λ (r : NodeRecord). r.promised) (sym k.disk_so)

pub rises_so : (c : Cluster) (M N : Memberships) (n : ℕ) (x y : Site) → SiteTied c M n x → SiteTied c N n y → Grows M N → x.disk.promised ≤ y.disk.promised
rises_so c M N n x y before after grows =
    subst (λ k. k ≤ y.disk.promised) (promised_tied c M n x before) (subst (λ k. (M.node n).promised ≤ k) (promised_tied c N n y after) (grows.node n).promised)
