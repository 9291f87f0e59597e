-- What a node gives leaves the event that is under way.
use Rattle.std.specs.Prelude.{ℕ, ◌≡◌, List, [], ◌∷◌, Option, None, Some}
use Rattle.std.proofs.Common.{refl, ◌∙◌}
use Rattle.cl_base.specs.declared.method.Outcome as method
use Rattle.cl_base.specs.declared.packet.DropCause.{DropCause}
use Rattle.cmm_attempt.proofs.Basics.{if_either}
use Rattle.interconnect.specs.Links as net
use Rattle.interconnect.specs.Links.{sending}
use Rattle.status_report.specs.declared.entry.Entry.TheVariants as entry
use Rattle.status_report.specs.declared.packet_entry.PacketEntry.TheVariants as packet
use Rattle.wire.specs.Spelling.{spelling}
use Rattle.wire.specs.declared.message.Message.{Message}
use Rattle.history.specs.Order.{under_way}
use Rattle.node_model.specs.declared.cluster.Cluster.{Cluster}
use Rattle.node_model.specs.declared.input.Input.{Input}
use Rattle.node_model.specs.declared.output.Output.{Output}
use Rattle.node_model.specs.declared.output.Output.TheVariants.{Sends, Tells}
use Rattle.refinement.specs.Runs.{moved}
use Rattle.refinement.specs.Runs.Move.{Takes}
use Rattle.world_model.specs.Sends.{is_sent, name_of}
use Rattle.run_history.specs.Happenings.{given_by, taking}
use Rattle.run_history.specs.Scenes.{Scene, dropped_so, passing, posting, sent_as, telling, with_links}

dropped_under : (o : Option (ℕ × DropCause)) (s : Scene) → under_way (dropped_so o s).moments ≡ under_way s.moments
dropped_under None s = refl
dropped_under (Some x) s = refl

posted_under : (from to : ℕ) (m : Message) (s : Scene) → under_way (posting from to m s).moments ≡ under_way s.moments
posted_under from to m s =
    let o : net.Outcome = sending s.links from to (spelling m) in
    if_either (λ (t : Scene). under_way t.moments ≡ under_way s.moments) (is_sent s.links m) (sent_as from to m o s) s
    (dropped_under o.sent.dropped (telling (entry.Packet (packet.Sent s.links.next from to (name_of m.body) (spelling m))) (with_links s o.after))) refl

pub passing_under : (n : ℕ) (os : List Output) (s : Scene) → under_way (passing n os s).moments ≡ under_way s.moments
passing_under n [] s = refl
passing_under n (Tells e ∷ os) s = passing_under n os (telling e s)
passing_under n (Sends to b ∷ os) s =
    passing_under n os (posting n to (record { sender = n; body = b }) s) ∙ posted_under n to (record { sender = n; body = b }) s

pub taking_under : (c : Cluster) (n now : ℕ) (ends : method.Outcome) (i : Input) (s : Scene) → under_way (taking c n now ends i s).moments ≡ under_way s.moments
taking_under c n now ends i s = passing_under n (given_by c n now ends i s.nodes) (record s { nodes = moved c s.nodes (Takes n now ends i) })
