-- A node that readies itself for its command brings no packet: what arrived in the event is as before.
use Rattle.std.specs.Prelude.{ℕ, ◌≡◌, List, [], ◌∷◌, Option, None, Some}
use Rattle.std.proofs.Common.{refl, ◌∙◌}
use Rattle.cl_base.specs.declared.method.Outcome as method
use Rattle.cl_base.specs.declared.packet.DropCause.{DropCause}
use Rattle.cmm_attempt.proofs.Basics.{if_either}
use Rattle.interconnect.specs.Links as net
use Rattle.interconnect.specs.Links.{sending}
use Rattle.status_report.specs.declared.entry.Entry.{Entry}
use Rattle.status_report.specs.declared.entry.Entry.TheVariants as entry
use Rattle.status_report.specs.declared.packet_entry.PacketEntry.TheVariants as packet
use Rattle.wire.specs.Spelling.{spelling}
use Rattle.wire.specs.declared.message.Message.{Message}
use Rattle.history.specs.Letters.{arrived}
use Rattle.node_model.specs.declared.cluster.Cluster.{Cluster}
use Rattle.node_model.specs.declared.input.Input.TheVariants as input
use Rattle.node_model.specs.declared.node.Node.{Node}
use Rattle.node_model.specs.declared.node.Node.TheVariants.{Down, Up}
use Rattle.node_model.specs.declared.output.Output.{Output}
use Rattle.node_model.specs.declared.output.Output.TheVariants.{Sends, Tells}
use Rattle.refinement.specs.Runs.{moved}
use Rattle.refinement.specs.Runs.Move.{Takes}
use Rattle.world_model.specs.Sends.{is_sent, name_of}
use Rattle.run_history.specs.CommandLines.{AllQuiet, IsQuiet, NodeTells}
use Rattle.run_history.specs.Happenings.{given_by, taking}
use Rattle.run_history.specs.Scenes.{Scene, dropped_so, passing, posting, sent_as, telling, with_links}
use Rattle.run_history.proofs.LineSteps.{commands_are_told}

told_here : (e : Entry) (s : Scene) → IsQuiet e → arrived (telling e s).moments ≡ arrived s.moments
told_here (entry.Packet e) s q = absurd q
told_here (entry.Answered e) s q = refl
told_here entry.Powered s q = refl
told_here (entry.Node n e) s q = refl
told_here (entry.Device e) s q = refl
told_here (entry.Attempt e) s q = refl
told_here (entry.Start e) s q = refl
told_here (entry.Update e) s q = refl
told_here (entry.Schedule e) s q = refl
told_here (entry.Command e) s q = refl
told_here (entry.Call e) s q = refl
told_here (entry.Status e) s q = refl
told_here (entry.Address e) s q = refl

dropped_here : (o : Option (ℕ × DropCause)) (s : Scene) → arrived (dropped_so o s).moments ≡ arrived s.moments
dropped_here None s = refl
dropped_here (Some x) s = refl

posted_here : (from to : ℕ) (m : Message) (s : Scene) → arrived (posting from to m s).moments ≡ arrived s.moments
posted_here from to m s =
    let o : net.Outcome = sending s.links from to (spelling m) in
    if_either (λ (t : Scene). arrived t.moments ≡ arrived s.moments) (is_sent s.links m) (sent_as from to m o s) s
    (dropped_here o.sent.dropped (telling (entry.Packet (packet.Sent s.links.next from to (name_of m.body) (spelling m))) (with_links s o.after))) refl

pub passing_here : (n : ℕ) (os : List Output) (s : Scene) → AllQuiet os → arrived (passing n os s).moments ≡ arrived s.moments
passing_here n [] s q = refl
passing_here n (Tells e ∷ os) s q = passing_here n os (telling e s) q.1 ∙ told_here e s q.0
passing_here n (Sends to b ∷ os) s q =
    passing_here n os (posting n to (record { sender = n; body = b }) s) q.1 ∙ posted_here n to (record { sender = n; body = b }) s

readied_quiet : (n : ℕ) (node : Node) (os : List Output) → NodeTells n node input.CommandDue os → AllQuiet os
readied_quiet n Down os q = q
readied_quiet n (Up x) os q = q

pub readied_apart : (c : Cluster) (n now : ℕ) (ends : method.Outcome) (s : Scene) → arrived s.moments ≡ None
    → arrived (taking c n now ends input.CommandDue s).moments ≡ None
readied_apart c n now ends s apart =
    passing_here n (given_by c n now ends input.CommandDue s.nodes) (record s { nodes = moved c s.nodes (Takes n now ends input.CommandDue) })
    (readied_quiet n (s.nodes.node n) (given_by c n now ends input.CommandDue s.nodes) (commands_are_told c n now ends (s.nodes.node n) (s.nodes.disk n) input.CommandDue))
    ∙ apart
