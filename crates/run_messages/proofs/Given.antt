-- What a node gives in a step: no packet lines, and messages that keep their widths.
use Rattle.std.specs.Prelude.{ℕ, ◌++◌, List, [], ◌∷◌, Option, None, Some}
use Rattle.std.proofs.Common.{sym, subst}
use Rattle.std.specs.List.{AllByRecursion}
use Rattle.cl_base.specs.declared.method.Outcome as method
use Rattle.node_model.specs.declared.cluster.Cluster.{Cluster}
use Rattle.node_model.specs.declared.input.Input.{Input}
use Rattle.node_model.specs.declared.input.Input.TheVariants as input
use Rattle.node_model.specs.declared.node.Node.{Node}
use Rattle.node_model.specs.declared.node.Node.TheVariants.{Down, Up}
use Rattle.node_model.specs.declared.node.UpNode.{UpNode}
use Rattle.node_model.specs.declared.output.Output.{Output}
use Rattle.node_model.specs.declared.output.Output.TheVariants.{Sends, Tells}
use Rattle.pgr_device.specs.declared.command.PrCommand.{PrCommand}
use Rattle.pgr_device.specs.declared.command.PrCommand.TheVariants as command
use Rattle.refinement.specs.Runs.{Letter, Nodes, letters_of}
use Rattle.refinement.specs.Widths.{LetterFits}
use Rattle.run_history.specs.CommandLines.{AllQuiet, CommandFirst, IsQuiet, NodeTells, TellsDue, UpTells}
use Rattle.run_history.specs.Happenings.{given_by}
use Rattle.run_history.proofs.LineSteps.{commands_are_told}
use Rattle.seize.specs.Answers.{Answer}
use Rattle.status_report.specs.declared.entry.Entry.{Entry}
use Rattle.status_report.specs.declared.entry.Entry.TheVariants as entry
use Rattle.world_model.specs.Devices.{due_of}
use Rattle.run_messages.specs.Outputs.{AreGood, NoPacket}

abbrev NoPacketOutput : Output → Type 0
NoPacketOutput (Tells e) = NoPacket e
NoPacketOutput (Sends to b) = Unit {0}

quiet_entry : (e : Entry) → IsQuiet e → NoPacket e
quiet_entry (entry.Packet e) q = absurd q
quiet_entry _ q = tt

quiet_outputs : (os : List Output) → AllQuiet os → AllByRecursion NoPacketOutput os
quiet_outputs [] h = tt
quiet_outputs (Tells e ∷ os) h = (quiet_entry e h.0, quiet_outputs os h.1)
quiet_outputs (Sends to b ∷ os) h = (tt, quiet_outputs os h.1)

command_outputs : (n d : ℕ) (k : PrCommand) (a : Answer) (os : List Output) → CommandFirst n d k a os → AllByRecursion NoPacketOutput os
command_outputs n d k a os h = subst (AllByRecursion NoPacketOutput) (sym h.first) (tt, quiet_outputs h.others h.quiet)

due_outputs : (n : ℕ) (a : Answer) (o : Option (ℕ × PrCommand)) (os : List Output) → TellsDue n a o os → AllByRecursion NoPacketOutput os
due_outputs n a None os h = quiet_outputs os h
due_outputs n a (Some due) os h = command_outputs n due.0 due.1 a os h

up_outputs : (n : ℕ) (x : UpNode) (i : Input) (os : List Output) → UpTells n x i os → AllByRecursion NoPacketOutput os
up_outputs n x (input.Answered a) os h = due_outputs n a (due_of x) os h
up_outputs n x (input.Wrote d value a) os h = command_outputs n d (command.Write value) a os h
up_outputs n x _ os h = quiet_outputs os h

node_outputs : (n : ℕ) (node : Node) (i : Input) (os : List Output) → NodeTells n node i os → AllByRecursion NoPacketOutput os
node_outputs n Down i os h = quiet_outputs os h
node_outputs n (Up x) i os h = up_outputs n x i os h

good_outputs : (n : ℕ) (os : List Output) (old : List Letter) → AllByRecursion NoPacketOutput os → AllByRecursion LetterFits (letters_of n os ++ old) → AreGood n os
good_outputs n [] old h k = tt
good_outputs n (Tells e ∷ os) old h k = (h.0, good_outputs n os old h.1 k)
good_outputs n (Sends to b ∷ os) old h k = (k.0, good_outputs n os old h.1 k.1)

-- where all that was sent in the end keeps its widths
pub given_good : (c : Cluster) (n now : ℕ) (ends : method.Outcome) (i : Input) (v : Nodes) → AllByRecursion LetterFits (letters_of n (given_by c n now ends i v) ++ v.sent) → AreGood n (given_by c n now ends i v)
given_good c n now ends i v fits =
    good_outputs n (given_by c n now ends i v) v.sent (node_outputs n (v.node n) i (given_by c n now ends i v) (commands_are_told c n now ends (v.node n) (v.disk n) i)) fits
