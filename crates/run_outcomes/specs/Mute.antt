-- Courses in which nobody is asked to seize a device, and what holds at the end of a course of the node and of what was counted along it.
use Rattle.std.specs.Prelude.{ℕ, ◌++◌, List}
use Rattle.std.specs.List.{AllByRecursion}
use Rattle.node_model.specs.declared.cluster.Cluster.{Cluster}
use Rattle.node_model.specs.declared.node.UpNode.{UpNode}
use Rattle.node_model.specs.declared.output.Output.{Output}
use Rattle.node_model.specs.declared.output.Output.TheVariants.{Sends, Tells}
use Rattle.refinement.specs.Courses.{Course}
use Rattle.refinement.specs.Courses.Course.{Acts, Falls, Keeps, Stops}
use Rattle.refinement.specs.Doings.{Act, acted, changed, first_lines, said, saved_lines}
use Rattle.refinement.specs.Doings.Act.{Gives, Spreads, Writes}
use Rattle.status_report.specs.declared.attempt_entry.AttemptEntry.TheVariants as attempt_entry
use Rattle.status_report.specs.declared.entry.Entry.TheVariants as entry
use Rattle.wire.specs.declared.message.Body.{Body}
use Rattle.wire.specs.declared.message.Body.TheVariants as body

-- ---- what asks nobody to seize

abbrev pub IsNoAsk : Body → Type 0
IsNoAsk (body.SeizeQuorum e members d) = ⊥
IsNoAsk (body.SeizeData e members d) = ⊥
IsNoAsk _ = Unit {0}

-- .. and begins no attempt
abbrev pub AsksNone : Output → Type 0
AsksNone (Tells (entry.Attempt (attempt_entry.Begun f members))) = ⊥
AsksNone (Tells e) = Unit {0}
AsksNone (Sends to b) = IsNoAsk b

abbrev pub AskNone : List Output → Type 0
AskNone os = AllByRecursion AsksNone os

abbrev pub MuteAct : Act → Type 0
MuteAct (Writes to b) = IsNoAsk b
MuteAct (Spreads receivers b) = IsNoAsk b
MuteAct _ = Unit {0}

abbrev pub Mute : Course → Type 0
Mute Stops = Unit {0}
Mute (Acts a rest) = MuteAct a × Mute rest
Mute (Keeps change rest) = Mute rest
Mute (Falls why) = Unit {0}

-- what is given beside asks nobody
abbrev pub PlainAct : Act → Type 0
PlainAct (Gives os) = AskNone os
PlainAct _ = Unit {0}

abbrev pub GivesPlainly : Course → Type 0
GivesPlainly Stops = Unit {0}
GivesPlainly (Acts a rest) = PlainAct a × GivesPlainly rest
GivesPlainly (Keeps change rest) = GivesPlainly rest
GivesPlainly (Falls why) = Unit {0}

-- ---- what is counted along a course

-- where the node is up at the end of the course, this holds of it, and of what was counted by then
abbrev pub GoesTo : {T : Type 0} → (T → List Output → T) → Cluster → ℕ → (UpNode → T → Type 0) → UpNode → T → Course → Type 0
GoesTo count c me J x g Stops = J x g
GoesTo count c me J x g (Acts a rest) = GoesTo count c me J (acted c me x a) (count g (said c me x a)) rest
GoesTo count c me J x g (Keeps change rest) = GoesTo count c me J (changed c me x change) (count g (first_lines me change ++ saved_lines c me x change)) rest
GoesTo count c me J x g (Falls why) = Unit {0}
