-- What each node keeps, and what was sent, of texts: requests that can be read, and answers of presidents.
use Rattle.std.specs.Prelude.{ℕ, List}
use Rattle.std.specs.List.{AllByRecursion}
use Rattle.cl_base.specs.declared.header.Version.{Version}
use Rattle.node_model.specs.Seats.{version_of}
use Rattle.node_model.specs.declared.cluster.Cluster.{Cluster}
use Rattle.node_model.specs.declared.node.Node.{Node}
use Rattle.node_model.specs.declared.node.Node.TheVariants.{Down, Up}
use Rattle.node_model.specs.declared.node.UpNode.{UpNode}
use Rattle.node_model.specs.declared.output.Output.{Output}
use Rattle.node_model.specs.declared.output.Output.TheVariants.{Sends, Tells}
use Rattle.refinement.specs.Courses.{Course}
use Rattle.refinement.specs.Courses.Course.{Acts, Falls, Keeps, Stops}
use Rattle.refinement.specs.Doings.{Act, Change, acted, changed, said}
use Rattle.refinement.specs.Runs.{Letter, Nodes}
use Rattle.run_commands.specs.Reads.{IsPresidents, IsRead, ReadsIn}
use Rattle.wire.specs.declared.message.Body.{Body}
use Rattle.wire.specs.declared.message.Body.TheVariants as body

-- the text of a Request is read as a request, and that of an Answer as no answer but a president's
abbrev pub BodyTexts : Version → Body → Type 0
BodyTexts v (body.Request e q text) = IsRead v text
BodyTexts v (body.Answer e q text) = IsPresidents text
BodyTexts v _ = Unit {0}

abbrev pub OutputTexts : Version → Output → Type 0
OutputTexts v (Tells e) = Unit {0}
OutputTexts v (Sends to b) = BodyTexts v b

abbrev pub AllTexts : Version → List Output → Type 0
AllTexts v os = AllByRecursion (OutputTexts v) os

abbrev pub LetterTexts : Version → Letter → Type 0
LetterTexts v l = BodyTexts v l.body

-- what a node keeps is read
abbrev pub NodeReads : Version → Node → Type 0
NodeReads v Down = Unit {0}
NodeReads v (Up x) = ReadsIn v x

-- what each node keeps is read, and so is all that was ever sent
pub record RunTexts (v : Version) (w : Nodes) : Type 0 where
  pub nodes : (k : ℕ) → NodeReads v (w.node k)
  pub sent : AllByRecursion (LetterTexts v) w.sent

-- ---- in a step

abbrev pub ActTexts : Cluster → ℕ → UpNode → Act → Type 0
ActTexts c n x a = ReadsIn (version_of c) x → ReadsIn (version_of c) (acted c n x a) × AllTexts (version_of c) (said c n x a)

abbrev pub ChangeTexts : Cluster → ℕ → UpNode → Change → Type 0
ChangeTexts c n x change = ReadsIn (version_of c) x → ReadsIn (version_of c) (changed c n x change)

-- so a course goes
abbrev pub GoesTexts : Cluster → ℕ → UpNode → Course → Type 0
GoesTexts c n x Stops = Unit {0}
GoesTexts c n x (Acts a rest) = ActTexts c n x a × GoesTexts c n (acted c n x a) rest
GoesTexts c n x (Keeps change rest) = ChangeTexts c n x change × GoesTexts c n (changed c n x change) rest
GoesTexts c n x (Falls why) = Unit {0}

-- after small steps: the node, and what was given
pub record LeavesTexts (v : Version) (node : Node) (os : List Output) : Type 0 where
  pub reads : NodeReads v node
  pub texts : AllTexts v os
