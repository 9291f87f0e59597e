-- What a node tells and sends, in short.
use Rattle.std.specs.Prelude.{ℕ, List, [], ◌∷◌, ◌++◌, if◌then◌else◌}
use Rattle.request_queue.specs.declared.request.Request.{Request}
use Rattle.status_report.specs.declared.command_entry.Answer.{Answer}
use Rattle.status_report.specs.declared.command_entry.Answer.TheVariants.{Unknown}
use Rattle.status_report.specs.declared.command_entry.CommandEntry.TheVariants.{Answered}
use Rattle.status_report.specs.declared.entry.Entry.{Entry}
use Rattle.status_report.specs.declared.entry.Entry.TheVariants as entry
use Rattle.status_report.specs.declared.node_entry.NodeEntry.{NodeEntry}
use Rattle.status_report.specs.declared.node_entry.NodeEntry.TheVariants.{Saved}
use Rattle.wire.specs.declared.message.Body.{Body}
use Rattle.node_model.specs.declared.node.UpNode.{UpNode}
use Rattle.node_model.specs.declared.output.Output.{Output}
use Rattle.node_model.specs.declared.output.Output.TheVariants.{Tells, Sends}
use Rattle.node_model.specs.Plans.{Plan}
use Rattle.node_model.specs.Plans.Plan.{Stays, Says, Saves}
use Rattle.node_model.specs.Seats.{record_of}

-- an entry, and then ..
abbrev pub telling : Entry → Plan → Plan
telling e rest = Says (Tells e ∷ []) rest

-- an entry of the node on itself, and then ..
abbrev pub telling_of : ℕ → NodeEntry → Plan → Plan
telling_of me e rest = telling (entry.Node me e) rest

-- a message, and then ..
abbrev pub sending : ℕ → Body → Plan → Plan
sending to body rest = Says (Sends to body ∷ []) rest

-- the node saves its record as it is now, tells it, and then ..
abbrev pub keeping : ℕ → UpNode → Plan → Plan
keeping me x rest = Saves (record_of x) (telling_of me Saved rest)

-- one message, and it stays so
abbrev pub answering : ℕ → Body → UpNode → Plan
answering to body x = sending to body (Stays x)

-- the command of this number is answered so
abbrev pub answered_line : ℕ → ℕ → Answer → Entry
answered_line me number told = entry.Command (Answered me number told)

-- .. and nothing else comes of it
abbrev pub replying : ℕ → ℕ → Answer → UpNode → Plan
replying me number told x = telling (answered_line me number told) (Stays x)

-- When a membership ends, it is not known what comes of the commands that wait. Of a monitor's request nothing is told.
abbrev pub unknown_line : ℕ → Request → List Output
unknown_line me r = if r.told then Tells (answered_line me r.number Unknown) ∷ [] else []

abbrev pub unknown_lines : ℕ → List Request → List Output
unknown_lines me [] = []
unknown_lines me (r ∷ rs) = unknown_line me r ++ unknown_lines me rs
