-- The lines of a schedule after its header.
use Rattle.std.specs.Prelude.{ℕ, ◌+◌, ◌==◌, nat_le, Bool, ◌&&◌, ◌||◌, if◌then◌else◌, List, ◌∷◌, length, slice_index, Option, Some, None, Result, Ok, Err, codes}
use Rattle.std.specs.Str.{bytes_eq}
use Rattle.cl_base.specs.Limits.{most_nodes_at_first}
use Rattle.cl_base.specs.declared.header.Header.{Header}
use Rattle.pgr_device.specs.declared.command.PrCommand.{PrCommand}
use Rattle.schedule_text.specs.declared.command_name.CommandName.{CommandName}
use Rattle.schedule_text.specs.declared.event.Event.{Event}
use Rattle.schedule_text.specs.declared.event.Event.TheVariants as event
use Rattle.schedule_text.specs.declared.header.Head.{Head}
use Rattle.schedule_text.specs.declared.header.Head.TheVariants.{Pr, Cluster}
use Rattle.schedule_text.specs.declared.line.ClusterLine.{ClusterLine}
use Rattle.schedule_text.specs.declared.line.ClusterLine.TheVariants as cluster
use Rattle.schedule_text.specs.declared.line.Line.{Line}
use Rattle.schedule_text.specs.declared.line.Line.TheVariants as line
use Rattle.schedule_text.specs.declared.line.PrLine.{PrLine}
use Rattle.schedule_text.specs.declared.line.PrLine.TheVariants as pr
use Rattle.schedule_text.specs.declared.line.SoFar.{SoFar}
use Rattle.schedule_text.specs.declared.kind.Kind.{Kind}
use Rattle.schedule_text.specs.declared.kind.Kind.TheVariants as kind
use Rattle.schedule_text.specs.declared.number.Numeral.{Numeral}
use Rattle.schedule_text.specs.declared.number.Numeral.TheVariants.{Within, Beyond}
use Rattle.schedule_text.specs.Words.{words_of, decimal_in}
use Rattle.schedule_text.specs.Commands.{command_of}
use Rattle.schedule_text.specs.Events.{event_line}
use Rattle.schedule_text.specs.Names.{name_in}

-- an empty line, or a comment, which begins with # (35)
abbrev pub is_blank : List ℕ → Bool
is_blank bytes = (length bytes == 0) || (slice_index bytes 0 == 35)

-- a node that may send is numbered from 1 to 16
abbrev pub sent_by : Numeral → PrCommand → Result PrLine Kind
sent_by Beyond command = Err kind.Number
sent_by (Within n) command = if nat_le 1 n && nat_le n most_nodes_at_first then Ok (pr.Command n command) else Err kind.Number

-- a line that has no form is `line`, before a number out of its range is `number`
abbrev pub command_line : Option Numeral → Result PrCommand Kind → Result PrLine Kind
command_line None command = Err kind.Line
command_line (Some n) (Err kind) = Err kind
command_line (Some n) (Ok command) = sent_by n command

abbrev pub named : Option CommandName → List (List ℕ) → Result PrCommand Kind
named None fields = Err kind.Line
named (Some name) fields = command_of name fields

-- F NAME FIELDS
abbrev pub words_line : List (List ℕ) → Result PrLine Kind
words_line (sender ∷ name ∷ fields) = command_line (decimal_in sender) (named (name_in name) fields)
words_line _ = Err kind.Line

-- the lines of a reservation schedule are `power` and the commands to the device, beside those that each schedule has
abbrev pub pr_line_of : List ℕ → Result PrLine Kind
pr_line_of bytes =
    if is_blank bytes then Ok pr.Blank
    else if bytes_eq bytes (codes "end") then Ok pr.End
    else if bytes_eq bytes (codes "power") then Ok pr.Power
    else words_line (words_of bytes)

abbrev pub happens : Result Event Kind → Result ClusterLine Kind
happens (Ok event) = Ok (cluster.Event event)
happens (Err kind) = Err kind

-- those of a cluster schedule are events
abbrev pub cluster_line_of : Header → SoFar → List ℕ → Result ClusterLine Kind
cluster_line_of h s bytes =
    if is_blank bytes then Ok cluster.Blank
    else if bytes_eq bytes (codes "end") then Ok cluster.End
    else happens (event_line h s (words_of bytes))

abbrev pub of_pr : Result PrLine Kind → Result Line Kind
of_pr (Ok pr.Blank) = Ok line.Blank
of_pr (Ok pr.End) = Ok line.End
of_pr (Ok pr.Power) = Ok line.Power
of_pr (Ok (pr.Command sender command)) = Ok (line.Command sender command)
of_pr (Err kind) = Err kind

abbrev pub of_cluster : Result ClusterLine Kind → Result Line Kind
of_cluster (Ok cluster.Blank) = Ok line.Blank
of_cluster (Ok cluster.End) = Ok line.End
of_cluster (Ok (cluster.Event event)) = Ok (line.Event event)
of_cluster (Err kind) = Err kind

-- what a line of a schedule with this header is, or the first kind of refusal that fits
abbrev pub line_of : Head → SoFar → List ℕ → Result Line Kind
line_of (Pr senders) s bytes = of_pr (pr_line_of bytes)
line_of (Cluster h) s bytes = of_cluster (cluster_line_of h s bytes)

-- the clock and the rounds after an event
abbrev pub so_far_after_event : SoFar → Event → SoFar
so_far_after_event s (event.Clock second) = record s { clock = second }
so_far_after_event s (event.Rounds count nodes) = record s { rounds = s.rounds + count }
so_far_after_event s _ = s

-- and after a line
abbrev pub so_far_after : SoFar → Line → SoFar
so_far_after s (line.Event event) = so_far_after_event s event
so_far_after s _ = s
