-- The grammar of cluster schedules, over a list of lines.
use Rattle.std.specs.Prelude.{◌≡◌, ℕ, zero, suc, ◌+◌, List, [], ◌∷◌, Ok}
use Rattle.cl_base.specs.declared.header.DeviceKind.TheVariants.{Quorum, Data}
use Rattle.cl_base.specs.declared.header.Header.{Header}
use Rattle.cl_base.specs.declared.header.Version.TheVariants.{One}
use Rattle.schedule_text.specs.declared.event.Event.{Event}
use Rattle.schedule_text.specs.declared.header.Head.{Head}
use Rattle.schedule_text.specs.declared.header.HeaderState.{HeaderState}
use Rattle.schedule_text.specs.declared.line.Line.{Line}
use Rattle.schedule_text.specs.declared.line.Line.TheVariants as line
use Rattle.schedule_text.specs.declared.line.SoFar.{SoFar}
use Rattle.schedule_text.specs.Headers.{More, header_step}
use Rattle.schedule_text.specs.Lines.{line_of, so_far_after}
use Rattle.schedule_gen.specs.Lines.{line_at}

-- the header of each schedule that is made: cluster 2a, four nodes (bits 0 to 3), and two devices that all four have
abbrev pub four_nodes : Header
four_nodes = record {
  version = One;
  cluster = 42;
  nodes = 4;
  configured = 15;
  devices = record { kind = Quorum; attached = 15 } ∷ record { kind = Data; attached = 15 } ∷ [];
}

-- the clock stands at 0, and there were no rounds
abbrev pub start : SoFar
start = record { clock = 0; rounds = 0 }

-- so many lines that the seed gives, from the line with this number on
abbrev pub lines_from : ℕ → ℕ → ℕ → List (List ℕ)
lines_from seed first zero = []
lines_from seed first (suc lines) = line_at seed first ∷ lines_from seed (first + 1) lines

-- the lines are of a header, and lead from what was read before to what is read then
abbrev pub Leads : HeaderState → List (List ℕ) → HeaderState → Type 0
Leads from [] to = from ≡ to
Leads from (line ∷ lines) to = (next : HeaderState) × (header_step from line ≡ More next) × Leads next lines to

-- each of the lines after a header is one that the grammar has, with the clock and the rounds of the lines before it
abbrev pub AreRead : Head → SoFar → List (List ℕ) → Type 0
AreRead head so_far [] = Unit {0}
AreRead head so_far (line ∷ lines) =
    (read : Line) × (line_of head so_far line ≡ Ok read) × AreRead head (so_far_after so_far read) lines

-- each of the lines after a header is read as its event, with the clock and the rounds of the lines before it
abbrev pub AreReadAs : Head → SoFar → List (List ℕ) → List Event → Type 0
AreReadAs head so_far [] [] = Unit {0}
AreReadAs head so_far (bytes ∷ lines) (event ∷ events) =
    (line_of head so_far bytes ≡ Ok (line.Event event)) × AreReadAs head (so_far_after so_far (line.Event event)) lines events
AreReadAs head so_far [] (event ∷ events) = ⊥
AreReadAs head so_far (bytes ∷ lines) [] = ⊥
