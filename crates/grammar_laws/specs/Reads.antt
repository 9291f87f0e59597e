-- What is read of a cluster schedule: its header, line by line, and the events of the lines behind it.
use Rattle.std.specs.Prelude.{◌≡◌, ℕ, ◌<◌, ◌≤◌, ◌^◌, false, List, [], ◌∷◌, length, Ok, Some}
use Rattle.std.specs.List.{AllByRecursion}
use Rattle.cl_base.specs.declared.header.Header.{Header}
use Rattle.cl_base.specs.declared.header.HeaderDevice.{HeaderDevice}
use Rattle.schedule_text.specs.declared.event.Event.{Event}
use Rattle.schedule_text.specs.declared.event.Event.TheVariants as event
use Rattle.schedule_text.specs.declared.header.Head.{Head}
use Rattle.schedule_text.specs.declared.header.Head.TheVariants as head
use Rattle.schedule_text.specs.declared.header.HeaderState.{HeaderState}
use Rattle.schedule_text.specs.declared.header.HeaderState.TheVariants.{Opening}
use Rattle.schedule_text.specs.declared.line.ClusterLine.TheVariants as cluster
use Rattle.schedule_text.specs.declared.line.SoFar.{SoFar}
use Rattle.schedule_text.specs.Allowed.{IsAllowedEvent, IsAllowedHead}
use Rattle.schedule_text.specs.Headers.{More, header_step, head_of, is_server}
use Rattle.schedule_text.specs.Lines.{cluster_line_of}

-- these lines of a header lead from the one state to the other
abbrev pub LeadTo : HeaderState → List (List ℕ) → HeaderState → Type 0
LeadTo state [] now = state ≡ now
LeadTo state (line ∷ lines) now = (next : HeaderState) × (header_step state line ≡ More next) × LeadTo next lines now

-- an event that sets the clock has a second of 64 bits
abbrev pub HasSeconds : Event → Type 0
HasSeconds (event.Clock second) = second < 2 ^ 64
HasSeconds _ = Unit {0}

-- an event whose words, if it is a command, have so many bytes at most
abbrev pub HasFewBytes : ℕ → Event → Type 0
HasFewBytes most (event.Command node words) = length words ≤ most
HasFewBytes most _ = Unit {0}

-- A header that lines lead to from the beginning is allowed.
abbrev pub HeadsAreAllowed : Type 0
HeadsAreAllowed = (lines : List (List ℕ)) (now : HeaderState) (head : Head) → LeadTo Opening lines now → head_of now ≡ Some head
    → IsAllowedHead head

-- no device of the header is a server
abbrev pub LacksServers : Header → Type 0
LacksServers h = AllByRecursion (λ (d : HeaderDevice). is_server d.kind ≡ false) h.devices

-- No header is read that has a server.
abbrev pub ServersAreNotRead : Type 0
ServersAreNotRead = (lines : List (List ℕ)) (now : HeaderState) (h : Header) → LeadTo Opening lines now → head_of now ≡ Some (head.Cluster h)
    → LacksServers h

-- An event that a line is read as is allowed,
abbrev pub EventsAreAllowed : Type 0
EventsAreAllowed = (h : Header) (s : SoFar) (bytes : List ℕ) (e : Event)
    → cluster_line_of h s bytes ≡ Ok (cluster.Event e) → IsAllowedEvent h s e

-- its seconds have 64 bits,
abbrev pub SecondsFit : Type 0
SecondsFit = (h : Header) (s : SoFar) (bytes : List ℕ) (e : Event)
    → cluster_line_of h s bytes ≡ Ok (cluster.Event e) → HasSeconds e

-- and the words of a command are no longer than its line.
abbrev pub CommandsFitTheirLines : Type 0
CommandsFitTheirLines = (h : Header) (s : SoFar) (bytes : List ℕ) (e : Event)
    → cluster_line_of h s bytes ≡ Ok (cluster.Event e) → HasFewBytes (length bytes) e
