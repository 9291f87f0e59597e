-- The events of a cluster schedule, as a line spells them: a name, and the fields that the event of this name has.
use Rattle.std.specs.Prelude.{ℕ, ◌==◌, nat_le, Bool, ◌&&◌, if◌then◌else◌, List, [], ◌∷◌, length, Option, Some, None, Result, Ok, Err}
use Rattle.std.specs.List.{list_all, join_with_byte}
use Rattle.std.specs.Option.{is_some}
use Rattle.cl_base.specs.declared.header.Header.{Header}
use Rattle.cl_base.specs.declared.header.Version.{Version}
use Rattle.cl_base.specs.declared.header.Version.TheVariants.{One, Two}
use Rattle.cl_base.specs.declared.method.Method.{Method}
use Rattle.cl_base.specs.declared.method.Outcome.{Outcome}
use Rattle.schedule_text.specs.declared.event.Event.{Event}
use Rattle.schedule_text.specs.declared.event.Event.TheVariants as event
use Rattle.schedule_text.specs.declared.event_name.EventName.{EventName}
use Rattle.schedule_text.specs.declared.event_name.EventName.TheVariants as name
use Rattle.schedule_text.specs.declared.event_words.CallEnd.{CallEnd}
use Rattle.schedule_text.specs.declared.event_words.ClientPort.{ClientPort}
use Rattle.schedule_text.specs.declared.kind.Kind.{Kind}
use Rattle.schedule_text.specs.declared.kind.Kind.TheVariants.{Line, NotBuilt}
use Rattle.schedule_text.specs.declared.line.SoFar.{SoFar}
use Rattle.schedule_text.specs.Words.{is_word, is_decimal}
use Rattle.schedule_text.specs.Choices.{choice_in, done_in, good_in, outcome_in, is_ask}
use Rattle.schedule_text.specs.EventNames.{event_in}
use Rattle.schedule_text.specs.MethodNames.{method_in}
use Rattle.schedule_text.specs.Fields.{both, one_of, node_in, device_in, number_in, calls_in, rounds_in, second_in, client_in, port_in, named_in, nodes_from}

-- the event that the fields make, if they are what they should be
abbrev pub made : {A : Type 0} → (A → Event) → Result A Kind → Result Event Kind
made make (Ok fields) = Ok (make fields)
made make (Err kind) = Err kind

-- N
abbrev pub one_node : Header → List (List ℕ) → Result ℕ Kind
one_node h (node ∷ []) = node_in h node
one_node h _ = Err Line

-- A B
abbrev pub two_nodes : Header → List (List ℕ) → Result (ℕ × ℕ) Kind
two_nodes h (from ∷ to ∷ []) = both (node_in h from) (node_in h to)
two_nodes h _ = Err Line

-- P
abbrev pub one_packet : List (List ℕ) → Result ℕ Kind
one_packet (number ∷ []) = number_in number
one_packet _ = Err Line

-- N K CHOICE
abbrev pub crash_at : Header → List (List ℕ) → Result Event Kind
crash_at h (node ∷ calls ∷ choice ∷ []) =
    made (λ f. event.CrashAt f.0 f.1.0 f.1.1) (both (node_in h node) (both (calls_in calls) (one_of (choice_in choice))))
crash_at h _ = Err Line

-- N D `done` or `undone`
abbrev pub fault : Header → List (List ℕ) → Result Event Kind
fault h (node ∷ device ∷ done ∷ []) =
    made (λ f. event.Fault f.0 f.1.0 f.1.1) (both (node_in h node) (both (device_in h device) (one_of (done_in done))))
fault h _ = Err Line

-- N D V
abbrev pub write : Header → List (List ℕ) → Result Event Kind
write h (node ∷ device ∷ value ∷ []) =
    made (λ f. event.Write f.0 f.1.0 f.1.1) (both (node_in h node) (both (device_in h device) (number_in value)))
write h _ = Err Line

-- N WORDS: at least one word, with one space between two
abbrev pub command : Header → List (List ℕ) → Result Event Kind
command h (node ∷ first ∷ words) =
    if is_word first && list_all is_word words then made (λ n. event.Command n (join_with_byte 32 (first ∷ words))) (node_in h node) else Err Line
command h _ = Err Line

-- METHOD and `success`, `failure` or `timeout`
abbrev pub ended : Result (Method × Outcome) Kind → Result CallEnd Kind
ended (Ok call) = Ok (record { method = call.0; outcome = call.1 })
ended (Err kind) = Err kind

unfoldable pub call_in : List ℕ → List ℕ → Result CallEnd Kind
call_in method ending = ended (both (one_of (method_in method)) (one_of (outcome_in ending)))

-- N R and a call
abbrev pub outcome : Header → List (List ℕ) → Result Event Kind
outcome h (node ∷ resource ∷ method ∷ ending ∷ []) =
    made (λ f. event.Outcome f.0 f.1.0 f.1.1.method f.1.1.outcome) (both (node_in h node) (both (named_in resource) (call_in method ending)))
outcome h _ = Err Line

-- N R `ok` or `fail`
abbrev pub probe : Header → List (List ℕ) → Result Event Kind
probe h (node ∷ resource ∷ good ∷ []) =
    made (λ f. event.Probe f.0 f.1.0 f.1.1) (both (node_in h node) (both (named_in resource) (one_of (good_in good))))
probe h _ = Err Line

-- S
abbrev pub clock : SoFar → List (List ℕ) → Result Event Kind
clock s (second ∷ []) = made event.Clock (second_in s second)
clock s _ = Err Line

-- K N N ..: at least one node
abbrev pub rounds : Header → SoFar → List (List ℕ) → Result Event Kind
rounds h s [] = Err Line
rounds h s (count ∷ nodes) =
    if length nodes == 0 then Err Line
    else made (λ f. event.Rounds f.0 f.1) (both (rounds_in s count) (nodes_from h (Ok 0) nodes))

-- CLIENT PORT
abbrev pub asked : Result (ℕ × ℕ) Kind → Result ClientPort Kind
asked (Ok request) = Ok (record { client = request.0; port = request.1 })
asked (Err kind) = Err kind

unfoldable pub asked_in : List ℕ → List ℕ → Result ClientPort Kind
asked_in client port = asked (both (client_in client) (port_in port))

-- N A CLIENT PORT
abbrev pub client : Header → List (List ℕ) → Result Event Kind
client h (node ∷ address ∷ number ∷ port ∷ []) =
    made (λ f. event.Client f.0 f.1.0 f.1.1.client f.1.1.port) (both (node_in h node) (both (named_in address) (asked_in number port)))
client h _ = Err Line

-- a form that is not built; what is in its fields is not looked at then
abbrev pub unbuilt : Bool → Result Event Kind
unbuilt is_formed = if is_formed then Err NotBuilt else Err Line

-- N D WORDS: 1 to 4 words, one for each ask
abbrev pub server : List (List ℕ) → Result Event Kind
server (node ∷ device ∷ first ∷ words) =
    unbuilt (is_decimal node && is_decimal device && is_ask first && nat_le (length words) 3 && list_all is_ask words)
server _ = Err Line

-- D K CHOICE
abbrev pub server_stop : List (List ℕ) → Result Event Kind
server_stop (device ∷ calls ∷ choice ∷ []) = unbuilt (is_decimal device && is_decimal calls && is_some (choice_in choice))
server_stop _ = Err Line

-- a form that is there from version 2 on
abbrev pub since_two : Version → Result Event Kind → Result Event Kind
since_two One read = Err Line
since_two Two read = read

-- the event of this name and these fields
abbrev pub event_of : Header → SoFar → EventName → List (List ℕ) → Result Event Kind
event_of h s name.Boot fields = made event.Boot (one_node h fields)
event_of h s name.Crash fields = made event.Crash (one_node h fields)
event_of h s name.CrashAt fields = crash_at h fields
event_of h s name.Tick fields = made event.Tick (one_node h fields)
event_of h s name.Deliver fields = made event.Deliver (one_packet fields)
event_of h s name.Lose fields = made event.Lose (one_packet fields)
event_of h s name.Repeat fields = made event.Repeat (one_packet fields)
event_of h s name.Next fields = made (λ f. event.Next f.0 f.1) (two_nodes h fields)
event_of h s name.Drop fields = made (λ f. event.Drop f.0 f.1) (two_nodes h fields)
event_of h s name.Again fields = made (λ f. event.Again f.0 f.1) (two_nodes h fields)
event_of h s name.Disk fields = made event.Disk (one_node h fields)
event_of h s name.Fault fields = fault h fields
event_of h s name.Write fields = write h fields
event_of h s name.Command fields = command h fields
event_of h s name.Outcome fields = outcome h fields
event_of h s name.Probe fields = probe h fields
event_of h s name.Clock fields = clock s fields
event_of h s name.Rounds fields = rounds h s fields
event_of h s name.Client fields = since_two h.version (client h fields)
event_of h s name.Server fields = since_two h.version (server fields)
event_of h s name.ServerStop fields = since_two h.version (server_stop fields)

abbrev pub named_event : Header → SoFar → Option EventName → List (List ℕ) → Result Event Kind
named_event h s None fields = Err Line
named_event h s (Some event) fields = event_of h s event fields

-- NAME FIELDS
abbrev pub event_line : Header → SoFar → List (List ℕ) → Result Event Kind
event_line h s [] = Err Line
event_line h s (name ∷ fields) = named_event h s (event_in name) fields
