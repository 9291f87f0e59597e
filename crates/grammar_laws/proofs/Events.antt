-- Each event that a line is read as is allowed, and its seconds have 64 bits.
use Rattle.std.proofs.Common.{◌≡◌, ℕ, ◌+◌, ◌<◌, ◌≤◌, ◌^◌, ◌==◌, ◌&&◌, Bool, true, false, if◌then◌else◌, List, [], ◌∷◌, length, Option, Some, None, Result, Ok, Err, IfOk, refl, subst, codes, bytes_eq}
use Rattle.std.specs.List.{list_all, join_with_byte}
use Rattle.cl_base.specs.Names.{IsName}
use Rattle.cl_base.specs.declared.header.Header.{Header}
use Rattle.cl_base.specs.declared.header.Version.{Version}
use Rattle.cl_base.specs.declared.header.Version.TheVariants.{One, Two}
use Rattle.schedule_text.specs.Allowed.{AreNodes, IsAllowedEvent, IsDevice, IsNode}
use Rattle.schedule_text.specs.Choices.{choice_in, done_in, good_in}
use Rattle.schedule_text.specs.EventNames.{event_in}
use Rattle.schedule_text.specs.Events.{asked, asked_in, call_in, client, clock, command, crash_at, event_line, event_of, fault, made, named_event, one_node, one_packet, outcome, probe, rounds, server, server_stop, since_two, two_nodes, unbuilt, write}
use Rattle.schedule_text.specs.Fields.{both, calls_in, client_in, device_in, named_in, node_in, nodes_from, number_in, one_of, port_in, rounds_in, second_in}
use Rattle.schedule_text.specs.Lines.{cluster_line_of, happens, is_blank}
use Rattle.schedule_text.specs.Words.{is_word, words_of}
use Rattle.schedule_text.specs.declared.event.Event.{Event}
use Rattle.schedule_text.specs.declared.event.Event.TheVariants as event
use Rattle.schedule_text.specs.declared.event.StopChoice.{StopChoice}
use Rattle.schedule_text.specs.declared.event_name.EventName.{EventName}
use Rattle.schedule_text.specs.declared.event_name.EventName.TheVariants as name
use Rattle.schedule_text.specs.declared.event_words.CallEnd.{CallEnd}
use Rattle.schedule_text.specs.declared.event_words.ClientPort.{ClientPort}
use Rattle.schedule_text.specs.declared.kind.Kind.{Kind}
use Rattle.schedule_text.specs.declared.kind.Kind.TheVariants as kind
use Rattle.schedule_text.specs.declared.line.ClusterLine.{ClusterLine}
use Rattle.schedule_text.specs.declared.line.ClusterLine.TheVariants as cluster
use Rattle.schedule_text.specs.declared.line.SoFar.{SoFar}
use Rattle.schedule_text.proofs.WordLemmas.{clean_join}
use Rattle.grammar_laws.specs.Reads.{EventsAreAllowed, HasSeconds, SecondsFit}
use Rattle.grammar_laws.proofs.Fields.{any_read, both_read, calls_read, client_read, device_read, left_true, named_read, node_read, nodes_read, port_read, right_true, rounds_read, second_read}

abbrev IsFine : Header → SoFar → Event → Type 0
IsFine h s e = IsAllowedEvent h s e × HasSeconds e

-- an event that is made of fields
made_read : (A : Type 0) (P : A → Type 0) (Q : Event → Type 0) (make : A → Event) (a : Result A Kind) → ((x : A) → P x → Q (make x)) → IfOk a P → IfOk (made make a) Q
made_read A P Q make (Ok a) f p = f a p
made_read A P Q make (Err k) f p = tt

one_node_read : (h : Header) (fields : List (List ℕ)) → IfOk (one_node h fields) (IsNode h)
one_node_read h [] = tt
one_node_read h (node ∷ []) = node_read h node
one_node_read h (node ∷ other ∷ fields) = tt

two_nodes_read : (h : Header) (fields : List (List ℕ)) → IfOk (two_nodes h fields) (λ f. IsNode h f.0 × IsNode h f.1)
two_nodes_read h [] = tt
two_nodes_read h (from ∷ []) = tt
two_nodes_read h (from ∷ to ∷ []) = both_read ℕ ℕ (IsNode h) (IsNode h) (node_in h from) (node_in h to) (node_read h from) (node_read h to)
two_nodes_read h (from ∷ to ∷ other ∷ fields) = tt

of_node : (h : Header) (s : SoFar) (make : ℕ → Event) (fields : List (List ℕ)) → ((n : ℕ) → IsNode h n → IsFine h s (make n)) → IfOk (made make (one_node h fields)) (IsFine h s)
of_node h s make fields f = made_read ℕ (IsNode h) (IsFine h s) make (one_node h fields) f (one_node_read h fields)

of_packet : (h : Header) (s : SoFar) (make : ℕ → Event) (fields : List (List ℕ)) → ((n : ℕ) → IsFine h s (make n)) → IfOk (made make (one_packet fields)) (IsFine h s)
of_packet h s make fields f = made_read ℕ (λ n. Unit {0}) (IsFine h s) make (one_packet fields) (λ n any. f n) (any_read ℕ (one_packet fields))

of_link : (h : Header) (s : SoFar) (make : ℕ × ℕ → Event) (fields : List (List ℕ)) → ((f : ℕ × ℕ) → IsNode h f.0 × IsNode h f.1 → IsFine h s (make f)) → IfOk (made make (two_nodes h fields)) (IsFine h s)
of_link h s make fields f = made_read (ℕ × ℕ) (λ x. IsNode h x.0 × IsNode h x.1) (IsFine h s) make (two_nodes h fields) f (two_nodes_read h fields)

-- three fields
three_read : (A B C : Type 0) (P : A → Type 0) (Q : B → Type 0) (R : C → Type 0) (a : Result A Kind) (b : Result B Kind) (c : Result C Kind) → IfOk a P → IfOk b Q → IfOk c R
    → IfOk (both a (both b c)) (λ f. P f.0 × (Q f.1.0 × R f.1.1))
three_read A B C P Q R a b c p q r = both_read A (B × C) P (λ f. Q f.0 × R f.1) a (both b c) p (both_read B C Q R b c q r)

crash_at_read : (h : Header) (s : SoFar) (fields : List (List ℕ)) → IfOk (crash_at h fields) (IsFine h s)
crash_at_read h s [] = tt
crash_at_read h s (node ∷ []) = tt
crash_at_read h s (node ∷ calls ∷ []) = tt
crash_at_read h s (node ∷ calls ∷ choice ∷ []) =
    made_read (ℕ × (ℕ × StopChoice)) (λ f. IsNode h f.0 × (((1 ≤ f.1.0) × (f.1.0 ≤ 1000)) × Unit {0})) (IsFine h s) (λ f. event.CrashAt f.0 f.1.0 f.1.1)
    (both (node_in h node) (both (calls_in calls) (one_of (choice_in choice)))) (λ f are. ((are.0, are.1.0.0, are.1.0.1), tt))
    (three_read ℕ ℕ StopChoice (IsNode h) (λ n. (1 ≤ n) × (n ≤ 1000)) (λ c. Unit {0}) (node_in h node) (calls_in calls) (one_of (choice_in choice))
    (node_read h node) (calls_read calls) (any_read StopChoice (one_of (choice_in choice))))
crash_at_read h s (node ∷ calls ∷ choice ∷ other ∷ fields) = tt

fault_read : (h : Header) (s : SoFar) (fields : List (List ℕ)) → IfOk (fault h fields) (IsFine h s)
fault_read h s [] = tt
fault_read h s (node ∷ []) = tt
fault_read h s (node ∷ device ∷ []) = tt
fault_read h s (node ∷ device ∷ done ∷ []) =
    made_read (ℕ × (ℕ × Bool)) (λ f. IsNode h f.0 × (IsDevice h f.1.0 × Unit {0})) (IsFine h s) (λ f. event.Fault f.0 f.1.0 f.1.1)
    (both (node_in h node) (both (device_in h device) (one_of (done_in done)))) (λ f are. ((are.0, are.1.0), tt))
    (three_read ℕ ℕ Bool (IsNode h) (IsDevice h) (λ c. Unit {0}) (node_in h node) (device_in h device) (one_of (done_in done))
    (node_read h node) (device_read h device) (any_read Bool (one_of (done_in done))))
fault_read h s (node ∷ device ∷ done ∷ other ∷ fields) = tt

write_read : (h : Header) (s : SoFar) (fields : List (List ℕ)) → IfOk (write h fields) (IsFine h s)
write_read h s [] = tt
write_read h s (node ∷ []) = tt
write_read h s (node ∷ device ∷ []) = tt
write_read h s (node ∷ device ∷ value ∷ []) =
    made_read (ℕ × (ℕ × ℕ)) (λ f. IsNode h f.0 × (IsDevice h f.1.0 × Unit {0})) (IsFine h s) (λ f. event.Write f.0 f.1.0 f.1.1)
    (both (node_in h node) (both (device_in h device) (number_in value))) (λ f are. ((are.0, are.1.0), tt))
    (three_read ℕ ℕ ℕ (IsNode h) (IsDevice h) (λ c. Unit {0}) (node_in h node) (device_in h device) (number_in value)
    (node_read h node) (device_read h device) (any_read ℕ (number_in value)))
write_read h s (node ∷ device ∷ value ∷ other ∷ fields) = tt

command_if : (h : Header) (s : SoFar) (node first : List ℕ) (words : List (List ℕ)) (t : Bool) → (is_word first && list_all is_word words) ≡ t
    → IfOk (if t then made (λ n. event.Command n (join_with_byte 32 (first ∷ words))) (node_in h node) else Err kind.Line) (IsFine h s)
command_if h s node first words true is =
    made_read ℕ (IsNode h) (IsFine h s) (λ n. event.Command n (join_with_byte 32 (first ∷ words))) (node_in h node)
    (λ n is_node. ((is_node, clean_join first words (left_true (is_word first) (list_all is_word words) is) (right_true (is_word first) (list_all is_word words) is)), tt))
    (node_read h node)
command_if h s node first words false is = tt

command_read : (h : Header) (s : SoFar) (fields : List (List ℕ)) → IfOk (command h fields) (IsFine h s)
command_read h s [] = tt
command_read h s (node ∷ []) = tt
command_read h s (node ∷ first ∷ words) = command_if h s node first words (is_word first && list_all is_word words) refl

outcome_read : (h : Header) (s : SoFar) (fields : List (List ℕ)) → IfOk (outcome h fields) (IsFine h s)
outcome_read h s [] = tt
outcome_read h s (node ∷ []) = tt
outcome_read h s (node ∷ resource ∷ []) = tt
outcome_read h s (node ∷ resource ∷ method ∷ []) = tt
outcome_read h s (node ∷ resource ∷ method ∷ ending ∷ []) =
    made_read (ℕ × (List ℕ × CallEnd)) (λ f. IsNode h f.0 × (IsName f.1.0 × Unit {0})) (IsFine h s) (λ f. event.Outcome f.0 f.1.0 f.1.1.method f.1.1.outcome)
    (both (node_in h node) (both (named_in resource) (call_in method ending))) (λ f are. ((are.0, are.1.0), tt))
    (three_read ℕ (List ℕ) CallEnd (IsNode h) IsName (λ c. Unit {0}) (node_in h node) (named_in resource) (call_in method ending)
    (node_read h node) (named_read resource) (any_read CallEnd (call_in method ending)))
outcome_read h s (node ∷ resource ∷ method ∷ ending ∷ other ∷ fields) = tt

probe_read : (h : Header) (s : SoFar) (fields : List (List ℕ)) → IfOk (probe h fields) (IsFine h s)
probe_read h s [] = tt
probe_read h s (node ∷ []) = tt
probe_read h s (node ∷ resource ∷ []) = tt
probe_read h s (node ∷ resource ∷ good ∷ []) =
    made_read (ℕ × (List ℕ × Bool)) (λ f. IsNode h f.0 × (IsName f.1.0 × Unit {0})) (IsFine h s) (λ f. event.Probe f.0 f.1.0 f.1.1)
    (both (node_in h node) (both (named_in resource) (one_of (good_in good)))) (λ f are. ((are.0, are.1.0), tt))
    (three_read ℕ (List ℕ) Bool (IsNode h) IsName (λ c. Unit {0}) (node_in h node) (named_in resource) (one_of (good_in good))
    (node_read h node) (named_read resource) (any_read Bool (one_of (good_in good))))
probe_read h s (node ∷ resource ∷ good ∷ other ∷ fields) = tt

clock_read : (h : Header) (s : SoFar) (fields : List (List ℕ)) → IfOk (clock s fields) (IsFine h s)
clock_read h s [] = tt
clock_read h s (second ∷ []) = made_read ℕ (λ n. (s.clock ≤ n) × (n < 2 ^ 64)) (IsFine h s) event.Clock (second_in s second) (λ n are. are) (second_read s second)
clock_read h s (second ∷ other ∷ fields) = tt

rounds_if : (h : Header) (s : SoFar) (count node : List ℕ) (nodes : List (List ℕ)) (t : Bool)
    → IfOk (if t then Err kind.Line else made (λ f. event.Rounds f.0 f.1) (both (rounds_in s count) (nodes_from h (Ok 0) (node ∷ nodes)))) (IsFine h s)
rounds_if h s count node nodes true = tt
rounds_if h s count node nodes false =
    made_read (ℕ × ℕ) (λ f. ((1 ≤ f.0) × (f.0 ≤ 100) × (s.rounds + f.0 ≤ 100000)) × AreNodes h.nodes f.1) (IsFine h s) (λ f. event.Rounds f.0 f.1)
    (both (rounds_in s count) (nodes_from h (Ok 0) (node ∷ nodes))) (λ f are. ((are.0.0, are.0.1, are.0.2, are.1), tt))
    (both_read ℕ ℕ (λ n. (1 ≤ n) × (n ≤ 100) × (s.rounds + n ≤ 100000)) (AreNodes h.nodes) (rounds_in s count) (nodes_from h (Ok 0) (node ∷ nodes))
    (rounds_read s count) (nodes_read h node nodes))

rounds_read_of : (h : Header) (s : SoFar) (fields : List (List ℕ)) → IfOk (rounds h s fields) (IsFine h s)
rounds_read_of h s [] = tt
rounds_read_of h s (count ∷ []) = tt
rounds_read_of h s (count ∷ node ∷ nodes) = rounds_if h s count node nodes (length (node ∷ nodes) == 0)

asked_read : (request : Result (ℕ × ℕ) Kind) → IfOk request (λ f. (f.0 < 2 ^ 32) × (f.1 < 2 ^ 16)) → IfOk (asked request) (λ r. (r.client < 2 ^ 32) × (r.port < 2 ^ 16))
asked_read (Ok request) are = are
asked_read (Err k) are = tt

asked_in_read : (number port : List ℕ) → IfOk (asked_in number port) (λ r. (r.client < 2 ^ 32) × (r.port < 2 ^ 16))
unfolding asked_in
asked_in_read number port = asked_read (both (client_in number) (port_in port)) (both_read ℕ ℕ (λ n. n < 2 ^ 32) (λ n. n < 2 ^ 16) (client_in number) (port_in port) (client_read number) (port_read port))

client_read_of : (h : Header) (s : SoFar) (fields : List (List ℕ)) → h.version ≡ Two → IfOk (client h fields) (IsFine h s)
client_read_of h s [] two = tt
client_read_of h s (node ∷ []) two = tt
client_read_of h s (node ∷ address ∷ []) two = tt
client_read_of h s (node ∷ address ∷ number ∷ []) two = tt
client_read_of h s (node ∷ address ∷ number ∷ port ∷ []) two =
    made_read (ℕ × (List ℕ × ClientPort)) (λ f. IsNode h f.0 × (IsName f.1.0 × ((f.1.1.client < 2 ^ 32) × (f.1.1.port < 2 ^ 16)))) (IsFine h s) (λ f. event.Client f.0 f.1.0 f.1.1.client f.1.1.port)
    (both (node_in h node) (both (named_in address) (asked_in number port))) (λ f are. ((two, are.0, are.1.0, are.1.1.0, are.1.1.1), tt))
    (three_read ℕ (List ℕ) ClientPort (IsNode h) IsName (λ r. (r.client < 2 ^ 32) × (r.port < 2 ^ 16)) (node_in h node) (named_in address) (asked_in number port)
    (node_read h node) (named_read address) (asked_in_read number port))
client_read_of h s (node ∷ address ∷ number ∷ port ∷ other ∷ fields) two = tt

since_read : (v : Version) (r : Result Event Kind) (P : Event → Type 0) → (v ≡ Two → IfOk r P) → IfOk (since_two v r) P
since_read One r P f = tt
since_read Two r P f = f refl

unbuilt_read : (t : Bool) (P : Event → Type 0) → IfOk (unbuilt t) P
unbuilt_read true P = tt
unbuilt_read false P = tt

server_read : (fields : List (List ℕ)) (P : Event → Type 0) → IfOk (server fields) P
server_read [] P = tt
server_read (node ∷ []) P = tt
server_read (node ∷ device ∷ []) P = tt
server_read (node ∷ device ∷ first ∷ words) P = unbuilt_read _ P

server_stop_read : (fields : List (List ℕ)) (P : Event → Type 0) → IfOk (server_stop fields) P
server_stop_read [] P = tt
server_stop_read (device ∷ []) P = tt
server_stop_read (device ∷ calls ∷ []) P = tt
server_stop_read (device ∷ calls ∷ choice ∷ []) P = unbuilt_read _ P
server_stop_read (device ∷ calls ∷ choice ∷ other ∷ fields) P = tt

-- ---- the event of a name and fields

event_of_read : (h : Header) (s : SoFar) (k : EventName) (fields : List (List ℕ)) → IfOk (event_of h s k fields) (IsFine h s)
event_of_read h s name.Boot fields = of_node h s event.Boot fields (λ n is. (is, tt))
event_of_read h s name.Crash fields = of_node h s event.Crash fields (λ n is. (is, tt))
event_of_read h s name.CrashAt fields = crash_at_read h s fields
event_of_read h s name.Tick fields = of_node h s event.Tick fields (λ n is. (is, tt))
event_of_read h s name.Deliver fields = of_packet h s event.Deliver fields (λ n. (tt, tt))
event_of_read h s name.Lose fields = of_packet h s event.Lose fields (λ n. (tt, tt))
event_of_read h s name.Repeat fields = of_packet h s event.Repeat fields (λ n. (tt, tt))
event_of_read h s name.Next fields = of_link h s (λ f. event.Next f.0 f.1) fields (λ f are. (are, tt))
event_of_read h s name.Drop fields = of_link h s (λ f. event.Drop f.0 f.1) fields (λ f are. (are, tt))
event_of_read h s name.Again fields = of_link h s (λ f. event.Again f.0 f.1) fields (λ f are. (are, tt))
event_of_read h s name.Disk fields = of_node h s event.Disk fields (λ n is. (is, tt))
event_of_read h s name.Fault fields = fault_read h s fields
event_of_read h s name.Write fields = write_read h s fields
event_of_read h s name.Command fields = command_read h s fields
event_of_read h s name.Outcome fields = outcome_read h s fields
event_of_read h s name.Probe fields = probe_read h s fields
event_of_read h s name.Clock fields = clock_read h s fields
event_of_read h s name.Rounds fields = rounds_read_of h s fields
event_of_read h s name.Client fields = since_read h.version (client h fields) (IsFine h s) (λ two. client_read_of h s fields two)
event_of_read h s name.Server fields = since_read h.version (server fields) (IsFine h s) (λ two. server_read fields (IsFine h s))
event_of_read h s name.ServerStop fields = since_read h.version (server_stop fields) (IsFine h s) (λ two. server_stop_read fields (IsFine h s))

named_read_as : (h : Header) (s : SoFar) (k : Option EventName) (fields : List (List ℕ)) → IfOk (named_event h s k fields) (IsFine h s)
named_read_as h s None fields = tt
named_read_as h s (Some k) fields = event_of_read h s k fields

event_line_read : (h : Header) (s : SoFar) (words : List (List ℕ)) → IfOk (event_line h s words) (IsFine h s)
event_line_read h s [] = tt
event_line_read h s (word ∷ fields) = named_read_as h s (event_in word) fields

-- ---- the line

abbrev IsFineLine : Header → SoFar → ClusterLine → Type 0
IsFineLine h s cluster.Blank = Unit {0}
IsFineLine h s cluster.End = Unit {0}
IsFineLine h s (cluster.Event e) = IsFine h s e

happens_read : (h : Header) (s : SoFar) (r : Result Event Kind) → IfOk r (IsFine h s) → IfOk (happens r) (IsFineLine h s)
happens_read h s (Ok e) is = is
happens_read h s (Err k) is = tt

line_if : (h : Header) (s : SoFar) (bytes : List ℕ) (blank ends : Bool)
    → IfOk (if blank then Ok cluster.Blank else if ends then Ok cluster.End else happens (event_line h s (words_of bytes))) (IsFineLine h s)
line_if h s bytes true ends = tt
line_if h s bytes false true = tt
line_if h s bytes false false = happens_read h s (event_line h s (words_of bytes)) (event_line_read h s (words_of bytes))

line_read : (h : Header) (s : SoFar) (bytes : List ℕ) → IfOk (cluster_line_of h s bytes) (IsFineLine h s)
line_read h s bytes = line_if h s bytes (is_blank bytes) (bytes_eq bytes (codes "end"))

fine_event : (h : Header) (s : SoFar) (bytes : List ℕ) (e : Event) → cluster_line_of h s bytes ≡ Ok (cluster.Event e) → IsFine h s e
fine_event h s bytes e is = subst (λ (r : Result ClusterLine Kind). IfOk r (IsFineLine h s)) is (line_read h s bytes)

pub events_are_allowed : EventsAreAllowed
events_are_allowed h s bytes e is = (fine_event h s bytes e is).0

pub seconds_fit : SecondsFit
seconds_fit h s bytes e is = (fine_event h s bytes e is).1
