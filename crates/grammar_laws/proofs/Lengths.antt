-- The words of a command are no longer than the line that they are read from.
use Rattle.std.proofs.Common.{◌≡◌, ℕ, ◌≤◌, ◌==◌, ◌&&◌, Bool, true, false, if◌then◌else◌, List, [], ◌∷◌, length, Option, Some, None, Result, Ok, Err, IfOk, subst, codes, bytes_eq, arith, length-append}
use Rattle.std.specs.List.{list_all, join_with_byte}
use Rattle.std.proofs.lemmas.List.Splits.{join_with_byte-slice_split}
use Rattle.cl_base.specs.declared.header.Header.{Header}
use Rattle.cl_base.specs.declared.header.Version.{Version}
use Rattle.cl_base.specs.declared.header.Version.TheVariants.{One, Two}
use Rattle.schedule_text.specs.Choices.{choice_in, done_in, good_in}
use Rattle.schedule_text.specs.EventNames.{event_in}
use Rattle.schedule_text.specs.Events.{asked_in, call_in, client, clock, command, crash_at, event_line, event_of, fault, made, named_event, one_node, one_packet, outcome, probe, rounds, server, server_stop, since_two, two_nodes, unbuilt, write}
use Rattle.schedule_text.specs.Fields.{both, calls_in, device_in, named_in, node_in, nodes_from, number_in, one_of, rounds_in, second_in}
use Rattle.schedule_text.specs.Lines.{cluster_line_of, happens, is_blank}
use Rattle.schedule_text.specs.Words.{is_word, words_of}
use Rattle.schedule_text.specs.declared.event.Event.{Event}
use Rattle.schedule_text.specs.declared.event.Event.TheVariants as event
use Rattle.schedule_text.specs.declared.event.StopChoice.{StopChoice}
use Rattle.schedule_text.specs.declared.event_name.EventName.{EventName}
use Rattle.schedule_text.specs.declared.event_name.EventName.TheVariants as name
use Rattle.schedule_text.specs.declared.event_words.CallEnd.{CallEnd}
use Rattle.schedule_text.specs.declared.event_words.ClientPort.{ClientPort}
use Rattle.schedule_text.specs.declared.kind.Kind.{Kind}
use Rattle.schedule_text.specs.declared.kind.Kind.TheVariants as kind
use Rattle.schedule_text.specs.declared.line.ClusterLine.{ClusterLine}
use Rattle.schedule_text.specs.declared.line.ClusterLine.TheVariants as cluster
use Rattle.schedule_text.specs.declared.line.SoFar.{SoFar}
use Rattle.grammar_laws.specs.Reads.{CommandsFitTheirLines, HasFewBytes}

-- what fields make, where it is no command
made_other : (A : Type 0) (P : Event → Type 0) (make : A → Event) (a : Result A Kind) → ((x : A) → P (make x)) → IfOk (made make a) P
made_other A P make (Ok a) f = f a
made_other A P make (Err k) f = tt

crash_at_other : (h : Header) (most : ℕ) (fields : List (List ℕ)) → IfOk (crash_at h fields) (HasFewBytes most)
crash_at_other h most [] = tt
crash_at_other h most (node ∷ []) = tt
crash_at_other h most (node ∷ calls ∷ []) = tt
crash_at_other h most (node ∷ calls ∷ choice ∷ []) =
    made_other (ℕ × (ℕ × StopChoice)) (HasFewBytes most) (λ f. event.CrashAt f.0 f.1.0 f.1.1) (both (node_in h node) (both (calls_in calls) (one_of (choice_in choice)))) (λ f. tt)
crash_at_other h most (node ∷ calls ∷ choice ∷ other ∷ fields) = tt

fault_other : (h : Header) (most : ℕ) (fields : List (List ℕ)) → IfOk (fault h fields) (HasFewBytes most)
fault_other h most [] = tt
fault_other h most (node ∷ []) = tt
fault_other h most (node ∷ device ∷ []) = tt
fault_other h most (node ∷ device ∷ done ∷ []) =
    made_other (ℕ × (ℕ × Bool)) (HasFewBytes most) (λ f. event.Fault f.0 f.1.0 f.1.1) (both (node_in h node) (both (device_in h device) (one_of (done_in done)))) (λ f. tt)
fault_other h most (node ∷ device ∷ done ∷ other ∷ fields) = tt

write_other : (h : Header) (most : ℕ) (fields : List (List ℕ)) → IfOk (write h fields) (HasFewBytes most)
write_other h most [] = tt
write_other h most (node ∷ []) = tt
write_other h most (node ∷ device ∷ []) = tt
write_other h most (node ∷ device ∷ value ∷ []) =
    made_other (ℕ × (ℕ × ℕ)) (HasFewBytes most) (λ f. event.Write f.0 f.1.0 f.1.1) (both (node_in h node) (both (device_in h device) (number_in value))) (λ f. tt)
write_other h most (node ∷ device ∷ value ∷ other ∷ fields) = tt

outcome_other : (h : Header) (most : ℕ) (fields : List (List ℕ)) → IfOk (outcome h fields) (HasFewBytes most)
outcome_other h most [] = tt
outcome_other h most (node ∷ []) = tt
outcome_other h most (node ∷ resource ∷ []) = tt
outcome_other h most (node ∷ resource ∷ method ∷ []) = tt
outcome_other h most (node ∷ resource ∷ method ∷ ending ∷ []) =
    made_other (ℕ × (List ℕ × CallEnd)) (HasFewBytes most) (λ f. event.Outcome f.0 f.1.0 f.1.1.method f.1.1.outcome) (both (node_in h node) (both (named_in resource) (call_in method ending))) (λ f. tt)
outcome_other h most (node ∷ resource ∷ method ∷ ending ∷ other ∷ fields) = tt

probe_other : (h : Header) (most : ℕ) (fields : List (List ℕ)) → IfOk (probe h fields) (HasFewBytes most)
probe_other h most [] = tt
probe_other h most (node ∷ []) = tt
probe_other h most (node ∷ resource ∷ []) = tt
probe_other h most (node ∷ resource ∷ good ∷ []) =
    made_other (ℕ × (List ℕ × Bool)) (HasFewBytes most) (λ f. event.Probe f.0 f.1.0 f.1.1) (both (node_in h node) (both (named_in resource) (one_of (good_in good)))) (λ f. tt)
probe_other h most (node ∷ resource ∷ good ∷ other ∷ fields) = tt

clock_other : (s : SoFar) (most : ℕ) (fields : List (List ℕ)) → IfOk (clock s fields) (HasFewBytes most)
clock_other s most [] = tt
clock_other s most (second ∷ []) = made_other ℕ (HasFewBytes most) event.Clock (second_in s second) (λ n. tt)
clock_other s most (second ∷ other ∷ fields) = tt

rounds_if : (h : Header) (s : SoFar) (most : ℕ) (count : List ℕ) (nodes : List (List ℕ)) (t : Bool)
    → IfOk (if t then Err kind.Line else made (λ f. event.Rounds f.0 f.1) (both (rounds_in s count) (nodes_from h (Ok 0) nodes))) (HasFewBytes most)
rounds_if h s most count nodes true = tt
rounds_if h s most count nodes false =
    made_other (ℕ × ℕ) (HasFewBytes most) (λ f. event.Rounds f.0 f.1) (both (rounds_in s count) (nodes_from h (Ok 0) nodes)) (λ f. tt)

rounds_other : (h : Header) (s : SoFar) (most : ℕ) (fields : List (List ℕ)) → IfOk (rounds h s fields) (HasFewBytes most)
rounds_other h s most [] = tt
rounds_other h s most (count ∷ nodes) = rounds_if h s most count nodes (length nodes == 0)

client_other : (h : Header) (most : ℕ) (fields : List (List ℕ)) → IfOk (client h fields) (HasFewBytes most)
client_other h most [] = tt
client_other h most (node ∷ []) = tt
client_other h most (node ∷ address ∷ []) = tt
client_other h most (node ∷ address ∷ number ∷ []) = tt
client_other h most (node ∷ address ∷ number ∷ port ∷ []) =
    made_other (ℕ × (List ℕ × ClientPort)) (HasFewBytes most) (λ f. event.Client f.0 f.1.0 f.1.1.client f.1.1.port) (both (node_in h node) (both (named_in address) (asked_in number port))) (λ f. tt)
client_other h most (node ∷ address ∷ number ∷ port ∷ other ∷ fields) = tt

since_other : (v : Version) (r : Result Event Kind) (P : Event → Type 0) → IfOk r P → IfOk (since_two v r) P
since_other One r P is = tt
since_other Two r P is = is

unbuilt_other : (t : Bool) (P : Event → Type 0) → IfOk (unbuilt t) P
unbuilt_other true P = tt
unbuilt_other false P = tt

server_other : (most : ℕ) (fields : List (List ℕ)) → IfOk (server fields) (HasFewBytes most)
server_other most [] = tt
server_other most (node ∷ []) = tt
server_other most (node ∷ device ∷ []) = tt
server_other most (node ∷ device ∷ first ∷ words) = unbuilt_other _ (HasFewBytes most)

server_stop_other : (most : ℕ) (fields : List (List ℕ)) → IfOk (server_stop fields) (HasFewBytes most)
server_stop_other most [] = tt
server_stop_other most (device ∷ []) = tt
server_stop_other most (device ∷ calls ∷ []) = tt
server_stop_other most (device ∷ calls ∷ choice ∷ []) = unbuilt_other _ (HasFewBytes most)
server_stop_other most (device ∷ calls ∷ choice ∷ other ∷ fields) = tt

-- ---- a command: its words stand in its line behind its name and its node

command_if : (h : Header) (most : ℕ) (node first : List ℕ) (words : List (List ℕ)) (t : Bool) → length (join_with_byte 32 (first ∷ words)) ≤ most
    → IfOk (if t then made (λ n. event.Command n (join_with_byte 32 (first ∷ words))) (node_in h node) else Err kind.Line) (HasFewBytes most)
command_if h most node first words true few = made_other ℕ (HasFewBytes most) (λ n. event.Command n (join_with_byte 32 (first ∷ words))) (node_in h node) (λ n. few)
command_if h most node first words false few = tt

command_few : (h : Header) (most : ℕ) (fields : List (List ℕ)) → length (join_with_byte 32 fields) ≤ most → IfOk (command h fields) (HasFewBytes most)
command_few h most [] few = tt
command_few h most (node ∷ []) few = tt
command_few h most (node ∷ first ∷ words) few =
    command_if h most node first words (is_word first && list_all is_word words) (omega (arith, few, length-append node (32 ∷ join_with_byte 32 (first ∷ words))))

-- ---- the event of a name and fields

event_few : (h : Header) (s : SoFar) (most : ℕ) (k : EventName) (fields : List (List ℕ)) → length (join_with_byte 32 fields) ≤ most → IfOk (event_of h s k fields) (HasFewBytes most)
event_few h s most name.Boot fields few = made_other ℕ (HasFewBytes most) event.Boot (one_node h fields) (λ n. tt)
event_few h s most name.Crash fields few = made_other ℕ (HasFewBytes most) event.Crash (one_node h fields) (λ n. tt)
event_few h s most name.CrashAt fields few = crash_at_other h most fields
event_few h s most name.Tick fields few = made_other ℕ (HasFewBytes most) event.Tick (one_node h fields) (λ n. tt)
event_few h s most name.Deliver fields few = made_other ℕ (HasFewBytes most) event.Deliver (one_packet fields) (λ n. tt)
event_few h s most name.Lose fields few = made_other ℕ (HasFewBytes most) event.Lose (one_packet fields) (λ n. tt)
event_few h s most name.Repeat fields few = made_other ℕ (HasFewBytes most) event.Repeat (one_packet fields) (λ n. tt)
event_few h s most name.Next fields few = made_other (ℕ × ℕ) (HasFewBytes most) (λ f. event.Next f.0 f.1) (two_nodes h fields) (λ f. tt)
event_few h s most name.Drop fields few = made_other (ℕ × ℕ) (HasFewBytes most) (λ f. event.Drop f.0 f.1) (two_nodes h fields) (λ f. tt)
event_few h s most name.Again fields few = made_other (ℕ × ℕ) (HasFewBytes most) (λ f. event.Again f.0 f.1) (two_nodes h fields) (λ f. tt)
event_few h s most name.Disk fields few = made_other ℕ (HasFewBytes most) event.Disk (one_node h fields) (λ n. tt)
event_few h s most name.Fault fields few = fault_other h most fields
event_few h s most name.Write fields few = write_other h most fields
event_few h s most name.Command fields few = command_few h most fields few
event_few h s most name.Outcome fields few = outcome_other h most fields
event_few h s most name.Probe fields few = probe_other h most fields
event_few h s most name.Clock fields few = clock_other s most fields
event_few h s most name.Rounds fields few = rounds_other h s most fields
event_few h s most name.Client fields few = since_other h.version (client h fields) (HasFewBytes most) (client_other h most fields)
event_few h s most name.Server fields few = since_other h.version (server fields) (HasFewBytes most) (server_other most fields)
event_few h s most name.ServerStop fields few = since_other h.version (server_stop fields) (HasFewBytes most) (server_stop_other most fields)

named_few : (h : Header) (s : SoFar) (most : ℕ) (k : Option EventName) (fields : List (List ℕ)) → length (join_with_byte 32 fields) ≤ most → IfOk (named_event h s k fields) (HasFewBytes most)
named_few h s most None fields few = tt
named_few h s most (Some k) fields few = event_few h s most k fields few

words_few : (h : Header) (s : SoFar) (most : ℕ) (words : List (List ℕ)) → length (join_with_byte 32 words) ≤ most → IfOk (event_line h s words) (HasFewBytes most)
words_few h s most [] few = tt
words_few h s most (word ∷ []) few = named_few h s most (event_in word) [] (omega arith)
words_few h s most (word ∷ field ∷ fields) few =
    named_few h s most (event_in word) (field ∷ fields) (omega (arith, few, length-append word (32 ∷ join_with_byte 32 (field ∷ fields))))

-- ---- the line

abbrev IsFewOf : ℕ → ClusterLine → Type 0
IsFewOf most cluster.Blank = Unit {0}
IsFewOf most cluster.End = Unit {0}
IsFewOf most (cluster.Event e) = HasFewBytes most e

happens_few : (most : ℕ) (r : Result Event Kind) → IfOk r (HasFewBytes most) → IfOk (happens r) (IsFewOf most)
happens_few most (Ok e) is = is
happens_few most (Err k) is = tt

line_if : (h : Header) (s : SoFar) (bytes : List ℕ) (blank ends : Bool)
    → IfOk (if blank then Ok cluster.Blank else if ends then Ok cluster.End else happens (event_line h s (words_of bytes))) (IsFewOf (length bytes))
line_if h s bytes true ends = tt
line_if h s bytes false true = tt
line_if h s bytes false false =
    let spelled : join_with_byte 32 (words_of bytes) ≡ bytes = join_with_byte-slice_split 32 bytes in
    happens_few (length bytes) (event_line h s (words_of bytes)) (words_few h s (length bytes) (words_of bytes) (rw spelled (omega arith)))

line_few : (h : Header) (s : SoFar) (bytes : List ℕ) → IfOk (cluster_line_of h s bytes) (IsFewOf (length bytes))
line_few h s bytes = line_if h s bytes (is_blank bytes) (bytes_eq bytes (codes "end"))

pub commands_fit_their_lines : CommandsFitTheirLines
commands_fit_their_lines h s bytes e is = subst (λ (r : Result ClusterLine Kind). IfOk r (IsFewOf (length bytes))) is (line_few h s bytes)
