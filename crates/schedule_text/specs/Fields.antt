-- The fields of an event: what each word is, or the first kind of refusal that fits it. The kinds come in one order: a line that has no
-- form, a number out of its range, a node or device that the header lacks.
use Rattle.std.specs.Prelude.{ℕ, ◌+◌, ◌^◌, nat_le, nat_lt, Bool, ◌&&◌, if◌then◌else◌, List, [], ◌∷◌, length, slice_index, Option, Some, None, Result, Ok, Err}
use Rattle.std.specs.List.{list_all}
use Rattle.cl_base.specs.Names.{is_letter, is_name_byte}
use Rattle.cl_base.specs.Limits.{most_devices}
use Rattle.cl_base.specs.Sets.{set_with}
use Rattle.cl_base.specs.declared.header.Header.{Header}
use Rattle.schedule_text.specs.declared.kind.Kind.{Kind}
use Rattle.schedule_text.specs.declared.kind.Kind.TheVariants as kind
use Rattle.schedule_text.specs.declared.line.SoFar.{SoFar}
use Rattle.schedule_text.specs.declared.number.Numeral.{Numeral}
use Rattle.schedule_text.specs.declared.number.Numeral.TheVariants.{Within, Beyond}
use Rattle.schedule_text.specs.Versions.{most_nodes_of}
use Rattle.schedule_text.specs.Words.{decimal_in}

-- the place of a kind in the order
abbrev pub rank : Kind → ℕ
rank kind.Header = 0
rank kind.Line = 1
rank kind.NotBuilt = 2
rank kind.Number = 3
rank kind.Unknown = 4

abbrev pub first_kind : Kind → Kind → Kind
first_kind one other = if nat_le (rank one) (rank other) then one else other

-- two fields of one line
abbrev pub both : {A B : Type 0} → Result A Kind → Result B Kind → Result (A × B) Kind
both (Ok a) (Ok b) = Ok (a, b)
both (Ok a) (Err kind) = Err kind
both (Err kind) (Ok b) = Err kind
both (Err kind) (Err other) = Err (first_kind kind other)

-- a word that is one of a few, or has no form
abbrev pub one_of : {A : Type 0} → Option A → Result A Kind
one_of (Some a) = Ok a
one_of None = Err kind.Line

-- numbered from 1 to `most`; the header has the first `there` of them
abbrev pub listed : ℕ → ℕ → Option Numeral → Result ℕ Kind
listed most there None = Err kind.Line
listed most there (Some Beyond) = Err kind.Number
listed most there (Some (Within n)) =
    if nat_le 1 n && nat_le n most then (if nat_le n there then Ok n else Err kind.Unknown) else Err kind.Number

-- N
unfoldable pub node_in : Header → List ℕ → Result ℕ Kind
node_in h word = listed (most_nodes_of h.version) h.nodes (decimal_in word)

-- D
unfoldable pub device_in : Header → List ℕ → Result ℕ Kind
device_in h word = listed most_devices (length h.devices) (decimal_in word)

-- any number
abbrev pub number_of : Option Numeral → Result ℕ Kind
number_of None = Err kind.Line
number_of (Some Beyond) = Err kind.Number
number_of (Some (Within n)) = Ok n

-- a number that passes the test
abbrev pub tested : (ℕ → Bool) → Option Numeral → Result ℕ Kind
tested test None = Err kind.Line
tested test (Some Beyond) = Err kind.Number
tested test (Some (Within n)) = if test n then Ok n else Err kind.Number

-- P or V
unfoldable pub number_in : List ℕ → Result ℕ Kind
number_in word = number_of (decimal_in word)

-- the K of `crashat`
abbrev pub are_calls : ℕ → Bool
are_calls n = nat_le 1 n && nat_le n 1000

unfoldable pub calls_in : List ℕ → Result ℕ Kind
calls_in word = tested are_calls (decimal_in word)

-- the K of `rounds`: a schedule has at most 100,000 rounds
abbrev pub are_rounds : SoFar → ℕ → Bool
are_rounds s n = nat_le 1 n && nat_le n 100 && nat_le (s.rounds + n) 100000

unfoldable pub rounds_in : SoFar → List ℕ → Result ℕ Kind
rounds_in s word = tested (are_rounds s) (decimal_in word)

-- the S of `clock`, which does not fall
abbrev pub is_second : SoFar → ℕ → Bool
is_second s n = nat_le s.clock n

unfoldable pub second_in : SoFar → List ℕ → Result ℕ Kind
second_in s word = tested (is_second s) (decimal_in word)

-- the CLIENT and the PORT of `client`: they have 32 bits and 16
abbrev pub is_client : ℕ → Bool
is_client n = nat_lt n (2 ^ 32)

unfoldable pub client_in : List ℕ → Result ℕ Kind
client_in word = tested is_client (decimal_in word)

abbrev pub is_port : ℕ → Bool
is_port n = nat_lt n (2 ^ 16)

unfoldable pub port_in : List ℕ → Result ℕ Kind
port_in word = tested is_port (decimal_in word)

-- R, and the A of `client`
abbrev pub is_name : List ℕ → Bool
is_name word = nat_le 1 (length word) && nat_le (length word) 32 && is_letter (slice_index word 0) && list_all is_name_byte word

unfoldable pub named_in : List ℕ → Result (List ℕ) Kind
named_in word = if is_name word then Ok word else Err kind.Line

-- one more node of a set
abbrev pub with_node : Result ℕ Kind → Result ℕ Kind → Result ℕ Kind
with_node (Ok set) (Ok n) = Ok (set_with set n)
with_node (Ok set) (Err kind) = Err kind
with_node (Err kind) (Ok n) = Err kind
with_node (Err kind) (Err other) = Err (first_kind kind other)

-- N N ..: these nodes, in any order, beside those before them
abbrev pub nodes_from : Header → Result ℕ Kind → List (List ℕ) → Result ℕ Kind
nodes_from h before [] = before
nodes_from h before (word ∷ words) = nodes_from h (with_node before (node_in h word)) words
