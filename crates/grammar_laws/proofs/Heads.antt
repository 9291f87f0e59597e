-- Each header that lines lead to is allowed.
use Rattle.std.proofs.Common.{◌≡◌, ℕ, ◌+◌, ◌<◌, ◌≤◌, ◌^◌, ◌==◌, ◌&&◌, nat_le, nat_lt, not, Bool, true, false, if◌then◌else◌, List, [], ◌∷◌, ◌++◌, length, map, All, Option, Some, None, Result, Ok, Err, IfOk, IfSome, refl, subst, arith, codes, bytes_eq, leb-true, ltb-true, ltb-false}
use Rattle.std.specs.Char.{digit_value}
use Rattle.std.specs.List.{AllByRecursion, list_all}
use Rattle.std.specs.Str.Parse.{AllDigits, digits_value}
use Rattle.std.proofs.lemmas.Bool.Decides.{nat_tests}
use Rattle.std.proofs.lemmas.Int.Digits.{digits_value-lt}
use Rattle.std.proofs.Math.Nat.{pow-le-pow_right}
use Rattle.cl_base.specs.Limits.{most_nodes, most_nodes_at_first}
use Rattle.cl_base.specs.Sets.{set_with}
use Rattle.cl_base.specs.declared.header.DeviceKind.{DeviceKind}
use Rattle.cl_base.specs.declared.header.Header.{Header}
use Rattle.cl_base.specs.declared.header.HeaderDevice.{HeaderDevice}
use Rattle.cl_base.specs.declared.header.Version.{Version}
use Rattle.cl_base.specs.declared.header.Version.TheVariants.{One, Two}
use Rattle.schedule_text.specs.Allowed.{AreNodes, AreWithin, IsAllowedHead, IsAllowedState, IsAttached, IsHeader}
use Rattle.schedule_text.specs.Choices.{device_kind_in}
use Rattle.schedule_text.specs.Headers.{HeaderStep, More, Over, Bad, are_numbers, ascending, attached, cluster_line, cluster_step, configured_line, configured_step, counted, described, device_line, device_step, head_of, header_step, in_order, is_next, is_server, nodes_in, nodes_line, nodes_step, numbered, numbers_in, opening_line, senders_line, senders_step}
use Rattle.schedule_text.specs.Lines.{is_blank}
use Rattle.schedule_text.specs.Versions.{most_nodes_of}
use Rattle.schedule_text.specs.Words.{cluster_in, decimal_in, has_no_leading_zero, is_key, is_key_digit, key_in, unless_zero, words_of}
use Rattle.schedule_text.specs.declared.header.Head.{Head}
use Rattle.schedule_text.specs.declared.header.Head.TheVariants as head
use Rattle.schedule_text.specs.declared.header.HeaderState.{HeaderState}
use Rattle.schedule_text.specs.declared.header.HeaderState.TheVariants.{Opening, Senders, Complete, Cluster, Nodes, Configured, Devices}
use Rattle.schedule_text.specs.declared.kind.Kind.{Kind}
use Rattle.schedule_text.specs.declared.kind.Kind.TheVariants as kind
use Rattle.schedule_text.specs.declared.number.Numeral.{Numeral}
use Rattle.schedule_text.specs.declared.number.Numeral.TheVariants.{Within, Beyond}
use Rattle.schedule_text.specs.declared.numbers.NodeList.{NodeList}
use Rattle.schedule_text.proofs.HeaderLemmas.{header_more}
use Rattle.grammar_laws.specs.Reads.{HeadsAreAllowed, LacksServers, LeadTo, ServersAreNotRead}
use Rattle.grammar_laws.proofs.Fields.{few_nodes, left_true, none_within, one_node_more, right_true}

-- what was read of a header is allowed, and has no server
abbrev LacksServersIn : HeaderState → Type 0
LacksServersIn (Devices h) = LacksServers h
LacksServersIn _ = Unit {0}

abbrev pub IsFineState : HeaderState → Type 0
IsFineState state = IsAllowedState state × LacksServersIn state

-- and so is it after a line that adds to it
abbrev IsFineStep : HeaderStep → Type 0
IsFineStep (More state) = IsFineState state
IsFineStep Over = Unit {0}
IsFineStep (Bad k) = Unit {0}

-- ---- lists of nodes

wider : (low high set : ℕ) → low ≤ high → AreWithin low set → AreWithin high set
wider low high set le within = λ n h. ((within n h).0, omega (arith, (within n h).1))

-- what is listed: some nodes, the greatest of which is no more than the most
abbrev IsListed : ℕ → NodeList → Type 0
IsListed most list = AreNodes list.greatest list.nodes × (list.greatest ≤ most)

next_listed : (most greatest nodes n : ℕ) → most ≤ 32 → AreWithin greatest nodes → greatest < n → n ≤ most → AreNodes n (set_with nodes n)
next_listed most greatest nodes n few within low high =
    one_node_more nodes n n (wider greatest n nodes (omega (arith, low)) within) (omega (arith, low)) (omega (arith, few, high)) (omega arith)

-- the next node, and those that go on from it
more_if : (most greatest nodes n : ℕ) (numbers : List (Option Numeral)) (t : Bool) → (nat_lt greatest n && nat_le n most) ≡ t → most ≤ 32 → AreWithin greatest nodes
    → (n ≤ most → AreNodes n (set_with nodes n) → IfSome (ascending most n (set_with nodes n) numbers) (IsListed most))
    → IfSome (if t then ascending most n (set_with nodes n) numbers else None) (IsListed most)
more_if most greatest nodes n numbers true is few within rest =
    let low : greatest < n = ltb-true greatest n (left_true (nat_lt greatest n) (nat_le n most) is) in
    let high : n ≤ most = leb-true n most (right_true (nat_lt greatest n) (nat_le n most) is) in
    rest high (next_listed most greatest nodes n few within low high)
more_if most greatest nodes n numbers false is few within rest = tt

-- those that go on from some nodes
goes_on : (most greatest nodes : ℕ) (numbers : List (Option Numeral)) → most ≤ 32 → greatest ≤ most → AreNodes greatest nodes → IfSome (ascending most greatest nodes numbers) (IsListed most)
goes_on most greatest nodes [] few high are = (are, high)
goes_on most greatest nodes (None ∷ numbers) few high are = tt
goes_on most greatest nodes (Some Beyond ∷ numbers) few high are = tt
goes_on most greatest nodes (Some (Within n) ∷ numbers) few high are =
    more_if most greatest nodes n numbers (nat_lt greatest n && nat_le n most) refl few are.1 (λ here now. goes_on most n (set_with nodes n) numbers few here now)

-- and all of them, of which there is one at least
listed_all : (most : ℕ) (number : Option Numeral) (numbers : List (Option Numeral)) → most ≤ 32 → IfSome (ascending most 0 0 (number ∷ numbers)) (IsListed most)
listed_all most None numbers few = tt
listed_all most (Some Beyond) numbers few = tt
listed_all most (Some (Within n)) numbers few =
    more_if most 0 0 n numbers (nat_lt 0 n && nat_le n most) refl few (none_within 0) (λ here now. goes_on most n (set_with 0 n) numbers few here now)

listed_words_if : (most : ℕ) (words : List (List ℕ)) (t : Bool) → are_numbers words ≡ t → most ≤ 32 → are_numbers words ≡ true → IfSome (ascending most 0 0 (map decimal_in words)) (IsListed most)
listed_words_if most [] t is few some = absurd (cc)
listed_words_if most (w ∷ words) t is few some = listed_all most (decimal_in w) (map decimal_in words) few

ordered : (most : ℕ) (o : Option NodeList) → IfSome o (IsListed most) → IfOk (in_order o) (IsListed most)
ordered most None are = tt
ordered most (Some list) are = are

numbers_if : (most : ℕ) (words : List (List ℕ)) (t : Bool) → are_numbers words ≡ t → most ≤ 32
    → IfOk (if t then in_order (ascending most 0 0 (map decimal_in words)) else Err kind.Header) (IsListed most)
numbers_if most words true is few = ordered most (ascending most 0 0 (map decimal_in words)) (listed_words_if most words true is few is)
numbers_if most words false is few = tt

named_if : (most : ℕ) (words : List (List ℕ)) (t : Bool) → most ≤ 32 → IfOk (if t then numbers_in most words else Err kind.Header) (IsListed most)
named_if most words true few = numbers_if most words (are_numbers words) refl few
named_if most words false few = tt

nodes_listed : (name : List ℕ) (most : ℕ) (words : List (List ℕ)) → most ≤ 32 → IfOk (nodes_in name most words) (IsListed most)
nodes_listed name most [] few = tt
nodes_listed name most (word ∷ numbers) few = named_if most numbers (bytes_eq word name) few

-- ---- the lines of a header

opening_if : (one two three : Bool) → IsFineStep (if one then More Senders else if two then More (Cluster One) else if three then More (Cluster Two) else Bad kind.Header)
opening_if true two three = (tt, tt)
opening_if false true three = (tt, tt)
opening_if false false true = (tt, tt)
opening_if false false false = tt

opening_fine : (line : List ℕ) → IsFineStep (opening_line line)
opening_fine line = opening_if (bytes_eq line (codes "schedule pr 1")) (bytes_eq line (codes "schedule cluster 1")) (bytes_eq line (codes "schedule cluster 2"))

senders_stepped : (r : Result NodeList Kind) → IfOk r (IsListed 16) → IsFineStep (senders_step r)
senders_stepped (Ok list) are = ((are.0.0, wider list.greatest 16 list.nodes are.1 are.0.1), tt)
senders_stepped (Err k) are = tt

senders_fine : (words : List (List ℕ)) → IsFineStep (senders_line words)
senders_fine words = senders_stepped (nodes_in (codes "senders") most_nodes_at_first words) (nodes_listed (codes "senders") 16 words (omega arith))

-- the id of a cluster

abbrev IsId : ℕ → Type 0
IsId id = (1 ≤ id) × (id < 2 ^ 32)

key_digit : (b : ℕ) → is_key_digit b ≡ true → digit_value b < 16
key_digit b h = grind (arith, nat_tests)

key_digits : (w : List ℕ) → list_all is_key_digit w ≡ true → AllDigits 16 w
key_digits [] h = tt
key_digits (b ∷ w) h = (key_digit b (left_true (is_key_digit b) (list_all is_key_digit w) h), key_digits w (right_true (is_key_digit b) (list_all is_key_digit w) h))

key_below : (w : List ℕ) → is_key w ≡ true → length w ≤ 8 → digits_value 16 w < 2 ^ 32
key_below w is short =
    let digits : AllDigits 16 w = key_digits w (right_true (not (length w == 0) && nat_le (length w) 16 && has_no_leading_zero w) (list_all is_key_digit w) is) in
    let below : digits_value 16 w < 16 ^ length w = digits_value-lt 16 w digits in
    let most : 16 ^ length w ≤ 16 ^ 8 = pow-le-pow_right {n = 16} (omega arith) {i = length w} {j = 8} short in
    omega arith

not_zero : (n : ℕ) → (n == 0) ≡ false → 1 ≤ n
not_zero n is = grind (arith, nat_tests)

zero_if : (n : ℕ) (t : Bool) → (n == 0) ≡ t → n < 2 ^ 32 → IfSome (if t then None else Some n) IsId
zero_if n true is below = tt
zero_if n false is below = (not_zero n is, below)

key_if : (w : List ℕ) (t : Bool) → is_key w ≡ t → length w ≤ 8 → IfSome (unless_zero (if t then Some (digits_value 16 w) else None)) IsId
key_if w true is short = zero_if (digits_value 16 w) (digits_value 16 w == 0) refl (key_below w is short)
key_if w false is short = tt

short_if : (w : List ℕ) (t : Bool) → nat_le (length w) 8 ≡ t → IfSome (if t then unless_zero (key_in w) else None) IsId
short_if w true is = key_if w (is_key w) refl (leb-true (length w) 8 is)
short_if w false is = tt

cluster_read : (w : List ℕ) → IfSome (cluster_in w) IsId
cluster_read w = short_if w (nat_le (length w) 8) refl

cluster_stepped : (version : Version) (o : Option ℕ) → IfSome o IsId → IsFineStep (cluster_step version o)
cluster_stepped version None is = tt
cluster_stepped version (Some id) is = (is, tt)

cluster_if : (version : Version) (w : List ℕ) (t : Bool) → IsFineStep (if t then cluster_step version (cluster_in w) else Bad kind.Header)
cluster_if version w true = cluster_stepped version (cluster_in w) (cluster_read w)
cluster_if version w false = tt

cluster_fine : (version : Version) (words : List (List ℕ)) → IsFineStep (cluster_line version words)
cluster_fine version [] = tt
cluster_fine version (name ∷ []) = tt
cluster_fine version (name ∷ cluster ∷ []) = cluster_if version cluster (bytes_eq name (codes "cluster"))
cluster_fine version (name ∷ cluster ∷ other ∷ words) = tt

-- how many nodes there are

none_attached : (nodes : ℕ) → All (IsAttached nodes) []
none_attached nodes = λ k d lt. absurd (omega (arith, lt))

counted_fine : (version : Version) (id n : ℕ) → IsId id → 1 ≤ n → n ≤ most_nodes_of version → IsFineState (counted version id n)
counted_fine One id n is low high = (
  record {
    cluster_low = is.0;
    cluster_high = is.1;
    nodes_low = low;
    nodes_high = high;
    configured = refl;
    devices = omega arith;
    attached = none_attached n;
  },
  tt,
)
counted_fine Two id n is low high = ((is.0, is.1, low, high), tt)

count_if : (version : Version) (id n : ℕ) (t : Bool) → (nat_le 1 n && nat_le n (most_nodes_of version)) ≡ t → IsId id → IsFineStep (if t then More (counted version id n) else Bad kind.Number)
count_if version id n true within is =
    counted_fine version id n is (leb-true 1 n (left_true (nat_le 1 n) (nat_le n (most_nodes_of version)) within))
    (leb-true n (most_nodes_of version) (right_true (nat_le 1 n) (nat_le n (most_nodes_of version)) within))
count_if version id n false within is = tt

nodes_stepped : (version : Version) (id : ℕ) (o : Option Numeral) → IsId id → IsFineStep (nodes_step version id o)
nodes_stepped version id None is = tt
nodes_stepped version id (Some Beyond) is = tt
nodes_stepped version id (Some (Within n)) is = count_if version id n (nat_le 1 n && nat_le n (most_nodes_of version)) refl is

nodes_if : (version : Version) (id : ℕ) (w : List ℕ) (t : Bool) → IsId id → IsFineStep (if t then nodes_step version id (decimal_in w) else Bad kind.Header)
nodes_if version id w true is = nodes_stepped version id (decimal_in w) is
nodes_if version id w false is = tt

nodes_fine : (version : Version) (id : ℕ) (words : List (List ℕ)) → IsId id → IsFineStep (nodes_line version id words)
nodes_fine version id [] is = tt
nodes_fine version id (name ∷ []) is = tt
nodes_fine version id (name ∷ count ∷ []) is = nodes_if version id count (bytes_eq name (codes "nodes")) is
nodes_fine version id (name ∷ count ∷ other ∷ words) is = tt

-- which are configured

configured_if : (id nodes : ℕ) (list : NodeList) (t : Bool) → nat_lt nodes list.greatest ≡ t → IsId id → 1 ≤ nodes → nodes ≤ 32 → IsListed 32 list
    → IsFineStep (if t then Bad kind.Unknown else More (Devices (record { version = Two; cluster = id; nodes = nodes; configured = list.nodes; devices = [] })))
configured_if id nodes list true is known low high listed = tt
configured_if id nodes list false is known low high listed = (
  record {
    cluster_low = known.0;
    cluster_high = known.1;
    nodes_low = low;
    nodes_high = high;
    configured = (listed.0.0, wider list.greatest nodes list.nodes (ltb-false nodes list.greatest is) listed.0.1);
    devices = omega arith;
    attached = none_attached nodes;
  },
  tt,
)

configured_stepped : (id nodes : ℕ) (r : Result NodeList Kind) → IsId id → 1 ≤ nodes → nodes ≤ 32 → IfOk r (IsListed 32) → IsFineStep (configured_step id nodes r)
configured_stepped id nodes (Err k) known low high listed = tt
configured_stepped id nodes (Ok list) known low high listed = configured_if id nodes list (nat_lt nodes list.greatest) refl known low high listed

configured_fine : (id nodes : ℕ) (words : List (List ℕ)) → IsId id → 1 ≤ nodes → nodes ≤ 32 → IsFineStep (configured_line id nodes words)
configured_fine id nodes words known low high =
    configured_stepped id nodes (nodes_in (codes "configured") most_nodes words) known low high (nodes_listed (codes "configured") 32 words (omega arith))

-- and the devices

abbrev IsDeviceOf : Header → Option HeaderDevice → Type 0
IsDeviceOf h None = Unit {0}
IsDeviceOf h (Some d) = IsAttached h.nodes d × (length h.devices < 16) × (is_server d.kind ≡ false)

attached_if : (h : Header) (purpose : DeviceKind) (list : NodeList) (t : Bool) → nat_lt h.nodes list.greatest ≡ t → AreNodes list.greatest list.nodes → length h.devices < 16 → is_server purpose ≡ false
    → IfOk (if t then Err kind.Unknown else Ok (Some (record { kind = purpose; attached = list.nodes }))) (IsDeviceOf h)
attached_if h purpose list true is are room other = tt
attached_if h purpose list false is are room other = ((are.0, wider list.greatest h.nodes list.nodes (ltb-false h.nodes list.greatest is) are.1), room, other)

attached_fine : (h : Header) (purpose : DeviceKind) (o : Option NodeList) → IfSome o (IsListed (most_nodes_of h.version)) → length h.devices < 16 → is_server purpose ≡ false → IfOk (attached h purpose o) (IsDeviceOf h)
attached_fine h purpose None are room other = tt
attached_fine h purpose (Some list) are room other = attached_if h purpose list (nat_lt h.nodes list.greatest) refl are.0 room other

next_room : (h : Header) (number : Numeral) → is_next h number ≡ true → length h.devices < 16
next_room h Beyond is = absurd (cc)
next_room h (Within n) is =
    let here : (n == length h.devices + 1) ≡ true = left_true (n == length h.devices + 1) (nat_le n 16) is in
    let few : n ≤ 16 = leb-true n 16 (right_true (n == length h.devices + 1) (nat_le n 16) is) in
    let same : n ≡ length h.devices + 1 = grind (arith, nat_tests) in
    omega (arith, same, few)

few_of : (v : Version) → most_nodes_of v ≤ 32
few_of v = few_nodes v (most_nodes_of v) (omega arith)

numbered_if : (h : Header) (number : Numeral) (purpose : DeviceKind) (nodes : List (List ℕ)) (server here : Bool) → is_server purpose ≡ server → is_next h number ≡ here → are_numbers nodes ≡ true
    → IfOk (if server then Err kind.NotBuilt else if here then attached h purpose (ascending (most_nodes_of h.version) 0 0 (map decimal_in nodes)) else Err kind.Number) (IsDeviceOf h)
numbered_if h number purpose nodes true here other is some = tt
numbered_if h number purpose nodes false true other is some =
    attached_fine h purpose (ascending (most_nodes_of h.version) 0 0 (map decimal_in nodes)) (listed_words_if (most_nodes_of h.version) nodes true some (few_of h.version) some) (next_room h number is) other
numbered_if h number purpose nodes false false other is some = tt

described_if : (h : Header) (number : Numeral) (purpose : DeviceKind) (nodes : List (List ℕ)) (t : Bool) → are_numbers nodes ≡ t
    → IfOk (if t then numbered h number purpose nodes else Ok None) (IsDeviceOf h)
described_if h number purpose nodes true is = numbered_if h number purpose nodes (is_server purpose) (is_next h number) refl refl is
described_if h number purpose nodes false is = tt

described_fine : (h : Header) (number : Option Numeral) (purpose : Option DeviceKind) (nodes : List (List ℕ)) → IfOk (described h number purpose nodes) (IsDeviceOf h)
described_fine h None purpose nodes = tt
described_fine h (Some number) None nodes = tt
described_fine h (Some number) (Some purpose) nodes = described_if h number purpose nodes (are_numbers nodes) refl

device_if : (h : Header) (number purpose : List ℕ) (nodes : List (List ℕ)) (t : Bool)
    → IfOk (if t then described h (decimal_in number) (device_kind_in h.version purpose) nodes else Ok None) (IsDeviceOf h)
device_if h number purpose nodes true = described_fine h (decimal_in number) (device_kind_in h.version purpose) nodes
device_if h number purpose nodes false = tt

device_read : (h : Header) (words : List (List ℕ)) → IfOk (device_line h words) (IsDeviceOf h)
device_read h [] = tt
device_read h (name ∷ []) = tt
device_read h (name ∷ number ∷ []) = tt
device_read h (name ∷ number ∷ purpose ∷ nodes) = device_if h number purpose nodes (bytes_eq name (codes "device"))

one_more : (P : HeaderDevice → Type 0) (ds : List HeaderDevice) (d : HeaderDevice) → AllByRecursion P ds → P d → AllByRecursion P (ds ++ (d ∷ []))
one_more P [] d are is = (is, tt)
one_more P (x ∷ ds) d are is = (are.0, one_more P ds d are.1 is)

device_stepped : (h : Header) (r : Result (Option HeaderDevice) Kind) → IsFineState (Devices h) → IfOk r (IsDeviceOf h) → IsFineStep (device_step h r)
device_stepped h (Ok (Some d)) is device = (
  header_more h d (record h { devices = h.devices ++ (d ∷ []) }) refl is.0 device.1 device.0,
  one_more (λ (x : HeaderDevice). is_server x.kind ≡ false) h.devices d is.1 device.2,
)
device_stepped h (Ok None) is device = tt
device_stepped h (Err k) is device = tt

-- ---- each line, and all of them

blank_if : (state : HeaderState) (step : HeaderStep) (t : Bool) → IsFineState state → IsFineStep step → IsFineStep (if t then More state else step)
blank_if state step true is fine = is
blank_if state step false is fine = fine

step_fine : (state : HeaderState) (line : List ℕ) → IsFineState state → IsFineStep (header_step state line)
step_fine (Complete set) line is = tt
step_fine Opening line is = blank_if Opening (opening_line line) (is_blank line) is (opening_fine line)
step_fine Senders line is = blank_if Senders (senders_line (words_of line)) (is_blank line) is (senders_fine (words_of line))
step_fine (Cluster version) line is = blank_if (Cluster version) (cluster_line version (words_of line)) (is_blank line) is (cluster_fine version (words_of line))
step_fine (Nodes version id) line is = blank_if (Nodes version id) (nodes_line version id (words_of line)) (is_blank line) is (nodes_fine version id (words_of line) is.0)
step_fine (Configured id nodes) line is =
    blank_if (Configured id nodes) (configured_line id nodes (words_of line)) (is_blank line) is (configured_fine id nodes (words_of line) (is.0.0, is.0.1) is.0.2 is.0.3)
step_fine (Devices h) line is =
    blank_if (Devices h) (device_step h (device_line h (words_of line))) (is_blank line) is (device_stepped h (device_line h (words_of line)) is (device_read h (words_of line)))

pub first_fine : IsFineState Opening
first_fine = (tt, tt)

pub state_kept : (state next : HeaderState) (line : List ℕ) → IsFineState state → header_step state line ≡ More next → IsFineState next
state_kept state next line is step = subst IsFineStep step (step_fine state line is)

abbrev pub IsFineHead : Head → Type 0
IsFineHead (head.Pr senders) = AreNodes most_nodes_at_first senders
IsFineHead (head.Cluster h) = IsHeader h × LacksServers h

pub head_fine : (state : HeaderState) → IsFineState state → IfSome (head_of state) IsFineHead
head_fine (Complete set) is = is.0
head_fine (Devices h) is = is
head_fine Opening is = tt
head_fine Senders is = tt
head_fine (Cluster version) is = tt
head_fine (Nodes version id) is = tt
head_fine (Configured id nodes) is = tt

all_kept : (state now : HeaderState) (lines : List (List ℕ)) → IsFineState state → LeadTo state lines now → IsFineState now
all_kept state now [] is led = subst IsFineState led is
all_kept state now (line ∷ lines) is led = all_kept led.0 now lines (state_kept state led.0 line is led.1) led.2

fine_head : (lines : List (List ℕ)) (now : HeaderState) (found : Head) → LeadTo Opening lines now → head_of now ≡ Some found → IsFineHead found
fine_head lines now found led is = subst (λ (o : Option Head). IfSome o IsFineHead) is (head_fine now (all_kept Opening now lines first_fine led))

allowed_of : (found : Head) → IsFineHead found → IsAllowedHead found
allowed_of (head.Pr senders) is = is
allowed_of (head.Cluster h) is = is.0

pub heads_are_allowed : HeadsAreAllowed
heads_are_allowed lines now found led is = allowed_of found (fine_head lines now found led is)

pub servers_are_not_read : ServersAreNotRead
servers_are_not_read lines now h led is = (fine_head lines now (head.Cluster h) led is).1
