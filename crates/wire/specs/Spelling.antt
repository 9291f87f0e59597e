-- The one spelling of each message: a kind byte, a sender byte, then the fields of its kind. Nothing
-- follows the last field. Numbers stand with their highest byte first.
use Rattle.std.specs.Prelude.{ℕ, ◌+◌, ◌<◌, ◌≤◌, ◌^◌, Bool, true, false, List, [], ◌∷◌, ◌++◌, length, Option, Some, None, IfSome}
use Rattle.std.specs.List.{flat_map, concat, AllByRecursion}
use Rattle.std.specs.Option.{option_to_list}
use Rattle.byteorder.specs.Endian.{big_bytes}
use Rattle.cl_base.specs.Methods.{place_of}
use Rattle.cl_base.specs.declared.method.Method.{Method}
use Rattle.cl_base.specs.declared.method.Outcome.{Outcome}
use Rattle.cl_base.specs.declared.method.Outcome.TheVariants.{Success, Failure, Timeout}
use Rattle.wire.specs.declared.lists.Reading.{Reading}
use Rattle.wire.specs.declared.report.Marks.{Marks}
use Rattle.wire.specs.declared.report.LastFailures.{LastFailures}
use Rattle.wire.specs.declared.report.LastFailures.TheVariants.{Never, Once, Twice}
use Rattle.wire.specs.declared.report.ResourceReport.{ResourceReport}
use Rattle.wire.specs.declared.report.GroupReport.{GroupReport}
use Rattle.wire.specs.declared.report.Report.{Report}
use Rattle.cl_base.specs.Seizings.{SeizeResult}
use Rattle.cl_base.specs.declared.seizing.SeizeEnd.TheVariants as seized
use Rattle.wire.specs.declared.message.Body.{Body}
use Rattle.wire.specs.declared.message.Body.TheVariants as body
use Rattle.wire.specs.declared.message.Message.{Message}
use Rattle.cl_base.specs.Kinds.{kind_byte}
use Rattle.wire.specs.Kinds.{kind_of}

-- ---- fields

-- a number in k bytes, the highest first
unfoldable pub number : ℕ → ℕ → List ℕ
number k n = big_bytes k n

-- an epoch, a place, the number of an order or a request, a word, a key, a second: 8 bytes
abbrev pub word : ℕ → List ℕ
word n = number 8 n

-- a set: 4 bytes, bit n - 1 for the number n
abbrev pub set : ℕ → List ℕ
set n = number 4 n

-- a node, a device: its number in a byte
abbrev pub one : ℕ → List ℕ
one n = n ∷ []

abbrev pub truth_byte : Bool → ℕ
truth_byte false = 0
truth_byte true = 1

-- a truth value: 0 or 1
abbrev pub truth : Bool → List ℕ
truth value = one (truth_byte value)

-- a text: its length in 4 bytes, and its bytes
unfoldable pub text : List ℕ → List ℕ
text bytes = number 4 (length bytes) ++ bytes

-- a list: its count in 2 bytes, and its items
unfoldable pub list : {A : Type 0} → (A → List ℕ) → List A → List ℕ
list item items = number 2 (length items) ++ flat_map item items

-- a list of at most one item
abbrev pub at_most_one : {A : Type 0} → (A → List ℕ) → Option A → List ℕ
at_most_one item found = list item (option_to_list found)

-- a method, or a clear in its place: 0 for a clear, else the method's place in the order of listing
abbrev pub method_byte : Option Method → ℕ
method_byte None = 0
method_byte (Some m) = place_of m

abbrev pub outcome_byte : Outcome → ℕ
outcome_byte Success = 0
outcome_byte Failure = 1
outcome_byte Timeout = 2

-- ---- what a list holds

-- a flag or a mark that is set adds its worth
abbrev pub worth : Bool → ℕ → ℕ
worth false n = 0
worth true n = n

abbrev pub marks_byte : Marks → ℕ
marks_byte m = worth m.pre 1 + worth m.run 2 + worth m.mon 4 + worth m.faulted 8 + worth m.stop_failed 16 + worth m.monitor_failed 32

abbrev pub seconds_of : LastFailures → List ℕ
seconds_of Never = []
seconds_of (Once a) = a ∷ []
seconds_of (Twice a b) = a ∷ b ∷ []

abbrev pub reading : Reading → List ℕ
reading r = concat (one r.device ∷ one r.seizer ∷ list word r.keys ∷ [])

abbrev pub resource_report : ResourceReport → List ℕ
resource_report r = concat (text r.resource ∷ one (marks_byte r.marks) ∷ [])

abbrev pub group_report : GroupReport → List ℕ
group_report r = concat (text r.group ∷ list word (seconds_of r.failures) ∷ at_most_one word r.moved ∷ [])

-- ---- messages

-- how a seizing ended: a byte, a number (the word or the key, else 0) and a list of keys (those that were
-- read last, where they tell anything, else none)
abbrev pub seized_result : SeizeResult → List ℕ
seized_result (seized.Held keys) = concat (one 0 ∷ word 0 ∷ list word keys ∷ [])
seized_result (seized.NotRegistered keys) = concat (one 1 ∷ word 0 ∷ list word keys ∷ [])
seized_result (seized.Greater w) = concat (one 2 ∷ word w ∷ list word [] ∷ [])
seized_result seized.Expelled = concat (one 3 ∷ word 0 ∷ list word [] ∷ [])
seized_result (seized.Contended key) = concat (one 4 ∷ word key ∷ list word [] ∷ [])
seized_result seized.Fault = concat (one 5 ∷ word 0 ∷ list word [] ∷ [])

abbrev pub report : Report → List ℕ
report r = concat (list resource_report r.resources ∷ list group_report r.groups ∷ [])

-- the fields of each kind
abbrev pub fields : Body → List ℕ
fields (body.Heartbeat promised session member) = concat (word promised ∷ word session ∷ truth member ∷ [])
fields (body.Collect epoch members) = concat (word epoch ∷ set members ∷ [])
fields (body.Promise epoch installed members valid flagged committed pending) =
    concat (word epoch ∷ word installed ∷ set members ∷ set valid ∷ truth flagged ∷ list text committed ∷ at_most_one text pending ∷ [])
fields (body.Nack epoch promised) = concat (word epoch ∷ word promised ∷ [])
fields (body.SeizeQuorum epoch members device) = concat (word epoch ∷ set members ∷ one device ∷ [])
fields (body.SeizeData epoch members device) = concat (word epoch ∷ set members ∷ one device ∷ [])
fields (body.Seized epoch device outcome) = concat (word epoch ∷ one device ∷ seized_result outcome ∷ [])
fields (body.Install i) =
    concat (word i.epoch ∷ set i.members ∷ list text i.committed ∷ at_most_one text i.pending ∷ list reading i.readings ∷ [])
fields (body.Ready epoch joined told) = concat (word epoch ∷ set joined ∷ report told ∷ [])
fields (body.Start epoch) = concat (word epoch ∷ [])
fields (body.Prepare epoch place update) = concat (word epoch ∷ word place ∷ text update ∷ [])
fields (body.Prepared epoch place) = concat (word epoch ∷ word place ∷ [])
fields (body.Commit epoch place) = concat (word epoch ∷ word place ∷ [])
fields (body.Order o) = concat (word o.epoch ∷ word o.number ∷ one (method_byte o.method) ∷ text o.resource ∷ [])
fields (body.Done epoch order outcome) = concat (word epoch ∷ word order ∷ one (outcome_byte outcome) ∷ [])
fields (body.Request epoch request words) = concat (word epoch ∷ word request ∷ text words ∷ [])
fields (body.Answer epoch request words) = concat (word epoch ∷ word request ∷ text words ∷ [])
fields (body.Excluded epoch newest) = concat (word epoch ∷ word newest ∷ [])

abbrev pub spelling : Message → List ℕ
spelling m = concat (one (kind_byte (kind_of m.body)) ∷ one m.sender ∷ fields m.body ∷ [])

-- ---- what can be spelled: lists whose length fits in 16 bits, and texts whose length fits in 32 bits

abbrev pub IsShortText : List ℕ → Type 0
IsShortText bytes = length bytes < 2 ^ 32

abbrev pub IsShortList : {A : Type 0} → (A → Type 0) → List A → Type 0
IsShortList item items = (length items < 2 ^ 16) × AllByRecursion item items

abbrev pub IsShortReading : Reading → Type 0
IsShortReading r = length r.keys < 2 ^ 16

abbrev pub IsShortResource : ResourceReport → Type 0
IsShortResource r = IsShortText r.resource

abbrev pub IsShortGroup : GroupReport → Type 0
IsShortGroup r = IsShortText r.group

abbrev pub IsShortReport : Report → Type 0
IsShortReport r = IsShortList IsShortResource r.resources × IsShortList IsShortGroup r.groups

abbrev pub IsShortResult : SeizeResult → Type 0
IsShortResult (seized.Held keys) = length keys < 2 ^ 16
IsShortResult (seized.NotRegistered keys) = length keys < 2 ^ 16
IsShortResult (seized.Greater w) = Unit {0}
IsShortResult seized.Expelled = Unit {0}
IsShortResult (seized.Contended key) = Unit {0}
IsShortResult seized.Fault = Unit {0}

abbrev pub IsShort : Body → Type 0
IsShort (body.Heartbeat promised session member) = Unit {0}
IsShort (body.Collect epoch members) = Unit {0}
IsShort (body.Promise epoch installed members valid flagged committed pending) = IsShortList IsShortText committed × IfSome pending IsShortText
IsShort (body.Nack epoch promised) = Unit {0}
IsShort (body.SeizeQuorum epoch members device) = Unit {0}
IsShort (body.SeizeData epoch members device) = Unit {0}
IsShort (body.Seized epoch device outcome) = IsShortResult outcome
IsShort (body.Install i) = IsShortList IsShortText i.committed × IfSome i.pending IsShortText × IsShortList IsShortReading i.readings
IsShort (body.Ready epoch joined told) = IsShortReport told
IsShort (body.Start epoch) = Unit {0}
IsShort (body.Prepare epoch place update) = IsShortText update
IsShort (body.Prepared epoch place) = Unit {0}
IsShort (body.Commit epoch place) = Unit {0}
IsShort (body.Order o) = IsShortText o.resource
IsShort (body.Done epoch order outcome) = Unit {0}
IsShort (body.Request epoch request words) = IsShortText words
IsShort (body.Answer epoch request words) = IsShortText words
IsShort (body.Excluded epoch newest) = Unit {0}

-- ---- what a message that is spelled holds: its numbers are in their ranges, its lists and texts short

abbrev pub IsWord : ℕ → Type 0
IsWord n = n < 2 ^ 64

abbrev pub IsNodes : ℕ → Type 0
IsNodes n = n < 2 ^ 32

abbrev pub IsDevices : ℕ → Type 0
IsDevices n = n < 2 ^ 16

abbrev pub IsNode : ℕ → Type 0
IsNode n = (1 ≤ n) × (n ≤ 32)

abbrev pub IsDevice : ℕ → Type 0
IsDevice n = (1 ≤ n) × (n ≤ 16)

abbrev pub FitsReading : Reading → Type 0
FitsReading r = IsDevice r.device × IsNode r.seizer × IsShortList IsWord r.keys

abbrev pub FitsGroup : GroupReport → Type 0
FitsGroup r = IsShortText r.group × AllByRecursion IsWord (seconds_of r.failures) × IfSome r.moved IsWord

abbrev pub FitsReport : Report → Type 0
FitsReport r = IsShortList IsShortResource r.resources × IsShortList FitsGroup r.groups

abbrev pub FitsResult : SeizeResult → Type 0
FitsResult (seized.Held keys) = IsShortList IsWord keys
FitsResult (seized.NotRegistered keys) = IsShortList IsWord keys
FitsResult (seized.Greater w) = IsWord w
FitsResult seized.Expelled = Unit {0}
FitsResult (seized.Contended key) = IsWord key
FitsResult seized.Fault = Unit {0}

abbrev pub FitsBody : Body → Type 0
FitsBody (body.Heartbeat promised session member) = IsWord promised × IsWord session
FitsBody (body.Collect epoch members) = IsWord epoch × IsNodes members
FitsBody (body.Promise epoch installed members valid flagged committed pending) =
    IsWord epoch × IsWord installed × IsNodes members × IsDevices valid × IsShortList IsShortText committed × IfSome pending IsShortText
FitsBody (body.Nack epoch promised) = IsWord epoch × IsWord promised
FitsBody (body.SeizeQuorum epoch members device) = IsWord epoch × IsNodes members × IsDevice device
FitsBody (body.SeizeData epoch members device) = IsWord epoch × IsNodes members × IsDevice device
FitsBody (body.Seized epoch device outcome) = IsWord epoch × IsDevice device × FitsResult outcome
FitsBody (body.Install i) =
    IsWord i.epoch × IsNodes i.members × IsShortList IsShortText i.committed × IfSome i.pending IsShortText × IsShortList FitsReading i.readings
FitsBody (body.Ready epoch joined told) = IsWord epoch × IsDevices joined × FitsReport told
FitsBody (body.Start epoch) = IsWord epoch
FitsBody (body.Prepare epoch place update) = IsWord epoch × IsWord place × IsShortText update
FitsBody (body.Prepared epoch place) = IsWord epoch × IsWord place
FitsBody (body.Commit epoch place) = IsWord epoch × IsWord place
FitsBody (body.Order o) = IsWord o.epoch × IsWord o.number × IsShortText o.resource
FitsBody (body.Done epoch order outcome) = IsWord epoch × IsWord order
FitsBody (body.Request epoch request words) = IsWord epoch × IsWord request × IsShortText words
FitsBody (body.Answer epoch request words) = IsWord epoch × IsWord request × IsShortText words
FitsBody (body.Excluded epoch newest) = IsWord epoch × IsWord newest

abbrev pub Fits : Message → Type 0
Fits m = IsNode m.sender × FitsBody m.body
