-- How many bytes the spelling of a message has, by its kind, its texts and its lists.
use Rattle.std.specs.Prelude.{◌≡◌, ℕ, ◌+◌, ◌*◌, List, length, Option}
use Rattle.std.specs.List.{sum_by}
use Rattle.std.specs.Option.{option_to_list}
use Rattle.wire.specs.declared.lists.Reading.{Reading}
use Rattle.wire.specs.declared.report.ResourceReport.{ResourceReport}
use Rattle.wire.specs.declared.report.GroupReport.{GroupReport}
use Rattle.wire.specs.declared.report.Report.{Report}
use Rattle.cl_base.specs.Seizings.{SeizeResult}
use Rattle.cl_base.specs.declared.seizing.SeizeEnd.TheVariants as seized
use Rattle.wire.specs.declared.message.Body.{Body}
use Rattle.wire.specs.declared.message.Body.TheVariants as body
use Rattle.wire.specs.declared.message.Message.{Message}
use Rattle.wire.specs.Spelling.{seconds_of, spelling}

abbrev pub text_length : List ℕ → ℕ
text_length bytes = 4 + length bytes

-- a list of numbers of 8 bytes
abbrev pub words_length : List ℕ → ℕ
words_length numbers = 2 + 8 * length numbers

-- a list of what may have texts
abbrev pub list_length : {A : Type 0} → (A → ℕ) → List A → ℕ
list_length item items = 2 + sum_by item items

-- the committed updates and the pending one
abbrev pub updates_length : List (List ℕ) → Option (List ℕ) → ℕ
updates_length committed pending = list_length text_length committed + list_length text_length (option_to_list pending)

abbrev pub reading_length : Reading → ℕ
reading_length r = 2 + words_length r.keys

abbrev pub resource_length : ResourceReport → ℕ
resource_length r = text_length r.resource + 1

abbrev pub group_length : GroupReport → ℕ
group_length r = text_length r.group + words_length (seconds_of r.failures) + words_length (option_to_list r.moved)

abbrev pub report_length : Report → ℕ
report_length r = list_length resource_length r.resources + list_length group_length r.groups

abbrev pub result_length : SeizeResult → ℕ
result_length (seized.Held keys) = 9 + words_length keys
result_length (seized.NotRegistered keys) = 9 + words_length keys
result_length (seized.Greater w) = 11
result_length seized.Expelled = 11
result_length (seized.Contended key) = 11
result_length seized.Fault = 11

abbrev pub fields_length : Body → ℕ
fields_length (body.Heartbeat promised session member) = 17
fields_length (body.Collect epoch members) = 12
fields_length (body.Promise epoch installed members valid flagged committed pending) = 25 + updates_length committed pending
fields_length (body.Nack epoch promised) = 16
fields_length (body.SeizeQuorum epoch members device) = 13
fields_length (body.SeizeData epoch members device) = 13
fields_length (body.Seized epoch device outcome) = 9 + result_length outcome
fields_length (body.Install i) = 12 + updates_length i.committed i.pending + list_length reading_length i.readings
fields_length (body.Ready epoch joined told) = 12 + report_length told
fields_length (body.Start epoch) = 8
fields_length (body.Prepare epoch place update) = 16 + text_length update
fields_length (body.Prepared epoch place) = 16
fields_length (body.Commit epoch place) = 16
fields_length (body.Order o) = 17 + text_length o.resource
fields_length (body.Done epoch order outcome) = 17
fields_length (body.Request epoch request words) = 16 + text_length words
fields_length (body.Answer epoch request words) = 16 + text_length words
fields_length (body.Excluded epoch newest) = 16

abbrev pub spelling_length : Message → ℕ
spelling_length m = 2 + fields_length m.body

abbrev pub SpellingsHaveTheirLength : Type 0
SpellingsHaveTheirLength = (m : Message) → length (spelling m) ≡ spelling_length m
