-- Reading from left to right: a field is a value and the bytes after it, or None where no such field stands in front.
use Rattle.std.specs.Prelude.{◌≡◌, ℕ, zero, suc, List, [], ◌∷◌, length, take, drop, Option, Some, None, Result, Ok, Err, Bool, true, false, nat_lt, nat_le, ◌==◌, ◌&&◌, if◌then◌else◌}
use Rattle.std.specs.Prelude.{bit_and, not}
use Rattle.std.specs.List.{find}
use Rattle.byteorder.specs.Endian.{big_number}
use Rattle.cl_base.specs.declared.method.Method.{Method}
use Rattle.cl_base.specs.declared.method.Method.TheVariants as method
use Rattle.cl_base.specs.declared.method.Outcome.{Outcome}
use Rattle.cl_base.specs.declared.method.Outcome.TheVariants.{Success, Failure, Timeout}
use Rattle.wire.specs.declared.lists.Reading.{Reading}
use Rattle.wire.specs.declared.report.Marks.{Marks}
use Rattle.wire.specs.declared.report.LastFailures.{LastFailures}
use Rattle.wire.specs.declared.report.LastFailures.TheVariants.{Never, Once, Twice}
use Rattle.wire.specs.declared.report.ResourceReport.{ResourceReport}
use Rattle.wire.specs.declared.report.GroupReport.{GroupReport}
use Rattle.wire.specs.declared.report.Report.{Report}
use Rattle.cl_base.specs.Seizings.{SeizeResult}
use Rattle.cl_base.specs.declared.seizing.SeizeEnd.TheVariants as seized
use Rattle.cl_base.specs.declared.packet.MessageKind.{MessageKind}
use Rattle.cl_base.specs.declared.packet.MessageKind.TheVariants as kind
use Rattle.wire.specs.declared.message.Body.{Body}
use Rattle.wire.specs.declared.message.Body.TheVariants as body
use Rattle.wire.specs.declared.message.Message.{Message}
use Rattle.cl_base.specs.Kinds.{kind_byte}
use Rattle.wire.specs.Spelling.{truth_byte, method_byte, outcome_byte}
use Rattle.wire.specs.declared.stop.Stop.{Stop}
use Rattle.wire.specs.declared.stop.Stop.TheVariants.{NoMemory, NoSpelling}

infixl 10 ◌>>=◌
abbrev pub ◌>>=◌ : {A B : Type 0} → Option A → (A → Option B) → Option B
(Some x) >>= f = f x
None >>= f = None

-- Reading fails, unless memory ran out.
abbrev pub Fails : {A : Type 0} → Stop → Option A → Type 0
Fails NoMemory read = Unit {0}
Fails NoSpelling read = read ≡ None

-- What a function gave, seen by view, is what reading gives, with these bytes left, unless memory ran out.
abbrev pub GivesAs : {A B : Type 0} → (A → B) → Result A Stop → Option (B × List ℕ) → List ℕ → Type 0
GivesAs view (Ok x) read left = read ≡ Some (view x, left)
GivesAs view (Err e) read left = Fails e read

abbrev pub Gives : {A : Type 0} → Result A Stop → Option (A × List ℕ) → List ℕ → Type 0
Gives result read left = GivesAs (λ x. x) result read left

-- a number of k bytes
unfoldable pub number_at : ℕ → List ℕ → Option (ℕ × List ℕ)
number_at k bytes = if nat_lt (length bytes) k then None else Some (big_number k bytes, drop k bytes)

-- one byte
unfoldable pub byte_at : List ℕ → Option (ℕ × List ℕ)
byte_at [] = None
byte_at (b ∷ bytes) = Some (b, bytes)

abbrev pub truth_of : ℕ → Option Bool
truth_of b = find (λ t. truth_byte t == b) (false ∷ true ∷ [])

-- a truth value: 0 or 1
unfoldable pub truth_at : List ℕ → Option (Bool × List ℕ)
truth_at bytes = do
  b ← byte_at bytes
  t ← truth_of b.0
  Some (t, b.1)

-- a node: 1 to 32
unfoldable pub node_at : List ℕ → Option (ℕ × List ℕ)
node_at bytes = do
  b ← byte_at bytes
  if nat_le 1 b.0 && nat_le b.0 32 then Some b else None

-- a device: 1 to 16
unfoldable pub device_at : List ℕ → Option (ℕ × List ℕ)
device_at bytes = do
  b ← byte_at bytes
  if nat_le 1 b.0 && nat_le b.0 16 then Some b else None

-- a text: its length in 4 bytes, and so many bytes
unfoldable pub text_at : List ℕ → Option (List ℕ × List ℕ)
text_at bytes = do
  n ← number_at 4 bytes
  if nat_lt (length n.1) n.0 then None else Some (take n.0 n.1, drop n.0 n.1)

-- a set of devices: 4 bytes, of which the upper 16 bits are 0
unfoldable pub devices_at : List ℕ → Option (ℕ × List ℕ)
devices_at bytes = do
  n ← number_at 4 bytes
  if nat_lt n.0 65536 then Some n else None

-- so many items
unfoldable pub items_at : {A : Type 0} → (List ℕ → Option (A × List ℕ)) → ℕ → List ℕ → Option (List A × List ℕ)
items_at item_at zero bytes = Some ([], bytes)
items_at item_at (suc n) bytes = do
  first ← item_at bytes
  others ← items_at item_at n first.1
  Some (first.0 ∷ others.0, others.1)

-- a list: its count in 2 bytes, and so many items
unfoldable pub list_at : {A : Type 0} → (List ℕ → Option (A × List ℕ)) → List ℕ → Option (List A × List ℕ)
list_at item_at bytes = do
  n ← number_at 2 bytes
  items_at item_at n.0 n.1

-- a list of at most one item
unfoldable pub at_most_one_at : {A : Type 0} → (List ℕ → Option (A × List ℕ)) → List ℕ → Option (Option A × List ℕ)
at_most_one_at item_at bytes = do
  n ← number_at 2 bytes
  if n.0 == 0 then Some (None, n.1) else if n.0 == 1 then (item_at n.1 >>= λ x. Some (Some x.0, x.1)) else None

abbrev pub methods : List (Option Method)
methods = None ∷ Some method.PrenetStart ∷ Some method.Start ∷ Some method.MonitorStart ∷ Some method.MonitorCheck ∷ Some method.MonitorStop ∷ Some method.Stop
    ∷ Some method.PostnetStop ∷ Some method.Validate ∷ Some method.Init ∷ Some method.Fini ∷ Some method.Boot ∷ Some method.Update ∷ []

-- the method that a byte stands for, or the clear
abbrev pub method_of : ℕ → Option (Option Method)
method_of b = find (λ m. method_byte m == b) methods

unfoldable pub method_at : List ℕ → Option (Option Method × List ℕ)
method_at bytes = do
  b ← byte_at bytes
  m ← method_of b.0
  Some (m, b.1)

abbrev pub outcome_of : ℕ → Option Outcome
outcome_of b = find (λ o. outcome_byte o == b) (Success ∷ Failure ∷ Timeout ∷ [])

unfoldable pub outcome_at : List ℕ → Option (Outcome × List ℕ)
outcome_at bytes = do
  b ← byte_at bytes
  o ← outcome_of b.0
  Some (o, b.1)

abbrev pub kinds : List MessageKind
kinds = kind.Heartbeat ∷ kind.Collect ∷ kind.Promise ∷ kind.Nack ∷ kind.SeizeQuorum ∷ kind.SeizeData ∷ kind.Seized ∷ kind.Install ∷ kind.Ready ∷ kind.Start
    ∷ kind.Prepare ∷ kind.Prepared ∷ kind.Commit ∷ kind.Order ∷ kind.Done ∷ kind.Request ∷ kind.Answer ∷ kind.Excluded ∷ []

-- the kind that a byte stands for
abbrev pub kind_of_byte : ℕ → Option MessageKind
kind_of_byte b = find (λ k. kind_byte k == b) kinds

unfoldable pub kind_at : List ℕ → Option (MessageKind × List ℕ)
kind_at bytes = do
  b ← byte_at bytes
  k ← kind_of_byte b.0
  Some (k, b.1)

-- flags and marks: a byte below 64
abbrev pub marks_of : ℕ → Marks
marks_of b = record {
  pre = not (bit_and b 1 == 0);
  run = not (bit_and b 2 == 0);
  mon = not (bit_and b 4 == 0);
  faulted = not (bit_and b 8 == 0);
  stop_failed = not (bit_and b 16 == 0);
  monitor_failed = not (bit_and b 32 == 0);
}

unfoldable pub marks_at : List ℕ → Option (Marks × List ℕ)
marks_at bytes = do
  b ← byte_at bytes
  if nat_lt b.0 64 then Some (marks_of b.0, b.1) else None

-- a list of at most two seconds
unfoldable pub failures_at : List ℕ → Option (LastFailures × List ℕ)
failures_at bytes = do
  n ← number_at 2 bytes
  if n.0 == 0 then Some (Never, n.1)
      else if n.0 == 1 then (number_at 8 n.1 >>= λ a. Some (Once a.0, a.1))
      else if n.0 == 2 then (number_at 8 n.1 >>= λ a. number_at 8 a.1 >>= λ b. Some (Twice a.0 b.0, b.1))
      else None

unfoldable pub reading_at : List ℕ → Option (Reading × List ℕ)
reading_at bytes = do
  device ← device_at bytes
  seizer ← node_at device.1
  keys ← list_at (number_at 8) seizer.1
  Some (record { device = device.0; seizer = seizer.0; keys = keys.0 }, keys.1)

unfoldable pub resource_at : List ℕ → Option (ResourceReport × List ℕ)
resource_at bytes = do
  resource ← text_at bytes
  marks ← marks_at resource.1
  Some (record { resource = resource.0; marks = marks.0 }, marks.1)

unfoldable pub group_at : List ℕ → Option (GroupReport × List ℕ)
group_at bytes = do
  group ← text_at bytes
  failures ← failures_at group.1
  moved ← at_most_one_at (number_at 8) failures.1
  Some (record { group = group.0; failures = failures.0; moved = moved.0 }, moved.1)

unfoldable pub report_at : List ℕ → Option (Report × List ℕ)
report_at bytes = do
  resources ← list_at resource_at bytes
  groups ← list_at group_at resources.1
  Some (record { resources = resources.0; groups = groups.0 }, groups.1)

-- how a seizing ended, of its byte, its number and its keys
abbrev pub seized_of : ℕ → ℕ → List ℕ → Option SeizeResult
seized_of code n keys =
    if (code == 0) && (n == 0) then Some (seized.Held keys)
    else if (code == 1) && (n == 0) then Some (seized.NotRegistered keys)
    else if (code == 2) && (length keys == 0) then Some (seized.Greater n)
    else if (code == 3) && (n == 0) && (length keys == 0) then Some seized.Expelled
    else if (code == 4) && (length keys == 0) then Some (seized.Contended n)
    else if (code == 5) && (n == 0) && (length keys == 0) then Some seized.Fault
    else None

unfoldable pub seized_result_at : List ℕ → Option (SeizeResult × List ℕ)
seized_result_at bytes = do
  code ← byte_at bytes
  n ← number_at 8 code.1
  keys ← list_at (number_at 8) n.1
  found ← seized_of code.0 n.0 keys.0
  Some (found, keys.1)

unfoldable pub heartbeat_at : List ℕ → Option (Body × List ℕ)
heartbeat_at bytes = do
  promised ← number_at 8 bytes
  session ← number_at 8 promised.1
  member ← truth_at session.1
  Some (body.Heartbeat promised.0 session.0 member.0, member.1)

unfoldable pub collect_at : List ℕ → Option (Body × List ℕ)
collect_at bytes = do
  epoch ← number_at 8 bytes
  members ← number_at 4 epoch.1
  Some (body.Collect epoch.0 members.0, members.1)

unfoldable pub promise_at : List ℕ → Option (Body × List ℕ)
promise_at bytes = do
  epoch ← number_at 8 bytes
  installed ← number_at 8 epoch.1
  members ← number_at 4 installed.1
  valid ← devices_at members.1
  flagged ← truth_at valid.1
  committed ← list_at text_at flagged.1
  pending ← at_most_one_at text_at committed.1
  Some (body.Promise epoch.0 installed.0 members.0 valid.0 flagged.0 committed.0 pending.0, pending.1)

unfoldable pub nack_at : List ℕ → Option (Body × List ℕ)
nack_at bytes = do
  epoch ← number_at 8 bytes
  promised ← number_at 8 epoch.1
  Some (body.Nack epoch.0 promised.0, promised.1)

unfoldable pub seize_quorum_at : List ℕ → Option (Body × List ℕ)
seize_quorum_at bytes = do
  epoch ← number_at 8 bytes
  members ← number_at 4 epoch.1
  device ← device_at members.1
  Some (body.SeizeQuorum epoch.0 members.0 device.0, device.1)

unfoldable pub seize_data_at : List ℕ → Option (Body × List ℕ)
seize_data_at bytes = do
  epoch ← number_at 8 bytes
  members ← number_at 4 epoch.1
  device ← device_at members.1
  Some (body.SeizeData epoch.0 members.0 device.0, device.1)

unfoldable pub seized_at : List ℕ → Option (Body × List ℕ)
seized_at bytes = do
  epoch ← number_at 8 bytes
  device ← device_at epoch.1
  outcome ← seized_result_at device.1
  Some (body.Seized epoch.0 device.0 outcome.0, outcome.1)

unfoldable pub install_at : List ℕ → Option (Body × List ℕ)
install_at bytes = do
  epoch ← number_at 8 bytes
  members ← number_at 4 epoch.1
  committed ← list_at text_at members.1
  pending ← at_most_one_at text_at committed.1
  readings ← list_at reading_at pending.1
  Some (body.Install (record { epoch = epoch.0; members = members.0; committed = committed.0; pending = pending.0; readings = readings.0 }), readings.1)

unfoldable pub ready_at : List ℕ → Option (Body × List ℕ)
ready_at bytes = do
  epoch ← number_at 8 bytes
  joined ← devices_at epoch.1
  report ← report_at joined.1
  Some (body.Ready epoch.0 joined.0 report.0, report.1)

unfoldable pub start_at : List ℕ → Option (Body × List ℕ)
start_at bytes = do
  epoch ← number_at 8 bytes
  Some (body.Start epoch.0, epoch.1)

unfoldable pub prepare_at : List ℕ → Option (Body × List ℕ)
prepare_at bytes = do
  epoch ← number_at 8 bytes
  place ← number_at 8 epoch.1
  text ← text_at place.1
  Some (body.Prepare epoch.0 place.0 text.0, text.1)

unfoldable pub prepared_at : List ℕ → Option (Body × List ℕ)
prepared_at bytes = do
  epoch ← number_at 8 bytes
  place ← number_at 8 epoch.1
  Some (body.Prepared epoch.0 place.0, place.1)

unfoldable pub commit_at : List ℕ → Option (Body × List ℕ)
commit_at bytes = do
  epoch ← number_at 8 bytes
  place ← number_at 8 epoch.1
  Some (body.Commit epoch.0 place.0, place.1)

unfoldable pub order_at : List ℕ → Option (Body × List ℕ)
order_at bytes = do
  epoch ← number_at 8 bytes
  number ← number_at 8 epoch.1
  method ← method_at number.1
  resource ← text_at method.1
  Some (body.Order (record { epoch = epoch.0; number = number.0; method = method.0; resource = resource.0 }), resource.1)

unfoldable pub done_at : List ℕ → Option (Body × List ℕ)
done_at bytes = do
  epoch ← number_at 8 bytes
  number ← number_at 8 epoch.1
  outcome ← outcome_at number.1
  Some (body.Done epoch.0 number.0 outcome.0, outcome.1)

unfoldable pub request_at : List ℕ → Option (Body × List ℕ)
request_at bytes = do
  epoch ← number_at 8 bytes
  number ← number_at 8 epoch.1
  text ← text_at number.1
  Some (body.Request epoch.0 number.0 text.0, text.1)

unfoldable pub answer_at : List ℕ → Option (Body × List ℕ)
answer_at bytes = do
  epoch ← number_at 8 bytes
  number ← number_at 8 epoch.1
  text ← text_at number.1
  Some (body.Answer epoch.0 number.0 text.0, text.1)

unfoldable pub excluded_at : List ℕ → Option (Body × List ℕ)
excluded_at bytes = do
  epoch ← number_at 8 bytes
  newest ← number_at 8 epoch.1
  Some (body.Excluded epoch.0 newest.0, newest.1)

-- the fields of a kind
unfoldable pub body_at : MessageKind → List ℕ → Option (Body × List ℕ)
body_at kind.Heartbeat bytes = heartbeat_at bytes
body_at kind.Collect bytes = collect_at bytes
body_at kind.Promise bytes = promise_at bytes
body_at kind.Nack bytes = nack_at bytes
body_at kind.SeizeQuorum bytes = seize_quorum_at bytes
body_at kind.SeizeData bytes = seize_data_at bytes
body_at kind.Seized bytes = seized_at bytes
body_at kind.Install bytes = install_at bytes
body_at kind.Ready bytes = ready_at bytes
body_at kind.Start bytes = start_at bytes
body_at kind.Prepare bytes = prepare_at bytes
body_at kind.Prepared bytes = prepared_at bytes
body_at kind.Commit bytes = commit_at bytes
body_at kind.Order bytes = order_at bytes
body_at kind.Done bytes = done_at bytes
body_at kind.Request bytes = request_at bytes
body_at kind.Answer bytes = answer_at bytes
body_at kind.Excluded bytes = excluded_at bytes

unfoldable pub message_at : List ℕ → Option (Message × List ℕ)
message_at bytes = do
  kind ← kind_at bytes
  sender ← node_at kind.1
  body ← body_at kind.0 sender.1
  Some (record { sender = sender.0; body = body.0 }, body.1)

-- a message and no byte after it
unfoldable pub whole_of : List ℕ → Option Message
whole_of bytes = do
  m ← message_at bytes
  if length m.1 == 0 then Some m.0 else None
