-- No text of an entry has a newline.
use Rattle.std.proofs.Common.{◌≡◌, ◌≢◌, ℕ, suc, ◌/◌, ◌%◌, ◌<◌, ◌≤◌, Bool, true, false, ◌==◌, if◌then◌else◌, Option, Some, None, List, [], ◌∷◌, ◌++◌, slice_index, refl, ap, subst, codes, arith}
use Rattle.std.specs.List.{AllByRecursion, flat_map}
use Rattle.std.specs.Fmt.{decimal}
use Rattle.std.specs.Char.{digit_value}
use Rattle.std.specs.Str.Parse.{AllDigits}
use Rattle.std.proofs.lemmas.Fmt.{digits_is_IsNumeral, decimal_is_IsNumeral}
use Rattle.std.proofs.lemmas.List.Elements.{recursion_from_All}
use Rattle.std.proofs.lemmas.Bool.{eqb-true}
use Rattle.hex.specs.Hex.{encode_with, encode_lower, lower_digits, hex_digit_value, IsBytes}
use Rattle.hex.proofs.HexLemmas.{IsDigits-lower_digits}
use Rattle.cl_base.specs.Names.{IsName, is_name_byte}
use Rattle.cl_base.specs.declared.panic.Panic.TheVariants as panic
use Rattle.cl_base.specs.declared.reason.Reason.{Reason}
use Rattle.cl_base.specs.declared.reason.Reason.TheVariants as reason
use Rattle.cl_base.specs.declared.state.GroupState.{GroupState}
use Rattle.cl_base.specs.declared.state.GroupState.TheVariants as group
use Rattle.cl_base.specs.declared.state.ResourceState.{ResourceState}
use Rattle.cl_base.specs.declared.state.ResourceState.TheVariants as resource
use Rattle.cl_base.specs.declared.method.Method.{Method}
use Rattle.cl_base.specs.declared.method.Method.TheVariants as method
use Rattle.cl_base.specs.declared.method.Outcome.{Outcome}
use Rattle.cl_base.specs.declared.method.Outcome.TheVariants.{Success, Failure, Timeout}
use Rattle.cl_base.specs.declared.refusal.Thing.{Thing}
use Rattle.cl_base.specs.declared.refusal.Thing.TheVariants.{Named, Numbered}
use Rattle.cl_base.specs.declared.refusal.Refusal.TheVariants as refusal
use Rattle.pgr_device.specs.declared.kind.PrKind.{PrKind}
use Rattle.pgr_device.specs.declared.kind.PrKind.TheVariants.{WriteExclusive, ExclusiveAccess, WriteExclusiveRegistrantsOnly, ExclusiveAccessRegistrantsOnly}
use Rattle.pgr_device.specs.declared.command.PrAnswer.{PrAnswer}
use Rattle.pgr_device.specs.declared.command.PrAnswer.TheVariants as given
use Rattle.pgr_device.specs.declared.command.PrCommand.{PrCommand}
use Rattle.pgr_device.specs.declared.command.PrCommand.TheVariants as command
use Rattle.cl_base.specs.declared.seizing.Lack.{Lack}
use Rattle.cl_base.specs.declared.seizing.Obstacle.{Obstacle}
use Rattle.cl_base.specs.declared.seizing.Obstacle.TheVariants.{NoPath, Seizing}
use Rattle.cl_base.specs.declared.seizing.SeizeEnd.{SeizeEnd}
use Rattle.cl_base.specs.declared.seizing.SeizeEnd.TheVariants as seized
use Rattle.status_report.specs.declared.address_entry.AddressEntry.TheVariants as address
use Rattle.status_report.specs.declared.attempt_entry.AttemptEntry.TheVariants as attempt
use Rattle.status_report.specs.declared.call_entry.ProbeResult.{ProbeResult}
use Rattle.status_report.specs.declared.call_entry.ProbeResult.TheVariants as probe
use Rattle.status_report.specs.declared.call_entry.CallEntry.TheVariants as call
use Rattle.status_report.specs.declared.command_entry.Answer.{Answer}
use Rattle.status_report.specs.declared.command_entry.Answer.TheVariants as answer
use Rattle.status_report.specs.declared.command_entry.CommandEntry.TheVariants as asking
use Rattle.status_report.specs.declared.device_entry.DeviceAnswer.{DeviceAnswer}
use Rattle.status_report.specs.declared.device_entry.DeviceAnswer.TheVariants.{Given, Failed}
use Rattle.status_report.specs.declared.device_entry.WriteRefusal.{WriteRefusal}
use Rattle.status_report.specs.declared.device_entry.WriteRefusal.TheVariants as refused
use Rattle.status_report.specs.declared.device_entry.DeviceEntry.TheVariants as device
use Rattle.status_report.specs.declared.node_entry.DownCause.{DownCause}
use Rattle.status_report.specs.declared.node_entry.DownCause.TheVariants as down
use Rattle.status_report.specs.declared.node_entry.NodeEntry.TheVariants as node
use Rattle.cl_base.specs.declared.packet.MessageKind.{MessageKind}
use Rattle.cl_base.specs.declared.packet.MessageKind.TheVariants as message
use Rattle.cl_base.specs.declared.packet.DropCause.{DropCause}
use Rattle.cl_base.specs.declared.packet.DropCause.TheVariants as dropped
use Rattle.status_report.specs.declared.packet_entry.PacketEntry.TheVariants as packet
use Rattle.status_report.specs.declared.schedule_entry.SkipCause.{SkipCause}
use Rattle.status_report.specs.declared.schedule_entry.SkipCause.TheVariants as skip
use Rattle.status_report.specs.declared.schedule_entry.ScheduleEntry.TheVariants as schedule
use Rattle.status_report.specs.declared.start_entry.AdoptedFlags.{AdoptedFlags}
use Rattle.status_report.specs.declared.start_entry.StartEntry.TheVariants as start
use Rattle.status_report.specs.declared.status_entry.QuorumState.{QuorumState}
use Rattle.status_report.specs.declared.status_entry.QuorumState.TheVariants.{Held, Lost, Off}
use Rattle.status_report.specs.declared.status_entry.TableLine.TheVariants as table
use Rattle.status_report.specs.declared.status_entry.StatusEntry.TheVariants as status
use Rattle.status_report.specs.declared.update_entry.UpdateEntry.TheVariants as update
use Rattle.status_report.specs.declared.entry.Entry.{Entry}
use Rattle.status_report.specs.declared.entry.Entry.TheVariants as entry
use Rattle.cl_base.specs.Numbers.{by_commas, numbers_to, set_text}
use Rattle.status_report.specs.Words.{hex, joined}
use Rattle.status_report.specs.PrAnswers.{kind_text, answer_text, command_text}
use Rattle.status_report.specs.NodeLines.{down_text}
use Rattle.status_report.specs.PacketLines.{kind_text as message_kind_text, numbered_text, drop_text}
use Rattle.status_report.specs.DeviceLines.{given_text, write_refusal_text}
use Rattle.status_report.specs.AddressLines.{target_text}
use Rattle.status_report.specs.AttemptLines.{end_text, obstacle_text, lack_text, lacking_text}
use Rattle.status_report.specs.StartLines.{letter_if, flags_text}
use Rattle.status_report.specs.CallLines.{method_text, outcome_text, probe_text}
use Rattle.status_report.specs.CommandLines.{thing_text, reply_text}
use Rattle.status_report.specs.StatusLines.{group_state_text, resource_state_text, reason_text, member_text, quorum_state_text}
use Rattle.status_report.specs.ScheduleLines.{skip_text}
use Rattle.status_report.specs.Lines.{entry_text}
use Rattle.status_report.specs.Entries.{IsNumber, IsLine, IsPrAnswer, IsPrCommand, IsDown, IsNumbered, IsDeviceAnswer, IsSeizeEnd, IsObstacle, IsLack, IsThing, IsAnswer, IsReason, IsEntry}
use Rattle.status_report.proofs.Reading.{below_16}
use Rattle.status_report.proofs.Lists.{set_numbers}

unfoldable pub no_newline : List ℕ → Bool
no_newline [] = true
no_newline (b ∷ bs) = if b == 10 then false else no_newline bs

not_newline : (b : ℕ) (test : Bool) (rest : Bool) → (b == 10) ≡ test → (if test then false else rest) ≡ true → (b ≢ 10) × (rest ≡ true)
not_newline b true rest e h = absurd (cc)
not_newline b false rest e h = ((λ same. let yes : (b == 10) ≡ true = ap (λ (v : ℕ). v == 10) same in absurd (cc (yes, e))), h)

pub line_from : (text : List ℕ) → no_newline text ≡ true → IsLine text
unfolding no_newline
line_from [] h = tt
line_from (b ∷ text) h = let both = not_newline b (b == 10) (no_newline text) refl h in (both.0, line_from text both.1)

is_other : (b : ℕ) (test : Bool) → (b == 10) ≡ test → b ≢ 10 → test ≡ false
is_other b true e ne = absurd (ne (eqb-true b 10 e))
is_other b false e ne = refl

line : (text : List ℕ) → IsLine text → no_newline text ≡ true
unfolding no_newline
line [] h = refl
line (b ∷ text) h = rw (is_other b (b == 10) refl h.0, line text h.1) refl

-- what is read over
over : (front : List ℕ) → no_newline front ≡ true → (rest : List ℕ) → no_newline (front ++ rest) ≡ no_newline rest
unfolding no_newline
over [] h rest = refl
over (b ∷ front) h rest = let both = not_newline b (b == 10) (no_newline front) refl h in rw (is_other b (b == 10) refl both.0, over front both.1 rest) refl

-- ---- words

digit_is_other : (radix b : ℕ) → radix ≤ 16 → digit_value b < radix → b ≢ 10
digit_is_other radix b le low same = omega (arith, subst (λ (v : ℕ). digit_value v < radix) same low, le)

digits_line : (radix : ℕ) (ds : List ℕ) → radix ≤ 16 → AllDigits radix ds → IsLine ds
digits_line radix [] le h = tt
digits_line radix (d ∷ ds) le h = (digit_is_other radix d le h.0, digits_line radix ds le h.1)

num : (n : ℕ) → IsNumber n → no_newline (decimal n) ≡ true
num n h = line (decimal n) (digits_line 10 (decimal n) (omega arith) (decimal_is_IsNumeral n h).0.1)

key : (n : ℕ) → IsNumber n → no_newline (hex n) ≡ true
key n h = line (hex n) (digits_line 16 (hex n) (omega arith) (digits_is_IsNumeral 16 false (omega arith) (omega arith) n (below_16 n h)).0.1)

name_byte_is_other : (b : ℕ) → is_name_byte b ≡ true → b ≢ 10
name_byte_is_other b h same = let no : false ≡ true = subst (λ (v : ℕ). is_name_byte v ≡ true) same h in absurd (cc)

name_bytes_line : (bytes : List ℕ) → AllByRecursion (λ b. is_name_byte b ≡ true) bytes → IsLine bytes
name_bytes_line [] h = tt
name_bytes_line (b ∷ bytes) h = (name_byte_is_other b h.0, name_bytes_line bytes h.1)

name : (bytes : List ℕ) → IsName bytes → no_newline bytes ≡ true
name bytes h = line bytes (name_bytes_line bytes (recursion_from_All (λ b. is_name_byte b ≡ true) bytes h.3))

hex_digit_is_other : (k : ℕ) → k < 16 → slice_index lower_digits k ≢ 10
hex_digit_is_other k low same = cc (IsDigits-lower_digits k low, ap hex_digit_value same)

bytes_line : (bytes : List ℕ) → IsBytes bytes → IsLine (encode_lower bytes)
unfolding encode_with
bytes_line [] h = tt
bytes_line (b ∷ bytes) h =
    let fits : b < 256 = h 0 in
    (hex_digit_is_other (b / 16) (omega arith), (hex_digit_is_other (b % 16) (omega arith), bytes_line bytes (λ k. h (suc k))))

hex_bytes : (bytes : List ℕ) → IsBytes bytes → no_newline (encode_lower bytes) ≡ true
hex_bytes bytes h = line (encode_lower bytes) (bytes_line bytes h)

-- ---- lists

tails : {A : Type 0} (c : ℕ) (spell : A → List ℕ) (P : A → Type 0) → (c == 10) ≡ false → ((a : A) → P a → no_newline (spell a) ≡ true) → (xs : List A) → AllByRecursion P xs → no_newline (flat_map (λ y. c ∷ spell y) xs) ≡ true
unfolding no_newline
tails c spell P e each [] h = refl
tails c spell P e each (x ∷ xs) h = rw (e, over (spell x) (each x h.0), tails c spell P e each xs h.1) refl

list : (ns : List ℕ) → AllByRecursion IsNumber ns → no_newline (by_commas ns) ≡ true
unfolding no_newline
list [] h = refl
list (n ∷ ns) h = rw (over (decimal n) (num n h.0), tails 44 decimal IsNumber refl num ns h.1) refl

set : (s : ℕ) → no_newline (set_text s) ≡ true
unfolding set_text
set s = list (numbers_to s 32) (set_numbers s)

names : (ns : List (List ℕ)) → AllByRecursion IsName ns → no_newline (joined 44 (λ (w : List ℕ). w) ns) ≡ true
unfolding no_newline
names [] h = refl
names (n ∷ ns) h = rw (over n (name n h.0), tails 44 (λ (w : List ℕ). w) IsName refl name ns h.1) refl

-- ---- parts

kind : (k : PrKind) → no_newline (kind_text k) ≡ true
unfolding no_newline
kind WriteExclusive = refl
kind ExclusiveAccess = refl
kind WriteExclusiveRegistrantsOnly = refl
kind ExclusiveAccessRegistrantsOnly = refl

given_line : (a : PrAnswer) → IsPrAnswer a → no_newline (answer_text a) ≡ true
unfolding no_newline
given_line given.Good h = refl
given_line given.Conflict h = refl
given_line given.InvalidRelease h = refl
given_line given.NoPath h = refl
given_line (given.Keys []) h = refl
given_line (given.Keys (k ∷ ks)) h = rw (over (hex k) (key k h.0), tails 32 hex IsNumber refl key ks h.1) refl
given_line (given.Holder None) h = refl
given_line (given.Holder (Some held)) h = rw (over (hex held.0) (key held.0 h), kind held.1) refl
given_line (given.Word word) h = rw (num word h) refl
given_line (given.Value value) h = rw (num value h) refl
given_line (given.Miscompare word) h = rw (num word h) refl

device_answer : (a : DeviceAnswer) → IsDeviceAnswer a → no_newline (given_text a) ≡ true
unfolding no_newline
device_answer (Given a) h = given_line a h
device_answer Failed h = refl

command_line : (c : PrCommand) → IsPrCommand c → no_newline (command_text c) ≡ true
unfolding no_newline
command_line (command.Register a b) h = rw (over (hex a) (key a h.0), key b h.1) refl
command_line (command.Ignore a) h = rw (key a h) refl
command_line (command.Reserve k a) h = rw (over (kind_text k) (kind k), key a h) refl
command_line (command.Release k a) h = rw (over (kind_text k) (kind k), key a h) refl
command_line (command.Clear a) h = rw (key a h) refl
command_line (command.Preempt k a b) h = rw (over (kind_text k) (kind k), over (hex a) (key a h.0), key b h.1) refl
command_line command.Keys h = refl
command_line command.Holder h = refl
command_line command.Read h = refl
command_line (command.Write value) h = rw (num value h) refl
command_line command.Word h = refl
command_line (command.Swap a b) h = rw (over (decimal a) (num a h.0), num b h.1) refl

write_refusal : (r : WriteRefusal) → no_newline (write_refusal_text r) ≡ true
unfolding no_newline
write_refusal refused.NotMember = refl
write_refusal refused.NoPath = refl
write_refusal refused.NotHeld = refl
write_refusal refused.Fenced = refl
write_refusal refused.Fault = refl

down_line : (cause : DownCause) → IsDown cause → no_newline (down_text cause) ≡ true
unfolding no_newline
down_line down.Crash h = refl
down_line down.Stopped h = refl
down_line (down.Panic (panic.Fenced d)) h = rw (num d h) refl
down_line (down.Panic (panic.Excluded e)) h = rw (num e h) refl
down_line (down.Panic panic.Disk) h = refl
down_line (down.Panic (panic.Stop r)) h = rw (name r h) refl

message_kind : (k : MessageKind) → no_newline (message_kind_text k) ≡ true
unfolding no_newline
message_kind message.Heartbeat = refl
message_kind message.Collect = refl
message_kind message.Promise = refl
message_kind message.Nack = refl
message_kind message.SeizeQuorum = refl
message_kind message.SeizeData = refl
message_kind message.Seized = refl
message_kind message.Install = refl
message_kind message.Ready = refl
message_kind message.Start = refl
message_kind message.Prepare = refl
message_kind message.Prepared = refl
message_kind message.Commit = refl
message_kind message.Order = refl
message_kind message.Done = refl
message_kind message.Request = refl
message_kind message.Answer = refl
message_kind message.Excluded = refl

message_line : (k : MessageKind) (number : Option ℕ) → IsNumbered number → no_newline (numbered_text (message_kind_text k) number) ≡ true
unfolding no_newline
message_line k None h = message_kind k
message_line k (Some n) h = rw (over (message_kind_text k) (message_kind k), num n h) refl

drop_line : (x : DropCause) → no_newline (drop_text x) ≡ true
unfolding no_newline
drop_line dropped.Link = refl
drop_line dropped.Pool = refl
drop_line dropped.Down = refl

end_line : (end : SeizeEnd Unit) → IsSeizeEnd end → no_newline (end_text end) ≡ true
unfolding no_newline
end_line (seized.Held u) h = refl
end_line (seized.NotRegistered u) h = refl
end_line (seized.Greater word) h = rw (num word h) refl
end_line seized.Expelled h = refl
end_line (seized.Contended k) h = rw (key k h) refl
end_line seized.Fault h = refl

obstacle_line : (o : Obstacle) → IsObstacle o → no_newline (obstacle_text o) ≡ true
unfolding no_newline
obstacle_line NoPath h = refl
obstacle_line (Seizing end) h = end_line end h

lack_line : (l : Lack) → IsLack l → no_newline (lack_text l) ≡ true
unfolding no_newline
lack_line l h = rw (over (decimal l.device) (num l.device h.0), obstacle_line l.obstacle h.1) refl

lacking_line : (ls : List Lack) → AllByRecursion IsLack ls → no_newline (lacking_text ls) ≡ true
unfolding no_newline
lacking_line [] h = refl
lacking_line (l ∷ ls) h = rw (over (lack_text l) (lack_line l h.0), tails 32 lack_text IsLack refl lack_line ls h.1) refl

letter : (set : Bool) (l : List ℕ) → no_newline l ≡ true → no_newline (letter_if set l) ≡ true
unfolding no_newline
letter true l h = h
letter false l h = refl

flags_line : (f : AdoptedFlags) → no_newline (flags_text f) ≡ true
unfolding no_newline
flags_line f =
    rw (
      over (letter_if f.pre (codes "p")) (letter f.pre (codes "p") refl),
      over (letter_if f.run (codes "r")) (letter f.run (codes "r") refl),
      over (letter_if f.mon (codes "m")) (letter f.mon (codes "m") refl),
      over (letter_if f.faulted (codes "f")) (letter f.faulted (codes "f") refl),
      letter f.stop_failed (codes "s") refl,
    ) refl

method_line : (x : Method) → no_newline (method_text x) ≡ true
unfolding no_newline
method_line method.PrenetStart = refl
method_line method.Start = refl
method_line method.MonitorStart = refl
method_line method.MonitorCheck = refl
method_line method.MonitorStop = refl
method_line method.Stop = refl
method_line method.PostnetStop = refl
method_line method.Validate = refl
method_line method.Init = refl
method_line method.Fini = refl
method_line method.Boot = refl
method_line method.Update = refl

outcome_line : (x : Outcome) → no_newline (outcome_text x) ≡ true
unfolding no_newline
outcome_line Success = refl
outcome_line Failure = refl
outcome_line Timeout = refl

probe_line : (x : ProbeResult) → no_newline (probe_text x) ≡ true
unfolding no_newline
probe_line probe.Ok = refl
probe_line probe.Restart = refl
probe_line probe.Move = refl
probe_line probe.Logged = refl

thing_line : (t : Thing) → IsThing t → no_newline (thing_text t) ≡ true
thing_line (Named n) h = name n h
thing_line (Numbered n) h = num n h

reply_line : (a : Answer) → IsAnswer a → no_newline (reply_text a) ≡ true
unfolding no_newline
reply_line answer.Ok h = refl
reply_line answer.Unknown h = refl
reply_line answer.UnknownCommand h = refl
reply_line answer.MissingOperand h = refl
reply_line answer.BadValue h = refl
reply_line answer.NotMember h = refl
reply_line (answer.Ask node) h = rw (num node h) refl
reply_line answer.QueueFull h = refl
reply_line (answer.Refused (refusal.Unknown t)) h = rw (thing_line t h) refl
reply_line (answer.Refused (refusal.InUse by)) h = rw (name by h) refl
reply_line (answer.Refused (refusal.NotListed node)) h = rw (num node h) refl
reply_line (answer.Refused (refusal.Cycle ns)) h = rw (names ns h) refl
reply_line (answer.Refused (refusal.LoseQuorum have need)) h = rw (over (decimal have) (num have h.0), num need h.1) refl
reply_line (answer.Refused (refusal.RecordFull n)) h = rw (num n h) refl
reply_line (answer.Refused refusal.Exists) h = refl
reply_line (answer.Refused refusal.Managed) h = refl
reply_line (answer.Refused refusal.Unmanaged) h = refl
reply_line (answer.Refused refusal.SameValue) h = refl
reply_line (answer.Refused refusal.TooMany) h = refl
reply_line (answer.Refused refusal.BadProperty) h = refl
reply_line (answer.Refused refusal.BadSetting) h = refl
reply_line (answer.Refused refusal.StillUp) h = refl
reply_line (answer.Refused refusal.Single) h = refl
reply_line (answer.Refused refusal.NoMark) h = refl
reply_line (answer.Refused refusal.NodeIsMember) h = refl
reply_line (answer.Refused refusal.DeviceNotHeld) h = refl
reply_line (answer.Refused refusal.NodeHasVote) h = refl

group_line : (x : GroupState) → no_newline (group_state_text x) ≡ true
unfolding no_newline
group_line group.Unmanaged = refl
group_line group.ErrorStopFailed = refl
group_line group.OnlineFaulted = refl
group_line group.Online = refl
group_line group.PendingOnline = refl
group_line group.PendingOnlineBlocked = refl
group_line group.PendingOffline = refl
group_line group.Offline = refl

resource_line : (x : ResourceState) → no_newline (resource_state_text x) ≡ true
unfolding no_newline
resource_line resource.StopFailed = refl
resource_line resource.StartFailed = refl
resource_line resource.Online = refl
resource_line resource.Starting = refl
resource_line resource.Offline = refl

reason_line : (r : Reason) → IsReason r → no_newline (reason_text r) ≡ true
unfolding no_newline
reason_line reason.Unmanaged h = refl
reason_line reason.Offline h = refl
reason_line reason.Suspended h = refl
reason_line reason.Empty h = refl
reason_line reason.NotMember h = refl
reason_line reason.StopFailed h = refl
reason_line reason.Evacuated h = refl
reason_line reason.StartFailed h = refl
reason_line reason.Moved h = refl
reason_line reason.Leaving h = refl
reason_line (reason.Affinity n) h = rw (name n h) refl
reason_line (reason.Dependency n) h = rw (name n h) refl
reason_line (reason.Load n) h = rw (name n h) refl
reason_line (reason.Faulted n) h = rw (name n h) refl
reason_line (reason.Blocked n) h = rw (name n h) refl

member_line : (x : Bool) → no_newline (member_text x) ≡ true
unfolding no_newline
member_line true = refl
member_line false = refl

quorum_line : (x : QuorumState) → no_newline (quorum_state_text x) ≡ true
unfolding no_newline
quorum_line Held = refl
quorum_line Lost = refl
quorum_line Off = refl

skip_line : (x : SkipCause) → no_newline (skip_text x) ≡ true
unfolding no_newline
skip_line skip.Up = refl
skip_line skip.Down = refl
skip_line skip.NoPacket = refl
skip_line skip.NoWork = refl
skip_line skip.NoMonitor = refl
skip_line skip.NoPresident = refl
skip_line skip.NoAddress = refl

target_line : (node : Option ℕ) → IsNumbered node → no_newline (target_text node) ≡ true
unfolding no_newline
target_line None h = refl
target_line (Some n) h = num n h

-- ---- entries

pub entry_line : (e : Entry) → IsEntry e → no_newline (entry_text e) ≡ true
unfolding no_newline
entry_line (entry.Answered a) h = given_line a h
entry_line entry.Powered h = refl
entry_line (entry.Node n node.Up) h = rw (num n h.0) refl
entry_line (entry.Node n (node.Down cause)) h = rw (over (decimal n) (num n h.0), down_line cause h.1) refl
entry_line (entry.Node n node.Ticked) h = rw (num n h.0) refl
entry_line (entry.Node n node.Saved) h = rw (num n h.0) refl
entry_line (entry.Node n (node.Installed e)) h = rw (over (decimal n) (num n h.0), num e h.1) refl
entry_line (entry.Node n (node.Member e)) h = rw (over (decimal n) (num n h.0), num e h.1) refl
entry_line (entry.Packet (packet.Sent p a b m bytes)) h =
    rw (over (decimal p) (num p h.0), over (decimal a) (num a h.1), over (decimal b) (num b h.2), over (numbered_text (message_kind_text m.kind) m.number) (message_line m.kind m.number h.3), hex_bytes bytes h.4) refl
entry_line (entry.Packet (packet.Delivered p a b)) h = rw (over (decimal p) (num p h.0), over (decimal a) (num a h.1), num b h.2) refl
entry_line (entry.Packet (packet.Lost p)) h = rw (num p h) refl
entry_line (entry.Packet (packet.Repeated p q)) h = rw (over (decimal p) (num p h.0), num q h.1) refl
entry_line (entry.Packet (packet.Dropped p cause)) h = rw (over (decimal p) (num p h), drop_line cause) refl
entry_line (entry.Device (device.Command n d c a)) h =
    rw (over (decimal n) (num n h.0), over (decimal d) (num d h.1), over (command_text c) (command_line c h.2), device_answer a h.3) refl
entry_line (entry.Device (device.Accepted e n d v)) h = rw (over (decimal e) (num e h.0), over (decimal n) (num n h.1), over (decimal d) (num d h.2), over (decimal v) (num v h.3)) refl
entry_line (entry.Device (device.Refused n d v cause)) h = rw (over (decimal n) (num n h.0), over (decimal d) (num d h.1), over (decimal v) (num v h.2), write_refusal cause) refl
entry_line (entry.Attempt (attempt.Begun e ns)) h = rw (over (decimal e) (num e h.0), set ns) refl
entry_line (entry.Attempt (attempt.Votes e have need lacking)) h = rw (over (decimal e) (num e h.0), over (decimal have) (num have h.1), over (decimal need) (num need h.2), lacking_line lacking h.3) refl
entry_line (entry.Attempt (attempt.Superseded e by)) h = rw (over (decimal e) (num e h.0), num by h.1) refl
entry_line (entry.Attempt (attempt.Silent e n)) h = rw (over (decimal e) (num e h.0), num n h.1) refl
entry_line (entry.Attempt (attempt.Excluded e n)) h = rw (over (decimal e) (num e h.0), num n h.1) refl
entry_line (entry.Attempt (attempt.Foreign e n)) h = rw (over (decimal e) (num e h.0), num n h.1) refl
entry_line (entry.Start (start.Started e ns ds base)) h = rw (over (decimal e) (num e h.0), over (set_text ns) (set ns), over (set_text ds) (set ds), num base h.3) refl
entry_line (entry.Start (start.Base e v words)) h = rw (over (decimal e) (num e h.0), over (decimal v) (num v h.1), line words h.2) refl
entry_line (entry.Start (start.Adopted e n r flags)) h = rw (over (decimal e) (num e h.0), over (decimal n) (num n h.1), over r (name r h.2), flags_line flags) refl
entry_line (entry.Update (update.Proposed e v words)) h = rw (over (decimal e) (num e h.0), over (decimal v) (num v h.1), line words h.2) refl
entry_line (entry.Update (update.Acknowledged e v words)) h = rw (over (decimal e) (num e h.0), over (decimal v) (num v h.1), line words h.2) refl
entry_line (entry.Call (call.Called e n m r)) h = rw (over (decimal e) (num e h.0), over (decimal n) (num n h.1), over (method_text m) (method_line m), name r h.2) refl
entry_line (entry.Call (call.Done e n m r o)) h =
    rw (over (decimal e) (num e h.0), over (decimal n) (num n h.1), over (method_text m) (method_line m), over r (name r h.2), outcome_line o) refl
entry_line (entry.Call (call.Probed n r found)) h = rw (over (decimal n) (num n h.0), over r (name r h.1), probe_line found) refl
entry_line (entry.Command (asking.Asked n q)) h = rw (over (decimal n) (num n h.0), num q h.1) refl
entry_line (entry.Command (asking.Answered n q a)) h = rw (over (decimal n) (num n h.0), over (decimal q) (num q h.1), reply_line a h.2) refl
entry_line (entry.Status (status.Group g n state)) h = rw (over g (name g h.0), over (decimal n) (num n h.1), group_line state) refl
entry_line (entry.Status (status.Why g n why)) h = rw (over g (name g h.0), over (decimal n) (num n h.1), reason_line why h.2) refl
entry_line (entry.Status (status.Resource g n state)) h = rw (over g (name g h.0), over (decimal n) (num n h.1), resource_line state) refl
entry_line (entry.Status (status.QuorumVotes v need)) h = rw (over (decimal v) (num v h.0), num need h.1) refl
entry_line (entry.Status (status.QuorumNode n v member)) h = rw (over (decimal n) (num n h.0), over (decimal v) (num v h.1), member_line member) refl
entry_line (entry.Status (status.QuorumDevice d v state)) h = rw (over (decimal d) (num d h.0), over (decimal v) (num v h.1), quorum_line state) refl
entry_line (entry.Status (status.Table (table.Generation n))) h = rw (num n h) refl
entry_line (entry.Status (status.Table (table.Checksum digest))) h = rw (hex_bytes digest h) refl
entry_line (entry.Status (status.Table (table.Row k value))) h = rw (over k (line k h.1), line value h.2) refl
entry_line (entry.Address (address.Served a c p n)) h = rw (over a (name a h.0), over (decimal c) (num c h.1), over (decimal p) (num p h.2), target_line n h.3) refl
entry_line (entry.Address (address.Forgot a c p)) h = rw (over a (name a h.0), over (decimal c) (num c h.1), num p h.2) refl
entry_line (entry.Schedule (schedule.Clock s)) h = rw (num s h) refl
entry_line (entry.Schedule schedule.Queued) h = refl
entry_line (entry.Schedule schedule.Armed) h = refl
entry_line (entry.Schedule schedule.RoundsDone) h = refl
entry_line (entry.Schedule (schedule.Skipped cause)) h = rw (skip_line cause) refl
