-- Reading the parts of lines back.
use Rattle.std.proofs.Common.{◌≡◌, ℕ, Bool, true, false, ◌==◌, if◌then◌else◌, Option, Some, None, List, [], ◌∷◌, ◌++◌, refl, ap, append_assoc, codes, arith}
use Rattle.std.specs.List.{AllByRecursion, flat_map}
use Rattle.std.specs.Fmt.{decimal}
use Rattle.std.specs.Str.Parse.{digits_value}
use Rattle.std.proofs.lemmas.Fmt.{digits_is_IsNumeral}
use Rattle.cl_base.specs.declared.panic.Panic.TheVariants as panic
use Rattle.cl_base.specs.declared.reason.Reason.{Reason}
use Rattle.cl_base.specs.declared.reason.Reason.TheVariants as reason
use Rattle.cl_base.specs.declared.state.GroupState.{GroupState}
use Rattle.cl_base.specs.declared.state.GroupState.TheVariants as group
use Rattle.cl_base.specs.declared.state.ResourceState.{ResourceState}
use Rattle.cl_base.specs.declared.state.ResourceState.TheVariants as resource
use Rattle.cl_base.specs.declared.method.Method.{Method}
use Rattle.cl_base.specs.declared.method.Method.TheVariants as method
use Rattle.cl_base.specs.declared.method.Outcome.{Outcome}
use Rattle.cl_base.specs.declared.method.Outcome.TheVariants.{Success, Failure, Timeout}
use Rattle.pgr_device.specs.declared.kind.PrKind.{PrKind}
use Rattle.pgr_device.specs.declared.kind.PrKind.TheVariants.{WriteExclusive, ExclusiveAccess, WriteExclusiveRegistrantsOnly, ExclusiveAccessRegistrantsOnly}
use Rattle.pgr_device.specs.declared.command.PrAnswer.{PrAnswer}
use Rattle.pgr_device.specs.declared.command.PrAnswer.TheVariants as given
use Rattle.pgr_device.specs.declared.command.PrCommand.{PrCommand}
use Rattle.pgr_device.specs.declared.command.PrCommand.TheVariants as command
use Rattle.cl_base.specs.declared.seizing.Lack.{Lack}
use Rattle.cl_base.specs.declared.seizing.Obstacle.{Obstacle}
use Rattle.cl_base.specs.declared.seizing.Obstacle.TheVariants.{NoPath, Seizing}
use Rattle.cl_base.specs.declared.seizing.SeizeEnd.{SeizeEnd}
use Rattle.cl_base.specs.declared.seizing.SeizeEnd.TheVariants as seized
use Rattle.status_report.specs.declared.call_entry.ProbeResult.{ProbeResult}
use Rattle.status_report.specs.declared.call_entry.ProbeResult.TheVariants as probe
use Rattle.status_report.specs.declared.device_entry.DeviceAnswer.{DeviceAnswer}
use Rattle.status_report.specs.declared.device_entry.DeviceAnswer.TheVariants.{Given, Failed}
use Rattle.status_report.specs.declared.device_entry.WriteRefusal.{WriteRefusal}
use Rattle.status_report.specs.declared.device_entry.WriteRefusal.TheVariants as refused
use Rattle.status_report.specs.declared.node_entry.DownCause.{DownCause}
use Rattle.status_report.specs.declared.node_entry.DownCause.TheVariants as down
use Rattle.cl_base.specs.declared.packet.MessageKind.{MessageKind}
use Rattle.cl_base.specs.declared.packet.MessageKind.TheVariants as message
use Rattle.cl_base.specs.declared.packet.DropCause.{DropCause}
use Rattle.cl_base.specs.declared.packet.DropCause.TheVariants as dropped
use Rattle.status_report.specs.declared.schedule_entry.SkipCause.{SkipCause}
use Rattle.status_report.specs.declared.schedule_entry.SkipCause.TheVariants as skip
use Rattle.status_report.specs.declared.start_entry.AdoptedFlags.{AdoptedFlags}
use Rattle.status_report.specs.declared.status_entry.QuorumState.{QuorumState}
use Rattle.status_report.specs.declared.status_entry.QuorumState.TheVariants.{Held, Lost, Off}
use Rattle.status_report.specs.Words.{hex}
use Rattle.status_report.specs.PrAnswers.{kind_text, answer_text, command_text}
use Rattle.status_report.specs.NodeLines.{down_text}
use Rattle.status_report.specs.PacketLines.{kind_text as message_kind_text, drop_text}
use Rattle.status_report.specs.DeviceLines.{given_text, write_refusal_text}
use Rattle.status_report.specs.AttemptLines.{obstacle_text, lack_text, lacking_text}
use Rattle.status_report.specs.StartLines.{flags_text}
use Rattle.status_report.specs.CallLines.{method_text, outcome_text, probe_text}
use Rattle.status_report.specs.StatusLines.{group_state_text, resource_state_text, reason_text, member_text, quorum_state_text}
use Rattle.status_report.specs.ScheduleLines.{skip_text}
use Rattle.status_report.specs.Entries.{IsNumber, IsPrAnswer, IsPrCommand, IsDown, IsDeviceAnswer, IsObstacle, IsLack}
use Rattle.status_report.proofs.Reading.{after, number_at, key_at, last, more, number, key, number_is_word, key_is_word, below_16}
use Rattle.status_report.proofs.Lists.{Lacks, Item, items_of, items_again, all_items, lacks_append, word_lacks_space, starts_n, starts_digit, hex_starts, decimal_starts, letter_starts, n_starts}

-- ---- a choice by the words in front

abbrev strip : List ℕ → List ℕ → Option (List ℕ)
strip [] text = Some text
strip (k ∷ ks) [] = None
strip (k ∷ ks) (b ∷ bs) = if k == b then strip ks bs else None

abbrev taken : {A : Type 0} → Option (List ℕ) → (List ℕ → A) → A → A
taken None read other = other
taken (Some rest) read other = read rest

-- the first row with words that begin the text reads what follows them
abbrev pub choose : {A : Type 0} → A → List (List ℕ × (List ℕ → A)) → List ℕ → A
choose other [] text = other
choose other (row ∷ rows) text = taken (strip row.0 text) row.1 (choose other rows text)

-- reads a part, and goes on behind the byte after it
abbrev pub part : {A B : Type 0} → (List ℕ → A × List ℕ) → (A → List ℕ → B) → List ℕ → B
part read go text = go (read text).0 (after (read text).1)

-- what follows the words is a number, and what stands behind it is left
abbrev with_number : {A : Type 0} → (ℕ → A) → List ℕ → A × List ℕ
with_number make text = (make (number_at text).0, (number_at text).1)

-- ---- devices' commands and answers

abbrev pub kind_at : List ℕ → PrKind × List ℕ
kind_at = choose (WriteExclusive, [])
    ((codes "1", λ t. (WriteExclusive, t)) ∷ (codes "3", λ t. (ExclusiveAccess, t)) ∷ (codes "5", λ t. (WriteExclusiveRegistrantsOnly, t)) ∷ (codes "6", λ t. (ExclusiveAccessRegistrantsOnly, t)) ∷ [])

kind_again : (kind : PrKind) (rest : List ℕ) → kind_at (kind_text kind ++ rest) ≡ (kind, rest)
kind_again WriteExclusive rest = refl
kind_again ExclusiveAccess rest = refl
kind_again WriteExclusiveRegistrantsOnly rest = refl
kind_again ExclusiveAccessRegistrantsOnly rest = refl

kind_last : (kind : PrKind) → kind_at (kind_text kind) ≡ (kind, [])
kind_last WriteExclusive = refl
kind_last ExclusiveAccess = refl
kind_last WriteExclusiveRegistrantsOnly = refl
kind_last ExclusiveAccessRegistrantsOnly = refl

abbrev pub held_of : List ℕ → Option (ℕ × PrKind)
held_of text = if starts_n text then None else part key_at (λ k t. Some (k, (kind_at t).0)) text

abbrev pub keys_of : List ℕ → List ℕ
keys_of text = if starts_n text then [] else items_of 32 (digits_value 16) text

abbrev pub answer_of : List ℕ → PrAnswer
answer_of = choose given.Good
    ((codes "good", λ t. given.Good) ∷ (codes "conflict", λ t. given.Conflict) ∷ (codes "invalid-release", λ t. given.InvalidRelease) ∷ (codes "no-path", λ t. given.NoPath)
    ∷ (codes "keys ", λ t. given.Keys (keys_of t)) ∷ (codes "reservation ", λ t. given.Holder (held_of t))
    ∷ (codes "word ", λ t. given.Word (number_at t).0) ∷ (codes "data ", λ t. given.Value (number_at t).0) ∷ (codes "miscompare ", λ t. given.Miscompare (number_at t).0) ∷ [])

key_item : (k : ℕ) → IsNumber k → Item 32 hex (digits_value 16) k
key_item k h = (word_lacks_space (hex k) (key_is_word k h), (digits_is_IsNumeral 16 false (omega arith) (omega arith) k (below_16 k h)).1)

keys_again : (k : ℕ) (ks : List ℕ) → AllByRecursion IsNumber (k ∷ ks) → keys_of (hex k ++ flat_map (λ y. 32 ∷ hex y) ks) ≡ k ∷ ks
keys_again k ks h = rw (hex_starts k (flat_map (λ y. 32 ∷ hex y) ks) h.0, items_again 32 hex (digits_value 16) k ks (all_items IsNumber (Item 32 hex (digits_value 16)) key_item (k ∷ ks) h)) refl

pub answer_again : (a : PrAnswer) → IsPrAnswer a → answer_of (answer_text a) ≡ a
answer_again given.Good h = refl
answer_again given.Conflict h = refl
answer_again given.InvalidRelease h = refl
answer_again given.NoPath h = refl
answer_again (given.Keys []) h = rw (n_starts (111 ∷ 110 ∷ 101 ∷ [])) refl
answer_again (given.Keys (k ∷ ks)) h = rw (keys_again k ks h) refl
answer_again (given.Holder None) h = rw (n_starts (111 ∷ 110 ∷ 101 ∷ [])) refl
answer_again (given.Holder (Some held)) h = rw (hex_starts held.0 (32 ∷ kind_text held.1) h, more (key held.0 h) (kind_text held.1), kind_last held.1) refl
answer_again (given.Word word) h = rw (last (number word h)) refl
answer_again (given.Value value) h = rw (last (number value h)) refl
answer_again (given.Miscompare word) h = rw (last (number word h)) refl

abbrev pub given_of : List ℕ → DeviceAnswer
given_of text = choose (Given (answer_of text)) ((codes "failed", λ t. Failed) ∷ []) text

pub given_again : (a : DeviceAnswer) → IsDeviceAnswer a → given_of (given_text a) ≡ a
given_again Failed h = refl
given_again (Given given.Good) h = refl
given_again (Given given.Conflict) h = refl
given_again (Given given.InvalidRelease) h = refl
given_again (Given given.NoPath) h = refl
given_again (Given (given.Keys [])) h = ap Given (answer_again (given.Keys []) h)
given_again (Given (given.Keys (k ∷ ks))) h = ap Given (answer_again (given.Keys (k ∷ ks)) h)
given_again (Given (given.Holder None)) h = ap Given (answer_again (given.Holder None) h)
given_again (Given (given.Holder (Some held))) h = ap Given (answer_again (given.Holder (Some held)) h)
given_again (Given (given.Word word)) h = ap Given (answer_again (given.Word word) h)
given_again (Given (given.Value value)) h = ap Given (answer_again (given.Value value) h)
given_again (Given (given.Miscompare word)) h = ap Given (answer_again (given.Miscompare word) h)

abbrev pub command_at : List ℕ → PrCommand × List ℕ
command_at = choose (command.Keys, [])
    ((codes "register ", part key_at (λ a t. (command.Register a (key_at t).0, (key_at t).1)))
    ∷ (codes "ignore ", λ t. (command.Ignore (key_at t).0, (key_at t).1))
    ∷ (codes "reserve ", part kind_at (λ a t. (command.Reserve a (key_at t).0, (key_at t).1)))
    ∷ (codes "release ", part kind_at (λ a t. (command.Release a (key_at t).0, (key_at t).1)))
    ∷ (codes "clear ", λ t. (command.Clear (key_at t).0, (key_at t).1))
    ∷ (codes "preempt ", part kind_at (λ a. part key_at (λ b t. (command.Preempt a b (key_at t).0, (key_at t).1))))
    ∷ (codes "keys ", λ t. (command.Keys, 32 ∷ t)) ∷ (codes "holder ", λ t. (command.Holder, 32 ∷ t)) ∷ (codes "read ", λ t. (command.Read, 32 ∷ t))
    ∷ (codes "write ", with_number (λ n. command.Write n)) ∷ (codes "word ", λ t. (command.Word, 32 ∷ t))
    ∷ (codes "swap ", part number_at (λ a t. (command.Swap a (number_at t).0, (number_at t).1))) ∷ [])

pub command_again : (c : PrCommand) (rest : List ℕ) → IsPrCommand c → command_at (command_text c ++ 32 ∷ rest) ≡ (c, 32 ∷ rest)
command_again (command.Register a b) rest h = rw (append_assoc (hex a) (32 ∷ hex b) (32 ∷ rest), more (key a h.0) (hex b ++ 32 ∷ rest), more (key b h.1) rest) refl
command_again (command.Ignore a) rest h = rw (more (key a h) rest) refl
command_again (command.Reserve kind a) rest h = rw (append_assoc (kind_text kind) (32 ∷ hex a) (32 ∷ rest), kind_again kind (32 ∷ (hex a ++ 32 ∷ rest)), more (key a h) rest) refl
command_again (command.Release kind a) rest h = rw (append_assoc (kind_text kind) (32 ∷ hex a) (32 ∷ rest), kind_again kind (32 ∷ (hex a ++ 32 ∷ rest)), more (key a h) rest) refl
command_again (command.Clear a) rest h = rw (more (key a h) rest) refl
command_again (command.Preempt kind a b) rest h =
    rw (append_assoc (kind_text kind) (32 ∷ (hex a ++ 32 ∷ hex b)) (32 ∷ rest), kind_again kind (32 ∷ ((hex a ++ 32 ∷ hex b) ++ 32 ∷ rest)), append_assoc (hex a) (32 ∷ hex b) (32 ∷ rest), more (key a h.0) (hex b ++ 32 ∷ rest), more (key b h.1) rest) refl
command_again command.Keys rest h = refl
command_again command.Holder rest h = refl
command_again command.Read rest h = refl
command_again (command.Write value) rest h = rw (more (number value h) rest) refl
command_again command.Word rest h = refl
command_again (command.Swap a b) rest h = rw (append_assoc (decimal a) (32 ∷ decimal b) (32 ∷ rest), more (number a h.0) (decimal b ++ 32 ∷ rest), more (number b h.1) rest) refl

abbrev pub write_refusal_of : List ℕ → WriteRefusal
write_refusal_of = choose refused.Fault
    ((codes "not-member", λ t. refused.NotMember) ∷ (codes "no-path", λ t. refused.NoPath) ∷ (codes "not-held", λ t. refused.NotHeld) ∷ (codes "fenced", λ t. refused.Fenced) ∷ [])

pub write_refusal_again : (r : WriteRefusal) → write_refusal_of (write_refusal_text r) ≡ r
write_refusal_again refused.NotMember = refl
write_refusal_again refused.NoPath = refl
write_refusal_again refused.NotHeld = refl
write_refusal_again refused.Fenced = refl
write_refusal_again refused.Fault = refl

-- ---- nodes and packets

abbrev pub down_of : List ℕ → DownCause
down_of = choose down.Crash
    ((codes "stopped", λ t. down.Stopped) ∷ (codes "panic fenced ", λ t. down.Panic (panic.Fenced (number_at t).0)) ∷ (codes "panic excluded ", λ t. down.Panic (panic.Excluded (number_at t).0))
    ∷ (codes "panic disk", λ t. down.Panic panic.Disk) ∷ (codes "panic stop ", λ t. down.Panic (panic.Stop t)) ∷ [])

pub down_again : (cause : DownCause) → IsDown cause → down_of (down_text cause) ≡ cause
down_again down.Crash h = refl
down_again down.Stopped h = refl
down_again (down.Panic (panic.Fenced device)) h = rw (last (number device h)) refl
down_again (down.Panic (panic.Excluded epoch)) h = rw (last (number epoch h)) refl
down_again (down.Panic panic.Disk) h = refl
down_again (down.Panic (panic.Stop resource)) h = refl

-- a kind, and what stands behind the space after it
abbrev pub message_kind_at : List ℕ → MessageKind × List ℕ
message_kind_at = choose (message.Heartbeat, [])
    ((codes "Heartbeat ", λ t. (message.Heartbeat, t))
    ∷ (codes "Collect ", λ t. (message.Collect, t))
    ∷ (codes "Promise ", λ t. (message.Promise, t))
    ∷ (codes "Nack ", λ t. (message.Nack, t))
    ∷ (codes "SeizeQuorum ", λ t. (message.SeizeQuorum, t))
    ∷ (codes "SeizeData ", λ t. (message.SeizeData, t))
    ∷ (codes "Seized ", λ t. (message.Seized, t))
    ∷ (codes "Install ", λ t. (message.Install, t))
    ∷ (codes "Ready ", λ t. (message.Ready, t))
    ∷ (codes "Start ", λ t. (message.Start, t))
    ∷ (codes "Prepare ", λ t. (message.Prepare, t))
    ∷ (codes "Prepared ", λ t. (message.Prepared, t))
    ∷ (codes "Commit ", λ t. (message.Commit, t))
    ∷ (codes "Order ", λ t. (message.Order, t))
    ∷ (codes "Done ", λ t. (message.Done, t))
    ∷ (codes "Request ", λ t. (message.Request, t))
    ∷ (codes "Answer ", λ t. (message.Answer, t))
    ∷ (codes "Excluded ", λ t. (message.Excluded, t)) ∷ [])

pub kind_then : (k : MessageKind) (rest : List ℕ) → message_kind_at (message_kind_text k ++ 32 ∷ rest) ≡ (k, rest)
kind_then message.Heartbeat rest = refl
kind_then message.Collect rest = refl
kind_then message.Promise rest = refl
kind_then message.Nack rest = refl
kind_then message.SeizeQuorum rest = refl
kind_then message.SeizeData rest = refl
kind_then message.Seized rest = refl
kind_then message.Install rest = refl
kind_then message.Ready rest = refl
kind_then message.Start rest = refl
kind_then message.Prepare rest = refl
kind_then message.Prepared rest = refl
kind_then message.Commit rest = refl
kind_then message.Order rest = refl
kind_then message.Done rest = refl
kind_then message.Request rest = refl
kind_then message.Answer rest = refl
kind_then message.Excluded rest = refl

abbrev pub drop_of : List ℕ → DropCause
drop_of = choose dropped.Link ((codes "pool", λ t. dropped.Pool) ∷ (codes "down", λ t. dropped.Down) ∷ [])

pub drop_again : (cause : DropCause) → drop_of (drop_text cause) ≡ cause
drop_again dropped.Link = refl
drop_again dropped.Pool = refl
drop_again dropped.Down = refl

-- ---- attempts

abbrev end_of : List ℕ → SeizeEnd Unit
end_of = choose seized.Fault
    ((codes "held", λ t. seized.Held tt) ∷ (codes "not-registered", λ t. seized.NotRegistered tt) ∷ (codes "greater-", λ t. seized.Greater (number_at t).0) ∷ (codes "expelled", λ t. seized.Expelled)
    ∷ (codes "contended-", λ t. seized.Contended (key_at t).0) ∷ [])

abbrev obstacle_of : List ℕ → Obstacle
obstacle_of text = choose (Seizing (end_of text)) ((codes "no-path", λ t. NoPath) ∷ []) text

obstacle_again : (o : Obstacle) → IsObstacle o → obstacle_of (obstacle_text o) ≡ o
obstacle_again NoPath h = refl
obstacle_again (Seizing (seized.Held u)) h = refl
obstacle_again (Seizing (seized.NotRegistered u)) h = refl
obstacle_again (Seizing (seized.Greater word)) h = rw (last (number word h)) refl
obstacle_again (Seizing seized.Expelled) h = refl
obstacle_again (Seizing (seized.Contended k)) h = rw (last (key k h)) refl
obstacle_again (Seizing seized.Fault) h = refl

obstacle_lacks : (o : Obstacle) → IsObstacle o → Lacks 32 (obstacle_text o)
obstacle_lacks NoPath h = (refl, (refl, (refl, (refl, (refl, (refl, (refl, tt)))))))
obstacle_lacks (Seizing (seized.Held u)) h = (refl, (refl, (refl, (refl, tt))))
obstacle_lacks (Seizing (seized.NotRegistered u)) h = (refl, (refl, (refl, (refl, (refl, (refl, (refl, (refl, (refl, (refl, (refl, (refl, (refl, (refl, tt))))))))))))))
obstacle_lacks (Seizing (seized.Greater word)) h = (refl, (refl, (refl, (refl, (refl, (refl, (refl, (refl, word_lacks_space (decimal word) (number_is_word word h)))))))))
obstacle_lacks (Seizing seized.Expelled) h = (refl, (refl, (refl, (refl, (refl, (refl, (refl, (refl, tt))))))))
obstacle_lacks (Seizing (seized.Contended k)) h = (refl, (refl, (refl, (refl, (refl, (refl, (refl, (refl, (refl, (refl, word_lacks_space (hex k) (key_is_word k h)))))))))))
obstacle_lacks (Seizing seized.Fault) h = (refl, (refl, (refl, (refl, (refl, tt)))))

abbrev lack_of : List ℕ → Lack
lack_of = part number_at (λ d t. record { device = d; obstacle = obstacle_of t })

lack_item : (l : Lack) → IsLack l → Item 32 lack_text lack_of l
lack_item l h = (
  lacks_append 32 (decimal l.device) (58 ∷ obstacle_text l.obstacle) (word_lacks_space (decimal l.device) (number_is_word l.device h.0)) (refl, obstacle_lacks l.obstacle h.1),
  rw ((number l.device h.0).again (58 ∷ obstacle_text l.obstacle) refl, obstacle_again l.obstacle h.1) refl,
)

abbrev pub lacking_of : List ℕ → List Lack
lacking_of text = if starts_digit text then items_of 32 lack_of text else []

lack_starts : (l : Lack) (rest : List ℕ) → IsLack l → starts_digit (lack_text l ++ rest) ≡ true
lack_starts l rest h = rw (append_assoc (decimal l.device) (58 ∷ obstacle_text l.obstacle) rest) (decimal_starts l.device (58 ∷ (obstacle_text l.obstacle ++ rest)) h.0)

pub lacking_again : (ls : List Lack) → AllByRecursion IsLack ls → lacking_of (lacking_text ls) ≡ ls
lacking_again [] h = rw (letter_starts 110 (111 ∷ 110 ∷ 101 ∷ []) refl) refl
lacking_again (l ∷ ls) h = rw (lack_starts l (flat_map (λ y. 32 ∷ lack_text y) ls) h.0, items_again 32 lack_text lack_of l ls (all_items IsLack (Item 32 lack_text lack_of) lack_item (l ∷ ls) h)) refl

-- ---- starts

abbrev flag_at : List ℕ → List ℕ → Bool × List ℕ
flag_at letter = λ text. taken (strip letter text) (λ t. (true, t)) (false, text)

abbrev pub flags_of : List ℕ → AdoptedFlags
flags_of text =
    let p = flag_at (codes "p") text in
    let r = flag_at (codes "r") p.1 in
    let m = flag_at (codes "m") r.1 in
    let f = flag_at (codes "f") m.1 in
    record { pre = p.0; run = r.0; mon = m.0; faulted = f.0; stop_failed = (flag_at (codes "s") f.1).0 }

abbrev flags_with : Bool → Bool → Bool → Bool → Bool → AdoptedFlags
flags_with a b c d e = record { pre = a; run = b; mon = c; faulted = d; stop_failed = e }

-- it computes at each of the 32 values
flags_same : (a b c d e : Bool) → flags_of (flags_text (flags_with a b c d e)) ≡ flags_with a b c d e
flags_same true true true true true = refl
flags_same true true true true false = refl
flags_same true true true false true = refl
flags_same true true true false false = refl
flags_same true true false true true = refl
flags_same true true false true false = refl
flags_same true true false false true = refl
flags_same true true false false false = refl
flags_same true false true true true = refl
flags_same true false true true false = refl
flags_same true false true false true = refl
flags_same true false true false false = refl
flags_same true false false true true = refl
flags_same true false false true false = refl
flags_same true false false false true = refl
flags_same true false false false false = refl
flags_same false true true true true = refl
flags_same false true true true false = refl
flags_same false true true false true = refl
flags_same false true true false false = refl
flags_same false true false true true = refl
flags_same false true false true false = refl
flags_same false true false false true = refl
flags_same false true false false false = refl
flags_same false false true true true = refl
flags_same false false true true false = refl
flags_same false false true false true = refl
flags_same false false true false false = refl
flags_same false false false true true = refl
flags_same false false false true false = refl
flags_same false false false false true = refl
flags_same false false false false false = refl

pub flags_again : (flags : AdoptedFlags) → flags_of (flags_text flags) ≡ flags
flags_again flags = flags_same flags.pre flags.run flags.mon flags.faulted flags.stop_failed

-- ---- calls

abbrev pub method_at : List ℕ → Method × List ℕ
method_at = choose (method.Start, [])
    ((codes "PRENET_START ", λ t. (method.PrenetStart, 32 ∷ t)) ∷ (codes "START ", λ t. (method.Start, 32 ∷ t)) ∷ (codes "MONITOR_START ", λ t. (method.MonitorStart, 32 ∷ t))
    ∷ (codes "MONITOR_CHECK ", λ t. (method.MonitorCheck, 32 ∷ t)) ∷ (codes "MONITOR_STOP ", λ t. (method.MonitorStop, 32 ∷ t)) ∷ (codes "STOP ", λ t. (method.Stop, 32 ∷ t))
    ∷ (codes "POSTNET_STOP ", λ t. (method.PostnetStop, 32 ∷ t)) ∷ (codes "VALIDATE ", λ t. (method.Validate, 32 ∷ t)) ∷ (codes "INIT ", λ t. (method.Init, 32 ∷ t))
    ∷ (codes "FINI ", λ t. (method.Fini, 32 ∷ t)) ∷ (codes "BOOT ", λ t. (method.Boot, 32 ∷ t)) ∷ (codes "UPDATE ", λ t. (method.Update, 32 ∷ t)) ∷ [])

pub method_again : (m : Method) (rest : List ℕ) → method_at (method_text m ++ 32 ∷ rest) ≡ (m, 32 ∷ rest)
method_again method.PrenetStart rest = refl
method_again method.Start rest = refl
method_again method.MonitorStart rest = refl
method_again method.MonitorCheck rest = refl
method_again method.MonitorStop rest = refl
method_again method.Stop rest = refl
method_again method.PostnetStop rest = refl
method_again method.Validate rest = refl
method_again method.Init rest = refl
method_again method.Fini rest = refl
method_again method.Boot rest = refl
method_again method.Update rest = refl

abbrev pub outcome_of : List ℕ → Outcome
outcome_of = choose Success ((codes "failure", λ t. Failure) ∷ (codes "timeout", λ t. Timeout) ∷ [])

pub outcome_again : (o : Outcome) → outcome_of (outcome_text o) ≡ o
outcome_again Success = refl
outcome_again Failure = refl
outcome_again Timeout = refl

abbrev pub probe_of : List ℕ → ProbeResult
probe_of = choose probe.Ok ((codes "restart", λ t. probe.Restart) ∷ (codes "move", λ t. probe.Move) ∷ (codes "logged", λ t. probe.Logged) ∷ [])

pub probe_again : (r : ProbeResult) → probe_of (probe_text r) ≡ r
probe_again probe.Ok = refl
probe_again probe.Restart = refl
probe_again probe.Move = refl
probe_again probe.Logged = refl

-- ---- status lines

abbrev pub group_state_of : List ℕ → GroupState
group_state_of = choose group.Offline
    ((codes "UNMANAGED", λ t. group.Unmanaged) ∷ (codes "ERROR_STOP_FAILED", λ t. group.ErrorStopFailed) ∷ (codes "ONLINE_FAULTED", λ t. group.OnlineFaulted) ∷ (codes "ONLINE", λ t. group.Online)
    ∷ (codes "PENDING_ONLINE_BLOCKED", λ t. group.PendingOnlineBlocked) ∷ (codes "PENDING_ONLINE", λ t. group.PendingOnline) ∷ (codes "PENDING_OFFLINE", λ t. group.PendingOffline) ∷ [])

pub group_state_again : (s : GroupState) → group_state_of (group_state_text s) ≡ s
group_state_again group.Unmanaged = refl
group_state_again group.ErrorStopFailed = refl
group_state_again group.OnlineFaulted = refl
group_state_again group.Online = refl
group_state_again group.PendingOnline = refl
group_state_again group.PendingOnlineBlocked = refl
group_state_again group.PendingOffline = refl
group_state_again group.Offline = refl

abbrev pub resource_state_of : List ℕ → ResourceState
resource_state_of = choose resource.Offline
    ((codes "STOP_FAILED", λ t. resource.StopFailed) ∷ (codes "START_FAILED", λ t. resource.StartFailed) ∷ (codes "ONLINE", λ t. resource.Online) ∷ (codes "STARTING", λ t. resource.Starting) ∷ [])

pub resource_state_again : (s : ResourceState) → resource_state_of (resource_state_text s) ≡ s
resource_state_again resource.StopFailed = refl
resource_state_again resource.StartFailed = refl
resource_state_again resource.Online = refl
resource_state_again resource.Starting = refl
resource_state_again resource.Offline = refl

abbrev pub reason_of : List ℕ → Reason
reason_of = choose reason.Unmanaged
    ((codes "offline", λ t. reason.Offline) ∷ (codes "suspended", λ t. reason.Suspended) ∷ (codes "empty", λ t. reason.Empty) ∷ (codes "not-member", λ t. reason.NotMember) ∷ (codes "stop-failed", λ t. reason.StopFailed)
    ∷ (codes "evacuated", λ t. reason.Evacuated) ∷ (codes "start-failed", λ t. reason.StartFailed) ∷ (codes "moved", λ t. reason.Moved) ∷ (codes "leaving", λ t. reason.Leaving)
    ∷ (codes "affinity ", λ t. reason.Affinity t) ∷ (codes "dependency ", λ t. reason.Dependency t) ∷ (codes "load ", λ t. reason.Load t) ∷ (codes "faulted ", λ t. reason.Faulted t) ∷ (codes "blocked ", λ t. reason.Blocked t) ∷ [])

pub reason_again : (r : Reason) → reason_of (reason_text r) ≡ r
reason_again reason.Unmanaged = refl
reason_again reason.Offline = refl
reason_again reason.Suspended = refl
reason_again reason.Empty = refl
reason_again reason.NotMember = refl
reason_again reason.StopFailed = refl
reason_again reason.Evacuated = refl
reason_again reason.StartFailed = refl
reason_again reason.Moved = refl
reason_again reason.Leaving = refl
reason_again (reason.Affinity name) = refl
reason_again (reason.Dependency name) = refl
reason_again (reason.Load name) = refl
reason_again (reason.Faulted name) = refl
reason_again (reason.Blocked name) = refl

abbrev pub member_of : List ℕ → Bool
member_of = choose false ((codes "member", λ t. true) ∷ [])

pub member_again : (member : Bool) → member_of (member_text member) ≡ member
member_again true = refl
member_again false = refl

abbrev pub quorum_state_of : List ℕ → QuorumState
quorum_state_of = choose Held ((codes "lost", λ t. Lost) ∷ (codes "off", λ t. Off) ∷ [])

pub quorum_state_again : (s : QuorumState) → quorum_state_of (quorum_state_text s) ≡ s
quorum_state_again Held = refl
quorum_state_again Lost = refl
quorum_state_again Off = refl

abbrev pub skip_of : List ℕ → SkipCause
skip_of = choose skip.Up ((codes "down", λ t. skip.Down) ∷ (codes "no-packet", λ t. skip.NoPacket) ∷ (codes "no-work", λ t. skip.NoWork) ∷ (codes "no-monitor", λ t. skip.NoMonitor)
    ∷ (codes "no-president", λ t. skip.NoPresident) ∷ (codes "no-address", λ t. skip.NoAddress) ∷ [])

pub skip_again : (cause : SkipCause) → skip_of (skip_text cause) ≡ cause
skip_again skip.Up = refl
skip_again skip.Down = refl
skip_again skip.NoPacket = refl
skip_again skip.NoWork = refl
skip_again skip.NoMonitor = refl
skip_again skip.NoPresident = refl
skip_again skip.NoAddress = refl
