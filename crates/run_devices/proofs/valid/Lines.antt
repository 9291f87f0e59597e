-- Which lines make a node the seizer of a device: a command at a device alone, by a node that saw the keys of members there.
use Rattle.std.specs.Prelude.{ℕ, ◌≡◌, ◌==◌, ◌&&◌, ◌⊎◌, Bool, true, false, List, [], ◌∷◌, None, Option, Some, if◌then◌else◌}
use Rattle.std.proofs.Common.{refl, sym, subst, inl, inr}
use Rattle.cl_base.specs.declared.header.Header.{Header}
use Rattle.cl_base.specs.declared.packet.DropCause.{DropCause}
use Rattle.cmm_attempt.proofs.Basics.{and_cases, if_either, same_number}
use Rattle.interconnect.specs.Links.{sending}
use Rattle.pgr_device.specs.declared.command.PrAnswer.TheVariants as answer
use Rattle.pgr_device.specs.declared.command.PrCommand.{PrCommand}
use Rattle.pgr_device.specs.declared.command.PrCommand.TheVariants as command
use Rattle.status_report.specs.declared.attempt_entry.AttemptEntry.{AttemptEntry}
use Rattle.status_report.specs.declared.attempt_entry.AttemptEntry.TheVariants as attempt_entry
use Rattle.status_report.specs.declared.device_entry.DeviceAnswer.{DeviceAnswer}
use Rattle.status_report.specs.declared.device_entry.DeviceAnswer.TheVariants.{Failed, Given}
use Rattle.status_report.specs.declared.device_entry.DeviceEntry.{DeviceEntry}
use Rattle.status_report.specs.declared.device_entry.DeviceEntry.TheVariants as device_entry
use Rattle.status_report.specs.declared.entry.Entry.{Entry}
use Rattle.status_report.specs.declared.entry.Entry.TheVariants as entry
use Rattle.status_report.specs.declared.node_entry.NodeEntry.{NodeEntry}
use Rattle.status_report.specs.declared.node_entry.NodeEntry.TheVariants as node_entry
use Rattle.status_report.specs.declared.packet_entry.PacketEntry.TheVariants as packet
use Rattle.history.specs.Member.{members_of}
use Rattle.history.specs.Moment.{Moment, Part, Said, Told}
use Rattle.history.specs.Seizing.{Begun, Progress, Reserved, Saw, Seized, acts_for, are_members_keys, confirmed_from, keys_in, keys_seized, left_from, progress_of, reserved_from, saw_from}
use Rattle.node_model.specs.declared.output.Output.{Output}
use Rattle.node_model.specs.declared.output.Output.TheVariants.{Sends, Tells}
use Rattle.wire.specs.declared.message.Message.{Message}
use Rattle.wire.specs.Spelling.{spelling}
use Rattle.world_model.specs.Sends.{is_sent, name_of}
use Rattle.run_history.specs.CommandLines.{AllQuiet, IsQuiet}
use Rattle.run_history.specs.Scenes.{Scene, dropped_so, passing, sent_as, telling}

-- ---- what shows nothing

pub left_keys : (p : Progress) → keys_in (left_from p) ≡ keys_in p
left_keys Begun = refl
left_keys Reserved = refl
left_keys (Saw keys) = refl
left_keys (Seized keys) = refl

reserved_keys : (p : Progress) → keys_in (reserved_from p) ≡ keys_in p
reserved_keys Begun = refl
reserved_keys Reserved = refl
reserved_keys (Saw keys) = refl
reserved_keys (Seized keys) = refl

saw_keys : (seen : List ℕ) (p : Progress) → keys_in (saw_from seen p) ≡ keys_in p
saw_keys seen Begun = refl
saw_keys seen Reserved = refl
saw_keys seen (Saw keys) = refl
saw_keys seen (Seized keys) = refl

either_keys : (b : Bool) (p q : Progress) → keys_in q ≡ keys_in p → keys_in (if b then q else p) ≡ keys_in p
either_keys b p q same = if_either (λ z. keys_in z ≡ keys_in p) b q p same refl

-- a moment that is no command at a device
abbrev pub NoCommand : Moment → Type 0
NoCommand (Told (entry.Device (device_entry.Command m x c a))) = ⊥
NoCommand _ = Unit {0}

node_keys : (h : Header) (n e d : ℕ) (ms : List Moment) (m : ℕ) (x : NodeEntry) → keys_seized h n e d (Told (entry.Node m x) ∷ ms) ≡ keys_seized h n e d ms
node_keys h n e d ms m node_entry.Saved = either_keys _ (progress_of h n e d ms) (left_from (progress_of h n e d ms)) (left_keys (progress_of h n e d ms))
node_keys h n e d ms m (node_entry.Down why) = either_keys _ (progress_of h n e d ms) (left_from (progress_of h n e d ms)) (left_keys (progress_of h n e d ms))
node_keys h n e d ms m node_entry.Up = refl
node_keys h n e d ms m node_entry.Ticked = refl
node_keys h n e d ms m (node_entry.Installed q) = refl
node_keys h n e d ms m (node_entry.Member q) = refl

attempt_keys : (h : Header) (n e d : ℕ) (ms : List Moment) (x : AttemptEntry) → keys_seized h n e d (Told (entry.Attempt x) ∷ ms) ≡ keys_seized h n e d ms
attempt_keys h n e d ms (attempt_entry.Begun q members) =
    either_keys _ (progress_of h n e d ms) (left_from (progress_of h n e d ms)) (left_keys (progress_of h n e d ms))
attempt_keys h n e d ms (attempt_entry.Votes q have need lacking) = refl
attempt_keys h n e d ms (attempt_entry.Superseded q p) = refl
attempt_keys h n e d ms (attempt_entry.Silent q m) = refl
attempt_keys h n e d ms (attempt_entry.Excluded q m) = refl
attempt_keys h n e d ms (attempt_entry.Foreign q m) = refl

device_keys : (h : Header) (n e d : ℕ) (ms : List Moment) (x : DeviceEntry) → NoCommand (Told (entry.Device x)) → keys_seized h n e d (Told (entry.Device x) ∷ ms) ≡ keys_seized h n e d ms
device_keys h n e d ms (device_entry.Command m x c a) k = absurd k
device_keys h n e d ms (device_entry.Accepted q m x value) k = refl
device_keys h n e d ms (device_entry.Refused m x value why) k = refl

pub same_keys : (h : Header) (n e d : ℕ) (x : Moment) (ms : List Moment) → NoCommand x → keys_seized h n e d (x ∷ ms) ≡ keys_seized h n e d ms
same_keys h n e d (Said line) ms k = refl
same_keys h n e d (Part event) ms k = refl
same_keys h n e d (Told (entry.Device x)) ms k = device_keys h n e d ms x k
same_keys h n e d (Told (entry.Node m x)) ms k = node_keys h n e d ms m x
same_keys h n e d (Told (entry.Attempt x)) ms k = attempt_keys h n e d ms x
same_keys h n e d (Told (entry.Answered x)) ms k = refl
same_keys h n e d (Told entry.Powered) ms k = refl
same_keys h n e d (Told (entry.Packet x)) ms k = refl
same_keys h n e d (Told (entry.Start x)) ms k = refl
same_keys h n e d (Told (entry.Update x)) ms k = refl
same_keys h n e d (Told (entry.Schedule x)) ms k = refl
same_keys h n e d (Told (entry.Command x)) ms k = refl
same_keys h n e d (Told (entry.Call x)) ms k = refl
same_keys h n e d (Told (entry.Status x)) ms k = refl
same_keys h n e d (Told (entry.Address x)) ms k = refl

-- ---- a command

-- the command of n at device d makes m the seizer of device j for e
pub record Newly (h : Header) (ms : List Moment) (n d m e j : ℕ) : Type 0 where
  pub node : n ≡ m
  pub device : d ≡ j
  pub acts : acts_for n e ms ≡ true
  pub seen : List ℕ
  pub saw : progress_of h n e d ms ≡ Saw seen
  pub members : are_members_keys h (members_of e ms) n seen ≡ true

abbrev Shows : Header → List Moment → ℕ → ℕ → PrCommand → DeviceAnswer → ℕ → ℕ → ℕ → Type 0
Shows h ms n d k a m e j =
    (keys_seized h m e j (Told (entry.Device (device_entry.Command n d k a)) ∷ ms) ≡ keys_seized h m e j ms) ⊎ Newly h ms n d m e j

word_shows : (h : Header) (ms : List Moment) (n d w m e j : ℕ) → Shows h ms n d command.Word (Given (answer.Word w)) m e j
word_shows h ms n d w m e j = by_test ((n == m) && (d == j) && (w == e) && acts_for m e ms) refl
  where
    p : Progress
    p = progress_of h m e j ms

    newly : (seen : List ℕ) → p ≡ Saw seen → are_members_keys h (members_of e ms) m seen ≡ true → ((n == m) && (d == j) && (w == e) && acts_for m e ms) ≡ true
        → Newly h ms n d m e j
    newly seen is members test =
        let all : (((n == m) && (d == j) && (w == e)) ≡ true) × (acts_for m e ms ≡ true) = and_cases ((n == m) && (d == j) && (w == e)) (acts_for m e ms) test in
        let three : (((n == m) && (d == j)) ≡ true) × ((w == e) ≡ true) = and_cases ((n == m) && (d == j)) (w == e) all.0 in
        let two : ((n == m) ≡ true) × ((d == j) ≡ true) = and_cases (n == m) (d == j) three.0 in
        let node : n ≡ m = same_number n m two.0 in
        let device : d ≡ j = same_number d j two.1 in
        record {
          node = node;
          device = device;
          acts = subst (λ z. acts_for z e ms ≡ true) (sym node) all.1;
          seen = seen;
          saw = subst (λ z. progress_of h z e d ms ≡ Saw seen) (sym node) (subst (λ z. progress_of h m e z ms ≡ Saw seen) (sym device) is);
          members = subst (λ z. are_members_keys h (members_of e ms) z seen ≡ true) (sym node) members;
        }

    by_members : (seen : List ℕ) (b : Bool) → p ≡ Saw seen → are_members_keys h (members_of e ms) m seen ≡ b
        → ((n == m) && (d == j) && (w == e) && acts_for m e ms) ≡ true → (keys_in (if b then Seized seen else Saw seen) ≡ None) ⊎ Newly h ms n d m e j
    by_members seen true is members test = inr (newly seen is members test)
    by_members seen false is members test = inl refl

    by_progress : (q : Progress) → p ≡ q → ((n == m) && (d == j) && (w == e) && acts_for m e ms) ≡ true
        → (keys_in (confirmed_from h (members_of e ms) m q) ≡ keys_in q) ⊎ Newly h ms n d m e j
    by_progress Begun is test = inl refl
    by_progress Reserved is test = inl refl
    by_progress (Saw seen) is test = by_members seen (are_members_keys h (members_of e ms) m seen) is refl test
    by_progress (Seized seen) is test = inl refl

    by_test : (b : Bool) → ((n == m) && (d == j) && (w == e) && acts_for m e ms) ≡ b
        → (keys_in (if b then confirmed_from h (members_of e ms) m p else p) ≡ keys_in p) ⊎ Newly h ms n d m e j
    by_test true test = by_progress p refl test
    by_test false test = inl refl

word_told : (h : Header) (ms : List Moment) (n d : ℕ) (a : DeviceAnswer) (m e j : ℕ) → Shows h ms n d command.Word a m e j
word_told h ms n d (Given (answer.Word w)) m e j = word_shows h ms n d w m e j
word_told h ms n d (Given (answer.Keys keys)) m e j = inl refl
word_told h ms n d (Given answer.Good) m e j = inl refl
word_told h ms n d (Given answer.Conflict) m e j = inl refl
word_told h ms n d (Given answer.InvalidRelease) m e j = inl refl
word_told h ms n d (Given answer.NoPath) m e j = inl refl
word_told h ms n d (Given (answer.Holder holder)) m e j = inl refl
word_told h ms n d (Given (answer.Value v)) m e j = inl refl
word_told h ms n d (Given (answer.Miscompare w)) m e j = inl refl
word_told h ms n d Failed m e j = inl refl

keys_told : (h : Header) (ms : List Moment) (n d : ℕ) (a : DeviceAnswer) (m e j : ℕ) → Shows h ms n d command.Keys a m e j
keys_told h ms n d (Given (answer.Keys keys)) m e j =
    inl (either_keys _ (progress_of h m e j ms) (saw_from keys (progress_of h m e j ms)) (saw_keys keys (progress_of h m e j ms)))
keys_told h ms n d (Given (answer.Word w)) m e j = inl refl
keys_told h ms n d (Given answer.Good) m e j = inl refl
keys_told h ms n d (Given answer.Conflict) m e j = inl refl
keys_told h ms n d (Given answer.InvalidRelease) m e j = inl refl
keys_told h ms n d (Given answer.NoPath) m e j = inl refl
keys_told h ms n d (Given (answer.Holder holder)) m e j = inl refl
keys_told h ms n d (Given (answer.Value v)) m e j = inl refl
keys_told h ms n d (Given (answer.Miscompare w)) m e j = inl refl
keys_told h ms n d Failed m e j = inl refl

pub command_shows : (h : Header) (ms : List Moment) (n d : ℕ) (k : PrCommand) (a : DeviceAnswer) (m e j : ℕ) → Shows h ms n d k a m e j
command_shows h ms n d (command.Reserve kind key) a m e j =
    inl (either_keys _ (progress_of h m e j ms) (reserved_from (progress_of h m e j ms)) (reserved_keys (progress_of h m e j ms)))
command_shows h ms n d command.Keys a m e j = keys_told h ms n d a m e j
command_shows h ms n d command.Word a m e j = word_told h ms n d a m e j
command_shows h ms n d _ a m e j = inl refl

-- a moment is a command at a device, or none
pub record CommandOf (x : Moment) : Type 0 where
  pub node : ℕ
  pub device : ℕ
  pub command : PrCommand
  pub answer : DeviceAnswer
  pub is : Told (entry.Device (device_entry.Command node device command answer)) ≡ x

pub sorted : (x : Moment) → NoCommand x ⊎ CommandOf x
sorted (Told (entry.Device (device_entry.Command n d k a))) = inr (record { node = n; device = d; command = k; answer = a; is = refl })
sorted (Told (entry.Device (device_entry.Accepted q m x value))) = inl tt
sorted (Told (entry.Device (device_entry.Refused m x value why))) = inl tt
sorted _ = inl tt

-- ---- what a node gives

-- P stays where no command at a device is told
abbrev pub Lasts : (List Moment → Type 0) → Type 0
Lasts P = (x : Moment) (ms : List Moment) → NoCommand x → P ms → P (x ∷ ms)

pub dropped_lasts : (P : List Moment → Type 0) → Lasts P → (o : Option (ℕ × DropCause)) (s : Scene) → P s.moments → P (dropped_so o s).moments
dropped_lasts P lasts None s k = k
dropped_lasts P lasts (Some drop) s k = lasts (Told (entry.Packet (packet.Dropped drop.0 drop.1))) s.moments tt k

posting_lasts : (P : List Moment → Type 0) → Lasts P → (from to : ℕ) (m : Message) (s : Scene) (b : Bool) → P s.moments
    → P (if b then sent_as from to m (sending s.links from to (spelling m)) s else s).moments
posting_lasts P lasts from to m s true k = dropped_lasts P lasts (sending s.links from to (spelling m)).sent.dropped _
    (lasts (Told (entry.Packet (packet.Sent s.links.next from to (name_of m.body) (spelling m)))) s.moments tt k)
posting_lasts P lasts from to m s false k = k

quiet_told : (e : Entry) → IsQuiet e → NoCommand (Told e)
quiet_told (entry.Device (device_entry.Command n d k a)) q = absurd q
quiet_told (entry.Device (device_entry.Accepted q m x value)) k = tt
quiet_told (entry.Device (device_entry.Refused m x value why)) k = tt
quiet_told (entry.Node m x) q = tt
quiet_told (entry.Attempt x) q = tt
quiet_told _ q = tt

pub passing_lasts : (P : List Moment → Type 0) → Lasts P → (n : ℕ) (os : List Output) (s : Scene) → AllQuiet os → P s.moments → P (passing n os s).moments
passing_lasts P lasts n [] s quiet k = k
passing_lasts P lasts n (Tells e ∷ os) s quiet k = passing_lasts P lasts n os (telling e s) quiet.1 (lasts (Told e) s.moments (quiet_told e quiet.0) k)
passing_lasts P lasts n (Sends to b ∷ os) s quiet k =
    passing_lasts P lasts n os _ quiet.1 (posting_lasts P lasts n to (record { sender = n; body = b }) s (is_sent s.links (record { sender = n; body = b })) k)
