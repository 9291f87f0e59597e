-- The names of messages by cases: a kind, with the device, the place or the number that tells it from others of the kind.
use Rattle.std.specs.Prelude.{ℕ, ◌==◌, ◌&&◌, Bool, true, false, Option, Some, None}
use Rattle.cl_base.specs.Kinds.{kind_byte}
use Rattle.cl_base.specs.declared.packet.MessageKind.{MessageKind}
use Rattle.cl_base.specs.declared.packet.MessageKind.TheVariants as kind
use Rattle.cl_base.specs.declared.packet.MessageName.{MessageName}

pub data Name : Type 0 where
  Heartbeat : Name
  Collect : Name
  Promise : Name
  Nack : Name
  SeizeQuorum : (d : ℕ) → Name
  SeizeData : (d : ℕ) → Name
  Seized : (d : ℕ) → Name
  Install : Name
  Ready : Name
  Start : Name
  Prepare : (v : ℕ) → Name
  Prepared : (v : ℕ) → Name
  Commit : (v : ℕ) → Name
  Order : (k : ℕ) → Name
  Done : (k : ℕ) → Name
  Request : (q : ℕ) → Name
  Answer : (q : ℕ) → Name
  Excluded : Name

-- the kind, and the number where the kind has one
abbrev pub kind_of : Name → MessageKind
kind_of Heartbeat = kind.Heartbeat
kind_of Collect = kind.Collect
kind_of Promise = kind.Promise
kind_of Nack = kind.Nack
kind_of (SeizeQuorum d) = kind.SeizeQuorum
kind_of (SeizeData d) = kind.SeizeData
kind_of (Seized d) = kind.Seized
kind_of Install = kind.Install
kind_of Ready = kind.Ready
kind_of Start = kind.Start
kind_of (Prepare v) = kind.Prepare
kind_of (Prepared v) = kind.Prepared
kind_of (Commit v) = kind.Commit
kind_of (Order k) = kind.Order
kind_of (Done k) = kind.Done
kind_of (Request q) = kind.Request
kind_of (Answer q) = kind.Answer
kind_of Excluded = kind.Excluded

abbrev pub number_of : Name → Option ℕ
number_of (SeizeQuorum d) = Some d
number_of (SeizeData d) = Some d
number_of (Seized d) = Some d
number_of (Prepare v) = Some v
number_of (Prepared v) = Some v
number_of (Commit v) = Some v
number_of (Order k) = Some k
number_of (Done k) = Some k
number_of (Request q) = Some q
number_of (Answer q) = Some q
number_of _ = None

-- as the trace writes it
abbrev pub written : Name → MessageName
written name = record { kind = kind_of name; number = number_of name }

abbrev pub or_none : Option ℕ → ℕ
or_none None = 0
or_none (Some number) = number

abbrev pub named_as : MessageKind → ℕ → Name
named_as kind.Heartbeat number = Heartbeat
named_as kind.Collect number = Collect
named_as kind.Promise number = Promise
named_as kind.Nack number = Nack
named_as kind.SeizeQuorum number = SeizeQuorum number
named_as kind.SeizeData number = SeizeData number
named_as kind.Seized number = Seized number
named_as kind.Install number = Install
named_as kind.Ready number = Ready
named_as kind.Start number = Start
named_as kind.Prepare number = Prepare number
named_as kind.Prepared number = Prepared number
named_as kind.Commit number = Commit number
named_as kind.Order number = Order number
named_as kind.Done number = Done number
named_as kind.Request number = Request number
named_as kind.Answer number = Answer number
named_as kind.Excluded number = Excluded

-- the name that a line writes
abbrev pub named : MessageName → Name
named called = named_as called.kind (or_none called.number)

abbrev pub same_number : Option ℕ → Option ℕ → Bool
same_number None None = true
same_number (Some a) (Some b) = a == b
same_number _ _ = false

abbrev pub same_name : Name → Name → Bool
same_name a b = (kind_byte (kind_of a) == kind_byte (kind_of b)) && same_number (number_of a) (number_of b)
