-- A refusal where something is so, and the numbers of refusals.
use Rattle.std.specs.Prelude.{ℕ, nat_lt, Bool, true, false, Option, Some, None, if◌then◌else◌}
use Rattle.std.specs.Option.{option_map}
use Rattle.cl_base.specs.declared.refusal.Refusal.{Refusal}
use Rattle.cl_base.specs.declared.refusal.Refusal.TheVariants.{Unknown, Exists, InUse, Managed, Unmanaged, SameValue, NotListed, TooMany, BadProperty, BadSetting, StillUp, Cycle, Single, NoMark, NodeIsMember, DeviceNotHeld, LoseQuorum, RecordFull, NodeHasVote}
use Rattle.cl_base.specs.declared.refusal.Thing.{Thing}

abbrev pub where_so : Bool → Refusal → Option Refusal
where_so true refusal = Some refusal
where_so false refusal = None

-- 7: what is not there
abbrev pub unknown : Option Thing → Option Refusal
unknown thing = option_map (λ t. Unknown t) thing

-- the number of a refusal
abbrev pub number_of : Refusal → ℕ
number_of (Unknown thing) = 7
number_of Exists = 8
number_of (InUse name) = 9
number_of Managed = 10
number_of Unmanaged = 11
number_of SameValue = 12
number_of (NotListed n) = 13
number_of TooMany = 14
number_of BadProperty = 15
number_of BadSetting = 16
number_of StillUp = 17
number_of (Cycle names) = 18
number_of Single = 19
number_of NoMark = 20
number_of NodeIsMember = 21
number_of DeviceNotHeld = 22
number_of (LoseQuorum have need) = 23
number_of (RecordFull length) = 24
number_of NodeHasVote = 25

abbrev pub is_below : Option Refusal → ℕ → Bool
is_below None number = false
is_below (Some refusal) number = nat_lt (number_of refusal) number

-- what the configuration alone tells, where its number is below this one, else what comes behind
abbrev pub before : ℕ → Option Refusal → Option Refusal → Option Refusal
before number told behind = if is_below told number then told else behind
