-- An update is proposed for the first request, and prepared by one member after another.
use Rattle.std.specs.Prelude.{ℕ, ◌+◌, ◌==◌, nat_le, Bool, true, false, Option, None, Some, if◌then◌else◌}
use Rattle.cl_base.specs.Sets.{set_without}
use Rattle.proposals.specs.declared.arrived.Proposed.{Proposed}
use Rattle.proposals.specs.State.{State}

-- its Prepares are sent in the same event
abbrev pub proposing : State → ℕ → ℕ → State
proposing s place missing = record s { proposed = Some (record { place = place; missing = missing }); age = 0 }

-- a Prepared of another place changes nothing
abbrev pub less : Option Proposed → ℕ → ℕ → Option Proposed
less None n place = None
less (Some p) n place = if p.place == place then Some (record p { missing = set_without p.missing n }) else Some p

abbrev pub prepared_by : State → ℕ → ℕ → State
prepared_by s n place = record s { proposed = less s.proposed n place }

-- all members have prepared what is proposed
abbrev pub is_prepared_in : Option Proposed → Bool
is_prepared_in None = false
is_prepared_in (Some p) = p.missing == 0

abbrev pub is_prepared : State → Bool
is_prepared s = is_prepared_in s.proposed

-- at the fourth tick after they were sent the Prepares go again to those that are missing
abbrev pub is_due : Option Proposed → ℕ → Bool
is_due None age = false
is_due (Some p) age = nat_le 4 (age + 1)

abbrev pub age_after : Option Proposed → ℕ → ℕ
age_after None age = 0
age_after (Some p) age = if nat_le 4 (age + 1) then 0 else age + 1

abbrev pub goes_again : State → Bool
goes_again s = is_due s.proposed s.age

abbrev pub ticked : State → State
ticked s = record s { age = age_after s.proposed s.age }
