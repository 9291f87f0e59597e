-- How the agents' calls end, and what the agents keep.
use Rattle.std.specs.Prelude.{ℕ, zero, suc, ◌+◌, ◌==◌, nat_le, ◌&&◌, Bool, List, [], ◌∷◌, if◌then◌else◌}
use Rattle.cl_base.specs.Methods.{place_of}
use Rattle.cl_base.specs.declared.agent.Call.{Call}
use Rattle.cl_base.specs.declared.method.Outcome.{Outcome}
use Rattle.cl_base.specs.declared.method.Outcome.TheVariants.{Success, Failure, Timeout}
use Rattle.cl_base.specs.declared.method.Method.TheVariants.{Start}

-- always success; it keeps nothing
abbrev pub obeys : List ℕ → Call → Outcome
obeys kept call = Success

abbrev pub same_kept : List ℕ → Call → List ℕ
same_kept kept call = kept

-- Of the START calls each third is a failure; it keeps how many came since the last that failed.

abbrev pub is_start : Call → Bool
is_start call = place_of call.method == place_of Start

abbrev pub starts_in : List ℕ → ℕ
starts_in [] = 0
starts_in (starts ∷ _) = starts

abbrev pub fails_each_third : List ℕ → Call → Outcome
fails_each_third kept call = if is_start call && nat_le 2 (starts_in kept) then Failure else Success

abbrev pub starts_after : List ℕ → Call → List ℕ
starts_after kept call = (if is_start call then (if nat_le 2 (starts_in kept) then 0 else starts_in kept + 1) else starts_in kept) ∷ []

-- The outcomes that are left, in order, and then success.

abbrev pub code_of : Outcome → ℕ
code_of Success = 0
code_of Failure = 1
code_of Timeout = 2

abbrev pub coded : ℕ → Outcome
coded zero = Success
coded (suc zero) = Failure
coded (suc (suc n)) = Timeout

abbrev pub follows : List ℕ → Call → Outcome
follows [] call = Success
follows (code ∷ codes) call = coded code

abbrev pub left_after : List ℕ → Call → List ℕ
left_after [] call = []
left_after (code ∷ codes) call = codes
