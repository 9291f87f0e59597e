-- Where a node saves its record or mounts it, by the rules: a stop falls there alone.
use Rattle.std.specs.Prelude.{ℕ, ◌==◌, ◌&&◌, ◌||◌, not, nat_lt, Bool, true, false, if◌then◌else◌, List, [], ◌∷◌, Option, Some, None, is_some, slice_get}
use Rattle.std.specs.List.{list_any}
use Rattle.schedule_text.specs.declared.event.Event.{Event}
use Rattle.schedule_text.specs.declared.event.Event.TheVariants as event
use Rattle.seize.specs.Joining as joining
use Rattle.seize.specs.declared.step.SeizeStep.{SeizeStep}
use Rattle.seize.specs.declared.step.SeizeStep.TheVariants.{Register}
use Rattle.seize.specs.declared.kind.JoinResult.{JoinResult}
use Rattle.seize.specs.declared.kind.JoinResult.TheVariants.{Joined}
use Rattle.history.specs.Moment.{Moment}
use Rattle.history.specs.Names as name
use Rattle.history.specs.Names.{Name}
use Rattle.history.specs.Trace.{saved, attempt, propose, device}
use Rattle.history.specs.Order.{under_way, so_far}
use Rattle.history.specs.Setting.{Setting, coordinator}
use Rattle.history.specs.Letters.{Letter, arrived}
use Rattle.history.specs.Member.{member_of, attempt_of, number_of, in_collect, promised_to}
use Rattle.history.specs.Seizing.{is_number, acts_for}
use Rattle.history.specs.Validated.{Validity, Valid, Lapsed, Open, validity}
use Rattle.history.specs.Records.{NodeRecord, record_of}
use Rattle.history.specs.UnderWay.{is_under_way}
use Rattle.history.specs.Queue.{Task, Work, Seizes, Joins, tasks_of, queued_of, has_work, queue_is_open}
use Rattle.history.specs.Attempts.{configured_for, view_of, has_reason, set_of}

abbrev pub or_zero : Option ℕ → ℕ
or_zero None = 0
or_zero (Some e) = e

-- the number that n promised last
abbrev pub promise_of : ℕ → List Moment → ℕ
promise_of n [] = 0
promise_of n (attempt e members ∷ before) = if coordinator e == n then e else promise_of n before
promise_of n (saved m ∷ before) = if (m == n) && in_collect n before then or_zero (promised_to before) else promise_of n before
promise_of n (_ ∷ before) = promise_of n before

-- the record of n may have a pending update, so that committing it changes the record
abbrev pub may_be_pending : Option NodeRecord → Bool
may_be_pending None = true
may_be_pending (Some r) = r.pending

abbrev pub has_pending : ℕ → List Moment → Bool
has_pending n before = may_be_pending (record_of n before)

-- an attempt of n is under way
abbrev pub attempts : ℕ → Option ℕ → List Moment → Bool
attempts n None before = false
attempts n (Some e) before = is_under_way e before

-- n has proposed an update in this event
abbrev pub is_proposal_of : ℕ → Moment → Bool
is_proposal_of n (propose e v words) = coordinator e == n
is_proposal_of n _ = false

abbrev pub proposes : ℕ → List Moment → Bool
proposes n before = list_any (is_proposal_of n) (so_far before)

-- ---- a tick: n begins an attempt, or has begun one, and installs and starts it at once

abbrev pub wants : Setting → ℕ → List Moment → Option (ℕ → Bool) → Bool
wants S n before None = true
wants S n before (Some configured) =
    is_number n (slice_get (view_of S.header.nodes configured n before) 0)
    && has_reason n (set_of (view_of S.header.nodes configured n before)) before (member_of n before)

abbrev pub is_attempt_of : ℕ → Moment → Bool
is_attempt_of n (attempt e members) = coordinator e == n
is_attempt_of n _ = false

abbrev pub saves_in_tick : Setting → ℕ → List Moment → Bool
saves_in_tick S n before = wants S n before (configured_for S n before) || list_any (is_attempt_of n) (so_far before) || proposes n before

-- ---- a device command: a seizing that registers first makes the device not valid, a joining that is over makes it valid, and after its last
-- task a coordinator installs

abbrev pub is_lapsed : Validity → Bool
is_lapsed Valid = false
is_lapsed Lapsed = true
is_lapsed Open = false

abbrev pub is_register : SeizeStep → Bool
is_register Register = true
is_register _ = false

abbrev pub is_registering : Work → Bool
is_registering (Seizes s) = is_register s.step
is_registering (Joins s) = false

abbrev pub makes_invalid : Setting → ℕ → List Task → List Moment → Bool
makes_invalid S n [] before = false
makes_invalid S n (t ∷ later) before = is_registering t.work && not (is_lapsed (validity S.header n t.device before))

abbrev pub is_joined : Option JoinResult → Bool
is_joined (Some Joined) = true
is_joined _ = false

abbrev pub joined_by : Work → Bool
joined_by (Seizes s) = false
joined_by (Joins s) = is_joined (joining.result_of s)

abbrev pub has_joined : Task → Bool
has_joined t = joined_by t.work

abbrev pub is_command_of : ℕ → Moment → Bool
is_command_of n (device m d done reply) = m == n
is_command_of n _ = false

abbrev pub saves_at_device : Setting → ℕ → List Moment → Bool
saves_at_device S n before =
    if list_any (is_command_of n) (so_far before)
    then list_any has_joined (tasks_of S n before) || (attempts n (attempt_of n before) before && not (has_work S n before))
    else makes_invalid S n (queued_of S n before) before

-- ---- a message

abbrev pub saves_at : ℕ → Letter → Name → List Moment → Bool
saves_at n l name.Collect before = nat_lt (promise_of n before) (or_zero (number_of l))
saves_at n l name.Promise before = attempts n (attempt_of n before) before
saves_at n l (name.Seized d) before = attempts n (attempt_of n before) before
saves_at n l name.Ready before = attempts n (attempt_of n before) before && has_pending n before
saves_at n l name.Install before = acts_for n (or_zero (number_of l)) before
saves_at n l name.Start before = not (is_some (member_of n before)) && has_pending n before
saves_at n l (name.Prepare v) before = is_some (member_of n before)
saves_at n l (name.Commit v) before = is_some (member_of n before) && has_pending n before
saves_at n l (name.Prepared v) before = (is_some (member_of n before) && has_pending n before) || proposes n before
saves_at n l _ before = proposes n before

abbrev pub saves_at_letter : ℕ → Option Letter → List Moment → Bool
saves_at_letter n None before = false
saves_at_letter n (Some l) before = (l.to == n) && saves_at n l l.name before

-- ---- together

abbrev pub saves_in : Setting → ℕ → Option Event → List Moment → Bool
saves_in S n (Some (event.Boot m)) before = m == n
saves_in S n (Some (event.Tick m)) before = (m == n) && saves_in_tick S n before
saves_in S n (Some (event.Disk m)) before = (m == n) && (saves_at_device S n before || queue_is_open S n before)
saves_in S n (Some (event.Command m words)) before = (m == n) && proposes n before
saves_in S n (Some (event.Probe m resource good)) before = (m == n) && proposes n before
saves_in S n (Some (event.Deliver p)) before = saves_at_letter n (arrived before) before
saves_in S n (Some (event.Next a b)) before = saves_at_letter n (arrived before) before
saves_in S n _ before = false

-- n may save or mount here
abbrev pub may_save : Setting → ℕ → List Moment → Bool
may_save S n before = saves_in S n (under_way before) before
