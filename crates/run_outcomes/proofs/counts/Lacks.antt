-- What is told of a device that is lacking.
use Rattle.std.specs.Prelude.{ℕ, ◌≡◌, ◌==◌, not, Bool, true, false, if◌then◌else◌, List, Option, None, Some, is_some}
use Rattle.std.specs.List.{find}
use Rattle.std.proofs.Common.{refl, sym, ap, ◌∙◌}
use Rattle.cl_base.specs.Seizings.{SeizeResult}
use Rattle.cl_base.specs.declared.seizing.Lack.{Lack}
use Rattle.cl_base.specs.declared.seizing.Obstacle.TheVariants as obstacle
use Rattle.cl_base.specs.declared.seizing.SeizeEnd.TheVariants as told
use Rattle.cmm_attempt.proofs.Basics.{false_true, none_some, same_some}
use Rattle.cmm_attempt.specs.Counts.{is_enabled as is_counted, lack_by, lack_in, lack_of, lack_under}
use Rattle.cmm_attempt.specs.Plans.{is_reachable}
use Rattle.cmm_attempt.specs.Seizings.{is_held_by}
use Rattle.cmm_attempt.specs.declared.attached.AttachedDevice.{AttachedDevice}
use Rattle.cmm_attempt.specs.declared.plan.Plan.{Plan}
use Rattle.cmm_attempt.specs.declared.seizing.Seizing.{Seizing}
use Rattle.quorum_votes.specs.Tables.{VoteTable}

-- ---- what is told of a device

pub told_device : (plan : Plan) (ds : List Seizing) (a : AttachedDevice) (x : Lack) → lack_of plan ds a ≡ Some x → x.device ≡ a.device
told_device plan ds a x is = by_reach (is_reachable plan a) is
  where
    named : (y : Lack) → y.device ≡ a.device → Some y ≡ Some x → x.device ≡ a.device
    named y at same = ap (λ (z : Lack). z.device) (sym (same_some y x same)) ∙ at

    by_result : (r : Option SeizeResult) → lack_by a.device r ≡ Some x → x.device ≡ a.device
    by_result None is = absurd (none_some x is)
    by_result (Some (told.Held keys)) is = absurd (none_some x is)
    by_result (Some (told.NotRegistered keys)) is = named _ refl is
    by_result (Some (told.Greater w)) is = named _ refl is
    by_result (Some told.Expelled) is = named _ refl is
    by_result (Some (told.Contended key)) is = named _ refl is
    by_result (Some told.Fault) is = named _ refl is

    by_entry : (o : Option Seizing) → lack_in a.device o ≡ Some x → x.device ≡ a.device
    by_entry None is = absurd (none_some x is)
    by_entry (Some e) is = by_result e.result is

    by_reach : (t : Bool) → (if t then lack_in a.device (find (λ e. e.attached.device == a.device) ds) else Some (record { device = a.device; obstacle = obstacle.NoPath })) ≡ Some x → x.device ≡ a.device
    by_reach true is = by_entry (find (λ e. e.attached.device == a.device) ds) is
    by_reach false is = named _ refl is

pub under_device : (v : VoteTable) (plan : Plan) (ds : List Seizing) (a : AttachedDevice) (x : Lack) → lack_under v plan ds a ≡ Some x → (is_counted v a.device ≡ true) × (x.device ≡ a.device)
under_device v plan ds a x is = by_test (is_counted v a.device) refl is
  where
    by_test : (t : Bool) → is_counted v a.device ≡ t → (if t then lack_of plan ds a else None) ≡ Some x → (is_counted v a.device ≡ true) × (x.device ≡ a.device)
    by_test true e is = (e, told_device plan ds a x is)
    by_test false e is = absurd (none_some x is)

-- a seizing that has ended is told unless the device is held
pub told_unless : (d : ℕ) (r : Option SeizeResult) → is_some r ≡ true → is_some (lack_by d r) ≡ not (is_held_by r)
told_unless d None h = absurd (false_true h)
told_unless d (Some (told.Held keys)) h = refl
told_unless d (Some (told.NotRegistered keys)) h = refl
told_unless d (Some (told.Greater w)) h = refl
told_unless d (Some told.Expelled) h = refl
told_unless d (Some (told.Contended key)) h = refl
told_unless d (Some told.Fault) h = refl

-- the tests of lack_under, one after another
pub lack_tests : (v : VoteTable) (plan : Plan) (ds : List Seizing) (a : AttachedDevice) (t r : Bool) → is_counted v a.device ≡ t → is_reachable plan a ≡ r
    → lack_under v plan ds a ≡ (if t then (if r then lack_in a.device (find (λ e. e.attached.device == a.device) ds) else Some (record { device = a.device; obstacle = obstacle.NoPath })) else None)
lack_tests v plan ds a t r e f =
    ap (λ b. if b then lack_of plan ds a else None) e
    ∙ ap (λ b. if t then (if b then lack_in a.device (find (λ z. z.attached.device == a.device) ds) else Some (record { device = a.device; obstacle = obstacle.NoPath })) else None) f

pub none_of : (t : Bool) (o : Option Lack) → is_some o ≡ false → is_some (if t then o else None) ≡ false
none_of true o h = h
none_of false o h = refl
