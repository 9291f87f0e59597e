-- What an Install brings was read by those that seized the devices.
use Rattle.std.specs.Prelude.{Bool, IfSome, List, None, Option, Some, [], false, find, if◌then◌else◌, true, ℕ, ◌==◌, ◌∷◌, ◌≡◌}
use Rattle.std.specs.List.{AllByRecursion, filter_map}
use Rattle.std.proofs.Common.{refl, subst, sym}
use Rattle.cl_base.specs.Seizings.{SeizeResult}
use Rattle.cl_base.specs.declared.header.Header.{Header}
use Rattle.cl_base.specs.declared.seizing.SeizeEnd.TheVariants as end
use Rattle.cmm_attempt.specs.Attempts.{AttemptState, install_in}
use Rattle.cmm_attempt.specs.Installs.{install_by}
use Rattle.cmm_attempt.specs.Promises.{is_from}
use Rattle.cmm_attempt.specs.Seizings.{reading_by, reading_in, reading_of}
use Rattle.cmm_attempt.specs.declared.attached.AttachedDevice.{AttachedDevice}
use Rattle.cmm_attempt.specs.declared.plan.Plan.{Plan}
use Rattle.cmm_attempt.specs.declared.promised.Promised.{Promised}
use Rattle.cmm_attempt.specs.declared.seizing.Seizing.{Seizing}
use Rattle.history.specs.Moment.{Moment}
use Rattle.history.specs.Seizing.{keys_seized}
use Rattle.run_history.proofs.Lists.{more}
use Rattle.wire.specs.declared.lists.Reading.{Reading}
use Rattle.run_devices.proofs.readings.Results.{AllRead, Fact}
use Rattle.run_devices.specs.readings.Laws.{HeldAsRead, WasRead}

-- a reading is what an entry has of a device that it holds
reading_read : (P : Fact) (d : ℕ) (seizer : Option ℕ) (r : Option SeizeResult) → ((k : ℕ) (keys : List ℕ) → seizer ≡ Some k → r ≡ Some (end.Held keys) → P d k keys)
    → IfSome (reading_by d seizer r) (λ (z : Reading). P z.device z.seizer z.keys)
reading_read P d (Some n) (Some (end.Held ks)) f = f n ks refl refl
reading_read P d (Some n) (Some (end.NotRegistered ks)) f = tt
reading_read P d (Some n) (Some (end.Greater w)) f = tt
reading_read P d (Some n) (Some end.Expelled) f = tt
reading_read P d (Some n) (Some (end.Contended key)) f = tt
reading_read P d (Some n) (Some end.Fault) f = tt
reading_read P d (Some n) None f = tt
reading_read P d None r f = tt

found_read : (P : Fact) (at : ℕ) (es : List Seizing) → AllRead P es
    → IfSome (reading_in (find (λ e. e.attached.device == at) es)) (λ (z : Reading). P z.device z.seizer z.keys)
found_read P at [] k = tt
found_read P at (e ∷ es) k = by_test (e.attached.device == at) (found_read P at es k.1)
  where
    by_test : (b : Bool) → IfSome (reading_in (find (λ z. z.attached.device == at) es)) (λ (z : Reading). P z.device z.seizer z.keys)
        → IfSome (reading_in (if b then Some e else find (λ z. z.attached.device == at) es)) (λ (z : Reading). P z.device z.seizer z.keys)
    by_test true rest = reading_read P e.attached.device e.seizer e.result k.0
    by_test false rest = rest

all_brought : (P : Fact) (es : List Seizing) (attached : List AttachedDevice) → AllRead P es
    → AllByRecursion (λ (z : Reading). P z.device z.seizer z.keys) (filter_map (reading_of es) attached)
all_brought P es [] k = tt
all_brought P es (a ∷ attached) k =
    more (λ (z : Reading). P z.device z.seizer z.keys) (reading_of es a) (filter_map (reading_of es) attached) (found_read P a.device es k)
    (all_brought P es attached k)

by_newest : (plan : Plan) (rs : List Reading) (o : Option Promised) → (install_by plan rs o).readings ≡ rs
by_newest plan rs None = refl
by_newest plan rs (Some p) = refl

-- what an attempt brings is what it has of the devices that it holds
pub reads_so : (h : Header) (ms : List Moment) (a : AttemptState) → AllByRecursion (HeldAsRead h ms a.plan.epoch) a.devices
    → AllByRecursion (WasRead h ms a.plan.epoch) (install_in a).readings
reads_so h ms a read =
    subst (λ rs. AllByRecursion (WasRead h ms a.plan.epoch) rs)
    (sym (by_newest a.plan (filter_map (reading_of a.devices) a.plan.attached) (find (is_from a.newest) a.promises)))
    (all_brought (λ d k keys. keys_seized h k a.plan.epoch d ms ≡ Some keys) a.devices a.plan.attached read)
