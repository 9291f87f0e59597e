-- What an Install brings was read on devices that are held.
use Rattle.std.specs.Prelude.{ℕ, ◌≡◌, ◌==◌, All, Bool, true, false, List, [], ◌∷◌, Option, None, Some, IfSome, find, if◌then◌else◌}
use Rattle.std.specs.List.{AllByRecursion, filter_map}
use Rattle.std.proofs.Common.{refl, sym, subst, ◌∙◌}
use Rattle.std.proofs.lemmas.List.Elements.{All-head, All-tail}
use Rattle.cl_base.specs.Seizings.{SeizeResult}
use Rattle.cl_base.specs.declared.header.Header.{Header}
use Rattle.cl_base.specs.declared.seizing.SeizeEnd.TheVariants as end
use Rattle.cmm_attempt.proofs.Basics.{same_number}
use Rattle.cmm_attempt.specs.Attempts.{AttemptState, install_in}
use Rattle.cmm_attempt.specs.Calls as calls
use Rattle.cmm_attempt.specs.Installs.{install_by}
use Rattle.cmm_attempt.specs.Promises.{is_from}
use Rattle.cmm_attempt.specs.Seizings.{is_held_by, reading_by, reading_in, reading_of}
use Rattle.cmm_attempt.specs.declared.attached.AttachedDevice.{AttachedDevice}
use Rattle.cmm_attempt.specs.declared.plan.Plan.{Plan}
use Rattle.cmm_attempt.specs.declared.promised.Promised.{Promised}
use Rattle.cmm_attempt.specs.declared.seizing.Seizing.{Seizing}
use Rattle.wire.specs.Spelling.{IsDevice}
use Rattle.wire.specs.declared.lists.Reading.{Reading}
use Rattle.history.specs.Moment.{Moment}
use Rattle.run_history.proofs.Lists.{more}
use Rattle.run_seizings.specs.Seized.{HeldSo, IsKnown, ReadSo}

-- a reading is of a device that is held
reading_held : (P : ℕ → Type 0) (d : ℕ) (seizer : Option ℕ) (r : Option SeizeResult) → (is_held_by r ≡ true → P d) → IfSome (reading_by d seizer r) (λ (z : Reading). P z.device)
reading_held P d (Some n) (Some (end.Held ks)) f = f refl
reading_held P d (Some n) (Some (end.NotRegistered ks)) f = tt
reading_held P d (Some n) (Some (end.Greater w)) f = tt
reading_held P d (Some n) (Some end.Expelled) f = tt
reading_held P d (Some n) (Some (end.Contended key)) f = tt
reading_held P d (Some n) (Some end.Fault) f = tt
reading_held P d (Some n) None f = tt
reading_held P d None r f = tt

found_held : (P : ℕ → Type 0) (at : ℕ) (es : List Seizing) → AllByRecursion (HeldSo P) es → IfSome (reading_in (find (λ e. e.attached.device == at) es)) (λ (z : Reading). P z.device × (z.device ≡ at))
found_held P at [] k = tt
found_held P at (e ∷ es) k = by_test (e.attached.device == at) refl (found_held P at es k.1)
  where
    both_so : (o : Option Reading) → e.attached.device ≡ at → IfSome o (λ (z : Reading). P z.device) → IfSome o (λ (z : Reading). z.device ≡ e.attached.device)
        → IfSome o (λ (z : Reading). P z.device × (z.device ≡ at))
    both_so None is p q = tt
    both_so (Some z) is p q = (p, q ∙ is)

    same_device : (d : ℕ) (seizer : Option ℕ) (r : Option SeizeResult) → IfSome (reading_by d seizer r) (λ (z : Reading). z.device ≡ d)
    same_device d (Some n) (Some (end.Held ks)) = refl
    same_device d (Some n) (Some (end.NotRegistered ks)) = tt
    same_device d (Some n) (Some (end.Greater w)) = tt
    same_device d (Some n) (Some end.Expelled) = tt
    same_device d (Some n) (Some (end.Contended key)) = tt
    same_device d (Some n) (Some end.Fault) = tt
    same_device d (Some n) None = tt
    same_device d None r = tt

    by_test : (b : Bool) → (e.attached.device == at) ≡ b → IfSome (reading_in (find (λ z. z.attached.device == at) es)) (λ (z : Reading). P z.device × (z.device ≡ at))
        → IfSome (reading_in (if b then Some e else find (λ z. z.attached.device == at) es)) (λ (z : Reading). P z.device × (z.device ≡ at))
    by_test true is rest =
        both_so (reading_by e.attached.device e.seizer e.result) (same_number e.attached.device at is)
        (reading_held P e.attached.device e.seizer e.result k.0) (same_device e.attached.device e.seizer e.result)
    by_test false is rest = rest

all_held : (P : ℕ → Type 0) (es : List Seizing) (attached : List AttachedDevice) → All calls.IsDevice attached → AllByRecursion (HeldSo P) es
    → AllByRecursion (λ (z : Reading). IsDevice z.device × P z.device) (filter_map (reading_of es) attached)
all_held P es [] fit k = tt
all_held P es (a ∷ attached) fit k =
    more (λ (z : Reading). IsDevice z.device × P z.device) (reading_of es a) (filter_map (reading_of es) attached)
    (in_range (reading_of es a) (found_held P a.device es k)) (all_held P es attached (All-tail calls.IsDevice a attached fit) k)
  where
    in_range : (o : Option Reading) → IfSome o (λ (z : Reading). P z.device × (z.device ≡ a.device)) → IfSome o (λ (z : Reading). IsDevice z.device × P z.device)
    in_range None q = tt
    in_range (Some z) q = (subst IsDevice (sym q.1) (All-head calls.IsDevice a attached fit), q.0)

by_newest : (plan : Plan) (rs : List Reading) (o : Option Promised) → (install_by plan rs o).readings ≡ rs
by_newest plan rs None = refl
by_newest plan rs (Some p) = refl

-- what an attempt brings is what it holds
pub reads_so : (h : Header) (ms : List Moment) (a : AttemptState) → All calls.IsDevice a.plan.attached → AllByRecursion (HeldSo (IsKnown h ms a.plan.epoch)) a.devices
    → ReadSo h ms a.plan.epoch (install_in a).readings
reads_so h ms a fit held =
    subst (ReadSo h ms a.plan.epoch) (sym (by_newest a.plan (filter_map (reading_of a.devices) a.plan.attached) (find (is_from a.newest) a.promises)))
    (known_reads (filter_map (reading_of a.devices) a.plan.attached) (all_held (IsKnown h ms a.plan.epoch) a.devices a.plan.attached fit held))
  where
    known_reads : (rs : List Reading) → AllByRecursion (λ (z : Reading). IsDevice z.device × IsKnown h ms a.plan.epoch z.device) rs → ReadSo h ms a.plan.epoch rs
    known_reads [] k = tt
    known_reads (r ∷ rs) k = ((k.0.0, k.0.1.1), known_reads rs k.1)
