-- Where whoever seized a device is told by an Install, the Install tells the seizing that the history has.
use Rattle.std.specs.Prelude.{ℕ, ◌≡◌, ◌==◌, ◌⊎◌, Bool, true, false, List, [], ◌∷◌, Option, None, Some, if◌then◌else◌}
use Rattle.std.specs.List.{AllByRecursion, list_any}
use Rattle.std.proofs.Common.{refl, sym, ap, subst, ◌∙◌, inl, inr}
use Rattle.cl_base.specs.declared.header.Header.{Header}
use Rattle.cmm_attempt.proofs.Basics.{none_some, or_cases, same_number, same_some}
use Rattle.history.specs.Contact.{AttemptsDiffer}
use Rattle.history.specs.Letters.{says}
use Rattle.history.specs.Member.{members_of}
use Rattle.history.specs.Moment.{Moment}
use Rattle.history.specs.Order.{Always}
use Rattle.history.specs.Seizing.{Seizing as Told, keys_seized, or_else, seizing_among, seizing_by, seizing_of}
use Rattle.history.specs.Setting.{nodes_of}
use Rattle.history.specs.Trace.{sent}
use Rattle.wire.specs.declared.lists.Reading.{Reading}
use Rattle.wire.specs.declared.message.Body.{Body}
use Rattle.wire.specs.declared.message.Body.TheVariants as body
use Rattle.run_seizings.proofs.Progress.{no_truth}
use Rattle.run_devices.specs.readings.Laws.{WasRead, seizing_in, told_in}
use Rattle.run_devices.proofs.valid.Members.{seizer_member}
use Rattle.run_devices.specs.valid.Laws.{ReadIn, TellsSeizings}
use Rattle.run_devices.specs.installs.Laws.{TellsAllIn, TellsAllSeizings}
use Rattle.run_devices.specs.installs.Shown.{AllAreTold, Brings, BroughtIn, shown_in}

none_among : (h : Header) (e d : ℕ) (ms : List Moment) (ns : List ℕ) → ((k : ℕ) → keys_seized h k e d ms ≡ None) → seizing_among h e d ms ns ≡ None
none_among h e d ms [] none = refl
none_among h e d ms (n ∷ ns) none = ap (λ o. or_else (seizing_by n o) (seizing_among h e d ms ns)) (none n) ∙ none_among h e d ms ns none

-- of each device
pub device_told : (h : Header) (e d : ℕ) (ms : List Moment) (readings : List Reading) → AllAreTold (shown_in h ms) e readings
    → ((s : Told) → told_in readings d ≡ Some s → seizing_of h e d ms ≡ Some s) → told_in readings d ≡ seizing_of h e d ms
device_told h e d ms readings all told = by_told (told_in readings d) refl
  where
    by_told : (o : Option Told) → told_in readings d ≡ o → told_in readings d ≡ seizing_of h e d ms
    by_told (Some s) is = is ∙ sym (told s is)
    by_told None is = is ∙ sym (none_among h e d ms (nodes_of (members_of e ms)) (λ k. by_keys k (keys_seized h k e d ms) refl))
      where
        by_keys : (k : ℕ) (o : Option (List ℕ)) → keys_seized h k e d ms ≡ o → keys_seized h k e d ms ≡ None
        by_keys k None at = at
        by_keys k (Some keys) at = absurd (none_some (record { seizer = k; keys = keys }) (sym is ∙ all k d keys at))

-- whoever seized it is the one that is told
among_told : (h : Header) (e d : ℕ) (ms : List Moment) (readings : List Reading) (s : Told) (ns : List ℕ) → AllAreTold (shown_in h ms) e readings → told_in readings d ≡ Some s
    → keys_seized h s.seizer e d ms ≡ Some s.keys → list_any (λ m. m == s.seizer) ns ≡ true → seizing_among h e d ms ns ≡ Some s
among_told h e d ms readings s [] all told is there = absurd (no_truth there)
among_told h e d ms readings s (m ∷ ns) all told is there =
    by_keys (keys_seized h m e d ms) refl (or_cases (m == s.seizer) (list_any (λ j. j == s.seizer) ns) there) (λ rest. among_told h e d ms readings s ns all told is rest)
  where
    by_keys : (o : Option (List ℕ)) → keys_seized h m e d ms ≡ o → ((m == s.seizer) ≡ true) ⊎ (list_any (λ j. j == s.seizer) ns ≡ true)
        → (list_any (λ j. j == s.seizer) ns ≡ true → seizing_among h e d ms ns ≡ Some s) → or_else (seizing_by m o) (seizing_among h e d ms ns) ≡ Some s
    by_keys (Some keys) at cases rest = sym (all m d keys at) ∙ told
    by_keys None at (inl here) rest = absurd (none_some s.keys (sym at ∙ (ap (λ z. keys_seized h z e d ms) (same_number m s.seizer here) ∙ is)))
    by_keys None at (inr later) rest = rest later

read_told : (h : Header) (e d : ℕ) (ms : List Moment) (s : Told) (readings : List Reading) → AllByRecursion (WasRead h ms e) readings → told_in readings d ≡ Some s
    → keys_seized h s.seizer e d ms ≡ Some s.keys
read_told h e d ms s [] read is = absurd (none_some s is)
read_told h e d ms s (r ∷ readings) read is = by_test (r.device == d) refl is (λ rest. read_told h e d ms s readings read.1 rest)
  where
    by_test : (b : Bool) → (r.device == d) ≡ b → (if b then Some (seizing_in r) else told_in readings d) ≡ Some s
        → (told_in readings d ≡ Some s → keys_seized h s.seizer e d ms ≡ Some s.keys) → keys_seized h s.seizer e d ms ≡ Some s.keys
    by_test true here at rest =
        subst (λ (z : Told). keys_seized h z.seizer e d ms ≡ Some z.keys) (same_some (seizing_in r) s at)
        (subst (λ z. keys_seized h r.seizer e z ms ≡ Some r.keys) (same_number r.device d here) read.0)
    by_test false other at rest = rest at

pub seizings_told : (h : Header) (e : ℕ) (ms : List Moment) (readings : List Reading) → AttemptsDiffer ms → AllAreTold (shown_in h ms) e readings → AllByRecursion (WasRead h ms e) readings
    → (d : ℕ) → told_in readings d ≡ seizing_of h e d ms
seizings_told h e ms readings differ all read d =
    device_told h e d ms readings all
    (λ s is.
    let seized : keys_seized h s.seizer e d ms ≡ Some s.keys = read_told h e d ms s readings read is in
    among_told h e d ms readings s (nodes_of (members_of e ms)) all is seized (seizer_member h ms s.seizer e d s.keys differ seized).member)

body_told : (h : Header) (ms : List Moment) (o : Option Body) → BroughtIn h ms o → ReadIn h ms o → TellsAllIn h ms o
body_told h ms (Some (body.Install i)) all told = λ d. device_told h i.epoch d ms i.readings all (told d)
body_told h ms _ all told = tt

moment_told : (h : Header) (ms : List Moment) (x : Moment) → Brings h ms x → TellsSeizings h ms x → TellsAllSeizings h ms x
moment_told h ms (sent p n to called bytes) all told = body_told h ms (says bytes) all told
moment_told h ms _ all told = tt

pub all_told : (h : Header) (ms : List Moment) → Always (Brings h) ms → Always (TellsSeizings h) ms → Always (TellsAllSeizings h) ms
all_told h [] all told = tt
all_told h (x ∷ ms) all told = (moment_told h ms x all.0 told.0, all_told h ms all.1 told.1)
