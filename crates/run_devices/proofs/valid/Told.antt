-- The one that seized a device is the seizer that the history has of it, and that an Install tells.
use Rattle.std.specs.Prelude.{ℕ, ◌≡◌, ◌==◌, ◌⊎◌, Bool, true, false, List, [], ◌∷◌, Option, None, Some, if◌then◌else◌}
use Rattle.std.specs.List.{AllByRecursion, list_any}
use Rattle.std.proofs.Common.{refl, sym, ap, subst, ◌∙◌, inl, inr}
use Rattle.cl_base.specs.declared.header.Header.{Header}
use Rattle.cmm_attempt.proofs.Basics.{none_some, or_cases, same_number, same_some}
use Rattle.wire.specs.declared.lists.Reading.{Reading}
use Rattle.wire.specs.declared.message.Body.{Body}
use Rattle.wire.specs.declared.message.Body.TheVariants as body
use Rattle.history.specs.Contact.{AttemptsDiffer}
use Rattle.history.specs.Letters.{says}
use Rattle.history.specs.Member.{members_of}
use Rattle.history.specs.Moment.{Moment}
use Rattle.history.specs.Order.{Always}
use Rattle.history.specs.Seizing.{Seizing as Told, keys_seized, or_else, seizing_among, seizing_by}
use Rattle.history.specs.Setting.{nodes_of}
use Rattle.history.specs.Trace.{sent}
use Rattle.run_history.proofs.Runs.{once_of_each_run}
use Rattle.run_seizings.proofs.Progress.{no_truth}
use Rattle.run_devices.proofs.readings.Keys.{keys_stay}
use Rattle.run_devices.proofs.readings.Runs.{readings_are_of_seizers}
use Rattle.run_devices.specs.readings.Laws.{BringsWhatWasRead, BroughtIn, WasRead, seizing_in, told_in}
use Rattle.run_devices.specs.valid.Laws.{InstallsTellSeizings, OneSeizer, ReadIn, SeizersAreTold, SeizersAreToldInEachRun, TellsSeizings}
use Rattle.run_devices.proofs.valid.Members.{seizer_member}
use Rattle.run_devices.proofs.valid.Runs.{one_seizer_in_each_run}

-- ---- of the lines

among : (h : Header) (ms : List Moment) (n e d : ℕ) (ks : List ℕ) (ns : List ℕ) → OneSeizer h ms → keys_seized h n e d ms ≡ Some ks → list_any (λ m. m == n) ns ≡ true
    → seizing_among h e d ms ns ≡ Some (record { seizer = n; keys = ks })
among h ms n e d ks [] one is there = absurd (no_truth there)
among h ms n e d ks (m ∷ ns) one is there =
    by_keys (keys_seized h m e d ms) refl (or_cases (m == n) (list_any (λ j. j == n) ns) there) (λ rest. among h ms n e d ks ns one is rest)
  where
    same : (found : List ℕ) → keys_seized h m e d ms ≡ Some found → m ≡ n
    same found at = one m n e d found ks at is

    by_keys : (o : Option (List ℕ)) → keys_seized h m e d ms ≡ o → ((m == n) ≡ true) ⊎ (list_any (λ j. j == n) ns ≡ true)
        → (list_any (λ j. j == n) ns ≡ true → seizing_among h e d ms ns ≡ Some (record { seizer = n; keys = ks }))
        → or_else (seizing_by m o) (seizing_among h e d ms ns) ≡ Some (record { seizer = n; keys = ks })
    by_keys (Some found) at cases rest =
        let keys : found ≡ ks = same_some found ks (sym at ∙ (ap (λ z. keys_seized h z e d ms) (same found at) ∙ is)) in
        ap (λ z. Some (record { seizer = z; keys = found })) (same found at) ∙ ap (λ z. Some (record { seizer = n; keys = z })) keys
    by_keys None at (inl here) rest = absurd (none_some ks (sym at ∙ (ap (λ z. keys_seized h z e d ms) (same_number m n here) ∙ is)))
    by_keys None at (inr later) rest = rest later

told_so : (h : Header) (ms : List Moment) → AttemptsDiffer ms → OneSeizer h ms → SeizersAreTold h ms
told_so h ms differ one n e d ks is = among h ms n e d ks (nodes_of (members_of e ms)) one is (seizer_member h ms n e d ks differ is).member

pub seizers_are_told_in_each_run : SeizersAreToldInEachRun
seizers_are_told_in_each_run h cells xs few small may =
    told_so h _ (once_of_each_run h cells xs few small may) (one_seizer_in_each_run h cells xs few small may)

-- ---- of an Install

told_read : (h : Header) (ms : List Moment) (e d : ℕ) (s : Told) (rs : List Reading) → AllByRecursion (WasRead h ms e) rs → told_in rs d ≡ Some s
    → keys_seized h s.seizer e d ms ≡ Some s.keys
told_read h ms e d s [] read is = absurd (none_some s is)
told_read h ms e d s (r ∷ rs) read is = by_test (r.device == d) refl is (λ rest. told_read h ms e d s rs read.1 rest)
  where
    by_test : (b : Bool) → (r.device == d) ≡ b → (if b then Some (seizing_in r) else told_in rs d) ≡ Some s
        → (told_in rs d ≡ Some s → keys_seized h s.seizer e d ms ≡ Some s.keys) → keys_seized h s.seizer e d ms ≡ Some s.keys
    by_test true here at rest =
        subst (λ (z : Told). keys_seized h z.seizer e d ms ≡ Some z.keys) (same_some (seizing_in r) s at)
        (subst (λ z. keys_seized h r.seizer e z ms ≡ Some r.keys) (same_number r.device d here) read.0)
    by_test false other at rest = rest at

body_told : (h : Header) (ms : List Moment) (o : Option Body) → SeizersAreTold h ms → BroughtIn h ms o → ReadIn h ms o
body_told h ms (Some (body.Install i)) all read = λ d s is. all s.seizer i.epoch d s.keys (told_read h ms i.epoch d s i.readings read is)
body_told h ms _ all read = tt

moment_told : (h : Header) (ms : List Moment) (x : Moment) → SeizersAreTold h ms → BringsWhatWasRead h ms x → TellsSeizings h ms x
moment_told h ms (sent p n to called bytes) all read = body_told h ms (says bytes) all read
moment_told h ms _ all read = tt

always_told : (h : Header) (ms : List Moment) → AttemptsDiffer ms → OneSeizer h ms → Always (BringsWhatWasRead h) ms → Always (TellsSeizings h) ms
always_told h [] differ one read = tt
always_told h (x ∷ ms) differ one read =
    let before : OneSeizer h ms = λ m k e d a b i j. one m k e d a b (keys_stay a h m e d x ms i) (keys_stay b h k e d x ms j) in
    (moment_told h ms x (told_so h ms differ.1 before) read.0, always_told h ms differ.1 before read.1)

pub installs_tell_seizings : InstallsTellSeizings
installs_tell_seizings h cells xs few small may =
    always_told h _ (once_of_each_run h cells xs few small may) (one_seizer_in_each_run h cells xs few small may) (readings_are_of_seizers h cells xs few small may)
