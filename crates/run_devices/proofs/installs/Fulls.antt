-- What an attempt installs tells each seizing: each device that is to be seized has a result, which is as the lines show it.
use Rattle.std.specs.Prelude.{All, ℕ, ◌<◌, ◌≡◌, ◌≢◌, ◌≤◌, ◌==◌, ◌⊎◌, Bool, true, false, List, [], ◌∷◌, Option, None, Some, find, if◌then◌else◌, is_some}
use Rattle.std.specs.List.{AllByRecursion, cons_option, filter_map, list_any}
use Rattle.std.proofs.lemmas.List.Elements.{All-cons, All-head, All-nil, All-tail}
use Rattle.std.proofs.Common.{refl, sym, ap, subst, ◌∙◌, inl, inr}
use Rattle.attempt_laws.specs.Asking.{AreApart, entry_numbers, numbers_of}
use Rattle.cl_base.specs.Seizings.{SeizeResult}
use Rattle.cl_base.specs.declared.seizing.SeizeEnd.TheVariants as end
use Rattle.cmm_attempt.proofs.Basics.{and_cases, none_some, or_cases, same_number, same_some}
use Rattle.cmm_attempt.specs.Attempts.{AttemptState, install_in}
use Rattle.cmm_attempt.specs.Calls.{IsDevice}
use Rattle.cmm_attempt.specs.Installs.{install_by}
use Rattle.cmm_attempt.specs.Promises.{is_from}
use Rattle.cmm_attempt.specs.Seizings.{all_settled, reading_by, reading_in, reading_of}
use Rattle.cmm_attempt.specs.declared.attached.AttachedDevice.{AttachedDevice}
use Rattle.cmm_attempt.specs.declared.plan.Plan.{Plan}
use Rattle.cmm_attempt.specs.declared.promised.Promised.{Promised}
use Rattle.cmm_attempt.specs.declared.seizing.Seizing.{Seizing}
use Rattle.cmm_member.specs.Nodes.{AreOfDevices}
use Rattle.refinement.proofs.Worlds.{all_found}
use Rattle.wire.specs.declared.lists.Reading.{Reading}
use Rattle.run_devices.specs.readings.Laws.{held_keys, seizing_in, told_in}
use Rattle.run_seizings.proofs.Progress.{if_not, if_so, no_truth, or_left, or_right, same_is}
use Rattle.run_devices.proofs.readings.Apart.{or_false}
use Rattle.run_devices.specs.installs.Shown.{AllAreTold, AreOfPlan, EntryShown, ReadInOrder, Shown}
use Rattle.run_devices.proofs.installs.Asks.{SeizedBy, found_is}
use Rattle.run_devices.specs.readings.Readings.{AreInOrder}

settled_found : (f : Seizing → Bool) (es : List Seizing) (x : Seizing) → all_settled es ≡ true → find f es ≡ Some x → is_some x.result ≡ true
settled_found f [] x all is = absurd (none_some x is)
settled_found f (y ∷ ys) x all is =
    let two : (is_some y.result ≡ true) × (all_settled ys ≡ true) = and_cases (is_some y.result) (all_settled ys) all in
    by_test (f y) two.0 is (λ rest. settled_found f ys x two.1 rest)
  where
    by_test : (b : Bool) → is_some y.result ≡ true → (if b then Some y else find f ys) ≡ Some x → (find f ys ≡ Some x → is_some x.result ≡ true) → is_some x.result ≡ true
    by_test true some here rest = subst (λ (z : Seizing). is_some z.result ≡ true) (same_some y x here) some
    by_test false some there rest = rest there

pub found_number : (d : ℕ) (es : List Seizing) (x : Seizing) → find (λ (e : Seizing). e.attached.device == d) es ≡ Some x → list_any (λ y. y == d) (entry_numbers es) ≡ true
found_number d [] x is = absurd (none_some x is)
found_number d (y ∷ ys) x is = by_test (y.attached.device == d) refl is (λ rest. found_number d ys x rest)
  where
    by_test : (b : Bool) → (y.attached.device == d) ≡ b → (if b then Some y else find (λ (e : Seizing). e.attached.device == d) ys) ≡ Some x
        → (find (λ (e : Seizing). e.attached.device == d) ys ≡ Some x → list_any (λ z. z == d) (entry_numbers ys) ≡ true) → list_any (λ z. z == d) (entry_numbers (y ∷ ys)) ≡ true
    by_test true at here rest = or_left (y.attached.device == d) (list_any (λ z. z == d) (entry_numbers ys)) at
    by_test false at there rest = or_right (y.attached.device == d) (list_any (λ z. z == d) (entry_numbers ys)) (rest there)

-- ---- readings

reading_device : (d : ℕ) (o : Option ℕ) (q : Option SeizeResult) (r : Reading) → reading_by d o q ≡ Some r → r.device ≡ d
reading_device d (Some n) (Some (end.Held ks)) r is = ap (λ (z : Reading). z.device) (sym (same_some (record { device = d; seizer = n; keys = ks }) r is))
reading_device d (Some n) (Some (end.NotRegistered ks)) r is = absurd (none_some r is)
reading_device d (Some n) (Some (end.Greater w)) r is = absurd (none_some r is)
reading_device d (Some n) (Some end.Expelled) r is = absurd (none_some r is)
reading_device d (Some n) (Some (end.Contended key)) r is = absurd (none_some r is)
reading_device d (Some n) (Some end.Fault) r is = absurd (none_some r is)
reading_device d (Some n) None r is = absurd (none_some r is)
reading_device d None q r is = absurd (none_some r is)

entry_device : (devices : List Seizing) (at : ℕ) (o : Option Seizing) (r : Reading) → find (λ (e : Seizing). e.attached.device == at) devices ≡ o → reading_in o ≡ Some r → r.device ≡ at
entry_device devices at None r found is = absurd (none_some r is)
entry_device devices at (Some e) r found is =
    reading_device e.attached.device e.seizer e.result r is
    ∙ same_number e.attached.device at (found_is (λ (z : Seizing). z.attached.device == at) devices e found)

told_there : (devices : List Seizing) (d k : ℕ) (keys : List ℕ) (x : Seizing) (attached : List AttachedDevice) → find (λ (e : Seizing). e.attached.device == d) devices ≡ Some x
    → x.seizer ≡ Some k → x.result ≡ Some (end.Held keys) → list_any (λ y. y == d) (numbers_of attached) ≡ true
    → told_in (filter_map (reading_of devices) attached) d ≡ Some (record { seizer = k; keys = keys })
told_there devices d k keys x [] found seizer held there = absurd (no_truth there)
told_there devices d k keys x (a ∷ attached) found seizer held there =
    by_test (a.device == d) refl (or_cases (a.device == d) (list_any (λ y. y == d) (numbers_of attached)) there)
    (λ rest. told_there devices d k keys x attached found seizer held rest)
  where
    rs : List Reading
    rs = filter_map (reading_of devices) attached

    it : Reading
    it = record { device = x.attached.device; seizer = k; keys = keys }

    Goal : Option Reading → Type 0
    Goal o = told_in (cons_option o rs) d ≡ Some (record { seizer = k; keys = keys })

    by_test : (b : Bool) → (a.device == d) ≡ b → ((a.device == d) ≡ true) ⊎ (list_any (λ y. y == d) (numbers_of attached) ≡ true)
        → (list_any (λ y. y == d) (numbers_of attached) ≡ true → told_in rs d ≡ Some (record { seizer = k; keys = keys })) → Goal (reading_of devices a)
    by_test true at cases rest =
        let same : a.device ≡ d = same_number a.device d at in
        let read : reading_of devices a ≡ Some it =
        ap reading_in (subst (λ z. find (λ (e : Seizing). e.attached.device == z) devices ≡ Some x) (sym same) found)
        ∙ (ap (λ o. reading_by x.attached.device o x.result) seizer ∙ ap (λ r. reading_by x.attached.device (Some k) r) held) in
        subst Goal (sym read)
        (if_so (x.attached.device == d) (Some (seizing_in it)) (told_in rs d) (found_is (λ (e : Seizing). e.attached.device == d) devices x found))
    by_test false at (inl here) rest = absurd (no_truth (sym at ∙ here))
    by_test false at (inr later) rest = by_reading (reading_of devices a) refl
      where
        by_reading : (o : Option Reading) → reading_of devices a ≡ o → Goal o
        by_reading None is = rest later
        by_reading (Some r) is =
            if_not (r.device == d) (Some (seizing_in r)) (told_in rs d)
            (subst (λ z. (z == d) ≡ false) (sym (entry_device devices a.device (find (λ (e : Seizing). e.attached.device == a.device) devices) r refl is)) at)
            ∙ rest later

readings_are : (plan : Plan) (rs : List Reading) (o : Option Promised) → (install_by plan rs o).readings ≡ rs
readings_are plan rs None = refl
readings_are plan rs (Some p) = refl

-- ---- the readings are of devices apart

others_read : (devices : List Seizing) (d : ℕ) (attached : List AttachedDevice) → list_any (λ x. x == d) (numbers_of attached) ≡ false
    → All (λ (r : Reading). r.device ≢ d) (filter_map (reading_of devices) attached)
others_read devices d [] lacks = All-nil (λ (r : Reading). r.device ≢ d)
others_read devices d (a ∷ attached) lacks =
    let two : ((a.device == d) ≡ false) × (list_any (λ x. x == d) (numbers_of attached) ≡ false) = or_false (a.device == d) (list_any (λ x. x == d) (numbers_of attached)) lacks in
    by_reading two.0 (reading_of devices a) refl (others_read devices d attached two.1)
  where
    by_reading : (a.device == d) ≡ false → (o : Option Reading) → reading_of devices a ≡ o → All (λ (r : Reading). r.device ≢ d) (filter_map (reading_of devices) attached)
        → All (λ (r : Reading). r.device ≢ d) (cons_option o (filter_map (reading_of devices) attached))
    by_reading ne None is rest = rest
    by_reading ne (Some r) is rest =
        All-cons (λ (z : Reading). z.device ≢ d) r (filter_map (reading_of devices) attached)
        (λ same. no_truth (sym ne ∙ subst (λ z. (a.device == z) ≡ true)
        (sym (entry_device devices a.device (find (λ (e : Seizing). e.attached.device == a.device) devices) r refl is) ∙ same) (same_is a.device))) rest

readings_apart : (devices : List Seizing) (attached : List AttachedDevice) → All IsDevice attached → AreApart (numbers_of attached) → AreOfDevices (filter_map (reading_of devices) attached)
readings_apart devices [] fits apart = tt
readings_apart devices (a ∷ attached) fits apart =
    by_reading (All-head IsDevice a attached fits) (reading_of devices a) refl (readings_apart devices attached (All-tail IsDevice a attached fits) apart.1)
  where
    rs : List Reading
    rs = filter_map (reading_of devices) attached

    by_reading : IsDevice a → (o : Option Reading) → reading_of devices a ≡ o → AreOfDevices rs → AreOfDevices (cons_option o rs)
    by_reading fit None is rest = rest
    by_reading fit (Some r) is rest =
        let at : a.device ≡ r.device = sym (entry_device devices a.device (find (λ (e : Seizing). e.attached.device == a.device) devices) r refl is) in (
          subst (λ z. 1 ≤ z) at fit.0,
          subst (λ z. z ≤ 16) at fit.1,
          subst (λ z. All (λ (o : Reading). o.device ≢ z) rs) at (others_read devices a.device attached apart.0),
          rest,
        )

pub installs_apart : (a : AttemptState) → All IsDevice a.plan.attached → AreApart (numbers_of a.plan.attached) → AreOfDevices (install_in a).readings
installs_apart a fits apart =
    subst AreOfDevices (sym (readings_are a.plan (filter_map (reading_of a.devices) a.plan.attached) (find (is_from a.newest) a.promises))) (readings_apart a.devices a.plan.attached fits apart)

-- ---- .. in order

read_above : (devices : List Seizing) (d : ℕ) (attached : List AttachedDevice) → AllByRecursion (λ e. d < e) (numbers_of attached)
    → AllByRecursion (λ (r : Reading). d < r.device) (filter_map (reading_of devices) attached)
read_above devices d [] above = tt
read_above devices d (a ∷ attached) above = by_reading (reading_of devices a) refl (read_above devices d attached above.1)
  where
    by_reading : (o : Option Reading) → reading_of devices a ≡ o → AllByRecursion (λ (r : Reading). d < r.device) (filter_map (reading_of devices) attached)
        → AllByRecursion (λ (r : Reading). d < r.device) (cons_option o (filter_map (reading_of devices) attached))
    by_reading None is rest = rest
    by_reading (Some r) is rest =
        (subst (λ z. d < z) (sym (entry_device devices a.device (find (λ (e : Seizing). e.attached.device == a.device) devices) r refl is)) above.0, rest)

readings_order : (devices : List Seizing) (attached : List AttachedDevice) → AreInOrder (numbers_of attached) → ReadInOrder (filter_map (reading_of devices) attached)
readings_order devices [] order = tt
readings_order devices (a ∷ attached) order = by_reading (reading_of devices a) refl (readings_order devices attached order.1)
  where
    by_reading : (o : Option Reading) → reading_of devices a ≡ o → ReadInOrder (filter_map (reading_of devices) attached) → ReadInOrder (cons_option o (filter_map (reading_of devices) attached))
    by_reading None is rest = rest
    by_reading (Some r) is rest =
        let at : a.device ≡ r.device = sym (entry_device devices a.device (find (λ (e : Seizing). e.attached.device == a.device) devices) r refl is) in
        (subst (λ z. AllByRecursion (λ (o : Reading). z < o.device) (filter_map (reading_of devices) attached)) at (read_above devices a.device attached order.0), rest)

pub installs_order : (a : AttemptState) → AreInOrder (numbers_of a.plan.attached) → ReadInOrder (install_in a).readings
installs_order a order =
    subst ReadInOrder (sym (readings_are a.plan (filter_map (reading_of a.devices) a.plan.attached) (find (is_from a.newest) a.promises))) (readings_order a.devices a.plan.attached order)

-- ---- what is installed

held_is : (r : SeizeResult) (keys : List ℕ) → held_keys (Some r) ≡ Some keys → r ≡ end.Held keys
held_is (end.Held ks) keys is = ap end.Held (same_some ks keys is)
held_is (end.NotRegistered ks) keys is = absurd (none_some keys is)
held_is (end.Greater w) keys is = absurd (none_some keys is)
held_is end.Expelled keys is = absurd (none_some keys is)
held_is (end.Contended key) keys is = absurd (none_some keys is)
held_is end.Fault keys is = absurd (none_some keys is)

pub installs_all : (K : Shown) (e : ℕ) (a : AttemptState) → ((k d : ℕ) (keys : List ℕ) → K k e d ≡ Some keys → SeizedBy a d k) → AllByRecursion (EntryShown K e) a.devices
    → AreOfPlan a.plan a.devices → all_settled a.devices ≡ true → AllAreTold K e (install_in a).readings
installs_all K e a asked shown of settled k d keys seized =
    let s : SeizedBy a d k = asked k d keys seized in
    let f : Seizing → Bool = λ (z : Seizing). z.attached.device == d in
    let at : s.entry.attached.device ≡ d = same_number s.entry.attached.device d (found_is f a.devices s.entry s.there) in
    subst (λ rs. told_in rs d ≡ Some (record { seizer = k; keys = keys })) (sym (readings_are a.plan (filter_map (reading_of a.devices) a.plan.attached) (find (is_from a.newest) a.promises)))
    (told_there a.devices d k keys s.entry a.plan.attached s.there s.seizer
    (held s.entry.result s.entry refl (settled_found f a.devices s.entry settled s.there)
    (λ r is. subst (λ z. K k e z ≡ held_keys (Some r)) at (all_found (EntryShown K e) f a.devices s.entry shown s.there k r s.seizer is)) s)
    (of d (found_number d a.devices s.entry s.there)))
  where
    held : (o : Option SeizeResult) (x : Seizing) → x.result ≡ o → is_some x.result ≡ true → ((r : SeizeResult) → x.result ≡ Some r → K k e d ≡ held_keys (Some r))
        → SeizedBy a d k → x.result ≡ Some (end.Held keys)
    held None x is some f s = absurd (no_truth (sym (ap is_some is) ∙ some))
    held (Some r) x is some f s = is ∙ ap Some (held_is r keys (sym (f r is) ∙ seized))
