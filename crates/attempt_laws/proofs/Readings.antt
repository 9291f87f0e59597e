-- What an install tells of the devices that are held.
use Rattle.std.proofs.Common.{◌≡◌, ℕ, ◌⊎◌, inl, inr, List, [], ◌∷◌, refl, sym, ap, subst, ◌∙◌}
use Rattle.std.specs.Prelude.{All, Contains, ◌==◌, Bool, true, false, Option, Some, None, if◌then◌else◌}
use Rattle.std.specs.List.{find, filter_map, cons_option}
use Rattle.std.proofs.lemmas.List.Elements.{All-nil, All-cons, All-contains}
use Rattle.cl_base.specs.Seizings.{SeizeResult}
use Rattle.cl_base.specs.declared.seizing.SeizeEnd.TheVariants.{Held, NotRegistered, Greater, Expelled, Contended, Fault}
use Rattle.wire.specs.declared.lists.Reading.{Reading}
use Rattle.cmm_attempt.specs.declared.attached.AttachedDevice.{AttachedDevice}
use Rattle.cmm_attempt.specs.declared.plan.Plan.{Plan}
use Rattle.cmm_attempt.specs.declared.promised.Promised.{Promised}
use Rattle.cmm_attempt.specs.declared.seizing.Seizing.{Seizing}
use Rattle.cmm_attempt.specs.Promises.{is_from}
use Rattle.cmm_attempt.specs.Seizings.{reading_by, reading_in, reading_of}
use Rattle.cmm_attempt.specs.Installs.{install_by}
use Rattle.cmm_attempt.specs.Attempts.{AttemptState, install_in}
use Rattle.cmm_attempt.proofs.Basics.{none_some, same_some}
use Rattle.attempt_laws.specs.Sending.{IsRead, ReadingsAreHeld, HeldIsRead}
use Rattle.attempt_laws.proofs.Sends.{Contains-here, Contains-later, all_of, found_entry}

abbrev ReadMaybe : AttemptState → Option Reading → Type 0
ReadMaybe t None = Unit {0}
ReadMaybe t (Some r) = IsRead t r

read_by : (t : AttemptState) (e : Seizing) → Contains t.devices e → (o : Option ℕ) → e.seizer ≡ o → (r : Option SeizeResult) → e.result ≡ r
    → ReadMaybe t (reading_by e.attached.device o r)
read_by t e listed (Some n) seizer (Some (Held keys)) is = record { entry = e; listed = listed; of_device = refl; by_seizer = seizer; held = is }
read_by t e listed (Some n) seizer (Some (NotRegistered keys)) is = tt
read_by t e listed (Some n) seizer (Some (Greater word)) is = tt
read_by t e listed (Some n) seizer (Some Expelled) is = tt
read_by t e listed (Some n) seizer (Some (Contended key)) is = tt
read_by t e listed (Some n) seizer (Some Fault) is = tt
read_by t e listed (Some n) seizer None is = tt
read_by t e listed None seizer r is = tt

read_in : (t : AttemptState) (a : AttachedDevice) (o : Option Seizing) → find (λ x. x.attached.device == a.device) t.devices ≡ o → ReadMaybe t (reading_in o)
read_in t a None found = tt
read_in t a (Some e) found = read_by t e (found_entry (λ x. x.attached.device == a.device) t.devices e found).1 e.seizer refl e.result refl

with_reading : (t : AttemptState) (o : Option Reading) (rs : List Reading) → ReadMaybe t o → All (IsRead t) rs → All (IsRead t) (cons_option o rs)
with_reading t None rs h rest = rest
with_reading t (Some r) rs h rest = All-cons (IsRead t) r rs h rest

all_read : (t : AttemptState) (attached : List AttachedDevice) → All (IsRead t) (filter_map (reading_of t.devices) attached)
all_read t [] = All-nil (IsRead t)
all_read t (a ∷ attached) =
    with_reading t (reading_of t.devices a) (filter_map (reading_of t.devices) attached)
    (read_in t a (find (λ x. x.attached.device == a.device) t.devices) refl) (all_read t attached)

-- the readings are those of the devices, whichever Promise is the newest
same_readings : (plan : Plan) (rs : List Reading) (o : Option Promised) → (install_by plan rs o).readings ≡ rs
same_readings plan rs None = refl
same_readings plan rs (Some p) = refl

readings_are : (t : AttemptState) → (install_in t).readings ≡ filter_map (reading_of t.devices) t.plan.attached
readings_are t = same_readings t.plan (filter_map (reading_of t.devices) t.plan.attached) (find (is_from t.newest) t.promises)

pub readings_are_held : ReadingsAreHeld
readings_are_held t = subst (All (IsRead t)) (sym (readings_are t)) (all_read t t.plan.attached)

-- The other way.

abbrev IsAmong : List Reading → Option Reading → Type 0
IsAmong rs None = Unit {0}
IsAmong rs (Some r) = Contains rs r

among_more : (o : Option Reading) (rs : List Reading) (x : Option Reading) → IsAmong rs x → IsAmong (cons_option o rs) x
among_more None rs x h = h
among_more (Some r) rs None h = tt
among_more (Some r) rs (Some y) h = Contains-later r rs y h

among_first : (o : Option Reading) (rs : List Reading) → IsAmong (cons_option o rs) o
among_first None rs = tt
among_first (Some r) rs = Contains-here r rs

each_among : (f : AttachedDevice → Option Reading) (attached : List AttachedDevice) → All (λ a. IsAmong (filter_map f attached) (f a)) attached
each_among f [] = All-nil (λ a. IsAmong [] (f a))
each_among f (a ∷ attached) =
    All-cons (λ x. IsAmong (filter_map f (a ∷ attached)) (f x)) a attached (among_first (f a) (filter_map f attached))
    (all_of (λ x. IsAmong (filter_map f attached) (f x)) (λ x. IsAmong (filter_map f (a ∷ attached)) (f x)) attached
    (λ x h. among_more (f a) (filter_map f attached) (f x) h) (each_among f attached))

read_there : (d : ℕ) (o : Option ℕ) (r : Option SeizeResult) (n : ℕ) (keys : List ℕ) → o ≡ Some n → r ≡ Some (Held keys)
    → reading_by d o r ≡ Some (record { device = d; seizer = n; keys = keys })
read_there d o r n keys seizer held = rw (seizer, held) refl

pub held_is_read : HeldIsRead
held_is_read t a e n keys listed found seizer held =
    let rs : List Reading = filter_map (reading_of t.devices) t.plan.attached in
    let is : reading_of t.devices a ≡ Some (record { device = e.attached.device; seizer = n; keys = keys }) =
    ap reading_in found ∙ read_there e.attached.device e.seizer e.result n keys seizer held in
    let among : IsAmong rs (reading_of t.devices a) =
    All-contains (λ x. IsAmong rs (reading_of t.devices x)) t.plan.attached a (each_among (reading_of t.devices) t.plan.attached) listed in
    subst (λ x. Contains x (record { device = e.attached.device; seizer = n; keys = keys })) (sym (readings_are t)) (subst (IsAmong rs) is among)
