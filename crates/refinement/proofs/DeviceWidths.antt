-- Devices keep to 64 bits: those of the header do, and each command keeps them so whose numbers have 64 bits.
use Rattle.std.specs.Prelude.{ℕ, zero, suc, ◌≡◌, ◌≢◌, ◌≤◌, ◌<◌, ◌^◌, ◌++◌, ◌==◌, ◌||◌, not, Bool, true, false, List, [], ◌∷◌, Option, None, Some, Ok, length, map, filter, slice_get, if◌then◌else◌}
use Rattle.std.proofs.Common.{refl, sym, ap, subst, ◌∙◌, arith}
use Rattle.std.specs.List.{AllByRecursion}
use Rattle.std.proofs.lemmas.Bool.{cond_both, eqb-true, eqb-false, or_from, or_parts}
use Rattle.std.proofs.lemmas.List.{length-map}
use Rattle.cl_base.specs.Keys.{key_of}
use Rattle.cl_base.specs.Limits.{most_nodes}
use Rattle.cl_base.specs.Numbers.{numbers_to}
use Rattle.cl_base.specs.Sets.{has}
use Rattle.cl_base.specs.declared.header.DeviceKind.{DeviceKind}
use Rattle.cl_base.specs.declared.header.DeviceKind.TheVariants.{Data, Quorum, Server}
use Rattle.cl_base.specs.declared.header.Header.{Header}
use Rattle.cl_base.specs.declared.header.HeaderDevice.{HeaderDevice}
use Rattle.cmm_attempt.proofs.Basics.{none_some, same_some}
use Rattle.pgr_device.specs.Device.{Device, fresh, own_key}
use Rattle.pgr_device.specs.Kept.{IsApart}
use Rattle.pgr_device.specs.Registered.{is_registered, keys_of, registered_key, rekeyed, without_key, without_node}
use Rattle.pgr_device.specs.Spc as spc
use Rattle.pgr_device.specs.declared.kind.PrKind.{PrKind}
use Rattle.pgr_device.specs.declared.command.PrAnswer.TheVariants as answer
use Rattle.pgr_device.specs.declared.command.PrCommand.{PrCommand}
use Rattle.pgr_device.specs.declared.command.PrCommand.TheVariants as command
use Rattle.pgr_device.specs.declared.registration.Registration.{Registration}
use Rattle.pgr_device.specs.declared.registration.Reservation.{Reservation}
use Rattle.pgr_device.proofs.FirstKeys.{with_keys_is}
use Rattle.pgr_device.proofs.Keeps.{apart_push, unregistered_by_key}
use Rattle.pgr_device.proofs.Room.{room}
use Rattle.world_model.specs.First.{first_device, first_device_of}
use Rattle.refinement.specs.node_widths.Widths.{AnswerFits}
use Rattle.refinement.specs.Widths.{CommandFits}
use Rattle.refinement.specs.Worlds.{DeviceFits, Keeps}
use Rattle.refinement.proofs.Worlds.{all_append, all_filter}

abbrev KeyFits : Registration → Type 0
KeyFits r = r.key < 2 ^ 64

-- Another list of registrations.

pushed : (rs : List Registration) (r : Registration) → length (rs ++ r ∷ []) ≡ suc (length rs)
pushed [] r = refl
pushed (q ∷ rs) r = ap suc (pushed rs r)

fewer : (p : Registration → Bool) (rs : List Registration) (k : ℕ) → length rs ≤ k → length (filter p rs) ≤ k
fewer p [] k h = h
fewer p (r ∷ rs) zero h = absurd (none_below (length rs) h)
  where
    none_below : (n : ℕ) → suc n ≤ 0 → ⊥
    none_below n l = omega (arith, l)
fewer p (r ∷ rs) (suc k) h =
    let later : length (filter p rs) ≤ k = fewer p rs k (omega (arith, h)) in
    cond_both (p r) (r ∷ filter p rs) (filter p rs) (λ (qs : List Registration). length qs ≤ suc k) (λ _. omega (arith, later)) (λ _. omega (arith, later))

unregistered_fewer : (p : Registration → Bool) (rs : List Registration) (n : ℕ) → is_registered rs n ≡ false → is_registered (filter p rs) n ≡ false
unregistered_fewer p [] n h = refl
unregistered_fewer p (r ∷ rs) n h =
    let apart = or_parts (r.node == n) (is_registered rs n) h in
    let later : is_registered (filter p rs) n ≡ false = unregistered_fewer p rs n apart.1 in
    cond_both (p r) (r ∷ filter p rs) (filter p rs) (λ (qs : List Registration). is_registered qs n ≡ false) (λ _. or_from _ _ apart.0 later) (λ _. later)

apart_fewer : (paths : ℕ) (p : Registration → Bool) (rs : List Registration) → IsApart paths rs → IsApart paths (filter p rs)
apart_fewer paths p [] h = tt
apart_fewer paths p (r ∷ rs) h =
    let later : IsApart paths (filter p rs) = apart_fewer paths p rs h.5 in
    cond_both (p r) (r ∷ filter p rs) (filter p rs) (λ (qs : List Registration). IsApart paths qs)
    (λ _. (h.0, h.1, h.2, h.3, unregistered_fewer p rs r.node h.4, later)) (λ _. later)

node_rekeyed : (node key : ℕ) (r : Registration) → (rekeyed node key r).node ≡ r.node
node_rekeyed node key r =
    let taken : Registration = record { node = node; key = key } in
    cond_both (r.node == node) taken r (λ (q : Registration). q.node ≡ r.node) (λ e. sym (eqb-true r.node node e)) (λ _. refl)

registered_rekeyed : (node key : ℕ) (rs : List Registration) (n : ℕ) → is_registered (map (rekeyed node key) rs) n ≡ is_registered rs n
registered_rekeyed node key [] n = refl
registered_rekeyed node key (r ∷ rs) n =
    ap (λ m. (m == n) || is_registered (map (rekeyed node key) rs) n) (node_rekeyed node key r) ∙ ap (λ b. (r.node == n) || b) (registered_rekeyed node key rs n)

apart_rekeyed : (paths node key : ℕ) (rs : List Registration) → key ≢ 0 → IsApart paths rs → IsApart paths (map (rekeyed node key) rs)
apart_rekeyed paths node key [] new h = tt
apart_rekeyed paths node key (r ∷ rs) new h =
    let same : r.node ≡ (rekeyed node key r).node = sym (node_rekeyed node key r) in
    let taken : Registration = record { node = node; key = key } in (
      subst (λ (m : ℕ). 1 ≤ m) same h.0,
      subst (λ (m : ℕ). m ≤ 32) same h.1,
      subst (λ (m : ℕ). has paths m ≡ true) same h.2,
      cond_both (r.node == node) taken r (λ (q : Registration). q.key ≢ 0) (λ _. new) (λ _. h.3),
      registered_rekeyed node key rs (rekeyed node key r).node ∙ subst (λ (m : ℕ). is_registered rs m ≡ false) same h.4,
      apart_rekeyed paths node key rs new h.5,
    )

keys_rekeyed : (node key : ℕ) (rs : List Registration) → key < 2 ^ 64 → AllByRecursion KeyFits rs → AllByRecursion KeyFits (map (rekeyed node key) rs)
keys_rekeyed node key [] small h = tt
keys_rekeyed node key (r ∷ rs) small h =
    let taken : Registration = record { node = node; key = key } in
    (cond_both (r.node == node) taken r KeyFits (λ _. small) (λ _. h.0), keys_rekeyed node key rs small h.1)

one_more : (n k : ℕ) → n < 32 → k ≡ suc n → k ≤ 32
one_more n k h e = omega (arith, h, e)

-- Command by command.

abbrev Good : spc.Outcome → Type 0
Good o = DeviceFits o.after × AnswerFits (Ok o.answer)

either : (b : Bool) (x y : spc.Outcome) → (b ≡ true → Good x) → Good y → Good (if b then x else y)
either b x y f g = cond_both b x y Good f (λ e. g)

reserved_fits : (d : Device) (o : Option Reservation) → DeviceFits d → DeviceFits (record d { reservation = o })
reserved_fits d o f = record { word = f.word; few = f.few; keys = f.keys; apart = f.apart }

fewer_fits : (d : Device) (p : Registration → Bool) (o : Option Reservation) → DeviceFits d → DeviceFits (record d { registrations = filter p d.registrations; reservation = o })
fewer_fits d p o f = record { word = f.word; few = fewer p d.registrations 32 f.few; keys = all_filter KeyFits p d.registrations f.keys; apart = apart_fewer d.paths p d.registrations f.apart }

with_key_fits : (d : Device) (n new : ℕ) (held : Option ℕ) → registered_key d.registrations n ≡ held → 1 ≤ n → n ≤ 32 → has d.paths n ≡ true → new < 2 ^ 64 → DeviceFits d
    → DeviceFits (spc.with_key d n new held)
with_key_fits d n new None none low high path small f =
    let taken : Registration = record { node = n; key = new } in
    cond_both (new == 0) d (record d { registrations = d.registrations ++ taken ∷ [] }) DeviceFits (λ _. f) (λ some. record {
      word = f.word;
      few = one_more (length d.registrations) (length (d.registrations ++ taken ∷ [])) (room d.paths d.registrations n low high f.apart none) (pushed d.registrations taken);
      keys = all_append KeyFits d.registrations taken f.keys small;
      apart = apart_push d.paths d.registrations taken low high path (eqb-false new 0 some) (unregistered_by_key d.registrations n none) f.apart;
    })
with_key_fits d n new (Some held) is low high path small f =
    cond_both (new == 0) (record d { registrations = without_node n d.registrations; reservation = spc.released_by n d.reservation }) (record d { registrations = map (rekeyed n new) d.registrations }) DeviceFits
    (λ _. fewer_fits d (λ r. not (r.node == n)) (spc.released_by n d.reservation) f) (λ some. record {
      word = f.word;
      few = subst (λ k. k ≤ 32) (sym (length-map d.registrations (rekeyed n new))) f.few;
      keys = keys_rekeyed n new d.registrations small f.keys;
      apart = apart_rekeyed d.paths n new d.registrations (eqb-false new 0 some) f.apart;
    })

reserving_fits : (d : Device) (n : ℕ) (kind : PrKind) (o : Option Reservation) → DeviceFits d → Good (spc.reserving d n kind o)
reserving_fits d n kind None f = (reserved_fits d _ f, tt)
reserving_fits d n kind (Some held) f = either _ (spc.good d) (spc.conflict d) (λ _. (f, tt)) (f, tt)

releasing_fits : (d : Device) (n : ℕ) (kind : PrKind) (o : Option Reservation) → DeviceFits d → Good (spc.releasing d n kind o)
releasing_fits d n kind None f = (f, tt)
releasing_fits d n kind (Some held) f =
    either (held.holder == n) _ (spc.good d)
    (λ _. either _ (spc.good (record d { reservation = None })) (spc.answers d answer.InvalidRelease) (λ _. (reserved_fits d None f, tt)) (f, tt)) (f, tt)

preempted_fits : (d : Device) (n : ℕ) (kind : PrKind) (victim : ℕ) → DeviceFits d → DeviceFits (spc.preempted d n kind victim)
preempted_fits d n kind victim f =
    let taken : Reservation = record { holder = n; kind = kind } in
    cond_both (spc.is_holders d.registrations victim d.reservation) (record d { registrations = without_key victim d.registrations; reservation = Some taken })
    (record d { registrations = without_key victim d.registrations }) DeviceFits (λ _. fewer_fits d (λ r. not (r.key == victim)) (Some taken) f) (λ _. fewer_fits d (λ r. not (r.key == victim)) d.reservation f)

keys_told : (rs : List Registration) → AllByRecursion KeyFits rs → AllByRecursion (λ k. k < 2 ^ 64) (keys_of rs)
keys_told [] h = tt
keys_told (r ∷ rs) h = (h.0, keys_told rs h.1)

carried_out_fits : (d : Device) (n : ℕ) (k : PrCommand) → 1 ≤ n → n ≤ 32 → has d.paths n ≡ true → CommandFits k → DeviceFits d → Good (spc.carried_out d n k)
carried_out_fits d n (command.Register shown new) low high path small f =
    either _ (spc.good (spc.with_key d n new (registered_key d.registrations n))) (spc.conflict d)
    (λ _. (with_key_fits d n new (registered_key d.registrations n) refl low high path small f, tt)) (f, tt)
carried_out_fits d n (command.Ignore new) low high path small f = (with_key_fits d n new (registered_key d.registrations n) refl low high path small f, tt)
carried_out_fits d n (command.Reserve kind key) low high path small f =
    either _ (spc.reserving d n kind d.reservation) (spc.conflict d) (λ _. reserving_fits d n kind d.reservation f) (f, tt)
carried_out_fits d n (command.Release kind key) low high path small f =
    either _ (spc.releasing d n kind d.reservation) (spc.conflict d) (λ _. releasing_fits d n kind d.reservation f) (f, tt)
carried_out_fits d n (command.Clear key) low high path small f =
    either _ (spc.good (spc.cleared d)) (spc.conflict d) (λ _. (record { word = f.word; few = omega arith; keys = tt; apart = tt }, tt)) (f, tt)
carried_out_fits d n (command.Preempt kind key victim) low high path small f =
    either _ (spc.preempting d n kind victim) (spc.conflict d)
    (λ _. either _ (spc.good (spc.preempted d n kind victim)) (spc.conflict d) (λ _. (preempted_fits d n kind victim f, tt)) (f, tt)) (f, tt)
carried_out_fits d n command.Keys low high path small f = (f, (subst (λ k. k ≤ 32) (sym (length-map d.registrations (λ (r : Registration). r.key))) f.few, keys_told d.registrations f.keys))
carried_out_fits d n command.Holder low high path small f = (f, tt)
carried_out_fits d n command.Read low high path small f = either _ (spc.answers d (answer.Value d.value)) (spc.conflict d) (λ _. (f, tt)) (f, tt)
carried_out_fits d n (command.Write value) low high path small f =
    either _ (spc.good (record d { value = value })) (spc.conflict d) (λ _. (record { word = f.word; few = f.few; keys = f.keys; apart = f.apart }, tt)) (f, tt)
carried_out_fits d n command.Word low high path small f = either _ (spc.answers d (answer.Word d.word)) (spc.conflict d) (λ _. (f, f.word)) (f, tt)
carried_out_fits d n (command.Swap expected new) low high path small f =
    either _ (spc.swapping d expected new) (spc.conflict d)
    (λ _. either _ (spc.good (record d { word = new })) (spc.answers d (answer.Miscompare d.word)) (λ _. (record { word = small; few = f.few; keys = f.keys; apart = f.apart }, tt)) (f, f.word)) (f, tt)

pub command_keeps : (d : Device) (n : ℕ) (k : PrCommand) → 1 ≤ n → n ≤ 32 → CommandFits k → DeviceFits d → Keeps d n k
command_keeps d n k low high small f = either (has d.paths n) (spc.carried_out d n k) (spc.answers d answer.NoPath) (λ path. carried_out_fits d n k low high path small f) (f, tt)

-- The first devices.

pub key_small : (cluster n : ℕ) → cluster < 2 ^ 32 → n ≤ 32 → key_of cluster n < 2 ^ 64
key_small cluster n h k = omega (arith, h, k)

own_keys_fit : (cluster : ℕ) (ns : List ℕ) → cluster < 2 ^ 32 → AllByRecursion (λ n. n ≤ 32) ns → AllByRecursion KeyFits (map (own_key cluster) ns)
own_keys_fit cluster [] small h = tt
own_keys_fit cluster (n ∷ ns) small h = (key_small cluster n small h.0, own_keys_fit cluster ns small h.1)

all_numbers : (set k most : ℕ) → k ≤ most → AllByRecursion (λ n. n ≤ most) (numbers_to set k)
all_numbers set zero most h = tt
all_numbers set (suc k) most h =
    let before : AllByRecursion (λ n. n ≤ most) (numbers_to set k) = all_numbers set k most (omega (arith, h)) in
    cond_both (has set (suc k)) (numbers_to set k ++ suc k ∷ []) (numbers_to set k) (λ (ns : List ℕ). AllByRecursion (λ n. n ≤ most) ns)
    (λ _. all_append (λ n. n ≤ most) (numbers_to set k) (suc k) before h) (λ _. before)

few_numbers : (set k : ℕ) → length (numbers_to set k) ≤ k
few_numbers set zero = omega arith
few_numbers set (suc k) =
    let before : length (numbers_to set k) ≤ k = few_numbers set k in
    cond_both (has set (suc k)) (numbers_to set k ++ suc k ∷ []) (numbers_to set k) (λ (ns : List ℕ). length ns ≤ suc k)
    (λ _. grown (length (numbers_to set k)) (length (numbers_to set k ++ suc k ∷ [])) k before (more (numbers_to set k) (suc k))) (λ _. omega (arith, before))
  where
    more : (ns : List ℕ) (n : ℕ) → length (ns ++ n ∷ []) ≡ suc (length ns)
    more [] n = refl
    more (m ∷ ns) n = ap suc (more ns n)

    grown : (a b j : ℕ) → a ≤ j → b ≡ suc a → b ≤ suc j
    grown a b j h e = omega (arith, h, e)

few_passed : (p : ℕ → Bool) (ns : List ℕ) (k : ℕ) → length ns ≤ k → length (filter p ns) ≤ k
few_passed p [] k h = h
few_passed p (n ∷ ns) zero h = absurd (none_below (length ns) h)
  where
    none_below : (m : ℕ) → suc m ≤ 0 → ⊥
    none_below m l = omega (arith, l)
few_passed p (n ∷ ns) (suc k) h =
    let later : length (filter p ns) ≤ k = few_passed p ns k (omega (arith, h)) in
    cond_both (p n) (n ∷ filter p ns) (filter p ns) (λ (ms : List ℕ). length ms ≤ suc k) (λ _. omega (arith, later)) (λ _. omega (arith, later))

fresh_fits : (paths : ℕ) → DeviceFits (fresh paths)
fresh_fits paths = record { word = omega arith; few = omega arith; keys = tt; apart = tt }

first_of_kind : (kind : DeviceKind) (paths configured cluster : ℕ) → cluster < 2 ^ 32 → DeviceFits (first_device_of kind paths configured cluster)
first_of_kind Data paths configured cluster small = fresh_fits paths
first_of_kind Server paths configured cluster small = fresh_fits paths
first_of_kind Quorum paths configured cluster small =
    let ns : List ℕ = filter (has paths) (numbers_to configured most_nodes) in
    record {
      word = omega arith;
      few = subst (λ k. k ≤ 32) (sym (length-map ns (own_key cluster))) (few_passed (has paths) (numbers_to configured most_nodes) 32 (few_numbers configured 32));
      keys = own_keys_fit cluster ns small (all_filter (λ n. n ≤ 32) (has paths) (numbers_to configured most_nodes) (all_numbers configured 32 32 (omega arith)));
      apart = (with_keys_is paths configured cluster).apart;
    }

-- each is that of a device of the header
pub first_devices_fit : (h : Header) (ds : List HeaderDevice) → h.cluster < 2 ^ 32 → (d : ℕ) (device : Device) → slice_get (map (first_device h) ds) d ≡ Some device → DeviceFits device
first_devices_fit h [] small d device e = absurd (none_some device e)
first_devices_fit h (first ∷ ds) small zero device e = subst DeviceFits (same_some (first_device h first) device e) (first_of_kind first.kind first.attached h.configured h.cluster small)
first_devices_fit h (first ∷ ds) small (suc d) device e = first_devices_fit h ds small d device e
