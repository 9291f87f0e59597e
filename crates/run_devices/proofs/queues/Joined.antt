-- The joinings that an install brings are those that `history` tells.
use Rattle.std.specs.Prelude.{ℕ, ◌-◌, ◌≡◌, ◌<◌, ◌≤◌, ◌==◌, ◌&&◌, ◌++◌, not, Bool, true, false, List, [], ◌∷◌, filter, length, map, Option, None, Some, if◌then◌else◌}
use Rattle.std.specs.List.{AllByRecursion, list_any}
use Rattle.std.proofs.Common.{refl, sym, ap, subst, ◌∙◌, arith, append-nil}
use Rattle.cl_base.specs.Sets.{has}
use Rattle.cmm_attempt.proofs.Basics.{and_cases, same_number}
use Rattle.device_queue.specs.Queue.{after_join, join_of, put_unless}
use Rattle.device_queue.specs.Tasks.{is_join_of, is_joining}
use Rattle.device_queue.specs.declared.task.Task.{Task}
use Rattle.device_queue.specs.declared.task.Work.TheVariants.{Joining}
use Rattle.seize.specs.Joining as joining
use Rattle.wire.specs.declared.lists.Reading.{Reading}
use Rattle.history.specs.Moment.{Moment}
use Rattle.history.specs.Queue as told
use Rattle.history.specs.Queue.{holds_valid, joinings, must_join, shown_valid}
use Rattle.history.specs.Seizing.{Seizing as Told, seizing_of}
use Rattle.history.specs.Setting.{Setting, all_to, key_of, paths_of}
use Rattle.history.specs.Validated.{Lapsed, Open, Valid, Validity, at_install, validity}
use Rattle.node_model.specs.Attempts.{is_to_join, joining_from, joining_with}
use Rattle.node_model.specs.declared.cluster.Cluster.{Cluster}
use Rattle.run_history.proofs.Lists.{both}
use Rattle.run_history.specs.WorldLines.{IsDevice}
use Rattle.run_seizings.proofs.Progress.{if_not, if_so, same_is}
use Rattle.run_seizings.specs.Seized.{ReadSo}
use Rattle.run_devices.specs.installs.Shown.{ReadInOrder}
use Rattle.run_devices.specs.readings.Laws.{seizing_in, told_in}
use Rattle.run_devices.specs.validity.Laws.{Agrees}
use Rattle.run_devices.specs.queues.Kept.{NoJoins, joins_in}
use Rattle.run_devices.specs.queues.Laws.{Same}
use Rattle.run_devices.specs.queues.Views.{ShownAs}
use Rattle.run_devices.proofs.queues.Ascending.{contains, numbers_order, picked_has, picked_order, same_lists}
use Rattle.run_devices.proofs.queues.Read.{read_at, read_has, read_low, read_order, told_each}
use Rattle.run_devices.proofs.queues.Joinings.{Paths, ReadAgrees, any_to, path_in, up_to}

-- ---- what the node begins

-- no task joins the device
abbrev Free : ℕ → List Task → Type 0
Free d ts = AllByRecursion (λ (t : Task). is_join_of d t ≡ false) ts

free_none : (d : ℕ) (ts : List Task) → Free d ts → join_of ts d ≡ None
free_none d [] k = refl
free_none d (t ∷ ts) k = if_not (is_join_of d t) (Some t) (join_of ts d) k.0 ∙ free_none d ts k.1

not_both : (a b : Bool) → b ≡ false → (a && b) ≡ false
not_both true b off = off
not_both false b off = refl

no_joins_free : (d : ℕ) (ts : List Task) → NoJoins ts → Free d ts
no_joins_free d [] k = tt
no_joins_free d (t ∷ ts) k = (not_both (t.device == d) (is_joining t.work) k.0, no_joins_free d ts k.1)

abbrev joining_at : Cluster → ℕ → ℕ → ℕ → Task
joining_at c n e d = record { device = d; work = Joining (joining.begun e n c.id) }

abbrev told_at : Setting → ℕ → ℕ → ℕ → told.Task
told_at S n e d = record { device = d; work = told.Joins (joining.begun e n S.header.cluster) }

-- to join these devices
abbrev read_to_join : Cluster → ℕ → ℕ → List Reading → List ℕ
read_to_join c n J rs = map (λ (r : Reading). r.device) (filter (is_to_join c n J) rs)

apart : (a b : ℕ) → a < b → (a == b) ≡ false
apart a b l = grind arith

free_more : (c : Cluster) (n e d : ℕ) (ts : List Task) (rs : List Reading) → AllByRecursion (λ (r : Reading). d < r.device) rs → AllByRecursion (λ (r : Reading). Free r.device ts) rs
    → AllByRecursion (λ (r : Reading). Free r.device (ts ++ joining_at c n e d ∷ [])) rs
free_more c n e d ts [] above k = tt
free_more c n e d ts (r ∷ rs) above k = (
  both (λ (t : Task). is_join_of r.device t ≡ false) ts (joining_at c n e d ∷ []) k.0 (ap (λ b. b && true) (apart d r.device above.0), tt),
  free_more c n e d ts rs above.1 k.1,
)

-- the tasks behind those that there were
all_begun : (c : Cluster) (n e J : ℕ) (ts : List Task) (rs : List Reading) → ReadInOrder rs → AllByRecursion (λ (r : Reading). Free r.device ts) rs
    → joining_from c n e J ts rs ≡ ts ++ map (joining_at c n e) (read_to_join c n J rs)
all_begun c n e J ts [] order free = sym (append-nil ts)
all_begun c n e J ts (r ∷ rs) order free =
    by_test (is_to_join c n J r) refl (λ us more. all_begun c n e J us rs order.1 more)
  where
    Goal : List Task → List ℕ → Type 0
    Goal us ds = joining_from c n e J us rs ≡ ts ++ map (joining_at c n e) ds

    begins : after_join ts r.device (joining.begun e n c.id) ≡ ts ++ joining_at c n e r.device ∷ []
    begins = ap (λ o. put_unless o (joining_at c n e r.device) ts) (free_none r.device ts free.0)

    apart_more : (us : List Task) (t : Task) (more : List Task) → (us ++ t ∷ []) ++ more ≡ us ++ t ∷ more
    apart_more [] t more = refl
    apart_more (u ∷ us) t more = ap (λ z. u ∷ z) (apart_more us t more)

    by_test : (b : Bool) → is_to_join c n J r ≡ b
        → ((us : List Task) → AllByRecursion (λ (z : Reading). Free z.device us) rs → joining_from c n e J us rs ≡ us ++ map (joining_at c n e) (read_to_join c n J rs)) → Goal (joining_with c n e J ts r) (read_to_join c n J (r ∷ rs))
    by_test true is later =
        ap (λ us. joining_from c n e J us rs) (if_so (is_to_join c n J r) (after_join ts r.device (joining.begun e n c.id)) ts is ∙ begins)
        ∙ (later (ts ++ joining_at c n e r.device ∷ []) (free_more c n e r.device ts rs order.0 free.1)
        ∙ (apart_more ts (joining_at c n e r.device) (map (joining_at c n e) (read_to_join c n J rs))
        ∙ sym (ap (λ z. ts ++ map (joining_at c n e) (map (λ (q : Reading). q.device) z)) (if_so (is_to_join c n J r) (r ∷ filter (is_to_join c n J) rs) (filter (is_to_join c n J) rs) is))))
    by_test false is later =
        ap (λ us. joining_from c n e J us rs) (if_not (is_to_join c n J r) (after_join ts r.device (joining.begun e n c.id)) ts is)
        ∙ (later ts free.1
        ∙ sym (ap (λ z. ts ++ map (joining_at c n e) (map (λ (q : Reading). q.device) z)) (if_not (is_to_join c n J r) (r ∷ filter (is_to_join c n J) rs) (filter (is_to_join c n J) rs) is)))

joins_behind : (ts us : List Task) → NoJoins ts → joins_in (ts ++ us) ≡ joins_in us
joins_behind [] us none = refl
joins_behind (t ∷ ts) us none = if_not (is_joining t.work) (t ∷ joins_in (ts ++ us)) (joins_in (ts ++ us)) none.0 ∙ joins_behind ts us none.1

joins_all : (c : Cluster) (n e : ℕ) (ds : List ℕ) → joins_in (map (joining_at c n e) ds) ≡ map (joining_at c n e) ds
joins_all c n e [] = refl
joins_all c n e (d ∷ ds) = ap (λ z. joining_at c n e d ∷ z) (joins_all c n e ds)

same_begun : (S : Setting) (c : Cluster) (n e : ℕ) (ds : List ℕ) → c.id ≡ S.header.cluster → Same (map (joining_at c n e) ds) (map (told_at S n e) ds)
same_begun S c n e [] id = tt
same_begun S c n e (d ∷ ds) id = ((refl, ap (λ z. joining.begun e n z) id), same_begun S c n e ds id)

-- ---- one device

-- what is told to be valid or not by the install
as_held : Bool → Validity
as_held true = Valid
as_held false = Lapsed

agrees_held : (old : Bool) → Agrees (as_held old) old
unfolding as_held
agrees_held true = refl
agrees_held false = refl

stays_held : (old held : Bool) → Agrees (as_held old) held → old ≡ held
unfolding as_held
stays_held true held k = sym k
stays_held false held k = sym k

joins_or_not : (n d : ℕ) (own seen held old : Bool) (v : Validity) (ms : List Moment) → Agrees v old
    → ((u : Validity) → Agrees u old → Agrees (if own then Valid else (if seen then u else Lapsed)) held)
    → (own ≡ false → seen ≡ true → v ≡ Open → has (shown_valid n ms) d ≡ old) → (not own && not (seen && holds_valid n d v ms)) ≡ not held
joins_or_not n d true seen held old v ms so k known = sym (ap not (k v so))
joins_or_not n d false true held old Valid ms so k known = sym (ap not (k Valid so))
joins_or_not n d false true held old Lapsed ms so k known = sym (ap not (k Lapsed so))
joins_or_not n d false true held old Open ms so k known = ap not (known refl refl refl ∙ stays_held old held (k (as_held old) (agrees_held old)))
joins_or_not n d false false held old v ms so k known = sym (ap not (k v so))

abbrev must : Setting → ℕ → List Moment → ℕ → Option Told → Bool
must S n ms d o = has (paths_of S.header d) n && must_join S n d o ms

-- what the node holds valid is as the lines tell, and where they leave it open as its Promise shows it
pub record Held (S : Setting) (n e H : ℕ) (ms : List Moment) : Type 0 where
  pub agrees : (d : ℕ) → IsDevice S.header d → Agrees (validity S.header n d ms) (has H d)
  pub known : ShownAs S n e H ms

must_so : (S : Setting) (c : Cluster) (n e H J : ℕ) (ms : List Moment) (r : Reading) → Paths S c n → 1 ≤ r.device → seizing_of S.header e r.device ms ≡ Some (seizing_in r)
    → Held S n e H ms
    → (IsDevice S.header r.device → (u : Validity) → Agrees u (has H r.device) → Agrees (at_install S.header n (seizing_of S.header e r.device ms) u) (has J r.device))
    → must S n ms r.device (Some (seizing_in r)) ≡ is_to_join c n J r
must_so S c n e H J ms r paths low told holds agrees = by_path (has (paths_of S.header r.device) n) refl ∙ ap (λ b. b && not (has J r.device)) (sym (paths r.device low))
  where
    k : ℕ
    k = length S.header.devices

    v : Validity
    v = validity S.header n r.device ms

    by_path : (b : Bool) → has (paths_of S.header r.device) n ≡ b → (b && must_join S n r.device (Some (seizing_in r)) ms) ≡ (b && not (has J r.device))
    by_path false is = refl
    by_path true is =
        let high : r.device ≤ k = up_to r.device k low (path_in n S.header.devices (r.device - 1) is) in
        joins_or_not n r.device (r.seizer == n) (list_any (λ key. key == key_of S.header n) r.keys) (has J r.device) (has H r.device) v ms (holds.agrees r.device (low, high))
        (λ u old. subst (λ o. Agrees (at_install S.header n o u) (has J r.device)) told (agrees (low, high) u old))
        (λ other seen stays.
        holds.known r.device (record { found = seizing_in r; device = (low, high); path = is; seized = told; other = other; seen = seen; stays = stays }))

-- of each device
must_all : (S : Setting) (n d : ℕ) (ms : List Moment) (Q : Reading → Bool) (rs : List Reading) → AllByRecursion (λ (r : Reading). must S n ms r.device (Some (seizing_in r)) ≡ Q r) rs
    → must S n ms d (told_in rs d) ≡ read_at Q rs d
must_all S n d ms Q [] k = not_both (has (paths_of S.header d) n) false refl
must_all S n d ms Q (r ∷ rs) k = by_test (r.device == d) refl (must_all S n d ms Q rs k.1)
  where
    by_test : (b : Bool) → (r.device == d) ≡ b → must S n ms d (told_in rs d) ≡ read_at Q rs d
        → must S n ms d (if b then Some (seizing_in r) else told_in rs d) ≡ (if b then Q r else read_at Q rs d)
    by_test true is rest = subst (λ z. must S n ms z (Some (seizing_in r)) ≡ Q r) (same_number r.device d is) k.0
    by_test false is rest = rest

and_so : (a b : Bool) → (a ≡ true → b ≡ true) → (a && b) ≡ a
and_so true b f = f refl
and_so false b f = refl

-- ---- all of them

each_low : (S : Setting) (e : ℕ) (ms : List Moment) (rs : List Reading) → ReadSo S.header ms e rs → AllByRecursion (λ (r : Reading). 1 ≤ r.device) rs
each_low S e ms [] reads = tt
each_low S e ms (r ∷ rs) reads = (reads.0.0.0, each_low S e ms rs reads.1)

each_must : (S : Setting) (c : Cluster) (n e H J : ℕ) (ms : List Moment) (all rs : List Reading) → Paths S c n → ReadSo S.header ms e rs → ReadAgrees S n e H J ms rs
    → Held S n e H ms → ((d : ℕ) → told_in all d ≡ seizing_of S.header e d ms)
    → AllByRecursion (λ (z : Reading). told_in all z.device ≡ Some (seizing_in z)) rs
    → AllByRecursion (λ (r : Reading). must S n ms r.device (Some (seizing_in r)) ≡ is_to_join c n J r) rs
each_must S c n e H J ms all [] paths reads agrees holds told each = tt
each_must S c n e H J ms all (r ∷ rs) paths reads agrees holds told each = (
  must_so S c n e H J ms r paths reads.0.0.0 (sym (told r.device) ∙ each.0) holds agrees.0,
  each_must S c n e H J ms all rs paths reads.1 agrees.1 holds told each.1,
)

same_devices : (S : Setting) (c : Cluster) (n e H J : ℕ) (ms : List Moment) (rs : List Reading) → Paths S c n → ReadSo S.header ms e rs → ReadAgrees S n e H J ms rs → ReadInOrder rs
    → Held S n e H ms → ((d : ℕ) → told_in rs d ≡ seizing_of S.header e d ms)
    → read_to_join c n J rs ≡ filter (λ d. must S n ms d (seizing_of S.header e d ms)) (all_to (length S.header.devices))
same_devices S c n e H J ms rs paths reads agrees order holds told =
    same_lists (read_to_join c n J rs) (filter P (all_to k)) (read_order Q rs order) (picked_order P (all_to k) (numbers_order k)) (λ d.
    read_has Q d rs order ∙ (sym (here d) ∙ (sym (and_so (P d) (contains d (all_to k)) (within d)) ∙ sym (picked_has P d (all_to k)))))
  where
    k : ℕ
    k = length S.header.devices

    P : ℕ → Bool
    P d = must S n ms d (seizing_of S.header e d ms)

    Q : Reading → Bool
    Q = is_to_join c n J

    here : (d : ℕ) → P d ≡ read_at Q rs d
    here d =
        sym (ap (λ o. must S n ms d o) (told d))
        ∙ must_all S n d ms Q rs (each_must S c n e H J ms rs rs paths reads agrees holds told (told_each rs order))

    within : (d : ℕ) → P d ≡ true → contains d (all_to k) ≡ true
    within d is =
        let low : 1 ≤ d = read_low Q d rs (each_low S e ms rs reads) (sym (here d) ∙ is) in
        any_to (λ x. x == d) k d low (up_to d k low (path_in n S.header.devices (d - 1) (and_cases (has (paths_of S.header d) n) (must_join S n d (seizing_of S.header e d ms) ms) is).0)) (same_is d)

pub joinings_same : (S : Setting) (c : Cluster) (n e H J : ℕ) (ms : List Moment) (ts : List Task) (rs : List Reading) → Paths S c n → c.id ≡ S.header.cluster → ReadSo S.header ms e rs
    → ReadAgrees S n e H J ms rs → ReadInOrder rs → Held S n e H ms → ((d : ℕ) → told_in rs d ≡ seizing_of S.header e d ms)
    → NoJoins ts → Same (joins_in (joining_from c n e J ts rs)) (joinings S n e ms)
joinings_same S c n e H J ms ts rs paths id reads agrees order holds told none =
    subst (λ us. Same us (joinings S n e ms))
    (sym (ap joins_in (all_begun c n e J ts rs order (free_all rs))
    ∙ (joins_behind ts (map (joining_at c n e) (read_to_join c n J rs)) none ∙ joins_all c n e (read_to_join c n J rs))))
    (subst (λ ds. Same (map (joining_at c n e) (read_to_join c n J rs)) (map (told_at S n e) ds)) (same_devices S c n e H J ms rs paths reads agrees order holds told)
    (same_begun S c n e (read_to_join c n J rs) id))
  where
    free_all : (xs : List Reading) → AllByRecursion (λ (r : Reading). Free r.device ts) xs
    free_all [] = tt
    free_all (r ∷ xs) = (no_joins_free r.device ts none, free_all xs)
