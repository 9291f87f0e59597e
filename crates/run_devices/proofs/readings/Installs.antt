-- What an install makes of devices is what the lines say that it makes of the seizings which its readings tell.
use Rattle.std.specs.Prelude.{ℕ, zero, suc, ◌≡◌, ◌≢◌, ◌≤◌, ◌==◌, ◌&&◌, ◌||◌, ◌⊎◌, ◌++◌, All, Bool, true, false, List, [], ◌∷◌, None, Some, if◌then◌else◌}
use Rattle.std.specs.List.{AllByRecursion, list_all, list_any}
use Rattle.std.proofs.Common.{refl, sym, ap, subst, ◌∙◌, arith, inl, inr}
use Rattle.std.proofs.lemmas.List.Elements.{All-cons, All-nil}
use Rattle.attempt_laws.proofs.Walk.{if_with}
use Rattle.cl_base.specs.Numbers.{numbers_to}
use Rattle.cl_base.specs.Sets.{has}
use Rattle.cl_base.specs.declared.header.Header.{Header}
use Rattle.cmm_attempt.proofs.Basics.{and_cases, if_either, none_some, or_cases, same_number, same_some}
use Rattle.cmm_member.proofs.DeviceLemmas.{install_stays, install_valid}
use Rattle.cmm_member.proofs.KeyLemmas.{own_key}
use Rattle.cmm_member.specs.Nodes.{IsKeyOf, IsOneOf, devices_after}
use Rattle.pgr_device.specs.declared.command.PrAnswer.TheVariants as answer
use Rattle.pgr_device.specs.declared.command.PrCommand.{PrCommand}
use Rattle.pgr_device.specs.declared.command.PrCommand.TheVariants as command
use Rattle.status_report.specs.declared.attempt_entry.AttemptEntry.{AttemptEntry}
use Rattle.status_report.specs.declared.attempt_entry.AttemptEntry.TheVariants as attempt_entry
use Rattle.status_report.specs.declared.device_entry.DeviceAnswer.{DeviceAnswer}
use Rattle.status_report.specs.declared.device_entry.DeviceAnswer.TheVariants.{Given, Failed}
use Rattle.status_report.specs.declared.device_entry.DeviceEntry.{DeviceEntry}
use Rattle.status_report.specs.declared.device_entry.DeviceEntry.TheVariants as device_entry
use Rattle.status_report.specs.declared.entry.Entry.TheVariants as entry
use Rattle.status_report.specs.declared.node_entry.NodeEntry.{NodeEntry}
use Rattle.status_report.specs.declared.node_entry.NodeEntry.TheVariants as node_entry
use Rattle.wire.specs.declared.lists.Reading.{Reading}
use Rattle.history.specs.Member.{members_of}
use Rattle.history.specs.Moment.{Moment, Said, Part, Told}
use Rattle.history.specs.Seizing.{Progress, Begun, Reserved, Saw, Seized, are_members_keys, confirmed_from, is_members_key, keys_in, left_from, progress_of, reserved_from, saw_from}
use Rattle.history.specs.Setting.{key_of}
use Rattle.history.specs.Validated.{Validity, Valid, Lapsed, at_install}
use Rattle.run_seizings.proofs.Progress.{no_truth, or_left, or_right}
use Rattle.run_devices.specs.readings.Laws.{InstallsAsRead, IsSo, WasRead, seizing_in, told_in}

-- ---- what holds of each progress

record Stable (h : Header) (n : ℕ) (P : Progress → Type 0) : Type 0 where
  begun : P Begun
  reserved : (p : Progress) → P p → P (reserved_from p)
  saw : (keys : List ℕ) (p : Progress) → P p → P (saw_from keys p)
  confirmed : (members : ℕ) (p : Progress) → P p → P (confirmed_from h members n p)
  left : (p : Progress) → P p → P (left_from p)

keys_has : (h : Header) (n e d : ℕ) (P : Progress → Type 0) → Stable h n P → (ms : List Moment) (m x : ℕ) (a : DeviceAnswer) → P (progress_of h n e d ms)
    → P (progress_of h n e d (Told (entry.Device (device_entry.Command m x command.Keys a)) ∷ ms))
keys_has h n e d P k ms m x (Given (answer.Keys keys)) p = if_either P _ (saw_from keys (progress_of h n e d ms)) (progress_of h n e d ms) (k.saw keys (progress_of h n e d ms) p) p
keys_has h n e d P k ms m x (Given answer.Good) p = p
keys_has h n e d P k ms m x (Given answer.Conflict) p = p
keys_has h n e d P k ms m x (Given answer.InvalidRelease) p = p
keys_has h n e d P k ms m x (Given answer.NoPath) p = p
keys_has h n e d P k ms m x (Given (answer.Holder holder)) p = p
keys_has h n e d P k ms m x (Given (answer.Word w)) p = p
keys_has h n e d P k ms m x (Given (answer.Value v)) p = p
keys_has h n e d P k ms m x (Given (answer.Miscompare w)) p = p
keys_has h n e d P k ms m x Failed p = p

word_has : (h : Header) (n e d : ℕ) (P : Progress → Type 0) → Stable h n P → (ms : List Moment) (m x : ℕ) (a : DeviceAnswer) → P (progress_of h n e d ms)
    → P (progress_of h n e d (Told (entry.Device (device_entry.Command m x command.Word a)) ∷ ms))
word_has h n e d P k ms m x (Given (answer.Word w)) p =
    if_either P _ (confirmed_from h (members_of e ms) n (progress_of h n e d ms)) (progress_of h n e d ms) (k.confirmed (members_of e ms) (progress_of h n e d ms) p) p
word_has h n e d P k ms m x (Given (answer.Keys keys)) p = p
word_has h n e d P k ms m x (Given answer.Good) p = p
word_has h n e d P k ms m x (Given answer.Conflict) p = p
word_has h n e d P k ms m x (Given answer.InvalidRelease) p = p
word_has h n e d P k ms m x (Given answer.NoPath) p = p
word_has h n e d P k ms m x (Given (answer.Holder holder)) p = p
word_has h n e d P k ms m x (Given (answer.Value v)) p = p
word_has h n e d P k ms m x (Given (answer.Miscompare w)) p = p
word_has h n e d P k ms m x Failed p = p

command_has : (h : Header) (n e d : ℕ) (P : Progress → Type 0) → Stable h n P → (ms : List Moment) (m x : ℕ) (c : PrCommand) (a : DeviceAnswer) → P (progress_of h n e d ms)
    → P (progress_of h n e d (Told (entry.Device (device_entry.Command m x c a)) ∷ ms))
command_has h n e d P k ms m x (command.Reserve kind key) a p =
    if_either P _ (reserved_from (progress_of h n e d ms)) (progress_of h n e d ms) (k.reserved (progress_of h n e d ms) p) p
command_has h n e d P k ms m x command.Keys a p = keys_has h n e d P k ms m x a p
command_has h n e d P k ms m x command.Word a p = word_has h n e d P k ms m x a p
command_has h n e d P k ms m x _ a p = p

device_has : (h : Header) (n e d : ℕ) (P : Progress → Type 0) → Stable h n P → (ms : List Moment) (x : DeviceEntry) → P (progress_of h n e d ms)
    → P (progress_of h n e d (Told (entry.Device x) ∷ ms))
device_has h n e d P k ms (device_entry.Command m x c a) p = command_has h n e d P k ms m x c a p
device_has h n e d P k ms (device_entry.Accepted q m x value) p = p
device_has h n e d P k ms (device_entry.Refused m x value why) p = p

node_has : (h : Header) (n e d : ℕ) (P : Progress → Type 0) → Stable h n P → (ms : List Moment) (m : ℕ) (x : NodeEntry) → P (progress_of h n e d ms)
    → P (progress_of h n e d (Told (entry.Node m x) ∷ ms))
node_has h n e d P k ms m node_entry.Saved p = if_either P _ (left_from (progress_of h n e d ms)) (progress_of h n e d ms) (k.left (progress_of h n e d ms) p) p
node_has h n e d P k ms m (node_entry.Down why) p = if_either P _ (left_from (progress_of h n e d ms)) (progress_of h n e d ms) (k.left (progress_of h n e d ms) p) p
node_has h n e d P k ms m node_entry.Up p = p
node_has h n e d P k ms m node_entry.Ticked p = p
node_has h n e d P k ms m (node_entry.Installed q) p = p
node_has h n e d P k ms m (node_entry.Member q) p = p

attempt_has : (h : Header) (n e d : ℕ) (P : Progress → Type 0) → Stable h n P → (ms : List Moment) (x : AttemptEntry) → P (progress_of h n e d ms)
    → P (progress_of h n e d (Told (entry.Attempt x) ∷ ms))
attempt_has h n e d P k ms (attempt_entry.Begun q members) p =
    if_either P _ (left_from (progress_of h n e d ms)) (progress_of h n e d ms) (k.left (progress_of h n e d ms) p) p
attempt_has h n e d P k ms (attempt_entry.Votes q have need lacking) p = p
attempt_has h n e d P k ms (attempt_entry.Superseded q w) p = p
attempt_has h n e d P k ms (attempt_entry.Silent q m) p = p
attempt_has h n e d P k ms (attempt_entry.Excluded q m) p = p
attempt_has h n e d P k ms (attempt_entry.Foreign q m) p = p

progress_has : (h : Header) (n e d : ℕ) (P : Progress → Type 0) → Stable h n P → (ms : List Moment) → P (progress_of h n e d ms)
progress_has h n e d P k [] = k.begun
progress_has h n e d P k (Said line ∷ ms) = progress_has h n e d P k ms
progress_has h n e d P k (Part event ∷ ms) = progress_has h n e d P k ms
progress_has h n e d P k (Told (entry.Device x) ∷ ms) = device_has h n e d P k ms x (progress_has h n e d P k ms)
progress_has h n e d P k (Told (entry.Node m x) ∷ ms) = node_has h n e d P k ms m x (progress_has h n e d P k ms)
progress_has h n e d P k (Told (entry.Attempt x) ∷ ms) = attempt_has h n e d P k ms x (progress_has h n e d P k ms)
progress_has h n e d P k (Told (entry.Answered x) ∷ ms) = progress_has h n e d P k ms
progress_has h n e d P k (Told entry.Powered ∷ ms) = progress_has h n e d P k ms
progress_has h n e d P k (Told (entry.Packet x) ∷ ms) = progress_has h n e d P k ms
progress_has h n e d P k (Told (entry.Start x) ∷ ms) = progress_has h n e d P k ms
progress_has h n e d P k (Told (entry.Update x) ∷ ms) = progress_has h n e d P k ms
progress_has h n e d P k (Told (entry.Schedule x) ∷ ms) = progress_has h n e d P k ms
progress_has h n e d P k (Told (entry.Command x) ∷ ms) = progress_has h n e d P k ms
progress_has h n e d P k (Told (entry.Call x) ∷ ms) = progress_has h n e d P k ms
progress_has h n e d P k (Told (entry.Status x) ∷ ms) = progress_has h n e d P k ms
progress_has h n e d P k (Told (entry.Address x) ∷ ms) = progress_has h n e d P k ms

-- ---- the keys that were read are those of nodes

record Member (test : ℕ → Bool) (k : ℕ) : Type 0 where
  node : ℕ
  most : node ≤ k
  is : test node ≡ true

any_last : (test : ℕ → Bool) (xs : List ℕ) (y : ℕ) → list_any test (xs ++ y ∷ []) ≡ true → (list_any test xs ≡ true) ⊎ (test y ≡ true)
any_last test [] y k = by_cases (or_cases (test y) false k)
  where
    by_cases : (test y ≡ true) ⊎ (false ≡ true) → (false ≡ true) ⊎ (test y ≡ true)
    by_cases (inl i) = inr i
    by_cases (inr j) = absurd (no_truth j)
any_last test (x ∷ xs) y k = by_cases (or_cases (test x) (list_any test (xs ++ y ∷ [])) k) (λ rest. any_last test xs y rest)
  where
    by_rest : (list_any test xs ≡ true) ⊎ (test y ≡ true) → (list_any test (x ∷ xs) ≡ true) ⊎ (test y ≡ true)
    by_rest (inl i) = inl (or_right (test x) (list_any test xs) i)
    by_rest (inr j) = inr j

    by_cases : (test x ≡ true) ⊎ (list_any test (xs ++ y ∷ []) ≡ true) → (list_any test (xs ++ y ∷ []) ≡ true → (list_any test xs ≡ true) ⊎ (test y ≡ true))
        → (list_any test (x ∷ xs) ≡ true) ⊎ (test y ≡ true)
    by_cases (inl i) rest = inl (or_left (test x) (list_any test xs) i)
    by_cases (inr j) rest = by_rest (rest j)

any_member : (test : ℕ → Bool) (set k : ℕ) → list_any test (numbers_to set k) ≡ true → Member test k
any_member test set zero is = absurd (no_truth is)
any_member test set (suc k) is = by_test (has set (suc k)) is (λ rest. any_member test set k rest)
  where
    above : (a b : ℕ) → a ≤ b → a ≤ suc b
    above a b l = omega (arith, l)

    raised : Member test k → Member test (suc k)
    raised m = record { node = m.node; most = above m.node k m.most; is = m.is }

    itself : (a : ℕ) → a ≤ a
    itself a = omega arith

    by_last : (list_any test (numbers_to set k) ≡ true) ⊎ (test (suc k) ≡ true) → (list_any test (numbers_to set k) ≡ true → Member test k) → Member test (suc k)
    by_last (inl rest) more = raised (more rest)
    by_last (inr here) more = record { node = suc k; most = itself (suc k); is = here }

    by_test : (b : Bool) → list_any test (if b then numbers_to set k ++ suc k ∷ [] else numbers_to set k) ≡ true → (list_any test (numbers_to set k) ≡ true → Member test k)
        → Member test (suc k)
    by_test true some more = by_last (any_last test (numbers_to set k) (suc k) some) more
    by_test false some more = raised (more some)

members_key : (h : Header) (members key : ℕ) → is_members_key h members key ≡ true → IsKeyOf h.cluster key
members_key h members key is =
    let m : Member (λ n. key_of h n == key) 32 = any_member (λ n. key_of h n == key) members 32 is in
    record { node = m.node; most = m.most; is = sym (same_number (key_of h m.node) key m.is) }

members_keys : (h : Header) (members : ℕ) (keys : List ℕ) → list_all (is_members_key h members) keys ≡ true → AllByRecursion (IsKeyOf h.cluster) keys
members_keys h members [] is = tt
members_keys h members (key ∷ keys) is =
    let two : (is_members_key h members key ≡ true) × (list_all (is_members_key h members) keys ≡ true) =
    and_cases (is_members_key h members key) (list_all (is_members_key h members) keys) is in
    (members_key h members key two.0, members_keys h members keys two.1)

abbrev Owned : Header → Progress → Type 0
Owned h (Seized keys) = AllByRecursion (IsKeyOf h.cluster) keys
Owned h _ = Unit {0}

owned : (h : Header) (n : ℕ) → Stable h n (Owned h)
owned h n = record { begun = tt; reserved = reserved; saw = saw; confirmed = confirmed; left = left }
  where
    reserved : (p : Progress) → Owned h p → Owned h (reserved_from p)
    reserved Begun k = tt
    reserved Reserved k = tt
    reserved (Saw seen) k = tt
    reserved (Seized seen) k = k

    saw : (keys : List ℕ) (p : Progress) → Owned h p → Owned h (saw_from keys p)
    saw keys Begun k = tt
    saw keys Reserved k = tt
    saw keys (Saw seen) k = tt
    saw keys (Seized seen) k = k

    confirmed : (members : ℕ) (p : Progress) → Owned h p → Owned h (confirmed_from h members n p)
    confirmed members Begun k = tt
    confirmed members Reserved k = tt
    confirmed members (Saw seen) k =
        if_with (Owned h) (are_members_keys h members n seen) (are_members_keys h members n seen) (Seized seen) (Saw seen) refl
        (λ is. members_keys h members seen (and_cases (list_any (λ key. key == key_of h n) seen) (list_all (is_members_key h members) seen) is).1) (λ is. tt)
    confirmed members (Seized seen) k = k

    left : (p : Progress) → Owned h p → Owned h (left_from p)
    left Begun k = tt
    left Reserved k = tt
    left (Saw seen) k = tt
    left (Seized seen) k = k

keys_owned : (h : Header) (keys : List ℕ) (p : Progress) → Owned h p → keys_in p ≡ Some keys → AllByRecursion (IsKeyOf h.cluster) keys
keys_owned h keys Begun k is = absurd (none_some keys is)
keys_owned h keys Reserved k is = absurd (none_some keys is)
keys_owned h keys (Saw seen) k is = absurd (none_some keys is)
keys_owned h keys (Seized seen) k is = subst (λ ks. AllByRecursion (IsKeyOf h.cluster) ks) (same_some seen keys is) k

-- ---- what a reading tells

record Found (h : Header) (ms : List Moment) (e d : ℕ) (rs : List Reading) : Type 0 where
  reading : Reading
  there : IsOneOf reading rs
  at : reading.device ≡ d
  read : WasRead h ms e reading
  is : told_in rs d ≡ Some (seizing_in reading)

found_told : (h : Header) (ms : List Moment) (e d : ℕ) (rs : List Reading) → AllByRecursion (WasRead h ms e) rs
    → ((told_in rs d ≡ None) × All (λ r. r.device ≢ d) rs) ⊎ Found h ms e d rs
found_told h ms e d [] read = inl (refl, All-nil (λ r. r.device ≢ d))
found_told h ms e d (r ∷ rs) read = by_test (r.device == d) refl (found_told h ms e d rs read.1)
  where
    first : (r.device == d) ≡ true → Found h ms e d (r ∷ rs)
    first is = record { reading = r; there = inl refl; at = same_number r.device d is; read = read.0; is = ap (λ b. if b then Some (seizing_in r) else told_in rs d) is }

    other : (r.device == d) ≡ false → r.device ≢ d
    other is same = no_truth (sym is ∙ subst (λ z. (r.device == z) ≡ true) same (itself r.device))
      where
        itself : (k : ℕ) → (k == k) ≡ true
        itself k = grind arith

    by_rest : (r.device == d) ≡ false → ((told_in rs d ≡ None) × All (λ r. r.device ≢ d) rs) ⊎ Found h ms e d rs
        → ((told_in (r ∷ rs) d ≡ None) × All (λ r. r.device ≢ d) (r ∷ rs)) ⊎ Found h ms e d (r ∷ rs)
    by_rest is (inl none) =
        inl (ap (λ b. if b then Some (seizing_in r) else told_in rs d) is ∙ none.0, All-cons (λ z. z.device ≢ d) r rs (other is) none.1)
    by_rest is (inr f) =
        inr (record {
          reading = f.reading;
          there = inr f.there;
          at = f.at;
          read = f.read;
          is = ap (λ b. if b then Some (seizing_in r) else told_in rs d) is ∙ f.is;
        })

    by_test : (b : Bool) → (r.device == d) ≡ b → ((told_in rs d ≡ None) × All (λ r. r.device ≢ d) rs) ⊎ Found h ms e d rs
        → ((told_in (r ∷ rs) d ≡ None) × All (λ r. r.device ≢ d) (r ∷ rs)) ⊎ Found h ms e d (r ∷ rs)
    by_test true is rest = inr (first is)
    by_test false is rest = by_rest is rest

-- ---- an install

decided : (b k v : Bool) (old : Validity) → IsSo old v → IsSo (if b then Valid else (if k then old else Lapsed)) (b || (k && v))
decided true k v old so = refl
decided false true v old so = so
decided false false v old so = refl

pub installs_as_read : InstallsAsRead
installs_as_read h ms s i d old narrow are most read so = by_found (found_told h ms i.epoch d i.readings read)
  where
    by_found : ((told_in i.readings d ≡ None) × All (λ r. r.device ≢ d) i.readings) ⊎ Found h ms i.epoch d i.readings
        → IsSo (at_install h s.me (told_in i.readings d) old) (has (devices_after s i).valid d)
    by_found (inl none) =
        subst (λ o. IsSo (at_install h s.me o old) (has (devices_after s i).valid d)) (sym none.0)
        (subst (λ b. IsSo old b) (sym (install_stays s i d narrow are none.1)) so)
    by_found (inr f) =
        let r : Reading = f.reading in
        let keys : AllByRecursion (IsKeyOf h.cluster) r.keys =
        keys_owned h r.keys (progress_of h r.seizer i.epoch r.device ms) (progress_has h r.seizer i.epoch r.device (Owned h) (owned h r.seizer) ms) f.read in
        subst (λ o. IsSo (at_install h s.me o old) (has (devices_after s i).valid d)) (sym f.is)
        (subst (λ z. IsSo (at_install h s.me (Some (seizing_in r)) old) (has (devices_after s i).valid z)) f.at
        (subst (λ b. IsSo (at_install h s.me (Some (seizing_in r)) old) b)
        (sym (install_valid s i r narrow are f.there ∙ ap (λ b. (r.seizer == s.me) || (b && has s.saved.valid r.device)) (own_key h.cluster s.me r.keys most keys)))
        (decided (r.seizer == s.me) (list_any (λ key. key == key_of h s.me) r.keys) (has s.saved.valid r.device) old
        (subst (λ z. IsSo old (has s.saved.valid z)) (sym f.at) so))))
