-- A seizing that stands in the lines stands for ever; an attempt keeps its members.
use Rattle.std.specs.Prelude.{ℕ, ◌≡◌, ◌≢◌, ◌==◌, ◌&&◌, ◌||◌, ◌⊎◌, nat_le, Bool, true, false, List, [], ◌∷◌, Option, None, Some, is_some, if◌then◌else◌}
use Rattle.std.specs.List.{list_any}
use Rattle.std.proofs.Common.{refl, sym, ap, subst, ◌∙◌, arith, inl, inr}
use Rattle.cmm_attempt.proofs.Basics.{if_either, or_cases, same_number}
use Rattle.cl_base.specs.Sets.{has}
use Rattle.cl_base.specs.declared.header.Header.{Header}
use Rattle.attempt_laws.proofs.Told.{is_among}
use Rattle.pgr_device.specs.declared.command.PrCommand.{PrCommand}
use Rattle.pgr_device.specs.declared.command.PrCommand.TheVariants as command
use Rattle.pgr_device.specs.declared.command.PrAnswer.TheVariants as answer
use Rattle.status_report.specs.declared.attempt_entry.AttemptEntry.{AttemptEntry}
use Rattle.status_report.specs.declared.attempt_entry.AttemptEntry.TheVariants as attempt_entry
use Rattle.status_report.specs.declared.device_entry.DeviceAnswer.{DeviceAnswer}
use Rattle.status_report.specs.declared.device_entry.DeviceAnswer.TheVariants.{Given, Failed}
use Rattle.status_report.specs.declared.device_entry.DeviceEntry.{DeviceEntry}
use Rattle.status_report.specs.declared.device_entry.DeviceEntry.TheVariants as device_entry
use Rattle.status_report.specs.declared.entry.Entry.TheVariants as entry
use Rattle.status_report.specs.declared.node_entry.NodeEntry.{NodeEntry}
use Rattle.status_report.specs.declared.node_entry.NodeEntry.TheVariants as node_entry
use Rattle.history.specs.Contact.{IsNew}
use Rattle.history.specs.Contents.{tells_held}
use Rattle.history.specs.Letters.{Letter, arriving, passes, reached_since}
use Rattle.history.specs.Member.{members_of}
use Rattle.history.specs.Moment.{Moment, Said, Part, Told}
use Rattle.history.specs.Seizing.{Progress, Begun, Reserved, Saw, Seized, confirmed_from, is_attempt, is_install, keys_in, keys_seized, left_from, or_else, progress_of, reserved_from, saw_from, seizing_among, seizing_by, seizing_of}
use Rattle.history.specs.Setting.{coordinator, nodes_of}
use Rattle.run_seizings.specs.Seized.{IsKnown, IsOf, IsSeized, SeizedOr, has_installed}

-- ---- tests

pub no_truth : false ≡ true → ⊥
no_truth e = cc

pub or_right : (a b : Bool) → b ≡ true → (a || b) ≡ true
or_right true b h = refl
or_right false b h = h

pub or_left : (a b : Bool) → a ≡ true → (a || b) ≡ true
or_left true b h = refl
or_left false b h = absurd (no_truth h)

pub or_both : (a b c d : Bool) → (a ≡ true → c ≡ true) → (b ≡ true → d ≡ true) → (a || b) ≡ true → (c || d) ≡ true
or_both true b c d f g h = or_left c d (f refl)
or_both false b c d f g h = or_right c d (g h)

pub if_not : {X : Type 0} (b : Bool) (x y : X) → b ≡ false → (if b then x else y) ≡ y
if_not true x y h = absurd (no_truth (sym h))
if_not false x y h = refl

pub if_so : {X : Type 0} (b : Bool) (x y : X) → b ≡ true → (if b then x else y) ≡ x
if_so true x y h = refl
if_so false x y h = absurd (no_truth h)

pub not_same : (a b : ℕ) → a ≢ b → (a == b) ≡ false
not_same a b h = grind arith

pub same_is : (k : ℕ) → (k == k) ≡ true
same_is k = grind arith

-- ---- seized stays seized

abbrev pub IsDone : Progress → Type 0
IsDone p = is_some (keys_in p) ≡ true

reserved_done : (p : Progress) → IsDone p → IsDone (reserved_from p)
reserved_done Begun h = absurd (no_truth h)
reserved_done Reserved h = absurd (no_truth h)
reserved_done (Saw keys) h = absurd (no_truth h)
reserved_done (Seized keys) h = refl

saw_done : (keys : List ℕ) (p : Progress) → IsDone p → IsDone (saw_from keys p)
saw_done keys Begun h = absurd (no_truth h)
saw_done keys Reserved h = absurd (no_truth h)
saw_done keys (Saw seen) h = absurd (no_truth h)
saw_done keys (Seized seen) h = refl

pub confirmed_done : (h : Header) (members n : ℕ) (p : Progress) → IsDone p → IsDone (confirmed_from h members n p)
confirmed_done h members n Begun d = absurd (no_truth d)
confirmed_done h members n Reserved d = absurd (no_truth d)
confirmed_done h members n (Saw seen) d = absurd (no_truth d)
confirmed_done h members n (Seized seen) d = refl

left_done : (p : Progress) → IsDone p → IsDone (left_from p)
left_done Begun h = absurd (no_truth h)
left_done Reserved h = absurd (no_truth h)
left_done (Saw keys) h = absurd (no_truth h)
left_done (Seized keys) h = refl

either_done : (b : Bool) (p q : Progress) → IsDone p → IsDone q → IsDone (if b then p else q)
either_done b p q h k = if_either IsDone b p q h k

keys_done : (h : Header) (n e d : ℕ) (ms : List Moment) (m x : ℕ) (a : DeviceAnswer) → IsDone (progress_of h n e d ms)
    → IsDone (progress_of h n e d (Told (entry.Device (device_entry.Command m x command.Keys a)) ∷ ms))
keys_done h n e d ms m x (Given (answer.Keys keys)) k = either_done _ (saw_from keys (progress_of h n e d ms)) (progress_of h n e d ms)
    (saw_done keys (progress_of h n e d ms) k) k
keys_done h n e d ms m x (Given answer.Good) k = k
keys_done h n e d ms m x (Given answer.Conflict) k = k
keys_done h n e d ms m x (Given answer.InvalidRelease) k = k
keys_done h n e d ms m x (Given answer.NoPath) k = k
keys_done h n e d ms m x (Given (answer.Holder holder)) k = k
keys_done h n e d ms m x (Given (answer.Word w)) k = k
keys_done h n e d ms m x (Given (answer.Value v)) k = k
keys_done h n e d ms m x (Given (answer.Miscompare w)) k = k
keys_done h n e d ms m x Failed k = k

word_done : (h : Header) (n e d : ℕ) (ms : List Moment) (m x : ℕ) (a : DeviceAnswer) → IsDone (progress_of h n e d ms)
    → IsDone (progress_of h n e d (Told (entry.Device (device_entry.Command m x command.Word a)) ∷ ms))
word_done h n e d ms m x (Given (answer.Word w)) k =
    either_done _ (confirmed_from h (members_of e ms) n (progress_of h n e d ms)) (progress_of h n e d ms)
    (confirmed_done h (members_of e ms) n (progress_of h n e d ms) k) k
word_done h n e d ms m x (Given (answer.Keys keys)) k = k
word_done h n e d ms m x (Given answer.Good) k = k
word_done h n e d ms m x (Given answer.Conflict) k = k
word_done h n e d ms m x (Given answer.InvalidRelease) k = k
word_done h n e d ms m x (Given answer.NoPath) k = k
word_done h n e d ms m x (Given (answer.Holder holder)) k = k
word_done h n e d ms m x (Given (answer.Value v)) k = k
word_done h n e d ms m x (Given (answer.Miscompare w)) k = k
word_done h n e d ms m x Failed k = k

command_done : (h : Header) (n e d : ℕ) (ms : List Moment) (m x : ℕ) (c : PrCommand) (a : DeviceAnswer) → IsDone (progress_of h n e d ms)
    → IsDone (progress_of h n e d (Told (entry.Device (device_entry.Command m x c a)) ∷ ms))
command_done h n e d ms m x (command.Reserve kind key) a k = either_done _ (reserved_from (progress_of h n e d ms)) (progress_of h n e d ms)
    (reserved_done (progress_of h n e d ms) k) k
command_done h n e d ms m x command.Keys a k = keys_done h n e d ms m x a k
command_done h n e d ms m x command.Word a k = word_done h n e d ms m x a k
command_done h n e d ms m x _ a k = k

node_done : (h : Header) (n e d : ℕ) (ms : List Moment) (m : ℕ) (x : NodeEntry) → IsDone (progress_of h n e d ms)
    → IsDone (progress_of h n e d (Told (entry.Node m x) ∷ ms))
node_done h n e d ms m node_entry.Saved k = either_done _ (left_from (progress_of h n e d ms)) (progress_of h n e d ms) (left_done (progress_of h n e d ms) k) k
node_done h n e d ms m (node_entry.Down why) k = either_done _ (left_from (progress_of h n e d ms)) (progress_of h n e d ms) (left_done (progress_of h n e d ms) k) k
node_done h n e d ms m node_entry.Up k = k
node_done h n e d ms m node_entry.Ticked k = k
node_done h n e d ms m (node_entry.Installed q) k = k
node_done h n e d ms m (node_entry.Member q) k = k

attempt_done : (h : Header) (n e d : ℕ) (ms : List Moment) (x : AttemptEntry) → IsDone (progress_of h n e d ms)
    → IsDone (progress_of h n e d (Told (entry.Attempt x) ∷ ms))
attempt_done h n e d ms (attempt_entry.Begun p members) k = either_done _ (left_from (progress_of h n e d ms)) (progress_of h n e d ms)
    (left_done (progress_of h n e d ms) k) k
attempt_done h n e d ms (attempt_entry.Votes q have need lacking) k = k
attempt_done h n e d ms (attempt_entry.Superseded q p) k = k
attempt_done h n e d ms (attempt_entry.Silent q m) k = k
attempt_done h n e d ms (attempt_entry.Excluded q m) k = k
attempt_done h n e d ms (attempt_entry.Foreign q m) k = k

device_done : (h : Header) (n e d : ℕ) (ms : List Moment) (x : DeviceEntry) → IsDone (progress_of h n e d ms) → IsDone (progress_of h n e d (Told (entry.Device x) ∷ ms))
device_done h n e d ms (device_entry.Command m x c a) k = command_done h n e d ms m x c a k
device_done h n e d ms (device_entry.Accepted q m x value) k = k
device_done h n e d ms (device_entry.Refused m x value why) k = k

pub seized_stays : (h : Header) (n e d : ℕ) (x : Moment) (ms : List Moment) → is_some (keys_seized h n e d ms) ≡ true → is_some (keys_seized h n e d (x ∷ ms)) ≡ true
seized_stays h n e d (Said line) ms k = k
seized_stays h n e d (Part event) ms k = k
seized_stays h n e d (Told (entry.Device x)) ms k = device_done h n e d ms x k
seized_stays h n e d (Told (entry.Node m x)) ms k = node_done h n e d ms m x k
seized_stays h n e d (Told (entry.Attempt x)) ms k = attempt_done h n e d ms x k
seized_stays h n e d (Told (entry.Answered x)) ms k = k
seized_stays h n e d (Told entry.Powered) ms k = k
seized_stays h n e d (Told (entry.Packet x)) ms k = k
seized_stays h n e d (Told (entry.Start x)) ms k = k
seized_stays h n e d (Told (entry.Update x)) ms k = k
seized_stays h n e d (Told (entry.Schedule x)) ms k = k
seized_stays h n e d (Told (entry.Command x)) ms k = k
seized_stays h n e d (Told (entry.Call x)) ms k = k
seized_stays h n e d (Told (entry.Status x)) ms k = k
seized_stays h n e d (Told (entry.Address x)) ms k = k

-- ---- an attempt keeps its members

-- the moment is no attempt of this number, and leaves its members
pub record Leaves (ms : List Moment) (x : Moment) (e : ℕ) : Type 0 where
  pub other : is_attempt e x ≡ false
  pub members : members_of e (x ∷ ms) ≡ members_of e ms

pub leaves : (ms : List Moment) (x : Moment) (e : ℕ) → IsNew ms x → list_any (is_attempt e) ms ≡ true → Leaves ms x e
leaves ms (Told (entry.Attempt (attempt_entry.Begun p members))) e new old =
    let apart : (p == e) ≡ false = not_same p e (λ same. no_truth (sym new ∙ (ap (λ q. list_any (is_attempt q) ms) same ∙ old))) in
    record { other = apart; members = if_not (p == e) members (members_of e ms) apart }
leaves ms (Told (entry.Attempt (attempt_entry.Votes q have need lacking))) e new old = record { other = refl; members = refl }
leaves ms (Told (entry.Attempt (attempt_entry.Superseded q p))) e new old = record { other = refl; members = refl }
leaves ms (Told (entry.Attempt (attempt_entry.Silent q m))) e new old = record { other = refl; members = refl }
leaves ms (Told (entry.Attempt (attempt_entry.Excluded q m))) e new old = record { other = refl; members = refl }
leaves ms (Told (entry.Attempt (attempt_entry.Foreign q m))) e new old = record { other = refl; members = refl }
leaves ms (Said line) e new old = record { other = refl; members = refl }
leaves ms (Part event) e new old = record { other = refl; members = refl }
leaves ms (Told (entry.Device x)) e new old = record { other = refl; members = refl }
leaves ms (Told (entry.Node m x)) e new old = record { other = refl; members = refl }
leaves ms (Told (entry.Answered x)) e new old = record { other = refl; members = refl }
leaves ms (Told entry.Powered) e new old = record { other = refl; members = refl }
leaves ms (Told (entry.Packet x)) e new old = record { other = refl; members = refl }
leaves ms (Told (entry.Start x)) e new old = record { other = refl; members = refl }
leaves ms (Told (entry.Update x)) e new old = record { other = refl; members = refl }
leaves ms (Told (entry.Schedule x)) e new old = record { other = refl; members = refl }
leaves ms (Told (entry.Command x)) e new old = record { other = refl; members = refl }
leaves ms (Told (entry.Call x)) e new old = record { other = refl; members = refl }
leaves ms (Told (entry.Status x)) e new old = record { other = refl; members = refl }
leaves ms (Told (entry.Address x)) e new old = record { other = refl; members = refl }

pub begun_stays : (ms : List Moment) (x : Moment) (e : ℕ) → list_any (is_attempt e) ms ≡ true → list_any (is_attempt e) (x ∷ ms) ≡ true
begun_stays ms x e h = or_right (is_attempt e x) (list_any (is_attempt e) ms) h

pub of_stays : (ms : List Moment) (x : Moment) (e members : ℕ) → IsNew ms x → IsOf ms e members → IsOf (x ∷ ms) e members
of_stays ms x e members new h = (begun_stays ms x e h.0, (leaves ms x e new h.0).members ∙ h.1)

pub installed_stays : (ms : List Moment) (x : Moment) (n e : ℕ) → has_installed n e ms ≡ true → has_installed n e (x ∷ ms) ≡ true
installed_stays ms x n e h = or_right (is_install n e x) (list_any (is_install n e) ms) h

-- ---- some member has seized it

either_some : {X : Type 0} (a b : Option X) → is_some (or_else a b) ≡ true → (is_some a ≡ true) ⊎ (is_some b ≡ true)
either_some None b h = inr h
either_some (Some x) b h = inl refl

or_some : {X : Type 0} (a b : Option X) → (is_some a ≡ true) ⊎ (is_some b ≡ true) → is_some (or_else a b) ≡ true
or_some None b (inl h) = absurd (no_truth h)
or_some None b (inr h) = h
or_some (Some x) b h = refl

by_some : (n : ℕ) (o : Option (List ℕ)) → is_some o ≡ true → is_some (seizing_by n o) ≡ true
by_some n None h = absurd (no_truth h)
by_some n (Some keys) h = refl

some_by : (n : ℕ) (o : Option (List ℕ)) → is_some (seizing_by n o) ≡ true → is_some o ≡ true
some_by n None h = absurd (no_truth h)
some_by n (Some keys) h = refl

among_stays : (h : Header) (e d : ℕ) (x : Moment) (ms : List Moment) (ns : List ℕ) → is_some (seizing_among h e d ms ns) ≡ true
    → is_some (seizing_among h e d (x ∷ ms) ns) ≡ true
among_stays h e d x ms [] k = k
among_stays h e d x ms (n ∷ ns) k =
    or_some (seizing_by n (keys_seized h n e d (x ∷ ms))) (seizing_among h e d (x ∷ ms) ns)
    (by_cases (either_some (seizing_by n (keys_seized h n e d ms)) (seizing_among h e d ms ns) k) (among_stays h e d x ms ns))
  where
    by_cases : (is_some (seizing_by n (keys_seized h n e d ms)) ≡ true) ⊎ (is_some (seizing_among h e d ms ns) ≡ true)
        → (is_some (seizing_among h e d ms ns) ≡ true → is_some (seizing_among h e d (x ∷ ms) ns) ≡ true)
        → (is_some (seizing_by n (keys_seized h n e d (x ∷ ms))) ≡ true) ⊎ (is_some (seizing_among h e d (x ∷ ms) ns) ≡ true)
    by_cases (inl a) more = inl (by_some n (keys_seized h n e d (x ∷ ms)) (seized_stays h n e d x ms (some_by n (keys_seized h n e d ms) a)))
    by_cases (inr b) more = inr (more b)

pub seizing_stays : (h : Header) (e d : ℕ) (x : Moment) (ms : List Moment) → IsNew ms x → list_any (is_attempt e) ms ≡ true
    → is_some (seizing_of h e d ms) ≡ true → is_some (seizing_of h e d (x ∷ ms)) ≡ true
seizing_stays h e d x ms new old k =
    subst (λ z. is_some (seizing_among h e d (x ∷ ms) (nodes_of z)) ≡ true) (sym (leaves ms x e new old).members) (among_stays h e d x ms (nodes_of (members_of e ms)) k)

among_has : (h : Header) (n e d : ℕ) (ms : List Moment) (ns : List ℕ) → list_any (λ m. m == n) ns ≡ true → is_some (keys_seized h n e d ms) ≡ true
    → is_some (seizing_among h e d ms ns) ≡ true
among_has h n e d ms [] one k = absurd (no_truth one)
among_has h n e d ms (m ∷ ns) one k =
    or_some (seizing_by m (keys_seized h m e d ms)) (seizing_among h e d ms ns)
    (by_cases (or_cases (m == n) (list_any (λ j. j == n) ns) one) (λ rest. among_has h n e d ms ns rest k))
  where
    by_cases : ((m == n) ≡ true) ⊎ (list_any (λ j. j == n) ns ≡ true) → (list_any (λ j. j == n) ns ≡ true → is_some (seizing_among h e d ms ns) ≡ true)
        → (is_some (seizing_by m (keys_seized h m e d ms)) ≡ true) ⊎ (is_some (seizing_among h e d ms ns) ≡ true)
    by_cases (inl same) more = inl (by_some m (keys_seized h m e d ms) (subst (λ j. is_some (keys_seized h j e d ms) ≡ true) (sym (same_number m n same)) k))
    by_cases (inr rest) more = inr (more rest)

and_both : (a b : Bool) → a ≡ true → b ≡ true → (a && b) ≡ true
and_both true b h k = k
and_both false b h k = absurd (no_truth h)

-- where n is among its members
pub seizing_has : (h : Header) (n e d members : ℕ) (ms : List Moment) → members_of e ms ≡ members → nat_le n 32 ≡ true → has members n ≡ true
    → is_some (keys_seized h n e d ms) ≡ true
    → is_some (seizing_of h e d ms) ≡ true
seizing_has h n e d members ms of low member k =
    among_has h n e d ms (nodes_of (members_of e ms))
    (subst (λ z. list_any (λ m. m == n) (nodes_of z) ≡ true) (sym of) (is_among members 32 n ∙ and_both (nat_le n 32) (has members n) low member)) k

pub is_seized_stays : (h : Header) (n e d : ℕ) (x : Moment) (ms : List Moment) → IsNew ms x → list_any (is_attempt e) ms ≡ true → IsSeized h ms n e d
    → IsSeized h (x ∷ ms) n e d
is_seized_stays h n e d x ms new old k = (seized_stays h n e d x ms k.0, seizing_stays h e d x ms new old k.1)

pub seized_or_stays : (h : Header) (n e d : ℕ) (x : Moment) (ms : List Moment) → IsNew ms x → list_any (is_attempt e) ms ≡ true → SeizedOr h ms n e d
    → SeizedOr h (x ∷ ms) n e d
seized_or_stays h n e d x ms new old (inl k) = inl (installed_stays ms x (coordinator e) e k)
seized_or_stays h n e d x ms new old (inr k) = inr (is_seized_stays h n e d x ms new old k)

-- ---- what is known of it

pub since_stays : (e : ℕ) (test : Letter → Bool) (x : Moment) (ms : List Moment) → IsNew ms x → list_any (is_attempt e) ms ≡ true
    → reached_since (is_attempt e) test ms ≡ true
    → reached_since (is_attempt e) test (x ∷ ms) ≡ true
since_stays e test x ms new old k =
    if_not (is_attempt e x) false (passes test (arriving ms x) || reached_since (is_attempt e) test ms) (leaves ms x e new old).other
    ∙ or_right (passes test (arriving ms x)) (reached_since (is_attempt e) test ms) k

pub known_stays : (h : Header) (e d : ℕ) (x : Moment) (ms : List Moment) → IsNew ms x → list_any (is_attempt e) ms ≡ true → IsKnown h ms e d → IsKnown h (x ∷ ms) e d
known_stays h e d x ms new old k = (
  or_both (is_some (keys_seized h (coordinator e) e d ms)) (reached_since (is_attempt e) (tells_held e (coordinator e) d) ms)
      (is_some (keys_seized h (coordinator e) e d (x ∷ ms)))
      (reached_since (is_attempt e) (tells_held e (coordinator e) d) (x ∷ ms)) (seized_stays h (coordinator e) e d x ms)
      (since_stays e (tells_held e (coordinator e) d) x ms new old) k.0,
  seizing_stays h e d x ms new old k.1,
)
