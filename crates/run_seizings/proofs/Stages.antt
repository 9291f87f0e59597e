-- The answer to the command of a seizing takes it on as its line does.
use Rattle.std.specs.Prelude.{ℕ, ◌≡◌, ◌==◌, ◌&&◌, ◌||◌, ◌+◌, ◌-◌, ◌*◌, ◌^◌, ◌⊎◌, nat_lt, nat_le, not, Bool, true, false, List, [], ◌∷◌, Option, None, Some, find, Ok, Err, if◌then◌else◌}
use Rattle.std.specs.List.{AllByRecursion, list_any, list_all}
use Rattle.std.proofs.Common.{refl, sym, ap, subst, ◌∙◌, arith, inl, inr}
use Rattle.cmm_attempt.proofs.Basics.{if_either, or_cases, same_number, none_some, same_some}
use Rattle.cl_base.specs.Keys as keys
use Rattle.cl_base.specs.Sets.{has}
use Rattle.cl_base.specs.declared.header.Header.{Header}
use Rattle.cl_base.specs.declared.seizing.SeizeEnd.TheVariants.{Held, NotRegistered, Greater, Expelled, Contended, Fault}
use Rattle.attempt_laws.proofs.Told.{is_among}
use Rattle.pgr_device.specs.declared.command.PrCommand.{PrCommand}
use Rattle.pgr_device.specs.declared.command.PrCommand.TheVariants as command
use Rattle.pgr_device.specs.declared.command.PrAnswer.TheVariants as answer
use Rattle.seize.specs.Answers.{Answer, is_conflict, is_good, keys_told, word_found, word_told}
use Rattle.seize.specs.Keys.{first_stranger, has_key, is_key_of, node_of}
use Rattle.seize.specs.Seizing.{SeizeState, checked, cleared, command_at, compared, confirmed, looked, next_step, own_key, swapped}
use Rattle.seize.specs.declared.step.SeizeStep.{SeizeStep}
use Rattle.seize.specs.declared.step.SeizeStep.TheVariants as step
use Rattle.status_report.specs.declared.device_entry.DeviceAnswer.{DeviceAnswer}
use Rattle.status_report.specs.declared.device_entry.DeviceAnswer.TheVariants.{Given, Failed}
use Rattle.status_report.specs.declared.device_entry.DeviceEntry.TheVariants as device_entry
use Rattle.status_report.specs.declared.entry.Entry.TheVariants as entry
use Rattle.history.specs.Member.{members_of}
use Rattle.history.specs.Moment.{Moment, Told}
use Rattle.history.specs.Seizing.{Progress, Begun, Reserved, Saw, Seized, acts_for, are_members_keys, confirmed_from, is_members_key, progress_of, reserved_from, saw_from}
use Rattle.history.specs.Setting.{key_of, nodes_of}
use Rattle.run_seizings.specs.Seized.{HasReserved, HasSeen, StepSo}
use Rattle.attempt_laws.proofs.Walk.{if_with}
use Rattle.run_seizings.proofs.Progress.{IsDone, confirmed_done, no_truth, if_so, same_is}

-- ---- keys

-- the key is one of a node's
pub record IsOwn (cluster key : ℕ) : Type 0 where
  pub node : ℕ
  pub high : nat_le node 32 ≡ true
  pub is : key ≡ keys.key_of cluster node

abbrev pub AreOwn : ℕ → List ℕ → Type 0
AreOwn cluster ks = AllByRecursion (IsOwn cluster) ks

node_again : (cluster n : ℕ) → node_of cluster (keys.key_of cluster n) ≡ n
node_again cluster n = lift (cluster * 2 ^ 32) n
  where
    lift : (a b : ℕ) → (a + b) - a ≡ b
    lift a b = omega arith

and_both : (a b : Bool) → a ≡ true → b ≡ true → (a && b) ≡ true
and_both true b h k = k
and_both false b h k = absurd (no_truth h)

any_key : (cluster n : ℕ) (ns : List ℕ) → list_any (λ m. m == n) ns ≡ true → list_any (λ m. keys.key_of cluster m == keys.key_of cluster n) ns ≡ true
any_key cluster n [] h = absurd (no_truth h)
any_key cluster n (m ∷ ns) h = by_cases (or_cases (m == n) (list_any (λ j. j == n) ns) h) (any_key cluster n ns)
  where
    by_cases : ((m == n) ≡ true) ⊎ (list_any (λ j. j == n) ns ≡ true) →
        (list_any (λ j. j == n) ns ≡ true → list_any (λ j. keys.key_of cluster j == keys.key_of cluster n) ns ≡ true)
        → ((keys.key_of cluster m == keys.key_of cluster n) || list_any (λ j. keys.key_of cluster j == keys.key_of cluster n) ns) ≡ true
    by_cases (inl same) more =
        ap (λ j. (keys.key_of cluster j == keys.key_of cluster n) || list_any (λ j. keys.key_of cluster j == keys.key_of cluster n) ns) (same_number m n same)
        ∙ ap (λ b. b || list_any (λ j. keys.key_of cluster j == keys.key_of cluster n) ns) (same_is (keys.key_of cluster n))
    by_cases (inr rest) more = or_right (keys.key_of cluster m == keys.key_of cluster n) _ (more rest)
      where
        or_right : (a b : Bool) → b ≡ true → (a || b) ≡ true
        or_right true b k = refl
        or_right false b k = k

members_key : (h : Header) (cluster members key : ℕ) → cluster ≡ h.cluster → IsOwn cluster key → is_key_of cluster members key ≡ true
    → is_members_key h members key ≡ true
members_key h cluster members key at own is =
    subst (λ z. list_any (λ m. keys.key_of z m == key) (nodes_of members) ≡ true) at
    (subst (λ z. list_any (λ m. keys.key_of cluster m == z) (nodes_of members) ≡ true) (sym own.is)
    (any_key cluster own.node (nodes_of members)
    (is_among members 32 own.node ∙ and_both (nat_le own.node 32) (has members own.node) own.high
    (ap (λ z. has members z) (sym (node_again cluster own.node)) ∙ (ap (λ z. has members (node_of cluster z)) (sym own.is) ∙ is)))))

no_stranger : (h : Header) (cluster members : ℕ) (ks : List ℕ) → cluster ≡ h.cluster → AreOwn cluster ks → first_stranger cluster members ks ≡ None
    → list_all (is_members_key h members) ks ≡ true
no_stranger h cluster members [] at own none = refl
no_stranger h cluster members (k ∷ ks) at own none = by_test (is_key_of cluster members k) refl none (no_stranger h cluster members ks at own.1)
  where
    by_test : (b : Bool) → is_key_of cluster members k ≡ b → (if not b then Some k else find (λ j. not (is_key_of cluster members j)) ks) ≡ None
        → (find (λ j. not (is_key_of cluster members j)) ks ≡ None → list_all (is_members_key h members) ks ≡ true)
        → (is_members_key h members k && list_all (is_members_key h members) ks) ≡ true
    by_test true is rest more = and_both (is_members_key h members k) _ (members_key h cluster members k at own.0 is) (more rest)
    by_test false is rest more = absurd (none_some k (sym rest))

-- the own key, and besides members' alone
seen_so : (h : Header) (members n : ℕ) (s : SeizeState) (ks : List ℕ) → s.cluster ≡ h.cluster → s.me ≡ n → AreOwn s.cluster ks → has_key (own_key s) ks ≡ true
    → first_stranger s.cluster members ks ≡ None
    → are_members_keys h members n ks ≡ true
seen_so h members n s ks at me own has none =
    and_both (list_any (λ key. key == key_of h n) ks) (list_all (is_members_key h members) ks)
    (subst (λ z. list_any (λ key. key == keys.key_of z n) ks ≡ true) at (subst (λ z. list_any (λ key. key == keys.key_of s.cluster z) ks ≡ true) me has))
    (no_stranger h s.cluster members ks at own none)

-- ---- the lines

-- what the answer is told as
abbrev pub told_of : Answer → DeviceAnswer
told_of (Ok a) = Given a
told_of (Err e) = Failed

-- what the command of a node, which acts for e with these members, shows
abbrev pub shown : Header → ℕ → ℕ → ℕ → PrCommand → DeviceAnswer → Progress → Progress
shown h members n e (command.Reserve kind key) a p = reserved_from p
shown h members n e command.Keys (Given (answer.Keys ks)) p = saw_from ks p
shown h members n e command.Word (Given (answer.Word w)) p = if w == e then confirmed_from h members n p else p
shown h members n e _ a p = p

all_three : (a b c : Bool) → a ≡ true → b ≡ true → c ≡ true → (a && b && c) ≡ true
all_three true true c h k l = l
all_three true false c h k l = absurd (no_truth k)
all_three false b c h k l = absurd (no_truth h)

with_third : {X : Type 0} (a b t c : Bool) (x y : X) → a ≡ true → b ≡ true → c ≡ true → (if a && b && t && c then x else y) ≡ (if t then x else y)
with_third true true true true x y h k l = refl
with_third true true false c x y h k l = refl
with_third true true true false x y h k l = absurd (no_truth l)
with_third true false t c x y h k l = absurd (no_truth k)
with_third false b t c x y h k l = absurd (no_truth h)

keys_shown : (h : Header) (ms : List Moment) (n e d : ℕ) (a : DeviceAnswer) → acts_for n e ms ≡ true
    → progress_of h n e d (Told (entry.Device (device_entry.Command n d command.Keys a)) ∷ ms) ≡ shown h (members_of e ms) n e command.Keys a (progress_of h n e d ms)
keys_shown h ms n e d (Given (answer.Keys ks)) acts =
    if_so ((n == n) && (d == d) && acts_for n e ms) (saw_from ks (progress_of h n e d ms)) (progress_of h n e d ms)
    (all_three (n == n) (d == d) (acts_for n e ms) (same_is n) (same_is d) acts)
keys_shown h ms n e d (Given answer.Good) acts = refl
keys_shown h ms n e d (Given answer.Conflict) acts = refl
keys_shown h ms n e d (Given answer.InvalidRelease) acts = refl
keys_shown h ms n e d (Given answer.NoPath) acts = refl
keys_shown h ms n e d (Given (answer.Holder holder)) acts = refl
keys_shown h ms n e d (Given (answer.Word w)) acts = refl
keys_shown h ms n e d (Given (answer.Value v)) acts = refl
keys_shown h ms n e d (Given (answer.Miscompare w)) acts = refl
keys_shown h ms n e d Failed acts = refl

word_shown : (h : Header) (ms : List Moment) (n e d : ℕ) (a : DeviceAnswer) → acts_for n e ms ≡ true
    → progress_of h n e d (Told (entry.Device (device_entry.Command n d command.Word a)) ∷ ms) ≡ shown h (members_of e ms) n e command.Word a (progress_of h n e d ms)
word_shown h ms n e d (Given (answer.Word w)) acts =
    with_third (n == n) (d == d) (w == e) (acts_for n e ms) (confirmed_from h (members_of e ms) n (progress_of h n e d ms)) (progress_of h n e d ms) (same_is n)
    (same_is d) acts
word_shown h ms n e d (Given (answer.Keys ks)) acts = refl
word_shown h ms n e d (Given answer.Good) acts = refl
word_shown h ms n e d (Given answer.Conflict) acts = refl
word_shown h ms n e d (Given answer.InvalidRelease) acts = refl
word_shown h ms n e d (Given answer.NoPath) acts = refl
word_shown h ms n e d (Given (answer.Holder holder)) acts = refl
word_shown h ms n e d (Given (answer.Value v)) acts = refl
word_shown h ms n e d (Given (answer.Miscompare w)) acts = refl
word_shown h ms n e d Failed acts = refl

pub shown_so : (h : Header) (ms : List Moment) (n e d : ℕ) (k : PrCommand) (a : DeviceAnswer) → acts_for n e ms ≡ true
    → progress_of h n e d (Told (entry.Device (device_entry.Command n d k a)) ∷ ms) ≡ shown h (members_of e ms) n e k a (progress_of h n e d ms)
shown_so h ms n e d (command.Reserve kind key) a acts =
    if_so ((n == n) && (d == d) && acts_for n e ms) (reserved_from (progress_of h n e d ms)) (progress_of h n e d ms)
    (all_three (n == n) (d == d) (acts_for n e ms) (same_is n) (same_is d) acts)
shown_so h ms n e d command.Keys a acts = keys_shown h ms n e d a acts
shown_so h ms n e d command.Word a acts = word_shown h ms n e d a acts
shown_so h ms n e d (command.Register key new) a acts = refl
shown_so h ms n e d (command.Ignore new) a acts = refl
shown_so h ms n e d (command.Release kind key) a acts = refl
shown_so h ms n e d (command.Clear key) a acts = refl
shown_so h ms n e d (command.Preempt kind key victim) a acts = refl
shown_so h ms n e d command.Holder a acts = refl
shown_so h ms n e d command.Read a acts = refl
shown_so h ms n e d (command.Write value) a acts = refl
shown_so h ms n e d (command.Swap expect new) a acts = refl

-- ---- the steps

abbrev So : Header → ℕ → ℕ → Progress → SeizeStep → Type 0
So h members n p next = StepSo h members n p next

checked_so : (h : Header) (n : ℕ) (p : Progress) (s : SeizeState) (o : Option (List ℕ)) → So h s.members n p (checked s o)
checked_so h n p s None = tt
checked_so h n p s (Some ks) = if_either (So h s.members n p) (has_key (own_key s) ks && s.valid) step.ReadWord (step.Ended (NotRegistered ks)) tt tt

compared_so : (h : Header) (n : ℕ) (p : Progress) (s : SeizeState) (o : Option ℕ) → So h s.members n p (compared s o)
compared_so h n p s None = tt
compared_so h n p s (Some word) =
    if_either (So h s.members n p) (nat_lt word s.epoch) (step.Swap word) (if word == s.epoch then step.Reserve else step.Ended (Greater word)) tt
    (if_either (So h s.members n p) (word == s.epoch) step.Reserve (step.Ended (Greater word)) tt tt)

swapped_so : (h : Header) (n : ℕ) (p : Progress) (s : SeizeState) (expected : ℕ) (a : Answer) → So h s.members n p (swapped s expected a)
swapped_so h n p s expected a =
    if_either (So h s.members n p) (is_good a) step.Reserve (if is_conflict a then step.Ended Expelled else compared s (word_found expected a)) tt
    (if_either (So h s.members n p) (is_conflict a) (step.Ended Expelled) (compared s (word_found expected a)) tt (compared_so h n p s (word_found expected a)))

reserved_has : (p : Progress) → HasReserved (reserved_from p)
reserved_has Begun = tt
reserved_has Reserved = tt
reserved_has (Saw ks) = tt
reserved_has (Seized ks) = tt

saw_has : (ks : List ℕ) (p : Progress) → HasReserved p → HasReserved (saw_from ks p)
saw_has ks Begun h = absurd h
saw_has ks Reserved h = tt
saw_has ks (Saw seen) h = tt
saw_has ks (Seized seen) h = tt

saw_seen : (h : Header) (members n : ℕ) (ks : List ℕ) (p : Progress) → HasReserved p → are_members_keys h members n ks ≡ true → HasSeen h members n ks (saw_from ks p)
saw_seen h members n ks Begun r are = absurd r
saw_seen h members n ks Reserved r are = inr (refl, are)
saw_seen h members n ks (Saw seen) r are = inr (refl, are)
saw_seen h members n ks (Seized seen) r are = inl refl

cleared_so : (h : Header) (n reading : ℕ) (ks : List ℕ) (p : Progress) (s : SeizeState) (o : Option ℕ) → first_stranger s.cluster s.members ks ≡ o → HasReserved p
    → (first_stranger s.cluster s.members ks ≡ None → are_members_keys h s.members n ks ≡ true) → So h s.members n (saw_from ks p) (cleared ks reading o)
cleared_so h n reading ks p s None is r are = saw_seen h s.members n ks p r (are is)
cleared_so h n reading ks p s (Some key) is r are =
    if_either (So h s.members n (saw_from ks p)) (nat_lt reading 64) (step.Preempt key reading) (step.Ended (Contended key)) (saw_has ks p r) tt

looked_so : (h : Header) (n reading : ℕ) (ks : List ℕ) (p : Progress) (s : SeizeState) → s.cluster ≡ h.cluster → s.me ≡ n → AreOwn s.cluster ks → HasReserved p
    → So h s.members n (saw_from ks p) (looked s reading (Some ks))
looked_so h n reading ks p s at me own r =
    if_with (So h s.members n (saw_from ks p)) (has_key (own_key s) ks) (has_key (own_key s) ks) (cleared ks reading (first_stranger s.cluster s.members ks))
    (step.Ended Expelled) refl
    (λ has. cleared_so h n reading ks p s (first_stranger s.cluster s.members ks) refl r (λ none. seen_so h s.members n s ks at me own has none)) (λ e. tt)

seen_done : (h : Header) (members n : ℕ) (ks : List ℕ) (p : Progress) → HasSeen h members n ks p → IsDone (confirmed_from h members n p)
seen_done h members n ks p (inl done) = confirmed_done h members n p done
seen_done h members n ks p (inr saw) =
    subst (λ z. IsDone (confirmed_from h members n z)) (sym saw.0) (subst (λ z. IsDone z) (sym (if_so (are_members_keys h members n ks) (Seized ks) (Saw ks) saw.1)) refl)

confirmed_so : (h : Header) (n w : ℕ) (ks : List ℕ) (p : Progress) (s : SeizeState) → HasSeen h s.members n ks p
    → So h s.members n (if w == s.epoch then confirmed_from h s.members n p else p) (confirmed s ks (Some w))
confirmed_so h n w ks p s seen = by_test (w == s.epoch)
  where
    by_test : (b : Bool) → So h s.members n (if b then confirmed_from h s.members n p else p) (if b then step.Ended (Held ks) else step.Ended (Greater w))
    by_test true = seen_done h s.members n ks p seen
    by_test false = tt

-- the answer to a reading of keys, and of the word, by which a seizing goes on

keys_taken : (h : Header) (n reading : ℕ) (p : Progress) (s : SeizeState) (a : Answer) → s.cluster ≡ h.cluster → s.me ≡ n
    → ((ks : List ℕ) → a ≡ Ok (answer.Keys ks) → AreOwn s.cluster ks) → HasReserved p
    → So h s.members n (shown h s.members n s.epoch command.Keys (told_of a) p) (looked s reading (keys_told a))
keys_taken h n reading p s (Ok (answer.Keys ks)) at me own r = looked_so h n reading ks p s at me (own ks refl) r
keys_taken h n reading p s (Ok answer.Good) at me own r = tt
keys_taken h n reading p s (Ok answer.Conflict) at me own r = tt
keys_taken h n reading p s (Ok answer.InvalidRelease) at me own r = tt
keys_taken h n reading p s (Ok answer.NoPath) at me own r = tt
keys_taken h n reading p s (Ok (answer.Holder holder)) at me own r = tt
keys_taken h n reading p s (Ok (answer.Word w)) at me own r = tt
keys_taken h n reading p s (Ok (answer.Value v)) at me own r = tt
keys_taken h n reading p s (Ok (answer.Miscompare w)) at me own r = tt
keys_taken h n reading p s (Err e) at me own r = tt

word_taken : (h : Header) (n : ℕ) (ks : List ℕ) (p : Progress) (s : SeizeState) (a : Answer) → HasSeen h s.members n ks p
    → So h s.members n (shown h s.members n s.epoch command.Word (told_of a) p) (confirmed s ks (word_told a))
word_taken h n ks p s (Ok (answer.Word w)) seen = confirmed_so h n w ks p s seen
word_taken h n ks p s (Ok (answer.Keys keys)) seen = tt
word_taken h n ks p s (Ok answer.Good) seen = tt
word_taken h n ks p s (Ok answer.Conflict) seen = tt
word_taken h n ks p s (Ok answer.InvalidRelease) seen = tt
word_taken h n ks p s (Ok answer.NoPath) seen = tt
word_taken h n ks p s (Ok (answer.Holder holder)) seen = tt
word_taken h n ks p s (Ok (answer.Value v)) seen = tt
word_taken h n ks p s (Ok (answer.Miscompare w)) seen = tt
word_taken h n ks p s (Err e) seen = tt

step_taken : (h : Header) (n : ℕ) (p : Progress) (s : SeizeState) (next : SeizeStep) (k : PrCommand) (a : Answer) → s.cluster ≡ h.cluster → s.me ≡ n
    → (k ≡ command.Keys → (ks : List ℕ) → a ≡ Ok (answer.Keys ks) → AreOwn s.cluster ks) → command_at s next ≡ Some k → So h s.members n p next
    → So h s.members n (shown h s.members n s.epoch k (told_of a) p) (next_step s next a)
step_taken h n p s step.Check k a at me own is so = checked_so h n _ s (keys_told a)
step_taken h n p s step.Register k a at me own is so = if_either (So h s.members n (shown h s.members n s.epoch k (told_of a) p)) (is_good a) step.ReadWord
    (step.Ended Fault) tt tt
step_taken h n p s step.ReadWord k a at me own is so = compared_so h n _ s (word_told a)
step_taken h n p s (step.Swap expected) k a at me own is so = swapped_so h n _ s expected a
step_taken h n p s step.Reserve k a at me own is so =
    subst (λ z. So h s.members n (shown h s.members n s.epoch z (told_of a) p) (next_step s step.Reserve a)) (same_some _ k is)
    (if_either (So h s.members n (reserved_from p)) (is_good a || is_conflict a) (step.ReadKeys 1) (step.Ended Fault) (reserved_has p) tt)
step_taken h n p s (step.ReadKeys reading) k a at me own is so =
    subst (λ z. So h s.members n (shown h s.members n s.epoch z (told_of a) p) (next_step s (step.ReadKeys reading) a)) (same_some _ k is)
    (keys_taken h n reading p s a at me (own (sym (same_some command.Keys k is))) so)
step_taken h n p s (step.Preempt victim reading) k a at me own is so =
    subst (λ z. So h s.members n (shown h s.members n s.epoch z (told_of a) p) (next_step s (step.Preempt victim reading) a)) (same_some _ k is)
    (if_either (So h s.members n p) (is_good a || is_conflict a) (step.ReadKeys (reading + 1)) (step.Ended Fault) so tt)
step_taken h n p s (step.Confirm ks) k a at me own is so =
    subst (λ z. So h s.members n (shown h s.members n s.epoch z (told_of a) p) (next_step s (step.Confirm ks) a)) (same_some _ k is) (word_taken h n ks p s a so)
step_taken h n p s (step.Ended result) k a at me own is so = absurd (none_some k is)

-- the line of the command that is due, and its answer
pub taken_so : (h : Header) (ms : List Moment) (n d : ℕ) (s : SeizeState) (k : PrCommand) (a : Answer) → s.cluster ≡ h.cluster → s.me ≡ n
    → members_of s.epoch ms ≡ s.members
    → acts_for n s.epoch ms ≡ true → (k ≡ command.Keys → (ks : List ℕ) → a ≡ Ok (answer.Keys ks) → AreOwn s.cluster ks) → command_at s s.step ≡ Some k
    → StepSo h s.members n (progress_of h n s.epoch d ms) s.step
    → StepSo h s.members n (progress_of h n s.epoch d (Told (entry.Device (device_entry.Command n d k (told_of a))) ∷ ms)) (next_step s s.step a)
taken_so h ms n d s k a at me of acts own is so =
    subst (λ p. StepSo h s.members n p (next_step s s.step a)) (sym (shown_so h ms n s.epoch d k (told_of a) acts))
    (subst (λ z. StepSo h s.members n (shown h z n s.epoch k (told_of a) (progress_of h n s.epoch d ms)) (next_step s s.step a)) (sym of)
    (step_taken h n (progress_of h n s.epoch d ms) s s.step k a at me own is so))
