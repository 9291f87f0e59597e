-- How far a seizing is, exactly, once the answer to its command is told and taken.
use Rattle.std.specs.Prelude.{ℕ, ◌+◌, ◌≡◌, ◌==◌, ◌&&◌, ◌||◌, nat_lt, Bool, true, false, List, Option, None, Some, is_some, Ok, Err, if◌then◌else◌}
use Rattle.std.proofs.Common.{refl, sym, ap, subst, ◌∙◌, inl, inr}
use Rattle.cl_base.specs.declared.header.Header.{Header}
use Rattle.cl_base.specs.declared.seizing.SeizeEnd.TheVariants.{Held, NotRegistered, Greater, Expelled, Contended, Fault}
use Rattle.cmm_attempt.proofs.Basics.{if_either, none_some, same_some}
use Rattle.pgr_device.specs.declared.command.PrAnswer.TheVariants as answer
use Rattle.pgr_device.specs.declared.command.PrCommand.{PrCommand}
use Rattle.pgr_device.specs.declared.command.PrCommand.TheVariants as command
use Rattle.seize.specs.Answers.{Answer, is_conflict, is_good, keys_told, word_found, word_told}
use Rattle.seize.specs.Keys.{first_stranger, has_key}
use Rattle.seize.specs.Seizing.{SeizeState, checked, cleared, command_at, compared, confirmed, looked, next_step, own_key, swapped}
use Rattle.seize.specs.declared.step.SeizeStep.{SeizeStep}
use Rattle.seize.specs.declared.step.SeizeStep.TheVariants as step
use Rattle.history.specs.Seizing.{Progress, Begun, Reserved, Saw, Seized, are_members_keys, confirmed_from, keys_in, saw_from}
use Rattle.run_seizings.specs.Seized.{HasSeen, StepSo}
use Rattle.run_seizings.proofs.Progress.{if_so, no_truth}
use Rattle.run_seizings.proofs.Stages.{shown, told_of}
use Rattle.run_devices.specs.readings.Readings.{StepRead}

-- ---- before it tries to reserve

compared_read : (s : SeizeState) (o : Option ℕ) → StepRead Begun (compared s o)
compared_read s None = refl
compared_read s (Some word) =
    if_either (StepRead Begun) (nat_lt word s.epoch) (step.Swap word) (if word == s.epoch then step.Reserve else step.Ended (Greater word)) refl
    (if_either (StepRead Begun) (word == s.epoch) step.Reserve (step.Ended (Greater word)) refl refl)

swapped_read : (s : SeizeState) (expected : ℕ) (a : Answer) → StepRead Begun (swapped s expected a)
swapped_read s expected a =
    if_either (StepRead Begun) (is_good a) step.Reserve (if is_conflict a then step.Ended Expelled else compared s (word_found expected a)) refl
    (if_either (StepRead Begun) (is_conflict a) (step.Ended Expelled) (compared s (word_found expected a)) refl (compared_read s (word_found expected a)))

keys_begun : (h : Header) (n : ℕ) (s : SeizeState) (a : Answer) → StepRead (shown h s.members n s.epoch command.Keys (told_of a) Begun) (checked s (keys_told a))
keys_begun h n s (Ok (answer.Keys ks)) = if_either (StepRead Begun) (has_key (own_key s) ks && s.valid) step.ReadWord (step.Ended (NotRegistered ks)) refl refl
keys_begun h n s (Ok answer.Good) = refl
keys_begun h n s (Ok answer.Conflict) = refl
keys_begun h n s (Ok answer.InvalidRelease) = refl
keys_begun h n s (Ok answer.NoPath) = refl
keys_begun h n s (Ok (answer.Holder holder)) = refl
keys_begun h n s (Ok (answer.Word w)) = refl
keys_begun h n s (Ok (answer.Value v)) = refl
keys_begun h n s (Ok (answer.Miscompare w)) = refl
keys_begun h n s (Err e) = refl

word_begun : (h : Header) (n : ℕ) (s : SeizeState) (a : Answer) → StepRead (shown h s.members n s.epoch command.Word (told_of a) Begun) (compared s (word_told a))
word_begun h n s (Ok (answer.Word w)) =
    if_either (λ p. StepRead p (compared s (Some w))) (w == s.epoch) (confirmed_from h s.members n Begun) Begun (compared_read s (Some w)) (compared_read s (Some w))
word_begun h n s (Ok (answer.Keys ks)) = refl
word_begun h n s (Ok answer.Good) = refl
word_begun h n s (Ok answer.Conflict) = refl
word_begun h n s (Ok answer.InvalidRelease) = refl
word_begun h n s (Ok answer.NoPath) = refl
word_begun h n s (Ok (answer.Holder holder)) = refl
word_begun h n s (Ok (answer.Value v)) = refl
word_begun h n s (Ok (answer.Miscompare w)) = refl
word_begun h n s (Err e) = refl

-- ---- once it has reserved

none_keys : (ks : List ℕ) → Some ks ≡ None → ⊥
none_keys ks e = cc

saw_none : (ks : List ℕ) (p : Progress) → keys_in p ≡ None → keys_in (saw_from ks p) ≡ None
saw_none ks Begun k = refl
saw_none ks Reserved k = refl
saw_none ks (Saw seen) k = refl
saw_none ks (Seized seen) k = absurd (none_keys seen k)

cleared_read : (ks : List ℕ) (reading : ℕ) (p : Progress) (o : Option ℕ) → keys_in p ≡ None → StepRead p (cleared ks reading o)
cleared_read ks reading p None k = k
cleared_read ks reading p (Some key) k = if_either (StepRead p) (nat_lt reading 64) (step.Preempt key reading) (step.Ended (Contended key)) k k

looked_read : (s : SeizeState) (reading : ℕ) (p : Progress) (o : Option (List ℕ)) → keys_in p ≡ None → StepRead p (looked s reading o)
looked_read s reading p None k = k
looked_read s reading p (Some ks) k =
    if_either (StepRead p) (has_key (own_key s) ks) (cleared ks reading (first_stranger s.cluster s.members ks)) (step.Ended Expelled)
    (cleared_read ks reading p (first_stranger s.cluster s.members ks) k) k

keys_read : (h : Header) (n reading : ℕ) (p : Progress) (s : SeizeState) (a : Answer) → keys_in p ≡ None
    → StepRead (shown h s.members n s.epoch command.Keys (told_of a) p) (looked s reading (keys_told a))
keys_read h n reading p s (Ok (answer.Keys ks)) k = looked_read s reading (saw_from ks p) (Some ks) (saw_none ks p k)
keys_read h n reading p s (Ok answer.Good) k = k
keys_read h n reading p s (Ok answer.Conflict) k = k
keys_read h n reading p s (Ok answer.InvalidRelease) k = k
keys_read h n reading p s (Ok answer.NoPath) k = k
keys_read h n reading p s (Ok (answer.Holder holder)) k = k
keys_read h n reading p s (Ok (answer.Word w)) k = k
keys_read h n reading p s (Ok (answer.Value v)) k = k
keys_read h n reading p s (Ok (answer.Miscompare w)) k = k
keys_read h n reading p s (Err e) k = k

-- it has read the word of the attempt, and the keys that it saw last are seized
confirmed_keys : (h : Header) (members n : ℕ) (ks : List ℕ) (p : Progress) → keys_in p ≡ None → HasSeen h members n ks p
    → keys_in (confirmed_from h members n p) ≡ Some ks
confirmed_keys h members n ks p k (inl done) = absurd (no_truth (sym (ap is_some k) ∙ done))
confirmed_keys h members n ks p k (inr saw) =
    ap (λ z. keys_in (confirmed_from h members n z)) saw.0 ∙ ap keys_in (if_so (are_members_keys h members n ks) (Seized ks) (Saw ks) saw.1)

word_read : (h : Header) (n : ℕ) (ks : List ℕ) (p : Progress) (s : SeizeState) (a : Answer) → keys_in p ≡ None → HasSeen h s.members n ks p
    → StepRead (shown h s.members n s.epoch command.Word (told_of a) p) (confirmed s ks (word_told a))
word_read h n ks p s (Ok (answer.Word w)) k seen = by_test (w == s.epoch)
  where
    by_test : (b : Bool) → StepRead (if b then confirmed_from h s.members n p else p) (if b then step.Ended (Held ks) else step.Ended (Greater w))
    by_test true = confirmed_keys h s.members n ks p k seen
    by_test false = k
word_read h n ks p s (Ok (answer.Keys keys)) k seen = k
word_read h n ks p s (Ok answer.Good) k seen = k
word_read h n ks p s (Ok answer.Conflict) k seen = k
word_read h n ks p s (Ok answer.InvalidRelease) k seen = k
word_read h n ks p s (Ok answer.NoPath) k seen = k
word_read h n ks p s (Ok (answer.Holder holder)) k seen = k
word_read h n ks p s (Ok (answer.Value v)) k seen = k
word_read h n ks p s (Ok (answer.Miscompare w)) k seen = k
word_read h n ks p s (Err e) k seen = k

-- ---- each step

abbrev After : Header → ℕ → Progress → SeizeState → SeizeStep → Answer → PrCommand → Type 0
After h n p s next a k = StepRead (shown h s.members n s.epoch k (told_of a) p) (next_step s next a)

-- p is as at the beginning
at_begun : (h : Header) (n : ℕ) (p : Progress) (s : SeizeState) (next : SeizeStep) (a : Answer) (k : PrCommand) → p ≡ Begun → After h n Begun s next a k
    → After h n p s next a k
at_begun h n p s next a k is all = subst (λ z. After h n z s next a k) (sym is) all

pub step_read : (h : Header) (n : ℕ) (p : Progress) (s : SeizeState) (next : SeizeStep) (k : PrCommand) (a : Answer) → command_at s next ≡ Some k
    → StepSo h s.members n p next → StepRead p next → After h n p s next a k
step_read h n p s step.Check k a is so read =
    subst (After h n p s step.Check a) (same_some _ k is) (at_begun h n p s step.Check a command.Keys read (keys_begun h n s a))
step_read h n p s step.Register k a is so read =
    subst (After h n p s step.Register a) (same_some _ k is)
    (at_begun h n p s step.Register a (command.Ignore (own_key s)) read (if_either (StepRead Begun) (is_good a) step.ReadWord (step.Ended Fault) refl refl))
step_read h n p s step.ReadWord k a is so read =
    subst (After h n p s step.ReadWord a) (same_some _ k is) (at_begun h n p s step.ReadWord a command.Word read (word_begun h n s a))
step_read h n p s (step.Swap expected) k a is so read =
    subst (After h n p s (step.Swap expected) a) (same_some _ k is)
    (at_begun h n p s (step.Swap expected) a (command.Swap expected s.epoch) read (swapped_read s expected a))
step_read h n p s step.Reserve k a is so read =
    subst (λ z. After h n z s step.Reserve a k) (sym read)
    (subst (After h n Begun s step.Reserve a) (same_some _ k is)
    (if_either (StepRead Reserved) (is_good a || is_conflict a) (step.ReadKeys 1) (step.Ended Fault) refl refl))
step_read h n p s (step.ReadKeys reading) k a is so read =
    subst (After h n p s (step.ReadKeys reading) a) (same_some _ k is) (keys_read h n reading p s a read)
step_read h n p s (step.Preempt victim reading) k a is so read =
    subst (After h n p s (step.Preempt victim reading) a) (same_some _ k is)
    (if_either (StepRead p) (is_good a || is_conflict a) (step.ReadKeys (reading + 1)) (step.Ended Fault) read read)
step_read h n p s (step.Confirm ks) k a is so read =
    subst (After h n p s (step.Confirm ks) a) (same_some _ k is) (word_read h n ks p s a read so)
step_read h n p s (step.Ended result) k a is so read = absurd (none_some k is)
