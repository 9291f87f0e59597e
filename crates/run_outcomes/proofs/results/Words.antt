-- A seizing that takes the answer to a command of the word, or that takes none: what the line of the command shows.
use Rattle.std.specs.Prelude.{ℕ, ◌≡◌, ◌≤◌, ◌==◌, ◌&&◌, ◌||◌, not, nat_le, nat_lt, Bool, true, false, List, [], ◌∷◌, Option, None, Some, Ok, Err, if◌then◌else◌}
use Rattle.std.specs.List.{list_any}
use Rattle.std.proofs.Common.{refl, sym, ap, subst, ◌∙◌, arith}
use Rattle.attempt_laws.proofs.Told.{is_among}
use Rattle.cl_base.specs.Sets.{has}
use Rattle.cl_base.specs.declared.header.Header.{Header}
use Rattle.cl_base.specs.declared.seizing.SeizeEnd.TheVariants.{Fault, Greater, Held}
use Rattle.cmm_attempt.proofs.Basics.{if_either, same_some}
use Rattle.history.specs.Attempts.{shows_expelled, shows_fault, shows_word}
use Rattle.history.specs.Member.{members_of}
use Rattle.history.specs.Moment.{Moment, Told}
use Rattle.history.specs.Order.{since, somewhere}
use Rattle.history.specs.Seizing.{is_attempt}
use Rattle.history.specs.Setting.{nodes_of}
use Rattle.pgr_device.specs.declared.command.PrAnswer.{PrAnswer}
use Rattle.pgr_device.specs.declared.command.PrAnswer.TheVariants as answer
use Rattle.pgr_device.specs.declared.port.Failed.{Failed}
use Rattle.pgr_device.specs.declared.command.PrCommand.{PrCommand}
use Rattle.pgr_device.specs.declared.command.PrCommand.TheVariants as command
use Rattle.run_seizings.proofs.Progress.{no_truth, or_left, or_right, same_is}
use Rattle.run_seizings.proofs.Stages.{told_of}
use Rattle.run_seizings.specs.Seized.{Base}
use Rattle.seize.specs.Answers.{Answer, is_answer, word_told}
use Rattle.seize.specs.Seizing.{SeizeState, compared, confirmed, swapped}
use Rattle.seize.specs.declared.step.SeizeStep.{SeizeStep}
use Rattle.seize.specs.declared.step.SeizeStep.TheVariants as step
use Rattle.status_report.specs.declared.device_entry.DeviceEntry.TheVariants as device_entry
use Rattle.status_report.specs.declared.entry.Entry.TheVariants as entry
use Rattle.run_outcomes.proofs.results.Stays.{both_true}
use Rattle.run_outcomes.specs.results.Shown.{StepShown}

-- the line of a command
abbrev pub line : ℕ → ℕ → PrCommand → Answer → Moment
line n d k a = Told (entry.Device (device_entry.Command n d k (told_of a)))

-- what is told by a member is told by some
any_at : (f : ℕ → Bool) (n : ℕ) (ns : List ℕ) → list_any (λ m. m == n) ns ≡ true → f n ≡ true → list_any f ns ≡ true
any_at f n [] k here = absurd (no_truth k)
any_at f n (m ∷ ns) k here = by_test (m == n) refl k (λ rest. any_at f n ns rest here)
  where
    same : (a b : ℕ) → (a == b) ≡ true → a ≡ b
    same a b i = grind arith

    by_test : (b : Bool) → (m == n) ≡ b → (b || list_any (λ j. j == n) ns) ≡ true → (list_any (λ j. j == n) ns ≡ true → list_any f ns ≡ true) → list_any f (m ∷ ns) ≡ true
    by_test true is there rest = or_left (f m) (list_any f ns) (subst (λ z. f z ≡ true) (sym (same m n is)) here)
    by_test false is there rest = or_right (f m) (list_any f ns) (rest there)

three : (a b c : Bool) → a ≡ true → b ≡ true → c ≡ true → (a && b && c) ≡ true
three a b c i j k = both_true (a && b) c (both_true a b i j) k

pub four : (a b c d : Bool) → a ≡ true → b ≡ true → c ≡ true → d ≡ true → (a && b && c && d) ≡ true
four a b c d i j k l = both_true (a && b && c) d (three a b c i j k) l

pub two_same : (n d : ℕ) → ((n == n) && (d == d)) ≡ true
two_same n d = both_true (n == n) (d == d) (same_is n) (same_is d)

-- ---- what is known of the seizing of node n, which is a member

pub record Known (h : Header) (ms : List Moment) (n : ℕ) (s : SeizeState) : Type 0 where
  pub me : s.me ≡ n
  pub cluster : s.cluster ≡ h.cluster
  pub members : members_of s.epoch ms ≡ s.members
  pub member : list_any (λ m. m == n) (nodes_of (members_of s.epoch ms)) ≡ true

pub known_of : (h : Header) (ms : List Moment) (n q : ℕ) (s : SeizeState) → nat_le n 32 ≡ true → Base h ms n q s → Known h ms n s
known_of h ms n q s low b =
    let members : members_of s.epoch ms ≡ s.members = subst (λ e. members_of e ms ≡ s.members) (sym b.epoch) b.of.1 in
    record {
      me = b.me;
      cluster = b.cluster;
      members = members;
      member = subst (λ z. list_any (λ m. m == n) (nodes_of z) ≡ true) (sym members) (is_among s.members 32 n ∙ both_true (nat_le n 32) (has s.members n) low b.member);
    }

-- some member shows it by this line
pub shows : (h : Header) (ms : List Moment) (n : ℕ) (s : SeizeState) (x : Moment) (test : ℕ → List Moment → Moment → Bool) → Known h ms n s
    → test n (since (is_attempt s.epoch) ms) x ≡ true → list_any (λ m. somewhere (test m) (x ∷ since (is_attempt s.epoch) ms)) (nodes_of (members_of s.epoch ms)) ≡ true
shows h ms n s x test k is =
    any_at (λ m. somewhere (test m) (x ∷ since (is_attempt s.epoch) ms)) n (nodes_of (members_of s.epoch ms)) k.member
    (or_left (test n (since (is_attempt s.epoch) ms) x) (somewhere (test n) (since (is_attempt s.epoch) ms)) is)

-- ---- faults

-- the device gives no other answer to the command
abbrev pub Fits : PrCommand → Answer → Type 0
Fits k a = (z : PrAnswer) → a ≡ Ok z → is_answer k z ≡ true

abbrev pub Faulty : Header → List Moment → ℕ → ℕ → PrCommand → Answer → SeizeState → Type 0
Faulty h ms n d k a s = StepShown h (line n d k a ∷ ms) n s.epoch d (step.Ended Fault)

pub lost : (h : Header) (ms : List Moment) (n d : ℕ) (k : PrCommand) (e : Failed) (s : SeizeState) → Known h ms n s → Faulty h ms n d k (Err e) s
lost h ms n d k e s known = shows h ms n s (line n d k (Err e)) (λ m. shows_fault d m) known (two_same n d)

pub odd : (h : Header) (ms : List Moment) (n d : ℕ) (k : PrCommand) (z : PrAnswer) (s : SeizeState) → Fits k (Ok z) → is_answer k z ≡ false → Faulty h ms n d k (Ok z) s
odd h ms n d k z s fine bad = absurd (no_truth (sym bad ∙ fine z refl))

-- where the answer is taken, it passes the test
pub taken_or : (h : Header) (ms : List Moment) (n d : ℕ) (k : PrCommand) (a : Answer) (s : SeizeState) (test : Bool) (next : SeizeStep) → Known h ms n s → Fits k a
    → ((z : PrAnswer) → a ≡ Ok z → is_answer k z ≡ true → test ≡ true) → StepShown h (line n d k a ∷ ms) n s.epoch d next
    → StepShown h (line n d k a ∷ ms) n s.epoch d (if test then next else step.Ended Fault)
taken_or h ms n d k (Ok z) s test next known fine passes so =
    subst (λ b. StepShown h (line n d k (Ok z) ∷ ms) n s.epoch d (if b then next else step.Ended Fault)) (sym (passes z refl (fine z refl))) so
taken_or h ms n d k (Err e) s test next known fine passes so =
    if_either (StepShown h (line n d k (Err e) ∷ ms) n s.epoch d) test next (step.Ended Fault) so (lost h ms n d k e s known)

-- ---- words

greater : (w e : ℕ) → nat_lt w e ≡ false → (w == e) ≡ false → nat_lt e w ≡ true
greater w e i j = grind arith

above : (w e : ℕ) → e ≤ w → (w == e) ≡ false → nat_lt e w ≡ true
above w e i j = grind arith

-- a word that is compared is the one that the line tells
compared_shown : (h : Header) (ms : List Moment) (n d : ℕ) (k : PrCommand) (a : Answer) (s : SeizeState) (o : Option ℕ) → Known h ms n s → (o ≡ None → Faulty h ms n d k a s)
    → ((w : ℕ) → o ≡ Some w → shows_word d w n (since (is_attempt s.epoch) ms) (line n d k a) ≡ true) → StepShown h (line n d k a ∷ ms) n s.epoch d (compared s o)
compared_shown h ms n d k a s None known none tells = none refl
compared_shown h ms n d k a s (Some word) known none tells = by_less (nat_lt word s.epoch) refl
  where
    by_same : (b : Bool) → (word == s.epoch) ≡ b → nat_lt word s.epoch ≡ false → StepShown h (line n d k a ∷ ms) n s.epoch d (if b then step.Reserve else step.Ended (Greater word))
    by_same true same no_less = tt
    by_same false other no_less =
        both_true (nat_lt s.epoch word) _ (greater word s.epoch no_less other) (shows h ms n s (line n d k a) (λ m. shows_word d word m) known (tells word refl))

    by_less : (b : Bool) → nat_lt word s.epoch ≡ b
        → StepShown h (line n d k a ∷ ms) n s.epoch d (if b then step.Swap word else if word == s.epoch then step.Reserve else step.Ended (Greater word))
    by_less true less = tt
    by_less false no_less = by_same (word == s.epoch) refl no_less

word_is : (n d w v : ℕ) → w ≡ v → ((n == n) && (d == d) && (w == v)) ≡ true
word_is n d w v same = three (n == n) (d == d) (w == v) (same_is n) (same_is d) (subst (λ z. (w == z) ≡ true) same (same_is w))

some_none : {X : Type 0} (x : X) → Some x ≡ None → ⊥
some_none x e = cc

pub word_shown : (h : Header) (ms : List Moment) (n d : ℕ) (a : Answer) (s : SeizeState) → Known h ms n s → Fits command.Word a
    → StepShown h (line n d command.Word a ∷ ms) n s.epoch d (compared s (word_told a))
word_shown h ms n d (Ok (answer.Word w)) s known fine =
    compared_shown h ms n d command.Word (Ok (answer.Word w)) s (Some w) known (λ is. absurd (some_none w is)) (λ v is. word_is n d w v (same_some w v is))
word_shown h ms n d (Ok (answer.Keys ks)) s known fine = odd h ms n d command.Word (answer.Keys ks) s fine refl
word_shown h ms n d (Ok answer.Good) s known fine = odd h ms n d command.Word answer.Good s fine refl
word_shown h ms n d (Ok answer.Conflict) s known fine = odd h ms n d command.Word answer.Conflict s fine refl
word_shown h ms n d (Ok answer.InvalidRelease) s known fine = odd h ms n d command.Word answer.InvalidRelease s fine refl
word_shown h ms n d (Ok answer.NoPath) s known fine = odd h ms n d command.Word answer.NoPath s fine refl
word_shown h ms n d (Ok (answer.Holder holder)) s known fine = odd h ms n d command.Word (answer.Holder holder) s fine refl
word_shown h ms n d (Ok (answer.Value v)) s known fine = odd h ms n d command.Word (answer.Value v) s fine refl
word_shown h ms n d (Ok (answer.Miscompare w)) s known fine = odd h ms n d command.Word (answer.Miscompare w) s fine refl
word_shown h ms n d (Err e) s known fine = lost h ms n d command.Word e s known

pub swap_shown : (h : Header) (ms : List Moment) (n d expected : ℕ) (a : Answer) (s : SeizeState) → Known h ms n s → Fits (command.Swap expected s.epoch) a
    → StepShown h (line n d (command.Swap expected s.epoch) a ∷ ms) n s.epoch d (swapped s expected a)
swap_shown h ms n d expected (Ok (answer.Miscompare w)) s known fine = by_test (w == expected) refl
  where
    by_test : (b : Bool) → (w == expected) ≡ b
        → StepShown h (line n d (command.Swap expected s.epoch) (Ok (answer.Miscompare w)) ∷ ms) n s.epoch d (compared s (if b then None else Some w))
    by_test true same = odd h ms n d (command.Swap expected s.epoch) (answer.Miscompare w) s fine (ap not same)
    by_test false other =
        compared_shown h ms n d (command.Swap expected s.epoch) (Ok (answer.Miscompare w)) s (Some w) known (λ is. absurd (some_none w is))
        (λ v is. word_is n d w v (same_some w v is))
swap_shown h ms n d expected (Ok answer.Conflict) s known fine =
    shows h ms n s (line n d (command.Swap expected s.epoch) (Ok answer.Conflict)) (λ m. shows_expelled h d m) known (two_same n d)
swap_shown h ms n d expected (Ok answer.Good) s known fine = tt
swap_shown h ms n d expected (Ok (answer.Keys ks)) s known fine = odd h ms n d (command.Swap expected s.epoch) (answer.Keys ks) s fine refl
swap_shown h ms n d expected (Ok answer.InvalidRelease) s known fine = odd h ms n d (command.Swap expected s.epoch) answer.InvalidRelease s fine refl
swap_shown h ms n d expected (Ok answer.NoPath) s known fine = odd h ms n d (command.Swap expected s.epoch) answer.NoPath s fine refl
swap_shown h ms n d expected (Ok (answer.Holder holder)) s known fine = odd h ms n d (command.Swap expected s.epoch) (answer.Holder holder) s fine refl
swap_shown h ms n d expected (Ok (answer.Word w)) s known fine = odd h ms n d (command.Swap expected s.epoch) (answer.Word w) s fine refl
swap_shown h ms n d expected (Ok (answer.Value v)) s known fine = odd h ms n d (command.Swap expected s.epoch) (answer.Value v) s fine refl
swap_shown h ms n d expected (Err e) s known fine = lost h ms n d (command.Swap expected s.epoch) e s known

-- the word that is read last is no smaller than the number of the attempt
abbrev pub IsHigh : SeizeState → Answer → Type 0
IsHigh s a = (ks : List ℕ) (w : ℕ) → s.step ≡ step.Confirm ks → a ≡ Ok (answer.Word w) → s.epoch ≤ w

pub confirm_shown : (h : Header) (ms : List Moment) (n d : ℕ) (ks : List ℕ) (a : Answer) (s : SeizeState) → Known h ms n s → Fits command.Word a → ((w : ℕ) → a ≡ Ok (answer.Word w) → s.epoch ≤ w)
    → StepShown h (line n d command.Word a ∷ ms) n s.epoch d (confirmed s ks (word_told a))
confirm_shown h ms n d ks (Ok (answer.Word w)) s known fine high = by_test (w == s.epoch) refl
  where
    by_test : (b : Bool) → (w == s.epoch) ≡ b
        → StepShown h (line n d command.Word (Ok (answer.Word w)) ∷ ms) n s.epoch d (if b then step.Ended (Held ks) else step.Ended (Greater w))
    by_test true same = tt
    by_test false other =
        both_true (nat_lt s.epoch w) _ (above w s.epoch (high w refl) other)
        (shows h ms n s (line n d command.Word (Ok (answer.Word w))) (λ m. shows_word d w m) known (word_is n d w w refl))
confirm_shown h ms n d ks (Ok (answer.Keys seen)) s known fine high = odd h ms n d command.Word (answer.Keys seen) s fine refl
confirm_shown h ms n d ks (Ok answer.Good) s known fine high = odd h ms n d command.Word answer.Good s fine refl
confirm_shown h ms n d ks (Ok answer.Conflict) s known fine high = odd h ms n d command.Word answer.Conflict s fine refl
confirm_shown h ms n d ks (Ok answer.InvalidRelease) s known fine high = odd h ms n d command.Word answer.InvalidRelease s fine refl
confirm_shown h ms n d ks (Ok answer.NoPath) s known fine high = odd h ms n d command.Word answer.NoPath s fine refl
confirm_shown h ms n d ks (Ok (answer.Holder holder)) s known fine high = odd h ms n d command.Word (answer.Holder holder) s fine refl
confirm_shown h ms n d ks (Ok (answer.Value v)) s known fine high = odd h ms n d command.Word (answer.Value v) s fine refl
confirm_shown h ms n d ks (Ok (answer.Miscompare w)) s known fine high = odd h ms n d command.Word (answer.Miscompare w) s fine refl
confirm_shown h ms n d ks (Err e) s known fine high = lost h ms n d command.Word e s known
