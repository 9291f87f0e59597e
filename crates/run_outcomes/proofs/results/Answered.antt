-- A seizing that takes the answer to its command is as far as the line of the command shows; where it ends by the answer, the line shows how.
use Rattle.std.specs.Prelude.{ℕ, ◌+◌, ◌-◌, ◌*◌, ◌^◌, ◌≡◌, ◌<◌, ◌≤◌, ◌⊎◌, ◌==◌, ◌&&◌, ◌||◌, not, nat_le, nat_lt, Bool, true, false, List, [], ◌∷◌, Option, None, Some, find, Ok, Err, if◌then◌else◌}
use Rattle.std.specs.List.{AllByRecursion, count_by, list_any}
use Rattle.std.proofs.Common.{refl, sym, ap, subst, ◌∙◌, arith, inl, inr}
use Rattle.attempt_laws.proofs.Told.{is_among}
use Rattle.cl_base.specs.Keys as keys
use Rattle.cl_base.specs.Sets.{has}
use Rattle.cl_base.specs.declared.header.Header.{Header}
use Rattle.cl_base.specs.declared.seizing.SeizeEnd.TheVariants.{Contended, Expelled, NotRegistered}
use Rattle.cmm_attempt.proofs.Basics.{none_some, same_some}
use Rattle.history.specs.Attempts.{is_unregistered, lacks_key, reads_keys, reads_without, reserves, shows_contended, shows_expelled, some_member}
use Rattle.history.specs.Member.{members_of}
use Rattle.history.specs.Moment.{Moment}
use Rattle.history.specs.Order.{since, somewhere}
use Rattle.history.specs.Seizing.{is_attempt, is_members_key, is_number}
use Rattle.history.specs.Setting.{key_of, nodes_of}
use Rattle.pgr_device.specs.declared.command.PrAnswer.{PrAnswer}
use Rattle.pgr_device.specs.declared.command.PrAnswer.TheVariants as answer
use Rattle.pgr_device.specs.declared.command.PrCommand.{PrCommand}
use Rattle.pgr_device.specs.declared.command.PrCommand.TheVariants as command
use Rattle.pgr_device.specs.declared.kind.PrKind.{PrKind}
use Rattle.pgr_device.specs.declared.kind.PrKind.TheVariants.{WriteExclusiveRegistrantsOnly}
use Rattle.run_seizings.proofs.Progress.{no_truth, or_left, or_right, same_is}
use Rattle.run_seizings.proofs.Stages.{AreOwn, IsOwn}
use Rattle.run_seizings.specs.Seized.{Base}
use Rattle.seize.specs.Answers.{Answer, is_answer, is_conflict, is_good, keys_told}
use Rattle.seize.specs.Keys.{first_stranger, has_key, is_key_of, node_of}
use Rattle.seize.specs.Seizing.{SeizeState, checked, cleared, command_at, looked, next_step, own_key}
use Rattle.seize.specs.declared.step.SeizeStep.{SeizeStep}
use Rattle.seize.specs.declared.step.SeizeStep.TheVariants as step
use Rattle.run_outcomes.proofs.results.Held.{barred_stays}
use Rattle.run_outcomes.proofs.results.Stays.{both_true, count_skips, count_takes}
use Rattle.run_outcomes.specs.results.Tried.{AreRead, Tried, Unheld, is_unheld}
use Rattle.run_history.specs.WorldLines.{IsDevice}
use Rattle.attempt_laws.proofs.Walk.{if_with}
use Rattle.run_outcomes.specs.results.Shown.{StepShown, readings}
use Rattle.run_outcomes.proofs.results.Words.{Fits, IsHigh, Known, confirm_shown, four, known_of, line, lost, odd, shows, swap_shown, taken_or, two_same, word_shown}

-- ---- keys

-- of a node's key both tests say the same
same_keys : (a b c : ℕ) → ((a + b) == (a + c)) ≡ (b == c)
same_keys a b c = grind arith

any_same : (cluster n : ℕ) (ns : List ℕ) → list_any (λ m. keys.key_of cluster m == keys.key_of cluster n) ns ≡ list_any (λ m. m == n) ns
any_same cluster n [] = refl
any_same cluster n (m ∷ ns) =
    ap (λ b. b || list_any (λ j. keys.key_of cluster j == keys.key_of cluster n) ns) (same_keys (cluster * 2 ^ 32) m n) ∙ ap (λ b. (m == n) || b) (any_same cluster n ns)

and_first : (b c : Bool) → b ≡ true → (b && c) ≡ c
and_first true c k = refl
and_first false c k = absurd (no_truth k)

node_again : (cluster n : ℕ) → node_of cluster (keys.key_of cluster n) ≡ n
node_again cluster n = lift (cluster * 2 ^ 32) n
  where
    lift : (a b : ℕ) → (a + b) - a ≡ b
    lift a b = omega arith

members_key : (h : Header) (members key : ℕ) → IsOwn h.cluster key → is_members_key h members key ≡ is_key_of h.cluster members key
members_key h members key own =
    subst (λ z. list_any (λ m. key_of h m == z) (nodes_of members) ≡ has members (node_of h.cluster z)) (sym own.is)
    (any_same h.cluster own.node (nodes_of members)
    ∙ (is_among members 32 own.node ∙ (and_first (nat_le own.node 32) (has members own.node) own.high ∙ ap (λ z. has members z) (sym (node_again h.cluster own.node)))))

found_same : (p q : ℕ → Bool) (ks : List ℕ) → AllByRecursion (λ k. p k ≡ q k) ks → find p ks ≡ find q ks
found_same p q [] all = refl
found_same p q (k ∷ ks) all = ap (λ b. if b then Some k else find p ks) all.0 ∙ ap (λ o. if q k then Some k else o) (found_same p q ks all.1)

all_same : (h : Header) (members : ℕ) (ks : List ℕ) → AreOwn h.cluster ks → AllByRecursion (λ k. not (is_members_key h members k) ≡ not (is_key_of h.cluster members k)) ks
all_same h members [] own = tt
all_same h members (k ∷ ks) own = (ap not (members_key h members k own.0), all_same h members ks own.1)

-- the first key of no member is found by either test
stranger_is : (h : Header) (cluster members key : ℕ) (ks : List ℕ) → cluster ≡ h.cluster → AreOwn h.cluster ks → first_stranger cluster members ks ≡ Some key
    → is_number key (find (λ k. not (is_members_key h members k)) ks) ≡ true
stranger_is h cluster members key ks at own is =
    ap (λ o. is_number key o)
    (found_same (λ k. not (is_members_key h members k)) (λ k. not (is_key_of h.cluster members k)) ks (all_same h members ks own)
    ∙ (ap (λ z. find (λ k. not (is_key_of z members k)) ks) (sym at) ∙ is)) ∙ same_is key

lacks_own : (h : Header) (n : ℕ) (s : SeizeState) (ks : List ℕ) → s.cluster ≡ h.cluster → s.me ≡ n → has_key (own_key s) ks ≡ false → lacks_key h n ks ≡ true
lacks_own h n s ks at me none =
    subst (λ z. not (list_any (λ key. key == keys.key_of z n) ks) ≡ true) at
    (subst (λ z. not (list_any (λ key. key == keys.key_of s.cluster z) ks) ≡ true) me (ap not none))

last_count : (k reading : ℕ) → k + 1 ≡ reading → reading ≤ 64 → nat_lt reading 64 ≡ false → (k == 63) ≡ true
last_count k reading i j l = grind arith

less_so : (reading : ℕ) → nat_lt reading 64 ≡ true → reading < 64
less_so reading i = grind arith

looked_shown : (h : Header) (ms : List Moment) (n d reading : ℕ) (ks : List ℕ) (s : SeizeState) → Known h ms n s → AreOwn h.cluster ks
    → StepShown h ms n s.epoch d (step.ReadKeys reading) → StepShown h (line n d command.Keys (Ok (answer.Keys ks)) ∷ ms) n s.epoch d (looked s reading (Some ks))
looked_shown h ms n d reading ks s known own k = by_own (has_key (own_key s) ks) refl
  where
    now : List Moment
    now = since (is_attempt s.epoch) ms

    x : Moment
    x = line n d command.Keys (Ok (answer.Keys ks))

    contended : (key : ℕ) → first_stranger s.cluster s.members ks ≡ Some key → nat_lt reading 64 ≡ false
        → list_any (λ m. somewhere (shows_contended h (members_of s.epoch ms) d key m) (x ∷ now)) (nodes_of (members_of s.epoch ms)) ≡ true
    contended key found last =
        shows h ms n s x (λ m. shows_contended h (members_of s.epoch ms) d key m) known
        (four (n == n) (d == d) (is_number key (find (λ j. not (is_members_key h (members_of s.epoch ms) j)) ks)) (readings n d now == 63) (same_is n) (same_is d)
        (stranger_is h s.cluster (members_of s.epoch ms) key ks known.cluster own (subst (λ z. first_stranger s.cluster z ks ≡ Some key) (sym known.members) found))
        (last_count (readings n d now) reading k.1 k.2 last))

    by_less : (key : ℕ) (b : Bool) → nat_lt reading 64 ≡ b → first_stranger s.cluster s.members ks ≡ Some key
        → StepShown h (x ∷ ms) n s.epoch d (if b then step.Preempt key reading else step.Ended (Contended key))
    by_less key true less found = (
      or_right (reserves n d x) (list_any (reserves n d) now) k.0,
      count_takes (reads_keys n d) x (since (reserves n d) now) (two_same n d) ∙ k.1,
      less_so reading less,
    )
    by_less key false last found = contended key found last

    by_stranger : (o : Option ℕ) → first_stranger s.cluster s.members ks ≡ o → StepShown h (x ∷ ms) n s.epoch d (cleared ks reading o)
    by_stranger None found = tt
    by_stranger (Some key) found = by_less key (nat_lt reading 64) refl found

    by_own : (b : Bool) → has_key (own_key s) ks ≡ b
        → StepShown h (x ∷ ms) n s.epoch d (if b then cleared ks reading (first_stranger s.cluster s.members ks) else step.Ended Expelled)
    by_own true is = by_stranger (first_stranger s.cluster s.members ks) refl
    by_own false none =
        shows h ms n s x (λ m. shows_expelled h d m) known
        (four (n == n) (d == d) (lacks_key h n ks) (list_any (reserves n d) now) (same_is n) (same_is d) (lacks_own h n s ks known.cluster known.me none) k.0)

keys_shown : (h : Header) (ms : List Moment) (n d reading : ℕ) (a : Answer) (s : SeizeState) → Known h ms n s → Fits command.Keys a
    → ((ks : List ℕ) → a ≡ Ok (answer.Keys ks) → AreOwn h.cluster ks) → StepShown h ms n s.epoch d (step.ReadKeys reading)
    → StepShown h (line n d command.Keys a ∷ ms) n s.epoch d (looked s reading (keys_told a))
keys_shown h ms n d reading (Ok (answer.Keys ks)) s known fine own k = looked_shown h ms n d reading ks s known (own ks refl) k
keys_shown h ms n d reading (Ok answer.Good) s known fine own k = odd h ms n d command.Keys answer.Good s fine refl
keys_shown h ms n d reading (Ok answer.Conflict) s known fine own k = odd h ms n d command.Keys answer.Conflict s fine refl
keys_shown h ms n d reading (Ok answer.InvalidRelease) s known fine own k = odd h ms n d command.Keys answer.InvalidRelease s fine refl
keys_shown h ms n d reading (Ok answer.NoPath) s known fine own k = odd h ms n d command.Keys answer.NoPath s fine refl
keys_shown h ms n d reading (Ok (answer.Holder holder)) s known fine own k = odd h ms n d command.Keys (answer.Holder holder) s fine refl
keys_shown h ms n d reading (Ok (answer.Word w)) s known fine own k = odd h ms n d command.Keys (answer.Word w) s fine refl
keys_shown h ms n d reading (Ok (answer.Value v)) s known fine own k = odd h ms n d command.Keys (answer.Value v) s fine refl
keys_shown h ms n d reading (Ok (answer.Miscompare w)) s known fine own k = odd h ms n d command.Keys (answer.Miscompare w) s fine refl
keys_shown h ms n d reading (Err e) s known fine own k = lost h ms n d command.Keys e s known

-- the keys are not as a seizing for votes asks them: the own is not among them, or the device was not valid
unregistered : (h : Header) (ms : List Moment) (n d : ℕ) (ks : List ℕ) (s : SeizeState) → Known h ms n s → Unheld h s.epoch d ms n s.valid → (has_key (own_key s) ks && s.valid) ≡ false
    → Tried h s.epoch d (line n d command.Keys (Ok (answer.Keys ks)) ∷ ms) n ks
unregistered h ms n d ks s known held bad = record { read = read; without = λ is. by_case (and_not (has_key (own_key s) ks) s.valid bad) is }
  where
    x : Moment
    x = line n d command.Keys (Ok (answer.Keys ks))

    read : AreRead h s.epoch d (x ∷ ms) ks
    read m lacks = shows h ms n s x (λ reader. reads_without h d m reader) known (both_true ((n == n) && (d == d)) (lacks_key h m ks) (two_same n d) lacks)

    and_not : (a b : Bool) → (a && b) ≡ false → (a ≡ false) ⊎ (b ≡ false)
    and_not true b k = inr k
    and_not false b k = inl refl

    by_case : (has_key (own_key s) ks ≡ false) ⊎ (s.valid ≡ false) → IsDevice h d → is_unregistered h s.epoch d (x ∷ ms) n ≡ true
    by_case (inl none) is =
        or_right (is_unheld h s.epoch d (x ∷ ms) n) (some_member s.epoch (x ∷ ms) (reads_without h d n)) (read n (lacks_own h n s ks known.cluster known.me none))
    by_case (inr none) is =
        or_left (is_unheld h s.epoch d (x ∷ ms) n) (some_member s.epoch (x ∷ ms) (reads_without h d n)) (barred_stays h s.epoch d n x ms tt (held is none)).unheld

check_shown : (h : Header) (ms : List Moment) (n d : ℕ) (a : Answer) (s : SeizeState) → Known h ms n s → Unheld h s.epoch d ms n s.valid → Fits command.Keys a
    → StepShown h (line n d command.Keys a ∷ ms) n s.epoch d (checked s (keys_told a))
check_shown h ms n d (Ok (answer.Keys ks)) s known held fine =
    if_with (StepShown h (line n d command.Keys (Ok (answer.Keys ks)) ∷ ms) n s.epoch d) (has_key (own_key s) ks && s.valid) (has_key (own_key s) ks && s.valid) step.ReadWord
    (step.Ended (NotRegistered ks)) refl (λ good. tt) (λ bad. unregistered h ms n d ks s known held bad)
check_shown h ms n d (Ok answer.Good) s known held fine = odd h ms n d command.Keys answer.Good s fine refl
check_shown h ms n d (Ok answer.Conflict) s known held fine = odd h ms n d command.Keys answer.Conflict s fine refl
check_shown h ms n d (Ok answer.InvalidRelease) s known held fine = odd h ms n d command.Keys answer.InvalidRelease s fine refl
check_shown h ms n d (Ok answer.NoPath) s known held fine = odd h ms n d command.Keys answer.NoPath s fine refl
check_shown h ms n d (Ok (answer.Holder holder)) s known held fine = odd h ms n d command.Keys (answer.Holder holder) s fine refl
check_shown h ms n d (Ok (answer.Word w)) s known held fine = odd h ms n d command.Keys (answer.Word w) s fine refl
check_shown h ms n d (Ok (answer.Value v)) s known held fine = odd h ms n d command.Keys (answer.Value v) s fine refl
check_shown h ms n d (Ok (answer.Miscompare w)) s known held fine = odd h ms n d command.Keys (answer.Miscompare w) s fine refl
check_shown h ms n d (Err e) s known held fine = lost h ms n d command.Keys e s known

-- ---- what is taken

registers : (key : ℕ) (a : Answer) (z : PrAnswer) → a ≡ Ok z → is_answer (command.Ignore key) z ≡ true → is_good a ≡ true
registers key a answer.Good is k = ap is_good is
registers key a answer.Conflict is k = absurd (no_truth k)
registers key a (answer.Keys ks) is k = absurd (no_truth k)
registers key a answer.InvalidRelease is k = absurd (no_truth k)
registers key a answer.NoPath is k = absurd (no_truth k)
registers key a (answer.Holder holder) is k = absurd (no_truth k)
registers key a (answer.Word w) is k = absurd (no_truth k)
registers key a (answer.Value v) is k = absurd (no_truth k)
registers key a (answer.Miscompare w) is k = absurd (no_truth k)

reserves_so : (kind : PrKind) (key : ℕ) (a : Answer) (z : PrAnswer) → a ≡ Ok z → is_answer (command.Reserve kind key) z ≡ true → (is_good a || is_conflict a) ≡ true
reserves_so kind key a answer.Good is k = ap (λ y. is_good y || is_conflict y) is
reserves_so kind key a answer.Conflict is k = ap (λ y. is_good y || is_conflict y) is
reserves_so kind key a (answer.Keys ks) is k = absurd (no_truth k)
reserves_so kind key a answer.InvalidRelease is k = absurd (no_truth k)
reserves_so kind key a answer.NoPath is k = absurd (no_truth k)
reserves_so kind key a (answer.Holder holder) is k = absurd (no_truth k)
reserves_so kind key a (answer.Word w) is k = absurd (no_truth k)
reserves_so kind key a (answer.Value v) is k = absurd (no_truth k)
reserves_so kind key a (answer.Miscompare w) is k = absurd (no_truth k)

preempts_so : (kind : PrKind) (key victim : ℕ) (a : Answer) (z : PrAnswer) → a ≡ Ok z → is_answer (command.Preempt kind key victim) z ≡ true → (is_good a || is_conflict a) ≡ true
preempts_so kind key victim a answer.Good is k = ap (λ y. is_good y || is_conflict y) is
preempts_so kind key victim a answer.Conflict is k = ap (λ y. is_good y || is_conflict y) is
preempts_so kind key victim a (answer.Keys ks) is k = absurd (no_truth k)
preempts_so kind key victim a answer.InvalidRelease is k = absurd (no_truth k)
preempts_so kind key victim a answer.NoPath is k = absurd (no_truth k)
preempts_so kind key victim a (answer.Holder holder) is k = absurd (no_truth k)
preempts_so kind key victim a (answer.Word w) is k = absurd (no_truth k)
preempts_so kind key victim a (answer.Value v) is k = absurd (no_truth k)
preempts_so kind key victim a (answer.Miscompare w) is k = absurd (no_truth k)

-- ---- readings

reserved_shown : (h : Header) (ms : List Moment) (n d : ℕ) (a : Answer) (s : SeizeState) (kind : PrKind) (key : ℕ)
    → StepShown h (line n d (command.Reserve kind key) a ∷ ms) n s.epoch d (step.ReadKeys 1)
reserved_shown h ms n d a s kind key = (
  or_left (reserves n d x) (list_any (reserves n d) now) (two_same n d),
  ap (λ b. count_by (reads_keys n d) (if b then [] else x ∷ since (reserves n d) now) + 1) (two_same n d),
  first,
)
  where
    now : List Moment
    now = since (is_attempt s.epoch) ms

    x : Moment
    x = line n d (command.Reserve kind key) a

    first : 1 ≤ 64
    first = omega arith

once_more : (k : ℕ) → k < 64 → k + 1 ≤ 64
once_more k i = omega (arith, i)

preempted_shown : (h : Header) (ms : List Moment) (n d reading victim : ℕ) (a : Answer) (s : SeizeState) (kind : PrKind) (key other : ℕ) → StepShown h ms n s.epoch d (step.Preempt victim reading)
    → StepShown h (line n d (command.Preempt kind key other) a ∷ ms) n s.epoch d (step.ReadKeys (reading + 1))
preempted_shown h ms n d reading victim a s kind key other k = (
  or_right (reserves n d x) (list_any (reserves n d) now) k.0,
  ap (λ z. z + 1) (count_skips (reads_keys n d) x (since (reserves n d) now) refl ∙ k.1),
  once_more reading k.2,
)
  where
    now : List Moment
    now = since (is_attempt s.epoch) ms

    x : Moment
    x = line n d (command.Preempt kind key other) a

-- ---- each step

abbrev After : Header → List Moment → ℕ → ℕ → SeizeState → SeizeStep → Answer → PrCommand → Type 0
After h ms n d s next a k = StepShown h (line n d k a ∷ ms) n s.epoch d (next_step s next a)

step_shown : (h : Header) (ms : List Moment) (n d : ℕ) (s : SeizeState) (next : SeizeStep) (k : PrCommand) (a : Answer) → command_at s next ≡ Some k → Known h ms n s
    → Unheld h s.epoch d ms n s.valid → Fits k a
    → (k ≡ command.Keys → (ks : List ℕ) → a ≡ Ok (answer.Keys ks) → AreOwn h.cluster ks) → ((ks : List ℕ) (w : ℕ) → next ≡ step.Confirm ks → a ≡ Ok (answer.Word w) → s.epoch ≤ w)
    → StepShown h ms n s.epoch d next → After h ms n d s next a k
step_shown h ms n d s step.Check k a is known held fine own high so =
    subst (After h ms n d s step.Check a) (same_some _ k is) (check_shown h ms n d a s known held (subst (λ j. Fits j a) (sym (same_some _ k is)) fine))
step_shown h ms n d s step.Register k a is known held fine own high so =
    subst (After h ms n d s step.Register a) (same_some _ k is)
    (taken_or h ms n d (command.Ignore (own_key s)) a s (is_good a) step.ReadWord known (subst (λ j. Fits j a) (sym (same_some _ k is)) fine) (registers (own_key s) a) tt)
step_shown h ms n d s step.ReadWord k a is known held fine own high so =
    subst (After h ms n d s step.ReadWord a) (same_some _ k is) (word_shown h ms n d a s known (subst (λ j. Fits j a) (sym (same_some _ k is)) fine))
step_shown h ms n d s (step.Swap expected) k a is known held fine own high so =
    subst (After h ms n d s (step.Swap expected) a) (same_some _ k is) (swap_shown h ms n d expected a s known (subst (λ j. Fits j a) (sym (same_some _ k is)) fine))
step_shown h ms n d s step.Reserve k a is known held fine own high so =
    subst (After h ms n d s step.Reserve a) (same_some _ k is)
    (taken_or h ms n d (command.Reserve WriteExclusiveRegistrantsOnly (own_key s)) a s (is_good a || is_conflict a) (step.ReadKeys 1) known
    (subst (λ j. Fits j a) (sym (same_some _ k is)) fine) (reserves_so WriteExclusiveRegistrantsOnly (own_key s) a) (reserved_shown h ms n d a s WriteExclusiveRegistrantsOnly (own_key s)))
step_shown h ms n d s (step.ReadKeys reading) k a is known held fine own high so =
    subst (After h ms n d s (step.ReadKeys reading) a) (same_some _ k is)
    (keys_shown h ms n d reading a s known (subst (λ j. Fits j a) (sym (same_some _ k is)) fine) (own (sym (same_some _ k is))) so)
step_shown h ms n d s (step.Preempt victim reading) k a is known held fine own high so =
    subst (After h ms n d s (step.Preempt victim reading) a) (same_some _ k is)
    (taken_or h ms n d (command.Preempt WriteExclusiveRegistrantsOnly (own_key s) victim) a s (is_good a || is_conflict a) (step.ReadKeys (reading + 1)) known
    (subst (λ j. Fits j a) (sym (same_some _ k is)) fine) (preempts_so WriteExclusiveRegistrantsOnly (own_key s) victim a)
    (preempted_shown h ms n d reading victim a s WriteExclusiveRegistrantsOnly (own_key s) victim so))
step_shown h ms n d s (step.Confirm ks) k a is known held fine own high so =
    subst (After h ms n d s (step.Confirm ks) a) (same_some _ k is)
    (confirm_shown h ms n d ks a s known (subst (λ j. Fits j a) (sym (same_some _ k is)) fine) (λ w told. high ks w refl told))
step_shown h ms n d s (step.Ended result) k a is known held fine own high so = absurd (none_some k is)

-- the seizing of session q
pub seizing_shown : (h : Header) (ms : List Moment) (n q d : ℕ) (s : SeizeState) (k : PrCommand) (a : Answer) → nat_le n 32 ≡ true → command_at s s.step ≡ Some k → Base h ms n q s
    → Unheld h q d ms n s.valid → Fits k a
    → (k ≡ command.Keys → (ks : List ℕ) → a ≡ Ok (answer.Keys ks) → AreOwn h.cluster ks) → IsHigh s a → StepShown h ms n q d s.step
    → StepShown h (line n d k a ∷ ms) n q d (next_step s s.step a)
seizing_shown h ms n q d s k a low is b held fine own high so =
    subst (λ e. StepShown h (line n d k a ∷ ms) n e d (next_step s s.step a)) b.epoch
    (step_shown h ms n d s s.step k a is (known_of h ms n q s low b) (subst (λ e. Unheld h e d ms n s.valid) (sym b.epoch) held) fine own high (subst (λ e. StepShown h ms n e d s.step) (sym b.epoch) so))
