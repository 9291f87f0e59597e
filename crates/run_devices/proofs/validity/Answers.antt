-- What the line of a command tells of valid devices, by the task whose command it is.
use Rattle.std.specs.Prelude.{ℕ, ◌≡◌, ◌<◌, ◌≤◌, ◌⊎◌, ◌==◌, ◌&&◌, not, Bool, true, false, List, ◌∷◌, Option, None, Some, Ok, Err, if◌then◌else◌}
use Rattle.std.specs.List.{list_any}
use Rattle.std.specs.Option.{option_and_then}
use Rattle.std.proofs.Common.{refl, sym, ap, subst, ◌∙◌, inl, inr, arith}
use Rattle.attempt_laws.proofs.Walk.{if_with}
use Rattle.cl_base.specs.Keys as keys
use Rattle.cl_base.specs.Sets.{has, set_with}
use Rattle.cl_base.specs.declared.header.Header.{Header}
use Rattle.cluster_ties.proofs.Commands.{has_new, has_same}
use Rattle.cmm_attempt.proofs.Basics.{and_cases, none_some, same_number, same_some}
use Rattle.cmm_member.specs.Records.{NodeRecord}
use Rattle.device_queue.specs.Queue as queue
use Rattle.device_queue.specs.Queue.{begins_plainly, progress_after}
use Rattle.device_queue.specs.Tasks as tasks
use Rattle.device_queue.specs.Tasks.{command_in, is_queued, progress_in, registers_first, work_answered}
use Rattle.device_queue.specs.declared.progress.Progress.{Progress}
use Rattle.device_queue.specs.declared.progress.Progress.TheVariants.{GoesOn, Joined}
use Rattle.device_queue.specs.declared.task.Task.{Task}
use Rattle.device_queue.specs.declared.task.Work.{Work}
use Rattle.device_queue.specs.declared.task.Work.TheVariants.{Seizing as Seizes, Joining as Joins}
use Rattle.pgr_device.specs.declared.command.PrAnswer.TheVariants as given
use Rattle.pgr_device.specs.declared.command.PrCommand.{PrCommand}
use Rattle.pgr_device.specs.declared.command.PrCommand.TheVariants as command
use Rattle.pgr_device.specs.declared.kind.PrKind.TheVariants.{WriteExclusiveRegistrantsOnly}
use Rattle.seize.specs.Answers.{Answer, is_good, word_told}
use Rattle.seize.specs.Joining as joining
use Rattle.seize.specs.Joining.{JoinState}
use Rattle.seize.specs.Seizing as seizing
use Rattle.seize.specs.Seizing.{SeizeState}
use Rattle.seize.specs.declared.kind.JoinResult.{JoinResult}
use Rattle.seize.specs.declared.kind.JoinResult.TheVariants as end
use Rattle.seize.specs.declared.step.JoinStep.{JoinStep}
use Rattle.seize.specs.declared.step.JoinStep.TheVariants as join
use Rattle.seize.specs.declared.step.SeizeStep.{SeizeStep}
use Rattle.seize.specs.declared.step.SeizeStep.TheVariants as step
use Rattle.wire.specs.Spelling.{IsDevice as IsNumber}
use Rattle.history.specs.Member.{last_installed}
use Rattle.history.specs.Moment.{Moment}
use Rattle.history.specs.Order.{since}
use Rattle.history.specs.Seizing.{is_install}
use Rattle.history.specs.Validated.{Lapsed, Valid, moved_on, registers, validity}
use Rattle.history.specs.Validated as validated
use Rattle.node_model.specs.Seats.{installed_of, record_of, session_of}
use Rattle.node_model.specs.declared.node.Node.TheVariants.{Up}
use Rattle.node_model.specs.declared.node.UpNode.{UpNode}
use Rattle.refinement.specs.Doings.{site}
use Rattle.run_history.specs.Happenings.{IsReadied}
use Rattle.run_seizings.proofs.Progress.{if_not, if_so}
use Rattle.run_seizings.proofs.Promising.{same_so}
use Rattle.run_devices.specs.validity.Kept.{HasEntered, JoinSo, TaskSo, UpSo, WorkSo, readying}
use Rattle.run_devices.specs.validity.Laws.{Agrees}
use Rattle.run_devices.proofs.validity.Tasks.{IsFirst, WorkFits, found_so, line_of, no_truth, same_two}

-- ---- what the line tells

-- whether the first task begins by registering
begins_so : (x : UpNode) (at : ℕ) (k : PrCommand) (f : IsFirst x at k) → begins_plainly x.tasks ≡ (if registers_first f.task.work then Some at else None)
begins_so x at k f =
    ap (λ o. option_and_then (λ (t : Task). if registers_first t.work then Some t.device else None) o) f.found
    ∙ ap (λ d. if registers_first f.task.work then Some d else None) f.device

-- the record was as told, or excused
abbrev Weakly : Header → List Moment → ℕ → UpNode → NodeRecord → ℕ → Type 0
Weakly h ms n x disk d = Agrees (validity h n d ms) (has disk.valid d) ⊎ readying (site (Up x) disk) d

-- .. and is as told behind the line
abbrev Strictly : Header → List Moment → ℕ → ℕ → ℕ → Answer → ℕ → PrCommand → Type 0
Strictly h ms n at d a valid k = Agrees (validity h n d (line_of n at k a ∷ ms)) (has valid d)

not_excused : (h : Header) (ms : List Moment) (n d : ℕ) (x : UpNode) (disk : NodeRecord) → begins_plainly x.tasks ≡ None → Weakly h ms n x disk d
    → Agrees (validity h n d ms) (has disk.valid d)
not_excused h ms n d x disk none (inl k) = k
not_excused h ms n d x disk none (inr e) = absurd (none_some d (sym none ∙ e.0))

-- an `ignore`, of a device that the record does not hold valid
ignored : (h : Header) (ms : List Moment) (n at d key : ℕ) (x : UpNode) (disk : NodeRecord) (a : Answer) → has disk.valid at ≡ false → (begins_plainly x.tasks ≡ Some d → at ≡ d)
    → Weakly h ms n x disk d → Strictly h ms n at d a disk.valid (command.Ignore key)
ignored h ms n at d key x disk a none begins k =
    if_with (λ v. Agrees v (has disk.valid d)) ((n == n) && (at == d)) ((n == n) && (at == d)) Lapsed (validity h n d ms) refl
    (λ is. subst (λ e. has disk.valid e ≡ false) (same_number at d (and_cases (n == n) (at == d) is).1) none)
    (λ ban. by_excuse ban k)
  where
    by_excuse : ((n == n) && (at == d)) ≡ false → Weakly h ms n x disk d → Agrees (validity h n d ms) (has disk.valid d)
    by_excuse ban (inl told) = told
    by_excuse ban (inr e) = absurd (no_truth (sym ban ∙ same_two n at d (begins e.0)))

last_not : (a b c : Bool) → c ≡ true → (a && b && not c) ≡ false
last_not true true c is = ap not is
last_not true false c is = refl
last_not false b c is = refl

first_not : (a b c : Bool) → a ≡ false → (a && b && c) ≡ false
first_not true b c is = cc
first_not false b c is = refl

third_not : (a b c : Bool) → c ≡ false → (a && b && c) ≡ false
third_not true true c is = is
third_not true false c is = refl
third_not false b c is = refl

-- a word that joins nothing
word_told_same : (h : Header) (ms : List Moment) (n at d : ℕ) (a : Answer) → ((w : ℕ) → word_told a ≡ Some w → validated.joins n d w ms ≡ false)
    → validity h n d (line_of n at command.Word a ∷ ms) ≡ validity h n d ms
word_told_same h ms n at d (Ok (given.Word w)) ban =
    if_not ((n == n) && (at == d) && validated.joins n d w ms) Valid (validity h n d ms) (third_not (n == n) (at == d) (validated.joins n d w ms) (ban w refl))
word_told_same h ms n at d (Ok given.Good) ban = refl
word_told_same h ms n at d (Ok given.Conflict) ban = refl
word_told_same h ms n at d (Ok given.InvalidRelease) ban = refl
word_told_same h ms n at d (Ok given.NoPath) ban = refl
word_told_same h ms n at d (Ok (given.Keys keys)) ban = refl
word_told_same h ms n at d (Ok (given.Holder holder)) ban = refl
word_told_same h ms n at d (Ok (given.Value v)) ban = refl
word_told_same h ms n at d (Ok (given.Miscompare w)) ban = refl
word_told_same h ms n at d (Err lost) ban = refl

word_same : (h : Header) (ms : List Moment) (n at d valid : ℕ) (a : Answer) → ((w : ℕ) → word_told a ≡ Some w → validated.joins n d w ms ≡ false)
    → Agrees (validity h n d ms) (has valid d) → Strictly h ms n at d a valid command.Word
word_same h ms n at d valid a ban k = subst (λ v. Agrees v (has valid d)) (sym (word_told_same h ms n at d a ban)) k

not_equal : (a b : ℕ) → a < b → a ≡ b → ⊥
not_equal a b lt is = grind arith

positive : (a b : ℕ) → a < b → 0 < b
positive a b lt = omega (arith, lt)

-- a seizing
seizes_valid : (h : Header) (ms : List Moment) (n at d : ℕ) (x : UpNode) (disk : NodeRecord) (k : PrCommand) (a : Answer) (s : SeizeState) (p : SeizeStep) → disk ≡ record_of x
    → seizing.command_at s p ≡ Some k → installed_of x < session_of x → IsReadied x
    → begins_plainly x.tasks ≡ (if registers_first (Seizes (record s { step = p })) then Some at else None) → UpSo ms n x → Weakly h ms n x disk d → Strictly h ms n at d a disk.valid k
seizes_valid h ms n at d x disk k a s p same is before readied begins up weak = by_step p is begins
  where
    Goal : PrCommand → Type 0
    Goal z = Strictly h ms n at d a disk.valid z

    mildly : (z : PrCommand) → Some z ≡ Some k → Goal z → Goal k
    mildly z e g = subst Goal (same_some z k e) g

    no_join : (w : ℕ) → validated.joins n d w ms ≡ false
    no_join w =
        last_not (last_installed n ms == w) (list_any (registers n d) (since (is_install n w) ms)) (moved_on n ms)
        ((up.moved (positive (installed_of x) (session_of x) before)).moved (λ e. not_equal (installed_of x) (session_of x) before e))

    by_step : (q : SeizeStep) → seizing.command_at s q ≡ Some k → begins_plainly x.tasks ≡ (if registers_first (Seizes (record s { step = q })) then Some at else None) → Goal k
    by_step step.Check e b = mildly command.Keys e (not_excused h ms n d x disk b weak)
    by_step step.Register e b =
        mildly (command.Ignore (seizing.own_key s)) e
        (ignored h ms n at d (seizing.own_key s) x disk a (ap (λ (r : NodeRecord). has r.valid at) same ∙ readied at b) (λ i. same_some at d (sym b ∙ i)) weak)
    by_step step.ReadWord e b = mildly command.Word e (word_same h ms n at d disk.valid a (λ w told. no_join w) (not_excused h ms n d x disk b weak))
    by_step (step.Swap expected) e b = mildly (command.Swap expected s.epoch) e (not_excused h ms n d x disk b weak)
    by_step step.Reserve e b = mildly (command.Reserve WriteExclusiveRegistrantsOnly (seizing.own_key s)) e (not_excused h ms n d x disk b weak)
    by_step (step.ReadKeys reading) e b = mildly command.Keys e (not_excused h ms n d x disk b weak)
    by_step (step.Preempt victim reading) e b = mildly (command.Preempt WriteExclusiveRegistrantsOnly (seizing.own_key s) victim) e (not_excused h ms n d x disk b weak)
    by_step (step.Confirm keys) e b = mildly command.Word e (word_same h ms n at d disk.valid a (λ w told. no_join w) (not_excused h ms n d x disk b weak))
    by_step (step.Ended r) e b = absurd (none_some k e)

-- ---- a joining

-- it has not ended joined
abbrev pub NotJoined : Progress → Type 0
NotJoined p = (d : ℕ) → p ≡ Joined d end.Joined → ⊥

not_same_word : (at w : ℕ) (b : Bool) → NotJoined (Joined at (if b then end.Joined else end.Late w)) → b ≡ false
not_same_word at w true ban = absurd (ban at refl)
not_same_word at w false ban = refl

other_word : (last q e w : ℕ) → last ≡ q → e ≡ q → (w == e) ≡ false → (last == w) ≡ false
other_word last q e w is same ban = grind arith

late_word : (ms : List Moment) (n at d q w : ℕ) (j : JoinState) (a : Answer) → last_installed n ms ≡ q → j.epoch ≡ q → NotJoined (Joined at (joining.compared j (word_told a)))
    → word_told a ≡ Some w → validated.joins n d w ms ≡ false
late_word ms n at d q w j a last epoch ban is =
    first_not (last_installed n ms == w) (list_any (registers n d) (since (is_install n w) ms)) (not (moved_on n ms))
    (other_word (last_installed n ms) q j.epoch w last epoch (not_same_word at w (w == j.epoch) (subst (λ o. NotJoined (Joined at (joining.compared j o))) is ban)))

joins_valid : (h : Header) (ms : List Moment) (n at d : ℕ) (x : UpNode) (disk : NodeRecord) (k : PrCommand) (a : Answer) (j : JoinState) (p : JoinStep) → disk ≡ record_of x
    → joining.command_at j p ≡ Some k → WorkFits x at (Joins j) → NotJoined (progress_in at (Joins (record j { step = joining.next_step j p a })))
    → begins_plainly x.tasks ≡ None → UpSo ms n x → Weakly h ms n x disk d → Strictly h ms n at d a disk.valid k
joins_valid h ms n at d x disk k a j join.Register same is fits ban begins up weak =
    subst (λ z. Strictly h ms n at d a disk.valid z) (same_some (command.Ignore (keys.key_of j.cluster j.me)) k is)
    (ignored h ms n at d (keys.key_of j.cluster j.me) x disk a (ap (λ (r : NodeRecord). has r.valid at) same ∙ fits.0) (λ i. absurd (none_some d (sym begins ∙ i))) weak)
joins_valid h ms n at d x disk k a j join.ReadWord same is fits ban begins up weak =
    subst (λ z. Strictly h ms n at d a disk.valid z) (same_some command.Word k is)
    (word_same h ms n at d disk.valid a
    (λ w told. late_word ms n at d (session_of x) w j a ((up.moved fits.3).stands (sym fits.2)).1 fits.1 ban told) (not_excused h ms n d x disk begins weak))
joins_valid h ms n at d x disk k a j (join.Ended r) same is fits ban begins up weak = absurd (none_some k is)

-- ---- an answer that admits nothing

progress_so : (x : UpNode) (at : ℕ) (k : PrCommand) (a : Answer) (f : IsFirst x at k) → progress_after x.tasks a ≡ progress_in at (work_answered a f.task.work)
progress_so x at k a f =
    ap (λ o. progress_by_so o) f.found ∙ ap (λ d. progress_in d (work_answered a f.task.work)) f.device
  where
    progress_by_so : Option Task → Progress
    progress_by_so o = queue.progress_by o a

pub taken_valid : (h : Header) (ms : List Moment) (n at d : ℕ) (x : UpNode) (disk : NodeRecord) (k : PrCommand) (a : Answer) → disk ≡ record_of x → (f : IsFirst x at k)
    → NotJoined (progress_after x.tasks a) → UpSo ms n x → Agrees (validity h n d ms) (has disk.valid d) ⊎ readying (site (Up x) disk) d
    → Agrees (validity h n d (line_of n at k a ∷ ms)) (has disk.valid d)
taken_valid h ms n at d x disk k a same f ban up weak =
    by_work f.task.work f.command f.fits (begins_so x at k f) (subst NotJoined (progress_so x at k a f) ban)
  where
    by_work : (w : Work) → command_in w ≡ Some k → WorkFits x at w → begins_plainly x.tasks ≡ (if registers_first w then Some at else None)
        → NotJoined (progress_in at (work_answered a w)) → Strictly h ms n at d a disk.valid k
    by_work (Seizes s) is fits begins none = seizes_valid h ms n at d x disk k a s s.step same is fits f.readied begins up weak
    by_work (Joins j) is fits begins none = joins_valid h ms n at d x disk k a j j.step same is fits none begins up weak

-- ---- an answer that admits

-- The word of the session came: the device is valid by it, in the record too.
record Word (j : JoinState) (a : Answer) : Type 0 where
  word : ℕ
  told : a ≡ Ok (given.Word word)
  same : word ≡ j.epoch

word_of : (at d : ℕ) (j : JoinState) (a : Answer) → Joined at (joining.compared j (word_told a)) ≡ Joined d end.Joined → Word j a
word_of at d j (Ok (given.Word w)) is = by_test (w == j.epoch) refl is
  where
    by_test : (b : Bool) → (w == j.epoch) ≡ b → Joined at (if b then end.Joined else end.Late w) ≡ Joined d end.Joined → Word j (Ok (given.Word w))
    by_test true e k = record { word = w; told = refl; same = same_number w j.epoch e }
    by_test false e k = cc
word_of at d j (Ok given.Good) is = cc
word_of at d j (Ok given.Conflict) is = cc
word_of at d j (Ok given.InvalidRelease) is = cc
word_of at d j (Ok given.NoPath) is = cc
word_of at d j (Ok (given.Keys keys)) is = cc
word_of at d j (Ok (given.Holder holder)) is = cc
word_of at d j (Ok (given.Value v)) is = cc
word_of at d j (Ok (given.Miscompare w)) is = cc
word_of at d j (Err lost) is = cc

same_at : (at d : ℕ) (r s : JoinResult) → Joined at r ≡ Joined d s → at ≡ d
same_at at d r s is = cc

three_so : (a b c : Bool) → a ≡ true → b ≡ true → c ≡ false → (a && b && not c) ≡ true
three_so true true c i k l = ap not l
three_so true false c i k l = cc
three_so false b c i k l = cc

three_both : (a b c : Bool) → (a && b) ≡ true → c ≡ true → (a && b && c) ≡ true
three_both true true c i k = k
three_both true false c i k = cc
three_both false b c i k = cc

second_off : (a b c : Bool) → b ≡ false → (a && b && c) ≡ false
second_off true true c e = cc
second_off true false c e = refl
second_off false b c e = refl

-- the device of the joining is valid now, each other as it was
word_valid : (h : Header) (ms : List Moment) (n at d w : ℕ) (valid : ℕ) → IsNumber at → last_installed n ms ≡ w → moved_on n ms ≡ false → HasEntered ms n at w
    → Agrees (validity h n d ms) (has valid d) → Agrees (validity h n d (line_of n at command.Word (Ok (given.Word w)) ∷ ms)) (has (set_with valid at) d)
word_valid h ms n at d w valid number last moved entered k = by_test (at == d) refl
  where
    few : at ≤ 32
    few = omega (arith, number.1)

    Goal : Type 0
    Goal = Agrees (validity h n d (line_of n at command.Word (Ok (given.Word w)) ∷ ms)) (has (set_with valid at) d)

    by_test : (b : Bool) → (at == d) ≡ b → Goal
    by_test true is =
        let here : at ≡ d = same_number at d is in
        let joins : validated.joins n d w ms ≡ true =
        three_so (last_installed n ms == w) (list_any (registers n d) (since (is_install n w) ms)) (moved_on n ms) (same_so (last_installed n ms) w last)
        (subst (λ e. HasEntered ms n e w) here entered) moved in
        subst (λ v. Agrees v (has (set_with valid at) d))
        (sym (if_so ((n == n) && (at == d) && validated.joins n d w ms) Valid (validity h n d ms)
        (three_both (n == n) (at == d) (validated.joins n d w ms) (same_two n at d here) joins)))
        (subst (λ e. has (set_with valid at) e ≡ true) here (has_new valid at number.0 few))
    by_test false ban =
        subst (λ v. Agrees v (has (set_with valid at) d))
        (sym (if_not ((n == n) && (at == d) && validated.joins n d w ms) Valid (validity h n d ms) (second_off (n == n) (at == d) (validated.joins n d w ms) ban)))
        (subst (λ b. Agrees (validity h n d ms) b) (sym (has_same valid at d number.0 few (λ e. no_truth (sym ban ∙ same_so at d (sym e))))) k)

not_goes_on : (d : ℕ) (r : JoinResult) → GoesOn ≡ Joined d r → ⊥
not_goes_on d r is = cc

not_fault : (at d : ℕ) → Joined at end.Fault ≡ Joined d end.Joined → ⊥
not_fault at d is = cc

seizing_no : (at d : ℕ) (o : Option _) → tasks.seizing_progress at o ≡ Joined d end.Joined → ⊥
seizing_no at d None is = cc
seizing_no at d (Some r) is = cc

pub admitted_valid : (h : Header) (ms : List Moment) (n at d e : ℕ) (x : UpNode) (disk : NodeRecord) (k : PrCommand) (a : Answer) → disk ≡ record_of x → (f : IsFirst x at k)
    → progress_after x.tasks a ≡ Joined e end.Joined → UpSo ms n x → Agrees (validity h n d ms) (has disk.valid d) ⊎ readying (site (Up x) disk) d
    → Agrees (validity h n d (line_of n at k a ∷ ms)) (has (set_with disk.valid e) d)
admitted_valid h ms n at d e x disk k a same f joined up weak =
    by_work f.task.work f.command f.fits (begins_so x at k f) (sym (progress_so x at k a f) ∙ joined)
    (subst (λ z. WorkSo ms n (session_of x) (installed_of x) z f.task.work) f.device (found_so (TaskSo ms n (session_of x) (installed_of x)) is_queued x.tasks f.task f.found up.tasks))
  where
    Goal : PrCommand → Answer → ℕ → Type 0
    Goal z b z' = Agrees (validity h n d (line_of n at z b ∷ ms)) (has (set_with disk.valid z') d)

    by_join : (j : JoinState) (p : JoinStep) → joining.command_at j p ≡ Some k → WorkFits x at (Joins j) → begins_plainly x.tasks ≡ None
        → progress_in at (Joins (record j { step = joining.next_step j p a })) ≡ Joined e end.Joined → JoinSo ms n (session_of x) (installed_of x) at p → Goal k a e
    by_join j join.Register is fits begins to so =
        absurd (by_good (is_good a) to)
      where
        by_good : (b : Bool) → progress_in at (Joins (record j { step = if b then join.ReadWord else join.Ended end.Fault })) ≡ Joined e end.Joined → ⊥
        by_good true i = not_goes_on e end.Joined i
        by_good false i = not_fault at e i
    by_join j join.ReadWord is fits begins to so =
        let word : Word j a = word_of at e j a to in
        let here : at ≡ e = same_at at e (joining.compared j (word_told a)) end.Joined to in
        let session : session_of x ≡ word.word = sym fits.1 ∙ sym word.same in
        let stands : (moved_on n ms ≡ false) × (last_installed n ms ≡ session_of x) = (up.moved fits.3).stands (sym fits.2) in
        subst (λ z. Goal z a e) (same_some command.Word k is)
        (subst (λ b. Goal command.Word b e) (sym word.told)
        (subst (λ z. Goal command.Word (Ok (given.Word word.word)) z) here
        (word_valid h ms n at d word.word disk.valid f.number (stands.1 ∙ session) stands.0 (subst (λ q. HasEntered ms n at q) session so.1)
        (not_excused h ms n d x disk begins weak))))
    by_join j (join.Ended r) is fits begins to so = absurd (none_some k is)

    by_work : (w : Work) → command_in w ≡ Some k → WorkFits x at w → begins_plainly x.tasks ≡ (if registers_first w then Some at else None)
        → progress_in at (work_answered a w) ≡ Joined e end.Joined → WorkSo ms n (session_of x) (installed_of x) at w → Goal k a e
    by_work (Seizes s) is fits begins to so = absurd (seizing_no at e (seizing.result_of (seizing.taken s a)) to)
    by_work (Joins j) is fits begins to so = by_join j j.step is fits begins to so
