-- A node takes the answer to the command that is due: the joining of that device goes on as the line says, and the others stay.
use Rattle.std.specs.Prelude.{ℕ, ◌≡◌, ◌==◌, ◌&&◌, ◌||◌, ◌<◌, ◌≤◌, not, Bool, true, false, List, ◌∷◌, Option, None, Some, Ok, Err, if◌then◌else◌}
use Rattle.std.proofs.Common.{refl, sym, ap, subst, ◌∙◌, arith}
use Rattle.cl_base.specs.Keys.{key_of}
use Rattle.cl_base.specs.Sets.{has, set_with}
use Rattle.cl_base.proofs.SetLemmas.{has_with, or_bit_value}
use Rattle.cmm_attempt.proofs.Basics.{false_true, none_some, same_number, same_some}
use Rattle.cl_base.specs.Seizings.{SeizeResult}
use Rattle.device_queue.specs.Queue.{after_answer, join_of, progress_after, progress_by}
use Rattle.device_queue.specs.Tasks.{answered, command_in, is_join_of, is_joining, joining_progress, progress_in, seizing_progress, work_answered}
use Rattle.device_queue.specs.declared.progress.Progress.TheVariants as progress
use Rattle.device_queue.specs.declared.task.Task.{Task}
use Rattle.device_queue.specs.declared.task.Work.{Work}
use Rattle.device_queue.specs.declared.task.Work.TheVariants.{Joining, Seizing}
use Rattle.membership_machine.specs.Growth.{Grows}
use Rattle.membership_machine.specs.State.{Memberships}
use Rattle.pgr_device.specs.declared.command.PrAnswer.TheVariants as given
use Rattle.pgr_device.specs.declared.command.PrCommand.{PrCommand}
use Rattle.pgr_device.specs.declared.command.PrCommand.TheVariants as command
use Rattle.seize.specs.Answers.{Answer}
use Rattle.seize.specs.Joining.{JoinState, command_at, next_step, result_at}
use Rattle.seize.specs.Seizing.{result_of}
use Rattle.seize.specs.declared.kind.JoinResult.TheVariants as join
use Rattle.seize.specs.declared.step.JoinStep.{JoinStep}
use Rattle.seize.specs.declared.step.JoinStep.TheVariants as step
use Rattle.status_report.specs.declared.device_entry.DeviceEntry.TheVariants as device
use Rattle.status_report.specs.declared.entry.Entry.{Entry}
use Rattle.status_report.specs.declared.entry.Entry.TheVariants as entry
use Rattle.history.specs.Moment.{Moment, Told}
use Rattle.node_model.specs.Clusters.{has_path}
use Rattle.node_model.specs.Devices.{answer_told}
use Rattle.node_model.specs.Seats.{installed_of, session_of, state_of}
use Rattle.node_model.specs.declared.cluster.Cluster.{Cluster}
use Rattle.node_model.specs.declared.node.UpNode.{UpNode}
use Rattle.run_lines.specs.writes.Joins.{AllLone, DeviceSo, Installed, StepSo, TaskSo, UpJoins, WorkSo, is_spoiled}
use Rattle.run_lines.specs.writes.Sites.{IsFine, NotJoined, TakeSo}
use Rattle.run_lines.proofs.writes.Lines.{spoils_elsewhere}
use Rattle.run_lines.proofs.writes.Tasks.{first_join, first_taken, lone_taken, others_stay}

-- ---- the joining whose command is answered

-- the line of a command
abbrev pub line_of : ℕ → ℕ → PrCommand → Answer → Entry
line_of n d k a = entry.Device (device.Command n d k (answer_told a))

abbrev pub ends_joined : JoinStep → Bool
ends_joined (step.Ended join.Joined) = true
ends_joined _ = false

or_none : (b : Bool) → b ≡ false → (b || false) ≡ false
or_none false is = refl
or_none true is = is

or_true : (b : Bool) → (b || true) ≡ true
or_true true = refl
or_true false = refl

same : (a : ℕ) → (a == a) ≡ true
same a = grind arith

two_true : (p q r : Bool) → p ≡ true → q ≡ true → ((p && q) || r) ≡ true
two_true true true r f g = refl
two_true true false r f g = absurd (false_true g)
two_true false q r f g = absurd (false_true f)

three_true : (p q r : Bool) → p ≡ true → q ≡ true → ((p && q && true) || r) ≡ true
three_true true true r f g = refl
three_true true false r f g = absurd (false_true g)
three_true false q r f g = absurd (false_true f)

none_of_them : (p q r : Bool) → r ≡ false → ((p && q && false) || r) ≡ false
none_of_them true true r f = f
none_of_them true false r f = f
none_of_them false q r f = f

-- after its step it is so of the line more
abbrev Goes : ℕ → ℕ → JoinState → JoinStep → Bool → List Moment → PrCommand → Answer → Type 0
Goes n d j s had ms k a = StepSo (had || ends_joined (next_step j s a)) (is_spoiled n d j.epoch (Told (line_of n d k a) ∷ ms)) (next_step j s a)

register_goes : (n d : ℕ) (j : JoinState) (had : Bool) (ms : List Moment) (key : ℕ) (a : Answer) → IsFine (command.Ignore key) a → had ≡ false → is_spoiled n d j.epoch ms ≡ false
    → Goes n d j step.Register had ms (command.Ignore key) a
register_goes n d j had ms key (Ok given.Good) fine not_yet clean = (or_none had not_yet, clean)
register_goes n d j had ms key (Err lost) fine not_yet clean = (or_none had not_yet, two_true (n == n) (d == d) (is_spoiled n d j.epoch ms) (same n) (same d))
register_goes n d j had ms key (Ok _) fine not_yet clean = absurd fine

word_goes : (n d : ℕ) (j : JoinState) (had : Bool) (ms : List Moment) (a : Answer) → IsFine command.Word a → had ≡ false → is_spoiled n d j.epoch ms ≡ false
    → Goes n d j step.ReadWord had ms command.Word a
word_goes n d j had ms (Ok (given.Word w)) fine not_yet clean = by_test (w == j.epoch)
  where
    by_test : (b : Bool) → StepSo (had || ends_joined (step.Ended (if b then join.Joined else join.Late w))) (((n == n) && (d == d) && not b) || is_spoiled n d j.epoch ms)
        (step.Ended (if b then join.Joined else join.Late w))
    by_test true = (or_true had, none_of_them (n == n) (d == d) (is_spoiled n d j.epoch ms) clean)
    by_test false = (or_none had not_yet, three_true (n == n) (d == d) (is_spoiled n d j.epoch ms) (same n) (same d))
word_goes n d j had ms (Err lost) fine not_yet clean = (or_none had not_yet, two_true (n == n) (d == d) (is_spoiled n d j.epoch ms) (same n) (same d))
word_goes n d j had ms (Ok _) fine not_yet clean = absurd fine

step_goes : (n d : ℕ) (j : JoinState) (had : Bool) (ms : List Moment) (k : PrCommand) (a : Answer) (s : JoinStep) → command_at j s ≡ Some k → IsFine k a → StepSo had (is_spoiled n d j.epoch ms) s
    → Goes n d j s had ms k a
step_goes n d j had ms k a step.Register due fine old =
    subst (λ q. IsFine q a → Goes n d j step.Register had ms q a) (same_some _ k due) (λ f. register_goes n d j had ms (key_of j.cluster j.me) a f old.0 old.1) fine
step_goes n d j had ms k a step.ReadWord due fine old =
    subst (λ q. IsFine q a → Goes n d j step.ReadWord had ms q a) (same_some _ k due) (λ f. word_goes n d j had ms a f old.0 old.1) fine
step_goes n d j had ms k a (step.Ended r) due fine old = absurd (none_some k due)

-- ---- what the node has joined by it

abbrev pub joins_in : Work → Bool
joins_in (Seizing s) = false
joins_in (Joining j) = ends_joined j.step

step_not : (d : ℕ) (s : JoinStep) → NotJoined (joining_progress d (result_at s)) → ends_joined s ≡ false
step_not d (step.Ended join.Joined) never = absurd never
step_not d (step.Ended (join.Late w)) never = refl
step_not d (step.Ended join.Fault) never = refl
step_not d step.Register never = refl
step_not d step.ReadWord never = refl

pub work_not : (d : ℕ) (w : Work) → NotJoined (progress_in d w) → joins_in w ≡ false
work_not d (Seizing s) never = refl
work_not d (Joining j) never = step_not d j.step never

step_is : (d e : ℕ) (s : JoinStep) → joining_progress d (result_at s) ≡ progress.Joined e join.Joined → (ends_joined s ≡ true) × (d ≡ e)
step_is d e (step.Ended join.Joined) is = (refl, here is)
  where
    here : progress.Joined d join.Joined ≡ progress.Joined e join.Joined → d ≡ e
    here h = cc
step_is d e (step.Ended (join.Late w)) is = absurd (never is)
  where
    never : progress.Joined d (join.Late w) ≡ progress.Joined e join.Joined → ⊥
    never h = cc
step_is d e (step.Ended join.Fault) is = absurd (never is)
  where
    never : progress.Joined d join.Fault ≡ progress.Joined e join.Joined → ⊥
    never h = cc
step_is d e step.Register is = absurd (never is)
  where
    never : progress.GoesOn ≡ progress.Joined e join.Joined → ⊥
    never h = cc
step_is d e step.ReadWord is = absurd (never is)
  where
    never : progress.GoesOn ≡ progress.Joined e join.Joined → ⊥
    never h = cc

pub work_is : (d e : ℕ) (w : Work) → progress_in d w ≡ progress.Joined e join.Joined → (joins_in w ≡ true) × (d ≡ e)
work_is d e (Joining j) is = step_is d e j.step is
work_is d e (Seizing s) is = absurd (by_result (result_of s) is)
  where
    by_result : (o : Option SeizeResult) → seizing_progress d o ≡ progress.Joined e join.Joined → ⊥
    by_result None h = cc
    by_result (Some r) h = cc

pub has_set_with : (s n m : ℕ) → 1 ≤ n → n ≤ 32 → has (set_with s n) m ≡ ((m == n) || has s m)
has_set_with s n m low high = subst (λ z. has z m ≡ ((m == n) || has s m)) (or_bit_value s n high) (has_with s n low high m)

-- ---- all devices

-- with the answer taken, and this set of joined devices
pub record Took (x y : UpNode) (at : ℕ) (a : Answer) (t : Task) : Type 0 where
  pub session : session_of y ≡ session_of x
  pub installed : installed_of y ≡ installed_of x
  pub tasks : y.tasks ≡ after_answer x.tasks a
  pub marks : (d : ℕ) → has (state_of y.seat).joined d ≡ (has (state_of x.seat).joined d || ((at == d) && joins_in (work_answered a t.work)))

-- the joining of this device
here_goes : (n at e : ℕ) (had : Bool) (holds : Bool) (ms : List Moment) (k : PrCommand) (a : Answer) (w : Work) → is_joining w ≡ true → command_in w ≡ Some k → IsFine k a
    → WorkSo e had (is_spoiled n at e ms) w → WorkSo e (had || (true && joins_in (work_answered a w))) (is_spoiled n at e (Told (line_of n at k a) ∷ ms)) (work_answered a w)
here_goes n at e had holds ms k a (Seizing s) is due fine old = tt
here_goes n at e had holds ms k a (Joining j) is due fine old = (
  old.0,
  subst (λ f. StepSo (had || ends_joined (next_step j j.step a)) (is_spoiled n at f (Told (line_of n at k a) ∷ ms)) (next_step j j.step a)) old.0
      (step_goes n at j had ms k a j.step due fine (subst (λ f. StepSo had (is_spoiled n at f ms) j.step) (sym old.0) old.1)),
)

both_true : (a b : Bool) → a ≡ true → b ≡ true → (a && b) ≡ true
both_true true true f g = refl
both_true true false f g = g
both_true false b f g = f

and_none : (b : Bool) → (b && false) ≡ false
and_none true = refl
and_none false = refl

or_nothing : (b : Bool) → (b || false) ≡ b
or_nothing true = refl
or_nothing false = refl

device_takes : (c : Cluster) (M N : Memberships) (ms ns : List Moment) (n : ℕ) (x y : UpNode) (at : ℕ) (k : PrCommand) (a : Answer) (take : TakeSo c n x at k a) → Took x y at a take.task → AllLone x.tasks
    → is_joining take.task.work ≡ true → ((d : ℕ) → (N.epoch (session_of x)).holds d ≡ (M.epoch (session_of x)).holds d)
    → ((d e : ℕ) → is_spoiled n d e ns ≡ is_spoiled n d e (Told (line_of n at k a) ∷ ms)) → (d : ℕ) → has_path c.attached n d ≡ true → DeviceSo c M ms n x d → DeviceSo c N ns n y d
device_takes c M N ms ns n x y at k a take took lone joining holds said d path old =
    subst (λ q. TaskSo q (has (state_of y.seat).joined d) (is_spoiled n d q ns) ((N.epoch q).holds d) (join_of y.tasks d)) (sym took.session)
    (subst (λ b. TaskSo e b (is_spoiled n d e ns) ((N.epoch e).holds d) (join_of y.tasks d)) (sym (took.marks d))
    (subst (λ b. TaskSo e (J || ((at == d) && joins_in (work_answered a t.work))) b ((N.epoch e).holds d) (join_of y.tasks d)) (sym (said d e))
    (subst (λ b. TaskSo e (J || ((at == d) && joins_in (work_answered a t.work))) (is_spoiled n d e (Told (line_of n at k a) ∷ ms)) b (join_of y.tasks d)) (sym (holds d))
    (subst (λ ts. TaskSo e (J || ((at == d) && joins_in (work_answered a t.work))) (is_spoiled n d e (Told (line_of n at k a) ∷ ms)) H (join_of ts d)) (sym took.tasks)
    (by_test (at == d) refl)))))
  where
    e : ℕ
    e = session_of x

    t : Task
    t = take.task

    J : Bool
    J = has (state_of x.seat).joined d

    H : Bool
    H = (M.epoch (session_of x)).holds d

    device_of : (at == d) ≡ true → t.device ≡ d
    device_of is = take.device ∙ same_number at d is

    own : (at == d) ≡ true → is_join_of d t ≡ true
    own is = both_true (t.device == d) (is_joining t.work) (ap (λ z. z == d) (device_of is) ∙ same d) joining

    not_own : (at == d) ≡ false → is_join_of d t ≡ false
    not_own is = ap (λ z. (z == d) && is_joining t.work) take.device ∙ ap (λ b. b && is_joining t.work) is

    by_test : (b : Bool) → (at == d) ≡ b → TaskSo e (J || (b && joins_in (work_answered a t.work))) (is_spoiled n d e (Told (line_of n at k a) ∷ ms)) H (join_of (after_answer x.tasks a) d)
    by_test true is =
        let before : join_of x.tasks d ≡ Some t = first_join d x.tasks t take.first (own is) (lone d) in
        let after : join_of (after_answer x.tasks a) d ≡ Some (answered a t) = first_taken d a x.tasks t take.first (own is) (lone d) in
        let was : WorkSo e J (is_spoiled n d e ms) t.work = subst (λ o. TaskSo e J (is_spoiled n d e ms) H o) before old in
        let fine : IsFine k a = take.fine (subst (λ z. has_path c.attached n z ≡ true) (sym (same_number at d is)) path) in
        let now : WorkSo e (J || (true && joins_in (work_answered a t.work))) (is_spoiled n d e (Told (line_of n d k a) ∷ ms)) (work_answered a t.work) =
        here_goes n d e J H ms k a t.work joining take.due fine was in
        subst (λ o. TaskSo e (J || (true && joins_in (work_answered a t.work))) (is_spoiled n d e (Told (line_of n at k a) ∷ ms)) H o) (sym after)
        (subst (λ z. WorkSo e (J || (true && joins_in (work_answered a t.work))) (is_spoiled n d e (Told (line_of n z k a) ∷ ms)) (work_answered a t.work)) (sym (same_number at d is)) now)
    by_test false is =
        subst (λ o. TaskSo e (J || (false && joins_in (work_answered a t.work))) (is_spoiled n d e (Told (line_of n at k a) ∷ ms)) H o) (sym (others_stay d a x.tasks t take.first (not_own is)))
        (subst (λ b. TaskSo e b (is_spoiled n d e (Told (line_of n at k a) ∷ ms)) H (join_of x.tasks d)) (sym (or_nothing J))
        (subst (λ b. TaskSo e J b H (join_of x.tasks d)) (sym (ap (λ b. b || is_spoiled n d e ms) (spoils_elsewhere n n d e at k (answer_told a) is))) old))

pub take_joins : (c : Cluster) (M N : Memberships) (ms ns : List Moment) (n : ℕ) (x y : UpNode) (at : ℕ) (k : PrCommand) (a : Answer) (take : TakeSo c n x at k a) → Took x y at a take.task → Grows M N
    → ((d e : ℕ) → is_spoiled n d e ns ≡ is_spoiled n d e (Told (line_of n at k a) ∷ ms)) → UpJoins c M ms n x → UpJoins c N ns n y
take_joins c M N ms ns n x y at k a take took g said h = record {
  lone = subst (λ ts. AllLone ts) (sym took.tasks) (lone_taken a x.tasks h.lone);
  joins = λ some is.
      let some_before : 0 < session_of x = subst (λ q. 0 < q) took.session some in
      let is_before : installed_of x ≡ session_of x = sym took.installed ∙ (is ∙ took.session) in
      let old : Installed c M ms n x = h.joins some_before is_before in
      record {
        counted = subst (λ q. (N.epoch q).counted ≡ true) (sym took.session) ((g.epoch (session_of x)).counted old.counted);
        devices = λ d path.
            device_takes c M N ms ns n x y at k a take took h.lone (take.joins some_before is_before) (λ e. (g.epoch (session_of x)).holds old.counted e) said d path (old.devices d path);
      };
}

-- the answer is taken by an act, or is saved: it has joined the device
pub took_so : (c : Cluster) (n : ℕ) (x : UpNode) (at : ℕ) (k : PrCommand) (a : Answer) (take : TakeSo c n x at k a) (y : UpNode) → session_of y ≡ session_of x → installed_of y ≡ installed_of x
    → y.tasks ≡ after_answer x.tasks a → (state_of y.seat).joined ≡ (state_of x.seat).joined → NotJoined (progress_after x.tasks a) → Took x y at a take.task
took_so c n x at k a take y session installed tasks joined never = record {
  session = session;
  installed = installed;
  tasks = tasks;
  marks = λ d.
      let t : Task = take.task in
      let not_now : joins_in (work_answered a t.work) ≡ false = work_not t.device (work_answered a t.work) (subst (λ o. NotJoined (progress_by o a)) take.first never) in
      ap (λ s. has s d) joined ∙ sym (ap (λ b. has (state_of x.seat).joined d || ((at == d) && b)) not_now ∙ (ap (λ b. has (state_of x.seat).joined d || b) (and_none (at == d)) ∙ or_nothing (has (state_of x.seat).joined d)));
}

pub admitted_so : (c : Cluster) (n : ℕ) (x : UpNode) (at : ℕ) (k : PrCommand) (a : Answer) (d : ℕ) (take : TakeSo c n x at k a) (y : UpNode) → session_of y ≡ session_of x
    → installed_of y ≡ installed_of x → y.tasks ≡ after_answer x.tasks a → (state_of y.seat).joined ≡ set_with (state_of x.seat).joined d → progress_after x.tasks a ≡ progress.Joined d join.Joined
    → Took x y at a take.task
admitted_so c n x at k a d take y session installed tasks joined is = record {
  session = session;
  installed = installed;
  tasks = tasks;
  marks = λ m.
      let t : Task = take.task in
      let J : Bool = has (state_of x.seat).joined m in
      let now : (joins_in (work_answered a t.work) ≡ true) × (t.device ≡ d) = work_is t.device d (work_answered a t.work) (subst (λ o. progress_by o a ≡ progress.Joined d join.Joined) take.first is) in
      let same_place : at ≡ d = sym take.device ∙ now.1 in
      ap (λ s. has s m) joined
      ∙ (has_set_with (state_of x.seat).joined d m (subst (λ z. 1 ≤ z) same_place take.place.0) (below d (subst (λ z. z ≤ 16) same_place take.place.1))
      ∙ (ap (λ b. b || J) (ap (λ z. m == z) (sym same_place) ∙ turned m at)
      ∙ (swapped (at == m) J ∙ sym (ap (λ b. J || ((at == m) && b)) now.0))));
}
  where
    below : (b : ℕ) → b ≤ 16 → b ≤ 32
    below b h = omega (arith, h)

    turned : (p q : ℕ) → (p == q) ≡ (q == p)
    turned p q = grind arith

    swapped : (p q : Bool) → (p || q) ≡ (q || (p && true))
    swapped true true = refl
    swapped true false = refl
    swapped false true = refl
    swapped false false = refl
