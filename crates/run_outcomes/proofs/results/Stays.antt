-- What is shown stays shown, whatever is told; how far a seizing is stays as it is by what is told of no command of its node at a device.
use Rattle.std.specs.Prelude.{ℕ, ◌+◌, ◌≡◌, ◌≢◌, ◌==◌, ◌&&◌, ◌⊎◌, ◌≤◌, cond, fold, nat_lt, Bool, true, false, List, [], ◌∷◌, Option, None, Some}
use Rattle.std.specs.List.{AllByRecursion, count_by, list_any}
use Rattle.std.proofs.Common.{refl, sym, ap, subst, ◌∙◌, arith, inl, inr}
use Rattle.cl_base.specs.Seizings.{SeizeResult}
use Rattle.cl_base.specs.declared.header.Header.{Header}
use Rattle.cl_base.specs.declared.seizing.SeizeEnd.{SeizeEnd}
use Rattle.cl_base.specs.declared.seizing.SeizeEnd.TheVariants.{Contended, Expelled, Fault, Greater, Held, NotRegistered}
use Rattle.cmm_attempt.proofs.Basics.{and_cases}
use Rattle.cmm_attempt.specs.Attempts.{AttemptState}
use Rattle.cmm_attempt.specs.declared.seizing.Seizing.{Seizing}
use Rattle.device_queue.specs.Tasks.{is_queued}
use Rattle.device_queue.specs.declared.task.Task.{Task}
use Rattle.device_queue.specs.declared.task.Work.{Work}
use Rattle.device_queue.specs.declared.task.Work.TheVariants.{Joining as Joins, Seizing as Seizes}
use Rattle.history.specs.Attempts.{reads_keys, reserves, shows_contended, shows_expelled, shows_fault, shows_word}
use Rattle.history.specs.Contact.{IsNew}
use Rattle.history.specs.Member.{members_of}
use Rattle.history.specs.Moment.{Moment, Told}
use Rattle.history.specs.Order.{since, somewhere}
use Rattle.history.specs.Seizing.{is_attempt}
use Rattle.history.specs.Setting.{coordinator, nodes_of}
use Rattle.node_model.specs.Seats.{session_of}
use Rattle.node_model.specs.declared.node.Node.{Node}
use Rattle.node_model.specs.declared.node.Node.TheVariants.{Down, Up}
use Rattle.node_model.specs.declared.node.UpNode.{UpNode}
use Rattle.pgr_device.specs.declared.command.PrCommand.{PrCommand}
use Rattle.pgr_device.specs.declared.command.PrCommand.TheVariants as command
use Rattle.refinement.specs.Runs.{Letter}
use Rattle.refinement.specs.Ties.{Delivered}
use Rattle.run_seizings.proofs.Progress.{Leaves, begun_stays, if_not, leaves, no_truth, not_same, of_stays, or_right}
use Rattle.run_seizings.proofs.Stays.{all_fresh_stay, base_stays, either_maps}
use Rattle.run_seizings.specs.Seized.{Fresh}
use Rattle.seize.specs.declared.step.SeizeStep.{SeizeStep}
use Rattle.seize.specs.declared.step.SeizeStep.TheVariants as step
use Rattle.status_report.specs.declared.device_entry.DeviceEntry.TheVariants as device_entry
use Rattle.status_report.specs.declared.entry.Entry.TheVariants as entry
use Rattle.wire.specs.declared.message.Body.{Body}
use Rattle.wire.specs.declared.message.Body.TheVariants as body
use Rattle.run_outcomes.specs.results.Shown.{AsksOf, AttemptIn, EndShown, EntryTold, HandShown, LetterShown, NodeShown, PromiseShown, SaysShown, StepShown, TasksShown, UpShown, Was, WasTried, WorkShown, readings}
use Rattle.run_outcomes.proofs.results.Held.{any_more, barred_stays, held_stay, seat_grow, seat_stays, tried_stays}
use Rattle.cmm_attempt.specs.declared.plan.Plan.{Plan}
use Rattle.cmm_attempt.specs.declared.promised.Promised.{Promised}
use Rattle.run_outcomes.specs.results.Tried.{Collected, Without}

-- ---- results

-- that it ended so is shown by these moments, of an attempt with these members
abbrev ended_in : Header → ℕ → ℕ → SeizeEnd Unit → ℕ → List Moment → Bool
ended_in h e d (Greater w) members ms = nat_lt e w && list_any (λ m. somewhere (shows_word d w m) ms) (nodes_of members)
ended_in h e d Expelled members ms = list_any (λ m. somewhere (shows_expelled h d m) ms) (nodes_of members)
ended_in h e d (Contended key) members ms = list_any (λ m. somewhere (shows_contended h members d key m) ms) (nodes_of members)
ended_in h e d Fault members ms = list_any (λ m. somewhere (shows_fault d m) ms) (nodes_of members)
ended_in h e d _ members ms = true

pub both_true : (a b : Bool) → a ≡ true → b ≡ true → (a && b) ≡ true
both_true true b h k = k
both_true false b h k = absurd (no_truth h)

ended_more : (h : Header) (e d : ℕ) (end : SeizeEnd Unit) (members : ℕ) (x : Moment) (ms : List Moment) → ended_in h e d end members ms ≡ true
    → ended_in h e d end members (x ∷ ms) ≡ true
ended_more h e d (Greater w) members x ms k =
    let two : (nat_lt e w ≡ true) × (list_any (λ m. somewhere (shows_word d w m) ms) (nodes_of members) ≡ true) =
    and_cases (nat_lt e w) (list_any (λ m. somewhere (shows_word d w m) ms) (nodes_of members)) k in
    both_true (nat_lt e w) (list_any (λ m. somewhere (shows_word d w m) (x ∷ ms)) (nodes_of members)) two.0
    (any_more (λ m. shows_word d w m) x ms (nodes_of members) two.1)
ended_more h e d Expelled members x ms k = any_more (λ m. shows_expelled h d m) x ms (nodes_of members) k
ended_more h e d (Contended key) members x ms k = any_more (λ m. shows_contended h members d key m) x ms (nodes_of members) k
ended_more h e d (Held keys) members x ms k = refl
ended_more h e d (NotRegistered keys) members x ms k = refl
ended_more h e d Fault members x ms k = any_more (λ m. shows_fault d m) x ms (nodes_of members) k

-- the moments since the attempt are one more
pub since_more : (e : ℕ) (x : Moment) (ms : List Moment) → is_attempt e x ≡ false → since (is_attempt e) (x ∷ ms) ≡ x ∷ since (is_attempt e) ms
since_more e x ms other = if_not (is_attempt e x) [] (x ∷ since (is_attempt e) ms) other

ended_stays : (h : Header) (e d : ℕ) (end : SeizeEnd Unit) (x : Moment) (ms : List Moment) → IsNew ms x → list_any (is_attempt e) ms ≡ true
    → ended_in h e d end (members_of e ms) (since (is_attempt e) ms) ≡ true → ended_in h e d end (members_of e (x ∷ ms)) (since (is_attempt e) (x ∷ ms)) ≡ true
ended_stays h e d end x ms new begun k =
    let l : Leaves ms x e = leaves ms x e new begun in
    subst (λ z. ended_in h e d end z (since (is_attempt e) (x ∷ ms)) ≡ true) (sym l.members)
    (subst (λ z. ended_in h e d end (members_of e ms) z ≡ true) (sym (since_more e x ms l.other)) (ended_more h e d end (members_of e ms) x (since (is_attempt e) ms) k))

pub end_stays : (h : Header) (e d n : ℕ) (r : SeizeResult) (x : Moment) (ms : List Moment) → IsNew ms x → list_any (is_attempt e) ms ≡ true → EndShown h e d ms n r
    → EndShown h e d (x ∷ ms) n r
end_stays h e d n (Greater w) x ms new begun k = ended_stays h e d (Greater w) x ms new begun k
end_stays h e d n Expelled x ms new begun k = ended_stays h e d Expelled x ms new begun k
end_stays h e d n (Contended key) x ms new begun k = ended_stays h e d (Contended key) x ms new begun k
end_stays h e d n (Held keys) x ms new begun k = tt
end_stays h e d n (NotRegistered keys) x ms new begun k = tried_stays h e d n keys x ms new begun k
end_stays h e d n Fault x ms new begun k = ended_stays h e d Fault x ms new begun k

-- ---- a moment that is no command of node n at a device, but for a write

abbrev pub SparedBy : ℕ → ℕ → PrCommand → Type 0
SparedBy n m (command.Write value) = Unit {0}
SparedBy n m _ = m ≢ n

abbrev pub Spares : ℕ → Moment → Type 0
Spares n (Told (entry.Device (device_entry.Command m d c a))) = SparedBy n m c
Spares n _ = Unit {0}

first_false : (a b : Bool) → a ≡ false → (a && b) ≡ false
first_false true b k = absurd (no_truth (sym k))
first_false false b k = refl

no_reserve_by : (n d m x : ℕ) (c : PrCommand) (a : _) → SparedBy n m c → reserves n d (Told (entry.Device (device_entry.Command m x c a))) ≡ false
no_reserve_by n d m x (command.Reserve kind key) a ne = first_false (m == n) (x == d) (not_same m n ne)
no_reserve_by n d m x (command.Register key new) a ne = refl
no_reserve_by n d m x (command.Ignore new) a ne = refl
no_reserve_by n d m x (command.Release kind key) a ne = refl
no_reserve_by n d m x (command.Clear key) a ne = refl
no_reserve_by n d m x (command.Preempt kind key victim) a ne = refl
no_reserve_by n d m x command.Keys a ne = refl
no_reserve_by n d m x command.Holder a ne = refl
no_reserve_by n d m x command.Read a ne = refl
no_reserve_by n d m x (command.Write value) a ne = refl
no_reserve_by n d m x command.Word a ne = refl
no_reserve_by n d m x (command.Swap expect new) a ne = refl

no_keys_by : (n d m x : ℕ) (c : PrCommand) (a : _) → SparedBy n m c → reads_keys n d (Told (entry.Device (device_entry.Command m x c a))) ≡ false
no_keys_by n d m x command.Keys a ne = first_false (m == n) (x == d) (not_same m n ne)
no_keys_by n d m x (command.Reserve kind key) a ne = refl
no_keys_by n d m x (command.Register key new) a ne = refl
no_keys_by n d m x (command.Ignore new) a ne = refl
no_keys_by n d m x (command.Release kind key) a ne = refl
no_keys_by n d m x (command.Clear key) a ne = refl
no_keys_by n d m x (command.Preempt kind key victim) a ne = refl
no_keys_by n d m x command.Holder a ne = refl
no_keys_by n d m x command.Read a ne = refl
no_keys_by n d m x (command.Write value) a ne = refl
no_keys_by n d m x command.Word a ne = refl
no_keys_by n d m x (command.Swap expect new) a ne = refl

no_reserve : (n d : ℕ) (x : Moment) → Spares n x → reserves n d x ≡ false
no_reserve n d (Told (entry.Device (device_entry.Command m x c a))) k = no_reserve_by n d m x c a k
no_reserve n d (Told (entry.Device (device_entry.Accepted q m x value))) k = refl
no_reserve n d (Told (entry.Device (device_entry.Refused m x value why))) k = refl
no_reserve n d _ k = refl

no_keys : (n d : ℕ) (x : Moment) → Spares n x → reads_keys n d x ≡ false
no_keys n d (Told (entry.Device (device_entry.Command m x c a))) k = no_keys_by n d m x c a k
no_keys n d (Told (entry.Device (device_entry.Accepted q m x value))) k = refl
no_keys n d (Told (entry.Device (device_entry.Refused m x value why))) k = refl
no_keys n d _ k = refl

-- ---- counting

pub count_skips : {X : Type 0} (p : X → Bool) (x : X) (xs : List X) → p x ≡ false → count_by p (x ∷ xs) ≡ count_by p xs
count_skips p x xs k = ap (λ b. fold (λ a y. a + cond (p y) 1 0) (0 + cond b 1 0) xs) k

sum_from : {X : Type 0} (f : X → ℕ) (k : ℕ) (xs : List X) → fold (λ a y. a + f y) k xs ≡ k + fold (λ a y. a + f y) 0 xs
sum_from f k [] = omega arith
sum_from f k (x ∷ xs) = by_sums (f x) (fold (λ a y. a + f y) (k + f x) xs) (fold (λ a y. a + f y) (0 + f x) xs) (fold (λ a y. a + f y) 0 xs) (sum_from f (k + f x) xs) (sum_from f (0 + f x) xs)
  where
    by_sums : (b c d e : ℕ) → c ≡ (k + b) + e → d ≡ (0 + b) + e → c ≡ k + d
    by_sums b c d e i j = omega (arith, i, j)

pub count_takes : {X : Type 0} (p : X → Bool) (x : X) (xs : List X) → p x ≡ true → count_by p (x ∷ xs) ≡ count_by p xs + 1
count_takes p x xs k = ap (λ b. fold (λ a y. a + cond (p y) 1 0) (0 + cond b 1 0) xs) k ∙ by_sum (count_by p xs) (sum_from (λ y. cond (p y) 1 0) 1 xs)
  where
    by_sum : (b : ℕ) → fold (λ a y. a + cond (p y) 1 0) 1 xs ≡ 1 + b → fold (λ a y. a + cond (p y) 1 0) 1 xs ≡ b + 1
    by_sum b i = omega (arith, i)

readings_stay : (n d : ℕ) (x : Moment) (ms : List Moment) → Spares n x → readings n d (x ∷ ms) ≡ readings n d ms
readings_stay n d x ms k =
    ap (λ zs. count_by (reads_keys n d) zs) (if_not (reserves n d x) [] (x ∷ since (reserves n d) ms) (no_reserve n d x k))
    ∙ count_skips (reads_keys n d) x (since (reserves n d) ms) (no_keys n d x k)

-- ---- tasks

step_stays : (h : Header) (ms : List Moment) (x : Moment) (n e d : ℕ) (s : SeizeStep) → IsNew ms x → list_any (is_attempt e) ms ≡ true → Spares n x → StepShown h ms n e d s
    → StepShown h (x ∷ ms) n e d s
step_stays h ms x n e d (step.ReadKeys reading) new begun spares k =
    let more : since (is_attempt e) (x ∷ ms) ≡ x ∷ since (is_attempt e) ms = since_more e x ms (leaves ms x e new begun).other in (
      subst (λ z. list_any (reserves n d) z ≡ true) (sym more) (or_right (reserves n d x) (list_any (reserves n d) (since (is_attempt e) ms)) k.0),
      ap (λ z. readings n d z + 1) more ∙ (ap (λ z. z + 1) (readings_stay n d x (since (is_attempt e) ms) spares) ∙ k.1),
      k.2,
    )
step_stays h ms x n e d (step.Preempt victim reading) new begun spares k =
    let more : since (is_attempt e) (x ∷ ms) ≡ x ∷ since (is_attempt e) ms = since_more e x ms (leaves ms x e new begun).other in (
      subst (λ z. list_any (reserves n d) z ≡ true) (sym more) (or_right (reserves n d x) (list_any (reserves n d) (since (is_attempt e) ms)) k.0),
      ap (λ z. readings n d z) more ∙ (readings_stay n d x (since (is_attempt e) ms) spares ∙ k.1),
      k.2,
    )
step_stays h ms x n e d (step.Ended r) new begun spares k = end_stays h e d n r x ms new begun k
step_stays h ms x n e d step.Check new begun spares k = tt
step_stays h ms x n e d step.Register new begun spares k = tt
step_stays h ms x n e d step.ReadWord new begun spares k = tt
step_stays h ms x n e d (step.Swap expected) new begun spares k = tt
step_stays h ms x n e d step.Reserve new begun spares k = tt
step_stays h ms x n e d (step.Confirm ks) new begun spares k = tt

work_stays : (h : Header) (ms : List Moment) (x : Moment) (n q d : ℕ) (w : Work) → IsNew ms x → Spares n x → WorkShown h ms n q d w → WorkShown h (x ∷ ms) n q d w
work_stays h ms x n q d (Seizes s) new spares k = (base_stays h ms x n q s new k.0, step_stays h ms x n q d s.step new k.0.of.0 spares k.1)
work_stays h ms x n q d (Joins j) new spares k = tt

tasks_stay : (h : Header) (ms : List Moment) (x : Moment) (n q : ℕ) (ts : List Task) → IsNew ms x → Spares n x → TasksShown h ms n q ts → TasksShown h (x ∷ ms) n q ts
tasks_stay h ms x n q [] new spares k = tt
tasks_stay h ms x n q (t ∷ ts) new spares k = (
  work_stays h ms x n q t.device t.work new spares k.0,
  either_maps (is_queued t) (AllByRecursion (Fresh h ms n q) ts) (TasksShown h ms n q ts) (AllByRecursion (Fresh h (x ∷ ms) n q) ts) (TasksShown h (x ∷ ms) n q ts)
      (all_fresh_stay h ms x n q ts new) (tasks_stay h ms x n q ts new spares) k.1,
)

-- ---- attempts, nodes and messages

was_asked : (h : Header) (ms : List Moment) (x : Moment) (e m : ℕ) (s : Seizing) → IsNew ms x → list_any (is_attempt e) ms ≡ true → (s.seizer ≡ Some m) ⊎ WasTried (Was h ms e) s.attached.device m
    → (s.seizer ≡ Some m) ⊎ WasTried (Was h (x ∷ ms) e) s.attached.device m
was_asked h ms x e m s new begun (inl last) = inl last
was_asked h ms x e m s new begun (inr tried) = inr (tried.0, tried_stays h e s.attached.device m tried.0 x ms new begun tried.1)

entries_stay : (h : Header) (ms : List Moment) (x : Moment) (e : ℕ) (plan : Plan) (promises : List Promised) (es : List Seizing) → IsNew ms x → list_any (is_attempt e) ms ≡ true
    → AllByRecursion (EntryTold (Was h ms e) plan promises) es → AllByRecursion (EntryTold (Was h (x ∷ ms) e) plan promises) es
entries_stay h ms x e plan promises [] new begun k = tt
entries_stay h ms x e plan promises (s ∷ es) new begun k = (
  record {
    place = k.0.place;
    among = k.0.among;
    told = λ m r seizer is. end_stays h e s.attached.device m r x ms new begun (k.0.told m r seizer is);
    asked = λ m is. was_asked h ms x e m s new begun (k.0.asked m is);
    shows = k.0.shows;
    left = k.0.left;
    nobody = k.0.nobody;
  },
  entries_stay h ms x e plan promises es new begun k.1,
)

promise_stays : (h : Header) (ms : List Moment) (x : Moment) (e : ℕ) (p : Promised) → IsNew ms x → PromiseShown h ms e p → PromiseShown h (x ∷ ms) e p
promise_stays h ms x e p new k = λ d is none. barred_stays h e d p.shown.summary.node x ms new (k d is none)

promises_stay : (h : Header) (ms : List Moment) (x : Moment) (e : ℕ) (ps : List Promised) → IsNew ms x → AllByRecursion (PromiseShown h ms e) ps → AllByRecursion (PromiseShown h (x ∷ ms) e) ps
promises_stay h ms x e [] new k = tt
promises_stay h ms x e (p ∷ ps) new k = (promise_stays h ms x e p new k.0, promises_stay h ms x e ps new k.1)

pub attempt_stays : (h : Header) (ms : List Moment) (x : Moment) (q : ℕ) (o : Option AttemptState) → IsNew ms x → AttemptIn h ms q o → AttemptIn h (x ∷ ms) q o
attempt_stays h ms x q None new k = tt
attempt_stays h ms x q (Some a) new k = record {
  reached = k.reached;
  of = of_stays ms x a.plan.epoch a.plan.members new k.of;
  some = k.some;
  epoch = k.epoch;
  plan = k.plan;
  promises = promises_stay h ms x a.plan.epoch a.promises new k.promises;
  rests = record { early = k.rests.early; past = k.rests.past; entries = entries_stay h ms x a.plan.epoch a.plan a.promises a.devices new k.of.0 k.rests.entries; apart = k.rests.apart };
}

pub up_stays : (h : Header) (past : Collected) (ms : List Moment) (x : Moment) (n : ℕ) (y : UpNode) → IsNew ms x → Spares n x → UpShown h past ms n y → UpShown h past (x ∷ ms) n y
up_stays h past ms x n y new spares k = record {
  tasks = tasks_stay h ms x n (session_of y) y.tasks new spares k.tasks;
  held = held_stay h ms x n (session_of y) y.tasks new k.held;
  seat = seat_stays h past ms x n y new k.seat;
  attempt = attempt_stays h ms x (session_of y) y.attempt new k.attempt;
  mine = k.mine;
}

pub node_stays : (h : Header) (past : Collected) (ms : List Moment) (x : Moment) (n : ℕ) (node : Node) → IsNew ms x → Spares n x → NodeShown h past ms n node → NodeShown h past (x ∷ ms) n node
node_stays h past ms x n Down new spares k = tt
node_stays h past ms x n (Up y) new spares k = up_stays h past ms x n y new spares k

pub says_stay : (h : Header) (past : Collected) (f : ℕ → ℕ) (ms : List Moment) (x : Moment) (from : ℕ) (b : Body) → IsNew ms x → SaysShown h past f ms from b → SaysShown h past f (x ∷ ms) from b
says_stay h past f ms x from (body.Seized e d r) new (inl fault) = inl fault
says_stay h past f ms x from (body.Seized e d r) new (inr k) = inr (begun_stays ms x e k.0, end_stays h e d from r x ms new k.0 k.1)
says_stay h past f ms x from (body.Promise e last members valid flagged committed pending) new (inl late) = inl late
says_stay h past f ms x from (body.Promise e last members valid flagged committed pending) new (inr shows) = inr (λ d is none. by_case d (shows d is none))
  where
    by_case : (d : ℕ) → Without h e d ms from ⊎ past e → Without h e d (x ∷ ms) from ⊎ past e
    by_case d (inl w) = inl (barred_stays h e d from x ms new w)
    by_case d (inr gone) = inr gone
says_stay h past f ms x from _ new k = tt

at_most : (a b c : ℕ) → a ≤ b → b ≤ c → a ≤ c
at_most a b c i j = omega (arith, i, j)

-- where nodes install more, and fewer collect
pub says_grow : (h : Header) (past later : Collected) (f g : ℕ → ℕ) (ms : List Moment) (from : ℕ) (b : Body) → ((e : ℕ) → past e → later e) → ((k : ℕ) → f k ≤ g k) → SaysShown h past f ms from b
    → SaysShown h later g ms from b
says_grow h past later f g ms from (body.Seized e d r) gone more (inl fault) = inl (fault.0, at_most e (f (coordinator e)) (g (coordinator e)) fault.1 (more (coordinator e)))
says_grow h past later f g ms from (body.Seized e d r) gone more (inr k) = inr k
says_grow h past later f g ms from (body.Promise e last members valid flagged committed pending) gone more (inl late) = inl (at_most e (f (coordinator e)) (g (coordinator e)) late (more (coordinator e)))
says_grow h past later f g ms from (body.Promise e last members valid flagged committed pending) gone more (inr shows) = inr (λ d is none. by_case d (shows d is none))
  where
    by_case : (d : ℕ) → Without h e d ms from ⊎ past e → Without h e d ms from ⊎ later e
    by_case d (inl w) = inl w
    by_case d (inr k) = inr (gone e k)
says_grow h past later f g ms from _ gone more k = tt

pub node_grows : (h : Header) (past later : Collected) (ms : List Moment) (n : ℕ) (node : Node) → ((e : ℕ) → past e → later e) → NodeShown h past ms n node → NodeShown h later ms n node
node_grows h past later ms n Down gone k = tt
node_grows h past later ms n (Up y) gone k = record { tasks = k.tasks; held = k.held; seat = seat_grow h past later ms n y gone k.seat; attempt = k.attempt; mine = k.mine }

asks_stay : (ms : List Moment) (x : Moment) (b : Body) → IsNew ms x → AsksOf ms b → AsksOf (x ∷ ms) b
asks_stay ms x (body.SeizeQuorum e members d) new k = of_stays ms x e members new k
asks_stay ms x (body.SeizeData e members d) new k = of_stays ms x e members new k
asks_stay ms x _ new k = tt

pub hand_stays : (h : Header) (past : Collected) (f : ℕ → ℕ) (ms : List Moment) (x : Moment) (told : Delivered) → IsNew ms x → HandShown h past f ms told → HandShown h past f (x ∷ ms) told
hand_stays h past f ms x None new k = tt
hand_stays h past f ms x (Some d) new k = (asks_stay ms x d.1.body new k.0, says_stay h past f ms x d.0 d.1.body new k.1)

pub letters_stay : (h : Header) (past : Collected) (f : ℕ → ℕ) (ms : List Moment) (x : Moment) (ls : List Letter) → IsNew ms x → AllByRecursion (LetterShown h past f ms) ls
    → AllByRecursion (LetterShown h past f (x ∷ ms)) ls
letters_stay h past f ms x [] new k = tt
letters_stay h past f ms x (l ∷ ls) new k = (says_stay h past f ms x l.from l.body new k.0, letters_stay h past f ms x ls new k.1)

pub letters_grow : (h : Header) (past later : Collected) (f g : ℕ → ℕ) (ms : List Moment) (ls : List Letter) → ((e : ℕ) → past e → later e) → ((k : ℕ) → f k ≤ g k)
    → AllByRecursion (LetterShown h past f ms) ls → AllByRecursion (LetterShown h later g ms) ls
letters_grow h past later f g ms [] gone more k = tt
letters_grow h past later f g ms (l ∷ ls) gone more k = (says_grow h past later f g ms l.from l.body gone more k.0, letters_grow h past later f g ms ls gone more k.1)
