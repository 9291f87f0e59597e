-- What holds in every state that commands and losses of power lead to.
use Rattle.std.proofs.Common.{◌≡◌, ℕ, ◌≤◌, ◌+◌, ◌==◌, Bool, true, false, cond, List, [], ◌∷◌, ◌++◌, map, Option, Some, None, IfSome, count_by, refl, ◌∙◌, ap, subst, arith, inl, inr}
use Rattle.std.proofs.lemmas.Bool.{eqb-true, ne_eqb, cond_both, cases_Bool, or_cases, or_parts, or_from}
use Rattle.std.proofs.lemmas.List.Sums.{sum_by-cons}
use Rattle.cl_base.specs.Sets.{has}
use Rattle.pgr_device.specs.declared.kind.PrKind.{PrKind}
use Rattle.pgr_device.specs.declared.registration.Registration.{Registration}
use Rattle.pgr_device.specs.declared.registration.Reservation.{Reservation}
use Rattle.pgr_device.specs.declared.command.PrCommand.{PrCommand}
use Rattle.pgr_device.specs.declared.command.PrCommand.TheVariants as command
use Rattle.pgr_device.specs.declared.command.PrAnswer.{PrAnswer}
use Rattle.pgr_device.specs.declared.command.PrAnswer.TheVariants as answer
use Rattle.pgr_device.specs.declared.run.Step.{Step}
use Rattle.pgr_device.specs.declared.run.Step.TheVariants.{Command, PowerLoss}
use Rattle.pgr_device.specs.Access.{same_kind}
use Rattle.pgr_device.specs.Device.{Device, fresh, with_keys}
use Rattle.pgr_device.specs.Kept.{IsApart, IsHeld, IsDevice}
use Rattle.pgr_device.specs.Registered.{registered_key, is_registered, has_key, without_node, without_key, rekeyed}
use Rattle.pgr_device.specs.Runs.{run, run_answers, IsRun}
use Rattle.pgr_device.specs.Spc.{Outcome, answers, good, conflict, with_key, released_by, shows_key, reserving, releasing, cleared, is_holders, preempted, preempting, swapping, may_read, may_write, carried_out, step}
use Rattle.pgr_device.specs.Statements.{RegisteredOnce, RegisteredWithPath, NoZeroKey, HolderIsRegistered}
use Rattle.pgr_device.proofs.FirstKeys.{with_keys_is}
use Rattle.pgr_device.proofs.Keeps.{step_keeps}

pub run_keeps : (d : Device) (steps : List Step) → IsRun steps → IsDevice d → IsDevice (run d steps)
run_keeps d [] ok h = h
run_keeps d (Command node c ∷ steps) ok h = run_keeps (step d node c).after steps ok.3 (step_keeps d node c ok.0 ok.1 ok.2 h)
run_keeps d (PowerLoss ∷ steps) ok h = run_keeps d steps ok h

pub fresh_is : (paths : ℕ) → IsDevice (fresh paths)
fresh_is paths = record { apart = tt; held = tt }

-- the paths stay
stays_if : (p : ℕ) (b : Bool) (x y : Outcome) → x.after.paths ≡ p → y.after.paths ≡ p → (cond b x y).after.paths ≡ p
stays_if p b x y first second = cond_both b x y (λ (o : Outcome). o.after.paths ≡ p) (λ _. first) (λ _. second)

stays_with : (p : ℕ) (b : Bool) (x y : Device) → x.paths ≡ p → y.paths ≡ p → (cond b x y).paths ≡ p
stays_with p b x y first second = cond_both b x y (λ (d : Device). d.paths ≡ p) (λ _. first) (λ _. second)

with_key_stays : (d : Device) (node new : ℕ) (held : Option ℕ) → (with_key d node new held).paths ≡ d.paths
with_key_stays d node new None =
    stays_with d.paths (new == 0) d (record d { registrations = d.registrations ++ record { node = node; key = new } ∷ [] }) refl refl
with_key_stays d node new (Some key) =
    stays_with d.paths (new == 0) (record d { registrations = without_node node d.registrations; reservation = released_by node d.reservation })
    (record d { registrations = map (rekeyed node new) d.registrations }) refl refl

reserving_stays : (d : Device) (node : ℕ) (kind : PrKind) (held : Option Reservation) → (reserving d node kind held).after.paths ≡ d.paths
reserving_stays d node kind None = refl
reserving_stays d node kind (Some held) = stays_if d.paths _ (good d) (conflict d) refl refl

releasing_stays : (d : Device) (node : ℕ) (kind : PrKind) (held : Option Reservation) → (releasing d node kind held).after.paths ≡ d.paths
releasing_stays d node kind None = refl
releasing_stays d node kind (Some held) =
    stays_if d.paths (held.holder == node) _ (good d)
    (stays_if d.paths (same_kind held.kind kind) (good (record d { reservation = None })) (answers d answer.InvalidRelease) refl refl) refl

preempting_stays : (d : Device) (node : ℕ) (kind : PrKind) (victim : ℕ) → (preempting d node kind victim).after.paths ≡ d.paths
preempting_stays d node kind victim =
    stays_if d.paths (has_key d.registrations victim) (good (preempted d node kind victim)) (conflict d)
    (stays_with d.paths (is_holders d.registrations victim d.reservation)
    (record d { registrations = without_key victim d.registrations; reservation = Some (record { holder = node; kind = kind }) })
    (record d { registrations = without_key victim d.registrations }) refl refl)
    refl

swapping_stays : (d : Device) (expect new : ℕ) → (swapping d expect new).after.paths ≡ d.paths
swapping_stays d expect new = stays_if d.paths (d.word == expect) (good (record d { word = new })) (answers d (answer.Miscompare d.word)) refl refl

carried_out_stays : (d : Device) (node : ℕ) (c : PrCommand) → (carried_out d node c).after.paths ≡ d.paths
carried_out_stays d node (command.Register key new) = stays_if d.paths _ _ (conflict d) (with_key_stays d node new (registered_key d.registrations node)) refl
carried_out_stays d node (command.Ignore new) = with_key_stays d node new (registered_key d.registrations node)
carried_out_stays d node (command.Reserve kind key) = stays_if d.paths (shows_key (registered_key d.registrations node) key) _ (conflict d) (reserving_stays d node kind d.reservation) refl
carried_out_stays d node (command.Release kind key) = stays_if d.paths (shows_key (registered_key d.registrations node) key) _ (conflict d) (releasing_stays d node kind d.reservation) refl
carried_out_stays d node (command.Clear key) = stays_if d.paths (shows_key (registered_key d.registrations node) key) (good (cleared d)) (conflict d) refl refl
carried_out_stays d node (command.Preempt kind key victim) =
    stays_if d.paths (shows_key (registered_key d.registrations node) key) (preempting d node kind victim) (conflict d) (preempting_stays d node kind victim) refl
carried_out_stays d node command.Keys = refl
carried_out_stays d node command.Holder = refl
carried_out_stays d node command.Read = stays_if d.paths (may_read d.registrations node d.reservation) (answers d (answer.Value d.value)) (conflict d) refl refl
carried_out_stays d node (command.Write value) = stays_if d.paths (may_write d.registrations node d.reservation) (good (record d { value = value })) (conflict d) refl refl
carried_out_stays d node command.Word = stays_if d.paths (may_read d.registrations node d.reservation) (answers d (answer.Word d.word)) (conflict d) refl refl
carried_out_stays d node (command.Swap expect new) =
    stays_if d.paths (may_write d.registrations node d.reservation) (swapping d expect new) (conflict d) (swapping_stays d expect new) refl

pub run_stays : (d : Device) (steps : List Step) → (run d steps).paths ≡ d.paths
run_stays d [] = refl
run_stays d (Command node c ∷ steps) =
    run_stays (step d node c).after steps ∙ stays_if d.paths (has d.paths node) (carried_out d node c) (answers d answer.NoPath) (carried_out_stays d node c) refl
run_stays d (PowerLoss ∷ steps) = run_stays d steps

-- a node is registered once
abbrev weight : Bool → ℕ
weight b = cond b 1 0

count_by_cons : (p : Registration → Bool) (r : Registration) (rs : List Registration) → count_by p (r ∷ rs) ≡ weight (p r) + count_by p rs
count_by_cons p r rs = sum_by-cons (λ (q : Registration). cond (p q) 1 0) r rs

count_none : (rs : List Registration) (n : ℕ) → is_registered rs n ≡ false → count_by (λ r. r.node == n) rs ≡ 0
count_none [] n h = refl
count_none (r ∷ rs) n h =
    let apart = or_parts (r.node == n) (is_registered rs n) h in
    count_by_cons (λ (q : Registration). q.node == n) r rs
    ∙ ap (λ (b : Bool). weight b + count_by (λ (q : Registration). q.node == n) rs) apart.0
    ∙ omega (arith, count_none rs n apart.1)

count_once : (paths : ℕ) (rs : List Registration) (n : ℕ) → IsApart paths rs → count_by (λ r. r.node == n) rs ≤ 1
count_once paths [] n h = omega arith
count_once paths (r ∷ rs) n h = elim (cases_Bool (r.node == n)) [
  | inl here ↦
      (let later : count_by (λ (q : Registration). q.node == n) rs ≡ 0 = count_none rs n (subst (λ (m : ℕ). is_registered rs m ≡ false) (eqb-true r.node n here) h.4) in
      let one : weight (r.node == n) ≡ 1 = ap weight here in
      omega (arith, count_by_cons (λ (q : Registration). q.node == n) r rs, later, one))
  | inr other ↦
      (let none : weight (r.node == n) ≡ 0 = ap weight other in
      omega (arith, count_by_cons (λ (q : Registration). q.node == n) r rs, count_once paths rs n h.5, none))
]

has_path : (paths : ℕ) (rs : List Registration) (n : ℕ) → IsApart paths rs → is_registered rs n ≡ true → has paths n ≡ true
has_path paths [] n h there = absurd (cc)
has_path paths (r ∷ rs) n h there = elim (or_cases (r.node == n) (is_registered rs n) there) [
  | inl here ↦ subst (λ (m : ℕ). has paths m ≡ true) (eqb-true r.node n here) h.2
  | inr later ↦ has_path paths rs n h.5 later
]

not_zero : (paths : ℕ) (rs : List Registration) → IsApart paths rs → has_key rs 0 ≡ false
not_zero paths [] h = refl
not_zero paths (r ∷ rs) h = or_from (r.key == 0) (has_key rs 0) (ne_eqb r.key 0 h.3) (not_zero paths rs h.5)

is_held : (rs : List Registration) (held : Option Reservation) → IsHeld rs held → IfSome held (λ r. is_registered rs r.holder ≡ true)
is_held rs None h = tt
is_held rs (Some held) h = h

once_from : (d : Device) (node : ℕ) (steps : List Step) → IsDevice d → IsRun steps → count_by (λ r. r.node == node) (run d steps).registrations ≤ 1
once_from d node steps h ok = count_once (run d steps).paths (run d steps).registrations node (run_keeps d steps ok h).apart

path_from : (d : Device) (node : ℕ) (steps : List Step) → IsDevice d → IsRun steps → is_registered (run d steps).registrations node ≡ true → has d.paths node ≡ true
path_from d node steps h ok there =
    subst (λ (p : ℕ). has p node ≡ true) (run_stays d steps) (has_path (run d steps).paths (run d steps).registrations node (run_keeps d steps ok h).apart there)

no_zero_from : (d : Device) (steps : List Step) → IsDevice d → IsRun steps → has_key (run d steps).registrations 0 ≡ false
no_zero_from d steps h ok = not_zero (run d steps).paths (run d steps).registrations (run_keeps d steps ok h).apart

holder_from : (d : Device) (steps : List Step) → IsDevice d → IsRun steps → IfSome (run d steps).reservation (λ held. is_registered (run d steps).registrations held.holder ≡ true)
holder_from d steps h ok = is_held (run d steps).registrations (run d steps).reservation (run_keeps d steps ok h).held

pub once : RegisteredOnce fresh
once paths node steps ok = once_from (fresh paths) node steps (fresh_is paths) ok

pub path : RegisteredWithPath fresh
path paths node steps ok there = path_from (fresh paths) node steps (fresh_is paths) ok there

pub no_zero : NoZeroKey fresh
no_zero paths steps ok = no_zero_from (fresh paths) steps (fresh_is paths) ok

pub holder : HolderIsRegistered fresh
holder paths steps ok = holder_from (fresh paths) steps (fresh_is paths) ok

pub once_keyed : (nodes cluster : ℕ) → RegisteredOnce (λ paths. with_keys paths nodes cluster)
once_keyed nodes cluster paths node steps ok = once_from (with_keys paths nodes cluster) node steps (with_keys_is paths nodes cluster) ok

pub path_keyed : (nodes cluster : ℕ) → RegisteredWithPath (λ paths. with_keys paths nodes cluster)
path_keyed nodes cluster paths node steps ok there = path_from (with_keys paths nodes cluster) node steps (with_keys_is paths nodes cluster) ok there

pub no_zero_keyed : (nodes cluster : ℕ) → NoZeroKey (λ paths. with_keys paths nodes cluster)
no_zero_keyed nodes cluster paths steps ok = no_zero_from (with_keys paths nodes cluster) steps (with_keys_is paths nodes cluster) ok

pub holder_keyed : (nodes cluster : ℕ) → HolderIsRegistered (λ paths. with_keys paths nodes cluster)
holder_keyed nodes cluster paths steps ok = holder_from (with_keys paths nodes cluster) steps (with_keys_is paths nodes cluster) ok

pub loss_after : (d : Device) (steps later : List Step) → run d (steps ++ PowerLoss ∷ later) ≡ run d (steps ++ later)
loss_after d [] later = refl
loss_after d (Command node c ∷ steps) later = loss_after (step d node c).after steps later
loss_after d (PowerLoss ∷ steps) later = loss_after d steps later

pub loss_answers : (d : Device) (steps later : List Step) → run_answers d (steps ++ PowerLoss ∷ later) ≡ run_answers d (steps ++ later)
loss_answers d [] later = refl
loss_answers d (Command node c ∷ steps) later = ap (λ (rest : List PrAnswer). (step d node c).answer ∷ rest) (loss_answers (step d node c).after steps later)
loss_answers d (PowerLoss ∷ steps) later = loss_answers d steps later
