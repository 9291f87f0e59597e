-- What a node has told of its session stays true as the node goes on.
use Rattle.std.specs.Prelude.{ℕ, ◌≡◌, ◌<◌, ◌≤◌, [], Option, None, Some}
use Rattle.std.proofs.Common.{arith, refl, sym, ap, subst, ◌∙◌}
use Rattle.attempt_laws.proofs.Goes.{chosen_reached, goes_by_call}
use Rattle.attempt_laws.proofs.Stays.{plan_stays}
use Rattle.attempt_laws.proofs.Walk.{if_with}
use Rattle.cl_base.specs.Seizings.{SeizeResult}
use Rattle.cl_base.specs.Sets.{has}
use Rattle.cmm_attempt.specs.Attempts.{AttemptState, install_in}
use Rattle.cmm_attempt.specs.Calls.{Call, turn}
use Rattle.cmm_attempt.specs.declared.plan.Plan.{Plan}
use Rattle.cmm_member.specs.Nodes.{NodeState}
use Rattle.cmm_member.specs.Records.{NodeRecord}
use Rattle.device_queue.specs.Queue.{after_seize}
use Rattle.membership_machine.specs.State.{Memberships}
use Rattle.node_model.specs.Members.{rested_by}
use Rattle.node_model.specs.Seats.{installed_of, promised_of, promising, record_of, session_of, state_of, with_state}
use Rattle.node_model.specs.declared.cluster.Cluster.{Cluster}
use Rattle.node_model.specs.declared.node.UpNode.{UpNode}
use Rattle.node_model.specs.declared.seat.Seat.{Seat}
use Rattle.node_model.specs.declared.seat.Seat.TheVariants.{Forming, Member}
use Rattle.refinement.proofs.Attempts.{install_epoch, may_be_called}
use Rattle.refinement.proofs.Changes.{Sees, sees}
use Rattle.refinement.specs.Doings.{Act, Change, acted, changed}
use Rattle.refinement.specs.Doings.Act.{Accepts, Dates, Ends, Gives, Goes_on, Hears, Makes, Minds, Notes, Queues, Spreads, Stores, Takes, Ticks, Waits, Works, Writes}
use Rattle.refinement.specs.Doings.Change.{Acks, Admits, Commits, Counts, Distrusts, Installs, Leads, Prepares, Promises, Proposes, Sits, Starts}
use Rattle.refinement.specs.Guards.{MayAct, MayChange}
use Rattle.refinement.specs.Ties.{Delivered}
use Rattle.run_history.proofs.Changes.{At, at_attempt, session_after}
use Rattle.run_history.proofs.Ups.{same_state}
use Rattle.run_history.specs.Guards.{HasEnded}
use Rattle.seize.specs.Seizing as seizing
use Rattle.wire.specs.declared.message.Install.{Install}
use Rattle.run_outcomes.specs.tasks.Said.{AreSingle, Said, Tale}
use Rattle.run_outcomes.proofs.said.Ended.{answer_ended, answer_single, seize_ended, seize_single}

-- in the same session, with what has ended, and more
said_on : (L : Tale) (x y : UpNode) → session_of y ≡ session_of x → installed_of y ≡ installed_of x → ((d : ℕ) (r : SeizeResult) → HasEnded x.tasks d r → HasEnded y.tasks d r)
    → (AreSingle x.tasks → AreSingle y.tasks) → Said L x → Said L y
said_on L x y session installed more one k = record {
  kept = λ e d r tells some at ne. more d r (k.kept e d r tells some (at ∙ session) (λ is. ne (installed ∙ is)));
  single = λ ne. one (k.single (λ is. ne (installed ∙ (is ∙ sym session))));
}

said_same : (L : Tale) (x y : UpNode) → session_of y ≡ session_of x → installed_of y ≡ installed_of x → y.tasks ≡ x.tasks → Said L x → Said L y
said_same L x y session installed tasks k =
    said_on L x y session installed (λ d r ended. subst (λ ts. HasEnded ts d r) (sym tasks) ended) (λ one. subst AreSingle (sym tasks) one) k

-- once it has installed its session
said_installed : (L : Tale) (y : UpNode) → installed_of y ≡ session_of y → Said L y
said_installed L y is = record { kept = λ e d r tells some at ne. absurd (ne (is ∙ sym at)); single = λ ne. absurd (ne is) }

too_high : (e a b : ℕ) → e ≤ a → a < b → e ≡ b → ⊥
too_high e a b l m is = omega (arith, l, m, is)

-- in a new session
said_entered : (L : Tale) (y : UpNode) (low : ℕ) → ((e d : ℕ) (r : SeizeResult) → L e d r → 0 < e → e ≤ low) → low < session_of y → y.tasks ≡ [] → Said L y
said_entered L y low all above none = record {
  kept = λ e d r tells some at ne. absurd (too_high e low (session_of y) (all e d r tells some) above at);
  single = λ ne. subst AreSingle (sym none) tt;
}

rested_said : (L : Tale) (x : UpNode) (p : ℕ) (o : Option AttemptState) → ((e d : ℕ) (r : SeizeResult) → L e d r → 0 < e → e ≤ promised_of x) → promised_of x < p → Said L (rested_by (promising x p) o)
rested_said L x p None all above = said_entered L (promising x p) (promised_of x) all above refl
rested_said L x p (Some a) all above = said_entered L (rested_by (promising x p) (Some a)) (promised_of x) all above refl

-- ---- changes

installed_at : (x : UpNode) (seat : Seat) → x.seat ≡ seat → (state_of seat).saved.installed ≡ installed_of x
installed_at x seat is = sym (ap (λ z. (state_of z).saved.installed) is)

of_state : (seat : Seat) (s : NodeState) → (state_of (with_state seat s)).saved.installed ≡ s.saved.installed
of_state seat s = ap (λ (z : NodeState). z.saved.installed) (same_state seat s)

-- it installs its session
counts_session : (c : Cluster) (M : Memberships) (n : ℕ) (told : Delivered) (disk : NodeRecord) (x : UpNode) (a : AttemptState) (q : Call) (s : NodeState) (i : Install) → At c M n told disk x
    → MayChange c n told x (Counts a q s i) → i.epoch ≡ session_of (changed c n x (Counts a q s i))
counts_session c M n told disk x a q s i at may =
    let gives : i ≡ install_in (turn a q).after =
    at_attempt c M n told disk x a (i ≡ install_in (turn a q).after) at may.0
    (λ z shows co. ((goes_by_call a q (may_be_called c told a q may.2) (chosen_reached a co.reached)).install i may.3).1) in
    let plan : (turn a q).after.plan ≡ a.plan = plan_stays a q (may_be_called c told a q may.2) in
    let epoch : i.epoch ≡ a.plan.epoch = ap (λ (z : Install). z.epoch) gives ∙ (install_epoch (turn a q).after ∙ ap (λ (z : Plan). z.epoch) plan) in
    let sight : Sees M n disk (state_of x.seat) = sees c M n disk x.attempt x.seat at.tied.0 in
    let own : a.plan.epoch ≡ session_of x = at_attempt c M n told disk x a (a.plan.epoch ≡ session_of x) at may.0 (λ z shows co. co.epoch ∙ (sym shows ∙ sight.session)) in
    epoch ∙ (own ∙ sym (session_after c n told x (Counts a q s i) may tt (λ p e. cc)))

installs_session : (c : Cluster) (n : ℕ) (told : Delivered) (x : UpNode) (s : NodeState) (i : Install) → MayChange c n told x (Installs s i) → i.epoch ≡ session_of (changed c n x (Installs s i))
installs_session c n told x s i may =
    sym may.3 ∙ (ap (λ (z : NodeState). z.session) (sym (ap state_of may.0)) ∙ sym (session_after c n told x (Installs s i) may tt (λ p e. cc)))

pub change_said : (L : Tale) (c : Cluster) (M : Memberships) (n : ℕ) (told : Delivered) (disk : NodeRecord) (x : UpNode) (ch : Change) → At c M n told disk x → MayChange c n told x ch
    → ((e d : ℕ) (r : SeizeResult) → L e d r → 0 < e → e ≤ promised_of x) → Said L x → Said L (changed c n x ch)
change_said L c M n told disk x (Promises p) at may low k = rested_said L x p x.attempt low may.1
change_said L c M n told disk x (Leads p members) at may low k = said_entered L (changed c n x (Leads p members)) (promised_of x) low may.0 refl
change_said L c M n told disk x (Counts a q s i) at may low k = said_installed L (changed c n x (Counts a q s i)) (counts_session c M n told disk x a q s i at may)
change_said L c M n told disk x (Installs s i) at may low k = said_installed L (changed c n x (Installs s i)) (installs_session c n told x s i may)
change_said L c M n told disk x (Starts a q s) at may low k =
    said_same L x (changed c n x (Starts a q s)) (session_after c n told x (Starts a q s) may tt (λ p e. cc)) (installed_at x (Forming s) may.1) refl k
change_said L c M n told disk x (Sits s e) at may low k =
    said_same L x (changed c n x (Sits s e)) (session_after c n told x (Sits s e) may tt (λ p e. cc)) (installed_at x (Forming s) may.0) refl k
change_said L c M n told disk x (Distrusts d) at may low k =
    said_same L x (changed c n x (Distrusts d)) (session_after c n told x (Distrusts d) may tt (λ p e. cc)) (of_state x.seat _) refl k
change_said L c M n told disk x (Admits on command a d) at may low k =
    said_on L x (changed c n x (Admits on command a d)) (session_after c n told x (Admits on command a d) may tt (λ p e. cc)) (of_state x.seat _)
    (λ d r ended. answer_ended x.tasks a d r ended) (λ one. answer_single x.tasks a one) k
change_said L c M n told disk x (Proposes s p text) at may low k =
    said_same L x (changed c n x (Proposes s p text)) (session_after c n told x (Proposes s p text) may tt (λ p e. cc)) (of_state x.seat _) refl k
change_said L c M n told disk x (Acks s p q left text) at may low k =
    said_same L x (changed c n x (Acks s p q left text)) (session_after c n told x (Acks s p q left text) may tt (λ p e. cc)) (of_state x.seat _) refl k
change_said L c M n told disk x (Prepares s text) at may low k =
    said_same L x (changed c n x (Prepares s text)) (session_after c n told x (Prepares s text) may tt (λ p e. cc)) (installed_at x (Member s) may.0) refl k
change_said L c M n told disk x (Commits s) at may low k =
    said_same L x (changed c n x (Commits s)) (session_after c n told x (Commits s) may tt (λ p e. cc)) (installed_at x (Member s) may.0) refl k

-- ---- acts

seizes_said : (L : Tale) (x : UpNode) (d : ℕ) (s : seizing.SeizeState) → Said L x → Said L (record x { tasks = after_seize x.tasks d s })
seizes_said L x d s k = said_on L x (record x { tasks = after_seize x.tasks d s }) refl refl (λ at r ended. seize_ended x.tasks d s at r ended) (λ one. seize_single x.tasks d s one) k

pub act_said : (L : Tale) (c : Cluster) (M : Memberships) (n : ℕ) (told : Delivered) (disk : NodeRecord) (x : UpNode) (a : Act) → At c M n told disk x → MayAct c n told x a
    → ((e d : ℕ) (r : SeizeResult) → L e d r → 0 < e → e ≤ promised_of x) → Said L x → Said L (acted c n x a)
act_said L c M n told disk x (Makes ch) at may low k = change_said L c M n told disk x ch at may.0 low k
act_said L c M n told disk x (Queues a d kind) at may low k =
    let s : seizing.SeizeState = seizing.begun kind a.plan.epoch a.plan.members n c.id (has (record_of x).valid d) in
    if_with (λ y. Said L y) (has a.plan.members n) (has a.plan.members n) (record x { tasks = after_seize x.tasks d s }) x refl (λ is. seizes_said L x d s k) (λ none. k)
act_said L c M n told disk x (Accepts kind e members d) at may low k = seizes_said L x d (seizing.begun kind e members n c.id (has (record_of x).valid d)) k
act_said L c M n told disk x (Takes on command a) at may low k =
    said_on L x (acted c n x (Takes on command a)) refl refl (λ d r ended. answer_ended x.tasks a d r ended) (λ one. answer_single x.tasks a one) k
act_said L c M n told disk x (Goes_on b q) at may low k = said_same L x (acted c n x (Goes_on b q)) refl refl refl k
act_said L c M n told disk x (Ends b end) at may low k = said_same L x (acted c n x (Ends b end)) refl refl refl k
act_said L c M n told disk x (Hears from b) at may low k = said_same L x (acted c n x (Hears from b)) refl refl refl k
act_said L c M n told disk x Ticks at may low k = said_same L x (acted c n x Ticks) refl refl refl k
act_said L c M n told disk x Waits at may low k = said_same L x (acted c n x Waits) refl refl refl k
act_said L c M n told disk x (Stores d value a) at may low k = k
act_said L c M n told disk x (Writes to b) at may low k = k
act_said L c M n told disk x (Gives os) at may low k = k
act_said L c M n told disk x (Spreads receivers b) at may low k = k
act_said L c M n told disk x (Minds q p) at may low k = said_same L x (acted c n x (Minds q p)) refl refl refl k
act_said L c M n told disk x (Notes from place p) at may low k = said_same L x (acted c n x (Notes from place p)) refl refl refl k
act_said L c M n told disk x (Dates now) at may low k = said_same L x (acted c n x (Dates now)) refl refl refl k
act_said L c M n told disk x (Works w) at may low k = said_same L x (acted c n x (Works w)) refl refl refl k
