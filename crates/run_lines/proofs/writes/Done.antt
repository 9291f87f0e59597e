-- A node that has nothing left to join in a session that it has installed has nothing later, as long as it is in this session.
use Rattle.std.specs.Prelude.{ℕ, ◌≡◌, ◌≢◌, ◌<◌, ◌≤◌, false, Option, None, Some}
use Rattle.std.proofs.Common.{refl, sym, ap, subst, ◌∙◌, arith}
use Rattle.attempt_laws.proofs.Stays.{installs_come_before}
use Rattle.ccr_commit.specs.Entries.{all_committed, with_next}
use Rattle.cl_base.specs.Sets.{has, set_without}
use Rattle.cmm_attempt.proofs.Basics.{if_either}
use Rattle.cmm_attempt.specs.Attempts.{AttemptState}
use Rattle.cmm_attempt.specs.Calls.{May as MayTake}
use Rattle.cmm_member.specs.Nodes.{NodeState, with_entries, with_joined, with_valid}
use Rattle.cmm_member.specs.Records.{NodeRecord}
use Rattle.device_queue.specs.Queue.{after_seize, joins}
use Rattle.node_model.specs.Members.{rested_by}
use Rattle.node_model.specs.Seats.{installed_of, promised_of, promising, record_of, session_of, state_of}
use Rattle.node_model.specs.declared.cluster.Cluster.{Cluster}
use Rattle.node_model.specs.declared.node.Node.{Node}
use Rattle.node_model.specs.declared.node.Node.TheVariants.{Down, Up}
use Rattle.node_model.specs.declared.node.UpNode.{UpNode}
use Rattle.node_model.specs.declared.seat.Seat.TheVariants.{Forming}
use Rattle.refinement.proofs.Attempts.{may_be_called}
use Rattle.refinement.proofs.Texts.{state_with}
use Rattle.refinement.specs.Doings.{Act, Change, Doing, acted, changed, effect, site}
use Rattle.refinement.specs.Doings.Act.{Accepts, Dates, Ends, Gives, Goes_on, Hears, Makes, Minds, Notes, Queues, Spreads, Stores, Takes, Ticks, Waits, Works, Writes}
use Rattle.refinement.specs.Doings.Change.{Acks, Admits, Commits, Counts, Distrusts, Installs, Leads, Prepares, Promises, Proposes, Sits, Starts}
use Rattle.refinement.specs.Doings.Doing.{Comes_up, Does, Forgets, Goes_down, Loses, Saves}
use Rattle.refinement.specs.Facts.{AttemptFacts, Facts, OfSeat}
use Rattle.refinement.specs.Guards.{May, MayAct, MayChange}
use Rattle.refinement.specs.Ties.{Delivered}
use Rattle.seize.specs.Seizing as seizing
use Rattle.run_lines.specs.writes.Joins.{SiteDone, UpDone}
use Rattle.run_lines.specs.writes.Sites.{FactsAt}
use Rattle.run_lines.proofs.writes.Tasks.{joins_seize, joins_taken}

-- ---- a node that is up

-- with the same record numbers and session, and no more to join
done_same : (p : ℕ) (x y : UpNode) → promised_of y ≡ promised_of x → session_of y ≡ session_of x → installed_of y ≡ installed_of x → (joins x.tasks ≡ false → joins y.tasks ≡ false) → UpDone p x → UpDone p y
done_same p x y promised session installed none h = (
  subst (λ z. p ≤ z) (sym promised) h.0,
  (λ at.
      let old : (installed_of x ≡ p) × (joins x.tasks ≡ false) = h.1 (sym session ∙ at) in
      (installed ∙ old.0, none old.1)),
)

-- the same state, entries, valid or joined devices apart
state_done : (p : ℕ) (x y : UpNode) (s : NodeState) → state_of y.seat ≡ s → s.saved.promised ≡ promised_of x → s.session ≡ session_of x → s.saved.installed ≡ installed_of x
    → (joins x.tasks ≡ false → joins y.tasks ≡ false) → UpDone p x → UpDone p y
state_done p x y s is promised session installed none h =
    done_same p x y (ap (λ (z : NodeState). z.saved.promised) is ∙ promised) (ap (λ (z : NodeState). z.session) is ∙ session) (ap (λ (z : NodeState). z.saved.installed) is ∙ installed) none h

-- in another session
above : (a b d : ℕ) → a ≤ b → b < d → a ≤ d
above a b d l m = omega (arith, l, m)

not_below : (a b : ℕ) → a ≤ b → b < a → ⊥
not_below a b l m = omega (arith, l, m)

less_not : (a b : ℕ) → a < b → a ≡ b → ⊥
less_not a b l e = omega (arith, l, e)

promised_done : (p q : ℕ) (x : UpNode) (o : Option AttemptState) → promised_of x < q → UpDone p x → UpDone p (rested_by (promising x q) o)
promised_done p q x None more h = (above p (promised_of x) q h.0 more, (λ at. absurd (not_below p (promised_of x) h.0 (subst (λ z. promised_of x < z) at more))))
promised_done p q x (Some a) more h = (above p (promised_of x) q h.0 more, (λ at. absurd (not_below p (promised_of x) h.0 (subst (λ z. promised_of x < z) at more))))

-- what is not installed is not it
install_done : (p : ℕ) (x y : UpNode) → promised_of y ≡ promised_of x → session_of y ≡ session_of x → installed_of x ≢ session_of x → UpDone p x → UpDone p y
install_done p x y promised session not_yet h = (
  subst (λ z. p ≤ z) (sym promised) h.0,
  (λ at.
      let here : session_of x ≡ p = sym session ∙ at in
      absurd (not_yet ((h.1 here).0 ∙ sym here))),
)

pub own_facts : (x : UpNode) (a : AttemptState) (s : NodeState) → Facts x → x.attempt ≡ Some a → x.seat ≡ Forming s → AttemptFacts s a
own_facts x a s f own seat = subst (λ z. OfSeat (Some a) z) seat (subst (λ o. OfSeat o x.seat) own f.attempt)

pub change_done : (c : Cluster) (n : ℕ) (told : Delivered) (x : UpNode) (ch : Change) (p : ℕ) → Facts x → MayChange c n told x ch → UpDone p x → UpDone p (changed c n x ch)
change_done c n told x (Promises q) p f may h = promised_done p q x x.attempt may.1 h
change_done c n told x (Leads q members) p f may h =
    (above p (promised_of x) q h.0 may.0, (λ at. absurd (not_below p (promised_of x) h.0 (subst (λ z. promised_of x < z) at may.0))))
change_done c n told x (Counts a k s i) p f may h =
    let g : AttemptFacts s a = own_facts x a s f may.0 may.1 in
    let take : MayTake a k = may_be_called c told a k may.2 in
    let below : s.saved.installed < a.plan.epoch = g.before (installs_come_before a k i g.reached take may.3) in
    install_done p x (changed c n x (Counts a k s i)) (ap (λ z. (state_of z).saved.promised) (sym may.1)) (ap (λ z. (state_of z).session) (sym may.1))
    (λ is. less_not s.saved.installed a.plan.epoch below
    (ap (λ z. (state_of z).saved.installed) (sym may.1) ∙ (is ∙ (ap (λ z. (state_of z).session) may.1 ∙ sym g.epoch)))) h
change_done c n told x (Installs s i) p f may h =
    install_done p x (changed c n x (Installs s i)) (ap (λ z. (state_of z).saved.promised) (sym may.0)) (ap (λ z. (state_of z).session) (sym may.0))
    (λ is. may.4 (ap (λ z. (state_of z).saved.installed) (sym may.0) ∙ (is ∙ (ap (λ z. (state_of z).session) may.0 ∙ may.3)))) h
change_done c n told x (Starts a k s) p f may h =
    done_same p x (changed c n x (Starts a k s)) (ap (λ z. (state_of z).saved.promised) (sym may.1)) (ap (λ z. (state_of z).session) (sym may.1)) (ap (λ z. (state_of z).saved.installed) (sym may.1)) (λ none. none) h
change_done c n told x (Sits s e) p f may h =
    done_same p x (changed c n x (Sits s e)) (ap (λ z. (state_of z).saved.promised) (sym may.0)) (ap (λ z. (state_of z).session) (sym may.0)) (ap (λ z. (state_of z).saved.installed) (sym may.0)) (λ none. none) h
change_done c n told x (Distrusts d) p f may h =
    let s : NodeState = with_valid (state_of x.seat) (set_without (record_of x).valid d) in
    state_done p x (changed c n x (Distrusts d)) s (state_with x.seat s) refl refl refl (λ none. none) h
change_done c n told x (Admits at command a d) p f may h =
    let s : NodeState = with_joined (state_of x.seat) d in
    state_done p x (changed c n x (Admits at command a d)) s (state_with x.seat s) refl refl refl (λ none. joins_taken a x.tasks none) h
change_done c n told x (Proposes s o text) p f may h =
    let t : NodeState = with_entries (state_of x.seat) (with_next (record_of x).entries text) in
    state_done p x (changed c n x (Proposes s o text)) t (state_with x.seat t) refl refl refl (λ none. none) h
change_done c n told x (Acks s o q left text) p f may h =
    let t : NodeState = with_entries (state_of x.seat) (all_committed (record_of x).entries) in
    state_done p x (changed c n x (Acks s o q left text)) t (state_with x.seat t) refl refl refl (λ none. none) h
change_done c n told x (Prepares s text) p f may h =
    done_same p x (changed c n x (Prepares s text)) (ap (λ z. (state_of z).saved.promised) (sym may.0)) (ap (λ z. (state_of z).session) (sym may.0)) (ap (λ z. (state_of z).saved.installed) (sym may.0)) (λ none. none) h
change_done c n told x (Commits s) p f may h =
    done_same p x (changed c n x (Commits s)) (ap (λ z. (state_of z).saved.promised) (sym may.0)) (ap (λ z. (state_of z).session) (sym may.0)) (ap (λ z. (state_of z).saved.installed) (sym may.0)) (λ none. none) h

act_done : (c : Cluster) (n : ℕ) (told : Delivered) (x : UpNode) (a : Act) (p : ℕ) → Facts x → MayAct c n told x a → UpDone p x → UpDone p (acted c n x a)
act_done c n told x (Hears from b) p f may h = h
act_done c n told x Ticks p f may h = h
act_done c n told x Waits p f may h = h
act_done c n told x (Goes_on a k) p f may h = h
act_done c n told x (Ends a e) p f may h = h
act_done c n told x (Queues a d kind) p f may h =
    let s : seizing.SeizeState = seizing.begun kind a.plan.epoch a.plan.members n c.id (has (record_of x).valid d) in
    let y : UpNode = record x { tasks = after_seize x.tasks d s } in
    if_either (UpDone p) (has a.plan.members n) y x (done_same p x y refl refl refl (λ none. joins_seize x.tasks d s ∙ none) h) h
act_done c n told x (Accepts kind e members d) p f may h =
    done_same p x (acted c n x (Accepts kind e members d)) refl refl refl (λ none. joins_seize x.tasks d (seizing.begun kind e members n c.id (has (record_of x).valid d)) ∙ none) h
act_done c n told x (Takes at command a) p f may h = done_same p x (acted c n x (Takes at command a)) refl refl refl (λ none. joins_taken a x.tasks none) h
act_done c n told x (Stores d value a) p f may h = h
act_done c n told x (Writes to b) p f may h = h
act_done c n told x (Gives os) p f may h = h
act_done c n told x (Spreads receivers b) p f may h = h
act_done c n told x (Minds q o) p f may h = h
act_done c n told x (Notes from place o) p f may h = h
act_done c n told x (Dates now) p f may h = h
act_done c n told x (Works w) p f may h = h
act_done c n told x (Makes change) p f may h = change_done c n told x change p f may.0 h

-- ---- with its disk

come_up_done : (c : Cluster) (n p : ℕ) (disk : NodeRecord) → 0 < p → p ≤ disk.promised → SiteDone (effect c n (site Down disk) Comes_up) p
come_up_done c n p disk some kept = record { some = some; kept = kept; done = (kept, (λ at. absurd (less_not 0 p some at))) }

pub doing_done : (c : Cluster) (n : ℕ) (told : Delivered) (node : Node) (disk : NodeRecord) (d : Doing) (p : ℕ) → FactsAt n node disk → May c n told (site node disk) d → SiteDone (site node disk) p
    → SiteDone (effect c n (site node disk) d) p
doing_done c n told Down disk Comes_up p f may h = come_up_done c n p disk h.some h.kept
doing_done c n told (Up x) disk Comes_up p f may h = absurd may
doing_done c n told node disk (Goes_down why) p f may h = record { some = h.some; kept = h.kept; done = tt }
doing_done c n told Down disk (Does a) p f may h = absurd may
doing_done c n told (Up x) disk (Does a) p f may h = record { some = h.some; kept = h.kept; done = act_done c n told x a p f.0 may h.done }
doing_done c n told Down disk (Saves change) p f may h = absurd may
doing_done c n told (Up x) disk (Saves change) p f may h =
    let after : UpDone p (changed c n x change) = change_done c n told x change p f.0 may h.done in
    record { some = h.some; kept = after.0; done = after }
doing_done c n told Down disk (Loses change why) p f may h = absurd may
doing_done c n told (Up x) disk (Loses change why) p f may h = record { some = h.some; kept = (change_done c n told x change p f.0 may h.done).0; done = tt }
doing_done c n told node disk (Forgets change why) p f may h = record { some = h.some; kept = h.kept; done = tt }
