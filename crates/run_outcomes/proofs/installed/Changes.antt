-- What each small step of a node makes of its session, and of what it has installed.
use Rattle.std.specs.Prelude.{ℕ, ◌<◌, ◌≡◌, ◌≢◌, ◌≤◌, ◌⊎◌, Bool, true, Option, None, Some}
use Rattle.std.proofs.Common.{arith, refl, sym, ap, subst, ◌∙◌, inl}
use Rattle.cl_base.specs.Sets.{has}
use Rattle.cmm_attempt.proofs.Basics.{if_either}
use Rattle.cmm_attempt.specs.Attempts.{AttemptState}
use Rattle.cmm_member.specs.Nodes.{NodeState}
use Rattle.cmm_member.specs.Records.{NodeRecord}
use Rattle.device_queue.specs.Queue.{after_seize}
use Rattle.history.specs.Setting.{coordinator}
use Rattle.membership_machine.specs.Records.{Saved}
use Rattle.membership_machine.specs.State.{Memberships}
use Rattle.node_model.specs.Members.{rested_by}
use Rattle.node_model.specs.Seats.{installed_of, promised_of, promising, record_of, session_of, state_of, with_state}
use Rattle.node_model.specs.declared.cluster.Cluster.{Cluster}
use Rattle.node_model.specs.declared.node.UpNode.{UpNode}
use Rattle.node_model.specs.declared.seat.Seat.{Seat}
use Rattle.node_model.specs.declared.seat.Seat.TheVariants.{Forming, Member}
use Rattle.refinement.proofs.Changes.{Sees, sees}
use Rattle.refinement.specs.Doings.{Act, Change, acted, changed}
use Rattle.refinement.specs.Doings.Act.{Accepts, Dates, Ends, Gives, Goes_on, Hears, Makes, Minds, Notes, Queues, Spreads, Stores, Takes, Ticks, Waits, Works, Writes}
use Rattle.refinement.specs.Doings.Change.{Acks, Admits, Commits, Counts, Distrusts, Installs, Leads, Prepares, Promises, Proposes, Sits, Starts}
use Rattle.refinement.specs.Guards.{MayAct, MayChange, Says}
use Rattle.refinement.specs.Ties.{Delivered}
use Rattle.run_history.proofs.Changes.{At, own_session, session_after}
use Rattle.run_history.proofs.Ups.{same_state}
use Rattle.seize.specs.Seizing as seizing
use Rattle.wire.specs.declared.message.Body.TheVariants as body
use Rattle.wire.specs.declared.message.Install.{Install}
use Rattle.run_outcomes.specs.reports.Installs.{InstallsIn, IsInstallOf}

-- the Install in hand has come
abbrev pub HandCame : (ℕ → Bool) → Delivered → Type 0
HandCame came told = (i : Install) → Says (λ b. b ≡ body.Install i) told → came i.epoch ≡ true

-- ---- the same session

record Same (x y : UpNode) : Type 0 where
  session : session_of y ≡ session_of x
  installed : installed_of y ≡ installed_of x
  promised : promised_of y ≡ promised_of x

same_in : (came : ℕ → Bool) (n : ℕ) (told : Delivered) (x y : UpNode) → Same x y → InstallsIn came n told x → InstallsIn came n told y
same_in came n told x y same k = record {
  low = λ e is. subst (λ p. e ≤ p) (sym same.promised) (k.low e is);
  back = λ some other is. subst (λ q. came q ≡ true) (sym same.session)
      (k.back (subst (λ q. 0 < q) same.session some) (subst (λ q. coordinator q ≢ n) same.session other) (sym same.installed ∙ (is ∙ same.session)));
  forth = λ some other is. subst (λ q. (installed_of y ≡ q) ⊎ Says (λ b. IsInstallOf q b) told) (sym same.session)
      (subst (λ j. (j ≡ session_of x) ⊎ Says (λ b. IsInstallOf (session_of x) b) told) (sym same.installed)
      (k.forth (subst (λ q. 0 < q) same.session some) (subst (λ q. coordinator q ≢ n) same.session other) (subst (λ q. came q ≡ true) same.session is)));
}

installed_at : (x : UpNode) (seat : Seat) → x.seat ≡ seat → (state_of seat).saved.installed ≡ installed_of x
installed_at x seat is = sym (ap (λ z. (state_of z).saved.installed) is)

promised_at : (x : UpNode) (seat : Seat) → x.seat ≡ seat → (state_of seat).saved.promised ≡ promised_of x
promised_at x seat is = sym (ap (λ z. (state_of z).saved.promised) is)

installed_in : (seat : Seat) (s : NodeState) → (state_of (with_state seat s)).saved.installed ≡ s.saved.installed
installed_in seat s = ap (λ (z : NodeState). z.saved.installed) (same_state seat s)

promised_in : (seat : Seat) (s : NodeState) → (state_of (with_state seat s)).saved.promised ≡ s.saved.promised
promised_in seat s = ap (λ (z : NodeState). z.saved.promised) (same_state seat s)

-- ---- a new session

at_most : (e a b : ℕ) → e ≤ a → a < b → e ≤ b
at_most e a b h k = omega (arith, h, k)

too_low : (a b q : ℕ) → a ≤ b → b < q → a ≡ q → ⊥
too_low a b q h k e = omega (arith, h, k, e)

too_high : (a b q : ℕ) → q ≤ b → b < q → ⊥
too_high a b q h k = omega (arith, h, k)

-- which was just promised
record Entered (x y : UpNode) (p : ℕ) : Type 0 where
  session : session_of y ≡ p
  promised : promised_of y ≡ p
  installed : installed_of y ≡ installed_of x

entered_in : (came : ℕ → Bool) (n p : ℕ) (told : Delivered) (x y : UpNode) → promised_of x < p → installed_of x ≤ promised_of x → Entered x y p → InstallsIn came n told x → InstallsIn came n told y
entered_in came n p told x y above order new k = record {
  low = λ e is. subst (λ q. e ≤ q) (sym new.promised) (at_most e (promised_of x) p (k.low e is) above);
  back = λ some other is. absurd (too_low (installed_of x) (promised_of x) p order above (sym new.installed ∙ (is ∙ new.session)));
  forth = λ some other is. absurd (too_high 0 (promised_of x) p (k.low p (subst (λ q. came q ≡ true) new.session is)) above);
}

rested_entered : (x : UpNode) (p : ℕ) (o : Option AttemptState) → Entered x (rested_by (promising x p) o) p
rested_entered x p None = record { session = refl; promised = refl; installed = refl }
rested_entered x p (Some a) = record { session = refl; promised = refl; installed = refl }

-- ---- an own session

own_in : (came : ℕ → Bool) (n : ℕ) (told : Delivered) (x y : UpNode) → coordinator (session_of y) ≡ n → promised_of x ≤ promised_of y → InstallsIn came n told x → InstallsIn came n told y
own_in came n told x y own rises k = record {
  low = λ e is. most e (promised_of x) (promised_of y) (k.low e is) rises;
  back = λ some other is. absurd (other own);
  forth = λ some other is. absurd (other own);
}
  where
    most : (e a b : ℕ) → e ≤ a → a ≤ b → e ≤ b
    most e a b h l = omega (arith, h, l)

no_less : (a b : ℕ) → b ≡ a → a ≤ b
no_less a b e = omega (arith, e)

less : (a b : ℕ) → a < b → a ≤ b
less a b h = omega (arith, h)

-- ---- changes

order_of : (c : Cluster) (M : Memberships) (n : ℕ) (told : Delivered) (disk : NodeRecord) (x : UpNode) → At c M n told disk x → installed_of x ≤ promised_of x
order_of c M n told disk x at =
    let seen : Sees M n disk (state_of x.seat) = sees c M n disk x.attempt x.seat at.tied.0 in
    subst (λ p. installed_of x ≤ p) seen.promised (subst (λ i. i ≤ (M.node n).promised) (ap (λ (z : Saved). z.installed) seen.saved) (at.holds.node n).installed)

pub change_in : (came : ℕ → Bool) (c : Cluster) (M : Memberships) (n : ℕ) (told : Delivered) (disk : NodeRecord) (x : UpNode) (ch : Change) → At c M n told disk x → MayChange c n told x ch → HandCame came told
    → InstallsIn came n told x → InstallsIn came n told (changed c n x ch)
change_in came c M n told disk x ch at may hand k = by_change ch may
  where
    same : (ch : Change) → session_of (changed c n x ch) ≡ session_of x → installed_of (changed c n x ch) ≡ installed_of x → promised_of (changed c n x ch) ≡ promised_of x → InstallsIn came n told (changed c n x ch)
    same ch session installed promised = same_in came n told x (changed c n x ch) (record { session = session; installed = installed; promised = promised }) k

    by_change : (ch : Change) → MayChange c n told x ch → InstallsIn came n told (changed c n x ch)
    by_change (Promises p) m = entered_in came n p told x (changed c n x (Promises p)) m.1 (order_of c M n told disk x at) (rested_entered x p x.attempt) k
    by_change (Leads p members) m = own_in came n told x (changed c n x (Leads p members)) m.1 (less (promised_of x) p m.0) k
    by_change (Counts a q s i) m =
        own_in came n told x (changed c n x (Counts a q s i))
        (ap coordinator (session_after c n told x (Counts a q s i) m tt (λ p e. cc)) ∙ own_session c M n told disk x a at m.0) (no_less (promised_of x) _ (promised_at x (Forming s) m.1)) k
    by_change (Installs s i) m =
        let session : session_of (changed c n x (Installs s i)) ≡ session_of x = session_after c n told x (Installs s i) m tt (λ p e. cc) in
        let is : i.epoch ≡ session_of (changed c n x (Installs s i)) = sym m.3 ∙ (ap (λ (z : NodeState). z.session) (sym (ap state_of m.0)) ∙ sym session) in
        record {
          low = λ e came_so. subst (λ p. e ≤ p) (sym (promised_at x (Forming s) m.0)) (k.low e came_so);
          back = λ some other at_so. subst (λ q. came q ≡ true) is (hand i m.1);
          forth = λ some other came_so. inl is;
        }
    by_change (Starts a q s) m = same (Starts a q s) (session_after c n told x (Starts a q s) m tt (λ p e. cc)) (installed_at x (Forming s) m.1) (promised_at x (Forming s) m.1)
    by_change (Sits s e) m = same (Sits s e) (session_after c n told x (Sits s e) m tt (λ p e. cc)) (installed_at x (Forming s) m.0) (promised_at x (Forming s) m.0)
    by_change (Distrusts d) m = same (Distrusts d) (session_after c n told x (Distrusts d) m tt (λ p e. cc)) (installed_in x.seat _) (promised_in x.seat _)
    by_change (Admits on command a d) m = same (Admits on command a d) (session_after c n told x (Admits on command a d) m tt (λ p e. cc)) (installed_in x.seat _) (promised_in x.seat _)
    by_change (Proposes s p text) m = same (Proposes s p text) (session_after c n told x (Proposes s p text) m tt (λ p e. cc)) (installed_in x.seat _) (promised_in x.seat _)
    by_change (Acks s p q left text) m = same (Acks s p q left text) (session_after c n told x (Acks s p q left text) m tt (λ p e. cc)) (installed_in x.seat _) (promised_in x.seat _)
    by_change (Prepares s text) m = same (Prepares s text) (session_after c n told x (Prepares s text) m tt (λ p e. cc)) (installed_at x (Member s) m.0) (promised_at x (Member s) m.0)
    by_change (Commits s) m = same (Commits s) (session_after c n told x (Commits s) m tt (λ p e. cc)) (installed_at x (Member s) m.0) (promised_at x (Member s) m.0)

-- ---- acts

pub act_in : (came : ℕ → Bool) (c : Cluster) (M : Memberships) (n : ℕ) (told : Delivered) (disk : NodeRecord) (x : UpNode) (a : Act) → At c M n told disk x → MayAct c n told x a → HandCame came told
    → InstallsIn came n told x → InstallsIn came n told (acted c n x a)
act_in came c M n told disk x a at may hand k = by_act a may
  where
    same : (y : UpNode) → session_of y ≡ session_of x → installed_of y ≡ installed_of x → promised_of y ≡ promised_of x → InstallsIn came n told y
    same y session installed promised = same_in came n told x y (record { session = session; installed = installed; promised = promised }) k

    by_act : (b : Act) → MayAct c n told x b → InstallsIn came n told (acted c n x b)
    by_act (Makes ch) m = change_in came c M n told disk x ch at m.0 hand k
    by_act (Queues b d kind) m =
        let s : seizing.SeizeState = seizing.begun kind b.plan.epoch b.plan.members n c.id (has (record_of x).valid d) in
        if_either (InstallsIn came n told) (has b.plan.members n) (record x { tasks = after_seize x.tasks d s }) x (same (record x { tasks = after_seize x.tasks d s }) refl refl refl) k
    by_act (Goes_on b q) m = same (acted c n x (Goes_on b q)) refl refl refl
    by_act (Ends b e) m = same (acted c n x (Ends b e)) refl refl refl
    by_act (Accepts kind e members d) m = same (acted c n x (Accepts kind e members d)) refl refl refl
    by_act (Takes on command b) m = same (acted c n x (Takes on command b)) refl refl refl
    by_act (Stores d value b) m = k
    by_act (Writes to b) m = k
    by_act (Gives os) m = k
    by_act (Spreads receivers b) m = k
    by_act (Hears from b) m = same (acted c n x (Hears from b)) refl refl refl
    by_act Ticks m = same (acted c n x Ticks) refl refl refl
    by_act Waits m = same (acted c n x Waits) refl refl refl
    by_act (Minds q p) m = same (acted c n x (Minds q p)) refl refl refl
    by_act (Notes from place p) m = same (acted c n x (Notes from place p)) refl refl refl
    by_act (Dates now) m = same (acted c n x (Dates now)) refl refl refl
    by_act (Works w) m = same (acted c n x (Works w)) refl refl refl
