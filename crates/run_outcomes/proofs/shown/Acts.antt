-- What a node is after each act, and what it gives.
use Rattle.std.specs.Prelude.{All, ℕ, ◌≡◌, ◌≤◌, ◌⊎◌, true, List, Option, None, Some}
use Rattle.std.proofs.Common.{refl, sym, ap, subst, ◌∙◌, inl, inr, arith}
use Rattle.cl_base.specs.Sets.{has}
use Rattle.cmm_attempt.proofs.Basics.{false_true, if_either}
use Rattle.cmm_attempt.specs.Attempts.{AttemptState, Turn}
use Rattle.cmm_attempt.specs.Calls.{IsDevice}
use Rattle.cmm_member.specs.Records.{NodeRecord}
use Rattle.device_queue.specs.Queue.{after_answer, after_seize}
use Rattle.node_model.specs.Seats.{promised_of, record_of, session_of}
use Rattle.node_model.specs.declared.cluster.Cluster.{Cluster}
use Rattle.node_model.specs.declared.node.UpNode.{UpNode}
use Rattle.refinement.specs.Doings.{Act, Change, acted, answered_so, changed, site}
use Rattle.refinement.specs.Doings.Act.{Accepts, Dates, Ends, Gives, Goes_on, Hears, Makes, Minds, Notes, Queues, Spreads, Stores, Takes, Ticks, Waits, Works, Writes}
use Rattle.refinement.specs.Doings.Change.{Acks, Admits, Commits, Counts, Distrusts, Installs, Leads, Prepares, Promises, Proposes, Sits, Starts}
use Rattle.refinement.specs.Guards.{MayAct, MayChange, Says}
use Rattle.refinement.specs.Runs.{IsAmong, Letter}
use Rattle.refinement.specs.Ties.{Delivered}
use Rattle.run_history.specs.Guards.{Hand, MadeAt, hand_by, request_as}
use Rattle.node_model.specs.declared.node.Node.TheVariants.{Up}
use Rattle.seize.specs.Seizing as seizing
use Rattle.seize.specs.Answers.{Answer}
use Rattle.seize.specs.declared.kind.SeizeKind.{SeizeKind}
use Rattle.seize.specs.declared.kind.SeizeKind.TheVariants.{Plain, Vote}
use Rattle.run_outcomes.specs.tasks.Laws.{is_plain, seizes_plainly}
use Rattle.run_outcomes.specs.tasks.Shown.{Agree, AgreesIn, AsksData, AttemptIn, FollowsSo, HandIn, HandSent, SiteSo, TurnSo, UpSo}
use Rattle.run_outcomes.proofs.shown.Goes.{Alike, attempt_in, leads, up_alike, up_with}
use Rattle.run_outcomes.proofs.shown.Changes.{AtDevice, change_agrees, change_goes}
use Rattle.run_outcomes.proofs.shown.Nodes.{attempt_turned, turn_begins}
use Rattle.run_outcomes.proofs.shown.Tasks.{answer_fits, answer_plain, seize_fits, seize_more, seize_new}

-- ---- a task more

-- a request without votes has come
pub plain_asked : (L : List Letter) (told : Delivered) (kind : SeizeKind) (e members d : ℕ) → HandSent L told → Says (λ b. b ≡ request_as kind e members d) told → is_plain kind ≡ true → AsksData L e d
plain_asked L None kind e members d hand says is = absurd says
plain_asked L (Some x) Plain e members d hand says is = record { from = x.0; members = members; among = subst (λ b. IsAmong x.0 b L) says hand }
plain_asked L (Some x) Vote e members d hand says is = absurd (false_true is)

seized_more : (L : List Letter) (n e members d cluster : ℕ) (kind : SeizeKind) (x : UpNode) → (is_plain kind ≡ true → AsksData L (session_of x) d)
    → FollowsSo L n x → FollowsSo L n (record x { tasks = after_seize x.tasks d (seizing.begun kind e members n cluster (has (record_of x).valid d)) })
seized_more L n e members d cluster kind x asked h = record {
  shown = h.shown;
  held = λ v k range z valid. by_side k (h.held v k range z valid);
  plain = λ k z. by_new k (seize_new k d x.tasks _ z);
  fit = seize_fits d x.tasks kind e members n cluster (has (record_of x).valid d) h.fit;
}
  where
    by_side : (k : ℕ) → (has (record_of x).valid k ≡ true) ⊎ (seizes_plainly k x.tasks ≡ true)
        → (has (record_of x).valid k ≡ true) ⊎ (seizes_plainly k (after_seize x.tasks d (seizing.begun kind e members n cluster (has (record_of x).valid d))) ≡ true)
    by_side k (inl z) = inl z
    by_side k (inr z) = inr (seize_more k d x.tasks _ z)

    by_new : (k : ℕ) → (seizes_plainly k x.tasks ≡ true) ⊎ ((d ≡ k) × (is_plain kind ≡ true)) → AsksData L (session_of x) k
    by_new k (inl z) = h.plain k z
    by_new k (inr z) = subst (λ j. AsksData L (session_of x) j) z.0 (asked z.1)

answered_follows : (L : List Letter) (n : ℕ) (x : UpNode) (a : Answer) → FollowsSo L n x → FollowsSo L n (answered_so x a)
answered_follows L n x a h = record {
  shown = h.shown;
  held = λ v d range z valid. by_side d (h.held v d range z valid);
  plain = λ d z. h.plain d (sym (answer_plain d a x.tasks) ∙ z);
  fit = answer_fits a x.tasks h.fit;
}
  where
    by_side : (d : ℕ) → (has (record_of x).valid d ≡ true) ⊎ (seizes_plainly d x.tasks ≡ true) → (has (record_of x).valid d ≡ true) ⊎ (seizes_plainly d (after_answer x.tasks a) ≡ true)
    by_side d (inl z) = inl z
    by_side d (inr z) = inr (answer_plain d a x.tasks ∙ z)

-- ---- each act

-- what an act asks beside
abbrev pub ActAt : Delivered → Act → Type 0
ActAt told (Accepts kind e members d) = Says (λ b. b ≡ request_as kind e members d) told
ActAt told (Makes ch) = MadeAt ch
ActAt told _ = Unit {0}

pub made_device : (x : UpNode) (ch : Change) → MadeAt ch → AtDevice x ch
made_device x (Starts a k s) m = tt
made_device x (Sits s e) m = tt
made_device x (Promises p) m = absurd m
made_device x (Leads p members) m = absurd m
made_device x (Counts a k s i) m = absurd m
made_device x (Installs s i) m = absurd m
made_device x (Distrusts d) m = absurd m
made_device x (Admits on command a d) m = absurd m
made_device x (Proposes s p text) m = absurd m
made_device x (Acks s p q left text) m = absurd m
made_device x (Prepares s text) m = absurd m
made_device x (Commits s) m = absurd m

pub record Acted (L : List Letter) (n : ℕ) (x y : UpNode) : Type 0 where
  pub up : UpSo L n y
  pub same : record_of y ≡ record_of x

pub act_up : (L : List Letter) (c : Cluster) (n : ℕ) (told : Delivered) (x : UpNode) (disk : NodeRecord) (a : Act) → All IsDevice c.attached → Agree L → HandSent L told → MayAct c n told x a → ActAt told a
    → SiteSo L n (site (Up x) disk) → Acted L n x (acted c n x a)
act_up L c n told x disk a fits agree hand may at h = by_act a may at
  where
    up : UpSo L n x
    up = h.up.1

    alike : (y : UpNode) → Alike x y → AttemptIn L n (session_of x) y.attempt → record_of y ≡ record_of x → Acted L n x y
    alike y k tries same = record { up = up_alike L n x y k tries up; same = same }

    still : (y : UpNode) → Alike x y → y.attempt ≡ x.attempt → record_of y ≡ record_of x → Acted L n x y
    still y k tries same = alike y k (subst (λ o. AttemptIn L n (session_of x) o) (sym tries) up.attempt) same

    itself : Acted L n x x
    itself = record { up = up; same = refl }

    by_act : (a : Act) → MayAct c n told x a → ActAt told a → Acted L n x (acted c n x a)
    by_act (Hears from b) m k = still (acted c n x (Hears from b)) (record { session = refl; installed = refl; promised = refl; valid = refl; tasks = refl }) refl refl
    by_act Ticks m k = still (acted c n x Ticks) (record { session = refl; installed = refl; promised = refl; valid = refl; tasks = refl }) refl refl
    by_act Waits m k = still (acted c n x Waits) (record { session = refl; installed = refl; promised = refl; valid = refl; tasks = refl }) refl refl
    by_act (Goes_on b q) m k =
        alike (acted c n x (Goes_on b q)) (record { session = refl; installed = refl; promised = refl; valid = refl; tasks = refl })
        (attempt_turned L c told n (session_of x) b q agree hand m.1 (attempt_in L n (session_of x) x.attempt b m.0 up.attempt)) refl
    by_act (Ends b e) m k = alike (acted c n x (Ends b e)) (record { session = refl; installed = refl; promised = refl; valid = refl; tasks = refl }) tt refl
    by_act (Queues b d kind) m k =
        if_either (Acted L n x) (has b.plan.members n) (record x { tasks = after_seize x.tasks d (seizing.begun kind b.plan.epoch b.plan.members n c.id (has (record_of x).valid d)) }) x
        (record { up = up_with L n x _ refl refl refl refl (λ f so. absurd (f.other (leads L n x b m up))) up; same = refl }) itself
    by_act (Accepts kind e members d) m k =
        record {
          up = up_with L n x (acted c n x (Accepts kind e members d)) refl refl refl refl
              (λ f so. seized_more L n e members d c.id kind x (λ is. subst (λ q. AsksData L q d) m (plain_asked L told kind e members d hand k is)) so) up;
          same = refl;
        }
    by_act (Takes on command b) m k = record { up = up_with L n x (acted c n x (Takes on command b)) refl refl refl refl (λ f so. answered_follows L n x b so) up; same = refl }
    by_act (Makes ch) m k = record { up = (change_goes L c n told x disk ch fits agree hand m.0 (made_device x ch k) h).up; same = m.1 }
    by_act (Stores d value b) m k = itself
    by_act (Writes to b) m k = itself
    by_act (Gives os) m k = itself
    by_act (Spreads receivers b) m k = itself
    by_act (Minds q p) m k = still (acted c n x (Minds q p)) (record { session = refl; installed = refl; promised = refl; valid = refl; tasks = refl }) refl refl
    by_act (Notes from place p) m k = still (acted c n x (Notes from place p)) (record { session = refl; installed = refl; promised = refl; valid = refl; tasks = refl }) refl refl
    by_act (Dates now) m k = still (acted c n x (Dates now)) (record { session = refl; installed = refl; promised = refl; valid = refl; tasks = refl }) refl refl
    by_act (Works w) m k = still (acted c n x (Works w)) (record { session = refl; installed = refl; promised = refl; valid = refl; tasks = refl }) refl refl

-- ---- the steps in hand

pub turn_at : (L : List Letter) (n before after : ℕ) (o p : Option AttemptState) (u : Turn) → before ≤ after → (u.after.plan.epoch ≤ before → AgreesIn u.after o → AgreesIn u.after p) → TurnSo L n before o u → TurnSo L n after p u
turn_at L n before after o p u rises agrees h = record {
  low = most u.after.plan.epoch before after h.low rises;
  some = h.some;
  own = h.own;
  coordinator = h.coordinator;
  promises = h.promises;
  asked_data = h.asked_data;
  quorum = h.quorum;
  steps = h.steps;
  agrees = agrees h.low h.agrees;
}
  where
    most : (a b d : ℕ) → a ≤ b → b ≤ d → a ≤ d
    most a b d k l = omega (arith, k, l)

no_less : (a : ℕ) → a ≤ a
no_less a = omega arith

same_less : (a b : ℕ) → b ≡ a → a ≤ b
same_less a b e = subst (λ z. a ≤ z) (sym e) (no_less a)

pub hand_changed : (L : List Letter) (c : Cluster) (n : ℕ) (told : Delivered) (x : UpNode) (ch : Change) (g : Hand) → MayChange c n told x ch → promised_of x ≤ promised_of (changed c n x ch) → HandIn L n (record_of x) (Up x) g
    → HandIn L n (record_of x) (Up (changed c n x ch)) g
hand_changed L c n told x ch None may rises h = tt
hand_changed L c n told x ch (Some u) may rises h =
    turn_at L n (promised_of x) (promised_of (changed c n x ch)) x.attempt (changed c n x ch).attempt u rises (λ low agrees. change_agrees c n told x ch u.after may low agrees) h

hand_with : (L : List Letter) (n : ℕ) (x y : UpNode) (g : Hand) → record_of y ≡ record_of x → ((t : AttemptState) → t.plan.epoch ≤ promised_of x → AgreesIn t x.attempt → AgreesIn t y.attempt) → HandIn L n (record_of x) (Up x) g → HandIn L n (record_of x) (Up y) g
hand_with L n x y None same agrees h = tt
hand_with L n x y (Some u) same agrees h =
    turn_at L n (promised_of x) (promised_of y) x.attempt y.attempt u (same_less (promised_of x) (promised_of y) (ap (λ (r : NodeRecord). r.promised) same)) (λ low k. agrees u.after low k) h

pub hand_acted : (L : List Letter) (c : Cluster) (n : ℕ) (told : Delivered) (x : UpNode) (a : Act) (g : Hand) → MayAct c n told x a → Acted L n x (acted c n x a) → HandIn L n (record_of x) (Up x) g → HandIn L n (record_of x) (Up (acted c n x a)) (hand_by g a)
hand_acted L c n told x a g may k h = by_act a may k
  where
    by_act : (a : Act) → MayAct c n told x a → Acted L n x (acted c n x a) → HandIn L n (record_of x) (Up (acted c n x a)) (hand_by g a)
    by_act (Goes_on b q) m z = turn_begins L c told n (session_of x) (promised_of x) b q m.1 z.up.session z.up.attempt
    by_act (Ends b e) m z = hand_with L n x (acted c n x (Ends b e)) g refl (λ t low agrees. tt) h
    by_act (Makes ch) m z = hand_changed L c n told x ch g m.0 (same_less (promised_of x) (promised_of (changed c n x ch)) (ap (λ (r : NodeRecord). r.promised) m.1)) h
    by_act (Queues b d kind) m z =
        if_either (λ y. HandIn L n (record_of x) (Up y) g) (has b.plan.members n) (record x { tasks = after_seize x.tasks d (seizing.begun kind b.plan.epoch b.plan.members n c.id (has (record_of x).valid d)) }) x
        (hand_with L n x (record x { tasks = after_seize x.tasks d (seizing.begun kind b.plan.epoch b.plan.members n c.id (has (record_of x).valid d)) }) g refl (λ t low agrees. agrees) h) h
    by_act (Accepts kind e members d) m z = hand_with L n x (acted c n x (Accepts kind e members d)) g refl (λ t low agrees. agrees) h
    by_act (Hears from b) m z = hand_with L n x (acted c n x (Hears from b)) g refl (λ t low agrees. agrees) h
    by_act Ticks m z = hand_with L n x (acted c n x Ticks) g refl (λ t low agrees. agrees) h
    by_act Waits m z = hand_with L n x (acted c n x Waits) g refl (λ t low agrees. agrees) h
    by_act (Takes on command b) m z = hand_with L n x (acted c n x (Takes on command b)) g refl (λ t low agrees. agrees) h
    by_act (Stores d value b) m z = h
    by_act (Writes to b) m z = h
    by_act (Gives os) m z = h
    by_act (Spreads receivers b) m z = h
    by_act (Minds q p) m z = hand_with L n x (acted c n x (Minds q p)) g refl (λ t low agrees. agrees) h
    by_act (Notes from place p) m z = hand_with L n x (acted c n x (Notes from place p)) g refl (λ t low agrees. agrees) h
    by_act (Dates now) m z = hand_with L n x (acted c n x (Dates now)) g refl (λ t low agrees. agrees) h
    by_act (Works w) m z = hand_with L n x (acted c n x (Works w)) g refl (λ t low agrees. agrees) h
