-- In no step does a node send a request to seize but of its last attempt, nor this, a Collect or an Install to itself.
use Rattle.std.specs.Prelude.{ℕ, ◌==◌, ◌++◌, ◌≡◌, Bool, true, false, List, [], ◌∷◌, Option, Some, if◌then◌else◌}
use Rattle.std.proofs.Common.{refl, sym, ap, subst}
use Rattle.attempt_laws.proofs.Stays.{plan_begins, plan_stays}
use Rattle.cmm_attempt.proofs.Basics.{false_true}
use Rattle.cmm_attempt.specs.Attempts.{AttemptState}
use Rattle.cmm_attempt.specs.Calls.{Call, May as May_call, turn}
use Rattle.cmm_attempt.specs.declared.plan.Plan.{Plan}
use Rattle.cmm_member.specs.Records.{NodeRecord}
use Rattle.history.specs.Setting.{coordinator}
use Rattle.node_model.specs.Attempts.{own_promise}
use Rattle.node_model.specs.Entries.{unknown_lines}
use Rattle.node_model.specs.Seats.{promising}
use Rattle.node_model.specs.declared.cluster.Cluster.{Cluster}
use Rattle.node_model.specs.declared.node.Node.{Node}
use Rattle.node_model.specs.declared.node.Node.TheVariants.{Down, Up}
use Rattle.node_model.specs.declared.node.UpNode.{UpNode}
use Rattle.node_model.specs.declared.output.Output.{Output}
use Rattle.node_model.specs.declared.output.Output.TheVariants.{Tells}
use Rattle.refinement.proofs.Attempts.{may_be_called}
use Rattle.refinement.specs.Doings.{Act, Change, Doing, Site, acted, changed, effect, first_lines, given_all, gives, last_lines, said, saved_lines, site}
use Rattle.refinement.specs.Doings.Act.{Accepts, Dates, Ends, Gives, Goes_on, Hears, Makes, Minds, Notes, Queues, Spreads, Stores, Takes, Ticks, Waits, Works, Writes}
use Rattle.refinement.specs.Doings.Change.{Acks, Admits, Commits, Counts, Distrusts, Installs, Leads, Prepares, Promises, Proposes, Sits, Starts}
use Rattle.refinement.specs.Doings.Doing.{Comes_up, Does, Forgets, Goes_down, Loses, Saves}
use Rattle.refinement.specs.Guards.{May, MayAct, MayAll, MayChange}
use Rattle.refinement.specs.Ties.{Delivered}
use Rattle.run_history.specs.Marks.{AllSo, DoingSo, ActSo}
use Rattle.run_seizings.proofs.Promising.{same_so}
use Rattle.status_report.specs.declared.attempt_entry.AttemptEntry.TheVariants as attempt
use Rattle.status_report.specs.declared.entry.Entry.TheVariants as entry
use Rattle.run_outcomes.proofs.phases.Leading.{Has, act_has, change_has}
use Rattle.run_outcomes.proofs.requests.Given.{IsOther, append_asks, lost_quiet, made_quiet, quiet_asks, quiet_last, said_quiet, saved_quiet, unknown_quiet, write_asks}
use Rattle.run_outcomes.specs.phases.Kept.{In}
use Rattle.run_outcomes.specs.reports.Requests.{AreQuiet, ActFrom, AllFrom, DoingFrom, HandLast, IsLast, OutsAsk, Tried, by_act, by_change, by_doing, last_of}
use Rattle.run_outcomes.specs.saves.Courses.{LeavesAct}
use Rattle.run_outcomes.specs.saves.Kept.{IsAt}

-- ---- the last attempt

abbrev last_change : Option ℕ → Change → Option ℕ
last_change o (Leads p members) = Some p
last_change o _ = o

call_last : (n : ℕ) (o : Option ℕ) (a : AttemptState) (k : Call) → May_call a k → IsLast n o a → IsLast n o (turn a k).after
call_last n o a k may h = subst (λ (p : Plan). (o ≡ Some p.epoch) × (p.coordinator ≡ n)) (sym (plan_stays a k may)) h

last_in : (n : ℕ) (o : Option ℕ) (x : UpNode) (a : AttemptState) → x.attempt ≡ Some a → Has (IsLast n o) x → IsLast n o a
last_in n o x a is h = subst (In (IsLast n o)) is h

change_last : (c : Cluster) (n : ℕ) (told : Delivered) (x : UpNode) (o : Option ℕ) (change : Change) → MayChange c n told x change → Has (IsLast n o) x → Has (IsLast n (last_change o change)) (changed c n x change)
change_last c n told x o (Counts a k s i) may h = call_last n o a k (may_be_called c told a k may.2) (last_in n o x a may.0 h)
change_last c n told x o (Leads p members) may h = (
  ap Some (sym (plan_begins p members (own_promise n (record (promising x p) { greatest = p }) p) c.attached c.id).of_epoch),
  (plan_begins p members (own_promise n (record (promising x p) { greatest = p }) p) c.attached c.id).of_coordinator,
)
change_last c n told x o (Promises p) may h = change_has (IsLast n o) c n x (Promises p) tt h
change_last c n told x o (Starts a k s) may h = tt
change_last c n told x o _ may h = h

-- .. and that whose steps are done
change_hand : (c : Cluster) (n : ℕ) (told : Delivered) (x : UpNode) (o : Option ℕ) (g : Option Tried) (change : Change) → MayChange c n told x change → Has (IsLast n o) x → HandLast n o g → HandLast n (last_change o change) (by_change n g change)
change_hand c n told x o g (Counts a k s i) may h hand = call_last n o a k (may_be_called c told a k may.2) (last_in n o x a may.0 h)
change_hand c n told x o g (Starts a k s) may h hand = call_last n o a k (may_be_called c told a k may.2) (last_in n o x a may.0 h)
change_hand c n told x o g (Leads p members) may h hand = (refl, refl)
change_hand c n told x o g _ may h hand = hand

-- ---- what is given

-- nothing is asked but of the last attempt, and this is the last then
record Given (n : ℕ) (o last : Option ℕ) (os : List Output) : Type 0 where
  asks : OutsAsk n o os
  same : last_of n o os ≡ last

quiet_given : (n : ℕ) (o : Option ℕ) (os : List Output) → AreQuiet os → Given n o o os
quiet_given n o os quiet = record { asks = quiet_asks n o os quiet; same = quiet_last n o os quiet }

begun_given : (n p members : ℕ) (o : Option ℕ) (os : List Output) → coordinator p ≡ n → AreQuiet os → Given n o (Some p) (Tells (entry.Attempt (attempt.Begun p members)) ∷ os)
begun_given n p members o os own quiet =
    front (subst (λ (z : Option ℕ). Given n z (Some p) os) (sym (if_same (coordinator p == n) (same_so (coordinator p) n own))) (quiet_given n (Some p) os quiet))
  where
    if_same : (b : Bool) → b ≡ true → (if b then Some p else o) ≡ Some p
    if_same true is = refl
    if_same false is = absurd (false_true is)

    front : Given n (if coordinator p == n then Some p else o) (Some p) os → Given n o (Some p) (Tells (entry.Attempt (attempt.Begun p members)) ∷ os)
    front k = record { asks = (tt, k.asks); same = k.same }

saved_given : (c : Cluster) (n : ℕ) (told : Delivered) (x : UpNode) (o : Option ℕ) (change : Change) → MayChange c n told x change → Given n o (last_change o change) (first_lines n change ++ saved_lines c n x change)
saved_given c n told x o (Leads p members) may =
    let k : Given n o (Some p) (last_lines c n x (Leads p members)) = begun_given n p members o (unknown_lines n x.requests.waiting) may.1 (unknown_quiet c n x p members) in
    record { asks = (tt, k.asks); same = k.same }
saved_given c n told x o (Promises p) may = quiet_given n o _ (saved_quiet c n x (Promises p) tt)
saved_given c n told x o (Counts a k s i) may = quiet_given n o _ (saved_quiet c n x (Counts a k s i) tt)
saved_given c n told x o (Installs s i) may = quiet_given n o _ (saved_quiet c n x (Installs s i) tt)
saved_given c n told x o (Starts a k s) may = quiet_given n o _ (saved_quiet c n x (Starts a k s) tt)
saved_given c n told x o (Sits s e) may = quiet_given n o _ (saved_quiet c n x (Sits s e) tt)
saved_given c n told x o (Distrusts d) may = quiet_given n o _ (saved_quiet c n x (Distrusts d) tt)
saved_given c n told x o (Admits at k a d) may = quiet_given n o _ (saved_quiet c n x (Admits at k a d) tt)
saved_given c n told x o (Proposes s p text) may = quiet_given n o _ (saved_quiet c n x (Proposes s p text) tt)
saved_given c n told x o (Acks s p q left text) may = quiet_given n o _ (saved_quiet c n x (Acks s p q left text) tt)
saved_given c n told x o (Prepares s text) may = quiet_given n o _ (saved_quiet c n x (Prepares s text) tt)
saved_given c n told x o (Commits s) may = quiet_given n o _ (saved_quiet c n x (Commits s) tt)

made_given : (c : Cluster) (n : ℕ) (told : Delivered) (x : UpNode) (o : Option ℕ) (change : Change) → MayChange c n told x change → Given n o (last_change o change) (first_lines n change ++ last_lines c n x change)
made_given c n told x o (Leads p members) may = begun_given n p members o (unknown_lines n x.requests.waiting) may.1 (unknown_quiet c n x p members)
made_given c n told x o (Promises p) may = quiet_given n o _ (made_quiet c n x (Promises p) tt)
made_given c n told x o (Counts a k s i) may = quiet_given n o _ (made_quiet c n x (Counts a k s i) tt)
made_given c n told x o (Installs s i) may = quiet_given n o _ (made_quiet c n x (Installs s i) tt)
made_given c n told x o (Starts a k s) may = quiet_given n o _ (made_quiet c n x (Starts a k s) tt)
made_given c n told x o (Sits s e) may = quiet_given n o _ (made_quiet c n x (Sits s e) tt)
made_given c n told x o (Distrusts d) may = quiet_given n o _ (made_quiet c n x (Distrusts d) tt)
made_given c n told x o (Admits at k a d) may = quiet_given n o _ (made_quiet c n x (Admits at k a d) tt)
made_given c n told x o (Proposes s p text) may = quiet_given n o _ (made_quiet c n x (Proposes s p text) tt)
made_given c n told x o (Acks s p q left text) may = quiet_given n o _ (made_quiet c n x (Acks s p q left text) tt)
made_given c n told x o (Prepares s text) may = quiet_given n o _ (made_quiet c n x (Prepares s text) tt)
made_given c n told x o (Commits s) may = quiet_given n o _ (made_quiet c n x (Commits s) tt)

-- ---- small steps

-- .. and of the node and the steps that its attempt gave last, as they are then
record Leaves (n : ℕ) (o : Option ℕ) (node : Node) (g : Option Tried) (os : List Output) : Type 0 where
  last : Option ℕ
  given : Given n o last os
  stays : IsAt (Has (IsLast n last)) node
  hand : HandLast n last g

abbrev Stays : ℕ → Option ℕ → UpNode → Option Tried → List Output → Type 0
Stays n o y g os = Leaves n o (Up y) g os

act_leaves : (c : Cluster) (n : ℕ) (told : Delivered) (x : UpNode) (o : Option ℕ) (g : Option Tried) (a : Act) → MayAct c n told x a → ActSo a → ActFrom g a → Has (IsLast n o) x → HandLast n o g
    → Stays n o (acted c n x a) (by_act n g a) (said c n x a)
act_leaves c n told x o g a may so from h hand = by_act_of a may so from
  where
    beside : (b : Act) → IsOther b → LeavesAct b → by_act n g b ≡ g → Stays n o (acted c n x b) (by_act n g b) (said c n x b)
    beside b is leaves same = record {
      last = o;
      given = quiet_given n o (said c n x b) (said_quiet c n x b is);
      stays = act_has (IsLast n o) c n x b leaves h;
      hand = subst (HandLast n o) (sym same) hand;
    }

    by_act_of : (b : Act) → MayAct c n told x b → ActSo b → ActFrom g b → Stays n o (acted c n x b) (by_act n g b) (said c n x b)
    by_act_of (Goes_on b k) m s f =
        let now : IsLast n o (turn b k).after = call_last n o b k (may_be_called c told b k m.1) (last_in n o x b m.0 h) in
        record { last = o; given = record { asks = tt; same = refl }; stays = now; hand = now }
    by_act_of (Makes change) m s f = record {
      last = last_change o change;
      given = made_given c n told x o change m.0;
      stays = change_last c n told x o change m.0 h;
      hand = change_hand c n told x o g change m.0 h hand;
    }
    by_act_of (Writes to b) m s f = record { last = o; given = record { asks = (write_asks n to o g b hand f, tt); same = refl }; stays = h; hand = hand }
    by_act_of (Spreads receivers b) m s f = beside (Spreads receivers b) f tt refl
    by_act_of (Gives os) m s f = beside (Gives os) (s, m) tt refl
    by_act_of (Hears from b) m s f = beside (Hears from b) tt tt refl
    by_act_of Ticks m s f = beside Ticks tt tt refl
    by_act_of Waits m s f = beside Waits tt tt refl
    by_act_of (Ends b e) m s f = beside (Ends b e) tt tt refl
    by_act_of (Queues b d kind) m s f = beside (Queues b d kind) tt tt refl
    by_act_of (Accepts kind e members d) m s f = beside (Accepts kind e members d) tt tt refl
    by_act_of (Takes at k b) m s f = beside (Takes at k b) tt tt refl
    by_act_of (Stores d value b) m s f = beside (Stores d value b) tt tt refl
    by_act_of (Minds q p) m s f = beside (Minds q p) tt tt refl
    by_act_of (Notes from place p) m s f = beside (Notes from place p) tt tt refl
    by_act_of (Dates now) m s f = beside (Dates now) tt tt refl
    by_act_of (Works w) m s f = beside (Works w) tt tt refl

doing_leaves : (c : Cluster) (n : ℕ) (told : Delivered) (node : Node) (disk : NodeRecord) (o : Option ℕ) (g : Option Tried) (d : Doing) → May c n told (site node disk) d → DoingSo d → DoingFrom g d
    → IsAt (Has (IsLast n o)) node → HandLast n o g → Leaves n o (effect c n (site node disk) d).node (by_doing n g d) (gives c n (site node disk) d)
doing_leaves c n told Down disk o g Comes_up may so from h hand = record { last = o; given = record { asks = (tt, tt); same = refl }; stays = tt; hand = hand }
doing_leaves c n told (Up x) disk o g Comes_up may so from h hand = absurd may
doing_leaves c n told node disk o g (Goes_down why) may so from h hand = record { last = o; given = record { asks = (tt, tt); same = refl }; stays = tt; hand = hand }
doing_leaves c n told Down disk o g (Does a) may so from h hand = absurd may
doing_leaves c n told (Up x) disk o g (Does a) may so from h hand = act_leaves c n told x o g a may so from h hand
doing_leaves c n told Down disk o g (Saves change) may so from h hand = absurd may
doing_leaves c n told (Up x) disk o g (Saves change) may so from h hand = record {
  last = last_change o change;
  given = saved_given c n told x o change may;
  stays = change_last c n told x o change may h;
  hand = change_hand c n told x o g change may h hand;
}
doing_leaves c n told node disk o g (Loses change why) may so from h hand = record { last = o; given = quiet_given n o _ (lost_quiet n change why); stays = tt; hand = hand }
doing_leaves c n told node disk o g (Forgets change why) may so from h hand = record { last = o; given = quiet_given n o _ (lost_quiet n change why); stays = tt; hand = hand }

pub all_ask : (c : Cluster) (n : ℕ) (told : Delivered) (x : Site) (o : Option ℕ) (g : Option Tried) (ds : List Doing) → MayAll c n told x ds → AllSo ds → AllFrom n g ds → IsAt (Has (IsLast n o)) x.node → HandLast n o g
    → OutsAsk n o (given_all c n x ds)
all_ask c n told x o g [] may so from h hand = tt
all_ask c n told x o g (d ∷ ds) may so from h hand =
    let k : Leaves n o (effect c n x d).node (by_doing n g d) (gives c n x d) = doing_leaves c n told x.node x.disk o g d may.0 so.0 from.0 h hand in
    append_asks n o (gives c n x d) (given_all c n (effect c n x d) ds) k.given.asks
    (subst (λ z. OutsAsk n z (given_all c n (effect c n x d) ds)) (sym k.given.same)
    (all_ask c n told (effect c n x d) k.last (by_doing n g d) ds may.1 so.1 from.1 k.stays k.hand))
