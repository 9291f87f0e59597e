-- What is so of the small steps of a node.
use Rattle.std.specs.Prelude.{All, ℕ, ◌++◌, ◌≡◌, ◌<◌, ◌≤◌, List, [], ◌∷◌, None, Some}
use Rattle.std.proofs.Common.{refl, sym, subst, ◌∙◌, arith}
use Rattle.cl_base.specs.Sets.{set_without}
use Rattle.cl_base.specs.declared.header.Header.{Header}
use Rattle.cmm_attempt.specs.Calls.{IsDevice}
use Rattle.cmm_member.specs.Nodes.{NodeState, with_joined, with_valid}
use Rattle.cmm_member.specs.Records.{NodeRecord}
use Rattle.device_queue.specs.Queue.{progress_after}
use Rattle.device_queue.specs.declared.progress.Progress.TheVariants.{Joined}
use Rattle.node_model.specs.Seats.{installed_of, promised_of, record_of, state_of, up_with}
use Rattle.node_model.specs.declared.cluster.Cluster.{Cluster}
use Rattle.node_model.specs.declared.node.Node.{Node}
use Rattle.node_model.specs.declared.node.Node.TheVariants.{Down, Up}
use Rattle.node_model.specs.declared.node.UpNode.{UpNode}
use Rattle.refinement.specs.Doings.{Act, Change, Doing, Site, acted, changed, effect, said, site}
use Rattle.refinement.specs.Doings.Act.{Accepts, Dates, Ends, Gives, Goes_on, Hears, Makes, Minds, Notes, Queues, Spreads, Stores, Takes, Ticks, Waits, Works, Writes}
use Rattle.refinement.specs.Doings.Change.{Acks, Admits, Commits, Counts, Distrusts, Installs, Leads, Prepares, Promises, Proposes, Sits, Starts}
use Rattle.refinement.specs.Doings.Doing.{Saves}
use Rattle.refinement.specs.Guards.{MayAct, MayChange, OfUp}
use Rattle.refinement.specs.Runs.{Letter, letters_of}
use Rattle.refinement.specs.Ties.{Delivered}
use Rattle.run_history.proofs.Ups.{same_state}
use Rattle.run_history.specs.Guards.{Hand, hand_by}
use Rattle.run_seizings.proofs.Acts.{ActMay}
use Rattle.run_seizings.proofs.Promising.{ChangeMay}
use Rattle.seize.specs.declared.kind.JoinResult.TheVariants as end
use Rattle.run_outcomes.specs.tasks.Shown.{HandIn, HandSent, SiteSo, UpIn, UpSo}
use Rattle.run_outcomes.proofs.shown.Acts.{ActAt, Acted, act_up, hand_acted, turn_at}
use Rattle.run_outcomes.proofs.shown.Aside.{made_aside, minor_aside, plain_aside, spread_aside, tick_aside, write_aside}
use Rattle.run_outcomes.proofs.shown.Changes.{AtDevice, Goes, change_goes}
use Rattle.run_outcomes.proofs.shown.Letters.{AllAside}
use Rattle.run_outcomes.proofs.shown.Now.{After, Now, after_aside}
use Rattle.run_outcomes.proofs.shown.Writes.{write_after}

-- ---- what the small steps ask beside

-- a device is admitted that it has joined
abbrev pub AdmitAt : UpNode → Change → Type 0
AdmitAt x (Admits at command a d) = progress_after x.tasks a ≡ Joined d end.Joined
AdmitAt x _ = Unit {0}

abbrev pub AdmitSo : Site → Doing → Type 0
AdmitSo x (Saves ch) = OfUp (λ y. AdmitAt y ch) x.node
AdmitSo x _ = Unit {0}

abbrev pub AllAdmit : Cluster → ℕ → Site → List Doing → Type 0
AllAdmit c n x [] = Unit {0}
AllAdmit c n x (d ∷ ds) = AdmitSo x d × AllAdmit c n (effect c n x d) ds

within : (d : ℕ) → d ≤ 16 → d ≤ 32
within d h = omega (arith, h)

pub change_device : (h : Header) (x : UpNode) (ch : Change) → ChangeMay h x ch → AdmitAt x ch → AtDevice x ch
change_device h x (Distrusts d) m k = ((m.0.0, within d m.0.1), m.1)
change_device h x (Admits at command a d) m k = k
change_device h x (Promises p) m k = tt
change_device h x (Leads p members) m k = tt
change_device h x (Counts a q s i) m k = tt
change_device h x (Installs s i) m k = tt
change_device h x (Starts a q s) m k = tt
change_device h x (Sits s e) m k = tt
change_device h x (Proposes s p text) m k = tt
change_device h x (Acks s p q left text) m k = tt
change_device h x (Prepares s text) m k = tt
change_device h x (Commits s) m k = tt

-- ---- acts

act_at : (h : Header) (n : ℕ) (told : Delivered) (g : Hand) (x : UpNode) (a : Act) → ActMay h n told g x a → ActAt told a
act_at h n told g x (Accepts kind e members d) k = k.0
act_at h n told g x (Makes ch) k = k
act_at h n told g x (Hears from b) k = tt
act_at h n told g x Ticks k = tt
act_at h n told g x Waits k = tt
act_at h n told g x (Goes_on b q) k = tt
act_at h n told g x (Ends b e) k = tt
act_at h n told g x (Queues b d kind) k = tt
act_at h n told g x (Takes at command a) k = tt
act_at h n told g x (Stores d value a) k = tt
act_at h n told g x (Writes to b) k = tt
act_at h n told g x (Gives os) k = tt
act_at h n told g x (Spreads receivers b) k = tt
act_at h n told g x (Minds q p) k = tt
act_at h n told g x (Notes from place p) k = tt
act_at h n told g x (Dates now) k = tt
act_at h n told g x (Works w) k = tt

with_up : (L : List Letter) (n : ℕ) (x y : UpNode) (disk : NodeRecord) → UpSo L n y → record_of y ≡ record_of x → SiteSo L n (site (Up x) disk) → SiteSo L n (site (Up y) disk)
with_up L n x y disk up same h = record { order = h.order; shown = h.shown; asked_data = h.asked_data; quorum = h.quorum; installs = h.installs; up = (same ∙ h.up.0, up) }

act_now : (L : List Letter) (c : Cluster) (n : ℕ) (told : Delivered) (g : Hand) (x : UpNode) (disk : NodeRecord) (a : Act) → All IsDevice c.attached → HandSent L told → MayAct c n told x a → ActAt told a
    → Now L n (site (Up x) disk) g → Now L n (site (Up (acted c n x a)) disk) (hand_by g a)
act_now L c n told g x disk a fits sent may at h =
    let k : Acted L n x (acted c n x a) = act_up L c n told x disk a fits h.agree sent may at h.here in
    record { apart = h.apart; agree = h.agree; here = with_up L n x (acted c n x a) disk k.up k.same h.here; hand = hand_acted L c n told x a g may k h.hand }

pub act_after : (h : Header) (L : List Letter) (c : Cluster) (n : ℕ) (told : Delivered) (g : Hand) (x : UpNode) (disk : NodeRecord) (a : Act) → All IsDevice c.attached → HandSent L told → MayAct c n told x a → ActMay h n told g x a
    → Now L n (site (Up x) disk) g → After L (letters_of n (said c n x a) ++ L) n (site (Up (acted c n x a)) disk) (hand_by g a) (said c n x a)
act_after h L c n told g x disk a fits sent may at now = by_act a may at
  where
    aside : (a : Act) → MayAct c n told x a → ActMay h n told g x a → AllAside (said c n x a) → After L (letters_of n (said c n x a) ++ L) n (site (Up (acted c n x a)) disk) (hand_by g a) (said c n x a)
    aside a m k os = after_aside L n (site (Up (acted c n x a)) disk) (hand_by g a) (said c n x a) os (act_now L c n told g x disk a fits sent m (act_at h n told g x a k) now)

    by_act : (a : Act) → MayAct c n told x a → ActMay h n told g x a → After L (letters_of n (said c n x a) ++ L) n (site (Up (acted c n x a)) disk) (hand_by g a) (said c n x a)
    by_act (Writes to b) m k = write_after L n to told b x disk g m k now
    by_act (Hears from b) m k = aside (Hears from b) m k tt
    by_act Ticks m k = aside Ticks m k (tt, tick_aside c x)
    by_act Waits m k = aside Waits m k tt
    by_act (Goes_on b q) m k = aside (Goes_on b q) m k tt
    by_act (Ends b e) m k = aside (Ends b e) m k (tt, tt)
    by_act (Queues b d kind) m k = aside (Queues b d kind) m k tt
    by_act (Accepts kind e members d) m k = aside (Accepts kind e members d) m k tt
    by_act (Takes on command b) m k = aside (Takes on command b) m k (tt, tt)
    by_act (Stores d value b) m k = aside (Stores d value b) m k (tt, write_aside n x d value b)
    by_act (Makes ch) m k = aside (Makes ch) m k (made_aside c n x ch)
    by_act (Gives os) m k = aside (Gives os) m k (minor_aside os m)
    by_act (Spreads receivers b) m k = aside (Spreads receivers b) m k (spread_aside receivers b (plain_aside b k))
    by_act (Minds q p) m k = aside (Minds q p) m k tt
    by_act (Notes from place p) m k = aside (Notes from place p) m k tt
    by_act (Dates now_is) m k = aside (Dates now_is) m k tt
    by_act (Works w) m k = aside (Works w) m k tt

-- ---- changes that are saved

no_less : (a : ℕ) → a ≤ a
no_less a = omega arith

at_most : (a b d : ℕ) → a ≤ b → b ≤ d → a ≤ d
at_most a b d k l = omega (arith, k, l)

-- a record that is saved
pub rises_site : (L : List Letter) (n : ℕ) (x : UpNode) (disk new : NodeRecord) (node : Node) → new.installed ≤ new.promised → promised_of x ≤ new.promised → UpIn L n new node → SiteSo L n (site (Up x) disk) → SiteSo L n (site node new)
rises_site L n x disk new node order rises up h = record {
  order = order;
  shown = λ e v z. more e (h.shown e v z);
  asked_data = λ e d own z. more e (h.asked_data e d own z);
  quorum = λ e d own z. more e (h.quorum e d own z);
  installs = λ e own z. more e (h.installs e own z);
  up = up;
}
  where
    more : (e : ℕ) → e ≤ disk.promised → e ≤ new.promised
    more e low = at_most e disk.promised new.promised low (subst (λ (r : NodeRecord). r.promised ≤ new.promised) h.up.0 rises)

pub record Lows (x y : UpNode) : Type 0 where
  pub order : installed_of y ≤ promised_of y
  pub rises : promised_of x ≤ promised_of y

same_lows : (x : UpNode) (y : UpNode) (t : NodeState) → state_of y.seat ≡ t → t.saved.installed ≡ installed_of x → t.saved.promised ≡ promised_of x → installed_of x ≤ promised_of x → Lows x y
same_lows x y t state installed promised order = record {
  order = subst (λ (z : NodeState). z.saved.installed ≤ z.saved.promised) (sym state) (subst (λ z. z ≤ t.saved.promised) (sym installed) (subst (λ z. installed_of x ≤ z) (sym promised) order));
  rises = subst (λ (z : NodeState). promised_of x ≤ z.saved.promised) (sym state) (subst (λ z. promised_of x ≤ z) (sym promised) (no_less (promised_of x)));
}

pub change_lows : (L : List Letter) (c : Cluster) (n : ℕ) (told : Delivered) (g : Hand) (x : UpNode) (disk : NodeRecord) (ch : Change) → All IsDevice c.attached → HandSent L told → MayChange c n told x ch → Now L n (site (Up x) disk) g → Lows x (changed c n x ch)
change_lows L c n told g x disk ch fits sent may now = by_change ch may
  where
    order : installed_of x ≤ promised_of x
    order = subst (λ (r : NodeRecord). r.installed ≤ r.promised) (sym now.here.up.0) now.here.order

    of : (ch : Change) → MayChange c n told x ch → AtDevice x ch → Lows x (changed c n x ch)
    of ch m at = let k : Goes L n x (changed c n x ch) = change_goes L c n told x disk ch fits now.agree sent m at now.here in record { order = k.order; rises = k.rises }

    by_change : (ch : Change) → MayChange c n told x ch → Lows x (changed c n x ch)
    by_change (Distrusts d) m = let t : NodeState = with_valid (state_of x.seat) (set_without (record_of x).valid d) in same_lows x (changed c n x (Distrusts d)) t (same_state x.seat t) refl refl order
    by_change (Admits on command b d) m = let t : NodeState = with_joined (state_of x.seat) d in same_lows x (changed c n x (Admits on command b d)) t (same_state x.seat t) refl refl order
    by_change (Promises p) m = of (Promises p) m tt
    by_change (Leads p members) m = of (Leads p members) m tt
    by_change (Counts a q s i) m = of (Counts a q s i) m tt
    by_change (Installs s i) m = of (Installs s i) m tt
    by_change (Starts a q s) m = of (Starts a q s) m tt
    by_change (Sits s e) m = of (Sits s e) m tt
    by_change (Proposes s p text) m = of (Proposes s p text) m tt
    by_change (Acks s p q left text) m = of (Acks s p q left text) m tt
    by_change (Prepares s text) m = of (Prepares s text) m tt
    by_change (Commits s) m = of (Commits s) m tt

-- ---- a node that goes down

pub down_hand : (L : List Letter) (n : ℕ) (disk new : NodeRecord) (node : Node) (g : Hand) → UpIn L n disk node → disk.promised ≤ new.promised → HandIn L n disk node g → HandIn L n new Down g
down_hand L n disk new node None up rises h = tt
down_hand L n disk new Down (Some u) up rises h = turn_at L n disk.promised new.promised None None u rises (λ low k. tt) h
down_hand L n disk new (Up x) (Some u) up rises h =
    turn_at L n (promised_of x) new.promised x.attempt None u (subst (λ (r : NodeRecord). r.promised ≤ new.promised) (sym up.0) rises) (λ low k. tt) h

pub down_now : (L : List Letter) (n : ℕ) (x : Site) (g : Hand) → Now L n x g → Now L n (site Down x.disk) g
down_now L n x g h = record {
  apart = h.apart;
  agree = h.agree;
  here = record { order = h.here.order; shown = h.here.shown; asked_data = h.here.asked_data; quorum = h.here.quorum; installs = h.here.installs; up = tt };
  hand = down_hand L n x.disk x.disk x.node g h.here.up (no_less x.disk.promised) h.hand;
}

up_hand : (L : List Letter) (n valid : ℕ) (disk : NodeRecord) (g : Hand) → HandIn L n disk Down g → HandIn L n disk (Up (up_with n valid disk)) g
up_hand L n valid disk None h = tt
up_hand L n valid disk (Some u) h = h

pub up_now : (L : List Letter) (n valid : ℕ) (disk : NodeRecord) (g : Hand) → Now L n (site Down disk) g → Now L n (site (Up (up_with n valid disk)) disk) g
up_now L n valid disk g h = record {
  apart = h.apart;
  agree = h.agree;
  here = record {
    order = h.here.order;
    shown = h.here.shown;
    asked_data = h.here.asked_data;
    quorum = h.here.quorum;
    installs = h.here.installs;
    up = (refl, record { session = omega arith; follows = λ f. absurd (none f.some); installed = λ some other done. absurd (none some); attempt = tt });
  };
  hand = up_hand L n valid disk g h.hand;
}
  where
    none : 0 < 0 → ⊥
    none k = omega (arith, k)
