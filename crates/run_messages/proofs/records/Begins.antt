-- Where an attempt of the node's own begins, its record is what the trace tells of it, and its own Promise shows it.
use Rattle.std.specs.Prelude.{ℕ, ◌≡◌, ◌≢◌, ◌<◌, ◌≤◌, ◌==◌, All, Bool, true, false, List, [], ◌∷◌, Option, None, Some, IfSome}
use Rattle.std.specs.List.{list_any}
use Rattle.std.proofs.Common.{refl, sym, ap, subst, ◌∙◌, arith, inl}
use Rattle.std.proofs.lemmas.List.Elements.{All-cons, All-nil}
use Rattle.attempt_laws.proofs.Stays.{plan_begins}
use Rattle.cmm_attempt.specs.Attempts.{AttemptState, Turn, all_promised, beginning, begun, choosing, chosen_by, collects, first_state, promises_of, with_steps}
use Rattle.cmm_attempt.specs.Promises.{newest_shown, promised_by, shown_by}
use Rattle.cmm_attempt.specs.declared.attached.AttachedDevice.{AttachedDevice}
use Rattle.cmm_attempt.specs.declared.promised.Promised.{Promised}
use Rattle.cmm_attempt.specs.declared.promised.Shown.{Shown as ShownRecord}
use Rattle.cmm_attempt.proofs.Basics.{if_either}
use Rattle.cmm_member.specs.Machine.{saved_of}
use Rattle.cmm_member.specs.Records.{NodeRecord}
use Rattle.history.specs.Member.{installed_of}
use Rattle.history.specs.Moment.{Moment}
use Rattle.history.specs.Order.{before_last}
use Rattle.history.specs.Records.{own_record, promises, record_of}
use Rattle.history.specs.Seizing.{is_attempt}
use Rattle.history.specs.Setting.{coordinator}
use Rattle.history.specs.Trace.{attempt, saved}
use Rattle.membership_machine.specs.State.{Memberships}
use Rattle.membership_machine.specs.Records.{Saved}
use Rattle.node_model.specs.Attempts.{own_promise}
use Rattle.node_model.specs.Seats.{promised_of, promising, record_of as kept_record, state_of}
use Rattle.node_model.specs.declared.cluster.Cluster.{Cluster}
use Rattle.node_model.specs.declared.node.Node.TheVariants.{Up}
use Rattle.node_model.specs.declared.node.UpNode.{UpNode}
use Rattle.refinement.specs.Doings.{Site, changed, site}
use Rattle.refinement.specs.Doings.Change.{Leads}
use Rattle.refinement.specs.Guards.{MayChange}
use Rattle.refinement.specs.Runs.{Nodes}
use Rattle.refinement.specs.Ties.{Delivered}
use Rattle.refinement.proofs.Changes.{Sees, first_not_installing, sees}
use Rattle.status_report.specs.declared.attempt_entry.AttemptEntry.TheVariants as attempt_entry
use Rattle.status_report.specs.declared.entry.Entry.TheVariants as entry
use Rattle.wire.specs.declared.message.Message.{Message}
use Rattle.run_history.specs.Scenes.{Scene, telling}
use Rattle.run_history.proofs.Changes.{At, untried}
use Rattle.run_messages.specs.records.Kept.{Goes, SiteKept, has_told, shows_from}
use Rattle.history.specs.Records.{NodeRecord as Shown}
use Rattle.run_messages.specs.records.Losses.{NoUpdate}
use Rattle.run_messages.specs.records.Shown.{IsOf, shown}
use Rattle.run_messages.specs.records.Sound.{AllSound}
use Rattle.run_messages.proofs.records.Changes.{Tied, disk_is, installed_below, saved_rest, saving}
use Rattle.run_messages.proofs.records.Grow.{bytes_stay, hand_stays, judged_more, site_stays}
use Rattle.run_messages.proofs.records.Joins.{machine_own}
use Rattle.run_messages.proofs.records.Letters.{has_from, promises_had, shown_of}
use Rattle.run_messages.proofs.records.Own.{Rest, rest_of, up_site, with_here}
use Rattle.run_messages.proofs.records.Saves.{saved_same}
use Rattle.run_messages.proofs.records.Sends.{if_not, if_so, is_same, not_same}

-- ---- the Promises of an attempt that begins are its coordinator's

abbrev OwnPromise : ℕ → Promised → Type 0
OwnPromise n p = p.shown.summary.node ≡ n

begun_own : (n : ℕ) (s : AttemptState) → All (OwnPromise n) s.promises → All (OwnPromise n) (begun s).after.promises
unfolding choosing
begun_own n s h = if_either (λ (t : Turn). All (OwnPromise n) t.after.promises) (all_promised s) (choosing s) (with_steps s (collects s)) (by_newest (newest_shown s.promises)) h
  where
    by_newest : (o : Option ShownRecord) → All (OwnPromise n) (chosen_by s o).after.promises
    by_newest None = h
    by_newest (Some newest) = h

first_own : (n p members : ℕ) (own : Message) (attached : List AttachedDevice) (cluster : ℕ) → All (OwnPromise n) (promises_of (promised_by own (shown_by own.sender own.body)))
    → All (OwnPromise n) (beginning p members own attached cluster).after.promises
unfolding beginning
first_own n p members own attached cluster h = begun_own n (first_state p members own attached cluster (promises_of (promised_by own (shown_by own.sender own.body)))) h

-- ---- the line

other_attempt : (n p e k : ℕ) → coordinator p ≡ n → coordinator e ≡ k → k ≢ n → (p == e) ≡ false
other_attempt n p e k own of other = not_same p e (λ at. other (sym of ∙ (ap coordinator (sym at) ∙ own)))

others_begin : (n p members : ℕ) (M : Memberships) (before : List Moment) (k : ℕ) (x : Site) → coordinator p ≡ n → k ≢ n → SiteKept M before k x → SiteKept M (attempt p members ∷ before) k x
others_begin n p members M before k x own other h =
    site_stays M before k (attempt p members) x
    (record {
      record_so = refl;
      installed_so = refl;
      told = λ e j of is. ap (λ ls. list_any (shows_from j) ls) (if_not (p == e) [] (promises e before) (other_attempt n p e k own of other)) ∙ is;
      first = λ e of. ap (λ ms. record_of (coordinator e) ms) (if_not (p == e) before (before_last (is_attempt e) before) (other_attempt n p e k own of other));
    }) h

false_true : false ≡ true → ⊥
false_true h = cc

is_number : (a b : ℕ) → (a == b) ≡ true → a ≡ b
is_number a b e = grind arith

begun_rest : (c : Cluster) (M : Memberships) (n : ℕ) (told : Delivered) (v : Nodes) (N : Memberships) (disk : NodeRecord) (x : UpNode) (p members : ℕ) (s : Scene) → At c M n told disk x → coordinator p ≡ n → promised_of x < p
    → AllSound M s.moments → Rest n told v N s → Rest n told v N (telling (entry.Attempt (attempt_entry.Begun p members)) s)
begun_rest c M n told v N disk x p members s at own above sound h = record {
  sound = (tt, h.sound);
  judged = judged_more s.moments (attempt p members) tt tt refl h.judged;
  bytes = bytes_stay s.moments (attempt p members) s.links.next s.links.packets (λ q. refl) h.bytes;
  there = λ k other. others_begin n p members N s.moments k _ own other (h.there k other);
  hand = hand_stays s.moments n (attempt p members) told (λ e k of is. by_number e k (p == e) refl is) refl h.hand;
}
  where
    none_yet : (k : ℕ) → has_told p k s.moments ≡ true → ⊥
    none_yet k is = untried c M n told disk x p at (machine_own p n own) above (has_from M p k (promises p s.moments) (promises_had M p s.moments sound) is).shows.shows.promise.tried

    by_number : (e k : ℕ) (b : Bool) → (p == e) ≡ b → has_told e k s.moments ≡ true → has_told e k (attempt p members ∷ s.moments) ≡ true
    by_number e k true same is = absurd (none_yet k (ap (λ z. has_told z k s.moments) (is_number p e same) ∙ is))
    by_number e k false same is = ap (λ ls. list_any (shows_from k) ls) (if_not (p == e) [] (promises e s.moments) same) ∙ is

-- ---- the change

less : (i q p : ℕ) → i ≤ q → q < p → i < p
less i q p l m = grind arith

shown_as : (r t : NodeRecord) (w : Saved) → shown t ≡ shown r → w ≡ saved_of t → IsOf (shown r) w
shown_as r t w same is = subst (λ z. IsOf z w) same (subst (λ z. IsOf (shown t) z) (sym is) (shown_of t.installed t.entries.committed t.entries.pending))

positive : (p q : ℕ) → q < p → 0 < p
positive p q l = grind arith

pub leads_goes : (c : Cluster) (M : Memberships) (n : ℕ) (told : Delivered) (v : Nodes) (N : Memberships) (disk : NodeRecord) (x : UpNode) (p members : ℕ) (s : Scene) → At c M n told disk x → MayChange c n told x (Leads p members)
    → NoUpdate told → AllSound M s.moments → Tied c N n (changed c n x (Leads p members)) → Goes n told v N (site (Up x) disk) s
    → Goes n told v N (site (Up (changed c n x (Leads p members))) (kept_record (changed c n x (Leads p members)))) (telling (entry.Attempt (attempt_entry.Begun p members)) (saving n s))
leads_goes c M n told v N disk x p members s at may none sound t h =
    let y : UpNode = changed c n x (Leads p members) in
    let z : UpNode = record (promising x p) { greatest = p } in
    let a : AttemptState = (beginning p members (own_promise n z p) c.attached c.id).after in
    let first : List Moment = saved n ∷ s.moments in
    let last : List Moment = attempt p members ∷ first in
    let own : coordinator p ≡ n = may.1 in
    let above : promised_of x < p = may.0 in
    let one : Rest n told v N (saving n s) = saved_rest n told v N s (rest_of n told v N (site (Up x) disk) s h) in
    let two : Rest n told v N (telling (entry.Attempt (attempt_entry.Begun p members)) (saving n s)) = begun_rest c M n told v N disk x p members (saving n s) at own above (tt, sound) one in
    let so : record_of n first ≡ record_of n s.moments = saved_same n s.moments told none h.hand in
    let kept : kept_record x ≡ disk = disk_is c M n told disk x at in
    let number : a.plan.epoch ≡ p = (plan_begins p members (own_promise n z p) c.attached c.id).of_epoch in
    let sees_it : Sees N n (kept_record y) (state_of y.seat) = sees c N n (kept_record y) y.attempt y.seat t.tied.0 in
    let some : 0 < (N.node n).session = subst (λ w. 0 < w) (sym sees_it.session) (positive p (promised_of x) above) in
    let lower : (N.node n).saved.installed < (N.node n).session =
    subst (λ w. (N.node n).saved.installed < w) (sym sees_it.session) (subst (λ w. w.installed < p) (sym sees_it.saved) (below above at)) in
    let showed : (N.node n).showed p ≡ saved_of (kept_record y) = ap (λ w. (N.node n).showed w) (sym sees_it.session) ∙ ((t.holds.node n).showed_again some lower ∙ sees_it.saved) in
    with_here n told v N (site (Up y) (kept_record y)) (telling (entry.Attempt (attempt_entry.Begun p members)) (saving n s)) two
    (up_site N last n y (subst (λ o. IfSome o (λ r. r ≡ shown (kept_record y))) (sym so) (subst (λ w. IfSome (record_of n s.moments) (λ r. r ≡ shown w)) (sym kept) h.here.record_so))
    (subst (λ (w : NodeRecord). IfSome (installed_of n s.moments) (λ f. f ≡ w.installed)) (sym kept) h.here.installed)
    (record {
      own = ap coordinator number ∙ own;
      first = subst (λ e. IfSome (own_record e last) (λ r. IsOf r ((N.node n).showed e))) (sym number)
          (subst (λ o. IfSome o (λ r. IsOf r ((N.node n).showed p)))
          (sym (ap (λ ms. record_of (coordinator p) ms) (if_so (p == p) first (before_last (is_attempt p) first) (is_same p)) ∙ (ap (λ k. record_of k first) own ∙ so)))
          (each (record_of n s.moments) showed kept h.here.record_so));
      answered = subst (λ e. (N.node n).answered e ≡ true) (sees_it.session ∙ sym number) ((t.holds.node n).answered_session some);
      heard = λ i d lt. inl (first_own n p members (own_promise n z p) c.attached c.id (All-cons (OwnPromise n) _ [] refl (All-nil (OwnPromise n))) i d lt);
      epoch = λ is. absurd (first_not_installing p members (own_promise n z p) c.attached c.id is);
      installs = λ is. absurd (first_not_installing p members (own_promise n z p) c.attached c.id is);
    })
    (λ has same other. absurd (installed_below c M n told disk x p at above same)))
  where
    below : promised_of x < p → At c M n told disk x → (kept_record x).installed < p
    below above at =
        let e : Sees M n disk (state_of x.seat) = sees c M n disk x.attempt x.seat at.tied.0 in
        less (kept_record x).installed (promised_of x) p (subst (λ w. w ≤ promised_of x) (ap (λ r. r.installed) e.saved) (subst (λ w. (M.node n).saved.installed ≤ w) e.promised (at.holds.node n).installed)) above

    each : (o : Option Shown) → (N.node n).showed p ≡ saved_of (kept_record (changed c n x (Leads p members))) → kept_record x ≡ disk → IfSome o (λ r. r ≡ shown disk) → IfSome o (λ r. IsOf r ((N.node n).showed p))
    each None showed kept h = tt
    each (Some r) showed kept h = subst (λ w. IsOf w ((N.node n).showed p)) (sym h) (shown_as disk (kept_record (changed c n x (Leads p members))) ((N.node n).showed p) (ap shown kept) showed)
