-- What a coordinator installs is the newest of the records that it has in hand.
use Rattle.std.specs.Prelude.{ℕ, ◌≡◌, ◌<◌, ◌≤◌, ◌==◌, nat_lt, All, Bool, true, false, not, List, ◌∷◌, Option, None, Some, IfSome, option_map, if◌then◌else◌}
use Rattle.std.specs.List.{list_all, list_any}
use Rattle.std.proofs.Common.{refl, sym, ap, subst, ◌∙◌, arith}
use Rattle.attempt_laws.proofs.Goes.{ChosenIn, Goes as GoesBy, chosen_reached, goes_by_call}
use Rattle.attempt_laws.proofs.Stays.{plan_stays}
use Rattle.attempt_laws.proofs.Told.{member_of_plan}
use Rattle.cmm_attempt.specs.Attempts.{AttemptState, install_in}
use Rattle.cmm_attempt.specs.Calls.{Call, turn}
use Rattle.cmm_attempt.specs.Promises.{has_promised}
use Rattle.cmm_attempt.specs.declared.phase.Phase.TheVariants.{Installing}
use Rattle.cmm_member.specs.Machine.{saved_of}
use Rattle.cmm_member.specs.Nodes.{NodeState, installed_with}
use Rattle.cmm_member.specs.Records.{NodeRecord}
use Rattle.history.specs.Contents.{HasNewestPending, HasNewestTexts, IsNewestInstalled}
use Rattle.history.specs.Member.{installed_of}
use Rattle.history.specs.Moment.{Moment}
use Rattle.history.specs.Order.{Unless}
use Rattle.history.specs.Records.{NodeRecord as Shown, installed_from, own_record, promises, record_of, record_told, records_in_hand, records_told}
use Rattle.history.specs.Letters.{arrived}
use Rattle.history.specs.Setting.{coordinator}
use Rattle.history.specs.Trace.{installed, saved}
use Rattle.membership_machine.specs.Growth.{Grows}
use Rattle.membership_machine.specs.Invariant.{Holds}
use Rattle.membership_machine.specs.State.{Memberships}
use Rattle.node_model.specs.Seats.{record_of as kept_record}
use Rattle.node_model.specs.declared.cluster.Cluster.{Cluster}
use Rattle.node_model.specs.declared.node.Node.TheVariants.{Up}
use Rattle.node_model.specs.declared.node.UpNode.{UpNode}
use Rattle.node_model.specs.declared.seat.Seat.TheVariants.{Forming}
use Rattle.refinement.specs.Doings.{changed, site}
use Rattle.refinement.specs.Doings.Change.{Counts}
use Rattle.refinement.specs.Guards.{MayChange}
use Rattle.refinement.specs.Runs.{Nodes}
use Rattle.refinement.specs.Ties.{Coordinates, CountedIn, Delivered, InstallTold, SeatTied, setting_of}
use Rattle.refinement.proofs.Attempts.{install_epoch, may_be_called}
use Rattle.status_report.specs.declared.entry.Entry.TheVariants as entry
use Rattle.status_report.specs.declared.node_entry.NodeEntry.TheVariants as note
use Rattle.wire.specs.declared.message.Install.{Install}
use Rattle.run_history.specs.Scenes.{Scene, telling}
use Rattle.run_history.proofs.Changes.{At, forming_attempt}
use Rattle.run_history.proofs.Heard.{own_of}
use Rattle.run_messages.specs.records.Kept.{AttemptIn, AttemptKept, Goes, HandKept, HeardFrom, brought_by}
use Rattle.run_messages.specs.records.Losses.{NoUpdate}
use Rattle.run_messages.specs.records.Shown.{IsOf, shown}
use Rattle.run_messages.specs.records.Sound.{AllSound}
use Rattle.run_messages.proofs.records.Changes.{Tied, at_own, saved_rest, saving}
use Rattle.run_messages.proofs.records.Grow.{heard_stays, judged_more}
use Rattle.run_messages.proofs.records.Heard.{member_heard, turn_heard, uncounted_before}
use Rattle.run_messages.proofs.records.InHand.{InHand, IsBrought, in_hand, install_is_newest, installs_newest}
use Rattle.run_messages.proofs.records.Joins.{machine_own}
use Rattle.run_messages.proofs.records.Letters.{shown_of}
use Rattle.run_messages.proofs.records.Own.{Rest, own_installed, own_rest, rest_of, up_site, with_here}
use Rattle.run_messages.proofs.records.Saves.{saved_same}
use Rattle.run_messages.proofs.records.Sends.{if_so, is_same}

pub kept_of : (N : Memberships) (ms : List Moment) (n : ℕ) (r : NodeRecord) (o : Option AttemptState) (a : AttemptState) → o ≡ Some a → AttemptIn N ms n r o → AttemptKept N ms n r a
kept_of N ms n r o a is h = subst (λ z. AttemptIn N ms n r z) is h

below_or : (a b : ℕ) → a ≤ b → (a ≡ b → ⊥) → a < b
below_or a b l other = by_test (nat_lt a b) refl
  where
    less : (t : Bool) → nat_lt a b ≡ t → t ≡ true → a < b
    less t e f = grind arith

    same : nat_lt a b ≡ false → a ≡ b
    same e = grind arith

    by_test : (t : Bool) → nat_lt a b ≡ t → a < b
    by_test true e = less true e refl
    by_test false e = absurd (other (same e))

true_false : true ≡ false → ⊥
true_false h = cc

-- what the coordinator showed itself is its record, until its attempt is counted
pub own_showed : (c : Cluster) (M : Memberships) (n : ℕ) (q : NodeState) (disk : NodeRecord) (a : AttemptState) → Holds (setting_of c) M → SeatTied c M n disk (Some a) (Forming q) → (M.epoch a.plan.epoch).counted ≡ false
    → ((M.node n).answered a.plan.epoch ≡ true) × ((M.node n).showed a.plan.epoch ≡ saved_of q.saved)
own_showed c M n q disk a i tied uncounted =
    let co : Coordinates c M n q a = tied.2 in
    let session : (M.node n).session ≡ a.plan.epoch = tied.0.session ∙ sym co.epoch in
    let some : 0 < (M.node n).session = subst (λ z. 0 < z) (sym session) ((i.epoch a.plan.epoch).tried_positive co.has.tried) in
    let lower : (M.node n).saved.installed < (M.node n).session =
    below_or (M.node n).saved.installed (M.node n).session (subst (λ z. (M.node n).saved.installed ≤ z) (sym ((i.node n).session some)) (i.node n).installed)
    (λ at. true_false (sym ((i.node n).ready_counted a.plan.epoch (subst (λ z. (M.node n).ready z ≡ true) (at ∙ session) ((i.node n).ready_last (subst (λ z. 0 < z) (sym at) some)))) ∙ uncounted)) in (
      subst (λ z. (M.node n).answered z ≡ true) session ((i.node n).answered_session some),
      ap (λ z. (M.node n).showed z) (sym session) ∙ ((i.node n).showed_again some lower ∙ tied.0.saved),
    )

-- ---- the count

-- what is known of it
record Counted (c : Cluster) (M N : Memberships) (n : ℕ) (ms : List Moment) (disk : NodeRecord) (a : AttemptState) (k : Call) (i : Install) : Type 0 where
  own : coordinator i.epoch ≡ n
  epoch : i.epoch ≡ a.plan.epoch
  install : i ≡ install_in (turn a k).after
  phase : (turn a k).after.phase ≡ Installing
  brought : IsBrought N i
  heard : All (λ p. HeardFrom ms n (turn a k).after.plan.epoch p.shown.summary.node) (turn a k).after.promises
  number : (turn a k).after.plan.epoch ≡ i.epoch
  hand : (o : Shown) → IsOf o ((N.node n).showed i.epoch) → InHand N i.epoch (o ∷ records_told (promises i.epoch ms))
  is : IsOf (shown disk) ((N.node n).showed i.epoch)

counted_so : (c : Cluster) (M : Memberships) (n : ℕ) (told : Delivered) (N : Memberships) (disk : NodeRecord) (x : UpNode) (a : AttemptState) (k : Call) (q : NodeState) (i : Install) (ms : List Moment) → At c M n told disk x
    → MayChange c n told x (Counts a k q i) → AllSound M ms → Grows M N → Tied c N n (changed c n x (Counts a k q i)) → HandKept ms n told → AttemptKept N ms n (kept_record x) a → Counted c M N n ms disk a k i
counted_so c M n told N disk x a k q i ms at may sound g t hand kept =
    let tied : SeatTied c M n disk (Some a) (Forming q) = forming_attempt c M n told disk x a q at may.0 may.1 in
    let co : Coordinates c M n q a = tied.2 in
    let goes : GoesBy a.phase (turn a k) = goes_by_call a k (may_be_called c told a k may.2) (chosen_reached a co.reached) in
    let here : ((turn a k).after.phase ≡ Installing) × (i ≡ install_in (turn a k).after) = goes.install i may.3 in
    let same : (turn a k).after.plan.epoch ≡ a.plan.epoch = ap (λ p. p.epoch) (plan_stays a k (may_be_called c told a k may.2)) in
    let number : i.epoch ≡ (turn a k).after.plan.epoch = ap (λ (j : Install). j.epoch) here.1 ∙ install_epoch (turn a k).after in
    let epoch : i.epoch ≡ a.plan.epoch = number ∙ same in
    let own : coordinator i.epoch ≡ n = ap coordinator epoch ∙ own_of c M n q a co in
    let coN : Coordinates c N n (installed_with q i) (turn a k).after = t.tied.0.2 in
    let counted : InstallTold N i = subst (λ z. InstallTold N z) (sym here.1) (subst (CountedIn N (installed_with q i) (turn a k).after) here.0 coN.counted).1 in
    let heard : All (λ p. HeardFrom ms n (turn a k).after.plan.epoch p.shown.summary.node) (turn a k).after.promises =
    turn_heard c ms n M q told a k at.holds tied.0.session at.known hand co may.2 kept.heard in
    let uncounted : (M.epoch a.plan.epoch).counted ≡ false = uncounted_before c M n q a at.holds tied.0.session co (goes.before i may.3) in
    let mine : ((M.node n).answered a.plan.epoch ≡ true) × ((M.node n).showed a.plan.epoch ≡ saved_of q.saved) = own_showed c M n q disk a at.holds tied uncounted in
    let newest : (N.epoch i.epoch).members (N.epoch i.epoch).newest ≡ true = (t.holds.epoch i.epoch).newest_member counted.counted in
    let member : list_any (λ m. m == (N.epoch i.epoch).newest) (turn a k).after.plan.nodes ≡ true =
    member_of_plan N (turn a k).after (N.epoch i.epoch).newest coN.has ∙ (sym (coN.has.members (N.epoch i.epoch).newest) ∙ subst (λ e. (N.epoch e).members (N.epoch i.epoch).newest ≡ true) number newest) in
    let came : HeardFrom ms n i.epoch (N.epoch i.epoch).newest =
    subst (λ e. HeardFrom ms n e (N.epoch i.epoch).newest) (sym number)
    (member_heard ms n (turn a k).after.plan.epoch (N.epoch i.epoch).newest (turn a k).after.promises (turn a k).after.plan.nodes member (all_chosen here.0 goes.chosen) heard) in
    record {
      own = own;
      epoch = epoch;
      install = here.1;
      phase = here.0;
      brought = record { counted = counted.counted; base = counted.base; settled = counted.settled };
      heard = heard;
      number = sym number;
      hand = λ o is.
          in_hand (setting_of c) M N n i.epoch ms o t.holds g (subst (λ e. (M.epoch e).counted ≡ false) (sym epoch) uncounted) sound
          (subst (λ z. (N.epoch i.epoch).members z ≡ true) (machine_own i.epoch n own) ((t.holds.epoch i.epoch).tried_member ((t.holds.epoch i.epoch).counted_tried counted.counted)))
          (subst (λ e. (N.node n).answered e ≡ true) (sym epoch) kept.answered) is came;
      is = subst (λ z. IsOf (shown disk) z)
          (ap saved_of tied.1 ∙ (sym mine.1 ∙ (sym ((g.node n).showed a.plan.epoch mine.0) ∙ ap (λ e. (N.node n).showed e) (sym epoch))))
          (shown_of disk.installed disk.entries.committed disk.entries.pending);
    }
  where
    all_chosen : (turn a k).after.phase ≡ Installing → ChosenIn (turn a k).after (turn a k).after.phase → list_all (has_promised (turn a k).after.promises) (turn a k).after.plan.nodes ≡ true
    all_chosen is h = (subst (λ p. ChosenIn (turn a k).after p) is h).0

-- what an Install of its own has installed, where the record before is told
own_installed_so : (c : Cluster) (N : Memberships) (i : Install) (o : Option Shown) (told : List Shown) (disk : NodeRecord) → Holds (setting_of c) N → IsBrought N i → InHand N i.epoch (shown disk ∷ told) → IfSome o (λ r. r ≡ shown disk)
    → IfSome (installed_from i.epoch o told) (λ r. r ≡ brought_by i)
own_installed_so c N i None told disk holds b h is = tt
own_installed_so c N i (Some own) told disk holds b h is =
    installs_newest (setting_of c) N i own told holds b (subst (λ z. InHand N i.epoch (z ∷ told)) (sym is) h)

newest_law : (c : Cluster) (N : Memberships) (i : Install) (r o : Option Shown) (told : List Shown) → Holds (setting_of c) N → IsBrought N i → ((own : Shown) → o ≡ Some own → InHand N i.epoch (own ∷ told)) → IfSome r (λ z. z ≡ brought_by i)
    → IfSome r (λ z. IfSome (option_map (λ own. own ∷ told) o) (λ records. HasNewestTexts z.texts records × HasNewestPending z.pending records))
newest_law c N i None o told holds b h is = tt
newest_law c N i (Some z) None told holds b h is = tt
newest_law c N i (Some z) (Some own) told holds b h is =
    subst (λ (w : Shown). HasNewestTexts w.texts (own ∷ told) × HasNewestPending w.pending (own ∷ told)) (sym is) (install_is_newest (setting_of c) N i (own ∷ told) holds b (h own refl))

when : (o : Option Shown) (P : Shown → Type 0) (r : Shown) → o ≡ Some r → IfSome o P → P r
when o P r is h = subst (λ z. IfSome z P) is h

pub counts_goes : (c : Cluster) (M : Memberships) (n : ℕ) (told : Delivered) (v : Nodes) (N : Memberships) (disk : NodeRecord) (x : UpNode) (a : AttemptState) (k : Call) (q : NodeState) (i : Install) (s : Scene) → At c M n told disk x
    → MayChange c n told x (Counts a k q i) → NoUpdate told → AllSound M s.moments → Grows M N → Tied c N n (changed c n x (Counts a k q i)) → Goes n told v N (site (Up x) disk) s
    → Goes n told v N (site (Up (changed c n x (Counts a k q i))) (kept_record (changed c n x (Counts a k q i)))) (telling (entry.Node n (note.Installed i.epoch)) (saving n s))
counts_goes c M n told v N disk x a k q i s at may none sound g t h =
    let y : UpNode = changed c n x (Counts a k q i) in
    let first : List Moment = saved n ∷ s.moments in
    let last : List Moment = installed n i.epoch ∷ first in
    let one : Rest n told v N (saving n s) = saved_rest n told v N s (rest_of n told v N (site (Up x) disk) s h) in
    let old : AttemptKept N s.moments n (kept_record x) a = kept_of N s.moments n (kept_record x) x.attempt a may.0 h.here.up.attempt in
    let over : AttemptKept N first n (kept_record x) a = over_saved N s.moments n (kept_record x) a old in
    let f : Counted c M N n first disk a k i = counted_so c M n told N disk x a k q i first at may (tt, sound) g t one.hand over in
    let so : record_of n last ≡ installed_from i.epoch (record_of n first) (records_told (promises i.epoch first)) =
    if_so (n == n) (if n == coordinator i.epoch then installed_from i.epoch (record_of n first) (records_told (promises i.epoch first)) else record_told (arrived first)) (record_of n first) (is_same n)
    ∙ if_so (n == coordinator i.epoch) (installed_from i.epoch (record_of n first) (records_told (promises i.epoch first))) (record_told (arrived first)) (at_own n i.epoch f.own) in
    let told_so : IfSome (record_of n last) (λ r. r ≡ brought_by i) =
    subst (λ o. IfSome o (λ r. r ≡ brought_by i)) (sym so)
    (own_installed_so c N i (record_of n first) (records_told (promises i.epoch first)) disk t.holds f.brought (f.hand (shown disk) f.is)
    (subst (λ o. IfSome o (λ r. r ≡ shown disk)) (sym (saved_same n s.moments told none h.hand)) h.here.record_so)) in
    let law : IsNewestInstalled first (installed n i.epoch) =
    subst (λ b. Unless (not b) (IfSome (record_of n last) (λ r. IfSome (records_in_hand i.epoch first) (λ records. HasNewestTexts r.texts records × HasNewestPending r.pending records)))) (sym (at_own n i.epoch f.own))
    (newest_law c N i (record_of n last) (own_record i.epoch first) (records_told (promises i.epoch first)) t.holds f.brought
    (λ own is. f.hand own (when (own_record i.epoch first) (λ o. IsOf o ((N.node n).showed i.epoch)) own is (subst (λ e. IfSome (own_record e first) (λ o. IsOf o ((N.node n).showed e))) (sym f.epoch) over.first))) told_so) in
    let two : Rest n told v N (telling (entry.Node n (note.Installed i.epoch)) (saving n s)) =
    own_rest n told v N (saving n s) (entry.Node n (note.Installed i.epoch)) (own_installed n first i.epoch) (judged_more first (installed n i.epoch) tt law refl one.judged) one in
    let now : installed_of n last ≡ Some i.epoch = if_so (n == n) (Some i.epoch) (installed_of n first) (is_same n) in
    with_here n told v N (site (Up y) (kept_record y)) (telling (entry.Node n (note.Installed i.epoch)) (saving n s)) two
    (up_site N last n y told_so (subst (λ o. IfSome o (λ z. z ≡ i.epoch)) (sym now) refl)
    (record {
      own = ap coordinator f.number ∙ f.own;
      first = subst (λ e. IfSome (own_record e last) (λ o. IsOf o ((N.node n).showed e))) (sym f.epoch ∙ sym f.number) over.first;
      answered = subst (λ e. (N.node n).answered e ≡ true) (sym f.epoch ∙ sym f.number) over.answered;
      heard = λ j d lt. heard_stays first last n (turn a k).after.plan.epoch _ (λ is. is) (f.heard j d lt);
      epoch = λ is. now ∙ ap Some (sym f.number);
      installs = λ is. ap brought_by f.install;
    })
    (λ some same other. absurd (other (ap coordinator (sym (forming_attempt c M n told disk x a q at may.0 may.1).2.epoch ∙ sym f.epoch) ∙ f.own))))
  where
    over_saved : (N : Memberships) (ms : List Moment) (n : ℕ) (r : NodeRecord) (a : AttemptState) → AttemptKept N ms n r a → AttemptKept N (saved n ∷ ms) n r a
    over_saved N ms n r a h = record { own = h.own; first = h.first; answered = h.answered; heard = λ j d lt. heard_stays ms (saved n ∷ ms) n a.plan.epoch _ (λ is. is) (h.heard j d lt); epoch = h.epoch; installs = h.installs }
