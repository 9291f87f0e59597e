-- What a node installs and starts for another node's attempt is in its record as the trace tells it; and so is its record where its own attempt begins.
use Rattle.std.specs.Prelude.{ℕ, ◌≡◌, ◌≢◌, ◌<◌, ◌≤◌, ◌==◌, Bool, true, false, not, List, ◌∷◌, Option, None, Some, IfSome, is_some, option_map, if◌then◌else◌}
use Rattle.std.proofs.Common.{refl, sym, ap, subst, ◌∙◌, arith}
use Rattle.cmm_attempt.specs.Attempts.{AttemptState}
use Rattle.cmm_attempt.specs.declared.phase.Phase.TheVariants.{Installing}
use Rattle.cmm_member.specs.Nodes.{NodeState}
use Rattle.cmm_member.specs.Records.{NodeRecord}
use Rattle.history.specs.Contents.{HasNewestPending, HasNewestTexts, IsNewestInstalled}
use Rattle.history.specs.Letters.{arrived}
use Rattle.history.specs.Member.{installed_of}
use Rattle.history.specs.Moment.{Moment}
use Rattle.history.specs.Order.{Unless}
use Rattle.history.specs.Records.{NodeRecord as Shown, all_committed, base_record, promises, record_in, record_of, record_told, records_in_hand, records_told, installed_from}
use Rattle.history.specs.Deeds.{deeds}
use Rattle.history.specs.Seizing.{or_else}
use Rattle.history.specs.Setting.{coordinator}
use Rattle.history.specs.Trace.{installed, member, saved}
use Rattle.machine_base.specs.Epochs as machine
use Rattle.membership_machine.specs.State.{Memberships}
use Rattle.node_model.specs.Seats.{record_of as kept_record, state_of}
use Rattle.node_model.specs.declared.cluster.Cluster.{Cluster}
use Rattle.node_model.specs.declared.node.Node.TheVariants.{Up}
use Rattle.node_model.specs.declared.node.UpNode.{UpNode}
use Rattle.node_model.specs.declared.seat.Seat.TheVariants.{Forming}
use Rattle.refinement.specs.Doings.{changed, site}
use Rattle.refinement.specs.Doings.Change.{Installs, Sits}
use Rattle.refinement.specs.Guards.{MayChange}
use Rattle.refinement.specs.Runs.{Nodes}
use Rattle.refinement.specs.Ties.{Coordinates, CountedIn, Delivered, SeatTied}
use Rattle.refinement.proofs.Changes.{said_known}
use Rattle.status_report.specs.declared.entry.Entry.TheVariants as entry
use Rattle.status_report.specs.declared.node_entry.NodeEntry.TheVariants as note
use Rattle.wire.specs.declared.message.Body.TheVariants as body
use Rattle.wire.specs.declared.message.Install.{Install}
use Rattle.run_history.specs.Scenes.{Scene, telling}
use Rattle.run_history.proofs.Changes.{At}
use Rattle.run_messages.specs.records.Kept.{AttemptIn, Came, Goes, HandKept, SeatKept, brought_by}
use Rattle.run_messages.specs.records.Losses.{NoUpdate}
use Rattle.run_messages.specs.records.Shown.{IsOf, shown}
use Rattle.run_messages.proofs.records.Changes.{Tied, disk_is, member_site, saved_rest, saving}
use Rattle.run_messages.proofs.records.Grow.{heard_stays, judged_more}
use Rattle.run_messages.proofs.records.Own.{Rest, Same, own_installed, own_member, own_rest, own_saved, rest_of, same_line, same_more, up_site, with_here}
use Rattle.run_messages.proofs.records.Saves.{committed_shown, saved_same}
use Rattle.run_messages.proofs.records.Sends.{if_not, if_so, is_same, not_same}

pub machine_own : (e n : ℕ) → coordinator e ≡ n → machine.coordinator e ≡ n
unfolding machine.coordinator
machine_own e n h = h

false_true : false ≡ true → ⊥
false_true h = cc

-- ---- an install of another node's attempt

installed_unless : (ms : List Moment) (n e : ℕ) → coordinator e ≢ n → IsNewestInstalled ms (installed n e)
installed_unless ms n e other =
    subst (λ b. Unless (not b) (IfSome (record_of n (installed n e ∷ ms)) (λ r. IfSome (records_in_hand e ms) (λ records. HasNewestTexts r.texts records × HasNewestPending r.pending records)))) (sym (not_same n (coordinator e) (λ at. other (sym at)))) tt

forming_tied : (c : Cluster) (M : Memberships) (n : ℕ) (told : Delivered) (disk : NodeRecord) (x : UpNode) (q : NodeState) → At c M n told disk x → x.seat ≡ Forming q → SeatTied c M n disk x.attempt (Forming q)
forming_tied c M n told disk x q at is = subst (λ z. SeatTied c M n disk x.attempt z) is at.tied.0

-- what another node's attempt installs is none of its own
pub install_other : (c : Cluster) (M : Memberships) (n : ℕ) (told : Delivered) (disk : NodeRecord) (x : UpNode) (q : NodeState) (i : Install) → At c M n told disk x → MayChange c n told x (Installs q i) → coordinator i.epoch ≢ n
install_other c M n told disk x q i at may own =
    said_known M told (body.Install i) ⊥ may.1 at.known (λ from so.
    let tied : SeatTied c M n disk x.attempt (Forming q) = forming_tied c M n told disk x q at may.0 in
    let low : i.epoch ≤ (M.node n).saved.installed = subst (λ z. i.epoch ≤ (M.node z).saved.installed) (machine_own i.epoch n own) ((at.holds.epoch i.epoch).counted_installed so.counted) in
    apart i.epoch (M.node n).saved.installed q.saved.installed (M.node n).promised (M.node n).session q.session low (ap (λ r. r.installed) tied.0.saved) (at.holds.node n).installed
    ((at.holds.node n).session) tied.0.session may.3 may.2 may.4)
  where
    apart : (e mi i mp ms s : ℕ) → e ≤ mi → mi ≡ i → mi ≤ mp → (0 < ms → ms ≡ mp) → ms ≡ s → s ≡ e → 1 ≤ e → i ≢ e → ⊥
    apart e mi i mp ms s a b d f g h low other = other (same (f (some ms e (g ∙ h) low)))
      where
        some : (k e : ℕ) → k ≡ e → 1 ≤ e → 0 < k
        some k e is l = grind arith

        same : ms ≡ mp → i ≡ e
        same is = grind arith

attempt_but : (N : Memberships) (before after : List Moment) (n : ℕ) (r t : NodeRecord) (o : Option AttemptState) → Same before after → ((a : AttemptState) → o ≡ Some a → a.phase ≡ Installing → ⊥) → AttemptIn N before n r o → AttemptIn N after n t o
attempt_but N before after n r t None same none h = tt
attempt_but N before after n r t (Some a) same none h = record {
  own = h.own;
  first = subst (λ o. IfSome o (λ z. IsOf z ((N.node n).showed a.plan.epoch))) (sym (same.first_so a.plan.epoch)) h.first;
  answered = h.answered;
  heard = λ i d lt. heard_stays before after n a.plan.epoch _ (same.told a.plan.epoch _) (h.heard i d lt);
  epoch = λ now. absurd (none a refl now);
  installs = λ now. absurd (none a refl now);
}

none_installing : (c : Cluster) (M : Memberships) (n : ℕ) (told : Delivered) (disk : NodeRecord) (x : UpNode) (q : NodeState) (e : ℕ) → At c M n told disk x → x.seat ≡ Forming q → q.session ≡ e → q.saved.installed ≢ e
    → (a : AttemptState) → x.attempt ≡ Some a → a.phase ≡ Installing → ⊥
none_installing c M n told disk x q e at seat session other a is now =
    let tied : SeatTied c M n disk (Some a) (Forming q) = subst (λ o. SeatTied c M n disk o (Forming q)) is (forming_tied c M n told disk x q at seat) in
    let co : Coordinates c M n q a = tied.2 in
    other ((subst (CountedIn M q a) now co.counted).0 ∙ (co.epoch ∙ session))

install_hand : (c : Cluster) (n : ℕ) (told : Delivered) (x : UpNode) (q : NodeState) (i : Install) (ms : List Moment) (Q : Type 0) → MayChange c n told x (Installs q i) → HandKept ms n told → ((from : ℕ) → Came ms n from (body.Install i) → Q) → Q
install_hand c n None x q i ms Q may hand f = absurd may.1
install_hand c n (Some d) x q i ms Q may hand f = f d.0 (subst (λ b. Came ms n d.0 b) may.1 hand)

pub installs_goes : (c : Cluster) (M : Memberships) (n : ℕ) (told : Delivered) (v : Nodes) (N : Memberships) (disk : NodeRecord) (x : UpNode) (q : NodeState) (i : Install) (s : Scene) → At c M n told disk x
    → MayChange c n told x (Installs q i) → Goes n told v N (site (Up x) disk) s
    → Goes n told v N (site (Up (changed c n x (Installs q i))) (kept_record (changed c n x (Installs q i)))) (telling (entry.Node n (note.Installed i.epoch)) (saving n s))
installs_goes c M n told v N disk x q i s at may h =
    let y : UpNode = changed c n x (Installs q i) in
    let first : List Moment = saved n ∷ s.moments in
    let last : List Moment = installed n i.epoch ∷ first in
    let other : coordinator i.epoch ≢ n = install_other c M n told disk x q i at may in
    let one : Rest n told v N (saving n s) = saved_rest n told v N s (rest_of n told v N (site (Up x) disk) s h) in
    let two : Rest n told v N (telling (entry.Node n (note.Installed i.epoch)) (saving n s)) =
    own_rest n told v N (saving n s) (entry.Node n (note.Installed i.epoch)) (own_installed n first i.epoch) (judged_more first (installed n i.epoch) tt (installed_unless first n i.epoch other) refl one.judged) one in
    install_hand c n told x q i first (Goes n told v N (site (Up y) (kept_record y)) (telling (entry.Node n (note.Installed i.epoch)) (saving n s))) may one.hand (λ from came.
    let so : record_of n last ≡ Some (brought_by i) =
    if_so (n == n) (if n == coordinator i.epoch then installed_from i.epoch (record_of n first) (records_told (promises i.epoch first)) else record_told (arrived first)) (record_of n first) (is_same n)
    ∙ (if_not (n == coordinator i.epoch) (installed_from i.epoch (record_of n first) (records_told (promises i.epoch first))) (record_told (arrived first)) (not_same n (coordinator i.epoch) (λ e. other (sym e))) ∙ (ap record_told came.here ∙ ap record_in came.read)) in
    with_here n told v N (site (Up y) (kept_record y)) (telling (entry.Node n (note.Installed i.epoch)) (saving n s)) two
    (up_site N last n y (subst (λ o. IfSome o (λ r. r ≡ shown (kept_record y))) (sym so) refl)
    (subst (λ o. IfSome o (λ f. f ≡ i.epoch)) (sym (if_so (n == n) (Some i.epoch) (installed_of n first) (is_same n))) refl)
    (attempt_but N s.moments last n (kept_record x) (kept_record y) x.attempt (same_more s.moments first last (same_line n s.moments (saved n) (own_saved n s.moments)) (same_line n first (installed n i.epoch) (own_installed n first i.epoch)))
    (none_installing c M n told disk x q i.epoch at may.0 may.3 may.4) h.here.up.attempt)
    (λ some same lead. ap is_some so)))

-- ---- the start of another node's attempt

pub or_so : (o : Option Shown) (other : Option Shown) (f : Shown → Shown) (a b : Shown) → is_some o ≡ true → f a ≡ b → IfSome o (λ r. r ≡ a) → IfSome (or_else (option_map f o) other) (λ r. r ≡ b)
or_so None other f a b some is h = absurd (false_true some)
or_so (Some r) other f a b some is h = ap f h ∙ is

-- with the save before it, or without
abbrev pub maybe_saving : Bool → ℕ → Scene → Scene
maybe_saving b n s = if b then saving n s else s

pub maybe_rest : (b : Bool) (n : ℕ) (told : Delivered) (v : Nodes) (M : Memberships) (s : Scene) → Rest n told v M s → Rest n told v M (maybe_saving b n s)
maybe_rest true n told v M s h = saved_rest n told v M s h
maybe_rest false n told v M s h = h

pub maybe_record : (b : Bool) (n : ℕ) (told : Delivered) (s : Scene) → NoUpdate told → HandKept s.moments n told → record_of n (maybe_saving b n s).moments ≡ record_of n s.moments
maybe_record true n told s none hand = saved_same n s.moments told none hand
maybe_record false n told s none hand = refl

pub maybe_installed : (b : Bool) (n : ℕ) (s : Scene) → installed_of n (maybe_saving b n s).moments ≡ installed_of n s.moments
maybe_installed true n s = refl
maybe_installed false n s = refl

sits_some : (c : Cluster) (M : Memberships) (n : ℕ) (told : Delivered) (v : Nodes) (N : Memberships) (disk : NodeRecord) (x : UpNode) (q : NodeState) (e : ℕ) (s : Scene) → At c M n told disk x → MayChange c n told x (Sits q e)
    → SeatKept s.moments n x.seat → is_some (record_of n s.moments) ≡ true
sits_some c M n told v N disk x q e s at may kept =
    said_known M told (body.Start e) (is_some (record_of n s.moments) ≡ true) may.1 at.known (λ from so.
    let tied : SeatTied c M n disk x.attempt (Forming q) = forming_tied c M n told disk x q at may.0 in
    let low : 0 < e = (at.holds.epoch e).tried_positive ((at.holds.epoch e).counted_tried ((at.holds.epoch e).started_counted so)) in
    let here : 0 < q.session = subst (λ z. 0 < z) (sym may.2) low in
    let there : (M.node n).session ≡ q.session = tied.0.session in
    subst (λ z. SeatKept s.moments n z) may.0 kept here (may.2 ∙ sym may.3)
    (λ own. false_true (sym tied.0.member ∙ (at.holds.leads n).sits (subst (λ z. 0 < z) (sym there) here) (ap machine.coordinator there ∙ machine_own q.session n own)
    (subst (λ z. (M.epoch z).started ≡ true) (sym (there ∙ may.2)) so))))

pub sits_goes : (c : Cluster) (M : Memberships) (n : ℕ) (told : Delivered) (v : Nodes) (N : Memberships) (disk : NodeRecord) (x : UpNode) (q : NodeState) (e : ℕ) (s : Scene) (b : Bool) → At c M n told disk x
    → MayChange c n told x (Sits q e) → NoUpdate told → Tied c N n (changed c n x (Sits q e)) → Goes n told v N (site (Up x) disk) s
    → Goes n told v N (site (Up (changed c n x (Sits q e))) (kept_record (changed c n x (Sits q e)))) (telling (entry.Node n (note.Member e)) (maybe_saving b n s))
sits_goes c M n told v N disk x q e s b at may none t h =
    let y : UpNode = changed c n x (Sits q e) in
    let t0 : Scene = maybe_saving b n s in
    let one : Rest n told v N t0 = maybe_rest b n told v N s (rest_of n told v N (site (Up x) disk) s h) in
    let two : Rest n told v N (telling (entry.Node n (note.Member e)) t0) =
    own_rest n told v N t0 (entry.Node n (note.Member e)) (own_member n t0.moments e) (judged_more t0.moments (member n e) tt tt refl one.judged) one in
    let kept : q.saved ≡ disk = sym (ap (λ z. (state_of z).saved) may.0) ∙ disk_is c M n told disk x at in
    let before : record_of n t0.moments ≡ record_of n s.moments = maybe_record b n told s none h.hand in
    with_here n told v N (site (Up y) (kept_record y)) (telling (entry.Node n (note.Member e)) t0) two
    (member_site c N n y _ (member n e ∷ t0.moments) refl t
    (subst (λ o. IfSome o (λ r. r ≡ shown (kept_record y))) (sym (if_so (n == n) (or_else (option_map all_committed (record_of n t0.moments)) (base_record e (deeds t0.moments))) (record_of n t0.moments) (is_same n)))
    (or_so (record_of n t0.moments) (base_record e (deeds t0.moments)) all_committed (shown q.saved) (shown (kept_record y)) (ap is_some before ∙ sits_some c M n told v N disk x q e s at may h.here.up.seat) (committed_shown q.saved)
    (subst (λ o. IfSome o (λ r. r ≡ shown q.saved)) (sym before) (subst (λ z. IfSome (record_of n s.moments) (λ r. r ≡ shown z)) (sym kept) h.here.record_so))))
    (subst (λ o. IfSome o (λ f. f ≡ q.saved.installed)) (sym (maybe_installed b n s)) (subst (λ (z : NodeRecord). IfSome (installed_of n s.moments) (λ f. f ≡ z.installed)) (sym kept) h.here.installed)))
