-- Changes of the record while a node is in a session, and those of a member: what the trace tells of the record is so again at the end of their lines.
use Rattle.std.specs.Prelude.{ℕ, ◌+◌, ◌≡◌, ◌<◌, ◌≤◌, ◌==◌, true, List, ◌∷◌, Option, None, Some, IfSome, is_some, length}
use Rattle.std.proofs.Common.{refl, sym, ap, subst, ◌∙◌, arith}
use Rattle.ccr_commit.specs.Entries.{texts_of}
use Rattle.cmm_attempt.specs.Attempts.{AttemptState}
use Rattle.cmm_member.specs.Nodes.{NodeState}
use Rattle.cmm_member.specs.Records.{NodeRecord}
use Rattle.history.specs.Member.{installed_of}
use Rattle.history.specs.Moment.{Moment}
use Rattle.history.specs.Records.{all_committed, record_of, with_update}
use Rattle.history.specs.Setting.{coordinator}
use Rattle.history.specs.Trace.{saved}
use Rattle.membership_machine.specs.Invariant.{Holds}
use Rattle.membership_machine.specs.State.{Memberships}
use Rattle.node_model.specs.Members.{rested_by}
use Rattle.node_model.specs.Seats.{promised_of, promising, record_of as kept_record, state_of, with_state}
use Rattle.node_model.specs.declared.cluster.Cluster.{Cluster}
use Rattle.node_model.specs.declared.node.Node.TheVariants.{Up}
use Rattle.node_model.specs.declared.node.UpNode.{UpNode}
use Rattle.node_model.specs.declared.presidency.Presidency.{Presidency}
use Rattle.node_model.specs.declared.seat.Seat.{Seat}
use Rattle.node_model.specs.declared.seat.Seat.TheVariants.{Forming, Member}
use Rattle.refinement.specs.Doings.{changed, site}
use Rattle.refinement.specs.Doings.Change.{Commits, Prepares, Promises}
use Rattle.refinement.specs.Guards.{MayChange}
use Rattle.refinement.specs.Runs.{Nodes}
use Rattle.refinement.specs.Ties.{Delivered, NodeTied, SeatTied, setting_of}
use Rattle.refinement.proofs.Changes.{Sees, sees}
use Rattle.refinement.proofs.Presidents.{member_tied, presides_of}
use Rattle.status_report.specs.declared.entry.Entry.TheVariants as entry
use Rattle.status_report.specs.declared.node_entry.NodeEntry.TheVariants as note
use Rattle.wire.specs.declared.message.Body.TheVariants as body
use Rattle.run_history.specs.Scenes.{Scene, telling}
use Rattle.run_history.proofs.Changes.{At}
use Rattle.run_history.proofs.Heard.{own_number}
use Rattle.run_history.proofs.Ups.{same_state}
use Rattle.run_messages.specs.records.Kept.{AttemptIn, Came, Goes, HandKept, SeatKept, SiteKept}
use Rattle.run_messages.specs.records.Losses.{NoUpdate}
use Rattle.run_messages.specs.records.Shown.{InstalledIn, RecordIn, shown}
use Rattle.run_messages.proofs.records.Grow.{judged_more}
use Rattle.run_messages.proofs.records.Own.{Rest, Same, in_over, no_attempt, own_rest, own_saved, rest_of, same_line, up_site, with_here}
use Rattle.run_messages.proofs.records.Saves.{committed_shown, map_so, next_shown, saved_commit, saved_prepare, saved_same}
use Rattle.run_messages.proofs.records.Sends.{is_same}

abbrev pub saving : ℕ → Scene → Scene
saving n s = telling (entry.Node n note.Saved) s

pub saved_rest : (n : ℕ) (told : Delivered) (v : Nodes) (M : Memberships) (s : Scene) → Rest n told v M s → Rest n told v M (saving n s)
saved_rest n told v M s h = own_rest n told v M s (entry.Node n note.Saved) (own_saved n s.moments) (judged_more s.moments (saved n) tt tt refl h.judged) h

-- what the node has, in the machine after it
pub record Tied (c : Cluster) (N : Memberships) (n : ℕ) (y : UpNode) : Type 0 where
  pub holds : Holds (setting_of c) N
  pub tied : NodeTied c N n (kept_record y) (Up y)

member_seat : (c : Cluster) (N : Memberships) (n : ℕ) (disk : NodeRecord) (o : Option AttemptState) (seat : Seat) (s : NodeState) → seat ≡ Member s → SeatTied c N n disk o seat → o ≡ None
member_seat c N n disk o seat s is tied = (subst (λ z. SeatTied c N n disk o z) is tied).2

-- a member has no attempt
pub member_none : (c : Cluster) (N : Memberships) (n : ℕ) (y : UpNode) (s : NodeState) → y.seat ≡ Member s → Tied c N n y → y.attempt ≡ None
member_none c N n y s is t = member_seat c N n (kept_record y) y.attempt y.seat s is t.tied.0

pub seat_at : (ms : List Moment) (n : ℕ) (seat : Seat) (s : NodeState) → seat ≡ Member s → SeatKept ms n seat
seat_at ms n seat s is = subst (λ z. SeatKept ms n z) (sym is) tt

-- a member, with this record
pub member_site : (c : Cluster) (N : Memberships) (n : ℕ) (y : UpNode) (s : NodeState) (ms : List Moment) → y.seat ≡ Member s → Tied c N n y → RecordIn ms n (kept_record y) → InstalledIn ms n (kept_record y)
    → SiteKept N ms n (site (Up y) (kept_record y))
member_site c N n y s ms is t r i = up_site N ms n y r i (no_attempt N ms n (kept_record y) y.attempt (member_none c N n y s is t)) (seat_at ms n y.seat s is)

-- ---- the record shows the same

pub plain_goes : (n : ℕ) (told : Delivered) (v : Nodes) (N : Memberships) (x y : UpNode) (disk : NodeRecord) (s : Scene) → Goes n told v N (site (Up x) disk) s → NoUpdate told
    → shown (kept_record y) ≡ shown disk → (kept_record y).installed ≡ disk.installed
    → ((ms : List Moment) → Same s.moments ms → installed_of n ms ≡ installed_of n s.moments → AttemptIn N ms n (kept_record y) y.attempt)
    → ((ms : List Moment) → (is_some (record_of n s.moments) ≡ true → is_some (record_of n ms) ≡ true) → SeatKept ms n y.seat)
    → Goes n told v N (site (Up y) (kept_record y)) (saving n s)
plain_goes n told v N x y disk s h none same inst att seat =
    let ms : List Moment = saved n ∷ s.moments in
    let kept : record_of n ms ≡ record_of n s.moments = saved_same n s.moments told none h.hand in
    with_here n told v N (site (Up y) (kept_record y)) (saving n s) (saved_rest n told v N s (rest_of n told v N (site (Up x) disk) s h))
    (up_site N ms n y (subst (λ o. IfSome o (λ r. r ≡ shown (kept_record y))) (sym kept) (subst (λ z. IfSome (record_of n s.moments) (λ r. r ≡ z)) (sym same) h.here.record_so))
    (subst (λ z. IfSome (installed_of n s.moments) (λ f. f ≡ z)) (sym inst) h.here.installed) (att ms (same_line n s.moments (saved n) (own_saved n s.moments)) refl)
    (seat ms (λ is. ap is_some kept ∙ is)))

rested_shown : (x : UpNode) (p : ℕ) (o : Option AttemptState) → shown (kept_record (rested_by (promising x p) o)) ≡ shown (kept_record x)
rested_shown x p None = refl
rested_shown x p (Some a) = refl

rested_installed : (x : UpNode) (p : ℕ) (o : Option AttemptState) → (kept_record (rested_by (promising x p) o)).installed ≡ (kept_record x).installed
rested_installed x p None = refl
rested_installed x p (Some a) = refl

pub rested_none : (x : UpNode) (p : ℕ) (o : Option AttemptState) → (rested_by (promising x p) o).attempt ≡ None
rested_none x p None = refl
rested_none x p (Some a) = refl

-- what is promised is above what is installed
pub installed_below : (c : Cluster) (M : Memberships) (n : ℕ) (told : Delivered) (disk : NodeRecord) (x : UpNode) (p : ℕ) → At c M n told disk x → promised_of x < p → p ≡ (kept_record x).installed → ⊥
installed_below c M n told disk x p at above same =
    let e : Sees M n disk (state_of x.seat) = sees c M n disk x.attempt x.seat at.tied.0 in
    apart p (kept_record x).installed (promised_of x) (M.node n).saved.installed (M.node n).promised (ap (λ r. r.installed) e.saved) e.promised (at.holds.node n).installed above same
  where
    apart : (p i q mi mp : ℕ) → mi ≡ i → mp ≡ q → mi ≤ mp → q < p → p ≡ i → ⊥
    apart p i q mi mp e f l m same = grind arith

rested_seat : (c : Cluster) (M : Memberships) (n : ℕ) (told : Delivered) (disk : NodeRecord) (x : UpNode) (p : ℕ) (o : Option AttemptState) (ms : List Moment) → At c M n told disk x → promised_of x < p
    → SeatKept ms n (rested_by (promising x p) o).seat
rested_seat c M n told disk x p None ms at above = λ some same other. absurd (installed_below c M n told disk x p at above same)
rested_seat c M n told disk x p (Some a) ms at above = λ some same other. absurd (installed_below c M n told disk x p at above same)

pub disk_is : (c : Cluster) (M : Memberships) (n : ℕ) (told : Delivered) (disk : NodeRecord) (x : UpNode) → At c M n told disk x → kept_record x ≡ disk
disk_is c M n told disk x at = sym (sees c M n disk x.attempt x.seat at.tied.0).disk_so

pub promises_goes : (c : Cluster) (M : Memberships) (n : ℕ) (told : Delivered) (v : Nodes) (N : Memberships) (disk : NodeRecord) (x : UpNode) (p : ℕ) (s : Scene) → At c M n told disk x → MayChange c n told x (Promises p) → NoUpdate told
    → Goes n told v N (site (Up x) disk) s → Goes n told v N (site (Up (changed c n x (Promises p))) (kept_record (changed c n x (Promises p)))) (saving n s)
promises_goes c M n told v N disk x p s at may none h =
    let y : UpNode = changed c n x (Promises p) in
    plain_goes n told v N x y disk s h none (rested_shown x p x.attempt ∙ ap shown (disk_is c M n told disk x at)) (rested_installed x p x.attempt ∙ ap (λ (r : NodeRecord). r.installed) (disk_is c M n told disk x at))
    (λ ms same i. no_attempt N ms n (kept_record y) y.attempt (rested_none x p x.attempt)) (λ ms f. rested_seat c M n told disk x p x.attempt ms at may.1)

-- another state in the same seat, whose session, epoch and updates are the same
pub state_goes : (c : Cluster) (M : Memberships) (n : ℕ) (told : Delivered) (v : Nodes) (N : Memberships) (disk : NodeRecord) (x y : UpNode) (t : NodeState) (s : Scene) → At c M n told disk x → NoUpdate told → y.seat ≡ with_state x.seat t
    → y.attempt ≡ x.attempt → shown t.saved ≡ shown (kept_record x) → t.saved.installed ≡ (kept_record x).installed → t.session ≡ (state_of x.seat).session
    → Goes n told v N (site (Up x) disk) s → Goes n told v N (site (Up y) (kept_record y)) (saving n s)
state_goes c M n told v N disk x y t s at none seat tries same inst session h =
    let state : state_of y.seat ≡ t = ap state_of seat ∙ same_state x.seat t in
    let shows : shown (kept_record y) ≡ shown (kept_record x) = ap (λ (z : NodeState). shown z.saved) state ∙ same in
    plain_goes n told v N x y disk s h none (shows ∙ ap shown (disk_is c M n told disk x at))
    (ap (λ (z : NodeState). z.saved.installed) state ∙ (inst ∙ ap (λ (r : NodeRecord). r.installed) (disk_is c M n told disk x at)))
    (λ ms over i. subst (λ o. AttemptIn N ms n (kept_record y) o) (sym tries) (in_over N s.moments ms n (kept_record x) (kept_record y) x.attempt over i shows h.here.up.attempt))
    (λ ms f. subst (λ z. SeatKept ms n z) (sym seat) (seat_with ms x.seat f h.here.up.seat inst session))
  where
    seat_with : (ms : List Moment) (z : Seat) → (is_some (record_of n s.moments) ≡ true → is_some (record_of n ms) ≡ true) → SeatKept s.moments n z → t.saved.installed ≡ (state_of z).saved.installed → t.session ≡ (state_of z).session
        → SeatKept ms n (with_state z t)
    seat_with ms (Forming q) f k i e = λ some is other. f (k (subst (λ z. 0 < z) e some) (sym e ∙ (is ∙ i)) (λ at. other (ap coordinator e ∙ at)))
    seat_with ms (Member q) f k i e = tt

-- ---- a member's updates

prepare_hand : (c : Cluster) (n : ℕ) (told : Delivered) (x : UpNode) (q : NodeState) (text : List ℕ) (ms : List Moment) (Q : Type 0) → MayChange c n told x (Prepares q text) → HandKept ms n told
    → ((from : ℕ) → Came ms n from (body.Prepare q.session (length (texts_of q.saved.entries) + 1) text) → Q) → Q
prepare_hand c n None x q text ms Q may hand f = absurd may.1
prepare_hand c n (Some d) x q text ms Q may hand f = f d.0 (subst (λ b. Came ms n d.0 b) may.1 hand)

commit_hand : (c : Cluster) (n : ℕ) (told : Delivered) (x : UpNode) (q : NodeState) (ms : List Moment) (Q : Type 0) → MayChange c n told x (Commits q) → HandKept ms n told
    → ((from : ℕ) → Came ms n from (body.Commit q.session (length q.saved.entries.committed + 1)) → Q) → Q
commit_hand c n None x q ms Q may hand f = absurd may.2
commit_hand c n (Some d) x q ms Q may hand f = f d.0 (subst (λ b. Came ms n d.0 b) may.2 hand)

pub state_is : (x : UpNode) (q : NodeState) → x.seat ≡ Member q → kept_record x ≡ q.saved
state_is x q is = ap (λ z. (state_of z).saved) is

pub prepares_goes : (c : Cluster) (M : Memberships) (n : ℕ) (told : Delivered) (v : Nodes) (N : Memberships) (disk : NodeRecord) (x : UpNode) (q : NodeState) (text : List ℕ) (s : Scene) → At c M n told disk x
    → MayChange c n told x (Prepares q text) → Tied c N n (changed c n x (Prepares q text)) → Goes n told v N (site (Up x) disk) s
    → Goes n told v N (site (Up (changed c n x (Prepares q text))) (kept_record (changed c n x (Prepares q text)))) (saving n s)
prepares_goes c M n told v N disk x q text s at may t h =
    let y : UpNode = changed c n x (Prepares q text) in
    let ms : List Moment = saved n ∷ s.moments in
    let kept : q.saved ≡ disk = sym (state_is x q may.0) ∙ disk_is c M n told disk x at in
    prepare_hand c n told x q text s.moments (Goes n told v N (site (Up y) (kept_record y)) (saving n s)) may h.hand (λ from came.
    with_here n told v N (site (Up y) (kept_record y)) (saving n s) (saved_rest n told v N s (rest_of n told v N (site (Up x) disk) s h))
    (member_site c N n y _ ms refl t
    (subst (λ o. IfSome o (λ r. r ≡ shown (kept_record y))) (sym (saved_prepare n s.moments from q.session (length (texts_of q.saved.entries) + 1) text came))
    (map_so (record_of n s.moments) (with_update (length (texts_of q.saved.entries) + 1) (Some text)) (shown q.saved) (shown (kept_record y)) (next_shown q.saved text)
    (subst (λ z. IfSome (record_of n s.moments) (λ r. r ≡ shown z)) (sym kept) h.here.record_so)))
    (subst (λ (z : NodeRecord). IfSome (installed_of n s.moments) (λ f. f ≡ z.installed)) (sym kept) h.here.installed)))

pub commits_goes : (c : Cluster) (M : Memberships) (n : ℕ) (told : Delivered) (v : Nodes) (N : Memberships) (disk : NodeRecord) (x : UpNode) (q : NodeState) (s : Scene) → At c M n told disk x
    → MayChange c n told x (Commits q) → Tied c N n (changed c n x (Commits q)) → Goes n told v N (site (Up x) disk) s
    → Goes n told v N (site (Up (changed c n x (Commits q))) (kept_record (changed c n x (Commits q)))) (saving n s)
commits_goes c M n told v N disk x q s at may t h =
    let y : UpNode = changed c n x (Commits q) in
    let ms : List Moment = saved n ∷ s.moments in
    let kept : q.saved ≡ disk = sym (state_is x q may.0) ∙ disk_is c M n told disk x at in
    commit_hand c n told x q s.moments (Goes n told v N (site (Up y) (kept_record y)) (saving n s)) may h.hand (λ from came.
    with_here n told v N (site (Up y) (kept_record y)) (saving n s) (saved_rest n told v N s (rest_of n told v N (site (Up x) disk) s h))
    (member_site c N n y _ ms refl t
    (subst (λ o. IfSome o (λ r. r ≡ shown (kept_record y))) (sym (saved_commit n s.moments from q.session (length q.saved.entries.committed + 1) came))
    (map_so (record_of n s.moments) all_committed (shown q.saved) (shown (kept_record y)) (committed_shown q.saved)
    (subst (λ z. IfSome (record_of n s.moments) (λ r. r ≡ shown z)) (sym kept) h.here.record_so)))
    (subst (λ (z : NodeRecord). IfSome (installed_of n s.moments) (λ f. f ≡ z.installed)) (sym kept) h.here.installed)))

-- ---- a president's

-- it coordinates its membership
pub presides_own : (c : Cluster) (M : Memberships) (n : ℕ) (told : Delivered) (disk : NodeRecord) (x : UpNode) (q : NodeState) (p : Presidency) → At c M n told disk x → x.presidency ≡ Some p → x.seat ≡ Member q → coordinator q.session ≡ n
presides_own c M n told disk x q p at is sits = own_number q.session n (presides_of M n x.presidency q p is (member_tied c M n x disk q at.tied sits).president).own

pub at_own : (n e : ℕ) → coordinator e ≡ n → (n == coordinator e) ≡ true
at_own n e own = subst (λ z. (n == z) ≡ true) (sym own) (is_same n)
