-- An attempt is counted, and its coordinator installs it.
use Rattle.std.specs.Prelude.{ℕ, zero, suc, ◌≡◌, ◌≢◌, ◌<◌, ◌==◌, ◌&&◌, ◌||◌, All, Bool, true, false, List, [], ◌∷◌, Option, None, Some, Contains, IfSome, find, take, if◌then◌else◌}
use Rattle.std.specs.Option.{unwrap_or}
use Rattle.std.proofs.Common.{refl, sym, ap, subst, ◌∙◌, inl, inr, arith}
use Rattle.std.specs.List.{cons_option, filter_map, list_any}
use Rattle.std.proofs.lemmas.List.Elements.{All-head, All-tail}
use Rattle.attempt_laws.specs.Asking.{AreApart, AskedBy, CountsAt, DeviceHas, EndedAs, HasEntry, IsAsked, IsOthers, IsUnasked, entry_numbers, entry_of, is_vote, numbers_of}
use Rattle.attempt_laws.specs.Laws.{is_held_in}
use Rattle.attempt_laws.specs.Machine.{AreVotes, AreVotesOf}
use Rattle.attempt_laws.proofs.Goes.{chosen_reached, goes_by_call}
use Rattle.attempt_laws.proofs.Left.{others_leave}
use Rattle.attempt_laws.proofs.Plain.{plain_has_no_votes}
use Rattle.attempt_laws.proofs.Sends.{found_entry}
use Rattle.attempt_laws.proofs.Stays.{plan_stays}
use Rattle.cl_base.specs.Seizings.{SeizeResult}
use Rattle.cl_base.specs.Sets.{has}
use Rattle.cl_base.specs.declared.seizing.SeizeEnd.TheVariants as end
use Rattle.cluster_machine.specs.Cluster as whole
use Rattle.cluster_machine.specs.Cluster.{Apart, Cluster as Whole, Joining, Known, Membership, New, Seizer, count_at, install_at}
use Rattle.cluster_machine.proofs.Whole.{InOrder, run_goes}
use Rattle.cmm_attempt.specs.declared.attached.AttachedDevice.{AttachedDevice}
use Rattle.cmm_attempt.specs.declared.plan.Plan.{Plan}
use Rattle.cmm_attempt.specs.declared.seizing.Seizing.{Seizing}
use Rattle.cmm_attempt.specs.Attempts.{AttemptState}
use Rattle.cmm_attempt.specs.Calls as calls
use Rattle.cmm_attempt.specs.Calls.{IsReached as IsReachedAttempt, turn}
use Rattle.cmm_attempt.specs.Counts.{is_enabled, is_enabled_pending, is_enabled_state, is_quorum}
use Rattle.cmm_attempt.specs.declared.counting.BothVotes.{BothVotes}
use Rattle.cmm_attempt.specs.Installs.{install_by}
use Rattle.cmm_attempt.specs.Promises.{is_from}
use Rattle.cmm_attempt.specs.declared.promised.Promised.{Promised}
use Rattle.cmm_attempt.specs.Seizings.{is_held_by, reading_by, reading_in, reading_of}
use Rattle.cmm_attempt.proofs.Basics.{false_true, none_some, same_number, same_some}
use Rattle.device_machine.specs.Attempt as attempt
use Rattle.device_machine.specs.Sharing as sharing
use Rattle.device_machine.specs.Sharing.{MayInstall, Sharing}
use Rattle.device_machine.proofs.Invariant.{Inv}
use Rattle.device_machine.proofs.Kept.{kept}
use Rattle.device_ties.specs.Devices.{DeviceTied}
use Rattle.machine_base.specs.Epochs.{coordinator}
use Rattle.machine_base.proofs.Puts.{put_here, put_there}
use Rattle.membership_machine.specs.Events as membership
use Rattle.membership_machine.specs.Records.{Saved}
use Rattle.membership_machine.specs.State.{Memberships}
use Rattle.membership_machine.specs.Votes.{Setting, Votes}
use Rattle.node_model.specs.Seats.{state_of}
use Rattle.quorum_votes.specs.declared.state.DevState.{DevState}
use Rattle.quorum_votes.specs.declared.state.DevState.TheVariants.{Enabled, Disabled, Absent}
use Rattle.quorum_votes.specs.declared.state.VoteDevice.{VoteDevice}
use Rattle.quorum_votes.specs.Tables.{VoteTable}
use Rattle.quorum_votes.specs.Votes as quorum_table
use Rattle.quorum_votes.specs.Votes.{device_at, device_votes_in, votes_of_device}
use Rattle.refinement.specs.Doings.{going}
use Rattle.refinement.proofs.Attempts.{install_epoch, reached_more}
use Rattle.seize.specs.declared.kind.SeizeKind.{SeizeKind}
use Rattle.seize.specs.declared.kind.SeizeKind.TheVariants.{Vote, Plain}
use Rattle.wire.specs.declared.lists.Reading.{Reading}
use Rattle.wire.specs.Spelling.{IsDevice}
use Rattle.cluster_ties.specs.Ties.{AttemptAt}
use Rattle.cluster_ties.specs.Moves.{CallGoes}
use Rattle.cluster_ties.specs.Laws.{AreRead, CountsGo, IsRead, LacksDevice, count_of}
use Rattle.cluster_ties.proofs.Calls.{calls_go}
use Rattle.cluster_ties.proofs.First.{in_order}
use Rattle.cluster_ties.proofs.Installs.{allowed, below_positive, device_at as device_so, has_at, installed_at, joining_at, others_at}
use Rattle.cluster_ties.proofs.Moves.{and_on}

-- The entry of a device is the only one, so the device is held where its entry is.

or_parts : (a b : Bool) → (a || b) ≡ false → (a ≡ false) × (b ≡ false)
or_parts true b k = absurd (false_true (sym k))
or_parts false b k = (refl, k)

none_held : (es : List Seizing) (d : ℕ) → list_any (λ x. x == d) (entry_numbers es) ≡ false → is_held_in es d ≡ false
none_held [] d h = refl
none_held (e ∷ es) d h =
    let two : ((e.attached.device == d) ≡ false) × (list_any (λ x. x == d) (entry_numbers es) ≡ false) = or_parts (e.attached.device == d) (list_any (λ x. x == d) (entry_numbers es)) h in
    subst (λ b. ((b && is_held_by e.result) || is_held_in es d) ≡ false) (sym two.0) (none_held es d two.1)

-- the entry of a device that is held
pub held_entry : (es : List Seizing) (d : ℕ) (o : Option Seizing) → AreApart (entry_numbers es) → entry_of es d ≡ o → is_held_in es d ≡ true → IfSome o (λ e. is_held_by e.result ≡ true)
held_entry es d None apart is held = tt
held_entry [] d (Some e) apart is held = absurd (false_true held)
held_entry (x ∷ es) d (Some e) apart is held = go (x.attached.device == d) refl is held (λ f h. held_entry es d (Some e) apart.1 f h)
  where
    or_left : (a b : Bool) → (a || b) ≡ true → b ≡ false → a ≡ true
    or_left true b h k = refl
    or_left false b h k = absurd (false_true (sym k ∙ h))

    go : (b : Bool) → (x.attached.device == d) ≡ b → (if b then Some x else entry_of es d) ≡ Some e → ((b && is_held_by x.result) || is_held_in es d) ≡ true
        → (entry_of es d ≡ Some e → is_held_in es d ≡ true → is_held_by e.result ≡ true) → is_held_by e.result ≡ true
    go true same f h rest =
        subst (λ (y : Seizing). is_held_by y.result ≡ true) (same_some x e f)
        (or_left (is_held_by x.result) (is_held_in es d) h (none_held es d (subst (λ k. list_any (λ y. y == k) (entry_numbers es) ≡ false) (same_number x.attached.device d same) apart.0)))
    go false same f h rest = rest f h

-- .. and the other way
held_listed : (es : List Seizing) (d : ℕ) (e : Seizing) → entry_of es d ≡ Some e → is_held_by e.result ≡ true → is_held_in es d ≡ true
held_listed [] d e is held = absurd (none_some e is)
held_listed (x ∷ es) d e is held = go (x.attached.device == d) is (held_listed es d e)
  where
    or_first : (a b : Bool) → a ≡ true → (a || b) ≡ true
    or_first true b h = refl
    or_first false b h = absurd (false_true h)

    go : (b : Bool) → (if b then Some x else entry_of es d) ≡ Some e → (entry_of es d ≡ Some e → is_held_by e.result ≡ true → is_held_in es d ≡ true) → ((b && is_held_by x.result) || is_held_in es d) ≡ true
    go true f rest = or_first (is_held_by x.result) (is_held_in es d) (subst (λ (y : Seizing). is_held_by y.result ≡ true) (sym (same_some x e f)) held)
    go false f rest = rest f held

held_none : (es : List Seizing) (d : ℕ) → entry_of es d ≡ None → is_held_in es d ≡ false
held_none [] d h = refl
held_none (x ∷ es) d h = go (x.attached.device == d) h (held_none es d)
  where
    go : (b : Bool) → (if b then Some x else entry_of es d) ≡ None → (entry_of es d ≡ None → is_held_in es d ≡ false) → ((b && is_held_by x.result) || is_held_in es d) ≡ false
    go true f rest = absurd (none_some x (sym f))
    go false f rest = rest f

-- What an install carries of devices.

-- at each device the attempt holds it as the entries say, and its seizer is that of the entry
pub record Counted (U : Whole) (q : ℕ) (es : List Seizing) : Type 0 where
  pub holds : (d : ℕ) → ((U.device d).attempt q).holds ≡ is_held_in es d
  pub entry : (d : ℕ) → HasEntry (U.device d) q (entry_of es d)

entry_device : (es : List Seizing) (d : ℕ) (e : Seizing) → entry_of es d ≡ Some e → e.attached.device ≡ d
entry_device [] d e h = absurd (none_some e h)
entry_device (x ∷ es) d e h = go (x.attached.device == d) refl h (entry_device es d e)
  where
    go : (b : Bool) → (x.attached.device == d) ≡ b → (if b then Some x else entry_of es d) ≡ Some e → (entry_of es d ≡ Some e → e.attached.device ≡ d) → e.attached.device ≡ d
    go true is f rest = subst (λ (y : Seizing). y.attached.device ≡ d) (same_some x e f) (same_number x.attached.device d is)
    go false is f rest = rest f

abbrev ReadAt : Whole → ℕ → ℕ → Reading → Type 0
ReadAt U q d r = IsRead U q r × (r.device ≡ d)

by_parts : (U : Whole) (q d : ℕ) (es : List Seizing) (e : Seizing) (n : Option ℕ) (r : Option SeizeResult) → Counted U q es → IsDevice d → entry_of es d ≡ Some e → e.seizer ≡ n → e.result ≡ r
    → IfSome (reading_by e.attached.device n r) (ReadAt U q d)
by_parts U q d es e (Some n) (Some (end.Held keys)) h device is seizer held =
    let here : e.attached.device ≡ d = entry_device es d e is in
    let asked : IsAsked (U.device d) q n e = subst (AskedBy (U.device d) q e) seizer (subst (HasEntry (U.device d) q) is (h.entry d)) in (
      record {
        holds = subst (λ k. ((U.device k).attempt q).holds ≡ true) (sym here) (h.holds d ∙ held_listed es d e is (ap is_held_by held));
        seizer = subst (λ k. ((U.device k).attempt q).seizer ≡ n) (sym here) asked.seizer;
        device = subst IsDevice (sym here) device;
      },
      here,
    )
by_parts U q d es e (Some n) (Some (end.NotRegistered keys)) h device is seizer held = tt
by_parts U q d es e (Some n) (Some (end.Greater w)) h device is seizer held = tt
by_parts U q d es e (Some n) (Some end.Expelled) h device is seizer held = tt
by_parts U q d es e (Some n) (Some (end.Contended key)) h device is seizer held = tt
by_parts U q d es e (Some n) (Some end.Fault) h device is seizer held = tt
by_parts U q d es e (Some n) None h device is seizer held = tt
by_parts U q d es e None r h device is seizer held = tt

one_read : (U : Whole) (q d : ℕ) (es : List Seizing) (o : Option Seizing) → Counted U q es → IsDevice d → entry_of es d ≡ o → IfSome (reading_in o) (ReadAt U q d)
one_read U q d es None h device is = tt
one_read U q d es (Some e) h device is = by_parts U q d es e e.seizer e.result h device is refl refl

-- readings of other devices
abbrev Elsewhere : ℕ → Option Reading → Type 0
Elsewhere d o = IfSome o (λ r. r.device ≢ d)

lacks_more : (d : ℕ) (o : Option Reading) (rs : List Reading) → Elsewhere d o → LacksDevice d rs → LacksDevice d (cons_option o rs)
lacks_more d None rs q h = h
lacks_more d (Some r) rs q h = (q, h)

elsewhere : (U : Whole) (q d e : ℕ) (o : Option Reading) → e ≢ d → IfSome o (ReadAt U q e) → Elsewhere d o
elsewhere U q d e None ne h = tt
elsewhere U q d e (Some r) ne h = λ is. ne (sym h.1 ∙ is)

differ : (a b : ℕ) → (a == b) ≡ false → a ≢ b
differ a b h is = grind arith

lacks_device : (U : Whole) (q d : ℕ) (es : List Seizing) (attached : List AttachedDevice) → Counted U q es → All calls.IsDevice attached → list_any (λ x. x == d) (numbers_of attached) ≡ false
    → LacksDevice d (filter_map (reading_of es) attached)
lacks_device U q d es [] h are lacks = tt
lacks_device U q d es (a ∷ attached) h are lacks =
    let two : ((a.device == d) ≡ false) × (list_any (λ x. x == d) (numbers_of attached) ≡ false) = or_parts (a.device == d) (list_any (λ x. x == d) (numbers_of attached)) lacks in
    lacks_more d (reading_of es a) (filter_map (reading_of es) attached)
    (elsewhere U q d a.device (reading_of es a) (differ a.device d two.0) (one_read U q a.device es (entry_of es a.device) h (All-head calls.IsDevice a attached are) refl))
    (lacks_device U q d es attached h (All-tail calls.IsDevice a attached are) two.1)

read_more : (U : Whole) (q d : ℕ) (o : Option Reading) (rs : List Reading) → IfSome o (ReadAt U q d) → LacksDevice d rs → AreRead U q rs → AreRead U q (cons_option o rs)
read_more U q d None rs h lacks read = read
read_more U q d (Some r) rs h lacks read = (h.0, subst (λ k. LacksDevice k rs) (sym h.1) lacks, read)

pub all_read : (U : Whole) (q : ℕ) (es : List Seizing) (attached : List AttachedDevice) → Counted U q es → All calls.IsDevice attached → AreApart (numbers_of attached) → AreRead U q (filter_map (reading_of es) attached)
all_read U q es [] h are apart = tt
all_read U q es (a ∷ attached) h are apart =
    read_more U q a.device (reading_of es a) (filter_map (reading_of es) attached) (one_read U q a.device es (entry_of es a.device) h (All-head calls.IsDevice a attached are) refl)
    (lacks_device U q a.device es attached h (All-tail calls.IsDevice a attached are) apart.0) (all_read U q es attached h (All-tail calls.IsDevice a attached are) apart.1)

-- Counting leaves who was asked.

counting_same : (s : Sharing) (q : ℕ) (b : Bool) → (sharing.after s (count_at b q)).attempt q ≡ attempt.counting (s.attempt q) b
counting_same s q true = put_here s.attempt q (attempt.counting (s.attempt q) true)
counting_same s q false = put_here s.attempt q (attempt.counting (s.attempt q) false)

counting_nodes : (s : Sharing) (q : ℕ) (b : Bool) → (sharing.after s (count_at b q)).node ≡ s.node
counting_nodes s q true = refl
counting_nodes s q false = refl

counting_device : (s : Sharing) (q : ℕ) (b : Bool) → (sharing.after s (count_at b q)).device ≡ s.device
counting_device s q true = refl
counting_device s q false = refl

ended_same : (s u : Sharing) (q n : ℕ) (o : Option SeizeResult) → u.node ≡ s.node → EndedAs s q n o → EndedAs u q n o
ended_same s u q n None e h = tt
ended_same s u q n (Some (end.Held keys)) e h = (ap (λ f. (f n).past.ended q) e ∙ h.0, ap (λ f. (f n).past.seized q) e ∙ h.1)
ended_same s u q n (Some (end.NotRegistered keys)) e h = (ap (λ f. (f n).past.ended q) e ∙ h.0, ap (λ f. (f n).past.unregistered q) e ∙ h.1)
ended_same s u q n (Some (end.Greater w)) e h = (ap (λ f. (f n).past.ended q) e ∙ h.0, tt)
ended_same s u q n (Some end.Expelled) e h = (ap (λ f. (f n).past.ended q) e ∙ h.0, tt)
ended_same s u q n (Some (end.Contended key)) e h = (ap (λ f. (f n).past.ended q) e ∙ h.0, tt)
ended_same s u q n (Some end.Fault) e h = (ap (λ f. (f n).past.ended q) e ∙ h.0, tt)

unasked_same : (a : attempt.Attempt) (b : Bool) → IsUnasked a → IsUnasked (attempt.counting a b)
unasked_same a b h = record { asking = h.asking; asked = h.asked }

asked_same : (s : Sharing) (q : ℕ) (b : Bool) (e : Seizing) (o : Option ℕ) → AskedBy s q e o → AskedBy (sharing.after s (count_at b q)) q e o
asked_same s q b e None h = (subst IsUnasked (sym (counting_same s q b)) (unasked_same (s.attempt q) b h.0), h.1)
asked_same s q b e (Some n) h =
    let same : (sharing.after s (count_at b q)).attempt q ≡ attempt.counting (s.attempt q) b = counting_same s q b in
    record {
      asking = ap (λ (z : attempt.Attempt). z.asking) same ∙ h.asking;
      seizer = ap (λ (z : attempt.Attempt). z.seizer) same ∙ h.seizer;
      kind = ap (λ (z : attempt.Attempt). z.quorum) same ∙ h.kind;
      asked = ap (λ (z : attempt.Attempt). z.asked n) same ∙ h.asked;
      before = λ m k. h.before m (sym (ap (λ (z : attempt.Attempt). z.asked m) same) ∙ k);
      ended = ended_same s (sharing.after s (count_at b q)) q n e.result (counting_nodes s q b) h.ended;
    }

entry_same : (s : Sharing) (q : ℕ) (b : Bool) (o : Option Seizing) → HasEntry s q o → HasEntry (sharing.after s (count_at b q)) q o
entry_same s q b None h = subst IsUnasked (sym (counting_same s q b)) (unasked_same (s.attempt q) b h)
entry_same s q b (Some e) h = asked_same s q b e e.seizer h

-- A device that is counted with votes was seized as a quorum device.

votes_enabled : (v : VoteTable) (o : Option VoteDevice) → 0 < votes_of_device v o → is_enabled_state (quorum_table.state_of o) ≡ true
votes_enabled v None h = absurd (nothing h)
  where
    nothing : 0 < 0 → ⊥
    nothing k = omega (arith, k)
votes_enabled v (Some device) h = by_state device.state h
  where
    nothing : 0 < 0 → ⊥
    nothing k = omega (arith, k)

    by_state : (state : DevState) → 0 < device_votes_in v state device.attached → is_enabled_state state ≡ true
    by_state Enabled k = refl
    by_state Disabled k = absurd (nothing k)
    by_state Absent k = absurd (nothing k)

-- a device that has votes by the machine's count is an enabled quorum device of the table
counts_one : (v : Votes) (table : VoteTable) (d : ℕ) → AreVotes v table → 0 < v.of_device d → is_enabled table d ≡ true
counts_one v table zero are h = absurd (nothing (subst (λ k. 0 < k) are.no_device h))
  where
    nothing : 0 < 0 → ⊥
    nothing k = omega (arith, k)
counts_one v table (suc d) are h = votes_enabled table (device_at table (suc d)) (subst (λ k. 0 < k) (are.device (suc d) (omega arith)) h)

or_left : (a b : Bool) → a ≡ true → (a || b) ≡ true
or_left true b k = refl
or_left false b k = absurd (false_true k)

or_right : (a b : Bool) → b ≡ true → (a || b) ≡ true
or_right true b k = refl
or_right false b k = k

-- so it is with the pending update, or with none
pending_counts : (v : Votes) (committed : VoteTable) (o : Option VoteTable) (d : ℕ) → AreVotes v (unwrap_or o committed) → 0 < v.of_device d
    → (is_enabled committed d || is_enabled_pending o d) ≡ true
pending_counts v committed None d are h = or_left (is_enabled committed d) false (counts_one v committed d are h)
pending_counts v committed (Some table) d are h = or_right (is_enabled committed d) (is_enabled table d) (counts_one v table d are h)

has_votes : (S : Setting) (r : Saved) (both : BothVotes) (d : ℕ) → AreVotesOf S r both → whole.VotesUnder S r d → is_quorum both d ≡ true
has_votes S r both d are (inl h) =
    or_left (is_enabled both.committed d) (is_enabled_pending both.pending d) (counts_one (S.config (take r.committed r.entries)) both.committed d are.committed h)
has_votes S r both d are (inr h) = pending_counts (S.config r.entries) both.committed both.pending d are.pending h

true_false : (b : Bool) → b ≡ true → b ≡ false → ⊥
true_false b h k = cc

entry_listed : (es : List Seizing) (d : ℕ) (e : Seizing) → entry_of es d ≡ Some e → Contains es e
entry_listed es d e is = (found_entry (λ x. x.attached.device == d) es e is).1

quorum_so : (s : Sharing) (q d : ℕ) (t : AttemptState) (both : BothVotes) (o : Option Seizing) → IsReachedAttempt t → t.votes ≡ Some both → AreApart (entry_numbers t.devices) → entry_of t.devices d ≡ o
    → HasEntry s q o → is_held_in t.devices d ≡ true → is_quorum both d ≡ true → (s.attempt q).quorum ≡ true
quorum_so s q d t both None reached votes apart is has held counts = absurd (true_false _ held (held_none t.devices d is))
quorum_so s q d t both (Some e) reached votes apart is has held counts = by_seizer e.seizer refl has
  where
    own : is_held_by e.result ≡ true
    own = held_entry t.devices d (Some e) apart is held

    by_kind : (kind : SeizeKind) → e.kind ≡ kind → (s.attempt q).quorum ≡ is_vote e.kind → (s.attempt q).quorum ≡ true
    by_kind Vote k h = h ∙ ap is_vote k
    by_kind Plain k h =
        absurd (true_false _ (subst (λ z. is_quorum both z ≡ true) (sym (entry_device t.devices d e is)) counts) (plain_has_no_votes t both e reached votes (entry_listed t.devices d e is) k))

    by_seizer : (n : Option ℕ) → e.seizer ≡ n → AskedBy s q e n → (s.attempt q).quorum ≡ true
    by_seizer None k h = absurd (true_false _ own (ap is_held_by h.1))
    by_seizer (Some n) k h = by_kind e.kind refl h.kind

-- The count.

readings_of : (plan : Plan) (rs : List Reading) (o : Option Promised) → (install_by plan rs o).readings ≡ rs
readings_of plan rs None = refl
readings_of plan rs (Some p) = refl

count_others : (p q : ℕ) (b : Bool) → p ≢ q → IsOthers p (count_at b q)
count_others p q true ne = λ same. ne (sym same)
count_others p q false ne = λ same. ne (sym same)

collected_of : (s : Sharing) (q : ℕ) (b : Bool) → sharing.Allowed s (count_at b q) → (s.attempt q).collected ≡ true
collected_of s q true h = h.0
collected_of s q false h = h.0

-- installing leaves the attempts of a device
install_attempts : (s : Sharing) (j : Joining) (n : ℕ) → (sharing.after s (install_at j n)).attempt ≡ s.attempt
install_attempts s Apart n = refl
install_attempts s Seizer n = refl
install_attempts s Known n = refl
install_attempts s New n = refl

read_same : (W V : Whole) (q : ℕ) (rs : List Reading) → ((d : ℕ) → (V.device d).attempt ≡ (W.device d).attempt) → AreRead W q rs → AreRead V q rs
read_same W V q [] same h = tt
read_same W V q (r ∷ rs) same h = (
  record { holds = ap (λ f. (f q).holds) (same r.device) ∙ h.0.holds; seizer = ap (λ f. (f q).seizer) (same r.device) ∙ h.0.seizer; device = h.0.device },
  h.1,
  read_same W V q rs same h.2,
)

pub counts_go : CountsGo
counts_go S c W n x st a k i both devices reached tied at seat under me small is_reached may own known has_after told given votes are fits count = record {
  goes = record {
    machine = V;
    moves = and_on S W with_count V n g.moves (record {
      events = Membership (count_of t) joined ∷ [];
      run = ((subst (λ z. membership.Allowed S z (count_of t)) (sym g.memberships) count, (λ d. (counted d, (subst (λ z. sharing.Allowed (U d) (install_at (joined d) z)) (sym at_node) (may_join d), tt))), quorum), refl);
      others = λ j ne. put_there with_count.memberships.node (coordinator q) _ j (λ is. ne (is ∙ at_node));
      others_at = λ d j ne. ap (λ z. z.node j) (is_so d) ∙ (others_at c UW n q st i inv may_at in_session valid_here me small read d j ne ∙ ap (λ f. f j) (counting_nodes (with_count.device d) q (is_held_in t.devices d)));
      attempts = λ b ne h d. subst (λ z. DeviceHas z b d) (sym (is_so d))
          (has_at c UW n q st i inv may_at in_session valid_here me small read b d
          (others_leave (with_count.device d) (count_at (is_held_in t.devices d) q) b d (h d) (counted d) (count_others b.plan.epoch q (is_held_in t.devices d) (λ same. ne (ap coordinator same ∙ at_node)))));
    });
    memberships = ap (λ M. membership.after M (count_of t)) g.memberships;
    devices_so = λ d. subst (λ z. DeviceTied c.id (devices d) z)
        (sym (ap (λ z. z.device) (is_so d) ∙ (device_so c UW n q st i inv may_at in_session valid_here me small read d ∙ (counting_device (with_count.device d) q (is_held_in t.devices d) ∙ g.device d)))) (tied d);
    at = installed_at c UW n q st i inv may_at in_session valid_here me small read V (going x a k) [] is_so tt tt counted_at epoch;
  };
  counted = λ d. subst (λ z. ((V.device d).attempt z).counted ≡ true) epoch (ap (λ f. (f q).counted) (attempts_same d) ∙ ap (λ (z : attempt.Attempt). z.counted) (attempt_so d));
  read = subst (λ z. AreRead V z i.readings) epoch (read_same UW V q i.readings attempts_same read);
}
  where
    t : AttemptState
    t = (turn a k).after

    q : ℕ
    q = t.plan.epoch

    plan : t.plan ≡ a.plan
    plan = plan_stays a k may

    at_node : coordinator q ≡ n
    at_node = ap (λ (p : Plan). coordinator p.epoch) plan ∙ own

    g : CallGoes S W n (turn a k)
    g = calls_go S W n a k reached is_reached may own known has_after (subst (λ o. AttemptAt W o) under at.attempt) told

    with_count : Whole
    with_count = g.machine

    order : InOrder S with_count
    order = (run_goes S W g.moves.events with_count (in_order S W reached) g.moves.run).in_order

    counts : (d : ℕ) → CountsAt (with_count.device d) t d (Some i)
    counts d = subst (λ o. CountsAt (with_count.device d) t d o) given (g.counts d)

    counted : (d : ℕ) → sharing.Allowed (with_count.device d) (count_at (is_held_in t.devices d) q)
    counted d = (counts d).0

    U : ℕ → Sharing
    U d = sharing.after (with_count.device d) (count_at (is_held_in t.devices d) q)

    UW : Whole
    UW = record { memberships = with_count.memberships; device = U }

    inv : (d : ℕ) → Inv (U d)
    inv d = kept (with_count.device d) (count_at (is_held_in t.devices d) q) (order.device d) (counted d)

    nodes_so : (d : ℕ) → (U d).node ≡ (W.device d).node
    nodes_so d = counting_nodes (with_count.device d) q (is_held_in t.devices d) ∙ g.node d

    attempt_so : (d : ℕ) → (U d).attempt q ≡ attempt.counting ((with_count.device d).attempt q) (is_held_in t.devices d)
    attempt_so d = counting_same (with_count.device d) q (is_held_in t.devices d)

    count_at_one : membership.Allowed S with_count.memberships (count_of t)
    count_at_one = subst (λ z. membership.Allowed S z (count_of t)) (sym g.memberships) count

    session_one : (with_count.memberships.node n).session ≡ q
    session_one = subst (λ z. (with_count.memberships.node z).session ≡ q) at_node count_at_one.0

    seeking : (with_count.memberships.node n).seeking ≡ true
    seeking = subst (λ z. (with_count.memberships.node z).seeking ≡ true) at_node count_at_one.1

    in_session : (d : ℕ) → ((U d).node n).session ≡ q
    in_session d = ap (λ f. (f n).session) (counting_nodes (with_count.device d) q (is_held_in t.devices d)) ∙ (((order.agrees d).node n).session ∙ session_one)

    installed_low : (with_count.memberships.node n).saved.installed < q
    installed_low = subst (λ z. (with_count.memberships.node n).saved.installed < z) (sym ((order.memberships.node n).seeking_session seeking) ∙ session_one) ((order.memberships.node n).seeking_installs seeking)

    tried : (with_count.memberships.epoch q).tried ≡ true
    tried = subst (λ (z : Memberships). (z.epoch q).tried ≡ true) (sym g.memberships) has_after.tried

    member : (with_count.memberships.epoch q).members n ≡ true
    member = subst (λ z. (with_count.memberships.epoch q).members z ≡ true) at_node ((order.memberships.epoch q).tried_member tried)

    may_at : (d : ℕ) → MayInstall (U d) n
    may_at d =
        let collected : ((with_count.device d).attempt q).collected ≡ true = collected_of (with_count.device d) q (is_held_in t.devices d) (counted d) in (
          subst (λ z. 0 < z) (sym (in_session d)) (below_positive (with_count.memberships.node n).saved.installed q installed_low),
          subst (λ z. ((U d).attempt z).counted ≡ true) (sym (in_session d)) (ap (λ (z : attempt.Attempt). z.counted) (attempt_so d)),
          subst (λ z. ((U d).attempt z).members n ≡ true) (sym (in_session d)) (ap (λ (z : attempt.Attempt). z.members n) (attempt_so d) ∙ (((order.agrees d).attempt q).members collected n ∙ member)),
          subst (λ z. ((U d).node n).installed < z) (sym (in_session d))
              (subst (λ z. z < q) (sym (ap (λ f. (f n).installed) (counting_nodes (with_count.device d) q (is_held_in t.devices d)) ∙ ((order.agrees d).node n).installed)) installed_low),
        )

    valid_here : (d : ℕ) → ((U d).node n).valid ≡ has st.saved.valid d
    valid_here d = ap (λ f. (f n).valid) (nodes_so d) ∙ ((at.marks d).valid ∙ ap (λ z. has (state_of z).saved.valid d) seat)

    so : Counted UW q t.devices
    so = record {
      holds = λ d. ap (λ (z : attempt.Attempt). z.holds) (attempt_so d);
      entry = λ d. entry_same (with_count.device d) q (is_held_in t.devices d) (entry_of t.devices d) (counts d).2;
    }

    apart : AreApart (numbers_of t.plan.attached)
    apart = (counts 0).1.attached

    read : AreRead UW q i.readings
    read =
        subst (λ rs. AreRead UW q rs)
        (sym (ap (λ z. z.readings) ((goes_by_call a k may (chosen_reached a is_reached)).install i given).1
        ∙ readings_of t.plan (filter_map (reading_of t.devices) t.plan.attached) (find (is_from t.newest) t.promises)))
        (all_read UW q t.devices t.plan.attached so (subst (λ (p : Plan). All calls.IsDevice p.attached) (sym plan) fits) apart)

    joined : ℕ → Joining
    joined = joining_at c UW n q st i inv may_at in_session valid_here me small read

    may_join : (d : ℕ) → sharing.Allowed (U d) (install_at (joined d) n)
    may_join = allowed c UW n q st i inv may_at in_session valid_here me small read

    V : Whole
    V = whole.after with_count (Membership (count_of t) joined)

    is_so : (d : ℕ) → V.device d ≡ sharing.after (U d) (install_at (joined d) n)
    is_so d = ap (λ z. sharing.after (U d) (install_at (joined d) z)) at_node

    newest_votes : AreVotesOf S ((with_count.memberships.node t.newest).showed q) both
    newest_votes = subst (λ (M : Memberships). AreVotesOf S ((M.node t.newest).showed q) both) (sym g.memberships) are

    quorum : whole.CountsQuorum S with_count (count_of t)
    quorum d held under_votes =
        quorum_so (with_count.device d) q d t both (entry_of t.devices d) (reached_more a k may is_reached) votes (counts d).1.apart refl (counts d).2 held
        (has_votes S ((with_count.memberships.node t.newest).showed q) both d newest_votes under_votes)

    counted_at : AttemptAt V (Some t)
    counted_at d = subst (λ z. DeviceHas z t d) (sym (is_so d)) (has_at c UW n q st i inv may_at in_session valid_here me small read t d (counts d).1)

    epoch : q ≡ i.epoch
    epoch = sym (ap (λ z. z.epoch) ((goes_by_call a k may (chosen_reached a is_reached)).install i given).1 ∙ install_epoch t)

    attempts_same : (d : ℕ) → (V.device d).attempt ≡ (U d).attempt
    attempts_same d = ap (λ (z : Sharing). z.attempt) (is_so d) ∙ install_attempts (U d) (joined d) n
