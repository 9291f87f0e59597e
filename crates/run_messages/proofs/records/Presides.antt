-- What a president proposes and acknowledges is in its record as the trace tells it.
use Rattle.std.specs.Prelude.{ℕ, ◌+◌, ◌≡◌, ◌==◌, List, ◌∷◌, Some, IfSome, option_map, length}
use Rattle.std.proofs.Common.{refl, sym, ap, subst, ◌∙◌}
use Rattle.ccr_commit.specs.Entries as entries
use Rattle.ccr_commit.specs.Entries.{texts_of, with_next}
use Rattle.cmm_member.specs.Nodes.{NodeState}
use Rattle.cmm_member.specs.Records.{NodeRecord}
use Rattle.history.specs.Member.{installed_of}
use Rattle.history.specs.Moment.{Moment}
use Rattle.history.specs.Records.{all_committed, record_of, with_update}
use Rattle.history.specs.Setting.{coordinator}
use Rattle.history.specs.Trace.{ack, propose, saved}
use Rattle.membership_machine.specs.State.{Memberships}
use Rattle.node_model.specs.Seats.{record_of as kept_record, with_state}
use Rattle.node_model.specs.declared.cluster.Cluster.{Cluster}
use Rattle.node_model.specs.declared.node.Node.TheVariants.{Up}
use Rattle.node_model.specs.declared.node.UpNode.{UpNode}
use Rattle.node_model.specs.declared.presidency.Presidency.{Presidency}
use Rattle.node_model.specs.declared.seat.Seat.TheVariants.{Member}
use Rattle.refinement.specs.Doings.{changed, site}
use Rattle.refinement.specs.Doings.Change.{Acks, Proposes}
use Rattle.refinement.specs.Guards.{MayChange}
use Rattle.refinement.specs.Runs.{Nodes}
use Rattle.refinement.specs.Ties.{Delivered}
use Rattle.request_queue.specs.Queue.{Queue}
use Rattle.status_report.specs.declared.entry.Entry.TheVariants as entry
use Rattle.status_report.specs.declared.update_entry.UpdateEntry.TheVariants as update_entry
use Rattle.run_history.specs.Scenes.{Scene, telling}
use Rattle.run_history.proofs.Changes.{At}
use Rattle.run_history.proofs.Ups.{same_state}
use Rattle.run_messages.specs.records.Kept.{Goes}
use Rattle.run_messages.specs.records.Losses.{NoUpdate}
use Rattle.run_messages.specs.records.Shown.{shown}
use Rattle.run_messages.proofs.records.Changes.{Tied, at_own, disk_is, member_site, presides_own, saved_rest, saving, state_is}
use Rattle.run_messages.proofs.records.Grow.{judged_more}
use Rattle.run_messages.proofs.records.Own.{Rest, own_ack, own_propose, own_rest, rest_of, with_here}
use Rattle.run_messages.proofs.records.Saves.{committed_shown, map_so, next_shown, saved_same}
use Rattle.run_messages.proofs.records.Sends.{if_so}

seat_after : (x : UpNode) (q : NodeState) → x.seat ≡ Member q → (t : NodeState) → with_state x.seat t ≡ Member t
seat_after x q is t = ap (λ z. with_state z t) is

abbrev pub proposing : NodeState → List ℕ → Scene → Scene
proposing q text s = telling (entry.Update (update_entry.Proposed q.session (length (texts_of q.saved.entries) + 1) text)) s

pub proposed_rest : (n : ℕ) (told : Delivered) (v : Nodes) (M : Memberships) (q : NodeState) (text : List ℕ) (s : Scene) → coordinator q.session ≡ n → Rest n told v M s → Rest n told v M (proposing q text s)
proposed_rest n told v M q text s own h =
    let place : ℕ = length (texts_of q.saved.entries) + 1 in
    own_rest n told v M s (entry.Update (update_entry.Proposed q.session place text)) (own_propose n s.moments q.session place text own)
    (judged_more s.moments (propose q.session place text) tt tt refl h.judged) h

pub proposes_goes : (c : Cluster) (M : Memberships) (n : ℕ) (told : Delivered) (v : Nodes) (N : Memberships) (disk : NodeRecord) (x : UpNode) (q : NodeState) (p : Presidency) (text : List ℕ) (s : Scene) → At c M n told disk x
    → MayChange c n told x (Proposes q p text) → NoUpdate told → Tied c N n (changed c n x (Proposes q p text)) → Goes n told v N (site (Up x) disk) s
    → Goes n told v N (site (Up (changed c n x (Proposes q p text))) (kept_record (changed c n x (Proposes q p text)))) (saving n (proposing q text s))
proposes_goes c M n told v N disk x q p text s at may none t h =
    let y : UpNode = changed c n x (Proposes q p text) in
    let own : coordinator q.session ≡ n = presides_own c M n told disk x q p at may.0 may.1 in
    let place : ℕ = length (texts_of q.saved.entries) + 1 in
    let first : List Moment = propose q.session place text ∷ s.moments in
    let one : Rest n told v N (proposing q text s) = proposed_rest n told v N q text s own (rest_of n told v N (site (Up x) disk) s h) in
    let kept : q.saved ≡ disk = sym (state_is x q may.1) ∙ disk_is c M n told disk x at in
    let after : kept_record y ≡ record q.saved { entries = with_next q.saved.entries text } =
    ap (λ (z : NodeState). z.saved) (same_state x.seat _) ∙ ap (λ (r : NodeRecord). record r { entries = with_next r.entries text }) (state_is x q may.1) in
    let so : record_of n (saved n ∷ first) ≡ option_map (with_update place (Some text)) (record_of n s.moments) =
    saved_same n first told none one.hand ∙ if_so (n == coordinator q.session) (option_map (with_update place (Some text)) (record_of n s.moments)) (record_of n s.moments) (at_own n q.session own) in
    with_here n told v N (site (Up y) (kept_record y)) (saving n (proposing q text s)) (saved_rest n told v N (proposing q text s) one)
    (member_site c N n y _ (saved n ∷ first) (seat_after x q may.1 _) t
    (subst (λ o. IfSome o (λ r. r ≡ shown (kept_record y))) (sym so)
    (map_so (record_of n s.moments) (with_update place (Some text)) (shown q.saved) (shown (kept_record y)) (next_shown q.saved text ∙ ap shown (sym after))
    (subst (λ z. IfSome (record_of n s.moments) (λ r. r ≡ shown z)) (sym kept) h.here.record_so)))
    (subst (λ z. IfSome (installed_of n s.moments) (λ f. f ≡ z)) (ap (λ (r : NodeRecord). r.installed) (sym kept) ∙ ap (λ (r : NodeRecord). r.installed) (sym after)) h.here.installed))

pub acks_goes : (c : Cluster) (M : Memberships) (n : ℕ) (told : Delivered) (v : Nodes) (N : Memberships) (disk : NodeRecord) (x : UpNode) (q : NodeState) (p left : Presidency) (queue : Queue) (text : List ℕ) (s : Scene) → At c M n told disk x
    → MayChange c n told x (Acks q p queue left text) → NoUpdate told → Tied c N n (changed c n x (Acks q p queue left text)) → Goes n told v N (site (Up x) disk) s
    → Goes n told v N (site (Up (changed c n x (Acks q p queue left text))) (kept_record (changed c n x (Acks q p queue left text))))
    (telling (entry.Update (update_entry.Acknowledged q.session (length (texts_of q.saved.entries)) text)) (saving n s))
acks_goes c M n told v N disk x q p left queue text s at may none t h =
    let y : UpNode = changed c n x (Acks q p queue left text) in
    let own : coordinator q.session ≡ n = presides_own c M n told disk x q p at may.0 may.1 in
    let place : ℕ = length (texts_of q.saved.entries) in
    let first : List Moment = saved n ∷ s.moments in
    let one : Rest n told v N (saving n s) = saved_rest n told v N s (rest_of n told v N (site (Up x) disk) s h) in
    let two : Rest n told v N (telling (entry.Update (update_entry.Acknowledged q.session place text)) (saving n s)) =
    own_rest n told v N (saving n s) (entry.Update (update_entry.Acknowledged q.session place text)) (own_ack n first q.session place text own)
    (judged_more first (ack q.session place text) tt tt refl one.judged) one in
    let kept : q.saved ≡ disk = sym (state_is x q may.1) ∙ disk_is c M n told disk x at in
    let after : kept_record y ≡ record q.saved { entries = entries.all_committed q.saved.entries } =
    ap (λ (z : NodeState). z.saved) (same_state x.seat _) ∙ ap (λ (r : NodeRecord). record r { entries = entries.all_committed r.entries }) (state_is x q may.1) in
    let so : record_of n (ack q.session place text ∷ first) ≡ option_map all_committed (record_of n s.moments) =
    if_so (n == coordinator q.session) (option_map all_committed (record_of n first)) (record_of n first) (at_own n q.session own) ∙ ap (λ o. option_map all_committed o) (saved_same n s.moments told none h.hand) in
    with_here n told v N (site (Up y) (kept_record y)) (telling (entry.Update (update_entry.Acknowledged q.session place text)) (saving n s)) two
    (member_site c N n y _ (ack q.session place text ∷ first) (seat_after x q may.1 _) t
    (subst (λ o. IfSome o (λ r. r ≡ shown (kept_record y))) (sym so)
    (map_so (record_of n s.moments) all_committed (shown q.saved) (shown (kept_record y)) (committed_shown q.saved ∙ ap shown (sym after))
    (subst (λ z. IfSome (record_of n s.moments) (λ r. r ≡ shown z)) (sym kept) h.here.record_so)))
    (subst (λ z. IfSome (installed_of n s.moments) (λ f. f ≡ z)) (ap (λ (r : NodeRecord). r.installed) (sym kept) ∙ ap (λ (r : NodeRecord). r.installed) (sym after)) h.here.installed))
