-- What a node takes for configured is what the lines tell, where they tell its record.
use Rattle.std.specs.Prelude.{ℕ, ◌+◌, ◌-◌, ◌≡◌, ◌++◌, List, [], ◌∷◌, length, take, Option, None, Some, is_some, IfSome, if◌then◌else◌}
use Rattle.std.specs.Option.{option_to_list}
use Rattle.std.proofs.Common.{refl, sym, ap, subst, ◌∙◌, append-nil, arith}
use Rattle.std.proofs.Math.Seq.{take-append_seam}
use Rattle.std.proofs.lemmas.List.{length-append}
use Rattle.cl_base.specs.Limits.{most_nodes}
use Rattle.cl_base.specs.declared.header.Header.{Header}
use Rattle.cl_base.specs.declared.header.Version.{Version}
use Rattle.cl_base.specs.declared.header.Version.TheVariants.{One, Two}
use Rattle.cmm_attempt.specs.Attempts.{AttemptState}
use Rattle.cmm_member.specs.Records.{NodeRecord as Kept}
use Rattle.config_cache.specs.InForce.{config_under}
use Rattle.history.specs.Attempts.{configured_for, configured_in}
use Rattle.history.specs.Moment.{Moment}
use Rattle.history.specs.Records.{NodeRecord, committed_of, record_of as told_of}
use Rattle.history_setting.specs.Settings.{setting_of}
use Rattle.membership_machine.specs.State.{Memberships}
use Rattle.node_model.specs.Configurations.{configured_at, configured_by, configured_under, in_force}
use Rattle.node_model.specs.Seats.{record_of, state_of}
use Rattle.node_model.specs.declared.cluster.Cluster.{Cluster}
use Rattle.node_model.specs.declared.node.Node.TheVariants.{Up}
use Rattle.node_model.specs.declared.node.UpNode.{UpNode}
use Rattle.node_model.specs.declared.seat.Seat.{Seat}
use Rattle.node_model.specs.declared.seat.Seat.TheVariants.{Forming, Member}
use Rattle.quorum_votes.specs.Votes.{is_configured}
use Rattle.refinement.specs.Ties.{NodeTied, SeatTied}
use Rattle.run_messages.specs.records.Shown.{RecordIn, shown}
use Rattle.world_model.specs.First.{first_cluster}
use Rattle.run_attempts.specs.Judged.{IsSetOf}
use Rattle.run_attempts.proofs.Sets.{has_where}

-- ---- the committed texts of what is shown

one_off : (k : ℕ) → (k + 1) - 1 ≡ k
one_off k = omega arith

none_off : (k : ℕ) → k - 0 ≡ k
none_off k = omega arith

committed_shown : (committed : List (List ℕ)) (pending : Option (List ℕ)) → take (length (committed ++ option_to_list pending) - (if is_some pending then 1 else 0)) (committed ++ option_to_list pending) ≡ committed
committed_shown committed None =
    ap (λ xs. take (length xs - 0) xs) (append-nil committed) ∙ (ap (λ k. take k committed) (none_off (length committed)) ∙ (ap (λ xs. take (length committed) xs) (sym (append-nil committed)) ∙ take-append_seam committed []))
committed_shown committed (Some text) =
    ap (λ k. take (k - 1) (committed ++ text ∷ [])) (length-append committed (text ∷ [])) ∙ (ap (λ k. take k (committed ++ text ∷ [])) (one_off (length committed)) ∙ take-append_seam committed (text ∷ []))

committed_texts : (r : Kept) → take (committed_of (shown r)) (shown r).texts ≡ r.entries.committed
committed_texts r = committed_shown r.entries.committed r.entries.pending

-- ---- what is configured

counted_so : (h : Header) (y : UpNode) (r : NodeRecord) → r ≡ shown (record_of y) → IsSetOf (configured_under (in_force (first_cluster h) y).votes) (is_configured ((setting_of h).votes (take (committed_of r) r.texts)))
unfolding configured_under
counted_so h y r is m low high =
    has_where (is_configured (in_force (first_cluster h) y).votes) most_nodes m (omega arith) low high
    ∙ ap (λ texts. is_configured (config_under h texts).votes m) (sym (ap (λ (z : NodeRecord). take (committed_of z) z.texts) is ∙ committed_texts (record_of y)))

configured_so : (h : Header) (y : UpNode) (v : Version) (o : Option NodeRecord) → IfSome o (λ r. r ≡ shown (record_of y)) → IfSome (configured_in (setting_of h) v o) (IsSetOf (configured_by v (first_cluster h) y))
configured_so h y One o is = λ m low high. refl
configured_so h y Two None is = tt
configured_so h y Two (Some r) is = counted_so h y r is

pub configured_known : (h : Header) (n : ℕ) (ms : List Moment) (disk : Kept) (y : UpNode) → RecordIn ms n disk → record_of y ≡ disk → IfSome (configured_for (setting_of h) n ms) (IsSetOf (configured_at (first_cluster h) y))
configured_known h n ms disk y told is = configured_so h y h.version (told_of n ms) (subst (λ z. IfSome (told_of n ms) (λ r. r ≡ shown z)) (sym is) told)

-- ---- the record on a node's disk is its own

by_seat : (c : Cluster) (M : Memberships) (n : ℕ) (disk : Kept) (attempt : Option AttemptState) (seat : Seat) → SeatTied c M n disk attempt seat → disk ≡ (state_of seat).saved
by_seat c M n disk attempt (Forming s) h = h.1
by_seat c M n disk attempt (Member s) h = h.1

pub disk_own : (c : Cluster) (M : Memberships) (n : ℕ) (disk : Kept) (x : UpNode) → NodeTied c M n disk (Up x) → disk ≡ record_of x
disk_own c M n disk x h = by_seat c M n disk x.attempt x.seat h.0
