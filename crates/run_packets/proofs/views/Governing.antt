-- A president where a tick comes to it.
use Rattle.std.specs.Prelude.{ℕ, ◌≡◌, true, Option, None, Some}
use Rattle.std.proofs.Common.{sym, subst, ◌∙◌}
use Rattle.attempt_laws.specs.Machine.{is_member}
use Rattle.cmm_attempt.specs.Attempts.{AttemptState}
use Rattle.cmm_member.specs.Machine.{ShowsMember}
use Rattle.cmm_member.specs.Nodes.{NodeState}
use Rattle.cmm_member.specs.Records.{NodeRecord}
use Rattle.membership_machine.specs.Invariant.{Holds}
use Rattle.membership_machine.specs.State.{Memberships}
use Rattle.node_model.specs.Seats.{state_of}
use Rattle.node_model.specs.declared.cluster.Cluster.{Cluster}
use Rattle.node_model.specs.declared.presidency.Presidency.{Presidency}
use Rattle.node_model.specs.declared.seat.Seat.{Seat}
use Rattle.node_model.specs.declared.seat.Seat.TheVariants.{Forming, Member}
use Rattle.refinement.proofs.Texts.{member_has}
use Rattle.refinement.proofs.Ties.{sits_started}
use Rattle.refinement.specs.Ties.{PresidentTied, Presides, ProposedTied, SeatTied, setting_of}
use Rattle.run_packets.proofs.views.Alone.{Governs}
use Rattle.wire.specs.Spelling.{IsNodes}

own_member : (c : Cluster) (M : Memberships) (n : ℕ) (s : NodeState) (p : Presidency) → Holds (setting_of c) M → ShowsMember s (M.node n) → Presides M n s p → is_member s.saved.members n ≡ true
own_member c M n s p i shows presides =
    let tried : (M.epoch s.session).tried ≡ true = (i.epoch s.session).counted_tried ((i.epoch s.session).started_counted (sits_started c M n s i shows)) in
    sym (presides.members n) ∙ subst (λ k. (M.epoch s.session).members k ≡ true) presides.own ((i.epoch s.session).tried_member tried)

-- a president is a member of its membership, and where it has proposed nothing nothing is pending
pub governs_so : (c : Cluster) (M : Memberships) (n : ℕ) (disk : NodeRecord) (seat : Seat) (o : Option Presidency) (own : Option AttemptState) → Holds (setting_of c) M → IsNodes (state_of seat).saved.members
    → SeatTied c M n disk own seat → PresidentTied M n o seat → Governs n seat o
governs_so c M n disk seat None own i small tied h = tt
governs_so c M n disk (Forming s) (Some p) own i small tied h = absurd h
governs_so c M n disk (Member s) (Some p) own i small tied h =
    ((member_has s.saved.members n (own_member c M n s p i tied.0 h), small), λ none. subst (λ o. ProposedTied M n s o) none h.proposed)
