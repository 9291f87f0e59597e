-- What a node that is up has, as its state changes.
use Rattle.std.specs.Prelude.{ℕ, ◌≡◌, ◌≢◌, ◌≤◌, ◌==◌, ◌⊎◌, Bool, true, false, List, Option, None, Some, if◌then◌else◌}
use Rattle.std.proofs.Common.{refl, sym, ap, subst, ◌∙◌, inl, inr}
use Rattle.attempt_laws.specs.Machine.{is_member}
use Rattle.cl_base.specs.Sets.{has, set_without}
use Rattle.cmm_attempt.proofs.Basics.{none_some, same_number, same_some}
use Rattle.cmm_member.specs.Nodes.{NodeState}
use Rattle.machine_base.proofs.Puts.{same_or_not}
use Rattle.history.specs.Contact.{has_answered}
use Rattle.history.specs.Moment.{Moment}
use Rattle.history.specs.Names as name
use Rattle.history.specs.Starts.{is_started}
use Rattle.node_model.specs.Seats as seats
use Rattle.node_model.specs.Seats.{record_of, session_of, state_of, with_state}
use Rattle.node_model.specs.Updates.{later_presidency}
use Rattle.node_model.specs.declared.node.UpNode.{UpNode}
use Rattle.node_model.specs.declared.presidency.Presidency.{Presidency}
use Rattle.node_model.specs.declared.seat.Seat.{Seat}
use Rattle.node_model.specs.declared.seat.Seat.TheVariants.{Forming, Member}
use Rattle.proposals.specs.Proposing.{less}
use Rattle.proposals.specs.declared.arrived.Proposed.{Proposed}
use Rattle.refinement.specs.Guards.{SameProposed}
use Rattle.refinement.proofs.Texts.{has_some, member_has, member_low, without_other}
use Rattle.run_history.specs.Noted.{AttemptIn, PresidentNoted, ProposedNoted, SessionNoted, UpNoted}

no_truth : false ≡ true → ⊥
no_truth e = cc

-- no member, and so no president
pub up_forming : (ms : List Moment) (n : ℕ) (y : UpNode) → AttemptIn ms n y.attempt → SessionNoted ms n (session_of y) → seats.is_member y.seat ≡ false → UpNoted ms n y
up_forming ms n y attempt session forming = record {
  attempt = attempt;
  session = session;
  member = λ is. absurd (no_truth (sym forming ∙ is));
  president = λ p has is. absurd (no_truth (sym forming ∙ is));
}

-- the same is proposed
pub record FoundIn (o : Option Presidency) (p : Presidency) : Type 0 where
  pub before : Presidency
  pub found : o ≡ Some before
  pub same : p.proposals.proposed ≡ before.proposals.proposed

abbrev pub Alike : Option Presidency → Option Presidency → Type 0
Alike o q = (p : Presidency) → q ≡ Some p → FoundIn o p

pub alike_self : (o : Option Presidency) → Alike o o
alike_self o p is = record { before = p; found = is; same = refl }

pub alike_same : (o q : Option Presidency) → SameProposed o q → Alike o q
alike_same None None h p is = absurd (none_some p is)
alike_same (Some a) None h p is = absurd (none_some p is)
alike_same None (Some b) h p is = absurd h
alike_same (Some a) (Some b) h p is = record { before = a; found = refl; same = ap (λ (r : Presidency). r.proposals.proposed) (sym (same_some b p is)) ∙ h }

pub alike_later : (o : Option Presidency) → Alike o (later_presidency o)
alike_later None p is = absurd (none_some p is)
alike_later (Some a) p is = record { before = a; found = refl; same = ap (λ (r : Presidency). r.proposals.proposed) (sym (same_some _ p is)) }

-- the same session and members, in a seat of the same kind
pub up_same : (ms : List Moment) (n : ℕ) (x y : UpNode) → AttemptIn ms n y.attempt → session_of y ≡ session_of x → (record_of y).members ≡ (record_of x).members → seats.is_member y.seat ≡ seats.is_member x.seat
    → Alike x.presidency y.presidency → UpNoted ms n x → UpNoted ms n y
up_same ms n x y attempt session members seat alike h = record {
  attempt = attempt;
  session = subst (λ q. SessionNoted ms n q) (sym session) h.session;
  member = λ is. subst (λ q. is_started q ms ≡ true) (sym session) (h.member (sym seat ∙ is));
  president = λ p has is.
      let f : FoundIn x.presidency p = alike p has in
      subst (λ q. PresidentNoted ms n q (record_of y).members p.proposals.proposed) (sym session)
      (subst (λ m. PresidentNoted ms n (session_of x) m p.proposals.proposed) (sym members)
      (subst (λ o. PresidentNoted ms n (session_of x) (record_of x).members o) (sym f.same) (h.president f.before f.found (sym seat ∙ is))));
}

-- the seat is of the same kind
pub same_state : (seat : Seat) (s : NodeState) → state_of (with_state seat s) ≡ s
same_state (Forming t) s = refl
same_state (Member t) s = refl

pub same_seat : (seat : Seat) (s : NodeState) → seats.is_member (with_state seat s) ≡ seats.is_member seat
same_seat (Forming t) s = refl
same_seat (Member t) s = refl

-- ---- a member has prepared

left_missing : (missing from k : ℕ) → 1 ≤ from → from ≤ 32 → 1 ≤ k → k ≤ 32 → has (set_without missing from) k ≡ false → (k ≡ from) ⊎ (has missing k ≡ false)
left_missing missing from k low high some few h = by_same (same_or_not k from)
  where
    by_same : (k ≡ from) ⊎ (k ≢ from) → (k ≡ from) ⊎ (has missing k ≡ false)
    by_same (inl e) = inl e
    by_same (inr ne) = inr (sym (without_other missing from k low high some few ne) ∙ h)

pub less_noted : (ms : List Moment) (n q members from place : ℕ) (o : Option Proposed) → 1 ≤ from → from ≤ 32 → has_answered q (name.Prepare place) (name.Prepared place) from ms ≡ true
    → ProposedNoted ms n q members o → ProposedNoted ms n q members (less o from place)
less_noted ms n q members from place None low high answered h = h
less_noted ms n q members from place (Some p) low high answered h = by_place (p.place == place) refl
  where
    by_place : (b : Bool) → (p.place == place) ≡ b → ProposedNoted ms n q members (if b then Some (record p { missing = set_without p.missing from }) else Some p)
    by_place false is = h
    by_place true is =
        (h.0, λ k member other missing. by_missing k member other (left_missing p.missing from k low high (has_some members k (member_has members k member)) (member_low members k member) missing))
      where
        by_missing : (k : ℕ) → is_member members k ≡ true → k ≢ n → (k ≡ from) ⊎ (has p.missing k ≡ false) → has_answered q (name.Prepare p.place) (name.Prepared p.place) k ms ≡ true
        by_missing k member other (inl e) =
            subst (λ j. has_answered q (name.Prepare p.place) (name.Prepared p.place) j ms ≡ true) (sym e)
            (subst (λ v. has_answered q (name.Prepare v) (name.Prepared v) from ms ≡ true) (sym (same_number p.place place is)) answered)
        by_missing k member other (inr gone) = h.1 k member other gone

-- what it has heard of itself is nothing new
pub less_own : (ms : List Moment) (n q members from place : ℕ) (o : Option Proposed) → 1 ≤ from → from ≤ 32 → from ≡ n → ProposedNoted ms n q members o → ProposedNoted ms n q members (less o from place)
less_own ms n q members from place None low high own h = h
less_own ms n q members from place (Some p) low high own h = by_place (p.place == place)
  where
    by_place : (b : Bool) → ProposedNoted ms n q members (if b then Some (record p { missing = set_without p.missing from }) else Some p)
    by_place false = h
    by_place true =
        (h.0, λ k member other missing. by_missing k member other (left_missing p.missing from k low high (has_some members k (member_has members k member)) (member_low members k member) missing))
      where
        by_missing : (k : ℕ) → is_member members k ≡ true → k ≢ n → (k ≡ from) ⊎ (has p.missing k ≡ false) → has_answered q (name.Prepare p.place) (name.Prepared p.place) k ms ≡ true
        by_missing k member other (inl e) = absurd (other (e ∙ own))
        by_missing k member other (inr gone) = h.1 k member other gone

-- ---- all others are missing at first
pub others_missing : (n members k : ℕ) → is_member members n ≡ true → is_member members k ≡ true → k ≢ n → has (set_without members n) k ≡ false → ⊥
others_missing n members k own member other missing =
    absurd (no_truth (sym missing ∙ (without_other members n k (has_some members n (member_has members n own)) (member_low members n own) (has_some members k (member_has members k member))
    (member_low members k member) other ∙ member_has members k member)))
