-- At its fourth tick a Prepare that lacks its Prepared goes again.
use Rattle.std.specs.Prelude.{ℕ, ◌+◌, ◌≡◌, ◌≢◌, ◌≤◌, ◌⊎◌, ◌&&◌, ◌||◌, nat_le, not, Bool, true, false, List, [], ◌∷◌, Option, None, Some}
use Rattle.std.specs.List.{AllByRecursion, list_all}
use Rattle.std.proofs.Common.{refl, ap, sym, subst, ◌∙◌, inl, inr, arith}
use Rattle.attempt_laws.specs.Machine.{is_member}
use Rattle.cl_base.specs.Limits.{most_nodes}
use Rattle.cl_base.specs.Sets.{has}
use Rattle.cl_base.specs.declared.method.Outcome as method
use Rattle.cmm_attempt.proofs.Basics.{same_number}
use Rattle.history.specs.Contact.{Prepared, is_proposal, others}
use Rattle.history.specs.Letters.{is_exchanged}
use Rattle.history.specs.Messages.{is_fourth, onto, pending_place, prepares_again, sends_or_falls, ticks_since}
use Rattle.history.specs.Moment.{Moment}
use Rattle.history.specs.Names as name
use Rattle.history.specs.Order.{since}
use Rattle.history.specs.Setting.{coordinator}
use Rattle.history.specs.Starts.{members_in, start_of}
use Rattle.node_model.specs.Seats.{record_of, session_of, state_of}
use Rattle.node_model.specs.declared.cluster.Cluster.{Cluster}
use Rattle.node_model.specs.declared.input.Input.TheVariants as input
use Rattle.node_model.specs.declared.node.Node.TheVariants.{Up}
use Rattle.node_model.specs.declared.node.UpNode.{UpNode}
use Rattle.node_model.specs.declared.presidency.Presidency.{Presidency}
use Rattle.node_model.specs.declared.seat.Seat.TheVariants.{Member}
use Rattle.proposals.specs.declared.arrived.Proposed.{Proposed}
use Rattle.run_history.proofs.Heard.{in_others, low_number}
use Rattle.run_history.specs.Noted.{PresidentNoted, ProposedNoted}
use Rattle.run_history.specs.Scenes.{Scene}
use Rattle.run_packets.specs.prepares.Events.{IsLeftAfter}
use Rattle.run_packets.specs.prepares.Proposals.{IsBehind}
use Rattle.wire.specs.declared.message.Body.{Body}
use Rattle.wire.specs.declared.message.Body.TheVariants as body
use Rattle.run_packets.specs.repeats.Ages.{NodeIn, OfficeIn, ProposalIn}
use Rattle.run_packets.specs.repeats.Events.{Comes}
use Rattle.run_packets.proofs.repeats.Exchanged.{exchanged}
use Rattle.run_packets.proofs.repeats.Scenes.{Held}
use Rattle.run_packets.proofs.repeats.Courses.{tick_rest}
use Rattle.run_packets.proofs.repeats.Leading.{behind_later, leads_given}
use Rattle.run_packets.proofs.repeats.Ticking.{tick_leads, with_tick}
use Rattle.cmm_member.specs.Nodes.{NodeState}
use Rattle.node_model.specs.Steps.{at_second, stepped}
use Rattle.node_model.specs.Ticks.{later, ticked_output}
use Rattle.proposals.specs.Proposing.{goes_again, is_due}
use Rattle.refinement.proofs.Disks.{disks_keep_rules}
use Rattle.refinement.proofs.Replies.{steps_are_cut}
use Rattle.refinement.specs.Courses.{under}
use Rattle.refinement.specs.Doings.{given_all, site}
use Rattle.refinement.specs.Runs.{Nodes}
use Rattle.refinement.specs.Steps.{IsCut, disk_rules}
use Rattle.run_history.specs.Happenings.{given_by}
use Rattle.run_packets.specs.prepares.Proposals.{IsShort}
use Rattle.run_packets.specs.repeats.Ages.{SeatIn}

-- ---- tests

both_true : (a b : Bool) → a ≡ true → b ≡ true → (a && b) ≡ true
both_true a b h k = cc

pub all_true : {X : Type 0} (test : X → Bool) (xs : List X) → AllByRecursion (λ x. test x ≡ true) xs → list_all test xs ≡ true
all_true test [] h = refl
all_true test (x ∷ xs) h = both_true (test x) (list_all test xs) h.0 (all_true test xs h.1)

or_third : (a b d : Bool) → (a ≡ true) ⊎ ((b ≡ true) ⊎ (d ≡ true)) → (a || b || d) ≡ true
or_third a b d (inl h) = cc
or_third a b d (inr (inl h)) = by_first a
  where
    by_first : (z : Bool) → (z || b || d) ≡ true
    by_first true = cc
    by_first false = cc
or_third true b d (inr (inr h)) = cc
or_third false true d (inr (inr h)) = refl
or_third false false d (inr (inr h)) = h

-- ---- one member

fourth_is : (k : ℕ) → is_fourth (Some k) ≡ true → k ≡ 3
fourth_is k is = same_number k 3 is

due_at_three : (k : ℕ) → k ≡ 3 → nat_le 4 (k + 1) ≡ true
due_at_three k is = grind (arith, is)

-- ---- what a tick sends

-- a Prepare that is due is among what the node gives
tick_behind : (c : Cluster) (v : Nodes) (n m now : ℕ) (ends : method.Outcome) (x : UpNode) (p : Presidency) (q : Proposed) (text : List ℕ) → v.node n ≡ Up x → x.presidency ≡ Some p → goes_again p.proposals ≡ true
    → p.proposals.proposed ≡ Some q → (record_of x).entries.pending ≡ Some text → m ≤ most_nodes → has q.missing m ≡ true → IsBehind n m (body.Prepare (session_of x) q.place text) (given_by c n now ends input.Tick v)
tick_behind c v n m now ends x p q text at office due proposed pending low missing =
    let b : Body = body.Prepare (session_of x) q.place text in
    let y : UpNode = at_second now x in
    let cut : IsCut disk_rules c n now ends (Up x) (v.disk n) input.Tick [] (stepped disk_rules c n now ends (Up x) (v.disk n) input.Tick) = steps_are_cut disk_rules disks_keep_rules c n now ends (Up x) (v.disk n) input.Tick in
    subst (λ z. IsBehind n m b (stepped disk_rules c n now ends z (v.disk n) input.Tick).given) (sym at)
    (subst (IsBehind n m b) cut.comes.given
    (behind_later n m b (with_tick n (ticked_output c y (later c y))) (given_all c n (site (Up (later c y)) (v.disk n).kept) (under cut.replies (tick_rest c n ends y)))
    (leads_given c n m b cut.replies (v.disk n).kept (later c y) (tick_rest c n ends y) (tick_leads c n m ends y p q text office due proposed pending low missing))))

-- ---- a tick of a member

module _ (n e : ℕ) (before later : List Moment) where
  test_of : Option ℕ → ℕ → Bool
  test_of place m = prepares_again n e place before later m

  -- each other member, of no update
  none_again : (set : ℕ) → list_all (prepares_again n e None before later) (others e set) ≡ true
  none_again set = all_true (prepares_again n e None before later) (others e set) (in_others (λ m. prepares_again n e None before later m ≡ true) e set most_nodes (λ m low member other. refl))

  -- .. of an update, where each that is missing is sent it again at the fourth tick
  some_again : (set v : ℕ) → ((m : ℕ) → m ≤ most_nodes → has set m ≡ true → m ≢ coordinator e
      → (is_fourth (ticks_since n m (name.Prepare v) before) ≡ false) ⊎ ((is_exchanged (name.Prepare v) (name.Prepared v) n m (since (is_proposal e v) before) ≡ true) ⊎ (sends_or_falls n m (name.Prepare v) later ≡ true)))
      → list_all (prepares_again n e (Some v) before later) (others e set) ≡ true
  some_again set v each =
      all_true (prepares_again n e (Some v) before later) (others e set)
      (in_others (λ m. prepares_again n e (Some v) before later m ≡ true) e set most_nodes (λ m low member other. by_case m (each m low member other)))
    where
      by_case : (m : ℕ) → (is_fourth (ticks_since n m (name.Prepare v) before) ≡ false) ⊎ ((is_exchanged (name.Prepare v) (name.Prepared v) n m (since (is_proposal e v) before) ≡ true) ⊎ (sends_or_falls n m (name.Prepare v) later ≡ true))
          → prepares_again n e (Some v) before later m ≡ true
      by_case m (inl early) =
          or_third (not (is_fourth (ticks_since n m (name.Prepare v) before))) (is_exchanged (name.Prepare v) (name.Prepared v) n m (since (is_proposal e v) before)) (sends_or_falls n m (name.Prepare v) later) (inl (ap not early))
      by_case m (inr h) =
          or_third (not (is_fourth (ticks_since n m (name.Prepare v) before))) (is_exchanged (name.Prepare v) (name.Prepared v) n m (since (is_proposal e v) before)) (sends_or_falls n m (name.Prepare v) later) (inr h)

-- a member that is president
pub office_again : (cells : ℕ) (c : Cluster) (s u : Scene) (x : Moment) (n : ℕ) (y : UpNode) (t : NodeState) (p : Presidency) (later : List Moment) → u.moments ≡ x ∷ s.moments → u.nodes ≡ s.nodes → s.nodes.node n ≡ Up y → y.seat ≡ Member t
    → y.presidency ≡ Some p → coordinator t.session ≡ n → Held s → Prepared s.moments → PresidentNoted s.moments n t.session t.saved.members p.proposals.proposed → Comes cells c u n input.Tick later → IsLeftAfter cells (onto (x ∷ s.moments) later)
    → list_all (prepares_again n t.session (pending_place t.session s.moments) s.moments later) (others t.session (members_in (start_of t.session s.moments))) ≡ true
office_again cells c s u x n y t p later adds same at sits office own held prepared noted comes left = by_proposed p.proposals.proposed refl here.1 noted.proposed
  where
    before : List Moment
    before = s.moments

    here : OfficeIn s.moments [] n t.session t.saved.entries (Some p)
    here = subst (λ o. OfficeIn s.moments [] n t.session t.saved.entries o) office (subst (λ z. SeatIn s.moments [] n y.presidency z) sits (subst (λ z. NodeIn s.moments [] n z) at (held.nodes n)))

    sends_it : (q : Proposed) (text : List ℕ) (m : ℕ) → p.proposals.proposed ≡ Some q → t.saved.entries.pending ≡ Some text → IsShort n (body.Prepare t.session q.place text) → p.proposals.age ≡ 3 → m ≤ most_nodes
        → has q.missing m ≡ true → sends_or_falls n m (name.Prepare q.place) later ≡ true
    sends_it q text m proposed pending short three low missing =
        let due : goes_again p.proposals ≡ true = subst (λ o. is_due o p.proposals.age ≡ true) (sym proposed) (due_at_three p.proposals.age three) in
        let state : state_of y.seat ≡ t = ap state_of sits in
        let b : Body = body.Prepare t.session q.place text in
        comes.are_sent m b
        (subst (λ (r : NodeState). IsBehind n m (body.Prepare r.session q.place text) (given_by c n comes.now comes.ends input.Tick u.nodes)) state
        (tick_behind c u.nodes n m comes.now comes.ends y p q text (ap (λ (v : Nodes). v.node n) same ∙ at) office due proposed (ap (λ (r : NodeState). r.saved.entries.pending) state ∙ pending) low missing))
        short (subst (λ ms. IsLeftAfter cells (onto ms later)) (sym adds) left)

    by_age : (q : Proposed) (text : List ℕ) (m : ℕ) → p.proposals.proposed ≡ Some q → t.saved.entries.pending ≡ Some text → IsShort n (body.Prepare t.session q.place text) → m ≤ most_nodes → has q.missing m ≡ true
        → ticks_since n m (name.Prepare q.place) s.moments ≡ Some p.proposals.age
        → (is_fourth (ticks_since n m (name.Prepare q.place) s.moments) ≡ false) ⊎ (sends_or_falls n m (name.Prepare q.place) later ≡ true)
    by_age q text m proposed pending short low missing age = by_test (is_fourth (ticks_since n m (name.Prepare q.place) s.moments)) refl
      where
        by_test : (b : Bool) → is_fourth (ticks_since n m (name.Prepare q.place) s.moments) ≡ b
            → (is_fourth (ticks_since n m (name.Prepare q.place) s.moments) ≡ false) ⊎ (sends_or_falls n m (name.Prepare q.place) later ≡ true)
        by_test false is = inl is
        by_test true is = inr (sends_it q text m proposed pending short (fourth_is p.proposals.age (subst (λ o. is_fourth o ≡ true) age is)) low missing)

    by_proposed : (o : Option Proposed) → p.proposals.proposed ≡ o → ProposalIn s.moments [] n t.session t.saved.entries.pending o p.proposals.age → ProposedNoted s.moments n t.session t.saved.members o
        → list_all (prepares_again n t.session (pending_place t.session s.moments) s.moments later) (others t.session (members_in (start_of t.session s.moments))) ≡ true
    by_proposed None is h k = subst (λ z. list_all (prepares_again n t.session z s.moments later) (others t.session (members_in (start_of t.session s.moments))) ≡ true) (sym h)
        (none_again n t.session s.moments later (members_in (start_of t.session s.moments)))
    by_proposed (Some q) is h k =
        subst (λ z. list_all (prepares_again n t.session z s.moments later) (others t.session (members_in (start_of t.session s.moments))) ≡ true) (sym h.place)
        (some_again n t.session s.moments later (members_in (start_of t.session s.moments)) q.place (λ m low member other. by_missing m low member other (has q.missing m) refl))
      where
        aged_in : (m : ℕ) → m ≤ most_nodes → has q.missing m ≡ true → ticks_since n m (name.Prepare q.place) s.moments ≡ Some p.proposals.age
        aged_in m low missing = by_case (h.aged m low missing)
          where
            by_case : (ticks_since n m (name.Prepare q.place) s.moments ≡ Some p.proposals.age) ⊎ ((p.proposals.age ≡ 0) × IsBehind n m (body.Prepare t.session q.place h.text) []) → ticks_since n m (name.Prepare q.place) s.moments ≡ Some p.proposals.age
            by_case (inl age) = age
            by_case (inr none) = absurd none.1

        by_missing : (m : ℕ) → m ≤ most_nodes → has (members_in (start_of t.session s.moments)) m ≡ true → m ≢ coordinator t.session → (b : Bool) → has q.missing m ≡ b
            → (is_fourth (ticks_since n m (name.Prepare q.place) s.moments) ≡ false) ⊎ ((is_exchanged (name.Prepare q.place) (name.Prepared q.place) n m (since (is_proposal t.session q.place) s.moments) ≡ true) ⊎ (sends_or_falls n m (name.Prepare q.place) later ≡ true))
        by_missing m low member other true missing = more (by_age q h.text m is h.pends h.short low missing (aged_in m low missing))
          where
            more : (is_fourth (ticks_since n m (name.Prepare q.place) s.moments) ≡ false) ⊎ (sends_or_falls n m (name.Prepare q.place) later ≡ true)
                → (is_fourth (ticks_since n m (name.Prepare q.place) s.moments) ≡ false) ⊎ ((is_exchanged (name.Prepare q.place) (name.Prepared q.place) n m (since (is_proposal t.session q.place) s.moments) ≡ true) ⊎ (sends_or_falls n m (name.Prepare q.place) later ≡ true))
            more (inl a) = inl a
            more (inr b) = inr (inr b)
        by_missing m low member other false missing =
            inr (inl (subst (λ k. is_exchanged (name.Prepare q.place) (name.Prepared q.place) k m (since (is_proposal t.session q.place) s.moments) ≡ true) own
            (exchanged t.session q.place m s.moments prepared h.once (k.1 m (in_members noted.start m low member) (λ z. other (z ∙ sym own)) missing))))
          where
            in_members : members_in (start_of t.session s.moments) ≡ t.saved.members → (m : ℕ) → m ≤ most_nodes → has (members_in (start_of t.session s.moments)) m ≡ true → is_member t.saved.members m ≡ true
            in_members start m low member = both_true (nat_le m 32) (has t.saved.members m) (low_number m low) (subst (λ set. has set m ≡ true) start member)
