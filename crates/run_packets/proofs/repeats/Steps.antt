-- A small step leaves what a president has proposed as old as its Prepares are.
use Rattle.std.specs.Prelude.{ℕ, zero, suc, ◌+◌, ◌-◌, ◌^◌, ◌≡◌, ◌≤◌, ◌<◌, ◌⊎◌, ◌++◌, ◌==◌, bit_and, min, true, false, List, [], ◌∷◌, length, Option, None, Some, is_some}
use Rattle.std.specs.List.{list_any}
use Rattle.history.specs.Contact.{is_proposal}
use Rattle.history.specs.Order.{before_last}
use Rattle.std.proofs.Common.{refl, ap, sym, subst, ◌∙◌, inl, inr, arith, append-nil, length-append}
use Rattle.std.proofs.lemmas.Nat.Bits.{bit_at-lt, bit_at_and}
use Rattle.std.specs.Int.{bit_at}
use Rattle.ccr_commit.specs.Entries.{all_committed, left_by, texts_of, with_next}
use Rattle.ccr_commit.specs.declared.entries.Prepared.TheVariants.{Taken}
use Rattle.cl_base.proofs.SetLemmas.{has_at, has_not_zero}
use Rattle.cl_base.specs.Limits.{most_nodes}
use Rattle.cl_base.specs.Sets.{has, set_without}
use Rattle.cmm_attempt.proofs.Basics.{false_true, if_either, none_some, same_number}
use Rattle.cmm_attempt.specs.Attempts.{AttemptState}
use Rattle.cmm_member.specs.Nodes.{NodeState, started as started_state, with_entries, with_joined, with_valid}
use Rattle.cmm_member.specs.Records.{NodeRecord}
use Rattle.history.specs.Messages.{pending_place}
use Rattle.history.specs.Moment.{Moment}
use Rattle.history.specs.Starts.{is_started}
use Rattle.membership_machine.specs.State.{Memberships}
use Rattle.node_model.specs.Members.{rested_by}
use Rattle.node_model.specs.Seats.{promising, record_of, state_of, with_state}
use Rattle.node_model.specs.declared.cluster.Cluster.{Cluster}
use Rattle.node_model.specs.declared.node.Node.TheVariants.{Up}
use Rattle.node_model.specs.declared.node.UpNode.{UpNode}
use Rattle.node_model.specs.declared.output.Output.{Output}
use Rattle.node_model.specs.declared.presidency.Presidency.{Presidency}
use Rattle.node_model.specs.declared.seat.Seat.{Seat}
use Rattle.node_model.specs.declared.seat.Seat.TheVariants.{Forming, Member}
use Rattle.proposals.specs.Proposing.{less, prepared_by, proposing}
use Rattle.proposals.specs.declared.arrived.Proposed.{Proposed}
use Rattle.refinement.specs.Doings.{Change, changed}
use Rattle.refinement.specs.Doings.Change.{Acks, Admits, Commits, Counts, Distrusts, Installs, Leads, Prepares, Promises, Proposes, Sits, Starts}
use Rattle.refinement.specs.Guards.{MayChange, SameProposed}
use Rattle.refinement.specs.Ties.{Delivered, NodeTied, PresidentTied, ProposedTied}
use Rattle.run_history.proofs.Idle.{passing_started}
use Rattle.run_history.specs.Scenes.{Scene, passing}
use Rattle.run_packets.specs.prepares.Events.{IsLeft}
use Rattle.run_packets.specs.prepares.Proposals.{IsBehind, IsShort}
use Rattle.request_queue.specs.Queue as queue
use Rattle.wire.specs.declared.message.Body.TheVariants as body
use Rattle.run_packets.specs.repeats.Ages.{AgeKept, Below, IsAged, IsPending, OfficeIn, OfficeZero, ProposalIn, SeatIn}
use Rattle.run_packets.proofs.repeats.Lines.{ArePlain, AreQuiet, Since, behind_either, behind_quiet, passing_either, passing_last, passing_place, passing_proposals, passing_ticks, passing_zero, quiet_plain, since_prepare}

-- ---- sets

one_of : (k a b : ℕ) → k ≡ min a b → k ≡ 1 → a < 2 → a ≡ 1
one_of k a b is one low = omega (arith, is, one, low)

-- a set less one of its numbers has no others
pub fewer : (set n m : ℕ) → has (set_without set n) m ≡ true → has set m ≡ true
unfolding set_without
fewer set n zero h = absurd (false_true (sym (has_not_zero (bit_and set (2 ^ 32 - 1 - 2 ^ (n - 1)))) ∙ h))
fewer set n (suc m) h =
    let mask : ℕ = 2 ^ 32 - 1 - 2 ^ (n - 1) in
    let test : (bit_at (bit_and set mask) (suc m - 1) == 1) ≡ true = sym (has_at (bit_and set mask) (suc m) (omega arith)) ∙ h in
    let bit : bit_at set (suc m - 1) ≡ 1 =
    one_of (bit_at (bit_and set mask) (suc m - 1)) (bit_at set (suc m - 1)) (bit_at mask (suc m - 1)) (bit_at_and set mask (suc m - 1)) (same_number (bit_at (bit_and set mask) (suc m - 1)) 1 test) (bit_at-lt set (suc m - 1)) in
    has_at set (suc m) (omega arith) ∙ ap (λ z. z == 1) bit

-- ---- lines and messages, where the node stays as it is

module _ (n : ℕ) (first rest : List Output) (s : Scene) where
  abbrev after : List Moment
  after = (passing n first s).moments

  aged_quiet : (m e v : ℕ) (text : List ℕ) (age : ℕ) → AreQuiet first → IsAged s.moments (first ++ rest) n m e v text age → IsAged after rest n m e v text age
  aged_quiet m e v text age quiet (inl is) = inl (passing_ticks n m v n first s quiet ∙ is)
  aged_quiet m e v text age quiet (inr soon) = inr (soon.0, behind_quiet n m e v text first rest quiet soon.1)

  pending_quiet : (e : ℕ) (pending : Option (List ℕ)) (p : Proposed) (age : ℕ) → AreQuiet first → IsPending s.moments (first ++ rest) n e pending p age → IsPending after rest n e pending p age
  pending_quiet e pending p age quiet h = record {
    place = passing_place e n first s (quiet_plain first quiet) ∙ h.place;
    once = ap (list_any (is_proposal e p.place)) (passing_last e p.place n first s (quiet_plain first quiet)) ∙ h.once;
    text = h.text;
    pends = h.pends;
    short = h.short;
    aged = λ m low missing. aged_quiet m e p.place h.text age quiet (h.aged m low missing);
  }

  proposal_quiet : (e : ℕ) (pending : Option (List ℕ)) (o : Option Proposed) (age : ℕ) → AreQuiet first → ProposalIn s.moments (first ++ rest) n e pending o age → ProposalIn after rest n e pending o age
  proposal_quiet e pending None age quiet h = passing_place e n first s (quiet_plain first quiet) ∙ h
  proposal_quiet e pending (Some p) age quiet h = pending_quiet e pending p age quiet h

  pub seat_quiet : (o : Option Presidency) (seat : Seat) → AreQuiet first → SeatIn s.moments (first ++ rest) n o seat → SeatIn after rest n o seat
  seat_quiet o (Forming t) quiet h = tt
  seat_quiet None (Member t) quiet h = tt
  seat_quiet (Some p) (Member t) quiet h = (
    passing_started t.session n first s h.0,
    proposal_quiet t.session t.saved.entries.pending p.proposals.proposed p.proposals.age quiet h.1,
    λ v is. h.2 v (sym (passing_proposals t.session v n first s (quiet_plain first quiet)) ∙ is),
  )

  -- .. or Prepares are sent, of what is no tick old
  aged_fresh : (m e v : ℕ) (text : List ℕ) (age : ℕ) → ArePlain first → age ≡ 0 → IsShort n (body.Prepare e v text) → IsLeft (passing n first s).links.next
      → IsAged s.moments (first ++ rest) n m e v text age → IsAged after rest n m e v text age
  aged_fresh m e v text age plain fresh short left (inl is) = inl (by_since (passing_either m v n first s plain))
    where
      by_since : Since n m v s.moments after → since_prepare n m v after ≡ Some age
      by_since (inl same) = same ∙ is
      by_since (inr now) = now ∙ ap (λ k. Some k) (sym fresh)
  aged_fresh m e v text age plain fresh short left (inr soon) = by_place (behind_either n m (body.Prepare e v text) first rest soon.1)
    where
      by_place : IsBehind n m (body.Prepare e v text) first ⊎ IsBehind n m (body.Prepare e v text) rest → IsAged after rest n m e v text age
      by_place (inl here) = inl (passing_zero m v n (body.Prepare e v text) first s plain here refl short left ∙ ap (λ k. Some k) (sym fresh))
      by_place (inr later) = inr (fresh, later)

  proposal_fresh : (e : ℕ) (pending : Option (List ℕ)) (o : Option Proposed) (age : ℕ) → ArePlain first → (is_some o ≡ true → age ≡ 0) → IsLeft (passing n first s).links.next
      → ProposalIn s.moments (first ++ rest) n e pending o age → ProposalIn after rest n e pending o age
  proposal_fresh e pending None age plain fresh left h = passing_place e n first s plain ∙ h
  proposal_fresh e pending (Some p) age plain fresh left h = record {
    place = passing_place e n first s plain ∙ h.place;
    once = ap (list_any (is_proposal e p.place)) (passing_last e p.place n first s plain) ∙ h.once;
    text = h.text;
    pends = h.pends;
    short = h.short;
    aged = λ m low missing. aged_fresh m e p.place h.text age plain (fresh refl) h.short left (h.aged m low missing);
  }

  pub seat_fresh : (o : Option Presidency) (seat : Seat) → ArePlain first → OfficeZero o → IsLeft (passing n first s).links.next → SeatIn s.moments (first ++ rest) n o seat → SeatIn after rest n o seat
  seat_fresh o (Forming t) plain fresh left h = tt
  seat_fresh None (Member t) plain fresh left h = tt
  seat_fresh (Some p) (Member t) plain fresh left h = (
    passing_started t.session n first s h.0,
    proposal_fresh t.session t.saved.entries.pending p.proposals.proposed p.proposals.age plain fresh left h.1,
    λ v is. h.2 v (sym (passing_proposals t.session v n first s plain) ∙ is),
  )

-- ---- a change, once its lines are told

-- a change that is about no update and no start
abbrev pub IsOrdinary : Change → Type 0
IsOrdinary (Proposes s p text) = ⊥
IsOrdinary (Acks s p q left text) = ⊥
IsOrdinary (Starts a k s) = ⊥
IsOrdinary _ = Unit {0}

longer : (texts : List (List ℕ)) (text : List ℕ) (k : ℕ) → k ≡ length texts → k ≡ length (texts ++ text ∷ []) → ⊥
longer texts text k is more = apart (length texts) (sym is ∙ (more ∙ length-append texts (text ∷ [])))
  where
    apart : (a : ℕ) → a ≡ a + 1 → ⊥
    apart a e = omega (arith, e)

module _ (c : Cluster) (n : ℕ) (ms : List Moment) (rest : List Output) where
  rested_in : (x : UpNode) (p : ℕ) (o : Option AttemptState) → (let y : UpNode = rested_by (promising x p) o in SeatIn ms rest n y.presidency y.seat)
  rested_in x p None = tt
  rested_in x p (Some a) = tt

  with_state_in : (o : Option Presidency) (seat : Seat) (t : NodeState) → t.session ≡ (state_of seat).session → t.saved.entries ≡ (state_of seat).saved.entries → SeatIn ms rest n o seat
      → SeatIn ms rest n o (with_state seat t)
  with_state_in o (Forming s) t session entries h = tt
  with_state_in o (Member s) t session entries h =
      subst (λ e. OfficeIn ms rest n e t.saved.entries o) (sym session) (subst (λ z. OfficeIn ms rest n s.session z o) (sym entries) h)

  -- a node that is no member presides over nothing
  sits_in : (M : Memberships) (o : Option Presidency) (seat : Seat) (s t : NodeState) → seat ≡ Forming s → PresidentTied M n o seat → SeatIn ms rest n o (Member t)
  sits_in M None seat s t is tied = tt
  sits_in M (Some p) seat s t is tied = absurd (subst (λ z. PresidentTied M n (Some p) z) is tied)

  -- a president takes no Prepare and no Commit
  no_next : (M N : Memberships) (s : NodeState) (text : List ℕ) (o : Option Proposed) → ProposedTied M n s o → ProposedTied N n (with_entries s (left_by Taken s.saved.entries text)) o → ⊥
  no_next M N s text None first last = none_some text (sym last)
  no_next M N s text (Some p) first last = longer (texts_of s.saved.entries) text p.place first.0 last.0

  no_commit : (M N : Memberships) (s : NodeState) (o : Option Proposed) → is_some s.saved.entries.pending ≡ true → ProposedTied M n s o → ProposedTied N n (with_entries s (all_committed s.saved.entries)) o → ⊥
  no_commit M N s None pending first last = false_true (subst (λ (z : Option (List ℕ)). is_some z ≡ true) first pending)
  no_commit M N s (Some p) pending first last = false_true last.1

  prepares_in : (M N : Memberships) (o : Option Presidency) (seat : Seat) (s : NodeState) (text : List ℕ) → seat ≡ Member s → PresidentTied M n o seat
      → PresidentTied N n o (Member (with_entries s (left_by Taken s.saved.entries text))) → SeatIn ms rest n o (Member (with_entries s (left_by Taken s.saved.entries text)))
  prepares_in M N None seat s text is first last = tt
  prepares_in M N (Some p) seat s text is first last = absurd (no_next M N s text p.proposals.proposed (subst (λ z. PresidentTied M n (Some p) z) is first).proposed last.proposed)

  commits_in : (M N : Memberships) (o : Option Presidency) (seat : Seat) (s : NodeState) → seat ≡ Member s → is_some s.saved.entries.pending ≡ true → PresidentTied M n o seat
      → PresidentTied N n o (Member (with_entries s (all_committed s.saved.entries))) → SeatIn ms rest n o (Member (with_entries s (all_committed s.saved.entries)))
  commits_in M N None seat s is pending first last = tt
  commits_in M N (Some p) seat s is pending first last = absurd (no_commit M N s p.proposals.proposed pending (subst (λ z. PresidentTied M n (Some p) z) is first).proposed last.proposed)

  pub change_in : (M N : Memberships) (told : Delivered) (x : UpNode) (disk : NodeRecord) (change : Change) → IsOrdinary change → NodeTied c M n disk (Up x)
      → NodeTied c N n (record_of (changed c n x change)) (Up (changed c n x change)) → MayChange c n told x change → SeatIn ms rest n x.presidency x.seat
      → (let y : UpNode = changed c n x change in SeatIn ms rest n y.presidency y.seat)
  change_in M N told x disk (Promises p) is first last may h = rested_in x p x.attempt
  change_in M N told x disk (Leads p members) is first last may h = tt
  change_in M N told x disk (Counts a k s i) is first last may h = tt
  change_in M N told x disk (Installs s i) is first last may h = tt
  change_in M N told x disk (Starts a k s) is first last may h = absurd is
  change_in M N told x disk (Sits s e) is first last may h = sits_in M x.presidency x.seat s (started_state s) may.0 first.1
  change_in M N told x disk (Distrusts d) is first last may h = with_state_in x.presidency x.seat (with_valid (state_of x.seat) (set_without (record_of x).valid d)) refl refl h
  change_in M N told x disk (Admits at command a d) is first last may h = with_state_in x.presidency x.seat (with_joined (state_of x.seat) d) refl refl h
  change_in M N told x disk (Proposes s p text) is first last may h = absurd is
  change_in M N told x disk (Acks s p q left text) is first last may h = absurd is
  change_in M N told x disk (Prepares s text) is first last may h = prepares_in M N x.presidency x.seat s text may.0 first.1 last.1
  change_in M N told x disk (Commits s) is first last may h = commits_in M N x.presidency x.seat s may.0 may.1 first.1 last.1

  -- an update is acknowledged
  office_acked : (s : NodeState) (left : Presidency) (o : Option Proposed) → o ≡ None → is_started s.session ms ≡ true → pending_place s.session ms ≡ None
      → ProposalIn ms rest n s.session None o left.proposals.age
  office_acked s left o none started place = subst (λ z. ProposalIn ms rest n s.session None z left.proposals.age) (sym none) place

  pub acks_in : (told : Delivered) (x : UpNode) (s : NodeState) (p : Presidency) (q : queue.Queue) (left : Presidency) (text : List ℕ) → MayChange c n told x (Acks s p q left text) → is_started s.session ms ≡ true
      → pending_place s.session ms ≡ None → Below ms s.session (length (texts_of s.saved.entries)) → (let y : UpNode = changed c n x (Acks s p q left text) in SeatIn ms rest n y.presidency y.seat)
  acks_in told x s p q left text may started place below =
      subst (λ z. SeatIn ms rest n (Some left) (with_state z (with_entries (state_of z) (all_committed (state_of z).saved.entries)))) (sym may.1)
      (started, office_acked s left left.proposals.proposed may.3 started place, subst (λ k. Below ms s.session k) (ap length (sym (append-nil (texts_of s.saved.entries)))) below)

  -- .. and proposed
  pub proposes_in : (told : Delivered) (x : UpNode) (s : NodeState) (p : Presidency) (text : List ℕ) → MayChange c n told x (Proposes s p text) → is_started s.session ms ≡ true
      → pending_place s.session ms ≡ Some (length (texts_of s.saved.entries) + 1) → IsShort n (body.Prepare s.session (length (texts_of s.saved.entries) + 1) text)
      → ((m : ℕ) → m ≤ most_nodes → has (set_without s.saved.members n) m ≡ true → IsBehind n m (body.Prepare s.session (length (texts_of s.saved.entries) + 1) text) rest)
      → (let v : ℕ = length (texts_of s.saved.entries) + 1 in list_any (is_proposal s.session v) (before_last (is_proposal s.session v) ms) ≡ false) → Below ms s.session (length (texts_of s.saved.entries) + 1)
      → (let y : UpNode = changed c n x (Proposes s p text) in SeatIn ms rest n y.presidency y.seat)
  proposes_in told x s p text may started place short soon once below =
      subst (λ z. SeatIn ms rest n (Some (record p { proposals = proposing p.proposals (length (texts_of (state_of z).saved.entries) + 1) (set_without (state_of z).saved.members n) }))
      (with_state z (with_entries (state_of z) (with_next (state_of z).saved.entries text)))) (sym may.1) (
        started,
        record { place = place; once = once; text = text; pends = refl; short = short; aged = λ m low missing. inr (refl, soon m low missing) },
        subst (λ k. Below ms s.session k) (sym (length-append (texts_of s.saved.entries) (text ∷ []))) below,
      )

  -- ---- acts that change what the president has in hand

  minds_proposal : (e : ℕ) (pending : Option (List ℕ)) (o q : Option Proposed) (age new : ℕ) → q ≡ o → (is_some q ≡ true → new ≡ age) → ProposalIn ms rest n e pending o age → ProposalIn ms rest n e pending q new
  minds_proposal e pending None q age new same kept h = subst (λ z. ProposalIn ms rest n e pending z new) (sym same) h
  minds_proposal e pending (Some p) q age new same kept h =
      subst (λ z. ProposalIn ms rest n e pending z new) (sym same) (subst (λ k. IsPending ms rest n e pending p k) (sym (kept (ap is_some same))) h)

  pub minds_in : (o q : Option Presidency) (seat : Seat) → SameProposed o q → AgeKept o q → SeatIn ms rest n o seat → SeatIn ms rest n q seat
  minds_in o q (Forming s) same kept h = tt
  minds_in None None (Member s) same kept h = h
  minds_in (Some p) (Some q) (Member s) same kept h =
      (h.0, minds_proposal s.session s.saved.entries.pending p.proposals.proposed q.proposals.proposed p.proposals.age q.proposals.age same kept h.1, h.2)
  minds_in None (Some q) (Member s) same kept h = absurd same
  minds_in (Some p) None (Member s) same kept h = absurd same

  less_in : (e : ℕ) (pending : Option (List ℕ)) (o : Option Proposed) (from place age : ℕ) → ProposalIn ms rest n e pending o age → ProposalIn ms rest n e pending (less o from place) age
  less_in e pending None from place age h = h
  less_in e pending (Some p) from place age h =
      if_either (λ z. ProposalIn ms rest n e pending z age) (p.place == place) (Some (record p { missing = set_without p.missing from })) (Some p)
      (record { place = h.place; once = h.once; text = h.text; pends = h.pends; short = h.short; aged = λ m low missing. h.aged m low (fewer p.missing from m missing) }) h

  pub notes_in : (o : Option Presidency) (p : Presidency) (seat : Seat) (from place : ℕ) → o ≡ Some p → SeatIn ms rest n o seat
      → SeatIn ms rest n (Some (record p { proposals = prepared_by p.proposals from place })) seat
  notes_in o p (Forming s) from place is h = tt
  notes_in o p (Member s) from place is h =
      let k : OfficeIn ms rest n s.session s.saved.entries (Some p) = subst (λ z. OfficeIn ms rest n s.session s.saved.entries z) is h in
      (k.0, less_in s.session s.saved.entries.pending p.proposals.proposed from place p.proposals.age k.1, k.2)
