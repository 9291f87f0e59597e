-- A tick of a president: what it has proposed is a tick older, or its Prepares go again.
use Rattle.std.specs.Prelude.{ℕ, ◌+◌, ◌≡◌, ◌≤◌, ◌==◌, nat_le, Bool, true, false, List, [], ◌∷◌, Option, None, Some, if◌then◌else◌}
use Rattle.std.proofs.Common.{refl, ap, sym, subst, ◌∙◌, inl, inr}
use Rattle.cl_base.specs.Limits.{most_nodes}
use Rattle.cl_base.specs.Sets.{has}
use Rattle.cl_base.specs.declared.method.Outcome.{Outcome}
use Rattle.cmm_attempt.proofs.Basics.{false_true}
use Rattle.std.specs.List.{list_any}
use Rattle.history.specs.Contact.{is_proposal}
use Rattle.history.specs.Messages.{one_more}
use Rattle.node_model.specs.Groups.{orders_again, own_order}
use Rattle.node_model.specs.Seats.{record_of, session_of}
use Rattle.node_model.specs.Ticks.{later}
use Rattle.node_model.specs.Updates.{later_presidency}
use Rattle.node_model.specs.declared.cluster.Cluster.{Cluster}
use Rattle.node_model.specs.declared.node.UpNode.{UpNode}
use Rattle.node_model.specs.declared.output.Output.{Output}
use Rattle.node_model.specs.declared.output.Output.TheVariants.{Tells}
use Rattle.node_model.specs.declared.presidency.Presidency.{Presidency}
use Rattle.node_model.specs.declared.seat.Seat.{Seat}
use Rattle.node_model.specs.declared.seat.Seat.TheVariants.{Forming, Member}
use Rattle.proposals.specs.Proposing.{age_after, goes_again, is_due}
use Rattle.proposals.specs.declared.arrived.Proposed.{Proposed}
use Rattle.refinement.specs.Courses.{Course}
use Rattle.refinement.specs.Courses.Course.{Acts}
use Rattle.refinement.specs.Cuts as cuts
use Rattle.refinement.specs.Doings.Act.{Gives}
use Rattle.run_history.proofs.Idle.{if_false, if_true, passing_started}
use Rattle.run_history.specs.Scenes.{Scene, passing, telling}
use Rattle.run_packets.proofs.prepares.Lines.{same_number as is_itself}
use Rattle.run_packets.proofs.prepares.Sending.{spread_behind}
use Rattle.run_packets.specs.prepares.Proposals.{IsBehind}
use Rattle.status_report.specs.declared.entry.Entry.TheVariants as entry
use Rattle.status_report.specs.declared.node_entry.NodeEntry.TheVariants as note
use Rattle.wire.specs.declared.message.Body.{Body}
use Rattle.wire.specs.declared.message.Body.TheVariants as body
use Rattle.run_packets.specs.repeats.Ages.{IsAged, OfficeZero, ProposalIn, SeatIn}
use Rattle.run_packets.proofs.repeats.Courses.{again_of, tick_rest}
use Rattle.run_packets.proofs.repeats.Leading.{LeadsTo, leads_behind, leads_first}
use Rattle.run_packets.proofs.repeats.Lines.{AreQuiet, passing_last, passing_place, passing_proposals, passing_ticks, quiet_plain, since_prepare}

-- ---- the course of a tick comes to the Prepares that are due

module _ (c : Cluster) (n : ℕ) (m : ℕ) where
  again_leads : (x y : UpNode) (p : Presidency) (q : Proposed) (text : List ℕ) (rest : Course) → x.presidency ≡ Some p → goes_again p.proposals ≡ true → p.proposals.proposed ≡ Some q
      → (record_of x).entries.pending ≡ Some text → m ≤ most_nodes → has q.missing m ≡ true
      → LeadsTo c n m (body.Prepare (session_of x) q.place text) y (cuts.prepares_again_course x x.presidency rest)
  again_leads x y p q text rest office due proposed pending low missing =
      let b : Body = body.Prepare (session_of x) q.place text in
      subst (λ o. LeadsTo c n m b y (cuts.prepares_again_course x o rest)) (sym office)
      (subst (λ (z : Bool). LeadsTo c n m b y (if z then cuts.prepares_course x p.proposals.proposed (record_of x).entries.pending rest else rest)) (sym due)
      (subst (λ o. LeadsTo c n m b y (cuts.prepares_course x o (record_of x).entries.pending rest)) (sym proposed)
      (subst (λ t. LeadsTo c n m b y (cuts.prepares_course x (Some q) t rest)) (sym pending) (inl (spread_behind n m q.missing b low missing)))))

  pub tick_leads : (outcome : Outcome) (x : UpNode) (p : Presidency) (q : Proposed) (text : List ℕ) → x.presidency ≡ Some p → goes_again p.proposals ≡ true → p.proposals.proposed ≡ Some q
      → (record_of x).entries.pending ≡ Some text → m ≤ most_nodes → has q.missing m ≡ true → LeadsTo c n m (body.Prepare (session_of x) q.place text) (later c x) (tick_rest c n outcome x)
  tick_leads outcome x p q text office due proposed pending low missing =
      let b : Body = body.Prepare (session_of x) q.place text in
      leads_first c n m b (later c x) (cuts.governing_course c n outcome x (later c x)) (λ y. cuts.ticked_course c n y y.attempt)
      (leads_behind c n m b (later c x) (cuts.own_turn_course c n outcome (later c x) (own_order n (later c x))) (cuts.going_again_course c n x)
      (λ y. again_leads x y p q text (Acts (Gives (orders_again x y)) (cuts.deciding_course c n y)) office due proposed pending low missing))

-- ---- ages

due_zero : (o : Option Proposed) (age : ℕ) → is_due o age ≡ true → age_after o age ≡ 0
due_zero None age due = absurd (false_true due)
due_zero (Some q) age due = if_true (nat_le 4 (age + 1)) 0 (age + 1) due

pub later_zero : (o : Option Presidency) → again_of o ≡ true → OfficeZero (later_presidency o)
later_zero None due = tt
later_zero (Some p) due = λ some. due_zero p.proposals.proposed p.proposals.age due

-- the entry of the tick comes first
abbrev pub with_tick : ℕ → List Output → List Output
with_tick n more = Tells (entry.Node n note.Ticked) ∷ more

-- the session of a member, and what is pending in its record
abbrev pub IsSeat : Seat → ℕ → Option (List ℕ) → Type 0
IsSeat (Forming t) e pending = ⊥
IsSeat (Member t) e pending = (t.session ≡ e) × (t.saved.entries.pending ≡ pending)

module _ (n : ℕ) (more rest : List Output) (s : Scene) where
  tick_since : (m v age : ℕ) → AreQuiet more → since_prepare n m v s.moments ≡ Some age → since_prepare n m v (passing n (with_tick n more) s).moments ≡ Some (age + 1)
  tick_since m v age quiet is =
      passing_ticks n m v n more (telling (entry.Node n note.Ticked) s) quiet
      ∙ (if_true (n == n) (one_more (since_prepare n m v s.moments)) (since_prepare n m v s.moments) (is_itself n) ∙ ap one_more is)

  tick_aged : (m e v : ℕ) (text : List ℕ) (q : Proposed) (age : ℕ) → AreQuiet more → (is_due (Some q) age ≡ true → IsBehind n m (body.Prepare e v text) rest) → IsAged s.moments [] n m e v text age
      → IsAged (passing n (with_tick n more) s).moments rest n m e v text (age_after (Some q) age)
  tick_aged m e v text q age quiet soon (inr none) = absurd none.1
  tick_aged m e v text q age quiet soon (inl is) = by_due (nat_le 4 (age + 1)) refl
    where
      by_due : (b : Bool) → nat_le 4 (age + 1) ≡ b → IsAged (passing n (with_tick n more) s).moments rest n m e v text (age_after (Some q) age)
      by_due true due = inr (if_true (nat_le 4 (age + 1)) 0 (age + 1) due, soon due)
      by_due false due = inl (tick_since m v age quiet is ∙ ap (λ k. Some k) (sym (if_false (nat_le 4 (age + 1)) 0 (age + 1) due)))

  tick_proposal : (e : ℕ) (pending : Option (List ℕ)) (o : Option Proposed) (age : ℕ) → AreQuiet more
      → ((q : Proposed) (text : List ℕ) (m : ℕ) → is_due o age ≡ true → o ≡ Some q → pending ≡ Some text → m ≤ most_nodes → has q.missing m ≡ true → IsBehind n m (body.Prepare e q.place text) rest)
      → ProposalIn s.moments [] n e pending o age → ProposalIn (passing n (with_tick n more) s).moments rest n e pending o (age_after o age)
  tick_proposal e pending None age quiet soon h = passing_place e n more (telling (entry.Node n note.Ticked) s) (quiet_plain more quiet) ∙ h
  tick_proposal e pending (Some q) age quiet soon h = record {
    place = passing_place e n more (telling (entry.Node n note.Ticked) s) (quiet_plain more quiet) ∙ h.place;
    once = ap (list_any (is_proposal e q.place)) (passing_last e q.place n more (telling (entry.Node n note.Ticked) s) (quiet_plain more quiet)) ∙ h.once;
    text = h.text;
    pends = h.pends;
    short = h.short;
    aged = λ m low missing. tick_aged m e q.place h.text q age quiet (λ due. soon q h.text m due refl h.pends low missing) (h.aged m low missing);
  }

  pub tick_in : (o : Option Presidency) (seat : Seat) → AreQuiet more
      → ((p : Presidency) (q : Proposed) (text : List ℕ) (m : ℕ) (e : ℕ) (pending : Option (List ℕ)) → o ≡ Some p → IsSeat seat e pending → goes_again p.proposals ≡ true → p.proposals.proposed ≡ Some q → pending ≡ Some text
      → m ≤ most_nodes → has q.missing m ≡ true → IsBehind n m (body.Prepare e q.place text) rest)
      → SeatIn s.moments [] n o seat → SeatIn (passing n (with_tick n more) s).moments rest n (later_presidency o) seat
  tick_in o (Forming t) quiet soon h = tt
  tick_in None (Member t) quiet soon h = tt
  tick_in (Some p) (Member t) quiet soon h = (
    passing_started t.session n (with_tick n more) s h.0,
    tick_proposal t.session t.saved.entries.pending p.proposals.proposed p.proposals.age quiet
        (λ q text m due is pends low missing. soon p q text m t.session t.saved.entries.pending refl (refl, refl) due is pends low missing) h.1,
    λ v is. h.2 v (sym (passing_proposals t.session v n more (telling (entry.Node n note.Ticked) s) (quiet_plain more quiet)) ∙ is),
  )
