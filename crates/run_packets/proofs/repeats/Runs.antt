-- Each run: a Prepare that lacks its Prepared goes again at each fourth tick.
use Rattle.std.specs.Prelude.{ℕ, ◌≡◌, ◌==◌, ◌^◌, nat_lt, Bool, true, false, List, [], ◌∷◌, Option, None, Some, is_some, if◌then◌else◌}
use Rattle.std.specs.List.{list_all}
use Rattle.std.proofs.Common.{refl, ap, sym, subst, ◌∙◌}
use Rattle.cl_base.proofs.SetLemmas.{none_of_zero}
use Rattle.cl_base.specs.Limits.{most_nodes}
use Rattle.cl_base.specs.declared.header.Header.{Header}
use Rattle.cmm_attempt.proofs.Basics.{false_true, same_number}
use Rattle.history.specs.Contact.{Prepared, others}
use Rattle.history.specs.Links.{links_after}
use Rattle.history.specs.Member.{member_of}
use Rattle.history.specs.Messages.{Again, PreparesAgain, onto, pending_place, prepares_again}
use Rattle.history.specs.Moment.{Moment, Part, Said, event_of}
use Rattle.history.specs.Setting.{Setting, coordinator}
use Rattle.history.specs.Starts.{members_in, start_of}
use Rattle.node_model.specs.Seats as seats
use Rattle.node_model.specs.Seats.{record_of, session_of, state_of}
use Rattle.node_model.specs.declared.cluster.Cluster.{Cluster}
use Rattle.node_model.specs.declared.input.Input.TheVariants as input
use Rattle.node_model.specs.declared.node.Node.{Node}
use Rattle.node_model.specs.declared.node.Node.TheVariants.{Down, Up}
use Rattle.node_model.specs.declared.node.UpNode.{UpNode}
use Rattle.node_model.specs.declared.presidency.Presidency.{Presidency}
use Rattle.node_model.specs.declared.seat.Seat.{Seat}
use Rattle.node_model.specs.declared.seat.Seat.TheVariants.{Forming, Member}
use Rattle.run_commands.proofs.Presiding.{NodePresides as NodeHasOffice, Presides as HasOffice}
use Rattle.run_commands.proofs.PresidingRuns.{presiding_in_each}
use Rattle.run_history.proofs.Heard.{in_others}
use Rattle.run_history.proofs.Reached.{Reached}
use Rattle.run_history.specs.Happenings.{all_happened, happened}
use Rattle.run_history.specs.Happenings.Happening.{Speaks}
use Rattle.run_history.specs.Noted.{NodeIn as NodeNoted, PresidentNoted}
use Rattle.run_history.specs.Scenes.{Scene, adding, first_scene}
use Rattle.run_history.specs.Shapes.{brings, if_up, taking_this}
use Rattle.run_history.specs.Stages.{Stage}
use Rattle.run_messages.proofs.Reaching.{IsSmall}
use Rattle.run_messages.proofs.Runs.{memberships_of_each_run}
use Rattle.run_messages.specs.Laws.{IsSeated, membership_in}
use Rattle.run_packets.specs.prepares.Events.{IsLeft, IsLeftAfter}
use Rattle.schedule_text.specs.declared.event.Event.{Event}
use Rattle.schedule_text.specs.declared.event.Event.TheVariants as event
use Rattle.schedule_text.specs.declared.line.Line.TheVariants as line
use Rattle.world_model.specs.First.{first_cluster}
use Rattle.run_packets.specs.repeats.Events.{Comes, Leaves}
use Rattle.run_packets.specs.repeats.Laws.{HasPreparesAgain, PreparesAgainOfEachRun}
use Rattle.run_packets.proofs.repeats.Events.{each_of_run}
use Rattle.run_packets.proofs.repeats.Holding.{held_in_each}
use Rattle.run_packets.proofs.repeats.Scenes.{Held, HeldIf}
use Rattle.cmm_member.specs.Nodes.{NodeState}
use Rattle.node_model.specs.Ticks.{later}
use Rattle.refinement.specs.Runs.{Nodes}
use Rattle.run_packets.proofs.prepares.Steps.{IsLinkedTo}
use Rattle.interconnect.specs.Links.{Links}
use Rattle.machine_base.specs.Epochs.{coordinator as machine_coordinator}
use Rattle.run_history.proofs.Idle.{if_false, if_true}
use Rattle.run_history.proofs.LinksRun.{links_of_each_run}
use Rattle.run_history.proofs.Runs.{run_stage}
use Rattle.run_history.specs.Noted.{UpNoted}
use Rattle.run_packets.proofs.prepares.Adds.{events_so}
use Rattle.run_packets.proofs.prepares.Numbers.{left_before, lines_next}
use Rattle.run_packets.proofs.repeats.Again.{all_true, office_again}

-- the law, by the links that the lines leave
abbrev AgainIn : ℕ → List Moment → Moment → List Moment → Type 0
AgainIn cells before x entries = IsLeftAfter cells (onto (x ∷ before) entries) → PreparesAgain before (event_of x) entries

-- what is known of a scene
record Known (cells : ℕ) (s : Scene) : Type 0 where
  held : HeldIf s
  seated : (n : ℕ) → IsSeated s.moments n (s.nodes.node n)
  office : (n : ℕ) → NodeHasOffice n (s.nodes.node n)
  noted : (n : ℕ) → NodeNoted s.moments n (s.nodes.node n)
  linked : IsLinkedTo cells s
  prepared : Prepared s.moments

-- a member
member_again : (cells : ℕ) (c : Cluster) (s u : Scene) (x : Moment) (n : ℕ) (y : UpNode) (t : NodeState) (later : List Moment) → u.moments ≡ x ∷ s.moments → u.nodes ≡ s.nodes → s.nodes.node n ≡ Up y → y.seat ≡ Member t
    → Known cells s → Comes cells c u n input.Tick later → IsLeftAfter cells (onto (x ∷ s.moments) later) → Again n (Some t.session) s.moments later
unfolding machine_coordinator
member_again cells c s u x n y t later adds same at sits k comes left = by_own (coordinator t.session == n) refl
  where
    office : coordinator t.session ≡ n → is_some y.presidency ≡ true
    office own = (subst (λ z. HasOffice n z y.presidency) sits (subst (λ z. NodeHasOffice n z) at (k.office n))) own

    held : Held s
    held =
        k.held (subst (λ (z : Links). IsLeft z.next) (sym k.linked)
        (left_before (links_after cells s.moments).next (links_after cells (onto s.moments (x ∷ later))).next (2 ^ 63) (lines_next cells s.moments (x ∷ later)) left))

    by_office : (o : Option Presidency) → y.presidency ≡ o → is_some o ≡ true → coordinator t.session ≡ n
        → list_all (prepares_again n t.session (pending_place t.session s.moments) s.moments later) (others t.session (members_in (start_of t.session s.moments))) ≡ true
    by_office None is some own = absurd (false_true some)
    by_office (Some p) is some own =
        let up : UpNoted s.moments n y = subst (λ z. NodeNoted s.moments n z) at (k.noted n) in
        let noted : PresidentNoted s.moments n (session_of y) (record_of y).members p.proposals.proposed = up.president p is (subst (λ z. seats.is_member z ≡ true) (sym sits) refl) in
        office_again cells c s u x n y t p later adds same at sits is own held k.prepared
        (subst (λ (r : NodeState). PresidentNoted s.moments n r.session r.saved.members p.proposals.proposed) (ap state_of sits) noted) comes left

    by_own : (b : Bool) → (coordinator t.session == n) ≡ b
        → list_all (prepares_again n t.session (pending_place t.session s.moments) s.moments later) (others t.session (if coordinator t.session == n then members_in (start_of t.session s.moments) else 0)) ≡ true
    by_own true is =
        subst (λ set. list_all (prepares_again n t.session (pending_place t.session s.moments) s.moments later) (others t.session set) ≡ true) (sym (if_true (coordinator t.session == n) (members_in (start_of t.session s.moments)) 0 is))
        (by_office y.presidency refl (office (same_number (coordinator t.session) n is)) (same_number (coordinator t.session) n is))
    by_own false is =
        subst (λ set. list_all (prepares_again n t.session (pending_place t.session s.moments) s.moments later) (others t.session set) ≡ true) (sym (if_false (coordinator t.session == n) (members_in (start_of t.session s.moments)) 0 is))
        (all_true (prepares_again n t.session (pending_place t.session s.moments) s.moments later) (others t.session 0)
        (in_others (λ m. prepares_again n t.session (pending_place t.session s.moments) s.moments later m ≡ true) t.session 0 most_nodes (λ m low member other. absurd (false_true (sym (none_of_zero m) ∙ member)))))

-- a tick
tick_again : (cells : ℕ) (c : Cluster) (s u : Scene) (x : Moment) (n : ℕ) (later : List Moment) → u.moments ≡ x ∷ s.moments → u.nodes ≡ s.nodes → Known cells s
    → Leaves cells c u (if_up (u.nodes.node n) (λ y. taking_this n input.Tick)) later → IsLeftAfter cells (onto (x ∷ s.moments) later) → Again n (member_of n s.moments) s.moments later
tick_again cells c s u x n later adds same k leaves left =
    by_node (s.nodes.node n) refl (subst (λ (v : Nodes). Leaves cells c u (if_up (v.node n) (λ y. taking_this n input.Tick)) later) same leaves)
  where
    by_seat : (y : UpNode) → s.nodes.node n ≡ Up y → (z : Seat) → y.seat ≡ z → Comes cells c u n input.Tick later → Again n (membership_in z) s.moments later
    by_seat y at (Forming t) sits comes = tt
    by_seat y at (Member t) sits comes = member_again cells c s u x n y t later adds same at sits k comes left

    by_node : (z : Node) → s.nodes.node n ≡ z → Leaves cells c u (if_up z (λ y. taking_this n input.Tick)) later → Again n (member_of n s.moments) s.moments later
    by_node Down at leaves = subst (λ o. Again n o s.moments later) (sym (subst (λ z. IsSeated s.moments n z) at (k.seated n))) tt
    by_node (Up y) at leaves = subst (λ o. Again n o s.moments later) (sym (subst (λ z. IsSeated s.moments n z) at (k.seated n))) (by_seat y at y.seat refl leaves)

line_again : (cells : ℕ) (c : Cluster) (s : Scene) (e : Event) (later : List Moment) → Known cells s → Leaves cells c (happened c s (Speaks e)) (brings c (happened c s (Speaks e)) e) later
    → AgainIn cells s.moments (Said (line.Event e)) later
line_again cells c s (event.Tick n) later k leaves left = tick_again cells c s (happened c s (Speaks (event.Tick n))) (Said (line.Event (event.Tick n))) n later refl refl k leaves left
line_again cells c s _ later k leaves left = tt

part_again : (cells : ℕ) (c : Cluster) (s : Scene) (e : Event) (later : List Moment) → Known cells s → Leaves cells c (adding (Part e) s) (brings c (adding (Part e) s) e) later → AgainIn cells s.moments (Part e) later
part_again cells c s (event.Tick n) later k leaves left = tick_again cells c s (adding (Part (event.Tick n)) s) (Part (event.Tick n)) n later refl refl k leaves left
part_again cells c s _ later k leaves left = tt

-- ---- the run

known_of : (h : Header) (cells : ℕ) → IsSmall h → (s : Scene) → Reached (first_cluster h) (first_scene h cells) s → Known cells s
known_of h cells size s r =
    subst (Known cells) r.is (
    let t : Scene = all_happened (first_cluster h) (first_scene h cells) r.happenings in
    let b : Stage (first_cluster h) t = run_stage h cells r.happenings size.few size.small r.may in
    record {
      held = held_in_each h cells r.happenings size r.may;
      seated = memberships_of_each_run h cells r.happenings size.few size.small r.may;
      office = presiding_in_each h cells r.happenings size r.may;
      noted = λ n. (b.notes n).up;
      linked = (links_of_each_run h cells r.happenings r.may).links;
      prepared = b.laws.prepared;
    }
    )

again_so : (S : Setting) (cells : ℕ) → S.cells ≡ cells → (before : List Moment) (x : Moment) (entries : List Moment) → AgainIn cells before x entries → HasPreparesAgain S before x entries
again_so S cells same before x entries h left = h (subst (λ k. nat_lt (links_after k (onto (x ∷ before) entries)).next (2 ^ 63) ≡ true) same left)

pub prepares_again_of_each_run : PreparesAgainOfEachRun
prepares_again_of_each_run h cells hs S few small same may shaped =
    events_so (AgainIn cells) (HasPreparesAgain S) (again_so S cells same) [] (all_happened (first_cluster h) (first_scene h cells) hs).moments
    (each_of_run (AgainIn cells) h cells hs (record { few = few; small = small }) (Known cells)
    (record { line_so = λ s e later k leaves. line_again cells (first_cluster h) s e later k leaves; part_so = λ s e later k leaves. part_again cells (first_cluster h) s e later k leaves })
    (known_of h cells (record { few = few; small = small })) may shaped)
