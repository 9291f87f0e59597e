-- Each run: a Request that lacks its Answer goes again at the fourth tick, while fewer than 2^63 lines are said.
use Rattle.std.specs.Prelude.{ℕ, ◌≡◌, ◌^◌, nat_lt, true, IfSome, List, [], ◌∷◌, Option}
use Rattle.std.proofs.Common.{refl, sym, subst}
use Rattle.cl_base.specs.declared.header.Header.{Header}
use Rattle.history.specs.Links.{links_after}
use Rattle.history.specs.Member.{member_of}
use Rattle.history.specs.Messages.{RequestsAgain, asks_again, is_membership_of, last_request, onto}
use Rattle.history.specs.Moment.{Moment, Part, Said, event_of}
use Rattle.history.specs.Order.{since}
use Rattle.history.specs.Setting.{Setting, coordinator}
use Rattle.interconnect.specs.Links.{Links}
use Rattle.node_model.specs.declared.cluster.Cluster.{Cluster}
use Rattle.node_model.specs.declared.input.Input.TheVariants as input
use Rattle.node_model.specs.declared.node.Node.{Node}
use Rattle.node_model.specs.declared.node.Node.TheVariants.{Down, Up}
use Rattle.node_model.specs.declared.node.UpNode.{UpNode}
use Rattle.node_model.specs.declared.seat.Seat.{Seat}
use Rattle.node_model.specs.declared.seat.Seat.TheVariants.{Forming, Member}
use Rattle.refinement.specs.Runs.{Nodes}
use Rattle.run_history.proofs.LinksRun.{links_of_each_run}
use Rattle.run_commands.proofs.carried.Runs.{FewLines, few_before}
use Rattle.run_history.proofs.Reached.{reached_more}
use Rattle.run_history.specs.Happenings.{Happening, MayAllHappen, all_happened, happened}
use Rattle.run_history.specs.Happenings.Happening.{Speaks}
use Rattle.run_history.specs.Scenes.{Scene, adding, first_scene}
use Rattle.run_history.specs.Shapes.{brings, if_up, taking_this}
use Rattle.run_messages.proofs.Reaching.{IsReached, IsSmall}
use Rattle.run_messages.proofs.Runs.{memberships_of_each_run}
use Rattle.run_messages.specs.Laws.{IsSeated, membership_in}
use Rattle.run_packets.proofs.prepares.Adds.{events_so}
use Rattle.run_packets.proofs.prepares.Numbers.{left_before, lines_next}
use Rattle.run_packets.proofs.prepares.Steps.{IsLinkedTo}
use Rattle.run_packets.proofs.repeats.Events.{each_along_run, reached_first}
use Rattle.run_packets.specs.prepares.Events.{IsLeft, IsLeftAfter}
use Rattle.run_packets.specs.repeats.Events.{AlongRun, Comes, Leaves}
use Rattle.schedule_text.specs.declared.event.Event.{Event}
use Rattle.schedule_text.specs.declared.event.Event.TheVariants as event
use Rattle.schedule_text.specs.declared.line.Line.TheVariants as line
use Rattle.world_model.specs.First.{first_cluster}
use Rattle.run_packets.specs.again.Laws.{HasRequestsAgain, RequestsAgainOfEachRun}
use Rattle.run_packets.proofs.again.Again.{member_again}
use Rattle.run_packets.proofs.again.AskedFor.{asked_for_each}
use Rattle.run_packets.proofs.again.Holding.{held_in_each}
use Rattle.run_packets.proofs.again.Scenes.{Held, HeldIf}

-- the law, by the links that the lines leave
abbrev AgainIn : ℕ → List Moment → Moment → List Moment → Type 0
AgainIn cells before x entries = IsLeftAfter cells (onto (x ∷ before) entries) → RequestsAgain before (event_of x) entries

-- what is known of a scene
record Known (cells : ℕ) (s : Scene) : Type 0 where
  held : HeldIf s
  seated : (n : ℕ) → IsSeated s.moments n (s.nodes.node n)
  linked : IsLinkedTo cells s

-- of the membership of n
abbrev Again : ℕ → Option ℕ → List Moment → List Moment → Type 0
Again n o before later = IfSome o (λ e. asks_again n (coordinator e) (last_request n (since (is_membership_of n) before)) (since (is_membership_of n) before) later ≡ true)

-- a tick
tick_again : (cells : ℕ) (c : Cluster) (s u : Scene) (x : Moment) (n : ℕ) (later : List Moment) → u.moments ≡ x ∷ s.moments → u.nodes ≡ s.nodes → Known cells s
    → Leaves cells c u (if_up (u.nodes.node n) (λ y. taking_this n input.Tick)) later → IsLeftAfter cells (onto (x ∷ s.moments) later) → Again n (member_of n s.moments) s.moments later
tick_again cells c s u x n later adds same k leaves left =
    by_node (s.nodes.node n) refl (subst (λ (v : Nodes). Leaves cells c u (if_up (v.node n) (λ y. taking_this n input.Tick)) later) same leaves)
  where
    held : Held s
    held =
        k.held (subst (λ (z : Links). IsLeft z.next) (sym k.linked)
        (left_before (links_after cells s.moments).next (links_after cells (onto s.moments (x ∷ later))).next (2 ^ 63) (lines_next cells s.moments (x ∷ later)) left))

    by_seat : (y : UpNode) → s.nodes.node n ≡ Up y → (z : Seat) → y.seat ≡ z → Comes cells c u n input.Tick later → Again n (membership_in z) s.moments later
    by_seat y at (Forming t) sits comes = tt
    by_seat y at (Member t) sits comes = member_again cells c s u x n y t later adds same at sits held comes left

    by_node : (z : Node) → s.nodes.node n ≡ z → Leaves cells c u (if_up z (λ y. taking_this n input.Tick)) later → Again n (member_of n s.moments) s.moments later
    by_node Down at leaves = subst (λ o. Again n o s.moments later) (sym (subst (λ z. IsSeated s.moments n z) at (k.seated n))) tt
    by_node (Up y) at leaves = subst (λ o. Again n o s.moments later) (sym (subst (λ z. IsSeated s.moments n z) at (k.seated n))) (by_seat y at y.seat refl leaves)

line_again : (cells : ℕ) (c : Cluster) (s : Scene) (e : Event) (later : List Moment) → Known cells s → Leaves cells c (happened c s (Speaks e)) (brings c (happened c s (Speaks e)) e) later
    → AgainIn cells s.moments (Said (line.Event e)) later
line_again cells c s (event.Tick n) later k leaves left = tick_again cells c s (happened c s (Speaks (event.Tick n))) (Said (line.Event (event.Tick n))) n later refl refl k leaves left
line_again cells c s _ later k leaves left = tt

part_again : (cells : ℕ) (c : Cluster) (s : Scene) (e : Event) (later : List Moment) → Known cells s → Leaves cells c (adding (Part e) s) (brings c (adding (Part e) s) e) later → AgainIn cells s.moments (Part e) later
part_again cells c s (event.Tick n) later k leaves left = tick_again cells c s (adding (Part (event.Tick n)) s) (Part (event.Tick n)) n later refl refl k leaves left
part_again cells c s _ later k leaves left = tt

-- ---- the run

known_of : (h : Header) (cells : ℕ) → IsSmall h → (s : Scene) → IsReached h cells s → FewLines s.moments → Known cells s
known_of h cells size s r few =
    subst (λ (t : Scene). FewLines t.moments → Known cells t) r.is
    (λ lines. record {
      held = held_in_each h cells r.happenings size (asked_for_each h cells size) r.may lines;
      seated = memberships_of_each_run h cells r.happenings size.few size.small r.may;
      linked = (links_of_each_run h cells r.happenings r.may).links;
    }) few

few_first : (c : Cluster) (s : Scene) (hs : List Happening) → FewLines (all_happened c s hs).moments → FewLines s.moments
few_first c s [] few = few
few_first c s (g ∷ hs) few = few_before c s g (few_first c (happened c s g) hs few)

-- of each scene on the way
known_along : (h : Header) (cells : ℕ) → IsSmall h → (hs : List Happening) (s : Scene) → IsReached h cells s → MayAllHappen (first_cluster h) s hs → FewLines (all_happened (first_cluster h) s hs).moments
    → AlongRun (Known cells) (first_cluster h) s hs
known_along h cells size [] s r may few = known_of h cells size s r few
known_along h cells size (g ∷ hs) s r may few =
    let c : Cluster = first_cluster h in
    (known_of h cells size s r (few_first c s (g ∷ hs) few), known_along h cells size hs (happened c s g) (reached_more c (first_scene h cells) s g r may.0) may.1 few)

again_so : (S : Setting) (cells : ℕ) → S.cells ≡ cells → (before : List Moment) (x : Moment) (entries : List Moment) → AgainIn cells before x entries → HasRequestsAgain S before x entries
again_so S cells same before x entries h left = h (subst (λ k. nat_lt (links_after k (onto (x ∷ before) entries)).next (2 ^ 63) ≡ true) same left)

pub requests_again_of_each_run : RequestsAgainOfEachRun
requests_again_of_each_run h cells hs S few small same may shaped lines =
    let size : IsSmall h = record { few = few; small = small } in
    events_so (AgainIn cells) (HasRequestsAgain S) (again_so S cells same) [] (all_happened (first_cluster h) (first_scene h cells) hs).moments
    (each_along_run (AgainIn cells) h cells hs size (Known cells)
    (record { line_so = λ s e later k leaves. line_again cells (first_cluster h) s e later k leaves; part_so = λ s e later k leaves. part_again cells (first_cluster h) s e later k leaves })
    (known_along h cells size hs (first_scene h cells) (reached_first h cells) may lines) may shaped)
