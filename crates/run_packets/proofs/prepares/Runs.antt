-- Each run: the entries of each event are one node's, and its proposals have their Prepares.
use Rattle.std.specs.Prelude.{ℕ, ◌≡◌, ◌≤◌, ◌<◌, ◌^◌, nat_lt, true, All, List, [], ◌∷◌, Option, None, Some, is_some, length}
use Rattle.std.proofs.Common.{refl, sym, subst, ◌∙◌, arith}
use Rattle.cl_base.specs.Limits.{most_devices}
use Rattle.cl_base.specs.Sets.{has}
use Rattle.cl_base.specs.declared.header.Header.{Header}
use Rattle.cmm_attempt.specs.Calls.{IsDevice}
use Rattle.cmm_member.specs.Records.{NodeRecord}
use Rattle.history.specs.Links.{links_after}
use Rattle.history.specs.Messages.{onto}
use Rattle.history.specs.Moment.{Moment, Part, Said}
use Rattle.history.specs.Order.{OfEvents}
use Rattle.history.specs.Setting.{coordinator}
use Rattle.history.specs.Starts.{is_started, members_in, start_of}
use Rattle.membership_machine.specs.State.{Memberships}
use Rattle.node_model.specs.Seats as seats
use Rattle.node_model.specs.Seats.{state_of}
use Rattle.node_model.specs.declared.cluster.Cluster.{Cluster}
use Rattle.node_model.specs.declared.node.Node.{Node}
use Rattle.node_model.specs.declared.node.Node.TheVariants.{Down, Up}
use Rattle.node_model.specs.declared.presidency.Presidency.{Presidency}
use Rattle.node_model.specs.declared.seat.Seat.{Seat}
use Rattle.node_model.specs.declared.seat.Seat.TheVariants.{Forming, Member}
use Rattle.refinement.specs.Doings.{site}
use Rattle.refinement.specs.Ties.{NodeTied, PresidentTied}
use Rattle.schedule_text.specs.declared.event.Event.{Event}
use Rattle.schedule_text.specs.declared.event.Event.TheVariants as event
use Rattle.schedule_text.specs.declared.line.Line.TheVariants as line
use Rattle.status_report.specs.declared.schedule_entry.ScheduleEntry.TheVariants as schedule
use Rattle.world_model.specs.First.{first_cluster}
use Rattle.run_history.proofs.Heard.{own_number}
use Rattle.run_history.proofs.LinksRun.{links_of_each_run}
use Rattle.run_history.proofs.MemberRuns.{first_fit}
use Rattle.run_history.proofs.Reached.{reached_more}
use Rattle.run_history.specs.Happenings.{Happening, IsNode, MayAllHappen, MayHappen, all_happened, armed_by, happened}
use Rattle.run_history.specs.Happenings.Happening.{Begins, Notes as Notes_so, Speaks}
use Rattle.run_history.specs.Noted.{Notes, PresidentNoted}
use Rattle.run_history.specs.Rounds.{Progress}
use Rattle.run_history.specs.Scenes.{Scene, adding, first_scene}
use Rattle.run_history.specs.Shapes.{Due, IsDue, Opens, ShapedFrom, Want, brings, due_after, nothing, opened}
use Rattle.run_history.specs.Stages.{Stage}
use Rattle.run_lines.proofs.Runs.{armed_moments}
use Rattle.run_messages.proofs.Reaching.{IsReached, IsSmall, stage_of}
use Rattle.run_packets.proofs.prepares.Adds.{each_proposal, events_so, of_one}
use Rattle.run_packets.proofs.prepares.Alike.{brings_alike, none_alike}
use Rattle.run_packets.proofs.prepares.Sending.{has_other}
use Rattle.run_packets.proofs.prepares.Steps.{IsLinkedTo, due_so, leaves_all}
use Rattle.run_packets.specs.prepares.Events.{Alike, Awaits, IsOwed, Left}
use Rattle.run_packets.specs.prepares.Laws.{HasPrepares, IsOfOne, OneNodeOfEachRun, PreparesOfEachRun}
use Rattle.run_packets.specs.prepares.Proposals.{Covers, CoversIn}

-- ---- a president has the members of its start line

seat_covers : (M : Memberships) (ms : List Moment) (n : ℕ) (o : Option Presidency) (seat : Seat) → IsNode n → PresidentTied M n o seat
    → ((p : Presidency) → o ≡ Some p → seats.is_member seat ≡ true → PresidentNoted ms n (state_of seat).session (state_of seat).saved.members p.proposals.proposed) → CoversIn ms n (is_some o) seat
seat_covers M ms n o (Forming s) node tied noted = tt
seat_covers M ms n None (Member s) node tied noted = tt
seat_covers M ms n (Some p) (Member s) node tied noted =
    let start : members_in (start_of s.session ms) ≡ s.saved.members = (noted p refl refl).start in
    let own : coordinator s.session ≡ n = own_number s.session n tied.own in
    λ m other. has_other s.saved.members n m node.0 node.1 other.0 (λ is. other.2 (is ∙ sym own)) (subst (λ set. has set m ≡ true) start other.1)

node_covers : (c : Cluster) (M : Memberships) (ms : List Moment) (n : ℕ) (disk : NodeRecord) (z : Node) → IsNode n → NodeTied c M n disk z → Notes ms n (site z disk) → Covers ms n z
node_covers c M ms n disk Down node tied noted = tt
node_covers c M ms n disk (Up x) node tied noted = seat_covers M ms n x.presidency x.seat node tied.1 noted.up.president

stage_covers : (c : Cluster) (s : Scene) (n : ℕ) → Stage c s → IsNode n → Covers s.moments n (s.nodes.node n)
stage_covers c s n b node = node_covers c b.machine s.moments n (s.nodes.disk n).kept (s.nodes.node n) node (b.stands n).tied (b.notes n)

-- ---- a line, or a part of a round, opens an event

armed_node : (c : Cluster) (s : Scene) (e : Event) (n : ℕ) → (armed_by c e s).nodes.node n ≡ s.nodes.node n
armed_node c s (event.Fault k d done) n = refl
armed_node c s (event.CrashAt k calls choice) n = refl
armed_node c s _ n = refl

event_so : (cells : ℕ) (before : List Moment) (x : Moment) (n : ℕ) (later : List Moment) → Left cells before n (x ∷ before) later → IsOwed cells before x later
event_so cells before x n later l = record { one = of_one n later l.own; prepares = λ left. each_proposal before later (l.announced left) }

line_opens : (c : Cluster) (cells : ℕ) (s : Scene) (e : Event) → Stage c s → Awaits cells s [] → Awaits cells (happened c s (Speaks e)) (brings c (happened c s (Speaks e)) e)
line_opens c cells s e b k =
    let m : Moment = Said (line.Event e) in
    let t : Scene = happened c s (Speaks e) in
    let alike : Alike (brings c t e) = brings_alike c t e in
    let same : t.moments ≡ m ∷ s.moments = armed_moments c (adding m s) e in
    record {
      before = s.moments;
      grown = λ f is. subst (λ ms. is_started f ms ≡ true) (sym same) is;
      alike = alike;
      covers = λ node. subst (Covers s.moments alike.node) (sym (armed_node c (adding m s) e alike.node)) (stage_covers c s alike.node b node);
      events = λ later leaves.
          subst (λ ms. OfEvents (IsOwed cells) later ms) (sym same) (
            event_so cells s.moments m alike.node later
                (subst (λ ms. Left cells s.moments alike.node ms later) same (leaves_all cells s.moments alike.node (brings c t e) t.moments later leaves)),
            k.events [] refl,
          );
    }

part_opens : (c : Cluster) (cells : ℕ) (s : Scene) (e : Event) → Stage c s → Awaits cells s [] → Awaits cells (adding (Part e) s) (brings c (adding (Part e) s) e)
part_opens c cells s e b k =
    let t : Scene = adding (Part e) s in
    let alike : Alike (brings c t e) = brings_alike c t e in
    record {
      before = s.moments;
      grown = λ f is. is;
      alike = alike;
      covers = λ node. stage_covers c s alike.node b node;
      events = λ later leaves.
          (event_so cells s.moments (Part e) alike.node later (leaves_all cells s.moments alike.node (brings c t e) t.moments later leaves), k.events [] refl);
    }

no_node : (P : Type 0) → IsNode 0 → P
no_node P node = absurd (none node.0)
  where
    none : 1 ≤ 0 → ⊥
    none h = omega (arith, h)

-- `rounds done` is no event's
rounds_end : (c : Cluster) (cells : ℕ) (s : Scene) → Awaits cells s [] → Awaits cells (happened c s (Notes_so schedule.RoundsDone)) []
rounds_end c cells s k = record { before = s.moments; grown = λ f is. is; alike = none_alike; covers = λ node. no_node _ node; events = λ later none. (none, k.events [] refl) }

opens_so : (c : Cluster) (cells : ℕ) (s : Scene) (rounds : Option Progress) (h : Happening) → Stage c s → Opens s rounds h → Awaits cells s []
    → Awaits cells (happened c s h) (opened c (happened c s h) rounds h).wants
opens_so c cells s None (Speaks e) b opens k = line_opens c cells s e b k
opens_so c cells s (Some p) (Begins e) b opens k = part_opens c cells s e b k
opens_so c cells s (Some p) (Notes_so e) b opens k = subst (λ z. Awaits cells (happened c s (Notes_so z)) []) (sym opens.0) (rounds_end c cells s k)
opens_so c cells s _ _ b opens k = absurd opens

step_so : (c : Cluster) (cells : ℕ) (s : Scene) (wants : List Want) (rounds : Option Progress) (h : Happening) → All IsDevice c.attached → Stage c s → MayHappen c s h → IsLinkedTo cells (happened c s h)
    → IsDue s (record { wants = wants; rounds = rounds }) h → Awaits cells s wants → Awaits cells (happened c s h) (due_after c (happened c s h) (record { wants = wants; rounds = rounds }) h).wants
step_so c cells s [] rounds h fits b may linked comes k = opens_so c cells s rounds h b comes k
step_so c cells s (w ∷ wants) rounds h fits b may linked comes k = due_so c cells s w wants h fits b may linked comes k

-- ---- the run

linked_of : (h : Header) (cells : ℕ) (s : Scene) → IsReached h cells s → IsLinkedTo cells s
linked_of h cells s r = subst (IsLinkedTo cells) r.is (links_of_each_run h cells r.happenings r.may).links

run_so : (h : Header) (cells : ℕ) → IsSmall h → (hs : List Happening) (s : Scene) (d last : Due) → IsReached h cells s → MayAllHappen (first_cluster h) s hs
    → ShapedFrom (first_cluster h) s d hs last → Awaits cells s d.wants → Awaits cells (all_happened (first_cluster h) s hs) last.wants
run_so h cells size [] s d last r may shaped k = subst (λ (z : Due). Awaits cells s z.wants) shaped k
run_so h cells size (g ∷ hs) s d last r may shaped k =
    let c : Cluster = first_cluster h in
    let more : IsReached h cells (happened c s g) = reached_more c (first_scene h cells) s g r may.0 in
    run_so h cells size hs (happened c s g) (due_after c (happened c s g) d g) last more may.1 shaped.1
    (step_so c cells s d.wants d.rounds g (first_fit h size.few) (stage_of h cells s size r) may.0 (linked_of h cells (happened c s g) more) shaped.0 k)

first_awaits : (h : Header) (cells : ℕ) → Awaits cells (first_scene h cells) []
unfolding first_scene
first_awaits h cells = record { before = []; grown = λ f is. is; alike = none_alike; covers = λ node. no_node _ node; events = λ later none. none }

events_owed : (h : Header) (cells : ℕ) (hs : List Happening) → length h.devices ≤ most_devices → h.cluster < 2 ^ 32 → MayAllHappen (first_cluster h) (first_scene h cells) hs
    → ShapedFrom (first_cluster h) (first_scene h cells) nothing hs nothing → OfEvents (IsOwed cells) [] (all_happened (first_cluster h) (first_scene h cells) hs).moments
events_owed h cells hs few small may shaped =
    (run_so h cells (record { few = few; small = small }) hs (first_scene h cells) nothing nothing (record { happenings = []; may = tt; is = refl }) may shaped (first_awaits h cells)).events [] refl

pub one_node_of_each_run : OneNodeOfEachRun
one_node_of_each_run h cells hs few small may shaped =
    events_so (IsOwed cells) IsOfOne (λ before x entries owed. owed.one) [] (all_happened (first_cluster h) (first_scene h cells) hs).moments (events_owed h cells hs few small may shaped)

pub prepares_of_each_run : PreparesOfEachRun
prepares_of_each_run h cells hs S few small same may shaped =
    events_so (IsOwed cells) (HasPrepares S)
    (λ before x entries owed left. owed.prepares (subst (λ k. nat_lt (links_after k (onto (x ∷ before) entries)).next (2 ^ 63) ≡ true) same left)) []
    (all_happened (first_cluster h) (first_scene h cells) hs).moments (events_owed h cells hs few small may shaped)
