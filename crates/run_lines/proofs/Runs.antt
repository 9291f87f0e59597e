-- Each run: lines and parts of rounds, each with its entries.
use Rattle.std.specs.Prelude.{ℕ, ◌^◌, ◌≡◌, ◌≤◌, ◌<◌, nat_lt, Bool, true, false, List, [], ◌∷◌, Option, None, Some, Result, Ok, Err, length, if◌then◌else◌}
use Rattle.std.proofs.Common.{refl, sym, subst, ◌∙◌}
use Rattle.cl_base.specs.Limits.{most_devices}
use Rattle.cl_base.specs.declared.header.Header.{Header}
use Rattle.cmm_member.specs.Records.{NodeRecord}
use Rattle.interconnect.specs.Links.{Packet, oldest_on, packet_of}
use Rattle.pgr_device.specs.declared.command.PrCommand.{PrCommand}
use Rattle.schedule_text.specs.declared.event.Event.{Event}
use Rattle.schedule_text.specs.declared.event.Event.TheVariants as event
use Rattle.schedule_text.specs.declared.line.Line.TheVariants as line
use Rattle.status_report.specs.declared.device_entry.WriteRefusal.{WriteRefusal}
use Rattle.status_report.specs.declared.schedule_entry.ScheduleEntry.TheVariants as schedule
use Rattle.status_report.specs.declared.schedule_entry.SkipCause.{SkipCause}
use Rattle.history.specs.Moment.{Moment, Part, Said}
use Rattle.history.specs.Order.{OfEvents}
use Rattle.history.specs.Setting.{Setting}
use Rattle.membership_machine.specs.State.{Memberships}
use Rattle.node_model.specs.Addresses.{refusal_at}
use Rattle.node_model.specs.Devices.{may_write_as}
use Rattle.node_model.specs.declared.cluster.Cluster.{Cluster}
use Rattle.node_model.specs.declared.input.Input.TheVariants as input
use Rattle.node_model.specs.declared.node.Node.{Node}
use Rattle.node_model.specs.declared.node.Node.TheVariants.{Down, Up}
use Rattle.node_model.specs.declared.node.UpNode.{UpNode}
use Rattle.node_model.specs.declared.presidency.Presidency.{Presidency}
use Rattle.node_model.specs.declared.seat.Seat.{Seat}
use Rattle.node_model.specs.declared.seat.Seat.TheVariants.{Forming, Member}
use Rattle.refinement.specs.Ties.{NodeTied, PresidentTied}
use Rattle.refinement.specs.Guards.{IsDown}
use Rattle.world_model.specs.Devices.{due_at}
use Rattle.world_model.specs.First.{first_cluster}
use Rattle.world_model.specs.Lines.{monitors}
use Rattle.run_history.proofs.LinksRun.{links_of_each_run}
use Rattle.run_history.proofs.MemberScenes.{members_of_each_run}
use Rattle.run_history.proofs.Heard.{own_number}
use Rattle.run_history.proofs.Runs.{run_stage}
use Rattle.run_history.proofs.Reached.{Reached, reached_more}
use Rattle.run_history.specs.Happenings.{Happening, IsUp, MayAllHappen, all_happened, armed_by, happened}
use Rattle.run_history.specs.Happenings.Happening.{Begins, Notes, Speaks}
use Rattle.run_history.specs.Scenes.{Scene, adding, first_scene}
use Rattle.run_history.specs.Rounds.{Progress}
use Rattle.run_history.specs.Shapes.{Due, IsDue, Opens, ShapedFrom, Want, asking, booting, brings, coming_to, commanding, due_after, if_up, nothing, of_oldest, of_packet, opened, probing, taking_this, writing}
use Rattle.run_history.specs.Shapes as want
use Rattle.run_history.specs.Stages.{Stage}
use Rattle.run_history.specs.WorldLines.{IsLinked}
use Rattle.run_messages.proofs.Runs.{memberships_of_each_run}
use Rattle.run_lines.specs.Entries.{Awaits, IsReady, Leaves, MayBegin, NodePresides, PresidesAt, Ties}
use Rattle.run_lines.specs.Laws.{IsAnswered, LinesOfEachRun}
use Rattle.run_lines.proofs.Answered.{answered, part_answered}
use Rattle.run_lines.proofs.Begins.{next_may}
use Rattle.run_lines.proofs.Steps.{due_so}

-- ---- what an event brings may be due

boot_ready : (s : Scene) (n : ℕ) (z : Node) → s.nodes.node n ≡ z → IsReady s (booting n z)
boot_ready s n Down is = (subst IsDown (sym is) tt, refl)
boot_ready s n (Up x) is = (tt, refl)

up_ready : (s : Scene) (z : Node) (f : UpNode → List Want) → ((x : UpNode) → z ≡ Up x → IsReady s (f x)) → IsReady s (if_up z f)
up_ready s Down f all = (tt, refl)
up_ready s (Up x) f all = all x refl

is_up_at : (s : Scene) (n : ℕ) (x : UpNode) → s.nodes.node n ≡ Up x → IsUp (s.nodes.node n)
is_up_at s n x is = subst IsUp (sym is) tt

command_ready : (s : Scene) (n : ℕ) (o : Option (ℕ × PrCommand)) → IsReady s (commanding n o)
command_ready s n None = (tt, refl)
command_ready s n (Some due) = refl

write_ready : (s : Scene) (n d value : ℕ) (r : Result ℕ WriteRefusal) → IsReady s (writing n d value r)
write_ready s n d value (Ok e) = refl
write_ready s n d value (Err why) = refl

probe_ready : (s : Scene) (n : ℕ) (resource : List ℕ) (good b : Bool) → monitors resource (Some (s.nodes.node n)) ≡ b → IsReady s (probing n resource good b)
probe_ready s n resource good true is = (is, refl)
probe_ready s n resource good false is = (tt, refl)

client_ready : (s : Scene) (n : ℕ) (address : List ℕ) (client port : ℕ) (o : Option SkipCause) → IsUp (s.nodes.node n) → IsReady s (asking n (input.Client address client port) o)
client_ready s n address client port None up = (up, refl)
client_ready s n address client port (Some why) up = (tt, refl)

packet_ready : (s : Scene) (o : Option Packet) (f : Packet → List Want) → ((x : Packet) → IsReady s (f x)) → IsReady s (of_packet o f)
packet_ready s None f all = (tt, refl)
packet_ready s (Some x) f all = all x

link_ready : (s : Scene) (o : Option ℕ) (f : ℕ → List Want) → ((k : ℕ) → IsReady s (f k)) → IsReady s (of_oldest o f)
link_ready s None f all = (tt, refl)
link_ready s (Some k) f all = all k

coming_ready : (s : Scene) (z : Node) (number : ℕ) (x : Packet) → IsReady s (coming_to z number x)
coming_ready s Down number x = refl
coming_ready s (Up y) number x = refl

copy_ready : (s : Scene) (b : Bool) (number : ℕ) (x : Packet) → IsReady s (if b then want.Repeat number x ∷ [] else [])
copy_ready s true number x = refl
copy_ready s false number x = tt

pub ready_of : (c : Cluster) (s : Scene) (e : Event) → IsReady s (brings c s e)
ready_of c s (event.Boot n) = boot_ready s n (s.nodes.node n) refl
ready_of c s (event.Crash n) = up_ready s (s.nodes.node n) (λ x. taking_this n input.Crash) (λ x is. (is_up_at s n x is, refl))
ready_of c s (event.CrashAt n calls choice) = (tt, refl)
ready_of c s (event.Tick n) = up_ready s (s.nodes.node n) (λ x. taking_this n input.Tick) (λ x is. (is_up_at s n x is, refl))
ready_of c s (event.Disk n) = up_ready s (s.nodes.node n) (λ x. commanding n (due_at (Some (s.nodes.node n)))) (λ x is. command_ready s n (due_at (Some (s.nodes.node n))))
ready_of c s (event.Fault n d done) = (tt, refl)
ready_of c s (event.Write n d value) = up_ready s (s.nodes.node n) (λ x. writing n d value (may_write_as c n d x.seat)) (λ x is. write_ready s n d value (may_write_as c n d x.seat))
ready_of c s (event.Command n words) = up_ready s (s.nodes.node n) (λ x. taking_this n (input.Commanded words)) (λ x is. (is_up_at s n x is, refl))
ready_of c s (event.Outcome n resource method outcome) = (tt, refl)
ready_of c s (event.Probe n resource good) =
    up_ready s (s.nodes.node n) (λ x. probing n resource good (monitors resource (Some (s.nodes.node n))))
    (λ x is. probe_ready s n resource good (monitors resource (Some (s.nodes.node n))) refl)
ready_of c s (event.Client n address client port) =
    up_ready s (s.nodes.node n) (λ x. asking n (input.Client address client port) (refusal_at c address (s.nodes.node n)))
    (λ x is. client_ready s n address client port (refusal_at c address (s.nodes.node n)) (is_up_at s n x is))
ready_of c s (event.Clock second) = (tt, refl)
ready_of c s (event.Deliver number) =
    packet_ready s (packet_of s.links.packets number) (λ x. coming_to (s.nodes.node x.to) number x) (λ x. coming_ready s (s.nodes.node x.to) number x)
ready_of c s (event.Lose number) = packet_ready s (packet_of s.links.packets number) (λ x. want.Lose number x ∷ []) (λ x. refl)
ready_of c s (event.Repeat number) =
    packet_ready s (packet_of s.links.packets number) (λ x. if nat_lt s.links.next (2 ^ 63) then want.Repeat number x ∷ [] else []) (λ x. copy_ready s (nat_lt s.links.next (2 ^ 63)) number x)
ready_of c s (event.Next a b) =
    link_ready s (oldest_on s.links.packets a b) (λ k. of_packet (packet_of s.links.packets k) (λ x. coming_to (s.nodes.node x.to) k x))
    (λ k. packet_ready s (packet_of s.links.packets k) (λ x. coming_to (s.nodes.node x.to) k x) (λ x. coming_ready s (s.nodes.node x.to) k x))
ready_of c s (event.Drop a b) =
    link_ready s (oldest_on s.links.packets a b) (λ k. of_packet (packet_of s.links.packets k) (λ x. want.Lose k x ∷ []))
    (λ k. packet_ready s (packet_of s.links.packets k) (λ x. want.Lose k x ∷ []) (λ x. refl))
ready_of c s (event.Again a b) =
    link_ready s (oldest_on s.links.packets a b) (λ k. of_packet (packet_of s.links.packets k) (λ x. if nat_lt s.links.next (2 ^ 63) then want.Repeat k x ∷ [] else []))
    (λ k. packet_ready s (packet_of s.links.packets k) (λ x. if nat_lt s.links.next (2 ^ 63) then want.Repeat k x ∷ [] else []) (λ x. copy_ready s (nat_lt s.links.next (2 ^ 63)) k x))
ready_of c s (event.Rounds count nodes) = tt

-- ---- a line, or a part of a round, opens an event

-- what is said changes nothing of it
same_brings : (c : Cluster) (s : Scene) (m : Moment) (e : Event) → brings c (adding m s) e ≡ brings c s e
same_brings c s m (event.Boot n) = refl
same_brings c s m _ = refl

armed_brings : (c : Cluster) (s : Scene) (e : Event) → brings c (armed_by c e s) e ≡ brings c s e
armed_brings c s (event.CrashAt n calls choice) = refl
armed_brings c s (event.Fault n d done) = refl
armed_brings c s _ = refl

pub armed_moments : (c : Cluster) (s : Scene) (e : Event) → (armed_by c e s).moments ≡ s.moments
armed_moments c s (event.CrashAt n calls choice) = refl
armed_moments c s (event.Fault n d done) = refl
armed_moments c s _ = refl

line_opens : (c : Cluster) (S : Setting) (s : Scene) (e : Event) → Ties S s → Awaits S s [] → Awaits S (happened c s (Speaks e)) (brings c (happened c s (Speaks e)) e)
line_opens c S s e ties k =
    let m : Moment = Said (line.Event e) in
    let u : Scene = adding m s in
    record {
      ready = ready_of c (armed_by c e u) e;
      events = λ later leaves.
          subst (λ ms. OfEvents (IsAnswered S) later ms) (sym (armed_moments c u e))
          ((λ speaks. answered c S s e later ties speaks (subst (λ ws. Leaves ws later) (armed_brings c u e ∙ same_brings c s m e) leaves)), k.events [] refl);
    }

part_opens : (c : Cluster) (S : Setting) (s : Scene) (e : Event) → Ties S s → MayBegin s e → Awaits S s [] → Awaits S (adding (Part e) s) (brings c (adding (Part e) s) e)
part_opens c S s e ties may k = record {
  ready = ready_of c (adding (Part e) s) e;
  events = λ later leaves.
      ((λ speaks. part_answered c S s e later ties may speaks (subst (λ ws. Leaves ws later) (same_brings c s (Part e) e) leaves)), k.events [] refl);
}

-- `rounds done` is no event's
rounds_end : (c : Cluster) (S : Setting) (s : Scene) → Awaits S s [] → Awaits S (happened c s (Notes schedule.RoundsDone)) []
rounds_end c S s k = record { ready = tt; events = λ later none. (none, k.events [] refl) }

opens_so : (c : Cluster) (S : Setting) (s : Scene) (rounds : Option Progress) (h : Happening) → Ties S s → Opens s rounds h → Awaits S s []
    → Awaits S (happened c s h) (opened c (happened c s h) rounds h).wants
opens_so c S s None (Speaks e) ties opens k = line_opens c S s e ties k
opens_so c S s (Some p) (Begins e) ties opens k = part_opens c S s e ties (next_may s p e opens) k
opens_so c S s (Some p) (Notes e) ties opens k = subst (λ z. Awaits S (happened c s (Notes z)) []) (sym opens.0) (rounds_end c S s k)
opens_so c S s _ _ ties opens k = absurd opens

step_so : (c : Cluster) (S : Setting) (s : Scene) (wants : List Want) (rounds : Option Progress) (h : Happening) → Ties S s → IsDue s (record { wants = wants; rounds = rounds }) h → Awaits S s wants
    → Awaits S (happened c s h) (due_after c (happened c s h) (record { wants = wants; rounds = rounds }) h).wants
step_so c S s [] rounds h ties comes k = opens_so c S s rounds h ties comes k
step_so c S s (w ∷ wants) rounds h ties comes k = due_so c S s w wants h comes k

-- ---- the run

tied_presides : (M : Memberships) (n : ℕ) (o : Option Presidency) (seat : Seat) → PresidentTied M n o seat → PresidesAt n o seat
tied_presides M n None seat h = tt
tied_presides M n (Some p) (Forming s) h = h
tied_presides M n (Some p) (Member s) h = own_number s.session n h.own

node_presides : (c : Cluster) (M : Memberships) (n : ℕ) (disk : NodeRecord) (z : Node) → NodeTied c M n disk z → NodePresides n z
node_presides c M n disk Down h = tt
node_presides c M n disk (Up x) h = tied_presides M n x.presidency x.seat h.1

pub stage_presides : (c : Cluster) (s : Scene) → Stage c s → (n : ℕ) → NodePresides n (s.nodes.node n)
stage_presides c s k n = node_presides c k.machine n (s.nodes.disk n).kept (s.nodes.node n) (k.stands n).tied

-- what the lines say of each scene of a run
abbrev AllTied : Header → ℕ → Setting → Type 0
AllTied h cells S = (s : Scene) → Reached (first_cluster h) (first_scene h cells) s → Ties S s

all_tied : (h : Header) (cells : ℕ) (S : Setting) → length h.devices ≤ most_devices → h.cluster < 2 ^ 32 → S.cells ≡ cells → AllTied h cells S
all_tied h cells S devices small same s r =
    subst (λ z. Ties S z) r.is (record {
      nodes = (members_of_each_run h cells r.happenings devices r.may).nodes;
      seats = memberships_of_each_run h cells r.happenings devices small r.may;
      presidents = stage_presides (first_cluster h) (all_happened (first_cluster h) (first_scene h cells) r.happenings) (run_stage h cells r.happenings devices small r.may);
      linked = subst (λ k. IsLinked k (all_happened (first_cluster h) (first_scene h cells) r.happenings)) (sym same) (links_of_each_run h cells r.happenings r.may);
    })

run_so : (h : Header) (cells : ℕ) (S : Setting) → AllTied h cells S → (hs : List Happening) (s : Scene) (d last : Due) → Reached (first_cluster h) (first_scene h cells) s
    → MayAllHappen (first_cluster h) s hs → ShapedFrom (first_cluster h) s d hs last → Awaits S s d.wants → Awaits S (all_happened (first_cluster h) s hs) last.wants
run_so h cells S tied [] s d last r may shaped k = subst (λ (z : Due). Awaits S s z.wants) shaped k
run_so h cells S tied (g ∷ hs) s d last r may shaped k =
    let c : Cluster = first_cluster h in
    run_so h cells S tied hs (happened c s g) (due_after c (happened c s g) d g) last (reached_more c (first_scene h cells) s g r may.0) may.1 shaped.1
    (step_so c S s d.wants d.rounds g (tied s r) shaped.0 k)

first_awaits : (h : Header) (cells : ℕ) (S : Setting) → Awaits S (first_scene h cells) []
unfolding first_scene
first_awaits h cells S = record { ready = tt; events = λ later none. none }

pub lines_of_each_run : LinesOfEachRun
lines_of_each_run h cells hs S devices small same may shaped =
    (run_so h cells S (all_tied h cells S devices small same) hs (first_scene h cells) nothing nothing (record { happenings = []; may = tt; is = refl }) may shaped
    (first_awaits h cells S)).events [] refl
