-- Each run: a Collect is answered by a Promise or by a Nack in the event in which it is delivered.
use Rattle.std.specs.Prelude.{ℕ, ◌≡◌, ◌≤◌, ◌⊎◌, ◌||◌, Bool, true, false, List, [], ◌∷◌, Some}
use Rattle.std.proofs.Common.{refl, ap, sym, subst, ◌∙◌, inl, inr}
use Rattle.std.specs.List.{AllByRecursion}
use Rattle.ccr_commit.specs.Entries.{texts_of}
use Rattle.cl_base.specs.declared.header.Header.{Header}
use Rattle.cl_base.specs.declared.method.Outcome.{Outcome}
use Rattle.cmm_attempt.proofs.Basics.{false_true, same_some}
use Rattle.cmm_member.specs.Records.{NodeRecord}
use Rattle.history.specs.Letters.{Letter, letter_of, sends}
use Rattle.history.specs.Messages.{is_down_of, onto, sends_or_falls}
use Rattle.history.specs.Moment.{Moment}
use Rattle.history.specs.Names as name
use Rattle.history.specs.Names.{Name, named}
use Rattle.history.specs.Setting.{Setting}
use Rattle.history.specs.Trace.{delivered}
use Rattle.interconnect.specs.Links.{Packet, packet_of}
use Rattle.node_model.specs.Members.{is_foreign}
use Rattle.node_model.specs.Seats.{record_of, state_of}
use Rattle.node_model.specs.declared.cluster.Cluster.{Cluster}
use Rattle.node_model.specs.declared.input.Input.TheVariants as input
use Rattle.node_model.specs.declared.node.Node.TheVariants.{Up}
use Rattle.node_model.specs.declared.node.UpNode.{UpNode}
use Rattle.refinement.specs.node_widths.Widths.{BodyFits}
use Rattle.refinement.proofs.Changes.{Sees, sees}
use Rattle.refinement.specs.Doings.{site}
use Rattle.refinement.specs.Runs.{IsAmong, Letter as SentLetter}
use Rattle.refinement.specs.Ties.{NodeTied}
use Rattle.refinement.specs.Widths.{LetterFits}
use Rattle.run_packets.proofs.fits.Doings.{record_sound}
use Rattle.run_packets.proofs.fits.Runs.{Fitting, first_fits, happening_fits, sized}
use Rattle.run_packets.proofs.fits.Steps.{Grown}
use Rattle.run_packets.specs.fits.Rooms.{HasRoom}
use Rattle.run_history.proofs.ContactFlying.{found_posted, number_found}
use Rattle.run_history.proofs.Reached.{reached_more}
use Rattle.run_history.specs.Causes.{Posted}
use Rattle.run_history.specs.Happenings.{Happening, MayAllHappen, all_happened, given_by, happened}
use Rattle.run_history.specs.Scenes.{Scene, first_scene}
use Rattle.run_messages.proofs.Reaching.{IsReached, IsSmall, stage_of}
use Rattle.run_packets.proofs.prepares.Adds.{events_so}
use Rattle.run_packets.proofs.repeats.Events.{each_along_run, reached_first}
use Rattle.run_packets.proofs.replies.Delivered.{Known, OfWhatComes, WhereLeft, known_of, opens, or_first, or_later, where_left}
use Rattle.run_packets.proofs.replies.Others.{else_no_collect}
use Rattle.run_packets.proofs.replies.Promising.{Given, collect_given}
use Rattle.run_packets.specs.prepares.Events.{IsLeftAfter}
use Rattle.run_packets.specs.repeats.Events.{AlongRun, AreSent}
use Rattle.run_packets.specs.replies.Laws.{CollectReplies, CollectsAreAnsweredInEachRun, HasPromiseOrNack}
use Rattle.run_packets.proofs.native.Judged.{kind_native}
use Rattle.run_packets.proofs.native.Moves.{among_named}
use Rattle.run_packets.proofs.native.Runs.{Known as Bound, first_named, happening_named, whole_at}
use Rattle.run_packets.specs.native.Laws.{BootsInHeader}
use Rattle.run_packets.specs.native.Named.{SceneNamed}
use Rattle.wire.specs.Reads.{whole_of}
use Rattle.wire.specs.declared.message.Body.TheVariants as body
use Rattle.wire.specs.declared.message.Body.{Body}
use Rattle.wire.specs.declared.message.Message.{Message}
use Rattle.world_model.specs.First.{first_cluster}
use Rattle.world_model.specs.Sends.{name_of}

-- ---- a Collect

-- the message that is called so is a Collect
record IsCollect (b : Body) : Type 0 where
  epoch : ℕ
  members : ℕ
  is : b ≡ body.Collect epoch members

names_collect : Name → Bool
names_collect name.Collect = true
names_collect _ = false

collect_named : (b : Body) → named (name_of b) ≡ name.Collect → IsCollect b
unfolding names_collect
collect_named (body.Collect e members) is = record { epoch = e; members = members; is = refl }
collect_named _ is = absurd (false_true (ap names_collect is))

body_fits : (from : ℕ) (b : Body) (ls : List SentLetter) → IsAmong from b ls → AllByRecursion LetterFits ls → BodyFits b
body_fits from b [] h all = absurd h
body_fits from b (l ∷ ls) (inl here) all = subst BodyFits here.1 all.0.1
body_fits from b (l ∷ ls) (inr there) all = body_fits from b ls there all.1

-- ---- what is known of a scene

record Fitted (h : Header) (s : Scene) : Type 0 where
  known : Known (first_cluster h) s
  named_so : SceneNamed (first_cluster h) s
  grown : Grown (first_cluster h) s.nodes

-- the updates of a node that is up have room
room_of : (c : Cluster) (s : Scene) (n : ℕ) (w : UpNode) → s.nodes.node n ≡ Up w → Grown c s.nodes → HasRoom c.nodes c.devices (texts_of (record_of w).entries)
room_of c s n w at g =
    let disk : NodeRecord = (s.nodes.disk n).kept in
    let tied : NodeTied c g.machine n disk (Up w) = subst (NodeTied c g.machine n disk) at (g.stands n).tied in
    let seen : Sees g.machine n disk (state_of w.seat) = sees c g.machine n disk w.attempt w.seat tied.0 in
    subst (λ (r : NodeRecord). HasRoom c.nodes c.devices (texts_of r.entries)) seen.disk_so
    (record_sound c g.machine n (site (s.nodes.node n) disk) g.holds (g.stands n).tied g.rooms (g.records n)).room

either_sent : (n from : ℕ) (called : Name) (first : Moment) (rest : List Moment) → (called ≡ name.Promise) ⊎ (called ≡ name.Nack) → sends_or_falls n from called rest ≡ true
    → (sends_or_falls n from name.Promise (first ∷ rest) || sends_or_falls n from name.Nack (first ∷ rest)) ≡ true
either_sent n from called first rest (inl is) sent =
    or_first (sends_or_falls n from name.Promise (first ∷ rest)) (sends_or_falls n from name.Nack (first ∷ rest))
    (or_later (sends n from name.Promise first || is_down_of n first) (sends_or_falls n from name.Promise rest) (subst (λ z. sends_or_falls n from z rest ≡ true) is sent))
either_sent n from called first rest (inr is) sent =
    or_later (sends_or_falls n from name.Promise (first ∷ rest)) (sends_or_falls n from name.Nack (first ∷ rest))
    (or_later (sends n from name.Nack first || is_down_of n first) (sends_or_falls n from name.Nack rest) (subst (λ z. sends_or_falls n from z rest ≡ true) is sent))

collect_so : (h : Header) (cells : ℕ) (s : Scene) (x : Moment) (number : ℕ) (y : Packet) (w : UpNode) (rest : List Moment) (m : Message) (now : ℕ) (ends : Outcome) (l : Letter) → h.nodes ≤ 32 → Fitted h s
    → packet_of s.links.packets number ≡ Some y → s.nodes.node y.to ≡ Up w → letter_of number s.moments ≡ Some l → l.name ≡ name.Collect → whole_of y.bytes ≡ Some m → IsAmong y.from m.body s.nodes.sent
    → AreSent cells (delivered number y.from y.to ∷ x ∷ s.moments) y.to (given_by (first_cluster h) y.to now ends (input.Packet y.from m) s.nodes) rest
    → IsLeftAfter cells (onto (x ∷ s.moments) (delivered number y.from y.to ∷ rest))
    → (sends_or_falls y.to l.from name.Promise (delivered number y.from y.to ∷ rest) || sends_or_falls y.to l.from name.Nack (delivered number y.from y.to ∷ rest)) ≡ true
collect_so h cells s x number y w rest m now ends l nodes f at at_node letter called reads among are left =
    let c : Cluster = first_cluster h in
    let p : Posted s.moments s.links.next y = found_posted s.moments s.links number y f.known.stage.flying at in
    let same : p.letter ≡ l = same_some p.letter l (sym p.sent_so ∙ (ap (λ j. letter_of j s.moments) (number_found s.links number y at) ∙ letter)) in
    let k : IsCollect m.body = collect_named m.body (sym (p.says m reads).0 ∙ (ap (λ (z : Letter). z.name) same ∙ called)) in
    let b : Body = body.Collect k.epoch k.members in
    let is_among : IsAmong y.from b s.nodes.sent = subst (λ z. IsAmong y.from z s.nodes.sent) k.is among in
    let native : is_foreign c y.to w b ≡ false =
    kind_native h y.to (Up w) b nodes (body_fits y.from b s.nodes.sent is_among f.known.stage.fits.sent) (among_named c y.from b s.nodes.sent is_among f.named_so.nodes.sent).1 tt refl in
    let g : Given y.to y.from (given_by c y.to now ends (input.Packet y.from m) s.nodes) =
    collect_given c s.nodes y.to y.from now k.epoch k.members c.nodes c.devices ends w m at_node k.is native (room_of c s y.to w at_node f.grown) in
    subst (λ z. (sends_or_falls y.to z name.Promise (delivered number y.from y.to ∷ rest) || sends_or_falls y.to z name.Nack (delivered number y.from y.to ∷ rest)) ≡ true)
    (sym p.sender ∙ ap (λ (z : Letter). z.from) same)
    (either_sent y.to y.from (named (name_of g.answer)) (delivered number y.from y.to) rest g.called (are y.from g.answer g.behind g.short left))

-- a Collect that is delivered
collect_comes : (h : Header) (S : Setting) (cells : ℕ) → h.nodes ≤ 32 → OfWhatComes (CollectReplies S) cells (first_cluster h) (Fitted h)
collect_comes h S cells nodes = record {
  known = λ s f. f.known;
  none = else_no_collect S;
  strays = λ before x number a b no l letter called. absurd (no l letter);
  comes = λ s x number y w rest m now ends f at at_node reads among are left l letter called. collect_so h cells s x number y w rest m now ends l nodes f at at_node letter called reads among are left;
}

-- ---- the run

along : (h : Header) (cells : ℕ) (s : Scene) (hs : List Happening) → h.nodes ≤ 32 → IsSmall h → IsReached h cells s → MayAllHappen (first_cluster h) s hs → AllByRecursion (BootsInHeader h) hs → SceneNamed (first_cluster h) s
    → Fitting (first_cluster h) s.nodes s.moments → AlongRun (Fitted h) (first_cluster h) s hs
along h cells s [] nodes size at may boots named f = record { known = known_of h cells size s at; named_so = named; grown = f.grown }
along h cells s (x ∷ hs) nodes size at may boots named f =
    let c : Cluster = first_cluster h in
    let next : IsReached h cells (happened c s x) = reached_more c (first_scene h cells) s x at may.0 in
    let b : Bound h s x = record { stage = stage_of h cells s size at; whole = whole_at h cells s size at; next = stage_of h cells (happened c s x) size next } in (
      record { known = known_of h cells size s at; named_so = named; grown = f.grown },
      along h cells (happened c s x) hs nodes size next may.1 boots.1 (happening_named h s x nodes size may.0 boots.0 b named) (happening_fits c s x (sized h size) may.0 named f),
    )

pub collects_are_answered_in_each_run : CollectsAreAnsweredInEachRun
collects_are_answered_in_each_run h cells hs S nodes few small same may shaped boots =
    let c : Cluster = first_cluster h in
    let size : IsSmall h = record { few = few; small = small } in
    events_so (WhereLeft (CollectReplies S) cells) (HasPromiseOrNack S) (where_left (CollectReplies S) S cells same) [] (all_happened c (first_scene h cells) hs).moments
    (each_along_run (WhereLeft (CollectReplies S) cells) h cells hs size (Fitted h) (opens (CollectReplies S) cells c (Fitted h) (collect_comes h S cells nodes))
    (along h cells (first_scene h cells) hs nodes size (reached_first h cells) may boots (first_named h cells) (first_fits h cells size)) may shaped)
