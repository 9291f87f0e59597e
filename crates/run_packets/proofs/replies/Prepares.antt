-- Each run: a Prepare of a fellow member is answered by Prepared in the event in which it is delivered.
use Rattle.std.specs.Prelude.{ℕ, ◌-◌, ◌≡◌, ◌<◌, ◌==◌, ◌||◌, nat_le, slice_get, Bool, true, false, List, [], ◌∷◌, Some}
use Rattle.std.proofs.Common.{refl, ap, sym, subst, ◌∙◌}
use Rattle.cl_base.specs.declared.header.Header.{Header}
use Rattle.cl_base.specs.declared.method.Outcome.{Outcome}
use Rattle.cmm_attempt.proofs.Basics.{false_true, none_some, same_some}
use Rattle.cmm_member.specs.Nodes.{NodeState}
use Rattle.cmm_member.specs.Records.{NodeRecord}
use Rattle.history.specs.Letters.{Letter, letter_of, sends}
use Rattle.history.specs.Member.{member_of}
use Rattle.history.specs.Messages.{are_same, is_down_of, is_fellow, onto, sends_or_falls}
use Rattle.history.specs.Moment.{Moment}
use Rattle.history.specs.Names as name
use Rattle.history.specs.Names.{Name, named}
use Rattle.history.specs.Setting.{Setting}
use Rattle.history.specs.Trace.{delivered}
use Rattle.interconnect.specs.Links.{Packet, packet_of}
use Rattle.membership_machine.specs.Invariant.{Holds}
use Rattle.membership_machine.specs.State.{Memberships}
use Rattle.node_model.specs.Members.{is_foreign}
use Rattle.node_model.specs.Seats.{is_in, state_of}
use Rattle.node_model.specs.declared.cluster.Cluster.{Cluster}
use Rattle.node_model.specs.declared.input.Input.TheVariants as input
use Rattle.node_model.specs.declared.node.Node.TheVariants.{Up}
use Rattle.node_model.specs.declared.node.UpNode.{UpNode}
use Rattle.node_model.specs.declared.seat.Seat.TheVariants.{Forming, Member}
use Rattle.node_model.specs.declared.seat.Seat.{Seat}
use Rattle.refinement.proofs.Presidents.{MemberTied, member_tied}
use Rattle.refinement.specs.Runs.{IsAmong}
use Rattle.refinement.specs.Ties.{NodeTied, setting_of}
use Rattle.run_history.proofs.ContactFlying.{found_posted, number_found}
use Rattle.run_history.proofs.Reached.{Reached}
use Rattle.run_history.specs.Causes.{Posted}
use Rattle.run_history.specs.Happenings.{all_happened, given_by}
use Rattle.run_history.specs.Scenes.{Scene, first_scene}
use Rattle.run_history.specs.Stages.{Stage}
use Rattle.run_messages.proofs.Reaching.{IsSmall, holds_of_each, stage_of}
use Rattle.run_messages.specs.Laws.{IsSeated, membership_in}
use Rattle.run_packets.proofs.prepares.Adds.{events_so}
use Rattle.run_packets.proofs.repeats.Events.{each_of_run, reached_first}
use Rattle.run_packets.proofs.replies.Delivered.{Known, OfLine, OfWhatComes, WhereLeft, known_of, letter_bytes, line_of, opens, or_later, where_left}
use Rattle.run_packets.proofs.replies.Holding.{told_among}
use Rattle.run_packets.proofs.replies.Others.{else_no_prepare}
use Rattle.run_packets.proofs.replies.Preparing.{no_gap, prepare_given, prepared_short}
use Rattle.run_packets.proofs.replies.Runs.{answered, both_true, is_itself, same_epoch, some_epoch}
use Rattle.run_packets.specs.prepares.Events.{IsLeftAfter}
use Rattle.run_packets.specs.repeats.Events.{AreSent}
use Rattle.run_packets.specs.replies.Laws.{HasPrepared, PrepareReplies, PreparesAreAnsweredInEachRun}
use Rattle.run_packets.specs.replies.Orders.{BodySo, SaysSo}
use Rattle.run_packets.proofs.admitted.PrepareRuns.{SceneLogged, first_logged, happening_logged}
use Rattle.run_packets.proofs.admitted.Preparing.{prepare_good}
use Rattle.wire.specs.Reads.{whole_of}
use Rattle.wire.specs.declared.message.Body.TheVariants as body
use Rattle.wire.specs.declared.message.Body.{Body}
use Rattle.wire.specs.declared.message.Message.{Message}
use Rattle.world_model.specs.First.{first_cluster}
use Rattle.world_model.specs.Sends.{name_of}

-- ---- a Prepare

-- the message that is called so is a Prepare
record IsPrepare (b : Body) (v : ℕ) : Type 0 where
  epoch : ℕ
  place : ℕ
  text : List ℕ
  is : b ≡ body.Prepare epoch place text
  number : place ≡ v

names_prepare : Name → Bool
names_prepare (name.Prepare k) = true
names_prepare _ = false

prepare_number : Name → ℕ
prepare_number (name.Prepare k) = k
prepare_number _ = 0

prepare_named : (b : Body) (v : ℕ) → named (name_of b) ≡ name.Prepare v → IsPrepare b v
unfolding names_prepare prepare_number
prepare_named (body.Prepare e place text) v is = record { epoch = e; place = place; text = text; is = refl; number = ap prepare_number is }
prepare_named _ v is = absurd (false_true (ap names_prepare is))

-- ---- what is known of a scene

record Ready (c : Cluster) (s : Scene) : Type 0 where
  known : Known c s
  logged : SceneLogged c s

-- the node is a member of this membership
record SitsIn (w : UpNode) (e : ℕ) : Type 0 where
  state : NodeState
  sits : w.seat ≡ Member state
  session : state.session ≡ e
  here : is_in w e ≡ true

sits_in : (c : Cluster) (M : Memberships) (n e : ℕ) (disk : NodeRecord) (w : UpNode) → Holds (setting_of c) M → NodeTied c M n disk (Up w) → membership_in w.seat ≡ Some e → SitsIn w e
sits_in c M n e disk w holds tied seated = by_seat w.seat refl seated
  where
    by_seat : (z : Seat) → w.seat ≡ z → membership_in z ≡ Some e → SitsIn w e
    by_seat (Forming t) sits is = absurd (none_some e is)
    by_seat (Member t) sits is =
        let session : t.session ≡ e = same_some t.session e is in
        let k : MemberTied c M n w t = member_tied c M n w disk t tied sits in
        let some : 0 < e = subst (λ z. 0 < z) (k.shows.session ∙ session) ((holds.node n).member_sits k.shows.member) in
        record {
          state = t;
          sits = sits;
          session = session;
          here = both_true (nat_le 1 e) ((state_of w.seat).session == e) (some_epoch e some) (is_itself (state_of w.seat).session e (ap (λ (z : Seat). (state_of z).session) sits ∙ session));
        }

prepare_so : (cells : ℕ) (c : Cluster) (s : Scene) (x : Moment) (number : ℕ) (y : Packet) (w : UpNode) (rest : List Moment) (m : Message) (now : ℕ) (ends : Outcome) (l : Letter) (v : ℕ) → Ready c s
    → packet_of s.links.packets number ≡ Some y → s.nodes.node y.to ≡ Up w → letter_of number s.moments ≡ Some l → l.name ≡ name.Prepare v → whole_of y.bytes ≡ Some m → IsAmong y.from m.body s.nodes.sent
    → AreSent cells (delivered number y.from y.to ∷ x ∷ s.moments) y.to (given_by c y.to now ends (input.Packet y.from m) s.nodes) rest
    → IsLeftAfter cells (onto (x ∷ s.moments) (delivered number y.from y.to ∷ rest)) → is_fellow y.to l s.moments ≡ true → sends_or_falls y.to l.from (name.Prepared v) (delivered number y.from y.to ∷ rest) ≡ true
prepare_so cells c s x number y w rest m now ends l v f at at_node letter called reads among are left fellow =
    let b : Stage c s = f.known.stage in
    let p : Posted s.moments s.links.next y = found_posted s.moments s.links number y b.flying at in
    let same : p.letter ≡ l = same_some p.letter l (sym p.sent_so ∙ (ap (λ j. letter_of j s.moments) (number_found s.links number y at) ∙ letter)) in
    let k : IsPrepare m.body v = prepare_named m.body v (sym (p.says m reads).0 ∙ (ap (λ (z : Letter). z.name) same ∙ called)) in
    let line : OfLine SaysSo l = line_of SaysSo number s.moments l f.known.kept.says letter in
    let theirs : member_of l.from l.before ≡ Some k.epoch = subst (BodySo l.before l.from) k.is (line.line_so m (ap whole_of (letter_bytes s number y l f.known.bytes at letter) ∙ reads)) in
    let ours : member_of y.to s.moments ≡ Some k.epoch = same_epoch (member_of y.to s.moments) k.epoch (subst (λ z. are_same (member_of y.to s.moments) z ≡ true) theirs fellow) in
    let seated : membership_in w.seat ≡ Some k.epoch = sym (subst (λ z. IsSeated s.moments y.to z) at_node (f.known.seated y.to)) ∙ ours in
    let tied : NodeTied c b.machine y.to (s.nodes.disk y.to).kept (Up w) = subst (NodeTied c b.machine y.to (s.nodes.disk y.to).kept) at_node (b.stands y.to).tied in
    let seat : SitsIn w k.epoch = sits_in c b.machine y.to k.epoch (s.nodes.disk y.to).kept w b.holds tied seated in
    let is_among : IsAmong y.from (body.Prepare k.epoch k.place k.text) s.nodes.sent = subst (λ z. IsAmong y.from z s.nodes.sent) k.is among in
    let told : slice_get (b.machine.epoch k.epoch).log (k.place - 1) ≡ Some k.text = told_among b.machine y.from (body.Prepare k.epoch k.place k.text) s.nodes.sent is_among b.sent in
    let native : is_foreign c y.to w (body.Prepare k.epoch k.place k.text) ≡ false = prepare_good c s.nodes y.to y.from w k.epoch k.place k.text at_node is_among f.logged in
    or_later (sends y.to l.from (name.Prepared v) (delivered number y.from y.to) || is_down_of y.to (delivered number y.from y.to)) (sends_or_falls y.to l.from (name.Prepared v) rest)
    (subst (λ z. sends_or_falls y.to z (name.Prepared v) rest ≡ true) (sym p.sender ∙ ap (λ (z : Letter). z.from) same)
    (subst (λ j. sends_or_falls y.to y.from (name.Prepared j) rest ≡ true) k.number
    (are y.from (body.Prepared k.epoch k.place)
    (prepare_given c s.nodes y.to y.from now k.epoch k.place k.text ends w seat.state m at_node k.is native seat.sits seat.here
    (no_gap c b.machine y.to k.epoch k.place k.text (s.nodes.disk y.to).kept w seat.state b.holds tied seat.sits seat.session told)) (prepared_short y.to k.epoch k.place) left)))

-- a Prepare that is delivered
prepare_comes : (S : Setting) (cells : ℕ) (c : Cluster) → OfWhatComes (PrepareReplies S) cells c (Ready c)
prepare_comes S cells c = record {
  known = λ s f. f.known;
  none = else_no_prepare S;
  strays = λ before x number a b no l v letter called. absurd (no l letter);
  comes = λ s x number y w rest m now ends f at at_node reads among are left l v letter called.
      answered (is_fellow y.to l s.moments) (sends_or_falls y.to l.from (name.Prepared v) (delivered number y.from y.to ∷ rest))
      (λ fellow. prepare_so cells c s x number y w rest m now ends l v f at at_node letter called reads among are left fellow);
}

-- ---- the run

logged_of : (h : Header) (cells : ℕ) (s : Scene) → IsSmall h → Reached (first_cluster h) (first_scene h cells) s → SceneLogged (first_cluster h) s
logged_of h cells s size r =
    subst (SceneLogged (first_cluster h)) r.is
    (holds_of_each h cells (SceneLogged (first_cluster h)) (λ t x may at more k. happening_logged h t x size may (stage_of h cells t size at) k)
    (first_logged h cells (stage_of h cells (first_scene h cells) size (reached_first h cells))) r.happenings r.may)

ready_of : (h : Header) (cells : ℕ) → IsSmall h → (s : Scene) → Reached (first_cluster h) (first_scene h cells) s → Ready (first_cluster h) s
ready_of h cells size s r = record { known = known_of h cells size s r; logged = logged_of h cells s size r }

pub prepares_are_answered_in_each_run : PreparesAreAnsweredInEachRun
prepares_are_answered_in_each_run h cells hs S few small same may shaped =
    let c : Cluster = first_cluster h in
    let size : IsSmall h = record { few = few; small = small } in
    events_so (WhereLeft (PrepareReplies S) cells) (HasPrepared S) (where_left (PrepareReplies S) S cells same) [] (all_happened c (first_scene h cells) hs).moments
    (each_of_run (WhereLeft (PrepareReplies S) cells) h cells hs size (Ready c) (opens (PrepareReplies S) cells c (Ready c) (prepare_comes S cells c)) (ready_of h cells size) may shaped)
