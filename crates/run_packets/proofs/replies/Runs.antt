-- Each run: an Order of a fellow member is answered by Done in the event in which it is delivered.
use Rattle.std.specs.Prelude.{ℕ, ◌≡◌, ◌<◌, ◌==◌, ◌&&◌, ◌||◌, nat_le, not, Bool, true, false, List, [], ◌∷◌, Option, None, Some, Ok, is_some}
use Rattle.std.proofs.Common.{refl, ap, sym, subst, ◌∙◌, inl, inr, arith}
use Rattle.std.specs.List.{AllByRecursion}
use Rattle.cl_base.specs.Names.{IsName}
use Rattle.cl_base.specs.declared.method.Outcome.{Outcome}
use Rattle.cmm_attempt.proofs.Basics.{false_true, none_some, same_number, same_some}
use Rattle.cmm_member.specs.Records.{NodeRecord}
use Rattle.history.specs.Letters.{Letter, letter_of, sends}
use Rattle.history.specs.Member.{member_of}
use Rattle.history.specs.Messages.{are_same, is_down_of, is_fellow, onto, sends_or_falls}
use Rattle.history.specs.Moment.{Moment}
use Rattle.history.specs.Names as name
use Rattle.history.specs.Names.{Name, named}
use Rattle.history.specs.Setting.{Setting}
use Rattle.history.specs.Trace.{delivered}
use Rattle.interconnect.specs.Links.{Packet, packet_of}
use Rattle.membership_machine.specs.Invariant.{Holds}
use Rattle.membership_machine.specs.State.{Memberships}
use Rattle.node_model.specs.Members.{is_foreign}
use Rattle.node_model.specs.Seats.{is_in, is_member, state_of}
use Rattle.node_model.specs.declared.cluster.Cluster.{Cluster}
use Rattle.node_model.specs.declared.input.Input.TheVariants as input
use Rattle.node_model.specs.declared.node.Node.TheVariants.{Up}
use Rattle.node_model.specs.declared.node.UpNode.{UpNode}
use Rattle.node_model.specs.declared.seat.Seat.TheVariants.{Forming, Member}
use Rattle.node_model.specs.declared.seat.Seat.{Seat}
use Rattle.refinement.specs.Runs.{IsAmong, Letter as SentLetter}
use Rattle.refinement.specs.Ties.{NodeTied, SeatTied, setting_of}
use Rattle.refinement.specs.Widths.{LetterFits}
use Rattle.rg_props.proofs.NameLemmas.{name_read}
use Rattle.rg_props.specs.Words.{name_in}
use Rattle.run_history.proofs.ContactFlying.{found_posted, number_found}
use Rattle.run_history.specs.Causes.{Posted}
use Rattle.run_history.specs.Happenings.{all_happened, given_by}
use Rattle.run_history.specs.Scenes.{Scene, first_scene}
use Rattle.run_history.specs.Stages.{Stage}
use Rattle.run_messages.proofs.Reaching.{IsSmall}
use Rattle.run_messages.specs.Laws.{IsSeated, membership_in}
use Rattle.run_packets.proofs.prepares.Adds.{events_so}
use Rattle.run_packets.proofs.repeats.Events.{each_of_run}
use Rattle.run_packets.proofs.replies.Answering.{Given, order_given}
use Rattle.run_packets.proofs.replies.Delivered.{Known, OfLine, OfWhatComes, WhereLeft, known_of, letter_bytes, line_of, opens, or_later, where_left}
use Rattle.run_packets.proofs.replies.Others.{else_replies}
use Rattle.run_packets.specs.prepares.Events.{IsLeftAfter}
use Rattle.run_packets.specs.repeats.Events.{AreSent}
use Rattle.run_packets.specs.replies.Laws.{HasDone, OrderReplies, OrdersAreAnsweredInEachRun}
use Rattle.run_packets.specs.replies.Orders.{BodySo, NodeOf, SaysSo, SeatOf}
use Rattle.wire.specs.Reads.{whole_of}
use Rattle.wire.specs.declared.message.Body.TheVariants as body
use Rattle.wire.specs.declared.message.Body.{Body}
use Rattle.wire.specs.declared.message.Message.{Message}
use Rattle.wire.specs.declared.message.Order.{Order}
use Rattle.world_model.specs.First.{first_cluster}
use Rattle.world_model.specs.Sends.{name_of}

-- the message that is called so is an order
record IsOrder (b : Body) (k : ℕ) : Type 0 where
  order : Order
  is : b ≡ body.Order order
  number : order.number ≡ k

names_order : Name → Bool
names_order (name.Order k) = true
names_order _ = false

order_number : Name → ℕ
order_number (name.Order k) = k
order_number _ = 0

order_named : (b : Body) (k : ℕ) → named (name_of b) ≡ name.Order k → IsOrder b k
unfolding names_order order_number
order_named (body.Order o) k is = record { order = o; is = refl; number = ap order_number is }
order_named _ k is = absurd (false_true (ap names_order is))

pub both_true : (a b : Bool) → a ≡ true → b ≡ true → (a && b) ≡ true
both_true a b h k = cc

pub is_itself : (a b : ℕ) → a ≡ b → (a == b) ≡ true
is_itself a b h = grind (arith, h)

pub some_epoch : (e : ℕ) → 0 < e → nat_le 1 e ≡ true
some_epoch e h = grind (arith, h)

-- an order that was sent has a name
name_good : (w : List ℕ) → IsName w → is_some (name_in w) ≡ true
name_good w h = ap is_some (sym (name_read {E = Unit {0}} w (Ok w) (refl, h)))

fits_among : (from : ℕ) (o : Order) (ls : List SentLetter) → IsAmong from (body.Order o) ls → AllByRecursion LetterFits ls → IsName o.resource
fits_among from o [] h all = absurd h
fits_among from o (l ∷ ls) (inl e) all = name_fits l.body e.1 all.0
  where
    name_fits : (b : Body) → b ≡ body.Order o → LetterFits (record { from = l.from; body = b }) → IsName o.resource
    name_fits b is fits = (subst (λ z. LetterFits (record { from = l.from; body = z })) is fits).1.2
fits_among from o (l ∷ ls) (inr h) all = fits_among from o ls h all.1

pub same_epoch : (o : Option ℕ) (e : ℕ) → are_same o (Some e) ≡ true → o ≡ Some e
same_epoch None e h = absurd (false_true h)
same_epoch (Some f) e h = ap (λ k. Some k) (sym (same_number e f h))

-- ---- a packet comes to a node that is at_node

-- a member of this membership is in it, which is one
in_membership : (c : Cluster) (M : Memberships) (n e : ℕ) (disk : NodeRecord) (w : UpNode) → Holds (setting_of c) M → NodeTied c M n disk (Up w) → SeatOf w.worker.epoch w.presidency w.seat → membership_in w.seat ≡ Some e
    → ((is_member w.seat && is_in w e) ≡ true) × ((e == w.worker.epoch) ≡ true)
in_membership c M n e disk w holds tied of seated = by_seat w.seat refl tied.0 of seated
  where
    by_seat : (z : Seat) → w.seat ≡ z → SeatTied c M n disk w.attempt z → SeatOf w.worker.epoch w.presidency z → membership_in z ≡ Some e → ((is_member w.seat && is_in w e) ≡ true) × ((e == w.worker.epoch) ≡ true)
    by_seat (Forming t) sits tie kept is = absurd (none_some e is)
    by_seat (Member t) sits tie kept is =
        let session : t.session ≡ e = same_some t.session e is in
        let own : (state_of w.seat).session ≡ e = ap (λ (z : Seat). (state_of z).session) sits ∙ session in
        let some : 0 < e = subst (λ k. 0 < k) (tie.0.session ∙ session) ((holds.node n).member_sits tie.0.member) in (
          both_true (is_member w.seat) (is_in w e) (subst (λ (z : Seat). is_member z ≡ true) (sym sits) refl)
              (both_true (nat_le 1 e) ((state_of w.seat).session == e) (some_epoch e some) (is_itself (state_of w.seat).session e own)),
          is_itself e w.worker.epoch (sym session ∙ sym kept.0),
        )

order_so : (cells : ℕ) (c : Cluster) (s : Scene) (x : Moment) (number : ℕ) (y : Packet) (w : UpNode) (rest : List Moment) (m : Message) (now : ℕ) (ends : Outcome) (l : Letter) (k : ℕ) → Known c s → packet_of s.links.packets number ≡ Some y
    → s.nodes.node y.to ≡ Up w → letter_of number s.moments ≡ Some l → l.name ≡ name.Order k → whole_of y.bytes ≡ Some m → IsAmong y.from m.body s.nodes.sent
    → AreSent cells (delivered number y.from y.to ∷ x ∷ s.moments) y.to (given_by c y.to now ends (input.Packet y.from m) s.nodes) rest
    → IsLeftAfter cells (onto (x ∷ s.moments) (delivered number y.from y.to ∷ rest)) → is_fellow y.to l s.moments ≡ true → sends_or_falls y.to l.from (name.Done k) (delivered number y.from y.to ∷ rest) ≡ true
order_so cells c s x number y w rest m now ends l k known at at_node letter called reads among are left fellow =
    let b : Stage c s = known.stage in
    let p : Posted s.moments s.links.next y = found_posted s.moments s.links number y b.flying at in
    let same : p.letter ≡ l = same_some p.letter l (sym p.sent_so ∙ (ap (λ j. letter_of j s.moments) (number_found s.links number y at) ∙ letter)) in
    let ord : IsOrder m.body k = order_named m.body k (sym (p.says m reads).0 ∙ (ap (λ (z : Letter). z.name) same ∙ called)) in
    let o : Order = ord.order in
    let line : OfLine SaysSo l = line_of SaysSo number s.moments l known.kept.says letter in
    let theirs : member_of l.from l.before ≡ Some o.epoch = subst (BodySo l.before l.from) ord.is (line.line_so m (ap whole_of (letter_bytes s number y l known.bytes at letter) ∙ reads)) in
    let ours : member_of y.to s.moments ≡ Some o.epoch = same_epoch (member_of y.to s.moments) o.epoch (subst (λ z. are_same (member_of y.to s.moments) z ≡ true) theirs fellow) in
    let seated : membership_in w.seat ≡ Some o.epoch = sym (subst (λ z. IsSeated s.moments y.to z) at_node (known.seated y.to)) ∙ ours in
    let inside : ((is_member w.seat && is_in w o.epoch) ≡ true) × ((o.epoch == w.worker.epoch) ≡ true) =
    in_membership c b.machine y.to o.epoch (s.nodes.disk y.to).kept w b.holds (subst (NodeTied c b.machine y.to (s.nodes.disk y.to).kept) at_node (b.stands y.to).tied) (subst NodeOf at_node (known.kept.nodes y.to)) seated in
    let native : is_foreign c y.to w (body.Order o) ≡ false = ap not (name_good o.resource (fits_among y.from o s.nodes.sent (subst (λ z. IsAmong y.from z s.nodes.sent) ord.is among) b.fits.sent)) in
    let g : Given y.to y.from o (given_by c y.to now ends (input.Packet y.from m) s.nodes) = order_given c s.nodes y.to y.from now ends o w m at_node ord.is native inside.0 inside.1 in
    or_later (sends y.to l.from (name.Done k) (delivered number y.from y.to) || is_down_of y.to (delivered number y.from y.to)) (sends_or_falls y.to l.from (name.Done k) rest)
    (subst (λ f. sends_or_falls y.to f (name.Done k) rest ≡ true) (sym p.sender ∙ ap (λ (z : Letter). z.from) same)
    (subst (λ j. sends_or_falls y.to y.from (name.Done j) rest ≡ true) ord.number (are y.from (body.Done o.epoch o.number g.outcome) g.behind g.short left)))

-- what is owed to a fellow
pub answered : (b other : Bool) → (b ≡ true → other ≡ true) → (not b || other) ≡ true
answered true other so = so refl
answered false other so = refl

-- an Order that is delivered
order_comes : (S : Setting) (cells : ℕ) (c : Cluster) → OfWhatComes (OrderReplies S) cells c (Known c)
order_comes S cells c = record {
  known = λ s known. known;
  none = else_replies S;
  strays = λ before x number a b no l k letter called. absurd (no l letter);
  comes = λ s x number y w rest m now ends known at at_node reads among are left l k letter called.
      answered (is_fellow y.to l s.moments) (sends_or_falls y.to l.from (name.Done k) (delivered number y.from y.to ∷ rest))
      (λ fellow. order_so cells c s x number y w rest m now ends l k known at at_node letter called reads among are left fellow);
}

pub orders_are_answered_in_each_run : OrdersAreAnsweredInEachRun
orders_are_answered_in_each_run h cells hs S few small same may shaped =
    let c : Cluster = first_cluster h in
    let size : IsSmall h = record { few = few; small = small } in
    events_so (WhereLeft (OrderReplies S) cells) (HasDone S) (where_left (OrderReplies S) S cells same) [] (all_happened c (first_scene h cells) hs).moments
    (each_of_run (WhereLeft (OrderReplies S) cells) h cells hs size (Known c) (opens (OrderReplies S) cells c (Known c) (order_comes S cells c)) (known_of h cells size) may shaped)
