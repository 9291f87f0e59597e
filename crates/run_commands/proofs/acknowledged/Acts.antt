-- Each act of a node keeps what is known of its requests.
use Rattle.std.specs.Prelude.{ℕ, ◌≡◌, ◌≤◌, ◌<◌, ◌==◌, true, false, List, [], ◌∷◌, Option, None, Some, Ok, is_some, option_map}
use Rattle.std.specs.List.{AllByRecursion}
use Rattle.std.proofs.Common.{refl, sym, ap, subst, ◌∙◌, arith, inl, inr}
use Rattle.cl_base.specs.Limits.{most_nodes}
use Rattle.cl_base.specs.Numbers.{numbers_to}
use Rattle.cl_base.specs.Sets.{has}
use Rattle.cmm_attempt.proofs.Basics.{if_either, none_some, same_some}
use Rattle.device_queue.specs.Queue.{after_seize}
use Rattle.heartbeats.specs.Views.{receivers_of}
use Rattle.pgr_device.specs.declared.command.PrAnswer.TheVariants as given
use Rattle.proposals.specs.Proposing.{less, prepared_by, ticked}
use Rattle.proposals.specs.State.{State}
use Rattle.proposals.specs.declared.arrived.Arrived.{Arrived}
use Rattle.proposals.specs.declared.arrived.Proposed.{Proposed}
use Rattle.request_queue.specs.Queue as queue
use Rattle.request_queue.specs.Queue.{Queue}
use Rattle.request_queue.specs.declared.request.Request.{Request}
use Rattle.seize.specs.Answers.{Answer}
use Rattle.seize.specs.Seizing as seizing
use Rattle.wire.specs.declared.message.Body.{Body}
use Rattle.wire.specs.declared.message.Body.TheVariants as body
use Rattle.history.specs.Moment.{Moment}
use Rattle.history.specs.Setting.{Setting, coordinator}
use Rattle.node_model.specs.Configurations.{configured_at}
use Rattle.node_model.specs.Presidents.{sent_to}
use Rattle.node_model.specs.Seats.{coordinator_of, record_of, session_of}
use Rattle.node_model.specs.Ticks.{heartbeat_of, heartbeats_to, later}
use Rattle.node_model.specs.Updates.{later_presidency, request_again, request_again_by, request_again_to}
use Rattle.node_model.specs.declared.cluster.Cluster.{Cluster}
use Rattle.node_model.specs.declared.input.Input.{Input}
use Rattle.node_model.specs.declared.input.Input.TheVariants.{Packet}
use Rattle.node_model.specs.declared.node.UpNode.{UpNode}
use Rattle.node_model.specs.declared.output.Output.{Output}
use Rattle.node_model.specs.declared.output.Output.TheVariants.{Sends, Tells}
use Rattle.node_model.specs.declared.presidency.Presidency.{Presidency}
use Rattle.node_model.specs.declared.seat.Seat.{Seat}
use Rattle.node_model.specs.declared.seat.Seat.TheVariants.{Forming, Member}
use Rattle.refinement.specs.Doings.{Act, acted, said, write_lines}
use Rattle.refinement.specs.Doings.Act.{Accepts, Dates, Ends, Gives, Goes_on, Hears, Makes, Minds, Notes, Queues, Spreads, Stores, Takes, Ticks, Waits, Works, Writes}
use Rattle.refinement.specs.Guards.{MayAct}
use Rattle.refinement.specs.Ties.{Delivered}
use Rattle.run_history.proofs.Lists.{all_and, both, mapped}
use Rattle.run_history.proofs.Small.{IsSmallAct}
use Rattle.run_history.specs.Scenes.{Scene, passing}
use Rattle.run_messages.specs.Laws.{membership_in}
use Rattle.run_messages.specs.Outputs.{AreGood}
use Rattle.run_commands.specs.carried.Guards.{ActAsk, BodyAsk, Command, MayMove, Move, OutputAsk, QueueGoes, pair_of, waiting_after}
use Rattle.run_commands.specs.carried.Guards.Move.{Answers, Joins, Same}
use Rattle.run_commands.proofs.carried.Acts.{Before, NoMakes}
use Rattle.run_commands.proofs.carried.Causes.{PresidentAt}
use Rattle.run_commands.proofs.carried.Doings.{plain_act}
use Rattle.run_commands.proofs.carried.Plain.{ArePlain}
use Rattle.run_commands.proofs.carried.Queues.{Queued}
use Rattle.run_commands.specs.acknowledged.Guards.{ActHand, BodyHand, CauseOf, OutputHand, PresidencyGoes}
use Rattle.run_commands.specs.acknowledged.Steps.{Backed, Frame, FrameOf, Hand, HandIn, IsQuiet, ToldSo, Unused, UpSo}
use Rattle.run_commands.proofs.acknowledged.Asides.{of_member}
use Rattle.run_commands.proofs.acknowledged.Frames.{backed_stays, hand_stays, unused_of}
use Rattle.run_commands.proofs.acknowledged.Moves.{Cause, cause_stays, hand_goes}
use Rattle.run_commands.proofs.acknowledged.Saying.{AllSay, OutSays, SaysRequest, passing_own, passing_told}
use Rattle.run_commands.proofs.acknowledged.Waiting.{ReadsUpdates, oldest_goes, oldest_says, own_backed}

-- a packet comes from a node; the Request in it is backed, in the membership in which the node took it
abbrev pub CameHand : Setting → Cluster → ℕ → Option ℕ → Input → List Moment → Type 0
CameHand S c n v (Packet from m) ms = ((1 ≤ from) × (from ≤ 32)) × ((e q : ℕ) (text : List ℕ) → m.body ≡ body.Request e q text → v ≡ Some e → coordinator e ≡ n → Backed S c e ms from q text)
CameHand S c n v _ ms = Unit {0}

pub came_frame : {w : Option ℕ} {last : ℕ} (S : Setting) (c : Cluster) (n : ℕ) (v : Option ℕ) (i : Input) (before after : List Moment) → FrameOf S n w last before after → CameHand S c n v i before → CameHand S c n v i after
came_frame S c n v (Packet from m) before after f h = (h.0, λ e q text is at own. backed_stays S c n e before after from q text f (h.1 e q text is at own))
came_frame S c n v _ before after f h = tt

-- what is known of the node between two small steps
pub record Holding (S : Setting) (c : Cluster) (n : ℕ) (i : Input) (v : Option ℕ) (promised : ℕ) (x : UpNode) (ms : List Moment) : Type 0 where
  pub up : UpSo S c n ms promised x
  pub told : ToldSo S c ms
  pub came : CameHand S c n v i ms

-- ---- the node seen so

pub up_view : (S : Setting) (c : Cluster) (n : ℕ) (ms : List Moment) (promised : ℕ) (x y : UpNode) → membership_in y.seat ≡ membership_in x.seat → session_of y ≡ session_of x → y.requests.asked ≡ x.requests.asked
    → AllByRecursion (IsQuiet c) y.requests.waiting → HandIn S c ms (session_of x) y.presidency → UpSo S c n ms promised x → UpSo S c n ms promised y
up_view S c n ms promised x y seat session asked quiet hand h = record {
  within = h.within;
  forming = λ none some. subst (λ e. Unused n e ms) (sym session) (h.forming (sym seat ∙ none) (subst (λ e. 0 < e) session some));
  member = λ e q is above. h.member e q (sym seat ∙ is) (subst (λ j. j < q) asked above);
  requested = λ e q is above. h.requested e q (sym seat ∙ is) (subst (λ j. j < q) asked above);
  quiet = quiet;
  hand = subst (λ e. HandIn S c ms e y.presidency) (sym session) hand;
}

same_node : (S : Setting) (c : Cluster) (n : ℕ) (ms : List Moment) (promised : ℕ) (x y : UpNode) → y.seat ≡ x.seat → y.requests ≡ x.requests → y.presidency ≡ x.presidency → UpSo S c n ms promised x
    → UpSo S c n ms promised y
same_node S c n ms promised x y seat requests presidency h =
    up_view S c n ms promised x y (ap membership_in seat) (ap (λ (z : Seat). session_of (record x { seat = z })) seat) (ap (λ (z : Queue). z.asked) requests)
    (subst (λ (z : Queue). AllByRecursion (IsQuiet c) z.waiting) (sym requests) h.quiet) (subst (λ o. HandIn S c ms (session_of x) o) (sym presidency) h.hand) h

-- what may be sent leaves what is known
record Allows (promised : ℕ) (x : UpNode) (v : Option ℕ) (last : ℕ) : Type 0 where
  within : (e : ℕ) → promised < e → v ≡ Some e → ⊥
  forming : membership_in x.seat ≡ None → v ≡ None
  low : (e : ℕ) → v ≡ Some e → last ≤ x.requests.asked

low_less : (a b q : ℕ) → a ≤ b → b < q → a < q
low_less a b q h k = omega (arith, h, k)

up_of : {v : Option ℕ} {last : ℕ} (S : Setting) (c : Cluster) (n promised : ℕ) (x : UpNode) (before after : List Moment) → (is_some x.presidency ≡ true → PresidentAt x n) → Allows promised x v last
    → FrameOf S n v last before after → UpSo S c n before promised x → UpSo S c n after promised x
up_of {v = v} {last = last} S c n promised x before after president may f h = record {
  within = λ e above. unused_of S n e before after (may.within e above) f (h.within e above);
  forming = λ none some. unused_of S n (session_of x) before after (λ is. none_some (session_of x) (sym (may.forming none) ∙ is)) f (h.forming none some);
  member = λ e q is above. f.asked q e ∙ h.member e q is above;
  requested = λ e q is above. f.requested q e (λ so. low_less last x.requests.asked q (may.low e so) above) ∙ h.requested e q is above;
  quiet = h.quiet;
  hand = hand_stays S c n (session_of x) before after x.presidency f (λ so. let p : PresidentAt x n = president so in ap coordinator p.session ∙ p.own) h.hand;
}

pub up_stays : (S : Setting) (c : Cluster) (n promised : ℕ) (x : UpNode) (before after : List Moment) → (is_some x.presidency ≡ true → PresidentAt x n) → Frame S n before after → UpSo S c n before promised x
    → UpSo S c n after promised x
up_stays S c n promised x before after president f h =
    up_of S c n promised x before after president (record { within = λ e above is. none_some e is; forming = λ none. refl; low = λ e is. absurd (none_some e is) }) f h

-- ---- what is said

seat_session : (x : UpNode) (e f : ℕ) → e ≡ session_of x → membership_in x.seat ≡ Some f → f ≡ e
seat_session x e f is at = by x.seat refl at ∙ sym is
  where
    by : (seat : Seat) → x.seat ≡ seat → membership_in seat ≡ Some f → f ≡ session_of x
    by (Forming s) same e = cc
    by (Member s) same e = sym (same_some s.session f e) ∙ sym (ap (λ (z : Seat). session_of (record x { seat = z })) same)

body_says : (S : Setting) (c : Cluster) (n : ℕ) (x : UpNode) (ms : List Moment) (b : Body) → ReadsUpdates c S → Queued S n ms (membership_in x.seat) x.requests → AllByRecursion (IsQuiet c) x.requests.waiting
    → BodyAsk x b → BodyHand x b → SaysRequest S c n (membership_in x.seat) x.requests.asked ms b
body_says S c n x ms (body.Request e q text) reads queued quiet ask hand =
    let goes : (membership_in x.seat ≡ Some e) × (q ≤ x.requests.asked) = oldest_goes S n e q text ms (membership_in x.seat) x.requests (λ f at. seat_session x e f hand at) queued ask in
    (λ u read. oldest_says c S n e q text ms (membership_in x.seat) x.requests u reads (λ f at. seat_session x e f hand at) queued quiet ask read, goes.0, goes.1)
body_says S c n x ms _ reads queued quiet ask hand = tt

outputs_say : (S : Setting) (c : Cluster) (n : ℕ) (i : Input) (o : Option Command) (h : Option ℕ) (x : UpNode) (ms : List Moment) (os : List Output) → ReadsUpdates c S → Queued S n ms (membership_in x.seat) x.requests
    → AllByRecursion (IsQuiet c) x.requests.waiting → AllByRecursion (OutputAsk n i o h x) os → AllByRecursion (OutputHand x) os → AllSay S c n (membership_in x.seat) x.requests.asked ms os
outputs_say S c n i o h x ms [] reads queued quiet ask hand = tt
outputs_say S c n i o h x ms (Tells e ∷ os) reads queued quiet ask hand = (tt, outputs_say S c n i o h x ms os reads queued quiet ask.1 hand.1)
outputs_say S c n i o h x ms (Sends to b ∷ os) reads queued quiet ask hand =
    (body_says S c n x ms b reads queued quiet ask.0 hand.0, outputs_say S c n i o h x ms os reads queued quiet ask.1 hand.1)

spread_say : (S : Setting) (c : Cluster) (n : ℕ) (v : Option ℕ) (last : ℕ) (ms : List Moment) (receivers : ℕ) (b : Body) → SaysRequest S c n v last ms b → AllSay S c n v last ms (sent_to receivers b)
unfolding sent_to
spread_say S c n v last ms receivers b h = mapped (OutSays S c n v last ms) (λ k. Sends k b) (numbers_to receivers most_nodes) (λ k. h)

beats_say : (S : Setting) (c : Cluster) (n : ℕ) (v : Option ℕ) (last : ℕ) (ms : List Moment) (receivers : ℕ) (x : UpNode) → AllSay S c n v last ms (heartbeats_to x receivers)
unfolding heartbeats_to
beats_say S c n v last ms receivers x = mapped (OutSays S c n v last ms) (λ k. Sends k (heartbeat_of x)) (numbers_to receivers most_nodes) (λ k. tt)

again_to_say : (S : Setting) (c : Cluster) (n : ℕ) (x : UpNode) (ms : List Moment) (r : Option Request) (to : Option ℕ) → ReadsUpdates c S → Queued S n ms (membership_in x.seat) x.requests
    → AllByRecursion (IsQuiet c) x.requests.waiting → queue.oldest x.requests ≡ r → AllSay S c n (membership_in x.seat) x.requests.asked ms (request_again_to x r to)
again_to_say S c n x ms (Some r) (Some president) reads queued quiet is =
    (body_says S c n x ms (body.Request (session_of x) r.number r.text) reads queued quiet (ap (λ z. option_map pair_of z) is) refl, tt)
again_to_say S c n x ms None president reads queued quiet is = tt
again_to_say S c n x ms (Some r) None reads queued quiet is = tt

again_say : (S : Setting) (c : Cluster) (n : ℕ) (x : UpNode) (ms : List Moment) (p : Option Presidency) → ReadsUpdates c S → Queued S n ms (membership_in x.seat) x.requests → AllByRecursion (IsQuiet c) x.requests.waiting
    → AllSay S c n (membership_in x.seat) x.requests.asked ms (request_again_by x p)
again_say S c n x ms None reads queued quiet =
    if_either (AllSay S c n (membership_in x.seat) x.requests.asked ms) (queue.goes_again x.requests) (request_again_to x (queue.oldest x.requests) (coordinator_of x)) []
    (again_to_say S c n x ms (queue.oldest x.requests) (coordinator_of x) reads queued quiet refl) tt
again_say S c n x ms (Some p) reads queued quiet = tt

write_say : (S : Setting) (c : Cluster) (n : ℕ) (v : Option ℕ) (last : ℕ) (ms : List Moment) (x : UpNode) (d value : ℕ) (a : Answer) → AllSay S c n v last ms (write_lines n x d value a)
write_say S c n v last ms x d value (Ok given.Good) = (tt, tt)
write_say S c n v last ms x d value (Ok given.Conflict) = (tt, tt)
write_say S c n v last ms x d value _ = (tt, tt)

act_say : (S : Setting) (c : Cluster) (n : ℕ) (i : Input) (v : Option ℕ) (o : Option Command) (h : Option ℕ) (x : UpNode) (a : Act) (ms : List Moment) → ReadsUpdates c S → NoMakes a → ActAsk n i o h x a
    → ActHand c i n v x a → Queued S n ms (membership_in x.seat) x.requests → AllByRecursion (IsQuiet c) x.requests.waiting → AllSay S c n (membership_in x.seat) x.requests.asked ms (said c n x a)
act_say S c n i v o h x (Hears from b) ms reads nm ask hand queued quiet = tt
act_say S c n i v o h x Ticks ms reads nm ask hand queued quiet = (
  tt,
  both (OutSays S c n (membership_in x.seat) x.requests.asked ms) (heartbeats_to (later c x) (receivers_of (later c x).beats (configured_at c (later c x)))) (request_again x)
      (beats_say S c n (membership_in x.seat) x.requests.asked ms (receivers_of (later c x).beats (configured_at c (later c x))) (later c x)) (again_say S c n x ms x.presidency reads queued quiet),
)
act_say S c n i v o h x Waits ms reads nm ask hand queued quiet = tt
act_say S c n i v o h x (Goes_on a j) ms reads nm ask hand queued quiet = tt
act_say S c n i v o h x (Ends a e) ms reads nm ask hand queued quiet = (tt, tt)
act_say S c n i v o h x (Queues a d kind) ms reads nm ask hand queued quiet = tt
act_say S c n i v o h x (Accepts kind e members d) ms reads nm ask hand queued quiet = tt
act_say S c n i v o h x (Takes at command a) ms reads nm ask hand queued quiet = (tt, tt)
act_say S c n i v o h x (Stores d value a) ms reads nm ask hand queued quiet = (tt, write_say S c n (membership_in x.seat) x.requests.asked ms x d value a)
act_say S c n i v o h x (Writes to b) ms reads nm ask hand queued quiet = (body_says S c n x ms b reads queued quiet ask hand, tt)
act_say S c n i v o h x (Makes change) ms reads nm ask hand queued quiet = absurd nm
act_say S c n i v o h x (Gives os) ms reads nm ask hand queued quiet = outputs_say S c n i o h x ms os reads queued quiet ask hand
act_say S c n i v o h x (Spreads receivers b) ms reads nm ask hand queued quiet = spread_say S c n (membership_in x.seat) x.requests.asked ms receivers b (body_says S c n x ms b reads queued quiet ask hand)
act_say S c n i v o h x (Minds q p) ms reads nm ask hand queued quiet = tt
act_say S c n i v o h x (Notes from place p) ms reads nm ask hand queued quiet = tt
act_say S c n i v o h x (Dates now) ms reads nm ask hand queued quiet = tt
act_say S c n i v o h x (Works w) ms reads nm ask hand queued quiet = tt

-- ---- the hand

-- each cause is backed, at a president
pub cause_backed : (S : Setting) (c : Cluster) (n : ℕ) (i : Input) (v : Option ℕ) (x : UpNode) (ms : List Moment) → ReadsUpdates c S → (1 ≤ n) × (n ≤ 32) → ToldSo S c ms → CameHand S c n v i ms → PresidentAt x n
    → Queued S n ms (membership_in x.seat) x.requests → AllByRecursion (IsQuiet c) x.requests.waiting → (a : Arrived) → CauseOf i n v x a → Cause S c (session_of x) ms a
cause_backed S c n i v x ms reads range told came p queued quiet a (inl k) =
    let here : _ = of_member x a.from k.epoch k.here in
    let it : CameHand S c n v (Packet a.from k.message) ms = subst (λ (z : Input). CameHand S c n v z ms) k.input came in
    record {
      backed = subst (λ e. Backed S c e ms a.from a.number a.text) (sym here.1) (it.1 k.epoch a.number a.text k.says k.member (ap coordinator (sym here.1 ∙ p.session) ∙ p.own));
      range = it.0;
    }
cause_backed S c n i v x ms reads range told came p queued quiet a (inr k) = record {
  backed = subst (λ (z : Arrived). Backed S c (session_of x) ms z.from z.number z.text) (sym k.is)
      (own_backed c S n (session_of x) ms (membership_in x.seat) x.requests k.request reads told.once (ap coordinator p.session ∙ p.own) (p.member ∙ ap (λ e. Some e) (sym p.session)) queued quiet k.waits);
  range = subst (λ (z : Arrived). (1 ≤ z.from) × (z.from ≤ 32)) (sym k.is) range;
}

same_state : (S : Setting) (c : Cluster) (ms : List Moment) (e : ℕ) (s t : State) → t.arrived ≡ s.arrived → t.answers ≡ s.answers → is_some t.proposed ≡ is_some s.proposed → Hand S c ms e s → Hand S c ms e t
same_state S c ms e s t arrived answers proposed h = hand_goes S c e ms (λ a. ⊥) s t (λ a no. absurd no) (inl (inl (arrived, answers, proposed))) h

less_same : (o : Option Proposed) (n place : ℕ) → is_some (less o n place) ≡ is_some o
less_same None n place = refl
less_same (Some p) n place = if_either (λ (z : Option Proposed). is_some z ≡ true) (p.place == place) _ _ refl refl

later_hand : (S : Setting) (c : Cluster) (ms : List Moment) (e : ℕ) (o : Option Presidency) → HandIn S c ms e o → HandIn S c ms e (later_presidency o)
later_hand S c ms e None h = tt
later_hand S c ms e (Some p) h = same_state S c ms e p.proposals (ticked p.proposals) refl refl refl h

minds_hand : (S : Setting) (c : Cluster) (ms : List Moment) (e : ℕ) (C : Arrived → Type 0) (o p : Option Presidency) → (is_some o ≡ true → (a : Arrived) → C a → Cause S c e ms a) → PresidencyGoes C o p → HandIn S c ms e o
    → HandIn S c ms e p
minds_hand S c ms e C None None cause goes h = tt
minds_hand S c ms e C (Some p) (Some q) cause goes h = hand_goes S c e ms C p.proposals q.proposals (cause refl) goes h
minds_hand S c ms e C None (Some q) cause goes h = absurd goes
minds_hand S c ms e C (Some p) None cause goes h = absurd goes

-- ---- the queue

left_quiet : (c : Cluster) (q : Queue) (k : ℕ) → AllByRecursion (IsQuiet c) q.waiting → AllByRecursion (IsQuiet c) (queue.answered q k).waiting
left_quiet c q k h = by q.waiting h h
  where
    by : (rs : List Request) → AllByRecursion (IsQuiet c) rs → AllByRecursion (IsQuiet c) q.waiting → AllByRecursion (IsQuiet c) (queue.left_of q rs k).waiting
    by [] all whole = whole
    by (r ∷ rs) all whole = if_either (λ (z : Queue). AllByRecursion (IsQuiet c) z.waiting) (r.number == k) (record q { waiting = rs; age = 0 }) q all.1 whole

move_quiet : (c : Cluster) (o : Option Command) (x : UpNode) (m : Move) → MayMove o x m → AllByRecursion (IsQuiet c) x.requests.waiting → AllByRecursion (IsQuiet c) (waiting_after m x)
move_quiet c o x Same may h = h
move_quiet c o x (Answers k) may h = left_quiet c x.requests k h
move_quiet c o x (Joins r) may h = all_and (IsQuiet c) x.requests.waiting r h (λ untold. absurd (no (sym may.2 ∙ untold)))
  where
    no : true ≡ false → ⊥
    no e = cc

pub queue_quiet : (c : Cluster) (o : Option Command) (x : UpNode) (q : Queue) → QueueGoes o x q → AllByRecursion (IsQuiet c) x.requests.waiting → AllByRecursion (IsQuiet c) q.waiting
queue_quiet c o x q goes h = subst (AllByRecursion (IsQuiet c)) (sym goes.waiting) (move_quiet c o x goes.move goes.may h)

-- ---- each act

up_acts : (S : Setting) (c : Cluster) (n : ℕ) (told : Delivered) (i : Input) (v : Option ℕ) (o : Option Command) (h : Option ℕ) (promised : ℕ) (x : UpNode) (a : Act) (ms : List Moment) → NoMakes a → MayAct c n told x a
    → ActAsk n i o h x a → ActHand c i n v x a → (is_some x.presidency ≡ true → (b : Arrived) → CauseOf i n v x b → Cause S c (session_of x) ms b) → UpSo S c n ms promised x → UpSo S c n ms promised (acted c n x a)
up_acts S c n told i v o h promised x (Minds q p) ms nm may ask hand cause held_so =
    up_view S c n ms promised x (acted c n x (Minds q p)) refl refl ask.asked (queue_quiet c o x q ask held_so.quiet) (minds_hand S c ms (session_of x) (CauseOf i n v x) x.presidency p cause hand held_so.hand) held_so
up_acts S c n told i v o h promised x (Notes from place p) ms nm may ask hand cause held_so =
    up_view S c n ms promised x (acted c n x (Notes from place p)) refl refl refl held_so.quiet
    (same_state S c ms (session_of x) p.proposals (prepared_by p.proposals from place) refl refl (less_same p.proposals.proposed from place) (subst (λ z. HandIn S c ms (session_of x) z) may.0 held_so.hand)) held_so
up_acts S c n told i v o h promised x Ticks ms nm may ask hand cause held_so =
    up_view S c n ms promised x (acted c n x Ticks) refl refl refl held_so.quiet (later_hand S c ms (session_of x) x.presidency held_so.hand) held_so
up_acts S c n told i v o h promised x (Queues a d kind) ms nm may ask hand cause held_so =
    if_either (λ (z : UpNode). UpSo S c n ms promised z) (has a.plan.members n)
    (record x { tasks = after_seize x.tasks d (seizing.begun kind a.plan.epoch a.plan.members n c.id (has (record_of x).valid d)) }) x
    (same_node S c n ms promised x (record x { tasks = after_seize x.tasks d (seizing.begun kind a.plan.epoch a.plan.members n c.id (has (record_of x).valid d)) }) refl refl refl held_so) held_so
up_acts S c n told i v o h promised x (Makes change) ms nm may ask hand cause held_so = absurd nm
up_acts S c n told i v o h promised x (Hears from b) ms nm may ask hand cause held_so = same_node S c n ms promised x (acted c n x (Hears from b)) refl refl refl held_so
up_acts S c n told i v o h promised x Waits ms nm may ask hand cause held_so = same_node S c n ms promised x (acted c n x Waits) refl refl refl held_so
up_acts S c n told i v o h promised x (Goes_on a j) ms nm may ask hand cause held_so = same_node S c n ms promised x (acted c n x (Goes_on a j)) refl refl refl held_so
up_acts S c n told i v o h promised x (Ends a e) ms nm may ask hand cause held_so = same_node S c n ms promised x (acted c n x (Ends a e)) refl refl refl held_so
up_acts S c n told i v o h promised x (Accepts kind e members d) ms nm may ask hand cause held_so = same_node S c n ms promised x (acted c n x (Accepts kind e members d)) refl refl refl held_so
up_acts S c n told i v o h promised x (Takes at command a) ms nm may ask hand cause held_so = same_node S c n ms promised x (acted c n x (Takes at command a)) refl refl refl held_so
up_acts S c n told i v o h promised x (Stores d value a) ms nm may ask hand cause held_so = held_so
up_acts S c n told i v o h promised x (Writes to b) ms nm may ask hand cause held_so = held_so
up_acts S c n told i v o h promised x (Gives os) ms nm may ask hand cause held_so = held_so
up_acts S c n told i v o h promised x (Spreads receivers b) ms nm may ask hand cause held_so = held_so
up_acts S c n told i v o h promised x (Dates now) ms nm may ask hand cause held_so = same_node S c n ms promised x (acted c n x (Dates now)) refl refl refl held_so
up_acts S c n told i v o h promised x (Works w) ms nm may ask hand cause held_so = same_node S c n ms promised x (acted c n x (Works w)) refl refl refl held_so

no_less : (k : ℕ) → k ≤ k
no_less k = omega arith

pub act_holds : (S : Setting) (c : Cluster) (n : ℕ) (told : Delivered) (i : Input) (v : Option ℕ) (o : Option Command) (h : Option ℕ) (promised : ℕ) (x : UpNode) (a : Act) (s : Scene) → ReadsUpdates c S → (1 ≤ n) × (n ≤ 32)
    → NoMakes a → MayAct c n told x a → IsSmallAct a → ActAsk n i o h x a → ActHand c i n v x a → AreGood n (said c n x a) → ((e : ℕ) → promised < e → membership_in x.seat ≡ Some e → ⊥) → Before S n i o h x s
    → Holding S c n i v promised x s.moments → Holding S c n i v promised (acted c n x a) (passing n (said c n x a) s).moments
act_holds S c n told i v o h promised x a s reads range nm may small ask hand good within b k =
    let os : List Output = said c n x a in
    let ms : List Moment = (passing n os s).moments in
    let plain : ArePlain os = plain_act c n i o h x a nm small ask in
    let say : AllSay S c n (membership_in x.seat) x.requests.asked s.moments os = act_say S c n i v o h x a s.moments reads nm ask hand b.queued k.up.quiet in
    let f : FrameOf S n (membership_in x.seat) x.requests.asked s.moments ms = passing_own S c n (membership_in x.seat) x.requests.asked os s good plain say in
    record {
      up = up_acts S c n told i v o h promised x a ms nm may ask hand
          (λ so z cause. cause_stays S c n (session_of x) s.moments ms z f (cause_backed S c n i v x s.moments reads range k.told k.came (b.president so) b.queued k.up.quiet z cause))
          (up_of S c n promised x s.moments ms b.president (record { within = within; forming = λ none. none; low = λ e is. no_less x.requests.asked }) f k.up);
      told = passing_told S c n (membership_in x.seat) x.requests.asked os s good plain say k.told;
      came = came_frame S c n v i s.moments ms f k.came;
    }
