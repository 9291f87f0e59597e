-- Each act of a node that is up leaves its requests as its lines tell, and its messages carry the words that they are to carry.
use Rattle.std.specs.Prelude.{ℕ, ◌≡◌, true, List, [], ◌∷◌, Option, None, Some, IfSome, Ok, is_some, option_map}
use Rattle.std.specs.List.{AllByRecursion}
use Rattle.std.proofs.Common.{refl, sym, ap, subst, ◌∙◌}
use Rattle.cl_base.specs.Limits.{most_nodes}
use Rattle.cl_base.specs.Numbers.{numbers_to}
use Rattle.cl_base.specs.Sets.{has}
use Rattle.cmm_attempt.proofs.Basics.{if_either}
use Rattle.device_queue.specs.Queue.{after_seize}
use Rattle.request_queue.specs.Queue as queue
use Rattle.request_queue.specs.declared.request.Request.{Request}
use Rattle.pgr_device.specs.declared.command.PrAnswer.TheVariants as given
use Rattle.seize.specs.Answers.{Answer}
use Rattle.seize.specs.Seizing as seizing
use Rattle.status_report.specs.declared.command_entry.CommandEntry.TheVariants as command
use Rattle.status_report.specs.declared.entry.Entry.{Entry}
use Rattle.status_report.specs.declared.entry.Entry.TheVariants as entry
use Rattle.wire.specs.declared.message.Body.{Body}
use Rattle.wire.specs.declared.message.Body.TheVariants as body
use Rattle.history.specs.Contents.{proposed_at}
use Rattle.history.specs.Member.{member_of}
use Rattle.history.specs.Moment.{Moment}
use Rattle.history.specs.Setting.{Setting, coordinator}
use Rattle.node_model.specs.Presidents.{last_place, sent_to}
use Rattle.node_model.specs.Seats.{coordinator_of, record_of, session_of}
use Rattle.heartbeats.specs.Views.{receivers_of}
use Rattle.node_model.specs.Configurations.{configured_at}
use Rattle.node_model.specs.Ticks.{heartbeat_of, heartbeats_to, later, ticked_output}
use Rattle.node_model.specs.Updates.{later_presidency, request_again, request_again_by, request_again_to}
use Rattle.node_model.specs.declared.cluster.Cluster.{Cluster}
use Rattle.node_model.specs.declared.input.Input.{Input}
use Rattle.node_model.specs.declared.node.UpNode.{UpNode}
use Rattle.node_model.specs.declared.output.Output.{Output}
use Rattle.node_model.specs.declared.output.Output.TheVariants.{Sends, Tells}
use Rattle.node_model.specs.declared.presidency.Presidency.{Presidency}
use Rattle.refinement.specs.Doings.{Act, acted, said, write_lines}
use Rattle.refinement.specs.Doings.Act.{Accepts, Dates, Ends, Gives, Goes_on, Hears, Makes, Minds, Notes, Queues, Spreads, Stores, Takes, Ticks, Waits, Works, Writes}
use Rattle.refinement.specs.Guards.{MayAct, MayWrite, SameProposed, TellNothing, TellsNothing}
use Rattle.refinement.specs.Ties.{Delivered}
use Rattle.run_history.proofs.Lists.{both, mapped}
use Rattle.run_history.proofs.Small.{IsSmallAct}
use Rattle.run_history.specs.Scenes.{Scene, passing}
use Rattle.run_messages.specs.Laws.{membership_in}
use Rattle.run_messages.specs.Outputs.{AreGood, AreStill, NoPacket}
use Rattle.run_messages.proofs.Lines.{evens_still}
use Rattle.run_messages.proofs.Seats.{ended_even, given_even, spread_even, ticked_still, write_even, written_even}
use Rattle.run_commands.specs.carried.Guards.{ActAsk, BodyAsk, Command, OutputAsk, pair_of}
use Rattle.run_commands.specs.carried.Steps.{CarriedSo, HandSo, PendingSo}
use Rattle.run_commands.proofs.carried.Carried.{AllFine, LineFine, OutFine, SaysWords, passing_carried}
use Rattle.run_commands.proofs.carried.Causes.{CameSo, PresidentAt, ReadsAnswers, cause_fine}
use Rattle.run_commands.proofs.carried.Lines.{SameAsk, SameAsked, passing_ask}
use Rattle.run_commands.proofs.carried.Plain.{ArePlain, ended_plain, given_plain, plains_apart, spread_plain, ticked_plain, write_plain}
use Rattle.run_commands.proofs.carried.Queues.{NowSo, Queued, now_stays, oldest_says, queue_goes, queued_same, queued_stays}

-- the node after these outputs, which say nothing of what others asked
pub record Acted (S : Setting) (n : ℕ) (o : Option Command) (h : Option ℕ) (last : ℕ) (y : UpNode) (os : List Output) (s : Scene) : Type 0 where
  pub queued : Queued S n (passing n os s).moments (membership_in y.seat) y.requests
  pub now : IfSome o (NowSo S n (passing n os s).moments y.requests.asked)
  pub hand : HandSo n (passing n os s).moments y h
  pub pending : PendingSo (passing n os s).moments y
  pub carried : CarriedSo S (passing n os s).moments
  pub last_so : y.requests.asked ≡ last

-- what is known before
pub record Before (S : Setting) (n : ℕ) (i : Input) (o : Option Command) (h : Option ℕ) (x : UpNode) (s : Scene) : Type 0 where
  pub queued : Queued S n s.moments (membership_in x.seat) x.requests
  pub now : IfSome o (NowSo S n s.moments x.requests.asked)
  pub hand : HandSo n s.moments x h
  pub pending : PendingSo s.moments x
  pub carried : CarriedSo S s.moments
  pub came : CameSo i n s.moments
  pub president : is_some x.presidency ≡ true → PresidentAt x n

pub now_each : (S : Setting) (n : ℕ) (before after : List Moment) (last more : ℕ) (o : Option Command) → SameAsked S n before after → more ≡ last → IfSome o (NowSo S n before last) → IfSome o (NowSo S n after more)
now_each S n before after last more None f same h = tt
now_each S n before after last more (Some c) f same h = subst (λ k. NowSo S n after k c) (sym same) (now_stays S n before after last c f h)

pub hand_each : (S : Setting) (n : ℕ) (before after : List Moment) (x y : UpNode) (h : Option ℕ) → SameAsked S n before after → membership_in y.seat ≡ membership_in x.seat → HandSo n before x h → HandSo n after y h
hand_each S n before after x y None f same k = tt
hand_each S n before after x y (Some q) f same k = ap (λ ms. member_of n ms) (f.asking q) ∙ (k ∙ sym same)

pub pending_each : (S : Setting) (n : ℕ) (before after : List Moment) (x : UpNode) → SameAsk S n before after → (is_some x.presidency ≡ true → PresidentAt x n) → PendingSo before x → PendingSo after x
pending_each S n before after x f president h text so is =
    let p : PresidentAt x n = president so in
    f.proposed (session_of x) (last_place x) (ap coordinator p.session ∙ p.own) ∙ h text so is

-- an act whose outputs change nothing of members: the queue goes on so
acted_so : (S : Setting) (n : ℕ) (i : Input) (o : Option Command) (h : Option ℕ) (x y : UpNode) (os : List Output) (s : Scene) → AreGood n os → AreStill n os → ArePlain os → AllFine S s.moments n os
    → membership_in y.seat ≡ membership_in x.seat → y.requests.asked ≡ x.requests.asked
    → ((ms : List Moment) → IfSome o (NowSo S n ms x.requests.asked) → Queued S n ms (membership_in x.seat) x.requests → Queued S n ms (membership_in y.seat) y.requests)
    → ((ms : List Moment) → PendingSo ms x → PendingSo ms y) → Before S n i o h x s → Acted S n o h x.requests.asked y os s
acted_so S n i o h x y os s good still plain fine seat asked goes pends b =
    let ms : List Moment = (passing n os s).moments in
    let f : SameAsk S n s.moments ms = passing_ask S n n os s (plains_apart n os plain) in
    record {
      queued = goes ms (now_each S n s.moments ms x.requests.asked x.requests.asked o f.asks refl b.now) (queued_stays S n s.moments ms (membership_in x.seat) x.requests f.asks b.queued);
      now = now_each S n s.moments ms x.requests.asked y.requests.asked o f.asks asked b.now;
      hand = hand_each S n s.moments ms x y h f.asks seat b.hand;
      pending = pends ms (pending_each S n s.moments ms x f b.president b.pending);
      carried = passing_carried S n os s good still (plains_apart n os plain) fine b.carried;
      last_so = asked;
    }

-- ---- what is told and sent is fine

-- a change that is made without a save stands apart
abbrev pub NoMakes : Act → Type 0
NoMakes (Makes change) = ⊥
NoMakes _ = Unit {0}

-- a line of no command
abbrev IsMuteLine : Output → Type 0
IsMuteLine (Tells (entry.Command e)) = ⊥
IsMuteLine (Tells e) = Unit {0}
IsMuteLine (Sends to b) = ⊥

line_fine : (S : Setting) (n : ℕ) (i : Input) (o : Option Command) (h : Option ℕ) (x : UpNode) (s : Scene) (e : Entry) → ReadsAnswers S → NoPacket e → OutputAsk n i o h x (Tells e) → member_of n s.moments ≡ membership_in x.seat
    → Before S n i o h x s → LineFine S s.moments n e
line_fine S n i o h x s (entry.Command (command.Asked m q)) exact good ask seated b = tt
line_fine S n i o h x s (entry.Command (command.Answered m q reply)) exact good ask seated b =
    (ask.0, cause_fine S s.moments n q i o h x reply exact b.president seated b.queued b.now b.hand b.came ask.1)
line_fine S n i o h x s (entry.Packet e) exact good ask seated b = absurd good
line_fine S n i o h x s _ exact good ask seated b = tt

-- no Prepare
abbrev NoPrepare : Body → Type 0
NoPrepare (body.Prepare e v text) = ⊥
NoPrepare _ = Unit {0}

body_fine : (S : Setting) (n : ℕ) (i : Input) (o : Option Command) (h : Option ℕ) (x : UpNode) (s : Scene) (b : Body) → NoPrepare b → BodyAsk x b → Before S n i o h x s → SaysWords S s.moments n b
body_fine S n i o h x s (body.Prepare e v text) other ask b = absurd other
body_fine S n i o h x s (body.Request e q text) other ask b = oldest_says S n s.moments (membership_in x.seat) x.requests q text b.queued ask
body_fine S n i o h x s _ other ask b = tt

written_fine : (S : Setting) (n : ℕ) (i : Input) (o : Option Command) (h : Option ℕ) (x : UpNode) (s : Scene) (b : Body) → member_of n s.moments ≡ membership_in x.seat → MayWrite x b → BodyAsk x b
    → Before S n i o h x s → SaysWords S s.moments n b
written_fine S n i o h x s (body.Prepare e v text) seated may ask b =
    let so : is_some x.presidency ≡ true = may.0 in
    let p : PresidentAt x n = b.president so in
    record {
      epoch = session_of x;
      member = seated ∙ (p.member ∙ ap (λ k. Some k) (sym p.session));
      own = ap coordinator p.session ∙ p.own;
      words = subst (λ k. proposed_at (Some (session_of x)) k s.moments ≡ Some text) (sym may.2) (b.pending text so may.3);
    }
written_fine S n i o h x s (body.Request e q text) seated may ask b = oldest_says S n s.moments (membership_in x.seat) x.requests q text b.queued ask
written_fine S n i o h x s _ seated may ask b = tt

-- orders, and messages of requests
given_fine : (S : Setting) (n : ℕ) (i : Input) (o : Option Command) (h : Option ℕ) (x : UpNode) (s : Scene) (os : List Output) → ReadsAnswers S → AreGood n os → TellNothing os
    → AllByRecursion (OutputAsk n i o h x) os → member_of n s.moments ≡ membership_in x.seat → Before S n i o h x s → AllFine S s.moments n os
given_fine S n i o h x s [] exact good may ask seated b = tt
given_fine S n i o h x s (Tells e ∷ os) exact good may ask seated b = (line_fine S n i o h x s e exact good.0 ask.0 seated b, given_fine S n i o h x s os exact good.1 may.1 ask.1 seated b)
given_fine S n i o h x s (Sends to c ∷ os) exact good may ask seated b = (body_fine S n i o h x s c (no_prepare to c may.0) ask.0 b, given_fine S n i o h x s os exact good.1 may.1 ask.1 seated b)
  where
    no_prepare : (to : ℕ) (c : Body) → TellsNothing (Sends to c) → NoPrepare c
    no_prepare to (body.Prepare e v text) m = absurd m
    no_prepare to _ m = tt

spread_fine : (S : Setting) (ms : List Moment) (n receivers : ℕ) (b : Body) → SaysWords S ms n b → AllFine S ms n (sent_to receivers b)
unfolding sent_to
spread_fine S ms n receivers b h = mapped (OutFine S ms n) (λ k. Sends k b) (numbers_to receivers most_nodes) (λ k. h)

-- at a tick: Heartbeats, and the oldest request again
beats_fine : (S : Setting) (ms : List Moment) (n receivers : ℕ) (x : UpNode) → AllFine S ms n (heartbeats_to x receivers)
unfolding heartbeats_to
beats_fine S ms n receivers x = mapped (OutFine S ms n) (λ k. Sends k (heartbeat_of x)) (numbers_to receivers most_nodes) (λ k. tt)

again_to_fine : (S : Setting) (n : ℕ) (i : Input) (o : Option Command) (h : Option ℕ) (x : UpNode) (s : Scene) (r : Option Request) (to : Option ℕ) → queue.oldest x.requests ≡ r → Before S n i o h x s
    → AllFine S s.moments n (request_again_to x r to)
again_to_fine S n i o h x s (Some r) (Some president) is b =
    (oldest_says S n s.moments (membership_in x.seat) x.requests r.number r.text b.queued (ap (λ z. option_map pair_of z) is), tt)
again_to_fine S n i o h x s None president is b = tt
again_to_fine S n i o h x s (Some r) None is b = tt

again_by_fine : (S : Setting) (n : ℕ) (i : Input) (o : Option Command) (h : Option ℕ) (x : UpNode) (s : Scene) (p : Option Presidency) → Before S n i o h x s → AllFine S s.moments n (request_again_by x p)
again_by_fine S n i o h x s None b =
    if_either (AllFine S s.moments n) (queue.goes_again x.requests) (request_again_to x (queue.oldest x.requests) (coordinator_of x)) []
    (again_to_fine S n i o h x s (queue.oldest x.requests) (coordinator_of x) refl b) tt
again_by_fine S n i o h x s (Some p) b = tt

ticked_fine : (S : Setting) (n : ℕ) (i : Input) (o : Option Command) (h : Option ℕ) (c : Cluster) (x : UpNode) (s : Scene) → Before S n i o h x s → AllFine S s.moments n (ticked_output c x (later c x))
ticked_fine S n i o h c x s b =
    both (OutFine S s.moments n) (heartbeats_to (later c x) (receivers_of (later c x).beats (configured_at c (later c x)))) (request_again x)
    (beats_fine S s.moments n (receivers_of (later c x).beats (configured_at c (later c x))) (later c x)) (again_by_fine S n i o h x s x.presidency b)

lines_fine : (S : Setting) (ms : List Moment) (n : ℕ) (os : List Output) → AreGood n os → AllByRecursion IsMuteLine os → AllFine S ms n os
lines_fine S ms n [] good h = tt
lines_fine S ms n (Tells (entry.Command (command.Answered m q reply)) ∷ os) good h = absurd h.0
lines_fine S ms n (Tells (entry.Command (command.Asked m q)) ∷ os) good h = absurd h.0
lines_fine S ms n (Tells (entry.Packet e) ∷ os) good h = absurd good.0
lines_fine S ms n (Tells (entry.Answered e) ∷ os) good h = (tt, lines_fine S ms n os good.1 h.1)
lines_fine S ms n (Tells entry.Powered ∷ os) good h = (tt, lines_fine S ms n os good.1 h.1)
lines_fine S ms n (Tells (entry.Node m e) ∷ os) good h = (tt, lines_fine S ms n os good.1 h.1)
lines_fine S ms n (Tells (entry.Device e) ∷ os) good h = (tt, lines_fine S ms n os good.1 h.1)
lines_fine S ms n (Tells (entry.Attempt e) ∷ os) good h = (tt, lines_fine S ms n os good.1 h.1)
lines_fine S ms n (Tells (entry.Start e) ∷ os) good h = (tt, lines_fine S ms n os good.1 h.1)
lines_fine S ms n (Tells (entry.Update e) ∷ os) good h = (tt, lines_fine S ms n os good.1 h.1)
lines_fine S ms n (Tells (entry.Schedule e) ∷ os) good h = (tt, lines_fine S ms n os good.1 h.1)
lines_fine S ms n (Tells (entry.Call e) ∷ os) good h = (tt, lines_fine S ms n os good.1 h.1)
lines_fine S ms n (Tells (entry.Status e) ∷ os) good h = (tt, lines_fine S ms n os good.1 h.1)
lines_fine S ms n (Tells (entry.Address e) ∷ os) good h = (tt, lines_fine S ms n os good.1 h.1)
lines_fine S ms n (Sends to b ∷ os) good h = absurd h.0

-- ---- each act

same_proposed : (x : UpNode) (p : Option Presidency) → SameProposed x.presidency p → is_some p ≡ true → is_some x.presidency ≡ true
same_proposed x p h so = by x.presidency p h so
  where
    by : (a b : Option Presidency) → SameProposed a b → is_some b ≡ true → is_some a ≡ true
    by None None h so = so
    by (Some a) (Some b) h so = refl
    by None (Some b) h so = absurd h
    by (Some a) None h so = absurd h

later_there : (p : Option Presidency) → is_some (later_presidency p) ≡ true → is_some p ≡ true
later_there None so = so
later_there (Some p) so = refl

write_mute : (me : ℕ) (x : UpNode) (d value : ℕ) (a : Answer) → AllByRecursion IsMuteLine (write_lines me x d value a)
write_mute me x d value (Ok given.Good) = (tt, tt)
write_mute me x d value (Ok given.Conflict) = (tt, tt)
write_mute me x d value _ = (tt, tt)

pub act_so : (S : Setting) (c : Cluster) (n : ℕ) (told : Delivered) (i : Input) (o : Option Command) (h : Option ℕ) (x : UpNode) (a : Act) (s : Scene) → ReadsAnswers S → NoMakes a → MayAct c n told x a → IsSmallAct a
    → ActAsk n i o h x a → AreGood n (said c n x a) → member_of n s.moments ≡ membership_in x.seat → Before S n i o h x s → Acted S n o h x.requests.asked (acted c n x a) (said c n x a) s
act_so S c n told i o h x (Hears from b) s exact nm may small ask good seated k = acted_so S n i o h x (acted c n x (Hears from b)) [] s tt tt tt tt refl refl (λ ms now q. q) (λ ms p. p) k
act_so S c n told i o h x Ticks s exact nm may small ask good seated k =
    acted_so S n i o h x (acted c n x Ticks) (said c n x Ticks) s good (tt, ticked_still n c x) (tt, ticked_plain c x) (tt, ticked_fine S n i o h c x s k) refl refl
    (λ ms now q. queued_same S n ms (membership_in x.seat) (membership_in x.seat) x.requests (queue.ticked x.requests) refl refl refl q) (λ ms p text so. p text (later_there x.presidency so)) k
act_so S c n told i o h x Waits s exact nm may small ask good seated k = acted_so S n i o h x (acted c n x Waits) [] s tt tt tt tt refl refl (λ ms now q. q) (λ ms p. p) k
act_so S c n told i o h x (Goes_on a j) s exact nm may small ask good seated k = acted_so S n i o h x (acted c n x (Goes_on a j)) [] s tt tt tt tt refl refl (λ ms now q. q) (λ ms p. p) k
act_so S c n told i o h x (Ends a e) s exact nm may small ask good seated k =
    acted_so S n i o h x (acted c n x (Ends a e)) (said c n x (Ends a e)) s good (evens_still n (said c n x (Ends a e)) (ended_even a.plan.epoch e, tt)) (ended_plain a.plan.epoch e, tt) (tt, tt) refl refl (λ ms now q. q) (λ ms p. p) k
act_so S c n told i o h x (Queues a d kind) s exact nm may small ask good seated k =
    if_either (λ (z : UpNode). Acted S n o h x.requests.asked z [] s) (has a.plan.members n)
    (record x { tasks = after_seize x.tasks d (seizing.begun kind a.plan.epoch a.plan.members n c.id (has (record_of x).valid d)) }) x
    (acted_so S n i o h x (record x { tasks = after_seize x.tasks d (seizing.begun kind a.plan.epoch a.plan.members n c.id (has (record_of x).valid d)) }) [] s tt tt tt tt refl refl (λ ms now q. q) (λ ms p. p) k)
    (acted_so S n i o h x x [] s tt tt tt tt refl refl (λ ms now q. q) (λ ms p. p) k)
act_so S c n told i o h x (Accepts kind e members d) s exact nm may small ask good seated k =
    acted_so S n i o h x (acted c n x (Accepts kind e members d)) [] s tt tt tt tt refl refl (λ ms now q. q) (λ ms p. p) k
act_so S c n told i o h x (Takes at command a) s exact nm may small ask good seated k =
    acted_so S n i o h x (acted c n x (Takes at command a)) (said c n x (Takes at command a)) s good (tt, tt) (tt, tt) (tt, tt) refl refl (λ ms now q. q) (λ ms p. p) k
act_so S c n told i o h x (Stores d value a) s exact nm may small ask good seated k =
    acted_so S n i o h x x (said c n x (Stores d value a)) s good (evens_still n (said c n x (Stores d value a)) (tt, write_even n x d value a)) (tt, write_plain n x d value a)
    (lines_fine S s.moments n (said c n x (Stores d value a)) good (tt, write_mute n x d value a)) refl refl (λ ms now q. q) (λ ms p. p) k
act_so S c n told i o h x (Writes to b) s exact nm may small ask good seated k =
    acted_so S n i o h x x (Sends to b ∷ []) s good (tt, tt) (tt, tt) (written_fine S n i o h x s b seated may ask k, tt) refl refl (λ ms now q. q) (λ ms p. p) k
act_so S c n told i o h x (Makes change) s exact nm may small ask good seated k = absurd nm
act_so S c n told i o h x (Gives os) s exact nm may small ask good seated k =
    acted_so S n i o h x x os s good (evens_still n os (given_even os small may)) (given_plain n i o h x os small ask) (given_fine S n i o h x s os exact good may ask seated k) refl refl (λ ms now q. q) (λ ms p. p) k
act_so S c n told i o h x (Spreads receivers b) s exact nm may small ask good seated k =
    acted_so S n i o h x x (sent_to receivers b) s good (evens_still n (sent_to receivers b) (spread_even receivers b (written_even x b may))) (spread_plain receivers b)
    (spread_fine S s.moments n receivers b (written_fine S n i o h x s b seated may ask k)) refl refl (λ ms now q. q) (λ ms p. p) k
act_so S c n told i o h x (Minds q p) s exact nm may small ask good seated k =
    acted_so S n i o h x (acted c n x (Minds q p)) [] s tt tt tt tt refl ask.asked
    (λ ms now old. queue_goes S n ms (membership_in x.seat) (membership_in x.seat) o x q refl refl now ask old) (λ ms pend text so. pend text (same_proposed x p may so)) k
act_so S c n told i o h x (Notes from place p) s exact nm may small ask good seated k =
    acted_so S n i o h x (acted c n x (Notes from place p)) [] s tt tt tt tt refl refl (λ ms now q. q) (λ ms pend text so. pend text (ap is_some may.0)) k
act_so S c n told i o h x (Dates now) s exact nm may small ask good seated k = acted_so S n i o h x (acted c n x (Dates now)) [] s tt tt tt tt refl refl (λ ms was q. q) (λ ms p. p) k
act_so S c n told i o h x (Works w) s exact nm may small ask good seated k = acted_so S n i o h x (acted c n x (Works w)) [] s tt tt tt tt refl refl (λ ms now q. q) (λ ms p. p) k
