-- Each act of a node keeps it that what a president has in hand of others has come, and that each Answer to another node was asked for.
use Rattle.std.specs.Prelude.{ℕ, ◌≡◌, ◌≢◌, ◌≤◌, ◌⊎◌, ◌==◌, Bool, true, false, List, [], ◌∷◌, Option, None, Some, Ok, if◌then◌else◌}
use Rattle.std.specs.List.{AllByRecursion}
use Rattle.std.proofs.Common.{refl, ap, sym, subst, ◌∙◌, inl, inr, arith}
use Rattle.cl_base.specs.Limits.{most_nodes}
use Rattle.cl_base.specs.Numbers.{numbers_to}
use Rattle.cl_base.specs.Sets.{has}
use Rattle.cmm_attempt.proofs.Basics.{if_either}
use Rattle.device_queue.specs.Queue.{after_seize}
use Rattle.heartbeats.specs.Views.{receivers_of}
use Rattle.history.specs.Moment.{Moment}
use Rattle.history.specs.Setting.{Setting}
use Rattle.node_model.specs.Configurations.{configured_at}
use Rattle.node_model.specs.Presidents.{answer_given, own_line, sent_to}
use Rattle.node_model.specs.Seats.{coordinator_of, record_of, session_of}
use Rattle.node_model.specs.Ticks.{heartbeat_of, heartbeats_to, later, ticked_output}
use Rattle.node_model.specs.Updates.{request_again, request_again_by, request_again_to}
use Rattle.node_model.specs.declared.cluster.Cluster.{Cluster}
use Rattle.node_model.specs.declared.input.Input.{Input}
use Rattle.node_model.specs.declared.node.UpNode.{UpNode}
use Rattle.node_model.specs.declared.output.Output.{Output}
use Rattle.node_model.specs.declared.output.Output.TheVariants.{Sends, Tells}
use Rattle.node_model.specs.declared.presidency.Presidency.{Presidency}
use Rattle.pgr_device.specs.declared.command.PrAnswer.TheVariants as given
use Rattle.proposals.specs.declared.arrived.Arrived.{Arrived}
use Rattle.refinement.specs.Doings.{Act, acted, minded, said, write_lines}
use Rattle.refinement.specs.Doings.Act.{Accepts, Dates, Ends, Gives, Goes_on, Hears, Makes, Minds, Notes, Queues, Spreads, Stores, Takes, Ticks, Waits, Works, Writes}
use Rattle.refinement.specs.Guards.{MayAct}
use Rattle.refinement.proofs.Handlers.{delivered_by}
use Rattle.request_queue.specs.Queue as queue
use Rattle.request_queue.specs.Queue.{Queue}
use Rattle.request_queue.specs.declared.request.Request.{Request}
use Rattle.run_commands.proofs.acknowledged.Carrying.{Around, CameFrom}
use Rattle.run_commands.proofs.acknowledged.NoAnswers.{own_no, still_no, ticked_no}
use Rattle.run_commands.proofs.acknowledged.Acts.{CameHand}
use Rattle.run_commands.proofs.acknowledged.Quiet.{NoAnswers}
use Rattle.run_commands.proofs.carried.Acts.{NoMakes}
use Rattle.run_commands.proofs.carried.Causes.{CameSo}
use Rattle.run_commands.specs.acknowledged.AnsweringGuards.{Answers, Due, GivesSo, IsNoAnswer, MindsSo, OfBoth, OwedOutput, TellsQuery, TellsReply, WritesSo}
use Rattle.run_commands.specs.acknowledged.AnsweringGuards.{ActSo}
use Rattle.run_commands.specs.acknowledged.AnsweringGuards.Due.{Even, Gave, Owes}
use Rattle.run_commands.proofs.acknowledged.NoAnswers.{still_body}
use Rattle.run_commands.specs.acknowledged.Guards.{CauseOf}
use Rattle.run_commands.specs.acknowledged.Steps.{HandIn}
use Rattle.run_commands.specs.carried.Guards.{Command}
use Rattle.run_history.proofs.Lists.{both, mapped}
use Rattle.run_history.proofs.Ordinary.{GivesAside, IsAside}
use Rattle.run_history.proofs.Small.{IsSmallAct}
use Rattle.run_history.specs.Scenes.{Scene, passing}
use Rattle.run_messages.specs.Outputs.{AreGood}
use Rattle.seize.specs.Answers.{Answer as DeviceAnswer}
use Rattle.seize.specs.Seizing as seizing
use Rattle.status_report.specs.CommandLines.{reply_text}
use Rattle.status_report.specs.declared.command_entry.Answer.{Answer}
use Rattle.status_report.specs.declared.entry.Entry.{Entry}
use Rattle.status_report.specs.declared.entry.Entry.TheVariants as entry
use Rattle.wire.specs.declared.message.Body.{Body}
use Rattle.wire.specs.declared.message.Body.TheVariants as body
use Rattle.run_packets.specs.again.Coming.{HandOf, HasCome, IsOwed, Knows, OfficeHas, ToldWell}
use Rattle.run_packets.proofs.again.Coming.{AnswersWell, LineWell, OutWell, knows_passing, told_passing}
use Rattle.run_packets.proofs.again.Hands.{cause_come, first_came, hand_answers, hand_same, later_has, office_goes}

-- ---- what is given

-- the lines ..
abbrev LineOut : Output → Type 0
LineOut (Tells e) = LineWell e
LineOut (Sends to b) = Unit {0}

-- .. and the Answers
abbrev AnswerOut : ℕ → List Moment → Output → Type 0
AnswerOut n base (Tells e) = Unit {0}
AnswerOut n base (Sends to b) = AnswersWell n base to b

well_of : (n : ℕ) (base : List Moment) (os : List Output) → AreGood n os → AllByRecursion LineOut os → AllByRecursion (AnswerOut n base) os → AllByRecursion (OutWell n base) os
well_of n base [] good lines answers = tt
well_of n base (Tells e ∷ os) good lines answers = (lines.0, well_of n base os good.1 lines.1 answers.1)
well_of n base (Sends to b ∷ os) good lines answers = ((good.0, answers.0), well_of n base os good.1 lines.1 answers.1)

no_answer : (n : ℕ) (base : List Moment) (to : ℕ) (b : Body) → IsNoAnswer b → AnswersWell n base to b
no_answer n base to (body.Answer e q text) h = absurd h
no_answer n base to _ h = tt

none_out : (n : ℕ) (base : List Moment) (os : List Output) → NoAnswers os → AllByRecursion (AnswerOut n base) os
none_out n base [] h = tt
none_out n base (Tells e ∷ os) h = (tt, none_out n base os h.1)
none_out n base (Sends to b ∷ os) h = (no_answer n base to b h.0, none_out n base os h.1)

aside_well : (e : Entry) → IsAside e → LineWell e
aside_well (entry.Packet e) h = absurd h
aside_well (entry.Node m e) h = absurd h
aside_well _ h = tt

asides_well : (os : List Output) → AllByRecursion GivesAside os → AllByRecursion LineOut os
asides_well [] h = tt
asides_well (Tells e ∷ os) h = (aside_well e h.0, asides_well os h.1)
asides_well (Sends to b ∷ os) h = (tt, asides_well os h.1)

spread_lines : (receivers : ℕ) (b : Body) → AllByRecursion LineOut (sent_to receivers b)
unfolding sent_to
spread_lines receivers b = mapped LineOut (λ k. Sends k b) (numbers_to receivers most_nodes) (λ k. tt)

spread_answers : (n : ℕ) (base : List Moment) (receivers : ℕ) (b : Body) → IsNoAnswer b → AllByRecursion (AnswerOut n base) (sent_to receivers b)
unfolding sent_to
spread_answers n base receivers b h = mapped (AnswerOut n base) (λ k. Sends k b) (numbers_to receivers most_nodes) (λ k. no_answer n base k b h)

beat_lines : (receivers : ℕ) (x : UpNode) → AllByRecursion LineOut (heartbeats_to x receivers)
unfolding heartbeats_to
beat_lines receivers x = mapped LineOut (λ k. Sends k (heartbeat_of x)) (numbers_to receivers most_nodes) (λ k. tt)

again_to_lines : (x : UpNode) (r : Option Request) (to : Option ℕ) → AllByRecursion LineOut (request_again_to x r to)
again_to_lines x (Some r) (Some president) = (tt, tt)
again_to_lines x None president = tt
again_to_lines x (Some r) None = tt

again_lines : (x : UpNode) (p : Option Presidency) → AllByRecursion LineOut (request_again_by x p)
again_lines x None =
    if_either (AllByRecursion LineOut) (queue.goes_again x.requests) (request_again_to x (queue.oldest x.requests) (coordinator_of x)) [] (again_to_lines x (queue.oldest x.requests) (coordinator_of x)) tt
again_lines x (Some p) = tt

tick_lines : (c : Cluster) (x : UpNode) → AllByRecursion LineOut (ticked_output c x (later c x))
tick_lines c x =
    let y : UpNode = later c x in
    both LineOut (heartbeats_to y (receivers_of y.beats (configured_at c y))) (request_again x) (beat_lines (receivers_of y.beats (configured_at c y)) y) (again_lines x x.presidency)

write_well : (n : ℕ) (x : UpNode) (d value : ℕ) (a : DeviceAnswer) → AllByRecursion LineOut (write_lines n x d value a)
write_well n x d value (Ok given.Good) = (tt, tt)
write_well n x d value (Ok given.Conflict) = (tt, tt)
write_well n x d value _ = (tt, tt)

write_none : (n : ℕ) (base : List Moment) (x : UpNode) (d value : ℕ) (a : DeviceAnswer) → AllByRecursion (AnswerOut n base) (write_lines n x d value a)
write_none n base x d value (Ok given.Good) = (tt, tt)
write_none n base x d value (Ok given.Conflict) = (tt, tt)
write_none n base x d value _ = (tt, tt)

-- ---- the president's answers

not_equal : (a b : ℕ) → (a == b) ≡ false → a ≢ b
not_equal a b h = grind arith

-- the first request is answered
first_out : (n : ℕ) (x : UpNode) (ms : List Moment) (a : Arrived) (reply : Answer) → (a.from ≢ n → HasCome a.from n a.number (session_of x) ms) → AllByRecursion (AnswerOut n ms) (answer_given n x a reply)
first_out n x ms a reply came = by (a.from == n) refl
  where
    by : (b : Bool) → (a.from == n) ≡ b
        → AllByRecursion (AnswerOut n ms) (if b then own_line n reply (queue.found x.requests.waiting a.number) else Sends a.from (body.Answer (session_of x) a.number (reply_text reply)) ∷ [])
    by true is = none_out n ms (own_line n reply (queue.found x.requests.waiting a.number)) (own_no n reply (queue.found x.requests.waiting a.number))
    by false is = (came, tt)

owed_out : (n : ℕ) (x : UpNode) (ms : List Moment) (a : Arrived) (os : List Output) → (a.from ≢ n → HasCome a.from n a.number (session_of x) ms) → OwedOutput n x a os → AllByRecursion (AnswerOut n ms) os
owed_out n x ms a os came (inl z) = subst (AllByRecursion (AnswerOut n ms)) (sym z.1) (came, tt)
owed_out n x ms a os came (inr (z, inl is)) = subst (AllByRecursion (AnswerOut n ms)) (sym is) tt
owed_out n x ms a os came (inr (z, inr is)) = subst (AllByRecursion (AnswerOut n ms)) (sym is) (tt, tt)

told_out : (c : Cluster) (i : Input) (n : ℕ) (x : UpNode) (ms : List Moment) (os : List Output) → TellsQuery c i n x os ⊎ TellsReply i n x os → AllByRecursion (AnswerOut n ms) os
told_out c i n x ms os (inl k) = subst (AllByRecursion (AnswerOut n ms)) (sym k.is) (tt, tt)
told_out c i n x ms os (inr k) = subst (AllByRecursion (AnswerOut n ms)) (sym k.is) (tt, tt)

office_of : (n e : ℕ) (ms : List Moment) (o : Option Presidency) (p : Presidency) → o ≡ Some p → OfficeHas n e ms o → HandOf n e ms p.proposals
office_of n e ms o p is h = subst (OfficeHas n e ms) is h

-- what is given, and that nothing is owed then
gives_out : (c : Cluster) (i : Input) (n : ℕ) (d g : Due) (x : UpNode) (os : List Output) (ms : List Moment) → GivesSo c i n x d os g → Knows n d x ms → AllByRecursion (AnswerOut n ms) os × ((after : List Moment) → IsOwed n (session_of x) after g)
gives_out c i n Even g x os ms (inl k) h = (none_out n ms os (still_no os k.0), λ after. subst (IsOwed n (session_of x) after) (sym k.1) tt)
gives_out c i n Even g x os ms (inr (inl f)) h = (
  subst (AllByRecursion (AnswerOut n ms)) (sym f.is)
      (first_out n x ms f.request f.reply (first_came n (session_of x) ms f.presidency.proposals f.request f.first (office_of n (session_of x) ms x.presidency f.presidency f.here h.hand))),
  λ after. subst (IsOwed n (session_of x) after) (sym f.then) tt,
)
gives_out c i n Even g x os ms (inr (inr k)) h = (told_out c i n x ms os k.0, λ after. subst (IsOwed n (session_of x) after) (sym k.1) tt)
gives_out c i n (Gave a reply) g x os ms so h = absurd so
gives_out c i n (Owes a) g x os ms so h = (owed_out n x ms a os h.owed so.0, λ after. subst (IsOwed n (session_of x) after) (sym so.1) tt)

-- the last answer goes again
one_from : (S : Setting) (c : Cluster) (n : ℕ) (i : Input) (v : Option ℕ) (x : UpNode) (ms : List Moment) → CameHand S c n v i ms → (a : Arrived) → CauseOf i n v x a → a.from ≢ n → 1 ≤ a.from
one_from S c n i v x ms came a (inl k) ne = (subst (λ (z : Input). CameHand S c n v z ms) k.input came).0.0
one_from S c n i v x ms came a (inr k) ne = absurd (ne (ap (λ (z : Arrived). z.from) k.is))

writes_out : (S : Setting) (c : Cluster) (i : Input) (n : ℕ) (v : Option ℕ) (x : UpNode) (to : ℕ) (b : Body) (ms : List Moment) → CameHand S c n v i ms → WritesSo c i n v x to b → OfficeHas n (session_of x) ms x.presidency → AnswersWell n ms to b
writes_out S c i n v x to b ms came (inl still) h = no_answer n ms to b (still_body to b still)
writes_out S c i n v x to b ms came (inr w) h =
    subst (AnswersWell n ms to) (sym w.is)
    (λ other.
    (office_of n (session_of x) ms x.presidency w.presidency w.here h).kept to w.kept
    (subst (λ z. 1 ≤ z) w.from (one_from S c n i v x ms came w.request w.cause (λ z. other (sym w.from ∙ z)))) other w.last)

-- ---- what is in hand

office_answers : (S : Setting) (c : Cluster) (n e : ℕ) (ms : List Moment) (C : Arrived → Type 0) (a : Arrived) (reply : Answer) (o p : Option Presidency) → ((b : Arrived) → C b → b.from ≢ n → HasCome b.from n b.number e ms) → OfBoth (Answers C a reply) o p
    → HandIn S c ms e o → OfficeHas n e ms o → OfficeHas n e ms p
office_answers S c n e ms C a reply None None cause goes sound h = tt
office_answers S c n e ms C a reply (Some p) (Some q) cause goes sound h = hand_answers n e ms C a reply p.proposals q.proposals cause goes sound.sound h
office_answers S c n e ms C a reply None (Some q) cause goes sound h = absurd goes
office_answers S c n e ms C a reply (Some p) None cause goes sound h = absurd goes

minds_knows : (S : Setting) (c : Cluster) (i : Input) (n : ℕ) (v : Option ℕ) (x : UpNode) (q : Queue) (p : Option Presidency) (d g : Due) (ms : List Moment) → CameFrom i ms → CameSo i n ms → HandIn S c ms (session_of x) x.presidency
    → MindsSo c i n v x d p g → Knows n d x ms → Knows n g (minded x q p) ms
minds_knows S c i n v x q p Even g ms from came sound so h = record {
  hand = office_goes n (session_of x) ms (CauseOf i n v x) x.presidency p (cause_come i n v x ms from came) so.0 h.hand;
  owed = subst (IsOwed n (session_of x) ms) (sym so.1) tt;
}
minds_knows S c i n v x q p (Gave a reply) g ms from came sound so h = record {
  hand = office_answers S c n (session_of x) ms (CauseOf i n v x) a reply x.presidency p (cause_come i n v x ms from came) so.0 sound h.hand;
  owed = subst (IsOwed n (session_of x) ms) (sym so.1) tt;
}
minds_knows S c i n v x q p (Owes a) g ms from came sound so h = absurd so

-- ---- each act

abbrev pub Keeps : ℕ → Due → UpNode → List Moment → Type 0
Keeps n g y ms = Knows n g y ms × ToldWell ms

module _ (S : Setting) (c : Cluster) (n : ℕ) (i : Input) (v : Option ℕ) (o : Option Command) (h : Option ℕ) (promised : ℕ) (x : UpNode) (d g : Due) (s : Scene) (k : Around S c n i v o h promised x s) (inside : Knows n d x s.moments) (told : ToldWell s.moments) where
  -- its outputs are these, and the node is seen so
  seen : (y : UpNode) (os : List Output) → AllByRecursion (OutWell n s.moments) os → ((ms : List Moment) → OfficeHas n (session_of x) ms x.presidency → OfficeHas n (session_of y) ms y.presidency)
      → ((ms : List Moment) → IsOwed n (session_of y) ms g) → Keeps n g y (passing n os s).moments
  seen y os all hand owed =
      let t : Scene = passing n os s in
      let later_on : Knows n d x t.moments = knows_passing n n d x os s inside in
      (record { hand = hand t.moments later_on.hand; owed = owed t.moments }, told_passing n os s all told)

  -- nothing is due
  none_due : (e : ℕ) (ms : List Moment) → (d ≡ Even) × (g ≡ Even) → IsOwed n e ms g
  none_due e ms so = subst (IsOwed n e ms) (sym so.1) tt

  plain : (y : UpNode) (os : List Output) → AreGood n os → AllByRecursion LineOut os → AllByRecursion (AnswerOut n s.moments) os → (d ≡ Even) × (g ≡ Even) → y.presidency ≡ x.presidency → session_of y ≡ session_of x
      → Keeps n g y (passing n os s).moments
  plain y os good lines answers so presidency session =
      seen y os (well_of n s.moments os good lines answers) (λ ms hand. subst (λ e. OfficeHas n e ms y.presidency) (sym session) (subst (OfficeHas n (session_of x) ms) (sym presidency) hand)) (λ ms. none_due (session_of y) ms so)

  pub act_knows : (a : Act) → NoMakes a → MayAct c n (delivered_by i) x a → IsSmallAct a → ActSo c i n v x d a g → AreGood n (said c n x a) → Keeps n g (acted c n x a) (passing n (said c n x a) s).moments
  act_knows (Gives os) none may small so good =
      let z : _ = gives_out c i n d g x os s.moments so inside in seen x os (well_of n s.moments os good (asides_well os small) z.0) (λ ms hand. hand) z.1
  act_knows (Writes to b) none may small so good =
      plain x (Sends to b ∷ []) good (tt, tt) (writes_out S c i n v x to b s.moments k.holds.came so.1 inside.hand, tt) (so.0, so.2) refl refl
  act_knows (Spreads receivers b) none may small so good =
      let t : Scene = passing n (sent_to receivers b) s in
      let later_on : Knows n d x t.moments = knows_passing n n d x (sent_to receivers b) s inside in (
        record { hand = later_on.hand; owed = subst (IsOwed n (session_of x) t.moments) (sym so.1) later_on.owed },
        told_passing n (sent_to receivers b) s (well_of n s.moments (sent_to receivers b) good (spread_lines receivers b) (spread_answers n s.moments receivers b so.0)) told,
      )
  act_knows (Minds q p) none may small so good = (minds_knows S c i n v x q p d g s.moments k.from k.before.came k.holds.up.hand so inside, told)
  act_knows (Makes change) none may small so good = absurd none
  act_knows (Notes from place p) none may small so good =
      seen (acted c n x (Notes from place p)) [] tt (λ ms hand. hand_same n (session_of x) ms p.proposals _ refl refl (office_of n (session_of x) ms x.presidency p may.0 hand)) (λ ms. none_due (session_of x) ms so)
  act_knows Ticks none may small so good =
      seen (acted c n x Ticks) (said c n x Ticks) (well_of n s.moments (said c n x Ticks) good (tt, tick_lines c x) (tt, none_out n s.moments (ticked_output c x (later c x)) (ticked_no c x)))
      (λ ms hand. later_has n (session_of x) ms x.presidency hand) (λ ms. none_due (session_of x) ms so)
  act_knows (Queues b j kind) none may small so good =
      if_either (λ (z : UpNode). Keeps n g z s.moments) (has b.plan.members n)
      (record x { tasks = after_seize x.tasks j (seizing.begun kind b.plan.epoch b.plan.members n c.id (has (record_of x).valid j)) }) x
      (plain (record x { tasks = after_seize x.tasks j (seizing.begun kind b.plan.epoch b.plan.members n c.id (has (record_of x).valid j)) }) [] good tt tt so refl refl) (plain x [] good tt tt so refl refl)
  act_knows (Hears from b) none may small so good = plain (acted c n x (Hears from b)) [] good tt tt so refl refl
  act_knows Waits none may small so good = plain (acted c n x Waits) [] good tt tt so refl refl
  act_knows (Goes_on b j) none may small so good = plain (acted c n x (Goes_on b j)) [] good tt tt so refl refl
  act_knows (Ends b e) none may small so good = plain (acted c n x (Ends b e)) (said c n x (Ends b e)) good (tt, tt) (tt, tt) so refl refl
  act_knows (Accepts kind e members j) none may small so good = plain (acted c n x (Accepts kind e members j)) [] good tt tt so refl refl
  act_knows (Takes at command b) none may small so good = plain (acted c n x (Takes at command b)) (said c n x (Takes at command b)) good (tt, tt) (tt, tt) so refl refl
  act_knows (Stores j value b) none may small so good = plain x (said c n x (Stores j value b)) good (tt, write_well n x j value b) (tt, write_none n s.moments x j value b) so refl refl
  act_knows (Dates now) none may small so good = plain (acted c n x (Dates now)) [] good tt tt so refl refl
  act_knows (Works w) none may small so good = plain (acted c n x (Works w)) [] good tt tt so refl refl
