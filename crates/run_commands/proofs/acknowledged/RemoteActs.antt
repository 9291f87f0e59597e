-- Each act of a node keeps what it knows of the requests of others.
use Rattle.std.specs.Prelude.{ℕ, ◌≡◌, ◌≢◌, ◌⊎◌, ◌==◌, true, false, List, [], ◌∷◌, Option, None, Some, is_some}
use Rattle.std.specs.List.{AllByRecursion}
use Rattle.std.proofs.Common.{refl, sym, ap, subst, ◌∙◌, inl, inr}
use Rattle.cl_base.specs.Limits.{most_nodes}
use Rattle.cl_base.specs.Numbers.{numbers_to}
use Rattle.cl_base.specs.Sets.{has}
use Rattle.cmm_attempt.proofs.Basics.{if_either}
use Rattle.device_queue.specs.Queue.{after_seize}
use Rattle.proposals.specs.Arrivals.{answer_first, answered}
use Rattle.proposals.specs.Proposing.{less, prepared_by, ticked}
use Rattle.proposals.specs.State.{State, first_in}
use Rattle.proposals.specs.declared.arrived.Arrived.{Arrived}
use Rattle.proposals.specs.declared.arrived.Kept.{Kept}
use Rattle.proposals.specs.declared.arrived.Proposed.{Proposed}
use Rattle.request_queue.specs.Queue.{Queue}
use Rattle.seize.specs.Seizing as seizing
use Rattle.status_report.specs.CommandLines.{reply_text}
use Rattle.status_report.specs.declared.command_entry.Answer.{Answer}
use Rattle.update_words.specs.Words.{words_of}
use Rattle.wire.specs.declared.message.Body.{Body}
use Rattle.history.specs.Moment.{Moment}
use Rattle.history.specs.Setting.{Setting}
use Rattle.node_model.specs.Presidents.{sent_to}
use Rattle.node_model.specs.Seats.{record_of, session_of}
use Rattle.node_model.specs.Updates.{later_presidency}
use Rattle.node_model.specs.declared.cluster.Cluster.{Cluster}
use Rattle.node_model.specs.declared.input.Input.{Input}
use Rattle.node_model.specs.declared.node.UpNode.{UpNode}
use Rattle.node_model.specs.declared.output.Output.{Output}
use Rattle.node_model.specs.declared.output.Output.TheVariants.{Sends, Tells}
use Rattle.node_model.specs.declared.presidency.Presidency.{Presidency}
use Rattle.node_model.specs.declared.seat.Seat.{Seat}
use Rattle.refinement.specs.Doings.{Act, acted, minded, said}
use Rattle.refinement.specs.Doings.Act.{Accepts, Dates, Ends, Gives, Goes_on, Hears, Makes, Minds, Notes, Queues, Spreads, Stores, Takes, Ticks, Waits, Works, Writes}
use Rattle.refinement.proofs.Handlers.{delivered_by}
use Rattle.refinement.specs.Guards.{MayAct, SameProposed}
use Rattle.run_history.proofs.Lists.{mapped}
use Rattle.run_history.specs.Scenes.{Scene, passing}
use Rattle.run_messages.specs.Laws.{membership_in}
use Rattle.run_messages.specs.Outputs.{AreGood}
use Rattle.run_commands.specs.carried.Guards.{Command}
use Rattle.run_commands.proofs.carried.Acts.{NoMakes}
use Rattle.run_commands.proofs.carried.Causes.{PresidentAt}
use Rattle.run_commands.proofs.carried.Doings.{plain_act}
use Rattle.run_commands.proofs.carried.Lines.{AreApart}
use Rattle.run_commands.proofs.carried.Plain.{plains_apart}
use Rattle.run_commands.specs.acknowledged.Guards.{CauseOf}
use Rattle.run_commands.specs.acknowledged.Hands.{Sound, Stays_or_comes}
use Rattle.run_commands.specs.acknowledged.Steps.{HandIn}
use Rattle.run_commands.proofs.acknowledged.Acts.{CameHand}
use Rattle.run_commands.proofs.acknowledged.Granting.{NoAnswer, open_stays}
use Rattle.run_commands.proofs.acknowledged.Pending.{KeepsHand, NoneAnswered, acked_stays}
use Rattle.run_commands.proofs.acknowledged.Carrying.{ActStep, Around, CameFrom}
use Rattle.run_commands.specs.acknowledged.AnsweringGuards.{ActSo, Answers, Due, GivesSo, IsNoAnswer, MindsSo, OfBoth, TellsQuery, TellsReply, WritesSo}
use Rattle.run_commands.specs.acknowledged.AnsweringGuards.Due.{Even, Gave, Owes}
use Rattle.run_commands.proofs.acknowledged.Remote.{DueSo, IsOwed, Remote, RemoteIn, RemoteUp, place_of}
use Rattle.run_commands.specs.acknowledged.Requested.{HasRequested}
use Rattle.run_commands.proofs.acknowledged.Settled.{AnswersAreSettled}
use Rattle.run_commands.proofs.acknowledged.NoAnswers.{spread_no, still_body, still_no, ticked_no, write_no}
use Rattle.run_commands.proofs.acknowledged.Passing.{dropped_line, passing_stays, sent_line}
use Rattle.run_commands.proofs.acknowledged.Quiet.{NoAnswers, Quiet, answers_not, named_not, passing_quiet, passing_settled}
use Rattle.run_commands.proofs.acknowledged.RemoteGives.{LeavesUp, gives_first, gives_owed, writes_again}
use Rattle.run_commands.proofs.acknowledged.RemoteUps.{request_came, up_seen, up_stays}
use Rattle.run_commands.proofs.acknowledged.Remotes.{IsBefore, NewKept, remote_answered, remote_goes, remote_same}

-- ---- acts with quiet lines

-- the node is seen so, and what it has in hand goes so
quiet_leaves : (S : Setting) (c : Cluster) (n promised : ℕ) (x y : UpNode) (os : List Output) (s : Scene) → AreGood n os → AreApart n os → NoAnswers os → (is_some x.presidency ≡ true → PresidentAt x n)
    → membership_in y.seat ≡ membership_in x.seat → session_of y ≡ session_of x
    → ((next : ℕ) (ms : List Moment) → RemoteIn S c n (session_of x) Even x.presidency next ms → RemoteIn S c n (session_of x) Even y.presidency next ms) → RemoteUp S c n promised Even x s.links.next s.moments
    → AnswersAreSettled S c s.moments → LeavesUp S c n promised Even y os s
quiet_leaves S c n promised x y os s good apart never president seat session hand h told =
    let t : Scene = passing n os s in
    let k : RemoteUp S c n promised Even x t.links.next t.moments = up_stays S c n n promised Even x os s apart (passing_quiet S c n n os s good never) president (λ p is. tt) h in
    record {
      up = up_seen S c n promised Even Even x y t.links.next t.moments seat session (hand t.links.next t.moments k.hand) k;
      told = passing_settled S c n os s good never told;
    }

-- .. with the same presidency
same_leaves : (S : Setting) (c : Cluster) (n promised : ℕ) (x y : UpNode) (os : List Output) (s : Scene) → AreGood n os → AreApart n os → NoAnswers os → (is_some x.presidency ≡ true → PresidentAt x n) → y.seat ≡ x.seat
    → y.presidency ≡ x.presidency → RemoteUp S c n promised Even x s.links.next s.moments → AnswersAreSettled S c s.moments → LeavesUp S c n promised Even y os s
same_leaves S c n promised x y os s good apart never president seat presidency h told =
    quiet_leaves S c n promised x y os s good apart never president (ap membership_in seat) (ap (λ (z : Seat). session_of (record x { seat = z })) seat)
    (λ next ms k. subst (λ o. RemoteIn S c n (session_of x) Even o next ms) (sym presidency) k) h told

same_place : (s t : State) → t.proposed ≡ s.proposed → (v : ℕ) → place_of t.proposed ≡ Some v → place_of s.proposed ≡ Some v
same_place s t same v is = ap place_of (sym same) ∙ is

less_place : (o : Option Proposed) (m place v : ℕ) → place_of (less o m place) ≡ Some v → place_of o ≡ Some v
less_place None m place v is = is
less_place (Some p) m place v is = sym (if_either (λ (z : Option Proposed). place_of z ≡ Some p.place) (p.place == place) _ _ refl refl) ∙ is

later_hand : (S : Setting) (c : Cluster) (n e : ℕ) (o : Option Presidency) (next : ℕ) (ms : List Moment) → RemoteIn S c n e Even o next ms → RemoteIn S c n e Even (later_presidency o) next ms
later_hand S c n e None next ms h = h
later_hand S c n e (Some p) next ms h = remote_same S c n e Even p.proposals (ticked p.proposals) next ms refl refl (λ v is. is) h

noted_hand : (S : Setting) (c : Cluster) (n e from place : ℕ) (o : Option Presidency) (p : Presidency) (next : ℕ) (ms : List Moment) → o ≡ Some p → RemoteIn S c n e Even o next ms
    → Remote S c n e Even (prepared_by p.proposals from place) next ms
noted_hand S c n e from place o p next ms here h =
    remote_same S c n e Even p.proposals (prepared_by p.proposals from place) next ms refl refl (λ v is. less_place p.proposals.proposed from place v is) (subst (λ z. RemoteIn S c n e Even z next ms) here h)

-- ---- a message to all, while something may be due

owed_line : (S : Setting) (c : Cluster) (n e : ℕ) (a : Arrived) (answers : List (Option Kept)) (x : Moment) (ms : List Moment) → KeepsHand e x → NoneAnswered e x → NoAnswer e a.from a.number x → IsOwed S c n e a answers ms
    → IsOwed S c n e a answers (x ∷ ms)
owed_line S c n e a answers x ms keeps none never h = record {
  update = h.update;
  read = h.read;
  acked = acked_stays e (words_of h.update) x ms keeps none h.acked;
  opens = λ ne. open_stays S a.from a.number e (words_of h.update) x ms never (h.opens ne);
  kept = h.kept;
}

-- a message that is no Answer
abbrev IsOther : Output → Type 0
IsOther (Tells e) = ⊥
IsOther (Sends to b) = IsNoAnswer b

others_sent : (receivers : ℕ) (b : Body) → IsNoAnswer b → AllByRecursion IsOther (sent_to receivers b)
unfolding sent_to
others_sent receivers b h = mapped IsOther (λ k. Sends k b) (numbers_to receivers most_nodes) (λ k. h)

owed_spread : (S : Setting) (c : Cluster) (n e : ℕ) (a : Arrived) (answers : List (Option Kept)) (os : List Output) (s : Scene) → AllByRecursion IsOther os → IsOwed S c n e a answers s.moments
    → IsOwed S c n e a answers (passing n os s).moments
owed_spread S c n e a answers os s all owed =
    passing_stays IsOther n (λ ms. IsOwed S c n e a answers ms) os s (record {
      tells = λ x ms none k. absurd none;
      sends = λ p to b ms fine short k. owed_line S c n e a answers (sent_line p n to b) ms tt (λ at. answers_not b fine) (λ at q is. absurd (named_not b q fine is)) k;
      drops = λ p why ms k. owed_line S c n e a answers (dropped_line p why) ms tt tt tt k;
    }) all owed

due_spread : (S : Setting) (c : Cluster) (n e : ℕ) (d : Due) (st : State) (os : List Output) (s : Scene) → AllByRecursion IsOther os → Quiet S c n s.moments (passing n os s).moments → DueSo S c n e d st s.moments
    → DueSo S c n e d st (passing n os s).moments
due_spread S c n e Even st os s all quiet h = tt
due_spread S c n e (Gave a reply) st os s all quiet h = λ ne ok. quiet.settled e a.from a.number (h ne ok)
due_spread S c n e (Owes a) st os s all quiet h = owed_spread S c n e a st.answers os s all h

hand_due : (S : Setting) (c : Cluster) (n e : ℕ) (d : Due) (o : Option Presidency) (p : Presidency) (next : ℕ) (ms : List Moment) → o ≡ Some p → RemoteIn S c n e d o next ms → DueSo S c n e d p.proposals ms
hand_due S c n e d o p next ms here h = (subst (λ z. RemoteIn S c n e d z next ms) here h).due

spread_leaves : (S : Setting) (c : Cluster) (n promised receivers : ℕ) (b : Body) (d : Due) (x : UpNode) (s : Scene) → AreGood n (sent_to receivers b) → AreApart n (sent_to receivers b)
    → (is_some x.presidency ≡ true → PresidentAt x n) → IsNoAnswer b → RemoteUp S c n promised d x s.links.next s.moments → AnswersAreSettled S c s.moments → LeavesUp S c n promised d x (sent_to receivers b) s
spread_leaves S c n promised receivers b d x s good apart president fine h told =
    let os : List Output = sent_to receivers b in
    let quiet : Quiet S c n s.moments (passing n os s).moments = passing_quiet S c n n os s good (spread_no receivers b fine) in
    record {
      up = up_stays S c n n promised d x os s apart quiet president
          (λ p here. due_spread S c n (session_of x) d p.proposals os s (others_sent receivers b fine) quiet (hand_due S c n (session_of x) d x.presidency p s.links.next s.moments here h.hand)) h;
      told = passing_settled S c n os s good (spread_no receivers b fine) told;
    }

-- ---- what a president has in hand changes

some_no : (o : Option Proposed) (v : ℕ) → is_some o ≡ false → place_of o ≡ Some v → ⊥
some_no None v never is = cc
some_no (Some p) v never is = cc

answered_none : (s : State) (a : Arrived) (text : List ℕ) → first_in s.arrived ≡ Some a → (answered s text).proposed ≡ None
answered_none s a text first = by s.arrived first
  where
    by : (xs : List Arrived) → first_in xs ≡ Some a → (answer_first s xs text).proposed ≡ None
    by [] z = cc
    by (b ∷ rest) z = refl

-- nothing is proposed once the first is answered
answered_place : (C : Arrived → Type 0) (s : State) (a : Arrived) (text : List ℕ) (t : State) → first_in s.arrived ≡ Some a → Stays_or_comes C (answered s text) t → (v : ℕ) → place_of t.proposed ≡ Some v
    → place_of (answered s text).proposed ≡ Some v
answered_place C s a text t first (inl same) v is = absurd (some_no t.proposed v (same.2 ∙ ap is_some (answered_none s a text first)) is)
answered_place C s a text t first (inr k) v is = ap (λ (z : State). place_of z.proposed) (sym k.is) ∙ is

-- the first is answered, and then one may come
pub answers_hand : (S : Setting) (c : Cluster) (n e : ℕ) (d g : Due) (C : Arrived → Type 0) (a : Arrived) (reply : Answer) (s t : State) (next : ℕ) (ms : List Moment) → ((b : Arrived) → C b → b.from ≢ n → HasRequested b.from b.number e b.text ms)
    → IsBefore d a → Sound s → NewKept S c n e g a (reply_text reply) ms → DueSo S c n e g (answered s (reply_text reply)) ms → Answers C a reply s t → Remote S c n e d s next ms → Remote S c n e g t next ms
answers_hand S c n e d g C a reply s t next ms cause is sound new due answers h =
    remote_goes S c n e g C (answered s (reply_text reply)) t next ms cause (answered_place C s a (reply_text reply) t answers.first answers.then) answers.then
    (remote_answered S c n e d g s a (reply_text reply) next ms answers.first is sound new due h)

minds_even : (S : Setting) (c : Cluster) (n e : ℕ) (C : Arrived → Type 0) (o p : Option Presidency) (next : ℕ) (ms : List Moment) → ((b : Arrived) → C b → b.from ≢ n → HasRequested b.from b.number e b.text ms) → SameProposed o p
    → OfBoth (Stays_or_comes C) o p → RemoteIn S c n e Even o next ms → RemoteIn S c n e Even p next ms
minds_even S c n e C None None next ms cause same goes h = h
minds_even S c n e C (Some p) (Some q) next ms cause same goes h = remote_goes S c n e Even C p.proposals q.proposals next ms cause (same_place p.proposals q.proposals same) goes h
minds_even S c n e C None (Some q) next ms cause same goes h = absurd goes
minds_even S c n e C (Some p) None next ms cause same goes h = absurd goes

minds_gave : (S : Setting) (c : Cluster) (n e f : ℕ) (C : Arrived → Type 0) (a : Arrived) (reply : Answer) (o p : Option Presidency) (next : ℕ) (ms ns : List Moment)
    → ((b : Arrived) → C b → b.from ≢ n → HasRequested b.from b.number e b.text ms) → HandIn S c ns f o → OfBoth (Answers C a reply) o p → RemoteIn S c n e (Gave a reply) o next ms → RemoteIn S c n e Even p next ms
minds_gave S c n e f C a reply None None next ms ns cause hand goes h = cc
minds_gave S c n e f C a reply (Some p) (Some q) next ms ns cause hand goes h =
    answers_hand S c n e (Gave a reply) Even C a reply p.proposals q.proposals next ms cause refl hand.sound (λ ne ok owed. h.due ne ok) tt goes h
minds_gave S c n e f C a reply None (Some q) next ms ns cause hand goes h = absurd goes
minds_gave S c n e f C a reply (Some p) None next ms ns cause hand goes h = absurd goes

minds_leaves : (S : Setting) (c : Cluster) (n promised : ℕ) (i : Input) (v : Option ℕ) (x : UpNode) (q : Queue) (p : Option Presidency) (d g : Due) (s : Scene) → CameFrom i s.moments → HandIn S c s.moments (session_of x) x.presidency
    → SameProposed x.presidency p → MindsSo c i n v x d p g → RemoteUp S c n promised d x s.links.next s.moments → AnswersAreSettled S c s.moments → LeavesUp S c n promised g (minded x q p) [] s
minds_leaves S c n promised i v x q p Even g s came hand same so h told = record {
  up = subst (λ z. RemoteUp S c n promised z (minded x q p) s.links.next s.moments) (sym so.1)
      (up_seen S c n promised Even Even x (minded x q p) s.links.next s.moments refl refl
      (minds_even S c n (session_of x) (CauseOf i n v x) x.presidency p s.links.next s.moments (request_came c i n v x s.moments came) same so.0 h.hand) h);
  told = told;
}
minds_leaves S c n promised i v x q p (Gave a reply) g s came hand same so h told = record {
  up = subst (λ z. RemoteUp S c n promised z (minded x q p) s.links.next s.moments) (sym so.1)
      (up_seen S c n promised (Gave a reply) Even x (minded x q p) s.links.next s.moments refl refl
      (minds_gave S c n (session_of x) (session_of x) (CauseOf i n v x) a reply x.presidency p s.links.next s.moments s.moments (request_came c i n v x s.moments came) hand so.0 h.hand) h);
  told = told;
}
minds_leaves S c n promised i v x q p (Owes a) g s came hand same so h told = absurd so

-- ---- each act

told_no : (c : Cluster) (i : Input) (n : ℕ) (x : UpNode) (os : List Output) → TellsQuery c i n x os ⊎ TellsReply i n x os → NoAnswers os
told_no c i n x os (inl k) = subst NoAnswers (sym k.is) (tt, tt)
told_no c i n x os (inr k) = subst NoAnswers (sym k.is) (tt, tt)

gives_leaves : (S : Setting) (c : Cluster) (n promised : ℕ) (i : Input) (d g : Due) (x : UpNode) (os : List Output) (s : Scene) → AreGood n os → AreApart n os → (is_some x.presidency ≡ true → PresidentAt x n) → GivesSo c i n x d os g
    → RemoteUp S c n promised d x s.links.next s.moments → AnswersAreSettled S c s.moments → LeavesUp S c n promised g x os s
gives_leaves S c n promised i Even g x os s good apart president (inl k) h told =
    subst (λ z. LeavesUp S c n promised z x os s) (sym k.1) (same_leaves S c n promised x x os s good apart (still_no os k.0) president refl refl h told)
gives_leaves S c n promised i Even g x os s good apart president (inr (inl f)) h told = gives_first S c n promised x os g s good apart president f h told
gives_leaves S c n promised i Even g x os s good apart president (inr (inr k)) h told =
    subst (λ z. LeavesUp S c n promised z x os s) (sym k.1) (same_leaves S c n promised x x os s good apart (told_no c i n x os k.0) president refl refl h told)
gives_leaves S c n promised i (Gave a reply) g x os s good apart president so h told = absurd so
gives_leaves S c n promised i (Owes a) g x os s good apart president so h told =
    subst (λ z. LeavesUp S c n promised z x os s) (sym so.1) (gives_owed S c n promised x a os s good apart president so.0 h told)

writes_leaves : (S : Setting) (c : Cluster) (n promised : ℕ) (i : Input) (v : Option ℕ) (x : UpNode) (to : ℕ) (b : Body) (s : Scene) → AreGood n (Sends to b ∷ []) → (is_some x.presidency ≡ true → PresidentAt x n) → CameHand S c n v i s.moments
    → WritesSo c i n v x to b → RemoteUp S c n promised Even x s.links.next s.moments → AnswersAreSettled S c s.moments → LeavesUp S c n promised Even x (Sends to b ∷ []) s
writes_leaves S c n promised i v x to b s good president came (inl still) h told = same_leaves S c n promised x x (Sends to b ∷ []) s good (tt, tt) (still_body to b still, tt) president refl refl h told
writes_leaves S c n promised i v x to b s good president came (inr w) h told = writes_again S c n promised i v x to b s good president came w h told

-- where nothing is due before and after
evenly : (S : Setting) (c : Cluster) (n promised : ℕ) (d g : Due) (x y : UpNode) (os : List Output) (s : Scene) → (d ≡ Even) × (g ≡ Even) → (RemoteUp S c n promised Even x s.links.next s.moments → LeavesUp S c n promised Even y os s)
    → RemoteUp S c n promised d x s.links.next s.moments → LeavesUp S c n promised g y os s
evenly S c n promised d g x y os s is leaves h = subst (λ z. LeavesUp S c n promised z y os s) (sym is.1) (leaves (subst (λ z. RemoteUp S c n promised z x s.links.next s.moments) is.0 h))

pub remote_acts : (S : Setting) (c : Cluster) (n : ℕ) (i : Input) (v : Option ℕ) (o : Option Command) (h : Option ℕ) (promised : ℕ) (x : UpNode) (a : Act) (d g : Due) (s : Scene) → Around S c n i v o h promised x s
    → ActStep c n i v o h x a d g s → RemoteUp S c n promised d x s.links.next s.moments → AnswersAreSettled S c s.moments → LeavesUp S c n promised g (acted c n x a) (said c n x a) s
remote_acts S c n i v o h promised x a d g s k st inside told = by a st.none st.may st.so st.good (plains_apart n (said c n x a) (plain_act c n i o h x a st.none st.small st.ask))
  where
    -- its lines are these, and the node is seen so
    seen : (y : UpNode) (os : List Output) → AreGood n os → AreApart n os → NoAnswers os → y.seat ≡ x.seat → y.presidency ≡ x.presidency → (d ≡ Even) × (g ≡ Even) → LeavesUp S c n promised g y os s
    seen y os good apart never seat presidency so = evenly S c n promised d g x y os s so (λ even. same_leaves S c n promised x y os s good apart never k.before.president seat presidency even told) inside

    by : (b : Act) → NoMakes b → MayAct c n (delivered_by i) x b → ActSo c i n v x d b g → AreGood n (said c n x b) → AreApart n (said c n x b) → LeavesUp S c n promised g (acted c n x b) (said c n x b) s
    by (Gives os) none may so good apart = gives_leaves S c n promised i d g x os s good apart k.before.president so inside told
    by (Writes to b) none may so good apart =
        evenly S c n promised d g x x (Sends to b ∷ []) s (so.0, so.2) (λ even. writes_leaves S c n promised i v x to b s good k.before.president k.holds.came so.1 even told) inside
    by (Spreads receivers b) none may so good apart =
        subst (λ z. LeavesUp S c n promised z x (sent_to receivers b) s) (sym so.1) (spread_leaves S c n promised receivers b d x s good apart k.before.president so.0 inside told)
    by (Minds q p) none may so good apart = minds_leaves S c n promised i v x q p d g s k.from k.holds.up.hand may so inside told
    by (Makes change) none may so good apart = absurd none
    by (Notes from place p) none may so good apart =
        evenly S c n promised d g x (acted c n x (Notes from place p)) [] s so
        (λ even. quiet_leaves S c n promised x (acted c n x (Notes from place p)) [] s good apart tt k.before.president refl refl (λ next ms hand. noted_hand S c n (session_of x) from place x.presidency p next ms may.0 hand) even told)
        inside
    by Ticks none may so good apart =
        evenly S c n promised d g x (acted c n x Ticks) (said c n x Ticks) s so
        (λ even. quiet_leaves S c n promised x (acted c n x Ticks) (said c n x Ticks) s good apart (tt, ticked_no c x) k.before.president refl refl
        (λ next ms hand. later_hand S c n (session_of x) x.presidency next ms hand) even told) inside
    by (Queues b j kind) none may so good apart =
        if_either (λ (z : UpNode). LeavesUp S c n promised g z [] s) (has b.plan.members n)
        (record x { tasks = after_seize x.tasks j (seizing.begun kind b.plan.epoch b.plan.members n c.id (has (record_of x).valid j)) }) x
        (seen (record x { tasks = after_seize x.tasks j (seizing.begun kind b.plan.epoch b.plan.members n c.id (has (record_of x).valid j)) }) [] good apart tt refl refl so) (seen x [] good apart tt refl refl so)
    by (Hears from b) none may so good apart = seen (acted c n x (Hears from b)) [] good apart tt refl refl so
    by Waits none may so good apart = seen (acted c n x Waits) [] good apart tt refl refl so
    by (Goes_on b j) none may so good apart = seen (acted c n x (Goes_on b j)) [] good apart tt refl refl so
    by (Ends b e) none may so good apart = seen (acted c n x (Ends b e)) (said c n x (Ends b e)) good apart (tt, tt) refl refl so
    by (Accepts kind e members j) none may so good apart = seen (acted c n x (Accepts kind e members j)) [] good apart tt refl refl so
    by (Takes at command b) none may so good apart = seen (acted c n x (Takes at command b)) (said c n x (Takes at command b)) good apart (tt, tt) refl refl so
    by (Stores j value b) none may so good apart = seen x (said c n x (Stores j value b)) good apart (tt, write_no n x j value b) refl refl so
    by (Dates now) none may so good apart = seen (acted c n x (Dates now)) [] good apart tt refl refl so
    by (Works w) none may so good apart = seen (acted c n x (Works w)) [] good apart tt refl refl so
