-- What a president gives keeps what it knows of the requests of other nodes.
use Rattle.std.specs.Prelude.{ℕ, ◌≡◌, ◌≢◌, ◌≤◌, ◌==◌, ◌&&◌, nat_le, Bool, true, false, if◌then◌else◌, List, [], ◌∷◌, Option, None, Some, is_some}
use Rattle.std.proofs.Common.{refl, sym, ap, subst, ◌∙◌, arith, inl, inr}
use Rattle.answer_words.specs.Answers.{answer_in}
use Rattle.proposals.specs.State.{State, kept_at}
use Rattle.proposals.specs.declared.arrived.Arrived.{Arrived}
use Rattle.proposals.specs.declared.arrived.Kept.{Kept}
use Rattle.request_queue.specs.Queue.{found}
use Rattle.status_report.specs.CommandLines.{reply_text}
use Rattle.status_report.specs.declared.command_entry.Answer.TheVariants as answer
use Rattle.update_words.specs.Words.{words_of}
use Rattle.wire.specs.Spelling.{spelling}
use Rattle.wire.specs.declared.message.Body.{Body}
use Rattle.wire.specs.declared.message.Body.TheVariants as body
use Rattle.history.specs.Moment.{Moment}
use Rattle.history.specs.Requests.{requests_of}
use Rattle.history.specs.Setting.{Setting, coordinator}
use Rattle.node_model.specs.Entries.{answered_line}
use Rattle.node_model.specs.Presidents.{own_line}
use Rattle.node_model.specs.Seats.{session_of}
use Rattle.node_model.specs.declared.cluster.Cluster.{Cluster}
use Rattle.node_model.specs.declared.input.Input.{Input}
use Rattle.node_model.specs.declared.input.Input.TheVariants.{Packet}
use Rattle.node_model.specs.declared.node.UpNode.{UpNode}
use Rattle.node_model.specs.declared.output.Output.{Output}
use Rattle.node_model.specs.declared.output.Output.TheVariants.{Sends, Tells}
use Rattle.node_model.specs.declared.presidency.Presidency.{Presidency}
use Rattle.world_model.specs.Sends.{name_of}
use Rattle.run_history.specs.Scenes.{Scene, passing, posting}
use Rattle.run_messages.specs.Outputs.{AreGood}
use Rattle.run_commands.proofs.carried.Causes.{PresidentAt}
use Rattle.run_commands.proofs.carried.Lines.{AreApart, SameAsk, passing_ask}
use Rattle.run_commands.specs.acknowledged.Guards.{CauseOf}
use Rattle.run_commands.specs.acknowledged.Hands.{is_reached}
use Rattle.run_commands.proofs.acknowledged.Acts.{CameHand}
use Rattle.run_commands.proofs.acknowledged.Askings.{is_equal, is_same, true_two}
use Rattle.run_commands.proofs.acknowledged.Granting.{sent_grants}
use Rattle.run_commands.proofs.acknowledged.Hands.{first_of}
use Rattle.run_commands.specs.acknowledged.AnsweringGuards.{Due, GivesAgain, GivesFirst, OwedOutput}
use Rattle.run_commands.specs.acknowledged.AnsweringGuards.Due.{Even, Gave, Owes}
use Rattle.run_commands.proofs.acknowledged.Remote.{DueSo, IsOpenTo, IsOwed, KeptSettled, Remote, RemoteIn, RemoteUp, can_send}
use Rattle.run_commands.specs.acknowledged.Requested.{HasRequested}
use Rattle.run_commands.proofs.acknowledged.Settled.{AnswersAreSettled, IsSettled}
use Rattle.run_commands.proofs.acknowledged.Fresh.{fewer_wait}
use Rattle.run_commands.proofs.acknowledged.NoAnswers.{own_no}
use Rattle.run_commands.proofs.acknowledged.Numbers.{passing_next}
use Rattle.run_commands.proofs.acknowledged.Passing.{sent_line}
use Rattle.run_commands.proofs.acknowledged.Quiet.{NoAnswers, passing_none, passing_quiet, passing_settled, settled_more}
use Rattle.run_commands.proofs.acknowledged.RemoteUps.{own_of, untouched_stays, up_seen, up_stays}
use Rattle.run_commands.proofs.acknowledged.Remotes.{Lasts, can_before, quiet_lasts, remote_given, remote_more}
use Rattle.run_commands.proofs.acknowledged.Replies.{reply_ok}
use Rattle.run_commands.proofs.acknowledged.Sending.{sent_granted, sent_lasts, sent_settled}

-- what an act leaves
pub record LeavesUp (S : Setting) (c : Cluster) (n promised : ℕ) (g : Due) (y : UpNode) (os : List Output) (s : Scene) : Type 0 where
  pub up : RemoteUp S c n promised g y (passing n os s).links.next (passing n os s).moments
  pub told : AnswersAreSettled S c (passing n os s).moments

-- what is due is another thing then
redue : (S : Setting) (c : Cluster) (n e : ℕ) (d g : Due) (s : State) (next : ℕ) (ms : List Moment) → ((m q : ℕ) → IsOpenTo n g s.answers m q → IsOpenTo n d s.answers m q) → KeptSettled S c n e g s.answers next ms → DueSo S c n e g s ms
    → Remote S c n e d s next ms → Remote S c n e g s next ms
redue S c n e d g s next ms less kept due h = record { waits = fewer_wait (IsOpenTo n d s.answers) (IsOpenTo n g s.answers) (requests_of S e ms) less h.waits; kept = kept; came = h.came; first = h.first; due = due }

-- ---- an Answer to another node

-- the node around its hand
around_hand : (S : Setting) (c : Cluster) (n promised : ℕ) (d g : Due) (x : UpNode) (p : Presidency) (to q : ℕ) (text : List ℕ) (s : Scene) → x.presidency ≡ Some p → RemoteUp S c n promised d x s.links.next s.moments
    → (let t : Scene = posting n to (record { sender = n; body = body.Answer (session_of x) q text }) s in Remote S c n (session_of x) g p.proposals t.links.next t.moments → RemoteUp S c n promised g x t.links.next t.moments)
around_hand S c n promised d g x p to q text s here h hand =
    let os : List Output = Sends to (body.Answer (session_of x) q text) ∷ [] in
    record {
      within = untouched_stays S n n promised os s (tt, tt) h.within;
      forming = λ none some own. passing_none S n n (session_of x) os s own (tt, tt) (h.forming none some own);
      hand = subst (λ o. RemoteIn S c n (session_of x) g o (passing n os s).links.next (passing n os s).moments) (sym here) hand;
    }

-- the hand with the lines of the Answer
sent_hand : (S : Setting) (c : Cluster) (n e to q : ℕ) (text : List ℕ) (d : Due) (st : State) (s : Scene) → coordinator e ≡ n → (IsOpenTo n d st.answers to q → ⊥)
    → (let t : Scene = posting n to (record { sender = n; body = body.Answer e q text }) s in DueSo S c n e d st t.moments → Remote S c n e d st s.links.next s.moments → Remote S c n e d st t.links.next t.moments)
sent_hand S c n e to q text d st s own never due h =
    let os : List Output = Sends to (body.Answer e q text) ∷ [] in
    let t : Scene = passing n os s in
    let same : SameAsk S n s.moments t.moments = passing_ask S n n os s (tt, tt) in
    remote_more S c n e d st s.links.next t.links.next s.moments t.moments (sent_lasts S c n e to q text d st.answers s never) (λ v. same.proposed e v own) (passing_next n os s) due h

-- ---- the first request gets its answer

none_given : (m q : ℕ) → ((m == m) && (q == q)) ≡ false → ⊥
none_given m q h = never ((m == m) && (q == q)) (true_two (m == m) (q == q) (is_same m) (is_same q)) h
  where
    never : (b : Bool) → b ≡ true → b ≡ false → ⊥
    never b x y = cc

-- it is no update's
first_settled : (S : Setting) (c : Cluster) (n : ℕ) (x : UpNode) (os : List Output) (g : Due) (next : ℕ) (ms : List Moment) → (f : GivesFirst c n x os g) → Remote S c n (session_of x) Even f.presidency.proposals next ms → f.request.from ≢ n
    → answer_in (reply_text f.reply) ≡ Some answer.Ok → IsSettled S c (session_of x) f.request.from f.request.number ms
first_settled S c n x os g next ms f h ne ok =
    inr (
      f.request.text,
      first_of (λ (a : Arrived). a.from ≢ n → HasRequested a.from a.number (session_of x) a.text ms) f.presidency.proposals f.request h.came f.first ne,
      f.plain (reply_ok f.reply ok),
    )

pub gives_first : (S : Setting) (c : Cluster) (n promised : ℕ) (x : UpNode) (os : List Output) (g : Due) (s : Scene) → AreGood n os → AreApart n os → (is_some x.presidency ≡ true → PresidentAt x n) → GivesFirst c n x os g
    → RemoteUp S c n promised Even x s.links.next s.moments → AnswersAreSettled S c s.moments → LeavesUp S c n promised g x os s
gives_first S c n promised x os g s good apart president f h told =
    subst (λ z. LeavesUp S c n promised z x os s) (sym f.then) (subst (λ (zs : List Output). LeavesUp S c n promised gave x zs s) (sym f.is)
    (by (f.request.from == n) refl (subst (AreGood n) f.is good) (subst (AreApart n) f.is apart)))
  where
    a : Arrived
    a = f.request

    gave : Due
    gave = Gave f.request f.reply

    e : ℕ
    e = session_of x

    b : Body
    b = body.Answer (session_of x) f.request.number (reply_text f.reply)

    own : coordinator (session_of x) ≡ n
    own = own_of x n (president (ap is_some f.here))

    hand : Remote S c n (session_of x) Even f.presidency.proposals s.links.next s.moments
    hand = subst (λ o. RemoteIn S c n (session_of x) Even o s.links.next s.moments) f.here h.hand

    given : (next : ℕ) (ms : List Moment) → DueSo S c n (session_of x) (Gave f.request f.reply) f.presidency.proposals ms → Remote S c n (session_of x) Even f.presidency.proposals next ms
        → Remote S c n (session_of x) (Gave f.request f.reply) f.presidency.proposals next ms
    given next ms due k =
        redue S c n (session_of x) Even (Gave f.request f.reply) f.presidency.proposals next ms (λ m q z. record { other = z.other; later = z.later; given = tt }) k.kept due k

    to_own : (f.request.from == n) ≡ true → (zs : List Output) → NoAnswers zs → AreGood n zs → AreApart n zs → LeavesUp S c n promised (Gave f.request f.reply) x zs s
    to_own is zs never fine far =
        let t : Scene = passing n zs s in
        let due : DueSo S c n (session_of x) (Gave f.request f.reply) f.presidency.proposals t.moments = λ ne ok. absurd (ne (is_equal f.request.from n is)) in
        let k : RemoteUp S c n promised Even x t.links.next t.moments = up_stays S c n n promised Even x zs s far (passing_quiet S c n n zs s fine never) president (λ p at. tt) h in
        let rest : Remote S c n (session_of x) Even f.presidency.proposals t.links.next t.moments = subst (λ o. RemoteIn S c n (session_of x) Even o t.links.next t.moments) f.here k.hand in
        record {
          up = up_seen S c n promised Even (Gave f.request f.reply) x x t.links.next t.moments refl refl
              (subst (λ o. RemoteIn S c n (session_of x) (Gave f.request f.reply) o t.links.next t.moments) (sym f.here) (given t.links.next t.moments due rest)) k;
          told = passing_settled S c n zs s fine never told;
        }

    to_other : AreGood n (Sends f.request.from b ∷ []) → LeavesUp S c n promised (Gave f.request f.reply) x (Sends f.request.from b ∷ []) s
    to_other fine =
        let first : DueSo S c n (session_of x) (Gave f.request f.reply) f.presidency.proposals s.moments = λ ne ok. first_settled S c n x os g s.links.next s.moments f hand ne ok in
        let never : IsOpenTo n (Gave f.request f.reply) f.presidency.proposals.answers f.request.from f.request.number → ⊥ = λ z. none_given f.request.from f.request.number z.given in
        let lasts : Lasts S c n (session_of x) (Gave f.request f.reply) f.presidency.proposals.answers s.moments (posting n f.request.from (record { sender = n; body = b }) s).moments =
        sent_lasts S c n (session_of x) f.request.from f.request.number (reply_text f.reply) (Gave f.request f.reply) f.presidency.proposals.answers s never in
        record {
          up = around_hand S c n promised Even (Gave f.request f.reply) x f.presidency f.request.from f.request.number (reply_text f.reply) s f.here h
              (sent_hand S c n (session_of x) f.request.from f.request.number (reply_text f.reply) (Gave f.request f.reply) f.presidency.proposals s own never (λ ne ok. lasts.settled f.request.from f.request.number (first ne ok))
              (given s.links.next s.moments first hand));
          told = sent_settled S c n (session_of x) f.request.from f.request.number (reply_text f.reply) s fine.0
              (λ p is ne ok. settled_more S c (session_of x) f.request.from f.request.number (sent_line p n f.request.from b) s.moments (first ne ok)) told;
        }

    by : (z : Bool) → (f.request.from == n) ≡ z → AreGood n (if z then own_line n f.reply (found x.requests.waiting f.request.number) else Sends f.request.from b ∷ [])
        → AreApart n (if z then own_line n f.reply (found x.requests.waiting f.request.number) else Sends f.request.from b ∷ [])
        → LeavesUp S c n promised (Gave f.request f.reply) x (if z then own_line n f.reply (found x.requests.waiting f.request.number) else Sends f.request.from b ∷ []) s
    by true is fine far = to_own is (own_line n f.reply (found x.requests.waiting f.request.number)) (own_no n f.reply (found x.requests.waiting f.request.number)) fine far
    by false is fine far = to_other fine

-- ---- the answer that is owed

some_kept : (x y : Kept) → Some x ≡ Some y → x ≡ y
some_kept x y e = cc

reached_here : (k : Kept) (q : ℕ) → k.number ≡ q → is_reached (Some k) q ≡ true
reached_here k q is = subst (λ z. nat_le z k.number ≡ true) is (reached_same k.number)
  where
    reached_same : (z : ℕ) → nat_le z z ≡ true
    reached_same z = grind arith

past_not : (answers : List (Option Kept)) (n : ℕ) (d : Due) (to q : ℕ) (k : Kept) → kept_at answers to ≡ Some k → k.number ≡ q → IsOpenTo n d answers to q → ⊥
past_not answers n d to q k at is f = never (is_reached (kept_at answers to) q) (ap (λ o. is_reached o q) at ∙ reached_here k q is) f.later
  where
    never : (b : Bool) → b ≡ true → b ≡ false → ⊥
    never b x y = cc

-- it is sent
owed_sent : (S : Setting) (c : Cluster) (n e : ℕ) (a : Arrived) (st : State) (s : Scene) → coordinator e ≡ n → a.from ≢ n → Remote S c n e (Owes a) st s.links.next s.moments
    → (let t : Scene = posting n a.from (record { sender = n; body = body.Answer e a.number (reply_text answer.Ok) }) s in Remote S c n e Even st t.links.next t.moments)
owed_sent S c n e a st s own ne h =
    let os : List Output = Sends a.from (body.Answer e a.number (reply_text answer.Ok)) ∷ [] in
    let t : Scene = passing n os s in
    let owed : IsOwed S c n e a st.answers s.moments = h.due in
    let this : Kept = record { number = a.number; text = reply_text answer.Ok } in
    let never : IsOpenTo n (Owes a) st.answers a.from a.number → ⊥ = past_not st.answers n (Owes a) a.from a.number this (owed.kept ne) refl in
    let same : SameAsk S n s.moments t.moments = passing_ask S n n os s (tt, tt) in
    remote_given S c n e a st s.links.next t.links.next s.moments t.moments (sent_lasts S c n e a.from a.number (reply_text answer.Ok) (Owes a) st.answers s never) (λ v. same.proposed e v own) (passing_next n os s)
    (λ other k at can.
    let is : this ≡ k = some_kept this k (sym (owed.kept ne) ∙ at) in
    subst (λ (z : Kept). IsSettled S c e a.from z.number t.moments) is
    (sent_granted S c n e a.from a.number (reply_text answer.Ok) (words_of owed.update) s own owed.acked (owed.opens ne)
    (can_before s.links.next t.links.next n (body.Answer e a.number (reply_text answer.Ok)) (passing_next n os s)
    (subst (λ (z : Kept). can_send t.links.next n (body.Answer e z.number z.text) ≡ true) (sym is) can)))) h

-- the presidency in which it is owed
pub record HasHand (S : Setting) (c : Cluster) (n e : ℕ) (d : Due) (o : Option Presidency) (next : ℕ) (ms : List Moment) : Type 0 where
  pub presidency : Presidency
  pub here : o ≡ Some presidency
  pub hand : Remote S c n e d presidency.proposals next ms

pub owes_hand : (S : Setting) (c : Cluster) (n e : ℕ) (a : Arrived) (o : Option Presidency) (next : ℕ) (ms : List Moment) → RemoteIn S c n e (Owes a) o next ms → HasHand S c n e (Owes a) o next ms
owes_hand S c n e a None next ms h = cc
owes_hand S c n e a (Some p) next ms h = record { presidency = p; here = refl; hand = h }

owed_settled : (S : Setting) (c : Cluster) (n e : ℕ) (a : Arrived) (answers : List (Option Kept)) (p : ℕ) (ms : List Moment) → coordinator e ≡ n → a.from ≢ n → IsOwed S c n e a answers ms
    → IsSettled S c e a.from a.number (sent_line p n a.from (body.Answer e a.number (reply_text answer.Ok)) ∷ ms)
owed_settled S c n e a answers p ms own ne owed =
    inl (sent_grants S a.from a.number e p n (words_of owed.update) (name_of (body.Answer e a.number (reply_text answer.Ok))) (spelling (record { sender = n; body = body.Answer e a.number (reply_text answer.Ok) })) ms (sym own) refl
    owed.acked (owed.opens ne))

pub gives_owed : (S : Setting) (c : Cluster) (n promised : ℕ) (x : UpNode) (a : Arrived) (os : List Output) (s : Scene) → AreGood n os → AreApart n os → (is_some x.presidency ≡ true → PresidentAt x n) → OwedOutput n x a os
    → RemoteUp S c n promised (Owes a) x s.links.next s.moments → AnswersAreSettled S c s.moments → LeavesUp S c n promised Even x os s
gives_owed S c n promised x a os s good apart president out h told = by out
  where
    k : HasHand S c n (session_of x) (Owes a) x.presidency s.links.next s.moments
    k = owes_hand S c n (session_of x) a x.presidency s.links.next s.moments h.hand

    own : coordinator (session_of x) ≡ n
    own = own_of x n (president (ap is_some k.here))

    b : Body
    b = body.Answer (session_of x) a.number (reply_text answer.Ok)

    -- nothing is sent
    to_own : a.from ≡ n → (zs : List Output) → NoAnswers zs → AreGood n zs → AreApart n zs → LeavesUp S c n promised Even x zs s
    to_own is zs never fine far =
        let t : Scene = passing n zs s in
        let same : SameAsk S n s.moments t.moments = passing_ask S n n zs s far in
        let hand : Remote S c n (session_of x) Even k.presidency.proposals t.links.next t.moments =
        remote_given S c n (session_of x) a k.presidency.proposals s.links.next t.links.next s.moments t.moments
        (quiet_lasts S c n (session_of x) (Owes a) k.presidency.proposals.answers s.moments t.moments own (passing_quiet S c n n zs s fine never)) (λ v. same.proposed (session_of x) v own) (passing_next n zs s)
        (λ ne z at can. absurd (ne is)) k.hand in
        record {
          up = record {
            within = untouched_stays S n n promised zs s far h.within;
            forming = λ none some mine. passing_none S n n (session_of x) zs s mine far (h.forming none some mine);
            hand = subst (λ o. RemoteIn S c n (session_of x) Even o t.links.next t.moments) (sym k.here) hand;
          };
          told = passing_settled S c n zs s fine never told;
        }

    to_other : a.from ≢ n → AreGood n (Sends a.from b ∷ []) → LeavesUp S c n promised Even x (Sends a.from b ∷ []) s
    to_other ne fine = record {
      up = around_hand S c n promised (Owes a) Even x k.presidency a.from a.number (reply_text answer.Ok) s k.here h (owed_sent S c n (session_of x) a k.presidency.proposals s own ne k.hand);
      told = sent_settled S c n (session_of x) a.from a.number (reply_text answer.Ok) s fine.0 (λ p is other ok. owed_settled S c n (session_of x) a k.presidency.proposals.answers p s.moments own ne k.hand.due) told;
    }

    by : OwedOutput n x a os → LeavesUp S c n promised Even x os s
    by (inl z) = subst (λ (zs : List Output). LeavesUp S c n promised Even x zs s) (sym z.1) (to_other z.0 (subst (AreGood n) z.1 good))
    by (inr (z, inl is)) = subst (λ (zs : List Output). LeavesUp S c n promised Even x zs s) (sym is) (to_own z [] tt tt tt)
    by (inr (z, inr is)) =
        subst (λ (zs : List Output). LeavesUp S c n promised Even x zs s) (sym is)
        (to_own z (Tells (answered_line n a.number answer.Ok) ∷ []) (tt, tt) (subst (AreGood n) is good) (subst (AreApart n) is apart))

-- ---- the last answer goes again

again_from : (S : Setting) (c : Cluster) (n : ℕ) (i : Input) (v : Option ℕ) (x : UpNode) (ms : List Moment) → CameHand S c n v i ms → (a : Arrived) → CauseOf i n v x a → a.from ≢ n → 1 ≤ a.from
again_from S c n i v x ms came a (inl k) ne =
    let it : CameHand S c n v (Packet a.from k.message) ms = subst (λ (z : Input). CameHand S c n v z ms) k.input came in
    it.0.0
again_from S c n i v x ms came a (inr k) ne = absurd (ne (ap (λ (z : Arrived). z.from) k.is))

pub writes_again : (S : Setting) (c : Cluster) (n promised : ℕ) (i : Input) (v : Option ℕ) (x : UpNode) (to : ℕ) (b : Body) (s : Scene) → AreGood n (Sends to b ∷ []) → (is_some x.presidency ≡ true → PresidentAt x n)
    → CameHand S c n v i s.moments → GivesAgain c i n v x to b → RemoteUp S c n promised Even x s.links.next s.moments → AnswersAreSettled S c s.moments → LeavesUp S c n promised Even x (Sends to b ∷ []) s
writes_again S c n promised i v x to b s good president came w h told =
    subst (λ (z : Body). LeavesUp S c n promised Even x (Sends to z ∷ []) s) (sym w.is) (again (subst (λ (z : Body). AreGood n (Sends to z ∷ [])) w.is good))
  where
    own : coordinator (session_of x) ≡ n
    own = own_of x n (president (ap is_some w.here))

    hand : Remote S c n (session_of x) Even w.presidency.proposals s.links.next s.moments
    hand = subst (λ o. RemoteIn S c n (session_of x) Even o s.links.next s.moments) w.here h.hand

    never : IsOpenTo n Even w.presidency.proposals.answers to w.kept.number → ⊥
    never = past_not w.presidency.proposals.answers n Even to w.kept.number w.kept w.last refl

    low : to ≢ n → 1 ≤ to
    low ne = subst (λ z. 1 ≤ z) w.from (again_from S c n i v x s.moments came w.request w.cause (λ z. ne (sym w.from ∙ z)))

    again : AreGood n (Sends to (body.Answer (session_of x) w.kept.number w.kept.text) ∷ []) → LeavesUp S c n promised Even x (Sends to (body.Answer (session_of x) w.kept.number w.kept.text) ∷ []) s
    again fine = record {
      up = around_hand S c n promised Even Even x w.presidency to w.kept.number w.kept.text s w.here h (sent_hand S c n (session_of x) to w.kept.number w.kept.text Even w.presidency.proposals s own never tt hand);
      told = sent_settled S c n (session_of x) to w.kept.number w.kept.text s fine.0
          (λ p is ne ok. settled_more S c (session_of x) to w.kept.number (sent_line p n to (body.Answer (session_of x) w.kept.number w.kept.text)) s.moments (hand.kept to w.kept (low ne) ne w.last ok tt is)) told;
    }
