-- What a president gives at a small step: its Answers go to others, and to a command of its own it says `ok` for a reason.
use Rattle.std.specs.Prelude.{ℕ, ◌≡◌, ◌≢◌, ◌≤◌, ◌%◌, ◌==◌, ◌&&◌, nat_le, Bool, true, false, if◌then◌else◌, List, [], ◌∷◌, Option, None, Some, is_some}
use Rattle.std.specs.List.{AllByRecursion}
use Rattle.std.proofs.Common.{refl, sym, ap, subst, ◌∙◌, arith, inl, inr}
use Rattle.admin_words.specs.Commands.{request_of}
use Rattle.cl_base.specs.Limits.{most_nodes}
use Rattle.cl_base.specs.Numbers.{numbers_to}
use Rattle.cmm_attempt.proofs.Basics.{and_cases, none_some, same_number, same_some}
use Rattle.proposals.specs.State.{first_in, kept_at}
use Rattle.proposals.specs.declared.arrived.Arrived.{Arrived}
use Rattle.request_queue.specs.Queue.{Queue, found, oldest, oldest_in}
use Rattle.request_queue.specs.declared.request.Request.{Request}
use Rattle.status_report.specs.CommandLines.{reply_text}
use Rattle.status_report.specs.declared.command_entry.Answer.{Answer}
use Rattle.status_report.specs.declared.command_entry.Answer.TheVariants as answer
use Rattle.status_report.specs.declared.command_entry.CommandEntry.TheVariants as command
use Rattle.status_report.specs.declared.entry.Entry.{Entry}
use Rattle.status_report.specs.declared.entry.Entry.TheVariants as entry
use Rattle.wire.specs.declared.message.Body.{Body}
use Rattle.wire.specs.declared.message.Body.TheVariants as body
use Rattle.wire.specs.declared.message.Message.{Message}
use Rattle.world_model.specs.Sends.{name_of}
use Rattle.history.specs.Letters.{Letter}
use Rattle.history.specs.Member.{member_of}
use Rattle.history.specs.Moment.{Moment}
use Rattle.history.specs.Names.{named}
use Rattle.history.specs.Requests.{command_of}
use Rattle.history.specs.Setting.{Setting, coordinator}
use Rattle.history.specs.Trace.{answered}
use Rattle.node_model.specs.Entries.{answered_line}
use Rattle.node_model.specs.Presidents.{own_line, sent_to}
use Rattle.node_model.specs.Seats.{is_in, is_member, node_numbered, session_of, state_of, version_of}
use Rattle.node_model.specs.declared.cluster.Cluster.{Cluster}
use Rattle.node_model.specs.declared.input.Input.{Input}
use Rattle.node_model.specs.declared.input.Input.TheVariants.{Commanded}
use Rattle.node_model.specs.declared.node.UpNode.{UpNode}
use Rattle.node_model.specs.declared.output.Output.{Output}
use Rattle.node_model.specs.declared.output.Output.TheVariants.{Sends, Tells}
use Rattle.node_model.specs.declared.presidency.Presidency.{Presidency}
use Rattle.node_model.specs.declared.seat.Seat.{Seat}
use Rattle.node_model.specs.declared.seat.Seat.TheVariants.{Forming, Member}
use Rattle.run_history.proofs.Lists.{mapped, when_some}
use Rattle.run_history.specs.Scenes.{Scene, passing}
use Rattle.run_messages.specs.Laws.{membership_in}
use Rattle.run_messages.specs.Outputs.{AreGood}
use Rattle.run_commands.proofs.carried.Asides.{found_number}
use Rattle.run_commands.proofs.carried.Causes.{AnswerOwn, ArrivedSo, CameSo, PresidentAt}
use Rattle.run_commands.proofs.carried.Queues.{Queued, oldest_says}
use Rattle.run_commands.specs.acknowledged.Guards.{CauseOf, IsIn, IsRequested}
use Rattle.run_commands.specs.acknowledged.Hands.{is_reached}
use Rattle.run_commands.proofs.acknowledged.Askings.{is_equal, is_same}
use Rattle.run_commands.proofs.acknowledged.Granting.{IsAcked}
use Rattle.run_commands.proofs.acknowledged.Hands.{first_of}
use Rattle.run_commands.proofs.acknowledged.Carrying.{CameFrom, FromLetter}
use Rattle.run_commands.specs.acknowledged.AnsweringGuards.{AreStill, Due, GivesAgain, GivesFirst, GivesSo, IsNoAnswer, IsStill, OwedOutput, TellsQuery, TellsReply, WritesSo}
use Rattle.run_commands.specs.acknowledged.AnsweringGuards.Due.{Even, Gave, Owes}
use Rattle.run_commands.proofs.acknowledged.Own.{BodyOwn, GoesAway, IsFirstOf, IsOutward, IsUnanswered, NoRequest, NowAsked, OutputOwn, OwnHand, OwnIn, OwnSo, OwnTold, OwnUp, ReadsOwn, TakesReply}
use Rattle.run_commands.specs.acknowledged.Requested.{IsPlain}
use Rattle.run_commands.proofs.acknowledged.Settled.{IsOwnSettled}
use Rattle.run_commands.proofs.acknowledged.OwnLines.{AreQuiet, BodyAway, IsQuietOut, answer_told, arrived_is, passing_quiet, posting_told}
use Rattle.run_commands.proofs.acknowledged.OwnMinds.{SoundIn}

-- what is known of the node before a small step
pub record OwnFacts (S : Setting) (c : Cluster) (n : ℕ) (i : Input) (x : UpNode) (ms : List Moment) : Type 0 where
  pub range : (1 ≤ n) × (n ≤ 32)
  pub queued : Queued S n ms (membership_in x.seat) x.requests
  pub president : is_some x.presidency ≡ true → PresidentAt x n
  pub came : CameSo i n ms
  pub from : CameFrom i ms
  pub seated : member_of n ms ≡ membership_in x.seat
  pub now : NowAsked S n i x.requests.asked ms
  pub sound : SoundIn x.presidency

-- ---- nothing comes from the node itself

seat_session : (x : UpNode) (e : ℕ) → membership_in x.seat ≡ Some e → session_of x ≡ e
seat_session x e at = by x.seat refl at
  where
    by : (seat : Seat) → x.seat ≡ seat → membership_in seat ≡ Some e → session_of x ≡ e
    by (Forming s) same is = absurd (none_some e is)
    by (Member s) same is = ap (λ (z : Seat). (state_of z).session) same ∙ same_some s.session e is

pub own_asked : (S : Setting) (c : Cluster) (n : ℕ) (i : Input) (v : Option ℕ) (x : UpNode) (ms : List Moment) (a : Arrived) → OwnFacts S c n i x ms → OwnTold S ms → IsRequested i v x a → a.from ≢ n
own_asked S c n i v x ms a f told k own =
    let came : ArrivedSo ms n a.from k.message = subst (λ z. CameSo z n ms) k.input f.came in
    let from : FromLetter a.from k.message ms = subst (λ z. CameFrom z ms) k.input f.from in
    let same : came.letter ≡ from.letter = same_some came.letter from.letter (sym came.here ∙ from.here) in
    (arrived_is IsOutward came.letter ms told.letters came.here).request a.number (came.called ∙ ap (λ b. named (name_of b)) k.says)
    (came.to ∙ (sym own ∙ (sym from.sender ∙ ap (λ (l : Letter). l.from) (sym same))))

-- an Answer of a membership that it coordinates
no_answer : (S : Setting) (n from e q : ℕ) (m : Message) (text : List ℕ) (ms : List Moment) → OwnTold S ms → ArrivedSo ms n from m → m.body ≡ body.Answer e q text → coordinator e ≡ n → ⊥
no_answer S n from e q m text ms told came says own =
    (arrived_is IsOutward came.letter ms told.letters came.here).answer q (came.called ∙ ap (λ b. named (name_of b)) says) (came.to ∙ (sym own ∙ sym (sent_by m.body says came.own)))
  where
    sent_by : (b : Body) → b ≡ body.Answer e q text → AnswerOwn came.letter.from b → came.letter.from ≡ coordinator e
    sent_by b is h = subst (λ z. AnswerOwn came.letter.from z) is h

here_is : (x : UpNode) (e : ℕ) → is_in x e ≡ true → session_of x ≡ e
here_is x e h = same_number (session_of x) e (and_cases (nat_le 1 e) (session_of x == e) h).1

pub own_reply : (S : Setting) (c : Cluster) (n : ℕ) (i : Input) (x : UpNode) (ms : List Moment) (q : Queue) (p : Option Presidency) → OwnFacts S c n i x ms → OwnTold S ms → is_some x.presidency ≡ true → TakesReply i x q p → ⊥
own_reply S c n i x ms q p f told so k =
    let at : PresidentAt x n = f.president so in
    no_answer S n k.from k.epoch k.number k.message k.text ms told (subst (λ z. CameSo z n ms) k.input f.came) k.says_so
    (ap coordinator (sym (here_is x k.epoch (and_cases (is_member x.seat) (is_in x k.epoch) k.here).1) ∙ at.session) ∙ at.own)

-- ---- a Request goes away

none_first : (q : Queue) → q.waiting ≡ [] → is_some (oldest q) ≡ true → ⊥
none_first q none so = no (ap (λ rs. is_some (oldest_in rs)) (sym none) ∙ so)
  where
    no : false ≡ true → ⊥
    no z = cc

numbered_is : (k to : ℕ) → node_numbered k ≡ Some to → k ≡ to
numbered_is k to h = by (nat_le 1 k && nat_le k most_nodes) h
  where
    by : (b : Bool) → (if b then Some k else None) ≡ Some to → k ≡ to
    by true is = same_some k to is
    by false is = absurd (none_some to is)

pub goes_away : (S : Setting) (c : Cluster) (n to : ℕ) (i : Input) (x : UpNode) (ms : List Moment) → OwnFacts S c n i x ms → OwnSo n x → GoesAway x to → to ≢ n
goes_away S c n to i x ms f own k is = by (membership_in x.seat) refl
  where
    by : (m : Option ℕ) → membership_in x.seat ≡ m → ⊥
    by None at = none_first x.requests (f.queued.none at) k.waits
    by (Some e) at =
        no (ap is_some (sym k.none) ∙ own.office e at (ap coordinator (sym (seat_session x e at)) ∙ (numbered_is (session_of x % 64) to k.coordinates ∙ is)))
      where
        no : false ≡ true → ⊥
        no z = cc

-- ---- lists of outputs

still_out : (n : ℕ) (e : Entry) → IsStill (Tells e) → AreGood n (Tells e ∷ []) → IsQuietOut n (Tells e)
still_out n (entry.Command (command.Answered m q answer.Ok)) still good = absurd still
still_out n (entry.Packet e) still good = absurd good.0
still_out n _ still good = tt

still_body : (n to : ℕ) (x : UpNode) (b : Body) → (GoesAway x to → to ≢ n) → IsStill (Sends to b) → BodyOwn x to b → BodyAway n to b
still_body n to x (body.Request e q text) away still own = away own
still_body n to x (body.Answer e q text) away still own = absurd still
still_body n to x _ away still own = tt

still_quiet : (n : ℕ) (x : UpNode) (os : List Output) → ((to : ℕ) → GoesAway x to → to ≢ n) → AreGood n os → AreStill os → AllByRecursion (OutputOwn x) os → AreQuiet n os
still_quiet n x [] away good still own = tt
still_quiet n x (Tells e ∷ os) away good still own = (still_out n e still.0 (good.0, tt), still_quiet n x os away good.1 still.1 own.1)
still_quiet n x (Sends to b ∷ os) away good still own = (still_body n to x b (away to) still.0 own.0, still_quiet n x os away good.1 still.1 own.1)

spread_body : (n to : ℕ) (b : Body) → IsNoAnswer b → NoRequest b → BodyAway n to b
spread_body n to (body.Request e q text) none own = absurd own
spread_body n to (body.Answer e q text) none own = absurd none
spread_body n to _ none own = tt

pub spread_quiet : (n receivers : ℕ) (b : Body) → IsNoAnswer b → NoRequest b → AreQuiet n (sent_to receivers b)
unfolding sent_to
spread_quiet n receivers b none own = mapped (IsQuietOut n) (λ k. Sends k b) (numbers_to receivers most_nodes) (λ k. spread_body n k b none own)

-- ---- the words of its own first request

own_first : (n : ℕ) (x : UpNode) (p : Presidency) (a : Arrived) → x.presidency ≡ Some p → first_in p.proposals.arrived ≡ Some a → OwnSo n x → IsFirstOf n x.requests.waiting a
own_first n x p a here first own =
    let hand : OwnHand n x.requests.asked x.requests.waiting p.proposals = subst (OwnIn n x.requests.asked x.requests.waiting) here own.hand in
    first_of (IsFirstOf n x.requests.waiting) p.proposals a hand.first first

pub own_text : (S : Setting) (n : ℕ) (x : UpNode) (p : Presidency) (a : Arrived) (ms : List Moment) (words : List ℕ) → Queued S n ms (membership_in x.seat) x.requests → OwnSo n x → x.presidency ≡ Some p
    → first_in p.proposals.arrived ≡ Some a → a.from ≡ n → command_of S n a.number ms ≡ Some words → a.text ≡ words
own_text S n x p a ms words queued own here first mine is =
    when_some (λ w. a.text ≡ w) (command_of S n a.number ms) words (oldest_says S n ms (membership_in x.seat) x.requests a.number a.text queued (own_first n x p a here first own mine)) is

-- ---- its lines

settled_by : (S : Setting) (n q : ℕ) (reply : Answer) (ms : List Moment) → (reply ≡ answer.Ok → IsOwnSettled S ms (answered n q answer.Ok)) → IsOwnSettled S ms (answered n q reply)
settled_by S n q answer.Ok ms so = so refl
settled_by S n q _ ms so = tt

-- what is no update's needs no acknowledgement
plain_settled : (S : Setting) (c : Cluster) (n : ℕ) (x : UpNode) (k : ℕ) (p : Presidency) (a : Arrived) (reply : Answer) (ms : List Moment) → ReadsOwn c S → Queued S n ms (membership_in x.seat) x.requests → OwnSo n x
    → x.presidency ≡ Some p → first_in p.proposals.arrived ≡ Some a → a.from ≡ n → k ≡ a.number → (reply ≡ answer.Ok → IsPlain c a.text) → IsOwnSettled S ms (answered n k reply)
plain_settled S c n x k p a reply ms reads queued own here first mine number plain =
    settled_by S n k reply ms
    (λ ok e words member at is update.
    let text : a.text ≡ words = own_text S n x p a ms words queued own here first mine (ap (λ q. command_of S n q ms) (sym number) ∙ is) in
    let read : _ = reads.updates words update in
    absurd (plain ok read.0 (ap (λ t. request_of (version_of c) t) text ∙ read.1)))

first_told : (S : Setting) (c : Cluster) (n : ℕ) (i : Input) (x : UpNode) (s : Scene) (g : Due) (os : List Output) → ReadsOwn c S → OwnFacts S c n i x s.moments → OwnSo n x → GivesFirst c n x os g → OwnTold S s.moments
    → OwnTold S (passing n os s).moments
first_told S c n i x s g os reads f own k told =
    subst (λ (z : List Output). OwnTold S (passing n z s).moments) (sym k.is) (by (k.request.from == n) refl)
  where
    line : (mine : k.request.from ≡ n) (o : Option Request) → found x.requests.waiting k.request.number ≡ o → OwnTold S (passing n (own_line n k.reply o) s).moments
    line mine None is = told
    line mine (Some r) is = by_told r.told
      where
        by_told : (b : Bool) → OwnTold S (passing n (if b then Tells (answered_line n r.number k.reply) ∷ [] else []) s).moments
        by_told true =
            answer_told S n r.number k.reply s.moments
            (plain_settled S c n x r.number k.presidency k.request k.reply s.moments reads f.queued own k.here k.first mine (found_number x.requests.waiting k.request.number r is) k.plain) told
        by_told false = told

    by : (b : Bool) → (k.request.from == n) ≡ b
        → OwnTold S (passing n (if b then own_line n k.reply (found x.requests.waiting k.request.number) else Sends k.request.from (body.Answer (session_of x) k.request.number (reply_text k.reply)) ∷ []) s).moments
    by true is = line (is_equal k.request.from n is) (found x.requests.waiting k.request.number) refl
    by false is = posting_told S n k.request.from (body.Answer (session_of x) k.request.number (reply_text k.reply)) s (λ e. no (sym is ∙ (ap (λ z. z == n) e ∙ is_same n))) told
      where
        no : false ≡ true → ⊥
        no z = cc

query_told : (S : Setting) (c : Cluster) (n : ℕ) (i : Input) (x : UpNode) (s : Scene) (os : List Output) → ReadsOwn c S → OwnFacts S c n i x s.moments → TellsQuery c i n x os → OwnTold S s.moments → OwnTold S (passing n os s).moments
query_told S c n i x s os reads f k told =
    subst (λ (z : List Output). OwnTold S (passing n z s).moments) (sym k.is) (answer_told S n x.requests.asked answer.Ok s.moments settled told)
  where
    settled : IsOwnSettled S s.moments (answered n x.requests.asked answer.Ok)
    settled e words member at is update =
        let now : NowAsked S n (Commanded k.words) x.requests.asked s.moments = subst (λ z. NowAsked S n z x.requests.asked s.moments) k.input f.now in
        absurd (no (sym (reads.queries k.words words k.question k.read k.asked (sym now ∙ is)) ∙ update))
      where
        no : false ≡ true → ⊥
        no z = cc

reply_told : (S : Setting) (c : Cluster) (n : ℕ) (i : Input) (x : UpNode) (s : Scene) (os : List Output) → OwnFacts S c n i x s.moments → TellsReply i n x os → OwnTold S s.moments → OwnTold S (passing n os s).moments
reply_told S c n i x s os f k told =
    subst (λ (z : List Output). OwnTold S (passing n z s).moments) (sym k.is) (answer_told S n k.number answer.Ok s.moments settled told)
  where
    settled : IsOwnSettled S s.moments (answered n k.number answer.Ok)
    settled e words member at is update =
        absurd (no_answer S n k.from k.epoch k.number k.message k.text s.moments told (subst (λ z. CameSo z n s.moments) k.input f.came) k.says_so
        (ap coordinator (sym (here_is x k.epoch k.here) ∙ seat_session x e (sym f.seated ∙ member)) ∙ at))

owed_told : (S : Setting) (c : Cluster) (n : ℕ) (i : Input) (x : UpNode) (a : Arrived) (s : Scene) (os : List Output) → OwnFacts S c n i x s.moments → OwnUp S n (Owes a) x s.moments → OwedOutput n x a os → OwnTold S s.moments
    → OwnTold S (passing n os s).moments
owed_told S c n i x a s os f node (inl k) told =
    subst (λ (z : List Output). OwnTold S (passing n z s).moments) (sym k.1) (posting_told S n a.from (body.Answer (session_of x) a.number (reply_text answer.Ok)) s k.0 told)
owed_told S c n i x a s os f node (inr (mine, inl none)) told = subst (λ (z : List Output). OwnTold S (passing n z s).moments) (sym none) told
owed_told S c n i x a s os f node (inr (mine, inr is)) told =
    subst (λ (z : List Output). OwnTold S (passing n z s).moments) (sym is) (answer_told S n a.number answer.Ok s.moments settled told)
  where
    settled : IsOwnSettled S s.moments (answered n a.number answer.Ok)
    settled e words member at of_command update =
        subst (λ k. IsAcked k words s.moments) (seat_session x e (sym f.seated ∙ member)) (node.due mine words of_command update)

pub gives_told : (S : Setting) (c : Cluster) (n : ℕ) (i : Input) (x : UpNode) (d g : Due) (os : List Output) (s : Scene) → ReadsOwn c S → OwnFacts S c n i x s.moments → AreGood n os → GivesSo c i n x d os g
    → AllByRecursion (OutputOwn x) os → OwnUp S n d x s.moments → OwnTold S s.moments → OwnTold S (passing n os s).moments
gives_told S c n i x Even g os s reads f good (inl (still, even)) own node told =
    passing_quiet S n os s (still_quiet n x os (λ to. goes_away S c n to i x s.moments f node.own) good still own) told
gives_told S c n i x Even g os s reads f good (inr (inl k)) own node told = first_told S c n i x s g os reads f node.own k told
gives_told S c n i x Even g os s reads f good (inr (inr (inl k, even))) own node told = query_told S c n i x s os reads f k told
gives_told S c n i x Even g os s reads f good (inr (inr (inr k, even))) own node told = reply_told S c n i x s os f k told
gives_told S c n i x (Gave a reply) g os s reads f good so own node told = absurd so
gives_told S c n i x (Owes a) g os s reads f good so own node told = owed_told S c n i x a s os f node so.0 told

-- ---- an Answer goes again

one_of : (P : Request → Type 0) (r : Request) (rs : List Request) → AllByRecursion P rs → IsIn r rs → P r
one_of P r [] h is = absurd is
one_of P r (x ∷ xs) h (inl e) = subst P (sym e) h.0
one_of P r (x ∷ xs) h (inr k) = one_of P r xs h.1 k

reached_not : (a b : ℕ) → a ≡ b → nat_le a b ≡ false → ⊥
reached_not a b e h = grind (arith, e, h)

again_away : (S : Setting) (c : Cluster) (n to : ℕ) (i : Input) (v : Option ℕ) (x : UpNode) (b : Body) (ms : List Moment) → OwnFacts S c n i x ms → OwnSo n x → OwnTold S ms → GivesAgain c i n v x to b → to ≢ n
again_away S c n to i v x b ms f own told k = by k.cause
  where
    by : CauseOf i n v x k.request → to ≢ n
    by (inl asked) e = own_asked S c n i v x ms k.request f told asked (k.from ∙ e)
    by (inr it) e =
        let hand : OwnHand n x.requests.asked x.requests.waiting k.presidency.proposals = subst (OwnIn n x.requests.asked x.requests.waiting) k.here own.hand in
        let later : IsUnanswered k.presidency.proposals.answers n it.request.number = one_of (λ (r : Request). IsUnanswered k.presidency.proposals.answers n r.number) it.request x.requests.waiting hand.later it.waits in
        reached_not it.request.number k.kept.number (sym (ap (λ (a : Arrived). a.number) it.is) ∙ k.number)
        (ap (λ o. is_reached o it.request.number) (sym (ap (λ j. kept_at k.presidency.proposals.answers j) (sym e) ∙ k.last)) ∙ later)

pub writes_away : (S : Setting) (c : Cluster) (n to : ℕ) (i : Input) (v : Option ℕ) (x : UpNode) (b : Body) (ms : List Moment) → OwnFacts S c n i x ms → OwnSo n x → OwnTold S ms → WritesSo c i n v x to b → BodyOwn x to b → BodyAway n to b
writes_away S c n to i v x (body.Request e q text) ms f own told so away = goes_away S c n to i x ms f own away
writes_away S c n to i v x (body.Answer e q text) ms f own told (inl still) away = absurd still
writes_away S c n to i v x (body.Answer e q text) ms f own told (inr again) away = again_away S c n to i v x (body.Answer e q text) ms f own told again
writes_away S c n to i v x _ ms f own told so away = tt
