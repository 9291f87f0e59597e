-- The acts of a node that is up, one after another.
use Rattle.std.specs.Prelude.{ℕ, ◌≡◌, ◌≢◌, ◌⊎◌, ◌++◌, true, List, [], ◌∷◌, Option, None, Some, is_some}
use Rattle.std.specs.List.{AllByRecursion}
use Rattle.std.proofs.Common.{refl, sym, ap, subst, ◌∙◌, inl, inr}
use Rattle.cmm_member.specs.Records.{NodeRecord}
use Rattle.membership_machine.specs.Invariant.{Holds}
use Rattle.membership_machine.specs.State.{Memberships}
use Rattle.history.specs.Member.{member_of}
use Rattle.history.specs.Setting.{Setting, coordinator}
use Rattle.node_model.specs.declared.cluster.Cluster.{Cluster}
use Rattle.node_model.specs.declared.input.Input.{Input}
use Rattle.node_model.specs.declared.node.Node.TheVariants.{Up}
use Rattle.node_model.specs.declared.node.UpNode.{UpNode}
use Rattle.node_model.specs.declared.output.Output.{Output}
use Rattle.node_model.specs.declared.output.Output.TheVariants.{Sends, Tells}
use Rattle.node_model.specs.declared.presidency.Presidency.{Presidency}
use Rattle.refinement.specs.Doings.{Act, Change, acted, changed, first_lines, last_lines, said}
use Rattle.refinement.specs.Doings.Act.{Accepts, Dates, Ends, Gives, Goes_on, Hears, Makes, Minds, Notes, Queues, Spreads, Stores, Takes, Ticks, Waits, Works, Writes}
use Rattle.refinement.specs.Guards.{MayAct, MayChange}
use Rattle.refinement.specs.Ties.{Delivered, Known, NodeTied, setting_of}
use Rattle.run_history.proofs.Lists.{both, mapped}
use Rattle.cl_base.specs.Limits.{most_nodes}
use Rattle.cl_base.specs.Numbers.{numbers_to}
use Rattle.cmm_attempt.proofs.Basics.{if_either}
use Rattle.heartbeats.specs.Views.{receivers_of}
use Rattle.node_model.specs.Configurations.{configured_at}
use Rattle.node_model.specs.Presidents.{sent_to}
use Rattle.node_model.specs.Seats.{coordinator_of}
use Rattle.node_model.specs.Ticks.{heartbeat_of, heartbeats_to, later}
use Rattle.node_model.specs.Updates.{request_again, request_again_by, request_again_to}
use Rattle.pgr_device.specs.declared.command.PrAnswer.TheVariants as given
use Rattle.request_queue.specs.Queue as queue
use Rattle.request_queue.specs.declared.request.Request.{Request}
use Rattle.seize.specs.Answers.{Answer}
use Rattle.std.specs.Prelude.{Ok}
use Rattle.wire.specs.declared.message.Body.{Body}
use Rattle.wire.specs.declared.message.Body.TheVariants as body
use Rattle.refinement.specs.Doings.{write_lines}
use Rattle.run_commands.specs.carried.Guards.{BodyAsk, OutputAsk}
use Rattle.run_commands.specs.carried.Steps.{CarriedSo}
use Rattle.run_commands.proofs.carried.Causes.{AnswerOwn}
use Rattle.run_commands.proofs.carried.Flying.{OwnOutput}
use Rattle.run_history.proofs.Small.{IsSmallAct}
use Rattle.run_history.specs.Scenes.{Scene, passing}
use Rattle.run_messages.specs.Laws.{membership_in}
use Rattle.run_messages.specs.Outputs.{AreGood}
use Rattle.run_commands.specs.carried.Guards.{ActAsk, ChangeAsk, Command, hand_act, hand_change}
use Rattle.run_commands.proofs.carried.Acts.{Acted, Before, NoMakes, act_so}
use Rattle.run_commands.proofs.carried.Causes.{PresidentAt, ReadsAnswers}
use Rattle.run_commands.proofs.carried.Changes.{Changed}
use Rattle.run_commands.proofs.carried.Lines.{AreApart}
use Rattle.run_commands.proofs.carried.Plain.{ArePlain, given_plain, plains_apart, spread_plain, ticked_plain, write_plain, ended_plain}
use Rattle.run_commands.proofs.carried.Leaving.{ChangeLeaves, change_leaves, change_lines}

pub record ActLeaves (S : Setting) (n : ℕ) (o : Option Command) (h : Option ℕ) (last : ℕ) (y : UpNode) (os : List Output) (s : Scene) : Type 0 where
  pub acted_to : Changed S n o h last y (passing n os s).moments
  pub carried : CarriedSo S (passing n os s).moments
  pub apart : (k : ℕ) → k ≢ n → AreApart k os
  pub answers : AllByRecursion (OwnOutput n) os

pub plain_act : (c : Cluster) (n : ℕ) (i : Input) (o : Option Command) (h : Option ℕ) (x : UpNode) (a : Act) → NoMakes a → IsSmallAct a → ActAsk n i o h x a → ArePlain (said c n x a)
plain_act c n i o h x (Hears from b) nm small ask = tt
plain_act c n i o h x Ticks nm small ask = (tt, ticked_plain c x)
plain_act c n i o h x Waits nm small ask = tt
plain_act c n i o h x (Goes_on a j) nm small ask = tt
plain_act c n i o h x (Ends a e) nm small ask = (ended_plain a.plan.epoch e, tt)
plain_act c n i o h x (Queues a d kind) nm small ask = tt
plain_act c n i o h x (Accepts kind e members d) nm small ask = tt
plain_act c n i o h x (Takes at command a) nm small ask = (tt, tt)
plain_act c n i o h x (Stores d value a) nm small ask = (tt, write_plain n x d value a)
plain_act c n i o h x (Writes to b) nm small ask = (tt, tt)
plain_act c n i o h x (Makes change) nm small ask = absurd nm
plain_act c n i o h x (Gives os) nm small ask = given_plain n i o h x os small ask
plain_act c n i o h x (Spreads receivers b) nm small ask = spread_plain receivers b
plain_act c n i o h x (Minds q p) nm small ask = tt
plain_act c n i o h x (Notes from place p) nm small ask = tt
plain_act c n i o h x (Dates now) nm small ask = tt
plain_act c n i o h x (Works w) nm small ask = tt

-- whether it makes a change
record ItMakes (a : Act) : Type 0 where
  change : Change
  is : a ≡ Makes change

makes_or : (a : Act) → NoMakes a ⊎ ItMakes a
makes_or (Makes change) = inr (record { change = change; is = refl })
makes_or (Hears from b) = inl tt
makes_or Ticks = inl tt
makes_or Waits = inl tt
makes_or (Goes_on a j) = inl tt
makes_or (Ends a e) = inl tt
makes_or (Queues a d kind) = inl tt
makes_or (Accepts kind e members d) = inl tt
makes_or (Takes at command a) = inl tt
makes_or (Stores d value a) = inl tt
makes_or (Writes to b) = inl tt
makes_or (Gives os) = inl tt
makes_or (Spreads receivers b) = inl tt
makes_or (Minds q p) = inl tt
makes_or (Notes from place p) = inl tt
makes_or (Dates now) = inl tt
makes_or (Works w) = inl tt

hand_same : (x : UpNode) (h : Option ℕ) (a : Act) → NoMakes a → hand_act x h a ≡ h
hand_same x h (Makes change) nm = absurd nm
hand_same x h (Hears from b) nm = refl
hand_same x h Ticks nm = refl
hand_same x h Waits nm = refl
hand_same x h (Goes_on a j) nm = refl
hand_same x h (Ends a e) nm = refl
hand_same x h (Queues a d kind) nm = refl
hand_same x h (Accepts kind e members d) nm = refl
hand_same x h (Takes at command a) nm = refl
hand_same x h (Stores d value a) nm = refl
hand_same x h (Writes to b) nm = refl
hand_same x h (Gives os) nm = refl
hand_same x h (Spreads receivers b) nm = refl
hand_same x h (Minds q p) nm = refl
hand_same x h (Notes from place p) nm = refl
hand_same x h (Dates now) nm = refl
hand_same x h (Works w) nm = refl

-- an Answer is of the session of a president
own_body : (n : ℕ) (x : UpNode) (b : Body) → BodyAsk x b → (is_some x.presidency ≡ true → PresidentAt x n) → AnswerOwn n b
own_body n x (body.Answer e q text) ask president =
    let p : PresidentAt x n = president ask.0 in
    sym p.own ∙ ap coordinator (sym p.session ∙ sym ask.1)
own_body n x _ ask president = tt

own_outputs : (n : ℕ) (i : Input) (o : Option Command) (h : Option ℕ) (x : UpNode) (os : List Output) → AllByRecursion (OutputAsk n i o h x) os → (is_some x.presidency ≡ true → PresidentAt x n)
    → AllByRecursion (OwnOutput n) os
own_outputs n i o h x [] ask president = tt
own_outputs n i o h x (Tells e ∷ os) ask president = (tt, own_outputs n i o h x os ask.1 president)
own_outputs n i o h x (Sends to b ∷ os) ask president = (own_body n x b ask.0 president, own_outputs n i o h x os ask.1 president)

own_spread : (n receivers : ℕ) (b : Body) → AnswerOwn n b → AllByRecursion (OwnOutput n) (sent_to receivers b)
unfolding sent_to
own_spread n receivers b h = mapped (OwnOutput n) (λ k. Sends k b) (numbers_to receivers most_nodes) (λ k. h)

own_beats : (n receivers : ℕ) (x : UpNode) → AllByRecursion (OwnOutput n) (heartbeats_to x receivers)
unfolding heartbeats_to
own_beats n receivers x = mapped (OwnOutput n) (λ k. Sends k (heartbeat_of x)) (numbers_to receivers most_nodes) (λ k. tt)

own_again_to : (n : ℕ) (x : UpNode) (r : Option Request) (to : Option ℕ) → AllByRecursion (OwnOutput n) (request_again_to x r to)
own_again_to n x (Some r) (Some president) = (tt, tt)
own_again_to n x None president = tt
own_again_to n x (Some r) None = tt

own_again : (n : ℕ) (x : UpNode) (p : Option Presidency) → AllByRecursion (OwnOutput n) (request_again_by x p)
own_again n x None =
    if_either (AllByRecursion (OwnOutput n)) (queue.goes_again x.requests) (request_again_to x (queue.oldest x.requests) (coordinator_of x)) [] (own_again_to n x (queue.oldest x.requests) (coordinator_of x)) tt
own_again n x (Some p) = tt

own_write : (n : ℕ) (x : UpNode) (d value : ℕ) (a : Answer) → AllByRecursion (OwnOutput n) (write_lines n x d value a)
own_write n x d value (Ok given.Good) = (tt, tt)
own_write n x d value (Ok given.Conflict) = (tt, tt)
own_write n x d value _ = (tt, tt)

act_own : (c : Cluster) (n : ℕ) (i : Input) (o : Option Command) (h : Option ℕ) (x : UpNode) (a : Act) → NoMakes a → ActAsk n i o h x a → (is_some x.presidency ≡ true → PresidentAt x n)
    → AllByRecursion (OwnOutput n) (said c n x a)
act_own c n i o h x (Hears from b) nm ask president = tt
act_own c n i o h x Ticks nm ask president = (
  tt,
  both (OwnOutput n) (heartbeats_to (later c x) (receivers_of (later c x).beats (configured_at c (later c x)))) (request_again x)
      (own_beats n (receivers_of (later c x).beats (configured_at c (later c x))) (later c x)) (own_again n x x.presidency),
)
act_own c n i o h x Waits nm ask president = tt
act_own c n i o h x (Goes_on a j) nm ask president = tt
act_own c n i o h x (Ends a e) nm ask president = (tt, tt)
act_own c n i o h x (Queues a d kind) nm ask president = tt
act_own c n i o h x (Accepts kind e members d) nm ask president = tt
act_own c n i o h x (Takes at command a) nm ask president = (tt, tt)
act_own c n i o h x (Stores d value a) nm ask president = (tt, own_write n x d value a)
act_own c n i o h x (Writes to b) nm ask president = (own_body n x b ask president, tt)
act_own c n i o h x (Makes change) nm ask president = absurd nm
act_own c n i o h x (Gives os) nm ask president = own_outputs n i o h x os ask president
act_own c n i o h x (Spreads receivers b) nm ask president = own_spread n receivers b (own_body n x b ask president)
act_own c n i o h x (Minds q p) nm ask president = tt
act_own c n i o h x (Notes from place p) nm ask president = tt
act_own c n i o h x (Dates now) nm ask president = tt
act_own c n i o h x (Works w) nm ask president = tt

pub act_leaves : (S : Setting) (c : Cluster) (M : Memberships) (n : ℕ) (told : Delivered) (i : Input) (o : Option Command) (h : Option ℕ) (x : UpNode) (disk : NodeRecord) (a : Act) (s : Scene) → ReadsAnswers S
    → Holds (setting_of c) M → Known M told → NodeTied c M n disk (Up x) → MayAct c n told x a → IsSmallAct a → ActAsk n i o h x a → AreGood n (said c n x a) → member_of n s.moments ≡ membership_in x.seat
    → Before S n i o h x s → ActLeaves S n o (hand_act x h a) x.requests.asked (acted c n x a) (said c n x a) s
act_leaves S c M n told i o h x disk a s exact holds known tied may small ask good seated b = by_kind (makes_or a)
  where
    by_kind : NoMakes a ⊎ ItMakes a → ActLeaves S n o (hand_act x h a) x.requests.asked (acted c n x a) (said c n x a) s
    by_kind (inl nm) =
        let k : Acted S n o h x.requests.asked (acted c n x a) (said c n x a) s = act_so S c n told i o h x a s exact nm may small ask good seated b in
        subst (λ z. ActLeaves S n o z x.requests.asked (acted c n x a) (said c n x a) s) (sym (hand_same x h a nm)) (record {
          acted_to = record { queued = k.queued; now = k.now; hand = k.hand; pending = k.pending; last_so = k.last_so };
          carried = k.carried;
          apart = λ j ne. plains_apart j (said c n x a) (plain_act c n i o h x a nm small ask);
          answers = act_own c n i o h x a nm ask b.president;
        })
    by_kind (inr k) =
        subst (λ (z : Act). ActLeaves S n o (hand_act x h z) x.requests.asked (acted c n x z) (said c n x z) s) (sym k.is)
        (made k.change (subst (λ (z : Act). MayAct c n told x z) k.is may).0 (subst (λ (z : Act). ActAsk n i o h x z) k.is ask))
      where
        made : (change : Change) → MayChange c n told x change → ChangeAsk o x change → ActLeaves S n o (hand_change x h change) x.requests.asked (changed c n x change) (first_lines n change ++ last_lines c n x change) s
        made change may ask =
            let l : ChangeLeaves S n o (hand_change x h change) x.requests.asked (changed c n x change) (change_lines c n x change []) s =
            change_leaves S c M n told i o h x disk change [] s holds known tied may ask (inl refl) b in
            record { acted_to = l.changed_to; carried = l.carried; apart = l.apart; answers = l.answers }
