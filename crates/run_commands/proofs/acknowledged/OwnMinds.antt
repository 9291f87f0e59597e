-- The queue of a node goes with its hand, whatever becomes of both.
use Rattle.std.specs.Prelude.{ℕ, ◌≡◌, ◌≢◌, ◌≤◌, ◌⊎◌, ◌==◌, true, List, [], ◌∷◌, ◌++◌, Option, None, Some, is_some}
use Rattle.std.specs.List.{AllByRecursion}
use Rattle.std.proofs.Common.{refl, sym, ap, subst, ◌∙◌, arith, inl, inr}
use Rattle.cmm_attempt.proofs.Basics.{if_either}
use Rattle.proposals.specs.Arrivals.{answered}
use Rattle.proposals.specs.State.{State, kept_at}
use Rattle.proposals.specs.declared.arrived.Arrived.{Arrived}
use Rattle.request_queue.specs.Queue as queue
use Rattle.request_queue.specs.Queue.{Queue, next_number}
use Rattle.request_queue.specs.declared.request.Request.{Request}
use Rattle.node_model.specs.declared.input.Input.{Input}
use Rattle.node_model.specs.declared.node.UpNode.{UpNode}
use Rattle.node_model.specs.declared.presidency.Presidency.{Presidency}
use Rattle.refinement.specs.Cuts.{queue_by}
use Rattle.refinement.specs.Doings.{minded}
use Rattle.run_history.proofs.Lists.{all_and}
use Rattle.run_messages.specs.Laws.{membership_in}
use Rattle.run_commands.specs.acknowledged.Guards.{IsRequested}
use Rattle.run_commands.specs.acknowledged.Hands.{Sound, Stays_or_comes, is_reached}
use Rattle.run_commands.specs.acknowledged.AnsweringGuards.{OfBoth}
use Rattle.run_commands.proofs.acknowledged.Own.{AnswersFirst, AnswersOwn, IsFirstOf, IsUnanswered, JoinsOwn, MindsOwn, OwnCause, OwnHand, OwnIn, OwnSo, Rises, StaysOwn, TakesReply, UnansweredIn}
use Rattle.run_commands.proofs.acknowledged.OwnHands.{all_of, answered_hand, comes_hand, joined_hand, left_rises, more_hand, rises_more}

abbrev pub SoundIn : Option Presidency → Type 0
SoundIn None = Unit {0}
SoundIn (Some p) = Sound p.proposals

abbrev pub Low : ℕ → List Request → Type 0
Low last rs = AllByRecursion (λ (r : Request). r.number ≤ last) rs

-- ---- the same queue and hand, seen so

pub same_hand : (me last : ℕ) (rs : List Request) (s t : State) → t.arrived ≡ s.arrived → t.answers ≡ s.answers → OwnHand me last rs s → OwnHand me last rs t
same_hand me last rs s t arrived answers h = record {
  later = subst (λ os. AllByRecursion (λ (r : Request). IsUnanswered os me r.number) rs) (sym answers) h.later;
  below = λ k above. ap (λ os. is_reached (kept_at os me) k) answers ∙ h.below k above;
  first = subst (λ xs. AllByRecursion (IsFirstOf me rs) xs) (sym arrived) h.first;
}

pub own_view : (me : ℕ) (x y : UpNode) → y.requests.waiting ≡ x.requests.waiting → y.requests.asked ≡ x.requests.asked → membership_in y.seat ≡ membership_in x.seat → OwnIn me x.requests.asked x.requests.waiting y.presidency
    → (is_some x.presidency ≡ true → is_some y.presidency ≡ true) → OwnSo me x → OwnSo me y
own_view me x y waiting asked seat hand some h = record {
  rises = subst Rises (sym waiting) h.rises;
  low = subst (λ k. Low k y.requests.waiting) (sym asked) (subst (Low x.requests.asked) (sym waiting) h.low);
  hand = subst (λ k. OwnIn me k y.requests.waiting y.presidency) (sym asked) (subst (λ rs. OwnIn me x.requests.asked rs y.presidency) (sym waiting) hand);
  office = λ e at own. some (h.office e (sym seat ∙ at) own);
}

pub same_own : (me : ℕ) (x y : UpNode) → y.seat ≡ x.seat → y.requests ≡ x.requests → y.presidency ≡ x.presidency → OwnSo me x → OwnSo me y
same_own me x y seat requests presidency h =
    own_view me x y (ap (λ (z : Queue). z.waiting) requests) (ap (λ (z : Queue). z.asked) requests) (ap membership_in seat)
    (subst (OwnIn me x.requests.asked x.requests.waiting) (sym presidency) h.hand) (λ so. ap is_some presidency ∙ so) h

-- ---- the requests of a node change

low_more : (last more k : ℕ) → last ≤ more → k ≤ last → k ≤ more
low_more last more k up h = omega (arith, up, h)

pub lows_more : (last more : ℕ) (rs : List Request) → last ≤ more → Low last rs → Low more rs
lows_more last more rs up h = all_of (λ (r : Request). r.number ≤ last) (λ (r : Request). r.number ≤ more) rs (λ r low. low_more last more r.number up low) h

pub more_in : (me last more : ℕ) (rs : List Request) (o : Option Presidency) → last ≤ more → OwnIn me last rs o → OwnIn me more rs o
more_in me last more rs None up h = tt
more_in me last more rs (Some p) up h = more_hand me last more rs p.proposals up h

stays_in : (i : Input) (me : ℕ) (v : Option ℕ) (x : UpNode) (q : Queue) (last : ℕ) (o p : Option Presidency) → ((a : Arrived) → IsRequested i v x a → a.from ≢ me) → OfBoth (Stays_or_comes (OwnCause i me v x q)) o p
    → OwnIn me last q.waiting o → OwnIn me last q.waiting p
stays_in i me v x q last None None other goes h = tt
stays_in i me v x q last (Some p) (Some t) other goes h = comes_hand i me v x q last p.proposals t.proposals other goes h
stays_in i me v x q last None (Some t) other goes h = absurd goes
stays_in i me v x q last (Some p) None other goes h = absurd goes

both_some : (P : State → State → Type 0) (o p : Option Presidency) → OfBoth P o p → is_some o ≡ true → is_some p ≡ true
both_some P None None goes so = so
both_some P (Some p) (Some t) goes so = refl
both_some P None (Some t) goes so = absurd goes
both_some P (Some p) None goes so = absurd goes

-- the first of the hand is answered, and one may come
answers_hand : (i : Input) (me : ℕ) (v : Option ℕ) (x : UpNode) (q : Queue) (s t : State) → (1 ≤ me) × (me ≤ 32) → Sound s → ((a : Arrived) → IsRequested i v x a → a.from ≢ me) → x.requests.asked ≤ q.asked
    → AnswersOwn i me v x q s t → Rises x.requests.waiting → Low x.requests.asked x.requests.waiting → OwnHand me x.requests.asked x.requests.waiting s → OwnHand me q.asked q.waiting t
answers_hand i me v x q s t range sound other asked goes rises low h =
    comes_hand i me v x q q.asked (answered s goes.text) t other goes.then
    (subst (λ rs. OwnHand me q.asked rs (answered s goes.text)) (sym goes.waiting)
    (more_hand me x.requests.asked q.asked (queue_by me x goes.request).waiting (answered s goes.text) asked
    (answered_hand me x.requests.asked x.requests s goes.request goes.text range sound rises low goes.first h)))

left_low : (last : ℕ) (q : Queue) (k : ℕ) → Low last q.waiting → Low last (queue.answered q k).waiting
left_low last q k h = by q.waiting h h
  where
    by : (rs : List Request) → Low last rs → Low last q.waiting → Low last (queue.left_of q rs k).waiting
    by [] all whole = whole
    by (r ∷ rs) all whole = if_either (λ (z : Queue). Low last z.waiting) (r.number == k) (record q { waiting = rs; age = 0 }) q all.1 whole

by_rises : (me : ℕ) (x : UpNode) (a : Arrived) → Rises x.requests.waiting → Rises (queue_by me x a).waiting
by_rises me x a h = if_either (λ (z : Queue). Rises z.waiting) (a.from == me) (queue.answered x.requests a.number) x.requests (left_rises x.requests a.number h) h

by_low : (me : ℕ) (x : UpNode) (a : Arrived) → Low x.requests.asked x.requests.waiting → Low x.requests.asked (queue_by me x a).waiting
by_low me x a h = if_either (λ (z : Queue). Low x.requests.asked z.waiting) (a.from == me) (queue.answered x.requests a.number) x.requests (left_low x.requests.asked x.requests a.number h) h

pub answers_in : (i : Input) (me : ℕ) (v : Option ℕ) (x : UpNode) (q : Queue) (p t : Presidency) → (1 ≤ me) × (me ≤ 32) → x.presidency ≡ Some p → SoundIn x.presidency → ((a : Arrived) → IsRequested i v x a → a.from ≢ me)
    → x.requests.asked ≤ q.asked → AnswersOwn i me v x q p.proposals t.proposals → OwnSo me x → Rises q.waiting × Low q.asked q.waiting × OwnHand me q.asked q.waiting t.proposals
answers_in i me v x q p t range here sound other asked goes h = (
  subst Rises (sym goes.waiting) (by_rises me x goes.request h.rises),
  lows_more x.requests.asked q.asked q.waiting asked (subst (Low x.requests.asked) (sym goes.waiting) (by_low me x goes.request h.low)),
  answers_hand i me v x q p.proposals t.proposals range (subst SoundIn here sound) other asked goes h.rises h.low (subst (OwnIn me x.requests.asked x.requests.waiting) here h.hand),
)

pub joined_in : (me last : ℕ) (rs : List Request) (r : Request) (o : Option Presidency) → UnansweredIn o me r.number → OwnIn me last rs o → OwnIn me last (rs ++ r ∷ []) o
joined_in me last rs r None later h = tt
joined_in me last rs r (Some p) later h = joined_hand me last rs r p.proposals later h

none_in : (me last : ℕ) (rs : List Request) (o : Option Presidency) → (is_some o ≡ true → ⊥) → OwnIn me last rs o
none_in me last rs None none = tt
none_in me last rs (Some p) none = absurd (none refl)

pub own_minds : (i : Input) (me : ℕ) (v : Option ℕ) (x : UpNode) (q : Queue) (p : Option Presidency) → (1 ≤ me) × (me ≤ 32) → SoundIn x.presidency → ((a : Arrived) → IsRequested i v x a → a.from ≢ me)
    → (is_some x.presidency ≡ true → TakesReply i x q p → ⊥) → MindsOwn i me v x q p → OwnSo me x → OwnSo me (minded x q p)
own_minds i me v x q p range sound other reply goes h = by goes.1
  where
    by : (StaysOwn i me v x q p ⊎ JoinsOwn me x q p ⊎ AnswersFirst i me v x q p ⊎ TakesReply i x q p) → OwnSo me (minded x q p)
    by (inl k) = record {
      rises = subst Rises (sym k.waiting) h.rises;
      low = lows_more x.requests.asked q.asked q.waiting goes.0 (subst (Low x.requests.asked) (sym k.waiting) h.low);
      hand = stays_in i me v x q q.asked x.presidency p other k.hand
          (more_in me x.requests.asked q.asked q.waiting x.presidency goes.0 (subst (λ rs. OwnIn me x.requests.asked rs x.presidency) (sym k.waiting) h.hand));
      office = λ e at own. both_some (Stays_or_comes (OwnCause i me v x q)) x.presidency p k.hand (h.office e at own);
    }
    by (inr (inl k)) = record {
      rises = subst Rises (sym k.waiting) (rises_more x.requests.waiting k.request h.rises k.last.above);
      low = subst (Low q.asked) (sym k.waiting) (all_and (λ (r : Request). r.number ≤ q.asked) x.requests.waiting k.request (lows_more x.requests.asked q.asked x.requests.waiting goes.0 h.low) k.low);
      hand = subst (OwnIn me q.asked q.waiting) (sym k.same)
          (subst (λ rs. OwnIn me q.asked rs x.presidency) (sym k.waiting)
          (joined_in me q.asked x.requests.waiting k.request x.presidency k.last.unanswered (more_in me x.requests.asked q.asked x.requests.waiting x.presidency goes.0 h.hand)));
      office = λ e at own. ap is_some k.same ∙ h.office e at own;
    }
    by (inr (inr (inl k))) =
        let three : _ = answers_in i me v x q k.presidency k.left range k.here sound other goes.0 k.answers h in
        record { rises = three.0; low = three.1; hand = subst (OwnIn me q.asked q.waiting) (sym k.is) three.2; office = λ e at own. ap is_some k.is }
    by (inr (inr (inr k))) = record {
      rises = subst Rises (sym k.waiting) (left_rises x.requests k.number h.rises);
      low = lows_more x.requests.asked q.asked q.waiting goes.0 (subst (Low x.requests.asked) (sym k.waiting) (left_low x.requests.asked x.requests k.number h.low));
      hand = subst (OwnIn me q.asked q.waiting) (sym k.same) (none_in me q.asked q.waiting x.presidency (λ so. reply so k));
      office = λ e at own. ap is_some k.same ∙ h.office e at own;
    }
