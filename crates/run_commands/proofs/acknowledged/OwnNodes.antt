-- Each small step of a node leaves its queue with its hand as they must be.
use Rattle.std.specs.Prelude.{ℕ, ◌+◌, ◌-◌, ◌≡◌, ◌≢◌, ◌≤◌, ◌<◌, true, false, List, [], ◌∷◌, Option, None, Some, is_some}
use Rattle.std.specs.List.{AllByRecursion}
use Rattle.std.proofs.Common.{refl, sym, ap, subst, ◌∙◌, arith}
use Rattle.std.proofs.lemmas.List.{get_or-replicate}
use Rattle.cl_base.specs.Sets.{has, set_without}
use Rattle.cl_base.specs.declared.command.Ask.{Ask}
use Rattle.ccr_commit.specs.Entries.{with_next}
use Rattle.cmm_attempt.proofs.Basics.{if_either, none_some}
use Rattle.cmm_attempt.specs.Attempts.{AttemptState}
use Rattle.cmm_member.specs.Nodes.{with_entries, with_joined, with_valid}
use Rattle.cmm_member.specs.Records.{NodeRecord}
use Rattle.device_queue.specs.Queue.{after_seize}
use Rattle.proposals.specs.Proposing.{prepared_by, ticked}
use Rattle.proposals.specs.State.{nothing_yet}
use Rattle.proposals.specs.declared.arrived.Arrived.{Arrived}
use Rattle.proposals.specs.declared.arrived.Kept.{Kept}
use Rattle.request_queue.specs.Queue.{Queue, next_number}
use Rattle.request_queue.specs.declared.request.Request.{Request}
use Rattle.seize.specs.Seizing as seizing
use Rattle.update_words.specs.Words.{ask_words_of}
use Rattle.history.specs.Setting.{coordinator}
use Rattle.node_model.specs.Clusters.{first_valid_of}
use Rattle.node_model.specs.Groups.{monitor_asked}
use Rattle.node_model.specs.Members.{rested_by}
use Rattle.node_model.specs.Requests.{numbered}
use Rattle.node_model.specs.Seats.{promising, record_of, state_of, up_with}
use Rattle.node_model.specs.Steps.{at_second}
use Rattle.node_model.specs.Updates.{later_presidency}
use Rattle.node_model.specs.declared.cluster.Cluster.{Cluster}
use Rattle.node_model.specs.declared.input.Input.{Input}
use Rattle.node_model.specs.declared.node.UpNode.{UpNode}
use Rattle.node_model.specs.declared.presidency.Presidency.{Presidency}
use Rattle.refinement.specs.Doings.{Act, Change, acted, changed}
use Rattle.refinement.specs.Doings.Act.{Accepts, Dates, Ends, Gives, Goes_on, Hears, Makes, Minds, Notes, Queues, Spreads, Stores, Takes, Ticks, Waits, Works, Writes}
use Rattle.refinement.specs.Doings.Change.{Acks, Admits, Commits, Counts, Distrusts, Installs, Leads, Prepares, Promises, Proposes, Sits, Starts}
use Rattle.refinement.specs.Guards.{MayAct, MayChange}
use Rattle.refinement.specs.Ties.{Delivered}
use Rattle.run_history.proofs.Lists.{all_and}
use Rattle.run_messages.specs.Laws.{membership_in}
use Rattle.run_messages.proofs.Seats.{seat_with}
use Rattle.run_commands.proofs.carried.Acts.{NoMakes}
use Rattle.run_commands.specs.acknowledged.Guards.{IsRequested}
use Rattle.run_commands.specs.acknowledged.Hands.{is_reached}
use Rattle.run_commands.proofs.acknowledged.Own.{ActOwn, ChangeOwn, Elsewhere, HasNext, IsUnanswered, OwnHand, OwnIn, OwnSo, Rises, TakesReply, UnansweredIn}
use Rattle.run_commands.proofs.acknowledged.OwnMinds.{Low, SoundIn, answers_in, joined_in, lows_more, more_in, own_minds, own_view, same_hand, same_own}
use Rattle.run_commands.proofs.acknowledged.OwnHands.{all_of, rises_more}

-- ---- each act

later_in : (me last : ℕ) (rs : List Request) (o : Option Presidency) → OwnIn me last rs o → OwnIn me last rs (later_presidency o)
later_in me last rs None h = tt
later_in me last rs (Some p) h = same_hand me last rs p.proposals (ticked p.proposals) refl refl h

later_some : (o : Option Presidency) → is_some o ≡ true → is_some (later_presidency o) ≡ true
later_some None so = so
later_some (Some p) so = refl

pub own_acts : (c : Cluster) (i : Input) (me : ℕ) (v : Option ℕ) (told : Delivered) (x : UpNode) (a : Act) → (1 ≤ me) × (me ≤ 32) → SoundIn x.presidency → ((b : Arrived) → IsRequested i v x b → b.from ≢ me)
    → ((q : Queue) (p : Option Presidency) → is_some x.presidency ≡ true → TakesReply i x q p → ⊥) → NoMakes a → MayAct c me told x a → ActOwn i me v x a → OwnSo me x → OwnSo me (acted c me x a)
own_acts c i me v told x (Minds q p) range sound other reply nm may own h = own_minds i me v x q p range sound other (reply q p) own h
own_acts c i me v told x (Notes from place p) range sound other reply nm may own h =
    own_view me x (acted c me x (Notes from place p)) refl refl refl
    (same_hand me x.requests.asked x.requests.waiting p.proposals (prepared_by p.proposals from place) refl refl (subst (OwnIn me x.requests.asked x.requests.waiting) may.0 h.hand)) (λ so. refl) h
own_acts c i me v told x Ticks range sound other reply nm may own h =
    own_view me x (acted c me x Ticks) refl refl refl (later_in me x.requests.asked x.requests.waiting x.presidency h.hand) (later_some x.presidency) h
own_acts c i me v told x (Queues a d kind) range sound other reply nm may own h =
    if_either (OwnSo me) (has a.plan.members me)
    (record x { tasks = after_seize x.tasks d (seizing.begun kind a.plan.epoch a.plan.members me c.id (has (record_of x).valid d)) }) x
    (same_own me x (record x { tasks = after_seize x.tasks d (seizing.begun kind a.plan.epoch a.plan.members me c.id (has (record_of x).valid d)) }) refl refl refl h) h
own_acts c i me v told x (Makes change) range sound other reply nm may own h = absurd nm
own_acts c i me v told x (Hears from b) range sound other reply nm may own h = same_own me x (acted c me x (Hears from b)) refl refl refl h
own_acts c i me v told x Waits range sound other reply nm may own h = same_own me x (acted c me x Waits) refl refl refl h
own_acts c i me v told x (Goes_on a j) range sound other reply nm may own h = same_own me x (acted c me x (Goes_on a j)) refl refl refl h
own_acts c i me v told x (Ends a e) range sound other reply nm may own h = same_own me x (acted c me x (Ends a e)) refl refl refl h
own_acts c i me v told x (Accepts kind e members d) range sound other reply nm may own h = same_own me x (acted c me x (Accepts kind e members d)) refl refl refl h
own_acts c i me v told x (Takes at command a) range sound other reply nm may own h = same_own me x (acted c me x (Takes at command a)) refl refl refl h
own_acts c i me v told x (Stores d value a) range sound other reply nm may own h = h
own_acts c i me v told x (Writes to b) range sound other reply nm may own h = h
own_acts c i me v told x (Gives os) range sound other reply nm may own h = h
own_acts c i me v told x (Spreads receivers b) range sound other reply nm may own h = h
own_acts c i me v told x (Dates now) range sound other reply nm may own h = same_own me x (acted c me x (Dates now)) refl refl refl h
own_acts c i me v told x (Works w) range sound other reply nm may own h = same_own me x (acted c me x (Works w)) refl refl refl h

-- ---- each change

no_member : (me : ℕ) (y : UpNode) → membership_in y.seat ≡ None → y.requests.waiting ≡ [] → y.presidency ≡ None → OwnSo me y
no_member me y seat waiting none = record {
  rises = subst Rises (sym waiting) tt;
  low = subst (Low y.requests.asked) (sym waiting) tt;
  hand = subst (OwnIn me y.requests.asked y.requests.waiting) (sym none) tt;
  office = λ e at own. absurd (none_some e (sym seat ∙ at));
}

rested_own : (me p : ℕ) (x : UpNode) (o : Option AttemptState) → OwnSo me (rested_by (promising x p) o)
rested_own me p x None = no_member me (rested_by (promising x p) None) refl refl refl
rested_own me p x (Some a) = no_member me (rested_by (promising x p) (Some a)) refl refl refl

slot_low : (me : ℕ) → 1 ≤ me → me ≤ 32 → me - 1 < 32
slot_low me h k = omega (arith, h, k)

none_kept : (me k : ℕ) → (1 ≤ me) × (me ≤ 32) → IsUnanswered nothing_yet.answers me k
none_kept me k range = ap (λ o. is_reached o k) (get_or-replicate 32 (me - 1) none None (slot_low me range.0 range.1))
  where
    none : Option Kept
    none = None

none_answered : (me : ℕ) (rs : List Request) → (1 ≤ me) × (me ≤ 32) → AllByRecursion (λ (r : Request). IsUnanswered nothing_yet.answers me r.number) rs
none_answered me [] range = tt
none_answered me (r ∷ rs) range = (none_kept me r.number range, none_answered me rs range)

some_same : (s e : ℕ) → Some s ≡ Some e → s ≡ e
some_same s e h = cc

pub own_changes : (c : Cluster) (i : Input) (me : ℕ) (v : Option ℕ) (told : Delivered) (x : UpNode) (change : Change) → (1 ≤ me) × (me ≤ 32) → SoundIn x.presidency → ((b : Arrived) → IsRequested i v x b → b.from ≢ me)
    → MayChange c me told x change → Elsewhere me change → ChangeOwn i me v x change → OwnSo me x → OwnSo me (changed c me x change)
own_changes c i me v told x (Promises p) range sound other may away own h = rested_own me p x x.attempt
own_changes c i me v told x (Leads p members) range sound other may away own h = no_member me (changed c me x (Leads p members)) refl refl refl
own_changes c i me v told x (Counts a k s j) range sound other may away own h =
    own_view me x (changed c me x (Counts a k s j)) refl refl (sym (ap membership_in may.1)) h.hand (λ so. so) h
own_changes c i me v told x (Installs s j) range sound other may away own h =
    own_view me x (changed c me x (Installs s j)) refl refl (sym (ap membership_in may.0)) h.hand (λ so. so) h
own_changes c i me v told x (Starts a k s) range sound other may away own h = record {
  rises = h.rises;
  low = h.low;
  hand = record { later = none_answered me x.requests.waiting range; below = λ j above. none_kept me j range; first = tt };
  office = λ e at mine. refl;
}
own_changes c i me v told x (Sits s e) range sound other may away own h =
    record { rises = h.rises; low = h.low; hand = h.hand; office = λ f at mine. absurd (away (ap coordinator (sym may.2 ∙ some_same s.session f at) ∙ mine)) }
own_changes c i me v told x (Distrusts d) range sound other may away own h =
    own_view me x (changed c me x (Distrusts d)) refl refl (seat_with x.seat (with_valid (state_of x.seat) (set_without (record_of x).valid d)) refl) h.hand (λ so. so) h
own_changes c i me v told x (Admits at command a d) range sound other may away own h =
    own_view me x (changed c me x (Admits at command a d)) refl refl (seat_with x.seat (with_joined (state_of x.seat) d) refl) h.hand (λ so. so) h
own_changes c i me v told x (Proposes s p text) range sound other may away own h =
    let old : OwnHand me x.requests.asked x.requests.waiting p.proposals = subst (OwnIn me x.requests.asked x.requests.waiting) may.0 h.hand in
    own_view me x (changed c me x (Proposes s p text)) refl refl (seat_with x.seat (with_entries (state_of x.seat) (with_next (record_of x).entries text)) refl)
    (record { later = old.later; below = old.below; first = old.first }) (λ so. refl) h
own_changes c i me v told x (Acks s p q left text) range sound other may away own h =
    let three : _ = answers_in i me v x q p left range may.0 sound other own.0 own.1 h in
    record { rises = three.0; low = three.1; hand = three.2; office = λ e at mine. refl }
own_changes c i me v told x (Prepares s text) range sound other may away own h =
    own_view me x (changed c me x (Prepares s text)) refl refl (sym (ap membership_in may.0)) h.hand (λ so. so) h
own_changes c i me v told x (Commits s) range sound other may away own h =
    own_view me x (changed c me x (Commits s)) refl refl (sym (ap membership_in may.0)) h.hand (λ so. so) h

-- ---- a step begins

pub own_dates : (me now : ℕ) (x : UpNode) → OwnSo me x → OwnSo me (at_second now x)
own_dates me now x h = same_own me x (at_second now x) refl refl refl h

pub own_boots : (c : Cluster) (me : ℕ) (disk : NodeRecord) → OwnSo me (up_with me (first_valid_of c me) disk)
own_boots c me disk = no_member me (up_with me (first_valid_of c me) disk) refl refl refl

next_no_less : (a b : ℕ) → b ≡ a + 1 → a ≤ b
next_no_less a b is = omega (arith, is)

next_above : (a b k : ℕ) → b ≡ a + 1 → k ≤ a → k < b
next_above a b k is low = omega (arith, is, low)

next_more : (a b : ℕ) → b ≡ a + 1 → a < b
next_more a b is = omega (arith, is)

no_more : (k : ℕ) → k ≤ k
no_more k = omega arith

pub own_next : (me : ℕ) (x : UpNode) → next_number x.requests ≡ x.requests.asked + 1 → OwnSo me x → HasNext me x
own_next me x is h = record {
  asked = next_no_less x.requests.asked (next_number x.requests) is;
  last = record {
    above = all_of (λ (r : Request). r.number ≤ x.requests.asked) (λ (r : Request). r.number < next_number x.requests) x.requests.waiting (λ r low. next_above x.requests.asked (next_number x.requests) r.number is low) h.low;
    unanswered = by x.presidency h.hand;
  };
}
  where
    by : (o : Option Presidency) → OwnIn me x.requests.asked x.requests.waiting o → UnansweredIn o me (next_number x.requests)
    by None hand = tt
    by (Some p) hand = hand.below (next_number x.requests) (next_more x.requests.asked (next_number x.requests) is)

pub own_numbered : (me : ℕ) (x : UpNode) → next_number x.requests ≡ x.requests.asked + 1 → OwnSo me x → OwnSo me (numbered x)
own_numbered me x is h =
    let up : x.requests.asked ≤ next_number x.requests = next_no_less x.requests.asked (next_number x.requests) is in
    record {
      rises = h.rises;
      low = lows_more x.requests.asked (next_number x.requests) x.requests.waiting up h.low;
      hand = more_in me x.requests.asked (next_number x.requests) x.requests.waiting x.presidency up h.hand;
      office = h.office;
    }

pub own_monitors : (me : ℕ) (x : UpNode) (ask : Ask) → next_number x.requests ≡ x.requests.asked + 1 → OwnSo me x → OwnSo me (monitor_asked x ask)
own_monitors me x ask is h =
    let up : x.requests.asked ≤ next_number x.requests = next_no_less x.requests.asked (next_number x.requests) is in
    let next : HasNext me x = own_next me x is h in
    let r : Request = record { number = next_number x.requests; text = ask_words_of ask; told = false; second = x.second } in
    record {
      rises = rises_more x.requests.waiting r h.rises next.last.above;
      low = all_and (λ (k : Request). k.number ≤ next_number x.requests) x.requests.waiting r (lows_more x.requests.asked (next_number x.requests) x.requests.waiting up h.low) (no_more (next_number x.requests));
      hand = joined_in me (next_number x.requests) x.requests.waiting r x.presidency next.last.unanswered (more_in me x.requests.asked (next_number x.requests) x.requests.waiting x.presidency up h.hand);
      office = h.office;
    }
