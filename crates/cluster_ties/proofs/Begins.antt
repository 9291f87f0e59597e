-- A node begins an attempt of its own.
use Rattle.std.specs.Prelude.{ℕ, ◌≡◌, ◌<◌, ◌≤◌, ◌%◌, ◌==◌, All, Bool, true, false, List, [], ◌∷◌, Option, None, Some}
use Rattle.std.proofs.Common.{refl, sym, ap, subst, ◌∙◌, arith}
use Rattle.attempt_laws.specs.Asking.{AreApart, CountsAt, DeviceHas, HasIn, IsFresh, IsUnasked, Moves as CallMoves, numbers_of}
use Rattle.attempt_laws.specs.Machine.{MachineHas}
use Rattle.attempt_laws.proofs.Asks.{devices_begin}
use Rattle.attempt_laws.proofs.Left.{others_leave}
use Rattle.attempt_laws.proofs.MachineLemmas.{newest_is_shown}
use Rattle.attempt_laws.proofs.Stays.{plan_begins}
use Rattle.cl_base.proofs.SetLemmas.{none_of_zero}
use Rattle.cluster_machine.specs.Cluster as whole
use Rattle.cluster_machine.specs.Cluster.{Cluster as Whole, MayCome, Membership, all_after}
use Rattle.cluster_machine.proofs.Whole.{InOrder, run_goes}
use Rattle.cmm_attempt.specs.declared.attached.AttachedDevice.{AttachedDevice}
use Rattle.cmm_attempt.specs.declared.phase.Phase.{Phase}
use Rattle.cmm_attempt.specs.declared.phase.Phase.TheVariants.{Collecting, Choosing, SeizingVotes, SeizingOthers, Installing, Over}
use Rattle.cmm_attempt.specs.declared.promised.Shown.{Shown}
use Rattle.cmm_attempt.specs.declared.step.Step.{Step}
use Rattle.cmm_attempt.specs.declared.step.Step.TheVariants as step
use Rattle.cmm_attempt.specs.Attempts.{AttemptState, Turn, all_promised, beginning, begun, choosing, chosen_by, collects, first_state, promises_of, with_steps}
use Rattle.cmm_attempt.specs.Calls as calls
use Rattle.cmm_attempt.specs.Calls.{IsReached as IsReachedAttempt, installs_in}
use Rattle.cmm_attempt.specs.Promises.{newest_shown, promised_by, shown_by}
use Rattle.cmm_attempt.proofs.Basics.{if_either}
use Rattle.device_machine.specs.Initiator as initiator
use Rattle.device_machine.specs.Sharing as sharing
use Rattle.device_machine.specs.Sharing.{Sharing}
use Rattle.device_ties.specs.Devices.{DeviceTied}
use Rattle.machine_base.specs.Epochs.{coordinator}
use Rattle.machine_base.specs.Put.{put}
use Rattle.machine_base.proofs.Puts.{put_here, put_there}
use Rattle.membership_machine.specs.State.{Epoch}
use Rattle.membership_machine.specs.Events as membership
use Rattle.membership_machine.specs.Events.{HasNewest}
use Rattle.membership_machine.specs.Votes.{Setting}
use Rattle.node_model.specs.declared.cluster.Cluster.{Cluster}
use Rattle.node_model.specs.declared.node.Node.TheVariants.{Up}
use Rattle.node_model.specs.declared.node.UpNode.{UpNode}
use Rattle.node_model.specs.Attempts.{own_promise}
use Rattle.node_model.specs.Seats.{record_of}
use Rattle.refinement.specs.Doings.{begun_by}
use Rattle.refinement.proofs.Heads.{ArePlain, first_plain}
use Rattle.wire.specs.declared.message.Message.{Message}
use Rattle.device_ties.specs.Tasks.{is_member}
use Rattle.cluster_ties.specs.Ties.{Devices, DevicesTied, UpAt}
use Rattle.cluster_ties.specs.Moves.{MembershipGoes, Moves}
use Rattle.cluster_ties.specs.Laws.{BeginsGo, leading_so}
use Rattle.cluster_ties.proofs.Asks.{Same}
use Rattle.cluster_ties.proofs.Calls.{collected_alone, fresh_quiet, true_false}
use Rattle.cluster_ties.proofs.First.{in_order}
use Rattle.cluster_ties.proofs.Moves.{and_on, nowhere}
use Rattle.cluster_ties.proofs.Sessions.{nowhere_joined}

-- Its phases, and what it gives.

abbrev IsFirst : Phase → Type 0
IsFirst Collecting = Unit {0}
IsFirst Choosing = Unit {0}
IsFirst SeizingVotes = ⊥
IsFirst SeizingOthers = ⊥
IsFirst Installing = ⊥
IsFirst Over = ⊥

chosen_first : (s : AttemptState) (o : Option Shown) → IsFirst s.phase → IsFirst (chosen_by s o).after.phase
chosen_first s None h = h
chosen_first s (Some newest) h = tt

begun_first : (s : AttemptState) → IsFirst s.phase → IsFirst (begun s).after.phase
unfolding choosing
begun_first s h =
    if_either (λ (t : Turn). IsFirst t.after.phase) (all_promised s) (choosing s) (with_steps s (collects s)) (chosen_first s (newest_shown s.promises) h) h

first_phase : (p members : ℕ) (own : Message) (attached : List AttachedDevice) (cluster : ℕ) → IsFirst (beginning p members own attached cluster).after.phase
unfolding beginning
first_phase p members own attached cluster = begun_first (first_state p members own attached cluster (promises_of (promised_by own (shown_by own.sender own.body)))) tt

plain_installs : (steps : List Step) → ArePlain steps → installs_in steps ≡ None
plain_installs [] h = refl
plain_installs (step.Send to m ∷ steps) h = plain_installs steps h.1
plain_installs (step.SeizeHere d kind ∷ steps) h = plain_installs steps h.1
plain_installs (step.NeedVotes n ∷ steps) h = plain_installs steps h.1
plain_installs (step.InstallHere x ∷ steps) h = absurd h.0
plain_installs (step.StartHere ∷ steps) h = plain_installs steps h.1
plain_installs (step.Ended e ∷ steps) h = plain_installs steps h.1

number_is : (p : ℕ) → (p == p) ≡ true
number_is p = grind arith

coordinates : (p n : ℕ) → p % 64 ≡ n → coordinator p ≡ n
unfolding coordinator
coordinates p n h = h

by_not : (b : Bool) → (b ≡ true → ⊥) → b ≡ false
by_not true h = absurd (h refl)
by_not false h = refl

not_below : (a b : ℕ) → a < b → b ≤ a → ⊥
not_below a b h k = omega (arith, h, k)

above_zero : (a b : ℕ) → a < b → 0 < b
above_zero a b h = omega (arith, h)

itself_least : (p : ℕ) → p ≤ p
itself_least p = grind arith

module _ (S : Setting) (c : Cluster) (W : Whole) (n p members : ℕ) (x : UpNode) (devices : Devices) (i : InOrder S W) (tied : DevicesTied c devices W) (at : UpAt c W n x) (own : p % 64 ≡ n)
    (fits : All calls.IsDevice c.attached) (apart : AreApart (numbers_of c.attached)) (may : membership.Allowed S W.memberships (membership.Begin p (is_member members)))
    (told : MachineHas (membership.after W.memberships (membership.Begin p (is_member members))) (beginning p members (own_promise n (leading_so x p) p) c.attached c.id).after) where
  abbrev first : Message
  first = own_promise n (leading_so x p) p

  abbrev t : Turn
  t = beginning p members first c.attached c.id

  abbrev y : UpNode
  y = begun_by c n (leading_so x p) p members

  abbrev with_attempt : Whole
  with_attempt = whole.after W (Membership (membership.Begin p (is_member members)) nowhere_joined)

  abbrev all : ℕ → Bool
  all = (with_attempt.memberships.epoch p).members

  at_node : coordinator p ≡ n
  at_node = coordinates p n own

  number : t.after.plan.epoch ≡ p
  number = (plan_begins p members first c.attached c.id).of_epoch

  -- The promise.

  allowed_first : (d : ℕ) → sharing.Allowed (W.device d) (sharing.Promise (coordinator p) p)
  allowed_first d = subst (λ k. k < p) (sym ((i.agrees d).node (coordinator p)).promised) may.0

  begins : Moves S W n with_attempt
  begins = record {
    events = Membership (membership.Begin p (is_member members)) nowhere_joined ∷ [];
    run = ((may, (λ d. (allowed_first d, tt)), tt), refl);
    others = λ k ne. put_there W.memberships.node (coordinator p) _ k (λ is. ne (is ∙ at_node));
    others_at = λ d k ne. put_there (W.device d).node (coordinator p) _ k (λ is. ne (is ∙ at_node));
    attempts = λ a ne h d. others_leave (W.device d) (sharing.Promise (coordinator p) p) a d (h d) (allowed_first d) tt;
  }

  node_so : (d : ℕ) → (with_attempt.device d).node n ≡ initiator.promising ((W.device d).node n) p
  node_so d =
      subst (λ k. put (W.device d).node k (initiator.promising ((W.device d).node k) p) n ≡ initiator.promising ((W.device d).node n) p) (sym at_node)
      (put_here (W.device d).node n (initiator.promising ((W.device d).node n) p))

  order : InOrder S with_attempt
  order = (run_goes S W begins.events with_attempt i begins.run).in_order

  -- The attempt is new.

  untried : (W.memberships.epoch p).tried ≡ false
  untried = by_not (W.memberships.epoch p).tried (λ h. not_below (W.memberships.node (coordinator p)).promised p may.0 ((i.memberships.epoch p).tried_promised h))

  uncollected : (d : ℕ) → ((W.device d).attempt p).collected ≡ false
  uncollected d = by_not ((W.device d).attempt p).collected (λ h. true_false (W.memberships.epoch p).tried (((i.agrees d).attempt p).tried h) untried)

  unasking : (d : ℕ) → ((W.device d).attempt p).asking ≡ false
  unasking d = by_not ((W.device d).attempt p).asking (λ h. true_false _ (((i.device d).attempt p).collected_asking h) (uncollected d))

  fresh : (d : ℕ) → IsFresh ((W.device d).attempt p)
  fresh d = record {
    collected = uncollected d;
    counted = by_not ((W.device d).attempt p).counted (λ h. true_false _ (((i.device d).attempt p).collected_counted h) (uncollected d));
    unasked = record { asking = unasking d; asked = λ m. by_not (((W.device d).attempt p).asked m) (λ h. true_false _ (((i.device d).attempt p).asking m h) (unasking d)) };
  }

  members_so : (k : ℕ) → all k ≡ is_member members k
  members_so k = ap (λ (e : Epoch). e.members k) (put_here W.memberships.epoch p _)

  m : (d : ℕ) → CallMoves (with_attempt.device d) p all d t
  m d =
      devices_begin (with_attempt.device d) p members all first c.attached c.id d (sym own, refl, number_is p) (above_zero (W.memberships.node (coordinator p)).promised p may.0) (fresh d)
      (subst (λ (v : initiator.Initiator). p ≤ v.promised) (sym (node_so d)) (itself_least p)) members_so apart

  abbrev events : ℕ → List sharing.Event
  events d = (m d).events

  abbrev after : ℕ → Sharing
  after d = all_after (with_attempt.device d) (events d)

  none : installs_in t.steps ≡ None
  none = plain_installs t.steps (first_plain p members first c.attached c.id)

  has_after : (d : ℕ) → DeviceHas (after d) t.after d
  has_after d = subst (λ o. CountsAt (after d) t.after d o) none (m d).counts

  has_out : (d : ℕ) (phase : Phase) → t.after.phase ≡ phase → HasIn (after d) t.after.plan t.after.promises t.after.devices d phase
  has_out d phase is = subst (HasIn (after d) t.after.plan t.after.promises t.after.devices d) is (has_after d).has

  from : (V : Whole) → Moves S with_attempt n V → V.memberships ≡ with_attempt.memberships → ((d : ℕ) → V.device d ≡ after d) → ((d : ℕ) → Same (with_attempt.device d) (after d))
      → MembershipGoes S c W n (membership.Begin p (is_member members)) devices (record_of y) (Up y)
  from V moves memberships is same = record {
    machine = V;
    moves = and_on S W with_attempt V n begins moves;
    memberships = memberships;
    devices_so = λ d. subst (λ (s : Sharing). DeviceTied c.id (devices d) s.device) (sym (is d)) (subst (λ z. DeviceTied c.id (devices d) z) (sym (same d).device) (tied d));
    at = record {
      marks = λ d. record { valid = ap (λ (v : initiator.Initiator). v.valid) (node_at d) ∙ (at.marks d).valid; joined = ap (λ (v : initiator.Initiator). v.joined) (node_at d) ∙ sym (none_of_zero d) };
      tasks = tt;
      once = tt;
      idle = λ d nothing low. ap (λ (v : initiator.Initiator). v.phase) (node_at d);
      attempt = λ d. subst (λ s. DeviceHas s t.after d) (sym (is d)) (has_after d);
    };
  }
    where
      node_at : (d : ℕ) → (V.device d).node n ≡ initiator.promising ((W.device d).node n) p
      node_at d = ap (λ (s : Sharing). s.node n) (is d) ∙ (ap (λ f. f n) (same d).node ∙ node_so d)

  quiet : ((d : ℕ) → events d ≡ []) → MembershipGoes S c W n (membership.Begin p (is_member members)) devices (record_of y) (Up y)
  quiet nothing =
      let is : (d : ℕ) → with_attempt.device d ≡ after d = λ d. sym (ap (all_after (with_attempt.device d)) (nothing d)) in
      from with_attempt (nowhere S with_attempt n) refl is (λ d. subst (λ s. Same (with_attempt.device d) s) (is d) (record { node = refl; device = refl }))

  reached : IsReachedAttempt t.after
  reached = record { p = p; members = members; own = first; attached = c.attached; cluster = c.id; devices = fits; calls = []; run = refl }

  collected : ((d : ℕ) → events d ≡ sharing.Collected p all ∷ []) → t.after.phase ≡ Choosing → MembershipGoes S c W n (membership.Begin p (is_member members)) devices (record_of y) (Up y)
  collected are choosing_is =
      let newest : HasNewest with_attempt.memberships t.after.plan.epoch t.after.newest = (newest_is_shown with_attempt.memberships t.after reached told choosing_is).0 in
      let answered : (j : ℕ) → all j ≡ true → (with_attempt.memberships.node j).answered p ≡ true =
      subst (λ z. (j : ℕ) → (with_attempt.memberships.epoch z).members j ≡ true → (with_attempt.memberships.node j).answered z ≡ true) number newest.all_answered in
      let allowed : (d : ℕ) → sharing.Allowed (with_attempt.device d) (sharing.Collected p all) = λ d. (subst (λ es. MayCome (with_attempt.device d) es) (are d) (m d).allowed).0 in
      from (whole.after with_attempt (whole.Collected p)) (record {
        events = whole.Collected p ∷ [];
        run = ((subst (λ z. (with_attempt.memberships.epoch z).tried ≡ true) number told.tried, answered, allowed), refl);
        others = λ j ne. refl;
        others_at = λ d j ne. refl;
        attempts = λ other ne h d. others_leave (with_attempt.device d) (sharing.Collected p all) other d (h d) (allowed d) (λ same. ne (ap coordinator (sym same) ∙ at_node));
      }) refl (λ d. sym (ap (all_after (with_attempt.device d)) (are d))) (λ d. subst (λ es. Same (with_attempt.device d) (all_after (with_attempt.device d) es)) (sym (are d)) (record { node = refl; device = refl }))

  by_phase : (phase : Phase) → t.after.phase ≡ phase → IsFirst phase → MembershipGoes S c W n (membership.Begin p (is_member members)) devices (record_of y) (Up y)
  by_phase Collecting is h =
      quiet (λ d. fresh_quiet p all (with_attempt.device d) (events d) (order.device d) (m d).asking (m d).allowed
      (subst (λ z. ((after d).attempt z).collected ≡ false) number (has_out d Collecting is).0.collected))
  by_phase Choosing is h =
      collected (λ d. collected_alone p all (with_attempt.device d) (events d) (order.device d) (m d).asking (m d).allowed (uncollected d)
      (subst (λ z. ((after d).attempt z).collected ≡ true) number (has_out d Choosing is).0.collected) (subst (λ z. IsUnasked ((after d).attempt z)) number (has_out d Choosing is).1)) is
  by_phase SeizingVotes is h = absurd h
  by_phase SeizingOthers is h = absurd h
  by_phase Installing is h = absurd h
  by_phase Over is h = absurd h

pub begins_go : BeginsGo
begins_go S c W n p members x devices reached_whole tied at own fits apart may told =
    by_phase S c W n p members x devices (in_order S W reached_whole) tied at own fits apart may told (beginning p members (own_promise n (leading_so x p) p) c.attached c.id).after.phase refl
    (first_phase p members (own_promise n (leading_so x p) p) c.attached c.id)
