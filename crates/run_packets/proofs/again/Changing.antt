-- Each change keeps it that what a president has in hand of others has come; a node that becomes a member has sent no Request in its membership.
use Rattle.std.specs.Prelude.{ℕ, zero, suc, ◌+◌, ◌-◌, ◌≡◌, ◌<◌, ◌++◌, false, List, [], ◌∷◌, Option, None, Some, replicate, slice_index_or}
use Rattle.std.specs.List.{AllByRecursion}
use Rattle.std.proofs.Common.{refl, ap, sym, subst, ◌∙◌, inl, inr}
use Rattle.ccr_commit.specs.Entries.{all_committed}
use Rattle.ccr_tables.specs.State.{ConfigState}
use Rattle.cl_base.specs.Limits.{most_nodes}
use Rattle.cl_base.specs.Numbers.{numbers_to}
use Rattle.cl_base.specs.Sets.{set_without}
use Rattle.cmm_attempt.proofs.Basics.{if_either, none_some}
use Rattle.cmm_attempt.specs.Attempts.{AttemptState}
use Rattle.cmm_attempt.specs.Calls.{turn}
use Rattle.cmm_member.specs.Nodes.{NodeState, with_joined, with_valid}
use Rattle.history.specs.Moment.{Moment}
use Rattle.history.specs.Setting.{Setting}
use Rattle.node_model.specs.Attempts.{adopted_line, adopted_lines, adopted_of, adopted_on, base_lines, is_adopted, starting_as}
use Rattle.node_model.specs.Configurations.{in_force}
use Rattle.node_model.specs.Entries.{unknown_line, unknown_lines}
use Rattle.node_model.specs.Members.{rested_by}
use Rattle.node_model.specs.Seats.{promising, record_of, session_of, state_of, with_state}
use Rattle.node_model.specs.declared.cluster.Cluster.{Cluster}
use Rattle.node_model.specs.declared.input.Input.{Input}
use Rattle.node_model.specs.declared.node.UpNode.{UpNode}
use Rattle.node_model.specs.declared.output.Output.{Output}
use Rattle.node_model.specs.declared.presidency.Presidency.{Presidency}
use Rattle.node_model.specs.declared.seat.Seat.{Seat}
use Rattle.node_model.specs.declared.seat.Seat.TheVariants.{Forming, Member}
use Rattle.proposals.specs.State.{nothing_yet}
use Rattle.proposals.specs.declared.arrived.Kept.{Kept}
use Rattle.refinement.proofs.Handlers.{delivered_by}
use Rattle.refinement.specs.Doings.{Change, adopted_by, changed, first_lines, gone_line, last_lines, start_lines, superseded_lines}
use Rattle.refinement.specs.Doings.Change.{Acks, Admits, Commits, Counts, Distrusts, Installs, Leads, Prepares, Promises, Proposes, Sits, Starts}
use Rattle.refinement.specs.Guards.{MayChange}
use Rattle.request_queue.specs.declared.request.Request.{Request}
use Rattle.rg_props.specs.declared.group.Resource.{Resource}
use Rattle.rg_view.specs.States as states
use Rattle.rg_view.specs.declared.view.GroupView.{GroupView}
use Rattle.run_commands.proofs.acknowledged.Carrying.{Around, ChangeStep, ChangedTo, IsSaving, change_lines}
use Rattle.run_commands.specs.acknowledged.AnsweringGuards.{AcksSo, ChangeSo, Due}
use Rattle.run_commands.specs.acknowledged.AnsweringGuards.Due.{Even, Gave, Owes}
use Rattle.run_commands.specs.acknowledged.Askings.{requested_as}
use Rattle.run_commands.specs.acknowledged.Guards.{CauseOf}
use Rattle.run_commands.specs.acknowledged.Steps.{HandIn}
use Rattle.run_commands.specs.carried.Guards.{Command}
use Rattle.run_history.proofs.Lists.{both, of_each}
use Rattle.run_history.specs.Scenes.{Scene, passing}
use Rattle.run_messages.specs.Laws.{membership_in}
use Rattle.status_report.specs.declared.node_entry.DownCause.{DownCause}
use Rattle.run_packets.specs.again.Coming.{HandOf, IsOwed, Knows, OfficeHas, ToldWell}
use Rattle.run_packets.proofs.again.Coming.{ChangeOut, change_passing, knows_passing}
use Rattle.run_packets.proofs.again.Giving.{Keeps}
use Rattle.run_packets.proofs.again.Hands.{cause_come, first_came, hand_answers, hand_same}

-- ---- the lines of a change

module _ (base : List Moment) where
  superseded_fit : (p : ℕ) (o : Option AttemptState) → AllByRecursion (ChangeOut base) (superseded_lines p o)
  superseded_fit p None = tt
  superseded_fit p (Some a) = (tt, tt)

  unknown_fit : (n : ℕ) (rs : List Request) → AllByRecursion (ChangeOut base) (unknown_lines n rs)
  unknown_fit n [] = tt
  unknown_fit n (r ∷ rs) = both (ChangeOut base) (unknown_line n r) (unknown_lines n rs) (if_either (AllByRecursion (ChangeOut base)) r.told _ [] (tt, tt) tt) (unknown_fit n rs)

  bases_fit : (e before : ℕ) (texts : List (List ℕ)) → AllByRecursion (ChangeOut base) (base_lines e before texts)
  bases_fit e before [] = tt
  bases_fit e before (text ∷ texts) = (tt, bases_fit e (before + 1) texts)

  adopted_lines_fit : (e : ℕ) (v : GroupView) (resources : List (List ℕ × Resource)) → AllByRecursion (ChangeOut base) (adopted_lines e v resources)
  unfolding adopted_lines
  adopted_lines_fit e v resources =
      of_each (ChangeOut base) (adopted_on e v resources) (numbers_to v.members most_nodes)
      (λ k. of_each (ChangeOut base) (λ x. adopted_line e k x.0 (states.state_of v.resources x.0 k)) resources
      (λ x. if_either (AllByRecursion (ChangeOut base)) (is_adopted (states.state_of v.resources x.0 k)) _ [] (tt, tt) tt))

  adopted_fit : (e : ℕ) (s : ConfigState) (o : Option Presidency) → AllByRecursion (ChangeOut base) (adopted_of e s o)
  adopted_fit e s None = tt
  adopted_fit e s (Some p) = adopted_lines_fit e p.groups.view s.groups.resources

  first_fit : (n : ℕ) (change : Change) → AllByRecursion (ChangeOut base) (first_lines n change)
  first_fit n (Admits at command a d) = (tt, tt)
  first_fit n (Proposes s p text) = (tt, tt)
  first_fit n _ = tt

  -- the membership that it brings
  abbrev Brings : ℕ → Change → Type 0
  Brings n (Starts a k s) = (q : ℕ) → requested_as n q (turn a k).after.plan.epoch base ≡ false
  Brings n (Sits s e) = (q : ℕ) → requested_as n q e base ≡ false
  Brings n _ = Unit {0}

  last_fit : (c : Cluster) (n : ℕ) (x : UpNode) (change : Change) → Brings n change → AllByRecursion (ChangeOut base) (last_lines c n x change)
  last_fit c n x (Promises p) fresh = both (ChangeOut base) (superseded_lines p x.attempt) (unknown_lines n x.requests.waiting) (superseded_fit p x.attempt) (unknown_fit n x.requests.waiting)
  last_fit c n x (Leads p members) fresh = (tt, unknown_fit n x.requests.waiting)
  last_fit c n x (Counts a k s i) fresh = (tt, tt)
  last_fit c n x (Installs s i) fresh = (tt, tt)
  last_fit c n x (Starts a k s) fresh =
      let t : AttemptState = (turn a k).after in
      let y : UpNode = starting_as c n x t s in
      both (ChangeOut base) (start_lines t s) _ (tt, bases_fit t.plan.epoch 0 (all_committed s.saved.entries).committed)
      (both (ChangeOut base) (adopted_by c t y) _ (adopted_fit t.plan.epoch (in_force c y) y.presidency) (fresh, tt))
  last_fit c n x (Sits s e) fresh = (fresh, tt)
  last_fit c n x (Distrusts d) fresh = tt
  last_fit c n x (Admits at command a d) fresh = tt
  last_fit c n x (Proposes s p text) fresh = tt
  last_fit c n x (Acks s p q left text) fresh = (tt, tt)
  last_fit c n x (Prepares s text) fresh = tt
  last_fit c n x (Commits s) fresh = tt

  saving_fit : (n : ℕ) (middle : List Output) → IsSaving n middle → AllByRecursion (ChangeOut base) middle
  saving_fit n middle (inl is) = subst (AllByRecursion (ChangeOut base)) (sym is) tt
  saving_fit n middle (inr is) = subst (AllByRecursion (ChangeOut base)) (sym is) (tt, tt)

  lines_fit : (c : Cluster) (n : ℕ) (x : UpNode) (change : Change) (middle : List Output) → Brings n change → IsSaving n middle → AllByRecursion (ChangeOut base) (change_lines c n x change middle)
  lines_fit c n x change middle fresh saving =
      both (ChangeOut base) (first_lines n change) (middle ++ last_lines c n x change) (first_fit n change)
      (both (ChangeOut base) middle (last_lines c n x change) (saving_fit n middle saving) (last_fit c n x change fresh))

-- the node goes down in its save
pub falls_told : (n : ℕ) (change : Change) (why : DownCause) (s : Scene) → ToldWell s.moments → ToldWell (passing n (first_lines n change ++ gone_line n why) s).moments
falls_told n change why s told =
    change_passing n (first_lines n change ++ gone_line n why) s (both (ChangeOut s.moments) (first_lines n change) (gone_line n why) (first_fit s.moments n change) (tt, tt)) told

-- ---- the membership that it brings is fresh

-- an attempt that starts is of the session of its node
abbrev pub StartsInSession : Input → ℕ → Option ℕ → UpNode → Change → Type 0
StartsInSession i me v x (Starts a k s) = s.session ≡ (turn a k).after.plan.epoch
StartsInSession i me v x _ = Unit {0}

brings_fresh : (S : Setting) (c : Cluster) (n : ℕ) (i : Input) (v : Option ℕ) (o : Option Command) (h : Option ℕ) (promised : ℕ) (x : UpNode) (change : Change) (s : Scene) → Around S c n i v o h promised x s
    → MayChange c n (delivered_by i) x change → ChangedTo n (changed c n x change) → StartsInSession i n v x change → Brings s.moments n change
brings_fresh S c n i v o h promised x change s k may to session = by change may to session
  where
    sitting : (t : NodeState) → x.seat ≡ Forming t → 0 < t.session → (q : ℕ) → requested_as n q t.session s.moments ≡ false
    sitting t sits some q =
        let same : session_of x ≡ t.session = ap (λ (z : Seat). (state_of z).session) sits in
        subst (λ e. requested_as n q e s.moments ≡ false) same ((k.holds.up.forming (ap membership_in sits) (subst (λ e. 0 < e) (sym same) some)).requested q)

    by : (ch : Change) → MayChange c n (delivered_by i) x ch → ChangedTo n (changed c n x ch) → StartsInSession i n v x ch → Brings s.moments n ch
    by (Starts a j t) may to session = λ q. subst (λ e. requested_as n q e s.moments ≡ false) session (sitting t may.1 (to.session t.session refl) q)
    by (Sits t e) may to session = λ q. subst (λ z. requested_as n q z s.moments ≡ false) may.2 (sitting t may.0 (to.session t.session refl) q)
    by _ may to session = tt

-- ---- what is in hand

none_at : (k n : ℕ) → (let none : Option Kept = None in slice_index_or (replicate n none) k None ≡ None)
none_at k zero = refl
none_at zero (suc n) = refl
none_at (suc k) (suc n) = none_at k n

-- a president at first has nothing
first_hand : (n e : ℕ) (ms : List Moment) → HandOf n e ms nothing_yet
first_hand n e ms = record { arrived = tt; kept = λ m k one other is. absurd (none_some k (sym (none_at (m - 1) 32) ∙ is)) }

rested_has : (n e : ℕ) (ms : List Moment) (x : UpNode) (p : ℕ) (a : Option AttemptState) → OfficeHas n e ms (rested_by (promising x p) a).presidency
rested_has n e ms x p None = tt
rested_has n e ms x p (Some a) = tt

with_session : (seat : Seat) (t : NodeState) → t.session ≡ (state_of seat).session → (state_of (with_state seat t)).session ≡ (state_of seat).session
with_session (Forming s) t same = same
with_session (Member s) t same = same

module _ (S : Setting) (c : Cluster) (n : ℕ) (i : Input) (v : Option ℕ) (o : Option Command) (h : Option ℕ) (promised : ℕ) (x : UpNode) (s : Scene) (k : Around S c n i v o h promised x s) where
  -- the same in hand, and nothing due
  same_has : (ms : List Moment) (y : UpNode) → y.presidency ≡ x.presidency → session_of y ≡ session_of x → OfficeHas n (session_of x) ms x.presidency → OfficeHas n (session_of y) ms y.presidency
  same_has ms y presidency session hand = subst (λ e. OfficeHas n e ms y.presidency) (sym session) (subst (OfficeHas n (session_of x) ms) (sym presidency) hand)

  same_session : (seat : Seat) (e : ℕ) → x.seat ≡ seat → (state_of seat).session ≡ e → e ≡ session_of x
  same_session seat e is session = sym (ap (λ z. (state_of z).session) is ∙ session)

  office_at : (ms : List Moment) (p : Presidency) → x.presidency ≡ Some p → OfficeHas n (session_of x) ms x.presidency → HandOf n (session_of x) ms p.proposals
  office_at ms p is hand = subst (OfficeHas n (session_of x) ms) is hand

  -- where nothing was due
  changed_has : (change : Change) (ms : List Moment) → MayChange c n (delivered_by i) x change
      → ((p left : Presidency) (text : List ℕ) (g : Due) → x.presidency ≡ Some p → AcksSo c i n v x p left text g → HandOf n (session_of x) ms p.proposals → HandOf n (session_of x) ms left.proposals)
      → (g : Due) → ChangeSo c i n v x Even change g → OfficeHas n (session_of x) ms x.presidency → (let y : UpNode = changed c n x change in OfficeHas n (session_of y) ms y.presidency)
  changed_has (Promises p) ms may acks g so hand = rested_has n (session_of (changed c n x (Promises p))) ms x p x.attempt
  changed_has (Leads p members) ms may acks g so hand = tt
  changed_has (Counts a j t e) ms may acks g so hand = same_has ms (changed c n x (Counts a j t e)) refl (same_session (Forming t) t.session may.1 refl) hand
  changed_has (Installs t e) ms may acks g so hand = same_has ms (changed c n x (Installs t e)) refl (same_session (Forming t) t.session may.0 refl) hand
  changed_has (Starts a j t) ms may acks g so hand = first_hand n t.session ms
  changed_has (Sits t e) ms may acks g so hand = same_has ms (changed c n x (Sits t e)) refl (same_session (Forming t) t.session may.0 refl) hand
  changed_has (Distrusts d) ms may acks g so hand = same_has ms (changed c n x (Distrusts d)) refl (with_session x.seat (with_valid (state_of x.seat) (set_without (record_of x).valid d)) refl) hand
  changed_has (Admits at command a d) ms may acks g so hand = same_has ms (changed c n x (Admits at command a d)) refl (with_session x.seat (with_joined (state_of x.seat) d) refl) hand
  changed_has (Proposes t p text) ms may acks g so hand =
      subst (λ e. OfficeHas n e ms (changed c n x (Proposes t p text)).presidency) (sym (with_session x.seat _ refl)) (hand_same n (session_of x) ms p.proposals _ refl refl (office_at ms p may.0 hand))
  changed_has (Acks t p q left text) ms may acks g so hand = subst (λ e. HandOf n e ms left.proposals) (sym (with_session x.seat _ refl)) (acks p left text g may.0 so (office_at ms p may.0 hand))
  changed_has (Prepares t text) ms may acks g so hand = same_has ms (changed c n x (Prepares t text)) refl (same_session (Member t) t.session may.0 refl) hand
  changed_has (Commits t) ms may acks g so hand = same_has ms (changed c n x (Commits t)) refl (same_session (Member t) t.session may.0 refl) hand

  -- the first request is acknowledged
  acks_has : (p left : Presidency) (text : List ℕ) (g : Due) → x.presidency ≡ Some p → AcksSo c i n v x p left text g → HandOf n (session_of x) s.moments p.proposals → HandOf n (session_of x) s.moments left.proposals
  acks_has p left text g is so hand =
      hand_answers n (session_of x) s.moments (CauseOf i n v x) so.request _ p.proposals left.proposals (cause_come i n v x s.moments k.from k.before.came) so.answers
      (subst (HandIn S c s.moments (session_of x)) is k.holds.up.hand).sound hand

  acked_owes : (p left : Presidency) (text : List ℕ) (g : Due) → x.presidency ≡ Some p → AcksSo c i n v x p left text g → OfficeHas n (session_of x) s.moments x.presidency → IsOwed n (session_of x) s.moments g
  acked_owes p left text g is so hand = subst (IsOwed n (session_of x) s.moments) (sym so.then) (first_came n (session_of x) s.moments p.proposals so.request so.answers.first (office_at s.moments p is hand))

  -- what is due then
  changed_owes : (change : Change) (g : Due) → MayChange c n (delivered_by i) x change → ChangeSo c i n v x Even change g → OfficeHas n (session_of x) s.moments x.presidency
      → IsOwed n (session_of (changed c n x change)) s.moments g
  changed_owes (Acks t p q left text) g may so hand = subst (λ e. IsOwed n e s.moments g) (sym (with_session x.seat _ refl)) (acked_owes p left text g may.0 so hand)
  changed_owes (Proposes t p text) g may so hand = subst (IsOwed n (session_of (changed c n x (Proposes t p text))) s.moments) (sym so.1) tt
  changed_owes (Promises p) g may so hand = subst (IsOwed n (session_of (changed c n x (Promises p))) s.moments) (sym so) tt
  changed_owes (Leads p members) g may so hand = subst (IsOwed n (session_of (changed c n x (Leads p members))) s.moments) (sym so) tt
  changed_owes (Counts a j t e) g may so hand = subst (IsOwed n (session_of (changed c n x (Counts a j t e))) s.moments) (sym so) tt
  changed_owes (Installs t e) g may so hand = subst (IsOwed n (session_of (changed c n x (Installs t e))) s.moments) (sym so) tt
  changed_owes (Starts a j t) g may so hand = subst (IsOwed n (session_of (changed c n x (Starts a j t))) s.moments) (sym so) tt
  changed_owes (Sits t e) g may so hand = subst (IsOwed n (session_of (changed c n x (Sits t e))) s.moments) (sym so) tt
  changed_owes (Distrusts d) g may so hand = subst (IsOwed n (session_of (changed c n x (Distrusts d))) s.moments) (sym so) tt
  changed_owes (Admits at command a d) g may so hand = subst (IsOwed n (session_of (changed c n x (Admits at command a d))) s.moments) (sym so) tt
  changed_owes (Prepares t text) g may so hand = subst (IsOwed n (session_of (changed c n x (Prepares t text))) s.moments) (sym so) tt
  changed_owes (Commits t) g may so hand = subst (IsOwed n (session_of (changed c n x (Commits t))) s.moments) (sym so) tt

  pub change_knows : (change : Change) (d g : Due) (middle : List Output) → IsSaving n middle → ChangeStep c n i v o x change d g (change_lines c n x change middle) s → ChangedTo n (changed c n x change) → StartsInSession i n v x change
      → Knows n d x s.moments → ToldWell s.moments → Keeps n g (changed c n x change) (passing n (change_lines c n x change middle) s).moments
  change_knows change d g middle saving step to session inside told =
      let y : UpNode = changed c n x change in
      let known : Knows n g y s.moments = by d step.so inside in (
        knows_passing n n g y (change_lines c n x change middle) s known,
        change_passing n (change_lines c n x change middle) s (lines_fit s.moments c n x change middle (brings_fresh S c n i v o h promised x change s k step.may to session) saving) told,
      )
    where
      by : (e : Due) → ChangeSo c i n v x e change g → Knows n e x s.moments → Knows n g (changed c n x change) s.moments
      by Even so known = record {
        hand = changed_has change s.moments step.may acks_has g so known.hand;
        owed = changed_owes change g step.may so known.hand;
      }
      by (Gave a reply) so known = absurd so
      by (Owes a) so known = absurd so
