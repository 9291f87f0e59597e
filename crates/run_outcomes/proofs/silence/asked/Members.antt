-- In each run to whom an attempt has sent a Collect or an Install is another member of it.
use Rattle.std.specs.Prelude.{ℕ, ◌==◌, ◌&&◌, ◌||◌, ◌≡◌, ◌≢◌, ◌⊎◌, not, Bool, true, false, List, [], ◌∷◌, Some, if◌then◌else◌}
use Rattle.std.specs.List.{list_any}
use Rattle.std.proofs.Common.{arith, refl, sym, ap, ◌∙◌, inl, inr}
use Rattle.cmm_attempt.proofs.Basics.{and_cases, false_true, or_cases, same_number}
use Rattle.history.specs.Letters as told
use Rattle.history.specs.Moment.{Moment}
use Rattle.history.specs.Names as name
use Rattle.history.specs.Names.{Name, named, same_name}
use Rattle.history.specs.Order.{Always}
use Rattle.history.specs.Setting.{coordinator}
use Rattle.history.specs.Trace.{attempt, delivered, sent}
use Rattle.node_model.specs.declared.node.Node.{Node}
use Rattle.node_model.specs.declared.node.Node.TheVariants.{Down, Up}
use Rattle.refinement.specs.Guards.{OfUp}
use Rattle.run_history.specs.Happenings.{all_happened}
use Rattle.run_history.specs.Scenes.{Scene, first_scene}
use Rattle.run_messages.proofs.Reaching.{IsReached, IsSmall}
use Rattle.world_model.specs.First.{first_cluster}
use Rattle.run_outcomes.specs.reports.Laws.{AsksSo, IsToOther}
use Rattle.run_outcomes.specs.silence.Asked.{asked_in, asks, is_other_node, is_sent}
use Rattle.run_outcomes.specs.silence.Ticks.{AskedAreMembers, IsToAll}
use Rattle.run_outcomes.proofs.asks.Firsts.{coordinator_is}
use Rattle.run_outcomes.proofs.requests.Runs.{requests_are_of_attempts}
use Rattle.run_outcomes.proofs.silence.Lines.{none_comes}
use Rattle.run_outcomes.proofs.silence.asked.AmongRuns.{run_among, to_all_sent}

-- ---- what goes out

-- a packet of this name goes to another node
abbrev pub GoesOut : Name → List Moment → Moment → Type 0
GoesOut q before (sent p n to called bytes) = same_name (named called) q ≡ true → to ≢ n
GoesOut q before _ = Unit {0}

out_by : (n to : ℕ) (q x : Name) → IsToAll q → IsToOther n to x → same_name x q ≡ true → to ≢ n
out_by n to name.Collect name.Collect of h is = h
out_by n to name.Collect _ of h is = absurd (false_true is)
out_by n to name.Install name.Install of h is = h
out_by n to name.Install _ of h is = absurd (false_true is)
out_by n to _ x of h is = absurd of

all_out : (q : Name) (ms : List Moment) → IsToAll q → Always AsksSo ms → Always (GoesOut q) ms
all_out q [] of h = tt
all_out q (sent p n to called bytes ∷ ms) of h = (out_by n to q (named called) of h.0.0, all_out q ms of h.1)
all_out q (_ ∷ ms) of h = (tt, all_out q ms of h.1)

-- ---- lines

if_true : (b : Bool) (x : Bool) → (if b then false else x) ≡ true → x ≡ true
if_true true x h = absurd (false_true h)
if_true false x h = h

parts : (x y z : Bool) → (x && y && z) ≡ true → (y ≡ true) × (z ≡ true)
parts true true z k = (refl, k)
parts true false z k = absurd (false_true k)
parts false y z k = absurd (false_true k)

asked_out : (e m : ℕ) (q : Name) (ms : List Moment) → IsToAll q → Always (GoesOut q) ms → asked_in e (record { to = m; called = q }) ms ≡ true → m ≢ coordinator e
asked_out e m q [] of h is = absurd (false_true is)
asked_out e m q (attempt f members ∷ ms) of h is = asked_out e m q ms of h.1 (if_true (f == e) (asked_in e (record { to = m; called = q }) ms) is)
asked_out e m q (sent p c k called bytes ∷ ms) of h is = by_side (λ before. asked_out e m q ms of h.1 before) (or_cases ((c == coordinator e) && asks (record { to = m; called = q }) k (named called)) (asked_in e (record { to = m; called = q }) ms) is)
  where
    by_side : (asked_in e (record { to = m; called = q }) ms ≡ true → m ≢ coordinator e)
        → (((c == coordinator e) && asks (record { to = m; called = q }) k (named called)) ≡ true) ⊎ (asked_in e (record { to = m; called = q }) ms ≡ true) → m ≢ coordinator e
    by_side rest (inl here) =
        let two : ((c == coordinator e) ≡ true) × (asks (record { to = m; called = q }) k (named called) ≡ true) = and_cases (c == coordinator e) (asks (record { to = m; called = q }) k (named called)) here in
        let both : ((k == m) ≡ true) × (same_name (named called) q ≡ true) = parts (is_sent q) (k == m) (same_name (named called) q) two.1 in
        λ same. h.0 both.1 (same_number k m both.0 ∙ (same ∙ sym (same_number c (coordinator e) two.0)))
    by_side rest (inr before) = rest before
asked_out e m q (delivered p a b ∷ ms) of h is =
    asked_out e m q ms of h.1 (sym (ap (λ t. t || asked_in e (record { to = m; called = q }) ms) (none_comes e (record { to = m; called = q }) (told.letter_of p ms) (to_all_sent q of))) ∙ is)
asked_out e m q (_ ∷ ms) of h is = asked_out e m q ms of h.1 is

-- ---- the law

other_of : (c m : ℕ) (among : Bool) → among ≡ true → m ≢ c → (among && not (m == c)) ≡ true
other_of c m true is ne = ap not (unlike m c ne)
  where
    unlike : (a b : ℕ) → a ≢ b → (a == b) ≡ false
    unlike a b h = grind arith
other_of c m false is ne = absurd (false_true is)

pub asked_are_members : AskedAreMembers
asked_are_members h cells hs last many few small disks may shaped native boots left n a has m q of is = by_node (s.nodes.node n) refl has
  where
    s : Scene
    s = all_happened (first_cluster h) (first_scene h cells) hs

    size : IsSmall h
    size = record { few = few; small = small }

    here : IsReached h cells s
    here = record { happenings = hs; may = may; is = refl }

    by_node : (node : Node) → s.nodes.node n ≡ node → OfUp (λ x. x.attempt ≡ Some a) node → is_other_node a.plan m ≡ true
    by_node Down at found = absurd found
    by_node (Up x) at found =
        other_of a.plan.coordinator m (list_any (λ k. k == m) a.plan.nodes) (run_among h cells hs size may n x a at found m q of is)
        (λ same. asked_out a.plan.epoch m q s.moments of (all_out q s.moments of (requests_are_of_attempts h cells hs few small may)) is (same ∙ coordinator_is h cells s size here n x a at found))
