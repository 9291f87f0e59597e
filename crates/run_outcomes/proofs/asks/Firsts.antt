-- In each run the coordinator of an attempt is the first of its members.
use Rattle.std.specs.Prelude.{ℕ, ◌==◌, ◌||◌, ◌≡◌, Bool, true, false, List, [], ◌∷◌, Some, find, slice_get, if◌then◌else◌}
use Rattle.std.specs.List.{list_any}
use Rattle.std.proofs.Common.{refl, sym, ap, subst, ◌∙◌}
use Rattle.cl_base.specs.declared.header.Header.{Header}
use Rattle.cmm_attempt.proofs.Basics.{false_true, same_number, same_some}
use Rattle.cmm_attempt.specs.Attempts.{AttemptState}
use Rattle.history.specs.Member.{members_of}
use Rattle.history.specs.Moment.{Moment}
use Rattle.history.specs.Order.{Always}
use Rattle.history.specs.Seizing.{is_attempt}
use Rattle.history.specs.Setting.{Setting, coordinator, nodes_of}
use Rattle.history.specs.Trace.{attempt}
use Rattle.history_setting.specs.Settings.{setting_of}
use Rattle.node_model.specs.Seats.{session_of}
use Rattle.node_model.specs.declared.cluster.Cluster.{Cluster}
use Rattle.node_model.specs.declared.node.Node.TheVariants.{Up}
use Rattle.node_model.specs.declared.node.UpNode.{UpNode}
use Rattle.refinement.specs.Ties.{NodeTied}
use Rattle.run_attempts.proofs.Runs.{attempts_begin_in_each_run}
use Rattle.run_attempts.specs.Laws.{Begins}
use Rattle.run_history.specs.Scenes.{Scene}
use Rattle.run_messages.proofs.Reaching.{IsReached, IsSmall}
use Rattle.run_messages.specs.records.Kept.{KnownScene}
use Rattle.run_seizings.proofs.Runs.{run_seizes}
use Rattle.run_seizings.specs.Seized.{AttemptIn, AttemptSo}
use Rattle.run_seizings.specs.Sites.{UpIn, UpSo}
use Rattle.run_attempts.proofs.Known.{known_scene}
use Rattle.world_model.specs.First.{first_cluster}
use Rattle.run_outcomes.specs.tasks.Asks.{IsFirst}
use Rattle.run_outcomes.proofs.counts.Ended.{Tied, tied_of}

found_first : (ns : List ℕ) (c : ℕ) → slice_get ns 0 ≡ Some c → (p : ℕ → Bool) → p c ≡ true → find p ns ≡ Some c
found_first [] c h p is = absurd (none c h)
  where
    none : (c : ℕ) → slice_get [] 0 ≡ Some c → ⊥
    none c h = cc
found_first (n ∷ ns) c h p is = by_test (p n) (ap p (first_is n ns c h) ∙ is)
  where
    first_is : (n : ℕ) (ns : List ℕ) (c : ℕ) → slice_get (n ∷ ns) 0 ≡ Some c → n ≡ c
    first_is n ns c h = same_some n c h

    by_test : (b : Bool) → b ≡ true → (if b then Some n else find p ns) ≡ Some c
    by_test true k = h
    by_test false k = absurd (false_true k)

-- as the line of the attempt says
first_told : (S : Setting) (e : ℕ) (ms : List Moment) → Always (Begins S) ms → list_any (is_attempt e) ms ≡ true → slice_get (nodes_of (members_of e ms)) 0 ≡ Some (coordinator e)
first_told S e [] all is = absurd (false_true is)
first_told S e (attempt f members ∷ ms) all is = by_test (f == e) refl is (λ there. first_told S e ms all.1 there)
  where
    by_test : (b : Bool) → (f == e) ≡ b → (b || list_any (is_attempt e) ms) ≡ true → (list_any (is_attempt e) ms ≡ true → slice_get (nodes_of (members_of e ms)) 0 ≡ Some (coordinator e))
        → slice_get (nodes_of (if b then members else members_of e ms)) 0 ≡ Some (coordinator e)
    by_test true same there rest = subst (λ k. slice_get (nodes_of members) 0 ≡ Some (coordinator k)) (same_number f e same) all.0.least
    by_test false other there rest = rest there
first_told S e (_ ∷ ms) all is = first_told S e ms all.1 is

-- ---- what is known of an attempt

pub record Knows (h : Header) (s : Scene) (n : ℕ) (x : UpNode) (a : AttemptState) : Type 0 where
  pub so : AttemptSo h s.moments n (session_of x) a
  pub nodes : a.plan.nodes ≡ nodes_of a.plan.members
  pub coordinator : a.plan.coordinator ≡ n
  pub lines : Always (Begins (setting_of h)) s.moments

knows : (h : Header) (cells : ℕ) (s : Scene) → IsSmall h → IsReached h cells s → (n : ℕ) (x : UpNode) (a : AttemptState) → s.nodes.node n ≡ Up x → x.attempt ≡ Some a → Knows h s n x a
knows h cells s size r n x a up has = record {
  so = subst (AttemptIn h s.moments n (session_of x)) has site.attempt;
  nodes = tied.co.has.nodes;
  coordinator = tied.co.coordinator;
  lines = subst (λ (z : Scene). Always (Begins (setting_of h)) z.moments) r.is (attempts_begin_in_each_run h cells r.happenings size.few size.small r.may);
}
  where
    c : Cluster
    c = first_cluster h

    known : KnownScene c s
    known = known_scene h cells s size r

    site : UpSo h s.moments n x
    site = subst (UpIn h s.moments n) up (subst (λ (z : Scene). UpIn h z.moments n (z.nodes.node n)) r.is ((run_seizes h cells r.happenings size.few size.small r.may).seizing.sites n).up)

    tied : Tied c known.stage.machine n a
    tied = tied_of c known.stage.machine n (s.nodes.disk n).kept x a (subst (NodeTied c known.stage.machine n (s.nodes.disk n).kept) up (known.stage.stands n).tied) has

pub coordinator_is : (h : Header) (cells : ℕ) (s : Scene) → IsSmall h → IsReached h cells s → (n : ℕ) (x : UpNode) (a : AttemptState) → s.nodes.node n ≡ Up x → x.attempt ≡ Some a → a.plan.coordinator ≡ coordinator a.plan.epoch
coordinator_is h cells s size r n x a up has = let k : Knows h s n x a = knows h cells s size r n x a up has in k.coordinator ∙ sym k.so.own

pub coordinator_first : (h : Header) (cells : ℕ) (s : Scene) → IsSmall h → IsReached h cells s → (n : ℕ) (x : UpNode) (a : AttemptState) → s.nodes.node n ≡ Up x → x.attempt ≡ Some a → IsFirst a.plan
coordinator_first h cells s size r n x a up has =
    let k : Knows h s n x a = knows h cells s size r n x a up has in
    subst (λ ns. (p : ℕ → Bool) → p a.plan.coordinator ≡ true → find p ns ≡ Some a.plan.coordinator) (sym k.nodes)
    (found_first (nodes_of a.plan.members) a.plan.coordinator
    (subst (λ set. slice_get (nodes_of set) 0 ≡ Some a.plan.coordinator) k.so.of.1 (first_told (setting_of h) a.plan.epoch s.moments k.lines k.so.of.0 ∙ ap (λ j. Some j) (sym (coordinator_is h cells s size r n x a up has)))))
