-- What is known of a scene, and kept of the answers that attempts have: lines that come leave it, where nodes stay.
use Rattle.std.specs.Prelude.{ℕ, ◌≡◌, ◌<◌, ◌≤◌, ◌⊎◌, true, false, List, None, Some}
use Rattle.std.specs.List.{list_any}
use Rattle.std.proofs.Common.{arith, sym, ap, subst, ◌∙◌, inl, inr}
use Rattle.attempt_laws.specs.Staying.{IsBefore}
use Rattle.cl_base.specs.Seizings.{SeizeResult}
use Rattle.cl_base.specs.declared.header.Header.{Header}
use Rattle.cmm_attempt.proofs.Basics.{false_true}
use Rattle.cmm_attempt.specs.Attempts.{AttemptState}
use Rattle.cmm_member.specs.Records.{NodeRecord}
use Rattle.history.specs.Contact.{AttemptsDiffer}
use Rattle.history.specs.Moment.{Moment}
use Rattle.history.specs.Queue as told
use Rattle.history.specs.Seizing.{is_attempt}
use Rattle.history.specs.UnderWay.{is_under_way}
use Rattle.membership_machine.specs.State.{Memberships}
use Rattle.node_model.specs.Seats.{session_of, state_of}
use Rattle.node_model.specs.declared.cluster.Cluster.{Cluster}
use Rattle.node_model.specs.declared.node.Node.{Node}
use Rattle.node_model.specs.declared.node.Node.TheVariants.{Down, Up}
use Rattle.node_model.specs.declared.node.UpNode.{UpNode}
use Rattle.refinement.proofs.Changes.{Sees, sees}
use Rattle.refinement.specs.Runs.{IsAmong, Nodes}
use Rattle.refinement.specs.Ties.{NodeTied}
use Rattle.wire.specs.declared.message.Body.TheVariants as body
use Rattle.world_model.specs.First.{first_cluster}
use Rattle.run_history.proofs.Changes.{At}
use Rattle.run_history.specs.Scenes.{Scene}
use Rattle.run_history.specs.Stages.{Stage}
use Rattle.run_history.specs.Wholes.{IsWhole}
use Rattle.run_messages.proofs.Reaching.{IsReached, IsSmall, stage_of}
use Rattle.run_seizings.proofs.Runs.{run_seizes}
use Rattle.run_seizings.specs.Seized.{AttemptIn, AttemptSo}
use Rattle.run_seizings.specs.Sites.{UpIn, UpSo}
use Rattle.run_outcomes.specs.tasks.Answers.{Answered, IsFree}
use Rattle.run_outcomes.specs.tasks.Said.{AllSaid, installed_in}
use Rattle.run_outcomes.proofs.phases.Runs.{Knows, knows_at}
use Rattle.run_outcomes.proofs.phases.Taken.{Ways, way_of}
use Rattle.run_outcomes.proofs.results.Pathed.{whole_at}
use Rattle.run_outcomes.proofs.results.Freed.{inst, none_late, tied_installed}
use Rattle.run_outcomes.proofs.said.Runs.{run_said}
use Rattle.run_outcomes.proofs.seized.Lines.{Follows, IsSame, heard_by}
use Rattle.run_outcomes.proofs.seized.Taken.{answered_same}

-- ---- what is kept

-- each attempt has what came for it
abbrev pub AllAnswered : Nodes → List Moment → Type 0
AllAnswered v ms = (n : ℕ) (x : UpNode) (a : AttemptState) → v.node n ≡ Up x → x.attempt ≡ Some a → Answered (heard_by a.plan.epoch ms) a.plan.epoch a

-- and all that came was sent
abbrev pub AllSent : Nodes → List Moment → Type 0
AllSent v ms = (e d m : ℕ) (r : SeizeResult) → told.seized_by e d m ms ≡ Some r → IsAmong m (body.Seized e d r) v.sent

pub record Kept (v : Nodes) (ms : List Moment) : Type 0 where
  pub answered : AllAnswered v ms
  pub sent : AllSent v ms

-- ---- what is known of a scene

-- of each attempt, by what was told before
pub record OfAttempt (ms : List Moment) (v : Nodes) (n : ℕ) (x : UpNode) (a : AttemptState) : Type 0 where
  pub some : 0 < a.plan.epoch
  pub attempted : list_any (is_attempt a.plan.epoch) ms ≡ true
  pub promised : a.plan.epoch ≤ (v.disk n).kept.promised
  pub early : IsBefore a.phase → a.plan.epoch ≤ installed_in v n → ⊥

pub record Scened (c : Cluster) (s : Scene) : Type 0 where
  pub knows : Knows c s
  pub whole : IsWhole c s
  pub said : AllSaid s.nodes
  pub attempts : (n : ℕ) (x : UpNode) (a : AttemptState) → s.nodes.node n ≡ Up x → x.attempt ≡ Some a → OfAttempt s.moments s.nodes n x a
  pub differ : AttemptsDiffer s.moments

pub same_most : (a b : ℕ) → a ≡ b → a ≤ b
same_most a b is = omega (arith, is)

of_attempt : (h : Header) (c : Cluster) (s : Scene) (n : ℕ) (x : UpNode) (a : AttemptState) → Stage c s → UpIn h s.moments n (s.nodes.node n) → s.nodes.node n ≡ Up x → x.attempt ≡ Some a
    → OfAttempt s.moments s.nodes n x a
of_attempt h c s n x a b up is has =
    let M : Memberships = b.machine in
    let disk : NodeRecord = (s.nodes.disk n).kept in
    let tied : NodeTied c M n disk (Up x) = subst (NodeTied c M n disk) is (b.stands n).tied in
    let sight : Sees M n disk (state_of x.seat) = sees c M n disk x.attempt x.seat tied.0 in
    let ups : UpSo h s.moments n x = subst (UpIn h s.moments n) is up in
    let so : AttemptSo h s.moments n (session_of x) a = subst (AttemptIn h s.moments n (session_of x)) has ups.attempt in
    let at : At c M n None disk x = record { holds = b.holds; known = tt; tied = tied } in
    let session : a.plan.epoch ≡ (M.node n).session = so.epoch ∙ sym sight.session in
    let promised : (M.node n).promised ≡ disk.promised = sight.promised ∙ ap (λ (r : NodeRecord). r.promised) (sym sight.disk_so) in
    record {
      some = so.some;
      attempted = so.of.0;
      promised = same_most a.plan.epoch disk.promised (session ∙ ((b.holds.node n).session (subst (λ q. 0 < q) session so.some) ∙ promised));
      early = λ before late. none_late c M n None disk x (installed_in s.nodes) at
          (λ k. same_most (installed_in s.nodes k) (inst M k) (sym (tied_installed c M k (s.nodes.node k) (s.nodes.disk k).kept (b.stands k).tied))) a has before
          (subst (λ k. a.plan.epoch ≤ installed_in s.nodes k) (sym so.own) late);
    }

pub scened_at : (h : Header) (cells : ℕ) (s : Scene) → IsSmall h → IsReached h cells s → Scened (first_cluster h) s
scened_at h cells s size r =
    let c : Cluster = first_cluster h in
    let b : Stage c s = stage_of h cells s size r in
    record {
      knows = knows_at h cells s size r;
      whole = whole_at h cells s size r;
      said = subst (λ (z : Scene). AllSaid z.nodes) r.is (run_said h cells r.happenings size r.may);
      attempts = λ n x a is has. of_attempt h c s n x a b (subst (λ (z : Scene). UpIn h z.moments n (z.nodes.node n)) r.is ((run_seizes h cells r.happenings size.few size.small r.may).seizing.sites n).up) is has;
      differ = b.laws.once;
    }

-- ---- lines come, and nodes stay

same_up : (node : Node) (x y : UpNode) → node ≡ Up x → node ≡ Up y → x ≡ y
same_up node x y h k = ap (up_of x) (sym h ∙ k)
  where
    up_of : UpNode → Node → UpNode
    up_of z Down = z
    up_of z (Up w) = w

pub still : (c : Cluster) (s : Scene) (v : Nodes) (after : List Moment) → Scened c s → v.node ≡ s.nodes.node → v.sent ≡ s.nodes.sent → Ways v after → AttemptsDiffer after → Follows s.moments after → Kept s.nodes s.moments
    → Kept v after
still c s v after z nodes letters w differ f k = record { answered = λ n x a is has. answered n x a is has; sent = λ e d m r is. subst (IsAmong m (body.Seized e d r)) (sym letters) (k.sent e d m r (f.heard e d m r is)) }
  where
    answered : (n : ℕ) (x : UpNode) (a : AttemptState) → v.node n ≡ Up x → x.attempt ≡ Some a → Answered (heard_by a.plan.epoch after) a.plan.epoch a
    answered n x a is has =
        let old : s.nodes.node n ≡ Up x = ap (λ (g : ℕ → Node). g n) (sym nodes) ∙ is in
        by_side old (f.way differ a.plan.epoch (way_of v after n x a w is has))
      where
        by_side : s.nodes.node n ≡ Up x → (IsFree (heard_by a.plan.epoch after) × (list_any (is_attempt a.plan.epoch) s.moments ≡ false)) ⊎ ((is_under_way a.plan.epoch s.moments ≡ true) × IsSame (heard_by a.plan.epoch after) (heard_by a.plan.epoch s.moments))
            → Answered (heard_by a.plan.epoch after) a.plan.epoch a
        by_side old (inl free) = absurd (false_true (sym free.1 ∙ (z.attempts n x a old has).attempted))
        by_side old (inr more) = answered_same (heard_by a.plan.epoch s.moments) (heard_by a.plan.epoch after) a.plan.epoch a more.1 (k.answered n x a old has)
