-- A step of a node, and lines, leave what each attempt has taken of Promises, as long as it collects.
use Rattle.std.specs.Prelude.{ℕ, ◌==◌, ◌≡◌, ◌≢◌, ◌⊎◌, true, List, [], Option, None, Some}
use Rattle.std.specs.List.{list_any}
use Rattle.std.proofs.Common.{arith, refl, sym, ap, subst, ◌∙◌, inl, inr}
use Rattle.cl_base.specs.declared.method.Outcome as method
use Rattle.cmm_attempt.proofs.Basics.{false_true, same_number}
use Rattle.cmm_attempt.specs.Attempts.{AttemptState}
use Rattle.history.specs.Letters.{Letter}
use Rattle.history.specs.Moment.{Moment}
use Rattle.history.specs.Queue as told
use Rattle.history.specs.Records.{promises}
use Rattle.history.specs.Seizing.{is_number}
use Rattle.history.specs.Setting.{coordinator}
use Rattle.history.specs.UnderWay.{is_under_way}
use Rattle.machine_base.specs.Put.{put}
use Rattle.machine_base.proofs.Puts.{put_here, put_there, same_or_not}
use Rattle.node_model.specs.Steps.{Outcome, stepped}
use Rattle.node_model.specs.declared.cluster.Cluster.{Cluster}
use Rattle.node_model.specs.declared.input.Input.{Input}
use Rattle.node_model.specs.declared.node.Node.{Node}
use Rattle.node_model.specs.declared.node.Node.TheVariants.{Down, Up}
use Rattle.node_model.specs.declared.node.UpNode.{UpNode}
use Rattle.node_model.specs.declared.output.Output.{Output}
use Rattle.record_disk.specs.Disks.{DiskState}
use Rattle.refinement.specs.Runs.{Nodes, moved}
use Rattle.refinement.specs.Runs.Move.{Takes as Takes_in}
use Rattle.refinement.specs.Steps.{disk_rules}
use Rattle.run_downs.proofs.Packets.{no_packets}
use Rattle.run_attempts.specs.endings.Laws.{epoch_at, epoch_of}
use Rattle.run_history.proofs.Idle.{passing_nodes}
use Rattle.run_history.specs.Happenings.{given_by, taking}
use Rattle.run_history.specs.Scenes.{Scene}
use Rattle.run_outcomes.specs.saves.Kept.{IsAt}
use Rattle.run_outcomes.specs.phases.Kept.{GathersIn, In, Takes}
use Rattle.run_outcomes.proofs.phases.Arrivals.{gathers_same}
use Rattle.run_outcomes.proofs.phases.Gathering.{call_gathers}
use Rattle.run_outcomes.proofs.phases.Leading.{Has}
use Rattle.run_outcomes.proofs.phases.Lines.{Follows, passing_follows}
use Rattle.run_outcomes.proofs.phases.Steps.{Comes, step_has}

-- ---- nodes and their attempts

-- what is under way, by these lines, and whose attempts they are
pub record Ways (v : Nodes) (ms : List Moment) : Type 0 where
  pub theirs : (e : ℕ) → is_under_way e ms ≡ is_number e (epoch_at (v.node (coordinator e)))
  pub own : (n : ℕ) (x : UpNode) (a : AttemptState) → v.node n ≡ Up x → x.attempt ≡ Some a → coordinator a.plan.epoch ≡ n

abbrev pub AllIn : Nodes → List Moment → Type 0
AllIn v ms = (n : ℕ) (x : UpNode) (a : AttemptState) → v.node n ≡ Up x → x.attempt ≡ Some a → Takes ms a

-- a node has the attempt of this number
pub record HasIn (node : Node) (e : ℕ) : Type 0 where
  pub x : UpNode
  pub a : AttemptState
  pub up : node ≡ Up x
  pub has : x.attempt ≡ Some a
  pub number : a.plan.epoch ≡ e

has_in : (node : Node) (e : ℕ) → is_number e (epoch_at node) ≡ true → HasIn node e
has_in Down e is = absurd (false_true is)
has_in (Up x) e is = by_attempt x.attempt refl is
  where
    by_attempt : (o : Option AttemptState) → x.attempt ≡ o → is_number e (epoch_of o) ≡ true → HasIn (Up x) e
    by_attempt None at is = absurd (false_true is)
    by_attempt (Some a) at is = record { x = x; a = a; up = refl; has = at; number = same_number a.plan.epoch e is }

itself : (e f : ℕ) → f ≡ e → (f == e) ≡ true
itself e f h = grind arith

pub way_of : (v : Nodes) (ms : List Moment) (n : ℕ) (x : UpNode) (a : AttemptState) → Ways v ms → v.node n ≡ Up x → x.attempt ≡ Some a → is_under_way a.plan.epoch ms ≡ true
way_of v ms n x a w up has =
    w.theirs a.plan.epoch ∙ (ap (λ k. is_number a.plan.epoch (epoch_at (v.node k))) (w.own n x a up has) ∙ (ap (λ z. is_number a.plan.epoch (epoch_at z)) up ∙ (ap (λ o. is_number a.plan.epoch (epoch_of o)) has ∙ itself a.plan.epoch a.plan.epoch refl)))

pub has_of : (v : Nodes) (ms : List Moment) (n e : ℕ) → Ways v ms → coordinator e ≡ n → is_under_way e ms ≡ true → HasIn (v.node n) e
has_of v ms n e w own way = has_in (v.node n) e (sym (ap (λ k. is_number e (epoch_at (v.node k))) own) ∙ (sym (w.theirs e) ∙ way))

same_up : (node : Node) (x y : UpNode) → node ≡ Up x → node ≡ Up y → x ≡ y
same_up node x y h k = ap (up_of x) (sym h ∙ k)
  where
    up_of : UpNode → Node → UpNode
    up_of z Down = z
    up_of z (Up w) = w

no_promises : (ms : List Moment) (a : AttemptState) → promises a.plan.epoch ms ≡ [] → Takes ms a
no_promises ms a none at k within due = absurd (false_true (sym (ap (λ ls. list_any (λ (l : Letter). l.from == k) ls) none) ∙ due))

pub takes_same : (ms after : List Moment) (a : AttemptState) → promises a.plan.epoch after ≡ promises a.plan.epoch ms → Takes ms a → Takes after a
takes_same ms after a same h = (gathers_same a.plan.epoch ms after a same (refl, h)).1

-- lines come, and nodes stay
pub still : (v : Nodes) (ms after : List Moment) → Ways v after → Follows ms after → AllIn v ms → AllIn v after
still v ms after w f h n x a up has = by_side (f a.plan.epoch (way_of v after n x a w up has))
  where
    by_side : (promises a.plan.epoch after ≡ []) ⊎ ((is_under_way a.plan.epoch ms ≡ true) × (promises a.plan.epoch after ≡ promises a.plan.epoch ms)) → Takes after a
    by_side (inl none) = no_promises after a none
    by_side (inr more) = takes_same ms after a more.1 (h n x a up has)

-- ---- a step

-- what comes to each attempt of node n, and what holds of those of the others
pub record Comes_to (c : Cluster) (n : ℕ) (i : Input) (v : Nodes) (ms : List Moment) : Type 0 where
  pub none : (x : UpNode) (a : AttemptState) → v.node n ≡ Up x → x.attempt ≡ Some a → x.presidency ≡ None
  pub here : (x : UpNode) (a : AttemptState) → v.node n ≡ Up x → x.attempt ≡ Some a → Comes (GathersIn a.plan.epoch (λ k. told.has_promised a.plan.epoch ms k ≡ true)) c n x a i
  pub there : (k : ℕ) (x : UpNode) (a : AttemptState) → k ≢ n → v.node k ≡ Up x → x.attempt ≡ Some a → Takes ms a

at_up : (P : UpNode → Type 0) (node : Node) (y : UpNode) → node ≡ Up y → IsAt P node → P y
at_up P node y is h = subst (IsAt P) is h

stepped_in : (c : Cluster) (n now : ℕ) (ends : method.Outcome) (i : Input) (v : Nodes) (ms after : List Moment) → Ways v ms → Ways (moved c v (Takes_in n now ends i)) after → Follows ms after → Comes_to c n i v ms
    → AllIn (moved c v (Takes_in n now ends i)) after
stepped_in c n now ends i v ms after w u f h k y b up has = by_side (f e (way_of (moved c v (Takes_in n now ends i)) after k y b u up has))
  where
    o : Outcome DiskState
    o = stepped disk_rules c n now ends (v.node n) (v.disk n) i

    e : ℕ
    e = b.plan.epoch

    own : coordinator e ≡ k
    own = u.own k y b up has

    by_here : k ≡ n → HasIn (v.node n) e → promises e after ≡ promises e ms → Takes after b
    by_here is g same =
        let I : AttemptState → Type 0 = GathersIn g.a.plan.epoch (λ j. told.has_promised g.a.plan.epoch ms j ≡ true) in
        let at : IsAt (Has I) o.after = subst (λ z. IsAt (Has I) (stepped disk_rules c n now ends z (v.disk n) i).after) (sym g.up) (step_has I c n now ends g.x g.a (v.disk n) i (λ a q may. call_gathers g.a.plan.epoch _ a q may) g.has (h.none g.x g.a g.up g.has) (h.here g.x g.a g.up g.has)) in
        let node : o.after ≡ Up y = sym (put_here v.node n o.after) ∙ subst (λ j. put v.node n o.after j ≡ Up y) is up in
        let kept : I b = subst (In I) has (at_up (Has I) o.after y node at) in
        takes_same ms after b same (λ at j member due. kept.1 at j member (subst (λ q. told.has_promised q ms j ≡ true) (sym g.number) due))

    by_there : k ≢ n → promises e after ≡ promises e ms → Takes after b
    by_there ne same = takes_same ms after b same (h.there k y b ne (sym (put_there v.node n o.after k ne) ∙ up) has)

    by_node : is_under_way e ms ≡ true → promises e after ≡ promises e ms → (k ≡ n) ⊎ (k ≢ n) → Takes after b
    by_node way same (inl is) = by_here is (has_of v ms n e w (own ∙ is) way) same
    by_node way same (inr ne) = by_there ne same

    by_side : (promises e after ≡ []) ⊎ ((is_under_way e ms ≡ true) × (promises e after ≡ promises e ms)) → Takes after b
    by_side (inl none) = no_promises after b none
    by_side (inr more) = by_node more.0 more.1 (same_or_not k n)

pub taking_in : (c : Cluster) (n now : ℕ) (ends : method.Outcome) (i : Input) (t : Scene) → Ways t.nodes t.moments → Ways (taking c n now ends i t).nodes (taking c n now ends i t).moments → Comes_to c n i t.nodes t.moments
    → AllIn (taking c n now ends i t).nodes (taking c n now ends i t).moments
taking_in c n now ends i t w u h =
    subst (λ v. AllIn v z.moments) (sym same) (stepped_in c n now ends i t.nodes t.moments z.moments w (subst (λ v. Ways v z.moments) same u) (passing_follows n os (record t { nodes = moved c t.nodes (Takes_in n now ends i) }) (no_packets c n now ends (t.nodes.node n) (t.nodes.disk n) i)) h)
  where
    os : List Output
    os = given_by c n now ends i t.nodes

    z : Scene
    z = taking c n now ends i t

    same : z.nodes ≡ moved c t.nodes (Takes_in n now ends i)
    same = passing_nodes n os (record t { nodes = moved c t.nodes (Takes_in n now ends i) })
