-- A step of a node, and lines, leave what each attempt has of Readies: one that comes while it installs is taken.
use Rattle.std.specs.Prelude.{ℕ, ◌≡◌, ◌≢◌, ◌⊎◌, true, false, List, [], Option, Some, if◌then◌else◌}
use Rattle.std.proofs.Common.{refl, sym, subst, ◌∙◌, inl, inr}
use Rattle.cl_base.specs.declared.method.Outcome as method
use Rattle.cmm_attempt.proofs.Basics.{false_true}
use Rattle.cmm_attempt.specs.Attempts.{AttemptState}
use Rattle.cmm_attempt.specs.Calls.{Take, turn}
use Rattle.history.specs.Attempts.{has_readied}
use Rattle.history.specs.Moment.{Moment}
use Rattle.history.specs.Setting.{coordinator}
use Rattle.history.specs.UnderWay.{is_under_way}
use Rattle.machine_base.proofs.Puts.{put_here, put_there, same_or_not}
use Rattle.machine_base.specs.Put.{put}
use Rattle.node_model.specs.Members.{hearing, is_foreign}
use Rattle.node_model.specs.Steps.{Outcome, at_second, stepped}
use Rattle.node_model.specs.declared.cluster.Cluster.{Cluster}
use Rattle.node_model.specs.declared.input.Input.{Input}
use Rattle.node_model.specs.declared.input.Input.TheVariants.{Packet}
use Rattle.node_model.specs.declared.node.Node.{Node}
use Rattle.node_model.specs.declared.node.Node.TheVariants.{Up}
use Rattle.node_model.specs.declared.node.UpNode.{UpNode}
use Rattle.node_model.specs.declared.output.Output.{Output}
use Rattle.record_disk.specs.Disks.{DiskState, saving}
use Rattle.refinement.proofs.Cuts.{step_of_node_is_its_course}
use Rattle.refinement.specs.Courses.Course.{Acts, Stops}
use Rattle.refinement.specs.Cuts as cuts
use Rattle.refinement.specs.Cuts.{course_at}
use Rattle.refinement.specs.Doings.Act.{Hears}
use Rattle.refinement.specs.Runs.{Nodes, moved}
use Rattle.refinement.specs.Runs.Move.{Takes as Takes_in}
use Rattle.refinement.specs.Steps.{disk_rules}
use Rattle.run_downs.proofs.Courses.{by_test}
use Rattle.run_downs.proofs.Packets.{no_packets}
use Rattle.run_history.proofs.Idle.{passing_nodes}
use Rattle.run_history.specs.Happenings.{given_by, taking}
use Rattle.run_history.specs.Scenes.{Scene}
use Rattle.wire.specs.Kinds.{is_ready}
use Rattle.wire.specs.declared.message.Body.{Body}
use Rattle.wire.specs.declared.message.Body.TheVariants as body
use Rattle.wire.specs.declared.message.Message.{Message}
use Rattle.run_outcomes.specs.phases.Kept.{In}
use Rattle.run_outcomes.specs.saves.Courses.{LeadsTo}
use Rattle.run_outcomes.specs.saves.Kept.{IsAt}
use Rattle.run_outcomes.specs.silence.Readied.{AllHave, CameIn, Has_all, Has_of}
use Rattle.run_outcomes.proofs.phases.Leading.{Has, IsKept, going_has}
use Rattle.run_outcomes.proofs.phases.Steps.{carried_leads}
use Rattle.run_outcomes.proofs.phases.Taken.{HasIn, Ways, has_of, way_of}
use Rattle.run_outcomes.proofs.silence.ReadyLines.{Came_so, Follows, passing_follows}

-- ---- a Ready comes to an attempt

answer_has : (I : AttemptState → Type 0) (c : Cluster) (me : ℕ) (x : UpNode) (from : ℕ) (m : Message) (a : AttemptState) (o : Option AttemptState) → IsKept I → o ≡ Some a → I (turn a (Take from m)).after
    → LeadsTo c me (Has I) x (cuts.answer_course c me x from m o)
answer_has I c me x from m a o keeps is h = subst (λ z. LeadsTo c me (Has I) x (cuts.answer_course c me x from m z)) (sym is) (going_has I c me x a (Take from m) keeps h)

body_has : (I : AttemptState → Type 0) (c : Cluster) (me : ℕ) (ends : method.Outcome) (x : UpNode) (from : ℕ) (m : Message) (b : Body) → is_ready b ≡ true → LeadsTo c me (Has I) x (cuts.answer_course c me x from m x.attempt)
    → LeadsTo c me (Has I) x (cuts.body_course c me ends x from m b)
body_has I c me ends x from m (body.Ready e joined report) is h = h
body_has I c me ends x from m _ is h = absurd (false_true is)

packet_has : (I : AttemptState → Type 0) (c : Cluster) (me : ℕ) (ends : method.Outcome) (x : UpNode) (from : ℕ) (m : Message) (b : Body) → is_ready b ≡ true → is_foreign c me x b ≡ false
    → LeadsTo c me (Has I) (hearing x from b) (cuts.answer_course c me (hearing x from b) from m (hearing x from b).attempt)
    → LeadsTo c me (Has I) x (if is_foreign c me x b then Stops else Acts (Hears from b) (cuts.body_course c me ends (hearing x from b) from m b))
packet_has I c me ends x from m b is native h =
    by_test (LeadsTo c me (Has I) x) (is_foreign c me x b) Stops (Acts (Hears from b) (cuts.body_course c me ends (hearing x from b) from m b)) (λ foreign. absurd (false_true (sym native ∙ foreign)))
    (λ none. body_has I c me ends (hearing x from b) from m b is h)

same_foreign : (c : Cluster) (me now : ℕ) (x : UpNode) (b : Body) → is_foreign c me (at_second now x) b ≡ is_foreign c me x b
same_foreign c me now x _ = refl

pub step_ready : (I : AttemptState → Type 0) (c : Cluster) (n now : ℕ) (ends : method.Outcome) (x : UpNode) (a : AttemptState) (disk : DiskState) (from : ℕ) (m : Message) → IsKept I → x.attempt ≡ Some a → is_ready m.body ≡ true
    → is_foreign c n x m.body ≡ false → I (turn a (Take from m)).after → IsAt (Has I) (stepped disk_rules c n now ends (Up x) disk (Packet from m)).after
step_ready I c n now ends x a disk from m keeps has is native h =
    let y : UpNode = at_second now x in
    subst (λ (o : Outcome DiskState). IsAt (Has I) o.after) (sym ((step_of_node_is_its_course saving c n now ends x (Packet from m)).is [] disk))
    (carried_leads c n (Has I) x (course_at c n now ends x (Packet from m)) [] disk
    (packet_has I c n ends y from m m.body is (same_foreign c n now x m.body ∙ native) (answer_has I c n (hearing y from m.body) from m a (hearing y from m.body).attempt keeps has h)))

-- ---- lines come, and nodes stay

pub same_has : (ms after : List Moment) (a : AttemptState) → ((m : ℕ) → has_readied a.plan.epoch after m ≡ has_readied a.plan.epoch ms m) → Has_all ms a → Has_all after a
same_has ms after a same h = (refl, λ m other due. h.1 m other (sym (same m) ∙ due))

none_has : (ms : List Moment) (a : AttemptState) → ((m : ℕ) → has_readied a.plan.epoch ms m ≡ false) → Has_all ms a
none_has ms a none = (refl, λ m other due. absurd (false_true (sym (none m) ∙ due)))

pub still : (v : Nodes) (ms after : List Moment) → Ways v after → Follows ms after → AllHave v ms → AllHave v after
still v ms after w f h n x a up has = by_side (f a.plan.epoch (way_of v after n x a w up has))
  where
    by_side : Came_so a.plan.epoch ms after → Has_all after a
    by_side (inl none) = none_has after a none
    by_side (inr more) = same_has ms after a more.1 (h n x a up has)

-- ---- a step

-- what a step leaves of the attempt of node n, and what holds of those of the others
pub record Comes_to (c : Cluster) (n : ℕ) (i : Input) (v : Nodes) (ms : List Moment) : Type 0 where
  pub here : (now : ℕ) (ends : method.Outcome) (x : UpNode) (a : AttemptState) → v.node n ≡ Up x → x.attempt ≡ Some a → IsAt (Has (Has_of a.plan.epoch (CameIn a.plan.epoch ms))) (stepped disk_rules c n now ends (Up x) (v.disk n) i).after
  pub there : (k : ℕ) (x : UpNode) (a : AttemptState) → k ≢ n → v.node k ≡ Up x → x.attempt ≡ Some a → Has_all ms a

at_up : (P : UpNode → Type 0) (node : Node) (y : UpNode) → node ≡ Up y → IsAt P node → P y
at_up P node y is h = subst (IsAt P) is h

stepped_has : (c : Cluster) (n now : ℕ) (ends : method.Outcome) (i : Input) (v : Nodes) (ms after : List Moment) → Ways v ms → Ways (moved c v (Takes_in n now ends i)) after → Follows ms after → Comes_to c n i v ms
    → AllHave (moved c v (Takes_in n now ends i)) after
stepped_has c n now ends i v ms after w u f h k y b up has = by_side (f e (way_of (moved c v (Takes_in n now ends i)) after k y b u up has))
  where
    o : Outcome DiskState
    o = stepped disk_rules c n now ends (v.node n) (v.disk n) i

    e : ℕ
    e = b.plan.epoch

    own : coordinator e ≡ k
    own = u.own k y b up has

    by_here : k ≡ n → HasIn (v.node n) e → ((m : ℕ) → has_readied e after m ≡ has_readied e ms m) → Has_all after b
    by_here is g same =
        let I : AttemptState → Type 0 = Has_of g.a.plan.epoch (CameIn g.a.plan.epoch ms) in
        let at : IsAt (Has I) o.after = subst (λ z. IsAt (Has I) (stepped disk_rules c n now ends z (v.disk n) i).after) (sym g.up) (h.here now ends g.x g.a g.up g.has) in
        let node : o.after ≡ Up y = sym (put_here v.node n o.after) ∙ subst (λ j. put v.node n o.after j ≡ Up y) is up in
        let kept : I b = subst (In I) has (at_up (Has I) o.after y node at) in
        (refl, λ m other due. kept.1 m other (subst (λ q. has_readied q ms m ≡ true) (sym g.number) (sym (same m) ∙ due)))

    by_there : k ≢ n → ((m : ℕ) → has_readied e after m ≡ has_readied e ms m) → Has_all after b
    by_there ne same = same_has ms after b same (h.there k y b ne (sym (put_there v.node n o.after k ne) ∙ up) has)

    by_node : is_under_way e ms ≡ true → ((m : ℕ) → has_readied e after m ≡ has_readied e ms m) → (k ≡ n) ⊎ (k ≢ n) → Has_all after b
    by_node way same (inl is) = by_here is (has_of v ms n e w (own ∙ is) way) same
    by_node way same (inr ne) = by_there ne same

    by_side : Came_so e ms after → Has_all after b
    by_side (inl none) = none_has after b none
    by_side (inr more) = by_node more.0 more.1 (same_or_not k n)

pub taking_has : (c : Cluster) (n now : ℕ) (ends : method.Outcome) (i : Input) (t : Scene) → Ways t.nodes t.moments → Ways (taking c n now ends i t).nodes (taking c n now ends i t).moments → Comes_to c n i t.nodes t.moments
    → AllHave (taking c n now ends i t).nodes (taking c n now ends i t).moments
taking_has c n now ends i t w u h =
    subst (λ v. AllHave v z.moments) (sym same) (stepped_has c n now ends i t.nodes t.moments z.moments w (subst (λ v. Ways v z.moments) same u) (passing_follows n os (record t { nodes = moved c t.nodes (Takes_in n now ends i) }) (no_packets c n now ends (t.nodes.node n) (t.nodes.disk n) i)) h)
  where
    os : List Output
    os = given_by c n now ends i t.nodes

    z : Scene
    z = taking c n now ends i t

    same : z.nodes ≡ moved c t.nodes (Takes_in n now ends i)
    same = passing_nodes n os (record t { nodes = moved c t.nodes (Takes_in n now ends i) })
