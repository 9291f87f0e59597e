-- After each thing that a node takes, each attempt that its coordinator has installed has sent its Installs.
use Rattle.std.specs.Prelude.{ℕ, ◌==◌, ◌&&◌, ◌||◌, ◌≡◌, ◌⊎◌, ◌≤◌, ◌^◌, nat_le, Bool, true, false, List, [], ◌∷◌, Some, if◌then◌else◌}
use Rattle.std.specs.List.{AllByRecursion, list_any}
use Rattle.std.proofs.Common.{arith, refl, sym, ap, subst, ◌∙◌, inl, inr}
use Rattle.attempt_laws.proofs.Told.{is_among}
use Rattle.attempt_laws.specs.Staying.{IsBefore}
use Rattle.cl_base.proofs.SetLemmas.{none_of_zero}
use Rattle.cl_base.specs.Numbers.{numbers_to}
use Rattle.cl_base.specs.Sets.{has}
use Rattle.cl_base.specs.declared.header.Header.{Header}
use Rattle.cl_base.specs.declared.method.Outcome as method
use Rattle.cmm_attempt.proofs.Basics.{false_true, or_cases, same_number}
use Rattle.cmm_attempt.specs.Attempts.{AttemptState, is_over}
use Rattle.cmm_attempt.specs.declared.phase.Phase.{Phase}
use Rattle.cmm_attempt.specs.declared.phase.Phase.TheVariants.{Choosing, Collecting, Installing, Over, SeizingOthers, SeizingVotes}
use Rattle.history.specs.Contact.{AttemptsDiffer}
use Rattle.history.specs.Member.{members_of}
use Rattle.history.specs.Moment.{Moment}
use Rattle.history.specs.Seizing.{is_attempt, is_install}
use Rattle.history.specs.Setting.{coordinator}
use Rattle.history.specs.Trace.{attempt}
use Rattle.history.specs.UnderWay.{is_under_way}
use Rattle.node_model.specs.Seats.{session_of}
use Rattle.node_model.specs.declared.cluster.Cluster.{Cluster}
use Rattle.node_model.specs.declared.input.Input.{Input}
use Rattle.node_model.specs.declared.node.Node.{Node}
use Rattle.node_model.specs.declared.node.Node.TheVariants.{Up}
use Rattle.node_model.specs.declared.node.UpNode.{UpNode}
use Rattle.node_model.specs.declared.output.Output.{Output}
use Rattle.refinement.specs.Runs.{Letter, Nodes, moved}
use Rattle.refinement.specs.Runs.Move.{Takes as Takes_in}
use Rattle.refinement.specs.Ties.{MessageTold}
use Rattle.run_history.proofs.Idle.{passing_nodes}
use Rattle.run_history.specs.Happenings.{given_by, taking}
use Rattle.run_history.specs.Noted.{LinesTried}
use Rattle.run_history.specs.Scenes.{Scene}
use Rattle.run_lines.proofs.Adds.{onto}
use Rattle.run_lines.proofs.Outputs.{gives_entries}
use Rattle.run_packets.proofs.fits.Steps.{Grown}
use Rattle.run_seizings.specs.Seized.{AttemptSo, has_installed}
use Rattle.run_packets.proofs.installs.Known.{Takeable}
use Rattle.run_packets.proofs.installs.Sent.{AreShort, Left, left_passing}
use Rattle.run_packets.proofs.installs.Short.{sent_short}
use Rattle.run_packets.proofs.installs.Taking.{Stand, TakenOut, lined_of, taken_out}
use Rattle.run_packets.proofs.waiting.Numbers.{left_before, passing_next}
use Rattle.run_packets.specs.installs.Passing.{AllGoOut, IsLined, IsMember, IsWaiting, NodeLined, NodeListed, UpLined}
use Rattle.run_outcomes.proofs.phases.Taken.{HasIn, Ways, has_of}
use Rattle.run_outcomes.proofs.silence.Outgoing.{any_cases, asked_more, gone_among, members_more, none_again, way_more}
use Rattle.run_outcomes.specs.silence.Asked.{asked_in}
use Rattle.run_outcomes.specs.silence.AskedCourses.{to_install}
use Rattle.run_outcomes.specs.silence.Gone.{Gone, Outward}
use Rattle.run_outcomes.specs.tasks.AsksGiven.{IsLeft}

-- ---- what is known of the scene after it

pub record Of (h : Header) (ms : List Moment) (n : ℕ) (x : UpNode) (a : AttemptState) : Type 0 where
  pub so : AttemptSo h ms n (session_of x) a
  pub live : is_over a.phase ≡ false
  pub coordinates : a.plan.coordinator ≡ coordinator a.plan.epoch
  pub nodes : a.plan.nodes ≡ numbers_to a.plan.members 32

pub record Seen (h : Header) (s : Scene) : Type 0 where
  pub ways : Ways s.nodes s.moments
  pub once : AttemptsDiffer s.moments
  pub attempts : IsLeft s.links.next → (n : ℕ) (x : UpNode) (a : AttemptState) → s.nodes.node n ≡ Up x → x.attempt ≡ Some a → Of h s.moments n x a

-- ---- an attempt that began just now has not installed, where it has other members

no_members : (e : ℕ) (ms : List Moment) → list_any (is_attempt e) ms ≡ false → members_of e ms ≡ 0
no_members e [] none = refl
no_members e (attempt f members ∷ ms) none = by_test (f == e) none (λ k. no_members e ms k)
  where
    by_test : (b : Bool) → (b || list_any (is_attempt e) ms) ≡ false → (list_any (is_attempt e) ms ≡ false → members_of e ms ≡ 0) → (if b then members else members_of e ms) ≡ 0
    by_test true h rest = absurd (false_true (sym h))
    by_test false h rest = rest h
no_members e (_ ∷ ms) none = no_members e ms none

of_each : (m c : ℕ) (ns : List ℕ) → AllByRecursion (λ k. k ≡ c) ns → list_any (λ k. k == m) ns ≡ true → m ≡ c
of_each m c [] all h = absurd (false_true h)
of_each m c (n ∷ ns) all h = by_place (λ k. of_each m c ns all.1 k) (or_cases (n == m) (list_any (λ k. k == m) ns) h)
  where
    by_place : (list_any (λ k. k == m) ns ≡ true → m ≡ c) → ((n == m) ≡ true) ⊎ (list_any (λ k. k == m) ns ≡ true) → m ≡ c
    by_place rest (inl here) = sym (same_number n m here) ∙ all.0
    by_place rest (inr there) = rest there

both_true : (a b : Bool) → a ≡ true → b ≡ true → (a && b) ≡ true
both_true true b h k = k
both_true false b h k = absurd (false_true h)

low : (k : ℕ) → k ≤ 32 → nat_le k 32 ≡ true
low k h = grind arith

young_none : (h : Header) (ms after : List Moment) (n m : ℕ) (x : UpNode) (a : AttemptState) → Of h after n x a → IsLined ms a → list_any (is_attempt a.plan.epoch) ms ≡ false → IsMember after a.plan.epoch m → a.phase ≡ Installing → ⊥
young_none h ms after n m x a of lined none member at = by_side lined
  where
    there : has a.plan.members m ≡ true
    there = subst (λ v. has v m ≡ true) of.so.of.1 member.1

    by_young : (IsWaiting a.phase) ⊎ AllByRecursion (λ k. k ≡ a.plan.coordinator) a.plan.nodes → ⊥
    by_young (inl waits) = subst IsWaiting at waits
    by_young (inr alone) =
        member.2 (of_each m a.plan.coordinator a.plan.nodes alone (ap (list_any (λ k. k == m)) of.nodes ∙ (is_among a.plan.members 32 m ∙ both_true (nat_le m 32) (has a.plan.members m) (low m member.0) there)) ∙ of.coordinates)

    by_side : IsLined ms a → ⊥
    by_side (inl listed) = false_true (sym (none_of_zero m) ∙ subst (λ v. has v m ≡ true) (sym listed ∙ no_members a.plan.epoch ms none) there)
    by_side (inr young) = by_young young.1

by_phase : (P : Type 0) (p : Phase) → is_over p ≡ false → (IsBefore p → P) → (p ≡ Installing → P) → P
by_phase P Collecting live f g = f tt
by_phase P Choosing live f g = f tt
by_phase P SeizingVotes live f g = f tt
by_phase P SeizingOthers live f g = f tt
by_phase P Installing live f g = g refl
by_phase P Over live f g = absurd (false_true (sym live))

lined_at : (ms : List Moment) (node : Node) (x : UpNode) (a : AttemptState) → NodeLined ms node → node ≡ Up x → x.attempt ≡ Some a → IsLined ms a
lined_at ms node x a h up has = subst (λ o. UpLined ms o) has (subst (NodeLined ms) up h)

begun_now : (h : Header) (ms : List Moment) (z : Scene) (e m : ℕ) → Seen h z → IsLeft z.links.next → ((k : ℕ) → NodeLined ms (z.nodes.node k)) → list_any (is_attempt e) ms ≡ false
    → is_under_way e z.moments ≡ true → has_installed (coordinator e) e z.moments ≡ true → IsMember z.moments e m → ⊥
begun_now h ms z e m seen left lined none way inst member = by_phase ⊥ g.a.phase of.live early late
  where
    g : HasIn (z.nodes.node (coordinator e)) e
    g = has_of z.nodes z.moments (coordinator e) e seen.ways refl way

    of : Of h z.moments (coordinator e) g.x g.a
    of = seen.attempts left (coordinator e) g.x g.a g.up g.has

    early : IsBefore g.a.phase → ⊥
    early before = false_true (sym (of.so.before before) ∙ subst (λ k. has_installed (coordinator e) k z.moments ≡ true) (sym g.number) inst)

    late : g.a.phase ≡ Installing → ⊥
    late at =
        young_none h ms z.moments (coordinator e) m g.x g.a of (lined_at ms (z.nodes.node (coordinator e)) g.x g.a (lined (coordinator e)) g.up g.has) (subst (λ k. list_any (is_attempt k) ms ≡ false) (sym g.number) none)
        (subst (λ k. IsMember z.moments k m) (sym g.number) member) at

-- ---- lines that follow

gone_more : (h : Header) (t z : Scene) (xs : List Moment) → onto xs t.moments ≡ z.moments → Seen h z → IsLeft z.links.next → ((k : ℕ) → NodeLined t.moments (z.nodes.node k)) → AllGoOut t.moments xs → Gone t.moments → Gone z.moments
gone_more h t z xs is seen left lined out gone e m way inst member = by_old (list_any (is_attempt e) t.moments) refl
  where
    here : List Moment → Type 0
    here ms = asked_in e (to_install m) ms ≡ true

    by_old : (b : Bool) → list_any (is_attempt e) t.moments ≡ b → here z.moments
    by_old false none = absurd (begun_now h t.moments z e m seen left lined none way inst member)
    by_old true there = subst here is (by_case (any_cases (is_install (coordinator e) e) xs t.moments (subst (λ ms. has_installed (coordinator e) e ms ≡ true) (sym is) inst)))
      where
        none : list_any (is_attempt e) xs ≡ false
        none = none_again e xs t.moments (subst AttemptsDiffer (sym is) seen.once) there

        before : IsMember t.moments e m
        before = (member.0, subst (λ v. has v m ≡ true) (sym (ap (members_of e) is) ∙ members_more e xs t.moments none) member.1, member.2)

        by_case : (list_any (is_install (coordinator e) e) xs ≡ true) ⊎ (has_installed (coordinator e) e t.moments ≡ true) → here (onto xs t.moments)
        by_case (inl now) = gone_among t.moments e m xs t.moments out before none now
        by_case (inr old) = asked_more e (to_install m) xs t.moments none (gone e m (way_more e xs t.moments none (subst (λ ms. is_under_way e ms ≡ true) (sym is) way)) old before)

-- ---- a node takes something

pub taking_gone : (h : Header) (c : Cluster) (t : Scene) (n now : ℕ) (ends : method.Outcome) (i : Input) → (z : Stand h c t.nodes) → Takeable h c t.nodes n now ends i → LinesTried z.ground.machine t.moments
    → ((k : ℕ) → NodeListed t.moments (t.nodes.node k)) → Grown c (taking c n now ends i t).nodes → Seen h (taking c n now ends i t) → Outward c t → Outward c (taking c n now ends i t)
taking_gone h c t n now ends i z can tried listed g seen k = record {
  fine = o.fine;
  gone = λ left. gone_more h t after l.adds.entries l.adds.is seen left o.lined (l.out short left o.so) (k.gone (left_before t.links.next after.links.next (2 ^ 63) (passing_next n os u) left));
}
  where
    after : Scene
    after = taking c n now ends i t

    os : List Output
    os = given_by c n now ends i t.nodes

    u : Scene
    u = record t { nodes = moved c t.nodes (Takes_in n now ends i) }

    o : TakenOut c t.moments n now ends i t
    o = taken_out h c t t.moments n now ends i z can tried (λ j. inr (listed j)) (λ j. lined_of t.moments (t.nodes.node j) (listed j)) k.fine

    l : Left t.moments n os u after
    l = left_passing t.moments n os u (gives_entries c n now ends (t.nodes.node n) (t.nodes.disk n) i)

    short : AreShort n os
    short m j sent few =
        sent_short c g.machine c.nodes c.devices n m j os t.nodes.sent g.holds g.rooms
        (subst (λ (v : Nodes). AllByRecursion (λ (q : Letter). MessageTold g.machine q.from q.body) v.sent) (passing_nodes n os u) g.sent) sent few
