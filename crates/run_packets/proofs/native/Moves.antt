-- A step of a node, and what is so of all nodes after it.
use Rattle.std.specs.Prelude.{ℕ, ◌≡◌, ◌≢◌, ◌⊎◌, ◌++◌, All, true, List, [], ◌∷◌, None}
use Rattle.std.proofs.Common.{refl, sym, subst, inl, inr}
use Rattle.std.specs.List.{AllByRecursion}
use Rattle.cl_base.specs.Sets.{has}
use Rattle.cl_base.specs.declared.header.Header.{Header}
use Rattle.cl_base.specs.declared.method.Outcome as method
use Rattle.cmm_attempt.specs.Calls.{IsDevice}
use Rattle.cmm_member.specs.Records.{NodeRecord}
use Rattle.local_disk.specs.declared.memory.Choice.{Choice}
use Rattle.machine_base.proofs.Puts.{put_here, put_there, same_or_not}
use Rattle.machine_base.specs.Put.{put}
use Rattle.membership_machine.specs.State.{Memberships}
use Rattle.node_model.specs.Steps.{Outcome, stepped}
use Rattle.node_model.specs.declared.cluster.Cluster.{Cluster}
use Rattle.node_model.specs.declared.input.Input.{Input}
use Rattle.node_model.specs.declared.input.Input.TheVariants as input
use Rattle.node_model.specs.declared.node.Node.{Node}
use Rattle.node_model.specs.declared.node.Node.TheVariants.{Down, Up}
use Rattle.node_model.specs.declared.output.Output.{Output}
use Rattle.node_model.specs.declared.output.Output.TheVariants.{Sends, Tells}
use Rattle.record_disk.specs.Disks.{DiskState, armed}
use Rattle.refinement.proofs.Disks.{disks_keep_rules}
use Rattle.refinement.proofs.EveryRun.{is_true}
use Rattle.refinement.proofs.Facts.{known_by, step_may}
use Rattle.refinement.proofs.Handlers.{delivered_by}
use Rattle.refinement.proofs.Replies.{steps_are_cut}
use Rattle.refinement.specs.Courses.{Reply}
use Rattle.refinement.specs.Cuts.{doings}
use Rattle.refinement.specs.Doings.{Doing, Site, after_all, given_all, site}
use Rattle.refinement.specs.Guards.{MayAll}
use Rattle.refinement.specs.Runs.{IsAmong, Letter, Nodes, WasSent, letters_of, moved}
use Rattle.refinement.specs.Runs.Move.{Arms, Takes as Takes_in}
use Rattle.refinement.specs.Steps.{IsCut, disk_rules}
use Rattle.run_history.proofs.Idle.{passing_nodes}
use Rattle.run_history.proofs.Steps.{put_all}
use Rattle.run_history.proofs.WholeSteps.{hand_all}
use Rattle.run_history.specs.Happenings.{given_by, taking}
use Rattle.run_history.specs.Scenes.{Scene}
use Rattle.run_history.specs.Stages.{site_of}
use Rattle.run_messages.specs.Outputs.{AreGood}
use Rattle.run_seizings.proofs.Asked.{AllMay}
use Rattle.run_seizings.proofs.Steps.{Ground}
use Rattle.wire.specs.Spelling.{IsNode}
use Rattle.wire.specs.declared.message.Body.{Body}
use Rattle.run_packets.specs.native.Named.{AllNamed, BodyNamed, HandNamed, Leaves, LetterNamed, NodeNamed, RunNamed, SceneNamed, SiteNamed}
use Rattle.run_packets.proofs.native.Flying.{passing_flying}
use Rattle.run_packets.proofs.native.Steps.{BootNamed, step_leave}

-- ---- letters

abbrev AreNamed : Cluster → List Letter → Type 0
AreNamed c letters = AllByRecursion (LetterNamed c) letters

letters_named : (c : Cluster) (n : ℕ) (os : List Output) (old : List Letter) → has c.nodes n ≡ true → AllNamed c os → AreNamed c old → AreNamed c (letters_of n os ++ old)
letters_named c n [] old is named h = h
letters_named c n (Tells e ∷ os) old is named h = letters_named c n os old is named.1 h
letters_named c n (Sends to b ∷ os) old is named h = ((is, named.0.0), letters_named c n os old is named.1 h)

pub among_named : (c : Cluster) (from : ℕ) (b : Body) (letters : List Letter) → IsAmong from b letters → AreNamed c letters → (has c.nodes from ≡ true) × BodyNamed c b
among_named c from b [] among named = absurd among
among_named c from b (l ∷ letters) (inl here) named = (subst (λ k. has c.nodes k ≡ true) here.0 named.0.0, subst (BodyNamed c) here.1 named.0.1)
among_named c from b (l ∷ letters) (inr there) named = among_named c from b letters there named.1

-- a node of the cluster, or one that gives nothing
sends_or : (c : Cluster) (n now : ℕ) (ends : method.Outcome) (replies : List Reply) (i : Input) (node : Node) (disk : NodeRecord) → NodeNamed c n node → BootNamed c n i
    → (has c.nodes n ≡ true) ⊎ (given_all c n (site node disk) (doings c n now ends replies i node) ≡ [])
sends_or c n now ends replies i (Up x) disk k boots = inl k.node
sends_or c n now ends replies input.Boot Down disk k boots = inl boots.0
sends_or c n now ends replies _ Down disk k boots = inr refl

-- ---- a step

-- all nodes after it, and what was given
pub record Moved (c : Cluster) (v : Nodes) (n now : ℕ) (ends : method.Outcome) (i : Input) : Type 0 where
  pub after : RunNamed c (moved c v (Takes_in n now ends i))
  pub given : AllNamed c (given_by c n now ends i v)

pub step_named : (h : Header) (c : Cluster) (v : Nodes) (n now : ℕ) (ends : method.Outcome) (i : Input) → All IsDevice c.attached → Ground c v → IsNode n → WasSent v i → HandNamed c (delivered_by i)
    → BootNamed c n i → ((replies : List Reply) → AllMay h c n (delivered_by i) None (site_of v n) (doings c n now ends replies i (v.node n))) → RunNamed c v
    → Moved c v n now ends i
step_named h c v n now ends i fits b is was hand boots guard k =
    let M : Memberships = b.machine in
    let o : Outcome DiskState = stepped disk_rules c n now ends (v.node n) (v.disk n) i in
    let cut : IsCut disk_rules c n now ends (v.node n) (v.disk n) i [] o = steps_are_cut disk_rules disks_keep_rules c n now ends (v.node n) (v.disk n) i in
    let x : Site = site_of v n in
    let ds : List Doing = doings c n now ends cut.replies i (v.node n) in
    let may : MayAll c n (delivered_by i) x ds =
    step_may c M n now ends (v.node n) (v.disk n).kept i cut.replies is.1 fits b.holds (b.stands n).tied (b.stands n).joins in
    let gone : Leaves c n (after_all c n x ds) (hand_all None ds) (given_all c n x ds) =
    step_leave h c n now ends cut.replies i (v.node n) (v.disk n).kept fits hand boots M b.holds (known_by M i (is_true M v i was b.sent)) (b.stands n).tied may (guard cut.replies) tt (k.sites n) in
    record {
      after = record {
        sites = put_all (λ j node disk. SiteNamed c j (site node disk)) v n o.after o.disk (subst (SiteNamed c n) cut.comes.left gone.site_so) (λ j ne. k.sites j);
        sent =
            subst (λ os. AreNamed c (letters_of n os ++ v.sent)) cut.comes.given
            (by_sender (given_all c n x ds) gone.outputs_so (sends_or c n now ends cut.replies i (v.node n) (v.disk n).kept (k.sites n).node_so boots));
      };
      given = subst (AllNamed c) cut.comes.given gone.outputs_so;
    }
  where
    by_sender : (os : List Output) → AllNamed c os → (has c.nodes n ≡ true) ⊎ (os ≡ []) → AreNamed c (letters_of n os ++ v.sent)
    by_sender os named (inl one) = letters_named c n os v.sent one named k.sent
    by_sender os named (inr none) = subst (λ z. AreNamed c (letters_of n z ++ v.sent)) (sym none) k.sent

pub taking_named : (h : Header) (c : Cluster) (s : Scene) (n now : ℕ) (ends : method.Outcome) (i : Input) → All IsDevice c.attached → Ground c s.nodes → IsNode n → WasSent s.nodes i
    → HandNamed c (delivered_by i) → BootNamed c n i
    → ((replies : List Reply) → AllMay h c n (delivered_by i) None (site_of s.nodes n) (doings c n now ends replies i (s.nodes.node n))) → AreGood n (given_by c n now ends i s.nodes)
    → SceneNamed c s → SceneNamed c (taking c n now ends i s)
taking_named h c s n now ends i fits b is was hand boots guard good k =
    let t : Scene = record s { nodes = moved c s.nodes (Takes_in n now ends i) } in
    let m : Moved c s.nodes n now ends i = step_named h c s.nodes n now ends i fits b is was hand boots guard k.nodes in
    record {
      nodes = subst (RunNamed c) (sym (passing_nodes n (given_by c n now ends i s.nodes) t)) m.after;
      flying = passing_flying c n (given_by c n now ends i s.nodes) t good m.given k.flying;
    }

-- ---- a stop is armed

pub arms_named : (c : Cluster) (v : Nodes) (n calls : ℕ) (choice : Choice) → RunNamed c v → RunNamed c (moved c v (Arms n calls choice))
arms_named c v n calls choice k = record { sites = λ j. go j (same_or_not j n); sent = k.sent }
  where
    disk : ℕ → DiskState
    disk = put v.disk n (armed (v.disk n) calls choice)

    go : (j : ℕ) → (j ≡ n) ⊎ (j ≢ n) → SiteNamed c j (site (v.node j) (disk j).kept)
    go j (inl e) =
        subst (λ m. SiteNamed c m (site (v.node m) (disk m).kept)) (sym e)
        (subst (λ (d : DiskState). SiteNamed c n (site (v.node n) d.kept)) (sym (put_here v.disk n (armed (v.disk n) calls choice))) (k.sites n))
    go j (inr ne) = subst (λ (d : DiskState). SiteNamed c j (site (v.node j) d.kept)) (sym (put_there v.disk n (armed (v.disk n) calls choice) j ne)) (k.sites j)
