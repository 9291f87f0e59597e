-- A step of a node, and what is so of all nodes after it.
use Rattle.std.specs.Prelude.{ℕ, ◌≡◌, ◌≢◌, ◌⊎◌, ◌++◌, All, List, [], ◌∷◌, None}
use Rattle.std.proofs.Common.{sym, subst, inl, inr}
use Rattle.std.specs.List.{AllByRecursion}
use Rattle.cl_base.specs.declared.header.Header.{Header}
use Rattle.cl_base.specs.declared.method.Outcome as method
use Rattle.cmm_attempt.specs.Calls.{IsDevice}
use Rattle.local_disk.specs.declared.memory.Choice.{Choice}
use Rattle.machine_base.proofs.Puts.{put_here, put_there, same_or_not}
use Rattle.machine_base.specs.Put.{put}
use Rattle.membership_machine.specs.State.{Memberships}
use Rattle.node_model.specs.Steps.{Outcome, stepped}
use Rattle.node_model.specs.declared.cluster.Cluster.{Cluster}
use Rattle.node_model.specs.declared.input.Input.{Input}
use Rattle.node_model.specs.declared.output.Output.{Output}
use Rattle.node_model.specs.declared.output.Output.TheVariants.{Sends, Tells}
use Rattle.record_disk.specs.Disks.{DiskState, armed}
use Rattle.refinement.proofs.Disks.{disks_keep_rules}
use Rattle.refinement.proofs.EveryRun.{is_true}
use Rattle.refinement.proofs.Facts.{known_by, step_may}
use Rattle.refinement.proofs.Handlers.{delivered_by}
use Rattle.refinement.proofs.Replies.{steps_are_cut}
use Rattle.refinement.specs.Courses.{Reply}
use Rattle.refinement.specs.Cuts.{doings}
use Rattle.refinement.specs.Doings.{Doing, Site, after_all, given_all, site}
use Rattle.refinement.specs.Guards.{MayAll}
use Rattle.refinement.specs.Runs.{AnswersFit, IsAmong, Letter, Nodes, WasSent, letters_of, moved}
use Rattle.refinement.specs.Runs.Move.{Arms, Takes as Takes_in}
use Rattle.refinement.specs.Steps.{IsCut, disk_rules}
use Rattle.run_history.proofs.Idle.{passing_nodes}
use Rattle.run_history.proofs.Steps.{put_all}
use Rattle.run_history.proofs.WholeSteps.{hand_all}
use Rattle.run_history.specs.Happenings.{given_by, taking}
use Rattle.run_history.specs.Scenes.{Scene}
use Rattle.run_history.specs.Stages.{site_of}
use Rattle.run_messages.specs.Outputs.{AreGood}
use Rattle.run_seizings.proofs.Asked.{AllMay}
use Rattle.run_seizings.proofs.Steps.{Ground}
use Rattle.wire.specs.Spelling.{IsNode}
use Rattle.wire.specs.declared.message.Body.{Body}
use Rattle.run_packets.specs.admitted.Known.{AllKnown, BodyKnown, DevicesKnown, HandKnown, Leaves, LetterKnown, RunKnown, SceneKnown, SiteKnown}
use Rattle.run_packets.proofs.admitted.Courses.{doings_for}
use Rattle.run_packets.proofs.admitted.Flying.{passing_flying}
use Rattle.run_packets.proofs.admitted.Walk.{all_leave}

-- ---- letters

abbrev AreKnown : Cluster → List Letter → Type 0
AreKnown c letters = AllByRecursion (LetterKnown c) letters

letters_known : (c : Cluster) (n : ℕ) (os : List Output) (old : List Letter) → AllKnown c os → AreKnown c old → AreKnown c (letters_of n os ++ old)
letters_known c n [] old known h = h
letters_known c n (Tells e ∷ os) old known h = letters_known c n os old known.1 h
letters_known c n (Sends to b ∷ os) old known h = (known.0.0, letters_known c n os old known.1 h)

pub among_known : (c : Cluster) (from : ℕ) (b : Body) (letters : List Letter) → IsAmong from b letters → AreKnown c letters → BodyKnown c b
among_known c from b [] among known = absurd among
among_known c from b (l ∷ letters) (inl here) known = subst (BodyKnown c) here.1 known.0
among_known c from b (l ∷ letters) (inr there) known = among_known c from b letters there known.1

-- ---- a step

-- all nodes after it, and what was given
pub record Moved (c : Cluster) (v : Nodes) (n now : ℕ) (ends : method.Outcome) (i : Input) : Type 0 where
  pub after : RunKnown c (moved c v (Takes_in n now ends i))
  pub given : AllKnown c (given_by c n now ends i v)

step_known : (h : Header) (c : Cluster) (v : Nodes) (n now : ℕ) (ends : method.Outcome) (i : Input) → All IsDevice c.attached → DevicesKnown c → Ground c v → IsNode n → WasSent v i → AnswersFit i
    → HandKnown c (delivered_by i) → ((replies : List Reply) → AllMay h c n (delivered_by i) None (site_of v n) (doings c n now ends replies i (v.node n))) → RunKnown c v → Moved c v n now ends i
step_known h c v n now ends i fits fixed b is was answer hand guard k =
    let M : Memberships = b.machine in
    let o : Outcome DiskState = stepped disk_rules c n now ends (v.node n) (v.disk n) i in
    let cut : IsCut disk_rules c n now ends (v.node n) (v.disk n) i [] o = steps_are_cut disk_rules disks_keep_rules c n now ends (v.node n) (v.disk n) i in
    let x : Site = site_of v n in
    let ds : List Doing = doings c n now ends cut.replies i (v.node n) in
    let may : MayAll c n (delivered_by i) x ds =
    step_may c M n now ends (v.node n) (v.disk n).kept i cut.replies is.1 fits b.holds (b.stands n).tied (b.stands n).joins in
    let gone : Leaves c (after_all c n x ds) (hand_all None ds) (given_all c n x ds) =
    all_leave h c M n (delivered_by i) x None ds fits fixed b.holds (known_by M i (is_true M v i was b.sent)) (b.stands n).tied may (guard cut.replies)
    (doings_for c n now ends cut.replies i (v.disk n).kept (v.node n) answer) hand tt (k.sites n) in
    record {
      after = record {
        sites = put_all (λ j node disk. SiteKnown c (site node disk)) v n o.after o.disk (subst (SiteKnown c) cut.comes.left gone.site_so) (λ j ne. k.sites j);
        sent = subst (λ os. AreKnown c (letters_of n os ++ v.sent)) cut.comes.given (letters_known c n (given_all c n x ds) v.sent gone.outputs_so k.sent);
      };
      given = subst (AllKnown c) cut.comes.given gone.outputs_so;
    }

pub taking_known : (h : Header) (c : Cluster) (s : Scene) (n now : ℕ) (ends : method.Outcome) (i : Input) → All IsDevice c.attached → DevicesKnown c → Ground c s.nodes → IsNode n → WasSent s.nodes i → AnswersFit i
    → HandKnown c (delivered_by i) → ((replies : List Reply) → AllMay h c n (delivered_by i) None (site_of s.nodes n) (doings c n now ends replies i (s.nodes.node n)))
    → AreGood n (given_by c n now ends i s.nodes) → SceneKnown c s → SceneKnown c (taking c n now ends i s)
taking_known h c s n now ends i fits fixed b is was answer hand guard good k =
    let t : Scene = record s { nodes = moved c s.nodes (Takes_in n now ends i) } in
    let m : Moved c s.nodes n now ends i = step_known h c s.nodes n now ends i fits fixed b is was answer hand guard k.nodes in
    record {
      nodes = subst (RunKnown c) (sym (passing_nodes n (given_by c n now ends i s.nodes) t)) m.after;
      flying = passing_flying c n (given_by c n now ends i s.nodes) t good m.given k.flying;
    }

-- ---- a stop is armed

pub arms_known : (c : Cluster) (v : Nodes) (n calls : ℕ) (choice : Choice) → RunKnown c v → RunKnown c (moved c v (Arms n calls choice))
arms_known c v n calls choice k = record { sites = λ j. go j (same_or_not j n); sent = k.sent }
  where
    disk : ℕ → DiskState
    disk = put v.disk n (armed (v.disk n) calls choice)

    go : (j : ℕ) → (j ≡ n) ⊎ (j ≢ n) → SiteKnown c (site (v.node j) (disk j).kept)
    go j (inl e) =
        subst (λ m. SiteKnown c (site (v.node m) (disk m).kept)) (sym e)
        (subst (λ (d : DiskState). SiteKnown c (site (v.node n) d.kept)) (sym (put_here v.disk n (armed (v.disk n) calls choice))) (k.sites n))
    go j (inr ne) = subst (λ (d : DiskState). SiteKnown c (site (v.node j) d.kept)) (sym (put_there v.disk n (armed (v.disk n) calls choice) j ne)) (k.sites j)
