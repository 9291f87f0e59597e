-- A step of a node that takes no command, and no probe; and a boot.
use Rattle.std.specs.Prelude.{ℕ, ◌≡◌, ◌==◌, All, Bool, true, false, List, [], ◌∷◌, None, if◌then◌else◌}
use Rattle.std.proofs.Common.{refl, sym, ap}
use Rattle.cmm_attempt.specs.Calls.{IsDevice}
use Rattle.cmm_member.specs.Records.{NodeRecord}
use Rattle.membership_machine.specs.Invariant.{Holds}
use Rattle.membership_machine.specs.State.{Memberships}
use Rattle.status_report.specs.declared.entry.Entry.TheVariants as entry
use Rattle.status_report.specs.declared.node_entry.NodeEntry.TheVariants as note
use Rattle.history.specs.Member.{in_collect}
use Rattle.history.specs.Moment.{Moment, Told}
use Rattle.history.specs.Setting.{Setting}
use Rattle.node_model.specs.declared.cluster.Cluster.{Cluster}
use Rattle.node_model.specs.declared.input.Input.{Input}
use Rattle.node_model.specs.declared.node.Node.TheVariants.{Up}
use Rattle.node_model.specs.declared.node.UpNode.{UpNode}
use Rattle.refinement.proofs.Handlers.{delivered_by}
use Rattle.refinement.specs.Courses.{Reply, under}
use Rattle.refinement.specs.Doings.{after_all, given_all, of_node, site}
use Rattle.refinement.specs.Guards.{MayAll}
use Rattle.refinement.specs.Ties.{Known, NodeTied, setting_of}
use Rattle.run_history.proofs.Heard.{is_same}
use Rattle.run_history.proofs.Small.{AllSmall}
use Rattle.run_history.specs.Scenes.{Scene}
use Rattle.run_messages.specs.Laws.{IsSeated}
use Rattle.run_messages.specs.Outputs.{AreGood}
use Rattle.run_messages.specs.Steps.{AreCollected, collecting}
use Rattle.run_commands.specs.carried.Steps.{CarriedSo}
use Rattle.run_commands.proofs.carried.Causes.{CameSo, ReadsAnswers}
use Rattle.run_commands.proofs.carried.Leaving.{Leaves, UpSo}
use Rattle.cl_base.specs.declared.method.Outcome.{Outcome}
use Rattle.refinement.specs.Cuts.{course_at}
use Rattle.node_model.specs.Clusters.{first_valid_of}
use Rattle.node_model.specs.Seats.{up_with}
use Rattle.std.specs.List.{list_any}
use Rattle.history.specs.Order.{since}
use Rattle.history.specs.Requests.{is_asking}
use Rattle.history.specs.Seizing.{is_boot}
use Rattle.run_commands.proofs.carried.Courses.{IsNoCommand, course_at_so}
use Rattle.run_commands.proofs.carried.Lines.{has_asked}
use Rattle.run_commands.proofs.carried.Walk.{Between, walk_so}

-- a node that is up, as it is known at a scene
pub at_first : (S : Setting) (n : ℕ) (i : Input) (x : UpNode) (s : Scene) → UpSo S n x.requests.asked x s.moments → CarriedSo S s.moments → CameSo i n s.moments → Between S n i None None x.requests.asked x s
at_first S n i x s up carried came =
    record { so = record { queued = up.queued; now = tt; hand = tt; pending = up.pending; last_so = refl }; carried = carried; came = came }

pub plain_leaves : (S : Setting) (c : Cluster) (n now : ℕ) (ends : Outcome) (i : Input) (replies : List Reply) (M : Memberships) (x : UpNode) (disk : NodeRecord) (s : Scene) → ReadsAnswers S → All IsDevice c.attached
    → Holds (setting_of c) M → Known M (delivered_by i) → NodeTied c M n disk (Up x) → IsNoCommand c n i None i
    → MayAll c n (delivered_by i) (site (Up x) disk) (under replies (course_at c n now ends x i)) → AllSmall (under replies (course_at c n now ends x i))
    → AreCollected (collecting (delivered_by i)) (under replies (course_at c n now ends x i)) → in_collect n s.moments ≡ collecting (delivered_by i)
    → AreGood n (given_all c n (site (Up x) disk) (under replies (course_at c n now ends x i))) → IsSeated s.moments n (Up x)
    → UpSo S n x.requests.asked x s.moments → CarriedSo S s.moments → CameSo i n s.moments
    → Leaves S n x.requests.asked (after_all c n (site (Up x) disk) (under replies (course_at c n now ends x i))).node (given_all c n (site (Up x) disk) (under replies (course_at c n now ends x i))) s
plain_leaves S c n now ends i replies M x disk s exact fits holds known tied plain may small calm at good seated up carried came =
    walk_so S c n i None replies (course_at c n now ends x i) M None x.requests.asked x disk s exact fits holds known tied may small calm at good seated
    (course_at_so c n i None now ends x i refl plain) (at_first S n i x s up carried came)

-- ---- a boot

if_so : {X : Type 0} (b : Bool) (x y : X) → b ≡ true → (if b then x else y) ≡ x
if_so true x y h = refl
if_so false x y h = cc

-- nothing was asked since
fresh_boot : (n k : ℕ) (ms : List Moment) → has_asked n k (Told (entry.Node n note.Up) ∷ ms) ≡ false
fresh_boot n k ms = ap (λ xs. list_any (is_asking n k) xs) (if_so (n == n) [] (Told (entry.Node n note.Up) ∷ since (is_boot n) ms) (is_same n))

pub boot_so : (S : Setting) (c : Cluster) (n : ℕ) (disk : NodeRecord) (s : Scene) → CarriedSo S s.moments
    → Leaves S n 0 (Up (up_with n (first_valid_of c n) disk)) (of_node n note.Up ∷ []) s
boot_so S c n disk s carried = record {
  own = record {
    last_so = refl;
    queued = record { waits = tt; fresh = λ k above. fresh_boot n k s.moments; none = λ is. refl };
    pending = λ text so is. absurd (no_one so);
  };
  carried = (tt, carried);
  apart = λ k ne. (λ same. ne (sym same), tt);
  answers = (tt, tt);
}
  where
    no_one : false ≡ true → ⊥
    no_one e = cc
