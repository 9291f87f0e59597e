-- Steps in which a node saves at once or not at all: it stops alone, or does not stop.
use Rattle.std.specs.Prelude.{ℕ, ◌≡◌, ◌⊎◌, true, false, List, [], ◌∷◌, Option, None, Some}
use Rattle.std.specs.List.{AllByRecursion}
use Rattle.std.proofs.Common.{refl, sym, subst, inl, inr}
use Rattle.cmm_member.specs.Records.{NodeRecord}
use Rattle.node_model.specs.declared.cluster.Cluster.{Cluster}
use Rattle.node_model.specs.declared.node.UpNode.{UpNode}
use Rattle.node_model.specs.declared.output.Output.{Output}
use Rattle.node_model.specs.declared.output.Output.TheVariants.{Tells}
use Rattle.node_model.specs.Plans.{Plan}
use Rattle.node_model.specs.Plans.Plan.{Saves}
use Rattle.node_model.specs.Seats.{record_of}
use Rattle.node_model.specs.Steps.{Outcome, carried, unless_lost}
use Rattle.record_disk.specs.Disks.{DiskState, saving}
use Rattle.record_disk.specs.declared.error.Loss.{Loss}
use Rattle.record_disk.specs.declared.error.Loss.TheVariants.{Fault, Stopped}
use Rattle.refinement.specs.Courses.{Course, plan_from, saying}
use Rattle.refinement.specs.Courses.Course.{Keeps}
use Rattle.refinement.specs.Doings.{Change, changed, first_lines, last_lines, saved_lines}
use Rattle.status_report.specs.declared.entry.Entry.TheVariants as entry
use Rattle.status_report.specs.declared.node_entry.DownCause.TheVariants as cause
use Rattle.status_report.specs.declared.node_entry.NodeEntry.TheVariants as note
use Rattle.run_history.proofs.Lists.{both}
use Rattle.run_downs.proofs.Courses.{GoesFine, Walked, says_all, walked}
use Rattle.run_downs.proofs.Outputs.{last_steady}
use Rattle.run_downs.specs.Calls.{AllSteady, AreFine, IsFine, IsSteady, calls_in, left_by}

-- ---- outputs that tell of no stop

abbrev pub IsNoStop : Output → Type 0
IsNoStop (Tells (entry.Node m (note.Down cause.Stopped))) = ⊥
IsNoStop _ = Unit {0}

abbrev pub NoStops : List Output → Type 0
NoStops os = AllByRecursion IsNoStop os

not_so : false ≡ true → ⊥
not_so h = cc

one_no_stop : (n : ℕ) (k : Option ℕ) (o : Output) → IsFine n false k o → IsNoStop o
one_no_stop n k (Tells (entry.Node m (note.Down cause.Stopped))) h = absurd (not_so h.2)
one_no_stop n k _ h = tt

-- where a node may not save it does not stop
fine_no_stop : (n : ℕ) (k : Option ℕ) (os : List Output) → AreFine n false k os → NoStops os
fine_no_stop n k [] h = tt
fine_no_stop n k (o ∷ os) h = (one_no_stop n k o h.0, fine_no_stop n (left_by k o) os h.1)

one_steady : (o : Output) → IsSteady o → IsNoStop o
one_steady (Tells (entry.Node m (note.Down why))) h = absurd h
one_steady _ h = tt

steady_no_stop : (os : List Output) → AllSteady os → NoStops os
steady_no_stop [] h = tt
steady_no_stop (o ∷ os) h = (one_steady o h.0, steady_no_stop os h.1)

-- ---- courses

-- the node stops alone, where Q, or it does not stop
abbrev pub StopsIf : Type 0 → ℕ → List Output → Type 0
StopsIf Q n os = (Q × (os ≡ Tells (entry.Node n (note.Down cause.Stopped)) ∷ [])) ⊎ NoStops os

abbrev pub CourseStops : Type 0 → Cluster → ℕ → UpNode → Course → Type 0
CourseStops Q c n x k = (disk : DiskState) → StopsIf Q n (carried saving n (plan_from c n x k) [] disk).given

-- it saves nothing
pub none_stops : (Q : Type 0) (c : Cluster) (n : ℕ) (x : UpNode) (k : Course) → GoesFine false k → CourseStops Q c n x k
none_stops Q c n x k fine disk =
    let w : Walked n false disk.stop [] (carried saving n (plan_from c n x k) [] disk) = walked c n false x k [] disk fine in
    inr (subst NoStops w.given (fine_no_stop n (calls_in disk.stop) w.outputs w.fine))

-- it saves at once, and nothing after that
pub keep_stops : (Q : Type 0) (c : Cluster) (n : ℕ) (x : UpNode) (ch : Change) (rest : Course) → first_lines n ch ≡ [] → GoesFine false rest → Q → CourseStops Q c n x (Keeps ch rest)
keep_stops Q c n x ch rest none fine q disk =
    subst (λ (fs : List Output). StopsIf Q n (carried saving n (saying fs (Saves r (saying last p))) [] disk).given) (sym none) (by_loss (saving disk r).lost)
  where
    y : UpNode
    y = changed c n x ch

    r : NodeRecord
    r = record_of y

    last : List Output
    last = saved_lines c n x ch

    p : Plan
    p = plan_from c n y rest

    after : DiskState
    after = (saving disk r).after

    by_loss : (lost : Option Loss) → StopsIf Q n (unless_lost n [] after lost (carried saving n (saying last p) [] after)).given
    by_loss None =
        let w : Walked n false after.stop last (carried saving n p last after) = walked c n false y rest last after fine in
        inr (subst (λ (o : Outcome DiskState). NoStops o.given) (says_all n last p [] after)
        (subst NoStops w.given (both IsNoStop last w.outputs (tt, steady_no_stop (last_lines c n x ch) (last_steady c n x ch)) (fine_no_stop n (calls_in after.stop) w.outputs w.fine))))
    by_loss (Some Stopped) = inl (q, refl)
    by_loss (Some Fault) = inr (tt, tt)
