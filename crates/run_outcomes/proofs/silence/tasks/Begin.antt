-- Where a line of a step tells a coordinator's task for the first time, its attempt has begun a phase in that step, or has asked something new.
use Rattle.std.specs.Prelude.{ℕ, ◌^◌, ◌≡◌, ◌≢◌, ◌⊎◌, ◌++◌, nat_lt, true, List, [], ◌∷◌}
use Rattle.std.proofs.Common.{sym, ap, subst, ◌∙◌, inl, inr}
use Rattle.cl_base.specs.declared.header.Header.{Header}
use Rattle.machine_base.proofs.Puts.{same_or_not}
use Rattle.node_model.specs.declared.cluster.Cluster.{Cluster}
use Rattle.run_history.specs.Happenings.{Happening, MayHappen, all_happened, happened}
use Rattle.run_history.specs.Happenings.Happening.{Arrives, Commands, Strays}
use Rattle.run_history.specs.Scenes.{Scene, first_scene}
use Rattle.run_history.specs.Shapes.{nothing}
use Rattle.run_packets.specs.native.Laws.{BootsInHeader}
use Rattle.world_model.specs.First.{first_cluster}
use Rattle.run_outcomes.proofs.asks.Lines.{left_before}
use Rattle.run_outcomes.proofs.others.Ends.{LastDue, all_before, last_due, last_may}
use Rattle.run_outcomes.proofs.others.Runs.{Point}
use Rattle.run_outcomes.proofs.phases.Promised.{HasIt, has_it}
use Rattle.run_outcomes.proofs.rounds_told.Numbers.{happened_next}
use Rattle.run_outcomes.proofs.silence.TickSteps.{TasksBegin}
use Rattle.run_outcomes.proofs.silence.tasks.Own.{facts_at}
use Rattle.run_outcomes.proofs.told_tasks.Prefixes.{happened_last, may_before, native_before}
use Rattle.run_outcomes.proofs.silence.tasks.Coming.{AllFacts, Ticks, arrives, beside, commands, strays}

-- ---- each thing that happens

module _ (h : Header) (cells : ℕ) (hs : List Happening) (z : Point h cells hs) where
  abbrev c : Cluster
  c = first_cluster h

  abbrev s : Scene
  s = all_happened (first_cluster h) (first_scene h cells) hs

  step_ticks : (k : Happening) (n : ℕ) → MayHappen c s k → AllFacts h (happened c s k) → Ticks h cells hs z k n
  step_ticks (Arrives number p m now ends) n may facts = by_receiver (same_or_not p.to n)
    where
      by_receiver : (p.to ≡ n) ⊎ (p.to ≢ n) → Ticks h cells hs z (Arrives number p m now ends) n
      by_receiver (inl same) = subst (Ticks h cells hs z (Arrives number p m now ends)) same (arrives h cells hs z number p m now ends may facts)
      by_receiver (inr ne) = beside h cells hs z (Arrives number p m now ends) n may ne
  step_ticks (Strays number p) n may facts = by_receiver (same_or_not p.to n)
    where
      by_receiver : (p.to ≡ n) ⊎ (p.to ≢ n) → Ticks h cells hs z (Strays number p) n
      by_receiver (inl same) = subst (Ticks h cells hs z (Strays number p)) same (strays h cells hs z number p may facts)
      by_receiver (inr ne) = beside h cells hs z (Strays number p) n may ne
  step_ticks (Commands m d q now ends) n may facts = by_node (same_or_not m n)
    where
      by_node : (m ≡ n) ⊎ (m ≢ n) → Ticks h cells hs z (Commands m d q now ends) n
      by_node (inl same) = subst (Ticks h cells hs z (Commands m d q now ends)) same (commands h cells hs z m d q now ends may facts)
      by_node (inr ne) = beside h cells hs z (Commands m d q now ends) n may ne
  step_ticks k n may facts = beside h cells hs z k n may tt

-- ---- the law

pub tasks_begin : TasksBegin
tasks_begin h cells hs k last nodes few small disks may shaped native boots left newer is n b at told =
    step_ticks h cells hs z k n (last_may c (first_scene h cells) hs k may) facts it.x b (ap (λ (u : Scene). u.nodes.node n) (sym whole) ∙ it.up) it.has newer (is ∙ ap (λ (u : Scene). u.moments) whole) told
  where
    c : Cluster
    c = first_cluster h

    s : Scene
    s = all_happened c (first_scene h cells) hs

    t : Scene
    t = all_happened c (first_scene h cells) (hs ++ k ∷ [])

    whole : t ≡ happened c s k
    whole = happened_last c (first_scene h cells) hs k

    due : LastDue c (first_scene h cells) nothing last hs k
    due = last_due c (first_scene h cells) nothing last hs k shaped

    z : Point h cells hs
    z = record {
      last = due.mid;
      nodes = nodes;
      few = few;
      small = small;
      disks = disks;
      may = may_before c (first_scene h cells) hs (k ∷ []) may;
      shaped = due.shaped;
      native = native_before c (first_scene h cells) hs (k ∷ []) native;
      boots = all_before (BootsInHeader h) hs (k ∷ []) boots;
      left = left_before s.links.next (happened c s k).links.next (happened_next c s k) (subst (λ (u : Scene). nat_lt u.links.next (2 ^ 63) ≡ true) whole left);
    }

    v : Point h cells (hs ++ k ∷ [])
    v = record { last = last; nodes = nodes; few = few; small = small; disks = disks; may = may; shaped = shaped; native = native; boots = boots; left = left }

    facts : AllFacts h (happened c s k)
    facts = subst (AllFacts h) whole (λ m y a up has. facts_at h cells (hs ++ k ∷ []) v m y a up has)

    it : HasIt (t.nodes.node n) b
    it = has_it (t.nodes.node n) b at
