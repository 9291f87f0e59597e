-- What is known of a president's own requests is carried through each run, beside what is known of those of other nodes.
use Rattle.std.specs.Prelude.{ℕ, List, [], ◌∷◌, Option}
use Rattle.history.specs.Moment.{Moment}
use Rattle.history.specs.Setting.{Setting}
use Rattle.node_model.specs.declared.cluster.Cluster.{Cluster}
use Rattle.node_model.specs.declared.input.Input.{Input}
use Rattle.node_model.specs.declared.node.UpNode.{UpNode}
use Rattle.refinement.specs.Doings.{Act, Change, gone_line, of_node}
use Rattle.run_commands.proofs.acknowledged.Waiting.{ReadsUpdates}
use Rattle.status_report.specs.declared.node_entry.NodeEntry.TheVariants as note
use Rattle.run_commands.specs.carried.Steps.{PendingSo}
use Rattle.run_commands.proofs.acknowledged.Carrying.{Carries, PlaceSo}
use Rattle.run_commands.specs.acknowledged.AnsweringGuards.{Due}
use Rattle.run_commands.proofs.acknowledged.Own.{ActOwn, ChangeOwn, FirstIn, HasNext, OwnTold, OwnUp, ReadsOwn}
use Rattle.run_commands.proofs.acknowledged.OwnActs.{own_act}
use Rattle.run_commands.proofs.acknowledged.OwnChanges.{own_change, own_falls}
use Rattle.run_commands.proofs.acknowledged.OwnLines.{outside_told, passing_quiet}
use Rattle.run_commands.proofs.acknowledged.OwnNodes.{own_boots, own_dates, own_monitors, own_next, own_numbered}

abbrev pub WithUp : Setting → (ℕ → ℕ → Due → UpNode → ℕ → List Moment → Type 0) → ℕ → ℕ → Due → UpNode → ℕ → List Moment → Type 0
WithUp S P n promised d x next ms = P n promised d x next ms × OwnUp S n d x ms

abbrev pub WithTold : Setting → (List Moment → Type 0) → List Moment → Type 0
WithTold S W ms = W ms × OwnTold S ms

pub own_carries : (S : Setting) (c : Cluster) (P : ℕ → ℕ → Due → UpNode → ℕ → List Moment → Type 0) (Q : ℕ → ℕ → List Moment → Type 0) (W : List Moment → Type 0) (N : ℕ → UpNode → Type 0)
    (A : Input → ℕ → Option ℕ → UpNode → Act → Type 0) (B : Input → ℕ → Option ℕ → UpNode → Change → Type 0) → ReadsOwn c S → ReadsUpdates c S → Carries S c P Q W N A B
    → ((i : Input) (n : ℕ) (v : Option ℕ) (x : UpNode) (a : Act) → ActOwn i n v x a → A i n v x a) → ((i : Input) (n : ℕ) (v : Option ℕ) (x : UpNode) (change : Change) → ChangeOwn i n v x change → B i n v x change)
    → ((n promised : ℕ) (d : Due) (x : UpNode) (next : ℕ) (ms : List Moment) → PlaceSo x → PendingSo ms x → P n promised d x next ms → FirstIn c x x.presidency) → Carries S c (WithUp S P) Q (WithTold S W) HasNext ActOwn ChangeOwn
own_carries S c P Q W N A B reads updates k act_too change_too firsts = record {
  acts = λ n i v o h promised x a d g s around step own p w.
      let r : _ = k.acts n i v o h promised x a d g s around step (act_too i n v x a own) p.0 w.0 in
      let z : _ = own_act S c n i v o h promised x a d g s reads around step own p.1 w.1 in
      ((r.0, z.0), (r.1, z.1));
  changes = λ n i v o h promised x change d g middle s around saving step to own p w.
      let r : _ = k.changes n i v o h promised x change d g middle s around saving step to (change_too i n v x change own) p.0 w.0 in
      let z : _ = own_change S c n i v o h promised x change d g middle s updates around saving step own (firsts n promised d x s.links.next s.moments around.place around.before.pending p.0) p.1 w.1 in
      ((r.0, z.0), (r.1, z.1));
  falls = λ n i v o h promised after x change d g why s around step low p w.
      let r : _ = k.falls n i v o h promised after x change d g why s around step low p.0 w.0 in
      (r.0, (r.1, own_falls S n change why s w.1));
  stops = λ n promised x d why s p w.
      let r : _ = k.stops n promised x d why s p.0 w.0 in
      (r.0, (r.1, passing_quiet S n (gone_line n why) s (tt, tt) w.1));
  boots = λ n disk s q w.
      let r : _ = k.boots n disk s q w.0 in
      ((r.0, record { own = own_boots c n disk; due = tt }), (r.1, passing_quiet S n (of_node n note.Up ∷ []) s (tt, tt) w.1));
  fails = λ n promised why s q w.
      let r : _ = k.fails n promised why s q w.0 in
      (r.0, (r.1, passing_quiet S n (of_node n note.Up ∷ gone_line n why) s (tt, (tt, tt)) w.1));
  others = λ j n promised x os s ne apart good president p. (k.others j n promised x os s ne apart good president p.0, record { own = p.1.own; due = tt });
  others_down = k.others_down;
  outside = λ j promised next more x m ms out up seated bound president p. (k.outside j promised next more x m ms out up seated bound president p.0, record { own = p.1.own; due = tt });
  outside_down = k.outside_down;
  outside_told = λ m ms out w. (k.outside_told m ms out w.0, outside_told S m ms out w.1);
  dates = λ n promised now next x ms p. (k.dates n promised now next x ms p.0, record { own = own_dates n now x p.1.own; due = tt });
  asks = λ n promised next words x ms is said seated bound president held_so p w.
      let r : _ = k.asks n promised next words x ms is said seated bound president held_so p.0 w.0 in
      ((r.0, record { own = own_numbered n x is p.1.own; due = tt }), (r.1, record { letters = (tt, w.1.letters); settled = (tt, w.1.settled) }));
  nexts = λ n promised next x ms is p. own_next n x is p.1.own;
  monitors = λ n promised next x ask ms is seated calm p. (k.monitors n promised next x ask ms is seated calm p.0, record { own = own_monitors n x ask is p.1.own; due = tt });
  makes = λ n i v x change own. own;
  first = k.first;
  first_told = (k.first_told, record { letters = tt; settled = tt });
}
