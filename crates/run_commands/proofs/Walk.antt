-- A course of a node that is up, under all replies of its disk, answers commands that wait.
use Rattle.std.specs.Prelude.{ℕ, ◌≡◌, ◌≢◌, ◌++◌, List, [], ◌∷◌}
use Rattle.std.proofs.Common.{refl, sym, subst, ◌∙◌, inr}
use Rattle.cmm_member.specs.Records.{NodeRecord}
use Rattle.status_report.specs.declared.node_entry.DownCause.{DownCause}
use Rattle.status_report.specs.declared.node_entry.NodeEntry.TheVariants as note
use Rattle.history.specs.Moment.{Moment}
use Rattle.node_model.specs.declared.cluster.Cluster.{Cluster}
use Rattle.node_model.specs.declared.node.Node.{Node}
use Rattle.node_model.specs.declared.node.Node.TheVariants.{Down, Up}
use Rattle.node_model.specs.declared.node.UpNode.{UpNode}
use Rattle.node_model.specs.declared.output.Output.{Output}
use Rattle.refinement.specs.Courses.{Course, Reply, under}
use Rattle.refinement.specs.Courses.Course.{Acts, Falls, Keeps, Stops}
use Rattle.refinement.specs.Courses.Reply.{Done, Lost_new, Lost_old}
use Rattle.refinement.specs.Doings.{Change, acted, after_all, changed, effect, first_lines, given_all, gone_line, of_node, said, saved_lines, site}
use Rattle.refinement.specs.Doings.Doing.{Saves}
use Rattle.run_history.proofs.Idle.{passing_append}
use Rattle.run_history.proofs.Lists.{both}
use Rattle.run_history.specs.Scenes.{Scene, passing}
use Rattle.run_commands.specs.Guards.{AreQuiet, GoesSo, Hand, IsQuietOutput}
use Rattle.run_commands.specs.Guards.Hand.{Free}
use Rattle.run_commands.specs.Answers.{AnswersWait}
use Rattle.run_commands.proofs.Doings.{Left, Was, act_left, change_left}
use Rattle.run_commands.proofs.Numbers.{AreSteady, IsSteadyOutput, quiets_steady}
use Rattle.run_commands.proofs.Owed.{Owed, owed_free}
use Rattle.run_commands.proofs.Quiet.{first_quiet}
use Rattle.run_commands.proofs.Waiting.{AreApart, IsApartOutput, passing_quiet, quiets_apart}

-- a node whose last number is this
abbrev pub NodeOwes : ℕ → ℕ → Node → List Moment → Type 0
NodeOwes n last Down ms = Unit {0}
NodeOwes n last (Up x) ms = (x.requests.asked ≡ last) × Owed n ms Free x.requests.asked x.requests.waiting

-- after these outputs of node n, which is so then
pub record Ends (n last : ℕ) (node : Node) (os : List Output) (s : Scene) : Type 0 where
  pub own : NodeOwes n last node (passing n os s).moments
  pub said : AnswersWait (passing n os s).moments
  pub apart : (k : ℕ) → k ≢ n → AreApart k os
  pub steady : AreSteady os

pub then_ends : (n last : ℕ) (node : Node) (os more : List Output) (s : Scene) → ((k : ℕ) → k ≢ n → AreApart k os) → AreSteady os → Ends n last node more (passing n os s)
    → Ends n last node (os ++ more) s
then_ends n last node os more s apart steady e = record {
  own = subst (λ (z : Scene). NodeOwes n last node z.moments) (sym (passing_append n os more s)) e.own;
  said = subst (λ (z : Scene). AnswersWait z.moments) (sym (passing_append n os more s)) e.said;
  apart = λ k ne. both (IsApartOutput k) os more (apart k ne) (e.apart k ne);
  steady = both IsSteadyOutput os more steady e.steady;
}

-- the node goes down
pub down_ends : (n last : ℕ) (os : List Output) (s : Scene) → AreQuiet os → AnswersWait s.moments → Ends n last Down os s
down_ends n last os s quiet said = record { own = tt; said = (passing_quiet n os s quiet).said said; apart = λ k ne. quiets_apart k os quiet; steady = quiets_steady os quiet }

falls : (n last : ℕ) (change : Change) (why : DownCause) (s : Scene) → AnswersWait s.moments → Ends n last Down ((first_lines n change ++ gone_line n why) ++ []) s
falls n last change why s said =
    down_ends n last ((first_lines n change ++ gone_line n why) ++ []) s
    (both IsQuietOutput (first_lines n change ++ gone_line n why) [] (both IsQuietOutput (first_lines n change) (gone_line n why) (first_quiet n change) (tt, tt)) tt) said

pub walk : (c : Cluster) (n : ℕ) (replies : List Reply) (k : Course) (h : Hand) (last : ℕ) (x : UpNode) (disk : NodeRecord) (s : Scene) → GoesSo c n h x k
    → x.requests.asked ≡ last → Was n h x.requests s
    → Ends n last (after_all c n (site (Up x) disk) (under replies k)).node (given_all c n (site (Up x) disk) (under replies k)) s
walk c n replies Stops h last x disk s goes same w =
    record { own = (same, owed_free n s.moments h x.requests.asked x.requests.waiting goes w.owed); said = w.said; apart = λ k ne. tt; steady = tt }
walk c n replies (Acts a rest) h last x disk s goes same w =
    let os : List Output = said c n x a in
    let y : UpNode = acted c n x a in
    let l : Left n goes.0 x.requests y.requests os s = act_left c n x a h goes.0 s goes.1 w in
    then_ends n last (after_all c n (site (Up y) disk) (under replies rest)).node os (given_all c n (site (Up y) disk) (under replies rest)) s l.apart l.steady
    (walk c n replies rest goes.0 last y disk (passing n os s) goes.2 (l.last_so ∙ same) (record { owed = l.owed; said = l.said }))
walk c n [] (Keeps change rest) h last x disk s goes same w = falls n last change _ s w.said
walk c n (Done ∷ replies) (Keeps change rest) h last x disk s goes same w =
    let os : List Output = first_lines n change ++ saved_lines c n x change in
    let y : UpNode = changed c n x change in
    let l : Left n goes.0 x.requests y.requests os s = change_left c n x change (of_node n note.Saved ∷ []) h goes.0 s goes.1 (inr refl) w in
    then_ends n last (after_all c n (effect c n (site (Up x) disk) (Saves change)) (under replies rest)).node os (given_all c n (effect c n (site (Up x) disk) (Saves change)) (under replies rest)) s l.apart l.steady
    (walk c n replies rest goes.0 last y _ (passing n os s) goes.2 (l.last_so ∙ same) (record { owed = l.owed; said = l.said }))
walk c n (Lost_new why ∷ replies) (Keeps change rest) h last x disk s goes same w = falls n last change why s w.said
walk c n (Lost_old why ∷ replies) (Keeps change rest) h last x disk s goes same w = falls n last change why s w.said
walk c n replies (Falls why) h last x disk s goes same w = down_ends n last (gone_line n why ++ []) s (tt, tt) w.said
