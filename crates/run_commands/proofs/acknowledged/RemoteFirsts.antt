-- While something is proposed, what is pending is the update of the first request.
use Rattle.std.specs.Prelude.{ℕ, ◌≡◌, true, false, List, Option, None, Some, Ok, is_some}
use Rattle.std.proofs.Common.{refl, sym, ap, subst, ◌∙◌}
use Rattle.admin_words.specs.Commands.{request_of}
use Rattle.admin_words.specs.declared.request.Request.TheVariants as wish
use Rattle.proposals.specs.State.{first_in}
use Rattle.proposals.specs.declared.arrived.Arrived.{Arrived}
use Rattle.proposals.specs.declared.arrived.Proposed.{Proposed}
use Rattle.update_words.specs.Words.{words_of}
use Rattle.history.specs.Contents.{proposed_at}
use Rattle.history.specs.Moment.{Moment}
use Rattle.history.specs.Setting.{Setting}
use Rattle.node_model.specs.Seats.{session_of, version_of}
use Rattle.node_model.specs.declared.cluster.Cluster.{Cluster}
use Rattle.node_model.specs.declared.node.UpNode.{UpNode}
use Rattle.node_model.specs.declared.presidency.Presidency.{Presidency}
use Rattle.run_commands.specs.carried.Steps.{PendingSo}
use Rattle.run_commands.proofs.acknowledged.Carrying.{PlaceSo}
use Rattle.run_commands.specs.acknowledged.AnsweringGuards.{Due}
use Rattle.run_commands.proofs.acknowledged.Own.{FirstIn, FirstSo}
use Rattle.run_commands.proofs.acknowledged.Remote.{IsFirsts, Remote, RemoteIn, RemoteUp, place_of}

some_is : {X : Type 0} (x y : X) → Some x ≡ Some y → x ≡ y
some_is x y e = cc

there_is : (o : Option Proposed) → is_some o ≡ true → (pr : Proposed) × (o ≡ Some pr)
there_is None h = absurd (none h)
  where
    none : false ≡ true → ⊥
    none e = cc
there_is (Some pr) h = (pr, refl)

pub remote_firsts : (S : Setting) (c : Cluster) (n promised : ℕ) (d : Due) (x : UpNode) (next : ℕ) (ms : List Moment) → PlaceSo x → PendingSo ms x → RemoteUp S c n promised d x next ms → FirstIn c x x.presidency
remote_firsts S c n promised d x next ms place pending h = by x.presidency refl h.hand
  where
    first_so : (p : Presidency) → x.presidency ≡ Some p → Remote S c n (session_of x) d p.proposals next ms → is_some p.proposals.proposed ≡ true → (a : Arrived) → first_in p.proposals.arrived ≡ Some a → FirstSo c x a
    first_so p here hand some a first =
        let pr : _ = there_is p.proposals.proposed some in
        let f : IsFirsts c (session_of x) p.proposals pr.0.place ms = hand.first pr.0.place (ap place_of pr.1) in
        record {
          update = f.update;
          read = subst (λ (z : Arrived). request_of (version_of c) z.text ≡ Ok (wish.Change f.update)) (some_is f.request a (sym f.first ∙ first)) f.read;
          words = λ text is. sym (some_is (words_of f.update) text (sym f.words ∙ (ap (λ w. proposed_at (Some (session_of x)) w ms) (place p pr.0 here pr.1) ∙ pending text (ap is_some here) is)));
        }

    by : (o : Option Presidency) → x.presidency ≡ o → RemoteIn S c n (session_of x) d o next ms → FirstIn c x o
    by None here hand = tt
    by (Some p) here hand = λ some a first. first_so p here hand some a first
