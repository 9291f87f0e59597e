-- The lines of a change tell nothing to other nodes, and where the node goes down in its save they leave as much.
use Rattle.std.specs.Prelude.{ℕ, ◌+◌, ◌≡◌, ◌⊎◌, ◌++◌, List, length}
use Rattle.std.proofs.Common.{refl, sym, subst, inl, inr}
use Rattle.ccr_commit.specs.Entries.{texts_of}
use Rattle.cmm_member.specs.Nodes.{NodeState}
use Rattle.status_report.specs.declared.entry.Entry.TheVariants as entry
use Rattle.status_report.specs.declared.node_entry.DownCause.{DownCause}
use Rattle.status_report.specs.declared.update_entry.UpdateEntry.TheVariants as update
use Rattle.history.specs.Setting.{Setting}
use Rattle.node_model.specs.declared.cluster.Cluster.{Cluster}
use Rattle.node_model.specs.declared.node.UpNode.{UpNode}
use Rattle.node_model.specs.declared.output.Output.{Output}
use Rattle.node_model.specs.declared.presidency.Presidency.{Presidency}
use Rattle.refinement.specs.Doings.{Change, first_lines, gone_line, last_lines}
use Rattle.refinement.specs.Doings.Change.{Acks, Admits, Commits, Counts, Distrusts, Installs, Leads, Prepares, Promises, Proposes, Sits, Starts}
use Rattle.run_history.proofs.Lists.{both}
use Rattle.run_history.specs.Scenes.{Scene, passing, telling}
use Rattle.run_messages.specs.Outputs.{AreGood}
use Rattle.run_commands.proofs.carried.Carried.{IsMute}
use Rattle.run_commands.proofs.carried.Mute.{AreMute, first_mute, last_mute}
use Rattle.run_commands.proofs.carried.Plain.{ArePlain, IsPlainOutput, IsSilent, first_plain, last_plain, plains_apart}
use Rattle.run_commands.proofs.acknowledged.Carrying.{IsSaving, change_lines}
use Rattle.run_commands.proofs.acknowledged.Remote.{IsUntouched}
use Rattle.run_commands.proofs.acknowledged.Settled.{AnswersAreSettled}
use Rattle.run_commands.proofs.acknowledged.NoAnswers.{mutes_no}
use Rattle.run_commands.proofs.acknowledged.Quiet.{passing_settled}
use Rattle.run_commands.proofs.acknowledged.RemoteUps.{untouched_stays}

-- ---- the lines of a change

pub saving_plain : (n : ℕ) (middle : List Output) → IsSaving n middle → ArePlain middle
saving_plain n middle (inl is) = subst ArePlain (sym is) tt
saving_plain n middle (inr is) = subst ArePlain (sym is) (tt, tt)

pub saving_mute : (n : ℕ) (middle : List Output) → IsSaving n middle → AreMute middle
saving_mute n middle (inl is) = subst AreMute (sym is) tt
saving_mute n middle (inr is) = subst AreMute (sym is) (tt, tt)

pub lines_plain : (c : Cluster) (n : ℕ) (x : UpNode) (change : Change) (middle : List Output) → IsSilent change → IsSaving n middle → ArePlain (change_lines c n x change middle)
lines_plain c n x change middle silent saving =
    both IsPlainOutput (first_lines n change) (middle ++ last_lines c n x change) (first_plain n change silent)
    (both IsPlainOutput middle (last_lines c n x change) (saving_plain n middle saving) (last_plain c n x change))

pub lines_mute : (c : Cluster) (n : ℕ) (x : UpNode) (change : Change) (middle : List Output) → IsSaving n middle → AreMute (change_lines c n x change middle)
lines_mute c n x change middle saving =
    both IsMute (first_lines n change) (middle ++ last_lines c n x change) (first_mute n change) (both IsMute middle (last_lines c n x change) (saving_mute n middle saving) (last_mute c n x change))

-- ---- the node goes down in its save

pub record ItProposes (change : Change) : Type 0 where
  state : NodeState
  presidency : Presidency
  text : List ℕ
  is : change ≡ Proposes state presidency text

silent_or : (change : Change) → IsSilent change ⊎ ItProposes change
silent_or (Proposes s p text) = inr (record { state = s; presidency = p; text = text; is = refl })
silent_or (Promises p) = inl tt
silent_or (Leads p members) = inl tt
silent_or (Counts a k s i) = inl tt
silent_or (Installs s i) = inl tt
silent_or (Starts a k s) = inl tt
silent_or (Sits s e) = inl tt
silent_or (Distrusts d) = inl tt
silent_or (Admits at command a d) = inl tt
silent_or (Acks s p q left text) = inl tt
silent_or (Prepares s text) = inl tt
silent_or (Commits s) = inl tt

pub falls_untouched : (S : Setting) (n promised : ℕ) (change : Change) (why : DownCause) (s : Scene) → IsUntouched S n promised s.moments → IsUntouched S n promised (passing n (first_lines n change ++ gone_line n why) s).moments
falls_untouched S n promised change why s h = by (silent_or change)
  where
    by : IsSilent change ⊎ ItProposes change → IsUntouched S n promised (passing n (first_lines n change ++ gone_line n why) s).moments
    by (inl silent) =
        untouched_stays S n n promised (first_lines n change ++ gone_line n why) s
        (plains_apart n (first_lines n change ++ gone_line n why) (both IsPlainOutput (first_lines n change) (gone_line n why) (first_plain n change silent) (tt, tt))) h
    by (inr it) =
        subst (λ (z : Change). IsUntouched S n promised (passing n (first_lines n z ++ gone_line n why) s).moments) (sym it.is)
        (untouched_stays S n n promised (gone_line n why) (telling (entry.Update (update.Proposed it.state.session (length (texts_of it.state.saved.entries) + 1) it.text)) s) (tt, tt) h)

pub falls_settled : (S : Setting) (c : Cluster) (n : ℕ) (change : Change) (why : DownCause) (s : Scene) → AreGood n (first_lines n change ++ gone_line n why) → AnswersAreSettled S c s.moments
    → AnswersAreSettled S c (passing n (first_lines n change ++ gone_line n why) s).moments
falls_settled S c n change why s good told =
    passing_settled S c n (first_lines n change ++ gone_line n why) s good (mutes_no (first_lines n change ++ gone_line n why) (both IsMute (first_lines n change) (gone_line n why) (first_mute n change) (tt, tt))) told
