-- The command that came is that of the last number, as long as its step goes on.
use Rattle.std.specs.Prelude.{ℕ, ◌≡◌, ◌==◌, ◌&&◌, ◌++◌, List, [], ◌∷◌, Some, slice_get}
use Rattle.std.specs.List.{AllByRecursion}
use Rattle.std.proofs.Common.{refl, sym, ap, subst, ◌∙◌, inl, inr}
use Rattle.cmm_attempt.proofs.Basics.{none_some, same_some}
use Rattle.schedule_text.specs.declared.event.Event.TheVariants as event
use Rattle.schedule_text.specs.declared.line.Line.TheVariants as line
use Rattle.status_report.specs.declared.command_entry.CommandEntry.TheVariants as command
use Rattle.status_report.specs.declared.entry.Entry.{Entry}
use Rattle.status_report.specs.declared.entry.Entry.TheVariants as entry
use Rattle.status_report.specs.declared.node_entry.NodeEntry.TheVariants as note
use Rattle.wire.specs.declared.message.Message.{Message}
use Rattle.history.specs.Moment.{Moment, Said, Told}
use Rattle.history.specs.Order.{before_last, since}
use Rattle.history.specs.Requests.{command_before, command_of, is_asking}
use Rattle.history.specs.Seizing.{is_boot}
use Rattle.history.specs.Setting.{Setting}
use Rattle.node_model.specs.declared.cluster.Cluster.{Cluster}
use Rattle.node_model.specs.declared.input.Input.{Input}
use Rattle.node_model.specs.declared.input.Input.TheVariants.{Commanded}
use Rattle.node_model.specs.declared.node.UpNode.{UpNode}
use Rattle.node_model.specs.declared.output.Output.{Output}
use Rattle.node_model.specs.declared.output.Output.TheVariants.{Sends, Tells}
use Rattle.refinement.specs.Doings.{Change, first_lines, last_lines}
use Rattle.refinement.specs.Doings.Change.{Acks, Admits, Commits, Counts, Distrusts, Installs, Leads, Prepares, Promises, Proposes, Sits, Starts}
use Rattle.run_history.proofs.Heard.{and_both}
use Rattle.run_history.proofs.Idle.{if_true}
use Rattle.run_history.proofs.Lists.{both}
use Rattle.run_history.specs.Scenes.{Scene, passing, posting, telling}
use Rattle.run_commands.proofs.carried.Lines.{SameAsked, posting_ask}
use Rattle.run_commands.proofs.carried.Plain.{ArePlain, IsPlain, last_plain}
use Rattle.run_commands.proofs.acknowledged.Askings.{is_same}
use Rattle.run_commands.proofs.acknowledged.Carrying.{IsSaving, asked_line, change_lines}
use Rattle.run_commands.proofs.acknowledged.Own.{NowAsked}

-- ---- what asks nothing

abbrev pub IsAskless : Output → Type 0
IsAskless (Tells (entry.Node m note.Up)) = ⊥
IsAskless (Tells (entry.Command (command.Asked m q))) = ⊥
IsAskless (Tells (entry.Packet e)) = ⊥
IsAskless _ = Unit {0}

abbrev pub AreAskless : List Output → Type 0
AreAskless os = AllByRecursion IsAskless os

told_askless : (S : Setting) (n : ℕ) (e : Entry) (ms : List Moment) → IsAskless (Tells e) → SameAsked S n ms (Told e ∷ ms)
told_askless S n (entry.Node m note.Up) ms h = absurd h
told_askless S n (entry.Command (command.Asked m q)) ms h = absurd h
told_askless S n (entry.Packet e) ms h = absurd h
told_askless S n _ ms h = record { asking = λ q. refl; asked = λ q. refl; command = λ q. refl }

same_then : (S : Setting) (n : ℕ) (a b c : List Moment) → SameAsked S n a b → SameAsked S n b c → SameAsked S n a c
same_then S n a b c f g = record { asking = λ q. g.asking q ∙ f.asking q; asked = λ q. g.asked q ∙ f.asked q; command = λ q. g.command q ∙ f.command q }

pub passing_askless : (S : Setting) (n : ℕ) (os : List Output) (s : Scene) → AreAskless os → SameAsked S n s.moments (passing n os s).moments
passing_askless S n [] s h = record { asking = λ q. refl; asked = λ q. refl; command = λ q. refl }
passing_askless S n (Tells e ∷ os) s h =
    same_then S n s.moments (telling e s).moments (passing n os (telling e s)).moments (told_askless S n e s.moments h.0) (passing_askless S n os (telling e s) h.1)
passing_askless S n (Sends to b ∷ os) s h =
    let m : Message = record { sender = n; body = b } in
    same_then S n s.moments (posting n to m s).moments (passing n os (posting n to m s)).moments (posting_ask S n n to m s).asks (passing_askless S n os (posting n to m s) h.1)

plain_askless : (e : Entry) → IsPlain e → IsAskless (Tells e)
plain_askless (entry.Node m note.Up) h = absurd h
plain_askless (entry.Command (command.Asked m q)) h = absurd h
plain_askless (entry.Packet e) h = absurd h
plain_askless _ h = tt

pub plains_askless : (os : List Output) → ArePlain os → AreAskless os
plains_askless [] h = tt
plains_askless (Tells e ∷ os) h = (plain_askless e h.0, plains_askless os h.1)
plains_askless (Sends to b ∷ os) h = (tt, plains_askless os h.1)

first_askless : (n : ℕ) (change : Change) → AreAskless (first_lines n change)
first_askless n (Admits at command a d) = (tt, tt)
first_askless n (Proposes s p text) = (tt, tt)
first_askless n (Promises p) = tt
first_askless n (Leads p members) = tt
first_askless n (Counts a k s i) = tt
first_askless n (Installs s i) = tt
first_askless n (Starts a k s) = tt
first_askless n (Sits s e) = tt
first_askless n (Distrusts d) = tt
first_askless n (Acks s p q left text) = tt
first_askless n (Prepares s text) = tt
first_askless n (Commits s) = tt

saving_askless : (n : ℕ) (middle : List Output) → IsSaving n middle → AreAskless middle
saving_askless n middle (inl is) = subst AreAskless (sym is) tt
saving_askless n middle (inr is) = subst AreAskless (sym is) (tt, tt)

pub change_askless : (c : Cluster) (n : ℕ) (x : UpNode) (change : Change) (middle : List Output) → IsSaving n middle → AreAskless (change_lines c n x change middle)
change_askless c n x change middle saving =
    both IsAskless (first_lines n change) (middle ++ last_lines c n x change) (first_askless n change)
    (both IsAskless middle (last_lines c n x change) (saving_askless n middle saving) (plains_askless (last_lines c n x change) (last_plain c n x change)))

-- ---- the command that came

pub now_stays : (S : Setting) (n : ℕ) (i : Input) (last more : ℕ) (before after : List Moment) → SameAsked S n before after → more ≡ last → NowAsked S n i last before → NowAsked S n i more after
now_stays S n (Commanded words) last more before after f same h = f.command more ∙ (ap (λ q. command_of S n q before) same ∙ h)
now_stays S n _ last more before after f same h = tt

words_first : (S : Setting) (n : ℕ) (words : List ℕ) (ms : List Moment) → slice_get ms 0 ≡ Some (Said (line.Event (event.Command n words))) → command_before S (since (is_boot n) ms) ≡ S.canonical words
words_first S n words [] h = absurd (none_some (Said (line.Event (event.Command n words))) h)
words_first S n words (m ∷ ms) h = subst (λ z. command_before S (since (is_boot n) (z ∷ ms)) ≡ S.canonical words) (sym (same_some m (Said (line.Event (event.Command n words))) h)) refl

pub now_first : (S : Setting) (n q : ℕ) (words : List ℕ) (ms : List Moment) → slice_get ms 0 ≡ Some (Said (line.Event (event.Command n words))) → NowAsked S n (Commanded words) q (asked_line n q ∷ ms)
now_first S n q words ms first =
    ap (λ xs. command_before S xs) (if_true ((n == n) && (q == q)) (since (is_boot n) ms) (before_last (is_asking n q) (since (is_boot n) ms)) (and_both (n == n) (q == q) (is_same n) (is_same q))) ∙ words_first S n words ms first
