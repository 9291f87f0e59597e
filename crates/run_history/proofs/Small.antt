-- What is known of each small step of a node by its course alone: what it gives beside lines of its own, and that it starts, or sits, in its session.
use Rattle.std.specs.Prelude.{ℕ, ◌≡◌, List, [], ◌∷◌}
use Rattle.std.specs.List.{AllByRecursion}
use Rattle.cmm_attempt.specs.Calls.{turn}
use Rattle.pgr_device.specs.declared.command.PrCommand.{PrCommand}
use Rattle.seize.specs.Answers.{Answer}
use Rattle.refinement.specs.Courses.{Course, Reply, under}
use Rattle.refinement.specs.Courses.Course.{Acts, Falls, Keeps, Stops}
use Rattle.refinement.specs.Courses.Reply.{Done, Lost_new, Lost_old}
use Rattle.refinement.specs.Doings.{Act, Change, Doing}
use Rattle.refinement.specs.Doings.Act.{Gives, Makes, Takes}
use Rattle.refinement.specs.Doings.Change.{Admits, Sits, Starts}
use Rattle.refinement.specs.Doings.Doing.{Does, Saves}
use Rattle.run_history.proofs.Handlers.{IsAnswer}
use Rattle.run_history.proofs.Ordinary.{ActsSo, ChangesSo, GivesAside, IsOrdinary}

abbrev pub IsSmallChange : Change → Type 0
IsSmallChange (Starts a k s) = s.session ≡ (turn a k).after.plan.epoch
IsSmallChange (Sits s e) = s.session ≡ e
IsSmallChange _ = Unit {0}

abbrev pub IsSmallAct : Act → Type 0
IsSmallAct (Makes change) = IsSmallChange change
IsSmallAct (Gives os) = AllByRecursion GivesAside os
IsSmallAct _ = Unit {0}

abbrev pub IsSmall : Doing → Type 0
IsSmall (Does a) = IsSmallAct a
IsSmall (Saves change) = IsSmallChange change
IsSmall _ = Unit {0}

abbrev pub AllSmall : List Doing → Type 0
AllSmall ds = AllByRecursion IsSmall ds

change_small : (D : ℕ → Type 0) (change : Change) → ChangesSo D change → IsSmallChange change
change_small D (Starts a k s) h = h
change_small D (Sits s e) h = h
change_small D _ h = tt

act_small : (D : ℕ → Type 0) (a : Act) → ActsSo D a → IsSmallAct a
act_small D (Makes change) h = change_small D change h
act_small D (Gives os) h = h
act_small D _ h = tt

pub course_small : (D : ℕ → Type 0) (replies : List Reply) (k : Course) → IsOrdinary D k → AllSmall (under replies k)
course_small D replies Stops h = tt
course_small D replies (Acts a rest) h = (act_small D a h.0, course_small D replies rest h.1)
course_small D [] (Keeps change rest) h = (tt, tt)
course_small D (Done ∷ replies) (Keeps change rest) h = (change_small D change h.0, course_small D replies rest h.1)
course_small D (Lost_new why ∷ replies) (Keeps change rest) h = (tt, tt)
course_small D (Lost_old why ∷ replies) (Keeps change rest) h = (tt, tt)
course_small D replies (Falls why) h = (tt, tt)

pub answer_small : (D : ℕ → Type 0) (replies : List Reply) (d : ℕ) (k : PrCommand) (a : Answer) (course : Course) → IsAnswer D d k a course → AllSmall (under replies course)
answer_small D replies d k a (Acts (Takes at command b) rest) h = (tt, course_small D replies rest h.3)
answer_small D [] d k a (Keeps (Admits at command b e) rest) h = (tt, tt)
answer_small D (Done ∷ replies) d k a (Keeps (Admits at command b e) rest) h = (tt, course_small D replies rest h.3)
answer_small D (Lost_new why ∷ replies) d k a (Keeps (Admits at command b e) rest) h = (tt, tt)
answer_small D (Lost_old why ∷ replies) d k a (Keeps (Admits at command b e) rest) h = (tt, tt)
answer_small D replies d k a _ h = absurd h
