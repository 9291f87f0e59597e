-- A node readies itself for its command as the first thing in its event.
use Rattle.std.specs.Prelude.{ℕ, ◌≡◌, List, [], ◌∷◌, Option, None, Some, is_some}
use Rattle.std.proofs.Common.{refl, sym, subst}
use Rattle.cl_base.specs.declared.method.Outcome as method
use Rattle.cmm_attempt.proofs.Basics.{if_either}
use Rattle.history.specs.Moment.{Moment, Said}
use Rattle.history.specs.Order.{so_far}
use Rattle.node_model.specs.declared.cluster.Cluster.{Cluster}
use Rattle.node_model.specs.declared.input.Input.{Input}
use Rattle.node_model.specs.declared.input.Input.TheVariants as input
use Rattle.schedule_text.specs.declared.event.Event.{Event}
use Rattle.schedule_text.specs.declared.event.Event.TheVariants as event
use Rattle.schedule_text.specs.declared.line.Line.TheVariants as line
use Rattle.run_history.specs.Happenings.{Begins, Happening, Speaks, Takes, armed_by, happened}
use Rattle.run_history.specs.Rounds.{Progress}
use Rattle.run_history.specs.Scenes.{Scene, adding}
use Rattle.run_history.specs.Shapes.{Comes as IsNext, Due, IsDue, ShapedFrom, Want, brings, due_after, nothing, still}
use Rattle.run_history.specs.Shapes as want
use Rattle.run_devices.proofs.queues.Added.{IsAlone, brings_alone}
use Rattle.run_devices.specs.validity.Laws.{IsReadied}

-- ---- a node readies itself as the first in its event

abbrev pub NoTake : List Want → Type 0
NoTake [] = Unit {0}
NoTake (want.Take n i ∷ ws) = ⊥
NoTake (w ∷ ws) = NoTake ws

abbrev pub Fresh : List Moment → List Want → Type 0
Fresh ms [] = Unit {0}
Fresh ms (want.Take n i ∷ ws) = (so_far ms ≡ []) × NoTake ws
Fresh ms (w ∷ ws) = NoTake ws

no_take : (ws : List Want) → ws ≡ [] → NoTake ws
no_take ws is = subst NoTake (sym is) tt

alone_fresh : (ms : List Moment) (ws : List Want) → so_far ms ≡ [] → IsAlone ws → Fresh ms ws
alone_fresh ms [] none is = tt
alone_fresh ms (want.Note e ∷ ws) none is = no_take ws is.1
alone_fresh ms (want.Take n input.CommandDue ∷ ws) none is = (none, subst NoTake (sym is) tt)
alone_fresh ms (want.Take n input.Boot ∷ ws) none is = (none, no_take ws is)
alone_fresh ms (want.Take n input.Crash ∷ ws) none is = (none, no_take ws is)
alone_fresh ms (want.Take n input.Tick ∷ ws) none is = (none, no_take ws is)
alone_fresh ms (want.Take n (input.Packet from m) ∷ ws) none is = (none, no_take ws is)
alone_fresh ms (want.Take n (input.Answered a) ∷ ws) none is = (none, no_take ws is)
alone_fresh ms (want.Take n (input.Wrote d value a) ∷ ws) none is = (none, no_take ws is)
alone_fresh ms (want.Take n (input.Commanded words) ∷ ws) none is = (none, no_take ws is)
alone_fresh ms (want.Take n (input.Reported r good) ∷ ws) none is = (none, no_take ws is)
alone_fresh ms (want.Take n (input.Client address client port) ∷ ws) none is = (none, no_take ws is)
alone_fresh ms (want.Deliver number x ∷ ws) none is = no_take ws is
alone_fresh ms (want.Miss number x ∷ ws) none is = no_take ws is
alone_fresh ms (want.Lose number x ∷ ws) none is = no_take ws is
alone_fresh ms (want.Repeat number x ∷ ws) none is = no_take ws is
alone_fresh ms (want.Command n ∷ ws) none is = no_take ws is
alone_fresh ms (want.Write n d value ∷ ws) none is = no_take ws is
alone_fresh ms (want.Refuse n d value why ∷ ws) none is = no_take ws is

taken_fresh : (ms : List Moment) (ws : List Want) → NoTake ws → Fresh ms ws
taken_fresh ms [] none = tt
taken_fresh ms (want.Take n i ∷ ws) none = absurd none
taken_fresh ms (want.Note e ∷ ws) none = none
taken_fresh ms (want.Deliver number x ∷ ws) none = none
taken_fresh ms (want.Miss number x ∷ ws) none = none
taken_fresh ms (want.Lose number x ∷ ws) none = none
taken_fresh ms (want.Repeat number x ∷ ws) none = none
taken_fresh ms (want.Command n ∷ ws) none = none
taken_fresh ms (want.Write n d value ∷ ws) none = none
taken_fresh ms (want.Refuse n d value why ∷ ws) none = none

still_fresh : (s : Scene) (ms : List Moment) (ws : List Want) → NoTake ws → Fresh ms (still s ws)
still_fresh s ms [] none = tt
still_fresh s ms (want.Take n i ∷ ws) none = absurd none
still_fresh s ms (want.Note e ∷ ws) none = none
still_fresh s ms (want.Deliver number x ∷ ws) none = none
still_fresh s ms (want.Miss number x ∷ ws) none = none
still_fresh s ms (want.Lose number x ∷ ws) none = none
still_fresh s ms (want.Repeat number x ∷ ws) none = none
still_fresh s ms (want.Command n ∷ ws) none = if_either (Fresh ms) (is_some _) (want.Command n ∷ ws) ws none (taken_fresh ms ws none)
still_fresh s ms (want.Write n d value ∷ ws) none = none
still_fresh s ms (want.Refuse n d value why ∷ ws) none = none

rest_fresh : (ms : List Moment) (w : Want) (ws : List Want) → Fresh ms (w ∷ ws) → NoTake ws
rest_fresh ms (want.Take n i) ws h = h.1
rest_fresh ms (want.Note e) ws h = h
rest_fresh ms (want.Deliver number x) ws h = h
rest_fresh ms (want.Miss number x) ws h = h
rest_fresh ms (want.Lose number x) ws h = h
rest_fresh ms (want.Repeat number x) ws h = h
rest_fresh ms (want.Command n) ws h = h
rest_fresh ms (want.Write n d value) ws h = h
rest_fresh ms (want.Refuse n d value why) ws h = h

spoken : (c : Cluster) (e : Event) (s : Scene) → so_far (armed_by c e (adding (Said (line.Event e)) s)).moments ≡ []
spoken c (event.Fault n d done) s = refl
spoken c (event.CrashAt n calls choice) s = refl
spoken c _ s = refl

opened_fresh : (c : Cluster) (s : Scene) (rounds : Option Progress) (x : Happening) → Fresh (happened c s x).moments (want.opened c (happened c s x) rounds x).wants
opened_fresh c s rounds (Speaks e) = let t : Scene = happened c s (Speaks e) in alone_fresh t.moments (brings c t e) (spoken c e s) (brings_alone c t e)
opened_fresh c s rounds (Begins e) = let t : Scene = happened c s (Begins e) in alone_fresh t.moments (brings c t e) refl (brings_alone c t e)
opened_fresh c s rounds _ = tt

pub next_fresh : (c : Cluster) (s : Scene) (ws : List Want) (rounds : Option Progress) (x : Happening) → Fresh s.moments ws → Fresh (happened c s x).moments (want.left c (happened c s x) ws rounds x).wants
next_fresh c s [] rounds x h = opened_fresh c s rounds x
next_fresh c s (w ∷ ws) rounds x h = still_fresh (happened c s x) (happened c s x).moments ws (rest_fresh s.moments w ws h)

pub record IsFirst (ms : List Moment) (n : ℕ) (ws : List Want) : Type 0 where
  pub none : so_far ms ≡ []
  pub unready : IsReadied n ws → ⊥

pub take_first : (s : Scene) (ws : List Want) (rounds : Option Progress) (n now : ℕ) (ends : method.Outcome) (i : Input) → IsNext s ws rounds (Takes n now ends i) → Fresh s.moments ws → IsFirst s.moments n ws
take_first s [] None n now ends i is h = absurd is
take_first s [] (Some p) n now ends i is h = absurd is
take_first s (want.Take m j ∷ ws) rounds n now ends i is h = record { none = h.0; unready = λ z. z }
take_first s (_ ∷ ws) rounds n now ends i is h = absurd is
