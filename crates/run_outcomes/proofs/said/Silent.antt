-- Which small steps of a node tell of no seizing.
use Rattle.std.specs.Prelude.{ℕ, ◌++◌, List, [], ◌∷◌}
use Rattle.std.specs.List.{AllByRecursion}
use Rattle.cl_base.specs.Limits.{most_nodes}
use Rattle.cl_base.specs.Numbers.{numbers_to}
use Rattle.node_model.specs.Presidents.{sent_to}
use Rattle.node_model.specs.Ticks.{later}
use Rattle.node_model.specs.declared.cluster.Cluster.{Cluster}
use Rattle.node_model.specs.declared.node.Node.{Node}
use Rattle.node_model.specs.declared.node.Node.TheVariants.{Down, Up}
use Rattle.node_model.specs.declared.node.UpNode.{UpNode}
use Rattle.node_model.specs.declared.output.Output.{Output}
use Rattle.node_model.specs.declared.output.Output.TheVariants.{Sends, Tells}
use Rattle.refinement.specs.Doings.{Act, Change, Doing, Site, effect, first_lines, gone_line, last_lines, said, saved_lines}
use Rattle.refinement.specs.Doings.Act.{Accepts, Dates, Ends, Gives, Goes_on, Hears, Makes, Minds, Notes, Queues, Spreads, Stores, Takes, Ticks, Waits, Works, Writes}
use Rattle.refinement.specs.Doings.Change.{Admits}
use Rattle.refinement.specs.Doings.Doing.{Does}
use Rattle.refinement.specs.Guards.{May, MayAct, MayAll, TellNothing, TellsNothing}
use Rattle.refinement.specs.Ties.{Delivered}
use Rattle.run_history.proofs.Lists.{mapped}
use Rattle.run_history.specs.Guards.{AtAct, AtAll, AtDoing, AtWrite, Hand, IsPlainBody, TellsEnd, hand_after}
use Rattle.status_report.specs.declared.node_entry.DownCause.{DownCause}
use Rattle.wire.specs.declared.message.Body.{Body}
use Rattle.wire.specs.declared.message.Body.TheVariants as body
use Rattle.run_outcomes.proofs.results.Calm.{AllCalm, AllMute, IsMute, all_mute, lost_calm, made_mute, saved_mute, ticked_calm, write_calm}

-- ---- what is given

abbrev pub IsSeized : Body → Type 0
IsSeized (body.Seized e d r) = Unit {0}
IsSeized _ = ⊥

-- none of these is a Seized
abbrev pub IsSilent : Output → Type 0
IsSilent (Tells e) = Unit {0}
IsSilent (Sends to b) = IsSeized b → ⊥

abbrev pub AreSilent : List Output → Type 0
AreSilent os = AllByRecursion IsSilent os

mute_silent : (b : Body) → IsMute b → IsSeized b → ⊥
mute_silent (body.Seized e d r) mute is = mute
mute_silent _ mute is = is

muted_silent : (os : List Output) → AllMute os → AreSilent os
muted_silent [] k = tt
muted_silent (Tells e ∷ os) k = (tt, muted_silent os k.1)
muted_silent (Sends to b ∷ os) k = (mute_silent b k.0, muted_silent os k.1)

calm_silent : (os : List Output) → AllCalm os → AreSilent os
calm_silent os k = muted_silent os (all_mute os k)

nothing_silent : (to : ℕ) (b : Body) → TellsNothing (Sends to b) → IsSeized b → ⊥
nothing_silent to (body.Seized e d r) nothing is = nothing
nothing_silent to _ nothing is = is

given_silent : (os : List Output) → TellNothing os → AreSilent os
given_silent [] k = tt
given_silent (Tells e ∷ os) k = (tt, given_silent os k.1)
given_silent (Sends to b ∷ os) k = (nothing_silent to b k.0, given_silent os k.1)

plain_silent : (b : Body) → IsPlainBody b → IsSeized b → ⊥
plain_silent (body.Seized e d r) plain is = plain
plain_silent _ plain is = is

spread_silent : (receivers : ℕ) (b : Body) → IsPlainBody b → AreSilent (sent_to receivers b)
unfolding sent_to
spread_silent receivers b plain = mapped IsSilent (λ n. Sends n b) (numbers_to receivers most_nodes) (λ n. plain_silent b plain)

-- ---- changes

pub saved_silent : (c : Cluster) (n : ℕ) (x : UpNode) (ch : Change) → AreSilent (first_lines n ch ++ saved_lines c n x ch)
saved_silent c n x (Admits at command a d) = (tt, (tt, tt))
saved_silent c n x ch = muted_silent (first_lines n ch ++ saved_lines c n x ch) (saved_mute c n x ch tt)

pub lost_silent : (n : ℕ) (ch : Change) (why : DownCause) → AreSilent (first_lines n ch ++ gone_line n why)
lost_silent n (Admits at command a d) why = (tt, (tt, tt))
lost_silent n ch why = calm_silent (first_lines n ch ++ gone_line n why) (lost_calm n ch why tt)

made_silent : (c : Cluster) (n : ℕ) (x : UpNode) (ch : Change) → AreSilent (first_lines n ch ++ last_lines c n x ch)
made_silent c n x (Admits at command a d) = (tt, tt)
made_silent c n x ch = muted_silent (first_lines n ch ++ last_lines c n x ch) (made_mute c n x ch tt)

-- ---- what each small step may tell

abbrev pub WriteTells : Delivered → UpNode → Body → Type 0
WriteTells told x (body.Seized e d r) = TellsEnd told x e d r
WriteTells told x _ = Unit {0}

-- it sends how a seizing ended as it may, or tells of none
abbrev pub ActTells : Delivered → Cluster → ℕ → UpNode → Act → Type 0
ActTells told c n x (Writes to b) = WriteTells told x b
ActTells told c n x a = AreSilent (said c n x a)

abbrev pub UpTells : Delivered → Cluster → ℕ → Act → Node → Type 0
UpTells told c n a Down = Unit {0}
UpTells told c n a (Up x) = ActTells told c n x a

abbrev pub DoingTells : Delivered → Cluster → ℕ → Node → Doing → Type 0
DoingTells told c n node (Does a) = UpTells told c n a node
DoingTells told c n node d = Unit {0}

-- each of these, one after another
abbrev pub AllTell : Delivered → Cluster → ℕ → Site → List Doing → Type 0
AllTell told c n x [] = Unit {0}
AllTell told c n x (d ∷ ds) = DoingTells told c n x.node d × AllTell told c n (effect c n x d) ds

write_tells : (told : Delivered) (g : Hand) (x : UpNode) (to : ℕ) (b : Body) → AtWrite told g x to b → WriteTells told x b
write_tells told g x to (body.Seized e d r) at = at
write_tells told g x to _ at = tt

pub act_tells : (told : Delivered) (c : Cluster) (n : ℕ) (g : Hand) (x : UpNode) (a : Act) → MayAct c n told x a → AtAct n told g x a → ActTells told c n x a
act_tells told c n g x (Writes to b) may at = write_tells told g x to b at
act_tells told c n g x (Hears from b) may at = tt
act_tells told c n g x Ticks may at = (tt, calm_silent _ (ticked_calm c x (later c x)))
act_tells told c n g x Waits may at = tt
act_tells told c n g x (Goes_on a k) may at = tt
act_tells told c n g x (Ends a e) may at = (tt, tt)
act_tells told c n g x (Queues a d kind) may at = tt
act_tells told c n g x (Accepts kind e members d) may at = tt
act_tells told c n g x (Takes on command a) may at = (tt, tt)
act_tells told c n g x (Stores d value a) may at = (tt, calm_silent _ (write_calm n x d value a))
act_tells told c n g x (Makes ch) may at = made_silent c n x ch
act_tells told c n g x (Gives os) may at = given_silent os may
act_tells told c n g x (Spreads receivers b) may at = spread_silent receivers b at
act_tells told c n g x (Minds q p) may at = tt
act_tells told c n g x (Notes from place p) may at = tt
act_tells told c n g x (Dates now) may at = tt
act_tells told c n g x (Works w) may at = tt

doing_tells : (told : Delivered) (c : Cluster) (n : ℕ) (g : Hand) (x : Site) (d : Doing) → May c n told x d → AtDoing n told g x d → DoingTells told c n x.node d
doing_tells told c n g x (Does a) may at = by_node x.node may at
  where
    by_node : (node : Node) → May c n told (record x { node = node }) (Does a) → AtDoing n told g (record x { node = node }) (Does a) → UpTells told c n a node
    by_node Down m t = tt
    by_node (Up y) m t = act_tells told c n g y a m t
doing_tells told c n g x d may at = tt

pub all_tell : (told : Delivered) (c : Cluster) (n : ℕ) (g : Hand) (x : Site) (ds : List Doing) → MayAll c n told x ds → AtAll c n told g x ds → AllTell told c n x ds
all_tell told c n g x [] may at = tt
all_tell told c n g x (d ∷ ds) may at = (doing_tells told c n g x d may.0 at.0, all_tell told c n (hand_after g d) (effect c n x d) ds may.1 at.1)
