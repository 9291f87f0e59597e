-- What each small step of a node leaves of what it told of its seizings.
use Rattle.std.specs.Prelude.{ℕ, ◌≡◌, ◌<◌, ◌≤◌, ◌++◌, List, [], ◌∷◌}
use Rattle.std.proofs.Common.{arith, subst}
use Rattle.cl_base.specs.Seizings.{SeizeResult}
use Rattle.cmm_member.specs.Records.{NodeRecord}
use Rattle.membership_machine.specs.Invariant.{Holds}
use Rattle.membership_machine.specs.State.{Memberships}
use Rattle.node_model.specs.Seats.{promised_of}
use Rattle.node_model.specs.declared.cluster.Cluster.{Cluster}
use Rattle.node_model.specs.declared.node.Node.{Node}
use Rattle.node_model.specs.declared.node.Node.TheVariants.{Down, Up}
use Rattle.node_model.specs.declared.node.UpNode.{UpNode}
use Rattle.node_model.specs.declared.output.Output.{Output}
use Rattle.node_model.specs.declared.output.Output.TheVariants.{Sends}
use Rattle.refinement.specs.Doings.{Act, Doing, acted, changed, effect, first_lines, gives, gone_line, said, saved_lines, site}
use Rattle.refinement.specs.Doings.Act.{Accepts, Dates, Ends, Gives, Goes_on, Hears, Makes, Minds, Notes, Queues, Spreads, Stores, Takes, Ticks, Waits, Works, Writes}
use Rattle.refinement.specs.Doings.Doing.{Comes_up, Does, Forgets, Goes_down, Loses, Saves}
use Rattle.refinement.specs.Guards.{May, MayAct}
use Rattle.refinement.specs.Ties.{Delivered, Known, NodeTied, setting_of}
use Rattle.run_history.proofs.Changes.{At}
use Rattle.wire.specs.declared.message.Body.{Body}
use Rattle.wire.specs.declared.message.Body.TheVariants as body
use Rattle.run_outcomes.specs.tasks.Said.{NodeSaid, SiteSaid, Tale}
use Rattle.run_outcomes.proofs.results.Freed.{inst}
use Rattle.run_outcomes.proofs.said.Silent.{ActTells, AreSilent, DoingTells, IsSeized, WriteTells, lost_silent, saved_silent}
use Rattle.run_outcomes.proofs.said.Ups.{act_said, change_said}
use Rattle.run_outcomes.proofs.said.Tales.{Or, Stands, said_to, seized_said, silent_said, stands}

-- ---- each small step

act_one : (L : Tale) (c : Cluster) (M : Memberships) (n : ℕ) (told : Delivered) (disk : NodeRecord) (x : UpNode) (a : Act) → At c M n told disk x → MayAct c n told x a → ActTells told c n x a
    → SiteSaid L (M.node n).promised (inst M) (Up x) → SiteSaid (Or L n (said c n x a)) (M.node n).promised (inst M) (Up (acted c n x a))
act_one L c M n told disk x a at may tells so = by_act a may tells
  where
    st : Stands M n x
    st = stands c M n told disk x at

    low : (e d : ℕ) (r : SeizeResult) → L e d r → 0 < e → e ≤ promised_of x
    low e d r tale some = subst (λ p. e ≤ p) st.promised (so.low e d r tale some)

    silent : (b : Act) → MayAct c n told x b → AreSilent (said c n x b) → SiteSaid (Or L n (said c n x b)) (M.node n).promised (inst M) (Up (acted c n x b))
    silent b m none =
        silent_said L n (said c n x b) (M.node n).promised (inst M) (Up (acted c n x b)) none
        (said_to L (M.node n).promised (inst M) (Up x) (Up (acted c n x b)) (λ k. act_said L c M n told disk x b at m low k) so)

    mute : (to : ℕ) (b : Body) → (IsSeized b → ⊥) → SiteSaid (Or L n (Sends to b ∷ [])) (M.node n).promised (inst M) (Up x)
    mute to b none = silent_said L n (Sends to b ∷ []) (M.node n).promised (inst M) (Up x) (none, tt) so

    writes : (to : ℕ) (b : Body) → WriteTells told x b → SiteSaid (Or L n (Sends to b ∷ [])) (M.node n).promised (inst M) (Up x)
    writes to (body.Seized e d r) end = seized_said L M n told x to e d r st end so
    writes to (body.Heartbeat promised session member) end = mute to (body.Heartbeat promised session member) (λ is. is)
    writes to (body.Collect p members) end = mute to (body.Collect p members) (λ is. is)
    writes to (body.Promise p newest members valid flagged committed pending) end = mute to (body.Promise p newest members valid flagged committed pending) (λ is. is)
    writes to (body.Nack p promised) end = mute to (body.Nack p promised) (λ is. is)
    writes to (body.SeizeQuorum p members d) end = mute to (body.SeizeQuorum p members d) (λ is. is)
    writes to (body.SeizeData p members d) end = mute to (body.SeizeData p members d) (λ is. is)
    writes to (body.Install i) end = mute to (body.Install i) (λ is. is)
    writes to (body.Ready p devices report) end = mute to (body.Ready p devices report) (λ is. is)
    writes to (body.Start p) end = mute to (body.Start p) (λ is. is)
    writes to (body.Prepare p place text) end = mute to (body.Prepare p place text) (λ is. is)
    writes to (body.Prepared p place) end = mute to (body.Prepared p place) (λ is. is)
    writes to (body.Commit p place) end = mute to (body.Commit p place) (λ is. is)
    writes to (body.Order o) end = mute to (body.Order o) (λ is. is)
    writes to (body.Done p number ended) end = mute to (body.Done p number ended) (λ is. is)
    writes to (body.Request p number text) end = mute to (body.Request p number text) (λ is. is)
    writes to (body.Answer p number text) end = mute to (body.Answer p number text) (λ is. is)
    writes to (body.Excluded p newest) end = mute to (body.Excluded p newest) (λ is. is)

    by_act : (b : Act) → MayAct c n told x b → ActTells told c n x b → SiteSaid (Or L n (said c n x b)) (M.node n).promised (inst M) (Up (acted c n x b))
    by_act (Writes to b) m t = writes to b t
    by_act (Hears from b) m t = silent (Hears from b) m t
    by_act Ticks m t = silent Ticks m t
    by_act Waits m t = silent Waits m t
    by_act (Goes_on b q) m t = silent (Goes_on b q) m t
    by_act (Ends b end) m t = silent (Ends b end) m t
    by_act (Queues b d kind) m t = silent (Queues b d kind) m t
    by_act (Accepts kind e members d) m t = silent (Accepts kind e members d) m t
    by_act (Takes on command b) m t = silent (Takes on command b) m t
    by_act (Stores d value b) m t = silent (Stores d value b) m t
    by_act (Makes ch) m t = silent (Makes ch) m t
    by_act (Gives os) m t = silent (Gives os) m t
    by_act (Spreads receivers b) m t = silent (Spreads receivers b) m t
    by_act (Minds q p) m t = silent (Minds q p) m t
    by_act (Notes from place p) m t = silent (Notes from place p) m t
    by_act (Dates now) m t = silent (Dates now) m t
    by_act (Works w) m t = silent (Works w) m t

-- it goes down
down_one : (L : Tale) (n : ℕ) (os : List Output) (p : ℕ) (top : ℕ → ℕ) (node : Node) → AreSilent os → SiteSaid L p top node → SiteSaid (Or L n os) p top Down
down_one L n os p top node silent so = silent_said L n os p top Down silent (said_to L p top node Down (λ k. tt) so)

up_at : (c : Cluster) (M : Memberships) (n : ℕ) (told : Delivered) (disk : NodeRecord) (x : UpNode) → Holds (setting_of c) M → Known M told → NodeTied c M n disk (Up x) → At c M n told disk x
up_at c M n told disk x holds known tied = record { holds = holds; known = known; tied = tied }

none_low : (a e : ℕ) → 0 < e → e ≡ 0 → ⊥
none_low a e some is = omega (arith, some, is)

fresh_said : (L : Tale) (c : Cluster) (n : ℕ) (disk : NodeRecord) → NodeSaid L (effect c n (site Down disk) Comes_up).node
fresh_said L c n disk = record { kept = λ e d r tells some at ne. absurd (none_low 0 e some at); single = λ ne. tt }

pub doing_said : (L : Tale) (c : Cluster) (M : Memberships) (n : ℕ) (told : Delivered) (node : Node) (disk : NodeRecord) (d : Doing) → Holds (setting_of c) M → Known M told → NodeTied c M n disk node
    → May c n told (site node disk) d → DoingTells told c n node d → SiteSaid L (M.node n).promised (inst M) node
    → SiteSaid (Or L n (gives c n (site node disk) d)) (M.node n).promised (inst M) (effect c n (site node disk) d).node
doing_said L c M n told (Up x) disk (Does a) holds known tied may tells so = act_one L c M n told disk x a (up_at c M n told disk x holds known tied) may tells so
doing_said L c M n told Down disk (Does a) holds known tied may tells so = absurd may
doing_said L c M n told (Up x) disk (Saves ch) holds known tied may tells so =
    let at : At c M n told disk x = up_at c M n told disk x holds known tied in
    let st : Stands M n x = stands c M n told disk x at in
    silent_said L n (first_lines n ch ++ saved_lines c n x ch) (M.node n).promised (inst M) (Up (changed c n x ch)) (saved_silent c n x ch)
    (said_to L (M.node n).promised (inst M) (Up x) (Up (changed c n x ch))
    (λ k. change_said L c M n told disk x ch at may (λ e e' r tale some. subst (λ p. e ≤ p) st.promised (so.low e e' r tale some)) k) so)
doing_said L c M n told Down disk (Saves ch) holds known tied may tells so = absurd may
doing_said L c M n told (Up x) disk (Loses ch why) holds known tied may tells so =
    down_one L n (first_lines n ch ++ gone_line n why) (M.node n).promised (inst M) (Up x) (lost_silent n ch why) so
doing_said L c M n told Down disk (Loses ch why) holds known tied may tells so = absurd may
doing_said L c M n told (Up x) disk (Forgets ch why) holds known tied may tells so =
    down_one L n (first_lines n ch ++ gone_line n why) (M.node n).promised (inst M) (Up x) (lost_silent n ch why) so
doing_said L c M n told Down disk (Forgets ch why) holds known tied may tells so = absurd may
doing_said L c M n told Down disk Comes_up holds known tied may tells so =
    silent_said L n (gives c n (site Down disk) Comes_up) (M.node n).promised (inst M) (effect c n (site Down disk) Comes_up).node (tt, tt)
    (said_to L (M.node n).promised (inst M) Down (effect c n (site Down disk) Comes_up).node (λ k. fresh_said L c n disk) so)
doing_said L c M n told (Up x) disk Comes_up holds known tied may tells so = absurd may
doing_said L c M n told node disk (Goes_down why) holds known tied may tells so = down_one L n (gone_line n why) (M.node n).promised (inst M) node (tt, tt) so
