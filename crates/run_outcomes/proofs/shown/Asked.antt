-- Who is asked to seize a quorum device, and has not installed the session of that attempt, holds it valid.
use Rattle.std.specs.Prelude.{ℕ, ◌%◌, ◌≡◌, ◌<◌, ◌⊎◌, true, List, [], ◌∷◌, Some}
use Rattle.std.specs.List.{AllByRecursion}
use Rattle.std.proofs.Common.{sym, ap, subst, ◌∙◌, inl, inr}
use Rattle.cl_base.specs.Sets.{has}
use Rattle.cmm_member.specs.Records.{NodeRecord}
use Rattle.interconnect.specs.Links.{Packet}
use Rattle.node_model.specs.Seats.{record_of, session_of}
use Rattle.node_model.specs.declared.node.Node.{Node}
use Rattle.node_model.specs.declared.node.Node.TheVariants.{Down, Up}
use Rattle.refinement.specs.Runs.{Letter, Nodes}
use Rattle.run_history.specs.Happenings.{all_happened}
use Rattle.run_history.specs.Scenes.{Scene, first_scene}
use Rattle.wire.specs.Reads.{whole_of}
use Rattle.wire.specs.declared.message.Body.{Body}
use Rattle.wire.specs.declared.message.Body.TheVariants as body
use Rattle.wire.specs.declared.message.Message.{Message}
use Rattle.world_model.specs.First.{first_cluster}
use Rattle.run_outcomes.specs.tasks.Laws.{AskedMaySeize, MaySeize, seizes_plainly}
use Rattle.run_outcomes.specs.tasks.Shown.{AskSo, AsksData, FollowsSo, HasShown, IsApart, PacketSo, SceneSo, UpIn}
use Rattle.run_outcomes.proofs.shown.Steps.{run_so}

may_seize : (L : List Letter) (n : ℕ) (disk : NodeRecord) (node : Node) (b : Body) → IsApart L → UpIn L n disk node → AskSo L n b → MaySeize node b
may_seize L n disk (Up x) (body.SeizeQuorum e members d) apart up asks = λ session fresh.
    let so : FollowsSo L n x =
    up.1.follows (record { some = subst (λ q. 0 < q) (sym session) asks.1; other = λ own. asks.2 (ap (λ q. q % 64) (sym session) ∙ own); fresh = fresh }) in
    by_side session so (so.held asks.4.valid d asks.0 (subst (λ q. HasShown L n q asks.4.valid) (sym session) asks.4.shown) asks.4.has_it)
  where
    by_side : session_of x ≡ e → FollowsSo L n x → (has (record_of x).valid d ≡ true) ⊎ (seizes_plainly d x.tasks ≡ true) → has (record_of x).valid d ≡ true
    by_side session so (inl z) = z
    by_side session so (inr z) = absurd (apart e d (subst (λ q. AsksData L q d) session (so.plain d z)) asks.3)
may_seize L n disk Down b apart up asks = tt
may_seize L n disk (Up x) _ apart up asks = tt

all_seize : (v : Nodes) (ps : List Packet) → IsApart v.sent → ((n : ℕ) → UpIn v.sent n (v.disk n).kept (v.node n)) → AllByRecursion (PacketSo v.sent) ps
    → AllByRecursion (λ (p : Packet). (m : Message) → whole_of p.bytes ≡ Some m → MaySeize (v.node p.to) m.body) ps
all_seize v [] apart ups k = tt
all_seize v (p ∷ ps) apart ups k = ((λ m is. may_seize v.sent p.to (v.disk p.to).kept (v.node p.to) m.body apart (ups p.to) (k.0 m is)), all_seize v ps apart ups k.1)

pub asked_may_seize : AskedMaySeize
asked_may_seize h cells hs last few small disks may shaped native =
    let s : Scene = all_happened (first_cluster h) (first_scene h cells) hs in
    let k : SceneSo s = run_so h cells hs (record { few = few; small = small }) may in
    all_seize s.nodes s.links.packets k.apart (λ n. (k.sites n).up) k.packets
