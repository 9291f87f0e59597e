-- What messages that are so bring to a node.
use Rattle.std.specs.Prelude.{ℕ, ◌≡◌, ◌≤◌, ◌<◌, ◌^◌, ◌||◌, not, is_some, Bool, true, false, Option}
use Rattle.std.proofs.Common.{refl, sym, ap}
use Rattle.cl_base.specs.Sets.{has}
use Rattle.answer_words.proofs.Operands.{name_known}
use Rattle.cl_base.specs.declared.header.Header.{Header}
use Rattle.cmm_attempt.proofs.Basics.{false_true}
use Rattle.node_model.specs.Members.{is_foreign_seizing, is_strange}
use Rattle.node_model.specs.declared.node.Node.{Node}
use Rattle.node_model.specs.declared.node.Node.TheVariants.{Down, Up}
use Rattle.refinement.specs.node_widths.Widths.{BodyFits}
use Rattle.wire.specs.declared.message.Body.{Body}
use Rattle.wire.specs.declared.message.Body.TheVariants as body
use Rattle.world_model.specs.First.{first_cluster}
use Rattle.run_packets.specs.native.Laws.{BringsNoBadLog, IsNative, IsSeizeNative, NamesNoStranger}
use Rattle.run_packets.specs.native.Named.{BodyNamed, BodyTo, InNodes}
use Rattle.run_packets.proofs.native.Sets.{first_small, within}

no_stranger : (h : Header) (members : ℕ) → h.nodes ≤ 32 → members < 2 ^ 32 → InNodes (first_cluster h) members → is_strange (first_cluster h) members ≡ false
no_stranger h members few small are = ap not (within members (first_cluster h).nodes small (first_small h.nodes few) are)

pub kind_native : (h : Header) (n : ℕ) (node : Node) (b : Body) → h.nodes ≤ 32 → BodyFits b → BodyNamed (first_cluster h) b → BodyTo (first_cluster h) n b → IsNative (first_cluster h) n node b
kind_native h n Down b few fits named goes is = refl
kind_native h n (Up x) (body.Heartbeat promised session member) few fits named goes is = refl
kind_native h n (Up x) (body.Collect e members) few fits named goes is = no_stranger h members few fits.1 named
kind_native h n (Up x) (body.Nack e promised) few fits named goes is = refl
kind_native h n (Up x) (body.Start e) few fits named goes is = refl
kind_native h n (Up x) (body.Prepared e place) few fits named goes is = refl
kind_native h n (Up x) (body.Commit e place) few fits named goes is = refl
kind_native h n (Up x) (body.Order o) few fits named goes is = ap (λ (w : Option _). not (is_some w)) (name_known o.resource fits.2)
kind_native h n (Up x) (body.Done e number outcome) few fits named goes is = refl
kind_native h n (Up x) (body.Excluded e newest) few fits named goes is = refl
kind_native h n (Up x) (body.Promise e installed members valid flagged committed pending) few fits named goes is = absurd (false_true is)
kind_native h n (Up x) (body.SeizeQuorum e members d) few fits named goes is = absurd (false_true is)
kind_native h n (Up x) (body.SeizeData e members d) few fits named goes is = absurd (false_true is)
kind_native h n (Up x) (body.Seized e d outcome) few fits named goes is = absurd (false_true is)
kind_native h n (Up x) (body.Install i) few fits named goes is = absurd (false_true is)
kind_native h n (Up x) (body.Ready e joined report) few fits named goes is = absurd (false_true is)
kind_native h n (Up x) (body.Prepare e place text) few fits named goes is = absurd (false_true is)
kind_native h n (Up x) (body.Request e number text) few fits named goes is = absurd (false_true is)
kind_native h n (Up x) (body.Answer e number text) few fits named goes is = absurd (false_true is)

pub names_none : (h : Header) (n : ℕ) (node : Node) (b : Body) → h.nodes ≤ 32 → BodyFits b → BodyNamed (first_cluster h) b → BodyTo (first_cluster h) n b → NamesNoStranger (first_cluster h) n node b
names_none h n node (body.Collect e members) few fits named goes = no_stranger h members few fits.1 named
names_none h n node (body.Promise e installed members valid flagged committed pending) few fits named goes = no_stranger h members few fits.2 named.0
names_none h n node (body.SeizeQuorum e members d) few fits named goes = no_stranger h members few fits.1 named
names_none h n node (body.SeizeData e members d) few fits named goes = no_stranger h members few fits.1 named
names_none h n node (body.Install i) few fits named goes = no_stranger h i.members few fits.1 named.0
names_none h n node _ few fits named goes = tt

pub brings_none : (h : Header) (n : ℕ) (node : Node) (b : Body) → h.nodes ≤ 32 → BodyFits b → BodyNamed (first_cluster h) b → BodyTo (first_cluster h) n b → BringsNoBadLog (first_cluster h) n node b
brings_none h n node (body.Promise e installed members valid flagged committed pending) few fits named goes = ap not named.1
brings_none h n node (body.Install i) few fits named goes = ap not named.1
brings_none h n node _ few fits named goes = tt

three : (a b d : Bool) → a ≡ true → b ≡ false → d ≡ true → (not a || b || not d) ≡ false
three true false true h k l = refl
three false b d h k l = absurd (false_true h)
three true true d h k l = absurd (false_true (sym k))
three true false false h k l = absurd (false_true l)

seizing_native : (h : Header) (n members d : ℕ) → h.nodes ≤ 32 → members < 2 ^ 32 → InNodes (first_cluster h) members → has members n ≡ true → has (first_cluster h).devices d ≡ true
    → is_foreign_seizing (first_cluster h) n members d ≡ false
seizing_native h n members d few small are member known =
    three (has members n) (is_strange (first_cluster h) members) (has (first_cluster h).devices d) member (no_stranger h members few small are) known

pub seize_native : (h : Header) (n : ℕ) (node : Node) (b : Body) → h.nodes ≤ 32 → BodyFits b → BodyNamed (first_cluster h) b → BodyTo (first_cluster h) n b → IsSeizeNative (first_cluster h) n node b
seize_native h n Down b few fits named goes is = refl
seize_native h n (Up x) (body.SeizeQuorum e members d) few fits named goes is = seizing_native h n members d few fits.1 named goes.0 goes.1
seize_native h n (Up x) (body.SeizeData e members d) few fits named goes is = seizing_native h n members d few fits.1 named goes.0 goes.1
seize_native h n (Up x) _ few fits named goes is = absurd (false_true is)
