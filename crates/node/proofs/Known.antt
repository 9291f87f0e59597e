-- A message that is not foreign names nobody who is not there, and orders nothing for what is no name.
use Rattle.std.proofs.Common.{◌≡◌, ℕ, Bool, not, true, false, refl}
use Rattle.wire.specs.declared.message.Body.{Body}
use Rattle.wire.specs.declared.message.Body.TheVariants as body
use Rattle.node_model.specs.declared.cluster.Cluster.{Cluster}
use Rattle.node_model.specs.declared.node.UpNode.{UpNode}
use Rattle.node_model.specs.Members.{is_foreign}
use Rattle.node_groups.specs.Carrying.{names}
use Rattle.node_members.specs.Strangers.{names_strangers}
use Rattle.node.specs.Updates.{orders_name}

is_true : (b : Bool) → not b ≡ false → b ≡ true
is_true true h = refl
is_true false h = absurd (cc)

pub known : (c : Cluster) (me : ℕ) (x : UpNode) (b : Body) → is_foreign c me x b ≡ false → names_strangers c me b ≡ false
known c me x (body.Heartbeat promised session member) h = refl
known c me x (body.Collect e members) h = h
known c me x (body.Promise e installed members valid flagged committed pending) h = refl
known c me x (body.Nack e promised) h = refl
known c me x (body.SeizeQuorum e members d) h = h
known c me x (body.SeizeData e members d) h = h
known c me x (body.Seized e d outcome) h = h
known c me x (body.Install i) h = refl
known c me x (body.Ready e joined report) h = h
known c me x (body.Start e) h = refl
known c me x (body.Prepare e place text) h = refl
known c me x (body.Prepared e place) h = refl
known c me x (body.Commit e place) h = refl
known c me x (body.Order o) h = refl
known c me x (body.Done e number outcome) h = refl
known c me x (body.Request e number text) h = refl
known c me x (body.Answer e number text) h = refl
known c me x (body.Excluded e newest) h = refl

pub named : (c : Cluster) (me : ℕ) (x : UpNode) (b : Body) → is_foreign c me x b ≡ false → orders_name b ≡ true
named c me x (body.Heartbeat promised session member) h = refl
named c me x (body.Collect e members) h = refl
named c me x (body.Promise e installed members valid flagged committed pending) h = refl
named c me x (body.Nack e promised) h = refl
named c me x (body.SeizeQuorum e members d) h = refl
named c me x (body.SeizeData e members d) h = refl
named c me x (body.Seized e d outcome) h = refl
named c me x (body.Install i) h = refl
named c me x (body.Ready e joined report) h = refl
named c me x (body.Start e) h = refl
named c me x (body.Prepare e place text) h = refl
named c me x (body.Prepared e place) h = refl
named c me x (body.Commit e place) h = refl
named c me x (body.Order o) h = is_true (names o.resource) h
named c me x (body.Done e number outcome) h = refl
named c me x (body.Request e number text) h = refl
named c me x (body.Answer e number text) h = refl
named c me x (body.Excluded e newest) h = refl
