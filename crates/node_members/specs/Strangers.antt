-- Messages without texts that are foreign: they name nodes or devices that are not there.
use Rattle.std.specs.Prelude.{ℕ, ◌||◌, not, Bool, false}
use Rattle.cl_base.specs.Sets.{has}
use Rattle.wire.specs.declared.message.Body.{Body}
use Rattle.wire.specs.declared.message.Body.TheVariants as body
use Rattle.node_model.specs.declared.cluster.Cluster.{Cluster}
use Rattle.node_model.specs.Members.{are_devices, has_many_keys, is_foreign_seizing, is_strange}

abbrev pub names_strangers : Cluster → ℕ → Body → Bool
names_strangers c me (body.Collect e members) = is_strange c members
names_strangers c me (body.SeizeQuorum e members d) = is_foreign_seizing c me members d
names_strangers c me (body.SeizeData e members d) = is_foreign_seizing c me members d
names_strangers c me (body.Seized e d outcome) = not (has c.devices d) || has_many_keys outcome
names_strangers c me (body.Ready e joined report) = not (are_devices c joined)
names_strangers c me _ = false
