-- What the setting calls an update the nodes read as one, wherever a request is read.
use Rattle.std.specs.Prelude.{ℕ, ◌≡◌, true, List, Ok}
use Rattle.admin_words.specs.Commands.{request_of}
use Rattle.admin_words.specs.declared.request.Request.TheVariants as wish
use Rattle.ccr_tables.specs.declared.update.Update.{Update}
use Rattle.cl_base.specs.declared.header.Header.{Header}
use Rattle.history.specs.Setting.{Setting}
use Rattle.history_setting.specs.Settings.{setting_of}
use Rattle.node_model.specs.Seats.{version_of}
use Rattle.node_model.specs.declared.cluster.Cluster.{Cluster}
use Rattle.world_model.specs.First.{first_cluster}
use Rattle.run_commands.proofs.acknowledged.OwnReads.{is_update_read}

pub record IsUpdate (c : Cluster) (words : List ℕ) : Type 0 where
  pub update : Update
  pub read : request_of (version_of c) words ≡ Ok (wish.Change update)

abbrev pub UpdatesAreRead : Cluster → Setting → Type 0
UpdatesAreRead c S = (words : List ℕ) → S.is_update words ≡ true → IsUpdate c words

pub updates_are_read : (h : Header) → UpdatesAreRead (first_cluster h) (setting_of h)
updates_are_read h words so = record { update = (is_update_read h words so).0; read = (is_update_read h words so).1 }
