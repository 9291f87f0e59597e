-- What is known of records in each scene that a run comes to.
use Rattle.std.specs.Prelude.{ℕ}
use Rattle.std.proofs.Common.{subst}
use Rattle.cl_base.specs.declared.header.Header.{Header}
use Rattle.run_history.specs.Scenes.{Scene}
use Rattle.run_messages.proofs.Reaching.{IsReached, IsSmall}
use Rattle.run_messages.proofs.records.Runs.{run_known}
use Rattle.run_messages.specs.records.Kept.{KnownScene}
use Rattle.world_model.specs.First.{first_cluster}

pub known_scene : (h : Header) (cells : ℕ) (s : Scene) → IsSmall h → IsReached h cells s → KnownScene (first_cluster h) s
known_scene h cells s size r = subst (KnownScene (first_cluster h)) r.is (run_known h cells r.happenings size.few size.small r.may)
