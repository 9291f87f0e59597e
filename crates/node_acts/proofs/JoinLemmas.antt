-- The joinings after one more reading.
use Rattle.std.proofs.Common.{◌≡◌, ℕ, ◌+◌, ◌<◌, List, [], ◌∷◌, ◌++◌, length, take, get_or, refl, ap, sym, ◌∙◌}
use Rattle.std.proofs.lemmas.List.{take_more}
use Rattle.device_queue.specs.declared.task.Task.{Task}
use Rattle.wire.specs.declared.lists.Reading.{Reading}
use Rattle.node_model.specs.declared.cluster.Cluster.{Cluster}
use Rattle.node_model.specs.Attempts.{joining_from, joining_with}

joining-push : (c : Cluster) (me e joined : ℕ) (tasks : List Task) (rs : List Reading) (r : Reading) → joining_from c me e joined tasks (rs ++ r ∷ []) ≡ joining_with c me e joined (joining_from c me e joined tasks rs) r
joining-push c me e joined tasks [] r = refl
joining-push c me e joined tasks (first ∷ rs) r = joining-push c me e joined (joining_with c me e joined tasks first) rs r

pub joining-more : (c : Cluster) (me e joined : ℕ) (tasks : List Task) (rs : List Reading) (i : ℕ) (r : Reading) → i < length rs → r ≡ get_or rs i r → joining_from c me e joined tasks (take (i + 1) rs) ≡ joining_with c me e joined (joining_from c me e joined tasks (take i rs)) r
joining-more c me e joined tasks rs i r low here =
    rw (take_more rs i r low) (joining-push c me e joined tasks (take i rs) (get_or rs i r) ∙ ap (joining_with c me e joined (joining_from c me e joined tasks (take i rs))) (sym here))
