-- An Install is foreign for its readings, or for its list of updates.
use Rattle.std.proofs.Common.{◌≡◌, ℕ, ◌||◌, not, Bool, true, false, refl, ◌∙◌}
use Rattle.std.specs.List.{list_all}
use Rattle.cl_base.specs.Sets.{has}
use Rattle.wire.specs.declared.message.Install.{Install}
use Rattle.node_model.specs.declared.cluster.Cluster.{Cluster}
use Rattle.node_model.specs.Members.{is_bad_log, is_foreign_install, is_known_reading, is_strange}

or_true : (b : Bool) → (b || true) ≡ true
or_true true = refl
or_true false = refl

or_false : (b : Bool) → (b || false) ≡ b
or_false true = refl
or_false false = refl

pub with_strange_reading : (c : Cluster) (me : ℕ) (i : Install) → list_all (is_known_reading c) i.readings ≡ false → true ≡ is_foreign_install c me i
with_strange_reading c me i h = rw h (rw (or_true (not (has i.members me) || is_strange c i.members || is_bad_log c i.committed i.pending)) refl)

pub with_known_readings : (c : Cluster) (me : ℕ) (i : Install) (bad : Bool) → has i.members me ≡ true → is_strange c i.members ≡ false → list_all (is_known_reading c) i.readings ≡ true
    → bad ≡ is_bad_log c i.committed i.pending → bad ≡ is_foreign_install c me i
with_known_readings c me i bad member known readings same =
    same ∙ (rw (member, known, readings) (rw (or_false (is_bad_log c i.committed i.pending)) refl))
