use Rattle.std.proofs.Common.{◌≡◌, ℕ, ◌≤◌, length, List, ◌++◌, drop, replicate, refl, arith, length-append, length-drop, ◌∙◌, subst, sym, ap}
use Rattle.std.proofs.lemmas.List.{drop-replicate}
use Rattle.std.proofs.Math.Seq.{drop-append_seam}
use Rattle.cl_base.specs.Padded.{IsPadded}
use Rattle.pgr_device.proofs.key_list.KeyList.new.Goals as goal

padded_behind : (keys zeros : List ℕ) → length keys ≤ 32 → zeros ≡ replicate 32 0 → IsPadded (keys ++ drop (length keys) zeros) (length keys)
padded_behind keys zeros most are = record {
  whole = omega (arith, length-append keys (drop (length keys) zeros), length-drop (length keys) zeros, ap length are);
  most = most;
  zeros = drop-append_seam keys (drop (length keys) zeros) ∙ rw are (drop-replicate (length keys) 32 0);
}

padded : (keys places : List ℕ) → keys ≡ places → length places ≤ 32 → IsPadded (keys ++ drop (length places) (replicate 32 0)) (length places)
padded keys places same most = subst (λ (xs : List ℕ). IsPadded (xs ++ drop (length places) (replicate 32 0)) (length places)) (sym same) (padded_behind places (replicate 32 0) most refl)

pub invariant_of-result : goal.invariant_of-result
invariant_of-result c = padded c.copy_from_slice.new.self c.args.keys.now c.copy_from_slice.ensures.after c.requires
