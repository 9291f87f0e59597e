use Rattle.std.proofs.Common.{◌≡◌, ℕ, ◌≤◌, length, List, ◌++◌, take, drop, replicate, refl, arith, length-append, length-drop, ◌∙◌, subst, sym, ap}
use Rattle.std.proofs.lemmas.List.{drop-replicate}
use Rattle.std.proofs.Math.Seq.{drop-append_seam, take-append_seam}
use Rattle.cl_base.specs.Names.{IsName}
use Rattle.cl_base.specs.Padded.{IsPadded}
use Rattle.cl_base.proofs.name.Name.new.Goals as goal

padded_behind : (bytes zeros : List ℕ) → length bytes ≤ 32 → zeros ≡ replicate 32 0 → IsPadded (bytes ++ drop (length bytes) zeros) (length bytes)
padded_behind bytes zeros most are = record {
  whole = omega (arith, length-append bytes (drop (length bytes) zeros), length-drop (length bytes) zeros, ap length are);
  most = most;
  zeros = drop-append_seam bytes (drop (length bytes) zeros) ∙ rw are (drop-replicate (length bytes) 32 0);
}

padded : (bytes places : List ℕ) → bytes ≡ places → length places ≤ 32 → IsPadded (bytes ++ drop (length places) (replicate 32 0)) (length places)
padded bytes places same most = subst (λ (xs : List ℕ). IsPadded (xs ++ drop (length places) (replicate 32 0)) (length places)) (sym same) (padded_behind places (replicate 32 0) most refl)

named : (bytes places : List ℕ) → bytes ≡ places → IsName places → IsName (take (length places) (bytes ++ drop (length places) (replicate 32 0)))
named bytes places same name =
    subst (λ (xs : List ℕ). IsName (take (length places) (xs ++ drop (length places) (replicate 32 0)))) (sym same)
    (rw (take-append_seam places (drop (length places) (replicate 32 0))) name)

pub invariant_of-result : goal.invariant_of-result
invariant_of-result c =
    let name : IsName c.args.bytes.now = c.is_name.ensures.0 c.if-not-is_name.false in
    (padded c.copy_from_slice.new.self c.args.bytes.now c.copy_from_slice.ensures.after name.1, named c.copy_from_slice.new.self c.args.bytes.now c.copy_from_slice.ensures.after name)
