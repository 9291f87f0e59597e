-- The own key among those of a cluster's nodes.
use Rattle.std.proofs.Common.{◌≡◌, ℕ, ◌+◌, ◌*◌, ◌^◌, ◌%◌, ◌≤◌, ◌==◌, ◌||◌, List, [], ◌∷◌, refl, ap, sym, subst, ◌∙◌, arith}
use Rattle.std.specs.List.{list_any, AllByRecursion}
use Rattle.std.proofs.lemmas.Bool.Decides.{nat_tests}
use Rattle.cl_base.specs.Keys.{key_of}
use Rattle.cmm_member.specs.Nodes.{IsKeyOf, has_key_of}

lower_half : (cluster node : ℕ) → node ≤ 32 → (cluster * 2 ^ 32 + node) % 2 ^ 32 ≡ node
lower_half cluster node most = omega arith

same_test : (base n m : ℕ) → (n == m) ≡ (base + n == base + m)
same_test base n m = grind (arith, nat_tests)

one_key : (cluster me key : ℕ) → IsKeyOf cluster key → (key % 2 ^ 32 == me) ≡ (key == key_of cluster me)
one_key cluster me key is =
    ap (λ k. k % 2 ^ 32 == me) is.is ∙ ap (λ n. n == me) (lower_half cluster is.node is.most) ∙ same_test (cluster * 2 ^ 32) is.node me ∙ ap (λ k. k == key_of cluster me) (sym is.is)

pub own_key : (cluster me : ℕ) (keys : List ℕ) → me ≤ 32 → AllByRecursion (IsKeyOf cluster) keys → has_key_of me keys ≡ list_any (λ key. key == key_of cluster me) keys
own_key cluster me [] most all = refl
own_key cluster me (key ∷ keys) most all = rw (one_key cluster me key all.0, own_key cluster me keys most all.1) refl
