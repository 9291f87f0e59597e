-- How long the words of a command are.
use Rattle.std.specs.Prelude.{ℕ, ◌+◌, ◌*◌, ◌≡◌, ◌≤◌, ◌<◌, ◌^◌, ◌==◌, suc, Bool, true, false, List, [], ◌∷◌, length, filter, flat_map, decimal, if◌then◌else◌}
use Rattle.std.specs.List.{AllByRecursion}
use Rattle.std.proofs.Common.{length-append, arith}
use Rattle.std.proofs.lemmas.Fmt.{length-decimal-le}
use Rattle.ccr_tables.specs.declared.address.Weight.{Weight}
use Rattle.cl_base.specs.declared.header.Version.{Version}
use Rattle.cl_base.specs.declared.header.Version.TheVariants.{One, Two}
use Rattle.cl_base.specs.declared.method.Method.{Method}
use Rattle.cl_base.specs.declared.method.Method.TheVariants as method
use Rattle.std.specs.List.{onto_first}
use Rattle.rg_props.specs.Words.{parts_at}
use Rattle.rg_props.specs.Values.{most_of}
use Rattle.cl_base.specs.Methods.{has_method}
use Rattle.update_words.specs.Joined.{joined}
use Rattle.update_words.specs.Methods.{all_methods, listed, method_text, methods_text}
use Rattle.update_words.specs.Words.{nodes_text, weight_text, weights_text}
use Rattle.word_laws.specs.Spelled.{AreNodesOf, AreWeightsOf, IsNodeOf, IsWeightOf}

-- a word of a command
abbrev pub Fits : List ℕ → Type 0
Fits w = length w ≤ 4096

pub short_fits : (w : List ℕ) (k : ℕ) → length w ≤ k → k ≤ 4096 → Fits w
short_fits w k h few = omega (arith, h, few)

pub decimal_few : (n : ℕ) → n < 10 ^ 7 → length (decimal n) ≤ 7
decimal_few n h = length-decimal-le 7 n (omega arith) h (omega (arith, h))

-- ---- items with a byte between any two

times : (k n : ℕ) → (k + 1) * suc n ≡ (k + 1) + (k + 1) * n
times k n = omega arith

flat_few : {A : Type 0} (c k : ℕ) (spell : A → List ℕ) (xs : List A) → AllByRecursion (λ x. length (spell x) ≤ k) xs → length (flat_map (λ y. c ∷ spell y) xs) ≤ (k + 1) * length xs
flat_few c k spell [] h = none (k + 1)
  where
    none : (a : ℕ) → 0 ≤ a * 0
    none a = omega arith
flat_few c k spell (x ∷ xs) h =
    more (length (flat_map (λ y. c ∷ spell y) (x ∷ xs))) (length (spell x)) (length (flat_map (λ y. c ∷ spell y) xs)) ((k + 1) * length xs) ((k + 1) * suc (length xs)) (length-append (c ∷ spell x) (flat_map (λ y. c ∷ spell y) xs)) h.0
    (flat_few c k spell xs h.1) (times k (length xs))
  where
    more : (all a b rest most : ℕ) → all ≡ suc a + b → a ≤ k → b ≤ rest → most ≡ (k + 1) + rest → all ≤ most
    more all a b rest most is few h same = omega (arith, is, few, h, same)

pub joined_few : {A : Type 0} (c k : ℕ) (spell : A → List ℕ) (xs : List A) → AllByRecursion (λ x. length (spell x) ≤ k) xs → length (joined c spell xs) ≤ (k + 1) * length xs
joined_few c k spell [] h = none (k + 1)
  where
    none : (a : ℕ) → 0 ≤ a * 0
    none a = omega arith
joined_few c k spell (x ∷ xs) h =
    more (length (joined c spell (x ∷ xs))) (length (spell x)) (length (flat_map (λ y. c ∷ spell y) xs)) ((k + 1) * length xs) ((k + 1) * suc (length xs)) (length-append (spell x) (flat_map (λ y. c ∷ spell y) xs)) h.0
    (flat_few c k spell xs h.1) (times k (length xs))
  where
    more : (all a b rest most : ℕ) → all ≡ a + b → a ≤ k → b ≤ rest → most ≡ (k + 1) + rest → all ≤ most
    more all a b rest most is few h same = omega (arith, is, few, h, same)

-- ---- nodes, weights and methods

small_of : (v : Version) → most_of v ≤ 64
small_of One = omega arith
small_of Two = omega arith

node_small : (most n : ℕ) → n ≤ most → most ≤ 64 → n < 10 ^ 7
node_small most n h few = omega (arith, h, few)

pub node_few : (v : Version) (n : ℕ) → IsNodeOf v n → length (decimal n) ≤ 7
node_few v n h = decimal_few n (node_small (most_of v) n h.high (small_of v))

nodes_few : (v : Version) (ns : List ℕ) → AllByRecursion (IsNodeOf v) ns → AllByRecursion (λ n. length (decimal n) ≤ 7) ns
nodes_few v [] h = tt
nodes_few v (n ∷ ns) h = (node_few v n h.0, nodes_few v ns h.1)

items_fit : (all k n : ℕ) → all ≤ (7 + 1) * n → n ≤ 32 → all ≤ 4096
items_fit all k n h few = omega (arith, h, few)

pub nodes_fit : (v : Version) (ns : List ℕ) → AreNodesOf v ns → Fits (nodes_text ns)
nodes_fit v ns h = items_fit (length (nodes_text ns)) 7 (length ns) (joined_few 44 7 decimal ns (nodes_few v ns h.each)) h.few

weight_few : (v : Version) (w : Weight) → IsWeightOf v w → length (weight_text w) ≤ 15
weight_few v w h =
    both (length (weight_text w)) (length (decimal w.weight)) (length (decimal w.node)) (length-append (decimal w.weight) (64 ∷ decimal w.node)) (decimal_few w.weight (small w.weight h.weight)) (node_few v w.node h.node)
  where
    small : (n : ℕ) → n ≤ 1000 → n < 10 ^ 7
    small n few = omega (arith, few)

    both : (all a b : ℕ) → all ≡ a + suc b → a ≤ 7 → b ≤ 7 → all ≤ 15
    both all a b is h k = omega (arith, is, h, k)

weights_few : (v : Version) (ws : List Weight) → AllByRecursion (IsWeightOf v) ws → AllByRecursion (λ w. length (weight_text w) ≤ 15) ws
weights_few v [] h = tt
weights_few v (w ∷ ws) h = (weight_few v w h.0, weights_few v ws h.1)

pub weights_fit : (v : Version) (ws : List Weight) → AreWeightsOf v ws → Fits (weights_text ws)
weights_fit v ws h = fit (length (weights_text ws)) (length ws) (joined_few 44 15 weight_text ws (weights_few v ws h.each)) h.few
  where
    fit : (all n : ℕ) → all ≤ (15 + 1) * n → n ≤ 32 → all ≤ 4096
    fit all n h few = omega (arith, h, few)

method_few : (m : Method) → length (method_text m) ≤ 32
method_few method.PrenetStart = omega arith
method_few method.Start = omega arith
method_few method.MonitorStart = omega arith
method_few method.MonitorCheck = omega arith
method_few method.MonitorStop = omega arith
method_few method.Stop = omega arith
method_few method.PostnetStop = omega arith
method_few method.Validate = omega arith
method_few method.Init = omega arith
method_few method.Fini = omega arith
method_few method.Boot = omega arith
method_few method.Update = omega arith

all_few : (ms : List Method) → AllByRecursion (λ m. length (method_text m) ≤ 32) ms
all_few [] = tt
all_few (m ∷ ms) = (method_few m, all_few ms)

filter_few : (p : Method → Bool) (ms : List Method) → length (filter p ms) ≤ length ms
filter_few p [] = omega arith
filter_few p (m ∷ ms) = by_test (p m) (filter_few p ms)
  where
    next : (a b : ℕ) → a ≤ b → suc a ≤ suc b
    next a b h = omega (arith, h)

    more : (a b : ℕ) → a ≤ b → a ≤ suc b
    more a b h = omega (arith, h)

    by_test : (b : Bool) → length (filter p ms) ≤ length ms → length (if b then m ∷ filter p ms else filter p ms) ≤ suc (length ms)
    by_test true h = next (length (filter p ms)) (length ms) h
    by_test false h = more (length (filter p ms)) (length ms) h

pub methods_fit : (set : ℕ) → Fits (methods_text set)
unfolding listed
methods_fit set = fit (length (methods_text set)) (length (listed set)) (joined_few 44 32 method_text (listed set) (all_few (listed set))) (filter_few (has_method set) all_methods)
  where
    fit : (all n : ℕ) → all ≤ (32 + 1) * n → n ≤ 12 → all ≤ 4096
    fit all n h few = omega (arith, h, few)

-- ---- the words of a line

abbrev AllUnder : ℕ → List (List ℕ) → Type 0
AllUnder k ws = AllByRecursion (λ w. length w ≤ k) ws

under_more : (k : ℕ) (ws : List (List ℕ)) → AllUnder k ws → AllUnder (suc k) ws
under_more k [] h = tt
under_more k (w ∷ ws) h = (more (length w) k h.0, under_more k ws h.1)
  where
    more : (a b : ℕ) → a ≤ b → a ≤ suc b
    more a b h = omega (arith, h)

onto_under : (b k : ℕ) (ws : List (List ℕ)) → AllUnder k ws → AllUnder (suc k) (onto_first b ws)
onto_under b k [] h = (one k, tt)
  where
    one : (k : ℕ) → 1 ≤ suc k
    one k = omega arith
onto_under b k (w ∷ ws) h = (next (length w) k h.0, under_more k ws h.1)
  where
    next : (a b : ℕ) → a ≤ b → suc a ≤ suc b
    next a b h = omega (arith, h)

parts_under : (c : ℕ) (bytes : List ℕ) → AllUnder (length bytes) (parts_at c bytes)
parts_under c [] = (omega arith, tt)
parts_under c (b ∷ bytes) = by_test (b == c) (parts_under c bytes)
  where
    none : (k : ℕ) → 0 ≤ k
    none k = omega arith

    by_test : (t : Bool) → AllUnder (length bytes) (parts_at c bytes) → AllUnder (suc (length bytes)) (if t then [] ∷ parts_at c bytes else onto_first b (parts_at c bytes))
    by_test true h = (none (suc (length bytes)), under_more (length bytes) (parts_at c bytes) h)
    by_test false h = onto_under b (length bytes) (parts_at c bytes) h

all_fit : (k : ℕ) (ws : List (List ℕ)) → k ≤ 4096 → AllUnder k ws → AllByRecursion Fits ws
all_fit k [] few h = tt
all_fit k (w ∷ ws) few h = (short_fits w k h.0 few, all_fit k ws few h.1)

pub parts_fit : (c : ℕ) (bytes : List ℕ) → length bytes ≤ 4096 → AllByRecursion Fits (parts_at c bytes)
parts_fit c bytes few = all_fit (length bytes) (parts_at c bytes) few (parts_under c bytes)
