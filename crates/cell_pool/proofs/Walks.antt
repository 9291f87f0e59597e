use Rattle.std.proofs.Common.{◌≡◌, ℕ, suc, zero, ◌+◌, ◌-◌, ◌<◌, ◌≤◌, ◌++◌, ◌≢◌, List, [], ◌∷◌, get_or, refl, arith}
use Rattle.std.proofs.lemmas.Bool.Decides.{nat_tests}
use Rattle.cell_pool.specs.Region.{walk, after, times}

-- a walk of one cell and more is its first cell with the walk from the next
pub walk_step : (links : List ℕ) (c n : ℕ) → 0 < n → walk links c n ≡ c ∷ walk links (get_or links c 0) (n - 1)
walk_step links c zero h = absurd (omega arith)
walk_step links c (suc n) h = let e : suc n - 1 ≡ n = omega arith in rw e refl

pub after_step : (links : List ℕ) (c n : ℕ) → 0 < n → after links c n ≡ after links (get_or links c 0) (n - 1)
after_step links c zero h = absurd (omega arith)
after_step links c (suc n) h = let e : suc n - 1 ≡ n = omega arith in rw e refl

-- a cell at the head is there once at least
pub times_here : (c : ℕ) (rest : List ℕ) → times c (c ∷ rest) ≡ 1 + times c rest
times_here c rest = grind (arith, nat_tests)

pub times_there : (c x : ℕ) (rest : List ℕ) → times c rest ≤ times c (x ∷ rest)
times_there c x rest = grind (arith, nat_tests)

pub times_other : (c x : ℕ) (rest : List ℕ) → x ≢ c → times c (x ∷ rest) ≡ times c rest
times_other c x rest h = grind (arith, nat_tests)

pub times_most : (c x : ℕ) (rest : List ℕ) → times c (x ∷ rest) ≤ 1 + times c rest
times_most c x rest = grind (arith, nat_tests)

pub times-append : (c : ℕ) (xs ys : List ℕ) → times c (xs ++ ys) ≡ times c xs + times c ys
times-append c [] ys = omega arith
times-append c (x ∷ xs) ys = omega (arith, times-append c xs ys)

pub first_inside : (links : List ℕ) (b c n : ℕ) → 0 < n → ((x : ℕ) → 0 < times x (walk links c n) → x < b) → c < b
first_inside links b c n some inside = inside c (rw (walk_step links c n some) (omega (arith, times_here c (walk links (get_or links c 0) (n - 1)))))

pub rest_inside : (links : List ℕ) (b c n : ℕ) → 0 < n → ((x : ℕ) → 0 < times x (walk links c n) → x < b)
    → (x : ℕ) → 0 < times x (walk links (get_or links c 0) (n - 1)) → x < b
rest_inside links b c n some inside x h =
    inside x (rw (walk_step links c n some) (omega (arith, times_there x c (walk links (get_or links c 0) (n - 1)))))

-- the walk of one cell more than is left: its second cell, and what follows
pub later_inside : (links : List ℕ) (b c n : ℕ) → 0 < n → ((x : ℕ) → 0 < times x (walk links c (n + 1)) → x < b)
    → (x : ℕ) → 0 < times x (walk links (get_or links c 0) (n - 1 + 1)) → x < b
later_inside links b c n some inside x h =
    let e : n + 1 - 1 ≡ n - 1 + 1 = omega arith in
    rest_inside links b c (n + 1) (omega arith) inside x (rw e h)

pub next_inside : (links : List ℕ) (b c n : ℕ) → 0 < n → ((x : ℕ) → 0 < times x (walk links c (n + 1)) → x < b)
    → get_or links c 0 < b
next_inside links b c n some inside =
    first_inside links b (get_or links c 0) (n - 1 + 1) (omega arith) (later_inside links b c n some inside)

pub here_inside : (links : List ℕ) (b c n : ℕ) → 0 < n → ((x : ℕ) → 0 < times x (walk links c n) → x < b)
    → 0 < n - 1 → get_or links c 0 < b
here_inside links b c n some inside more =
    first_inside links b (get_or links c 0) (n - 1) more (rest_inside links b c n some inside)
