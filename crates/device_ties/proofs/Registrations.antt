-- A list of registrations by own keys, read by node: what a reading shows, and what each change of the list leaves.
use Rattle.std.proofs.Common.{◌≡◌, ℕ, ◌≤◌, ◌==◌, ◌⊎◌, inl, inr, Bool, true, false, not, ◌&&◌, ◌||◌, List, [], ◌∷◌, ◌++◌, map, Some, None, refl, sym, ap, subst, ◌∙◌, arith}
use Rattle.std.proofs.lemmas.Bool.{cond_both, eqb-true, eqb-false, eq-eqb, ne_eqb, cases_Bool, cases_eq, or_parts, or_from}
use Rattle.std.proofs.lemmas.Bool.Decides.{nat_tests}
use Rattle.pgr_device.specs.declared.registration.Registration.{Registration}
use Rattle.pgr_device.specs.Registered.{registered_key, is_registered, has_key, keys_of, rekeyed, without_key}
use Rattle.pgr_device.specs.Spc.{shows_key}
use Rattle.cl_base.specs.Keys.{key_of}
use Rattle.seize.specs.Keys as seize
use Rattle.device_ties.specs.Devices.{OwnKeys}

-- two nodes' keys are the same where the nodes are
pub same_key : (cluster a b : ℕ) → (key_of cluster a == key_of cluster b) ≡ (a == b)
same_key cluster a b = go (cases_eq a b)
  where
    go : (a ≡ b) ⊎ (a ≡ b → ⊥) → (key_of cluster a == key_of cluster b) ≡ (a == b)
    go (inl e) = eq-eqb (key_of cluster a) (key_of cluster b) (ap (key_of cluster) e) ∙ sym (eq-eqb a b e)
    go (inr ne) = ne_eqb (key_of cluster a) (key_of cluster b) (λ e. ne (omega arith)) ∙ sym (ne_eqb a b ne)

-- a registration's key is that of node k where it is node k's
own_key : (cluster : ℕ) (r : Registration) (k : ℕ) → r.key ≡ key_of cluster r.node → (r.key == key_of cluster k) ≡ (r.node == k)
own_key cluster r k e = ap (λ x. x == key_of cluster k) e ∙ same_key cluster r.node k

-- The node of a key that is a node's.
pub node_of_key : (cluster k : ℕ) → seize.node_of cluster (key_of cluster k) ≡ k
node_of_key cluster k = omega arith

-- The keys read are those of the registered.
pub has_own : (cluster : ℕ) (rs : List Registration) (k : ℕ) → OwnKeys cluster rs → has_key rs (key_of cluster k) ≡ is_registered rs k
has_own cluster [] k own = refl
has_own cluster (r ∷ rs) k own = ap (λ b. b || has_key rs (key_of cluster k)) (own_key cluster r k own.2) ∙ ap (λ b. (r.node == k) || b) (has_own cluster rs k own.4)

pub reads_own : (cluster : ℕ) (rs : List Registration) (k : ℕ) → OwnKeys cluster rs → seize.has_key (key_of cluster k) (keys_of rs) ≡ is_registered rs k
reads_own cluster [] k own = refl
reads_own cluster (r ∷ rs) k own = ap (λ b. b || seize.has_key (key_of cluster k) (keys_of rs)) (own_key cluster r k own.2) ∙ ap (λ b. (r.node == k) || b) (reads_own cluster rs k own.4)

-- the key of node h is that of node k, where h is registered and is k
shows_at : (cluster h k : ℕ) (r : Registration) (rs : List Registration) → r.key ≡ key_of cluster r.node → (r.node ≡ h) → shows_key (Some r.key) (key_of cluster k) ≡ (h == k)
shows_at cluster h k r rs e same = own_key cluster r k e ∙ ap (λ n. n == k) same

pub shows_own : (cluster : ℕ) (rs : List Registration) (h k : ℕ) → OwnKeys cluster rs → shows_key (registered_key rs h) (key_of cluster k) ≡ (is_registered rs h && (h == k))
shows_own cluster [] h k own = refl
shows_own cluster (r ∷ rs) h k own = go (cases_Bool (r.node == h)) (shows_own cluster rs h k own.4)
  where
    go : ((r.node == h) ≡ true) ⊎ ((r.node == h) ≡ false) → shows_key (registered_key rs h) (key_of cluster k) ≡ (is_registered rs h && (h == k)) → shows_key (registered_key (r ∷ rs) h) (key_of cluster k) ≡ (is_registered (r ∷ rs) h && (h == k))
    go (inl here) later = rw here (shows_at cluster h k r rs own.2 (eqb-true r.node h here))
    go (inr other) later = rw other later

pub key_absent : (rs : List Registration) (n : ℕ) → registered_key rs n ≡ None → is_registered rs n ≡ false
key_absent [] n e = refl
key_absent (r ∷ rs) n e = go (cases_Bool (r.node == n)) (λ later. key_absent rs n later)
  where
    go : ((r.node == n) ≡ true) ⊎ ((r.node == n) ≡ false) → (registered_key rs n ≡ None → is_registered rs n ≡ false) → is_registered (r ∷ rs) n ≡ false
    go (inl here) later = let h : None ≡ Some r.key = sym (rw here at e) in absurd (cc)
    go (inr other) later = rw other (later (rw other at e))

pub key_there : (rs : List Registration) (n key : ℕ) → registered_key rs n ≡ Some key → is_registered rs n ≡ true
key_there [] n key e = absurd (cc)
key_there (r ∷ rs) n key e = go (cases_Bool (r.node == n)) (λ later. key_there rs n key later)
  where
    go : ((r.node == n) ≡ true) ⊎ ((r.node == n) ≡ false) → (registered_key rs n ≡ Some key → is_registered rs n ≡ true) → is_registered (r ∷ rs) n ≡ true
    go (inl here) later = rw here refl
    go (inr other) later = rw other (later (rw other at e))

-- An own key that is registered again changes nothing.
rekeyed_one : (cluster n : ℕ) (r : Registration) → r.key ≡ key_of cluster r.node → rekeyed n (key_of cluster n) r ≡ r
rekeyed_one cluster n r e = cond_both (r.node == n) (record { node = n; key = key_of cluster n }) r (λ x. x ≡ r) (λ same. again (eqb-true r.node n same)) (λ ne. refl)
  where
    again : r.node ≡ n → record { node = n; key = key_of cluster n } ≡ r
    again same = subst (λ m. record { node = m; key = key_of cluster m } ≡ r) same (ap (λ x. record { node = r.node; key = x }) (sym e))

pub registered_again : (cluster n : ℕ) (rs : List Registration) → OwnKeys cluster rs → map (rekeyed n (key_of cluster n)) rs ≡ rs
registered_again cluster n [] own = refl
registered_again cluster n (r ∷ rs) own = rw (rekeyed_one cluster n r own.2, registered_again cluster n rs own.4) refl

-- one registration more
abbrev pub added : ℕ → ℕ → List Registration → List Registration
added cluster n rs = rs ++ record { node = n; key = key_of cluster n } ∷ []

pub added_has : (cluster n : ℕ) (rs : List Registration) (k : ℕ) → is_registered (added cluster n rs) k ≡ (is_registered rs k || (n == k))
added_has cluster n [] k = grind arith
added_has cluster n (r ∷ rs) k = rw (added_has cluster n rs k) (grind arith)

pub added_own : (cluster n : ℕ) (rs : List Registration) → 1 ≤ n → n ≤ 32 → is_registered rs n ≡ false → OwnKeys cluster rs → OwnKeys cluster (added cluster n rs)
added_own cluster n [] low high none own = (low, high, refl, refl, tt)
added_own cluster n (r ∷ rs) low high none own = (own.0, own.1, own.2, apart, added_own cluster n rs low high parts.1 own.4)
  where
    parts : ((r.node == n) ≡ false) × (is_registered rs n ≡ false)
    parts = or_parts (r.node == n) (is_registered rs n) none

    apart : is_registered (added cluster n rs) r.node ≡ false
    apart = added_has cluster n rs r.node ∙ or_from (is_registered rs r.node) (n == r.node) own.3 (ne_eqb n r.node (λ e. eqb-false r.node n parts.0 (sym e)))

-- all but those of node t's key
abbrev pub less : ℕ → ℕ → List Registration → List Registration
less cluster t rs = without_key (key_of cluster t) rs

gone : (x t k : ℕ) → (x == t) ≡ true → (b c : Bool) → c ≡ (b && not (k == t)) → c ≡ (((x == k) || b) && not (k == t))
gone x t k e b c f = grind (arith, nat_tests)

stays : (x t k : ℕ) → (x == t) ≡ false → (b c : Bool) → c ≡ (b && not (k == t)) → ((x == k) || c) ≡ (((x == k) || b) && not (k == t))
stays x t k e b c f = grind (arith, nat_tests)

pub less_has : (cluster t : ℕ) (rs : List Registration) (k : ℕ) → OwnKeys cluster rs → is_registered (less cluster t rs) k ≡ (is_registered rs k && not (k == t))
less_has cluster t [] k own = refl
less_has cluster t (r ∷ rs) k own = go (cases_Bool (r.key == key_of cluster t)) (less_has cluster t rs k own.4)
  where
    go : ((r.key == key_of cluster t) ≡ true) ⊎ ((r.key == key_of cluster t) ≡ false) → is_registered (less cluster t rs) k ≡ (is_registered rs k && not (k == t)) → is_registered (less cluster t (r ∷ rs)) k ≡ (is_registered (r ∷ rs) k && not (k == t))
    go (inl here) later = rw here (gone r.node t k (sym (own_key cluster r t own.2) ∙ here) (is_registered rs k) (is_registered (less cluster t rs) k) later)
    go (inr other) later = rw other (stays r.node t k (sym (own_key cluster r t own.2) ∙ other) (is_registered rs k) (is_registered (less cluster t rs) k) later)

pub less_own : (cluster t : ℕ) (rs : List Registration) → OwnKeys cluster rs → OwnKeys cluster (less cluster t rs)
less_own cluster t [] own = tt
less_own cluster t (r ∷ rs) own = cond_both (not (r.key == key_of cluster t)) (r ∷ less cluster t rs) (less cluster t rs) (OwnKeys cluster)
    (λ stays. (own.0, own.1, own.2, apart, less_own cluster t rs own.4)) (λ goes. less_own cluster t rs own.4)
  where
    apart : is_registered (less cluster t rs) r.node ≡ false
    apart = less_has cluster t rs r.node own.4 ∙ ap (λ b. b && not (r.node == t)) own.3
