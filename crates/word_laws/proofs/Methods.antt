-- A set of methods is read back from its words.
use Rattle.std.proofs.Common.{◌≡◌, ℕ, ◌≤◌, ◌==◌, ◌&&◌, ◌||◌, Bool, true, false, List, [], ◌∷◌, length, Some, refl, ap, ◌∙◌, arith, cond}
use Rattle.std.specs.List.{AllByRecursion, filter, list_any}
use Rattle.cl_base.specs.Methods.{has_method, place_of}
use Rattle.cl_base.specs.declared.method.Method.{Method}
use Rattle.cl_base.specs.declared.method.Method.TheVariants.{PrenetStart, Start, MonitorStart, MonitorCheck, MonitorStop, Stop, PostnetStop, Validate, Init, Fini, Boot, Update}
use Rattle.ccr_tables.specs.Refusals.{both_or_neither, is_complete}
use Rattle.update_words.specs.Methods.{all_methods, listed, method_text, methods_text}
use Rattle.admin_words.specs.Methods.{are_complete, in_order, lists, method_in, methods_in}
use Rattle.word_laws.specs.Spelled.{AreMethods}
use Rattle.word_laws.proofs.Split.{first, items_known, lacks}
use Rattle.word_laws.proofs.Reading.{list_word}

kept : (p q : Method → Bool) (k : Method) (ms : List Method) (pk : Bool) → list_any q (cond pk (k ∷ filter p ms) (filter p ms)) ≡ ((q k && pk) || list_any q (filter p ms))
kept p q k ms true = and_true (q k) (list_any q (filter p ms))
  where
    and_true : (b rest : Bool) → (b || rest) ≡ ((b && true) || rest)
    and_true true rest = refl
    and_true false rest = refl
kept p q k ms false = and_false (q k) (list_any q (filter p ms))
  where
    and_false : (b rest : Bool) → rest ≡ ((b && false) || rest)
    and_false true rest = refl
    and_false false rest = refl

-- a filtered list has what passes both tests
pub any_filter : (p q : Method → Bool) (ms : List Method) → list_any q (filter p ms) ≡ list_any (λ k. q k && p k) ms
any_filter p q [] = refl
any_filter p q (k ∷ ms) = kept p q k ms (p k) ∙ ap (λ (rest : Bool). (q k && p k) || rest) (any_filter p q ms)

or_nothing : (b : Bool) → (b || false) ≡ b
or_nothing true = refl
or_nothing false = refl

pub lists_test : (test : Method → Bool) (m : Method) → list_any (λ k. (place_of m == place_of k) && test k) all_methods ≡ test m
lists_test test PrenetStart = or_nothing (test PrenetStart)
lists_test test Start = or_nothing (test Start)
lists_test test MonitorStart = or_nothing (test MonitorStart)
lists_test test MonitorCheck = or_nothing (test MonitorCheck)
lists_test test MonitorStop = or_nothing (test MonitorStop)
lists_test test Stop = or_nothing (test Stop)
lists_test test PostnetStop = or_nothing (test PostnetStop)
lists_test test Validate = or_nothing (test Validate)
lists_test test Init = or_nothing (test Init)
lists_test test Fini = or_nothing (test Fini)
lists_test test Boot = or_nothing (test Boot)
lists_test test Update = or_nothing (test Update)

-- the methods that a set lists are those that it has
listed_has : (set : ℕ) (m : Method) → lists (listed set) m ≡ has_method set m
unfolding listed
listed_has set m = any_filter (has_method set) (λ k. place_of m == place_of k) all_methods ∙ lists_test (has_method set) m

in_order_again : (set : ℕ) → in_order (listed set) ≡ listed set
unfolding in_order listed
in_order_again set = ap (λ (test : Method → Bool). filter test all_methods) (λ i m. listed_has set m i)

complete_again : (set : ℕ) → is_complete set ≡ true → are_complete (listed set) ≡ true
complete_again set h = rw (listed_has set Start, listed_has set Stop, listed_has set MonitorStart, listed_has set MonitorStop) h

some_listed : (ms : List Method) → lists ms Start ≡ true → 1 ≤ length ms
some_listed [] h = absurd (cc)
some_listed (m ∷ ms) h = omega arith

starts : (set : ℕ) → is_complete set ≡ true → has_method set Start ≡ true
starts set h = first (has_method set Start) (has_method set Stop) (first (has_method set Start && has_method set Stop) (both_or_neither (has_method set MonitorStart) (has_method set MonitorStop)) h)

length_filter : (p : Method → Bool) (ms : List Method) → length (filter p ms) ≤ length ms
length_filter p [] = omega arith
length_filter p (m ∷ ms) = kept_length (p m) (length_filter p ms)
  where
    kept_length : (pm : Bool) → length (filter p ms) ≤ length ms → length (cond pm (m ∷ filter p ms) (filter p ms)) ≤ length (m ∷ ms)
    kept_length true le = omega (arith, le)
    kept_length false le = omega (arith, le)

few_listed : (set : ℕ) → length (listed set) ≤ 32
unfolding listed
few_listed set = omega (arith, length_filter (has_method set) all_methods)

method_known : (m : Method) → method_in (method_text m) ≡ Some m
unfolding method_in
method_known PrenetStart = refl
method_known Start = refl
method_known MonitorStart = refl
method_known MonitorCheck = refl
method_known MonitorStop = refl
method_known Stop = refl
method_known PostnetStop = refl
method_known Validate = refl
method_known Init = refl
method_known Fini = refl
method_known Boot = refl
method_known Update = refl

method_word : (m : Method) → lacks 32 (method_text m) ≡ true
method_word PrenetStart = refl
method_word Start = refl
method_word MonitorStart = refl
method_word MonitorCheck = refl
method_word MonitorStop = refl
method_word Stop = refl
method_word PostnetStop = refl
method_word Validate = refl
method_word Init = refl
method_word Fini = refl
method_word Boot = refl
method_word Update = refl

method_item : (m : Method) → lacks 44 (method_text m) ≡ true
method_item PrenetStart = refl
method_item Start = refl
method_item MonitorStart = refl
method_item MonitorCheck = refl
method_item MonitorStop = refl
method_item Stop = refl
method_item PostnetStop = refl
method_item Validate = refl
method_item Init = refl
method_item Fini = refl
method_item Boot = refl
method_item Update = refl

each : (P : Method → Type 0) → ((m : Method) → P m) → (ms : List Method) → AllByRecursion P ms
each P all [] = tt
each P all (m ∷ ms) = (all m, each P all ms)

listed_some : (set : ℕ) → is_complete set ≡ true → 1 ≤ length (listed set)
listed_some set h = some_listed (listed set) (listed_has set Start ∙ starts set h)

pub methods_known : (set : ℕ) → AreMethods set → methods_in (methods_text set) ≡ Some set
methods_known set h =
    rw (items_known method_in method_text (listed set) (listed_some set h.complete) (few_listed set) (each (λ m. lacks 44 (method_text m) ≡ true) method_item (listed set)) (each (λ m. method_in (method_text m) ≡ Some m) method_known (listed set)), complete_again set h.complete, in_order_again set)
    (ap Some h.plain)

pub methods_word : (set : ℕ) → AreMethods set → lacks 32 (methods_text set) ≡ true
methods_word set h = list_word method_text (listed set) (listed_some set h.complete) (each (λ m. lacks 32 (method_text m) ≡ true) method_word (listed set))
