-- What the words of a value give fits a row: names, numbers that 64 bits hold, lists of at most 32 items.
use Rattle.std.proofs.Common.{◌≡◌, ℕ, ◌+◌, ◌^◌, ◌<◌, ◌≤◌, ◌&&◌, ◌⊎◌, inl, inr, nat_le, List, [], ◌∷◌, ◌++◌, length, length-append, take, drop, Bool, true, false, cond, refl, subst, sym, ◌∙◌, arith}
use Rattle.std.specs.Prelude.{Option, Some, None, Result, Ok, Err, codes, slice_index, if◌then◌else◌}
use Rattle.std.specs.List.{AllByRecursion, list_all}
use Rattle.std.specs.Option.{option_map}
use Rattle.std.specs.Str.{bytes_eq}
use Rattle.std.proofs.lemmas.Bool.Decides.{leb_tells}
use Rattle.std.proofs.lemmas.List.Sums.{AllPass-from_list_all}
use Rattle.cl_base.specs.Names.{IsName, is_letter, is_name_byte}
use Rattle.cl_base.specs.declared.header.Version.{Version}
use Rattle.cl_base.specs.declared.header.Version.TheVariants.{One, Two}
use Rattle.load_limits.specs.declared.limits.Factor.{Factor}
use Rattle.rg_props.specs.declared.affinity.Affine.{Affine}
use Rattle.rg_props.specs.declared.affinity.Affinity.{Affinity}
use Rattle.rg_props.specs.declared.affinity.Affinity.TheVariants.{PlusPlus, Plus, Minus, MinusMinus, PlusPlusPlus}
use Rattle.rg_props.specs.Affinities.{affinity_sign}
use Rattle.rg_props.specs.declared.group.Group.{Group}
use Rattle.rg_props.specs.declared.group.Resource.{Resource}
use Rattle.rg_props.specs.declared.property.GroupProperty.{GroupProperty}
use Rattle.rg_props.specs.declared.property.GroupProperty.TheVariants as property
use Rattle.rg_props.specs.declared.property.ResourceProperty.{ResourceProperty}
use Rattle.rg_props.specs.declared.property.ResourceProperty.TheVariants as own
use Rattle.rg_props.specs.declared.setting.GroupSetting.{GroupSetting}
use Rattle.rg_props.specs.declared.setting.GroupSetting.TheVariants as to
use Rattle.rg_props.specs.declared.setting.ResourceSetting.{ResourceSetting}
use Rattle.rg_props.specs.declared.setting.ResourceSetting.TheVariants as its
use Rattle.rg_props.specs.declared.setting.SetError.{SetError}
use Rattle.rg_props.specs.Properties.{group_property_in, resource_property_in}
use Rattle.rg_props.specs.Settings.{read_as, group_value, group_value_of, group_setting_in, resource_value, resource_value_of, resource_setting_in, changed_group, changed_resource}
use Rattle.rg_props.specs.Values.{most_of, and_then, kept_if, items_from, are_few, items_in, list_in, are_distinct, same_node, nodes_in, names_in, signed, or_else, affine_in, affinities_in, factor_of, factor_in, same_limit, factors_in}
use Rattle.rg_props.specs.Words.{within, number_in, is_name, name_in, parts_at, decimal_in, mode_in, choice_in}
use Rattle.row_laws.specs.Given.{AreFew}
use Rattle.row_laws.proofs.Keys.{each_append}

abbrev pub IsNumber : ℕ → Type 0
IsNumber n = n < 2 ^ 64

abbrev pub IsAffine : Affine → Type 0
IsAffine a = IsName a.group

abbrev pub IsFactor : Factor → Type 0
IsFactor f = IsName f.name × IsNumber f.load

pub record IsFitGroup (g : Group) : Type 0 where
  pub nodelist : AreFew IsNumber g.nodelist
  pub maximum : IsNumber g.maximum
  pub desired : IsNumber g.desired
  pub dependencies : AreFew IsName g.dependencies
  pub affinities : AreFew IsAffine g.affinities
  pub pingpong : IsNumber g.pingpong
  pub factors : AreFew IsFactor g.factors
  pub priority : IsNumber g.priority

pub record IsFitResource (r : Resource) : Type 0 where
  pub group : IsName r.group
  pub resource_type : IsName r.resource_type
  pub strong : AreFew IsName r.strong
  pub weak : AreFew IsName r.weak
  pub offline_restart : AreFew IsName r.offline_restart
  pub retry_count : IsNumber r.retry_count
  pub retry_interval : IsNumber r.retry_interval

abbrev pub FitsGroup : GroupSetting → Type 0
FitsGroup (to.Nodelist nodes) = AreFew IsNumber nodes
FitsGroup (to.Maximum n) = IsNumber n
FitsGroup (to.Desired n) = IsNumber n
FitsGroup (to.Dependencies names) = AreFew IsName names
FitsGroup (to.Affinities affinities) = AreFew IsAffine affinities
FitsGroup (to.Pingpong n) = IsNumber n
FitsGroup (to.Failback choice) = Unit {0}
FitsGroup (to.Factors factors) = AreFew IsFactor factors
FitsGroup (to.Priority n) = IsNumber n

abbrev pub FitsResource : ResourceSetting → Type 0
FitsResource (its.Strong names) = AreFew IsName names
FitsResource (its.Weak names) = AreFew IsName names
FitsResource (its.OfflineRestart names) = AreFew IsName names
FitsResource (its.Mode mode) = Unit {0}
FitsResource (its.RetryCount n) = IsNumber n
FitsResource (its.RetryInterval n) = IsNumber n

-- ---- a setting taken

pub group_stays_fit : (setting : GroupSetting) (g : Group) → FitsGroup setting → IsFitGroup g → IsFitGroup (changed_group setting g)
group_stays_fit (to.Nodelist nodes) g s f = record { nodelist = s; maximum = f.maximum; desired = f.desired; dependencies = f.dependencies; affinities = f.affinities; pingpong = f.pingpong; factors = f.factors; priority = f.priority }
group_stays_fit (to.Maximum n) g s f = record { nodelist = f.nodelist; maximum = s; desired = f.desired; dependencies = f.dependencies; affinities = f.affinities; pingpong = f.pingpong; factors = f.factors; priority = f.priority }
group_stays_fit (to.Desired n) g s f = record { nodelist = f.nodelist; maximum = f.maximum; desired = s; dependencies = f.dependencies; affinities = f.affinities; pingpong = f.pingpong; factors = f.factors; priority = f.priority }
group_stays_fit (to.Dependencies names) g s f = record { nodelist = f.nodelist; maximum = f.maximum; desired = f.desired; dependencies = s; affinities = f.affinities; pingpong = f.pingpong; factors = f.factors; priority = f.priority }
group_stays_fit (to.Affinities affinities) g s f = record { nodelist = f.nodelist; maximum = f.maximum; desired = f.desired; dependencies = f.dependencies; affinities = s; pingpong = f.pingpong; factors = f.factors; priority = f.priority }
group_stays_fit (to.Pingpong n) g s f = record { nodelist = f.nodelist; maximum = f.maximum; desired = f.desired; dependencies = f.dependencies; affinities = f.affinities; pingpong = s; factors = f.factors; priority = f.priority }
group_stays_fit (to.Failback choice) g s f = record { nodelist = f.nodelist; maximum = f.maximum; desired = f.desired; dependencies = f.dependencies; affinities = f.affinities; pingpong = f.pingpong; factors = f.factors; priority = f.priority }
group_stays_fit (to.Factors factors) g s f = record { nodelist = f.nodelist; maximum = f.maximum; desired = f.desired; dependencies = f.dependencies; affinities = f.affinities; pingpong = f.pingpong; factors = s; priority = f.priority }
group_stays_fit (to.Priority n) g s f = record { nodelist = f.nodelist; maximum = f.maximum; desired = f.desired; dependencies = f.dependencies; affinities = f.affinities; pingpong = f.pingpong; factors = f.factors; priority = s }

pub resource_stays_fit : (setting : ResourceSetting) (r : Resource) → FitsResource setting → IsFitResource r → IsFitResource (changed_resource setting r)
resource_stays_fit (its.Strong names) r s f = record { group = f.group; resource_type = f.resource_type; strong = s; weak = f.weak; offline_restart = f.offline_restart; retry_count = f.retry_count; retry_interval = f.retry_interval }
resource_stays_fit (its.Weak names) r s f = record { group = f.group; resource_type = f.resource_type; strong = f.strong; weak = s; offline_restart = f.offline_restart; retry_count = f.retry_count; retry_interval = f.retry_interval }
resource_stays_fit (its.OfflineRestart names) r s f = record { group = f.group; resource_type = f.resource_type; strong = f.strong; weak = f.weak; offline_restart = s; retry_count = f.retry_count; retry_interval = f.retry_interval }
resource_stays_fit (its.Mode mode) r s f = record { group = f.group; resource_type = f.resource_type; strong = f.strong; weak = f.weak; offline_restart = f.offline_restart; retry_count = f.retry_count; retry_interval = f.retry_interval }
resource_stays_fit (its.RetryCount n) r s f = record { group = f.group; resource_type = f.resource_type; strong = f.strong; weak = f.weak; offline_restart = f.offline_restart; retry_count = s; retry_interval = f.retry_interval }
resource_stays_fit (its.RetryInterval n) r s f = record { group = f.group; resource_type = f.resource_type; strong = f.strong; weak = f.weak; offline_restart = f.offline_restart; retry_count = f.retry_count; retry_interval = s }

-- ---- words

both : (a b : Bool) → (a && b) ≡ true → (a ≡ true) × (b ≡ true)
both true b e = (refl, e)
both false b e = absurd (cc)

given : {X : Type 0} (t : Bool) (o : Option X) (x : X) → (if t then o else None) ≡ Some x → (t ≡ true) × (o ≡ Some x)
given true o x e = (refl, e)
given false o x e = absurd (cc)

low_if : (a b : ℕ) → nat_le a b ≡ true → (nat_le a b ≡ true) × (a ≤ b) ⊎ (nat_le a b ≡ false) × (b < a) → a ≤ b
low_if a b e (inl (_, le)) = le
low_if a b e (inr (off, _)) = absurd (cc)

low : (a b : ℕ) → nat_le a b ≡ true → a ≤ b
low a b e = low_if a b e (leb_tells a b)

within_most : (least most : ℕ) (o : Option ℕ) (n : ℕ) → within least most o ≡ Some n → n ≤ most
within_most least most None n e = absurd (cc)
within_most least most (Some k) n e =
    let parts = given (nat_le least k && nat_le k most) (Some k) n e in
    let same : k ≡ n = cc in
    subst (λ (v : ℕ). v ≤ most) same (low k most (both (nat_le least k) (nat_le k most) parts.0).1)

number_most : (least most : ℕ) (word : List ℕ) (n : ℕ) → number_in least most word ≡ Some n → n ≤ most
unfolding number_in
number_most least most word n e = within_most least most (decimal_in word) n e

number_fits : (least most : ℕ) (word : List ℕ) (n : ℕ) → most < 2 ^ 64 → number_in least most word ≡ Some n → IsNumber n
number_fits least most word n fits e = omega (arith, fits, number_most least most word n e)

holds_name : (w : List ℕ) → is_name w ≡ true → IsName w
holds_name w h =
    let three = both (nat_le 1 (length w) && nat_le (length w) 32 && is_letter (slice_index w 0)) (list_all is_name_byte w) h in
    let two = both (nat_le 1 (length w) && nat_le (length w) 32) (is_letter (slice_index w 0)) three.0 in
    let one = both (nat_le 1 (length w)) (nat_le (length w) 32) two.0 in
    (low 1 (length w) one.0, low (length w) 32 one.1, two.1, AllPass-from_list_all is_name_byte w three.1)

name_fits : (word name : List ℕ) → name_in word ≡ Some name → IsName name
unfolding name_in
name_fits word name e =
    let parts = given (is_name word) (Some word) name e in
    let same : word ≡ name = cc in
    subst (λ (v : List ℕ). IsName v) same (holds_name word parts.0)

most_is_low : (version : Version) → most_of version < 2 ^ 64
most_is_low One = omega arith
most_is_low Two = omega arith

-- ---- lists

module _ {A : Type 0} (read : List ℕ → Option A) (P : A → Type 0) (fits : (word : List ℕ) (x : A) → read word ≡ Some x → P x) where
  next_fits : (part : List ℕ) (parts : List (List ℕ)) (before xs : List A) → AllByRecursion P before → (o : Option A) → read part ≡ o
      → ((x : A) → AllByRecursion P (before ++ x ∷ []) → items_from read (before ++ x ∷ []) parts ≡ Some xs → (length xs ≡ length (before ++ x ∷ []) + length parts) × AllByRecursion P xs)
      → and_then o (λ x. items_from read (before ++ x ∷ []) parts) ≡ Some xs → (length xs ≡ length before + length (part ∷ parts)) × AllByRecursion P xs
  next_fits part parts before xs all None is later e = absurd (cc)
  next_fits part parts before xs all (Some x) is later e =
      let more = later x (each_append P before (x ∷ []) all (fits part x is, tt)) e in
      (omega (arith, more.0, length-append before (x ∷ [])), more.1)

  items_fit : (parts : List (List ℕ)) (before xs : List A) → AllByRecursion P before → items_from read before parts ≡ Some xs → (length xs ≡ length before + length parts) × AllByRecursion P xs
  items_fit [] before xs all e =
      let same : before ≡ xs = cc in
      (subst (λ (v : List A). length v ≡ length before + 0) same (omega arith), subst (λ (v : List A). AllByRecursion P v) same all)
  items_fit (part ∷ parts) before xs all e = next_fits part parts before xs all (read part) refl (λ x more is. items_fit parts (before ++ x ∷ []) xs more is) e

  pub few_fit : (value : List ℕ) (xs : List A) → items_in read value ≡ Some xs → AreFew P xs
  few_fit value xs e =
      let parts = given (are_few (parts_at 44 value)) (items_from read [] (parts_at 44 value)) xs e in
      let all = items_fit (parts_at 44 value) [] xs tt parts.1 in
      (omega (arith, all.0, low (length (parts_at 44 value)) 32 parts.0), all.1)

  none_or : (t : Bool) (value : List ℕ) (xs : List A) → (if t then Some [] else items_in read value) ≡ Some xs → AreFew P xs
  none_or true value xs e = let same : [] ≡ xs = cc in subst (λ (v : List A). AreFew P v) same (omega arith, tt)
  none_or false value xs e = few_fit value xs e

  pub list_fits : (value : List ℕ) (xs : List A) → list_in read value ≡ Some xs → AreFew P xs
  list_fits value xs e = none_or (bytes_eq value (codes "none")) value xs e

kept : {A : Type 0} (test : A → Bool) (o : Option A) (x : A) → kept_if test o ≡ Some x → o ≡ Some x
kept test None x e = absurd (cc)
kept test (Some y) x e = (given (test y) (Some y) x e).1

nodes_fit : (version : Version) (value nodes : List ℕ) → nodes_in (most_of version) value ≡ Some nodes → AreFew IsNumber nodes
nodes_fit version value nodes e =
    few_fit (number_in 1 (most_of version)) IsNumber (λ word n is. number_fits 1 (most_of version) word n (most_is_low version) is) value nodes
    (kept (are_distinct same_node) (items_in (number_in 1 (most_of version)) value) nodes e)

names_fit : (value : List ℕ) (names : List (List ℕ)) → names_in value ≡ Some names → AreFew IsName names
names_fit value names e = list_fits name_in IsName name_fits value names e

-- ---- affinities and load factors

affine_from : (affinity : Affinity) (o : Option (List ℕ)) (a : Affine) → option_map (λ name. record { affinity = affinity; group = name }) o ≡ Some a → o ≡ Some a.group
affine_from affinity None a e = absurd (cc)
affine_from affinity (Some name) a e = let made : Affine = record { affinity = affinity; group = name } in let same : made ≡ a = cc in subst (λ (v : Affine). Some name ≡ Some v.group) same refl

signed_fits : (affinity : Affinity) (part : List ℕ) (a : Affine) → signed affinity part ≡ Some a → IsAffine a
signed_fits affinity part a e =
    let word : List ℕ = drop (length (affinity_sign affinity)) part in
    let parts = given (bytes_eq (take (length (affinity_sign affinity)) part) (affinity_sign affinity)) (option_map (λ name. record { affinity = affinity; group = name }) (name_in word)) a e in
    name_fits word a.group (affine_from affinity (name_in word) a parts.1)

either : {A : Type 0} (P : A → Type 0) (o p : Option A) (x : A) → (o ≡ Some x → P x) → (p ≡ Some x → P x) → or_else o p ≡ Some x → P x
either P None p x first second e = second e
either P (Some y) p x first second e = first e

affine_fits : (part : List ℕ) (a : Affine) → affine_in part ≡ Some a → IsAffine a
unfolding affine_in
affine_fits part a e =
    either IsAffine (signed PlusPlusPlus part) _ a (signed_fits PlusPlusPlus part a)
    (either IsAffine (signed PlusPlus part) _ a (signed_fits PlusPlus part a)
    (either IsAffine (signed Plus part) _ a (signed_fits Plus part a)
    (either IsAffine (signed MinusMinus part) (signed Minus part) a (signed_fits MinusMinus part a) (signed_fits Minus part a)))) e

affinities_fit : (value : List ℕ) (affinities : List Affine) → affinities_in value ≡ Some affinities → AreFew IsAffine affinities
affinities_fit value affinities e = list_fits affine_in IsAffine affine_fits value affinities e

factor_from : (name number : List ℕ) (o : Option (List ℕ)) (n : Option ℕ) (f : Factor) → name_in name ≡ o → number_in 0 1000000 number ≡ n → and_then o (λ v. option_map (λ load. record { name = v; load = load }) n) ≡ Some f → IsFactor f
factor_from name number None n f ho hn e = absurd (cc)
factor_from name number (Some v) None f ho hn e = absurd (cc)
factor_from name number (Some v) (Some load) f ho hn e =
    let made : Factor = record { name = v; load = load } in
    let same : made ≡ f = cc in
    subst (λ (v : Factor). IsFactor v) same (name_fits name v ho, number_fits 0 1000000 number load (omega arith) hn)

words_fit : (words : List (List ℕ)) (f : Factor) → factor_of words ≡ Some f → IsFactor f
words_fit [] f e = absurd (cc)
words_fit (name ∷ []) f e = absurd (cc)
words_fit (name ∷ number ∷ []) f e = factor_from name number (name_in name) (number_in 0 1000000 number) f refl refl e
words_fit (name ∷ number ∷ more ∷ rest) f e = absurd (cc)

factor_fits : (part : List ℕ) (f : Factor) → factor_in part ≡ Some f → IsFactor f
unfolding factor_in
factor_fits part f e = words_fit (parts_at 64 part) f e

factors_fit : (value : List ℕ) (factors : List Factor) → factors_in value ≡ Some factors → AreFew IsFactor factors
factors_fit value factors e = list_fits factor_in IsFactor factor_fits value factors (kept (are_distinct same_limit) (list_in factor_in value) factors e)

-- ---- settings

was_read : {A B : Type 0} (Q : B → Type 0) (make : A → B) (o : Option A) (s : B) → ((x : A) → o ≡ Some x → Q (make x)) → read_as make o ≡ Ok s → Q s
was_read Q make None s fits e = absurd (cc)
was_read Q make (Some x) s fits e = let same : make x ≡ s = cc in subst Q same (fits x refl)

group_value_fits : (version : Version) (p : GroupProperty) (value : List ℕ) (s : GroupSetting) → group_value version p value ≡ Ok s → FitsGroup s
group_value_fits version property.Nodelist value s e = was_read FitsGroup to.Nodelist _ s (nodes_fit version value) e
group_value_fits version property.MaximumPrimaries value s e = was_read FitsGroup to.Maximum _ s (λ n is. number_fits 1 (most_of version) value n (most_is_low version) is) e
group_value_fits version property.DesiredPrimaries value s e = was_read FitsGroup to.Desired _ s (λ n is. number_fits 0 (most_of version) value n (most_is_low version) is) e
group_value_fits version property.Dependencies value s e = was_read FitsGroup to.Dependencies _ s (names_fit value) e
group_value_fits version property.Affinities value s e = was_read FitsGroup to.Affinities _ s (affinities_fit value) e
group_value_fits version property.PingpongInterval value s e = was_read FitsGroup to.Pingpong _ s (λ n is. number_fits 0 1000000 value n (omega arith) is) e
group_value_fits version property.Failback value s e = was_read FitsGroup to.Failback _ s (λ choice is. tt) e
group_value_fits version property.LoadFactors value s e = was_read FitsGroup to.Factors _ s (factors_fit value) e
group_value_fits version property.Priority value s e = was_read FitsGroup to.Priority _ s (λ n is. number_fits 0 1000 value n (omega arith) is) e

group_value_of_fits : (version : Version) (p : Option GroupProperty) (value : List ℕ) (s : GroupSetting) → group_value_of version p value ≡ Ok s → FitsGroup s
group_value_of_fits version None value s e = absurd (cc)
group_value_of_fits version (Some p) value s e = group_value_fits version p value s e

pub group_setting_fits : (version : Version) (word value : List ℕ) (s : GroupSetting) → group_setting_in version word value ≡ Ok s → FitsGroup s
unfolding group_setting_in
group_setting_fits version word value s e = group_value_of_fits version (group_property_in version word) value s e

resource_value_fits : (p : ResourceProperty) (value : List ℕ) (s : ResourceSetting) → resource_value p value ≡ Ok s → FitsResource s
resource_value_fits own.Dependencies value s e = was_read FitsResource its.Strong _ s (names_fit value) e
resource_value_fits own.WeakDependencies value s e = was_read FitsResource its.Weak _ s (names_fit value) e
resource_value_fits own.OfflineRestartDependencies value s e = was_read FitsResource its.OfflineRestart _ s (names_fit value) e
resource_value_fits own.FailoverMode value s e = was_read FitsResource its.Mode _ s (λ mode is. tt) e
resource_value_fits own.RetryCount value s e = was_read FitsResource its.RetryCount _ s (λ n is. number_fits 0 1000 value n (omega arith) is) e
resource_value_fits own.RetryInterval value s e = was_read FitsResource its.RetryInterval _ s (λ n is. number_fits 0 1000000 value n (omega arith) is) e

resource_value_of_fits : (p : Option ResourceProperty) (value : List ℕ) (s : ResourceSetting) → resource_value_of p value ≡ Ok s → FitsResource s
resource_value_of_fits None value s e = absurd (cc)
resource_value_of_fits (Some p) value s e = resource_value_fits p value s e

pub resource_setting_fits : (word value : List ℕ) (s : ResourceSetting) → resource_setting_in word value ≡ Ok s → FitsResource s
unfolding resource_setting_in
resource_setting_fits word value s e = resource_value_of_fits (resource_property_in word) value s e
