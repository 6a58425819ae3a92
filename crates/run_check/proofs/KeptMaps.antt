-- What is kept beside the map after each change.
use Rattle.std.proofs.Common.{◌≡◌, ◌≢◌, ◌==◌, ℕ, ◌+◌, ◌-◌, ◌*◌, ◌<◌, ◌≤◌, zero, suc, Bool, true, false, cond, List, [], ◌∷◌, ◌++◌, Option, Some, None, is_some, option_map, IfSome, IfNone, nat_le, ◌&&◌, replicate, Ordering, map, length, get_or, count_by, refl, sym, ap, ◌∙◌, subst, arith, ◌⊎◌, inl, inr, length-append}
use Rattle.std.specs.declared.cmp.Ordering.TheVariants.{Less, Equal, Greater}
use Rattle.std.specs.List.{sum_by}
use Rattle.std.specs.Option.{option_map_or}
use Rattle.std.specs.Ordering.{nat_cmp, is_eq}
use Rattle.std.specs.Cmp.{tied_itself, nat_cmp_total}
use Rattle.std.specs.FinMap.{nat_cmp-IsAntisymmetric}
use Rattle.std.specs.BTreeMap.{is_at}
use Rattle.std.proofs.Math.ListN.{set, length-set, get_or-append}
use Rattle.std.proofs.Math.Seq.{get_or-append_seam}
use Rattle.std.proofs.lemmas.Bool.{true≢false, false≢true}
use Rattle.std.proofs.lemmas.Bool.Decides.{nat_tests}
use Rattle.std.proofs.lemmas.List.{get_or-set_same, get_or-set_other, get_or_default, get_or-map, map-set}
use Rattle.std.proofs.lemmas.List.Sums.{sum_by-set, sum_by-cons}
use Rattle.std.proofs.lemmas.Option.{none-some, same_Some}
use Rattle.kmem_model.specs.CacheOrder.{is_the, least_below, IsLeastBelow}
use Rattle.kmem_model.specs.Records.{Record, with_value, value_at, no_records, least_name}
use Rattle.kmem_model.specs.RecordStep.{at_step, named_value}
use Rattle.kmem_text.specs.declared.command.Reply.TheVariants.{At}
use Rattle.run_check.specs.PlainMaps.{AreKept, map_of}

-- one element changed changes the count by what the two of them count
count_set : {X : Type 0} (p : X → Bool) (xs : List X) (i : ℕ) (y d : X) → i < length xs → count_by p (set xs i y) + cond (p (get_or xs i d)) 1 0 ≡ count_by p xs + cond (p y) 1 0
count_set p xs i y d small = sum_by-set (λ x. cond (p x) 1 0) xs i y d small

-- which of two
pub same_or_not : (m n : ℕ) → ((m ≡ n) × ((m == n) ≡ true)) ⊎ ((m ≢ n) × ((m == n) ≡ false))
same_or_not m n = elim (m == n) as (λ b. (m == n) ≡ b → ((m ≡ n) × ((m == n) ≡ true)) ⊎ ((m ≢ n) × ((m == n) ≡ false))) [
  | true ↦ λ e. inl (grind (arith, nat_tests, e), e)
  | false ↦ λ e. inr ((λ is. true≢false (grind (arith, nat_tests, e, is))), e)
] refl

equal_if : (o : Ordering) → is_eq o ≡ true → o ≡ Equal
equal_if Equal e = refl
equal_if Less e = absurd (false≢true e)
equal_if Greater e = absurd (false≢true e)

pub itself : (n : ℕ) → (n == n) ≡ true
itself n = grind (arith, nat_tests)

-- a record whose id is beyond those that names lead to has no name
no_name : (names : List (Option ℕ)) (values : List (List ℕ)) (id i : ℕ) → length values ≡ id → ((j : ℕ) → get_or names i None ≡ Some j → j < length values) → is_the (get_or names i None) id ≡ false
no_name names values id i is below = elim (get_or names i None) as (λ o. ((j : ℕ) → o ≡ Some j → j < length values) → is_the o id ≡ false) [
  | None ↦ λ f. refl
  | Some j ↦ λ f. let small : j < length values = f j refl in grind (arith, nat_tests, small, is)
] below

-- the key that a set is asked for
at_key : (n q : ℕ) → ((q ≡ n) × (is_at (nat_cmp n) q ≡ true)) ⊎ ((q ≢ n) × (is_at (nat_cmp n) q ≡ false))
at_key n q = elim (is_at (nat_cmp n) q) as (λ b. is_at (nat_cmp n) q ≡ b → ((q ≡ n) × (is_at (nat_cmp n) q ≡ true)) ⊎ ((q ≢ n) × (is_at (nat_cmp n) q ≡ false))) [
  | true ↦ λ e. inl (sym (nat_cmp-IsAntisymmetric n q (equal_if (nat_cmp n q) e)), e)
  | false ↦ λ e. inr ((λ is. true≢false (sym (ap is_eq (tied_itself nat_cmp_total n)) ∙ ap (λ x. is_eq (nat_cmp n x)) (sym is) ∙ e)), e)
] refl

-- a name leads where it was made to lead, and each other where it did
name_leads : (names : List (Option ℕ)) (name : ℕ) (y : Option ℕ) (q id : ℕ) → name < length names → get_or (set names name y) q None ≡ Some id → (y ≡ Some id) ⊎ (get_or names q None ≡ Some id)
name_leads names name y q id small e = elim (same_or_not q name) [
  | inl s ↦ inl (sym (get_or-set_same names name y None small) ∙ ap (λ n. get_or (set names name y) n None) (sym s.0) ∙ e)
  | inr s ↦ inr (sym (get_or-set_other names name q y None s.0) ∙ e)
]

-- which names are present after one is changed
now_present : (names : List (Option ℕ)) (has has' : ℕ → Bool) (name : ℕ) (y : Option ℕ) → name < length names → ((q : ℕ) → has q ≡ is_some (get_or names q None)) → ((q : ℕ) → has' q ≡ cond (is_at (nat_cmp name) q) (is_some y) (has q)) → (q : ℕ) → has' q ≡ is_some (get_or (set names name y) q None)
now_present names has has' name y small was is q = elim (at_key name q) [
  | inl s ↦ is q ∙ ap (λ b. cond b (is_some y) (has q)) s.1 ∙ ap is_some (sym (get_or-set_same names name y None small) ∙ ap (λ n. get_or (set names name y) n None) (sym s.0))
  | inr s ↦ is q ∙ ap (λ b. cond b (is_some y) (has q)) s.1 ∙ was q ∙ ap is_some (sym (get_or-set_other names name q y None s.0))
]

-- nothing passes where no element does
count_none : (p : Option ℕ → Bool) (xs : List (Option ℕ)) → ((i : ℕ) → i < length xs → p (get_or xs i None) ≡ false) → count_by p xs ≡ 0
count_none p [] none = refl
count_none p (x ∷ xs) none = sum_by-cons (λ y. cond (p y) 1 0) x xs ∙ (λ i. cond (none 0 (omega arith) i) 1 0 + count_none p xs (λ j small. none (suc j) (omega arith)) i)

-- the count of an element that is there is 1 at the least
pub counts_it : (names : List (Option ℕ)) (name id : ℕ) → name < length names → get_or names name None ≡ Some id → 1 ≤ count_by (λ other. is_the other id) names
counts_it names name id small leads =
    let p = λ (other : Option ℕ). is_the other id in
    let it : p (get_or names name None) ≡ true = ap p leads ∙ itself id in
    omega (arith, count_set p names name None None small, ap {B = ℕ} (λ b. cond b 1 0) it)

pub kept_put : (names tags : List (Option ℕ)) (values : List (List ℕ)) (counts : List ℕ) (has has' : ℕ → Bool) (count name : ℕ) (v : List ℕ) → AreKept names tags values counts has count → name < length names → get_or names name None ≡ None → ((q : ℕ) → has' q ≡ cond (is_at (nat_cmp name) q) true (has q)) → AreKept (set names name (Some (length values))) tags (values ++ v ∷ []) (counts ++ 1 ∷ []) has' (count + 1)
kept_put names tags values counts has has' count name v h small absent is =
    let y = Some (length values) in
    let longer : length (values ++ v ∷ []) ≡ length values + 1 = omega (arith, length-append values (v ∷ [])) in
    record {
      present = now_present names has has' name y small h.present is;
      number = omega (arith, count_set is_some names name y None small, ap {B = ℕ} (λ o. cond (is_some o) 1 0) absent, h.number);
      named = λ q id e. elim (name_leads names name y q id small e) [
        | inl k ↦ let same : length values ≡ id = same_Some (length values) id k in omega arith
        | inr k ↦ let below : id < length values = h.named q id k in omega arith
      ];
      held = λ place id e. let below : id < length values = h.held place id e in omega arith;
      counted = λ id below.
          let p = λ (other : Option ℕ). is_the other id in
          let changed : count_by p (set names name y) + 0 ≡ count_by p names + cond (length values == id) 1 0 = ap (λ o. count_by p (set names name y) + cond (is_the o id) 1 0) (sym absent) ∙ count_set p names name y None small in
          elim (same_or_not (length values) id) [
            | inl s ↦
                let none : count_by p names ≡ 0 = count_none p names (λ i within. no_name names values id i s.0 (h.named i)) in
                let here : get_or (counts ++ 1 ∷ []) id 0 ≡ 1 = ap (λ n. get_or (counts ++ 1 ∷ []) n 0) (sym s.0 ∙ sym h.counts_len) ∙ get_or-append_seam counts 1 [] 0 in
                omega (arith, here, none, changed, ap {B = ℕ} (λ b. cond b 1 0) s.1)
            | inr s ↦
                let before : id < length values = omega (arith, longer, s.0) in
                let here : get_or (counts ++ 1 ∷ []) id 0 ≡ get_or counts id 0 = get_or-append counts (1 ∷ []) 0 id (omega (arith, h.counts_len, before)) in
                omega (arith, here, h.counted id before, changed, ap {B = ℕ} (λ b. cond b 1 0) s.1)
          ];
      counts_len = omega (arith, length-append counts (1 ∷ []), h.counts_len, longer);
    }

pub kept_del : (names tags : List (Option ℕ)) (values : List (List ℕ)) (counts : List ℕ) (has has' : ℕ → Bool) (count name id less : ℕ) → AreKept names tags values counts has count → name < length names → get_or names name None ≡ Some id → ((q : ℕ) → has' q ≡ cond (is_at (nat_cmp name) q) false (has q)) → less + 1 ≡ get_or counts id 0 → AreKept (set names name None) tags values (set counts id less) has' (count - 1)
kept_del names tags values counts has has' count name id less h small leads is one = record {
  present = now_present names has has' name None small h.present is;
  number = omega (arith, count_set is_some names name None None small, ap {B = ℕ} (λ o. cond (is_some o) 1 0) leads, h.number);
  named = λ q i e. elim (name_leads names name None q i small e) [
    | inl k ↦ absurd (none-some i k)
    | inr k ↦ h.named q i k
  ];
  held = h.held;
  counted = λ i below.
      let p = λ (other : Option ℕ). is_the other i in
      let changed : count_by p (set names name None) + cond (id == i) 1 0 ≡ count_by p names + 0 = ap (λ o. count_by p (set names name None) + cond (is_the o i) 1 0) (sym leads) ∙ count_set p names name None None small in
      elim (same_or_not id i) [
        | inl s ↦
            let here : get_or (set counts id less) i 0 ≡ less = ap (λ n. get_or (set counts id less) n 0) (sym s.0) ∙ get_or-set_same counts id less 0 (omega (arith, h.counts_len, s.0)) in
            omega (arith, here, h.counted i below, changed, one, ap {B = ℕ} (λ b. cond b 1 0) s.1, ap (λ n. get_or counts n 0) s.0)
        | inr s ↦
            let here : get_or (set counts id less) i 0 ≡ get_or counts i 0 = get_or-set_other counts id i less 0 (λ e. s.0 (sym e)) in
            omega (arith, here, h.counted i below, changed, ap {B = ℕ} (λ b. cond b 1 0) s.1)
      ];
  counts_len = omega (arith, length-set counts id less, h.counts_len);
}

pub kept_link : (names tags : List (Option ℕ)) (values : List (List ℕ)) (counts : List ℕ) (has has' : ℕ → Bool) (count name id more : ℕ) → AreKept names tags values counts has count → name < length names → id < length values → get_or names name None ≡ None → ((q : ℕ) → has' q ≡ cond (is_at (nat_cmp name) q) true (has q)) → more ≡ get_or counts id 0 + 1 → AreKept (set names name (Some id)) tags values (set counts id more) has' (count + 1)
kept_link names tags values counts has has' count name id more h small there absent is one = record {
  present = now_present names has has' name (Some id) small h.present is;
  number = omega (arith, count_set is_some names name (Some id) None small, ap {B = ℕ} (λ o. cond (is_some o) 1 0) absent, h.number);
  named = λ q i e. elim (name_leads names name (Some id) q i small e) [
    | inl k ↦ let same : id ≡ i = same_Some id i k in omega arith
    | inr k ↦ h.named q i k
  ];
  held = h.held;
  counted = λ i below.
      let p = λ (other : Option ℕ). is_the other i in
      let changed : count_by p (set names name (Some id)) + 0 ≡ count_by p names + cond (id == i) 1 0 = ap (λ o. count_by p (set names name (Some id)) + cond (is_the o i) 1 0) (sym absent) ∙ count_set p names name (Some id) None small in
      elim (same_or_not id i) [
        | inl s ↦
            let here : get_or (set counts id more) i 0 ≡ more = ap (λ n. get_or (set counts id more) n 0) (sym s.0) ∙ get_or-set_same counts id more 0 (omega (arith, h.counts_len, s.0)) in
            omega (arith, here, h.counted i below, changed, one, ap {B = ℕ} (λ b. cond b 1 0) s.1, ap (λ n. get_or counts n 0) s.0)
        | inr s ↦
            let here : get_or (set counts id more) i 0 ≡ get_or counts i 0 = get_or-set_other counts id i more 0 (λ e. s.0 (sym e)) in
            omega (arith, here, h.counted i below, changed, ap {B = ℕ} (λ b. cond b 1 0) s.1)
      ];
  counts_len = omega (arith, length-set counts id more, h.counts_len);
}

-- a value changed
abbrev kept_record : List ℕ → Option Record
kept_record v = Some (record { value = v; fixed = false })

pub value_set : (names : List (Option ℕ)) (values : List (List ℕ)) (tags : List (Option ℕ)) (id : ℕ) (v : List ℕ) → id < length values → map_of names (set values id v) tags ≡ with_value (map_of names values tags) id v
value_set names values tags id v small =
    let there : get_or (map kept_record values) id None ≡ kept_record (get_or values id []) = get_or-map kept_record values id [] None small in
    let records : map kept_record (set values id v) ≡ set (map kept_record values) id (option_map (λ (r : Record). record { value = v; fixed = r.fixed }) (get_or (map kept_record values) id None)) =
    map-set kept_record values id v ∙ ap (λ (o : Option Record). set (map kept_record values) id (option_map (λ (r : Record). record { value = v; fixed = r.fixed }) o)) (sym there) in
    λ i. record { names = names; records = records i; tags = tags }

pub value_is : (names : List (Option ℕ)) (values : List (List ℕ)) (tags : List (Option ℕ)) (id : ℕ) (v : List ℕ) → id < length values → v ≡ get_or values id v → v ≡ value_at (map_of names values tags) id
value_is names values tags id v small is =
    is ∙ get_or_default values id v [] small ∙ sym (ap (λ (o : Option Record). option_map_or (λ (r : Record). r.value) o []) (get_or-map kept_record values id [] None small))

-- what stands at a place
pub leads_to : (xs : List (Option ℕ)) (place : ℕ) (o x : Option ℕ) → place < length xs → o ≡ get_or xs place o → o ≡ x → get_or xs place None ≡ x
leads_to xs place o x small is and = get_or_default xs place None o small ∙ sym is ∙ and

-- the same of a count
pub at_zero : (xs : List ℕ) (i r : ℕ) → i < length xs → r ≡ get_or xs i r → r ≡ get_or xs i 0
at_zero xs i r small is = is ∙ get_or_default xs i r 0 small

pub kept_as : (names tags : List (Option ℕ)) (values values' : List (List ℕ)) (counts counts' : List ℕ) (has : ℕ → Bool) (count : ℕ) → values' ≡ values → counts' ≡ counts → AreKept names tags values counts has count → AreKept names tags values' counts' has count
kept_as names tags values values' counts counts' has count is and h = subst (λ vs. AreKept names tags vs counts' has count) (sym is) (subst (λ cs. AreKept names tags values cs has count) (sym and) h)

pub kept_len : (names tags : List (Option ℕ)) (values : List (List ℕ)) (counts : List ℕ) (has : ℕ → Bool) (count name n m : ℕ) → m ≡ n → AreKept (set names name (Some n)) tags values counts has count → AreKept (set names name (Some m)) tags values counts has count
kept_len names tags values counts has count name n m is h = subst (λ k. AreKept (set names name (Some k)) tags values counts has count) (sym is) h

-- with nothing in it
none_at : (n q : ℕ) → get_or (replicate {A = Option ℕ} n None) q None ≡ None
none_at zero q = refl
none_at (suc n) zero = refl
none_at (suc n) (suc q) = none_at n q

pub kept_new : (names tags : List (Option ℕ)) (values : List (List ℕ)) (counts : List ℕ) (has : ℕ → Bool) (n m : ℕ) → names ≡ replicate n None → tags ≡ replicate m None → values ≡ [] → counts ≡ [] → ((q : ℕ) → has q ≡ false) → AreKept names tags values counts has 0
kept_new names tags values counts has n m are and none none' empty =
    let names_none : (q : ℕ) → get_or names q None ≡ None = λ q. ap (λ xs. get_or xs q None) are ∙ none_at n q in
    let tags_none : (q : ℕ) → get_or tags q None ≡ None = λ q. ap (λ xs. get_or xs q None) and ∙ none_at m q in
    record {
      present = λ q. empty q ∙ ap is_some (sym (names_none q));
      number = sym (count_none is_some names (λ i small. ap is_some (names_none i)));
      named = λ q id e. absurd (none-some id (sym (names_none q) ∙ e));
      held = λ q id e. absurd (none-some id (sym (tags_none q) ∙ e));
      counted = λ id small. let zero_len : length values ≡ 0 = ap length none in absurd (omega arith);
      counts_len = ap length none' ∙ sym (ap length none);
    }

not_both : (from j : ℕ) (b : Bool) → (from ≤ j → b ≡ false) → (nat_le from j && b) ≡ false
not_both from j b f = elim (nat_le from j) as (λ t. nat_le from j ≡ t → (t && b) ≡ false) [ true ↦ λ e. f (grind (arith, nat_tests, e)) | false ↦ λ e. refl ] refl

le_and : (from k : ℕ) → from ≤ k → (nat_le from k && true) ≡ true
le_and from k le = grind (arith, nat_tests, le)

not_true : (b : Bool) → (b ≡ true → ⊥) → b ≡ false
not_true true f = absurd (f refl)
not_true false f = refl

some_within : (names : List (Option ℕ)) (k : ℕ) → is_some (get_or names k None) ≡ true → k < length names
some_within [] k e = absurd (false≢true e)
some_within (x ∷ names) zero e = omega arith
some_within (x ∷ names) (suc k) e = omega (arith, some_within names k e)

-- the least name that is present, from one on
pub least_is : (names : List (Option ℕ)) (has : ℕ → Bool) (from : ℕ) (o : Option ℕ) → ((n k : ℕ) (test : ℕ → Bool) → IsLeastBelow n test k → least_below n test ≡ Some k) → ((n : ℕ) (test : ℕ → Bool) → ((k : ℕ) → k < n → test k ≡ false) → least_below n test ≡ None) → ((q : ℕ) → has q ≡ is_some (get_or names q None)) → IfNone o ((q : ℕ) → from ≤ q → has q ≡ false) → IfSome o (λ k. from ≤ k) → IfSome o (λ k. has k ≡ true) → IfSome o (λ k. (q : ℕ) → from ≤ q → has q ≡ true → k ≤ q) → o ≡ least_below (length names) (λ name. nat_le from name && is_some (get_or names name None))
least_is names has from None law no_law is none within there least = sym (no_law (length names) _ (λ k small. not_both from k (is_some (get_or names k None)) (λ le. sym (is k) ∙ none k le)))
least_is names has from (Some k) law no_law is none within there least =
    let some : is_some (get_or names k None) ≡ true = sym (is k) ∙ there in
    sym (law (length names) k _ (record {
      below = some_within names k some;
      passes = ap (λ b. nat_le from k && b) some ∙ le_and from k within;
      least = λ j small. not_both from j (is_some (get_or names j None)) (λ le. sym (is j) ∙ not_true (has j) (λ e. let over = least j le e in omega arith));
    }))

pub map_new : (names tags : List (Option ℕ)) (values : List (List ℕ)) (n workers : ℕ) → names ≡ replicate n None → tags ≡ replicate (8 * workers) None → values ≡ [] → map_of names values tags ≡ no_records n workers
map_new names tags values n workers are and none = λ i. record { names = are i; records = map kept_record (none i); tags = and i }

and_right : (a b : Bool) → (a && b) ≡ true → b ≡ true
and_right true b h = h
and_right false b h = absurd (false≢true h)

-- the name that is found is there
pub least_in : (names : List (Option ℕ)) (values : List (List ℕ)) (tags : List (Option ℕ)) (from k : ℕ) → ((n k : ℕ) (test : ℕ → Bool) → least_below n test ≡ Some k → IsLeastBelow n test k) → Some k ≡ least_name (map_of names values tags) from → (k < length names) × (is_some (get_or names k None) ≡ true)
least_in names values tags from k law is =
    let least = law (length names) k _ (sym is) in
    (least.below, and_right (nat_le from k) (is_some (get_or names k None)) least.passes)

-- and its reply
pub next_reply : (names : List (Option ℕ)) (values : List (List ℕ)) (tags : List (Option ℕ)) (from k id : ℕ) (v : List ℕ) → Some k ≡ least_name (map_of names values tags) from → get_or names k None ≡ Some id → id < length values → v ≡ get_or values id v → At (record { 0 = k }) v ≡ (at_step (map_of names values tags) (least_name (map_of names values tags) from)).reply
next_reply names values tags from k id v is leads small value =
    let m = map_of names values tags in
    ap (λ x. At (record { 0 = k }) x) (value_is names values tags id v small value)
    ∙ ap (λ o. At (record { 0 = k }) (named_value m o)) (sym leads)
    ∙ ap (λ o. (at_step m o).reply) is
