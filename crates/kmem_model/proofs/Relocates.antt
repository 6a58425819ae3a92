-- A heap stands for the same map after its right answer about a move: where an object moves with all its names, and where a leftover goes.
use Rattle.std.proofs.Common.{◌≡◌, ◌≢◌, ℕ, zero, suc, ◌+◌, ◌<◌, ◌==◌, nat_lt, Bool, true, false, cond, List, [], ◌∷◌, length, get_or, set, map, count_by, Option, Some, None, is_some, is_none, option_map, option_and_then, sym, ◌∙◌, ap, ap₂, refl, subst, arith, ⊎_elim}
use Rattle.std.proofs.lemmas.Bool.{both_ways, cases_eq, eq-eqb, ne_eqb, eqb-true, false_from_ne_true, lt-ltb}
use Rattle.std.proofs.lemmas.List.{get_or-set_same, get_or-set_other, length-set, length-map, get_or-map}
use Rattle.kmem_model.specs.CacheOrder.{is_the}
use Rattle.kmem_model.specs.Records.{RecordMap, IsValid, is_live}
use Rattle.kmem_model.specs.Heap.{Object, HeapState, address_of, hold_at, object_at, record_of, has_record, is_leftover, address_in, IsTiedObject, IsTied, IsPaired}
use Rattle.kmem_model.specs.declared.cache_entry.Said.TheVariants as said
use Rattle.kmem_model.specs.Says.{answer_about, says, moved_address, moved_name, relocated, without_object}
use Rattle.kmem_model.proofs.CacheLists.{count-cons, count-set_same, count-set_less, count-set_more, counted, get_or-map_default, get_or-set_none}
use Rattle.kmem_model.proofs.RecordsValid.{is_the_same, is_the_some, read_within, live_within, none_lead}
use Rattle.kmem_model.proofs.Heaps.{name_lives, tag_lives, live_object, valued_used}

-- Names after a move

pub read_moved : (old new : ℕ) (xs : List (Option ℕ)) (i : ℕ) → get_or (map (moved_name old new) xs) i None ≡ moved_name old new (get_or xs i None)
read_moved old new [] i = refl
read_moved old new (x ∷ xs) zero = refl
read_moved old new (x ∷ xs) (suc i) = read_moved old new xs i

-- a name that leads elsewhere leads there after the move
moved_off : (old new : ℕ) (o : Option ℕ) (c : ℕ) → c ≢ old → c ≢ new → is_the (moved_name old new o) c ≡ is_the o c
moved_off old new None c far apart = refl
moved_off old new (Some d) c far apart = by (d == old) refl
  where
    by : (t : Bool) → (d == old) ≡ t → is_the (moved_name old new (Some d)) c ≡ (d == c)
    by true e =
        ap (λ t. is_the (cond t (Some new) (Some d)) c) e
        ∙ (ne_eqb new c (λ h. apart (sym h)) ∙ sym (ne_eqb d c (λ h. far (sym h ∙ eqb-true d old e))))
    by false e = ap (λ t. is_the (cond t (Some new) (Some d)) c) e

-- a name leads to the new place where it led to the old one
moved_on : (old new : ℕ) (o : Option ℕ) → is_the o new ≡ false → is_the (moved_name old new o) new ≡ is_the o old
moved_on old new None none = refl
moved_on old new (Some d) none = by (d == old) refl
  where
    by : (t : Bool) → (d == old) ≡ t → is_the (moved_name old new (Some d)) new ≡ (d == old)
    by true e = ap (λ t. is_the (cond t (Some new) (Some d)) new) e ∙ (eq-eqb new new refl ∙ sym e)
    by false e = ap (λ t. is_the (cond t (Some new) (Some d)) new) e ∙ (none ∙ sym e)

-- no name leads to the old place
moved_from : (old new : ℕ) (o : Option ℕ) → new ≢ old → is_the (moved_name old new o) old ≡ false
moved_from old new None apart = refl
moved_from old new (Some d) apart = by (d == old) refl
  where
    by : (t : Bool) → (d == old) ≡ t → is_the (moved_name old new (Some d)) old ≡ false
    by true e = ap (λ t. is_the (cond t (Some new) (Some d)) old) e ∙ ne_eqb new old apart
    by false e = ap (λ t. is_the (cond t (Some new) (Some d)) old) e ∙ e

count_moved : (old new c d : ℕ) (xs : List (Option ℕ)) → ((i : ℕ) → is_the (moved_name old new (get_or xs i None)) c ≡ is_the (get_or xs i None) d) →
    count_by (λ a. is_the a c) (map (moved_name old new) xs) ≡ count_by (λ a. is_the a d) xs
count_moved old new c d [] same = refl
count_moved old new c d (x ∷ xs) same =
    count-cons (λ a. is_the a c) (moved_name old new x) (map (moved_name old new) xs)
    ∙ (ap₂ (λ (b : Bool) (n : ℕ). cond b 1 0 + n) (same 0) (count_moved old new c d xs (λ i. same (suc i))) ∙ sym (count-cons (λ a. is_the a d) x xs))

-- The heap after a move

module _ (h : HeapState) (old new : ℕ) (o : Object) (here : object_at h old ≡ Some o) (empty : object_at h new ≡ None) (low : new < length h.objects) where
  pub apart : new ≢ old
  apart same = both_ways (is_some (object_at h new)) (ap is_some empty) (ap (λ n. is_some (object_at h n)) same ∙ ap is_some here)

  pub at_new : get_or (set (set h.objects new (object_at h old)) old None) new None ≡ Some o
  at_new =
      get_or-set_other (set h.objects new (object_at h old)) old new None None apart
      ∙ (get_or-set_same h.objects new (object_at h old) None low ∙ here)

  pub at_old : get_or (set (set h.objects new (object_at h old)) old None) old None ≡ None
  at_old =
      get_or-set_same (set h.objects new (object_at h old)) old None None
      (omega (arith, length-set h.objects new (object_at h old), read_within h.objects old o here))

  pub at_other : (c : ℕ) → c ≢ old → c ≢ new → get_or (set (set h.objects new (object_at h old)) old None) c None ≡ object_at h c
  at_other c far off_new =
      get_or-set_other (set h.objects new (object_at h old)) old c None None far ∙ get_or-set_other h.objects new c (object_at h old) None off_new

  module _ (tied : IsTied h) (free : o.holds ≡ 0) (used : length o.names + o.holds ≢ 0) where
    unled : (xs : List (Option ℕ)) → ((i c : ℕ) → get_or xs i None ≡ Some c → is_some (object_at h c) ≡ true) → (i : ℕ) → get_or xs i None ≢ Some new
    unled xs there i leads = both_ways (is_some (object_at h new)) (ap is_some empty) (there i new leads)

    -- nothing leads to the new place
    no_name_new : (i : ℕ) → is_the (get_or h.names i None) new ≡ false
    no_name_new i = false_from_ne_true (is_the (get_or h.names i None) new) (λ leads. unled h.names tied.named i (is_the_some (get_or h.names i None) new leads))

    no_tag_new : (i : ℕ) → is_the (get_or h.tags i None) new ≡ false
    no_tag_new i = false_from_ne_true (is_the (get_or h.tags i None) new) (λ leads. unled h.tags tied.held i (is_the_some (get_or h.tags i None) new leads))

    was : IsTiedObject h old o
    was = tied.objects old o here

    -- no tag leads to the old place
    no_tag_old : (i : ℕ) → is_the (get_or h.tags i None) old ≡ false
    no_tag_old i =
        false_from_ne_true (is_the (get_or h.tags i None) old)
        (λ leads.
        omega (arith, free, was.holds, counted (λ a. is_the a old) h.tags i None (read_within h.tags i old (is_the_some (get_or h.tags i None) old leads)) leads))

    named_at : (name c : ℕ) → address_of (relocated h old new) name ≡ Some c → is_some (object_at (relocated h old new) c) ≡ true
    named_at name c leads =
        let is : is_the (moved_name old new (address_of h name)) c ≡ true =
        is_the_same (moved_name old new (address_of h name)) c (sym (read_moved old new h.names name) ∙ leads) in
        ⊎_elim (λ at. ap (λ n. is_some (get_or (set (set h.objects new (object_at h old)) old None) n None)) at ∙ ap is_some at_new)
        (λ off_new.
        ⊎_elim
        (λ at. absurd (both_ways (is_the (moved_name old new (address_of h name)) c) (ap (is_the (moved_name old new (address_of h name))) at ∙ moved_from old new (address_of h name) apart) is))
        (λ far.
        ap is_some (at_other c far off_new)
        ∙ tied.named name c (is_the_some (address_of h name) c (sym (moved_off old new (address_of h name) c far off_new) ∙ is)))
        (cases_eq c old))
        (cases_eq c new)

    held_at_c : (place c : ℕ) → hold_at h place ≡ Some c → is_some (object_at (relocated h old new) c) ≡ true
    held_at_c place c leads =
        let is : is_the (hold_at h place) c ≡ true = is_the_same (hold_at h place) c leads in
        ap is_some
        (at_other c (λ at. both_ways (is_the (hold_at h place) c) (ap (is_the (hold_at h place)) at ∙ no_tag_old place) is)
        (λ at. both_ways (is_the (hold_at h place) c) (ap (is_the (hold_at h place)) at ∙ no_tag_new place) is))
        ∙ tied.held place c leads

    tied_here : IsTiedObject (relocated h old new) new o
    tied_here =
        record {
          names = λ name.
              was.names name
              ∙ (sym (moved_on old new (address_of h name) (no_name_new name))
              ∙ ap (λ a. is_the a new) (sym (read_moved old new h.names name)));
          once = was.once ∙ sym (count_moved old new new old h.names (λ i. moved_on old new (get_or h.names i None) (no_name_new i)));
          holds = free ∙ sym (none_lead h.tags new (unled h.tags tied.held));
          blank = λ none. absurd (used none);
        }

    tied_there : (c : ℕ) (p : Object) → c ≢ old → c ≢ new → IsTiedObject h c p → IsTiedObject (relocated h old new) c p
    tied_there c p far off_new t =
        record {
          names = λ name.
              t.names name ∙ (sym (moved_off old new (address_of h name) c far off_new) ∙ ap (λ a. is_the a c) (sym (read_moved old new h.names name)));
          once = t.once ∙ sym (count_moved old new c c h.names (λ i. moved_off old new (get_or h.names i None) c far off_new));
          holds = t.holds;
          blank = t.blank;
        }

    same_object : (x y : Object) → ◌≡◌ {A = Option Object} (Some x) (Some y) → x ≡ y
    same_object x y e = cc

    none_is : (x : Object) → ◌≡◌ {A = Option Object} None (Some x) → ⊥
    none_is x e = cc

    pub tied_moved : IsTied (relocated h old new)
    tied_moved =
        record {
          named = named_at;
          held = held_at_c;
          objects = λ c p is_at.
              ⊎_elim
              (λ at.
              subst (λ n. IsTiedObject (relocated h old new) n p) (sym at)
              (subst (λ q. IsTiedObject (relocated h old new) new q)
              (same_object o p (sym at_new ∙ (ap (λ n. get_or (set (set h.objects new (object_at h old)) old None) n None) (sym at) ∙ is_at))) tied_here))
              (λ off_new.
              ⊎_elim
              (λ at. absurd (none_is p (sym at_old ∙ (ap (λ n. get_or (set (set h.objects new (object_at h old)) old None) n None) (sym at) ∙ is_at))))
              (λ far. tied_there c p far off_new (tied.objects c p (sym (at_other c far off_new) ∙ is_at))) (cases_eq c old))
              (cases_eq c new);
        }

    -- The map stays

    module _ (m : RecordMap) (a : List ℕ) (valid : IsValid m) (s : IsPaired m a h) (lives : has_record (object_at h old) ≡ true) where
      no_new : (j : ℕ) → is_live m j ≡ true → address_in a j ≢ new
      no_new j live same = both_ways (has_record (object_at h new)) (ap has_record empty) (live_object m a h j (object_at h new) s live (ap (object_at h) same))

      address_moved : (j : ℕ) → is_live m j ≡ true → address_in (map (moved_address old new) a) j ≡ moved_address old new (address_in a j)
      address_moved j live = get_or-map (moved_address old new) a j 0 0 (omega (arith, s.size, live_within m j live))

      moved_is : (c : ℕ) → c ≡ old → moved_address old new c ≡ new
      moved_is c e = ap (λ t. cond t new c) (eq-eqb c old e)

      moved_not : (c : ℕ) → c ≢ old → moved_address old new c ≡ c
      moved_not c far = ap (λ t. cond t new c) (ne_eqb c old far)

      names_moved : (xs : List (Option ℕ)) → ((i j : ℕ) → get_or xs i None ≡ Some j → is_live m j ≡ true) →
          map (moved_name old new) (map (option_map (address_in a)) xs) ≡ map (option_map (address_in (map (moved_address old new) a))) xs
      names_moved [] live = refl
      names_moved (x ∷ xs) live = ap₂ (λ (y : Option ℕ) (ys : List (Option ℕ)). y ∷ ys) (one x (live 0)) (names_moved xs (λ i. live (suc i)))
        where
          one : (y : Option ℕ) → ((j : ℕ) → y ≡ Some j → is_live m j ≡ true) → moved_name old new (option_map (address_in a) y) ≡ option_map (address_in (map (moved_address old new) a)) y
          one None l = refl
          one (Some j) l =
              ⊎_elim
              (λ at. ap (λ t. cond t (Some new) (Some (address_in a j))) (eq-eqb (address_in a j) old at) ∙ ap Some (sym (address_moved j (l j refl) ∙ moved_is (address_in a j) at)))
              (λ far. ap (λ t. cond t (Some new) (Some (address_in a j))) (ne_eqb (address_in a j) old far) ∙ ap Some (sym (address_moved j (l j refl) ∙ moved_not (address_in a j) far)))
              (cases_eq (address_in a j) old)

      tags_moved : (xs : List (Option ℕ)) → ((i j : ℕ) → get_or xs i None ≡ Some j → is_live m j ≡ true) → ((i j : ℕ) → get_or xs i None ≡ Some j → address_in a j ≢ old) →
          map (option_map (address_in a)) xs ≡ map (option_map (address_in (map (moved_address old new) a))) xs
      tags_moved [] live far = refl
      tags_moved (x ∷ xs) live far = ap₂ (λ (y : Option ℕ) (ys : List (Option ℕ)). y ∷ ys) (one x (live 0) (far 0)) (tags_moved xs (λ i. live (suc i)) (λ i. far (suc i)))
        where
          one : (y : Option ℕ) → ((j : ℕ) → y ≡ Some j → is_live m j ≡ true) → ((j : ℕ) → y ≡ Some j → address_in a j ≢ old) → option_map (address_in a) y ≡ option_map (address_in (map (moved_address old new) a)) y
          one None l f = refl
          one (Some j) l f = ap Some (sym (address_moved j (l j refl) ∙ moved_not (address_in a j) (f j refl)))

      far_tag : (i j : ℕ) → get_or m.tags i None ≡ Some j → address_in a j ≢ old
      far_tag i j is at =
          both_ways (is_the (hold_at h i) old) (no_tag_old i)
          (is_the_same (hold_at h i) old (ap (λ xs. get_or xs i None) s.tags ∙ (get_or-map_default (option_map (address_in a)) m.tags i None ∙ (ap (option_map (address_in a)) is ∙ ap Some at))))

      -- apart addresses stay apart
      apart_still : (c d : ℕ) → c ≢ new → d ≢ new → moved_address old new c ≡ moved_address old new d → c ≡ d
      apart_still c d off_c off_d same =
          ⊎_elim
          (λ at.
          ⊎_elim (λ too. at ∙ sym too) (λ far. absurd (off_d (sym (moved_not d far) ∙ (sym same ∙ moved_is c at)))) (cases_eq d old))
          (λ far.
          ⊎_elim (λ at. absurd (off_c (sym (moved_not c far) ∙ (same ∙ moved_is d at)))) (λ away. sym (moved_not c far) ∙ (same ∙ moved_not d away)) (cases_eq d old))
          (cases_eq c old)

      record_moved : (c : ℕ) → c ≢ new → option_and_then record_of (object_at (relocated h old new) (moved_address old new c)) ≡ option_and_then record_of (object_at h c)
      record_moved c off_new =
          ⊎_elim
          (λ at.
          ap (λ n. option_and_then record_of (object_at (relocated h old new) n)) (moved_is c at)
          ∙ (ap (option_and_then record_of) at_new ∙ sym (ap (λ n. option_and_then record_of (object_at h n)) at ∙ ap (option_and_then record_of) here)))
          (λ far.
          ap (λ n. option_and_then record_of (object_at (relocated h old new) n)) (moved_not c far)
          ∙ ap (option_and_then record_of) (at_other c far off_new))
          (cases_eq c old)

      pub stands_moved : IsPaired m (map (moved_address old new) a) (relocated h old new)
      stands_moved =
          record {
            size = length-map a (moved_address old new) ∙ s.size;
            names = ap (map (moved_name old new)) s.names ∙ names_moved m.names (λ i j is. valid.named i j is);
            tags = s.tags ∙ tags_moved m.tags (λ i j is. valid.held i j is) far_tag;
            records = λ j live.
                ap (λ n. option_and_then record_of (object_at (relocated h old new) n)) (address_moved j live)
                ∙ (record_moved (address_in a j) (no_new j live) ∙ s.records j live);
            apart = λ i j live other same.
                s.apart i j live other
                (apart_still (address_in a i) (address_in a j) (no_new i live) (no_new j other) (sym (address_moved i live) ∙ (same ∙ address_moved j other)));
            count =
                omega (
                  arith,
                  s.count,
                  count-set_more has_record h.objects new (object_at h old) None low (ap has_record empty) lives,
                  count-set_less has_record (set h.objects new (object_at h old)) old None None
                      (omega (arith, length-set h.objects new (object_at h old), read_within h.objects old o here))
                      (ap has_record (get_or-set_other h.objects new old (object_at h old) None (λ e. apart (sym e))) ∙ lives) refl,
                );
            tied = tied_moved;
          }

-- What an answer says of the object

-- an object that may move
pub record IsMovable (x : Option Object) : Type 0 where
  pub o : Object
  pub is : x ≡ Some o
  pub has : is_some o.value ≡ true
  pub free : o.holds ≡ 0

pub yes_is : (x : Option Object) → said.Yes ≡ answer_about x → IsMovable x
yes_is None e = absurd (cc)
yes_is (Some o) e = by o.value o.fixed o.holds refl refl e
  where
    later : said.Yes ≡ said.Later → ⊥
    later told = cc

    by : (v : Option (List ℕ)) (f : Bool) (n : ℕ) → o.value ≡ v → o.holds ≡ n → said.Yes ≡ cond (is_none v) said.DontNeed (cond f said.No (cond (nat_lt 0 n) said.Later said.Yes)) → IsMovable (Some o)
    by None f n is k told = absurd (cc)
    by (Some v) true n is k told = absurd (cc)
    by (Some v) false zero is k told = record { o = o; is = refl; has = ap is_some is; free = k }
    by (Some v) false (suc n) is k told = absurd (later (told ∙ ap (λ t. cond t said.Later said.Yes) (lt-ltb 0 (suc n) (omega arith))))

pub need_is : (x : Option Object) → said.DontNeed ≡ answer_about x → is_leftover x ≡ true
need_is None e = absurd (cc)
need_is (Some o) e = by o.value o.fixed (nat_lt 0 o.holds) e
  where
    by : (v : Option (List ℕ)) (f t : Bool) → said.DontNeed ≡ cond (is_none v) said.DontNeed (cond f said.No (cond t said.Later said.Yes)) → is_none v ≡ true
    by None f t told = refl
    by (Some v) true t told = absurd (cc)
    by (Some v) false true told = absurd (cc)
    by (Some v) false false told = absurd (cc)

-- The two answers that change a heap

pub moved_stands : (m : RecordMap) (a : List ℕ) (h : HeapState) (old new : ℕ) → IsValid m → IsPaired m a h → object_at h new ≡ None → new < length h.objects → says h true old ≡ said.Yes →
    IsPaired m (map (moved_address old new) a) (relocated h old new)
moved_stands m a h old new valid s empty low answer =
    let it = yes_is (object_at h old) (sym answer) in
    stands_moved h old new it.o it.is empty low s.tied it.free (valued_used h old it.o (s.tied.objects old it.o it.is) it.has) m a valid s (ap has_record it.is ∙ it.has)

-- an object without a record is one that no live id has, and so no name and no tag
pub without_stands : (m : RecordMap) (a : List ℕ) (h : HeapState) (old : ℕ) → IsValid m → IsPaired m a h → says h true old ≡ said.DontNeed → IsPaired m a (without_object h old)
without_stands m a h old valid s unneeded =
    record {
      size = s.size;
      names = s.names;
      tags = s.tags;
      records = λ j live. ap (option_and_then record_of) (at_other (address_in a j) (off j live)) ∙ s.records j live;
      apart = s.apart;
      count = count-set_same has_record h.objects old None None (sym none) ∙ s.count;
      tied =
          record {
            named = λ name c leads.
                ap is_some (at_other c (λ same. let at = name_lives m a h name old valid s (leads ∙ ap Some same) in off at.id at.live at.address)) ∙ s.tied.named name c leads;
            held = λ place c leads.
                ap is_some (at_other c (λ same. let at = tag_lives m a h place old valid s (leads ∙ ap Some same) in off at.id at.live at.address)) ∙ s.tied.held place c leads;
            objects = λ c o is. ⊎_elim
                (λ same. absurd (nothing o (sym (get_or-set_none h.objects old) ∙ (ap (λ n. get_or (set h.objects old None) n None) (sym same) ∙ is))))
                (λ far. untouched c o (s.tied.objects c o (sym (at_other c far) ∙ is)))
                (cases_eq c old);
          };
    }
  where
    without_record : (x : Option Object) → is_leftover x ≡ true → has_record x ≡ false
    without_record None e = refl
    without_record (Some o) e = by o.value e
      where
        by : (v : Option (List ℕ)) → is_none v ≡ true → is_some v ≡ false
        by None h = refl
        by (Some x) h = absurd (both_ways false refl h)

    none : has_record (object_at h old) ≡ false
    none = without_record (object_at h old) (need_is (object_at h old) (sym unneeded))

    off : (j : ℕ) → is_live m j ≡ true → address_in a j ≢ old
    off j live same = both_ways (has_record (object_at h old)) none (live_object m a h j (object_at h old) s live (ap (object_at h) same))

    at_other : (c : ℕ) → c ≢ old → get_or (set h.objects old None) c None ≡ object_at h c
    at_other c far = get_or-set_other h.objects old c None None far

    nothing : (o : Object) → ◌≡◌ {A = Option Object} None (Some o) → ⊥
    nothing o e = cc

    untouched : (c : ℕ) (o : Object) → IsTiedObject h c o → IsTiedObject (without_object h old) c o
    untouched c o t = record { names = t.names; once = t.once; holds = t.holds; blank = t.blank }
