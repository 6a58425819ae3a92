-- Replies read back from their texts: each reply is read from its text, and what is read has the text.
use Rattle.std.proofs.Common.{◌≡◌, ◌==◌, ◌↔◌, ℕ, ◌+◌, ◌-◌, ◌^◌, ◌<◌, ◌≤◌, zero, suc, Ordering, Bool, true, false, ◌&&◌, ◌||◌, not, cond, nat_lt, List, [], ◌∷◌, ◌++◌, Option, Some, None, option_map, IfSome, length, get_or, take, drop, reverse, map, refl, sym, ap, ◌∙◌, subst, arith, codes, append_assoc, length-append, inl, inr, add-one}
use Rattle.std.specs.declared.cmp.Ordering.TheVariants.{Less, Equal, Greater}
use Rattle.std.specs.List.{list_any, list_all, position_or_len, position, HoldsAt}
use Rattle.std.specs.List.Sorted.{IsStrictlySortedBy, IsPartitionPoint}
use Rattle.std.specs.Str.{bytes_eq}
use Rattle.std.specs.Str.Parse.{digits_value, AllDigits}
use Rattle.std.specs.Char.{digit_value}
use Rattle.std.specs.Fmt.{decimal}
use Rattle.std.specs.Ordering.{nat_cmp, is_eq}
use Rattle.std.specs.Cmp.{tied_itself}
use Rattle.std.specs.Cmp.Lexicographic.{slice_cmp, nat_list_cmp_total}
use Rattle.std.specs.FinMap.{slice_cmp-IsAntisymmetric, nat_cmp-IsAntisymmetric}
use Rattle.std.specs.BTreeMap.{is_at}
use Rattle.std.proofs.Math.Seq.{drop-cons}
use Rattle.std.proofs.lemmas.Bool.{false≢true, true≢false}
use Rattle.std.proofs.lemmas.Bool.Decides.{nat_tests}
use Rattle.std.proofs.lemmas.Slice.Eq.{bytes_eq-Decides}
use Rattle.std.proofs.lemmas.Option.{cond_some, none-some, same_Some}
use Rattle.std.proofs.lemmas.List.{take-append-drop, length-reverse, get_or-reverse, get_or_default, reverse-append, length-take, length-drop}
use Rattle.std.proofs.lemmas.List.Folds.{list_any_at}
use Rattle.std.proofs.lemmas.List.Sums.{passes_at_first, position_or_len_is}
use Rattle.std.proofs.Math.ListN.{get_or-append}
use Rattle.std.proofs.Math.Seq.{get_or-append_seam, take-append_seam, drop-append_seam}
use Rattle.std.proofs.lemmas.Str.Parse.{IsNumeralModel, digit_from_value}
use Rattle.std.proofs.lemmas.Fmt.{decimal_is_IsNumeral, decimal-digits_value, first_decimal, decimal_digit}
use Rattle.kmem_text.specs.Texts.{is_value, is_value_byte, is_within}
use Rattle.kmem_text.specs.Numbers.{number_within, is_numeral, has_leading_zero}
use Rattle.kmem_text.specs.Grammar.{place_of}
use Rattle.kmem_text.specs.Replies.{reply_text}
use Rattle.kmem_text.specs.ReplyRows.{IsReply, IsReplyTo, may_reply, begins_with, value_in, name_in, last_word_len, both_in, split_at, worded, reply_in}
use Rattle.kmem_text.specs.declared.command.Command.{Command}
use Rattle.kmem_text.specs.declared.command.NameId.{NameId}
use Rattle.kmem_text.specs.declared.command.Reply.{Reply}
use Rattle.kmem_text.specs.declared.command.Reply.TheVariants.{New, Was, Full, Gone, Val, Absent, At, Number, Done, Taken, Many, Used, Idle}
use Rattle.kmem_text.proofs.Places.{place_found, none_found, sorted_by}

-- the order of names
abbrev by_bytes : List ℕ → List ℕ → Ordering
by_bytes = slice_cmp nat_cmp

-- Names

-- what ties with an element is found at that element's place
pub name_found : (names : List (List ℕ)) (name : List ℕ) (i : ℕ) → IsStrictlySortedBy by_bytes names → i < length names → HoldsAt (λ y. by_bytes y name ≡ Equal) names i → name_in names name ≡ Some (record { 0 = i })
name_found names name i sorted small ties =
    let here : get_or names i [] ≡ name = slice_cmp-IsAntisymmetric nat_cmp-IsAntisymmetric _ _ (ties []) in
    let at : is_at (by_bytes name) (get_or names i []) ≡ true = ap (λ n. is_eq (by_bytes name n)) here ∙ ap is_eq (tied_itself nat_list_cmp_total name) in
    let any : list_any (is_at (by_bytes name)) names ≡ true = list_any_at (is_at (by_bytes name)) names i [] small at in
    let place : position_or_len (is_at (by_bytes name)) names ≡ i = sym (place_found names name i sorted small ties) in
    ap (λ b. cond b (Some (place_of names name)) None) any ∙ ap (λ n. Some (record { 0 = n })) place

-- each name is found at its place
name_back : (names : List (List ℕ)) (i : ℕ) → IsStrictlySortedBy by_bytes names → i < length names → name_in names (get_or names i []) ≡ Some (record { 0 = i })
name_back names i sorted small =
    name_found names (get_or names i []) i sorted small
    (λ d. ap (λ n. by_bytes n (get_or names i [])) (get_or_default names i d [] small) ∙ tied_itself nat_list_cmp_total (get_or names i []))

pub name_missing : (names : List (List ℕ)) (name : List ℕ) → list_any (is_at (by_bytes name)) names ≡ false → name_in names name ≡ None
name_missing names name h = ap (λ b. cond b (Some (place_of names name)) None) h

any_within : (p : List ℕ → Bool) (xs : List (List ℕ)) → list_any p xs ≡ true → position_or_len p xs < length xs
any_within p [] h = absurd (false≢true h)
any_within p (x ∷ xs) h =
    elim (p x) as (λ b. p x ≡ b → position_or_len p (x ∷ xs) < length (x ∷ xs)) [
      | true ↦ λ e. let here : position_or_len p (x ∷ xs) ≡ 0 = ap (λ b. cond (not b) (1 + position_or_len p xs) 0) e in omega arith
      | false ↦ λ e.
          let behind : position_or_len p (x ∷ xs) ≡ 1 + position_or_len p xs = ap (λ b. cond (not b) (1 + position_or_len p xs) 0) e in
          let rest : list_any p xs ≡ true = sym (ap (λ b. b || list_any p xs) e) ∙ h in
          omega (arith, any_within p xs rest)
    ] refl

equal : (o : Ordering) → is_eq o ≡ true → o ≡ Equal
equal Equal h = refl
equal Less h = absurd (false≢true h)
equal Greater h = absurd (false≢true h)

tied_is : (x y : List ℕ) → is_eq (by_bytes x y) ≡ true → y ≡ x
tied_is x y h = sym (slice_cmp-IsAntisymmetric nat_cmp-IsAntisymmetric x y (equal (by_bytes x y) h))

-- a name that is found is the one at that place
name_is : (names : List (List ℕ)) (name : List ℕ) → IfSome (name_in names name) (λ id. (id.0 < length names) × (get_or names id.0 [] ≡ name))
name_is names name =
    elim (list_any (is_at (by_bytes name)) names) as (λ b. list_any (is_at (by_bytes name)) names ≡ b → IfSome (cond b (Some (place_of names name)) None) (λ id. (id.0 < length names) × (get_or names id.0 [] ≡ name))) [
      | true ↦ λ e. let within = any_within (is_at (by_bytes name)) names e in
          (within, tied_is name (get_or names (position_or_len (is_at (by_bytes name)) names) []) (passes_at_first (is_at (by_bytes name)) names [] within))
      | false ↦ λ e. tt
    ] refl

-- The last space

value_byte : (b : ℕ) → is_value_byte b ≡ true → (b == 32) ≡ false
value_byte b h = grind (arith, nat_tests)

and_left : (a b : Bool) → (a && b) ≡ true → a ≡ true
and_left true b h = refl
and_left false b h = h

and_right : (a b : Bool) → (a && b) ≡ true → b ≡ true
and_right true b h = h
and_right false b h = absurd (false≢true h)

value_bytes : (v : List ℕ) (k : ℕ) → list_all is_value_byte v ≡ true → k < length v → (get_or v k 0 == 32) ≡ false
value_bytes [] k h small = absurd (omega arith)
value_bytes (b ∷ v) zero h small = value_byte b (and_left (is_value_byte b) (list_all is_value_byte v) h)
value_bytes (b ∷ v) (suc k) h small = value_bytes v k (and_right (is_value_byte b) (list_all is_value_byte v) h) (omega arith)

-- what stands behind a space, without one itself, is the last word
last_word : (front v : List ℕ) → list_all is_value_byte v ≡ true → last_word_len ((front ++ 32 ∷ []) ++ v) ≡ Some (length v)
last_word front v h =
    let p = λ (byte : ℕ). byte == 32 in
    let back : reverse ((front ++ 32 ∷ []) ++ v) ≡ reverse v ++ 32 ∷ reverse front = reverse-append (front ++ 32 ∷ []) v ∙ ap (λ xs. reverse v ++ xs) (reverse-append front (32 ∷ [])) in
    let xs = reverse v ++ 32 ∷ reverse front in
    let size : length (reverse v) ≡ length v = length-reverse v in
    let fits : length v < length xs = omega (arith, length-append (reverse v) (32 ∷ reverse front), size) in
    let at : position_or_len p xs ≡ length v =
    position_or_len_is p xs (length v) 0 (omega arith)
    (λ k small.
    let in_front : k < length (reverse v) = omega (arith, size) in
    ap p (get_or-append (reverse v) (32 ∷ reverse front) 0 k in_front ∙ get_or-reverse v k 0 small)
    ∙ value_bytes v (length v - 1 - k) h (omega arith))
    (λ _. ap (λ n. p (get_or xs n 0)) (sym size) ∙ ap p (get_or-append_seam (reverse v) 32 (reverse front) 0)) in
    let is : nat_lt (position_or_len p xs) (length xs) ≡ true = grind (arith, nat_tests, at, fits) in
    ap (position p) back ∙ ap (λ b. cond b (Some (position_or_len p xs)) None) is ∙ ap Some at

-- the text at its last space
split_text : (text : List ℕ) (len : ℕ) → last_word_len text ≡ Some len → (text ≡ take (length text - len - 1) text ++ 32 ∷ drop (length text - len) text)
split_text text len h =
    let p = λ (byte : ℕ). byte == 32 in
    let found = cond_some (nat_lt (position_or_len p (reverse text)) (length (reverse text))) (position_or_len p (reverse text)) len h in
    let below : position_or_len p (reverse text) < length (reverse text) = grind (arith, nat_tests, found.0) in
    let size : length (reverse text) ≡ length text = length-reverse text in
    let small : len < length text = omega (arith, size, below, found.1) in
    let at : ℕ = length text - len - 1 in
    let there : (get_or text at 0 == 32) ≡ true =
    ap (λ n. get_or text n 0 == 32) (omega arith)
    ∙ ap p (sym (get_or-reverse text len 0 (omega (arith, size))))
    ∙ ap (λ n. p (get_or (reverse text) n 0)) (sym found.1)
    ∙ passes_at_first p (reverse text) 0 below in
    let is : get_or text at 0 ≡ 32 = grind (arith, nat_tests, there) in
    let next : suc at ≡ length text - len = omega arith in
    sym (take-append-drop at text) ∙ ap (λ xs. take at text ++ xs) (drop-cons text at 0 (omega arith) ∙ (λ i. is i ∷ drop (next i) text))

-- Numbers

all_digits : (digits : List ℕ) → AllDigits 10 digits → list_all (is_within 48 57) digits ≡ true
all_digits [] h = refl
all_digits (d ∷ digits) h =
    let first : is_within 48 57 d ≡ true = grind (arith, nat_tests, digit_from_value d h.0) in
    ap (λ b. b && list_all (is_within 48 57) digits) first ∙ all_digits digits h.1

are_digits : (digits : List ℕ) → list_all (is_within 48 57) digits ≡ true → AllDigits 10 digits
are_digits [] h = tt
are_digits (d ∷ digits) h =
    let digit : is_within 48 57 d ≡ true = and_left (is_within 48 57 d) (list_all (is_within 48 57) digits) h in
    let small : digit_value d < 10 = grind (arith, nat_tests, digit) in
    (small, are_digits digits (and_right (is_within 48 57 d) (list_all (is_within 48 57) digits) h))

numerals : IsNumeralModel (AllDigits 10) (digits_value 10)
numerals = record { to = λ ds h. h; from = λ ds h. h; same = λ ds h. refl }

leading : (n : ℕ) → n < 2 ^ 32 → has_leading_zero (decimal n) ≡ false
leading zero small = ap has_leading_zero (decimal_digit 0 (omega arith))
leading (suc n) small =
    let first : 48 < get_or (decimal (suc n)) 0 0 = first_decimal (suc n) (omega arith) (omega arith) in
    grind (arith, nat_tests, first)

number_back : (n : ℕ) → n < 2 ^ 32 → number_within 0 4294967295 (decimal n) ≡ Some n
number_back n small =
    let is = decimal_is_IsNumeral n (omega arith) in
    let digits : list_all (is_within 48 57) (decimal n) ≡ true = all_digits (decimal n) is.0.1 in
    let some : nat_lt 0 (length (decimal n)) ≡ true = grind (arith, nat_tests, is.0.0) in
    let numeral : is_numeral (decimal n) ≡ true = ap (λ b. b && (list_all (is_within 48 57) (decimal n) && not (has_leading_zero (decimal n)))) some ∙ ap (λ b. b && not (has_leading_zero (decimal n))) digits ∙ ap not (leading n small) in
    let ranged : is_within 0 4294967295 n ≡ true = grind (arith, nat_tests) in
    let within : is_within 0 4294967295 (digits_value 10 (decimal n)) ≡ true = ap (is_within 0 4294967295) is.1 ∙ ranged in
    ap (λ b. cond (b && is_within 0 4294967295 (digits_value 10 (decimal n))) (Some (digits_value 10 (decimal n))) None) numeral
    ∙ ap (λ b. cond b (Some (digits_value 10 (decimal n))) None) within
    ∙ ap Some is.1

one_digit : (digits : List ℕ) → get_or digits 0 0 ≡ 48 → 0 < length digits → not (has_leading_zero digits) ≡ true → length digits ≡ 1
one_digit [] z some h = absurd (omega arith)
one_digit (d ∷ []) z some h = refl
one_digit (d ∷ e ∷ digits) z some h =
    let leads : has_leading_zero (d ∷ e ∷ digits) ≡ true = grind (arith, nat_tests, z) in
    absurd (false≢true (ap not (sym leads) ∙ h))

number_is : (digits : List ℕ) → IfSome (number_within 0 4294967295 digits) (λ n. (n < 2 ^ 32) × (digits ≡ decimal n))
number_is digits =
    let small = is_within 0 4294967295 (digits_value 10 digits) in
    elim (is_numeral digits && small) as (λ b. (is_numeral digits && small) ≡ b → IfSome (cond b (Some (digits_value 10 digits)) None) (λ n. (n < 2 ^ 32) × (digits ≡ decimal n))) [
      | true ↦ λ e.
          let numeral : is_numeral digits ≡ true = and_left (is_numeral digits) small e in
          let some : nat_lt 0 (length digits) ≡ true = and_left (nat_lt 0 (length digits)) _ numeral in
          let further = and_right (nat_lt 0 (length digits)) (list_all (is_within 48 57) digits && not (has_leading_zero digits)) numeral in
          let each : AllDigits 10 digits = are_digits digits (and_left (list_all (is_within 48 57) digits) (not (has_leading_zero digits)) further) in
          let leads : not (has_leading_zero digits) ≡ true = and_right (list_all (is_within 48 57) digits) (not (has_leading_zero digits)) further in
          let ranged : is_within 0 4294967295 (digits_value 10 digits) ≡ true = and_right (is_numeral digits) small e in
          let below : digits_value 10 digits < 2 ^ 32 = grind (arith, nat_tests, ranged) in
          let nonempty : 0 < length digits = grind (arith, nat_tests, some) in
          let alone : get_or digits 0 0 ≡ 48 → length digits ≡ 1 = λ z. one_digit digits z nonempty leads in
          (below, sym (decimal-digits_value numerals digits each nonempty alone (omega (arith, below))))
      | false ↦ λ e. tt
    ] refl

-- From a reply to its text and back

value_back : (v : List ℕ) → is_value v ≡ true → value_in v ≡ Some v
value_back v h = ap (λ b. cond b (Some v) None) h

at_back : (names : List (List ℕ)) (i : ℕ) (v : List ℕ) → IsStrictlySortedBy by_bytes names → i < length names → is_value v ≡ true → split_at names ((get_or names i [] ++ 32 ∷ []) ++ v) (last_word_len ((get_or names i [] ++ 32 ∷ []) ++ v)) ≡ Some (At (record { 0 = i }) v)
at_back names i v sorted small h =
    let name = get_or names i [] in
    let text = (name ++ 32 ∷ []) ++ v in
    let size : length text ≡ length name + 1 + length v = omega (arith, length-append (name ++ 32 ∷ []) v, length-append name (32 ∷ [])) in
    let front : length text - length v - 1 ≡ length name = omega arith in
    let back : length text - length v ≡ length (name ++ 32 ∷ []) = omega (arith, length-append name (32 ∷ [])) in
    let first : take (length text - length v - 1) text ≡ name = ap (λ n. take n text) front ∙ ap (take (length name)) (append_assoc name (32 ∷ []) v) ∙ take-append_seam name (32 ∷ v) in
    let last : drop (length text - length v) text ≡ v = ap (λ n. drop n text) back ∙ drop-append_seam (name ++ 32 ∷ []) v in
    ap (split_at names text) (last_word name v (and_right (is_within 1 64 (length v)) (list_all is_value_byte v) h))
    ∙ (λ i. both_in (name_in names (first i)) (value_in (last i)))
    ∙ (λ j. both_in (name_back names i sorted small j) (value_back v h j))

pub reply_back : (names : List (List ℕ)) (reply : Reply) → IsStrictlySortedBy by_bytes names → IsReply (length names) reply → reply_in names (reply_text names reply) ≡ Some reply
reply_back names New sorted h = refl
reply_back names (Was v) sorted h = ap (option_map Was) (value_back v h)
reply_back names Full sorted h = refl
reply_back names (Gone v) sorted h = ap (option_map Gone) (value_back v h)
reply_back names (Val v) sorted h = ap (option_map Val) (value_back v h)
reply_back names Absent sorted h = refl
reply_back names (At name v) sorted h = at_back names name.0 v sorted h.0 h.1
reply_back names (Number n) sorted h = ap (option_map Number) (number_back n h)
reply_back names Done sorted h = refl
reply_back names Taken sorted h = refl
reply_back names Many sorted h = refl
reply_back names Used sorted h = refl
reply_back names Idle sorted h = refl

-- From a text to its reply

or_else : (P : Reply → Type 0) (b : Bool) (here rest : Option Reply) → (b ≡ true → IfSome here P) → IfSome rest P → IfSome (cond b here rest) P
or_else P true here rest f h = f refl
or_else P false here rest f h = h

same : (text word : List ℕ) → bytes_eq text word ≡ true → text ≡ word
same text word h = (bytes_eq-Decides text word).0 h

begun : (word text : List ℕ) → begins_with word text ≡ true → text ≡ word ++ drop (length word) text
begun word text h = sym (take-append-drop (length word) text) ∙ ap (λ w. w ++ drop (length word) text) (same (take (length word) text) word h)

-- the reply that was read is one, and has the text
abbrev Reads : List (List ℕ) → List ℕ → Reply → Type 0
Reads names text reply = IsReply (length names) reply × (text ≡ reply_text names reply)

value_is : (v : List ℕ) → IfSome (value_in v) (λ w. (is_value w ≡ true) × (v ≡ w))
value_is v = elim (is_value v) as (λ b. is_value v ≡ b → IfSome (cond b (Some v) None) (λ w. (is_value w ≡ true) × (v ≡ w))) [ true ↦ λ e. (e, refl) | false ↦ λ e. tt ] refl

if_mapped : {A : Type 0} (P : A → Type 0) (Q : Reply → Type 0) (make : A → Reply) (o : Option A) → ((x : A) → P x → Q (make x)) → IfSome o P → IfSome (option_map make o) Q
if_mapped P Q make None f h = tt
if_mapped P Q make (Some x) f h = f x h

both_are : (names : List (List ℕ)) (text first last : List ℕ) (name : Option NameId) (value : Option (List ℕ)) → text ≡ codes "at " ++ (first ++ 32 ∷ last) → IfSome name (λ id. (id.0 < length names) × (get_or names id.0 [] ≡ first)) → IfSome value (λ w. (is_value w ≡ true) × (last ≡ w)) → IfSome (both_in name value) (Reads names text)
both_are names text first last None value e h k = tt
both_are names text first last (Some id) None e h k = tt
both_are names text first last (Some id) (Some v) e h k =
    ((h.0, k.0), e ∙ (λ i. codes "at " ++ (sym h.1 i ++ 32 ∷ k.1 i)) ∙ ap (λ xs. codes "at " ++ xs) (sym (append_assoc (get_or names id.0 []) (32 ∷ []) v)))

at_is : (names : List (List ℕ)) (text : List ℕ) → begins_with (codes "at ") text ≡ true → IfSome (split_at names (drop 3 text) (last_word_len (drop 3 text))) (Reads names text)
at_is names text e =
    let t = drop 3 text in
    elim (last_word_len t) as (λ o. last_word_len t ≡ o → IfSome (split_at names t o) (Reads names text)) [
      | None ↦ λ h. tt
      | Some len ↦ λ h.
          both_are names text (take (length t - len - 1) t) (drop (length t - len) t) _ _
          (begun (codes "at ") text e ∙ ap (λ xs. codes "at " ++ xs) (split_text t len h))
          (name_is names (take (length t - len - 1) t)) (value_is (drop (length t - len) t))
    ] refl

worded_is : (names : List (List ℕ)) (text : List ℕ) → IfSome (worded names text) (Reads names text)
worded_is names text =
    let P = Reads names text in
    or_else P (begins_with (codes "was ") text) _ _ (λ e. if_mapped _ P Was (value_in (drop 4 text)) (λ v h. (h.0, begun (codes "was ") text e ∙ ap (λ w. codes "was " ++ w) h.1)) (value_is (drop 4 text)))
    (or_else P (begins_with (codes "del ") text) _ _ (λ e. if_mapped _ P Gone (value_in (drop 4 text)) (λ v h. (h.0, begun (codes "del ") text e ∙ ap (λ w. codes "del " ++ w) h.1)) (value_is (drop 4 text)))
    (or_else P (begins_with (codes "val ") text) _ _ (λ e. if_mapped _ P Val (value_in (drop 4 text)) (λ v h. (h.0, begun (codes "val ") text e ∙ ap (λ w. codes "val " ++ w) h.1)) (value_is (drop 4 text)))
    (or_else P (begins_with (codes "n ") text) _ _ (λ e. if_mapped _ P Number (number_within 0 4294967295 (drop 2 text)) (λ n h. (h.0, begun (codes "n ") text e ∙ ap (λ w. codes "n " ++ w) h.1)) (number_is (drop 2 text)))
    (or_else P (begins_with (codes "at ") text) _ None (λ e. at_is names text e) tt))))

pub reply_is : (names : List (List ℕ)) (text : List ℕ) → IfSome (reply_in names text) (Reads names text)
reply_is names text =
    let P = Reads names text in
    or_else P (bytes_eq text (codes "new")) (Some New) _ (λ e. (tt, same text (codes "new") e))
    (or_else P (bytes_eq text (codes "full")) (Some Full) _ (λ e. (tt, same text (codes "full") e))
    (or_else P (bytes_eq text (codes "none")) (Some Absent) _ (λ e. (tt, same text (codes "none") e))
    (or_else P (bytes_eq text (codes "ok")) (Some Done) _ (λ e. (tt, same text (codes "ok") e))
    (or_else P (bytes_eq text (codes "taken")) (Some Taken) _ (λ e. (tt, same text (codes "taken") e))
    (or_else P (bytes_eq text (codes "many")) (Some Many) _ (λ e. (tt, same text (codes "many") e))
    (or_else P (bytes_eq text (codes "used")) (Some Used) _ (λ e. (tt, same text (codes "used") e))
    (or_else P (bytes_eq text (codes "idle")) (Some Idle) _ (λ e. (tt, same text (codes "idle") e)) (worded_is names text))))))))

-- What read_reply promises

pub none_reads : (names : List (List ℕ)) (text : List ℕ) (command : Command) (out : Option Reply) (reply : Reply) → IsStrictlySortedBy by_bytes names → reply_in names text ≡ None → out ≡ None → (out ≡ Some reply) ↔ (IsReplyTo (length names) command reply × (text ≡ reply_text names reply))
none_reads names text command out reply sorted none is = (
  λ e. absurd (none-some reply (sym is ∙ e)),
  λ h. is ∙ sym none ∙ ap (reply_in names) h.1 ∙ reply_back names reply sorted h.0.whole,
)

pub some_reads : (names : List (List ℕ)) (text : List ℕ) (command : Command) (found reply : Reply) → IsStrictlySortedBy by_bytes names → reply_in names text ≡ Some found → may_reply command found ≡ true → (Some found ≡ Some reply) ↔ (IsReplyTo (length names) command reply × (text ≡ reply_text names reply))
some_reads names text command found reply sorted is may = (
  λ e. subst (λ o. IfSome o (λ r. IsReplyTo (length names) command r × (text ≡ reply_text names r))) e
      (let told = subst (λ o. IfSome o (Reads names text)) is (reply_is names text) in (record { allowed = may; whole = told.0 }, told.1)),
  λ h. sym is ∙ ap (reply_in names) h.1 ∙ reply_back names reply sorted h.0.whole,
)

pub other_reads : (names : List (List ℕ)) (text : List ℕ) (command : Command) (found reply : Reply) → IsStrictlySortedBy by_bytes names → reply_in names text ≡ Some found → may_reply command found ≡ false → (None ≡ Some reply) ↔ (IsReplyTo (length names) command reply × (text ≡ reply_text names reply))
other_reads names text command found reply sorted is may = (
  λ e. absurd (none-some reply e),
  λ h.
      let same : found ≡ reply = same_Some found reply (sym is ∙ ap (reply_in names) h.1 ∙ reply_back names reply sorted h.0.whole) in
      absurd (true≢false (sym h.0.allowed ∙ ap (may_reply command) (sym same) ∙ may)),
)
