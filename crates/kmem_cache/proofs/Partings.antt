-- Seats that are taken apart, and what their parts add up to.
use Rattle.std.proofs.Common.{◌≡◌, ℕ, zero, suc, ◌+◌, ◌*◌, ◌<◌, List, [], ◌∷◌, ◌++◌, length, map, reverse, All, Contains, option_and_then, refl, sym, ap, ◌∙◌, subst, arith}
use Rattle.std.specs.List.{sum_by, range_with_len}
use Rattle.std.proofs.lemmas.List.{reverse-append, reverse-reverse}
use Rattle.std.proofs.lemmas.List.Sums.{sum_by-cons, sum_by-append}
use Rattle.std.proofs.lemmas.List.Elements.{All-nil, All-cons, All-head, All-tail, All-same, All-append, All-contains, All-weaker}
use Rattle.table_sums.specs.Spread.{IsNumbering}
use Rattle.table_sums.proofs.Totals.{run_last}
use Rattle.kmem_buf.specs.Buffers.{BufState}
use Rattle.kmem_buf.specs.Homes.{Homes}
use Rattle.kmem_model.specs.CacheState.{CacheState, CacheSizes, opening, out_count}
use Rattle.kmem_model.specs.CacheHistory.{state_after, entered_all, Reaches, Follows}
use Rattle.kmem_model.specs.CacheCounts.{made_out, made_free, total, total_before, entries_in, entries_by}
use Rattle.kmem_model.specs.declared.cache_entry.CacheEntry.{CacheEntry}
use Rattle.kmem_model.specs.declared.cache_entry.CacheEntry.TheVariants.{Free}
use Rattle.magazine.specs.Layer.{Layer, layer_rounds}
use Rattle.magazine.specs.Ready.{AreReady}
use Rattle.hist_lock.specs.History.{entries_of}
use Rattle.hist_lock.specs.Passes.{PassState}
use Rattle.kmem_cache.specs.declared.locked.CacheHome.{CacheHome}
use Rattle.kmem_cache.specs.Seats.{CacheSeatState}
use Rattle.kmem_cache.specs.Closing.{frees_of, IsPart, AreParts}
use Rattle.kmem_cache.proofs.Flushes.{entered-append}
use Rattle.kmem_cache.proofs.Seating.{total-append}

-- Lists

pub reverse-cons : {A : Type 0} (x : A) (xs : List A) → reverse (x ∷ xs) ≡ reverse xs ++ x ∷ []
reverse-cons x xs = reverse-append (x ∷ []) xs

pub map-last : {A B : Type 0} (f : A → B) (xs : List A) (x : A) → map f (xs ++ x ∷ []) ≡ map f xs ++ f x ∷ []
map-last f [] x = refl
map-last f (y ∷ ys) x = ap (λ l. f y ∷ l) (map-last f ys x)

-- one more image at the end
pub map-more : {A B : Type 0} (f : A → B) (x : A) (xs : List A) → map f (reverse (x ∷ xs)) ≡ map f (reverse xs) ++ f x ∷ []
map-more f x xs = ap (map f) (reverse-cons x xs) ∙ map-last f (reverse xs) x

pub all_reverse : {A : Type 0} (P : A → Type 0) (xs : List A) → All P xs → All P (reverse xs)
all_reverse P [] all = All-nil P
all_reverse P (x ∷ xs) all =
    All-same P (reverse (x ∷ xs)) (reverse xs ++ x ∷ []) (reverse-cons x xs)
    (All-append P (reverse xs) (x ∷ []) (all_reverse P xs (All-tail P x xs all)) (All-cons P x [] (All-head P x xs all) (All-nil P)))

pub all_back : {A : Type 0} (P : A → Type 0) (xs : List A) → All P (reverse xs) → All P xs
all_back P xs all = All-same P xs (reverse (reverse xs)) (sym (reverse-reverse xs)) (all_reverse P (reverse xs) all)

pub all_unmap : {A B : Type 0} (P : B → Type 0) (f : A → B) (xs : List A) → All P (map f xs) → All (λ x. P (f x)) xs
all_unmap P f [] all = All-nil (λ x. P (f x))
all_unmap P f (x ∷ xs) all = All-cons (λ y. P (f y)) x xs (All-head P (f x) (map f xs) all) (all_unmap P f xs (All-tail P (f x) (map f xs) all))

pub sum-reverse : {A : Type 0} (f : A → ℕ) (xs : List A) → sum_by f (reverse xs) ≡ sum_by f xs
sum-reverse f [] = refl
sum-reverse f (x ∷ xs) = omega (arith, ap (sum_by f) (reverse-cons x xs), sum_by-append f (reverse xs) (x ∷ []), sum_by-cons f x [], sum_by-cons f x xs, sum-reverse f xs)

pub sum-map : {A B : Type 0} (f : B → ℕ) (g : A → B) (xs : List A) → sum_by f (map g xs) ≡ sum_by (λ x. f (g x)) xs
sum-map f g [] = refl
sum-map f g (x ∷ xs) = omega (arith, sum_by-cons f (g x) (map g xs), sum_by-cons (λ y. f (g y)) x xs, sum-map f g xs)

-- Parts

module _ {X : Type 0} (constructed : X → Type 0) where
  pub parts_last : (ss : List CacheSeatState) (ls : List (Layer (BufState X))) (s : CacheSeatState) (l : Layer (BufState X)) → AreParts constructed ss ls → IsPart constructed s l →
      AreParts constructed (ss ++ s ∷ []) (ls ++ l ∷ [])
  parts_last [] [] s l parts part = (part, tt)
  parts_last [] (k ∷ ks) s l parts part = absurd parts
  parts_last (r ∷ rs) [] s l parts part = absurd parts
  parts_last (r ∷ rs) (k ∷ ks) s l parts part = (parts.0, parts_last rs ks s l parts.1 part)

  pub parts_ready : (home : Homes) (ss : List CacheSeatState) (ls : List (Layer (BufState X))) → AreParts constructed ss ls → All (λ s. s.pass.site.home.buffers ≡ home) ss →
      All (λ l. AreReady constructed home (layer_rounds l)) ls
  parts_ready home [] [] parts all = All-nil (λ l. AreReady constructed home (layer_rounds l))
  parts_ready home [] (l ∷ ls) parts all = absurd parts
  parts_ready home (s ∷ ss) [] parts all = absurd parts
  parts_ready home (s ∷ ss) (l ∷ ls) parts all =
      let P : CacheSeatState → Type 0 = λ s. s.pass.site.home.buffers ≡ home in
      All-cons (λ l. AreReady constructed home (layer_rounds l)) l ls
      (subst (λ (h : Homes). AreReady constructed h (layer_rounds l)) (All-head P s ss all) parts.0.ready)
      (parts_ready home ss ls parts.1 (All-tail P s ss all))

  -- what the seats add up to
  pub parts_counted : (ss : List CacheSeatState) (ls : List (Layer (BufState X))) → AreParts constructed ss ls →
      sum_by (λ s. total made_out s.pass.mine) ss + 8 * sum_by (λ s. length s.depot.taken) ss + sum_by (λ s. s.returned) ss
      ≡ sum_by (λ s. total made_free s.pass.mine) ss + sum_by (λ s. s.lent) ss + sum_by (λ l. length (layer_rounds l)) ls + 8 * sum_by (λ s. length s.depot.put) ss
  parts_counted [] [] parts = refl
  parts_counted [] (l ∷ ls) parts = absurd parts
  parts_counted (s ∷ ss) [] parts = absurd parts
  parts_counted (s ∷ ss) (l ∷ ls) parts =
      omega (
        arith,
        parts.0.adds,
        parts.0.rounds,
        parts_counted ss ls parts.1,
        sum_by-cons (λ (s : CacheSeatState). total made_out s.pass.mine) s ss,
        sum_by-cons (λ (s : CacheSeatState). total made_free s.pass.mine) s ss,
        sum_by-cons (λ (s : CacheSeatState). length s.depot.taken) s ss,
        sum_by-cons (λ (s : CacheSeatState). length s.depot.put) s ss,
        sum_by-cons (λ (s : CacheSeatState). s.returned) s ss,
        sum_by-cons (λ (s : CacheSeatState). s.lent) s ss,
        sum_by-cons (λ (l : Layer (BufState X)). length (layer_rounds l)) l ls,
      )

-- Passes

-- a sum over the passes by number is one over the entries pass by pass
range_total : (w : CacheEntry → ℕ) (h : List (ℕ × CacheEntry)) (count : ℕ) → sum_by (λ n. total w (entries_by n h)) (range_with_len 0 count) ≡ total_before count w h
range_total w h zero = refl
range_total w h (suc n) =
    let f : ℕ → ℕ = λ n. total w (entries_by n h) in
    let more : suc n ≡ n + 1 = omega arith in let here : 0 + n ≡ n = omega arith in
    omega (arith, ap (λ k. sum_by f (range_with_len 0 k)) more, run_last f 0 n, ap f here, range_total w h n)

mine_total : (w : CacheEntry → ℕ) (h : List (ℕ × CacheEntry)) (ps : List (PassState CacheEntry CacheHome)) → All (λ p. entries_of p.number h ≡ p.mine) ps →
    sum_by (λ p. total w p.mine) ps ≡ sum_by (λ n. total w (entries_by n h)) (map (λ p. p.number) ps)
mine_total w h [] exact = refl
mine_total w h (p ∷ ps) exact =
    let P : PassState CacheEntry CacheHome → Type 0 = λ p. entries_of p.number h ≡ p.mine in
    omega (
      arith,
      sum_by-cons (λ (p : PassState CacheEntry CacheHome). total w p.mine) p ps,
      sum_by-cons (λ n. total w (entries_by n h)) p.number (map (λ (p : PassState CacheEntry CacheHome). p.number) ps),
      ap (total w) (All-head P p ps exact),
      mine_total w h ps (All-tail P p ps exact),
    )

-- what the passes' own entries add up to is what the history does
pub passes_total : (w : CacheEntry → ℕ) (h : List (ℕ × CacheEntry)) (count : ℕ) (ps : List (PassState CacheEntry CacheHome)) → All (λ p. entries_of p.number h ≡ p.mine) ps →
    ((weight : ℕ → ℕ) → sum_by weight (map (λ p. p.number) ps) ≡ sum_by weight (range_with_len 0 count)) → total_before count w h ≡ total w (entries_in h) →
    sum_by (λ p. total w p.mine) ps ≡ total w (entries_in h)
passes_total w h count ps exact weighs law = mine_total w h ps exact ∙ (weighs (λ n. total w (entries_by n h)) ∙ (range_total w h count ∙ law))

pub numbers_within : (h : List (ℕ × CacheEntry)) (numbers : List ℕ) (count : ℕ) → IsNumbering numbers count → All (λ x. Contains numbers x.0) h → All (λ x. x.0 < count) h
numbers_within h numbers count is others = All-weaker (λ (x : ℕ × CacheEntry). Contains numbers x.0) (λ x. x.0 < count) (λ x has. All-contains (λ n. n < count) numbers x.0 is.within has) h others

-- Frees

pub frees_made : (ns : List ℕ) → (total made_free (frees_of ns) ≡ length ns) × (total made_out (frees_of ns) ≡ 0)
frees_made [] = (refl, refl)
frees_made (n ∷ ns) = let rest = frees_made ns in (omega (arith, rest.0), omega (arith, rest.1))

-- the frees as entries of one pass
tagged : List ℕ → List (ℕ × CacheEntry)
tagged ns = map (λ n. (0, Free n)) ns

entries-append : (h g : List (ℕ × CacheEntry)) → entries_in (h ++ g) ≡ entries_in h ++ entries_in g
entries-append [] g = refl
entries-append (x ∷ xs) g = ap (λ l. x.1 ∷ l) (entries-append xs g)

tagged_entries : (ns : List ℕ) → entries_in (tagged ns) ≡ frees_of ns
unfolding tagged
tagged_entries [] = refl
tagged_entries (n ∷ ns) = ap (λ l. Free n ∷ l) (tagged_entries ns)

-- the buffers that are out after the frees that follow on a history
pub out_freed : (sizes : CacheSizes) (h : List (ℕ × CacheEntry)) (ns : List ℕ) (s t : CacheState) →
    ((history : List (ℕ × CacheEntry)) (s : CacheState) → state_after s history ≡ entered_all s (entries_in history)) →
    ((history : List (ℕ × CacheEntry)) (s : CacheState) → Reaches sizes history s → out_count s + total made_free (entries_in history) ≡ total made_out (entries_in history)) →
    Reaches sizes h s → Follows s (frees_of ns) t → out_count t + total made_free (entries_in h) + length ns ≡ total made_out (entries_in h)
out_freed sizes h ns s t follows counts reached freed =
    let long : List (ℕ × CacheEntry) = h ++ tagged ns in
    let entries : entries_in long ≡ entries_in h ++ frees_of ns = entries-append h (tagged ns) ∙ ap (λ l. entries_in h ++ l) (tagged_entries ns) in
    let ends : Reaches sizes long t =
    follows long (opening sizes) ∙ (ap (entered_all (opening sizes)) entries ∙ (entered-append (entries_in h) (frees_of ns) (opening sizes)
    ∙ (ap (option_and_then (λ v. entered_all v (frees_of ns))) (sym (follows h (opening sizes)) ∙ reached) ∙ freed))) in
    let made = frees_made ns in
    omega (
      arith,
      counts long t ends,
      ap (total made_free) entries,
      ap (total made_out) entries,
      total-append made_free (entries_in h) (frees_of ns),
      total-append made_out (entries_in h) (frees_of ns),
      made.0,
      made.1,
    )
