-- Reaped magazines, one after another.
use Rattle.std.proofs.Common.{◌≡◌, ℕ, ◌*◌, ◌<◌, List, [], ◌∷◌, ◌++◌, length, All, Option, Some, refl, sym, ap, ◌∙◌, subst, arith, append_assoc, length-append}
use Rattle.std.proofs.lemmas.List.{append-nil}
use Rattle.std.proofs.lemmas.List.Elements.{All-nil, All-cons, All-head, All-tail, All-append}
use Rattle.kmem_buf.specs.Answers.{numbers_of}
use Rattle.kmem_buf.specs.Buffers.{BufState}
use Rattle.kmem_buf.specs.Homes.{Homes}
use Rattle.kmem_model.specs.CacheCounts.{made_out, made_free, total}
use Rattle.kmem_model.specs.declared.cache_entry.CacheEntry.{CacheEntry}
use Rattle.kmem_model.specs.declared.cache_entry.CacheEntry.TheVariants.{Free}
use Rattle.magazine.specs.Layer.{Layer, layer_rounds}
use Rattle.magazine.specs.Ready.{AreReady}
use Rattle.hist_lock.specs.Passes.{PassState}
use Rattle.depot.specs.Depot.{DepotSeatState, full_at, HasSwapped}
use Rattle.kmem_cache.specs.declared.locked.CacheHome.{CacheHome}
use Rattle.kmem_cache.specs.Seats.{CacheSeatState, HasActed}
use Rattle.kmem_cache.specs.Seated.{seat_of, IsSeated}
use Rattle.kmem_cache.specs.Closing.{frees_of}
use Rattle.kmem_cache.specs.Reaping.{HasFreedAll, rounds_in, HasReapedAll}
use Rattle.kmem_cache.proofs.Magazines.{length-numbers}
use Rattle.kmem_cache.proofs.Seating.{total-append}
use Rattle.kmem_cache.proofs.Flushes.{frees-append}
use Rattle.kmem_cache.proofs.Partings.{frees_made}

pub freed_chain : (a b c : PassState CacheEntry CacheHome) (xs ys : List ℕ) → HasFreedAll a b xs → HasFreedAll b c ys → HasFreedAll a c (xs ++ ys)
freed_chain a b c xs ys first second = record {
  front = (first.front.0 ++ second.front.0, sym (append_assoc a.seen first.front.0 second.front.0) ∙ (ap (λ l. l ++ second.front.0) first.front.1 ∙ second.front.1));
  mine = second.mine ∙ (ap (λ l. l ++ frees_of ys) first.mine ∙ (append_assoc a.mine (frees_of xs) (frees_of ys) ∙ ap (λ l. a.mine ++ l) (sym (frees-append xs ys))));
  left = omega (arith, first.left, second.left, length-append xs ys);
  known = second.known;
  site = second.site ∙ first.site;
  number = second.number ∙ first.number;
}

pub freed_turn : (a b : PassState CacheEntry CacheHome) (n : ℕ) → HasActed a b (Some (Free n)) → HasFreedAll a b (n ∷ [])
freed_turn a b n acted = record {
  front = (
    acted.front.0 ++ (a.number, Free n) ∷ [],
    sym (append_assoc a.seen acted.front.0 ((a.number, Free n) ∷ [])) ∙ (ap (λ l. l ++ (a.number, Free n) ∷ []) acted.front.1 ∙ sym acted.seen),
  );
  mine = acted.mine;
  left = acted.left;
  known = record { exact = acted.exact; legal = acted.legal };
  site = acted.site;
  number = acted.number;
}

full_is : (place : ℕ) (ns : List ℕ) → 0 < length ns → full_at place ns ≡ (place, ns) ∷ []
full_is place [] some_there = absurd (omega arith)
full_is place (n ∷ ns) some_there = refl

-- a full magazine came in, and its rounds were freed
module _ {X : Type 0} (constructed : X → Type 0) (places : ℕ) (pass pass' : PassState CacheEntry CacheHome) (cpu : Layer (BufState X)) (full spare' : List (BufState X))
    (depot depot' : DepotSeatState) (lent returned : ℕ) (is_full : length full ≡ 8) (swapped : HasSwapped places 1 (numbers_of full) [] depot depot')
    (freed : HasFreedAll pass pass' (numbers_of full)) where
  eight : length (numbers_of full) ≡ 8
  eight = length-numbers full ∙ is_full

  taken_more : depot'.taken ≡ depot.taken ++ (swapped.place, numbers_of full) ∷ []
  taken_more = ap (λ (d : DepotSeatState). d.taken) swapped.seat ∙ ap (λ l. depot.taken ++ l) (full_is swapped.place (numbers_of full) (omega (arith, eight)))

  put_same : depot'.put ≡ depot.put
  put_same = ap (λ (d : DepotSeatState). d.put) swapped.seat ∙ append-nil depot.put

  pub seat_reaped : (spare : Option (List (BufState X))) → IsSeated constructed pass cpu spare depot lent returned → spare' ≡ [] → IsSeated constructed pass' cpu (Some spare') depot' lent returned
  seat_reaped spare was none =
      let made = frees_made (numbers_of full) in
      record {
        kept = was.kept;
        ready = subst (λ (h : Homes). AreReady constructed h (layer_rounds cpu)) (sym (ap (λ s. s.home.buffers) freed.site)) was.ready;
        spare_is = ap Some none;
        home = ap (λ (d : DepotSeatState). d.home) swapped.seat ∙ (was.home ∙ sym (ap (λ s. s.home.buffers) freed.site));
        legal = freed.known.legal;
        exact = freed.known.exact;
        chunks = subst (λ (n : ℕ). 0 < n) (sym (ap (λ s. s.home.chunks) freed.site)) was.chunks;
        adds = omega (
          arith,
          was.adds,
          ap (total made_out) freed.mine,
          ap (total made_free) freed.mine,
          total-append made_out pass.mine (frees_of (numbers_of full)),
          total-append made_free pass.mine (frees_of (numbers_of full)),
          made.0,
          made.1,
          eight,
          ap length taken_more,
          length-append depot.taken ((swapped.place, numbers_of full) ∷ []),
          ap length put_same,
        );
      }

  pub reaped_one : (now : CacheSeatState) → seat_of pass cpu depot lent returned ≡ now →
      (m : ℕ × List ℕ) × HasReapedAll now (seat_of pass' cpu depot' lent returned) (m ∷ [])
  reaped_one now is = (
    (swapped.place, numbers_of full),
    record {
      full = All-cons (λ (m : ℕ × List ℕ). length m.1 ≡ 8) (swapped.place, numbers_of full) [] eight (All-nil (λ (m : ℕ × List ℕ). length m.1 ≡ 8));
      taken = taken_more ∙ ap (λ (s : CacheSeatState). s.depot.taken ++ (swapped.place, numbers_of full) ∷ []) is;
      freed = subst (λ (p : PassState CacheEntry CacheHome). HasFreedAll p pass' (numbers_of full ++ [])) (ap (λ (s : CacheSeatState). s.pass) is)
          (subst (λ (ns : List ℕ). HasFreedAll pass pass' ns) (sym (append-nil (numbers_of full))) freed);
      same = record {
        rounds = ap (λ (s : CacheSeatState). s.rounds) is;
        lent = ap (λ (s : CacheSeatState). s.lent) is;
        returned = ap (λ (s : CacheSeatState). s.returned) is;
        put = put_same ∙ ap (λ (s : CacheSeatState). s.depot.put) is;
      };
    },
  )

rounds-append : (xs ys : List (ℕ × List ℕ)) → rounds_in (xs ++ ys) ≡ rounds_in xs ++ rounds_in ys
rounds-append [] ys = refl
rounds-append (x ∷ xs) ys = ap (λ l. x.1 ++ l) (rounds-append xs ys) ∙ sym (append_assoc x.1 (rounds_in xs) (rounds_in ys))

-- full magazines have 8 rounds each
pub rounds_long : (ms : List (ℕ × List ℕ)) → All (λ m. length m.1 ≡ 8) ms → length (rounds_in ms) ≡ 8 * length ms
rounds_long [] all = refl
rounds_long (m ∷ ms) all =
    let P : ℕ × List ℕ → Type 0 = λ m. length m.1 ≡ 8 in
    omega (arith, length-append m.1 (rounds_in ms), All-head P m ms all, rounds_long ms (All-tail P m ms all))

pub reaped_chain : (a b c : CacheSeatState) (xs ys : List (ℕ × List ℕ)) → HasReapedAll a b xs → HasReapedAll b c ys → HasReapedAll a c (xs ++ ys)
reaped_chain a b c xs ys first second = record {
  full = All-append (λ (m : ℕ × List ℕ). length m.1 ≡ 8) xs ys first.full second.full;
  taken = second.taken ∙ (ap (λ l. l ++ ys) first.taken ∙ append_assoc a.depot.taken xs ys);
  freed = subst (λ (ns : List ℕ). HasFreedAll a.pass c.pass ns) (sym (rounds-append xs ys)) (freed_chain a.pass b.pass c.pass (rounds_in xs) (rounds_in ys) first.freed second.freed);
  same = record {
    rounds = second.same.rounds ∙ first.same.rounds;
    lent = second.same.lent ∙ first.same.lent;
    returned = second.same.returned ∙ first.same.returned;
    put = second.same.put ∙ first.same.put;
  };
}
