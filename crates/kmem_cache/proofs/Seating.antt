-- What holds of a seat's parts holds of them after each call.
use Rattle.std.proofs.Common.{◌≡◌, ℕ, Bool, true, Result, Ok, Err, MatchResult, ◌+◌, ◌*◌, ◌<◌, ⊎_elim, List, [], ◌∷◌, ◌++◌, length, take, drop, Option, Some, None, refl, sym, ap, ◌∙◌, subst, arith, length-append, length-drop}
use Rattle.std.proofs.lemmas.List.{length-take-le, append-nil}
use Rattle.kmem_buf.specs.Answers.{numbers_of}
use Rattle.kmem_buf.specs.Buffers.{BufState}
use Rattle.kmem_buf.specs.Homes.{Homes}
use Rattle.kmem_model.specs.CacheCounts.{made_out, made_free, total}
use Rattle.kmem_model.specs.declared.cache_entry.CacheEntry.{CacheEntry}
use Rattle.magazine.specs.Layer.{Layer, IsLayer, layer_rounds}
use Rattle.magazine.specs.Ready.{AreReady}
use Rattle.hist_lock.specs.History.{entries_of, listed, told}
use Rattle.hist_lock.specs.Passes.{PassState, IsTurn}
use Rattle.depot.specs.Depot.{DepotState, DepotSeatState, HasSwapped, WasRefused}
use Rattle.kmem_model.specs.declared.cache_entry.CacheEntry.TheVariants.{Alloc, Full, Begin, Idle}
use Rattle.object_cache.specs.Moves.{JobState}
use Rattle.object_cache.specs.declared.cache.BeginRefused.{BeginRefused}
use Rattle.object_cache.specs.declared.cache.BeginRefused.TheVariants as refused
use Rattle.kmem_cache.specs.declared.locked.CacheRefused.{CacheRefused}
use Rattle.kmem_cache.specs.declared.locked.CacheRefused.TheVariants as none
use Rattle.kmem_cache.specs.Turns.{IsAllocated, HasBegun}
use Rattle.kmem_cache.specs.declared.locked.CacheHome.{CacheHome}
use Rattle.kmem_cache.specs.declared.locked.Locked.{Locked}
use Rattle.kmem_model.specs.CacheState.{is_out}
use Rattle.kmem_model.specs.CacheHistory.{Reaches}
use Rattle.kmem_cache.specs.Calls.{IsOutAfter}
use Rattle.kmem_cache.specs.Locked.{sizes_at, home_under, IsLegalAt, IsStanding}
use Rattle.kmem_cache.specs.Seats.{CacheSite, CacheSeatState, buffers_at, HasTaken, HasPut, HasActed}
use Rattle.kmem_cache.specs.Seated.{IsSeated}

pub total-append : (weight : CacheEntry → ℕ) (xs ys : List CacheEntry) → total weight (xs ++ ys) ≡ total weight xs + total weight ys
total-append weight [] ys = omega arith
total-append weight (x ∷ xs) ys = omega (arith, total-append weight xs ys)

-- how many full magazines a swap leaves counted
record HasMoved (more less : ℕ) (old new : DepotSeatState) : Type 0 where
  taken : length new.taken ≡ length old.taken + more
  put : length new.put ≡ length old.put + less
  home : new.home ≡ old.home

swapped_out : (places n : ℕ) (ns : List ℕ) (old new : DepotSeatState) → HasSwapped places 1 (n ∷ ns) [] old new → HasMoved 1 0 old new
swapped_out places n ns old new swap = record {
  taken = ap (λ (s : DepotSeatState). length s.taken) swap.seat ∙ length-append old.taken ((swap.place, n ∷ ns) ∷ []);
  put = ap (λ (s : DepotSeatState). length s.put) swap.seat ∙ length-append old.put [];
  home = ap (λ (s : DepotSeatState). s.home) swap.seat;
}

swapped_in : (places : ℕ) (ns : List ℕ) (old new : DepotSeatState) → 0 < length ns → HasSwapped places 0 [] ns old new → HasMoved 0 1 old new
swapped_in places [] old new some_there swap = absurd (omega arith)
swapped_in places (n ∷ ns) old new some_there swap = record {
  taken = ap (λ (s : DepotSeatState). length s.taken) swap.seat ∙ length-append old.taken [];
  put = ap (λ (s : DepotSeatState). length s.put) swap.seat ∙ length-append old.put ((swap.place, n ∷ ns) ∷ []);
  home = ap (λ (s : DepotSeatState). s.home) swap.seat;
}

-- a take has one round less, or seven more and a full magazine from the depot
record AfterTake (rounds rounds' : List ℕ) (old new : DepotSeatState) : Type 0 where
  counted : 8 * length new.taken + length rounds + 8 * length old.put ≡ length rounds' + 1 + 8 * length old.taken + 8 * length new.put
  home : new.home ≡ old.home

after_take : (places number : ℕ) (rounds rounds' : List ℕ) (old new : DepotSeatState) → HasTaken places number rounds rounds' old new → AfterTake rounds rounds' old new
after_take places number rounds rounds' old new taken = ⊎_elim
    (λ (t : (rounds ≡ number ∷ rounds') × (new ≡ old)).
    record { counted = omega (arith, ap length t.0, ap (λ (s : DepotSeatState). length s.taken) t.1, ap (λ (s : DepotSeatState). length s.put) t.1); home = ap (λ (s : DepotSeatState). s.home) t.1 })
    (λ (t : (rounds ≡ []) × (length rounds' ≡ 7) × HasSwapped places 1 (number ∷ rounds') [] old new).
    let moved = swapped_out places number rounds' old new t.2 in
    record { counted = omega (arith, ap length t.0, t.1, moved.taken, moved.put); home = moved.home })
    taken

-- a put has one round more, or seven less and a full magazine in the depot
record AfterPut (rounds rounds' : List ℕ) (old new : DepotSeatState) : Type 0 where
  counted : 8 * length new.taken + length rounds + 1 + 8 * length old.put ≡ length rounds' + 8 * length old.taken + 8 * length new.put
  home : new.home ≡ old.home

after_put : (places number : ℕ) (rounds rounds' : List ℕ) (old new : DepotSeatState) → HasPut places number rounds rounds' old new → AfterPut rounds rounds' old new
after_put places number rounds rounds' old new put = ⊎_elim
    (λ (t : (length rounds < 16) × (rounds' ≡ number ∷ rounds) × (new ≡ old)).
    record { counted = omega (arith, ap length t.1, ap (λ (s : DepotSeatState). length s.taken) t.2, ap (λ (s : DepotSeatState). length s.put) t.2); home = ap (λ (s : DepotSeatState). s.home) t.2 })
    (λ (t : (length rounds ≡ 16) × (rounds' ≡ number ∷ take 8 rounds) × HasSwapped places 0 [] (drop 8 rounds) old new).
    let behind : length (drop 8 rounds) ≡ 8 = omega (arith, length-drop 8 rounds, t.0) in
    let front : length (take 8 rounds) ≡ 8 = length-take-le 8 rounds (omega (arith, t.0)) in
    let moved = swapped_in places (drop 8 rounds) old new (omega (arith, behind)) t.2 in
    record { counted = omega (arith, ap length t.1, front, t.0, moved.taken, moved.put); home = moved.home })
    put

module _ {X : Type 0} (constructed : X → Type 0) where
  pub seat_taken : (places number : ℕ) (pass : PassState CacheEntry CacheHome) (cpu cpu' : Layer (BufState X)) (spare spare' : Option (List (BufState X)))
      (depot depot' : DepotSeatState) (lent lent' returned : ℕ) (home : Homes) → IsSeated constructed pass cpu spare depot lent returned →
      home ≡ pass.site.home.buffers → IsLayer cpu' → AreReady constructed home (layer_rounds cpu') → spare' ≡ Some [] →
      HasTaken places number (numbers_of (layer_rounds cpu)) (numbers_of (layer_rounds cpu')) depot depot' → lent' ≡ lent + 1 →
      IsSeated constructed pass cpu' spare' depot' lent' returned
  seat_taken places number pass cpu cpu' spare spare' depot depot' lent lent' returned home was at kept ready none taken more =
      let after = after_take places number (numbers_of (layer_rounds cpu)) (numbers_of (layer_rounds cpu')) depot depot' taken in
      record {
        kept = kept;
        ready = subst (λ h. AreReady constructed h (layer_rounds cpu')) at ready;
        spare_is = none;
        home = after.home ∙ was.home;
        legal = was.legal;
        exact = was.exact;
        chunks = was.chunks;
        adds = omega (arith, was.adds, after.counted, more);
      }

  pub seat_put : (places number : ℕ) (pass : PassState CacheEntry CacheHome) (cpu cpu' : Layer (BufState X)) (spare spare' : Option (List (BufState X)))
      (depot depot' : DepotSeatState) (lent returned returned' : ℕ) (home : Homes) → IsSeated constructed pass cpu spare depot lent returned →
      home ≡ pass.site.home.buffers → IsLayer cpu' → AreReady constructed home (layer_rounds cpu') → spare' ≡ Some [] →
      HasPut places number (numbers_of (layer_rounds cpu)) (numbers_of (layer_rounds cpu')) depot depot' → returned' ≡ returned + 1 →
      IsSeated constructed pass cpu' spare' depot' lent returned'
  seat_put places number pass cpu cpu' spare spare' depot depot' lent returned returned' home was at kept ready none put more =
      let after = after_put places number (numbers_of (layer_rounds cpu)) (numbers_of (layer_rounds cpu')) depot depot' put in
      record {
        kept = kept;
        ready = subst (λ h. AreReady constructed h (layer_rounds cpu')) at ready;
        spare_is = none;
        home = after.home ∙ was.home;
        legal = was.legal;
        exact = was.exact;
        chunks = was.chunks;
        adds = omega (arith, was.adds, after.counted, more);
      }

  -- a call of the pass, by which the seat lent or took back what its entry made out or freed
  pub seat_acted : (pass pass' : PassState CacheEntry CacheHome) (cpu : Layer (BufState X)) (spare : Option (List (BufState X)))
      (depot : DepotSeatState) (lent lent' returned returned' : ℕ) (entry : Option CacheEntry) → IsSeated constructed pass cpu spare depot lent returned →
      HasActed pass pass' entry → total made_out (listed entry) + returned' + lent ≡ total made_free (listed entry) + lent' + returned →
      IsSeated constructed pass' cpu spare depot lent' returned'
  seat_acted pass pass' cpu spare depot lent lent' returned returned' entry was acted counted =
      record {
        kept = was.kept;
        ready = subst (λ (h : Homes). AreReady constructed h (layer_rounds cpu)) (sym (ap (λ s. s.home.buffers) acted.site)) was.ready;
        spare_is = was.spare_is;
        home = was.home ∙ sym (ap (λ s. s.home.buffers) acted.site);
        legal = acted.legal;
        exact = acted.exact;
        chunks = subst (λ (n : ℕ). 0 < n) (sym (ap (λ s. s.home.chunks) acted.site)) was.chunks;
        adds = omega (
          arith,
          was.adds,
          counted,
          ap (total made_out) acted.mine,
          ap (total made_free) acted.mine,
          total-append made_out pass.mine (listed entry),
          total-append made_free pass.mine (listed entry),
        );
      }

-- a turn on the object under the lock is a call of the pass
pub acted : {K Out : Type 0} (tells : Locked K → Locked K → List (ℕ × CacheEntry) → Out → Option CacheEntry → Type 0) (old new : PassState CacheEntry CacheHome)
    (out : Out) (h : List (ℕ × CacheEntry)) (entry : Option CacheEntry) → IsTurn IsStanding home_under tells old new out h entry → HasActed old new entry
acted {K} tells old new out h entry t =
    let home : home_under t.after ≡ new.site.home = t.stands_now.1 ∙ sym (ap (λ s. s.home) t.site) in
    let now : IsLegalAt (home_under t.after) (told h old.number entry) = (t.after.cache.state, t.stands_now.0.reached) in
    record {
      history = h;
      front = t.met.front;
      seen = t.seen;
      mine = t.mine;
      exact = subst (λ (n : ℕ). entries_of n new.seen ≡ new.mine) (sym t.number) t.exact;
      legal = subst (λ (k : CacheHome). IsLegalAt k new.seen) home (subst (λ (seen : List (ℕ × CacheEntry)). IsLegalAt (home_under t.after) seen) (sym t.seen) now);
      left = t.left;
      site = t.site;
      number = t.number;
    }

-- a call of the pass without a turn
pub not_acted : (pass : PassState CacheEntry CacheHome) → entries_of pass.number pass.seen ≡ pass.mine → IsLegalAt pass.site.home pass.seen → HasActed pass pass None
not_acted pass exact legal = record {
  history = pass.seen;
  front = ([], append-nil pass.seen);
  seen = refl;
  mine = sym (append-nil pass.mine);
  exact = exact;
  legal = legal;
  left = omega arith;
  site = refl;
  number = refl;
}

-- what the entry of a call makes out and frees
pub record Counts (made freed : ℕ) (entry : Option CacheEntry) : Type 0 where
  pub made_is : total made_out (listed entry) ≡ made
  pub freed_is : total made_free (listed entry) ≡ freed

counts_at : (entry entry' : Option CacheEntry) (made freed : ℕ) → entry ≡ entry' → Counts made freed entry' → Counts made freed entry
counts_at entry entry' made freed same counts = subst (λ (e : Option CacheEntry). Counts made freed e) (sym same) counts

module _ {X : Type 0} (constructed : X → Type 0) (never_refuses : Bool) (home : Homes) where
  pub alloc_counts : (at : ℕ) (r : Result (BufState X) CacheRefused) (entry : Option CacheEntry) → IsAllocated constructed never_refuses home at r entry →
      MatchResult r (λ _. Counts 1 0 entry) (λ _. Counts 0 0 entry)
  alloc_counts at (Ok buf) entry says = counts_at entry (Some (Alloc buf.number)) 1 0 says.0 (record { made_is = refl; freed_is = refl })
  alloc_counts at (Err (none.Full note)) entry says = counts_at entry (Some Full) 0 0 says.0 (record { made_is = refl; freed_is = refl })
  alloc_counts at (Err none.NoMemory) entry says = counts_at entry None 0 0 says.0 (record { made_is = refl; freed_is = refl })

  pub begin_counts : (r : Result (JobState X) BeginRefused) (entry : Option CacheEntry) → HasBegun constructed never_refuses home r entry →
      MatchResult r (λ _. Counts 1 0 entry) (λ _. Counts 0 0 entry)
  begin_counts (Ok job) entry says = counts_at entry (Some (Begin job.move.no job.move.from job.move.to)) 1 0 says.0 (record { made_is = refl; freed_is = refl })
  begin_counts (Err refused.Idle) entry says = counts_at entry (Some Idle) 0 0 says (record { made_is = refl; freed_is = refl })
  begin_counts (Err refused.NoMemory) entry says = counts_at entry None 0 0 says.0 (record { made_is = refl; freed_is = refl })

-- A seat's pass, as the caller of a call sees it
module _ (site : CacheSite) (now : CacheSeatState) (pass : PassState CacheEntry CacheHome) (is : pass ≡ now.pass) (of : now.pass.site ≡ site.lock) where
  pub acted_here : (pass' : PassState CacheEntry CacheHome) (entry : Option CacheEntry) → HasActed pass pass' entry → HasActed now.pass pass' entry
  acted_here pass' entry done = subst (λ (p : PassState CacheEntry CacheHome). HasActed p pass' entry) is done

  pub home_here : pass.site.home.buffers ≡ buffers_at site
  home_here = ap (λ (p : PassState CacheEntry CacheHome). p.site.home.buffers) is ∙ ap (λ s. s.home.buffers) of

-- how long the history is after a turn
pub seen_long : {K Out : Type 0} (tells : Locked K → Locked K → List (ℕ × CacheEntry) → Out → Option CacheEntry → Type 0) (old new : PassState CacheEntry CacheHome)
    (out : Out) (h : List (ℕ × CacheEntry)) (entry : Option CacheEntry) → IsTurn IsStanding home_under tells old new out h entry → length new.seen ≡ length h + length (listed entry)
seen_long tells old new out h entry t = ap length t.seen ∙ told_long h old.number entry
  where
    told_long : (h : List (ℕ × CacheEntry)) (n : ℕ) (entry : Option CacheEntry) → length (told h n entry) ≡ length h + length (listed entry)
    told_long h n None = omega arith
    told_long h n (Some e) = length-append h ((n, e) ∷ [])

-- what was out under the lock at a turn without an entry is out after what the pass has then seen
pub out_after : {K Out : Type 0} (tells : Locked K → Locked K → List (ℕ × CacheEntry) → Out → Option CacheEntry → Type 0) (old new : PassState CacheEntry CacheHome)
    (out : Out) (h : List (ℕ × CacheEntry)) (entry : Option CacheEntry) (t : IsTurn IsStanding home_under tells old new out h entry) (home : CacheHome) (b : ℕ) →
    old.site.home ≡ home → entry ≡ None → is_out t.before.cache.state b ≡ true → IsOutAfter home new.seen b
out_after tells old new out h entry t home b at none is =
    let seen : h ≡ new.seen = sym (t.seen ∙ ap (told h old.number) none) in
    let here : home_under t.before ≡ home = t.stood.1 ∙ at in (
      t.before.cache.state,
      subst (λ (k : CacheHome). Reaches (sizes_at k) new.seen t.before.cache.state) here
          (subst (λ (l : List (ℕ × CacheEntry)). Reaches (sizes_at (home_under t.before)) l t.before.cache.state) seen t.stood.0.reached),
      is,
    )

-- a refusal of the depot, as the caller sees the depot and the seat
pub refused_here : (wanted : ℕ) (depot : DepotState) (site : CacheSite) (old new : DepotSeatState) (now : CacheSeatState) → depot ≡ site.depot → old ≡ now.depot →
    WasRefused depot.places wanted old new → WasRefused site.depot.places wanted now.depot new
refused_here wanted depot site old new now at is refused =
    subst (λ (d : DepotSeatState). WasRefused site.depot.places wanted d new) is
    (subst (λ (n : ℕ). WasRefused n wanted old new) (ap (λ (d : DepotState). d.places) at) refused)
