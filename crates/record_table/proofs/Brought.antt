-- What a put over the cache comes to.
use Rattle.std.proofs.Common.{◌≡◌, ℕ, ◌+◌, ◌&&◌, Bool, true, false, cond, List, [], ◌∷◌, ◌++◌, length, Option, Some, None, is_some, Result, Ok, Err, ⊎_elim, sym, ap, ◌∙◌, refl, subst, arith, add-zero}
use Rattle.std.specs.Option.{IfSome}
use Rattle.std.proofs.lemmas.Bool.{both_ways}
use Rattle.std.proofs.lemmas.List.{append-nil, length-append}
use Rattle.atomic_table.specs.Seated.{TableId}
use Rattle.kmem_text.specs.declared.command.NameId.{NameId}
use Rattle.kmem_text.specs.declared.command.Command.{Command}
use Rattle.kmem_text.specs.declared.command.Command.TheVariants.{Put}
use Rattle.kmem_text.specs.declared.command.Reply.{Reply}
use Rattle.kmem_text.specs.declared.command.Reply.TheVariants as said
use Rattle.kmem_buf.specs.Buffers.{BufState}
use Rattle.kmem_buf.specs.declared.home.FullNote.{FullNote}
use Rattle.kmem_model.specs.Heap.{Object}
use Rattle.kmem_model.specs.Records.{no_records}
use Rattle.kmem_model.specs.History.{IsLegalHistory}
use Rattle.kmem_model.specs.declared.record_entry.RecordEntry.{RecordEntry}
use Rattle.kmem_model.specs.declared.cache_entry.CacheEntry.{CacheEntry}
use Rattle.kmem_model.specs.declared.cache_entry.CacheEntry.TheVariants.{Full}
use Rattle.hist_lock.specs.History.{entries_of, listed, told}
use Rattle.hist_lock.specs.Passes.{PassState, Site}
use Rattle.record_heap.specs.View.{IsBlankBuffer}
use Rattle.record_heap.specs.Puts.{offered}
use Rattle.record_heap.specs.declared.heap.put.Offer.{Offer}
use Rattle.record_heap.specs.declared.heap.put.Offer.TheVariants.{Nothing, Fresh, Refused}
use Rattle.record_heap.specs.declared.heap.put.PutEnd.{PutEnd}
use Rattle.record_heap.specs.declared.heap.put.PutEnd.TheVariants.{Replied}
use Rattle.kmem_cache.specs.declared.locked.CacheRefused.{CacheRefused}
use Rattle.kmem_cache.specs.declared.locked.CacheRefused.TheVariants as none
use Rattle.kmem_cache.specs.Seats.{CacheSite, CacheSeatState, HasActed}
use Rattle.kmem_cache.specs.Calls.{HasAllocated}
use Rattle.record_table.specs.Shares.{ShareState, counted_on}
use Rattle.record_table.specs.Tables.{TableHome}
use Rattle.record_table.specs.Turns.{entry_of, put_back, is_new_end, is_refused_offer, brought_by_put}
use Rattle.record_table.specs.Sessions.{HasAdded, HasLooked, HasPutSo, HasPut, FoundAbsent, FoundNoRoom}
use Rattle.record_table.specs.Runs.{asks_slabs, IsFullOf, HasBrought}
use Rattle.record_table.proofs.Sessions.{front_on}
use Rattle.record_table.proofs.Runs.{acted_front, front_same}

-- a pass that has looked before it adds
pub added_on : (a b c : PassState RecordEntry TableHome) (number : ℕ) (command : Command) (reply : Reply) → HasLooked a b → HasAdded b c number command reply → HasAdded a c number command reply
added_on a b c number command reply looked it =
    record {
      before = it.before;
      front = front_on a.seen b.seen it.before looked.front it.front;
      exact = subst (λ n. entries_of n it.before ≡ a.mine) looked.number (it.exact ∙ looked.mine);
      seen = it.seen ∙ ap (λ n. it.before ++ (n, entry_of number command reply) ∷ []) looked.number;
      legal = subst (λ (site : Site TableHome). IsLegalHistory (no_records site.home.names site.home.workers) c.seen) looked.site it.legal;
      mine = it.mine ∙ ap (λ es. es ++ entry_of number command reply ∷ []) looked.mine;
      left = it.left ∙ looked.left;
      site = it.site ∙ looked.site;
      number = it.number ∙ looked.number;
    }

pub brought_on : (cells : List TableId) (a b c : PassState RecordEntry TableHome) (number : ℕ) (command : Command) (reply : Reply) (back : Option (BufState Object))
    (share share' : ShareState) (seat seat' : CacheSeatState) (why : Type 0) → HasLooked a b → HasBrought cells b c number command reply back share share' seat seat' why →
    HasBrought cells a c number command reply back share share' seat seat' why
brought_on cells a b c number command reply back share share' seat seat' why looked it =
    record {
      added = added_on a b c number command reply looked it.added;
      blank = it.blank;
      asked = it.asked;
      front = it.front;
      mine = it.mine;
      left = it.left;
      asks = it.asks;
      site = it.site;
      number = it.number;
      full = λ full.
          let both = it.full full in
          (subst (λ (site : Site TableHome). IsFullOf site.home c command seat.pass seat'.pass) looked.site both.0, both.1);
      brought = it.brought;
      fetched = it.fetched;
      lent = it.lent;
      returned = it.returned;
      balance = it.balance;
      share_at = it.share_at;
    }

-- a share that wasn't counted on
pub counted_none : (share : ShareState) → counted_on 0 0 share ≡ share
counted_none share = λ i. record share { brought = add-zero share.brought i; fetched = add-zero share.fetched i }

abbrev no_buffer : Option (BufState Object)
no_buffer = None

module _ (cells : List TableId) (old new : PassState RecordEntry TableHome) (number : ℕ) (name : NameId) (value : List ℕ) (offer : Offer) (end : PutEnd) (reply : Reply)
    (back : Option (BufState Object)) (share share' : ShareState) (is : end ≡ Replied reply back) (put : HasPut old new number name value offer end)
    (shared : share' ≡ counted_on (brought_by_put offer end) 0 share) where
  added : HasAdded old new number (Put name value) reply
  added = subst (HasPutSo old new number name value) is put.so

  back_is : back ≡ cond (is_new_end end) None (offered offer)
  back_is = ap put_back (sym is) ∙ put.back

  brought_is : share'.brought ≡ share.brought + brought_by_put offer end
  brought_is = ap (λ (s : ShareState). s.brought) shared

  fetched_is : share'.fetched ≡ share.fetched
  fetched_is = ap (λ (s : ShareState). s.fetched) shared ∙ add-zero share.fetched

  share_at : (share'.place ≡ share.place) × (share'.home ≡ share.home)
  share_at = (ap (λ (s : ShareState). s.place) shared, ap (λ (s : ShareState). s.home) shared)

  refused : reply ≡ said.Full → (is_refused_offer offer ≡ true) × FoundNoRoom old.site.home new (Put name value)
  refused full = put.full back (is ∙ ap (λ r. Replied r back) full)

  -- with a buffer of the cache
  pub fresh_ok : (constructed : Object → Type 0) (never : Bool) (cache : CacheSite) (seat seat' : CacheSeatState) (buf : BufState Object) (result : Result (BufState Object) CacheRefused) (entry : Option CacheEntry) →
      result ≡ Ok buf → offer ≡ Fresh buf → IsBlankBuffer cells buf → HasActed seat.pass seat'.pass entry → HasAllocated constructed never cache seat seat' result entry → seat'.returned ≡ seat.returned →
      HasBrought cells old new number (Put name value) reply back share share' seat seat' (seat.rounds ≡ [])
  fresh_ok constructed never cache seat seat' buf result entry got offers ready acted told_so returned =
      let allocated : HasAllocated constructed never cache seat seat' (Ok buf) entry = subst (λ r. HasAllocated constructed never cache seat seat' r entry) got told_so in
      let made = ap (λ o. brought_by_put o end) offers in
      let backs = back_is ∙ ap (λ o. cond (is_new_end end) None (offered o)) offers in
      let parts = either (is_new_end end) in
      let some = ap {B = ℕ} (λ (x : Option (BufState Object)). cond (is_some x) 1 0) backs in
      record {
        added = added;
        blank = subst (λ x. IfSome x (IsBlankBuffer cells)) (sym backs) (blank_back (is_new_end end));
        asked = entry;
        front = acted_front seat.pass seat'.pass entry acted;
        mine = acted.mine;
        left = acted.left;
        asks =
            ⊎_elim
            (λ kept. subst (λ (x : Option CacheEntry). IfSome x (λ e. (asks_slabs e ≡ true) × (seat.rounds ≡ []))) (sym kept.0) tt)
            (λ taken. subst (λ (x : Option CacheEntry). IfSome x (λ e. (asks_slabs e ≡ true) × (seat.rounds ≡ []))) (sym taken.0) (refl, taken.1.0))
            allocated.2;
        site = acted.site;
        number = acted.number;
        full = λ full. absurd (both_ways false refl (sym (ap is_refused_offer offers) ∙ (refused full).0));
        brought = (omega (arith, brought_is), omega (arith, brought_is, made, parts));
        fetched = fetched_is;
        lent = (omega (arith, allocated.1), omega (arith, allocated.1));
        returned = returned;
        balance = omega (arith, allocated.1, brought_is, made, some, parts);
        share_at = share_at;
      }
    where
      blank_back : (b : Bool) → IfSome (cond b None (Some buf)) (IsBlankBuffer cells)
      blank_back true = tt
      blank_back false = ready

      either : (b : Bool) → cond (b && true) 1 0 + cond (is_some (cond b None (Some buf))) 1 0 ≡ 1
      either true = refl
      either false = refl

  -- where it had none
  pub fresh_full : (constructed : Object → Type 0) (never : Bool) (cache : CacheSite) (seat seat' : CacheSeatState) (note : FullNote) (result : Result (BufState Object) CacheRefused) (entry : Option CacheEntry) →
      result ≡ Err (none.Full note) → offer ≡ Refused note → HasActed seat.pass seat'.pass entry → HasAllocated constructed never cache seat seat' result entry → seat'.returned ≡ seat.returned →
      HasBrought cells old new number (Put name value) reply back share share' seat seat' (seat.rounds ≡ [])
  fresh_full constructed never cache seat seat' note result entry got offers acted told_so returned =
      let allocated : HasAllocated constructed never cache seat seat' (Err (none.Full note)) entry = subst (λ r. HasAllocated constructed never cache seat seat' r entry) got told_so in
      let made = ap (λ o. brought_by_put o end) offers ∙ zero_made (is_new_end end) in
      let none_back : back ≡ None = back_is ∙ (ap (λ o. cond (is_new_end end) None (offered o)) offers ∙ none_either (is_new_end end)) in
      let some = ap {B = ℕ} (λ (x : Option (BufState Object)). cond (is_some x) 1 0) none_back in
      let seen : seat'.pass.seen ≡ acted.history ++ (seat.pass.number, Full) ∷ [] = acted.seen ∙ ap (told acted.history seat.pass.number) allocated.0 in
      record {
        added = added;
        blank = subst (λ x. IfSome x (IsBlankBuffer cells)) (sym none_back) tt;
        asked = entry;
        front = acted_front seat.pass seat'.pass entry acted;
        mine = acted.mine;
        left = acted.left;
        asks = subst (λ (x : Option CacheEntry). IfSome x (λ e. (asks_slabs e ≡ true) × (seat.rounds ≡ []))) (sym allocated.0) (refl, allocated.2.0);
        site = acted.site;
        number = acted.number;
        full = λ full. (
          record {
            due = (refused full).1;
            mine = acted.mine ∙ ap (λ (x : Option CacheEntry). seat.pass.mine ++ listed x) allocated.0;
            note = note;
            before = acted.history;
            at = omega (arith, allocated.1, ap length seen, length-append acted.history ((seat.pass.number, Full) ∷ []));
            seen = seen;
          },
          none_back,
        );
        brought = (omega (arith, brought_is), omega (arith, brought_is, made));
        fetched = fetched_is;
        lent = (omega (arith, allocated.3), omega (arith, allocated.3));
        returned = returned;
        balance = omega (arith, allocated.3, brought_is, made, some);
        share_at = share_at;
      }
    where
      zero_made : (b : Bool) → ◌≡◌ {A = ℕ} (cond (b && false) 1 0) 0
      zero_made true = refl
      zero_made false = refl

      none_either : (b : Bool) → cond b None None ≡ no_buffer
      none_either true = refl
      none_either false = refl

  -- with no offer
  pub present_done : (seat : CacheSeatState) (why : Type 0) → offer ≡ Nothing → HasBrought cells old new number (Put name value) reply back share share' seat seat why
  present_done seat why offers =
      let made = ap (λ o. brought_by_put o end) offers ∙ zero_made (is_new_end end) in
      let none_back : back ≡ None = back_is ∙ (ap (λ o. cond (is_new_end end) None (offered o)) offers ∙ none_either (is_new_end end)) in
      let some = ap {B = ℕ} (λ (x : Option (BufState Object)). cond (is_some x) 1 0) none_back in
      record {
        added = added;
        blank = subst (λ x. IfSome x (IsBlankBuffer cells)) (sym none_back) tt;
        asked = None;
        front = front_same seat.pass.seen;
        mine = sym (append-nil seat.pass.mine);
        left = add-zero seat.pass.left;
        asks = tt;
        site = refl;
        number = refl;
        full = λ full. absurd (both_ways false refl (sym (ap is_refused_offer offers) ∙ (refused full).0));
        brought = (omega (arith, brought_is), omega (arith, brought_is, made));
        fetched = fetched_is;
        lent = (omega arith, omega arith);
        returned = refl;
        balance = omega (arith, brought_is, made, some);
        share_at = share_at;
      }
    where
      zero_made : (b : Bool) → ◌≡◌ {A = ℕ} (cond (b && false) 1 0) 0
      zero_made true = refl
      zero_made false = refl

      none_either : (b : Bool) → cond b None None ≡ no_buffer
      none_either true = refl
      none_either false = refl

-- where the slabs are asked for one reason, another one holds too
pub brought_why : (cells : List TableId) (a b : PassState RecordEntry TableHome) (number : ℕ) (command : Command) (reply : Reply) (back : Option (BufState Object))
    (share share' : ShareState) (seat seat' : CacheSeatState) (why other : Type 0) → (why → other) → HasBrought cells a b number command reply back share share' seat seat' why →
    HasBrought cells a b number command reply back share share' seat seat' other
brought_why cells a b number command reply back share share' seat seat' why other to it =
    record {
      added = it.added;
      blank = it.blank;
      asked = it.asked;
      front = it.front;
      mine = it.mine;
      left = it.left;
      asks = asked_so it.asked it.asks;
      site = it.site;
      number = it.number;
      full = it.full;
      brought = it.brought;
      fetched = it.fetched;
      lent = it.lent;
      returned = it.returned;
      balance = it.balance;
      share_at = it.share_at;
    }
  where
    asked_so : (asked : Option CacheEntry) → IfSome asked (λ e. (asks_slabs e ≡ true) × why) → IfSome asked (λ e. (asks_slabs e ≡ true) × other)
    asked_so None asks = tt
    asked_so (Some e) asks = (asks.0, to asks.1)

-- what a look has found a pass has found once it has added an entry
pub found_on : (a b c : PassState RecordEntry TableHome) (number : ℕ) (command : Command) (reply : Reply) → FoundAbsent a b command →
    HasAdded b c number command reply → FoundAbsent a c command
found_on a b c number command reply found it =
    record {
      before = found.before;
      object = found.object;
      home_is = found.home_is;
      stood = found.stood;
      later = found.later;
      seen =
          front_on found.before b.seen c.seen found.seen
          (front_on b.seen it.before c.seen it.front ((b.number, entry_of number command reply) ∷ [], sym it.seen));
      absent = found.absent;
    }
