-- What a session's command comes to.
use Rattle.std.proofs.Common.{◌≡◌, ℕ, ◌+◌, ◌<◌, ◌≤◌, ◌||◌, Bool, true, false, cond, List, [], ◌∷◌, ◌++◌, length, get_or, set, slice_get, Option, Some, None, is_some, ⊎_elim, sym, ap, ◌∙◌, refl, subst, subst₂, arith}
use Rattle.std.specs.Option.{IfSome}
use Rattle.std.proofs.lemmas.Bool.{both_ways}
use Rattle.std.proofs.lemmas.List.{append-nil, append_assoc, set-set, set-get_or}
use Rattle.kmem_text.specs.declared.command.Command.{Command}
use Rattle.kmem_text.specs.declared.command.Command.TheVariants.{Put, Get, First, Next, Count, Link, Hold, Drop, Fix, Loose}
use Rattle.kmem_text.specs.declared.command.Reply.{Reply}
use Rattle.kmem_text.specs.declared.command.Reply.TheVariants as said
use Rattle.kmem_model.specs.Records.{RecordMap, no_records}
use Rattle.kmem_model.specs.RecordStep.{step, leaves_tags}
use Rattle.kmem_model.specs.History.{worker_of, is_done, is_refusal, is_put_of_absent, map_after, IsRight, IsLegalHistory}
use Rattle.kmem_model.specs.declared.record_entry.RecordEntry.{RecordEntry}
use Rattle.kmem_model.specs.declared.cache_entry.CacheEntry.{CacheEntry}
use Rattle.kmem_model.proofs.Legal.{legal-append, step_no_refusal}
use Rattle.hist_lock.specs.History.{IsFront, listed, told}
use Rattle.hist_lock.specs.Passes.{PassState, Site}
use Rattle.kmem_cache.specs.declared.locked.CacheHome.{CacheHome}
use Rattle.kmem_cache.specs.Calls.{HasFreed}
use Rattle.kmem_cache.specs.Seats.{CacheSite, CacheSeatState, IsCacheSeat, HasActed}
use Rattle.record_heap.specs.View.{HoldState}
use Rattle.record_table.specs.Shares.{ShareState, IsShareAt}
use Rattle.record_table.specs.Tables.{TableHome}
use Rattle.kmem_buf.specs.Buffers.{BufState}
use Rattle.kmem_model.specs.Heap.{Object}
use Rattle.record_table.specs.Turns.{entry_of, is_plain, fetched_by_del}
use Rattle.record_table.specs.Holds.{tag_in, IsHeldBy}
use Rattle.kmem_text.specs.declared.command.NameId.{NameId}
use Rattle.record_table.specs.Sessions.{SessionState, IsSession, HasHolds, HasAdded, FoundAbsent, WasMet, kept_at}
use Rattle.record_table.specs.Runs.{is_put, is_del, asks_slabs, frees_slab, HasUsed, GrowsByOne, HasBalanced, HasCarriedOut, HasCarriedOutAlone, IsFullOf}
use Rattle.record_table.proofs.Holding.{same_quiet, same_undone, held_or_not, let_go}

-- Only a put is refused

put_only : (m : RecordMap) (command : Command) → is_put_of_absent m command ≡ true → is_put command ≡ true
put_only m (Put name value) e = refl
put_only m _ e = absurd (cc)

pub no_full : (old new : PassState RecordEntry TableHome) (no : ℕ) (command : Command) (reply : Reply) → HasAdded old new no command reply →
    is_put command ≡ false → reply ≡ said.Full → ⊥
no_full old new number command reply it other full =
    let start = no_records old.site.home.names old.site.home.workers in
    let m = map_after start it.before in
    let e : ℕ × RecordEntry = (old.number, entry_of number command reply) in
    let right : IsRight m e = ((legal-append start it.before (e ∷ [])).0 (subst (IsLegalHistory start) it.seen it.legal)).1.0 in
    ⊎_elim
    (λ refused. both_ways (is_put command) other (put_only m command refused.1))
    (λ same. both_ways (is_refusal (step m (worker_of old.number) command).reply) (step_no_refusal m (worker_of old.number) command) (ap is_refusal (sym same ∙ full)))
    right

-- Commands that need no buffer and no hold

pub plain_leaves : (command : Command) → is_plain command ≡ true → leaves_tags command ≡ true
plain_leaves (Get name) e = refl
plain_leaves First e = refl
plain_leaves (Next name) e = refl
plain_leaves Count e = refl
plain_leaves (Link name other) e = refl
plain_leaves (Fix name) e = refl
plain_leaves (Loose name) e = refl
plain_leaves _ e = absurd (cc)

pub plain_untagged : (command : Command) → is_plain command ≡ true → tag_in command ≡ None
plain_untagged (Get name) e = refl
plain_untagged First e = refl
plain_untagged (Next name) e = refl
plain_untagged Count e = refl
plain_untagged (Link name other) e = refl
plain_untagged (Fix name) e = refl
plain_untagged (Loose name) e = refl
plain_untagged _ e = absurd (cc)

pub plain_no_put : (command : Command) → is_plain command ≡ true → is_put command ≡ false
plain_no_put (Put name value) e = absurd (cc)
plain_no_put _ e = refl

-- a command that is on no tag meets no hold
pub met_none : (home : TableHome) (new : PassState RecordEntry TableHome) (holds : List (Option HoldState)) (command : Command) → tag_in command ≡ None →
    (tag : ℕ) → tag_in command ≡ Some tag → IfSome (get_or holds tag None) (WasMet home new)
met_none home new holds command none tag is = absurd (differ (sym none ∙ is))
  where
    differ : None ≡ Some tag → ⊥
    differ e = cc

-- Sessions go on

pub session_next : (old new : SessionState) (b d : Bool) (number : ℕ) (command : Command) (reply : Reply) → IsSession old b → d ≡ true → HasAdded old.pass new.pass number command reply →
    new.made ≡ old.made + 1 → HasHolds old.pass.site.home old.pass.number new.pass.mine new.holds → IsShareAt old.pass.site.home.shares new.share → IsSession new d
session_next old new b d number command reply it there added made holding share =
    record {
      worker = subst₂ (λ n (site : Site TableHome). n < site.home.workers) (sym added.number) (sym added.site) it.worker;
      room = omega (arith, it.room, made, added.left);
      holding = subst₂ (λ n (site : Site TableHome). HasHolds site.home n new.pass.mine new.holds) (sym added.number) (sym added.site) holding;
      share = subst (λ (site : Site TableHome). IsShareAt site.home.shares new.share) (sym added.site) share;
      there = there;
    }

-- The cache

pub front_same : {E : Type 0} (xs : List (ℕ × E)) → IsFront xs xs
front_same xs = ([], append-nil xs)

front_on : {E : Type 0} (xs ys zs : List (ℕ × E)) → IsFront xs ys → IsFront ys zs → IsFront xs zs
front_on xs ys zs f g = (f.0 ++ g.0, sym (append_assoc xs f.0 g.0) ∙ (ap (λ ws. ws ++ g.0) f.1 ∙ g.1))

pub told_front : {E : Type 0} (xs : List (ℕ × E)) (n : ℕ) (entry : Option E) → IsFront xs (told xs n entry)
told_front xs n None = front_same xs
told_front xs n (Some e) = ((n, e) ∷ [], refl)

pub acted_front : (old new : PassState CacheEntry CacheHome) (entry : Option CacheEntry) → HasActed old new entry → IsFront old.seen new.seen
acted_front old new entry it =
    front_on old.seen it.history new.seen it.front (subst (IsFront it.history) (sym it.seen) (told_front it.history old.number entry))

-- no use of it
pub used_none : (seat : PassState CacheEntry CacheHome) (command : Command) (absent : Type 0) → HasUsed seat seat command absent
used_none seat command absent =
    record {
      asked = None;
      freed = None;
      front = front_same seat.seen;
      mine = sym (append-nil (seat.mine ++ []) ∙ append-nil seat.mine);
      left = omega arith;
      asks = tt;
      frees = tt;
      site = refl;
      number = refl;
    }

pub balanced_none : (share : ShareState) (seat : CacheSeatState) → HasBalanced share share seat seat
balanced_none share seat =
    record { brought = (omega arith, omega arith); fetched = (omega arith, omega arith); lent = (omega arith, omega arith); returned = (omega arith, omega arith); balance = refl }

-- Commands that use no cache

-- what such a command has done
pub record IsAlone (command : Command) (reply : Reply) (old new : SessionState) : Type 0 where
  pub added : HasAdded old.pass new.pass (old.made + 1) command reply
  pub made : new.made ≡ old.made + 1
  pub holding : HasHolds old.pass.site.home old.pass.number new.pass.mine new.holds
  pub met : (tag : ℕ) → tag_in command ≡ Some tag → IfSome (get_or old.holds tag None) (WasMet old.pass.site.home new.pass)
  pub other : is_put command ≡ false
  pub same : new.share ≡ old.share

pub alone_next : (command : Command) (reply : Reply) (old new : SessionState) (b : Bool) → IsSession old b → IsAlone command reply old new → IsSession new b
alone_next command reply old new b it did =
    session_next old new b b (old.made + 1) command reply it it.there did.added did.made did.holding (subst (IsShareAt old.pass.site.home.shares) (sym did.same) it.share)

pub alone_done : (command : Command) (reply : Reply) (old new : SessionState) (b : Bool) → IsSession old b → IsAlone command reply old new → HasCarriedOutAlone command reply old new
alone_done command reply old new b it did = λ cache seat of.
    record {
      added = did.added;
      made = did.made;
      holding = did.holding;
      met = did.met;
      full = λ full. absurd (no_full old.pass new.pass (old.made + 1) command reply did.added did.other full);
      used = used_none seat.pass command (FoundAbsent old.pass new.pass command);
      balanced = subst (λ (s : ShareState). HasBalanced old.share s seat seat) (sym did.same) (balanced_none old.share seat);
      share = subst (IsShareAt old.pass.site.home.shares) (sym did.same) it.share;
      of = of;
    }

-- a command whose tags stay
holds_stay : (old new : SessionState) (number : ℕ) (command : Command) (reply : Reply) → HasHolds old.pass.site.home old.pass.number old.pass.mine old.holds →
    HasAdded old.pass new.pass number command reply → leaves_tags command ≡ true → new.holds ≡ old.holds → HasHolds old.pass.site.home old.pass.number new.pass.mine new.holds
holds_stay old new number command reply it added leaves same =
    subst₂ (HasHolds old.pass.site.home old.pass.number) (sym added.mine) (sym same)
    (same_quiet old.pass.site.home old.pass.number old.pass.mine old.holds it number command reply leaves)

-- the one hold that a command can meet
met_one : (home : TableHome) (new : PassState RecordEntry TableHome) (holds : List (Option HoldState)) (command : Command) (tag : ℕ) → tag_in command ≡ Some tag →
    IfSome (get_or holds tag None) (WasMet home new) → (t : ℕ) → tag_in command ≡ Some t → IfSome (get_or holds t None) (WasMet home new)
met_one home new holds command tag on met t is = subst (λ n. IfSome (get_or holds n None) (WasMet home new)) (same_tag (sym on ∙ is)) met
  where
    same_tag : Some tag ≡ Some t → tag ≡ t
    same_tag e = cc

module _ (old new : SessionState) (b : Bool) (it : IsSession old b) where
  pub did_plain : (command : Command) (reply : Reply) → is_plain command ≡ true → HasAdded old.pass new.pass (old.made + 1) command reply → new.made ≡ old.made + 1 →
      new.holds ≡ old.holds → new.share ≡ old.share → IsAlone command reply old new
  did_plain command reply plain added made holds same =
      record {
        added = added;
        made = made;
        holding = holds_stay old new (old.made + 1) command reply it.holding added (plain_leaves command plain) holds;
        met = met_none old.pass.site.home new.pass old.holds command (plain_untagged command plain);
        other = plain_no_put command plain;
        same = same;
      }

  pub did_hold : (tag : ℕ) (name : NameId) (reply : Reply) (hold : Option HoldState) → tag < 8 → HasAdded old.pass new.pass (old.made + 1) (Hold tag name) reply →
      new.made ≡ old.made + 1 → (reply ≡ said.Done → is_some hold ≡ true) → (is_some hold ≡ true → reply ≡ said.Done) →
      IfSome hold (IsHeldBy old.pass.site.home old.pass.number tag) → new.holds ≡ kept_at old.holds tag hold → new.share ≡ old.share → IsAlone (Hold tag name) reply old new
  did_hold tag name reply hold low added made gives from held holds same =
      record {
        added = added;
        made = made;
        holding =
            subst₂ (HasHolds old.pass.site.home old.pass.number) (sym added.mine) (sym holds)
            (held_or_not old.pass.site.home old.pass.number old.pass.mine old.holds it.holding (old.made + 1) tag name reply hold low gives from held);
        met = met_none old.pass.site.home new.pass old.holds (Hold tag name) refl;
        other = refl;
        same = same;
      }

  -- a read or a write of a tag that is in use
  pub did_held : (command : Command) (reply : Reply) (tag : ℕ) (hold : HoldState) → leaves_tags command ≡ true → is_put command ≡ false → tag_in command ≡ Some tag →
      get_or old.holds tag None ≡ Some hold → WasMet old.pass.site.home new.pass hold → HasAdded old.pass new.pass (old.made + 1) command reply →
      new.made ≡ old.made + 1 → new.holds ≡ old.holds → new.share ≡ old.share → IsAlone command reply old new
  did_held command reply tag hold leaves other on there met added made holds same =
      record {
        added = added;
        made = made;
        holding = holds_stay old new (old.made + 1) command reply it.holding added leaves holds;
        met = met_one old.pass.site.home new.pass old.holds command tag on (subst (λ (x : Option HoldState). IfSome x (WasMet old.pass.site.home new.pass)) (sym there) met);
        other = other;
        same = same;
      }

  -- a command on a tag that isn't in use
  pub did_idle : (command : Command) (reply : Reply) (tag : ℕ) → is_put command ≡ false → tag_in command ≡ Some tag →
      get_or old.holds tag None ≡ None → reply ≡ said.Idle → HasAdded old.pass new.pass (old.made + 1) command reply →
      new.made ≡ old.made + 1 → new.holds ≡ old.holds → new.share ≡ old.share → IsAlone command reply old new
  did_idle command reply tag other on none idle added made holds same =
      record {
        added = added;
        made = made;
        holding =
            subst₂ (HasHolds old.pass.site.home old.pass.number) (sym added.mine) (sym holds)
            (same_undone old.pass.site.home old.pass.number old.pass.mine old.holds it.holding (entry_of (old.made + 1) command reply) (ap is_done idle));
        met = met_one old.pass.site.home new.pass old.holds command tag on (subst (λ (x : Option HoldState). IfSome x (WasMet old.pass.site.home new.pass)) (sym none) tt);
        other = other;
        same = same;
      }

  pub did_drop : (reply : Reply) (tag : ℕ) (hold : HoldState) → tag < 8 → get_or old.holds tag None ≡ Some hold → WasMet old.pass.site.home new.pass hold →
      reply ≡ said.Done → HasAdded old.pass new.pass (old.made + 1) (Drop tag) reply →
      new.made ≡ old.made + 1 → new.holds ≡ set old.holds tag None → new.share ≡ old.share → IsAlone (Drop tag) reply old new
  did_drop reply tag hold low there met done added made holds same =
      record {
        added = added;
        made = made;
        holding =
            subst₂ (HasHolds old.pass.site.home old.pass.number) (sym (added.mine ∙ ap (λ r. old.pass.mine ++ entry_of (old.made + 1) (Drop tag) r ∷ []) done)) (sym holds)
            (let_go old.pass.site.home old.pass.number old.pass.mine old.holds it.holding (old.made + 1) tag low);
        met = met_one old.pass.site.home new.pass old.holds (Drop tag) tag refl (subst (λ (x : Option HoldState). IfSome x (WasMet old.pass.site.home new.pass)) (sym there) met);
        other = refl;
        same = same;
      }

-- the session's hold for a tag
pub held_of : (session : SessionState) (b : Bool) (it : IsSession session b) (tag : ℕ) (hold : HoldState) → tag < 8 → get_or session.holds tag None ≡ Some hold →
    IsHeldBy session.pass.site.home session.pass.number tag hold
held_of session b it tag hold low there = subst (λ (x : Option HoldState). IfSome x (IsHeldBy session.pass.site.home session.pass.number tag)) there (it.holding.held tag low)

-- what is taken out and put back is there as before
pub put_back : (holds : List (Option HoldState)) (tag : ℕ) (hold : HoldState) → get_or holds tag None ≡ Some hold → kept_at (set holds tag None) tag (Some hold) ≡ holds
put_back holds tag hold there = set-set holds tag None (Some hold) ∙ (ap (set holds tag) (sym there) ∙ set-get_or holds tag None)

pub none_there : (holds : List (Option HoldState)) (tag : ℕ) → get_or holds tag None ≡ None → set holds tag None ≡ holds
none_there holds tag none = ap (set holds tag) (sym none) ∙ set-get_or holds tag None

-- Commands that use the cache

-- what was asked of the cache, and then what was freed
pub used_on : (seat mid then : PassState CacheEntry CacheHome) (command : Command) (absent : Type 0) (asked freed : Option CacheEntry) →
    IsFront seat.seen mid.seen → mid.mine ≡ seat.mine ++ listed asked → mid.left + length (listed asked) ≡ seat.left → mid.site ≡ seat.site → mid.number ≡ seat.number →
    IsFront mid.seen then.seen → then.mine ≡ mid.mine ++ listed freed → then.left + length (listed freed) ≡ mid.left → then.site ≡ mid.site → then.number ≡ mid.number →
    IfSome asked (λ e. (is_put command ≡ true) × (asks_slabs e ≡ true) × absent) → IfSome freed (λ e. ((is_put command || is_del command) ≡ true) × (frees_slab e ≡ true)) →
    HasUsed seat then command absent
used_on seat mid then command absent asked freed front mine left site number front' mine' left' site' number' asks frees =
    record {
      asked = asked;
      freed = freed;
      front = front_on seat.seen mid.seen then.seen front front';
      mine = mine' ∙ ap (λ es. es ++ listed freed) mine;
      left = omega (arith, left, left');
      asks = asks;
      frees = frees;
      site = site' ∙ site;
      number = number' ∙ number;
    }

-- what a free adds
pub freed_is : (cache : CacheSite) (old new : CacheSeatState) (number : ℕ) (entry : Option CacheEntry) (may : Bool) → may ≡ true → HasFreed cache old new number entry →
    IfSome entry (λ e. (may ≡ true) × (frees_slab e ≡ true))
freed_is cache old new number entry may can it =
    ⊎_elim
    (λ kept. subst (λ (x : Option CacheEntry). IfSome x (λ e. (may ≡ true) × (frees_slab e ≡ true))) (sym kept.0) tt)
    (λ freed. subst (λ (x : Option CacheEntry). IfSome x (λ e. (may ≡ true) × (frees_slab e ≡ true))) (sym freed.0) (can, refl))
    it

-- What a put or a del has done, but for the cache

-- the old share is at hand, and the new one is it with other counts
pub record IsKnown (old new : SessionState) (share : ShareState) (number : ℕ) (command : Command) (reply : Reply) : Type 0 where
  pub share_is : share ≡ old.share
  pub added : HasAdded old.pass new.pass (old.made + 1) command reply
  pub made : new.made ≡ old.made + 1
  pub holds : new.holds ≡ old.holds
  pub leaves : leaves_tags command ≡ true
  pub place : new.share.place ≡ share.place
  pub home : new.share.home ≡ share.home

pub known_share : (old new : SessionState) (share : ShareState) (number : ℕ) (command : Command) (reply : Reply) → IsKnown old new share number command reply →
    IsShareAt old.pass.site.home.shares old.share → IsShareAt old.pass.site.home.shares new.share
known_share old new share number command reply it at =
    subst₂ (λ n h. slice_get old.pass.site.home.shares n ≡ Some h)
    (ap (λ (s : ShareState). s.place) (sym it.share_is) ∙ sym it.place) (ap (λ (s : ShareState). s.home) (sym it.share_is) ∙ sym it.home) at

pub known_next : (old new : SessionState) (share : ShareState) (b d : Bool) (number : ℕ) (command : Command) (reply : Reply) → IsSession old b → d ≡ true →
    IsKnown old new share number command reply → IsSession new d
known_next old new share b d number command reply was there it =
    session_next old new b d (old.made + 1) command reply was there it.added it.made (holds_stay old new (old.made + 1) command reply was.holding it.added it.leaves it.holds)
    (known_share old new share number command reply it was.share)

pub known_done : (cache : CacheSite) (old new : SessionState) (share : ShareState) (b : Bool) (number : ℕ) (command : Command) (reply : Reply) (seat seat' : CacheSeatState) →
    IsSession old b → IsKnown old new share number command reply → tag_in command ≡ None → (reply ≡ said.Full → IsFullOf old.pass.site.home new.pass command seat.pass seat'.pass) →
    HasUsed seat.pass seat'.pass command (FoundAbsent old.pass new.pass command) → HasBalanced share new.share seat seat' →
    IsCacheSeat cache seat' → HasCarriedOut cache command reply old new seat seat'
known_done cache old new share b number command reply seat seat' was it on full used balanced of =
    record {
      added = it.added;
      made = it.made;
      holding = holds_stay old new (old.made + 1) command reply was.holding it.added it.leaves it.holds;
      met = met_none old.pass.site.home new.pass old.holds command on;
      full = full;
      used = used;
      balanced = subst (λ (s : ShareState). HasBalanced s new.share seat seat') it.share_is balanced;
      share = known_share old new share number command reply it was.share;
      of = of;
    }

-- a deletion's counts
pub balanced_del : (share share' : ShareState) (seat seat' : CacheSeatState) (out : Option (BufState Object)) → share'.brought ≡ share.brought →
    share'.fetched ≡ share.fetched + fetched_by_del out → seat'.lent ≡ seat.lent → seat'.returned ≡ seat.returned + fetched_by_del out → HasBalanced share share' seat seat'
balanced_del share share' seat seat' out brought fetched lent returned =
    let few = at_most_one (is_some out) in
    record {
      brought = (omega (arith, brought), omega (arith, brought));
      fetched = (omega (arith, fetched), omega (arith, fetched, few));
      lent = (omega (arith, lent), omega (arith, lent));
      returned = (omega (arith, returned), omega (arith, returned, few));
      balance = omega (arith, brought, fetched, lent, returned);
    }
  where
    at_most_one : (b : Bool) → cond b 1 0 ≤ 1
    at_most_one true = omega arith
    at_most_one false = omega arith

-- a put's counts, where so many buffers came back
pub balanced_put : (share share' : ShareState) (seat seat' : CacheSeatState) (back : ℕ) → back ≤ 1 → GrowsByOne share.brought share'.brought → share'.fetched ≡ share.fetched →
    GrowsByOne seat.lent seat'.lent → seat'.returned ≡ seat.returned + back → seat'.lent + share.brought ≡ seat.lent + share'.brought + back → HasBalanced share share' seat seat'
balanced_put share share' seat seat' back few brought fetched lent returned balance =
    record {
      brought = brought;
      fetched = (omega (arith, fetched), omega (arith, fetched));
      lent = lent;
      returned = (omega (arith, returned), omega (arith, returned, few));
      balance = omega (arith, fetched, returned, balance);
    }

-- what a put asks
pub asked_is : (command : Command) (why : Type 0) (entry : Option CacheEntry) → is_put command ≡ true → IfSome entry (λ e. (asks_slabs e ≡ true) × why) →
    IfSome entry (λ e. (is_put command ≡ true) × (asks_slabs e ≡ true) × why)
asked_is command why None put asks = tt
asked_is command why (Some e) put asks = (put, asks.0, asks.1)
