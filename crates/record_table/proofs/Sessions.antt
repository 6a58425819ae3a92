-- What a turn adds to what its pass has seen.
use Rattle.std.proofs.Common.{◌≡◌, ℕ, true, List, [], ◌∷◌, ◌++◌, Option, None, Some, is_none, get_or, ⊎_elim, arith, sym, ap, ◌∙◌, refl, subst}
use Rattle.std.proofs.lemmas.Bool.{both_ways}
use Rattle.std.proofs.lemmas.List.{append-nil, append_assoc}
use Rattle.kmem_text.specs.declared.command.Command.{Command}
use Rattle.kmem_text.specs.declared.command.Command.TheVariants.{Put}
use Rattle.kmem_text.specs.declared.command.NameId.{NameId}
use Rattle.kmem_text.specs.declared.command.Reply.{Reply}
use Rattle.kmem_text.specs.declared.command.Reply.TheVariants.{Full}
use Rattle.kmem_buf.specs.Buffers.{BufState}
use Rattle.kmem_model.specs.Records.{no_records, id_of, tag_place}
use Rattle.kmem_model.specs.Heap.{Object, address_in, address_of, least_left_in}
use Rattle.kmem_model.proofs.CacheLists.{get_or-map_default}
use Rattle.std.specs.Option.{option_map}
use Rattle.kmem_model.specs.RecordStep.{step}
use Rattle.kmem_model.specs.History.{worker_of, is_refusal, map_after, IsRight, IsLegalHistory}
use Rattle.kmem_model.proofs.Legal.{legal-append, step_no_refusal}
use Rattle.kmem_model.specs.declared.record_entry.RecordEntry.{RecordEntry}
use Rattle.hist_lock.specs.Passes.{PassState, Site, IsTurn, HasAwaited}
use Rattle.hist_lock.specs.History.{told, IsFront, entries_of}
use Rattle.record_heap.specs.View.{HoldState}
use Rattle.record_heap.specs.declared.heap.put.Offer.{Offer}
use Rattle.record_heap.specs.declared.heap.put.PutEnd.{PutEnd}
use Rattle.record_heap.specs.declared.heap.put.PutEnd.TheVariants.{Replied, Wanting}
use Rattle.record_table.specs.Shares.{ShareState, counted_on}
use Rattle.record_table.specs.Tables.{TableHome, TableView, IsStandingFor, home_of}
use Rattle.record_table.specs.Turns.{entry_of, put_entry, is_refused_offer, brought_by_put, IsPutTold}
use Rattle.record_table.specs.Holds.{IsHoldThere}
use Rattle.record_table.proofs.Idle.{held_in}
use Rattle.record_table.specs.Sessions.{HasAdded, HasLooked, HasPutSo, HasPut, WasMadeOn, FoundAbsent, FoundNoRoom, WasMet}

abbrev TableTurn : {Out : Type 0} → (TableView → TableView → List (ℕ × RecordEntry) → Out → Option RecordEntry → Type 0) →
    PassState RecordEntry TableHome → PassState RecordEntry TableHome → Out → List (ℕ × RecordEntry) → Option RecordEntry → Type 0
TableTurn tells old new out h entry = IsTurn IsStandingFor home_of tells old new out h entry

module _ {Out : Type 0} (tells : TableView → TableView → List (ℕ × RecordEntry) → Out → Option RecordEntry → Type 0)
    (old new : PassState RecordEntry TableHome) (out : Out) (h : List (ℕ × RecordEntry)) where
  legal_then : (entry : Option RecordEntry) → TableTurn tells old new out h entry → IsLegalHistory (no_records old.site.home.names old.site.home.workers) new.seen
  legal_then entry turn =
      let legal = turn.stands_now.0.legal in
      subst (IsLegalHistory (no_records old.site.home.names old.site.home.workers)) (sym turn.seen)
      (subst (λ (home : TableHome). IsLegalHistory (no_records home.names home.workers) (told h old.number entry)) turn.stands_now.1 legal)

  pub added : (number : ℕ) (command : Command) (reply : Reply) → TableTurn tells old new out h (Some (entry_of number command reply)) → HasAdded old new number command reply
  added number command reply turn =
      record {
        before = h;
        front = turn.met.front;
        exact = turn.met.exact;
        seen = turn.seen;
        legal = legal_then (Some (entry_of number command reply)) turn;
        mine = turn.mine;
        left = turn.left;
        site = turn.site;
        number = turn.number;
      }

  pub looked_on : TableTurn tells old new out h None → HasLooked old new
  looked_on turn =
      record {
        front = subst (IsFront old.seen) (sym turn.seen) turn.met.front;
        exact = turn.exact ∙ (turn.mine ∙ append-nil old.mine);
        legal = legal_then None turn;
        mine = turn.mine ∙ append-nil old.mine;
        left = omega (arith, turn.left);
        site = turn.site;
        number = turn.number;
      }

  -- what the turn found
  abbrev made_on : (entry : Option RecordEntry) (e : RecordEntry) → entry ≡ Some e → TableTurn tells old new out h entry → WasMadeOn old.site.home new
  made_on entry e is turn =
      record { before = h; last = (old.number, e); seen = turn.seen ∙ ap (told h old.number) is; object = turn.before; home_is = turn.stood.1; stood = turn.stood.0 }

  pub met : (entry : Option RecordEntry) (e : RecordEntry) → entry ≡ Some e → (turn : TableTurn tells old new out h entry) (hold : HoldState) →
      IsHoldThere turn.before hold → WasMet old.site.home new hold
  met entry e is turn hold there =
      let m = map_after (no_records turn.before.names turn.before.workers) h in
      let id = held_in m turn.stood.0.addresses turn.before.heap.heap (tag_place hold.worker hold.tag) hold.address turn.stood.0.stands there in
      record { on = made_on entry e is turn; there = there; id = id.0; held = id.1; address = id.2 }

  -- a put that was refused found its name absent
  pub no_room : (number : ℕ) (name : NameId) (value : List ℕ) (entry : Option RecordEntry) → entry ≡ Some (entry_of number (Put name value) Full) →
      (turn : TableTurn tells old new out h entry) → least_left_in turn.before.heap.heap ≡ None → FoundNoRoom old.site.home new (Put name value)
  no_room number name value entry is turn none =
      let e : RecordEntry = entry_of number (Put name value) Full in
      let start = no_records turn.before.names turn.before.workers in
      let m = map_after start h in
      let same : home_of turn.after ≡ home_of turn.before = turn.stands_now.1 ∙ sym turn.stood.1 in
      let after : IsLegalHistory (no_records turn.after.names turn.after.workers) (h ++ (old.number, e) ∷ []) =
      subst (λ (x : Option RecordEntry). IsLegalHistory (no_records turn.after.names turn.after.workers) (told h old.number x)) is turn.stands_now.0.legal in
      let legal : IsLegalHistory start (h ++ (old.number, e) ∷ []) =
      subst (λ (home : TableHome). IsLegalHistory (no_records home.names home.workers) (h ++ (old.number, e) ∷ [])) same after in
      let right : IsRight m (old.number, e) = ((legal-append start h ((old.number, e) ∷ [])).0 legal).1.0 in
      record {
        on = made_on entry e is turn;
        absent = ⊎_elim (λ refused. refused.1) (λ stepped. absurd (both_ways (is_refusal (step m (worker_of old.number) (Put name value)).reply) (step_no_refusal m (worker_of old.number) (Put name value)) (ap is_refusal (sym stepped)))) right;
        left = none;
      }

abbrev PutTells : ℕ → NameId → List ℕ → Offer → ShareState → TableView → TableView → List (ℕ × RecordEntry) → PutEnd × ShareState → Option RecordEntry → Type 0
PutTells number name value offer share before after history out entry =
    IsPutTold before number name value offer out.0 entry × (out.1 ≡ counted_on (brought_by_put offer out.0) 0 share)

-- a name without an address has no id
none_there : (f : ℕ → ℕ) (id : Option ℕ) → option_map f id ≡ None → is_none id ≡ true
none_there f None none = refl
none_there f (Some id) none = absurd (cc)

-- a put's turn
pub put_added : (old new : PassState RecordEntry TableHome) (number : ℕ) (name : NameId) (value : List ℕ) (offer : Offer) (share : ShareState) (out : PutEnd × ShareState)
    (h : List (ℕ × RecordEntry)) (entry : Option RecordEntry) →
    TableTurn (PutTells number name value offer share) old new out h entry → HasPut old new number name value offer out.0
put_added old new number name value offer share out h entry turn =
    record {
      so = by_end out.0 refl;
      back = turn.answered.0.back;
      wanting = λ is. (let both = turn.answered.0.wanting is in (both.0, by_wanting is both.1));
      full = λ back is. by_full back is (turn.answered.0.full back is);
    }
  where
    made_as : (x : PutEnd) → out.0 ≡ x → entry ≡ put_entry number name value x
    made_as x is = turn.answered.0.made ∙ ap (put_entry number name value) is

    with_entry : (e : Option RecordEntry) → entry ≡ e → TableTurn (PutTells number name value offer share) old new out h e
    with_entry e is = subst (λ (x : Option RecordEntry). TableTurn (PutTells number name value offer share) old new out h x) is turn

    by_end : (x : PutEnd) → out.0 ≡ x → HasPutSo old new number name value x
    by_end (Replied reply back) is =
        added (PutTells number name value offer share) old new out h number (Put name value) reply (with_entry (put_entry number name value (Replied reply back)) (made_as (Replied reply back) is))
    by_end Wanting is = looked_on (PutTells number name value offer share) old new out h (with_entry None (made_as Wanting is))

    by_wanting : out.0 ≡ Wanting → address_of turn.before.heap.heap name.0 ≡ None → FoundAbsent old new (Put name value)
    by_wanting is none =
        record {
          before = h;
          object = turn.before;
          home_is = turn.stood.1;
          stood = turn.stood.0;
          later = turn.met.front;
          seen = subst (IsFront h) (sym (turn.seen ∙ ap (told h old.number) (made_as Wanting is))) ([], append-nil h);
          absent =
              none_there (address_in turn.stood.0.addresses) (id_of (map_after (no_records turn.before.names turn.before.workers) h) name.0)
              (sym (get_or-map_default (option_map (address_in turn.stood.0.addresses)) (map_after (no_records turn.before.names turn.before.workers) h).names name.0 None)
              ∙ (sym (ap (λ xs. get_or xs name.0 None) turn.stood.0.stands.paired.names) ∙ none));
        }

    by_full : (back : Option (BufState Object)) → out.0 ≡ Replied Full back → (is_refused_offer offer ≡ true) × (least_left_in turn.before.heap.heap ≡ None) →
        (is_refused_offer offer ≡ true) × FoundNoRoom old.site.home new (Put name value)
    by_full back is both =
        (both.0, no_room (PutTells number name value offer share) old new out h number name value entry (made_as (Replied Full back) is) turn both.1)

-- Passes that look, with no entry

pub front_same : (xs : List (ℕ × RecordEntry)) → IsFront xs xs
front_same xs = ([], append-nil xs)

pub front_on : (xs ys zs : List (ℕ × RecordEntry)) → IsFront xs ys → IsFront ys zs → IsFront xs zs
front_on xs ys zs f g = (f.0 ++ g.0, sym (append_assoc xs f.0 g.0) ∙ (ap (λ ws. ws ++ g.0) f.1 ∙ g.1))

-- who waited for a count has looked
pub awaited_on : (count : ℕ) (old new : PassState RecordEntry TableHome) → HasAwaited IsStandingFor home_of count old new → HasLooked old new
awaited_on count old new w =
    let legal = w.stood.0.legal in let met = w.met in
    record {
      front = met.front;
      exact = met.exact;
      legal = subst (λ (home : TableHome). IsLegalHistory (no_records home.names home.workers) new.seen) w.stood.1 legal;
      mine = w.mine;
      left = w.left;
      site = w.site;
      number = w.number;
    }

pub looked_on_more : (a b c : PassState RecordEntry TableHome) → HasLooked a b → HasLooked b c → HasLooked a c
looked_on_more a b c f g =
    record {
      front = front_on a.seen b.seen c.seen f.front g.front;
      exact = subst (λ n. entries_of n c.seen ≡ a.mine) f.number (g.exact ∙ f.mine);
      legal = subst (λ (site : Site TableHome). IsLegalHistory (no_records site.home.names site.home.workers) c.seen) f.site g.legal;
      mine = g.mine ∙ f.mine;
      left = g.left ∙ f.left;
      site = g.site ∙ f.site;
      number = g.number ∙ f.number;
    }

pub looked_none : (a : PassState RecordEntry TableHome) → IsLegalHistory (no_records a.site.home.names a.site.home.workers) a.seen → entries_of a.number a.seen ≡ a.mine → HasLooked a a
looked_none a legal exact =
    record { front = front_same a.seen; exact = exact; legal = legal; mine = refl; left = refl; site = refl; number = refl }
