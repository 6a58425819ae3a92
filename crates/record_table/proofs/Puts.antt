-- What a put does to what the object stands for.
use Rattle.std.proofs.Common.{◌≡◌, ◌⊎◌, ℕ, ◌+◌, ◌<◌, true, false, List, [], ◌∷◌, ◌++◌, Option, None, Some, length, arith, inl, inr, get_or, set, sym, ap, ap₂, ◌∙◌, refl, subst}
use Rattle.std.specs.Option.{is_none, option_map}
use Rattle.kmem_model.proofs.CacheLists.{get_or-map_default}
use Rattle.kmem_text.specs.declared.command.Command.TheVariants.{Put}
use Rattle.kmem_text.specs.declared.command.NameId.{NameId}
use Rattle.kmem_text.specs.declared.command.Reply.{Reply}
use Rattle.kmem_text.specs.declared.command.Reply.TheVariants.{New, Was, Full}
use Rattle.kmem_buf.specs.Buffers.{BufState}
use Rattle.kmem_model.specs.Records.{RecordMap, no_records, id_of, live_count}
use Rattle.kmem_model.specs.RecordStep.{put_step}
use Rattle.atomic_table.specs.Seated.{TableId}
use Rattle.kmem_model.specs.Heap.{Object, HeapState, StandsFor, address_of, address_in, places_of, least_left_in}
use Rattle.kmem_model.specs.History.{map_after}
use Rattle.marks.specs.Words.{MarkPenState}
use Rattle.record_heap.specs.View.{HeapView}
use Rattle.record_heap.specs.Puts.{IsReadyOffer, IsReplaced, IsMade, IsReused, IsPutLast, IsPutNew, offered}
use Rattle.record_heap.specs.declared.heap.put.Offer.{Offer}
use Rattle.record_heap.specs.declared.heap.put.Offer.TheVariants.{Nothing, Fresh, Refused}
use Rattle.record_heap.specs.declared.heap.put.PutEnd.{PutEnd}
use Rattle.record_heap.specs.declared.heap.put.PutEnd.TheVariants.{Replied, Wanting}
use Rattle.std.proofs.lemmas.Option.{slice_get_within}
use Rattle.record_table.specs.Shares.{SharesState}
use Rattle.record_table.specs.Tables.{TableView, object_count}
use Rattle.record_table.specs.Turns.{is_new_end, is_refused_offer, IsPutTurn}
use Rattle.record_table.proofs.Entered.{entered, stepped_to}
use Rattle.record_table.proofs.Lives.{put_lives, put_new_lives}
use Rattle.record_table.proofs.Lefts.{same_places, one_more}

-- a name without an address is absent in each map for which the heap stands
pub absent : (m : RecordMap) (addresses : List ℕ) (h : HeapState) (name : ℕ) → StandsFor m addresses h → address_of h name ≡ None → id_of m name ≡ None
absent m addresses h name stands none =
    none_from (id_of m name) (sym (ap (λ xs. get_or xs name None) stands.paired.names ∙ get_or-map_default (option_map (address_in addresses)) m.names name None) ∙ none)
  where
    none_from : (x : Option ℕ) → option_map (address_in addresses) x ≡ None → x ≡ None
    none_from None e = refl
    none_from (Some id) e = absurd (cc)

abbrev reply_in : PutEnd → Reply
reply_in (Replied reply back) = reply
reply_in Wanting = Full

-- nothing was offered where the cache was asked and had none
refused_none : (o : Offer) → is_refused_offer o ≡ true → offered o ≡ None
refused_none Nothing e = refl
refused_none (Fresh buf) e = absurd (cc)
refused_none (Refused note) e = refl

-- a buffer that is offered has its place
pub offer_low : (cells : List TableId) (o : Offer) → IsReadyOffer cells o → (buf : BufState Object) → o ≡ Fresh buf → buf.number < length cells
offer_low cells Nothing ready buf is = absurd (cc)
offer_low cells (Fresh other) ready buf is = subst (λ (b : BufState Object). b.number < length cells) (same is) (slice_get_within cells other.number other.home ready.0)
  where
    same : Fresh other ≡ Fresh buf → other ≡ buf
    same e = cc
offer_low cells (Refused note) ready buf is = absurd (cc)

module _ (t : TableView) (heap : HeapView) (pen : MarkPenState) (shares : SharesState) (who number : ℕ) (name : NameId) (value : List ℕ) (offer : Offer) (end : PutEnd)
    (worker : who < t.workers) (named : name.0 < t.names) where
  abbrev pub new : TableView
  new = record t { heap = heap; pen = pen; shares = shares }

  ends_as : (other : PutEnd) → end ≡ other → IsPutTurn t new who number name value offer other → IsPutTurn t new who number name value offer end
  ends_as other is put = subst (IsPutTurn t new who number name value offer) (sym is) put

  kept_brought : shares ≡ t.shares → shares.brought ≡ t.shares.brought
  kept_brought e = ap (λ (s : SharesState). s.brought) e

  kept_fetched : shares ≡ t.shares → shares.fetched ≡ t.shares.fetched
  kept_fetched e = ap (λ (s : SharesState). s.fetched) e

  -- the record was there
  pub replaced : IsReplaced t.heap name.0 value offer end heap → pen.known ≡ t.pen.known → shares ≡ t.shares → IsPutTurn t new who number name value offer end
  replaced it same kept =
      let was = it.back.0 in
      let still = same_places heap.heap t.heap.heap it.places in
      ends_as (Replied (Was was) (offered offer)) it.back.1
      (record {
        tells = record { made = refl; back = refl; wanting = λ e. absurd (cc); full = λ back e. absurd (cc) };
        told =
            stepped_to t heap pen shares who number (Put name value) (Was was) worker named tt
            (λ m addresses stands. ap reply_in (sym it.back.1 ∙ it.reply m addresses stands))
            (λ m addresses stands. (addresses, it.stands m addresses stands)) (λ known. same ∙ (known ∙ sym it.places))
            (λ counted. omega (arith, counted, still, kept_brought kept, kept_fetched kept))
            (λ m addresses stands. inl (omega (arith, still, put_lives m name.0 value (id_of m name.0))));
      })

  -- a new record in the buffer that was offered
  pub made : (buf : BufState Object) → offer ≡ Fresh buf → address_of t.heap.heap name.0 ≡ None → IsMade t.heap name.0 value buf.number end heap →
      buf.number < length t.heap.heap.objects → pen.known ≡ set t.pen.known buf.number true →
      (shares.brought ≡ t.shares.brought + 1) × (shares.fetched ≡ t.shares.fetched) → IsPutTurn t new who number name value offer end
  made buf is none it low set_there grown =
      let more = one_more heap.heap t.heap.heap buf.number low it.empty it.places in
      ends_as (Replied New None) it.reply
      (record {
        tells = record { made = refl; back = refl; wanting = λ e. absurd (cc); full = λ back e. absurd (cc) };
        told =
            stepped_to t heap pen shares who number (Put name value) New worker named tt
            (λ m addresses stands. ap (λ id. (put_step m name.0 value id).reply) (sym (absent m addresses t.heap.heap name.0 stands none)))
            (λ m addresses stands. (addresses ++ buf.number ∷ [], it.is_new m addresses stands))
            (λ known. set_there ∙ (ap (λ ks. set ks buf.number true) known ∙ sym it.places))
            (λ counted. omega (arith, counted, more, grown.0, grown.1))
            (λ m addresses stands. inl (omega (
              arith,
              more,
              put_new_lives m name.0 value,
              ap (λ id. live_count (put_step m name.0 value id).map) (absent m addresses t.heap.heap name.0 stands none),
            )));
      })

  -- a new record where a leftover was
  pub reused : (b : ℕ) → address_of t.heap.heap name.0 ≡ None → IsReused t.heap name.0 value b end heap →
      pen.known ≡ t.pen.known → shares ≡ t.shares → IsPutTurn t new who number name value offer end
  reused b none it same kept =
      let still = same_places heap.heap t.heap.heap it.places in
      ends_as (Replied New None) it.reply
      (record {
        tells = record { made = refl; back = refl; wanting = λ e. absurd (cc); full = λ back e. absurd (cc) };
        told =
            stepped_to t heap pen shares who number (Put name value) New worker named tt
            (λ m addresses stands. ap (λ id. (put_step m name.0 value id).reply) (sym (absent m addresses t.heap.heap name.0 stands none)))
            (λ m addresses stands. (addresses ++ b ∷ [], it.is_new m addresses stands))
            (λ known. same ∙ (known ∙ sym it.places))
            (λ counted. omega (arith, counted, still, kept_brought kept, kept_fetched kept))
            (λ m addresses stands. inl (omega (arith, still, put_lives m name.0 value (id_of m name.0))));
      })

  -- no room
  pub refused : is_refused_offer offer ≡ true → least_left_in t.heap.heap ≡ None → address_of t.heap.heap name.0 ≡ None → end ≡ Replied Full None → heap ≡ t.heap →
      pen.known ≡ t.pen.known → shares ≡ t.shares → IsPutTurn t new who number name value offer end
  refused asked no_leftover none is stays same kept =
      let still = ap (λ (x : HeapView). object_count x.heap) stays in
      ends_as (Replied Full None) is
      (record {
        tells = record { made = refl; back = sym (refused_none offer asked); wanting = λ e. absurd (cc); full = λ back e. (asked, no_leftover) };
        told = λ h it.
            let m = map_after (no_records t.names t.workers) h in
            entered t heap pen shares who number (Put name value) Full h worker named tt it
            (inl (refl, ap is_none (absent m it.addresses t.heap.heap name.0 it.stands none))) it.addresses
            (subst (λ (x : HeapView). StandsFor m it.addresses x.heap) (sym stays) it.stands)
            (same ∙ (it.known ∙ ap (λ (x : HeapView). places_of x.heap.objects) (sym stays)))
            (let counted = it.counted in omega (arith, counted, still, kept_brought kept, kept_fetched kept))
            (inl (omega (arith, still)));
      })

  -- a buffer is wanted
  pub wanted : offer ≡ Nothing → address_of t.heap.heap name.0 ≡ None → end ≡ Wanting → heap ≡ t.heap → pen ≡ t.pen → shares ≡ t.shares → IsPutTurn t new who number name value offer end
  wanted nothing missing is stays same kept =
      ends_as Wanting is
      (record {
        tells = record { made = refl; back = sym (ap offered nothing); wanting = λ e. (nothing, missing); full = λ back e. absurd (cc) };
        told =
            ap₂ (λ (x : HeapView) (p : MarkPenState). record t { heap = x; pen = p; shares = shares }) stays same
            ∙ ap (λ (s : SharesState). record t { shares = s }) kept;
      })

  -- a put that made a record in the buffer with this number
  pub one_new : ((b : ℕ) → address_of t.heap.heap name.0 ≡ Some b → IsReplaced t.heap name.0 value offer end heap) →
      (address_of t.heap.heap name.0 ≡ None → IsPutNew t.heap name.0 value offer end heap) →
      (b : ℕ) → option_map (λ (buf : BufState Object). buf.number) (offered offer) ≡ Some b → is_new_end end ≡ true →
      ((buf : BufState Object) → offer ≡ Fresh buf → buf.number < length t.heap.heap.objects) →
      pen.known ≡ set t.pen.known b true → (shares.brought ≡ t.shares.brought + 1) × (shares.fetched ≡ t.shares.fetched) → IsPutTurn t new who number name value offer end
  one_new present missing b fresh made_one low set_there grown = by_address (address_of t.heap.heap name.0) refl
    where
      by_offer : (o : Offer) → offer ≡ o → address_of t.heap.heap name.0 ≡ None → IsPutNew t.heap name.0 value o end heap → IsPutTurn t new who number name value offer end
      by_offer Nothing is none it = absurd (cc)
      by_offer (Fresh buf) is none it =
          let same : b ≡ buf.number = cc in
          made buf is none it (low buf is) (set_there ∙ ap (λ n. set t.pen.known n true) same) grown
      by_offer (Refused note) is none it = absurd (cc)

      by_address : (x : Option ℕ) → address_of t.heap.heap name.0 ≡ x → IsPutTurn t new who number name value offer end
      by_address (Some a) is = absurd (not_new (present a is).back.0 (present a is).back.1)
        where
          not_new : (was : List ℕ) → end ≡ Replied (Was was) (offered offer) → ⊥
          not_new was e = absurd (cc)
      by_address None is = by_offer offer refl is (missing is)

  -- a put that made none in the buffer that was offered, or was offered none
  pub none_new : ((b : ℕ) → address_of t.heap.heap name.0 ≡ Some b → IsReplaced t.heap name.0 value offer end heap) →
      (address_of t.heap.heap name.0 ≡ None → IsPutNew t.heap name.0 value offer end heap) →
      ((option_map (λ (buf : BufState Object). buf.number) (offered offer) ≡ None) ⊎ (is_new_end end ≡ false)) →
      pen ≡ t.pen → shares ≡ t.shares → IsPutTurn t new who number name value offer end
  none_new present missing apart same kept = by_address (address_of t.heap.heap name.0) refl
    where
      known : pen.known ≡ t.pen.known
      known = ap (λ (p : MarkPenState). p.known) same

      by_leftover : (x : Option ℕ) → least_left_in t.heap.heap ≡ x → is_refused_offer offer ≡ true → address_of t.heap.heap name.0 ≡ None →
          IsPutLast t.heap name.0 value x end heap → IsPutTurn t new who number name value offer end
      by_leftover None left asked none it = refused asked left none it.0 it.1 known kept
      by_leftover (Some b) left asked none it = reused b none it known kept

      by_offer : (o : Offer) → offer ≡ o → address_of t.heap.heap name.0 ≡ None → IsPutNew t.heap name.0 value o end heap → IsPutTurn t new who number name value offer end
      by_offer Nothing is none it = wanted is none it.0 it.1 same kept
      by_offer (Fresh buf) is none it = absurd (elim apart [
        | inl nothing ↦ absurd (cc)
        | inr other ↦ not_made it.reply other
      ])
        where
          not_made : end ≡ Replied New None → is_new_end end ≡ false → ⊥
          not_made e f = absurd (cc)
      by_offer (Refused note) is none it = by_leftover (least_left_in t.heap.heap) refl (ap is_refused_offer is) none it

      by_address : (x : Option ℕ) → address_of t.heap.heap name.0 ≡ x → IsPutTurn t new who number name value offer end
      by_address (Some b) is = replaced (present b is) known kept
      by_address None is = by_offer offer refl is (missing is)
