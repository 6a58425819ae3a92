-- What is kept of the tags and their stubs.
use Rattle.std.proofs.Common.{◌≡◌, ℕ, ◌+◌, ◌-◌, ◌*◌, ◌/◌, ◌%◌, ◌<◌, ◌≤◌, true, false, List, [], ◌∷◌, length, get_or, slice_get, set, replicate, Option, Some, None, ⊎_elim, sym, ◌∙◌, ap, ap₂, arith, subst}
use Rattle.std.proofs.lemmas.List.{length-map, get_or-map, length-replicate, get_or-replicate, get_or-set_same, get_or-set_other, length-set}
use Rattle.std.proofs.lemmas.Bool.{both_ways, cases_eq}
use Rattle.std.proofs.lemmas.Nat.{div-mul-add, mod-mul-add}
use Rattle.std.proofs.lemmas.Option.{slice_get_within, get_or_from_slice_get}
use Rattle.atomic_table.specs.Seated.{TableId}
use Rattle.kmem_buf.specs.Homes.{stub_homes}
use Rattle.kmem_buf.specs.Stubs.{StubState, AreUnissued}
use Rattle.kmem_model.specs.Records.{tag_place}
use Rattle.record_heap.specs.View.{hold_facts}
use Rattle.record_heap.specs.Tags.{AreIssued, IsStubOf}

pub start : (stubs : List StubState) (count : ℕ) → length stubs ≡ count → count ≤ 128 → AreUnissued stubs → AreIssued stubs (replicate count None)
start stubs count as_many few free =
    record {
      size = as_many ∙ sym (length-replicate count None);
      few = omega (arith, few, length-replicate {A = Option ℕ} count None);
      issued = λ j d below.
          let low : j < count = omega (arith, below, length-replicate {A = Option ℕ} count None) in
          subst (IsStubOf j (get_or stubs j d)) (sym (get_or-replicate count j None None low)) (free j d (omega (arith, low, as_many)));
    }

-- the worker and the tag of a place
pub parts_of : (worker tag : ℕ) → 1 ≤ worker → tag < 8 → (tag_place worker tag / 8 + 1 ≡ worker) × (tag_place worker tag % 8 ≡ tag)
parts_of worker tag some low =
    let q : (8 * (worker - 1) + tag) / 8 ≡ worker - 1 = ap (λ n. (n + tag) / 8) (flip (worker - 1)) ∙ div-mul-add (worker - 1) 8 tag low in
    let r : (8 * (worker - 1) + tag) % 8 ≡ tag = ap (λ n. (n + tag) % 8) (flip (worker - 1)) ∙ mod-mul-add (worker - 1) 8 tag low in
    (omega (arith, q, some), r)
  where
    flip : (n : ℕ) → 8 * n ≡ n * 8
    flip n = omega arith

-- what an issued stub with a hold's facts says of its place
stub_says : (place : ℕ) (stub : StubState) (o : Option ℕ) (worker tag address : ℕ) → IsStubOf place stub o → stub.issued ≡ true → stub.facts ≡ hold_facts worker tag address →
    o ≡ Some address
stub_says place stub None worker tag address is issued facts = absurd (both_ways stub.issued is issued)
stub_says place stub (Some b) worker tag address is issued facts =
    let same : hold_facts (place / 8 + 1) (place % 8) b ≡ hold_facts worker tag address = sym is.1 ∙ facts in
    ap Some (cc)

module _ (stubs : List StubState) (tags : List (Option ℕ)) (kept : AreIssued stubs tags) (place : ℕ) (low : place < length tags) where
  pub tag_says : (stub : StubState) (worker tag address : ℕ) → stub ≡ get_or stubs place stub → stub.issued ≡ true → stub.facts ≡ hold_facts worker tag address →
      get_or tags place None ≡ Some address
  tag_says stub worker tag address read issued facts =
      stub_says place stub (get_or tags place None) worker tag address
      (subst (λ (s : StubState). IsStubOf place s (get_or tags place None)) (sym read) (kept.issued place stub low)) issued facts

  pub free_says : (stub : StubState) → stub ≡ get_or stubs place stub → get_or tags place None ≡ None → stub.issued ≡ false
  free_says stub read free =
      subst (IsStubOf place stub) free (subst (λ (s : StubState). IsStubOf place s (get_or tags place None)) (sym read) (kept.issued place stub low))

  issued_set : (stub : StubState) (o : Option ℕ) → IsStubOf place stub o → AreIssued (set stubs place stub) (set tags place o)
  issued_set stub o here =
      record {
        size = length-set stubs place stub ∙ (kept.size ∙ sym (length-set tags place o));
        few = omega (arith, kept.few, length-set tags place o);
        issued = λ j d below.
            ⊎_elim
            (λ same.
            subst (λ n. IsStubOf n (get_or (set stubs place stub) n d) (get_or (set tags place o) n None)) (sym same)
            (let IsHere : StubState → Option ℕ → Type 0 = IsStubOf place in
            rw (get_or-set_same stubs place stub d (omega (arith, low, kept.size)), get_or-set_same tags place o None low) here))
            (λ apart.
            rw (get_or-set_other stubs place j stub d apart, get_or-set_other tags place j o None apart)
            (kept.issued j d (omega (arith, below, length-set tags place o))))
            (cases_eq j place);
      }

  pub begun : (stub : StubState) (worker tag address : ℕ) → place ≡ tag_place worker tag → 1 ≤ worker → tag < 8 → stub.issued ≡ true → stub.facts ≡ hold_facts worker tag address →
      AreIssued (set stubs place stub) (set tags place (Some address))
  begun stub worker tag address is some below issued facts =
      let parts = parts_of worker tag some below in
      issued_set stub (Some address)
      (issued, facts ∙ ap₂ (λ (w t : ℕ). w ∷ t ∷ address ∷ []) (sym (ap (λ n. n / 8 + 1) is ∙ parts.0)) (sym (ap (λ n. n % 8) is ∙ parts.1)))

  pub ended : (stub : StubState) → stub.issued ≡ false → AreIssued (set stubs place stub) (set tags place None)
  ended stub free = issued_set stub None free

-- the stub that is read at a place is the one that its home names
pub stub_of : (stubs : List StubState) (homes : List TableId) (i j : ℕ) (home : TableId) (stub : StubState) → stub_homes stubs ≡ homes → i ≡ j → slice_get homes j ≡ Some home → stub ≡ get_or stubs i stub →
    home ≡ stub.home
stub_of stubs homes i j home stub same is at read =
    let low = slice_get_within homes j home at in
    let below : i < length stubs = omega (arith, low, is, ap (λ (hs : List TableId). length hs) same, length-map stubs (λ (s : StubState). s.home)) in
    sym (get_or_from_slice_get homes j home home at)
    ∙ (ap₂ (λ (hs : List TableId) (n : ℕ). get_or hs n home) (sym same) (sym is)
    ∙ (get_or-map (λ (s : StubState). s.home) stubs i stub home below ∙ ap (λ (s : StubState). s.home) (sym read)))
