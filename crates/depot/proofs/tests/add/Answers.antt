use Rattle.std.proofs.Common.{rules, vec_len, ◌≡◌, ℕ, List, [], ◌∷◌, ◌++◌, length, All, Some, slice_get, sym, ap, ◌∙◌, arith, length-append}
use Rattle.std.proofs.Math.Seq.{get_or-append_seam}
use Rattle.std.proofs.lemmas.List.{get_or_append_left, map-append, length-map}
use Rattle.std.proofs.lemmas.List.Elements.{All-cons}
use Rattle.std.proofs.lemmas.Option.{slice_get_within, slice_get-get_or, get_or_from_slice_get}
use Rattle.atomic_table.specs.Seated.{TableId}
use Rattle.kmem_buf.specs.Buffers.{BufState, CellState}
use Rattle.kmem_buf.specs.Homes.{cell_homes}
use Rattle.depot.proofs.tests.add.Goals as goal

-- a place of a list stays where one more comes after it
still : (hs : List TableId) (h y : TableId) (n : ℕ) → slice_get hs n ≡ Some y → slice_get (hs ++ h ∷ []) n ≡ Some y
still hs h y n e =
    let low = slice_get_within hs n y e in
    slice_get-get_or (hs ++ h ∷ []) n y (omega (arith, low, length-append hs (h ∷ []))) ∙ ap Some (get_or_append_left hs (h ∷ []) y n low ∙ get_or_from_slice_get hs n y y e)

-- the place after it
here : (hs : List TableId) (h : TableId) (n : ℕ) → n ≡ length hs → slice_get (hs ++ h ∷ []) n ≡ Some h
here hs h n e =
    rw e (slice_get-get_or (hs ++ h ∷ []) (length hs) h (omega (arith, length-append hs (h ∷ []))) ∙ ap Some (get_or-append_seam hs h [] h))

-- a magazine of buffers of some cells, and one of the next cell
ready : (hs gs : List TableId) (ms : List (BufState ℕ)) (b : BufState ℕ) → gs ≡ hs ++ b.home ∷ [] → b.object ≡ 0 → b.number ≡ length hs → All (λ (x : BufState ℕ). (x.object ≡ 0) × (slice_get hs x.number ≡ Some x.home)) ms → All (λ (x : BufState ℕ). (x.object ≡ 0) × (slice_get gs x.number ≡ Some x.home)) (b ∷ ms)
ready hs gs ms b e o n all =
    rw e (All-cons (λ (x : BufState ℕ). (x.object ≡ 0) × (slice_get (hs ++ b.home ∷ []) x.number ≡ Some x.home)) b ms (o, here hs b.home b.number n) (λ k d low. ((all k d low).0, still hs b.home _ _ (all k d low).1)))

pub returns-clause-ready : goal.returns-clause-ready
returns-clause-ready c =
    let cells = c.args.cells.now.items in
    let home_of : CellState → TableId = λ x. x.home in
    let buf = c.take-buf.ensures.buf in
    let next = ap home_of c.take-buf.ensures.cell ∙ sym (ap (λ (b : BufState ℕ). b.home) buf) in
    let homes = ap cell_homes c.in_ok-push.ensures.items ∙ map-append home_of cells (c.take-buf.new.self ∷ []) ∙ ap (λ (h : TableId). cell_homes cells ++ h ∷ []) next in
    let same_len : vec_len c.args.cells.now ≡ length cells = search rules in
    let number = ap (λ (b : BufState ℕ). b.number) buf ∙ c.in_ok-cell.ensures.0 ∙ c.requires.number ∙ same_len ∙ sym (length-map cells home_of) in
    rw c.push-2.ensures (ready (cell_homes cells) (cell_homes c.push.new.self.items) c.args.magazine.now c.take-buf.result homes (ap (λ (b : BufState ℕ). b.object) buf) number c.requires.ready)
