-- A text of which a front is written, and the lines of the slabs that are left.
use Rattle.std.proofs.Common.{◌≡◌, ℕ, ◌+◌, ◌<◌, List, [], ◌++◌, length, take, drop, sym, ap, subst, ◌∙◌, append_assoc, append-nil, Option, Result, Ok, Err, OnOk}
use Rattle.std.proofs.lemmas.List.{drop_more}
use Rattle.std.specs.Io.KnownBytes.{Appends}
use Rattle.kmem_io.specs.Streams.{AppendsFront, Appends-then, AppendsFront-behind}
use Rattle.kmem_io.specs.declared.streams.Failed.{Failed}
use Rattle.kmem_model.specs.CacheState.{SlabState, slab_at, no_slab}
use Rattle.kmem_model.specs.Report.{slab_text, slab_texts}

-- of the whole text all was appended but the rest
abbrev pub IsLeft : Option (List ℕ) → Option (List ℕ) → List ℕ → List ℕ → Type 0
IsLeft old new whole rest = (done : List ℕ) × Appends old new done × (done ++ rest ≡ whole)

-- a piece more is appended
pub one_more : (a b c : Option (List ℕ)) (whole rest piece rest' : List ℕ) → IsLeft a b whole rest → rest ≡ piece ++ rest' → Appends b c piece → IsLeft a c whole rest'
one_more a b c whole rest piece rest' p next q = (p.0 ++ piece, Appends-then a b c p.0 piece p.1 q, append_assoc p.0 piece rest' ∙ ap (λ xs. p.0 ++ xs) (sym next) ∙ p.2)

-- only a front of the next piece is
pub front_more : (a b c : Option (List ℕ)) (whole rest piece rest' : List ℕ) → IsLeft a b whole rest → rest ≡ piece ++ rest' → AppendsFront b c piece → AppendsFront a c whole
front_more a b c whole rest piece rest' p next q = AppendsFront-behind a b c p.0 piece rest' whole p.1 (ap (λ xs. p.0 ++ xs) (sym next) ∙ p.2) q

-- nothing is left
pub none_left : (a b : Option (List ℕ)) (whole rest : List ℕ) → IsLeft a b whole rest → rest ≡ [] → Appends a b whole
none_left a b whole rest p none = subst (Appends a b) (sym (append-nil p.0) ∙ ap (λ xs. p.0 ++ xs) (sym none) ∙ p.2) p.1

-- the lines from a slab on begin with its own
pub next_slab : (slabs : List SlabState) (i : ℕ) → i < length slabs → slab_texts i (drop i slabs) ≡ slab_text i (slab_at slabs i) ++ slab_texts (i + 1) (drop (i + 1) slabs)
next_slab slabs i small = ap (slab_texts i) (drop_more slabs i no_slab small)

-- A head, and the rest of the text behind it

-- a front of the head was appended
pub front_of_head : (a b : Option (List ℕ)) (head rest : List ℕ) → AppendsFront a b head → AppendsFront a b (head ++ rest)
front_of_head a b head rest q = (q.0, q.1 ++ rest, ap (λ xs. xs ++ rest) q.2 ∙ append_assoc q.0 q.1 rest, q.3)

-- the head was appended, and then the rest, where the call ended well
pub whole_behind : (a b c : Option (List ℕ)) (head rest : List ℕ) (result : Result Unit Failed) → Appends a b head → OnOk result (Appends b c rest) → OnOk result (Appends a c (head ++ rest))
whole_behind a b c head rest (Ok done) p q = Appends-then a b c head rest p q
whole_behind a b c head rest (Err failed) p q = tt

-- the head was appended, and then a front of the rest
pub front_behind : (a b c : Option (List ℕ)) (head rest : List ℕ) → Appends a b head → AppendsFront b c rest → AppendsFront a c (head ++ rest)
front_behind a b c head rest p q = AppendsFront-behind a b c head rest [] (head ++ rest) p (ap (λ xs. head ++ xs) (append-nil rest)) q

-- The head stands at the front of a room

pub head_front : (a b : Option (List ℕ)) (room head rest : List ℕ) (n : ℕ) → take n room ≡ head → AppendsFront a b (take n room) → AppendsFront a b (head ++ rest)
head_front a b room head rest n is p = front_of_head a b head rest (subst (AppendsFront a b) is p)

pub then_whole : (a b c : Option (List ℕ)) (room head rest : List ℕ) (n : ℕ) (result : Result Unit Failed) → take n room ≡ head → Appends a b (take n room) → OnOk result (Appends b c rest) → OnOk result (Appends a c (head ++ rest))
then_whole a b c room head rest n result is p q = whole_behind a b c head rest result (subst (Appends a b) is p) q

pub then_front : (a b c : Option (List ℕ)) (room head rest : List ℕ) (n : ℕ) → take n room ≡ head → Appends a b (take n room) → AppendsFront b c rest → AppendsFront a c (head ++ rest)
then_front a b c room head rest n is p q = front_behind a b c head rest (subst (Appends a b) is p) q
