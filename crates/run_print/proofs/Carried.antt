-- Texts carried by a page, piece after piece.
use Rattle.std.proofs.Common.{◌≡◌, ◌==◌, ◌+◌, ◌<◌, ◌++◌, ℕ, Bool, true, false, cond, List, [], ◌∷◌, length, map, take, drop, get_or, Option, Some, None, refl, sym, ap, ◌∙◌, subst, append_assoc}
use Rattle.std.specs.List.{flat_map}
use Rattle.std.specs.Io.KnownBytes.{Appends}
use Rattle.std.proofs.lemmas.List.{append-nil, take_more, drop_more, take-append-drop, map-append}
use Rattle.std.proofs.lemmas.Grind.{flat_map-append}
use Rattle.kmem_io.specs.Streams.{AppendsFront, Appends-then}
use Rattle.kmem_model.specs.declared.record_entry.RecordEntry.{RecordEntry}
use Rattle.std.specs.Prelude.{codes}
use Rattle.kmem_model.specs.RunLines.{ReplyAt, replies_at, replies_to, by_worker, as_lines, run_lines, reply_line, place_line}
use Rattle.run_print.specs.Pages.{Carries, CarriesFront}
use Rattle.run_print.specs.Printed.{reply_at, line_to}

nothing : (a : Option (List ℕ)) → Appends a a []
nothing None = tt
nothing (Some xs) = sym (append-nil xs)

-- nothing is carried yet
pub carries_none : (a : Option (List ℕ)) (p : List ℕ) → Carries a a p p []
carries_none a p = ([], nothing a, sym (append-nil p))

-- one piece after the other
pub carries_then : (a b c : Option (List ℕ)) (p q r x y : List ℕ) → Carries a b p q x → Carries b c q r y → Carries a c p r (x ++ y)
carries_then a b c p q r x y first second = (
  first.0 ++ second.0,
  Appends-then a b c first.0 second.0 first.1 second.1,
  append_assoc first.0 second.0 r ∙ (ap (λ xs. first.0 ++ xs) second.2 ∙ (sym (append_assoc first.0 q y) ∙ (ap (λ xs. xs ++ y) first.2 ∙ append_assoc p x y))),
)

-- a front of a piece is one of the piece and what follows it
pub front_more : (a b : Option (List ℕ)) (p x y : List ℕ) → CarriesFront a b p x → CarriesFront a b p (x ++ y)
front_more a b p x y h = (h.0, h.1 ++ y, sym (append_assoc p x y) ∙ (ap (λ xs. xs ++ y) h.2 ∙ append_assoc h.0 h.1 y), h.3)

-- a piece, and a front of the next
pub front_then : (a b c : Option (List ℕ)) (p q x y : List ℕ) → Carries a b p q x → CarriesFront b c q y → CarriesFront a c p (x ++ y)
front_then a b c p q x y first second = (
  first.0 ++ second.0,
  second.1,
  sym (append_assoc p x y) ∙ (ap (λ xs. xs ++ y) (sym first.2) ∙ (append_assoc first.0 q y ∙ (ap (λ xs. first.0 ++ xs) second.2 ∙ sym (append_assoc first.0 second.0 second.1)))),
  Appends-then a b c first.0 second.0 first.1 second.3,
)

-- what is carried whole was carried in front
pub carried_front : (a b : Option (List ℕ)) (p q x : List ℕ) → Carries a b p q x → CarriesFront a b p x
carried_front a b p q x h = (h.0, q, sym h.2, h.1)

-- A loop over a list

module _ {X : Type 0} (piece : X → List ℕ) where
  pub one_more : (xs : List X) (i : ℕ) (x : X) → i < length xs → x ≡ get_or xs i x → flat_map piece (take (i + 1) xs) ≡ flat_map piece (take i xs) ++ piece x
  one_more xs i x small is =
      ap (flat_map piece) (take_more xs i x small ∙ ap (λ y. take i xs ++ y ∷ []) (sym is))
      ∙ (flat_map-append piece (take i xs) (x ∷ []) ∙ ap (λ ys. flat_map piece (take i xs) ++ ys) (append-nil (piece x)))

  pub the_rest : (xs : List X) (i : ℕ) (x : X) → i < length xs → x ≡ get_or xs i x → flat_map piece xs ≡ flat_map piece (take i xs) ++ (piece x ++ flat_map piece (drop (i + 1) xs))
  the_rest xs i x small is =
      ap (flat_map piece) (sym (take-append-drop i xs))
      ∙ (flat_map-append piece (take i xs) (drop i xs) ∙ ap (λ ys. flat_map piece (take i xs) ++ flat_map piece ys) (drop_more xs i x small ∙ ap (λ y. y ∷ drop (i + 1) xs) (sym is)))

  -- the next piece was carried too
  pub next_carried : (a b c : Option (List ℕ)) (p q r : List ℕ) (xs : List X) (i : ℕ) (x : X) → i < length xs → x ≡ get_or xs i x →
      Carries a b p q (flat_map piece (take i xs)) → Carries b c q r (piece x) → Carries a c p r (flat_map piece (take (i + 1) xs))
  next_carried a b c p q r xs i x small is first second =
      subst (Carries a c p r) (sym (one_more xs i x small is)) (carries_then a b c p q r (flat_map piece (take i xs)) (piece x) first second)

  -- of the next piece a front was carried
  pub next_front : (a b c : Option (List ℕ)) (p q : List ℕ) (xs : List X) (i : ℕ) (x : X) → i < length xs → x ≡ get_or xs i x →
      Carries a b p q (flat_map piece (take i xs)) → CarriesFront b c q (piece x) → CarriesFront a c p (flat_map piece xs)
  next_front a b c p q xs i x small is first second =
      subst (CarriesFront a c p) (sym (the_rest xs i x small is))
      (front_then a b c p q (flat_map piece (take i xs)) (piece x ++ flat_map piece (drop (i + 1) xs)) first (front_more b c q (piece x) (flat_map piece (drop (i + 1) xs)) second))

-- The pieces of a history

-- the line of each place
pub lines_of : (line : ReplyAt → List ℕ) (entries : List (ℕ × RecordEntry)) → as_lines (map line (replies_at entries)) ≡ flat_map (λ e. line (reply_at e) ++ 10 ∷ []) entries
lines_of line [] = refl
lines_of line (e ∷ entries) = ap (λ xs. (line (reply_at e) ++ 10 ∷ []) ++ xs) (lines_of line entries)

pub lines_to : (line : ReplyAt → List ℕ) (worker : ℕ) (entries : List (ℕ × RecordEntry)) → as_lines (map line (replies_to (replies_at entries) worker)) ≡ flat_map (line_to line worker) entries
lines_to line worker [] = refl
lines_to line worker (e ∷ entries) = by ((reply_at e).worker == worker) (lines_to line worker entries)
  where
    by : (c : Bool) → as_lines (map line (replies_to (replies_at entries) worker)) ≡ flat_map (line_to line worker) entries →
        as_lines (map line (cond c (reply_at e ∷ replies_to (replies_at entries) worker) (replies_to (replies_at entries) worker))) ≡ cond c (line (reply_at e) ++ 10 ∷ []) [] ++ flat_map (line_to line worker) entries
    by true on = ap (λ xs. (line (reply_at e) ++ 10 ∷ []) ++ xs) on
    by false on = on

-- the lines of each worker
pub lines_by : (line : ReplyAt → List ℕ) (given : List ReplyAt) (workers : List ℕ) → as_lines (map line (flat_map (replies_to given) workers)) ≡ flat_map (λ w. as_lines (map line (replies_to given w))) workers
lines_by line given [] = refl
lines_by line given (w ∷ workers) =
    ap as_lines (map-append line (replies_to given w) (flat_map (replies_to given) workers))
    ∙ (flat_map-append (λ l. l ++ 10 ∷ []) (map line (replies_to given w)) (map line (flat_map (replies_to given) workers)) ∙ ap (λ xs. as_lines (map line (replies_to given w)) ++ xs) (lines_by line given workers))

-- The whole

-- the text of a run: a line over each part, and the parts
pub run_is : (workers : ℕ) (names : List (List ℕ)) (given : List ReplyAt) →
    as_lines (run_lines workers names given) ≡ codes "=== replies\n" ++ (as_lines (map (reply_line names) (by_worker workers given)) ++ (codes "=== history\n" ++ as_lines (map place_line given)))
run_is workers names given =
    ap (λ xs. codes "=== replies\n" ++ xs) (flat_map-append (λ l. l ++ 10 ∷ []) (map (reply_line names) (by_worker workers given)) (codes "=== history" ∷ map place_line given))

module _ (a : Option (List ℕ)) (p : List ℕ) (none : p ≡ []) where
  behind : (b : Option (List ℕ)) (t : List ℕ) → CarriesFront a b p t → AppendsFront a b t
  behind b t h = subst (λ q. CarriesFront a b q t) none h

  pub after_none : (b : Option (List ℕ)) (t : List ℕ) → CarriesFront a b p [] → AppendsFront a b t
  after_none b t h = behind b t (front_more a b p [] t h)

  pub after_one : (b c : Option (List ℕ)) (q x y t : List ℕ) → Carries a b p q x → CarriesFront b c q y → AppendsFront a c (x ++ (y ++ t))
  after_one b c q x y t first h = behind c (x ++ (y ++ t)) (front_then a b c p q x (y ++ t) first (front_more b c q y t h))

  pub after_two : (b c d : Option (List ℕ)) (q r x y z t : List ℕ) → Carries a b p q x → Carries b c q r y → CarriesFront c d r z → AppendsFront a d (x ++ (y ++ (z ++ t)))
  after_two b c d q r x y z t first second h =
      subst (AppendsFront a d) (append_assoc x y (z ++ t))
      (behind d ((x ++ y) ++ (z ++ t)) (front_then a c d p r (x ++ y) (z ++ t) (carries_then a b c p q r x y first second) (front_more c d r z t h)))

  pub after_three : (b c d e : Option (List ℕ)) (q r s x y z t : List ℕ) → Carries a b p q x → Carries b c q r y → Carries c d r s z → CarriesFront d e s t → AppendsFront a e (x ++ (y ++ (z ++ t)))
  after_three b c d e q r s x y z t first second third h =
      subst (AppendsFront a e) (append_assoc (x ++ y) z t ∙ append_assoc x y (z ++ t))
      (behind e (((x ++ y) ++ z) ++ t) (front_then a d e p s ((x ++ y) ++ z) t (carries_then a c d p r s (x ++ y) z (carries_then a b c p q r x y first second) third) h))

  pub after_all : (b c d e f : Option (List ℕ)) (q r s u v x y z t : List ℕ) → Carries a b p q x → Carries b c q r y → Carries c d r s z → Carries d e s u t → Carries e f u v [] → v ≡ [] → Appends a f (x ++ (y ++ (z ++ t)))
  after_all b c d e f q r s u v x y z t first second third fourth last end =
      let three = carries_then a c d p r s (x ++ y) z (carries_then a b c p q r x y first second) third in
      let all = carries_then a e f p u v (((x ++ y) ++ z) ++ t) [] (carries_then a d e p s u ((x ++ y) ++ z) t three fourth) last in
      subst (Appends a f)
      (sym (append-nil all.0) ∙ (ap (λ xs. all.0 ++ xs) (sym end) ∙ (all.2 ∙ (ap (λ xs. xs ++ ((((x ++ y) ++ z) ++ t) ++ [])) none
      ∙ (append-nil (((x ++ y) ++ z) ++ t) ∙ (append_assoc (x ++ y) z t ∙ append_assoc x y (z ++ t)))))))
      all.1

  -- and where the last write failed
  pub after_four : (b c d e f : Option (List ℕ)) (q r s u x y z t : List ℕ) → Carries a b p q x → Carries b c q r y → Carries c d r s z → Carries d e s u t → CarriesFront e f u [] → AppendsFront a f (x ++ (y ++ (z ++ t)))
  after_four b c d e f q r s u x y z t first second third fourth h =
      let three = carries_then a c d p r s (x ++ y) z (carries_then a b c p q r x y first second) third in
      subst (AppendsFront a f) (append-nil (((x ++ y) ++ z) ++ t) ∙ (append_assoc (x ++ y) z t ∙ append_assoc x y (z ++ t)))
      (behind f ((((x ++ y) ++ z) ++ t) ++ []) (front_then a e f p u (((x ++ y) ++ z) ++ t) [] (carries_then a d e p s u ((x ++ y) ++ z) t three fourth) h))
