-- An input cut at the line that ends its script.
use Rattle.std.proofs.Common.{◌≡◌, ◌==◌, ℕ, ◌+◌, ◌-◌, ◌<◌, ◌≤◌, zero, suc, Bool, true, false, cond, not, List, [], ◌∷◌, ◌++◌, map, length, take, drop, refl, sym, ap, ◌∙◌, subst, arith, inl, inr, append_assoc, append-nil, length-append, length-drop}
use Rattle.std.specs.List.{position_or_len}
use Rattle.std.specs.Str.Lines.{strip_carriage_return}
use Rattle.std.proofs.Math.Seq.{take-append_seam, drop-append_seam}
use Rattle.std.proofs.lemmas.List.{take-append-drop}
use Rattle.std.proofs.lemmas.Bool.Decides.{nat_tests}
use Rattle.kmem_text.specs.Grammar.{lines_of}
use Rattle.kmem_model.specs.Checked.{is_run_header, script_part, run_part, script_len}

-- the bytes before `rest` are whole lines, none of which ends the script
pub record IsCut (bytes rest : List ℕ) (taken : ℕ) : Type 0 where
  pub front : List ℕ
  pub lines : List (List ℕ)
  pub bytes_are : bytes ≡ front ++ rest
  pub script : lines_of front ≡ lines
  pub more : 0 < length rest → (xs : List ℕ) → lines_of (front ++ xs) ≡ lines ++ lines_of xs
  pub all : lines_of bytes ≡ lines ++ lines_of rest
  pub none : (ys : List (List ℕ)) → script_len (lines ++ ys) ≡ length lines + script_len ys
  pub count : length lines ≡ taken

pub cut_none : (bytes : List ℕ) → IsCut bytes bytes 0
cut_none bytes = record { front = []; lines = []; bytes_are = refl; script = refl; more = λ some xs. refl; all = refl; none = λ ys. sym (omega arith); count = refl }

-- a line that doesn't end the script adds one to those before it
len_more : (line : List ℕ) (ys : List (List ℕ)) → is_run_header line ≡ false → script_len (line ∷ ys) ≡ 1 + script_len ys
len_more line ys is = ap (λ b. cond (not b) (1 + script_len ys) 0) is

len_header : (line : List ℕ) (ys : List (List ℕ)) → is_run_header line ≡ true → script_len (line ∷ ys) ≡ 0
len_header line ys is = ap (λ b. cond (not b) (1 + script_len ys) 0) is

pub begins_at : (bytes line : List ℕ) (lines : List (List ℕ)) → lines_of bytes ≡ line ∷ lines → is_run_header line ≡ true → script_len (lines_of bytes) ≡ 0
begins_at bytes line lines is header = ap script_len is ∙ len_header line lines header

first : {x y : List ℕ} {xs ys : List (List ℕ)} → x ∷ xs ≡ y ∷ ys → x ≡ y
first h = cc

pub same_line : (bytes line line' : List ℕ) (lines lines' : List (List ℕ)) → lines_of bytes ≡ line ∷ lines → lines_of bytes ≡ line' ∷ lines' → is_run_header line ≡ false → is_run_header line' ≡ false
same_line bytes line line' lines lines' is and header = let same : line' ≡ line = first (sym and ∙ is) in ap is_run_header same ∙ header

cut_script : (front piece line behind : List ℕ) (lines : List (List ℕ)) (bytes : List ℕ) → (0 < length behind → (xs : List ℕ) → lines_of ((front ++ piece) ++ xs) ≡ (lines ++ line ∷ []) ++ lines_of xs) → bytes ≡ (front ++ piece) ++ behind → lines_of bytes ≡ (lines ++ line ∷ []) ++ lines_of behind → lines_of (front ++ piece) ≡ lines ++ line ∷ []
cut_script front piece line [] lines bytes more is all =
    ap lines_of (sym (append-nil (front ++ piece)) ∙ sym is) ∙ all ∙ append-nil (lines ++ line ∷ [])
cut_script front piece line (b ∷ behind) lines bytes more is all =
    ap lines_of (sym (append-nil (front ++ piece))) ∙ more (omega arith) [] ∙ append-nil (lines ++ line ∷ [])

pub cut_more : (bytes rest behind line : List ℕ) (taken : ℕ) → 0 < length rest → lines_of rest ≡ line ∷ lines_of behind → length behind < length rest → behind ≡ drop (length rest - length behind) rest → (0 < length behind → (xs : List ℕ) → lines_of (take (length rest - length behind) rest ++ xs) ≡ line ∷ lines_of xs) → is_run_header line ≡ false → IsCut bytes rest taken → IsCut bytes behind (taken + 1)
cut_more bytes rest behind line taken some first_line shorter back whole other c =
    let piece = take (length rest - length behind) rest in
    let rest_is : rest ≡ piece ++ behind = sym (take-append-drop (length rest - length behind) rest) ∙ ap (λ xs. piece ++ xs) (sym back) in
    let bytes_are : bytes ≡ (c.front ++ piece) ++ behind = c.bytes_are ∙ ap (λ xs. c.front ++ xs) rest_is ∙ sym (append_assoc c.front piece behind) in
    let all : lines_of bytes ≡ (c.lines ++ line ∷ []) ++ lines_of behind = c.all ∙ ap (λ xs. c.lines ++ xs) first_line ∙ sym (append_assoc c.lines (line ∷ []) (lines_of behind)) in
    let more : 0 < length behind → (xs : List ℕ) → lines_of ((c.front ++ piece) ++ xs) ≡ (c.lines ++ line ∷ []) ++ lines_of xs = λ left xs.
    ap lines_of (append_assoc c.front piece xs) ∙ c.more some (piece ++ xs) ∙ ap (λ ys. c.lines ++ ys) (whole left xs) ∙ sym (append_assoc c.lines (line ∷ []) (lines_of xs)) in
    record {
      front = c.front ++ piece;
      lines = c.lines ++ line ∷ [];
      bytes_are = bytes_are;
      script = cut_script c.front piece line behind c.lines bytes more bytes_are all;
      more = more;
      all = all;
      none = λ ys. ap script_len (append_assoc c.lines (line ∷ []) ys) ∙ c.none (line ∷ ys) ∙ ap (λ n. length c.lines + n) (len_more line ys other) ∙ omega (arith, length-append c.lines (line ∷ []));
      count = omega (arith, length-append c.lines (line ∷ []), c.count);
    }

-- what was cut off
pub cut_front : (bytes rest : List ℕ) (taken : ℕ) (c : IsCut bytes rest taken) → take (length bytes - length rest) bytes ≡ c.front
cut_front bytes rest taken c =
    let count : length bytes - length rest ≡ length c.front = omega (arith, ap length c.bytes_are, length-append c.front rest) in
    ap (λ n. take n bytes) count ∙ ap (take (length c.front)) c.bytes_are ∙ take-append_seam c.front rest

pub cut_len : (bytes rest : List ℕ) (taken : ℕ) → IsCut bytes rest taken → script_len (lines_of rest) ≡ 0 → script_len (lines_of bytes) ≡ taken
cut_len bytes rest taken c at = ap script_len c.all ∙ c.none (lines_of rest) ∙ omega (arith, at, c.count)

pub script_is : (bytes rest : List ℕ) (taken : ℕ) → IsCut bytes rest taken → script_len (lines_of rest) ≡ 0 → lines_of (take (length bytes - length rest) bytes) ≡ script_part (lines_of bytes)
script_is bytes rest taken c at =
    ap lines_of (cut_front bytes rest taken c) ∙ c.script ∙ sym (take-append_seam c.lines (lines_of rest))
    ∙ (λ i. take (len i) (sym c.all i))
  where
    len : length c.lines ≡ script_len (lines_of bytes)
    len = c.count ∙ sym (cut_len bytes rest taken c at)

pub run_is : (bytes rest : List ℕ) (taken : ℕ) → IsCut bytes rest taken → script_len (lines_of rest) ≡ 0 → map strip_carriage_return (lines_of rest) ≡ run_part (lines_of bytes)
run_is bytes rest taken c at =
    ap (map strip_carriage_return) (sym (drop-append_seam c.lines (lines_of rest)) ∙ (λ i. drop (len i) (sym c.all i)))
  where
    len : length c.lines ≡ script_len (lines_of bytes)
    len = c.count ∙ sym (cut_len bytes rest taken c at)
