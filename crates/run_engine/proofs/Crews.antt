-- Workers before and after they have carried out their commands.
use Rattle.std.proofs.Common.{◌≡◌, ◌<◌, ◌++◌, ℕ, List, [], ◌∷◌, length, map, take, get_or, All, refl, sym, ap, ◌∙◌, arith}
use Rattle.std.proofs.Math.Seq.{take-append_seam}
use Rattle.std.proofs.lemmas.List.{length-map, get_or-map, ext_get_or}
use Rattle.std.proofs.lemmas.List.Elements.{All-nil, All-get_or, All-from_get_or}
use Rattle.kmem_text.specs.declared.command.Line.{Line}
use Rattle.run_workers.specs.declared.worker.Worker.{Worker}
use Rattle.run_workers.specs.Workers.{HasWorked}
use Rattle.run_engine.specs.declared.shared.Shared.{Shared}
use Rattle.run_engine.specs.Opened.{pass_of, IsStarting}
use Rattle.run_engine.specs.Done.{IsWorkerDone}

abbrev Each : Shared → List Worker → List Worker → Type 0
Each shared old new = (i : ℕ) (d : Worker) → i < length old → HasWorked shared.cache (get_or old i d) (get_or new i d)

pub all_done : (shared : Shared) (lines : List Line) (old new : List Worker) → length new ≡ length old → Each shared old new → All (IsStarting shared lines) old → All (IsWorkerDone shared lines) new
all_done shared lines old [] same each starting = All-nil (IsWorkerDone shared lines)
all_done shared lines old (w ∷ ws) same each starting =
    All-from_get_or (IsWorkerDone shared lines) (w ∷ ws) w (λ i small.
    let inside : i < length old = omega (arith, small, same) in
    record { before = get_or old i w; starting = All-get_or (IsStarting shared lines) old i w inside starting; worked = each i w inside })

pub same_passes : (shared : Shared) (lines : List Line) (old new : List Worker) → length new ≡ length old → Each shared old new → map pass_of new ≡ map pass_of old
same_passes shared lines [] [] same each = refl
same_passes shared lines (v ∷ vs) [] same each = absurd (omega (arith, same))
same_passes shared lines old (w ∷ ws) same each =
    ext_get_or 0 (map pass_of (w ∷ ws)) (map pass_of old) (length-map (w ∷ ws) pass_of ∙ (same ∙ sym (length-map old pass_of))) (λ i small.
    let here : i < length (w ∷ ws) = omega (arith, small, length-map (w ∷ ws) pass_of) in let there : i < length old = omega (arith, here, same) in
    get_or-map pass_of (w ∷ ws) i w 0 here ∙ ((each i w there).number ∙ sym (get_or-map pass_of old i w 0 there)))

-- a list that was lent as its whole comes back as its whole
pub seam : {A : Type 0} (n : ℕ) (xs ys : List A) → n ≡ length xs → take n (xs ++ ys) ≡ xs
seam n xs ys e = ap (λ k. take k (xs ++ ys)) e ∙ take-append_seam xs ys
