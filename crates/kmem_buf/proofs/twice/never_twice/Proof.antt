-- A badge owns three quarters of its seat's view, so no other badge has a part that size.
use Rattle.std.proofs.Common.{◌≡◌, List, [], ◌∷◌, refl, sym, ℕ}
use base.Stored.{Coded}
use types.Kit.{‵, raw, ◌⊛◌, given, ◌$◌, ◌∵◌, !, qed, move, keep, split, fsplit, learn, rewrite, use2}
use denote.Steps.{heard}
use denote.RattleType.{RattleType, owns}
use denote.Signature.{types_at, plain}
use denote.Exit.{yes}
use denote.Triple.Entry.{alive}
use denote.Triple.Walked.{Stays, stay_dropped, Goes-dropped}
use contract.Monad.{fact}
use Rattle.atomic_table.specs.Seated.{TableId, seen, badge_owns}
use Rattle.atomic_table.proofs.Roster.{apart}
use Rattle.atomic_table.proofs.Walks.{proved_at}
use Rattle.atomic_table.specs.contracts.badge.Badge as badge
use base.Share.{three_quarters}
use Rattle.kmem_buf.specs.declared.board.View.{View}
use Rattle.kmem_buf.specs.contracts.board.View.{the_row}
use Rattle.kmem_buf.specs.contracts.twice.never_twice as f
use Rattle.kmem_buf.proofs.twice.never_twice.Statement.{statement}
use Rattle.kmem_buf.proofs.twice.never_twice.Code as code

abbrev stayed : Stays f.ended.signature.params f.ended.kept
stayed = (stay_dropped _ yes, (stay_dropped _ yes, tt))

pub never_twice_spec : {M : Type 1} → statement M
never_twice_spec 𝓤 𝓛 𝓜 𝓡 wired =
    let c = f.clauses 𝓛 𝓜.mem 𝓡.returns in
    let Br : RattleType = badge.the_row the_row in
    let cv : Coded View = the_row.coded in
    let goes = Goes-dropped 𝓛 0 (plain (λ _. Br)) yes (λ κs x w. refl) in
    proved_at 𝓛 f.ended stayed c 𝓜 𝓡 (goes, (goes, tt)) f.Key.name code.function (code.unfolded 𝓤 𝓛.H 𝓜 𝓡 wired) (λ y are.
    let one = y.0.3.0 in let other = y.0.3.1.0 in
    let Asked : Type 0 = (one.table_id ≡ other.table_id) × (one.id ≡ other.id) × ((v : View) × (w : View) × (one.views ≡ v ∷ []) × (other.views ≡ w ∷ [])) in
    qed 𝓛 ((raw (alive 𝓛 f.signature y.0.0 y.0.1) ⊛ ‵ (owns (types_at f.signature.params y.0.0) y.0.3 y.0.4)) ∷ raw (fact 𝓤 Asked) ∷ []) ∵
    move ! (1 ∷ []) $ heard ! _ (λ asked. let γ : ℕ = one.table_id.views_name in
    split ! $ move ! (1 ∷ []) $ fsplit ! $ move ! (1 ∷ []) $ fsplit ! $ move ! (2 ∷ []) $ fsplit ! $ move ! (2 ∷ []) $ fsplit ! $
    keep ! (3 ∷ 1 ∷ []) $
    rewrite ! 0 (λ (vs : List View). ‵ (badge_owns cv.code one.table_id one.id vs)) asked.2.2 refl $
    rewrite ! 1 (λ (vs : List View). ‵ (badge_owns cv.code other.table_id other.id vs)) asked.2.3 refl $
    rewrite ! 1 (λ (z : TableId). ‵ (badge_owns cv.code z other.id (asked.2.1 ∷ []))) (sym asked.0) refl $
    use2 𝓛 (given (¬ (other.id ≡ one.id)) (‵ (seen cv.code γ one.id three_quarters asked.2.0) ⊛ ‵ (seen cv.code γ other.id three_quarters asked.2.1))) (apart 𝓛 cv γ one.id other.id asked.2.0 asked.2.1) $
    learn ! (λ two. absurd (two (sym asked.1)))))
