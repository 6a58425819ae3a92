-- Counts of moves by how they ended (this project's own).
use Rattle.std.specs.Prelude.{ℕ, ◌+◌, ◌-◌, ◌^◌, min, List, [], ◌∷◌}
use Rattle.kmem_model.specs.Report.{MoveCounts}
use Rattle.kmem_model.specs.Settle.{EndedMove}
use Rattle.kmem_model.specs.declared.cache_entry.Said.{Said}
use Rattle.kmem_model.specs.declared.cache_entry.Said.TheVariants.{Yes, No, Later, DontNeed, DontKnow}
use Rattle.object_cache.specs.declared.tally.Tally.{Tally}

-- the sum of two counts, or the greatest count where the sum would pass it
abbrev pub capped_sum : ℕ → ℕ → ℕ
capped_sum a b = min (a + b) (2 ^ 64 - 1)

-- one more
abbrev pub one_more : ℕ → ℕ
one_more n = capped_sum n 1

-- the counts of two tallies together
abbrev pub tally_sum : Tally → Tally → Tally
tally_sum a b =
    record {
      begun = capped_sum a.begun b.begun;
      yes = capped_sum a.yes b.yes;
      no = capped_sum a.no b.no;
      later = capped_sum a.later b.later;
      dont_need = capped_sum a.dont_need b.dont_need;
      dont_know = capped_sum a.dont_know b.dont_know;
      gone = capped_sum a.gone b.gone;
    }

-- with one more move that was begun, or that ended unasked
abbrev pub tally_begun : Tally → Tally
tally_begun t = record t { begun = one_more t.begun }

abbrev pub tally_gone : Tally → Tally
tally_gone t = record t { gone = one_more t.gone }

-- with one more move that ended by this answer
abbrev pub tally_answered : Said → Tally → Tally
tally_answered Yes t = record t { yes = one_more t.yes }
tally_answered No t = record t { no = one_more t.no }
tally_answered Later t = record t { later = one_more t.later }
tally_answered DontNeed t = record t { dont_need = one_more t.dont_need }
tally_answered DontKnow t = record t { dont_know = one_more t.dont_know }

-- with one more move, which was begun and ended by this answer
abbrev pub counted : Tally → Said → Tally
counted t Yes = record t { begun = one_more t.begun; yes = one_more t.yes }
counted t No = record t { begun = one_more t.begun; no = one_more t.no }
counted t Later = record t { begun = one_more t.begun; later = one_more t.later }
counted t DontNeed = record t { begun = one_more t.begun; dont_need = one_more t.dont_need }
counted t DontKnow = record t { begun = one_more t.begun; dont_know = one_more t.dont_know }

-- with these moves more
abbrev pub counted_all : Tally → List EndedMove → Tally
counted_all t [] = t
counted_all t (move ∷ moves) = counted_all (counted t move.said) moves

-- these moves alone
abbrev pub tally_of : List EndedMove → Tally
tally_of moves = counted_all (record { begun = 0; yes = 0; no = 0; later = 0; dont_need = 0; dont_know = 0; gone = 0 }) moves

-- how the moves of a tally ended, as it is reported
abbrev pub ends_of : Tally → MoveCounts
ends_of t = record { yes = t.yes; no = t.no; later = t.later; dont_need = t.dont_need; dont_know = t.dont_know; gone = t.gone }
