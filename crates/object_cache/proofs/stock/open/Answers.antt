use Rattle.std.proofs.Common.{◌≡◌, ◌<◌, ◌*◌, ◌/◌, true, Some, is_some, length, arith, sym, ap, ◌∙◌, refl, subst, option_map}
use Rattle.std.proofs.lemmas.Bool.{both_ways}
use Rattle.std.proofs.lemmas.List.{get_or-set_same}
use Rattle.kmem_model.specs.CacheState.{slab_at, no_slab, is_in_source, is_dead}
use Rattle.kmem_model.specs.CacheOrder.{first_of_slab}
use Rattle.kmem_model.specs.CacheEnter.{slab_listed, slab_taken}
use Rattle.slab_list.specs.Slabs.{on_buffer, fresh_slab}
use Rattle.object_cache.specs.Stock.{IsRoom}
use Rattle.object_cache.proofs.Lists.{reads_within, first_of}
use Rattle.object_cache.proofs.Stocked.{stood, held-taken, held-same}
use Rattle.object_cache.proofs.Freed.{listed_not_source}
use Rattle.object_cache.proofs.Full.{none_of, none_held}
use Rattle.object_cache.proofs.Rooms.{taken_stocked, opened_stocked, open_taken, wanted_source, dead_unlisted, taken_listed}
use Rattle.object_cache.proofs.stock.open.Goals as goal

pub unreachable-requires : goal.unreachable-requires
unreachable-requires g c =
    let list = c.args.list.now in
    let room = subst (IsRoom list) c.in-Source.is c.requires.room in
    let none = none_of list c.args.supply.now c.requires.stocked c.law_order.ensures.no_least is_in_source (none_held list c.args.supply.now c.requires.stocked c.in-None.ensures.none) in
    both_ways (is_some (first_of_slab list.chunks list.slabs is_in_source)) (ap is_some none) room.1

pub returns-in-Listed-clause-stocked : goal.returns-in-Listed-clause-stocked
returns-in-Listed-clause-stocked g c =
    let room = subst (IsRoom c.args.list.now) c.in-Listed.is c.requires.room in
    taken_stocked c.args.list.now c.args.supply.now c.in-Listed.number c.requires.stocked room.1

pub returns-in-Some-clause-wanted : goal.returns-in-Some-clause-wanted
returns-in-Some-clause-wanted g c =
    let list = c.args.list.now in
    let source = c.args.supply.now in
    let i = c.in-Some.slab in
    let least = c.in-Some.ensures.least in
    let below : i < length list.slabs = omega (arith, least.1, c.requires.stocked.held.size) in
    let room = subst (IsRoom list) c.in-Source.is c.requires.room in
    wanted_source list (Some (i * list.chunks)) room.0
    (ap (option_map (λ j. j * list.chunks))
    ((c.law_order.ensures.least (length list.slabs) i (λ j. is_in_source (slab_at list.slabs j))).1
    (record {
      below = below;
      passes = sym (stood list.slabs source i (slab_at list.slabs i) below c.requires.stocked.held) ∙ least.0.0;
      least = λ j lower. sym (stood list.slabs source j (slab_at list.slabs j) (omega (arith, lower, below)) c.requires.stocked.held) ∙ least.0.1 j lower;
    })))
    refl
    ∙ ap Some (sym c.list_slab.ensures.first)

pub returns-in-Some-clause-list : goal.returns-in-Some-clause-list
returns-in-Some-clause-list g c =
    let list = c.args.list.now in
    let below : c.in-Some.slab < length list.slabs = omega (arith, c.in-Some.ensures.least.1, c.requires.stocked.held.size) in
    ap (λ l. on_buffer l c.list_slab.result slab_taken) c.list_slab.ensures.list
    ∙ open_taken list c.in-Some.slab c.list_slab.result below c.list_slab.ensures.place.0

pub returns-in-Some-clause-stocked : goal.returns-in-Some-clause-stocked
returns-in-Some-clause-stocked g c =
    let list = c.args.list.now in
    let source = c.args.supply.now in
    let i = c.in-Some.slab in
    let slab = slab_at list.slabs i in
    let below : i < length list.slabs = omega (arith, c.in-Some.ensures.least.1, c.requires.stocked.held.size) in
    let fresh : slab_listed slab ≡ fresh_slab list.chunks =
    sym (get_or-set_same list.slabs i (slab_listed slab) no_slab below) ∙ (ap (λ l. slab_at l.slabs i) (sym c.list_slab.ensures.list) ∙ c.list_slab.ensures.fresh) in
    rw c.in-Some.ensures.taken
    (opened_stocked list _ i c.list_slab.result below c.list_slab.ensures.place c.list_slab.ensures.some fresh c.requires.stocked.used
    (held-taken list.slabs source i (slab_taken slab 0) below c.requires.stocked.held (listed_not_source (slab_taken slab 0) (taken_listed slab 0))))

pub returns-in-Dead-clause-wanted : goal.returns-in-Dead-clause-wanted
returns-in-Dead-clause-wanted g c =
    let list = c.args.list.now in
    let room = subst (IsRoom list) c.in-Dead.is c.requires.room in
    room.0
    ∙ ap Some (sym (c.list_slab-in-Dead.ensures.first ∙ first_of c.in-Dead.number list.chunks c.chunks.result c.chunks.ensures.whole.some c.chunks.ensures.chunks room.2))

pub returns-in-Dead-clause-list : goal.returns-in-Dead-clause-list
returns-in-Dead-clause-list g c =
    let list = c.args.list.now in
    let room = subst (IsRoom list) c.in-Dead.is c.requires.room in
    let i = c.in-Dead.number / c.chunks.result in
    let dead : is_dead (slab_at list.slabs i) ≡ true = ap (λ n. is_dead (slab_at list.slabs (c.in-Dead.number / n))) c.chunks.ensures.chunks ∙ room.1 in
    ap (λ l. on_buffer l c.list_slab-in-Dead.result slab_taken) c.list_slab-in-Dead.ensures.list
    ∙ open_taken list i c.list_slab-in-Dead.result (reads_within list.slabs i no_slab is_dead refl dead) c.list_slab-in-Dead.ensures.place.0

pub returns-in-Dead-clause-stocked : goal.returns-in-Dead-clause-stocked
returns-in-Dead-clause-stocked g c =
    let list = c.args.list.now in
    let source = c.args.supply.now in
    let room = subst (IsRoom list) c.in-Dead.is c.requires.room in
    let i = c.in-Dead.number / c.chunks.result in
    let slab = slab_at list.slabs i in
    let dead : is_dead slab ≡ true = ap (λ n. is_dead (slab_at list.slabs (c.in-Dead.number / n))) c.chunks.ensures.chunks ∙ room.1 in
    let below = reads_within list.slabs i no_slab is_dead refl dead in
    let fresh : slab_listed slab ≡ fresh_slab list.chunks =
    sym (get_or-set_same list.slabs i (slab_listed slab) no_slab below) ∙ (ap (λ l. slab_at l.slabs i) (sym c.list_slab-in-Dead.ensures.list) ∙ c.list_slab-in-Dead.ensures.fresh) in
    opened_stocked list source i c.list_slab-in-Dead.result below c.list_slab-in-Dead.ensures.place c.list_slab-in-Dead.ensures.some fresh c.requires.stocked.used
    (held-same list.slabs source i (slab_taken slab 0) below c.requires.stocked.held
    (listed_not_source (slab_taken slab 0) (taken_listed slab 0) ∙ sym (dead_unlisted slab dead).1))
