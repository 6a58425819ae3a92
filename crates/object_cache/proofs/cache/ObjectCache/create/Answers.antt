use Rattle.std.proofs.Common.{rules, ◌≡◌, ◌≤◌, ◌*◌, false, length, arith, sym, ap, ◌∙◌, subst}
use Rattle.std.proofs.lemmas.List.{length-replicate}
use Rattle.kmem_model.specs.CacheState.{sizes_of, opening}
use Rattle.kmem_model.specs.SettleWhole.{IsWhole}
use Rattle.kmem_model.specs.declared.cache_state.Mode.TheVariants.{Off}
use Rattle.kmem_model.proofs.SettleWhole.{opening_whole}
use Rattle.object_cache.specs.Cache.{cache_of}
use Rattle.object_cache.specs.declared.scan.Scan.{Scan}
use Rattle.object_cache.proofs.Tracked.{none_out}
use Rattle.object_cache.proofs.cache.ObjectCache.create.Goals as goal

pub invariant_of-result : goal.invariant_of-result
invariant_of-result g c =
    let list = c.in_ok-create.field-0 in
    let moves = c.in_ok-create-2.field-0 in
    let scan : Scan = record { mode = Off; numerator = 1; found_fragmented = false; begun = false } in
    let opened : opening (sizes_of c.args.slabs c.args.chunks c.args.limit) ≡ (cache_of list moves scan).state = search rules in
    record {
      skips = ap length c.in_ok-create.ensures.skip ∙ (length-replicate (c.args.slabs * c.args.chunks) false ∙ sym c.in_ok-create.ensures.cells);
      left_out = rw (c.in_ok-create.ensures.skip, c.in_ok-create-2.ensures.asked, c.in_ok-create-2.ensures.pending) (none_out c.args.limit (c.args.slabs * c.args.chunks));
      size = ap length c.in_ok-create-2.ensures.asked ∙ (length-replicate (c.args.slabs * c.args.chunks) false ∙ sym c.in_ok-create.ensures.cells);
      few = subst (λ n. n ≤ 65536) (sym c.in_ok-create.ensures.cells) c.requires.buffers;
      least = omega (arith);
      most = omega (arith);
      whole = subst IsWhole opened (opening_whole c.args.slabs c.args.chunks c.args.limit c.requires.chunks.0 c.requires.limit);
    }
