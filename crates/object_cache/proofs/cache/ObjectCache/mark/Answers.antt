use Rattle.std.proofs.Common.{rules, ◌≡◌, ◌≤◌, false, length, get_or, sym, ap, ◌∙◌, subst}
use Rattle.slab_list.specs.Slabs.{ListState}
use Rattle.kmem_model.specs.CacheEnter.{with_answer}
use Rattle.kmem_model.specs.SettleWhole.{IsWhole}
use Rattle.kmem_model.proofs.SettleWhole.{answer_whole}
use Rattle.kmem_answers.specs.Words.{said_of}
use Rattle.object_cache.specs.Cache.{cache_of}
use Rattle.object_cache.proofs.cache.ObjectCache.mark.Goals as goal

pub invariant_of-self : goal.invariant_of-self
invariant_of-self g c =
    let f = c.self.inside in
    let answered : with_answer (cache_of f.stock f.moves f.scan).state c.args.number (said_of c.args.verdict) ≡ (cache_of c.answer.new.self f.moves f.scan).state = search rules in
    record {
      skips = ap (λ (l : ListState). length l.skip) c.answer.ensures ∙ (c.self.invariant.skips ∙ sym (ap (λ (l : ListState). length l.cells) c.answer.ensures));
      left_out = λ b. ap (λ (l : ListState). get_or l.skip b false) c.answer.ensures ∙ c.self.invariant.left_out b;
      size = c.self.invariant.size ∙ sym (ap (λ (l : ListState). length l.cells) c.answer.ensures);
      few = subst (λ n. n ≤ 65536) (sym (ap (λ (l : ListState). length l.cells) c.answer.ensures)) c.self.invariant.few;
      least = c.self.invariant.least;
      most = c.self.invariant.most;
      whole = subst IsWhole answered (answer_whole (cache_of f.stock f.moves f.scan).state c.args.number (said_of c.args.verdict) c.self.invariant.whole);
    }
