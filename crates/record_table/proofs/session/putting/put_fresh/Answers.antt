use Rattle.std.proofs.Common.{Err, ap, ◌∙◌, subst}
use Rattle.kmem_buf.specs.Homes.{Homes}
use Rattle.record_heap.specs.View.{IsBlankBuffer}
use Rattle.record_table.proofs.Brought.{fresh_ok, fresh_full}
use Rattle.record_table.proofs.session.putting.put_fresh.Goals as goal
use Rattle.record_table.proofs.session.putting.put_fresh.Goals.{in-Ok, in-Err-Full}

pub returns-clause-brought : goal.returns-clause-brought
returns-clause-brought g c =
    let put = c.run_put-end in
    let acted = c.alloc.ensures.acted in
    let cells = c.args.table.now.home.cache.cells in
    elim c.match-alloc.branch [
      | in-Ok w ↦
          (let ready = w.in-Ok.ensures.acted.2.0 in
          fresh_ok cells c.args.pass.now put.new.pass c.args.number c.args.name c.args.value c.match-alloc.offer put.result.0 c.in-Replied.reply c.in-Replied.back
          c.args.share put.result.1 c.in-Replied.is put.ensures.put put.ensures.share _ _ c.args.cache.now c.args.seat.now c.alloc.new.seat w.in-Ok.buf c.alloc.result acted.0 w.in-Ok.is w.offer-is
          (subst (λ (home : Homes). IsBlankBuffer home.cells w.in-Ok.buf) c.requires.home (record { of = ready.1; blank = ready.0 }))
          acted.1 acted.2 c.alloc.ensures.same)
      | in-Err-Full w ↦
          fresh_full cells c.args.pass.now put.new.pass c.args.number c.args.name c.args.value c.match-alloc.offer put.result.0 c.in-Replied.reply c.in-Replied.back
          c.args.share put.result.1 c.in-Replied.is put.ensures.put put.ensures.share _ _ c.args.cache.now c.args.seat.now c.alloc.new.seat w.in-Err-Full.note c.alloc.result acted.0 (w.in-Err-Full.is ∙ ap Err w.in-Err-Full.field-0-is) w.offer-is
          acted.1 acted.2 c.alloc.ensures.same
    ]
