use Rattle.kmem_report.proofs.Left.{head_front, then_whole, then_front}
use Rattle.kmem_report.proofs.report.write_part.Goals as goal

pub returns-in_err-write_all-clause-front : goal.returns-in_err-write_all-clause-front
returns-in_err-write_all-clause-front g c = head_front _ _ c.put_numbers-at.new.room _ _ c.put_numbers-at.result c.put_numbers-at.ensures.text c.in_err-write_all.ensures.front

pub returns-clause-whole : goal.returns-clause-whole
returns-clause-whole g c = then_whole _ _ _ c.put_numbers-at.new.room _ _ c.put_numbers-at.result c.write_slabs.result c.put_numbers-at.ensures.text c.in_ok-write_all.ensures.whole c.write_slabs.ensures.whole

pub returns-clause-front : goal.returns-clause-front
returns-clause-front g c = then_front _ _ _ c.put_numbers-at.new.room _ _ c.put_numbers-at.result c.put_numbers-at.ensures.text c.in_ok-write_all.ensures.whole c.write_slabs.ensures.front
