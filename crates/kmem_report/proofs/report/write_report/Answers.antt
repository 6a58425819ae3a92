use Rattle.kmem_model.specs.Report.{report_line}
use Rattle.kmem_report.proofs.Left.{front_of_head, whole_behind, front_behind}
use Rattle.kmem_report.proofs.report.write_report.Goals as goal

pub returns-in_err-write_all-clause-front : goal.returns-in_err-write_all-clause-front
returns-in_err-write_all-clause-front g c = front_of_head _ _ report_line _ c.in_err-write_all.ensures.front

pub returns-clause-whole : goal.returns-clause-whole
returns-clause-whole g c = whole_behind _ _ _ report_line _ c.write_part.result c.in_ok-write_all.ensures.whole c.write_part.ensures.whole

pub returns-clause-front : goal.returns-clause-front
returns-clause-front g c = front_behind _ _ _ report_line _ c.in_ok-write_all.ensures.whole c.write_part.ensures.front
