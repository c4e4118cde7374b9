use Rattle.tb_outside.proofs.Gathered.{gathers_both}
use Rattle.tb_report.proofs.report.ReportText.put.Goals as goal

pub returns : goal.returns
returns g c =
    let detail = c.detail_of-detail.ensures in
    let cases = c.items-cases.ensures in
    let intervals = c.intervals_of-intervals.ensures in
    let lines = rw (detail, cases) at c.put_cases.ensures in
    let figures = rw (detail, intervals, cases) at c.put_figures.ensures in
    let factors = rw (detail, cases) at c.put_factors.ensures in
    gathers_both (gathers_both (gathers_both (gathers_both c.put.ensures.gathers lines) figures) factors) c.put-2.ensures.gathers
