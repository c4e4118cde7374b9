use Rattle.tb_bundle_text.proofs.CaseText.{case_put, field_enough, field_put, flux_enough, flux_put}
use Rattle.tb_bundle_text.proofs.case.put_case.Goals as goal

pub put_field-requires-clause-enough : goal.put_field-requires-clause-enough
put_field-requires-clause-enough g c =
    let n = c.counts_of-counts.result in
    let e = c.counts_of-counts.ensures in
    field_enough c.args.case.now n.x n.y n.z (record { x_is = e.x; y_is = e.y; z_is = e.z }) c.values.result.now c.values.ensures c.requires.field

pub put_flux-requires-clause-enough : goal.put_flux-requires-clause-enough
put_flux-requires-clause-enough g c =
    let n = c.counts_of-counts.result in
    let e = c.counts_of-counts.ensures in
    flux_enough c.args.case.now n.x n.y n.z (record { x_is = e.x; y_is = e.y; z_is = e.z }) c.values-2.result.now c.values-2.ensures c.requires.flux

pub returns : goal.returns
returns g c =
    let n = c.counts_of-counts.result in
    let e = c.counts_of-counts.ensures in
    case_put c.args.environments.now c.args.case.now c.put_case_row.ensures c.put_axis.ensures c.put_axis-2.ensures c.put_axis-3.ensures
    (field_put c.args.case.now n.x n.y n.z (record { x_is = e.x; y_is = e.y; z_is = e.z }) c.values.result.now c.values.ensures c.put_field.ensures)
    (flux_put c.args.case.now n.x n.y n.z (record { x_is = e.x; y_is = e.y; z_is = e.z }) c.values-2.result.now c.values-2.ensures c.put_flux.ensures)
    c.put_ends.ensures c.put_verdict.ensures
