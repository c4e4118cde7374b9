use Rattle.std.proofs.Common.{◌∙◌, ◌<◌, length, get_or, arith}
use Rattle.std.proofs.lemmas.List.{get_or_default, length-set}
use Rattle.tb_detail.specs.declared.PlanarTerm.{PlanarTerm}
use Rattle.tb_psi.specs.Transmittances.{IsTransmittance}
use Rattle.tb_report.specs.Values.{planar_term}
use Rattle.tb_report.proofs.Filled.{all_filled, filled}
use Rattle.tb_report.proofs.terms.terms_of.Goals as goal

pub loop-at-preserved : goal.loop-at-preserved
loop-at-preserved c =
    let space = c.loop-at.invariant.room in
    let few = c.requires.few in
    let test = c.loop-at-test.true in
    let room : c.loop-at.at < length c.loop-at.made = omega (arith, space, few, test) in
    let none : PlanarTerm = record { part = 0; amount = 0 } in
    let term = get_or c.args.terms.now c.loop-at.at none in
    record {
      room = length-set c.loop-at.made c.loop-at.at _ ∙ space;
      terms = filled (planar_term c.args.detail.now) c.args.terms.now c.loop-at.made c.loop-at.at term _ room test
          (get_or_default c.args.terms.now c.loop-at.at none term test) c.term_of.ensures.value c.loop-at.invariant.terms;
      sizes = all_filled IsTransmittance c.loop-at.made c.loop-at.at _ room c.loop-at.invariant.sizes c.term_of.ensures.size;
    }
