use Rattle.std.proofs.Common.{◌∙◌, ap, refl, sym}
use Rattle.tb_detail.specs.declared.Part.{Part}
use Rattle.tb_planar.proofs.Answering.{part_is}
use Rattle.tb_uvalues.proofs.list.refusal_at.Goals as goal

pub returns-in-Ok : goal.returns-in-Ok
returns-in-Ok c =
    let first = c.requires.first in
    let same = part_is c.args.detail.now.parts c.items.result.now c.args.place c.args.place c.index-items-place.result first.part c.items.ensures refl c.index-items-place.is first.there in
    record {
      place = c.args.place;
      first = first;
      named = c.in-Ok.ensures ∙ ap (λ (p : Part). p.name) (sym c.index-items-place.is ∙ same);
    }
