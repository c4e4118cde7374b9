use Rattle.tb_bundle_text.proofs.WholeText.{all_full, bundle_put}
use Rattle.tb_bundle_text.proofs.bundle.put_bundle.Goals as goal

pub put_cases-requires : goal.put_cases-requires
put_cases-requires g c = all_full c.args.bundle.now c.items-2.result.now c.items-2.ensures c.requires

pub returns : goal.returns
returns g c =
    bundle_put c.args.bundle.now c.items.result.now c.items-2.result.now c.items.ensures c.items-2.ensures
    c.put_record.ensures c.put_detail.ensures c.put_cases.ensures c.put_record-2.ensures
