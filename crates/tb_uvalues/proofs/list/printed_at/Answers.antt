use Rattle.std.proofs.Common.{get_or}
use Rattle.std.proofs.lemmas.Option.{slice_get-get_or}
use Rattle.tb_planar.proofs.Answering.{no_part}
use Rattle.tb_uvalues.proofs.Listing.{not_refused}
use Rattle.tb_uvalues.proofs.list.printed_at.Goals as goal

pub unreachable-requires : goal.unreachable-requires
unreachable-requires c =
    let parts = c.args.detail.now.parts in
    let p = get_or parts c.args.place no_part in
    let there = slice_get-get_or parts c.args.place no_part c.requires.known in
    not_refused c.args.detail.now c.args.place p _ c.requires.values there (c.in-Err.ensures.answer p there)
