use Rattle.std.proofs.Common.{◌≡◌, sym, ℕ, List, [], Bor, take, append-nil, arith}
use Rattle.std.proofs.lemmas.List.{take_all}
use Rattle.tb_outside.proofs.Gathered.{gathers_both, gathers_same}
use Rattle.tb_canonical.proofs.Joined.{behind_comma, fields_joined, gathers_behind}
use Rattle.tb_canonical.proofs.record.put_record.Goals as goal

-- what a read past the end would give
abbrev no_field : Bor (List ℕ)
no_field = record { ref_ptr = (0, 0); now = [] }

pub loop-field-init : goal.loop-field-init
loop-field-init g c = gathers_same (sym (append-nil c.args.word.now)) c.put.ensures.gathers

pub loop-field-preserved : goal.loop-field-preserved
loop-field-preserved g c =
    gathers_behind c.args.word.now behind_comma c.args.fields.now c.loop-field.field-index no_field c.loop-field-test.true
    c.loop-field.invariant (rw append-nil at c.put_pieces.ensures)

pub returns : goal.returns
returns g c =
    let whole : take c.loop-field.field-index c.args.fields.now ≡ c.args.fields.now = take_all c.loop-field.field-index c.args.fields.now (omega arith) in
    gathers_same (fields_joined c.args.word.now c.args.fields.now) (gathers_both (rw whole at c.loop-field.invariant) c.put-2.ensures.gathers)
