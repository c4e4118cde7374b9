use Rattle.tb_moves.proofs.Starting.{kept_at_start}
use Rattle.tb_moves.proofs.session.Session.new.Goals as goal

pub invariant_of-result : goal.invariant_of-result
invariant_of-result c = kept_at_start c.in_ok-setting.setting (record { body = c.args.body.now; grid = c.args.grid.now; case = c.args.case }) c.in_ok-field.field c.in_ok-flux.flux c.in_ok-setting.ensures c.keeps.ensures.limits c.keeps.ensures.accepted c.keeps.ensures.grid c.keeps.ensures.carries c.in_ok-field.ensures c.in_ok-flux.ensures
