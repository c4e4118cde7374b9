use Rattle.std.proofs.Common.{sym}
use Rattle.std.proofs.lemmas.Bool.{true≢false}
use Rattle.tb_relax.proofs.Settlement.{loop_unsettles, node_unsettles, settled_where}
use Rattle.tb_relax.proofs.Staying.{not_false, not_true}
use Rattle.tb_relax.proofs.table.Table.is_settled.Goals as goal

pub returns-then-some_node_moves : goal.returns-then-some_node_moves
returns-then-some_node_moves c = λ m inside of. ((λ d. absurd (true≢false (sym d))), (λ s. absurd (node_unsettles m inside c.args.self.now of c.args.values.now c.args.flows.now (c.some_node_moves.ensures.moves c.if-some_node_moves.true) s)))

pub returns : goal.returns
returns c = λ m inside of. (
  (λ d. settled_where m inside c.args.self.now of c.args.values.now c.args.flows.now c.requires.field c.requires.flux (c.some_node_moves.ensures.stay c.if-some_node_moves.false) (c.some_loop_moves.ensures.stay (not_true c.some_loop_moves.result d))),
  (λ s. not_false c.some_loop_moves.result (λ e. loop_unsettles m inside c.args.self.now of c.args.values.now c.args.flows.now (c.some_loop_moves.ensures.moves e) s)),
)
