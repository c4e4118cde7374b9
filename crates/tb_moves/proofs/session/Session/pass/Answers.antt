use Rattle.std.proofs.Common.{◌||◌, ◌∙◌, ap, Bool}
use Rattle.tb_costs.proofs.Filling.{body_fills}
use Rattle.tb_moves.specs.Sessions.{inside_of, mesh_of, state_of}
use Rattle.tb_moves.proofs.Leaving.{pass_leaves}
use Rattle.tb_moves.proofs.Passing.{pass_alike, pass_stays, passed}
use Rattle.tb_moves.proofs.session.Session.pass.Goals as goal

pub returns-clause-moved : goal.returns-clause-moved
returns-clause-moved c = passed c.args.self.now c.pass_nodes-nodes.new.self c.pass_loops-loops.new.self c.pass_cycles-cycles.new.self c.pass_nodes-nodes.result c.pass_loops-loops.result c.pass_cycles-cycles.result _ c.pass_nodes-nodes.ensures.rest c.pass_loops-loops.ensures.rest c.pass_cycles-cycles.ensures.rest c.pass_nodes-nodes.ensures.moved c.pass_loops-loops.ensures.moved c.pass_cycles-cycles.ensures.moved (c.either-2.ensures ∙ ap (λ (b : Bool). b || c.pass_cycles-cycles.result) c.either.ensures)

pub returns-clause-stays : goal.returns-clause-stays
returns-clause-stays c = pass_stays c.args.self.now c.pass_nodes-nodes.new.self c.pass_loops-loops.new.self c.pass_cycles-cycles.new.self c.pass_nodes-nodes.result c.pass_loops-loops.result c.pass_cycles-cycles.result _ c.pass_nodes-nodes.ensures.rest c.pass_loops-loops.ensures.rest c.pass_cycles-cycles.ensures.rest c.pass_nodes-nodes.ensures.moved c.pass_loops-loops.ensures.moved c.pass_cycles-cycles.ensures.moved (c.either-2.ensures ∙ ap (λ (b : Bool). b || c.pass_cycles-cycles.result) c.either.ensures)

pub returns-clause-alike : goal.returns-clause-alike
returns-clause-alike c = pass_alike c.args.self.now c.pass_nodes-nodes.new.self c.pass_loops-loops.new.self c.pass_cycles-cycles.new.self c.pass_nodes-nodes.result c.pass_loops-loops.result c.pass_cycles-cycles.result _ c.pass_nodes-nodes.ensures.rest c.pass_loops-loops.ensures.rest c.pass_cycles-cycles.ensures.rest c.pass_nodes-nodes.ensures.moved c.pass_loops-loops.ensures.moved c.pass_cycles-cycles.ensures.moved (c.either-2.ensures ∙ ap (λ (b : Bool). b || c.pass_cycles-cycles.result) c.either.ensures)

pub returns-clause-leaves : goal.returns-clause-leaves
returns-clause-leaves c =
    let s = c.args.self.now in
    pass_leaves (mesh_of s) (inside_of s) (body_fills s.body s.grid c.keeps_state.ensures.accepted c.keeps_state.ensures.carries)
    (state_of s) (state_of c.pass_cycles-cycles.new.self) _ (passed c.args.self.now c.pass_nodes-nodes.new.self c.pass_loops-loops.new.self c.pass_cycles-cycles.new.self c.pass_nodes-nodes.result c.pass_loops-loops.result c.pass_cycles-cycles.result _ c.pass_nodes-nodes.ensures.rest c.pass_loops-loops.ensures.rest c.pass_cycles-cycles.ensures.rest c.pass_nodes-nodes.ensures.moved c.pass_loops-loops.ensures.moved c.pass_cycles-cycles.ensures.moved (c.either-2.ensures ∙ ap (λ (b : Bool). b || c.pass_cycles-cycles.result) c.either.ensures)) c.keeps_state.ensures.state
