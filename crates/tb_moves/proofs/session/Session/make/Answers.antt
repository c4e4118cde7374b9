use Rattle.std.proofs.Common.{subst, sym}
use Rattle.tb_moves.specs.declared.moves.Move.{Move}
use Rattle.tb_moves.specs.Moves.{HasMove, IsMove}
use Rattle.tb_moves.specs.Sessions.{inside_of, mesh_of, state_of}
use Rattle.tb_moves.proofs.Applying.{field_alike, field_of_flux, field_stays, field_told, flux_alike, flux_of_field, flux_stays, flux_told}
use Rattle.tb_moves.proofs.session.Session.make.Goals as goal

pub apply_node-requires : goal.apply_node-requires
apply_node-requires c = (subst (λ (w : Move). HasMove (mesh_of c.args.self.now) w) c.in-Node.is c.requires)

pub returns-in-Node-clause-moved : goal.returns-in-Node-clause-moved
returns-in-Node-clause-moved c = subst (λ (w : Move). IsMove (mesh_of c.args.self.now) (inside_of c.args.self.now) w (state_of c.args.self.now) (state_of c.apply_node.new.self)) (sym c.in-Node.is) (c.apply_node.ensures.moved, flux_of_field c.args.self.now c.apply_node.new.self c.apply_node.result c.apply_node.ensures.rest)

pub returns-in-Node-clause-told : goal.returns-in-Node-clause-told
returns-in-Node-clause-told c = field_told c.args.self.now c.apply_node.new.self c.apply_node.result c.apply_node.ensures.rest c.apply_node.ensures.told

pub returns-in-Node-clause-stays : goal.returns-in-Node-clause-stays
returns-in-Node-clause-stays c = field_stays c.args.self.now c.apply_node.new.self c.apply_node.result c.apply_node.ensures.rest c.apply_node.ensures.told

pub returns-in-Node-clause-alike : goal.returns-in-Node-clause-alike
returns-in-Node-clause-alike c = field_alike c.args.self.now c.apply_node.new.self c.apply_node.result c.apply_node.ensures.rest

pub apply_loop-requires-clause-edge : goal.apply_loop-requires-clause-edge
apply_loop-requires-clause-edge c = (subst (λ (w : Move). HasMove (mesh_of c.args.self.now) w) c.in-Loop.is c.requires).0

pub apply_loop-requires-clause-inner : goal.apply_loop-requires-clause-inner
apply_loop-requires-clause-inner c = (subst (λ (w : Move). HasMove (mesh_of c.args.self.now) w) c.in-Loop.is c.requires).1

pub returns-in-Loop-clause-moved : goal.returns-in-Loop-clause-moved
returns-in-Loop-clause-moved c = subst (λ (w : Move). IsMove (mesh_of c.args.self.now) (inside_of c.args.self.now) w (state_of c.args.self.now) (state_of c.apply_loop.new.self)) (sym c.in-Loop.is) (c.apply_loop.ensures.moved, field_of_flux c.args.self.now c.apply_loop.new.self c.apply_loop.result c.apply_loop.ensures.rest)

pub returns-in-Loop-clause-told : goal.returns-in-Loop-clause-told
returns-in-Loop-clause-told c = flux_told c.args.self.now c.apply_loop.new.self c.apply_loop.result c.apply_loop.ensures.rest c.apply_loop.ensures.told

pub returns-in-Loop-clause-stays : goal.returns-in-Loop-clause-stays
returns-in-Loop-clause-stays c = flux_stays c.args.self.now c.apply_loop.new.self c.apply_loop.result c.apply_loop.ensures.rest c.apply_loop.ensures.told

pub returns-in-Loop-clause-alike : goal.returns-in-Loop-clause-alike
returns-in-Loop-clause-alike c = flux_alike c.args.self.now c.apply_loop.new.self c.apply_loop.result c.apply_loop.ensures.rest

pub apply_cycle-requires-clause-face : goal.apply_cycle-requires-clause-face
apply_cycle-requires-clause-face c = (subst (λ (w : Move). HasMove (mesh_of c.args.self.now) w) c.in-Cycle.is c.requires).0

pub apply_cycle-requires-clause-cycle : goal.apply_cycle-requires-clause-cycle
apply_cycle-requires-clause-cycle c = (subst (λ (w : Move). HasMove (mesh_of c.args.self.now) w) c.in-Cycle.is c.requires).1

pub returns-in-Cycle-clause-moved : goal.returns-in-Cycle-clause-moved
returns-in-Cycle-clause-moved c = subst (λ (w : Move). IsMove (mesh_of c.args.self.now) (inside_of c.args.self.now) w (state_of c.args.self.now) (state_of c.apply_cycle.new.self)) (sym c.in-Cycle.is) (c.apply_cycle.ensures.moved, field_of_flux c.args.self.now c.apply_cycle.new.self c.apply_cycle.result c.apply_cycle.ensures.rest)

pub returns-in-Cycle-clause-told : goal.returns-in-Cycle-clause-told
returns-in-Cycle-clause-told c = flux_told c.args.self.now c.apply_cycle.new.self c.apply_cycle.result c.apply_cycle.ensures.rest c.apply_cycle.ensures.told

pub returns-in-Cycle-clause-stays : goal.returns-in-Cycle-clause-stays
returns-in-Cycle-clause-stays c = flux_stays c.args.self.now c.apply_cycle.new.self c.apply_cycle.result c.apply_cycle.ensures.rest c.apply_cycle.ensures.told

pub returns-in-Cycle-clause-alike : goal.returns-in-Cycle-clause-alike
returns-in-Cycle-clause-alike c = flux_alike c.args.self.now c.apply_cycle.new.self c.apply_cycle.result c.apply_cycle.ensures.rest
