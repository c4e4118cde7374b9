use Rattle.thermal_cli.proofs.Demos.{found_answers}
use Rattle.thermal_cli.proofs.demo.search.Goals as goal

pub returns-in-Ok : goal.returns-in-Ok
returns-in-Ok c =
    found_answers c.args.storeys c.cells-cells.result c.args.body.now c.args.level.now c.in-Ok.found c.requires.body c.requires.limits c.requires.level
    c.cells-cells.ensures.cells c.requires.counted c.requires.carries
    (rw (c.demo_width.ensures, c.demo_sweeps.ensures) at c.in-Ok.ensures.solution)
