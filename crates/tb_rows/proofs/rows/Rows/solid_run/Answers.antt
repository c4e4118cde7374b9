use Rattle.std.proofs.Common.{◌≤◌, Some, arith, refl}
use Rattle.tb_places.specs.declared.AxisName.TheVariants.{X, Y, Z}
use Rattle.tb_places.specs.Places.{place_at}
use Rattle.tb_geometry.specs.declared.occupant.Occupant.TheVariants.{Solid}
use Rattle.tb_rows.proofs.Filled.{above_fits, below_fits, occupant_fits}
use Rattle.tb_rows.proofs.rows.Rows.solid_run.Goals as goal

pub invariant_of-result : goal.invariant_of-result
invariant_of-result c =
    let f = c.args.self.now in let d = f.body.now in let g = f.grid.now in let limits = c.requires.rows.limits in
    let b = c.beside-beside.ensures in let j = c.args.around.now.j in let k = c.args.around.now.k in let i = c.args.from in
    let here : i ≤ i = omega arith in
    record {
      conductivity = (occupant_fits d g limits (place_at i j k) (Some (Solid c.args.lambda)) (c.requires.own i here c.requires.up)).conducts c.args.lambda refl;
      filled_low_x = below_fits d g limits X i j k _ b.low_x;
      filled_high_x = above_fits d g limits X c.args.to j k _ b.high_x;
      filled_low_y = below_fits d g limits Y j i k _ (b.low_y i here c.requires.up);
      filled_high_y = above_fits d g limits Y _ i k _ (b.high_y i here c.requires.up);
      filled_low_z = below_fits d g limits Z k i j _ (b.low_z i here c.requires.up);
      filled_high_z = above_fits d g limits Z _ i j _ (b.high_z i here c.requires.up);
    }

pub returns : goal.returns
returns c =
    let b = c.beside-beside.ensures in
    record {
      run = record {
        within = c.requires.end;
        own = c.requires.own;
        low_x = b.low_x;
        high_x = b.high_x;
        low_y = b.low_y;
        high_y = b.high_y;
        low_z = b.low_z;
        high_z = b.high_z;
      };
      from_is = refl;
      to_is = refl;
    }
