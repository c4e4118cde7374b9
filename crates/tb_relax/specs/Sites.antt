-- Faces as they are seen along their axis.
use Rattle.std.specs.Prelude.{◌<◌, ◌≤◌}
use Rattle.tb_places.specs.Places.{Counts, second, third}
use Rattle.tb_relax.specs.declared.site.Site.{Site}

-- a face of the grid
pub record IsSite (n : Counts) (s : Site) : Type 0 where
  pub along : s.i ≤ n s.axis
  pub second : s.j < n (second s.axis)
  pub third : s.k < n (third s.axis)
