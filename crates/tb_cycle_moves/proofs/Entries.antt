-- What the calls on an outlet tree need.
use Rattle.std.proofs.Common.{◌≡◌, ◌∙◌, ℕ, List}
use Rattle.tb_places.specs.Places.{Counts}
use Rattle.tb_grid.specs.Grid.{counts_of}
use Rattle.tb_outlets.specs.declared.marks.Mark.{Mark}
use Rattle.tb_outlets.specs.declared.side.Side.{Side}
use Rattle.tb_cycles.specs.Entries.{IsEntry, IsStart}
use Rattle.tb_cycles.specs.Ways.{LeadOut}
use Rattle.tb_trees.specs.Bodies.{BodyOnGrid, mesh_of}
use Rattle.tb_trees.proofs.Filled.{mesh_counts}

pub same_counts : (b : BodyOnGrid) (n : Counts) → n ≡ counts_of b.grid → n ≡ (mesh_of b).cells
same_counts b n same = same ∙ mesh_counts b.body b.grid

pub starts : (b : BodyOnGrid) (n : Counts) (marks : List Mark) (sides : List Side) (f c : ℕ) (s : Side) → n ≡ counts_of b.grid → LeadOut (mesh_of b) marks sides → IsEntry (mesh_of b) f c s → IsStart n marks sides c s
starts b n marks sides f c s same leads entry = record { mesh = mesh_of b; counts = same_counts b n same; leads = leads; face = f; entry = entry }
