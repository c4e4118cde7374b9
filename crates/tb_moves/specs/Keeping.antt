-- What a session keeps beside its field and flux.
use Rattle.std.specs.Prelude.{◌≡◌, ◌^◌, ◌≤◌, ℕ, Option, IfSome, ℤ, unsigned_abs}
use Rattle.tb_detail.specs.Limits.{InLimits}
use Rattle.tb_grid.specs.Grid.{IsGrid}
use Rattle.tb_geometry.specs.Faults.{IsAccepted}
use Rattle.tb_geometry.specs.Grids.{CarriesBody}
use Rattle.tb_costs.specs.Admissible.{IsAdmissible}
use Rattle.tb_moves.specs.Sessions.{Session, inside_of, lower_of, mesh_of, state_of, upper_of}

-- an end, if it is kept, and its size
abbrev pub IsKeptEnd : Option ℤ → ℤ → ℕ → Type 0
IsKeptEnd kept end most = IfSome kept (λ e. (e ≡ end) × (unsigned_abs e ≤ most))

-- the state is admissible, and the ends that are kept are the present ones
pub record KeepsSession (s : Session) (upper lower : Option ℤ) : Type 0 where
  pub limits : InLimits s.body
  pub accepted : IsAccepted s.body
  pub grid : IsGrid s.grid
  pub carries : CarriesBody s.grid s.body
  pub state : IsAdmissible (mesh_of s) (inside_of s) (state_of s)
  pub highest : IsKeptEnd upper (upper_of s s.field) (2 ^ 120)
  pub lowest : IsKeptEnd lower (lower_of s s.flux) (2 ^ 121)
