-- What offers of candidates do to a session, whichever candidates there were.
use Rattle.std.specs.Prelude.{◌≡◌, Bool, true, false, List, ℤ}
use Rattle.tb_moves.specs.Sessions.{IsHigher, IsLower, Session, with_field, with_flux}

-- a lower field was taken
pub record TakesLower (old new : Session) : Type 0 where
  pub field : List ℤ
  pub lower : IsLower old field
  pub taken : new ≡ with_field old field

-- a higher flux was taken
pub record TakesHigher (old new : Session) : Type 0 where
  pub flux : List ℤ
  pub higher : IsHigher old flux
  pub taken : new ≡ with_flux old flux

-- told true, a lower field was taken; else nothing changed
abbrev pub IsFieldOffer : Session → Bool → Session → Type 0
IsFieldOffer old true new = TakesLower old new
IsFieldOffer old false new = new ≡ old

abbrev pub IsFluxOffer : Session → Bool → Session → Type 0
IsFluxOffer old true new = TakesHigher old new
IsFluxOffer old false new = new ≡ old
