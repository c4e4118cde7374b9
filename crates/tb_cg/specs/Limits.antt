-- The limits of candidates: those of the node values of a field and of the face values of a flux.
use Rattle.std.specs.Prelude.{ℤ, pos, ◌≤ℤ◌, ◌^◌, ◌≤◌, unsigned_abs}

-- from the temperature of the cold environments to that of the warm ones, in 10⁻⁸ of the difference
abbrev pub IsTemperature : ℤ → Type 0
IsTemperature t = (pos 0 ≤ℤ t) × (t ≤ℤ pos (10 ^ 8))

-- at most 1 kW per unit difference in either direction, in nW
abbrev pub IsFlow : ℤ → Type 0
IsFlow f = unsigned_abs f ≤ 10 ^ 12
