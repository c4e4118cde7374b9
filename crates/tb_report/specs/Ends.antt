-- How the ends of an interval are printed: in W/K or W/(m·K) with six places.
use Rattle.std.specs.Prelude.{◌^◌, ◌++◌, ◌≤ℤ◌, ◌*ℤ◌, ℕ, ℤ, List, codes, pos}
use Rattle.tb_numbers.specs.Quotients.{ceiling, floor}
use Rattle.tb_numbers.specs.Texts.{fixed_text}
use Rattle.tb_terms.specs.declared.Interval.{Interval}

-- so many fW/K are 10⁻⁶ W/K, the last place that is printed
abbrev pub last_place : ℤ
last_place = pos (10 ^ 9)

-- the ends in units of the last place: the lower end rounded down, the upper one up
abbrev pub printed : Interval → Interval
printed i = record { lo = floor i.lo last_place; hi = ceiling i.hi last_place }

abbrev pub ends_text : Interval → List ℕ
ends_text i = codes "," ++ fixed_text 6 (printed i).lo ++ codes "," ++ fixed_text 6 (printed i).hi

-- what is printed holds what it stands for
pub record Holds (outer inner : Interval) : Type 0 where
  pub low : (outer.lo *ℤ last_place) ≤ℤ inner.lo
  pub high : inner.hi ≤ℤ (outer.hi *ℤ last_place)
