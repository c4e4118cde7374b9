-- What goes round an edge: the sites of its four faces, and the parts that a change has there.
use Rattle.std.specs.Prelude.{◌≡◌, ◌≢◌, ◌⊎◌, ℕ, ◌-◌, ◌^◌, ◌≤◌, Bool, true, false, List, map, slice_index, slice_index_or, ℤ, pos, negsuc, ◌+ℤ◌, ◌-ℤ◌, unsigned_abs, neg_ℤ}
use Rattle.tb_places.specs.declared.AxisName.{AxisName}
use Rattle.tb_places.specs.Along.{place_along}
use Rattle.tb_places.specs.Places.{Counts, face_number, place_at}
use Rattle.tb_weighted.specs.Flows.{Flows3}
use Rattle.tb_weighted.specs.FlowMoves.{counted, through}
use Rattle.tb_relax.specs.declared.part.Part.{Part}
use Rattle.tb_relax.specs.declared.part.Parts.{Parts}
use Rattle.tb_relax.specs.declared.site.Round.{Round}
use Rattle.tb_relax.specs.declared.site.Site.{Site}
use Rattle.tb_relax.specs.declared.table.Table.{Table}
use Rattle.tb_relax.specs.Parts.{IsPart}
use Rattle.tb_relax.specs.Sites.{IsSite}
use Rattle.tb_relax.specs.Tables.{face_counts_at, flow_on, rate_through, slope_through, table_counts}

-- two faces across one axis on different lines of cells, and two across another
pub record AreRound (n : Counts) (r : Round) : Type 0 where
  pub first : IsSite n r.first
  pub first_back : IsSite n r.first_back
  pub second : IsSite n r.second
  pub second_back : IsSite n r.second_back
  pub one_axis : r.first_back.axis ≡ r.first.axis
  pub other_axis : r.second_back.axis ≡ r.second.axis
  pub two_axes : r.first.axis ≢ r.second.axis
  pub lines : (r.first.j ≢ r.first_back.j) ⊎ (r.first.k ≢ r.first_back.k)
  pub other_lines : (r.second.j ≢ r.second_back.j) ⊎ (r.second.k ≢ r.second_back.k)

abbrev pub through_site : Site → Flows3
through_site s = through s.axis s.i s.j s.k

-- forth through the first of each two, and back through the other
abbrev pub round_flows : Round → Flows3
round_flows r a i j k = (through_site r.first a i j k -ℤ through_site r.first_back a i j k) +ℤ (through_site r.second a i j k -ℤ through_site r.second_back a i j k)

-- the face at a place counts
abbrev pub counts_at : Table → AxisName → ℕ → ℕ → ℕ → Bool
counts_at t a i j k = slice_index_or (map (λ w. w.counts) t.face_rows.now) (slice_index t.faces.now (face_number (table_counts t) a (place_at i j k))) false

abbrev pub round_change : Table → Round → Flows3
round_change t r a i j k = counted (counts_at t a i j k) (round_flows r a i j k)

abbrev pub number_of : Counts → Site → ℕ
number_of n s = face_number n s.axis (place_along s.axis s.i s.j s.k)

-- the part of a face that a change passes forth
pub record IsForth (t : Table) (flows : List ℤ) (s : Site) (p : Part) : Type 0 where
  pub part : IsPart p
  pub counts : p.counts ≡ face_counts_at t s.axis s.i s.j s.k
  pub here : p.here ≡ flow_on (table_counts t) flows s.axis s.i s.j s.k
  pub here_size : unsigned_abs p.here ≤ 10 ^ 12
  pub rate : p.pull.rate ≡ counted p.counts (rate_through t s.axis s.i s.j s.k)
  pub slope : p.pull.slope ≡ counted p.counts (slope_through t flows s.axis s.i s.j s.k)
  pub low : p.counts ≡ true → p.low ≡ (negsuc (10 ^ 12 - 1) -ℤ p.here)
  pub high : p.counts ≡ true → p.high ≡ (pos (10 ^ 12) -ℤ p.here)

-- and back
pub record IsBack (t : Table) (flows : List ℤ) (s : Site) (p : Part) : Type 0 where
  pub part : IsPart p
  pub counts : p.counts ≡ face_counts_at t s.axis s.i s.j s.k
  pub here : p.here ≡ flow_on (table_counts t) flows s.axis s.i s.j s.k
  pub here_size : unsigned_abs p.here ≤ 10 ^ 12
  pub rate : p.pull.rate ≡ counted p.counts (rate_through t s.axis s.i s.j s.k)
  pub slope : p.pull.slope ≡ neg_ℤ (counted p.counts (slope_through t flows s.axis s.i s.j s.k))
  pub low : p.counts ≡ true → p.low ≡ (p.here -ℤ pos (10 ^ 12))
  pub high : p.counts ≡ true → p.high ≡ (p.here +ℤ pos (10 ^ 12))

pub record ArePartsOf (t : Table) (flows : List ℤ) (r : Round) (p : Parts) : Type 0 where
  pub first : IsForth t flows r.first p.first
  pub first_back : IsBack t flows r.first_back p.first_back
  pub second : IsForth t flows r.second p.second
  pub second_back : IsBack t flows r.second_back p.second_back
