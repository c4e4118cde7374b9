-- What putting rows of values does, and which cases have all their values.
use Rattle.std.specs.Prelude.{◌≡◌, ℕ, ℤ, List, drop, length, Option}
use Rattle.tb_places.specs.Places.{face_count, node_count}
use Rattle.tb_grid.specs.Grid.{counts_of}
use Rattle.tb_outside.specs.Buffers.{Gathers}
use Rattle.tb_records.specs.Plain.{records_text}
use Rattle.tb_case_records.specs.declared.case.CaseProof.{CaseProof}
use Rattle.tb_case_records.specs.Table.{Expected}
use Rattle.tb_bundle_text.specs.Canonical.{value_rows, values_in}

-- their text is put, and the values behind them are left: the sink and the buffer before and after, the rows, and the values before and behind them
pub record Puts {K : Type 0} (holds : K → Option (List ℕ)) (faults : K → ℕ) (old new : K) (before after : Option (List ℕ)) (rows : List Expected) (values left : List ℤ) : Type 0 where
  pub text : Gathers holds faults old new before (records_text (value_rows rows values)) after
  pub rest : left ≡ drop (values_in rows) values

-- a value for each node of the grid, and for each face
pub record HasAllValues (c : CaseProof) : Type 0 where
  pub field : length c.field ≡ node_count (counts_of c.grid)
  pub flux : length c.flux ≡ face_count (counts_of c.grid)
