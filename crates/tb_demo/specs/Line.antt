-- How the demo is solved, and what it writes.
use Rattle.std.specs.Prelude.{ℕ, ◌*◌, ◌++◌, ℤ, List, codes, decimal}
use Rattle.tb_grid.specs.declared.levels.Grading.{Grading}
use Rattle.tb_numbers.specs.Texts.{fixed_text}

-- each interval of the base grid is cut twice towards its ends, and never halved
abbrev pub demo_grading : Grading
demo_grading = record { grade = 2; halve = 0; dimension = 2 }

-- how wide the interval of its case may be, in µW/K
abbrev pub demo_width : ℕ → ℕ
demo_width storeys = 100000 * storeys

-- how many plain passes its case may take
abbrev pub demo_sweeps : ℕ
demo_sweeps = 50

-- the storeys, the cells of the level grid, the two ends in fW/K and the word of the verdict, and then the end
abbrev pub demo_text : (storeys cells : ℕ) (lo hi : ℤ) (verdict : List ℕ) → List ℕ
demo_text storeys cells lo hi verdict =
    codes "demo," ++ decimal storeys ++ codes "," ++ decimal cells ++ codes "," ++ fixed_text 0 lo ++ codes "," ++ fixed_text 0 hi
    ++ codes "," ++ verdict ++ codes "\nend\n"
