-- Cells of which none is solid add nothing.
use Rattle.std.proofs.Common.{◌≡◌, ◌≢◌, refl, sym, ◌∙◌, ℕ, ◌+◌, ◌-◌, ◌<◌, List, Option, Some, None, ℤ, pos, arith}
use Rattle.std.specs.Option.{option_map}
use Rattle.tb_math.proofs.SumInstances.{adds_ℤ}
use Rattle.tb_math.proofs.SumLaws.{sum-cong, sum-none}
use Rattle.tb_detail.specs.declared.Content.{Content}
use Rattle.tb_detail.specs.declared.Content.TheVariants as content
use Rattle.tb_detail.specs.declared.Material.{Material}
use Rattle.tb_model.specs.Energy.{Terms, of_solid}
use Rattle.tb_geometry.specs.Bodies.{filled_with}
use Rattle.tb_geometry.specs.declared.occupant.Occupant.TheVariants.{Solid}
use Rattle.tb_rows.specs.declared.rows.Rows.{Rows}
use Rattle.tb_rows.specs.Rows.{HasNoSolid, mesh_under}
use Rattle.tb_rows.specs.Sums.{cell_up, cells_from}

empty_is : (materials : List Material) (o : Option Content) (h : ℕ → ℤ) → ((lambda : ℕ) → Some (Solid lambda) ≢ option_map (filled_with materials) o) →
    of_solid (pos 0) h o ≡ pos 0
empty_is materials (Some (content.Solid n)) h none = absurd (none _ refl)
empty_is materials (Some (content.Air e rs)) h none = refl
empty_is materials None h none = refl

empty_from : (f : Rows) (t : Terms) (j k from n : ℕ) → HasNoSolid f j k from (from + n) → cells_from (mesh_under f) t j k from n ≡ pos 0
unfolding cells_from cell_up
empty_from f t j k from n none =
    sum-cong adds_ℤ n (λ c. cell_up (mesh_under f) t (from + c) j k) (λ c. pos 0)
    (λ c below. empty_is f.body.now.materials ((mesh_under f).occupant (from + c) j k) _ (none.each (from + c) (omega arith) (omega arith))) ∙ sum-none adds_ℤ n

pub empty_run : (f : Rows) (t : Terms) (j k from to : ℕ) → from < to → HasNoSolid f j k from to → pos 0 ≡ cells_from (mesh_under f) t j k from (to - from)
empty_run f t j k from to up none = sym (empty_from f t j k from (to - from) (record { each = λ i low high. none.each i low (omega arith) }))
