use Rattle.std.proofs.Common.{sym, ◌∙◌}
use Rattle.std.proofs.lemmas.Bool.{false≢true}
use Rattle.tb_places.specs.declared.AxisName.TheVariants.{X, Y, Z}
use Rattle.tb_places.proofs.ByAxis.{on_each_axis}
use Rattle.tb_geometry.proofs.grids.carries_base.Goals.{then-carries_along, else-carries_along}
use Rattle.tb_geometry.proofs.grids.carries_base.Goals as goal

pub returns-then-carries_along-2-clause-carries : goal.returns-then-carries_along-2-clause-carries
returns-then-carries_along-2-clause-carries c =
    elim c.if-carries_along.branch [
      | then-carries_along w ↦ (
        λ z. on_each_axis _ (c.carries_along.ensures.carries.0 w.if-carries_along.true)
            (w.carries_along-then-carries_along.ensures.carries.0 (sym w.value-is ∙ c.if-carries_along-2.true))
            (c.carries_along-then-carries_along-2.ensures.carries.0 z),
        λ all. c.carries_along-then-carries_along-2.ensures.carries.1 (all Z),
      )
      | else-carries_along w ↦ absurd (false≢true (sym w.if-carries_along.false ∙ sym w.value-is ∙ c.if-carries_along-2.true))
    ]

pub returns-else-carries_along-2-clause-carries : goal.returns-else-carries_along-2-clause-carries
returns-else-carries_along-2-clause-carries c =
    elim c.if-carries_along.branch [
      | then-carries_along w ↦ (
        λ is. absurd (false≢true (sym c.if-carries_along-2.false ∙ is)),
        λ all. w.value-is ∙ w.carries_along-then-carries_along.ensures.carries.1 (all Y),
      )
      | else-carries_along w ↦ (
        λ is. absurd (false≢true (sym c.if-carries_along-2.false ∙ is)),
        λ all. w.value-is ∙ c.carries_along.ensures.carries.1 (all X),
      )
    ]
