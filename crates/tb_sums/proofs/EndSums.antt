-- The sums over layers are those of the two ends.
use Rattle.std.proofs.Common.{◌≡◌, ap, sym, ◌∙◌, ℕ, ◌*◌, ◌^◌, List, ℤ, pos, ◌-ℤ◌, ◌*ℤ◌}
use Rattle.tb_places.specs.declared.AxisName.TheVariants.{Z}
use Rattle.tb_detail.specs.declared.Detail.{Detail}
use Rattle.tb_grid.specs.Grid.{Axes, counts_of}
use Rattle.tb_math.specs.Ceiling.{floor}
use Rattle.tb_model.specs.Energy.{flux_terms, lower_end, rounded_up, source, upper_end}
use Rattle.tb_model.specs.Values.{case_of}
use Rattle.tb_field.specs.Fields.{field_on}
use Rattle.tb_flux.specs.Fluxes.{flux_on}
use Rattle.tb_geometry.specs.Grids.{mesh_on}
use Rattle.tb_rows.specs.Rows.{mesh_under}
use Rattle.tb_rows.specs.Sums.{layers_up}
use Rattle.tb_rows.proofs.Sums.{whole_is}
use Rattle.tb_sums.specs.declared.energy.BodyField.{BodyField}
use Rattle.tb_sums.specs.declared.flux.BodyFlux.{BodyFlux}
use Rattle.tb_sums.specs.BodyFields.{terms_under}
use Rattle.tb_sums.specs.BodyFluxes.{entering_under, flow_at, loss_under}
use Rattle.tb_sums.proofs.WholeTerms.{source_is}

pub upper_is : (f : BodyField) (d : Detail) (g : Axes) (values : List ℤ) → f.rows.body.now ≡ d → f.rows.grid.now ≡ g → f.temperatures.now ≡ values →
    layers_up (mesh_under f.rows) (terms_under f) (counts_of f.rows.grid.now Z) ≡ upper_end (mesh_on d g) (case_of f.case.mask) (field_on g values)
unfolding upper_end
upper_is f d g values ed eg ev =
    whole_is (mesh_under f.rows) (terms_under f)
    ∙ ap (λ (e : Detail). upper_end (mesh_on e f.rows.grid.now) (case_of f.case.mask) (field_on f.rows.grid.now f.temperatures.now)) ed
    ∙ ap (λ (h : Axes). upper_end (mesh_on d h) (case_of f.case.mask) (field_on h f.temperatures.now)) eg
    ∙ ap (λ (vs : List ℤ). upper_end (mesh_on d g) (case_of f.case.mask) (field_on g vs)) ev

-- of a flux of whole numbers, what enters
sources : (f : BodyFlux) → floor (source (mesh_under f.rows) (case_of f.case.mask) (flux_on f.rows.grid.now f.flows.now)) ≡ pos (2 * 10 ^ 6) *ℤ rounded_up (mesh_under f.rows) (entering_under f)
sources f = source_is (mesh_under f.rows) (case_of f.case.mask) (flow_at f)

less : (x y u v : ℤ) → x ≡ u → y ≡ v → x -ℤ y ≡ u -ℤ v
less x y u v e g = ap (λ (z : ℤ). z -ℤ y) e ∙ ap (λ (z : ℤ). u -ℤ z) g

lower_under : (f : BodyFlux) (entering : ℤ) (loss : ℕ) → entering ≡ rounded_up (mesh_under f.rows) (entering_under f) →
    pos loss ≡ rounded_up (mesh_under f.rows) (loss_under f) →
    pos (2 * 10 ^ 6) *ℤ entering -ℤ pos loss ≡ lower_end (mesh_under f.rows) (case_of f.case.mask) (flux_on f.rows.grid.now f.flows.now)
unfolding lower_end
lower_under f entering loss e l =
    less _ _ _ _ (ap (λ (z : ℤ). pos (2 * 10 ^ 6) *ℤ z) e ∙ sym (sources f)) l

pub lower_is : (f : BodyFlux) (d : Detail) (g : Axes) (values : List ℤ) (entering : ℤ) (loss : ℕ) → f.rows.body.now ≡ d → f.rows.grid.now ≡ g → f.flows.now ≡ values →
    entering ≡ rounded_up (mesh_under f.rows) (entering_under f) → pos loss ≡ rounded_up (mesh_under f.rows) (loss_under f) →
    pos (2 * 10 ^ 6) *ℤ entering -ℤ pos loss ≡ lower_end (mesh_on d g) (case_of f.case.mask) (flux_on g values)
lower_is f d g values entering loss ed eg ev e l =
    lower_under f entering loss e l
    ∙ ap (λ (b : Detail). lower_end (mesh_on b f.rows.grid.now) (case_of f.case.mask) (flux_on f.rows.grid.now f.flows.now)) ed
    ∙ ap (λ (h : Axes). lower_end (mesh_on d h) (case_of f.case.mask) (flux_on h f.flows.now)) eg
    ∙ ap (λ (vs : List ℤ). lower_end (mesh_on d g) (case_of f.case.mask) (flux_on g vs)) ev

pub loss_is : (f : BodyFlux) (d : Detail) (g : Axes) (values : List ℤ) → f.rows.body.now ≡ d → f.rows.grid.now ≡ g → f.flows.now ≡ values →
    rounded_up (mesh_under f.rows) (loss_under f) ≡ rounded_up (mesh_on d g) (flux_terms (mesh_on d g) (flux_on g values))
loss_is f d g values ed eg ev =
    ap (λ (b : Detail). rounded_up (mesh_on b f.rows.grid.now) (flux_terms (mesh_on b f.rows.grid.now) (flux_on f.rows.grid.now f.flows.now))) ed
    ∙ ap (λ (h : Axes). rounded_up (mesh_on d h) (flux_terms (mesh_on d h) (flux_on h f.flows.now))) eg
    ∙ ap (λ (vs : List ℤ). rounded_up (mesh_on d g) (flux_terms (mesh_on d g) (flux_on g vs))) ev
