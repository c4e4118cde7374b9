use Rattle.std.proofs.Common.{◌≡◌, Some, sym, subst, ◌∙◌}
use Rattle.tb_places.specs.Places.{Counts, IsCell}
use Rattle.tb_detail.specs.declared.Detail.{Detail}
use Rattle.tb_grid.specs.Views.{along_axes}
use Rattle.tb_geometry.specs.Base.{IsBaseCell}
use Rattle.tb_geometry.specs.Grids.{CarriesBody, LiesInBaseCell, occupant_at}
use Rattle.tb_geometry.proofs.Finer.{base_entered, occupant_read}
use Rattle.tb_geometry.proofs.Tables.{base_counts_of}
use Rattle.tb_geometry.proofs.body.Body.filling.Goals as goal

pub cell_number-number-requires : goal.cell_number-number-requires
cell_number-number-requires c =
    let boxes = c.self.inside.detail.value.boxes in
    let here = c.counts.ensures in
    let counts = base_counts_of c.self.inside.base boxes c.counts.result.x c.counts.result.y c.counts.result.z c.self.invariant.lines here.on_x here.on_y here.on_z in
    subst (λ (n : Counts). IsCell n c.args.base_cell) (sym counts)
    (subst (λ (e : Detail). IsBaseCell e.boxes c.args.base_cell) (sym c.self.view_is) c.requires)

pub filling-requires : goal.filling-requires
filling-requires c =
    let d = c.self.inside.detail.value in
    let here = c.counts.ensures in
    let counts = base_counts_of c.self.inside.base d.boxes c.counts.result.x c.counts.result.y c.counts.result.z c.self.invariant.lines here.on_x here.on_y here.on_z in
    let found = base_entered d c.self.inside.base c.self.inside.holders.items c.self.inside.occupants.items c.self.inside.environments
    c.self.invariant c.args.base_cell (subst (λ (e : Detail). IsBaseCell e.boxes c.args.base_cell) (sym c.self.view_is) c.requires)
    (along_axes c.counts.result) counts c.cell_number-number.result.0 c.cell_number-number.ensures.number in
    record {
      cell = rw c.as_slice.ensures.value found.in_table;
      holder = rw (c.as_slice.ensures.value, c.as_slice-2.ensures.value) found.within;
    }

pub returns : goal.returns
returns c g p carries cell lies =
    let d = c.self.inside.detail.value in
    let here = c.counts.ensures in
    let counts = base_counts_of c.self.inside.base d.boxes c.counts.result.x c.counts.result.y c.counts.result.z c.self.invariant.lines here.on_x here.on_y here.on_z in
    let read = occupant_read d c.self.inside.base c.self.inside.holders.items c.self.inside.occupants.items c.self.inside.environments
    c.self.invariant c.args.base_cell (subst (λ (e : Detail). IsBaseCell e.boxes c.args.base_cell) (sym c.self.view_is) c.requires)
    (along_axes c.counts.result) counts c.cell_number-number.result.0 c.cell_number-number.ensures.number
    g (subst (λ (e : Detail). CarriesBody g e) (sym c.self.view_is) carries) p cell
    (subst (λ (e : Detail). LiesInBaseCell e.boxes g p c.args.base_cell) (sym c.self.view_is) lies) in
    subst (λ (e : Detail). Some c.filling.result ≡ occupant_at e g p) c.self.view_is
    (sym c.filling.ensures ∙ rw (c.as_slice.ensures.value, c.as_slice-2.ensures.value) read)
