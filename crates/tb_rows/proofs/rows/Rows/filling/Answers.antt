use Rattle.std.proofs.Common.{◌∙◌, sym}
use Rattle.tb_rows.proofs.Filled.{lies_same, some_injective}
use Rattle.tb_rows.proofs.rows.Rows.filling.Goals as goal

pub returns-in-Some-Some-Some-clause-fills : goal.returns-in-Some-Some-Some-clause-fills
returns-in-Some-Some-Some-clause-fills c i j k p ex ey ez carries cell lies =
    let f = c.args.self.now in let at = c.in-Some-Some-Some in
    c.filling.ensures f.grid.now p carries cell
    (lies_same f.body.now f.grid.now p i j k at.i at.j at.k (some_injective at.i i (sym at.is-0 ∙ ex)) (some_injective at.j j (sym at.is-1 ∙ ey))
    (some_injective at.k k (sym at.is-2 ∙ ez)) lies)
