use mathlib.Core.Path.{◌∙◌}
use Rattle.tb_terms.proofs.functional.cut_terms_add_up.Goals as goal

pub returns : goal.returns
returns g c x cut s ratio = g.met.F.Functional.parts_add_up cut s (g.F.Functional.quantities x) ratio ∙ g.met.F.Functional.valued x
