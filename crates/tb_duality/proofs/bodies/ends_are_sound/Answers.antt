use mathlib.Core.Path.{refl}
use Rattle.tb_duality.proofs.BodyEnds.{ends_sound, upper_within, lower_within}
use Rattle.tb_duality.proofs.EndLaws.{upper_end_near, lower_end_below}
use Rattle.tb_geometry.specs.Grids.{mesh_on}
use Rattle.tb_duality.proofs.bodies.ends_are_sound.Goals as goal

pub returns-clause-sound : goal.returns-clause-sound
returns-clause-sound c = λ d g h inside T q limits. ends_sound d limits g h inside T q

pub returns-clause-upper : goal.returns-clause-upper
returns-clause-upper c = λ d g inside T. (upper_end_near (mesh_on d g) inside T).above

pub returns-clause-upper_near : goal.returns-clause-upper_near
returns-clause-upper_near c = λ d g inside T limits. upper_within d limits g inside T

pub returns-clause-lower : goal.returns-clause-lower
returns-clause-lower c = λ d g. lower_end_below (mesh_on d g)

pub returns-clause-lower_near : goal.returns-clause-lower_near
returns-clause-lower_near c = λ d g inside q limits. lower_within d limits g inside q

pub returns-clause-lists_are_whole : goal.returns-clause-lists_are_whole
returns-clause-lists_are_whole c = λ n values a i j k. (_, refl)
