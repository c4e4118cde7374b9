use Rattle.std.proofs.Common.{◌∙◌, ap, ℕ, List, arith, ◌<◌, length}
use Rattle.std.specs.Str.{bytes_eq}
use Rattle.tb_reading.specs.Names.{place_of}
use Rattle.tb_reading.proofs.NamePlaces.{position_map}
use Rattle.tb_reading.proofs.names.NameList.place.Goals as goal

pub returns-in-Some : goal.returns-in-Some
returns-in-Some c = c.in-Some.ensures.index ∙ position_map (bytes_eq c.args.name.now) (λ v. v.items) c.self.inside.set.keys ∙ ap (λ (names : List (List ℕ)). place_of names c.args.name.now) c.self.view_is

pub returns-in-None : goal.returns-in-None
returns-in-None c = c.in-None.ensures.index ∙ position_map (bytes_eq c.args.name.now) (λ v. v.items) c.self.inside.set.keys ∙ ap (λ (names : List (List ℕ)). place_of names c.args.name.now) c.self.view_is

pub overflow_cast-result : goal.overflow_cast-result
overflow_cast-result c =
    let few = c.self.invariant in
    let within : c.in-Some.place < length c.self.inside.set.keys = c.in-Some.ensures.within in
    omega arith
