use Rattle.std.proofs.Common.{◌∙◌, ◌++◌, ◌∷◌, [], ap, ℕ, List, map, length, ◌<◌, arith}
use Rattle.std.proofs.lemmas.List.{length-map}
use Rattle.std.specs.Str.{bytes_eq}
use Rattle.tb_reading.specs.Names.{place_of}
use Rattle.tb_reading.proofs.NamePlaces.{added, few_after}
use Rattle.tb_reading.proofs.names.NameList.add.Goals as goal

pub returns-clause-added : goal.returns-clause-added
returns-clause-added c =
    ap (map (λ v. v.items)) c.in-Ok-insert.ensures.keys
    ∙ added (λ v. v.items) c.self.inside.set.keys c.in-Ok.copy c.args.name.now (c.in-Ok.ensures.items_if_clones_equal (λ x y e. e)) (ap (λ (names : List (List ℕ)). place_of names c.args.name.now) c.self.view_is ∙ c.requires.new)
    ∙ ap (λ (names : List (List ℕ)). names ++ c.args.name.now ∷ []) c.self.view_is

pub invariant_of-self : goal.invariant_of-self
invariant_of-self c =
    let room : length c.self.inside.set.keys < 256 = (let e = length-map c.self.inside.set.keys (λ v. v.items) in let f = ap length c.self.view_is in let r = c.requires.room in omega arith) in
    few_after (λ x y. bytes_eq x.items y.items) c.insert.result c.self.inside.set.keys c.insert.new.self.keys c.in-Ok.copy c.insert.ensures.keys c.insert.ensures.err room
