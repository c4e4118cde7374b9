use Rattle.std.proofs.Common.{◌≡◌, ◌++◌, ◌∷◌, Bor, codes, drop, map}
use Rattle.tb_detail.specs.Names.{Text}
use Rattle.tb_bundle.specs.Bodies.{names_of_set}
use Rattle.tb_bundle.proofs.body.case_words.Given as goal

abbrev pub invariant-loop-environment : goal.invariant-loop-environment
invariant-loop-environment l =
    map (λ (w : Bor Text). w.now) l.words.items ++ names_of_set l.left (drop l.environment-index l.environment-items) ≡ codes "case" ∷ names_of_set l.mask l.environment-items
