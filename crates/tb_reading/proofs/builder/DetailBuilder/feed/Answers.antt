use Rattle.std.proofs.Common.{◌∙◌, ◌++◌, ◌∷◌, [], List, ap, sym, subst, not}
use Rattle.csv.specs.Records.{fields_of}
use Rattle.tb_reading.specs.declared.builder.DetailBuilder.TheInside.{Inside}
use Rattle.tb_reading.specs.Builders.{StandsAs}
use Rattle.tb_reading.specs.Reading.{Numbered}
use Rattle.tb_reading.proofs.Fed.{answer_is, fed_same, is_none_at, none_stands, parts_stand}
use Rattle.tb_reading.proofs.builder.DetailBuilder.feed.Goals as goal
use Rattle.tb_reading.proofs.builder.DetailBuilder.feed.Goals.{then-is_none, else-is_none}

pub returns-clause-stands : goal.returns-clause-stands
returns-clause-stands c = λ given s.
    let more : List Numbered = (c.args.number, fields_of c.args.fields.now) ∷ [] in
    let old : StandsAs c.self.inside.refusal c.self.inside.draft given = parts_stand c.args.self.now c.self.inside.draft c.self.inside.refusal given c.self.view_is s in
    elim c.if-is_none.branch [
      | then-is_none w ↦
          subst (λ (x : Inside). StandsAs x.refusal x.draft (given ++ more)) (sym w.self-inside-is)
          (w.take-self-inside.ensures given (none_stands c.self.inside.refusal c.self.inside.draft given (is_none_at c.self.inside.refusal c.is_none.result c.is_none.ensures w.if-is_none.true) old))
      | else-is_none w ↦
          subst (λ (x : Inside). StandsAs x.refusal x.draft (given ++ more)) (sym w.self-inside-is)
          (fed_same c.self.inside.refusal c.self.inside.draft given more (c.is_none.ensures ∙ ap not w.if-is_none.false) old)
    ]

pub returns-clause-answer : goal.returns-clause-answer
returns-clause-answer c = λ given s.
    answer_is c.if-is_none.self-inside.refusal c.if-is_none.self-inside.draft (given ++ (c.args.number, fields_of c.args.fields.now) ∷ []) c.told.result c.told.ensures (returns-clause-stands c given s)
