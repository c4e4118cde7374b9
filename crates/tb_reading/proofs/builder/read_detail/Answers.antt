use Rattle.std.proofs.Common.{◌≡◌, ◌∙◌, ◌++◌, ◌∷◌, [], ◌+◌, Bool, true, MatchBool, List, ap, subst, sym, length, arith}
use Rattle.csv.specs.Records.{fields_of}
use Rattle.tb_records.specs.Records.{records_of}
use Rattle.tb_reading.specs.Reading.{numbered}
use Rattle.tb_reading.specs.Records.{Row}
use Rattle.tb_reading.proofs.Fed.{next_all, refused_all}
use Rattle.tb_reading.proofs.builder.read_detail.Goals as goal

found : (b : Bool) (old new : List Row) (row : Row) → b ≡ true → MatchBool b (old ≡ row ∷ new) (old ≡ []) → row ∷ new ≡ old
found b old new row e h = sym (subst (λ (x : Bool). MatchBool x (old ≡ row ∷ new) (old ≡ [])) e h)

pub loop-builder-preserved : goal.loop-builder-preserved
loop-builder-preserved c =
    let row : Row = fields_of c.next.new.row in
    let next : row ∷ c.next.new.self ≡ c.loop-builder.left = found c.in-Ok-true.field-0 c.loop-builder.left c.next.new.self row c.in-Ok-true.field-0-test c.in-Ok-true.ensures.taken in
    record {
      done = c.loop-builder.invariant.done ++ (c.loop-builder.number, row) ∷ [];
      stands = c.feed.ensures.stands c.loop-builder.invariant.done c.loop-builder.invariant.stands;
      all = next_all c.loop-builder.invariant.done c.loop-builder.number row c.next.new.self
          ∙ ap (λ (rows : List Row). c.loop-builder.invariant.done ++ numbered c.loop-builder.number rows) next
          ∙ c.loop-builder.invariant.all;
      few = (let e = ap length next in let f = c.loop-builder.invariant.few in omega arith);
    }

pub returns-in-Err-feed-clause-detail : goal.returns-in-Err-feed-clause-detail
returns-in-Err-feed-clause-detail c =
    let row : Row = fields_of c.next.new.row in
    let next : row ∷ c.next.new.self ≡ c.loop-builder.left = found c.in-Ok-true.field-0 c.loop-builder.left c.next.new.self row c.in-Ok-true.field-0-test c.in-Ok-true.ensures.taken in
    refused_all c.feed.new.self (c.loop-builder.invariant.done ++ (c.loop-builder.number, row) ∷ []) (numbered (c.loop-builder.number + 1) c.next.new.self) (numbered 1 (records_of c.args.bytes.now)) c.in-Err-feed.refusal
    (next_all c.loop-builder.invariant.done c.loop-builder.number row c.next.new.self
    ∙ ap (λ (rows : List Row). c.loop-builder.invariant.done ++ numbered c.loop-builder.number rows) next
    ∙ c.loop-builder.invariant.all)
    c.in-Err-feed.ensures.told (c.feed.ensures.stands c.loop-builder.invariant.done c.loop-builder.invariant.stands)
