use Rattle.std.proofs.Common.{◌≡◌, ◌∙◌, ◌<◌, ◌++◌, ℕ, zero, suc, List, refl, arith, append_assoc, codes}
use Rattle.std.specs.Prelude.{decimal}
use Rattle.tb_reading.specs.FaultTexts.{field_text, kind_text}
use Rattle.tb_reading.proofs.fault_text.put_field_fault.Goals as goal

counted : (n : ℕ) → 0 < n → field_text n ≡ codes " field " ++ decimal n
counted zero h = absurd (omega arith)
counted (suc n) h = refl

pieces : (a b c d e f g : List ℕ) → a ++ b ++ c ++ d ++ (e ++ f) ++ g ≡ a ++ (b ++ (c ++ (d ++ (e ++ (f ++ g)))))
pieces a b c d e f g = simp append_assoc refl

pub returns : goal.returns
returns g c =
    let number : c.as_bytes-number.result.now ≡ decimal c.args.fault.number = c.as_bytes-number.ensures.value ∙ c.format.ensures.text in
    let field : c.as_bytes-field.result.now ≡ decimal c.args.fault.field = c.as_bytes-field.ensures.value ∙ c.format-2.ensures.text in
    rw (counted c.args.fault.field c.requires) (rw (pieces (codes "refused,") (kind_text c.args.fault.kind) (codes ",record ") (decimal c.args.fault.number) (codes " field ") (decimal c.args.fault.field) (codes "\n")) (rw (number, field, c.name_of_kind.ensures) at c.put_pieces.ensures))
