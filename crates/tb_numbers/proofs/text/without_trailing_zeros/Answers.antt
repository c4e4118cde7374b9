use Rattle.std.proofs.Common.{rules, tests, ap, ◌≡◌, ◌-◌, ◌∙◌, length, take}
use Rattle.std.specs.Prelude.{◌==◌, reverse}
use Rattle.std.specs.List.{suffix_len}
use Rattle.std.proofs.lemmas.Iterator.Adapters.{YieldsList-from_rev_slice}
use Rattle.std.proofs.lemmas.Iterator.Consumers.{count_from_yields_List}
use Rattle.std.proofs.lemmas.Iterator.Search.{YieldsList-from_take_while}
use Rattle.std.proofs.lemmas.List.Folds.{length-prefix_len}
use Rattle.tb_numbers.proofs.text.without_trailing_zeros.Goals as goal

pub returns-clause-value : goal.returns-clause-value
returns-clause-value c =
    let zeros : c.count-zeros.result ≡ suffix_len (λ digit. digit == 48) c.args.digits.now =
    count_from_yields_List c.take_while.result c.count-zeros.result c.count-zeros.ensures.ran
    (YieldsList-from_take_while _ (λ digit. digit == 48) (YieldsList-from_rev_slice c.args.digits.now cc) c.take_while.ensures.closure c.take_while.ensures.done (λ x b q k. search (rules, tests)))
    ∙ length-prefix_len (λ digit. digit == 48) (reverse c.args.digits.now) in
    ap (λ n. take (length c.args.digits.now - n) c.args.digits.now) zeros
