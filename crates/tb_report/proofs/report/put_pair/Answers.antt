use Rattle.std.proofs.Common.{◌≡◌, ◌∙◌, ap, true, length, List, append-nil, arith}
use Rattle.std.proofs.lemmas.Bool.Decides.{nat_tests}
use Rattle.std.specs.Prelude.{codes, nat_lt}
use Rattle.tb_detail.specs.declared.Environment.{Environment}
use Rattle.tb_outside.proofs.Gathered.{gathers_both, gathers_same}
use Rattle.tb_checker.specs.Texts.{name_of}
use Rattle.tb_report.specs.Texts.{coefficient_word}
use Rattle.tb_report.specs.Values.{pair_interval}
use Rattle.tb_report.proofs.Gathering.{four_pieces}
use Rattle.tb_report.proofs.report.put_pair.Goals as goal

pub returns-then-i-j : goal.returns-then-i-j
returns-then-i-j g c =
    let earlier : nat_lt c.args.i c.args.j ≡ true = grind (arith, nat_tests) in
    let head = rw (c.coefficient_word.ensures, c.name_at.ensures, c.name_at-then-i-j.ensures) at (simp append-nil at c.put_pieces.ensures) in
    let value : c.pair_of-value.result ≡ pair_interval (length c.args.detail.now.environments) c.args.intervals.now c.args.i c.args.j
    = c.pair_of-value.ensures.value ∙ ap (λ (xs : List Environment). pair_interval (length xs) c.args.intervals.now c.args.i c.args.j) c.items.ensures in
    rw earlier (gathers_both (gathers_both (gathers_same (four_pieces (coefficient_word c.args.detail.now) (name_of c.args.detail.now c.args.i) (codes ",") (name_of c.args.detail.now c.args.j)) head) (rw value at c.put_ends.ensures)) c.put.ensures.gathers)
