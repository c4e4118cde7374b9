use Rattle.std.proofs.Common.{map, string_bytes, Global}
use Rattle.clap.specs.Words.{app_of, found_of, rows_of}
use Rattle.tb_options.proofs.Readings.{no_storeys}
use Rattle.tb_options.proofs.words.read_storeys.Goals as goal

pub returns-clause-no_reading : goal.returns-clause-no_reading
returns-clause-no_reading c =
    λ e. no_storeys (app_of c.in_ok-demo_command.field-0) (map (string_bytes {Z = Global}) c.args.words.now)
    (rows_of (found_of c.in_ok-matches.matches)) c.in-Err.field-0 c.in_ok-demo_command.ensures c.in_ok-matches.ensures.rows c.in-Err.ensures.value
