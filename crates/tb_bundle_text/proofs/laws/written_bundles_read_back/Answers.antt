use Rattle.tb_bundle_text.proofs.WholeBack.{rows_back, rows_plain, text_back, text_rows}
use Rattle.tb_bundle_text.proofs.laws.written_bundles_read_back.Goals as goal

pub returns : goal.returns
returns c = record { plain = rows_plain; text = text_rows; records = rows_back; whole = text_back }
