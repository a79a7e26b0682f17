use Rattle.lx_export.proofs.Rows.{csv_rows, json_rows, ld_rows, listing_rows}
use Rattle.lx_export.proofs.worked.files_are_worked.Goals as goal

pub returns-clause-csv : goal.returns-clause-csv
returns-clause-csv c = csv_rows

pub returns-clause-json : goal.returns-clause-json
returns-clause-json c = json_rows

pub returns-clause-ld : goal.returns-clause-ld
returns-clause-ld c = ld_rows

pub returns-clause-listing : goal.returns-clause-listing
returns-clause-listing c = listing_rows
