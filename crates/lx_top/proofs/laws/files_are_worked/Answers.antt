use Rattle.std.proofs.Common.{List, [], ◌∷◌, ℕ, ap, ◌∙◌, codes}
use Rattle.lx_outside.specs.declared.calls.Pair.{Pair}
use Rattle.lx_outside.specs.Calls.{pair}
use Rattle.lx_export.proofs.Rows.{csv_rows, json_rows, ld_rows, listing_rows}
use Rattle.lx_export.specs.Json.{json_text}
use Rattle.lx_export.specs.Ld.{ld_text}
use Rattle.lx_top.specs.Files.{nowhere}
use Rattle.lx_top.proofs.laws.files_are_worked.Goals as goal

-- these three behind the circuit's text
abbrev files_of : (csv json ld : List ℕ) → List Pair
files_of csv json ld = pair (codes "top.v") (codes "text") ∷ pair (codes "csr.csv") csv ∷ pair (codes "csr.json") json ∷ pair (codes "regions.ld") ld ∷ []

abbrev object : List ℕ
object = codes "{\"constants\":{},\"csr_bases\":{},\"csr_registers\":{},\"memories\":{}}\n"

pub returns : goal.returns
returns c = record {
  files =
      ap (λ (t : List ℕ). files_of t (json_text [] nowhere []) (ld_text nowhere)) csv_rows.alone
      ∙ ap (λ (t : List ℕ). files_of [] t (ld_text nowhere)) json_rows.alone
      ∙ ap (files_of [] object) ld_rows.alone;
  listing = listing_rows.alone;
}
